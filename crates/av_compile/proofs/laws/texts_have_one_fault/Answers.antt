use Rattle.av_compile.proofs.OneRefusal.{one_refusal}
use Rattle.av_compile.proofs.OneUnscheduled.{one_unscheduled}
use Rattle.av_compile.proofs.OneUnmapped.{one_unmapped}
use Rattle.av_compile.proofs.laws.texts_have_one_fault.Goals as goal

pub returns-clause-checked : goal.returns-clause-checked
returns-clause-checked c = one_refusal

pub returns-clause-scheduled : goal.returns-clause-scheduled
returns-clause-scheduled c = one_unscheduled

pub returns-clause-mapped : goal.returns-clause-mapped
returns-clause-mapped c = one_unmapped
