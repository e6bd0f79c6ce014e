use Rattle.av_vread.proofs.SpelledParts.{parts_spelled}
use Rattle.av_vread.proofs.SoundOrFault.{sound_or_fault, no_fault}
use Rattle.av_vread.proofs.laws.sound_or_fault.Goals as goal

pub returns-clause-either : goal.returns-clause-either
returns-clause-either c = sound_or_fault

pub returns-clause-spelled : goal.returns-clause-spelled
returns-clause-spelled c = parts_spelled

pub returns-clause-not_both : goal.returns-clause-not_both
returns-clause-not_both c = no_fault
