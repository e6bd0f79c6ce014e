use Rattle.av_serial.proofs.KeptPairs.{same_computations, same_pairs, same_sites}
use Rattle.av_serial.proofs.laws.serial_forms_keep_dependences.Goals as goal

pub returns-clause-computations : goal.returns-clause-computations
returns-clause-computations c = same_computations

pub returns-clause-pairs : goal.returns-clause-pairs
returns-clause-pairs c = same_pairs

pub returns-clause-references : goal.returns-clause-references
returns-clause-references c = same_sites
