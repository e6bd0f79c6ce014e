use Rattle.av_serial.proofs.Unique.{unique}
use Rattle.av_serial.proofs.laws.serial_forms_are_unique.Goals as goal

pub returns : goal.returns
returns c = unique
