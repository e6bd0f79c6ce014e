use Rattle.std.proofs.Common.{ap, sym}
use Rattle.av_page.proofs.Putting.{Puts-more, Puts-is}
use Rattle.av_commands.specs.Refusals.{data_reason}
use Rattle.av_commands.proofs.refusals.put_data_reason.Goals as goal

pub returns-in-DataMissing : goal.returns-in-DataMissing
returns-in-DataMissing g c = Puts-is (Puts-more (Puts-more c.put_name.ensures c.put.ensures) c.write_point.ensures) (ap data_reason (sym c.in-DataMissing.is))

pub returns-in-DataSyntax : goal.returns-in-DataSyntax
returns-in-DataSyntax g c = Puts-is c.put_number.ensures (ap data_reason (sym c.in-DataSyntax.is))

pub returns-in-DataUnknown : goal.returns-in-DataUnknown
returns-in-DataUnknown g c = Puts-is c.put_number-in-DataUnknown.ensures (ap data_reason (sym c.in-DataUnknown.is))

pub returns-in-DataOutside : goal.returns-in-DataOutside
returns-in-DataOutside g c = Puts-is c.put_number-in-DataOutside.ensures (ap data_reason (sym c.in-DataOutside.is))

pub returns-in-DataTwice : goal.returns-in-DataTwice
returns-in-DataTwice g c = Puts-is c.put_number-in-DataTwice.ensures (ap data_reason (sym c.in-DataTwice.is))

pub returns-in-Memory : goal.returns-in-Memory
returns-in-Memory g c = Puts-is c.put-in-Memory.ensures (ap data_reason (sym c.in-Memory.is))
