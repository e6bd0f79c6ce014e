use Rattle.std.proofs.Common.{sym, ap}
use Rattle.av_page.proofs.Putting.{Puts-is}
use Rattle.av_commands.specs.Refusals.{verilog_reason}
use Rattle.av_commands.proofs.refusals.put_verilog_reason.Goals as goal

pub returns-in-VByte : goal.returns-in-VByte
returns-in-VByte g c = Puts-is c.put_place.ensures (ap verilog_reason (sym c.in-VByte.is))

pub returns-in-VSyntax : goal.returns-in-VSyntax
returns-in-VSyntax g c = Puts-is c.put_place-in-VSyntax.ensures (ap verilog_reason (sym c.in-VSyntax.is))

pub returns-in-VListing : goal.returns-in-VListing
returns-in-VListing g c = Puts-is c.put_number.ensures (ap verilog_reason (sym c.in-VListing.is))

pub returns-in-VTwice : goal.returns-in-VTwice
returns-in-VTwice g c = Puts-is c.put_name.ensures (ap verilog_reason (sym c.in-VTwice.is))

pub returns-in-VName : goal.returns-in-VName
returns-in-VName g c = Puts-is c.put_name-in-VName.ensures (ap verilog_reason (sym c.in-VName.is))

pub returns-in-VUnassigned : goal.returns-in-VUnassigned
returns-in-VUnassigned g c = Puts-is c.put_name-in-VUnassigned.ensures (ap verilog_reason (sym c.in-VUnassigned.is))

pub returns-in-VOrder : goal.returns-in-VOrder
returns-in-VOrder g c = Puts-is c.put_name-in-VOrder.ensures (ap verilog_reason (sym c.in-VOrder.is))

pub returns-in-VWidth : goal.returns-in-VWidth
returns-in-VWidth g c = Puts-is c.put_name-in-VWidth.ensures (ap verilog_reason (sym c.in-VWidth.is))

pub returns-in-Memory : goal.returns-in-Memory
returns-in-Memory g c = Puts-is c.put.ensures (ap verilog_reason (sym c.in-Memory.is))
