-- The lines of refusals, and why a design text and a stimulus are refused.
use Rattle.std.specs.Prelude.{ℕ, List, [], ◌++◌, codes, decimal}
use Rattle.av_base.specs.declared.place.Place.{Place}
use Rattle.av_vread.specs.declared.fault.VFault.{VFault}
use Rattle.av_vread.specs.declared.fault.VFault.TheVariants.{VByte, VSyntax, VListing, VTwice, VName, VUnassigned, VOrder, VWidth, Memory}
use Rattle.av_data.specs.declared.fault.DataFault.{DataFault}
use Rattle.av_data.specs.declared.fault.DataFault.TheVariants as data_fault
use Rattle.av_net.specs.Texts.{point_text}

abbrev pub refusal_line : List ℕ → List ℕ
refusal_line reason = codes "refused: " ++ reason ++ codes "\n"

-- as `3:14`
abbrev pub place_text : Place → List ℕ
place_text p = decimal p.line ++ codes ":" ++ decimal p.column

-- why a design text is refused; out of memory has no line
abbrev pub verilog_reason : VFault → List ℕ
verilog_reason (VByte p) = codes "verilog bad byte " ++ place_text p
verilog_reason (VSyntax p) = codes "verilog syntax " ++ place_text p
verilog_reason (VListing number) = codes "verilog listing " ++ decimal number
verilog_reason (VTwice name) = codes "verilog twice " ++ name
verilog_reason (VName name) = codes "verilog unknown " ++ name
verilog_reason (VUnassigned name) = codes "verilog unassigned " ++ name
verilog_reason (VOrder name) = codes "verilog order " ++ name
verilog_reason (VWidth name) = codes "verilog width " ++ name
verilog_reason Memory = []

-- why lines of data are refused
abbrev pub data_reason : DataFault → List ℕ
data_reason (data_fault.DataSyntax number) = codes "data syntax " ++ decimal number
data_reason (data_fault.DataUnknown number) = codes "data unknown " ++ decimal number
data_reason (data_fault.DataOutside number) = codes "data outside " ++ decimal number
data_reason (data_fault.DataTwice number) = codes "data twice " ++ decimal number
data_reason (data_fault.DataMissing name point) = codes "data missing " ++ name ++ codes " " ++ point_text point
data_reason data_fault.Memory = []
