-- What the program's own parts of a text say.
use Rattle.av_parse.specs.declared.program.SystemHeader.{SystemHeader as Found}
use Rattle.av_parse.specs.inner.ProgramReader.{SystemHeader}

abbrev pub view_header : Found → SystemHeader
view_header h = record { name = h.name; sizes = h.sizes; inputs = h.inputs; outputs = h.outputs }
