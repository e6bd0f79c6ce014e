-- Reading a text from its bytes.
use Rattle.std.specs.Prelude.{◌≡◌, ℕ, List, length, Result, Ok, Err}
use Rattle.av_base.specs.declared.place.Place.{Place}
use Rattle.av_base.specs.Tokens.{start}
use Rattle.av_net.specs.Grammar.{Text}
use Rattle.av_net.specs.Designs.{first_line}
use Rattle.av_vparse.specs.declared.fault.TextFault.{TextFault}
use Rattle.av_vparse.specs.declared.fault.TextFault.TheVariants.{Byte, Syntax, Memory}
use Rattle.av_vparse.specs.declared.fault.ReadError.{ReadError}
use Rattle.av_vparse.specs.declared.fault.ReadError.TheVariants as error
use Rattle.av_vparse.specs.declared.parsed.Parsed.{Parsed}
use Rattle.av_vparse.specs.Said.{said}
use Rattle.av_vparse.specs.inner.Lexing.{Lexed, lexed_of}
use Rattle.av_vparse.specs.inner.Reading.{text_at}

-- what a text says and the line of its first token, or its fault
abbrev pub Wanted : Type 0
Wanted = Result (Text × ℕ) TextFault

abbrev pub by_text : ℕ → Result Text Place → Wanted
by_text line (Ok x) = Ok (x, line)
by_text line (Err p) = Err (Syntax p)

abbrev pub by_tokens : Lexed → Wanted
by_tokens (Ok tokens) = by_text (first_line tokens) (text_at tokens)
by_tokens (Err p) = Err (Byte p)

abbrev pub read_of : List ℕ → Wanted
read_of bytes = by_tokens (lexed_of (length bytes) start bytes)

-- the answer is this fault, unless memory ran out
abbrev pub FaultIs : TextFault → Wanted → Type 0
FaultIs Memory wanted = Unit {0}
FaultIs fault wanted = wanted ≡ Err fault

-- the answer is this one, unless memory ran out
abbrev pub Answers : Result Parsed TextFault → Wanted → Type 0
Answers (Ok parsed) wanted = wanted ≡ Ok (said parsed.text, parsed.line)
Answers (Err fault) wanted = FaultIs fault wanted

-- the fault that a reader's error stands for
abbrev pub fault_for : ReadError → TextFault
fault_for (error.Syntax p) = Syntax p
fault_for error.Memory = Memory
