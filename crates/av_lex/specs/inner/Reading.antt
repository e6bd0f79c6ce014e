-- Reading a program text piece by piece, from a place on.
use Rattle.std.specs.Prelude.{ℕ, List}
use Rattle.av_base.specs.declared.place.Place.{Place}
use Rattle.av_base.specs.declared.token_kind.TokenKind.{TokenKind}
use Rattle.av_base.specs.Tokens.{program_texts}
use Rattle.av_base.specs.Reading as reading
use Rattle.av_lex.specs.declared.fault.LexFault.{LexFault}
use Rattle.av_lex.specs.declared.fault.LexFault.TheVariants.{BadByte, Number}
use Rattle.av_lex.specs.inner.Scan.{token_of, is_in_range}

-- the tokens of a text, or its first fault
abbrev pub Reading : Type 0
Reading = reading.Reading TokenKind LexFault

-- how they are found
abbrev pub scanner : reading.Scanner TokenKind LexFault
scanner = record { token_of = token_of; in_range = is_in_range; bad = BadByte; great = Number }

-- what at most n pieces give; as many as there are bytes are enough
abbrev pub read_of : ℕ → Place → List ℕ → Reading
read_of = reading.read_of program_texts scanner
