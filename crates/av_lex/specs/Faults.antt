-- The first fault of a program text.
use Rattle.std.specs.Prelude.{ℕ, List}
use Rattle.av_base.specs.declared.place.Place.{Place}
use Rattle.av_base.specs.Lexicon as lexing
use Rattle.av_base.specs.Tokens.{program_texts}
use Rattle.av_lex.specs.declared.fault.LexFault.{LexFault}
use Rattle.av_lex.specs.declared.fault.LexFault.TheVariants.{BadByte, Number}

-- `IsFault p bytes fault`: of the bytes, which stand from the place p on, the first that are neither blank, comment nor token
-- begin no token, or they are a number that is too great
abbrev pub IsFault : Place → List ℕ → LexFault → Type 0
IsFault = lexing.IsFault program_texts BadByte Number
