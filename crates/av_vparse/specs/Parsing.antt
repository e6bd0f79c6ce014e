-- The first fault of bytes that say no text.
use Rattle.std.specs.Prelude.{ℕ, List}
use Rattle.av_base.specs.Tokens.{start}
use Rattle.av_net.specs.Lexemes.{HasBadByte}
use Rattle.av_vparse.specs.Beginnings.{BreaksOff}
use Rattle.av_vparse.specs.declared.fault.TextFault.{TextFault}
use Rattle.av_vparse.specs.declared.fault.TextFault.TheVariants.{Byte, Syntax, Memory}

-- this is the first fault of the bytes
abbrev pub IsFault : List ℕ → TextFault → Type 0
IsFault bytes (Byte place) = HasBadByte start bytes place
IsFault bytes (Syntax place) = BreaksOff bytes place
IsFault bytes Memory = ⊥
