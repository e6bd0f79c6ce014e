-- Systems that a text spells, and the values that their sizes may be given.
use Rattle.std.specs.Prelude.{ℕ, ◌<◌, ◌≤◌, List, length, All, unsigned_abs}
use Rattle.av_tree.specs.Trees.{System}
use Rattle.av_tree.specs.Grammar.{IsProgramText}
use Rattle.av_names.specs.declared.size.Size.{Size}

-- the system of a program text, whose bytes have places of 32 bits
pub record IsOfText (s : System) : Type 0 where
  pub bytes : List ℕ
  pub short : length bytes < 4294967295
  pub text : IsProgramText bytes s

-- values that a size may be given
abbrev pub AreSmall : List Size → Type 0
AreSmall words = All (λ w. unsigned_abs w.value ≤ 1048576) words
