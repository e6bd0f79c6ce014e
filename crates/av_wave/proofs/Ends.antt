-- A text from a place to its end.
use Rattle.std.proofs.Common.{◌≡◌, ◌-◌, ℕ, List, length, take, drop, length-drop, arith}
use Rattle.std.proofs.lemmas.List.{take_all}

pub to_end : (text : List ℕ) (at : ℕ) → take (length text - at) (drop at text) ≡ drop at text
to_end text at = take_all (length text - at) (drop at text) (omega (arith, length-drop at text))
