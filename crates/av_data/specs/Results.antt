-- The line of a result: a point of an output with its word, as `Y (1) = 255` (the form is this project's).
use Rattle.std.specs.Prelude.{ℕ, ℤ, List, ◌++◌, codes, decimal}
use Rattle.av_net.specs.Texts.{point_text}

abbrev pub result_line : List ℕ → List ℤ → ℕ → List ℕ
result_line name point word = name ++ codes " " ++ point_text point ++ codes " = " ++ decimal word ++ codes "\n"
