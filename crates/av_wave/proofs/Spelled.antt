-- The bytes of a name are ASCII.
use Rattle.std.proofs.Common.{ℕ, ◌<◌, List, [], ◌∷◌, arith}
use Rattle.std.specs.Prelude.{IsTrue}
use Rattle.std.specs.Str.{IsAscii}
use Rattle.std.proofs.lemmas.List.Elements.{All-weaker, All-cons}
use Rattle.std.proofs.lemmas.Str.Ascii.{IsAscii-from_all}
use Rattle.av_base.specs.Tokens.{is_word_byte}
use Rattle.av_base.proofs.LowBytes.{word_byte_below}
use Rattle.av_net.specs.Lexemes.{begins_name, IsIdentifier, IsName}

first_below : (b : ℕ) → IsTrue (begins_name b) → b < 128
first_below b e = grind arith

identifier_ascii : (text : List ℕ) → IsIdentifier text → IsAscii text
identifier_ascii [] w = absurd w
identifier_ascii (b ∷ bytes) w =
    IsAscii-from_all (b ∷ bytes) (All-cons (λ x. x < 128) b bytes (first_below b w.0) (All-weaker (λ x. IsTrue (is_word_byte x)) (λ x. x < 128) word_byte_below bytes w.1))

pub name_ascii : (text : List ℕ) → IsName text → IsAscii text
name_ascii text named = identifier_ascii text named.0
