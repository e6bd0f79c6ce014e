-- The tables of reserved words and symbols, and the tests by which they are found.
use Rattle.std.proofs.Common.{◌≡◌, ℕ, Bool, true, false, cond, not, ◌&&◌, ◌||◌, List, [], ◌∷◌, refl}
use Rattle.std.specs.Prelude.{codes, nat_eq, Contains}
use Rattle.std.specs.List.{list_any}
use Rattle.std.specs.Char.{is_ascii_alphabetic, is_ascii_digit}
use Rattle.std.specs.Str.{bytes_eq}
use Rattle.std.proofs.lemmas.Bool.{eqb-true}
use Rattle.av_base.specs.Tokens.{reserved_words, symbols, IsWord}
use Rattle.av_lex.specs.inner.Scan.{is_single, is_pair}
use Rattle.av_base.proofs.Tables.{is_there, words_are, IsShort, short_is, single_there}

-- ---- words

pub reserved_word : (text : List ℕ) → Contains reserved_words text → IsWord text
reserved_word text c = words_are is_ascii_alphabetic reserved_words refl IsWord (λ b bytes h all. (h, all)) text c

-- ---- symbols

-- a byte that begins a symbol begins no other token
abbrev pub is_other : ℕ → Bool
is_other b = not (is_ascii_alphabetic b) && not (is_ascii_digit b)

-- a symbol has one byte or two
abbrev pub IsSymbol : List ℕ → Type 0
IsSymbol text = IsShort is_other is_single is_pair text

pub symbol_is : (text : List ℕ) → Contains symbols text → IsSymbol text
symbol_is text s = short_is is_other is_single is_pair symbols refl text s

pub single_symbol : (b : ℕ) → is_single b ≡ true → Contains symbols (b ∷ [])
single_symbol b h = single_there (codes "(){}[]|:;,.=<>+-*") symbols refl b h

pub pair_symbol : (b c : ℕ) → is_pair b c ≡ true → Contains symbols (b ∷ c ∷ [])
pair_symbol b c h = go (nat_eq b 60) refl (nat_eq b 62) refl (nat_eq b 45) refl h
  where
    ends : (x y : ℕ) → nat_eq b x ≡ true → nat_eq c y ≡ true → list_any (bytes_eq (x ∷ y ∷ [])) symbols ≡ true → Contains symbols (b ∷ c ∷ [])
    ends x y e f k =
        let eb : b ≡ x = eqb-true b x e in
        let ec : c ≡ y = eqb-true c y f in
        rw (eb, ec) (is_there (x ∷ y ∷ []) symbols k)

    less : (t u : Bool) → nat_eq b 60 ≡ true → nat_eq c 61 ≡ t → nat_eq c 62 ≡ u → (t || u) ≡ true → Contains symbols (b ∷ c ∷ [])
    less true u e f g k = ends 60 61 e f refl
    less false true e f g k = ends 60 62 e g refl
    less false false e f g k = absurd cc

    go : (t : Bool) → nat_eq b 60 ≡ t → (u : Bool) → nat_eq b 62 ≡ u → (v : Bool) → nat_eq b 45 ≡ v
        → cond t (nat_eq c 61 || nat_eq c 62) (cond u (nat_eq c 61) (cond v (nat_eq c 62) false)) ≡ true → Contains symbols (b ∷ c ∷ [])
    go true e u f v g k = less (nat_eq c 61) (nat_eq c 62) e refl refl k
    go false e true f v g k = ends 62 61 f k refl
    go false e false f true g k = ends 45 62 g k refl
    go false e false f false g k = absurd cc
