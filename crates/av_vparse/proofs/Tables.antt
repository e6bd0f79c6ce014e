-- The tables of reserved words and symbols, and the tests by which they are found.
use Rattle.std.proofs.Common.{◌≡◌, ℕ, Bool, true, false, not, ◌&&◌, List, [], ◌∷◌, refl}
use Rattle.std.specs.Prelude.{codes, nat_eq, Contains}
use Rattle.std.specs.List.{list_any}
use Rattle.std.specs.Char.{is_ascii_digit}
use Rattle.std.specs.Str.{bytes_eq}
use Rattle.std.proofs.lemmas.Bool.{eqb-true}
use Rattle.std.proofs.lemmas.List.Elements.{All-contains}
use Rattle.std.proofs.lemmas.List.Sums.{AllPass-from_list_all}
use Rattle.std.proofs.lemmas.Map.Views.{Contains-from_any}
use Rattle.av_net.specs.Lexemes.{reserved_words, symbols, begins_name, IsIdentifier}
use Rattle.av_vparse.specs.inner.Scan.{is_single, is_pair}
use Rattle.av_base.proofs.Tables.{is_there, words_are, IsShort, short_is, single_there}
use Rattle.av_base.proofs.Truths.{both}

pub and_false : (a b : Bool) → b ≡ false → (a && b) ≡ false
and_false true b e = e
and_false false b e = refl

-- ---- words

pub reserved_word : (text : List ℕ) → Contains reserved_words text → IsIdentifier text
reserved_word text c = words_are begins_name reserved_words refl IsIdentifier (λ b bytes h all. (h, all)) text c

-- ---- symbols

-- a byte that begins a symbol begins no other token
abbrev pub is_other : ℕ → Bool
is_other b = not (begins_name b) && (not (is_ascii_digit b) && not (nat_eq b 36))

-- a symbol has one byte or two
abbrev pub IsSymbol : List ℕ → Type 0
IsSymbol text = IsShort is_other is_single is_pair text

pub symbol_is : (text : List ℕ) → Contains symbols text → IsSymbol text
symbol_is text s = short_is is_other is_single is_pair symbols refl text s

pub single_symbol : (b : ℕ) → is_single b ≡ true → Contains symbols (b ∷ [])
single_symbol b h = single_there (codes "()[]:;,.@?=<>+-*&|{}") symbols refl b h

abbrev firsts : List ℕ
firsts = codes "<>=!"

pub pair_symbol : (b c : ℕ) → is_pair b c ≡ true → Contains symbols (b ∷ c ∷ [])
pair_symbol b c h =
    let z = both (list_any (nat_eq b) firsts) (nat_eq c 61) h in
    let ec : c ≡ 61 = eqb-true c 61 z.1 in
    let there : Contains firsts b = Contains-from_any (λ x y e. eqb-true x y e) b firsts z.0 in
    rw ec (is_there (b ∷ 61 ∷ []) symbols (All-contains (λ x. list_any (bytes_eq (x ∷ 61 ∷ [])) symbols ≡ true) firsts b (AllPass-from_list_all (λ x. list_any (bytes_eq (x ∷ 61 ∷ [])) symbols) firsts refl) there))
