-- Tables of words and symbols, and the tests by which their texts are found.
use Rattle.std.proofs.Common.{◌≡◌, ℕ, Bool, true, false, ◌&&◌, List, [], ◌∷◌, refl, sym, ◌∙◌, true≢false}
use Rattle.std.specs.Prelude.{nat_eq, All, Contains}
use Rattle.std.specs.List.{list_all, list_any}
use Rattle.std.specs.Str.{bytes_eq}
use Rattle.std.proofs.lemmas.Bool.{eqb-true}
use Rattle.std.proofs.lemmas.Cmp.{nat_list_eq_equiv}
use Rattle.std.proofs.lemmas.List.Elements.{All-contains}
use Rattle.std.proofs.lemmas.List.Sums.{AllPass-from_list_all}
use Rattle.std.proofs.lemmas.Map.Views.{list_any-from_Contains, Contains-from_any}
use Rattle.std.proofs.lemmas.Slice.Eq.{bytes_eq-Decides}
use Rattle.av_base.specs.Tokens.{is_word_byte}
use Rattle.av_base.proofs.Truths.{both}

-- a list's text is found, and what is found is a text of the list
pub is_found : (text : List ℕ) (table : List (List ℕ)) → Contains table text → list_any (bytes_eq text) table ≡ true
is_found text table h = list_any-from_Contains nat_list_eq_equiv text table h

pub is_there : (text : List ℕ) (table : List (List ℕ)) → list_any (bytes_eq text) table ≡ true → Contains table text
is_there text table h = Contains-from_any (λ x y e. (bytes_eq-Decides x y).0 e) text table h

pub not_there : (text : List ℕ) (table : List (List ℕ)) → (Contains table text → ⊥) → list_any (bytes_eq text) table ≡ false
not_there text table h = go (list_any (bytes_eq text) table) refl
  where
    go : (t : Bool) → list_any (bytes_eq text) table ≡ t → list_any (bytes_eq text) table ≡ false
    go true e = absurd (h (is_there text table e))
    go false e = e

pub none_there : (text : List ℕ) (table : List (List ℕ)) → list_any (bytes_eq text) table ≡ false → Contains table text → ⊥
none_there text table e h = true≢false (sym (is_found text table h) ∙ e)

-- what a test of each text of a table tells of one
pub tells : (test : List ℕ → Bool) (table : List (List ℕ)) → list_all test table ≡ true → (text : List ℕ) → Contains table text → test text ≡ true
tells test table h text c = All-contains (λ x. test x ≡ true) table text (AllPass-from_list_all test table h) c

-- ---- words, by a test of the first byte

abbrev pub is_word_by : (ℕ → Bool) → List ℕ → Bool
is_word_by is_first [] = false
is_word_by is_first (b ∷ bytes) = is_first b && list_all is_word_byte bytes

-- what holds of each word holds of each text of a table of words
pub words_are : (is_first : ℕ → Bool) (table : List (List ℕ)) → list_all (is_word_by is_first) table ≡ true → (P : List ℕ → Type 0)
    → ((b : ℕ) (bytes : List ℕ) → is_first b ≡ true → All (λ x. is_word_byte x ≡ true) bytes → P (b ∷ bytes)) → (text : List ℕ) → Contains table text → P text
words_are is_first table all P holds text c = go text (tells (is_word_by is_first) table all text c)
  where
    go : (text : List ℕ) → is_word_by is_first text ≡ true → P text
    go [] h = absurd cc
    go (b ∷ bytes) h = let z = both (is_first b) (list_all is_word_byte bytes) h in holds b bytes z.0 (AllPass-from_list_all is_word_byte bytes z.1)

-- ---- texts of one byte or two, by tests of the first byte, of a byte alone and of a pair

abbrev pub is_short : (ℕ → Bool) → (ℕ → Bool) → (ℕ → ℕ → Bool) → List ℕ → Bool
is_short is_first is_single is_pair (b ∷ []) = is_first b && is_single b
is_short is_first is_single is_pair (b ∷ c ∷ []) = is_first b && is_pair b c
is_short is_first is_single is_pair _ = false

pub data IsShort (is_first is_single : ℕ → Bool) (is_pair : ℕ → ℕ → Bool) : List ℕ → Type 0 where
  one : {b : ℕ} → is_first b ≡ true → is_single b ≡ true → IsShort is_first is_single is_pair (b ∷ [])
  two : {b c : ℕ} → is_first b ≡ true → is_pair b c ≡ true → IsShort is_first is_single is_pair (b ∷ c ∷ [])

pub none_short : (is_first is_single : ℕ → Bool) (is_pair : ℕ → ℕ → Bool) → IsShort is_first is_single is_pair [] → ⊥
none_short is_first is_single is_pair s = elim s [ ]

pub short_is : (is_first is_single : ℕ → Bool) (is_pair : ℕ → ℕ → Bool) (table : List (List ℕ)) → list_all (is_short is_first is_single is_pair) table ≡ true
    → (text : List ℕ) → Contains table text → IsShort is_first is_single is_pair text
short_is is_first is_single is_pair table all text s = go text (tells (is_short is_first is_single is_pair) table all text s)
  where
    go : (text : List ℕ) → is_short is_first is_single is_pair text ≡ true → IsShort is_first is_single is_pair text
    go [] h = absurd cc
    go (b ∷ []) h = let z = both (is_first b) (is_single b) h in one z.0 z.1
    go (b ∷ c ∷ []) h = let z = both (is_first b) (is_pair b c) h in two z.0 z.1
    go (b ∷ c ∷ d ∷ bytes) h = absurd cc

-- a byte of a list is a text of the table where each of the list's bytes is one
pub single_there : (singles : List ℕ) (table : List (List ℕ)) → list_all (λ x. list_any (bytes_eq (x ∷ [])) table) singles ≡ true
    → (b : ℕ) → list_any (nat_eq b) singles ≡ true → Contains table (b ∷ [])
single_there singles table all b h =
    let there : Contains singles b = Contains-from_any (λ x y e. eqb-true x y e) b singles h in
    is_there (b ∷ []) table (All-contains (λ x. list_any (bytes_eq (x ∷ [])) table ≡ true) singles b (AllPass-from_list_all (λ x. list_any (bytes_eq (x ∷ [])) table) singles all) there)
