-- Words by name, where no name stands twice.
use Rattle.std.proofs.Common.{◌≡◌, ◌≢◌, ◌⊎◌, ℕ, zero, suc, ◌<◌, List, [], ◌∷◌, length, get_or, set, slice_get, Some, refl, sym, ◌∙◌, ap, arith, Bool, true, false, if◌then◌else◌, inl, inr}
use Rattle.std.specs.Prelude.{Contains}
use Rattle.std.specs.Str.{bytes_eq}
use Rattle.std.proofs.Math.Path.{fun_ext}
use Rattle.std.proofs.Math.ListN.{length-set}
use Rattle.std.proofs.lemmas.Slice.Eq.{bytes_eq-Decides}
use Rattle.std.proofs.lemmas.List.{get_or-set_same}
use Rattle.std.proofs.lemmas.Option.{slice_get_within, get_or_from_slice_get}
use Rattle.av_net.specs.Names.{AreDistinct}
use Rattle.av_net.proofs.Distinct.{rest_distinct, apart}
use Rattle.av_net.proofs.Settles.{with_word, with_word_same, with_word_other, not_equal}
use Rattle.av_clock.specs.Named.{looked_up}

-- a name at a place is among the names
pub contains_at : (names : List (List ℕ)) (k : ℕ) (name : List ℕ) → slice_get names k ≡ Some name → Contains names name
contains_at names k name at = (k, slice_get_within names k name at, get_or_from_slice_get names k name name at)

-- a name behind the first one differs from it
behind : (first : List ℕ) (names : List (List ℕ)) (k : ℕ) (name : List ℕ) → AreDistinct (first ∷ names) → slice_get names k ≡ Some name → first ≢ name
behind first names k name distinct at same = apart (first ∷ []) names name distinct (0, omega arith, same) (contains_at names k name at)

-- the word beside the name at a place is the one at that place
pub look_at : (names : List (List ℕ)) (words : List ℕ) (k : ℕ) (name : List ℕ) → AreDistinct names → length words ≡ length names → slice_get names k ≡ Some name → looked_up names words name ≡ get_or words k 0
look_at [] words k name distinct same at = absurd cc
look_at (first ∷ names) [] k name distinct same at = absurd (omega arith)
look_at (first ∷ names) (word ∷ words) zero name distinct same at =
    let here : first ≡ name = cc in
    let test : bytes_eq first name ≡ true = (bytes_eq-Decides first name).1 here in
    rw test refl
look_at (first ∷ names) (word ∷ words) (suc k) name distinct same at =
    rw (not_equal first name (behind first names k name distinct at)) (look_at names words k name (rest_distinct (first ∷ []) names distinct) (omega arith) at)

-- two names are the same or not
pub same_or_not : (a b : List ℕ) → (a ≡ b) ⊎ (a ≢ b)
same_or_not a b = by_cases (bytes_eq a b) (bytes_eq-Decides a b).0 (λ e. (bytes_eq-Decides a b).1 e)
  where
    never : false ≡ true → ⊥
    never e = cc

    by_cases : (test : Bool) → (test ≡ true → a ≡ b) → (a ≡ b → test ≡ true) → (a ≡ b) ⊎ (a ≢ b)
    by_cases true f g = inl (f refl)
    by_cases false f g = inr (λ e. never (g e))

-- a write at the place of another name
look_other : (names : List (List ℕ)) (words : List ℕ) (j word : ℕ) (target name : List ℕ) → slice_get names j ≡ Some target → name ≢ target → looked_up names (set words j word) name ≡ looked_up names words name
look_other [] words j word target name at ne = absurd cc
look_other (first ∷ names) [] j word target name at ne = refl
look_other (first ∷ names) (w ∷ words) zero word target name at ne =
    let here : first ≡ target = cc in
    rw (not_equal first name (λ e. ne (sym e ∙ here))) refl
look_other (first ∷ names) (w ∷ words) (suc j) word target name at ne = ap (λ rest. if bytes_eq first name then w else rest) (look_other names words j word target name at ne)

-- a write at a place changes the word of the name there
pub look_set : (names : List (List ℕ)) (words : List ℕ) (j word : ℕ) (target : List ℕ) → AreDistinct names → length words ≡ length names → slice_get names j ≡ Some target → looked_up names (set words j word) ≡ with_word (looked_up names words) target word
look_set names words j word target distinct same at = fun_ext (λ name. elim (same_or_not name target) [
  | inl e ↦
      let within : j < length names = slice_get_within names j target at in
      let now : looked_up names (set words j word) target ≡ word = look_at names (set words j word) j target distinct (length-set words j word ∙ same) at ∙ get_or-set_same words j word 0 (omega arith) in
      rw e (now ∙ sym (with_word_same (looked_up names words) target word))
  | inr ne ↦ look_other names words j word target name at ne ∙ sym (with_word_other (looked_up names words) target word name ne)
])

-- words that are all 0
pub look_zero : (names : List (List ℕ)) (words : List ℕ) (name : List ℕ) → ((k : ℕ) → get_or words k 0 ≡ 0) → looked_up names words name ≡ 0
look_zero [] words name all = refl
look_zero (first ∷ names) [] name all = refl
look_zero (first ∷ names) (word ∷ words) name all =
    either (bytes_eq first name) word (looked_up names words name) (all 0) (look_zero names words name (λ k. all (suc k)))
  where
    either : (test : Bool) (a b : ℕ) → a ≡ 0 → b ≡ 0 → (if test then a else b) ≡ 0
    either true a b ea eb = ea
    either false a b ea eb = eb
