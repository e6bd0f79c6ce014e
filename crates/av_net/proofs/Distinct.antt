-- Lists of names in which none stands twice.
use Rattle.std.proofs.Common.{◌≡◌, ◌≢◌, ℕ, zero, suc, ◌+◌, ◌<◌, List, [], ◌∷◌, ◌++◌, length, get_or, refl, sym, ◌∙◌, arith, length-append}
use Rattle.std.specs.Prelude.{Contains}
use Rattle.std.proofs.lemmas.List.{get_or-append-add}
use Rattle.std.proofs.Common.{inl, inr}
use Rattle.std.proofs.lemmas.List.Elements.{Contains-append_cases}
use Rattle.std.proofs.lemmas.List.Kept.{AllPairs-cons}
use Rattle.std.proofs.Math.ListN.{get_or-append}
use Rattle.av_net.specs.Names.{AreDistinct}

-- a place within the list needs no default
any_default : (xs : List (List ℕ)) (i : ℕ) (d e : List ℕ) → i < length xs → get_or xs i d ≡ get_or xs i e
any_default [] i d e lt = absurd (omega arith)
any_default (x ∷ xs) zero d e lt = refl
any_default (x ∷ xs) (suc i) d e lt = any_default xs i d e (omega arith)

-- a name in front and one behind differ
pub apart : (xs ys : List (List ℕ)) (name : List ℕ) → AreDistinct (xs ++ ys) → Contains xs name → Contains ys name → ⊥
apart xs ys name distinct (i, lt, at) (j, lt', at') =
    let a : get_or (xs ++ ys) i name ≡ get_or xs i name = get_or-append xs ys name i lt in
    let b : get_or (xs ++ ys) (length xs + j) name ≡ get_or ys j name = get_or-append-add xs ys j name in
    distinct i (length xs + j) name (omega arith) (omega (arith, length-append xs ys)) (a ∙ at ∙ sym at' ∙ sym b)

-- the front of a list of distinct names
pub front_distinct : (xs ys : List (List ℕ)) → AreDistinct (xs ++ ys) → AreDistinct xs
front_distinct xs ys distinct i j d lt lj same =
    distinct i j d lt (omega (arith, length-append xs ys)) (get_or-append xs ys d i (omega arith) ∙ same ∙ sym (get_or-append xs ys d j lj))

-- what stands behind it
pub rest_distinct : (xs ys : List (List ℕ)) → AreDistinct (xs ++ ys) → AreDistinct ys
rest_distinct xs ys distinct i j d lt lj same =
    distinct (length xs + i) (length xs + j) d (omega arith) (omega (arith, length-append xs ys)) (get_or-append-add xs ys i d ∙ same ∙ sym (get_or-append-add xs ys j d))

-- a name before others that are all distinct
pub cons_distinct : (name : List ℕ) (names : List (List ℕ)) → (Contains names name → ⊥) → AreDistinct names → AreDistinct (name ∷ names)
cons_distinct name names none distinct =
    AllPairs-cons (λ name later. name ≢ later) name names
    (λ k d lt same. none (k, lt, any_default names k name d lt ∙ sym same))
    distinct

-- two lists of distinct names that share none
pub append_distinct : (xs ys : List (List ℕ)) → AreDistinct xs → AreDistinct ys → ((name : List ℕ) → Contains xs name → Contains ys name → ⊥) → AreDistinct (xs ++ ys)
append_distinct [] ys dx dy none = dy
append_distinct (x ∷ xs) ys dx dy none =
    cons_distinct x (xs ++ ys) (λ at. elim (Contains-append_cases xs ys x at) [
      | inl here ↦ apart (x ∷ []) xs x dx (0, omega arith, refl) here
      | inr there ↦ none x (0, omega arith, refl) there
    ]) (append_distinct xs ys (rest_distinct (x ∷ []) xs dx) dy (λ name here there. none name (later name here) there))
  where
    later : (name : List ℕ) → Contains xs name → Contains (x ∷ xs) name
    later name (k, lt, at) = (suc k, omega arith, at)
