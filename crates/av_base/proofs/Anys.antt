-- Some element of a list, as the list grows or changes.
use Rattle.std.proofs.Common.{◌≡◌, ℕ, ◌<◌, ◌⊎◌, inl, inr, List, [], ◌∷◌, ◌++◌, length, length-set, get_or, sym, ◌∙◌, subst, arith}
use Rattle.std.proofs.Math.ListN.{set}
use Rattle.std.specs.List.{Any}
use Rattle.std.proofs.lemmas.Bool.{cases_eq}
use Rattle.std.proofs.lemmas.List.{get_or-set_same, get_or-set_other}
use Rattle.std.proofs.lemmas.List.Elements.{Contains-append_left, Contains-push, Contains-push_cases}

pub any_first : {X : Type 0} (P : X → Type 0) (xs ys : List X) → Any P xs → Any P (xs ++ ys)
any_first P xs ys (k, y, l, e, p) = let w = Contains-append_left xs ys y (k, l, e) in (w.0, y, w.1, w.2, p)

pub any_before : {X : Type 0} (P : X → Type 0) (xs : List X) (x : X) → Any P xs → Any P (xs ++ x ∷ [])
any_before P xs x h = any_first P xs (x ∷ []) h

pub any_last : {X : Type 0} (P : X → Type 0) (xs : List X) (x : X) → P x → Any P (xs ++ x ∷ [])
any_last P xs x p = let w = Contains-push xs x in (w.0, x, w.1, w.2, p)

pub any_cases : {X : Type 0} (P : X → Type 0) (xs : List X) (x : X) → Any P (xs ++ x ∷ []) → Any P xs ⊎ P x
any_cases P xs x (k, y, l, e, p) =
    elim (Contains-push_cases xs x y (k, l, e)) [ inl w ↦ inl (w.0, y, w.1, w.2, p) | inr w ↦ inr (subst P (sym w) p) ]

-- where an element changes and keeps what holds of it
pub any_set : {X : Type 0} (P : X → Type 0) (xs : List X) (j : ℕ) (new : X) → j < length xs → ((x : X) → get_or xs j x ≡ x → P x → P new) → Any P xs → Any P (set xs j new)
any_set P xs j new h keep (k, x, l, e, p) = elim (cases_eq k j) [
  | inl s ↦ (j, new, omega (arith, h, length-set xs j new), get_or-set_same xs j new new h, keep x (subst (λ (i : ℕ). get_or xs i x ≡ x) s e) p)
  | inr n ↦ (k, x, omega (arith, l, length-set xs j new), get_or-set_other xs j k new x n ∙ e, p)
]
