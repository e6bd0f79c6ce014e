-- Lists in order, one behind the other.
use Rattle.std.proofs.Common.{◌≡◌, ℕ, ◌<◌, ◌-◌, inl, inr, List, ◌++◌, length, get_or, refl, sym, subst, arith, length-append}
use Rattle.std.specs.Prelude.{Contains, AllPairs}
use Rattle.std.proofs.lemmas.Bool.{cases_lt}
use Rattle.std.proofs.lemmas.List.{get_or_append_left, get_or-append_right}
use Rattle.std.proofs.lemmas.List.Elements.{All-contains_itself}

-- what holds of the pairs of two lists, and across them, holds of the pairs of both together
module _ {X : Type 0} (R : X → X → Type 0) (xs ys : List X) where
  pair_is : (i j : ℕ) (d x y : X) → get_or (xs ++ ys) i d ≡ x → get_or (xs ++ ys) j d ≡ y → R x y → R (get_or (xs ++ ys) i d) (get_or (xs ++ ys) j d)
  pair_is i j d x y is is' r =
      let P : X → Type 0 = λ v. R v (get_or (xs ++ ys) j d) in
      let Q : X → Type 0 = λ v. R x v in
      subst P (sym is) (subst Q (sym is') r)

  pub pairs_append : AllPairs R xs → AllPairs R ys → ((x y : X) → Contains xs x → Contains ys y → R x y) → AllPairs R (xs ++ ys)
  pairs_append px py cross i j d lt lj =
      elim (cases_lt j (length xs)) [
        | inl near ↦ pair_is i j d (get_or xs i d) (get_or xs j d) (get_or_append_left xs ys d i (omega arith)) (get_or_append_left xs ys d j near) (px i j d lt near)
        | inr far ↦ (
            let at_j : get_or (xs ++ ys) j d ≡ get_or ys (j - length xs) d = get_or-append_right xs ys (length xs) j d refl far in
            let within : j - length xs < length ys = omega (arith, length-append xs ys) in
            elim (cases_lt i (length xs)) [
              | inl here ↦ pair_is i j d (get_or xs i d) (get_or ys (j - length xs) d) (get_or_append_left xs ys d i here) at_j (cross (get_or xs i d) (get_or ys (j - length xs) d) (All-contains_itself xs i d here) (All-contains_itself ys (j - length xs) d within))
              | inr there ↦ pair_is i j d (get_or ys (i - length xs) d) (get_or ys (j - length xs) d) (get_or-append_right xs ys (length xs) i d refl there) at_j (py (i - length xs) (j - length xs) d (omega arith) within)
            ])
      ]
