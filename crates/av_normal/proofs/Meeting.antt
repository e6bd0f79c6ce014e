-- Going down a list, one meets an element of one kind before any of another.
use Rattle.std.proofs.Common.{ℕ, zero, suc, ◌⊎◌, inl, inr, arith, List, [], ◌∷◌, ◌++◌, map, take, sym, refl, subst, All, Any}
use Rattle.std.proofs.lemmas.List.Elements.{All-nil, All-cons, All-head, All-tail}
use Rattle.av_affine.specs.declared.form.Form.{Form}
use Rattle.av_poly.specs.Normal.{HasDirection, IsMetBefore}

-- an element of the first kind comes, and up to it none of the second
abbrev pub MeetsFirst : {X : Type 0} → (X → Type 0) → (X → Type 0) → List X → Type 0
MeetsFirst P Q [] = ⊥
MeetsFirst P Q (x ∷ xs) = (Q x → ⊥) × (P x ⊎ MeetsFirst P Q xs)

module _ {X : Type 0} (P Q : X → Type 0) where
  abbrev pub IsOther : X → Type 0
  IsOther x = Q x → ⊥

  -- ---- in the first elements

  pub from_first : (n : ℕ) (xs : List X) → Any P (take n xs) → All IsOther (take n xs) → MeetsFirst P Q xs
  from_first zero xs (k, x, l, e, p) h = absurd (omega (arith, l))
  from_first (suc n) [] (k, x, l, e, p) h = absurd (omega (arith, l))
  from_first (suc n) (x ∷ xs) (zero, y, l, e, p) h = (All-head IsOther x (take n xs) h, inl (subst P (sym e) p))
  from_first (suc n) (x ∷ xs) (suc k, y, l, e, p) h =
      (All-head IsOther x (take n xs) h, inr (from_first n xs (k, y, omega (arith, l), e, p) (All-tail IsOther x (take n xs) h)))

  pub in_first : (xs : List X) → MeetsFirst P Q xs → (n : ℕ) × Any P (take n xs) × All IsOther (take n xs)
  in_first [] h = absurd h
  in_first (x ∷ xs) (n, inl p) = (1, (0, x, omega arith, refl, p), All-cons IsOther x [] n (All-nil IsOther))
  in_first (x ∷ xs) (n, inr r) =
      let (c, (k, y, l, e, p), h) = in_first xs r in (suc c, (suc k, y, omega (arith, l), e, p), All-cons IsOther x (take c xs) n h)

  pub some_met : (xs : List X) → MeetsFirst P Q xs → Any P xs
  some_met [] h = absurd h
  some_met (x ∷ xs) (n, inl p) = (0, x, omega arith, refl, p)
  some_met (x ∷ xs) (n, inr r) = let (k, y, l, e, p) = some_met xs r in (suc k, y, omega (arith, l), e, p)

  -- ---- one list behind another

  pub met_in_front : (xs ys : List X) → MeetsFirst P Q xs → MeetsFirst P Q (xs ++ ys)
  met_in_front [] ys h = absurd h
  met_in_front (x ∷ xs) ys (n, inl p) = (n, inl p)
  met_in_front (x ∷ xs) ys (n, inr r) = (n, inr (met_in_front xs ys r))

  pub met_behind : (xs ys : List X) → All IsOther xs → MeetsFirst P Q ys → MeetsFirst P Q (xs ++ ys)
  met_behind [] ys h r = r
  met_behind (x ∷ xs) ys h r = (All-head IsOther x xs h, inr (met_behind xs ys (All-tail IsOther x xs h) r))

  pub met_either : (xs ys : List X) → MeetsFirst P Q (xs ++ ys) → MeetsFirst P Q xs ⊎ (All IsOther xs × MeetsFirst P Q ys)
  met_either [] ys r = inr (All-nil IsOther, r)
  met_either (x ∷ xs) ys (n, inl p) = inl (n, inl p)
  met_either (x ∷ xs) ys (n, inr r) = elim (met_either xs ys r) [
    | inl a ↦ inl (n, inr a)
    | inr a ↦ inr (All-cons IsOther x xs n a.0, a.1)
  ]

pub asymmetric : {X : Type 0} (P Q : X → Type 0) (xs : List X) → MeetsFirst P Q xs → MeetsFirst Q P xs → ⊥
asymmetric P Q [] h k = h
asymmetric P Q (x ∷ xs) (n, inl p) (m, k) = m p
asymmetric P Q (x ∷ xs) (n, inr r) (m, inl q) = n q
asymmetric P Q (x ∷ xs) (n, inr r) (m, inr s) = asymmetric P Q xs r s

-- ---- other kinds of the same elements, and of their images

pub met_too : {X : Type 0} (P Q R S : X → Type 0) → ((x : X) → P x → R x) → ((x : X) → S x → Q x) → (xs : List X) → MeetsFirst P Q xs → MeetsFirst R S xs
met_too P Q R S f g [] h = h
met_too P Q R S f g (x ∷ xs) (n, inl p) = ((λ s. n (g x s)), inl (f x p))
met_too P Q R S f g (x ∷ xs) (n, inr r) = ((λ s. n (g x s)), inr (met_too P Q R S f g xs r))

module _ {X Y : Type 0} (h : X → Y) (P Q : X → Type 0) (R S : Y → Type 0) where
  pub met_mapped : ((x : X) → P x → R (h x)) → ((x : X) → S (h x) → Q x) → (xs : List X) → MeetsFirst P Q xs → MeetsFirst R S (map h xs)
  met_mapped f g [] r = r
  met_mapped f g (x ∷ xs) (n, inl p) = ((λ s. n (g x s)), inl (f x p))
  met_mapped f g (x ∷ xs) (n, inr r) = ((λ s. n (g x s)), inr (met_mapped f g xs r))

  pub mapped_met : ((x : X) → R (h x) → P x) → ((x : X) → Q x → S (h x)) → (xs : List X) → MeetsFirst R S (map h xs) → MeetsFirst P Q xs
  mapped_met f g [] r = r
  mapped_met f g (x ∷ xs) (n, inl p) = ((λ s. n (g x s)), inl (f x p))
  mapped_met f g (x ∷ xs) (n, inr r) = ((λ s. n (g x s)), inr (mapped_met f g xs r))

-- ---- rows that show the coefficients of two forms

module _ (dim : ℕ) (rows : List Form) (a b : Form) where
  pub first_of : IsMetBefore dim rows a b → MeetsFirst (HasDirection dim a.coef) (HasDirection dim b.coef) rows
  first_of m = from_first (HasDirection dim a.coef) (HasDirection dim b.coef) m.count rows m.met m.not_met

  pub met_of : MeetsFirst (HasDirection dim a.coef) (HasDirection dim b.coef) rows → IsMetBefore dim rows a b
  met_of m = let (n, w, h) = in_first (HasDirection dim a.coef) (HasDirection dim b.coef) rows m in record { count = n; met = w; not_met = h }
