-- Why choices may be left out: the order is total, costs only grow, and what a few points forbid all points forbid.
use Rattle.std.proofs.Common.{◌≡◌, ℕ, zero, suc, ◌<◌, ◌≤◌, ℤ, pos, ◌+ℤ◌, ◌-ℤ◌, ◌≤ℤ◌, ◌⊎◌, inl, inr, ⊎_elim, Option, List, [], ◌∷◌, length, map, get_or, sym, subst, ◌∙◌, arith, zero-add, All}
use Rattle.std.specs.List.{range_with_len}
use Rattle.std.proofs.lemmas.Int.{ints, by_lt_z}
use Rattle.std.proofs.lemmas.Bool.{cases_eq, cases_lt}
use Rattle.std.proofs.lemmas.List.FromFn.{get_or-map-range_with_len, length-map-range_with_len}
use Rattle.av_tree.specs.Points.{Point}
use Rattle.av_flat.specs.Trees.{FlatSystem}
use Rattle.av_sched.specs.declared.arc.Arc.{Arc}
use Rattle.av_sched.specs.Arcs.{at, Solves, IsArc}
use Rattle.av_sched.specs.inner.Rounds.{zeros}
use Rattle.av_sched.specs.Choices.{AreLinearParts, IsFeasible}
use Rattle.av_sched.specs.Order.{IsLess}
use Rattle.av_sched.specs.Parts.{Agrees}
use Rattle.av_sched.specs.inner.Walk.{IsMet, IsSound, HasWalked}

-- ---- the order

-- of lists of one length: what is not before the second, which is not before the third, is not before the third
pub not_before : (xs ys zs : List ℕ) → length xs ≡ length ys → length ys ≡ length zs → (IsLess xs ys → ⊥) → (IsLess ys zs → ⊥) → IsLess xs zs → ⊥
not_before [] ys zs l m a b c = c
not_before (x ∷ xs) [] zs l m a b c = absurd (omega (arith, l))
not_before (x ∷ xs) (y ∷ ys) [] l m a b c = c
not_before (x ∷ xs) (y ∷ ys) (z ∷ zs) l m a b (inl c) = ⊎_elim
    (λ less. a (inl less))
    (λ more. b (inl (omega (arith, more, c)))) (cases_lt x y)
not_before (x ∷ xs) (y ∷ ys) (z ∷ zs) l m a b (inr c) = ⊎_elim
    (λ same. not_before xs ys zs (omega (arith, l)) (omega (arith, m)) (λ h. a (inr (same, h))) (λ h. b (inr (sym same ∙ c.0, h))) c.1)
    (λ differ. ⊎_elim (λ less. a (inl less)) (λ more. b (inl (let q = c.0 in omega (arith, more, differ, q)))) (cases_lt x y))
    (cases_eq x y)

-- no choice whose first two numbers are at least these comes before one whose are less
pub too_dear : (u a w b : ℕ) (v d : ℕ) (xs ys : List ℕ) → (w < u) ⊎ ((w ≡ u) × (b < a)) → u ≤ v → a ≤ d → IsLess (v ∷ d ∷ xs) (w ∷ b ∷ ys) → ⊥
too_dear u a w b v d xs ys (inl h) p q (inl l) = omega (arith, h, p, l)
too_dear u a w b v d xs ys (inl h) p q (inr l) = let e = l.0 in omega (arith, h, p, e)
too_dear u a w b v d xs ys (inr h) p q (inl l) = let e = h.0 in omega (arith, e, p, l)
too_dear u a w b v d xs ys (inr h) p q (inr (e, inl l)) = let f = h.1 in omega (arith, f, q, l)
too_dear u a w b v d xs ys (inr h) p q (inr (e, inr l)) = let f = h.1 in let g = l.0 in omega (arith, f, q, g)

-- ---- offsets as a list that starts at 0

pub lowest : (off : ℕ → ℤ) (n : ℕ) → (k : ℤ) × ((j : ℕ) → j < n → pos 0 ≤ℤ (off j +ℤ k))
lowest off zero = (pos 0, λ j l. absurd (omega (arith, l)))
lowest off (suc n) =
    let r = lowest off n in
    by_lt_z (off n +ℤ r.0) (pos 0)
    (λ less. (pos 0 -ℤ off n, λ j l. ⊎_elim (λ e. subst (λ (i : ℕ). pos 0 ≤ℤ (off i +ℤ (pos 0 -ℤ off n))) (sym e) (omega (arith, ints))) (λ d. let h = r.1 j (omega (arith, l, d)) in omega (arith, ints, h, less)) (cases_eq j n)))
    (λ more. (r.0, λ j l. ⊎_elim (λ e. subst (λ (i : ℕ). pos 0 ≤ℤ (off i +ℤ r.0)) (sym e) more) (λ d. r.1 j (omega (arith, l, d))) (cases_eq j n)))

abbrev pub lifted : (ℕ → ℤ) → ℤ → ℕ → List ℤ
lifted off k n = map (λ j. off j +ℤ k) (range_with_len 0 n)

pub at_lifted : (off : ℕ → ℤ) (k : ℤ) (n j : ℕ) → j < n → at (lifted off k n) j ≡ off j +ℤ k
at_lifted off k n j l = get_or-map-range_with_len (λ j. off j +ℤ k) 0 n j j (pos 0) l (zero-add j)

-- where the arcs have no solution from 0 on, no offsets at all make each reader late
pub unsolvable : (arcs : List Arc) (n : ℕ) → All (IsArc n) arcs → ((x : List ℤ) → Solves arcs (zeros n) x → ⊥) → (off : ℕ → ℤ) → All (λ e. (off e.read +ℤ e.weight) ≤ℤ off e.reader) arcs → ⊥
unsolvable arcs n fit none off late =
    let k = lowest off n in
    none (lifted off k.0 n) (record {
      size = length-map-range_with_len (λ j. off j +ℤ k.0) 0 n ∙ sym (length-map-range_with_len (λ (j : ℕ). pos 0) 0 n);
      above = λ j l.
          let within : j < n = (let s = length-map-range_with_len (λ (j : ℕ). pos 0) 0 n in omega (arith, l, s)) in
          let a = at_lifted off k.0 n j within in
          let z : at (zeros n) j ≡ pos 0 = get_or-map-range_with_len (λ (j : ℕ). pos 0) 0 n j j (pos 0) within (zero-add j) in
          let h = k.1 j within in
          omega (arith, ints, a, z, h);
      late = λ i d l.
          let e = get_or arcs i d in
          let f = fit i d l in
          let a = at_lifted off k.0 n e.read f.read in
          let b = at_lifted off k.0 n e.reader f.reader in
          let h = late i d l in
          omega (arith, ints, a, b, h);
    })

-- ---- walks one after another

pub nothing_there : (s : FlatSystem) (c : ℕ) (component : List ℕ) (k : ℕ) (linear : List Point) (old : Option (List Point)) → IsSound s c component old
    → ((other : List Point) → AreLinearParts s c other → Agrees component k linear other → IsFeasible s component other → IsMet s component old other) → HasWalked s c component k linear old old
nothing_there s c component k linear old sound h = record { sound = sound; keeps = λ other a m. m; covers = h }
