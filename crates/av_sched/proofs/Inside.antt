-- The edges inside a component, one after another, and their arcs.
use Rattle.std.proofs.Common.{◌≡◌, ℕ, zero, suc, ◌+◌, ◌<◌, ◌≤◌, ◌≤◌, ℤ, pos, ⊎_elim, List, [], ◌∷◌, ◌++◌, map, length, get_or, add-one, refl, sym, ap, ap₂, subst, ◌∙◌, arith, All, unsigned_abs, zero-add}
use Rattle.std.specs.Prelude.{Contains}
use Rattle.std.specs.List.{AllZip, range_with_len}
use Rattle.std.proofs.lemmas.List.Elements.{All-weaker, Contains-get_or, Contains-append_left, Contains-push_cases}
use Rattle.std.proofs.lemmas.Int.{ints}
use Rattle.std.proofs.lemmas.List.FromFn.{get_or-map-range_with_len, length-map-range_with_len}
use Rattle.av_flat.specs.Chained.{IsChained}
use Rattle.av_flat.specs.Proper.{IsProper}
use Rattle.av_depend.specs.Edges.{AreEdgesOf}
use Rattle.av_tree.specs.Points.{Point}
use Rattle.av_flat.specs.Trees.{FlatSystem}
use Rattle.av_flat.specs.Nodes.{nodes}
use Rattle.av_depend.specs.declared.edge.Edge.{Edge}
use Rattle.av_base.proofs.Among.{none_among, last_among}
use Rattle.av_sched.specs.declared.arc.Arc.{Arc}
use Rattle.av_sched.specs.inner.Rounds.{zeros}
use Rattle.av_sched.specs.Arcs.{IsArc, AreSmall, Solves, IsLeastSolution}
use Rattle.av_sched.specs.Leads.{IsArcOf}
use Rattle.av_sched.specs.Offsets.{part, AreVectors}
use Rattle.av_sched.specs.Choices.{AreLinearParts, IsFeasible}
use Rattle.av_sched.specs.inner.Walk.{AreArcsInside}
use Rattle.av_sched.proofs.Usable.{usable_edge}
use Rattle.av_sched.proofs.Bridge.{arcs_fit}
use Rattle.av_sched.proofs.Leaves.{solved_feasible, unsolved_infeasible}
use Rattle.av_base.proofs.Lists.{there_is}

zip_push : {X Y : Type 0} (R : X → Y → Type 0) (xs : List X) (ys : List Y) (x : X) (y : Y) → AllZip R xs ys → R x y → AllZip R (xs ++ x ∷ []) (ys ++ y ∷ [])
zip_push R [] [] x y h r = (r, tt)
zip_push R [] (b ∷ ys) x y h r = absurd h
zip_push R (a ∷ xs) [] x y h r = absurd h
zip_push R (a ∷ xs) (b ∷ ys) x y h r = (h.0, zip_push R xs ys x y h.1 r)

pub inside_none : (linear : List Point) (component : List ℕ) → AreArcsInside linear [] component []
inside_none linear component = ([], record { among = λ e c. absurd (none_among e c); all = λ e c a b. absurd (none_among e c) }, tt)

module _ (linear : List Point) (component : List ℕ) (edges : List Edge) (e : Edge) (arcs : List Arc) where
  pub inside_more : (arc : Arc) → Contains component e.consumer → Contains component e.producer → IsArcOf linear e arc → AreArcsInside linear edges component arcs → AreArcsInside linear (edges ++ e ∷ []) component (arcs ++ arc ∷ [])
  inside_more arc a b is (inner, h, zip) = (
    inner ++ e ∷ [],
    record {
      among = λ f c. ⊎_elim
          (λ k. let r = h.among f k in (Contains-append_left edges (e ∷ []) f r.0, r.1, r.2))
          (λ q. subst (λ (g : Edge). Contains (edges ++ e ∷ []) g × Contains component g.consumer × Contains component g.producer) q (last_among edges e, a, b))
          (Contains-push_cases inner e f c);
      all = λ f c p q. ⊎_elim
          (λ k. Contains-append_left inner (e ∷ []) f (h.all f k p q))
          (λ same. subst (λ (g : Edge). Contains (inner ++ e ∷ []) g) same (last_among inner e))
          (Contains-push_cases edges e f c);
    },
    zip_push (IsArcOf linear) inner arcs e arc zip is,
  )

  pub inside_same : (Contains component e.consumer → Contains component e.producer → ⊥) → AreArcsInside linear edges component arcs → AreArcsInside linear (edges ++ e ∷ []) component arcs
  inside_same out (inner, h, zip) = (
    inner,
    record {
      among = λ f c. let r = h.among f c in (Contains-append_left edges (e ∷ []) f r.0, r.1, r.2);
      all = λ f c p q. ⊎_elim
          (λ k. h.all f k p q)
          (λ same. absurd (out (subst (λ (g : Edge). Contains component g.consumer) (sym same) p) (subst (λ (g : Edge). Contains component g.producer) (sym same) q)))
          (Contains-push_cases edges e f c);
    },
    zip,
  )

-- ---- zeros

zeros_from : (start : ℕ) (xs : List ℤ) → ((k : ℕ) → k < length xs → get_or xs k (pos 0) ≡ pos 0) → xs ≡ map (λ (k : ℕ). pos 0) (range_with_len start (length xs))
zeros_from start [] h = refl
zeros_from start (x ∷ xs) h = ap₂ (λ a b. a ∷ b) (h 0 (omega arith)) (zeros_from (start + 1) xs (λ k l. h (suc k) (omega (arith, l))))

zeros_push : (start n : ℕ) → map (λ (k : ℕ). pos 0) (range_with_len start n) ++ pos 0 ∷ [] ≡ map (λ (k : ℕ). pos 0) (range_with_len start (suc n))
zeros_push start zero = refl
zeros_push start (suc n) = ap (λ ys. pos 0 ∷ ys) (zeros_push (start + 1) n)

pub length_zeros : (n : ℕ) → length (zeros n) ≡ n
length_zeros n = length-map-range_with_len (λ (k : ℕ). pos 0) 0 n

pub zeros_more : (n : ℕ) → zeros n ++ pos 0 ∷ [] ≡ zeros (n + 1)
zeros_more n = rw add-one (zeros_push 0 n)

-- ---- linear parts as vectors

pub vectors_of : (s : FlatSystem) (c : ℕ) (linear : List Point) → c ≤ 4 → AreLinearParts s c linear → AreVectors s 4 linear
vectors_of s c linear wide are = record {
  one_each = are.one_each;
  sizes = λ n v e. (are.each n v e).size;
  entries = λ n l. let v = there_is (nodes s) n l in All-weaker (λ x. unsigned_abs x ≤ c) (λ x. unsigned_abs x ≤ 4) (λ x m. omega (arith, m, wide)) (part linear n) (are.each n v.0 v.1).entries;
}

pub zeros_small : (low : List ℤ) (n : ℕ) → low ≡ zeros n → AreSmall 1073741824 low
zeros_small low n e = subst (AreSmall 1073741824) (sym e) (λ k d l.
    let m : k < n = (let z = length-map-range_with_len (λ (k : ℕ). pos 0) 0 n in omega (arith, l, z)) in
    let q = get_or-map-range_with_len (λ (k : ℕ). pos 0) 0 n k k d m (zero-add k) in
    omega (arith, ints, q))

-- ---- the exact test

module _ (s : FlatSystem) (c : ℕ) (edges : List Edge) (component : List ℕ) (linear : List Point) (arcs : List Arc) (chained : IsChained s) (proper : IsProper s) (are : AreEdgesOf s edges) (wide : c ≤ 4) (parts : AreLinearParts s c linear)
    (inside : AreArcsInside linear edges component arcs) where
  pub inner_fit : (low : List ℤ) → low ≡ zeros (length linear) → All (IsArc (length low)) arcs
  inner_fit low e =
      let size : length low ≡ length linear = ap length e ∙ length-map-range_with_len (λ (k : ℕ). pos 0) 0 (length linear) in
      subst (λ (n : ℕ). All (IsArc n) arcs) (sym size)
      (arcs_fit linear inside.0 arcs (length linear) refl
      (λ k d l. usable_edge s edges linear (get_or inside.0 k d) chained proper are (vectors_of s c linear wide parts) (inside.1.among (get_or inside.0 k d) (Contains-get_or inside.0 k d l)).0)
      inside.2)

  pub solved_here : (low off : List ℤ) → low ≡ zeros (length linear) → IsLeastSolution arcs low off → IsFeasible s component linear
  solved_here low off e h = solved_feasible s edges inside.0 component arcs linear (length linear) chained are inside.1 inside.2 off (subst (λ (z : List ℤ). Solves arcs z off) e h.solves)

  pub unsolved_here : (low : List ℤ) → low ≡ zeros (length linear) → ((x : List ℤ) → Solves arcs low x → ⊥) → IsFeasible s component linear → ⊥
  unsolved_here low e h = unsolved_infeasible s edges inside.0 component arcs linear (length linear) chained are inside.1 inside.2
      (subst (λ (z : ℕ). All (IsArc z) arcs) (ap length e ∙ length-map-range_with_len (λ (k : ℕ). pos 0) 0 (length linear)) (inner_fit low e))
      (λ x g. h x (subst (λ (z : List ℤ). Solves arcs z x) (sym e) g))
