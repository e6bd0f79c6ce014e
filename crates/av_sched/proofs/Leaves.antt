-- A choice is feasible for a component exactly where the arcs of the edges inside it have a solution.
use Rattle.std.proofs.Common.{ℕ, ℤ, pos, ◌+ℤ◌, ◌-ℤ◌, ◌≤ℤ◌, List, get_or, sym, subst, ◌∙◌, arith, All}
use Rattle.std.specs.Prelude.{Contains}
use Rattle.std.specs.List.{AllZip}
use Rattle.std.proofs.lemmas.Int.{ints}
use Rattle.av_affine.specs.Numbers.{dot}
use Rattle.av_affine.specs.Maps.{image}
use Rattle.av_tree.specs.Points.{Point}
use Rattle.av_flat.specs.Trees.{FlatSystem}
use Rattle.av_flat.specs.Chained.{IsChained}
use Rattle.av_depend.specs.declared.edge.Edge.{Edge}
use Rattle.av_depend.specs.Edges.{AreEdgesOf}
use Rattle.av_depend.proofs.Pairs.{covered_by, listed}
use Rattle.av_sched.specs.declared.arc.Arc.{Arc}
use Rattle.av_sched.specs.Arcs.{at, IsLate, Solves, IsArc}
use Rattle.av_sched.specs.inner.Rounds.{zeros}
use Rattle.av_sched.specs.Offsets.{part}
use Rattle.av_sched.specs.Leads.{lead, IsArcOf}
use Rattle.av_sched.specs.Choices.{IsFeasible}
use Rattle.av_sched.specs.inner.Walk.{AreInside}
use Rattle.av_sched.proofs.Bridge.{arc_in, arc_from, lead_mid, arc_below}
use Rattle.av_sched.proofs.Walking.{unsolvable}

module _ (s : FlatSystem) (edges inner : List Edge) (component : List ℕ) (arcs : List Arc) (linear : List Point) (n : ℕ) (chained : IsChained s) (are_edges : AreEdgesOf s edges) (inside : AreInside edges component inner)
    (are_arcs : AllZip (IsArcOf linear) inner arcs) where
  pub solved_feasible : (x : List ℤ) → Solves arcs (zeros n) x → IsFeasible s component linear
  solved_feasible x h = (
    at x,
    λ m z k y pair cm ck.
        let c = covered_by s edges m z k y chained are_edges pair in
        let e = c.edge in
        let in_consumer : Contains component e.consumer = subst (Contains component) (sym c.consumer) cm in
        let in_producer : Contains component e.producer = subst (Contains component) (sym c.producer) ck in
        let i = inside.all e c.among in_consumer in_producer in
        let r = arc_from linear inner arcs i.0 e are_arcs i.1 i.2 in
        let lead_below : (pos 1 -ℤ r.arc.weight) ≤ℤ lead (part linear e.consumer) (part linear e.producer) e.map z =
        arc_below linear e r.arc r.is z (c.least (lead (part linear e.consumer) (part linear e.producer) e.map) (lead_mid (part linear e.consumer) (part linear e.producer) e.map)) in
        let late1 = subst (λ (a : Arc). IsLate x a) r.among.2 (h.late r.among.0 r.arc r.among.1) in
        let late2 = subst (λ (j : ℕ). (at x j +ℤ r.arc.weight) ≤ℤ at x r.arc.reader) (r.is.read ∙ c.producer) late1 in
        let late3 = subst (λ (j : ℕ). (at x k +ℤ r.arc.weight) ≤ℤ at x j) (r.is.reader ∙ c.consumer) late2 in
        let w1 = subst (λ (j : ℕ). (pos 1 -ℤ r.arc.weight) ≤ℤ lead (part linear j) (part linear e.producer) e.map z) c.consumer lead_below in
        let w2 = subst (λ (j : ℕ). (pos 1 -ℤ r.arc.weight) ≤ℤ lead (part linear m) (part linear j) e.map z) c.producer w1 in
        let w3 : (pos 1 -ℤ r.arc.weight) ≤ℤ (dot (part linear m) z -ℤ dot (part linear k) y) = subst (λ (p : Point). (pos 1 -ℤ r.arc.weight) ≤ℤ (dot (part linear m) z -ℤ dot (part linear k) p)) (sym c.image_is) w2 in
        omega (arith, ints, late3, w3),
  )

  pub unsolved_infeasible : All (IsArc n) arcs → ((x : List ℤ) → Solves arcs (zeros n) x → ⊥) → IsFeasible s component linear → ⊥
  unsolved_infeasible fit none f = unsolvable arcs n fit none f.0 (λ i d l.
      let arc = get_or arcs i d in
      let r = arc_in linear inner arcs i d are_arcs l in
      let e = r.edge in
      let own = inside.among e r.among in
      let (j, z, m, is, t) = r.is.weight.taken in
      let pair = listed s edges e z chained are_edges own.0 (j, m, is) in
      let later = f.1 e.consumer z e.producer (image e.map.rows z) pair own.1 own.2 in
      let late : (f.0 e.producer +ℤ arc.weight) ≤ℤ f.0 e.consumer = omega (arith, ints, later, t) in
      subst (λ (k : ℕ). (f.0 k +ℤ arc.weight) ≤ℤ f.0 arc.reader) (sym r.is.read) (subst (λ (k : ℕ). (f.0 e.producer +ℤ arc.weight) ≤ℤ f.0 k) (sym r.is.reader) late))
