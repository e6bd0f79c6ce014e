-- What places and spans say of schedules with given first parts: there is none, or none is shorter than a number of cycles.
use Rattle.std.proofs.Common.{◌≡◌, ℕ, ◌<◌, ◌≤◌, ℤ, pos, ◌+ℤ◌, ◌≤ℤ◌, ◌<ℤ◌, ⊎_elim, List, length, take, get_or, sym, subst, ◌∙◌, arith, All}
use Rattle.std.specs.Prelude.{slice_index_or}
use Rattle.std.proofs.lemmas.Int.{ints}
use Rattle.std.proofs.lemmas.List.{get_or-take, length-take-le}
use Rattle.av_affine.specs.Numbers.{dot}
use Rattle.av_tree.specs.Points.{Point}
use Rattle.av_flat.specs.Trees.{FlatSystem}
use Rattle.av_flat.specs.Nodes.{nodes}
use Rattle.av_flat.specs.Chained.{IsChained}
use Rattle.av_depend.specs.declared.edge.Edge.{Edge}
use Rattle.av_depend.specs.Edges.{AreEdgesOf}
use Rattle.av_sched.specs.declared.arc.Arc.{Arc}
use Rattle.av_sched.specs.Offsets.{part, AreOffsets}
use Rattle.av_sched.specs.Choices.{IsFeasible}
use Rattle.av_sched.specs.Arcs.{at, Solves, IsLeastSolution}
use Rattle.av_sched.specs.Parts.{Agrees}
use Rattle.av_sched.specs.Witnesses.{IsWitnessArc}
use Rattle.av_sched.proofs.Witnesses.{late_there, witnesses_fit}
use Rattle.av_best.specs.declared.span.PartSpan.{PartSpan}
use Rattle.av_best.specs.Least.{all_nodes}
use Rattle.av_best.specs.inner.Spans.{AreSpanned, AreLows, IsLeastAbove}
use Rattle.av_best.specs.inner.Joint.{IsForbidden, IsBound}
use Rattle.av_best.proofs.Every.{agreed, node_there}

abbrev pub feasible_of : (s : FlatSystem) (component : List ℕ) (linear : List Point) (off : List ℤ) → AreOffsets s linear off → IsFeasible s component linear
feasible_of s component linear off h = (at off, λ n z k y pair a b. h.later n z k y pair)

module _ (s : FlatSystem) (edges : List Edge) (k : ℕ) (linear : List Point) (chained : IsChained s) (are : AreEdgesOf s edges) (few : k ≤ length (nodes s)) (arcs : List Arc)
    (witnesses : All (IsWitnessArc edges (all_nodes s) k linear) arcs) (spans : List PartSpan) (spanned : AreSpanned s k linear spans) (low : List ℤ) (lows : AreLows k spans low) (d : PartSpan) where
  -- offsets of a schedule with the first parts satisfy the arcs of the places
  pub solves_there : (other : List Point) (off : List ℤ) → Agrees (all_nodes s) k linear other → AreOffsets s other off → Solves arcs low (take k off)
  solves_there other off agrees h = record {
    size = length-take-le k off (let e = h.one_each in omega (arith, few, e)) ∙ sym lows.one_each;
    above = λ j l.
        let m : j < k = (let e = lows.one_each in omega (arith, l, e)) in
        let sp = spanned.each j d m in
        let b = h.start j sp.low_point sp.low_is in
        let own : pos 0 ≤ℤ (dot (part linear j) sp.low_point +ℤ at off j) = subst (λ (a : Point). pos 0 ≤ℤ (dot a sp.low_point +ℤ at off j)) (agreed s k linear other few agrees j m) b in
        let t = sp.low_taken in
        let n = lows.each j d m in
        let g : at (take k off) j ≡ at off j = get_or-take k off j (pos 0) m in
        omega (arith, ints, own, t, n, g);
    late = λ i e l.
        let arc = get_or arcs i e in
        let fit = witnesses_fit s edges (all_nodes s) k linear chained are arcs witnesses i e l in
        let late = late_there s edges (all_nodes s) k linear chained are arc (witnesses i e l) other agrees (feasible_of s (all_nodes s) other off h) in
        let late1 = subst (λ (n : ℕ). (at off n +ℤ arc.weight) ≤ℤ at off (slice_index_or (all_nodes s) arc.reader 0)) (node_there s arc.read 0 (let r = fit.read in omega (arith, r, few))) late in
        let late2 = subst (λ (n : ℕ). (at off arc.read +ℤ arc.weight) ≤ℤ at off n) (node_there s arc.reader 0 (let r = fit.reader in omega (arith, r, few))) late1 in
        let g : at (take k off) arc.read ≡ at off arc.read = get_or-take k off arc.read (pos 0) fit.read in
        let f : at (take k off) arc.reader ≡ at off arc.reader = get_or-take k off arc.reader (pos 0) fit.reader in
        omega (arith, ints, late2, g, f);
  }

  pub forbidden_there : ((x : List ℤ) → Solves arcs low x → ⊥) → IsForbidden s k linear
  forbidden_there none = λ other off agrees h. none (take k off) (solves_there other off agrees h)

  pub bound_there : (c : ℕ) (off : List ℤ) (m : ℕ) → IsLeastSolution arcs low off → IsLeastAbove off spans k m → IsBound s c k linear m
  bound_there c off m least above = λ other n parts agrees f. ⊎_elim
      (λ e. omega (arith, e))
      (λ r.
      let j = r.0 in
      let l = r.1 in
      let sp = spanned.each j d l in
      let x = f.offsets in
      let before = f.before j sp.high_point sp.high_is in
      let own : (dot (part linear j) sp.high_point +ℤ at x j) <ℤ pos n = subst (λ (a : Point). (dot a sp.high_point +ℤ at x j) <ℤ pos n) (agreed s k linear other few agrees j l) before in
      let t = sp.high_taken in
      let q = r.2 d in
      let g : at (take k x) j ≡ at x j = get_or-take k x j (pos 0) l in
      let b = least.least (take k x) (solves_there other x agrees f.are) j (let e = lows.one_each in omega (arith, l, e)) in
      omega (arith, ints, own, t, q, g, b)) above.reached
