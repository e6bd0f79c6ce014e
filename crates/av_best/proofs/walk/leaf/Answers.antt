use Rattle.std.proofs.Common.{◌≡◌, ◌∙◌, pos, ℕ, ℤ, List, Some, length, sym, ap, subst, arith, rules}
use Rattle.std.specs.List.{AllZip}
use Rattle.av_tree.specs.Points.{Point}
use Rattle.av_flat.specs.Trees.{view_system}
use Rattle.av_sched.specs.declared.arc.Arc.{Arc}
use Rattle.av_sched.specs.Offsets.{AreLeastOffsets}
use Rattle.av_sched.specs.Choices.{AreLinearParts}
use Rattle.av_sched.specs.Arcs.{Solves, IsLeastSolution}
use Rattle.av_sched.specs.Leads.{IsArcOf}
use Rattle.av_sched.specs.Prices.{IsSpent}
use Rattle.av_sched.proofs.Inside.{vectors_of}
use Rattle.av_sched.proofs.Usable.{usable}
use Rattle.av_sched.proofs.Bridge.{arcs_fit, least_offsets, no_offsets}
use Rattle.av_best.specs.declared.best.Best.{Best}
use Rattle.av_best.specs.declared.span.PartSpan.{PartSpan}
use Rattle.av_best.specs.Lengths.{HasLength}
use Rattle.av_best.specs.Least.{all_nodes}
use Rattle.av_best.specs.inner.Spans.{AreSpanned, AreLows, IsLeastAbove}
use Rattle.av_best.specs.inner.Joint.{HasWalked, IsBound, IsChosen}
use Rattle.av_best.proofs.Every.{as_many, nodes_there}
use Rattle.av_best.proofs.Spanning.{small_spans}
use Rattle.av_best.proofs.Lasting.{lows_small}
use Rattle.av_best.proofs.Leaving.{leaf_kept, leaf_barred, leaf_taken, least_bound, starts_there, length_there}
use Rattle.av_best.proofs.walk.leaf.Goals as goal

pub returns-then-not-branch-clause-walked : goal.returns-then-not-branch-clause-walked
returns-then-not-branch-clause-walked c =
    let s = view_system c.args.space.now.flat.now in
    let size = c.args.space.now.reach.size in
    let linear = c.args.linear.now in
    let bound = subst (λ (ns : List ℕ). IsBound s size (length ns) linear c.args.estimate.cycles) c.requires.space.nodes c.requires.bound in
    subst (λ (ns : List ℕ). HasWalked s size (length ns) linear c.args.best c.args.best) (sym c.requires.space.nodes)
    (leaf_kept s size linear c.requires.linear c.args.estimate.cycles c.args.best c.requires.best bound
    (λ a. let t = (c.in_ok-is_better.ensures).1 a in let f = c.if-not-branch.true in cc))

pub arcs_of-requires : goal.arcs_of-requires
arcs_of-requires c =
    let s = view_system c.args.space.now.flat.now in
    usable s c.args.space.now.edges.now c.args.linear.now c.requires.space.chained c.requires.space.proper c.requires.space.edges (vectors_of s c.args.space.now.reach.size c.args.linear.now c.args.space.now.reach.most c.requires.linear)

pub raise_to_least-requires-clause-arcs : goal.raise_to_least-requires-clause-arcs
raise_to_least-requires-clause-arcs c =
    let s = view_system c.args.space.now.flat.now in
    let size = c.args.space.now.reach.size in
    let ns = c.args.space.now.nodes.now in
    let linear = c.args.linear.now in
    let spans = c.args.spans.now in
    let edges = c.args.space.now.edges.now in
    let low = c.set_starts.new.offsets.items in
    let d : PartSpan = record { low = pos 0; high = pos 0 } in
    let lows : AreLows (length ns) spans low = search rules in
    let u = usable s edges linear c.requires.space.chained c.requires.space.proper c.requires.space.edges (vectors_of s size linear c.args.space.now.reach.most c.requires.linear) in
    let zip = subst (λ (xs : List Arc). AllZip (IsArcOf linear) edges xs) (sym c.deref.ensures.value) c.in_ok-arcs.ensures in
    let one = c.requires.linear.one_each in
    let many = as_many s in
    let e = ap length c.requires.space.nodes in
    let l = lows.one_each in
    arcs_fit linear edges c.deref.result.now (length low) (omega (arith, one, many, e, l)) u zip

pub raise_to_least-requires-clause-low : goal.raise_to_least-requires-clause-low
raise_to_least-requires-clause-low c =
    let s = view_system c.args.space.now.flat.now in
    let size = c.args.space.now.reach.size in
    let ns = c.args.space.now.nodes.now in
    let linear = c.args.linear.now in
    let spans = c.args.spans.now in
    let edges = c.args.space.now.edges.now in
    let low = c.set_starts.new.offsets.items in
    let d : PartSpan = record { low = pos 0; high = pos 0 } in
    let lows : AreLows (length ns) spans low = search rules in
    lows_small (length ns) spans low d (small_spans s (length ns) linear spans c.requires.spans) lows

pub learn-requires-clause-usable : goal.learn-requires-clause-usable
learn-requires-clause-usable c =
    let s = view_system c.args.space.now.flat.now in
    usable s c.args.space.now.edges.now c.args.linear.now c.requires.space.chained c.requires.space.proper c.requires.space.edges (vectors_of s c.args.space.now.reach.size c.args.linear.now c.args.space.now.reach.most c.requires.linear)

pub learn-requires-clause-nodes : goal.learn-requires-clause-nodes
learn-requires-clause-nodes c = nodes_there (view_system c.args.space.now.flat.now) c.args.space.now.nodes.now c.requires.space.nodes

pub learn-requires-clause-many : goal.learn-requires-clause-many
learn-requires-clause-many c =
    c.requires.linear.one_each ∙ sym (as_many (view_system c.args.space.now.flat.now)) ∙ sym (ap length c.requires.space.nodes)

pub learn-requires-then-not-branch-3-clause-usable : goal.learn-requires-then-not-branch-3-clause-usable
learn-requires-then-not-branch-3-clause-usable c =
    let s = view_system c.args.space.now.flat.now in
    usable s c.args.space.now.edges.now c.args.linear.now c.requires.space.chained c.requires.space.proper c.requires.space.edges (vectors_of s c.args.space.now.reach.size c.args.linear.now c.args.space.now.reach.most c.requires.linear)

pub learn-requires-then-not-branch-3-clause-nodes : goal.learn-requires-then-not-branch-3-clause-nodes
learn-requires-then-not-branch-3-clause-nodes c = nodes_there (view_system c.args.space.now.flat.now) c.args.space.now.nodes.now c.requires.space.nodes

pub learn-requires-then-not-branch-3-clause-many : goal.learn-requires-then-not-branch-3-clause-many
learn-requires-then-not-branch-3-clause-many c =
    c.requires.linear.one_each ∙ sym (as_many (view_system c.args.space.now.flat.now)) ∙ sym (ap length c.requires.space.nodes)

pub returns-then-not-branch-2-clause-walked : goal.returns-then-not-branch-2-clause-walked
returns-then-not-branch-2-clause-walked c =
    let s = view_system c.args.space.now.flat.now in
    let size = c.args.space.now.reach.size in
    let ns = c.args.space.now.nodes.now in
    let linear = c.args.linear.now in
    let spans = c.args.spans.now in
    let edges = c.args.space.now.edges.now in
    let low = c.set_starts.new.offsets.items in
    let d : PartSpan = record { low = pos 0; high = pos 0 } in
    let lows : AreLows (length ns) spans low = search rules in
    let arcs = c.in_ok-arcs.arcs.items in
    let zip = c.in_ok-arcs.ensures in
    let spanned = subst (λ (xs : List ℕ). AreSpanned s (length xs) linear spans) c.requires.space.nodes c.requires.spans in
    let starts = starts_there s linear spans spanned d low (subst (λ (xs : List ℕ). AreLows (length xs) spans low) c.requires.space.nodes lows) in
    let none = no_offsets s edges arcs linear low c.requires.space.chained c.requires.space.edges zip starts
    (λ x h. c.in_ok-raise_to_least.ensures.none (λ t. let f = c.if-not-branch-2.true in cc) x (subst (λ (xs : List Arc). Solves xs low x) (sym c.deref.ensures.value) h)) in
    subst (λ (xs : List ℕ). HasWalked s size (length xs) linear c.args.best c.args.best) (sym c.requires.space.nodes) (leaf_barred s size linear c.requires.linear c.args.best c.requires.best none)

pub returns-then-not-branch-3-clause-walked : goal.returns-then-not-branch-3-clause-walked
returns-then-not-branch-3-clause-walked c =
    let s = view_system c.args.space.now.flat.now in
    let size = c.args.space.now.reach.size in
    let ns = c.args.space.now.nodes.now in
    let linear = c.args.linear.now in
    let spans = c.args.spans.now in
    let edges = c.args.space.now.edges.now in
    let low = c.set_starts.new.offsets.items in
    let d : PartSpan = record { low = pos 0; high = pos 0 } in
    let lows : AreLows (length ns) spans low = search rules in
    let arcs = c.in_ok-arcs.arcs.items in
    let zip = c.in_ok-arcs.ensures in
    let spanned = subst (λ (xs : List ℕ). AreSpanned s (length xs) linear spans) c.requires.space.nodes c.requires.spans in
    let starts = starts_there s linear spans spanned d low (subst (λ (xs : List ℕ). AreLows (length xs) spans low) c.requires.space.nodes lows) in
    let off = c.raise_to_least.new.off.items in
    let m = c.least_above-cycles.result in
    let solved = subst (λ (xs : List Arc). IsLeastSolution xs low off) c.deref.ensures.value (c.in_ok-raise_to_least.ensures.some (search rules)) in
    let least = least_offsets s edges arcs linear low c.requires.space.chained c.requires.space.edges zip starts off solved in
    let above : IsLeastAbove c.deref-2.result.now spans (length ns) m = search rules in
    let above1 = subst (λ (xs : List ℤ). IsLeastAbove xs spans (length ns) m) c.deref-2.ensures.value above in
    let above2 = subst (λ (xs : List ℕ). IsLeastAbove off spans (length xs) m) c.requires.space.nodes above1 in
    let has_length = length_there s linear spans spanned d off m least.are.start above2 in
    subst (λ (xs : List ℕ). HasWalked s size (length xs) linear c.args.best c.args.best) (sym c.requires.space.nodes)
    (leaf_kept s size linear c.requires.linear m c.args.best c.requires.best (least_bound s size linear c.requires.linear off m least has_length)
    (λ a. let t = (c.in_ok-is_better-2.ensures).1 a in let f = c.if-not-branch-3.true in cc))

pub returns-clause-walked : goal.returns-clause-walked
returns-clause-walked c =
    let s = view_system c.args.space.now.flat.now in
    let size = c.args.space.now.reach.size in
    let ns = c.args.space.now.nodes.now in
    let linear = c.args.linear.now in
    let spans = c.args.spans.now in
    let edges = c.args.space.now.edges.now in
    let low = c.set_starts.new.offsets.items in
    let d : PartSpan = record { low = pos 0; high = pos 0 } in
    let lows : AreLows (length ns) spans low = search rules in
    let arcs = c.in_ok-arcs.arcs.items in
    let zip = c.in_ok-arcs.ensures in
    let spanned = subst (λ (xs : List ℕ). AreSpanned s (length xs) linear spans) c.requires.space.nodes c.requires.spans in
    let starts = starts_there s linear spans spanned d low (subst (λ (xs : List ℕ). AreLows (length xs) spans low) c.requires.space.nodes lows) in
    let off = c.raise_to_least.new.off.items in
    let m = c.least_above-cycles.result in
    let solved = subst (λ (xs : List Arc). IsLeastSolution xs low off) c.deref.ensures.value (c.in_ok-raise_to_least.ensures.some (search rules)) in
    let least = least_offsets s edges arcs linear low c.requires.space.chained c.requires.space.edges zip starts off solved in
    let above : IsLeastAbove c.deref-2.result.now spans (length ns) m = search rules in
    let above1 = subst (λ (xs : List ℤ). IsLeastAbove xs spans (length ns) m) c.deref-2.ensures.value above in
    let above2 = subst (λ (xs : List ℕ). IsLeastAbove off spans (length xs) m) c.requires.space.nodes above1 in
    let has_length = length_there s linear spans spanned d off m least.are.start above2 in
    let new : Best = record { parts = c.in_ok-copy_points.field-0; offsets = c.raise_to_least.new.off; price = c.args.estimate.spent; cycles = m } in
    let is : new.parts.items ≡ linear = c.in_ok-copy_points.ensures in
    let ahead = (c.in_ok-is_better-2.ensures).0 (search rules) in
    let spent = subst (λ (xs : List ℕ). IsSpent s linear xs c.args.estimate.spent) c.requires.space.nodes c.requires.spent in
    let chosen : IsChosen s size new = record {
      are = subst (AreLinearParts s size) (sym is) c.requires.linear;
      offsets = subst (λ (ps : List Point). AreLeastOffsets s ps off) (sym is) least;
      has_length = subst (λ (ps : List Point). HasLength s ps off m) (sym is) has_length;
      spent = subst (λ (ps : List Point). IsSpent s ps (all_nodes s) c.args.estimate.spent) (sym is) spent;
    } in
    subst (λ (xs : List ℕ). HasWalked s size (length xs) linear c.args.best (Some new)) (sym c.requires.space.nodes) (leaf_taken s size linear c.requires.linear c.args.best new is c.requires.best chosen ahead)
