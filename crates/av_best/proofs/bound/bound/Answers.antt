use Rattle.std.proofs.Common.{◌≡◌, ◌≤◌, pos, ℕ, ℤ, List, length, sym, subst, arith, rules, All}
use Rattle.av_flat.specs.Trees.{view_system}
use Rattle.av_flat.specs.Nodes.{nodes}
use Rattle.av_sched.specs.declared.arc.Arc.{Arc}
use Rattle.av_sched.specs.Arcs.{IsArc, Solves, IsLeastSolution}
use Rattle.av_sched.specs.Witnesses.{IsWitnessArc}
use Rattle.av_sched.proofs.Inside.{vectors_of}
use Rattle.av_sched.proofs.Witnesses.{usable_witnesses, witnesses_fit}
use Rattle.av_best.specs.declared.span.PartSpan.{PartSpan}
use Rattle.av_best.specs.inner.Spans.{IsLeastAbove}
use Rattle.av_best.proofs.Every.{as_many}
use Rattle.av_best.proofs.Spanning.{small_spans}
use Rattle.av_best.proofs.Lasting.{lows_small}
use Rattle.av_best.proofs.Bounding.{forbidden_there, bound_there}
use Rattle.av_best.proofs.bound.bound.Goals as goal

pub witness_arcs-requires : goal.witness_arcs-requires
witness_arcs-requires c =
    let s = view_system c.args.space.now.flat.now in
    usable_witnesses s c.args.space.now.edges.now c.args.space.now.nodes.now c.args.linear.now c.requires.space.chained c.requires.space.proper c.requires.space.edges (vectors_of s c.args.space.now.reach.size c.args.linear.now c.args.space.now.reach.most c.requires.linear) c.args.pool.now c.requires.pool

pub raise_to_least-requires-clause-arcs : goal.raise_to_least-requires-clause-arcs
raise_to_least-requires-clause-arcs c =
    let s = view_system c.args.space.now.flat.now in
    let arcs = c.witness_arcs.new.arcs.items in
    let many : length c.set_starts.new.offsets.items ≡ c.args.level = c.in_ok-set_starts.ensures.one_each in
    let fit = witnesses_fit s c.args.space.now.edges.now c.args.space.now.nodes.now c.args.level c.args.linear.now c.requires.space.chained c.requires.space.edges arcs (c.in_ok-witness_arcs.ensures c.args.space.now.edges.now c.requires.pool) in
    subst (All (IsArc (length c.set_starts.new.offsets.items))) (sym c.deref.ensures.value) (subst (λ (n : ℕ). All (IsArc n) arcs) (sym many) fit)

pub raise_to_least-requires-clause-low : goal.raise_to_least-requires-clause-low
raise_to_least-requires-clause-low c =
    let s = view_system c.args.space.now.flat.now in
    let d : PartSpan = record { low = pos 0; high = pos 0 } in
    lows_small c.args.level c.args.spans.now c.set_starts.new.offsets.items d (small_spans s c.args.level c.args.linear.now c.args.spans.now c.requires.spans) c.in_ok-set_starts.ensures

pub returns-then-not-branch : goal.returns-then-not-branch
returns-then-not-branch c =
    let s = view_system c.args.space.now.flat.now in
    let level = c.args.level in
    let linear = c.args.linear.now in
    let arcs = c.witness_arcs.new.arcs.items in
    let low = c.set_starts.new.offsets.items in
    let d : PartSpan = record { low = pos 0; high = pos 0 } in
    let few : level ≤ length (nodes s) = (let l = subst (λ (ns : List ℕ). level ≤ length ns) c.requires.space.nodes c.requires.level in let e = as_many s in omega (arith, l, e)) in
    let witnesses = subst (λ (ns : List ℕ). All (IsWitnessArc c.args.space.now.edges.now ns level linear) arcs) c.requires.space.nodes (c.in_ok-witness_arcs.ensures c.args.space.now.edges.now c.requires.pool) in
    forbidden_there s c.args.space.now.edges.now level linear c.requires.space.chained c.requires.space.edges few arcs witnesses c.args.spans.now c.requires.spans low c.in_ok-set_starts.ensures d
    (λ x g. c.in_ok-raise_to_least.ensures.none (λ t. let f = c.if-not-branch.true in cc) x (subst (λ (xs : List Arc). Solves xs low x) (sym c.deref.ensures.value) g))

pub returns : goal.returns
returns c =
    let s = view_system c.args.space.now.flat.now in
    let level = c.args.level in
    let linear = c.args.linear.now in
    let arcs = c.witness_arcs.new.arcs.items in
    let low = c.set_starts.new.offsets.items in
    let off = c.raise_to_least.new.off.items in
    let d : PartSpan = record { low = pos 0; high = pos 0 } in
    let few : level ≤ length (nodes s) = (let l = subst (λ (ns : List ℕ). level ≤ length ns) c.requires.space.nodes c.requires.level in let e = as_many s in omega (arith, l, e)) in
    let witnesses = subst (λ (ns : List ℕ). All (IsWitnessArc c.args.space.now.edges.now ns level linear) arcs) c.requires.space.nodes (c.in_ok-witness_arcs.ensures c.args.space.now.edges.now c.requires.pool) in
    let least = subst (λ (xs : List Arc). IsLeastSolution xs low off) c.deref.ensures.value (c.in_ok-raise_to_least.ensures.some (search rules)) in
    let above = subst (λ (xs : List ℤ). IsLeastAbove xs c.args.spans.now level c.least_above.result) c.deref-2.ensures.value c.least_above.ensures in
    bound_there s c.args.space.now.edges.now level linear c.requires.space.chained c.requires.space.edges few arcs witnesses c.args.spans.now c.requires.spans low c.in_ok-set_starts.ensures d c.args.space.now.reach.size off c.least_above.result least above
