use Rattle.std.proofs.Common.{◌∙◌, sym, subst, List, ℤ, length, Vec, Global, Option, IfSome, IfNone}
use Rattle.std.specs.List.{AllZip}
use Rattle.av_flat.specs.Trees.{view_system}
use Rattle.av_sched.specs.declared.arc.Arc.{Arc}
use Rattle.av_sched.specs.Leads.{IsArcOf}
use Rattle.av_sched.proofs.Usable.{usable}
use Rattle.av_sched.specs.Arcs.{Solves, IsLeastSolution}
use Rattle.av_sched.specs.Offsets.{AreLeastOffsets}
use Rattle.av_sched.proofs.Bridge.{arcs_fit, least_offsets, no_offsets}
use Rattle.av_sched.proofs.placing.offsets.Goals as goal

pub arcs_of-requires : goal.arcs_of-requires
arcs_of-requires c = usable (view_system c.args.flat.now) c.args.edges.now c.args.linear.now c.requires.chained c.requires.proper c.requires.edges c.requires.linear

pub least-requires : goal.least-requires
least-requires c =
    let s = view_system c.args.flat.now in
    let linear = c.args.linear.now in
    let u = usable s c.args.edges.now linear c.requires.chained c.requires.proper c.requires.edges c.requires.linear in
    let zip = subst (λ (xs : List Arc). AllZip (IsArcOf linear) c.args.edges.now xs) (sym c.deref.ensures.value) c.in_ok-arcs.ensures in
    record {
      arcs = arcs_fit linear c.args.edges.now c.deref.result.now (length c.in_ok-low.low) (c.requires.linear.one_each ∙ sym c.in_ok-low.ensures.starts.one_each) u zip;
      low = c.in_ok-low.ensures.small;
    }

pub returns-in-Some : goal.returns-in-Some
returns-in-Some c =
    let s = view_system c.args.flat.now in
    let linear = c.args.linear.now in
    let zip = subst (λ (xs : List Arc). AllZip (IsArcOf linear) c.args.edges.now xs) (sym c.deref.ensures.value) c.in_ok-arcs.ensures in
    let found = subst (λ (o : Option (Vec ℤ Global)). IfSome o (λ off. IsLeastSolution c.deref.result.now c.in_ok-low.low off.items)) c.in-Some.is c.in_ok-found.ensures.some in
    let least = least_offsets s c.args.edges.now c.deref.result.now linear c.in_ok-low.low c.requires.chained c.requires.edges zip c.in_ok-low.ensures.starts c.in-Some.found.items found in
    record {
      least = subst (λ (xs : List ℤ). AreLeastOffsets s linear xs) (sym (c.in_ok-list_of-in-Some.ensures ∙ c.deref-in-Some.ensures.value)) least;
      none = tt;
    }

pub returns : goal.returns
returns c =
    let s = view_system c.args.flat.now in
    let linear = c.args.linear.now in
    let zip = subst (λ (xs : List Arc). AllZip (IsArcOf linear) c.args.edges.now xs) (sym c.deref.ensures.value) c.in_ok-arcs.ensures in
    let nothing = subst (λ (o : Option (Vec ℤ Global)). IfNone o ((x : List ℤ) → Solves c.deref.result.now c.in_ok-low.low x → ⊥)) c.in-None.is c.in_ok-found.ensures.none in
    record {
      least = tt;
      none = no_offsets s c.args.edges.now c.deref.result.now linear c.in_ok-low.low c.requires.chained c.requires.edges zip c.in_ok-low.ensures.starts nothing;
    }
