use Rattle.std.proofs.Common.{rules, ◌≡◌, ◌<◌, ◌≤◌, sym, subst, ℕ, ℤ, List, map, length, All, arith, inl, Option, IfNone}
use Rattle.av_flat.specs.Trees.{view_system}
use Rattle.av_flat.specs.Nodes.{nodes}
use Rattle.av_depend.specs.Components.{ReadsNode, AreComponents}
use Rattle.av_sched.specs.Offsets.{AreOffsets, AreVectors, AreLeastOffsets}
use Rattle.av_sched.specs.Choices.{candidates, IsFeasible}
use Rattle.av_sched.specs.First.{IsFirstChoice}
use Rattle.av_tree.specs.Points.{Point}
use Rattle.std.proofs.lemmas.List.Elements.{All-weaker}
use Rattle.av_sched.proofs.Whole.{not_none}
use Rattle.std.proofs.lemmas.Option.{slice_get_within}
use Rattle.std.proofs.lemmas.Grind.{common_steps}
use Rattle.av_sched.specs.inner.FirstChoices.{AreFirstChoices, IsFirstInfeasible, IsStuck}
use Rattle.av_sched.specs.SchedFaults.{HasManyCandidates}
use Rattle.av_sched.proofs.Inside.{vectors_of}
use Rattle.av_sched.proofs.Schedule.{is_schedule}
use Rattle.av_sched.proofs.Faulting.{first_schedule, no_fault, stuck_only, wide_only}
use Rattle.av_sched.proofs.searching.first_times.Goals as goal

pub returns-in-Some-clause-refused : goal.returns-in-Some-clause-refused
returns-in-Some-clause-refused c = λ f is other.
    let s = view_system c.args.flat.now in
    let h : HasManyCandidates s c.args.reach.size c.in-Some.number = search rules in
    let e = wide_only s c.args.reach.size c.in-Some.number h f is other in
    inl cc

pub components_of-requires-clause-linear : goal.components_of-requires-clause-linear
components_of-requires-clause-linear c =
    let s = view_system c.args.flat.now in
    subst (AreVectors s 4) (sym c.deref.ensures.value) (vectors_of s c.args.reach.size c.in_ok-start.start.items c.args.reach.most (c.in_ok-start.ensures c.args.reach.size c.args.reach.least))

pub stuck_at-requires-clause-within : goal.stuck_at-requires-clause-within
stuck_at-requires-clause-within c =
    let cs = c.in_ok-components.components in
    let infeasible : IsFirstInfeasible (view_system c.args.flat.now) c.args.reach.size cs c.in-Infeasible.k = search rules in
    subst (λ (xs : List (List ℕ)). c.in-Infeasible.k < length xs) (sym c.as_slice-in-Infeasible.ensures) (slice_get_within cs c.in-Infeasible.k infeasible.component infeasible.is)

pub returns-in-Infeasible-clause-fault : goal.returns-in-Infeasible-clause-fault
returns-in-Infeasible-clause-fault c =
    let s = view_system c.args.flat.now in
    let cs = c.in_ok-components.components in
    let few : All (λ d. candidates s c.args.reach.size d ≤ 4194304) cs = search rules in
    let infeasible : IsFirstInfeasible s c.args.reach.size cs c.in-Infeasible.k = search rules in
    let stuck : IsStuck s c.args.reach.size cs c.in-Infeasible.k = record { small = c.args.reach.most; few = few; infeasible = infeasible } in
    c.in_ok-name-in-Infeasible.ensures c.args.reach.size (subst (λ (xs : List (List ℕ)). IsStuck s c.args.reach.size xs c.in-Infeasible.k) (sym c.as_slice-in-Infeasible.ensures) stuck)

pub returns-in-Infeasible-clause-refused : goal.returns-in-Infeasible-clause-refused
returns-in-Infeasible-clause-refused c = λ f is other.
    let s = view_system c.args.flat.now in
    let cs = c.in_ok-components.components in
    let are : AreComponents (length (nodes s)) (ReadsNode s) cs = search rules in
    let few : All (λ d. candidates s c.args.reach.size d ≤ 4194304) cs = search rules in
    let infeasible : IsFirstInfeasible s c.args.reach.size cs c.in-Infeasible.k = search rules in
    let stuck : IsStuck s c.args.reach.size cs c.in-Infeasible.k = record { small = c.args.reach.most; few = few; infeasible = infeasible } in
    let h = c.in_ok-name-in-Infeasible.ensures c.args.reach.size (subst (λ (xs : List (List ℕ)). IsStuck s c.args.reach.size xs c.in-Infeasible.k) (sym c.as_slice-in-Infeasible.ensures) stuck) in
    let e = stuck_only s c.args.reach.size cs c.in_ok-name-in-Infeasible.name are few h f is other in
    inl cc

pub offsets-requires-clause-linear : goal.offsets-requires-clause-linear
offsets-requires-clause-linear c =
    let s = view_system c.args.flat.now in
    let cs = c.in_ok-components.components in
    let chosen : AreFirstChoices s c.args.reach.size cs c.in-Found.linear.items = search rules in
    subst (AreVectors s 4) (sym c.deref-in-Found.ensures.value) (vectors_of s c.args.reach.size c.in-Found.linear.items c.args.reach.most chosen.are)

-- the components are feasible, so offsets exist
pub unreachable-requires : goal.unreachable-requires
unreachable-requires c =
    let s = view_system c.args.flat.now in
    let cs = c.in_ok-components.components in
    let linear = c.in-Found.linear.items in
    let are : AreComponents (length (nodes s)) (ReadsNode s) cs = search rules in
    let chosen : AreFirstChoices s c.args.reach.size cs linear = search rules in
    let vectors = vectors_of s c.args.reach.size linear c.args.reach.most chosen.are in
    let feasible = All-weaker (λ d. IsFirstChoice s c.args.reach.size d linear) (λ d. IsFeasible s d linear) (λ d h. h.feasible) cs chosen.first in
    let none = subst (λ (o : Option (List ℤ)). IfNone o ((x : List ℤ) → AreOffsets s c.deref-in-Found.result.now x → ⊥)) c.in-None-2.is c.in_ok-found-in-Found.ensures.none in
    not_none s c.args.edges.now linear c.requires.chained c.requires.proper c.requires.edges vectors cs are feasible
    (λ x h. none x (subst (λ (ps : List Point). AreOffsets s ps x) (sym c.deref-in-Found.ensures.value) h))

pub returns-in-Some-2-clause-first : goal.returns-in-Some-2-clause-first
returns-in-Some-2-clause-first c =
    let s = view_system c.args.flat.now in
    let cs = c.in_ok-components.components in
    let linear = c.in-Found.linear.items in
    let times = c.in_ok-times_of-in-Some-2.field-0 in
    let are : AreComponents (length (nodes s)) (ReadsNode s) cs = search rules in
    let chosen : AreFirstChoices s c.args.reach.size cs linear = search rules in
    let le : map (λ t. t.linear) times ≡ linear = search rules in
    let oe : map (λ t. t.offset) times ≡ c.in-Some-2.found = search rules in
    let least : AreLeastOffsets s linear c.in-Some-2.found = search rules in
    first_schedule s c.args.reach.size cs times linear are le chosen (subst (AreLeastOffsets s linear) (sym oe) least)

pub returns-in-Some-2-clause-legal : goal.returns-in-Some-2-clause-legal
returns-in-Some-2-clause-legal c =
    let s = view_system c.args.flat.now in
    let times = c.in_ok-times_of-in-Some-2.field-0 in
    record {
      chained = c.requires.chained;
      proper = c.requires.proper;
      schedule = is_schedule s c.args.reach.size 4 times c.args.reach.most (returns-in-Some-2-clause-first c);
      helpers = λ k d (l : k < 0). absurd (omega (arith, l));
    }

pub returns-in-Some-2-clause-refused : goal.returns-in-Some-2-clause-refused
returns-in-Some-2-clause-refused c = λ f is other.
    let s = view_system c.args.flat.now in
    let cs = c.in_ok-components.components in
    let are : AreComponents (length (nodes s)) (ReadsNode s) cs = search rules in
    let few : All (λ d. candidates s c.args.reach.size d ≤ 4194304) cs = search rules in
    let chosen : AreFirstChoices s c.args.reach.size cs c.in-Found.linear.items = search rules in
    absurd (no_fault s c.args.reach.size cs c.in-Found.linear.items c.requires.chained c.args.reach.most are few chosen f is other)

pub stuck_at-requires-clause-components : goal.stuck_at-requires-clause-components
stuck_at-requires-clause-components c = grind (arith, common_steps)

pub choose_all-requires-clause-components : goal.choose_all-requires-clause-components
choose_all-requires-clause-components c = grind (arith, common_steps)

pub too_many-requires : goal.too_many-requires
too_many-requires c = grind (arith, common_steps)

pub times_of-requires : goal.times_of-requires
times_of-requires c = grind (arith, common_steps)

pub offsets-requires-clause-proper : goal.offsets-requires-clause-proper
offsets-requires-clause-proper c = assumption

pub offsets-requires-clause-chained : goal.offsets-requires-clause-chained
offsets-requires-clause-chained c = assumption
