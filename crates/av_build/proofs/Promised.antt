-- The plan of the modules of an array's program is what is promised of plans of arrays.
use Rattle.std.proofs.Common.{◌≡◌, ℕ, List, map, ap, ◌∙◌, Result, Ok, Err}
use Rattle.std.specs.Prelude.{IfOk}
use Rattle.av_flat.specs.declared.timed.Timed.{Timed}
use Rattle.av_flat.specs.Legal.{IsLegal}
use Rattle.av_net.specs.declared.plan.Plan.{Plan}
use Rattle.av_net.specs.Designs.{IsSoundPlan}
use Rattle.av_net.specs.Flat.{flat_module}
use Rattle.av_space.specs.declared.cells.Cells.{Cells}
use Rattle.av_space.specs.declared.fault.SpaceFault.{SpaceFault}
use Rattle.av_space.specs.declared.fault.SpaceFault.TheVariants as fault
use Rattle.av_space.specs.SpaceFaults.{IsSpaceFault}
use Rattle.av_kinds.specs.declared.counter.Counter.{Counter}
use Rattle.av_kinds.specs.declared.planning.Modules.{Modules}
use Rattle.av_kinds.specs.Programs.{Program}
use Rattle.av_kinds.specs.Netlists.{plan_of, AreNetlistsOf}
use Rattle.av_kinds.specs.Forms.{AreFormedBy}
use Rattle.av_history.specs.Performing.{Array}
use Rattle.av_history.specs.Arranged.{IsArranged}
use Rattle.av_build.specs.ArrayPlans.{IsArrayPlan, IsCountingPlan}
use Rattle.av_build.specs.inner.Built.{array_of, IsProgrammed}
use Rattle.av_build.proofs.Connected.{arranged_array}
use Rattle.av_build.proofs.Headline.{shown, carries, one_point}
use Rattle.av_build.proofs.ListedLines.{ins_listed, ats_listed}
use Rattle.av_build.proofs.PlanForm.{in_array_form, linked}
use Rattle.av_build.proofs.SharedKinds.{shared}
use Rattle.av_build.proofs.ValueWidths.{value_widths}
use Rattle.av_build.proofs.WithinCount.{few_cycles_of}

module _ (t : Timed) (a : Cells) (legal : IsLegal t) (within : (f : SpaceFault) → IsSpaceFault t f → f ≡ fault.Memory) (counter : Counter) (program : Program) (g : IsProgrammed t a counter program) (m : Modules) (netlists : AreNetlistsOf counter program m)
    (formed : AreFormedBy counter program m) where
  abbrev plan : Plan
  plan = plan_of a.listing m

  abbrev own : Array
  own = array_of t a g.whole.list.placings

  arranged : IsArranged own
  arranged = arranged_array t a legal g.whole.list

  sound : IsSoundPlan plan
  sound =
      let few = few_cycles_of t a g.whole within in
      netlists.sound a.listing (ins_listed t a legal counter program g m netlists few) (ats_listed t a legal counter program g m netlists few)

  is_plan : IsArrayPlan t a counter plan
  is_plan = record {
    sound = sound;
    carries = carries t a legal counter program g m netlists;
    widths = value_widths t a counter program g m netlists sound;
    one_point = one_point t a legal counter program g m netlists;
    form = in_array_form own counter g.lanes program g.is_program_for g.is_program arranged g.whole.list.cells (g.outputs_are ∙ ap (λ (l : List ℕ). map g.lanes.of_value l) g.whole.list.outputs) (flat_module plan) (formed.form a.listing);
    linked = linked own counter g.lanes program g.is_program_for g.is_program arranged g.whole.list.cells (g.outputs_are ∙ ap (λ (l : List ℕ). map g.lanes.of_value l) g.whole.list.outputs) (flat_module plan) (formed.form a.listing);
    shared = shared own counter program g.is_program g.is_program_for.one_each g.sorted m netlists formed.instances a.listing;
  }

  pub counting_plan : IsCountingPlan t a counter plan
  counting_plan = record { is_plan = is_plan; shows = shown t a legal counter program g m netlists }

-- the same of modules that may not have been made
pub counting_plans : {E : Type 0} (t : Timed) (a : Cells) → IsLegal t → ((f : SpaceFault) → IsSpaceFault t f → f ≡ fault.Memory) → (counter : Counter) (program : Program) → IsProgrammed t a counter program
    → (r : Result Modules E) → IfOk r (AreNetlistsOf counter program) → IfOk r (AreFormedBy counter program) → IfOk r (λ m. IsCountingPlan t a counter (plan_of a.listing m))
counting_plans t a legal within counter program g (Ok m) netlists formed = counting_plan t a legal within counter program g m netlists formed
counting_plans t a legal within counter program g (Err e) netlists formed = netlists
