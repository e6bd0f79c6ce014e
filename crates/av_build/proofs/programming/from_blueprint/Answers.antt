use Rattle.std.proofs.Common.{◌≡◌, ◌<◌, ◌+◌, ◌^◌, ◌∙◌, ℕ, suc, List, length, map, arith, refl, sym, ap, subst}
use Rattle.std.specs.Prelude.{All}
use Rattle.av_flat.specs.declared.timed.Helper.{Helper}
use Rattle.av_flat.specs.declared.timed.Timed.{Timed}
use Rattle.av_space.specs.declared.cells.Cells.{Cells}
use Rattle.av_space.specs.declared.fault.SpaceFault.{SpaceFault}
use Rattle.av_space.specs.declared.fault.SpaceFault.TheVariants as fault
use Rattle.av_space.specs.SpaceFaults.{IsSpaceFault}
use Rattle.av_space.specs.Spots.{helpers_of, cells_of}
use Rattle.av_kinds.specs.Programs.{Program}
use Rattle.av_kinds.specs.Written.{lane_of}
use Rattle.av_build.specs.declared.blueprint.CellPlan.{CellPlan}
use Rattle.av_build.specs.inner.Blueprints.{lanes_of}
use Rattle.av_build.specs.inner.Lanes.{AreKindsOf}
use Rattle.av_build.proofs.WholeProgram.{programmed, outputs_low}
use Rattle.av_build.proofs.WithinCount.{few_cycles_of}
use Rattle.av_build.proofs.programming.from_blueprint.Goals as goal

pub values-requires : goal.values-requires
values-requires c =
    let b = c.args.blueprint.now in
    let listed : c.as_slice-3.result.now ≡ b.array.cells.now.outputs = c.as_slice-3.ensures ∙ ap (λ (x : Cells). x.outputs) c.requires.cells in
    subst (λ (n : ℕ). All (λ p. p < n) c.as_slice-3.result.now) (sym c.requires.blueprint.plans.one_each)
    (subst (λ (l : List ℕ). All (λ p. p < length (cells_of b.array)) l) (sym listed) (outputs_low b c.requires.blueprint))

pub returns : goal.returns
returns c =
    let b = c.args.blueprint.now in
    let t = b.array.timed.now in
    let within = subst (λ (u : Timed). (f : SpaceFault) → IsSpaceFault u f → f ≡ fault.Memory) c.requires.timed c.requires.within in
    let limit = few_cycles_of t b.array.cells.now c.requires.blueprint.array.whole within in
    let made = c.in_ok-lanes.lanes in
    let program : Program = record {
      inputs = c.in_ok-inputs.inputs;
      lanes = map lane_of made;
      cells = c.in_ok-own.own;
      kinds = c.in_ok-kinds.kinds;
      outputs = c.in_ok-outputs.outputs;
      stride = length c.as_slice-4.result.now + 1;
    } in
    let kinds : AreKindsOf b.cells program.kinds = subst (λ (l : List CellPlan). AreKindsOf l program.kinds) c.as_slice-2.ensures c.in_ok-kinds.ensures in
    let listed : c.as_slice-3.result.now ≡ b.array.cells.now.outputs = c.as_slice-3.ensures ∙ ap (λ (x : Cells). x.outputs) c.requires.cells in
    let outputs : program.outputs ≡ map (lanes_of b.cells).of_value b.array.cells.now.outputs = c.in_ok-outputs.ensures ∙ ap (map (lanes_of b.cells).of_value) listed in
    let helpers : length c.as_slice-4.result.now ≡ length (helpers_of b.array) = ap (λ (l : List Helper). length l) (c.as_slice-4.ensures ∙ ap (λ (u : Timed). u.helpers) c.requires.timed) in
    let stride : program.stride ≡ suc (length (helpers_of b.array)) = omega (arith, helpers) in
    let ranks = c.requires.ranks in
    let inputs_most = c.len.ensures.most in
    let cells_most = c.len-2.ensures.most in
    let outputs_most = c.len-3.ensures.most in
    let few_inputs : length program.inputs < 2 ^ 32 = omega (arith, inputs_most) in
    let few_cells : length program.cells < 2 ^ 32 = omega (arith, cells_most) in
    let few_outputs : length program.outputs < 2 ^ 32 = omega (arith, outputs_most) in
    let few_ranks : program.stride < 2 ^ 64 = omega (arith, helpers, ranks) in
    programmed b c.requires.blueprint c.args.counter c.requires.counter.counts made c.in_ok-lanes.ensures limit program refl c.in_ok-own.ensures stride kinds c.in_ok-inputs.ensures outputs
    few_inputs few_cells few_outputs few_ranks c.args.timed.now c.args.cells.now c.requires.timed c.requires.cells
