use Rattle.av_kinds.proofs.InstanceSteps.{output_put}
use Rattle.std.proofs.Common.{◌≡◌, ◌∙◌, List, length, ap, arith}
use Rattle.av_kinds.specs.Written.{LaneMade, ProgramMade, program_of}
use Rattle.av_kinds.specs.Names.{labels}
use Rattle.av_kinds.proofs.instance.lane_outputs.Goals as goal

pub loop-k-preserved : goal.loop-k-preserved
loop-k-preserved c =
    output_put (labels (program_of c.args.program.now)) c.args.first c.loop-k.k c.loop-k.outputs c.push.new.self c.in_ok-value.field-0 c.loop-k.invariant (c.in_ok-value.ensures ∙ c.lane_names.ensures.value) c.in_ok-push.ensures.ok

pub overflow_add-first : goal.overflow_add-first
overflow_add-first c =
    let lanes : c.program.inside.lanes ≡ c.args.program.now.lanes = ap (λ (p : ProgramMade). p.lanes) c.program.view_is in
    omega (arith, c.requires, c.loop-k-test.true, c.len.ensures.count, c.len.ensures.most, ap (λ (xs : List LaneMade). length xs) lanes)
