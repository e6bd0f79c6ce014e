use Rattle.std.proofs.Common.{◌≡◌, ◌∙◌, ◌++◌, ℕ, ◌<◌, List, length, get_or, ap, rules, arith}
use Rattle.std.proofs.lemmas.Grind.{common_steps}
use Rattle.av_kinds.specs.Written.{ProgramMade, program_of}
use Rattle.av_kinds.specs.Names.{labels}
use Rattle.av_kinds.specs.Tops.{output_drives}
use Rattle.av_net.specs.declared.operation.Operand.TheVariants.{Name}
use Rattle.av_net.specs.declared.operation.Operation.TheVariants.{Plain}
use Rattle.av_kinds.proofs.Placing.{drive_of}
use Rattle.av_kinds.proofs.TopSteps.{output_drive, output_put}
use Rattle.av_kinds.proofs.top.add_outputs.Goals as goal

pub loop-number-preserved : goal.loop-number-preserved
loop-number-preserved c =
    let names = labels (program_of c.args.program.now) in
    let outputs = c.args.program.now.outputs in
    let n = c.loop-number.number in
    let items : c.as_slice-lane-items.result.now ≡ outputs = c.as_slice-lane-items.ensures ∙ ap (λ (p : ProgramMade). p.outputs) c.program.view_is in
    let q = get_or c.as_slice-lane-items.result.now n 0 in
    let within : n < length c.as_slice-lane-items.result.now = search rules in
    let below : n < length outputs = omega (arith, within, ap (λ (xs : List ℕ). length xs) items) in
    output_put names outputs n q c.loop-number.drives c.push.new.self (c.args.drives.now ++ output_drives names 0 outputs) (drive_of c.in_ok-numbered.field-0 (Plain (Name c.in_ok-name.name)))
    below (ap (λ (xs : List ℕ). get_or xs n 0) items) c.loop-number.invariant
    (ap (λ (t : List ℕ). drive_of t (Plain (Name c.in_ok-name.name))) c.in_ok-numbered.ensures ∙ ap (output_drive n) (c.in_ok-name.ensures ∙ c.lane_names.ensures.value)) c.in_ok-push.ensures.ok

pub lane_names-requires : goal.lane_names-requires
lane_names-requires c = grind (arith, common_steps)
