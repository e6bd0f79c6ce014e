use Rattle.std.proofs.Common.{◌∙◌, ℕ, List, ap}
use Rattle.av_base.specs.declared.width.Width.{Width}
use Rattle.av_kinds.specs.Written.{ProgramMade, program_of}
use Rattle.av_kinds.specs.Names.{input_name}
use Rattle.av_kinds.specs.Tops.{numbered_ports}
use Rattle.av_kinds.proofs.TopSteps.{module_with, top_made}
use Rattle.av_kinds.proofs.top.top.Goals as goal

pub returns : goal.returns
returns c =
    let inputs = c.in_ok-inputs.inputs in
    let outputs = c.in_ok-outputs.outputs in
    let parts = c.in_ok-parts.parts in
    let all = c.in_ok-parts.ensures in
    ap (λ (t : List ℕ). module_with t inputs outputs parts) c.in_ok-name.ensures
    ∙ top_made c.args.counter c.args.counts (program_of c.args.program.now) inputs outputs all.lanes parts all.drives all.are_lanes all.are_drives all.adds_counter
    (c.in_ok-inputs.ensures ∙ ap (λ (ws : List Width). numbered_ports input_name 0 ws) (c.as_slice.ensures ∙ ap (λ (p : ProgramMade). p.inputs) c.program.view_is)) c.in_ok-outputs.ensures
