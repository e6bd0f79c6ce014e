use Rattle.std.proofs.Common.{◌≡◌, Some, slice_get, sym, ap, ◌∙◌, subst}
use Rattle.std.specs.Prelude.{Contains}
use Rattle.std.proofs.lemmas.Option.{slice_get-get_or}
use Rattle.av_net.specs.Names.{targets_of}
use Rattle.av_wave.proofs.Driven.{few_targets, output_driven, wires_more}
use Rattle.av_wave.proofs.feed.wires.Goals as goal

pub place_of-requires-clause-few : goal.place_of-requires-clause-few
place_of-requires-clause-few c = few_targets c.args.of.now.drives c.in_ok-targets.targets (c.in_ok-targets.ensures ∙ ap targets_of c.as_slice.ensures) c.are_numbered.ensures

pub place_of-requires-clause-among : goal.place_of-requires-clause-among
place_of-requires-clause-among c =
    let there : slice_get c.args.of.now.outputs c.loop-port.port-index ≡ Some c.port-item.result =
    ap (λ ps. slice_get ps c.loop-port.port-index) (sym c.as_slice-port-items.ensures) ∙ slice_get-get_or c.as_slice-port-items.result.now c.loop-port.port-index c.port-item.result c.loop-port-test.true ∙ ap Some (sym c.port-item.is) in
    subst (λ ts. Contains ts c.port-item.result.name) (sym (c.in_ok-targets.ensures ∙ ap targets_of c.as_slice.ensures)) (output_driven c.args.of.now c.loop-port.port-index c.port-item.result c.requires there)

pub loop-port-preserved : goal.loop-port-preserved
loop-port-preserved c =
    let there : slice_get c.args.of.now.outputs c.loop-port.port-index ≡ Some c.port-item.result =
    ap (λ ps. slice_get ps c.loop-port.port-index) (sym c.as_slice-port-items.ensures) ∙ slice_get-get_or c.as_slice-port-items.result.now c.loop-port.port-index c.port-item.result c.loop-port-test.true ∙ ap Some (sym c.port-item.is) in
    let here : slice_get (targets_of c.args.of.now.drives) c.place_of.result ≡ Some c.port-item.result.name =
    ap (λ ts. slice_get ts c.place_of.result) (sym (c.in_ok-targets.ensures ∙ ap targets_of c.as_slice.ensures)) ∙ c.place_of.ensures in
    wires_more c.args.of.now c.loop-port.port-index c.loop-port.wires c.push.new.self c.place_of.result c.port-item.result c.loop-port.invariant there here c.in_ok-push.ensures.ok
