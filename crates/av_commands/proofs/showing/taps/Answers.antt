use Rattle.std.proofs.Common.{◌≡◌, Some, slice_get, sym, ap, ◌∙◌, subst}
use Rattle.std.specs.Prelude.{Contains}
use Rattle.std.proofs.lemmas.List.Elements.{All-contains}
use Rattle.av_net.specs.declared.design.Entry.{Entry}
use Rattle.av_net.specs.Names.{targets_of, wire_names}
use Rattle.av_commands.proofs.Fed.{at_index}
use Rattle.av_wave.proofs.Driven.{few_targets}
use Rattle.av_commands.proofs.Watched.{taps_more}
use Rattle.av_commands.proofs.showing.taps.Goals as goal
use Rattle.av_base.proofs.Lists.{all_at}

pub place_of-requires-clause-few : goal.place_of-requires-clause-few
place_of-requires-clause-few c = few_targets c.args.of.now.drives c.in_ok-targets.targets (c.in_ok-targets.ensures ∙ ap targets_of c.as_slice.ensures) c.are_numbered.ensures

pub place_of-requires-clause-among : goal.place_of-requires-clause-among
place_of-requires-clause-among c =
    let line = c.line-item.result in
    let there : slice_get c.args.lines.now c.loop-line.line-index ≡ Some line = at_index c.args.lines.now c.loop-line.line-index line c.loop-line-test.true c.line-item.is in
    let wire = all_at (λ (l : Entry). Contains (wire_names c.args.of.now) l.wire) c.args.lines.now c.loop-line.line-index line c.requires.wires there in
    subst (λ ts. Contains ts line.wire) (sym (c.in_ok-targets.ensures ∙ ap targets_of c.as_slice.ensures)) (All-contains (Contains (targets_of c.args.of.now.drives)) (wire_names c.args.of.now) line.wire c.requires.sound.wires_driven wire)

pub loop-line-preserved : goal.loop-line-preserved
loop-line-preserved c =
    let line = c.line-item.result in
    let there : slice_get c.args.lines.now c.loop-line.line-index ≡ Some line = at_index c.args.lines.now c.loop-line.line-index line c.loop-line-test.true c.line-item.is in
    let here : slice_get (targets_of c.args.of.now.drives) c.place_of.result ≡ Some line.wire =
    ap (λ ts. slice_get ts c.place_of.result) (sym (c.in_ok-targets.ensures ∙ ap targets_of c.as_slice.ensures)) ∙ c.place_of.ensures in
    taps_more c.args.of.now c.args.lines.now c.loop-line.line-index c.loop-line.taps c.push.new.self c.place_of.result line c.loop-line.invariant there here c.in_ok-push.ensures.ok
