use Rattle.std.proofs.Common.{refl, sym, subst, map}
use Rattle.std.proofs.lemmas.List.Elements.{All-map}
use Rattle.av_net.specs.declared.design.Design.{Design}
use Rattle.av_net.specs.Designs.{IsSoundDesign}
use Rattle.av_net.specs.Presented.{HaveFittingWords}
use Rattle.av_net.specs.Sound.{IsSound}
use Rattle.av_net.proofs.FlatDesigns.{flat_is_sound_design}
use Rattle.av_data.specs.Inputs.{words_of}
use Rattle.av_wave.specs.Clocking.{AreLeft}
use Rattle.av_commands.specs.inner.Clocking.{IsPrepared}
use Rattle.av_commands.specs.inner.Streaming.{AreOfProblems}
use Rattle.av_commands.proofs.FedEach.{left_each}
use Rattle.av_commands.proofs.StreamOutputs.{stream_put, stream_failed}
use Rattle.av_commands.proofs.streams.clock_stream.Goals as goal

pub feed_each-requires-clause-sound : goal.feed_each-requires-clause-sound
feed_each-requires-clause-sound g c = subst IsSoundDesign (sym c.requires.design) (flat_is_sound_design c.args.streamed.now.plan c.requires.plan)

pub make_ready-requires : goal.make_ready-requires
make_ready-requires g c = subst (λ (d : Design). IsSound d.module) (sym c.requires.design) (flat_is_sound_design c.args.streamed.now.plan c.requires.plan).sound

pub write_run-requires-clause-prepared : goal.write_run-requires-clause-prepared
write_run-requires-clause-prepared g c = subst (λ (d : Design). IsPrepared d.module c.in-Ok-make_ready.parts) c.requires.design c.in-Ok-make_ready.ensures

pub write_run-requires-clause-left : goal.write_run-requires-clause-left
write_run-requires-clause-left g c =
    let d = c.args.design.now in
    let values = c.in-Ok.stimulus.values in
    subst (λ (e : Design). AreLeft e.module.inputs values 0 0 values) c.requires.design
    (left_each d c.args.streamed.now.period (map words_of c.args.inputs.now) values c.in-Ok.ensures.values (All-map (HaveFittingWords d) words_of c.args.inputs.now c.requires.words))

pub returns-in-Ok-write_run : goal.returns-in-Ok-write_run
returns-in-Ok-write_run g c =
    let streamed = c.args.streamed.now in
    let s = c.in-Ok.stimulus in
    let xs = map words_of c.args.inputs.now in
    let so = subst (λ (d : Design). AreOfProblems d streamed.period xs s.values) c.requires.design c.in-Ok.ensures.values in
    stream_put c.args.cycles streamed xs s (flat_is_sound_design streamed.plan c.requires.plan).sound so c.in-Ok.ensures.cycles c.in-Ok-write_run.ensures.added

pub returns : goal.returns
returns g c =
    let streamed = c.args.streamed.now in
    let s = c.in-Ok.stimulus in
    let xs = map words_of c.args.inputs.now in
    let so = subst (λ (d : Design). AreOfProblems d streamed.period xs s.values) c.requires.design c.in-Ok.ensures.values in
    stream_failed c.args.cycles streamed xs s (flat_is_sound_design streamed.plan c.requires.plan).sound so c.in-Ok.ensures.cycles (c.in-Err-write_run.ensures.fault refl) c.in-Err-write_run.ensures.front
