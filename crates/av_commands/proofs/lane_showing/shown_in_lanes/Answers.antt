use Rattle.std.proofs.Common.{◌≡◌, ℕ, List, Some, slice_get, sym, ap, ◌∙◌, subst, arith}
use Rattle.std.specs.Prelude.{All, Contains}
use Rattle.std.proofs.lemmas.List.Elements.{All-weaker}
use Rattle.std.proofs.lemmas.Option.{slice_get_within}
use Rattle.std.proofs.lemmas.Result.{IfOk-weaker}
use Rattle.av_base.specs.declared.word.Word.{Word}
use Rattle.av_base.proofs.Lists.{there_is, all_at}
use Rattle.av_space.proofs.ByPlace.{all_by_place}
use Rattle.av_net.specs.declared.design.Entry.{Entry}
use Rattle.av_net.specs.Listed.{MayBeListed}
use Rattle.av_net.specs.Names.{wire_names}
use Rattle.av_net.specs.Presented.{HaveFittingWords}
use Rattle.av_lanes.specs.Seen.{lane}
use Rattle.av_data.specs.declared.stimulus.Stimulus.{Stimulus}
use Rattle.av_wave.specs.Clocking.{AreLeft}
use Rattle.av_commands.specs.Shown.{AreShown}
use Rattle.av_commands.specs.inner.LaneClocking.{AreInLanes}
use Rattle.av_commands.specs.inner.Watching.{bits_of}
use Rattle.av_commands.proofs.Fed.{left}
use Rattle.av_commands.proofs.LanesFed.{lane_shown}
use Rattle.av_commands.proofs.lane_showing.shown_in_lanes.Goals as goal

pub watch_lanes-requires-clause-left : goal.watch_lanes-requires-clause-left
watch_lanes-requires-clause-left g c =
    let d = c.args.design.now in
    let sets = c.args.sets.now in
    let stimuli = c.in_ok-stimuli.stimuli in
    subst (λ (ss : List Stimulus). All (λ (s : Stimulus). AreLeft d.module.inputs s.values 0 0 s.values) ss) (sym c.as_slice.ensures)
    (all_by_place (λ (s : Stimulus). AreLeft d.module.inputs s.values 0 0 s.values) stimuli (λ k s at.
    let lt = slice_get_within stimuli k s at in
    let count = c.in_ok-stimuli.ensures.count in
    let x = there_is sets k (omega (arith, lt, count)) in
    left d (g.D.Data.words x.0) s.values (c.in_ok-stimuli.ensures.values k x.0 s x.1 at) (all_at (λ y. HaveFittingWords d (g.D.Data.words y)) sets k x.0 c.requires.words x.1)))

pub watch_lanes-requires-clause-wires : goal.watch_lanes-requires-clause-wires
watch_lanes-requires-clause-wires g c =
    let names = wire_names c.args.design.now.module in
    subst (λ (ls : List Entry). All (λ (l : Entry). Contains names l.wire) ls) (sym c.as_slice-lines.ensures)
    (All-weaker (MayBeListed names) (λ (l : Entry). Contains names l.wire) (λ l may. may.wire) c.args.design.now.listing.ats c.requires.sound.ats)

pub returns-clause-shown : goal.returns-clause-shown
returns-clause-shown g c =
    let d = c.args.design.now in
    let sets = c.args.sets.now in
    let stimuli = c.in_ok-stimuli.stimuli in
    let rows = c.in_ok-rows.rows in
    IfOk-weaker c.columns.result
    (λ (cs : List (List Word)). (k : ℕ) (words : List Word) → slice_get cs k ≡ Some words → bits_of words ≡ lane k c.as_slice-2.result.now)
    (λ (cs : List (List Word)). (k : ℕ) (x : _) (words : List Word) → slice_get sets k ≡ Some x → slice_get cs k ≡ Some words → AreShown d (g.D.Data.words x) (bits_of words))
    (λ cs is k x words at there.
    let lt = slice_get_within sets k x at in
    let count = c.in_ok-stimuli.ensures.count in
    let s = there_is stimuli k (omega (arith, lt, count)) in
    lane_shown d (g.D.Data.words x) stimuli c.as_slice-lines.result.now c.cycles_of-cycles.result k rows words s.0 c.requires.sound.sound c.as_slice-lines.ensures c.cycles_of-cycles.ensures
    (subst (λ (ss : List Stimulus). AreInLanes d.module ss c.as_slice-lines.result.now rows) c.as_slice.ensures c.in_ok-rows.ensures) s.1 (all_at (λ (t : Stimulus). t.cycles ≡ c.cycles_of-cycles.result) stimuli k s.0 c.in_ok-stimuli.ensures.cycles s.1)
    (c.in_ok-stimuli.ensures.values k x s.0 at s.1) (is k words there ∙ ap (lane k) c.as_slice-2.ensures))
    c.columns.ensures.words
