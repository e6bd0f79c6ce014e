use Rattle.std.proofs.Common.{◌≡◌, ◌∙◌, ℕ, ◌<◌, List, List as Items, sym, ap, subst, All}
use Rattle.av_base.specs.declared.word.Word.{Word}
use Rattle.av_commands.specs.Shown.{AreShown}
use Rattle.std.specs.Prelude.{Contains}
use Rattle.std.proofs.lemmas.Result.{IfOk-weaker}
use Rattle.std.proofs.lemmas.List.Elements.{All-weaker}
use Rattle.av_net.specs.declared.design.Entry.{Entry}
use Rattle.av_net.specs.Listed.{MayBeListed}
use Rattle.av_net.specs.Names.{wire_names}
use Rattle.av_net.specs.Clocked.{Stream, Run, IsRun}
use Rattle.av_wave.specs.Simulated.{IsStimulated}
use Rattle.av_commands.specs.inner.Watching.{bits_of, watched}
use Rattle.av_commands.proofs.Fed.{left}
use Rattle.av_commands.proofs.Watching.{shown_so}
use Rattle.av_commands.proofs.showing.shown.Goals as goal

pub watch-requires-clause-left : goal.watch-requires-clause-left
watch-requires-clause-left g c = left c.args.design.now (g.D.Data.words c.args.inputs.now) c.in_ok-stimulus.stimulus.values c.in_ok-stimulus.ensures.values c.requires.words

pub watch-requires-clause-wires : goal.watch-requires-clause-wires
watch-requires-clause-wires g c =
    let names = wire_names c.args.design.now.module in
    subst (λ (ls : List Entry). All (λ (l : Entry). Contains names l.wire) ls) (sym c.as_slice-lines.ensures)
    (All-weaker (MayBeListed names) (λ (l : Entry). Contains names l.wire) (λ l may. may.wire) c.args.design.now.listing.ats c.requires.sound.ats)

pub returns : goal.returns
returns g c =
    let d = c.args.design.now in
    let s = c.in_ok-stimulus.stimulus in
    let x = g.D.Data.words c.args.inputs.now in
    let lines = c.as_slice-lines.ensures in
    let reached : All (λ (l : Entry). l.cycle < s.cycles) d.listing.ats =
    subst (λ (n : ℕ). All (λ (l : Entry). l.cycle < n) d.listing.ats) (sym c.in_ok-stimulus.ensures.cycles)
    (subst (λ (ls : List Entry). All (λ (l : Entry). l.cycle < c.cycles_of.result) ls) lines c.cycles_of.ensures) in
    IfOk-weaker c.watch.result
    (λ (words : Items Word). (stream : Stream) (run : Run) → IsStimulated d.module s stream → IsRun d.module s.cycles stream run → bits_of words ≡ watched run.in_cycle s.cycles c.as_slice-lines.result.now)
    (λ (words : Items Word). AreShown d x (bits_of words))
    (λ (words : Items Word) is. shown_so d x s words c.requires.sound.sound c.in_ok-stimulus.ensures.values reached
    (λ stream run stimulated clocked. is stream run stimulated clocked ∙ ap (watched run.in_cycle s.cycles) lines))
    c.watch.ensures
