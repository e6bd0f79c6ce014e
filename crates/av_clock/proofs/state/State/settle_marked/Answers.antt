use Rattle.std.proofs.Common.{rules, ◌≡◌, ◌<◌, ◌≤◌, ◌+◌, ◌∙◌, ap, sym, subst, length, arith, inl, inr}
use Rattle.std.proofs.lemmas.Bool.{cases_lt}
use Rattle.av_net.specs.declared.netlist.Module.{Module}
use Rattle.av_net.specs.Sound.{IsSound}
use Rattle.av_clock.specs.Named.{named}
use Rattle.av_clock.specs.Marked.{touched}
use Rattle.av_clock.specs.inner.State.{named_words}
use Rattle.av_clock.proofs.Touched.{SettlesAll, touch_more, seen_all}
use Rattle.av_clock.proofs.state.State.settle_marked.Goals as goal

pub loop-drive-preserved : goal.loop-drive-preserved
loop-drive-preserved c =
    let first = c.args.self.now in
    let s = c.loop-drive.self in
    let t = c.compute.new.self in
    let next = c.next-drive-in-loop-drive in
    let same : t.circuit ≡ s.circuit = c.compute.ensures.circuit in
    let so_far = c.loop-drive.invariant.1 in
    let done = c.compute.ensures.computed in
    let within : c.loop-drive.drive < length s.circuit.drives = rw (sym c.drives.ensures) c.loop-drive-test.true in
    let size : length t.stale ≡ length s.circuit.drives = t.stale_size ∙ ap (λ (m : Module). length m.drives) same in
    let later : c.loop-drive.drive + 1 ≤ next.result = next.ensures.later (omega (arith, within, size)) in
    let there : c.loop-drive.drive < length s.stale = (let e = s.stale_size in omega (arith, within, e)) in
    let long : length first.stale ≡ length s.circuit.drives = first.stale_size ∙ ap (λ (m : Module). length m.drives) (sym c.loop-drive.invariant.0) in (
      same ∙ c.loop-drive.invariant.0,
      subst (λ (m : Module). SettlesAll m first.words.items t.words.items first.stale t.stale t.due next.result (c.loop-drive.computed + 1)) (sym same) (record {
        marked = record {
          drive_marks = size;
          step_marks = t.due_size ∙ ap (λ (m : Module). length m.steps) same;
          fit = done.fit;
          held = done.held;
          given = λ k d lt. so_far.marked.given k d lt ∙ done.given k d lt;
          clear = λ k lt. elim (cases_lt k (c.loop-drive.drive + 1)) [
            | inl before ↦ done.clear so_far.marked.clear k before
            | inr after ↦ next.ensures.clear k after lt
          ];
          most = let e = so_far.marked.most in omega (arith, e, later);
          within = let e = next.ensures.within in omega (arith, e, size);
          marked = λ lt. next.ensures.set (omega (arith, lt, size));
        };
        alone = λ k few clear. let h = so_far.alone k few clear in omega (arith, h, later);
        touched = touch_more s.circuit first.words.items s.words.items t.words.items first.stale s.stale t.stale c.loop-drive.drive next.result c.loop-drive.computed (subst IsSound (sym c.loop-drive.invariant.0) c.is_sound.ensures)
            within there long (so_far.marked.marked within) c.compute.ensures.touched done.others later so_far.touched;
      }),
    )

pub returns-clause-touched : goal.returns-clause-touched
returns-clause-touched c =
    let first = c.args.self.now in
    let s = c.loop-drive.self in
    let past : length s.circuit.drives ≤ c.loop-drive.drive = search rules in
    let few = c.loop-drive.invariant.1.touched.few in
    let all = seen_all (named s.circuit first.words.items) (named_words s) s.circuit.drives first.stale c.loop-drive.drive past in
    subst (λ (m : Module). c.loop-drive.computed ≤ touched (named m first.words.items) (named_words s) m.drives first.stale) c.loop-drive.invariant.0 (omega (arith, few, all))
