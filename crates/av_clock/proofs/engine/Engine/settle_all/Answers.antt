use Rattle.std.proofs.Common.{◌≡◌, ◌∙◌, ap, sym, subst, ℕ, ◌+◌, ◌≤◌, length, false, true}
use Rattle.av_net.specs.declared.netlist.Module.{Module}
use Rattle.av_net.specs.Names.{given_names}
use Rattle.av_net.specs.Settled.{Agree}
use Rattle.av_net.specs.Sound.{IsSound}
use Rattle.av_clock.specs.Seen.{Seen, carried}
use Rattle.av_clock.specs.inner.State.{named_words}
use Rattle.av_clock.proofs.Computing.{settled_zero}
use Rattle.av_clock.proofs.Views.{first_count, all_computed, all_count}
use Rattle.av_clock.proofs.engine.Engine.settle_all.Goals as goal

pub returns-clause-given : goal.returns-clause-given
returns-clause-given c = subst (λ (s : Seen). Agree (given_names c.settle.new.self.circuit) (carried s) (named_words c.settle.new.self)) c.self.view_is c.settle.ensures.given

pub returns-clause-alone : goal.returns-clause-alone
returns-clause-alone c = λ k few clear.
    let s : Seen = c.args.self.now in
    let work = ap (λ (t : Seen). t.work) c.self.view_is in
    let count = c.drives.ensures ∙ ap (λ (m : Module). length m.drives) c.settle.ensures.circuit ∙ ap (λ (t : Seen). length t.of.drives) c.self.view_is in
    subst (λ (n : ℕ). c.saturating_add-self-inside.result + k ≤ n + length s.of.drives) work
    (all_computed c.self.inside.work c.drives.result c.saturating_add-self-inside.result (length s.of.drives) k s.marked c.saturating_add-self-inside.ensures count c.requires few clear)

pub returns-clause-touched : goal.returns-clause-touched
returns-clause-touched c =
    all_count c.args.self.now _ c.self.inside.work c.drives.result c.saturating_add-self-inside.result c.saturating_add-self-inside.ensures (ap (λ (t : Seen). t.work) c.self.view_is)
    (c.drives.ensures ∙ ap (λ (m : Module). length m.drives) c.settle.ensures.circuit ∙ ap (λ (t : Seen). length t.of.drives) c.self.view_is) c.requires

pub invariant_of-self : goal.invariant_of-self
invariant_of-self c =
    let t = c.settle.new.self in
    let none_there : c.saturating_add-self-inside.result ≡ 0 → length t.circuit.drives ≡ 0 = λ none. sym c.drives.ensures ∙ first_count c.self.inside.work c.drives.result c.saturating_add-self-inside.result c.saturating_add-self-inside.ensures none in
    record {
      sound = subst IsSound (sym c.settle.ensures.circuit) c.self.invariant.sound;
      settled = λ flag. c.settle.ensures.settled;
      zeros = settled_zero t.circuit t.words.items c.settle.ensures.settled;
      held = λ some. absurd (let e : true ≡ false = some in cc);
      first = λ none some. none_there none;
      shown = λ none flag. none_there none;
    }
