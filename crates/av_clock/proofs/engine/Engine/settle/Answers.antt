use Rattle.std.proofs.Common.{◌∙◌, ap, sym, subst, ℕ, ◌+◌, ◌≤◌, Bool, List, length}
use Rattle.av_net.specs.declared.netlist.Module.{Module}
use Rattle.av_net.specs.Names.{given_names}
use Rattle.av_net.specs.Settled.{Agree}
use Rattle.av_net.specs.Sound.{IsSound}
use Rattle.av_clock.specs.Seen.{Seen, carried}
use Rattle.av_clock.specs.Marked.{IsClear}
use Rattle.av_clock.specs.inner.State.{named_words}
use Rattle.av_clock.proofs.Computing.{settled_zero}
use Rattle.av_clock.proofs.Views.{first_none, first_empty, own_marks, all_marked, few_computed, touched_seen}
use Rattle.av_clock.proofs.engine.Engine.settle.Goals as goal

pub settle_all-requires : goal.settle_all-requires
settle_all-requires c =
    all_marked c.args.self.now c.self.inside.state.circuit c.self.inside.state.words.items c.self.inside.settled c.self.inside.dense c.self.inside.work c.self.inside.state.stale c.self.view_is c.if-self.true

pub returns-clause-given : goal.returns-clause-given
returns-clause-given c = subst (λ (s : Seen). Agree (given_names c.settle_marked-computed.new.self.circuit) (carried s) (named_words c.settle_marked-computed.new.self)) c.self.view_is c.settle_marked-computed.ensures.given

pub returns-clause-first : goal.returns-clause-first
returns-clause-first c = λ none.
    let none' = ap (λ (s : Seen). s.work) c.self.view_is ∙ none in
    first_empty c.self.inside.work c.settle_marked-computed.result c.saturating_add-self-inside.result _ c.saturating_add-self-inside.ensures c.settle_marked-computed.ensures.most none' (c.self.invariant.first none' c.if-self.false)
    ∙ ap (λ (m : Module). length m.drives) (sym c.settle_marked-computed.ensures.circuit)

pub returns-clause-alone : goal.returns-clause-alone
returns-clause-alone c = λ k few clear.
    let s : Seen = c.args.self.now in
    let inside = c.self.inside in
    let marks = own_marks s inside.state.circuit inside.state.words.items inside.settled inside.dense inside.work inside.state.stale c.self.view_is c.if-self.false in
    let work = ap (λ (t : Seen). t.work) c.self.view_is in
    let count = ap (λ (t : Seen). length t.of.drives) c.self.view_is in
    let few' = subst (λ (n : ℕ). k ≤ n) (sym count) few in
    let computed = c.settle_marked-computed.ensures.alone k few' (λ j lt. subst (λ (ms : List Bool). IsClear ms j) marks (clear j lt)) in
    subst (λ (n : ℕ). c.saturating_add-self-inside.result + k ≤ n + length s.of.drives) work
    (subst (λ (n : ℕ). c.saturating_add-self-inside.result + k ≤ inside.work + n) count
    (few_computed inside.work c.settle_marked-computed.result c.saturating_add-self-inside.result (length inside.state.circuit.drives) k c.saturating_add-self-inside.ensures computed))

pub returns-clause-touched : goal.returns-clause-touched
returns-clause-touched c =
    let inside = c.self.inside in
    touched_seen c.args.self.now inside.state.circuit inside.state.words.items (named_words c.settle_marked-computed.new.self) inside.settled inside.dense inside.work inside.state.stale c.settle_marked-computed.result c.saturating_add-self-inside.result
    c.self.view_is c.if-self.false c.saturating_add-self-inside.ensures c.settle_marked-computed.ensures.touched

pub invariant_of-self : goal.invariant_of-self
invariant_of-self c =
    let t = c.settle_marked-computed.new.self in
    let same = c.settle_marked-computed.ensures.circuit in
    let none_before = first_none c.self.inside.work c.settle_marked-computed.result c.saturating_add-self-inside.result c.saturating_add-self-inside.ensures in
    record {
      sound = subst IsSound (sym same) c.self.invariant.sound;
      settled = λ flag. c.settle_marked-computed.ensures.settled;
      zeros = settled_zero t.circuit t.words.items c.settle_marked-computed.ensures.settled;
      held = λ some. c.settle_marked-computed.ensures.held;
      first = λ none some. ap (λ (m : Module). length m.drives) same ∙ c.self.invariant.first (none_before none) c.if-self.false;
      shown = λ none flag. ap (λ (m : Module). length m.drives) same ∙ c.self.invariant.first (none_before none) c.if-self.false;
    }
