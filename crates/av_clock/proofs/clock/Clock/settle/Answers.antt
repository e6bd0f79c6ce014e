use Rattle.std.proofs.Common.{◌≡◌, ℕ, ◌+◌, ◌<◌, ◌≤◌, length, subst}
use Rattle.av_net.specs.Names.{given_names}
use Rattle.av_net.specs.Settled.{Agree}
use Rattle.av_clock.specs.Seen.{Seen, carried}
use Rattle.av_clock.specs.Marked.{IsClear, touched}
use Rattle.av_clock.proofs.clock.Clock.settle.Goals as goal

pub returns-clause-of : goal.returns-clause-of
returns-clause-of c = subst (λ (s : Seen). c.settle.new.self.of ≡ s.of) c.self.view_is c.settle.ensures.of

pub returns-clause-given : goal.returns-clause-given
returns-clause-given c = subst (λ (s : Seen). Agree (given_names c.settle.new.self.of) (carried s) (carried c.settle.new.self)) c.self.view_is c.settle.ensures.given

pub returns-clause-work : goal.returns-clause-work
returns-clause-work c = subst (λ (s : Seen). s.work ≤ c.settle.new.self.work) c.self.view_is c.settle.ensures.work

pub returns-clause-first : goal.returns-clause-first
returns-clause-first c = subst (λ (s : Seen). s.work ≡ 0 → c.settle.new.self.work ≡ length c.settle.new.self.of.drives) c.self.view_is c.settle.ensures.first

pub returns-clause-most : goal.returns-clause-most
returns-clause-most c = subst (λ (s : Seen). c.settle.new.self.work ≤ s.work + length c.settle.new.self.of.drives) c.self.view_is c.settle.ensures.most

pub returns-clause-alone : goal.returns-clause-alone
returns-clause-alone c = subst (λ (s : Seen). (k : ℕ) → k ≤ length s.of.drives → ((j : ℕ) → j < k → IsClear s.marked j) → c.settle.new.self.work + k ≤ s.work + length s.of.drives) c.self.view_is c.settle.ensures.alone

pub returns-clause-touched : goal.returns-clause-touched
returns-clause-touched c = subst (λ (s : Seen). c.settle.new.self.work ≤ s.work + touched (carried s) (carried c.settle.new.self) s.of.drives s.marked) c.self.view_is c.settle.ensures.touched
