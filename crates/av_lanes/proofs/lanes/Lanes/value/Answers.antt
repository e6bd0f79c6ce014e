use Rattle.std.proofs.Common.{◌≡◌, ℕ, ◌<◌, length, get_or, subst, sym}
use Rattle.std.specs.Prelude.{IsTrue}
use Rattle.av_base.specs.Words.{IsWord}
use Rattle.av_net.specs.declared.netlist.Drive.{Drive}
use Rattle.av_net.specs.Names.{width_of}
use Rattle.av_net.specs.Settled.{Settled}
use Rattle.av_lanes.specs.Seen.{Seen, carried}
use Rattle.av_lanes.proofs.lanes.Lanes.value.Goals as goal

pub value-requires-clause-place : goal.value-requires-clause-place
value-requires-clause-place c = subst (λ (s : Seen). c.args.wire < length s.of.drives) (sym c.self.view_is) c.requires.place

pub value-requires-clause-settled : goal.value-requires-clause-settled
value-requires-clause-settled c = subst (λ (s : Seen). IsTrue s.settled) (sym c.self.view_is) c.requires.settled

pub returns-clause-word : goal.returns-clause-word
returns-clause-word c = subst (λ (s : Seen). (k : ℕ) → k < 8 → (d : Drive) → get_or c.value.result k 0 ≡ carried k s (get_or s.of.drives c.args.wire d).target) c.self.view_is c.value.ensures.word

pub returns-clause-fits : goal.returns-clause-fits
returns-clause-fits c = subst (λ (s : Seen). (k : ℕ) → k < 8 → (d : Drive) → IsWord (width_of s.of (get_or s.of.drives c.args.wire d).target) (get_or c.value.result k 0)) c.self.view_is c.value.ensures.fits

pub returns-clause-settled : goal.returns-clause-settled
returns-clause-settled c = subst (λ (s : Seen). (k : ℕ) → k < 8 → Settled s.of (carried k s)) c.self.view_is c.value.ensures.settled
