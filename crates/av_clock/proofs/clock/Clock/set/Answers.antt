use Rattle.std.proofs.Common.{◌≡◌, ◌≢◌, ℕ, ◌<◌, List, length, set, slice_get, false, subst, sym}
use Rattle.std.specs.Prelude.{IfSome}
use Rattle.std.specs.Option.{ForSome}
use Rattle.av_base.specs.Words.{IsWord}
use Rattle.av_clock.specs.Seen.{Seen, carried}
use Rattle.av_clock.proofs.clock.Clock.set.Goals as goal

pub set-requires-clause-port : goal.set-requires-clause-port
set-requires-clause-port c = subst (λ (s : Seen). c.args.port < length s.of.inputs) (sym c.self.view_is) c.requires.port

pub set-requires-clause-fits : goal.set-requires-clause-fits
set-requires-clause-fits c = subst (λ (s : Seen). ForSome (slice_get s.of.inputs c.args.port) (λ p. IsWord p.width.bits c.args.value)) (sym c.self.view_is) c.requires.fits

pub returns-clause-words : goal.returns-clause-words
returns-clause-words c = subst (λ (s : Seen). c.set.new.self ≡ record s { words = set s.words c.args.port c.args.value; settled = false; marked = c.set.new.self.marked }) c.self.view_is c.set.ensures.words

pub returns-clause-port : goal.returns-clause-port
returns-clause-port c = subst (λ (s : Seen). IfSome (slice_get s.of.inputs c.args.port) (λ p. carried c.set.new.self p.name ≡ c.args.value)) c.self.view_is c.set.ensures.port

pub returns-clause-others : goal.returns-clause-others
returns-clause-others c = subst (λ (s : Seen). IfSome (slice_get s.of.inputs c.args.port) (λ p. (name : List ℕ) → name ≢ p.name → carried c.set.new.self name ≡ carried s name)) c.self.view_is c.set.ensures.others
