use Rattle.std.proofs.Common.{◌≡◌, ◌≢◌, ℕ, ◌<◌, List, length, get_or, set, slice_get, subst, sym}
use Rattle.std.specs.Prelude.{All, IfSome}
use Rattle.std.specs.Option.{ForSome}
use Rattle.av_base.specs.Words.{IsWord}
use Rattle.av_lanes.specs.Seen.{Seen, lane, carried}
use Rattle.av_lanes.proofs.lanes.Lanes.set.Goals as goal

pub set-requires-clause-port : goal.set-requires-clause-port
set-requires-clause-port c = subst (λ (s : Seen). c.args.port < length s.of.inputs) (sym c.self.view_is) c.requires.port

pub set-requires-clause-fits : goal.set-requires-clause-fits
set-requires-clause-fits c = subst (λ (s : Seen). ForSome (slice_get s.of.inputs c.args.port) (λ p. All (IsWord p.width.bits) c.args.values)) (sym c.self.view_is) c.requires.fits

pub returns-clause-of : goal.returns-clause-of
returns-clause-of c = subst (λ (s : Seen). c.set.new.self.of ≡ s.of) c.self.view_is c.set.ensures.of

pub returns-clause-words : goal.returns-clause-words
returns-clause-words c = subst (λ (s : Seen). (k : ℕ) → k < 8 → lane k c.set.new.self.words ≡ set (lane k s.words) c.args.port (get_or c.args.values k 0)) c.self.view_is c.set.ensures.words

pub returns-clause-port : goal.returns-clause-port
returns-clause-port c = subst (λ (s : Seen). IfSome (slice_get s.of.inputs c.args.port) (λ p. (k : ℕ) → k < 8 → carried k c.set.new.self p.name ≡ get_or c.args.values k 0)) c.self.view_is c.set.ensures.port

pub returns-clause-others : goal.returns-clause-others
returns-clause-others c = subst (λ (s : Seen). IfSome (slice_get s.of.inputs c.args.port) (λ p. (k : ℕ) → k < 8 → (name : List ℕ) → name ≢ p.name → carried k c.set.new.self name ≡ carried k s name)) c.self.view_is c.set.ensures.others
