use Rattle.std.proofs.Common.{◌≡◌, ◌++◌, drop}
use Rattle.av_build.specs.inner.Blueprints.{helpers_from, helpers_on}
use Rattle.av_build.proofs.blueprint.helpers.Given as goal

-- with those of the pieces to come
abbrev pub invariant-loop-piece : goal.invariant-loop-piece
invariant-loop-piece l = l.helpers ++ helpers_from l.piece (drop l.piece l.pieces.sites) ≡ helpers_on l.pieces
