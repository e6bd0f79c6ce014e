use Rattle.std.proofs.Common.{◌<◌, List, length, get_or, [], ap, arith}
use Rattle.std.proofs.lemmas.Option.{slice_get-get_or}
use Rattle.av_space.specs.declared.spots.Site.{Site}
use Rattle.av_build.specs.inner.Blueprints.{helpers_on}
use Rattle.av_build.proofs.BlueprintSteps.{piece_step, last_piece}
use Rattle.av_build.proofs.blueprint.helpers.Goals as goal

pub loop-piece-preserved : goal.loop-piece-preserved
loop-piece-preserved c =
    let pieces = c.args.pieces.now.sites in
    let k = c.loop-piece.piece in
    let lt = c.loop-piece-test.true in
    let many = ap (λ (l : List (List Site)). length l) c.as_slice-piece-end.ensures in
    let low : k < length pieces = omega (arith, lt, many) in
    piece_step k c.loop-piece.helpers (helpers_on c.args.pieces.now) c.add_helpers.new.helpers pieces [] low c.loop-piece.invariant
    (c.in_ok-add_helpers.ensures (get_or pieces k []) (slice_get-get_or pieces k [] low))

pub returns : goal.returns
returns c =
    let end = c.loop-piece-test.false in
    let many = ap (λ (l : List (List Site)). length l) c.as_slice-piece-end.ensures in
    last_piece c.loop-piece.piece c.loop-piece.helpers (helpers_on c.args.pieces.now) c.args.pieces.now.sites (omega (arith, end, many)) c.loop-piece.invariant
