use Rattle.std.proofs.Common.{rules, ◌≡◌, ◌∙◌, ◌<◌, ◌≤◌, ℕ, List, Some, length, sym, ap, subst, arith}
use Rattle.std.specs.Prelude.{slice_get}
use Rattle.std.proofs.lemmas.Option.{slice_get-get_or}
use Rattle.av_flat.specs.Broadcasts.{Reference}
use Rattle.av_flat.specs.Trees.{view}
use Rattle.av_space.specs.inner.NodePieces.{ArePortsAt}
use Rattle.av_space.proofs.NodeParts.{piece_part}
use Rattle.av_space.proofs.PieceParts.{part_at}
use Rattle.av_space.proofs.ports.add_piece.Goals as goal

pub add_reference-requires-clause-part : goal.add_reference-requires-clause-part
add_reference-requires-clause-part c =
    let at = c.args.at.now in
    let n = c.loop-number.number in
    let x = c.index-as_slice-number.result in
    let items = c.as_slice.result.now in
    let many = ap (λ (rs : List Reference). length rs) c.as_slice.ensures in
    let count = c.len-number-end.ensures.count in
    let below : n < c.len-number-end.result = search rules in
    let l : n < length items = omega (arith, below, count, many) in
    let is = slice_get-get_or items n x l ∙ ap Some (sym c.index-as_slice-number.is) in
    let there = subst (λ (rs : List Reference). slice_get rs n ≡ Some x) (c.as_slice.ensures ∙ c.in_ok-found.ensures) is in
    part_at at (view at.piece.now.tree) n x (piece_part at c.requires.at) there

pub returns : goal.returns
returns c =
    let at = c.args.at.now in
    let over : c.len-number-end.result ≤ c.loop-number.number = search rules in
    let few : c.loop-number.number ≤ c.len-number-end.result = search rules in
    let count = c.len-number-end.ensures.count in
    let many = ap (λ (rs : List Reference). length rs) c.in_ok-found.ensures in
    subst (λ (n : ℕ). ArePortsAt at n at.first c.loop-number.ports) (omega (arith, over, few, count, many)) c.loop-number.invariant
