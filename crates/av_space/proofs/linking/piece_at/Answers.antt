use Rattle.std.proofs.Common.{◌≡◌, ◌∙◌, ◌<◌, List, length, sym, ap, subst, Some}
use Rattle.std.specs.Prelude.{slice_get}
use Rattle.std.proofs.lemmas.Option.{slice_get-get_or}
use Rattle.av_flat.specs.declared.flat.Piece.{Piece}
use Rattle.av_flat.specs.Trees.{view_piece}
use Rattle.av_space.proofs.linking.piece_at.Goals as goal
use Rattle.av_base.proofs.Lists.{get_mapped}

pub returns : goal.returns
returns c =
    let pieces = c.as_slice.result.now in
    let x = c.index-as_slice-number.result in
    let within : c.args.number < length pieces = subst (λ (l : List Piece). c.args.number < length l) (sym c.as_slice.ensures) c.requires in
    let at : slice_get pieces c.args.number ≡ Some x = slice_get-get_or pieces c.args.number x within ∙ ap Some (sym c.index-as_slice-number.is) in
    get_mapped view_piece c.args.var.now.pieces c.args.number x (subst (λ (l : List Piece). slice_get l c.args.number ≡ Some x) c.as_slice.ensures at)
