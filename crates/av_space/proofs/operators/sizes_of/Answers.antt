use Rattle.std.proofs.Common.{◌∙◌, ◌++◌, ◌∷◌, [], ℕ, List, map, take, sym, ap}
use Rattle.std.proofs.lemmas.List.{take_all}
use Rattle.av_depend.proofs.Adds.{map_take_more}
use Rattle.av_space.proofs.TreeSizes.{made_size, sizes_viewed}
use Rattle.av_space.proofs.operators.sizes_of.Goals as goal

pub loop-piece-preserved : goal.loop-piece-preserved
loop-piece-preserved c =
    let items = c.as_slice-piece-items.result.now in
    let k = c.loop-piece.piece-index in
    c.in_ok-push.ensures.ok ∙ ap (λ (ns : List ℕ). ns ++ c.in_ok-size.field-0 ∷ []) c.loop-piece.invariant ∙ ap (λ (n : ℕ). map made_size (take k items) ++ n ∷ []) c.in_ok-size.ensures
    ∙ sym (map_take_more made_size items k c.piece-item.result c.loop-piece-test.true c.piece-item.is)

pub returns : goal.returns
returns c =
    let items = c.as_slice-piece-items.result.now in
    c.loop-piece.invariant ∙ ap (map made_size) (take_all c.loop-piece.piece-index items c.loop-piece-test.false ∙ c.as_slice-piece-items.ensures) ∙ sizes_viewed c.args.var.now.pieces
