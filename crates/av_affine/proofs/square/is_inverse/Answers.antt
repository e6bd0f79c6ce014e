use Rattle.std.proofs.Common.{sym, ◌∙◌}
use Rattle.std.proofs.lemmas.Bool.Decides.{Decides-at, Decides-like}
use Rattle.av_affine.proofs.Matrices.{same_square, equal_squares}
use Rattle.av_affine.proofs.square.is_inverse.Goals as goal

pub returns : goal.returns
returns c =
    let a = c.multiply.result in
    let b = c.unit_matrix.result in
    let l = c.multiply.ensures in
    let r = c.unit_matrix.ensures in
    Decides-like c.eq.result (λ e. sym l ∙ e ∙ r) (λ e. l ∙ e ∙ sym r) (Decides-at c.eq.result (equal_squares a b) c.eq.ensures (same_square a b))
