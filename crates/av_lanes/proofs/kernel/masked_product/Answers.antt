use Rattle.std.proofs.Common.{◌*◌, ◌%◌, ◌^◌, ◌∙◌, ap, get_or, arith}
use Rattle.av_base.proofs.Residues.{low_bits}
use Rattle.av_lanes.proofs.Vectors.{zip_lane, low_product}
use Rattle.av_lanes.proofs.kernel.masked_product.Goals as goal

pub returns : goal.returns
returns c w few is k lt =
    c.masked.ensures w is k lt ∙ ap (λ n. n % 2 ^ w) (zip_lane (λ x y. (x * y) % 2 ^ 64) c.low_half.result c.low_half-2.result c.low_half.type_inv.1.0.1 c.low_half-2.type_inv.1.0.1 k lt)
    ∙ low_bits (get_or c.low_half.result k 0 * get_or c.low_half-2.result k 0) w (omega (arith, few))
    ∙ low_product (get_or c.args.left k 0) (get_or c.args.right k 0) (get_or c.low_half.result k 0) (get_or c.low_half-2.result k 0) w few (c.low_half.ensures k lt) (c.low_half-2.ensures k lt)
