use Rattle.std.proofs.Common.{◌+◌, ◌%◌, ◌^◌, ◌∙◌, ap, get_or}
use Rattle.av_base.proofs.Residues.{low_bits}
use Rattle.av_lanes.proofs.Vectors.{zip_lane}
use Rattle.av_lanes.proofs.kernel.masked_sum.Goals as goal

pub returns : goal.returns
returns c w most is k lt =
    c.masked.ensures w is k lt ∙ ap (λ n. n % 2 ^ w) (zip_lane (λ x y. (x + y) % 2 ^ 64) c.args.left c.args.right c.fits-left.0 c.fits-right.0 k lt)
    ∙ low_bits (get_or c.args.left k 0 + get_or c.args.right k 0) w most
