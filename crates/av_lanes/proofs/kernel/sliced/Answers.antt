use Rattle.std.proofs.Common.{ℕ, ◌/◌, ◌%◌, ◌^◌, ◌∙◌, ap, get_or}
use Rattle.av_lanes.proofs.Vectors.{down_lane}
use Rattle.av_lanes.proofs.kernel.sliced.Goals as goal

pub returns : goal.returns
returns c k lt =
    c.cut.ensures k lt ∙ ap (λ (n : ℕ). n % 2 ^ c.args.width.bits) (down_lane c.args.words c.from.result c.fits-words.0 k lt ∙ ap (λ (s : ℕ). get_or c.args.words k 0 / 2 ^ s) c.from.ensures)
