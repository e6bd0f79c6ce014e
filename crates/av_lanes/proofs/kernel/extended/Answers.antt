use Rattle.std.proofs.Common.{◌<◌, ◌/◌, ◌-◌, ◌^◌, ℕ, get_or, replicate, ◌∙◌, ap, subst, sym}
use Rattle.std.proofs.lemmas.Simd.{get_or-replicate}
use Rattle.av_net.specs.Meaning.{chosen}
use Rattle.av_lanes.proofs.Vectors.{down_lane, extended_lane, highest_small}
use Rattle.av_lanes.proofs.kernel.extended.Goals as goal

pub returns : goal.returns
returns c k lt fits =
    let w = c.args.width.bits in
    let by = c.args.by in
    let a = get_or c.args.words k 0 in
    let top = down_lane c.args.words c.from.result c.fits-words.0 k lt ∙ ap (λ (s : ℕ). a / 2 ^ s) c.from.ensures in
    let small = subst (λ (n : ℕ). n < 2) (sym top) (highest_small w a c.args.width.least fits) in
    extended_lane w by c.args.words c.where_set.result c.args.width.least c.requires c.fits-words.0 c.where_set.type_inv.1.0.1 k lt fits
    (c.where_set.ensures k lt small ∙ ap (λ (n : ℕ). chosen n (get_or (replicate 8 c.ones_above.result) k 0) 0) top
    ∙ ap (λ (n : ℕ). chosen (a / 2 ^ (w - 1)) n 0) (get_or-replicate 8 k c.ones_above.result 0 lt ∙ c.ones_above.ensures))
