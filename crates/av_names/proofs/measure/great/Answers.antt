use Rattle.std.proofs.Common.{refl, ◌∙◌, option_map}
use Rattle.std.proofs.lemmas.List.Elements.{All-contains}
use Rattle.av_names.specs.Found.{first_of}
use Rattle.av_names.specs.Quantities.{exceeds}
use Rattle.av_names.specs.inner.Sums.{sizes_in, limit_of, numbers_of, counted, written}
use Rattle.av_names.specs.inner.ShortSums.{IsShortWritten}
use Rattle.av_names.proofs.Summed.{great_is}
use Rattle.av_names.proofs.measure.great.Goals as goal

pub first_of-requires : goal.first_of-requires
first_of-requires c = λ k. ((refl, tt), λ w among. (All-contains (λ w. IsShortWritten (written w)) c.args.all.now w c.requires.short among, c.requires.sizes))

pub returns : goal.returns
returns c = λ s are.
    let m = c.args.measure in
    let sizes = sizes_in c.args.sizes.now in
    c.number_of.ensures ∙ great_is m s sizes c.args.all.now (option_map counted c.first_of.result) are
    (c.first_of.ensures (λ w. first_of (λ x. x.place) (exceeds (limit_of m)) (numbers_of m sizes (written w))) (λ w fault is. is))
