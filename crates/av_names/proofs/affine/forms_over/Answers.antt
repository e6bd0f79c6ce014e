use Rattle.std.proofs.Common.{ap, ◌∙◌, arith, length, map, take_all}
use Rattle.std.proofs.lemmas.List.{length-map}
use Rattle.std.proofs.lemmas.Grind.{common_steps}
use Rattle.av_names.specs.Forms.{form_of}
use Rattle.av_names.specs.inner.Sums.{sizes_in}
use Rattle.av_names.proofs.affine.forms_over.Goals as goal

pub from_slice-requires : goal.from_slice-requires
from_slice-requires c =
    let xs = c.args.entries.now in
    let f = form_of (sizes_in c.args.sizes.now) c.args.names.now in
    let all = take_all c.loop-index.index-index xs (omega (arith, c.loop-index-test.false)) in
    let e = ap length (c.as_slice.ensures.value ∙ c.loop-index.invariant ∙ ap (map f) all) ∙ length-map xs f in
    omega (arith, e, c.requires.few)

pub loop-index-preserved : goal.loop-index-preserved
loop-index-preserved c = grind (arith, common_steps)

pub returns : goal.returns
returns c = grind (arith, common_steps)
