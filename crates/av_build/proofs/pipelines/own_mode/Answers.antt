use Rattle.std.proofs.Common.{◌≡◌, ap, ◌∙◌, List}
use Rattle.av_flat.specs.Trees.{view}
use Rattle.av_kinds.specs.declared.program.Inlet.TheVariants.{Taps}
use Rattle.av_kinds.specs.declared.program.ProgramSite.{ProgramSite}
use Rattle.av_kinds.proofs.Added.{if_ok_map}
use Rattle.av_build.specs.declared.moments.Moment.{Moment}
use Rattle.av_build.specs.inner.Moments.{site_by}
use Rattle.av_build.proofs.HelperModes.{by_marks, mode_made}
use Rattle.av_build.proofs.pipelines.own_mode.Goals as goal

pub returns : goal.returns
returns c =
    let word = c.in_ok-word.word in
    let t = view c.args.tree.now in
    let word_is : word ≡ site_by Taps c.args.own c.args.found.now.own = c.in_ok-word.ensures ∙ ap (λ (l : List Moment). site_by Taps c.args.own l) c.as_slice.ensures in
    if_ok_map _ _ (λ mode is. is ∙ ap (λ (y : ProgramSite). by_marks c.args.found.now.own_marks y t) word_is) c.pipeline_mode.result
    (mode_made c.as_slice-2.result.now c.args.found.now.own_marks word t c.as_slice-2.ensures c.pipeline_mode.result c.pipeline_mode.ensures.windows c.pipeline_mode.ensures.work)
