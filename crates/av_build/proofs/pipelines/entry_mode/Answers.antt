use Rattle.std.proofs.Common.{ap, ◌∙◌, None, List}
use Rattle.av_flat.specs.Trees.{view, view_system}
use Rattle.av_kinds.proofs.Added.{if_ok_map}
use Rattle.av_build.specs.declared.moments.Moment.{Moment}
use Rattle.av_build.specs.inner.Moments.{site_by}
use Rattle.av_build.specs.inner.Programmed.{inlet_by}
use Rattle.av_build.proofs.HelperModes.{mode_made}
use Rattle.av_build.proofs.pipelines.entry_mode.Goals as goal

pub returns : goal.returns
returns c =
    let entries = c.in_ok-entries.entries in
    let t = view c.args.tree.now in
    let entries_are = c.in_ok-entries.ensures.0 ∙ ap (λ (l : List Moment). site_by (inlet_by (view_system c.args.flat.now) (λ j. j) None t) entries.width l) c.as_slice.ensures in
    if_ok_map _ _ (λ mode is. record { site = entries; site_is = entries_are; width = c.in_ok-entries.ensures.1; is = is }) c.pipeline_mode.result
    (mode_made c.as_slice-2.result.now c.args.found.now.entry_marks entries t c.as_slice-2.ensures c.pipeline_mode.result c.pipeline_mode.ensures.windows c.pipeline_mode.ensures.work)
