use Rattle.std.proofs.Common.{◌∙◌, ap, map}
use Rattle.std.proofs.Math.Path.{fun_ext}
use Rattle.av_tree.specs.Trees.{view_system}
use Rattle.av_names.specs.inner.Sums.{written, great}
use Rattle.av_names.proofs.SpelledSystems.{short_sums}
use Rattle.av_names.proofs.Summed.{short_written, small_values}
use Rattle.av_names.proofs.measure.great_number.Goals as goal

pub great-requires-clause-short : goal.great-requires-clause-short
great-requires-clause-short c =
    let s = view_system c.args.system.now in
    short_written s c.as_slice.result.now (ap (map written) c.as_slice.ensures.value ∙ c.in_ok-all.ensures) (short_sums s c.requires.text)

pub great-requires-clause-sizes : goal.great-requires-clause-sizes
great-requires-clause-sizes c = λ name. rw (c.in_ok-table.ensures name) (small_values c.args.sizes.now c.requires.small name)

pub returns : goal.returns
returns c =
    let s = view_system c.args.system.now in
    c.great.ensures s (ap (map written) c.as_slice.ensures.value ∙ c.in_ok-all.ensures) ∙ ap (great c.args.measure s) (fun_ext c.in_ok-table.ensures)
