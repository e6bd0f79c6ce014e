use Rattle.std.proofs.Common.{◌∙◌, option_map}
use Rattle.av_names.specs.Quantities.{exceeds}
use Rattle.av_names.specs.inner.Sums.{sizes_in, limit_of, of_index, of_row, counted, written}
use Rattle.av_names.proofs.Summed.{written_exceeds}
use Rattle.av_names.proofs.measure.NumberRuleRuleWrittenCounted.fault.Goals as goal

pub returns : goal.returns
returns c =
    let m = c.args.self.now.measure in
    let sizes = sizes_in c.args.self.now.sizes.now in
    let at = written c.args.written.now in
    c.sooner.ensures
    ∙ written_exceeds m sizes at (limit_of m) (option_map counted c.first_of-index.result) (option_map counted c.first_of-row.result)
    (c.first_of-index.ensures (λ e. exceeds (limit_of m) (of_index m sizes at.names e)) (λ e fault is. is))
    (c.first_of-row.ensures (λ r. exceeds (limit_of m) (of_row m sizes at.names r)) (λ r fault is. is))
