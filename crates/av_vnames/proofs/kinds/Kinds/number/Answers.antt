use Rattle.std.proofs.Common.{length, ◌≤◌, ap, subst, ◌∙◌}
use Rattle.av_vnames.specs.Numbered.{number_of}
use Rattle.av_vnames.proofs.KindTables.{number_within, number_fits}
use Rattle.av_vnames.proofs.kinds.Kinds.number.Goals as goal

pub returns-clause-within : goal.returns-clause-within
returns-clause-within c =
    number_within c.args.self.now c.as_bytes.result.now c.get.result (c.get.ensures ∙ c.self.invariant.numbers c.as_bytes.result.now ∙ ap (λ kinds. number_of kinds c.as_bytes.result.now) c.self.view_is)

pub returns-clause-fits : goal.returns-clause-fits
returns-clause-fits c =
    number_fits c.args.self.now c.as_bytes.result.now c.get.result (c.get.ensures ∙ c.self.invariant.numbers c.as_bytes.result.now ∙ ap (λ kinds. number_of kinds c.as_bytes.result.now) c.self.view_is)
    (subst (λ kinds. length kinds ≤ 1073741824) c.self.view_is c.self.invariant.few)
