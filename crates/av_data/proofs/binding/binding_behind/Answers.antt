use Rattle.std.proofs.Common.{ap, ◌∙◌}
use Rattle.av_data.specs.inner.Bindings.{said_of}
use Rattle.av_data.proofs.Entered.{gives_none}
use Rattle.av_data.proofs.binding.binding_behind.Goals as goal

pub returns-in_err-entries-clause-none : goal.returns-in_err-entries-clause-none
returns-in_err-entries-clause-none c = gives_none c.from_residual.result (ap (said_of c.args.width.bits c.args.name.now) c.in_err-entries.ensures.none)

pub returns-in_err-word-clause-none : goal.returns-in_err-word-clause-none
returns-in_err-word-clause-none c =
    let e = c.in_ok-entries.ensures.some in
    gives_none c.from_residual-in_err-word.result (ap (said_of c.args.width.bits c.args.name.now) e.2 ∙ c.in_err-word.ensures.none c.args.name.now e.0)

pub returns-clause-some : goal.returns-clause-some
returns-clause-some c =
    let e = c.in_ok-entries.ensures.some in
    (e.0, e.1, ap (said_of c.args.width.bits c.args.name.now) e.2 ∙ c.in_ok-word.ensures.some c.args.name.now e.0)
