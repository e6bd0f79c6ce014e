use Rattle.std.proofs.Common.{sym, ◌∙◌, inl, true≢false}
use Rattle.av_elim.proofs.Constants.{no_index, constants_of_point}
use Rattle.av_elim.proofs.bounding.constant_bounds.Goals as goal

pub returns-then-constants_hold-clause-found : goal.returns-then-constants_hold-clause-found
returns-then-constants_hold-clause-found c = no_index c.args.rows.now (c.constants_hold.ensures.0 c.if-constants_hold.true)

pub returns-else-constants_hold-clause-refused : goal.returns-else-constants_hold-clause-refused
returns-else-constants_hold-clause-refused c = (c.requires, inl (λ p. true≢false (sym (c.constants_hold.ensures.1 (constants_of_point c.args.rows.now p)) ∙ c.if-constants_hold.false)))
