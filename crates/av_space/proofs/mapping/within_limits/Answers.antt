use Rattle.std.proofs.Common.{◌≤◌, subst}
use Rattle.av_space.proofs.Quantified.{delays_fault, links_fault, operators_fault}
use Rattle.av_space.proofs.mapping.within_limits.Goals as goal

pub returns-then-delays-gt-MOST_DELAYS-clause-refused : goal.returns-then-delays-gt-MOST_DELAYS-clause-refused
returns-then-delays-gt-MOST_DELAYS-clause-refused c =
    delays_fault c.args.scheduled.now c.args.links.now c.requires c.in_ok-delays.delays c.in_ok-delays.ensures c.if-delays-gt-MOST_DELAYS.true

pub returns-then-links-gt-MOST_LINKS-clause-refused : goal.returns-then-links-gt-MOST_LINKS-clause-refused
returns-then-links-gt-MOST_LINKS-clause-refused c =
    links_fault c.args.scheduled.now c.args.links.now c.requires (subst (λ n. n ≤ 32768) c.in_ok-delays.ensures c.if-delays-gt-MOST_DELAYS.false) c.if-links-gt-MOST_LINKS.true

pub returns-then-operators-gt-MOST_OPERATORS-clause-refused : goal.returns-then-operators-gt-MOST_OPERATORS-clause-refused
returns-then-operators-gt-MOST_OPERATORS-clause-refused c =
    operators_fault c.args.scheduled.now c.args.links.now c.requires (subst (λ n. n ≤ 32768) c.in_ok-delays.ensures c.if-delays-gt-MOST_DELAYS.false) c.if-links-gt-MOST_LINKS.false
    c.in_ok-operators.operators c.in_ok-operators.ensures c.if-operators-gt-MOST_OPERATORS.true
