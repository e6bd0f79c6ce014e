use Rattle.av_stream.proofs.Quotients.{product_fits, product_is, no_product}
use Rattle.av_stream.proofs.standing.quotient.Goals as goal

pub overflow_mul-number : goal.overflow_mul-number
overflow_mul-number c =
    let q = c.requires in
    product_fits c.args.cycle c.args.time.now.offset c.args.placed.now.gcd q.timely q.near q.positive q.small c.from.result c.div_euclid-number.result c.from.ensures c.div_euclid-number.ensures

pub returns-then-number-placed-clause-some : goal.returns-then-number-placed-clause-some
returns-then-number-placed-clause-some c =
    let q = c.requires in
    product_is c.args.cycle c.args.time.now.offset c.args.placed.now.gcd q.timely q.near q.positive q.small c.from.result c.div_euclid-number.result c.from.ensures c.div_euclid-number.ensures c.if-number-placed.true

pub returns-else-number-placed-clause-none : goal.returns-else-number-placed-clause-none
returns-else-number-placed-clause-none c =
    let q = c.requires in
    no_product c.args.cycle c.args.time.now.offset c.args.placed.now.gcd q.timely q.near q.positive q.small c.from.result c.div_euclid-number.result c.from.ensures c.div_euclid-number.ensures c.if-number-placed.false
