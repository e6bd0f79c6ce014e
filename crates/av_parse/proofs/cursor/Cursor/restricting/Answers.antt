use Rattle.std.proofs.Common.{◌<◌, arith}
use Rattle.av_lex.specs.Lexing.{views}
use Rattle.av_parse.proofs.Expressions.{domain_rest_at, domain_rest_at_zero}
use Rattle.av_parse.proofs.cursor.Cursor.restricting.Goals as goal

pub returns-then-levels-eq0 : goal.returns-then-levels-eq0
returns-then-levels-eq0 c = rw (c.too_deep.ensures, c.begins_domain_rest-may_stand.ensures) (domain_rest_at_zero c.args.levels c.args.place (views c.args.self.now.rest.now) c.if-levels-eq0.true)

pub returns : goal.returns
returns c =
    let some : 0 < c.args.levels = (let z = c.if-levels-eq0.false in grind (arith, z)) in
    rw (domain_rest_at c.args.levels c.args.place (views c.args.self.now.rest.now) some) c.domain_rest.ensures
