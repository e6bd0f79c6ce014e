use Rattle.std.proofs.Common.{◌<◌, arith}
use Rattle.av_lex.specs.Lexing.{views}
use Rattle.av_tree.specs.Trees.{view}
use Rattle.av_parse.proofs.Expressions.{at_level}
use Rattle.av_parse.proofs.cursor.Cursor.deeper_postfix_tail.Goals as goal

pub returns : goal.returns
returns c =
    let some : 0 < c.args.levels = (let z = c.if-levels-eq0.false in grind (arith, z)) in
    rw (at_level c.args.levels (view c.args.body) (views c.args.self.now.rest.now) some) c.postfix_tail.ensures
