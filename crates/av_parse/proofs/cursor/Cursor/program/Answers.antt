use Rattle.std.proofs.lemmas.Result.{err_from_is_err_and}
use Rattle.av_lex.specs.Lexing.{views}
use Rattle.av_tree.specs.Trees.{view_system}
use Rattle.av_parse.proofs.InParts.{whole_stop, program_at}
use Rattle.av_parse.proofs.cursor.Cursor.program.Goals as goal

pub returns-in_err-system : goal.returns-in_err-system
returns-in_err-system c =
    let p = err_from_is_err_and c.from_residual.result c.from_residual.ensures.1 in
    rw (p.1, p.2) (whole_stop c.in_err-system.field-0.0 c.args.levels (views c.args.self.now.rest.now) c.in_err-system.ensures)

pub returns-in_err-end : goal.returns-in_err-end
returns-in_err-end c =
    let p = err_from_is_err_and c.from_residual-in_err-end.result c.from_residual-in_err-end.ensures.1 in
    rw (p.1, p.2, program_at c.args.levels (views c.args.self.now.rest.now) (views c.system.new.self.rest.now) (view_system c.in_ok-system.system) c.in_ok-system.ensures) (c.in_err-end.ensures (view_system c.in_ok-system.system))

pub returns : goal.returns
returns c =
    rw (program_at c.args.levels (views c.args.self.now.rest.now) (views c.system.new.self.rest.now) (view_system c.in_ok-system.system) c.in_ok-system.ensures) (c.in_ok-end.ensures (view_system c.in_ok-system.system))
