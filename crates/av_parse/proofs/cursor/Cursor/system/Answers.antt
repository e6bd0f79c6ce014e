use Rattle.std.proofs.lemmas.Result.{err_from_is_err_and}
use Rattle.av_lex.specs.Lexing.{views}
use Rattle.av_tree.specs.Trees.{view_equations}
use Rattle.av_parse.specs.inner.Views.{view_header}
use Rattle.av_parse.proofs.InParts.{header_stop, locals_stop, definitions_stop, system_done}
use Rattle.av_parse.proofs.cursor.Cursor.system.Goals as goal

pub returns-in_err-header : goal.returns-in_err-header
returns-in_err-header c =
    let p = err_from_is_err_and c.from_residual.result c.from_residual.ensures.1 in
    rw (p.1, p.2) (header_stop c.args.levels (views c.args.self.now.rest.now) c.in_err-header.field-0.0 c.in_err-header.ensures)

pub returns-in_err-locals : goal.returns-in_err-locals
returns-in_err-locals c =
    let p = err_from_is_err_and c.from_residual-in_err-locals.result c.from_residual-in_err-locals.ensures.1 in
    rw (p.1, p.2) (locals_stop c.args.levels (views c.args.self.now.rest.now) c.in_err-locals.field-0.0 (view_header c.in_ok-header.header) (views c.header.new.self.rest.now) c.in_ok-header.ensures c.in_err-locals.ensures)

pub returns-in_err-equations : goal.returns-in_err-equations
returns-in_err-equations c =
    let p = err_from_is_err_and c.from_residual-in_err-equations.result c.from_residual-in_err-equations.ensures.1 in
    rw (p.1, p.2) (definitions_stop c.args.levels (views c.args.self.now.rest.now) (view_header c.in_ok-header.header) c.in_ok-locals.locals (views c.header.new.self.rest.now) (views c.locals.new.self.rest.now) c.in_ok-header.ensures c.in_ok-locals.ensures
    c.in_err-equations.field-0.0 c.in_err-equations.ensures)

pub returns : goal.returns
returns c =
    system_done c.args.levels (views c.args.self.now.rest.now) (view_header c.in_ok-header.header) c.in_ok-locals.locals (views c.header.new.self.rest.now) (views c.locals.new.self.rest.now) c.in_ok-header.ensures c.in_ok-locals.ensures
    (view_equations c.in_ok-equations.equations) (views c.definitions.new.self.rest.now) (views c.semicolon.new.self.rest.now) c.in_ok-equations.ensures c.semicolon.ensures
