use Rattle.std.proofs.lemmas.Result.{err_from_is_err_and}
use Rattle.av_lex.specs.Lexing.{views}
use Rattle.av_parse.proofs.InParts.{domain_stop, typing_stop, declaration_done}
use Rattle.av_parse.proofs.cursor.Cursor.declaration_rest.Goals as goal

pub returns-in_err-domain : goal.returns-in_err-domain
returns-in_err-domain c =
    let p = err_from_is_err_and c.from_residual.result c.from_residual.ensures.1 in
    rw (p.1, p.2) (domain_stop c.args.found.now (views c.args.names.now) (views c.args.self.now.rest.now) c.in_err-domain.field-0.0 c.in_err-domain.ensures)

pub returns-in_err-width : goal.returns-in_err-width
returns-in_err-width c =
    let p = err_from_is_err_and c.from_residual-in_err-width.result c.from_residual-in_err-width.ensures.1 in
    rw (p.1, p.2) (typing_stop c.args.found.now (views c.args.names.now) (views c.args.self.now.rest.now) c.in_err-width.field-0.0 c.in_ok-domain.domain (views c.domain.new.self.rest.now) c.in_ok-domain.ensures c.in_err-width.ensures)

pub returns : goal.returns
returns c =
    declaration_done c.args.found.now (views c.args.names.now) (views c.args.self.now.rest.now) c.in_ok-domain.domain c.in_ok-width.width (views c.domain.new.self.rest.now) (views c.typing.new.self.rest.now) c.declare.new.found
    c.in_ok-domain.ensures c.in_ok-width.ensures c.in_ok-declare.ensures
