use Rattle.std.proofs.lemmas.Result.{err_from_is_err_and}
use Rattle.av_lex.specs.Lexing.{view, views}
use Rattle.av_parse.proofs.InParts.{names_before_stop, colon_stop, declaration_at}
use Rattle.av_parse.proofs.cursor.Cursor.declaration.Goals as goal

pub returns-in_err-names : goal.returns-in_err-names
returns-in_err-names c =
    let p = err_from_is_err_and c.from_residual.result c.from_residual.ensures.1 in
    rw (p.1, p.2) (names_before_stop c.args.found.now (views c.args.self.now.rest.now) c.in_err-names.field-0.0 c.in_err-names.ensures)

pub returns-in_err-symbol : goal.returns-in_err-symbol
returns-in_err-symbol c =
    let p = err_from_is_err_and c.from_residual-in_err-symbol.result c.from_residual-in_err-symbol.ensures.1 in
    rw (p.1, p.2) (colon_stop c.args.found.now (views c.args.self.now.rest.now) c.in_err-symbol.field-0.0 (views c.in_ok-names.names) (views c.names.new.self.rest.now) c.in_ok-names.ensures c.in_err-symbol.ensures)

pub returns : goal.returns
returns c =
    rw (declaration_at (views c.args.self.now.rest.now) (views c.in_ok-names.names) (views c.names.new.self.rest.now) (views c.symbol.new.self.rest.now) (view c.in_ok-symbol.field-0) c.in_ok-names.ensures c.in_ok-symbol.ensures)
    (rw c.as_slice.ensures at c.declaration_rest.ensures)
