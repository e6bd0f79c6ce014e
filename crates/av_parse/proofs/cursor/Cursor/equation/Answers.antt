use Rattle.std.proofs.lemmas.Result.{err_from_is_err_and}
use Rattle.av_lex.specs.Lexing.{view as token_view, views}
use Rattle.av_tree.specs.Trees.{view}
use Rattle.av_parse.proofs.InParts.{name_stop, indices_stop, equals_stop, right_stop, equation_done}
use Rattle.av_parse.proofs.cursor.Cursor.equation.Goals as goal

pub returns-in_err-token : goal.returns-in_err-token
returns-in_err-token c =
    let p = err_from_is_err_and c.from_residual.result c.from_residual.ensures.1 in
    rw (p.1, p.2) (name_stop c.args.levels (views c.args.self.now.rest.now) c.in_err-token.field-0.0 c.in_err-token.ensures.gives)

pub returns-in_err-indices : goal.returns-in_err-indices
returns-in_err-indices c =
    let p = err_from_is_err_and c.from_residual-in_err-indices.result c.from_residual-in_err-indices.ensures.1 in
    rw (p.1, p.2) (indices_stop c.args.levels (views c.args.self.now.rest.now) c.in_err-indices.field-0.0 (token_view c.in_ok-token.token) (views c.expect.new.self.rest.now) c.in_ok-token.ensures.gives c.in_err-indices.ensures)

pub returns-in_err-symbol : goal.returns-in_err-symbol
returns-in_err-symbol c =
    let p = err_from_is_err_and c.from_residual-in_err-symbol.result c.from_residual-in_err-symbol.ensures.1 in
    rw (p.1, p.2) (equals_stop c.args.levels (views c.args.self.now.rest.now) c.in_err-symbol.field-0.0 (token_view c.in_ok-token.token) c.in_ok-indices.indices (views c.expect.new.self.rest.now) (views c.index_names.new.self.rest.now)
    c.in_ok-token.ensures.gives c.in_ok-indices.ensures c.in_err-symbol.ensures)

pub returns-in_err-right : goal.returns-in_err-right
returns-in_err-right c =
    let p = err_from_is_err_and c.from_residual-in_err-right.result c.from_residual-in_err-right.ensures.1 in
    rw (p.1, p.2) (right_stop c.args.levels (views c.args.self.now.rest.now) (views c.expect.new.self.rest.now) (views c.index_names.new.self.rest.now) (views c.symbol.new.self.rest.now)
    (token_view c.in_ok-token.token) (token_view c.in_ok-symbol.field-0) c.in_ok-indices.indices c.in_ok-token.ensures.gives c.in_ok-indices.ensures c.in_ok-symbol.ensures c.in_err-right.field-0.0 c.in_err-right.ensures)

pub returns : goal.returns
returns c =
    equation_done c.args.levels (views c.args.self.now.rest.now) (views c.expect.new.self.rest.now) (views c.index_names.new.self.rest.now) (views c.symbol.new.self.rest.now)
    (token_view c.in_ok-token.token) (token_view c.in_ok-symbol.field-0) c.in_ok-indices.indices c.in_ok-token.ensures.gives c.in_ok-indices.ensures c.in_ok-symbol.ensures
    (view c.in_ok-right.right) (views c.right_side.new.self.rest.now) c.in_ok-name.name c.in_ok-right.ensures c.in_ok-name.ensures
