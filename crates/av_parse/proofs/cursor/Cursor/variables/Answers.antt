use Rattle.std.proofs.Common.{◌≡◌, true, false, sym, ◌∙◌, arith}
use Rattle.std.proofs.lemmas.Result.{err_from_is_err_and}
use Rattle.av_base.specs.declared.token_kind.TokenKind.TheVariants as kind
use Rattle.av_lex.specs.Lexing.{view, views}
use Rattle.av_parse.specs.inner.Reader.{begins}
use Rattle.av_parse.proofs.Declarations.{variables_full, variables_stop, variables_semicolon_stop, variables_end, variables_goes}
use Rattle.av_parse.proofs.cursor.Cursor.variables.Goals as goal

pub returns-in_err-declaration : goal.returns-in_err-declaration
returns-in_err-declaration c =
    let p = err_from_is_err_and c.from_residual.result c.from_residual.ensures.1 in
    rw (p.1, p.2) (variables_stop c.loop-room.found c.loop-room.room (views c.loop-room.self.rest.now) _ c.loop-room.invariant c.in_err-declaration.field-0.0 c.loop-room-test.true c.in_err-declaration.ensures)

pub returns-in_err-symbol : goal.returns-in_err-symbol
returns-in_err-symbol c =
    let p = err_from_is_err_and c.from_residual-in_err-symbol.result c.from_residual-in_err-symbol.ensures.1 in
    rw (p.1, p.2) (variables_semicolon_stop c.loop-room.found c.loop-room.room (views c.loop-room.self.rest.now) _ c.loop-room.invariant c.in_err-symbol.field-0.0 c.declaration.new.found (views c.declaration.new.self.rest.now) c.loop-room-test.true c.in_ok-declaration.ensures c.in_err-symbol.ensures)

pub returns-then-not-begins : goal.returns-then-not-begins
returns-then-not-begins c =
    let stop : begins kind.Name (views c.symbol.new.self.rest.now) ≡ false = sym c.begins.ensures ∙ c.if-not-begins.true in
    variables_end c.loop-room.found c.loop-room.room (views c.loop-room.self.rest.now) _ c.loop-room.invariant c.declaration.new.found (views c.declaration.new.self.rest.now) (view c.in_ok-symbol.field-0) (views c.symbol.new.self.rest.now) c.loop-room-test.true c.in_ok-declaration.ensures c.in_ok-symbol.ensures stop

pub loop-room-preserved : goal.loop-room-preserved
loop-room-preserved c =
    let more : begins kind.Name (views c.symbol.new.self.rest.now) ≡ true = sym c.begins.ensures ∙ c.if-not-begins.false in
    variables_goes c.loop-room.found c.loop-room.room (views c.loop-room.self.rest.now) _ c.loop-room.invariant c.declaration.new.found (views c.declaration.new.self.rest.now) (view c.in_ok-symbol.field-0) (views c.symbol.new.self.rest.now) c.loop-room-test.true c.in_ok-declaration.ensures c.in_ok-symbol.ensures more

pub returns : goal.returns
returns c = rw c.syntax.ensures (variables_full c.loop-room.found c.loop-room.room (views c.loop-room.self.rest.now) _ c.loop-room.invariant (let z = c.loop-room-test.false in omega (arith, z)))
