use Rattle.std.proofs.Common.{◌≡◌, true, false, ap, sym, ◌∙◌, arith}
use Rattle.std.specs.Prelude.{codes}
use Rattle.std.proofs.lemmas.Result.{err_from_is_err_and}
use Rattle.av_base.specs.declared.token_kind.TokenKind.TheVariants as kind
use Rattle.av_lex.specs.Lexing.{views}
use Rattle.av_parse.specs.inner.Reader.{begins, begins_symbol, after}
use Rattle.av_parse.proofs.Declarations.{declarations_full, declarations_stop, declarations_end, declarations_closed, declarations_goes}
use Rattle.av_parse.proofs.cursor.Cursor.declarations.Goals as goal

pub returns-in_err-declaration : goal.returns-in_err-declaration
returns-in_err-declaration c =
    let p = err_from_is_err_and c.from_residual.result c.from_residual.ensures.1 in
    rw (p.1, p.2) (declarations_stop c.loop-room.found c.loop-room.room (views c.loop-room.self.rest.now) _ c.loop-room.invariant c.in_err-declaration.field-0.0 c.loop-room-test.true c.in_err-declaration.ensures)

pub returns-then-not-is_symbol : goal.returns-then-not-is_symbol
returns-then-not-is_symbol c =
    let stop : begins_symbol (codes ";") (views c.declaration.new.self.rest.now) ≡ false = sym c.is_symbol.ensures ∙ c.if-not-is_symbol.true in
    declarations_end c.loop-room.found c.loop-room.room (views c.loop-room.self.rest.now) _ c.loop-room.invariant c.declaration.new.found (views c.declaration.new.self.rest.now) c.loop-room-test.true c.in_ok-declaration.ensures stop

pub returns-then-not-begins : goal.returns-then-not-begins
returns-then-not-begins c =
    let more : begins_symbol (codes ";") (views c.declaration.new.self.rest.now) ≡ true = sym c.is_symbol.ensures ∙ c.if-not-is_symbol.false in
    let close : begins kind.Name (after (views c.declaration.new.self.rest.now)) ≡ false = ap (λ z. begins kind.Name z) (sym c.skip.ensures.rest) ∙ sym c.begins.ensures ∙ c.if-not-begins.true in
    rw c.skip.ensures.rest (declarations_closed c.loop-room.found c.loop-room.room (views c.loop-room.self.rest.now) _ c.loop-room.invariant c.declaration.new.found (views c.declaration.new.self.rest.now) c.loop-room-test.true c.in_ok-declaration.ensures more close)

pub loop-room-preserved : goal.loop-room-preserved
loop-room-preserved c =
    let more : begins_symbol (codes ";") (views c.declaration.new.self.rest.now) ≡ true = sym c.is_symbol.ensures ∙ c.if-not-is_symbol.false in
    let on : begins kind.Name (after (views c.declaration.new.self.rest.now)) ≡ true = ap (λ z. begins kind.Name z) (sym c.skip.ensures.rest) ∙ sym c.begins.ensures ∙ c.if-not-begins.false in
    rw c.skip.ensures.rest (declarations_goes c.loop-room.found c.loop-room.room (views c.loop-room.self.rest.now) _ c.loop-room.invariant c.declaration.new.found (views c.declaration.new.self.rest.now) c.loop-room-test.true c.in_ok-declaration.ensures more on)

pub returns : goal.returns
returns c = rw c.syntax.ensures (declarations_full c.loop-room.found c.loop-room.room (views c.loop-room.self.rest.now) _ c.loop-room.invariant (let z = c.loop-room-test.false in omega (arith, z)))
