use Rattle.std.proofs.Common.{◌≡◌, true, false, ap, sym, ◌∙◌, arith}
use Rattle.std.specs.Prelude.{codes}
use Rattle.std.proofs.lemmas.Result.{err_from_is_err_and}
use Rattle.av_lex.specs.Lexing.{views}
use Rattle.av_parse.specs.inner.Reader.{begins_symbol, after}
use Rattle.av_parse.proofs.Lists.{constraints_full, constraints_stop, constraints_end, constraints_closed, constraints_goes}
use Rattle.av_parse.proofs.cursor.Cursor.constraints.Goals as goal

pub returns-in_err-constraint : goal.returns-in_err-constraint
returns-in_err-constraint c =
    let p = err_from_is_err_and c.from_residual.result c.from_residual.ensures.1 in
    rw (p.1, p.2) (constraints_stop c.loop-room.found c.loop-room.room (views c.loop-room.self.rest.now) _ c.loop-room.invariant c.in_err-constraint.field-0.0 c.loop-room-test.true c.in_err-constraint.ensures)

pub returns-then-not-is_symbol : goal.returns-then-not-is_symbol
returns-then-not-is_symbol c =
    let stop : begins_symbol (codes ";") (views c.constraint.new.self.rest.now) ≡ false = sym c.is_symbol.ensures ∙ c.if-not-is_symbol.true in
    constraints_end c.loop-room.found c.loop-room.room (views c.loop-room.self.rest.now) _ c.loop-room.invariant c.constraint.new.found (views c.constraint.new.self.rest.now) c.loop-room-test.true c.in_ok-constraint.ensures stop

pub returns-then-is_symbol : goal.returns-then-is_symbol
returns-then-is_symbol c =
    let more : begins_symbol (codes ";") (views c.constraint.new.self.rest.now) ≡ true = sym c.is_symbol.ensures ∙ c.if-not-is_symbol.false in
    let close : begins_symbol (codes "}") (after (views c.constraint.new.self.rest.now)) ≡ true = ap (λ z. begins_symbol (codes "}") z) (sym c.skip.ensures.rest) ∙ sym c.is_symbol-in-loop-room.ensures ∙ c.if-is_symbol.true in
    rw c.skip.ensures.rest (constraints_closed c.loop-room.found c.loop-room.room (views c.loop-room.self.rest.now) _ c.loop-room.invariant c.constraint.new.found (views c.constraint.new.self.rest.now) c.loop-room-test.true c.in_ok-constraint.ensures more close)

pub loop-room-preserved : goal.loop-room-preserved
loop-room-preserved c =
    let more : begins_symbol (codes ";") (views c.constraint.new.self.rest.now) ≡ true = sym c.is_symbol.ensures ∙ c.if-not-is_symbol.false in
    let open_still : begins_symbol (codes "}") (after (views c.constraint.new.self.rest.now)) ≡ false = ap (λ z. begins_symbol (codes "}") z) (sym c.skip.ensures.rest) ∙ sym c.is_symbol-in-loop-room.ensures ∙ c.if-is_symbol.false in
    rw c.skip.ensures.rest (constraints_goes c.loop-room.found c.loop-room.room (views c.loop-room.self.rest.now) _ c.loop-room.invariant c.constraint.new.found (views c.constraint.new.self.rest.now) c.loop-room-test.true c.in_ok-constraint.ensures more open_still)

pub returns : goal.returns
returns c = rw c.syntax.ensures (constraints_full c.loop-room.found c.loop-room.room (views c.loop-room.self.rest.now) _ c.loop-room.invariant (let z = c.loop-room-test.false in omega (arith, z)))
