use Rattle.std.proofs.Common.{◌≡◌, true, false, sym, ◌∙◌, arith}
use Rattle.std.specs.Prelude.{codes}
use Rattle.std.proofs.lemmas.Result.{err_from_is_err_and}
use Rattle.av_lex.specs.Lexing.{view, views}
use Rattle.av_parse.specs.inner.Reader.{begins_symbol}
use Rattle.av_parse.proofs.Views.{views_push}
use Rattle.av_parse.proofs.Lists.{names_full, names_stop, names_end, names_goes}
use Rattle.av_parse.proofs.cursor.Cursor.names.Goals as goal

pub returns-in_err-name : goal.returns-in_err-name
returns-in_err-name c =
    let p = err_from_is_err_and c.from_residual.result c.from_residual.ensures.1 in
    rw (p.1, p.2) (names_stop (views c.loop-room.found) c.loop-room.room (views c.loop-room.self.rest.now) _ c.loop-room.invariant c.in_err-name.field-0.0 c.loop-room-test.true c.in_err-name.ensures.gives)

pub returns-then-not-is_symbol : goal.returns-then-not-is_symbol
returns-then-not-is_symbol c =
    let stop : begins_symbol (codes ",") (views c.expect.new.self.rest.now) ≡ false = sym c.is_symbol.ensures ∙ c.if-not-is_symbol.true in
    rw (c.in_ok-push.ensures.ok, views_push) (names_end (views c.loop-room.found) c.loop-room.room (views c.loop-room.self.rest.now) _ c.loop-room.invariant (view c.in_ok-name.name) (views c.expect.new.self.rest.now) c.loop-room-test.true c.in_ok-name.ensures.gives stop)

pub loop-room-preserved : goal.loop-room-preserved
loop-room-preserved c =
    let more : begins_symbol (codes ",") (views c.expect.new.self.rest.now) ≡ true = sym c.is_symbol.ensures ∙ c.if-not-is_symbol.false in
    rw (c.skip.ensures.rest, c.in_ok-push.ensures.ok, views_push) (names_goes (views c.loop-room.found) c.loop-room.room (views c.loop-room.self.rest.now) _ c.loop-room.invariant (view c.in_ok-name.name) (views c.expect.new.self.rest.now) c.loop-room-test.true c.in_ok-name.ensures.gives more)

pub returns : goal.returns
returns c = rw c.syntax.ensures (names_full (views c.loop-room.found) c.loop-room.room (views c.loop-room.self.rest.now) _ c.loop-room.invariant (let z = c.loop-room-test.false in omega (arith, z)))
