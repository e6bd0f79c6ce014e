use Rattle.std.proofs.Common.{◌≡◌, ◌<◌, true, false, sym, ◌∙◌, arith}
use Rattle.std.specs.Prelude.{codes}
use Rattle.std.proofs.lemmas.Result.{err_from_is_err_and}
use Rattle.av_lex.specs.Lexing.{views}
use Rattle.av_parse.specs.inner.Reader.{begins_symbol}
use Rattle.av_parse.proofs.Lists.{indices_full, indices_stop, indices_end, indices_goes}
use Rattle.av_parse.proofs.cursor.Cursor.indices.Goals as goal
use Rattle.av_parse.proofs.cursor.Cursor.indices.Goals.{then-room-eq0-via-then-room-eq0, then-room-eq0-via-else-room-eq0+then-not-is_symbol}

pub returns-in_err-index : goal.returns-in_err-index
returns-in_err-index c =
    let p = err_from_is_err_and c.from_residual.result c.from_residual.ensures.1 in
    rw (p.1, p.2) (indices_stop c.loop-found.found c.loop-found.room (views c.loop-found.self.rest.now) _ c.loop-found.invariant c.in_err-index.field-0.0 c.in_err-index.ensures)

pub returns-then-room-eq0 : goal.returns-then-room-eq0
returns-then-room-eq0 c =
    elim c.then-room-eq0.branch [
      | then-room-eq0-via-then-room-eq0 w ↦ rw c.in_ok-push.ensures.ok (indices_full c.loop-found.found c.loop-found.room (views c.loop-found.self.rest.now) _ c.loop-found.invariant c.in_ok-index.index (views c.index.new.self.rest.now) w.if-room-eq0.true c.in_ok-index.ensures)
      | then-room-eq0-via-else-room-eq0+then-not-is_symbol w ↦
          let stop : begins_symbol (codes ",") (views c.index.new.self.rest.now) ≡ false = sym w.is_symbol.ensures ∙ w.if-not-is_symbol.true in
          rw c.in_ok-push.ensures.ok (indices_end c.loop-found.found c.loop-found.room (views c.loop-found.self.rest.now) _ c.loop-found.invariant c.in_ok-index.index (views c.index.new.self.rest.now) c.in_ok-index.ensures stop)
    ]

pub loop-found-preserved : goal.loop-found-preserved
loop-found-preserved c =
    let some : 0 < c.loop-found.room = (let z = c.if-room-eq0.false in grind (arith, z)) in
    let more : begins_symbol (codes ",") (views c.index.new.self.rest.now) ≡ true = sym c.is_symbol.ensures ∙ c.if-not-is_symbol.false in
    rw (c.skip.ensures.rest, c.in_ok-push.ensures.ok) (indices_goes c.loop-found.found c.loop-found.room (views c.loop-found.self.rest.now) _ c.loop-found.invariant c.in_ok-index.index (views c.index.new.self.rest.now) some c.in_ok-index.ensures more)
