use Rattle.std.proofs.Common.{◌≡◌, ◌<◌, true, false, sym, ◌∙◌, arith}
use Rattle.std.specs.Prelude.{codes}
use Rattle.std.proofs.lemmas.Result.{err_from_is_err_and}
use Rattle.av_lex.specs.Lexing.{views}
use Rattle.av_tree.specs.Trees.{view}
use Rattle.av_parse.specs.inner.Reader.{begins_symbol}
use Rattle.av_parse.proofs.Expressions.{maps_end, maps_stop, maps_last, maps_goes}
use Rattle.av_parse.proofs.cursor.Cursor.postfix_tail.Goals as goal

pub returns-in_err-map : goal.returns-in_err-map
returns-in_err-map c =
    let p = err_from_is_err_and c.from_residual.result c.from_residual.ensures.1 in
    let test : begins_symbol (codes ".") (views c.loop-self.self.rest.now) ≡ true = sym c.is_symbol.ensures ∙ c.loop-self-test.true in
    rw (p.1, p.2) (maps_stop c.loop-self.room (view c.loop-self.tree) (views c.loop-self.self.rest.now) _ c.loop-self.invariant c.in_err-map.field-0.0 test (rw c.skip.ensures.rest at c.in_err-map.ensures))

pub returns-then-room-eq0 : goal.returns-then-room-eq0
returns-then-room-eq0 c =
    let test : begins_symbol (codes ".") (views c.loop-self.self.rest.now) ≡ true = sym c.is_symbol.ensures ∙ c.loop-self-test.true in
    rw⁻¹ (maps_last c.loop-self.room (view c.loop-self.tree) (views c.loop-self.self.rest.now) _ c.loop-self.invariant c.in_ok-map.map (views c.map.new.self.rest.now) test (rw c.skip.ensures.rest at c.in_ok-map.ensures) c.if-room-eq0.true) (rw c.in_ok-tree.ensures at c.last_mapped.ensures)

pub loop-self-preserved : goal.loop-self-preserved
loop-self-preserved c =
    let test : begins_symbol (codes ".") (views c.loop-self.self.rest.now) ≡ true = sym c.is_symbol.ensures ∙ c.loop-self-test.true in
    let some : 0 < c.loop-self.room = (let z = c.if-room-eq0.false in grind (arith, z)) in
    rw c.in_ok-tree.ensures (maps_goes c.loop-self.room (view c.loop-self.tree) (views c.loop-self.self.rest.now) _ c.loop-self.invariant c.in_ok-map.map (views c.map.new.self.rest.now) test (rw c.skip.ensures.rest at c.in_ok-map.ensures) some)

pub returns : goal.returns
returns c =
    let test : begins_symbol (codes ".") (views c.loop-self.self.rest.now) ≡ false = sym c.is_symbol.ensures ∙ c.loop-self-test.false in
    maps_end c.loop-self.room (view c.loop-self.tree) (views c.loop-self.self.rest.now) _ c.loop-self.invariant test
