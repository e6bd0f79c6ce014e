use Rattle.std.proofs.Common.{◌≡◌, true, false, sym, ◌∙◌, arith}
use Rattle.std.proofs.lemmas.Result.{err_from_is_err_and}
use Rattle.av_lex.specs.Lexing.{views}
use Rattle.av_parse.specs.inner.IndexReader.{relation_at, is_there}
use Rattle.av_parse.proofs.Lists.{chain_full, chain_stop, chain_side_stop, chain_end, chain_goes}
use Rattle.av_parse.proofs.cursor.Cursor.chain.Goals as goal

pub returns-in_err-relation : goal.returns-in_err-relation
returns-in_err-relation c =
    let p = err_from_is_err_and c.from_residual.result c.from_residual.ensures.1 in
    rw (p.1, p.2) (chain_stop c.loop-room.found c.loop-room.room c.loop-room.lefts (views c.loop-room.self.rest.now) _ c.loop-room.invariant c.in_err-relation.field-0.0 c.loop-room-test.true c.in_err-relation.ensures)

pub returns-in_err-rights : goal.returns-in_err-rights
returns-in_err-rights c =
    let p = err_from_is_err_and c.from_residual-in_err-rights.result c.from_residual-in_err-rights.ensures.1 in
    rw (p.1, p.2) (chain_side_stop c.loop-room.found c.loop-room.room c.loop-room.lefts (views c.loop-room.self.rest.now) _ c.loop-room.invariant c.in_err-rights.field-0.0 c.in_ok-relation.relation (views c.relation.new.self.rest.now) c.loop-room-test.true c.in_ok-relation.ensures c.in_err-rights.ensures)

pub returns-then-not-begins_relation : goal.returns-then-not-begins_relation
returns-then-not-begins_relation c =
    let stop : is_there (relation_at (views c.side.new.self.rest.now)) ≡ false = sym c.begins_relation.ensures ∙ c.if-not-begins_relation.true in
    let made = rw (c.as_slice.ensures, c.as_slice-in-loop-room.ensures) at c.in_ok-compare.ensures in
    rw made (chain_end c.loop-room.found c.loop-room.room c.loop-room.lefts (views c.loop-room.self.rest.now) _ c.loop-room.invariant c.in_ok-relation.relation (views c.relation.new.self.rest.now) (views c.side.new.self.rest.now) c.in_ok-rights.rights c.loop-room-test.true c.in_ok-relation.ensures c.in_ok-rights.ensures stop)

pub loop-room-preserved : goal.loop-room-preserved
loop-room-preserved c =
    let more : is_there (relation_at (views c.side.new.self.rest.now)) ≡ true = sym c.begins_relation.ensures ∙ c.if-not-begins_relation.false in
    let made = rw (c.as_slice.ensures, c.as_slice-in-loop-room.ensures) at c.in_ok-compare.ensures in
    rw made (chain_goes c.loop-room.found c.loop-room.room c.loop-room.lefts (views c.loop-room.self.rest.now) _ c.loop-room.invariant c.in_ok-relation.relation (views c.relation.new.self.rest.now) (views c.side.new.self.rest.now) c.in_ok-rights.rights c.loop-room-test.true c.in_ok-relation.ensures c.in_ok-rights.ensures more)

pub returns : goal.returns
returns c = rw c.syntax.ensures (chain_full c.loop-room.found c.loop-room.room c.loop-room.lefts (views c.loop-room.self.rest.now) _ c.loop-room.invariant (let z = c.loop-room-test.false in omega (arith, z)))
