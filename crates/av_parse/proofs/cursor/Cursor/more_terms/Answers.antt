use Rattle.std.proofs.Common.{sym, ◌∙◌, arith}
use Rattle.std.proofs.lemmas.Result.{err_from_is_err_and}
use Rattle.av_lex.specs.Lexing.{views}
use Rattle.av_parse.proofs.Lists.{terms_full, terms_stop, terms_end, terms_goes}
use Rattle.av_parse.proofs.cursor.Cursor.more_terms.Goals as goal

pub returns-in_default : goal.returns-in_default
returns-in_default c = terms_end c.loop-room.terms c.loop-room.room (views c.loop-room.self.rest.now) _ c.loop-room.invariant c.loop-room-test.true (sym c.term_sign.ensures ∙ c.in_default.is)

pub returns-in_err-term : goal.returns-in_err-term
returns-in_err-term c =
    let p = err_from_is_err_and c.from_residual.result c.from_residual.ensures.1 in
    rw (p.1, p.2) (terms_stop c.loop-room.terms c.loop-room.room (views c.loop-room.self.rest.now) _ c.loop-room.invariant c.in_err-term.field-0.0 c.in-Some.negative c.loop-room-test.true (sym c.term_sign.ensures ∙ c.in-Some.is) (rw c.skip.ensures.rest at c.in_err-term.ensures))

pub loop-room-preserved : goal.loop-room-preserved
loop-room-preserved c =
    rw c.in_ok-push.ensures.ok (terms_goes c.loop-room.terms c.loop-room.room (views c.loop-room.self.rest.now) _ c.loop-room.invariant c.in-Some.negative c.in_ok-term.term (views c.term.new.self.rest.now) c.loop-room-test.true (sym c.term_sign.ensures ∙ c.in-Some.is) (rw c.skip.ensures.rest at c.in_ok-term.ensures))

pub returns : goal.returns
returns c = terms_full c.loop-room.terms c.loop-room.room (views c.loop-room.self.rest.now) _ c.loop-room.invariant (let z = c.loop-room-test.false in omega (arith, z))
