use Rattle.std.proofs.Common.{◌≡◌, true, false, sym, ◌∙◌, arith}
use Rattle.std.proofs.lemmas.Result.{err_from_is_err_and}
use Rattle.av_base.specs.declared.token_kind.TokenKind.TheVariants as kind
use Rattle.av_lex.specs.Lexing.{views}
use Rattle.av_parse.specs.inner.Reader.{begins}
use Rattle.av_tree.specs.Trees.{view_equation, view_equations}
use Rattle.av_parse.proofs.Declarations.{view_equations_push, equations_full, equations_stop, equations_end, equations_goes}
use Rattle.av_parse.proofs.cursor.Cursor.equations.Goals as goal

pub returns-then-not-begins : goal.returns-then-not-begins
returns-then-not-begins c =
    let stop : begins kind.Name (views c.loop-room.self.rest.now) ≡ false = sym c.begins.ensures ∙ c.if-not-begins.true in
    equations_end c.args.levels (view_equations c.loop-room.found) c.loop-room.room (views c.loop-room.self.rest.now) _ c.loop-room.invariant c.loop-room-test.true stop

pub returns-in_err-equation : goal.returns-in_err-equation
returns-in_err-equation c =
    let p = err_from_is_err_and c.from_residual.result c.from_residual.ensures.1 in
    let more : begins kind.Name (views c.loop-room.self.rest.now) ≡ true = sym c.begins.ensures ∙ c.if-not-begins.false in
    rw (p.1, p.2) (equations_stop c.args.levels (view_equations c.loop-room.found) c.loop-room.room (views c.loop-room.self.rest.now) _ c.loop-room.invariant c.in_err-equation.field-0.0 c.loop-room-test.true more c.in_err-equation.ensures)

pub loop-room-preserved : goal.loop-room-preserved
loop-room-preserved c =
    let more : begins kind.Name (views c.loop-room.self.rest.now) ≡ true = sym c.begins.ensures ∙ c.if-not-begins.false in
    rw (c.in_ok-push.ensures.ok, view_equations_push) (equations_goes c.args.levels (view_equations c.loop-room.found) c.loop-room.room (views c.loop-room.self.rest.now) _ c.loop-room.invariant (view_equation c.in_ok-equation.equation) (views c.equation.new.self.rest.now) c.loop-room-test.true more c.in_ok-equation.ensures)

pub returns : goal.returns
returns c = equations_full c.args.levels (view_equations c.loop-room.found) c.loop-room.room (views c.loop-room.self.rest.now) _ c.loop-room.invariant (let z = c.loop-room-test.false in omega (arith, z))
