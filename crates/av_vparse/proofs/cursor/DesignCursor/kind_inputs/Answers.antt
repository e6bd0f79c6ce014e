use Rattle.std.proofs.Common.{◌≡◌, true, false, refl, sym, ◌∙◌, arith}
use Rattle.std.specs.Prelude.{codes}
use Rattle.std.proofs.lemmas.List.{length-map}
use Rattle.std.proofs.lemmas.Result.{err_from_is_err_and}
use Rattle.av_vparse.specs.inner.Lexing.{view, views}
use Rattle.av_vparse.specs.inner.Reading.{is_at, kind_input_at}
use Rattle.av_vparse.proofs.Many.{goes_on, goes_wrong, goes_to_end, some_left}
use Rattle.av_vparse.proofs.Ends.{kind_input_end}
use Rattle.av_vparse.proofs.Sound.{kind_input_took}
use Rattle.av_vparse.proofs.cursor.DesignCursor.kind_inputs.Goals as goal

pub returns-in_err-port : goal.returns-in_err-port
returns-in_err-port c =
    let p = err_from_is_err_and c.from_residual.result c.from_residual.ensures.1 in
    let test : is_at (codes "input") (views c.loop-self.self.rest.now) ≡ true = sym c.is_at.ensures ∙ c.loop-self-test.true in
    rw (p.1, p.2)
    (goes_wrong (is_at (codes "input")) (kind_input_at) (views c.args.self.now.rest.now) c.loop-self.found (views c.loop-self.self.rest.now) c.in_err-port.field-0.0
    c.loop-self.invariant test (some_left (is_at (codes "input")) refl (views c.loop-self.self.rest.now) test) c.in_err-port.ensures)

pub loop-self-smaller : goal.loop-self-smaller
loop-self-smaller c =
    let less = kind_input_end (kind_input_took (views c.loop-self.self.rest.now) (c.in_ok-port.port, views c.kind_input.new.self.rest.now) c.in_ok-port.ensures) in
    omega (arith, less, length-map c.loop-self.self.rest.now view, length-map c.kind_input.new.self.rest.now view)

pub loop-self-preserved : goal.loop-self-preserved
loop-self-preserved c =
    let test : is_at (codes "input") (views c.loop-self.self.rest.now) ≡ true = sym c.is_at.ensures ∙ c.loop-self-test.true in
    let less = kind_input_end (kind_input_took (views c.loop-self.self.rest.now) (c.in_ok-port.port, views c.kind_input.new.self.rest.now) c.in_ok-port.ensures) in
    rw c.in_ok-push.ensures.ok
    (goes_on (is_at (codes "input")) (kind_input_at) (views c.args.self.now.rest.now) c.loop-self.found (views c.loop-self.self.rest.now) (views c.kind_input.new.self.rest.now) c.in_ok-port.port
    c.loop-self.invariant test c.in_ok-port.ensures less)

pub returns : goal.returns
returns c =
    let test : is_at (codes "input") (views c.loop-self.self.rest.now) ≡ false = sym c.is_at.ensures ∙ c.loop-self-test.false in
    goes_to_end (is_at (codes "input")) (kind_input_at) (views c.args.self.now.rest.now) c.loop-self.found (views c.loop-self.self.rest.now) c.loop-self.invariant test
