use Rattle.std.proofs.Common.{◌≡◌, true, false, refl, sym, ◌∙◌, arith, map}
use Rattle.std.proofs.lemmas.List.{map_push, length-map}
use Rattle.std.proofs.lemmas.Result.{err_from_is_err_and}
use Rattle.av_vparse.specs.inner.Lexing.{view, views}
use Rattle.av_vparse.specs.inner.Reading.{begins_kind, kind_at}
use Rattle.av_vparse.specs.Said.{said_module}
use Rattle.av_vparse.proofs.Many.{goes_on, goes_wrong, goes_to_end, some_left}
use Rattle.av_vparse.proofs.Ends.{kind_end}
use Rattle.av_vparse.proofs.Sound.{kind_took}
use Rattle.av_vparse.proofs.cursor.DesignCursor.kinds.Goals as goal

pub returns-in_err-kind : goal.returns-in_err-kind
returns-in_err-kind c =
    let p = err_from_is_err_and c.from_residual.result c.from_residual.ensures.1 in
    let test : begins_kind (views c.loop-self.self.rest.now) ≡ true = sym c.begins_kind.ensures ∙ c.loop-self-test.true in
    rw (p.1, p.2)
    (goes_wrong (begins_kind) (kind_at) (views c.args.self.now.rest.now) (map said_module c.loop-self.found) (views c.loop-self.self.rest.now) c.in_err-kind.field-0.0
    c.loop-self.invariant test (some_left (begins_kind) refl (views c.loop-self.self.rest.now) test) c.in_err-kind.ensures)

pub loop-self-smaller : goal.loop-self-smaller
loop-self-smaller c =
    let test : begins_kind (views c.loop-self.self.rest.now) ≡ true = sym c.begins_kind.ensures ∙ c.loop-self-test.true in
    let less = kind_end (kind_took (views c.loop-self.self.rest.now) ((said_module c.in_ok-kind.kind), views c.kind.new.self.rest.now) test c.in_ok-kind.ensures) in
    omega (arith, less, length-map c.loop-self.self.rest.now view, length-map c.kind.new.self.rest.now view)

pub loop-self-preserved : goal.loop-self-preserved
loop-self-preserved c =
    let test : begins_kind (views c.loop-self.self.rest.now) ≡ true = sym c.begins_kind.ensures ∙ c.loop-self-test.true in
    let less = kind_end (kind_took (views c.loop-self.self.rest.now) ((said_module c.in_ok-kind.kind), views c.kind.new.self.rest.now) test c.in_ok-kind.ensures) in
    rw (c.in_ok-push.ensures.ok, map_push)
    (goes_on (begins_kind) (kind_at) (views c.args.self.now.rest.now) (map said_module c.loop-self.found) (views c.loop-self.self.rest.now) (views c.kind.new.self.rest.now) (said_module c.in_ok-kind.kind)
    c.loop-self.invariant test c.in_ok-kind.ensures less)

pub returns : goal.returns
returns c =
    let test : begins_kind (views c.loop-self.self.rest.now) ≡ false = sym c.begins_kind.ensures ∙ c.loop-self-test.false in
    goes_to_end (begins_kind) (kind_at) (views c.args.self.now.rest.now) (map said_module c.loop-self.found) (views c.loop-self.self.rest.now) c.loop-self.invariant test
