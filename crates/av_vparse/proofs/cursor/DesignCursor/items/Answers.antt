use Rattle.std.proofs.Common.{◌≡◌, true, false, refl, sym, ◌∙◌, arith, map}
use Rattle.std.proofs.lemmas.List.{map_push, length-map}
use Rattle.std.proofs.lemmas.Result.{err_from_is_err_and}
use Rattle.av_vparse.specs.inner.Lexing.{view, views}
use Rattle.av_vparse.specs.inner.Reading.{begins_item, item_at}
use Rattle.av_vparse.specs.Said.{said_item}
use Rattle.av_vparse.proofs.Many.{goes_on, goes_wrong, goes_to_end, some_left}
use Rattle.av_vparse.proofs.Ends.{item_end}
use Rattle.av_vparse.proofs.Sound.{item_took}
use Rattle.av_vparse.proofs.cursor.DesignCursor.items.Goals as goal

pub returns-in_err-item : goal.returns-in_err-item
returns-in_err-item c =
    let p = err_from_is_err_and c.from_residual.result c.from_residual.ensures.1 in
    let test : begins_item (views c.loop-self.self.rest.now) ≡ true = sym c.begins_item.ensures ∙ c.loop-self-test.true in
    rw (p.1, p.2)
    (goes_wrong (begins_item) (item_at) (views c.args.self.now.rest.now) (map said_item c.loop-self.found) (views c.loop-self.self.rest.now) c.in_err-item.field-0.0
    c.loop-self.invariant test (some_left (begins_item) refl (views c.loop-self.self.rest.now) test) c.in_err-item.ensures)

pub loop-self-smaller : goal.loop-self-smaller
loop-self-smaller c =
    let less = item_end (item_took (views c.loop-self.self.rest.now) ((said_item c.in_ok-item.item), views c.item.new.self.rest.now) c.in_ok-item.ensures) in
    omega (arith, less, length-map c.loop-self.self.rest.now view, length-map c.item.new.self.rest.now view)

pub loop-self-preserved : goal.loop-self-preserved
loop-self-preserved c =
    let test : begins_item (views c.loop-self.self.rest.now) ≡ true = sym c.begins_item.ensures ∙ c.loop-self-test.true in
    let less = item_end (item_took (views c.loop-self.self.rest.now) ((said_item c.in_ok-item.item), views c.item.new.self.rest.now) c.in_ok-item.ensures) in
    rw (c.in_ok-push.ensures.ok, map_push)
    (goes_on (begins_item) (item_at) (views c.args.self.now.rest.now) (map said_item c.loop-self.found) (views c.loop-self.self.rest.now) (views c.item.new.self.rest.now) (said_item c.in_ok-item.item)
    c.loop-self.invariant test c.in_ok-item.ensures less)

pub returns : goal.returns
returns c =
    let test : begins_item (views c.loop-self.self.rest.now) ≡ false = sym c.begins_item.ensures ∙ c.loop-self-test.false in
    goes_to_end (begins_item) (item_at) (views c.args.self.now.rest.now) (map said_item c.loop-self.found) (views c.loop-self.self.rest.now) c.loop-self.invariant test
