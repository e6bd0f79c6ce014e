use Rattle.std.proofs.Common.{◌≡◌, true, false, [], ◌∷◌, refl, sym, ◌∙◌, arith, map}
use Rattle.std.specs.Prelude.{codes}
use Rattle.std.proofs.lemmas.List.{map_push, length-map}
use Rattle.std.proofs.lemmas.Result.{err_from_is_err_and}
use Rattle.av_vparse.specs.inner.Lexing.{view, views}
use Rattle.av_vparse.specs.inner.Reading.{is_at, next_link_at}
use Rattle.av_vparse.specs.Said.{said_link}
use Rattle.av_vparse.proofs.Many.{behind_first, behind_on, behind_wrong, behind_end, some_left}
use Rattle.av_vparse.proofs.Ends.{next_link_end}
use Rattle.av_vparse.proofs.Sound.{next_link_took}
use Rattle.av_vparse.proofs.cursor.DesignCursor.links_from.Goals as goal

pub loop-self-init : goal.loop-self-init
loop-self-init c = rw (c.in_ok-push.ensures.ok, c.new-found.ensures) (behind_first (is_at (codes ",")) (next_link_at) (said_link c.args.first ∷ []) (views c.args.self.now.rest.now))

pub returns-in_err-link : goal.returns-in_err-link
returns-in_err-link c =
    let p = err_from_is_err_and c.from_residual-in_err-link.result c.from_residual-in_err-link.ensures.1 in
    let test : is_at (codes ",") (views c.loop-self.self.rest.now) ≡ true = sym c.is_at.ensures ∙ c.loop-self-test.true in
    rw (p.1, p.2)
    (behind_wrong (is_at (codes ",")) (next_link_at) (said_link c.args.first ∷ []) (views c.args.self.now.rest.now) (map said_link c.loop-self.found) (views c.loop-self.self.rest.now) c.in_err-link.field-0.0
    c.loop-self.invariant test (some_left (is_at (codes ",")) refl (views c.loop-self.self.rest.now) test) c.in_err-link.ensures _)

pub loop-self-smaller : goal.loop-self-smaller
loop-self-smaller c =
    let less = next_link_end (next_link_took (views c.loop-self.self.rest.now) ((said_link c.in_ok-link.link), views c.next_link.new.self.rest.now) c.in_ok-link.ensures) in
    omega (arith, less, length-map c.loop-self.self.rest.now view, length-map c.next_link.new.self.rest.now view)

pub loop-self-preserved : goal.loop-self-preserved
loop-self-preserved c =
    let test : is_at (codes ",") (views c.loop-self.self.rest.now) ≡ true = sym c.is_at.ensures ∙ c.loop-self-test.true in
    let less = next_link_end (next_link_took (views c.loop-self.self.rest.now) ((said_link c.in_ok-link.link), views c.next_link.new.self.rest.now) c.in_ok-link.ensures) in
    rw (c.in_ok-push-2.ensures.ok, map_push)
    (behind_on (is_at (codes ",")) (next_link_at) (said_link c.args.first ∷ []) (views c.args.self.now.rest.now) (map said_link c.loop-self.found) (views c.loop-self.self.rest.now) (views c.next_link.new.self.rest.now) (said_link c.in_ok-link.link)
    c.loop-self.invariant test c.in_ok-link.ensures less)

pub returns : goal.returns
returns c =
    let test : is_at (codes ",") (views c.loop-self.self.rest.now) ≡ false = sym c.is_at.ensures ∙ c.loop-self-test.false in
    behind_end (is_at (codes ",")) (next_link_at) (said_link c.args.first) (views c.args.self.now.rest.now) (map said_link c.loop-self.found) (views c.loop-self.self.rest.now) c.loop-self.invariant test
