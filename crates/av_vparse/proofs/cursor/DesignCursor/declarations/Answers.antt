use Rattle.std.proofs.Common.{◌≡◌, true, false, refl, sym, ◌∙◌, arith, map}
use Rattle.std.proofs.lemmas.List.{map_push, length-map}
use Rattle.std.proofs.lemmas.Result.{err_from_is_err_and}
use Rattle.av_vparse.specs.inner.Lexing.{view, views}
use Rattle.av_vparse.specs.inner.Reading.{begins_declaration, declaration_at}
use Rattle.av_vparse.specs.Said.{said_declaration}
use Rattle.av_vparse.proofs.Many.{goes_on, goes_wrong, goes_to_end, some_left}
use Rattle.av_vparse.proofs.Ends.{declaration_end}
use Rattle.av_vparse.proofs.Sound.{declaration_took}
use Rattle.av_vparse.proofs.cursor.DesignCursor.declarations.Goals as goal

pub returns-in_err-declaration : goal.returns-in_err-declaration
returns-in_err-declaration c =
    let p = err_from_is_err_and c.from_residual.result c.from_residual.ensures.1 in
    let test : begins_declaration (views c.loop-self.self.rest.now) ≡ true = sym c.begins_declaration.ensures ∙ c.loop-self-test.true in
    rw (p.1, p.2)
    (goes_wrong (begins_declaration) (declaration_at) (views c.args.self.now.rest.now) (map said_declaration c.loop-self.found) (views c.loop-self.self.rest.now) c.in_err-declaration.field-0.0
    c.loop-self.invariant test (some_left (begins_declaration) refl (views c.loop-self.self.rest.now) test) c.in_err-declaration.ensures)

pub loop-self-smaller : goal.loop-self-smaller
loop-self-smaller c =
    let less = declaration_end (declaration_took (views c.loop-self.self.rest.now) ((said_declaration c.in_ok-declaration.declaration), views c.declaration.new.self.rest.now) c.in_ok-declaration.ensures) in
    omega (arith, less, length-map c.loop-self.self.rest.now view, length-map c.declaration.new.self.rest.now view)

pub loop-self-preserved : goal.loop-self-preserved
loop-self-preserved c =
    let test : begins_declaration (views c.loop-self.self.rest.now) ≡ true = sym c.begins_declaration.ensures ∙ c.loop-self-test.true in
    let less = declaration_end (declaration_took (views c.loop-self.self.rest.now) ((said_declaration c.in_ok-declaration.declaration), views c.declaration.new.self.rest.now) c.in_ok-declaration.ensures) in
    rw (c.in_ok-push.ensures.ok, map_push)
    (goes_on (begins_declaration) (declaration_at) (views c.args.self.now.rest.now) (map said_declaration c.loop-self.found) (views c.loop-self.self.rest.now) (views c.declaration.new.self.rest.now) (said_declaration c.in_ok-declaration.declaration)
    c.loop-self.invariant test c.in_ok-declaration.ensures less)

pub returns : goal.returns
returns c =
    let test : begins_declaration (views c.loop-self.self.rest.now) ≡ false = sym c.begins_declaration.ensures ∙ c.loop-self-test.false in
    goes_to_end (begins_declaration) (declaration_at) (views c.args.self.now.rest.now) (map said_declaration c.loop-self.found) (views c.loop-self.self.rest.now) c.loop-self.invariant test
