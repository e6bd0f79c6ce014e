use Rattle.std.proofs.Common.{rules, ◌≡◌, ◌∙◌, true, false, sym, ap, Option}
use Rattle.av_tree.specs.Points.{Point}
use Rattle.av_flat.specs.Points.{has}
use Rattle.av_space.specs.inner.Feeding.{is_entered}
use Rattle.av_space.proofs.Entered.{tested, not_entered, entered_along}
use Rattle.av_space.proofs.input_site.InputSite.is_entered.Goals as goal

pub returns-then-not-contains : goal.returns-then-not-contains
returns-then-not-contains c =
    let f : c.contains.result ≡ false = search rules in
    sym (not_entered c.args.self.now.domain.now c.args.self.now.direction c.args.z.now (sym (tested c.contains.result c.args.self.now.domain.now c.args.z.now c.contains.ensures) ∙ f))

pub returns-in-Some : goal.returns-in-Some
returns-in-Some c =
    let set = c.args.self.now.domain.now in
    let z = c.args.z.now in
    let t : c.contains.result ≡ true = search rules in
    let here = sym (tested c.contains.result set z c.contains.ensures) ∙ t in
    let before_is = tested c.contains-in-Some.result set c.before-in-Some.result c.contains-in-Some.ensures ∙ ap (has set) (c.before-in-Some.ensures.before) in
    entered_along set c.in-Some.direction z c.contains-in-Some.result here before_is ∙ ap (λ (o : Option Point). is_entered set o z) (sym c.in-Some.is)

pub returns-in-None : goal.returns-in-None
returns-in-None c =
    let set = c.args.self.now.domain.now in
    let z = c.args.z.now in
    let t : c.contains.result ≡ true = search rules in
    sym (sym (tested c.contains.result set z c.contains.ensures) ∙ t) ∙ ap (λ (o : Option Point). is_entered set o z) (sym c.in-None.is)
