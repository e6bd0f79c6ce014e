use Rattle.std.proofs.Common.{◌<◌, ◌+◌, List, Option, length, refl, sym, ap, subst, ◌∙◌}
use Rattle.av_base.specs.Words.{identity}
use Rattle.av_poly.specs.Points.{Set}
use Rattle.av_flat.specs.declared.flat.Var.{Var}
use Rattle.av_flat.specs.declared.tree.Tree.{Tree as TreeMade}
use Rattle.av_flat.specs.Trees.{Tree, view, reduction}
use Rattle.av_normal.proofs.Outcomes.{if_ok}
use Rattle.av_serial.specs.Lines.{choices_of}
use Rattle.av_serial.specs.inner.Tries.{IsDomainOf}
use Rattle.av_serial.specs.inner.Premises.{HasPremises}
use Rattle.av_serial.specs.inner.Building.{AreMade}
use Rattle.av_serial.proofs.Building.{made_two, made_four, made_empty, made_within, made_reduction, made_grows}
use Rattle.av_normal.proofs.Depths.{left_falls, right_falls, first_falls, second_falls, third_falls, fourth_falls, body_falls}
use Rattle.av_serial.proofs.Finding.{set_point}
use Rattle.av_serial.proofs.Premises.{ready_left, ready_right, ready_first, ready_second, ready_third, ready_fourth, ready_inside}
use Rattle.av_serial.proofs.build.+chained.Goals as goal

-- ---- what is required of the parts

pub chained-boxed-requires : goal.chained-boxed-requires
chained-boxed-requires t c =
    let e = c.args.equation in
    let Ready : TreeMade → _ = λ (u : TreeMade). HasPremises c.args.name.now (length c.args.chains.now) (view u) in
    let all = subst Ready c.in-Binary.is c.requires.ready in (
      left_falls t c.args.tree.now c.deref.result.now c.decreases c.in-Binary.sign c.in-Binary.left c.in-Binary.right c.in-Binary.is c.deref.ensures,
      (
        subst Ready (sym c.deref.ensures) (ready_left c.args.name.now e.first.0 e.width.bits e.base.0 c.in-Binary.sign (view c.in-Binary.left.value) (view c.in-Binary.right.value) (length c.args.chains.now) all),
        (c.requires.base, c.requires.first),
      ),
    )

pub chained-boxed-requires-in-Binary : goal.chained-boxed-requires-in-Binary
chained-boxed-requires-in-Binary t c =
    let e = c.args.equation in
    let name = c.args.name.now in
    let l = view c.in-Binary.left.value in
    let a = view c.in_ok-left-in-Binary.left.value in
    let all = subst (λ (u : TreeMade). HasPremises name (length c.args.chains.now) (view u)) c.in-Binary.is c.requires.ready in
    let made = rw c.deref.ensures at c.in_ok-left-in-Binary.ensures in (
      right_falls t c.args.tree.now c.deref-in-Binary.result.now c.decreases c.in-Binary.sign c.in-Binary.left c.in-Binary.right c.in-Binary.is c.deref-in-Binary.ensures,
      (
        subst (λ (u : TreeMade). HasPremises name (length c.boxed.new.chains) (view u)) (sym c.deref-in-Binary.ensures)
            (ready_right name e.first.0 e.width.bits e.base.0 c.in-Binary.sign l (view c.in-Binary.right.value) a c.args.chains.now c.boxed.new.chains all made),
        (c.requires.base, made_grows name e.first.0 e.width.bits e.base.0 c.args.chains.now c.boxed.new.chains l a made c.requires.first),
      ),
    )

pub chained-boxed-requires-in-Choose : goal.chained-boxed-requires-in-Choose
chained-boxed-requires-in-Choose t c =
    let e = c.args.equation in
    let name = c.args.name.now in
    let all = subst (λ (u : TreeMade). HasPremises name (length c.args.chains.now) (view u)) c.in-Choose.is c.requires.ready in (
      first_falls t c.args.tree.now c.deref-in-Choose.result.now c.decreases c.in-Choose.compare c.in-Choose.left c.in-Choose.right c.in-Choose.yes c.in-Choose.no c.in-Choose.is c.deref-in-Choose.ensures,
      (
        subst (λ (u : TreeMade). HasPremises name (length c.args.chains.now) (view u)) (sym c.deref-in-Choose.ensures)
            (ready_first name e.first.0 e.width.bits e.base.0 c.in-Choose.compare (view c.in-Choose.left.value) (view c.in-Choose.right.value) (view c.in-Choose.yes.value) (view c.in-Choose.no.value)
            (length c.args.chains.now) all),
        (c.requires.base, c.requires.first),
      ),
    )

pub chained-boxed-requires-in-Choose-2 : goal.chained-boxed-requires-in-Choose-2
chained-boxed-requires-in-Choose-2 t c =
    let e = c.args.equation in
    let name = c.args.name.now in
    let all = subst (λ (u : TreeMade). HasPremises name (length c.args.chains.now) (view u)) c.in-Choose.is c.requires.ready in
    let made1 = rw c.deref-in-Choose.ensures at c.in_ok-left-in-Choose.ensures in
    let grown1 = made_grows name e.first.0 e.width.bits e.base.0 c.args.chains.now c.boxed-in-Choose.new.chains (view c.in-Choose.left.value) (view c.in_ok-left-in-Choose.left.value) made1 c.requires.first in (
      second_falls t c.args.tree.now c.deref-in-Choose-2.result.now c.decreases c.in-Choose.compare c.in-Choose.left c.in-Choose.right c.in-Choose.yes c.in-Choose.no c.in-Choose.is c.deref-in-Choose-2.ensures,
      (
        subst (λ (u : TreeMade). HasPremises name (length c.boxed-in-Choose.new.chains) (view u)) (sym c.deref-in-Choose-2.ensures)
            (ready_second name e.first.0 e.width.bits e.base.0 c.in-Choose.compare (view c.in-Choose.left.value) (view c.in-Choose.right.value) (view c.in-Choose.yes.value) (view c.in-Choose.no.value)
            (view c.in_ok-left-in-Choose.left.value) c.args.chains.now c.boxed-in-Choose.new.chains all made1),
        (c.requires.base, grown1),
      ),
    )

pub chained-boxed-requires-in-Choose-3 : goal.chained-boxed-requires-in-Choose-3
chained-boxed-requires-in-Choose-3 t c =
    let e = c.args.equation in
    let name = c.args.name.now in
    let all = subst (λ (u : TreeMade). HasPremises name (length c.args.chains.now) (view u)) c.in-Choose.is c.requires.ready in
    let made1 = rw c.deref-in-Choose.ensures at c.in_ok-left-in-Choose.ensures in
    let made2 = rw c.deref-in-Choose-2.ensures at c.in_ok-right-in-Choose.ensures in
    let grown1 = made_grows name e.first.0 e.width.bits e.base.0 c.args.chains.now c.boxed-in-Choose.new.chains (view c.in-Choose.left.value) (view c.in_ok-left-in-Choose.left.value) made1 c.requires.first in
    let grown2 = made_grows name e.first.0 e.width.bits e.base.0 c.boxed-in-Choose.new.chains c.boxed-in-Choose-2.new.chains (view c.in-Choose.right.value) (view c.in_ok-right-in-Choose.right.value) made2 grown1 in (
      third_falls t c.args.tree.now c.deref-in-Choose-3.result.now c.decreases c.in-Choose.compare c.in-Choose.left c.in-Choose.right c.in-Choose.yes c.in-Choose.no c.in-Choose.is c.deref-in-Choose-3.ensures,
      (
        subst (λ (u : TreeMade). HasPremises name (length c.boxed-in-Choose-2.new.chains) (view u)) (sym c.deref-in-Choose-3.ensures)
            (ready_third name e.first.0 e.width.bits e.base.0 c.in-Choose.compare (view c.in-Choose.left.value) (view c.in-Choose.right.value) (view c.in-Choose.yes.value) (view c.in-Choose.no.value)
            (view c.in_ok-left-in-Choose.left.value) (view c.in_ok-right-in-Choose.right.value) c.args.chains.now c.boxed-in-Choose.new.chains c.boxed-in-Choose-2.new.chains all made1 made2),
        (c.requires.base, grown2),
      ),
    )

pub chained-boxed-requires-in-Choose-4 : goal.chained-boxed-requires-in-Choose-4
chained-boxed-requires-in-Choose-4 t c =
    let e = c.args.equation in
    let name = c.args.name.now in
    let all = subst (λ (u : TreeMade). HasPremises name (length c.args.chains.now) (view u)) c.in-Choose.is c.requires.ready in
    let made1 = rw c.deref-in-Choose.ensures at c.in_ok-left-in-Choose.ensures in
    let made2 = rw c.deref-in-Choose-2.ensures at c.in_ok-right-in-Choose.ensures in
    let made3 = rw c.deref-in-Choose-3.ensures at c.in_ok-yes-in-Choose.ensures in
    let grown1 = made_grows name e.first.0 e.width.bits e.base.0 c.args.chains.now c.boxed-in-Choose.new.chains (view c.in-Choose.left.value) (view c.in_ok-left-in-Choose.left.value) made1 c.requires.first in
    let grown2 = made_grows name e.first.0 e.width.bits e.base.0 c.boxed-in-Choose.new.chains c.boxed-in-Choose-2.new.chains (view c.in-Choose.right.value) (view c.in_ok-right-in-Choose.right.value) made2 grown1 in
    let grown3 = made_grows name e.first.0 e.width.bits e.base.0 c.boxed-in-Choose-2.new.chains c.boxed-in-Choose-3.new.chains (view c.in-Choose.yes.value) (view c.in_ok-yes-in-Choose.yes.value) made3 grown2 in (
      fourth_falls t c.args.tree.now c.deref-in-Choose-4.result.now c.decreases c.in-Choose.compare c.in-Choose.left c.in-Choose.right c.in-Choose.yes c.in-Choose.no c.in-Choose.is c.deref-in-Choose-4.ensures,
      (
        subst (λ (u : TreeMade). HasPremises name (length c.boxed-in-Choose-3.new.chains) (view u)) (sym c.deref-in-Choose-4.ensures)
            (ready_fourth name e.first.0 e.width.bits e.base.0 c.in-Choose.compare (view c.in-Choose.left.value) (view c.in-Choose.right.value) (view c.in-Choose.yes.value) (view c.in-Choose.no.value)
            (view c.in_ok-left-in-Choose.left.value) (view c.in_ok-right-in-Choose.right.value) (view c.in_ok-yes-in-Choose.yes.value) c.args.chains.now c.boxed-in-Choose.new.chains c.boxed-in-Choose-2.new.chains c.boxed-in-Choose-3.new.chains all made1 made2 made3),
        (c.requires.base, grown3),
      ),
    )

pub chained-reduced-requires : goal.chained-reduced-requires
chained-reduced-requires t c =
    let name = c.args.name.now in
    let m = c.in-Reduce.map in
    let set = c.in-Reduce.set in
    let all = subst (λ (u : TreeMade). HasPremises name (length c.args.chains.now) (view u)) c.in-Reduce.is c.requires.ready in
    let d = subst (λ (o : Option Set). IsDomainOf m set o) c.in-Some.is c.in_ok-domain-in-Reduce.ensures in (
      body_falls t c.args.tree.now c.deref-in-Some.result.now c.decreases c.in-Reduce.op c.in-Reduce.map c.in-Reduce.body c.in-Reduce.set c.in-Reduce.is c.deref-in-Some.ensures,
      (
        subst (λ (u : TreeMade). HasPremises name (length c.args.chains.now + 1) (view u)) (sym c.deref-in-Some.ensures)
            (ready_inside name c.in-Reduce.op m (view c.in-Reduce.body.value) set (length c.args.chains.now) all (set_point m set c.in-Some.domain d)),
        (all.can.0.projection, (all.can.0.few, (d.dimension ∙ all.can.0.dimension, (d.limits, (c.requires.base, c.requires.first))))),
      ),
    )

-- ---- what is made

pub chained-returns-in_ok-right-in-Binary : goal.chained-returns-in_ok-right-in-Binary
chained-returns-in_ok-right-in-Binary t c =
    let e = c.args.equation in
    rw (c.in-Binary.is, c.binary.ensures)
    (made_two c.args.name.now e.first.0 e.width.bits e.base.0 c.in-Binary.sign (view c.in-Binary.left.value) (view c.in-Binary.right.value) (view c.in_ok-left-in-Binary.left.value) (view c.in_ok-right-in-Binary.right.value)
    c.args.chains.now c.boxed.new.chains c.boxed-in-Binary.new.chains (rw c.deref.ensures at c.in_ok-left-in-Binary.ensures) (rw c.deref-in-Binary.ensures at c.in_ok-right-in-Binary.ensures))

pub chained-returns-in_ok-no-in-Choose : goal.chained-returns-in_ok-no-in-Choose
chained-returns-in_ok-no-in-Choose t c =
    let e = c.args.equation in
    rw (c.in-Choose.is, c.choice.ensures)
    (made_four c.args.name.now e.first.0 e.width.bits e.base.0 c.in-Choose.compare (view c.in-Choose.left.value) (view c.in-Choose.right.value) (view c.in-Choose.yes.value) (view c.in-Choose.no.value)
    (view c.in_ok-left-in-Choose.left.value) (view c.in_ok-right-in-Choose.right.value) (view c.in_ok-yes-in-Choose.yes.value) (view c.in_ok-no-in-Choose.no.value)
    c.args.chains.now c.boxed-in-Choose.new.chains c.boxed-in-Choose-2.new.chains c.boxed-in-Choose-3.new.chains c.boxed-in-Choose-4.new.chains
    (rw c.deref-in-Choose.ensures at c.in_ok-left-in-Choose.ensures) (rw c.deref-in-Choose-2.ensures at c.in_ok-right-in-Choose.ensures)
    (rw c.deref-in-Choose-3.ensures at c.in_ok-yes-in-Choose.ensures) (rw c.deref-in-Choose-4.ensures at c.in_ok-no-in-Choose.ensures))

pub chained-returns-in-None : goal.chained-returns-in-None
chained-returns-in-None t c =
    let e = c.args.equation in
    let none = subst (λ (o : Option Set). IsDomainOf c.in-Reduce.map c.in-Reduce.set o) c.in-None.is c.in_ok-domain-in-Reduce.ensures in
    rw c.in-Reduce.is (made_empty c.args.name.now e.first.0 e.width.bits e.base.0 c.in-Reduce.op c.in-Reduce.map (view c.in-Reduce.body.value) c.in-Reduce.set c.identity.result.bits c.args.chains.now none c.identity.ensures)

pub reduced-placed-requires-clause-within : goal.reduced-placed-requires-clause-within
reduced-placed-requires-clause-within t c =
    let e = c.args.equation in
    let w = made_within c.args.name.now e.first.0 e.width.bits e.base.0 c.args.chains.now c.push.new.self c.chained.new.chains c.in_ok-placeholder.field-0 (view c.args.body.now) (view c.in_ok-body.body) c.in_ok-push.ensures.ok c.in_ok-body.ensures in
    subst (λ (xs : List Var). length xs < length c.chained.new.chains) (sym c.as_slice-index.ensures) w

pub reduced-returns : goal.reduced-returns
reduced-returns t c =
    let e = c.args.equation in
    let index = length c.as_slice-index.result.now in
    if_ok c.placed.result c.placed.ensures
    (λ made p set d.
    subst (λ (u : Tree). AreMade c.args.name.now e.first.0 e.width.bits e.base.0 c.args.chains.now c.placed.new.chains (reduction c.args.reduction.op c.args.reduction.map.now (view c.args.body.now) set) u) (sym p.reads)
    (made_reduction c.args.name.now e.first.0 e.width.bits e.base.0 c.args.reduction.op c.args.reduction.map.now (view c.args.body.now) (view c.in_ok-body.body) set c.args.reduction.domain (choices_of c.args.reduction.map.now c.args.reduction.domain.rows) (identity e.width.bits c.args.reduction.op) (e.base.0 + index) index
    c.args.chains.now c.push.new.self c.chained.new.chains c.placed.new.chains c.in_ok-placeholder.field-0 p.own d (ap (λ (xs : List Var). length xs) c.as_slice-index.ensures) refl c.in_ok-push.ensures.ok c.in_ok-body.ensures p.is p.chain refl refl))

pub chained-returns-in-Some : goal.chained-returns-in-Some
chained-returns-in-Some t c =
    let e = c.args.equation in
    let d = subst (λ (o : Option Set). IsDomainOf c.in-Reduce.map c.in-Reduce.set o) c.in-Some.is c.in_ok-domain-in-Reduce.ensures in
    if_ok c.reduced.result c.reduced.ensures
    (λ made r.
    subst (λ (u : Tree). AreMade c.args.name.now e.first.0 e.width.bits e.base.0 c.args.chains.now c.reduced.new.chains u (view made))
    (ap (λ (b : TreeMade). reduction c.in-Reduce.op c.in-Reduce.map (view b) c.in-Reduce.set) c.deref-in-Some.ensures ∙ sym (ap view c.in-Reduce.is)) (r c.in-Reduce.set d))
