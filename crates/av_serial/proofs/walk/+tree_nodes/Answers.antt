use Rattle.std.proofs.Common.{Option, subst}
use Rattle.std.proofs.lemmas.Result.{err_from_is_err_and}
use Rattle.av_poly.specs.Points.{Set}
use Rattle.av_flat.specs.Trees.{view}
use Rattle.av_serial.specs.SerialFaults.{reductions_in, IsSum, HasNodes}
use Rattle.av_serial.specs.inner.Tries.{IsDomainOf}
use Rattle.av_serial.proofs.Finding.{fault_first, fault_second, fault_here, fault_after, four_first, four_second, four_third, four_fourth, capped_two, capped_next, capped_none, set_point}
use Rattle.av_serial.proofs.walk.+tree_nodes.Goals as goal

-- ---- two operands

pub returns-in_err-left-in-Binary-clause-bad : goal.returns-in_err-left-in-Binary-clause-bad
returns-in_err-left-in-Binary-clause-bad t c =
    let p = err_from_is_err_and c.from_residual.result c.from_residual.ensures.1 in
    rw (p.1, p.2, c.in-Binary.is)
    (fault_first (reductions_in c.args.name.now (view c.in-Binary.left.value)) (reductions_in c.args.name.now (view c.in-Binary.right.value)) c.in_err-left-in-Binary.field-0.0 (rw c.deref.ensures at c.in_err-left-in-Binary.ensures.bad))

pub returns-in_err-right-in-Binary-clause-bad : goal.returns-in_err-right-in-Binary-clause-bad
returns-in_err-right-in-Binary-clause-bad t c =
    let p = err_from_is_err_and c.from_residual-in_err-right-in-Binary.result c.from_residual-in_err-right-in-Binary.ensures.1 in
    rw (p.1, p.2, c.in-Binary.is)
    (fault_second (reductions_in c.args.name.now (view c.in-Binary.left.value)) (reductions_in c.args.name.now (view c.in-Binary.right.value)) (rw c.deref.ensures at c.in_ok-left-in-Binary.ensures.clean) c.in_err-right-in-Binary.field-0.0 (rw c.deref-in-Binary.ensures at c.in_err-right-in-Binary.ensures.bad))

-- ---- four operands

pub returns-in_err-left-in-Choose-clause-bad : goal.returns-in_err-left-in-Choose-clause-bad
returns-in_err-left-in-Choose-clause-bad t c =
    let p = err_from_is_err_and c.from_residual-in_err-left-in-Choose.result c.from_residual-in_err-left-in-Choose.ensures.1 in
    rw (p.1, p.2, c.in-Choose.is)
    (four_first (reductions_in c.args.name.now (view c.in-Choose.left.value)) (reductions_in c.args.name.now (view c.in-Choose.right.value)) (reductions_in c.args.name.now (view c.in-Choose.yes.value)) (reductions_in c.args.name.now (view c.in-Choose.no.value)) c.in_err-left-in-Choose.field-0.0 (rw c.deref-in-Choose.ensures at c.in_err-left-in-Choose.ensures.bad))

pub returns-in_err-right-in-Choose-clause-bad : goal.returns-in_err-right-in-Choose-clause-bad
returns-in_err-right-in-Choose-clause-bad t c =
    let p = err_from_is_err_and c.from_residual-in_err-right-in-Choose.result c.from_residual-in_err-right-in-Choose.ensures.1 in
    rw (p.1, p.2, c.in-Choose.is)
    (four_second (reductions_in c.args.name.now (view c.in-Choose.left.value)) (reductions_in c.args.name.now (view c.in-Choose.right.value)) (reductions_in c.args.name.now (view c.in-Choose.yes.value)) (reductions_in c.args.name.now (view c.in-Choose.no.value)) c.in_err-right-in-Choose.field-0.0 (rw c.deref-in-Choose.ensures at c.in_ok-left-in-Choose.ensures.clean) (rw c.deref-in-Choose-2.ensures at c.in_err-right-in-Choose.ensures.bad))

pub returns-in_err-yes-in-Choose-clause-bad : goal.returns-in_err-yes-in-Choose-clause-bad
returns-in_err-yes-in-Choose-clause-bad t c =
    let p = err_from_is_err_and c.from_residual-in_err-yes-in-Choose.result c.from_residual-in_err-yes-in-Choose.ensures.1 in
    rw (p.1, p.2, c.in-Choose.is)
    (four_third (reductions_in c.args.name.now (view c.in-Choose.left.value)) (reductions_in c.args.name.now (view c.in-Choose.right.value)) (reductions_in c.args.name.now (view c.in-Choose.yes.value)) (reductions_in c.args.name.now (view c.in-Choose.no.value)) c.in_err-yes-in-Choose.field-0.0 (rw c.deref-in-Choose.ensures at c.in_ok-left-in-Choose.ensures.clean) (rw c.deref-in-Choose-2.ensures at c.in_ok-right-in-Choose.ensures.clean) (rw c.deref-in-Choose-3.ensures at c.in_err-yes-in-Choose.ensures.bad))

pub returns-in_err-no-in-Choose-clause-bad : goal.returns-in_err-no-in-Choose-clause-bad
returns-in_err-no-in-Choose-clause-bad t c =
    let p = err_from_is_err_and c.from_residual-in_err-no-in-Choose.result c.from_residual-in_err-no-in-Choose.ensures.1 in
    rw (p.1, p.2, c.in-Choose.is)
    (four_fourth (reductions_in c.args.name.now (view c.in-Choose.left.value)) (reductions_in c.args.name.now (view c.in-Choose.right.value)) (reductions_in c.args.name.now (view c.in-Choose.yes.value)) (reductions_in c.args.name.now (view c.in-Choose.no.value)) c.in_err-no-in-Choose.field-0.0 (rw c.deref-in-Choose.ensures at c.in_ok-left-in-Choose.ensures.clean) (rw c.deref-in-Choose-2.ensures at c.in_ok-right-in-Choose.ensures.clean) (rw c.deref-in-Choose-3.ensures at c.in_ok-yes-in-Choose.ensures.clean) (rw c.deref-in-Choose-4.ensures at c.in_err-no-in-Choose.ensures.bad))

-- ---- bodies

pub returns-in_err-domain-in-Reduce-clause-bad : goal.returns-in_err-domain-in-Reduce-clause-bad
returns-in_err-domain-in-Reduce-clause-bad t c =
    let p = err_from_is_err_and c.from_residual-in_err-domain-in-Reduce.result c.from_residual-in_err-domain-in-Reduce.ensures.1 in
    rw (p.1, p.2, c.in-Reduce.is) (fault_here (record { name = c.args.name.now; map = c.in-Reduce.map; set = c.in-Reduce.set }) (reductions_in c.args.name.now (view c.in-Reduce.body.value)) c.in_err-domain-in-Reduce.field-0.0 c.in_err-domain-in-Reduce.ensures.cause)

pub returns-in_err-inside-in-Reduce-clause-bad : goal.returns-in_err-inside-in-Reduce-clause-bad
returns-in_err-inside-in-Reduce-clause-bad t c =
    let p = err_from_is_err_and c.from_residual-in_err-inside-in-Reduce.result c.from_residual-in_err-inside-in-Reduce.ensures.1 in
    rw (p.1, p.2, c.in-Reduce.is)
    (fault_after (record { name = c.args.name.now; map = c.in-Reduce.map; set = c.in-Reduce.set }) (reductions_in c.args.name.now (view c.in-Reduce.body.value)) c.in_ok-domain-in-Reduce.ensures.clean c.in_err-inside-in-Reduce.field-0.0 (rw c.deref-in-Reduce.ensures at c.in_err-inside-in-Reduce.ensures.bad))

pub returns-in-Some-clause-nodes : goal.returns-in-Some-clause-nodes
returns-in-Some-clause-nodes t c =
    let d = subst (λ (o : Option Set). IsDomainOf c.in-Reduce.map c.in-Reduce.set o) c.in-Some.is c.in_ok-domain-in-Reduce.ensures.domain in
    rw c.in-Reduce.is
    (capped_next c.in-Reduce.op c.in-Reduce.map (view c.in-Reduce.body.value) c.in-Reduce.set c.in_ok-inside-in-Reduce.inside _ (rw c.deref-in-Reduce.ensures at c.in_ok-inside-in-Reduce.ensures.nodes) (set_point c.in-Reduce.map c.in-Reduce.set c.in-Some._domain d) c.saturating_add-in-Some.ensures)

pub returns-in-None-clause-nodes : goal.returns-in-None-clause-nodes
returns-in-None-clause-nodes t c =
    let none = subst (λ (o : Option Set). IsDomainOf c.in-Reduce.map c.in-Reduce.set o) c.in-None.is c.in_ok-domain-in-Reduce.ensures.domain in
    rw c.in-Reduce.is (capped_none c.in-Reduce.op c.in-Reduce.map (view c.in-Reduce.body.value) c.in-Reduce.set none)

-- ---- how many there are in operands

pub returns-in_ok-right-in-Binary-clause-nodes : goal.returns-in_ok-right-in-Binary-clause-nodes
returns-in_ok-right-in-Binary-clause-nodes t c =
    rw c.in-Binary.is
    (capped_two (HasNodes (view c.in-Binary.left.value)) (HasNodes (view c.in-Binary.right.value)) c.in_ok-left-in-Binary.left c.in_ok-right-in-Binary.right _
    (rw c.deref.ensures at c.in_ok-left-in-Binary.ensures.nodes) (rw c.deref-in-Binary.ensures at c.in_ok-right-in-Binary.ensures.nodes) c.saturating_add.ensures)

pub returns-in_ok-no-in-Choose-clause-nodes : goal.returns-in_ok-no-in-Choose-clause-nodes
returns-in_ok-no-in-Choose-clause-nodes t c =
    let L = HasNodes (view c.in-Choose.left.value) in
    let R = HasNodes (view c.in-Choose.right.value) in
    let X = HasNodes (view c.in-Choose.yes.value) in
    let Y = HasNodes (view c.in-Choose.no.value) in
    let branches = capped_two X Y c.in_ok-yes-in-Choose.yes c.in_ok-no-in-Choose.no _ (rw c.deref-in-Choose-3.ensures at c.in_ok-yes-in-Choose.ensures.nodes) (rw c.deref-in-Choose-4.ensures at c.in_ok-no-in-Choose.ensures.nodes) c.saturating_add-branches.ensures in
    let others = capped_two R (IsSum X Y) c.in_ok-right-in-Choose.right _ _ (rw c.deref-in-Choose-2.ensures at c.in_ok-right-in-Choose.ensures.nodes) branches c.saturating_add-others.ensures in
    rw c.in-Choose.is
    (capped_two L (IsSum R (IsSum X Y)) c.in_ok-left-in-Choose.left _ _ (rw c.deref-in-Choose.ensures at c.in_ok-left-in-Choose.ensures.nodes) others c.saturating_add-in-Choose.ensures)
