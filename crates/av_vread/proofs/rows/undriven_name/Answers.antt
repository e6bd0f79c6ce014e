use Rattle.std.proofs.Common.{◌≡◌, ◌<◌, ◌≤◌, ◌++◌, [], ◌∷◌, map, length, get_or, Some, sym, ap, subst, ◌∙◌, arith}
use Rattle.std.specs.Prelude.{IfOk, option_map}
use Rattle.av_net.specs.Rows.{first_some, undriven_in_module, undriven_name}
use Rattle.av_vparse.specs.Said.{said_module, said}
use Rattle.av_vread.proofs.KindTables.{told_by_kind, told_by_top}
use Rattle.av_vread.proofs.rows.undriven_name.Goals as goal

pub returns-in-Some : goal.returns-in-Some
returns-in-Some c =
    let at = c.loop-kind.kind-index in
    let kind = c.kind-item.result in
    let kinds = c.args.text.now.kinds in
    let test = c.loop-kind-test.true in
    let size : length c.as_slice-kind-items.result.now ≡ length kinds = ap length c.as_slice-kind-items.ensures in
    let lt : at < length kinds = omega (arith, test, size) in
    let is : kind ≡ get_or kinds at kind = c.kind-item.is ∙ ap (λ items. get_or items at kind) c.as_slice-kind-items.ensures in
    let told : undriven_in_module c.args.kinds.now (said_module kind) ≡ Some c.in-Some.name.now = sym c.in_ok-name.ensures ∙ ap (option_map (λ name. name.now)) c.in-Some.is in
    told_by_kind (undriven_in_module c.args.kinds.now) kinds at kind (said_module c.args.text.now.top) c.in-Some.name.now c.loop-kind.invariant lt is told
    ∙ ap (λ cells. first_some (undriven_in_module cells) (map said_module kinds ++ said_module c.args.text.now.top ∷ [])) c.requires

pub returns : goal.returns
returns c =
    let at = c.loop-kind.kind-index in
    let kinds = c.args.text.now.kinds in
    let test = c.loop-kind-test.false in
    let size : length c.as_slice-kind-items.result.now ≡ length kinds = ap length c.as_slice-kind-items.ensures in
    let past : length kinds ≤ at = omega (arith, test, size) in
    let same : undriven_in_module c.args.kinds.now (said_module c.args.text.now.top) ≡ undriven_name (said c.args.text.now) =
    told_by_top (undriven_in_module c.args.kinds.now) kinds at (said_module c.args.text.now.top) c.loop-kind.invariant past
    ∙ ap (λ cells. first_some (undriven_in_module cells) (map said_module kinds ++ said_module c.args.text.now.top ∷ [])) c.requires in
    subst (λ z. IfOk c.undriven_in-2.result (λ r. option_map (λ name. name.now) r ≡ z)) same c.undriven_in-2.ensures
