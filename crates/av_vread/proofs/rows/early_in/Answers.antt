use Rattle.std.proofs.Common.{◌≡◌, ◌∙◌, ap, subst, map, []}
use Rattle.std.specs.Prelude.{IfOk, option_map}
use Rattle.av_net.specs.Names.{wire_names}
use Rattle.av_net.specs.Rows.{is_in, module_of, first_early, early_in_module}
use Rattle.av_vparse.specs.Said.{said_item, said_module}
use Rattle.av_vnames.proofs.RowWalks.{same_test}
use Rattle.av_vread.proofs.rows.early_in.Goals as goal

pub returns : goal.returns
returns c =
    let wires : is_in c.in_ok-wires.wires ≡ is_in (wire_names (module_of (said_module c.args.of.now))) = same_test _ _ c.in_ok-wires.ensures in
    let items = ap (map said_item) c.as_slice.ensures in
    let same : first_early c.args.kinds.now (is_in c.in_ok-wires.wires) [] (map said_item c.as_slice.result.now) ≡ early_in_module c.args.kinds.now (said_module c.args.of.now) =
    ap (λ w. first_early c.args.kinds.now w [] (map said_item c.as_slice.result.now)) wires ∙ ap (first_early c.args.kinds.now (is_in (wire_names (module_of (said_module c.args.of.now)))) []) items in
    subst (λ z. IfOk c.first_early.result (λ r. option_map (λ name. name.now) r ≡ z)) same c.first_early.ensures
