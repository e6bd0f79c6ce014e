use Rattle.std.proofs.Common.{◌≡◌, ◌∙◌, ap, map}
use Rattle.av_net.specs.Names.{names_of, wire_names, all_names}
use Rattle.av_net.specs.Rows.{is_in, module_of, first_some, wrong_in}
use Rattle.av_vparse.specs.Said.{said_item, said_module}
use Rattle.av_vnames.proofs.RowWalks.{same_test}
use Rattle.av_vread.proofs.rows.wrong_among.Goals as goal

pub returns : goal.returns
returns c =
    let m = module_of (said_module c.args.of.now) in
    let wires : is_in c.args.wires ≡ is_in (wire_names m) = same_test _ _ c.requires.wires in
    let registers : is_in c.args.registers ≡ is_in (names_of m.registers) = same_test _ _ c.requires.registers in
    let all : is_in c.in_ok-all.all ≡ is_in (all_names m) = same_test _ _ c.in_ok-all.ensures in
    let items = ap (map said_item) c.as_slice.ensures in
    c.first_wrong.ensures ∙ ap (λ z. first_some (wrong_in c.args.kinds.now (is_in c.args.wires) (is_in c.args.registers) (is_in c.in_ok-all.all)) z) items
    ∙ ap (λ w. first_some (wrong_in c.args.kinds.now w (is_in c.args.registers) (is_in c.in_ok-all.all)) (map said_item c.args.of.now.items)) wires
    ∙ ap (λ r. first_some (wrong_in c.args.kinds.now (is_in (wire_names m)) r (is_in c.in_ok-all.all)) (map said_item c.args.of.now.items)) registers
    ∙ ap (λ a. first_some (wrong_in c.args.kinds.now (is_in (wire_names m)) (is_in (names_of m.registers)) a) (map said_item c.args.of.now.items)) all
