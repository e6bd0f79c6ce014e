use Rattle.std.proofs.Common.{ap, ◌∙◌, ◌++◌, [], map, ◌≡◌}
use Rattle.std.proofs.lemmas.Result.{on_ok_weaker}
use Rattle.av_net.specs.Names.{width_in, width_of}
use Rattle.av_net.specs.Rows.{wires_of, registers_in, module_of}
use Rattle.av_vparse.specs.Said.{said_declaration, said_module}
use Rattle.av_vnames.specs.Scoped.{Bytes}
use Rattle.av_vnames.specs.inner.Scoped.{width_found}
use Rattle.av_vnames.proofs.RowWalks.{four_walks}
use Rattle.av_vnames.proofs.scope.insert_all.Goals as goal

pub returns : goal.returns
returns c =
    let text = c.args.text.now in
    on_ok_weaker c.insert_wires.result
    (λ (last : (q : Bytes) → width_found c.insert_wires.new.widths q ≡ width_found (c.insert_ports-2.new.widths ++ wires_of (map said_declaration c.as_slice-4.result.now)) q).
    four_walks c.insert_ports.new.widths c.insert_registers.new.widths c.insert_ports-2.new.widths c.insert_wires.new.widths
    text.inputs (registers_in (map said_declaration text.declarations)) text.outputs (wires_of (map said_declaration text.declarations))
    (λ q. c.in_ok-insert_ports.ensures q ∙ ap (λ z. width_found (z ++ c.as_slice.result.now) q) c.requires ∙ ap (λ z. width_found ([] ++ z) q) c.as_slice.ensures)
    (λ q. c.in_ok-insert_registers.ensures q ∙ ap (λ z. width_found (c.insert_ports.new.widths ++ registers_in (map said_declaration z)) q) c.as_slice-2.ensures)
    (λ q. c.in_ok-insert_ports-2.ensures q ∙ ap (λ z. width_found (c.insert_registers.new.widths ++ z) q) c.as_slice-3.ensures)
    (λ q. last q ∙ ap (λ z. width_found (c.insert_ports-2.new.widths ++ wires_of (map said_declaration z)) q) c.as_slice-4.ensures)) c.insert_wires.ensures
