use Rattle.std.proofs.Common.{◌≡◌, ◌++◌, Some, None, sym, ap, ◌∙◌}
use Rattle.std.proofs.lemmas.List.{append-nil}
use Rattle.av_net.specs.Flat.{part_wires}
use Rattle.av_vparse.specs.Said.{said_instance}
use Rattle.av_vnames.specs.Numbered.{number_of}
use Rattle.av_vnames.proofs.RowWalks.{on_ok}
use Rattle.av_vread.proofs.PlacedInstances.{parts_there, parts_nowhere}
use Rattle.av_vread.proofs.module.push_parts.Goals as goal

pub returns-in-Some : goal.returns-in-Some
returns-in-Some c =
    let x = said_instance c.in-Instance.of in
    let cells = c.args.cells.now in
    let kind = c.index-cells-number.result in
    let named : number_of cells x.kind ≡ Some c.in-Some.number =
    ap (λ kinds. number_of kinds x.kind) (sym c.requires) ∙ ap (number_of c.args.kinds.now) (sym c.as_str.ensures) ∙ sym c.number.ensures.is ∙ c.in-Some.is in
    rw c.in-Instance.is
    (on_ok c.push_part_wires.result (λ made. made ∙ ap (λ wires. c.args.parts.now ++ wires) (ap (part_wires kind) c.as_str-in-Some.ensures ∙ parts_there cells x c.in-Some.number kind named c.index-cells-number.is)) c.push_part_wires.ensures)

pub returns-in-None : goal.returns-in-None
returns-in-None c =
    let x = said_instance c.in-Instance.of in
    let cells = c.args.cells.now in
    let none : number_of cells x.kind ≡ None =
    ap (λ kinds. number_of kinds x.kind) (sym c.requires) ∙ ap (number_of c.args.kinds.now) (sym c.as_str.ensures) ∙ sym c.number.ensures.is ∙ c.in-None.is in
    rw c.in-Instance.is (sym (ap (λ wires. c.args.parts.now ++ wires) (parts_nowhere cells x none) ∙ append-nil c.args.parts.now))
