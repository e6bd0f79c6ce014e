use Rattle.std.proofs.Common.{◌≡◌, ◌++◌, Some, None, sym, ap, ◌∙◌}
use Rattle.std.proofs.lemmas.List.{append-nil}
use Rattle.av_net.specs.Flat.{part_drives}
use Rattle.av_vparse.specs.Said.{said_instance}
use Rattle.av_vnames.specs.Numbered.{number_of}
use Rattle.av_vnames.proofs.RowWalks.{on_ok}
use Rattle.av_vread.proofs.PlacedInstances.{drives_there, drives_nowhere}
use Rattle.av_vread.proofs.module.push_instance.Goals as goal

pub returns-in_ok-instance-in-Some : goal.returns-in_ok-instance-in-Some
returns-in_ok-instance-in-Some c =
    let x = said_instance c.args.of.now in
    let cells = c.args.cells.now in
    let kind = c.index-cells-number.result in
    let named : number_of cells x.kind ≡ Some c.in-Some.number =
    ap (λ kinds. number_of kinds x.kind) (sym c.requires) ∙ ap (number_of c.args.kinds.now) (sym c.as_str.ensures) ∙ sym c.number.ensures.is ∙ c.in-Some.is in
    on_ok c.push_part_drives.result (λ made. made ∙ ap (λ more. c.args.drives.now ++ more) (ap (part_drives kind) c.in_ok-instance-in-Some.ensures ∙ drives_there cells x c.in-Some.number kind named c.index-cells-number.is)) c.push_part_drives.ensures

pub returns-in-None : goal.returns-in-None
returns-in-None c =
    let x = said_instance c.args.of.now in
    let cells = c.args.cells.now in
    let none : number_of cells x.kind ≡ None =
    ap (λ kinds. number_of kinds x.kind) (sym c.requires) ∙ ap (number_of c.args.kinds.now) (sym c.as_str.ensures) ∙ sym c.number.ensures.is ∙ c.in-None.is in
    sym (ap (λ more. c.args.drives.now ++ more) (drives_nowhere cells x none) ∙ append-nil c.args.drives.now)
