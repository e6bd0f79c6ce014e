use Rattle.std.proofs.Common.{◌≡◌, ◌∙◌, ◌<◌, length, refl, sym, subst, arith}
use Rattle.std.proofs.lemmas.Result.{IfOk-weaker}
use Rattle.av_space.specs.Listings.{IsWireOf}
use Rattle.av_space.proofs.ByPlace.{read_at}
use Rattle.av_space.proofs.shown.ShownNode.wire.Goals as goal

pub returns : goal.returns
returns c =
    let shown = c.args.self.now in
    let outputs = shown.outputs.now in
    let wires = c.requires.node.wires in
    let number = wires.number in
    let within : c.args.cell.0 < length shown.wires.now = omega (arith, number, c.requires.cell) in
    let at = read_at shown.wires.now shown.wires.now c.args.cell.0 c.index-wires-cell.result refl within c.index-wires-cell.is in
    IfOk-weaker c.new.result (λ name. name ≡ c.as_str.result.now) (IsWireOf outputs c.args.cell.0)
    (λ name e. subst (IsWireOf outputs c.args.cell.0) (sym (e ∙ c.as_str.ensures)) (wires.each c.args.cell.0 c.index-wires-cell.result at)) c.new.ensures
