use Rattle.std.proofs.Common.{◌++◌, ◌∷◌, [], sym, ap, ◌∙◌}
use Rattle.av_net.specs.Names.{names_of}
use Rattle.av_net.specs.Rows.{is_in}
use Rattle.av_data.proofs.Named.{added, is_new, one_named, port_name}
use Rattle.av_commands.proofs.showing.port_places.Goals as goal

pub loop-port-preserved : goal.loop-port-preserved
loop-port-preserved c =
    let at = port_name c.args.ports.now c.loop-port.port-index c.port-item.result c.loop-port-test.true c.port-item.is in
    let new = ap (λ ns. is_in ns c.port-item.result.name) c.loop-port.invariant ∙ is_new (names_of c.args.ports.now) c.loop-port.port-index c.port-item.result.name at.0 at.1 c.requires in
    added _ _ _ c.port-item.result.name c.in_ok-insert.ensures.all (c.as_bytes.ensures.value ∙ c.as_str.ensures) new ∙ ap (λ ns. ns ++ c.port-item.result.name ∷ []) c.loop-port.invariant
    ∙ sym (one_named (names_of c.args.ports.now) c.loop-port.port-index c.port-item.result.name at.0 at.1)
