use Rattle.std.proofs.Common.{◌≡◌, ◌++◌, drop, map, not}
use Rattle.std.specs.Prelude.{option_map}
use Rattle.std.specs.List.{list_any}
use Rattle.av_net.specs.Names.{width_in}
use Rattle.av_vparse.specs.Said.{said_link}
use Rattle.av_net.specs.Rows.{kind_or, suits_port}
use Rattle.av_vread.proofs.rows.suit_ports.Given as goal

abbrev pub invariant-loop-link : goal.invariant-loop-link
invariant-loop-link l =
    list_any (λ link. not (suits_port (width_in l.widths) ((kind_or (option_map (λ kind. kind.now) l.kind)).inputs ++ (kind_or (option_map (λ kind. kind.now) l.kind)).outputs) link)) (map said_link (drop l.link-index l.links))
    ≡ list_any (λ link. not (suits_port (width_in l.widths) ((kind_or (option_map (λ kind. kind.now) l.kind)).inputs ++ (kind_or (option_map (λ kind. kind.now) l.kind)).outputs) link)) (map said_link l.links)
