use Rattle.std.proofs.Common.{◌≡◌, drop, map}
use Rattle.std.specs.List.{list_any}
use Rattle.av_vparse.specs.Said.{said_link}
use Rattle.av_net.specs.Rows.{is_in, is_early_link}
use Rattle.av_vread.proofs.rows.links_early.Given as goal

abbrev pub invariant-loop-link : goal.invariant-loop-link
invariant-loop-link l =
    list_any (is_early_link (is_in l.wires) (is_in l.earlier) l.kind) (map said_link (drop l.link-index l.links)) ≡ list_any (is_early_link (is_in l.wires) (is_in l.earlier) l.kind) (map said_link l.links)
