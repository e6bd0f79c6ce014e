use Rattle.std.proofs.Common.{◌≡◌, drop, map}
use Rattle.av_vparse.specs.Said.{said_link}
use Rattle.av_net.specs.Rows.{is_in, first_some, wrong_link}
use Rattle.av_vread.proofs.rows.wrong_links.Given as goal

abbrev pub invariant-loop-link : goal.invariant-loop-link
invariant-loop-link l =
    first_some (wrong_link (is_in l.places.wires) (is_in l.places.all) l.kind) (map said_link (drop l.link-index l.links)) ≡ first_some (wrong_link (is_in l.places.wires) (is_in l.places.all) l.kind) (map said_link l.links)
