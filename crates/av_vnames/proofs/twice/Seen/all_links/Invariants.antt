use Rattle.std.proofs.Common.{drop, map}
use Rattle.std.specs.Prelude.{option_map}
use Rattle.std.specs.List.{flat_map}
use Rattle.av_net.specs.Rows.{kind_or, link_mentions}
use Rattle.av_vparse.specs.Said.{said_link}
use Rattle.av_vnames.specs.Scoped.{Bytes}
use Rattle.av_vnames.specs.inner.Seen.{StandsIn}
use Rattle.av_vnames.proofs.SeenMentions.{GoesOn}
use Rattle.av_vnames.proofs.twice.Seen.all_links.Given as goal

abbrev pub invariant-loop-link : goal.invariant-loop-link
invariant-loop-link l = (u : Bytes)
    → GoesOn (StandsIn u) (l.fn.self, l.fn.linked) (l.self, l.linked) (flat_map (link_mentions (kind_or (option_map (λ kind. kind.now) l.kind)) u) (map said_link (drop l.link-index l.links)))
    (flat_map (link_mentions (kind_or (option_map (λ kind. kind.now) l.kind)) u) (map said_link l.links))
