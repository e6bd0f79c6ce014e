-- The numbers of kinds of cells and of links.
use Rattle.std.specs.Prelude.{ℕ, List, map, Option}
use Rattle.av_net.specs.Grammar.{PortLink}
use Rattle.av_vnames.specs.Scoped.{Bytes}
use Rattle.av_vnames.specs.Numbered.{place_among}

-- the place of the first link of a port
abbrev pub place_of : Bytes → List PortLink → Option ℕ
place_of q links = place_among (map (λ link. link.port) links) q
