-- The numbers of kinds of cells and of links.
use Rattle.std.specs.Prelude.{ℕ, suc, List, [], ◌∷◌, map, Option, Some, None, option_map, if◌then◌else◌}
use Rattle.std.specs.Str.{bytes_eq}
use Rattle.av_net.specs.declared.plan.CellKind.{CellKind}
use Rattle.av_vnames.specs.Scoped.{Bytes}

-- the place of the first of these names that is this one
abbrev pub place_among : List Bytes → Bytes → Option ℕ
place_among [] q = None
place_among (name ∷ names) q = if bytes_eq name q then Some 0 else option_map suc (place_among names q)

-- the number of the first kind with a name
abbrev pub number_of : List CellKind → Bytes → Option ℕ
number_of kinds q = place_among (map (λ kind. kind.name) kinds) q
