-- The sizes that are given, and a system with them.
use Rattle.std.specs.Prelude.{ℕ, List, [], ◌∷◌, Some, None, if◌then◌else◌, bytes_eq}
use Rattle.av_tree.specs.Trees.{System}
use Rattle.av_tree.specs.Points.{Sizes}
use Rattle.av_tree.specs.Counts.{Instance}
use Rattle.av_names.specs.declared.size.Size.{Size}

-- the value of each size that is given
abbrev pub sizes_of : List Size → Sizes
sizes_of [] name = None
sizes_of (w ∷ words) name = if bytes_eq w.name name then Some w.value else sizes_of words name

abbrev pub instance_of : System → List Size → ℕ → Instance
instance_of s words width = record { system = s; sizes = sizes_of words; width = width }
