-- The sizes that are given, against those that the parameter domain names.
use Rattle.std.specs.Prelude.{Bool, not, List, [], map, find, Option}
use Rattle.av_tree.specs.Trees.{Text, System}
use Rattle.av_tree.specs.Domains.{all_hold}
use Rattle.av_tree.specs.Rows.{is_index}
use Rattle.av_names.specs.declared.size.Size.{Size}
use Rattle.av_names.specs.Sizes.{sizes_of}
use Rattle.av_names.specs.Repetitions.{second}

abbrev pub names_of : List Size → List Text
names_of words = map (λ w. w.name) words

-- the first word whose name an earlier one has
abbrev pub size_twice : List Size → Option Text
size_twice words = second [] (names_of words)

-- the first word that names no size
abbrev pub size_unknown : System → List Size → Option Text
size_unknown s words = find (λ n. not (is_index s.sizes.names n)) (names_of words)

-- the first size without a word
abbrev pub size_missing : System → List Size → Option Text
size_missing s words = find (λ n. not (is_index (names_of words) n)) s.sizes.names

-- a constraint of the parameter domain does not hold
abbrev pub is_outside : System → List Size → Bool
is_outside s words = not (all_hold (sizes_of words) s.sizes.constraints)
