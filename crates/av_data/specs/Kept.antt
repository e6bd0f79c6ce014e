-- What tables keep.
use Rattle.std.specs.Prelude.{ℕ, Bool, ◌&&◌, ◌||◌, if◌then◌else◌, nat_eq, nat_lt, List, [], ◌∷◌}
use Rattle.std.specs.List.{list_any}
use Rattle.av_data.specs.declared.stimulus.Given.{Given}

-- an entry of a table as a value in a cycle
abbrev pub entry_given : (ℕ × ℕ) × ℕ → Given
entry_given e = record { cycle = e.0.0; port = e.0.1; value = e.1 }

-- ---- values by cycle and port, in ascending order

abbrev pub is_same : Given → Given → Bool
is_same g h = nat_eq g.cycle h.cycle && nat_eq g.port h.port

abbrev pub is_before : Given → Given → Bool
is_before g h = nat_lt g.cycle h.cycle || (nat_eq g.cycle h.cycle && nat_lt g.port h.port)

abbrev pub is_given : List Given → Given → Bool
is_given values g = list_any (is_same g) values

-- a value put in its place
abbrev pub placed : Given → List Given → List Given
placed g [] = g ∷ []
placed g (h ∷ values) = if is_before g h then g ∷ h ∷ values else h ∷ placed g values
