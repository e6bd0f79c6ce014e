-- What the reader keeps of the kinds of a text.
use Rattle.std.specs.Prelude.{◌≡◌, ◌≤◌, length}
use Rattle.std.specs.Map.{lookup}
use Rattle.std.specs.Str.{bytes_eq}
use Rattle.av_vnames.specs.declared.kinds.Kinds.TheInside.{Inside}
use Rattle.av_vnames.specs.Numbered.{number_of}
use Rattle.av_vnames.specs.Scoped.{Bytes}

-- they are found by their names, and 32 bits number them
pub record AreNumbered (kinds : Inside) : Type 0 where
  pub numbers : (q : Bytes) → lookup (bytes_eq q) kinds.numbers ≡ number_of kinds.kinds.items q
  pub few : length kinds.kinds.items ≤ 1073741824
