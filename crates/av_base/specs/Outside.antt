-- What calls of sources and sinks take and add. A source may tell the bytes that are left in it, and a
-- sink those that it holds; each counts its faults, up to the last number of 64 bits.
use Rattle.std.specs.Prelude.{◌≡◌, ◌⊎◌, ℕ, ◌-◌, ◌^◌, ◌<◌, List, [], ◌++◌, Option, Some, None, length, take}

-- what is seen of a sink: the bytes that it holds, where it tells them, and how often it has failed
pub record SinkState : Type 0 where
  pub held : Option (List ℕ)
  pub faults : ℕ

-- these bytes came off the front of what was left, where that is told
abbrev pub Takes : Option (List ℕ) → Option (List ℕ) → List ℕ → Type 0
Takes (Some old) (Some new) bytes = old ≡ bytes ++ new
Takes None None bytes = Unit {0}
Takes (Some old) None bytes = ⊥
Takes None (Some new) bytes = ⊥

-- these bytes were added at the end of what was held, where that is told
abbrev pub Adds : Option (List ℕ) → Option (List ℕ) → List ℕ → Type 0
Adds (Some old) (Some new) bytes = new ≡ old ++ bytes
Adds None None bytes = Unit {0}
Adds (Some old) None bytes = ⊥
Adds None (Some new) bytes = ⊥

-- a prefix of the bytes was added
abbrev pub AddsPrefix : Option (List ℕ) → Option (List ℕ) → List ℕ → Type 0
AddsPrefix old new bytes = (n : ℕ) × Adds old new (take n bytes)

-- some front of what was left was taken
abbrev pub TakesSome : Option (List ℕ) → Option (List ℕ) → Type 0
TakesSome old new = (bytes : List ℕ) × Takes old new bytes

-- more bytes than the limit were taken
abbrev pub TakesMore : Option (List ℕ) → Option (List ℕ) → ℕ → Type 0
TakesMore old new limit = (bytes : List ℕ) × Takes old new bytes × (limit < length bytes)

-- nothing is left, where that is told
abbrev pub IsAtEnd : Option (List ℕ) → Type 0
IsAtEnd (Some rest) = rest ≡ []
IsAtEnd None = Unit {0}

abbrev pub last_count : ℕ
last_count = 2 ^ 64 - 1

-- the count of faults is higher, or stands at its last value, where it counts as risen
abbrev pub HasRisen : ℕ → ℕ → Type 0
HasRisen old new = (old < new) ⊎ (new ≡ last_count)
