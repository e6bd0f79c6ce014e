-- Links: for one tap site on one cell, the maximal stretches of its reading cycles with one producer and one delay; and the lengths of
-- the delay lines.
use Rattle.std.specs.Prelude.{◌≡◌, ℕ, ◌+◌, ◌&&◌, Bool, true, false, Option, Some, None, ◌<◌, ◌≤◌, ◌⊎◌, List, All, AllPairs, Contains, map, filter, fold, max, nat_eq, sum, length}
use Rattle.std.specs.List.{range_with_len}
use Rattle.av_flat.specs.Trees.{FlatSystem}
use Rattle.av_flat.specs.declared.timed.Helper.{Helper}
use Rattle.av_space.specs.Coordinates.{Placing}
use Rattle.av_space.specs.declared.cells.Cell.{Cell}
use Rattle.av_space.specs.declared.cells.Link.{Link}
use Rattle.av_space.specs.Taps.{IsTapped, helper_read}

-- the link begins and ends with a reading cycle, and in each reading cycle between has its producer and delay
pub record IsStretch (s : FlatSystem) (hs : List Helper) (times : List Placing) (cells : List Cell) (l : Link) : Type 0 where
  pub ordered : l.first ≤ l.last
  pub begins : IsTapped s hs times cells l.consumer l.site l.first l.producer l.delay
  pub ends : IsTapped s hs times cells l.consumer l.site l.last l.producer l.delay
  pub between : (c q d : ℕ) → l.first ≤ c → c ≤ l.last → IsTapped s hs times cells l.consumer l.site c q d → (q ≡ l.producer) × (d ≡ l.delay)

-- by consumer, tap site and cycle; of one site on one cell the one ends before the other begins
abbrev pub IsLinkBefore : Link → Link → Type 0
IsLinkBefore a b =
    (a.consumer < b.consumer) ⊎ ((a.consumer ≡ b.consumer) × (a.site < b.site)) ⊎ ((a.consumer ≡ b.consumer) × (a.site ≡ b.site) × (a.last < b.first))

-- the link has the reading cycle
abbrev pub IsInLink : ℕ → ℕ → ℕ → Link → Type 0
IsInLink p j c l = (l.consumer ≡ p) × (l.site ≡ j) × (l.first ≤ c) × (c ≤ l.last)

-- no other reading cycle is between the two links
abbrev pub AreNeighbours : FlatSystem → List Helper → List Placing → List Cell → Link → Link → Type 0
AreNeighbours s hs times cells a b =
    (a.consumer ≡ b.consumer) × (a.site ≡ b.site) × ((c q d : ℕ) → a.last < c → c < b.first → IsTapped s hs times cells a.consumer a.site c q d → ⊥)

pub record AreLinks (s : FlatSystem) (hs : List Helper) (times : List Placing) (cells : List Cell) (links : List Link) : Type 0 where
  pub each : All (IsStretch s hs times cells) links
  pub all : (p j c q d : ℕ) → IsTapped s hs times cells p j c q d → (l : Link) × Contains links l × IsInLink p j c l
  pub maximal : AllPairs (λ a b. AreNeighbours s hs times cells a b → (a.producer ≡ b.producer) × (a.delay ≡ b.delay) → ⊥) links
  pub order : AllPairs IsLinkBefore links

-- ---- lines: of the value of a cell, or of the pipeline of a helper on it

abbrev pub is_same : Option ℕ → Option ℕ → Bool
is_same None None = true
is_same (Some h) (Some k) = nat_eq h k
is_same _ _ = false

-- the link reads this line of the cell
abbrev pub reads_line : FlatSystem → List Helper → List Cell → ℕ → Option ℕ → Link → Bool
reads_line s hs cells p line l = nat_eq l.producer p && is_same (helper_read s hs cells l.consumer l.site) line

-- the length of a line: the greatest delay at which it is read
abbrev pub line_length : FlatSystem → List Helper → List Cell → List Link → ℕ → Option ℕ → ℕ
line_length s hs cells links p line = fold max 0 (map (λ l. l.delay) (filter (reads_line s hs cells p line) links))

-- of all lines of a cell
abbrev pub cell_length : FlatSystem → List Helper → List Cell → List Link → ℕ → ℕ
cell_length s hs cells links p = line_length s hs cells links p None + sum (map (λ h. line_length s hs cells links p (Some h)) (range_with_len 0 (length hs)))

abbrev pub delay_count : FlatSystem → List Helper → List Cell → List Link → ℕ
delay_count s hs cells links = sum (map (cell_length s hs cells links) (range_with_len 0 (length cells)))
