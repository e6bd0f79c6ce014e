-- Marks of the nodes that are reached from one, and components read off them.
use Rattle.std.specs.Prelude.{◌≡◌, ◌↔◌, ℕ, ◌<◌, Bool, false, List, [], length, All, AllPairs, Contains, IsTrue, slice_index_or}
use Rattle.av_depend.specs.declared.edge.Edge.{Edge}
use Rattle.av_depend.specs.Components.{Reaches, IsJoined}

abbrev pub is_marked : List Bool → ℕ → Bool
is_marked marks node = slice_index_or marks node false

-- a node without a mark that is joined to a marked one
pub record IsOpen (edges : List Edge) (marks : List Bool) (node : ℕ) : Type 0 where
  pub from : ℕ
  pub marked : IsTrue (is_marked marks from)
  pub joined : IsJoined edges from node
  pub free : is_marked marks node ≡ false

-- what is joined to a marked node is marked
abbrev pub IsClosed : List Edge → List Bool → Type 0
IsClosed edges marks = (u v : ℕ) → IsJoined edges u v → IsTrue (is_marked marks u) → IsTrue (is_marked marks v)

-- of n nodes those are marked that are reached from this one
pub record IsReached (n : ℕ) (R : ℕ → ℕ → Type 0) (from : ℕ) (marks : List Bool) : Type 0 where
  pub size : length marks ≡ n
  pub marked : (v : ℕ) → v < n → IsTrue (is_marked marks v) ↔ Reaches R from v

-- the marks for each of n nodes
pub record AreReached (n : ℕ) (R : ℕ → ℕ → Type 0) (rows : List (List Bool)) : Type 0 where
  pub size : length rows ≡ n
  pub each : (u : ℕ) → u < n → IsReached n R u (slice_index_or rows u [])

-- the second node is marked for the first
abbrev pub leads : List (List Bool) → ℕ → ℕ → Bool
leads rows u v = is_marked (slice_index_or rows u []) v

-- as many marks as n for each node
abbrev pub IsSquare : ℕ → List (List Bool) → Type 0
IsSquare n rows = All (λ row. length row ≡ n) rows

-- the nodes below n that are marked for this one and for which it is marked, ascending
pub record IsComponentIn (n : ℕ) (rows : List (List Bool)) (node : ℕ) (c : List ℕ) : Type 0 where
  pub ascending : AllPairs (λ u v. u < v) c
  pub below : All (λ v. v < n) c
  pub each : (v : ℕ) → Contains c v → IsTrue (leads rows node v) × IsTrue (leads rows v node)
  pub all : (v : ℕ) → v < n → IsTrue (leads rows node v) → IsTrue (leads rows v node) → Contains c v
