-- Offsets under lower bounds and differences, apart from what they are offsets of (textbook: the potentials of a system of
-- difference constraints).
use Rattle.std.specs.Prelude.{◌≡◌, ℕ, ℤ, pos, ◌+ℤ◌, ◌≤ℤ◌, ◌<◌, ◌≤◌, List, length, slice_index_or, All, unsigned_abs}
use Rattle.av_sched.specs.declared.arc.Arc.{Arc}

-- the offset of a node
abbrev pub at : List ℤ → ℕ → ℤ
at off k = slice_index_or off k (pos 0)

-- the reader comes late enough
abbrev pub IsLate : List ℤ → Arc → Type 0
IsLate off e = (at off e.read +ℤ e.weight) ≤ℤ at off e.reader

-- one for each node, none below its low one, and each reader late enough
pub record Solves (arcs : List Arc) (low x : List ℤ) : Type 0 where
  pub size : length x ≡ length low
  pub above : (k : ℕ) → k < length low → at low k ≤ℤ at x k
  pub late : All (IsLate x) arcs

pub record IsLeastSolution (arcs : List Arc) (low off : List ℤ) : Type 0 where
  pub solves : Solves arcs low off
  pub least : (x : List ℤ) → Solves arcs low x → (k : ℕ) → k < length low → at off k ≤ℤ at x k

-- the arcs join nodes below n, and their weights are small
pub record IsArc (n : ℕ) (e : Arc) : Type 0 where
  pub reader : e.reader < n
  pub read : e.read < n
  pub weight : unsigned_abs e.weight ≤ 1073741825

-- each number is at most b in absolute value
abbrev pub AreSmall : ℕ → List ℤ → Type 0
AreSmall b off = All (λ a. unsigned_abs a ≤ b) off
