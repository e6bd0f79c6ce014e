-- Computations in the order of the counter's numbers, and what is told of each in that order.
use Rattle.std.specs.Prelude.{◌≡◌, ◌↔◌, ℕ, ◌+◌, ◌<◌, ◌≤◌, IsTrue, List, Some, slice_get, length}
use Rattle.av_tree.specs.Points.{Point}
use Rattle.av_kinds.specs.declared.program.WordSource.{WordSource}
use Rattle.av_space.specs.declared.layout.Slot.{Slot}
use Rattle.av_build.specs.declared.windows.CounterMark.{CounterMark}
use Rattle.av_build.specs.declared.moments.Moment.{Moment}

-- no two cycles are so far apart
abbrev pub AreWithin : ℕ → List Slot → Type 0
AreWithin size slots = (j k : ℕ) (s t : Slot) → slice_get slots j ≡ Some s → slice_get slots k ≡ Some t → t.cycle < s.cycle + size

-- the first n computations have no number below that of the first one, and the next one has
pub record IsStart (count : ℕ → ℕ) (slots : List Slot) (n : ℕ) : Type 0 where
  pub high : n ≤ length slots
  pub before : (k : ℕ) (first t : Slot) → k < n → slice_get slots 0 ≡ Some first → slice_get slots k ≡ Some t → count first.cycle ≤ count t.cycle
  pub next : (first t : Slot) → slice_get slots 0 ≡ Some first → slice_get slots n ≡ Some t → count t.cycle < count first.cycle

-- each computation by its place, so that the numbers rise
pub record IsInOrder (count : ℕ → ℕ) (slots : List Slot) (order : List ℕ) : Type 0 where
  pub within : (i k : ℕ) → slice_get order i ≡ Some k → k < length slots
  pub all : (k : ℕ) → k < length slots → (i : ℕ) × (slice_get order i ≡ Some k)
  pub rises : (i j k l : ℕ) (s t : Slot) → i < j → slice_get order i ≡ Some k → slice_get order j ≡ Some l → slice_get slots k ≡ Some s → slice_get slots l ≡ Some t → count s.cycle < count t.cycle

-- the computation at a place of the order
pub record IsAt (slots : List Slot) (order : List ℕ) (i : ℕ) (slot : Slot) : Type 0 where
  pub place : ℕ
  pub is_place : slice_get order i ≡ Some place
  pub is_slot : slice_get slots place ≡ Some slot

-- a mark for each of the first n, which says whether P holds of it
pub record AreMarks (count : ℕ → ℕ) (slots : List Slot) (order : List ℕ) (P : Slot → Type 0) (n : ℕ) (marks : List CounterMark) : Type 0 where
  pub one_each : length marks ≡ n
  pub each : (i : ℕ) (slot : Slot) (m : CounterMark) → IsAt slots order i slot → slice_get marks i ≡ Some m → (m.number ≡ count slot.cycle) × (IsTrue m.holds ↔ P slot)

-- a moment that is one of the first n computations, of which R holds
pub record IsMoment (count : ℕ → ℕ) (slots : List Slot) (order : List ℕ) (R : Point → Type 0) (P : Point → ℕ → WordSource → Type 0) (n : ℕ) (t : Moment) : Type 0 where
  pub index : ℕ
  pub low : index < n
  pub slot : Slot
  pub is_at : IsAt slots order index slot
  pub read : R slot.point
  pub number : t.number ≡ count slot.cycle
  pub source : P slot.point slot.cycle t.source

-- one for each of the first n computations of which R holds, with a source of which P holds
pub record AreMomentsTo (count : ℕ → ℕ) (slots : List Slot) (order : List ℕ) (R : Point → Type 0) (P : Point → ℕ → WordSource → Type 0) (n : ℕ) (moments : List Moment) : Type 0 where
  pub each : (k : ℕ) (t : Moment) → slice_get moments k ≡ Some t → IsMoment count slots order R P n t
  pub all : (i : ℕ) (slot : Slot) → i < n → IsAt slots order i slot → R slot.point → (k : ℕ) × (t : Moment) × (slice_get moments k ≡ Some t) × (t.number ≡ count slot.cycle) × P slot.point slot.cycle t.source
  pub rises : (j k : ℕ) (t u : Moment) → j < k → slice_get moments j ≡ Some t → slice_get moments k ≡ Some u → t.number < u.number

abbrev pub AreMoments : (ℕ → ℕ) → List Slot → List ℕ → (Point → Type 0) → (Point → ℕ → WordSource → Type 0) → List Moment → Type 0
AreMoments count slots order R P moments = AreMomentsTo count slots order R P (length order) moments
