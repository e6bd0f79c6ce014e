-- What brings the words of the places of a piece on a cell, computation by computation.
use Rattle.std.specs.Prelude.{◌≡◌, ◌↔◌, ◌⊎◌, ℕ, Option, List, [], ◌∷◌, ◌++◌, IsTrue, true}
use Rattle.av_tree.specs.Points.{Point}
use Rattle.av_flat.specs.Trees.{Tree, reference, pick}
use Rattle.av_flat.specs.Points.{has}
use Rattle.av_flat.specs.Helped.{before, IsEntry}
use Rattle.av_flat.specs.Values.{picked}
use Rattle.av_space.specs.declared.layout.Slot.{Slot}
use Rattle.av_space.specs.Taps.{Pipeline, entries}
use Rattle.av_space.specs.Spots.{own_way}
use Rattle.av_kinds.specs.declared.program.WordSource.{WordSource}
use Rattle.av_history.specs.Performing.{Array, Lanes, Spot, IsReferenceSource, IsPickSource, IsPipelineSource}
use Rattle.av_build.specs.declared.windows.CounterMark.{CounterMark}
use Rattle.av_build.specs.declared.moments.Moment.{Moment}
use Rattle.av_build.specs.declared.moments.PipelineMoments.{PipelineMoments}
use Rattle.av_build.specs.inner.Orders.{AreMarks, AreMomentsTo}

-- where it is read, by itself
abbrev pub IsOwnSource : Array → Lanes → Spot → Point → ℕ → ℕ → Option Pipeline → Tree → WordSource → Type 0
IsOwnSource a lanes at z c i h (reference place m) source = IsReferenceSource a lanes at c i place m (own_way h) source
IsOwnSource a lanes at z c i h (pick place choices n) source = IsPickSource a lanes at c i place (pick place choices n) n (picked choices z) source
IsOwnSource a lanes at z c i h _ source = ⊥

-- at an entry point the word of the reference that the helper moves
abbrev pub IsEntrySource : Array → Lanes → Spot → ℕ → ℕ → Pipeline → Tree → WordSource → Type 0
IsEntrySource a lanes at c i h (reference place m) source = IsReferenceSource a lanes at c i place m (entries h.direction) source
IsEntrySource a lanes at c i h _ source = ⊥

-- and else the word of the helper at the point before
abbrev pub IsHandedSource : Array → Lanes → Spot → ℕ → ℕ → Pipeline → Tree → WordSource → Type 0
IsHandedSource a lanes at c i h (reference place m) source = IsPipelineSource a lanes at h.number h.direction i place m true c source
IsHandedSource a lanes at c i h _ source = ⊥

-- of the first n computations, in the order of the counter's numbers
pub record ArePipelineMomentsTo (a : Array) (count : ℕ → ℕ) (lanes : Lanes) (at : Spot) (i : ℕ) (h : Pipeline) (tree : Tree) (slots : List Slot) (order : List ℕ) (n : ℕ) (moments : PipelineMoments) : Type 0 where
  pub entries_are : AreMomentsTo count slots order (λ z. IsEntry at.piece.domain h.direction z) (λ z c source. IsEntrySource a lanes at c i h tree source) n moments.entries
  pub own_are : AreMomentsTo count slots order (λ z. IsTrue (has at.piece.domain (before z h.direction))) (λ z c source. IsHandedSource a lanes at c i h tree source) n moments.own
  pub entry_marks : AreMarks count slots order (λ slot. IsEntry at.piece.domain h.direction slot.point) n moments.entry_marks
  pub own_marks : AreMarks count slots order (λ slot. IsTrue (has at.piece.domain (before slot.point h.direction))) n moments.own_marks

-- one computation more: a mark in each list, and a moment in one of the two
pub record AddsPipelineMoment (a : Array) (lanes : Lanes) (at : Spot) (i : ℕ) (h : Pipeline) (tree : Tree) (slot : Slot) (number : ℕ) (old new : PipelineMoments) : Type 0 where
  pub entry_mark : (m : CounterMark) × (new.entry_marks ≡ old.entry_marks ++ m ∷ []) × (m.number ≡ number) × (IsTrue m.holds ↔ IsEntry at.piece.domain h.direction slot.point)
  pub own_mark : (m : CounterMark) × (new.own_marks ≡ old.own_marks ++ m ∷ []) × (m.number ≡ number) × (IsTrue m.holds ↔ IsTrue (has at.piece.domain (before slot.point h.direction)))
  pub moment :
      (IsEntry at.piece.domain h.direction slot.point × ((t : Moment) × (new.entries ≡ old.entries ++ t ∷ []) × (t.number ≡ number) × IsEntrySource a lanes at slot.cycle i h tree t.source × (new.own ≡ old.own)))
      ⊎ (IsTrue (has at.piece.domain (before slot.point h.direction)) × ((t : Moment) × (new.own ≡ old.own ++ t ∷ []) × (t.number ≡ number) × IsHandedSource a lanes at slot.cycle i h tree t.source × (new.entries ≡ old.entries)))
