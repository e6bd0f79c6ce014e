-- One computation of a place with a helper: whether its point is entered, or the helper's word at the point before is read there.
use Rattle.std.proofs.Common.{◌≡◌, ℕ, ◌++◌, inl, inr, [], ◌∷◌, sym, ◌∙◌, true, false, IsTrue}
use Rattle.av_flat.specs.Trees.{Tree}
use Rattle.av_flat.specs.Points.{has}
use Rattle.av_flat.specs.Helped.{before}
use Rattle.av_space.specs.declared.layout.Slot.{Slot}
use Rattle.av_space.specs.Taps.{Pipeline}
use Rattle.av_history.specs.Performing.{Array, Lanes, Spot}
use Rattle.av_build.specs.declared.windows.CounterMark.{CounterMark}
use Rattle.av_build.specs.declared.moments.Moment.{Moment}
use Rattle.av_build.specs.declared.moments.PipelineMoments.{PipelineMoments}
use Rattle.av_build.specs.inner.Sources.{IsEntrySource, IsHandedSource, AddsPipelineMoment}

module _ (a : Array) (lanes : Lanes) (at : Spot) (i : ℕ) (h : Pipeline) (tree : Tree) (slot : Slot) (number : ℕ) (old new : PipelineMoments) (entry own : CounterMark)
    (entry_marks : new.entry_marks ≡ old.entry_marks ++ entry ∷ []) (entry_number : entry.number ≡ number) (own_marks : new.own_marks ≡ old.own_marks ++ own ∷ []) (own_number : own.number ≡ number) (t : Moment) (moment_number : t.number ≡ number) where
  abbrev Before : Type 0
  Before = IsTrue (has at.piece.domain (before slot.point h.direction))

  pub handed_added : entry.holds ≡ false → own.holds ≡ true → Before → new.own ≡ old.own ++ t ∷ [] → new.entries ≡ old.entries → IsHandedSource a lanes at slot.cycle i h tree t.source → AddsPipelineMoment a lanes at i h tree slot number old new
  handed_added not_entry is_own inside is_new same source = record {
    entry_mark = (entry, entry_marks, entry_number, ((λ e. absurd (let both = sym not_entry ∙ e in cc)), (λ e. absurd (e.1 inside))));
    own_mark = (own, own_marks, own_number, ((λ e. inside), (λ e. is_own)));
    moment = inr (inside, (t, is_new, moment_number, source, same));
  }

  pub entry_added : entry.holds ≡ true → own.holds ≡ false → IsTrue (has at.piece.domain slot.point) → (Before → ⊥) → new.entries ≡ old.entries ++ t ∷ [] → new.own ≡ old.own → IsEntrySource a lanes at slot.cycle i h tree t.source
      → AddsPipelineMoment a lanes at i h tree slot number old new
  entry_added is_entry not_own inside outside is_new same source = record {
    entry_mark = (entry, entry_marks, entry_number, ((λ e. (inside, outside)), (λ e. is_entry)));
    own_mark = (own, own_marks, own_number, ((λ e. absurd (let both = sym not_own ∙ e in cc)), (λ e. absurd (outside e))));
    moment = inl ((inside, outside), (t, is_new, moment_number, source, same));
  }
