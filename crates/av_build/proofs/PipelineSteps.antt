-- The moments of a place with a helper, one computation after another.
use Rattle.std.proofs.Common.{◌≡◌, ℕ, ◌+◌, inl, inr, List, [], sym, subst, IsTrue}
use Rattle.av_tree.specs.Points.{Point}
use Rattle.av_flat.specs.Trees.{Tree}
use Rattle.av_flat.specs.Points.{has}
use Rattle.av_flat.specs.Helped.{before, IsEntry}
use Rattle.av_space.specs.declared.layout.Slot.{Slot}
use Rattle.av_space.specs.Taps.{Pipeline}
use Rattle.av_history.specs.Performing.{Array, Lanes, Spot}
use Rattle.av_kinds.specs.declared.program.WordSource.{WordSource}
use Rattle.av_build.specs.declared.moments.PipelineMoments.{PipelineMoments}
use Rattle.av_build.specs.inner.Orders.{IsInOrder, IsAt, AreMarks, AreMomentsTo}
use Rattle.av_build.specs.inner.Sources.{IsEntrySource, IsHandedSource, ArePipelineMomentsTo, AddsPipelineMoment}
use Rattle.av_build.proofs.WindowSteps.{no_marks, one_mark}
use Rattle.av_build.proofs.MomentLemmas.{no_moments, none_more, one_more}

module _ (a : Array) (count : ℕ → ℕ) (lanes : Lanes) (at : Spot) (i : ℕ) (h : Pipeline) (tree : Tree) (slots : List Slot) (order : List ℕ) where
  abbrev Entry : Point → Type 0
  Entry z = IsEntry at.piece.domain h.direction z

  abbrev Own : Point → Type 0
  Own z = IsTrue (has at.piece.domain (before z h.direction))

  abbrev ByEntry : Point → ℕ → WordSource → Type 0
  ByEntry z c source = IsEntrySource a lanes at c i h tree source

  abbrev ByPipeline : Point → ℕ → WordSource → Type 0
  ByPipeline z c source = IsHandedSource a lanes at c i h tree source

  pub no_pipelines : (none : PipelineMoments) → none.entries ≡ [] → none.own ≡ [] → none.entry_marks ≡ [] → none.own_marks ≡ [] → ArePipelineMomentsTo a count lanes at i h tree slots order 0 none
  no_pipelines none e f g k = record {
    entries_are = subst (AreMomentsTo count slots order Entry ByEntry 0) (sym e) (no_moments count slots order Entry ByEntry);
    own_are = subst (AreMomentsTo count slots order Own ByPipeline 0) (sym f) (no_moments count slots order Own ByPipeline);
    entry_marks = subst (AreMarks count slots order (λ slot. Entry slot.point) 0) (sym g) (no_marks count slots order (λ slot. Entry slot.point));
    own_marks = subst (AreMarks count slots order (λ slot. Own slot.point) 0) (sym k) (no_marks count slots order (λ slot. Own slot.point));
  }

  pub one_pipeline : IsInOrder count slots order → (n : ℕ) (old new : PipelineMoments) → ArePipelineMomentsTo a count lanes at i h tree slots order n old → (slot : Slot) → IsAt slots order n slot → (number : ℕ) → number ≡ count slot.cycle
      → AddsPipelineMoment a lanes at i h tree slot number old new → ArePipelineMomentsTo a count lanes at i h tree slots order (n + 1) new
  one_pipeline in_order n old new are slot is_at number is adds = record {
    entries_are = moments.0;
    own_are = moments.1;
    entry_marks = (let m = adds.entry_mark in one_mark count slots order (λ slot. Entry slot.point) n old.entry_marks new.entry_marks are.entry_marks slot is_at m.0 (subst (λ (k : ℕ). m.0.number ≡ k) is m.2) m.3 m.1);
    own_marks = (let m = adds.own_mark in one_mark count slots order (λ slot. Own slot.point) n old.own_marks new.own_marks are.own_marks slot is_at m.0 (subst (λ (k : ℕ). m.0.number ≡ k) is m.2) m.3 m.1);
  }
    where
      moments : AreMomentsTo count slots order Entry ByEntry (n + 1) new.entries × AreMomentsTo count slots order Own ByPipeline (n + 1) new.own
      moments = elim adds.moment [
        | inl x ↦ (
            let entry = x.0 in
            let t = x.1.0 in
            let more = one_more count slots order Entry ByEntry n old.entries are.entries_are slot is_at in_order entry t (subst (λ (k : ℕ). t.number ≡ k) is x.1.2) x.1.3 in
            let none = none_more count slots order Own ByPipeline n old.own are.own_are slot is_at entry.1 in (
              subst (AreMomentsTo count slots order Entry ByEntry (n + 1)) (sym x.1.1) more,
              subst (AreMomentsTo count slots order Own ByPipeline (n + 1)) (sym x.1.4) none,
            ))
        | inr x ↦ (
            let inside = x.0 in
            let t = x.1.0 in
            let more = one_more count slots order Own ByPipeline n old.own are.own_are slot is_at in_order inside t (subst (λ (k : ℕ). t.number ≡ k) is x.1.2) x.1.3 in
            let none = none_more count slots order Entry ByEntry n old.entries are.entries_are slot is_at (λ entry. entry.1 inside) in (
              subst (AreMomentsTo count slots order Entry ByEntry (n + 1)) (sym x.1.4) none,
              subst (AreMomentsTo count slots order Own ByPipeline (n + 1)) (sym x.1.1) more,
            ))
      ]
