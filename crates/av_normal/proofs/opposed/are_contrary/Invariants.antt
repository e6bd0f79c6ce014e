use Rattle.std.proofs.Common.{◌≡◌, ◌<◌, ℕ, Any}
use Rattle.std.specs.Prelude.{slice_index_or}
use Rattle.av_affine.specs.declared.form.Form.{Form}
use Rattle.av_normal.specs.Contrary.{AreOpposed}
use Rattle.av_normal.proofs.opposed.are_contrary.Given as goal

-- none before it has an opposed row
abbrev pub invariant-loop-row : goal.invariant-loop-row
invariant-loop-row l = (j : ℕ) (row : Form) → j < l.row-index → slice_index_or l.rows j row ≡ row → Any (AreOpposed row) l.rows → ⊥
