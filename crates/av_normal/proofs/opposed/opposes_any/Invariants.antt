use Rattle.std.proofs.Common.{◌≡◌, ◌<◌, ℕ}
use Rattle.std.specs.Prelude.{slice_index_or}
use Rattle.av_affine.specs.declared.form.Form.{Form}
use Rattle.av_normal.specs.Contrary.{AreOpposed}
use Rattle.av_normal.proofs.opposed.opposes_any.Given as goal

-- none before it is opposed
abbrev pub invariant-loop-other : goal.invariant-loop-other
invariant-loop-other l = (j : ℕ) (other : Form) → j < l.other-index → slice_index_or l.others j other ≡ other → AreOpposed l.row other → ⊥
