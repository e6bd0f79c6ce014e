-- Rows taken one after another: each lowers the constant of one with equal coefficients, or stands behind the others.
use Rattle.std.specs.Prelude.{ℕ, suc, ◌≡◌, ◌≢◌, ◌<◌, ◌⊎◌, List, take, All, slice_index_or, slice_set}
use Rattle.std.specs.Int.{int_min}
use Rattle.av_affine.specs.declared.form.Form.{Form}

-- one of the first rows has these coefficients, and its constant is lowered to the row's where that is less
pub record Lowers (kept : ℕ) (row : Form) (old new : List Form) : Type 0 where
  pub place : ℕ
  pub within : place < kept
  pub coef : (slice_index_or old place row).coef ≡ row.coef
  pub new_rows : new ≡ slice_set old place (record { coef = (slice_index_or old place row).coef; constant = int_min (slice_index_or old place row).constant row.constant })

-- a row takes its place among the first rows: its constant lowers another's, or it stands behind them
abbrev pub Places : ℕ → Form → List Form → List Form → ℕ → Type 0
Places kept row old new count =
    ((count ≡ kept) × Lowers kept row old new)
    ⊎ ((count ≡ suc kept) × All (λ other. other.coef ≢ row.coef) (take kept old) × (new ≡ slice_set old kept row))
