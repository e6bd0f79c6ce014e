-- Rows whose coefficients differ, one of which has its constant lowered.
use Rattle.std.proofs.Common.{◌≡◌, ℕ, ◌<◌, List, get_or, sym, ◌∙◌, ap, refl}
use Rattle.std.proofs.Math.ListN.{set}
use Rattle.std.specs.Int.{int_min}
use Rattle.av_affine.specs.declared.form.Form.{Form}
use Rattle.av_poly.specs.inner.Placing.{Lowers}

pub lowers_at : (kept : ℕ) (row : Form) (old rows : List Form) (k : ℕ) (x new : Form) → k < kept → rows ≡ old → x ≡ get_or rows k row → x.coef ≡ row.coef
    → new ≡ record { coef = x.coef; constant = int_min x.constant row.constant } → Lowers kept row old (set rows k new)
lowers_at kept row old rows k x new l s r e m =
    let t = r ∙ ap (λ (fs : List Form). get_or fs k row) s in
    record {
      place = k;
      within = l;
      coef = sym (ap (λ (f : Form). f.coef) t) ∙ e;
      new_rows = rw (m, ← t, ← s) refl;
    }
