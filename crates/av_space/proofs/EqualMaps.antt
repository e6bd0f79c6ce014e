-- What `==` computes of two maps.
use Rattle.std.proofs.Common.{◌≡◌, Bool, ◌&&◌, ◌==◌, ap, ap₂, refl}
use Rattle.std.specs.Bool.{Decides}
use Rattle.std.specs.Ordering.{int_eq}
use Rattle.std.specs.Cmp.Lexicographic.{pointwise}
use Rattle.std.proofs.lemmas.Slice.Eq.{slice_eq-Decides}
use Rattle.std.proofs.lemmas.Bool.Decides.{Decides-eqb, Decides-int_eq, Decides-and, Decides-like}
use Rattle.av_affine.specs.declared.form.Form.{Form}
use Rattle.av_affine.specs.declared.map.Map.{Map}

abbrev pub equal_forms : Form → Form → Bool
equal_forms a b = pointwise int_eq a.coef b.coef && int_eq a.constant b.constant

same_form : (a b : Form) → Decides (equal_forms a b) (a ≡ b)
same_form a b =
    Decides-like (equal_forms a b) (λ e. ap₂ (λ c k. record { coef = c; constant = k }) e.0 e.1) (λ e. (ap (λ (f : Form). f.coef) e, ap (λ (f : Form). f.constant) e))
    (Decides-and (pointwise int_eq a.coef b.coef) (int_eq a.constant b.constant) (slice_eq-Decides Decides-int_eq a.coef b.coef (pointwise int_eq a.coef b.coef) refl) (Decides-int_eq a.constant b.constant))

abbrev pub equal_maps : Map → Map → Bool
equal_maps a b = (a.from == b.from) && pointwise equal_forms a.rows b.rows

pub same_map : (a b : Map) → Decides (equal_maps a b) (a ≡ b)
same_map a b =
    Decides-like (equal_maps a b) (λ e. ap₂ (λ n r. record { from = n; rows = r }) e.0 e.1) (λ e. (ap (λ (m : Map). m.from) e, ap (λ (m : Map). m.rows) e))
    (Decides-and (a.from == b.from) (pointwise equal_forms a.rows b.rows) (Decides-eqb a.from b.from) (slice_eq-Decides same_form a.rows b.rows (pointwise equal_forms a.rows b.rows) refl))
