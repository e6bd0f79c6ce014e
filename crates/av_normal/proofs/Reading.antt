-- Maps under dependences, and the variables that references read.
use Rattle.std.proofs.Common.{◌≡◌, ℕ, zero, suc, ◌<◌, List, [], ◌∷◌, length, get_or, Some, sym, ap, ◌∙◌, arith, All}
use Rattle.std.specs.Prelude.{slice_get}
use Rattle.av_affine.specs.declared.map.Map.{Map}
use Rattle.av_affine.specs.Forms.{IsWithinLimits}
use Rattle.av_poly.specs.Points.{Set}
use Rattle.av_flat.specs.declared.flat.Var.{Var}
use Rattle.av_flat.specs.Trees.{view_variable}
use Rattle.av_flat.specs.Signatures.{Signature, signature}
use Rattle.av_flat.specs.WellFormed.{dimension_of}
use Rattle.av_flat.specs.Pieces.{composed, rows_of}
use Rattle.av_normal.specs.inner.Numbered.{signatures_of}
use Rattle.av_normal.specs.inner.UnderMaps.{composed_under, FitsUnder, IsSmallUnder}
use Rattle.av_normal.proofs.Laid.{composed_length}

pub fits_under : (ds : List Map) (d : Set) (whole : Map) → Some whole ≡ composed_under ds → FitsUnder ds d → length whole.rows ≡ d.dim
fits_under [] d whole e f = absurd cc
fits_under (m ∷ ds) d whole e f = ap (λ (n : Map). length n.rows) (the_same whole (composed m ds) e) ∙ composed_length m ds ∙ f
  where
    the_same : (a b : Map) → Some a ≡ Some b → a ≡ b
    the_same a b p = cc

pub small_under : (ds : List Map) (d : Set) (whole : Map) → Some whole ≡ composed_under ds → IsSmallUnder ds d → All IsWithinLimits d.rows
small_under [] d whole e s = absurd cc
small_under (m ∷ ds) d whole e s = s

-- ---- the variable that a reference reads

pub place_within : (vars : List Var) (place n : ℕ) → dimension_of (slice_get (signatures_of vars) place) ≡ Some n → place < length vars
place_within [] place n e = absurd cc
place_within (v ∷ vars) zero n e = omega arith
place_within (v ∷ vars) (suc place) n e = let l = place_within vars place n e in omega (arith, l)

signature_at : (vars : List Var) (place : ℕ) (v : Var) → place < length vars → v ≡ get_or vars place v → slice_get (signatures_of vars) place ≡ Some (signature (view_variable v))
signature_at [] place v l e = absurd (omega (arith, l))
signature_at (u ∷ vars) zero v l e = ap (λ (w : Var). Some (signature (view_variable w))) (sym e)
signature_at (u ∷ vars) (suc place) v l e = signature_at vars place v (omega (arith, l)) e

module _ (vars : List Var) (place : ℕ) (v : Var) (l : place < length vars) (e : v ≡ get_or vars place v) where
  pub dimension_read : (n : ℕ) → dimension_of (slice_get (signatures_of vars) place) ≡ Some n → n ≡ v.domain.dim
  dimension_read n f = the_same n v.domain.dim (sym f ∙ ap dimension_of (signature_at vars place v l e))
    where
      the_same : (a b : ℕ) → Some a ≡ Some b → a ≡ b
      the_same a b p = cc

  pub rows_read : rows_of (slice_get (signatures_of vars) place) ≡ v.domain.rows
  rows_read = ap rows_of (signature_at vars place v l e)

-- the image under all maps is one of the variable that is read
pub fits_read : (vs : List Signature) (ds : List Map) (place : ℕ) (m whole : Map) → whole ≡ composed m ds → dimension_of (slice_get vs place) ≡ Some (length m.rows) → dimension_of (slice_get vs place) ≡ Some (length whole.rows)
fits_read vs ds place m whole w e = e ∙ ap Some (sym (ap (λ (n : Map). length n.rows) w ∙ composed_length m ds))
