-- Rows that are normalised to the same rows may stand for each other in front of the rows of parts.
use Rattle.std.proofs.Common.{ℕ, ◌↔◌, List, [], ◌∷◌, ◌++◌, inl, inr}
use Rattle.av_affine.specs.declared.form.Form.{Form}
use Rattle.av_poly.specs.Points.{Set}
use Rattle.av_poly.specs.Normal.{AreNormalised}
use Rattle.av_flat.specs.declared.quantity.Quantity.{Quantity}
use Rattle.av_flat.specs.Trees.{Piece}
use Rattle.av_flat.specs.Pieces.{Part, with_rows}
use Rattle.av_flat.specs.Quantities.{of_set, IsOver}
use Rattle.av_normal.specs.declared.fault.NormalFault.{NormalFault}
use Rattle.av_normal.specs.declared.fault.NormalFault.TheVariants as fault
use Rattle.av_normal.specs.NormalForm.{set_of}
use Rattle.av_normal.specs.Searches.{AreNarrow, IsFirstWide, IsWide, IsWideOne, IsWideRows}
use Rattle.av_normal.specs.inner.Making.{parts_measured, held, AreMade, AreAdded}

-- the fault of normalised rows is that of the set
pub wide_rows : (set : Set) (rows : List Form) (f : NormalFault) → AreNormalised set.dim set.rows rows → IsWideRows rows f → IsWideOne (of_set set) f
wide_rows set rows (fault.Limit kind n) s h = (rows, s, h)
wide_rows set rows (fault.Pieces n) s h = absurd h
wide_rows set rows (fault.Unbounded name) s h = absurd h
wide_rows set rows fault.Memory s h = absurd h

module _ (dim : ℕ) (rows others : List Form) (same : (more new : List Form) → AreNormalised dim (rows ++ more) new ↔ AreNormalised dim (others ++ more) new) where
  over_before : (p : Part) (kind : Quantity) (n : ℕ) → IsOver (of_set (set_of dim (held rows p))) kind n → IsOver (of_set (set_of dim (held others p))) kind n
  over_before p kind n (new, s, h) = (new, (same p.rows new).0 s, h)

  over_after : (p : Part) (kind : Quantity) (n : ℕ) → IsOver (of_set (set_of dim (held others p))) kind n → IsOver (of_set (set_of dim (held rows p))) kind n
  over_after p kind n (new, s, h) = (new, (same p.rows new).1 s, h)

  pub narrow_after : (ps : List Part) → AreNarrow (parts_measured dim (with_rows others ps)) → AreNarrow (parts_measured dim (with_rows rows ps))
  narrow_after [] h = tt
  narrow_after (p ∷ ps) h = ((λ kind n o. h.0 kind n (over_before p kind n o)), narrow_after ps h.1)

  first_after : (ps : List Part) (kind : Quantity) (n : ℕ) → IsFirstWide (parts_measured dim (with_rows others ps)) kind n → IsFirstWide (parts_measured dim (with_rows rows ps)) kind n
  first_after [] kind n h = absurd h
  first_after (p ∷ ps) kind n (inl h) = inl (over_after p kind n h)
  first_after (p ∷ ps) kind n (inr h) = inr ((λ k m o. h.0 k m (over_before p k m o)), first_after ps kind n h.1)

  pub wide_after : (ps : List Part) (f : NormalFault) → IsWide (parts_measured dim (with_rows others ps)) f → IsWide (parts_measured dim (with_rows rows ps)) f
  wide_after ps (fault.Limit kind n) h = first_after ps kind n h
  wide_after ps (fault.Pieces n) h = absurd h
  wide_after ps (fault.Unbounded name) h = absurd h
  wide_after ps fault.Memory h = tt

  made_after : (ps : List Part) (qs : List Piece) → AreMade dim (with_rows others ps) qs → AreMade dim (with_rows rows ps) qs
  made_after [] [] h = tt
  made_after [] (q ∷ qs) h = absurd h
  made_after (p ∷ ps) [] h = absurd h
  made_after (p ∷ ps) (q ∷ qs) h = (
    record { domain = record { dim = h.0.domain.dim; rows = (same p.rows q.domain.rows).1 h.0.domain.rows }; tree = h.0.tree; small = h.0.small },
    made_after ps qs h.1,
  )

  pub added_after : (ps : List Part) (old new : List Piece) → AreAdded dim (with_rows others ps) old new → AreAdded dim (with_rows rows ps) old new
  added_after ps old new h = record { added = h.added; is = h.is; made = made_after ps h.added h.made }
