-- The set of each reduction of a kept piece lies over that of what holds it.
use Rattle.std.proofs.Common.{ℕ, List, ◌++◌, length, sym, subst, ◌∙◌}
use Rattle.av_affine.specs.declared.form.Form.{Form}
use Rattle.av_affine.specs.declared.map.Map.{Map}
use Rattle.av_poly.specs.Points.{Set}
use Rattle.av_poly.specs.Normal.{AreNormalised}
use Rattle.av_poly.specs.Preimages.{rows_before}
use Rattle.av_flat.specs.Trees.{Tree, reference, constant, binary, choice, reduction}
use Rattle.av_flat.specs.Signatures.{Signature}
use Rattle.av_flat.specs.Kept.{LiesOver}
use Rattle.av_flat.specs.Pieces.{filled}
use Rattle.av_normal.specs.NormalForm.{HasNormalSets}
use Rattle.av_normal.proofs.Laid.{IsLaid}
use Rattle.av_normal.proofs.Normalised.{stand_for, normalised_beside}
use Rattle.av_normal.proofs.NormalisedBefore.{stand_before}

module _ (vs : List Signature) (M : Map → Type 0) (W : ℕ → Type 0) (S : Set → Type 0) where
  -- the tree was laid where the given rows hold, and filled from rows that the holder's rows were made from
  pub lies_over : (n : ℕ) (given rows : List Form) (holder : Set) (t u : Tree) → IsLaid vs M W S n given t → AreNormalised n rows holder.rows → HasNormalSets (filled rows t) u → LiesOver holder u
  lies_over n given rows holder (reference place m) (reference q k) a e h = tt
  lies_over n given rows holder (constant k) (constant j) a e h = tt
  lies_over n given rows holder (binary s l r) (binary g x y) a e h = (lies_over n given rows holder l x a.0 e h.1, lies_over n given rows holder r y a.1 e h.2)
  lies_over n given rows holder (choice l c r x y) (choice d b f v w) a e h = (
    lies_over n given rows holder l d a.0 e h.1,
    lies_over n given rows holder r f a.1 e h.2,
    lies_over n given rows holder x v a.2 e h.3,
    lies_over n given rows holder y w a.3 e h.4,
  )
  lies_over n given rows holder (reduction o m t set) (reduction p k u inner) a e h =
      let wide = rows_before m rows ++ set.rows in
      let normal : AreNormalised m.from wide inner.rows = subst (λ (d : ℕ). AreNormalised d wide inner.rows) a.0.dimension h.3.rows in
      let stand = stand_before m a.0.projection a.0.few rows holder.rows (stand_for (length m.rows) rows holder.rows (subst (λ (d : ℕ). AreNormalised d rows holder.rows) (sym a.0.results) e)) in
      let beside = normalised_beside m.from (rows_before m rows) (rows_before m holder.rows) set.rows inner.rows stand normal in
      rw h.1 (
        subst (λ (d : ℕ). AreNormalised d (rows_before m holder.rows ++ inner.rows) inner.rows) (sym (h.3.dim ∙ a.0.dimension)) beside,
        lies_over m.from set.rows wide inner t u a.1 normal h.2,
      )
  lies_over n given rows holder t u a e h = absurd h
