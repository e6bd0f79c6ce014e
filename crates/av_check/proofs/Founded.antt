-- Trees of well formed systems stand where their points are found by composed maps.
use Rattle.std.proofs.Common.{◌≡◌, ℕ, ◌≤◌, List, [], ◌∷◌, ◌++◌, length, map, sym, subst, ◌∙◌, All}
use Rattle.std.proofs.lemmas.List.{length-map}
use Rattle.std.proofs.lemmas.List.Elements.{All-nil, All-cons, All-head, All-tail}
use Rattle.av_affine.specs.declared.map.Map.{Map}
use Rattle.av_affine.specs.Forms.{value_at}
use Rattle.av_tree.specs.Points.{Point}
use Rattle.av_flat.specs.Trees.{Tree, Trees, Piece, reference, constant, binary, choice, restriction, cases, dependence, reduction, pick, none, more, trees_of}
use Rattle.av_flat.specs.Signatures.{Signature}
use Rattle.av_flat.specs.WellFormed.{Fits, FitAll, EachPart, EachPartOfAll, HasSmallRows}
use Rattle.av_flat.specs.Quantities.{steps_under, composed_maps, composed_maps_of_all}
use Rattle.av_check.specs.inner.Reachable.{reach, HasSmallForms, IsChain, IsReached, IsReachable, AreReachable, IsReachableInside}
use Rattle.av_base.proofs.Lists.{all_parts}

reached : (ds : List Map) (z : Point) → IsChain ds z → All HasSmallForms ds → All HasSmallForms (steps_under ds) → IsReached ds z
reached [] z h u c = h
reached (d ∷ ds) z h u c = record { from = h.0; chain = h.2; own = All-head HasSmallForms d ds u; under = All-tail HasSmallForms d ds u; composed = c }

mutual
  pub founded : (vs : List Signature) (ds : List Map) (t : Tree) (z : Point) → Fits vs (length (reach ds z)) t → EachPart HasSmallRows t → All HasSmallForms (composed_maps ds t) → IsChain ds z → All HasSmallForms ds
      → IsReachable vs ds t z
  founded vs ds (reference place m) z f r c h u = (record { from = f.from; chain = h; own = r; under = u; composed = c }, f)
  founded vs ds (constant n) z f r c h u = tt
  founded vs ds (binary s a b) z f r c h u =
      let p = all_parts HasSmallForms (composed_maps ds a) (composed_maps ds b) c in
      (founded vs ds a z f.0 r.1 p.0 h u, founded vs ds b z f.1 r.2 p.1 h u)
  founded vs ds (choice a o b x y) z f r c h u =
      let p = all_parts HasSmallForms (composed_maps ds a ++ composed_maps ds b ++ composed_maps ds x) (composed_maps ds y) c in
      let q = all_parts HasSmallForms (composed_maps ds a ++ composed_maps ds b) (composed_maps ds x) p.0 in
      let s = all_parts HasSmallForms (composed_maps ds a) (composed_maps ds b) q.0 in
      (founded vs ds a z f.0 r.1 s.0 h u, founded vs ds b z f.1 r.2 s.1 h u, founded vs ds x z f.2 r.3 q.1 h u, founded vs ds y z f.3 r.4 p.1 h u)
  founded vs ds (restriction d t) z f r c h u =
      let p = all_parts HasSmallForms (steps_under ds) (composed_maps ds t) c in
      (reached ds z h u p.0, sym f.0, founded vs ds t z f.1 r.1 p.1 h u)
  founded vs ds (cases ts) z f r c h u = founded_all vs ds ts z f r.1 c h u
  founded vs ds (dependence m t) z f r c h u =
      founded vs (m ∷ ds) t z (subst (λ (n : ℕ). Fits vs n t) (sym (length-map m.rows (λ g. value_at g (reach ds z)))) f.2) r.1 c (f.0, f.1, h) (All-cons HasSmallForms m ds r.0 u)
  founded vs ds (reduction o m t set) z f r c h u = tt
  founded vs ds (pick place choices n) z f r c h u = tt

  pub founded_all : (vs : List Signature) (ds : List Map) (ts : Trees) (z : Point) → FitAll vs (length (reach ds z)) ts → EachPartOfAll HasSmallRows ts → All HasSmallForms (composed_maps_of_all ds ts) → IsChain ds z → All HasSmallForms ds
      → AreReachable vs ds ts z
  founded_all vs ds none z f r c h u = tt
  founded_all vs ds (more t ts) z f r c h u =
      let p = all_parts HasSmallForms (composed_maps ds t) (composed_maps_of_all ds ts) c in
      (founded vs ds t z f.0 r.0 p.0 h u, founded_all vs ds ts z f.1 r.1 p.1 h u)

pub record IsFoundedPiece (vs : List Signature) (n : ℕ) (p : Piece) : Type 0 where
  pub dimension : p.domain.dim ≡ n
  pub fits : Fits vs n p.tree
  pub rows : EachPart HasSmallRows p.tree

pub pieces_stand : (vs : List Signature) (n : ℕ) (z : Point) (ps : List Piece) → length z ≡ n → n ≤ 4 → All (IsFoundedPiece vs n) ps
    → All HasSmallForms (composed_maps_of_all [] (trees_of (map (λ p. restriction p.domain p.tree) ps))) → All (λ p. IsReachableInside vs p z) ps
pieces_stand vs n z [] e few h c = All-nil (λ p. IsReachableInside vs p z)
pieces_stand vs n z (p ∷ ps) e few h c =
    let parts = all_parts HasSmallForms (composed_maps [] p.tree) (composed_maps_of_all [] (trees_of (map (λ q. restriction q.domain q.tree) ps))) c in
    let own = All-head (IsFoundedPiece vs n) p ps h in
    All-cons (λ q. IsReachableInside vs q z) p ps
    (e ∙ sym own.dimension, founded vs [] p.tree z (subst (λ (k : ℕ). Fits vs k p.tree) (sym e) own.fits) own.rows parts.0 (subst (λ (k : ℕ). k ≤ 4) (sym e) few) (All-nil HasSmallForms))
    (pieces_stand vs n z ps e few (All-tail (IsFoundedPiece vs n) p ps h) parts.1)
