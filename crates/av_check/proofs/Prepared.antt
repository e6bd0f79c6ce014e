-- Well formed systems and their normal forms are ready to be tried.
use Rattle.std.proofs.Common.{◌≡◌, ℕ, ◌+◌, ◌*◌, inl, Bool, true≢false, IsTrue, List, [], ◌∷◌, map, refl, sym, ap, ap₂, subst, ◌∙◌, All}
use Rattle.std.specs.Prelude.{if◌then◌else◌}
use Rattle.std.proofs.lemmas.List.Elements.{All-head, All-tail, All-weaker}
use Rattle.av_poly.specs.Points.{Set}
use Rattle.av_tree.specs.Points.{Point}
use Rattle.av_flat.specs.declared.quantity.Quantity.{Quantity}
use Rattle.av_flat.specs.Trees.{Tree, Piece, Variable, FlatSystem, reference, constant, binary, choice, restriction, cases, dependence, reduction, pick, trees_of, right_side}
use Rattle.av_flat.specs.Points.{has}
use Rattle.av_flat.specs.Signatures.{Signature, signatures}
use Rattle.av_flat.specs.Counts.{count, count_all}
use Rattle.av_flat.specs.Sets.{IsBounded}
use Rattle.av_flat.specs.WellFormed.{EachPart, IsWellFormedPiece, IsWellFormedVariable, IsWellFormed}
use Rattle.av_flat.specs.Kept.{IsPlain, ReadsDeclared, IsKeptPiece, IsKeptVariable, IsKept}
use Rattle.av_flat.specs.Quantities.{HasWideSets}
use Rattle.av_flat.proofs.Sets.{has_is}
use Rattle.av_flat.proofs.Bounded.{small_point}
use Rattle.av_normal.specs.NormalForm.{IsNormalVariable, AreNormalVariables, IsNormalForm}
use Rattle.av_normal.specs.declared.fault.NormalFault.{NormalFault}
use Rattle.av_normal.specs.declared.fault.NormalFault.TheVariants as normal_fault
use Rattle.av_normal.specs.NormalFaults.{HasFewPieces, HasNarrowSets, HasEnds, IsFault}
use Rattle.av_normal.proofs.PieceWords.{cond_same}
use Rattle.av_normal.proofs.RightSides.{right_count}
use Rattle.av_normal.proofs.Systems.{both_all, signatures_are}
use Rattle.av_normal.proofs.Limits.{AllFit, each_fits}
use Rattle.av_elim.specs.Extents.{IsOrdinary}
use Rattle.av_check.specs.inner.Coverage.{coverage}
use Rattle.av_check.specs.inner.Premises.{HasPremises, HavePremises}
use Rattle.av_check.proofs.Founded.{IsFoundedPiece, pieces_stand}

-- ---- kept pieces have one word each at their points

plain_count : (vs : List Signature) (set : Set) (t : Tree) → ReadsDeclared vs set t → EachPart IsPlain t → (z : Point) → IsTrue (has set z) → count vs t z ≡ 1
plain_count vs set (reference place m) r p z h = ap (λ (b : Bool). if b then 1 else 0) (r z h)
plain_count vs set (constant n) r p z h = refl
plain_count vs set (binary s a b) r p z h = ap₂ (λ m n. m * n) (plain_count vs set a r.0 p.1 z h) (plain_count vs set b r.1 p.2 z h)
plain_count vs set (choice a o b x y) r p z h =
    ap₂ (λ m n. m * n)
    (ap₂ (λ m n. m * n) (ap₂ (λ m n. m * n) (plain_count vs set a r.0 p.1 z h) (plain_count vs set b r.1 p.2 z h)) (plain_count vs set x r.2 p.3 z h))
    (plain_count vs set y r.3 p.4 z h)
plain_count vs set (restriction d t) r p z h = absurd (true≢false p.0.1)
plain_count vs set (cases ts) r p z h = absurd (true≢false p.0.0)
plain_count vs set (dependence m t) r p z h = absurd (true≢false p.0.2)
plain_count vs set (reduction o m t inner) r p z h = refl
plain_count vs set (pick place choices n) r p z h = refl

kept_count : (vs : List Signature) (v : Variable) (ps : List Piece) (z : Point) → All (IsKeptPiece vs v) ps → count_all vs (trees_of (map (λ p. restriction p.domain p.tree) ps)) z ≡ coverage z (map (λ p. p.domain) ps)
kept_count vs v [] z h = refl
kept_count vs v (p ∷ ps) z h =
    let own = All-head (IsKeptPiece vs v) p ps h in
    ap₂ (λ m n. m + n)
    (cond_same (has p.domain z) (has p.domain z) (count vs p.tree z) 1 refl (λ k. plain_count vs p.domain p.tree own.reads own.plain z k))
    (kept_count vs v ps z (All-tail (IsKeptPiece vs v) p ps h))

-- ---- variables

module _ (s t : FlatSystem) (g : IsWellFormed s) (n : IsNormalForm s t) (kept : IsKept t) (narrow : (kind : Quantity) (k : ℕ) → HasWideSets s kind k → ⊥) where
  abbrev Given : Variable → Type 0
  Given v = IsWellFormedVariable s v × AllFit (signatures s) v

  abbrev Kept : Variable → Type 0
  Kept w = IsWellFormedVariable t w × IsKeptVariable (signatures t) w

  ready : (v w : Variable) → IsNormalVariable (signatures s) v w → Given v → Kept w → HasPremises (signatures s) v w
  ready v w p a b = record {
    dim = a.0.indices;
    rows = a.0.rows;
    small = small_point v.domain (subst IsBounded p.domain b.1.bounded);
    sets = All-weaker (IsWellFormedPiece (signatures t) w) (λ q. IsOrdinary v.domain.dim q.domain)
        (λ q k. record { dim_is = k.dimension ∙ ap (λ (d : Set). d.dim) p.domain; rows = k.rows }) w.pieces b.0.pieces;
    stand = λ z h. pieces_stand (signatures s) v.domain.dim z v.pieces h.dimension a.0.indices
        (All-weaker (IsWellFormedPiece (signatures s) v) (IsFoundedPiece (signatures s) v.domain.dim) (λ q k. record { dimension = k.dimension; fits = k.tree.fits; rows = k.tree.rows }) v.pieces a.0.pieces)
        a.1.maps;
    same = λ z h.
        sym (right_count s v a.0 z ((has_is v.domain z).1 h) w p)
        ∙ ap (λ vs. count vs (right_side w) z) (sym (signatures_are s t g n))
        ∙ kept_count (signatures t) w w.pieces z b.1.pieces;
  }

  all_ready : (xs ys : List Variable) → AreNormalVariables (signatures s) xs ys → All Given xs → All Kept ys → HavePremises (signatures s) xs ys
  all_ready [] [] p a b = tt
  all_ready [] (w ∷ ys) p a b = absurd p
  all_ready (v ∷ xs) [] p a b = absurd p
  all_ready (v ∷ xs) (w ∷ ys) p a b =
      (ready v w p.0 (All-head Given v xs a) (All-head Kept w ys b), all_ready xs ys p.1 (All-tail Given v xs a) (All-tail Kept w ys b))

  pub are_ready : HavePremises (signatures s) s.variables t.variables
  are_ready = all_ready s.variables t.variables n.variables
      (both_all (IsWellFormedVariable s) (AllFit (signatures s)) s.variables g.each (each_fits s narrow))
      (both_all (IsWellFormedVariable t) (IsKeptVariable (signatures t)) t.variables kept.well_formed.each kept.each)

-- ---- systems that the pass to normal forms has no cause to refuse

module _ (s : FlatSystem) (none : (f : NormalFault) → IsFault s f → f ≡ normal_fault.Memory) where
  few_pieces : HasFewPieces s
  few_pieces n h = let e = none (normal_fault.Pieces n) h in absurd cc

  pub narrow_sets : HasNarrowSets s
  narrow_sets kind n h = let e = none (normal_fault.Limit kind n) (few_pieces, inl h) in absurd cc

  pub has_ends : HasEnds s
  has_ends name h = let e = none (normal_fault.Unbounded name) (few_pieces, narrow_sets, h) in absurd cc
