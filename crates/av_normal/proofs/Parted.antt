-- What is known of the pieces of a well formed variable: their maps are chained, and what is read, restricted and folded fits.
use Rattle.std.proofs.Common.{◌≡◌, ℕ, zero, suc, ◌≤◌, ◌<◌, inl, inr, IsTrue, List, [], ◌∷◌, ◌++◌, length, map, slice_get, get_or, refl, sym, ap, subst, ◌∙◌, arith, All}
use Rattle.std.proofs.lemmas.List.Elements.{All-nil, All-cons, All-head, All-tail, All-map, All-weaker}
use Rattle.std.proofs.lemmas.Option.{slice_get_cases}
use Rattle.av_base.specs.Words.{IsWord}
use Rattle.av_affine.specs.Forms.{IsWithinLimits}
use Rattle.av_affine.specs.declared.form.Form.{Form}
use Rattle.av_affine.specs.declared.map.Map.{Map}
use Rattle.av_poly.specs.Points.{Set}
use Rattle.av_flat.specs.declared.flat.Kind.{Kind}
use Rattle.av_flat.specs.declared.flat.Kind.TheVariants as kind
use Rattle.av_flat.specs.Trees.{Tree, Trees, Piece, Variable, FlatSystem, reference, constant, binary, choice, restriction, cases, dependence, reduction, pick, none, more, right_side}
use Rattle.av_flat.specs.Signatures.{Signature, signature, signatures, is_input, is_computed}
use Rattle.av_flat.specs.WellFormed.{Fits, FitAll, EachPart, EachPartOfAll, HasSmallRows, IsInPlace, IsWellFormedPiece, IsWellFormedVariable, IsWellFormed}
use Rattle.av_flat.specs.Pieces.{Part, rows_of, parts}
use Rattle.av_flat.specs.Quantities.{of_map, steps_under, composed_maps, composed_maps_of_all}
use Rattle.av_normal.specs.Searches.{AreNarrow}
use Rattle.av_normal.specs.inner.Counted.{pieces_counted, IsOfFew, HasFew}
use Rattle.av_normal.specs.inner.UnderMaps.{LeadsTo, AreChained, StandsUnder, StandUnder, FitsUnder, IsSmallUnder, IsReadable, AreReadable}
use Rattle.av_normal.specs.inner.ReductionSets.{IsFillable}
use Rattle.av_normal.specs.inner.Making.{maps_measured, held_parts, IsParted}
use Rattle.av_normal.proofs.Searching.{narrow_first, narrow_second}
use Rattle.av_normal.proofs.Capped.{counted_right_side}
use Rattle.av_normal.proofs.Laid.{IsLaid, IsLaidPart, Anything}
use Rattle.av_normal.proofs.Walks.{Narrow}
use Rattle.av_normal.proofs.Limits.{small_map}
use Rattle.av_normal.proofs.KeptPieces.{SmallMap, laid_all}
use Rattle.av_normal.proofs.Trying.{apart, maps_are}
use Rattle.av_normal.proofs.Making.{held_fillable}
use Rattle.av_flat.proofs.PieceValues.{caseless}

-- ---- under dependences

-- the innermost map leads to n indices
abbrev Leads : ℕ → List Map → Type 0
Leads n [] = Unit {0}
Leads n (d ∷ ds) = n ≡ length d.rows

leads_to : (m : Map) (n : ℕ) (ds : List Map) → m.from ≡ n → Leads n ds → LeadsTo m ds
leads_to m n [] e l = tt
leads_to m n (d ∷ ds) e l = e ∙ l

fits_under : (d : Set) (n : ℕ) (ds : List Map) → d.dim ≡ n → Leads n ds → FitsUnder ds d
fits_under d n [] e l = tt
fits_under d n (m ∷ ds) e l = sym (e ∙ l)

small_rows_under : (d : Set) (ds : List Map) → All IsWithinLimits d.rows → IsSmallUnder ds d
small_rows_under d [] h = tt
small_rows_under d (m ∷ ds) h = h

mutual
  stands_under : (vs : List Signature) (n : ℕ) (ds : List Map) (t : Tree) → Fits vs n t → EachPart HasSmallRows t → AreChained ds → Leads n ds → StandsUnder ds t
  stands_under vs n ds (reference place m) f s c l = (s, leads_to m n ds f.from l, c)
  stands_under vs n ds (constant k) f s c l = tt
  stands_under vs n ds (binary g x y) f s c l = (stands_under vs n ds x f.0 s.1 c l, stands_under vs n ds y f.1 s.2 c l)
  stands_under vs n ds (choice a b r x y) f s c l =
      (stands_under vs n ds a f.0 s.1 c l, stands_under vs n ds r f.1 s.2 c l, stands_under vs n ds x f.2 s.3 c l, stands_under vs n ds y f.3 s.4 c l)
  stands_under vs n ds (restriction d t) f s c l = (c, stands_under vs n ds t f.1 s.1 c l)
  stands_under vs n ds (cases ts) f s c l = all_stand_under vs n ds ts f s.1 c l
  stands_under vs n ds (dependence m t) f s c l = stands_under vs (length m.rows) (m ∷ ds) t f.2 s.1 (s.0, leads_to m n ds f.0 l, c) refl
  stands_under vs n ds (reduction o m t set) f s c l = stands_under vs m.from [] t f.3 s.1 tt tt
  stands_under vs n ds (pick place choices k) f s c l = tt

  all_stand_under : (vs : List Signature) (n : ℕ) (ds : List Map) (ts : Trees) → FitAll vs n ts → EachPartOfAll HasSmallRows ts → AreChained ds → Leads n ds → StandUnder ds ts
  all_stand_under vs n ds none f s c l = tt
  all_stand_under vs n ds (more t ts) f s c l = (stands_under vs n ds t f.0 s.0 c l, all_stand_under vs n ds ts f.1 s.1 c l)

-- ---- what is read and restricted

abbrev HaveSmallRows : List Signature → Type 0
HaveSmallRows vs = All (λ v. All IsWithinLimits v.domain.rows) vs

small_at : (vs : List Signature) (place : ℕ) → HaveSmallRows vs → All IsWithinLimits (rows_of (slice_get vs place))
small_at vs place h = elim (slice_get_cases vs place).1 [
  | inl c ↦ rw c.2 (subst (λ (v : Signature). All IsWithinLimits v.domain.rows) c.3 (h place c.0 c.1))
  | inr c ↦ rw c.1 (All-nil IsWithinLimits)
]

mutual
  readable : (vs : List Signature) (n : ℕ) (ds : List Map) (t : Tree) → HaveSmallRows vs → Fits vs n t → EachPart HasSmallRows t → EachPart IsInPlace t → AreChained ds → Leads n ds
      → Narrow (composed_maps ds t) → IsReadable vs ds t
  readable vs n ds (reference place m) v f s p c l w = record { chained = (s, leads_to m n ds f.from l, c); narrow = w; results = f.results; rows = small_at vs place v }
  readable vs n ds (constant k) v f s p c l w = tt
  readable vs n ds (binary g x y) v f s p c l w = (
    readable vs n ds x v f.0 s.1 p.1 c l (narrow_first of_map (composed_maps ds x) (composed_maps ds y) w),
    readable vs n ds y v f.1 s.2 p.2 c l (narrow_second of_map (composed_maps ds x) (composed_maps ds y) w),
  )
  readable vs n ds (choice a b r x y) v f s p c l w =
      let third = narrow_first of_map (composed_maps ds a ++ composed_maps ds r ++ composed_maps ds x) (composed_maps ds y) w in
      let sides = narrow_first of_map (composed_maps ds a ++ composed_maps ds r) (composed_maps ds x) third in (
        readable vs n ds a v f.0 s.1 p.1 c l (narrow_first of_map (composed_maps ds a) (composed_maps ds r) sides),
        readable vs n ds r v f.1 s.2 p.2 c l (narrow_second of_map (composed_maps ds a) (composed_maps ds r) sides),
        readable vs n ds x v f.2 s.3 p.3 c l (narrow_second of_map (composed_maps ds a ++ composed_maps ds r) (composed_maps ds x) third),
        readable vs n ds y v f.3 s.4 p.4 c l (narrow_second of_map (composed_maps ds a ++ composed_maps ds r ++ composed_maps ds x) (composed_maps ds y) w),
      )
  readable vs n ds (restriction d t) v f s p c l w = (
    record { chained = c; narrow = narrow_first of_map (steps_under ds) (composed_maps ds t) w; fits = fits_under d n ds f.0 l; rows = small_rows_under d ds s.0 },
    readable vs n ds t v f.1 s.1 p.1 c l (narrow_second of_map (steps_under ds) (composed_maps ds t) w),
  )
  readable vs n ds (cases ts) v f s p c l w = all_readable vs n ds ts v f s.1 p.1 c l w
  readable vs n ds (dependence m t) v f s p c l w = readable vs (length m.rows) (m ∷ ds) t v f.2 s.1 p.1 (s.0, leads_to m n ds f.0 l, c) refl w
  readable vs n ds (reduction o m t set) v f s p c l w = (caseless t p.0.1, readable vs m.from [] t v f.3 s.1 p.1 tt tt w)
  readable vs n ds (pick place choices k) v f s p c l w = tt

  all_readable : (vs : List Signature) (n : ℕ) (ds : List Map) (ts : Trees) → HaveSmallRows vs → FitAll vs n ts → EachPartOfAll HasSmallRows ts → EachPartOfAll IsInPlace ts → AreChained ds → Leads n ds
      → Narrow (composed_maps_of_all ds ts) → AreReadable vs ds ts
  all_readable vs n ds none v f s p c l w = tt
  all_readable vs n ds (more t ts) v f s p c l w = (
    readable vs n ds t v f.0 s.0 p.0 c l (narrow_first of_map (composed_maps ds t) (composed_maps_of_all ds ts) w),
    all_readable vs n ds ts v f.1 s.1 p.1 c l (narrow_second of_map (composed_maps ds t) (composed_maps_of_all ds ts) w),
  )

-- ---- what is folded

laid_fillable : (vs : List Signature) (W : ℕ → Type 0) (n : ℕ) (rows : List Form) (t : Tree) → IsLaid vs SmallMap W Anything n rows t → IsFillable n t
laid_fillable vs W n rows (reference place m) a = tt
laid_fillable vs W n rows (constant k) a = tt
laid_fillable vs W n rows (binary s l r) a = (laid_fillable vs W n rows l a.0, laid_fillable vs W n rows r a.1)
laid_fillable vs W n rows (choice l c r x y) a =
    (laid_fillable vs W n rows l a.0, laid_fillable vs W n rows r a.1, laid_fillable vs W n rows x a.2, laid_fillable vs W n rows y a.3)
laid_fillable vs W n rows (reduction o m t set) a =
    let r = a.0 in (record { projection = r.projection; results = r.results; few = r.few; dimension = r.dimension; small = r.map_is }, laid_fillable vs W m.from set.rows t a.1)
laid_fillable vs W n rows t a = absurd a

-- ---- variables

small_declared : (s : FlatSystem) → IsWellFormed s → HaveSmallRows (signatures s)
small_declared s g =
    All-map (λ v. All IsWithinLimits v.domain.rows) signature s.variables (All-weaker (IsWellFormedVariable s) (λ v. All IsWithinLimits v.domain.rows) (λ v k. k.rows) s.variables g.each)

-- an input has no pieces, and any other variable has few
few_counted : (s : FlatSystem) (v : Variable) → IsWellFormedVariable s v → IsOfFew v → pieces_counted v.pieces ≤ 256
few_counted s v g f = go v.kind refl
  where
    computed : IsTrue (is_computed v.kind) → pieces_counted v.pieces ≤ 256
    computed c = let e = counted_right_side v in let l = f c in omega (arith, e, l)

    go : (k : Kind) → v.kind ≡ k → pieces_counted v.pieces ≤ 256
    go kind.Input e = rw (g.inputs (ap is_input e)) (omega arith)
    go kind.Output e = computed (ap is_computed e)
    go kind.Local e = computed (ap is_computed e)
    go kind.Partial e = computed (ap is_computed e)

small_maps : (ms : List Map) → Narrow ms → All SmallMap ms
small_maps [] h = All-nil SmallMap
small_maps (m ∷ ms) h = All-cons SmallMap m ms (small_map m (λ k. h.0 k.0 k.1 k.2)) (small_maps ms h.1)

module _ (s : FlatSystem) (v : Variable) (g : IsWellFormedVariable s v) where
  pub equation_stands : All (λ e. StandsUnder [] e.tree) v.pieces
  equation_stands =
      All-weaker (IsWellFormedPiece (signatures s) v) (λ e. StandsUnder [] e.tree) (λ e k. stands_under (signatures s) v.domain.dim [] e.tree k.tree.fits k.tree.rows tt tt) v.pieces g.pieces

  pub equation_parted : IsWellFormed s → IsOfFew v → AreNarrow (maps_measured v.pieces) → All (IsParted (signatures s) v.domain.dim) v.pieces
  equation_parted a f n = go v.pieces g.pieces (few_counted s v g f) n
    where
      go : (es : List Piece) → All (IsWellFormedPiece (signatures s) v) es → pieces_counted es ≤ 256 → AreNarrow (maps_measured es) → All (IsParted (signatures s) v.domain.dim) es
      go [] h l n = All-nil (IsParted (signatures s) v.domain.dim)
      go (e ∷ es) h l n =
          let k = All-head (IsWellFormedPiece (signatures s) v) e es h in
          let own = apart (map of_map (composed_maps [] e.tree)) (maps_measured es) n in
          All-cons (IsParted (signatures s) v.domain.dim) e es (record {
            dimension = k.dimension;
            rows = k.rows;
            readable = readable (signatures s) v.domain.dim [] e.tree (small_declared s a) k.tree.fits k.tree.rows k.tree.reductions tt tt own.0;
            few = omega (arith, l);
          }) (go es (All-tail (IsWellFormedPiece (signatures s) v) e es h) (omega (arith, l)) own.1)

  pub parts_fillable : AreNarrow (maps_measured v.pieces) → All (λ p. IsFillable v.domain.dim p.tree) (held_parts (signatures s) v.domain.rows v.pieces)
  parts_fillable n =
      let maps = small_maps (composed_maps [] (right_side v)) (rw (maps_are v) n) in
      let P : Part → Type 0 = λ p. IsFillable v.domain.dim p.tree in
      held_fillable (signatures s) v.domain.dim v.domain.rows v.pieces
      (All-weaker (IsLaidPart (signatures s) SmallMap (IsWord v.width) v.domain.dim) P (λ p a. laid_fillable (signatures s) (IsWord v.width) v.domain.dim p.rows p.tree a)
      (parts (signatures s) [] (right_side v)) (laid_all s v g maps))

pub few_at : {X : Type 0} (f : X → Variable) (xs : List X) (i : ℕ) (x : X) → i < length xs → x ≡ get_or xs i x → HasFew (map f xs) → IsOfFew (f x)
few_at f [] i x l e h = absurd (omega (arith, l))
few_at f (y ∷ xs) zero x l e h = subst (λ z. IsOfFew (f z)) (sym e) h.0
few_at f (y ∷ xs) (suc i) x l e h = few_at f xs i x (omega (arith, l)) e h.1
