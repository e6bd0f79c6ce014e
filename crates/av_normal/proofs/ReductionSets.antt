-- Trees whose sets are filled in from the normalised rows of a holder, part by part.
use Rattle.std.proofs.Common.{◌≡◌, ℕ, List, [], ◌∷◌, ◌++◌, map, refl, sym, subst, ◌∙◌}
use Rattle.av_base.specs.declared.word.Op.{Op}
use Rattle.av_affine.specs.declared.form.Form.{Form}
use Rattle.av_affine.specs.declared.map.Map.{Map}
use Rattle.av_poly.specs.Points.{Set}
use Rattle.av_poly.specs.Normal.{AreNormalised}
use Rattle.av_tree.specs.declared.relation.Relation.{Relation}
use Rattle.av_tree.specs.declared.sign.Sign.{Sign}
use Rattle.av_flat.specs.Trees.{Tree, binary, choice, reduction}
use Rattle.av_flat.specs.Pieces.{filled}
use Rattle.av_flat.specs.Quantities.{of_set, body_sets}
use Rattle.av_normal.specs.declared.fault.NormalFault.{NormalFault}
use Rattle.av_normal.specs.Searches.{IsNarrow, AreNarrow, IsWide}
use Rattle.av_normal.specs.NormalForm.{HasNormalSets}
use Rattle.av_normal.specs.inner.ReductionSets.{inner_of, IsFoldable}
use Rattle.av_normal.proofs.Searching.{narrow_append, wide_first, wide_second, wide_after}

-- the sets of the bodies, with these rows of the holder
abbrev sets : List Form → Tree → List Set
sets rows t = body_sets (filled rows t)

module _ (n : ℕ) (holder : List Form) where
  abbrev pub Same : Tree → Tree → Type 0
  Same t u = (rows : List Form) → AreNormalised n rows holder → HasNormalSets (filled rows t) u

  abbrev pub Narrow : Tree → Type 0
  Narrow t = (rows : List Form) → AreNormalised n rows holder → AreNarrow (map of_set (body_sets (filled rows t)))

  abbrev pub Wide : Tree → NormalFault → Type 0
  Wide t f = (rows : List Form) → AreNormalised n rows holder → IsWide (map of_set (body_sets (filled rows t))) f

  -- ---- two operands

  module _ (s : Sign) (l r : Tree) where
    pub two_narrow : Narrow l → Narrow r → Narrow (binary s l r)
    two_narrow h k rows e = narrow_append of_set (sets rows l) (sets rows r) (h rows e) (k rows e)

    pub two_first : (f : NormalFault) → Wide l f → Wide (binary s l r) f
    two_first f w rows e = wide_first of_set (sets rows l) (sets rows r) f (w rows e)

    pub two_second : (f : NormalFault) → Narrow l → Wide r f → Wide (binary s l r) f
    two_second f h w rows e = wide_second of_set (sets rows l) (sets rows r) f (h rows e) (w rows e)

  -- ---- four operands

  module _ (l : Tree) (c : Relation) (r x y : Tree) where
    narrow_three : Narrow l → Narrow r → Narrow x → (rows : List Form) → AreNormalised n rows holder → AreNarrow (map of_set (sets rows l ++ sets rows r ++ sets rows x))
    narrow_three h i j rows e = narrow_append of_set (sets rows l ++ sets rows r) (sets rows x) (narrow_append of_set (sets rows l) (sets rows r) (h rows e) (i rows e)) (j rows e)

    pub four_narrow : Narrow l → Narrow r → Narrow x → Narrow y → Narrow (choice l c r x y)
    four_narrow h i j k rows e = narrow_append of_set (sets rows l ++ sets rows r ++ sets rows x) (sets rows y) (narrow_three h i j rows e) (k rows e)

    pub four_first : (f : NormalFault) → Wide l f → Wide (choice l c r x y) f
    four_first f w rows e =
        wide_first of_set (sets rows l ++ sets rows r ++ sets rows x) (sets rows y) f
        (wide_first of_set (sets rows l ++ sets rows r) (sets rows x) f (wide_first of_set (sets rows l) (sets rows r) f (w rows e)))

    pub four_second : (f : NormalFault) → Narrow l → Wide r f → Wide (choice l c r x y) f
    four_second f h w rows e =
        wide_first of_set (sets rows l ++ sets rows r ++ sets rows x) (sets rows y) f
        (wide_first of_set (sets rows l ++ sets rows r) (sets rows x) f (wide_second of_set (sets rows l) (sets rows r) f (h rows e) (w rows e)))

    pub four_third : (f : NormalFault) → Narrow l → Narrow r → Wide x f → Wide (choice l c r x y) f
    four_third f h i w rows e =
        wide_first of_set (sets rows l ++ sets rows r ++ sets rows x) (sets rows y) f
        (wide_second of_set (sets rows l ++ sets rows r) (sets rows x) f (narrow_append of_set (sets rows l) (sets rows r) (h rows e) (i rows e)) (w rows e))

    pub four_fourth : (f : NormalFault) → Narrow l → Narrow r → Narrow x → Wide y f → Wide (choice l c r x y) f
    four_fourth f h i j w rows e = wide_second of_set (sets rows l ++ sets rows r ++ sets rows x) (sets rows y) f (narrow_three h i j rows e) (w rows e)

  -- ---- bodies

  -- what was made of the set of a body, whatever the rows of its holder were made from
  abbrev pub IsInner : Map → Set → Set → Type 0
  IsInner m set made = (rows : List Form) → AreNormalised n rows holder → AreNormalised m.from (inner_of m rows set).rows made.rows

-- the body with its set as holder
module _ (n : ℕ) (holder : List Form) (o : Op) (m : Map) (t : Tree) (set made : Set) (h : IsFoldable n m set) (dim : made.dim ≡ m.from) (inner : IsInner n holder m set made) where
  holds_body : (rows : List Form) → AreNormalised n rows holder → AreNormalised made.dim (inner_of m rows set).rows made.rows
  holds_body rows e = subst (λ (k : ℕ). AreNormalised k (inner_of m rows set).rows made.rows) (sym dim) (inner rows e)

  pub body_same : (u : Tree) → Same made.dim made.rows t u → Same n holder (reduction o m t set) (reduction o m u made)
  body_same u k rows e = (
    refl,
    refl,
    k (inner_of m rows set).rows (holds_body rows e),
    record { dim = dim ∙ sym h.dimension; rows = subst (λ (k : ℕ). AreNormalised k (inner_of m rows set).rows made.rows) (sym h.dimension) (inner rows e) },
  )

  -- the set as it stands in the filled tree
  abbrev there : List Form → Set
  there rows = record { dim = set.dim; rows = (inner_of m rows set).rows }

  same_there : (rows : List Form) → inner_of m rows set ≡ there rows
  same_there rows = subst (λ (k : ℕ). inner_of m rows set ≡ record { dim = k; rows = (inner_of m rows set).rows }) (sym h.dimension) refl

  narrow_there : ((rows : List Form) → AreNormalised n rows holder → IsNarrow (of_set (inner_of m rows set))) → (rows : List Form) → AreNormalised n rows holder → IsNarrow (of_set (there rows))
  narrow_there i rows e = subst (λ (d : Set). IsNarrow (of_set d)) (same_there rows) (i rows e)

  pub body_narrow : ((rows : List Form) → AreNormalised n rows holder → IsNarrow (of_set (inner_of m rows set))) → Narrow made.dim made.rows t → Narrow n holder (reduction o m t set)
  body_narrow i k rows e = (narrow_there i rows e, k (inner_of m rows set).rows (holds_body rows e))

  pub body_after : (f : NormalFault) → ((rows : List Form) → AreNormalised n rows holder → IsNarrow (of_set (inner_of m rows set))) → Wide made.dim made.rows t f → Wide n holder (reduction o m t set) f
  body_after f i w rows e = wide_after (of_set (there rows)) (map of_set (sets (inner_of m rows set).rows t)) f (narrow_there i rows e) (w (inner_of m rows set).rows (holds_body rows e))

-- the set of a body that is refused itself
pub body_refused : (n : ℕ) (holder : List Form) (o : Op) (m : Map) (t : Tree) (set : Set) → IsFoldable n m set → (f : NormalFault)
    → ((rows : List Form) → AreNormalised n rows holder → IsWide (of_set (inner_of m rows set) ∷ []) f) → Wide n holder (reduction o m t set) f
body_refused n holder o m t set h f w rows e =
    let is : inner_of m rows set ≡ record { dim = set.dim; rows = (inner_of m rows set).rows } =
    subst (λ (k : ℕ). inner_of m rows set ≡ record { dim = k; rows = (inner_of m rows set).rows }) (sym h.dimension) refl
    in
    let v = subst (λ (d : Set). IsWide (of_set d ∷ []) f) is (w rows e) in
    wide_first of_set (record { dim = set.dim; rows = (inner_of m rows set).rows } ∷ []) (sets (inner_of m rows set).rows t) f v
