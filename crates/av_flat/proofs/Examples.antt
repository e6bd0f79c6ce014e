-- The definitions at small systems: counts, values, fibres, overlapping pieces, picks, and points
-- without a word.
use Rattle.std.proofs.Common.{◌≡◌, ℕ, ℤ, pos, negsuc, ◌≤ℤ◌, ◌<ℤ◌, Bool, true, false, IsTrue, List, [], ◌∷◌, Some, inl, inr, refl, sym, subst, arith}
use Rattle.std.specs.Prelude.{codes, bytes_eq, if◌then◌else◌}
use Rattle.std.proofs.lemmas.Int.{ints}
use Rattle.std.proofs.lemmas.List.Elements.{recursion_from_All}
use Rattle.av_base.specs.declared.word.Op.TheVariants as op
use Rattle.av_affine.specs.declared.form.Form.{Form}
use Rattle.av_affine.specs.declared.map.Map.{Map}
use Rattle.av_affine.specs.Forms.{value_at}
use Rattle.av_poly.specs.Points.{Set}
use Rattle.av_tree.specs.declared.sign.Sign.TheVariants as sign
use Rattle.av_tree.specs.Trees.{Text}
use Rattle.av_tree.specs.Points.{Point}
use Rattle.av_tree.specs.Folds.{IsAmong, IsListOf}
use Rattle.av_tree.specs.Values.{Assignment}
use Rattle.av_flat.specs.declared.flat.Kind.{Kind}
use Rattle.av_flat.specs.declared.flat.Kind.TheVariants as kind
use Rattle.av_flat.specs.Trees.{Tree, Piece, Variable, FlatSystem, reference, constant, binary, restriction, cases, reduction, pick, none, more, right_side}
use Rattle.av_flat.specs.Points.{has, point_over}
use Rattle.av_flat.specs.Signatures.{signature, signatures, is_declared, is_declared_at, is_computed, is_shown}
use Rattle.av_flat.specs.Counts.{count, count_inside}
use Rattle.av_flat.specs.Values.{Scene, HasValue}
use Rattle.av_flat.specs.Solutions.{scene, Satisfies, Shows}
use Rattle.av_flat.proofs.Sets.{has_is}

-- ---- short ways to write systems

abbrev pub form : ℤ → ℤ → ℤ → Form
form a b c = record { coef = a ∷ b ∷ pos 0 ∷ pos 0 ∷ []; constant = c }

-- the form that is the first index, and the one that is the second
abbrev pub i : Form
i = form (pos 1) (pos 0) (pos 0)

abbrev pub j : Form
j = form (pos 0) (pos 1) (pos 0)

abbrev number : ℤ → Form
number c = form (pos 0) (pos 0) c

abbrev pub set : ℕ → List Form → Set
set dim rows = record { dim = dim; rows = rows }

abbrev pub mapping : ℕ → List Form → Map
mapping from rows = record { from = from; rows = rows }

abbrev pub variable : Text → Kind → Set → List Piece → Variable
variable name k domain pieces = record { name = name; kind = k; width = 8; domain = domain; pieces = pieces }

abbrev pub piece : Set → Tree → Piece
piece domain tree = record { domain = domain; tree = tree }

-- ---- a matrix times a vector, both of size 2: C[i] = s[i,2], and s[i,j] = case {| j=0} : 0; {| 1<=j} : s[i,j-1] + M[i,j]*V[j]; esac

-- 1<=i<=2
abbrev in_rows : List Form
in_rows = form (pos 1) (pos 0) (negsuc 0) ∷ form (negsuc 0) (pos 0) (pos 2) ∷ []

abbrev pub line : Set
line = set 1 in_rows

-- .. and 1<=j<=2
abbrev pub square : Set
square = set 2 (form (pos 1) (pos 0) (negsuc 0) ∷ form (negsuc 0) (pos 0) (pos 2) ∷ form (pos 0) (pos 1) (negsuc 0) ∷ form (pos 0) (negsuc 0) (pos 2) ∷ [])

-- .. and 0<=j<=2
abbrev pub sums : Set
sums = set 2 (form (pos 1) (pos 0) (negsuc 0) ∷ form (negsuc 0) (pos 0) (pos 2) ∷ j ∷ form (pos 0) (negsuc 0) (pos 2) ∷ [])

-- j=0
abbrev at_first : Set
at_first = set 2 (j ∷ form (pos 0) (negsuc 0) (pos 0) ∷ [])

-- 1<=j
abbrev after_first : Set
after_first = set 2 (form (pos 0) (pos 1) (negsuc 0) ∷ [])

abbrev pub step : Tree
step = binary sign.Add (reference 3 (mapping 2 (i ∷ form (pos 0) (pos 1) (negsuc 0) ∷ []))) (binary sign.Mul (reference 0 (mapping 2 (i ∷ j ∷ []))) (reference 1 (mapping 2 (j ∷ []))))

abbrev pub s : Variable
s = variable (codes "s") kind.Local sums (piece sums (cases (more (restriction at_first (constant 0)) (more (restriction after_first step) none))) ∷ [])

abbrev c : Variable
c = variable (codes "C") kind.Output line (piece line (reference 3 (mapping 1 (i ∷ number (pos 2) ∷ []))) ∷ [])

abbrev pub product : FlatSystem
product = record { width = 8; variables = variable (codes "M") kind.Input square [] ∷ variable (codes "V") kind.Input line [] ∷ c ∷ s ∷ [] }

counted_once : count (signatures product) (right_side s) (pos 2 ∷ pos 1 ∷ []) ≡ 1
counted_once = refl

counted_at_first : count (signatures product) (right_side s) (pos 2 ∷ pos 0 ∷ []) ≡ 1
counted_at_first = refl

-- outside of the piece
counted_outside : count (signatures product) (right_side s) (pos 3 ∷ pos 1 ∷ []) ≡ 0
counted_outside = refl

-- V[0] is not declared
step_at_first : count (signatures product) step (pos 2 ∷ pos 0 ∷ []) ≡ 0
step_at_first = refl

one_index_too_few : is_declared_at (signatures product) 0 (pos 1 ∷ []) ≡ false
one_index_too_few = refl

-- M is 3 everywhere, V is 100, s is 200
abbrev words : Assignment
words name z = if bytes_eq name (codes "M") then Some 3 else if bytes_eq name (codes "V") then Some 100 else Some 200

-- 200 + 3 * 100 modulo 256
step_has : HasValue (scene product words s) step (pos 2 ∷ pos 1 ∷ []) 244
step_has = record {
  left = 200;
  right = 44;
  left_has = record { declared = refl; has = refl };
  right_has = record { left = 3; right = 100; left_has = record { declared = refl; has = refl }; right_has = record { declared = refl; has = refl }; is = refl };
  is = refl;
}

-- the word of the whole right side is that of the one piece, and there of the one branch
right_side_has : HasValue (scene product words s) (right_side s) (pos 2 ∷ pos 1 ∷ []) 244
right_side_has = (refl, inl (refl, (refl, inr (inl (refl, step_has)))))

result_has : HasValue (scene product words c) (right_side c) (pos 1 ∷ []) 200
result_has = (refl, inl (refl, record { declared = refl; has = refl }))

-- ---- pieces that overlap: both hold at 1

abbrev overlapping : Variable
overlapping = variable (codes "Y") kind.Output line (piece (set 1 (form (negsuc 0) (pos 0) (pos 1) ∷ [])) (constant 0) ∷ piece (set 1 (i ∷ [])) (constant 1) ∷ [])

counted_twice : count [] (right_side overlapping) (pos 1 ∷ []) ≡ 2
counted_twice = refl

counted_second : count [] (right_side overlapping) (pos 2 ∷ []) ≡ 1
counted_second = refl

no_word_twice : (t : Scene) (w : ℕ) → HasValue t (right_side overlapping) (pos 1 ∷ []) w → ⊥
no_word_twice t w h = let e : ◌≡◌ {A = ℕ} 2 1 = h.0 in cc

-- ---- fibres: reduce(min, (i,j -> i), X[j]) where X has the points 0 and 1, and only j<i are taken

abbrev pub two_points : Variable
two_points = variable (codes "X") kind.Input (set 1 (i ∷ form (negsuc 0) (pos 0) (pos 1) ∷ [])) []

abbrev pub below : Set
below = set 2 (form (pos 1) (negsuc 0) (negsuc 0) ∷ [])

abbrev pub onto_first : Map
onto_first = mapping 2 (i ∷ [])

abbrev pub read : Tree
read = reference 0 (mapping 2 (j ∷ []))

-- where the map keeps the second index and the third, in the other order
over_three : point_over (mapping 3 (record { coef = pos 0 ∷ pos 0 ∷ pos 1 ∷ pos 0 ∷ []; constant = pos 0 } ∷ j ∷ [])) (pos 5 ∷ pos 6 ∷ []) (pos 9) ≡ pos 9 ∷ pos 6 ∷ pos 5 ∷ []
over_three = refl

abbrev at_fibre : ℤ → ℤ → ℕ
at_fibre x k = count_inside (signature two_points ∷ []) below read (point_over onto_first (x ∷ []) k)

taken : at_fibre (pos 1) (pos 0) ≡ 1
taken = refl

-- declared, but not in the set
not_in_set : at_fibre (pos 1) (pos 1) ≡ 0
not_in_set = refl

-- in the set, but not declared
not_declared : at_fibre (pos 1) (negsuc 0) ≡ 0
not_declared = refl

pub both_are : (b : Bool) (n : ℕ) → (if b then n else 0) ≡ 1 → IsTrue b × (n ≡ 1)
both_are true n e = (refl, e)
both_are false n e = absurd cc

-- what is taken is below x, and declared
bounds_of : (x k : ℤ) → at_fibre x k ≡ 1 → (k <ℤ x) × (pos 0 ≤ℤ k) × (k ≤ℤ pos 1)
bounds_of x k e =
    let p = both_are (has below (x ∷ k ∷ [])) (count (signature two_points ∷ []) read (x ∷ k ∷ [])) e in
    let inside = (has_is below (x ∷ k ∷ [])).0 p.0 in
    let declared = (has_is two_points.domain (value_at j (x ∷ k ∷ []) ∷ [])).0 (both_are _ 1 p.1).0 in
    let first = inside.holds.0 in
    let least = declared.holds.0 in
    let most = declared.holds.1.0 in (omega (arith, ints, first), omega (arith, ints, least), omega (arith, ints, most))

nothing_below : (k : ℤ) → at_fibre (pos 0) k ≡ 1 → ⊥
nothing_below k e = let b = bounds_of (pos 0) k e in omega (arith, ints, b)

no_fibre : IsListOf (λ k. at_fibre (pos 0) k ≡ 1) []
no_fibre = record { ascending = tt; each = λ k m. absurd m; all = λ k e. absurd (nothing_below k e) }

only_zero : (k : ℤ) → at_fibre (pos 1) k ≡ 1 → k ≡ pos 0
only_zero k e = let b = bounds_of (pos 1) k e in omega (arith, ints, b)

zero_is_taken : (k : ℤ) → IsAmong k (pos 0 ∷ []) → at_fibre (pos 1) k ≡ 1
zero_is_taken k (inl e) = let P : ℤ → Type 0 = λ x. at_fibre (pos 1) x ≡ 1 in subst P (sym e) refl
zero_is_taken k (inr m) = absurd m

one_fibre : IsListOf (λ k. at_fibre (pos 1) k ≡ 1) (pos 0 ∷ [])
one_fibre = record { ascending = (tt, tt); each = zero_is_taken; all = λ k e. inl (only_zero k e) }

-- X is 200, which is negative in eight bits
abbrev folding : Scene
folding = record { variables = signature two_points ∷ []; words = words; width = 8 }

least_of_one : HasValue folding (reduction op.Min onto_first read below) (pos 1 ∷ []) 200
least_of_one = record { fibre = pos 0 ∷ []; words = 200 ∷ []; is_fibre = one_fibre; paired = (record { declared = refl; has = refl }, tt); is = refl }

-- an empty fibre gives the identity: the greatest signed word
least_of_none : HasValue folding (reduction op.Min onto_first read below) (pos 0 ∷ []) 127
least_of_none = record { fibre = []; words = []; is_fibre = no_fibre; paired = tt; is = refl }

counted_empty : count folding.variables (reduction op.Min onto_first read below) (pos 0 ∷ []) ≡ 1
counted_empty = refl

-- ---- picks: P[i-1] where i>=1, and else 7

abbrev partial : Variable
partial = variable (codes "Y#1") kind.Partial line []

abbrev holder : Tree
holder = pick 0 (record { set = set 1 (form (pos 1) (pos 0) (negsuc 0) ∷ []); map = mapping 1 (form (pos 1) (pos 0) (negsuc 0) ∷ []) } ∷ []) 7

abbrev reading : Scene
reading = record { variables = signature partial ∷ []; words = words; width = 8 }

picked_before : HasValue reading holder (pos 0 ∷ []) 7
picked_before = refl

picked_one : HasValue reading holder (pos 2 ∷ []) 200
picked_one = record { declared = refl; has = refl }

counted_pick : count reading.variables holder (pos 0 ∷ []) ≡ 1
counted_pick = refl

-- a partial variable has words, and they are not shown
not_shown : is_declared is_shown (signature partial ∷ []) (codes "Y#1") (pos 1 ∷ []) ≡ false
not_shown = refl

-- ---- a point without a word: Y has the points 1 and 2, and a piece at 1 alone

abbrev holey : FlatSystem
holey = record { width = 8; variables = variable (codes "Y") kind.Output line (piece (set 1 (form (negsuc 0) (pos 0) (pos 1) ∷ [])) (constant 0) ∷ []) ∷ [] }

nothing_shown : (x : Assignment) (name : Text) (z : Point) (w : ℕ) → Shows holey x name z w → ⊥
nothing_shown x name z w h =
    let P : Variable → Type 0 = λ v. IsTrue (is_computed v.kind) → (y : Point) → IsTrue (has v.domain y) → Satisfies holey h.solution v y in
    let at_each = (recursion_from_All P holey.variables h.solves.equations).0 refl (pos 2 ∷ []) refl in
    let e : ◌≡◌ {A = ℕ} 0 1 = at_each.2.0 in cc
