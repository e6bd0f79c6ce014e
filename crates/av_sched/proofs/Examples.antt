-- The definitions at small systems: a matrix times a vector of size 4, a skewed square, a circle, ten outputs.
use Rattle.std.proofs.Common.{◌≡◌, ℕ, zero, suc, ℤ, pos, negsuc, false, List, [], ◌∷◌, ◌++◌, ◌<◌, ◌*ℤ◌, length, Some, None, inl, inr, refl, arith}
use Rattle.std.specs.Prelude.{codes, slice_index_or, Contains}
use Rattle.av_affine.specs.Numbers.{dot}
use Rattle.std.proofs.lemmas.Int.{ints}
use Rattle.av_affine.specs.declared.form.Form.{Form}
use Rattle.av_affine.specs.declared.map.Map.{Map}
use Rattle.av_poly.specs.Points.{Set}
use Rattle.av_tree.specs.declared.sign.Sign.TheVariants as sign
use Rattle.av_tree.specs.Points.{Point}
use Rattle.av_tree.specs.Trees.{Text}
use Rattle.av_flat.specs.declared.flat.Kind.{Kind}
use Rattle.av_flat.specs.declared.flat.Kind.TheVariants as kind
use Rattle.av_flat.specs.Trees.{Tree, Piece, Variable, FlatSystem, reference, constant, binary}
use Rattle.av_flat.specs.Nodes.{nodes, number_at}
use Rattle.av_flat.specs.Reads.{IsPair}
use Rattle.av_flat.specs.Broadcasts.{directions, along, is_broadcast, first_moving}
use Rattle.av_depend.specs.Sites.{sites}
use Rattle.av_sched.specs.Offsets.{part}
use Rattle.av_sched.specs.Choices.{AreLinearParts, IsFeasible, candidates}
use Rattle.av_sched.specs.Order.{entry_rank, cost, IsLess}

abbrev form : ℤ → ℤ → ℤ → Form
form a b c = record { coef = a ∷ b ∷ pos 0 ∷ pos 0 ∷ []; constant = c }

abbrev i : Form
i = form (pos 1) (pos 0) (pos 0)

abbrev j : Form
j = form (pos 0) (pos 1) (pos 0)

abbrev set : ℕ → List Form → Set
set dim rows = record { dim = dim; rows = rows }

abbrev map_of : ℕ → List Form → Map
map_of from rows = record { from = from; rows = rows }

abbrev variable : Text → Kind → Set → List Piece → Variable
variable name k domain pieces = record { name = name; kind = k; width = 32; domain = domain; pieces = pieces }

abbrev piece : Set → Tree → Piece
piece domain tree = record { domain = domain; tree = tree }

-- ---- the order of entries: 0, 1, -1, 2, -2, .. 4, -4

ranks : Rattle.std.specs.Prelude.map entry_rank (pos 0 ∷ pos 1 ∷ negsuc 0 ∷ pos 2 ∷ negsuc 1 ∷ pos 3 ∷ negsuc 2 ∷ pos 4 ∷ negsuc 3 ∷ []) ≡ 0 ∷ 1 ∷ 2 ∷ 3 ∷ 4 ∷ 5 ∷ 6 ∷ 7 ∷ 8 ∷ []
ranks = refl

directions_of_one : directions 1 ≡ (pos 1 ∷ []) ∷ (negsuc 0 ∷ []) ∷ []
directions_of_one = refl

directions_of_two : directions 2 ≡ (pos 0 ∷ pos 1 ∷ []) ∷ (pos 0 ∷ negsuc 0 ∷ []) ∷ (pos 1 ∷ pos 0 ∷ []) ∷ (pos 1 ∷ pos 1 ∷ []) ∷ (pos 1 ∷ negsuc 0 ∷ []) ∷ (negsuc 0 ∷ pos 0 ∷ []) ∷ (negsuc 0 ∷ pos 1 ∷ []) ∷ (negsuc 0 ∷ negsuc 0 ∷ []) ∷ []
directions_of_two = refl

-- ---- C[i] = s[i,4] over 1..4, s[i,j] = 0 at j = 0 and s[i,j-1] + M[i,j]*V[j] over 1..4 and 1..4

abbrev in_rows : List Form
in_rows = form (pos 1) (pos 0) (negsuc 0) ∷ form (negsuc 0) (pos 0) (pos 4) ∷ []

abbrev line : Set
line = set 1 in_rows

abbrev sums : Set
sums = set 2 (in_rows ++ j ∷ form (pos 0) (negsuc 0) (pos 4) ∷ [])

abbrev at_first : Set
at_first = set 2 (in_rows ++ j ∷ form (pos 0) (negsuc 0) (pos 0) ∷ [])

abbrev after_first : Set
after_first = set 2 (in_rows ++ form (pos 0) (pos 1) (negsuc 0) ∷ form (pos 0) (negsuc 0) (pos 4) ∷ [])

abbrev back : Map
back = map_of 2 (i ∷ form (pos 0) (pos 1) (negsuc 0) ∷ [])

abbrev onto_second : Map
onto_second = map_of 2 (j ∷ [])

abbrev at_last : Map
at_last = map_of 1 (i ∷ form (pos 0) (pos 0) (pos 4) ∷ [])

abbrev step : Tree
step = binary sign.Add (reference 3 back) (binary sign.Mul (reference 0 (map_of 2 (i ∷ j ∷ []))) (reference 1 onto_second))

abbrev c : Variable
c = variable (codes "C") kind.Output line (piece line (reference 3 at_last) ∷ [])

abbrev s : Variable
s = variable (codes "s") kind.Local sums (piece at_first (constant 0) ∷ piece after_first step ∷ [])

abbrev product : FlatSystem
product = record { width = 32; variables = variable (codes "M") kind.Input after_first [] ∷ variable (codes "V") kind.Input line [] ∷ c ∷ s ∷ [] }

two_nodes : nodes product ≡ c ∷ s ∷ []
two_nodes = refl

s_is_second : number_at product 3 ≡ 1
s_is_second = refl

four_sites : sites product ≡
    record { node = 0; place = 3; map = at_last; set = line }
    ∷ record { node = 1; place = 3; map = back; set = after_first }
    ∷ record { node = 1; place = 0; map = map_of 2 (i ∷ j ∷ []); set = after_first }
    ∷ record { node = 1; place = 1; map = onto_second; set = after_first } ∷ []
four_sites = refl

-- s (2,3) reads s (2,2)
pair : IsPair product 1 (pos 2 ∷ pos 3 ∷ []) 1 (pos 2 ∷ pos 2 ∷ [])
pair = record {
  reader = s;
  is_reader = refl;
  place = 3;
  reads = record { piece = piece after_first step; among = (1, omega arith, refl); within = refl; read = inl (refl, refl) };
  producer = s;
  is_producer = refl;
  computed = refl;
  number = refl;
}

-- V is broadcast along the first index, and a linear part moves it where that entry is not 0
spread : along onto_second ≡ (pos 1 ∷ pos 0 ∷ []) ∷ (negsuc 0 ∷ pos 0 ∷ []) ∷ []
spread = refl

not_spread : is_broadcast back ≡ false
not_spread = refl

moved : first_moving (pos 1 ∷ pos 1 ∷ []) onto_second ≡ Some (pos 1 ∷ pos 0 ∷ [])
moved = refl

moved_back : first_moving (negsuc 0 ∷ pos 1 ∷ []) onto_second ≡ Some (negsuc 0 ∷ pos 0 ∷ [])
moved_back = refl

still : first_moving (pos 0 ∷ pos 1 ∷ []) onto_second ≡ None
still = refl

abbrev parts : Point → List Point
parts v = (pos 1 ∷ []) ∷ v ∷ []

-- the chosen part, the least sum with V still, and the same sum with the other sign
chosen_cost : cost product (1 ∷ []) (parts (pos 1 ∷ pos 1 ∷ [])) ≡ 0 ∷ 2 ∷ 1 ∷ 1 ∷ []
chosen_cost = refl

still_cost : cost product (1 ∷ []) (parts (pos 0 ∷ pos 1 ∷ [])) ≡ 1 ∷ 1 ∷ 0 ∷ 1 ∷ []
still_cost = refl

chosen_before_still : IsLess (cost product (1 ∷ []) (parts (pos 1 ∷ pos 1 ∷ []))) (cost product (1 ∷ []) (parts (pos 0 ∷ pos 1 ∷ [])))
chosen_before_still = inl (omega arith)

chosen_before_other_sign : IsLess (cost product (1 ∷ []) (parts (pos 1 ∷ pos 1 ∷ []))) (cost product (1 ∷ []) (parts (negsuc 0 ∷ pos 1 ∷ [])))
chosen_before_other_sign = inr (refl, inr (refl, inl (omega arith)))

-- ---- Y[i,j] = A[i,j] on a skewed square: (0,1) comes before (0,-1), (1,0) and all longer ones

abbrev skewed : Set
skewed = set 2 (form (pos 1) (pos 1) (pos 0) ∷ form (negsuc 0) (negsuc 0) (pos 4) ∷ form (pos 1) (negsuc 0) (pos 0) ∷ form (negsuc 0) (pos 1) (pos 4) ∷ [])

abbrev copied : FlatSystem
copied = record { width = 32; variables = variable (codes "A") kind.Input skewed [] ∷ variable (codes "Y") kind.Output skewed (piece skewed (reference 0 (map_of 2 (i ∷ j ∷ []))) ∷ []) ∷ [] }

second_up : cost copied (0 ∷ []) ((pos 0 ∷ pos 1 ∷ []) ∷ []) ≡ 0 ∷ 1 ∷ 0 ∷ 1 ∷ []
second_up = refl

second_down : cost copied (0 ∷ []) ((pos 0 ∷ negsuc 0 ∷ []) ∷ []) ≡ 0 ∷ 1 ∷ 0 ∷ 2 ∷ []
second_down = refl

first_up : cost copied (0 ∷ []) ((pos 1 ∷ pos 0 ∷ []) ∷ []) ≡ 0 ∷ 1 ∷ 1 ∷ 0 ∷ []
first_up = refl

-- ---- X[i] = Y[i] and Y[i] = X[i]: no choice is feasible

abbrev three : Set
three = set 1 (i ∷ form (negsuc 0) (pos 0) (pos 2) ∷ [])

abbrev alike : Map
alike = map_of 1 (i ∷ [])

abbrev circle : FlatSystem
circle = record { width = 32; variables = variable (codes "X") kind.Output three (piece three (reference 1 alike) ∷ []) ∷ variable (codes "Y") kind.Local three (piece three (reference 0 alike) ∷ []) ∷ [] }

x_reads_y : IsPair circle 0 (pos 0 ∷ []) 1 (pos 0 ∷ [])
x_reads_y = record { reader = _; is_reader = refl; place = 1; reads = record { piece = piece three (reference 1 alike); among = (0, omega arith, refl); within = refl; read = (refl, refl) }; producer = _; is_producer = refl; computed = refl; number = refl }

y_reads_x : IsPair circle 1 (pos 0 ∷ []) 0 (pos 0 ∷ [])
y_reads_x = record { reader = _; is_reader = refl; place = 0; reads = record { piece = piece three (reference 0 alike); among = (0, omega arith, refl); within = refl; read = (refl, refl) }; producer = _; is_producer = refl; computed = refl; number = refl }

-- ---- ten outputs of one index

abbrev ten : FlatSystem
ten = record { width = 32; variables = Rattle.std.specs.Prelude.map (λ n. variable (n ∷ []) kind.Output three (piece three (reference 0 alike) ∷ [])) (0 ∷ 1 ∷ 2 ∷ 3 ∷ 4 ∷ 5 ∷ 6 ∷ 7 ∷ 8 ∷ 9 ∷ []) }

many : candidates ten 2 (0 ∷ 1 ∷ 2 ∷ 3 ∷ 4 ∷ 5 ∷ 6 ∷ 7 ∷ 8 ∷ 9 ∷ []) ≡ 9765625
many = refl

fewer : candidates ten 1 (0 ∷ 1 ∷ 2 ∷ 3 ∷ 4 ∷ 5 ∷ 6 ∷ 7 ∷ 8 ∷ 9 ∷ []) ≡ 59049
fewer = refl

-- ---- the circle has no schedule in any box

zero_times : (p : Point) → dot p (pos 0 ∷ []) ≡ pos 0
zero_times [] = refl
zero_times (x ∷ []) = omega (arith, ints)
zero_times (x ∷ y ∷ p) = omega (arith, ints)

among_two : (n : ℕ) → n < 2 → Contains (0 ∷ 1 ∷ []) n
among_two zero h = (0, omega arith, refl)
among_two (suc zero) h = (1, omega arith, refl)
among_two (suc (suc n)) h = absurd (omega (arith, h))

no_feasible : (linear : List Point) → IsFeasible circle (0 ∷ 1 ∷ []) linear → ⊥
no_feasible linear (off, late) =
    let a = late 0 (pos 0 ∷ []) 1 (pos 0 ∷ []) x_reads_y (among_two 0 (omega arith)) (among_two 1 (omega arith)) in
    let b = late 1 (pos 0 ∷ []) 0 (pos 0 ∷ []) y_reads_x (among_two 1 (omega arith)) (among_two 0 (omega arith)) in
    let p = zero_times (part linear 0) in
    let q = zero_times (part linear 1) in
    omega (arith, ints, a, b, p, q)

-- ---- X[i] = X[i+2] at 0, X[i-1] at 2 and A[i] at 1: a linear part would have to be both above and below 0, so there is no schedule,
-- though the reads end

abbrev at_zero : Set
at_zero = set 1 (i ∷ form (negsuc 0) (pos 0) (pos 0) ∷ [])

abbrev at_two : Set
at_two = set 1 (form (pos 1) (pos 0) (negsuc 1) ∷ form (negsuc 0) (pos 0) (pos 2) ∷ [])

abbrev at_one : Set
at_one = set 1 (form (pos 1) (pos 0) (negsuc 0) ∷ form (negsuc 0) (pos 0) (pos 1) ∷ [])

abbrev ahead : Map
ahead = map_of 1 (form (pos 1) (pos 0) (pos 2) ∷ [])

abbrev behind : Map
behind = map_of 1 (form (pos 1) (pos 0) (negsuc 0) ∷ [])

abbrev crossed : FlatSystem
crossed = record {
  width = 32;
  variables = variable (codes "A") kind.Input three [] ∷ variable (codes "X") kind.Output three (piece at_zero (reference 1 ahead) ∷ piece at_two (reference 1 behind) ∷ piece at_one (reference 0 alike) ∷ []) ∷ [];
}

zero_reads_two : IsPair crossed 0 (pos 0 ∷ []) 0 (pos 2 ∷ [])
zero_reads_two = record { reader = _; is_reader = refl; place = 1; reads = record { piece = piece at_zero (reference 1 ahead); among = (0, omega arith, refl); within = refl; read = (refl, refl) }; producer = _; is_producer = refl; computed = refl; number = refl }

two_reads_one : IsPair crossed 0 (pos 2 ∷ []) 0 (pos 1 ∷ [])
two_reads_one = record { reader = _; is_reader = refl; place = 1; reads = record { piece = piece at_two (reference 1 behind); among = (1, omega arith, refl); within = refl; read = (refl, refl) }; producer = _; is_producer = refl; computed = refl; number = refl }

one_entry : (p : Point) (k : ℤ) → length p ≡ 1 → dot p (k ∷ []) ≡ slice_index_or p 0 (pos 0) *ℤ k
one_entry [] k h = absurd (omega (arith, h))
one_entry (x ∷ []) k h = omega (arith, ints)
one_entry (x ∷ y ∷ p) k h = absurd (omega (arith, h))

never : (c : ℕ) (linear : List Point) → AreLinearParts crossed c linear → IsFeasible crossed (0 ∷ []) linear → ⊥
never c linear are (off, late) =
    let size : length (part linear 0) ≡ 1 = (are.each 0 _ refl).size in
    let in_it : Contains (0 ∷ []) 0 = (0, omega arith, refl) in
    let a = late 0 (pos 0 ∷ []) 0 (pos 2 ∷ []) zero_reads_two in_it in_it in
    let b = late 0 (pos 2 ∷ []) 0 (pos 1 ∷ []) two_reads_one in_it in_it in
    let p = one_entry (part linear 0) (pos 0) size in
    let q = one_entry (part linear 0) (pos 1) size in
    let r = one_entry (part linear 0) (pos 2) size in
    omega (arith, ints, a, b, p, q, r)
