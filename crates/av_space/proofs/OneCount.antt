-- The number of operators of an array is unique.
use Rattle.std.proofs.Common.{◌≡◌, ◌≢◌, ℕ, zero, suc, ◌+◌, ◌<◌, List, [], ◌∷◌, length, map, sum, ⊎_elim, refl, sym, ap, subst, ◌∙◌, arith, Option, Some, None}
use Rattle.std.specs.Prelude.{Contains, AllPairs, slice_get}
use Rattle.std.proofs.lemmas.List.Sums.{sum_by-cons}
use Rattle.av_flat.specs.Trees.{Piece, Variable, FlatSystem}
use Rattle.av_flat.specs.Nodes.{nodes}
use Rattle.av_space.specs.declared.cells.Cell.{Cell}
use Rattle.av_space.specs.Coordinates.{Placing}
use Rattle.av_space.specs.Taps.{node_of}
use Rattle.av_space.specs.Quantities.{Use, IsUse, IsOperatorCount, size}
use Rattle.av_space.proofs.Elements.{in_range}
use Rattle.av_base.proofs.Among.{among_at, among_cases, first_among, more_among, none_among}
use Rattle.av_base.proofs.Lists.{pairs_first, pairs_rest, place_in}

-- ---- totals of lists with the same elements, each once

sum_cons : (x : ℕ) (xs : List ℕ) → sum (x ∷ xs) ≡ x + sum xs
sum_cons x xs = sum_by-cons (λ n. n) x xs

abbrev AreApart : {X : Type 0} → List X → Type 0
AreApart [] = Unit {0}
AreApart (x ∷ xs) = (Contains xs x → ⊥) × AreApart xs

apart_from : {X : Type 0} (xs : List X) → AllPairs (λ a b. a ≢ b) xs → AreApart xs
apart_from [] h = tt
apart_from (x ∷ xs) h = (λ c. pairs_first (λ a b. a ≢ b) x x xs h c refl, apart_from xs (pairs_rest (λ a b. a ≢ b) x xs h))

-- without the one at a place
abbrev without : {X : Type 0} → List X → ℕ → List X
without [] k = []
without (y ∷ ys) zero = ys
without (y ∷ ys) (suc k) = y ∷ without ys k

among_without : {X : Type 0} (ys : List X) (k : ℕ) (z : X) → Contains (without ys k) z → Contains ys z
among_without [] k z c = c
among_without (y ∷ ys) zero z c = more_among y z ys c
among_without (y ∷ ys) (suc k) z c = ⊎_elim (λ e. subst (Contains (y ∷ ys)) e (first_among y ys)) (λ d. more_among y z ys (among_without ys k z d)) (among_cases y z (without ys k) c)

still_among : {X : Type 0} (ys : List X) (k : ℕ) (x z : X) → slice_get ys k ≡ Some x → z ≢ x → Contains ys z → Contains (without ys k) z
still_among [] k x z is other c = c
still_among (y ∷ ys) zero x z is other c = ⊎_elim (λ e. let f : y ≡ x = cc in absurd (other (sym e ∙ f))) (λ d. d) (among_cases y z ys c)
still_among (y ∷ ys) (suc k) x z is other c = ⊎_elim (λ e. subst (Contains (y ∷ without ys k)) e (first_among y (without ys k))) (λ d. more_among y z (without ys k) (still_among ys k x z is other d)) (among_cases y z ys c)

other_among : {X : Type 0} (ys : List X) (k : ℕ) (x z : X) → AreApart ys → slice_get ys k ≡ Some x → Contains (without ys k) z → z ≢ x
other_among [] k x z apart is c = absurd cc
other_among (y ∷ ys) zero x z apart is c = λ e. let f : y ≡ x = cc in apart.0 (subst (Contains ys) (e ∙ sym f) c)
other_among (y ∷ ys) (suc k) x z apart is c = ⊎_elim
    (λ e f. apart.0 (subst (Contains ys) (sym (e ∙ f)) (among_at ys k x is)))
    (λ d. other_among ys k x z apart.1 is d)
    (among_cases y z (without ys k) c)

apart_without : {X : Type 0} (ys : List X) (k : ℕ) → AreApart ys → AreApart (without ys k)
apart_without [] k h = tt
apart_without (y ∷ ys) zero h = h.1
apart_without (y ∷ ys) (suc k) h = (λ c. h.0 (among_without ys k y c), apart_without ys k h.1)

total_without : {X : Type 0} (f : X → ℕ) (ys : List X) (k : ℕ) (x : X) → slice_get ys k ≡ Some x → sum (map f ys) ≡ f x + sum (map f (without ys k))
total_without f [] k x is = absurd cc
total_without f (y ∷ ys) zero x is = let e : y ≡ x = cc in sum_cons (f y) (map f ys) ∙ ap (λ z. f z + sum (map f ys)) e
total_without f (y ∷ ys) (suc k) x is =
    let e : sum (map f ys) ≡ f x + sum (map f (without ys k)) = total_without f ys k x is in
    let a : sum (map f (y ∷ ys)) ≡ f y + sum (map f ys) = sum_cons (f y) (map f ys) in
    let b : sum (map f (y ∷ without ys k)) ≡ f y + sum (map f (without ys k)) = sum_cons (f y) (map f (without ys k)) in
    omega (arith, e, a, b)

pub same_totals : {X : Type 0} (f : X → ℕ) (xs ys : List X) → AreApart xs → AreApart ys → ((z : X) → Contains xs z → Contains ys z) → ((z : X) → Contains ys z → Contains xs z) → sum (map f xs) ≡ sum (map f ys)
same_totals f [] [] h g over back = refl
same_totals f [] (y ∷ ys) h g over back = absurd (none_among y (back y (first_among y ys)))
same_totals f (x ∷ xs) ys h g over back =
    let at = place_in ys x (over x (first_among x xs)) in
    let rest = same_totals f xs (without ys at.0) h.1 (apart_without ys at.0 g)
    (λ z c. still_among ys at.0 x z at.1 (λ e. h.0 (subst (Contains xs) e c)) (over z (more_among x z xs c)))
    (λ z c. ⊎_elim (λ e. absurd (other_among ys at.0 x z g at.1 c (sym e))) (λ d. d) (among_cases x z xs (back z (among_without ys at.0 z c)))) in
    sum_cons (f x) (map f xs) ∙ ap (λ n. f x + n) rest ∙ sym (total_without f ys at.0 x at.1)

-- ---- uses

abbrev variable_of : FlatSystem → Option ℕ → Option Variable
variable_of s None = None
variable_of s (Some n) = slice_get (nodes s) n

abbrev pieces_of : Option Variable → List Piece
pieces_of None = []
pieces_of (Some v) = v.pieces

abbrev size_of : Option Piece → ℕ
size_of None = 0
size_of (Some p) = size p.tree

-- the size of what is used
abbrev weight : FlatSystem → List Cell → Use → ℕ
weight s cells u = size_of (slice_get (pieces_of (variable_of s (node_of cells u.cell))) u.piece)

module _ (s : FlatSystem) (placings : List Placing) (cells : List Cell) where
  weight_is : (u : Use) (piece : Piece) → IsUse s placings cells u piece → weight s cells u ≡ size piece.tree
  weight_is u piece h =
      let c = h.computes in
      rw (c.is_cell, c.stands.node, h.is_variable, h.is_piece) refl

  weights : (uses : List Use) (pieces : List Piece) → length pieces ≡ length uses → ((k : ℕ) (u : Use) (piece : Piece) → slice_get uses k ≡ Some u → slice_get pieces k ≡ Some piece → IsUse s placings cells u piece)
      → sum (map (λ (p : Piece). size p.tree) pieces) ≡ sum (map (weight s cells) uses)
  weights [] [] paired each = refl
  weights [] (p ∷ pieces) paired each = absurd (omega (arith, paired))
  weights (u ∷ uses) [] paired each = absurd (omega (arith, paired))
  weights (u ∷ uses) (p ∷ pieces) paired each =
      let e = weights uses pieces (omega (arith, paired)) (λ k v q at is. each (suc k) v q at is) in
      let f = weight_is u p (each 0 u p refl refl) in
      let a : sum (map (λ (q : Piece). size q.tree) (p ∷ pieces)) ≡ size p.tree + sum (map (λ (q : Piece). size q.tree) pieces) = sum_cons (size p.tree) (map (λ (q : Piece). size q.tree) pieces) in
      let b : sum (map (weight s cells) (u ∷ uses)) ≡ weight s cells u + sum (map (weight s cells) uses) = sum_cons (weight s cells u) (map (weight s cells) uses) in
      omega (arith, e, f, a, b)

  pub one_operator_count : (m n : ℕ) → IsOperatorCount s placings cells m → IsOperatorCount s placings cells n → m ≡ n
  one_operator_count m n h k =
      h.total ∙ weights h.uses h.pieces h.paired h.each
      ∙ same_totals (weight s cells) h.uses k.uses (apart_from h.uses h.once) (apart_from k.uses k.once) (over m n h k) (over n m k h)
      ∙ sym (k.total ∙ weights k.uses k.pieces k.paired k.each)
    where
      over : (m n : ℕ) (h : IsOperatorCount s placings cells m) (k : IsOperatorCount s placings cells n) (u : Use) → Contains h.uses u → Contains k.uses u
      over m n h k u c =
          let at = place_in h.uses u c in
          let there = place_of h.pieces at.0 (subst (λ l. at.0 < l) (sym h.paired) (in_range h.uses at.0 u at.1)) in
          k.all u there.0 (h.each at.0 u there.0 at.1 there.1)
        where
          place_of : (ps : List Piece) (k : ℕ) → k < length ps → (p : Piece) × (slice_get ps k ≡ Some p)
          place_of [] k lt = absurd (omega (arith, lt))
          place_of (p ∷ ps) zero lt = (p, refl)
          place_of (p ∷ ps) (suc k) lt = place_of ps k (omega (arith, lt))
