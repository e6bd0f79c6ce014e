-- The cells, the links and the quantities of a system's array are unique.
use Rattle.std.proofs.Common.{◌≡◌, ℕ, inl, inr, List, [], ◌∷◌, arith}
use Rattle.std.proofs.lemmas.Int.{ints}
use Rattle.std.proofs.lemmas.List.Elements.{All-contains}
use Rattle.av_tree.specs.Points.{Point}
use Rattle.av_flat.specs.Trees.{FlatSystem}
use Rattle.av_flat.specs.Order.{IsBefore}
use Rattle.av_flat.specs.declared.timed.Time.{Time}
use Rattle.av_space.specs.declared.cells.Cell.{Cell}
use Rattle.av_space.specs.Coordinates.{Placing}
use Rattle.av_space.specs.Occupancy.{AreCells, IsCellBefore, IsUsed}
use Rattle.av_space.specs.Quantities.{IsCycleCount}
use Rattle.av_space.proofs.OneOrder.{one_order}

-- ---- cells

pub not_both_before : (x y : Point) → IsBefore x y → IsBefore y x → ⊥
not_both_before [] [] h k = h
not_both_before [] (y ∷ ys) h k = k
not_both_before (x ∷ xs) [] h k = h
not_both_before (x ∷ xs) (y ∷ ys) (inl a) (inl b) = absurd (omega (arith, ints, a, b))
not_both_before (x ∷ xs) (y ∷ ys) (inl a) (inr b) = absurd (let e = b.0 in omega (arith, ints, a, e))
not_both_before (x ∷ xs) (y ∷ ys) (inr a) (inl b) = absurd (let e = a.0 in omega (arith, ints, b, e))
not_both_before (x ∷ xs) (y ∷ ys) (inr a) (inr b) = not_both_before xs ys a.1 b.1

pub cells_in_turn : (a b : Cell) → IsCellBefore a b → IsCellBefore b a → ⊥
cells_in_turn a b (inl h) (inl k) = absurd (omega (arith, h, k))
cells_in_turn a b (inl h) (inr k) = absurd (let e = k.0 in omega (arith, h, e))
cells_in_turn a b (inr h) (inl k) = absurd (let e = h.0 in omega (arith, k, e))
cells_in_turn a b (inr h) (inr k) = not_both_before a.at b.at h.1 k.1

pub one_cells : (s : FlatSystem) (placings : List Placing) (a b : List Cell) → AreCells s placings a → AreCells s placings b → a ≡ b
one_cells s placings a b h k =
    one_order IsCellBefore cells_in_turn a b h.order k.order
    (λ z c. k.all z (All-contains (IsUsed s placings) a z h.each c))
    (λ z c. h.all z (All-contains (IsUsed s placings) b z k.each c))

-- ---- cycles

pub one_cycle_count : (s : FlatSystem) (times : List Time) (m n : ℕ) → IsCycleCount s times m → IsCycleCount s times n → m ≡ n
one_cycle_count s times m n h k = let a = h.least n k.above in let b = k.least m h.above in omega (arith, a, b)
