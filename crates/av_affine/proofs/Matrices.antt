-- Square matrices.
use Rattle.std.proofs.Common.{◌≡◌, ℕ, ◌≤◌, ◌^◌, take, get_or, arith, pos, Bool, ◌&&◌, ◌==◌, ap, ap₂, refl}
use Rattle.std.specs.Int.RustNames.{unsigned_abs}
use Rattle.std.specs.List.{All}
use Rattle.std.proofs.lemmas.List.Elements.{All-map, All-take, All-weaker}
use Rattle.std.specs.Bool.{Decides}
use Rattle.std.specs.Ordering.{int_eq}
use Rattle.std.specs.Cmp.Lexicographic.{pointwise}
use Rattle.std.proofs.lemmas.Slice.Eq.{slice_eq-Decides}
use Rattle.std.proofs.lemmas.Bool.Decides.{Decides-eqb, Decides-int_eq, Decides-and, Decides-like}
use Rattle.av_affine.specs.declared.square.Square.{Square}
use Rattle.av_affine.specs.Numbers.{AtMost}
use Rattle.av_affine.specs.Squares.{column_of}
use Rattle.av_affine.proofs.Dots.{entry_most}

pub column_most : (m : Square) (j : ℕ) → All (AtMost 1024) m.cells → AtMost (2 ^ 20) (column_of j m)
column_most m j h =
    All-map (λ x. unsigned_abs x ≤ 2 ^ 20) (λ row. get_or row j (pos 0)) (take m.size m.cells)
    (All-take (λ row. unsigned_abs (get_or row j (pos 0)) ≤ 2 ^ 20) m.size m.cells
    (All-weaker (AtMost 1024) (λ row. unsigned_abs (get_or row j (pos 0)) ≤ 2 ^ 20) (λ row w. let most = entry_most 1024 row j w in omega (arith, most)) m.cells h))

-- what `==` computes of two matrices
abbrev pub equal_squares : Square → Square → Bool
equal_squares a b = (a.size == b.size) && pointwise (pointwise int_eq) a.cells b.cells

pub same_square : (a b : Square) → Decides (equal_squares a b) (a ≡ b)
same_square a b =
    Decides-like (equal_squares a b) (λ e. ap₂ (λ s c. record { size = s; cells = c }) e.0 e.1) (λ e. (ap (λ (m : Square). m.size) e, ap (λ (m : Square). m.cells) e))
    (Decides-and (a.size == b.size) (pointwise (pointwise int_eq) a.cells b.cells) (Decides-eqb a.size b.size)
    (slice_eq-Decides (λ x y. slice_eq-Decides Decides-int_eq x y (pointwise int_eq x y) refl) a.cells b.cells (pointwise (pointwise int_eq) a.cells b.cells) refl))
