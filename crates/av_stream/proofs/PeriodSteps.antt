-- The period of the first cells of an array, cell by cell.
use Rattle.std.proofs.Common.{◌≡◌, ℕ, ◌+◌, ◌<◌, ◌≤◌, List, length, Some, refl, sym, subst, ◌∙◌, arith, inl, inr}
use Rattle.std.specs.Prelude.{slice_get, max, ◌⊎◌}
use Rattle.std.proofs.lemmas.Bool.{cases_lt}
use Rattle.std.proofs.lemmas.Option.{slice_get_within}
use Rattle.av_base.proofs.Lists.{some_is}
use Rattle.av_tree.specs.Points.{Point}
use Rattle.av_flat.specs.declared.timed.Timed.{Timed}
use Rattle.av_flat.specs.Trees.{FlatSystem, view_system}
use Rattle.av_space.specs.declared.cells.Cell.{Cell}
use Rattle.av_space.specs.declared.cells.Cells.{Cells}
use Rattle.av_space.specs.Coordinates.{Placing, ArePlacings}
use Rattle.av_space.specs.Occupancy.{Occupies, Computes}
use Rattle.av_stream.specs.Periods.{IsSpan, HasPeriod}
use Rattle.av_stream.specs.inner.Standing.{IsSpanOf, HasSpan}

-- of the first k cells
pub record IsPeriodTo (s : FlatSystem) (times : List Placing) (cells : List Cell) (k period : ℕ) : Type 0 where
  pub positive : 1 ≤ period
  pub enough : (p c d m n : ℕ) (y z : Point) → p < k → Computes s times cells p c m y → Computes s times cells p d n z → d < c + period
  pub taken : IsSpan s times cells period ⊎ ((k ≡ 0) × (period ≡ 1))

abbrev pub HasPeriodTo : Timed → List Cell → ℕ → ℕ → Type 0
HasPeriodTo t cells k period = (placings : List Placing) → ArePlacings t.times placings → IsPeriodTo (view_system t.flat) placings cells k period

pub none_yet : (t : Timed) (cells : List Cell) → HasPeriodTo t cells 0 1
none_yet t cells placings are = record { positive = omega arith; enough = λ p c d m n y z lt. absurd (omega (arith, lt)); taken = inr (refl, refl) }

module _ (s : FlatSystem) (times : List Placing) (cells : List Cell) (k : ℕ) (cell : Cell) (is : slice_get cells k ≡ Some cell) (span : ℕ) (of : IsSpanOf s times cell span) where
  -- the span of the cell among all cells
  span_of : IsSpan s times cells span
  span_of = record {
    cell = k;
    first = of.first;
    last = of.last;
    first_node = of.first_node;
    last_node = of.last_node;
    first_point = of.first_point;
    last_point = of.last_point;
    begins = record { cell = cell; is_cell = is; stands = of.begins };
    ends = record { cell = cell; is_cell = is; stands = of.ends };
    many = of.many;
  }

  on_cell : (c n : ℕ) (z : Point) → Computes s times cells k c n z → Occupies s times cell c n z
  on_cell c n z h = subst (λ (e : Cell). Occupies s times e c n z) (some_is h.cell cell (sym h.is_cell ∙ is)) h.stands

  some_cycle : 1 ≤ span
  some_cycle = let b = of.between of.first of.first_node of.first_point of.begins in omega (arith, b.1, of.many)

  near : (c d m n : ℕ) (y z : Point) → Computes s times cells k c m y → Computes s times cells k d n z → d < c + span
  near c d m n y z h g =
      let a = of.between c m y (on_cell c m y h) in
      let b = of.between d n z (on_cell d n z g) in
      omega (arith, a.0, b.1, of.many)

  pub one_more : (period next : ℕ) → next ≡ max period span → IsPeriodTo s times cells k period → IsPeriodTo s times cells (k + 1) next
  one_more period next e so_far = record {
    positive = omega (arith, so_far.positive, e);
    enough = λ p c d m n y z lt h g. elim (cases_lt p k) [
      | inl less ↦ (let w = so_far.enough p c d m n y z less h g in omega (arith, w, e))
      | inr ge ↦
          let q : p ≡ k = omega (arith, lt, ge) in
          let w = near c d m n y z (subst (λ j. Computes s times cells j c m y) q h) (subst (λ j. Computes s times cells j d n z) q g) in
          omega (arith, w, e)
    ];
    taken = by so_far.taken;
  }
    where
      by : IsSpan s times cells period ⊎ ((k ≡ 0) × (period ≡ 1)) → IsSpan s times cells next ⊎ ((k + 1 ≡ 0) × (next ≡ 1))
      by (inr none) = inl (subst (IsSpan s times cells) (let o = some_cycle in omega (arith, o, none.1, e)) span_of)
      by (inl some) = elim (cases_lt period span) [
        | inl less ↦ inl (subst (IsSpan s times cells) (omega (arith, less, e)) span_of)
        | inr ge ↦ inl (subst (IsSpan s times cells) (omega (arith, ge, e)) some)
      ]

pub next_period : (t : Timed) (cells : List Cell) (k : ℕ) (cell : Cell) → slice_get cells k ≡ Some cell → (span : ℕ) → HasSpan t cell span → (period next : ℕ) → next ≡ max period span → HasPeriodTo t cells k period
    → HasPeriodTo t cells (k + 1) next
next_period t cells k cell is span of period next e so_far placings are = one_more (view_system t.flat) placings cells k cell is span (of placings are) period next e (so_far placings are)

-- of all cells
pub whole_period : (t : Timed) (a : Cells) (placings : List Placing) → ArePlacings t.times placings → (k period : ℕ) → length a.cells ≤ k → k ≤ length a.cells → HasPeriodTo t a.cells k period → HasPeriod t a period
whole_period t a placings are k period past within so_far =
    let done = so_far placings are in
    record {
      placings = placings;
      are_placings = are;
      is_period = record {
        enough = λ p c d m n y z h g. done.enough p c d m n y z (let w = slice_get_within a.cells p h.cell h.is_cell in omega (arith, w, past)) h g;
        taken = by done.taken;
      };
    }
  where
    by : IsSpan (view_system t.flat) placings a.cells period ⊎ ((k ≡ 0) × (period ≡ 1)) → IsSpan (view_system t.flat) placings a.cells period ⊎ ((length a.cells ≡ 0) × (period ≡ 1))
    by (inl some) = inl some
    by (inr none) = inr (omega (arith, none.0, past), none.1)
