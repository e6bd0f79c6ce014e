-- The data sets, the array and the period of an input are unique.
use Rattle.std.proofs.Common.{◌≡◌, ℕ, zero, suc, ◌+◌, ◌≤◌, List, [], ◌∷◌, length, Some, refl, sym, ap, subst, ◌∙◌, arith, inl, inr}
use Rattle.std.specs.Prelude.{◌⊎◌, slice_get}
use Rattle.std.proofs.lemmas.Option.{slice_get_within}
use Rattle.av_base.proofs.Lists.{some_is}
use Rattle.av_flat.specs.declared.timed.Time.{Time}
use Rattle.av_flat.specs.declared.timed.Timed.{Timed}
use Rattle.av_flat.specs.Trees.{FlatSystem, view_system}
use Rattle.av_names.specs.declared.size.Size.{Size}
use Rattle.av_sched.specs.First.{IsFirstSchedule}
use Rattle.av_sched.proofs.OneSchedule.{one_schedule}
use Rattle.av_space.specs.declared.cells.Cell.{Cell}
use Rattle.av_space.specs.declared.cells.Cells.{Cells}
use Rattle.av_space.specs.Coordinates.{Placing, ArePlacings}
use Rattle.av_space.specs.Occupancy.{AreCells}
use Rattle.av_space.specs.Quantities.{IsCycleCount}
use Rattle.av_space.proofs.OneArray.{one_cells}
use Rattle.av_space.proofs.OnePlacing.{one_placings}
use Rattle.av_data.specs.declared.sets.DataSet.{DataSet}
use Rattle.av_data.specs.Divisions.{lines_before, IsDivided, HasNoMark}
use Rattle.av_data.specs.Sets.{AreSets, last, more}
use Rattle.av_compile.specs.Mapped.{IsMapped}
use Rattle.av_compile.proofs.OneChain.{one_chained}
use Rattle.av_stream.specs.Periods.{IsSpan, IsPeriod, HasPeriod}

-- ---- data sets

-- as many sets, with the same bytes and first lines
pub record AreSame (xs ys : List DataSet) : Type 0 where
  pub many : length xs ≡ length ys
  pub each : (k : ℕ) (x y : DataSet) → slice_get xs k ≡ Some x → slice_get ys k ≡ Some y → (x.bytes.now ≡ y.bytes.now) × (x.first_line ≡ y.first_line)

-- the parts of an input whose first line has a mark behind it, or none
record EndsHere (bytes : List ℕ) (first : ℕ) (sets : List DataSet) : Type 0 where
  set : DataSet
  are : sets ≡ set ∷ []
  none : HasNoMark bytes
  bytes_are : set.bytes.now ≡ bytes
  at : set.first_line ≡ first

record GoesOn (bytes : List ℕ) (first : ℕ) (sets : List DataSet) : Type 0 where
  set : DataSet
  later : List DataSet
  are : sets ≡ set ∷ later
  rest : List ℕ
  behind : ℕ
  divided : IsDivided bytes set.bytes.now rest behind
  at : set.first_line ≡ first
  are_later : AreSets rest (first + lines_before bytes + 1) later

parts_of : (bytes : List ℕ) (first : ℕ) (sets : List DataSet) → AreSets bytes first sets → EndsHere bytes first sets ⊎ GoesOn bytes first sets
parts_of bytes first sets (last {set = set} none bytes_are at) = inl (record { set = set; are = refl; none = none; bytes_are = bytes_are; at = at })
parts_of bytes first sets (more {rest = rest} {behind = behind} {set = set} {sets = later} divided at are) = inr (record { set = set; later = later; are = refl; rest = rest; behind = behind; divided = divided; at = at; are_later = are })

one_more : (x y : DataSet) (xs ys : List DataSet) → x.bytes.now ≡ y.bytes.now → x.first_line ≡ y.first_line → AreSame xs ys → AreSame (x ∷ xs) (y ∷ ys)
one_more x y xs ys bytes at same = record { many = ap suc same.many; each = each }
  where
    each : (k : ℕ) (u w : DataSet) → slice_get (x ∷ xs) k ≡ Some u → slice_get (y ∷ ys) k ≡ Some w → (u.bytes.now ≡ w.bytes.now) × (u.first_line ≡ w.first_line)
    each zero u w eu ew =
        let f = some_is x u eu in
        let g = some_is y w ew in
        (sym (ap (λ (d : DataSet). d.bytes.now) f) ∙ bytes ∙ ap (λ (d : DataSet). d.bytes.now) g, sym (ap (λ (d : DataSet). d.first_line) f) ∙ at ∙ ap (λ (d : DataSet). d.first_line) g)
    each (suc k) u w eu ew = same.each k u w eu ew

pub same_sets : (bytes : List ℕ) (first : ℕ) (xs ys : List DataSet) → AreSets bytes first xs → AreSets bytes first ys → AreSame xs ys
same_sets bytes first xs ys (last {set = set} none bytes_are at) other = elim (parts_of bytes first ys other) [
  | inl e ↦ subst (AreSame (set ∷ [])) (sym e.are) (one_more set e.set [] [] (bytes_are ∙ sym e.bytes_are) (at ∙ sym e.at) (record { many = refl; each = λ k x y h. absurd cc }))
  | inr g ↦ absurd (let marked = g.divided.marked in omega (arith, none, marked))
]
same_sets bytes first xs ys (more {rest = rest} {set = set} {sets = later} divided at are) other = elim (parts_of bytes first ys other) [
  | inl e ↦ absurd (let marked = divided.marked in let none = e.none in omega (arith, none, marked))
  | inr g ↦
      let same : g.rest ≡ rest = g.divided.rest_is ∙ sym divided.rest_is in
      let own = subst (λ (r : List ℕ). AreSets r (first + lines_before bytes + 1) g.later) same g.are_later in
      subst (AreSame (set ∷ later)) (sym g.are) (one_more set g.set later g.later (divided.text_is ∙ sym g.divided.text_is) (at ∙ sym g.at) (same_sets rest (first + lines_before bytes + 1) later g.later are own))
]

-- ---- arrays

-- what two arrays of one text share
pub record IsSameArray (t u : Timed) (a b : Cells) : Type 0 where
  pub system : view_system t.flat ≡ view_system u.flat
  pub times : t.times ≡ u.times
  pub cells : a.cells ≡ b.cells
  pub cycles : a.cycles ≡ b.cycles

pub same_array : (bytes : List ℕ) (words : List Size) (width c : ℕ) (t u : Timed) (a b : Cells) → IsMapped bytes words width c t a → IsMapped bytes words width c u b → IsSameArray t u a b
same_array bytes words width c t u a b h k =
    let system = one_chained bytes words width (view_system t.flat) (view_system u.flat) h.pipelined.serialises k.pipelined.serialises in
    let times = one_schedule (view_system u.flat) c t.times u.times (subst (λ (s : FlatSystem). IsFirstSchedule s c t.times) system h.pipelined.first) k.pipelined.first in
    let placings = one_placings u.times h.whole.list.placings k.whole.list.placings (subst (λ (ts : List Time). ArePlacings ts h.whole.list.placings) times h.whole.list.are_placings) k.whole.list.are_placings in
    let own = subst (λ (s : FlatSystem). AreCells s h.whole.list.placings a.cells) system h.whole.list.cells in
    let cells = one_cells (view_system u.flat) k.whole.list.placings a.cells b.cells (subst (λ (ps : List Placing). AreCells (view_system u.flat) ps a.cells) placings own) k.whole.list.cells in
    let count = subst (λ (ts : List Time). IsCycleCount (view_system u.flat) ts a.cycles) times (subst (λ (s : FlatSystem). IsCycleCount s t.times a.cycles) system h.whole.list.cycles) in
    let other = k.whole.list.cycles in
    let low = count.least b.cycles other.above in
    let high = other.least a.cycles count.above in
    record { system = system; times = times; cells = cells; cycles = omega (arith, low, high) }

-- ---- periods

no_more : (s : FlatSystem) (times : List Placing) (cells : List Cell) (p q : ℕ) → IsPeriod s times cells p → IsPeriod s times cells q → p ≤ q
no_more s times cells p q h k = by h.taken k.taken
  where
    by : IsSpan s times cells p ⊎ ((length cells ≡ 0) × (p ≡ 1)) → IsSpan s times cells q ⊎ ((length cells ≡ 0) × (q ≡ 1)) → p ≤ q
    by (inl span) other =
        let near = k.enough span.cell span.first span.last span.first_node span.last_node span.first_point span.last_point span.begins span.ends in
        omega (arith, near, span.many)
    by (inr none) (inr other) = omega (arith, none.1, other.1)
    by (inr none) (inl span) = absurd (let w = slice_get_within cells span.cell span.begins.cell span.begins.is_cell in omega (arith, w, none.0))

pub same_period : (t u : Timed) (a b : Cells) (p q : ℕ) → view_system t.flat ≡ view_system u.flat → t.times ≡ u.times → a.cells ≡ b.cells → HasPeriod t a p → HasPeriod u b q → p ≡ q
same_period t u a b p q system times cells h k =
    let placings = one_placings u.times h.placings k.placings (subst (λ (ts : List Time). ArePlacings ts h.placings) times h.are_placings) k.are_placings in
    let own : IsPeriod (view_system u.flat) k.placings b.cells p =
    subst (λ (cs : List Cell). IsPeriod (view_system u.flat) k.placings cs p) cells (subst (λ (ps : List Placing). IsPeriod (view_system u.flat) ps a.cells p) placings (subst (λ (s : FlatSystem). IsPeriod s h.placings a.cells p) system h.is_period)) in
    let low = no_more (view_system u.flat) k.placings b.cells p q own k.is_period in
    let high = no_more (view_system u.flat) k.placings b.cells q p k.is_period own in
    omega (arith, low, high)
