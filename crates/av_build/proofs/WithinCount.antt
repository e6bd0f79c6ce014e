-- What the counter tells apart: a system without a fault has so few cycles that the counter of cycles tells them all apart.
use Rattle.std.proofs.Common.{◌≡◌, ◌≤◌, List, inl, inr, sym, subst, arith}
use Rattle.std.proofs.lemmas.Bool.{cases_lt}
use Rattle.av_flat.specs.declared.timed.Timed.{Timed}
use Rattle.av_flat.specs.Legal.{IsLegal}
use Rattle.av_flat.specs.Trees.{view_system}
use Rattle.av_space.specs.declared.array.Array.{Array}
use Rattle.av_space.specs.declared.cells.Cell.{Cell}
use Rattle.av_space.specs.declared.cells.Cells.{Cells}
use Rattle.av_space.specs.declared.fault.SpaceFault.{SpaceFault}
use Rattle.av_space.specs.declared.fault.SpaceFault.TheVariants as fault
use Rattle.av_space.specs.Coordinates.{Placing}
use Rattle.av_space.specs.Occupancy.{Computes}
use Rattle.av_space.specs.SpaceFaults.{IsSpaceFault}
use Rattle.av_space.specs.Spots.{system_of, placings_of, IsArray}
use Rattle.av_space.specs.Whole.{IsWhole}
use Rattle.av_space.proofs.OnePlacing.{one_placings}
use Rattle.av_kinds.specs.declared.counter.Counter.{Counter}
use Rattle.av_kinds.specs.declared.counter.Counter.TheVariants.{Cycles}
use Rattle.av_kinds.specs.Counters.{IsCounter}
use Rattle.av_build.specs.ArrayPlans.{IsWithinCount}
use Rattle.av_build.specs.inner.Blueprints.{IsCounted}
use Rattle.av_build.proofs.Connected.{few_cycles}

-- a system without a fault has no more than 4,096 cycles
pub few_cycles_of : (t : Timed) (a : Cells) → IsWhole t a → ((f : SpaceFault) → IsSpaceFault t f → f ≡ fault.Memory) → a.cycles ≤ 4096
few_cycles_of t a whole within = elim (cases_lt 4096 a.cycles) [
  | inl l ↦ absurd (let e = within (fault.Cycles a.cycles) (whole.list.cycles, l) in cc)
  | inr ge ↦ ge
]

pub cycles_apart : (t : Timed) (a : Cells) → IsLegal t → IsWhole t a → ((f : SpaceFault) → IsSpaceFault t f → f ≡ fault.Memory) → IsWithinCount t a Cycles
cycles_apart t a legal whole within = λ placings are p c d m n y z h k.
    let same = one_placings t.times placings whole.list.placings are whole.list.are_placings in
    let there = subst (λ (l : List Placing). Computes (view_system t.flat) l a.cells p d n z) same k in
    let low = few_cycles t a legal whole.list (few_cycles_of t a whole within) p d n z there in
    omega (arith, low)

-- the computations on the cells of the array are as near as the counter asks
pub counted_by : (w : Array) → IsArray w → (t : Timed) (a : Cells) → w.timed.now ≡ t → w.cells.now ≡ a → (counter : Counter) → IsCounter counter → IsWithinCount t a counter → IsCounted w counter
counted_by w is t a e f counter counts apart = record {
  counts = counts;
  within = λ p c d m n y z h k.
      let own : IsWithinCount w.timed.now w.cells.now counter = subst (λ (u : Timed). IsWithinCount u w.cells.now counter) (sym e) (subst (λ (x : Cells). IsWithinCount t x counter) (sym f) apart) in
      own (placings_of w) is.layout.are_placings p c d m n y z
      (subst (λ (cells : List Cell). Computes (system_of w) (placings_of w) cells p c m y) (sym is.same_cells) h) (subst (λ (cells : List Cell). Computes (system_of w) (placings_of w) cells p d n z) (sym is.same_cells) k);
}
