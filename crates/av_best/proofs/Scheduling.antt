-- Schedules in the box as choices with offsets, and what the best of all choices says of them.
use Rattle.std.proofs.Common.{◌≡◌, ℕ, zero, suc, ◌<◌, ◌≤◌, ℤ, pos, ◌≤ℤ◌, inl, inr, ⊎_elim, Some, List, length, refl, sym, subst, ◌∙◌, arith}
use Rattle.std.proofs.lemmas.Int.{ints}
use Rattle.std.proofs.lemmas.Bool.{cases_lt}
use Rattle.std.proofs.lemmas.List.{length-map}
use Rattle.std.proofs.lemmas.Option.{slice_get_within}
use Rattle.av_tree.specs.Points.{Point}
use Rattle.av_flat.specs.declared.timed.Time.{Time}
use Rattle.av_flat.specs.Trees.{FlatSystem}
use Rattle.av_flat.specs.Nodes.{nodes, IsComputation}
use Rattle.av_flat.specs.Chained.{IsChained}
use Rattle.av_flat.specs.Proper.{IsProper}
use Rattle.av_flat.specs.Reads.{IsPair}
use Rattle.av_flat.specs.Schedules.{IsLinearPart, IsSchedule}
use Rattle.av_depend.specs.declared.edge.Edge.{Edge}
use Rattle.av_depend.specs.Edges.{AreEdgesOf}
use Rattle.av_depend.proofs.Pairs.{covered_by}
use Rattle.av_sched.specs.Offsets.{offset, cycle_at, AreOffsets, AreLeastOffsets}
use Rattle.av_sched.specs.Choices.{AreLinearParts, HasSchedule}
use Rattle.av_sched.specs.Order.{cost, IsLess}
use Rattle.av_sched.proofs.Schedule.{part_of, cycle_is, schedule_of}
use Rattle.av_sched.proofs.Usable.{usable_edge}
use Rattle.av_sched.proofs.Inside.{vectors_of}
use Rattle.av_base.proofs.Lists.{there_is}
use Rattle.av_best.specs.declared.best.Best.{Best}
use Rattle.av_best.specs.Lengths.{linear_parts, offsets_of, HasLength, IsLength}
use Rattle.av_best.specs.Least.{all_nodes, IsLeastSchedule}
use Rattle.av_best.specs.inner.Joint.{FitsIn, joint_cost, IsBest}

-- no computation of a schedule is in a cycle below 0
pub starts_of_schedule : (s : FlatSystem) (c : ℕ) (times : List Time) → IsSchedule s c times → (n : ℕ) (z : Point) → IsComputation s n z → pos 0 ≤ℤ cycle_at (linear_parts times) (offsets_of times) n z
starts_of_schedule s c times h n z i =
    let l : n < length times = (let a = slice_get_within (nodes s) n i.variable i.is in let b = h.one_each in omega (arith, a, b)) in
    let t = there_is times n l in
    subst (λ (x : ℤ). pos 0 ≤ℤ x) (sym (cycle_is times n t.0 z t.1)) (h.starts n z t.0 i t.1)

-- the linear parts of a schedule are a choice
pub parts_of_schedule : (s : FlatSystem) (c : ℕ) (times : List Time) → IsSchedule s c times → AreLinearParts s c (linear_parts times)
parts_of_schedule s c times h = record {
  one_each = length-map times (λ t. t.linear) ∙ h.one_each;
  each = λ n v e.
      let l : n < length times = (let a = slice_get_within (nodes s) n v e in let b = h.one_each in omega (arith, a, b)) in
      let t = there_is times n l in
      subst (λ (a : Point). IsLinearPart c v.domain.dim a) (sym (part_of times n t.0 t.1)) (h.linear n v t.0 e t.1);
}

module _ (s : FlatSystem) (c : ℕ) (edges : List Edge) (chained : IsChained s) (proper : IsProper s) (are : AreEdgesOf s edges) (wide : c ≤ 4) where
  -- both computations of a pair are those of nodes
  ends : (n : ℕ) (z : Point) (k : ℕ) (y : Point) (linear : List Point) → AreLinearParts s c linear → IsPair s n z k y → (n < length (nodes s)) × (k < length (nodes s))
  ends n z k y linear parts pair =
      let d = covered_by s edges n z k y chained are pair in
      let u = usable_edge s edges linear d.edge chained proper are (vectors_of s c linear wide parts) d.among in
      let one = parts.one_each in
      let a = u.consumer_within in
      let b = u.producer_within in
      let p = d.consumer in
      let q = d.producer in
      (omega (arith, one, a, p), omega (arith, one, b, q))

  -- and its offsets are offsets to them
  pub offsets_of_schedule : (times : List Time) → IsSchedule s c times → AreOffsets s (linear_parts times) (offsets_of times)
  offsets_of_schedule times h = record {
    one_each = length-map times (λ t. t.offset) ∙ h.one_each;
    start = starts_of_schedule s c times h;
    later = λ n z k y pair.
        let e = ends n z k y (linear_parts times) (parts_of_schedule s c times h) pair in
        let one = h.one_each in
        let a = e.0 in
        let b = e.1 in
        let t = there_is times n (omega (arith, one, a)) in
        let u = there_is times k (omega (arith, one, b)) in
        let late = h.later n z k y t.0 u.0 pair t.1 u.1 in
        let p = cycle_is times n t.0 z t.1 in
        let q = cycle_is times k u.0 y u.1 in
        omega (arith, ints, late, p, q);
  }

-- with offsets of a length all computations are before that cycle
pub fits_length : (s : FlatSystem) (linear : List Point) (off : List ℤ) (n : ℕ) → AreOffsets s linear off → HasLength s linear off n → FitsIn s linear n
fits_length s linear off zero h len = record { offsets = off; are = h; before = λ m z i. absurd (len m z i) }
fits_length s linear off (suc x) h len = record { offsets = off; are = h; before = λ m z i. let l = len.last m z i in omega (arith, ints, l) }

module _ (s : FlatSystem) (c : ℕ) (edges : List Edge) (chained : IsChained s) (proper : IsProper s) (are : AreEdgesOf s edges) (wide : c ≤ 4) (best : Best) (h : IsBest s c (Some best)) (times : List Time)
    (parts : linear_parts times ≡ best.parts.items) (offs : offsets_of times ≡ best.offsets.items) where
  least_offsets : AreLeastOffsets s (linear_parts times) (offsets_of times)
  least_offsets = subst (λ (ps : List Point). AreLeastOffsets s ps (offsets_of times)) (sym parts) (subst (AreLeastOffsets s best.parts.items) (sym offs) h.0.offsets)

  choice : AreLinearParts s c (linear_parts times)
  choice = subst (AreLinearParts s c) (sym parts) h.0.are

  pub in_box : (b : ℕ) → c ≤ b → IsSchedule s b times
  in_box b l = schedule_of s c b times l choice least_offsets.are

  -- it meets every schedule
  met : (others : List Time) (n : ℕ) → IsSchedule s c others → IsLength s others n → IsLess (joint_cost s n (linear_parts others)) (joint_cost s best.cycles best.parts.items) → ⊥
  met others n schedule len =
      h.1 (linear_parts others) (parts_of_schedule s c others schedule) n
      (fits_length s (linear_parts others) (offsets_of others) n (offsets_of_schedule s c edges chained proper are wide others schedule) len)

  pub least_schedule : IsLeastSchedule s c times
  least_schedule = record {
    schedule = in_box c (omega arith);
    cycles = best.cycles;
    is_length = subst (λ (ps : List Point). HasLength s ps (offsets_of times) best.cycles) (sym parts) (subst (λ (off : List ℤ). HasLength s best.parts.items off best.cycles) (sym offs) h.0.has_length);
    least = λ others n schedule len. ⊎_elim (λ less. absurd (met others n schedule len (inl less))) (λ more. more) (cases_lt n best.cycles);
    first = λ others schedule len less. met others best.cycles schedule len (inr (refl, subst (λ (ps : List Point). IsLess (cost s (all_nodes s) (linear_parts others)) (cost s (all_nodes s) ps)) parts less));
    offsets = least_offsets;
  }

-- a choice with offsets is a schedule of each component
pub component_schedule : (s : FlatSystem) (c : ℕ) (component : List ℕ) (linear : List Point) (off : List ℤ) → AreLinearParts s c linear → AreOffsets s linear off → HasSchedule s c component
component_schedule s c component linear off parts h = record {
  linear = linear;
  are = parts;
  off = λ n. offset off n;
  start = λ n z among i. h.start n z i;
  later = λ n z k y pair a b. h.later n z k y pair;
}
