-- A component has a schedule exactly where one of its choices is feasible: offsets can be raised together until no cycle is below 0.
use Rattle.std.proofs.Common.{ℕ, ◌≤◌, pos, ◌+ℤ◌, List, length, arith, unsigned_abs}
use Rattle.std.proofs.lemmas.Int.{ints}
use Rattle.std.proofs.lemmas.List.Elements.{All-weaker, All-filter}
use Rattle.std.proofs.lemmas.Option.{slice_get_within}
use Rattle.av_affine.specs.Numbers.{dot}
use Rattle.av_affine.proofs.Dots.{dot_most}
use Rattle.av_tree.specs.Points.{Point}
use Rattle.av_flat.specs.Trees.{FlatSystem}
use Rattle.av_flat.specs.Chained.{IsChained, IsChainedVariable}
use Rattle.av_flat.specs.Nodes.{is_node, nodes, IsComputation}
use Rattle.av_flat.proofs.Sets.{has_is}
use Rattle.av_flat.proofs.Bounded.{small_point}
use Rattle.av_sched.specs.Offsets.{part}
use Rattle.av_sched.specs.Choices.{AreLinearParts, IsFeasible, HasSchedule}
use Rattle.av_sched.proofs.Walking.{lowest}
use Rattle.av_base.proofs.Lists.{all_at}

pub feasible_of_schedule : (s : FlatSystem) (c : ℕ) (component : List ℕ) → (h : HasSchedule s c component) → IsFeasible s component h.linear
feasible_of_schedule s c component h = (h.off, h.later)

-- no linear part in the widest box takes a computation far
most_value : (s : FlatSystem) (c : ℕ) (linear : List Point) (n : ℕ) (z : Point) → IsChained s → c ≤ 4 → AreLinearParts s c linear → IsComputation s n z → unsigned_abs (dot (part linear n) z) ≤ 65520
most_value s c linear n z chained wide are i =
    let v = all_at (IsChainedVariable s) (nodes s) n i.variable (All-filter is_node (IsChainedVariable s) s.variables chained.each) i.is in
    let own = (has_is i.variable.domain z).0 i.declared in
    let entries = All-weaker (λ x. unsigned_abs x ≤ c) (λ x. unsigned_abs x ≤ 4) (λ x l. omega (arith, l, wide)) (part linear n) (are.each n i.variable i.is).entries in
    let most = dot_most (part linear n) z 4 4095 entries (small_point i.variable.domain v.bounded z own) in
    let d = own.dimension in
    let f = v.indices in
    omega (arith, most, d, f)

pub schedule_of_feasible : (s : FlatSystem) (c : ℕ) (component : List ℕ) (linear : List Point) → IsChained s → c ≤ 4 → AreLinearParts s c linear → IsFeasible s component linear → HasSchedule s c component
schedule_of_feasible s c component linear chained wide are (off, late) =
    let k = lowest off (length (nodes s)) in
    record {
      linear = linear;
      are = are;
      off = λ n. off n +ℤ (k.0 +ℤ pos 65520);
      start = λ n z among i.
          let low = k.1 n (slice_get_within (nodes s) n i.variable i.is) in
          let most = most_value s c linear n z chained wide are i in
          omega (arith, ints, low, most);
      later = λ n z m y pair a b. let l = late n z m y pair a b in omega (arith, ints, l);
    }
