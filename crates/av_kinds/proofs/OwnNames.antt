-- The names of a cell's wires, of the wires of its instance and of its registers tell the cell.
use Rattle.std.proofs.Common.{◌≡◌, ◌≢◌, ℕ, zero, suc, ◌+◌, ◌^◌, ◌<◌, ◌⊎◌, List, ◌∷◌, ◌++◌, refl, sym, subst, arith, ◌∙◌, ap, Bool, true, false, if◌then◌else◌, inl, inr, append_assoc, Some}
use Rattle.std.specs.Prelude.{slice_get, decimal, nat_eq, codes}
use Rattle.av_net.specs.Flat.{part_name}
use Rattle.av_kinds.specs.declared.counter.Counter.{Counter}
use Rattle.av_kinds.specs.declared.counter.Counter.TheVariants.{Cycles, Phases}
use Rattle.av_kinds.specs.Programs.{Lane, Program}
use Rattle.av_kinds.specs.Names.{value_name, wire_name, instance_name, label_in, number_in, lane_value, lane_register, labels, line_name}
use Rattle.av_kinds.specs.Counters.{counter_name}
use Rattle.av_kinds.specs.Forms.{IsCellWire, IsWire, IsRegister, IsCounterWire}
use Rattle.av_kinds.proofs.NameParts.{decimal_once, owner, owner_numbered, after, after_numbered, sort, sort_numbered, rest_is}
use Rattle.av_kinds.proofs.TopNames.{one_number, one_owner}

-- ---- lanes

-- the names of a lane are a wire and registers of its cell
pub value_wire : (program : Program) (q : ℕ) (lane : Lane) → slice_get program.lanes q ≡ Some lane → IsCellWire lane.home ((labels program).value q)
value_wire program q lane is = subst (IsCellWire lane.home) (sym (ap (label_in (lane_value program.stride)) is)) (by_rank (nat_eq lane.rank 0))
  where
    by_rank : (b : Bool) → IsCellWire lane.home (if b then value_name lane.home else wire_name lane.home (number_in program.stride lane 0))
    by_rank true = inl refl
    by_rank false = inr (number_in program.stride lane 0, refl)

pub line_register : (program : Program) (q d : ℕ) (lane : Lane) → slice_get program.lanes q ≡ Some lane → IsRegister lane.home ((labels program).register q d)
line_register program q d lane is = (number_in program.stride lane d, ap (label_in (lane_register program.stride d)) is)

pub line_taken : (program : Program) (q d : ℕ) (lane : Lane) → slice_get program.lanes q ≡ Some lane → IsWire lane.home (line_name (labels program) q d) ⊎ IsRegister lane.home (line_name (labels program) q d)
line_taken program q zero lane is = inl (inl (value_wire program q lane is))
line_taken program q (suc d) lane is = inr (line_register program q d lane is)

-- ---- the cell that a name tells

part_is : (p : ℕ) (own : List ℕ) → part_name (instance_name p) own ≡ 117 ∷ (decimal p ++ (95 ∷ own))
part_is p own = append_assoc (instance_name p) (codes "_") own

pub part_owner : (p : ℕ) (own : List ℕ) → p < 10 ^ 64 → owner (part_name (instance_name p) own) ≡ decimal p
part_owner p own small = ap owner (part_is p own) ∙ owner_numbered 117 p (95 ∷ own) small refl

pub part_sort : (p : ℕ) (own : List ℕ) → p < 10 ^ 64 → sort (part_name (instance_name p) own) ≡ 117
part_sort p own small = ap sort (part_is p own) ∙ sort_numbered 117 p (95 ∷ own) small

pub part_after : (p : ℕ) (own : List ℕ) → p < 10 ^ 64 → after (part_name (instance_name p) own) ≡ 95 ∷ own
part_after p own small = ap after (part_is p own) ∙ after_numbered 117 p (95 ∷ own) small refl

-- and the name in the instance
pub part_own : (p : ℕ) (x y : List ℕ) → p < 10 ^ 64 → part_name (instance_name p) x ≡ part_name (instance_name p) y → x ≡ y
part_own p x y small e = rest_is 95 x y (sym (part_after p x small) ∙ ap after e ∙ part_after p y small)

cell_owner : (p : ℕ) (x : List ℕ) → p < 10 ^ 64 → IsCellWire p x → owner x ≡ decimal p
cell_owner p x small (inl e) = ap owner e ∙ one_owner 99 p small
cell_owner p x small (inr (n, e)) = ap owner e ∙ owner_numbered 99 p (95 ∷ decimal n) small refl

pub cell_sort : (p : ℕ) (x : List ℕ) → p < 10 ^ 64 → IsCellWire p x → sort x ≡ 99
cell_sort p x small (inl e) = ap sort e ∙ one_number 99 p small
cell_sort p x small (inr (n, e)) = ap sort e ∙ sort_numbered 99 p (95 ∷ decimal n) small

pub wire_owner : (p : ℕ) (x : List ℕ) → p < 10 ^ 64 → IsWire p x → owner x ≡ decimal p
wire_owner p x small (inl cell) = cell_owner p x small cell
wire_owner p x small (inr (own, e)) = ap owner e ∙ part_owner p own small

pub register_owner : (p : ℕ) (x : List ℕ) → p < 10 ^ 64 → IsRegister p x → owner x ≡ decimal p
register_owner p x small (n, e) = ap owner e ∙ owner_numbered 114 p (95 ∷ decimal n) small refl

pub register_sort : (p : ℕ) (x : List ℕ) → p < 10 ^ 64 → IsRegister p x → sort x ≡ 114
register_sort p x small (n, e) = ap sort e ∙ sort_numbered 114 p (95 ∷ decimal n) small

pub same_wire : (p q : ℕ) (x : List ℕ) → p < 10 ^ 64 → q < 10 ^ 64 → IsWire p x → IsWire q x → p ≡ q
same_wire p q x sp sq hp hq = decimal_once p q sp sq (sym (wire_owner p x sp hp) ∙ wire_owner q x sq hq)

pub same_register : (p q : ℕ) (x : List ℕ) → p < 10 ^ 64 → q < 10 ^ 64 → IsRegister p x → IsRegister q x → p ≡ q
same_register p q x sp sq hp hq = decimal_once p q sp sq (sym (register_owner p x sp hp) ∙ register_owner q x sq hq)

-- ---- names that tell none

pub sorts_apart : (x : List ℕ) (m n : ℕ) → sort x ≡ m → sort x ≡ n → m ≢ n → ⊥
sorts_apart x m n e f h = h (sym e ∙ f)

-- a wire has one of two sorts
pub no_wire : (p : ℕ) (x : List ℕ) (n : ℕ) → p < 10 ^ 64 → sort x ≡ n → n ≢ 99 → n ≢ 117 → IsWire p x → ⊥
no_wire p x n small e cell part (inl h) = sorts_apart x n 99 e (cell_sort p x small h) cell
no_wire p x n small e cell part (inr (own, f)) = sorts_apart x n 117 e (ap sort f ∙ part_sort p own small) part

pub record IsApart (n : ℕ) : Type 0 where
  pub cell : n ≢ 99
  pub part : n ≢ 117
  pub register : n ≢ 114
  pub input : n ≢ 105
  pub output : n ≢ 111

pub counter_apart : (counter : Counter) → IsApart (sort (counter_name counter))
counter_apart Cycles = apart_by 1319 (omega arith) refl
  where
    apart_by : (n : ℕ) → 1000 < n → sort (counter_name Cycles) ≡ n → IsApart (sort (counter_name Cycles))
    apart_by n large e = record { cell = λ f. omega arith; part = λ f. omega arith; register = λ f. omega arith; input = λ f. omega arith; output = λ f. omega arith }
counter_apart (Phases period) = apart_by 1529 (omega arith) refl
  where
    apart_by : (n : ℕ) → 1000 < n → sort (counter_name (Phases period)) ≡ n → IsApart (sort (counter_name (Phases period)))
    apart_by n large e = record { cell = λ f. omega arith; part = λ f. omega arith; register = λ f. omega arith; input = λ f. omega arith; output = λ f. omega arith }

-- the counter's wires are of no cell, and are no outputs
pub counter_wire_none : (counter : Counter) (x : List ℕ) → IsCounterWire counter x → (p : ℕ) → p < 10 ^ 64 → IsWire p x → ⊥
counter_wire_none Cycles x e p small = no_wire p x 1861 small (ap sort e) (λ f. omega (arith, f)) (λ f. omega (arith, f))
counter_wire_none (Phases period) x (inl e) p small = no_wire p x 2060 small (ap sort e) (λ f. omega (arith, f)) (λ f. omega (arith, f))
counter_wire_none (Phases period) x (inr (inl e)) p small = no_wire p x 1965 small (ap sort e) (λ f. omega (arith, f)) (λ f. omega (arith, f))
counter_wire_none (Phases period) x (inr (inr e)) p small = no_wire p x 2071 small (ap sort e) (λ f. omega (arith, f)) (λ f. omega (arith, f))

pub no_output : (counter : Counter) (x : List ℕ) → IsCounterWire counter x → sort x ≡ 111 → ⊥
no_output Cycles x e is = sorts_apart x 1861 111 (ap sort e) is (λ f. omega (arith, f))
no_output (Phases period) x (inl e) is = sorts_apart x 2060 111 (ap sort e) is (λ f. omega (arith, f))
no_output (Phases period) x (inr (inl e)) is = sorts_apart x 1965 111 (ap sort e) is (λ f. omega (arith, f))
no_output (Phases period) x (inr (inr e)) is = sorts_apart x 2071 111 (ap sort e) is (λ f. omega (arith, f))
