-- The flat module of the program of an array is in array form, and its cells read registers of those cells alone that they are linked to.
use Rattle.std.proofs.Common.{◌≡◌, ℕ, zero, suc, ◌<◌, ◌⊎◌, inl, inr, List, map, length, sym, arith, ◌∙◌, ap, Some}
use Rattle.std.specs.Prelude.{All, Contains, slice_get}
use Rattle.std.proofs.lemmas.List.Elements.{All-weaker}
use Rattle.av_base.proofs.Lists.{some_is, get_mapped}
use Rattle.av_net.specs.declared.operation.Operand.{Operand}
use Rattle.av_net.specs.declared.operation.Operand.TheVariants.{Name, Literal}
use Rattle.av_net.specs.declared.operation.Operation.TheVariants.{Plain}
use Rattle.av_net.specs.declared.netlist.Port.{Port}
use Rattle.av_net.specs.declared.netlist.Drive.{Drive}
use Rattle.av_net.specs.declared.netlist.Step.{Step}
use Rattle.av_net.specs.declared.netlist.Module.{Module}
use Rattle.av_net.specs.Rows.{operands_of}
use Rattle.av_space.specs.Occupancy.{AreCells}
use Rattle.av_space.specs.Ports.{output_cells}
use Rattle.av_kinds.specs.declared.counter.Counter.{Counter}
use Rattle.av_kinds.specs.declared.program.WordSource.TheVariants.{Input, Line}
use Rattle.av_kinds.specs.Counters.{counter_name, count_in}
use Rattle.av_kinds.specs.Names.{output_name, value_name}
use Rattle.av_kinds.specs.Programs.{Lane, Program, IsProgram}
use Rattle.av_kinds.specs.Forms.{IsWire, IsRegister, IsCounterWire, MayTake, MayName as MayTakeName, MayLink as MayTakeLink, IsFormedBy}
use Rattle.av_history.specs.Performing.{Array, Lanes}
use Rattle.av_history.specs.Arranged.{IsArranged}
use Rattle.av_build.specs.ArrayForm.{MayName, MayLink, HasFewOperators, IsArrayForm, IsLinked}
use Rattle.av_build.specs.inner.Programmed.{IsProgramFor}
use Rattle.av_build.proofs.CellOperators.{pieces, are_pieces, few}
use Rattle.av_build.proofs.CellValues.{value_of, value_labelled, output_within}
use Rattle.av_build.proofs.TakenSources.{IsLinkedTo, IsOf, taken}

-- a lane in an earlier cycle is one that the cell is linked to
earlier_linked : (a : Array) (program : Program) (p q d : ℕ) → 0 < d → IsOf a program p (Line q d) → IsLinkedTo a program p q
earlier_linked a program p q zero later h = absurd (omega (arith, later))
earlier_linked a program p q (suc d) later h = h

module _ (a : Array) (counter : Counter) (lanes : Lanes) (program : Program) (g : IsProgramFor a (count_in counter) lanes program) (is : IsProgram program) (arranged : IsArranged a) (cells : AreCells a.system a.times a.cells)
    (outputs_are : program.outputs ≡ map lanes.of_value (output_cells a.system a.cells)) (m : Module) (formed : IsFormedBy counter program m) where
  fewer : (p : ℕ) → p < length program.cells → p < length a.cells
  fewer p lt = let same = g.one_each in omega (arith, lt, same)

  more : (p : ℕ) → p < length a.cells → p < length program.cells
  more p lt = let same = g.one_each in omega (arith, lt, same)

  -- ---- names

  wire_of : (w : Port) → ((p : ℕ) × (p < length program.cells) × IsWire p w.name) ⊎ IsCounterWire counter w.name → ((p : ℕ) × (p < length a.cells) × IsWire p w.name) ⊎ IsCounterWire counter w.name
  wire_of w (inl (p, lt, name)) = inl (p, fewer p lt, name)
  wire_of w (inr name) = inr name

  register_of : (r : Port) → ((p : ℕ) × (p < length program.cells) × IsRegister p r.name) ⊎ (r.name ≡ counter_name counter) → ((p : ℕ) × (p < length a.cells) × IsRegister p r.name) ⊎ (r.name ≡ counter_name counter)
  register_of r (inl (p, lt, name)) = inl (p, fewer p lt, name)
  register_of r (inr name) = inr name

  -- ---- what is read

  may_name : (p : ℕ) (x : Operand) → MayTakeName (counter_name counter) program p x → MayName counter a.ports p x
  may_name p (Literal width value) h = tt
  may_name p (Name x) (inl wire) = inl wire
  may_name p (Name x) (inr (inl (k, named, takes))) = let port = taken a (count_in counter) lanes program g arranged is p (Input k) takes in inr (inl (k, port.0, port.1, port.2, named))
  may_name p (Name x) (inr (inr other)) = inr (inr other)

  may_link : (p : ℕ) (x : Operand) → MayTakeLink program p x → MayLink a.cells a.links p x
  may_link p (Literal width value) h = tt
  may_link p (Name x) h = λ q lt register other.
      let from = h q (more q lt) register other in
      let l = earlier_linked a program p from.lane_number from.delay from.later (taken a (count_in counter) lanes program g arranged is p (Line from.lane_number from.delay) from.takes) in
      let same : l.0 ≡ from.lane = some_is l.0 from.lane (sym l.1 ∙ from.is_lane) in
      (l.2.0, l.2.1, l.2.2, l.2.3 ∙ ap (λ (lane : Lane). lane.home) same ∙ from.home)

  -- ---- outputs

  output_is : (k p : ℕ) (d : Drive) → slice_get (output_cells a.system a.cells) k ≡ Some p → Contains m.drives d → d.target ≡ output_name k → d.operation ≡ Plain (Name (value_name p))
  output_is k p d there among named =
      let at : slice_get program.outputs k ≡ Some (lanes.of_value p) = ap (λ (qs : List ℕ). slice_get qs k) outputs_are ∙ get_mapped lanes.of_value (output_cells a.system a.cells) k p there in
      let label = value_labelled a (count_in counter) lanes program g cells p (output_within a.system a.cells k p there) in
      formed.outputs k (lanes.of_value p) d at among named ∙ ap (λ (x : List ℕ). Plain (Name x)) label

  -- ---- operators

  operators_are : (p : ℕ) → p < length a.cells → HasFewOperators counter a.system a.times a.cells m p
  operators_are p lt =
      let x = value_of a (count_in counter) lanes program g cells p lt in
      let o = formed.operators_are p x.own x.is_own in
      record {
        pieces = pieces a (count_in counter) lanes program g is arranged p x;
        are_pieces = are_pieces a (count_in counter) lanes program g is arranged p x;
        drives = o.drives;
        are_drives = o.are_drives;
        sorts = o.sorts;
        are_sorts = o.are_sorts;
        few = λ k other. (let most = o.few k other in let all = few a (count_in counter) lanes program g is arranged p x k in omega (arith, most, all));
      }

  -- ---- the whole

  pub in_array_form : IsArrayForm counter a.system a.times a.cells a.ports m
  in_array_form = record {
    wires = All-weaker (λ (w : Port). ((p : ℕ) × (p < length program.cells) × IsWire p w.name) ⊎ IsCounterWire counter w.name) (λ (w : Port). ((p : ℕ) × (p < length a.cells) × IsWire p w.name) ⊎ IsCounterWire counter w.name) wire_of m.wires formed.wires;
    registers = All-weaker (λ (r : Port). ((p : ℕ) × (p < length program.cells) × IsRegister p r.name) ⊎ (r.name ≡ counter_name counter))
        (λ (r : Port). ((p : ℕ) × (p < length a.cells) × IsRegister p r.name) ⊎ (r.name ≡ counter_name counter)) register_of m.registers formed.registers;
    reads = All-weaker (λ (d : Drive). (p : ℕ) → p < length program.cells → IsWire p d.target → All (MayTakeName (counter_name counter) program p) (operands_of d.operation))
        (λ (d : Drive). (p : ℕ) → p < length a.cells → IsWire p d.target → All (MayName counter a.ports p) (operands_of d.operation))
        (λ d h p lt wire. All-weaker (MayTakeName (counter_name counter) program p) (MayName counter a.ports p) (may_name p) (operands_of d.operation) (h p (more p lt) wire)) m.drives formed.reads;
    takes = All-weaker (λ (t : Step). (p : ℕ) → p < length program.cells → IsRegister p t.register → MayTake p t.next) (λ (t : Step). (p : ℕ) → p < length a.cells → IsRegister p t.register → MayTake p t.next)
        (λ t h p lt register. h p (more p lt) register) m.steps formed.takes;
    outputs = output_is;
    counter_is = formed.counter_is;
    operators_are = operators_are;
  }

  pub linked : IsLinked a.cells a.links m
  linked = All-weaker (λ (d : Drive). (p : ℕ) → p < length program.cells → IsWire p d.target → All (MayTakeLink program p) (operands_of d.operation))
      (λ (d : Drive). (p : ℕ) → p < length a.cells → IsWire p d.target → All (MayLink a.cells a.links p) (operands_of d.operation))
      (λ d h p lt wire. All-weaker (MayTakeLink program p) (MayLink a.cells a.links p) (may_link p) (operands_of d.operation) (h p (more p lt) wire)) m.drives formed.links
