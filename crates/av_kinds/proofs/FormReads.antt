-- In the flat module of a program wires and registers belong to cells, a wire reads its own cell, what brings words to its places, and the counter,
-- and a register takes what is of its own cell.
use Rattle.std.proofs.Common.{◌≡◌, ℕ, zero, suc, ◌^◌, ◌<◌, ◌⊎◌, List, [], ◌∷◌, length, refl, sym, subst, ap, ◌∙◌, arith, inl, inr, Some}
use Rattle.std.specs.Prelude.{All, Contains, slice_get}
use Rattle.std.specs.List.{AllByRecursion}
use Rattle.std.proofs.lemmas.List.Elements.{All-from_recursion, All-contains}
use Rattle.av_base.specs.declared.width.Width.{Width}
use Rattle.av_base.proofs.Lists.{some_is, there_is, each_at, each_weaker}
use Rattle.av_net.specs.declared.operation.Operand.{Operand}
use Rattle.av_net.specs.declared.operation.Operand.TheVariants.{Name, Literal}
use Rattle.av_net.specs.declared.operation.Operation.{Operation}
use Rattle.av_net.specs.declared.operation.Operation.TheVariants.{Plain, Binary, Signed, Choose, Part, Widen}
use Rattle.av_net.specs.declared.netlist.Port.{Port}
use Rattle.av_net.specs.declared.netlist.Drive.{Drive}
use Rattle.av_net.specs.declared.netlist.Step.{Step}
use Rattle.av_net.specs.Flat.{part_name, part_operand, part_operation}
use Rattle.av_kinds.specs.declared.counter.Counter.{Counter}
use Rattle.av_kinds.specs.declared.counter.Counter.TheVariants.{Cycles, Phases}
use Rattle.av_kinds.specs.declared.program.CellLanes.{CellLanes}
use Rattle.av_kinds.specs.declared.program.WordSource.{WordSource}
use Rattle.av_kinds.specs.declared.program.WordSource.TheVariants.{Word, Input, Line}
use Rattle.av_kinds.specs.Programs.{Lane, Program, IsProgram}
use Rattle.av_kinds.specs.Names.{Labels, input_name, output_name, instance_name, kind_counter, line_name, labels}
use Rattle.av_kinds.specs.Counters.{counter_name}
use Rattle.av_net.specs.Rows.{operands_of}
use Rattle.av_kinds.specs.Forms.{IsWire, IsRegister, MayName, MayLink, MayTake, IsCounterWire}
use Rattle.av_kinds.specs.inner.Counts.{counter_wires, counter_drives}
use Rattle.av_kinds.specs.inner.Shapes.{LaneShape}
use Rattle.av_kinds.specs.inner.Instances.{operand_of}
use Rattle.av_kinds.specs.inner.Modules.{AreShapesOf}
use Rattle.av_kinds.proofs.KindNames.{IsFewKind}
use Rattle.av_kinds.proofs.NameParts.{sort, numbered_injective}
use Rattle.av_kinds.proofs.TopNames.{one_number}
use Rattle.av_kinds.proofs.TopGroups.{lane_at}
use Rattle.av_kinds.proofs.ShapeSuits.{below_length}
use Rattle.av_kinds.proofs.OwnNames.{value_wire, line_register, line_taken, part_sort, cell_sort, register_sort, same_wire, same_register, sorts_apart, no_wire, counter_apart, counter_wire_none, no_output}
use Rattle.av_kinds.proofs.Sources.{IsGiven}
use Rattle.av_kinds.proofs.FlatDrives as flat
use Rattle.av_kinds.proofs.FlatDrives.{HasCases}

-- the counter's drives and wires are of these names
pub counter_targets : (counter : Counter) → AllByRecursion (λ (d : Drive). IsCounterWire counter d.target) (counter_drives counter)
counter_targets Cycles = (refl, tt)
counter_targets (Phases period) = (inl refl, (inr (inl refl), (inr (inr refl), tt)))

pub counter_wires_are : (counter : Counter) → AllByRecursion (λ (x : Port). IsCounterWire counter x.name) (counter_wires counter)
counter_wires_are Cycles = (refl, tt)
counter_wires_are (Phases period) = (inl refl, (inr (inl refl), (inr (inr refl), tt)))

module _ (counter : Counter) (program : Program) (is : IsProgram program) (shapes : List (List LaneShape)) (are : AreShapesOf program shapes) (few : AllByRecursion IsFewKind shapes) where
  abbrev N : Labels
  N = labels program

  abbrev own_name : List ℕ
  own_name = counter_name counter

  abbrev Placed : ℕ → CellLanes → ℕ → Type 0
  Placed p own k = flat.IsPlaced counter program is shapes are few p own k

  abbrev Cases : (P : Drive → Type 0) (p : ℕ) (own : CellLanes) (k : ℕ) → Placed p own k → Type 0
  Cases P p own k h = HasCases counter program is shapes are few P p own k h

  abbrev D : List Drive
  D = flat.drives counter program is shapes are few

  -- ---- small numbers

  pub small_cell : (p : ℕ) → p < length program.cells → p < 10 ^ 64
  small_cell p lt = omega (arith, lt, is.cells_few)

  pub is_small : (p : ℕ) (own : CellLanes) → slice_get program.cells p ≡ Some own → p < 10 ^ 64
  is_small p own is_cell = small_cell p (below_length program.cells p own is_cell)

  pub home_below : (q : ℕ) (lane : Lane) → slice_get program.lanes q ≡ Some lane → lane.home < length program.cells
  home_below q lane there =
      let h = lane_at program is q lane there in
      omega (arith, h.5.home, below_length program.cells h.0 h.1 h.2)

  pub small_home : (q : ℕ) (lane : Lane) → slice_get program.lanes q ≡ Some lane → lane.home < 10 ^ 64
  small_home q lane there = small_cell lane.home (home_below q lane there)

  pub output_sort : (j q : ℕ) → slice_get program.outputs j ≡ Some q → sort (output_name j) ≡ 111
  output_sort j q at = one_number 111 j (omega (arith, below_length program.outputs j q at, is.outputs_few))

  pub value_sort : (q : ℕ) (lane : Lane) → slice_get program.lanes q ≡ Some lane → sort (N.value q) ≡ 99
  value_sort q lane there = cell_sort lane.home (N.value q) (small_home q lane there) (value_wire program q lane there)

  -- the lane of an output is there
  pub output_lane : (j q : ℕ) → slice_get program.outputs j ≡ Some q → (lane : Lane) × (slice_get program.lanes q ≡ Some lane)
  output_lane j q at = there_is program.lanes q (each_at (λ (r : ℕ). r < length program.lanes) program.outputs j q is.outputs at)

  pub output_no_wire : (j q : ℕ) → slice_get program.outputs j ≡ Some q → (p : ℕ) → p < 10 ^ 64 → IsWire p (output_name j) → ⊥
  output_no_wire j q at p small wire = no_wire p (output_name j) 111 small (output_sort j q at) (λ e. omega (arith, e)) (λ e. omega (arith, e)) wire

  pub own_wire : (p q : ℕ) (lane : Lane) → slice_get program.lanes q ≡ Some lane → lane.home ≡ p → IsWire p (N.value q)
  own_wire p q lane there home = subst (λ n. IsWire n (N.value q)) home (inl (value_wire program q lane there))

  -- ---- what wires read

  -- what wires of each cell may read
  module _ (May : ℕ → Operand → Type 0) (literal : (p : ℕ) (w : Width) (n : ℕ) → May p (Literal w n)) (part : (p : ℕ) (x : List ℕ) → p < 10 ^ 64 → May p (Name (part_name (instance_name p) x))) (count : (p : ℕ) → May p (Name own_name))
      (source : (p : ℕ) (own : CellLanes) (k : ℕ) (h : Placed p own k) (w : Width) (s : WordSource) → IsGiven program is p own h.is_cell h.within.low s → May p (operand_of N w s)) where
    abbrev Reads : Drive → Type 0
    Reads d = (p : ℕ) → p < length program.cells → IsWire p d.target → All (May p) (operands_of d.operation)

    -- a wire of one cell is of no other
    of_cell : (p : ℕ) (x : List ℕ) (o : Operation) → p < 10 ^ 64 → IsWire p x → All (May p) (operands_of o) → (q : ℕ) → q < length program.cells → IsWire q x → All (May q) (operands_of o)
    of_cell p x o small own may q lt wire = subst (λ n. All (May n) (operands_of o)) (same_wire p q x small (small_cell q lt) own wire) may

    one : (p : ℕ) (a : Operand) → May p a → All (May p) (a ∷ [])
    one p a h = All-from_recursion (May p) (a ∷ []) (h, tt)

    may_part : (p : ℕ) → p < 10 ^ 64 → (a : Operand) → May p (part_operand (instance_name p) a)
    may_part p small (Name x) = part p x small
    may_part p small (Literal w n) = literal p w n

    inner_reads : (p : ℕ) → p < 10 ^ 64 → (o : Operation) → All (May p) (operands_of (part_operation (instance_name p) o))
    inner_reads p small o = All-from_recursion (May p) (operands_of (part_operation (instance_name p) o)) (by_form o)
      where
        m : (a : Operand) → May p (part_operand (instance_name p) a)
        m a = may_part p small a

        by_form : (o : Operation) → AllByRecursion (May p) (operands_of (part_operation (instance_name p) o))
        by_form (Plain a) = (m a, tt)
        by_form (Binary a s b) = (m a, (m b, tt))
        by_form (Signed a s b) = (m a, (m b, tt))
        by_form (Choose c a b) = (m c, (m a, (m b, tt)))
        by_form (Part x high low) = (part p x small, tt)
        by_form (Widen x by) = (part p x small, tt)

    reads : All Reads D
    reads = All-from_recursion Reads D (flat.drives_each counter program is shapes are few Reads cell
        (λ j q at p lt wire. absurd (output_no_wire j q at p (small_cell p lt) wire))
        (λ counting. each_weaker (λ (d : Drive). IsCounterWire counter d.target) Reads (λ d own p lt wire. absurd (counter_wire_none counter d.target own p (small_cell p lt) wire)) (counter_drives counter) (counter_targets counter)))
      where
        cell : (p : ℕ) (own : CellLanes) (k : ℕ) (h : Placed p own k) → Cases Reads p own k h
        cell p own k h =
            let small = is_small p own h.is_cell in
            record {
              count = λ e. of_cell p (part_name (instance_name p) kind_counter) (Plain (Name own_name)) small (inr (kind_counter, refl)) (one p (Name own_name) (count p));
              literal = λ x w n. of_cell p (part_name (instance_name p) x) (Plain (Literal w n)) small (inr (x, refl)) (one p (Literal w n) (literal p w n));
              source = λ x w s given. of_cell p (part_name (instance_name p) x) (Plain (operand_of N w s)) small (inr (x, refl)) (one p (operand_of N w s) (source p own k h w s given));
              inner = λ d at. of_cell p (part_name (instance_name p) d.target) (part_operation (instance_name p) d.operation) small (inr (d.target, refl)) (inner_reads p small d.operation);
              output = λ x q lane there home. of_cell p (N.value q) (Plain (Name (part_name (instance_name p) x))) small (own_wire p q lane there home) (one p (Name (part_name (instance_name p) x)) (part p x small));
            }

  source_named : (p : ℕ) (own : CellLanes) (k : ℕ) (h : Placed p own k) (w : Width) (s : WordSource) → IsGiven program is p own h.is_cell h.within.low s → MayName own_name program p (operand_of N w s)
  source_named p own k h w (Word n) given = tt
  source_named p own k h w (Input n) given = inr (inl (n, refl, given.takes))
  source_named p own k h w (Line q zero) given = absurd (omega (arith, given.is_source.4))
  source_named p own k h w (Line q (suc d)) given = inr (inr (inr (given.is_source.0.home, line_register program q d given.is_source.0 given.is_source.1)))

  pub names_read : All (λ (d : Drive). (p : ℕ) → p < length program.cells → IsWire p d.target → All (MayName own_name program p) (operands_of d.operation)) D
  names_read = reads (MayName own_name program) (λ p w n. tt) (λ p x small. inl (inr (x, refl))) (λ p. inr (inr (inl refl))) source_named

  -- ---- what registers of other cells are read

  source_linked : (p : ℕ) (own : CellLanes) (k : ℕ) (h : Placed p own k) (w : Width) (s : WordSource) → IsGiven program is p own h.is_cell h.within.low s → MayLink program p (operand_of N w s)
  source_linked p own k h w (Word n) given = tt
  source_linked p own k h w (Input n) given = λ q lt register apart.
      absurd (sorts_apart (input_name n) 105 114 (one_number 105 n (omega (arith, below_length program.inputs n given.width given.is_source, is.inputs_few))) (register_sort q (input_name n) (small_cell q lt) register) (λ e. omega (arith, e)))
  source_linked p own k h w (Line q zero) given = absurd (omega (arith, given.is_source.4))
  source_linked p own k h w (Line q (suc d)) given = λ r lt register apart.
      let lane = given.is_source.0 in
      let there = given.is_source.1 in
      record {
        lane_number = q;
        lane = lane;
        is_lane = there;
        home = same_register lane.home r (N.register q d) (small_home q lane there) (small_cell r lt) (line_register program q d lane there) register;
        delay = suc d;
        later = omega arith;
        takes = given.takes;
      }

  pub links_read : All (λ (d : Drive). (p : ℕ) → p < length program.cells → IsWire p d.target → All (MayLink program p) (operands_of d.operation)) D
  links_read = reads (MayLink program) (λ p w n. tt)
      (λ p x small q lt register apart. absurd (sorts_apart (part_name (instance_name p) x) 117 114 (part_sort p x small) (register_sort q (part_name (instance_name p) x) (small_cell q lt) register) (λ e. omega (arith, e))))
      (λ p q lt register apart. absurd ((counter_apart counter).register (register_sort q own_name (small_cell q lt) register)))
      source_linked

  -- ---- declarations

  abbrev IsOfWire : Port → Type 0
  IsOfWire x = ((p : ℕ) × (p < length program.cells) × IsWire p x.name) ⊎ IsCounterWire counter x.name

  abbrev IsOfRegister : Port → Type 0
  IsOfRegister x = ((p : ℕ) × (p < length program.cells) × IsRegister p x.name) ⊎ (x.name ≡ own_name)

  pub wires_owned : All IsOfWire (flat.wires counter program is shapes are few)
  wires_owned = All-from_recursion IsOfWire (flat.wires counter program is shapes are few) (flat.wires_each counter program is shapes are few IsOfWire
      (λ q lane there. inl (lane.home, home_below q lane there, inl (value_wire program q lane there)))
      (λ p own is_cell x. inl (p, below_length program.cells p own is_cell, inr (x.name, refl)))
      (λ counting. each_weaker (λ (x : Port). IsCounterWire counter x.name) IsOfWire (λ x own. inr own) (counter_wires counter) (counter_wires_are counter)))

  pub registers_owned : All IsOfRegister (flat.top counter program is shapes are few).registers
  registers_owned = All-from_recursion IsOfRegister (flat.top counter program is shapes are few).registers (flat.registers_each counter program is shapes are few IsOfRegister
      (λ q lane there d. inl (lane.home, home_below q lane there, line_register program q d lane there))
      (λ counting. inr refl))

  -- ---- registers

  abbrev TakesOwn : Step → Type 0
  TakesOwn t = (p : ℕ) → p < length program.cells → IsRegister p t.register → MayTake p t.next

  pub steps_take : All TakesOwn (flat.top counter program is shapes are few).steps
  steps_take = All-from_recursion TakesOwn (flat.top counter program is shapes are few).steps (flat.steps_each counter program is shapes are few TakesOwn
      (λ q lane there d p lt register.
      let same = same_register lane.home p (N.register q d) (small_home q lane there) (small_cell p lt) (line_register program q d lane there) register in
      subst (λ n. IsWire n (line_name N q d) ⊎ IsRegister n (line_name N q d)) same (line_taken program q d lane there))
      (λ counting p lt register. absurd ((counter_apart counter).register (register_sort p own_name (small_cell p lt) register))))

  -- ---- outputs

  pub output_is : (j q : ℕ) (d : Drive) → slice_get program.outputs j ≡ Some q → Contains D d → d.target ≡ output_name j → d.operation ≡ Plain (Name (N.value q))
  output_is j q d at among named = All-contains IsOutput D d (All-from_recursion IsOutput D (flat.drives_each counter program is shapes are few IsOutput cell
      (λ i r there e.
      let small = λ (n t : ℕ) (h : slice_get program.outputs n ≡ Some t). below_length program.outputs n t h in
      let same : i ≡ j = numbered_injective 111 i j (omega (arith, small i r there, is.outputs_few)) (omega (arith, small j q at, is.outputs_few)) e in
      ap (λ t. Plain (Name (N.value t))) (some_is r q (sym there ∙ ap (λ n. slice_get program.outputs n) same ∙ at)))
      (λ counting. each_weaker (λ (x : Drive). IsCounterWire counter x.target) IsOutput (λ x own e. absurd (no_output counter x.target own (ap sort e ∙ output_sort j q at))) (counter_drives counter) (counter_targets counter)))) among named
    where
      IsOutput : Drive → Type 0
      IsOutput x = x.target ≡ output_name j → x.operation ≡ Plain (Name (N.value q))

      no_part : (p : ℕ) (x : List ℕ) → p < 10 ^ 64 → part_name (instance_name p) x ≡ output_name j → ⊥
      no_part p x small e = output_no_wire j q at p small (inr (x, sym e))

      cell : (p : ℕ) (own : CellLanes) (k : ℕ) (h : Placed p own k) → Cases IsOutput p own k h
      cell p own k h =
          let small = is_small p own h.is_cell in
          record {
            count = λ c e. absurd (no_part p kind_counter small e);
            literal = λ x w n e. absurd (no_part p x small e);
            source = λ x w s given e. absurd (no_part p x small e);
            inner = λ y among e. absurd (no_part p y.target small e);
            output = λ x r lane there home e. absurd (output_no_wire j q at p small (subst (IsWire p) e (own_wire p r lane there home)));
          }
