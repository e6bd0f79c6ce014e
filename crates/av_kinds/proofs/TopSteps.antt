-- What a lane brings into the top module, by its names.
use Rattle.std.proofs.Common.{◌≡◌, ℕ, ◌+◌, ◌<◌, Bool, false, if◌then◌else◌, codes, List, [], ◌∷◌, ◌++◌, map, length, take, drop, get_or, refl, sym, ap, ◌∙◌, append_assoc, Some}
use Rattle.std.specs.Prelude.{slice_get}
use Rattle.std.specs.List.{range_with_len}
use Rattle.std.proofs.lemmas.List.{append-nil}
use Rattle.av_base.specs.declared.width.Width.{Width}
use Rattle.av_base.proofs.Lists.{next_item, same_default}
use Rattle.av_net.specs.declared.netlist.Drive.{Drive}
use Rattle.av_net.specs.declared.netlist.Port.{Port}
use Rattle.av_net.specs.declared.netlist.Step.{Step}
use Rattle.av_net.specs.declared.operation.Operand.TheVariants.{Name}
use Rattle.av_net.specs.declared.operation.Operation.TheVariants.{Plain}
use Rattle.av_kinds.specs.declared.naming.LaneNames.{LaneNames}
use Rattle.av_kinds.specs.declared.top.TopParts.{TopParts}
use Rattle.av_kinds.specs.Programs.{Lane, Program}
use Rattle.av_kinds.specs.Written.{LaneMade, ProgramMade, lane_of, program_of}
use Rattle.av_net.specs.declared.netlist.Module.{Module}
use Rattle.av_kinds.specs.declared.counter.Counter.{Counter}
use Rattle.av_kinds.specs.Names.{Naming, Labels, labels, input_name, output_name}
use Rattle.av_kinds.specs.Counters.{counter_width, counter_name}
use Rattle.av_kinds.specs.inner.Counts.{counter_wires, counter_drives, counter_step}
use Rattle.av_kinds.specs.inner.Modules.{top_by}
use Rattle.av_kinds.specs.Tops.{port, numbered_ports, width_in, output_widths, output_drives, lane_wires, lane_registers, lane_steps, line_step}
use Rattle.av_kinds.specs.inner.Numbered.{IsNaming, value_in, register_in, line_in, step_in}
use Rattle.av_kinds.specs.inner.TopParts.{AddsLaneAt, ArePartsOf, AddsCounter}
use Rattle.av_kinds.proofs.Placing.{one_less, next_mapped, line_named, read_mapped}

same_map : {X Y : Type 0} (f g : X → Y) → ((x : X) → f x ≡ g x) → (xs : List X) → map f xs ≡ map g xs
same_map f g same [] = refl
same_map f g same (x ∷ xs) = ap (λ y. y ∷ map f xs) (same x) ∙ ap (λ ys. g x ∷ ys) (same_map f g same xs)

abbrev pub parts_with : TopParts → List Port → List Port → List Step → TopParts
parts_with old wires registers steps = record { wires = wires; registers = registers; drives = old.drives; steps = steps }

pub lane_added : (program : Program) (q : ℕ) (names : LaneNames) (lane : Lane) (old : TopParts) (wires registers : List Port) (steps : List Step) (w : Width) (n : ℕ) → IsNaming program q names → slice_get program.lanes q ≡ Some lane → w ≡ lane.width → n ≡ lane.length
    → wires ≡ old.wires ++ port w (value_in names) ∷ [] → registers ≡ old.registers ++ map (λ d. port w (register_in names d)) (range_with_len 0 n) → steps ≡ old.steps ++ map (step_in names) (range_with_len 0 n)
    → AddsLaneAt program q old (parts_with old wires registers steps)
lane_added program q names lane old wires registers steps w n naming there wide long is_wires is_registers is_steps =
    let N = labels program in
    let lines = range_with_len 0 lane.length in
    let step : (d : ℕ) → step_in names d ≡ line_step N q d = λ d.
    ap (λ r. let s : Step = record { register = r; reset = 0; next = Name (line_in names d) } in s) (ap (λ (f : ℕ → List ℕ). f d) naming.register) ∙ ap (λ r. let s : Step = record { register = N.register q d; reset = 0; next = Name r } in s) (line_named program q names naming d) in
    record {
      lane = lane;
      is_lane = there;
      wires = is_wires ∙ ap (λ v. old.wires ++ port v (value_in names) ∷ []) wide ∙ ap (λ t. old.wires ++ port lane.width t ∷ []) naming.value;
      registers = is_registers ∙ ap (λ v. old.registers ++ map (λ d. port v (register_in names d)) (range_with_len 0 n)) wide ∙ ap (λ i. old.registers ++ map (λ d. port lane.width (register_in names d)) (range_with_len 0 i)) long
          ∙ ap (λ (f : ℕ → List ℕ). old.registers ++ map (λ d. port lane.width (f d)) lines) naming.register ∙ ap (λ ps. old.registers ++ ps) (sym (append-nil (map (λ d. port lane.width (N.register q d)) lines)));
      drives = refl;
      steps = is_steps ∙ ap (λ i. old.steps ++ map (step_in names) (range_with_len 0 i)) long ∙ ap (λ ss. old.steps ++ ss) (same_map (step_in names) (line_step N q) step lines) ∙ ap (λ ss. old.steps ++ ss) (sym (append-nil (map (line_step N q) lines)));
    }

-- ---- ports and outputs

pub port_put : (name : Naming) (widths : List Width) (k : ℕ) (width : Width) (old next whole : List Port) (p : Port) → k < length widths → width ≡ get_or widths k width → old ++ numbered_ports name k (drop k widths) ≡ whole → p ≡ port width (name k) → next ≡ old ++ p ∷ []
    → next ++ numbered_ports name (k + 1) (drop (k + 1) widths) ≡ whole
port_put name widths k width old next whole p lt is h here put =
    one_less whole old next p (numbered_ports name k (drop k widths)) (numbered_ports name (k + 1) (drop (k + 1) widths)) h put
    (ap (numbered_ports name k) (next_item widths k width lt is) ∙ ap (λ x. x ∷ numbered_ports name (k + 1) (drop (k + 1) widths)) (sym here))

abbrev pub output_drive : ℕ → List ℕ → Drive
output_drive k name = record { target = output_name k; operation = Plain (Name name) }

pub output_put : (names : Labels) (outputs : List ℕ) (k q : ℕ) (old next whole : List Drive) (d : Drive) → k < length outputs → q ≡ get_or outputs k 0 → old ++ output_drives names k (drop k outputs) ≡ whole → d ≡ output_drive k (names.value q) → next ≡ old ++ d ∷ []
    → next ++ output_drives names (k + 1) (drop (k + 1) outputs) ≡ whole
output_put names outputs k q old next whole d lt is h here put =
    one_less whole old next d (output_drives names k (drop k outputs)) (output_drives names (k + 1) (drop (k + 1) outputs)) h put
    (ap (output_drives names k) (next_item outputs k q lt (is ∙ same_default outputs k 0 q lt)) ∙ ap (λ x. x ∷ output_drives names (k + 1) (drop (k + 1) outputs)) (sym here))

pub width_put : (program : ProgramMade) (outputs : List ℕ) (k q : ℕ) (lane : LaneMade) (old next : List Width) (w : Width) → k < length outputs → q ≡ get_or outputs k 0 → q < length program.lanes → lane ≡ get_or program.lanes q lane
    → old ≡ map (λ i. width_in (slice_get (program_of program).lanes i)) (take k outputs) → w ≡ lane.width → next ≡ old ++ w ∷ [] → next ≡ map (λ i. width_in (slice_get (program_of program).lanes i)) (take (k + 1) outputs)
width_put program outputs k q lane old next w lt is there here h own put =
    next_mapped (λ i. width_in (slice_get (program_of program).lanes i)) outputs k q old next w lt (is ∙ same_default outputs k 0 q lt) h put (own ∙ ap width_in (sym (read_mapped lane_of program.lanes q lane lane there here)))

-- ---- the counter, and the whole

pub not_counted : (counter : Counter) (parts : TopParts) → AddsCounter counter false parts parts
not_counted counter parts = record { wires = sym (append-nil parts.wires); registers = sym (append-nil parts.registers); drives = sym (append-nil parts.drives); steps = sym (append-nil parts.steps) }

abbrev pub module_with : List ℕ → List Port → List Port → TopParts → Module
module_with name inputs outputs parts = record { name = name; inputs = inputs; outputs = outputs; wires = parts.wires; registers = parts.registers; drives = parts.drives; steps = parts.steps }

pub top_made : (counter : Counter) (counts : Bool) (program : Program) (inputs outputs : List Port) (lanes last : TopParts) (drives : List Drive) → ArePartsOf program lanes → drives ≡ lanes.drives ++ output_drives (labels program) 0 program.outputs
    → AddsCounter counter counts (record { wires = lanes.wires; registers = lanes.registers; drives = drives; steps = lanes.steps }) last → inputs ≡ numbered_ports input_name 0 program.inputs → outputs ≡ numbered_ports output_name 0 (output_widths program)
    → module_with (codes "array") inputs outputs last ≡ top_by counter counts program
top_made counter counts program inputs outputs lanes last drives parts put adds is_inputs is_outputs =
    let N = labels program in
    let more_wires = if counts then counter_wires counter else [] in
    let more_registers = if counts then port counter_width (counter_name counter) ∷ [] else [] in
    let more_drives = if counts then counter_drives counter else [] in
    let more_steps = if counts then counter_step counter ∷ [] else [] in
    same_module inputs (numbered_ports input_name 0 program.inputs) outputs (numbered_ports output_name 0 (output_widths program)) last (record {
      wires = lane_wires N 0 program.lanes ++ more_wires;
      registers = lane_registers N 0 program.lanes ++ more_registers;
      drives = output_drives N 0 program.outputs ++ more_drives;
      steps = lane_steps N 0 program.lanes ++ more_steps;
    }) is_inputs is_outputs (adds.wires ∙ ap (λ xs. xs ++ more_wires) parts.wires) (adds.registers ∙ ap (λ xs. xs ++ more_registers) parts.registers)
    (adds.drives ∙ ap (λ xs. xs ++ more_drives) (put ∙ ap (λ xs. xs ++ output_drives N 0 program.outputs) parts.drives)) (adds.steps ∙ ap (λ xs. xs ++ more_steps) parts.steps)
  where
    same_module : (i j o u : List Port) (a b : TopParts) → i ≡ j → o ≡ u → a.wires ≡ b.wires → a.registers ≡ b.registers → a.drives ≡ b.drives → a.steps ≡ b.steps → module_with (codes "array") i o a ≡ module_with (codes "array") j u b
    same_module i j o u a b e f g h k l = cc

pub three_put : {X : Type 0} (x0 x1 x2 x3 : List X) (a b c : X) → x1 ≡ x0 ++ a ∷ [] → x2 ≡ x1 ++ b ∷ [] → x3 ≡ x2 ++ c ∷ [] → x3 ≡ x0 ++ (a ∷ b ∷ c ∷ [])
three_put x0 x1 x2 x3 a b c p q r =
    r ∙ ap (λ ys. ys ++ c ∷ []) q ∙ ap (λ ys. (ys ++ b ∷ []) ++ c ∷ []) p ∙ append_assoc (x0 ++ a ∷ []) (b ∷ []) (c ∷ []) ∙ append_assoc x0 (a ∷ []) (b ∷ c ∷ [])
