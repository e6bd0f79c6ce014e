-- What the text of a plan says: its kinds, and its top with an instantiation for each instance. Its flat module is
-- that of the plan.
use Rattle.std.proofs.Common.{◌≡◌, ℕ, zero, suc, ◌+◌, ◌-◌, ◌<◌, List, [], ◌∷◌, ◌++◌, map, length, get_or, Some, refl, sym, ◌∙◌, ap, arith, append_assoc, Bool, true, false, cond, if◌then◌else◌}
use Rattle.std.specs.Prelude.{Contains}
use Rattle.std.specs.List.{flat_map}
use Rattle.std.specs.Str.{bytes_eq}
use Rattle.std.proofs.lemmas.Bool.{leb-true}
use Rattle.std.proofs.lemmas.List.{append-nil}
use Rattle.std.proofs.lemmas.List.Elements.{Contains-append_left, Contains-get_or}
use Rattle.std.proofs.lemmas.Slice.Eq.{bytes_eq-Decides}
use Rattle.av_base.proofs.Among.{first_among, more_among, among_map}
use Rattle.av_base.specs.declared.width.Width.{Width}
use Rattle.av_net.specs.declared.operation.Operand.{Operand}
use Rattle.av_net.specs.declared.operation.Operand.TheVariants.{Name}
use Rattle.av_net.specs.declared.operation.Operation.{Operation}
use Rattle.av_net.specs.declared.operation.Operation.TheVariants.{Plain, Binary, Signed, Choose, Part, Widen}
use Rattle.av_net.specs.declared.netlist.Port.{Port}
use Rattle.av_net.specs.declared.netlist.Drive.{Drive}
use Rattle.av_net.specs.declared.netlist.Step.{Step}
use Rattle.av_net.specs.declared.plan.CellKind.{CellKind}
use Rattle.av_net.specs.declared.plan.Instance.{Instance}
use Rattle.av_net.specs.declared.plan.Plan.{Plan}
use Rattle.av_net.specs.Meaning.{Widths}
use Rattle.av_net.specs.Names.{AreDistinct, names_of, width_in, width_of}
use Rattle.av_net.specs.Texts.{written_width}
use Rattle.av_net.specs.Flat.{kind_module, kind_of, no_kind, instance_drives, flat_module}
use Rattle.av_net.specs.Plans.{SuitPorts}
use Rattle.av_net.specs.Rows.{wires_of, registers_in, drives_of, steps_of, module_of, kind_from, kinds_of, kind_named, kind_number, operand_to, name_to, instance_of, instances_in, flat_drives, flat_text}
use Rattle.av_net.proofs.Made.{HasParts}
use Rattle.av_net.proofs.Distinct.{apart, front_distinct, rest_distinct}
use Rattle.av_net.proofs.Settles.{not_equal, names_distinct}
use Rattle.av_net.proofs.InParts.{kind_sound}
use Rattle.av_net.proofs.FlatTargets.{placed_at}
use Rattle.av_net.specs.Grammar.{Text, ModuleText, wire, register, PortLink, Instantiation, Item, drive, widening, step, instance}

-- an `assign`; that of a widening selects the highest bit
abbrev pub said_by : Widths → Drive → Operation → Item
said_by widths d (Widen name by) = widening (widths name - 1) d
said_by widths d (Part name high low) = drive d
said_by widths d (Plain a) = drive d
said_by widths d (Binary a symbol b) = drive d
said_by widths d (Signed a symbol b) = drive d
said_by widths d (Choose a b c) = drive d

abbrev pub drive_said : Widths → Drive → Item
drive_said widths d = said_by widths d d.operation

abbrev pub kind_said : CellKind → ModuleText
kind_said kind = record {
  name = kind.name;
  inputs = kind.inputs;
  outputs = kind.outputs;
  declarations = map wire kind.wires;
  items = map (drive_said (written_width (kind_module kind))) kind.drives;
}

-- one link for each port
abbrev pub links_said : List Port → List Operand → List PortLink
links_said (port ∷ ports) (operand ∷ operands) = record { port = port.name; operand = operand } ∷ links_said ports operands
links_said [] operands = []
links_said (port ∷ ports) [] = []

abbrev pub instance_said : List CellKind → Instance → Instantiation
instance_said kinds i = record {
  kind = (kind_of kinds i).name;
  name = i.name;
  links = links_said (kind_of kinds i).inputs i.inputs ++ links_said (kind_of kinds i).outputs (map Name i.outputs);
}

-- the width of the first port with a name, or one bit
abbrev pub width_for : List Port → List ℕ → Width
width_for [] name = record { bits = 1; least = leb-true 1 1 refl; most = leb-true 1 64 refl }
width_for (port ∷ ports) name = if bytes_eq port.name name then port.width else width_for ports name

-- the width that a step's reset is written with
pub width_for_is : (registers : List Port) (n : List ℕ) → (width_for registers n).bits ≡ width_in registers n
width_for_is [] n = refl
width_for_is (port ∷ ports) n = go (bytes_eq port.name n) (width_for_is ports n)
  where
    go : (t : Bool) → (width_for ports n).bits ≡ width_in ports n → (cond t port.width (width_for ports n)).bits ≡ cond t port.width.bits (width_in ports n)
    go true e = refl
    go false e = e

-- the literal of a reset has the width of the first of these registers with the step's name
abbrev pub step_said : List Port → Step → Item
step_said registers s = step (width_for registers s.register) s

-- wires before registers, instances before drives, and drives before steps
abbrev pub top_said : Plan → ModuleText
top_said plan = record {
  name = plan.top.name;
  inputs = plan.top.inputs;
  outputs = plan.top.outputs;
  declarations = map wire plan.top.wires ++ map register plan.top.registers;
  items = map (λ i. instance (instance_said plan.kinds i)) plan.instances
      ++ map (drive_said (written_width plan.top)) plan.top.drives ++ map (step_said plan.top.registers) plan.top.steps;
}

abbrev pub plan_said : Plan → Text
plan_said plan = record { kinds = map kind_said plan.kinds; top = top_said plan }

-- ---- kinds

wires_said : (wires : List Port) → wires_of (map wire wires) ≡ wires
wires_said [] = refl
wires_said (port ∷ wires) = ap (λ ports. port ∷ ports) (wires_said wires)

drive_first : (widths : Widths) (d : Drive) (o : Operation) (items : List Item) → drives_of (said_by widths d o ∷ items) ≡ d ∷ drives_of items
drive_first widths d (Plain a) items = refl
drive_first widths d (Binary a symbol b) items = refl
drive_first widths d (Signed a symbol b) items = refl
drive_first widths d (Choose a b c) items = refl
drive_first widths d (Part name high low) items = refl
drive_first widths d (Widen name by) items = refl

pub drives_said : (widths : Widths) (drives : List Drive) → drives_of (map (drive_said widths) drives) ≡ drives
drives_said widths [] = refl
drives_said widths (d ∷ drives) = drive_first widths d d.operation (map (drive_said widths) drives) ∙ ap (λ more. d ∷ more) (drives_said widths drives)

kind_back : (kind : CellKind) → kind_from (kind_said kind) ≡ kind
kind_back kind =
    let w : wires_of (map wire kind.wires) ≡ kind.wires = wires_said kind.wires in
    let d : drives_of (map (drive_said (written_width (kind_module kind))) kind.drives) ≡ kind.drives = drives_said (written_width (kind_module kind)) kind.drives in
    rw (w, d) refl

pub kinds_back : (kinds : List CellKind) → map kind_from (map kind_said kinds) ≡ kinds
kinds_back [] = refl
kinds_back (kind ∷ kinds) = rw (kind_back kind, kinds_back kinds) refl

-- ---- the kind of an instance

kind_names_of : List CellKind → List (List ℕ)
kind_names_of kinds = map (λ kind. kind.name) kinds

-- of distinct names the one at a place is found there
pub found_at : (kinds : List CellKind) (n : ℕ) → AreDistinct (map (λ (kind : CellKind). kind.name) kinds) → n < length kinds
    → (kind_named kinds (get_or kinds n no_kind).name ≡ Some (get_or kinds n no_kind)) × (kind_number kinds (get_or kinds n no_kind).name ≡ n)
found_at [] n distinct lt = absurd (omega arith)
found_at (kind ∷ kinds) zero distinct lt =
    let same : bytes_eq kind.name kind.name ≡ true = (bytes_eq-Decides kind.name kind.name).1 refl in
    (rw same refl, rw same refl)
found_at (kind ∷ kinds) (suc n) distinct lt =
    let later = get_or kinds n no_kind in
    let lt' : n < length kinds = omega arith in
    let among : Contains (map (λ (kind : CellKind). kind.name) kinds) later.name = among_map (λ (kind : CellKind). kind.name) kinds later (Contains-get_or kinds n no_kind lt') in
    let other : bytes_eq kind.name later.name ≡ false = not_equal kind.name later.name (λ same. apart (kind.name ∷ []) (map (λ (kind : CellKind). kind.name) kinds) later.name distinct (0, omega arith, same) among) in
    let (named, number) = found_at kinds n (rest_distinct (kind.name ∷ []) (map (λ (kind : CellKind). kind.name) kinds) distinct) lt' in
    let next : 1 + n ≡ suc n = omega arith in
    (rw other named, rw other (ap (λ k. 1 + k) number ∙ next))

-- ---- links

-- a link of another port is passed over
passed_over : (link : PortLink) (links : List PortLink) (ports : List Port) → (Contains (names_of ports) link.port → ⊥)
    → (map (operand_to (link ∷ links)) ports ≡ map (operand_to links) ports) × (map (name_to (link ∷ links)) ports ≡ map (name_to links) ports)
passed_over link links [] none = (refl, refl)
passed_over link links (port ∷ ports) none =
    let other : bytes_eq link.port port.name ≡ false = not_equal link.port port.name (λ same. none (0, omega arith, sym same)) in
    let (a, b) = passed_over link links ports (λ at. none (more_among port.name link.port (names_of ports) at)) in
    (rw (other, a) refl, rw (other, b) refl)

all_passed : (some : List Port) (operands : List Operand) (links : List PortLink) (ports : List Port) → ((name : List ℕ) → Contains (names_of some) name → Contains (names_of ports) name → ⊥)
    → map (name_to (links_said some operands ++ links)) ports ≡ map (name_to links) ports
all_passed [] operands links ports none = refl
all_passed (port ∷ some) [] links ports none = refl
all_passed (port ∷ some) (operand ∷ operands) links ports none =
    (passed_over (record { port = port.name; operand = operand }) (links_said some operands ++ links) ports (none port.name (0, omega arith, refl))).1
    ∙ all_passed some operands links ports (λ name at. none name (more_among port.name name (names_of some) at))

operands_back : (widths : Widths) (ports : List Port) (operands : List Operand) (links : List PortLink) → AreDistinct (names_of ports) → SuitPorts widths operands ports
    → map (operand_to (links_said ports operands ++ links)) ports ≡ operands
operands_back widths [] [] links distinct suits = refl
operands_back widths [] (operand ∷ operands) links distinct suits = absurd suits
operands_back widths (port ∷ ports) [] links distinct suits = absurd suits
operands_back widths (port ∷ ports) (operand ∷ operands) links distinct suits =
    let same : bytes_eq port.name port.name ≡ true = (bytes_eq-Decides port.name port.name).1 refl in
    let more = (passed_over (record { port = port.name; operand = operand }) (links_said ports operands ++ links) ports (λ at. apart (port.name ∷ []) (names_of ports) port.name distinct (0, omega arith, refl) at)).0 in
    let rest = operands_back widths ports operands links (rest_distinct (port.name ∷ []) (names_of ports) distinct) suits.1 in
    rw (same, more, rest) refl

names_back : (widths : Widths) (ports : List Port) (names : List (List ℕ)) → AreDistinct (names_of ports) → SuitPorts widths (map Name names) ports
    → map (name_to (links_said ports (map Name names))) ports ≡ names
names_back widths [] [] distinct suits = refl
names_back widths [] (name ∷ names) distinct suits = absurd suits
names_back widths (port ∷ ports) [] distinct suits = absurd suits
names_back widths (port ∷ ports) (name ∷ names) distinct suits =
    let same : bytes_eq port.name port.name ≡ true = (bytes_eq-Decides port.name port.name).1 refl in
    let more = (passed_over (record { port = port.name; operand = Name name }) (links_said ports (map Name names)) ports (λ at. apart (port.name ∷ []) (names_of ports) port.name distinct (0, omega arith, refl) at)).1 in
    let rest = names_back widths ports names (rest_distinct (port.name ∷ []) (names_of ports) distinct) suits.1 in
    rw (same, more, rest) refl

-- ---- instances

pub instance_back : (plan : Plan) → HasParts plan → (i : Instance) → Contains plan.instances i → instance_of plan.kinds (instance_said plan.kinds i) ≡ i
instance_back plan modules i at =
    let kind = kind_of plan.kinds i in
    let placed = placed_at plan modules i at in
    let (named, number) = found_at plan.kinds i.kind (front_distinct (map (λ (kind : CellKind). kind.name) plan.kinds) (plan.top.name ∷ []) modules.named_once) placed.kind in
    let names = names_distinct (kind_module kind) (kind_sound plan modules i at) in
    let inputs : AreDistinct (names_of kind.inputs) = front_distinct (names_of kind.inputs) [] (front_distinct (names_of kind.inputs ++ []) (names_of kind.outputs ++ names_of kind.wires) names) in
    let outputs : AreDistinct (names_of kind.outputs) = front_distinct (names_of kind.outputs) (names_of kind.wires) (rest_distinct (names_of kind.inputs ++ []) (names_of kind.outputs ++ names_of kind.wires) names) in
    let none : (name : List ℕ) → Contains (names_of kind.inputs) name → Contains (names_of kind.outputs) name → ⊥ = λ name a b.
    apart (names_of kind.inputs ++ []) (names_of kind.outputs ++ names_of kind.wires) name names (Contains-append_left (names_of kind.inputs) [] name a) (Contains-append_left (names_of kind.outputs) (names_of kind.wires) name b) in
    let a = operands_back (width_of plan.top) kind.inputs i.inputs (links_said kind.outputs (map Name i.outputs)) inputs placed.inputs in
    let b = all_passed kind.inputs i.inputs (links_said kind.outputs (map Name i.outputs)) kind.outputs none ∙ names_back (width_of plan.top) kind.outputs i.outputs outputs placed.outputs in
    rw (named, number, a, b) refl

-- ---- the items of the top

pub instances_joined : (kinds : List CellKind) (xs ys : List Item) → instances_in kinds (xs ++ ys) ≡ instances_in kinds xs ++ instances_in kinds ys
instances_joined kinds [] ys = refl
instances_joined kinds (drive d ∷ xs) ys = instances_joined kinds xs ys
instances_joined kinds (widening bit d ∷ xs) ys = instances_joined kinds xs ys
instances_joined kinds (step width s ∷ xs) ys = instances_joined kinds xs ys
instances_joined kinds (instance x ∷ xs) ys = ap (λ more. instance_of kinds x ∷ more) (instances_joined kinds xs ys)

flat_joined : (kinds : List CellKind) (xs ys : List Item) → flat_drives kinds (xs ++ ys) ≡ flat_drives kinds xs ++ flat_drives kinds ys
flat_joined kinds [] ys = refl
flat_joined kinds (drive d ∷ xs) ys = ap (λ more. d ∷ more) (flat_joined kinds xs ys)
flat_joined kinds (widening bit d ∷ xs) ys = ap (λ more. d ∷ more) (flat_joined kinds xs ys)
flat_joined kinds (step width s ∷ xs) ys = flat_joined kinds xs ys
flat_joined kinds (instance x ∷ xs) ys =
    ap (λ more. instance_drives kinds (instance_of kinds x) ++ more) (flat_joined kinds xs ys)
    ∙ sym (append_assoc (instance_drives kinds (instance_of kinds x)) (flat_drives kinds xs) (flat_drives kinds ys))

pub steps_joined : (xs ys : List Item) → steps_of (xs ++ ys) ≡ steps_of xs ++ steps_of ys
steps_joined [] ys = refl
steps_joined (drive d ∷ xs) ys = steps_joined xs ys
steps_joined (widening bit d ∷ xs) ys = steps_joined xs ys
steps_joined (step width s ∷ xs) ys = ap (λ more. s ∷ more) (steps_joined xs ys)
steps_joined (instance x ∷ xs) ys = steps_joined xs ys

-- drives are no instances and no steps
one_drive : (kinds : List CellKind) (widths : Widths) (d : Drive) (o : Operation) (items : List Item)
    → (instances_in kinds (said_by widths d o ∷ items) ≡ instances_in kinds items) × (flat_drives kinds (said_by widths d o ∷ items) ≡ d ∷ flat_drives kinds items) × (steps_of (said_by widths d o ∷ items) ≡ steps_of items)
one_drive kinds widths d (Plain a) items = (refl, refl, refl)
one_drive kinds widths d (Binary a symbol b) items = (refl, refl, refl)
one_drive kinds widths d (Signed a symbol b) items = (refl, refl, refl)
one_drive kinds widths d (Choose a b c) items = (refl, refl, refl)
one_drive kinds widths d (Part name high low) items = (refl, refl, refl)
one_drive kinds widths d (Widen name by) items = (refl, refl, refl)

pub all_drives : (kinds : List CellKind) (widths : Widths) (drives : List Drive)
    → (instances_in kinds (map (drive_said widths) drives) ≡ []) × (flat_drives kinds (map (drive_said widths) drives) ≡ drives) × (steps_of (map (drive_said widths) drives) ≡ [])
all_drives kinds widths [] = (refl, refl, refl)
all_drives kinds widths (d ∷ drives) =
    let one = one_drive kinds widths d d.operation (map (drive_said widths) drives) in
    let more = all_drives kinds widths drives in
    (one.0 ∙ more.0, one.1 ∙ ap (λ rest. d ∷ rest) more.1, one.2 ∙ more.2)

pub all_steps : (kinds : List CellKind) (registers : List Port) (steps : List Step)
    → (instances_in kinds (map (step_said registers) steps) ≡ []) × (flat_drives kinds (map (step_said registers) steps) ≡ []) × (steps_of (map (step_said registers) steps) ≡ steps)
all_steps kinds registers [] = (refl, refl, refl)
all_steps kinds registers (s ∷ steps) =
    let more = all_steps kinds registers steps in
    (more.0, more.1, ap (λ rest. s ∷ rest) more.2)

abbrev instance_items : List CellKind → List Instance → List Item
instance_items kinds instances = map (λ i. instance (instance_said kinds i)) instances

all_instances : (plan : Plan) → HasParts plan → (instances : List Instance) → ((i : Instance) → Contains instances i → Contains plan.instances i)
    → (instances_in plan.kinds (instance_items plan.kinds instances) ≡ instances) × (flat_drives plan.kinds (instance_items plan.kinds instances) ≡ flat_map (instance_drives plan.kinds) instances) × (steps_of (instance_items plan.kinds instances) ≡ [])
all_instances plan modules [] within = (refl, refl, refl)
all_instances plan modules (i ∷ instances) within =
    let back = instance_back plan modules i (within i (first_among i instances)) in
    let more = all_instances plan modules instances (λ j at. within j (more_among i j instances at)) in
    let items = instance_items plan.kinds instances in (
      ap (λ j. j ∷ instances_in plan.kinds items) back ∙ ap (λ rest. i ∷ rest) more.0,
      ap (λ j. instance_drives plan.kinds j ++ flat_drives plan.kinds items) back ∙ ap (λ rest. instance_drives plan.kinds i ++ rest) more.1,
      more.2,
    )

pub wires_back : (wires registers : List Port) → wires_of (map wire wires ++ map register registers) ≡ wires
wires_back [] [] = refl
wires_back [] (port ∷ registers) = wires_back [] registers
wires_back (port ∷ wires) registers = ap (λ ports. port ∷ ports) (wires_back wires registers)

pub registers_back : (wires registers : List Port) → registers_in (map wire wires ++ map register registers) ≡ registers
registers_back [] [] = refl
registers_back [] (port ∷ registers) = ap (λ ports. port ∷ ports) (registers_back [] registers)
registers_back (port ∷ wires) registers = registers_back wires registers

-- ---- the flat module

pub flat_of_said : (plan : Plan) → HasParts plan → flat_text (plan_said plan) ≡ flat_module plan
flat_of_said plan modules =
    let K = plan.kinds in
    let I = instance_items K plan.instances in
    let D = map (drive_said (written_width plan.top)) plan.top.drives in
    let S = map (step_said plan.top.registers) plan.top.steps in
    let kinds : kinds_of (plan_said plan) ≡ K = kinds_back K in
    let i = all_instances plan modules plan.instances (λ j at. at) in
    let d = all_drives K (written_width plan.top) plan.top.drives in
    let s = all_steps K plan.top.registers plan.top.steps in
    let instances : instances_in K (I ++ D ++ S) ≡ plan.instances =
    instances_joined K (I ++ D) S ∙ ap (λ xs. instances_in K (I ++ D) ++ xs) s.0 ∙ append-nil (instances_in K (I ++ D))
    ∙ instances_joined K I D ∙ ap (λ xs. instances_in K I ++ xs) d.0 ∙ append-nil (instances_in K I) ∙ i.0 in
    let drives : flat_drives K (I ++ D ++ S) ≡ flat_map (instance_drives K) plan.instances ++ plan.top.drives =
    flat_joined K (I ++ D) S ∙ ap (λ xs. flat_drives K (I ++ D) ++ xs) s.1 ∙ append-nil (flat_drives K (I ++ D))
    ∙ flat_joined K I D ∙ ap (λ xs. flat_drives K I ++ xs) d.1 ∙ ap (λ xs. xs ++ plan.top.drives) i.1 in
    let steps : steps_of (I ++ D ++ S) ≡ plan.top.steps =
    steps_joined (I ++ D) S ∙ ap (λ xs. xs ++ steps_of S) (steps_joined I D ∙ ap (λ xs. xs ++ steps_of D) i.2 ∙ d.2) ∙ s.2 in
    let wires : wires_of (map wire plan.top.wires ++ map register plan.top.registers) ≡ plan.top.wires = wires_back plan.top.wires plan.top.registers in
    let registers : registers_in (map wire plan.top.wires ++ map register plan.top.registers) ≡ plan.top.registers = registers_back plan.top.wires plan.top.registers in
    rw (kinds, instances, drives, steps, wires, registers) refl

-- ---- a text without instances

-- no item is an instance
abbrev pub ArePlain : List Item → Type 0
ArePlain [] = Unit {0}
ArePlain (drive d ∷ items) = ArePlain items
ArePlain (widening bit d ∷ items) = ArePlain items
ArePlain (step width s ∷ items) = ArePlain items
ArePlain (instance x ∷ items) = ⊥

pub plain_parts : (kinds : List CellKind) (items : List Item) → ArePlain items → (instances_in kinds items ≡ []) × (flat_drives kinds items ≡ drives_of items)
plain_parts kinds [] plain = (refl, refl)
plain_parts kinds (drive d ∷ items) plain = let more = plain_parts kinds items plain in (more.0, ap (λ rest. d ∷ rest) more.1)
plain_parts kinds (widening bit d ∷ items) plain = let more = plain_parts kinds items plain in (more.0, ap (λ rest. d ∷ rest) more.1)
plain_parts kinds (step width s ∷ items) plain = plain_parts kinds items plain
plain_parts kinds (instance x ∷ items) plain = absurd plain

-- such a text is its own flat module
pub plain_flat : (x : Text) → ArePlain x.top.items → flat_text x ≡ module_of x.top
plain_flat x plain =
    let parts = plain_parts (kinds_of x) x.top.items plain in
    let i : instances_in (kinds_of x) x.top.items ≡ [] = parts.0 in
    let d : flat_drives (kinds_of x) x.top.items ≡ drives_of x.top.items = parts.1 in
    rw (i, d, append-nil) refl
