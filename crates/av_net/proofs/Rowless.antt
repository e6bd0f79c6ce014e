-- A module of a text for which no row of faults holds: its parts go together, and its items stand in order.
use Rattle.std.proofs.Common.{◌≡◌, ◌⊎◌, ℕ, suc, ◌+◌, ◌<◌, Bool, true, false, not, List, [], ◌∷◌, ◌++◌, length, map, get_or, Option, Some, None, refl, sym, ap, subst, ◌∙◌, arith, inl, inr, append_assoc, if◌then◌else◌, true≢false}
use Rattle.std.specs.Prelude.{◌&&◌, Contains, All, find, nat_eq}
use Rattle.std.specs.List.{list_any, flat_map, AllByRecursion}
use Rattle.std.specs.Str.{bytes_eq}
use Rattle.std.proofs.lemmas.Bool.{eqb-true}
use Rattle.std.proofs.lemmas.List.{map-append}
use Rattle.std.proofs.lemmas.List.Elements.{All-from_recursion, Contains-append_left, Contains-append_right, Contains-append_cases}
use Rattle.av_base.specs.Words.{IsWord}
use Rattle.av_base.proofs.Among.{more_among, among_cases, none_among, among_map, from_map}
use Rattle.av_base.proofs.Tables.{is_found, is_there, not_there}
use Rattle.av_base.proofs.Truths.{both, not_true, not_false, by_test}
use Rattle.av_net.specs.declared.operation.Operand.{Operand}
use Rattle.av_net.specs.declared.operation.Operand.TheVariants as operand
use Rattle.av_net.specs.declared.netlist.Port.{Port}
use Rattle.av_net.specs.declared.netlist.Drive.{Drive}
use Rattle.av_net.specs.declared.netlist.Step.{Step}
use Rattle.av_net.specs.declared.netlist.Module.{Module}
use Rattle.av_net.specs.declared.plan.CellKind.{CellKind}
use Rattle.av_net.specs.declared.plan.Instance.{Instance}
use Rattle.av_net.specs.Meaning.{Widths, operand_width, EachOperand}
use Rattle.av_net.specs.Names.{clk, rst, names_of, given_names, wire_names, all_names, targets_of, registers_of, AreDistinct, IsAmong, width_of}
use Rattle.av_net.specs.Sound.{SuitsWidth, IsFitting, ComparesByOrder}
use Rattle.av_net.specs.Flat.{no_kind}
use Rattle.av_net.specs.Plans.{SuitPorts, IsPlaced, instance_names, linked_names, part_names}
use Rattle.av_net.specs.Grammar.{ModuleText, SignalDeclaration, wire, register, PortLink, Instantiation, Item, drive, widening, step, instance}
use Rattle.av_net.specs.Rows.{wires_of, registers_in, drives_of, steps_of, module_of, declared_names, target_of, operands_of, is_in, first_some, kind_named, kind_number, kind_or, kind_for, operand_to, name_in, name_to, instance_of, instances_in, is_input_of, is_output_of, driven_by_link, driven_names, wrong_operand, wrong_output, wrong_link, wrong_instance, wrong_drive, wrong_in, wrong_in_module, unlinked_in, undriven_in_module, is_early, is_early_link, first_early, early_in_module, suits_port, selects_highest, suits_width, suits, unsuited_in_module, of_module, declares, first_again, mentions_of}
use Rattle.av_net.proofs.Distinct.{apart, front_distinct, rest_distinct}
use Rattle.av_net.proofs.Made.{IsMadeTop}
use Rattle.av_net.proofs.FlatTexts.{AreItemsInOrder}
use Rattle.av_net.proofs.InParts.{all_by}
use Rattle.av_net.proofs.Counts.{count, count_none, count_first, count_joined, stands, counted, distinct_by, at_most_once}
use Rattle.av_net.proofs.Linked.{ports_in, IsNamed, AreLinked, count_linked, operands_all, suit_ports, named_back}
use Rattle.av_net.proofs.Mentions.{declared_in, declared_once, driven_once, linked_once}
use Rattle.av_net.proofs.RowTests.{each_none, each_fails, each_operand, all_as, each_by, each_at, none_of, none_both, none_found, drives_all, steps_all, targets_all, registers_all, right_operand, Known, known_operand, known_operation, known_more, suits_so, IsFit, reset_fits}

-- no row holds of a module, behind others with these names
pub record HasModuleRows (kinds : List CellKind) (earlier : List (List ℕ)) (x : ModuleText) : Type 0 where
  pub once : first_again (map of_module earlier ++ declares clk ∷ declares rst ∷ []) (mentions_of kinds x) ≡ None
  pub named_right : wrong_in_module kinds x ≡ None
  pub all_driven : undriven_in_module kinds x ≡ None
  pub in_order : early_in_module kinds x ≡ None
  pub suited : unsuited_in_module kinds x ≡ None

-- no port of these kinds has the name of another
abbrev pub HavePorts : List CellKind → Type 0
HavePorts kinds = (kind : CellKind) → Contains kinds kind → AreDistinct (names_of kind.inputs ++ names_of kind.outputs)

-- ---- instances

-- an instantiation of this kind for which no row holds, in a module with these names
pub record IsPut (kinds : List CellKind) (m : Module) (x : Instantiation) (kind : CellKind) : Type 0 where
  pub number : kind_number kinds x.kind < length kinds
  pub is_kind : get_or kinds (kind_number kinds x.kind) no_kind ≡ kind
  pub ports_once : AreDistinct (names_of kind.inputs ++ names_of kind.outputs)
  pub links_once : AreDistinct (ports_in x.links)
  pub inputs_linked : (port : Port) → Contains kind.inputs port → Contains (ports_in x.links) port.name
  pub outputs_linked : (port : Port) → Contains kind.outputs port → Contains (ports_in x.links) port.name
  pub inputs_read : (link : PortLink) → Contains x.links link → Contains (names_of kind.inputs) link.port → IsAmong (all_names m) link.operand
  pub outputs_named : (link : PortLink) → Contains x.links link → Contains (names_of kind.outputs) link.port → IsNamed link.operand × IsAmong (wire_names m) link.operand
  pub suited : (link : PortLink) → Contains x.links link → suits_port (width_of m) (kind.inputs ++ kind.outputs) link ≡ true
  pub fits : (link : PortLink) → Contains x.links link → IsFitting link.operand

-- the kind of a name, and its number
pub record IsNumbered (kinds : List CellKind) (name : List ℕ) (kind : CellKind) : Type 0 where
  pub among : Contains kinds kind
  pub number : kind_number kinds name < length kinds
  pub is_kind : get_or kinds (kind_number kinds name) no_kind ≡ kind

numbered : (kinds : List CellKind) (name : List ℕ) (kind : CellKind) → kind_named kinds name ≡ Some kind → IsNumbered kinds name kind
numbered [] name kind e = absurd cc
numbered (first ∷ kinds) name kind e = by_test (bytes_eq first.name name)
    (λ same.
    let found : kind_named (first ∷ kinds) name ≡ Some first = rw same refl in
    let here : first ≡ kind = some_same first kind (sym found ∙ e) in
    let zeroth : kind_number (first ∷ kinds) name ≡ 0 = rw same refl in
    record { among = (0, omega arith, here); number = omega arith; is_kind = ap (λ k. get_or (first ∷ kinds) k no_kind) zeroth ∙ here })
    (λ other.
    let found : kind_named (first ∷ kinds) name ≡ kind_named kinds name = rw other refl in
    let later = numbered kinds name kind (sym found ∙ e) in
    let next : kind_number (first ∷ kinds) name ≡ suc (kind_number kinds name) = rw other (omega arith) in
    record {
      among = more_among first kind kinds later.among;
      number = (let h : kind_number kinds name < length kinds = later.number in omega arith);
      is_kind = ap (λ k. get_or (first ∷ kinds) k no_kind) next ∙ later.is_kind;
    })
  where
    some_same : (a b : CellKind) → Some a ≡ Some b → a ≡ b
    some_same a b e = cc

module _ (m : Module) (kind : CellKind) (distinct : AreDistinct (names_of kind.inputs ++ names_of kind.outputs)) where
  -- what is linked to an input port may be read
  input_link : (link : PortLink) → Contains (names_of kind.inputs) link.port → wrong_link (is_in (wire_names m)) (is_in (all_names m)) kind link ≡ None → IsAmong (all_names m) link.operand
  input_link link at e =
      let test : is_input_of kind link.port ≡ true = is_found link.port (names_of kind.inputs) at in
      let same : wrong_link (is_in (wire_names m)) (is_in (all_names m)) kind link ≡ wrong_operand (is_in (all_names m)) link.operand = rw test refl in
      right_operand (all_names m) link.operand (sym same ∙ e)

  output_operand : (port : List ℕ) (o : Operand) → wrong_output (is_in (wire_names m)) port o ≡ None → IsNamed o × IsAmong (wire_names m) o
  output_operand port (operand.Name name) e = by_test (is_in (wire_names m) name)
      (λ there. (tt, is_there name (wire_names m) there))
      (λ other. let same : wrong_output (is_in (wire_names m)) port (operand.Name name) ≡ Some name = rw other refl in absurd cc)
  output_operand port (operand.Literal width value) e = absurd cc

  -- what is linked to an output port is a wire or an output
  output_link : (link : PortLink) → Contains (names_of kind.outputs) link.port → wrong_link (is_in (wire_names m)) (is_in (all_names m)) kind link ≡ None → IsNamed link.operand × IsAmong (wire_names m) link.operand
  output_link link at e =
      let none : is_input_of kind link.port ≡ false = not_there link.port (names_of kind.inputs) (λ here. apart (names_of kind.inputs) (names_of kind.outputs) link.port distinct here at) in
      let test : is_output_of kind link.port ≡ true = is_found link.port (names_of kind.outputs) at in
      let same : wrong_link (is_in (wire_names m)) (is_in (all_names m)) kind link ≡ wrong_output (is_in (wire_names m)) link.port link.operand = rw (none, test) refl in
      output_operand link.port link.operand (sym same ∙ e)

linked_port : (links : List PortLink) (names : List (List ℕ)) (name : List ℕ) → find (λ port. not (is_in (ports_in links) port)) names ≡ None → Contains names name → Contains (ports_in links) name
linked_port links names name e at =
    is_there name (ports_in links) (each_at (λ name. is_in (ports_in links) name ≡ true) names name (each_fails (is_in (ports_in links)) names e) at)

suited_link : (widths : Widths) (ports : List Port) (links : List PortLink) → not (list_any (λ link. not (suits_port widths ports link)) links) ≡ true → (link : PortLink) → Contains links link → suits_port widths ports link ≡ true
suited_link widths ports links e link at =
    let none = none_of (λ link. not (suits_port widths ports link)) links (not_true (list_any (λ link. not (suits_port widths ports link)) links) e) in
    not_false (suits_port widths ports link) (each_at (λ link. not (suits_port widths ports link) ≡ false) links link none at)

put : (kinds : List CellKind) → HavePorts kinds → (m : Module) (x : Instantiation) → AreDistinct (ports_in x.links)
    → wrong_instance (is_in (wire_names m)) (is_in (all_names m)) (kind_named kinds x.kind) x ≡ None → unlinked_in kinds (instance x) ≡ None
    → suits kinds (width_of m) (instance x) ≡ true → AllByRecursion (λ link. IsFitting link.operand) x.links → IsPut kinds m x (kind_for kinds x)
put kinds ports m x once wrong unlinked suit fit = go (kind_named kinds x.kind) refl wrong
  where
    go : (o : Option CellKind) → kind_named kinds x.kind ≡ o → wrong_instance (is_in (wire_names m)) (is_in (all_names m)) o x ≡ None → IsPut kinds m x (kind_for kinds x)
    go None e w = absurd cc
    go (Some kind) e w =
        let n = numbered kinds x.kind kind e in
        let is : kind_for kinds x ≡ kind = ap kind_or e in
        let distinct = ports kind n.among in
        let names = names_of kind.inputs ++ names_of kind.outputs in
        let right : AllByRecursion (λ link. wrong_link (is_in (wire_names m)) (is_in (all_names m)) kind link ≡ None) x.links = each_none (wrong_link (is_in (wire_names m)) (is_in (all_names m)) kind) x.links w in
        let none : find (λ port. not (is_in (ports_in x.links) port)) (names_of kind.inputs ++ names_of kind.outputs) ≡ None =
        subst (λ (k : CellKind). find (λ port. not (is_in (ports_in x.links) port)) (names_of k.inputs ++ names_of k.outputs) ≡ None) is unlinked in
        let widths : not (list_any (λ link. not (suits_port (width_of m) (kind.inputs ++ kind.outputs) link)) x.links) ≡ true =
        subst (λ (k : CellKind). not (list_any (λ link. not (suits_port (width_of m) (k.inputs ++ k.outputs) link)) x.links) ≡ true) is suit in
        subst (IsPut kinds m x) (sym is) (record {
          number = n.number;
          is_kind = n.is_kind;
          ports_once = distinct;
          links_once = once;
          inputs_linked = λ port at. linked_port x.links names port.name none (Contains-append_left (names_of kind.inputs) (names_of kind.outputs) port.name (among_map (λ (port : Port). port.name) kind.inputs port at));
          outputs_linked = λ port at. linked_port x.links names port.name none (Contains-append_right (names_of kind.inputs) (names_of kind.outputs) port.name (among_map (λ (port : Port). port.name) kind.outputs port at));
          inputs_read = λ link at here. input_link m kind distinct link here (each_at (λ link. wrong_link (is_in (wire_names m)) (is_in (all_names m)) kind link ≡ None) x.links link right at);
          outputs_named = λ link at here. output_link m kind distinct link here (each_at (λ link. wrong_link (is_in (wire_names m)) (is_in (all_names m)) kind link ≡ None) x.links link right at);
          suited = suited_link (width_of m) (kind.inputs ++ kind.outputs) x.links widths;
          fits = λ link at. each_at (λ link. IsFitting link.operand) x.links link fit at;
        })

-- ---- what such an instance has at its ports

module _ (kinds : List CellKind) (m : Module) (x : Instantiation) (is : IsPut kinds m x (kind_for kinds x)) where
  at_outputs : AllByRecursion (λ o. IsNamed o × IsAmong (wire_names m) o) (map (operand_to x.links) (kind_for kinds x).outputs)
  at_outputs = operands_all (λ o. IsNamed o × IsAmong (wire_names m) o) x.links (kind_for kinds x).outputs is.outputs_linked is.outputs_named

  outputs_linked : AreLinked x.links (kind_for kinds x).outputs
  outputs_linked = each_by (λ port. Contains (ports_in x.links) port.name × IsNamed (operand_to x.links port)) (kind_for kinds x).outputs (λ port at.
      (is.outputs_linked port at, (each_at (λ o. IsNamed o × IsAmong (wire_names m) o) (map (operand_to x.links) (kind_for kinds x).outputs) (operand_to x.links port) at_outputs (among_map (operand_to x.links) (kind_for kinds x).outputs port at)).0))

  pub outputs_are_wires : AllByRecursion (Contains (wire_names m)) (instance_of kinds x).outputs
  outputs_are_wires = each_by (Contains (wire_names m)) (map (name_to x.links) (kind_for kinds x).outputs) (λ name at.
      let (port, here, same) = from_map (name_to x.links) (kind_for kinds x).outputs name at in
      let (named, within) = each_at (λ o. IsNamed o × IsAmong (wire_names m) o) (map (operand_to x.links) (kind_for kinds x).outputs) (operand_to x.links port) at_outputs (among_map (operand_to x.links) (kind_for kinds x).outputs port here) in
      subst (Contains (wire_names m)) same (the_name (operand_to x.links port) named within))
    where
      the_name : (o : Operand) → IsNamed o → IsAmong (wire_names m) o → Contains (wire_names m) (name_in o)
      the_name (operand.Name name) named within = within
      the_name (operand.Literal width value) named within = absurd named

  -- what its links drive, in the order of the kind's outputs
  pub driven_same : (name : List ℕ) → count name (instance_of kinds x).outputs ≡ count name (flat_map (driven_by_link (kind_for kinds x)) x.links)
  driven_same name =
      count_linked name (kind_for kinds x).outputs x.links (rest_distinct (names_of (kind_for kinds x).inputs) (names_of (kind_for kinds x).outputs) is.ports_once) is.links_once outputs_linked

  pub inputs_may : (P : Operand → Type 0) → ((link : PortLink) → Contains x.links link → Contains (names_of (kind_for kinds x).inputs) link.port → P link.operand) → AllByRecursion P (instance_of kinds x).inputs
  inputs_may P each = operands_all P x.links (kind_for kinds x).inputs is.inputs_linked each

  pub instance_placed : IsPlaced kinds (width_of m) (instance_of kinds x)
  instance_placed =
      let kind = kind_for kinds x in
      let all = kind.inputs ++ kind.outputs in
      let distinct : AreDistinct (names_of all) = subst AreDistinct (sym (map-append (λ (port : Port). port.name) kind.inputs kind.outputs)) is.ports_once in
      let inputs : SuitPorts (width_of m) (map (operand_to x.links) kind.inputs) kind.inputs =
      suit_ports (width_of m) x.links all distinct kind.inputs (λ port at. Contains-append_left kind.inputs kind.outputs port at) is.inputs_linked is.suited in
      let outputs : SuitPorts (width_of m) (map (operand_to x.links) kind.outputs) kind.outputs =
      suit_ports (width_of m) x.links all distinct kind.outputs (λ port at. Contains-append_right kind.inputs kind.outputs port at) is.outputs_linked is.suited in
      let named : SuitPorts (width_of m) (map operand.Name (map (name_to x.links) kind.outputs)) kind.outputs =
      subst (λ os. SuitPorts (width_of m) os kind.outputs) (sym (named_back x.links kind.outputs outputs_linked)) outputs in
      record {
        kind = is.number;
        inputs = subst (λ (k : CellKind). SuitPorts (width_of m) (map (operand_to x.links) kind.inputs) k.inputs) (sym is.is_kind) inputs;
        outputs = subst (λ (k : CellKind). SuitPorts (width_of m) (map operand.Name (map (name_to x.links) kind.outputs)) k.outputs) (sym is.is_kind) named;
      }

-- ---- items

-- what an item for which no row holds is, but for its place among others
abbrev pub IsGood : List CellKind → Module → Item → Type 0
IsGood kinds m (drive d) = Contains (wire_names m) d.target × EachOperand (IsAmong (all_names m)) d.operation
IsGood kinds m (widening bit d) = Contains (wire_names m) d.target × EachOperand (IsAmong (all_names m)) d.operation
IsGood kinds m (step width s) = Contains (names_of m.registers) s.register × IsAmong (all_names m) s.next
IsGood kinds m (instance x) = IsPut kinds m x (kind_for kinds x)

good_drive : (m : Module) (d : Drive) → wrong_drive (is_in (wire_names m)) (is_in (all_names m)) d ≡ None → Contains (wire_names m) d.target × EachOperand (IsAmong (all_names m)) d.operation
good_drive m d e = by_test (is_in (wire_names m) d.target)
    (λ there.
    let same : wrong_drive (is_in (wire_names m)) (is_in (all_names m)) d ≡ first_some (wrong_operand (is_in (all_names m))) (operands_of d.operation) = rw there refl in (
      is_there d.target (wire_names m) there,
      each_operand (IsAmong (all_names m)) d.operation
          (all_as (operands_of d.operation) (right_operand (all_names m)) (each_none (wrong_operand (is_in (all_names m))) (operands_of d.operation) (sym same ∙ e))),
    ))
    (λ other. let same : wrong_drive (is_in (wire_names m)) (is_in (all_names m)) d ≡ Some d.target = rw other refl in absurd cc)

good_step : (m : Module) (s : Step) → (if is_in (names_of m.registers) s.register then wrong_operand (is_in (all_names m)) s.next else Some s.register) ≡ None
    → Contains (names_of m.registers) s.register × IsAmong (all_names m) s.next
good_step m s e = by_test (is_in (names_of m.registers) s.register)
    (λ there. (is_there s.register (names_of m.registers) there, right_operand (all_names m) s.next (rw there at e)))
    (λ other. let none : Some s.register ≡ None = rw other at e in absurd cc)

-- the tests of an item
pub record IsTested (kinds : List CellKind) (m : Module) (item : Item) : Type 0 where
  pub right : wrong_in kinds (is_in (wire_names m)) (is_in (names_of m.registers)) (is_in (all_names m)) item ≡ None
  pub linked : unlinked_in kinds item ≡ None
  pub suited : suits kinds (width_of m) item ≡ true
  pub fit : IsFit item

good_item : (kinds : List CellKind) → HavePorts kinds → (m : Module) (item : Item) → ((x : Instantiation) → item ≡ instance x → AreDistinct (ports_in x.links)) → IsTested kinds m item → IsGood kinds m item
good_item kinds ports m (drive d) once t = good_drive m d t.right
good_item kinds ports m (widening bit d) once t = good_drive m d t.right
good_item kinds ports m (step width s) once t = good_step m s t.right
good_item kinds ports m (instance x) once t = put kinds ports m x (once x refl) t.right t.linked t.suited t.fit

-- ---- the names that items drive

count_items : (kinds : List CellKind) (m : Module) (name : List ℕ) (items : List Item) → AllByRecursion (IsGood kinds m) items
    → count name (driven_names kinds items) ≡ count name (linked_names (instances_in kinds items)) + (count name (targets_of (drives_of items)) + count name (registers_of (steps_of items)))
count_items kinds m name [] good = let none = count_none name in omega arith
count_items kinds m name (drive d ∷ items) good =
    let more = count_items kinds m name items good.1 in
    let a = count_first name d.target (driven_names kinds items) in
    let b = count_first name d.target (targets_of (drives_of items)) in
    omega arith
count_items kinds m name (widening bit d ∷ items) good =
    let more = count_items kinds m name items good.1 in
    let a = count_first name d.target (driven_names kinds items) in
    let b = count_first name d.target (targets_of (drives_of items)) in
    omega arith
count_items kinds m name (step width s ∷ items) good =
    let more = count_items kinds m name items good.1 in
    let a = count_first name s.register (driven_names kinds items) in
    let b = count_first name s.register (registers_of (steps_of items)) in
    omega arith
count_items kinds m name (instance x ∷ items) good =
    let more = count_items kinds m name items good.1 in
    let own = flat_map (driven_by_link (kind_for kinds x)) x.links in
    let here = driven_same kinds m x good.0 name in
    let a = count_joined name own (driven_names kinds items) in
    let b = count_joined name (instance_of kinds x).outputs (linked_names (instances_in kinds items)) in
    omega arith

-- a fact on each instance
instances_all : (kinds : List CellKind) (P : Item → Type 0) (Q : Instance → Type 0) (items : List Item) → ((x : Instantiation) → P (instance x) → Q (instance_of kinds x)) → AllByRecursion P items → AllByRecursion Q (instances_in kinds items)
instances_all kinds P Q [] f h = tt
instances_all kinds P Q (drive d ∷ items) f h = instances_all kinds P Q items f h.1
instances_all kinds P Q (widening bit d ∷ items) f h = instances_all kinds P Q items f h.1
instances_all kinds P Q (step width s ∷ items) f h = instances_all kinds P Q items f h.1
instances_all kinds P Q (instance x ∷ items) f h = (f x h.0, instances_all kinds P Q items f h.1)

linked_all : (P : List ℕ → Type 0) (instances : List Instance) → AllByRecursion (λ i. AllByRecursion P i.outputs) instances → AllByRecursion P (linked_names instances)
linked_all P [] h = tt
linked_all P (i ∷ instances) h = joined i.outputs (linked_names instances) h.0 (linked_all P instances h.1)
  where
    joined : (xs ys : List (List ℕ)) → AllByRecursion P xs → AllByRecursion P ys → AllByRecursion P (xs ++ ys)
    joined [] ys a b = b
    joined (x ∷ xs) ys a b = (a.0, joined xs ys a.1 b)

-- ---- items in order

module _ (kinds : List CellKind) (m : Module) where
  abbrev Knows : List (List ℕ) → List (List ℕ) → Type 0
  Knows known earlier = Known (all_names m) (wire_names m) (given_names m) known earlier

  one_more_drive : (known earlier : List (List ℕ)) (t : List ℕ) → Knows known earlier → Knows (known ++ t ∷ []) (earlier ++ t ∷ [])
  one_more_drive known earlier t k =
      known_more (all_names m) (wire_names m) (given_names m) known (known ++ t ∷ []) earlier (t ∷ []) k (λ n c. Contains-append_left known (t ∷ []) n c) (λ n c. Contains-append_right known (t ∷ []) n c)

  -- an input of an instance is known
  link_known : (known earlier : List (List ℕ)) (x : Instantiation) → Knows known earlier → IsPut kinds m x (kind_for kinds x)
      → list_any (is_early_link (is_in (wire_names m)) (is_in earlier) (kind_for kinds x)) x.links ≡ false
      → (link : PortLink) → Contains x.links link → Contains (names_of (kind_for kinds x).inputs) link.port → IsAmong known link.operand
  link_known known earlier x k is e link at here =
      let test : is_input_of (kind_for kinds x) link.port ≡ true = is_found link.port (names_of (kind_for kinds x).inputs) here in
      let early : (is_input_of (kind_for kinds x) link.port && is_early (is_in (wire_names m)) (is_in earlier) link.operand) ≡ false =
      each_at (λ link. is_early_link (is_in (wire_names m)) (is_in earlier) (kind_for kinds x) link ≡ false) x.links link
      (none_of (is_early_link (is_in (wire_names m)) (is_in earlier) (kind_for kinds x)) x.links e) at in
      known_operand (all_names m) (wire_names m) (given_names m) known earlier link.operand k (is.inputs_read link at here) (rw test at early)

  go_on : (item : Item) (test : Bool) (later : Option (List ℕ)) → (if test then Some (target_of item) else later) ≡ None → (test ≡ false) × (later ≡ None)
  go_on item true later e = absurd cc
  go_on item false later e = (refl, e)

  pub items_in_order : (items : List Item) (known earlier : List (List ℕ)) → Knows known earlier → AllByRecursion (IsGood kinds m) items → first_early kinds (is_in (wire_names m)) earlier items ≡ None → AreItemsInOrder kinds known items
  items_in_order [] known earlier k good e = tt
  items_in_order (drive d ∷ items) known earlier k good e =
      let (early, later) = go_on (drive d) (list_any (is_early (is_in (wire_names m)) (is_in earlier)) (operands_of d.operation)) (first_early kinds (is_in (wire_names m)) (earlier ++ d.target ∷ []) items) e in (
        known_operation (all_names m) (wire_names m) (given_names m) known earlier d.operation k good.0.1 (none_of (is_early (is_in (wire_names m)) (is_in earlier)) (operands_of d.operation) early),
        items_in_order items (known ++ d.target ∷ []) (earlier ++ d.target ∷ []) (one_more_drive known earlier d.target k) good.1 later,
      )
  items_in_order (widening bit d ∷ items) known earlier k good e =
      let (early, later) = go_on (widening bit d) (list_any (is_early (is_in (wire_names m)) (is_in earlier)) (operands_of d.operation)) (first_early kinds (is_in (wire_names m)) (earlier ++ d.target ∷ []) items) e in (
        known_operation (all_names m) (wire_names m) (given_names m) known earlier d.operation k good.0.1 (none_of (is_early (is_in (wire_names m)) (is_in earlier)) (operands_of d.operation) early),
        items_in_order items (known ++ d.target ∷ []) (earlier ++ d.target ∷ []) (one_more_drive known earlier d.target k) good.1 later,
      )
  items_in_order (step width s ∷ items) known earlier k good e =
      items_in_order items known (earlier ++ s.register ∷ [])
      (known_more (all_names m) (wire_names m) (given_names m) known known earlier (s.register ∷ []) k (λ n c. c) (λ n c.
      k.first n (Contains-append_right (names_of m.inputs) (names_of m.registers) n (subst (Contains (names_of m.registers)) (only s.register n c) good.0.0)))) good.1 e
    where
      only : (a n : List ℕ) → Contains (a ∷ []) n → a ≡ n
      only a n c = elim (among_cases a n [] c) [
        | inl same ↦ same
        | inr none ↦ absurd (none_among n none)
      ]
  items_in_order (instance x ∷ items) known earlier k good e =
      let own = flat_map (driven_by_link (kind_for kinds x)) x.links in
      let outputs = (instance_of kinds x).outputs in
      let (early, later) = go_on (instance x) (list_any (is_early_link (is_in (wire_names m)) (is_in earlier) (kind_for kinds x)) x.links) (first_early kinds (is_in (wire_names m)) (earlier ++ own) items) e in (
        All-from_recursion (IsAmong known) (instance_of kinds x).inputs (inputs_may kinds m x good.0 (IsAmong known) (link_known known earlier x k good.0 early)),
        items_in_order items (known ++ outputs) (earlier ++ own)
            (known_more (all_names m) (wire_names m) (given_names m) known (known ++ outputs) earlier own k (λ n c. Contains-append_left known outputs n c) (λ n c.
            let same = driven_same kinds m x good.0 n in
            let there = stands n own c in
            Contains-append_right known outputs n (counted n outputs (omega arith)))) good.1 later,
      )

-- ---- the declarations of a module

count_declared : (name : List ℕ) (ds : List SignalDeclaration) → count name (names_of (wires_of ds)) + count name (names_of (registers_in ds)) ≡ count name (declared_names ds)
count_declared name [] = let none = count_none name in omega arith
count_declared name (wire port ∷ ds) =
    let more = count_declared name ds in
    let a = count_first name port.name (names_of (wires_of ds)) in
    let b = count_first name port.name (declared_names ds) in
    omega arith
count_declared name (register port ∷ ds) =
    let more = count_declared name ds in
    let a = count_first name port.name (names_of (registers_in ds)) in
    let b = count_first name port.name (declared_names ds) in
    omega arith

-- the names of a module, in the order of the text and of the module
pub count_names : (name : List ℕ) (x : ModuleText) → count name (all_names (module_of x)) ≡ count name (declared_in x)
count_names name x =
    let i = names_of x.inputs in
    let o = names_of x.outputs in
    let w = names_of (wires_of x.declarations) in
    let r = names_of (registers_in x.declarations) in
    let d = declared_names x.declarations in
    let parts = count_declared name x.declarations in
    let a = count_joined name (i ++ r) (o ++ w) in
    let b = count_joined name i r in
    let c = count_joined name o w in
    let e = count_joined name (i ++ o) d in
    let f = count_joined name i o in
    omega arith

-- and with others behind them
pub names_moved : (x : ModuleText) (front more : List (List ℕ)) → AreDistinct (front ++ (declared_in x ++ more)) → AreDistinct (front ++ (all_names (module_of x) ++ more))
names_moved x front more distinct = distinct_by (front ++ (all_names (module_of x) ++ more)) (λ name.
    let same = count_names name x in
    let a = count_joined name front (all_names (module_of x) ++ more) in
    let b = count_joined name (all_names (module_of x)) more in
    let c = count_joined name front (declared_in x ++ more) in
    let d = count_joined name (declared_in x) more in
    let most = at_most_once (front ++ (declared_in x ++ more)) name distinct in
    omega arith)

-- ---- the module

module _ (kinds : List CellKind) (ports : HavePorts kinds) (earlier : List (List ℕ)) (x : ModuleText) (rows : HasModuleRows kinds earlier x) (fit : AllByRecursion IsFit x.items) where
  abbrev own : Module
  own = module_of x

  abbrev instances : List Instance
  instances = instances_in kinds x.items

  -- its names, and the instances'
  names : AreDistinct (clk ∷ rst ∷ (declared_in x ++ instance_names instances))
  names = declared_once kinds earlier x rows.once

  suited : AllByRecursion (λ item. suits kinds (width_of own) item ≡ true) x.items
  suited = each_fails (suits kinds (width_of own)) x.items (none_found target_of (find (λ item. not (suits kinds (width_of own) item)) x.items) rows.suited)

  undriven : (find (λ name. not (is_in (driven_names kinds x.items) name)) (names_of x.outputs ++ declared_names x.declarations) ≡ None) × (first_some (unlinked_in kinds) x.items ≡ None)
  undriven = none_both (find (λ name. not (is_in (driven_names kinds x.items) name)) (names_of x.outputs ++ declared_names x.declarations)) (first_some (unlinked_in kinds) x.items) rows.all_driven

  good : AllByRecursion (IsGood kinds own) x.items
  good = each_by (IsGood kinds own) x.items (λ item at.
      good_item kinds ports own item (λ i is. linked_once kinds earlier x rows.once i (subst (Contains x.items) is at)) (record {
        right = each_at (λ item. wrong_in kinds (is_in (wire_names own)) (is_in (names_of own.registers)) (is_in (all_names own)) item ≡ None) x.items item
            (each_none (wrong_in kinds (is_in (wire_names own)) (is_in (names_of own.registers)) (is_in (all_names own))) x.items rows.named_right) at;
        linked = each_at (λ item. unlinked_in kinds item ≡ None) x.items item (each_none (unlinked_in kinds) x.items undriven.1) at;
        suited = each_at (λ item. suits kinds (width_of own) item ≡ true) x.items item suited at;
        fit = each_at IsFit x.items item fit at;
      }))

  driven_apart : AreDistinct (linked_names instances ++ (targets_of (drives_of x.items) ++ registers_of (steps_of x.items)))
  driven_apart = distinct_by (linked_names instances ++ (targets_of (drives_of x.items) ++ registers_of (steps_of x.items))) (λ name.
      let same = count_items kinds own name x.items good in
      let a = count_joined name (linked_names instances) (targets_of (drives_of x.items) ++ registers_of (steps_of x.items)) in
      let b = count_joined name (targets_of (drives_of x.items)) (registers_of (steps_of x.items)) in
      let most = at_most_once (driven_names kinds x.items) name (driven_once kinds earlier x rows.once) in
      omega arith)

  links_wires : AllByRecursion (Contains (wire_names own)) (linked_names instances)
  links_wires = linked_all (Contains (wire_names own)) instances (instances_all kinds (IsGood kinds own) (λ i. AllByRecursion (Contains (wire_names own)) i.outputs) x.items (λ i put. outputs_are_wires kinds own i put) good)

  drives_wires : AllByRecursion (Contains (wire_names own)) (targets_of (drives_of x.items))
  drives_wires = targets_all (Contains (wire_names own)) (drives_of x.items) (drives_all (IsGood kinds own) (λ d. Contains (wire_names own) d.target) x.items (λ d g. g.0) (λ bit d g. g.0) good)

  steps_registers : AllByRecursion (Contains (names_of own.registers)) (registers_of (steps_of x.items))
  steps_registers = registers_all (Contains (names_of own.registers)) (steps_of x.items) (steps_all (IsGood kinds own) (λ s. Contains (names_of own.registers) s.register) x.items (λ width s g. g.0) good)

  -- no register is a wire or an output
  apart_names : (n : List ℕ) → Contains (names_of own.registers) n → Contains (wire_names own) n → ⊥
  apart_names n a b =
      let all : AreDistinct (clk ∷ rst ∷ (all_names own ++ instance_names instances)) = names_moved x (clk ∷ rst ∷ []) (instance_names instances) names in
      apart (given_names own) (wire_names own) n (front_distinct (all_names own) (instance_names instances) (rest_distinct (clk ∷ rst ∷ []) (all_names own ++ instance_names instances) all))
      (Contains-append_right (names_of own.inputs) (names_of own.registers) n a) b

  -- what is declared for it is driven
  driven : (n : List ℕ) → Contains (names_of x.outputs ++ declared_names x.declarations) n → Contains (linked_names instances ++ targets_of (drives_of x.items)) n ⊎ Contains (registers_of (steps_of x.items)) n
  driven n c =
      let there : Contains (driven_names kinds x.items) n = is_there n (driven_names kinds x.items)
      (each_at (λ n. is_in (driven_names kinds x.items) n ≡ true) (names_of x.outputs ++ declared_names x.declarations) n (each_fails (is_in (driven_names kinds x.items)) (names_of x.outputs ++ declared_names x.declarations) undriven.0) c) in
      let same = count_items kinds own n x.items good in
      let one = stands n (driven_names kinds x.items) there in
      let a = count_joined n (linked_names instances) (targets_of (drives_of x.items)) in
      let b = count_joined n (linked_names instances ++ targets_of (drives_of x.items)) (registers_of (steps_of x.items)) in
      Contains-append_cases (linked_names instances ++ targets_of (drives_of x.items)) (registers_of (steps_of x.items)) n
      (counted n ((linked_names instances ++ targets_of (drives_of x.items)) ++ registers_of (steps_of x.items)) (omega arith))

  wire_declared : (n : List ℕ) → Contains (names_of (wires_of x.declarations)) n → Contains (declared_names x.declarations) n
  wire_declared n c = let same = count_declared n x.declarations in let one = stands n (names_of (wires_of x.declarations)) c in counted n (declared_names x.declarations) (omega arith)

  register_declared : (n : List ℕ) → Contains (names_of (registers_in x.declarations)) n → Contains (declared_names x.declarations) n
  register_declared n c = let same = count_declared n x.declarations in let one = stands n (names_of (registers_in x.declarations)) c in counted n (declared_names x.declarations) (omega arith)

  wire_driven : (n : List ℕ) → Contains (wire_names own) n → Contains (linked_names instances ++ targets_of (drives_of x.items)) n
  wire_driven n c =
      elim (driven n (here (Contains-append_cases (names_of x.outputs) (names_of (wires_of x.declarations)) n c))) [
        | inl d ↦ d
        | inr s ↦ absurd (apart_names n (each_at (Contains (names_of own.registers)) (registers_of (steps_of x.items)) n steps_registers s) c)
      ]
    where
      here : Contains (names_of x.outputs) n ⊎ Contains (names_of (wires_of x.declarations)) n → Contains (names_of x.outputs ++ declared_names x.declarations) n
      here (inl a) = Contains-append_left (names_of x.outputs) (declared_names x.declarations) n a
      here (inr b) = Contains-append_right (names_of x.outputs) (declared_names x.declarations) n (wire_declared n b)

  register_stepped : (n : List ℕ) → Contains (names_of own.registers) n → Contains (registers_of (steps_of x.items)) n
  register_stepped n c =
      elim (driven n (Contains-append_right (names_of x.outputs) (declared_names x.declarations) n (register_declared n c))) [
        | inl d ↦ elim (Contains-append_cases (linked_names instances) (targets_of (drives_of x.items)) n d) [
          | inl linked ↦ absurd (apart_names n c (each_at (Contains (wire_names own)) (linked_names instances) n links_wires linked))
          | inr target ↦ absurd (apart_names n c (each_at (Contains (wire_names own)) (targets_of (drives_of x.items)) n drives_wires target))
        ]
        | inr s ↦ s
      ]

  known : Known (all_names own) (wire_names own) (given_names own) (given_names own) []
  known = record {
    first = λ n c. c;
    driven = λ n a w. elim (Contains-append_cases (given_names own) (wire_names own) n a) [
      | inl g ↦ g
      | inr b ↦ absurd (true≢false (sym (w (is_found n (wire_names own) b))))
    ];
  }

  -- its items read what is known before them
  pub module_order : AreItemsInOrder kinds (given_names own) x.items
  module_order = items_in_order kinds own x.items (given_names own) [] known good rows.in_order

  -- its parts go together, where its names and those that its instances bring are apart
  pub made_module : AreDistinct (clk ∷ rst ∷ (declared_in x ++ (instance_names instances ++ part_names kinds instances))) → IsMadeTop kinds own instances
  made_module distinct = record {
    declared_once = subst AreDistinct (sym (line (all_names own) (instance_names instances) (part_names kinds instances))) (names_moved x (clk ∷ rst ∷ []) (instance_names instances ++ part_names kinds instances) distinct);
    driven_once = subst AreDistinct (sym (append_assoc (linked_names instances) (targets_of (drives_of x.items)) (registers_of (steps_of x.items)))) driven_apart;
    links_wires = All-from_recursion (Contains (wire_names own)) (linked_names instances) links_wires;
    drives_wires = All-from_recursion (Contains (wire_names own)) (targets_of (drives_of x.items)) drives_wires;
    steps_registers = All-from_recursion (Contains (names_of own.registers)) (registers_of (steps_of x.items)) steps_registers;
    instances_read = All-from_recursion (λ i. All (IsAmong (all_names own)) i.inputs) instances
        (instances_all kinds (IsGood kinds own) (λ i. All (IsAmong (all_names own)) i.inputs) x.items (λ i put. All-from_recursion (IsAmong (all_names own)) (instance_of kinds i).inputs (inputs_may kinds own i put (IsAmong (all_names own)) put.inputs_read)) good);
    drives_read = All-from_recursion (λ d. EachOperand (IsAmong (all_names own)) d.operation) (drives_of x.items)
        (drives_all (IsGood kinds own) (λ d. EachOperand (IsAmong (all_names own)) d.operation) x.items (λ d g. g.1) (λ bit d g. g.1) good);
    steps_read = All-from_recursion (λ s. IsAmong (all_names own) s.next) (steps_of x.items) (steps_all (IsGood kinds own) (λ s. IsAmong (all_names own) s.next) x.items (λ width s g. g.1) good);
    wires_driven = all_by (Contains (linked_names instances ++ targets_of (drives_of x.items))) (wire_names own) wire_driven;
    registers_stepped = all_by (Contains (registers_of (steps_of x.items))) (names_of own.registers) register_stepped;
    placed = All-from_recursion (IsPlaced kinds (width_of own)) instances (instances_all kinds (IsGood kinds own) (IsPlaced kinds (width_of own)) x.items (λ i put. instance_placed kinds own i put) good);
    drive_widths = All-from_recursion (λ d. SuitsWidth (width_of own) (width_of own d.target) d.operation) (drives_of x.items)
        (drives_all (λ item. suits kinds (width_of own) item ≡ true) (λ d. SuitsWidth (width_of own) (width_of own d.target) d.operation) x.items
        (λ d e. suits_so (width_of own) (width_of own d.target) d.operation e)
        (λ bit d e. suits_so (width_of own) (width_of own d.target) d.operation (both (selects_highest (width_of own) bit d.operation) (suits_width (width_of own) (width_of own d.target) d.operation) e).1) suited);
    step_widths = All-from_recursion (λ s. operand_width (width_of own) s.next ≡ width_of own s.register) (steps_of x.items)
        (steps_all (λ item. suits kinds (width_of own) item ≡ true) (λ s. operand_width (width_of own) s.next ≡ width_of own s.register) x.items
        (λ width s e. eqb-true _ _ (both (nat_eq width.bits (width_of own s.register)) (nat_eq (operand_width (width_of own) s.next) (width_of own s.register)) e).1) suited);
    instances_fit = All-from_recursion (λ i. All IsFitting i.inputs) instances
        (instances_all kinds (IsGood kinds own) (λ i. All IsFitting i.inputs) x.items (λ i put. All-from_recursion IsFitting (instance_of kinds i).inputs (inputs_may kinds own i put IsFitting (λ link at here. put.fits link at))) good);
    drives_fit = All-from_recursion (λ d. EachOperand IsFitting d.operation) (drives_of x.items) (drives_all IsFit (λ d. EachOperand IsFitting d.operation) x.items (λ d f. f.0) (λ bit d f. f.0) fit);
    steps_fit = All-from_recursion (λ s. IsFitting s.next) (steps_of x.items) (steps_all IsFit (λ s. IsFitting s.next) x.items (λ width s f. f.0) fit);
    resets_fit = All-from_recursion (λ s. IsWord (width_of own s.register) s.reset) (steps_of x.items) (reset_fits kinds (width_of own) x.items fit suited);
    orders = All-from_recursion (λ d. ComparesByOrder d.operation) (drives_of x.items) (drives_all IsFit (λ d. ComparesByOrder d.operation) x.items (λ d f. f.1) (λ bit d f. f.1) fit);
  }
    where
      line : (all own parts : List (List ℕ)) → clk ∷ rst ∷ all ++ own ++ parts ≡ clk ∷ rst ∷ (all ++ (own ++ parts))
      line all own parts = ap (λ names. clk ∷ rst ∷ names) (append_assoc all own parts)
