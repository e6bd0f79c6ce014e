-- The links that the text of a plan says of an instance: one for each port of its kind, in their order.
use Rattle.std.proofs.Common.{◌≡◌, ℕ, List, [], ◌∷◌, ◌++◌, map, Some, None, refl, sym, ap, subst, ◌∙◌, Bool, true, false, not}
use Rattle.std.specs.Prelude.{◌&&◌, Contains, All, find}
use Rattle.std.specs.List.{flat_map, list_any, AllByRecursion}
use Rattle.std.proofs.lemmas.List.{map-append}
use Rattle.std.proofs.lemmas.List.Concat.{flat_map-append}
use Rattle.std.proofs.lemmas.List.Elements.{recursion_from_All, Contains-append_left, Contains-append_right}
use Rattle.std.proofs.lemmas.Bool.{eq-eqb}
use Rattle.av_base.proofs.Among.{first_among, more_among, among_map}
use Rattle.av_base.proofs.Tables.{is_found, not_there}
use Rattle.av_base.proofs.Truths.{neither}
use Rattle.av_net.specs.declared.operation.Operand.{Operand}
use Rattle.av_net.specs.declared.operation.Operand.TheVariants.{Name, Literal}
use Rattle.av_net.specs.declared.netlist.Port.{Port}
use Rattle.av_net.specs.declared.plan.CellKind.{CellKind}
use Rattle.av_net.specs.declared.plan.Instance.{Instance}
use Rattle.av_net.specs.Meaning.{Widths, operand_width}
use Rattle.av_net.specs.Names.{AreDistinct, names_of, IsAmong, width_in}
use Rattle.av_net.specs.Flat.{kind_of}
use Rattle.av_net.specs.Plans.{SuitPorts, IsPlaced}
use Rattle.av_net.specs.Grammar.{PortLink, instance}
use Rattle.av_net.specs.Rows.{is_in, first_some, kind_named, kind_or, kind_for, is_input_of, is_output_of, driven_by_link, driven_by, wrong_operand, wrong_output, wrong_link, wrong_instance, unlinked_in, suits_port, suits}
use Rattle.av_net.proofs.Distinct.{apart}
use Rattle.av_net.proofs.Declared.{width_here}
use Rattle.av_net.proofs.Linked.{ports_in}
use Rattle.av_net.proofs.Said.{links_said, instance_said}
use Rattle.av_vread.proofs.Each.{all_append}

-- ---- links of some ports

-- each of them is of such a port, with an operand of its width
pub record IsPortLink (widths : Widths) (P : Operand → Type 0) (ports : List Port) (link : PortLink) : Type 0 where
  pub port : Port
  pub among : Contains ports port
  pub named : link.port ≡ port.name
  pub width : operand_width widths link.operand ≡ port.width.bits
  pub holds : P link.operand

port_links : (widths : Widths) (P : Operand → Type 0) (all ports : List Port) (operands : List Operand) → ((port : Port) → Contains ports port → Contains all port) → SuitPorts widths operands ports → AllByRecursion P operands
    → AllByRecursion (IsPortLink widths P all) (links_said ports operands)
port_links widths P all [] [] within suits holds = tt
port_links widths P all [] (operand ∷ operands) within suits holds = absurd suits
port_links widths P all (port ∷ ports) [] within suits holds = absurd suits
port_links widths P all (port ∷ ports) (operand ∷ operands) within suits holds = (
  record { port = port; among = within port (first_among port ports); named = refl; width = suits.0; holds = holds.0 },
  port_links widths P all ports operands (λ other at. within other (more_among port other ports at)) suits.1 holds.1,
)

-- their ports, in order
pub said_ports : (widths : Widths) (ports : List Port) (operands : List Operand) → SuitPorts widths operands ports → ports_in (links_said ports operands) ≡ names_of ports
said_ports widths [] [] suits = refl
said_ports widths [] (operand ∷ operands) suits = absurd suits
said_ports widths (port ∷ ports) [] suits = absurd suits
said_ports widths (port ∷ ports) (operand ∷ operands) suits = ap (λ names. port.name ∷ names) (said_ports widths ports operands suits.1)

-- ---- an instance

-- an operand that is a name
abbrev pub IsWire : List (List ℕ) → Operand → Type 0
IsWire wires (Name name) = Contains wires name
IsWire wires (Literal width value) = ⊥

wires_named : (wires names : List (List ℕ)) → AllByRecursion (Contains wires) names → AllByRecursion (IsWire wires) (map Name names)
wires_named wires [] h = tt
wires_named wires (name ∷ names) h = (h.0, wires_named wires names h.1)

-- an instance of a plan, among these kinds and in a module with these names
pub record IsSaid (kinds : List CellKind) (widths : Widths) (all wires : List (List ℕ)) (i : Instance) : Type 0 where
  pub placed : IsPlaced kinds widths i
  pub named : kind_named kinds (kind_of kinds i).name ≡ Some (kind_of kinds i)
  pub ports : AreDistinct (names_of (kind_of kinds i).inputs ++ names_of (kind_of kinds i).outputs)
  pub reads : All (IsAmong all) i.inputs
  pub takes : AllByRecursion (Contains wires) i.outputs

module _ (kinds : List CellKind) (widths : Widths) (all wires : List (List ℕ)) (i : Instance) (is : IsSaid kinds widths all wires i) where
  abbrev kind : CellKind
  kind = kind_of kinds i

  abbrev links : List PortLink
  links = links_said kind.inputs i.inputs ++ links_said kind.outputs (map Name i.outputs)

  pub kind_there : kind_for kinds (instance_said kinds i) ≡ kind
  kind_there = ap kind_or is.named

  ins : AllByRecursion (IsPortLink widths (IsAmong all) kind.inputs) (links_said kind.inputs i.inputs)
  ins = port_links widths (IsAmong all) kind.inputs kind.inputs i.inputs (λ port at. at) is.placed.inputs (recursion_from_All (IsAmong all) i.inputs is.reads)

  outs : AllByRecursion (IsPortLink widths (IsWire wires) kind.outputs) (links_said kind.outputs (map Name i.outputs))
  outs = port_links widths (IsWire wires) kind.outputs kind.outputs (map Name i.outputs) (λ port at. at) is.placed.outputs (wires_named wires i.outputs is.takes)

  in_input : {P : Operand → Type 0} (link : PortLink) → IsPortLink widths P kind.inputs link → Contains (names_of kind.inputs) link.port
  in_input link l = subst (Contains (names_of kind.inputs)) (sym l.named) (among_map (λ (port : Port). port.name) kind.inputs l.port l.among)

  in_output : {P : Operand → Type 0} (link : PortLink) → IsPortLink widths P kind.outputs link → Contains (names_of kind.outputs) link.port
  in_output link l = subst (Contains (names_of kind.outputs)) (sym l.named) (among_map (λ (port : Port). port.name) kind.outputs l.port l.among)

  an_input : {P : Operand → Type 0} (link : PortLink) → IsPortLink widths P kind.inputs link → (is_input_of kind link.port ≡ true) × (is_output_of kind link.port ≡ false)
  an_input link l = (
    is_found link.port (names_of kind.inputs) (in_input link l),
    not_there link.port (names_of kind.outputs) (λ at. apart (names_of kind.inputs) (names_of kind.outputs) link.port is.ports (in_input link l) at),
  )

  an_output : {P : Operand → Type 0} (link : PortLink) → IsPortLink widths P kind.outputs link → (is_input_of kind link.port ≡ false) × (is_output_of kind link.port ≡ true)
  an_output link l = (
    not_there link.port (names_of kind.inputs) (λ at. apart (names_of kind.inputs) (names_of kind.outputs) link.port is.ports at (in_output link l)),
    is_found link.port (names_of kind.outputs) (in_output link l),
  )

  -- ---- what it drives

  inputs_drive : (ls : List PortLink) → AllByRecursion (IsPortLink widths (IsAmong all) kind.inputs) ls → flat_map (driven_by_link kind) ls ≡ []
  inputs_drive [] h = refl
  inputs_drive (l ∷ ls) h = let e = (an_input l h.0).1 in rw e (inputs_drive ls h.1)

  outputs_drive : (ports : List Port) (names : List (List ℕ)) → SuitPorts widths (map Name names) ports → ((port : Port) → Contains ports port → Contains kind.outputs port)
      → flat_map (driven_by_link kind) (links_said ports (map Name names)) ≡ names
  outputs_drive [] [] suits within = refl
  outputs_drive [] (name ∷ names) suits within = absurd suits
  outputs_drive (port ∷ ports) [] suits within = absurd suits
  outputs_drive (port ∷ ports) (name ∷ names) suits within =
      let e : is_output_of kind port.name ≡ true = is_found port.name (names_of kind.outputs) (among_map (λ (port : Port). port.name) kind.outputs port (within port (first_among port ports))) in
      rw e (ap (λ more. name ∷ more) (outputs_drive ports names suits.1 (λ other at. within other (more_among port other ports at))))

  pub drives_outputs : driven_by kinds (instance (instance_said kinds i)) ≡ i.outputs
  drives_outputs =
      ap (λ (k : CellKind). flat_map (driven_by_link k) links) kind_there
      ∙ flat_map-append (driven_by_link kind) (links_said kind.inputs i.inputs) (links_said kind.outputs (map Name i.outputs))
      ∙ ap (λ names. names ++ flat_map (driven_by_link kind) (links_said kind.outputs (map Name i.outputs))) (inputs_drive (links_said kind.inputs i.inputs) ins)
      ∙ outputs_drive kind.outputs i.outputs is.placed.outputs (λ port at. at)

  -- the ports that it links
  pub links_ports : ports_in links ≡ names_of kind.inputs ++ names_of kind.outputs
  links_ports =
      map-append (λ (link : PortLink). link.port) (links_said kind.inputs i.inputs) (links_said kind.outputs (map Name i.outputs))
      ∙ ap (λ names. names ++ ports_in (links_said kind.outputs (map Name i.outputs))) (said_ports widths kind.inputs i.inputs is.placed.inputs)
      ∙ ap (λ names. names_of kind.inputs ++ names) (said_ports widths kind.outputs (map Name i.outputs) is.placed.outputs)

  -- ---- the rows

  right_input : (link : PortLink) → IsPortLink widths (IsAmong all) kind.inputs link → wrong_link (is_in wires) (is_in all) kind link ≡ None
  right_input link l = let e = (an_input link l).0 in rw e (among_right link.operand l.holds)
    where
      among_right : (o : Operand) → IsAmong all o → wrong_operand (is_in all) o ≡ None
      among_right (Name name) at = let e = is_found name all at in rw e refl
      among_right (Literal width value) at = refl

  right_output : (link : PortLink) → IsPortLink widths (IsWire wires) kind.outputs link → wrong_link (is_in wires) (is_in all) kind link ≡ None
  right_output link l = let e = an_output link l in rw (e.0, e.1) (wire_right link.operand l.holds)
    where
      wire_right : (o : Operand) → IsWire wires o → wrong_output (is_in wires) link.port o ≡ None
      wire_right (Name name) at = let e = is_found name wires at in rw e refl
      wire_right (Literal width value) at = absurd at

  none_wrong : (ls : List PortLink) → AllByRecursion (λ l. wrong_link (is_in wires) (is_in all) kind l ≡ None) ls → first_some (wrong_link (is_in wires) (is_in all) kind) ls ≡ None
  none_wrong [] h = refl
  none_wrong (l ∷ ls) h = rw (h.0, none_wrong ls h.1) refl

  each_as : {P Q : PortLink → Type 0} (ls : List PortLink) → ((l : PortLink) → P l → Q l) → AllByRecursion P ls → AllByRecursion Q ls
  each_as [] f h = tt
  each_as (l ∷ ls) f h = (f l h.0, each_as ls f h.1)

  pub instance_right : wrong_instance (is_in wires) (is_in all) (kind_named kinds (instance_said kinds i).kind) (instance_said kinds i) ≡ None
  instance_right =
      ap (λ o. wrong_instance (is_in wires) (is_in all) o (instance_said kinds i)) is.named
      ∙ none_wrong links (all_append (λ l. wrong_link (is_in wires) (is_in all) kind l ≡ None) (links_said kind.inputs i.inputs) (links_said kind.outputs (map Name i.outputs))
      (each_as (links_said kind.inputs i.inputs) right_input ins) (each_as (links_said kind.outputs (map Name i.outputs)) right_output outs))

  all_found : (names all : List (List ℕ)) → ((name : List ℕ) → Contains names name → Contains all name) → find (λ port. not (is_in all port)) names ≡ None
  all_found [] all within = refl
  all_found (name ∷ names) all within =
      let e = is_found name all (within name (first_among name names)) in
      rw e (all_found names all (λ other at. within other (more_among name other names at)))

  pub all_linked : unlinked_in kinds (instance (instance_said kinds i)) ≡ None
  all_linked =
      ap (λ (k : CellKind). find (λ port. not (is_in (ports_in links) port)) (names_of k.inputs ++ names_of k.outputs)) kind_there
      ∙ all_found (names_of kind.inputs ++ names_of kind.outputs) (ports_in links) (λ name at. subst (λ names. Contains names name) (sym links_ports) at)

  -- where each operand that it reads is among these, none is early
  pub reads_late : (P : Operand → Bool) → AllByRecursion (λ o. P o ≡ false) i.inputs → list_any (λ link. is_input_of kind link.port && P link.operand) links ≡ false
  reads_late P late = joined (links_said kind.inputs i.inputs) (links_said kind.outputs (map Name i.outputs)) (on_inputs kind.inputs i.inputs late) (on_outputs (links_said kind.outputs (map Name i.outputs)) outs)
    where
      joined : (xs ys : List PortLink) → list_any (λ link. is_input_of kind link.port && P link.operand) xs ≡ false → list_any (λ link. is_input_of kind link.port && P link.operand) ys ≡ false
          → list_any (λ link. is_input_of kind link.port && P link.operand) (xs ++ ys) ≡ false
      joined [] ys a b = b
      joined (x ∷ xs) ys a b = let z = neither (is_input_of kind x.port && P x.operand) (list_any (λ link. is_input_of kind link.port && P link.operand) xs) a in rw (z.0, joined xs ys z.1 b) refl

      and_false : (a b : Bool) → b ≡ false → (a && b) ≡ false
      and_false true b e = e
      and_false false b e = refl

      on_inputs : (ports : List Port) (operands : List Operand) → AllByRecursion (λ o. P o ≡ false) operands → list_any (λ link. is_input_of kind link.port && P link.operand) (links_said ports operands) ≡ false
      on_inputs [] operands h = refl
      on_inputs (port ∷ ports) [] h = refl
      on_inputs (port ∷ ports) (operand ∷ operands) h = rw (and_false (is_input_of kind port.name) (P operand) h.0, on_inputs ports operands h.1) refl

      on_outputs : (ls : List PortLink) → AllByRecursion (IsPortLink widths (IsWire wires) kind.outputs) ls → list_any (λ link. is_input_of kind link.port && P link.operand) ls ≡ false
      on_outputs [] h = refl
      on_outputs (l ∷ ls) h = let e = (an_output l h.0).0 in rw (e, on_outputs ls h.1) refl

  -- ---- widths

  suited_link : {P : Operand → Type 0} (some : List Port) (link : PortLink) → ((port : Port) → Contains some port → Contains (kind.inputs ++ kind.outputs) port) → IsPortLink widths P some link → not (suits_port widths (kind.inputs ++ kind.outputs) link) ≡ false
  suited_link some link within l =
      let ports = kind.inputs ++ kind.outputs in
      let distinct : AreDistinct (names_of ports) = subst AreDistinct (sym (map-append (λ (port : Port). port.name) kind.inputs kind.outputs)) is.ports in
      let width : width_in ports link.port ≡ l.port.width.bits = ap (width_in ports) l.named ∙ width_here ports l.port distinct (within l.port l.among) in
      ap not (eq-eqb (operand_width widths link.operand) (width_in ports link.port) (l.width ∙ sym width))

  none_any : (p : PortLink → Bool) (ls : List PortLink) → AllByRecursion (λ l. p l ≡ false) ls → list_any p ls ≡ false
  none_any p [] h = refl
  none_any p (l ∷ ls) h = rw (h.0, none_any p ls h.1) refl

  pub instance_suits : suits kinds widths (instance (instance_said kinds i)) ≡ true
  instance_suits =
      let ports = kind.inputs ++ kind.outputs in
      ap (λ (k : CellKind). not (list_any (λ link. not (suits_port widths (k.inputs ++ k.outputs) link)) links)) kind_there
      ∙ ap not (none_any (λ link. not (suits_port widths (kind.inputs ++ kind.outputs) link)) links (all_append (λ l. not (suits_port widths (kind.inputs ++ kind.outputs) l) ≡ false) (links_said kind.inputs i.inputs) (links_said kind.outputs (map Name i.outputs))
      (each_as (links_said kind.inputs i.inputs) (λ l h. suited_link kind.inputs l (λ port at. Contains-append_left kind.inputs kind.outputs port at) h) ins)
      (each_as (links_said kind.outputs (map Name i.outputs)) (λ l h. suited_link kind.outputs l (λ port at. Contains-append_right kind.inputs kind.outputs port at) h) outs)))
