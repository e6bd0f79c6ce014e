-- What the links of an instantiation say of the instance: where each port of its kind is linked, and once, an operand
-- stands at each input port and a name at each output port.
use Rattle.std.proofs.Common.{◌≡◌, ℕ, ◌+◌, List, [], ◌∷◌, map, refl, sym, ◌∙◌, ap, subst, arith, true, false, if◌then◌else◌, inl, inr, true≢false}
use Rattle.std.specs.Prelude.{Contains}
use Rattle.std.specs.List.{flat_map, AllByRecursion}
use Rattle.std.specs.Str.{bytes_eq}
use Rattle.std.proofs.lemmas.Bool.{eqb-true}
use Rattle.std.proofs.lemmas.List.{append-nil}
use Rattle.std.proofs.lemmas.Slice.Eq.{bytes_eq-Decides}
use Rattle.av_base.proofs.Among.{first_among, more_among, among_cases, none_among, among_map}
use Rattle.av_base.proofs.Tables.{not_there}
use Rattle.av_base.proofs.Truths.{by_test}
use Rattle.av_net.specs.declared.operation.Operand.{Operand}
use Rattle.av_net.specs.declared.operation.Operand.TheVariants.{Name, Literal}
use Rattle.av_net.specs.declared.netlist.Port.{Port}
use Rattle.av_net.specs.Meaning.{Widths, operand_width}
use Rattle.av_net.specs.Names.{AreDistinct, names_of, width_in}
use Rattle.av_net.specs.Plans.{SuitPorts}
use Rattle.av_net.specs.Grammar.{PortLink}
use Rattle.av_net.specs.Rows.{is_in, operand_to, name_in, name_to, names_in, suits_port}
use Rattle.av_net.proofs.Distinct.{apart, rest_distinct}
use Rattle.av_net.proofs.Settles.{not_equal}
use Rattle.av_net.proofs.Declared.{width_here}
use Rattle.av_net.proofs.Counts.{once, count, count_none, count_first, count_one, count_joined}

-- ---- the link of a port

abbrev pub ports_in : List PortLink → List (List ℕ)
ports_in links = map (λ link. link.port) links

-- a link of this port stands among the links, and its operand is what the port has
pub record IsLinkOf (links : List PortLink) (port : List ℕ) (operand : Operand) : Type 0 where
  pub link : PortLink
  pub among : Contains links link
  pub of_port : link.port ≡ port
  pub has : link.operand ≡ operand

pub link_of : (links : List PortLink) (port : Port) → Contains (ports_in links) port.name → IsLinkOf links port.name (operand_to links port)
link_of [] port at = absurd (none_among port.name at)
link_of (link ∷ links) port at = by_test (bytes_eq link.port port.name)
    (λ same. record { link = link; among = first_among link links; of_port = (bytes_eq-Decides link.port port.name).0 same; has = rw same refl })
    (λ other.
    let later : Contains (ports_in links) port.name = elim (among_cases link.port port.name (ports_in links) at) [
      | inl same ↦ absurd (true≢false (sym ((bytes_eq-Decides link.port port.name).1 same) ∙ other))
      | inr more ↦ more
    ] in
    let rest = link_of links port later in
    record { link = rest.link; among = more_among link rest.link links rest.among; of_port = rest.of_port; has = rest.has ∙ rw other refl })

-- ---- the names that links drive, port by port

-- what the links of one port name
abbrev pub at_port : List ℕ → PortLink → List (List ℕ)
at_port port link = if bytes_eq link.port port then names_in link.operand else []

-- what the links of some ports name
abbrev pub at_ports : List Port → PortLink → List (List ℕ)
at_ports ports link = if is_in (names_of ports) link.port then names_in link.operand else []

no_link : (port : List ℕ) (links : List PortLink) → (Contains (ports_in links) port → ⊥) → flat_map (at_port port) links ≡ []
no_link port [] none = refl
no_link port (link ∷ links) none =
    let other : bytes_eq link.port port ≡ false = not_equal link.port port (λ same. none (0, omega arith, same)) in
    let more = no_link port links (λ at. none (more_among link.port port (ports_in links) at)) in
    rw (other, more) refl

-- a port that is linked once, to a name
port_names : (links : List PortLink) (port : Port) → AreDistinct (ports_in links) → Contains (ports_in links) port.name → flat_map (at_port port.name) links ≡ names_in (operand_to links port)
port_names [] port distinct at = absurd (none_among port.name at)
port_names (link ∷ links) port distinct at = by_test (bytes_eq link.port port.name)
    (λ same.
    let is : link.port ≡ port.name = (bytes_eq-Decides link.port port.name).0 same in
    let none : flat_map (at_port port.name) links ≡ [] = no_link port.name links (λ later. apart (link.port ∷ []) (ports_in links) port.name distinct (0, omega arith, is) later) in
    rw (same, none, append-nil) refl)
    (λ other.
    let later : Contains (ports_in links) port.name = elim (among_cases link.port port.name (ports_in links) at) [
      | inl same ↦ absurd (true≢false (sym ((bytes_eq-Decides link.port port.name).1 same) ∙ other))
      | inr more ↦ more
    ] in
    let rest = port_names links port (rest_distinct (link.port ∷ []) (ports_in links) distinct) later in
    rw (other, rest) refl)

-- one link, where a port stands before others
one_link : (name : List ℕ) (port : Port) (ports : List Port) (link : PortLink) → (Contains (names_of ports) port.name → ⊥)
    → count name (at_ports (port ∷ ports) link) ≡ count name (at_port port.name link) + count name (at_ports ports link)
one_link name port ports link none = by_test (bytes_eq link.port port.name)
    (λ same.
    let is : link.port ≡ port.name = (bytes_eq-Decides link.port port.name).0 same in
    let other : is_in (names_of ports) link.port ≡ false = not_there link.port (names_of ports) (λ at. none (subst (Contains (names_of ports)) is at)) in
    let zero : count name [] ≡ 0 = count_none name in
    rw (same, other) (omega arith))
    (λ differs. let zero : count name [] ≡ 0 = count_none name in rw differs (omega arith))

several_links : (name : List ℕ) (port : Port) (ports : List Port) (links : List PortLink) → (Contains (names_of ports) port.name → ⊥)
    → count name (flat_map (at_ports (port ∷ ports)) links) ≡ count name (flat_map (at_port port.name) links) + count name (flat_map (at_ports ports) links)
several_links name port ports [] none = let zero : count name [] ≡ 0 = count_none name in omega arith
several_links name port ports (link ∷ links) none =
    let here = one_link name port ports link none in
    let more = several_links name port ports links none in
    let a = count_joined name (at_ports (port ∷ ports) link) (flat_map (at_ports (port ∷ ports)) links) in
    let b = count_joined name (at_port port.name link) (flat_map (at_port port.name) links) in
    let c = count_joined name (at_ports ports link) (flat_map (at_ports ports) links) in
    omega arith

no_ports : (name : List ℕ) (links : List PortLink) → count name (flat_map (at_ports []) links) ≡ 0
no_ports name [] = count_none name
no_ports name (link ∷ links) = no_ports name links

-- an operand that is a name
abbrev pub IsNamed : Operand → Type 0
IsNamed (Name name) = Unit {0}
IsNamed (Literal width value) = ⊥

named_once : (operand : Operand) → IsNamed operand → names_in operand ≡ name_in operand ∷ []
named_once (Name name) is = refl
named_once (Literal width value) is = absurd is

-- each of these ports is linked, to a name
abbrev pub AreLinked : List PortLink → List Port → Type 0
AreLinked links ports = AllByRecursion (λ port. Contains (ports_in links) port.name × IsNamed (operand_to links port)) ports

-- the names at the ports are those that the links of these ports name, in another order
pub count_linked : (name : List ℕ) (ports : List Port) (links : List PortLink) → AreDistinct (names_of ports) → AreDistinct (ports_in links) → AreLinked links ports
    → count name (map (name_to links) ports) ≡ count name (flat_map (at_ports ports) links)
count_linked name [] links ports_once links_once linked = count_none name ∙ sym (no_ports name links)
count_linked name (port ∷ ports) links ports_once links_once linked =
    let more = count_linked name ports links (rest_distinct (port.name ∷ []) (names_of ports) ports_once) links_once linked.1 in
    let none : Contains (names_of ports) port.name → ⊥ = λ at. apart (port.name ∷ []) (names_of ports) port.name ports_once (0, omega arith, refl) at in
    let split = several_links name port ports links none in
    let same : flat_map (at_port port.name) links ≡ name_to links port ∷ [] = port_names links port links_once linked.0.0 ∙ named_once (operand_to links port) linked.0.1 in
    let here : count name (flat_map (at_port port.name) links) ≡ once name (name_to links port) = ap (count name) same ∙ count_one name (name_to links port) in
    let first = count_first name (name_to links port) (map (name_to links) ports) in
    omega arith

-- ---- what stands at the ports

-- a fact on each operand that stands at these ports
pub operands_all : (P : Operand → Type 0) (links : List PortLink) (ports : List Port) → ((port : Port) → Contains ports port → Contains (ports_in links) port.name)
    → ((link : PortLink) → Contains links link → Contains (names_of ports) link.port → P link.operand) → AllByRecursion P (map (operand_to links) ports)
operands_all P links ports linked each = go ports (λ port at. at)
  where
    go : (some : List Port) → ((port : Port) → Contains some port → Contains ports port) → AllByRecursion P (map (operand_to links) some)
    go [] within = tt
    go (port ∷ some) within =
        let at = within port (first_among port some) in
        let l = link_of links port (linked port at) in
        let named : Contains (names_of ports) l.link.port = subst (Contains (names_of ports)) (sym l.of_port) (among_map (λ (port : Port). port.name) ports port at) in
        (subst P l.has (each l.link l.among named), go some (λ other more. within other (more_among port other some more)))

-- the width of an operand is that of its port
pub suit_ports : (widths : Widths) (links : List PortLink) (all : List Port) → AreDistinct (names_of all) → (ports : List Port) → ((port : Port) → Contains ports port → Contains all port)
    → ((port : Port) → Contains ports port → Contains (ports_in links) port.name) → ((link : PortLink) → Contains links link → suits_port widths all link ≡ true)
    → SuitPorts widths (map (operand_to links) ports) ports
suit_ports widths links all distinct [] within linked suits = tt
suit_ports widths links all distinct (port ∷ ports) within linked suits =
    let l = link_of links port (linked port (first_among port ports)) in
    let is : operand_width widths l.link.operand ≡ width_in all l.link.port = eqb-true (operand_width widths l.link.operand) (width_in all l.link.port) (suits l.link l.among) in
    let width : width_in all port.name ≡ port.width.bits = width_here all port distinct (within port (first_among port ports)) in (
      ap (operand_width widths) (sym l.has) ∙ is ∙ ap (width_in all) l.of_port ∙ width,
      suit_ports widths links all distinct ports (λ other at. within other (more_among port other ports at)) (λ other at. linked other (more_among port other ports at)) suits,
    )

-- operands that are names are those names
pub named_back : (links : List PortLink) (ports : List Port) → AreLinked links ports → map Name (map (name_to links) ports) ≡ map (operand_to links) ports
named_back links [] linked = refl
named_back links (port ∷ ports) linked = rw (back (operand_to links port) linked.0.1, named_back links ports linked.1) refl
  where
    back : (operand : Operand) → IsNamed operand → Name (name_in operand) ≡ operand
    back (Name name) is = refl
    back (Literal width value) is = absurd is
