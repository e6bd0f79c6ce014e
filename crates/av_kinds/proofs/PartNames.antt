-- The names of instances and of what they bring are distinct: each begins with the number of its cell.
use Rattle.std.proofs.Common.{◌≡◌, ℕ, zero, suc, ◌+◌, ◌^◌, ◌<◌, ◌≤◌, List, [], ◌∷◌, ◌++◌, length, map, get_or, refl, sym, subst, arith, ◌∙◌, ap, append_assoc}
use Rattle.std.specs.Prelude.{decimal}
use Rattle.std.specs.List.{AllByRecursion, range_with_len, flat_map}
use Rattle.std.proofs.lemmas.List.{map-append, append-nil, length-map}
use Rattle.av_base.proofs.Lists.{each_append, each_weaker}
use Rattle.av_net.specs.declared.netlist.Port.{Port}
use Rattle.av_net.specs.declared.plan.CellKind.{CellKind}
use Rattle.av_net.specs.declared.plan.Instance.{Instance}
use Rattle.av_net.specs.Names.{AreDistinct, clk, rst, names_of, all_names}
use Rattle.av_net.specs.Flat.{part_name, part_port, kind_module, kind_ports, kind_of, instance_wires}
use Rattle.av_net.specs.Plans.{instance_names, part_names}
use Rattle.av_net.specs.Sound.{IsSound}
use Rattle.av_net.proofs.Distinct.{rest_distinct}
use Rattle.av_kinds.specs.Names.{instance_name}
use Rattle.av_kinds.proofs.NameParts.{decimal_once, owner, after, sort, sort_numbered, nothing_distinct}
use Rattle.av_kinds.proofs.OwnNames.{part_owner, part_after, part_sort, part_own}
use Rattle.av_kinds.proofs.PortNames.{joined_apart, letter_distinct}
use Rattle.av_kinds.proofs.TopNames.{one_number, one_after}

-- ---- the names of one instance

named_parts : (u : List ℕ) (ports : List Port) → names_of (map (part_port u) ports) ≡ map (part_name u) (names_of ports)
named_parts u [] = refl
named_parts u (p ∷ ports) = ap (λ (ys : List (List ℕ)). part_name u p.name ∷ ys) (named_parts u ports)

-- a name that an instance from the p-th on brings
record IsPart (low high : ℕ) (x : List ℕ) : Type 0 where
  number : ℕ
  least : low ≤ number
  most : number < high
  of_cell : owner x ≡ decimal number
  own : List ℕ
  behind : after x ≡ 95 ∷ own

parts_apart : (low mid high : ℕ) → high ≤ 10 ^ 64 → (x : List ℕ) → IsPart low mid x → IsPart mid high x → ⊥
parts_apart low mid high few x p q =
    let e = decimal_once p.number q.number (omega (arith, p.most, q.least, q.most)) (omega (arith, q.most)) (sym p.of_cell ∙ q.of_cell) in
    absurd (omega (arith, e, p.most, q.least))

part_wider : (low mid a b : ℕ) → a ≤ low → mid ≤ b → (x : List ℕ) → IsPart low mid x → IsPart a b x
part_wider low mid a b l h x p = record { number = p.number; least = omega (arith, p.least); most = omega (arith, p.most); of_cell = p.of_cell; own = p.own; behind = p.behind }

own_parts : (p : ℕ) → p < 10 ^ 64 → (names : List (List ℕ)) → AllByRecursion (IsPart p (p + 1)) (map (part_name (instance_name p)) names)
own_parts p few [] = tt
own_parts p few (x ∷ names) = (record { number = p; least = omega arith; most = omega arith; of_cell = part_owner p x few; own = x; behind = part_after p x few }, own_parts p few names)

mapped_get : (f : List ℕ → List ℕ) (xs : List (List ℕ)) (i : ℕ) (d : List ℕ) → i < length xs → get_or (map f xs) i d ≡ f (get_or xs i d)
mapped_get f [] i d lt = absurd (omega (arith, lt))
mapped_get f (x ∷ xs) zero d lt = refl
mapped_get f (x ∷ xs) (suc i) d lt = mapped_get f xs i d (omega (arith, lt))

parts_distinct : (p : ℕ) → p < 10 ^ 64 → (names : List (List ℕ)) → AreDistinct names → AreDistinct (map (part_name (instance_name p)) names)
parts_distinct p few names distinct i j d lt lj same =
    let many : length (map (part_name (instance_name p)) names) ≡ length names = length-map names (part_name (instance_name p)) in
    let high : j < length names = omega (arith, lj, many) in
    let left = mapped_get (part_name (instance_name p)) names i d (omega (arith, lt, high)) in
    let right = mapped_get (part_name (instance_name p)) names j d high in
    distinct i j d lt high (part_own p (get_or names i d) (get_or names j d) few (sym left ∙ same ∙ right))

-- ---- all instances

-- the instances of cells from the p-th on, with sound kinds
abbrev pub AreNamed : List CellKind → ℕ → List Instance → Type 0
AreNamed kinds p [] = Unit {0}
AreNamed kinds p (i ∷ instances) = (i.name ≡ instance_name p) × IsSound (kind_module (kind_of kinds i)) × AreNamed kinds (p + 1) instances

kind_names : (kind : CellKind) → IsSound (kind_module kind) → AreDistinct (names_of (kind_ports kind))
kind_names kind sound =
    let e : all_names (kind_module kind) ≡ names_of (kind.inputs ++ (kind.outputs ++ kind.wires)) =
    ap (λ (ys : List (List ℕ)). ys ++ (names_of kind.outputs ++ names_of kind.wires)) (append-nil (names_of kind.inputs))
    ∙ ap (λ (ys : List (List ℕ)). names_of kind.inputs ++ ys) (sym (map-append (λ (p : Port). p.name) kind.outputs kind.wires)) ∙ sym (map-append (λ (p : Port). p.name) kind.inputs (kind.outputs ++ kind.wires)) in
    let f : kind_ports kind ≡ kind.inputs ++ (kind.outputs ++ kind.wires) = append_assoc kind.inputs kind.outputs kind.wires in
    subst (λ (ps : List Port). AreDistinct (names_of ps)) (sym f) (subst AreDistinct e (rest_distinct (clk ∷ rst ∷ []) (all_names (kind_module kind)) sound.declared_once))

record PartsNamed (low high : ℕ) (names : List (List ℕ)) : Type 0 where
  distinct : AreDistinct names
  each : AllByRecursion (IsPart low high) names

parts_of_first : (kinds : List CellKind) (i : Instance) (instances : List Instance) → part_names kinds (i ∷ instances) ≡ names_of (instance_wires kinds i) ++ part_names kinds instances
parts_of_first kinds i instances = map-append (λ (p : Port). p.name) (instance_wires kinds i) (flat_map (instance_wires kinds) instances)

parts_named : (kinds : List CellKind) (p : ℕ) (instances : List Instance) → AreNamed kinds p instances → p + length instances ≤ 10 ^ 64 → PartsNamed p (p + length instances) (part_names kinds instances)
parts_named kinds p [] are few = record { distinct = nothing_distinct; each = tt }
parts_named kinds p (i ∷ instances) are few =
    let kind = kind_of kinds i in
    let high = p + suc (length instances) in
    let e : p + 1 + length instances ≡ high = omega arith in
    let small : p < 10 ^ 64 = omega (arith, few) in
    let names = names_of (kind_ports kind) in
    let own : names_of (instance_wires kinds i) ≡ map (part_name (instance_name p)) names = named_parts i.name (kind_ports kind) ∙ ap (λ u. map (part_name u) names) are.0 in
    let mine = map (part_name (instance_name p)) names in
    let tail = part_names kinds instances in
    let rest : PartsNamed (p + 1) high tail = subst (λ h. PartsNamed (p + 1) h tail) e (parts_named kinds (p + 1) instances are.2 (omega (arith, few, e))) in
    let all : mine ++ tail ≡ part_names kinds (i ∷ instances) = sym (parts_of_first kinds i instances ∙ ap (λ (ys : List (List ℕ)). ys ++ tail) own) in
    subst (PartsNamed p high) all (record {
      distinct = joined_apart (IsPart p (p + 1)) (IsPart (p + 1) high) (parts_apart p (p + 1) high few) mine tail (parts_distinct p small names (kind_names kind are.1)) rest.distinct (own_parts p small names) rest.each;
      each = each_append (IsPart p high) mine tail (each_weaker (IsPart p (p + 1)) (IsPart p high) (part_wider p (p + 1) p high (omega arith) (omega arith)) mine (own_parts p small names)) (each_weaker (IsPart (p + 1) high) (IsPart p high) (part_wider (p + 1) high p high (omega arith) (omega arith)) tail rest.each);
    })

pub names_of_instances : (kinds : List CellKind) (p : ℕ) (instances : List Instance) → AreNamed kinds p instances → instance_names instances ≡ map instance_name (range_with_len p (length instances))
names_of_instances kinds p [] are = refl
names_of_instances kinds p (i ∷ instances) are = ap (λ u. u ∷ instance_names instances) are.0 ∙ ap (λ (ys : List (List ℕ)). instance_name p ∷ ys) (names_of_instances kinds (p + 1) instances are.2)

-- an instance's own name ends behind the number
whole_each : (p n : ℕ) → p + n ≤ 10 ^ 64 → AllByRecursion (λ x. after x ≡ []) (map instance_name (range_with_len p n))
whole_each p zero few = tt
whole_each p (suc n) few = (one_after 117 p (omega (arith, few)), whole_each (p + 1) n (omega (arith, few)))

no_end : (xs : List ℕ) → ◌≡◌ {A = List ℕ} [] (95 ∷ xs) → ⊥
no_end xs e = absurd cc

pub record InstanceNames (names : List (List ℕ)) : Type 0 where
  pub distinct : AreDistinct names
  pub sorts : AllByRecursion (λ x. sort x ≡ 117) names

-- The names of the instances and what they bring are distinct, and each is `u` with a number.
pub instances_named : (kinds : List CellKind) (instances : List Instance) → AreNamed kinds 0 instances → length instances ≤ 10 ^ 64 → InstanceNames (instance_names instances ++ part_names kinds instances)
instances_named kinds instances are few =
    let n = length instances in
    let e = names_of_instances kinds 0 instances are in
    let own = map instance_name (range_with_len 0 n) in
    let parts = parts_named kinds 0 instances are (omega (arith, few)) in
    let tail = part_names kinds instances in
    subst (λ (ys : List (List ℕ)). InstanceNames (ys ++ tail)) (sym e) (record {
      distinct = joined_apart (λ x. after x ≡ []) (IsPart 0 (0 + n)) (λ x p q. no_end q.own (sym p ∙ q.behind)) own tail (letter_distinct 117 0 n (omega (arith, few))) parts.distinct (whole_each 0 n (omega (arith, few))) parts.each;
      sorts = each_append (λ x. sort x ≡ 117) own tail (own_sorts 0 n (omega (arith, few))) (part_sorts kinds 0 instances are (omega (arith, few)));
    })
  where
    own_sorts : (p n : ℕ) → p + n ≤ 10 ^ 64 → AllByRecursion (λ x. sort x ≡ 117) (map instance_name (range_with_len p n))
    own_sorts p zero few = tt
    own_sorts p (suc n) few = (one_number 117 p (omega (arith, few)), own_sorts (p + 1) n (omega (arith, few)))

    mapped_sorts : (p : ℕ) → p < 10 ^ 64 → (names : List (List ℕ)) → AllByRecursion (λ x. sort x ≡ 117) (map (part_name (instance_name p)) names)
    mapped_sorts p small [] = tt
    mapped_sorts p small (x ∷ names) = (part_sort p x small, mapped_sorts p small names)

    part_sorts : (ks : List CellKind) (p : ℕ) (is : List Instance) → AreNamed ks p is → p + length is ≤ 10 ^ 64 → AllByRecursion (λ x. sort x ≡ 117) (part_names ks is)
    part_sorts ks p [] are few = tt
    part_sorts ks p (i ∷ is) are few =
        let names = names_of (kind_ports (kind_of ks i)) in
        let own : names_of (instance_wires ks i) ≡ map (part_name (instance_name p)) names = named_parts i.name (kind_ports (kind_of ks i)) ∙ ap (λ u. map (part_name u) names) are.0 in
        subst (AllByRecursion (λ x. sort x ≡ 117)) (sym (parts_of_first ks i is ∙ ap (λ (ys : List (List ℕ)). ys ++ part_names ks is) own))
        (each_append (λ x. sort x ≡ 117) (map (part_name (instance_name p)) names) (part_names ks is) (mapped_sorts p (omega (arith, few)) names) (part_sorts ks (p + 1) is are.2 (omega (arith, few))))
