-- No row of faults holds of the text of a plan with sound modules.
use Rattle.std.proofs.Common.{◌≡◌, ℕ, ◌+◌, ◌-◌, ◌≤◌, Bool, true, false, if◌then◌else◌, not, List, [], ◌∷◌, ◌++◌, map, Option, Some, None, refl, sym, ap, subst, ◌∙◌, arith, inl, inr, append_assoc, eq-eqb}
use Rattle.std.specs.Prelude.{◌&&◌, nat_eq, nat_lt, All, Contains, find, option_map}
use Rattle.std.specs.List.{flat_map, list_any, AllByRecursion}
use Rattle.std.specs.Str.{bytes_eq}
use Rattle.std.proofs.lemmas.Bool.{lt-ltb}
use Rattle.std.proofs.lemmas.List.{append-nil, map-append}
use Rattle.std.proofs.lemmas.List.Concat.{flat_map-append}
use Rattle.std.proofs.lemmas.List.Elements.{recursion_from_All, All-contains, Contains-append_left, Contains-append_right, Contains-append_cases}
use Rattle.std.proofs.lemmas.Slice.Eq.{bytes_eq-Decides}
use Rattle.av_base.proofs.Among.{first_among, more_among, none_among, from_map, among_flat_map}
use Rattle.av_base.proofs.Tables.{is_found, is_there, not_there}
use Rattle.av_base.proofs.Truths.{and_true, by_test}
use Rattle.av_net.specs.declared.operation.Operand.{Operand}
use Rattle.av_net.specs.declared.operation.Operand.TheVariants as operand
use Rattle.av_net.specs.declared.operation.Operation.{Operation}
use Rattle.av_net.specs.declared.operation.Operation.TheVariants as operation
use Rattle.av_net.specs.declared.netlist.Port.{Port}
use Rattle.av_net.specs.declared.netlist.Drive.{Drive}
use Rattle.av_net.specs.declared.netlist.Step.{Step}
use Rattle.av_net.specs.declared.netlist.Module.{Module}
use Rattle.av_net.specs.declared.plan.CellKind.{CellKind}
use Rattle.av_net.specs.declared.plan.Instance.{Instance}
use Rattle.av_net.specs.declared.plan.Plan.{Plan}
use Rattle.av_net.specs.Meaning.{Widths, operand_width, EachOperand}
use Rattle.av_net.specs.Names.{clk, rst, names_of, given_names, wire_names, all_names, targets_of, registers_of, AreDistinct, IsAmong, width_in, declarations, width_of}
use Rattle.av_net.specs.Sound.{IsInOrder, symbol_width, SuitsWidth, IsSound}
use Rattle.av_net.specs.Texts.{written_width}
use Rattle.av_net.specs.Flat.{kind_module, kind_of, instance_wires}
use Rattle.av_net.specs.Plans.{instance_names, linked_names, part_names, AreInOrder, IsSoundTop, HasSoundModules}
use Rattle.av_net.specs.Grammar.{ModuleText, wire, register, PortLink, Instantiation, Item, drive, widening, step, instance}
use Rattle.av_net.specs.Rows.{wires_of, registers_in, drives_of, steps_of, module_of, kinds_of, modules_of, declared_names, target_of, operands_of, is_in, first_some, first_from, first_repeated, Among, instance_of, instances_in, kind_for, driven_by_link, driven_by, driven_names, link_mentions, reads_early, is_early_link, of_module, declares, drives, first_again, item_mentions, mentions_of, twice_from, twice_name, wrong_operand, wrong_drive, wrong_in, wrong_in_module, unlinked_in, undriven_in_module, is_early, first_early, early_in_module, suits_width, selects_highest, suits, unsuited_in_module}
use Rattle.av_net.specs.Designs.{HasNoRow}
use Rattle.av_net.proofs.Distinct.{apart, front_distinct, rest_distinct}
use Rattle.av_net.proofs.Declared.{width_here, register_declared, names_declared}
use Rattle.av_net.proofs.Settles.{not_equal, names_distinct}
use Rattle.av_net.proofs.RowTests.{each_by}
use Rattle.av_net.proofs.Made.{made}
use Rattle.av_net.proofs.Alone.{alone_top}
use Rattle.av_net.proofs.InParts.{kind_sound, named_port}
use Rattle.av_net.proofs.FlatTargets.{placed_at}
use Rattle.av_net.proofs.Counts.{count, count_joined, distinct_by, at_most_once}
use Rattle.av_net.proofs.Mentions.{declared_in, front_of, all_declared_in, picked_in, items_drive, own_links, nested, linked_at, driven_at, nothing_twice}
use Rattle.av_net.proofs.Rowless.{count_names}
use Rattle.av_net.proofs.Said.{drive_said, said_by, kind_said, step_said, instance_said, plan_said, width_for, width_for_is, kinds_back, found_at, instances_joined, steps_joined, all_drives, all_steps, wires_back, registers_back, drives_said, instance_back}
use Rattle.av_vread.proofs.Each.{all_append, all_front, all_back, all_map, all_unmap, all_weaker, both_all}
use Rattle.av_vread.proofs.FreshMentions.{module_at, fresh_none}
use Rattle.av_vread.proofs.SaidLinks.{IsSaid, kind_there, drives_outputs, links_ports, instance_right, all_linked, reads_late, instance_suits}

-- ---- drives, steps and instances as items

drive_drives : (kinds : List CellKind) (widths : Widths) (d : Drive) (o : Operation) → driven_by kinds (said_by widths d o) ≡ d.target ∷ []
drive_drives kinds widths d (operation.Plain a) = refl
drive_drives kinds widths d (operation.Binary a s b) = refl
drive_drives kinds widths d (operation.Signed a s b) = refl
drive_drives kinds widths d (operation.Choose a b c) = refl
drive_drives kinds widths d (operation.Part name high low) = refl
drive_drives kinds widths d (operation.Widen name by) = refl

drive_links : (kinds : List CellKind) (u : List ℕ) (widths : Widths) (d : Drive) (o : Operation) → flat_map (linked_at u) (item_mentions kinds (said_by widths d o)) ≡ []
drive_links kinds u widths d (operation.Plain a) = refl
drive_links kinds u widths d (operation.Binary a s b) = refl
drive_links kinds u widths d (operation.Signed a s b) = refl
drive_links kinds u widths d (operation.Choose a b c) = refl
drive_links kinds u widths d (operation.Part name high low) = refl
drive_links kinds u widths d (operation.Widen name by) = refl

drive_unlinked : (kinds : List CellKind) (widths : Widths) (d : Drive) (o : Operation) → unlinked_in kinds (said_by widths d o) ≡ None
drive_unlinked kinds widths d (operation.Plain a) = refl
drive_unlinked kinds widths d (operation.Binary a s b) = refl
drive_unlinked kinds widths d (operation.Signed a s b) = refl
drive_unlinked kinds widths d (operation.Choose a b c) = refl
drive_unlinked kinds widths d (operation.Part name high low) = refl
drive_unlinked kinds widths d (operation.Widen name by) = refl

wrong_same : (kinds : List CellKind) (wires registers all : Among) (widths : Widths) (d : Drive) (o : Operation) → wrong_in kinds wires registers all (said_by widths d o) ≡ wrong_drive wires all d
wrong_same kinds wires registers all widths d (operation.Plain a) = refl
wrong_same kinds wires registers all widths d (operation.Binary a s b) = refl
wrong_same kinds wires registers all widths d (operation.Signed a s b) = refl
wrong_same kinds wires registers all widths d (operation.Choose a b c) = refl
wrong_same kinds wires registers all widths d (operation.Part name high low) = refl
wrong_same kinds wires registers all widths d (operation.Widen name by) = refl

-- a drive that reads nothing early is passed over
first_drive : (kinds : List CellKind) (wires : Among) (widths : Widths) (earlier : List (List ℕ)) (d : Drive) (o : Operation) (items : List Item) → list_any (is_early wires (is_in earlier)) (operands_of d.operation) ≡ false
    → first_early kinds wires earlier (said_by widths d o ∷ items) ≡ first_early kinds wires (earlier ++ d.target ∷ []) items
first_drive kinds wires widths earlier d (operation.Plain a) items late = rw late refl
first_drive kinds wires widths earlier d (operation.Binary a s b) items late = rw late refl
first_drive kinds wires widths earlier d (operation.Signed a s b) items late = rw late refl
first_drive kinds wires widths earlier d (operation.Choose a b c) items late = rw late refl
first_drive kinds wires widths earlier d (operation.Part name high low) items late = rw late refl
first_drive kinds wires widths earlier d (operation.Widen name by) items late = rw late refl

first_instance : (kinds : List CellKind) (wires : Among) (earlier : List (List ℕ)) (y : Instantiation) (items : List Item) → reads_early kinds wires (is_in earlier) (instance y) ≡ false
    → first_early kinds wires earlier (instance y ∷ items) ≡ first_early kinds wires (earlier ++ driven_by kinds (instance y)) items
first_instance kinds wires earlier y items late = passed (reads_early kinds wires (is_in earlier) (instance y)) y.name (first_early kinds wires (earlier ++ driven_by kinds (instance y)) items) late
  where
    passed : (test : Bool) (name : List ℕ) (later : Option (List ℕ)) → test ≡ false → (if test then Some name else later) ≡ later
    passed test name later e = rw e refl

-- links of an instance with another name
none_linked : (u : List ℕ) (kind : CellKind) (v : List ℕ) (ls : List PortLink) → bytes_eq u v ≡ false → flat_map (linked_at u) (flat_map (link_mentions kind v) ls) ≡ []
none_linked u kind v [] other = refl
none_linked u kind v (l ∷ ls) other =
    flat_map-append (linked_at u) (link_mentions kind v l) (flat_map (link_mentions kind v) ls)
    ∙ ap (λ here. here ++ flat_map (linked_at u) (flat_map (link_mentions kind v) ls)) here ∙ none_linked u kind v ls other
  where
    none_driven : (names : List (List ℕ)) → flat_map (linked_at u) (map drives names) ≡ []
    none_driven [] = refl
    none_driven (name ∷ names) = none_driven names

    here : flat_map (linked_at u) (link_mentions kind v l) ≡ []
    here = rw other (none_driven (driven_by_link kind l))

-- the names of modules, and no other mention
modules_in : (kinds : List CellKind) (earlier : List (List ℕ)) (x : ModuleText) → flat_map module_at (front_of earlier ++ mentions_of kinds x) ≡ earlier ++ x.name ∷ []
modules_in kinds earlier x =
    flat_map-append module_at (front_of earlier) (mentions_of kinds x)
    ∙ ap (λ names. names ++ flat_map module_at (mentions_of kinds x)) (flat_map-append module_at (map of_module earlier) (declares clk ∷ declares rst ∷ []) ∙ append-nil _ ∙ all_modules earlier)
    ∙ ap (λ names. earlier ++ x.name ∷ names) (flat_map-append module_at (map declares (declared_in x)) (flat_map (item_mentions kinds) x.items)
    ∙ ap (λ names. names ++ flat_map module_at (flat_map (item_mentions kinds) x.items)) (none_declared (declared_in x)) ∙ none_items x.items)
  where
    all_modules : (names : List (List ℕ)) → flat_map module_at (map of_module names) ≡ names
    all_modules [] = refl
    all_modules (name ∷ names) = ap (λ more. name ∷ more) (all_modules names)

    none_declared : (names : List (List ℕ)) → flat_map module_at (map declares names) ≡ []
    none_declared [] = refl
    none_declared (name ∷ names) = none_declared names

    none_driven : (names : List (List ℕ)) → flat_map module_at (map drives names) ≡ []
    none_driven [] = refl
    none_driven (name ∷ names) = none_driven names

    none_links : (kind : CellKind) (v : List ℕ) (ls : List PortLink) → flat_map module_at (flat_map (link_mentions kind v) ls) ≡ []
    none_links kind v [] = refl
    none_links kind v (l ∷ ls) =
        flat_map-append module_at (link_mentions kind v l) (flat_map (link_mentions kind v) ls)
        ∙ ap (λ here. here ++ flat_map module_at (flat_map (link_mentions kind v) ls)) (none_driven (driven_by_link kind l)) ∙ none_links kind v ls

    none_items : (items : List Item) → flat_map module_at (flat_map (item_mentions kinds) items) ≡ []
    none_items [] = refl
    none_items (drive d ∷ items) = none_items items
    none_items (widening bit d ∷ items) = none_items items
    none_items (step width s ∷ items) = none_items items
    none_items (instance y ∷ items) =
        flat_map-append module_at (flat_map (link_mentions (kind_for kinds y) y.name) y.links) (flat_map (item_mentions kinds) items)
        ∙ ap (λ here. here ++ flat_map module_at (flat_map (item_mentions kinds) items)) (none_links (kind_for kinds y) y.name y.links) ∙ none_items items

-- ---- tests

module _ {X Y : Type 0} (f : X → Option Y) where
  nothing : (xs : List X) → AllByRecursion (λ x. f x ≡ None) xs → first_some f xs ≡ None
  nothing [] h = refl
  nothing (x ∷ xs) h = rw (h.0, nothing xs h.1) refl

found_none : {X : Type 0} (p : X → Bool) (xs : List X) → AllByRecursion (λ x. p x ≡ false) xs → find p xs ≡ None
found_none p [] h = refl
found_none p (x ∷ xs) h = rw h.0 (found_none p xs h.1)

right_operand : (names : List (List ℕ)) (x : Operand) → IsAmong names x → wrong_operand (is_in names) x ≡ None
right_operand names (operand.Name name) h = rw (is_found name names h) refl
right_operand names (operand.Literal width value) h = refl

right_operation : (names : List (List ℕ)) (o : Operation) → EachOperand (IsAmong names) o → first_some (wrong_operand (is_in names)) (operands_of o) ≡ None
right_operation names (operation.Plain x) h = nothing (wrong_operand (is_in names)) (x ∷ []) (right_operand names x h, tt)
right_operation names (operation.Binary x s y) h = nothing (wrong_operand (is_in names)) (x ∷ y ∷ []) (right_operand names x h.0, (right_operand names y h.1, tt))
right_operation names (operation.Signed x s y) h = nothing (wrong_operand (is_in names)) (x ∷ y ∷ []) (right_operand names x h.0, (right_operand names y h.1, tt))
right_operation names (operation.Choose c x y) h = nothing (wrong_operand (is_in names)) (c ∷ x ∷ y ∷ []) (right_operand names c h.0, (right_operand names x h.1, (right_operand names y h.2, tt)))
right_operation names (operation.Part name high low) h = nothing (wrong_operand (is_in names)) (operand.Name name ∷ []) (right_operand names (operand.Name name) h, tt)
right_operation names (operation.Widen name by) h = nothing (wrong_operand (is_in names)) (operand.Name name ∷ []) (right_operand names (operand.Name name) h, tt)

-- wires among the known names were driven earlier
abbrev AreEarlier : Among → List (List ℕ) → List (List ℕ) → Type 0
AreEarlier wires known earlier = (n : List ℕ) → Contains known n → wires n ≡ true → is_in earlier n ≡ true

not_early : (wires : Among) (known earlier : List (List ℕ)) → AreEarlier wires known earlier → (x : Operand) → IsAmong known x → is_early wires (is_in earlier) x ≡ false
not_early wires known earlier h (operand.Name name) k = go (wires name) refl
  where
    go : (t : Bool) → wires name ≡ t → (t && not (is_in earlier name)) ≡ false
    go true e = ap not (h name k e)
    go false e = refl
not_early wires known earlier h (operand.Literal width value) k = refl

none_early : (wires : Among) (known earlier : List (List ℕ)) → AreEarlier wires known earlier → (o : Operation) → EachOperand (IsAmong known) o → list_any (is_early wires (is_in earlier)) (operands_of o) ≡ false
none_early wires known earlier h (operation.Plain x) k = rw (not_early wires known earlier h x k) refl
none_early wires known earlier h (operation.Binary x s y) k = rw (not_early wires known earlier h x k.0, not_early wires known earlier h y k.1) refl
none_early wires known earlier h (operation.Signed x s y) k = rw (not_early wires known earlier h x k.0, not_early wires known earlier h y k.1) refl
none_early wires known earlier h (operation.Choose c x y) k = rw (not_early wires known earlier h c k.0, not_early wires known earlier h x k.1, not_early wires known earlier h y k.2) refl
none_early wires known earlier h (operation.Part name high low) k = rw (not_early wires known earlier h (operand.Name name) k) refl
none_early wires known earlier h (operation.Widen name by) k = rw (not_early wires known earlier h (operand.Name name) k) refl

earlier_more : (wires : Among) (known earlier more : List (List ℕ)) → AreEarlier wires known earlier → AreEarlier wires (known ++ more) (earlier ++ more)
earlier_more wires known earlier more h n k w = elim (Contains-append_cases known more n k) [
  | inl before ↦ is_found n (earlier ++ more) (Contains-append_left earlier more n (is_there n earlier (h n before w)))
  | inr now ↦ is_found n (earlier ++ more) (Contains-append_right earlier more n now)
]

equal : (a b : ℕ) → a ≡ b → nat_eq a b ≡ true
equal a b e = eq-eqb a b e

suits_all : (widths : Widths) (w : ℕ) (o : Operation) → SuitsWidth widths w o → suits_width widths w o ≡ true
suits_all widths w (operation.Plain x) h = equal (operand_width widths x) w h
suits_all widths w (operation.Binary x s y) h =
    and_true (nat_eq (operand_width widths x) (operand_width widths y)) _ (equal (operand_width widths x) (operand_width widths y) h.0) (equal (symbol_width s (operand_width widths x)) w h.1)
suits_all widths w (operation.Signed x s y) h =
    and_true (nat_eq (operand_width widths x) (operand_width widths y)) _ (equal (operand_width widths x) (operand_width widths y) h.0) (equal w 1 h.1)
suits_all widths w (operation.Choose c x y) h =
    and_true (nat_eq (operand_width widths c) 1) _ (equal (operand_width widths c) 1 h.0)
    (and_true (nat_eq (operand_width widths x) w) _ (equal (operand_width widths x) w h.1) (equal (operand_width widths y) w h.2))
suits_all widths w (operation.Part name high low) h = and_true (nat_lt high (widths name)) _ (lt-ltb high (widths name) h.0) (equal (high + 1 - low) w h.1)
suits_all widths w (operation.Widen name by) h = equal (widths name + by) w h

-- ---- declarations

names_said : (ws rs : List Port) → declared_names (map wire ws ++ map register rs) ≡ names_of ws ++ names_of rs
names_said [] [] = refl
names_said [] (r ∷ rs) = ap (λ z. r.name ∷ z) (names_said [] rs)
names_said (w ∷ ws) rs = ap (λ z. w.name ∷ z) (names_said ws rs)

-- the declarations of a module, in the order of its text
in_text_order : (m : Module) (port : Port) → Contains (declarations m) port → Contains (m.inputs ++ m.outputs ++ m.wires ++ m.registers) port
in_text_order m port at = elim (Contains-append_cases (m.inputs ++ m.registers ++ m.outputs) m.wires port at) [
  | inl a ↦ elim (Contains-append_cases (m.inputs ++ m.registers) m.outputs port a) [
    | inl b ↦ elim (Contains-append_cases m.inputs m.registers port b) [
      | inl i ↦ Contains-append_left (m.inputs ++ m.outputs ++ m.wires) m.registers port (Contains-append_left (m.inputs ++ m.outputs) m.wires port (Contains-append_left m.inputs m.outputs port i))
      | inr r ↦ Contains-append_right (m.inputs ++ m.outputs ++ m.wires) m.registers port r
    ]
    | inr o ↦ Contains-append_left (m.inputs ++ m.outputs ++ m.wires) m.registers port (Contains-append_left (m.inputs ++ m.outputs) m.wires port (Contains-append_right m.inputs m.outputs port o))
  ]
  | inr w ↦ Contains-append_left (m.inputs ++ m.outputs ++ m.wires) m.registers port (Contains-append_right (m.inputs ++ m.outputs) m.wires port w)
]

-- their names
names_by_text : (m : Module) (name : List ℕ) → count name (names_of (m.inputs ++ m.outputs ++ m.wires ++ m.registers)) ≡ count name (names_of (declarations m))
names_by_text m name =
    let i = names_of m.inputs in
    let o = names_of m.outputs in
    let w = names_of m.wires in
    let r = names_of m.registers in
    let N = λ (port : Port). port.name in
    let text : names_of (m.inputs ++ m.outputs ++ m.wires ++ m.registers) ≡ i ++ o ++ w ++ r = simp map-append in
    let own : names_of (declarations m) ≡ i ++ r ++ o ++ w = simp map-append in
    let a = count_joined name (i ++ o ++ w) r in
    let b = count_joined name (i ++ o) w in
    let c = count_joined name i o in
    let d = count_joined name (i ++ r ++ o) w in
    let e = count_joined name (i ++ r) o in
    let f = count_joined name i r in
    ap (count name) text ∙ (let z : count name (i ++ o ++ w ++ r) ≡ count name (i ++ r ++ o ++ w) = omega arith in z) ∙ sym (ap (count name) own)

text_distinct : (m : Module) → AreDistinct (names_of (declarations m)) → AreDistinct (names_of (m.inputs ++ m.outputs ++ m.wires ++ m.registers))
text_distinct m distinct = distinct_by (names_of (m.inputs ++ m.outputs ++ m.wires ++ m.registers)) (λ name.
    let same = names_by_text m name in
    let most = at_most_once (names_of (declarations m)) name distinct in
    omega arith)

registers_distinct : (m : Module) → AreDistinct (names_of (declarations m)) → AreDistinct (names_of m.registers)
registers_distinct m distinct =
    let own : names_of (declarations m) ≡ names_of m.inputs ++ names_of m.registers ++ names_of m.outputs ++ names_of m.wires = simp map-append in
    let all : AreDistinct (names_of m.inputs ++ names_of m.registers ++ names_of m.outputs ++ names_of m.wires) = subst AreDistinct own distinct in
    rest_distinct (names_of m.inputs) (names_of m.registers)
    (front_distinct (names_of m.inputs ++ names_of m.registers) (names_of m.outputs) (front_distinct (names_of m.inputs ++ names_of m.registers ++ names_of m.outputs) (names_of m.wires) all))

-- ---- drives and steps among items

drives_joined : (xs ys : List Item) → drives_of (xs ++ ys) ≡ drives_of xs ++ drives_of ys
drives_joined [] ys = refl
drives_joined (drive d ∷ xs) ys = ap (λ more. d ∷ more) (drives_joined xs ys)
drives_joined (widening bit d ∷ xs) ys = ap (λ more. d ∷ more) (drives_joined xs ys)
drives_joined (step width s ∷ xs) ys = drives_joined xs ys
drives_joined (instance y ∷ xs) ys = drives_joined xs ys

no_drives : (registers : List Port) (ss : List Step) → drives_of (map (step_said registers) ss) ≡ []
no_drives registers [] = refl
no_drives registers (s ∷ ss) = no_drives registers ss

instances_no_drives : (kinds : List CellKind) (is : List Instance) → (drives_of (map (λ i. instance (instance_said kinds i)) is) ≡ []) × (steps_of (map (λ i. instance (instance_said kinds i)) is) ≡ [])
instances_no_drives kinds [] = (refl, refl)
instances_no_drives kinds (i ∷ is) = instances_no_drives kinds is

pub drives_back : (kinds : List CellKind) (widths : Widths) (registers : List Port) (is : List Instance) (ds : List Drive) (ss : List Step)
    → drives_of (map (λ i. instance (instance_said kinds i)) is ++ map (drive_said widths) ds ++ map (step_said registers) ss) ≡ ds
drives_back kinds widths registers is ds ss =
    let I = map (λ i. instance (instance_said kinds i)) is in
    let D = map (drive_said widths) ds in
    let S = map (step_said registers) ss in
    drives_joined (I ++ D) S ∙ ap (λ xs. drives_of (I ++ D) ++ xs) (no_drives registers ss) ∙ append-nil (drives_of (I ++ D)) ∙ drives_joined I D
    ∙ ap (λ xs. xs ++ drives_of D) (instances_no_drives kinds is).0 ∙ drives_said widths ds

pub steps_back : (kinds : List CellKind) (widths : Widths) (registers : List Port) (is : List Instance) (ds : List Drive) (ss : List Step)
    → steps_of (map (λ i. instance (instance_said kinds i)) is ++ map (drive_said widths) ds ++ map (step_said registers) ss) ≡ ss
steps_back kinds widths registers is ds ss =
    let I = map (λ i. instance (instance_said kinds i)) is in
    let D = map (drive_said widths) ds in
    let S = map (step_said registers) ss in
    steps_joined (I ++ D) S ∙ ap (λ xs. xs ++ steps_of S) (steps_joined I D ∙ ap (λ xs. xs ++ steps_of D) (instances_no_drives kinds is).1 ∙ (all_drives kinds widths ds).2) ∙ (all_steps kinds registers ss).2

-- ---- a module of a plan, as its text says it

abbrev pub module_said : List CellKind → Module → List Instance → ModuleText
module_said kinds m instances = record {
  name = m.name;
  inputs = m.inputs;
  outputs = m.outputs;
  declarations = map wire m.wires ++ map register m.registers;
  items = map (λ i. instance (instance_said kinds i)) instances ++ map (drive_said (written_width m)) m.drives ++ map (step_said m.registers) m.steps;
}

-- a kind is a module without registers, steps and instances
pub kind_as_module : (kinds : List CellKind) (kind : CellKind) → kind_said kind ≡ module_said kinds (kind_module kind) []
kind_as_module kinds kind =
    let w = append-nil (map wire kind.wires) in
    let d = append-nil (map (drive_said (written_width (kind_module kind))) kind.drives) in
    rw (w, d) refl

module _ (kinds : List CellKind) (m : Module) (instances : List Instance) (top : IsSoundTop kinds m instances)
    (back : (i : Instance) → Contains instances i → instance_of kinds (instance_said kinds i) ≡ i)
    (said : (i : Instance) → Contains instances i → IsSaid kinds (width_of m) (all_names m) (wire_names m) i) where
  abbrev text : ModuleText
  text = module_said kinds m instances

  abbrev of_instances : List Item
  of_instances = map (λ i. instance (instance_said kinds i)) instances

  abbrev of_drives : List Item
  of_drives = map (drive_said (written_width m)) m.drives

  abbrev of_steps : List Item
  of_steps = map (step_said m.registers) m.steps

  -- ---- the module that is said

  instances_there : (some : List Instance) → ((i : Instance) → Contains some i → Contains instances i) → instances_in kinds (map (λ i. instance (instance_said kinds i)) some) ≡ some
  instances_there [] within = refl
  instances_there (i ∷ some) within =
      ap (λ j. j ∷ instances_in kinds (map (λ i. instance (instance_said kinds i)) some)) (back i (within i (first_among i some)))
      ∙ ap (λ more. i ∷ more) (instances_there some (λ j at. within j (more_among i j some at)))

  pub instances_are : instances_in kinds text.items ≡ instances
  instances_are =
      instances_joined kinds (of_instances ++ of_drives) of_steps ∙ ap (λ xs. instances_in kinds (of_instances ++ of_drives) ++ xs) (all_steps kinds m.registers m.steps).0
      ∙ append-nil (instances_in kinds (of_instances ++ of_drives)) ∙ instances_joined kinds of_instances of_drives
      ∙ ap (λ xs. instances_in kinds of_instances ++ xs) (all_drives kinds (written_width m) m.drives).0 ∙ append-nil (instances_in kinds of_instances)
      ∙ instances_there instances (λ i at. at)

  pub module_is : module_of text ≡ m
  module_is =
      let w : wires_of text.declarations ≡ m.wires = wires_back m.wires m.registers in
      let r : registers_in text.declarations ≡ m.registers = registers_back m.wires m.registers in
      let d : drives_of text.items ≡ m.drives = drives_back kinds (written_width m) m.registers instances m.drives m.steps in
      let s : steps_of text.items ≡ m.steps = steps_back kinds (written_width m) m.registers instances m.drives m.steps in
      rw (w, r, d, s) refl

  items_all : (P : Item → Type 0) → AllByRecursion (λ i. P (instance (instance_said kinds i))) instances → AllByRecursion (λ d. P (drive_said (written_width m) d)) m.drives
      → AllByRecursion (λ s. P (step_said m.registers s)) m.steps → AllByRecursion P text.items
  items_all P h k l =
      all_append P (of_instances ++ of_drives) of_steps
      (all_append P of_instances of_drives (all_map P (λ i. instance (instance_said kinds i)) instances h) (all_map P (drive_said (written_width m)) m.drives k)) (all_map P (step_said m.registers) m.steps l)

  -- ---- what items drive

  drives_drive : (ds : List Drive) → flat_map (driven_by kinds) (map (drive_said (written_width m)) ds) ≡ targets_of ds
  drives_drive [] = refl
  drives_drive (d ∷ ds) = ap (λ here. here ++ flat_map (driven_by kinds) (map (drive_said (written_width m)) ds)) (drive_drives kinds (written_width m) d d.operation) ∙ ap (λ more. d.target ∷ more) (drives_drive ds)

  steps_drive : (ss : List Step) → flat_map (driven_by kinds) (map (step_said m.registers) ss) ≡ registers_of ss
  steps_drive [] = refl
  steps_drive (s ∷ ss) = ap (λ more. s.register ∷ more) (steps_drive ss)

  instances_drive : (some : List Instance) → ((i : Instance) → Contains some i → Contains instances i) → flat_map (driven_by kinds) (map (λ i. instance (instance_said kinds i)) some) ≡ linked_names some
  instances_drive [] within = refl
  instances_drive (i ∷ some) within =
      ap (λ here. here ++ flat_map (driven_by kinds) (map (λ i. instance (instance_said kinds i)) some)) (drives_outputs kinds (width_of m) (all_names m) (wire_names m) i (said i (within i (first_among i some))))
      ∙ ap (λ more. i.outputs ++ more) (instances_drive some (λ j at. within j (more_among i j some at)))

  driven_are : driven_names kinds text.items ≡ linked_names instances ++ targets_of m.drives ++ registers_of m.steps
  driven_are =
      flat_map-append (driven_by kinds) (of_instances ++ of_drives) of_steps ∙ ap (λ xs. flat_map (driven_by kinds) (of_instances ++ of_drives) ++ xs) (steps_drive m.steps)
      ∙ ap (λ xs. xs ++ registers_of m.steps) (flat_map-append (driven_by kinds) of_instances of_drives ∙ ap (λ xs. flat_map (driven_by kinds) of_instances ++ xs) (drives_drive m.drives) ∙ ap (λ xs. xs ++ targets_of m.drives) (instances_drive instances (λ i at. at)))

  -- ---- no name again

  abbrev linked_by : List ℕ → Item → List (List ℕ)
  linked_by u item = flat_map (linked_at u) (item_mentions kinds item)

  -- an instance with another name, and what is none
  instances_once : (u : List ℕ) (some : List Instance) → ((i : Instance) → Contains some i → Contains instances i) → AreDistinct (instance_names some) → AreDistinct (flat_map (linked_by u) (map (λ i. instance (instance_said kinds i)) some))
  instances_once u [] within distinct = nothing_twice
  instances_once u (i ∷ some) within distinct = by_test (bytes_eq u i.name)
      (λ same.
      let is : u ≡ i.name = (bytes_eq-Decides u i.name).0 same in
      let here : linked_by u (instance (instance_said kinds i)) ≡ names_of (kind_of kinds i).inputs ++ names_of (kind_of kinds i).outputs =
      ap (λ v. linked_by v (instance (instance_said kinds i))) is ∙ own_links (kind_for kinds (instance_said kinds i)) i.name (instance_said kinds i).links ∙ links_ports kinds (width_of m) (all_names m) (wire_names m) i (said i (within i (first_among i some))) in
      let none : flat_map (linked_by u) (map (λ i. instance (instance_said kinds i)) some) ≡ [] = others u some (λ at. apart (i.name ∷ []) (instance_names some) u distinct (0, omega arith, sym is) at) in
      subst AreDistinct (sym (ap (λ names. names ++ flat_map (linked_by u) (map (λ i. instance (instance_said kinds i)) some)) here ∙ ap (λ names. (names_of (kind_of kinds i).inputs ++ names_of (kind_of kinds i).outputs) ++ names) none ∙ append-nil _))
      (said i (within i (first_among i some))).ports)
      (λ other.
      let here : linked_by u (instance (instance_said kinds i)) ≡ [] = no_links u (instance_said kinds i) other in
      subst AreDistinct (sym (ap (λ names. names ++ flat_map (linked_by u) (map (λ i. instance (instance_said kinds i)) some)) here))
      (instances_once u some (λ j at. within j (more_among i j some at)) (rest_distinct (i.name ∷ []) (instance_names some) distinct)))
    where
      no_links : (u : List ℕ) (y : Instantiation) → bytes_eq u y.name ≡ false → linked_by u (instance y) ≡ []
      no_links u y other = none_linked u (kind_for kinds y) y.name y.links other

      others : (u : List ℕ) (some : List Instance) → (Contains (instance_names some) u → ⊥) → flat_map (linked_by u) (map (λ i. instance (instance_said kinds i)) some) ≡ []
      others u [] none = refl
      others u (i ∷ some) none =
          let other : bytes_eq u i.name ≡ false = not_equal u i.name (λ same. none (0, omega arith, sym same)) in
          ap (λ here. here ++ flat_map (linked_by u) (map (λ i. instance (instance_said kinds i)) some)) (no_links u (instance_said kinds i) other)
          ∙ others u some (λ at. none (more_among i.name u (instance_names some) at))

  drives_link : (u : List ℕ) (ds : List Drive) → flat_map (linked_by u) (map (drive_said (written_width m)) ds) ≡ []
  drives_link u [] = refl
  drives_link u (d ∷ ds) = ap (λ here. here ++ flat_map (linked_by u) (map (drive_said (written_width m)) ds)) (drive_links kinds u (written_width m) d d.operation) ∙ drives_link u ds

  steps_link : (u : List ℕ) (ss : List Step) → flat_map (linked_by u) (map (step_said m.registers) ss) ≡ []
  steps_link u [] = refl
  steps_link u (s ∷ ss) = steps_link u ss

  names_apart : AreDistinct (clk ∷ rst ∷ (declared_in text ++ instance_names instances))
  names_apart = distinct_by (clk ∷ rst ∷ (declared_in text ++ instance_names instances)) (λ name.
      let same : count name (all_names m) ≡ count name (declared_in text) = subst (λ z. count name (all_names z) ≡ count name (declared_in text)) module_is (count_names name text) in
      let front : AreDistinct (clk ∷ rst ∷ all_names m ++ instance_names instances) = front_distinct (clk ∷ rst ∷ all_names m ++ instance_names instances) (part_names kinds instances) top.declared_once in
      let most = at_most_once (clk ∷ rst ∷ all_names m ++ instance_names instances) name front in
      let a = count_joined name (clk ∷ rst ∷ []) (all_names m ++ instance_names instances) in
      let b = count_joined name (all_names m) (instance_names instances) in
      let c = count_joined name (clk ∷ rst ∷ []) (declared_in text ++ instance_names instances) in
      let d = count_joined name (declared_in text) (instance_names instances) in
      omega arith)

  pub none_twice : (earlier : List (List ℕ)) → AreDistinct (earlier ++ m.name ∷ []) → first_again (front_of earlier) (mentions_of kinds text) ≡ None
  none_twice earlier named = fresh_none (front_of earlier) (mentions_of kinds text) (record {
    modules = subst AreDistinct (sym (modules_in kinds earlier text)) named;
    declared = subst AreDistinct (sym (all_declared_in kinds earlier text ∙ ap (λ is. clk ∷ rst ∷ (declared_in text ++ instance_names is)) instances_are)) names_apart;
    driven = subst AreDistinct (sym (picked_in driven_at (λ name. refl) (λ name. refl) kinds earlier text ∙ items_drive kinds text.items ∙ driven_are)) top.driven_once;
    linked = λ u.
        let D = flat_map (linked_by u) of_drives in
        let parts : flat_map (linked_by u) text.items ≡ flat_map (linked_by u) of_instances =
        flat_map-append (linked_by u) (of_instances ++ of_drives) of_steps ∙ ap (λ xs. flat_map (linked_by u) (of_instances ++ of_drives) ++ xs) (steps_link u m.steps) ∙ append-nil _
        ∙ flat_map-append (linked_by u) of_instances of_drives ∙ ap (λ xs. flat_map (linked_by u) of_instances ++ xs) (drives_link u m.drives) ∙ append-nil _ in
        let own : AreDistinct (instance_names instances) = rest_distinct (clk ∷ rst ∷ declared_in text) (instance_names instances) names_apart in
        subst AreDistinct (sym (picked_in (linked_at u) (λ name. refl) (λ name. refl) kinds earlier text ∙ nested (linked_at u) (item_mentions kinds) text.items ∙ parts)) (instances_once u instances (λ i at. at) own);
  })

  -- ---- names where they may stand

  abbrev wrong_of : Module → Item → Option (List ℕ)
  wrong_of z item = wrong_in kinds (is_in (wire_names z)) (is_in (names_of z.registers)) (is_in (all_names z)) item

  pub named_right : wrong_in_module kinds text ≡ None
  named_right =
      ap (λ z. first_some (wrong_of z) text.items) module_is
      ∙ nothing (wrong_of m) text.items (items_all (λ item. wrong_of m item ≡ None)
      (each_by (λ i. wrong_of m (instance (instance_said kinds i)) ≡ None) instances (λ i at. instance_right kinds (width_of m) (all_names m) (wire_names m) i (said i at)))
      (both_all (λ d. Contains (wire_names m) d.target) (λ d. EachOperand (IsAmong (all_names m)) d.operation) (λ d. wrong_of m (drive_said (written_width m) d) ≡ None)
      (λ d t o.
      let e = is_found d.target (wire_names m) t in
      let right : wrong_drive (is_in (wire_names m)) (is_in (all_names m)) d ≡ None = rw e (right_operation (all_names m) d.operation o) in
      wrong_same kinds (is_in (wire_names m)) (is_in (names_of m.registers)) (is_in (all_names m)) (written_width m) d d.operation ∙ right) m.drives
      (all_unmap (Contains (wire_names m)) (λ d. d.target) m.drives (recursion_from_All (Contains (wire_names m)) (targets_of m.drives) top.drives_wires))
      (recursion_from_All (λ d. EachOperand (IsAmong (all_names m)) d.operation) m.drives top.drives_read))
      (both_all (λ t. Contains (names_of m.registers) t.register) (λ t. IsAmong (all_names m) t.next) (λ t. wrong_of m (step_said m.registers t) ≡ None)
      (λ t r o. let e = is_found t.register (names_of m.registers) r in rw e (right_operand (all_names m) t.next o)) m.steps
      (all_unmap (Contains (names_of m.registers)) (λ t. t.register) m.steps (recursion_from_All (Contains (names_of m.registers)) (registers_of m.steps) top.steps_registers))
      (recursion_from_All (λ t. IsAmong (all_names m) t.next) m.steps top.steps_read)))

  -- ---- names that are driven

  abbrev driven : List (List ℕ)
  driven = linked_names instances ++ targets_of m.drives ++ registers_of m.steps

  all_named : AllByRecursion (Contains driven) (names_of m.outputs ++ (names_of m.wires ++ names_of m.registers))
  all_named =
      let wires : AllByRecursion (Contains driven) (wire_names m) =
      all_weaker (Contains (linked_names instances ++ targets_of m.drives)) (Contains driven) (λ n h. Contains-append_left (linked_names instances ++ targets_of m.drives) (registers_of m.steps) n h) (wire_names m)
      (recursion_from_All (Contains (linked_names instances ++ targets_of m.drives)) (wire_names m) top.wires_driven) in
      let registers : AllByRecursion (Contains driven) (names_of m.registers) =
      all_weaker (Contains (registers_of m.steps)) (Contains driven) (λ n h. Contains-append_right (linked_names instances ++ targets_of m.drives) (registers_of m.steps) n h) (names_of m.registers)
      (recursion_from_All (Contains (registers_of m.steps)) (names_of m.registers) top.registers_stepped) in
      all_append (Contains driven) (names_of m.outputs) (names_of m.wires ++ names_of m.registers) (all_front (Contains driven) (names_of m.outputs) (names_of m.wires) wires)
      (all_append (Contains driven) (names_of m.wires) (names_of m.registers) (all_back (Contains driven) (names_of m.outputs) (names_of m.wires) wires) registers)

  pub all_driven : undriven_in_module kinds text ≡ None
  all_driven =
      let names = names_said m.wires m.registers in
      let wires : find (λ name. not (is_in (driven_names kinds text.items) name)) (names_of m.outputs ++ declared_names text.declarations) ≡ None =
      ap (λ z. find (λ name. not (is_in z name)) (names_of m.outputs ++ declared_names text.declarations)) driven_are
      ∙ ap (λ z. find (λ name. not (is_in driven name)) (names_of m.outputs ++ z)) names
      ∙ found_none (λ name. not (is_in driven name)) (names_of m.outputs ++ (names_of m.wires ++ names_of m.registers))
      (all_weaker (Contains driven) (λ name. not (is_in driven name) ≡ false) (λ n h. ap not (is_found n driven h)) (names_of m.outputs ++ (names_of m.wires ++ names_of m.registers)) all_named) in
      let links : first_some (unlinked_in kinds) text.items ≡ None =
      nothing (unlinked_in kinds) text.items (items_all (λ item. unlinked_in kinds item ≡ None)
      (each_by (λ i. unlinked_in kinds (instance (instance_said kinds i)) ≡ None) instances (λ i at. all_linked kinds (width_of m) (all_names m) (wire_names m) i (said i at)))
      (each_by (λ d. unlinked_in kinds (drive_said (written_width m) d) ≡ None) m.drives (λ d at. drive_unlinked kinds (written_width m) d d.operation))
      (each_by (λ s. unlinked_in kinds (step_said m.registers s) ≡ None) m.steps (λ s at. refl))) in
      rw (wires, links) refl

  -- ---- items in order

  abbrev W : Among
  W = is_in (wire_names m)

  steps_late : (earlier : List (List ℕ)) (ss : List Step) → first_early kinds W earlier (map (step_said m.registers) ss) ≡ None
  steps_late earlier [] = refl
  steps_late earlier (s ∷ ss) = steps_late (earlier ++ s.register ∷ []) ss

  drives_in_order : (known earlier : List (List ℕ)) (ds : List Drive) → AreEarlier W known earlier → IsInOrder known ds → first_early kinds W earlier (map (drive_said (written_width m)) ds ++ of_steps) ≡ None
  drives_in_order known earlier [] h k = steps_late earlier m.steps
  drives_in_order known earlier (d ∷ ds) h k =
      first_drive kinds W (written_width m) earlier d d.operation (map (drive_said (written_width m)) ds ++ of_steps) (none_early W known earlier h d.operation k.0)
      ∙ drives_in_order (known ++ d.target ∷ []) (earlier ++ d.target ∷ []) ds (earlier_more W known earlier (d.target ∷ []) h) k.1

  instances_in_order : (some : List Instance) → ((i : Instance) → Contains some i → Contains instances i) → (known earlier : List (List ℕ)) → AreEarlier W known earlier → AreInOrder known some → IsInOrder (known ++ linked_names some) m.drives
      → first_early kinds W earlier (map (λ i. instance (instance_said kinds i)) some ++ (of_drives ++ of_steps)) ≡ None
  instances_in_order [] within known earlier h a k = drives_in_order known earlier m.drives h (subst (λ names. IsInOrder names m.drives) (append-nil known) k)
  instances_in_order (i ∷ some) within known earlier h a k =
      let is = said i (within i (first_among i some)) in
      let rest = map (λ i. instance (instance_said kinds i)) some ++ (of_drives ++ of_steps) in
      let late : AllByRecursion (λ o. is_early W (is_in earlier) o ≡ false) i.inputs =
      all_weaker (IsAmong known) (λ o. is_early W (is_in earlier) o ≡ false) (λ o at. not_early W known earlier h o at) i.inputs (recursion_from_All (IsAmong known) i.inputs a.0) in
      let reads : reads_early kinds W (is_in earlier) (instance (instance_said kinds i)) ≡ false =
      ap (λ (k : CellKind). list_any (is_early_link W (is_in earlier) k) (instance_said kinds i).links) (kind_there kinds (width_of m) (all_names m) (wire_names m) i is)
      ∙ reads_late kinds (width_of m) (all_names m) (wire_names m) i is (is_early W (is_in earlier)) late in
      let outputs = drives_outputs kinds (width_of m) (all_names m) (wire_names m) i is in
      first_instance kinds W earlier (instance_said kinds i) rest reads ∙ ap (λ names. first_early kinds W (earlier ++ names) rest) outputs
      ∙ instances_in_order some (λ j at. within j (more_among i j some at)) (known ++ i.outputs) (earlier ++ i.outputs) (earlier_more W known earlier i.outputs h) a.1
      (subst (λ names. IsInOrder names m.drives) (sym (append_assoc known i.outputs (linked_names some))) k)

  pub in_order : early_in_module kinds text ≡ None
  in_order =
      let own : AreDistinct (all_names m) =
      rest_distinct (clk ∷ rst ∷ []) (all_names m) (front_distinct (clk ∷ rst ∷ all_names m) (instance_names instances) (front_distinct (clk ∷ rst ∷ all_names m ++ instance_names instances) (part_names kinds instances) top.declared_once)) in
      ap (λ z. first_early kinds (is_in (wire_names z)) [] text.items) module_is ∙ ap (first_early kinds W []) (append_assoc of_instances of_drives of_steps)
      ∙ instances_in_order instances (λ i at. at) (given_names m) [] (λ n k w. absurd (apart (given_names m) (wire_names m) n own k (is_there n (wire_names m) w))) top.instances_in_order top.in_order

  -- ---- widths

  distinct : AreDistinct (names_of (declarations m))
  distinct =
      subst AreDistinct (sym (names_declared m))
      (rest_distinct (clk ∷ rst ∷ []) (all_names m) (front_distinct (clk ∷ rst ∷ all_names m) (instance_names instances) (front_distinct (clk ∷ rst ∷ all_names m ++ instance_names instances) (part_names kinds instances) top.declared_once)))

  -- the width that a name is written with is its own
  written_own : (name : List ℕ) → Contains (all_names m) name → (written_width m name ≡ width_of m name) × (1 ≤ width_of m name)
  written_own name at =
      let (port, here, same) = named_port m name at in
      let ports = m.inputs ++ m.outputs ++ m.wires ++ m.registers in
      let there : Contains ports port = in_text_order m port here in
      let apart_names : AreDistinct (names_of ports) = text_distinct m distinct in
      let own : width_of m port.name ≡ port.width.bits = width_here (declarations m) port distinct here in
      let written : width_in ports port.name ≡ port.width.bits = width_here ports port apart_names there in
      let least = port.width.least in
      subst (λ n. (written_width m n ≡ width_of m n) × (1 ≤ width_of m n)) same (written ∙ sym own, omega arith)

  register_bits : (name : List ℕ) → Contains (names_of m.registers) name → (width_for m.registers name).bits ≡ width_of m name
  register_bits name at =
      let (port, here, same) = from_map (λ (port : Port). port.name) m.registers name at in
      let names : AreDistinct (names_of m.registers) = registers_distinct m distinct in
      let own : width_of m port.name ≡ port.width.bits = width_here (declarations m) port distinct (register_declared m port here) in
      let written : width_in m.registers port.name ≡ port.width.bits = width_here m.registers port names here in
      subst (λ n. (width_for m.registers n).bits ≡ width_of m n) same (width_for_is m.registers port.name ∙ written ∙ sym own)

  suited_drive : (d : Drive) → EachOperand (IsAmong (all_names m)) d.operation → SuitsWidth (width_of m) (width_of m d.target) d.operation → (o : Operation) → d.operation ≡ o → suits kinds (width_of m) (said_by (written_width m) d o) ≡ true
  suited_drive d reads h (operation.Widen name by) e =
      let at : Contains (all_names m) name = subst (λ o. EachOperand (IsAmong (all_names m)) o) e reads in
      let w = written_own name at in
      let bit : nat_eq (written_width m name - 1 + 1) (width_of m name) ≡ true = (let a = w.0 in let b = w.1 in eq-eqb (written_width m name - 1 + 1) (width_of m name) (omega arith)) in
      and_true (selects_highest (width_of m) (written_width m name - 1) d.operation) _ (ap (selects_highest (width_of m) (written_width m name - 1)) e ∙ bit) (suits_all (width_of m) (width_of m d.target) d.operation h)
  suited_drive d reads h (operation.Plain a) e = suits_all (width_of m) (width_of m d.target) d.operation h
  suited_drive d reads h (operation.Binary a s b) e = suits_all (width_of m) (width_of m d.target) d.operation h
  suited_drive d reads h (operation.Signed a s b) e = suits_all (width_of m) (width_of m d.target) d.operation h
  suited_drive d reads h (operation.Choose a b c) e = suits_all (width_of m) (width_of m d.target) d.operation h
  suited_drive d reads h (operation.Part name high low) e = suits_all (width_of m) (width_of m d.target) d.operation h

  pub suited : unsuited_in_module kinds text ≡ None
  suited =
      ap (option_map target_of) (ap (λ z. find (λ item. not (suits kinds (width_of z) item)) text.items) module_is
      ∙ found_none (λ item. not (suits kinds (width_of m) item)) text.items (items_all (λ item. not (suits kinds (width_of m) item) ≡ false)
      (each_by (λ i. not (suits kinds (width_of m) (instance (instance_said kinds i))) ≡ false) instances (λ i at. ap not (instance_suits kinds (width_of m) (all_names m) (wire_names m) i (said i at))))
      (both_all (λ d. EachOperand (IsAmong (all_names m)) d.operation) (λ d. SuitsWidth (width_of m) (width_of m d.target) d.operation) (λ d. not (suits kinds (width_of m) (drive_said (written_width m) d)) ≡ false)
      (λ d r h. ap not (suited_drive d r h d.operation refl)) m.drives
      (recursion_from_All (λ d. EachOperand (IsAmong (all_names m)) d.operation) m.drives top.drives_read) (recursion_from_All (λ d. SuitsWidth (width_of m) (width_of m d.target) d.operation) m.drives top.drive_widths))
      (both_all (λ t. Contains (names_of m.registers) t.register) (λ t. operand_width (width_of m) t.next ≡ width_of m t.register) (λ t. not (suits kinds (width_of m) (step_said m.registers t)) ≡ false)
      (λ t r h. ap not (and_true (nat_eq (width_for m.registers t.register).bits (width_of m t.register)) _
      (equal (width_for m.registers t.register).bits (width_of m t.register) (register_bits t.register r)) (equal (operand_width (width_of m) t.next) (width_of m t.register) h))) m.steps
      (all_unmap (Contains (names_of m.registers)) (λ t. t.register) m.steps (recursion_from_All (Contains (names_of m.registers)) (registers_of m.steps) top.steps_registers))
      (recursion_from_All (λ t. operand_width (width_of m) t.next ≡ width_of m t.register) m.steps top.step_widths))))

-- ---- the whole text

distinct_none : (earlier names : List (List ℕ)) → AreDistinct (earlier ++ names) → first_repeated earlier names ≡ None
distinct_none earlier [] d = refl
distinct_none earlier (name ∷ names) d =
    let new : is_in earlier name ≡ false = not_there name earlier (λ h. apart earlier (name ∷ names) name d h (0, omega arith, refl)) in
    rw new (distinct_none (earlier ++ name ∷ []) names (subst AreDistinct (sym (append_assoc earlier (name ∷ []) names)) d))

module _ (plan : Plan) (modules : HasSoundModules plan) where
  abbrev K : List CellKind
  K = plan.kinds

  abbrev top_text : ModuleText
  top_text = module_said K plan.top plan.instances

  kinds_are : kinds_of (plan_said plan) ≡ K
  kinds_are = kinds_back K

  said_at : (i : Instance) → Contains plan.instances i → IsSaid K (width_of plan.top) (all_names plan.top) (wire_names plan.top) i
  said_at i at =
      let has = made plan modules in
      let placed = placed_at plan has i at in
      let kind = kind_of K i in
      let names : AreDistinct (all_names (kind_module kind)) = names_distinct (kind_module kind) (kind_sound plan has i at) in
      let ports : AreDistinct (names_of kind.inputs ++ names_of kind.outputs) =
      subst (λ ins. AreDistinct (ins ++ names_of kind.outputs)) (append-nil (names_of kind.inputs))
      (front_distinct ((names_of kind.inputs ++ []) ++ names_of kind.outputs) (names_of kind.wires) (subst AreDistinct (sym (append_assoc (names_of kind.inputs ++ []) (names_of kind.outputs) (names_of kind.wires))) names)) in
      record {
        placed = placed;
        named = (found_at K i.kind (front_distinct (map (λ (kind : CellKind). kind.name) K) (plan.top.name ∷ []) modules.named_once) placed.kind).0;
        ports = ports;
        reads = All-contains (λ (i : Instance). All (IsAmong (all_names plan.top)) i.inputs) plan.instances i modules.top.instances_read at;
        takes = each_by (Contains (wire_names plan.top)) i.outputs (λ name here.
            All-contains (Contains (wire_names plan.top)) (linked_names plan.instances) name modules.top.links_wires (among_flat_map (λ (i : Instance). i.outputs) plan.instances i name at here));
      }

  back_at : (i : Instance) → Contains plan.instances i → instance_of K (instance_said K i) ≡ i
  back_at i at = instance_back plan (made plan modules) i at

  none_at : (i : Instance) → Contains [] i → ⊥
  none_at i at = none_among i at

  kind_top : (kind : CellKind) → Contains K kind → IsSoundTop K (kind_module kind) []
  kind_top kind at = alone_top K (kind_module kind) (All-contains (λ (kind : CellKind). IsSound (kind_module kind)) K kind modules.kinds at)

  -- a fact on each module
  each_module : (P : ModuleText → Type 0) → ((kind : CellKind) → Contains K kind → P (module_said K (kind_module kind) [])) → P top_text → AllByRecursion P (modules_of (plan_said plan))
  each_module P kinds top =
      all_append P (map kind_said K) (top_text ∷ []) (all_map P kind_said K (each_by (λ kind. P (kind_said kind)) K (λ kind at. subst P (sym (kind_as_module K kind)) (kinds kind at)))) (top, tt)

  each_none : (f : ModuleText → Option (List ℕ)) → ((kind : CellKind) → Contains K kind → f (module_said K (kind_module kind) []) ≡ None) → f top_text ≡ None → first_some f (modules_of (plan_said plan)) ≡ None
  each_none f kinds top = nothing f (modules_of (plan_said plan)) (each_module (λ x. f x ≡ None) kinds top)

  -- modules one behind the other
  kinds_once : (earlier : List (List ℕ)) (some : List CellKind) → ((kind : CellKind) → Contains some kind → Contains K kind) → AreDistinct (earlier ++ (map (λ (kind : CellKind). kind.name) some ++ plan.top.name ∷ []))
      → twice_from K earlier (map kind_said some ++ top_text ∷ []) ≡ None
  kinds_once earlier [] within distinct = let e = none_twice K plan.top plan.instances modules.top back_at said_at earlier distinct in rw e refl
  kinds_once earlier (kind ∷ some) within distinct =
      let rest = map (λ (kind : CellKind). kind.name) some ++ plan.top.name ∷ [] in
      let next : AreDistinct ((earlier ++ kind.name ∷ []) ++ rest) = subst AreDistinct (sym (append_assoc earlier (kind.name ∷ []) rest)) distinct in
      let here : first_again (front_of earlier) (mentions_of K (kind_said kind)) ≡ None =
      subst (λ x. first_again (front_of earlier) (mentions_of K x) ≡ None) (sym (kind_as_module K kind))
      (none_twice K (kind_module kind) [] (kind_top kind (within kind (first_among kind some))) (λ i at. absurd (none_at i at)) (λ i at. absurd (none_at i at)) earlier (front_distinct (earlier ++ kind.name ∷ []) rest next)) in
      let later = kinds_once (earlier ++ kind.name ∷ []) some (λ other at. within other (more_among kind other some at)) next in
      rw (here, later) refl

  once : twice_name (plan_said plan) ≡ None
  once =
      let mentions : twice_from K [] (modules_of (plan_said plan)) ≡ None = kinds_once [] K (λ kind at. at) modules.named_once in
      let is = instances_are K plan.top plan.instances modules.top back_at said_at in
      let names : AreDistinct (clk ∷ rst ∷ (declared_in top_text ++ instance_names plan.instances) ++ part_names K plan.instances) = parts_apart in
      let parts : first_repeated (clk ∷ rst ∷ (declared_in top_text ++ instance_names plan.instances)) (part_names K plan.instances) ≡ None = distinct_none (clk ∷ rst ∷ (declared_in top_text ++ instance_names plan.instances)) (part_names K plan.instances) names in
      ap (λ ks. first_from (twice_from ks [] (modules_of (plan_said plan))) (part_twice_with ks)) kinds_are ∙ rw (mentions, is, parts) refl
    where
      part_twice_with : List CellKind → Option (List ℕ)
      part_twice_with ks = first_repeated (clk ∷ rst ∷ (declared_in top_text ++ map (λ instance. instance.name) (instances_in ks top_text.items))) (names_of (flat_map (instance_wires ks) (instances_in ks top_text.items)))

      parts_apart : AreDistinct (clk ∷ rst ∷ (declared_in top_text ++ instance_names plan.instances) ++ part_names K plan.instances)
      parts_apart = distinct_by (clk ∷ rst ∷ (declared_in top_text ++ instance_names plan.instances) ++ part_names K plan.instances) (λ name.
          let same : count name (all_names plan.top) ≡ count name (declared_in top_text) = subst (λ z. count name (all_names z) ≡ count name (declared_in top_text)) (module_is K plan.top plan.instances modules.top back_at said_at) (count_names name top_text) in
          let front = clk ∷ rst ∷ [] in
          let most = at_most_once (clk ∷ rst ∷ all_names plan.top ++ instance_names plan.instances ++ part_names K plan.instances) name modules.top.declared_once in
          let a = count_joined name front (all_names plan.top ++ instance_names plan.instances ++ part_names K plan.instances) in
          let b = count_joined name (all_names plan.top ++ instance_names plan.instances) (part_names K plan.instances) in
          let c = count_joined name (all_names plan.top) (instance_names plan.instances) in
          let d = count_joined name front ((declared_in top_text ++ instance_names plan.instances) ++ part_names K plan.instances) in
          let e = count_joined name (declared_in top_text ++ instance_names plan.instances) (part_names K plan.instances) in
          let f = count_joined name (declared_in top_text) (instance_names plan.instances) in
          omega arith)

  pub top_back : module_of top_text ≡ plan.top
  top_back = module_is K plan.top plan.instances modules.top back_at said_at

  no_at : {P : Type 0} (i : Instance) → Contains [] i → P
  no_at i at = absurd (none_among i at)

  pub no_rows : HasNoRow (plan_said plan)
  no_rows = record {
    once = once;
    named_right = ap (λ ks. first_some (wrong_in_module ks) (modules_of (plan_said plan))) kinds_are
        ∙ each_none (wrong_in_module K) (λ kind at. named_right K (kind_module kind) [] (kind_top kind at) (λ i at. no_at i at) (λ i at. no_at i at)) (named_right K plan.top plan.instances modules.top back_at said_at);
    all_driven = ap (λ ks. first_some (undriven_in_module ks) (modules_of (plan_said plan))) kinds_are
        ∙ each_none (undriven_in_module K) (λ kind at. all_driven K (kind_module kind) [] (kind_top kind at) (λ i at. no_at i at) (λ i at. no_at i at)) (all_driven K plan.top plan.instances modules.top back_at said_at);
    in_order = ap (λ ks. first_some (early_in_module ks) (modules_of (plan_said plan))) kinds_are
        ∙ each_none (early_in_module K) (λ kind at. in_order K (kind_module kind) [] (kind_top kind at) (λ i at. no_at i at) (λ i at. no_at i at)) (in_order K plan.top plan.instances modules.top back_at said_at);
    suited = ap (λ ks. first_some (unsuited_in_module ks) (modules_of (plan_said plan))) kinds_are
        ∙ each_none (unsuited_in_module K) (λ kind at. suited K (kind_module kind) [] (kind_top kind at) (λ i at. no_at i at) (λ i at. no_at i at)) (suited K plan.top plan.instances modules.top back_at said_at);
  }
