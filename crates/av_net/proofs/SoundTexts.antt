-- A text for which no row of faults holds has a sound flat module.
use Rattle.std.proofs.Common.{◌≡◌, ℕ, List, [], ◌∷◌, ◌++◌, map, Option, Some, None, refl, sym, ap, subst, arith, append_assoc, Bool, true, false, if◌then◌else◌, inl, inr}
use Rattle.std.specs.Prelude.{Contains}
use Rattle.std.specs.List.{AllByRecursion}
use Rattle.std.proofs.lemmas.List.{append-nil}
use Rattle.std.proofs.lemmas.List.Elements.{Contains-append_left, Contains-append_right}
use Rattle.av_base.proofs.Among.{first_among, among_cases, none_among, from_map}
use Rattle.av_base.proofs.Tables.{none_there}
use Rattle.av_net.specs.declared.netlist.Module.{Module}
use Rattle.av_net.specs.declared.plan.CellKind.{CellKind}
use Rattle.av_net.specs.Names.{clk, rst, names_of, given_names, all_names, AreDistinct}
use Rattle.av_net.specs.Sound.{IsInOrder, IsSound}
use Rattle.av_net.specs.Flat.{kind_module}
use Rattle.av_net.specs.Plans.{instance_names, part_names, module_names}
use Rattle.av_net.specs.Lexemes.{Token}
use Rattle.av_net.specs.Grammar.{Text, ModuleText, SignalDeclaration, Item, drive, widening, step, instance, AreMany, no_more, one_more, IsKindDeclaration, kind_wire, IsKindItem, kind_assignment, kind_wide_assignment, IsKind, IsText}
use Rattle.av_net.specs.Rows.{is_in, declared_names, registers_in, drives_of, steps_of, module_of, kind_from, kinds_of, modules_of, instances_in, flat_text, of_module, declares, first_again, mentions_of, twice_from, first_repeated, top_names, part_twice, wrong_in_module, undriven_in_module, early_in_module, unsuited_in_module}
use Rattle.av_net.specs.Designs.{HasNoRow}
use Rattle.av_net.proofs.Distinct.{front_distinct, rest_distinct, cons_distinct, append_distinct}
use Rattle.av_net.proofs.Made.{IsMadeTop, HasParts}
use Rattle.av_net.proofs.InParts.{all_by}
use Rattle.av_net.proofs.FlatTexts.{plan_of, AreItemsInOrder, text_is_sound}
use Rattle.av_net.proofs.Said.{ArePlain, plain_parts}
use Rattle.av_net.proofs.Mentions.{declared_in, declared_once, module_once}
use Rattle.av_net.proofs.RowTests.{each_none, each_at, none_both, IsFit, fit_items, fit_kind_items}
use Rattle.av_net.proofs.Rowless.{HasModuleRows, HavePorts, module_order, made_module}

-- ---- no name again

none_repeated : (earlier names : List (List ℕ)) → AreDistinct earlier → first_repeated earlier names ≡ None → AreDistinct (earlier ++ names)
none_repeated earlier [] d e = subst AreDistinct (sym (append-nil earlier)) d
none_repeated earlier (name ∷ names) d e =
    let (new, rest) = not_again (is_in earlier name) name (first_repeated (earlier ++ name ∷ []) names) e in
    let one : AreDistinct (name ∷ []) = cons_distinct name [] (none_among name) (λ i j d lt lj same. absurd (omega arith)) in
    let more : AreDistinct (earlier ++ name ∷ []) = append_distinct earlier (name ∷ []) d one (λ n a b. none_there name earlier new (subst (Contains earlier) (sym (the name n b)) a)) in
    subst AreDistinct (append_assoc earlier (name ∷ []) names) (none_repeated (earlier ++ name ∷ []) names more rest)
  where
    not_again : (test : Bool) (name : List ℕ) (later : Option (List ℕ)) → (if test then Some name else later) ≡ None → (test ≡ false) × (later ≡ None)
    not_again true name later e = absurd cc
    not_again false name later e = (refl, e)

    the : (name n : List ℕ) → Contains (name ∷ []) n → name ≡ n
    the name n c = elim (among_cases name n [] c) [
      | inl same ↦ same
      | inr none ↦ absurd (none_among n none)
    ]

-- ---- modules, one after the other

-- each module is behind others, whose names are not its own
pub record AreOnce (kinds : List CellKind) (earlier : List (List ℕ)) (xs : List ModuleText) : Type 0 where
  pub names : AreDistinct (earlier ++ map (λ x. x.name) xs)
  pub each : (x : ModuleText) → Contains xs x → (before : List (List ℕ)) × (first_again (map of_module before ++ declares clk ∷ declares rst ∷ []) (mentions_of kinds x) ≡ None)

are_once : (kinds : List CellKind) (earlier : List (List ℕ)) (xs : List ModuleText) → AreDistinct earlier → twice_from kinds earlier xs ≡ None → AreOnce kinds earlier xs
are_once kinds earlier [] d e = record {
  names = subst AreDistinct (sym (append-nil earlier)) d;
  each = λ x at. absurd (none_among x at);
}
are_once kinds earlier (x ∷ xs) d e =
    let (here, later) = none_both (first_again (map of_module earlier ++ declares clk ∷ declares rst ∷ []) (mentions_of kinds x)) (twice_from kinds (earlier ++ x.name ∷ []) xs) e in
    let one : AreDistinct (x.name ∷ []) = cons_distinct x.name [] (none_among x.name) (λ i j d lt lj same. absurd (omega arith)) in
    let more : AreDistinct (earlier ++ x.name ∷ []) = append_distinct earlier (x.name ∷ []) d one (λ n a b. module_once kinds earlier x here (subst (Contains earlier) (sym (the n b)) a)) in
    let rest = are_once kinds (earlier ++ x.name ∷ []) xs more later in
    record {
      names = subst AreDistinct (append_assoc earlier (x.name ∷ []) (map (λ (x : ModuleText). x.name) xs)) rest.names;
      each = λ y at. elim (among_cases x y xs at) [
        | inl same ↦ subst (λ (y : ModuleText). (before : List (List ℕ)) × (first_again (map of_module before ++ declares clk ∷ declares rst ∷ []) (mentions_of kinds y) ≡ None)) same (earlier, here)
        | inr behind ↦ rest.each y behind
      ];
    }
  where
    the : (n : List ℕ) → Contains (x.name ∷ []) n → x.name ≡ n
    the n c = elim (among_cases x.name n [] c) [
      | inl same ↦ same
      | inr none ↦ absurd (none_among n none)
    ]

-- ---- kinds

-- a kind has wires and assignments alone, and its operands are literals of their width or names
pub record IsPlainKind (x : ModuleText) : Type 0 where
  pub fit : AllByRecursion IsFit x.items
  pub registers : registers_in x.declarations ≡ []
  pub steps : steps_of x.items ≡ []
  pub plain : ArePlain x.items

wires_alone : {ts rest : List Token} {ds : List SignalDeclaration} → AreMany IsKindDeclaration ts rest ds → registers_in ds ≡ []
wires_alone no_more = refl
wires_alone (one_more (kind_wire p e) many) = wires_alone many

drives_alone : {ts rest : List Token} {items : List Item} → AreMany IsKindItem ts rest items → (steps_of items ≡ []) × ArePlain items
drives_alone no_more = (refl, tt)
drives_alone (one_more (kind_assignment d) many) = drives_alone many
drives_alone (one_more (kind_wide_assignment d) many) = drives_alone many

plain_kind : {ts rest : List Token} {x : ModuleText} → IsKind ts rest x → IsPlainKind x
plain_kind k = let alone = drives_alone k.items in record { fit = fit_kind_items k.items; registers = wires_alone k.declarations; steps = alone.0; plain = alone.1 }

pub plain_kinds : {ts rest : List Token} {xs : List ModuleText} → AreMany IsKind ts rest xs → AllByRecursion IsPlainKind xs
plain_kinds no_more = tt
plain_kinds (one_more k many) = (plain_kind k, plain_kinds many)

plain_order : (kinds : List CellKind) (known : List (List ℕ)) (items : List Item) → ArePlain items → AreItemsInOrder kinds known items → IsInOrder known (drives_of items)
plain_order kinds known [] plain order = tt
plain_order kinds known (drive d ∷ items) plain order = (order.0, plain_order kinds (known ++ d.target ∷ []) items plain order.1)
plain_order kinds known (widening bit d ∷ items) plain order = (order.0, plain_order kinds (known ++ d.target ∷ []) items plain order.1)
plain_order kinds known (step width s ∷ items) plain order = plain_order kinds known items plain order
plain_order kinds known (instance x ∷ items) plain order = absurd plain

-- a module without instances
alone_sound : (kinds : List CellKind) (m : Module) → IsMadeTop kinds m [] → IsInOrder (given_names m) m.drives → IsSound m
alone_sound kinds m made order = record {
  declared_once = front_distinct (clk ∷ rst ∷ all_names m) [] (front_distinct (clk ∷ rst ∷ all_names m ++ []) [] made.declared_once);
  driven_once = made.driven_once;
  drives_wires = made.drives_wires;
  steps_registers = made.steps_registers;
  drives_read = made.drives_read;
  steps_read = made.steps_read;
  wires_driven = made.wires_driven;
  registers_stepped = made.registers_stepped;
  in_order = order;
  drive_widths = made.drive_widths;
  step_widths = made.step_widths;
  drives_fit = made.drives_fit;
  steps_fit = made.steps_fit;
  resets_fit = made.resets_fit;
  orders = made.orders;
}

sound_kind : (kinds : List CellKind) → HavePorts kinds → (earlier : List (List ℕ)) (x : ModuleText) → IsPlainKind x → HasModuleRows kinds earlier x → IsSound (kind_module (kind_from x))
sound_kind kinds ports earlier x is rows =
    let none : instances_in kinds x.items ≡ [] = (plain_parts kinds x.items is.plain).0 in
    let names : AreDistinct (clk ∷ rst ∷ (declared_in x ++ instance_names (instances_in kinds x.items))) = declared_once kinds earlier x rows.once in
    let no_parts : part_names kinds (instances_in kinds x.items) ≡ [] = ap (part_names kinds) none in
    let all : AreDistinct (clk ∷ rst ∷ (declared_in x ++ (instance_names (instances_in kinds x.items) ++ part_names kinds (instances_in kinds x.items)))) =
    subst (λ (parts : List (List ℕ)). AreDistinct (clk ∷ rst ∷ (declared_in x ++ (instance_names (instances_in kinds x.items) ++ parts)))) (sym no_parts)
    (subst (λ (own : List (List ℕ)). AreDistinct (clk ∷ rst ∷ (declared_in x ++ own))) (sym (append-nil (instance_names (instances_in kinds x.items)))) names) in
    let made : IsMadeTop kinds (module_of x) [] = subst (IsMadeTop kinds (module_of x)) none (made_module kinds ports earlier x rows is.fit all) in
    let order : IsInOrder (given_names (module_of x)) (drives_of x.items) = plain_order kinds (given_names (module_of x)) x.items is.plain (module_order kinds ports earlier x rows is.fit) in
    let same : module_of x ≡ kind_module (kind_from x) = (let r = is.registers in let s = is.steps in rw (r, s) refl) in
    subst IsSound same (alone_sound kinds (module_of x) made order)

-- ---- the text

module _ (x : Text) (h : HasNoRow x) where
  twice : (twice_from (kinds_of x) [] (modules_of x) ≡ None) × (part_twice x ≡ None)
  twice = none_both (twice_from (kinds_of x) [] (modules_of x)) (part_twice x) h.once

  modules_once : AreOnce (kinds_of x) [] (modules_of x)
  modules_once = are_once (kinds_of x) [] (modules_of x) (λ i j d lt lj same. absurd (omega arith)) twice.0

  -- no row holds of a module
  rows_of : (m : ModuleText) → Contains (modules_of x) m → (before : List (List ℕ)) × HasModuleRows (kinds_of x) before m
  rows_of m at =
      let (before, once) = modules_once.each m at in (
        before,
        record {
          once = once;
          named_right = each_at (λ m. wrong_in_module (kinds_of x) m ≡ None) (modules_of x) m (each_none (wrong_in_module (kinds_of x)) (modules_of x) h.named_right) at;
          all_driven = each_at (λ m. undriven_in_module (kinds_of x) m ≡ None) (modules_of x) m (each_none (undriven_in_module (kinds_of x)) (modules_of x) h.all_driven) at;
          in_order = each_at (λ m. early_in_module (kinds_of x) m ≡ None) (modules_of x) m (each_none (early_in_module (kinds_of x)) (modules_of x) h.in_order) at;
          suited = each_at (λ m. unsuited_in_module (kinds_of x) m ≡ None) (modules_of x) m (each_none (unsuited_in_module (kinds_of x)) (modules_of x) h.suited) at;
        },
      )

  of_kind : (k : ModuleText) → Contains x.kinds k → Contains (modules_of x) k
  of_kind k at = Contains-append_left x.kinds (x.top ∷ []) k at

  of_top : Contains (modules_of x) x.top
  of_top = Contains-append_right x.kinds (x.top ∷ []) x.top (first_among x.top [])

  ports : HavePorts (kinds_of x)
  ports kind at =
      let (k, here, same) = from_map kind_from x.kinds kind at in
      let (before, rows) = rows_of k (of_kind k here) in
      let names : AreDistinct (clk ∷ rst ∷ (declared_in k ++ instance_names (instances_in (kinds_of x) k.items))) = declared_once (kinds_of x) before k rows.once in
      let own : AreDistinct (declared_in k) = front_distinct (declared_in k) (instance_names (instances_in (kinds_of x) k.items)) (rest_distinct (clk ∷ rst ∷ []) (declared_in k ++ instance_names (instances_in (kinds_of x) k.items)) names) in
      subst (λ (kind : CellKind). AreDistinct (names_of kind.inputs ++ names_of kind.outputs)) same
      (front_distinct (names_of k.inputs ++ names_of k.outputs) (declared_names k.declarations) own)

  -- the modules of the text go together
  pub text_parts : AllByRecursion IsPlainKind x.kinds → AllByRecursion IsFit x.top.items → HasParts (plan_of x)
  text_parts plain fit =
      let (before, rows) = rows_of x.top of_top in
      let I = instances_in (kinds_of x) x.top.items in
      let names : AreDistinct (top_names x) = declared_once (kinds_of x) before x.top rows.once in
      let parts : AreDistinct (top_names x ++ part_names (kinds_of x) I) = none_repeated (top_names x) (part_names (kinds_of x) I) names twice.1 in
      let all : AreDistinct (clk ∷ rst ∷ (declared_in x.top ++ (instance_names I ++ part_names (kinds_of x) I))) =
      subst (λ (names : List (List ℕ)). AreDistinct (clk ∷ rst ∷ names)) (append_assoc (declared_in x.top) (instance_names I) (part_names (kinds_of x) I)) parts in
      record {
        named_once = subst AreDistinct modules_named modules_once.names;
        kinds = all_by (λ kind. IsSound (kind_module kind)) (kinds_of x) (λ kind at.
            let (k, here, same) = from_map kind_from x.kinds kind at in
            let (behind, own) = rows_of k (of_kind k here) in
            subst (λ (kind : CellKind). IsSound (kind_module kind)) same (sound_kind (kinds_of x) ports behind k (each_at IsPlainKind x.kinds k plain here) own));
        top = made_module (kinds_of x) ports before x.top rows fit all;
      }
    where
      names_of_kinds : (ks : List ModuleText) (top : ModuleText) → map (λ (x : ModuleText). x.name) (ks ++ top ∷ []) ≡ map (λ (kind : CellKind). kind.name) (map kind_from ks) ++ top.name ∷ []
      names_of_kinds [] top = refl
      names_of_kinds (k ∷ ks) top = ap (λ names. k.name ∷ names) (names_of_kinds ks top)

      modules_named : map (λ (x : ModuleText). x.name) (modules_of x) ≡ module_names (plan_of x)
      modules_named = names_of_kinds x.kinds x.top

  pub top_order : AllByRecursion IsFit x.top.items → AreItemsInOrder (kinds_of x) (given_names (module_of x.top)) x.top.items
  top_order fit = let (before, rows) = rows_of x.top of_top in module_order (kinds_of x) ports before x.top rows fit

-- a text that the grammar spells, and for which no row of faults holds, has a sound flat module
pub sound_text : (ts : List Token) (x : Text) → IsText ts x → HasNoRow x → IsSound (flat_text x)
sound_text ts x t h =
    let plain = plain_kinds t.kinds in
    let fit = fit_items t.top.items in
    text_is_sound x (text_parts x h plain fit) (top_order x h fit)
