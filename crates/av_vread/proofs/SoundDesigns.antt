-- A design that is spelled is sound.
use Rattle.std.proofs.Common.{◌≡◌, ◌≤◌, ℕ, List, [], ◌∷◌, map, refl, sym, subst}
use Rattle.std.specs.Prelude.{All, Contains}
use Rattle.std.specs.List.{AllByRecursion}
use Rattle.std.proofs.lemmas.List.Elements.{All-cons, All-from_recursion, All-nil}
use Rattle.av_base.proofs.Among.{from_map}
use Rattle.av_net.specs.declared.operation.Operand.{Operand}
use Rattle.av_net.specs.declared.operation.Operand.TheVariants as operand
use Rattle.av_net.specs.declared.operation.Operation.{Operation}
use Rattle.av_net.specs.declared.operation.Operation.TheVariants as operation
use Rattle.av_net.specs.declared.netlist.Port.{Port}
use Rattle.av_net.specs.declared.netlist.Drive.{Drive}
use Rattle.av_net.specs.declared.netlist.Step.{Step}
use Rattle.av_net.specs.declared.design.Design.{Design}
use Rattle.av_net.specs.declared.plan.CellKind.{CellKind}
use Rattle.av_net.specs.declared.plan.Instance.{Instance}
use Rattle.av_net.specs.Meaning.{EachOperand}
use Rattle.av_net.specs.Names.{declarations}
use Rattle.av_net.specs.Lexemes.{Token, IsName}
use Rattle.av_net.specs.Flat.{kind_module}
use Rattle.av_net.specs.Plans.{instance_names}
use Rattle.av_net.specs.Grammar.{ModuleText, Item, drive, widening, step, instance, IsOperation, plain, binary, signed, choice, selection, IsDrive, IsWideningDrive, AreMany, no_more, one_more, IsItem, assignment, wide_assignment, at_an_edge, instantiation, IsKindItem, kind_assignment, kind_wide_assignment, IsKind}
use Rattle.av_net.specs.Rows.{module_of, kind_from, kinds_of, drives_of, steps_of, registers_in, instances_in}
use Rattle.av_net.specs.Designs.{Spells, HasWidth, HasBits, HasSpelling, IsSoundDesign}
use Rattle.av_net.proofs.InParts.{all_by}
use Rattle.av_net.proofs.RowTests.{each_at, fit_items}
use Rattle.av_net.proofs.FlatTexts.{plan_of}
use Rattle.av_net.proofs.FlatDesigns.{listed_wires, text_spelling}
use Rattle.av_net.proofs.SoundTexts.{IsPlainKind, plain_kinds, text_parts, sound_text}
use Rattle.av_vread.proofs.NamesSpelled.{IsModuleNamed, IsItemNamed, tokens_named, text_named, all_have_names}

-- ---- literals and widenings

has_width : (o : Operand) → HasWidth o
has_width (operand.Name name) = tt
has_width (operand.Literal width value) = (width.least, width.most)

have_widths : (o : Operation) → EachOperand HasWidth o
have_widths (operation.Plain a) = has_width a
have_widths (operation.Binary a s b) = (has_width a, has_width b)
have_widths (operation.Signed a s b) = (has_width a, has_width b)
have_widths (operation.Choose a b c) = (has_width a, has_width b, has_width c)
have_widths (operation.Part name high low) = tt
have_widths (operation.Widen name by) = tt

abbrev DriveHasBits : Drive → Type 0
DriveHasBits d = HasBits d.operation

operation_bits : {ts rest : List Token} {o : Operation} → IsOperation ts rest o → HasBits o
operation_bits (plain x) = tt
operation_bits (binary x s y) = tt
operation_bits (signed x o s y) = tt
operation_bits (choice x s y t z) = tt
operation_bits (selection p) = tt

drive_bits : {ts rest : List Token} {d : Drive} → IsDrive ts rest d → DriveHasBits d
drive_bits d = operation_bits d.operation

wide_drive_bits : {ts rest : List Token} {bit : ℕ} {d : Drive} → IsWideningDrive ts rest bit d → DriveHasBits d
wide_drive_bits d = subst HasBits (sym d.operation) d.widens.least

item_bits : {ts rest : List Token} {items : List Item} → AreMany IsItem ts rest items → AllByRecursion DriveHasBits (drives_of items)
item_bits no_more = tt
item_bits (one_more (assignment d) many) = (drive_bits d, item_bits many)
item_bits (one_more (wide_assignment d) many) = (wide_drive_bits d, item_bits many)
item_bits (one_more (at_an_edge s) many) = item_bits many
item_bits (one_more (instantiation i) many) = item_bits many

kind_item_bits : {ts rest : List Token} {items : List Item} → AreMany IsKindItem ts rest items → AllByRecursion DriveHasBits (drives_of items)
kind_item_bits no_more = tt
kind_item_bits (one_more (kind_assignment d) many) = (drive_bits d, kind_item_bits many)
kind_item_bits (one_more (kind_wide_assignment d) many) = (wide_drive_bits d, kind_item_bits many)

abbrev HaveBits : ModuleText → Type 0
HaveBits x = AllByRecursion DriveHasBits (drives_of x.items)

kinds_bits : {ts rest : List Token} {xs : List ModuleText} → AreMany IsKind ts rest xs → AllByRecursion HaveBits xs
kinds_bits no_more = tt
kinds_bits (one_more k many) = (kind_item_bits k.items, kinds_bits many)

-- ---- modules

module_spelled : (x : ModuleText) → IsModuleNamed x → HaveBits x → HasSpelling (module_of x)
module_spelled x named bits = record {
  module_name = named.own;
  names = all_have_names x named;
  widths = all_by (λ (port : Port). (1 ≤ port.width.bits) × (port.width.bits ≤ 64)) (declarations (module_of x)) (λ port at. (port.width.least, port.width.most));
  drive_literals = all_by (λ (d : Drive). EachOperand HasWidth d.operation) (drives_of x.items) (λ d at. have_widths d.operation);
  step_literals = all_by (λ (s : Step). HasWidth s.next) (steps_of x.items) (λ s at. has_width s.next);
  widenings = All-from_recursion DriveHasBits (drives_of x.items) bits;
}

kind_spelled : (x : ModuleText) → IsModuleNamed x → HaveBits x → registers_in x.declarations ≡ [] → steps_of x.items ≡ [] → HasSpelling (kind_module (kind_from x))
kind_spelled x named bits r s =
    let same : module_of x ≡ kind_module (kind_from x) = rw (r, s) refl in
    subst HasSpelling same (module_spelled x named bits)

kinds_spelled : (xs : List ModuleText) → AllByRecursion IsModuleNamed xs → AllByRecursion HaveBits xs → AllByRecursion IsPlainKind xs → (kind : CellKind) → Contains (map kind_from xs) kind → HasSpelling (kind_module kind)
kinds_spelled xs named bits all kind at =
    let (x, here, same) = from_map kind_from xs kind at in
    let is = each_at IsPlainKind xs x all here in
    subst (λ kind. HasSpelling (kind_module kind)) same
    (kind_spelled x (each_at IsModuleNamed xs x named here) (each_at HaveBits xs x bits here) is.registers is.steps)

instances_named : (kinds : List CellKind) (items : List Item) → AllByRecursion IsItemNamed items → All IsName (instance_names (instances_in kinds items))
instances_named kinds [] h = All-nil IsName
instances_named kinds (drive d ∷ items) h = instances_named kinds items h.1
instances_named kinds (widening bit d ∷ items) h = instances_named kinds items h.1
instances_named kinds (step width s ∷ items) h = instances_named kinds items h.1
instances_named kinds (instance x ∷ items) h = All-cons IsName x.name (instance_names (instances_in kinds items)) h.0 (instances_named kinds items h.1)

pub spelled_sound : (bytes : List ℕ) (design : Design) → Spells bytes design → IsSoundDesign design
spelled_sound bytes design s =
    let x = s.said in
    let t = s.says.parsed in
    let named = text_named t (tokens_named s.says.lexed) in
    let all = plain_kinds t.kinds in
    let bits = item_bits t.top.items in
    let parts = text_parts x s.no_row all (fit_items t.top.items) in
    let flat = text_spelling x parts (record {
      kinds = all_by (λ kind. HasSpelling (kind_module kind)) (kinds_of x) (kinds_spelled x.kinds named.kinds (kinds_bits t.kinds) all);
      top = module_spelled x.top named.top bits;
      instance_names = instances_named (kinds_of x) x.top.items named.instances;
      instance_literals = all_by (λ (i : Instance). All HasWidth i.inputs) (instances_in (kinds_of x) x.top.items) (λ i at. all_by HasWidth i.inputs (λ o there. has_width o));
    }) in
    subst (λ m. IsSoundDesign (record { listing = design.listing; «module» = m })) (sym s.is_flat)
    (record {
      sound = sound_text s.says.tokens x t s.no_row;
      module_name = flat.module_name;
      names = flat.names;
      widths = flat.widths;
      drive_literals = flat.drive_literals;
      step_literals = flat.step_literals;
      widenings = flat.widenings;
      ins = s.lists.ins;
      ats = listed_wires (plan_of x) design.listing.ats s.lists.ats;
    })
