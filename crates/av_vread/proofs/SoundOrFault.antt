-- A design whose parts are spelled is sound, or its own text has a first fault.
use Rattle.std.proofs.Common.{◌≡◌, ℕ, List, [], ◌∷◌, ◌++◌, map, refl, sym, ap, subst, ◌∙◌, inl, inr, ◌⊎◌}
use Rattle.std.specs.Prelude.{All, Contains, codes}
use Rattle.std.proofs.lemmas.List.Elements.{All-from_recursion, recursion_from_All, All-contains_itself, All-weaker, All-append, All-map, All-nil, Contains-append_left, Contains-append_right}
use Rattle.av_net.specs.declared.operation.Operation.{Operation}
use Rattle.av_net.specs.declared.operation.Operation.TheVariants.{Plain, Binary, Signed, Choose, Part, Widen}
use Rattle.av_net.specs.declared.netlist.Port.{Port}
use Rattle.av_net.specs.declared.netlist.Drive.{Drive}
use Rattle.av_net.specs.declared.netlist.Step.{Step}
use Rattle.av_net.specs.declared.netlist.Module.{Module}
use Rattle.av_net.specs.declared.design.Entry.{Entry}
use Rattle.av_net.specs.declared.design.Listing.{Listing}
use Rattle.av_net.specs.declared.design.Design.{Design}
use Rattle.av_net.specs.declared.plan.Plan.{Plan}
use Rattle.av_net.specs.Meaning.{Widths}
use Rattle.av_net.specs.Names.{names_of, wire_names}
use Rattle.av_net.specs.Lexemes.{IsName}
use Rattle.av_net.specs.Grammar.{Item, wire, register}
use Rattle.av_net.specs.Listed.{Line, listing_lines, MayBeListed, IsListing}
use Rattle.av_net.specs.Rows.{wires_of, registers_in, drives_of, steps_of, module_of, flat_text}
use Rattle.av_net.specs.Texts.{written_width, text}
use Rattle.av_net.specs.Designs.{Says, Spells, IsSoundDesign}
use Rattle.av_net.proofs.Alone.{alone}
use Rattle.av_net.proofs.Said.{said_by, drive_said, step_said, top_said, plan_said, wires_back, registers_back, ArePlain, plain_flat}
use Rattle.av_vread.specs.declared.fault.VFault.{VFault}
use Rattle.av_vread.specs.Faults.{IsFault}
use Rattle.av_vread.specs.SpelledParts.{IsEntrySpelled, HasSpelledParts, IsPlanSpelled}
use Rattle.av_vread.proofs.Each.{all_unmap, both_all}
use Rattle.av_vread.proofs.NamesSpelled.{tokens_named, text_named, input_names, wires_have_names, are_words}
use Rattle.av_vread.proofs.ListingLines.{texts_of, one_listing}
use Rattle.av_vparse.proofs.Answered.{one_said}
use Rattle.av_vread.proofs.Faulted.{either, not_both}
use Rattle.av_vread.proofs.SoundDesigns.{spelled_sound}
use Rattle.av_vread.proofs.WrittenListing.{entry_lines, first_version}
use Rattle.av_vread.proofs.NoRows.{drives_back, steps_back}
use Rattle.av_vread.proofs.RoundTrip.{module_line, says, lines_told, design_told, read_back}

-- ---- entries, at the wires that they name

abbrev own_wires : List Entry → List (List ℕ)
own_wires entries = map (λ e. e.wire) entries

own_named : (entries : List Entry) → All IsEntrySpelled entries → All IsName (own_wires entries)
own_named entries h = All-map IsName (λ e. e.wire) entries (All-weaker IsEntrySpelled (λ e. IsName e.wire) (λ e s. s.wire) entries h)

-- they may be listed at their own wires, whatever others there are
at_own : (others : List (List ℕ)) (entries : List Entry) → All IsEntrySpelled entries → All (MayBeListed (others ++ own_wires entries)) entries
at_own others entries h =
    let wires = own_wires entries in
    All-from_recursion (MayBeListed (others ++ wires)) entries
    (both_all IsEntrySpelled (λ e. Contains wires e.wire) (MayBeListed (others ++ wires))
    (λ e s c. record { variable = s.variable; indices = s.indices; index = s.index; wire = Contains-append_right others wires e.wire c; cycle = s.cycle }) entries
    (recursion_from_All IsEntrySpelled entries h) (all_unmap (Contains wires) (λ e. e.wire) entries (recursion_from_All (Contains wires) wires (All-contains_itself wires))))

-- and where they may be listed, with more wires too
at_more : (wires more : List (List ℕ)) (entries : List Entry) → All (MayBeListed wires) entries → All (MayBeListed (wires ++ more)) entries
at_more wires more entries h =
    All-weaker (MayBeListed wires) (MayBeListed (wires ++ more))
    (λ e s. record { variable = s.variable; indices = s.indices; index = s.index; wire = Contains-append_left wires more e.wire s.wire; cycle = s.cycle }) entries h

-- the lines of a listing tell no other
same_listing : (ports wires : List (List ℕ)) (lines : List Line) (a b : Listing) → All IsName ports → All IsName wires → IsListing ports wires lines a
    → texts_of lines ≡ entry_lines b → All IsEntrySpelled b.ins → All IsEntrySpelled b.ats → a ≡ b
same_listing ports wires lines a b p w h e ins ats =
    let more_ports = ports ++ own_wires b.ins in
    let more_wires = wires ++ own_wires b.ats in
    one_listing more_ports more_wires (are_words more_ports (All-append IsName ports (own_wires b.ins) p (own_named b.ins ins)))
    (are_words more_wires (All-append IsName wires (own_wires b.ats) w (own_named b.ats ats))) lines a b
    (record { spelled = h.spelled; ins = at_more ports (own_wires b.ins) a.ins h.ins; ats = at_more wires (own_wires b.ats) a.ats h.ats })
    (record { spelled = e; ins = at_own ports b.ins ins; ats = at_own wires b.ats ats })

-- ---- a design as a plan, be it sound or not

plain_steps : (registers : List Port) (ss : List Step) → ArePlain (map (step_said registers) ss)
plain_steps registers [] = tt
plain_steps registers (s ∷ ss) = plain_steps registers ss

plain_drive : (widths : Widths) (d : Drive) (o : Operation) (items : List Item) → ArePlain items → ArePlain (said_by widths d o ∷ items)
plain_drive widths d (Plain a) items h = h
plain_drive widths d (Binary a symbol b) items h = h
plain_drive widths d (Signed a symbol b) items h = h
plain_drive widths d (Choose a b c) items h = h
plain_drive widths d (Part name high low) items h = h
plain_drive widths d (Widen name by) items h = h

plain_items : (widths : Widths) (registers : List Port) (ds : List Drive) (ss : List Step) → ArePlain (map (drive_said widths) ds ++ map (step_said registers) ss)
plain_items widths registers [] ss = plain_steps registers ss
plain_items widths registers (d ∷ ds) ss = plain_drive widths d d.operation (map (drive_said widths) ds ++ map (step_said registers) ss) (plain_items widths registers ds ss)

module_back : (listing : Listing) (m : Module) → module_of (top_said (alone listing m)) ≡ m
module_back listing m =
    let widths = written_width m in
    let w : wires_of (map wire m.wires ++ map register m.registers) ≡ m.wires = wires_back m.wires m.registers in
    let r : registers_in (map wire m.wires ++ map register m.registers) ≡ m.registers = registers_back m.wires m.registers in
    let d : drives_of (map (drive_said widths) m.drives ++ map (step_said m.registers) m.steps) ≡ m.drives = drives_back [] widths m.registers [] m.drives m.steps in
    let s : steps_of (map (drive_said widths) m.drives ++ map (step_said m.registers) m.steps) ≡ m.steps = steps_back [] widths m.registers [] m.drives m.steps in
    rw (w, r, d, s) refl

alone_said : (listing : Listing) (m : Module) → flat_text (plan_said (alone listing m)) ≡ m
alone_said listing m = plain_flat (plan_said (alone listing m)) (plain_items (written_width m) m.registers m.drives m.steps) ∙ module_back listing m

-- ---- what the text of a design spells is that design

module _ (d other : Design) (spelled : HasSpelledParts d) (s : Spells (text d) other) where
  abbrev plan : Plan
  plan = alone d.listing d.«module»

  parts : IsPlanSpelled plan
  parts = record { kinds = All-nil _; top = spelled.of_module; instances = All-nil _; ins = spelled.ins; ats = spelled.ats }

  line : ℕ
  line = module_line (codes "// alphav 1") first_version plan parts

  text_says : Says (text d) (plan_said plan) line
  unfolding line
  text_says = subst (λ z. Says z (plan_said plan) line) (sym (design_told d)) (says (codes "// alphav 1") first_version plan parts)

  same : (s.said ≡ plan_said plan) × (s.line ≡ line)
  same = one_said (text d) s.said (plan_said plan) s.line line s.says text_says

  modules : other.«module» ≡ d.«module»
  modules = s.is_flat ∙ ap flat_text same.0 ∙ alone_said d.listing d.«module»

  own_lines : texts_of (listing_lines (text d) line) ≡ entry_lines d.listing
  unfolding line
  own_lines = ap (λ z. texts_of (listing_lines z line)) (design_told d) ∙ lines_told (codes "// alphav 1") first_version plan parts

  listings : other.listing ≡ d.listing
  listings =
      let named = text_named s.says.parsed (tokens_named s.says.lexed) in
      same_listing (names_of s.said.top.inputs) (wire_names (module_of s.said.top)) (listing_lines (text d) s.line) other.listing d.listing
      (input_names s.said.top named.top) (wires_have_names s.said.top named.top) s.lists (ap (λ n. texts_of (listing_lines (text d) n)) same.1 ∙ own_lines) spelled.ins spelled.ats

  abbrev designed : Listing → Module → Design
  designed listing m = record { listing = listing; «module» = m }

  itself : other ≡ d
  itself = ap (λ l. designed l other.«module») listings ∙ ap (designed d.listing) modules

-- ---- the clauses

pub sound_or_fault : (d : Design) → HasSpelledParts d → IsSoundDesign d ⊎ ((f : VFault) × IsFault (text d) f)
sound_or_fault d spelled = elim (either (text d)) [
  | inl read ↦ inl (subst IsSoundDesign (itself d read.0 spelled read.1) (spelled_sound (text d) read.0 read.1))
  | inr fault ↦ inr fault
]

pub no_fault : (d : Design) (f : VFault) → IsSoundDesign d → IsFault (text d) f → ⊥
no_fault d f sound fault = not_both (text d) d f (read_back d sound) fault
