-- The text of a sound design spells that design, and the text of a sound plan its flat design.
use Rattle.std.proofs.Common.{◌≡◌, ℕ, ◌-◌, ◌≤◌, List, [], ◌∷◌, ◌++◌, length, take, refl, sym, ap, subst, ◌∙◌, arith, append_assoc}
use Rattle.std.specs.Prelude.{codes}
use Rattle.std.specs.List.{AllByRecursion, filter, flat_map}
use Rattle.std.proofs.lemmas.List.Elements.{recursion_from_All, All-nil, All-weaker}
use Rattle.av_base.specs.declared.place.Place.{Place}
use Rattle.av_base.specs.Tokens.{start}
use Rattle.av_net.specs.declared.netlist.Module.{Module}
use Rattle.av_net.specs.declared.design.Listing.{Listing}
use Rattle.av_net.specs.declared.design.Design.{Design}
use Rattle.av_net.specs.declared.plan.CellKind.{CellKind}
use Rattle.av_net.specs.declared.plan.Instance.{Instance}
use Rattle.av_net.specs.declared.plan.Plan.{Plan}
use Rattle.av_net.specs.Names.{names_of, wire_names}
use Rattle.av_net.specs.Flat.{flat_of}
use Rattle.av_net.specs.Listed.{lines_of, numbered, is_listed, listing_lines, IsListing}
use Rattle.av_net.specs.Rows.{module_of}
use Rattle.av_net.specs.Texts.{version_line, listing_text, module_text, text}
use Rattle.av_net.specs.PlanTexts.{second_version_line, kind_text, top_text, text2}
use Rattle.av_net.specs.Designs.{first_line, Says, Spells, IsSoundDesign, IsSoundPlan}
use Rattle.av_net.proofs.Made.{made}
use Rattle.av_net.proofs.Alone.{alone, alone_sound, alone_flat}
use Rattle.av_net.proofs.Said.{plan_said, top_said, flat_of_said}
use Rattle.av_vread.specs.SpelledParts.{IsEntrySpelled, IsKindSpelled, IsPlanSpelled}
use Rattle.av_vread.proofs.Faulted.{one_design}
use Rattle.av_vread.proofs.ListingLines.{texts_of}
use Rattle.av_vparse.proofs.Spaced.{bytes_of, tokens_from, spaced_tokens}
use Rattle.av_vread.proofs.WrittenParts.{kinds_onto, top_parts, plan_parts}
use Rattle.av_vread.proofs.WrittenSpaced.{plan_spaced}
use Rattle.av_vread.proofs.WrittenBytes.{plan_bytes, module_bytes}
use Rattle.av_vread.proofs.WrittenGrammar.{plan_is}
use Rattle.av_vread.proofs.WrittenListing.{joined, entry_lines, listing_joined, IsCommentLine, IsVersionLine, first_version, second_version, entry_comments, after_lines, comments_before, lines_after, lines_found, listing_found}
use Rattle.av_vread.proofs.NoRows.{top_back, no_rows}
use Rattle.av_vread.proofs.SpelledParts.{plan_spelled}

-- ---- a plan whose parts are spelled is told by its text, be it sound or not

-- a first line, the listing, and the tokens of the modules
pub told : List ℕ → Plan → List ℕ
told version plan = joined (version ∷ entry_lines plan.listing) (bytes_of (plan_parts plan))

-- the first token stands where they begin
first_place : (p : Place) (some kinds : List CellKind) (instances : List Instance) (m : Module) → first_line (tokens_from p (kinds_onto some (top_parts kinds instances m))) ≡ p.line
first_place p [] kinds instances m = refl
first_place p (kind ∷ some) kinds instances m = refl

module _ (version : List ℕ) (is_version : IsVersionLine version) (plan : Plan) (spelled : IsPlanSpelled plan) where
  heads : List (List ℕ)
  heads = version ∷ entry_lines plan.listing

  comments : AllByRecursion IsCommentLine heads
  unfolding heads
  comments = (is_version.comment, entry_comments plan.listing (recursion_from_All IsEntrySpelled plan.listing.ins spelled.ins) (recursion_from_All IsEntrySpelled plan.listing.ats spelled.ats))

  here : Place
  here = after_lines start heads

  -- the line on which the first module begins
  pub module_line : ℕ
  module_line = here.line

  pub says : Says (told version plan) (plan_said plan) module_line
  unfolding module_line here heads told
  says = record {
    tokens = tokens_from here (plan_parts plan);
    lexed = comments_before start heads (bytes_of (plan_parts plan)) (tokens_from here (plan_parts plan)) comments (spaced_tokens here (plan_parts plan) (plan_spaced plan spelled));
    parsed = plan_is here plan spelled;
    begins = first_place here plan.kinds plan.kinds plan.instances plan.top;
  }

  found : listing_lines (told version plan) module_line ≡ filter is_listed (numbered 1 heads)
  unfolding module_line here heads told
  found =
      let count : here.line - 1 ≡ length heads = let n = lines_after start heads comments in omega arith in
      ap (λ n. filter is_listed (numbered 1 (take n (lines_of (told version plan))))) count
      ∙ ap (λ z. filter is_listed (numbered 1 z)) (lines_found heads (bytes_of (plan_parts plan)) comments)

  pub lines_told : texts_of (listing_lines (told version plan) module_line) ≡ entry_lines plan.listing
  unfolding heads
  lines_told = ap texts_of found ∙ listing_found version is_version plan.listing

-- ---- both versions

pub design_told : (d : Design) → text d ≡ told (codes "// alphav 1") (alone d.listing d.«module»)
unfolding version_line told
design_told d =
    append_assoc version_line (listing_text d.listing) (module_text d.«module»)
    ∙ ap (λ z. version_line ++ z) (listing_joined d.listing (module_text d.«module») ∙ ap (joined (entry_lines d.listing)) (sym (module_bytes d.listing d.«module»)))

pub plan_told : (plan : Plan) → IsPlanSpelled plan → text2 plan ≡ told (codes "// alphav 2") plan
unfolding second_version_line told
plan_told plan spelled =
    let some : AllByRecursion (λ (kind : CellKind). 1 ≤ length kind.outputs) plan.kinds =
    recursion_from_All (λ (kind : CellKind). 1 ≤ length kind.outputs) plan.kinds (All-weaker IsKindSpelled (λ (kind : CellKind). 1 ≤ length kind.outputs) (λ kind k. k.puts) plan.kinds spelled.kinds) in
    let modules = flat_map kind_text plan.kinds ++ top_text plan in
    append_assoc (second_version_line ++ listing_text plan.listing) (flat_map kind_text plan.kinds) (top_text plan)
    ∙ append_assoc second_version_line (listing_text plan.listing) (flat_map kind_text plan.kinds ++ top_text plan)
    ∙ ap (λ z. second_version_line ++ z) (listing_joined plan.listing (flat_map kind_text plan.kinds ++ top_text plan) ∙ ap (joined (entry_lines plan.listing)) (sym (plan_bytes plan some)))

-- ---- a sound plan is read from its text

-- with either first line
told_spells : (version : List ℕ) → IsVersionLine version → (plan : Plan) → IsSoundPlan plan → Spells (told version plan) (flat_of plan)
told_spells version is_version plan sound =
    let spelled = plan_spelled plan sound in
    let is : module_of (top_said plan) ≡ plan.top = top_back plan sound.modules in
    record {
      said = plan_said plan;
      line = module_line version is_version plan spelled;
      says = says version is_version plan spelled;
      lists =
          subst (λ z. IsListing (names_of plan.top.inputs) (wire_names z) (listing_lines (told version plan) (module_line version is_version plan spelled)) plan.listing) (sym is)
          (record { spelled = lines_told version is_version plan spelled; ins = sound.ins; ats = sound.ats });
      is_flat = sym (flat_of_said plan (made plan sound.modules));
      no_row = no_rows plan sound.modules;
    }

pub plan_read_back : (plan : Plan) → IsSoundPlan plan → Spells (text2 plan) (flat_of plan)
plan_read_back plan sound =
    subst (λ z. Spells z (flat_of plan)) (sym (plan_told plan (plan_spelled plan sound))) (told_spells (codes "// alphav 2") second_version plan sound)

-- a sound design is a sound plan
pub design_plan : (d : Design) → IsSoundDesign d → IsSoundPlan (alone d.listing d.«module»)
design_plan d sound = record {
  modules = alone_sound d.listing d.«module» sound.sound;
  kinds_spelled = All-nil _;
  kinds_put = All-nil _;
  top_spelled = record { module_name = sound.module_name; names = sound.names; widths = sound.widths; drive_literals = sound.drive_literals; step_literals = sound.step_literals; widenings = sound.widenings };
  instance_names = All-nil _;
  instance_literals = All-nil _;
  ins = sound.ins;
  ats = sound.ats;
}

pub read_back : (d : Design) → IsSoundDesign d → Spells (text d) d
read_back d sound =
    let plan = alone d.listing d.«module» in
    let same : flat_of plan ≡ d = ap (λ m. designed d.listing m) (alone_flat d.listing d.«module») in
    subst (Spells (text d)) same (subst (λ z. Spells z (flat_of plan)) (sym (design_told d)) (told_spells (codes "// alphav 1") first_version plan (design_plan d sound)))
  where
    designed : Listing → Module → Design
    designed listing m = record { listing = listing; «module» = m }

pub one_text : (a b : Design) → IsSoundDesign a → IsSoundDesign b → text a ≡ text b → a ≡ b
one_text a b h k e = one_design (text b) a b (subst (λ z. Spells z a) e (read_back a h)) (read_back b k)
