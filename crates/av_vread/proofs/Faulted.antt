-- What checking a text answers: the design that the text spells, or its first fault.
use Rattle.std.proofs.Common.{◌≡◌, ℕ, ◌-◌, List, take, Option, Some, None, Result, Ok, Err, refl, sym, ap, subst, ◌∙◌, inl, inr, ◌⊎◌}
use Rattle.std.specs.Prelude.{IfOk}
use Rattle.av_net.specs.declared.netlist.Module.{Module}
use Rattle.av_net.specs.declared.design.Design.{Design}
use Rattle.av_net.specs.declared.design.Listing.{Listing}
use Rattle.av_net.specs.Names.{names_of, wire_names}
use Rattle.av_net.specs.Grammar.{Text}
use Rattle.av_net.specs.Listed.{Line, lines_of, numbered, listing_lines, IsListing, IsBadLine}
use Rattle.av_net.specs.Rows.{is_in, module_of, flat_text, twice_name, wrong_name, undriven_name, early_name, unsuited_name}
use Rattle.av_net.specs.Designs.{Says, HasNoRow, Spells, IsSoundDesign}
use Rattle.av_vparse.specs.declared.fault.TextFault.{TextFault}
use Rattle.av_vparse.specs.declared.fault.TextFault.TheVariants as parsing
use Rattle.av_vparse.specs.Parsing.{IsFault as IsTextFault}
use Rattle.av_vparse.proofs.Answered.{one_said, said_or_faulty, said_apart, one_fault}
use Rattle.av_vread.specs.declared.fault.VFault.{VFault}
use Rattle.av_vread.specs.declared.fault.VFault.TheVariants.{VByte, VSyntax, VListing, VTwice, VName, VUnassigned, VOrder, VWidth, Memory}
use Rattle.av_vread.specs.inner.Listings.{Listed, no_lines, listing_at}
use Rattle.av_vread.specs.Faults.{or_row, first_row, ListsBadly, HasRow, IsFault, GivesDesign, GivesFault}
use Rattle.av_vread.specs.inner.Checked.{Checked, checked_row, checked_listing, checked_at, fault_for, FaultIs, AnswersWhatIsSaid, AnswersBytes}
use Rattle.av_vread.proofs.NamesSpelled.{tokens_named, IsNamed, text_named, input_names, wires_have_names, are_words}
use Rattle.av_vread.proofs.ListingLines.{read_listed, listing_is, listing_read, bad_is, bad_read, kept_listed}
use Rattle.av_vread.proofs.SoundDesigns.{spelled_sound}

-- ---- rows

no_row : (f : List ℕ → VFault) (o : Option (List ℕ)) (later : Option VFault) → or_row o f later ≡ None → (o ≡ None) × (later ≡ None)
no_row f None later e = (refl, e)
no_row f (Some n) later e = absurd cc

pub row_none : (x : Text) → first_row x ≡ None → HasNoRow x
row_none x e =
    let a = no_row VTwice (twice_name x) _ e in
    let c = no_row VName (wrong_name x) _ a.1 in
    let d = no_row VUnassigned (undriven_name x) _ c.1 in
    let g = no_row VOrder (early_name x) _ d.1 in
    let h = no_row VWidth (unsuited_name x) _ g.1 in
    record { once = a.0; named_right = c.0; all_driven = d.0; in_order = g.0; suited = h.0 }

pub none_row : (x : Text) → HasNoRow x → first_row x ≡ None
none_row x h = rw (h.once, h.named_right, h.all_driven, h.in_order, h.suited) refl

-- a fault that a row of names has
abbrev IsRow : VFault → Type 0
IsRow (VTwice name) = Unit {0}
IsRow (VName name) = Unit {0}
IsRow (VUnassigned name) = Unit {0}
IsRow (VOrder name) = Unit {0}
IsRow (VWidth name) = Unit {0}
IsRow (VByte p) = ⊥
IsRow (VSyntax p) = ⊥
IsRow (VListing n) = ⊥
IsRow Memory = ⊥

is_row : (f : List ℕ → VFault) → ((name : List ℕ) → IsRow (f name)) → (o : Option (List ℕ)) (later : Option VFault) → ((g : VFault) → later ≡ Some g → IsRow g) → (g : VFault) → or_row o f later ≡ Some g → IsRow g
is_row f h None later k g e = k g e
is_row f h (Some n) later k g e = subst IsRow (some_is (f n) g e) (h n)
  where
    some_is : (a b : VFault) → ◌≡◌ {A = Option VFault} (Some a) (Some b) → a ≡ b
    some_is a b e = cc

row_is : (x : Text) (f : VFault) → first_row x ≡ Some f → IsRow f
row_is x f e =
    is_row VTwice (λ n. tt) (twice_name x) _ (is_row VName (λ n. tt) (wrong_name x) _ (is_row VUnassigned (λ n. tt) (undriven_name x) _
    (is_row VOrder (λ n. tt) (early_name x) _ (is_row VWidth (λ n. tt) (unsuited_name x) None (λ g h. absurd cc))))) f e

-- ---- the listing of what is said

abbrev listing_of : List ℕ → Text → ℕ → Listed
listing_of bytes x line = listing_at (is_in (names_of x.top.inputs)) (is_in (wire_names (module_of x.top))) bytes line

abbrev Lists : List ℕ → Text → ℕ → Listing → Type 0
Lists bytes x line listing = IsListing (names_of x.top.inputs) (wire_names (module_of x.top)) (listing_lines bytes line) listing

module _ (bytes : List ℕ) (x : Text) (line : ℕ) (s : Says bytes x line) where
  ports : List (List ℕ)
  ports = names_of x.top.inputs

  wires : List (List ℕ)
  wires = wire_names (module_of x.top)

  lines : List Line
  lines = numbered 1 (take (line - 1) (lines_of bytes))

  named : IsNamed x
  named = text_named s.parsed (tokens_named s.lexed)

  listing_ok : (listing : Listing) → listing_of bytes x line ≡ Ok listing → Lists bytes x line listing
  unfolding ports wires lines
  listing_ok listing e = listing_is ports wires (listing_lines bytes line) listing (kept_listed lines) (read_listed ports wires no_lines lines ∙ e)

  listing_given : (listing : Listing) → Lists bytes x line listing → listing_of bytes x line ≡ Ok listing
  unfolding ports wires lines
  listing_given listing h =
      sym (read_listed ports wires no_lines lines) ∙ listing_read ports wires (are_words ports (input_names x.top named.top)) (are_words wires (wires_have_names x.top named.top)) (listing_lines bytes line) listing h

  bad_line : (n : ℕ) → listing_of bytes x line ≡ Err n → IsBadLine (names_of x.top.inputs) (wire_names (module_of x.top)) (listing_lines bytes line) n
  unfolding ports wires lines
  bad_line n e =
      bad_is ports wires (are_words ports (input_names x.top named.top)) (are_words wires (wires_have_names x.top named.top)) (listing_lines bytes line) n (kept_listed lines) (read_listed ports wires no_lines lines ∙ e)

  bad_given : (n : ℕ) → IsBadLine (names_of x.top.inputs) (wire_names (module_of x.top)) (listing_lines bytes line) n → listing_of bytes x line ≡ Err n
  unfolding ports wires lines
  bad_given n b =
      sym (read_listed ports wires no_lines lines) ∙ bad_read ports wires (are_words ports (input_names x.top named.top)) (are_words wires (wires_have_names x.top named.top)) (listing_lines bytes line) n (kept_listed lines) b

-- ---- what checking what is said tells

ok_read : (a b : Text × Listing) → ◌≡◌ {A = Checked} (Ok a) (Ok b) → a ≡ b
ok_read a b e = cc

err_fault : (f g : VFault) → ◌≡◌ {A = Checked} (Err f) (Err g) → f ≡ g
err_fault f g e = cc

ok_or_err : {f : VFault} {read : Text × Listing} → ◌≡◌ {A = Checked} (Ok read) (Err f) → ⊥
ok_or_err e = cc

module _ (bytes : List ℕ) where
  pub record Said (read : Text × Listing) : Type 0 where
    pub line : ℕ
    pub says : Says bytes read.0 line
    pub lists : Lists bytes read.0 line read.1
    pub no_row_holds : first_row read.0 ≡ None

  said_row : (read : Text × Listing) (x : Text) (line : ℕ) (listing : Listing) (o : Option VFault) → Says bytes x line → Lists bytes x line listing → first_row x ≡ o → checked_row x listing o ≡ Ok read → Said read
  said_row read x line listing None s l e c = subst Said (ok_read (x, listing) read c) (record { line = line; says = s; lists = l; no_row_holds = e })
  said_row read x line listing (Some f) s l e c = absurd cc

  said_listing : (read : Text × Listing) (x : Text) (line : ℕ) (r : Listed) → Says bytes x line → listing_of bytes x line ≡ r → checked_listing x r ≡ Ok read → Said read
  said_listing read x line (Ok listing) s e c = said_row read x line listing (first_row x) s (listing_ok bytes x line s listing e) refl c
  said_listing read x line (Err n) s e c = absurd cc

  row_fault : (f : VFault) → HasRow bytes f → IsRow f → IsFault bytes f
  row_fault (VTwice name) h r = h
  row_fault (VName name) h r = h
  row_fault (VUnassigned name) h r = h
  row_fault (VOrder name) h r = h
  row_fault (VWidth name) h r = h
  row_fault (VByte p) h r = absurd r
  row_fault (VSyntax p) h r = absurd r
  row_fault (VListing n) h r = absurd r
  row_fault Memory h r = absurd r

  fault_row : (f : VFault) (x : Text) (line : ℕ) (listing : Listing) (o : Option VFault) → Says bytes x line → Lists bytes x line listing → first_row x ≡ o → checked_row x listing o ≡ Err f → IsFault bytes f
  fault_row f x line listing None s l e c = absurd cc
  fault_row f x line listing (Some g) s l e c =
      let row : HasRow bytes g = record { said = x; line = line; says = s; listing = listing; lists = l; row = e } in
      subst (IsFault bytes) (err_fault g f c) (row_fault g row (row_is x g e))

  fault_listing : (f : VFault) (x : Text) (line : ℕ) (r : Listed) → Says bytes x line → listing_of bytes x line ≡ r → checked_listing x r ≡ Err f → IsFault bytes f
  fault_listing f x line (Ok listing) s e c = fault_row f x line listing (first_row x) s (listing_ok bytes x line s listing e) refl c
  fault_listing f x line (Err n) s e c =
      let bad : ListsBadly bytes n = record { said = x; line = line; says = s; bad = bad_line bytes x line s n e } in
      subst (IsFault bytes) (err_fault (VListing n) f c) bad

  -- ---- what checking bytes gives: what is said, checked, or the fault of the text

  abbrev pub Verdict : Checked → Type 0
  Verdict r = ((x : Text) × (line : ℕ) × Says bytes x line × (checked_at bytes x line ≡ r)) ⊎ ((f : TextFault) × IsTextFault bytes f × (r ≡ Err (fault_for f)))

  -- there is one at most
  one_verdict : (r s : Checked) → Verdict r → Verdict s → r ≡ s
  one_verdict r s (inl a) (inl b) =
      let same = one_said bytes a.0 b.0 a.1 b.1 a.2 b.2 in
      sym a.3 ∙ ap (λ x. checked_at bytes x a.1) same.0 ∙ ap (checked_at bytes b.0) same.1 ∙ b.3
  one_verdict r s (inl a) (inr b) = absurd (said_apart bytes a.0 a.1 b.0 a.2 b.1)
  one_verdict r s (inr a) (inl b) = absurd (said_apart bytes b.0 b.1 a.0 b.2 a.1)
  one_verdict r s (inr a) (inr b) = a.2 ∙ ap (λ f. Err (fault_for f)) (one_fault bytes a.0 b.0 a.1 b.1) ∙ sym b.2

  -- a fault of the text is none of a design that is read
  no_text : (read : Text × Listing) (f : TextFault) → ◌≡◌ {A = Checked} (Ok read) (Err (fault_for f)) → ⊥
  no_text read f e = cc

  pub said_ok : (read : Text × Listing) → Verdict (Ok read) → Said read
  said_ok read (inl a) = said_listing read a.0 a.1 (listing_of bytes a.0 a.1) a.2 refl a.3
  said_ok read (inr a) = absurd (no_text read a.0 a.2)

  of_text : (f : TextFault) → IsTextFault bytes f → IsFault bytes (fault_for f)
  of_text (parsing.Byte p) h = h
  of_text (parsing.Syntax p) h = h
  of_text parsing.Memory h = absurd h

  pub said_err : (f : VFault) → Verdict (Err f) → IsFault bytes f
  said_err f (inl a) = fault_listing f a.0 a.1 (listing_of bytes a.0 a.1) a.2 refl a.3
  said_err f (inr a) = subst (IsFault bytes) (sym (err_fault f (fault_for a.0) a.2)) (of_text a.0 a.1)

  bad_answer : (n : ℕ) → ListsBadly bytes n → Verdict (Err (VListing n))
  bad_answer n h = inl (h.said, h.line, h.says, ap (checked_listing h.said) (bad_given bytes h.said h.line h.says n h.bad))

  row_answer : (f : VFault) → HasRow bytes f → Verdict (Err f)
  row_answer f h =
      inl (h.said, h.line, h.says, ap (checked_listing h.said) (listing_given bytes h.said h.line h.says h.listing h.lists) ∙ ap (checked_row h.said h.listing) h.row)

  text_answer : (f : TextFault) → IsTextFault bytes f → Verdict (Err (fault_for f))
  text_answer f h = inr (f, h, refl)

  -- where a fault is the first
  answered : (f : VFault) → IsFault bytes f → Verdict (Err f)
  answered (VByte p) h = text_answer (parsing.Byte p) h
  answered (VSyntax p) h = text_answer (parsing.Syntax p) h
  answered (VListing n) h = bad_answer n h
  answered (VTwice n) h = row_answer (VTwice n) h
  answered (VName n) h = row_answer (VName n) h
  answered (VUnassigned n) h = row_answer (VUnassigned n) h
  answered (VOrder n) h = row_answer (VOrder n) h
  answered (VWidth n) h = row_answer (VWidth n) h
  answered Memory h = absurd h

  -- ---- designs

  abbrev pub designed : Listing → Module → Design
  designed listing m = record { listing = listing; «module» = m }

  pub found : (x : Text) (listing : Listing) (m : Module) → Verdict (Ok (x, listing)) → m ≡ flat_text x → Spells bytes (designed listing m)
  found x listing m c e =
      let s = said_ok (x, listing) c in
      record { said = x; line = s.line; says = s.says; lists = s.lists; is_flat = e; no_row = row_none x s.no_row_holds }

  given : (design : Design) (s : Spells bytes design) → Verdict (Ok (s.said, design.listing))
  given design s =
      inl (s.said, s.line, s.says, ap (checked_listing s.said) (listing_given bytes s.said s.line s.says design.listing s.lists) ∙ ap (checked_row s.said design.listing) (none_row s.said s.no_row))

  pub only_ok : (x : Text) (listing : Listing) (m : Module) (wanted : Design) → Verdict (Ok (x, listing)) → m ≡ flat_text x → Spells bytes wanted → designed listing m ≡ wanted
  only_ok x listing m wanted c e s =
      let same : (x, listing) ≡ (s.said, wanted.listing) = ok_read (x, listing) (s.said, wanted.listing) (one_verdict (Ok (x, listing)) (Ok (s.said, wanted.listing)) c (given wanted s)) in
      ap (designed listing) e ∙ ap (λ read. designed read.1 (flat_text read.0)) same ∙ ap (designed wanted.listing) (sym s.is_flat)

  pub refused_ok : (read : Text × Listing) (f : VFault) → Verdict (Ok read) → IsFault bytes f → ⊥
  refused_ok read f c h = ok_or_err (one_verdict (Ok read) (Err f) c (answered f h))

  -- ---- the answer of a reader

  -- a design, or a fault, or out of memory
  abbrev pub Told : Result Design VFault → Type 0
  Told (Ok design) = (x : Text) × Verdict (Ok (x, design.listing)) × (design.«module» ≡ flat_text x)
  Told (Err f) = (f ≡ Memory) ⊎ Verdict (Err f)

  fault_told : (f : VFault) (r : Checked) → FaultIs f r → (f ≡ Memory) ⊎ (r ≡ Err f)
  fault_told Memory r c = inl refl
  fault_told (VByte p) r c = inr c
  fault_told (VSyntax p) r c = inr c
  fault_told (VListing n) r c = inr c
  fault_told (VTwice n) r c = inr c
  fault_told (VName n) r c = inr c
  fault_told (VUnassigned n) r c = inr c
  fault_told (VOrder n) r c = inr c
  fault_told (VWidth n) r c = inr c

  said_verdict : (x : Text) (line : ℕ) (r : Checked) → Says bytes x line → checked_at bytes x line ≡ r → Verdict r
  said_verdict x line r s e = inl (x, line, s, e)

  said_told : (r : Result Design VFault) → AnswersWhatIsSaid bytes r → Told r
  said_told (Ok design) a = (a.answers.0, said_verdict a.said a.line (Ok (a.answers.0, design.listing)) a.says a.answers.1, a.answers.2)
  said_told (Err f) a = elim (fault_told f (checked_at bytes a.said a.line) a.answers) [
    | inl e ↦ inl e
    | inr e ↦ inr (said_verdict a.said a.line (Err f) a.says e)
  ]

  nothing_told : (f : TextFault) → (f ≡ parsing.Memory) ⊎ IsTextFault bytes f → Told (Err (fault_for f))
  nothing_told f h = elim h [
    | inl e ↦ inl (ap fault_for e)
    | inr is ↦ inr (text_answer f is)
  ]

  is_told : (r : Result Design VFault) → AnswersBytes bytes r → Told r
  is_told r (inl a) = said_told r a
  is_told r (inr a) = subst Told (sym a.told) (nothing_told a.fault a.is)

  -- ---- the clauses

  found_by : (r : Result Design VFault) → Told r → IfOk r (λ design. Spells bytes design)
  found_by (Ok design) a = found a.0 design.listing design.«module» a.1 a.2
  found_by (Err f) a = tt

  only_by : (r : Result Design VFault) → Told r → (design : Design) → Spells bytes design → GivesDesign r design
  only_by (Ok design) a wanted s = only_ok a.0 design.listing design.«module» wanted a.1 a.2 s
  only_by (Err f) a wanted s = elim a [
    | inl e ↦ subst (λ z. GivesDesign (Err z) wanted) (sym e) (memory wanted)
    | inr v ↦ absurd (ok_or_err (one_verdict (Ok (s.said, wanted.listing)) (Err f) (given wanted s) v))
  ]
    where
      memory : (wanted : Design) → GivesDesign (Err Memory) wanted
      memory wanted = tt

  fault_or_memory : (g : VFault) → Told (Err g) → (g ≡ Memory) ⊎ IsFault bytes g
  fault_or_memory g a = elim a [
    | inl m ↦ inl m
    | inr v ↦ inr (said_err g v)
  ]

  fault_by : (r : Result Design VFault) → Told r → (f : VFault) → r ≡ Err f → (f ≡ Memory) ⊎ IsFault bytes f
  fault_by (Ok design) a f e = absurd (no_err design f e)
    where
      no_err : (d : Design) (f : VFault) → ◌≡◌ {A = Result Design VFault} (Ok d) (Err f) → ⊥
      no_err d f e = cc
  fault_by (Err g) a f e = subst (λ z. (z ≡ Memory) ⊎ IsFault bytes z) (err_is g f e) (fault_or_memory g a)
    where
      err_is : (g f : VFault) → ◌≡◌ {A = Result Design VFault} (Err g) (Err f) → g ≡ f
      err_is g f e = cc

  gives_same : (f : VFault) → GivesFault (Err f) f
  gives_same Memory = tt
  gives_same (VByte p) = refl
  gives_same (VSyntax p) = refl
  gives_same (VListing p) = refl
  gives_same (VTwice p) = refl
  gives_same (VName p) = refl
  gives_same (VUnassigned p) = refl
  gives_same (VOrder p) = refl
  gives_same (VWidth p) = refl

  refused_by : (r : Result Design VFault) → Told r → (f : VFault) → IsFault bytes f → GivesFault r f
  refused_by (Ok design) a f h = refused_ok (a.0, design.listing) f a.1 h
  refused_by (Err g) a f h = elim a [
    | inl e ↦ subst (λ z. GivesFault (Err z) f) (sym e) (memory f)
    | inr v ↦ subst (λ z. GivesFault (Err z) f) (err_fault f g (one_verdict (Err f) (Err g) (answered f h) v)) (gives_same f)
  ]
    where
      memory : (f : VFault) → GivesFault (Err Memory) f
      memory f = tt

  pub answered_found : (r : Result Design VFault) → AnswersBytes bytes r → IfOk r (λ design. Spells bytes design)
  answered_found r a = found_by r (is_told r a)

  pub answered_only : (r : Result Design VFault) → AnswersBytes bytes r → (design : Design) → Spells bytes design → GivesDesign r design
  answered_only r a = only_by r (is_told r a)

  pub answered_sound : (r : Result Design VFault) → AnswersBytes bytes r → IfOk r IsSoundDesign
  answered_sound (Ok design) a = spelled_sound bytes design (answered_found (Ok design) a)
  answered_sound (Err f) a = tt

  pub answered_fault : (r : Result Design VFault) → AnswersBytes bytes r → (f : VFault) → r ≡ Err f → (f ≡ Memory) ⊎ IsFault bytes f
  answered_fault r a = fault_by r (is_told r a)

  pub answered_refused : (r : Result Design VFault) → AnswersBytes bytes r → (f : VFault) → IsFault bytes f → GivesFault r f
  answered_refused r a = refused_by r (is_told r a)

-- ---- laws

-- each text spells a design or has a first fault
pub either : (bytes : List ℕ) → ((design : Design) × Spells bytes design) ⊎ ((f : VFault) × IsFault bytes f)
either bytes = elim (said_or_faulty bytes) [
  | inl s ↦ go s.0 s.1 s.2 (checked_at bytes s.0 s.1) refl
  | inr h ↦ inr (fault_for h.0, of_text bytes h.0 h.1)
]
  where
    go : (x : Text) (line : ℕ) → Says bytes x line → (r : Checked) → checked_at bytes x line ≡ r → ((design : Design) × Spells bytes design) ⊎ ((f : VFault) × IsFault bytes f)
    go x line s (Ok read) e = inl (designed bytes read.1 (flat_text read.0), found bytes read.0 read.1 (flat_text read.0) (said_verdict bytes x line (Ok read) s e) refl)
    go x line s (Err f) e = inr (f, said_err bytes f (said_verdict bytes x line (Err f) s e))

pub not_both : (bytes : List ℕ) (design : Design) (f : VFault) → Spells bytes design → IsFault bytes f → ⊥
not_both bytes design f s h = refused_ok bytes (s.said, design.listing) f (given bytes design s) h

pub one_design : (bytes : List ℕ) (some other : Design) → Spells bytes some → Spells bytes other → some ≡ other
one_design bytes some other s t = only_ok bytes s.said some.listing some.«module» other (given bytes some s) s.is_flat t
