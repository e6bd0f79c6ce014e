-- A text has one first fault, and none where its equations are proper.
use Rattle.std.proofs.Common.{◌≡◌, ◌≢◌, ◌⊎◌, inl, inr, ℕ, zero, suc, ℤ, pos, ◌<◌, ◌≤◌, List, [], ◌∷◌, ◌++◌, length, Some, refl, sym, ap, ap₂, subst, ◌∙◌, arith}
use Rattle.std.proofs.lemmas.Int.{ints}
use Rattle.std.specs.Prelude.{Result, Ok, Err, IfOk, min, ◌^◌, ◌-◌}
use Rattle.av_base.specs.Tokens.{Token, IsText, start}
use Rattle.av_affine.specs.declared.form.Form.{Form}
use Rattle.av_affine.specs.Numbers.{greatest}
use Rattle.av_poly.specs.Points.{Set}
use Rattle.av_poly.specs.Rational.{homogeneous, entry_of, Spans}
use Rattle.av_poly.proofs.Uniqueness.{normalised_once}
use Rattle.av_tree.specs.Trees.{Text, System}
use Rattle.av_tree.specs.Grammar.{IsProgram, IsProgramText, levels}
use Rattle.av_flat.specs.declared.flat.Flat.{Flat}
use Rattle.av_flat.specs.declared.quantity.Quantity.{Quantity}
use Rattle.av_flat.specs.declared.quantity.Quantity.TheVariants as quantity
use Rattle.av_flat.specs.Trees.{Variable, FlatSystem, right_side, view_system}
use Rattle.av_flat.specs.Sets.{IsBox, box_size}
use Rattle.av_flat.specs.Proper.{IsProper}
use Rattle.av_flat.specs.Quantities.{piece_count, Measured, of_set, of_map, IsOverNumbers, IsOverRows, IsOver, HasWideSets, IsOverBox, HasLargeBox}
use Rattle.av_lex.specs.declared.fault.LexFault.{LexFault}
use Rattle.av_lex.specs.Faults as lexed
use Rattle.av_lex.proofs.Readings as lexing
use Rattle.av_parse.specs.declared.fault.ParseFault.{ParseFault}
use Rattle.av_parse.specs.Parsing as parsed
use Rattle.av_parse.proofs.CompleteProgram.{program_complete}
use Rattle.av_parse.proofs.FaultPlaces as parsing
use Rattle.av_parse.proofs.Parsed.{one_text}
use Rattle.av_names.specs.declared.fault.NameFault.{NameFault}
use Rattle.av_names.specs.declared.size.Size.{Size}
use Rattle.av_names.specs.Refusals.{IsRefusal}
use Rattle.av_normal.specs.declared.fault.NormalFault.{NormalFault}
use Rattle.av_normal.specs.declared.fault.NormalFault.TheVariants as normal
use Rattle.av_normal.specs.NormalFaults as normalised
use Rattle.av_check.specs.CheckFaults as checked
use Rattle.av_check.proofs.Settled as settled
use Rattle.av_compile.specs.declared.refusal.Refusal.{Refusal}
use Rattle.av_compile.specs.declared.refusal.Refusal.TheVariants as refusal
use Rattle.av_compile.specs.Refusals.{of_lex, of_parse, of_names, of_normal, of_check}
use Rattle.av_compile.specs.Checked.{Flattens, HasNormalForm, IsChecked, IsRefused, in_bytes, in_tokens, in_names, in_pieces, in_points}
use Rattle.av_compile.proofs.OneChain.{one_flat}
use Rattle.av_sched.proofs.Faulting.{one_first}

-- ---- one quantity above its limit

one_of_numbers : (rows : List Form) (k j : Quantity) (n m : ℕ) → IsOverNumbers rows k n → IsOverNumbers rows j m → (k ≡ j) × (n ≡ m)
one_of_numbers rows k j n m (inl h) (inl i) = (h.0 ∙ sym i.0, h.1 ∙ sym i.1)
one_of_numbers rows k j n m (inr h) (inr i) = (h.0 ∙ sym i.0, h.2 ∙ sym i.2)
one_of_numbers rows k j n m (inl h) (inr i) = absurd (let e = h.1 in let more = h.2 in let few = i.1 in omega (arith, e, more, few))
one_of_numbers rows k j n m (inr h) (inl i) = absurd (let e = i.1 in let more = i.2 in let few = h.1 in omega (arith, e, more, few))

not_both : (rows : List Form) (k j : Quantity) (n m : ℕ) → IsOverNumbers rows k n → IsOverRows rows j m → ⊥
not_both rows k j n m (inl h) i = let e = h.1 in let more = h.2 in let few = i.coefficients in omega (arith, e, more, few)
not_both rows k j n m (inr h) i = let e = h.2 in let more = h.3 in let few = i.constants in omega (arith, e, more, few)

one_of_rows : (rows : List Form) (k j : Quantity) (n m : ℕ) → IsOverNumbers rows k n ⊎ IsOverRows rows k n → IsOverNumbers rows j m ⊎ IsOverRows rows j m
    → (k ≡ j) × (n ≡ m)
one_of_rows rows k j n m (inl h) (inl i) = one_of_numbers rows k j n m h i
one_of_rows rows k j n m (inr h) (inr i) = (h.kind_is ∙ sym i.kind_is, h.number ∙ sym i.number)
one_of_rows rows k j n m (inl h) (inr i) = absurd (not_both rows k j n m h i)
one_of_rows rows k j n m (inr h) (inl i) = absurd (not_both rows j k m n i h)

one_over : (o : Measured) (k j : Quantity) (n m : ℕ) → IsOver o k n → IsOver o j m → (k ≡ j) × (n ≡ m)
one_over (of_set set) k j n m h i =
    let same = normalised_once set.dim set.rows i.0 h.0 i.1 h.1 in
    one_of_rows h.0 k j n m h.2 (subst (λ (rows : List Form). IsOverNumbers rows j m ⊎ IsOverRows rows j m) same i.2)
one_over (of_map map) k j n m h i = one_of_numbers map.rows k j n m h i

one_wide : (s : FlatSystem) (k j : Quantity) (n m : ℕ) → HasWideSets s k n → HasWideSets s j m → (k ≡ j) × (n ≡ m)
one_wide s k j n m h i =
    let same = one_first _ _ h.what i.what h.first i.first in
    one_over h.what k j n m h.over (subst (λ (o : Measured). IsOver o j m) (sym same) i.over)

-- ---- one box

same_ends : (dim i : ℕ) (rows : List (List ℤ)) (l h m g : ℤ) → Spans dim rows i l h → Spans dim rows i m g → (l ≡ m) × (h ≡ g)
same_ends dim i rows l h m g s t =
    let a = s.least m t.low_within in
    let b = t.least l s.low_within in
    let c = s.greatest g t.high_within in
    let d = t.greatest h s.high_within in
    (omega (arith, ints, a, b), omega (arith, ints, c, d))

same_list : (xs ys : List ℤ) → length xs ≡ length ys → ((i : ℕ) → i < length xs → entry_of xs i ≡ entry_of ys i) → xs ≡ ys
same_list [] [] e h = refl
same_list (x ∷ xs) (y ∷ ys) e h = ap₂ (λ (z : ℤ) (zs : List ℤ). z ∷ zs) (h 0 (omega (arith))) (same_list xs ys (omega (arith, e)) (λ i l. h (suc i) (omega (arith, l))))
same_list [] (y ∷ ys) e h = absurd cc
same_list (x ∷ xs) [] e h = absurd cc

module _ (set : Set) (low high low2 high2 : List ℤ) (h : IsBox set low high) (k : IsBox set low2 high2) where
  spans : (i : ℕ) → i < set.dim → Spans set.dim (homogeneous h.rows) i (entry_of low2 i) (entry_of high2 i)
  spans i l = subst (λ (rows : List Form). Spans set.dim (homogeneous rows) i (entry_of low2 i) (entry_of high2 i))
      (normalised_once set.dim set.rows k.rows h.rows k.normalised h.normalised) (k.spans i l)

  same_low : low ≡ low2
  same_low = same_list low low2 (h.lows ∙ sym k.lows) (λ i l.
      let within = subst (λ (n : ℕ). i < n) h.lows l in
      (same_ends set.dim i (homogeneous h.rows) (entry_of low i) (entry_of high i) (entry_of low2 i) (entry_of high2 i) (h.spans i within) (spans i within)).0)

  same_high : high ≡ high2
  same_high = same_list high high2 (h.highs ∙ sym k.highs) (λ i l.
      let within = subst (λ (n : ℕ). i < n) h.highs l in
      (same_ends set.dim i (homogeneous h.rows) (entry_of low i) (entry_of high i) (entry_of low2 i) (entry_of high2 i) (h.spans i within) (spans i within)).1)

abbrev OverBox : List ℤ → List ℤ → Quantity → ℕ → Type 0
OverBox low high k n =
    ((k ≡ quantity.Coordinate) × (n ≡ greatest (low ++ high)) × (4095 < n))
    ⊎ ((k ≡ quantity.BoxSize) × (greatest (low ++ high) ≤ 4095) × (pos n ≡ box_size low high) × (65536 < n))

pub one_over_box : (set : Set) (k j : Quantity) (n m : ℕ) → IsOverBox set k n → IsOverBox set j m → (k ≡ j) × (n ≡ m)
one_over_box set k j n m h i = compare h.over i.over
  where
    low : h.low ≡ i.low
    low = same_low set h.low h.high i.low i.high h.is_box i.is_box

    high : h.high ≡ i.high
    high = same_high set h.low h.high i.low i.high h.is_box i.is_box

    numbers : greatest (h.low ++ h.high) ≡ greatest (i.low ++ i.high)
    numbers = ap₂ (λ (x y : List ℤ). greatest (x ++ y)) low high

    sizes : box_size h.low h.high ≡ box_size i.low i.high
    sizes = ap₂ (λ (x y : List ℤ). box_size x y) low high

    compare : OverBox h.low h.high k n → OverBox i.low i.high j m → (k ≡ j) × (n ≡ m)
    compare (inl a) (inl b) = (a.0 ∙ sym b.0, a.1 ∙ numbers ∙ sym b.1)
    compare (inr a) (inr b) = (a.0 ∙ sym b.0, (let e = a.2 in let f = b.2 in omega (arith, ints, e, f, sizes)))
    compare (inl a) (inr b) = absurd (let e = a.1 in let more = a.2 in let few = b.1 in omega (arith, e, more, few, numbers))
    compare (inr a) (inl b) = absurd (let e = b.1 in let more = b.2 in let few = a.1 in omega (arith, e, more, few, numbers))

one_large : (s : FlatSystem) (k j : Quantity) (n m : ℕ) → HasLargeBox s k n → HasLargeBox s j m → (k ≡ j) × (n ≡ m)
one_large s k j n m h i =
    let same = one_first _ _ h.variable i.variable h.first i.first in
    one_over_box h.variable.domain k j n m h.over (subst (λ (v : _). IsOverBox v.domain j m) (sym same) i.over)

-- ---- one cause against the normal form

abbrev Limited : FlatSystem → Quantity → ℕ → Type 0
Limited s k n = HasWideSets s k n ⊎ (normalised.HasNarrowSets s × normalised.HasEnds s × HasLargeBox s k n)

one_limit : (s : FlatSystem) (k j : Quantity) (n m : ℕ) → normalised.IsFault s (normal.Limit k n) → normalised.IsFault s (normal.Limit j m) → (k ≡ j) × (n ≡ m)
one_limit s k j n m h i = compare h.1 i.1
  where
    compare : Limited s k n → Limited s j m → (k ≡ j) × (n ≡ m)
    compare (inl a) (inl b) = one_wide s k j n m a b
    compare (inr a) (inr b) = one_large s k j n m a.2 b.2
    compare (inl a) (inr b) = absurd (b.0 k n a)
    compare (inr a) (inl b) = absurd (a.0 j m b)

bounded : (s : FlatSystem) (k : Quantity) (n : ℕ) (name : Text) → normalised.IsFault s (normal.Limit k n) → normalised.IsFault s (normal.Unbounded name) → ⊥
bounded s k n name h i = compare h.1
  where
    compare : Limited s k n → ⊥
    compare (inl a) = i.1 k n a
    compare (inr a) = a.1 name i.2

pub one_cause : (s : FlatSystem) (f g : NormalFault) → normalised.IsFault s f → normalised.IsFault s g → f ≢ normal.Memory → g ≢ normal.Memory → f ≡ g
one_cause s normal.Memory g h i nf ng = absurd (nf refl)
one_cause s (normal.Pieces n) normal.Memory h i nf ng = absurd (ng refl)
one_cause s (normal.Limit k n) normal.Memory h i nf ng = absurd (ng refl)
one_cause s (normal.Unbounded name) normal.Memory h i nf ng = absurd (ng refl)
one_cause s (normal.Pieces n) (normal.Pieces m) h i nf ng =
    let same = one_first _ _ h.variable i.variable h.first i.first in
    ap normal.Pieces (h.number ∙ ap (λ (v : Variable). min (piece_count (right_side v)) (2 ^ 128 - 1)) same ∙ sym i.number)
one_cause s (normal.Limit k n) (normal.Limit j m) h i nf ng = let same = one_limit s k j n m h i in ap₂ (λ (q : Quantity) (x : ℕ). normal.Limit q x) same.0 same.1
one_cause s (normal.Unbounded a) (normal.Unbounded b) h i nf ng =
    let same = one_first _ _ h.2.variable i.2.variable h.2.first i.2.first in
    ap normal.Unbounded (h.2.name_is ∙ ap (λ v. v.name) same ∙ sym i.2.name_is)
one_cause s (normal.Pieces n) (normal.Limit k m) h i nf ng = absurd (i.0 n h)
one_cause s (normal.Pieces n) (normal.Unbounded a) h i nf ng = absurd (i.0 n h)
one_cause s (normal.Limit k m) (normal.Pieces n) h i nf ng = absurd (h.0 n i)
one_cause s (normal.Unbounded a) (normal.Pieces n) h i nf ng = absurd (h.0 n i)
one_cause s (normal.Limit k n) (normal.Unbounded a) h i nf ng = absurd (bounded s k n a h i)
one_cause s (normal.Unbounded a) (normal.Limit k n) h i nf ng = absurd (bounded s k n a i h)

-- ---- one first fault of a text

pub memory_or_not : (f : Refusal) → (f ≡ refusal.Memory) ⊎ (f ≢ refusal.Memory)
memory_or_not refusal.Memory = inl refl
memory_or_not (refusal.BadByte p) = inr (λ e. cc)
memory_or_not (refusal.Number p) = inr (λ e. cc)
memory_or_not (refusal.Syntax p) = inr (λ e. cc)
memory_or_not (refusal.Depth p) = inr (λ e. cc)
memory_or_not (refusal.Repeated n p) = inr (λ e. cc)
memory_or_not (refusal.SizeTwice n) = inr (λ e. cc)
memory_or_not (refusal.SizeUnknown n) = inr (λ e. cc)
memory_or_not (refusal.SizeMissing n) = inr (λ e. cc)
memory_or_not (refusal.Unknown n p) = inr (λ e. cc)
memory_or_not (refusal.DefinesInput n p) = inr (λ e. cc)
memory_or_not (refusal.SecondEquation n p) = inr (λ e. cc)
memory_or_not (refusal.NoEquation n p) = inr (λ e. cc)
memory_or_not (refusal.Arity p) = inr (λ e. cc)
memory_or_not (refusal.Projection p) = inr (λ e. cc)
memory_or_not (refusal.CaseInReduce p) = inr (λ e. cc)
memory_or_not (refusal.DependOnReduce p) = inr (λ e. cc)
memory_or_not (refusal.Limit k n) = inr (λ e. cc)
memory_or_not (refusal.WidthRange n p) = inr (λ e. cc)
memory_or_not refusal.SizeOutside = inr (λ e. cc)
memory_or_not (refusal.Pieces n) = inr (λ e. cc)
memory_or_not (refusal.Unbounded n) = inr (λ e. cc)
memory_or_not (refusal.Uncovered v z o) = inr (λ e. cc)
memory_or_not (refusal.TwoBranches v z) = inr (λ e. cc)
memory_or_not (refusal.NonUnit n) = inr (λ e. cc)
memory_or_not (refusal.Candidates n) = inr (λ e. cc)
memory_or_not (refusal.NoSchedule n) = inr (λ e. cc)
memory_or_not (refusal.Cycles n) = inr (λ e. cc)
memory_or_not (refusal.Cells n) = inr (λ e. cc)
memory_or_not (refusal.Delays n) = inr (λ e. cc)
memory_or_not (refusal.Links n) = inr (λ e. cc)
memory_or_not (refusal.Operators n) = inr (λ e. cc)

module _ (bytes : List ℕ) (words : List Size) (width : ℕ) where
  -- the bytes of a program have no fault, nor have its tokens
  well_spelled : (s : System) (f : LexFault) → IsProgramText bytes s → lexed.IsFault start bytes f → ⊥
  well_spelled s f text is = lexing.not_both start bytes text.tokens f text.spelled is

  well_read : (s : System) (tokens : List Token) (f : ParseFault) → IsProgramText bytes s → IsText start bytes tokens → parsed.IsFault tokens f → ⊥
  well_read s tokens f text spelled is =
      let same = lexing.one_list start bytes text.tokens tokens text.spelled spelled in
      let program = subst (λ (ts : List Token). IsProgram levels ts s) same text.program in
      parsing.program_has_no_fault tokens s f (program_complete levels tokens s program) is

  -- the names of a system that is accepted have no fault
  well_named : (s : System) (t : FlatSystem) (f : NameFault) → IsProgramText bytes s → IsRefusal s words f → Flattens bytes words width t → ⊥
  well_named s t f text is flattens =
      let same = one_text bytes s flattens.system text flattens.text in
      let at = subst (λ (x : System). IsRefusal x words f) same is in
      let accepted = flattens.accepted in
      let k = sym at ∙ accepted in
      absurd cc

  -- a system with a normal form has no fault of its pieces
  well_formed : (s t : FlatSystem) (f : NormalFault) → Flattens bytes words width s → normalised.IsFault s f → Flattens bytes words width t → HasNormalForm t → f ≡ normal.Memory
  well_formed s t f flattens is others has_form = has_form f (subst (λ (x : FlatSystem). normalised.IsFault x f) (sym (one_flat bytes words width s t flattens others)) is)

  pub not_checked : (s : FlatSystem) (r : Refusal) → Flattens bytes words width s → HasNormalForm s → IsProper s → IsRefused bytes words width r → r ≢ refusal.Memory → ⊥
  not_checked s r flattens has_form proper (in_bytes f e is) some = well_spelled flattens.system f flattens.text is
  not_checked s r flattens has_form proper (in_tokens f e tokens text is) some = well_read flattens.system tokens f flattens.text text is
  not_checked s r flattens has_form proper (in_names f e t text is) some = well_named t s f text is flattens
  not_checked s r flattens has_form proper (in_pieces f e t other is) some = some (e ∙ ap of_normal (well_formed t s f other is flattens has_form))
  not_checked s r flattens has_form proper (in_points f e t other form is) some =
      let same = one_flat bytes words width t s other flattens in
      some (e ∙ ap of_check (settled.no_fault s f proper (subst (λ (x : FlatSystem). checked.IsFault x f) (sym same) is)))

  -- the number of the step that finds the cause
  abbrev step : (r : Refusal) → IsRefused bytes words width r → ℕ
  step r (in_bytes f e is) = 0
  step r (in_tokens f e tokens text is) = 1
  step r (in_names f e s text is) = 2
  step r (in_pieces f e s flattens is) = 3
  step r (in_points f e s flattens form is) = 4

  apart : (r q : Refusal) (h : IsRefused bytes words width r) (k : IsRefused bytes words width q) → r ≢ refusal.Memory → step r h < step q k → ⊥
  apart r q (in_bytes f e is) (in_bytes g d at) some l = omega (arith, l)
  apart r q (in_bytes f e is) (in_tokens g d tokens text at) some l = lexing.not_both start bytes tokens f text is
  apart r q (in_bytes f e is) (in_names g d s text at) some l = well_spelled s f text is
  apart r q (in_bytes f e is) (in_pieces g d s flattens at) some l = well_spelled flattens.system f flattens.text is
  apart r q (in_bytes f e is) (in_points g d s flattens form at) some l = well_spelled flattens.system f flattens.text is
  apart r q (in_tokens f e tokens spelled is) (in_bytes g d at) some l = omega (arith, l)
  apart r q (in_tokens f e tokens spelled is) (in_tokens g d others text at) some l = omega (arith, l)
  apart r q (in_tokens f e tokens spelled is) (in_names g d s text at) some l = well_read s tokens f text spelled is
  apart r q (in_tokens f e tokens spelled is) (in_pieces g d s flattens at) some l = well_read flattens.system tokens f flattens.text spelled is
  apart r q (in_tokens f e tokens spelled is) (in_points g d s flattens form at) some l = well_read flattens.system tokens f flattens.text spelled is
  apart r q (in_names f e s text is) (in_pieces g d t flattens at) some l = well_named s t f text is flattens
  apart r q (in_names f e s text is) (in_points g d t flattens form at) some l = well_named s t f text is flattens
  apart r q (in_names f e s text is) (in_bytes g d at) some l = omega (arith, l)
  apart r q (in_names f e s text is) (in_tokens g d tokens spelled at) some l = omega (arith, l)
  apart r q (in_names f e s text is) (in_names g d t other at) some l = omega (arith, l)
  apart r q (in_pieces f e s flattens is) (in_points g d t others form at) some l = some (e ∙ ap of_normal (well_formed s t f flattens is others form))
  apart r q (in_pieces f e s flattens is) (in_bytes g d at) some l = omega (arith, l)
  apart r q (in_pieces f e s flattens is) (in_tokens g d tokens spelled at) some l = omega (arith, l)
  apart r q (in_pieces f e s flattens is) (in_names g d t text at) some l = omega (arith, l)
  apart r q (in_pieces f e s flattens is) (in_pieces g d t others at) some l = omega (arith, l)
  apart r q (in_points f e s flattens form is) (in_bytes g d at) some l = omega (arith, l)
  apart r q (in_points f e s flattens form is) (in_tokens g d tokens spelled at) some l = omega (arith, l)
  apart r q (in_points f e s flattens form is) (in_names g d t text at) some l = omega (arith, l)
  apart r q (in_points f e s flattens form is) (in_pieces g d t others at) some l = omega (arith, l)
  apart r q (in_points f e s flattens form is) (in_points g d t others other at) some l = omega (arith, l)

  same_name : (f g : NameFault) → ◌≡◌ {A = _} (Some f) (Some g) → f ≡ g
  same_name f g e = cc

  alike : (r q : Refusal) (h : IsRefused bytes words width r) (k : IsRefused bytes words width q) → r ≢ refusal.Memory → q ≢ refusal.Memory → step r h ≡ step q k → r ≡ q
  alike r q (in_bytes f e is) (in_bytes g d at) nr nq l = e ∙ ap of_lex (lexing.one_fault start bytes f g is at) ∙ sym d
  alike r q (in_tokens f e tokens text is) (in_tokens g d others other at) nr nq l =
      let same = lexing.one_list start bytes others tokens other text in
      e ∙ ap of_parse (parsing.one_fault tokens f g is (subst (λ (ts : List Token). parsed.IsFault ts g) same at)) ∙ sym d
  alike r q (in_names f e s text is) (in_names g d t other at) nr nq l =
      let same = subst (λ (x : System). IsRefusal x words g) (one_text bytes t s other text) at in
      e ∙ ap of_names (same_name f g (sym is ∙ same)) ∙ sym d
  alike r q (in_pieces f e s flattens is) (in_pieces g d t others at) nr nq l =
      let same = subst (λ (x : FlatSystem). normalised.IsFault x g) (one_flat bytes words width s t flattens others) at in
      e ∙ ap of_normal (one_cause s f g is same (λ m. nr (e ∙ ap of_normal m)) (λ m. nq (d ∙ ap of_normal m))) ∙ sym d
  alike r q (in_points f e s flattens form is) (in_points g d t others other at) nr nq l =
      let same = subst (λ (x : FlatSystem). checked.IsFault x g) (one_flat bytes words width s t flattens others) at in
      elim (settled.one_fault s f g is same (λ m. nr (e ∙ ap of_check m))) [ inl p ↦ e ∙ ap of_check p ∙ sym d | inr m ↦ absurd (nq (d ∙ ap of_check m)) ]
  alike r q (in_bytes f e is) (in_tokens g d tokens text at) nr nq l = absurd (omega (arith, l))
  alike r q (in_bytes f e is) (in_names g d s text at) nr nq l = absurd (omega (arith, l))
  alike r q (in_bytes f e is) (in_pieces g d s flattens at) nr nq l = absurd (omega (arith, l))
  alike r q (in_bytes f e is) (in_points g d s flattens form at) nr nq l = absurd (omega (arith, l))
  alike r q (in_tokens f e tokens spelled is) (in_bytes g d at) nr nq l = absurd (omega (arith, l))
  alike r q (in_tokens f e tokens spelled is) (in_names g d s text at) nr nq l = absurd (omega (arith, l))
  alike r q (in_tokens f e tokens spelled is) (in_pieces g d s flattens at) nr nq l = absurd (omega (arith, l))
  alike r q (in_tokens f e tokens spelled is) (in_points g d s flattens form at) nr nq l = absurd (omega (arith, l))
  alike r q (in_names f e s text is) (in_bytes g d at) nr nq l = absurd (omega (arith, l))
  alike r q (in_names f e s text is) (in_tokens g d tokens spelled at) nr nq l = absurd (omega (arith, l))
  alike r q (in_names f e s text is) (in_pieces g d t flattens at) nr nq l = absurd (omega (arith, l))
  alike r q (in_names f e s text is) (in_points g d t flattens form at) nr nq l = absurd (omega (arith, l))
  alike r q (in_pieces f e s flattens is) (in_bytes g d at) nr nq l = absurd (omega (arith, l))
  alike r q (in_pieces f e s flattens is) (in_tokens g d tokens spelled at) nr nq l = absurd (omega (arith, l))
  alike r q (in_pieces f e s flattens is) (in_names g d t text at) nr nq l = absurd (omega (arith, l))
  alike r q (in_pieces f e s flattens is) (in_points g d t others form at) nr nq l = absurd (omega (arith, l))
  alike r q (in_points f e s flattens form is) (in_bytes g d at) nr nq l = absurd (omega (arith, l))
  alike r q (in_points f e s flattens form is) (in_tokens g d tokens spelled at) nr nq l = absurd (omega (arith, l))
  alike r q (in_points f e s flattens form is) (in_names g d t text at) nr nq l = absurd (omega (arith, l))
  alike r q (in_points f e s flattens form is) (in_pieces g d t others at) nr nq l = absurd (omega (arith, l))

  order : (a b : ℕ) → (a < b) ⊎ ((b < a) ⊎ (a ≡ b))
  order zero zero = inr (inr refl)
  order zero (suc b) = inl (omega (arith))
  order (suc a) zero = inr (inl (omega (arith)))
  order (suc a) (suc b) = elim (order a b) [ inl l ↦ inl (omega (arith, l)) | inr m ↦ elim m [ inl l ↦ inr (inl (omega (arith, l))) | inr e ↦ inr (inr (ap suc e)) ] ]

  pub one_refusal : (r q : Refusal) → IsRefused bytes words width r → IsRefused bytes words width q → r ≢ refusal.Memory → q ≢ refusal.Memory → r ≡ q
  one_refusal r q h k nr nq = elim (order (step r h) (step q k)) [
    | inl l ↦ absurd (apart r q h k nr l)
    | inr m ↦ elim m [ inl l ↦ absurd (apart q r k h nq l) | inr e ↦ alike r q h k nr nq e ]
  ]

  -- what is answered where a cause holds
  pub caused : (r : Result Flat Refusal) → IfOk r (λ to. IsChecked bytes words width (view_system to)) → ((f : Refusal) → r ≡ Err f → f ≢ refusal.Memory → IsRefused bytes words width f)
      → (f : Refusal) → IsRefused bytes words width f → f ≢ refusal.Memory → (r ≡ Err f) ⊎ (r ≡ Err refusal.Memory)
  caused (Ok to) found refused f is some = absurd (not_checked found.flat f found.flattens found.given.no_cause found.proper is some)
  caused (Err g) found refused f is some = compare g (λ n. one_refusal g f (refused g refl n) is n some) (memory_or_not g)
    where
      compare : (g : Refusal) → (g ≢ refusal.Memory → g ≡ f) → (g ≡ refusal.Memory) ⊎ (g ≢ refusal.Memory) → (◌≡◌ {A = Result Flat Refusal} (Err g) (Err f)) ⊎ (◌≡◌ {A = Result Flat Refusal} (Err g) (Err refusal.Memory))
      compare g same (inl m) = inr (ap Err m)
      compare g same (inr n) = inl (ap Err (same n))
