-- The values that the lines of a listing give ports, and the stream that carries them.
use Rattle.std.proofs.Common.{◌≡◌, ℕ, suc, ◌+◌, ◌<◌, ◌≤◌, Bool, true, false, ◌&&◌, List, [], ◌∷◌, length, get_or, map, Option, Some, None, slice_get, option_map, refl, sym, ap, ◌∙◌, subst, arith, inl, inr, true≢false}
use Rattle.std.specs.Prelude.{◌⊎◌, if◌then◌else◌, nat_eq, bytes_eq, All, AllPairs, Contains, IfNone}
use Rattle.std.proofs.lemmas.Slice.Eq.{bytes_eq-Decides}
use Rattle.std.proofs.Math.Nat.{one-le-pow}
use Rattle.std.proofs.lemmas.Bool.{cases_lt, eqb-true, eq-eqb}
use Rattle.std.proofs.lemmas.Option.{slice_get-get_or, slice_get-map, slice_get_within, get_or_from_slice_get}
use Rattle.std.proofs.lemmas.List.Elements.{All-nil, All-cons, All-head, All-tail}
use Rattle.av_base.specs.Words.{IsWord}
use Rattle.av_net.specs.declared.netlist.Port.{Port}
use Rattle.av_net.specs.declared.netlist.Module.{Module}
use Rattle.av_net.specs.declared.design.Entry.{Entry}
use Rattle.av_net.specs.declared.design.Design.{Design}
use Rattle.av_net.specs.Names.{names_of}
use Rattle.av_net.specs.Clocked.{Stream}
use Rattle.av_net.specs.Presented.{AreApart, HasFittingWord, HaveFittingWords}
use Rattle.av_net.specs.Meaning.{Words}
use Rattle.av_net.specs.Shown.{Values, HasListed, Presents, Shows}
use Rattle.av_data.specs.declared.stimulus.Given.{Given}
use Rattle.av_data.specs.declared.stimulus.Stimulus.{Stimulus}
use Rattle.av_data.specs.Stimuli.{IsBefore, IsSame}
use Rattle.av_data.specs.Kept.{is_given, placed}
use Rattle.av_data.proofs.Sorting.{contains_here, contains_later, contains_cases, none_given, all_of, sorts_more, placed_has, placed_keeps, placed_only}
use Rattle.av_wave.specs.Simulated.{given_word, IsStimulated}
use Rattle.av_wave.specs.Clocking.{AreLeft}
use Rattle.av_wave.specs.Recorded.{IsForPort, IsFor}
use Rattle.av_wave.proofs.Walking.{values_left}
use Rattle.av_commands.specs.Shown.{IsIdle, IsFed, word_on, AreShown}
use Rattle.av_commands.specs.inner.Feeding.{IsOfLine, IsOfOne, AreOfLines}
use Rattle.av_base.proofs.Lists.{all_at}
use Rattle.av_data.proofs.Lined.{one_some}

-- ---- lists

-- the port of a name
abbrev name_in : Port → List ℕ
name_in port = port.name

pub port_of : (ports : List Port) (k : ℕ) (name : List ℕ) → slice_get (names_of ports) k ≡ Some name → (port : Port) × (slice_get ports k ≡ Some port) × (port.name ≡ name)
port_of ports k name e = by (slice_get ports k) refl (sym (slice_get-map name_in ports k) ∙ e)
  where
    flag : Option (List ℕ) → Bool
    flag None = false
    flag (Some n) = true

    by : (o : Option Port) → slice_get ports k ≡ o → option_map name_in o ≡ Some name → (port : Port) × (slice_get ports k ≡ Some port) × (port.name ≡ name)
    by None f h = absurd (true≢false (sym (ap flag h)))
    by (Some port) f h = (port, f, one_some h)

pub at_index : {X : Type 0} (xs : List X) (k : ℕ) (x : X) → k < length xs → x ≡ get_or xs k x → slice_get xs k ≡ Some x
at_index xs k x lt is = slice_get-get_or xs k x lt ∙ ap Some (sym is)

-- ---- one value more

-- a value whose port has none in its cycle is new
pub new_given : (values : List Given) (g : Given) → AllPairs IsBefore values → ((h : Given) → Contains values h → IsSame g h → ⊥) → is_given values g ≡ false
new_given values g ascending none = none_given values values g (record { ascending = ascending; same = λ h. (λ c. c, λ c. c) }) (all_of (λ h. IsSame g h → ⊥) values none)

pub placed_ascending : (values : List Given) (g : Given) → AllPairs IsBefore values → is_given values g ≡ false → AllPairs IsBefore (placed g values)
placed_ascending values g ascending new = (sorts_more values values g (record { ascending = ascending; same = λ h. (λ c. c, λ c. c) }) new).ascending

-- ---- one line more

-- two lines in one cycle at one port are one
line_apart : (lines : List Entry) (i j : ℕ) (a b : Entry) → AreApart lines → i < j → slice_get lines i ≡ Some a → slice_get lines j ≡ Some b → a.wire ≡ b.wire → a.cycle ≡ b.cycle → ⊥
line_apart lines i j a b apart lt ea eb wire cycle =
    let here = apart i j a lt (slice_get_within lines j b eb) in
    let fa = get_or_from_slice_get lines i a a ea in
    let fb = get_or_from_slice_get lines j b a eb in
    here (ap (λ (l : Entry). l.wire) fa ∙ wire ∙ sym (ap (λ (l : Entry). l.wire) fb)) (ap (λ (l : Entry). l.cycle) fa ∙ cycle ∙ sym (ap (λ (l : Entry). l.cycle) fb))

module _ (d : Design) (x : Values) (n : ℕ) (values : List Given) (line : Entry) (g : Given) (so : AreOfLines d x n values) (is : IsOfLine d x line g) (there : slice_get d.listing.ins n ≡ Some line) (apart : AreApart d.listing.ins) where
  -- no earlier line gives this port a value in this cycle
  none_same : (h : Given) → Contains values h → IsSame g h → ⊥
  none_same h c same =
      let one = so.each h c in
      let wire : one.line.wire ≡ line.wire = one_some (sym one.is.port ∙ ap (slice_get (names_of d.module.inputs)) (sym same.1) ∙ is.port) in
      let cycle : one.line.cycle ≡ line.cycle = sym one.is.cycle ∙ sym same.0 ∙ is.cycle in
      line_apart d.listing.ins one.number n one.line line apart one.within one.is_line there wire cycle

  pub is_new : is_given values g ≡ false
  is_new = new_given values g so.ascending none_same

  later : (h : Given) → IsOfOne d x n h → IsOfOne d x (n + 1) h
  later h one = record { number = one.number; line = one.line; within = (let w = one.within in omega (arith, w)); is_line = one.is_line; is = one.is }

  more : AreOfLines d x (n + 1) (placed g values)
  more = record {
    ascending = placed_ascending values g so.ascending is_new;
    each = λ h c. by_each h (placed_only g values h c);
    all = λ k l lt e. by_all k l e (cases_lt k n) lt;
  }
    where
      by_each : (h : Given) → (g ≡ h) ⊎ Contains values h → IsOfOne d x (n + 1) h
      by_each h (inl e) = subst (IsOfOne d x (n + 1)) e (record { number = n; line = line; within = omega arith; is_line = there; is = is })
      by_each h (inr c) = later h (so.each h c)

      by_all : (k : ℕ) (l : Entry) → slice_get d.listing.ins k ≡ Some l → (k < n) ⊎ (n ≤ k) → k < n + 1 → (h : Given) × Contains (placed g values) h × IsOfLine d x l h
      by_all k l e (inl before) lt = let (h, c, of) = so.all k l before e in (h, placed_keeps g values h c, of)
      by_all k l e (inr now) lt =
          let same : n ≡ k = omega (arith, now, lt) in
          let one : line ≡ l = one_some (sym there ∙ ap (slice_get d.listing.ins) same ∙ e) in
          (g, placed_has g values, subst (λ (m : Entry). IsOfLine d x m g) one is)

  pub given_more : (values' : List Given) → values' ≡ (if is_given values g then values else placed g values) → AreOfLines d x (n + 1) values'
  given_more values' e = subst (AreOfLines d x (n + 1)) (sym (e ∙ ap (λ (t : Bool). if t then values else placed g values) is_new)) more

pub none_yet : (d : Design) (x : Values) → AreOfLines d x 0 []
none_yet d x = record {
  ascending = λ i j e lt within. absurd (omega arith);
  each = λ g c. absurd (let w = c.1 in omega (arith, w));
  all = λ k line lt e. absurd (omega (arith, lt));
}

-- ---- all lines

-- what a value of its port and cycle is
pub given_at : (values : List Given) (g : Given) → AllPairs IsBefore values → Contains values g → given_word values g.cycle g.port ≡ g.value
given_at [] g ascending c = absurd (let w = c.1 in omega (arith, w))
given_at (h ∷ values) g ascending c = by (contains_cases h values g c) (given_at values g tail)
  where
    tail : AllPairs IsBefore values
    tail = λ i j e lt within. ascending (suc i) (suc j) e (omega arith) (omega arith)

    before : Contains values g → IsBefore h g
    before (k, lt, at) = subst (IsBefore h) at (ascending 0 (suc k) g (omega arith) (omega arith))

    apart : IsBefore h g → (nat_eq h.cycle g.cycle && nat_eq h.port g.port) ≡ false
    apart b = other (nat_eq h.cycle g.cycle) (nat_eq h.port g.port) refl refl b
      where
        other : (t u : Bool) → nat_eq h.cycle g.cycle ≡ t → nat_eq h.port g.port ≡ u → IsBefore h g → (t && u) ≡ false
        other false u e f b = refl
        other true false e f b = refl
        other true true e f (inl lt) = absurd (omega (arith, lt, eqb-true h.cycle g.cycle e))
        other true true e f (inr lt) = absurd (omega (arith, lt.1, eqb-true h.port g.port f))

    by : (h ≡ g) ⊎ Contains values g → (Contains values g → given_word values g.cycle g.port ≡ g.value) → (if nat_eq h.cycle g.cycle && nat_eq h.port g.port then h.value else given_word values g.cycle g.port) ≡ g.value
    by (inl e) rest = rw (ap (λ (k : Given). k.cycle) e, ap (λ (k : Given). k.port) e, eq-eqb g.cycle g.cycle refl, eq-eqb g.port g.port refl) (ap (λ (k : Given). k.value) e)
    by (inr c) rest = rw (apart (before c)) (rest c)

pub given_none : (values : List Given) (cycle port : ℕ) → ((g : Given) → Contains values g → g.cycle ≡ cycle → g.port ≡ port → ⊥) → given_word values cycle port ≡ 0
given_none [] cycle port none = refl
given_none (h ∷ values) cycle port none = by (nat_eq h.cycle cycle) (nat_eq h.port port) refl refl (given_none values cycle port (λ g c. none g (contains_later h values g c)))
  where
    by : (t u : Bool) → nat_eq h.cycle cycle ≡ t → nat_eq h.port port ≡ u → given_word values cycle port ≡ 0 → (if t && u then h.value else given_word values cycle port) ≡ 0
    by false u e f rest = rest
    by true false e f rest = rest
    by true true e f rest = absurd (none h (contains_here h values) (eqb-true h.cycle cycle e) (eqb-true h.port port f))

-- the word that a line has for its point fits the port
pub fits_port : (d : Design) (x : Values) (k : ℕ) (line : Entry) (g : Given) → HaveFittingWords d x → slice_get d.listing.ins k ≡ Some line → slice_get (names_of d.module.inputs) g.port ≡ Some line.wire
    → x line.variable line.point ≡ Some g.value → IsForPort d.module.inputs g
fits_port d x k line g fitting there place word_is =
    let (port, at, named) = port_of d.module.inputs g.port line.wire place in
    let (word, has, fits) = all_at (HasFittingWord d.module.inputs x) d.listing.ins k line fitting there in
    let same : word ≡ g.value = one_some (sym has ∙ word_is) in
    (port, at, subst (IsWord port.width.bits) same (all_at (λ (p : Port). line.wire ≡ p.name → IsWord p.width.bits word) d.module.inputs g.port port fits at (sym named)))

-- a value that is one of the lines' fits its port
fits_line : (d : Design) (x : Values) (values : List Given) → AreOfLines d x (length d.listing.ins) values → HaveFittingWords d x → (g : Given) → Contains values g → IsForPort d.module.inputs g
fits_line d x values so fitting g c = let one = so.each g c in fits_port d x one.number one.line g fitting one.is_line one.is.port one.is.word

pub left : (d : Design) (x : Values) (values : List Given) → AreOfLines d x (length d.listing.ins) values → HaveFittingWords d x → AreLeft d.module.inputs values 0 0 values
left d x values so fitting = values_left d.module.inputs values so.ascending (all_of (IsForPort d.module.inputs) values (fits_line d x values so fitting))

-- the stimulus is one for the module's inputs
pub is_for : (d : Design) (x : Values) (s : Stimulus) → AreOfLines d x (length d.listing.ins) s.values → HaveFittingWords d x → s.cycles ≤ 4096 → IsFor d.module.inputs s
is_for d x s so fitting few = record {
  most = few;
  ascending = so.ascending;
  fit = all_of (IsForPort d.module.inputs) s.values (fits_line d x s.values so fitting);
}

-- the port of a value carries it in its cycle
pub carries : (m : Module) (s : Stimulus) (stream : Stream) (cycle : ℕ) (wire : List ℕ) (g : Given) → IsStimulated m s stream → AllPairs IsBefore s.values → Contains s.values g
    → g.cycle ≡ cycle → slice_get (names_of m.inputs) g.port ≡ Some wire → stream.in_cycle cycle wire ≡ g.value
carries m s stream cycle wire g stimulated ascending c now place =
    let (port, at, named) = port_of m.inputs g.port wire place in
    ap (stream.in_cycle cycle) (sym named) ∙ stimulated.in_cycles cycle g.port port at ∙ ap (λ n. given_word s.values n g.port) (sym now) ∙ given_at s.values g ascending c

pub fed : (d : Design) (x : Values) (s : Stimulus) (stream : Stream) → AreOfLines d x (length d.listing.ins) s.values → IsStimulated d.module s stream → IsFed d x stream
fed d x s stream so stimulated = record {
  on_reset = stimulated.on_reset;
  listed = λ k e lt.
      let line = get_or d.listing.ins k e in
      let (g, c, is) = so.all k line lt (slice_get-get_or d.listing.ins k e lt) in
      ap Some (carries d.module s stream line.cycle line.wire g stimulated so.ascending c is.cycle is.port) ∙ sym is.word;
  idle = λ c k e lt none.
      let port = get_or d.module.inputs k e in
      let at = slice_get-get_or d.module.inputs k e lt in
      stimulated.in_cycles c k port at
      ∙ given_none s.values c k (λ g h cycle place.
      let one = so.each g h in
      let (p, there, named) = port_of d.module.inputs g.port one.line.wire one.is.port in
      let same : p ≡ port = one_some (sym there ∙ ap (slice_get d.module.inputs) place ∙ at) in
      all_at (λ (l : Entry). l.cycle ≡ c → l.wire ≡ port.name → ⊥) d.listing.ins one.number one.line none one.is_line (sym one.is.cycle ∙ cycle) (sym named ∙ ap (λ (q : Port). q.name) same));
}

pub some_there : (o : Option ℕ) → (word : ℕ) × (o ≡ Some word) → IfNone o ⊥
some_there o (word, e) = subst (λ (z : Option ℕ). IfNone z ⊥) (sym e) tt

-- ---- such a stream presents the words

-- a line presents something at a port in a cycle, or none does
listed_or_idle : (lines : List Entry) (cycle : ℕ) (name : List ℕ) → ((line : Entry) × Contains lines line × (line.cycle ≡ cycle) × (line.wire ≡ name)) ⊎ IsIdle lines cycle name
listed_or_idle [] cycle name = inr (All-nil (λ (l : Entry). l.cycle ≡ cycle → l.wire ≡ name → ⊥))
listed_or_idle (line ∷ lines) cycle name = by (nat_eq line.cycle cycle) (bytes_eq line.wire name) refl refl (listed_or_idle lines cycle name)
  where
    rest : (line.cycle ≡ cycle → line.wire ≡ name → ⊥) → ((l : Entry) × Contains lines l × (l.cycle ≡ cycle) × (l.wire ≡ name)) ⊎ IsIdle lines cycle name → ((l : Entry) × Contains (line ∷ lines) l × (l.cycle ≡ cycle) × (l.wire ≡ name)) ⊎ IsIdle (line ∷ lines) cycle name
    rest not (inl (l, (k, lt, at), e, f)) = inl (l, (suc k, omega arith, at), e, f)
    rest not (inr idle) = inr (All-cons (λ (l : Entry). l.cycle ≡ cycle → l.wire ≡ name → ⊥) line lines not idle)

    by : (t u : Bool) → nat_eq line.cycle cycle ≡ t → bytes_eq line.wire name ≡ u → ((l : Entry) × Contains lines l × (l.cycle ≡ cycle) × (l.wire ≡ name)) ⊎ IsIdle lines cycle name
        → ((l : Entry) × Contains (line ∷ lines) l × (l.cycle ≡ cycle) × (l.wire ≡ name)) ⊎ IsIdle (line ∷ lines) cycle name
    by true true e f more = inl (line, (0, omega arith, refl), eqb-true line.cycle cycle e, (bytes_eq-Decides line.wire name).0 f)
    by true false e f more = rest (λ a b. true≢false (sym ((bytes_eq-Decides line.wire name).1 b) ∙ f)) more
    by false u e f more = rest (λ a b. true≢false (sym (eq-eqb line.cycle cycle a) ∙ e)) more

pub fed_presents : (d : Design) (x : Values) (n : ℕ) (stream : Stream) → HaveFittingWords d x → IsFed d x stream → Presents d n stream x
fed_presents d x n stream fitting feeds = record {
  fits_on_reset = λ k e lt. let port = get_or d.module.inputs k e in subst (IsWord port.width.bits) (sym (feeds.on_reset k e lt)) (one-le-pow port.width.bits 2 (omega arith));
  fits = λ c within k e lt. fits c (get_or d.module.inputs k e) k (slice_get-get_or d.module.inputs k e lt) (feeds.idle c k e lt) (listed_or_idle d.listing.ins c (get_or d.module.inputs k e).name);
  points = λ k e lt within. feeds.listed k e lt;
}
  where
    fits : (c : ℕ) (port : Port) (k : ℕ) → slice_get d.module.inputs k ≡ Some port → (IsIdle d.listing.ins c port.name → stream.in_cycle c port.name ≡ 0)
        → ((line : Entry) × Contains d.listing.ins line × (line.cycle ≡ c) × (line.wire ≡ port.name)) ⊎ IsIdle d.listing.ins c port.name → IsWord port.width.bits (stream.in_cycle c port.name)
    fits c port k there idle_is (inl (line, (j, lt, at), cycle, wire)) =
        let is_line : slice_get d.listing.ins j ≡ Some line = at_index d.listing.ins j line lt (sym at) in
        let (word, has, each) = all_at (HasFittingWord d.module.inputs x) d.listing.ins j line fitting is_line in
        let listed = all_at (λ (l : Entry). Some (stream.in_cycle l.cycle l.wire) ≡ x l.variable l.point) d.listing.ins j line feeds.listed is_line in
        let same : stream.in_cycle c port.name ≡ word = ap (λ m. stream.in_cycle m port.name) (sym cycle) ∙ ap (stream.in_cycle line.cycle) (sym wire) ∙ one_some (listed ∙ has) in
        subst (IsWord port.width.bits) (sym same) (all_at (λ (p : Port). line.wire ≡ p.name → IsWord p.width.bits word) d.module.inputs k port each there wire)
    fits c port k there idle_is (inr idle) = subst (IsWord port.width.bits) (sym (idle_is idle)) (one-le-pow port.width.bits 2 (omega arith))

-- where the design shows words, the words that are shown are these
pub shows_words : (d : Design) (x u : Values) (words : List ℕ) → HaveFittingWords d x → Shows d x u → AreShown d x words → map (λ line. u line.variable line.point) d.listing.ats ≡ map Some words
shows_words d x u words fitting shows shown =
    let fed_run = shown.clocked in
    let all = shows shown.cycles fed_run.stream shown.run fed_run.clocked (fed_presents d x shown.cycles fed_run.stream fitting fed_run.fed) in
    each shown.cycles shown.run.in_cycle d.listing.ats all shown.reached ∙ ap (map Some) (sym shown.words_are)
  where
    each : (n : ℕ) (in_cycle : ℕ → Words) (lines : List Entry) → All (HasListed n in_cycle u) lines → All (λ line. line.cycle < n) lines → map (λ line. u line.variable line.point) lines ≡ map Some (map (word_on in_cycle) lines)
    each n in_cycle [] has reached = refl
    each n in_cycle (line ∷ lines) has reached =
        ap (λ o. o ∷ map (λ (l : Entry). u l.variable l.point) lines) (sym (All-head (HasListed n in_cycle u) line lines has (All-head (λ (l : Entry). l.cycle < n) line lines reached)))
        ∙ ap (λ (z : List (Option ℕ)). Some (in_cycle line.cycle line.wire) ∷ z) (each n in_cycle lines (All-tail (HasListed n in_cycle u) line lines has) (All-tail (λ (l : Entry). l.cycle < n) line lines reached))
