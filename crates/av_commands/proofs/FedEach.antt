-- The values that the lines of a listing give ports for problem after problem, and the stream that carries them.
use Rattle.std.proofs.Common.{◌≡◌, ℕ, zero, suc, ◌+◌, ◌-◌, ◌*◌, ◌<◌, ◌≤◌, false, List, [], length, get_or, Some, slice_get, refl, sym, ap, ◌∙◌, subst, arith, inl, inr}
use Rattle.std.specs.Prelude.{◌⊎◌, if◌then◌else◌, Bool, All, AllPairs, Contains}
use Rattle.std.proofs.Math.Nat.{mul-le-mul_right}
use Rattle.std.proofs.lemmas.Bool.{cases_lt}
use Rattle.std.proofs.lemmas.Option.{slice_get-get_or, slice_get_within}
use Rattle.std.proofs.lemmas.List.Elements.{All-map}
use Rattle.av_base.proofs.Lists.{all_at, get_mapped}
use Rattle.av_net.specs.declared.netlist.Port.{Port}
use Rattle.av_net.specs.declared.design.Entry.{Entry}
use Rattle.av_net.specs.declared.design.Design.{Design}
use Rattle.av_net.specs.Names.{names_of}
use Rattle.av_net.specs.Clocked.{Stream}
use Rattle.av_net.specs.Presented.{HaveFittingWords}
use Rattle.av_net.specs.Shown.{Values}
use Rattle.av_build.specs.Later.{later_line, later_lines}
use Rattle.av_stream.specs.Streams.{AreApartEach}
use Rattle.av_data.specs.declared.stimulus.Given.{Given}
use Rattle.av_data.specs.declared.stimulus.Stimulus.{Stimulus}
use Rattle.av_data.specs.Stimuli.{IsBefore, IsSame}
use Rattle.av_data.specs.Kept.{is_given, placed}
use Rattle.av_data.proofs.Lined.{one_some}
use Rattle.av_data.proofs.Sorting.{all_of, placed_has, placed_keeps, placed_only}
use Rattle.av_wave.specs.Simulated.{IsStimulated}
use Rattle.av_wave.specs.Clocking.{AreLeft}
use Rattle.av_wave.specs.Recorded.{IsForPort}
use Rattle.av_wave.proofs.Walking.{values_left}
use Rattle.av_commands.specs.Streams.{stream_cycles, IsFedEach}
use Rattle.av_commands.specs.inner.Streaming.{IsOfLater, IsOfProblem, AreOfProblems}
use Rattle.av_commands.proofs.Fed.{port_of, new_given, placed_ascending, given_none, fits_port, carries}

-- ---- how late a problem begins

pub starts_within : (b m period most : ℕ) → b ≤ m → m * period ≤ most → b * period ≤ most
starts_within b m period most le few = let more : b * period ≤ m * period = mul-le-mul_right period le in omega (arith, more, few)

-- so many cycles give each problem its start
pub few_starts : (whole cycles period count : ℕ) → 0 < count → whole ≡ stream_cycles cycles period count → whole ≤ 4096 → period ≤ 4096 → count * period ≤ 8192
few_starts whole cycles period zero some is few near = absurd (omega (arith, some))
few_starts whole cycles period (suc n) some is few near =
    let less : suc n - 1 ≡ n = omega arith in
    let told : whole ≡ cycles + period * n = is ∙ ap (λ (k : ℕ). cycles + period * k) less in
    omega (arith, told, few, near)

-- ---- lines of problems, one after another

-- of b problems, or of the next one and among its first n lines
abbrev IsEarlier : ℕ → ℕ → ℕ → ℕ → Type 0
IsEarlier b n j k = (j < b) ⊎ ((j ≡ b) × (k < n))

not_itself : (b n j k : ℕ) → j ≡ b → k ≡ n → IsEarlier b n j k → ⊥
not_itself b n j k problem line (inl lt) = omega (arith, problem, lt)
not_itself b n j k problem line (inr within) = omega (arith, line, within.1)

line_more : (b n j k : ℕ) → IsEarlier b n j k → IsEarlier b (n + 1) j k
line_more b n j k (inl lt) = inl lt
line_more b n j k (inr within) = inr (within.0, omega (arith, within.1))

problem_more : (b n j k : ℕ) → IsEarlier b n j k → IsEarlier (b + 1) 0 j k
problem_more b n j k (inl lt) = inl (omega (arith, lt))
problem_more b n j k (inr within) = inl (omega (arith, within.0))

problem_less : (b n j k : ℕ) → k < n → IsEarlier (b + 1) 0 j k → IsEarlier b n j k
problem_less b n j k line (inl lt) = elim (cases_lt j b) [
  | inl before ↦ inl before
  | inr now ↦ inr (omega (arith, now, lt), line)
]
problem_less b n j k line (inr within) = absurd (omega (arith, within.1))

none_earlier : (j k : ℕ) → IsEarlier 0 0 j k → ⊥
none_earlier j k (inl lt) = omega (arith, lt)
none_earlier j k (inr within) = omega (arith, within.1)

-- ---- values so far

-- the value is that of a line for one of the first b problems, or of one of the first n lines for the next one
pub record IsOfEarlier (d : Design) (period : ℕ) (xs : List Values) (b n : ℕ) (g : Given) : Type 0 where
  pub of : IsOfProblem d period xs g
  pub earlier : IsEarlier b n of.problem of.number

-- the values of all lines for the first b problems, and of the first n lines for the next one
pub record AreOfEarlier (d : Design) (period : ℕ) (xs : List Values) (b n : ℕ) (values : List Given) : Type 0 where
  pub ascending : AllPairs IsBefore values
  pub each : (g : Given) → Contains values g → IsOfEarlier d period xs b n g
  pub all : (j k : ℕ) (x : Values) (line : Entry) → IsEarlier b n j k → slice_get xs j ≡ Some x → slice_get d.listing.ins k ≡ Some line → (g : Given) × Contains values g × IsOfLater d x (j * period) line g

pub none_given_yet : (d : Design) (period : ℕ) (xs : List Values) → AreOfEarlier d period xs 0 0 []
none_given_yet d period xs = record {
  ascending = λ i j e lt within. absurd (omega arith);
  each = λ g c. absurd (let w = c.1 in omega (arith, w));
  all = λ j k x line earlier at e. absurd (none_earlier j k earlier);
}

module _ (d : Design) (period : ℕ) (xs : List Values) (b n : ℕ) (values : List Given) (x : Values) (line : Entry) (g : Given) (so : AreOfEarlier d period xs b n values)
    (is : IsOfLater d x (b * period) line g) (problem : slice_get xs b ≡ Some x) (there : slice_get d.listing.ins n ≡ Some line) (apart : AreApartEach d.listing.ins period) where
  -- no earlier line of any problem gives this port a value in this cycle
  none_same : (h : Given) → Contains values h → IsSame g h → ⊥
  none_same h c same =
      let one = so.each h c in
      let other = one.of in
      let wire : other.line.wire ≡ line.wire = one_some (sym other.is.port ∙ ap (slice_get (names_of d.module.inputs)) (sym same.1) ∙ is.port) in
      let cycle : other.line.cycle + other.problem * period ≡ line.cycle + b * period = sym other.is.cycle ∙ sym same.0 ∙ is.cycle in
      let both = apart other.problem b other.number n other.line line other.is_line there wire cycle in
      not_itself b n other.problem other.number both.0 both.1 one.earlier

  is_new : is_given values g ≡ false
  is_new = new_given values g so.ascending none_same

  own : IsOfEarlier d period xs b (n + 1) g
  own = record { of = record { problem = b; x = x; is_problem = problem; number = n; line = line; is_line = there; is = is }; earlier = inr (refl, omega arith) }

  by_each : (h : Given) → (g ≡ h) ⊎ Contains values h → IsOfEarlier d period xs b (n + 1) h
  by_each h (inl e) = subst (IsOfEarlier d period xs b (n + 1)) e own
  by_each h (inr c) = let one = so.each h c in record { of = one.of; earlier = line_more b n one.of.problem one.of.number one.earlier }

  abbrev IsAmong : ℕ → Values → Entry → Type 0
  IsAmong j y l = (h : Given) × Contains (placed g values) h × IsOfLater d y (j * period) l h

  among_earlier : (j k : ℕ) (y : Values) (l : Entry) → slice_get xs j ≡ Some y → slice_get d.listing.ins k ≡ Some l → IsEarlier b n j k → IsAmong j y l
  among_earlier j k y l at e earlier = let (h, c, of) = so.all j k y l earlier at e in (h, placed_keeps g values h c, of)

  -- the value is that of its own line
  among_own : (j k : ℕ) (y : Values) (l : Entry) → slice_get xs j ≡ Some y → slice_get d.listing.ins k ≡ Some l → b ≡ j → n ≡ k → IsAmong j y l
  among_own j k y l at e here now =
      let one : line ≡ l = one_some (sym there ∙ ap (slice_get d.listing.ins) now ∙ e) in
      let words : x ≡ y = one_some (sym problem ∙ ap (slice_get xs) here ∙ at) in
      let later : IsOfLater d x (j * period) line g = subst (λ (i : ℕ). IsOfLater d x (i * period) line g) here is in
      (g, placed_has g values, subst (λ (m : Entry). IsOfLater d y (j * period) m g) one (subst (λ (z : Values). IsOfLater d z (j * period) line g) words later))

  by_all : (j k : ℕ) (y : Values) (l : Entry) → slice_get xs j ≡ Some y → slice_get d.listing.ins k ≡ Some l → IsEarlier b (n + 1) j k → IsAmong j y l
  by_all j k y l at e (inl lt) = among_earlier j k y l at e (inl lt)
  by_all j k y l at e (inr within) = elim (cases_lt k n) [
    | inl before ↦ among_earlier j k y l at e (inr (within.0, before))
    | inr now ↦ among_own j k y l at e (sym within.0) (let lt = within.1 in omega (arith, now, lt))
  ]

  more : AreOfEarlier d period xs b (n + 1) (placed g values)
  more = record {
    ascending = placed_ascending values g so.ascending is_new;
    each = λ h c. by_each h (placed_only g values h c);
    all = λ j k y l earlier at e. by_all j k y l at e earlier;
  }

  pub later_given_more : (values' : List Given) → values' ≡ (if is_given values g then values else placed g values) → AreOfEarlier d period xs b (n + 1) values'
  later_given_more values' e = subst (AreOfEarlier d period xs b (n + 1)) (sym (e ∙ ap (λ (t : Bool). if t then values else placed g values) is_new)) more

-- all lines of the problem were gone through
pub next_problem : (d : Design) (period : ℕ) (xs : List Values) (b n : ℕ) (values : List Given) → length d.listing.ins ≤ n → AreOfEarlier d period xs b n values → AreOfEarlier d period xs (b + 1) 0 values
next_problem d period xs b n values whole so = record {
  ascending = so.ascending;
  each = λ g c. let one = so.each g c in record { of = one.of; earlier = problem_more b n one.of.problem one.of.number one.earlier };
  all = λ j k x line earlier at e. so.all j k x line (problem_less b n j k (let w = slice_get_within d.listing.ins k line e in omega (arith, w, whole)) earlier) at e;
}

-- all problems were gone through
pub all_problems : (d : Design) (period : ℕ) (xs : List Values) (b : ℕ) (values : List Given) → length xs ≤ b → AreOfEarlier d period xs b 0 values → AreOfProblems d period xs values
all_problems d period xs b values whole so = record {
  ascending = so.ascending;
  each = λ g c. (so.each g c).of;
  all = λ j k x line at e. so.all j k x line (inl (let w = slice_get_within xs j x at in omega (arith, w, whole))) at e;
}

-- ---- the values of all problems

pub left_each : (d : Design) (period : ℕ) (xs : List Values) (values : List Given) → AreOfProblems d period xs values → All (HaveFittingWords d) xs → AreLeft d.module.inputs values 0 0 values
left_each d period xs values so fitting =
    values_left d.module.inputs values so.ascending
    (all_of (IsForPort d.module.inputs) values
    (λ g c.
    let one = so.each g c in
    fits_port d one.x one.number one.line g (all_at (HaveFittingWords d) xs one.problem one.x fitting one.is_problem) one.is_line one.is.port one.is.word))

pub fed_each : (d : Design) (period : ℕ) (xs : List Values) (s : Stimulus) (stream : Stream) → AreOfProblems d period xs s.values → IsStimulated d.module s stream → IsFedEach d period xs stream
fed_each d period xs s stream so stimulated = record {
  on_reset = stimulated.on_reset;
  listed = λ b x at. All-map (λ (l : Entry). Some (stream.in_cycle l.cycle l.wire) ≡ x l.variable l.point) (later_line (b * period)) d.listing.ins (listed b x at);
  idle = λ c k e lt none.
      let port = get_or d.module.inputs k e in
      let at = slice_get-get_or d.module.inputs k e lt in
      stimulated.in_cycles c k port at
      ∙ given_none s.values c k (λ g h cycle place.
      let one = so.each g h in
      let (p, there, named) = port_of d.module.inputs g.port one.line.wire one.is.port in
      let same : p ≡ port = one_some (sym there ∙ ap (slice_get d.module.inputs) place ∙ at) in
      let start = one.problem * period in
      all_at (λ (l : Entry). l.cycle ≡ c → l.wire ≡ port.name → ⊥) (later_lines start d.listing.ins) one.number (later_line start one.line) (none one.problem (slice_get_within xs one.problem one.x one.is_problem))
      (get_mapped (later_line start) d.listing.ins one.number one.line one.is_line) (sym one.is.cycle ∙ cycle) (sym named ∙ ap (λ (q : Port). q.name) same));
}
  where
    listed : (b : ℕ) (x : Values) → slice_get xs b ≡ Some x → All (λ (l : Entry). Some (stream.in_cycle (l.cycle + b * period) l.wire) ≡ x l.variable l.point) d.listing.ins
    listed b x at = λ k e lt.
        let line = get_or d.listing.ins k e in
        let (g, c, is) = so.all b k x line at (slice_get-get_or d.listing.ins k e lt) in
        ap Some (carries d.module s stream (line.cycle + b * period) line.wire g stimulated so.ascending c is.cycle is.port) ∙ sym is.word
