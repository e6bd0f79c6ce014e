-- How the answers of `run`, `trace` and `wave` follow from what their steps did.
use Rattle.std.proofs.Common.{◌≡◌, ℕ, zero, suc, ◌<◌, ◌≤◌, Bool, true, false, ◌||◌, ◌&&◌, List, [], ◌∷◌, ◌++◌, length, Some, slice_get, refl, sym, ap, ◌∙◌, subst, arith, inl, inr, IsTrue, true≢false}
use Rattle.std.specs.Prelude.{◌≢◌, if◌then◌else◌, bytes_eq, All, AllPairs}
use Rattle.std.specs.List.{list_any}
use Rattle.std.proofs.lemmas.Bool.{cases_lt}
use Rattle.std.proofs.lemmas.Slice.Eq.{bytes_eq-Decides}
use Rattle.std.proofs.lemmas.List.Elements.{All-head, All-tail, All-weaker}
use Rattle.av_base.specs.Outside.{SinkState}
use Rattle.av_tree.specs.Trees.{Text}
use Rattle.av_tree.specs.Points.{Point}
use Rattle.av_tree.specs.Values.{Assignment}
use Rattle.av_tree.specs.Domains.{is_declared}
use Rattle.av_tree.specs.Solutions as tree
use Rattle.av_flat.specs.declared.flat.Kind.{Kind}
use Rattle.av_flat.specs.declared.flat.Kind.TheVariants as kind
use Rattle.av_flat.specs.declared.timed.Timed.{Timed}
use Rattle.av_flat.specs.Trees.{FlatSystem, Variable, view_system}
use Rattle.av_flat.specs.Signatures as flat
use Rattle.av_flat.specs.Signatures.{Signature, signatures, is_input, is_kind, is_shown}
use Rattle.av_flat.specs.Points.{has}
use Rattle.av_flat.proofs.Solving.{declared_from, declares, one_of_name}
use Rattle.av_flat.specs.Shown.{SameMeaning}
use Rattle.av_flat.specs.Solutions.{shows_of, declares_of}
use Rattle.av_names.specs.declared.size.Size.{Size}
use Rattle.av_names.specs.Sizes.{instance_of}
use Rattle.av_names.specs.Same.{shows_in, declares_in}
use Rattle.av_net.specs.declared.design.Entry.{Entry}
use Rattle.av_net.specs.declared.design.Design.{Design}
use Rattle.av_net.specs.declared.design.Listing.{Listing}
use Rattle.av_net.specs.declared.plan.Plan.{Plan}
use Rattle.av_net.specs.Flat.{flat_of}
use Rattle.av_net.specs.Presented.{AreApart}
use Rattle.av_net.proofs.FlatDesigns.{flat_is_sound_design}
use Rattle.av_space.specs.declared.cells.Cells.{Cells}
use Rattle.av_space.specs.declared.fault.SpaceFault.{SpaceFault}
use Rattle.av_space.specs.declared.fault.SpaceFault.TheVariants as space
use Rattle.av_space.specs.Whole.{IsPresented}
use Rattle.av_space.proofs.Streams as streams
use Rattle.av_space.proofs.ByPlace.{all_by_place}
use Rattle.av_data.proofs.Outcome.{readable}
use Rattle.av_data.proofs.OneData.{not_both}
use Rattle.av_data.specs.Divisions.{IsDivided}
use Rattle.av_data.specs.Results.{result_line}
use Rattle.av_data.specs.Data.{SpellsInputs}
use Rattle.av_flat.specs.OneSolution.{AreInputs}
use Rattle.av_compile.specs.declared.refusal.Refusal.{Refusal}
use Rattle.av_compile.specs.declared.refusal.Refusal.TheVariants as refusal
use Rattle.av_compile.specs.Mapped.{IsMapped, IsUnmapped}
use Rattle.av_compile.specs.Headline.{Headline}
use Rattle.av_commands.specs.declared.status.Status.{Status}
use Rattle.av_commands.specs.declared.status.Status.TheVariants.{Refused, Memory}
use Rattle.av_commands.specs.declared.runs.Report.{Report}
use Rattle.av_commands.specs.declared.runs.Report.TheVariants.{Results, Trace, Wave}
use Rattle.av_commands.specs.SizeWords.{GiveSizes}
use Rattle.av_commands.specs.Refusals.{refusal_line}
use Rattle.av_commands.specs.AlphaRefusals.{alpha_reason}
use Rattle.av_commands.specs.Runs.{RefusesRun, no_mark, bad_system, bad_data, HasData, results, is_result, GivesResults, GivesTrace}
use Rattle.av_commands.specs.Waves.{GivesDump}
use Rattle.av_commands.specs.Written.{IsPut, IsAnswered, refused, given, no_memory}
use Rattle.av_commands.specs.WithWords.{GivesReport, RefusesRunWith, GivesReportWith}
use Rattle.av_commands.specs.inner.Reported.{IsClockable, names_output, is_output_named, RefusesLines, AreResultsOf, IsTraceOf, IsDumpOf, GivesReported}
use Rattle.av_compile.proofs.Meant.{meaning, inputs_back}
use Rattle.av_compile.proofs.Promised.{line_declared}
use Rattle.av_compile.proofs.OneRefusal.{memory_or_not}
use Rattle.av_commands.proofs.Tabling.{not_unmapped}
use Rattle.av_commands.proofs.Fed.{shows_words}
use Rattle.av_compile.proofs.OneChain.{one_chained}
use Rattle.av_base.proofs.Truths.{and_true, same_truth}
use Rattle.av_base.proofs.Lists.{some_is}

-- ---- a design of a text can be clocked

pub clockable : (bytes : List ℕ) (sizes : List Size) (bits box : ℕ) (t : Timed) (a : Cells) (p : Plan) → Headline bytes sizes bits box t a p → IsMapped bytes sizes bits box t a → IsClockable t (flat_of p)
clockable bytes sizes bits box t a p h m =
    let carries = h.plan.is_plan.carries in
    record {
      chained = m.pipelined.legal.chained;
      sound = flat_is_sound_design p h.plan.is_plan.sound;
      apart = subst (λ (l : Listing). AreApart l.ins) (sym carries.listing) carries.whole.apart;
      fitting = streams.fitting_words t a (flat_of p) carries;
    }

-- ---- outputs

-- results by two tests that agree are the same
pub same_results : (f g : Entry → Bool) (lines : List Entry) (words : List ℕ) → All (λ line. f line ≡ g line) lines → results f lines words ≡ results g lines words
same_results f g [] words same = refl
same_results f g (line ∷ lines) [] same = refl
same_results f g (line ∷ lines) (w ∷ words) same =
    ap (λ (b : Bool). (if b then result_line line.variable line.point w else []) ++ results f lines words) (All-head (λ (l : Entry). f l ≡ g l) line lines same)
    ∙ ap (λ (z : List ℕ). (if g line then result_line line.variable line.point w else []) ++ z) (same_results f g lines words (All-tail (λ (l : Entry). f l ≡ g l) line lines same))

-- a variable of this name is an output
named_output : (vs : List Variable) (name : Text) → list_any (is_output_named name) vs ≡ true → (place : ℕ) × (v : Variable) × (slice_get vs place ≡ Some v) × IsTrue (is_kind v.kind kind.Output) × (v.name ≡ name)
named_output [] name e = absurd (true≢false (sym e))
named_output (v ∷ vs) name e = by (is_output_named name v) refl (named_output vs name) e
  where
    by : (t : Bool) → is_output_named name v ≡ t → (list_any (is_output_named name) vs ≡ true → (place : ℕ) × (w : Variable) × (slice_get vs place ≡ Some w) × IsTrue (is_kind w.kind kind.Output) × (w.name ≡ name))
        → (t || list_any (is_output_named name) vs) ≡ true → (place : ℕ) × (w : Variable) × (slice_get (v ∷ vs) place ≡ Some w) × IsTrue (is_kind w.kind kind.Output) × (w.name ≡ name)
    by true is rest e = let both = both_of (is_kind v.kind kind.Output) (bytes_eq v.name name) is in (0, v, refl, both.0, (bytes_eq-Decides v.name name).0 both.1)
      where
        both_of : (a b : Bool) → (a && b) ≡ true → (a ≡ true) × (b ≡ true)
        both_of true true e = (refl, refl)
        both_of true false e = absurd (true≢false (sym e))
        both_of false b e = absurd (true≢false (sym e))
    by false is rest e = let (place, w, at, output, named) = rest e in (suc place, w, at, output, named)

output_named : (vs : List Variable) (name : Text) (place : ℕ) (v : Variable) → slice_get vs place ≡ Some v → IsTrue (is_kind v.kind kind.Output) → v.name ≡ name → list_any (is_output_named name) vs ≡ true
output_named [] name place v e output named = absurd cc
output_named (w ∷ vs) name zero v e output named =
    let same : w ≡ v = some_is w v e in
    let here : is_output_named name w ≡ true = rw same (and_true (is_kind v.kind kind.Output) (bytes_eq v.name name) output ((bytes_eq-Decides v.name name).1 named)) in
    ap (λ t. t || list_any (is_output_named name) vs) here
output_named (w ∷ vs) name (suc place) v e output named = ap (λ t. is_output_named name w || t) (output_named vs name place v e output named) ∙ or_true (is_output_named name w)
  where
    or_true : (t : Bool) → (t || true) ≡ true
    or_true true = refl
    or_true false = refl

-- the kinds that a test tells
input_kind : (k : Kind) → is_kind kind.Input k ≡ is_input k
input_kind kind.Input = refl
input_kind kind.Output = refl
input_kind kind.Local = refl
input_kind kind.Partial = refl

output_kind : (k : Kind) → is_kind k kind.Output ≡ is_kind kind.Output k
output_kind kind.Input = refl
output_kind kind.Output = refl
output_kind kind.Local = refl
output_kind kind.Partial = refl

same_declared : (f g : Kind → Bool) → ((k : Kind) → f k ≡ g k) → (vs : List Signature) (name : Text) (z : Point) → flat.is_declared f vs name z ≡ flat.is_declared g vs name z
same_declared f g each [] name z = refl
same_declared f g each (v ∷ vs) name z =
    ap (λ t. (t && bytes_eq v.name name && has v.domain z) || flat.is_declared f vs name z) (each v.kind)
    ∙ ap (λ t. (g v.kind && bytes_eq v.name name && has v.domain z) || t) (same_declared f g each vs name z)

module _ (bytes : List ℕ) (sizes : List Size) (bits box : ℕ) (t : Timed) (a : Cells) (plan : Plan) (short : length bytes < 4294967295) (wide : 1 ≤ bits) (h : Headline bytes sizes bits box t a plan)
    (m : IsMapped bytes sizes bits box t a) where
  abbrev own : FlatSystem
  own = view_system t.flat

  abbrev d : Design
  d = flat_of plan

  same : SameMeaning (shows_in (instance_of h.system sizes bits)) (declares_in (instance_of h.system sizes bits)) (shows_of own) (declares_of own)
  same = meaning bytes sizes bits own short m.pipelined.serialises h.system h.program

  -- ---- inputs of the chained system are inputs of the text

  pub tree_inputs : (x : Assignment) → AreInputs own x → tree.AreInputs (instance_of h.system sizes bits) x
  tree_inputs x inputs = inputs_back bytes sizes bits own short m.pipelined.serialises h.system h.program wide x inputs

  -- ---- input lines

  -- each of the listed input points is declared
  pub presented_inputs : All (λ line. IsTrue (is_declared (instance_of h.system sizes bits).sizes h.system.inputs line.variable line.point)) d.listing.ins
  presented_inputs =
      All-weaker (IsPresented own a) (λ (l : Entry). IsTrue (is_declared (instance_of h.system sizes bits).sizes h.system.inputs l.variable l.point))
      (λ l is.
      let kinds = same_declared (is_kind kind.Input) is_input input_kind (signatures own) l.variable l.point in
      (same.declared kind.Input refl l.variable l.point).1 (kinds ∙ is.0)) d.listing.ins (subst (λ (x : Listing). All (IsPresented own a) x.ins) (sym h.plan.is_plan.carries.listing) h.plan.is_plan.carries.whole.presented)

  -- ---- the lines of outputs

  same_line : (i : ℕ) (line : Entry) → slice_get a.listing.ats i ≡ Some line → names_output own line.variable ≡ is_result (instance_of h.system sizes bits) line
  same_line i line e = same_truth (names_output own line.variable) (is_result (instance_of h.system sizes bits) line) into back
    where
      names : AllPairs (λ (a b : Variable). a.name ≢ b.name) own.variables
      names = m.pipelined.legal.chained.names

      into : names_output own line.variable ≡ true → is_result (instance_of h.system sizes bits) line ≡ true
      into is =
          let (place, v, at, output, named) = named_output own.variables line.variable is in
          let from = declared_from own.variables is_shown line.variable line.point (line_declared t a h.plan.is_plan.carries.whole i line e) in
          let one : from.variable ≡ v = one_of_name own.variables from.place place from.variable v names from.at at (from.named ∙ sym named) in
          let within : IsTrue (has v.domain line.point) = subst (λ (u : Variable). IsTrue (has u.domain line.point)) one from.within in
          let there = declares own.variables (is_kind kind.Output) place v line.point at within (sym (output_kind v.kind) ∙ output) in
          (same.declared kind.Output refl line.variable line.point).1 (subst (λ n. IsTrue (flat.is_declared (is_kind kind.Output) (signatures own) n line.point)) named there)

      back : is_result (instance_of h.system sizes bits) line ≡ true → names_output own line.variable ≡ true
      back is =
          let declared = (same.declared kind.Output refl line.variable line.point).0 is in
          let from = declared_from own.variables (is_kind kind.Output) line.variable line.point declared in
          output_named own.variables line.variable from.place from.variable from.at (output_kind from.variable.kind ∙ from.kind) from.named

  -- ---- what is reported of the run

  pub results_given : (x : Assignment) (out : List ℕ) (rest whole : List ℕ) (first : ℕ) → IsDivided whole bytes rest first → SpellsInputs own rest x → AreInputs own x → AreResultsOf t d x out → GivesResults sizes bits box whole out
  results_given x out rest whole first divided spelled inputs shows =
      let i = instance_of h.system sizes bits in
      let tree_is = tree_inputs x inputs in
      let one = h.computes.one_solution x tree_is in
      let fits = (clockable bytes sizes bits box t a plan h m).fitting x inputs in
      let lines_same : All (λ (l : Entry). names_output own l.variable ≡ is_result i l) d.listing.ats =
      subst (λ (l : Listing). All (λ (e : Entry). names_output own e.variable ≡ is_result i e) l.ats) (sym h.plan.is_plan.carries.listing) (all_by_place (λ (e : Entry). names_output own e.variable ≡ is_result i e) a.listing.ats same_line) in
      record {
        timed = t;
        cells = a;
        plan = plan;
        inputs = x;
        has = record { before = bytes; rest = rest; first = first; divided = divided; mapped = m; computes = h; spelled = spelled; are_inputs = tree_is };
        solution = one.solution;
        solves = one.solves;
        words = shows.words;
        solved = shows_words d x one.solution shows.words fits (h.computes.shows x one.solution tree_is one.solves) shows.shown;
        lines = shows.lines ∙ same_results (λ (l : Entry). names_output own l.variable) (is_result i) d.listing.ats shows.words lines_same;
      }

  pub trace_given : (x : Assignment) (out : List ℕ) (rest whole : List ℕ) (first : ℕ) → IsDivided whole bytes rest first → SpellsInputs own rest x → AreInputs own x → IsTraceOf a plan d x out → GivesTrace sizes bits box whole out
  trace_given x out rest whole first divided spelled inputs shows = record {
    timed = t;
    cells = a;
    plan = plan;
    inputs = x;
    has = record { before = bytes; rest = rest; first = first; divided = divided; mapped = m; computes = h; spelled = spelled; are_inputs = tree_inputs x inputs };
    run = shows.run;
    clocked = shows.clocked;
    lines = shows.lines;
  }

  pub dump_given : (x : Assignment) (out : List ℕ) (rest whole : List ℕ) (first : ℕ) → IsDivided whole bytes rest first → SpellsInputs own rest x → AreInputs own x → IsDumpOf a d x out → GivesDump sizes bits box whole out
  dump_given x out rest whole first divided spelled inputs shows = record {
    timed = t;
    cells = a;
    plan = plan;
    inputs = x;
    has = record { before = bytes; rest = rest; first = first; divided = divided; mapped = m; computes = h; spelled = spelled; are_inputs = tree_inputs x inputs };
    run = shows.run;
    clocked = shows.clocked;
    wave = shows.wave;
    recorded = shows.recorded;
    text = shows.text;
  }

  pub report_given : (report : Report) (out : List ℕ) (rest whole : List ℕ) (first : ℕ) → IsDivided whole bytes rest first → GivesReported report t a plan d rest out → GivesReport report sizes bits box whole out
  report_given Results out rest whole first divided g = results_given g.inputs out rest whole first divided g.spelled g.are g.reports
  report_given Trace out rest whole first divided g = trace_given g.inputs out rest whole first divided g.spelled g.are g.reports
  report_given Wave out rest whole first divided g = dump_given g.inputs out rest whole first divided g.spelled g.are g.reports

  -- the answer to the lines of data, as one to the whole input
  pub report_answered : (design : Design) → design ≡ d → (words : List (List ℕ)) (report : Report) (rest whole : List ℕ) (first : ℕ) {sink sink' : SinkState} {status : Status} → IsDivided whole bytes rest first → GiveSizes words sizes
      → IsAnswered (RefusesLines t first rest) (GivesReported report t a plan design rest) sink sink' status
      → IsAnswered (RefusesRunWith words bits box whole) (GivesReportWith report words bits box whole) sink sink' status
  report_answered design is_flat words report rest whole first divided give (refused r put) = refused (record { sizes = sizes; give = give; refuses = bad_data r.fault divided m r.is r.told }) put
  report_answered design is_flat words report rest whole first divided give (given {out} g put) =
      given (record { sizes = sizes; give = give; gives = report_given report out rest whole first divided (subst (λ (e : Design). GivesReported report t a plan e rest out) is_flat g) }) put
  report_answered design is_flat words report rest whole first divided give (no_memory x y) = no_memory x y

-- ---- refusals

pub run_refused : (Given : List ℕ → Type 0) (words : List (List ℕ)) (sizes : List Size) (bits box : ℕ) (before rest whole : List ℕ) (first : ℕ) (f : Refusal) {sink sink' : SinkState} {status : Status}
    → IsDivided whole before rest first → GiveSizes words sizes → (f ≢ refusal.Memory → IsUnmapped before sizes bits box f) → (f ≡ refusal.Memory → (status ≡ Memory) × (sink'.held ≡ sink.held))
    → ((f ≡ refusal.Memory → ⊥) → IsPut sink sink' (refusal_line (alpha_reason f)) Refused status)
    → IsAnswered (RefusesRunWith words bits box whole) Given sink sink' status
run_refused Given words sizes bits box before rest whole first f divided give is none put =
    elim (memory_or_not f) [
      | inl memory ↦ (let (x, y) = none memory in no_memory x y)
      | inr some ↦ refused (record { sizes = sizes; give = give; refuses = bad_system divided (record { cause = f; first = is some; some = some; told = refl }) }) (put some)
    ]

-- ---- refused or given, and not both

pub exclusive_run : (sizes : List Size) (bits box : ℕ) (bytes reason : List ℕ) (t : Timed) (a : Cells) (p : Plan) (x : Assignment) → RefusesRun sizes bits box bytes reason → HasData sizes bits box bytes t a p x → ⊥
exclusive_run sizes bits box bytes reason t a p x (no_mark none e) has = let marked = has.divided.marked in omega (arith, none, marked)
exclusive_run sizes bits box bytes reason t a p x (bad_system {before} divided r) has =
    let same : has.before ≡ before = has.divided.text_is ∙ sym divided.text_is in
    not_unmapped sizes bits box before reason t a r (subst (λ b. IsMapped b sizes bits box t a) same has.mapped)
exclusive_run sizes bits box bytes reason t a p x (bad_data {before} {rest} {first} {timed} {cells} fault divided mapped is e) has =
    let same : has.before ≡ before = has.divided.text_is ∙ sym divided.text_is in
    let behind : has.rest ≡ rest = has.divided.rest_is ∙ sym divided.rest_is in
    let own = subst (λ b. IsMapped b sizes bits box t a) same has.mapped in
    let one : view_system t.flat ≡ view_system timed.flat = one_chained before sizes bits (view_system t.flat) (view_system timed.flat) own.pipelined.serialises mapped.pipelined.serialises in
    let spelled : SpellsInputs (view_system timed.flat) rest x = subst (λ (s : FlatSystem). SpellsInputs s rest x) one (subst (λ r. SpellsInputs (view_system t.flat) r x) behind has.spelled) in
    not_both (view_system timed.flat) (readable (view_system timed.flat) (inr mapped.pipelined.legal.chained)) first rest x fault spelled is

-- ---- an array has few cycles

pub few_cycles : (bytes : List ℕ) (sizes : List Size) (bits box : ℕ) (t : Timed) (a : Cells) → IsMapped bytes sizes bits box t a → a.cycles ≤ 4096
few_cycles bytes sizes bits box t a m = elim (cases_lt 4096 a.cycles) [
  | inl above ↦ absurd (let e : ◌≡◌ {A = SpaceFault} (space.Cycles a.cycles) space.Memory = m.no_cause (space.Cycles a.cycles) (m.whole.list.cycles, above) in cc)
  | inr le ↦ le
]
