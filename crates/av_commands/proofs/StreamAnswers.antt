-- How the answers of `stream` follow from what its steps did.
use Rattle.std.proofs.Common.{◌≡◌, ◌≢◌, ℕ, ◌<◌, ◌≤◌, List, length, map, refl, sym, ap, ap₂, subst, ◌∙◌, arith, inl, inr}
use Rattle.av_base.specs.Outside.{SinkState}
use Rattle.av_base.proofs.Lists.{there_is}
use Rattle.std.proofs.lemmas.Option.{slice_get_within}
use Rattle.std.proofs.lemmas.List.{length-map}
use Rattle.av_tree.specs.Values.{Assignment}
use Rattle.av_flat.specs.declared.timed.Timed.{Timed}
use Rattle.av_flat.specs.Trees.{FlatSystem, view_system}
use Rattle.av_names.specs.declared.size.Size.{Size}
use Rattle.av_space.specs.declared.cells.Cells.{Cells}
use Rattle.av_data.specs.declared.fault.DataFault.{DataFault}
use Rattle.av_data.specs.declared.fault.DataFault.TheVariants as data_fault
use Rattle.av_data.specs.declared.sets.DataSet.{DataSet}
use Rattle.av_data.specs.Data.{SpellsInputs}
use Rattle.av_data.specs.Divisions.{IsDivided}
use Rattle.av_data.specs.Inputs.{InputWords, words_of}
use Rattle.av_data.specs.Sets.{AreSets, last, more}
use Rattle.av_data.proofs.Outcome.{readable}
use Rattle.av_data.proofs.OneData.{not_both}
use Rattle.av_compile.specs.declared.mapping.MappedSystem.{MappedSystem}
use Rattle.av_compile.specs.declared.refusal.Refusal.{Refusal}
use Rattle.av_compile.specs.declared.refusal.Refusal.TheVariants as refusal
use Rattle.av_compile.specs.Mapped.{IsMapped, IsUnmapped}
use Rattle.av_compile.specs.Scheduled.{HasOneSolutionEach}
use Rattle.av_compile.proofs.OneRefusal.{memory_or_not}
use Rattle.av_stream.specs.Periods.{HasPeriod}
use Rattle.av_commands.specs.declared.status.Status.{Status}
use Rattle.av_commands.specs.declared.status.Status.TheVariants.{Refused, Memory}
use Rattle.av_commands.specs.SizeWords.{GiveSizes}
use Rattle.av_commands.specs.Refusals.{refusal_line, data_reason}
use Rattle.av_commands.specs.AlphaRefusals.{alpha_reason}
use Rattle.av_commands.specs.Streams.{stream_cycles, cycles_reason, HasSets, IsFirstBadSet, RefusesStream, no_mark, bad_system, too_long, bad_data, AreSpelled, GivesStream}
use Rattle.av_commands.specs.Written.{PutsOneOf, IsPut, IsAnswered, refused, given, no_memory}
use Rattle.av_commands.specs.inner.Streaming as streaming
use Rattle.av_commands.specs.WithWords.{RefusesStreamWith, GivesStreamWith}
use Rattle.av_commands.specs.inner.Streaming.{RefusesSets, GivesSets, IsStreamed, IsStreamOn}
use Rattle.av_commands.proofs.Tabling.{not_unmapped}
use Rattle.av_commands.proofs.Outputs.{puts_given}
use Rattle.av_commands.proofs.SetsRead.{fault_or_memory}
use Rattle.av_commands.proofs.StreamsShown.{streams_text}
use Rattle.av_commands.proofs.StreamSets.{AreSame, same_sets, IsSameArray, same_array, same_period}

-- ---- refused or given, and not both

-- what two readings of one input share
record IsSameInput (t u : Timed) (a b : Cells) (p q : ℕ) (xs ys : List DataSet) : Type 0 where
  array : IsSameArray t u a b
  period : p ≡ q
  sets : AreSame xs ys

same_input : (sizes : List Size) (bits box : ℕ) (bytes : List ℕ) (t u : Timed) (a b : Cells) (p q : ℕ) (xs ys : List DataSet) → HasSets sizes bits box bytes t a p xs → HasSets sizes bits box bytes u b q ys → IsSameInput t u a b p q xs ys
same_input sizes bits box bytes t u a b p q xs ys h k =
    let before : h.before ≡ k.before = h.divided.text_is ∙ sym k.divided.text_is in
    let rest : h.rest ≡ k.rest = h.divided.rest_is ∙ sym k.divided.rest_is in
    let first : h.first ≡ k.first = h.divided.number ∙ sym k.divided.number in
    let array = same_array k.before sizes bits box t u a b (subst (λ (z : List ℕ). IsMapped z sizes bits box t a) before h.mapped) k.mapped in
    let own = subst (λ (n : ℕ). AreSets k.rest n xs) first (subst (λ (z : List ℕ). AreSets z h.first xs) rest h.are_sets) in
    record {
      array = array;
      period = same_period t u a b p q array.system array.times array.cells h.has_period k.has_period;
      sets = same_sets k.rest k.first xs ys own k.are_sets;
    }

same_cycles : (t u : Timed) (a b : Cells) (p q : ℕ) (xs ys : List DataSet) → IsSameInput t u a b p q xs ys → stream_cycles a.cycles p (length xs) ≡ stream_cycles b.cycles q (length ys)
same_cycles t u a b p q xs ys same =
    ap₂ (λ c n. stream_cycles c p n) same.array.cycles same.sets.many ∙ ap (λ n. stream_cycles b.cycles n (length ys)) same.period

pub exclusive_stream : (sizes : List Size) (bits box : ℕ) (bytes reason out : List ℕ) → RefusesStream sizes bits box bytes reason → GivesStream sizes bits box bytes out → ⊥
exclusive_stream sizes bits box bytes reason out (no_mark none e) g = let marked = g.has.divided.marked in omega (arith, none, marked)
exclusive_stream sizes bits box bytes reason out (bad_system {before} divided r) g =
    let same : g.has.before ≡ before = g.has.divided.text_is ∙ sym divided.text_is in
    not_unmapped sizes bits box before reason g.timed g.cells r (subst (λ b. IsMapped b sizes bits box g.timed g.cells) same g.has.mapped)
exclusive_stream sizes bits box bytes reason out (too_long {timed} {cells} {period} {sets} has long e) g =
    let same = same_cycles timed g.timed cells g.cells period g.streamed.period sets g.sets (same_input sizes bits box bytes timed g.timed cells g.cells period g.streamed.period sets g.sets has g.has) in
    let short = g.short in
    omega (arith, long, short, same)
exclusive_stream sizes bits box bytes reason out (bad_data {timed} {cells} {period} {sets} fault has short bad e) g =
    let same = same_input sizes bits box bytes timed g.timed cells g.cells period g.streamed.period sets g.sets has g.has in
    let k = bad.number in
    let at = slice_get_within sets k bad.set bad.is_set in
    let y = there_is g.sets k (omega (arith, at, same.sets.many)) in
    let one = same.sets.each k bad.set y.0 bad.is_set y.1 in
    let x = there_is g.inputs k (omega (arith, at, same.sets.many, g.spelled.one_each)) in
    let spelled = subst (λ (z : List ℕ). SpellsInputs (view_system g.timed.flat) z x.0) (sym one.0) (g.spelled.each k y.0 x.0 y.1 x.1) in
    let own = subst (λ (s : FlatSystem). SpellsInputs s bad.set.bytes.now x.0) (sym same.array.system) spelled in
    not_both (view_system timed.flat) (readable (view_system timed.flat) (inr has.mapped.pipelined.legal.chained)) bad.set.first_line bad.set.bytes.now x.0 fault own bad.is_bad

-- ---- answers to data sets

pub some_set : (bytes : List ℕ) (first : ℕ) (sets : List DataSet) → AreSets bytes first sets → 0 < length sets
some_set bytes first sets (last none bytes_are at) = omega arith
some_set bytes first sets (more divided at are) = omega arith

-- as many sets as inputs, whose words they spell
pub as_many_inputs : (s : FlatSystem) (sets : List DataSet) (inputs : List InputWords) → AreSpelled s sets (map words_of inputs) → length sets ≡ length inputs
as_many_inputs s sets inputs spelled = sym spelled.one_each ∙ length-map inputs words_of

-- so many cycles are those of the inputs
pub cycles_of_inputs : (a : MappedSystem) (period other cycles : ℕ) (sets : List DataSet) (inputs : List InputWords) → HasPeriod a.timed a.cells period → HasPeriod a.timed a.cells other
    → cycles ≡ stream_cycles a.cells.cycles period (length sets) → length sets ≡ length inputs → cycles ≡ stream_cycles a.cells.cycles other (length inputs)
cycles_of_inputs a period other cycles sets inputs has too many same =
    many ∙ ap₂ (λ (p n : ℕ). stream_cycles a.cells.cycles p n) (same_period a.timed a.timed a.cells a.cells period other refl refl refl has too) same

-- the run on all sets is too long
pub sets_long : (a : MappedSystem) (first : ℕ) (bytes : List ℕ) (period cycles : ℕ) (sets : List DataSet) (Given : List ℕ → Type 0) {sink sink' : SinkState} {status : Status}
    → HasPeriod a.timed a.cells period → AreSets bytes first sets → cycles ≡ stream_cycles a.cells.cycles period (length sets) → 4096 < cycles
    → IsPut sink sink' (refusal_line (cycles_reason cycles)) Refused status → IsAnswered (RefusesSets a first bytes) Given sink sink' status
sets_long a first bytes period cycles sets Given has are many long put = refused (streaming.too_long has are (subst (λ (n : ℕ). 4096 < n) many long) (ap cycles_reason many)) put

-- some set has a fault
pub sets_bad : (a : MappedSystem) (first : ℕ) (bytes : List ℕ) (period cycles : ℕ) (sets : List DataSet) (f : DataFault) (Given : List ℕ → Type 0) {sink sink' : SinkState} {status : Status}
    → HasPeriod a.timed a.cells period → AreSets bytes first sets → cycles ≡ stream_cycles a.cells.cycles period (length sets) → cycles ≤ 4096
    → (f ≢ data_fault.Memory → IsFirstBadSet (view_system a.timed.flat) sets f) → (f ≡ data_fault.Memory → (status ≡ Memory) × (sink'.held ≡ sink.held))
    → ((f ≡ data_fault.Memory → ⊥) → IsPut sink sink' (refusal_line (data_reason f)) Refused status) → IsAnswered (RefusesSets a first bytes) Given sink sink' status
sets_bad a first bytes period cycles sets f Given has are many short bad none put = elim (fault_or_memory f) [
  | inl memory ↦ (let (x, y) = none memory in no_memory x y)
  | inr some ↦ refused (streaming.bad_data f has are (subst (λ (n : ℕ). n ≤ 4096) many short) (bad some) refl) (put some)
]

-- the run on all sets was put
pub sets_given : (a : MappedSystem) (first : ℕ) (bytes : List ℕ) (period cycles : ℕ) (sets : List DataSet) (inputs : List Assignment) {sink sink' : SinkState} {status : Status}
    → HasPeriod a.timed a.cells period → AreSets bytes first sets → cycles ≡ stream_cycles a.cells.cycles period (length sets) → cycles ≤ 4096
    → AreSpelled (view_system a.timed.flat) sets inputs → PutsOneOf (IsStreamOn a cycles inputs) sink sink' status
    → IsAnswered (RefusesSets a first bytes) (GivesSets a first bytes) sink sink' status
sets_given a first bytes period cycles sets inputs has are many short spelled put = puts_given gives put
  where
    gives : (out : List ℕ) → IsStreamOn a cycles inputs out → GivesSets a first bytes out
    gives out told =
        let one = same_period a.timed a.timed a.cells a.cells period told.streamed.period refl refl refl has told.is_stream.has_period in
        let same : cycles ≡ stream_cycles a.cells.cycles told.streamed.period (length sets) = many ∙ ap (λ (p : ℕ). stream_cycles a.cells.cycles p (length sets)) one in
        record {
          streamed = told.streamed;
          is_stream = told.is_stream;
          sets = sets;
          are_sets = are;
          short = subst (λ (n : ℕ). n ≤ 4096) same short;
          inputs = inputs;
          spelled = spelled;
          streams = subst (λ (n : ℕ). IsStreamed n told.streamed inputs out) same told.streams;
        }

-- ---- answers

-- the answer to the data sets, as one to the whole input
pub text_answered : (before : List ℕ) (sizes : List Size) (bits box : ℕ) (a : MappedSystem) → length before < 4294967295 → 1 ≤ bits → IsMapped before sizes bits box a.timed a.cells → HasOneSolutionEach before sizes bits
    → (words : List (List ℕ)) (rest whole : List ℕ) (first : ℕ) {sink sink' : SinkState} {status : Status} → IsDivided whole before rest first → GiveSizes words sizes
    → IsAnswered (RefusesSets a first rest) (GivesSets a first rest) sink sink' status
    → IsAnswered (RefusesStreamWith words bits box whole) (GivesStreamWith words bits box whole) sink sink' status
text_answered before sizes bits box a short wide mapped each words rest whole first divided give answer = by answer
  where
    has : (period : ℕ) (sets : List DataSet) → HasPeriod a.timed a.cells period → AreSets rest first sets → HasSets sizes bits box whole a.timed a.cells period sets
    has period sets is are = record { before = before; rest = rest; first = first; divided = divided; mapped = mapped; has_period = is; are_sets = are }

    refuses : (reason : List ℕ) → RefusesSets a first rest reason → RefusesStream sizes bits box whole reason
    refuses reason (streaming.too_long {period} {sets} is are long e) = too_long (has period sets is are) long e
    refuses reason (streaming.bad_data {period} {sets} fault is are few bad e) = bad_data fault (has period sets is are) few bad e

    gives : (out : List ℕ) → GivesSets a first rest out → GivesStream sizes bits box whole out
    gives out g = record {
      timed = a.timed;
      cells = a.cells;
      streamed = g.streamed;
      sets = g.sets;
      has = has g.streamed.period g.sets g.is_stream.has_period g.are_sets;
      short = g.short;
      is_stream = g.is_stream;
      streams = streams_text before sizes bits box a.timed a.cells short wide mapped each g.streamed g.is_stream;
      inputs = g.inputs;
      spelled = g.spelled;
      run = g.streams.run;
      clocked = g.streams.clocked;
      lines = g.streams.lines;
    }

    by : {sink sink' : SinkState} {status : Status} → IsAnswered (RefusesSets a first rest) (GivesSets a first rest) sink sink' status
        → IsAnswered (RefusesStreamWith words bits box whole) (GivesStreamWith words bits box whole) sink sink' status
    by (refused {reason} r put) = refused (record { sizes = sizes; give = give; refuses = refuses reason r }) put
    by (given {out} g put) = given (record { sizes = sizes; give = give; gives = gives out g }) put
    by (no_memory x y) = no_memory x y

-- the text before the first mark is refused
pub text_refused : (Given : List ℕ → Type 0) (words : List (List ℕ)) (sizes : List Size) (bits box : ℕ) (before rest whole : List ℕ) (first : ℕ) (f : Refusal) {sink sink' : SinkState} {status : Status}
    → IsDivided whole before rest first → GiveSizes words sizes → (f ≢ refusal.Memory → IsUnmapped before sizes bits box f) → (f ≡ refusal.Memory → (status ≡ Memory) × (sink'.held ≡ sink.held))
    → ((f ≡ refusal.Memory → ⊥) → IsPut sink sink' (refusal_line (alpha_reason f)) Refused status)
    → IsAnswered (RefusesStreamWith words bits box whole) Given sink sink' status
text_refused Given words sizes bits box before rest whole first f divided give is none put =
    elim (memory_or_not f) [
      | inl memory ↦ (let (x, y) = none memory in no_memory x y)
      | inr some ↦ refused (record { sizes = sizes; give = give; refuses = bad_system divided (record { cause = f; first = is some; some = some; told = refl }) }) (put some)
    ]
