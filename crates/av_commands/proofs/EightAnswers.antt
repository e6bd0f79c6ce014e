-- How the answers of `run8` follow from what its steps did.
use Rattle.std.proofs.Common.{◌≡◌, ◌≢◌, ℕ, ◌<◌, ◌≤◌, List, All, length, map, refl, sym, subst, ◌∙◌, arith, inl, inr, Some, slice_get}
use Rattle.std.proofs.lemmas.Option.{slice_get_within}
use Rattle.av_base.specs.Outside.{SinkState}
use Rattle.std.proofs.lemmas.List.Elements.{All-map}
use Rattle.av_base.proofs.Lists.{there_is, all_at}
use Rattle.av_tree.specs.Values.{Assignment}
use Rattle.av_flat.specs.declared.timed.Timed.{Timed}
use Rattle.av_flat.specs.Trees.{FlatSystem, view_system}
use Rattle.av_names.specs.declared.size.Size.{Size}
use Rattle.av_net.specs.declared.design.Design.{Design}
use Rattle.av_net.specs.declared.plan.Plan.{Plan}
use Rattle.av_net.specs.Flat.{flat_of}
use Rattle.av_space.specs.declared.cells.Cells.{Cells}
use Rattle.av_data.specs.declared.fault.DataFault.{DataFault}
use Rattle.av_data.specs.declared.fault.DataFault.TheVariants as data_fault
use Rattle.av_data.specs.declared.sets.DataSet.{DataSet}
use Rattle.av_data.specs.Data.{SpellsInputs}
use Rattle.av_data.specs.Divisions.{IsDivided}
use Rattle.av_data.specs.Inputs.{InputWords, words_of}
use Rattle.av_flat.specs.OneSolution.{AreInputs}
use Rattle.av_data.specs.Sets.{AreSets}
use Rattle.av_data.proofs.Outcome.{readable}
use Rattle.av_data.proofs.OneData.{not_both}
use Rattle.av_compile.specs.declared.refusal.Refusal.{Refusal}
use Rattle.av_compile.specs.declared.refusal.Refusal.TheVariants as refusal
use Rattle.av_compile.specs.Headline.{Headline}
use Rattle.av_compile.specs.Mapped.{IsMapped, IsUnmapped}
use Rattle.av_compile.proofs.OneRefusal.{memory_or_not}
use Rattle.av_commands.specs.declared.status.Status.{Status}
use Rattle.av_commands.specs.declared.status.Status.TheVariants.{Refused, Memory}
use Rattle.av_commands.specs.SizeWords.{GiveSizes}
use Rattle.av_commands.specs.Refusals.{refusal_line, data_reason}
use Rattle.av_commands.specs.AlphaRefusals.{alpha_reason}
use Rattle.av_commands.specs.Streams.{IsFirstBadSet, AreSpelled}
use Rattle.av_commands.specs.Eights.{AreDivided, sets_reason, RefusesEight, no_mark, many_sets, bad_system, bad_data, with_set, GivesEight}
use Rattle.av_commands.specs.WithWords.{RefusesEightWith, GivesEightWith}
use Rattle.av_commands.specs.inner.Eighting.{RefusesBadSet, AreResultsOfSets, GivesEightOf}
use Rattle.av_commands.specs.Written.{PutsOneOf, IsPut, IsAnswered, refused, given, no_memory}
use Rattle.av_commands.specs.inner.Reported.{AreResultsOf}
use Rattle.av_commands.proofs.OneSet.{other_data}
use Rattle.av_commands.proofs.Outputs.{puts_given}
use Rattle.av_commands.proofs.Reporting.{results_given}
use Rattle.av_commands.proofs.SetsRead.{fault_or_memory}
use Rattle.av_commands.proofs.StreamAnswers.{some_set}
use Rattle.av_commands.proofs.StreamSets.{AreSame, same_sets, same_array}
use Rattle.av_commands.proofs.Tabling.{not_unmapped}

-- two divisions of one input are the same
same_text : (bytes text other : List ℕ) (xs ys : List DataSet) → AreDivided bytes text xs → AreDivided bytes other ys → text ≡ other
same_text bytes text other xs ys h k = h.divided.text_is ∙ sym k.divided.text_is

same_division : (bytes text other : List ℕ) (xs ys : List DataSet) → AreDivided bytes text xs → AreDivided bytes other ys → AreSame xs ys
same_division bytes text other xs ys h k =
    let rest : h.rest ≡ k.rest = h.divided.rest_is ∙ sym k.divided.rest_is in
    let first : h.first ≡ k.first = h.divided.number ∙ sym k.divided.number in
    let own = subst (λ (n : ℕ). AreSets k.rest n xs) first (subst (λ (z : List ℕ). AreSets z h.first xs) rest h.are_sets) in
    same_sets k.rest k.first xs ys own k.are_sets

-- what is read of a text with one set alone behind it is that text and that set
record IsReadAlone (before : List ℕ) (set : DataSet) (text rest : List ℕ) : Type 0 where
  text_is : text ≡ before
  rest_is : rest ≡ set.bytes.now

read_alone : (bytes before : List ℕ) (sets : List DataSet) (set : DataSet) (text rest : List ℕ) (first : ℕ) → AreDivided bytes before sets → IsDivided (with_set before set) text rest first → IsReadAlone before set text rest
read_alone bytes before sets set text rest first h k =
    let alone = other_data bytes before h.rest h.first h.divided set.bytes.now in
    record { text_is = k.text_is ∙ sym alone.text_is; rest_is = k.rest_is ∙ sym alone.rest_is }

-- what `run` writes for a set, with the text and the set that it reads
record IsOfSet (sizes : List Size) (bits box : ℕ) (before : List ℕ) (set : DataSet) : Type 0 where
  timed : Timed
  cells : Cells
  inputs : Assignment
  mapped : IsMapped before sizes bits box timed cells
  spelled : SpellsInputs (view_system timed.flat) set.bytes.now inputs

of_set : (sizes : List Size) (bits box : ℕ) (bytes out : List ℕ) (g : GivesEight sizes bits box bytes out) (k : ℕ) (set : DataSet) → slice_get g.sets k ≡ Some set → IsOfSet sizes bits box g.before set
of_set sizes bits box bytes out g k set at =
    let lt = slice_get_within g.sets k set at in
    let one = there_is g.outs k (let same = g.one_each in omega (arith, lt, same)) in
    let gives = g.each k set one.0 at one.1 in
    let alone = read_alone bytes g.before g.sets set gives.has.before gives.has.rest gives.has.first g.divided gives.has.divided in
    record {
      timed = gives.timed;
      cells = gives.cells;
      inputs = gives.inputs;
      mapped = subst (λ (z : List ℕ). IsMapped z sizes bits box gives.timed gives.cells) alone.text_is gives.has.mapped;
      spelled = subst (λ (z : List ℕ). SpellsInputs (view_system gives.timed.flat) z gives.inputs) alone.rest_is gives.has.spelled;
    }

pub exclusive_eight : (sizes : List Size) (bits box : ℕ) (bytes reason out : List ℕ) → RefusesEight sizes bits box bytes reason → GivesEight sizes bits box bytes out → ⊥
exclusive_eight sizes bits box bytes reason out (no_mark none e) g = let marked = g.divided.divided.marked in omega (arith, none, marked)
exclusive_eight sizes bits box bytes reason out (many_sets {before} {sets} divided many e) g =
    let same = same_division bytes before g.before sets g.sets divided g.divided in
    let few = g.few in
    omega (arith, many, few, same.many)
exclusive_eight sizes bits box bytes reason out (bad_system {before} {sets} divided few r) g =
    let same = same_text bytes g.before before g.sets sets g.divided divided in
    let set = there_is g.sets 0 (some_set g.divided.rest g.divided.first g.sets g.divided.are_sets) in
    let of = of_set sizes bits box bytes out g 0 set.0 set.1 in
    not_unmapped sizes bits box before reason of.timed of.cells r (subst (λ b. IsMapped b sizes bits box of.timed of.cells) same of.mapped)
exclusive_eight sizes bits box bytes reason out (bad_data {before} {sets} {timed} {cells} fault divided few mapped bad e) g =
    let text = same_text bytes g.before before g.sets sets g.divided divided in
    let same = same_division bytes before g.before sets g.sets divided g.divided in
    let k = bad.number in
    let at = slice_get_within sets k bad.set bad.is_set in
    let y = there_is g.sets k (omega (arith, at, same.many)) in
    let one = same.each k bad.set y.0 bad.is_set y.1 in
    let of = of_set sizes bits box bytes out g k y.0 y.1 in
    let array = same_array before sizes bits box timed of.timed cells of.cells mapped (subst (λ (z : List ℕ). IsMapped z sizes bits box of.timed of.cells) text of.mapped) in
    let spelled = subst (λ (z : List ℕ). SpellsInputs (view_system of.timed.flat) z of.inputs) (sym one.0) of.spelled in
    let own = subst (λ (s : FlatSystem). SpellsInputs s bad.set.bytes.now of.inputs) (sym array.system) spelled in
    not_both (view_system timed.flat) (readable (view_system timed.flat) (inr mapped.pipelined.legal.chained)) bad.set.first_line bad.set.bytes.now of.inputs fault own bad.is_bad

-- ---- answers

-- there are too many sets
pub many_refused : (Given : List ℕ → Type 0) (words : List (List ℕ)) (sizes : List Size) (bits box : ℕ) (before rest whole : List ℕ) (first : ℕ) (sets : List DataSet) {sink sink' : SinkState} {status : Status}
    → IsDivided whole before rest first → GiveSizes words sizes → AreSets rest first sets → 8 < length sets → IsPut sink sink' (refusal_line (sets_reason (length sets))) Refused status
    → IsAnswered (RefusesEightWith words bits box whole) Given sink sink' status
many_refused Given words sizes bits box before rest whole first sets divided give are many put =
    refused (record { sizes = sizes; give = give; refuses = many_sets (record { rest = rest; first = first; divided = divided; are_sets = are }) many refl }) put

-- the text before the first mark is refused
pub eight_refused : (Given : List ℕ → Type 0) (words : List (List ℕ)) (sizes : List Size) (bits box : ℕ) (before rest whole : List ℕ) (first : ℕ) (sets : List DataSet) (f : Refusal) {sink sink' : SinkState} {status : Status}
    → IsDivided whole before rest first → GiveSizes words sizes → AreSets rest first sets → length sets ≤ 8 → (f ≢ refusal.Memory → IsUnmapped before sizes bits box f)
    → (f ≡ refusal.Memory → (status ≡ Memory) × (sink'.held ≡ sink.held)) → ((f ≡ refusal.Memory → ⊥) → IsPut sink sink' (refusal_line (alpha_reason f)) Refused status)
    → IsAnswered (RefusesEightWith words bits box whole) Given sink sink' status
eight_refused Given words sizes bits box before rest whole first sets f divided give are few is none put =
    elim (memory_or_not f) [
      | inl memory ↦ (let (x, y) = none memory in no_memory x y)
      | inr some ↦ refused (record {
        sizes = sizes;
        give = give;
        refuses = bad_system (record { rest = rest; first = first; divided = divided; are_sets = are }) few (record { cause = f; first = is some; some = some; told = refl });
      }) (put some)
    ]

-- some set has a fault
pub set_refused : (timed : Timed) (sets : List DataSet) (f : DataFault) (Given : List ℕ → Type 0) {sink sink' : SinkState} {status : Status}
    → (f ≢ data_fault.Memory → IsFirstBadSet (view_system timed.flat) sets f) → (f ≡ data_fault.Memory → (status ≡ Memory) × (sink'.held ≡ sink.held))
    → ((f ≡ data_fault.Memory → ⊥) → IsPut sink sink' (refusal_line (data_reason f)) Refused status) → IsAnswered (RefusesBadSet timed sets) Given sink sink' status
set_refused timed sets f Given bad none put = elim (fault_or_memory f) [
  | inl memory ↦ (let (x, y) = none memory in no_memory x y)
  | inr some ↦ refused (record { fault = f; is = bad some; told = refl }) (put some)
]

-- the results of all sets were put
pub sets_answered : (timed : Timed) (design : Design) (sets : List DataSet) (inputs : List InputWords) {sink sink' : SinkState} {status : Status} → AreSpelled (view_system timed.flat) sets (map words_of inputs)
    → All (λ (x : InputWords). AreInputs (view_system timed.flat) (words_of x)) inputs → PutsOneOf (AreResultsOfSets timed design (map words_of inputs)) sink sink' status
    → IsAnswered (RefusesBadSet timed sets) (GivesEightOf timed design sets) sink sink' status
sets_answered timed design sets inputs spelled are put =
    puts_given (λ out told. record {
      inputs = map words_of inputs;
      spelled = spelled;
      are = λ k x at. all_at (AreInputs (view_system timed.flat)) (map words_of inputs) k x (All-map (AreInputs (view_system timed.flat)) words_of inputs are) at;
      gives = told;
    }) put

-- the answer to all sets, as one to the whole input
module _ (before : List ℕ) (sizes : List Size) (bits box : ℕ) (t : Timed) (a : Cells) (plan : Plan) (short : length before < 4294967295) (wide : 1 ≤ bits) (h : Headline before sizes bits box t a plan)
    (m : IsMapped before sizes bits box t a) (design : Design) (is_flat : design ≡ flat_of plan) (rest whole : List ℕ) (first : ℕ) (sets : List DataSet)
    (divided : IsDivided whole before rest first) (are : AreSets rest first sets) (few : length sets ≤ 8) where
  gives : (out : List ℕ) → GivesEightOf t design sets out → GivesEight sizes bits box whole out
  gives out g = record {
    before = before;
    sets = sets;
    divided = record { rest = rest; first = first; divided = divided; are_sets = are };
    few = few;
    outs = g.gives.outs;
    one_each = g.gives.one_each ∙ g.spelled.one_each;
    each = λ k set one at there.
        let lt : k < length g.gives.outs = slice_get_within g.gives.outs k one there in
        let many = g.gives.one_each in
        let x = there_is g.inputs k (omega (arith, lt, many)) in
        let shows = subst (λ (e : Design). AreResultsOf t e x.0 one) is_flat (g.gives.each k x.0 one x.1 there) in
        let alone = other_data whole before rest first divided set.bytes.now in
        results_given before sizes bits box t a plan short wide h m x.0 one set.bytes.now (with_set before set) first alone (g.spelled.each k set x.0 at x.1) (g.are k x.0 x.1) shows;
    lines = g.gives.lines;
  }

  pub eight_given : (words : List (List ℕ)) {sink sink' : SinkState} {status : Status} → GiveSizes words sizes → IsAnswered (RefusesBadSet t sets) (GivesEightOf t design sets) sink sink' status
      → IsAnswered (RefusesEightWith words bits box whole) (GivesEightWith words bits box whole) sink sink' status
  eight_given words give (refused r put) =
      refused (record { sizes = sizes; give = give; refuses = bad_data r.fault (record { rest = rest; first = first; divided = divided; are_sets = are }) few m r.is r.told }) put
  eight_given words give (given {out} g put) = given (record { sizes = sizes; give = give; gives = gives out g }) put
  eight_given words give (no_memory x y) = no_memory x y
