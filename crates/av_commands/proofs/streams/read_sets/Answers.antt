use Rattle.std.proofs.Common.{◌≡◌, ◌+◌, ◌<◌, ◌∷◌, [], ◌∙◌, List, map, Some, All, length, get_or, ap, sym, subst, refl, arith, inl, inr}
use Rattle.std.specs.Prelude.{slice_get}
use Rattle.std.proofs.lemmas.List.{map-append}
use Rattle.std.proofs.lemmas.Option.{slice_get-get_or}
use Rattle.std.proofs.lemmas.List.Elements.{All-push}
use Rattle.av_base.proofs.Lists.{all_at}
use Rattle.av_flat.specs.Trees.{view_system}
use Rattle.av_flat.specs.OneSolution.{AreInputs}
use Rattle.av_data.specs.declared.fault.DataFault.{DataFault}
use Rattle.av_data.specs.declared.fault.DataFault.TheVariants as data_fault
use Rattle.av_data.specs.declared.sets.DataSet.{DataSet}
use Rattle.av_data.specs.Inputs.{InputWords, words_of}
use Rattle.av_commands.specs.Streams.{IsFirstBadSet}
use Rattle.av_commands.proofs.SetsRead.{read_more, all_read, first_bad, if_answered}
use Rattle.av_commands.proofs.streams.read_sets.Goals as goal

abbrev none : DataSet
none = record { bytes = record { ref_ptr = (0, 0); now = [] }; first_line = 0 }

pub read_data-requires-clause-lines : goal.read_data-requires-clause-lines
read_data-requires-clause-lines c =
    let sets = c.args.sets.now in
    let n = c.loop-set.set-index in
    let set = get_or sets n none in
    all_at (λ (other : DataSet). other.first_line + length other.bytes.now < 4294967295) sets n set c.requires.lines (slice_get-get_or sets n none c.loop-set-test.true)

pub returns-in_err-read_data-clause-fault : goal.returns-in_err-read_data-clause-fault
returns-in_err-read_data-clause-fault c =
    let s = view_system c.args.flat.now in
    let sets = c.args.sets.now in
    let n = c.loop-set.set-index in
    let set = get_or sets n none in
    let f = c.in_err-read_data.field-0.0 in
    let there : slice_get sets n ≡ Some set = slice_get-get_or sets n none c.loop-set-test.true in
    if_answered (λ (g : DataFault). (g ≡ data_fault.Memory → ⊥) → IsFirstBadSet s sets g) c.from_residual.result f c.from_residual.ensures.1
    (λ some. elim (c.in_err-read_data.ensures.fault f refl) [
      | inl memory ↦ absurd (some memory)
      | inr is ↦ first_bad s sets n (map words_of c.loop-set.inputs) set f c.requires.chained c.loop-set.invariant.read there is
    ])

pub returns-in_err-push-clause-fault : goal.returns-in_err-push-clause-fault
returns-in_err-push-clause-fault c =
    if_answered (λ (g : DataFault). (g ≡ data_fault.Memory → ⊥) → IsFirstBadSet (view_system c.args.flat.now) c.args.sets.now g) c.from_residual-in_err-push.result data_fault.Memory c.from_residual-in_err-push.ensures.1
    (λ some. absurd (some refl))

pub loop-set-preserved : goal.loop-set-preserved
loop-set-preserved c =
    let s = view_system c.args.flat.now in
    let sets = c.args.sets.now in
    let n = c.loop-set.set-index in
    let set = get_or sets n none in
    let there : slice_get sets n ≡ Some set = slice_get-get_or sets n none c.loop-set-test.true in
    let inputs = c.loop-set.inputs in
    let read = c.in_ok-read_data.field-0 in
    record {
      read = read_more s sets n (map words_of inputs) (map words_of c.push.new.self) set (words_of read) c.loop-set.invariant.read there c.in_ok-read_data.ensures.found
          (ap (map words_of) c.in_ok-push.ensures.ok ∙ map-append words_of inputs (read ∷ []));
      words = subst (λ (xs : List InputWords). All (λ (x : InputWords). AreInputs s (words_of x)) xs) (sym c.in_ok-push.ensures.ok)
          (All-push (λ (x : InputWords). AreInputs s (words_of x)) inputs read c.loop-set.invariant.words c.in_ok-read_data.ensures.inputs);
    }

pub returns-clause-spelled : goal.returns-clause-spelled
returns-clause-spelled c =
    let end = c.loop-set.auto.set-index-end in
    let test = c.loop-set-test.false in
    all_read (view_system c.args.flat.now) c.args.sets.now c.loop-set.set-index (map words_of c.loop-set.inputs) (omega (arith, end, test)) c.loop-set.invariant.read
