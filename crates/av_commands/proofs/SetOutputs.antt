-- What it comes to when the results of several sets are put into a sink.
use Rattle.std.proofs.Common.{◌≡◌, ℕ, List, Some, slice_get, length, map, refl, sym, ap, ◌∙◌, subst, arith, inl, inr}
use Rattle.std.specs.Prelude.{All}
use Rattle.std.proofs.lemmas.Option.{slice_get_within}
use Rattle.std.proofs.lemmas.List.{length-map}
use Rattle.av_base.specs.declared.word.Word.{Word}
use Rattle.av_base.specs.Outside.{SinkState, Adds, AddsPrefix, HasRisen}
use Rattle.av_base.proofs.Lists.{there_is}
use Rattle.av_flat.specs.declared.timed.Timed.{Timed}
use Rattle.av_flat.specs.Trees.{view_system}
use Rattle.av_tree.specs.Values.{Assignment}
use Rattle.av_net.specs.declared.design.Design.{Design}
use Rattle.av_net.specs.declared.design.Entry.{Entry}
use Rattle.av_space.proofs.ByPlace.{from_map, all_by_place}
use Rattle.av_data.specs.Inputs.{InputWords, words_of}
use Rattle.av_commands.specs.declared.status.Status.TheVariants.{Done, WriteFault}
use Rattle.av_commands.specs.Eights.{set_lines}
use Rattle.av_commands.specs.Runs.{results}
use Rattle.av_commands.specs.Shown.{AreShown}
use Rattle.av_commands.specs.inner.Eighting.{AreResultsOfSets, result_texts}
use Rattle.av_commands.specs.Written.{PutsOneOf, puts}
use Rattle.av_commands.specs.inner.Reported.{AreResultsOf, names_output}
use Rattle.av_commands.specs.inner.Watching.{bits_of}
use Rattle.av_commands.proofs.Outputs.{shown_long}

-- for each set the words of its lane are shown
abbrev pub AreShownEach : Design → List InputWords → List (List Word) → Type 0
AreShownEach d inputs columns = (k : ℕ) (x : InputWords) (words : List Word) → slice_get inputs k ≡ Some x → slice_get columns k ≡ Some words → AreShown d (words_of x) (bits_of words)

-- a word is shown for each line
pub all_long : (d : Design) (inputs : List InputWords) (columns cs : List (List Word)) (lines : List Entry) → cs ≡ columns → lines ≡ d.listing.ats → length columns ≡ length inputs → AreShownEach d inputs columns
    → All (λ words. length words ≡ length lines) cs
all_long d inputs columns cs lines same list count shown =
    subst (λ (ws : List (List Word)). All (λ (words : List Word). length words ≡ length lines) ws) (sym same)
    (all_by_place (λ (words : List Word). length words ≡ length lines) columns (λ k words at.
    let x = there_is inputs k (let lt = slice_get_within columns k words at in omega (arith, lt, count)) in
    shown_long d (words_of x.0) words (shown k x.0 words x.1 at) ∙ ap length (sym list)))

module _ (t : Timed) (d : Design) (inputs : List InputWords) (columns cs : List (List Word)) (lines : List Entry) (same : cs ≡ columns) (list : lines ≡ d.listing.ats) (count : length columns ≡ length inputs) (shown : AreShownEach d inputs columns) where
  texts_are : result_texts (view_system t.flat) lines cs ≡ result_texts (view_system t.flat) d.listing.ats columns
  texts_are = ap (λ (ls : List Entry). result_texts (view_system t.flat) ls cs) list ∙ ap (result_texts (view_system t.flat) d.listing.ats) same

  -- the results of the sets
  told : AreResultsOfSets t d (map words_of inputs) (set_lines 1 (result_texts (view_system t.flat) lines cs))
  told = record {
    outs = result_texts (view_system t.flat) d.listing.ats columns;
    one_each = length-map columns text ∙ count ∙ sym (length-map inputs words_of);
    each = λ k x one at there. of_one k x one (from_map words_of inputs k x at) (from_map text columns k one there);
    lines = ap (set_lines 1) texts_are;
  }
    where
      text : List Word → List ℕ
      text words = results (λ line. names_output (view_system t.flat) line.variable) d.listing.ats (bits_of words)

      of_one : (k : ℕ) (x : Assignment) (one : List ℕ) → (y : InputWords) × (slice_get inputs k ≡ Some y) × (words_of y ≡ x) → (words : List Word) × (slice_get columns k ≡ Some words) × (text words ≡ one) → AreResultsOf t d x one
      of_one k x one (y, at, is) (words, there, are) = record {
        words = bits_of words;
        shown = subst (λ (z : Assignment). AreShown d z (bits_of words)) is (shown k y words at there);
        lines = sym are;
      }

  pub sets_put : {sink sink' : SinkState} → Adds sink.held sink'.held (set_lines 1 (result_texts (view_system t.flat) lines cs)) → PutsOneOf (AreResultsOfSets t d (map words_of inputs)) sink sink' Done
  sets_put adds = puts told (record { ends = inl (refl, adds) })

  pub sets_failed : {sink sink' : SinkState} → HasRisen sink.faults sink'.faults → AddsPrefix sink.held sink'.held (set_lines 1 (result_texts (view_system t.flat) lines cs)) → PutsOneOf (AreResultsOfSets t d (map words_of inputs)) sink sink' WriteFault
  sets_failed risen adds = puts told (record { ends = inr (refl, risen, adds) })
