-- Reading data from line to line, and to the end.
use Rattle.std.proofs.Common.{◌≡◌, ℕ, ◌+◌, ◌<◌, ◌≤◌, List, [], ◌∷◌, ◌++◌, length, drop, Option, Some, None, refl, sym, ap, ◌∙◌, subst, arith, append_assoc}
use Rattle.std.specs.Prelude.{Any, IsTrue}
use Rattle.std.specs.List.{position}
use Rattle.std.specs.Str.{bytes_eq}
use Rattle.std.proofs.lemmas.List.{append-nil, length-append}
use Rattle.std.proofs.lemmas.List.Elements.{All-nil}
use Rattle.std.proofs.Math.ListN.{drop_of_length-le}
use Rattle.av_tree.specs.Points.{Point}
use Rattle.av_tree.specs.Trees.{Text}
use Rattle.av_flat.specs.Trees.{FlatSystem}
use Rattle.av_data.specs.declared.fault.DataFault.{DataFault}
use Rattle.av_data.specs.declared.fault.DataFault.TheVariants.{DataSyntax, DataUnknown, DataOutside, DataTwice, DataMissing, Memory}
use Rattle.av_data.specs.Lines.{data_lines, parts_of}
use Rattle.av_data.specs.Reading.{first_line, line_size}
use Rattle.av_data.specs.Inputs.{word_at}
use Rattle.av_data.specs.Data.{filled, is_filled_by, Gives, Tells, IsLineFault, IsFirstFault}
use Rattle.av_data.specs.inner.ReadData.{names_in, HasRead, IsCause, IsRefused}
use Rattle.av_data.proofs.Turns.{line_left}
use Rattle.av_data.proofs.Worded.{none_some}

-- the lines before this byte are read
pub record AreTaken (s : FlatSystem) (first : ℕ) (bytes : List ℕ) (words : List ((ℕ × Point) × ℕ)) (line at : ℕ) : Type 0 where
  pub done : List (List ℕ)
  pub read : HasRead s done words
  pub whole : data_lines bytes ≡ done ++ data_lines (drop at bytes)
  pub number : line ≡ first + length done

no_word : (o : Option ℕ) (z : Point) (w : ℕ) → word_at [] o z ≡ Some w → ⊥
no_word None z w e = none_some e
no_word (Some p) z w e = none_some e

none_of : {X : Type 0} (P : X → Type 0) → Any P [] → ⊥
none_of P (k, x, lt, at, p) = omega (arith, lt)

none_read : (s : FlatSystem) → HasRead s [] []
none_read s = record {
  sound = record {
    each = All-nil (λ line. (name : Text) × (z : Point) × Tells s name z line);
    apart = λ i j d l m. absurd (omega (arith, m));
  };
  given = λ name z w. (
    λ e. absurd (no_word (position (bytes_eq name) (names_in s)) z w e),
    λ some. absurd (none_of (Gives s name z w) some),
  );
}

pub taken_none : (s : FlatSystem) (first : ℕ) (bytes : List ℕ) (words : List ((ℕ × Point) × ℕ)) → words ≡ [] → AreTaken s first bytes words first 0
taken_none s first bytes words e = subst (λ ws. AreTaken s first bytes ws first 0) (sym e) (record { done = []; read = none_read s; whole = refl; number = omega arith })

module _ (s : FlatSystem) (first : ℕ) (bytes : List ℕ) (words : List ((ℕ × Point) × ℕ)) (line at : ℕ) (so : AreTaken s first bytes words line at) where
  abbrev text : List ℕ
  text = first_line (drop at bytes)

  abbrev next : ℕ
  next = at + line_size (drop at bytes)

  split : at < length bytes → data_lines bytes ≡ so.done ++ (text ∷ data_lines (drop next bytes))
  split lt = so.whole ∙ ap (λ ls. so.done ++ ls) (line_left bytes at lt)

  pub taken_more : (words' : List ((ℕ × Point) × ℕ)) → at < length bytes → HasRead s (so.done ++ text ∷ []) words' → AreTaken s first bytes words' (line + 1) next
  taken_more words' lt read = record {
    done = so.done ++ text ∷ [];
    read = read;
    whole = split lt ∙ sym (append_assoc so.done (text ∷ []) (data_lines (drop next bytes)));
    number = let size = length-append so.done (text ∷ []) in omega (arith, size, so.number);
  }

  pub taken_all : length bytes ≤ at → HasRead s (data_lines bytes) words
  taken_all le =
      let e : data_lines bytes ≡ so.done = so.whole ∙ ap (λ bs. so.done ++ data_lines bs) (drop_of_length-le bytes le) ∙ append-nil so.done in
      subst (λ ls. HasRead s ls words) (sym e) so.read

  first_fault : (f : DataFault) → at < length bytes → IsTrue (is_filled_by (parts_of text)) → IsLineFault s (filled so.done) line text f → IsFirstFault s first (data_lines bytes) f
  first_fault f lt fill faulty = record {
    before = so.done;
    line = text;
    after = data_lines (drop next bytes);
    whole = split lt;
    sound = so.read.sound;
    is_filled = fill;
    faulty = subst (λ k. IsLineFault s (filled so.done) k text f) so.number faulty;
  }

  pub taken_fault : (f : DataFault) → at < length bytes → IsCause s so.done line text f → IsRefused s first bytes f
  taken_fault Memory lt cause = tt
  taken_fault (DataSyntax l) lt cause = first_fault (DataSyntax l) lt cause.0 cause.1
  taken_fault (DataUnknown l) lt cause = first_fault (DataUnknown l) lt cause.0 cause.1
  taken_fault (DataOutside l) lt cause = first_fault (DataOutside l) lt cause.0 cause.1
  taken_fault (DataTwice l) lt cause = first_fault (DataTwice l) lt cause.0 cause.1
  taken_fault (DataMissing name point) lt cause = first_fault (DataMissing name point) lt cause.0 cause.1
