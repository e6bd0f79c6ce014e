-- Results that are written line by line.
use Rattle.std.proofs.Common.{◌≡◌, ℕ, zero, suc, ◌+◌, ◌<◌, ◌≤◌, Bool, true, false, List, [], ◌∷◌, ◌++◌, length, take, get_or, Option, refl, sym, ap, ◌∙◌, subst, arith, append_assoc}
use Rattle.std.specs.Prelude.{if◌then◌else◌}
use Rattle.std.proofs.lemmas.List.{append-nil, take_all}
use Rattle.std.proofs.Math.Seq.{take-append-add}
use Rattle.av_base.specs.declared.word.Word.{Word}
use Rattle.av_base.specs.Outside.{Adds, AddsPrefix}
use Rattle.av_base.proofs.Moves.{Adds-more}
use Rattle.av_net.specs.declared.design.Entry.{Entry}
use Rattle.av_data.specs.Results.{result_line}
use Rattle.av_commands.specs.Runs.{results}
use Rattle.av_commands.specs.inner.Watching.{bits_of}

-- what one line adds
abbrev pub told_of : (Entry → Bool) → Entry → ℕ → List ℕ
told_of is line word = if is line then result_line line.variable line.point word else []

-- the results of the first k lines
abbrev pub first_results : (Entry → Bool) → ℕ → List Entry → List ℕ → List ℕ
first_results is k lines words = results is (take k lines) (take k words)

pub results_more : (is : Entry → Bool) (k : ℕ) (lines : List Entry) (words : List ℕ) (line : Entry) (word : ℕ) → k < length lines → length words ≡ length lines → line ≡ get_or lines k line → word ≡ get_or words k word
    → first_results is (suc k) lines words ≡ first_results is k lines words ++ told_of is line word
results_more is k [] words line word lt long a b = absurd (omega (arith, lt))
results_more is k (l ∷ lines) [] line word lt long a b = absurd (omega (arith, long))
results_more is zero (l ∷ lines) (w ∷ words) line word lt long a b = append-nil (told_of is l w) ∙ ap (λ (x : Entry). told_of is x w) (sym a) ∙ ap (told_of is line) (sym b)
results_more is (suc k) (l ∷ lines) (w ∷ words) line word lt long a b =
    ap (λ z. told_of is l w ++ z) (results_more is k lines words line word (omega (arith, lt)) (omega (arith, long)) a b) ∙ sym (append_assoc (told_of is l w) (first_results is k lines words) (told_of is line word))

-- and what follows them
pub results_split : (is : Entry → Bool) (k : ℕ) (lines : List Entry) (words : List ℕ) → length words ≡ length lines → (rest : List ℕ) × (results is lines words ≡ first_results is k lines words ++ rest)
results_split is zero lines words long = (results is lines words, refl)
results_split is (suc k) [] [] long = ([], refl)
results_split is (suc k) [] (w ∷ words) long = absurd (omega (arith, long))
results_split is (suc k) (l ∷ lines) [] long = absurd (omega (arith, long))
results_split is (suc k) (l ∷ lines) (w ∷ words) long =
    let (rest, e) = results_split is k lines words (omega (arith, long)) in
    (rest, ap (λ z. told_of is l w ++ z) e ∙ sym (append_assoc (told_of is l w) (first_results is k lines words) rest))

module _ (is : Entry → Bool) (k : ℕ) (lines : List Entry) (words : List ℕ) (line : Entry) (word : ℕ) (lt : k < length lines) (long : length words ≡ length lines) (here : line ≡ get_or lines k line) (value : word ≡ get_or words k word)
    (held held' held'' : Option (List ℕ)) (so : Adds held held' (first_results is k lines words)) where
  next : suc k ≡ k + 1
  next = omega arith

  -- one line more was written, or none had to be
  pub line_told : is line ≡ true → Adds held' held'' (result_line line.variable line.point word) → Adds held held'' (first_results is (k + 1) lines words)
  line_told yes_is adds =
      let one : told_of is line word ≡ result_line line.variable line.point word = ap (λ (t : Bool). if t then result_line line.variable line.point word else []) yes_is in
      let all : first_results is (k + 1) lines words ≡ first_results is k lines words ++ result_line line.variable line.point word =
      ap (λ n. first_results is n lines words) (sym next) ∙ results_more is k lines words line word lt long here value ∙ ap (λ z. first_results is k lines words ++ z) one in
      subst (Adds held held'') (sym all) (Adds-more held held' held'' (first_results is k lines words) (result_line line.variable line.point word) so adds)

  pub line_passed : is line ≡ false → Adds held held' (first_results is (k + 1) lines words)
  line_passed no_is =
      let one : told_of is line word ≡ [] = ap (λ (t : Bool). if t then result_line line.variable line.point word else []) no_is in
      let all : first_results is (k + 1) lines words ≡ first_results is k lines words =
      ap (λ n. first_results is n lines words) (sym next) ∙ results_more is k lines words line word lt long here value ∙ ap (λ z. first_results is k lines words ++ z) one ∙ append-nil (first_results is k lines words) in
      subst (Adds held held') (sym all) so

  -- a front of the line was written
  pub line_failed : is line ≡ true → AddsPrefix held' held'' (result_line line.variable line.point word) → AddsPrefix held held'' (results is lines words)
  line_failed yes_is (n, adds) =
      let text = result_line line.variable line.point word in
      let before = first_results is k lines words in
      let one : told_of is line word ≡ text = ap (λ (t : Bool). if t then text else []) yes_is in
      let (rest, split) = results_split is (suc k) lines words long in
      let all : results is lines words ≡ before ++ (text ++ rest) =
      split ∙ ap (λ z. z ++ rest) (results_more is k lines words line word lt long here value ∙ ap (λ z. before ++ z) one) ∙ append_assoc before text rest in
      let front : take (length before + length (take n text)) (before ++ (text ++ rest)) ≡ before ++ take n text = take-append-add before (text ++ rest) (length (take n text)) ∙ ap (λ z. before ++ z) (begins n text rest) in
      (length before + length (take n text), subst (Adds held held'') (sym front ∙ ap (take (length before + length (take n text))) (sym all)) (Adds-more held held' held'' before (take n text) so adds))
    where
      begins : (n : ℕ) (line rest : List ℕ) → take (length (take n line)) (line ++ rest) ≡ take n line
      begins zero line rest = refl
      begins (suc n) [] rest = refl
      begins (suc n) (b ∷ line) rest = ap (λ (z : List ℕ). b ∷ z) (begins n line rest)

pub all_told : (is : Entry → Bool) (k : ℕ) (lines : List Entry) (words : List ℕ) → length lines ≤ k → length words ≡ length lines → first_results is k lines words ≡ results is lines words
all_told is k lines words le long = ap (λ (ls : List Entry). results is ls (take k words)) (take_all k lines le) ∙ ap (results is lines) (take_all k words (omega (arith, le, long)))

-- the word at a place
pub word_at : (words : List Word) (k : ℕ) (d : Word) → k < length words → (get_or words k d).bits ≡ get_or (bits_of words) k ((get_or words k d).bits)
word_at [] k d lt = absurd (omega (arith, lt))
word_at (w ∷ words) zero d lt = refl
word_at (w ∷ words) (suc k) d lt = word_at words k d (omega (arith, lt))
