-- Bytes that are read line by line, and what is answered then.
use Rattle.std.proofs.Common.{◌≡◌, ℕ, suc, ◌+◌, ◌-◌, ◌<◌, ◌≤◌, List, [], ◌∷◌, length, take, drop, Bool, true, false, not, cond, refl, sym, ◌∙◌, ap, arith, subst, length-drop}
use Rattle.std.specs.Prelude.{Result, Ok, Err, if◌then◌else◌, nat_eq, Option, Some, None, IfSome}
use Rattle.std.specs.List.{prefix_len}
use Rattle.std.proofs.lemmas.List.{drop-drop}
use Rattle.std.proofs.lemmas.Option.{none-some, same_Some}
use Rattle.av_base.specs.Spelling.{is_not_feed}
use Rattle.av_wave.specs.declared.stage.Stage.{Stage}
use Rattle.av_wave.specs.declared.fault.WaveFault.{WaveFault}
use Rattle.av_wave.specs.declared.fault.WaveFault.TheVariants.{WaveSyntax}
use Rattle.av_wave.specs.Waves.{Recording, IsWave}
use Rattle.av_wave.specs.Dumps.{dump_text}
use Rattle.av_wave.specs.Fronts.{whole_lines, IsWaveFault}
use Rattle.av_wave.specs.inner.Lines.{first_line}
use Rattle.av_wave.specs.inner.Stages.{Takes, Turns, EndsAs, Knows}
use Rattle.av_wave.proofs.Ends.{to_end}
use Rattle.av_wave.proofs.Lines.{next_line, line_some, line_within}
use Rattle.av_wave.proofs.Faults.{IsRead, read_on, fault_here, fault_at_end, fault_once, read_is_wave, read_whole, found_only}

-- ---- the first line

pub first_whole : (text : List ℕ) (len : ℕ) → len ≡ prefix_len is_not_feed text → len < length text → take (len + 1) text ≡ first_line text
first_whole text len is lt = by text len is lt
  where
    by : (text : List ℕ) (len : ℕ) → len ≡ prefix_len is_not_feed text → len < length text → take (len + 1) text ≡ first_line text
    by [] len is lt = absurd (omega arith)
    by (b ∷ bytes) len is lt = by_test (nat_eq b 10) len is lt (λ n e within. by bytes n e within)
      where
        by_test : (t : Bool) (len : ℕ) → len ≡ cond (not t) (1 + prefix_len is_not_feed bytes) 0 → len < suc (length bytes)
            → ((n : ℕ) → n ≡ prefix_len is_not_feed bytes → n < length bytes → take (n + 1) bytes ≡ first_line bytes)
            → take (len + 1) (b ∷ bytes) ≡ (if t then b ∷ [] else b ∷ first_line bytes)
        by_test true len is lt rest = ap (λ n. take (n + 1) (b ∷ bytes)) is
        by_test false len is lt rest =
            let n = prefix_len is_not_feed bytes in
            let more : len + 1 ≡ suc (n + 1) = omega arith in
            ap (λ k. take k (b ∷ bytes)) more ∙ ap (λ ys. b ∷ ys) (rest n refl (omega arith))

pub first_all : (text : List ℕ) (len : ℕ) → len ≡ prefix_len is_not_feed text → length text ≤ len → text ≡ first_line text
first_all text len is le = by text len is le
  where
    by : (text : List ℕ) (len : ℕ) → len ≡ prefix_len is_not_feed text → length text ≤ len → text ≡ first_line text
    by [] len is le = refl
    by (b ∷ bytes) len is le = by_test (nat_eq b 10) len is le (λ n e within. by bytes n e within)
      where
        by_test : (t : Bool) (len : ℕ) → len ≡ cond (not t) (1 + prefix_len is_not_feed bytes) 0 → suc (length bytes) ≤ len
            → ((n : ℕ) → n ≡ prefix_len is_not_feed bytes → length bytes ≤ n → bytes ≡ first_line bytes)
            → b ∷ bytes ≡ (if t then b ∷ [] else b ∷ first_line bytes)
        by_test true len is le rest = absurd (omega arith)
        by_test false len is le rest = let n = prefix_len is_not_feed bytes in ap (λ ys. b ∷ ys) (rest n refl (omega arith))

-- ---- the line at a place

pub record IsLineAt (bytes : List ℕ) (at : ℕ) (text : List ℕ) : Type 0 where
  pub next : whole_lines (drop at bytes) ≡ text ∷ whole_lines (drop (at + length text) bytes)
  pub some : 0 < length text
  pub within : at + length text ≤ length bytes

pub line_at : (bytes text : List ℕ) (at : ℕ) → at < length bytes → text ≡ first_line (take (length bytes - at) (drop at bytes)) → IsLineAt bytes at text
line_at bytes text at lt is =
    let rest = drop at bytes in
    let first : text ≡ first_line rest = is ∙ ap first_line (to_end bytes at) in
    let size : length rest ≡ length bytes - at = length-drop at bytes in
    let count : length text ≡ length (first_line rest) = ap length first in
    let some : 0 < length (first_line rest) = line_some rest (omega arith) in
    let few : length (first_line rest) ≤ length rest = line_within rest in
    record {
      next = next_line rest (omega arith) ∙ ap (λ line. line ∷ whole_lines (drop (length line) rest)) (sym first) ∙ ap (λ more. text ∷ whole_lines more) (drop-drop (length text) at bytes);
      some = omega arith;
      within = omega arith;
    }

-- where the lines are numbered
pub line_small : {bytes : List ℕ} {at line : ℕ} {s : Stage} → IsRead bytes at line s → at < length bytes → length bytes < 4294967295 → line + 1 < 4294967296
line_small read lt most = omega (arith, read.count, read.few)

pub line_taken : (bytes text : List ℕ) (at line : ℕ) (s t : Stage) → IsRead bytes at line s → IsLineAt bytes at text → Takes s text t → IsRead bytes (at + length text) (line + 1) t
line_taken bytes text at line s t read here takes = read_on bytes at line (length text) s t text read here.next here.some takes

-- ---- what a line was taken for

pub taken : (o : Option Stage) (s t : Stage) (text : List ℕ) → o ≡ Some t → Turns s text (Ok o) → Takes s text t
taken None s t text e turns = absurd (none-some t e)
taken (Some u) s t text e turns = subst (λ (x : Stage). Takes s text x) (same_Some u t e) turns

pub not_taken : (o : Option Stage) (s : Stage) (text : List ℕ) → ((t : Stage) → o ≡ Some t → ⊥) → Turns s text (Ok o) → (t : Stage) → Takes s text t → ⊥
not_taken None s text none turns = turns
not_taken (Some u) s text none turns = absurd (none u refl)

pub known : (o : Option Stage) (t : Stage) (names : List (List ℕ)) → o ≡ Some t → IfSome o (λ stage. Knows stage names) → Knows t names
known None t names e knows = absurd (none-some t e)
known (Some u) t names e knows = subst (λ (x : Stage). Knows x names) (same_Some u t e) knows

-- ---- answers

-- what holds where a fault is answered
pub record AnswersFault (bytes : List ℕ) (line : ℕ) : Type 0 where
  pub only : (wave : Recording) → IsWave wave → bytes ≡ dump_text wave → ⊥
  pub fault : (other : ℕ) → ◌≡◌ {A = Result Recording WaveFault} (Err (WaveSyntax line)) (Err (WaveSyntax other)) → IsWaveFault bytes other
  pub refused : (other : ℕ) → IsWaveFault bytes other → line ≡ other

pub answers_fault : (bytes : List ℕ) (line : ℕ) → IsWaveFault bytes line → AnswersFault bytes line
answers_fault bytes line is = record {
  only = is.none;
  fault = λ other e. subst (IsWaveFault bytes) (let same : line ≡ other = cc in same) is;
  refused = λ other two. fault_once bytes line other is two;
}

pub faulty : (bytes text : List ℕ) (at line : ℕ) (s : Stage) → IsRead bytes at line s → IsLineAt bytes at text → ((t : Stage) → Takes s text t → ⊥) → AnswersFault bytes line
faulty bytes text at line s read here none = answers_fault bytes line (fault_here bytes at line s text (whole_lines (drop (at + length text) bytes)) read here.next none)

pub faulty_end : (bytes : List ℕ) (at line : ℕ) (s : Stage) → IsRead bytes at line s → length bytes ≤ at → ((w : Recording) → EndsAs s w → ⊥) → AnswersFault bytes line
faulty_end bytes at line s read end none = answers_fault bytes line (fault_at_end bytes at line s read end none)

-- what holds where a wave is answered
pub record AnswersWave (bytes : List ℕ) (wave : Recording) : Type 0 where
  pub is : IsWave wave
  pub found : bytes ≡ dump_text wave
  pub only : (other : Recording) → IsWave other → bytes ≡ dump_text other → wave ≡ other
  pub refused : (line : ℕ) → IsWaveFault bytes line → ⊥

pub answers_wave : (bytes : List ℕ) (at line : ℕ) (s : Stage) (wave : Recording) → IsRead bytes at line s → length bytes ≤ at → EndsAs s wave → AnswersWave bytes wave
answers_wave bytes at line s wave read end ends =
    let is = read_is_wave bytes at line s wave read end ends in
    let text = read_whole bytes at line s wave read end ends in
    record {
      is = is;
      found = text;
      only = λ other other_is e. found_only bytes wave other is text other_is e;
      refused = λ n fault. fault.none wave is text;
    }
