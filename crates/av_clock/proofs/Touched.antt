-- What a settle computes is marked, or reads a word that changes.
use Rattle.std.proofs.Common.{◌≡◌, ◌≢◌, ℕ, zero, suc, ◌+◌, ◌<◌, ◌≤◌, Bool, true, false, not, ◌&&◌, ◌||◌, if◌then◌else◌, List, [], ◌∷◌, length, get_or, set, replicate, slice_get, Some, refl, sym, ap, ◌∙◌, arith, inl, inr}
use Rattle.std.proofs.lemmas.Bool.{eqb-true, eq-eqb}
use Rattle.std.proofs.lemmas.List.{get_or_default}
use Rattle.std.proofs.lemmas.Option.{slice_get_cases}
use Rattle.av_net.specs.declared.operation.Operand.{Operand}
use Rattle.av_net.specs.declared.operation.Operand.TheVariants.{Name, Literal}
use Rattle.av_net.specs.declared.operation.Operation.{Operation}
use Rattle.av_net.specs.declared.operation.Operation.TheVariants.{Plain, Binary, Signed, Choose, Part, Widen}
use Rattle.av_net.specs.declared.netlist.Drive.{Drive}
use Rattle.av_net.specs.declared.netlist.Module.{Module}
use Rattle.av_net.specs.Meaning.{Words, word_of, EachOperand}
use Rattle.av_net.specs.Names.{all_names}
use Rattle.av_net.specs.Sound.{IsSound}
use Rattle.av_net.proofs.Ordered.{each_weaker}
use Rattle.av_net.proofs.Settles.{with_word, with_word_same, names_distinct}
use Rattle.av_clock.specs.Named.{named}
use Rattle.av_clock.specs.Marked.{IsClear, has_kept, reads_same, touched}
use Rattle.av_clock.specs.Marking.{IsSet, KeepsWord, AreTouched}
use Rattle.av_clock.specs.Readers.{IsOther}
use Rattle.av_clock.proofs.Lookup.{look_at, look_set, same_or_not}
use Rattle.av_clock.proofs.Held.{SettlesMarked, targets_apart}
use Rattle.av_clock.proofs.Marking.{never}
use Rattle.av_clock.proofs.Readings.{name_at}

-- ---- operands that keep their words

both : (a b : Bool) → (a && b) ≡ true → (a ≡ true) × (b ≡ true)
both true b e = (refl, e)
both false b e = absurd cc

kept : (v w : Words) (a : Operand) → has_kept v w a ≡ true → KeepsWord v w a
kept v w a e = eqb-true (word_of v a) (word_of w a) e

pub each_kept : (v w : Words) (operation : Operation) → reads_same v w operation ≡ true → EachOperand (KeepsWord v w) operation
each_kept v w (Plain a) e = kept v w a e
each_kept v w (Binary a symbol b) e = let h = both (has_kept v w a) (has_kept v w b) e in (kept v w a h.0, kept v w b h.1)
each_kept v w (Signed a symbol b) e = let h = both (has_kept v w a) (has_kept v w b) e in (kept v w a h.0, kept v w b h.1)
each_kept v w (Choose c a b) e =
    let h = both (has_kept v w c) (has_kept v w a && has_kept v w b) e in
    let k = both (has_kept v w a) (has_kept v w b) h.1 in
    (kept v w c h.0, kept v w a k.0, kept v w b k.1)
each_kept v w (Part name high low) e = kept v w (Name name) e
each_kept v w (Widen name by) e = kept v w (Name name) e

joined : (a b : Bool) → a ≡ true → b ≡ true → (a && b) ≡ true
joined true b e f = f
joined false b e f = absurd cc

keeps : (v w : Words) (a : Operand) → KeepsWord v w a → has_kept v w a ≡ true
keeps v w a e = eq-eqb (word_of v a) (word_of w a) e

pub same_read : (v w : Words) (operation : Operation) → EachOperand (KeepsWord v w) operation → reads_same v w operation ≡ true
same_read v w (Plain a) h = keeps v w a h
same_read v w (Binary a symbol b) h = joined (has_kept v w a) (has_kept v w b) (keeps v w a h.0) (keeps v w b h.1)
same_read v w (Signed a symbol b) h = joined (has_kept v w a) (has_kept v w b) (keeps v w a h.0) (keeps v w b h.1)
same_read v w (Choose c a b) h = joined (has_kept v w c) (has_kept v w a && has_kept v w b) (keeps v w c h.0) (joined (has_kept v w a) (has_kept v w b) (keeps v w a h.1) (keeps v w b h.2))
same_read v w (Part name high low) h = keeps v w (Name name) h
same_read v w (Widen name by) h = keeps v w (Name name) h

-- ---- words that change once

-- what is as it was in the end was so before
abbrev pub Extends : Words → Words → Words → Type 0
Extends v w w' = (name : List ℕ) → v name ≡ w' name → v name ≡ w name

kept_before : (v w w' : Words) → Extends v w w' → (operation : Operation) → EachOperand (KeepsWord v w') operation → EachOperand (KeepsWord v w) operation
kept_before v w w' more = each_weaker (KeepsWord v w') (KeepsWord v w) by
  where
    by : (a : Operand) → KeepsWord v w' a → KeepsWord v w a
    by (Name name) e = more name e
    by (Literal width value) e = refl

kept_between : (v w w' : Words) → Extends v w w' → (operation : Operation) → EachOperand (KeepsWord v w') operation → EachOperand (KeepsWord w w') operation
kept_between v w w' more = each_weaker (KeepsWord v w') (KeepsWord w w') by
  where
    by : (a : Operand) → KeepsWord v w' a → KeepsWord w w' a
    by (Name name) e = sym (more name e) ∙ e
    by (Literal width value) e = refl

-- an operation whose operands keep their words, where one name does not, does not read that
pub kept_others : (v w : Words) (name : List ℕ) → v name ≢ w name → (operation : Operation) → EachOperand (KeepsWord v w) operation → EachOperand (IsOther name) operation
kept_others v w name changed = each_weaker (KeepsWord v w) (IsOther name) by
  where
    by : (a : Operand) → KeepsWord v w a → IsOther name a
    by (Name other) e = λ same. changed (sym (ap v same) ∙ e ∙ ap w same)
    by (Literal width value) e = tt

-- ---- how many of the first drives are touched

abbrev one : Bool → Bool → ℕ
one mark same = if mark || not same then 1 else 0

abbrev pub seen : Words → Words → List Drive → List Bool → ℕ → ℕ
seen v w drives marks zero = 0
seen v w (drive ∷ drives) (mark ∷ marks) (suc n) = one mark (reads_same v w drive.operation) + seen v w drives marks n
seen v w _ _ (suc n) = 0

pub seen_all : (v w : Words) (drives : List Drive) (marks : List Bool) (n : ℕ) → length drives ≤ n → seen v w drives marks n ≡ touched v w drives marks
seen_all v w [] marks zero le = refl
seen_all v w [] marks (suc n) le = refl
seen_all v w (drive ∷ drives) marks zero le = absurd (omega (arith, le))
seen_all v w (drive ∷ drives) [] (suc n) le = refl
seen_all v w (drive ∷ drives) (mark ∷ marks) (suc n) le = ap (λ k. one mark (reads_same v w drive.operation) + k) (seen_all v w drives marks n (omega (arith, le)))

-- no fewer of more
seen_longer : (v w : Words) (drives : List Drive) (marks : List Bool) (m n : ℕ) → m ≤ n → seen v w drives marks m ≤ seen v w drives marks n
seen_longer v w drives marks zero n le = omega arith
seen_longer v w drives marks (suc m) zero le = absurd (omega (arith, le))
seen_longer v w [] marks (suc m) (suc n) le = omega arith
seen_longer v w (drive ∷ drives) [] (suc m) (suc n) le = omega arith
seen_longer v w (drive ∷ drives) (mark ∷ marks) (suc m) (suc n) le = let more = seen_longer v w drives marks m n (omega (arith, le)) in omega (arith, more)

one_more : (mark a b : Bool) → (b ≡ true → a ≡ true) → one mark a ≤ one mark b
one_more true a b h = omega arith
one_more false true true h = omega arith
one_more false true false h = omega arith
one_more false false true h = absurd (let e : false ≡ true = h refl in cc)
one_more false false false h = omega arith

-- nor where more words have changed
seen_later : (v w w' : Words) → Extends v w w' → (drives : List Drive) (marks : List Bool) (n : ℕ) → seen v w drives marks n ≤ seen v w' drives marks n
seen_later v w w' more drives marks zero = omega arith
seen_later v w w' more [] marks (suc n) = omega arith
seen_later v w w' more (drive ∷ drives) [] (suc n) = omega arith
seen_later v w w' more (drive ∷ drives) (mark ∷ marks) (suc n) =
    let rest = seen_later v w w' more drives marks n in
    let first = one_more mark (reads_same v w drive.operation) (reads_same v w' drive.operation) (λ e. same_read v w drive.operation (kept_before v w w' more drive.operation (each_kept v w' drive.operation e))) in
    omega (arith, rest, first)

one_touched : (mark same : Bool) → (mark ≡ false → same ≡ true → ⊥) → one mark same ≡ 1
one_touched true same h = refl
one_touched false true h = absurd (h refl refl)
one_touched false false h = refl

-- one more, where the next one is touched
seen_next : (v w : Words) (drives : List Drive) (marks : List Bool) (n : ℕ) (d : Drive) → n < length drives → n < length marks
    → (IsClear marks n → reads_same v w (get_or drives n d).operation ≡ true → ⊥) → seen v w drives marks n + 1 ≤ seen v w drives marks (suc n)
seen_next v w [] marks n d lt few h = absurd (omega (arith, lt))
seen_next v w (drive ∷ drives) [] n d lt few h = absurd (omega (arith, few))
seen_next v w (drive ∷ drives) (mark ∷ marks) zero d lt few h = let e = one_touched mark (reads_same v w drive.operation) h in omega (arith, e)
seen_next v w (drive ∷ drives) (mark ∷ marks) (suc n) d lt few h = let more = seen_next v w drives marks n d (omega (arith, lt)) (omega (arith, few)) h in omega (arith, more)

-- all, where all are marked
pub all_touched : (v w : Words) (drives : List Drive) → touched v w drives (replicate (length drives) true) ≡ length drives
all_touched v w [] = refl
all_touched v w (drive ∷ drives) = let rest = all_touched v w drives in omega (arith, rest)

-- ---- drive by drive

-- the drives from this one on are not written yet, those that are not touched are clear, and no more are computed than are touched
-- before it
pub record SettlesTouched (m : Module) (before words : List ℕ) (old stale : List Bool) (drive count : ℕ) : Type 0 where
  pub ahead : (k : ℕ) (d : Drive) → drive ≤ k → k < length m.drives → named m words (get_or m.drives k d).target ≡ named m before (get_or m.drives k d).target
  pub clear : AreTouched m before words old stale
  pub few : count ≤ seen (named m before) (named m words) m.drives old drive

-- the marked drives before this one are computed, no more than are touched and none before the first that is marked
pub record SettlesAll (m : Module) (before words : List ℕ) (old stale due : List Bool) (drive count : ℕ) : Type 0 where
  pub marked : SettlesMarked m before words stale due drive count
  pub alone : (k : ℕ) → k ≤ length m.drives → ((j : ℕ) → j < k → IsClear old j) → count + k ≤ drive
  pub touched : SettlesTouched m before words old stale drive count

module _ (m : Module) (before words words' : List ℕ) (old stale stale' : List Bool) (drive next count : ℕ) (sound : IsSound m) (lt : drive < length m.drives) (there : drive < length stale) (marks : length old ≡ length m.drives)
    (marked : IsSet stale drive) (are : AreTouched m words words' stale stale') (others : (d : Drive) (name : List ℕ) → name ≢ (get_or m.drives drive d).target → named m words' name ≡ named m words name) (later : drive + 1 ≤ next)
    (so_far : SettlesTouched m before words old stale drive count) where
  abbrev v : Words
  v = named m before

  abbrev w : Words
  w = named m words

  abbrev w' : Words
  w' = named m words'

  -- a name that is written now was not written before
  once : (own : Drive) → own ≡ get_or m.drives drive own → Extends v w w'
  once own at name e = elim (same_or_not name own.target) [
    | inl same ↦ ap v same ∙ sym (ap (λ (d : Drive). w d.target) at ∙ so_far.ahead drive own (omega arith) lt ∙ ap (λ (d : Drive). v d.target) (sym at)) ∙ ap w (sym same)
    | inr other ↦ e ∙ others own name (λ same. other (same ∙ ap (λ (d : Drive). d.target) (sym at)))
  ]

  ahead_still : (own : Drive) → own ≡ get_or m.drives drive own → (k : ℕ) (d : Drive) → next ≤ k → k < length m.drives → w' (get_or m.drives k d).target ≡ v (get_or m.drives k d).target
  ahead_still own at k d le below =
      let other : (get_or m.drives k d).target ≢ own.target = targets_apart m k drive d own sound below lt at (λ e. absurd (omega (arith, e, le, later))) in
      others own (get_or m.drives k d).target (λ same. other (same ∙ ap (λ (x : Drive). x.target) (sym at))) ∙ so_far.ahead k d (omega (arith, le, later)) below

  clear_still : (own : Drive) → own ≡ get_or m.drives drive own → AreTouched m before words' old stale'
  clear_still own at k d below was same =
      let operation = (get_or m.drives k d).operation in
      are k d below (so_far.clear k d below was (kept_before v w w' (once own at) operation same)) (kept_between v w w' (once own at) operation same)

  few_still : (own : Drive) → own ≡ get_or m.drives drive own → count + 1 ≤ seen v w' m.drives old next
  few_still own at =
      let operation = (get_or m.drives drive own).operation in
      let before_it = so_far.few in
      let a = seen_later v w w' (once own at) m.drives old drive in
      let b = seen_next v w' m.drives old drive own lt (omega (arith, lt, marks)) (λ was same.
      never (sym marked ∙ get_or_default stale drive false true there
      ∙ so_far.clear drive own lt was (kept_before v w w' (once own at) operation (each_kept v w' operation same)))) in
      let c = seen_longer v w' m.drives old (suc drive) next (omega (arith, later)) in
      omega (arith, before_it, a, b, c)

  pub touch_more : SettlesTouched m before words' old stale' next (count + 1)
  touch_more = elim (slice_get_cases m.drives drive).1 [
    | inl (own, within, found, here) ↦ record { ahead = ahead_still own (sym here); clear = clear_still own (sym here); few = few_still own (sym here) }
    | inr (past, none) ↦ absurd (omega (arith, past, lt))
  ]

-- ---- one write

-- a word that changes touches what reads it
pub written_touched : (m : Module) (words : List ℕ) (place word : ℕ) (stale stale' : List Bool) → IsSound m → length words ≡ length (all_names m) → place < length words → get_or words place 0 ≢ word
    → ((name : List ℕ) → slice_get (all_names m) place ≡ Some name → (k : ℕ) (d : Drive) → k < length m.drives → IsClear stale k → EachOperand (IsOther name) (get_or m.drives k d).operation → IsClear stale' k)
    → AreTouched m words (set words place word) stale stale'
written_touched m words place word stale stale' sound same lt changed others k d below clear kept =
    let (name, at) = name_at (all_names m) place (rw (sym same) lt) in
    let v = named m words in
    let distinct = names_distinct m sound in
    let wrote : named m (set words place word) ≡ with_word v name word = look_set (all_names m) words place word name distinct same at in
    let was : v name ≡ get_or words place 0 = look_at (all_names m) words place name distinct same at in
    let now : named m (set words place word) name ≡ word = rw wrote (with_word_same v name word) in
    others name at k d below clear (kept_others v (named m (set words place word)) name (λ e. changed (sym was ∙ e ∙ now)) (get_or m.drives k d).operation kept)
