-- What is fed for each of several sets of words, and what is shown of each.
use Rattle.std.proofs.Common.{◌≡◌, ℕ, ◌+◌, ◌<◌, List, [], ◌∷◌, ◌++◌, length, take, get_or, Some, slice_get, refl, sym, ap, ◌∙◌, subst, arith, inl, inr, length-append}
use Rattle.std.specs.Prelude.{◌⊎◌, slice_index, All}
use Rattle.std.proofs.lemmas.Option.{slice_get_within}
use Rattle.std.proofs.lemmas.List.{map-append}
use Rattle.std.proofs.lemmas.List.Elements.{All-nil, All-push}
use Rattle.av_base.specs.declared.word.Word.{Word}
use Rattle.av_base.proofs.Lists.{some_is, get_cases, next_taken}
use Rattle.av_net.specs.declared.design.Design.{Design}
use Rattle.av_net.specs.declared.design.Entry.{Entry}
use Rattle.av_net.specs.Shown.{Values}
use Rattle.av_net.specs.Sound.{IsSound}
use Rattle.av_lanes.specs.Seen.{lane}
use Rattle.av_data.specs.declared.stimulus.Stimulus.{Stimulus}
use Rattle.av_commands.specs.Shown.{AreShown}
use Rattle.av_commands.specs.inner.Feeding.{AreOfLines}
use Rattle.av_commands.specs.inner.LaneClocking.{AreInLanes}
use Rattle.av_commands.specs.inner.Watching.{bits_of, watched}
use Rattle.av_commands.proofs.Watching.{shown_so}

-- ---- stimuli

-- the stimuli of the first n sets of words
pub record AreFed (d : Design) (cycles : ℕ) (xs : List Values) (n : ℕ) (stimuli : List Stimulus) : Type 0 where
  pub many : length stimuli ≡ n
  pub cycles_are : All (λ s. s.cycles ≡ cycles) stimuli
  pub each : (k : ℕ) (x : Values) (s : Stimulus) → slice_get xs k ≡ Some x → slice_get stimuli k ≡ Some s → AreOfLines d x (length d.listing.ins) s.values

pub none_fed : (d : Design) (cycles : ℕ) (xs : List Values) → AreFed d cycles xs 0 []
none_fed d cycles xs = record { many = refl; cycles_are = All-nil (λ (s : Stimulus). s.cycles ≡ cycles); each = λ k x s e f. absurd cc }

-- one set more
pub fed_more : (d : Design) (cycles : ℕ) (xs : List Values) (n : ℕ) (stimuli stimuli' : List Stimulus) (x : Values) (s : Stimulus) → AreFed d cycles xs n stimuli → slice_get xs n ≡ Some x → s.cycles ≡ cycles
    → AreOfLines d x (length d.listing.ins) s.values → stimuli' ≡ stimuli ++ s ∷ [] → AreFed d cycles xs (n + 1) stimuli'
fed_more d cycles xs n stimuli stimuli' x s so there cycle values are = subst (AreFed d cycles xs (n + 1)) (sym are) (record {
  many = (let m = so.many in omega (arith, m, length-append stimuli (s ∷ [])));
  cycles_are = All-push (λ (t : Stimulus). t.cycles ≡ cycles) stimuli s so.cycles_are cycle;
  each = λ k y t e f. by k y t e (get_cases stimuli (s ∷ []) k t f);
})
  where
    by : (k : ℕ) (y : Values) (t : Stimulus) → slice_get xs k ≡ Some y → (slice_get stimuli k ≡ Some t) ⊎ ((j : ℕ) × (k ≡ length stimuli + j) × (slice_get (s ∷ []) j ≡ Some t)) → AreOfLines d y (length d.listing.ins) t.values
    by k y t e (inl before) = so.each k y t e before
    by k y t e (inr last) =
        let within = slice_get_within (s ∷ []) last.0 t last.2 in
        let first : last.0 ≡ 0 = omega (arith, within) in
        let here : n ≡ k = (let m = so.many in let at = last.1 in omega (arith, m, at, first)) in
        let one : x ≡ y = some_is x y (sym there ∙ ap (slice_get xs) here ∙ e) in
        let same : s ≡ t = some_is s t (sym (ap (slice_get (s ∷ [])) first) ∙ last.2) in
        subst (λ (z : Values). AreOfLines d z (length d.listing.ins) t.values) one (subst (λ (u : Stimulus). AreOfLines d x (length d.listing.ins) u.values) same values)

-- ---- columns

-- the words of the first n lanes
pub record AreColumns (rows : List (List ℕ)) (n : ℕ) (columns : List (List Word)) : Type 0 where
  pub many : length columns ≡ n
  pub each : (k : ℕ) (words : List Word) → slice_get columns k ≡ Some words → bits_of words ≡ lane k rows

pub no_columns : (rows : List (List ℕ)) → AreColumns rows 0 []
no_columns rows = record { many = refl; each = λ k words e. absurd cc }

-- one lane more
pub columns_more : (rows : List (List ℕ)) (n : ℕ) (columns columns' : List (List Word)) (words : List Word) → AreColumns rows n columns → bits_of words ≡ lane n rows → columns' ≡ columns ++ words ∷ [] → AreColumns rows (n + 1) columns'
columns_more rows n columns columns' words so is are = subst (AreColumns rows (n + 1)) (sym are) (record {
  many = (let m = so.many in omega (arith, m, length-append columns (words ∷ [])));
  each = λ k other e. by k other (get_cases columns (words ∷ []) k other e);
})
  where
    by : (k : ℕ) (other : List Word) → (slice_get columns k ≡ Some other) ⊎ ((j : ℕ) × (k ≡ length columns + j) × (slice_get (words ∷ []) j ≡ Some other)) → bits_of other ≡ lane k rows
    by k other (inl before) = so.each k other before
    by k other (inr last) =
        let within = slice_get_within (words ∷ []) last.0 other last.2 in
        let first : last.0 ≡ 0 = omega (arith, within) in
        let here : n ≡ k = (let m = so.many in let at = last.1 in omega (arith, m, at, first)) in
        let one : words ≡ other = some_is words other (sym (ap (slice_get (words ∷ [])) first) ∙ last.2) in
        sym (ap bits_of one) ∙ is ∙ ap (λ n. lane n rows) here

-- the words of a lane in one row more
pub column_more : (k : ℕ) (rows : List (List ℕ)) (n : ℕ) (words words' : List Word) (bits : ℕ) (row : List ℕ) → n < length rows → row ≡ get_or rows n row → bits ≡ slice_index row k → bits_of words ≡ lane k (take n rows)
    → words' ≡ words ++ record { bits = bits } ∷ [] → bits_of words' ≡ lane k (take (n + 1) rows)
column_more k rows n words words' bits row lt is value so are =
    let last : Word = record { bits = bits } in
    ap bits_of are ∙ map-append (λ (w : Word). w.bits) words (last ∷ []) ∙ ap (λ (z : List ℕ). z ++ bits ∷ []) so ∙ ap (λ (b : ℕ). lane k (take n rows) ++ b ∷ []) value
    ∙ sym (ap (lane k) (next_taken rows n row lt is) ∙ map-append (λ (r : List ℕ). slice_index r k) (take n rows) (row ∷ []))

-- ---- what is shown

-- of the words in a lane
pub lane_shown : (d : Design) (x : Values) (stimuli : List Stimulus) (lines : List Entry) (cycles k : ℕ) (rows : List (List ℕ)) (words : List Word) (s : Stimulus) → IsSound d.module → lines ≡ d.listing.ats
    → All (λ line. line.cycle < cycles) lines → AreInLanes d.module stimuli lines rows → slice_get stimuli k ≡ Some s → s.cycles ≡ cycles → AreOfLines d x (length d.listing.ins) s.values → bits_of words ≡ lane k rows → AreShown d x (bits_of words)
lane_shown d x stimuli lines cycles k rows words s sound list reached are at same so is =
    shown_so d x s words sound so (subst (λ n. All (λ (l : Entry). l.cycle < n) d.listing.ats) (sym same) (subst (λ (ls : List Entry). All (λ (l : Entry). l.cycle < cycles) ls) list reached))
    (λ stream run stimulated clocked. is ∙ are k s at stream run stimulated clocked ∙ ap (watched run.in_cycle s.cycles) list)
