-- Marks, a bit for each.
use Rattle.std.proofs.Common.{◌≡◌, ◌≢◌, ℕ, zero, suc, ◌+◌, ◌-◌, ◌/◌, ◌%◌, ◌^◌, ◌<◌, ◌≤◌, ◌==◌, w64, List, length, get_or, set, replicate, refl, sym, ◌∙◌, ap, subst, arith, Bool, true, false, Vec, inl, inr}
use Rattle.std.specs.Prelude.{IsTrue, ◌↔◌}
use Rattle.std.specs.Int.{bit_at, trailing_zeros}
use Rattle.std.specs.declared.alloc.Global.{Global}
use Rattle.std.specs.Vec.{with_items}
use Rattle.std.proofs.Math.ListN.{length-set}
use Rattle.std.proofs.lemmas.Bool.{cases_eq, cases_lt}
use Rattle.std.proofs.lemmas.List.{same_lists, get_or-set_same, get_or-set_other, get_or-replicate, get_or_default, length-replicate}
use Rattle.std.proofs.lemmas.Nat.{shr-shr, shr_le}
use Rattle.std.proofs.lemmas.Nat.Bits.{bit_at-zero, bit_at-lt, bit_at_above, bit_at-trailing_zeros}
use Rattle.av_clock.specs.Marked.{IsClear}
use Rattle.av_clock.specs.Bits.{bit_mark, marks_from}
use Rattle.av_clock.specs.Marking.{IsSet}
use Rattle.av_clock.proofs.Views.{new_items}

zero_below : (n : ℕ) → n < 2 → n ≢ 1 → n ≡ 0
zero_below zero lt ne = refl
zero_below (suc zero) lt ne = absurd (ne refl)
zero_below (suc (suc n)) lt ne = absurd (omega arith)

-- there are so many
pub marks_size : (words : List ℕ) (from n : ℕ) → length (marks_from words from n) ≡ n
marks_size words from zero = refl
marks_size words from (suc n) = let rest = marks_size words (suc from) n in omega arith

-- each is that of its bit
pub mark_at : (words : List ℕ) (from n i : ℕ) (d : Bool) → i < n → get_or (marks_from words from n) i d ≡ bit_mark words (from + i)
mark_at words from zero i d lt = absurd (omega arith)
mark_at words from (suc n) zero d lt = let e : from ≡ from + 0 = omega arith in ap (bit_mark words) e
mark_at words from (suc n) (suc i) d lt = let e : suc from + i ≡ from + suc i = omega arith in mark_at words (suc from) n i d (omega arith) ∙ ap (bit_mark words) e

pub mark_here : (words : List ℕ) (n i : ℕ) (d : Bool) → i < n → get_or (marks_from words 0 n) i d ≡ bit_mark words i
mark_here words n i d lt = let e : 0 + i ≡ i = omega arith in mark_at words 0 n i d lt ∙ ap (bit_mark words) e

-- a bit of 1 is a mark that is set, and one of 0 a clear one
pub bit_set : (words : List ℕ) (n i : ℕ) → i < n → bit_at (get_or words (i / 64) 0) (i % 64) ≡ 1 → IsSet (marks_from words 0 n) i
bit_set words n i lt is = mark_here words n i false lt ∙ ap (λ b. b == 1) is

pub bit_clear : (words : List ℕ) (n i : ℕ) → i < n → bit_at (get_or words (i / 64) 0) (i % 64) ≡ 0 → IsClear (marks_from words 0 n) i
bit_clear words n i lt is = mark_here words n i true lt ∙ ap (λ b. b == 1) is

-- a bit of another word, or another bit, stays
other_bit : (words : List ℕ) (index word k : ℕ) → k ≢ index → index / 64 < length words → ((i : ℕ) → i < 64 → i ≢ index % 64 → bit_at word i ≡ bit_at (get_or words (index / 64) 0) i)
    → bit_at (get_or (set words (index / 64) word) (k / 64) 0) (k % 64) ≡ bit_at (get_or words (k / 64) 0) (k % 64)
other_bit words index word k ne there others = elim (cases_eq (k / 64) (index / 64)) [
  | inl e ↦
      let differs : k % 64 ≢ index % 64 = λ same. ne (omega (arith, e, same)) in
      let small : k % 64 < 64 = omega arith in
      ap (λ j. bit_at (get_or (set words (index / 64) word) j 0) (k % 64)) e
      ∙ ap (λ w. bit_at w (k % 64)) (get_or-set_same words (index / 64) word 0 there)
      ∙ others (k % 64) small differs
      ∙ ap (λ j. bit_at (get_or words j 0) (k % 64)) (sym e)
  | inr other ↦ ap (λ w. bit_at w (k % 64)) (get_or-set_other words (index / 64) (k / 64) word 0 other)
]

-- a word with one bit written
pub written_bits : (words : List ℕ) (n index word : ℕ) (mark : Bool) → index < n → index / 64 < length words → (bit_at word (index % 64) == 1) ≡ mark
    → ((i : ℕ) → i < 64 → i ≢ index % 64 → bit_at word i ≡ bit_at (get_or words (index / 64) 0) i) → marks_from (set words (index / 64) word) 0 n ≡ set (marks_from words 0 n) index mark
written_bits words n index word mark lt there here others =
    let size : length (marks_from (set words (index / 64) word) 0 n) ≡ n = marks_size (set words (index / 64) word) 0 n in
    let size' : length (marks_from words 0 n) ≡ n = marks_size words 0 n in
    same_lists (marks_from (set words (index / 64) word) 0 n) (set (marks_from words 0 n) index mark) (size ∙ sym (length-set (marks_from words 0 n) index mark ∙ size')) (λ k d below.
    let below' : k < n = subst (λ m. k < m) size below in
    mark_here (set words (index / 64) word) n k d below' ∙ elim (cases_eq k index) [
      | inl e ↦
          ap (bit_mark (set words (index / 64) word)) e
          ∙ ap (λ w. bit_at w (index % 64) == 1) (get_or-set_same words (index / 64) word 0 there)
          ∙ here
          ∙ sym (ap (λ j. get_or (set (marks_from words 0 n) index mark) j d) e ∙ get_or-set_same (marks_from words 0 n) index mark d (subst (λ m. index < m) (sym size') lt))
      | inr ne ↦
          ap (λ b. b == 1) (other_bit words index word k ne there others)
          ∙ sym (get_or-set_other (marks_from words 0 n) index k mark d ne ∙ mark_here words n k d below')
    ])

-- words that are all the same
pub filled_bits : (words : List ℕ) (n : ℕ) (mark : Bool) → ((k : ℕ) → k < n → bit_mark words k ≡ mark) → marks_from words 0 n ≡ replicate n mark
filled_bits words n mark all =
    let size : length (marks_from words 0 n) ≡ n = marks_size words 0 n in
    same_lists (marks_from words 0 n) (replicate n mark) (size ∙ sym (length-replicate n mark)) (λ k d below.
    let below' : k < n = subst (λ m. k < m) size below in
    mark_here words n k d below' ∙ all k below' ∙ sym (get_or-replicate n k mark d below'))

pub new_bits : (n : ℕ) → marks_from (replicate (n / 64 + 1) 0) 0 n ≡ replicate n false
new_bits n = filled_bits (replicate (n / 64 + 1) 0) n false (λ k lt.
    let there : k / 64 < n / 64 + 1 = omega arith in
    ap (λ w. bit_at w (k % 64) == 1) (get_or-replicate (n / 64 + 1) (k / 64) 0 0 there) ∙ ap (λ b. b == 1) (bit_at-zero (k % 64)))

-- ---- of what is seen

-- the word of a mark is there
word_in : (words : List ℕ) (n index : ℕ) (marks : List Bool) → marks_from words 0 n ≡ marks → length words ≡ n / 64 + 1 → index < length marks → index / 64 < length words
word_in words n index marks view size lt =
    let lt' : index < n = subst (λ m. index < m) (sym (ap length view) ∙ marks_size words 0 n) lt in
    omega arith

pub word_there : (v : Vec ℕ Global) (n index : ℕ) (marks : List Bool) → marks_from v.items 0 n ≡ marks → length v.items ≡ n / 64 + 1 → index < length marks → index / 64 < v.len
word_there v n index marks view size lt =
    let inside = word_in v.items n index marks view size lt in
    let long : v.len ≡ length v.items = v.ok.0 in
    omega arith

pub within_count : (words : List ℕ) (n index : ℕ) (marks : List Bool) → marks_from words 0 n ≡ marks → index < length marks → index < n
within_count words n index marks view lt = subst (λ m. index < m) (sym (ap length view) ∙ marks_size words 0 n) lt

-- a word that was read by the place of a mark
pub read_word : (v : Vec ℕ Global) (n index word : ℕ) (marks : List Bool) → marks_from v.items 0 n ≡ marks → length v.items ≡ n / 64 + 1 → index < length marks → word ≡ get_or v.items (index / 64) word → word ≡ get_or v.items (index / 64) 0
read_word v n index word marks view size lt is = is ∙ get_or_default v.items (index / 64) word 0 (word_in v.items n index marks view size lt)

-- a bit that does not test as 1 is 0
pub bit_cases : (word bit : ℕ) (test : Bool) → (IsTrue test ↔ (bit_at word bit ≡ 1)) → test ≡ false → bit_at word bit ≡ 0
bit_cases word bit test decides unset =
    let small : bit_at word bit < 2 = bit_at-lt word bit in
    elim (cases_eq (bit_at word bit) 1) [
      | inl one ↦ let e : false ≡ true = sym unset ∙ decides.1 one in absurd cc
      | inr other ↦ zero_below (bit_at word bit) small other
    ]

-- a mark by the bit that was read
pub seen_set : (words : List ℕ) (n index word : ℕ) (marks : List Bool) → marks_from words 0 n ≡ marks → index < length marks → word ≡ get_or words (index / 64) 0 → bit_at word (index % 64) ≡ 1 → IsSet marks index
seen_set words n index word marks view lt is bit = subst (λ ms. IsSet ms index) view (bit_set words n index (within_count words n index marks view lt) (ap (λ w. bit_at w (index % 64)) (sym is) ∙ bit))

pub seen_clear : (words : List ℕ) (n index word : ℕ) (marks : List Bool) → marks_from words 0 n ≡ marks → index < length marks → word ≡ get_or words (index / 64) 0 → bit_at word (index % 64) ≡ 0 → IsClear marks index
seen_clear words n index word marks view lt is bit = subst (λ ms. IsClear ms index) view (bit_clear words n index (within_count words n index marks view lt) (ap (λ w. bit_at w (index % 64)) (sym is) ∙ bit))

-- a mark that was written
pub seen_written : (words : List ℕ) (n index word new : ℕ) (mark : Bool) (marks : List Bool) → marks_from words 0 n ≡ marks → length words ≡ n / 64 + 1 → index < length marks → word ≡ get_or words (index / 64) 0
    → (bit_at new (index % 64) == 1) ≡ mark → ((i : ℕ) → i < 64 → i ≢ index % 64 → bit_at new i ≡ bit_at word i) → marks_from (set words (index / 64) new) 0 n ≡ set marks index mark
seen_written words n index word new mark marks view size lt is here others =
    let lt' : index < n = within_count words n index marks view lt in
    let there : index / 64 < length words = omega arith in
    subst (λ ms. marks_from (set words (index / 64) new) 0 n ≡ set ms index mark) view
    (written_bits words n index new mark lt' there here (λ i small ne. others i small ne ∙ ap (λ w. bit_at w i) is))

-- marks whose bits are 0 in one word
pub seen_passed : (words : List ℕ) (n index word bit : ℕ) (marks : List Bool) → marks_from words 0 n ≡ marks → index < length marks → word ≡ get_or words (index / 64) 0 → bit ≤ 64
    → ((i : ℕ) → index % 64 ≤ i → i < bit → bit_at word i ≡ 0) → (k : ℕ) → index ≤ k → k < index + (bit - index % 64) → k < length marks → IsClear marks k
seen_passed words n index word bit marks view lt is most zeros k le below within =
    let lt' : k < n = within_count words n k marks view within in
    let same : k / 64 ≡ index / 64 = omega arith in
    let place : k % 64 ≡ index % 64 + (k - index) = omega arith in
    let zero' : bit_at word (k % 64) ≡ 0 = zeros (k % 64) (omega arith) (omega arith) in
    subst (λ ms. IsClear ms k) view (bit_clear words n k lt' (ap (λ j. bit_at (get_or words j 0) (k % 64)) same ∙ ap (λ w. bit_at w (k % 64)) (sym is) ∙ zero'))

-- a bit that is not 0 is 1
pub some_bit : (words : List ℕ) (n index word : ℕ) (marks : List Bool) → marks_from words 0 n ≡ marks → index < length marks → word ≡ get_or words (index / 64) 0 → IsClear marks index → bit_at word (index % 64) ≡ 1 → ⊥
some_bit words n index word marks view lt is clear one =
    let set' = bit_set words n index (within_count words n index marks view lt) (ap (λ w. bit_at w (index % 64)) (sym is) ∙ one) in
    let clear' : IsClear (marks_from words 0 n) index = subst (λ ms. IsClear ms index) (sym view) clear in
    let a = mark_here words n index false (within_count words n index marks view lt) in
    let b = mark_here words n index true (within_count words n index marks view lt) in
    let e : true ≡ false = sym set' ∙ a ∙ sym b ∙ clear' in
    absurd cc

-- so the next bit of 1 stands behind it
pub some_step : (words : List ℕ) (n index word next : ℕ) (marks : List Bool) → marks_from words 0 n ≡ marks → index < length marks → word ≡ get_or words (index / 64) 0 → IsClear marks index → index % 64 ≤ next → (next < 64 → bit_at word next ≡ 1)
    → 0 < next - index % 64
some_step words n index word next marks view lt is clear le found = elim (cases_lt (index % 64) next) [
  | inl behind ↦ omega arith
  | inr here ↦
      let e : next ≡ index % 64 = omega arith in
      let small : next < 64 = omega arith in
      absurd (some_bit words n index word marks view lt is clear (ap (bit_at word) (sym e) ∙ found small))
]

-- marks that were filled
pub seen_filled : (v : Vec ℕ Global) (before new : List ℕ) (n word : ℕ) (mark : Bool) (marks : List Bool) → marks_from v.items 0 n ≡ marks → length v.items ≡ n / 64 + 1 → length new ≡ length before → before ≡ v.items → new ≡ replicate (length before) word
    → ((bit : ℕ) → bit < 64 → (bit_at word bit == 1) ≡ mark) → marks_from (with_items v new).items 0 n ≡ replicate (length marks) mark
seen_filled v before new n word mark marks view size same is filled all =
    let count : n ≡ length marks = sym (marks_size v.items 0 n) ∙ ap length view in
    let words : (with_items v new).items ≡ replicate (n / 64 + 1) word = new_items v before new same is ∙ filled ∙ ap (λ m. replicate m word) (ap length is ∙ size) in
    ap (λ ws. marks_from ws 0 n) words
    ∙ filled_bits (replicate (n / 64 + 1) word) n mark (λ k lt.
    let there : k / 64 < n / 64 + 1 = omega arith in
    let small : k % 64 < 64 = omega arith in
    ap (λ w. bit_at w (k % 64) == 1) (get_or-replicate (n / 64 + 1) (k / 64) word 0 there) ∙ all (k % 64) small)
    ∙ ap (λ m. replicate m mark) count

-- ---- the next bit of a word

-- the bits of a word that was shifted
shifted : (word from i : ℕ) → bit_at (word / 2 ^ from) i ≡ bit_at word (from + i)
shifted word from i = ap (λ n. n % 2) (shr-shr word from i)

later_bit : (word from i : ℕ) → from ≤ i → bit_at word i ≡ bit_at (word / 2 ^ from) (i - from)
later_bit word from i le = let e : from + (i - from) ≡ i = omega arith in sym (shifted word from (i - from) ∙ ap (bit_at word) e)

pub none_later : (word from i : ℕ) → word / 2 ^ from ≡ 0 → from ≤ i → bit_at word i ≡ 0
none_later word from i none le = later_bit word from i le ∙ ap (λ n. bit_at n (i - from)) none ∙ bit_at-zero (i - from)

-- the first one from a bit on
pub record IsNext (word from next : ℕ) : Type 0 where
  pub later : from ≤ next
  pub most : next ≤ 64
  pub clear : (i : ℕ) → from ≤ i → i < next → bit_at word i ≡ 0
  pub set : bit_at word next ≡ 1

pub next_is : (word from : ℕ) → word < 2 ^ 64 → 0 < word / 2 ^ from → IsNext word from (from + trailing_zeros w64 (word / 2 ^ from))
next_is word from small some =
    let shift : word / 2 ^ from ≤ word = shr_le word from in
    let zeros = trailing_zeros w64 (word / 2 ^ from) in
    let (few, one, none) = bit_at-trailing_zeros w64 (word / 2 ^ from) some (omega (arith, shift, small)) in
    let here : bit_at word (from + zeros) ≡ 1 = sym (shifted word from zeros) ∙ one in
    record {
      later = omega arith;
      most = elim (cases_lt (from + zeros) 64) [
        | inl lt ↦ omega arith
        | inr past ↦ let e : 0 ≡ 1 = sym (bit_at_above word 64 (from + zeros) small past) ∙ here in absurd (omega arith)
      ];
      clear = λ i le lt. later_bit word from i le ∙ none (i - from) (omega arith);
      set = here;
    }
