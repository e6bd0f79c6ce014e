-- The names of modules are names of the subset: a letter, a number, and with it `_` and a second number or not; or one of the counter's names.
use Rattle.std.proofs.Common.{◌≡◌, ℕ, ◌^◌, ◌<◌, List, [], ◌∷◌, ◌++◌, length, refl, sym, subst, arith, ◌∙◌, Bool, true, false}
use Rattle.std.specs.Prelude.{All, Contains, decimal, codes}
use Rattle.std.specs.List.{AllByRecursion, list_all}
use Rattle.std.specs.Char.{is_ascii_digit}
use Rattle.std.specs.Str.{all_ascii_digits}
use Rattle.std.proofs.lemmas.List.{append-nil}
use Rattle.std.proofs.lemmas.List.Elements.{All-contains, All-from_recursion}
use Rattle.std.proofs.lemmas.List.Sums.{AllPass-from_list_all}
use Rattle.av_base.specs.Tokens.{is_word_byte}
use Rattle.av_net.specs.Lexemes.{IsName, IsIdentifier, reserved_words, begins_name}
use Rattle.av_net.specs.Names.{names_of}
use Rattle.av_net.proofs.Distinct.{apart}
use Rattle.av_net.proofs.Tested.{are_distinct, distinct_tested}
use Rattle.av_kinds.specs.declared.counter.Counter.{Counter}
use Rattle.av_kinds.specs.declared.counter.Counter.TheVariants.{Cycles, Phases}
use Rattle.av_kinds.specs.Counters.{counter_name}
use Rattle.av_kinds.specs.inner.Counts.{counter_wires}
use Rattle.av_kinds.proofs.NameParts.{decimal_some, digits_of}
use Rattle.av_base.proofs.Truths.{both}
use Rattle.av_base.proofs.Spelled.{digit_word}

-- ---- one name

-- the byte right behind the first one is a digit
abbrev second_digit : List ℕ → Bool
second_digit [] = false
second_digit (b ∷ []) = false
second_digit (b ∷ c ∷ bytes) = is_ascii_digit c

lettered : All (λ w. second_digit w ≡ false) reserved_words
lettered = All-from_recursion (λ w. second_digit w ≡ false) reserved_words (refl, (refl, (refl, (refl, (refl, (refl, (refl, (refl, (refl, (refl, (refl, tt)))))))))))

no_reserved : (name : List ℕ) → second_digit name ≡ true → Contains reserved_words name → ⊥
no_reserved name e at =
    let f : second_digit name ≡ false = All-contains (λ w. second_digit w ≡ false) reserved_words name lettered at in
    let both : true ≡ false = sym e ∙ f in
    cc

words_more : (digits more : List ℕ) → all_ascii_digits digits ≡ true → list_all is_word_byte more ≡ true → list_all is_word_byte (digits ++ more) ≡ true
words_more [] more d m = m
words_more (x ∷ digits) more d m =
    let b = both (is_ascii_digit x) (all_ascii_digits digits) d in
    let here = digit_word x b.0 in
    let rest = words_more digits more b.1 m in
    rw (here, rest) refl

first_digit : (a : ℕ) (digits more : List ℕ) → all_ascii_digits digits ≡ true → 0 < length digits → second_digit (a ∷ (digits ++ more)) ≡ true
first_digit a [] more d l = absurd (omega (arith, l))
first_digit a (x ∷ digits) more d l = (both (is_ascii_digit x) (all_ascii_digits digits) d).0

pub numbered_name : (a n : ℕ) (more : List ℕ) → begins_name a ≡ true → n < 10 ^ 64 → list_all is_word_byte more ≡ true → IsName (a ∷ (decimal n ++ more))
numbered_name a n more letter small rest = (
  (letter, AllPass-from_list_all is_word_byte (decimal n ++ more) (words_more (decimal n) more (digits_of n small) rest)),
  no_reserved (a ∷ (decimal n ++ more)) (first_digit a (decimal n) more (digits_of n small) (decimal_some n small)),
)

pub one_numbered : (a n : ℕ) → begins_name a ≡ true → n < 10 ^ 64 → IsName (a ∷ decimal n)
one_numbered a n letter small = subst (λ (xs : List ℕ). IsName (a ∷ xs)) (append-nil (decimal n)) (numbered_name a n [] letter small refl)

pub twice_numbered : (a m n : ℕ) → begins_name a ≡ true → m < 10 ^ 64 → n < 10 ^ 64 → IsName (a ∷ (decimal m ++ (95 ∷ decimal n)))
twice_numbered a m n letter few small = numbered_name a m (95 ∷ decimal n) letter few more
  where
    digits : list_all is_word_byte (decimal n) ≡ true
    digits = subst (λ (xs : List ℕ). list_all is_word_byte xs ≡ true) (append-nil (decimal n)) (words_more (decimal n) [] (digits_of n small) refl)

    more : list_all is_word_byte (95 ∷ decimal n) ≡ true
    more = rw digits refl

-- a name that is written out, which is none of the reserved words
name_by : (name : List ℕ) → IsIdentifier name → are_distinct (name ∷ reserved_words) ≡ true → IsName name
name_by name spelled distinct = (spelled, λ reserved. apart (name ∷ []) reserved_words name (distinct_tested (name ∷ reserved_words) distinct) (0, omega arith, refl) reserved)

pub array_name : IsName (codes "array")
array_name = name_by (codes "array") (refl, AllPass-from_list_all is_word_byte (codes "rray") refl) refl

pub value_spelled : IsName (codes "v")
value_spelled = name_by (codes "v") (refl, AllPass-from_list_all is_word_byte [] refl) refl

pub counter_spelled : (counter : Counter) → IsName (counter_name counter)
counter_spelled Cycles = name_by (codes "cyc") (refl, AllPass-from_list_all is_word_byte (codes "yc") refl) refl
counter_spelled (Phases period) = name_by (codes "phase") (refl, AllPass-from_list_all is_word_byte (codes "hase") refl) refl

pub counter_wires_spelled : (counter : Counter) → AllByRecursion IsName (names_of (counter_wires counter))
counter_wires_spelled Cycles = (name_by (codes "cyc_next") (refl, AllPass-from_list_all is_word_byte (codes "yc_next") refl) refl, tt)
counter_wires_spelled (Phases period) = (
  name_by (codes "phase_last") (refl, AllPass-from_list_all is_word_byte (codes "hase_last") refl) refl,
  (
    name_by (codes "phase_sum") (refl, AllPass-from_list_all is_word_byte (codes "hase_sum") refl) refl,
    (name_by (codes "phase_next") (refl, AllPass-from_list_all is_word_byte (codes "hase_next") refl) refl, tt),
  ),
)
