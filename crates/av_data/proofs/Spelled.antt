-- Digits, names and the forms of a line: the tests and what they tell.
use Rattle.std.proofs.Common.{◌≡◌, ℕ, suc, Bool, true, false, not, List, [], ◌∷◌, length, Option, Some, None, refl, sym, ap, ◌∙◌, subst, arith, true≢false}
use Rattle.std.specs.Prelude.{if◌then◌else◌, nat_eq, nat_lt, IsTrue, All, codes}
use Rattle.std.specs.List.{prefix_len, list_all}
use Rattle.std.specs.Char.{is_ascii_digit}
use Rattle.std.specs.Str.{bytes_eq}
use Rattle.std.proofs.lemmas.Bool.{eqb-true, eq-eqb, ltb-false, cases_lt}
use Rattle.std.proofs.lemmas.Cmp.{nat_list_eq_equiv}
use Rattle.std.proofs.lemmas.List.Elements.{All-from_get_or, All-get_or, All-head, All-tail, All-cons, All-from_recursion, recursion_from_All}
use Rattle.std.proofs.lemmas.List.Sums.{prefix_len_passes, prefix_len_stops, prefix_len-le-length}
use Rattle.std.proofs.lemmas.Map.Views.{list_any-from_Contains, Contains-from_any}
use Rattle.std.proofs.lemmas.Slice.Eq.{bytes_eq-Decides}
use Rattle.std.proofs.Common.{inl, inr}
use Rattle.av_base.specs.Tokens.{IsDigits, is_word_byte}
use Rattle.av_net.specs.Lexemes.{reserved_words, begins_name, IsName, IsIdentifier}
use Rattle.av_net.specs.Spelling.{is_identifier, is_reserved, is_name}
use Rattle.av_base.proofs.Spelled.{all_word, word_all}
use Rattle.av_data.specs.Lines.{separated}
use Rattle.av_data.specs.Reading.{first_part, after_part, is_empty, are_digits, cycles_digits, Setting, setting_in}
use Rattle.av_data.proofs.Parted.{part_is, end_is, part_of, end_of}
use Rattle.av_base.proofs.Truths.{and_true, both}

some_if : {A : Type 0} (t : Bool) (x y : A) → (if t then Some x else None) ≡ Some y → (t ≡ true) × (x ≡ y)
some_if {A = A} true x y e = (refl, (by e))
  where
    value : Option A → A
    value (Some z) = z
    value None = x

    by : Some x ≡ Some y → x ≡ y
    by e = ap value e
some_if {A = A} false x y e = absurd (true≢false (sym (ap is_there e)))
  where
    is_there : Option A → Bool
    is_there (Some z) = true
    is_there None = false

-- ---- all bytes of a text pass a test

pub all_pass : (p : ℕ → Bool) (xs : List ℕ) → nat_eq (prefix_len p xs) (length xs) ≡ true → All (λ x. IsTrue (p x)) xs
all_pass p xs h = let e = eqb-true (prefix_len p xs) (length xs) h in All-from_get_or (λ x. IsTrue (p x)) xs 0 (λ i lt. prefix_len_passes p xs i 0 (omega (arith, e)))

pub pass_all : (p : ℕ → Bool) (xs : List ℕ) → All (λ x. IsTrue (p x)) xs → nat_eq (prefix_len p xs) (length xs) ≡ true
pass_all p xs all = elim (cases_lt (prefix_len p xs) (length xs)) [
  | inl lt ↦ absurd (true≢false (sym (All-get_or (λ x. IsTrue (p x)) xs (prefix_len p xs) 0 lt all) ∙ prefix_len_stops p xs 0 lt))
  | inr le ↦ eq-eqb (prefix_len p xs) (length xs) (omega (arith, prefix_len-le-length p xs))
]

pub digits_from : (text : List ℕ) → are_digits text ≡ true → IsDigits text
digits_from [] h = absurd (true≢false (sym h))
digits_from (b ∷ bytes) h =
    let all = all_pass is_ascii_digit (b ∷ bytes) (both (nat_lt 0 (length (b ∷ bytes))) (nat_eq (prefix_len is_ascii_digit (b ∷ bytes)) (length (b ∷ bytes))) h).1 in
    (All-head (λ x. IsTrue (is_ascii_digit x)) b bytes all, All-tail (λ x. IsTrue (is_ascii_digit x)) b bytes all)

some_bytes : (n : ℕ) → nat_lt 0 (suc n) ≡ true
some_bytes n = by (nat_lt 0 (suc n)) refl
  where
    by : (t : Bool) → nat_lt 0 (suc n) ≡ t → t ≡ true
    by true e = refl
    by false e = absurd (let f = ltb-false 0 (suc n) e in omega (arith, f))

pub digits_to : (text : List ℕ) → IsDigits text → are_digits text ≡ true
digits_to [] h = absurd h
digits_to (b ∷ bytes) h =
    and_true (nat_lt 0 (length (b ∷ bytes))) (nat_eq (prefix_len is_ascii_digit (b ∷ bytes)) (length (b ∷ bytes))) (some_bytes (length bytes))
    (pass_all is_ascii_digit (b ∷ bytes) (All-cons (λ x. IsTrue (is_ascii_digit x)) b bytes h.0 h.1))

identifier_from : (text : List ℕ) → is_identifier text ≡ true → IsIdentifier text
identifier_from [] h = absurd (true≢false (sym h))
identifier_from (b ∷ bytes) h = let z = both (begins_name b) (list_all is_word_byte bytes) h in (z.0, All-from_recursion (λ x. IsTrue (is_word_byte x)) bytes (all_word bytes z.1))

identifier_to : (text : List ℕ) → IsIdentifier text → is_identifier text ≡ true
identifier_to [] h = absurd h
identifier_to (b ∷ bytes) h = and_true (begins_name b) (list_all is_word_byte bytes) h.0 (word_all bytes (recursion_from_All (λ x. IsTrue (is_word_byte x)) bytes h.1))

pub not_true : (t : Bool) → not t ≡ true → t ≡ true → ⊥
not_true t e f = true≢false (sym e ∙ ap not f)

pub is_false : (t : Bool) → (t ≡ true → ⊥) → not t ≡ true
is_false true h = absurd (h refl)
is_false false h = refl

pub name_from : (text : List ℕ) → is_name text ≡ true → IsName text
name_from text h =
    let z = both (is_identifier text) (not (is_reserved text)) h in
    (identifier_from text z.0, λ there. not_true (is_reserved text) z.1 (list_any-from_Contains nat_list_eq_equiv text reserved_words there))

pub name_to : (text : List ℕ) → IsName text → is_name text ≡ true
name_to text h =
    and_true (is_identifier text) (not (is_reserved text)) (identifier_to text h.0)
    (is_false (is_reserved text) (λ found. h.1 (Contains-from_any (λ x y e. (bytes_eq-Decides x y).0 e) text reserved_words found)))

-- ---- `cycles N`

pub cycles_is : (text digits : List ℕ) → cycles_digits text ≡ Some digits → (separated text ≡ codes "cycles" ∷ digits ∷ []) × IsDigits digits
unfolding cycles_digits
cycles_is text digits h =
    let second : List ℕ = first_part (after_part text) in
    let t = some_if _ second digits h in
    let a = both (bytes_eq (first_part text) (codes "cycles")) _ t.0 in
    let b = both (are_digits second) (is_empty (first_part (after_part (after_part text)))) a.1 in
    let word : first_part text ≡ codes "cycles" = (bytes_eq-Decides (first_part text) (codes "cycles")).0 a.0 in
    let one = part_is (λ w. bytes_eq w (codes "cycles")) text refl a.0 in
    let two = part_is are_digits (after_part text) refl b.0 in
    let three = end_is (after_part (after_part text)) b.1 in
    (rw (one, word, two, three, t.1) refl, subst IsDigits t.1 (digits_from second b.0))

pub cycles_of : (text digits : List ℕ) → separated text ≡ codes "cycles" ∷ digits ∷ [] → IsDigits digits → cycles_digits text ≡ Some digits
unfolding cycles_digits
cycles_of text digits h d =
    let one = part_of text (codes "cycles") (digits ∷ []) h in
    let two = part_of (after_part text) digits [] one.1 in
    let three = end_of (after_part (after_part text)) two.1 in
    rw (one.0, two.0, three, digits_to digits d) refl

-- ---- `at CYCLE PORT VALUE`

pub record IsSetting (text : List ℕ) (s : Setting) : Type 0 where
  pub parts : separated text ≡ codes "at" ∷ s.cycle ∷ s.port ∷ s.value ∷ []
  pub cycle : IsDigits s.cycle
  pub port : IsName s.port
  pub value : IsDigits s.value

pub setting_is : (text : List ℕ) (s : Setting) → setting_in text ≡ Some s → IsSetting text s
unfolding setting_in
setting_is text s h =
    let text1 : List ℕ = after_part text in
    let text2 : List ℕ = after_part text1 in
    let text3 : List ℕ = after_part text2 in
    let text4 : List ℕ = after_part text3 in
    let found : Setting = record { cycle = first_part text1; port = first_part text2; value = first_part text3 } in
    let t = some_if _ found s h in
    let a = both (bytes_eq (first_part text) (codes "at")) _ t.0 in
    let b = both (are_digits (first_part text1)) _ a.1 in
    let d = both (is_name (first_part text2)) _ b.1 in
    let e = both (are_digits (first_part text3)) (is_empty (first_part text4)) d.1 in
    let word : first_part text ≡ codes "at" = (bytes_eq-Decides (first_part text) (codes "at")).0 a.0 in
    let one = part_is (λ w. bytes_eq w (codes "at")) text refl a.0 in
    let two = part_is are_digits text1 refl b.0 in
    let three = part_is is_name text2 refl d.0 in
    let four = part_is are_digits text3 refl e.0 in
    let five = end_is text4 e.1 in
    let is : IsSetting text found = record {
      parts = rw (one, word, two, three, four, five) refl;
      cycle = digits_from (first_part text1) b.0;
      port = name_from (first_part text2) d.0;
      value = digits_from (first_part text3) e.0;
    } in
    subst (IsSetting text) t.1 is

pub setting_of : (text : List ℕ) (s : Setting) → IsSetting text s → setting_in text ≡ Some s
unfolding setting_in
setting_of text s is =
    let text1 : List ℕ = after_part text in
    let text2 : List ℕ = after_part text1 in
    let text3 : List ℕ = after_part text2 in
    let text4 : List ℕ = after_part text3 in
    let one = part_of text (codes "at") (s.cycle ∷ s.port ∷ s.value ∷ []) is.parts in
    let two = part_of text1 s.cycle (s.port ∷ s.value ∷ []) one.1 in
    let three = part_of text2 s.port (s.value ∷ []) two.1 in
    let four = part_of text3 s.value [] three.1 in
    let five = end_of text4 four.1 in
    rw (one.0, two.0, three.0, four.0, five, digits_to s.cycle is.cycle, name_to s.port is.port, digits_to s.value is.value) refl
