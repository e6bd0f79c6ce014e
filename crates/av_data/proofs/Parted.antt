-- The parts of a line, found from left to right.
use Rattle.std.proofs.Common.{◌≡◌, ℕ, suc, Bool, true, false, not, List, [], ◌∷◌, length, take, drop, refl, sym, ap, ◌∙◌, subst, arith, inl, inr, true≢false}
use Rattle.std.specs.Prelude.{◌⊎◌, nat_eq}
use Rattle.std.specs.List.{prefix_len}
use Rattle.std.proofs.lemmas.Bool.{eqb-true}
use Rattle.av_net.specs.Listed.{longer}
use Rattle.av_data.specs.Lines.{is_gap, separated}
use Rattle.av_data.specs.Reading.{is_part_byte, without_gap, first_part, after_part, is_empty}

pub prefix_yes : (p : ℕ → Bool) (b : ℕ) (bytes : List ℕ) → p b ≡ true → prefix_len p (b ∷ bytes) ≡ suc (prefix_len p bytes)
prefix_yes p b bytes h = rw h (omega arith)

pub prefix_no : (p : ℕ → Bool) (b : ℕ) (bytes : List ℕ) → p b ≡ false → prefix_len p (b ∷ bytes) ≡ 0
prefix_no p b bytes h = rw h refl

-- what stands before the first blank or tab, and from it on
abbrev run : List ℕ → List ℕ
run text = take (prefix_len is_part_byte text) text

abbrev rest : List ℕ → List ℕ
rest text = drop (prefix_len is_part_byte text) text

run_yes : (b : ℕ) (bytes : List ℕ) → is_gap b ≡ false → (run (b ∷ bytes) ≡ b ∷ run bytes) × (rest (b ∷ bytes) ≡ rest bytes)
run_yes b bytes h = let e = prefix_yes is_part_byte b bytes (ap not h) in (ap (λ n. take n (b ∷ bytes)) e, ap (λ n. drop n (b ∷ bytes)) e)

run_no : (b : ℕ) (bytes : List ℕ) → is_gap b ≡ true → (run (b ∷ bytes) ≡ []) × (rest (b ∷ bytes) ≡ b ∷ bytes)
run_no b bytes h = let e = prefix_no is_part_byte b bytes (ap not h) in (ap (λ n. take n (b ∷ bytes)) e, ap (λ n. drop n (b ∷ bytes)) e)

goes_step : (b c : ℕ) (bytes : List ℕ) → is_gap b ≡ false → is_gap c ≡ false → separated (b ∷ c ∷ bytes) ≡ longer b (separated (c ∷ bytes))
goes_step b c bytes h k = rw (h, k) refl

stop_step : (b c : ℕ) (bytes : List ℕ) → is_gap b ≡ false → is_gap c ≡ true → separated (b ∷ c ∷ bytes) ≡ (b ∷ []) ∷ separated (c ∷ bytes)
stop_step b c bytes h k = rw (h, k) refl

run_splits : (b : ℕ) (bytes : List ℕ) → is_gap b ≡ false → separated (b ∷ bytes) ≡ (b ∷ run bytes) ∷ separated (rest bytes)
run_splits b [] h = rw h refl
run_splits b (c ∷ bytes) h = by (is_gap c) refl (λ k. run_splits c bytes k)
  where
    by : (t : Bool) → is_gap c ≡ t → (is_gap c ≡ false → separated (c ∷ bytes) ≡ (c ∷ run bytes) ∷ separated (rest bytes))
        → separated (b ∷ c ∷ bytes) ≡ (b ∷ run (c ∷ bytes)) ∷ separated (rest (c ∷ bytes))
    by true k ih = stop_step b c bytes h k ∙ ap (λ z. (b ∷ z) ∷ separated (c ∷ bytes)) (sym (run_no c bytes k).0) ∙ ap (λ z. (b ∷ run (c ∷ bytes)) ∷ separated z) (sym (run_no c bytes k).1)
    by false k ih =
        goes_step b c bytes h k ∙ ap (longer b) (ih k) ∙ ap (λ z. (b ∷ z) ∷ separated (rest bytes)) (sym (run_yes c bytes k).0) ∙ ap (λ z. (b ∷ run (c ∷ bytes)) ∷ separated z) (sym (run_yes c bytes k).1)

pub never_zero : (n : ℕ) → nat_eq (suc n) 0 ≡ false
never_zero n = by (nat_eq (suc n) 0) refl
  where
    by : (t : Bool) → nat_eq (suc n) 0 ≡ t → t ≡ false
    by true e = absurd (let f = eqb-true (suc n) 0 e in omega (arith, f))
    by false e = refl

-- a text without blanks in front has a first part or none
abbrev HasFirst : List ℕ → List (List ℕ) → Type 0
HasFirst text parts = ((run text ≡ []) × (parts ≡ [])) ⊎ ((is_empty (run text) ≡ false) × (parts ≡ run text ∷ separated (rest text)))

first_there : (text : List ℕ) → HasFirst (without_gap text) (separated text)
first_there [] = inl (refl, refl)
first_there (b ∷ bytes) = by (is_gap b) refl (first_there bytes)
  where
    by : (t : Bool) → is_gap b ≡ t → HasFirst (without_gap bytes) (separated bytes) → HasFirst (without_gap (b ∷ bytes)) (separated (b ∷ bytes))
    by true k ih =
        let same : separated (b ∷ bytes) ≡ separated bytes = rw k refl in
        let gone : without_gap (b ∷ bytes) ≡ without_gap bytes = ap (λ n. drop n (b ∷ bytes)) (prefix_yes is_gap b bytes k) in
        subst (λ w. HasFirst w (separated (b ∷ bytes))) (sym gone) (subst (HasFirst (without_gap bytes)) (sym same) ih)
    by false k ih =
        let kept : without_gap (b ∷ bytes) ≡ b ∷ bytes = ap (λ n. drop n (b ∷ bytes)) (prefix_no is_gap b bytes k) in
        let some : is_empty (run (b ∷ bytes)) ≡ false = ap is_empty (run_yes b bytes k).0 ∙ never_zero (length (run bytes)) in
        subst (λ w. HasFirst w (separated (b ∷ bytes))) (sym kept)
        (inr (some, run_splits b bytes k ∙ ap (λ z. z ∷ separated (rest bytes)) (sym (run_yes b bytes k).0) ∙ ap (λ z. run (b ∷ bytes) ∷ separated z) (sym (run_yes b bytes k).1)))

-- ---- what a first part tells

-- the first part passes a test that nothing does not pass
pub part_is : (test : List ℕ → Bool) (text : List ℕ) → test [] ≡ false → test (first_part text) ≡ true → separated text ≡ first_part text ∷ separated (after_part text)
part_is test text none h = by (first_there text)
  where
    by : HasFirst (without_gap text) (separated text) → separated text ≡ first_part text ∷ separated (after_part text)
    by (inl e) = absurd (true≢false (sym h ∙ ap test e.0 ∙ none))
    by (inr e) = e.1

pub end_is : (text : List ℕ) → is_empty (first_part text) ≡ true → separated text ≡ []
end_is text h = by (first_there text)
  where
    by : HasFirst (without_gap text) (separated text) → separated text ≡ []
    by (inl e) = e.1
    by (inr e) = absurd (true≢false (sym h ∙ e.0))

abbrev pub head_of : List (List ℕ) → List ℕ
head_of [] = []
head_of (x ∷ xs) = x

abbrev pub tail_of : List (List ℕ) → List (List ℕ)
tail_of [] = []
tail_of (x ∷ xs) = xs

abbrev pub count : List (List ℕ) → Bool
count [] = false
count (x ∷ xs) = true

pub part_of : (text part : List ℕ) (parts : List (List ℕ)) → separated text ≡ part ∷ parts → (first_part text ≡ part) × (separated (after_part text) ≡ parts)
part_of text part parts h = by (first_there text)
  where
    by : HasFirst (without_gap text) (separated text) → (first_part text ≡ part) × (separated (after_part text) ≡ parts)
    by (inl e) = absurd (true≢false (ap count (sym h ∙ e.1)))
    by (inr e) = let same : first_part text ∷ separated (after_part text) ≡ part ∷ parts = sym e.1 ∙ h in (ap head_of same, ap tail_of same)

pub end_of : (text : List ℕ) → separated text ≡ [] → first_part text ≡ []
end_of text h = by (first_there text)
  where
    by : HasFirst (without_gap text) (separated text) → first_part text ≡ []
    by (inl e) = e.0
    by (inr e) = absurd (true≢false (ap count (sym e.1 ∙ h)))

-- there is a first part
pub some_part : (text : List ℕ) → is_empty (first_part text) ≡ false → (separated text ≡ [] → ⊥)
some_part text h e = true≢false (sym (ap is_empty (end_of text e)) ∙ h)
