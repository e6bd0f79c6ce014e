-- Points are read from their indices.
use Rattle.std.proofs.Common.{◌≡◌, ◌≢◌, ℕ, zero, suc, ◌-◌, ◌<◌, ◌≤◌, Bool, true, false, cond, List, [], ◌∷◌, ◌++◌, length, Option, Some, None, refl, sym, ap, subst, ◌∙◌, arith, append_assoc, w64, FitsSigned, to_z, of_z}
use Rattle.std.specs.Prelude.{nat_eq, ℤ, pos, negsuc, nat_abs, decimal, codes, option_map}
use Rattle.std.specs.Fmt.{signed_decimal}
use Rattle.std.specs.Char.{is_ascii_digit}
use Rattle.std.specs.List.{AllByRecursion, flat_map}
use Rattle.std.specs.Str.{all_ascii_digits}
use Rattle.std.proofs.lemmas.Bool.{eqb-true}
use Rattle.std.proofs.lemmas.Int.{to_z-of_z, fits_signed_from_abs}
use Rattle.std.proofs.lemmas.List.{append-nil}
use Rattle.av_net.specs.Texts.{entries_text, point_text}
use Rattle.av_vread.specs.inner.Lines.{is_not, cut}
use Rattle.av_vread.specs.inner.Entries.{index_of, with_index, indices_by, indices_of, inside_of, closed_by, point_of}
use Rattle.av_vread.proofs.Cuts.{Without, cut_gives, cut_none, cut_is}
use Rattle.av_vread.proofs.Numerals.{decimal_digits, IsIndex, index_is, index_gives}
use Rattle.av_base.proofs.Truths.{both}

-- indices that may be listed
abbrev pub AreSmall : List ℤ → Type 0
AreSmall is = AllByRecursion (λ i. nat_abs i ≤ 4095) is

abbrev some_of : List ℤ → Option (List ℤ)
some_of is = Some is

-- ---- bytes that no point has

-- a byte that is no digit, no sign and no comma
abbrev pub IsApart : ℕ → Type 0
IsApart c = ((b : ℕ) → is_ascii_digit b ≡ true → is_not c b ≡ true) × (is_not c 45 ≡ true)

pub digits_without : (c : ℕ) → ((b : ℕ) → is_ascii_digit b ≡ true → is_not c b ≡ true) → (text : List ℕ) → all_ascii_digits text ≡ true → Without c text
digits_without c h [] e = tt
digits_without c h (b ∷ text) e = let z = both (is_ascii_digit b) (all_ascii_digits text) e in (h b z.0, digits_without c h text z.1)

pub index_without : (c : ℕ) → IsApart c → (i : ℤ) → nat_abs i ≤ 4095 → Without c (signed_decimal i)
index_without c h (pos n) most = digits_without c h.0 (decimal n) (decimal_digits n most)
index_without c h (negsuc n) most = (h.1, digits_without c h.0 (decimal (suc n)) (decimal_digits (suc n) most))

pub without_append : (c : ℕ) (xs ys : List ℕ) → Without c xs → Without c ys → Without c (xs ++ ys)
without_append c [] ys h k = k
without_append c (x ∷ xs) ys h k = (h.0, without_append c xs ys h.1 k)

-- an index and more of them
pub more_indices : (i j : ℤ) (js : List ℤ) → entries_text (i ∷ j ∷ js) ≡ signed_decimal i ++ (44 ∷ entries_text (j ∷ js))
more_indices i j js = refl

one_index : (i : ℤ) → entries_text (i ∷ []) ≡ signed_decimal i
one_index i = append-nil (signed_decimal i)

pub indices_without : (c : ℕ) → IsApart c → is_not c 44 ≡ true → (is : List ℤ) → AreSmall is → Without c (entries_text is)
indices_without c h comma [] s = tt
indices_without c h comma (i ∷ []) s = subst (Without c) (sym (one_index i)) (index_without c h i s.0)
indices_without c h comma (i ∷ j ∷ js) s =
    without_append c (signed_decimal i) (44 ∷ entries_text (j ∷ js)) (index_without c h i s.0) (comma, indices_without c h comma (j ∷ js) s.1)

comma_apart : IsApart 44
comma_apart = ((λ b h. grind arith), refl)

closing_apart : IsApart 41
closing_apart = ((λ b h. grind arith), refl)

pub blank_apart : IsApart 32
blank_apart = ((λ b h. grind arith), refl)

-- ---- indices

pub indices_give : (room : ℕ) (is : List ℤ) → 0 < length is → length is ≤ room → AreSmall is → indices_of room (entries_text is) ≡ Some is
unfolding indices_of
indices_give zero is some room s = absurd (omega arith)
indices_give (suc room) [] some le s = absurd (omega arith)
indices_give (suc room) (i ∷ []) some le s =
    subst (λ (z : List ℕ). indices_by (λ later. indices_of room later) z (cut 44 z) ≡ Some (i ∷ [])) (sym (one_index i))
    (rw (cut_none 44 (signed_decimal i) (index_without 44 comma_apart i s.0), index_gives i s.0) refl)
indices_give (suc room) (i ∷ j ∷ js) some le s =
    let rest = indices_give room (j ∷ js) (omega arith) (omega arith) s.1 in
    rw (cut_gives 44 (signed_decimal i) (entries_text (j ∷ js)) (index_without 44 comma_apart i s.0), index_gives i s.0, rest) refl

pub record AreIndices (room : ℕ) (text : List ℕ) (is : List ℤ) : Type 0 where
  pub spelled : text ≡ entries_text is
  pub some : 0 < length is
  pub within : length is ≤ room
  pub small : AreSmall is

indices_some : (is js : List ℤ) → ◌≡◌ {A = Option (List ℤ)} (Some is) (Some js) → is ≡ js
indices_some is js e = cc

indices_more : (room : ℕ) (first later : List ℕ) (i : ℤ) (js : List ℤ) → IsIndex first i → AreIndices room later js → AreIndices (suc room) (first ++ (44 ∷ later)) (i ∷ js)
indices_more room first later i [] h k = let z = k.some in absurd (omega arith)
indices_more room first later i (j ∷ js) h k = record {
  spelled = ap (λ z. z ++ (44 ∷ later)) h.spelled ∙ ap (λ z. signed_decimal i ++ (44 ∷ z)) k.spelled;
  some = omega arith;
  within = let z = k.within in omega arith;
  small = (h.most, k.small);
}

pub indices_are : (room : ℕ) (text : List ℕ) (is : List ℤ) → indices_of room text ≡ Some is → AreIndices room text is
unfolding indices_of
indices_are zero text is e = absurd cc
indices_are (suc room) text is e = go (cut 44 text) refl e (λ later js f. indices_are room later js f)
  where
    one : (r : Option ℤ) → index_of text ≡ r → with_index r (Some []) ≡ Some is → AreIndices (suc room) text is
    one None f e = absurd cc
    one (Some i) f e =
        let h = index_is text i f in
        subst (AreIndices (suc room) text) (indices_some (i ∷ []) is e) (record { spelled = h.spelled ∙ sym (one_index i); some = omega arith; within = omega arith; small = (h.most, tt) })

    more : (parts : List ℕ × List ℕ) → cut 44 text ≡ Some parts → (r : Option ℤ) → index_of parts.0 ≡ r → (q : Option (List ℤ)) → indices_of room parts.1 ≡ q → with_index r q ≡ Some is
        → ((later : List ℕ) (js : List ℤ) → indices_of room later ≡ Some js → AreIndices room later js) → AreIndices (suc room) text is
    more parts c None f q g e ih = absurd cc
    more parts c (Some i) f None g e ih = absurd cc
    more parts c (Some i) f (Some js) g e ih =
        subst (AreIndices (suc room) text) (indices_some (i ∷ js) is e)
        (subst (λ z. AreIndices (suc room) z (i ∷ js)) (sym (cut_is 44 text parts c).whole) (indices_more room parts.0 parts.1 i js (index_is parts.0 i f) (ih parts.1 js g)))

    go : (c : Option (List ℕ × List ℕ)) → cut 44 text ≡ c → indices_by (λ later. indices_of room later) text c ≡ Some is
        → ((later : List ℕ) (js : List ℤ) → indices_of room later ≡ Some js → AreIndices room later js) → AreIndices (suc room) text is
    go None c e ih = one (index_of text) refl e
    go (Some parts) c e ih = more parts c (index_of parts.0) refl (indices_of room parts.1) refl e ih

-- ---- points

pub record IsPoint (text : List ℕ) (is : List ℤ) : Type 0 where
  pub spelled : text ≡ point_text is
  pub most : length is ≤ 4
  pub small : AreSmall is

-- an index has bytes
index_has : (i : ℤ) (more : List ℕ) → nat_abs i ≤ 4095 → nat_eq (length (signed_decimal i ++ more)) 0 ≡ false
index_has i more most = go (signed_decimal i) refl
  where
    go : (text : List ℕ) → signed_decimal i ≡ text → nat_eq (length (text ++ more)) 0 ≡ false
    go [] e = absurd (let z : index_of [] ≡ Some i = ap index_of (sym e) ∙ index_gives i most in cc)
    go (b ∷ text) e = grind arith

inside_gives : (is : List ℤ) → length is ≤ 4 → AreSmall is → inside_of (entries_text is) ≡ Some is
inside_gives [] le s = refl
inside_gives (i ∷ is) le s = rw (index_has i (flat_map (λ entry. codes "," ++ signed_decimal entry) is) s.0) (indices_give 4 (i ∷ is) (omega arith) le s)

pub point_gives : (is : List ℤ) → length is ≤ 4 → AreSmall is → point_of (point_text is) ≡ Some is
point_gives is le s = rw (cut_gives 41 (entries_text is) [] (indices_without 41 closing_apart refl is s)) (inside_gives is le s)

inside_is : (text : List ℕ) (is : List ℤ) → inside_of text ≡ Some is → (text ≡ entries_text is) × (length is ≤ 4) × AreSmall is
inside_is [] is e = subst (λ z. ([] ≡ entries_text z) × (length z ≤ 4) × AreSmall z) (indices_some [] is e) (refl, omega arith, tt)
inside_is (b ∷ text) is e = let h = indices_are 4 (b ∷ text) is (rw (some (length text)) at e) in (h.spelled, h.within, h.small)
  where
    some : (n : ℕ) → nat_eq (suc n) 0 ≡ false
    some n = grind arith

pub point_is : (text : List ℕ) (is : List ℤ) → point_of text ≡ Some is → IsPoint text is
point_is [] is e = absurd cc
point_is (b ∷ text) is e = go (nat_eq b 40) refl e
  where
    closed : (after : List ℕ) → (inside : List ℕ) → text ≡ inside ++ (41 ∷ after) → closed_by (Some (inside, after)) ≡ Some is → IsPoint (40 ∷ text) is
    closed [] inside w e =
        let h = inside_is inside is e in
        record { spelled = ap (λ z. 40 ∷ z) (w ∙ ap (λ z. z ++ (41 ∷ [])) h.0); most = h.1; small = h.2 }
    closed (c ∷ after) inside w e = absurd (let z : nat_eq (suc (length after)) 0 ≡ false = some (length after) in let f = rw z at e in cc)
      where
        some : (n : ℕ) → nat_eq (suc n) 0 ≡ false
        some n = grind arith

    by : (c : Option (List ℕ × List ℕ)) → cut 41 text ≡ c → closed_by c ≡ Some is → IsPoint (40 ∷ text) is
    by None f e = absurd cc
    by (Some parts) f e = closed parts.1 parts.0 (cut_is 41 text parts f).whole e

    go : (t : Bool) → nat_eq b 40 ≡ t → cond t (closed_by (cut 41 text)) None ≡ Some is → IsPoint (b ∷ text) is
    go true h e = subst (λ c. IsPoint (c ∷ text) is) (sym (eqb-true b 40 h)) (by (cut 41 text) refl e)
    go false h e = absurd cc

pub point_without : (is : List ℤ) → AreSmall is → Without 32 (point_text is)
point_without is s = (refl, without_append 32 (entries_text is) (41 ∷ []) (indices_without 32 blank_apart refl is s) (refl, tt))

-- ---- indices that are put at the end of others

module _ (room : ℕ) (text : List ℕ) (old : List ℤ) where
  abbrev pub all_by : Option (List ℤ) → Option (List ℤ)
  all_by r = option_map (λ is. old ++ is) r

  step : room ≢ 0 → indices_of room text ≡ indices_by (λ later. indices_of (room - 1) later) text (cut 44 text)
  unfolding indices_of
  step some = go room refl
    where
      go : (n : ℕ) → room ≡ n → indices_of n text ≡ indices_by (λ later. indices_of (n - 1) later) text (cut 44 text)
      go zero e = absurd (some e)
      go (suc n) e = let less : suc n - 1 ≡ n = omega arith in rw less refl

  pub no_room : room ≡ 0 → None ≡ all_by (indices_of room text)
  unfolding indices_of
  no_room e = rw e refl

  pub bad_last : room ≢ 0 → None ≡ cut 44 text → None ≡ index_of text → None ≡ all_by (indices_of room text)
  bad_last some c i = rw (step some, sym c, sym i) refl

  pub good_last : room ≢ 0 → (i : ℤ) → None ≡ cut 44 text → Some i ≡ index_of text → Some (old ++ i ∷ []) ≡ all_by (indices_of room text)
  good_last some i c e = rw (step some, sym c, sym e) refl

  pub bad_first : room ≢ 0 → (first later : List ℕ) → Some (first, later) ≡ cut 44 text → None ≡ index_of first → None ≡ all_by (indices_of room text)
  bad_first some first later c i = rw (step some, sym c, sym i) refl

  pub good_first : room ≢ 0 → (first later : List ℕ) (i : ℤ) (new : List ℤ) → Some (first, later) ≡ cut 44 text → Some i ≡ index_of first → new ≡ old ++ i ∷ []
      → option_map (λ is. new ++ is) (indices_of (room - 1) later) ≡ all_by (indices_of room text)
  good_first some first later i new c e n = rw (step some, sym c, sym e, n) (go (indices_of (room - 1) later))
    where
      go : (r : Option (List ℤ)) → option_map (λ is. (old ++ i ∷ []) ++ is) r ≡ all_by (with_index (Some i) r)
      go None = refl
      go (Some is) = ap (λ z. some_of z) (append_assoc old (i ∷ []) is)

-- an index that was read is one of 64 bits
small_fits : (i : ℤ) → nat_abs i ≤ 4095 → FitsSigned w64 i
small_fits (pos n) le = fits_signed_from_abs w64 (pos n) (omega arith)
small_fits (negsuc n) le = fits_signed_from_abs w64 (negsuc n) (omega arith)

pub index_kept : (text : List ℕ) (i : ℤ) → Some i ≡ index_of text → to_z w64 (of_z w64 i) ≡ i
index_kept text i e = to_z-of_z w64 i (small_fits i (index_is text i (sym e)).most)
