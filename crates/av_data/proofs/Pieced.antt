-- The parts of a line of data, found from left to right, and the texts that are spread from parts.
use Rattle.std.proofs.Common.{◌≡◌, ℕ, suc, ◌+◌, Bool, true, false, List, [], ◌∷◌, ◌++◌, length, take, drop, refl, sym, ap, ◌∙◌, subst, arith, inl, inr, true≢false}
use Rattle.std.specs.Prelude.{◌⊎◌, ◌||◌, nat_eq, All, IsTrue}
use Rattle.std.specs.List.{prefix_len}
use Rattle.std.proofs.lemmas.Bool.{eqb-true}
use Rattle.std.proofs.lemmas.List.Elements.{All-nil, All-cons, All-head, All-tail}
use Rattle.av_net.specs.Listed.{longer}
use Rattle.av_data.specs.Lines.{is_gap}
use Rattle.av_data.specs.Reading.{without_gap, is_empty}
use Rattle.av_data.specs.Data.{IsSpread, no_part, one_part}
use Rattle.av_data.specs.inner.Parts.{is_joined, goes_on, pieces_of, piece_len, first_piece, after_piece}
use Rattle.av_data.proofs.Parted.{prefix_yes, prefix_no, never_zero}

-- ---- bytes

pub joined_apart : (b : ℕ) → is_joined b ≡ true → is_gap b ≡ false
joined_apart b h = by (nat_eq b 32) (nat_eq b 9) refl refl
  where
    by : (t u : Bool) → nat_eq b 32 ≡ t → nat_eq b 9 ≡ u → (t || u) ≡ false
    by true u e f = absurd (true≢false (sym h ∙ ap is_joined (eqb-true b 32 e)))
    by false true e f = absurd (true≢false (sym h ∙ ap is_joined (eqb-true b 9 f)))
    by false false e f = refl

pub gap_apart : (b : ℕ) → is_gap b ≡ true → is_joined b ≡ false
gap_apart b h = by (is_joined b) refl
  where
    by : (t : Bool) → is_joined b ≡ t → t ≡ false
    by true e = absurd (true≢false (sym h ∙ joined_apart b e))
    by false e = refl

-- ---- parts from left to right

-- the joined bytes in front, and what follows them
abbrev run : List ℕ → List ℕ
run text = take (prefix_len is_joined text) text

abbrev rest : List ℕ → List ℕ
rest text = drop (prefix_len is_joined text) text

run_yes : (b : ℕ) (bytes : List ℕ) → is_joined b ≡ true → (run (b ∷ bytes) ≡ b ∷ run bytes) × (rest (b ∷ bytes) ≡ rest bytes)
run_yes b bytes h = let e = prefix_yes is_joined b bytes h in (ap (λ n. take n (b ∷ bytes)) e, ap (λ n. drop n (b ∷ bytes)) e)

run_no : (b : ℕ) (bytes : List ℕ) → is_joined b ≡ false → (run (b ∷ bytes) ≡ []) × (rest (b ∷ bytes) ≡ b ∷ bytes)
run_no b bytes h = let e = prefix_no is_joined b bytes h in (ap (λ n. take n (b ∷ bytes)) e, ap (λ n. drop n (b ∷ bytes)) e)

gap_step : (b : ℕ) (bytes : List ℕ) → is_gap b ≡ true → pieces_of (b ∷ bytes) ≡ pieces_of bytes
gap_step b bytes h = rw h refl

join_step : (b : ℕ) (bytes : List ℕ) → is_gap b ≡ false → is_joined b ≡ true → goes_on bytes ≡ true → pieces_of (b ∷ bytes) ≡ longer b (pieces_of bytes)
join_step b bytes g h k = rw (g, h, k) refl

stop_step : (b : ℕ) (bytes : List ℕ) → is_gap b ≡ false → goes_on bytes ≡ false → pieces_of (b ∷ bytes) ≡ (b ∷ []) ∷ pieces_of bytes
stop_step b bytes g k = by (is_joined b) refl
  where
    by : (t : Bool) → is_joined b ≡ t → pieces_of (b ∷ bytes) ≡ (b ∷ []) ∷ pieces_of bytes
    by true e = rw (g, e, k) refl
    by false e = rw (g, e) refl

sign_step : (b : ℕ) (bytes : List ℕ) → is_gap b ≡ false → is_joined b ≡ false → pieces_of (b ∷ bytes) ≡ (b ∷ []) ∷ pieces_of bytes
sign_step b bytes g h = rw (g, h) refl

run_splits : (b : ℕ) (bytes : List ℕ) → is_joined b ≡ true → pieces_of (b ∷ bytes) ≡ (b ∷ run bytes) ∷ pieces_of (rest bytes)
run_splits b [] h = stop_step b [] (joined_apart b h) refl
run_splits b (c ∷ bytes) h = by (is_joined c) refl (λ k. run_splits c bytes k)
  where
    by : (t : Bool) → is_joined c ≡ t → (is_joined c ≡ true → pieces_of (c ∷ bytes) ≡ (c ∷ run bytes) ∷ pieces_of (rest bytes))
        → pieces_of (b ∷ c ∷ bytes) ≡ (b ∷ run (c ∷ bytes)) ∷ pieces_of (rest (c ∷ bytes))
    by false k ih =
        stop_step b (c ∷ bytes) (joined_apart b h) k ∙ ap (λ z. (b ∷ z) ∷ pieces_of (c ∷ bytes)) (sym (run_no c bytes k).0) ∙ ap (λ z. (b ∷ run (c ∷ bytes)) ∷ pieces_of z) (sym (run_no c bytes k).1)
    by true k ih =
        join_step b (c ∷ bytes) (joined_apart b h) h k ∙ ap (longer b) (ih k) ∙ ap (λ z. (b ∷ z) ∷ pieces_of (rest bytes)) (sym (run_yes c bytes k).0)
        ∙ ap (λ z. (b ∷ run (c ∷ bytes)) ∷ pieces_of z) (sym (run_yes c bytes k).1)

-- what a text without blanks in front begins with
pub record Begins (text : List ℕ) (pieces : List (List ℕ)) : Type 0 where
  pub some : is_empty (take (piece_len text) text) ≡ false
  pub splits : pieces ≡ take (piece_len text) text ∷ pieces_of (drop (piece_len text) text)

one_more : (n : ℕ) → 1 + n ≡ suc n
one_more n = omega arith

begins : (b : ℕ) (bytes : List ℕ) → is_gap b ≡ false → Begins (b ∷ bytes) (pieces_of (b ∷ bytes))
begins b bytes g = by (is_joined b) refl
  where
    by : (t : Bool) → is_joined b ≡ t → Begins (b ∷ bytes) (pieces_of (b ∷ bytes))
    by true e =
        let n : piece_len (b ∷ bytes) ≡ suc (prefix_len is_joined bytes) = rw e (one_more (prefix_len is_joined bytes)) in
        record {
          some = ap (λ k. is_empty (take k (b ∷ bytes))) n ∙ never_zero (length (run bytes));
          splits = run_splits b bytes e ∙ ap (λ k. take k (b ∷ bytes) ∷ pieces_of (drop k (b ∷ bytes))) (sym n);
        }
    by false e =
        let n : piece_len (b ∷ bytes) ≡ 1 = rw e refl in
        record {
          some = ap (λ k. is_empty (take k (b ∷ bytes))) n;
          splits = sign_step b bytes g e ∙ ap (λ k. take k (b ∷ bytes) ∷ pieces_of (drop k (b ∷ bytes))) (sym n);
        }

abbrev HasFirst : List ℕ → List (List ℕ) → Type 0
HasFirst text pieces = ((take (piece_len text) text ≡ []) × (pieces ≡ [])) ⊎ Begins text pieces

first_there : (text : List ℕ) → HasFirst (without_gap text) (pieces_of text)
first_there [] = inl (refl, refl)
first_there (b ∷ bytes) = by (is_gap b) refl (first_there bytes)
  where
    by : (t : Bool) → is_gap b ≡ t → HasFirst (without_gap bytes) (pieces_of bytes) → HasFirst (without_gap (b ∷ bytes)) (pieces_of (b ∷ bytes))
    by true k ih =
        let gone : without_gap (b ∷ bytes) ≡ without_gap bytes = ap (λ n. drop n (b ∷ bytes)) (prefix_yes is_gap b bytes k) in
        subst (λ w. HasFirst w (pieces_of (b ∷ bytes))) (sym gone) (subst (HasFirst (without_gap bytes)) (sym (gap_step b bytes k)) ih)
    by false k ih =
        let kept : without_gap (b ∷ bytes) ≡ b ∷ bytes = ap (λ n. drop n (b ∷ bytes)) (prefix_no is_gap b bytes k) in
        subst (λ w. HasFirst w (pieces_of (b ∷ bytes))) (sym kept) (inr (begins b bytes k))

-- the first part and the rest, or none
pub record NoPiece (text : List ℕ) : Type 0 where
  pub empty : first_piece text ≡ []
  pub none : pieces_of text ≡ []

pub record OnePiece (text : List ℕ) : Type 0 where
  pub some : is_empty (first_piece text) ≡ false
  pub one : pieces_of text ≡ first_piece text ∷ pieces_of (after_piece text)

pub front : (text : List ℕ) → NoPiece text ⊎ OnePiece text
front text = by (first_there text)
  where
    by : HasFirst (without_gap text) (pieces_of text) → NoPiece text ⊎ OnePiece text
    by (inl e) = inl (record { empty = e.0; none = e.1 })
    by (inr e) = inr (record { some = e.some; one = e.splits })

-- the first part passes a test that nothing does not pass
pub piece_is : (test : List ℕ → Bool) (text : List ℕ) → test [] ≡ false → test (first_piece text) ≡ true → pieces_of text ≡ first_piece text ∷ pieces_of (after_piece text)
piece_is test text none h = by (front text)
  where
    by : NoPiece text ⊎ OnePiece text → pieces_of text ≡ first_piece text ∷ pieces_of (after_piece text)
    by (inl e) = absurd (true≢false (sym h ∙ ap test e.empty ∙ none))
    by (inr e) = e.one

pub end_is : (text : List ℕ) → is_empty (first_piece text) ≡ true → pieces_of text ≡ []
end_is text h = by (front text)
  where
    by : NoPiece text ⊎ OnePiece text → pieces_of text ≡ []
    by (inl e) = e.none
    by (inr e) = absurd (true≢false (sym h ∙ e.some))

-- ---- a text is spread from its parts

gap_front : (b : ℕ) (bytes : List ℕ) (parts : List (List ℕ)) → is_gap b ≡ true → IsSpread parts bytes → IsSpread parts (b ∷ bytes)
gap_front b bytes [] h (no_part all) = no_part (All-cons (λ x. IsTrue (is_gap x)) b bytes h all)
gap_front b bytes (part ∷ parts) h (one_part gap more e all r) = one_part (b ∷ gap) more (ap (λ bs. b ∷ bs) e) (All-cons (λ x. IsTrue (is_gap x)) b gap h all) r

no_gap_on : (g : ℕ) (gap : List ℕ) (text more : List ℕ) → text ≡ (g ∷ gap) ++ more → All (λ x. IsTrue (is_gap x)) (g ∷ gap) → goes_on text ≡ false
no_gap_on g gap text more e all = ap goes_on e ∙ gap_apart g (All-head (λ x. IsTrue (is_gap x)) g gap all)

longer_spread : (b : ℕ) (text : List ℕ) (parts : List (List ℕ)) → goes_on text ≡ true → IsSpread parts text → IsSpread (longer b parts) (b ∷ text)
longer_spread b [] [] h (no_part all) = absurd (true≢false (sym h))
longer_spread b (c ∷ text) [] h (no_part all) = absurd (true≢false (sym h ∙ gap_apart c (All-head (λ x. IsTrue (is_gap x)) c text all)))
longer_spread b text (part ∷ parts) h (one_part [] more e all r) = one_part [] more (ap (λ bs. b ∷ bs) e) all r
longer_spread b text (part ∷ parts) h (one_part (g ∷ gap) more e all r) = absurd (true≢false (sym h ∙ no_gap_on g gap text (part ++ more) e all))

alone : (b : ℕ) (bytes : List ℕ) (parts : List (List ℕ)) → IsSpread parts bytes → IsSpread ((b ∷ []) ∷ parts) (b ∷ bytes)
alone b bytes parts r = one_part [] bytes refl (All-nil (λ x. IsTrue (is_gap x))) r

pub spread_pieces : (text : List ℕ) → IsSpread (pieces_of text) text
spread_pieces [] = no_part (All-nil (λ x. IsTrue (is_gap x)))
spread_pieces (b ∷ bytes) = by (is_gap b) (is_joined b) (goes_on bytes) refl refl refl (spread_pieces bytes)
  where
    by : (t u v : Bool) → is_gap b ≡ t → is_joined b ≡ u → goes_on bytes ≡ v → IsSpread (pieces_of bytes) bytes → IsSpread (pieces_of (b ∷ bytes)) (b ∷ bytes)
    by true u v e f g ih = subst (λ ps. IsSpread ps (b ∷ bytes)) (sym (gap_step b bytes e)) (gap_front b bytes (pieces_of bytes) e ih)
    by false true true e f g ih = subst (λ ps. IsSpread ps (b ∷ bytes)) (sym (join_step b bytes e f g)) (longer_spread b bytes (pieces_of bytes) g ih)
    by false true false e f g ih = subst (λ ps. IsSpread ps (b ∷ bytes)) (sym (stop_step b bytes e g)) (alone b bytes (pieces_of bytes) ih)
    by false false v e f g ih = subst (λ ps. IsSpread ps (b ∷ bytes)) (sym (sign_step b bytes e f)) (alone b bytes (pieces_of bytes) ih)

-- ---- parts that a text is spread from are its parts, where no two runs meet

-- joined bytes, at least one
abbrev pub IsRun : List ℕ → Type 0
IsRun [] = ⊥
IsRun (b ∷ bytes) = IsTrue (is_joined b) × All (λ x. IsTrue (is_joined x)) bytes

-- one byte that is neither joined nor a gap
abbrev pub IsSign : List ℕ → Type 0
IsSign [] = ⊥
IsSign (b ∷ []) = (is_joined b ≡ false) × (is_gap b ≡ false)
IsSign (b ∷ c ∷ bytes) = ⊥

abbrev pub Stops : List (List ℕ) → Type 0
Stops [] = Unit {0}
Stops (part ∷ parts) = IsSign part

abbrev pub AreApart : List (List ℕ) → Type 0
AreApart [] = Unit {0}
AreApart (part ∷ parts) = (IsSign part ⊎ (IsRun part × Stops parts)) × AreApart parts

gap_gone : (gap text : List ℕ) → All (λ x. IsTrue (is_gap x)) gap → pieces_of (gap ++ text) ≡ pieces_of text
gap_gone [] text all = refl
gap_gone (b ∷ gap) text all = gap_step b (gap ++ text) (All-head (λ x. IsTrue (is_gap x)) b gap all) ∙ gap_gone gap text (All-tail (λ x. IsTrue (is_gap x)) b gap all)

gap_only : (gap : List ℕ) → All (λ x. IsTrue (is_gap x)) gap → pieces_of gap ≡ []
gap_only [] all = refl
gap_only (b ∷ gap) all = gap_step b gap (All-head (λ x. IsTrue (is_gap x)) b gap all) ∙ gap_only gap (All-tail (λ x. IsTrue (is_gap x)) b gap all)

sign_off : (part more : List ℕ) → IsSign part → goes_on (part ++ more) ≡ false
sign_off [] more s = absurd s
sign_off (b ∷ []) more s = s.0
sign_off (b ∷ c ∷ part) more s = absurd s

not_on : (parts : List (List ℕ)) (text : List ℕ) → Stops parts → IsSpread parts text → goes_on text ≡ false
not_on [] [] s (no_part all) = refl
not_on [] (b ∷ text) s (no_part all) = gap_apart b (All-head (λ x. IsTrue (is_gap x)) b text all)
not_on (part ∷ parts) text s (one_part [] more e all r) = ap goes_on e ∙ sign_off part more s
not_on (part ∷ parts) text s (one_part (g ∷ gap) more e all r) = no_gap_on g gap text (part ++ more) e all

run_piece : (b : ℕ) (bytes more : List ℕ) → is_joined b ≡ true → All (λ x. IsTrue (is_joined x)) bytes → goes_on more ≡ false → pieces_of ((b ∷ bytes) ++ more) ≡ (b ∷ bytes) ∷ pieces_of more
run_piece b [] more h all off = stop_step b more (joined_apart b h) off
run_piece b (c ∷ bytes) more h all off =
    let k = All-head (λ x. IsTrue (is_joined x)) c bytes all in
    join_step b ((c ∷ bytes) ++ more) (joined_apart b h) h k ∙ ap (longer b) (run_piece c bytes more k (All-tail (λ x. IsTrue (is_joined x)) c bytes all) off)

sign_piece : (part more : List ℕ) → IsSign part → pieces_of (part ++ more) ≡ part ∷ pieces_of more
sign_piece [] more s = absurd s
sign_piece (b ∷ []) more s = sign_step b more s.1 s.0
sign_piece (b ∷ c ∷ part) more s = absurd s

whole_run : (part more : List ℕ) → IsRun part → goes_on more ≡ false → pieces_of (part ++ more) ≡ part ∷ pieces_of more
whole_run [] more s off = absurd s
whole_run (b ∷ bytes) more s off = run_piece b bytes more s.0 s.1 off

pub spread_are : (parts : List (List ℕ)) (text : List ℕ) → AreApart parts → IsSpread parts text → pieces_of text ≡ parts
spread_are [] text a (no_part all) = gap_only text all
spread_are (part ∷ parts) text a (one_part gap more e all r) =
    ap pieces_of e ∙ gap_gone gap (part ++ more) all ∙ by a.0 ∙ ap (λ ps. part ∷ ps) (spread_are parts more a.1 r)
  where
    by : IsSign part ⊎ (IsRun part × Stops parts) → pieces_of (part ++ more) ≡ part ∷ pieces_of more
    by (inl s) = sign_piece part more s
    by (inr s) = whole_run part more s.0 (not_on parts more s.1 r)
