-- What the piece at the front of a text is, whatever the language is.
use Rattle.std.proofs.Common.{◌≡◌, ◌≢◌, ℕ, suc, ◌-◌, ◌<◌, ◌≤◌, Bool, true, false, cond, not, ◌||◌, List, [], ◌∷◌, ◌++◌, length, take, drop, get_or, refl, sym, ap, subst, ◌∙◌, arith, inl, inr, eq-eqb, true≢false}
use Rattle.std.specs.Prelude.{nat_eq, All}
use Rattle.std.specs.List.{prefix_len}
use Rattle.std.proofs.lemmas.Bool.{eqb-true}
use Rattle.std.proofs.lemmas.List.Elements.{All-from_recursion, recursion_from_All}
use Rattle.std.proofs.lemmas.List.Sums.{prefix_len-le-length}
use Rattle.av_base.specs.declared.lexeme.Lexeme.{Lexeme}
use Rattle.av_base.specs.declared.lexeme.Lexeme.TheVariants as piece
use Rattle.av_base.specs.Lexicon.{Lexicon, IsLongest, BeginsNone, is_blank, IsCommented, IsLineEnd, IsComment}
use Rattle.av_base.specs.Reading.{piece_by, FitsIn, Scanner}
use Rattle.av_base.specs.Spelling.{begins_comment}
use Rattle.av_base.specs.Spelling.{is_not_feed}
use Rattle.av_base.proofs.Runs.{feeds, stops_at, run_exact, chosen, run_all, at_index}
use Rattle.av_base.proofs.Longest.{Finds, Found, IsNoGap, token_found, token_none, token_is, none_is}
use Rattle.av_base.proofs.Truths.{both}

-- ---- what a piece says of the text

pub data IsPiece {Kind : Type 0} (lexicon : Lexicon Kind) : List ℕ → Lexeme Kind → Type 0 where
  a_blank : {b : ℕ} {bytes : List ℕ} → is_blank b ≡ true → IsPiece lexicon (b ∷ bytes) (piece.Gap 1)
  a_comment : {bytes : List ℕ} {n : ℕ} → 0 < n → n ≤ length bytes → IsComment lexicon.mark (take n bytes) (drop n bytes) → IsPiece lexicon bytes (piece.Gap n)
  a_token : {bytes : List ℕ} {k : Kind} {n : ℕ} → (IsCommented lexicon.mark bytes → ⊥) → Found lexicon k n bytes → IsPiece lexicon bytes (piece.Token k n)
  no_piece : {b : ℕ} {bytes : List ℕ} → is_blank b ≡ false → (IsCommented lexicon.mark (b ∷ bytes) → ⊥) → BeginsNone lexicon (b ∷ bytes) → IsPiece lexicon (b ∷ bytes) piece.Bad

-- ---- comments

pub same_eq : (b : ℕ) → nat_eq b b ≡ true
same_eq b = eq-eqb b b refl

-- the byte of a comment ends no line
marks_on : (mark : ℕ) → is_blank mark ≡ false → is_not_feed mark ≡ true
marks_on mark h = go (nat_eq mark 32) (nat_eq mark 9) (nat_eq mark 13) (nat_eq mark 10) refl h
  where
    go : (i j k l : Bool) → nat_eq mark 10 ≡ l → (i || j || k || l) ≡ false → not (nat_eq mark 10) ≡ true
    go true j k l e h = absurd (true≢false h)
    go false true k l e h = absurd (true≢false h)
    go false false true l e h = absurd (true≢false h)
    go false false false true e h = absurd (true≢false h)
    go false false false false e h = ap not e

commented : (mark b : ℕ) (bytes : List ℕ) → begins_comment mark (b ∷ bytes) ≡ true → IsCommented mark (b ∷ bytes)
commented mark b [] h = absurd cc
commented mark b (c ∷ bytes) h =
    let z = both (nat_eq b mark) (nat_eq c mark) h in
    let b-is : b ≡ mark = eqb-true b mark z.0 in
    let c-is : c ≡ mark = eqb-true c mark z.1 in
    (bytes, cc)

marked_twice : (mark : ℕ) (more : List ℕ) → begins_comment mark (mark ∷ mark ∷ more) ≡ true
marked_twice mark more = rw (same_eq mark) refl

not_commented : (mark b : ℕ) (bytes : List ℕ) → begins_comment mark (b ∷ bytes) ≡ false → IsCommented mark (b ∷ bytes) → ⊥
not_commented mark b bytes h c = true≢false (sym (ap (begins_comment mark) c.1 ∙ marked_twice mark c.0) ∙ h)

-- ---- what is found is so

module _ {Kind : Type 0} (lexicon : Lexicon Kind) (no_blank : is_blank lexicon.mark ≡ false) where
  comment_piece : (b : ℕ) (bytes : List ℕ) → begins_comment lexicon.mark (b ∷ bytes) ≡ true → IsPiece lexicon (b ∷ bytes) (piece.Gap (prefix_len is_not_feed (b ∷ bytes)))
  comment_piece b bytes h =
      let c = commented lexicon.mark b bytes h in
      subst (λ (y : List ℕ). IsPiece lexicon y (piece.Gap (prefix_len is_not_feed y))) (sym c.1) (marked c.0)
    where
      marked : (more : List ℕ) → IsPiece lexicon (lexicon.mark ∷ lexicon.mark ∷ more) (piece.Gap (prefix_len is_not_feed (lexicon.mark ∷ lexicon.mark ∷ more)))
      marked more =
          let n = prefix_len is_not_feed more in
          let len : prefix_len is_not_feed (lexicon.mark ∷ lexicon.mark ∷ more) ≡ suc (suc n) = rw (marks_on lexicon.mark no_blank) (omega arith) in
          let fits = prefix_len-le-length is_not_feed more in
          rw len (a_comment {bytes = lexicon.mark ∷ lexicon.mark ∷ more} {n = suc (suc n)} (omega arith) (omega arith) (record { more = take n more; marked = refl; one_line = All-from_recursion (λ b. b ≢ 10) (take n more) (feeds (take n more) (run_all is_not_feed more)); stops = stops_at more }))

module _ {Kind Fault : Type 0} (lexicon : Lexicon Kind) (scanner : Scanner Kind Fault) (finds : Finds lexicon scanner) where
  piece_at : (b : ℕ) (bytes : List ℕ) (found : Lexeme Kind) → scanner.token_of b (b ∷ bytes) ≡ found → is_blank b ≡ false → (IsCommented lexicon.mark (b ∷ bytes) → ⊥) → IsPiece lexicon (b ∷ bytes) found
  piece_at b bytes (piece.Token k n) e h c = a_token c (token_found lexicon scanner finds b bytes k n e)
  piece_at b bytes piece.Bad e h c = no_piece h c (token_none lexicon scanner finds b bytes e)
  piece_at b bytes (piece.Gap n) e h c = absurd (subst (λ z. IsNoGap z) e (finds.no_gap b (b ∷ bytes)))

  pub is_piece : (b : ℕ) (bytes : List ℕ) (found : Lexeme Kind) → piece_by lexicon.mark scanner.token_of b (b ∷ bytes) ≡ found → IsPiece lexicon (b ∷ bytes) found
  unfolding piece_by
  is_piece b bytes found e =
      elim (chosen (is_blank b) (piece.Gap 1) (cond (begins_comment lexicon.mark (b ∷ bytes)) (piece.Gap (prefix_len is_not_feed (b ∷ bytes))) (scanner.token_of b (b ∷ bytes))) found e) [
        | inl p ↦ subst (λ z. IsPiece lexicon (b ∷ bytes) z) p.1 (a_blank p.0)
        | inr p ↦ elim (chosen (begins_comment lexicon.mark (b ∷ bytes)) (piece.Gap (prefix_len is_not_feed (b ∷ bytes))) (scanner.token_of b (b ∷ bytes)) found p.1) [
          | inl q ↦ subst (λ z. IsPiece lexicon (b ∷ bytes) z) q.1 (comment_piece lexicon finds.no_blank b bytes q.0)
          | inr q ↦ piece_at b bytes found q.1 p.0 (not_commented lexicon.mark b bytes q.0)
        ]
      ]

  -- ---- what is so is found

  pub piece_blank : (b : ℕ) (bytes : List ℕ) → is_blank b ≡ true → piece_by lexicon.mark scanner.token_of b (b ∷ bytes) ≡ piece.Gap 1
  unfolding piece_by
  piece_blank b bytes h = rw h refl

  marked_piece : (more rest : List ℕ) → All (λ b. b ≢ 10) more → IsLineEnd rest
      → piece_by lexicon.mark scanner.token_of lexicon.mark (lexicon.mark ∷ lexicon.mark ∷ (more ++ rest)) ≡ piece.Gap (length (lexicon.mark ∷ lexicon.mark ∷ more))
  unfolding piece_by
  marked_piece more rest h s =
      rw (finds.no_blank, marked_twice lexicon.mark (more ++ rest))
      (ap piece.Gap (rw (marks_on lexicon.mark finds.no_blank, run_exact more rest (recursion_from_All (λ b. b ≢ 10) more h) s) (omega arith)))

  pub piece_comment : (b : ℕ) (bytes text rest : List ℕ) → b ∷ bytes ≡ text ++ rest → IsComment lexicon.mark text rest → piece_by lexicon.mark scanner.token_of b (b ∷ bytes) ≡ piece.Gap (length text)
  piece_comment b bytes text rest e c =
      let whole : lexicon.mark ∷ lexicon.mark ∷ (c.more ++ rest) ≡ b ∷ bytes = sym (e ∙ ap (λ z. z ++ rest) c.marked) in
      let head : lexicon.mark ≡ b = cc in
      let len : length (lexicon.mark ∷ lexicon.mark ∷ c.more) ≡ length text = sym (ap length c.marked) in
      subst (λ z. piece_by lexicon.mark scanner.token_of z (b ∷ bytes) ≡ piece.Gap (length text)) head
      (subst (λ (z : List ℕ). piece_by lexicon.mark scanner.token_of lexicon.mark z ≡ piece.Gap (length text)) whole (marked_piece c.more rest c.one_line c.stops ∙ ap piece.Gap len))

  other_piece : (b : ℕ) (bytes : List ℕ) → is_blank b ≡ false → (IsCommented lexicon.mark (b ∷ bytes) → ⊥) → piece_by lexicon.mark scanner.token_of b (b ∷ bytes) ≡ scanner.token_of b (b ∷ bytes)
  unfolding piece_by
  other_piece b bytes e c = go (begins_comment lexicon.mark (b ∷ bytes)) refl
    where
      go : (t : Bool) → begins_comment lexicon.mark (b ∷ bytes) ≡ t → piece_by lexicon.mark scanner.token_of b (b ∷ bytes) ≡ scanner.token_of b (b ∷ bytes)
      go true f = absurd (c (commented lexicon.mark b bytes f))
      go false f = rw (e, f) refl

  pub piece_token : (k : Kind) (b : ℕ) (bytes text rest : List ℕ) → b ∷ bytes ≡ text ++ rest → (IsCommented lexicon.mark (b ∷ bytes) → ⊥) → IsLongest lexicon k text rest
      → piece_by lexicon.mark scanner.token_of b (b ∷ bytes) ≡ piece.Token k (length text)
  piece_token k b bytes text rest whole c l = go (is_blank b) refl
    where
      found : scanner.token_of b (b ∷ bytes) ≡ piece.Token k (length text)
      found = token_is lexicon scanner finds k b bytes text rest whole l

      go : (t : Bool) → is_blank b ≡ t → piece_by lexicon.mark scanner.token_of b (b ∷ bytes) ≡ piece.Token k (length text)
      go true e = absurd (let z : piece.Token k (length text) ≡ piece.Bad = sym found ∙ finds.at_blank b bytes e in cc)
      go false e = other_piece b bytes e c ∙ found

  pub piece_none : (b : ℕ) (bytes : List ℕ) → is_blank b ≡ false → (IsCommented lexicon.mark (b ∷ bytes) → ⊥) → BeginsNone lexicon (b ∷ bytes) → piece_by lexicon.mark scanner.token_of b (b ∷ bytes) ≡ piece.Bad
  piece_none b bytes e c h = other_piece b bytes e c ∙ none_is lexicon scanner finds b bytes h (scanner.token_of b (b ∷ bytes)) refl (finds.no_gap b (b ∷ bytes))

-- ---- what stands at an index fits there

fits_in : {Kind : Type 0} {lexicon : Lexicon Kind} {bytes : List ℕ} {found : Lexeme Kind} → IsPiece lexicon bytes found → FitsIn found (length bytes)
fits_in (a_blank h) = (omega arith, omega arith)
fits_in (a_comment s w c) = (s, w)
fits_in (a_token h f) = (f.some, f.within)
fits_in (no_piece h c f) = tt

pub piece_fits : {Kind Fault : Type 0} (lexicon : Lexicon Kind) (scanner : Scanner Kind Fault) → Finds lexicon scanner → (bytes : List ℕ) (at : ℕ) → at < length bytes
    → FitsIn (piece_by lexicon.mark scanner.token_of (get_or bytes at 0) (drop at bytes)) (length bytes - at)
piece_fits lexicon scanner finds bytes at lt =
    at_index FitsIn (piece_by lexicon.mark scanner.token_of) (λ b rest. fits_in (is_piece lexicon scanner finds b rest (piece_by lexicon.mark scanner.token_of b (b ∷ rest)) refl)) bytes at lt
