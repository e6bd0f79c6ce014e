-- One turn of a loop that reads piece by piece, whatever the language is.
use Rattle.std.proofs.Common.{◌≡◌, ℕ, zero, suc, ◌+◌, ◌-◌, ◌<◌, ◌≤◌, true, false, List, [], ◌∷◌, ◌++◌, length, take, drop, get_or, Ok, Err, refl, sym, ap, subst, ◌∙◌, arith, append_assoc, drop-cons}
use Rattle.std.proofs.lemmas.List.{length-drop, drop-drop, nil_from_length}
use Rattle.av_base.specs.declared.place.Place.{Place}
use Rattle.av_base.specs.declared.lexeme.Lexeme.{Lexeme}
use Rattle.av_base.specs.declared.lexeme.Lexeme.TheVariants as piece
use Rattle.av_base.specs.Lexicon.{Token, Lexicon, start, moved}
use Rattle.av_base.specs.Reading.{piece_by, FitsIn, Scanner, Reading, with_token, read_by, read_of}
use Rattle.av_base.specs.Reading.{Scanner, Reading, with_token, read_by, read_of}
use Rattle.av_base.proofs.Passing.{line_after, column_after}

abbrev pub with_front : {Kind Fault : Type 0} → List (Token Kind) → Reading Kind Fault → Reading Kind Fault
with_front front (Ok tokens) = Ok (front ++ tokens)
with_front front (Err f) = Err f

regroup : {Kind Fault : Type 0} (front : List (Token Kind)) (t : Token Kind) (read : Reading Kind Fault) → with_front front (with_token t read) ≡ with_front (front ++ t ∷ []) read
regroup {Kind = Kind} front t (Ok tokens) = ap (λ (z : List (Token Kind)). Ok z) (simp append_assoc)
regroup front t (Err f) = refl

-- the tokens found so far, and those that are still read
pub record Goes {Kind Fault : Type 0} (lexicon : Lexicon Kind) (scanner : Scanner Kind Fault) (bytes : List ℕ) (at : ℕ) (place : Place) (found : List (Token Kind)) : Type 0 where
  pub fuel : ℕ
  pub within : at ≤ length bytes
  pub enough : length bytes ≤ at + fuel
  pub line : place.line ≤ at + 1
  pub column : place.column ≤ at + 1
  pub is : with_front found (read_of lexicon scanner fuel place (drop at bytes)) ≡ read_of lexicon scanner (length bytes) start bytes

module _ {Kind Fault : Type 0} (lexicon : Lexicon Kind) (scanner : Scanner Kind Fault) where
  pub goes_first : (bytes : List ℕ) → Goes lexicon scanner bytes 0 start []
  goes_first bytes = record { fuel = length bytes; within = omega arith; enough = omega arith; line = omega arith; column = omega arith; is = none (read_of lexicon scanner (length bytes) start bytes) }
    where
      none : (r : Reading Kind Fault) → with_front [] r ≡ r
      none (Ok x) = refl
      none (Err f) = refl

  module _ (bytes : List ℕ) (at : ℕ) (place : Place) (found : List (Token Kind)) (g : Goes lexicon scanner bytes at place found) (lt : at < length bytes) where
    here : drop at bytes ≡ get_or bytes at 0 ∷ drop (suc at) bytes
    here = drop-cons bytes at 0 lt

    -- what one step of the reader gives
    step : (m : ℕ) (p : Lexeme Kind) → p ≡ piece_by lexicon.mark scanner.token_of (get_or bytes at 0) (drop at bytes)
        → read_of lexicon scanner (suc m) place (drop at bytes) ≡ read_by scanner (λ q r. read_of lexicon scanner m q r) place (drop at bytes) p
    unfolding read_of
    step m p e =
        subst (λ (z : List ℕ). read_of lexicon scanner (suc m) place z ≡ read_by scanner (λ q r. read_of lexicon scanner m q r) place z p) (sym here)
        (ap (read_by scanner (λ q r. read_of lexicon scanner m q r) place (get_or bytes at 0 ∷ drop (suc at) bytes)) (sym (ap (piece_by lexicon.mark scanner.token_of (get_or bytes at 0)) here) ∙ sym e))

    -- with the fuel apart, since it is matched
    gap_at : (fuel n : ℕ) → length bytes ≤ at + fuel → with_front found (read_of lexicon scanner fuel place (drop at bytes)) ≡ read_of lexicon scanner (length bytes) start bytes
        → piece.Gap n ≡ piece_by lexicon.mark scanner.token_of (get_or bytes at 0) (drop at bytes) → 0 < n → n ≤ length bytes - at
        → Goes lexicon scanner bytes (at + n) (moved place (take n (drop at bytes))) found
    unfolding read_by
    gap_at zero n enough is e some room = absurd (omega arith)
    gap_at (suc m) n enough is e some room =
        let next : Place = moved place (take n (drop at bytes)) in
        let one : read_of lexicon scanner (suc m) place (drop at bytes) ≡ read_of lexicon scanner m next (drop (at + n) bytes) = step m (piece.Gap n) e ∙ ap (read_of lexicon scanner m next) (drop-drop n at bytes) in
        record { fuel = m; within = omega arith; enough = omega arith; line = line_after bytes at place n g.line; column = column_after bytes at place n g.column; is = ap (with_front found) (sym one) ∙ is }

    token_at : (fuel n : ℕ) (k : Kind) → length bytes ≤ at + fuel → with_front found (read_of lexicon scanner fuel place (drop at bytes)) ≡ read_of lexicon scanner (length bytes) start bytes
        → piece.Token k n ≡ piece_by lexicon.mark scanner.token_of (get_or bytes at 0) (drop at bytes) → scanner.in_range k (take n (drop at bytes)) ≡ true → 0 < n → n ≤ length bytes - at
        → Goes lexicon scanner bytes (at + n) (moved place (take n (drop at bytes))) (found ++ record { kind = k; text = take n (drop at bytes); place = place } ∷ [])
    unfolding read_by
    token_at zero n k enough is e ranged some room = absurd (omega arith)
    token_at (suc m) n k enough is e ranged some room =
        let t : Token Kind = record { kind = k; text = take n (drop at bytes); place = place } in
        let next : Place = moved place (take n (drop at bytes)) in
        let one : read_of lexicon scanner (suc m) place (drop at bytes) ≡ with_token t (read_of lexicon scanner m next (drop (at + n) bytes)) =
        step m (piece.Token k n) e ∙ rw ranged refl ∙ ap (λ (z : List ℕ). with_token t (read_of lexicon scanner m next z)) (drop-drop n at bytes) in
        record {
          fuel = m;
          within = omega arith;
          enough = omega arith;
          line = line_after bytes at place n g.line;
          column = column_after bytes at place n g.column;
          is = sym (ap (with_front found) one ∙ regroup found t (read_of lexicon scanner m next (drop (at + n) bytes))) ∙ is;
        }

    number_at : (fuel n : ℕ) (k : Kind) → length bytes ≤ at + fuel → with_front found (read_of lexicon scanner fuel place (drop at bytes)) ≡ read_of lexicon scanner (length bytes) start bytes
        → piece.Token k n ≡ piece_by lexicon.mark scanner.token_of (get_or bytes at 0) (drop at bytes) → scanner.in_range k (take n (drop at bytes)) ≡ false
        → read_of lexicon scanner (length bytes) start bytes ≡ Err (scanner.great place)
    unfolding read_by
    number_at zero n k enough is e great = absurd (omega arith)
    number_at (suc m) n k enough is e great =
        let one : read_of lexicon scanner (suc m) place (drop at bytes) ≡ Err (scanner.great place) = step m (piece.Token k n) e ∙ rw great refl in
        sym is ∙ ap (with_front found) one

    bad_at : (fuel : ℕ) → length bytes ≤ at + fuel → with_front found (read_of lexicon scanner fuel place (drop at bytes)) ≡ read_of lexicon scanner (length bytes) start bytes
        → piece.Bad ≡ piece_by lexicon.mark scanner.token_of (get_or bytes at 0) (drop at bytes) → read_of lexicon scanner (length bytes) start bytes ≡ Err (scanner.bad place)
    unfolding read_by
    bad_at zero enough is e = absurd (omega arith)
    bad_at (suc m) enough is e =
        let one : read_of lexicon scanner (suc m) place (drop at bytes) ≡ Err (scanner.bad place) = step m piece.Bad e in
        sym is ∙ ap (with_front found) one

    pub after_gap : (n : ℕ) → piece.Gap n ≡ piece_by lexicon.mark scanner.token_of (get_or bytes at 0) (drop at bytes) → FitsIn {Kind = Kind} (piece.Gap n) (length bytes - at)
        → Goes lexicon scanner bytes (at + n) (moved place (take n (drop at bytes))) found
    after_gap n e f = gap_at g.fuel n g.enough g.is e f.0 f.1

    pub after_token : (n : ℕ) (k : Kind) → piece.Token k n ≡ piece_by lexicon.mark scanner.token_of (get_or bytes at 0) (drop at bytes) → scanner.in_range k (take n (drop at bytes)) ≡ true
        → FitsIn (piece.Token k n) (length bytes - at)
        → Goes lexicon scanner bytes (at + n) (moved place (take n (drop at bytes))) (found ++ record { kind = k; text = take n (drop at bytes); place = place } ∷ [])
    after_token n k e r f = token_at g.fuel n k g.enough g.is e r f.0 f.1

    pub too_great : (n : ℕ) (k : Kind) → piece.Token k n ≡ piece_by lexicon.mark scanner.token_of (get_or bytes at 0) (drop at bytes) → scanner.in_range k (take n (drop at bytes)) ≡ false
        → read_of lexicon scanner (length bytes) start bytes ≡ Err (scanner.great place)
    too_great n k e r = number_at g.fuel n k g.enough g.is e r

    pub bad : piece.Bad ≡ piece_by lexicon.mark scanner.token_of (get_or bytes at 0) (drop at bytes) → read_of lexicon scanner (length bytes) start bytes ≡ Err (scanner.bad place)
    bad e = bad_at g.fuel g.enough g.is e

  pub read_end : (bytes : List ℕ) (at : ℕ) (place : Place) (found : List (Token Kind)) → Goes lexicon scanner bytes at place found → length bytes ≤ at
      → read_of lexicon scanner (length bytes) start bytes ≡ Ok (found ++ record { kind = lexicon.last; text = []; place = place } ∷ [])
  unfolding read_of
  read_end bytes at place found g h =
      let none : drop at bytes ≡ [] = nil_from_length (drop at bytes) (simp length-drop (omega arith)) in
      let one : read_of lexicon scanner g.fuel place (drop at bytes) ≡ Ok (record { kind = lexicon.last; text = []; place = place } ∷ []) = rw none (by g.fuel place) in
      sym g.is ∙ ap (with_front found) one
    where
      by : (n : ℕ) (p : Place) → read_of lexicon scanner n p [] ≡ Ok (record { kind = lexicon.last; text = []; place = p } ∷ [])
      by zero p = refl
      by (suc n) p = refl
