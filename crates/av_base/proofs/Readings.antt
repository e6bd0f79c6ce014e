-- Reading piece by piece gives what the text spells, or its first fault, whatever the language is.
use Rattle.std.proofs.Common.{◌≡◌, ℕ, zero, suc, ◌<◌, ◌≤◌, Bool, true, false, cond, List, [], ◌∷◌, ◌++◌, length, take, drop, Ok, Err, refl, sym, ap, subst, ◌∙◌, arith, inl, inr, ◌⊎◌, true≢false}
use Rattle.std.proofs.Math.Seq.{take-append_seam, drop-append_seam}
use Rattle.std.proofs.lemmas.List.{length-drop, take-append-drop, length-append}
use Rattle.av_base.specs.declared.place.Place.{Place}
use Rattle.av_base.specs.declared.lexeme.Lexeme.{Lexeme}
use Rattle.av_base.specs.declared.lexeme.Lexeme.TheVariants as piece
use Rattle.av_base.specs.Lexicon.{Token, Lexicon, next_place, moved, IsLongest, BeginsNone, is_blank, IsCommented, IsComment, IsText, end, blank, comment, token, IsFault, bad_byte, number, past_blank, past_comment, past_token}
use Rattle.av_base.specs.Reading.{piece_by, Scanner, Reading, with_token, read_by, read_of}
use Rattle.av_base.specs.Reading.{Scanner, Reading, with_token, read_by, read_of}
use Rattle.av_base.proofs.Runs.{chosen}
use Rattle.av_base.proofs.Longest.{Finds}
use Rattle.av_base.proofs.Pieces.{IsPiece, a_blank, a_comment, a_token, no_piece, is_piece, piece_blank, piece_comment, piece_token, piece_none}

ok_is : {Kind Fault : Type 0} (x y : List (Token Kind)) → ◌≡◌ {A = Reading Kind Fault} (Ok x) (Ok y) → x ≡ y
ok_is x y e = cc

err_is : {Kind Fault : Type 0} (x y : Fault) → ◌≡◌ {A = Reading Kind Fault} (Err x) (Err y) → x ≡ y
err_is x y e = cc

token_ok : {Kind Fault : Type 0} (t : Token Kind) (r : Reading Kind Fault) (tokens : List (Token Kind)) → with_token t r ≡ Ok tokens → (us : List (Token Kind)) × (r ≡ Ok us) × (t ∷ us ≡ tokens)
token_ok {Fault = Fault} t (Ok us) tokens e = (us, refl, ok_is {Fault = Fault} (t ∷ us) tokens e)
token_ok t (Err q) tokens e = absurd cc

token_err : {Kind Fault : Type 0} (t : Token Kind) (r : Reading Kind Fault) (f : Fault) → with_token t r ≡ Err f → r ≡ Err f
token_err t (Ok us) f e = absurd cc
token_err {Kind = Kind} t (Err x) f e = ap Err (err_is {Kind = Kind} x f e)

-- ---- what stands before what is left

no_comment : (mark : ℕ) (text rest : List ℕ) → [] ≡ text ++ rest → IsComment mark text rest → ⊥
no_comment mark text rest e c = let whole = e ∙ ap (λ z. z ++ rest) c.marked in cc

some_comment : (mark : ℕ) (text rest : List ℕ) → IsComment mark text rest → 0 < length text
some_comment mark text rest c = let two = ap length c.marked in omega arith

-- what is left is shorter
left_after : (n b : ℕ) (bytes text rest : List ℕ) → b ∷ bytes ≡ text ++ rest → 0 < length text → length (b ∷ bytes) ≤ suc n → length rest ≤ n
left_after n b bytes text rest e s l = let len = ap length e in omega (arith, length-append text rest)

module _ {Kind Fault : Type 0} (lexicon : Lexicon Kind) (scanner : Scanner Kind Fault) (finds : Finds lexicon scanner) where
  out_of_range : (k : Kind) (text : List ℕ) → scanner.in_range k text ≡ false → lexicon.IsInRange k text → ⊥
  out_of_range k text e h = true≢false (sym (finds.in_range k text h) ∙ e)

  not_in_range : (k : Kind) (text : List ℕ) → (lexicon.IsInRange k text → ⊥) → scanner.in_range k text ≡ false
  not_in_range k text h = go (scanner.in_range k text) refl
    where
      go : (t : Bool) → scanner.in_range k text ≡ t → scanner.in_range k text ≡ false
      go true e = absurd (h (finds.ranged k text e))
      go false e = e

  no_token : (k : Kind) (text rest : List ℕ) → [] ≡ text ++ rest → lexicon.IsSpelled k text → ⊥
  no_token k [] rest e s = finds.some k s
  no_token k (b ∷ text) rest e s = cc

  some_token : (k : Kind) (text : List ℕ) → lexicon.IsSpelled k text → 0 < length text
  some_token k [] s = absurd (finds.some k s)
  some_token k (b ∷ text) s = omega arith

  -- ---- what is read is spelled

  module _ (n : ℕ) (p : Place) where
    sound_by : (bytes : List ℕ) (found : Lexeme Kind) (tokens : List (Token Kind)) → IsPiece lexicon bytes found → read_by scanner (λ q rest. read_of lexicon scanner n q rest) p bytes found ≡ Ok tokens
        → ((q : Place) (rest : List ℕ) (us : List (Token Kind)) → read_of lexicon scanner n q rest ≡ Ok us → IsText lexicon q rest us) → IsText lexicon p bytes tokens
    unfolding read_by
    sound_by bytes found tokens (a_blank {b = b} {bytes = rest} h) e ih = blank h (ih (next_place p b) rest tokens e)
    sound_by bytes found tokens (a_comment {n = m} h w c) e ih = comment (sym (take-append-drop m bytes)) c (ih (moved p (take m bytes)) (drop m bytes) tokens e)
    sound_by bytes found tokens (a_token {k = k} {n = m} h f) e ih =
        let t : Token Kind = record { kind = k; text = take m bytes; place = p } in
        let r : Reading Kind Fault = read_of lexicon scanner n (moved p (take m bytes)) (drop m bytes) in
        elim (chosen (scanner.in_range k (take m bytes)) (with_token t r) (Err (scanner.great p)) (Ok tokens) e) [
          | inl x ↦
              let y = token_ok t r tokens x.1 in
              subst (λ z. IsText lexicon p bytes z) y.2 (token (sym (take-append-drop m bytes)) h f.longest (finds.ranged k (take m bytes) x.0) (ih (moved p (take m bytes)) (drop m bytes) y.0 y.1))
          | inr x ↦ absurd cc
        ]
    sound_by bytes found tokens (no_piece h c f) e ih = absurd cc

    fault_by : (bytes : List ℕ) (found : Lexeme Kind) (f : Fault) → length bytes ≤ suc n → IsPiece lexicon bytes found → read_by scanner (λ q rest. read_of lexicon scanner n q rest) p bytes found ≡ Err f
        → ((q : Place) (rest : List ℕ) → length rest ≤ n → read_of lexicon scanner n q rest ≡ Err f → IsFault lexicon scanner.bad scanner.great q rest f) → IsFault lexicon scanner.bad scanner.great p bytes f
    unfolding read_by
    fault_by bytes found f l (a_blank {b = b} {bytes = rest} h) e ih = past_blank h (ih (next_place p b) rest (omega arith) e)
    fault_by bytes found f l (a_comment {n = m} h w c) e ih = past_comment (sym (take-append-drop m bytes)) c (ih (moved p (take m bytes)) (drop m bytes) (simp length-drop (omega arith)) e)
    fault_by bytes found f l (a_token {k = k} {n = m} h x) e ih =
        let t : Token Kind = record { kind = k; text = take m bytes; place = p } in
        let r : Reading Kind Fault = read_of lexicon scanner n (moved p (take m bytes)) (drop m bytes) in
        elim (chosen (scanner.in_range k (take m bytes)) (with_token t r) (Err (scanner.great p)) (Err f) e) [
          | inl y ↦
              past_token (sym (take-append-drop m bytes)) h x.longest (finds.ranged k (take m bytes) y.0)
              (ih (moved p (take m bytes)) (drop m bytes) (let s = x.some in simp length-drop (omega arith)) (token_err t r f y.1))
          | inr y ↦
              subst (λ z. IsFault lexicon scanner.bad scanner.great p bytes z) (err_is {Kind = Kind} (scanner.great p) f y.1)
              (number (sym (take-append-drop m bytes)) h x.longest (out_of_range k (take m bytes) y.0))
        ]
    fault_by bytes found f l (no_piece {b = b} {bytes = more} h c x) e ih =
        subst (λ z. IsFault lexicon scanner.bad scanner.great p (b ∷ more) z) (err_is {Kind = Kind} (scanner.bad p) f e) (bad_byte h c x)

  pub read_fault : (n : ℕ) (p : Place) (bytes : List ℕ) (f : Fault) → length bytes ≤ n → read_of lexicon scanner n p bytes ≡ Err f → IsFault lexicon scanner.bad scanner.great p bytes f
  unfolding read_of
  read_fault n p [] f l e = absurd cc
  read_fault zero p (b ∷ bytes) f l e = absurd (omega arith)
  read_fault (suc n) p (b ∷ bytes) f l e =
      let found : Lexeme Kind = piece_by lexicon.mark scanner.token_of b (b ∷ bytes) in
      fault_by n p (b ∷ bytes) found f l (is_piece lexicon scanner finds b bytes found refl) e (λ q rest w h. read_fault n q rest f w h)

  pub read_sound : (n : ℕ) (p : Place) (bytes : List ℕ) (tokens : List (Token Kind)) → read_of lexicon scanner n p bytes ≡ Ok tokens → IsText lexicon p bytes tokens
  unfolding read_of
  read_sound n p [] tokens e = subst (λ z. IsText lexicon p [] z) (ok_is {Fault = Fault} _ tokens e) end
  read_sound zero p (b ∷ bytes) tokens e = absurd cc
  read_sound (suc n) p (b ∷ bytes) tokens e =
      let found : Lexeme Kind = piece_by lexicon.mark scanner.token_of b (b ∷ bytes) in
      sound_by n p (b ∷ bytes) found tokens (is_piece lexicon scanner finds b bytes found refl) e (λ q rest us h. read_sound n q rest us h)

  -- ---- what is spelled is read

  -- one piece, and what is left
  module _ (n : ℕ) (p : Place) (b : ℕ) (bytes : List ℕ) where
    step_blank : is_blank b ≡ true → read_of lexicon scanner (suc n) p (b ∷ bytes) ≡ read_of lexicon scanner n (next_place p b) bytes
    unfolding read_of read_by
    step_blank h = rw (piece_blank lexicon scanner finds b bytes h) refl

    step_bad : is_blank b ≡ false → (IsCommented lexicon.mark (b ∷ bytes) → ⊥) → BeginsNone lexicon (b ∷ bytes) → read_of lexicon scanner (suc n) p (b ∷ bytes) ≡ Err (scanner.bad p)
    unfolding read_of read_by
    step_bad h c none = rw (piece_none lexicon scanner finds b bytes h c none) refl

    module _ (text rest : List ℕ) (whole : b ∷ bytes ≡ text ++ rest) where
      front : take (length text) (b ∷ bytes) ≡ text
      front = ap (take (length text)) whole ∙ take-append_seam text rest

      back : drop (length text) (b ∷ bytes) ≡ rest
      back = ap (drop (length text)) whole ∙ drop-append_seam text rest

      by_gap : (go : Place → List ℕ → Reading Kind Fault) → read_by scanner go p (b ∷ bytes) (piece.Gap (length text)) ≡ go (moved p text) rest
      unfolding read_by
      by_gap go = rw (front, back) refl

      by_token : (go : Place → List ℕ → Reading Kind Fault) (k : Kind) → read_by scanner go p (b ∷ bytes) (piece.Token k (length text))
          ≡ cond (scanner.in_range k text) (with_token (record { kind = k; text = text; place = p }) (go (moved p text) rest)) (Err (scanner.great p))
      unfolding read_by
      by_token go k = rw (front, back) refl

      step_comment : IsComment lexicon.mark text rest → read_of lexicon scanner (suc n) p (b ∷ bytes) ≡ read_of lexicon scanner n (moved p text) rest
      unfolding read_of read_by
      step_comment c =
          ap (read_by scanner (λ q r. read_of lexicon scanner n q r) p (b ∷ bytes)) (piece_comment lexicon scanner finds b bytes text rest whole c) ∙ by_gap (λ q r. read_of lexicon scanner n q r)

      step_longest : (k : Kind) → (IsCommented lexicon.mark (b ∷ bytes) → ⊥) → IsLongest lexicon k text rest
          → read_of lexicon scanner (suc n) p (b ∷ bytes)
          ≡ cond (scanner.in_range k text) (with_token (record { kind = k; text = text; place = p }) (read_of lexicon scanner n (moved p text) rest)) (Err (scanner.great p))
      unfolding read_of read_by
      step_longest k c l =
          ap (read_by scanner (λ q z. read_of lexicon scanner n q z) p (b ∷ bytes)) (piece_token lexicon scanner finds k b bytes text rest whole c l) ∙ by_token (λ q z. read_of lexicon scanner n q z) k

      step_token : (k : Kind) → (IsCommented lexicon.mark (b ∷ bytes) → ⊥) → IsLongest lexicon k text rest → lexicon.IsInRange k text
          → read_of lexicon scanner (suc n) p (b ∷ bytes) ≡ with_token (record { kind = k; text = text; place = p }) (read_of lexicon scanner n (moved p text) rest)
      step_token k c l r = step_longest k c l ∙ rw (finds.in_range k text r) refl

      step_number : (k : Kind) → (IsCommented lexicon.mark (b ∷ bytes) → ⊥) → IsLongest lexicon k text rest → (lexicon.IsInRange k text → ⊥)
          → read_of lexicon scanner (suc n) p (b ∷ bytes) ≡ Err (scanner.great p)
      step_number k c l h = step_longest k c l ∙ rw (not_in_range k text h) refl

  pub read_complete : {p : Place} {bytes : List ℕ} {tokens : List (Token Kind)} → IsText lexicon p bytes tokens → (n : ℕ) → length bytes ≤ n → read_of lexicon scanner n p bytes ≡ Ok tokens
  unfolding read_of
  read_complete end n l = refl
  read_complete (blank h t) zero l = absurd (omega arith)
  read_complete (blank {p = p} {b = b} {bytes = bytes} h t) (suc n) l = step_blank n p b bytes h ∙ read_complete t n (omega arith)
  read_complete (comment {bytes = []} {text = text} {rest = rest} e c t) n l = absurd (no_comment lexicon.mark text rest e c)
  read_complete (comment {bytes = b ∷ bytes} e c t) zero l = absurd (omega arith)
  read_complete (comment {p = p} {bytes = b ∷ bytes} {text = text} {rest = rest} e c t) (suc n) l =
      step_comment n p b bytes text rest e c ∙ read_complete t n (left_after n b bytes text rest e (some_comment lexicon.mark text rest c) l)
  read_complete (token {k = k} {bytes = []} {text = text} {rest = rest} e h x r t) n l = absurd (no_token k text rest e x.spelled)
  read_complete (token {bytes = b ∷ bytes} e h x r t) zero l = absurd (omega arith)
  read_complete (token {p = p} {k = k} {bytes = b ∷ bytes} {text = text} {rest = rest} e h x r t) (suc n) l =
      step_token n p b bytes text rest e k h x r
      ∙ ap (with_token (record { kind = k; text = text; place = p })) (read_complete t n (left_after n b bytes text rest e (some_token k text x.spelled) l))

  pub fault_complete : {p : Place} {bytes : List ℕ} {f : Fault} → IsFault lexicon scanner.bad scanner.great p bytes f → (n : ℕ) → length bytes ≤ n → read_of lexicon scanner n p bytes ≡ Err f
  unfolding read_of
  fault_complete (bad_byte h c none) zero l = absurd (omega arith)
  fault_complete (bad_byte {p = p} {b = b} {bytes = bytes} h c none) (suc n) l = step_bad n p b bytes h c none
  fault_complete (number {k = k} {bytes = []} {text = text} {rest = rest} e h x g) n l = absurd (no_token k text rest e x.spelled)
  fault_complete (number {bytes = b ∷ bytes} e h x g) zero l = absurd (omega arith)
  fault_complete (number {p = p} {k = k} {bytes = b ∷ bytes} {text = text} {rest = rest} e h x g) (suc n) l = step_number n p b bytes text rest e k h x g
  fault_complete (past_blank h t) zero l = absurd (omega arith)
  fault_complete (past_blank {p = p} {b = b} {bytes = bytes} h t) (suc n) l = step_blank n p b bytes h ∙ fault_complete t n (omega arith)
  fault_complete (past_comment {bytes = []} {text = text} {rest = rest} e c t) n l = absurd (no_comment lexicon.mark text rest e c)
  fault_complete (past_comment {bytes = b ∷ bytes} e c t) zero l = absurd (omega arith)
  fault_complete (past_comment {p = p} {bytes = b ∷ bytes} {text = text} {rest = rest} e c t) (suc n) l =
      step_comment n p b bytes text rest e c ∙ fault_complete t n (left_after n b bytes text rest e (some_comment lexicon.mark text rest c) l)
  fault_complete (past_token {k = k} {bytes = []} {text = text} {rest = rest} e h x r t) n l = absurd (no_token k text rest e x.spelled)
  fault_complete (past_token {bytes = b ∷ bytes} e h x r t) zero l = absurd (omega arith)
  fault_complete (past_token {p = p} {k = k} {bytes = b ∷ bytes} {text = text} {rest = rest} e h x r t) (suc n) l =
      step_token n p b bytes text rest e k h x r
      ∙ ap (with_token (record { kind = k; text = text; place = p })) (fault_complete t n (left_after n b bytes text rest e (some_token k text x.spelled) l))

  -- a text spells at most one list of tokens
  pub one_list : (p : Place) (bytes : List ℕ) (some others : List (Token Kind)) → IsText lexicon p bytes some → IsText lexicon p bytes others → some ≡ others
  one_list p bytes some others t u = ok_is {Fault = Fault} some others (sym (read_complete t (length bytes) (omega arith)) ∙ read_complete u (length bytes) (omega arith))

  -- a text has at most one first fault, and none where it spells tokens
  pub one_fault : (p : Place) (bytes : List ℕ) (some other : Fault) → IsFault lexicon scanner.bad scanner.great p bytes some → IsFault lexicon scanner.bad scanner.great p bytes other → some ≡ other
  one_fault p bytes some other t u = err_is {Kind = Kind} some other (sym (fault_complete t (length bytes) (omega arith)) ∙ fault_complete u (length bytes) (omega arith))

  pub not_both : (p : Place) (bytes : List ℕ) (tokens : List (Token Kind)) (f : Fault) → IsText lexicon p bytes tokens → IsFault lexicon scanner.bad scanner.great p bytes f → ⊥
  not_both p bytes tokens f t u =
      let e : ◌≡◌ {A = Reading Kind Fault} (Ok tokens) (Err f) = sym (read_complete t (length bytes) (omega arith)) ∙ fault_complete u (length bytes) (omega arith) in
      cc

  -- a text spells tokens or has a fault
  pub either : (p : Place) (bytes : List ℕ) → ((tokens : List (Token Kind)) × IsText lexicon p bytes tokens) ⊎ ((f : Fault) × IsFault lexicon scanner.bad scanner.great p bytes f)
  either p bytes = go (read_of lexicon scanner (length bytes) p bytes) refl
    where
      go : (r : Reading Kind Fault) → read_of lexicon scanner (length bytes) p bytes ≡ r → ((tokens : List (Token Kind)) × IsText lexicon p bytes tokens) ⊎ ((f : Fault) × IsFault lexicon scanner.bad scanner.great p bytes f)
      go (Ok tokens) e = inl (tokens, read_sound (length bytes) p bytes tokens e)
      go (Err f) e = inr (f, read_fault (length bytes) p bytes f (omega arith) e)
