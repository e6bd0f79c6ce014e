-- What reading bytes answers: the text that they say, or their first fault.
use Rattle.std.proofs.Common.{◌≡◌, ℕ, List, length, Result, Ok, Err, refl, sym, ap, subst, ◌∙◌, arith, inl, inr, ◌⊎◌}
use Rattle.std.specs.Prelude.{IfOk}
use Rattle.av_base.specs.declared.place.Place.{Place}
use Rattle.av_base.specs.Tokens.{start}
use Rattle.av_net.specs.Lexemes.{Token, design_texts}
use Rattle.av_net.specs.Grammar.{Text}
use Rattle.av_net.specs.Designs.{Says, first_line}
use Rattle.av_vparse.specs.declared.fault.TextFault.{TextFault}
use Rattle.av_vparse.specs.declared.fault.TextFault.TheVariants.{Byte, Syntax, Memory}
use Rattle.av_vparse.specs.declared.parsed.Parsed.{Parsed}
use Rattle.av_vparse.specs.Said.{said}
use Rattle.av_vparse.specs.Beginnings.{BreaksOff}
use Rattle.av_vparse.specs.Parsing.{IsFault}
use Rattle.av_vparse.specs.inner.Lexing.{Lexed, scanner, lexed_of}
use Rattle.av_vparse.specs.inner.Reading.{text_at}
use Rattle.av_vparse.specs.inner.Answers.{Wanted, by_text, by_tokens, read_of, FaultIs, Answers}
use Rattle.av_base.proofs.Readings.{read_sound, read_fault, read_complete, fault_complete}
use Rattle.av_vparse.proofs.Longest.{finds}
use Rattle.av_vparse.proofs.Sound.{text_took}
use Rattle.av_vparse.proofs.Complete.{text_gives}
use Rattle.av_vparse.proofs.BeginningTexts.{stops_there, one_stop, stops_say_none, lexed_ends}

ok_read : (a b : Text × ℕ) → ◌≡◌ {A = Wanted} (Ok a) (Ok b) → a ≡ b
ok_read a b e = cc

err_fault : (f g : TextFault) → ◌≡◌ {A = Wanted} (Err f) (Err g) → f ≡ g
err_fault f g e = cc

ok_or_err : {read : Text × ℕ} {f : TextFault} → ◌≡◌ {A = Wanted} (Ok read) (Err f) → ⊥
ok_or_err e = cc

module _ (bytes : List ℕ) where
  abbrev lexed : Lexed
  lexed = lexed_of (length bytes) start bytes

  -- ---- texts

  says_by : (read : Text × ℕ) (tokens : List Token) (x : Text) → lexed ≡ Ok tokens → text_at tokens ≡ Ok x → ◌≡◌ {A = Wanted} (Ok (x, first_line tokens)) (Ok read) → Says bytes read.0 read.1
  says_by read tokens x e f c =
      subst (λ z. Says bytes z.0 z.1) (ok_read (x, first_line tokens) read c)
      (record { tokens = tokens; lexed = read_sound design_texts scanner finds (length bytes) start bytes tokens e; parsed = text_took tokens x f; begins = refl })

  -- what is answered is said
  pub is_said : (read : Text × ℕ) → read_of bytes ≡ Ok read → Says bytes read.0 read.1
  is_said read c = go lexed refl c
    where
      by : (tokens : List Token) → lexed ≡ Ok tokens → (r : Result Text Place) → text_at tokens ≡ r → by_text (first_line tokens) r ≡ Ok read → Says bytes read.0 read.1
      by tokens e (Ok x) f c = says_by read tokens x e f c
      by tokens e (Err p) f c = absurd cc

      go : (r : Lexed) → lexed ≡ r → by_tokens r ≡ Ok read → Says bytes read.0 read.1
      go (Ok tokens) e c = by tokens e (text_at tokens) refl c
      go (Err p) e c = absurd cc

  -- what is said is answered
  pub is_read : (x : Text) (line : ℕ) → Says bytes x line → read_of bytes ≡ Ok (x, line)
  is_read x line s =
      ap by_tokens (read_complete design_texts scanner finds s.lexed (length bytes) (omega arith)) ∙ ap (by_text (first_line s.tokens)) (text_gives s.tokens x s.parsed)
      ∙ ap (λ n. Ok (x, n)) s.begins

  -- ---- faults

  broken : (tokens : List Token) (p : Place) → lexed ≡ Ok tokens → text_at tokens ≡ Err p → BreaksOff bytes p
  broken tokens p e g =
      let spelled = read_sound design_texts scanner finds (length bytes) start bytes tokens e in
      record { tokens = tokens; lexed = spelled; stops = stops_there tokens p (lexed_ends spelled) g }

  -- a fault that is answered is that of the bytes
  pub is_fault : (f : TextFault) → read_of bytes ≡ Err f → IsFault bytes f
  is_fault f c = go lexed refl c
    where
      by : (tokens : List Token) → lexed ≡ Ok tokens → (r : Result Text Place) → text_at tokens ≡ r → by_text (first_line tokens) r ≡ Err f → IsFault bytes f
      by tokens e (Ok x) g c = absurd cc
      by tokens e (Err p) g c = subst (IsFault bytes) (err_fault (Syntax p) f c) (broken tokens p e g)

      go : (r : Lexed) → lexed ≡ r → by_tokens r ≡ Err f → IsFault bytes f
      go (Ok tokens) e c = by tokens e (text_at tokens) refl c
      go (Err p) e c = subst (IsFault bytes) (err_fault (Byte p) f c) (read_fault design_texts scanner finds (length bytes) start bytes p (omega arith) e)

  break_answer : (p : Place) → BreaksOff bytes p → read_of bytes ≡ Err (Syntax p)
  break_answer p s = ap by_tokens spelled ∙ ap (by_text (first_line s.tokens)) (go (text_at s.tokens) refl)
    where
      spelled : lexed ≡ Ok s.tokens
      spelled = read_complete design_texts scanner finds s.lexed (length bytes) (omega arith)

      go : (r : Result Text Place) → text_at s.tokens ≡ r → text_at s.tokens ≡ Err p
      go (Ok x) e = absurd (stops_say_none s.tokens p x s.stops (text_took s.tokens x e))
      go (Err q) e = e ∙ ap (λ z. Err z) (one_stop s.tokens q p (stops_there s.tokens q (lexed_ends s.lexed) e) s.stops)

  -- the fault of the bytes is answered
  pub is_refused : (f : TextFault) → IsFault bytes f → read_of bytes ≡ Err f
  is_refused (Byte p) h = ap by_tokens (fault_complete design_texts scanner finds h (length bytes) (omega arith))
  is_refused (Syntax p) h = break_answer p h
  is_refused Memory h = absurd h

  -- ---- the answer of the parser

  pub answered_found : (r : Result Parsed TextFault) → Answers r (read_of bytes) → IfOk r (λ parsed. Says bytes (said parsed.text) parsed.line)
  answered_found (Ok parsed) a = is_said (said parsed.text, parsed.line) a
  answered_found (Err f) a = tt

  of_fault : (f : TextFault) → FaultIs f (read_of bytes) → (f ≡ Memory) ⊎ IsFault bytes f
  of_fault Memory c = inl refl
  of_fault (Byte p) c = inr (is_fault (Byte p) c)
  of_fault (Syntax p) c = inr (is_fault (Syntax p) c)

  pub answered_fault : (r : Result Parsed TextFault) → Answers r (read_of bytes) → (f : TextFault) → r ≡ Err f → (f ≡ Memory) ⊎ IsFault bytes f
  answered_fault (Ok parsed) a f e = absurd (no_err parsed f e)
    where
      no_err : (parsed : Parsed) (f : TextFault) → ◌≡◌ {A = Result Parsed TextFault} (Ok parsed) (Err f) → ⊥
      no_err parsed f e = cc
  answered_fault (Err g) a f e = of_fault f (subst (λ z. FaultIs z (read_of bytes)) (err_is g f e) a)
    where
      err_is : (g f : TextFault) → ◌≡◌ {A = Result Parsed TextFault} (Err g) (Err f) → g ≡ f
      err_is g f e = cc

-- ---- laws

pub one_said : (bytes : List ℕ) (x y : Text) (m n : ℕ) → Says bytes x m → Says bytes y n → (x ≡ y) × (m ≡ n)
one_said bytes x y m n s t =
    let same : (x, m) ≡ (y, n) = ok_read (x, m) (y, n) (sym (is_read bytes x m s) ∙ is_read bytes y n t) in
    (ap (λ z. z.0) same, ap (λ z. z.1) same)

pub said_or_faulty : (bytes : List ℕ) → ((x : Text) × (line : ℕ) × Says bytes x line) ⊎ ((f : TextFault) × IsFault bytes f)
said_or_faulty bytes = go (read_of bytes) refl
  where
    go : (r : Wanted) → read_of bytes ≡ r → ((x : Text) × (line : ℕ) × Says bytes x line) ⊎ ((f : TextFault) × IsFault bytes f)
    go (Ok read) e = inl (read.0, read.1, is_said bytes read e)
    go (Err f) e = inr (f, is_fault bytes f e)

pub said_apart : (bytes : List ℕ) (x : Text) (line : ℕ) (f : TextFault) → Says bytes x line → IsFault bytes f → ⊥
said_apart bytes x line f s h = ok_or_err (sym (is_read bytes x line s) ∙ is_refused bytes f h)

pub one_fault : (bytes : List ℕ) (f g : TextFault) → IsFault bytes f → IsFault bytes g → f ≡ g
one_fault bytes f g h k = err_fault f g (sym (is_refused bytes f h) ∙ is_refused bytes g k)
