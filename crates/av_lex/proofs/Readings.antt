-- What the lexer's answer shows of a program text.
use Rattle.std.proofs.Common.{◌≡◌, ℕ, List, [], ◌∷◌, ◌++◌, length, Result, Ok, Err, refl, sym, ap, subst, ◌∙◌, arith, append_assoc, ◌⊎◌}
use Rattle.std.specs.Prelude.{IfOk}
use Rattle.av_base.specs.declared.place.Place.{Place}
use Rattle.av_base.specs.Tokens.{Token, start, moved, IsText, end, blank, comment, token, program_texts}
use Rattle.av_lex.specs.declared.fault.LexFault.{LexFault}
use Rattle.av_lex.specs.declared.fault.LexFault.TheVariants as fault
use Rattle.av_lex.specs.Faults.{IsFault}
use Rattle.av_lex.specs.Lexing.{LieInOrder, views, Gives}
use Rattle.av_lex.specs.declared.token.Token.{Token as Code}
use Rattle.av_lex.specs.inner.Reading.{scanner, read_of}
use Rattle.av_base.proofs.Passing.{moved-append}
use Rattle.av_base.proofs.Readings as readings
use Rattle.av_lex.proofs.Longest.{finds}

-- a text spells at most one list of tokens
pub one_list : (p : Place) (bytes : List ℕ) (some others : List Token) → IsText p bytes some → IsText p bytes others → some ≡ others
one_list = readings.one_list program_texts scanner finds

-- a text has at most one first fault, and none where it spells tokens
pub one_fault : (p : Place) (bytes : List ℕ) (some other : LexFault) → IsFault p bytes some → IsFault p bytes other → some ≡ other
one_fault = readings.one_fault program_texts scanner finds

pub not_both : (p : Place) (bytes : List ℕ) (tokens : List Token) (f : LexFault) → IsText p bytes tokens → IsFault p bytes f → ⊥
not_both = readings.not_both program_texts scanner finds

pub either : (p : Place) (bytes : List ℕ) → ((tokens : List Token) × IsText p bytes tokens) ⊎ ((f : LexFault) × IsFault p bytes f)
either = readings.either program_texts scanner finds

-- ---- the texts of the tokens are parts of the bytes

-- after more bytes
later : (p : Place) (gap rest bytes : List ℕ) (tokens : List Token) → bytes ≡ gap ++ rest → LieInOrder (moved p gap) rest tokens → LieInOrder p bytes tokens
later p gap rest bytes [] e h = tt
later p gap rest bytes (t ∷ tokens) e h =
    (gap ++ h.0, h.1, e ∙ ap (λ z. gap ++ z) h.2 ∙ sym (append_assoc gap h.0 (t.text ++ h.1)), h.3 ∙ sym (moved-append p gap h.0), h.4)

pub in_order : {p : Place} {bytes : List ℕ} {tokens : List Token} → IsText p bytes tokens → LieInOrder p bytes tokens
in_order end = ([], [], refl, refl, tt)
in_order (blank {p = p} {b = b} {bytes = bytes} {tokens = tokens} h t) = later p (b ∷ []) bytes (b ∷ bytes) tokens refl (in_order t)
in_order (comment {p = p} {bytes = bytes} {text = text} {rest = rest} {tokens = tokens} e c t) = later p text rest bytes tokens e (in_order t)
in_order (token {text = text} {rest = rest} e h x r t) = ([], rest, e, refl, in_order t)

-- ---- what an answer shows

module _ (bytes : List ℕ) (r : Result (List Code) LexFault) (given : Gives r (read_of (length bytes) start bytes)) where
  pub gives_only : (tokens : List Token) → IsText start bytes tokens → Gives r (Ok tokens)
  gives_only tokens t = subst (Gives r) (readings.read_complete program_texts scanner finds t (length bytes) (omega arith)) given

  pub gives_refused : (f : LexFault) → IsFault start bytes f → Gives r (Err f)
  gives_refused f t = subst (Gives r) (readings.fault_complete program_texts scanner finds t (length bytes) (omega arith)) given

pub gives_found : (bytes : List ℕ) (r : Result (List Code) LexFault) → Gives r (read_of (length bytes) start bytes) → IfOk r (λ tokens. IsText start bytes (views tokens))
gives_found bytes (Ok tokens) given = readings.read_sound program_texts scanner finds (length bytes) start bytes (views tokens) given
gives_found bytes (Err f) given = tt

pub gives_slices : (bytes : List ℕ) (r : Result (List Code) LexFault) → Gives r (read_of (length bytes) start bytes) → IfOk r (λ tokens. LieInOrder start bytes (views tokens))
gives_slices bytes (Ok tokens) given = in_order (readings.read_sound program_texts scanner finds (length bytes) start bytes (views tokens) given)
gives_slices bytes (Err f) given = tt

pub gives_bad_byte : (bytes : List ℕ) (r : Result (List Code) LexFault) → Gives r (read_of (length bytes) start bytes) → (p : Place) → r ≡ Err (fault.BadByte p) → IsFault start bytes (fault.BadByte p)
gives_bad_byte bytes r given p e = readings.read_fault program_texts scanner finds (length bytes) start bytes (fault.BadByte p) (omega arith) (subst (λ z. Gives z (read_of (length bytes) start bytes)) e given)

pub gives_number : (bytes : List ℕ) (r : Result (List Code) LexFault) → Gives r (read_of (length bytes) start bytes) → (p : Place) → r ≡ Err (fault.Number p) → IsFault start bytes (fault.Number p)
gives_number bytes r given p e = readings.read_fault program_texts scanner finds (length bytes) start bytes (fault.Number p) (omega arith) (subst (λ z. Gives z (read_of (length bytes) start bytes)) e given)
