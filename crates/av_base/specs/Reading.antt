-- Reading a text piece by piece, from a place on, whatever the language is.
use Rattle.std.specs.Prelude.{ℕ, zero, suc, ◌<◌, ◌≤◌, Bool, false, if◌then◌else◌, List, [], ◌∷◌, take, drop, Result, Ok, Err}
use Rattle.std.specs.List.{prefix_len}
use Rattle.av_base.specs.declared.place.Place.{Place}
use Rattle.av_base.specs.declared.lexeme.Lexeme.{Lexeme}
use Rattle.av_base.specs.declared.lexeme.Lexeme.TheVariants as piece
use Rattle.av_base.specs.Lexicon.{is_blank, moved, Token, Lexicon}
use Rattle.av_base.specs.Spelling.{is_not_feed, begins_comment}

-- ---- what stands at the front of a text

-- what stands at the front: a blank, a comment, or what token_of finds
unfoldable pub piece_by : {Kind : Type 0} → ℕ → (ℕ → List ℕ → Lexeme Kind) → ℕ → List ℕ → Lexeme Kind
piece_by mark token_of first text =
    if is_blank first then piece.Gap 1
    else (if begins_comment mark text then piece.Gap (prefix_len is_not_feed text) else token_of first text)

-- the text begins with a symbol of two bytes
abbrev pub begins_pair : (ℕ → ℕ → Bool) → List ℕ → Bool
begins_pair is_pair (b ∷ c ∷ bytes) = is_pair b c
begins_pair is_pair _ = false

-- the symbol at the front, of two bytes where there is one
abbrev pub symbol_by : {Kind : Type 0} → Kind → (ℕ → Bool) → (ℕ → ℕ → Bool) → ℕ → List ℕ → Lexeme Kind
symbol_by symbol is_single is_pair first text =
    if begins_pair is_pair text then piece.Token symbol 2
    else (if is_single first then piece.Token symbol 1 else piece.Bad)

-- the piece has bytes, and no more than there are
abbrev pub FitsIn : {Kind : Type 0} → Lexeme Kind → ℕ → Type 0
FitsIn (piece.Gap n) room = (0 < n) × (n ≤ room)
FitsIn (piece.Token k n) room = (0 < n) × (n ≤ room)
FitsIn piece.Bad room = Unit {0}

-- ---- reading

-- the tests by which tokens are found, and the faults where there are none
pub record Scanner (Kind Fault : Type 0) : Type 0 where
  -- the token at the front, where no blank and no comment stands there
  pub token_of : ℕ → List ℕ → Lexeme Kind
  -- what is found so is no number that is too great
  pub in_range : Kind → List ℕ → Bool
  pub bad : Place → Fault
  pub great : Place → Fault

-- the tokens of a text, or its first fault
abbrev pub Reading : Type 0 → Type 0 → Type 0
Reading Kind Fault = Result (List (Token Kind)) Fault

-- a token, and what is read after it
abbrev pub with_token : {Kind Fault : Type 0} → Token Kind → Reading Kind Fault → Reading Kind Fault
with_token t (Ok tokens) = Ok (t ∷ tokens)
with_token t (Err fault) = Err fault

-- a piece, and what go reads from the place after it
unfoldable pub read_by : {Kind Fault : Type 0} → Scanner Kind Fault → (Place → List ℕ → Reading Kind Fault) → Place → List ℕ → Lexeme Kind → Reading Kind Fault
read_by scanner go p bytes (piece.Gap n) = go (moved p (take n bytes)) (drop n bytes)
read_by scanner go p bytes (piece.Token k n) =
    if scanner.in_range k (take n bytes) then with_token (record { kind = k; text = take n bytes; place = p }) (go (moved p (take n bytes)) (drop n bytes))
    else Err (scanner.great p)
read_by scanner go p bytes piece.Bad = Err (scanner.bad p)

-- what at most n pieces give; as many as there are bytes are enough
unfoldable pub read_of : {Kind Fault : Type 0} → Lexicon Kind → Scanner Kind Fault → ℕ → Place → List ℕ → Reading Kind Fault
read_of lexicon scanner n p [] = Ok (record { kind = lexicon.last; text = []; place = p } ∷ [])
read_of lexicon scanner zero p (b ∷ bytes) = Err (scanner.bad p)
read_of lexicon scanner (suc n) p (b ∷ bytes) =
    read_by scanner (λ q rest. read_of lexicon scanner n q rest) p (b ∷ bytes) (piece_by lexicon.mark scanner.token_of b (b ∷ bytes))
