-- A text as a list of tokens, whatever the language is: where the tokens stand, what stands between them, and the first fault.
-- (The longest match is the textbook's.)
use Rattle.std.specs.Prelude.{◌≡◌, ◌≢◌, ℕ, ◌+◌, ◌≤◌, Bool, false, ◌||◌, if◌then◌else◌, IsTrue, nat_eq, List, [], ◌∷◌, ◌++◌, length, All}
use Rattle.av_base.specs.declared.place.Place.{Place}

-- ---- places

-- where a text begins
abbrev pub start : Place
start = record { line = 1; column = 1 }

-- the place after one byte: only a line feed ends a line
abbrev pub next_place : Place → ℕ → Place
next_place p b = if nat_eq b 10 then record { line = p.line + 1; column = 1 } else record { line = p.line; column = p.column + 1 }

-- the place after some bytes
abbrev pub moved : Place → List ℕ → Place
moved p [] = p
moved p (b ∷ bytes) = moved (next_place p b) bytes

-- ---- tokens

-- a token, with its bytes
pub record Token (Kind : Type 0) : Type 0 where
  pub kind : Kind
  pub text : List ℕ
  pub place : Place

-- how a language spells its tokens
pub record Lexicon (Kind : Type 0) : Type 1 where
  -- the kind of the token that ends each text
  pub last : Kind
  -- the bytes have the shape of a token of this kind
  pub IsSpelled : Kind → List ℕ → Type 0
  -- what is spelled so is no number that is too great
  pub IsInRange : Kind → List ℕ → Type 0
  -- a comment begins with this byte twice
  pub mark : ℕ

-- text has the shape of a token of this kind, and text ++ rest begins with no longer token
pub record IsLongest {Kind : Type 0} (lexicon : Lexicon Kind) (k : Kind) (text rest : List ℕ) : Type 0 where
  pub spelled : lexicon.IsSpelled k text
  pub longest : (other : Kind) (front back : List ℕ) → text ++ rest ≡ front ++ back → lexicon.IsSpelled other front → length front ≤ length text

-- the bytes begin with no token
abbrev pub BeginsNone : {Kind : Type 0} → Lexicon Kind → List ℕ → Type 0
BeginsNone {Kind = Kind} lexicon bytes = (k : Kind) (front back : List ℕ) → bytes ≡ front ++ back → lexicon.IsSpelled k front → ⊥

-- ---- what stands between tokens

-- a blank, a tab, a carriage return or a line feed
abbrev pub is_blank : ℕ → Bool
is_blank b = nat_eq b 32 || nat_eq b 9 || nat_eq b 13 || nat_eq b 10

-- the bytes begin with a comment
abbrev pub IsCommented : ℕ → List ℕ → Type 0
IsCommented mark bytes = (more : List ℕ) × (bytes ≡ mark ∷ mark ∷ more)

-- nothing more stands on the line
abbrev pub IsLineEnd : List ℕ → Type 0
IsLineEnd [] = Unit {0}
IsLineEnd (b ∷ bytes) = b ≡ 10

-- text is a comment, which goes up to the line feed or the end
pub record IsComment (mark : ℕ) (text rest : List ℕ) : Type 0 where
  pub more : List ℕ
  pub marked : text ≡ mark ∷ mark ∷ more
  pub one_line : All (λ b. b ≢ 10) more
  pub stops : IsLineEnd rest

-- ---- whole texts

-- `IsText lexicon p bytes tokens`: the bytes, which stand from the place p on, spell the tokens
pub data IsText {Kind : Type 0} (lexicon : Lexicon Kind) : Place → List ℕ → List (Token Kind) → Type 0 where
  end : {p : Place} → IsText lexicon p [] (record { kind = lexicon.last; text = []; place = p } ∷ [])
  blank : {p : Place} {b : ℕ} {bytes : List ℕ} {tokens : List (Token Kind)} → IsTrue (is_blank b) → IsText lexicon (next_place p b) bytes tokens
      → IsText lexicon p (b ∷ bytes) tokens
  comment : {p : Place} {bytes text rest : List ℕ} {tokens : List (Token Kind)} → bytes ≡ text ++ rest → IsComment lexicon.mark text rest
      → IsText lexicon (moved p text) rest tokens → IsText lexicon p bytes tokens
  token : {p : Place} {k : Kind} {bytes text rest : List ℕ} {tokens : List (Token Kind)} → bytes ≡ text ++ rest → (IsCommented lexicon.mark bytes → ⊥)
      → IsLongest lexicon k text rest → lexicon.IsInRange k text → IsText lexicon (moved p text) rest tokens
      → IsText lexicon p bytes (record { kind = k; text = text; place = p } ∷ tokens)

-- `IsFault lexicon bad great p bytes fault`: of the bytes, which stand from the place p on, the first that are neither blank,
-- comment nor token begin no token, which is the fault `bad` at their place, or they are a number that is too great, which is
-- the fault `great`
pub data IsFault {Kind Fault : Type 0} (lexicon : Lexicon Kind) (bad great : Place → Fault) : Place → List ℕ → Fault → Type 0 where
  bad_byte : {p : Place} {b : ℕ} {bytes : List ℕ} → is_blank b ≡ false → (IsCommented lexicon.mark (b ∷ bytes) → ⊥) → BeginsNone lexicon (b ∷ bytes)
      → IsFault lexicon bad great p (b ∷ bytes) (bad p)
  number : {p : Place} {k : Kind} {bytes text rest : List ℕ} → bytes ≡ text ++ rest → (IsCommented lexicon.mark bytes → ⊥) → IsLongest lexicon k text rest
      → (lexicon.IsInRange k text → ⊥) → IsFault lexicon bad great p bytes (great p)
  past_blank : {p : Place} {b : ℕ} {bytes : List ℕ} {fault : Fault} → IsTrue (is_blank b) → IsFault lexicon bad great (next_place p b) bytes fault
      → IsFault lexicon bad great p (b ∷ bytes) fault
  past_comment : {p : Place} {bytes text rest : List ℕ} {fault : Fault} → bytes ≡ text ++ rest → IsComment lexicon.mark text rest
      → IsFault lexicon bad great (moved p text) rest fault → IsFault lexicon bad great p bytes fault
  past_token : {p : Place} {k : Kind} {bytes text rest : List ℕ} {fault : Fault} → bytes ≡ text ++ rest → (IsCommented lexicon.mark bytes → ⊥)
      → IsLongest lexicon k text rest → lexicon.IsInRange k text → IsFault lexicon bad great (moved p text) rest fault
      → IsFault lexicon bad great p bytes fault
