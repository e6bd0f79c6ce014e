-- Reading tokens from left to right, up to the first fault that is met.
use Rattle.std.specs.Prelude.{◌≡◌, ℕ, Bool, true, false, ◌&&◌, if◌then◌else◌, nat_eq, List, [], ◌∷◌, ◌++◌, length, Result, Ok, Err}
use Rattle.std.specs.Str.{bytes_eq}
use Rattle.av_base.specs.declared.place.Place.{Place}
use Rattle.av_base.specs.declared.token_kind.TokenKind.{TokenKind}
use Rattle.av_base.specs.declared.token_kind.TokenKind.TheVariants as kind
use Rattle.av_base.specs.Tokens.{Token, start, number_of}
use Rattle.av_tree.specs.Trees.{Text}
use Rattle.av_parse.specs.declared.fault.Fault.{Fault}
use Rattle.av_parse.specs.declared.fault.Fault.TheVariants.{Syntax, Depth}
use Rattle.av_parse.specs.declared.fault.Stop.{Stop}
use Rattle.av_parse.specs.declared.fault.Stop.TheVariants as stop

infixl 10 ◌>>=◌
abbrev pub ◌>>=◌ : {A B : Type 0} → Result A Fault → (A → Result B Fault) → Result B Fault
(Ok x) >>= f = f x
(Err e) >>= f = Err e

-- a value, and the tokens after it; a fault tells how many tokens are left from the faulty one on
abbrev pub Read : Type 0 → Type 0
Read A = List Token → Result (A × List Token) Fault

-- the program stopped where reading does, or memory ran out
abbrev pub Stops : {Y : Type 0} → Stop → Result Y Fault → Type 0
Stops stop.Memory read = Unit {0}
Stops (stop.Fault f) read = read ≡ Err f

-- what the program found, seen by view, is what reading gives
abbrev pub Gives : {X Y : Type 0} → (X → Y) → Result X Stop → Result Y Fault → Type 0
Gives view (Ok x) read = read ≡ Ok (view x)
Gives view (Err e) read = Stops e read

-- a list that is read behind another one
abbrev pub with_front : {A : Type 0} → List A → Result (List A × List Token) Fault → Result (List A × List Token) Fault
with_front front read = read >>= λ x. Ok (front ++ x.0, x.1)

-- ---- the first token

-- the kinds as numbers
abbrev pub code : TokenKind → ℕ
code kind.Name = 0
code kind.Reserved = 1
code kind.Number = 2
code kind.Symbol = 3
code kind.End = 4

abbrev pub same : TokenKind → TokenKind → Bool
same a b = nat_eq (code a) (code b)

abbrev pub begins : TokenKind → List Token → Bool
begins k [] = false
begins k (x ∷ ts) = same x.kind k

abbrev pub begins_with : TokenKind → Text → List Token → Bool
begins_with k text [] = false
begins_with k text (x ∷ ts) = same x.kind k && bytes_eq x.text text

abbrev pub begins_symbol : Text → List Token → Bool
begins_symbol text ts = begins_with kind.Symbol text ts

abbrev pub begins_word : Text → List Token → Bool
begins_word text ts = begins_with kind.Reserved text ts

abbrev pub after : List Token → List Token
after [] = []
after (x ∷ ts) = ts

abbrev pub place_of : List Token → Place
place_of [] = start
place_of (x ∷ ts) = x.place

abbrev pub text_of : List Token → Text
text_of [] = []
text_of (x ∷ ts) = x.text

-- the number that the first token spells
abbrev pub value_of : List Token → ℕ
value_of ts = number_of (text_of ts)

-- ---- faults

abbrev pub syntax : {A : Type 0} → List Token → Result A Fault
syntax ts = Err (Syntax (length ts))

-- no level is left: a token that may stand there lies too deep
unfoldable pub deep_fault : Bool → List Token → Fault
deep_fault true ts = Depth (length ts)
deep_fault false ts = Syntax (length ts)

abbrev pub too_deep : {A : Type 0} → Bool → List Token → Result A Fault
too_deep may_stand ts = Err (deep_fault may_stand ts)

-- ---- a single token that must stand there

unfoldable pub expect : TokenKind → Read Token
expect k [] = syntax []
expect k (x ∷ ts) = if same x.kind k then Ok (x, ts) else syntax (x ∷ ts)

unfoldable pub expect_with : TokenKind → Text → Read Token
expect_with k text [] = syntax []
expect_with k text (x ∷ ts) = if same x.kind k && bytes_eq x.text text then Ok (x, ts) else syntax (x ∷ ts)

abbrev pub expect_symbol : Text → Read Token
expect_symbol text ts = expect_with kind.Symbol text ts

abbrev pub expect_word : Text → Read Token
expect_word text ts = expect_with kind.Reserved text ts
