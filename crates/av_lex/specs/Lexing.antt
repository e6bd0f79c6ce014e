-- What the call of the lexer shows of a text.
use Rattle.std.specs.Prelude.{◌≡◌, ℕ, List, [], ◌∷◌, ◌++◌, map, Result, Ok, Err}
use Rattle.av_base.specs.declared.place.Place.{Place}
use Rattle.av_base.specs.Tokens.{Token, moved}
use Rattle.av_lex.specs.declared.token.Token.{Token as Found}
use Rattle.av_lex.specs.declared.fault.LexFault.{LexFault}
use Rattle.av_lex.specs.declared.fault.LexFault.TheVariants.{BadByte, Number, Memory}

-- a token of the program, with its bytes
abbrev pub view : Found → Token
view t = record { kind = t.kind; text = t.text.now; place = t.place }

abbrev pub views : List Found → List Token
views tokens = map view tokens

-- the tokens' texts are parts of the bytes, in order, each at its place
abbrev pub LieInOrder : Place → List ℕ → List Token → Type 0
LieInOrder p bytes [] = Unit {0}
LieInOrder p bytes (t ∷ tokens) =
    (gap : List ℕ) × (rest : List ℕ) × (bytes ≡ gap ++ (t.text ++ rest)) × (t.place ≡ moved p gap) × LieInOrder (moved t.place t.text) rest tokens

-- the answer is this one, or out of memory
abbrev pub Gives : Result (List Found) LexFault → Result (List Token) LexFault → Type 0
Gives (Ok tokens) wanted = wanted ≡ Ok (views tokens)
Gives (Err (BadByte p)) wanted = wanted ≡ Err (BadByte p)
Gives (Err (Number p)) wanted = wanted ≡ Err (Number p)
Gives (Err Memory) wanted = Unit {0}
