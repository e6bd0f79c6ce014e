-- Reading a design text piece by piece, from a place on.
use Rattle.std.specs.Prelude.{◌≡◌, ℕ, true, List, map, Result, Ok, Err}
use Rattle.av_base.specs.declared.place.Place.{Place}
use Rattle.av_base.specs.Reading as reading
use Rattle.av_net.specs.declared.token_kind.DesignTokenKind.{DesignTokenKind}
use Rattle.av_net.specs.Lexemes.{Token, design_texts}
use Rattle.av_vparse.specs.declared.token.DesignToken.{DesignToken as Found}
use Rattle.av_vparse.specs.declared.fault.TextFault.{TextFault}
use Rattle.av_vparse.specs.declared.fault.TextFault.TheVariants.{Byte, Syntax, Memory}
use Rattle.av_vparse.specs.inner.Scan.{token_of}

-- the tokens of a text, or the place of the first byte that begins none
abbrev pub Lexed : Type 0
Lexed = reading.Reading DesignTokenKind Place

-- how they are found
abbrev pub scanner : reading.Scanner DesignTokenKind Place
scanner = record { token_of = token_of; in_range = λ k text. true; bad = λ p. p; great = λ p. p }

-- what at most n pieces give; as many as there are bytes are enough
abbrev pub lexed_of : ℕ → Place → List ℕ → Lexed
lexed_of = reading.read_of design_texts scanner

-- ---- what the program found

abbrev pub view : Found → Token
view t = record { kind = t.kind; text = t.text.now; place = t.place }

abbrev pub views : List Found → List Token
views tokens = map view tokens

-- the answer is this one, or out of memory
abbrev pub GivesTokens : Result (List Found) TextFault → Lexed → Type 0
GivesTokens (Ok tokens) wanted = wanted ≡ Ok (views tokens)
GivesTokens (Err (Byte p)) wanted = wanted ≡ Err p
GivesTokens (Err (Syntax p)) wanted = ⊥
GivesTokens (Err Memory) wanted = Unit {0}
