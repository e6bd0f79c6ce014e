-- The first token that no design text continues, and which tokens begin one (IEEE 1364-2005, A.1 to A.8, as far as the
-- grammar of this subset goes).
use Rattle.std.specs.Prelude.{◌≡◌, ℕ, List, [], ◌∷◌, ◌++◌}
use Rattle.av_base.specs.declared.place.Place.{Place}
use Rattle.av_base.specs.Tokens.{start}
use Rattle.av_net.specs.Lexemes.{Token, AreTokens}
use Rattle.av_net.specs.Grammar.{Text, IsText}
use Rattle.av_vparse.specs.Fronts.{FrontText}

-- with some tokens behind them, or none, these say a text: a law says that the fronts of a text are such, and no others
pub record Begins (tokens : List Token) : Type 0 where
  pub more : List Token
  pub said : Text
  pub says : IsText (tokens ++ more) said

-- the tokens before the one at this place are a front of a text, and with it they are none
pub record StopsAt (tokens : List Token) (place : Place) : Type 0 where
  pub before : List Token
  pub token : Token
  pub after : List Token
  pub whole : tokens ≡ before ++ (token ∷ after)
  pub stands : token.place ≡ place
  pub begins : FrontText before
  pub none : FrontText (before ++ (token ∷ [])) → ⊥

-- the bytes spell tokens, and no text continues with the one at this place
pub record BreaksOff (bytes : List ℕ) (place : Place) : Type 0 where
  pub tokens : List Token
  pub lexed : AreTokens start bytes tokens
  pub stops : StopsAt tokens place
