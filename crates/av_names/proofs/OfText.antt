-- What the lexer and the parser say of a text is what a system of a text is.
use Rattle.std.proofs.Common.{◌≡◌, ℕ, ◌<◌, List, length, subst}
use Rattle.av_base.specs.Tokens.{IsText, start}
use Rattle.av_lex.specs.Lexing.{views}
use Rattle.av_lex.specs.declared.token.Token.{Token as Found}
use Rattle.av_tree.specs.Grammar.{IsProgram, levels}
use Rattle.av_tree.specs.Trees.{System}
use Rattle.av_names.specs.Texts.{IsOfText}

pub of_text : (bytes : List ℕ) (tokens slice : List Found) (s : System) → length bytes < 4294967295 → slice ≡ tokens → IsText start bytes (views tokens) → IsProgram levels (views slice) s → IsOfText s
of_text bytes tokens slice s short same spelled program = record {
  bytes = bytes;
  short = short;
  text = record { tokens = views tokens; spelled = spelled; program = subst (λ ts. IsProgram levels (views ts) s) same program };
}
