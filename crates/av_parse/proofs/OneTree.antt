-- Tokens spell at most one program, whatever room there is.
use Rattle.std.proofs.Common.{◌≡◌, ℕ, ◌+◌, List, Result, Ok, sym, subst, ◌∙◌, arith}
use Rattle.av_base.specs.Tokens.{Token}
use Rattle.av_tree.specs.Trees.{System}
use Rattle.av_tree.specs.Grammar.{IsProgram}
use Rattle.av_parse.specs.declared.fault.Fault.{Fault}
use Rattle.av_parse.proofs.CompleteProgram.{program_complete}
use Rattle.av_parse.proofs.Lifted.{lifted}

pub same_ok : (s t : System) → ◌≡◌ {A = Result System Fault} (Ok s) (Ok t) → s ≡ t
same_ok s t e = cc

pub one_tree_only : (n m : ℕ) (ts : List Token) (s t : System) → IsProgram n ts s → IsProgram m ts t → s ≡ t
one_tree_only n m ts s t p q =
    let first = program_complete (m + n) ts s (lifted m n ts s p) in
    let second = program_complete (m + n) ts t (subst (λ k. IsProgram k ts t) (omega arith) (lifted n m ts t q)) in
    same_ok s t (sym first ∙ second)
