-- A primary that is spelled is read, but for a name with indices, or there is a fault of depth in it.
use Rattle.std.proofs.Common.{◌≡◌, ℕ, zero, suc, ◌<◌, ◌≤◌, true, List, ◌∷◌, length, Result, arith}
use Rattle.std.specs.Prelude.{codes}
use Rattle.av_base.specs.declared.place.Place.{Place}
use Rattle.av_base.specs.Tokens.{Token}
use Rattle.av_tree.specs.declared.domain.MapText.{MapText}
use Rattle.av_tree.specs.declared.sign.Sign.{Sign}
use Rattle.av_tree.specs.Trees.{Expression, Expressions}
use Rattle.av_tree.specs.Parts.{IsSymbol, IsReserved}
use Rattle.av_tree.specs.IndexGrammar.{IsMap}
use Rattle.av_tree.specs.ExpressionGrammar.{IsExpr, IsBranches, last_branch, branch}
use Rattle.av_tree.specs.FrontsParts.{IsSomeOp}
use Rattle.av_parse.specs.declared.fault.Fault.{Fault}
use Rattle.av_parse.specs.inner.Reader.{◌>>=◌, begins_word}
use Rattle.av_parse.specs.inner.ExpressionReader.{op_by, parenthesis_of, extreme_of, branches_of, cases_of, reduction_of, readers}
use Rattle.av_parse.proofs.Follow.{symbol_gives, word_gives, word_yes}
use Rattle.av_parse.proofs.Takes.{expr_takes, branches_take, map_takes}
use Rattle.av_parse.proofs.CompleteIndex.{map_complete}
use Rattle.av_parse.proofs.CompleteExpression.{semicolon_ends, close_ends, comma_ends, op_found, branches_begin}
use Rattle.av_parse.proofs.FewerLevels.{Spelt, got, drowned, expr_spelt, opening_spelt}

-- one part, and then what follows
pub spelt_bind : {A B : Type 0} {j k : ℕ} {mid rest : List Token} {r : Result (A × List Token) Fault} (f : A × List Token → Result (B × List Token) Fault) → Spelt j mid r
    → length rest ≤ length mid → ((a : A) → 0 < j → Spelt k rest (f (a, mid))) → Spelt k rest (r >>= f)
spelt_bind f (got {a = a} h) le go = go a h
spelt_bind f (drowned h) le go = drowned (omega arith)

module _ (k : ℕ) where
  pub parenthesis_spelt : {j : ℕ} {c : Token} {ts rest : List Token} {e : Expression} → IsExpr j ts (c ∷ rest) e → IsSymbol (codes ")") c → Spelt k rest (parenthesis_of (readers k) ts)
  unfolding parenthesis_of
  parenthesis_spelt {c = c} {rest = rest} is close =
      spelt_bind _ (expr_spelt k is (close_ends c rest close)) (omega arith) (λ a some. rw (symbol_gives (codes ")") c rest close) (got some))

  pub extreme_spelt : {i j : ℕ} {q c : Token} {ts mid rest : List Token} {x y : Expression} (z : Sign) (p : Place) (o : Token) → IsSymbol (codes "(") o → IsExpr i ts (q ∷ mid) x → IsSymbol (codes ",") q
      → IsExpr j mid (c ∷ rest) y → IsSymbol (codes ")") c → Spelt k rest (extreme_of (readers k) z p (o ∷ ts))
  unfolding extreme_of
  extreme_spelt {q = q} {c = c} {ts = ts} {mid = mid} {rest = rest} z p o opened first comma second close =
      let h = expr_takes first in
      let g = expr_takes second in
      spelt_bind _ (opening_spelt k o ts opened) (omega arith) (λ a some.
      spelt_bind _ (expr_spelt k first (comma_ends q mid comma)) (omega arith) (λ a some. rw (symbol_gives (codes ",") q mid comma)
      (spelt_bind _ (expr_spelt k second (close_ends c rest close)) (omega arith) (λ a some. rw (symbol_gives (codes ")") c rest close) (got some)))))

  pub branches_spelt : {j : ℕ} {ts rest : List Token} {es : Expressions} → IsBranches j ts rest es → begins_word (codes "esac") rest ≡ true → (m : ℕ) → length ts ≤ m
      → Spelt k rest (branches_of (readers k) m ts)
  unfolding branches_of
  branches_spelt is stops zero few = absurd (let h = branches_take is in omega arith)
  branches_spelt (last_branch {s = s} {rest = rest} e semicolon) stops (suc m) few =
      spelt_bind _ (expr_spelt k e (semicolon_ends s rest semicolon)) (omega arith) (λ a some. rw (symbol_gives (codes ";") s rest semicolon, stops) (got some))
  branches_spelt (branch {s = s} {mid = mid} e semicolon others) stops (suc m) few =
      let h = expr_takes e in
      let g = branches_take others in
      spelt_bind _ (expr_spelt k e (semicolon_ends s mid semicolon)) (omega arith) (λ a some. rw (symbol_gives (codes ";") s mid semicolon, branches_begin others)
      (spelt_bind _ (branches_spelt others stops m (omega arith)) (le_same _) (λ es more. got more)))
    where
      le_same : (a : ℕ) → a ≤ a
      le_same a = omega arith

  pub cases_spelt : {j : ℕ} {s : Token} {ts rest : List Token} {es : Expressions} (p : Place) → IsBranches j ts (s ∷ rest) es → IsReserved (codes "esac") s
      → Spelt k rest (cases_of (readers k) p ts)
  unfolding cases_of
  cases_spelt {s = s} {ts = ts} {rest = rest} p is end =
      spelt_bind _ (branches_spelt is (word_yes (codes "esac") s rest end) (length ts) (omega arith)) (omega arith) (λ es some. rw (word_gives (codes "esac") s rest end) (got some))

  pub reduction_spelt : {j : ℕ} {d c : Token} {ts mid rest : List Token} {m : MapText} {e : Expression} (p : Place) (o f q : Token) → IsSymbol (codes "(") o → IsSomeOp f → IsSymbol (codes ",") q
      → IsMap ts (d ∷ mid) m → IsSymbol (codes ",") d → IsExpr j mid (c ∷ rest) e → IsSymbol (codes ")") c → Spelt k rest (reduction_of (readers k) p (o ∷ f ∷ q ∷ ts))
  unfolding reduction_of op_by
  reduction_spelt {d = d} {c = c} {ts = ts} {mid = mid} {rest = rest} p o f q opened operator comma map second body close =
      let h = map_takes map in
      let g = expr_takes body in
      spelt_bind _ (opening_spelt k o (f ∷ q ∷ ts) opened) (omega arith) (λ a some.
      rw (op_found operator.0 f (q ∷ ts) operator.1, symbol_gives (codes ",") q ts comma, map_complete map, symbol_gives (codes ",") d mid second)
      (spelt_bind _ (expr_spelt k body (close_ends c rest close)) (omega arith) (λ a some. rw (symbol_gives (codes ")") c rest close) (got some))))
