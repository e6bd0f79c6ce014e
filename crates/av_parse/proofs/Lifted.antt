-- What is spelled with room for some levels is spelled with room for more.
use Rattle.std.proofs.Common.{ℕ, zero, suc, ◌+◌, List, subst, arith}
use Rattle.av_base.specs.Tokens.{Token}
use Rattle.av_tree.specs.Trees.{Expression, Expressions, Equation, System}
use Rattle.av_tree.specs.ExpressionGrammar.{IsExpr, restricted, chosen, plain, IsSum, sum, IsSumTail, sum_ends, plus, minus, IsProduct, product, IsProductTail, product_ends, times, IsUnary, negative, postfix, IsPostfix, bare, bare_mapped, number, number_mapped, primary, IsPostfixTail, no_map, mapped, IsPrimary, indexed, parenthesis, least, greatest, case_of, reduced, IsBranches, last_branch, branch}
use Rattle.av_tree.specs.Grammar.{IsEquation, equation, IsEquations, no_equations, more_equations, IsSystem, system, IsProgram}

-- what one more level keeps, any number of them keeps
pub climbed : (P : ℕ → Type 0) → ((n : ℕ) → P n → P (suc n)) → (k n : ℕ) → P n → P (k + n)
climbed P up zero n p = subst P (omega arith) p
climbed P up (suc k) n p = subst P (omega arith) (up (k + n) (climbed P up k n p))

mutual
  pub lift_expr : {n : ℕ} {ts rest : List Token} {e : Expression} → IsExpr n ts rest e → IsExpr (suc n) ts rest e
  lift_expr (restricted d c e) = restricted d c (lift_expr e)
  lift_expr (chosen i a q b t x s y) = chosen i (lift_sum a) q (lift_sum b) t (lift_expr x) s (lift_expr y)
  lift_expr (plain s) = plain (lift_sum s)

  pub lift_sum : {n : ℕ} {ts rest : List Token} {e : Expression} → IsSum n ts rest e → IsSum (suc n) ts rest e
  lift_sum (sum p t) = sum (lift_product p) (lift_sum_tail t)

  pub lift_sum_tail : {n : ℕ} {a : Expression} {ts rest : List Token} {e : Expression} → IsSumTail n a ts rest e → IsSumTail (suc n) a ts rest e
  lift_sum_tail sum_ends = sum_ends
  lift_sum_tail (plus p b t) = plus p (lift_product b) (lift_sum_tail t)
  lift_sum_tail (minus p b t) = minus p (lift_product b) (lift_sum_tail t)

  pub lift_product : {n : ℕ} {ts rest : List Token} {e : Expression} → IsProduct n ts rest e → IsProduct (suc n) ts rest e
  lift_product (product u t) = product (lift_unary u) (lift_product_tail t)

  pub lift_product_tail : {n : ℕ} {a : Expression} {ts rest : List Token} {e : Expression} → IsProductTail n a ts rest e → IsProductTail (suc n) a ts rest e
  lift_product_tail product_ends = product_ends
  lift_product_tail (times p u t) = times p (lift_unary u) (lift_product_tail t)

  pub lift_unary : {n : ℕ} {ts rest : List Token} {e : Expression} → IsUnary n ts rest e → IsUnary (suc n) ts rest e
  lift_unary (negative m u) = negative m (lift_unary u)
  lift_unary (postfix p) = postfix (lift_postfix p)

  pub lift_postfix : {n : ℕ} {ts rest : List Token} {e : Expression} → IsPostfix n ts rest e → IsPostfix (suc n) ts rest e
  lift_postfix (bare x) = bare x
  lift_postfix (bare_mapped x d m t) = bare_mapped x d m (lift_postfix_tail t)
  lift_postfix (number x at) = number x at
  lift_postfix (number_mapped x at d m t) = number_mapped x at d m (lift_postfix_tail t)
  lift_postfix (primary p t) = primary (lift_primary p) (lift_postfix_tail t)

  pub lift_postfix_tail : {n : ℕ} {a : Expression} {ts rest : List Token} {e : Expression} → IsPostfixTail n a ts rest e → IsPostfixTail (suc n) a ts rest e
  lift_postfix_tail no_map = no_map
  lift_postfix_tail (mapped d m t) = mapped d m (lift_postfix_tail t)

  pub lift_primary : {n : ℕ} {ts rest : List Token} {e : Expression} → IsPrimary n ts rest e → IsPrimary (suc n) ts rest e
  lift_primary (indexed x o es c) = indexed x o es c
  lift_primary (parenthesis o e c) = parenthesis o (lift_expr e) c
  lift_primary (least w o a q b c) = least w o (lift_expr a) q (lift_expr b) c
  lift_primary (greatest w o a q b c) = greatest w o (lift_expr a) q (lift_expr b) c
  lift_primary (case_of w es s) = case_of w (lift_branches es) s
  lift_primary (reduced w o f q m p e c) = reduced w o f q m p (lift_expr e) c

  pub lift_branches : {n : ℕ} {ts rest : List Token} {es : Expressions} → IsBranches n ts rest es → IsBranches (suc n) ts rest es
  lift_branches (last_branch e s) = last_branch (lift_expr e) s
  lift_branches (branch e s others) = branch (lift_expr e) s (lift_branches others)

pub lift_equation : {n : ℕ} {ts rest : List Token} {e : Equation} → IsEquation n ts rest e → IsEquation (suc n) ts rest e
lift_equation (equation x names q e s) = equation x names q (lift_expr e) s

lift_equations : {n : ℕ} {ts rest : List Token} {es : List Equation} → IsEquations n ts rest es → IsEquations (suc n) ts rest es
lift_equations no_equations = no_equations
lift_equations (more_equations e others) = more_equations (lift_equation e) (lift_equations others)

lift_system : {n : ℕ} {ts rest : List Token} {s : System} → IsSystem n ts rest s → IsSystem (suc n) ts rest s
lift_system (system w x z o ins c r p outs d s locs l es t end) = system w x z o ins c r p outs d s locs l (lift_equations es) t end

-- one more level
pub lift_program : {n : ℕ} {ts : List Token} {s : System} → IsProgram n ts s → IsProgram (suc n) ts s
lift_program p = record { end = p.end; is_end = p.is_end; is_system = lift_system p.is_system }

-- k more levels
pub lifted : (k n : ℕ) (ts : List Token) (s : System) → IsProgram n ts s → IsProgram (k + n) ts s
lifted k n ts s p = climbed (λ m. IsProgram m ts s) (λ m q. lift_program q) k n p
