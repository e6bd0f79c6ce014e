-- A whole spelling of an expression is a front of it.
use Rattle.std.proofs.Common.{ℕ, suc, List}
use Rattle.av_base.specs.Tokens.{Token}
use Rattle.av_tree.specs.Trees.{Expression, Expressions}
use Rattle.av_tree.specs.ExpressionGrammar as whole
use Rattle.av_tree.specs.ExpressionGrammar.{IsExpr, IsSum, IsSumTail, IsProduct, IsProductTail, IsUnary, IsPostfix, IsPostfixTail, IsPrimary, IsBranches}
use Rattle.av_tree.specs.FrontsParts.{every, came, plus_sign, minus_sign, least_word, greatest_word}
use Rattle.av_tree.specs.FrontsExpression as fronts
use Rattle.av_tree.specs.FrontsExpression.{FrontExpr, FrontSum, FrontSumTail, FrontProduct, FrontProductTail, FrontUnary, FrontPostfix, FrontPostfixTail, FrontPrimary, FrontBranches}

mutual
  pub expr_front : {k : ℕ} {ts rest : List Token} {e : Expression} (n : ℕ) → IsExpr k ts rest e → FrontExpr every n ts rest
  expr_front n (whole.restricted d c e) = fronts.in_restricted d c (expr_front (suc n) e)
  expr_front n (whole.chosen {r = r} i a q b t x s y) = fronts.in_no i a (r, q) b t x s (expr_front (suc n) y)
  expr_front n (whole.plain s) = fronts.in_sum (sum_front n s)

  pub sum_front : {k : ℕ} {ts rest : List Token} {e : Expression} (n : ℕ) → IsSum k ts rest e → FrontSum every n ts rest
  sum_front n (whole.sum p t) = fronts.past_product p (sum_tail_front n t)

  pub sum_tail_front : {k : ℕ} {a : Expression} {ts rest : List Token} {e : Expression} (n : ℕ) → IsSumTail k a ts rest e → FrontSumTail every n ts rest
  sum_tail_front n whole.sum_ends = fronts.no_sign_yet tt
  sum_tail_front n (whole.plus p b t) = fronts.past_addend (plus_sign p) b (sum_tail_front (suc n) t)
  sum_tail_front n (whole.minus p b t) = fronts.past_addend (minus_sign p) b (sum_tail_front (suc n) t)

  pub product_front : {k : ℕ} {ts rest : List Token} {e : Expression} (n : ℕ) → IsProduct k ts rest e → FrontProduct every n ts rest
  product_front n (whole.product u t) = fronts.past_unary u (product_tail_front n t)

  pub product_tail_front : {k : ℕ} {a : Expression} {ts rest : List Token} {e : Expression} (n : ℕ) → IsProductTail k a ts rest e → FrontProductTail every n ts rest
  product_tail_front n whole.product_ends = fronts.no_times_yet tt
  product_tail_front n (whole.times p u t) = fronts.past_factor p u (product_tail_front (suc n) t)

  pub unary_front : {k : ℕ} {ts rest : List Token} {e : Expression} (n : ℕ) → IsUnary k ts rest e → FrontUnary every n ts rest
  unary_front n (whole.negative m u) = fronts.past_minus m (unary_front (suc n) u)
  unary_front n (whole.postfix p) = fronts.in_postfix (postfix_front n p)

  pub postfix_front : {k : ℕ} {ts rest : List Token} {e : Expression} (n : ℕ) → IsPostfix k ts rest e → FrontPostfix every n ts rest
  postfix_front n (whole.bare x) = fronts.past_name x (fronts.no_dot_yet tt)
  postfix_front n (whole.bare_mapped x d m t) = fronts.past_name x (fronts.past_map d m (postfix_tail_front (suc n) t))
  postfix_front n (whole.number x at) = fronts.past_number x at (fronts.no_dot_yet tt)
  postfix_front n (whole.number_mapped x at d m t) = fronts.past_number x at (fronts.past_map d m (postfix_tail_front (suc n) t))
  postfix_front n (whole.primary p t) = fronts.past_primary p (postfix_tail_front n t)

  pub postfix_tail_front : {k : ℕ} {a : Expression} {ts rest : List Token} {e : Expression} (n : ℕ) → IsPostfixTail k a ts rest e → FrontPostfixTail every n ts rest
  postfix_tail_front n whole.no_map = fronts.no_dot_yet tt
  postfix_tail_front n (whole.mapped d m t) = fronts.past_map d m (postfix_tail_front (suc n) t)

  pub primary_front : {k : ℕ} {ts rest : List Token} {e : Expression} (n : ℕ) → IsPrimary k ts rest e → FrontPrimary every n ts rest
  primary_front n (whole.indexed x o es c) = fronts.at_bracket_close x o es (came c tt)
  primary_front n (whole.parenthesis o e c) = fronts.at_parenthesis_close o e (came c tt)
  primary_front n (whole.least x o a q b c) = fronts.at_extreme_close (least_word x) o a q b (came c tt)
  primary_front n (whole.greatest x o a q b c) = fronts.at_extreme_close (greatest_word x) o a q b (came c tt)
  primary_front n (whole.case_of x es s) = fronts.at_esac x es (came s tt)
  primary_front n (whole.reduced {op = op} x o f q m p e c) = fronts.at_reduce_close x o (op, f) q m p e (came c tt)

  pub branches_front : {k : ℕ} {ts rest : List Token} {es : Expressions} (n : ℕ) → IsBranches k ts rest es → FrontBranches every n ts rest
  branches_front n (whole.last_branch e s) = fronts.at_semicolon e (came s tt)
  branches_front n (whole.branch e s others) = fronts.past_semicolon e s (branches_front n others)
