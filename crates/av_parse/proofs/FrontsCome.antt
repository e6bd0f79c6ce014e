-- A front may wait, or a token of it came.
use Rattle.std.proofs.Common.{ℕ, ◌<◌, List, length, inl, inr, ◌⊎◌, arith}
use Rattle.av_base.specs.Tokens.{Token}
use Rattle.av_tree.specs.FrontsParts as parts
use Rattle.av_tree.specs.FrontsParts.{Meant, MayWait, FrontToken}
use Rattle.av_tree.specs.FrontsIndex as inner
use Rattle.av_tree.specs.FrontsIndex.{FrontNames, FrontOptionalNames, FrontConditions, FrontDomainRest}
use Rattle.av_tree.specs.FrontsExpression as fronts
use Rattle.av_tree.specs.FrontsExpression.{FrontExpr, FrontSum, FrontSumTail, FrontProduct, FrontProductTail, FrontUnary, FrontPostfix, FrontPostfixTail, FrontPrimary, FrontBranches}
use Rattle.av_parse.proofs.Takes.{brackets_take, branches_take, conditions_take, domain_takes, expr_takes, map_takes, optional_indices_take, optional_names_take, primary_takes, product_takes, sum_takes, unary_takes}
use Rattle.av_parse.proofs.FrontsTake.{front_brackets_takes, front_branches_takes, front_constraints_takes, front_domain_rest_takes, front_expr_takes, front_map_takes, front_names_takes, front_optional_indices_takes, front_postfix_tail_takes, front_product_tail_takes, front_product_takes, front_sum_tail_takes, front_sum_takes, front_token_takes, front_unary_takes}

pub front_token_comes : {w : Meant} {n : ℕ} {Is : Token → Type 0} {ts r : List Token} → FrontToken w n Is ts r → MayWait w ⊎ (length r < length ts)
front_token_comes (parts.not_yet a) = inl a
front_token_comes (parts.came a b) = inr (omega arith)

pub front_names_comes : {w : Meant} {n : ℕ} {ts r : List Token} → FrontNames w n ts r → MayWait w ⊎ (length r < length ts)
front_names_comes (inner.at_name a0) = front_token_comes a0
front_names_comes (inner.at_comma a0 a1) = let g = front_token_takes a1 in inr (omega arith)
front_names_comes (inner.past_comma a0 a1 a2) = let g = front_names_takes a2 in inr (omega arith)

pub front_optional_names_comes : {w : Meant} {n : ℕ} {ts r : List Token} → FrontOptionalNames w n ts r → MayWait w ⊎ (length r < length ts)
front_optional_names_comes (inner.no_name_yet a0) = inl a0
front_optional_names_comes (inner.in_names a0) = front_names_comes a0

pub front_conditions_comes : {w : Meant} {n : ℕ} {ts r : List Token} → FrontConditions w n ts r → MayWait w ⊎ (length r < length ts)
front_conditions_comes (inner.no_bar_yet a0) = inl a0
front_conditions_comes (inner.at_bar a0) = front_token_comes a0
front_conditions_comes (inner.in_constraints a0 a1) = let g = front_constraints_takes a1 in inr (omega arith)

pub front_domain_rest_comes : {w : Meant} {n : ℕ} {ts r : List Token} → FrontDomainRest w n ts r → MayWait w ⊎ (length r < length ts)
front_domain_rest_comes (inner.in_names a0) = front_optional_names_comes a0
front_domain_rest_comes (inner.in_conditions a0 a1) = elim (front_conditions_comes a1) [ inl w ↦ inl w | inr lt ↦ let ha0 = optional_names_take a0 in inr (omega arith) ]
front_domain_rest_comes (inner.at_close a0 a1 a2) = elim (front_token_comes a2) [ inl w ↦ inl w | inr lt ↦ let ha0 = optional_names_take a0 in let ha1 = conditions_take a1 in inr (omega arith) ]

mutual
  pub front_expr_comes : {w : Meant} {n : ℕ} {ts r : List Token} → FrontExpr w n ts r → MayWait w ⊎ (length r < length ts)
  front_expr_comes (fronts.at_brace a0) = front_token_comes a0
  front_expr_comes (fronts.in_domain a0 a1) = let g = front_domain_rest_takes a1 in inr (omega arith)
  front_expr_comes (fronts.at_colon a0 a1) = let ha0 = domain_takes a0 in let g = front_token_takes a1 in inr (omega arith)
  front_expr_comes (fronts.in_restricted a0 a1 a2) = let ha0 = domain_takes a0 in let g = front_expr_takes a2 in inr (omega arith)
  front_expr_comes (fronts.at_if a0) = front_token_comes a0
  front_expr_comes (fronts.in_left a0 a1) = let g = front_sum_takes a1 in inr (omega arith)
  front_expr_comes (fronts.at_compare a0 a1 a2) = let ha1 = sum_takes a1 in let g = front_token_takes a2 in inr (omega arith)
  front_expr_comes (fronts.in_right a0 a1 a2 a3) = let ha1 = sum_takes a1 in let g = front_sum_takes a3 in inr (omega arith)
  front_expr_comes (fronts.at_then a0 a1 a2 a3 a4) = let ha1 = sum_takes a1 in let ha3 = sum_takes a3 in let g = front_token_takes a4 in inr (omega arith)
  front_expr_comes (fronts.in_yes a0 a1 a2 a3 a4 a5) = let ha1 = sum_takes a1 in let ha3 = sum_takes a3 in let g = front_expr_takes a5 in inr (omega arith)
  front_expr_comes (fronts.at_else a0 a1 a2 a3 a4 a5 a6) = let ha1 = sum_takes a1 in let ha3 = sum_takes a3 in let ha5 = expr_takes a5 in let g = front_token_takes a6 in inr (omega arith)
  front_expr_comes (fronts.in_no a0 a1 a2 a3 a4 a5 a6 a7) = let ha1 = sum_takes a1 in let ha3 = sum_takes a3 in let ha5 = expr_takes a5 in let g = front_expr_takes a7 in inr (omega arith)
  front_expr_comes (fronts.in_sum a0) = front_sum_comes a0

  pub front_sum_comes : {w : Meant} {n : ℕ} {ts r : List Token} → FrontSum w n ts r → MayWait w ⊎ (length r < length ts)
  front_sum_comes (fronts.in_product a0) = front_product_comes a0
  front_sum_comes (fronts.past_product a0 a1) = let ha0 = product_takes a0 in let g = front_sum_tail_takes a1 in inr (omega arith)

  pub front_sum_tail_comes : {w : Meant} {n : ℕ} {ts r : List Token} → FrontSumTail w n ts r → MayWait w ⊎ (length r < length ts)
  front_sum_tail_comes (fronts.no_sign_yet a0) = inl a0
  front_sum_tail_comes (fronts.at_sign a0) = front_token_comes a0
  front_sum_tail_comes (fronts.in_addend a0 a1) = let g = front_product_takes a1 in inr (omega arith)
  front_sum_tail_comes (fronts.past_addend a0 a1 a2) = let ha1 = product_takes a1 in let g = front_sum_tail_takes a2 in inr (omega arith)

  pub front_product_comes : {w : Meant} {n : ℕ} {ts r : List Token} → FrontProduct w n ts r → MayWait w ⊎ (length r < length ts)
  front_product_comes (fronts.in_unary a0) = front_unary_comes a0
  front_product_comes (fronts.past_unary a0 a1) = let ha0 = unary_takes a0 in let g = front_product_tail_takes a1 in inr (omega arith)

  pub front_product_tail_comes : {w : Meant} {n : ℕ} {ts r : List Token} → FrontProductTail w n ts r → MayWait w ⊎ (length r < length ts)
  front_product_tail_comes (fronts.no_times_yet a0) = inl a0
  front_product_tail_comes (fronts.at_times a0) = front_token_comes a0
  front_product_tail_comes (fronts.in_factor a0 a1) = let g = front_unary_takes a1 in inr (omega arith)
  front_product_tail_comes (fronts.past_factor a0 a1 a2) = let ha1 = unary_takes a1 in let g = front_product_tail_takes a2 in inr (omega arith)

  pub front_unary_comes : {w : Meant} {n : ℕ} {ts r : List Token} → FrontUnary w n ts r → MayWait w ⊎ (length r < length ts)
  front_unary_comes (fronts.at_minus a0) = front_token_comes a0
  front_unary_comes (fronts.past_minus a0 a1) = let g = front_unary_takes a1 in inr (omega arith)
  front_unary_comes (fronts.in_postfix a0) = front_postfix_comes a0

  pub front_postfix_comes : {w : Meant} {n : ℕ} {ts r : List Token} → FrontPostfix w n ts r → MayWait w ⊎ (length r < length ts)
  front_postfix_comes (fronts.in_primary a0) = front_primary_comes a0
  front_postfix_comes (fronts.past_name a0 a1) = let g = front_postfix_tail_takes a1 in inr (omega arith)
  front_postfix_comes (fronts.past_number a0 a1 a2) = let ha1 = brackets_take a1 in let g = front_postfix_tail_takes a2 in inr (omega arith)
  front_postfix_comes (fronts.past_primary a0 a1) = let ha0 = primary_takes a0 in let g = front_postfix_tail_takes a1 in inr (omega arith)

  pub front_postfix_tail_comes : {w : Meant} {n : ℕ} {ts r : List Token} → FrontPostfixTail w n ts r → MayWait w ⊎ (length r < length ts)
  front_postfix_tail_comes (fronts.no_dot_yet a0) = inl a0
  front_postfix_tail_comes (fronts.at_dot a0) = front_token_comes a0
  front_postfix_tail_comes (fronts.in_map a0 a1) = let g = front_map_takes a1 in inr (omega arith)
  front_postfix_tail_comes (fronts.past_map a0 a1 a2) = let ha1 = map_takes a1 in let g = front_postfix_tail_takes a2 in inr (omega arith)

  pub front_primary_comes : {w : Meant} {n : ℕ} {ts r : List Token} → FrontPrimary w n ts r → MayWait w ⊎ (length r < length ts)
  front_primary_comes (fronts.at_number a0) = front_token_comes a0
  front_primary_comes (fronts.in_brackets a0 a1) = let g = front_brackets_takes a1 in inr (omega arith)
  front_primary_comes (fronts.at_name a0) = front_token_comes a0
  front_primary_comes (fronts.at_bracket a0 a1) = let g = front_token_takes a1 in inr (omega arith)
  front_primary_comes (fronts.in_indices a0 a1 a2) = let g = front_optional_indices_takes a2 in inr (omega arith)
  front_primary_comes (fronts.at_bracket_close a0 a1 a2 a3) = let ha2 = optional_indices_take a2 in let g = front_token_takes a3 in inr (omega arith)
  front_primary_comes (fronts.at_parenthesis a0) = front_token_comes a0
  front_primary_comes (fronts.in_parenthesis a0 a1) = let g = front_expr_takes a1 in inr (omega arith)
  front_primary_comes (fronts.at_parenthesis_close a0 a1 a2) = let ha1 = expr_takes a1 in let g = front_token_takes a2 in inr (omega arith)
  front_primary_comes (fronts.at_extreme a0) = front_token_comes a0
  front_primary_comes (fronts.at_extreme_open a0 a1) = let g = front_token_takes a1 in inr (omega arith)
  front_primary_comes (fronts.in_one a0 a1 a2) = let g = front_expr_takes a2 in inr (omega arith)
  front_primary_comes (fronts.at_extreme_comma a0 a1 a2 a3) = let ha2 = expr_takes a2 in let g = front_token_takes a3 in inr (omega arith)
  front_primary_comes (fronts.in_other a0 a1 a2 a3 a4) = let ha2 = expr_takes a2 in let g = front_expr_takes a4 in inr (omega arith)
  front_primary_comes (fronts.at_extreme_close a0 a1 a2 a3 a4 a5) = let ha2 = expr_takes a2 in let ha4 = expr_takes a4 in let g = front_token_takes a5 in inr (omega arith)
  front_primary_comes (fronts.at_case a0) = front_token_comes a0
  front_primary_comes (fronts.in_case a0 a1) = let g = front_branches_takes a1 in inr (omega arith)
  front_primary_comes (fronts.at_esac a0 a1 a2) = let ha1 = branches_take a1 in let g = front_token_takes a2 in inr (omega arith)
  front_primary_comes (fronts.at_reduce a0) = front_token_comes a0
  front_primary_comes (fronts.at_reduce_open a0 a1) = let g = front_token_takes a1 in inr (omega arith)
  front_primary_comes (fronts.at_op a0 a1 a2) = let g = front_token_takes a2 in inr (omega arith)
  front_primary_comes (fronts.at_op_comma a0 a1 a2 a3) = let g = front_token_takes a3 in inr (omega arith)
  front_primary_comes (fronts.in_projection a0 a1 a2 a3 a4) = let g = front_map_takes a4 in inr (omega arith)
  front_primary_comes (fronts.at_projection_comma a0 a1 a2 a3 a4 a5) = let ha4 = map_takes a4 in let g = front_token_takes a5 in inr (omega arith)
  front_primary_comes (fronts.in_body a0 a1 a2 a3 a4 a5 a6) = let ha4 = map_takes a4 in let g = front_expr_takes a6 in inr (omega arith)
  front_primary_comes (fronts.at_reduce_close a0 a1 a2 a3 a4 a5 a6 a7) = let ha4 = map_takes a4 in let ha6 = expr_takes a6 in let g = front_token_takes a7 in inr (omega arith)

  pub front_branches_comes : {w : Meant} {n : ℕ} {ts r : List Token} → FrontBranches w n ts r → MayWait w ⊎ (length r < length ts)
  front_branches_comes (fronts.in_branch a0) = front_expr_comes a0
  front_branches_comes (fronts.at_semicolon a0 a1) = let ha0 = expr_takes a0 in let g = front_token_takes a1 in inr (omega arith)
  front_branches_comes (fronts.past_semicolon a0 a1 a2) = let ha0 = expr_takes a0 in let g = front_branches_takes a2 in inr (omega arith)
