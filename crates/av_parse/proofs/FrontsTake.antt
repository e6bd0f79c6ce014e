-- What is left behind a front is no longer than what there was.
use Rattle.std.proofs.Common.{ℕ, ◌≤◌, List, length, arith}
use Rattle.av_base.specs.Tokens.{Token}
use Rattle.av_tree.specs.FrontsParts as parts
use Rattle.av_tree.specs.FrontsParts.{Meant, FrontToken}
use Rattle.av_tree.specs.FrontsIndex as inner
use Rattle.av_tree.specs.FrontsIndex.{FrontNames, FrontOptionalNames, FrontTerm, FrontTerms, FrontUnsigned, FrontIndex, FrontIndices, FrontOptionalIndices, FrontSide, FrontChain, FrontConstraint, FrontConstraints, FrontConditions, FrontDomainRest, FrontDomain, FrontMap}
use Rattle.av_tree.specs.FrontsExpression as fronts
use Rattle.av_tree.specs.FrontsExpression.{FrontBrackets, FrontExpr, FrontSum, FrontSumTail, FrontProduct, FrontProductTail, FrontUnary, FrontPostfix, FrontPostfixTail, FrontPrimary, FrontBranches}
use Rattle.av_tree.specs.Fronts as programs
use Rattle.av_tree.specs.Fronts.{FrontIndexNames, FrontEquation, FrontEquations}
use Rattle.av_parse.proofs.Takes.{brackets_take, branches_take, conditions_take, constraint_takes, domain_takes, equation_takes, expr_takes, index_names_take, index_takes, indices_take, map_takes, optional_indices_take, optional_names_take, primary_takes, product_takes, side_takes, sum_takes, term_takes, unary_takes}

pub front_token_takes : {w : Meant} {n : ℕ} {Is : Token → Type 0} {ts r : List Token} → FrontToken w n Is ts r → length r ≤ length ts
front_token_takes (parts.not_yet a) = omega arith
front_token_takes (parts.came a b) = omega arith

pub front_names_takes : {w : Meant} {n : ℕ} {ts r : List Token} → FrontNames w n ts r → length r ≤ length ts
front_names_takes (inner.at_name a0) = let ha0 = front_token_takes a0 in omega arith
front_names_takes (inner.at_comma a0 a1) = let ha1 = front_token_takes a1 in omega arith
front_names_takes (inner.past_comma a0 a1 a2) = let ha2 = front_names_takes a2 in omega arith

pub front_optional_names_takes : {w : Meant} {n : ℕ} {ts r : List Token} → FrontOptionalNames w n ts r → length r ≤ length ts
front_optional_names_takes (inner.no_name_yet a0) = omega arith
front_optional_names_takes (inner.in_names a0) = let ha0 = front_names_takes a0 in omega arith

pub front_term_takes : {w : Meant} {n : ℕ} {ts r : List Token} → FrontTerm w n ts r → length r ≤ length ts
front_term_takes (inner.at_number a0) = let ha0 = front_token_takes a0 in omega arith
front_term_takes (inner.at_name a0) = let ha0 = front_token_takes a0 in omega arith
front_term_takes (inner.number_at_name a0 a1) = let ha1 = front_token_takes a1 in omega arith
front_term_takes (inner.number_at_times a0 a1) = let ha1 = front_token_takes a1 in omega arith
front_term_takes (inner.number_times_at_name a0 a1 a2) = let ha2 = front_token_takes a2 in omega arith
front_term_takes (inner.name_at_times a0 a1) = let ha1 = front_token_takes a1 in omega arith
front_term_takes (inner.name_times_at_number a0 a1 a2) = let ha2 = front_token_takes a2 in omega arith

pub front_terms_takes : {w : Meant} {n : ℕ} {ts r : List Token} → FrontTerms w n ts r → length r ≤ length ts
front_terms_takes (inner.no_term_yet a0) = omega arith
front_terms_takes (inner.at_sign a0) = let ha0 = front_token_takes a0 in omega arith
front_terms_takes (inner.in_term a0 a1) = let ha1 = front_term_takes a1 in omega arith
front_terms_takes (inner.past_term a0 a1 a2) = let ha1 = term_takes a1 in let ha2 = front_terms_takes a2 in omega arith

pub front_unsigned_takes : {w : Meant} {n : ℕ} {ts r : List Token} → FrontUnsigned w n ts r → length r ≤ length ts
front_unsigned_takes (inner.in_first a0) = let ha0 = front_term_takes a0 in omega arith
front_unsigned_takes (inner.past_first a0 a1) = let ha0 = term_takes a0 in let ha1 = front_terms_takes a1 in omega arith

pub front_index_takes : {w : Meant} {n : ℕ} {ts r : List Token} → FrontIndex w n ts r → length r ≤ length ts
front_index_takes (inner.at_minus a0) = let ha0 = front_token_takes a0 in omega arith
front_index_takes (inner.past_minus a0 a1) = let ha1 = front_unsigned_takes a1 in omega arith
front_index_takes (inner.unsigned a0) = let ha0 = front_unsigned_takes a0 in omega arith

pub front_indices_takes : {w : Meant} {n k : ℕ} {ts r : List Token} → FrontIndices w n k ts r → length r ≤ length ts
front_indices_takes (inner.in_index a0) = let ha0 = front_index_takes a0 in omega arith
front_indices_takes (inner.at_comma a0 a1) = let ha0 = index_takes a0 in let ha1 = front_token_takes a1 in omega arith
front_indices_takes (inner.past_comma a0 a1 a2) = let ha0 = index_takes a0 in let ha2 = front_indices_takes a2 in omega arith

pub front_optional_indices_takes : {w : Meant} {n : ℕ} {ts r : List Token} → FrontOptionalIndices w n ts r → length r ≤ length ts
front_optional_indices_takes (inner.no_index_yet a0) = omega arith
front_optional_indices_takes (inner.in_indices a0) = let ha0 = front_indices_takes a0 in omega arith

pub front_side_takes : {w : Meant} {n : ℕ} {ts r : List Token} → FrontSide w n ts r → length r ≤ length ts
front_side_takes (inner.in_index a0) = let ha0 = front_index_takes a0 in omega arith
front_side_takes (inner.at_open a0) = let ha0 = front_token_takes a0 in omega arith
front_side_takes (inner.in_list a0 a1) = let ha1 = front_indices_takes a1 in omega arith
front_side_takes (inner.at_close a0 a1 a2 a3) = let ha1 = (indices_take a1).0 in let ha3 = front_token_takes a3 in omega arith

pub front_chain_takes : {w : Meant} {n : ℕ} {ts r : List Token} → FrontChain w n ts r → length r ≤ length ts
front_chain_takes (inner.at_relation a0) = let ha0 = front_token_takes a0 in omega arith
front_chain_takes (inner.in_side a0 a1) = let ha1 = front_side_takes a1 in omega arith
front_chain_takes (inner.past_side a0 a1 a2) = let ha1 = side_takes a1 in let ha2 = front_chain_takes a2 in omega arith

pub front_constraint_takes : {w : Meant} {n : ℕ} {ts r : List Token} → FrontConstraint w n ts r → length r ≤ length ts
front_constraint_takes (inner.in_left a0) = let ha0 = front_side_takes a0 in omega arith
front_constraint_takes (inner.past_left a0 a1) = let ha0 = side_takes a0 in let ha1 = front_chain_takes a1 in omega arith

pub front_constraints_takes : {w : Meant} {n : ℕ} {ts r : List Token} → FrontConstraints w n ts r → length r ≤ length ts
front_constraints_takes (inner.in_constraint a0) = let ha0 = front_constraint_takes a0 in omega arith
front_constraints_takes (inner.at_semicolon a0 a1) = let ha0 = constraint_takes a0 in let ha1 = front_token_takes a1 in omega arith
front_constraints_takes (inner.past_semicolon a0 a1 a2) = let ha0 = constraint_takes a0 in let ha2 = front_constraints_takes a2 in omega arith

pub front_conditions_takes : {w : Meant} {n : ℕ} {ts r : List Token} → FrontConditions w n ts r → length r ≤ length ts
front_conditions_takes (inner.no_bar_yet a0) = omega arith
front_conditions_takes (inner.at_bar a0) = let ha0 = front_token_takes a0 in omega arith
front_conditions_takes (inner.in_constraints a0 a1) = let ha1 = front_constraints_takes a1 in omega arith

pub front_domain_rest_takes : {w : Meant} {n : ℕ} {ts r : List Token} → FrontDomainRest w n ts r → length r ≤ length ts
front_domain_rest_takes (inner.in_names a0) = let ha0 = front_optional_names_takes a0 in omega arith
front_domain_rest_takes (inner.in_conditions a0 a1) = let ha0 = optional_names_take a0 in let ha1 = front_conditions_takes a1 in omega arith
front_domain_rest_takes (inner.at_close a0 a1 a2) = let ha0 = optional_names_take a0 in let ha1 = conditions_take a1 in let ha2 = front_token_takes a2 in omega arith

pub front_domain_takes : {w : Meant} {n : ℕ} {ts r : List Token} → FrontDomain w n ts r → length r ≤ length ts
front_domain_takes (inner.at_open a0) = let ha0 = front_token_takes a0 in omega arith
front_domain_takes (inner.in_rest a0 a1) = let ha1 = front_domain_rest_takes a1 in omega arith

pub front_map_takes : {w : Meant} {n : ℕ} {ts r : List Token} → FrontMap w n ts r → length r ≤ length ts
front_map_takes (inner.at_open a0) = let ha0 = front_token_takes a0 in omega arith
front_map_takes (inner.in_names a0 a1) = let ha1 = front_optional_names_takes a1 in omega arith
front_map_takes (inner.at_arrow a0 a1 a2) = let ha1 = optional_names_take a1 in let ha2 = front_token_takes a2 in omega arith
front_map_takes (inner.in_results a0 a1 a2 a3) = let ha1 = optional_names_take a1 in let ha3 = front_optional_indices_takes a3 in omega arith
front_map_takes (inner.at_close a0 a1 a2 a3 a4) = let ha1 = optional_names_take a1 in let ha3 = optional_indices_take a3 in let ha4 = front_token_takes a4 in omega arith

pub front_brackets_takes : {w : Meant} {n : ℕ} {ts r : List Token} → FrontBrackets w n ts r → length r ≤ length ts
front_brackets_takes (fronts.no_bracket_yet a0) = omega arith
front_brackets_takes (fronts.at_open a0) = let ha0 = front_token_takes a0 in omega arith
front_brackets_takes (fronts.at_close a0 a1) = let ha1 = front_token_takes a1 in omega arith

mutual
  pub front_expr_takes : {w : Meant} {n : ℕ} {ts r : List Token} → FrontExpr w n ts r → length r ≤ length ts
  front_expr_takes (fronts.at_brace a0) = let ha0 = front_token_takes a0 in omega arith
  front_expr_takes (fronts.in_domain a0 a1) = let ha1 = front_domain_rest_takes a1 in omega arith
  front_expr_takes (fronts.at_colon a0 a1) = let ha0 = domain_takes a0 in let ha1 = front_token_takes a1 in omega arith
  front_expr_takes (fronts.in_restricted a0 a1 a2) = let ha0 = domain_takes a0 in let ha2 = front_expr_takes a2 in omega arith
  front_expr_takes (fronts.at_if a0) = let ha0 = front_token_takes a0 in omega arith
  front_expr_takes (fronts.in_left a0 a1) = let ha1 = front_sum_takes a1 in omega arith
  front_expr_takes (fronts.at_compare a0 a1 a2) = let ha1 = sum_takes a1 in let ha2 = front_token_takes a2 in omega arith
  front_expr_takes (fronts.in_right a0 a1 a2 a3) = let ha1 = sum_takes a1 in let ha3 = front_sum_takes a3 in omega arith
  front_expr_takes (fronts.at_then a0 a1 a2 a3 a4) = let ha1 = sum_takes a1 in let ha3 = sum_takes a3 in let ha4 = front_token_takes a4 in omega arith
  front_expr_takes (fronts.in_yes a0 a1 a2 a3 a4 a5) = let ha1 = sum_takes a1 in let ha3 = sum_takes a3 in let ha5 = front_expr_takes a5 in omega arith
  front_expr_takes (fronts.at_else a0 a1 a2 a3 a4 a5 a6) = let ha1 = sum_takes a1 in let ha3 = sum_takes a3 in let ha5 = expr_takes a5 in let ha6 = front_token_takes a6 in omega arith
  front_expr_takes (fronts.in_no a0 a1 a2 a3 a4 a5 a6 a7) = let ha1 = sum_takes a1 in let ha3 = sum_takes a3 in let ha5 = expr_takes a5 in let ha7 = front_expr_takes a7 in omega arith
  front_expr_takes (fronts.in_sum a0) = let ha0 = front_sum_takes a0 in omega arith

  pub front_sum_takes : {w : Meant} {n : ℕ} {ts r : List Token} → FrontSum w n ts r → length r ≤ length ts
  front_sum_takes (fronts.in_product a0) = let ha0 = front_product_takes a0 in omega arith
  front_sum_takes (fronts.past_product a0 a1) = let ha0 = product_takes a0 in let ha1 = front_sum_tail_takes a1 in omega arith

  pub front_sum_tail_takes : {w : Meant} {n : ℕ} {ts r : List Token} → FrontSumTail w n ts r → length r ≤ length ts
  front_sum_tail_takes (fronts.no_sign_yet a0) = omega arith
  front_sum_tail_takes (fronts.at_sign a0) = let ha0 = front_token_takes a0 in omega arith
  front_sum_tail_takes (fronts.in_addend a0 a1) = let ha1 = front_product_takes a1 in omega arith
  front_sum_tail_takes (fronts.past_addend a0 a1 a2) = let ha1 = product_takes a1 in let ha2 = front_sum_tail_takes a2 in omega arith

  pub front_product_takes : {w : Meant} {n : ℕ} {ts r : List Token} → FrontProduct w n ts r → length r ≤ length ts
  front_product_takes (fronts.in_unary a0) = let ha0 = front_unary_takes a0 in omega arith
  front_product_takes (fronts.past_unary a0 a1) = let ha0 = unary_takes a0 in let ha1 = front_product_tail_takes a1 in omega arith

  pub front_product_tail_takes : {w : Meant} {n : ℕ} {ts r : List Token} → FrontProductTail w n ts r → length r ≤ length ts
  front_product_tail_takes (fronts.no_times_yet a0) = omega arith
  front_product_tail_takes (fronts.at_times a0) = let ha0 = front_token_takes a0 in omega arith
  front_product_tail_takes (fronts.in_factor a0 a1) = let ha1 = front_unary_takes a1 in omega arith
  front_product_tail_takes (fronts.past_factor a0 a1 a2) = let ha1 = unary_takes a1 in let ha2 = front_product_tail_takes a2 in omega arith

  pub front_unary_takes : {w : Meant} {n : ℕ} {ts r : List Token} → FrontUnary w n ts r → length r ≤ length ts
  front_unary_takes (fronts.at_minus a0) = let ha0 = front_token_takes a0 in omega arith
  front_unary_takes (fronts.past_minus a0 a1) = let ha1 = front_unary_takes a1 in omega arith
  front_unary_takes (fronts.in_postfix a0) = let ha0 = front_postfix_takes a0 in omega arith

  pub front_postfix_takes : {w : Meant} {n : ℕ} {ts r : List Token} → FrontPostfix w n ts r → length r ≤ length ts
  front_postfix_takes (fronts.in_primary a0) = let ha0 = front_primary_takes a0 in omega arith
  front_postfix_takes (fronts.past_name a0 a1) = let ha1 = front_postfix_tail_takes a1 in omega arith
  front_postfix_takes (fronts.past_number a0 a1 a2) = let ha1 = brackets_take a1 in let ha2 = front_postfix_tail_takes a2 in omega arith
  front_postfix_takes (fronts.past_primary a0 a1) = let ha0 = primary_takes a0 in let ha1 = front_postfix_tail_takes a1 in omega arith

  pub front_postfix_tail_takes : {w : Meant} {n : ℕ} {ts r : List Token} → FrontPostfixTail w n ts r → length r ≤ length ts
  front_postfix_tail_takes (fronts.no_dot_yet a0) = omega arith
  front_postfix_tail_takes (fronts.at_dot a0) = let ha0 = front_token_takes a0 in omega arith
  front_postfix_tail_takes (fronts.in_map a0 a1) = let ha1 = front_map_takes a1 in omega arith
  front_postfix_tail_takes (fronts.past_map a0 a1 a2) = let ha1 = map_takes a1 in let ha2 = front_postfix_tail_takes a2 in omega arith

  pub front_primary_takes : {w : Meant} {n : ℕ} {ts r : List Token} → FrontPrimary w n ts r → length r ≤ length ts
  front_primary_takes (fronts.at_number a0) = let ha0 = front_token_takes a0 in omega arith
  front_primary_takes (fronts.in_brackets a0 a1) = let ha1 = front_brackets_takes a1 in omega arith
  front_primary_takes (fronts.at_name a0) = let ha0 = front_token_takes a0 in omega arith
  front_primary_takes (fronts.at_bracket a0 a1) = let ha1 = front_token_takes a1 in omega arith
  front_primary_takes (fronts.in_indices a0 a1 a2) = let ha2 = front_optional_indices_takes a2 in omega arith
  front_primary_takes (fronts.at_bracket_close a0 a1 a2 a3) = let ha2 = optional_indices_take a2 in let ha3 = front_token_takes a3 in omega arith
  front_primary_takes (fronts.at_parenthesis a0) = let ha0 = front_token_takes a0 in omega arith
  front_primary_takes (fronts.in_parenthesis a0 a1) = let ha1 = front_expr_takes a1 in omega arith
  front_primary_takes (fronts.at_parenthesis_close a0 a1 a2) = let ha1 = expr_takes a1 in let ha2 = front_token_takes a2 in omega arith
  front_primary_takes (fronts.at_extreme a0) = let ha0 = front_token_takes a0 in omega arith
  front_primary_takes (fronts.at_extreme_open a0 a1) = let ha1 = front_token_takes a1 in omega arith
  front_primary_takes (fronts.in_one a0 a1 a2) = let ha2 = front_expr_takes a2 in omega arith
  front_primary_takes (fronts.at_extreme_comma a0 a1 a2 a3) = let ha2 = expr_takes a2 in let ha3 = front_token_takes a3 in omega arith
  front_primary_takes (fronts.in_other a0 a1 a2 a3 a4) = let ha2 = expr_takes a2 in let ha4 = front_expr_takes a4 in omega arith
  front_primary_takes (fronts.at_extreme_close a0 a1 a2 a3 a4 a5) = let ha2 = expr_takes a2 in let ha4 = expr_takes a4 in let ha5 = front_token_takes a5 in omega arith
  front_primary_takes (fronts.at_case a0) = let ha0 = front_token_takes a0 in omega arith
  front_primary_takes (fronts.in_case a0 a1) = let ha1 = front_branches_takes a1 in omega arith
  front_primary_takes (fronts.at_esac a0 a1 a2) = let ha1 = branches_take a1 in let ha2 = front_token_takes a2 in omega arith
  front_primary_takes (fronts.at_reduce a0) = let ha0 = front_token_takes a0 in omega arith
  front_primary_takes (fronts.at_reduce_open a0 a1) = let ha1 = front_token_takes a1 in omega arith
  front_primary_takes (fronts.at_op a0 a1 a2) = let ha2 = front_token_takes a2 in omega arith
  front_primary_takes (fronts.at_op_comma a0 a1 a2 a3) = let ha3 = front_token_takes a3 in omega arith
  front_primary_takes (fronts.in_projection a0 a1 a2 a3 a4) = let ha4 = front_map_takes a4 in omega arith
  front_primary_takes (fronts.at_projection_comma a0 a1 a2 a3 a4 a5) = let ha4 = map_takes a4 in let ha5 = front_token_takes a5 in omega arith
  front_primary_takes (fronts.in_body a0 a1 a2 a3 a4 a5 a6) = let ha4 = map_takes a4 in let ha6 = front_expr_takes a6 in omega arith
  front_primary_takes (fronts.at_reduce_close a0 a1 a2 a3 a4 a5 a6 a7) = let ha4 = map_takes a4 in let ha6 = expr_takes a6 in let ha7 = front_token_takes a7 in omega arith

  pub front_branches_takes : {w : Meant} {n : ℕ} {ts r : List Token} → FrontBranches w n ts r → length r ≤ length ts
  front_branches_takes (fronts.in_branch a0) = let ha0 = front_expr_takes a0 in omega arith
  front_branches_takes (fronts.at_semicolon a0 a1) = let ha0 = expr_takes a0 in let ha1 = front_token_takes a1 in omega arith
  front_branches_takes (fronts.past_semicolon a0 a1 a2) = let ha0 = expr_takes a0 in let ha2 = front_branches_takes a2 in omega arith

pub front_index_names_takes : {w : Meant} {ts r : List Token} → FrontIndexNames w ts r → length r ≤ length ts
front_index_names_takes (programs.no_bracket_yet a0) = omega arith
front_index_names_takes (programs.at_open a0) = let ha0 = front_token_takes a0 in omega arith
front_index_names_takes (programs.in_names a0 a1) = let ha1 = front_optional_names_takes a1 in omega arith
front_index_names_takes (programs.at_close a0 a1 a2) = let ha1 = optional_names_take a1 in let ha2 = front_token_takes a2 in omega arith

pub front_equation_takes : {w : Meant} {ts r : List Token} → FrontEquation w ts r → length r ≤ length ts
front_equation_takes (programs.at_name a0) = let ha0 = front_token_takes a0 in omega arith
front_equation_takes (programs.in_index_names a0 a1) = let ha1 = front_index_names_takes a1 in omega arith
front_equation_takes (programs.at_equal a0 a1 a2) = let ha1 = index_names_take a1 in let ha2 = front_token_takes a2 in omega arith
front_equation_takes (programs.in_right a0 a1 a2 a3) = let ha1 = index_names_take a1 in let ha3 = front_expr_takes a3 in omega arith
front_equation_takes (programs.at_semicolon a0 a1 a2 a3 a4) = let ha1 = index_names_take a1 in let ha3 = expr_takes a3 in let ha4 = front_token_takes a4 in omega arith

pub front_equations_takes : {w : Meant} {ts r : List Token} → FrontEquations w ts r → length r ≤ length ts
front_equations_takes (programs.no_equation_yet a0) = omega arith
front_equations_takes (programs.in_equation a0) = let ha0 = front_equation_takes a0 in omega arith
front_equations_takes (programs.past_equation a0 a1) = let ha0 = equation_takes a0 in let ha1 = front_equations_takes a1 in omega arith
