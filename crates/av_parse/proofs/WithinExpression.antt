-- How many tokens are left where a reader of expressions stops: no more than there were.
use Rattle.std.proofs.Common.{ℕ, zero, suc, Bool, true, false, List, length, Option, Some, None}
use Rattle.std.specs.Prelude.{codes}
use Rattle.av_base.specs.declared.place.Place.{Place}
use Rattle.av_base.specs.declared.word.Op.{Op}
use Rattle.av_base.specs.Tokens.{Token}
use Rattle.av_tree.specs.declared.sign.Sign.{Sign}
use Rattle.av_tree.specs.declared.sign.Sign.TheVariants as sign
use Rattle.av_tree.specs.Trees.{Text, Expression}
use Rattle.av_parse.specs.inner.Reader.{after, place_of, text_of, value_of, too_deep, deep_fault}
use Rattle.av_parse.specs.inner.ExpressionReader.{Readers, brackets_of, indexed_of, parenthesis_of, extreme_of, branches_of, cases_of, op_at, op_by, reduction_of, primary_of, postfix_tail_of, named_of, numbered_of, postfix_of, unary_of, product_tail_of, product_of, sign_at, sum_tail_by, sum_tail_of, sum_of, compare_at, choice_of, restriction_of, expr_of, begins_unary, begins_expr, begins_domain_rest, readers}
use Rattle.av_parse.proofs.WithinIndex.{Within, left, stops, deep, closer, bind_within, if_within, le_same, after_within, expect_with_within, symbol_within, optional_indices_within, relation_within, domain_rest_within, map_within}
use Rattle.av_base.specs.declared.token_kind.TokenKind.TheVariants as kind

pub record WithinAll (b : Readers) : Type 0 where
  pub expr : (ts : List Token) → Within (length ts) (b.expr ts)
  pub sum : (ts : List Token) → Within (length ts) (b.sum ts)
  pub sum_tail : (a : Expression) (ts : List Token) → Within (length ts) (b.sum_tail a ts)
  pub product : (ts : List Token) → Within (length ts) (b.product ts)
  pub product_tail : (a : Expression) (ts : List Token) → Within (length ts) (b.product_tail a ts)
  pub unary : (ts : List Token) → Within (length ts) (b.unary ts)
  pub postfix_tail : (a : Expression) (ts : List Token) → Within (length ts) (b.postfix_tail a ts)
  pub opening : (ts : List Token) → Within (length ts) (b.opening ts)
  pub domain_rest : (p : Place) (ts : List Token) → Within (length ts) (b.domain_rest p ts)

pub brackets_within : (ts : List Token) → Within (length ts) (brackets_of ts)
unfolding brackets_of
brackets_within ts = if_within _ (bind_within _ (closer (symbol_within (codes "]") (after ts)) (after_within ts)) (λ c. left (le_same _))) (left (le_same _))

pub indexed_within : (name : Text) (p : Place) (ts : List Token) → Within (length ts) (indexed_of name p ts)
unfolding indexed_of
indexed_within name p ts = bind_within _ (optional_indices_within ts) (λ es. bind_within _ (symbol_within (codes "]") es.1) (λ c. left (le_same _)))

pub op_within : (o : Option Op) (ts : List Token) → Within (length ts) (op_by o ts)
unfolding op_by
op_within None ts = stops (le_same _)
op_within (Some f) ts = left (after_within ts)

module _ (b : Readers) (g : WithinAll b) where
  pub parenthesis_within : (ts : List Token) → Within (length ts) (parenthesis_of b ts)
  unfolding parenthesis_of
  parenthesis_within ts = bind_within _ (g.expr ts) (λ e. bind_within _ (symbol_within (codes ")") e.1) (λ c. left (le_same _)))

  pub extreme_within : (s : Sign) (p : Place) (ts : List Token) → Within (length ts) (extreme_of b s p ts)
  unfolding extreme_of
  extreme_within s p ts =
      bind_within _ (g.opening ts) (λ o. bind_within _ (g.expr o.1) (λ x. bind_within _ (symbol_within (codes ",") x.1) (λ q. bind_within _ (g.expr q.1) (λ y.
      bind_within _ (symbol_within (codes ")") y.1) (λ c. left (le_same _))))))

  pub branches_within : (m : ℕ) (ts : List Token) → Within (length ts) (branches_of b m ts)
  unfolding branches_of
  branches_within zero ts = stops (le_same _)
  branches_within (suc m) ts =
      bind_within _ (g.expr ts) (λ e. bind_within _ (symbol_within (codes ";") e.1) (λ s.
      if_within _ (left (le_same _)) (bind_within _ (branches_within m s.1) (λ es. left (le_same _)))))

  pub cases_within : (p : Place) (ts : List Token) → Within (length ts) (cases_of b p ts)
  unfolding cases_of
  cases_within p ts = bind_within _ (branches_within (length ts) ts) (λ es. bind_within _ (expect_with_within kind.Reserved (codes "esac") es.1) (λ s. left (le_same _)))

  pub reduction_within : (p : Place) (ts : List Token) → Within (length ts) (reduction_of b p ts)
  unfolding reduction_of
  reduction_within p ts =
      bind_within _ (g.opening ts) (λ o. bind_within _ (op_within (op_at o.1) o.1) (λ f. bind_within _ (symbol_within (codes ",") f.1) (λ q. bind_within _ (map_within q.1) (λ m.
      bind_within _ (symbol_within (codes ",") m.1) (λ c. bind_within _ (g.expr c.1) (λ e. bind_within _ (symbol_within (codes ")") e.1) (λ d. left (le_same _))))))))

  pub primary_within : (ts : List Token) → Within (length ts) (primary_of b ts)
  unfolding primary_of
  primary_within ts =
      if_within _ (closer (parenthesis_within (after ts)) (after_within ts))
      (if_within _ (closer (extreme_within sign.Min (place_of ts) (after ts)) (after_within ts))
      (if_within _ (closer (extreme_within sign.Max (place_of ts) (after ts)) (after_within ts))
      (if_within _ (closer (cases_within (place_of ts) (after ts)) (after_within ts))
      (if_within _ (closer (reduction_within (place_of ts) (after ts)) (after_within ts)) (stops (le_same _))))))

  pub postfix_tail_within : (a : Expression) (ts : List Token) → Within (length ts) (postfix_tail_of b a ts)
  unfolding postfix_tail_of
  postfix_tail_within a ts = if_within _ (bind_within _ (closer (map_within (after ts)) (after_within ts)) (λ m. g.postfix_tail _ m.1)) (left (le_same _))

  pub named_within : (name : Text) (p : Place) (ts : List Token) → Within (length ts) (named_of b name p ts)
  unfolding named_of
  named_within name p ts =
      if_within _ (bind_within _ (closer (indexed_within name p (after ts)) (after_within ts)) (λ a. postfix_tail_within a.0 a.1))
      (if_within _ (bind_within _ (closer (map_within (after ts)) (after_within ts)) (λ m. g.postfix_tail _ m.1)) (left (le_same _)))

  pub numbered_within : (v : ℕ) (p : Place) (ts : List Token) → Within (length ts) (numbered_of b v p ts)
  unfolding numbered_of
  numbered_within v p ts =
      bind_within _ (brackets_within ts) (λ at.
      if_within _ (bind_within _ (closer (map_within (after at.1)) (after_within at.1)) (λ m. g.postfix_tail _ m.1)) (left (le_same _)))

  pub postfix_within : (ts : List Token) → Within (length ts) (postfix_of b ts)
  unfolding postfix_of
  postfix_within ts =
      if_within _ (closer (named_within (text_of ts) (place_of ts) (after ts)) (after_within ts))
      (if_within _ (closer (numbered_within (value_of ts) (place_of ts) (after ts)) (after_within ts))
      (bind_within _ (primary_within ts) (λ a. postfix_tail_within a.0 a.1)))

  pub unary_within : (ts : List Token) → Within (length ts) (unary_of b ts)
  unfolding unary_of
  unary_within ts = if_within _ (bind_within _ (closer (g.unary (after ts)) (after_within ts)) (λ e. left (le_same _))) (postfix_within ts)

  pub product_tail_within : (a : Expression) (ts : List Token) → Within (length ts) (product_tail_of b a ts)
  unfolding product_tail_of
  product_tail_within a ts = if_within _ (bind_within _ (closer (g.unary (after ts)) (after_within ts)) (λ e. g.product_tail _ e.1)) (left (le_same _))

  pub product_within : (ts : List Token) → Within (length ts) (product_of b ts)
  unfolding product_of
  product_within ts = bind_within _ (unary_within ts) (λ a. product_tail_within a.0 a.1)

  pub sum_tail_by_within : (o : Option Sign) (a : Expression) (ts : List Token) → Within (length ts) (sum_tail_by b o a ts)
  unfolding sum_tail_by
  sum_tail_by_within None a ts = left (le_same _)
  sum_tail_by_within (Some s) a ts = bind_within _ (closer (g.product (after ts)) (after_within ts)) (λ e. g.sum_tail _ e.1)

  pub sum_tail_within : (a : Expression) (ts : List Token) → Within (length ts) (sum_tail_of b a ts)
  unfolding sum_tail_of
  sum_tail_within a ts = sum_tail_by_within (sign_at ts) a ts

  pub sum_within : (ts : List Token) → Within (length ts) (sum_of b ts)
  unfolding sum_of
  sum_within ts = bind_within _ (product_within ts) (λ a. sum_tail_within a.0 a.1)

  pub choice_within : (p : Place) (ts : List Token) → Within (length ts) (choice_of b p ts)
  unfolding choice_of
  choice_within p ts =
      bind_within _ (g.sum ts) (λ x. bind_within _ (relation_within (compare_at x.1) x.1) (λ r. bind_within _ (g.sum r.1) (λ y.
      bind_within _ (expect_with_within kind.Reserved (codes "then") y.1) (λ t. bind_within _ (g.expr t.1) (λ p.
      bind_within _ (expect_with_within kind.Reserved (codes "else") p.1) (λ s. bind_within _ (g.expr s.1) (λ q. left (le_same _))))))))

  pub restriction_within : (p : Place) (ts : List Token) → Within (length ts) (restriction_of b p ts)
  unfolding restriction_of
  restriction_within p ts =
      bind_within _ (g.domain_rest p ts) (λ d. bind_within _ (symbol_within (codes ":") d.1) (λ c. bind_within _ (g.expr c.1) (λ e. left (le_same _))))

  pub expr_within : (ts : List Token) → Within (length ts) (expr_of b ts)
  unfolding expr_of
  expr_within ts =
      if_within _ (closer (restriction_within (place_of ts) (after ts)) (after_within ts))
      (if_within _ (closer (choice_within (place_of ts) (after ts)) (after_within ts)) (sum_within ts))

pub too_deep_within : {A : Type 0} (t : Bool) (ts : List Token) → Within {A = A} (length ts) (too_deep t ts)
unfolding deep_fault
too_deep_within true ts = deep
too_deep_within false ts = stops (le_same _)

pub all_within : (k : ℕ) → WithinAll (readers k)
unfolding readers
all_within zero = record {
  expr = λ ts. too_deep_within (begins_expr ts) ts;
  sum = λ ts. too_deep_within (begins_unary ts) ts;
  sum_tail = λ a ts. stops (le_same _);
  product = λ ts. too_deep_within (begins_unary ts) ts;
  product_tail = λ a ts. stops (le_same _);
  unary = λ ts. too_deep_within (begins_unary ts) ts;
  postfix_tail = λ a ts. if_within _ (too_deep_within true ts) (left (le_same _));
  opening = λ ts. too_deep_within _ ts;
  domain_rest = λ p ts. too_deep_within (begins_domain_rest ts) ts;
}
all_within (suc k) =
    let g = all_within k in
    record {
      expr = λ ts. expr_within (readers k) g ts;
      sum = λ ts. sum_within (readers k) g ts;
      sum_tail = λ a ts. sum_tail_within (readers k) g a ts;
      product = λ ts. product_within (readers k) g ts;
      product_tail = λ a ts. product_tail_within (readers k) g a ts;
      unary = λ ts. unary_within (readers k) g ts;
      postfix_tail = λ a ts. postfix_tail_within (readers k) g a ts;
      opening = λ ts. symbol_within (codes "(") ts;
      domain_rest = λ p ts. domain_rest_within p ts;
    }
