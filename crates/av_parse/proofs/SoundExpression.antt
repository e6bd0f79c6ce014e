-- Expressions that are read are spelled so, with room for as many levels as the reader has.
use Rattle.std.proofs.Common.{◌≡◌, ℕ, zero, suc, List, ◌∷◌, length, Option, Some, None}
use Rattle.std.specs.Prelude.{codes}
use Rattle.av_base.specs.declared.token_kind.TokenKind.TheVariants as kind
use Rattle.av_base.specs.declared.word.Op.{Op}
use Rattle.av_base.specs.declared.word.Op.TheVariants as op
use Rattle.av_base.specs.Tokens.{Token, number_of}
use Rattle.av_tree.specs.declared.relation.Relation.{Relation}
use Rattle.av_tree.specs.declared.relation.Relation.TheVariants as relation
use Rattle.av_tree.specs.declared.sign.Sign.{Sign}
use Rattle.av_tree.specs.declared.sign.Sign.TheVariants as sign
use Rattle.av_tree.specs.Trees.{Expression, binary}
use Rattle.av_tree.specs.Parts.{IsName, IsNumber, IsSymbol, IsReserved, IsRelation, IsCompare, IsOp}
use Rattle.av_tree.specs.IndexGrammar.{IsDomain}
use Rattle.av_tree.specs.ExpressionGrammar.{IsBrackets, no_brackets, brackets, IsExpr, restricted, chosen, plain, IsSum, sum, IsSumTail, sum_ends, plus, minus, IsProduct, product, IsProductTail, product_ends, times, IsUnary, negative, postfix, IsPostfix, bare, bare_mapped, number, number_mapped, primary, IsPostfixTail, no_map, mapped, IsPrimary, indexed, parenthesis, least, greatest, case_of, reduced, IsBranches, last_branch, branch}
use Rattle.av_parse.specs.inner.Reader.{begins_symbol, begins_word, after, expect_symbol}
use Rattle.av_parse.specs.inner.IndexReader.{relation_at}
use Rattle.av_parse.specs.inner.ExpressionReader.{Readers, brackets_of, indexed_of, parenthesis_of, extreme_of, branches_of, cases_of, op_at, op_by, reduction_of, primary_of, postfix_tail_of, named_of, numbered_of, postfix_of, unary_of, product_tail_of, product_of, sign_at, sum_tail_by, sum_tail_of, sum_of, compare_at, choice_of, restriction_of, expr_of, readers}
use Rattle.av_parse.proofs.SoundSteps.{Holds, fine, failed, weaker, expected, bind, by_test, by_symbol, by_word, by_kind, symbol, word, Starts, Chosen, nothing, one, first_of_two, symbol_starts, word_starts}
use Rattle.av_parse.proofs.SoundIndex.{optional_indices_sound, relation_at_sound, relation_by_sound, domain_rest_sound, map_sound}

-- the readers of one level
pub record Sound (n : ℕ) (b : Readers) : Type 0 where
  pub expr : (ts : List Token) → Holds (λ y. IsExpr n ts y.1 y.0) (b.expr ts)
  pub sum : (ts : List Token) → Holds (λ y. IsSum n ts y.1 y.0) (b.sum ts)
  pub sum_tail : (a : Expression) (ts : List Token) → Holds (λ y. IsSumTail n a ts y.1 y.0) (b.sum_tail a ts)
  pub product : (ts : List Token) → Holds (λ y. IsProduct n ts y.1 y.0) (b.product ts)
  pub product_tail : (a : Expression) (ts : List Token) → Holds (λ y. IsProductTail n a ts y.1 y.0) (b.product_tail a ts)
  pub unary : (ts : List Token) → Holds (λ y. IsUnary n ts y.1 y.0) (b.unary ts)
  pub postfix_tail : (a : Expression) (ts : List Token) → Holds (λ y. IsPostfixTail n a ts y.1 y.0) (b.postfix_tail a ts)
  pub opening : (ts : List Token) → Holds (λ y. (ts ≡ y.0 ∷ y.1) × IsSymbol (codes "(") y.0) (b.opening ts)
  pub domain_rest : (o : Token) (ts : List Token) → IsSymbol (codes "{") o → Holds (λ y. IsDomain (o ∷ ts) y.1 y.0) (b.domain_rest o.place ts)

-- ---- operators and comparisons

pub op_at_sound : (ts : List Token) → Chosen (λ f. Starts (IsOp f) ts (after ts)) (op_at ts)
unfolding op_at
op_at_sound ts =
    first_of_two _ op.Add _ (λ e. symbol_starts (codes "+") ts e)
    (first_of_two _ op.Mul _ (λ e. symbol_starts (codes "*") ts e)
    (first_of_two _ op.Min _ (λ e. word_starts (codes "min") ts e)
    (first_of_two _ op.Max _ (λ e. word_starts (codes "max") ts e) nothing)))

pub op_by_sound : (o : Option Op) (ts : List Token) → Chosen (λ f. Starts (IsOp f) ts (after ts)) o → Holds (λ y. Starts (IsOp y.0) ts y.1) (op_by o ts)
unfolding op_by
op_by_sound None ts is = failed
op_by_sound (Some f) ts (one is) = fine is

pub compare_at_sound : (ts : List Token) → Chosen (λ r. Starts (IsCompare r) ts (after ts)) (compare_at ts)
unfolding compare_at
compare_at_sound ts = first_of_two _ relation.Unequal _ (λ e. symbol_starts (codes "<>") ts e) (forget (relation_at ts) (relation_at_sound ts))
  where
    forget : (o : Option Relation) → Chosen (λ r. Starts (IsRelation r) ts (after ts)) o → Chosen (λ r. Starts (IsCompare r) ts (after ts)) o
    forget None nothing = nothing
    forget (Some r) (one is) = one (is.0, is.1, is.2.1)

-- the sign of a sum
abbrev pub IsSumSign : Sign → Token → Type 0
IsSumSign sign.Add p = IsSymbol (codes "+") p
IsSumSign sign.Sub p = IsSymbol (codes "-") p
IsSumSign _ p = ⊥

pub sign_at_sound : (ts : List Token) → Chosen (λ s. Starts (IsSumSign s) ts (after ts)) (sign_at ts)
sign_at_sound ts =
    first_of_two _ sign.Add _ (λ e. symbol_starts (codes "+") ts e)
    (first_of_two _ sign.Sub _ (λ e. symbol_starts (codes "-") ts e) nothing)

-- ---- primaries

pub brackets_sound : (ts : List Token) → Holds (λ y. IsBrackets ts y.1 y.0) (brackets_of ts)
unfolding brackets_of
brackets_sound ts =
    by_symbol (codes "[") ts _ _
    (λ o rest all opened. rw all (symbol (codes "]") rest _ (λ c t1 end close. rw end (fine (brackets opened close)))))
    (λ no. fine no_brackets)

pub indexed_sound : (n : ℕ) (x o : Token) (ts : List Token) → IsName x → IsSymbol (codes "[") o → Holds (λ y. IsPrimary (suc n) (x ∷ o ∷ ts) y.1 y.0) (indexed_of x.text x.place ts)
unfolding indexed_of
indexed_sound n x o ts is opened =
    bind _ (optional_indices_sound ts) (λ es t1 list.
    symbol (codes "]") t1 _ (λ c t2 end close. fine (indexed is opened (rw end at list) close)))

module _ (n : ℕ) (b : Readers) (s : Sound n b) where
  pub parenthesis_sound : (o : Token) (ts : List Token) → IsSymbol (codes "(") o → Holds (λ y. IsPrimary (suc n) (o ∷ ts) y.1 y.0) (parenthesis_of b ts)
  unfolding parenthesis_of
  parenthesis_sound o ts opened =
      bind _ (s.expr ts) (λ e t1 is.
      symbol (codes ")") t1 _ (λ c t2 end close. fine (parenthesis opened (rw end at is) close)))

  -- what makes a primary of two operands behind the word w
  abbrev Makes : Sign → Token → Type 0
  Makes g w = (o q c : Token) (ts mid rest : List Token) (x y : Expression) → IsSymbol (codes "(") o → IsExpr n ts (q ∷ mid) x → IsSymbol (codes ",") q
      → IsExpr n mid (c ∷ rest) y → IsSymbol (codes ")") c → IsPrimary (suc n) (w ∷ o ∷ ts) rest (binary g x y w.place)

  extreme_sound : (g : Sign) (w : Token) (ts : List Token) → Makes g w → Holds (λ y. IsPrimary (suc n) (w ∷ ts) y.1 y.0) (extreme_of b g w.place ts)
  unfolding extreme_of
  extreme_sound g w ts makes =
      bind _ (s.opening ts) (λ o t1 opened. rw opened.0
      (bind _ (s.expr t1) (λ x t2 first.
      symbol (codes ",") t2 _ (λ q t3 between comma.
      bind _ (s.expr t3) (λ y t4 second.
      symbol (codes ")") t4 _ (λ c t5 end close. fine (makes o q c t1 t3 t5 x y opened.1 (rw between at first) comma (rw end at second) close)))))))

  pub branches_sound : (m : ℕ) (ts : List Token) → Holds (λ y. IsBranches n ts y.1 y.0) (branches_of b m ts)
  unfolding branches_of
  branches_sound zero ts = failed
  branches_sound (suc m) ts =
      bind _ (s.expr ts) (λ e t1 first.
      symbol (codes ";") t1 _ (λ x t2 all semicolon.
      by_test (begins_word (codes "esac") t2) _ _
      (λ yes. fine (last_branch (rw all at first) semicolon))
      (λ no. bind _ (branches_sound m t2) (λ es t3 others. fine (branch (rw all at first) semicolon others)))))

  cases_sound : (w : Token) (ts : List Token) → IsReserved (codes "case") w → Holds (λ y. IsPrimary (suc n) (w ∷ ts) y.1 y.0) (cases_of b w.place ts)
  unfolding cases_of
  cases_sound w ts is =
      bind _ (branches_sound (length ts) ts) (λ es t1 others.
      word (codes "esac") t1 _ (λ x t2 all end. fine (case_of is (rw all at others) end)))

  reduction_sound : (w : Token) (ts : List Token) → IsReserved (codes "reduce") w → Holds (λ y. IsPrimary (suc n) (w ∷ ts) y.1 y.0) (reduction_of b w.place ts)
  unfolding reduction_of
  reduction_sound w ts is =
      bind _ (s.opening ts) (λ o t1 opened. rw opened.0
      (bind _ (op_by_sound (op_at t1) t1 (op_at_sound t1)) (λ f t2 operator. rw operator.1
      (symbol (codes ",") t2 _ (λ q t3 after_operator comma. rw after_operator
      (bind _ (map_sound t3) (λ m t4 projection.
      symbol (codes ",") t4 _ (λ p t5 after_map second_comma.
      bind _ (s.expr t5) (λ e t6 body.
      symbol (codes ")") t6 _ (λ c t7 end close.
      fine (reduced is opened.1 operator.2 comma (rw after_map at projection) second_comma (rw end at body) close)))))))))))

  pub primary_sound : (ts : List Token) → Holds (λ y. IsPrimary (suc n) ts y.1 y.0) (primary_of b ts)
  unfolding primary_of
  primary_sound ts =
      by_symbol (codes "(") ts _ _ (λ o rest all is. rw all (parenthesis_sound o rest is))
      (λ no. by_word (codes "min") ts _ _ (λ w rest all is. rw all (extreme_sound sign.Min w rest (λ o q c t1 t2 t3 x y h0 h1 h2 h3 h4. least is h0 h1 h2 h3 h4)))
      (λ no. by_word (codes "max") ts _ _ (λ w rest all is. rw all (extreme_sound sign.Max w rest (λ o q c t1 t2 t3 x y h0 h1 h2 h3 h4. greatest is h0 h1 h2 h3 h4)))
      (λ no. by_word (codes "case") ts _ _ (λ w rest all is. rw all (cases_sound w rest is))
      (λ no. by_word (codes "reduce") ts _ _ (λ w rest all is. rw all (reduction_sound w rest is)) (λ no. failed)))))

  -- ---- primaries with maps

  postfix_tail_sound : (a : Expression) (ts : List Token) → Holds (λ y. IsPostfixTail (suc n) a ts y.1 y.0) (postfix_tail_of b a ts)
  unfolding postfix_tail_of
  postfix_tail_sound a ts =
      by_symbol (codes ".") ts _ _
      (λ d rest all dot. rw all (bind _ (map_sound rest) (λ m t1 is. weaker (s.postfix_tail _ t1) (λ y others. mapped dot is others))))
      (λ no. fine no_map)

  named_sound : (x : Token) (ts : List Token) → IsName x → Holds (λ y. IsPostfix (suc n) (x ∷ ts) y.1 y.0) (named_of b x.text x.place ts)
  unfolding named_of
  named_sound x ts is =
      by_symbol (codes "[") ts _ _
      (λ o rest all opened. rw all (bind _ (indexed_sound n x o rest is opened) (λ a t1 first. weaker (postfix_tail_sound a t1) (λ y others. primary first others))))
      (λ no. by_symbol (codes ".") ts _ _
      (λ d rest all dot. rw all (bind _ (map_sound rest) (λ m t1 map. weaker (s.postfix_tail _ t1) (λ y others. bare_mapped is dot map others))))
      (λ no. fine (bare is)))

  numbered_sound : (x : Token) (ts : List Token) → IsNumber x → Holds (λ y. IsPostfix (suc n) (x ∷ ts) y.1 y.0) (numbered_of b (number_of x.text) x.place ts)
  unfolding numbered_of
  numbered_sound x ts is =
      bind _ (brackets_sound ts) (λ at t1 around.
      by_symbol (codes ".") t1 _ _
      (λ d t2 all dot. rw all (bind _ (map_sound t2) (λ m t3 map. weaker (s.postfix_tail _ t3) (λ y others. number_mapped is (rw all at around) dot map others))))
      (λ no. fine (number is around)))

  pub postfix_sound : (ts : List Token) → Holds (λ y. IsPostfix (suc n) ts y.1 y.0) (postfix_of b ts)
  unfolding postfix_of
  postfix_sound ts =
      by_kind kind.Name ts _ _ (λ x rest all is. rw all (named_sound x rest is))
      (λ no. by_kind kind.Number ts _ _ (λ x rest all is. rw all (numbered_sound x rest is))
      (λ no. bind _ (primary_sound ts) (λ a t1 first. weaker (postfix_tail_sound a t1) (λ y others. primary first others))))

  -- ---- operators

  pub unary_sound : (ts : List Token) → Holds (λ y. IsUnary (suc n) ts y.1 y.0) (unary_of b ts)
  unfolding unary_of
  unary_sound ts =
      by_symbol (codes "-") ts _ _
      (λ m rest all is. rw all (bind _ (s.unary rest) (λ e t1 body. fine (negative is body))))
      (λ no. weaker (postfix_sound ts) (λ y p. postfix p))

  product_tail_sound : (a : Expression) (ts : List Token) → Holds (λ y. IsProductTail (suc n) a ts y.1 y.0) (product_tail_of b a ts)
  unfolding product_tail_of
  product_tail_sound a ts =
      by_symbol (codes "*") ts _ _
      (λ p rest all is. rw all (bind _ (s.unary rest) (λ e t1 factor. weaker (s.product_tail _ t1) (λ y others. times is factor others))))
      (λ no. fine product_ends)

  pub product_sound : (ts : List Token) → Holds (λ y. IsProduct (suc n) ts y.1 y.0) (product_of b ts)
  unfolding product_of
  product_sound ts = bind _ (unary_sound ts) (λ a t1 first. weaker (product_tail_sound a t1) (λ y others. product first others))

  sum_tail_by_sound : (o : Option Sign) (a : Expression) (ts : List Token) → Chosen (λ g. Starts (IsSumSign g) ts (after ts)) o
      → Holds (λ y. IsSumTail (suc n) a ts y.1 y.0) (sum_tail_by b o a ts)
  unfolding sum_tail_by
  sum_tail_by_sound None a ts is = fine sum_ends
  sum_tail_by_sound (Some sign.Add) a ts (one is) = rw is.1 (bind _ (s.product (after ts)) (λ e t1 part. weaker (s.sum_tail _ t1) (λ y others. plus is.2 part others)))
  sum_tail_by_sound (Some sign.Sub) a ts (one is) = rw is.1 (bind _ (s.product (after ts)) (λ e t1 part. weaker (s.sum_tail _ t1) (λ y others. minus is.2 part others)))
  sum_tail_by_sound (Some _) a ts (one is) = absurd is.2

  sum_tail_sound : (a : Expression) (ts : List Token) → Holds (λ y. IsSumTail (suc n) a ts y.1 y.0) (sum_tail_of b a ts)
  unfolding sum_tail_of
  sum_tail_sound a ts = sum_tail_by_sound (sign_at ts) a ts (sign_at_sound ts)

  sum_sound : (ts : List Token) → Holds (λ y. IsSum (suc n) ts y.1 y.0) (sum_of b ts)
  unfolding sum_of
  sum_sound ts = bind _ (product_sound ts) (λ a t1 first. weaker (sum_tail_sound a t1) (λ y others. sum first others))

  -- ---- expressions

  choice_sound : (w : Token) (ts : List Token) → IsReserved (codes "if") w → Holds (λ y. IsExpr (suc n) (w ∷ ts) y.1 y.0) (choice_of b w.place ts)
  unfolding choice_of
  choice_sound w ts is =
      bind _ (s.sum ts) (λ x t1 left.
      bind _ (relation_by_sound IsCompare (compare_at t1) t1 (compare_at_sound t1)) (λ r t2 q.
      bind _ (s.sum t2) (λ y t3 right.
      word (codes "then") t3 _ (λ t t4 before then_is.
      bind _ (s.expr t4) (λ p t5 yes_part.
      word (codes "else") t5 _ (λ l t6 between else_is.
      bind _ (s.expr t6) (λ q' t7 no_part.
      fine (chosen is (rw q.1 at left) q.2 (rw before at right) then_is (rw between at yes_part) else_is no_part))))))))

  restriction_sound : (o : Token) (ts : List Token) → IsSymbol (codes "{") o → Holds (λ y. IsExpr (suc n) (o ∷ ts) y.1 y.0) (restriction_of b o.place ts)
  unfolding restriction_of
  restriction_sound o ts opened =
      bind _ (s.domain_rest o ts opened) (λ d t1 domain.
      symbol (codes ":") t1 _ (λ c t2 all colon.
      bind _ (s.expr t2) (λ e t3 body. fine (restricted (rw all at domain) colon body))))

  expr_sound : (ts : List Token) → Holds (λ y. IsExpr (suc n) ts y.1 y.0) (expr_of b ts)
  unfolding expr_of
  expr_sound ts =
      by_symbol (codes "{") ts _ _ (λ o rest all is. rw all (restriction_sound o rest is))
      (λ no. by_word (codes "if") ts _ _ (λ w rest all is. rw all (choice_sound w rest is))
      (λ no. weaker (sum_sound ts) (λ y p. plain p)))

pub opening_sound : (ts : List Token) → Holds (λ y. (ts ≡ y.0 ∷ y.1) × IsSymbol (codes "(") y.0) (expect_symbol (codes "(") ts)
opening_sound ts = expected kind.Symbol (codes "(") ts

pub all_sound : (n : ℕ) → Sound n (readers n)
unfolding readers
all_sound zero = record {
  expr = λ ts. failed;
  sum = λ ts. failed;
  sum_tail = λ a ts. failed;
  product = λ ts. failed;
  product_tail = λ a ts. failed;
  unary = λ ts. failed;
  postfix_tail = λ a ts. by_test (begins_symbol (codes ".") ts) _ _ (λ yes. failed) (λ no. fine no_map);
  opening = λ ts. failed;
  domain_rest = λ o ts is. failed;
}
all_sound (suc n) =
    let s = all_sound n in
    record {
      expr = λ ts. expr_sound n (readers n) s ts;
      sum = λ ts. sum_sound n (readers n) s ts;
      sum_tail = λ a ts. sum_tail_sound n (readers n) s a ts;
      product = λ ts. product_sound n (readers n) s ts;
      product_tail = λ a ts. product_tail_sound n (readers n) s a ts;
      unary = λ ts. unary_sound n (readers n) s ts;
      postfix_tail = λ a ts. postfix_tail_sound n (readers n) s a ts;
      opening = λ ts. opening_sound ts;
      domain_rest = λ o ts is. domain_rest_sound o ts is;
    }
