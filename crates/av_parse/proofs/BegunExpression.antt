-- What was read of an expression before a fault is a front of it; for a fault of depth it is one with the token
-- there, which has the level l. A reader with k levels reads what begins on the level n where n + k = l.
use Rattle.std.proofs.Common.{◌≡◌, ℕ, zero, suc, ◌+◌, Bool, true, false, List, [], ◌∷◌, length, Option, Some, None, Ok, Err, refl, sym, subst, arith, inl, inr}
use Rattle.std.specs.Prelude.{codes, ◌&&◌}
use Rattle.std.specs.Str.{bytes_eq}
use Rattle.av_base.specs.declared.place.Place.{Place}
use Rattle.av_base.specs.declared.token_kind.TokenKind.{TokenKind}
use Rattle.av_base.specs.declared.token_kind.TokenKind.TheVariants as kind
use Rattle.av_base.specs.declared.word.Op.{Op}
use Rattle.av_base.specs.declared.word.Op.TheVariants as op
use Rattle.av_base.specs.Tokens.{Token, number_of}
use Rattle.av_tree.specs.declared.relation.Relation.{Relation}
use Rattle.av_tree.specs.declared.sign.Sign.{Sign}
use Rattle.av_tree.specs.declared.sign.Sign.TheVariants as sign
use Rattle.av_tree.specs.Trees.{Expression}
use Rattle.av_tree.specs.Parts.{IsName, IsNumber, IsSymbol, IsReserved, IsCompare, IsOp, IsEnd}
use Rattle.av_tree.specs.FrontsParts.{Meant, every, ending, FrontToken, not_yet, came, plus_sign, minus_sign, IsExtreme, least_word, greatest_word, IsSomeCompare, IsSomeOp}
use Rattle.av_tree.specs.IndexGrammar as whole
use Rattle.av_tree.specs.FrontsIndex as inner
use Rattle.av_tree.specs.FrontsIndex.{FrontDomainRest}
use Rattle.av_tree.specs.FrontsExpression as fronts
use Rattle.av_tree.specs.FrontsExpression.{FrontBrackets, FrontExpr, FrontSum, FrontSumTail, FrontProduct, FrontProductTail, FrontUnary, FrontPostfix, FrontPostfixTail, FrontPrimary, FrontBranches}
use Rattle.av_parse.specs.inner.Reader.{begins, begins_symbol, begins_word, after, same, too_deep, deep_fault, syntax, expect_symbol, expect_with}
use Rattle.av_parse.specs.declared.fault.Fault.TheVariants.{Depth}
use Rattle.av_parse.specs.inner.IndexReader.{relation_by}
use Rattle.av_parse.specs.inner.ExpressionReader.{Readers, brackets_of, indexed_of, parenthesis_of, extreme_of, branches_of, cases_of, op_at, op_by, reduction_of, primary_of, postfix_tail_of, named_of, numbered_of, postfix_of, unary_of, product_tail_of, product_of, sign_at, sum_tail_by, sum_tail_of, sum_of, compare_at, choice_of, restriction_of, expr_of, begins_unary, begins_expr, begins_domain_rest, readers}
use Rattle.av_parse.proofs.Follow.{same_is, with_is}
use Rattle.av_parse.proofs.SoundSteps.{Starts, Chosen, one, symbol_starts, word_starts}
use Rattle.av_parse.proofs.SoundIndex.{optional_indices_sound, relation_by_sound, map_sound}
use Rattle.av_parse.proofs.SoundExpression.{Sound, all_sound, op_at_sound, op_by_sound, compare_at_sound, IsSumSign, sign_at_sound, brackets_sound, indexed_sound, branches_sound, primary_sound, unary_sound, product_sound}
use Rattle.av_parse.proofs.FrontSteps.{StandsAt, given, faulty, deeper, stays, passed, no_end, wider, behind, by_test, by_symbol, by_word, by_kind, symbol, word}
use Rattle.av_parse.proofs.BegunIndex.{optional_indices_begun, domain_rest_begun, map_begun}
use Rattle.av_base.proofs.Truths.{either}

-- the readers of one level, of what begins on the level n
pub record Begun (l n : ℕ) (b : Readers) : Type 0 where
  pub expr : (ts : List Token) → StandsAt l (λ w r. FrontExpr w n ts r) ts (b.expr ts)
  pub sum : (ts : List Token) → StandsAt l (λ w r. FrontSum w n ts r) ts (b.sum ts)
  pub sum_tail : (a : Expression) (ts : List Token) → StandsAt l (λ w r. FrontSumTail w n ts r) ts (b.sum_tail a ts)
  pub product : (ts : List Token) → StandsAt l (λ w r. FrontProduct w n ts r) ts (b.product ts)
  pub product_tail : (a : Expression) (ts : List Token) → StandsAt l (λ w r. FrontProductTail w n ts r) ts (b.product_tail a ts)
  pub unary : (ts : List Token) → StandsAt l (λ w r. FrontUnary w n ts r) ts (b.unary ts)
  pub postfix_tail : (a : Expression) (ts : List Token) → StandsAt l (λ w r. FrontPostfixTail w n ts r) ts (b.postfix_tail a ts)
  pub opening : (ts : List Token) → StandsAt l (λ w r. FrontToken w n (IsSymbol (codes "(")) ts r) ts (b.opening ts)
  pub domain_rest : (p : Place) (ts : List Token) → StandsAt l (λ w r. FrontDomainRest w n ts r) ts (b.domain_rest p ts)

brackets_begun : {l : ℕ} (n : ℕ) (ts : List Token) → StandsAt l (λ w r. FrontBrackets w n ts r) ts (brackets_of ts)
unfolding brackets_of
brackets_begun n ts =
    by_symbol (codes "[") ts _ _ (fronts.no_bracket_yet tt)
    (λ o rest all opened. rw all (symbol (codes "]") rest _ (fronts.at_close opened (not_yet tt)) (λ c t1 end close. given stays)))
    (λ no. given stays)

indexed_begun : {l : ℕ} (n : ℕ) (x o : Token) (ts : List Token) → IsName x → IsSymbol (codes "[") o
    → StandsAt l (λ w r. FrontPrimary w n (x ∷ o ∷ ts) r) ts (indexed_of x.text x.place ts)
unfolding indexed_of
indexed_begun n x o ts is opened =
    behind _ (optional_indices_sound ts) (optional_indices_begun n ts) (λ w r h. fronts.in_indices is opened h) (λ es t1 list.
    symbol (codes "]") t1 _ (fronts.at_bracket_close is opened list (not_yet tt)) (λ c t2 end close. given stays))

op_no_end : (f : Op) (x : Token) → IsOp f x → IsEnd x → ⊥
op_no_end op.Add x is = no_end kind.Symbol x refl is.0
op_no_end op.Mul x is = no_end kind.Symbol x refl is.0
op_no_end op.Min x is = no_end kind.Reserved x refl is.0
op_no_end op.Max x is = no_end kind.Reserved x refl is.0

op_begun : (l n : ℕ) (o : Option Op) (ts : List Token) → Chosen (λ f. Starts (IsOp f) ts (after ts)) o → StandsAt l (λ w r. FrontToken w n IsSomeOp ts r) ts (op_by o ts)
unfolding op_by
op_begun l n None ts is = faulty stays (not_yet tt)
op_begun l n (Some f) ts (one is) = rw is.1 (passed (not_yet tt) (op_no_end f is.0 is.2) (given stays))

compare_begun : (l n : ℕ) (o : Option Relation) (ts : List Token) → Chosen (λ r. Starts (IsCompare r) ts (after ts)) o
    → StandsAt l (λ w r. FrontToken w n IsSomeCompare ts r) ts (relation_by o ts)
unfolding relation_by
compare_begun l n None ts is = faulty stays (not_yet tt)
compare_begun l n (Some f) ts (one is) = rw is.1 (passed (not_yet tt) (no_end kind.Symbol is.0 refl is.2.0) (given stays))

module _ (l n k : ℕ) (b : Readers) (s : Sound k b) (g : Begun l (suc n) b) where
  parenthesis_begun : (o : Token) (ts : List Token) → IsSymbol (codes "(") o → StandsAt l (λ w r. FrontPrimary w n (o ∷ ts) r) ts (parenthesis_of b ts)
  unfolding parenthesis_of
  parenthesis_begun o ts opened =
      behind _ (s.expr ts) (g.expr ts) (λ w r h. fronts.in_parenthesis opened h) (λ e t1 is.
      symbol (codes ")") t1 _ (fronts.at_parenthesis_close opened is (not_yet tt)) (λ c t2 end close. given stays))

  extreme_begun : (z : Sign) (x : Token) (ts : List Token) → IsExtreme x → StandsAt l (λ w r. FrontPrimary w n (x ∷ ts) r) ts (extreme_of b z x.place ts)
  unfolding extreme_of
  extreme_begun z x ts is =
      behind _ (s.opening ts) (g.opening ts) (λ w r h. fronts.at_extreme_open is h) (λ o t1 opened. rw opened.0
      (behind _ (s.expr t1) (g.expr t1) (λ w r h. fronts.in_one is opened.1 h) (λ a t2 first.
      symbol (codes ",") t2 _ (fronts.at_extreme_comma is opened.1 first (not_yet tt)) (λ q t3 between comma.
      behind _ (s.expr t3) (g.expr t3) (λ w r h. fronts.in_other is opened.1 (rw between at first) comma h) (λ c t4 second.
      symbol (codes ")") t4 _ (fronts.at_extreme_close is opened.1 (rw between at first) comma second (not_yet tt)) (λ c t5 end close. given stays))))))

  branches_begun : (m : ℕ) (ts : List Token) → StandsAt l (λ w r. FrontBranches w (suc n) ts r) ts (branches_of b m ts)
  unfolding branches_of
  branches_begun zero ts = faulty stays (fronts.in_branch (fronts.at_brace (not_yet tt)))
  branches_begun (suc m) ts =
      behind _ (s.expr ts) (g.expr ts) (λ w r h. fronts.in_branch h) (λ e t1 first.
      symbol (codes ";") t1 _ (fronts.at_semicolon first (not_yet tt)) (λ x t2 all semicolon.
      by_test (begins_word (codes "esac") t2) _ _
      (λ yes. given stays)
      (λ no. behind _ (branches_sound k b s m t2) (branches_begun m t2) (λ w r h. fronts.past_semicolon (rw all at first) semicolon h) (λ es t3 others. given stays))))

  cases_begun : (x : Token) (ts : List Token) → IsReserved (codes "case") x → StandsAt l (λ w r. FrontPrimary w n (x ∷ ts) r) ts (cases_of b x.place ts)
  unfolding cases_of
  cases_begun x ts is =
      behind _ (branches_sound k b s (length ts) ts) (branches_begun (length ts) ts) (λ w r h. fronts.in_case is h) (λ es t1 others.
      word (codes "esac") t1 _ (fronts.at_esac is others (not_yet tt)) (λ y t2 all end. given stays))

  reduction_begun : (x : Token) (ts : List Token) → IsReserved (codes "reduce") x → StandsAt l (λ w r. FrontPrimary w n (x ∷ ts) r) ts (reduction_of b x.place ts)
  unfolding reduction_of
  reduction_begun x ts is =
      behind _ (s.opening ts) (g.opening ts) (λ w r h. fronts.at_reduce_open is h) (λ o t1 opened. rw opened.0
      (behind _ (op_by_sound (op_at t1) t1 (op_at_sound t1)) (op_begun l (suc n) (op_at t1) t1 (op_at_sound t1)) (λ w r h. fronts.at_op is opened.1 h) (λ f t2 operator. rw operator.1
      (symbol (codes ",") t2 _ (fronts.at_op_comma is opened.1 (f, operator.2) (not_yet tt)) (λ q t3 after_operator comma. rw after_operator
      (behind _ (map_sound t3) (map_begun (suc n) t3) (λ w r h. fronts.in_projection is opened.1 (f, operator.2) comma h) (λ m t4 projection.
      symbol (codes ",") t4 _ (fronts.at_projection_comma is opened.1 (f, operator.2) comma projection (not_yet tt)) (λ p t5 after_map second_comma.
      behind _ (s.expr t5) (g.expr t5) (λ w r h. fronts.in_body is opened.1 (f, operator.2) comma (rw after_map at projection) second_comma h) (λ e t6 body.
      symbol (codes ")") t6 _ (fronts.at_reduce_close is opened.1 (f, operator.2) comma (rw after_map at projection) second_comma body (not_yet tt)) (λ c t7 end close. given stays))))))))))

  primary_begun : (ts : List Token) → StandsAt l (λ w r. FrontPrimary w n ts r) ts (primary_of b ts)
  unfolding primary_of
  primary_begun ts =
      by_symbol (codes "(") ts _ _ (fronts.at_name (not_yet tt)) (λ o rest all is. rw all (parenthesis_begun o rest is))
      (λ no. by_word (codes "min") ts _ _ (fronts.at_name (not_yet tt)) (λ x rest all is. rw all (extreme_begun sign.Min x rest (least_word is)))
      (λ no. by_word (codes "max") ts _ _ (fronts.at_name (not_yet tt)) (λ x rest all is. rw all (extreme_begun sign.Max x rest (greatest_word is)))
      (λ no. by_word (codes "case") ts _ _ (fronts.at_name (not_yet tt)) (λ x rest all is. rw all (cases_begun x rest is))
      (λ no. by_word (codes "reduce") ts _ _ (fronts.at_name (not_yet tt)) (λ x rest all is. rw all (reduction_begun x rest is)) (λ no. faulty stays (fronts.at_name (not_yet tt)))))))

  -- ---- primaries with maps

  postfix_tail_begun : (a : Expression) (ts : List Token) → StandsAt l (λ w r. FrontPostfixTail w n ts r) ts (postfix_tail_of b a ts)
  unfolding postfix_tail_of
  postfix_tail_begun a ts =
      by_symbol (codes ".") ts _ _ (fronts.no_dot_yet tt)
      (λ d rest all dot. rw all (behind _ (map_sound rest) (map_begun n rest) (λ w r h. fronts.in_map dot h) (λ m t1 is.
      wider (g.postfix_tail _ t1) (λ w r h. fronts.past_map dot is h))))
      (λ no. given stays)

  named_begun : (x : Token) (ts : List Token) → IsName x → StandsAt l (λ w r. FrontPostfix w n (x ∷ ts) r) ts (named_of b x.text x.place ts)
  unfolding named_of
  named_begun x ts is =
      by_symbol (codes "[") ts _ _ (fronts.past_name is (fronts.no_dot_yet tt))
      (λ o rest all opened. rw all (behind _ (indexed_sound k x o rest is opened) (indexed_begun n x o rest is opened) (λ w r h. fronts.in_primary h) (λ a t1 first.
      wider (postfix_tail_begun a t1) (λ w r h. fronts.past_primary first h))))
      (λ no. by_symbol (codes ".") ts _ _ (fronts.past_name is (fronts.no_dot_yet tt))
      (λ d rest all dot. rw all (behind _ (map_sound rest) (map_begun n rest) (λ w r h. fronts.past_name is (fronts.in_map dot h)) (λ m t1 map.
      wider (g.postfix_tail _ t1) (λ w r h. fronts.past_name is (fronts.past_map dot map h)))))
      (λ no. given stays))

  numbered_begun : (x : Token) (ts : List Token) → IsNumber x → StandsAt l (λ w r. FrontPostfix w n (x ∷ ts) r) ts (numbered_of b (number_of x.text) x.place ts)
  unfolding numbered_of
  numbered_begun x ts is =
      behind _ (brackets_sound ts) (brackets_begun n ts) (λ w r h. fronts.in_primary (fronts.in_brackets is h)) (λ at t1 around.
      by_symbol (codes ".") t1 _ _ (fronts.past_number is around (fronts.no_dot_yet tt))
      (λ d t2 all dot. rw all (behind _ (map_sound t2) (map_begun n t2) (λ w r h. fronts.past_number is (rw all at around) (fronts.in_map dot h)) (λ m t3 map.
      wider (g.postfix_tail _ t3) (λ w r h. fronts.past_number is (rw all at around) (fronts.past_map dot map h)))))
      (λ no. given stays))

  postfix_begun : (ts : List Token) → StandsAt l (λ w r. FrontPostfix w n ts r) ts (postfix_of b ts)
  unfolding postfix_of
  postfix_begun ts =
      by_kind kind.Name refl ts _ _ (fronts.in_primary (fronts.at_name (not_yet tt))) (λ x rest all is. rw all (named_begun x rest is))
      (λ no. by_kind kind.Number refl ts _ _ (fronts.in_primary (fronts.at_name (not_yet tt))) (λ x rest all is. rw all (numbered_begun x rest is))
      (λ no. behind _ (primary_sound k b s ts) (primary_begun ts) (λ w r h. fronts.in_primary h) (λ a t1 first.
      wider (postfix_tail_begun a t1) (λ w r h. fronts.past_primary first h))))

  -- ---- operators

  unary_begun : (ts : List Token) → StandsAt l (λ w r. FrontUnary w n ts r) ts (unary_of b ts)
  unfolding unary_of
  unary_begun ts =
      by_symbol (codes "-") ts _ _ (fronts.at_minus (not_yet tt))
      (λ m rest all is. rw all (behind _ (s.unary rest) (g.unary rest) (λ w r h. fronts.past_minus is h) (λ e t1 body. given stays)))
      (λ no. wider (postfix_begun ts) (λ w r h. fronts.in_postfix h))

  product_tail_begun : (a : Expression) (ts : List Token) → StandsAt l (λ w r. FrontProductTail w n ts r) ts (product_tail_of b a ts)
  unfolding product_tail_of
  product_tail_begun a ts =
      by_symbol (codes "*") ts _ _ (fronts.no_times_yet tt)
      (λ p rest all is. rw all (behind _ (s.unary rest) (g.unary rest) (λ w r h. fronts.in_factor is h) (λ e t1 factor.
      wider (g.product_tail _ t1) (λ w r h. fronts.past_factor is factor h))))
      (λ no. given stays)

  product_begun : (ts : List Token) → StandsAt l (λ w r. FrontProduct w n ts r) ts (product_of b ts)
  unfolding product_of
  product_begun ts =
      behind _ (unary_sound k b s ts) (unary_begun ts) (λ w r h. fronts.in_unary h) (λ a t1 first.
      wider (product_tail_begun a t1) (λ w r h. fronts.past_unary first h))

  sum_tail_by_begun : (o : Option Sign) (a : Expression) (ts : List Token) → Chosen (λ z. Starts (IsSumSign z) ts (after ts)) o
      → StandsAt l (λ w r. FrontSumTail w n ts r) ts (sum_tail_by b o a ts)
  unfolding sum_tail_by
  sum_tail_by_begun None a ts is = given stays
  sum_tail_by_begun (Some sign.Add) a ts (one is) =
      rw is.1 (passed (fronts.no_sign_yet tt) (no_end kind.Symbol is.0 refl is.2.0) (behind _ (s.product (after ts)) (g.product (after ts)) (λ w r h. fronts.in_addend (plus_sign is.2) h) (λ e t1 part.
      wider (g.sum_tail _ t1) (λ w r h. fronts.past_addend (plus_sign is.2) part h))))
  sum_tail_by_begun (Some sign.Sub) a ts (one is) =
      rw is.1 (passed (fronts.no_sign_yet tt) (no_end kind.Symbol is.0 refl is.2.0) (behind _ (s.product (after ts)) (g.product (after ts)) (λ w r h. fronts.in_addend (minus_sign is.2) h) (λ e t1 part.
      wider (g.sum_tail _ t1) (λ w r h. fronts.past_addend (minus_sign is.2) part h))))
  sum_tail_by_begun (Some _) a ts (one is) = absurd is.2

  sum_tail_begun : (a : Expression) (ts : List Token) → StandsAt l (λ w r. FrontSumTail w n ts r) ts (sum_tail_of b a ts)
  unfolding sum_tail_of
  sum_tail_begun a ts = sum_tail_by_begun (sign_at ts) a ts (sign_at_sound ts)

  sum_begun : (ts : List Token) → StandsAt l (λ w r. FrontSum w n ts r) ts (sum_of b ts)
  unfolding sum_of
  sum_begun ts =
      behind _ (product_sound k b s ts) (product_begun ts) (λ w r h. fronts.in_product h) (λ a t1 first.
      wider (sum_tail_begun a t1) (λ w r h. fronts.past_product first h))

  -- ---- expressions

  choice_begun : (i : Token) (ts : List Token) → IsReserved (codes "if") i → StandsAt l (λ w r. FrontExpr w n (i ∷ ts) r) ts (choice_of b i.place ts)
  unfolding choice_of
  choice_begun i ts is =
      behind _ (s.sum ts) (g.sum ts) (λ w r h. fronts.in_left is h) (λ x t1 left.
      behind _ (relation_by_sound IsCompare (compare_at t1) t1 (compare_at_sound t1)) (compare_begun l (suc n) (compare_at t1) t1 (compare_at_sound t1)) (λ w r h. fronts.at_compare is left h) (λ by t2 q.
      behind _ (s.sum t2) (g.sum t2) (λ w r h. fronts.in_right is (rw q.1 at left) (by, q.2) h) (λ y t3 right.
      word (codes "then") t3 _ (fronts.at_then is (rw q.1 at left) (by, q.2) right (not_yet tt)) (λ t t4 before then_is.
      behind _ (s.expr t4) (g.expr t4) (λ w r h. fronts.in_yes is (rw q.1 at left) (by, q.2) (rw before at right) then_is h) (λ p t5 yes_part.
      word (codes "else") t5 _ (fronts.at_else is (rw q.1 at left) (by, q.2) (rw before at right) then_is yes_part (not_yet tt)) (λ z t6 between else_is.
      behind _ (s.expr t6) (g.expr t6) (λ w r h. fronts.in_no is (rw q.1 at left) (by, q.2) (rw before at right) then_is (rw between at yes_part) else_is h) (λ q' t7 no_part. given stays)))))))

  restriction_begun : (o : Token) (ts : List Token) → IsSymbol (codes "{") o → StandsAt l (λ w r. FrontExpr w n (o ∷ ts) r) ts (restriction_of b o.place ts)
  unfolding restriction_of
  restriction_begun o ts opened =
      behind _ (s.domain_rest o ts opened) (g.domain_rest o.place ts) (λ w r h. fronts.in_domain opened h) (λ d t1 domain.
      symbol (codes ":") t1 _ (fronts.at_colon domain (not_yet tt)) (λ c t2 all colon.
      behind _ (s.expr t2) (g.expr t2) (λ w r h. fronts.in_restricted (rw all at domain) colon h) (λ e t3 body. given stays)))

  expr_begun : (ts : List Token) → StandsAt l (λ w r. FrontExpr w n ts r) ts (expr_of b ts)
  unfolding expr_of
  expr_begun ts =
      by_symbol (codes "{") ts _ _ (fronts.at_brace (not_yet tt)) (λ o rest all is. rw all (restriction_begun o rest is))
      (λ no. by_word (codes "if") ts _ _ (fronts.at_if (not_yet tt)) (λ i rest all is. rw all (choice_begun i rest is))
      (λ no. wider (sum_begun ts) (λ w r h. fronts.in_sum h)))

-- ---- where no level is left

came_there : {n : ℕ} {Is : Token → Type 0} {ts : List Token} → Starts Is ts (after ts) → FrontToken (ending n) n Is ts (after ts)
came_there {n = n} {Is = Is} {ts = ts} q = subst (λ z. FrontToken (ending n) n Is z (after ts)) (sym q.1) (came q.2 refl)

kind_starts : (k : TokenKind) (ts : List Token) → begins k ts ≡ true → Starts (λ x. x.kind ≡ k) ts (after ts)
kind_starts k [] e = absurd cc
kind_starts k (x ∷ ts) e = (x, refl, same_is x.kind k e)

abbrev FirstOf : ℕ → (Meant → List Token → Type 0) → List Token → Type 0
FirstOf l F ts = (x : Token) × ((ts ≡ x ∷ after ts) × F (ending l) (after ts))

first_of : {l : ℕ} {Is : Token → Type 0} (F : Meant → List Token → Type 0) (ts : List Token) → Starts Is ts (after ts) → (FrontToken (ending l) l Is ts (after ts) → F (ending l) (after ts)) → FirstOf l F ts
first_of F ts q go = (q.0, (q.1, go (came_there q)))

at_too_deep : {A : Type 0} {l : ℕ} {F : Meant → List Token → Type 0} (t : Bool) (ts : List Token) → (t ≡ true → FirstOf l F ts) → F every ts
    → StandsAt {A = A} l F ts (too_deep t ts)
unfolding deep_fault
at_too_deep {A = A} {l = l} {F = F} true ts may wait =
    let q = may refl in
    let wait : F every (q.0 ∷ after ts) = subst (λ z. F every z) q.1.0 wait in
    let at : StandsAt {A = A} l F (q.0 ∷ after ts) (Err (Depth (suc (length (after ts))))) = deeper stays wait q.1.1 in
    subst (λ z. StandsAt {A = A} l F z (Err (Depth (length z)))) (sym q.1.0) at
at_too_deep false ts may wait = faulty stays wait

primary_first : (l : ℕ) (ts : List Token) → begins_unary ts ≡ true → FirstOf l (λ w r. FrontUnary w l ts r) ts
primary_first l ts e =
    let F : Meant → List Token → Type 0 = λ w r. FrontUnary w l ts r in
    elim (either _ _ e) [
      | inr is ↦ first_of F ts (word_starts (codes "reduce") ts is) (λ t. fronts.in_postfix (fronts.in_primary (fronts.at_reduce t)))
      | inl e ↦ elim (either _ _ e) [
        | inr is ↦ first_of F ts (word_starts (codes "case") ts is) (λ t. fronts.in_postfix (fronts.in_primary (fronts.at_case t)))
        | inl e ↦ elim (either _ _ e) [
          | inr is ↦ (let q = word_starts (codes "max") ts is in first_of F ts (q.0, q.1, greatest_word q.2) (λ t. fronts.in_postfix (fronts.in_primary (fronts.at_extreme t))))
          | inl e ↦ elim (either _ _ e) [
            | inr is ↦ (let q = word_starts (codes "min") ts is in first_of F ts (q.0, q.1, least_word q.2) (λ t. fronts.in_postfix (fronts.in_primary (fronts.at_extreme t))))
            | inl e ↦ elim (either _ _ e) [
              | inr is ↦ first_of F ts (symbol_starts (codes "(") ts is) (λ t. fronts.in_postfix (fronts.in_primary (fronts.at_parenthesis t)))
              | inl e ↦ elim (either _ _ e) [
                | inr is ↦ first_of F ts (symbol_starts (codes "-") ts is) (λ t. fronts.at_minus t)
                | inl e ↦ elim (either _ _ e) [
                  | inr is ↦ first_of F ts (kind_starts kind.Number ts is) (λ t. fronts.in_postfix (fronts.in_primary (fronts.at_number t)))
                  | inl is ↦ first_of F ts (kind_starts kind.Name ts is) (λ t. fronts.in_postfix (fronts.in_primary (fronts.at_name t)))
                ]
              ]
            ]
          ]
        ]
      ]
    ]

expr_first : (l : ℕ) (ts : List Token) → begins_expr ts ≡ true → FirstOf l (λ w r. FrontExpr w l ts r) ts
expr_first l ts e =
    let F : Meant → List Token → Type 0 = λ w r. FrontExpr w l ts r in
    elim (either _ _ e) [
      | inr is ↦ (let q = primary_first l ts is in (q.0, (q.1.0, fronts.in_sum (fronts.in_product (fronts.in_unary q.1.1)))))
      | inl e ↦ elim (either _ _ e) [
        | inr is ↦ first_of F ts (word_starts (codes "if") ts is) (λ t. fronts.at_if t)
        | inl is ↦ first_of F ts (symbol_starts (codes "{") ts is) (λ t. fronts.at_brace t)
      ]
    ]

domain_first : (l : ℕ) (ts : List Token) → begins_domain_rest ts ≡ true → FirstOf l (λ w r. FrontDomainRest w l ts r) ts
domain_first l ts e =
    let F : Meant → List Token → Type 0 = λ w r. FrontDomainRest w l ts r in
    elim (either _ _ e) [
      | inr is ↦ first_of F ts (symbol_starts (codes "}") ts is) (λ t. inner.at_close whole.no_names whole.no_bar t)
      | inl e ↦ elim (either _ _ e) [
        | inr is ↦ first_of F ts (symbol_starts (codes "|") ts is) (λ t. inner.in_conditions whole.no_names (inner.at_bar t))
        | inl is ↦ first_of F ts (kind_starts kind.Name ts is) (λ t. inner.in_names (inner.in_names (inner.at_name t)))
      ]
    ]

none_left : (l : ℕ) → Begun l l (readers zero)
unfolding readers
none_left l = record {
  expr = λ ts. at_too_deep (begins_expr ts) ts (expr_first l ts) (fronts.at_brace (not_yet tt));
  sum = λ ts. at_too_deep (begins_unary ts) ts (λ e. let q = primary_first l ts e in (q.0, (q.1.0, fronts.in_product (fronts.in_unary q.1.1)))) (fronts.in_product (fronts.in_unary (fronts.at_minus (not_yet tt))));
  sum_tail = λ a ts. faulty stays (fronts.no_sign_yet tt);
  product = λ ts. at_too_deep (begins_unary ts) ts (λ e. let q = primary_first l ts e in (q.0, (q.1.0, fronts.in_unary q.1.1))) (fronts.in_unary (fronts.at_minus (not_yet tt)));
  product_tail = λ a ts. faulty stays (fronts.no_times_yet tt);
  unary = λ ts. at_too_deep (begins_unary ts) ts (primary_first l ts) (fronts.at_minus (not_yet tt));
  postfix_tail = λ a ts. by_test (begins_symbol (codes ".") ts) _ _
      (λ yes. at_too_deep true ts (λ e. first_of (λ w r. FrontPostfixTail w l ts r) ts (symbol_starts (codes ".") ts yes) (λ t. fronts.at_dot t)) (fronts.no_dot_yet tt))
      (λ no. given stays);
  opening = λ ts. at_too_deep (begins_symbol (codes "(") ts) ts (λ e. first_of (λ w r. FrontToken w l (IsSymbol (codes "(")) ts r) ts (symbol_starts (codes "(") ts e) (λ t. t)) (not_yet tt);
  domain_rest = λ p ts. at_too_deep (begins_domain_rest ts) ts (domain_first l ts) (inner.in_names (inner.no_name_yet tt));
}

opening_begun : (l n : ℕ) (ts : List Token) → StandsAt l (λ w r. FrontToken w n (IsSymbol (codes "(")) ts r) ts (expect_symbol (codes "(") ts)
unfolding expect_with
opening_begun l n [] = faulty stays (not_yet tt)
opening_begun l n (x ∷ ts) =
    by_test (same x.kind kind.Symbol && bytes_eq x.text (codes "(")) (Ok (x, ts)) (syntax (x ∷ ts))
    (λ yes. passed (not_yet tt) (no_end kind.Symbol x refl (with_is kind.Symbol (codes "(") x yes).0) (given stays)) (λ no. faulty stays (not_yet tt))

pub all_begun : (k n : ℕ) → Begun (n + k) n (readers k)
unfolding readers
all_begun zero n = subst (λ l. Begun l n (readers zero)) (plus_none n) (none_left n)
  where
    plus_none : (n : ℕ) → n ≡ n + 0
    plus_none n = omega arith
all_begun (suc k) n =
    let s = all_sound k in
    let l = n + suc k in
    let g : Begun l (suc n) (readers k) = subst (λ z. Begun z (suc n) (readers k)) (plus_one_more n k) (all_begun k (suc n)) in
    record {
      expr = λ ts. expr_begun l n k (readers k) s g ts;
      sum = λ ts. sum_begun l n k (readers k) s g ts;
      sum_tail = λ a ts. sum_tail_begun l n k (readers k) s g a ts;
      product = λ ts. product_begun l n k (readers k) s g ts;
      product_tail = λ a ts. product_tail_begun l n k (readers k) s g a ts;
      unary = λ ts. unary_begun l n k (readers k) s g ts;
      postfix_tail = λ a ts. postfix_tail_begun l n k (readers k) s g a ts;
      opening = λ ts. opening_begun l n ts;
      domain_rest = λ p ts. domain_rest_begun n p ts;
    }
  where
    plus_one_more : (n k : ℕ) → suc n + k ≡ n + suc k
    plus_one_more n k = omega arith
