-- No front of an expression goes beyond where its reader stops; and where the last token of the front is too deep for the
-- reader's levels, it stops at a fault of depth, at that token or before. A reader with k levels reads what begins on the
-- level n where n + k = l.
use Rattle.std.proofs.Common.{◌≡◌, ℕ, zero, suc, ◌+◌, ◌<◌, ◌≤◌, Bool, true, false, List, [], ◌∷◌, length, Result, Ok, refl, sym, subst, arith, inl, inr, ◌⊎◌}
use Rattle.std.specs.Prelude.{codes, if◌then◌else◌}
use Rattle.av_base.specs.declared.place.Place.{Place}
use Rattle.av_base.specs.declared.token_kind.TokenKind.{TokenKind}
use Rattle.av_base.specs.declared.token_kind.TokenKind.TheVariants as kind
use Rattle.av_base.specs.declared.word.Op.{Op}
use Rattle.av_base.specs.Tokens.{Token, number_of}
use Rattle.av_tree.specs.declared.domain.DomainText.{DomainText}
use Rattle.av_tree.specs.declared.domain.MapText.{MapText}
use Rattle.av_tree.specs.declared.relation.Relation.{Relation}
use Rattle.av_tree.specs.declared.expression.Access.{Access}
use Rattle.av_tree.specs.declared.expression.Access.TheVariants as access
use Rattle.av_tree.specs.declared.sign.Sign.{Sign}
use Rattle.av_tree.specs.declared.sign.Sign.TheVariants as sign
use Rattle.av_tree.specs.Trees.{Expression, Expressions, reference, constant, binary, choice, restriction, dependence, reduction, none, more}
use Rattle.av_tree.specs.Parts.{IsName, IsNumber, IsSymbol, IsReserved}
use Rattle.av_tree.specs.IndexGrammar.{IsMap, IsDomain, domain}
use Rattle.av_tree.specs.ExpressionGrammar as whole
use Rattle.av_tree.specs.ExpressionGrammar.{IsBrackets, IsPrimary}
use Rattle.av_tree.specs.FrontsParts as parts
use Rattle.av_tree.specs.FrontsParts.{Meant, every, MayWait, MayEnd, FrontToken, IsSign, plus_sign, minus_sign, IsExtreme, least_word, greatest_word, IsSomeOp, IsSomeCompare}
use Rattle.av_tree.specs.FrontsIndex as inner
use Rattle.av_tree.specs.FrontsIndex.{FrontDomainRest}
use Rattle.av_tree.specs.FrontsExpression as fronts
use Rattle.av_tree.specs.FrontsExpression.{FrontBrackets, FrontExpr, FrontSum, FrontSumTail, FrontProduct, FrontProductTail, FrontUnary, FrontPostfix, FrontPostfixTail, FrontPrimary, FrontBranches}
use Rattle.av_parse.specs.declared.fault.Fault.{Fault}
use Rattle.av_parse.specs.inner.Reader.{◌>>=◌, begins_symbol, begins_word, same, after, expect_symbol, expect_word}
use Rattle.av_parse.specs.inner.IndexReader.{map_of, relation_by, optional_indices_of}
use Rattle.av_parse.specs.inner.ExpressionReader.{Readers, brackets_of, indexed_of, parenthesis_of, extreme_of, branches_of, cases_of, op_at, op_by, reduction_of, primary_of, postfix_tail_of, named_of, numbered_of, postfix_of, unary_of, product_tail_of, product_of, sum_tail_by, sum_tail_of, sum_of, compare_at, choice_of, restriction_of, expr_of, readers}
use Rattle.av_parse.proofs.Follow.{same_self, symbol_yes, word_yes, kind_not, text_not, symbol_gives, word_gives, known}
use Rattle.av_parse.proofs.Takes.{expr_takes, sum_takes, map_takes}
use Rattle.av_parse.proofs.CompleteIndex.{map_complete}
use Rattle.av_parse.proofs.CompleteExpression.{semicolon_ends, close_ends, comma_ends, then_ends, else_ends, compare_ends, compare_found, op_found, brackets_complete, indexed_gives}
use Rattle.av_parse.proofs.WithinIndex.{Within, left, stops, closer, bind_within, if_within, le_same, after_within, expect_with_within, symbol_within, relation_within, map_within}
use Rattle.av_parse.proofs.WithinExpression.{WithinAll, brackets_within, indexed_within, op_within, parenthesis_within, extreme_within, branches_within, cases_within, reduction_within, postfix_tail_within, named_within, numbered_within, postfix_within, unary_within, product_tail_within, sum_tail_within, choice_within, restriction_within, expr_within}
use Rattle.av_parse.proofs.WholeIndex.{optional_indices_front, map_front}
use Rattle.av_parse.proofs.WholeExpression.{expr_front, sum_front, product_front, unary_front, branches_front}
use Rattle.av_parse.proofs.FewerLevels.{Spelt, got, drowned, expr_spelt, sum_spelt, product_spelt, unary_spelt, opening_spelt, domain_rest_spelt, product_of_spelt, unary_of_spelt}
use Rattle.av_parse.proofs.SpeltPrimaries.{parenthesis_spelt, extreme_spelt, branches_spelt, cases_spelt, reduction_spelt}
use Rattle.av_parse.proofs.FrontsTake.{front_expr_takes, front_sum_takes, front_sum_tail_takes, front_product_tail_takes, front_postfix_tail_takes, front_branches_takes, front_map_takes}
use Rattle.av_parse.proofs.FrontsEnd.{front_map_ends, front_optional_indices_ends, front_brackets_ends}
use Rattle.av_parse.proofs.FrontsStart.{Opens, sum_tail_start, product_tail_start, postfix_tail_start, postfix_start, sum_start, expr_start, branches_start}
use Rattle.av_parse.proofs.BeyondIndex.{front_map, front_optional_indices}
use Rattle.av_parse.proofs.BeyondSteps.{Reaches, reach, ahead, further, as_every, wait_below, end_below, level_below, at_rest}

-- the readers of one level, of what begins on the level n
pub record Beyond (l n k : ℕ) (b : Readers) : Type 0 where
  pub expr : (w : Meant) (ts r : List Token) → FrontExpr w n ts r → Reaches w l (length r) (b.expr ts)
  pub sum : (w : Meant) (ts r : List Token) → FrontSum w n ts r → Reaches w l (length r) (b.sum ts)
  pub sum_tail : 0 < k → (w : Meant) (ts r : List Token) → FrontSumTail w n ts r → (a : Expression) → Reaches w l (length r) (b.sum_tail a ts)
  pub product : (w : Meant) (ts r : List Token) → FrontProduct w n ts r → Reaches w l (length r) (b.product ts)
  pub product_tail : 0 < k → (w : Meant) (ts r : List Token) → FrontProductTail w n ts r → (a : Expression) → Reaches w l (length r) (b.product_tail a ts)
  pub unary : (w : Meant) (ts r : List Token) → FrontUnary w n ts r → Reaches w l (length r) (b.unary ts)
  pub postfix_tail : (w : Meant) (ts r : List Token) → FrontPostfixTail w n ts r → (a : Expression) → Reaches w l (length r) (b.postfix_tail a ts)
  pub opening : (w : Meant) (ts r : List Token) → FrontToken w n (IsSymbol (codes "(")) ts r → Reaches w l (length r) (b.opening ts)
  pub domain_rest : (w : Meant) (ts r : List Token) → FrontDomainRest w n ts r → (p : Place) → Reaches w l (length r) (b.domain_rest p ts)

-- ---- brackets

front_brackets : {w : Meant} {n : ℕ} {ts r : List Token} → FrontBrackets w n ts r → Within (length r) (brackets_of ts)
unfolding brackets_of
front_brackets (fronts.no_bracket_yet {ts = ts} wait) = brackets_within ts
front_brackets (fronts.at_open {ts = ts} (parts.not_yet wait)) = brackets_within ts
front_brackets (fronts.at_open (parts.came {x = o} {ts = ts} is e)) = rw (symbol_yes (codes "[") o ts is) (bind_within _ (symbol_within (codes "]") ts) (λ c. left (le_same _)))
front_brackets (fronts.at_close {o = o} {ts = ts} opened (parts.not_yet wait)) = rw (symbol_yes (codes "[") o ts opened) (bind_within _ (symbol_within (codes "]") ts) (λ c. left (le_same _)))
front_brackets (fronts.at_close {o = o} opened (parts.came {x = c} {ts = ts} close e)) =
    rw (symbol_yes (codes "[") o (c ∷ ts) opened, symbol_gives (codes "]") c ts close) (left (le_same _))

brackets_front : {n : ℕ} {ts rest : List Token} {at : Access} → IsBrackets ts rest at → FrontBrackets every n ts rest
brackets_front whole.no_brackets = fronts.no_bracket_yet tt
brackets_front (whole.brackets opened close) = fronts.at_close opened (parts.came close tt)

extreme_kind : (x : Token) → IsExtreme x → x.kind ≡ kind.Reserved
extreme_kind x (least_word is) = is.0
extreme_kind x (greatest_word is) = is.0

extreme_read : (b : Readers) (x : Token) (ts : List Token) → IsExtreme x → (z : Sign) × (primary_of b (x ∷ ts) ≡ extreme_of b z x.place ts)
unfolding primary_of
extreme_read b x ts (least_word is) = (sign.Min, known (λ z. primary_of b (z ∷ ts) ≡ extreme_of b sign.Min z.place ts) x is refl)
extreme_read b x ts (greatest_word is) = (sign.Max, known (λ z. primary_of b (z ∷ ts) ≡ extreme_of b sign.Max z.place ts) x is refl)

case_read : (b : Readers) (x : Token) (ts : List Token) → IsReserved (codes "case") x → primary_of b (x ∷ ts) ≡ cases_of b x.place ts
unfolding primary_of
case_read b x ts is = known (λ z. primary_of b (z ∷ ts) ≡ cases_of b z.place ts) x is refl

reduce_read : (b : Readers) (x : Token) (ts : List Token) → IsReserved (codes "reduce") x → primary_of b (x ∷ ts) ≡ reduction_of b x.place ts
unfolding primary_of
reduce_read b x ts is = known (λ z. primary_of b (z ∷ ts) ≡ reduction_of b z.place ts) x is refl

parenthesis_read : (b : Readers) (x : Token) (ts : List Token) → IsSymbol (codes "(") x → primary_of b (x ∷ ts) ≡ parenthesis_of b ts
unfolding primary_of
parenthesis_read b x ts is = rw (symbol_yes (codes "(") x ts is) refl

sign_read : (b : Readers) (p : Token) (a : Expression) (ts : List Token) → IsSign p
    → (z : Sign) × (sum_tail_of b a (p ∷ ts) ≡ (b.product ts >>= λ e. b.sum_tail (binary z a e.0 p.place) e.1))
unfolding sum_tail_of sum_tail_by
sign_read b p a ts (plus_sign is) = (sign.Add, rw (symbol_yes (codes "+") p ts is) refl)
sign_read b p a ts (minus_sign is) = (sign.Sub, rw (text_not kind.Symbol (codes "-") (codes "+") p ts is refl, symbol_yes (codes "-") p ts is) refl)

-- what is spelled with k levels is read where there is one more
outward : {A : Type 0} {k : ℕ} {mid : List Token} {r : Result (A × List Token) Fault} → Spelt k mid r → Spelt (suc k) mid r
outward (got h) = got (omega arith)
outward (drowned h) = drowned h

-- ---- what follows the first parts of a form

-- expr ")", behind "," of min or max
abbrev extreme_second : Readers → Sign → Place → Expression → List Token → Result (Expression × List Token) Fault
extreme_second b z p x ts = b.expr ts >>= λ y. expect_symbol (codes ")") y.1 >>= λ c. Ok (binary z x y.0 p, c.1)

-- expr "," expr ")", behind "(" of min or max
abbrev extreme_first : Readers → Sign → Place → List Token → Result (Expression × List Token) Fault
extreme_first b z p ts = b.expr ts >>= λ x. expect_symbol (codes ",") x.1 >>= λ q. extreme_second b z p x.0 q.1

-- expr ")", behind the second "," of reduce
abbrev reduction_body : Readers → Op → MapText → Place → List Token → Result (Expression × List Token) Fault
reduction_body b f m p ts = b.expr ts >>= λ e. expect_symbol (codes ")") e.1 >>= λ c. Ok (reduction f m e.0 p, c.1)

-- map "," expr ")", behind the first "," of reduce
abbrev reduction_map : Readers → Op → Place → List Token → Result (Expression × List Token) Fault
reduction_map b f p ts = map_of ts >>= λ m. expect_symbol (codes ",") m.1 >>= λ c. reduction_body b f m.0 p c.1

-- op "," map "," expr ")", behind the "(" of reduce
abbrev reduction_op : Readers → Place → List Token → Result (Expression × List Token) Fault
reduction_op b p ts = op_by (op_at ts) ts >>= λ f. expect_symbol (codes ",") f.1 >>= λ q. reduction_map b f.0 p q.1

-- expr, behind "else"
abbrev choice_no : Readers → Place → Expression → Relation → Expression → Expression → List Token → Result (Expression × List Token) Fault
choice_no b p x r y v ts = b.expr ts >>= λ q. Ok (choice x r y v q.0 p, q.1)

-- expr "else" expr, behind "then"
abbrev choice_yes : Readers → Place → Expression → Relation → Expression → List Token → Result (Expression × List Token) Fault
choice_yes b p x r y ts = b.expr ts >>= λ v. expect_word (codes "else") v.1 >>= λ s. choice_no b p x r y v.0 s.1

-- sum "then" expr "else" expr, behind the comparison
abbrev choice_right : Readers → Place → Expression → Relation → List Token → Result (Expression × List Token) Fault
choice_right b p x r ts = b.sum ts >>= λ y. expect_word (codes "then") y.1 >>= λ t. choice_yes b p x r y.0 t.1

if_read : (b : Readers) (i : Token) (ts : List Token) → IsReserved (codes "if") i → expr_of b (i ∷ ts) ≡ choice_of b i.place ts
unfolding expr_of
if_read b i ts is = known (λ z. expr_of b (z ∷ ts) ≡ choice_of b z.place ts) i is refl

-- the end of the branches, or one more, behind ";"
abbrev branches_more : Readers → ℕ → Expression → List Token → Result (Expressions × List Token) Fault
branches_more b m e ts = if begins_word (codes "esac") ts then Ok (more e none, ts) else (branches_of b m ts >>= λ es. Ok (more e es.0, es.1))

module _ (l n k : ℕ) (lev : l ≡ n + suc k) (gw : WithinAll (readers k)) (g : Beyond l (suc n) k (readers k)) where
  around_below : n < l
  around_below = omega arith

  inner_below : 0 < k → suc n < l
  inner_below some = omega arith

  waits : {A : Type 0} {w : Meant} {m : ℕ} {r : Result (A × List Token) Fault} → MayWait w → Within m r → Reaches w l m r
  waits {w = w} wait h = reach (wait_below w l wait) h

  -- a token of the level around came last
  ends : {A : Type 0} {w : Meant} {m : ℕ} {r : Result (A × List Token) Fault} → MayEnd w n → Within m r → Reaches w l m r
  ends {w = w} is h = reach (end_below w n l is around_below) h

  -- a token of the level inside came last
  ends_inside : {A : Type 0} {w : Meant} {m : ℕ} {r : Result (A × List Token) Fault} → 0 < k → MayEnd w (suc n) → Within m r → Reaches w l m r
  ends_inside {w = w} some is h = reach (end_below w (suc n) l is (inner_below some)) h

  -- ---- maps

  tail_reaches : {w : Meant} {ts r : List Token} → FrontPostfixTail w n ts r → (f : MapText → Expression) (other : Result (Expression × List Token) Fault)
      → Within (length ts) other
      → Reaches w l (length r) (if begins_symbol (codes ".") ts then (map_of (after ts) >>= λ m. (readers k).postfix_tail (f m.0) m.1) else other)
  tail_reaches (fronts.no_dot_yet {ts = ts} wait) f other h =
      waits wait (if_within (begins_symbol (codes ".") ts) (bind_within _ (closer (map_within (after ts)) (after_within ts)) (λ m. gw.postfix_tail _ m.1)) h)
  tail_reaches (fronts.at_dot {ts = ts} (parts.not_yet wait)) f other h =
      waits wait (if_within (begins_symbol (codes ".") ts) (bind_within _ (closer (map_within (after ts)) (after_within ts)) (λ m. gw.postfix_tail _ m.1)) h)
  tail_reaches (fronts.at_dot (parts.came {x = d} {ts = ts} is e)) f other h =
      rw (symbol_yes (codes ".") d ts is) (ends e (bind_within _ (map_within ts) (λ m. gw.postfix_tail _ m.1)))
  tail_reaches {w = w} (fronts.in_map {d = d} {ts = ts} is map) f other h =
      rw (symbol_yes (codes ".") d ts is) (ahead _ (reach (level_below w n l (front_map_ends map) around_below) (front_map map)) (λ m. gw.postfix_tail _ m.1))
  tail_reaches (fronts.past_map {d = d} {ts = ts} {mid = mid} is map t) f other h =
      rw (symbol_yes (codes ".") d ts is, map_complete map) (g.postfix_tail _ mid _ t _)

  pub front_postfix_tail : {w : Meant} {ts r : List Token} → FrontPostfixTail w n ts r → (a : Expression) → Reaches w l (length r) (postfix_tail_of (readers k) a ts)
  unfolding postfix_tail_of
  front_postfix_tail {ts = ts} h a = tail_reaches h (λ m. dependence m a m.place) (Ok (a, ts)) (left (le_same _))

  -- ---- primaries with maps

  name_reaches : {w : Meant} {m : ℕ} (x : Token) (ts : List Token) → IsName x → Reaches w l m (named_of (readers k) x.text x.place ts)
      → Reaches w l m (postfix_of (readers k) (x ∷ ts))
  unfolding postfix_of
  name_reaches x ts is h = rw (same_self x.kind kind.Name is) h

  number_reaches : {w : Meant} {m : ℕ} (x : Token) (ts : List Token) → IsNumber x → Reaches w l m (numbered_of (readers k) (number_of x.text) x.place ts)
      → Reaches w l m (postfix_of (readers k) (x ∷ ts))
  unfolding postfix_of
  number_reaches x ts is h = rw (kind_not kind.Number kind.Name x ts is refl, same_self x.kind kind.Number is) h

  other_reaches : {w : Meant} {m : ℕ} (j : TokenKind) (x : Token) (ts : List Token) → x.kind ≡ j → same j kind.Name ≡ false → same j kind.Number ≡ false
      → Reaches w l m (primary_of (readers k) (x ∷ ts)) → Reaches w l m (postfix_of (readers k) (x ∷ ts))
  unfolding postfix_of
  other_reaches j x ts is no_name no_number h =
      rw (kind_not j kind.Name x ts is no_name, kind_not j kind.Number x ts is no_number) (ahead _ h (λ a. postfix_tail_within (readers k) gw a.0 a.1))

  other_further : {w : Meant} {m : ℕ} (j : TokenKind) (x : Token) (ts mid : List Token) → x.kind ≡ j → same j kind.Name ≡ false → same j kind.Number ≡ false
      → Spelt (suc k) mid (primary_of (readers k) (x ∷ ts)) → m ≤ length mid → ((a : Expression) → Reaches w l m (postfix_tail_of (readers k) a mid))
      → Reaches w l m (postfix_of (readers k) (x ∷ ts))
  unfolding postfix_of
  other_further j x ts mid is no_name no_number h le go =
      rw (kind_not j kind.Name x ts is no_name, kind_not j kind.Number x ts is no_number) (further _ h le (λ a some. go a))

  indexed_ahead : {w : Meant} {m : ℕ} (x o : Token) (ts : List Token) → IsName x → IsSymbol (codes "[") o → Reaches w l m (indexed_of x.text x.place ts)
      → Reaches w l m (postfix_of (readers k) (x ∷ o ∷ ts))
  unfolding named_of
  indexed_ahead x o ts is opened h =
      name_reaches x (o ∷ ts) is (rw (symbol_yes (codes "[") o ts opened) (ahead _ h (λ a. postfix_tail_within (readers k) gw a.0 a.1)))

  indexed_further : {w : Meant} {m : ℕ} (x o : Token) (ts : List Token) → IsName x → IsSymbol (codes "[") o → (a : Expression) (mid : List Token)
      → indexed_of x.text x.place ts ≡ Ok (a, mid) → Reaches w l m (postfix_tail_of (readers k) a mid) → Reaches w l m (postfix_of (readers k) (x ∷ o ∷ ts))
  unfolding named_of
  indexed_further x o ts is opened a mid e h = name_reaches x (o ∷ ts) is (rw (symbol_yes (codes "[") o ts opened, e) h)

  -- ---- primaries

  past_primary : {w : Meant} {j : ℕ} {ts mid r : List Token} {a : Expression} → IsPrimary j ts mid a → FrontPostfixTail w n mid r → Reaches w l (length r) (postfix_of (readers k) ts)
  past_primary (whole.indexed {x = x} {o = o} {c = c} {ts = ts} {rest = mid} {es = es} is opened list close) t =
      indexed_further x o ts is opened _ mid (indexed_gives x ts mid c es list close) (front_postfix_tail t _)
  past_primary (whole.parenthesis {o = o} {ts = ts} {rest = mid} opened e close) t =
      other_further kind.Symbol o ts mid opened.0 refl refl (rw (parenthesis_read (readers k) o ts opened) (outward (parenthesis_spelt k e close))) (front_postfix_tail_takes t) (λ a. front_postfix_tail t a)
  past_primary (whole.least {w = x} {o = o} {ts = ts} {rest = mid} is opened a comma b close) t =
      let q = extreme_read (readers k) x (o ∷ ts) (least_word is) in
      other_further kind.Reserved x (o ∷ ts) mid is.0 refl refl (rw q.1 (outward (extreme_spelt k q.0 x.place o opened a comma b close))) (front_postfix_tail_takes t) (λ a. front_postfix_tail t a)
  past_primary (whole.greatest {w = x} {o = o} {ts = ts} {rest = mid} is opened a comma b close) t =
      let q = extreme_read (readers k) x (o ∷ ts) (greatest_word is) in
      other_further kind.Reserved x (o ∷ ts) mid is.0 refl refl (rw q.1 (outward (extreme_spelt k q.0 x.place o opened a comma b close))) (front_postfix_tail_takes t) (λ a. front_postfix_tail t a)
  past_primary (whole.case_of {w = x} {ts = ts} {rest = mid} is es end) t =
      other_further kind.Reserved x ts mid is.0 refl refl (rw (case_read (readers k) x ts is) (outward (cases_spelt k x.place es end))) (front_postfix_tail_takes t) (λ a. front_postfix_tail t a)
  past_primary (whole.reduced {w = x} {o = o} {f = f} {q = q} {ts = ts} {rest = mid} {op = op} is opened operator comma map second e close) t =
      other_further kind.Reserved x (o ∷ f ∷ q ∷ ts) mid is.0 refl refl
      (rw (reduce_read (readers k) x (o ∷ f ∷ q ∷ ts) is) (outward (reduction_spelt k x.place o f q opened (op, operator) comma map second e close)))
      (front_postfix_tail_takes t) (λ a. front_postfix_tail t a)

  in_parentheses : {w : Meant} {m : ℕ} (o : Token) (ts : List Token) → IsSymbol (codes "(") o → Reaches w l m (parenthesis_of (readers k) ts)
      → Reaches w l m (postfix_of (readers k) (o ∷ ts))
  in_parentheses o ts is h = other_reaches kind.Symbol o ts is.0 refl refl (rw (parenthesis_read (readers k) o ts is) h)

  parentheses_ahead : {w : Meant} {m : ℕ} (ts : List Token) → Reaches w l m ((readers k).expr ts) → Reaches w l m (parenthesis_of (readers k) ts)
  unfolding parenthesis_of
  parentheses_ahead ts h = ahead _ h (λ e. bind_within _ (symbol_within (codes ")") e.1) (λ c. left (le_same _)))

  parentheses_closed : {w : Meant} {j : ℕ} {c : Token} {ts r : List Token} {e : Expression} → whole.IsExpr j ts (c ∷ r) e → IsSymbol (codes ")") c → MayEnd w (suc n)
      → Reaches w l (length r) (parenthesis_of (readers k) ts)
  unfolding parenthesis_of
  parentheses_closed {c = c} {r = r} is close end =
      further _ (expr_spelt k is (close_ends c r close)) (omega arith) (λ a some. rw (symbol_gives (codes ")") c r close) (ends_inside some end (left (le_same _))))

  -- ---- min and max

  extreme_reaches : {w : Meant} {m : ℕ} (x : Token) (ts : List Token) → IsExtreme x → ((z : Sign) → Reaches w l m (extreme_of (readers k) z x.place ts))
      → Reaches w l m (postfix_of (readers k) (x ∷ ts))
  extreme_reaches x ts is h = let q = extreme_read (readers k) x ts is in other_reaches kind.Reserved x ts (extreme_kind x is) refl refl (rw q.1 (h q.0))

  second_within : (z : Sign) (p : Place) (a : Expression) (ts : List Token) → Within (length ts) (extreme_second (readers k) z p a ts)
  second_within z p a ts = bind_within _ (gw.expr ts) (λ y. bind_within _ (symbol_within (codes ")") y.1) (λ c. left (le_same _)))

  first_within : (z : Sign) (p : Place) (ts : List Token) → Within (length ts) (extreme_first (readers k) z p ts)
  first_within z p ts = bind_within _ (gw.expr ts) (λ x. bind_within _ (symbol_within (codes ",") x.1) (λ q. second_within z p x.0 q.1))

  extreme_opened : {w : Meant} {m : ℕ} (x o : Token) (ts : List Token) → IsExtreme x → IsSymbol (codes "(") o → m ≤ length ts
      → (0 < k → (z : Sign) → Reaches w l m (extreme_first (readers k) z x.place ts)) → Reaches w l m (postfix_of (readers k) (x ∷ o ∷ ts))
  unfolding extreme_of
  extreme_opened x o ts is opened le h = extreme_reaches x (o ∷ ts) is (λ z. further _ (opening_spelt k o ts opened) le (λ a some. h some z))

  extreme_comma : {w : Meant} {m j : ℕ} {q : Token} {ts mid : List Token} {a : Expression} (x o : Token) → IsExtreme x → IsSymbol (codes "(") o → whole.IsExpr j ts (q ∷ mid) a
      → IsSymbol (codes ",") q → m ≤ length mid → (0 < k → (z : Sign) (a : Expression) → Reaches w l m (extreme_second (readers k) z x.place a mid))
      → Reaches w l m (postfix_of (readers k) (x ∷ o ∷ ts))
  extreme_comma {q = q} {ts = ts} {mid = mid} x o is opened first comma le h =
      let few = expr_takes first in
      extreme_opened x o ts is opened (omega arith) (λ some z.
      further _ (expr_spelt k first (comma_ends q mid comma)) (omega arith) (λ a some. rw (symbol_gives (codes ",") q mid comma) (h some z a)))

  -- ---- cases

  case_reaches : {w : Meant} {m : ℕ} (x : Token) (ts : List Token) → IsReserved (codes "case") x → Reaches w l m (cases_of (readers k) x.place ts)
      → Reaches w l m (postfix_of (readers k) (x ∷ ts))
  case_reaches x ts is h = other_reaches kind.Reserved x ts is.0 refl refl (rw (case_read (readers k) x ts is) h)

  more_within : (m : ℕ) (e : Expression) (ts : List Token) → Within (length ts) (branches_more (readers k) m e ts)
  more_within m e ts = if_within (begins_word (codes "esac") ts) (left (le_same _)) (bind_within _ (branches_within (readers k) gw m ts) (λ es. left (le_same _)))

  branch_ahead : {w : Meant} (ts r : List Token) → FrontExpr w (suc n) ts r → (m : ℕ) → length ts ≤ m → Reaches w l (length r) (branches_of (readers k) m ts)
  unfolding branches_of
  branch_ahead ts r h (suc m) few = ahead _ (g.expr _ _ _ h) (λ e. bind_within _ (symbol_within (codes ";") e.1) (λ s. more_within m e.0 s.1))
  branch_ahead [] r h zero few =
      elim (expr_start h) [
        | inl e ↦ waits e.1 (stops (omega arith))
        | inr o ↦ absurd (let b = o.0 in no_start b)
      ]
    where
      no_start : ◌≡◌ {A = Bool} false true → ⊥
      no_start e = cc
  branch_ahead (x ∷ ts) r h zero few = absurd (omega arith)

  front_branches : {w : Meant} {ts r : List Token} → FrontBranches w (suc n) ts r → (m : ℕ) → length ts ≤ m → Reaches w l (length r) (branches_of (readers k) m ts)
  unfolding branches_of
  front_branches (fronts.in_branch {ts = ts} {r = r} h) m few = branch_ahead ts r h m few
  front_branches (fronts.at_semicolon {ts = ts} {mid = mid} is (parts.not_yet wait)) m few = as_every wait (branch_ahead ts mid (expr_front (suc n) is) m few)
  front_branches (fronts.at_semicolon is (parts.came semicolon e)) zero few = absurd (let h = expr_takes is in omega arith)
  front_branches (fronts.at_semicolon is (parts.came {x = s} {ts = t} semicolon e)) (suc m) few =
      further _ (expr_spelt k is (semicolon_ends s t semicolon)) (omega arith) (λ a some. rw (symbol_gives (codes ";") s t semicolon) (ends_inside some e (more_within m a t)))
  front_branches (fronts.past_semicolon is semicolon h) zero few = absurd (let h = expr_takes is in omega arith)
  front_branches (fronts.past_semicolon {s = s} {mid = mid} is semicolon h) (suc m) few =
      let le = front_branches_takes h in
      let less = expr_takes is in
      further _ (expr_spelt k is (semicolon_ends s mid semicolon)) (omega arith) (λ a some. rw (symbol_gives (codes ";") s mid semicolon)
      (elim (branches_start h) [
        | inl e ↦ at_rest e.0 (waits e.1 (more_within m a mid))
        | inr goes_on ↦ rw goes_on (ahead _ (front_branches h m (omega arith)) (λ es. left (le_same _)))
      ]))

  cases_ahead : {w : Meant} {ts r : List Token} (p : Place) → FrontBranches w (suc n) ts r → Reaches w l (length r) (cases_of (readers k) p ts)
  unfolding cases_of
  cases_ahead {ts = ts} p h = ahead _ (front_branches h (length ts) (le_same _)) (λ es. bind_within _ (expect_with_within kind.Reserved (codes "esac") es.1) (λ s. left (le_same _)))

  cases_closed : {w : Meant} {j : ℕ} {s : Token} {ts r : List Token} {es : Expressions} (p : Place) → whole.IsBranches j ts (s ∷ r) es → IsReserved (codes "esac") s → MayEnd w (suc n)
      → Reaches w l (length r) (cases_of (readers k) p ts)
  unfolding cases_of
  cases_closed {s = s} {ts = ts} {r = r} p is end e =
      further _ (branches_spelt k is (word_yes (codes "esac") s r end) (length ts) (le_same _)) (omega arith) (λ es some. rw (word_gives (codes "esac") s r end) (ends_inside some e (left (le_same _))))

  -- ---- reductions

  reduce_reaches : {w : Meant} {m : ℕ} (x : Token) (ts : List Token) → IsReserved (codes "reduce") x → Reaches w l m (reduction_of (readers k) x.place ts)
      → Reaches w l m (postfix_of (readers k) (x ∷ ts))
  reduce_reaches x ts is h = other_reaches kind.Reserved x ts is.0 refl refl (rw (reduce_read (readers k) x ts is) h)

  body_within : (f : Op) (m : MapText) (p : Place) (ts : List Token) → Within (length ts) (reduction_body (readers k) f m p ts)
  body_within f m p ts = bind_within _ (gw.expr ts) (λ e. bind_within _ (symbol_within (codes ")") e.1) (λ c. left (le_same _)))

  map_part_within : (f : Op) (p : Place) (ts : List Token) → Within (length ts) (reduction_map (readers k) f p ts)
  map_part_within f p ts = bind_within _ (map_within ts) (λ m. bind_within _ (symbol_within (codes ",") m.1) (λ c. body_within f m.0 p c.1))

  op_part_within : (p : Place) (ts : List Token) → Within (length ts) (reduction_op (readers k) p ts)
  op_part_within p ts = bind_within _ (op_within (op_at ts) ts) (λ f. bind_within _ (symbol_within (codes ",") f.1) (λ q. map_part_within f.0 p q.1))

  reduce_opened : {w : Meant} {m : ℕ} (x o : Token) (ts : List Token) → IsReserved (codes "reduce") x → IsSymbol (codes "(") o → m ≤ length ts
      → (0 < k → Reaches w l m (reduction_op (readers k) x.place ts)) → Reaches w l m (postfix_of (readers k) (x ∷ o ∷ ts))
  unfolding reduction_of
  reduce_opened x o ts is opened le h = reduce_reaches x (o ∷ ts) is (further _ (opening_spelt k o ts opened) le (λ a some. h some))

  reduce_comma : {w : Meant} {m : ℕ} (x o f q : Token) (ts : List Token) → IsReserved (codes "reduce") x → IsSymbol (codes "(") o → (operator : IsSomeOp f) → IsSymbol (codes ",") q
      → m ≤ length ts → (0 < k → Reaches w l m (reduction_map (readers k) operator.0 x.place ts)) → Reaches w l m (postfix_of (readers k) (x ∷ o ∷ f ∷ q ∷ ts))
  unfolding op_by
  reduce_comma x o f q ts is opened operator comma le h =
      reduce_opened x o (f ∷ q ∷ ts) is opened (omega arith) (λ some. rw (op_found operator.0 f (q ∷ ts) operator.1, symbol_gives (codes ",") q ts comma) (h some))

  reduce_mapped : {w : Meant} {m : ℕ} {c : Token} {ts mid : List Token} {t : MapText} (x o f q : Token) → IsReserved (codes "reduce") x → IsSymbol (codes "(") o
      → (operator : IsSomeOp f) → IsSymbol (codes ",") q → IsMap ts (c ∷ mid) t → IsSymbol (codes ",") c
      → m ≤ length mid → (0 < k → Reaches w l m (reduction_body (readers k) operator.0 t x.place mid)) → Reaches w l m (postfix_of (readers k) (x ∷ o ∷ f ∷ q ∷ ts))
  reduce_mapped {c = c} {ts = ts} {mid = mid} x o f q is opened operator comma map second le h =
      let few = map_takes map in
      reduce_comma x o f q ts is opened operator comma (omega arith) (λ some. rw (map_complete map, symbol_gives (codes ",") c mid second) (h some))

  -- ---- all primaries

  past_brackets_within : (v : ℕ) (p : Place) (at : Access × List Token)
      → Within (length at.1) (if begins_symbol (codes ".") at.1 then (map_of (after at.1) >>= λ m. (readers k).postfix_tail (constant v (access.Mapped m.0) p) m.1)
      else Ok (constant v at.0 p, at.1))
  past_brackets_within v p at =
      if_within (begins_symbol (codes ".") at.1) (bind_within _ (closer (map_within (after at.1)) (after_within at.1)) (λ m. gw.postfix_tail _ m.1)) (left (le_same _))

  numbered_ahead : {w : Meant} {m : ℕ} (x : Token) (ts : List Token) → Reaches w l m (brackets_of ts) → Reaches w l m (numbered_of (readers k) (number_of x.text) x.place ts)
  unfolding numbered_of
  numbered_ahead x ts h = ahead _ h (λ at. past_brackets_within (number_of x.text) x.place at)

  indices_ahead : {w : Meant} {m : ℕ} (x : Token) (ts : List Token) → Reaches w l m (optional_indices_of ts) → Reaches w l m (indexed_of x.text x.place ts)
  unfolding indexed_of
  indices_ahead x ts h = ahead _ h (λ es. bind_within _ (symbol_within (codes "]") es.1) (λ c. left (le_same _)))

  extreme_ahead : {w : Meant} {m : ℕ} (z : Sign) (p : Place) (ts : List Token) → Reaches w l m ((readers k).opening ts) → Reaches w l m (extreme_of (readers k) z p ts)
  unfolding extreme_of
  extreme_ahead z p ts h = ahead _ h (λ o. first_within z p o.1)

  first_ahead : {w : Meant} {m : ℕ} (z : Sign) (p : Place) (ts : List Token) → Reaches w l m ((readers k).expr ts) → Reaches w l m (extreme_first (readers k) z p ts)
  first_ahead z p ts h = ahead _ h (λ x. bind_within _ (symbol_within (codes ",") x.1) (λ q. second_within z p x.0 q.1))

  second_ahead : {w : Meant} {m : ℕ} (z : Sign) (p : Place) (a : Expression) (ts : List Token) → Reaches w l m ((readers k).expr ts)
      → Reaches w l m (extreme_second (readers k) z p a ts)
  second_ahead z p a ts h = ahead _ h (λ y. bind_within _ (symbol_within (codes ")") y.1) (λ c. left (le_same _)))

  reduction_ahead : {w : Meant} {m : ℕ} (p : Place) (ts : List Token) → Reaches w l m ((readers k).opening ts) → Reaches w l m (reduction_of (readers k) p ts)
  unfolding reduction_of
  reduction_ahead p ts h = ahead _ h (λ o. op_part_within p o.1)

  map_ahead : {w : Meant} {m : ℕ} (f : Op) (p : Place) (ts : List Token) → Reaches w l m (map_of ts) → Reaches w l m (reduction_map (readers k) f p ts)
  map_ahead f p ts h = ahead _ h (λ m. bind_within _ (symbol_within (codes ",") m.1) (λ c. body_within f m.0 p c.1))

  body_ahead : {w : Meant} {m : ℕ} (f : Op) (t : MapText) (p : Place) (ts : List Token) → Reaches w l m ((readers k).expr ts) → Reaches w l m (reduction_body (readers k) f t p ts)
  body_ahead f t p ts h = ahead _ h (λ e. bind_within _ (symbol_within (codes ")") e.1) (λ c. left (le_same _)))

  front_primary : {w : Meant} {ts r : List Token} → FrontPrimary w n ts r → Reaches w l (length r) (postfix_of (readers k) ts)
  unfolding op_by
  front_primary (fronts.at_number {ts = ts} (parts.not_yet wait)) = waits wait (postfix_within (readers k) gw ts)
  front_primary (fronts.at_number (parts.came {x = x} {ts = ts} is e)) = number_reaches x ts is (ends e (numbered_within (readers k) gw (number_of x.text) x.place ts))
  front_primary {w = w} (fronts.in_brackets {x = x} {ts = ts} is h) =
      number_reaches x ts is (numbered_ahead x ts (reach (level_below w n l (front_brackets_ends h) around_below) (front_brackets h)))
  front_primary (fronts.at_name {ts = ts} (parts.not_yet wait)) = waits wait (postfix_within (readers k) gw ts)
  front_primary (fronts.at_name (parts.came {x = x} {ts = ts} is e)) = name_reaches x ts is (ends e (named_within (readers k) gw x.text x.place ts))
  front_primary (fronts.at_bracket {x = x} {ts = ts} is (parts.not_yet wait)) = name_reaches x ts is (waits wait (named_within (readers k) gw x.text x.place ts))
  front_primary (fronts.at_bracket {x = x} is (parts.came {x = o} {ts = ts} opened e)) = indexed_ahead x o ts is opened (ends e (indexed_within x.text x.place ts))
  front_primary {w = w} (fronts.in_indices {x = x} {o = o} {ts = ts} is opened h) =
      indexed_ahead x o ts is opened (indices_ahead x ts (reach (level_below w n l (front_optional_indices_ends h) around_below) (front_optional_indices h)))
  front_primary (fronts.at_bracket_close {x = x} {o = o} {ts = ts} is opened list (parts.not_yet wait)) =
      indexed_ahead x o ts is opened (as_every wait (indices_ahead x ts (reach tt (front_optional_indices (optional_indices_front 0 list)))))
  front_primary (fronts.at_bracket_close {x = x} {o = o} {ts = ts} {es = es} is opened list (parts.came {x = c} {ts = t} close e)) =
      indexed_further x o ts is opened _ t (indexed_gives x ts t c es list close) (ends e (postfix_tail_within (readers k) gw _ t))
  front_primary (fronts.at_parenthesis {ts = ts} (parts.not_yet wait)) = waits wait (postfix_within (readers k) gw ts)
  front_primary (fronts.at_parenthesis (parts.came {x = o} {ts = ts} is e)) = in_parentheses o ts is (ends e (parenthesis_within (readers k) gw ts))
  front_primary (fronts.in_parenthesis {o = o} {ts = ts} opened h) = in_parentheses o ts opened (parentheses_ahead ts (g.expr _ _ _ h))
  front_primary (fronts.at_parenthesis_close {o = o} {ts = ts} opened is (parts.not_yet wait)) =
      in_parentheses o ts opened (as_every wait (parentheses_ahead ts (g.expr _ _ _ (expr_front (suc n) is))))
  front_primary (fronts.at_parenthesis_close {o = o} {ts = ts} opened is (parts.came close e)) = in_parentheses o ts opened (parentheses_closed is close e)
  front_primary (fronts.at_extreme {ts = ts} (parts.not_yet wait)) = waits wait (postfix_within (readers k) gw ts)
  front_primary (fronts.at_extreme (parts.came {x = x} {ts = ts} is e)) = extreme_reaches x ts is (λ z. ends e (extreme_within (readers k) gw z x.place ts))
  front_primary (fronts.at_extreme_open {x = x} {ts = ts} is h) = extreme_reaches x ts is (λ z. extreme_ahead z x.place ts (g.opening _ _ _ h))
  front_primary (fronts.in_one {x = x} {o = o} {ts = ts} is opened h) =
      extreme_opened x o ts is opened (front_expr_takes h) (λ some z. first_ahead z x.place ts (g.expr _ _ _ h))
  front_primary (fronts.at_extreme_comma {x = x} {o = o} {ts = ts} {mid = mid} is opened first (parts.not_yet wait)) =
      let few = expr_takes first in
      extreme_opened x o ts is opened (omega arith) (λ some z. as_every wait (first_ahead z x.place ts (g.expr _ _ _ (expr_front (suc n) first))))
  front_primary (fronts.at_extreme_comma {x = x} {o = o} is opened first (parts.came {x = q} {ts = t} comma e)) =
      extreme_comma x o is opened first comma (le_same _) (λ some z a. ends_inside some e (second_within z x.place a t))
  front_primary (fronts.in_other {x = x} {o = o} {mid = mid} is opened first comma h) =
      extreme_comma x o is opened first comma (front_expr_takes h) (λ some z a. second_ahead z x.place a mid (g.expr _ _ _ h))
  front_primary (fronts.at_extreme_close {x = x} {o = o} {t1 = t1} is opened first comma second (parts.not_yet wait)) =
      let few = expr_takes second in
      extreme_comma x o is opened first comma (omega arith) (λ some z a. as_every wait (second_ahead z x.place a t1 (g.expr _ _ _ (expr_front (suc n) second))))
  front_primary (fronts.at_extreme_close {x = x} {o = o} is opened first comma second (parts.came {x = c} {ts = t} close e)) =
      let few = expr_takes second in
      extreme_comma x o is opened first comma (omega arith) (λ some z a.
      further _ (expr_spelt k second (close_ends c t close)) (omega arith) (λ y more. rw (symbol_gives (codes ")") c t close) (ends_inside some e (left (le_same _)))))
  front_primary (fronts.at_case {ts = ts} (parts.not_yet wait)) = waits wait (postfix_within (readers k) gw ts)
  front_primary (fronts.at_case (parts.came {x = x} {ts = ts} is e)) = case_reaches x ts is (ends e (cases_within (readers k) gw x.place ts))
  front_primary (fronts.in_case {x = x} {ts = ts} is h) = case_reaches x ts is (cases_ahead x.place h)
  front_primary (fronts.at_esac {x = x} {ts = ts} is es (parts.not_yet wait)) = case_reaches x ts is (as_every wait (cases_ahead x.place (branches_front (suc n) es)))
  front_primary (fronts.at_esac {x = x} {ts = ts} is es (parts.came end e)) = case_reaches x ts is (cases_closed x.place es end e)
  front_primary (fronts.at_reduce {ts = ts} (parts.not_yet wait)) = waits wait (postfix_within (readers k) gw ts)
  front_primary (fronts.at_reduce (parts.came {x = x} {ts = ts} is e)) = reduce_reaches x ts is (ends e (reduction_within (readers k) gw x.place ts))
  front_primary (fronts.at_reduce_open {x = x} {ts = ts} is h) = reduce_reaches x ts is (reduction_ahead x.place ts (g.opening _ _ _ h))
  front_primary (fronts.at_op {x = x} {o = o} {ts = ts} is opened (parts.not_yet wait)) =
      reduce_opened x o ts is opened (le_same _) (λ some. waits wait (op_part_within x.place ts))
  front_primary (fronts.at_op {x = x} {o = o} is opened (parts.came {x = f} {ts = t} operator e)) =
      reduce_opened x o (f ∷ t) is opened (omega arith) (λ some. rw (op_found operator.0 f t operator.1)
      (ends_inside some e (bind_within _ (symbol_within (codes ",") t) (λ q. map_part_within operator.0 x.place q.1))))
  front_primary (fronts.at_op_comma {x = x} {o = o} {f = f} {ts = ts} is opened operator (parts.not_yet wait)) =
      reduce_opened x o (f ∷ ts) is opened (omega arith) (λ some. rw (op_found operator.0 f ts operator.1)
      (waits wait (bind_within _ (symbol_within (codes ",") ts) (λ q. map_part_within operator.0 x.place q.1))))
  front_primary (fronts.at_op_comma {x = x} {o = o} {f = f} is opened operator (parts.came {x = q} {ts = t} comma e)) =
      reduce_comma x o f q t is opened operator comma (le_same _) (λ some. ends_inside some e (map_part_within operator.0 x.place t))
  front_primary {w = w} (fronts.in_projection {x = x} {o = o} {f = f} {q = q} {ts = ts} is opened operator comma h) =
      reduce_comma x o f q ts is opened operator comma (front_map_takes h) (λ some.
      map_ahead operator.0 x.place ts (reach (level_below w (suc n) l (front_map_ends h) (inner_below some)) (front_map h)))
  front_primary (fronts.at_projection_comma {x = x} {o = o} {f = f} {q = q} {ts = ts} is opened operator comma map (parts.not_yet wait)) =
      let few = map_takes map in
      reduce_comma x o f q ts is opened operator comma (omega arith) (λ some. as_every wait (map_ahead operator.0 x.place ts (reach tt (front_map (map_front 0 map)))))
  front_primary (fronts.at_projection_comma {x = x} {o = o} {f = f} {q = q} {m = m} is opened operator comma map (parts.came {x = c} {ts = t} second e)) =
      reduce_mapped x o f q is opened operator comma map second (le_same _) (λ some. ends_inside some e (body_within operator.0 m x.place t))
  front_primary (fronts.in_body {x = x} {o = o} {f = f} {q = q} {mid = mid} {m = m} is opened operator comma map second h) =
      reduce_mapped x o f q is opened operator comma map second (front_expr_takes h) (λ some. body_ahead operator.0 m x.place mid (g.expr _ _ _ h))
  front_primary (fronts.at_reduce_close {x = x} {o = o} {f = f} {q = q} {t1 = t1} {m = m} is opened operator comma map second body (parts.not_yet wait)) =
      let few = expr_takes body in
      reduce_mapped x o f q is opened operator comma map second (omega arith) (λ some.
      as_every wait (body_ahead operator.0 m x.place t1 (g.expr _ _ _ (expr_front (suc n) body))))
  front_primary (fronts.at_reduce_close {x = x} {o = o} {f = f} {q = q} is opened operator comma map second body (parts.came {x = c} {ts = t} close e)) =
      let few = expr_takes body in
      reduce_mapped x o f q is opened operator comma map second (omega arith) (λ some.
      further _ (expr_spelt k body (close_ends c t close)) (omega arith) (λ y more. rw (symbol_gives (codes ")") c t close) (ends_inside some e (left (le_same _)))))

  front_postfix : {w : Meant} {ts r : List Token} → FrontPostfix w n ts r → Reaches w l (length r) (postfix_of (readers k) ts)
  unfolding named_of numbered_of
  front_postfix (fronts.in_primary h) = front_primary h
  front_postfix (fronts.past_name {x = x} {ts = ts} is t) =
      name_reaches x ts is (elim (postfix_tail_start t) [
        | inl e ↦ at_rest e.0 (waits e.1 (named_within (readers k) gw x.text x.place ts))
        | inr b ↦ rw b (tail_reaches t (λ m. reference x.text (access.Mapped m) x.place) (Ok (reference x.text access.Here x.place, ts)) (left (le_same _)))
      ])
  front_postfix (fronts.past_number {x = x} {ts = ts} {mid = mid} {at = at} is around t) =
      number_reaches x ts is (elim (postfix_tail_start t) [
        | inl e ↦ at_rest e.0 (as_every e.1 (numbered_ahead x ts (reach tt (front_brackets (brackets_front {n = 0} around)))))
        | inr b ↦ rw (brackets_complete around b)
            (tail_reaches t (λ m. constant (number_of x.text) (access.Mapped m) x.place) (Ok (constant (number_of x.text) at x.place, mid)) (left (le_same _)))
      ])
  front_postfix (fronts.past_primary p t) = past_primary p t

  -- ---- operators

  pub front_unary : {w : Meant} {ts r : List Token} → FrontUnary w n ts r → Reaches w l (length r) (unary_of (readers k) ts)
  unfolding unary_of
  front_unary (fronts.at_minus {ts = ts} (parts.not_yet wait)) = waits wait (unary_within (readers k) gw ts)
  front_unary (fronts.at_minus (parts.came {x = m} {ts = ts} is e)) = rw (symbol_yes (codes "-") m ts is) (ends e (bind_within _ (gw.unary ts) (λ e. left (le_same _))))
  front_unary (fronts.past_minus {m = m} {ts = ts} is h) = rw (symbol_yes (codes "-") m ts is) (ahead _ (g.unary _ _ _ h) (λ e. left (le_same _)))
  front_unary (fronts.in_postfix {ts = ts} h) =
      elim (postfix_start h) [
        | inl e ↦ at_rest e.0 (waits e.1 (unary_within (readers k) gw ts))
        | inr o ↦ rw o.1 (front_postfix h)
      ]

  pub front_product_tail : {w : Meant} {ts r : List Token} → FrontProductTail w n ts r → (a : Expression) → Reaches w l (length r) (product_tail_of (readers k) a ts)
  unfolding product_tail_of
  front_product_tail (fronts.no_times_yet {ts = ts} wait) a = waits wait (product_tail_within (readers k) gw a ts)
  front_product_tail (fronts.at_times {ts = ts} (parts.not_yet wait)) a = waits wait (product_tail_within (readers k) gw a ts)
  front_product_tail (fronts.at_times (parts.came {x = p} {ts = ts} is e)) a =
      rw (symbol_yes (codes "*") p ts is) (ends e (bind_within _ (gw.unary ts) (λ x. gw.product_tail _ x.1)))
  front_product_tail (fronts.in_factor {p = p} {ts = ts} is h) a = rw (symbol_yes (codes "*") p ts is) (ahead _ (g.unary _ _ _ h) (λ x. gw.product_tail _ x.1))
  front_product_tail (fronts.past_factor {p = p} {ts = ts} {mid = mid} is part h) a =
      rw (symbol_yes (codes "*") p ts is) (elim (product_tail_start h) [
        | inl e ↦ at_rest e.0 (as_every e.1 (ahead _ (g.unary _ _ _ (unary_front (suc n) part)) (λ x. gw.product_tail _ x.1)))
        | inr apart ↦ further _ (unary_spelt k part apart) (front_product_tail_takes h) (λ x some. g.product_tail some _ _ _ h _)
      ])

  pub front_product : {w : Meant} {ts r : List Token} → FrontProduct w n ts r → Reaches w l (length r) (product_of (readers k) ts)
  unfolding product_of
  front_product (fronts.in_unary h) = ahead _ (front_unary h) (λ a. product_tail_within (readers k) gw a.0 a.1)
  front_product (fronts.past_unary {mid = mid} part h) =
      elim (product_tail_start h) [
        | inl e ↦ at_rest e.0 (as_every e.1 (ahead _ (front_unary (unary_front n part)) (λ a. product_tail_within (readers k) gw a.0 a.1)))
        | inr apart ↦ further _ (unary_of_spelt k part apart) (front_product_tail_takes h) (λ a some. front_product_tail h a)
      ]

  pub front_sum_tail : {w : Meant} {ts r : List Token} → FrontSumTail w n ts r → (a : Expression) → Reaches w l (length r) (sum_tail_of (readers k) a ts)
  front_sum_tail (fronts.no_sign_yet {ts = ts} wait) a = waits wait (sum_tail_within (readers k) gw a ts)
  front_sum_tail (fronts.at_sign {ts = ts} (parts.not_yet wait)) a = waits wait (sum_tail_within (readers k) gw a ts)
  front_sum_tail (fronts.at_sign (parts.came {x = p} {ts = ts} is e)) a =
      let q = sign_read (readers k) p a ts is in rw q.1 (ends e (bind_within _ (gw.product ts) (λ x. gw.sum_tail _ x.1)))
  front_sum_tail (fronts.in_addend {p = p} {ts = ts} is h) a =
      let q = sign_read (readers k) p a ts is in rw q.1 (ahead _ (g.product _ _ _ h) (λ x. gw.sum_tail _ x.1))
  front_sum_tail (fronts.past_addend {p = p} {ts = ts} {mid = mid} is part h) a =
      let q = sign_read (readers k) p a ts is in
      rw q.1 (elim (sum_tail_start h) [
        | inl e ↦ at_rest e.0 (as_every e.1 (ahead _ (g.product _ _ _ (product_front (suc n) part)) (λ x. gw.sum_tail _ x.1)))
        | inr apart ↦ further _ (product_spelt k part apart) (front_sum_tail_takes h) (λ x some. g.sum_tail some _ _ _ h _)
      ])

  pub front_sum : {w : Meant} {ts r : List Token} → FrontSum w n ts r → Reaches w l (length r) (sum_of (readers k) ts)
  unfolding sum_of
  front_sum (fronts.in_product h) = ahead _ (front_product h) (λ a. sum_tail_within (readers k) gw a.0 a.1)
  front_sum (fronts.past_product {mid = mid} part h) =
      elim (sum_tail_start h) [
        | inl e ↦ at_rest e.0 (as_every e.1 (ahead _ (front_product (product_front n part)) (λ a. sum_tail_within (readers k) gw a.0 a.1)))
        | inr apart ↦ further _ (product_of_spelt k part apart) (front_sum_tail_takes h) (λ a some. front_sum_tail h a)
      ]

  -- ---- choices

  no_part_within : (p : Place) (x : Expression) (r : Relation) (y v : Expression) (ts : List Token) → Within (length ts) (choice_no (readers k) p x r y v ts)
  no_part_within p x r y v ts = bind_within _ (gw.expr ts) (λ q. left (le_same _))

  yes_part_within : (p : Place) (x : Expression) (r : Relation) (y : Expression) (ts : List Token) → Within (length ts) (choice_yes (readers k) p x r y ts)
  yes_part_within p x r y ts = bind_within _ (gw.expr ts) (λ v. bind_within _ (expect_with_within kind.Reserved (codes "else") v.1) (λ s. no_part_within p x r y v.0 s.1))

  right_within : (p : Place) (x : Expression) (r : Relation) (ts : List Token) → Within (length ts) (choice_right (readers k) p x r ts)
  right_within p x r ts = bind_within _ (gw.sum ts) (λ y. bind_within _ (expect_with_within kind.Reserved (codes "then") y.1) (λ t. yes_part_within p x r y.0 t.1))

  if_reaches : {w : Meant} {m : ℕ} (i : Token) (ts : List Token) → IsReserved (codes "if") i → Reaches w l m (choice_of (readers k) i.place ts)
      → Reaches w l m (expr_of (readers k) (i ∷ ts))
  if_reaches {w = w} {m = m} i ts is h = subst (λ z. Reaches w l m z) (sym (if_read (readers k) i ts is)) h

  left_ahead : {w : Meant} {m : ℕ} (p : Place) (ts : List Token) → Reaches w l m ((readers k).sum ts) → Reaches w l m (choice_of (readers k) p ts)
  unfolding choice_of
  left_ahead p ts h = ahead _ h (λ x. bind_within _ (relation_within (compare_at x.1) x.1) (λ r. right_within p x.0 r.0 r.1))

  right_ahead : {w : Meant} {m : ℕ} (p : Place) (x : Expression) (r : Relation) (ts : List Token) → Reaches w l m ((readers k).sum ts)
      → Reaches w l m (choice_right (readers k) p x r ts)
  right_ahead p x r ts h = ahead _ h (λ y. bind_within _ (expect_with_within kind.Reserved (codes "then") y.1) (λ t. yes_part_within p x r y.0 t.1))

  yes_ahead : {w : Meant} {m : ℕ} (p : Place) (x : Expression) (r : Relation) (y : Expression) (ts : List Token) → Reaches w l m ((readers k).expr ts)
      → Reaches w l m (choice_yes (readers k) p x r y ts)
  yes_ahead p x r y ts h = ahead _ h (λ v. bind_within _ (expect_with_within kind.Reserved (codes "else") v.1) (λ s. no_part_within p x r y v.0 s.1))

  compared : {w : Meant} {m j : ℕ} {q : Token} {t0 t1 : List Token} {a : Expression} (i : Token) → IsReserved (codes "if") i → whole.IsSum j t0 (q ∷ t1) a → (c : IsSomeCompare q)
      → m ≤ length t1 → (0 < k → (x : Expression) → Reaches w l m (choice_right (readers k) i.place x c.0 t1)) → Reaches w l m (expr_of (readers k) (i ∷ t0))
  unfolding choice_of relation_by
  compared {q = q} {t0 = t0} {t1 = t1} i is first c le h =
      if_reaches i t0 is (further _ (sum_spelt k first (compare_ends c.0 q t1 c.1)) (omega arith) (λ x some. rw (compare_found c.0 q t1 c.1) (h some x)))

  decided : {w : Meant} {m i j : ℕ} {q t : Token} {t0 t1 t2 : List Token} {a b : Expression} (x : Token) → IsReserved (codes "if") x → whole.IsSum i t0 (q ∷ t1) a → (c : IsSomeCompare q)
      → whole.IsSum j t1 (t ∷ t2) b → IsReserved (codes "then") t → m ≤ length t2
      → (0 < k → (y z : Expression) → Reaches w l m (choice_yes (readers k) x.place y c.0 z t2)) → Reaches w l m (expr_of (readers k) (x ∷ t0))
  decided {t = t} {t2 = t2} x is first c second then_is le h =
      let few = sum_takes second in
      compared x is first c (omega arith) (λ some y.
      further _ (sum_spelt k second (then_ends t t2 then_is)) (omega arith) (λ z more. rw (word_gives (codes "then") t t2 then_is) (h more y z)))

  chosen_yes : {w : Meant} {m i j o : ℕ} {q t s : Token} {t0 t1 t2 t3 : List Token} {a b v : Expression} (x : Token) → IsReserved (codes "if") x → whole.IsSum i t0 (q ∷ t1) a
      → (c : IsSomeCompare q) → whole.IsSum j t1 (t ∷ t2) b → IsReserved (codes "then") t → whole.IsExpr o t2 (s ∷ t3) v → IsReserved (codes "else") s → m ≤ length t3
      → (0 < k → (y z u : Expression) → Reaches w l m (choice_no (readers k) x.place y c.0 z u t3)) → Reaches w l m (expr_of (readers k) (x ∷ t0))
  chosen_yes {s = s} {t3 = t3} x is first c second then_is third else_is le h =
      let few = expr_takes third in
      decided x is first c second then_is (omega arith) (λ some y z.
      further _ (expr_spelt k third (else_ends s t3 else_is)) (omega arith) (λ u more. rw (word_gives (codes "else") s t3 else_is) (h more y z u)))

  -- ---- expressions

  brace_reaches : {w : Meant} {m : ℕ} (o : Token) (ts : List Token) → IsSymbol (codes "{") o → Reaches w l m (restriction_of (readers k) o.place ts)
      → Reaches w l m (expr_of (readers k) (o ∷ ts))
  unfolding expr_of
  brace_reaches o ts is h = rw (symbol_yes (codes "{") o ts is) h

  domain_ahead : {w : Meant} {m : ℕ} (p : Place) (ts : List Token) → Reaches w l m ((readers k).domain_rest p ts) → Reaches w l m (restriction_of (readers k) p ts)
  unfolding restriction_of
  domain_ahead p ts h = ahead _ h (λ d. bind_within _ (symbol_within (codes ":") d.1) (λ c. bind_within _ (gw.expr c.1) (λ e. left (le_same _))))

  restricted_by : {w : Meant} {m : ℕ} {c : Token} {ts mid : List Token} {d : DomainText} → IsDomain ts (c ∷ mid) d → IsSymbol (codes ":") c → m ≤ length mid
      → (0 < k → (f : DomainText) → Reaches w l m ((readers k).expr mid >>= λ e. Ok (restriction f e.0 f.place, e.1))) → Reaches w l m (expr_of (readers k) ts)
  unfolding restriction_of
  restricted_by {c = c} {mid = mid} (domain {o = o} {ts = ts} is names bounds close) colon le h =
      brace_reaches o ts is (further _ (domain_rest_spelt k (domain {o = o} is names bounds close)) (omega arith) (λ f some. rw (symbol_gives (codes ":") c mid colon) (h some f)))

  whole_domain : {w : Meant} {ts mid : List Token} {d : DomainText} → IsDomain ts mid d → MayWait w → Reaches w l (length mid) (expr_of (readers k) ts)
  whole_domain (domain {o = o} {ts = ts} is names bounds close) wait =
      as_every wait (brace_reaches o ts is (domain_ahead o.place ts (g.domain_rest _ _ _ (inner.at_close names bounds (parts.came close tt)) o.place)))

  sum_reaches : {w : Meant} {ts r : List Token} → FrontSum w n ts r → ((r ≡ ts) × MayWait w) ⊎ Opens ts → Reaches w l (length r) (expr_of (readers k) ts)
  unfolding expr_of
  sum_reaches {ts = ts} h (inl e) = at_rest e.0 (waits e.1 (expr_within (readers k) gw ts))
  sum_reaches h (inr o) = rw (o.1, o.2) (front_sum h)

  pub front_expr : {w : Meant} {ts r : List Token} → FrontExpr w n ts r → Reaches w l (length r) (expr_of (readers k) ts)
  front_expr (fronts.at_brace {ts = ts} (parts.not_yet wait)) = waits wait (expr_within (readers k) gw ts)
  front_expr (fronts.at_brace (parts.came {x = o} {ts = ts} is e)) = brace_reaches o ts is (ends e (restriction_within (readers k) gw o.place ts))
  front_expr (fronts.in_domain {o = o} {ts = ts} is h) = brace_reaches o ts is (domain_ahead o.place ts (g.domain_rest _ _ _ h o.place))
  front_expr (fronts.at_colon d (parts.not_yet wait)) = whole_domain d wait
  front_expr (fronts.at_colon d (parts.came {x = c} {ts = t} colon e)) =
      restricted_by d colon (le_same _) (λ some f. ends_inside some e (bind_within _ (gw.expr t) (λ e. left (le_same _))))
  front_expr (fronts.in_restricted d colon h) = restricted_by d colon (front_expr_takes h) (λ some f. ahead _ (g.expr _ _ _ h) (λ e. left (le_same _)))
  front_expr (fronts.at_if {ts = ts} (parts.not_yet wait)) = waits wait (expr_within (readers k) gw ts)
  front_expr (fronts.at_if (parts.came {x = i} {ts = ts} is e)) = if_reaches i ts is (ends e (choice_within (readers k) gw i.place ts))
  front_expr (fronts.in_left {i = i} {ts = ts} is h) = if_reaches i ts is (left_ahead i.place ts (g.sum _ _ _ h))
  front_expr (fronts.at_compare {i = i} {t0 = t0} is first (parts.not_yet wait)) = as_every wait (if_reaches i t0 is (left_ahead i.place t0 (g.sum _ _ _ (sum_front (suc n) first))))
  front_expr (fronts.at_compare {i = i} is first (parts.came {x = q} {ts = t} c e)) =
      compared i is first c (le_same _) (λ some x. ends_inside some e (right_within i.place x c.0 t))
  front_expr (fronts.in_right {i = i} {t1 = t1} is first c h) = compared i is first c (front_sum_takes h) (λ some x. right_ahead i.place x c.0 t1 (g.sum _ _ _ h))
  front_expr (fronts.at_then {i = i} {t1 = t1} is first c second (parts.not_yet wait)) =
      let few = sum_takes second in
      compared i is first c (omega arith) (λ some x. as_every wait (right_ahead i.place x c.0 t1 (g.sum _ _ _ (sum_front (suc n) second))))
  front_expr (fronts.at_then {i = i} is first c second (parts.came {x = q} {ts = t} then_is e)) =
      decided i is first c second then_is (le_same _) (λ some x y. ends_inside some e (yes_part_within i.place x c.0 y t))
  front_expr (fronts.in_yes {i = i} {t2 = t2} is first c second then_is h) =
      decided i is first c second then_is (front_expr_takes h) (λ some x y. yes_ahead i.place x c.0 y t2 (g.expr _ _ _ h))
  front_expr (fronts.at_else {i = i} {t2 = t2} is first c second then_is third (parts.not_yet wait)) =
      let few = expr_takes third in
      decided i is first c second then_is (omega arith) (λ some x y. as_every wait (yes_ahead i.place x c.0 y t2 (g.expr _ _ _ (expr_front (suc n) third))))
  front_expr (fronts.at_else {i = i} is first c second then_is third (parts.came {x = s} {ts = t} else_is e)) =
      chosen_yes i is first c second then_is third else_is (le_same _) (λ some x y u. ends_inside some e (no_part_within i.place x c.0 y u t))
  front_expr (fronts.in_no {i = i} is first c second then_is third else_is h) =
      chosen_yes i is first c second then_is third else_is (front_expr_takes h) (λ some x y u. ahead _ (g.expr _ _ _ h) (λ q. left (le_same _)))
  front_expr (fronts.in_sum h) = sum_reaches h (sum_start h)
