-- With fewer levels a reader gives the same, or a fault of depth before the end of what is read with more. So what is
-- spelled is read, or there is such a fault in it.
use Rattle.std.proofs.Common.{◌≡◌, ℕ, zero, suc, ◌+◌, ◌<◌, ◌≤◌, Bool, true, false, List, [], ◌∷◌, length, Option, Some, None, Result, Ok, Err, refl, subst, arith}
use Rattle.std.specs.Prelude.{◌&&◌, if◌then◌else◌, codes}
use Rattle.std.specs.Str.{bytes_eq}
use Rattle.av_base.specs.declared.place.Place.{Place}
use Rattle.av_base.specs.declared.token_kind.TokenKind.TheVariants as kind
use Rattle.av_base.specs.Tokens.{Token}
use Rattle.av_tree.specs.declared.domain.DomainText.{DomainText}
use Rattle.av_tree.specs.declared.sign.Sign.{Sign}
use Rattle.av_tree.specs.declared.sign.Sign.TheVariants as sign
use Rattle.av_tree.specs.Trees.{Text, Expression}
use Rattle.av_tree.specs.Parts.{IsSymbol}
use Rattle.av_tree.specs.declared.domain.Constraint.{Constraint}
use Rattle.av_tree.specs.IndexGrammar.{IsNames, last_name, more_names, no_names, some_names, IsConditions, no_bar, bar, conditions, domain, IsDomain}
use Rattle.av_tree.specs.ExpressionGrammar.{IsExpr, restricted, chosen, plain, IsSum, sum, IsProduct, product, IsUnary, negative, postfix, IsPostfix, bare, bare_mapped, number, number_mapped, primary, IsPrimary, indexed, parenthesis, least, greatest, case_of, reduced}
use Rattle.av_parse.specs.declared.fault.Fault.{Fault}
use Rattle.av_parse.specs.declared.fault.Fault.TheVariants.{Depth}
use Rattle.av_parse.specs.inner.Reader.{◌>>=◌, begins, begins_symbol, begins_word, same, syntax, after, place_of, text_of, value_of, too_deep, deep_fault, expect_symbol, expect_with}
use Rattle.av_parse.specs.inner.ExpressionReader.{Readers, brackets_of, parenthesis_of, extreme_of, branches_of, cases_of, op_at, reduction_of, primary_of, postfix_tail_of, named_of, numbered_of, postfix_of, unary_of, product_tail_of, product_of, sign_at, sum_tail_by, sum_tail_of, sum_of, compare_at, choice_of, restriction_of, expr_of, begins_unary, begins_expr, begins_domain_rest, readers}
use Rattle.av_parse.proofs.Follow.{known, symbol_yes, symbol_gives}
use Rattle.av_parse.proofs.Lifted.{climbed, lift_expr, lift_sum, lift_product, lift_unary}
use Rattle.av_parse.proofs.CompleteIndex.{domain_rest_complete}
use Rattle.av_parse.proofs.CompleteExpression.{EndsPostfix, EndsProduct, EndsSum, expr_complete, sum_complete, product_complete, unary_complete}
use Rattle.av_parse.proofs.Takes.{names_take, conditions_take, expr_takes, sum_takes, product_takes, unary_takes}
use Rattle.av_parse.proofs.SoundSteps.{Holds, fine, failed}
use Rattle.av_parse.proofs.SoundExpression.{all_sound}
use Rattle.av_parse.proofs.WithinIndex.{Within, left, stops, deep, closer, bind_within, if_within, le_same, after_within, expect_with_within, symbol_within, relation_within, map_within}
use Rattle.av_parse.proofs.WithinExpression.{WithinAll, all_within, op_within, branches_within, postfix_tail_within, product_tail_within, sum_tail_within}
use Rattle.av_base.proofs.Truths.{or_true}

-- ---- the two readings

pub data Less {A : Type 0} : Result (A × List Token) Fault → Result (A × List Token) Fault → Type 0 where
  equal : {r : Result (A × List Token) Fault} → Less r r
  sunk : {x : A × List Token} {m : ℕ} → length x.1 < m → Less (Err (Depth m)) (Ok x)
  failing : {r : Result (A × List Token) Fault} {f : Fault} → Less r (Err f)

sunk_before : {A : Type 0} {m n : ℕ} {r : Result (A × List Token) Fault} → n < m → Within n r → Less (Err (Depth m)) r
sunk_before h (left le) = sunk (omega arith)
sunk_before h (stops le) = failing
sunk_before h deep = failing

bind_less : {A B : Type 0} {r s : Result (A × List Token) Fault} (f g : A × List Token → Result (B × List Token) Fault) → Less r s
    → ((x : A × List Token) → Less (f x) (g x)) → ((x : A × List Token) → Within (length x.1) (g x)) → Less (r >>= f) (s >>= g)
bind_less f g (equal {r = Ok x}) go within = go x
bind_less f g (equal {r = Err e}) go within = failing
bind_less f g (sunk {x = x} h) go within = sunk_before h (within x)
bind_less f g failing go within = failing

-- where something is read with k levels, there is a level
pub data Room {A : Type 0} (k : ℕ) : Result (A × List Token) Fault → Type 0 where
  room : {x : A × List Token} → 0 < k → Room k (Ok x)
  none : {f : Fault} → Room k (Err f)

pub some_room : {A : Type 0} (k : ℕ) (r : Result (A × List Token) Fault) → Room (suc k) r
some_room k (Ok x) = room (omega arith)
some_room k (Err f) = none

bind_room : {A B : Type 0} {k : ℕ} {r s : Result (A × List Token) Fault} (f g : A × List Token → Result (B × List Token) Fault) → Less r s → Room k r
    → ((x : A × List Token) → 0 < k → Less (f x) (g x)) → ((x : A × List Token) → Within (length x.1) (g x)) → Less (r >>= f) (s >>= g)
bind_room f g (equal {r = Ok x}) (room h) go within = go x h
bind_room f g (equal {r = Err e}) none go within = failing
bind_room f g (sunk {x = x} h) has go within = sunk_before h (within x)
bind_room f g failing has go within = failing

if_less : {A : Type 0} (t : Bool) {x y u v : Result (A × List Token) Fault} → Less x y → Less u v → Less (if t then x else u) (if t then y else v)
if_less true h k = h
if_less false h k = k

pub record Rooms (k : ℕ) (b : Readers) : Type 0 where
  pub expr : (ts : List Token) → Room k (b.expr ts)
  pub sum : (ts : List Token) → Room k (b.sum ts)
  pub product : (ts : List Token) → Room k (b.product ts)
  pub unary : (ts : List Token) → Room k (b.unary ts)
  pub opening : (ts : List Token) → Room k (b.opening ts)
  pub domain_rest : (p : Place) (ts : List Token) → Room k (b.domain_rest p ts)

pub all_rooms : (k : ℕ) → Rooms k (readers k)
unfolding readers
all_rooms zero = record { expr = λ ts. none; sum = λ ts. none; product = λ ts. none; unary = λ ts. none; opening = λ ts. none; domain_rest = λ p ts. none }
all_rooms (suc k) = record {
  expr = λ ts. some_room k _;
  sum = λ ts. some_room k _;
  product = λ ts. some_room k _;
  unary = λ ts. some_room k _;
  opening = λ ts. some_room k _;
  domain_rest = λ p ts. some_room k _;
}

-- ---- the readers of one level, and others with more

pub record Fewer (k : ℕ) (b c : Readers) : Type 0 where
  pub expr : (ts : List Token) → Less (b.expr ts) (c.expr ts)
  pub sum : (ts : List Token) → Less (b.sum ts) (c.sum ts)
  pub sum_tail : 0 < k → (a : Expression) (ts : List Token) → Less (b.sum_tail a ts) (c.sum_tail a ts)
  pub product : (ts : List Token) → Less (b.product ts) (c.product ts)
  pub product_tail : 0 < k → (a : Expression) (ts : List Token) → Less (b.product_tail a ts) (c.product_tail a ts)
  pub unary : (ts : List Token) → Less (b.unary ts) (c.unary ts)
  pub postfix_tail : (a : Expression) (ts : List Token) → Less (b.postfix_tail a ts) (c.postfix_tail a ts)
  pub opening : (ts : List Token) → Less (b.opening ts) (c.opening ts)
  pub domain_rest : (p : Place) (ts : List Token) → Less (b.domain_rest p ts) (c.domain_rest p ts)

module _ (k : ℕ) (b c : Readers) (has : Rooms k b) (g : WithinAll c) (s : Fewer k b c) where
  parenthesis_less : (ts : List Token) → Less (parenthesis_of b ts) (parenthesis_of c ts)
  unfolding parenthesis_of
  parenthesis_less ts = bind_less _ _ (s.expr ts) (λ e. equal) (λ e. bind_within _ (symbol_within (codes ")") e.1) (λ c. left (le_same _)))

  extreme_less : (z : Sign) (p : Place) (ts : List Token) → Less (extreme_of b z p ts) (extreme_of c z p ts)
  unfolding extreme_of
  extreme_less z p ts =
      bind_less _ _ (s.opening ts)
      (λ o. bind_less _ _ (s.expr o.1)
      (λ x. bind_less _ _ equal
      (λ q. bind_less _ _ (s.expr q.1) (λ y. equal)
      (λ y. bind_within _ (symbol_within (codes ")") y.1) (λ c. left (le_same _))))
      (λ q. bind_within _ (g.expr q.1) (λ y. bind_within _ (symbol_within (codes ")") y.1) (λ c. left (le_same _)))))
      (λ x. bind_within _ (symbol_within (codes ",") x.1) (λ q. bind_within _ (g.expr q.1) (λ y. bind_within _ (symbol_within (codes ")") y.1) (λ c. left (le_same _))))))
      (λ o. bind_within _ (g.expr o.1) (λ x. bind_within _ (symbol_within (codes ",") x.1) (λ q. bind_within _ (g.expr q.1) (λ y.
      bind_within _ (symbol_within (codes ")") y.1) (λ c. left (le_same _))))))

  branches_less : (m : ℕ) (ts : List Token) → Less (branches_of b m ts) (branches_of c m ts)
  unfolding branches_of
  branches_less zero ts = failing
  branches_less (suc m) ts =
      bind_less _ _ (s.expr ts)
      (λ e. bind_less {r = expect_symbol (codes ";") e.1} {s = expect_symbol (codes ";") e.1} _ _ equal
      (λ q. if_less (begins_word (codes "esac") q.1) equal (bind_less _ _ (branches_less m q.1) (λ es. equal) (λ es. left (le_same _))))
      (λ q. if_within (begins_word (codes "esac") q.1) (left (le_same _)) (bind_within _ (branches_within c g m q.1) (λ es. left (le_same _)))))
      (λ e. bind_within _ (symbol_within (codes ";") e.1) (λ q.
      if_within (begins_word (codes "esac") q.1) (left (le_same _)) (bind_within _ (branches_within c g m q.1) (λ es. left (le_same _)))))

  cases_less : (p : Place) (ts : List Token) → Less (cases_of b p ts) (cases_of c p ts)
  unfolding cases_of
  cases_less p ts =
      bind_less _ _ (branches_less (length ts) ts) (λ es. equal) (λ es. bind_within _ (expect_with_within kind.Reserved (codes "esac") es.1) (λ s. left (le_same _)))

  reduction_less : (p : Place) (ts : List Token) → Less (reduction_of b p ts) (reduction_of c p ts)
  unfolding reduction_of
  reduction_less p ts =
      bind_less _ _ (s.opening ts)
      (λ o. bind_less _ _ equal
      (λ f. bind_less _ _ equal
      (λ q. bind_less _ _ equal
      (λ m. bind_less _ _ equal
      (λ d. bind_less _ _ (s.expr d.1) (λ e. equal) (λ e. bind_within _ (symbol_within (codes ")") e.1) (λ y. left (le_same _))))
      (λ d. bind_within _ (g.expr d.1) (λ e. bind_within _ (symbol_within (codes ")") e.1) (λ y. left (le_same _)))))
      (λ m. bind_within _ (symbol_within (codes ",") m.1) (λ d. bind_within _ (g.expr d.1) (λ e. bind_within _ (symbol_within (codes ")") e.1) (λ y. left (le_same _))))))
      (λ q. bind_within _ (map_within q.1) (λ m. bind_within _ (symbol_within (codes ",") m.1) (λ d. bind_within _ (g.expr d.1) (λ e.
      bind_within _ (symbol_within (codes ")") e.1) (λ y. left (le_same _)))))))
      (λ f. bind_within _ (symbol_within (codes ",") f.1) (λ q. bind_within _ (map_within q.1) (λ m. bind_within _ (symbol_within (codes ",") m.1) (λ d.
      bind_within _ (g.expr d.1) (λ e. bind_within _ (symbol_within (codes ")") e.1) (λ y. left (le_same _))))))))
      (λ o. bind_within _ (op_within (op_at o.1) o.1) (λ f. bind_within _ (symbol_within (codes ",") f.1) (λ q. bind_within _ (map_within q.1) (λ m.
      bind_within _ (symbol_within (codes ",") m.1) (λ d. bind_within _ (g.expr d.1) (λ e. bind_within _ (symbol_within (codes ")") e.1) (λ y. left (le_same _))))))))

  pub primary_less : (ts : List Token) → Less (primary_of b ts) (primary_of c ts)
  unfolding primary_of
  primary_less ts =
      if_less (begins_symbol (codes "(") ts) (parenthesis_less (after ts))
      (if_less (begins_word (codes "min") ts) (extreme_less sign.Min (place_of ts) (after ts))
      (if_less (begins_word (codes "max") ts) (extreme_less sign.Max (place_of ts) (after ts))
      (if_less (begins_word (codes "case") ts) (cases_less (place_of ts) (after ts))
      (if_less (begins_word (codes "reduce") ts) (reduction_less (place_of ts) (after ts)) equal))))

  postfix_tail_less : (a : Expression) (ts : List Token) → Less (postfix_tail_of b a ts) (postfix_tail_of c a ts)
  unfolding postfix_tail_of
  postfix_tail_less a ts = if_less (begins_symbol (codes ".") ts) (bind_less _ _ equal (λ m. s.postfix_tail _ m.1) (λ m. g.postfix_tail _ m.1)) equal

  named_less : (name : Text) (p : Place) (ts : List Token) → Less (named_of b name p ts) (named_of c name p ts)
  unfolding named_of
  named_less name p ts =
      if_less (begins_symbol (codes "[") ts) (bind_less _ _ equal (λ a. postfix_tail_less a.0 a.1) (λ a. postfix_tail_within c g a.0 a.1))
      (if_less (begins_symbol (codes ".") ts) (bind_less _ _ equal (λ m. s.postfix_tail _ m.1) (λ m. g.postfix_tail _ m.1)) equal)

  numbered_less : (v : ℕ) (p : Place) (ts : List Token) → Less (numbered_of b v p ts) (numbered_of c v p ts)
  unfolding numbered_of
  numbered_less v p ts =
      bind_less {r = brackets_of ts} {s = brackets_of ts} _ _ equal
      (λ at. if_less (begins_symbol (codes ".") at.1) (bind_less _ _ equal (λ m. s.postfix_tail _ m.1) (λ m. g.postfix_tail _ m.1)) equal)
      (λ at. if_within (begins_symbol (codes ".") at.1) (bind_within _ (closer (map_within (after at.1)) (after_within at.1)) (λ m. g.postfix_tail _ m.1)) (left (le_same _)))

  postfix_less : (ts : List Token) → Less (postfix_of b ts) (postfix_of c ts)
  unfolding postfix_of
  postfix_less ts =
      if_less (begins kind.Name ts) (named_less (text_of ts) (place_of ts) (after ts))
      (if_less (begins kind.Number ts) (numbered_less (value_of ts) (place_of ts) (after ts))
      (bind_less _ _ (primary_less ts) (λ a. postfix_tail_less a.0 a.1) (λ a. postfix_tail_within c g a.0 a.1)))

  unary_less : (ts : List Token) → Less (unary_of b ts) (unary_of c ts)
  unfolding unary_of
  unary_less ts = if_less (begins_symbol (codes "-") ts) (bind_less _ _ (s.unary (after ts)) (λ e. equal) (λ e. left (le_same _))) (postfix_less ts)

  product_tail_less : (a : Expression) (ts : List Token) → Less (product_tail_of b a ts) (product_tail_of c a ts)
  unfolding product_tail_of
  product_tail_less a ts =
      if_less (begins_symbol (codes "*") ts) (bind_room _ _ (s.unary (after ts)) (has.unary (after ts)) (λ e some. s.product_tail some _ e.1) (λ e. g.product_tail _ e.1)) equal

  product_less : (ts : List Token) → Less (product_of b ts) (product_of c ts)
  unfolding product_of
  product_less ts = bind_less _ _ (unary_less ts) (λ a. product_tail_less a.0 a.1) (λ a. product_tail_within c g a.0 a.1)

  sum_tail_by_less : (o : Option Sign) (a : Expression) (ts : List Token) → Less (sum_tail_by b o a ts) (sum_tail_by c o a ts)
  unfolding sum_tail_by
  sum_tail_by_less None a ts = equal
  sum_tail_by_less (Some z) a ts = bind_room _ _ (s.product (after ts)) (has.product (after ts)) (λ e some. s.sum_tail some _ e.1) (λ e. g.sum_tail _ e.1)

  sum_tail_less : (a : Expression) (ts : List Token) → Less (sum_tail_of b a ts) (sum_tail_of c a ts)
  unfolding sum_tail_of
  sum_tail_less a ts = sum_tail_by_less (sign_at ts) a ts

  sum_less : (ts : List Token) → Less (sum_of b ts) (sum_of c ts)
  unfolding sum_of
  sum_less ts = bind_less _ _ (product_less ts) (λ a. sum_tail_less a.0 a.1) (λ a. sum_tail_within c g a.0 a.1)

  choice_less : (p : Place) (ts : List Token) → Less (choice_of b p ts) (choice_of c p ts)
  unfolding choice_of
  choice_less p ts =
      bind_less _ _ (s.sum ts)
      (λ x. bind_less _ _ equal
      (λ r. bind_less _ _ (s.sum r.1)
      (λ y. bind_less _ _ equal
      (λ t. bind_less _ _ (s.expr t.1)
      (λ p. bind_less _ _ equal
      (λ z. bind_less _ _ (s.expr z.1) (λ q. equal) (λ q. left (le_same _)))
      (λ z. bind_within _ (g.expr z.1) (λ q. left (le_same _))))
      (λ p. bind_within _ (expect_with_within kind.Reserved (codes "else") p.1) (λ z. bind_within _ (g.expr z.1) (λ q. left (le_same _)))))
      (λ t. bind_within _ (g.expr t.1) (λ p. bind_within _ (expect_with_within kind.Reserved (codes "else") p.1) (λ z. bind_within _ (g.expr z.1) (λ q. left (le_same _))))))
      (λ y. bind_within _ (expect_with_within kind.Reserved (codes "then") y.1) (λ t. bind_within _ (g.expr t.1) (λ p.
      bind_within _ (expect_with_within kind.Reserved (codes "else") p.1) (λ z. bind_within _ (g.expr z.1) (λ q. left (le_same _)))))))
      (λ r. bind_within _ (g.sum r.1) (λ y. bind_within _ (expect_with_within kind.Reserved (codes "then") y.1) (λ t. bind_within _ (g.expr t.1) (λ p.
      bind_within _ (expect_with_within kind.Reserved (codes "else") p.1) (λ z. bind_within _ (g.expr z.1) (λ q. left (le_same _))))))))
      (λ x. bind_within _ (relation_within (compare_at x.1) x.1) (λ r. bind_within _ (g.sum r.1) (λ y.
      bind_within _ (expect_with_within kind.Reserved (codes "then") y.1) (λ t. bind_within _ (g.expr t.1) (λ p.
      bind_within _ (expect_with_within kind.Reserved (codes "else") p.1) (λ z. bind_within _ (g.expr z.1) (λ q. left (le_same _))))))))

  restriction_less : (p : Place) (ts : List Token) → Less (restriction_of b p ts) (restriction_of c p ts)
  unfolding restriction_of
  restriction_less p ts =
      bind_less _ _ (s.domain_rest p ts)
      (λ d. bind_less _ _ equal
      (λ q. bind_less _ _ (s.expr q.1) (λ e. equal) (λ e. left (le_same _)))
      (λ q. bind_within _ (g.expr q.1) (λ e. left (le_same _))))
      (λ d. bind_within _ (symbol_within (codes ":") d.1) (λ q. bind_within _ (g.expr q.1) (λ e. left (le_same _))))

  expr_less : (ts : List Token) → Less (expr_of b ts) (expr_of c ts)
  unfolding expr_of
  expr_less ts = if_less (begins_symbol (codes "{") ts) (restriction_less (place_of ts) (after ts)) (if_less (begins_word (codes "if") ts) (choice_less (place_of ts) (after ts)) (sum_less ts))

-- ---- where no level is left

primary_opens : {n : ℕ} {ts rest : List Token} {e : Expression} → IsPrimary n ts rest e → begins_unary ts ≡ true
primary_opens (indexed {x = x} {o = o} {ts = ts} is p es c) = known (λ z. begins_unary (z ∷ o ∷ ts) ≡ true) x (is, refl) refl
primary_opens (parenthesis {o = o} {ts = ts} is e c) = known (λ z. begins_unary (z ∷ ts) ≡ true) o is refl
primary_opens (least {w = w} {o = o} {ts = ts} is p a q b c) = known (λ z. begins_unary (z ∷ o ∷ ts) ≡ true) w is refl
primary_opens (greatest {w = w} {o = o} {ts = ts} is p a q b c) = known (λ z. begins_unary (z ∷ o ∷ ts) ≡ true) w is refl
primary_opens (case_of {w = w} {ts = ts} is es s) = known (λ z. begins_unary (z ∷ ts) ≡ true) w is refl
primary_opens (reduced {w = w} {o = o} {f = f} {q = q} {ts = ts} is p f_is q_is m p_is e c) = known (λ z. begins_unary (z ∷ o ∷ f ∷ q ∷ ts) ≡ true) w is refl

postfix_opens : {n : ℕ} {ts rest : List Token} {e : Expression} → IsPostfix n ts rest e → begins_unary ts ≡ true
postfix_opens (bare {x = x} {rest = rest} is) = known (λ z. begins_unary (z ∷ rest) ≡ true) x (is, refl) refl
postfix_opens (bare_mapped {x = x} {d = d} {ts = ts} is dot m t) = known (λ z. begins_unary (z ∷ d ∷ ts) ≡ true) x (is, refl) refl
postfix_opens (number {x = x} {ts = ts} is at) = known (λ z. begins_unary (z ∷ ts) ≡ true) x (is, refl) refl
postfix_opens (number_mapped {x = x} {ts = ts} is at dot m t) = known (λ z. begins_unary (z ∷ ts) ≡ true) x (is, refl) refl
postfix_opens (primary p t) = primary_opens p

pub unary_opens : {n : ℕ} {ts rest : List Token} {e : Expression} → IsUnary n ts rest e → begins_unary ts ≡ true
unary_opens (negative {m = m} {ts = ts} is u) = known (λ z. begins_unary (z ∷ ts) ≡ true) m is refl
unary_opens (postfix p) = postfix_opens p

pub product_opens : {n : ℕ} {ts rest : List Token} {e : Expression} → IsProduct n ts rest e → begins_unary ts ≡ true
product_opens (product u t) = unary_opens u

pub sum_opens : {n : ℕ} {ts rest : List Token} {e : Expression} → IsSum n ts rest e → begins_unary ts ≡ true
sum_opens (sum p t) = product_opens p

pub expr_opens : {n : ℕ} {ts rest : List Token} {e : Expression} → IsExpr n ts rest e → begins_expr ts ≡ true
expr_opens (restricted (domain {o = o} {ts = ts} is names bounds c) colon e) = known (λ z. begins_expr (z ∷ ts) ≡ true) o is refl
expr_opens (chosen {i = i} {t0 = t0} is a q b t x s y) = known (λ z. begins_expr (z ∷ t0) ≡ true) i is refl
expr_opens (plain s) = rw (sum_opens s) (or_true _)

conditions_open : {ts rest : List Token} {c : Token} {cs : List Constraint} → IsConditions ts (c ∷ rest) cs → IsSymbol (codes "}") c → begins_domain_rest ts ≡ true
conditions_open {rest = rest} {c = c} no_bar is = known (λ z. begins_domain_rest (z ∷ rest) ≡ true) c is refl
conditions_open {rest = rest} {c = c} (bar {b = b} is) close = known (λ z. begins_domain_rest (z ∷ c ∷ rest) ≡ true) b is refl
conditions_open (conditions {b = b} {ts = ts} is cs) close = known (λ z. begins_domain_rest (z ∷ ts) ≡ true) b is refl

-- behind its "{" a domain has a token that may stand there
pub domain_opens : {o : Token} {ts rest : List Token} {d : DomainText} → IsDomain (o ∷ ts) rest d → (begins_domain_rest ts ≡ true) × (length rest < length ts)
domain_opens (domain is (no_names) bounds close) = let h = conditions_take bounds in (conditions_open bounds close, omega arith)
domain_opens (domain is (some_names names) bounds close) = let h = names_take names in let g = conditions_take bounds in (names_open names, omega arith)
  where
    names_open : {ts rest xs : List Token} → IsNames ts rest xs → begins_domain_rest ts ≡ true
    names_open (last_name {x = x} {rest = rest} is) = known (λ z. begins_domain_rest (z ∷ rest) ≡ true) x (is, refl) refl
    names_open (more_names {x = x} {c = c} {ts = ts} is comma others) = known (λ z. begins_domain_rest (z ∷ c ∷ ts) ≡ true) x (is, refl) refl

deep_sunk : {A : Type 0} {x : A × List Token} (t : Bool) (ts : List Token) → t ≡ true → length x.1 < length ts → Less (too_deep t ts) (Ok x)
unfolding deep_fault
deep_sunk true ts e h = sunk h
deep_sunk false ts e h = absurd cc

deep_less : {A : Type 0} {P : A × List Token → Type 0} {r : Result (A × List Token) Fault} (t : Bool) (ts : List Token) → Holds P r
    → ((x : A × List Token) → P x → (t ≡ true) × (length x.1 < length ts)) → Less (too_deep t ts) r
deep_less t ts (fine {x = x} p) go = let h = go x p in deep_sunk t ts h.0 h.1
deep_less t ts failed go = failing

postfix_tail_none : (m : ℕ) (a : Expression) (ts : List Token) → Less ((readers zero).postfix_tail a ts) ((readers m).postfix_tail a ts)
unfolding readers postfix_tail_of deep_fault
postfix_tail_none zero a ts = equal
postfix_tail_none (suc m) a [] = equal
postfix_tail_none (suc m) a (x ∷ ts) =
    if_less (begins_symbol (codes ".") (x ∷ ts)) (sunk_before {n = length ts} (omega arith) (bind_within _ (map_within ts) (λ m'. (all_within m).postfix_tail _ m'.1))) equal

opening_none : (m : ℕ) (ts : List Token) → Less ((readers zero).opening ts) ((readers m).opening ts)
unfolding readers expect_with deep_fault
opening_none zero ts = equal
opening_none (suc m) [] = failing
opening_none (suc m) (x ∷ ts) = by_test (same x.kind kind.Symbol && bytes_eq x.text (codes "("))
  where
    by_test : (t : Bool) → Less (too_deep t (x ∷ ts)) (if t then Ok (x, ts) else syntax (x ∷ ts))
    by_test true = sunk (omega arith)
    by_test false = failing

domain_rest_none : (m : ℕ) (p : Place) (ts : List Token) → Less ((readers zero).domain_rest p ts) ((readers m).domain_rest p ts)
unfolding readers
domain_rest_none zero p ts = equal
domain_rest_none (suc m) p ts =
    deep_less (begins_domain_rest ts) ts ((all_sound (suc m)).domain_rest (record { kind = kind.Symbol; text = codes "{"; place = p }) ts (refl, refl)) (λ x is. domain_opens is)

none_fewer : (m : ℕ) → Fewer zero (readers zero) (readers m)
unfolding readers
none_fewer m =
    let s = all_sound m in
    record {
      expr = λ ts. deep_less (begins_expr ts) ts (s.expr ts) (λ x is. (expr_opens is, expr_takes is));
      sum = λ ts. deep_less (begins_unary ts) ts (s.sum ts) (λ x is. (sum_opens is, sum_takes is));
      sum_tail = λ some a ts. absurd (omega arith);
      product = λ ts. deep_less (begins_unary ts) ts (s.product ts) (λ x is. (product_opens is, product_takes is));
      product_tail = λ some a ts. absurd (omega arith);
      unary = λ ts. deep_less (begins_unary ts) ts (s.unary ts) (λ x is. (unary_opens is, unary_takes is));
      postfix_tail = λ a ts. postfix_tail_none m a ts;
      opening = λ ts. opening_none m ts;
      domain_rest = λ p ts. domain_rest_none m p ts;
    }

-- ---- any number of levels

pub all_fewer : (k m : ℕ) → k ≤ m → Fewer k (readers k) (readers m)
unfolding readers
all_fewer zero m h = none_fewer m
all_fewer (suc k) zero h = absurd (omega arith)
all_fewer (suc k) (suc m) h =
    let s = all_fewer k m (omega arith) in
    let has = all_rooms k in
    let g = all_within m in
    record {
      expr = λ ts. expr_less k (readers k) (readers m) has g s ts;
      sum = λ ts. sum_less k (readers k) (readers m) has g s ts;
      sum_tail = λ some a ts. sum_tail_less k (readers k) (readers m) has g s a ts;
      product = λ ts. product_less k (readers k) (readers m) has g s ts;
      product_tail = λ some a ts. product_tail_less k (readers k) (readers m) has g s a ts;
      unary = λ ts. unary_less k (readers k) (readers m) has g s ts;
      postfix_tail = λ a ts. postfix_tail_less k (readers k) (readers m) has g s a ts;
      opening = λ ts. equal;
      domain_rest = λ p ts. equal;
    }

-- ---- what is spelled

-- it is read up to mid, or there is a fault of depth before
pub data Spelt {A : Type 0} (k : ℕ) (mid : List Token) : Result (A × List Token) Fault → Type 0 where
  got : {a : A} → 0 < k → Spelt k mid (Ok (a, mid))
  drowned : {m : ℕ} → length mid < m → Spelt k mid (Err (Depth m))

spelt_of : {A : Type 0} {k : ℕ} {a : A} {mid : List Token} {r s : Result (A × List Token) Fault} → Less r s → s ≡ Ok (a, mid) → Room k r → Spelt k mid r
spelt_of {A = A} {k = k} {a = a} {mid = mid} {r = r} h e has = here (subst (λ z. Less r z) e h) has
  where
    here : {A : Type 0} {k : ℕ} {a : A} {mid : List Token} {r : Result (A × List Token) Fault} → Less r (Ok (a, mid)) → Room k r → Spelt k mid r
    here equal (room h) = got h
    here (sunk h) has = drowned h

pub expr_spelt : (k : ℕ) {j : ℕ} {ts mid : List Token} {e : Expression} → IsExpr j ts mid e → EndsSum mid → Spelt k mid ((readers k).expr ts)
expr_spelt k {j = j} {ts = ts} {mid = mid} {e = e} is ends =
    spelt_of ((all_fewer k (k + j) (omega arith)).expr ts) (expr_complete (climbed (λ n. IsExpr n ts mid e) (λ n p. lift_expr p) k j is) ends) ((all_rooms k).expr ts)

pub sum_spelt : (k : ℕ) {j : ℕ} {ts mid : List Token} {e : Expression} → IsSum j ts mid e → EndsSum mid → Spelt k mid ((readers k).sum ts)
sum_spelt k {j = j} {ts = ts} {mid = mid} {e = e} is ends =
    spelt_of ((all_fewer k (k + j) (omega arith)).sum ts) (sum_complete (climbed (λ n. IsSum n ts mid e) (λ n p. lift_sum p) k j is) ends) ((all_rooms k).sum ts)

pub product_spelt : (k : ℕ) {j : ℕ} {ts mid : List Token} {e : Expression} → IsProduct j ts mid e → EndsProduct mid → Spelt k mid ((readers k).product ts)
product_spelt k {j = j} {ts = ts} {mid = mid} {e = e} is ends =
    spelt_of ((all_fewer k (k + j) (omega arith)).product ts) (product_complete (climbed (λ n. IsProduct n ts mid e) (λ n p. lift_product p) k j is) ends) ((all_rooms k).product ts)

pub unary_spelt : (k : ℕ) {j : ℕ} {ts mid : List Token} {e : Expression} → IsUnary j ts mid e → EndsPostfix mid → Spelt k mid ((readers k).unary ts)
unary_spelt k {j = j} {ts = ts} {mid = mid} {e = e} is ends =
    spelt_of ((all_fewer k (k + j) (omega arith)).unary ts) (unary_complete (climbed (λ n. IsUnary n ts mid e) (λ n p. lift_unary p) k j is) ends) ((all_rooms k).unary ts)

pub opening_spelt : (k : ℕ) (o : Token) (ts : List Token) → IsSymbol (codes "(") o → Spelt k ts ((readers k).opening (o ∷ ts))
unfolding readers deep_fault
opening_spelt zero o ts is = rw (symbol_yes (codes "(") o ts is) (drowned {m = length (o ∷ ts)} (omega arith))
opening_spelt (suc k) o ts is = rw (symbol_gives (codes "(") o ts is) (got (omega arith))

pub domain_rest_spelt : (k : ℕ) {o : Token} {ts mid : List Token} {d : DomainText} → IsDomain (o ∷ ts) mid d → Spelt k mid ((readers k).domain_rest o.place ts)
unfolding readers deep_fault
domain_rest_spelt zero {ts = ts} is = let h = domain_opens is in let less = h.1 in rw h.0 (drowned {m = length ts} (omega arith))
domain_rest_spelt (suc k) {o = o} is = let h = domain_rest_complete is in rw h.2 (got (omega arith))

-- the readers of the level around
pub product_of_spelt : (k : ℕ) {j : ℕ} {ts mid : List Token} {e : Expression} → IsProduct j ts mid e → EndsProduct mid → Spelt (suc k) mid (product_of (readers k) ts)
unfolding readers
product_of_spelt k is ends = product_spelt (suc k) is ends

pub unary_of_spelt : (k : ℕ) {j : ℕ} {ts mid : List Token} {e : Expression} → IsUnary j ts mid e → EndsPostfix mid → Spelt (suc k) mid (unary_of (readers k) ts)
unfolding readers
unary_of_spelt k is ends = unary_spelt (suc k) is ends
