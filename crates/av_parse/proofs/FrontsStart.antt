-- How fronts of expressions begin, where a token of them came.
use Rattle.std.proofs.Common.{◌≡◌, ℕ, true, false, List, ◌∷◌, refl, inl, inr, ◌⊎◌}
use Rattle.std.specs.Prelude.{codes}
use Rattle.av_base.specs.Tokens.{Token}
use Rattle.av_tree.specs.declared.domain.DomainText.{DomainText}
use Rattle.av_tree.specs.Trees.{Expression}
use Rattle.av_tree.specs.Parts.{IsName, IsNumber, IsSymbol, IsReserved}
use Rattle.av_tree.specs.IndexGrammar.{domain, IsDomain}
use Rattle.av_tree.specs.ExpressionGrammar as whole
use Rattle.av_tree.specs.ExpressionGrammar.{IsProduct, IsUnary, IsPostfix, IsPrimary}
use Rattle.av_tree.specs.FrontsParts as parts
use Rattle.av_tree.specs.FrontsParts.{Meant, MayWait, FrontToken, IsSign, plus_sign, minus_sign, IsExtreme, least_word, greatest_word}
use Rattle.av_tree.specs.FrontsExpression as fronts
use Rattle.av_tree.specs.FrontsExpression.{FrontExpr, FrontSum, FrontSumTail, FrontProduct, FrontProductTail, FrontUnary, FrontPostfix, FrontPostfixTail, FrontPrimary, FrontBranches}
use Rattle.av_parse.specs.inner.Reader.{begins_symbol, begins_word}
use Rattle.av_parse.specs.inner.ExpressionReader.{begins_unary, begins_expr}
use Rattle.av_parse.proofs.Follow.{known}
use Rattle.av_parse.proofs.CompleteExpression.{EndsPostfix, EndsProduct, expr_begins}
use Rattle.av_base.proofs.Truths.{or_true}

-- ---- what follows a whole part

sign_ends : (p : Token) (ts : List Token) → IsSign p → EndsProduct (p ∷ ts)
sign_ends p ts (plus_sign is) = known (λ z. EndsProduct (z ∷ ts)) p is ((refl, refl), refl)
sign_ends p ts (minus_sign is) = known (λ z. EndsProduct (z ∷ ts)) p is ((refl, refl), refl)

pub sum_tail_start : {w : Meant} {n : ℕ} {ts r : List Token} → FrontSumTail w n ts r → ((r ≡ ts) × MayWait w) ⊎ EndsProduct ts
sum_tail_start (fronts.no_sign_yet wait) = inl (refl, wait)
sum_tail_start (fronts.at_sign (parts.not_yet wait)) = inl (refl, wait)
sum_tail_start (fronts.at_sign (parts.came {x = p} {ts = ts} is e)) = inr (sign_ends p ts is)
sum_tail_start (fronts.in_addend {p = p} {ts = ts} is h) = inr (sign_ends p ts is)
sum_tail_start (fronts.past_addend {p = p} {ts = ts} is part h) = inr (sign_ends p ts is)

times_ends : (p : Token) (ts : List Token) → IsSymbol (codes "*") p → EndsPostfix (p ∷ ts)
times_ends p ts is = known (λ z. EndsPostfix (z ∷ ts)) p is (refl, refl)

pub product_tail_start : {w : Meant} {n : ℕ} {ts r : List Token} → FrontProductTail w n ts r → ((r ≡ ts) × MayWait w) ⊎ EndsPostfix ts
product_tail_start (fronts.no_times_yet wait) = inl (refl, wait)
product_tail_start (fronts.at_times (parts.not_yet wait)) = inl (refl, wait)
product_tail_start (fronts.at_times (parts.came {x = p} {ts = ts} is e)) = inr (times_ends p ts is)
product_tail_start (fronts.in_factor {p = p} {ts = ts} is h) = inr (times_ends p ts is)
product_tail_start (fronts.past_factor {p = p} {ts = ts} is part h) = inr (times_ends p ts is)

dot_ends : (d : Token) (ts : List Token) → IsSymbol (codes ".") d → begins_symbol (codes "[") (d ∷ ts) ≡ false
dot_ends d ts is = known (λ z. begins_symbol (codes "[") (z ∷ ts) ≡ false) d is refl

pub postfix_tail_start : {w : Meant} {n : ℕ} {ts r : List Token} → FrontPostfixTail w n ts r → ((r ≡ ts) × MayWait w) ⊎ (begins_symbol (codes "[") ts ≡ false)
postfix_tail_start (fronts.no_dot_yet wait) = inl (refl, wait)
postfix_tail_start (fronts.at_dot (parts.not_yet wait)) = inl (refl, wait)
postfix_tail_start (fronts.at_dot (parts.came {x = d} {ts = ts} is e)) = inr (dot_ends d ts is)
postfix_tail_start (fronts.in_map {d = d} {ts = ts} is h) = inr (dot_ends d ts is)
postfix_tail_start (fronts.past_map {d = d} {ts = ts} is map h) = inr (dot_ends d ts is)

-- ---- the first token

-- a sum may begin so, and no restriction, no choice and no end of a case does
abbrev pub Opens : List Token → Type 0
Opens ts = (begins_unary ts ≡ true) × (begins_symbol (codes "{") ts ≡ false) × (begins_word (codes "if") ts ≡ false) × (begins_word (codes "esac") ts ≡ false)

-- nor does a minus
abbrev pub OpensPostfix : List Token → Type 0
OpensPostfix ts = Opens ts × (begins_symbol (codes "-") ts ≡ false)

name_opens : (x : Token) (ts : List Token) → IsName x → OpensPostfix (x ∷ ts)
name_opens x ts is = known (λ z. OpensPostfix (z ∷ ts)) x (is, refl) ((refl, refl, refl, refl), refl)

number_opens : (x : Token) (ts : List Token) → IsNumber x → OpensPostfix (x ∷ ts)
number_opens x ts is = known (λ z. OpensPostfix (z ∷ ts)) x (is, refl) ((refl, refl, refl, refl), refl)

parenthesis_opens : (x : Token) (ts : List Token) → IsSymbol (codes "(") x → OpensPostfix (x ∷ ts)
parenthesis_opens x ts is = known (λ z. OpensPostfix (z ∷ ts)) x is ((refl, refl, refl, refl), refl)

extreme_opens : (x : Token) (ts : List Token) → IsExtreme x → OpensPostfix (x ∷ ts)
extreme_opens x ts (least_word is) = known (λ z. OpensPostfix (z ∷ ts)) x is ((refl, refl, refl, refl), refl)
extreme_opens x ts (greatest_word is) = known (λ z. OpensPostfix (z ∷ ts)) x is ((refl, refl, refl, refl), refl)

case_opens : (x : Token) (ts : List Token) → IsReserved (codes "case") x → OpensPostfix (x ∷ ts)
case_opens x ts is = known (λ z. OpensPostfix (z ∷ ts)) x is ((refl, refl, refl, refl), refl)

reduce_opens : (x : Token) (ts : List Token) → IsReserved (codes "reduce") x → OpensPostfix (x ∷ ts)
reduce_opens x ts is = known (λ z. OpensPostfix (z ∷ ts)) x is ((refl, refl, refl, refl), refl)

minus_opens : (x : Token) (ts : List Token) → IsSymbol (codes "-") x → Opens (x ∷ ts)
minus_opens x ts is = known (λ z. Opens (z ∷ ts)) x is (refl, refl, refl, refl)

token_start : {w : Meant} {n : ℕ} {Is : Token → Type 0} {ts r : List Token} (P : List Token → Type 0) → ((x : Token) (rest : List Token) → Is x → P (x ∷ rest))
    → FrontToken w n Is ts r → ((r ≡ ts) × MayWait w) ⊎ P ts
token_start P go (parts.not_yet wait) = inl (refl, wait)
token_start P go (parts.came {x = x} {ts = ts} is e) = inr (go x ts is)

whole_primary : {k : ℕ} {ts rest : List Token} {e : Expression} → IsPrimary k ts rest e → OpensPostfix ts
whole_primary (whole.indexed {x = x} {o = o} {ts = ts} is p es c) = name_opens x (o ∷ ts) is
whole_primary (whole.parenthesis {o = o} {ts = ts} is e c) = parenthesis_opens o ts is
whole_primary (whole.least {w = x} {o = o} {ts = ts} is p a q b c) = extreme_opens x (o ∷ ts) (least_word is)
whole_primary (whole.greatest {w = x} {o = o} {ts = ts} is p a q b c) = extreme_opens x (o ∷ ts) (greatest_word is)
whole_primary (whole.case_of {w = x} {ts = ts} is es s) = case_opens x ts is
whole_primary (whole.reduced {w = x} {o = o} {f = f} {q = q} {ts = ts} is p f_is q_is m p_is e c) = reduce_opens x (o ∷ f ∷ q ∷ ts) is

whole_postfix : {k : ℕ} {ts rest : List Token} {e : Expression} → IsPostfix k ts rest e → OpensPostfix ts
whole_postfix (whole.bare {x = x} {rest = rest} is) = name_opens x rest is
whole_postfix (whole.bare_mapped {x = x} {d = d} {ts = ts} is dot m t) = name_opens x (d ∷ ts) is
whole_postfix (whole.number {x = x} {ts = ts} is at) = number_opens x ts is
whole_postfix (whole.number_mapped {x = x} {ts = ts} is at dot m t) = number_opens x ts is
whole_postfix (whole.primary p t) = whole_primary p

whole_unary : {k : ℕ} {ts rest : List Token} {e : Expression} → IsUnary k ts rest e → Opens ts
whole_unary (whole.negative {m = m} {ts = ts} is u) = minus_opens m ts is
whole_unary (whole.postfix p) = (whole_postfix p).0

whole_product : {k : ℕ} {ts rest : List Token} {e : Expression} → IsProduct k ts rest e → Opens ts
whole_product (whole.product u t) = whole_unary u

primary_start : {w : Meant} {n : ℕ} {ts r : List Token} → FrontPrimary w n ts r → ((r ≡ ts) × MayWait w) ⊎ OpensPostfix ts
primary_start (fronts.at_number h) = token_start OpensPostfix number_opens h
primary_start (fronts.in_brackets {x = x} {ts = ts} is a1) = inr (number_opens x ts is)
primary_start (fronts.at_name h) = token_start OpensPostfix name_opens h
primary_start (fronts.at_bracket {x = x} {ts = ts} is a1) = inr (name_opens x ts is)
primary_start (fronts.in_indices {x = x} {o = o} {ts = ts} is a1 a2) = inr (name_opens x (o ∷ ts) is)
primary_start (fronts.at_bracket_close {x = x} {o = o} {ts = ts} is a1 a2 a3) = inr (name_opens x (o ∷ ts) is)
primary_start (fronts.at_parenthesis h) = token_start OpensPostfix parenthesis_opens h
primary_start (fronts.in_parenthesis {o = o} {ts = ts} is a1) = inr (parenthesis_opens o ts is)
primary_start (fronts.at_parenthesis_close {o = o} {ts = ts} is a1 a2) = inr (parenthesis_opens o ts is)
primary_start (fronts.at_extreme h) = token_start OpensPostfix extreme_opens h
primary_start (fronts.at_extreme_open {x = x} {ts = ts} is a1) = inr (extreme_opens x ts is)
primary_start (fronts.in_one {x = x} {o = o} {ts = ts} is a1 a2) = inr (extreme_opens x (o ∷ ts) is)
primary_start (fronts.at_extreme_comma {x = x} {o = o} {ts = ts} is a1 a2 a3) = inr (extreme_opens x (o ∷ ts) is)
primary_start (fronts.in_other {x = x} {o = o} {ts = ts} is a1 a2 a3 a4) = inr (extreme_opens x (o ∷ ts) is)
primary_start (fronts.at_extreme_close {x = x} {o = o} {ts = ts} is a1 a2 a3 a4 a5) = inr (extreme_opens x (o ∷ ts) is)
primary_start (fronts.at_case h) = token_start OpensPostfix case_opens h
primary_start (fronts.in_case {x = x} {ts = ts} is a1) = inr (case_opens x ts is)
primary_start (fronts.at_esac {x = x} {ts = ts} is a1 a2) = inr (case_opens x ts is)
primary_start (fronts.at_reduce h) = token_start OpensPostfix reduce_opens h
primary_start (fronts.at_reduce_open {x = x} {ts = ts} is a1) = inr (reduce_opens x ts is)
primary_start (fronts.at_op {x = x} {o = o} {ts = ts} is a1 a2) = inr (reduce_opens x (o ∷ ts) is)
primary_start (fronts.at_op_comma {x = x} {o = o} {f = f} {ts = ts} is a1 a2 a3) = inr (reduce_opens x (o ∷ f ∷ ts) is)
primary_start (fronts.in_projection {x = x} {o = o} {f = f} {q = q} {ts = ts} is a1 a2 a3 a4) = inr (reduce_opens x (o ∷ f ∷ q ∷ ts) is)
primary_start (fronts.at_projection_comma {x = x} {o = o} {f = f} {q = q} {ts = ts} is a1 a2 a3 a4 a5) = inr (reduce_opens x (o ∷ f ∷ q ∷ ts) is)
primary_start (fronts.in_body {x = x} {o = o} {f = f} {q = q} {ts = ts} is a1 a2 a3 a4 a5 a6) = inr (reduce_opens x (o ∷ f ∷ q ∷ ts) is)
primary_start (fronts.at_reduce_close {x = x} {o = o} {f = f} {q = q} {ts = ts} is a1 a2 a3 a4 a5 a6 a7) = inr (reduce_opens x (o ∷ f ∷ q ∷ ts) is)

pub postfix_start : {w : Meant} {n : ℕ} {ts r : List Token} → FrontPostfix w n ts r → ((r ≡ ts) × MayWait w) ⊎ OpensPostfix ts
postfix_start (fronts.in_primary h) = primary_start h
postfix_start (fronts.past_name {x = x} {ts = ts} is h) = inr (name_opens x ts is)
postfix_start (fronts.past_number {x = x} {ts = ts} is around h) = inr (number_opens x ts is)
postfix_start (fronts.past_primary p h) = inr (whole_primary p)

-- something came, so a sum begins
opened : (w : Meant) {ts r : List Token} → ((r ≡ ts) × MayWait w) ⊎ OpensPostfix ts → ((r ≡ ts) × MayWait w) ⊎ Opens ts
opened w (inl e) = inl e
opened w (inr h) = inr h.0

pub unary_start : {w : Meant} {n : ℕ} {ts r : List Token} → FrontUnary w n ts r → ((r ≡ ts) × MayWait w) ⊎ Opens ts
unary_start (fronts.at_minus h) = token_start Opens minus_opens h
unary_start (fronts.past_minus {m = m} {ts = ts} is h) = inr (minus_opens m ts is)
unary_start (fronts.in_postfix h) = opened _ (postfix_start h)

pub product_start : {w : Meant} {n : ℕ} {ts r : List Token} → FrontProduct w n ts r → ((r ≡ ts) × MayWait w) ⊎ Opens ts
product_start (fronts.in_unary h) = unary_start h
product_start (fronts.past_unary u h) = inr (whole_unary u)

pub sum_start : {w : Meant} {n : ℕ} {ts r : List Token} → FrontSum w n ts r → ((r ≡ ts) × MayWait w) ⊎ Opens ts
sum_start (fronts.in_product h) = product_start h
sum_start (fronts.past_product p h) = inr (whole_product p)

-- an expression begins so, and no end of a case does
abbrev pub OpensExpr : List Token → Type 0
OpensExpr ts = (begins_expr ts ≡ true) × (begins_word (codes "esac") ts ≡ false)

brace_opens : (x : Token) (ts : List Token) → IsSymbol (codes "{") x → OpensExpr (x ∷ ts)
brace_opens x ts is = known (λ z. OpensExpr (z ∷ ts)) x is (refl, refl)

if_opens : (x : Token) (ts : List Token) → IsReserved (codes "if") x → OpensExpr (x ∷ ts)
if_opens x ts is = known (λ z. OpensExpr (z ∷ ts)) x is (refl, refl)

sum_opens : (w : Meant) {ts r : List Token} → ((r ≡ ts) × MayWait w) ⊎ Opens ts → ((r ≡ ts) × MayWait w) ⊎ OpensExpr ts
sum_opens w (inl e) = inl e
sum_opens w (inr h) = inr (rw h.0 (or_true _), h.3)

domain_opens : {ts rest : List Token} {d : DomainText} → IsDomain ts rest d → OpensExpr ts
domain_opens (domain {o = o} {ts = ts} is names bounds c) = brace_opens o ts is

pub expr_start : {w : Meant} {n : ℕ} {ts r : List Token} → FrontExpr w n ts r → ((r ≡ ts) × MayWait w) ⊎ OpensExpr ts
expr_start (fronts.at_brace h) = token_start OpensExpr brace_opens h
expr_start (fronts.in_domain {o = o} {ts = ts} is h) = inr (brace_opens o ts is)
expr_start (fronts.at_colon d h) = inr (domain_opens d)
expr_start (fronts.in_restricted d c h) = inr (domain_opens d)
expr_start (fronts.at_if h) = token_start OpensExpr if_opens h
expr_start (fronts.in_left {i = i} {ts = ts} is a1) = inr (if_opens i ts is)
expr_start (fronts.at_compare {i = i} {t0 = ts} is a1 a2) = inr (if_opens i ts is)
expr_start (fronts.in_right {i = i} {t0 = ts} is a1 a2 a3) = inr (if_opens i ts is)
expr_start (fronts.at_then {i = i} {t0 = ts} is a1 a2 a3 a4) = inr (if_opens i ts is)
expr_start (fronts.in_yes {i = i} {t0 = ts} is a1 a2 a3 a4 a5) = inr (if_opens i ts is)
expr_start (fronts.at_else {i = i} {t0 = ts} is a1 a2 a3 a4 a5 a6) = inr (if_opens i ts is)
expr_start (fronts.in_no {i = i} {t0 = ts} is a1 a2 a3 a4 a5 a6 a7) = inr (if_opens i ts is)
expr_start (fronts.in_sum h) = sum_opens _ (sum_start h)

pub branches_start : {w : Meant} {n : ℕ} {ts r : List Token} → FrontBranches w n ts r → ((r ≡ ts) × MayWait w) ⊎ (begins_word (codes "esac") ts ≡ false)
branches_start (fronts.in_branch h) = elim (expr_start h) [ inl e ↦ inl e | inr o ↦ inr o.1 ]
branches_start (fronts.at_semicolon is h) = inr (expr_begins is)
branches_start (fronts.past_semicolon is s h) = inr (expr_begins is)
