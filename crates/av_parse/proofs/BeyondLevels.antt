-- No front of an expression goes beyond where its reader stops, whatever levels it has.
use Rattle.std.proofs.Common.{◌≡◌, ℕ, zero, suc, ◌+◌, ◌<◌, ◌≤◌, Bool, true, false, List, ◌∷◌, length, refl, subst, arith, inl, inr, ◌⊎◌}
use Rattle.std.specs.Prelude.{codes}
use Rattle.av_base.specs.Tokens.{Token}
use Rattle.av_tree.specs.Trees.{Expression}
use Rattle.av_tree.specs.Parts.{IsName, IsSymbol}
use Rattle.av_tree.specs.IndexGrammar as whole
use Rattle.av_tree.specs.IndexGrammar.{IsNames}
use Rattle.av_tree.specs.FrontsParts as parts
use Rattle.av_tree.specs.FrontsParts.{Meant, MayWait, FrontToken}
use Rattle.av_tree.specs.FrontsIndex as inner
use Rattle.av_tree.specs.FrontsIndex.{FrontNames, FrontConditions, FrontDomainRest}
use Rattle.av_tree.specs.FrontsExpression as fronts
use Rattle.av_tree.specs.FrontsExpression.{FrontPostfixTail}
use Rattle.av_parse.specs.inner.Reader.{begins_symbol, too_deep, deep_fault, expect_symbol}
use Rattle.av_parse.specs.inner.ExpressionReader.{begins_unary, begins_expr, begins_domain_rest, readers}
use Rattle.av_parse.proofs.Follow.{known, symbol_yes, symbol_gives}
use Rattle.av_parse.proofs.WithinIndex.{left, deep, if_within, le_same, symbol_within}
use Rattle.av_parse.proofs.WithinExpression.{all_within, too_deep_within}
use Rattle.av_parse.proofs.Takes.{map_takes}
use Rattle.av_parse.proofs.FrontsTake.{front_map_takes, front_postfix_tail_takes}
use Rattle.av_parse.proofs.FrontsEnd.{front_domain_rest_ends}
use Rattle.av_parse.proofs.FrontsCome.{front_token_comes, front_expr_comes, front_sum_comes, front_product_comes, front_unary_comes, front_domain_rest_comes}
use Rattle.av_parse.proofs.FrontsStart.{Opens, OpensExpr, expr_start, sum_start, product_start, unary_start}
use Rattle.av_parse.proofs.BeyondIndex.{front_domain_rest}
use Rattle.av_parse.proofs.BeyondSteps.{Reaches, sinks, reach, above, wait_below, end_below, level_below, at_rest}
use Rattle.av_parse.proofs.BeyondExpression.{Beyond, front_expr, front_sum, front_sum_tail, front_product, front_product_tail, front_unary, front_postfix_tail}

-- ---- where no level is left

too_deep_reaches : {A : Type 0} {w : Meant} {l : ℕ} (t : Bool) (ts r : List Token) → ((r ≡ ts) × MayWait w) ⊎ (t ≡ true) → MayWait w ⊎ (length r < length ts)
    → Reaches {A = A} w l (length r) (too_deep t ts)
unfolding deep_fault
too_deep_reaches {w = w} {l = l} t ts r (inl e) comes = at_rest e.0 (reach (wait_below w l e.1) (too_deep_within t ts))
too_deep_reaches {w = w} {l = l} true ts r (inr e) (inl wait) = reach (wait_below w l wait) deep
too_deep_reaches {w = w} {l = l} true ts r (inr e) (inr less) = sinks (above w l (length r) (length ts) less)
too_deep_reaches false ts r (inr e) comes = absurd cc

unary_opens : (w : Meant) {ts r : List Token} → ((r ≡ ts) × MayWait w) ⊎ Opens ts → ((r ≡ ts) × MayWait w) ⊎ (begins_unary ts ≡ true)
unary_opens w (inl e) = inl e
unary_opens w (inr o) = inr o.0

expr_opens : (w : Meant) {ts r : List Token} → ((r ≡ ts) × MayWait w) ⊎ OpensExpr ts → ((r ≡ ts) × MayWait w) ⊎ (begins_expr ts ≡ true)
expr_opens w (inl e) = inl e
expr_opens w (inr o) = inr o.0

token_opens : {w : Meant} {n : ℕ} {Is : Token → Type 0} {ts r : List Token} (f : List Token → Bool) → ((x : Token) (rest : List Token) → Is x → f (x ∷ rest) ≡ true)
    → FrontToken w n Is ts r → ((r ≡ ts) × MayWait w) ⊎ (f ts ≡ true)
token_opens f go (parts.not_yet wait) = inl (refl, wait)
token_opens f go (parts.came {x = x} {ts = ts} is e) = inr (go x ts is)

-- ---- domains

name_opens : (x : Token) (ts : List Token) → IsName x → begins_domain_rest (x ∷ ts) ≡ true
name_opens x ts is = known (λ z. begins_domain_rest (z ∷ ts) ≡ true) x (is, refl) refl

bar_opens : (x : Token) (ts : List Token) → IsSymbol (codes "|") x → begins_domain_rest (x ∷ ts) ≡ true
bar_opens x ts is = known (λ z. begins_domain_rest (z ∷ ts) ≡ true) x is refl

close_opens : (x : Token) (ts : List Token) → IsSymbol (codes "}") x → begins_domain_rest (x ∷ ts) ≡ true
close_opens x ts is = known (λ z. begins_domain_rest (z ∷ ts) ≡ true) x is refl

whole_names : {ts rest xs : List Token} → IsNames ts rest xs → begins_domain_rest ts ≡ true
whole_names (whole.last_name {x = x} {rest = rest} is) = name_opens x rest is
whole_names (whole.more_names {x = x} {c = c} {ts = ts} is comma others) = name_opens x (c ∷ ts) is

names_open : {w : Meant} {n : ℕ} {ts r : List Token} → FrontNames w n ts r → ((r ≡ ts) × MayWait w) ⊎ (begins_domain_rest ts ≡ true)
names_open (inner.at_name h) = token_opens (λ z. begins_domain_rest z) name_opens h
names_open (inner.at_comma {x = x} {ts = ts} is h) = inr (name_opens x ts is)
names_open (inner.past_comma {x = x} {c = c} {ts = ts} is comma h) = inr (name_opens x (c ∷ ts) is)

conditions_open : {w : Meant} {n : ℕ} {ts r : List Token} → FrontConditions w n ts r → ((r ≡ ts) × MayWait w) ⊎ (begins_domain_rest ts ≡ true)
conditions_open (inner.no_bar_yet wait) = inl (refl, wait)
conditions_open (inner.at_bar h) = token_opens (λ z. begins_domain_rest z) bar_opens h
conditions_open (inner.in_constraints {b = b} {ts = ts} is h) = inr (bar_opens b ts is)

domain_rest_open : {w : Meant} {n : ℕ} {ts r : List Token} → FrontDomainRest w n ts r → ((r ≡ ts) × MayWait w) ⊎ (begins_domain_rest ts ≡ true)
domain_rest_open (inner.in_names (inner.no_name_yet wait)) = inl (refl, wait)
domain_rest_open (inner.in_names (inner.in_names h)) = names_open h
domain_rest_open (inner.in_conditions whole.no_names h) = conditions_open h
domain_rest_open (inner.in_conditions (whole.some_names names) h) = inr (whole_names names)
domain_rest_open (inner.at_close (whole.some_names names) bounds h) = inr (whole_names names)
domain_rest_open (inner.at_close whole.no_names whole.no_bar h) = token_opens (λ z. begins_domain_rest z) close_opens h
domain_rest_open (inner.at_close whole.no_names (whole.bar {b = b} {rest = rest} is) h) = inr (bar_opens b rest is)
domain_rest_open (inner.at_close whole.no_names (whole.conditions {b = b} {ts = ts} is cs) h) = inr (bar_opens b ts is)

-- ---- maps

tail_none : (w : Meant) (l : ℕ) (ts r : List Token) → FrontPostfixTail w l ts r → (a : Expression) → Reaches w l (length r) ((readers zero).postfix_tail a ts)
unfolding readers deep_fault
tail_none w l ts r (fronts.no_dot_yet wait) a = reach (wait_below w l wait) (if_within (begins_symbol (codes ".") ts) (too_deep_within true ts) (left (le_same _)))
tail_none w l ts r (fronts.at_dot (parts.not_yet wait)) a = reach (wait_below w l wait) (if_within (begins_symbol (codes ".") ts) (too_deep_within true ts) (left (le_same _)))
tail_none w l ts r (fronts.at_dot (parts.came {x = d} {ts = rest} is e)) a = rw (symbol_yes (codes ".") d rest is) (sinks (above w l (length rest) (length (d ∷ rest)) (omega arith)))
tail_none w l ts r (fronts.in_map {d = d} {ts = rest} is map) a =
    let less = front_map_takes map in rw (symbol_yes (codes ".") d rest is) (sinks (above w l (length r) (length (d ∷ rest)) (omega arith)))
tail_none w l ts r (fronts.past_map {d = d} {ts = rest} is map t) a =
    rw (symbol_yes (codes ".") d rest is) (sinks (above w l (length r) (length (d ∷ rest)) (shorter (map_takes map) (front_postfix_tail_takes t))))
  where
    shorter : {a b c : ℕ} → b < c → a ≤ b → a < suc c
    shorter h g = omega arith

none_left : (l : ℕ) → Beyond l l zero (readers zero)
unfolding readers
none_left l = record {
  expr = λ w ts r h. too_deep_reaches (begins_expr ts) ts r (expr_opens w (expr_start h)) (front_expr_comes h);
  sum = λ w ts r h. too_deep_reaches (begins_unary ts) ts r (unary_opens w (sum_start h)) (front_sum_comes h);
  sum_tail = λ some w ts r h a. absurd (omega arith);
  product = λ w ts r h. too_deep_reaches (begins_unary ts) ts r (unary_opens w (product_start h)) (front_product_comes h);
  product_tail = λ some w ts r h a. absurd (omega arith);
  unary = λ w ts r h. too_deep_reaches (begins_unary ts) ts r (unary_opens w (unary_start h)) (front_unary_comes h);
  postfix_tail = λ w ts r h a. tail_none w l ts r h a;
  opening = λ w ts r h. too_deep_reaches (begins_symbol (codes "(") ts) ts r (token_opens (λ z. begins_symbol (codes "(") z) (λ x rest is. symbol_yes (codes "(") x rest is) h) (front_token_comes h);
  domain_rest = λ w ts r h p. too_deep_reaches (begins_domain_rest ts) ts r (domain_rest_open h) (front_domain_rest_comes h);
}

-- ---- any levels

opening_reaches : (w : Meant) (l n : ℕ) (ts r : List Token) → n < l → FrontToken w n (IsSymbol (codes "(")) ts r → Reaches w l (length r) (expect_symbol (codes "(") ts)
opening_reaches w l n ts r less (parts.not_yet wait) = reach (wait_below w l wait) (symbol_within (codes "(") ts)
opening_reaches w l n ts r less (parts.came {x = o} {ts = rest} is e) = rw (symbol_gives (codes "(") o rest is) (reach (end_below w n l e less) (left (le_same _)))

pub all_beyond : (k n : ℕ) → Beyond (n + k) n k (readers k)
unfolding readers
all_beyond zero n = subst (λ l. Beyond l n zero (readers zero)) (omega arith) (none_left n)
all_beyond (suc k) n =
    let gw = all_within k in
    let l : ℕ = n + suc k in
    let lev : l ≡ n + suc k = refl in
    let less : n < l = omega arith in
    let g : Beyond l (suc n) k (readers k) = subst (λ z. Beyond z (suc n) k (readers k)) (one_more n k) (all_beyond k (suc n)) in
    record {
      expr = λ w ts r h. front_expr l n k lev gw g h;
      sum = λ w ts r h. front_sum l n k lev gw g h;
      sum_tail = λ some w ts r h a. front_sum_tail l n k lev gw g h a;
      product = λ w ts r h. front_product l n k lev gw g h;
      product_tail = λ some w ts r h a. front_product_tail l n k lev gw g h a;
      unary = λ w ts r h. front_unary l n k lev gw g h;
      postfix_tail = λ w ts r h a. front_postfix_tail l n k lev gw g h a;
      opening = λ w ts r h. opening_reaches w l n ts r less h;
      domain_rest = λ w ts r h p. reach (level_below w n l (front_domain_rest_ends h) less) (front_domain_rest h p);
    }
  where
    one_more : (n k : ℕ) → suc n + k ≡ n + suc k
    one_more n k = omega arith
