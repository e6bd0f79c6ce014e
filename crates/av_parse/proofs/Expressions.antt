-- The readers of a level, and one turn of each loop over operators, maps and branches.
use Rattle.std.proofs.Common.{◌≡◌, ℕ, zero, suc, ◌<◌, ◌≤◌, ◌-◌, true, false, cond, List, [], ◌∷◌, ◌++◌, length, Some, None, Result, Ok, Err, refl, sym, ap, ◌∙◌, arith}
use Rattle.std.specs.Prelude.{codes}
use Rattle.av_base.specs.Tokens.{Token}
use Rattle.av_base.specs.declared.place.Place.{Place}
use Rattle.av_tree.specs.declared.domain.MapText.{MapText}
use Rattle.av_tree.specs.declared.sign.Sign.{Sign}
use Rattle.av_tree.specs.declared.sign.Sign.TheVariants as sign
use Rattle.av_tree.specs.declared.expression.Expr.{Expr, Row_of-Expr, end_of-Expr, more_of-Expr, items-the_row-Expr, items_hidden-the_row-Expr-0}
use Rattle.av_tree.specs.declared.expression.Expr.TheVariants as expr
use mathlib.Core.Former.{Count}
use Rattle.av_tree.specs.Trees.{Expression, Expressions, binary, dependence, cases, none, more, view, view_row, view_all}
use Rattle.av_parse.specs.declared.fault.Fault.{Fault}
use Rattle.av_parse.specs.declared.fault.Fault.TheVariants.{Syntax}
use Rattle.av_parse.specs.declared.fault.Stop.{Stop}
use Rattle.av_parse.specs.inner.Reader.{◌>>=◌, Stops, begins_symbol, begins_word, after, place_of, too_deep, expect_symbol, expect_word}
use Rattle.av_parse.specs.inner.IndexReader.{map_of, domain_rest_of}
use Rattle.av_parse.specs.inner.ExpressionReader.{Readers, readers, sign_at, sum_of, sum_tail_of, sum_tail_by, product_of, product_tail_of, unary_of, postfix_tail_of, branches_of, cases_of, expr_of, begins_expr, begins_unary, begins_domain_rest}
use Rattle.av_parse.proofs.Lists.{stops_then, stops_as}

-- ---- one level deeper

pub expr_at : (n : ℕ) (ts : List Token) → 0 < n → (readers n).expr ts ≡ expr_of (readers (n - 1)) ts
unfolding readers
expr_at zero ts h = absurd (omega arith)
expr_at (suc n) ts h = let e : suc n - 1 ≡ n = omega arith in rw e refl

pub sum_at : (n : ℕ) (ts : List Token) → 0 < n → (readers n).sum ts ≡ sum_of (readers (n - 1)) ts
unfolding readers
sum_at zero ts h = absurd (omega arith)
sum_at (suc n) ts h = let e : suc n - 1 ≡ n = omega arith in rw e refl

pub product_at : (n : ℕ) (ts : List Token) → 0 < n → (readers n).product ts ≡ product_of (readers (n - 1)) ts
unfolding readers
product_at zero ts h = absurd (omega arith)
product_at (suc n) ts h = let e : suc n - 1 ≡ n = omega arith in rw e refl

pub unary_at : (n : ℕ) (ts : List Token) → 0 < n → (readers n).unary ts ≡ unary_of (readers (n - 1)) ts
unfolding readers
unary_at zero ts h = absurd (omega arith)
unary_at (suc n) ts h = let e : suc n - 1 ≡ n = omega arith in rw e refl

pub domain_rest_at : (n : ℕ) (place : Place) (ts : List Token) → 0 < n → (readers n).domain_rest place ts ≡ domain_rest_of place ts
unfolding readers
domain_rest_at zero place ts h = absurd (omega arith)
domain_rest_at (suc n) place ts h = refl

pub expr_at_zero : (n : ℕ) (ts : List Token) → n ≡ 0 → (readers n).expr ts ≡ too_deep (begins_expr ts) ts
unfolding readers
expr_at_zero n ts e = rw e refl

pub sum_at_zero : (n : ℕ) (ts : List Token) → n ≡ 0 → (readers n).sum ts ≡ too_deep (begins_unary ts) ts
unfolding readers
sum_at_zero n ts e = rw e refl

pub product_at_zero : (n : ℕ) (ts : List Token) → n ≡ 0 → (readers n).product ts ≡ too_deep (begins_unary ts) ts
unfolding readers
product_at_zero n ts e = rw e refl

pub unary_at_zero : (n : ℕ) (ts : List Token) → n ≡ 0 → (readers n).unary ts ≡ too_deep (begins_unary ts) ts
unfolding readers
unary_at_zero n ts e = rw e refl

pub domain_rest_at_zero : (n : ℕ) (place : Place) (ts : List Token) → n ≡ 0 → (readers n).domain_rest place ts ≡ too_deep (begins_domain_rest ts) ts
unfolding readers
domain_rest_at_zero n place ts e = rw e refl

-- ---- maps

pub at_level : (n : ℕ) (a : Expression) (ts : List Token) → 0 < n → (readers n).postfix_tail a ts ≡ postfix_tail_of (readers (n - 1)) a ts
unfolding readers
at_level zero a ts h = absurd (omega arith)
at_level (suc n) a ts h = let e : suc n - 1 ≡ n = omega arith in rw e refl

module _ (room : ℕ) (a : Expression) (ts : List Token) (total : Result (Expression × List Token) Fault) (is : postfix_tail_of (readers room) a ts ≡ total) where
  pub maps_end : begins_symbol (codes ".") ts ≡ false → total ≡ Ok (a, ts)
  unfolding postfix_tail_of
  maps_end c = let one : postfix_tail_of (readers room) a ts ≡ Ok (a, ts) = rw c refl in sym is ∙ one

  pub maps_stop : (e : Stop) → begins_symbol (codes ".") ts ≡ true → Stops e (map_of (after ts)) → Stops e total
  unfolding postfix_tail_of
  maps_stop e c h = stops_as e (postfix_tail_of (readers room) a ts) total is (rw c (stops_then e _ _ h))

  pub maps_last : (m : MapText) (mid : List Token) → begins_symbol (codes ".") ts ≡ true → map_of (after ts) ≡ Ok (m, mid) → room ≡ 0 → (readers 0).postfix_tail (dependence m a m.place) mid ≡ total
  unfolding postfix_tail_of
  maps_last m mid c e z = let one : postfix_tail_of (readers room) a ts ≡ (readers 0).postfix_tail (dependence m a m.place) mid = rw (c, e, z) refl in sym one ∙ is

  pub maps_goes : (m : MapText) (mid : List Token) → begins_symbol (codes ".") ts ≡ true → map_of (after ts) ≡ Ok (m, mid) → 0 < room
      → postfix_tail_of (readers (room - 1)) (dependence m a m.place) mid ≡ total
  unfolding postfix_tail_of
  maps_goes m mid c e some =
      let one : postfix_tail_of (readers room) a ts ≡ (readers room).postfix_tail (dependence m a m.place) mid = rw (c, e) refl in
      sym (at_level room (dependence m a m.place) mid some) ∙ sym one ∙ is

-- ---- sums

tail_at : (n : ℕ) (a : Expression) (ts : List Token) → 0 < n → (readers n).sum_tail a ts ≡ sum_tail_of (readers (n - 1)) a ts
unfolding readers
tail_at zero a ts h = absurd (omega arith)
tail_at (suc n) a ts h = let e : suc n - 1 ≡ n = omega arith in rw e refl

pub record GoesSum (room levels : ℕ) (a : Expression) (ts : List Token) (total : Result (Expression × List Token) Fault) : Type 0 where
  pub within : room ≤ levels
  pub is : sum_tail_of (readers room) a ts ≡ total

pub sum_stop : (e : Stop) (levels : ℕ) (ts : List Token) → Stops e (product_of (readers levels) ts) → Stops e (sum_of (readers levels) ts)
unfolding sum_of
sum_stop e levels ts h = stops_then e _ _ h

pub sum_first : (levels : ℕ) (ts mid : List Token) (a : Expression) → product_of (readers levels) ts ≡ Ok (a, mid) → GoesSum levels levels a mid (sum_of (readers levels) ts)
unfolding sum_of
sum_first levels ts mid a e = record { within = omega arith; is = rw e refl }

module _ (room levels : ℕ) (a : Expression) (ts : List Token) (total : Result (Expression × List Token) Fault) (g : GoesSum room levels a ts total) where
  pub sum_end : sign_at ts ≡ None → total ≡ Ok (a, ts)
  unfolding sum_tail_of sum_tail_by
  sum_end c = let one : sum_tail_of (readers room) a ts ≡ Ok (a, ts) = rw c refl in sym g.is ∙ one

  pub sum_operand_stop : (e : Stop) (s : Sign) → sign_at ts ≡ Some s → Stops e ((readers room).product (after ts)) → Stops e total
  unfolding sum_tail_of sum_tail_by
  sum_operand_stop e s c h = stops_as e (sum_tail_of (readers room) a ts) total g.is (rw c (stops_then e _ _ h))

  pub sum_goes : (s : Sign) (b : Expression) (mid : List Token) → sign_at ts ≡ Some s → (readers room).product (after ts) ≡ Ok (b, mid) → 0 < room
      → GoesSum (room - 1) levels (binary s a b (place_of ts)) mid total
  unfolding sum_tail_of sum_tail_by
  sum_goes s b mid c e some =
      let one : sum_tail_of (readers room) a ts ≡ (readers room).sum_tail (binary s a b (place_of ts)) mid = rw (c, e) refl in
      record { within = (let w = g.within in omega (arith, w)); is = sym (tail_at room (binary s a b (place_of ts)) mid some) ∙ sym one ∙ g.is }

-- ---- products

product_tail_at : (n : ℕ) (a : Expression) (ts : List Token) → 0 < n → (readers n).product_tail a ts ≡ product_tail_of (readers (n - 1)) a ts
unfolding readers
product_tail_at zero a ts h = absurd (omega arith)
product_tail_at (suc n) a ts h = let e : suc n - 1 ≡ n = omega arith in rw e refl

pub record GoesProduct (room levels : ℕ) (a : Expression) (ts : List Token) (total : Result (Expression × List Token) Fault) : Type 0 where
  pub within : room ≤ levels
  pub is : product_tail_of (readers room) a ts ≡ total

pub product_stop : (e : Stop) (levels : ℕ) (ts : List Token) → Stops e (unary_of (readers levels) ts) → Stops e (product_of (readers levels) ts)
unfolding product_of
product_stop e levels ts h = stops_then e _ _ h

pub product_first : (levels : ℕ) (ts mid : List Token) (a : Expression) → unary_of (readers levels) ts ≡ Ok (a, mid) → GoesProduct levels levels a mid (product_of (readers levels) ts)
unfolding product_of
product_first levels ts mid a e = record { within = omega arith; is = rw e refl }

module _ (room levels : ℕ) (a : Expression) (ts : List Token) (total : Result (Expression × List Token) Fault) (g : GoesProduct room levels a ts total) where
  pub product_end : begins_symbol (codes "*") ts ≡ false → total ≡ Ok (a, ts)
  unfolding product_tail_of
  product_end c = let one : product_tail_of (readers room) a ts ≡ Ok (a, ts) = rw c refl in sym g.is ∙ one

  pub product_operand_stop : (e : Stop) → begins_symbol (codes "*") ts ≡ true → Stops e ((readers room).unary (after ts)) → Stops e total
  unfolding product_tail_of
  product_operand_stop e c h = stops_as e (product_tail_of (readers room) a ts) total g.is (rw c (stops_then e _ _ h))

  pub product_goes : (b : Expression) (mid : List Token) → begins_symbol (codes "*") ts ≡ true → (readers room).unary (after ts) ≡ Ok (b, mid) → 0 < room
      → GoesProduct (room - 1) levels (binary sign.Mul a b (place_of ts)) mid total
  unfolding product_tail_of
  product_goes b mid c e some =
      let one : product_tail_of (readers room) a ts ≡ (readers room).product_tail (binary sign.Mul a b (place_of ts)) mid = rw (c, e) refl in
      record { within = (let w = g.within in omega (arith, w)); is = sym (product_tail_at room (binary sign.Mul a b (place_of ts)) mid some) ∙ sym one ∙ g.is }

-- ---- branches

abbrev append : Expressions → Expressions → Expressions
append none es = es
append (more x xs) es = more x (append xs es)

append_more : (xs : Expressions) (e : Expression) (es : Expressions) → append (append xs (more e none)) es ≡ append xs (more e es)
append_more none e es = refl
append_more (more x xs) e es = ap (more x) (append_more xs e es)

pub view_all_push : (es : List Expr) (e : Expr) → view_all (es ++ e ∷ []) ≡ append (view_all es) (more (view e) none)
view_all_push [] e = refl
view_all_push (x ∷ es) e = ap (more (view x)) (view_all_push es e)

-- branches that are read behind others
abbrev pub with_branches : Expressions → Result (Expressions × List Token) Fault → Result (Expressions × List Token) Fault
with_branches front read = read >>= λ x. Ok (append front x.0, x.1)

pub branches_none : (r : Result (Expressions × List Token) Fault) → with_branches none r ≡ r
branches_none (Ok x) = refl
branches_none (Err f) = refl

regroup : (front : Expressions) (e : Expression) (read : Result (Expressions × List Token) Fault) → with_branches front (read >>= λ x. Ok (more e x.0, x.1)) ≡ with_branches (append front (more e none)) read
regroup front e (Ok x) = ap (λ (z : Expressions). Ok (z, x.1)) (sym (append_more front e x.0))
regroup front e (Err f) = refl

branches_at : (b : Readers) (room : ℕ) (ts : List Token) → 0 < room
    → branches_of b room ts ≡ (b.expr ts >>= λ e. expect_symbol (codes ";") e.1 >>= λ s. cond (begins_word (codes "esac") s.1) (Ok (more e.0 none, s.1)) (branches_of b (room - 1) s.1 >>= λ es. Ok (more e.0 es.0, es.1)))
unfolding branches_of
branches_at b zero ts h = absurd (omega arith)
branches_at b (suc n) ts h = let e : suc n - 1 ≡ n = omega arith in rw e refl

module _ (b : Readers) (front : Expressions) (room : ℕ) (ts : List Token) (total : Result (Expressions × List Token) Fault) (is : with_branches front (branches_of b room ts) ≡ total) where
  pub branches_full : room ≡ 0 → total ≡ Err (Syntax (length ts))
  unfolding branches_of
  branches_full e = sym is ∙ rw e refl

  pub branches_stop : (e : Stop) → 0 < room → Stops e (b.expr ts) → Stops e total
  branches_stop e some h = stops_as e (with_branches front (branches_of b room ts)) total is (rw (branches_at b room ts some) (stops_then e _ _ (stops_then e _ _ h)))

  pub branches_semicolon_stop : (e : Stop) (x : Expression) (mid : List Token) → 0 < room → b.expr ts ≡ Ok (x, mid) → Stops e (expect_symbol (codes ";") mid) → Stops e total
  branches_semicolon_stop e x mid some f h = stops_as e (with_branches front (branches_of b room ts)) total is (rw (branches_at b room ts some, f) (stops_then e _ _ (stops_then e _ _ h)))

  pub branches_end : (x : Expression) (mid : List Token) (s : Token) (rest : List Token) → 0 < room → b.expr ts ≡ Ok (x, mid) → expect_symbol (codes ";") mid ≡ Ok (s, rest) → begins_word (codes "esac") rest ≡ true
      → total ≡ Ok (append front (more x none), rest)
  branches_end x mid s rest some f h c =
      let one : with_branches front (branches_of b room ts) ≡ Ok (append front (more x none), rest) = rw (branches_at b room ts some, f, h, c) refl in sym is ∙ one

  pub branches_goes : (x : Expression) (mid : List Token) (s : Token) (rest : List Token) → 0 < room → b.expr ts ≡ Ok (x, mid) → expect_symbol (codes ";") mid ≡ Ok (s, rest) → begins_word (codes "esac") rest ≡ false
      → with_branches (append front (more x none)) (branches_of b (room - 1) rest) ≡ total
  branches_goes x mid s rest some f h c =
      let one : with_branches front (branches_of b room ts) ≡ with_branches (append front (more x none)) (branches_of b (room - 1) rest) =
      rw (branches_at b room ts some, f, h, c) (regroup front x (branches_of b (room - 1) rest)) in
      sym one ∙ is

-- ---- the tree of a case

row_trees : (m : _) (row : Row_of-Expr m) → view_row row ≡ view_all (items-the_row-Expr m row)
row_trees m end_of-Expr = refl
row_trees m (more_of-Expr e rest) = ap (more (view e)) (row_trees _ rest)

abbrev row_of : Expr → (m : Count) × Row_of-Expr m
row_of (expr.Case' _ row place) = (_, row)
row_of _ = (_, end_of-Expr)

pub view_case : (es : List Expr) (place : Place) → view (expr.Case es place) ≡ cases (view_all es) place
view_case es place =
    let row = row_of (expr.Case es place) in
    ap (λ (z : Expressions). cases z place) (row_trees row.0 row.1 ∙ ap view_all (items_hidden-the_row-Expr-0 es))

pub cases_done : (b : Readers) (place : Place) (ts mid : List Token) (es : List Expr) (s : Token) (rest : List Token) → branches_of b (length ts) ts ≡ Ok (view_all es, mid)
    → expect_word (codes "esac") mid ≡ Ok (s, rest) → cases_of b place ts ≡ Ok (view (expr.Case es place), rest)
unfolding cases_of
cases_done b place ts mid es s rest h k = rw (h, k) (ap (λ (z : Expression). Ok (z, rest)) (sym (view_case es place)))
