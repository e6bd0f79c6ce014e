-- Expressions that are spelled so are read, where nothing follows that goes on with them.
use Rattle.std.proofs.Common.{◌≡◌, ℕ, zero, suc, ◌≤◌, true, false, List, ◌∷◌, length, Some, Ok, refl, ◌∙◌, arith}
use Rattle.std.specs.Prelude.{codes}
use Rattle.av_base.specs.declared.place.Place.{Place}
use Rattle.av_base.specs.declared.token_kind.TokenKind.{TokenKind}
use Rattle.av_base.specs.declared.token_kind.TokenKind.TheVariants as kind
use Rattle.av_base.specs.declared.word.Op.{Op}
use Rattle.av_base.specs.declared.word.Op.TheVariants as op
use Rattle.av_base.specs.Tokens.{Token, number_of}
use Rattle.av_tree.specs.declared.domain.DomainText.{DomainText}
use Rattle.av_tree.specs.declared.domain.IndexExpr.{IndexExpr}
use Rattle.av_tree.specs.declared.domain.MapText.{MapText}
use Rattle.av_tree.specs.declared.expression.Access.{Access}
use Rattle.av_tree.specs.declared.expression.Access.TheVariants as access
use Rattle.av_tree.specs.declared.relation.Relation.{Relation}
use Rattle.av_tree.specs.declared.relation.Relation.TheVariants as relation
use Rattle.av_tree.specs.declared.sign.Sign.{Sign}
use Rattle.av_tree.specs.declared.sign.Sign.TheVariants as sign
use Rattle.av_tree.specs.Trees.{Text, Expression, Expressions, reference, constant, binary, choice, restriction, cases, dependence, reduction, none, more}
use Rattle.av_tree.specs.Parts.{IsName, IsNumber, IsSymbol, IsReserved, IsCompare, IsOp}
use Rattle.av_tree.specs.IndexGrammar.{IsOptionalIndices, domain, IsMap}
use Rattle.av_tree.specs.ExpressionGrammar.{IsBrackets, no_brackets, brackets, negated, IsExpr, restricted, chosen, plain, IsSum, sum, IsSumTail, sum_ends, plus, minus, IsProduct, product, IsProductTail, product_ends, times, IsUnary, negative, postfix, IsPostfix, bare, bare_mapped, number, number_mapped, primary, IsPostfixTail, no_map, mapped, IsPrimary, indexed, parenthesis, least, greatest, case_of, reduced, IsBranches, last_branch, branch}
use Rattle.av_parse.specs.inner.Reader.{same, begins_symbol, begins_word}
use Rattle.av_parse.specs.inner.IndexReader.{relation_at, relation_by, domain_rest_of}
use Rattle.av_parse.specs.inner.ExpressionReader.{Readers, brackets_of, indexed_of, parenthesis_of, extreme_of, branches_of, cases_of, op_at, op_by, reduction_of, primary_of, postfix_tail_of, named_of, numbered_of, postfix_of, unary_of, product_tail_of, product_of, sum_tail_by, sum_tail_of, sum_of, compare_at, choice_of, restriction_of, expr_of, readers}
use Rattle.av_parse.proofs.Follow.{same_self, symbol_yes, word_yes, kind_not, text_not, symbol_gives, word_gives, known}
use Rattle.av_parse.proofs.Takes.{expr_takes, branches_take}
use Rattle.av_parse.proofs.CompleteIndex.{EndsIndices, optional_indices_complete, domain_rest_complete, map_complete}

-- ---- what follows

abbrev pub EndsPostfix : List Token → Type 0
EndsPostfix ts = (begins_symbol (codes ".") ts ≡ false) × (begins_symbol (codes "[") ts ≡ false)

abbrev pub EndsProduct : List Token → Type 0
EndsProduct ts = EndsPostfix ts × (begins_symbol (codes "*") ts ≡ false)

abbrev pub EndsSum : List Token → Type 0
EndsSum ts = EndsProduct ts × (begins_symbol (codes "+") ts ≡ false) × (begins_symbol (codes "-") ts ≡ false)

sum_stops : {n : ℕ} {a : Expression} {ts rest : List Token} {e : Expression} → IsSumTail n a ts rest e → EndsSum rest → EndsProduct ts
sum_stops sum_ends ends = ends.0
sum_stops (plus {p = p} {ts = ts} is b t) ends = known (λ z. EndsProduct (z ∷ ts)) p is ((refl, refl), refl)
sum_stops (minus {p = p} {ts = ts} is b t) ends = known (λ z. EndsProduct (z ∷ ts)) p is ((refl, refl), refl)

product_stops : {n : ℕ} {a : Expression} {ts rest : List Token} {e : Expression} → IsProductTail n a ts rest e → EndsProduct rest → EndsPostfix ts
product_stops product_ends ends = ends.0
product_stops (times {p = p} {ts = ts} is u t) ends = known (λ z. EndsPostfix (z ∷ ts)) p is (refl, refl)

pub close_ends : (c : Token) (ts : List Token) → IsSymbol (codes ")") c → EndsSum (c ∷ ts)
close_ends c ts is = known (λ z. EndsSum (z ∷ ts)) c is (((refl, refl), refl), refl, refl)

pub comma_ends : (c : Token) (ts : List Token) → IsSymbol (codes ",") c → EndsSum (c ∷ ts)
comma_ends c ts is = known (λ z. EndsSum (z ∷ ts)) c is (((refl, refl), refl), refl, refl)

pub semicolon_ends : (c : Token) (ts : List Token) → IsSymbol (codes ";") c → EndsSum (c ∷ ts)
semicolon_ends c ts is = known (λ z. EndsSum (z ∷ ts)) c is (((refl, refl), refl), refl, refl)

pub then_ends : (c : Token) (ts : List Token) → IsReserved (codes "then") c → EndsSum (c ∷ ts)
then_ends c ts is = known (λ z. EndsSum (z ∷ ts)) c is (((refl, refl), refl), refl, refl)

pub else_ends : (c : Token) (ts : List Token) → IsReserved (codes "else") c → EndsSum (c ∷ ts)
else_ends c ts is = known (λ z. EndsSum (z ∷ ts)) c is (((refl, refl), refl), refl, refl)

pub compare_ends : (r : Relation) (q : Token) (ts : List Token) → IsCompare r q → EndsSum (q ∷ ts)
compare_ends relation.Less q ts is = known (λ z. EndsSum (z ∷ ts)) q is (((refl, refl), refl), refl, refl)
compare_ends relation.LessEqual q ts is = known (λ z. EndsSum (z ∷ ts)) q is (((refl, refl), refl), refl, refl)
compare_ends relation.Greater q ts is = known (λ z. EndsSum (z ∷ ts)) q is (((refl, refl), refl), refl, refl)
compare_ends relation.GreaterEqual q ts is = known (λ z. EndsSum (z ∷ ts)) q is (((refl, refl), refl), refl, refl)
compare_ends relation.Equal q ts is = known (λ z. EndsSum (z ∷ ts)) q is (((refl, refl), refl), refl, refl)
compare_ends relation.Unequal q ts is = known (λ z. EndsSum (z ∷ ts)) q is (((refl, refl), refl), refl, refl)

-- ---- where spellings begin

-- no restriction, no choice and no end of a case begins here
abbrev BeginsSum : List Token → Type 0
BeginsSum ts = (begins_symbol (codes "{") ts ≡ false) × (begins_word (codes "if") ts ≡ false) × (begins_word (codes "esac") ts ≡ false)

-- nor does a minus
abbrev BeginsPostfix : List Token → Type 0
BeginsPostfix ts = BeginsSum ts × (begins_symbol (codes "-") ts ≡ false)

named_begins : (x : Token) (ts : List Token) → IsName x → BeginsPostfix (x ∷ ts)
named_begins x ts is = known (λ z. BeginsPostfix (z ∷ ts)) x (is, refl) ((refl, refl, refl), refl)

numbered_begins : (x : Token) (ts : List Token) → IsNumber x → BeginsPostfix (x ∷ ts)
numbered_begins x ts is = known (λ z. BeginsPostfix (z ∷ ts)) x (is, refl) ((refl, refl, refl), refl)

primary_begins : {n : ℕ} {ts rest : List Token} {e : Expression} → IsPrimary n ts rest e → BeginsPostfix ts
primary_begins (indexed {x = x} {o = o} {ts = ts} is p es c) = named_begins x (o ∷ ts) is
primary_begins (parenthesis {o = o} {ts = ts} is e c) = known (λ z. BeginsPostfix (z ∷ ts)) o is ((refl, refl, refl), refl)
primary_begins (least {w = w} {o = o} {ts = ts} is p a q b c) = known (λ z. BeginsPostfix (z ∷ o ∷ ts)) w is ((refl, refl, refl), refl)
primary_begins (greatest {w = w} {o = o} {ts = ts} is p a q b c) = known (λ z. BeginsPostfix (z ∷ o ∷ ts)) w is ((refl, refl, refl), refl)
primary_begins (case_of {w = w} {ts = ts} is es s) = known (λ z. BeginsPostfix (z ∷ ts)) w is ((refl, refl, refl), refl)
primary_begins (reduced {w = w} {o = o} {f = f} {q = q} {ts = ts} is p f_is q_is m p_is e c) = known (λ z. BeginsPostfix (z ∷ o ∷ f ∷ q ∷ ts)) w is ((refl, refl, refl), refl)

postfix_begins : {n : ℕ} {ts rest : List Token} {e : Expression} → IsPostfix n ts rest e → BeginsPostfix ts
postfix_begins (bare {x = x} {rest = rest} is) = named_begins x rest is
postfix_begins (bare_mapped {x = x} {d = d} {ts = ts} is dot m t) = named_begins x (d ∷ ts) is
postfix_begins (number {x = x} {ts = ts} is at) = numbered_begins x ts is
postfix_begins (number_mapped {x = x} {ts = ts} is at dot m t) = numbered_begins x ts is
postfix_begins (primary p t) = primary_begins p

unary_begins : {n : ℕ} {ts rest : List Token} {e : Expression} → IsUnary n ts rest e → BeginsSum ts
unary_begins (negative {m = m} {ts = ts} is u) = known (λ z. BeginsSum (z ∷ ts)) m is (refl, refl, refl)
unary_begins (postfix p) = (postfix_begins p).0

sum_begins : {n : ℕ} {ts rest : List Token} {e : Expression} → IsSum n ts rest e → BeginsSum ts
sum_begins (sum (product u t) s) = unary_begins u

pub expr_begins : {n : ℕ} {ts rest : List Token} {e : Expression} → IsExpr n ts rest e → begins_word (codes "esac") ts ≡ false
expr_begins (restricted (domain {o = o} {ts = ts} is names bounds c) colon e) = known (λ z. begins_word (codes "esac") (z ∷ ts) ≡ false) o is refl
expr_begins (chosen {i = i} {t0 = t0} is a q b t x s y) = known (λ z. begins_word (codes "esac") (z ∷ t0) ≡ false) i is refl
expr_begins (plain s) = (sum_begins s).2

pub branches_begin : {n : ℕ} {ts rest : List Token} {es : Expressions} → IsBranches n ts rest es → begins_word (codes "esac") ts ≡ false
branches_begin (last_branch e s) = expr_begins e
branches_begin (branch e s others) = expr_begins e

-- ---- operators and comparisons

pub op_found : (f : Op) (x : Token) (ts : List Token) → IsOp f x → op_at (x ∷ ts) ≡ Some f
unfolding op_at
op_found op.Add x ts is = known (λ z. op_at (z ∷ ts) ≡ Some op.Add) x is refl
op_found op.Mul x ts is = known (λ z. op_at (z ∷ ts) ≡ Some op.Mul) x is refl
op_found op.Min x ts is = known (λ z. op_at (z ∷ ts) ≡ Some op.Min) x is refl
op_found op.Max x ts is = known (λ z. op_at (z ∷ ts) ≡ Some op.Max) x is refl

pub compare_found : (r : Relation) (q : Token) (ts : List Token) → IsCompare r q → compare_at (q ∷ ts) ≡ Some r
unfolding compare_at relation_at
compare_found relation.Less q ts is = known (λ z. compare_at (z ∷ ts) ≡ Some relation.Less) q is refl
compare_found relation.LessEqual q ts is = known (λ z. compare_at (z ∷ ts) ≡ Some relation.LessEqual) q is refl
compare_found relation.Greater q ts is = known (λ z. compare_at (z ∷ ts) ≡ Some relation.Greater) q is refl
compare_found relation.GreaterEqual q ts is = known (λ z. compare_at (z ∷ ts) ≡ Some relation.GreaterEqual) q is refl
compare_found relation.Equal q ts is = known (λ z. compare_at (z ∷ ts) ≡ Some relation.Equal) q is refl
compare_found relation.Unequal q ts is = known (λ z. compare_at (z ∷ ts) ≡ Some relation.Unequal) q is refl

-- ---- one step each

pub brackets_complete : {ts rest : List Token} {at : Access} → IsBrackets ts rest at → begins_symbol (codes "[") rest ≡ false → brackets_of ts ≡ Ok (at, rest)
unfolding brackets_of
brackets_complete no_brackets ends = rw ends refl
brackets_complete (brackets {o = o} {c = c} {rest = rest} opened close) ends = rw (symbol_yes (codes "[") o (c ∷ rest) opened, symbol_gives (codes "]") c rest close) refl

pub indexed_gives : (x : Token) (ts rest : List Token) (c : Token) (es : List IndexExpr) → IsOptionalIndices ts (c ∷ rest) es → IsSymbol (codes "]") c
    → indexed_of x.text x.place ts ≡ Ok (reference x.text (access.Indices es) x.place, rest)
unfolding indexed_of
indexed_gives x ts rest c es list close =
    rw (optional_indices_complete list (known (λ z. EndsIndices (z ∷ rest)) c close ((refl, refl, refl, refl), refl, refl)), symbol_gives (codes "]") c rest close) refl

module _ (b : Readers) where
  -- ---- primaries

  pub parenthesis_gives : (o c : Token) (ts rest : List Token) (e : Expression) → IsSymbol (codes "(") o → b.expr ts ≡ Ok (e, c ∷ rest) → IsSymbol (codes ")") c
      → primary_of b (o ∷ ts) ≡ Ok (e, rest)
  unfolding primary_of parenthesis_of
  parenthesis_gives o c ts rest e opened x close = rw (symbol_yes (codes "(") o ts opened, x, symbol_gives (codes ")") c rest close) refl

  pub extreme_gives : (g : Sign) (p : Place) (o q c : Token) (ts mid rest : List Token) (x y : Expression) → b.opening (o ∷ ts) ≡ Ok (o, ts)
      → b.expr ts ≡ Ok (x, q ∷ mid) → IsSymbol (codes ",") q
      → b.expr mid ≡ Ok (y, c ∷ rest) → IsSymbol (codes ")") c → extreme_of b g p (o ∷ ts) ≡ Ok (binary g x y p, rest)
  unfolding extreme_of
  extreme_gives g p o q c ts mid rest x y opened first comma second close =
      rw (opened, first, symbol_gives (codes ",") q mid comma, second, symbol_gives (codes ")") c rest close) refl

  pub least_gives : (w : Token) (ts : List Token) (y : Expression × List Token) → IsReserved (codes "min") w → extreme_of b sign.Min w.place ts ≡ Ok y → primary_of b (w ∷ ts) ≡ Ok y
  unfolding primary_of
  least_gives w ts y is e = known (λ z. extreme_of b sign.Min z.place ts ≡ Ok y → primary_of b (z ∷ ts) ≡ Ok y) w is (λ f. f) e

  pub greatest_gives : (w : Token) (ts : List Token) (y : Expression × List Token) → IsReserved (codes "max") w → extreme_of b sign.Max w.place ts ≡ Ok y → primary_of b (w ∷ ts) ≡ Ok y
  unfolding primary_of
  greatest_gives w ts y is e = known (λ z. extreme_of b sign.Max z.place ts ≡ Ok y → primary_of b (z ∷ ts) ≡ Ok y) w is (λ f. f) e

  last_gives : (m : ℕ) (s : Token) (ts rest : List Token) (e : Expression) → b.expr ts ≡ Ok (e, s ∷ rest) → IsSymbol (codes ";") s → begins_word (codes "esac") rest ≡ true
      → branches_of b (suc m) ts ≡ Ok (more e none, rest)
  unfolding branches_of
  last_gives m s ts rest e x semicolon stops = rw (x, symbol_gives (codes ";") s rest semicolon, stops) refl

  branch_gives : (m : ℕ) (s : Token) (ts mid rest : List Token) (e : Expression) (es : Expressions) → b.expr ts ≡ Ok (e, s ∷ mid) → IsSymbol (codes ";") s
      → begins_word (codes "esac") mid ≡ false
      → branches_of b m mid ≡ Ok (es, rest) → branches_of b (suc m) ts ≡ Ok (more e es, rest)
  unfolding branches_of
  branch_gives m s ts mid rest e es x semicolon goes_on others = rw (x, symbol_gives (codes ";") s mid semicolon, goes_on, others) refl

  pub cases_gives : (w s : Token) (ts rest : List Token) (es : Expressions) → IsReserved (codes "case") w → branches_of b (length ts) ts ≡ Ok (es, s ∷ rest)
      → IsReserved (codes "esac") s
      → primary_of b (w ∷ ts) ≡ Ok (cases es w.place, rest)
  unfolding primary_of cases_of
  cases_gives w s ts rest es is x end =
      known (λ z. primary_of b (z ∷ ts) ≡ Ok (cases es z.place, rest)) w is (rw (x, word_gives (codes "esac") s rest end) refl)

  pub reduction_gives : (w o f q p c : Token) (ts mid rest : List Token) (g : Op) (m : MapText) (e : Expression) → IsReserved (codes "reduce") w
      → b.opening (o ∷ f ∷ q ∷ ts) ≡ Ok (o, f ∷ q ∷ ts)
      → IsOp g f → IsSymbol (codes ",") q → IsMap ts (p ∷ mid) m → IsSymbol (codes ",") p → b.expr mid ≡ Ok (e, c ∷ rest) → IsSymbol (codes ")") c
      → primary_of b (w ∷ o ∷ f ∷ q ∷ ts) ≡ Ok (reduction g m e w.place, rest)
  unfolding primary_of reduction_of op_by
  reduction_gives w o f q p c ts mid rest g m e is opened operator comma projection second body close =
      known (λ z. primary_of b (z ∷ o ∷ f ∷ q ∷ ts) ≡ Ok (reduction g m e z.place, rest)) w is
      (rw (opened, op_found g f (q ∷ ts) operator, symbol_gives (codes ",") q ts comma, map_complete projection, symbol_gives (codes ",") p mid second, body, symbol_gives (codes ")") c rest close) refl)

  -- ---- primaries with maps

  no_map_gives : (a : Expression) (ts : List Token) → begins_symbol (codes ".") ts ≡ false → postfix_tail_of b a ts ≡ Ok (a, ts)
  unfolding postfix_tail_of
  no_map_gives a ts ends = rw ends refl

  mapped_gives : (d : Token) (ts mid : List Token) (a : Expression) (m : MapText) (y : Expression × List Token) → IsSymbol (codes ".") d → IsMap ts mid m
      → b.postfix_tail (dependence m a m.place) mid ≡ Ok y
      → postfix_tail_of b a (d ∷ ts) ≡ Ok y
  unfolding postfix_tail_of
  mapped_gives d ts mid a m y dot map others = rw (symbol_yes (codes ".") d ts dot, map_complete map) others

  bare_gives : (x : Token) (rest : List Token) → IsName x → EndsPostfix rest → postfix_of b (x ∷ rest) ≡ Ok (reference x.text access.Here x.place, rest)
  unfolding postfix_of named_of
  bare_gives x rest is ends = rw (same_self x.kind kind.Name is, ends.1, ends.0) refl

  bare_mapped_gives : (x d : Token) (ts mid : List Token) (m : MapText) (y : Expression × List Token) → IsName x → IsSymbol (codes ".") d → IsMap ts mid m
      → b.postfix_tail (reference x.text (access.Mapped m) x.place) mid ≡ Ok y → postfix_of b (x ∷ d ∷ ts) ≡ Ok y
  unfolding postfix_of named_of
  bare_mapped_gives x d ts mid m y is dot map others =
      rw (same_self x.kind kind.Name is, text_not kind.Symbol (codes ".") (codes "[") d ts dot refl, symbol_yes (codes ".") d ts dot, map_complete map) others

  number_gives : (x : Token) (ts rest : List Token) (at : Access) → IsNumber x → IsBrackets ts rest at → EndsPostfix rest
      → postfix_of b (x ∷ ts) ≡ Ok (constant (number_of x.text) at x.place, rest)
  unfolding postfix_of numbered_of
  number_gives x ts rest at is around ends =
      rw (kind_not kind.Number kind.Name x ts is refl, same_self x.kind kind.Number is, brackets_complete around ends.1, ends.0) refl

  number_mapped_gives : (x d : Token) (ts t0 mid : List Token) (at : Access) (m : MapText) (y : Expression × List Token) → IsNumber x → IsBrackets ts (d ∷ t0) at
      → IsSymbol (codes ".") d → IsMap t0 mid m
      → b.postfix_tail (constant (number_of x.text) (access.Mapped m) x.place) mid ≡ Ok y → postfix_of b (x ∷ ts) ≡ Ok y
  unfolding postfix_of numbered_of
  number_mapped_gives x d ts t0 mid at m y is around dot map others =
      rw (
        kind_not kind.Number kind.Name x ts is refl,
        same_self x.kind kind.Number is,
        brackets_complete around (text_not kind.Symbol (codes ".") (codes "[") d t0 dot refl),
        symbol_yes (codes ".") d t0 dot,
        map_complete map,
      ) others

  indexed_first : (x o c : Token) (ts mid : List Token) (es : List IndexExpr) (y : Expression × List Token) → IsName x → IsSymbol (codes "[") o
      → IsOptionalIndices ts (c ∷ mid) es → IsSymbol (codes "]") c
      → postfix_tail_of b (reference x.text (access.Indices es) x.place) mid ≡ Ok y → postfix_of b (x ∷ o ∷ ts) ≡ Ok y
  unfolding postfix_of named_of
  indexed_first x o c ts mid es y is opened list close others =
      rw (same_self x.kind kind.Name is, symbol_yes (codes "[") o ts opened, indexed_gives x ts mid c es list close) others

  -- a primary that begins with a symbol or a word
  other_first : (k : TokenKind) (text : Text) (x : Token) (ts mid : List Token) (a : Expression) (y : Expression × List Token) → (x.kind ≡ k) × (x.text ≡ text)
      → same k kind.Name ≡ false → same k kind.Number ≡ false
      → primary_of b (x ∷ ts) ≡ Ok (a, mid) → postfix_tail_of b a mid ≡ Ok y → postfix_of b (x ∷ ts) ≡ Ok y
  unfolding postfix_of
  other_first k text x ts mid a y is no_name no_number first others =
      rw (kind_not k kind.Name x ts is.0 no_name, kind_not k kind.Number x ts is.0 no_number, first) others

  -- ---- operators

  negative_gives : (m : Token) (ts rest : List Token) (e : Expression) → IsSymbol (codes "-") m → b.unary ts ≡ Ok (e, rest) → unary_of b (m ∷ ts) ≡ Ok (negated m e, rest)
  unfolding unary_of
  negative_gives m ts rest e is x = rw (symbol_yes (codes "-") m ts is, x) refl

  postfix_gives : (ts : List Token) (y : Expression × List Token) → begins_symbol (codes "-") ts ≡ false → postfix_of b ts ≡ Ok y → unary_of b ts ≡ Ok y
  unfolding unary_of
  postfix_gives ts y other x = rw other x

  product_ends_gives : (a : Expression) (ts : List Token) → begins_symbol (codes "*") ts ≡ false → product_tail_of b a ts ≡ Ok (a, ts)
  unfolding product_tail_of
  product_ends_gives a ts ends = rw ends refl

  times_gives : (p : Token) (ts mid : List Token) (a e : Expression) (y : Expression × List Token) → IsSymbol (codes "*") p → b.unary ts ≡ Ok (e, mid)
      → b.product_tail (binary sign.Mul a e p.place) mid ≡ Ok y → product_tail_of b a (p ∷ ts) ≡ Ok y
  unfolding product_tail_of
  times_gives p ts mid a e y is x others = rw (symbol_yes (codes "*") p ts is, x) others

  product_gives : (ts mid : List Token) (a : Expression) (y : Expression × List Token) → unary_of b ts ≡ Ok (a, mid) → product_tail_of b a mid ≡ Ok y → product_of b ts ≡ Ok y
  unfolding product_of
  product_gives ts mid a y x others = rw x others

  sum_ends_gives : (a : Expression) (ts : List Token) → begins_symbol (codes "+") ts ≡ false → begins_symbol (codes "-") ts ≡ false → sum_tail_of b a ts ≡ Ok (a, ts)
  unfolding sum_tail_of sum_tail_by
  sum_ends_gives a ts no_plus no_minus = rw (no_plus, no_minus) refl

  plus_gives : (p : Token) (ts mid : List Token) (a e : Expression) (y : Expression × List Token) → IsSymbol (codes "+") p → b.product ts ≡ Ok (e, mid)
      → b.sum_tail (binary sign.Add a e p.place) mid ≡ Ok y → sum_tail_of b a (p ∷ ts) ≡ Ok y
  unfolding sum_tail_of sum_tail_by
  plus_gives p ts mid a e y is x others = rw (symbol_yes (codes "+") p ts is, x) others

  minus_gives : (p : Token) (ts mid : List Token) (a e : Expression) (y : Expression × List Token) → IsSymbol (codes "-") p → b.product ts ≡ Ok (e, mid)
      → b.sum_tail (binary sign.Sub a e p.place) mid ≡ Ok y → sum_tail_of b a (p ∷ ts) ≡ Ok y
  unfolding sum_tail_of sum_tail_by
  minus_gives p ts mid a e y is x others = rw (text_not kind.Symbol (codes "-") (codes "+") p ts is refl, symbol_yes (codes "-") p ts is, x) others

  sum_gives : (ts mid : List Token) (a : Expression) (y : Expression × List Token) → product_of b ts ≡ Ok (a, mid) → sum_tail_of b a mid ≡ Ok y → sum_of b ts ≡ Ok y
  unfolding sum_of
  sum_gives ts mid a y x others = rw x others

  -- ---- expressions

  plain_gives : (ts : List Token) (y : Expression × List Token) → BeginsSum ts → sum_of b ts ≡ Ok y → expr_of b ts ≡ Ok y
  unfolding expr_of
  plain_gives ts y begun x = rw (begun.0, begun.1) x

  choice_gives : (i q t s : Token) (t0 t1 t2 t3 rest : List Token) (r : Relation) (a c x y : Expression) → IsReserved (codes "if") i → b.sum t0 ≡ Ok (a, q ∷ t1) → IsCompare r q
      → b.sum t1 ≡ Ok (c, t ∷ t2) → IsReserved (codes "then") t → b.expr t2 ≡ Ok (x, s ∷ t3) → IsReserved (codes "else") s → b.expr t3 ≡ Ok (y, rest)
      → expr_of b (i ∷ t0) ≡ Ok (choice a r c x y i.place, rest)
  unfolding expr_of choice_of relation_by
  choice_gives i q t s t0 t1 t2 t3 rest r a c x y is left compare right then_is yes_part else_is no_part =
      known (λ z. expr_of b (z ∷ t0) ≡ Ok (choice a r c x y z.place, rest)) i is
      (rw (left, compare_found r q t1 compare, right, word_gives (codes "then") t t2 then_is, yes_part, word_gives (codes "else") s t3 else_is, no_part) refl)

  restriction_gives : (o c : Token) (ts mid rest : List Token) (d : DomainText) (e : Expression)
      → IsSymbol (codes "{") o → b.domain_rest o.place ts ≡ Ok (d, c ∷ mid) → IsSymbol (codes ":") c
      → b.expr mid ≡ Ok (e, rest) → expr_of b (o ∷ ts) ≡ Ok (restriction d e d.place, rest)
  unfolding expr_of restriction_of
  restriction_gives o c ts mid rest d e is bounds colon body = rw (symbol_yes (codes "{") o ts is, bounds, symbol_gives (codes ":") c mid colon, body) refl

-- ---- where an expression is spelled there is room

pub opening_room : {n : ℕ} {ts rest : List Token} {e : Expression} → IsExpr n ts rest e → (o : Token) (t0 : List Token)
    → IsSymbol (codes "(") o → (readers n).opening (o ∷ t0) ≡ Ok (o, t0)
unfolding readers
opening_room (restricted d c e) o t0 is = symbol_gives (codes "(") o t0 is
opening_room (chosen i a q b t x s y) o t0 is = symbol_gives (codes "(") o t0 is
opening_room (plain s) o t0 is = symbol_gives (codes "(") o t0 is

domain_room : {n : ℕ} {ts rest : List Token} {e : Expression} → IsExpr n ts rest e → (p : Place) (t0 : List Token) → (readers n).domain_rest p t0 ≡ domain_rest_of p t0
unfolding readers
domain_room (restricted d c e) p t0 = refl
domain_room (chosen i a q b t x s y) p t0 = refl
domain_room (plain s) p t0 = refl

-- ---- the induction

mutual
  unfolding readers

  pub expr_complete : {n : ℕ} {ts rest : List Token} {e : Expression} → IsExpr n ts rest e → EndsSum rest → (readers n).expr ts ≡ Ok (e, rest)
  expr_complete (restricted {n = n} {c = c} {mid = mid} {rest = rest} {d = d} {e = e} (domain {o = o} {c = k} {ts = ts} is names bounds close) colon body) ends =
      let inner = domain_rest_complete (domain {o = o} {c = k} {ts = ts} is names bounds close) in
      restriction_gives (readers n) o c ts mid rest _ e is (domain_room body o.place ts ∙ inner.2) colon (expr_complete body ends)
  expr_complete (chosen {n = n} {q = q} {t = t} {s = s} {t1 = t1} {t2 = t2} {t3 = t3} {r = r} i a q_is b t_is x s_is y) ends =
      choice_gives (readers n) _ _ _ _ _ _ _ _ _ _ _ _ _ _ i (sum_complete a (compare_ends r q t1 q_is)) q_is (sum_complete b (then_ends t t2 t_is)) t_is (expr_complete x (else_ends s t3 s_is)) s_is (expr_complete y ends)
  expr_complete (plain {n = n} s) ends = plain_gives (readers n) _ _ (sum_begins s) (sum_complete s ends)

  pub sum_complete : {n : ℕ} {ts rest : List Token} {e : Expression} → IsSum n ts rest e → EndsSum rest → (readers n).sum ts ≡ Ok (e, rest)
  sum_complete (sum {n = n} p t) ends = sum_gives (readers n) _ _ _ _ (product_complete p (sum_stops t ends)) (sum_tail_complete t ends)

  pub sum_tail_complete : {n : ℕ} {a : Expression} {ts rest : List Token} {e : Expression} → IsSumTail n a ts rest e → EndsSum rest → (readers n).sum_tail a ts ≡ Ok (e, rest)
  sum_tail_complete (sum_ends {n = n}) ends = sum_ends_gives (readers n) _ _ ends.1 ends.2
  sum_tail_complete (plus {n = n} is b t) ends = plus_gives (readers n) _ _ _ _ _ _ is (product_complete b (sum_stops t ends)) (sum_tail_complete t ends)
  sum_tail_complete (minus {n = n} is b t) ends = minus_gives (readers n) _ _ _ _ _ _ is (product_complete b (sum_stops t ends)) (sum_tail_complete t ends)

  pub product_complete : {n : ℕ} {ts rest : List Token} {e : Expression} → IsProduct n ts rest e → EndsProduct rest → (readers n).product ts ≡ Ok (e, rest)
  product_complete (product {n = n} u t) ends = product_gives (readers n) _ _ _ _ (unary_complete u (product_stops t ends)) (product_tail_complete t ends)

  pub product_tail_complete : {n : ℕ} {a : Expression} {ts rest : List Token} {e : Expression} → IsProductTail n a ts rest e → EndsProduct rest
      → (readers n).product_tail a ts ≡ Ok (e, rest)
  product_tail_complete (product_ends {n = n}) ends = product_ends_gives (readers n) _ _ ends.1
  product_tail_complete (times {n = n} is u t) ends = times_gives (readers n) _ _ _ _ _ _ is (unary_complete u (product_stops t ends)) (product_tail_complete t ends)

  pub unary_complete : {n : ℕ} {ts rest : List Token} {e : Expression} → IsUnary n ts rest e → EndsPostfix rest → (readers n).unary ts ≡ Ok (e, rest)
  unary_complete (negative {n = n} is u) ends = negative_gives (readers n) _ _ _ _ is (unary_complete u ends)
  unary_complete (postfix {n = n} p) ends = postfix_gives (readers n) _ _ (postfix_begins p).1 (postfix_complete p ends)

  pub postfix_complete : {n : ℕ} {ts rest : List Token} {e : Expression} → IsPostfix (suc n) ts rest e → EndsPostfix rest → postfix_of (readers n) ts ≡ Ok (e, rest)
  postfix_complete {n = n} (bare is) ends = bare_gives (readers n) _ _ is ends
  postfix_complete {n = n} (bare_mapped is dot m t) ends = bare_mapped_gives (readers n) _ _ _ _ _ _ is dot m (postfix_tail_complete t ends.0)
  postfix_complete {n = n} (number is around) ends = number_gives (readers n) _ _ _ _ is around ends
  postfix_complete {n = n} (number_mapped is around dot m t) ends = number_mapped_gives (readers n) _ _ _ _ _ _ _ _ is around dot m (postfix_tail_complete t ends.0)
  postfix_complete {n = n} (primary p t) ends = primary_complete p _ (postfix_tail_complete t ends.0)

  pub postfix_tail_complete : {n : ℕ} {a : Expression} {ts rest : List Token} {e : Expression} → IsPostfixTail n a ts rest e
      → begins_symbol (codes ".") rest ≡ false → (readers n).postfix_tail a ts ≡ Ok (e, rest)
  postfix_tail_complete (no_map {n = zero}) ends = rw ends refl
  postfix_tail_complete (no_map {n = suc n}) ends = no_map_gives (readers n) _ _ ends
  postfix_tail_complete (mapped {n = n} dot m t) ends = mapped_gives (readers n) _ _ _ _ _ _ dot m (postfix_tail_complete t ends)

  -- a primary, and the maps that follow it
  pub primary_complete : {n : ℕ} {ts mid : List Token} {a : Expression} → IsPrimary (suc n) ts mid a → (y : Expression × List Token)
      → postfix_tail_of (readers n) a mid ≡ Ok y → postfix_of (readers n) ts ≡ Ok y
  primary_complete {n = n} (indexed is opened list close) y others = indexed_first (readers n) _ _ _ _ _ _ y is opened list close others
  primary_complete {n = n} (parenthesis {o = o} {c = c} {rest = rest} opened e close) y others =
      other_first (readers n) kind.Symbol _ _ _ _ _ y opened refl refl (parenthesis_gives (readers n) _ _ _ _ _ opened (expr_complete e (close_ends c rest close)) close) others
  primary_complete {n = n} (least {w = w} {o = o} {q = q} {c = c} {ts = ts} {mid = mid} {rest = rest} is opened a comma b close) y others =
      other_first (readers n) kind.Reserved _ _ _ _ _ y is refl refl (least_gives (readers n) w _ _ is
      (extreme_gives (readers n) sign.Min w.place _ _ _ _ _ _ _ _ (opening_room a o ts opened) (expr_complete a (comma_ends q mid comma)) comma (expr_complete b (close_ends c rest close)) close)) others
  primary_complete {n = n} (greatest {w = w} {o = o} {q = q} {c = c} {ts = ts} {mid = mid} {rest = rest} is opened a comma b close) y others =
      other_first (readers n) kind.Reserved _ _ _ _ _ y is refl refl (greatest_gives (readers n) w _ _ is
      (extreme_gives (readers n) sign.Max w.place _ _ _ _ _ _ _ _ (opening_room a o ts opened) (expr_complete a (comma_ends q mid comma)) comma (expr_complete b (close_ends c rest close)) close)) others
  primary_complete {n = n} (case_of {w = w} {s = s} {ts = ts} {rest = rest} is es end) y others =
      other_first (readers n) kind.Reserved _ _ _ _ _ y is refl refl
      (cases_gives (readers n) _ _ _ _ _ is (branches_complete es (word_yes (codes "esac") s rest end) (length ts) (omega arith)) end) others
  primary_complete {n = n} (reduced {o = o} {f = f} {q = q} {c = c} {ts = ts} {rest = rest} is opened operator comma m second e close) y others =
      other_first (readers n) kind.Reserved _ _ _ _ _ y is refl refl
      (reduction_gives (readers n) _ _ _ _ _ _ _ _ _ _ _ _ is (opening_room e o (f ∷ q ∷ ts) opened) operator comma m second (expr_complete e (close_ends c rest close)) close) others

  pub branches_complete : {n : ℕ} {ts rest : List Token} {es : Expressions} → IsBranches n ts rest es → begins_word (codes "esac") rest ≡ true → (m : ℕ)
      → length ts ≤ m → branches_of (readers n) m ts ≡ Ok (es, rest)
  branches_complete x stops zero few = absurd (let h = branches_take x in omega arith)
  branches_complete {n = n} (last_branch {s = s} {rest = rest} e semicolon) stops (suc m) few = last_gives (readers n) m _ _ _ _ (expr_complete e (semicolon_ends s rest semicolon)) semicolon stops
  branches_complete {n = n} (branch {s = s} {mid = mid} e semicolon others) stops (suc m) few =
      branch_gives (readers n) m _ _ mid _ _ _ (expr_complete e (semicolon_ends s mid semicolon)) semicolon (branches_begin others) (branches_complete others stops m (let h = expr_takes e in omega arith))
