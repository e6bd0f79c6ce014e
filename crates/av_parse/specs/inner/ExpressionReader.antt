-- Reading expressions: one function for each rule of the grammar, over the readers of what stands one level
-- deeper.
use Rattle.std.specs.Prelude.{ℕ, zero, suc, Bool, true, ◌||◌, if◌then◌else◌, List, [], length, Option, Some, None, Ok, codes}
use Rattle.av_base.specs.declared.place.Place.{Place}
use Rattle.av_base.specs.declared.token_kind.TokenKind.TheVariants as kind
use Rattle.av_base.specs.declared.word.Op.{Op}
use Rattle.av_base.specs.declared.word.Op.TheVariants as op
use Rattle.av_base.specs.Tokens.{Token}
use Rattle.av_tree.specs.declared.domain.DomainText.{DomainText}
use Rattle.av_tree.specs.declared.domain.MapText.{MapText}
use Rattle.av_tree.specs.declared.expression.Access.{Access}
use Rattle.av_tree.specs.declared.expression.Access.TheVariants as access
use Rattle.av_tree.specs.declared.relation.Relation.{Relation}
use Rattle.av_tree.specs.declared.relation.Relation.TheVariants as relation
use Rattle.av_tree.specs.declared.sign.Sign.{Sign}
use Rattle.av_tree.specs.declared.sign.Sign.TheVariants as sign
use Rattle.av_tree.specs.Trees.{Text, Expression, Expressions, reference, constant, binary, choice, restriction, cases, dependence, reduction, none, more}
use Rattle.av_parse.specs.inner.Reader.{◌>>=◌, Read, begins, begins_symbol, begins_word, after, place_of, text_of, value_of, syntax, too_deep, expect_symbol, expect_word}
use Rattle.av_parse.specs.inner.IndexReader.{optional_indices_of, relation_at, relation_by, domain_rest_of, map_of}

-- the readers of one level; opening reads the "(" behind a word, domain_rest what follows the "{" of a restriction
pub record Readers : Type 0 where
  pub expr : Read Expression
  pub sum : Read Expression
  pub sum_tail : Expression → Read Expression
  pub product : Read Expression
  pub product_tail : Expression → Read Expression
  pub unary : Read Expression
  pub postfix_tail : Expression → Read Expression
  pub opening : Read Token
  pub domain_rest : Place → Read DomainText

-- ---- primaries

-- [ "[" "]" ], behind a number
unfoldable pub brackets_of : Read Access
brackets_of ts = if begins_symbol (codes "[") ts then (expect_symbol (codes "]") (after ts) >>= λ c. Ok (access.Indices [], c.1)) else Ok (access.Here, ts)

-- [ index { "," index } ] "]", behind a name at a place and its "["
unfoldable pub indexed_of : Text → Place → Read Expression
indexed_of name place ts = do
  es ← optional_indices_of ts
  c ← expect_symbol (codes "]") es.1
  Ok (reference name (access.Indices es.0) place, c.1)

-- expr ")", behind the "("
unfoldable pub parenthesis_of : Readers → Read Expression
parenthesis_of b ts = do
  e ← b.expr ts
  c ← expect_symbol (codes ")") e.1
  Ok (e.0, c.1)

-- expr ")", behind the first operand of min or max and its ","
abbrev pub last_operand_of : Readers → Sign → Place → Expression → Read Expression
last_operand_of b s place left ts = do
  y ← b.expr ts
  c ← expect_symbol (codes ")") y.1
  Ok (binary s left y.0 place, c.1)

-- "(" expr "," expr ")", behind the word min or max
unfoldable pub extreme_of : Readers → Sign → Place → Read Expression
extreme_of b s place ts = do
  o ← b.opening ts
  x ← b.expr o.1
  q ← expect_symbol (codes ",") x.1
  y ← b.expr q.1
  c ← expect_symbol (codes ")") y.1
  Ok (binary s x.0 y.0 place, c.1)

-- expr ";" { expr ";" }, at most n branches, before the word esac
unfoldable pub branches_of : Readers → ℕ → Read Expressions
branches_of b zero ts = syntax ts
branches_of b (suc n) ts = do
  e ← b.expr ts
  s ← expect_symbol (codes ";") e.1
  if begins_word (codes "esac") s.1 then Ok (more e.0 none, s.1) else (branches_of b n s.1 >>= λ es. Ok (more e.0 es.0, es.1))

-- expr ";" { expr ";" } "esac", behind the word case
unfoldable pub cases_of : Readers → Place → Read Expression
cases_of b place ts = do
  es ← branches_of b (length ts) ts
  s ← expect_word (codes "esac") es.1
  Ok (cases es.0 place, s.1)

-- the operator of a reduction that the first token spells
unfoldable pub op_at : List Token → Option Op
op_at ts =
    if begins_symbol (codes "+") ts then Some op.Add
    else (if begins_symbol (codes "*") ts then Some op.Mul
    else (if begins_word (codes "min") ts then Some op.Min
    else (if begins_word (codes "max") ts then Some op.Max else None)))

unfoldable pub op_by : Option Op → Read Op
op_by None ts = syntax ts
op_by (Some f) ts = Ok (f, after ts)

abbrev pub op_of : Read Op
op_of ts = op_by (op_at ts) ts

-- expr ")", behind the operator and the map of a reduction and their commas
abbrev pub reduced_of : Readers → Op → MapText → Place → Read Expression
reduced_of b f m place ts = do
  e ← b.expr ts
  c ← expect_symbol (codes ")") e.1
  Ok (reduction f m e.0 place, c.1)

-- "(" op "," map "," expr ")", behind the word reduce
unfoldable pub reduction_of : Readers → Place → Read Expression
reduction_of b place ts = do
  o ← b.opening ts
  f ← op_of o.1
  q ← expect_symbol (codes ",") f.1
  m ← map_of q.1
  p ← expect_symbol (codes ",") m.1
  e ← b.expr p.1
  c ← expect_symbol (codes ")") e.1
  Ok (reduction f.0 m.0 e.0 place, c.1)

-- a primary that begins with no name and no number
unfoldable pub primary_of : Readers → Read Expression
primary_of b ts =
    if begins_symbol (codes "(") ts then parenthesis_of b (after ts)
    else (if begins_word (codes "min") ts then extreme_of b sign.Min (place_of ts) (after ts)
    else (if begins_word (codes "max") ts then extreme_of b sign.Max (place_of ts) (after ts)
    else (if begins_word (codes "case") ts then cases_of b (place_of ts) (after ts)
    else (if begins_word (codes "reduce") ts then reduction_of b (place_of ts) (after ts) else syntax ts))))

-- ---- primaries with maps

-- { "." map }, after a
unfoldable pub postfix_tail_of : Readers → Expression → Read Expression
postfix_tail_of b a ts = if begins_symbol (codes ".") ts then (map_of (after ts) >>= λ m. b.postfix_tail (dependence m.0 a m.0.place) m.1) else Ok (a, ts)

-- what follows a name at a place
unfoldable pub named_of : Readers → Text → Place → Read Expression
named_of b name place ts =
    if begins_symbol (codes "[") ts then (indexed_of name place (after ts) >>= λ a. postfix_tail_of b a.0 a.1)
    else (if begins_symbol (codes ".") ts then (map_of (after ts) >>= λ m. b.postfix_tail (reference name (access.Mapped m.0) place) m.1)
    else Ok (reference name access.Here place, ts))

-- what follows a number, whose value and place are told
unfoldable pub numbered_of : Readers → ℕ → Place → Read Expression
numbered_of b value place ts = do
  at ← brackets_of ts
  if begins_symbol (codes ".") at.1 then (map_of (after at.1) >>= λ m. b.postfix_tail (constant value (access.Mapped m.0) place) m.1)
      else Ok (constant value at.0 place, at.1)

-- primary { "." map }
unfoldable pub postfix_of : Readers → Read Expression
postfix_of b ts =
    if begins kind.Name ts then named_of b (text_of ts) (place_of ts) (after ts)
    else (if begins kind.Number ts then numbered_of b (value_of ts) (place_of ts) (after ts)
    else (primary_of b ts >>= λ a. postfix_tail_of b a.0 a.1))

-- ---- operators

-- 0 - e, for the sign at a place
abbrev pub minus_of : Place → Expression → Expression
minus_of place e = binary sign.Sub (constant 0 access.Here place) e place

-- "-" unary, or postfix
unfoldable pub unary_of : Readers → Read Expression
unary_of b ts = if begins_symbol (codes "-") ts then (b.unary (after ts) >>= λ e. Ok (minus_of (place_of ts) e.0, e.1)) else postfix_of b ts

-- { "*" unary }, after a
unfoldable pub product_tail_of : Readers → Expression → Read Expression
product_tail_of b a ts =
    if begins_symbol (codes "*") ts then (b.unary (after ts) >>= λ e. b.product_tail (binary sign.Mul a e.0 (place_of ts)) e.1) else Ok (a, ts)

-- unary { "*" unary }
unfoldable pub product_of : Readers → Read Expression
product_of b ts = unary_of b ts >>= λ a. product_tail_of b a.0 a.1

-- the sign of a sum that the first token spells
abbrev pub sign_at : List Token → Option Sign
sign_at ts = if begins_symbol (codes "+") ts then Some sign.Add else (if begins_symbol (codes "-") ts then Some sign.Sub else None)

unfoldable pub sum_tail_by : Readers → Option Sign → Expression → Read Expression
sum_tail_by b None a ts = Ok (a, ts)
sum_tail_by b (Some s) a ts = b.product (after ts) >>= λ e. b.sum_tail (binary s a e.0 (place_of ts)) e.1

-- { ( "+" or "-" ) product }, after a
unfoldable pub sum_tail_of : Readers → Expression → Read Expression
sum_tail_of b a ts = sum_tail_by b (sign_at ts) a ts

-- product { ( "+" or "-" ) product }
unfoldable pub sum_of : Readers → Read Expression
sum_of b ts = product_of b ts >>= λ a. sum_tail_of b a.0 a.1

-- ---- expressions

-- the comparison of a choice that the first token spells
unfoldable pub compare_at : List Token → Option Relation
compare_at ts = if begins_symbol (codes "<>") ts then Some relation.Unequal else relation_at ts

-- sum compare sum "then" expr "else" expr, behind the word if
unfoldable pub choice_of : Readers → Place → Read Expression
choice_of b place ts = do
  x ← b.sum ts
  r ← relation_by (compare_at x.1) x.1
  y ← b.sum r.1
  t ← expect_word (codes "then") y.1
  p ← b.expr t.1
  s ← expect_word (codes "else") p.1
  q ← b.expr s.1
  Ok (choice x.0 r.0 y.0 p.0 q.0 place, q.1)

-- domain ":" expr, behind the "{"
unfoldable pub restriction_of : Readers → Place → Read Expression
restriction_of b place ts = do
  d ← b.domain_rest place ts
  c ← expect_symbol (codes ":") d.1
  e ← b.expr c.1
  Ok (restriction d.0 e.0 d.0.place, e.1)

-- domain ":" expr, or "if" sum compare sum "then" expr "else" expr, or sum
unfoldable pub expr_of : Readers → Read Expression
expr_of b ts =
    if begins_symbol (codes "{") ts then restriction_of b (place_of ts) (after ts)
    else (if begins_word (codes "if") ts then choice_of b (place_of ts) (after ts) else sum_of b ts)

-- ---- where no level is left

-- a unary, a product or a sum may begin so
abbrev pub begins_unary : List Token → Bool
begins_unary ts =
    begins kind.Name ts || begins kind.Number ts || begins_symbol (codes "-") ts || begins_symbol (codes "(") ts
    || begins_word (codes "min") ts || begins_word (codes "max") ts || begins_word (codes "case") ts || begins_word (codes "reduce") ts

abbrev pub begins_expr : List Token → Bool
begins_expr ts = begins_symbol (codes "{") ts || begins_word (codes "if") ts || begins_unary ts

-- a domain may go on so behind its "{"
abbrev pub begins_domain_rest : List Token → Bool
begins_domain_rest ts = begins kind.Name ts || begins_symbol (codes "|") ts || begins_symbol (codes "}") ts

-- the readers where n levels are left
unfoldable pub readers : ℕ → Readers
readers zero = record {
  expr = λ ts. too_deep (begins_expr ts) ts;
  sum = λ ts. too_deep (begins_unary ts) ts;
  sum_tail = λ a ts. syntax ts;
  product = λ ts. too_deep (begins_unary ts) ts;
  product_tail = λ a ts. syntax ts;
  unary = λ ts. too_deep (begins_unary ts) ts;
  postfix_tail = λ a ts. if begins_symbol (codes ".") ts then too_deep true ts else Ok (a, ts);
  opening = λ ts. too_deep (begins_symbol (codes "(") ts) ts;
  domain_rest = λ place ts. too_deep (begins_domain_rest ts) ts;
}
readers (suc n) = record {
  expr = λ ts. expr_of (readers n) ts;
  sum = λ ts. sum_of (readers n) ts;
  sum_tail = λ a ts. sum_tail_of (readers n) a ts;
  product = λ ts. product_of (readers n) ts;
  product_tail = λ a ts. product_tail_of (readers n) a ts;
  unary = λ ts. unary_of (readers n) ts;
  postfix_tail = λ a ts. postfix_tail_of (readers n) a ts;
  opening = λ ts. expect_symbol (codes "(") ts;
  domain_rest = λ place ts. domain_rest_of place ts;
}
