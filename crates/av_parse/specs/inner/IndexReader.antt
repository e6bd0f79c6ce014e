-- Reading names, index expressions, domains and maps: one function for each rule of the grammar. No levels
-- are counted in these. A number before the tokens bounds the items that are read.
use Rattle.std.specs.Prelude.{ℕ, zero, suc, ℤ, pos, ◌*ℤ◌, Bool, true, false, ◌||◌, if◌then◌else◌, List, [], ◌∷◌, ◌++◌, length, Option, Some, None, Ok, codes}
use Rattle.av_base.specs.declared.place.Place.{Place}
use Rattle.av_base.specs.declared.token_kind.TokenKind.TheVariants as kind
use Rattle.av_base.specs.Tokens.{Token}
use Rattle.av_tree.specs.declared.domain.Term.{Term}
use Rattle.av_tree.specs.declared.domain.IndexExpr.{IndexExpr}
use Rattle.av_tree.specs.declared.domain.Constraint.{Constraint}
use Rattle.av_tree.specs.declared.domain.DomainText.{DomainText}
use Rattle.av_tree.specs.declared.domain.MapText.{MapText}
use Rattle.av_tree.specs.declared.relation.Relation.{Relation}
use Rattle.av_tree.specs.declared.relation.Relation.TheVariants as relation
use Rattle.av_tree.specs.Trees.{Text}
use Rattle.av_tree.specs.IndexGrammar.{texts, plus_one, minus_one, compared}
use Rattle.av_parse.specs.inner.Reader.{◌>>=◌, Read, begins, begins_symbol, after, place_of, text_of, value_of, syntax, expect, expect_symbol}

-- ---- names

-- name { "," name }, at most n of them
unfoldable pub names_of : ℕ → Read (List Token)
names_of zero ts = syntax ts
names_of (suc n) ts = do
  x ← expect kind.Name ts
  if begins_symbol (codes ",") x.1 then (names_of n (after x.1) >>= λ xs. Ok (x.0 ∷ xs.0, xs.1)) else Ok (x.0 ∷ [], x.1)

-- [ names ]
unfoldable pub optional_names_of : Read (List Text)
optional_names_of ts = if begins kind.Name ts then (names_of (length ts) ts >>= λ xs. Ok (texts xs.0, xs.1)) else Ok ([], ts)

-- ---- index expressions

abbrev pub term : ℤ → Option Text → Place → Term
term factor name place = record { factor = factor; name = name; place = place }

-- what follows the number, whose value and place are told; s is the sign before it
unfoldable pub number_term_of : ℤ → ℕ → Place → Read Term
number_term_of s value place ts =
    if begins kind.Name ts then Ok (term (s *ℤ pos value) (Some (text_of ts)) (place_of ts), after ts)
    else (if begins_symbol (codes "*") ts then (expect kind.Name (after ts) >>= λ y. Ok (term (s *ℤ pos value) (Some y.0.text) y.0.place, y.1))
    else Ok (term (s *ℤ pos value) None place, ts))

-- what follows the name
unfoldable pub name_term_of : ℤ → Text → Place → Read Term
name_term_of s name place ts =
    if begins_symbol (codes "*") ts then (expect kind.Number (after ts) >>= λ x. Ok (term (s *ℤ pos (value_of (x.0 ∷ []))) (Some name) place, x.1))
    else Ok (term s (Some name) place, ts)

-- number, or name, or number name, or number "*" name, or name "*" number
unfoldable pub term_of : ℤ → Read Term
term_of s ts =
    if begins kind.Number ts then number_term_of s (value_of ts) (place_of ts) (after ts)
    else (if begins kind.Name ts then name_term_of s (text_of ts) (place_of ts) (after ts) else syntax ts)

-- the sign before a term, which is a minus or not
abbrev pub sign_of : Bool → ℤ
sign_of true = minus_one
sign_of false = plus_one

-- whether the sign before a further term is a minus
abbrev pub term_sign_at : List Token → Option Bool
term_sign_at ts = if begins_symbol (codes "+") ts then Some false else (if begins_symbol (codes "-") ts then Some true else None)

-- { ( "+" or "-" ) term }
unfoldable pub terms_of : ℕ → Read (List Term)
terms_of zero ts = Ok ([], ts)
terms_of (suc n) ts =
    if begins_symbol (codes "+") ts then (term_of plus_one (after ts) >>= λ t. terms_of n t.1 >>= λ more. Ok (t.0 ∷ more.0, more.1))
    else (if begins_symbol (codes "-") ts then (term_of minus_one (after ts) >>= λ t. terms_of n t.1 >>= λ more. Ok (t.0 ∷ more.0, more.1))
    else Ok ([], ts))

-- term { ( "+" or "-" ) term }, with the sign before the first term and the place of the whole
unfoldable pub signed_index_of : ℤ → Place → Read IndexExpr
signed_index_of s place ts = do
  t ← term_of s ts
  more ← terms_of (length t.1) t.1
  Ok (record { terms = t.0 ∷ more.0; place = place }, more.1)

-- [ "-" ] term { ( "+" or "-" ) term }
unfoldable pub index_of : Read IndexExpr
index_of ts = if begins_symbol (codes "-") ts then signed_index_of minus_one (place_of ts) (after ts) else signed_index_of plus_one (place_of ts) ts

-- index { "," index }, at most n + 1 of them
unfoldable pub indices_of : ℕ → Read (List IndexExpr)
indices_of zero ts = index_of ts >>= λ e. Ok (e.0 ∷ [], e.1)
indices_of (suc n) ts = do
  e ← index_of ts
  if begins_symbol (codes ",") e.1 then (indices_of n (after e.1) >>= λ es. Ok (e.0 ∷ es.0, es.1)) else Ok (e.0 ∷ [], e.1)

abbrev pub begins_index : List Token → Bool
begins_index ts = begins kind.Name ts || begins kind.Number ts || begins_symbol (codes "-") ts

-- [ index { "," index } ]
unfoldable pub optional_indices_of : Read (List IndexExpr)
optional_indices_of ts = if begins_index ts then indices_of (length ts) ts else Ok ([], ts)

-- ---- comparisons

-- "(" index { "," index } ")" with at most eight of them
unfoldable pub list_of : Read (List IndexExpr)
list_of ts = do
  o ← expect_symbol (codes "(") ts
  es ← indices_of 7 o.1
  c ← expect_symbol (codes ")") es.1
  Ok (es.0, c.1)

-- index, or such a list
unfoldable pub side_of : Read (List IndexExpr)
side_of ts = if begins_symbol (codes "(") ts then list_of ts else (index_of ts >>= λ e. Ok (e.0 ∷ [], e.1))

-- the comparison that the first token spells
unfoldable pub relation_at : List Token → Option Relation
relation_at ts =
    if begins_symbol (codes "<") ts then Some relation.Less
    else (if begins_symbol (codes "<=") ts then Some relation.LessEqual
    else (if begins_symbol (codes ">") ts then Some relation.Greater
    else (if begins_symbol (codes ">=") ts then Some relation.GreaterEqual
    else (if begins_symbol (codes "=") ts then Some relation.Equal else None))))

unfoldable pub relation_by : Option Relation → Read Relation
relation_by None ts = syntax ts
relation_by (Some r) ts = Ok (r, after ts)

abbrev pub relation_of : Read Relation
relation_of ts = relation_by (relation_at ts) ts

abbrev pub is_there : Option Relation → Bool
is_there None = false
is_there (Some r) = true

-- relation side { relation side }, at most n times, after a side on the left
unfoldable pub chain_of : ℕ → List IndexExpr → Read (List Constraint)
chain_of zero lefts ts = syntax ts
chain_of (suc n) lefts ts = do
  r ← relation_of ts
  es ← side_of r.1
  if is_there (relation_at es.1) then (chain_of n es.0 es.1 >>= λ cs. Ok (compared lefts r.0 es.0 ++ cs.0, cs.1)) else Ok (compared lefts r.0 es.0, es.1)

-- side relation side { relation side }
unfoldable pub constraint_of : Read (List Constraint)
constraint_of ts = side_of ts >>= λ es. chain_of (length es.1) es.0 es.1

-- constraint { ";" constraint } [ ";" ], at most n constraints, before a "}"
unfoldable pub constraints_of : ℕ → Read (List Constraint)
constraints_of zero ts = syntax ts
constraints_of (suc n) ts = do
  c ← constraint_of ts
  if begins_symbol (codes ";") c.1
      then (if begins_symbol (codes "}") (after c.1) then Ok (c.0, after c.1) else (constraints_of n (after c.1) >>= λ cs. Ok (c.0 ++ cs.0, cs.1)))
      else Ok (c.0, c.1)

-- ---- domains and maps

-- [ constraint { ";" constraint } [ ";" ] ], behind the "|"
unfoldable pub bar_of : Read (List Constraint)
bar_of ts = if begins_symbol (codes "}") ts then Ok ([], ts) else constraints_of (length ts) ts

-- [ "|" [ constraint { ";" constraint } [ ";" ] ] ]
unfoldable pub conditions_of : Read (List Constraint)
conditions_of ts = if begins_symbol (codes "|") ts then bar_of (after ts) else Ok ([], ts)

-- what follows the "{", whose place is told
unfoldable pub domain_rest_of : Place → Read DomainText
domain_rest_of place ts = do
  ns ← optional_names_of ts
  cs ← conditions_of ns.1
  c ← expect_symbol (codes "}") cs.1
  Ok (record { names = ns.0; constraints = cs.0; place = place }, c.1)

-- "{" [ names ] [ "|" .. ] "}"
unfoldable pub domain_of : Read DomainText
domain_of ts = expect_symbol (codes "{") ts >>= λ o. domain_rest_of o.0.place o.1

-- "(" [ names ] "->" [ index { "," index } ] ")"
unfoldable pub map_of : Read MapText
map_of ts = do
  o ← expect_symbol (codes "(") ts
  ns ← optional_names_of o.1
  a ← expect_symbol (codes "->") ns.1
  es ← optional_indices_of a.1
  c ← expect_symbol (codes ")") es.1
  Ok (record { names = ns.0; results = es.0; place = o.0.place }, c.1)
