-- How index expressions, domains and maps are spelled: one case for each rule. `Part ts rest x` says that
-- ts is a spelling of x, followed by rest. (Mauras 1989; Wilde's reports; the profile is this project's.)
use Rattle.std.specs.Prelude.{◌≤◌, ℤ, pos, ◌*ℤ◌, neg_ℤ, List, [], ◌∷◌, ◌++◌, map, length, Some, None, codes}
use Rattle.av_base.specs.Tokens.{Token, number_of}
use Rattle.av_tree.specs.declared.domain.Term.{Term}
use Rattle.av_tree.specs.declared.domain.IndexExpr.{IndexExpr}
use Rattle.av_tree.specs.declared.domain.Constraint.{Constraint}
use Rattle.av_tree.specs.declared.domain.DomainText.{DomainText}
use Rattle.av_tree.specs.declared.domain.MapText.{MapText}
use Rattle.av_tree.specs.declared.relation.Relation.{Relation}
use Rattle.av_tree.specs.Trees.{Text}
use Rattle.av_tree.specs.Parts.{IsName, IsNumber, IsSymbol, IsRelation}

-- ---- names

-- name { "," name }, as the tokens of the names
pub data IsNames : List Token → List Token → List Token → Type 0 where
  last_name : {x : Token} {rest : List Token} → IsName x → IsNames (x ∷ rest) rest (x ∷ [])
  more_names : {x c : Token} {ts rest xs : List Token} → IsName x → IsSymbol (codes ",") c → IsNames ts rest xs → IsNames (x ∷ c ∷ ts) rest (x ∷ xs)

abbrev pub texts : List Token → List Text
texts xs = map (λ x. x.text) xs

-- [ names ]
pub data IsOptionalNames : List Token → List Token → List Text → Type 0 where
  no_names : {rest : List Token} → IsOptionalNames rest rest []
  some_names : {ts rest xs : List Token} → IsNames ts rest xs → IsOptionalNames ts rest (texts xs)

-- ---- index expressions

abbrev pub number_at : Token → ℤ
number_at x = pos (number_of x.text)

-- number, or name, or number name, or number "*" name, or name "*" number; s is the sign before it, 1 or -1
pub data IsTerm (s : ℤ) : List Token → List Token → Term → Type 0 where
  number : {x : Token} {rest : List Token} → IsNumber x → IsTerm s (x ∷ rest) rest (record { factor = s *ℤ number_at x; name = None; place = x.place })
  name : {y : Token} {rest : List Token} → IsName y → IsTerm s (y ∷ rest) rest (record { factor = s; name = Some y.text; place = y.place })
  number_name : {x y : Token} {rest : List Token} → IsNumber x → IsName y
      → IsTerm s (x ∷ y ∷ rest) rest (record { factor = s *ℤ number_at x; name = Some y.text; place = y.place })
  number_times_name : {x p y : Token} {rest : List Token} → IsNumber x → IsSymbol (codes "*") p → IsName y
      → IsTerm s (x ∷ p ∷ y ∷ rest) rest (record { factor = s *ℤ number_at x; name = Some y.text; place = y.place })
  name_times_number : {y p x : Token} {rest : List Token} → IsName y → IsSymbol (codes "*") p → IsNumber x
      → IsTerm s (y ∷ p ∷ x ∷ rest) rest (record { factor = s *ℤ number_at x; name = Some y.text; place = y.place })

abbrev pub plus_one : ℤ
plus_one = pos 1

abbrev pub minus_one : ℤ
minus_one = neg_ℤ (pos 1)

-- { ( "+" or "-" ) term }
pub data IsTerms : List Token → List Token → List Term → Type 0 where
  terms_end : {rest : List Token} → IsTerms rest rest []
  plus_term : {p : Token} {ts mid rest : List Token} {t : Term} {more : List Term} → IsSymbol (codes "+") p → IsTerm plus_one ts mid t → IsTerms mid rest more
      → IsTerms (p ∷ ts) rest (t ∷ more)
  minus_term : {p : Token} {ts mid rest : List Token} {t : Term} {more : List Term} → IsSymbol (codes "-") p → IsTerm minus_one ts mid t → IsTerms mid rest more
      → IsTerms (p ∷ ts) rest (t ∷ more)

-- [ "-" ] term { ( "+" or "-" ) term }
pub data IsIndex : List Token → List Token → IndexExpr → Type 0 where
  index : {x : Token} {ts mid rest : List Token} {t : Term} {more : List Term} → IsTerm plus_one (x ∷ ts) mid t → IsTerms mid rest more
      → IsIndex (x ∷ ts) rest (record { terms = t ∷ more; place = x.place })
  minus_index : {m : Token} {ts mid rest : List Token} {t : Term} {more : List Term} → IsSymbol (codes "-") m → IsTerm minus_one ts mid t → IsTerms mid rest more
      → IsIndex (m ∷ ts) rest (record { terms = t ∷ more; place = m.place })

-- index { "," index }
pub data IsIndices : List Token → List Token → List IndexExpr → Type 0 where
  last_index : {ts rest : List Token} {e : IndexExpr} → IsIndex ts rest e → IsIndices ts rest (e ∷ [])
  more_indices : {c : Token} {ts mid rest : List Token} {e : IndexExpr} {es : List IndexExpr} → IsIndex ts (c ∷ mid) e → IsSymbol (codes ",") c → IsIndices mid rest es
      → IsIndices ts rest (e ∷ es)

-- [ index { "," index } ]
pub data IsOptionalIndices : List Token → List Token → List IndexExpr → Type 0 where
  no_indices : {rest : List Token} → IsOptionalIndices rest rest []
  some_indices : {ts rest : List Token} {es : List IndexExpr} → IsIndices ts rest es → IsOptionalIndices ts rest es

-- ---- comparisons

-- index, or "(" index { "," index } ")" with at most eight of them
pub data IsSide : List Token → List Token → List IndexExpr → Type 0 where
  one_side : {ts rest : List Token} {e : IndexExpr} → IsIndex ts rest e → IsSide ts rest (e ∷ [])
  list_side : {o c : Token} {ts rest : List Token} {es : List IndexExpr} → IsSymbol (codes "(") o → IsIndices ts (c ∷ rest) es → length es ≤ 8 → IsSymbol (codes ")") c
      → IsSide (o ∷ ts) rest es

-- one member on the left with each on the right
abbrev pub with_each : IndexExpr → Relation → List IndexExpr → List Constraint
with_each l r [] = []
with_each l r (e ∷ es) = record { left = l; relation = r; right = e } ∷ with_each l r es

-- each member on the left with each on the right, the left one slowest
abbrev pub compared : List IndexExpr → Relation → List IndexExpr → List Constraint
compared [] r rights = []
compared (l ∷ lefts) r rights = with_each l r rights ++ compared lefts r rights

-- relation side { relation side }, after a side on the left
pub data IsChain : List IndexExpr → List Token → List Token → List Constraint → Type 0 where
  last_side : {q : Token} {r : Relation} {ts rest : List Token} {lefts es : List IndexExpr} → IsRelation r q → IsSide ts rest es → IsChain lefts (q ∷ ts) rest (compared lefts r es)
  more_sides : {q : Token} {r : Relation} {ts mid rest : List Token} {lefts es : List IndexExpr} {cs : List Constraint} → IsRelation r q → IsSide ts mid es → IsChain es mid rest cs
      → IsChain lefts (q ∷ ts) rest (compared lefts r es ++ cs)

-- side relation side { relation side }
pub data IsConstraint : List Token → List Token → List Constraint → Type 0 where
  constraint : {ts mid rest : List Token} {es : List IndexExpr} {cs : List Constraint} → IsSide ts mid es → IsChain es mid rest cs → IsConstraint ts rest cs

-- constraint { ";" constraint } [ ";" ]
pub data IsConstraints : List Token → List Token → List Constraint → Type 0 where
  last_constraint : {ts rest : List Token} {cs : List Constraint} → IsConstraint ts rest cs → IsConstraints ts rest cs
  closed_constraint : {s : Token} {ts rest : List Token} {cs : List Constraint} → IsConstraint ts (s ∷ rest) cs → IsSymbol (codes ";") s → IsConstraints ts rest cs
  more_constraints : {s : Token} {ts mid rest : List Token} {cs ds : List Constraint} → IsConstraint ts (s ∷ mid) cs → IsSymbol (codes ";") s → IsConstraints mid rest ds
      → IsConstraints ts rest (cs ++ ds)

-- ---- domains and maps

-- [ "|" [ constraint { ";" constraint } [ ";" ] ] ]
pub data IsConditions : List Token → List Token → List Constraint → Type 0 where
  no_bar : {rest : List Token} → IsConditions rest rest []
  bar : {b : Token} {rest : List Token} → IsSymbol (codes "|") b → IsConditions (b ∷ rest) rest []
  conditions : {b : Token} {ts rest : List Token} {cs : List Constraint} → IsSymbol (codes "|") b → IsConstraints ts rest cs → IsConditions (b ∷ ts) rest cs

-- "{" [ names ] [ "|" .. ] "}"
pub data IsDomain : List Token → List Token → DomainText → Type 0 where
  domain : {o c : Token} {ts mid rest : List Token} {ns : List Text} {cs : List Constraint} → IsSymbol (codes "{") o → IsOptionalNames ts mid ns → IsConditions mid (c ∷ rest) cs
      → IsSymbol (codes "}") c → IsDomain (o ∷ ts) rest (record { names = ns; constraints = cs; place = o.place })

-- "(" [ names ] "->" [ index { "," index } ] ")"
pub data IsMap : List Token → List Token → MapText → Type 0 where
  mapping : {o a c : Token} {ts mid rest : List Token} {ns : List Text} {es : List IndexExpr} → IsSymbol (codes "(") o → IsOptionalNames ts (a ∷ mid) ns → IsSymbol (codes "->") a
      → IsOptionalIndices mid (c ∷ rest) es → IsSymbol (codes ")") c → IsMap (o ∷ ts) rest (record { names = ns; results = es; place = o.place })
