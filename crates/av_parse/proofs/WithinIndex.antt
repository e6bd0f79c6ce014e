-- How many tokens are left where a reader stops: no more than there were.
use Rattle.std.proofs.Common.{ℕ, zero, suc, ◌≤◌, ℤ, Bool, true, false, List, [], ◌∷◌, length, Option, Some, None, Result, Ok, Err, arith}
use Rattle.std.specs.Prelude.{if◌then◌else◌, codes}
use Rattle.av_base.specs.declared.place.Place.{Place}
use Rattle.av_base.specs.declared.token_kind.TokenKind.{TokenKind}
use Rattle.av_base.specs.declared.token_kind.TokenKind.TheVariants as kind
use Rattle.av_base.specs.Tokens.{Token}
use Rattle.av_tree.specs.declared.domain.IndexExpr.{IndexExpr}
use Rattle.av_tree.specs.declared.relation.Relation.{Relation}
use Rattle.av_tree.specs.Trees.{Text}
use Rattle.av_tree.specs.IndexGrammar.{plus_one, minus_one}
use Rattle.av_parse.specs.declared.fault.Fault.{Fault}
use Rattle.av_parse.specs.declared.fault.Fault.TheVariants.{Syntax, Depth}
use Rattle.av_parse.specs.inner.Reader.{◌>>=◌, after, place_of, text_of, value_of, same, expect, expect_with, expect_symbol}
use Rattle.av_parse.specs.inner.IndexReader.{names_of, optional_names_of, number_term_of, name_term_of, term_of, terms_of, signed_index_of, index_of, indices_of, optional_indices_of, list_of, side_of, relation_at, relation_by, chain_of, constraint_of, constraints_of, bar_of, conditions_of, domain_rest_of, domain_of, map_of}

-- no more than m tokens are left where reading stops; of a fault of depth nothing is said
pub data Within {A : Type 0} (m : ℕ) : Result (A × List Token) Fault → Type 0 where
  left : {x : A × List Token} → length x.1 ≤ m → Within m (Ok x)
  stops : {k : ℕ} → k ≤ m → Within m (Err (Syntax k))
  deep : {k : ℕ} → Within m (Err (Depth k))

-- ---- steps

pub closer : {A : Type 0} {m n : ℕ} {r : Result (A × List Token) Fault} → Within m r → m ≤ n → Within n r
closer (left h) le = left (omega arith)
closer (stops h) le = stops (omega arith)
closer deep le = deep

pub bind_within : {A B : Type 0} {m : ℕ} {r : Result (A × List Token) Fault} (f : A × List Token → Result (B × List Token) Fault) → Within m r
    → ((x : A × List Token) → Within (length x.1) (f x)) → Within m (r >>= f)
bind_within f (left {x = x} h) go = closer (go x) h
bind_within f (stops h) go = stops h
bind_within f deep go = deep

pub if_within : {A : Type 0} {m : ℕ} (b : Bool) {x y : Result (A × List Token) Fault} → Within m x → Within m y → Within m (if b then x else y)
if_within true h k = h
if_within false h k = k

pub le_same : (a : ℕ) → a ≤ a
le_same a = omega arith

pub after_within : (ts : List Token) → length (after ts) ≤ length ts
after_within [] = omega arith
after_within (x ∷ ts) = omega arith

pub expect_within : (k : TokenKind) (ts : List Token) → Within (length ts) (expect k ts)
unfolding expect
expect_within k [] = stops (le_same _)
expect_within k (x ∷ ts) = if_within (same x.kind k) (left (omega arith)) (stops (le_same _))

pub expect_with_within : (k : TokenKind) (text : Text) (ts : List Token) → Within (length ts) (expect_with k text ts)
unfolding expect_with
expect_with_within k text [] = stops (le_same _)
expect_with_within k text (x ∷ ts) = if_within _ (left (omega arith)) (stops (le_same _))

pub symbol_within : (text : Text) (ts : List Token) → Within (length ts) (expect_symbol text ts)
symbol_within text ts = expect_with_within kind.Symbol text ts

-- ---- names

pub names_within : (m : ℕ) (ts : List Token) → Within (length ts) (names_of m ts)
unfolding names_of
names_within zero ts = stops (le_same _)
names_within (suc m) ts =
    bind_within _ (expect_within kind.Name ts) (λ x.
    if_within _ (bind_within _ (closer (names_within m (after x.1)) (after_within x.1)) (λ y. left (le_same _))) (left (le_same _)))

pub optional_names_within : (ts : List Token) → Within (length ts) (optional_names_of ts)
unfolding optional_names_of
optional_names_within ts = if_within _ (bind_within _ (names_within (length ts) ts) (λ y. left (le_same _))) (left (le_same _))

-- ---- index expressions

pub number_term_within : (s : ℤ) (v : ℕ) (p : Place) (ts : List Token) → Within (length ts) (number_term_of s v p ts)
unfolding number_term_of
number_term_within s v p ts =
    if_within _ (left (after_within ts)) (if_within _ (bind_within _ (closer (expect_within kind.Name (after ts)) (after_within ts)) (λ y. left (le_same _))) (left (le_same _)))

pub name_term_within : (s : ℤ) (x : Text) (p : Place) (ts : List Token) → Within (length ts) (name_term_of s x p ts)
unfolding name_term_of
name_term_within s x p ts = if_within _ (bind_within _ (closer (expect_within kind.Number (after ts)) (after_within ts)) (λ y. left (le_same _))) (left (le_same _))

pub term_within : (s : ℤ) (ts : List Token) → Within (length ts) (term_of s ts)
unfolding term_of
term_within s ts =
    if_within _ (closer (number_term_within s (value_of ts) (place_of ts) (after ts)) (after_within ts))
    (if_within _ (closer (name_term_within s (text_of ts) (place_of ts) (after ts)) (after_within ts)) (stops (le_same _)))

pub terms_within : (m : ℕ) (ts : List Token) → Within (length ts) (terms_of m ts)
unfolding terms_of
terms_within zero ts = left (le_same _)
terms_within (suc m) ts =
    if_within _ (bind_within _ (closer (term_within plus_one (after ts)) (after_within ts)) (λ t. bind_within _ (terms_within m t.1) (λ y. left (le_same _))))
    (if_within _ (bind_within _ (closer (term_within minus_one (after ts)) (after_within ts)) (λ t. bind_within _ (terms_within m t.1) (λ y. left (le_same _)))) (left (le_same _)))

pub signed_within : (s : ℤ) (p : Place) (ts : List Token) → Within (length ts) (signed_index_of s p ts)
unfolding signed_index_of
signed_within s p ts = bind_within _ (term_within s ts) (λ t. bind_within _ (terms_within (length t.1) t.1) (λ y. left (le_same _)))

pub index_within : (ts : List Token) → Within (length ts) (index_of ts)
unfolding index_of
index_within ts = if_within _ (closer (signed_within minus_one (place_of ts) (after ts)) (after_within ts)) (signed_within plus_one (place_of ts) ts)

pub indices_within : (m : ℕ) (ts : List Token) → Within (length ts) (indices_of m ts)
unfolding indices_of
indices_within zero ts = bind_within _ (index_within ts) (λ y. left (le_same _))
indices_within (suc m) ts =
    bind_within _ (index_within ts) (λ e.
    if_within _ (bind_within _ (closer (indices_within m (after e.1)) (after_within e.1)) (λ y. left (le_same _))) (left (le_same _)))

pub optional_indices_within : (ts : List Token) → Within (length ts) (optional_indices_of ts)
unfolding optional_indices_of
optional_indices_within ts = if_within _ (indices_within (length ts) ts) (left (le_same _))

-- ---- comparisons

pub list_within : (ts : List Token) → Within (length ts) (list_of ts)
unfolding list_of
list_within ts =
    bind_within _ (symbol_within (codes "(") ts) (λ o. bind_within _ (indices_within 7 o.1) (λ es. bind_within _ (symbol_within (codes ")") es.1) (λ c. left (le_same _))))

pub side_within : (ts : List Token) → Within (length ts) (side_of ts)
unfolding side_of
side_within ts = if_within _ (list_within ts) (bind_within _ (index_within ts) (λ y. left (le_same _)))

pub relation_within : (o : Option Relation) (ts : List Token) → Within (length ts) (relation_by o ts)
unfolding relation_by
relation_within None ts = stops (le_same _)
relation_within (Some r) ts = left (after_within ts)

pub chain_within : (m : ℕ) (lefts : List IndexExpr) (ts : List Token) → Within (length ts) (chain_of m lefts ts)
unfolding chain_of
chain_within zero lefts ts = stops (le_same _)
chain_within (suc m) lefts ts =
    bind_within _ (relation_within (relation_at ts) ts) (λ r. bind_within _ (side_within r.1) (λ es.
    if_within _ (bind_within _ (chain_within m es.0 es.1) (λ y. left (le_same _))) (left (le_same _))))

pub constraint_within : (ts : List Token) → Within (length ts) (constraint_of ts)
unfolding constraint_of
constraint_within ts = bind_within _ (side_within ts) (λ es. chain_within (length es.1) es.0 es.1)

pub constraints_within : (m : ℕ) (ts : List Token) → Within (length ts) (constraints_of m ts)
unfolding constraints_of
constraints_within zero ts = stops (le_same _)
constraints_within (suc m) ts =
    bind_within _ (constraint_within ts) (λ c.
    if_within _ (if_within _ (left (after_within c.1)) (bind_within _ (closer (constraints_within m (after c.1)) (after_within c.1)) (λ y. left (le_same _)))) (left (le_same _)))

-- ---- domains and maps

pub bar_within : (ts : List Token) → Within (length ts) (bar_of ts)
unfolding bar_of
bar_within ts = if_within _ (left (le_same _)) (constraints_within (length ts) ts)

pub conditions_within : (ts : List Token) → Within (length ts) (conditions_of ts)
unfolding conditions_of
conditions_within ts = if_within _ (closer (bar_within (after ts)) (after_within ts)) (left (le_same _))

pub domain_rest_within : (p : Place) (ts : List Token) → Within (length ts) (domain_rest_of p ts)
unfolding domain_rest_of
domain_rest_within p ts =
    bind_within _ (optional_names_within ts) (λ ns. bind_within _ (conditions_within ns.1) (λ cs. bind_within _ (symbol_within (codes "}") cs.1) (λ c. left (le_same _))))

pub domain_within : (ts : List Token) → Within (length ts) (domain_of ts)
unfolding domain_of
domain_within ts = bind_within _ (symbol_within (codes "{") ts) (λ o. domain_rest_within o.0.place o.1)

pub map_within : (ts : List Token) → Within (length ts) (map_of ts)
unfolding map_of
map_within ts =
    bind_within _ (symbol_within (codes "(") ts) (λ o. bind_within _ (optional_names_within o.1) (λ ns. bind_within _ (symbol_within (codes "->") ns.1) (λ a.
    bind_within _ (optional_indices_within a.1) (λ es. bind_within _ (symbol_within (codes ")") es.1) (λ c. left (le_same _))))))
