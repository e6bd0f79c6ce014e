-- Names, index expressions, domains and maps that are read are spelled so.
use Rattle.std.proofs.Common.{◌≡◌, ℕ, zero, suc, ◌≤◌, ℤ, true, List, [], ◌∷◌, length, Option, Some, None, arith}
use Rattle.std.specs.Prelude.{codes, ◌≢◌}
use Rattle.av_base.specs.declared.place.Place.{Place}
use Rattle.av_base.specs.declared.token_kind.TokenKind.TheVariants as kind
use Rattle.av_base.specs.Tokens.{Token, number_of}
use Rattle.av_tree.specs.declared.domain.Term.{Term}
use Rattle.av_tree.specs.declared.domain.IndexExpr.{IndexExpr}
use Rattle.av_tree.specs.declared.relation.Relation.{Relation}
use Rattle.av_tree.specs.declared.relation.Relation.TheVariants as relation
use Rattle.av_tree.specs.Parts.{IsName, IsNumber, IsSymbol, IsRelation, spelling}
use Rattle.av_tree.specs.IndexGrammar.{IsNames, last_name, more_names, IsOptionalNames, no_names, some_names, IsTerm, number, name, number_name, number_times_name, name_times_number, plus_one, minus_one, IsTerms, terms_end, plus_term, minus_term, IsIndex, index, minus_index, IsIndices, last_index, more_indices, IsOptionalIndices, no_indices, some_indices, IsSide, one_side, list_side, IsChain, last_side, more_sides, IsConstraint, constraint, IsConstraints, last_constraint, closed_constraint, more_constraints, IsConditions, no_bar, bar, conditions, IsDomain, domain, IsMap, mapping}
use Rattle.av_parse.specs.inner.Reader.{begins_symbol, after, place_of}
use Rattle.av_parse.specs.inner.IndexReader.{names_of, optional_names_of, number_term_of, name_term_of, term_of, terms_of, signed_index_of, index_of, indices_of, begins_index, optional_indices_of, list_of, side_of, relation_at, relation_by, is_there, chain_of, constraint_of, constraints_of, bar_of, conditions_of, domain_rest_of, domain_of, map_of}
use Rattle.av_parse.proofs.SoundSteps.{Holds, fine, failed, weaker, bind, by_test, by_symbol, by_kind, token, symbol, Starts, Chosen, nothing, one, first_of_two, symbol_starts}

-- ---- names

pub names_sound : (n : ℕ) (ts : List Token) → Holds (λ y. IsNames ts y.1 y.0) (names_of n ts)
unfolding names_of
names_sound zero ts = failed
names_sound (suc n) ts =
    token kind.Name ts _ (λ x t1 all is. rw all
    (by_symbol (codes ",") t1 _ _
    (λ c t2 more comma. rw more (bind _ (names_sound n t2) (λ xs t3 others. fine (more_names is comma others))))
    (λ no. fine (last_name is))))

pub optional_names_sound : (ts : List Token) → Holds (λ y. IsOptionalNames ts y.1 y.0) (optional_names_of ts)
unfolding optional_names_of
optional_names_sound ts =
    by_kind kind.Name ts _ _
    (λ x rest all is. rw all (bind _ (names_sound (length (x ∷ rest)) (x ∷ rest)) (λ xs t1 names. fine (some_names names))))
    (λ no. fine no_names)

-- ---- index expressions

number_term_sound : (s : ℤ) (x : Token) (ts : List Token) → IsNumber x → Holds (λ y. IsTerm s (x ∷ ts) y.1 y.0) (number_term_of s (number_of x.text) x.place ts)
unfolding number_term_of
number_term_sound s x ts is =
    by_kind kind.Name ts _ _
    (λ y rest all called. rw all (fine (number_name is called)))
    (λ no. by_symbol (codes "*") ts _ _
    (λ p rest all star. rw all (token kind.Name rest _ (λ y t1 last called. rw last (fine (number_times_name is star called)))))
    (λ no. fine (number is)))

name_term_sound : (s : ℤ) (y : Token) (ts : List Token) → IsName y → Holds (λ z. IsTerm s (y ∷ ts) z.1 z.0) (name_term_of s y.text y.place ts)
unfolding name_term_of
name_term_sound s y ts is =
    by_symbol (codes "*") ts _ _
    (λ p rest all star. rw all (token kind.Number rest _ (λ x t1 last value. rw last (fine (name_times_number is star value)))))
    (λ no. fine (name is))

pub term_sound : (s : ℤ) (ts : List Token) → Holds (λ y. IsTerm s ts y.1 y.0) (term_of s ts)
unfolding term_of
term_sound s ts =
    by_kind kind.Number ts _ _
    (λ x rest all is. rw all (number_term_sound s x rest is))
    (λ no. by_kind kind.Name ts _ _ (λ y rest all is. rw all (name_term_sound s y rest is)) (λ no. failed))

pub terms_sound : (n : ℕ) (ts : List Token) → Holds (λ y. IsTerms ts y.1 y.0) (terms_of n ts)
unfolding terms_of
terms_sound zero ts = fine terms_end
terms_sound (suc n) ts =
    by_symbol (codes "+") ts _ _
    (λ p rest all plus. rw all (bind _ (term_sound plus_one rest) (λ t t1 first. bind _ (terms_sound n t1) (λ more t2 others. fine (plus_term plus first others)))))
    (λ no. by_symbol (codes "-") ts _ _
    (λ p rest all minus. rw all (bind _ (term_sound minus_one rest) (λ t t1 first. bind _ (terms_sound n t1) (λ more t2 others. fine (minus_term minus first others)))))
    (λ no. fine terms_end))

-- an index expression behind its sign
data IsSigned (s : ℤ) (p : Place) : List Token → List Token → IndexExpr → Type 0 where
  signed : {ts mid rest : List Token} {t : Term} {more : List Term} → IsTerm s ts mid t → IsTerms mid rest more → IsSigned s p ts rest (record { terms = t ∷ more; place = p })

signed_sound : (s : ℤ) (p : Place) (ts : List Token) → Holds (λ y. IsSigned s p ts y.1 y.0) (signed_index_of s p ts)
unfolding signed_index_of
signed_sound s p ts = bind _ (term_sound s ts) (λ t t1 first. bind _ (terms_sound (length t1) t1) (λ more t2 others. fine (signed first others)))

no_term : {s : ℤ} {rest : List Token} {t : Term} → IsTerm s [] rest t → ⊥
no_term h = elim h [ ]

minus_signed : (m : Token) (ts rest : List Token) (e : IndexExpr) → IsSymbol (codes "-") m → IsSigned minus_one m.place ts rest e → IsIndex (m ∷ ts) rest e
minus_signed m ts rest e is (signed first others) = minus_index is first others

plain_signed : (ts rest : List Token) (e : IndexExpr) → IsSigned plus_one (place_of ts) ts rest e → IsIndex ts rest e
plain_signed [] rest e (signed first others) = absurd (no_term first)
plain_signed (x ∷ ts) rest e (signed first others) = index first others

pub index_sound : (ts : List Token) → Holds (λ y. IsIndex ts y.1 y.0) (index_of ts)
unfolding index_of
index_sound ts =
    by_symbol (codes "-") ts _ _
    (λ m rest all is. rw all (weaker (signed_sound minus_one m.place rest) (λ y e. minus_signed m rest y.1 y.0 is e)))
    (λ no. weaker (signed_sound plus_one (place_of ts) ts) (λ y e. plain_signed ts y.1 y.0 e))

pub indices_sound : (n : ℕ) (ts : List Token) → Holds (λ y. IsIndices ts y.1 y.0 × (length y.0 ≤ suc n)) (indices_of n ts)
unfolding indices_of
indices_sound zero ts = bind _ (index_sound ts) (λ e t1 is. fine (last_index is, omega arith))
indices_sound (suc n) ts =
    bind _ (index_sound ts) (λ e t1 is.
    by_symbol (codes ",") t1 _ _
    (λ c t2 all comma. rw all (bind _ (indices_sound n t2) (λ es t3 q. fine (more_indices (rw all at is) comma q.0, (let few = q.1 in omega arith)))))
    (λ no. fine (last_index is, omega arith)))

pub optional_indices_sound : (ts : List Token) → Holds (λ y. IsOptionalIndices ts y.1 y.0) (optional_indices_of ts)
unfolding optional_indices_of
optional_indices_sound ts = by_test (begins_index ts) _ _ (λ yes. weaker (indices_sound (length ts) ts) (λ y q. some_indices q.0)) (λ no. fine no_indices)

-- ---- comparisons

pub list_sound : (ts : List Token) → Holds (λ y. IsSide ts y.1 y.0) (list_of ts)
unfolding list_of
list_sound ts =
    symbol (codes "(") ts _ (λ o t0 all opened. rw all
    (bind _ (indices_sound 7 t0) (λ es t1 q.
    symbol (codes ")") t1 _ (λ c t2 end close. fine (list_side opened (rw end at q.0) q.1 close)))))

pub side_sound : (ts : List Token) → Holds (λ y. IsSide ts y.1 y.0) (side_of ts)
unfolding side_of
side_sound ts = by_test (begins_symbol (codes "(") ts) _ _ (λ yes. list_sound ts) (λ no. bind _ (index_sound ts) (λ e t1 is. fine (one_side is)))

related : (r : Relation) (ts : List Token) → r ≢ relation.Unequal → begins_symbol (spelling r) ts ≡ true → Starts (IsRelation r) ts (after ts)
related r ts other e = let q = symbol_starts (spelling r) ts e in (q.0, q.1, (other, q.2))

pub relation_at_sound : (ts : List Token) → Chosen (λ r. Starts (IsRelation r) ts (after ts)) (relation_at ts)
unfolding relation_at
relation_at_sound ts =
    first_of_two _ relation.Less _ (related relation.Less ts (λ e. cc))
    (first_of_two _ relation.LessEqual _ (related relation.LessEqual ts (λ e. cc))
    (first_of_two _ relation.Greater _ (related relation.Greater ts (λ e. cc))
    (first_of_two _ relation.GreaterEqual _ (related relation.GreaterEqual ts (λ e. cc))
    (first_of_two _ relation.Equal _ (related relation.Equal ts (λ e. cc)) nothing))))

pub relation_by_sound : (P : Relation → Token → Type 0) (o : Option Relation) (ts : List Token) → Chosen (λ r. Starts (P r) ts (after ts)) o
    → Holds (λ y. Starts (P y.0) ts y.1) (relation_by o ts)
unfolding relation_by
relation_by_sound P None ts is = failed
relation_by_sound P (Some r) ts (one is) = fine is

pub chain_sound : (n : ℕ) (lefts : List IndexExpr) (ts : List Token) → Holds (λ y. IsChain lefts ts y.1 y.0) (chain_of n lefts ts)
unfolding chain_of
chain_sound zero lefts ts = failed
chain_sound (suc n) lefts ts =
    bind _ (relation_by_sound IsRelation (relation_at ts) ts (relation_at_sound ts)) (λ r t1 q. rw q.1
    (bind _ (side_sound t1) (λ es t2 side.
    by_test (is_there (relation_at t2)) _ _
    (λ yes. bind _ (chain_sound n es t2) (λ cs t3 others. fine (more_sides q.2 side others)))
    (λ no. fine (last_side q.2 side)))))

pub constraint_sound : (ts : List Token) → Holds (λ y. IsConstraint ts y.1 y.0) (constraint_of ts)
unfolding constraint_of
constraint_sound ts = bind _ (side_sound ts) (λ es t1 side. weaker (chain_sound (length t1) es t1) (λ y chain. constraint side chain))

pub constraints_sound : (n : ℕ) (ts : List Token) → Holds (λ y. IsConstraints ts y.1 y.0) (constraints_of n ts)
unfolding constraints_of
constraints_sound zero ts = failed
constraints_sound (suc n) ts =
    bind _ (constraint_sound ts) (λ cs t1 first.
    by_symbol (codes ";") t1 _ _
    (λ s t2 all semicolon. rw all (by_test (begins_symbol (codes "}") t2) _ _
    (λ yes. fine (closed_constraint (rw all at first) semicolon))
    (λ no. bind _ (constraints_sound n t2) (λ ds t3 others. fine (more_constraints (rw all at first) semicolon others)))))
    (λ no. fine (last_constraint first)))

-- ---- domains and maps

bar_sound : (b : Token) (ts : List Token) → IsSymbol (codes "|") b → Holds (λ y. IsConditions (b ∷ ts) y.1 y.0) (bar_of ts)
unfolding bar_of
bar_sound b ts is = by_test (begins_symbol (codes "}") ts) _ _ (λ yes. fine (bar is)) (λ no. weaker (constraints_sound (length ts) ts) (λ y cs. conditions is cs))

pub conditions_sound : (ts : List Token) → Holds (λ y. IsConditions ts y.1 y.0) (conditions_of ts)
unfolding conditions_of
conditions_sound ts = by_symbol (codes "|") ts _ _ (λ b rest all is. rw all (bar_sound b rest is)) (λ no. fine no_bar)

pub domain_rest_sound : (o : Token) (ts : List Token) → IsSymbol (codes "{") o → Holds (λ y. IsDomain (o ∷ ts) y.1 y.0) (domain_rest_of o.place ts)
unfolding domain_rest_of
domain_rest_sound o ts opened =
    bind _ (optional_names_sound ts) (λ ns t1 names.
    bind _ (conditions_sound t1) (λ cs t2 bounds.
    symbol (codes "}") t2 _ (λ c t3 all close. fine (domain opened names (rw all at bounds) close))))

pub domain_sound : (ts : List Token) → Holds (λ y. IsDomain ts y.1 y.0) (domain_of ts)
unfolding domain_of
domain_sound ts = symbol (codes "{") ts _ (λ o rest all opened. rw all (domain_rest_sound o rest opened))

pub map_sound : (ts : List Token) → Holds (λ y. IsMap ts y.1 y.0) (map_of ts)
unfolding map_of
map_sound ts =
    symbol (codes "(") ts _ (λ o t0 all opened. rw all
    (bind _ (optional_names_sound t0) (λ ns t1 names.
    symbol (codes "->") t1 _ (λ a t2 turn arrow.
    bind _ (optional_indices_sound t2) (λ es t3 results.
    symbol (codes ")") t3 _ (λ c t4 end close. fine (mapping opened (rw turn at names) arrow (rw end at results) close)))))))
