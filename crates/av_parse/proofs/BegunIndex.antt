-- What was read of names, index expressions, domains and maps before a fault are fronts of them.
use Rattle.std.proofs.Common.{ℕ, zero, suc, ℤ, List, ◌∷◌, length, Option, Some, None, refl}
use Rattle.std.specs.Prelude.{codes}
use Rattle.av_base.specs.declared.place.Place.{Place}
use Rattle.av_base.specs.declared.token_kind.TokenKind.TheVariants as kind
use Rattle.av_base.specs.Tokens.{Token, number_of}
use Rattle.av_tree.specs.declared.domain.IndexExpr.{IndexExpr}
use Rattle.av_tree.specs.declared.relation.Relation.{Relation}
use Rattle.av_tree.specs.Parts.{IsName, IsNumber, IsRelation}
use Rattle.av_tree.specs.IndexGrammar.{plus_one, minus_one}
use Rattle.av_tree.specs.FrontsParts.{not_yet, plus_sign, minus_sign}
use Rattle.av_tree.specs.FrontsIndex as fronts
use Rattle.av_tree.specs.FrontsIndex.{FrontNames, FrontOptionalNames, FrontTerm, FrontTerms, FrontUnsigned, FrontIndex, FrontIndices, FrontOptionalIndices, FrontSide, FrontChain, FrontConstraint, FrontConstraints, FrontConditions, FrontDomainRest, FrontDomain, FrontMap}
use Rattle.av_parse.specs.inner.Reader.{begins, begins_symbol, after, place_of}
use Rattle.av_parse.specs.inner.IndexReader.{names_of, optional_names_of, number_term_of, name_term_of, term_of, terms_of, signed_index_of, index_of, indices_of, begins_index, optional_indices_of, list_of, side_of, relation_at, relation_by, is_there, chain_of, constraint_of, constraints_of, bar_of, conditions_of, domain_rest_of, domain_of, map_of}
use Rattle.av_parse.proofs.SoundSteps.{Starts, Chosen, one}
use Rattle.av_parse.proofs.SoundIndex.{names_sound, optional_names_sound, term_sound, terms_sound, index_sound, indices_sound, optional_indices_sound, side_sound, relation_at_sound, relation_by_sound, chain_sound, constraint_sound, constraints_sound, conditions_sound}
use Rattle.av_parse.proofs.FrontSteps.{StandsAt, given, faulty, stays, passed, no_end, wider, behind, by_test, by_symbol, by_kind, token, symbol}

-- ---- names

pub names_begun : {j : ℕ} (l m : ℕ) (ts : List Token) → StandsAt j (λ w r. FrontNames w l ts r) ts (names_of m ts)
unfolding names_of
names_begun l zero ts = faulty stays (fronts.at_name (not_yet tt))
names_begun l (suc m) ts =
    token kind.Name refl ts _ (fronts.at_name (not_yet tt)) (λ x t1 all is. rw all
    (by_symbol (codes ",") t1 _ _ (fronts.at_comma is (not_yet tt))
    (λ c t2 more comma. rw more (behind _ (names_sound m t2) (names_begun l m t2) (λ w r h. fronts.past_comma is comma h) (λ xs t3 others. given stays)))
    (λ no. given stays)))

pub optional_names_begun : {j : ℕ} (l : ℕ) (ts : List Token) → StandsAt j (λ w r. FrontOptionalNames w l ts r) ts (optional_names_of ts)
unfolding optional_names_of
optional_names_begun l ts =
    by_test (begins kind.Name ts) _ _
    (λ yes. behind _ (names_sound (length ts) ts) (names_begun l (length ts) ts) (λ w r h. fronts.in_names h) (λ xs t1 names. given stays))
    (λ no. given stays)

-- ---- index expressions

number_term_begun : {j : ℕ} (l : ℕ) (s : ℤ) (x : Token) (ts : List Token) → IsNumber x
    → StandsAt j (λ w r. FrontTerm w l (x ∷ ts) r) ts (number_term_of s (number_of x.text) x.place ts)
unfolding number_term_of
number_term_begun l s x ts is =
    by_kind kind.Name refl ts _ _ (fronts.number_at_name is (not_yet tt))
    (λ y rest all called. rw all (given stays))
    (λ no. by_symbol (codes "*") ts _ _ (fronts.number_at_times is (not_yet tt))
    (λ p rest all star. rw all (token kind.Name refl rest _ (fronts.number_times_at_name is star (not_yet tt)) (λ y t1 last called. given stays)))
    (λ no. given stays))

name_term_begun : {j : ℕ} (l : ℕ) (s : ℤ) (y : Token) (ts : List Token) → IsName y → StandsAt j (λ w r. FrontTerm w l (y ∷ ts) r) ts (name_term_of s y.text y.place ts)
unfolding name_term_of
name_term_begun l s y ts is =
    by_symbol (codes "*") ts _ _ (fronts.name_at_times is (not_yet tt))
    (λ p rest all star. rw all (token kind.Number refl rest _ (fronts.name_times_at_number is star (not_yet tt)) (λ x t1 last value. given stays)))
    (λ no. given stays)

pub term_begun : {j : ℕ} (l : ℕ) (s : ℤ) (ts : List Token) → StandsAt j (λ w r. FrontTerm w l ts r) ts (term_of s ts)
unfolding term_of
term_begun l s ts =
    by_kind kind.Number refl ts _ _ (fronts.at_number (not_yet tt))
    (λ x rest all is. rw all (number_term_begun l s x rest is))
    (λ no. by_kind kind.Name refl ts _ _ (fronts.at_name (not_yet tt))
    (λ y rest all is. rw all (name_term_begun l s y rest is)) (λ no. faulty stays (fronts.at_number (not_yet tt))))

pub terms_begun : {j : ℕ} (l m : ℕ) (ts : List Token) → StandsAt j (λ w r. FrontTerms w l ts r) ts (terms_of m ts)
unfolding terms_of
terms_begun l zero ts = given stays
terms_begun l (suc m) ts =
    by_symbol (codes "+") ts _ _ (fronts.no_term_yet tt)
    (λ p rest all plus. rw all (behind _ (term_sound plus_one rest) (term_begun l plus_one rest) (λ w r h. fronts.in_term (plus_sign plus) h) (λ t t1 first.
    behind _ (terms_sound m t1) (terms_begun l m t1) (λ w r h. fronts.past_term (plus_sign plus) first h) (λ more t2 others. given stays))))
    (λ no. by_symbol (codes "-") ts _ _ (fronts.no_term_yet tt)
    (λ p rest all minus. rw all (behind _ (term_sound minus_one rest) (term_begun l minus_one rest) (λ w r h. fronts.in_term (minus_sign minus) h) (λ t t1 first.
    behind _ (terms_sound m t1) (terms_begun l m t1) (λ w r h. fronts.past_term (minus_sign minus) first h) (λ more t2 others. given stays))))
    (λ no. given stays))

signed_begun : {j : ℕ} (l : ℕ) (s : ℤ) (p : Place) (ts : List Token) → StandsAt j (λ w r. FrontUnsigned w l ts r) ts (signed_index_of s p ts)
unfolding signed_index_of
signed_begun l s p ts =
    behind _ (term_sound s ts) (term_begun l s ts) (λ w r h. fronts.in_first h) (λ t t1 first.
    behind _ (terms_sound (length t1) t1) (terms_begun l (length t1) t1) (λ w r h. fronts.past_first first h) (λ more t2 others. given stays))

pub index_begun : {j : ℕ} (l : ℕ) (ts : List Token) → StandsAt j (λ w r. FrontIndex w l ts r) ts (index_of ts)
unfolding index_of
index_begun l ts =
    by_symbol (codes "-") ts _ _ (fronts.at_minus (not_yet tt))
    (λ m rest all is. rw all (wider (signed_begun l minus_one m.place rest) (λ w r h. fronts.past_minus is h)))
    (λ no. wider (signed_begun l plus_one (place_of ts) ts) (λ w r h. fronts.unsigned h))

pub indices_begun : {j : ℕ} (l m : ℕ) (ts : List Token) → StandsAt j (λ w r. FrontIndices w l m ts r) ts (indices_of m ts)
unfolding indices_of
indices_begun l zero ts = behind _ (index_sound ts) (index_begun l ts) (λ w r h. fronts.in_index h) (λ e t1 is. given stays)
indices_begun l (suc m) ts =
    behind _ (index_sound ts) (index_begun l ts) (λ w r h. fronts.in_index h) (λ e t1 is.
    by_symbol (codes ",") t1 _ _ (fronts.at_comma is (not_yet tt))
    (λ c t2 all comma. rw all (behind _ (indices_sound m t2) (indices_begun l m t2) (λ w r h. fronts.past_comma (rw all at is) comma h) (λ es t3 q. given stays)))
    (λ no. given stays))

pub optional_indices_begun : {j : ℕ} (l : ℕ) (ts : List Token) → StandsAt j (λ w r. FrontOptionalIndices w l ts r) ts (optional_indices_of ts)
unfolding optional_indices_of
optional_indices_begun l ts = by_test (begins_index ts) _ _ (λ yes. wider (indices_begun l (length ts) ts) (λ w r h. fronts.in_indices h)) (λ no. given stays)

-- ---- comparisons

list_begun : {j : ℕ} (l : ℕ) (ts : List Token) → StandsAt j (λ w r. FrontSide w l ts r) ts (list_of ts)
unfolding list_of
list_begun l ts =
    symbol (codes "(") ts _ (fronts.at_open (not_yet tt)) (λ o t0 all opened. rw all
    (behind _ (indices_sound 7 t0) (indices_begun l 7 t0) (λ w r h. fronts.in_list opened h) (λ es t1 q.
    symbol (codes ")") t1 _ (fronts.at_close opened q.0 q.1 (not_yet tt)) (λ c t2 end close. given stays))))

pub side_begun : {j : ℕ} (l : ℕ) (ts : List Token) → StandsAt j (λ w r. FrontSide w l ts r) ts (side_of ts)
unfolding side_of
side_begun l ts =
    by_test (begins_symbol (codes "(") ts) _ _
    (λ yes. list_begun l ts)
    (λ no. behind _ (index_sound ts) (index_begun l ts) (λ w r h. fronts.in_index h) (λ e t1 is. given stays))

relation_begun : {j : ℕ} (l : ℕ) (o : Option Relation) (ts : List Token) → Chosen (λ r. Starts (IsRelation r) ts (after ts)) o
    → StandsAt j (λ w r. FrontChain w l ts r) ts (relation_by o ts)
unfolding relation_by
relation_begun l None ts is = faulty stays (fronts.at_relation (not_yet tt))
relation_begun l (Some r) ts (one is) = rw is.1 (passed (fronts.at_relation (not_yet tt)) (no_end kind.Symbol is.0 refl is.2.1.0) (given stays))

pub chain_begun : {j : ℕ} (l m : ℕ) (lefts : List IndexExpr) (ts : List Token) → StandsAt j (λ w r. FrontChain w l ts r) ts (chain_of m lefts ts)
unfolding chain_of
chain_begun l zero lefts ts = faulty stays (fronts.at_relation (not_yet tt))
chain_begun l (suc m) lefts ts =
    behind _ (relation_by_sound IsRelation (relation_at ts) ts (relation_at_sound ts)) (relation_begun l (relation_at ts) ts (relation_at_sound ts)) (λ w r h. h) (λ by t1 q. rw q.1
    (behind _ (side_sound t1) (side_begun l t1) (λ w r h. fronts.in_side (by, q.2) h) (λ es t2 side.
    by_test (is_there (relation_at t2)) _ _
    (λ yes. behind _ (chain_sound m es t2) (chain_begun l m es t2) (λ w r h. fronts.past_side (by, q.2) side h) (λ cs t3 others. given stays))
    (λ no. given stays))))

pub constraint_begun : {j : ℕ} (l : ℕ) (ts : List Token) → StandsAt j (λ w r. FrontConstraint w l ts r) ts (constraint_of ts)
unfolding constraint_of
constraint_begun l ts =
    behind _ (side_sound ts) (side_begun l ts) (λ w r h. fronts.in_left h) (λ es t1 side.
    wider (chain_begun l (length t1) es t1) (λ w r h. fronts.past_left side h))

pub constraints_begun : {j : ℕ} (l m : ℕ) (ts : List Token) → StandsAt j (λ w r. FrontConstraints w l ts r) ts (constraints_of m ts)
unfolding constraints_of
constraints_begun l zero ts = faulty stays (fronts.in_constraint (fronts.in_left (fronts.at_open (not_yet tt))))
constraints_begun l (suc m) ts =
    behind _ (constraint_sound ts) (constraint_begun l ts) (λ w r h. fronts.in_constraint h) (λ cs t1 first.
    by_symbol (codes ";") t1 _ _ (fronts.at_semicolon first (not_yet tt))
    (λ s t2 all semicolon. rw all (by_test (begins_symbol (codes "}") t2) _ _
    (λ yes. given stays)
    (λ no. behind _ (constraints_sound m t2) (constraints_begun l m t2) (λ w r h. fronts.past_semicolon (rw all at first) semicolon h) (λ ds t3 others. given stays))))
    (λ no. given stays))

-- ---- domains and maps

pub conditions_begun : {j : ℕ} (l : ℕ) (ts : List Token) → StandsAt j (λ w r. FrontConditions w l ts r) ts (conditions_of ts)
unfolding conditions_of bar_of
conditions_begun l ts =
    by_symbol (codes "|") ts _ _ (fronts.no_bar_yet tt)
    (λ b rest all is. rw all (by_test (begins_symbol (codes "}") rest) _ _
    (λ yes. given stays)
    (λ no. wider (constraints_begun l (length rest) rest) (λ w r h. fronts.in_constraints is h))))
    (λ no. given stays)

pub domain_rest_begun : {j : ℕ} (l : ℕ) (p : Place) (ts : List Token) → StandsAt j (λ w r. FrontDomainRest w l ts r) ts (domain_rest_of p ts)
unfolding domain_rest_of
domain_rest_begun l p ts =
    behind _ (optional_names_sound ts) (optional_names_begun l ts) (λ w r h. fronts.in_names h) (λ ns t1 names.
    behind _ (conditions_sound t1) (conditions_begun l t1) (λ w r h. fronts.in_conditions names h) (λ cs t2 bounds.
    symbol (codes "}") t2 _ (fronts.at_close names bounds (not_yet tt)) (λ c t3 all close. given stays)))

pub domain_begun : {j : ℕ} (l : ℕ) (ts : List Token) → StandsAt j (λ w r. FrontDomain w l ts r) ts (domain_of ts)
unfolding domain_of
domain_begun l ts =
    symbol (codes "{") ts _ (fronts.at_open (not_yet tt)) (λ o rest all opened. rw all
    (wider (domain_rest_begun l o.place rest) (λ w r h. fronts.in_rest opened h)))

pub map_begun : {j : ℕ} (l : ℕ) (ts : List Token) → StandsAt j (λ w r. FrontMap w l ts r) ts (map_of ts)
unfolding map_of
map_begun l ts =
    symbol (codes "(") ts _ (fronts.at_open (not_yet tt)) (λ o t0 all opened. rw all
    (behind _ (optional_names_sound t0) (optional_names_begun l t0) (λ w r h. fronts.in_names opened h) (λ ns t1 names.
    symbol (codes "->") t1 _ (fronts.at_arrow opened names (not_yet tt)) (λ a t2 turn arrow.
    behind _ (optional_indices_sound t2) (optional_indices_begun l t2) (λ w r h. fronts.in_results opened (rw turn at names) arrow h) (λ es t3 results.
    symbol (codes ")") t3 _ (fronts.at_close opened (rw turn at names) arrow results (not_yet tt)) (λ c t4 end close. given stays))))))
