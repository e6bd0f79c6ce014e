-- No front of a name, an index expression, a domain or a map goes beyond where its reader stops.
use Rattle.std.proofs.Common.{◌≡◌, ℕ, zero, suc, ◌≤◌, ℤ, true, List, ◌∷◌, length, Result, Ok, refl, sym, ap, subst, arith, inl, inr, ◌⊎◌}
use Rattle.std.specs.Prelude.{codes}
use Rattle.av_base.specs.declared.place.Place.{Place}
use Rattle.av_base.specs.declared.token_kind.TokenKind.TheVariants as kind
use Rattle.av_base.specs.Tokens.{Token, number_of}
use Rattle.av_tree.specs.declared.domain.Term.{Term}
use Rattle.av_tree.specs.declared.domain.IndexExpr.{IndexExpr}
use Rattle.av_tree.specs.Trees.{Text}
use Rattle.av_tree.specs.Parts.{IsName, IsNumber, IsSymbol}
use Rattle.av_tree.specs.IndexGrammar as whole
use Rattle.av_tree.specs.IndexGrammar.{IsTerm, plus_one, minus_one}
use Rattle.av_tree.specs.FrontsParts.{Meant, not_yet, came, IsSign, plus_sign, minus_sign}
use Rattle.av_tree.specs.FrontsIndex as fronts
use Rattle.av_tree.specs.FrontsIndex.{FrontNames, FrontOptionalNames, FrontTerm, FrontTerms, FrontUnsigned, FrontIndex, FrontIndices, FrontOptionalIndices, FrontSide, FrontChain, FrontConstraint, FrontConstraints, FrontConditions, FrontDomainRest, FrontDomain, FrontMap}
use Rattle.av_parse.specs.declared.fault.Fault.{Fault}
use Rattle.av_parse.specs.inner.Reader.{◌>>=◌, begins, after, place_of}
use Rattle.av_parse.specs.inner.IndexReader.{names_of, optional_names_of, number_term_of, name_term_of, term_of, terms_of, signed_index_of, index_of, indices_of, optional_indices_of, list_of, side_of, relation_at, relation_by, is_there, chain_of, constraint_of, constraints_of, bar_of, conditions_of, domain_rest_of, domain_of, map_of}
use Rattle.av_parse.proofs.Follow.{same_self, symbol_yes, kind_not, text_not, expect_gives, symbol_gives, known, EndsNames, EndsTerm, EndsIndex}
use Rattle.av_parse.proofs.Takes.{term_takes, index_takes, side_takes, constraint_takes}
use Rattle.av_parse.proofs.CompleteIndex.{term_complete, BeginsTerm, by_number, by_name, BeginsIndex, by_term, by_minus, BeginsSide, by_index, by_list, term_begins, index_begins, no_symbol, no_list, no_close, index_is_there, index_begins, constraint_begins, side_begins, index_complete, comma_ends, optional_names_complete, list_gives, side_complete, relation_found, relation_ends, constraint_complete, semicolon_ends, domain_rest_gives, map_complete}
use Rattle.av_parse.proofs.WithinIndex.{Within, left, stops, closer, bind_within, if_within, le_same, after_within, expect_within, symbol_within, names_within, optional_names_within, number_term_within, name_term_within, term_within, terms_within, signed_within, index_within, indices_within, optional_indices_within, side_within, chain_within, constraints_within, bar_within, conditions_within, domain_rest_within, domain_within, map_within}
use Rattle.av_parse.proofs.WholeIndex.{optional_names_front, term_front, index_front, indices_front, optional_indices_front, side_front, constraint_front, conditions_front}

-- nothing of the part came
pub here : {A : Type 0} {ts r : List Token} {x : Result (A × List Token) Fault} → r ≡ ts → Within (length ts) x → Within (length r) x
here {x = x} e h = subst (λ z. Within (length z) x) (sym e) h

-- ---- names

one_name : (x : Token) (ts : List Token) (m : ℕ) → IsName x → Within (length ts) (names_of (suc m) (x ∷ ts))
unfolding names_of
one_name x ts m is =
    rw (expect_gives kind.Name x ts is) (if_within _ (bind_within _ (closer (names_within m (after ts)) (after_within ts)) (λ y. left (le_same _))) (left (le_same _)))

pub front_names : {w : Meant} {l : ℕ} {ts r : List Token} → FrontNames w l ts r → (m : ℕ) → length ts ≤ m → Within (length r) (names_of m ts)
unfolding names_of
front_names (fronts.at_name {ts = ts} (not_yet w)) m few = names_within m ts
front_names (fronts.at_name (came {x = x} {ts = ts} is w)) zero few = absurd (omega arith)
front_names (fronts.at_name (came {x = x} {ts = ts} is w)) (suc m) few = one_name x ts m is
front_names (fronts.at_comma is next) zero few = absurd (omega arith)
front_names (fronts.at_comma {x = x} {ts = ts} is (not_yet w)) (suc m) few = one_name x ts m is
front_names (fronts.at_comma {x = x} is (came {x = c} {ts = ts} comma w)) (suc m) few =
    rw (expect_gives kind.Name x (c ∷ ts) is, symbol_yes (codes ",") c ts comma) (bind_within _ (names_within m ts) (λ y. left (le_same _)))
front_names (fronts.past_comma is comma h) zero few = absurd (omega arith)
front_names (fronts.past_comma {x = x} {c = c} {ts = ts} is comma h) (suc m) few =
    rw (expect_gives kind.Name x (c ∷ ts) is, symbol_yes (codes ",") c ts comma) (bind_within _ (front_names h m (omega arith)) (λ y. left (le_same _)))

pub names_start : {w : Meant} {l : ℕ} {ts r : List Token} → FrontNames w l ts r → (r ≡ ts) ⊎ (begins kind.Name ts ≡ true)
names_start (fronts.at_name (not_yet w)) = inl refl
names_start (fronts.at_name (came {x = x} is w)) = inr (same_self x.kind kind.Name is)
names_start (fronts.at_comma {x = x} is next) = inr (same_self x.kind kind.Name is)
names_start (fronts.past_comma {x = x} is comma h) = inr (same_self x.kind kind.Name is)

pub front_optional_names : {w : Meant} {l : ℕ} {ts r : List Token} → FrontOptionalNames w l ts r → Within (length r) (optional_names_of ts)
unfolding optional_names_of
front_optional_names (fronts.no_name_yet {ts = ts} w) = optional_names_within ts
front_optional_names (fronts.in_names {ts = ts} h) =
    elim (names_start h) [
      | inl e ↦ here e (optional_names_within ts)
      | inr b ↦ rw b (bind_within _ (front_names h (length ts) (le_same _)) (λ y. left (le_same _)))
    ]

-- ---- terms

number_read : (s : ℤ) (x : Token) (ts : List Token) → IsNumber x → Within (length ts) (term_of s (x ∷ ts))
unfolding term_of
number_read s x ts is = rw (same_self x.kind kind.Number is) (number_term_within s (number_of x.text) x.place ts)

name_read : (s : ℤ) (y : Token) (ts : List Token) → IsName y → Within (length ts) (term_of s (y ∷ ts))
unfolding term_of
name_read s y ts is = rw (kind_not kind.Name kind.Number y ts is refl, same_self y.kind kind.Name is) (name_term_within s y.text y.place ts)

number_times_read : (s : ℤ) (x p : Token) (ts : List Token) → IsNumber x → IsSymbol (codes "*") p → Within (length ts) (term_of s (x ∷ p ∷ ts))
unfolding term_of number_term_of
number_times_read s x p ts is star =
    rw (same_self x.kind kind.Number is, kind_not kind.Symbol kind.Name p ts star.0 refl, symbol_yes (codes "*") p ts star) (bind_within _ (expect_within kind.Name ts) (λ y. left (le_same _)))

name_times_read : (s : ℤ) (y p : Token) (ts : List Token) → IsName y → IsSymbol (codes "*") p → Within (length ts) (term_of s (y ∷ p ∷ ts))
unfolding term_of name_term_of
name_times_read s y p ts is star =
    rw (kind_not kind.Name kind.Number y (p ∷ ts) is refl, same_self y.kind kind.Name is, symbol_yes (codes "*") p ts star) (bind_within _ (expect_within kind.Number ts) (λ y. left (le_same _)))

pub front_term : {w : Meant} {l : ℕ} {ts r : List Token} → FrontTerm w l ts r → (s : ℤ) → Within (length r) (term_of s ts)
unfolding term_of number_term_of name_term_of
front_term (fronts.at_number {ts = ts} (not_yet w)) s = term_within s ts
front_term (fronts.at_number (came {x = x} {ts = ts} is w)) s = number_read s x ts is
front_term (fronts.at_name {ts = ts} (not_yet w)) s = term_within s ts
front_term (fronts.at_name (came {x = y} {ts = ts} is w)) s = name_read s y ts is
front_term (fronts.number_at_name {x = x} {ts = ts} is (not_yet w)) s = number_read s x ts is
front_term (fronts.number_at_name {x = x} is (came {x = y} {ts = ts} called w)) s = rw (same_self x.kind kind.Number is, same_self y.kind kind.Name called) (left (le_same _))
front_term (fronts.number_at_times {x = x} {ts = ts} is (not_yet w)) s = number_read s x ts is
front_term (fronts.number_at_times {x = x} is (came {x = p} {ts = ts} star w)) s = number_times_read s x p ts is star
front_term (fronts.number_times_at_name {x = x} {p = p} {ts = ts} is star (not_yet w)) s = number_times_read s x p ts is star
front_term (fronts.number_times_at_name {x = x} {p = p} is star (came {x = y} {ts = ts} called w)) s =
    rw (same_self x.kind kind.Number is, kind_not kind.Symbol kind.Name p (y ∷ ts) star.0 refl, symbol_yes (codes "*") p (y ∷ ts) star, expect_gives kind.Name y ts called) (left (le_same _))
front_term (fronts.name_at_times {y = y} {ts = ts} is (not_yet w)) s = name_read s y ts is
front_term (fronts.name_at_times {y = y} is (came {x = p} {ts = ts} star w)) s = name_times_read s y p ts is star
front_term (fronts.name_times_at_number {y = y} {p = p} {ts = ts} is star (not_yet w)) s = name_times_read s y p ts is star
front_term (fronts.name_times_at_number {y = y} {p = p} called star (came {x = x} {ts = ts} is w)) s =
    rw (kind_not kind.Name kind.Number y (p ∷ x ∷ ts) called refl, same_self y.kind kind.Name called, symbol_yes (codes "*") p (x ∷ ts) star, expect_gives kind.Number x ts is) (left (le_same _))

term_start : {w : Meant} {l : ℕ} {ts r : List Token} → FrontTerm w l ts r → (r ≡ ts) ⊎ BeginsTerm ts
term_start (fronts.at_number (not_yet w)) = inl refl
term_start (fronts.at_number (came is w)) = inr (by_number is)
term_start (fronts.at_name (not_yet w)) = inl refl
term_start (fronts.at_name (came is w)) = inr (by_name is)
term_start (fronts.number_at_name is next) = inr (by_number is)
term_start (fronts.number_at_times is next) = inr (by_number is)
term_start (fronts.number_times_at_name is star next) = inr (by_number is)
term_start (fronts.name_at_times is next) = inr (by_name is)
term_start (fronts.name_times_at_number is star next) = inr (by_name is)

-- ---- sums of terms

-- the same term behind another sign
resigned : {s : ℤ} {ts rest : List Token} {t : Term} (z : ℤ) → IsTerm s ts rest t → (u : Term) × IsTerm z ts rest u
resigned z (whole.number is) = (_, whole.number is)
resigned z (whole.name is) = (_, whole.name is)
resigned z (whole.number_name is called) = (_, whole.number_name is called)
resigned z (whole.number_times_name is star called) = (_, whole.number_times_name is star called)
resigned z (whole.name_times_number called star is) = (_, whole.name_times_number called star is)

sign_ends : (p : Token) (ts : List Token) → IsSign p → EndsTerm (p ∷ ts)
sign_ends p ts (plus_sign is) = known (λ z. EndsTerm (z ∷ ts)) p is (refl, refl)
sign_ends p ts (minus_sign is) = known (λ z. EndsTerm (z ∷ ts)) p is (refl, refl)

terms_start : {w : Meant} {l : ℕ} {ts r : List Token} → FrontTerms w l ts r → (r ≡ ts) ⊎ EndsTerm ts
terms_start (fronts.no_term_yet w) = inl refl
terms_start (fronts.at_sign (not_yet w)) = inl refl
terms_start (fronts.at_sign (came {x = p} {ts = ts} is w)) = inr (sign_ends p ts is)
terms_start (fronts.in_term {p = p} {ts = ts} is h) = inr (sign_ends p ts is)
terms_start (fronts.past_term {p = p} {ts = ts} is first h) = inr (sign_ends p ts is)

sign_read : (p : Token) (m : ℕ) (ts : List Token) → IsSign p
    → (s : ℤ) × (terms_of (suc m) (p ∷ ts) ≡ (term_of s ts >>= λ t. terms_of m t.1 >>= λ more. Ok (t.0 ∷ more.0, more.1)))
unfolding terms_of
sign_read p m ts (plus_sign is) = (plus_one, rw (symbol_yes (codes "+") p ts is) refl)
sign_read p m ts (minus_sign is) = (minus_one, rw (text_not kind.Symbol (codes "-") (codes "+") p ts is refl, symbol_yes (codes "-") p ts is) refl)

pub front_terms : {w : Meant} {l : ℕ} {ts r : List Token} → FrontTerms w l ts r → (m : ℕ) → length ts ≤ m → Within (length r) (terms_of m ts)
front_terms (fronts.no_term_yet {ts = ts} w) m few = terms_within m ts
front_terms (fronts.at_sign {ts = ts} (not_yet w)) m few = terms_within m ts
front_terms (fronts.at_sign (came is w)) zero few = absurd (omega arith)
front_terms (fronts.at_sign (came {x = p} {ts = ts} is w)) (suc m) few =
    let q = sign_read p m ts is in
    rw q.1 (bind_within _ (term_within q.0 ts) (λ x. bind_within _ (terms_within m x.1) (λ y. left (le_same _))))
front_terms (fronts.in_term is h) zero few = absurd (omega arith)
front_terms (fronts.in_term {p = p} {ts = ts} is h) (suc m) few =
    let q = sign_read p m ts is in
    rw q.1 (bind_within _ (front_term h q.0) (λ x. bind_within _ (terms_within m x.1) (λ y. left (le_same _))))
front_terms (fronts.past_term is first h) zero few = absurd (omega arith)
front_terms (fronts.past_term {p = p} {ts = ts} {mid = mid} is first h) (suc m) few =
    let q = sign_read p m ts is in
    rw q.1 (elim (terms_start h) [
      | inl e ↦ here e (bind_within _ (front_term (term_front 0 first) q.0) (λ x. bind_within _ (terms_within m x.1) (λ y. left (le_same _))))
      | inr ends ↦ rw (term_complete (resigned q.0 first).1 ends) (bind_within _ (front_terms h m (let k = term_takes first in omega arith)) (λ y. left (le_same _)))
    ])

front_unsigned : {w : Meant} {l : ℕ} {ts r : List Token} → FrontUnsigned w l ts r → (s : ℤ) (p : Place) → Within (length r) (signed_index_of s p ts)
unfolding signed_index_of
front_unsigned (fronts.in_first h) s p = bind_within _ (front_term h s) (λ x. bind_within _ (terms_within (length x.1) x.1) (λ y. left (le_same _)))
front_unsigned (fronts.past_first {mid = mid} first h) s p =
    elim (terms_start h) [
      | inl e ↦ here e (bind_within _ (front_term (term_front 0 first) s) (λ x. bind_within _ (terms_within (length x.1) x.1) (λ y. left (le_same _))))
      | inr ends ↦ rw (term_complete (resigned s first).1 ends) (bind_within _ (front_terms h (length mid) (le_same _)) (λ y. left (le_same _)))
    ]

unsigned_start : {w : Meant} {l : ℕ} {ts r : List Token} → FrontUnsigned w l ts r → (r ≡ ts) ⊎ BeginsTerm ts
unsigned_start (fronts.in_first h) = term_start h
unsigned_start (fronts.past_first first h) = inr (term_begins first)

pub front_index : {w : Meant} {l : ℕ} {ts r : List Token} → FrontIndex w l ts r → Within (length r) (index_of ts)
unfolding index_of
front_index (fronts.at_minus {ts = ts} (not_yet w)) = index_within ts
front_index (fronts.at_minus (came {x = m} {ts = ts} is w)) = rw (symbol_yes (codes "-") m ts is) (signed_within minus_one m.place ts)
front_index (fronts.past_minus {m = m} {ts = ts} is h) = rw (symbol_yes (codes "-") m ts is) (front_unsigned h minus_one m.place)
front_index (fronts.unsigned {ts = ts} h) =
    elim (unsigned_start h) [
      | inl e ↦ here e (index_within ts)
      | inr b ↦ rw (no_symbol (codes "-") ts b) (front_unsigned h plus_one (place_of ts))
    ]

index_start : {w : Meant} {l : ℕ} {ts r : List Token} → FrontIndex w l ts r → (r ≡ ts) ⊎ BeginsIndex ts
index_start (fronts.at_minus (not_yet w)) = inl refl
index_start (fronts.at_minus (came is w)) = inr (by_minus is)
index_start (fronts.past_minus is h) = inr (by_minus is)
index_start (fronts.unsigned h) = elim (unsigned_start h) [ inl e ↦ inl e | inr b ↦ inr (by_term b) ]

-- ---- lists of index expressions

one_index : (ts r : List Token) → Within (length r) (index_of ts) → (m : ℕ) → Within (length r) (indices_of m ts)
unfolding indices_of
one_index ts r h zero = bind_within _ h (λ e. left (le_same _))
one_index ts r h (suc m) = bind_within _ h (λ e. if_within _ (bind_within _ (closer (indices_within m (after e.1)) (after_within e.1)) (λ y. left (le_same _))) (left (le_same _)))

-- as many commas are read as the front may have, or as there are tokens
pub front_indices : {w : Meant} {l k : ℕ} {ts r : List Token} → FrontIndices w l k ts r → (m : ℕ) → (k ≤ m) ⊎ (length ts ≤ m) → Within (length r) (indices_of m ts)
unfolding indices_of
front_indices (fronts.in_index {ts = ts} {r = r} h) m enough = one_index ts r (front_index h) m
front_indices (fronts.at_comma {ts = ts} {mid = mid} is (not_yet w)) m enough = one_index ts mid (front_index (index_front 0 is)) m
front_indices (fronts.at_comma is (came comma w)) zero enough = absurd (elim enough [ inl a ↦ omega arith | inr a ↦ let k = index_takes is in omega arith ])
front_indices (fronts.at_comma is (came {x = c} {ts = ts} comma w)) (suc m) enough =
    rw (index_complete is (comma_ends c ts comma), symbol_yes (codes ",") c ts comma) (bind_within _ (indices_within m ts) (λ y. left (le_same _)))
front_indices (fronts.past_comma is comma h) zero enough = absurd (elim enough [ inl a ↦ omega arith | inr a ↦ let k = index_takes is in omega arith ])
front_indices (fronts.past_comma {c = c} {mid = mid} is comma h) (suc m) enough =
    rw (index_complete is (comma_ends c mid comma), symbol_yes (codes ",") c mid comma)
    (bind_within _ (front_indices h m (elim enough [ inl a ↦ inl (omega arith) | inr a ↦ inr (let k = index_takes is in omega arith) ])) (λ y. left (le_same _)))

indices_start : {w : Meant} {l k : ℕ} {ts r : List Token} → FrontIndices w l k ts r → (r ≡ ts) ⊎ BeginsIndex ts
indices_start (fronts.in_index h) = index_start h
indices_start (fronts.at_comma is next) = inr (index_begins is)
indices_start (fronts.past_comma is comma h) = inr (index_begins is)

pub front_optional_indices : {w : Meant} {l : ℕ} {ts r : List Token} → FrontOptionalIndices w l ts r → Within (length r) (optional_indices_of ts)
unfolding optional_indices_of
front_optional_indices (fronts.no_index_yet {ts = ts} w) = optional_indices_within ts
front_optional_indices (fronts.in_indices {ts = ts} h) =
    elim (indices_start h) [
      | inl e ↦ here e (optional_indices_within ts)
      | inr b ↦ rw (index_is_there ts b) (front_indices h (length ts) (inr (le_same _)))
    ]

-- ---- comparisons

list_open : (o : Token) (ts r : List Token) → IsSymbol (codes "(") o → Within (length r) (indices_of 7 ts) → Within (length r) (side_of (o ∷ ts))
unfolding side_of list_of
list_open o ts r is h =
    rw (symbol_yes (codes "(") o ts is, symbol_gives (codes "(") o ts is) (bind_within _ h (λ es. bind_within _ (symbol_within (codes ")") es.1) (λ y. left (le_same _))))

pub front_side : {w : Meant} {l : ℕ} {ts r : List Token} → FrontSide w l ts r → Within (length r) (side_of ts)
unfolding side_of
front_side (fronts.in_index {ts = ts} h) =
    elim (index_start h) [
      | inl e ↦ here e (side_within ts)
      | inr b ↦ rw (no_list ts b) (bind_within _ (front_index h) (λ y. left (le_same _)))
    ]
front_side (fronts.at_open {ts = ts} (not_yet w)) = side_within ts
front_side (fronts.at_open (came {x = o} {ts = ts} is w)) = list_open o ts ts is (indices_within 7 ts)
front_side (fronts.in_list {o = o} {ts = ts} {r = r} is h) = list_open o ts r is (front_indices h 7 (inl (le_same _)))
front_side (fronts.at_close {o = o} {ts = ts} {mid = mid} is items few (not_yet w)) = list_open o ts mid is (front_indices (indices_front 0 7 few items) 7 (inl (le_same _)))
front_side (fronts.at_close {o = o} {ts = ts} {es = es} is items few (came {x = c} {ts = t} close w)) =
    rw (symbol_yes (codes "(") o ts is, list_gives o c ts t es is items few close) (left (le_same _))

side_start : {w : Meant} {l : ℕ} {ts r : List Token} → FrontSide w l ts r → (r ≡ ts) ⊎ BeginsSide ts
side_start (fronts.in_index h) = elim (index_start h) [ inl e ↦ inl e | inr b ↦ inr (by_index b) ]
side_start (fronts.at_open (not_yet w)) = inl refl
side_start (fronts.at_open (came is w)) = inr (by_list is)
side_start (fronts.in_list is h) = inr (by_list is)
side_start (fronts.at_close is items few next) = inr (by_list is)

chain_start : {w : Meant} {l : ℕ} {ts r : List Token} → FrontChain w l ts r → (r ≡ ts) ⊎ (EndsIndex ts × (is_there (relation_at ts) ≡ true))
chain_start (fronts.at_relation (not_yet w)) = inl refl
chain_start (fronts.at_relation (came {x = q} {ts = ts} is w)) = inr (relation_ends is.0 q ts is.1, ap is_there (relation_found is.0 q ts is.1))
chain_start (fronts.in_side {q = q} {ts = ts} is h) = inr (relation_ends is.0 q ts is.1, ap is_there (relation_found is.0 q ts is.1))
chain_start (fronts.past_side {q = q} {ts = ts} is side h) = inr (relation_ends is.0 q ts is.1, ap is_there (relation_found is.0 q ts is.1))

pub front_chain : {w : Meant} {l : ℕ} {ts r : List Token} → FrontChain w l ts r → (m : ℕ) (lefts : List IndexExpr) → length ts ≤ m → Within (length r) (chain_of m lefts ts)
unfolding chain_of relation_by
front_chain (fronts.at_relation {ts = ts} (not_yet w)) m lefts few = chain_within m lefts ts
front_chain (fronts.at_relation (came is w)) zero lefts few = absurd (omega arith)
front_chain (fronts.at_relation (came {x = q} {ts = ts} is w)) (suc m) lefts few =
    rw (relation_found is.0 q ts is.1) (bind_within _ (side_within ts) (λ es. if_within _ (bind_within _ (chain_within m es.0 es.1) (λ y. left (le_same _))) (left (le_same _))))
front_chain (fronts.in_side is h) zero lefts few = absurd (omega arith)
front_chain (fronts.in_side {q = q} {ts = ts} is h) (suc m) lefts few =
    rw (relation_found is.0 q ts is.1) (bind_within _ (front_side h) (λ es. if_within _ (bind_within _ (chain_within m es.0 es.1) (λ y. left (le_same _))) (left (le_same _))))
front_chain (fronts.past_side is side h) zero lefts few = absurd (omega arith)
front_chain (fronts.past_side {q = q} {ts = ts} is side h) (suc m) lefts few =
    rw (relation_found is.0 q ts is.1) (elim (chain_start h) [
      | inl e ↦ here e (bind_within _ (front_side (side_front 0 side)) (λ es. if_within _ (bind_within _ (chain_within m es.0 es.1) (λ y. left (le_same _))) (left (le_same _))))
      | inr b ↦ rw (side_complete side b.0, b.1) (bind_within _ (front_chain h m _ (let k = side_takes side in omega arith)) (λ y. left (le_same _)))
    ])

pub front_constraint : {w : Meant} {l : ℕ} {ts r : List Token} → FrontConstraint w l ts r → Within (length r) (constraint_of ts)
unfolding constraint_of
front_constraint (fronts.in_left h) = bind_within _ (front_side h) (λ es. chain_within (length es.1) es.0 es.1)
front_constraint (fronts.past_left {mid = mid} side h) =
    elim (chain_start h) [
      | inl e ↦ here e (bind_within _ (front_side (side_front 0 side)) (λ es. chain_within (length es.1) es.0 es.1))
      | inr b ↦ rw (side_complete side b.0) (front_chain h (length mid) _ (le_same _))
    ]

one_constraint : (ts r : List Token) → Within (length r) (constraint_of ts) → (m : ℕ) → Within (length r) (constraints_of (suc m) ts)
unfolding constraints_of
one_constraint ts r h m =
    bind_within _ h (λ c.
    if_within _ (if_within _ (left (after_within c.1)) (bind_within _ (closer (constraints_within m (after c.1)) (after_within c.1)) (λ y. left (le_same _)))) (left (le_same _)))

constraints_start : {w : Meant} {l : ℕ} {ts r : List Token} → FrontConstraints w l ts r → (r ≡ ts) ⊎ BeginsSide ts
constraints_start (fronts.in_constraint (fronts.in_left h)) = side_start h
constraints_start (fronts.in_constraint (fronts.past_left side h)) = inr (side_begins side)
constraints_start (fronts.at_semicolon is next) = inr (constraint_begins is)
constraints_start (fronts.past_semicolon is s h) = inr (constraint_begins is)

pub front_constraints : {w : Meant} {l : ℕ} {ts r : List Token} → FrontConstraints w l ts r → (m : ℕ) → length ts ≤ m → Within (length r) (constraints_of m ts)
unfolding constraints_of
front_constraints h zero few = stops (omega arith)
front_constraints (fronts.in_constraint {ts = ts} {r = r} h) (suc m) few = one_constraint ts r (front_constraint h) m
front_constraints (fronts.at_semicolon {ts = ts} {mid = mid} is (not_yet w)) (suc m) few = one_constraint ts mid (front_constraint (constraint_front 0 is)) m
front_constraints (fronts.at_semicolon is (came {x = s} {ts = ts} semicolon w)) (suc m) few =
    rw (constraint_complete is (semicolon_ends s ts semicolon), symbol_yes (codes ";") s ts semicolon)
    (if_within _ (left (le_same _)) (bind_within _ (constraints_within m ts) (λ y. left (le_same _))))
front_constraints (fronts.past_semicolon {s = s} {mid = mid} is semicolon h) (suc m) few =
    rw (constraint_complete is (semicolon_ends s mid semicolon), symbol_yes (codes ";") s mid semicolon) (elim (constraints_start h) [
      | inl e ↦ here e (if_within _ (left (le_same _)) (bind_within _ (constraints_within m mid) (λ y. left (le_same _))))
      | inr b ↦ rw (no_close mid b) (bind_within _ (front_constraints h m (let k = constraint_takes is in omega arith)) (λ y. left (le_same _)))
    ])

-- ---- domains and maps

pub front_conditions : {w : Meant} {l : ℕ} {ts r : List Token} → FrontConditions w l ts r → Within (length r) (conditions_of ts)
unfolding conditions_of bar_of
front_conditions (fronts.no_bar_yet {ts = ts} w) = conditions_within ts
front_conditions (fronts.at_bar {ts = ts} (not_yet w)) = conditions_within ts
front_conditions (fronts.at_bar (came {x = b} {ts = ts} is w)) = rw (symbol_yes (codes "|") b ts is) (bar_within ts)
front_conditions (fronts.in_constraints {b = b} {ts = ts} is h) =
    rw (symbol_yes (codes "|") b ts is) (elim (constraints_start h) [
      | inl e ↦ here e (bar_within ts)
      | inr side ↦ rw (no_close ts side) (front_constraints h (length ts) (le_same _))
    ])

conditions_start : {w : Meant} {l : ℕ} {ts r : List Token} → FrontConditions w l ts r → (r ≡ ts) ⊎ EndsNames ts
conditions_start (fronts.no_bar_yet w) = inl refl
conditions_start (fronts.at_bar (not_yet w)) = inl refl
conditions_start (fronts.at_bar (came {x = b} {ts = ts} is w)) = inr (known (λ z. EndsNames (z ∷ ts)) b is (refl, refl))
conditions_start (fronts.in_constraints {b = b} {ts = ts} is h) = inr (known (λ z. EndsNames (z ∷ ts)) b is (refl, refl))

past_names : {w : Meant} {l : ℕ} {ts mid r : List Token} {ns : List Text} → whole.IsOptionalNames ts mid ns → FrontConditions w l mid r → (p : Place) → Within (length r) (domain_rest_of p ts)
unfolding domain_rest_of
past_names names h p =
    elim (conditions_start h) [
      | inl e ↦ here e (bind_within _ (front_optional_names (optional_names_front 0 names)) (λ ns. bind_within _ (conditions_within ns.1) (λ cs.
          bind_within _ (symbol_within (codes "}") cs.1) (λ y. left (le_same _)))))
      | inr ends ↦ rw (optional_names_complete names ends) (bind_within _ (front_conditions h) (λ cs. bind_within _ (symbol_within (codes "}") cs.1) (λ y. left (le_same _))))
    ]

pub front_domain_rest : {w : Meant} {l : ℕ} {ts r : List Token} → FrontDomainRest w l ts r → (p : Place) → Within (length r) (domain_rest_of p ts)
unfolding domain_rest_of
front_domain_rest (fronts.in_names h) p =
    bind_within _ (front_optional_names h) (λ ns. bind_within _ (conditions_within ns.1) (λ cs. bind_within _ (symbol_within (codes "}") cs.1) (λ y. left (le_same _))))
front_domain_rest (fronts.in_conditions names h) p = past_names names h p
front_domain_rest (fronts.at_close names bounds (not_yet w)) p = past_names names (conditions_front 0 bounds) p
front_domain_rest (fronts.at_close {ts = ts} {t1 = t1} {ns = ns} {cs = cs} names bounds (came {x = c} {ts = t} close w)) p =
    rw (domain_rest_gives p c ts t1 t ns cs names bounds close) (left (le_same _))

pub front_domain : {w : Meant} {l : ℕ} {ts r : List Token} → FrontDomain w l ts r → Within (length r) (domain_of ts)
unfolding domain_of
front_domain (fronts.at_open {ts = ts} (not_yet w)) = domain_within ts
front_domain (fronts.at_open (came {x = o} {ts = ts} is w)) = rw (symbol_gives (codes "{") o ts is) (domain_rest_within o.place ts)
front_domain (fronts.in_rest {o = o} {ts = ts} is h) = rw (symbol_gives (codes "{") o ts is) (front_domain_rest h o.place)

map_names : (o : Token) (ts r : List Token) → IsSymbol (codes "(") o → Within (length r) (optional_names_of ts) → Within (length r) (map_of (o ∷ ts))
unfolding map_of
map_names o ts r is h =
    rw (symbol_gives (codes "(") o ts is) (bind_within _ h (λ ns. bind_within _ (symbol_within (codes "->") ns.1) (λ a.
    bind_within _ (optional_indices_within a.1) (λ es. bind_within _ (symbol_within (codes ")") es.1) (λ y. left (le_same _))))))

map_results : (o a : Token) (ts mid r : List Token) (ns : List Text) → IsSymbol (codes "(") o → whole.IsOptionalNames ts (a ∷ mid) ns → IsSymbol (codes "->") a
    → Within (length r) (optional_indices_of mid) → Within (length r) (map_of (o ∷ ts))
unfolding map_of
map_results o a ts mid r ns is names arrow h =
    rw (symbol_gives (codes "(") o ts is, optional_names_complete names (known (λ z. EndsNames (z ∷ mid)) a arrow (refl, refl)), symbol_gives (codes "->") a mid arrow)
    (bind_within _ h (λ es. bind_within _ (symbol_within (codes ")") es.1) (λ y. left (le_same _))))

pub front_map : {w : Meant} {l : ℕ} {ts r : List Token} → FrontMap w l ts r → Within (length r) (map_of ts)
front_map (fronts.at_open {ts = ts} (not_yet w)) = map_within ts
front_map (fronts.at_open (came {x = o} {ts = ts} is w)) = map_names o ts ts is (optional_names_within ts)
front_map (fronts.in_names {o = o} {ts = ts} {r = r} is h) = map_names o ts r is (front_optional_names h)
front_map (fronts.at_arrow {o = o} {ts = ts} {mid = mid} is names (not_yet w)) = map_names o ts mid is (front_optional_names (optional_names_front 0 names))
front_map (fronts.at_arrow {o = o} {ts = ts} {ns = ns} is names (came {x = a} {ts = t} arrow w)) = map_results o a ts t t ns is names arrow (optional_indices_within t)
front_map (fronts.in_results {o = o} {a = a} {ts = ts} {mid = mid} {r = r} {ns = ns} is names arrow h) = map_results o a ts mid r ns is names arrow (front_optional_indices h)
front_map (fronts.at_close {o = o} {a = a} {ts = ts} {t1 = t1} {t2 = t2} {ns = ns} is names arrow results (not_yet w)) =
    map_results o a ts t1 t2 ns is names arrow (front_optional_indices (optional_indices_front 0 results))
front_map (fronts.at_close {o = o} is names arrow results (came {x = c} close w)) = rw (map_complete (whole.mapping {o = o} {c = c} is names arrow results close)) (left (le_same _))
