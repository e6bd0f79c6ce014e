-- Names, index expressions, domains and maps that are spelled so are read, where nothing follows that goes on with them.
use Rattle.std.proofs.Common.{◌≡◌, ℕ, zero, suc, ◌≤◌, ℤ, true, false, List, [], ◌∷◌, length, Some, None, Ok, refl, ap, arith}
use Rattle.std.specs.Prelude.{codes}
use Rattle.av_base.specs.declared.place.Place.{Place}
use Rattle.av_base.specs.declared.token_kind.TokenKind.TheVariants as kind
use Rattle.av_base.specs.Tokens.{Token}
use Rattle.av_tree.specs.declared.domain.Term.{Term}
use Rattle.av_tree.specs.declared.domain.IndexExpr.{IndexExpr}
use Rattle.av_tree.specs.declared.domain.Constraint.{Constraint}
use Rattle.av_tree.specs.declared.domain.DomainText.{DomainText}
use Rattle.av_tree.specs.declared.domain.MapText.{MapText}
use Rattle.av_tree.specs.declared.relation.Relation.{Relation}
use Rattle.av_tree.specs.declared.relation.Relation.TheVariants as relation
use Rattle.av_tree.specs.Trees.{Text}
use Rattle.av_tree.specs.Parts.{IsName, IsNumber, IsSymbol, IsRelation}
use Rattle.av_tree.specs.IndexGrammar.{IsNames, last_name, more_names, IsOptionalNames, no_names, some_names, IsTerm, number, name, number_name, number_times_name, name_times_number, plus_one, minus_one, IsTerms, terms_end, plus_term, minus_term, IsIndex, index, minus_index, IsIndices, last_index, more_indices, IsOptionalIndices, no_indices, some_indices, IsSide, one_side, list_side, IsChain, last_side, more_sides, IsConstraint, constraint, IsConstraints, last_constraint, closed_constraint, more_constraints, IsConditions, no_bar, bar, conditions, IsDomain, domain, IsMap, mapping}
use Rattle.av_parse.specs.inner.Reader.{begins, begins_symbol}
use Rattle.av_parse.specs.inner.IndexReader.{names_of, optional_names_of, number_term_of, name_term_of, term_of, terms_of, signed_index_of, index_of, indices_of, begins_index, optional_indices_of, list_of, side_of, relation_at, relation_by, is_there, chain_of, constraint_of, constraints_of, bar_of, conditions_of, domain_rest_of, domain_of, map_of}
use Rattle.av_parse.proofs.Follow.{same_self, symbol_yes, kind_not, with_not, text_not, expect_gives, symbol_gives, known, EndsNames, EndsTerm, EndsIndex}
use Rattle.av_parse.proofs.Takes.{names_take, term_takes, indices_take, side_takes, chain_takes, constraint_takes, constraints_take}

-- ---- names

pub names_complete : {ts rest xs : List Token} → IsNames ts rest xs → begins_symbol (codes ",") rest ≡ false → (n : ℕ) → length ts ≤ n → names_of n ts ≡ Ok (xs, rest)
unfolding names_of
names_complete x ends zero few = absurd (let h = names_take x in omega arith)
names_complete (last_name {x = x} {rest = rest} is) ends (suc n) few = rw (expect_gives kind.Name x rest is, ends) refl
names_complete (more_names {x = x} {c = c} {ts = ts} is comma others) ends (suc n) few =
    rw (expect_gives kind.Name x (c ∷ ts) is, symbol_yes (codes ",") c ts comma, names_complete others ends n (omega arith)) refl

pub names_begin : {ts rest xs : List Token} → IsNames ts rest xs → begins kind.Name ts ≡ true
names_begin (last_name {x = x} is) = same_self x.kind kind.Name is
names_begin (more_names {x = x} is comma others) = same_self x.kind kind.Name is

pub optional_names_complete : {ts rest : List Token} {ns : List Text} → IsOptionalNames ts rest ns → EndsNames rest → optional_names_of ts ≡ Ok (ns, rest)
unfolding optional_names_of
optional_names_complete no_names ends = rw ends.0 refl
optional_names_complete (some_names {ts = ts} names) ends = rw (names_begin names, names_complete names ends.1 (length ts) (omega arith)) refl

-- ---- index expressions

pub term_complete : {s : ℤ} {ts rest : List Token} {t : Term} → IsTerm s ts rest t → EndsTerm rest → term_of s ts ≡ Ok (t, rest)
unfolding term_of number_term_of name_term_of
term_complete (number {x = x} {rest = rest} is) ends = rw (same_self x.kind kind.Number is, ends.0, ends.1) refl
term_complete (name {y = y} {rest = rest} is) ends = rw (kind_not kind.Name kind.Number y rest is refl, same_self y.kind kind.Name is, ends.1) refl
term_complete (number_name {x = x} {y = y} is called) ends = rw (same_self x.kind kind.Number is, same_self y.kind kind.Name called) refl
term_complete (number_times_name {x = x} {p = p} {y = y} {rest = rest} is star called) ends =
    rw (same_self x.kind kind.Number is, kind_not kind.Symbol kind.Name p (y ∷ rest) star.0 refl, symbol_yes (codes "*") p (y ∷ rest) star, expect_gives kind.Name y rest called) refl
term_complete (name_times_number {y = y} {p = p} {x = x} {rest = rest} called star is) ends =
    rw (kind_not kind.Name kind.Number y (p ∷ x ∷ rest) called refl, same_self y.kind kind.Name called, symbol_yes (codes "*") p (x ∷ rest) star, expect_gives kind.Number x rest is) refl

pub terms_stop : {ts rest : List Token} {more : List Term} → IsTerms ts rest more → EndsIndex rest → EndsTerm ts
terms_stop terms_end ends = (ends.0, ends.1)
terms_stop (plus_term {p = p} {ts = ts} is first others) ends = known (λ z. EndsTerm (z ∷ ts)) p is (refl, refl)
terms_stop (minus_term {p = p} {ts = ts} is first others) ends = known (λ z. EndsTerm (z ∷ ts)) p is (refl, refl)

pub terms_complete : {ts rest : List Token} {more : List Term} → IsTerms ts rest more → EndsIndex rest → (n : ℕ) → length ts ≤ n → terms_of n ts ≡ Ok (more, rest)
unfolding terms_of
terms_complete terms_end ends zero few = refl
terms_complete terms_end ends (suc n) few = rw (ends.2, ends.3) refl
terms_complete (plus_term p first others) ends zero few = absurd (omega arith)
terms_complete (minus_term p first others) ends zero few = absurd (omega arith)
terms_complete (plus_term {p = p} {ts = ts} is first others) ends (suc n) few =
    rw (symbol_yes (codes "+") p ts is, term_complete first (terms_stop others ends), terms_complete others ends n (let h = term_takes first in omega arith)) refl
terms_complete (minus_term {p = p} {ts = ts} is first others) ends (suc n) few =
    rw (text_not kind.Symbol (codes "-") (codes "+") p ts is refl, symbol_yes (codes "-") p ts is, term_complete first (terms_stop others ends), terms_complete others ends n (let h = term_takes first in omega arith)) refl

pub signed_gives : (s : ℤ) (p : Place) (ts mid rest : List Token) (t : Term) (more : List Term) → IsTerm s ts mid t → IsTerms mid rest more → EndsIndex rest
    → signed_index_of s p ts ≡ Ok (record { terms = t ∷ more; place = p }, rest)
unfolding signed_index_of
signed_gives s p ts mid rest t more first others ends = rw (term_complete first (terms_stop others ends), terms_complete others ends (length mid) (omega arith)) refl

-- ---- where spellings begin

pub data BeginsTerm : List Token → Type 0 where
  by_number : {x : Token} {ts : List Token} → IsNumber x → BeginsTerm (x ∷ ts)
  by_name : {x : Token} {ts : List Token} → IsName x → BeginsTerm (x ∷ ts)

pub data BeginsIndex : List Token → Type 0 where
  by_term : {ts : List Token} → BeginsTerm ts → BeginsIndex ts
  by_minus : {m : Token} {ts : List Token} → IsSymbol (codes "-") m → BeginsIndex (m ∷ ts)

pub data BeginsSide : List Token → Type 0 where
  by_index : {ts : List Token} → BeginsIndex ts → BeginsSide ts
  by_list : {o : Token} {ts : List Token} → IsSymbol (codes "(") o → BeginsSide (o ∷ ts)

pub term_begins : {s : ℤ} {ts rest : List Token} {t : Term} → IsTerm s ts rest t → BeginsTerm ts
term_begins (number is) = by_number is
term_begins (name is) = by_name is
term_begins (number_name is called) = by_number is
term_begins (number_times_name is star called) = by_number is
term_begins (name_times_number called star is) = by_name called

pub index_begins : {ts rest : List Token} {e : IndexExpr} → IsIndex ts rest e → BeginsIndex ts
index_begins (index first others) = by_term (term_begins first)
index_begins (minus_index is first others) = by_minus is

pub indices_begin : {ts rest : List Token} {es : List IndexExpr} → IsIndices ts rest es → BeginsIndex ts
indices_begin (last_index is) = index_begins is
indices_begin (more_indices is comma others) = index_begins is

pub side_begins : {ts rest : List Token} {es : List IndexExpr} → IsSide ts rest es → BeginsSide ts
side_begins (one_side is) = by_index (index_begins is)
side_begins (list_side is es few close) = by_list is

pub constraint_begins : {ts rest : List Token} {cs : List Constraint} → IsConstraint ts rest cs → BeginsSide ts
constraint_begins (constraint side chain) = side_begins side

pub constraints_begin : {ts rest : List Token} {cs : List Constraint} → IsConstraints ts rest cs → BeginsSide ts
constraints_begin (last_constraint is) = constraint_begins is
constraints_begin (closed_constraint is s) = constraint_begins is
constraints_begin (more_constraints is s others) = constraint_begins is

pub no_symbol : (text : Text) (ts : List Token) → BeginsTerm ts → begins_symbol text ts ≡ false
no_symbol text [] is = elim is [ ]
no_symbol text (x ∷ ts) (by_number is) = with_not kind.Number kind.Symbol text x ts is refl
no_symbol text (x ∷ ts) (by_name is) = with_not kind.Name kind.Symbol text x ts is refl

pub no_list : (ts : List Token) → BeginsIndex ts → begins_symbol (codes "(") ts ≡ false
no_list ts (by_term is) = no_symbol (codes "(") ts is
no_list (m ∷ ts) (by_minus is) = text_not kind.Symbol (codes "-") (codes "(") m ts is refl

pub no_close : (ts : List Token) → BeginsSide ts → begins_symbol (codes "}") ts ≡ false
no_close ts (by_index (by_term is)) = no_symbol (codes "}") ts is
no_close (m ∷ ts) (by_index (by_minus is)) = text_not kind.Symbol (codes "-") (codes "}") m ts is refl
no_close (o ∷ ts) (by_list is) = text_not kind.Symbol (codes "(") (codes "}") o ts is refl

pub index_is_there : (ts : List Token) → BeginsIndex ts → begins_index ts ≡ true
index_is_there [] (by_term is) = elim is [ ]
index_is_there (x ∷ ts) (by_term (by_number is)) = known (λ z. begins_index (z ∷ ts) ≡ true) x (is, refl) refl
index_is_there (x ∷ ts) (by_term (by_name is)) = known (λ z. begins_index (z ∷ ts) ≡ true) x (is, refl) refl
index_is_there (m ∷ ts) (by_minus is) = known (λ z. begins_index (z ∷ ts) ≡ true) m is refl

-- ---- lists of index expressions

pub index_complete : {ts rest : List Token} {e : IndexExpr} → IsIndex ts rest e → EndsIndex rest → index_of ts ≡ Ok (e, rest)
unfolding index_of
index_complete (index {x = x} {ts = ts} {mid = mid} {rest = rest} {t = t} {more = more} first others) ends =
    rw (no_symbol (codes "-") (x ∷ ts) (term_begins first)) (signed_gives plus_one x.place (x ∷ ts) mid rest t more first others ends)
index_complete (minus_index {m = m} {ts = ts} {mid = mid} {rest = rest} {t = t} {more = more} is first others) ends =
    rw (symbol_yes (codes "-") m ts is) (signed_gives minus_one m.place ts mid rest t more first others ends)

pub comma_ends : (c : Token) (ts : List Token) → IsSymbol (codes ",") c → EndsIndex (c ∷ ts)
comma_ends c ts is = known (λ z. EndsIndex (z ∷ ts)) c is (refl, refl, refl, refl)

pub indices_complete : {ts rest : List Token} {es : List IndexExpr} → IsIndices ts rest es → EndsIndex rest → begins_symbol (codes ",") rest ≡ false → (n : ℕ) → length es ≤ suc n
    → indices_of n ts ≡ Ok (es, rest)
unfolding indices_of
indices_complete (last_index is) ends comma zero few = rw (index_complete is ends) refl
indices_complete (last_index is) ends comma (suc n) few = rw (index_complete is ends, comma) refl
indices_complete (more_indices is c others) ends comma zero few = absurd (let h = (indices_take others).2 in omega arith)
indices_complete (more_indices {c = c} {mid = mid} is c_is others) ends comma (suc n) few =
    rw (index_complete is (comma_ends c mid c_is), symbol_yes (codes ",") c mid c_is, indices_complete others ends comma n (omega arith)) refl

-- what ends a list of index expressions that need not be there
abbrev pub EndsIndices : List Token → Type 0
EndsIndices ts = EndsIndex ts × (begins_symbol (codes ",") ts ≡ false) × (begins_index ts ≡ false)

pub optional_indices_complete : {ts rest : List Token} {es : List IndexExpr} → IsOptionalIndices ts rest es → EndsIndices rest → optional_indices_of ts ≡ Ok (es, rest)
unfolding optional_indices_of
optional_indices_complete no_indices ends = rw ends.2 refl
optional_indices_complete (some_indices {ts = ts} is) ends =
    rw (index_is_there ts (indices_begin is)) (indices_complete is ends.0 ends.1 (length ts) (let few = (indices_take is).1 in omega arith))

-- ---- comparisons

pub list_gives : (o c : Token) (ts rest : List Token) (es : List IndexExpr) → IsSymbol (codes "(") o → IsIndices ts (c ∷ rest) es → length es ≤ 8 → IsSymbol (codes ")") c
    → list_of (o ∷ ts) ≡ Ok (es, rest)
unfolding list_of
list_gives o c ts rest es opened is few close =
    let inner = indices_complete is (known (λ z. EndsIndex (z ∷ rest)) c close (refl, refl, refl, refl)) (text_not kind.Symbol (codes ")") (codes ",") c rest close refl) 7 (omega arith) in
    rw (symbol_gives (codes "(") o ts opened, inner, symbol_gives (codes ")") c rest close) refl

pub side_complete : {ts rest : List Token} {es : List IndexExpr} → IsSide ts rest es → EndsIndex rest → side_of ts ≡ Ok (es, rest)
unfolding side_of
side_complete (one_side {ts = ts} is) ends = rw (no_list ts (index_begins is), index_complete is ends) refl
side_complete (list_side {o = o} {c = c} {ts = ts} {rest = rest} {es = es} opened is few close) ends =
    rw (symbol_yes (codes "(") o ts opened) (list_gives o c ts rest es opened is few close)

pub relation_found : (r : Relation) (q : Token) (ts : List Token) → IsRelation r q → relation_at (q ∷ ts) ≡ Some r
unfolding relation_at
relation_found relation.Less q ts is = known (λ z. relation_at (z ∷ ts) ≡ Some relation.Less) q is.1 refl
relation_found relation.LessEqual q ts is = known (λ z. relation_at (z ∷ ts) ≡ Some relation.LessEqual) q is.1 refl
relation_found relation.Greater q ts is = known (λ z. relation_at (z ∷ ts) ≡ Some relation.Greater) q is.1 refl
relation_found relation.GreaterEqual q ts is = known (λ z. relation_at (z ∷ ts) ≡ Some relation.GreaterEqual) q is.1 refl
relation_found relation.Equal q ts is = known (λ z. relation_at (z ∷ ts) ≡ Some relation.Equal) q is.1 refl
relation_found relation.Unequal q ts is = absurd (is.0 refl)

pub relation_ends : (r : Relation) (q : Token) (ts : List Token) → IsRelation r q → EndsIndex (q ∷ ts)
relation_ends relation.Less q ts is = known (λ z. EndsIndex (z ∷ ts)) q is.1 (refl, refl, refl, refl)
relation_ends relation.LessEqual q ts is = known (λ z. EndsIndex (z ∷ ts)) q is.1 (refl, refl, refl, refl)
relation_ends relation.Greater q ts is = known (λ z. EndsIndex (z ∷ ts)) q is.1 (refl, refl, refl, refl)
relation_ends relation.GreaterEqual q ts is = known (λ z. EndsIndex (z ∷ ts)) q is.1 (refl, refl, refl, refl)
relation_ends relation.Equal q ts is = known (λ z. EndsIndex (z ∷ ts)) q is.1 (refl, refl, refl, refl)
relation_ends relation.Unequal q ts is = absurd (is.0 refl)

-- a chain begins with a comparison
pub chain_begins : {lefts : List IndexExpr} {ts rest : List Token} {cs : List Constraint} → IsChain lefts ts rest cs → EndsIndex ts × (is_there (relation_at ts) ≡ true)
chain_begins (last_side {q = q} {r = r} {ts = ts} is side) = (relation_ends r q ts is, ap is_there (relation_found r q ts is))
chain_begins (more_sides {q = q} {r = r} {ts = ts} is side others) = (relation_ends r q ts is, ap is_there (relation_found r q ts is))

-- what ends a constraint
abbrev pub EndsChain : List Token → Type 0
EndsChain ts = EndsIndex ts × (relation_at ts ≡ None)

pub chain_complete : {lefts : List IndexExpr} {ts rest : List Token} {cs : List Constraint} → IsChain lefts ts rest cs → EndsChain rest → (n : ℕ) → length ts ≤ n
    → chain_of n lefts ts ≡ Ok (cs, rest)
unfolding chain_of relation_by
chain_complete x ends zero few = absurd (let h = chain_takes x in omega arith)
chain_complete (last_side {q = q} {r = r} {ts = ts} is side) ends (suc n) few = rw (relation_found r q ts is, side_complete side ends.0, ends.1) refl
chain_complete (more_sides {q = q} {r = r} {ts = ts} is side others) ends (suc n) few =
    let starts = chain_begins others in
    rw (relation_found r q ts is, side_complete side starts.0, starts.1, chain_complete others ends n (let h = side_takes side in omega arith)) refl

pub constraint_complete : {ts rest : List Token} {cs : List Constraint} → IsConstraint ts rest cs → EndsChain rest → constraint_of ts ≡ Ok (cs, rest)
unfolding constraint_of
constraint_complete (constraint {mid = mid} side chain) ends = rw (side_complete side (chain_begins chain).0) (chain_complete chain ends (length mid) (omega arith))

pub semicolon_ends : (s : Token) (ts : List Token) → IsSymbol (codes ";") s → EndsChain (s ∷ ts)
unfolding relation_at
semicolon_ends s ts is = known (λ z. EndsChain (z ∷ ts)) s is ((refl, refl, refl, refl), refl)

pub close_ends : (c : Token) (ts : List Token) → IsSymbol (codes "}") c → EndsChain (c ∷ ts)
unfolding relation_at
close_ends c ts is = known (λ z. EndsChain (z ∷ ts)) c is ((refl, refl, refl, refl), refl)

constraints_complete : {c : Token} {ts rest : List Token} {cs : List Constraint} → IsConstraints ts (c ∷ rest) cs → IsSymbol (codes "}") c → (n : ℕ) → length ts ≤ n
    → constraints_of n ts ≡ Ok (cs, c ∷ rest)
unfolding constraints_of
constraints_complete x close zero few = absurd (let h = constraints_take x in omega arith)
constraints_complete {c = c} {rest = rest} (last_constraint is) close (suc n) few =
    rw (constraint_complete is (close_ends c rest close), text_not kind.Symbol (codes "}") (codes ";") c rest close refl) refl
constraints_complete {c = c} {rest = rest} (closed_constraint {s = s} is semicolon) close (suc n) few =
    rw (constraint_complete is (semicolon_ends s (c ∷ rest) semicolon), symbol_yes (codes ";") s (c ∷ rest) semicolon, symbol_yes (codes "}") c rest close) refl
constraints_complete (more_constraints {s = s} {mid = mid} is semicolon others) close (suc n) few =
    rw (
      constraint_complete is (semicolon_ends s mid semicolon),
      symbol_yes (codes ";") s mid semicolon,
      no_close mid (constraints_begin others),
      constraints_complete others close n (let h = constraint_takes is in omega arith),
    ) refl

-- ---- domains and maps

pub conditions_complete : {c : Token} {ts rest : List Token} {cs : List Constraint} → IsConditions ts (c ∷ rest) cs → IsSymbol (codes "}") c → conditions_of ts ≡ Ok (cs, c ∷ rest)
unfolding conditions_of bar_of
conditions_complete {c = c} {rest = rest} no_bar close = rw (text_not kind.Symbol (codes "}") (codes "|") c rest close refl) refl
conditions_complete {c = c} {rest = rest} (bar {b = b} is) close = rw (symbol_yes (codes "|") b (c ∷ rest) is, symbol_yes (codes "}") c rest close) refl
conditions_complete (conditions {b = b} {ts = ts} is cs) close =
    rw (symbol_yes (codes "|") b ts is, no_close ts (constraints_begin cs)) (constraints_complete cs close (length ts) (omega arith))

pub conditions_stop : {c : Token} {ts rest : List Token} {cs : List Constraint} → IsConditions ts (c ∷ rest) cs → IsSymbol (codes "}") c → EndsNames ts
conditions_stop {c = c} {rest = rest} no_bar close = known (λ z. EndsNames (z ∷ rest)) c close (refl, refl)
conditions_stop {c = c} {rest = rest} (bar {b = b} is) close = known (λ z. EndsNames (z ∷ c ∷ rest)) b is (refl, refl)
conditions_stop (conditions {b = b} {ts = ts} is cs) close = known (λ z. EndsNames (z ∷ ts)) b is (refl, refl)

pub domain_rest_gives : (p : Place) (c : Token) (ts mid rest : List Token) (ns : List Text) (cs : List Constraint) → IsOptionalNames ts mid ns
    → IsConditions mid (c ∷ rest) cs → IsSymbol (codes "}") c
    → domain_rest_of p ts ≡ Ok (record { names = ns; constraints = cs; place = p }, rest)
unfolding domain_rest_of
domain_rest_gives p c ts mid rest ns cs names bounds close =
    rw (optional_names_complete names (conditions_stop bounds close), conditions_complete bounds close, symbol_gives (codes "}") c rest close) refl

-- what follows the brace of a domain, whose place it has
pub domain_rest_complete : {o : Token} {ts rest : List Token} {d : DomainText} → IsDomain (o ∷ ts) rest d
    → IsSymbol (codes "{") o × (d.place ≡ o.place) × (domain_rest_of o.place ts ≡ Ok (d, rest))
domain_rest_complete {o = o} {ts = ts} {rest = rest} (domain {c = c} {mid = mid} {ns = ns} {cs = cs} is names bounds close) =
    (is, refl, domain_rest_gives o.place c ts mid rest ns cs names bounds close)

pub domain_complete : {ts rest : List Token} {d : DomainText} → IsDomain ts rest d → domain_of ts ≡ Ok (d, rest)
unfolding domain_of
domain_complete (domain {o = o} {c = c} {ts = ts} {mid = mid} {rest = rest} {ns = ns} {cs = cs} is names bounds close) =
    rw (symbol_gives (codes "{") o ts is) (domain_rest_gives o.place c ts mid rest ns cs names bounds close)

pub map_complete : {ts rest : List Token} {m : MapText} → IsMap ts rest m → map_of ts ≡ Ok (m, rest)
unfolding map_of
map_complete (mapping {o = o} {a = a} {c = c} {ts = ts} {mid = mid} {rest = rest} is names arrow results close) =
    rw (
      symbol_gives (codes "(") o ts is,
      optional_names_complete names (known (λ z. EndsNames (z ∷ mid)) a arrow (refl, refl)),
      symbol_gives (codes "->") a mid arrow,
      optional_indices_complete results (known (λ z. EndsIndices (z ∷ rest)) c close ((refl, refl, refl, refl), refl, refl)),
      symbol_gives (codes ")") c rest close,
    ) refl
