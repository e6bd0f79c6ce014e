-- What the grammar says of the parts of a system: names and factors that are spelled, few terms, and comparisons
-- that domains have.
use Rattle.std.proofs.Common.{◌≡◌, ◌≢◌, ℕ, ◌+◌, ◌^◌, ◌<◌, ◌≤◌, ℤ, pos, ◌*ℤ◌, Bool, true, false, List, [], ◌∷◌, length, refl, ap, ◌∙◌, arith, All}
use Rattle.std.specs.Prelude.{unsigned_abs}
use Rattle.std.proofs.lemmas.Int.{unsigned_abs-mul}
use Rattle.std.proofs.lemmas.List.{length-append}
use Rattle.std.proofs.lemmas.List.Elements.{All-nil, All-cons, All-append, All-contains, All-head, All-tail}
use Rattle.std.proofs.lemmas.List.Sums.{AllPass-from_list_all}
use Rattle.av_base.specs.declared.place.Place.{Place}
use Rattle.av_base.specs.declared.token_kind.TokenKind.{TokenKind}
use Rattle.av_base.specs.declared.token_kind.TokenKind.TheVariants as kind
use Rattle.av_base.specs.Tokens.{Token, number_of, IsSpelled, IsInRange, IsText, end, blank, comment, token, reserved_words, symbols}
use Rattle.av_tree.specs.declared.domain.Constraint.{Constraint}
use Rattle.av_tree.specs.declared.domain.DomainText.{DomainText}
use Rattle.av_tree.specs.declared.domain.IndexExpr.{IndexExpr}
use Rattle.av_tree.specs.declared.domain.MapText.{MapText}
use Rattle.av_tree.specs.declared.domain.Term.{Term}
use Rattle.av_tree.specs.declared.relation.Relation.{Relation}
use Rattle.av_tree.specs.declared.relation.Relation.TheVariants as relation
use Rattle.av_tree.specs.Trees.{Text}
use Rattle.av_tree.specs.Parts.{IsName, IsNumber}
use Rattle.av_tree.specs.IndexGrammar.{IsNames, last_name, more_names, IsOptionalNames, no_names, some_names, IsTerm, number, name, number_name, number_times_name, name_times_number, IsTerms, terms_end, plus_term, minus_term, IsIndex, index, minus_index, IsIndices, last_index, more_indices, IsOptionalIndices, no_indices, some_indices, with_each, compared, IsSide, one_side, list_side, IsChain, last_side, more_sides, IsConstraint, constraint, IsConstraints, last_constraint, closed_constraint, more_constraints, IsConditions, no_bar, bar, conditions, IsDomain, domain, IsMap, mapping}
use Rattle.av_names.specs.inner.ShortSums.{IsShort}

-- ---- tokens

-- a name or a number that is spelled as one
abbrev pub IsGood : Token → Type 0
IsGood t = (IsName t → IsSpelled kind.Name t.text) × (IsNumber t → number_of t.text < 2 ^ 64)

abbrev pub AreGood : List Token → Type 0
AreGood [] = Unit {0}
AreGood (t ∷ ts) = IsGood t × AreGood ts

good_token : (k : TokenKind) (text : Text) (place : Place) → IsSpelled k text → IsInRange k text → IsGood (record { kind = k; text = text; place = place })
good_token kind.Name text place s r = ((λ e. s), λ e. cc)
good_token kind.Reserved text place s r = ((λ e. cc), λ e. cc)
good_token kind.Number text place s r = ((λ e. cc), λ e. r)
good_token kind.Symbol text place s r = ((λ e. cc), λ e. cc)
good_token kind.End text place s r = absurd s

pub tokens_good : {p : Place} {bytes : List ℕ} {tokens : List Token} → IsText p bytes tokens → AreGood tokens
tokens_good end = (((λ e. cc), λ e. cc), tt)
tokens_good (blank is t) = tokens_good t
tokens_good (comment e c t) = tokens_good t
tokens_good (token {p = p} {k = k} {text = text} e plain longest range t) = (good_token k text p longest.spelled range, tokens_good t)

abbrev is_some : Text → Bool
is_some [] = false
is_some (b ∷ bytes) = true

some_token : (k : TokenKind) (text : Text) → IsSpelled k text → is_some text ≡ true
some_token k (b ∷ text) s = refl
some_token kind.Name [] s = absurd s.0
some_token kind.Reserved [] s = All-contains (λ x. is_some x ≡ true) reserved_words [] (AllPass-from_list_all is_some reserved_words refl) s
some_token kind.Number [] s = absurd s
some_token kind.Symbol [] s = All-contains (λ x. is_some x ≡ true) symbols [] (AllPass-from_list_all is_some symbols refl) s
some_token kind.End [] s = absurd s

some_bytes : (text : Text) → is_some text ≡ true → 0 < length text
some_bytes [] e = absurd cc
some_bytes (b ∷ text) e = omega arith

-- each token but the last has a byte of its own
pub tokens_few : {p : Place} {bytes : List ℕ} {tokens : List Token} → IsText p bytes tokens → length tokens ≤ length bytes + 1
tokens_few end = omega arith
tokens_few (blank is t) = let l = tokens_few t in omega arith
tokens_few (comment {text = text} {rest = rest} e c t) = let l = tokens_few t in let n = ap length e ∙ length-append text rest in omega arith
tokens_few (token {k = k} {text = text} {rest = rest} e plain longest range t) =
    let l = tokens_few t in let n = ap length e ∙ length-append text rest in let m = some_bytes text (some_token k text longest.spelled) in omega arith

-- ---- so many tokens, all good

module _ (most : ℕ) where
  abbrev pub Fits : List Token → Type 0
  Fits ts = (length ts < most) × AreGood ts

  pub without : (t : Token) (ts : List Token) → Fits (t ∷ ts) → Fits ts
  without t ts (l, (g, gs)) = (omega (arith, l), gs)

  -- fewer terms than tokens, each with a factor that is spelled
  abbrev pub IsFew : IndexExpr → Type 0
  IsFew e = (length e.terms < most) × All IsShort e.terms

  -- as `IsFew` on both sides, and no inequality
  pub record IsFewSides (c : Constraint) : Type 0 where
    pub left : IsFew c.left
    pub right : IsFew c.right
    pub related : c.relation ≢ relation.Unequal

  abbrev pub Spelled : Text → Type 0
  Spelled n = IsSpelled kind.Name n

  -- ---- names

  pub names_fit : {ts rest xs : List Token} → IsNames ts rest xs → Fits ts → Fits rest × All (λ x. Spelled x.text) xs
  names_fit (last_name {x = x} {rest = rest} is) (l, (g, gs)) = ((omega (arith, l), gs), All-cons (λ y. Spelled y.text) x [] (g.0 is) (All-nil (λ y. Spelled y.text)))
  names_fit (more_names {x = x} {c = c} {ts = ts} {xs = xs} is comma others) (l, (g, (g1, gs))) =
      let r = names_fit others ((omega (arith, l)), gs) in (r.0, All-cons (λ y. Spelled y.text) x xs (g.0 is) r.1)

  pub optional_names_fit : {ts rest : List Token} {ns : List Text} → IsOptionalNames ts rest ns → Fits ts → Fits rest
  optional_names_fit no_names f = f
  optional_names_fit (some_names names) f = (names_fit names f).0

  -- ---- index expressions

  short_factor : (s : ℤ) (n : ℕ) → unsigned_abs s ≡ 1 → n < 2 ^ 64 → unsigned_abs (s *ℤ pos n) < 2 ^ 64
  short_factor s n one l = rw (unsigned_abs-mul s (pos n), one) (omega (arith, l))

  -- what a term leaves is shorter
  abbrev Leaves : List Token → List Token → Term → Type 0
  Leaves ts rest t = IsShort t × AreGood rest × (length rest < length ts)

  term_fits : {s : ℤ} {ts rest : List Token} {t : Term} → unsigned_abs s ≡ 1 → IsTerm s ts rest t → AreGood ts → Leaves ts rest t
  term_fits {s = s} one (number {x = x} is) (g, gs) = (short_factor s (number_of x.text) one (g.1 is), gs, omega arith)
  term_fits one (name is) (g, gs) = ((omega (arith, one)), gs, omega arith)
  term_fits {s = s} one (number_name {x = x} is js) (g, (h, gs)) = (short_factor s (number_of x.text) one (g.1 is), gs, omega arith)
  term_fits {s = s} one (number_times_name {x = x} is p js) (g, (h, (k, gs))) = (short_factor s (number_of x.text) one (g.1 is), gs, omega arith)
  term_fits {s = s} one (name_times_number {x = x} is p js) (g, (h, (k, gs))) = (short_factor s (number_of x.text) one (k.1 js), gs, omega arith)

  terms_fit : {ts rest : List Token} {terms : List Term} → IsTerms ts rest terms → AreGood ts → All IsShort terms × AreGood rest × (length terms + length rest ≤ length ts)
  terms_fit terms_end gs = (All-nil IsShort, gs, omega arith)
  terms_fit (plus_term {t = t} {more = more} p is others) (g, gs) =
      let a = term_fits refl is gs in let b = terms_fit others a.1 in (All-cons IsShort t more a.0 b.0, b.1, omega (arith, a.2, b.2))
  terms_fit (minus_term {t = t} {more = more} p is others) (g, gs) =
      let a = term_fits refl is gs in let b = terms_fit others a.1 in (All-cons IsShort t more a.0 b.0, b.1, omega (arith, a.2, b.2))

  pub index_fits : {ts rest : List Token} {e : IndexExpr} → IsIndex ts rest e → Fits ts → Fits rest × IsFew e
  index_fits (index {t = t} {more = more} is others) (l, gs) =
      let a = term_fits refl is gs in let b = terms_fit others a.1 in
      ((omega (arith, l, a.2, b.2), b.1), (omega (arith, l, a.2, b.2), All-cons IsShort t more a.0 b.0))
  index_fits (minus_index {t = t} {more = more} p is others) (l, (g, gs)) =
      let a = term_fits refl is gs in let b = terms_fit others a.1 in
      ((omega (arith, l, a.2, b.2), b.1), (omega (arith, l, a.2, b.2), All-cons IsShort t more a.0 b.0))

  pub indices_fit : {ts rest : List Token} {es : List IndexExpr} → IsIndices ts rest es → Fits ts → Fits rest × All IsFew es
  indices_fit (last_index {e = e} is) f = let a = index_fits is f in (a.0, All-cons IsFew e [] a.1 (All-nil IsFew))
  indices_fit (more_indices {c = c} {mid = mid} {e = e} {es = es} is comma others) f =
      let a = index_fits is f in let b = indices_fit others (without c mid a.0) in (b.0, All-cons IsFew e es a.1 b.1)

  pub optional_indices_fit : {ts rest : List Token} {es : List IndexExpr} → IsOptionalIndices ts rest es → Fits ts → Fits rest × All IsFew es
  optional_indices_fit no_indices f = (f, All-nil IsFew)
  optional_indices_fit (some_indices is) f = indices_fit is f

  -- ---- comparisons

  side_fits : {ts rest : List Token} {es : List IndexExpr} → IsSide ts rest es → Fits ts → Fits rest × All IsFew es
  side_fits (one_side {e = e} is) f = let a = index_fits is f in (a.0, All-cons IsFew e [] a.1 (All-nil IsFew))
  side_fits (list_side {o = o} {c = c} {ts = ts} {rest = rest} p is few q) f =
      let a = indices_fit is (without o ts f) in (without c rest a.0, a.1)

  each_fits : (l : IndexExpr) (r : Relation) (rights : List IndexExpr) → r ≢ relation.Unequal → IsFew l → All IsFew rights → All IsFewSides (with_each l r rights)
  each_fits l r [] ne left f = All-nil IsFewSides
  each_fits l r (e ∷ es) ne left f =
      All-cons IsFewSides (record { left = l; relation = r; right = e }) (with_each l r es) (record { left = left; right = All-head IsFew e es f; related = ne }) (each_fits l r es ne left (All-tail IsFew e es f))

  all_fit : (lefts : List IndexExpr) (r : Relation) (rights : List IndexExpr) → r ≢ relation.Unequal → All IsFew lefts → All IsFew rights → All IsFewSides (compared lefts r rights)
  all_fit [] r rights ne f g = All-nil IsFewSides
  all_fit (l ∷ lefts) r rights ne f g =
      All-append IsFewSides (with_each l r rights) (compared lefts r rights) (each_fits l r rights ne (All-head IsFew l lefts f) g) (all_fit lefts r rights ne (All-tail IsFew l lefts f) g)

  chain_fits : {lefts : List IndexExpr} {ts rest : List Token} {cs : List Constraint} → IsChain lefts ts rest cs → All IsFew lefts → Fits ts → Fits rest × All IsFewSides cs
  chain_fits (last_side {q = q} {r = r} {ts = ts} {lefts = lefts} {es = es} is side) ls f =
      let a = side_fits side (without q ts f) in (a.0, all_fit lefts r es is.0 ls a.1)
  chain_fits (more_sides {q = q} {r = r} {ts = ts} {lefts = lefts} {es = es} {cs = cs} is side others) ls f =
      let a = side_fits side (without q ts f) in let b = chain_fits others a.1 a.0 in
      (b.0, All-append IsFewSides (compared lefts r es) cs (all_fit lefts r es is.0 ls a.1) b.1)

  constraint_fits : {ts rest : List Token} {cs : List Constraint} → IsConstraint ts rest cs → Fits ts → Fits rest × All IsFewSides cs
  constraint_fits (constraint side chain) f = let a = side_fits side f in chain_fits chain a.1 a.0

  constraints_fit : {ts rest : List Token} {cs : List Constraint} → IsConstraints ts rest cs → Fits ts → Fits rest × All IsFewSides cs
  constraints_fit (last_constraint is) f = constraint_fits is f
  constraints_fit (closed_constraint {s = s} {rest = rest} is p) f = let a = constraint_fits is f in (without s rest a.0, a.1)
  constraints_fit (more_constraints {s = s} {mid = mid} {cs = cs} {ds = ds} is p others) f =
      let a = constraint_fits is f in let b = constraints_fit others (without s mid a.0) in (b.0, All-append IsFewSides cs ds a.1 b.1)

  -- ---- domains and maps

  conditions_fit : {ts rest : List Token} {cs : List Constraint} → IsConditions ts rest cs → Fits ts → Fits rest × All IsFewSides cs
  conditions_fit no_bar f = (f, All-nil IsFewSides)
  conditions_fit (bar {b = b} {rest = rest} p) f = (without b rest f, All-nil IsFewSides)
  conditions_fit (conditions {b = b} {ts = ts} p is) f = constraints_fit is (without b ts f)

  pub domain_fits : {ts rest : List Token} {d : DomainText} → IsDomain ts rest d → Fits ts → Fits rest × All IsFewSides d.constraints
  domain_fits (domain {o = o} {c = c} {ts = ts} {rest = rest} p names is q) f =
      let a = conditions_fit is (optional_names_fit names (without o ts f)) in (without c rest a.0, a.1)

  pub map_fits : {ts rest : List Token} {m : MapText} → IsMap ts rest m → Fits ts → Fits rest × All IsFew m.results
  map_fits (mapping {o = o} {a = a} {c = c} {ts = ts} {mid = mid} {rest = rest} p names q is r) f =
      let b = optional_indices_fit is (without a mid (optional_names_fit names (without o ts f))) in (without c rest b.0, b.1)
