-- A system that no rule refuses is regular.
use Rattle.std.proofs.Common.{◌≡◌, ◌≢◌, ◌⊎◌, inl, inr, Bool, true, false, not, ◌&&◌, ◌||◌, List, [], ◌∷◌, Option, Some, None, IsSome, refl, sym, ap, subst, ◌∙◌, arith, All, AllPairs, if◌then◌else◌}
use Rattle.std.specs.Prelude.{bytes_eq, find, option_map}
use Rattle.std.proofs.lemmas.List.Kept.{AllPairs-cons}
use Rattle.av_base.specs.declared.place.Place.{Place}
use Rattle.av_tree.specs.declared.domain.Constraint.{Constraint}
use Rattle.av_tree.specs.declared.domain.IndexExpr.{IndexExpr}
use Rattle.av_tree.specs.declared.domain.Term.{Term}
use Rattle.av_tree.specs.declared.relation.Relation.TheVariants as relation
use Rattle.av_tree.specs.declared.system.Declaration.{Declaration}
use Rattle.av_tree.specs.Trees.{Text, Equation}
use Rattle.av_tree.specs.Points.{Sizes}
use Rattle.av_tree.specs.Rows.{is_index}
use Rattle.av_names.specs.declared.fault.NameFault.{NameFault}
use Rattle.av_names.specs.declared.size.Size.{Size}
use Rattle.av_names.specs.Found.{is_before, sooner, first_of, first_found, found_where, place_where}
use Rattle.av_names.specs.Repetitions.{again, repeated_variable}
use Rattle.av_names.specs.Equations.{second_equation, equation_found}
use Rattle.av_names.specs.Refusals.{first_rule}
use Rattle.av_names.specs.Sizes.{sizes_of}
use Rattle.av_names.specs.SizeWords.{names_of}
use Rattle.av_names.specs.Unknowns.{unknown_term, unknown_index, unknown_side}
use Rattle.av_names.specs.Regular.{AreDistinct, IsKnown, AreKnown, IsComparison}
use Rattle.av_names.proofs.Names.{equal_names, same_names, apart_names}
use Rattle.av_names.proofs.Among.{Among, all_from}
use Rattle.av_names.proofs.Places.{HasOwnName}
use Rattle.av_names.proofs.Equations.{DefinesOther}

-- ---- rules that find nothing

pub rule_first : (o : Option NameFault) (os : List (Option NameFault)) → first_rule (o ∷ os) ≡ None → (o ≡ None) × (first_rule os ≡ None)
rule_first None os h = (refl, h)
rule_first (Some f) os h = absurd cc

pub nothing_mapped : {A B : Type 0} (f : A → B) (o : Option A) → option_map f o ≡ None → o ≡ None
nothing_mapped f None h = refl
nothing_mapped f (Some a) h = absurd cc

pub neither : {A : Type 0} (at : A → Place) (x y : Option A) → sooner at x y ≡ None → (x ≡ None) × (y ≡ None)
neither at None y h = (refl, h)
neither at (Some a) None h = absurd cc
neither at (Some a) (Some b) h = go (is_before (at b) (at a)) h
  where
    go : (t : Bool) → (if t then Some b else Some a) ≡ None → (Some a ≡ None) × (Some b ≡ None)
    go true h = absurd cc
    go false h = absurd cc

pub at_none : {A B : Type 0} (at : A → Place) (rule : B → Option A) (xs : List B) (x : B) → first_of at rule xs ≡ None → Among x xs → rule x ≡ None
at_none at rule [] x h m = absurd m
at_none at rule (y ∷ ys) x h (inl e) = ap rule (sym e) ∙ (neither at (rule y) (first_of at rule ys) h).0
at_none at rule (y ∷ ys) x h (inr m) = at_none at rule ys x (neither at (rule y) (first_of at rule ys) h).1 m

pub not_found : (t : Bool) (name : Text) (place : Place) → found_where t name place ≡ None → t ≡ false
not_found true name place h = absurd cc
not_found false name place h = refl

pub no_place : (t : Bool) (place : Place) → place_where t place ≡ None → t ≡ false
no_place true place h = absurd cc
no_place false place h = refl

pub none_passes : {A : Type 0} (test : A → Bool) (xs : List A) (x : A) → find test xs ≡ None → Among x xs → test x ≡ false
none_passes test [] x h m = absurd m
none_passes test (y ∷ ys) x h m = go (test y) refl (λ k n. none_passes test ys x k n) m
  where
    go : (t : Bool) → test y ≡ t → (find test ys ≡ None → Among x ys → test x ≡ false) → (y ≡ x) ⊎ Among x ys → test x ≡ false
    go true e rest n = absurd (let p : Some y ≡ None = rw e at h in cc)
    go false e rest (inl p) = ap test (sym p) ∙ e
    go false e rest (inr n) = rest (rw e at h) n

-- ---- names in lists

pub named_among : (names : List Text) (name : Text) → is_index names name ≡ true → Among name names
named_among [] name h = absurd cc
named_among (n ∷ names) name h = go (bytes_eq n name) refl (λ k. named_among names name k)
  where
    go : (t : Bool) → bytes_eq n name ≡ t → (is_index names name ≡ true → Among name names) → (n ≡ name) ⊎ Among name names
    go true e rest = inl (equal_names n name e)
    go false e rest = inr (rest (rw e at h))

or_true : (a : Bool) → a || true ≡ true
or_true true = refl
or_true false = refl

pub among_named : (names : List Text) (name : Text) → Among name names → is_index names name ≡ true
among_named [] name m = absurd m
among_named (n ∷ names) name (inl e) = rw (same_names n name e) refl
among_named (n ∷ names) name (inr m) = rw (among_named names name m) (or_true (bytes_eq n name))

pub not_named : (names : List Text) (name other : Text) → is_index names name ≡ false → Among other names → name ≢ other
not_named names name other h m e = absurd (let p : is_index names name ≡ true = among_named names name (subst (λ n. Among n names) (sym e) m) in let q : true ≡ false = sym p ∙ h in cc)

pub neither_is : (a b : Bool) → a || b ≡ false → (a ≡ false) × (b ≡ false)
neither_is true b h = absurd cc
neither_is false b h = (refl, h)

pub distinct_names : (sizes names : List Text) → again sizes names ≡ None → AreDistinct names
distinct_names sizes [] h = λ i j d l m. absurd (omega (arith, m))
distinct_names sizes (n ∷ names) h = go (is_index names n || is_index sizes n) refl (λ k. distinct_names sizes names k)
  where
    go : (t : Bool) → (is_index names n || is_index sizes n) ≡ t → (again sizes names ≡ None → AreDistinct names) → AreDistinct (n ∷ names)
    go true e rest = absurd (let p : Some n ≡ None = rw e at h in cc)
    go false e rest =
        AllPairs-cons (λ a b. a ≢ b) n names (all_from (λ b. n ≢ b) names (λ b m. not_named names n b (neither_is (is_index names n) (is_index sizes n) e).0 m)) (rest (rw e at h))

-- ---- variables and equations

pub distinct_variables : (before : List Text) (ds : List Declaration) → repeated_variable before ds ≡ None → ((d : Declaration) → Among d ds → is_index before d.name ≡ false) × AllPairs HasOwnName ds
distinct_variables before [] h = ((λ d m. absurd m), λ i j d l m. absurd (omega (arith, m)))
distinct_variables before (e ∷ ds) h = go (is_index before e.name) refl (λ k. distinct_variables (e.name ∷ before) ds k)
  where
    go : (t : Bool) → is_index before e.name ≡ t
        → (repeated_variable (e.name ∷ before) ds ≡ None → ((d : Declaration) → Among d ds → is_index (e.name ∷ before) d.name ≡ false) × AllPairs HasOwnName ds)
        → ((d : Declaration) → Among d (e ∷ ds) → is_index before d.name ≡ false) × AllPairs HasOwnName (e ∷ ds)
    go true p rest = absurd (let q : Some (record { name = e.name; place = e.place }) ≡ None = rw p at h in cc)
    go false p rest =
        let r = rest (rw p at h) in (
          (λ d m. elim m [
            | inl q ↦ ap (λ a. is_index before a.name) (sym q) ∙ p
            | inr n ↦ (neither_is (bytes_eq e.name d.name) (is_index before d.name) (r.0 d n)).1
          ]),
          AllPairs-cons HasOwnName e ds (all_from (HasOwnName e) ds (λ d n. apart_names e.name d.name (neither_is (bytes_eq e.name d.name) (is_index before d.name) (r.0 d n)).0)) r.1,
        )

pub distinct_equations : (before : List Text) (es : List Equation) → second_equation before es ≡ None → ((e : Equation) → Among e es → is_index before e.name ≡ false) × AllPairs DefinesOther es
distinct_equations before [] h = ((λ e m. absurd m), λ i j d l m. absurd (omega (arith, m)))
distinct_equations before (f ∷ es) h = go (is_index before f.name) refl (λ k. distinct_equations (f.name ∷ before) es k)
  where
    go : (t : Bool) → is_index before f.name ≡ t
        → (second_equation (f.name ∷ before) es ≡ None → ((e : Equation) → Among e es → is_index (f.name ∷ before) e.name ≡ false) × AllPairs DefinesOther es)
        → ((e : Equation) → Among e (f ∷ es) → is_index before e.name ≡ false) × AllPairs DefinesOther (f ∷ es)
    go true p rest = absurd (let q : Some (equation_found f) ≡ None = rw p at h in cc)
    go false p rest =
        let r = rest (rw p at h) in (
          (λ e m. elim m [
            | inl q ↦ ap (λ a. is_index before a.name) (sym q) ∙ p
            | inr n ↦ (neither_is (bytes_eq f.name e.name) (is_index before e.name) (r.0 e n)).1
          ]),
          AllPairs-cons DefinesOther f es (all_from (DefinesOther f) es (λ e n. apart_names f.name e.name (neither_is (bytes_eq f.name e.name) (is_index before e.name) (r.0 e n)).0)) r.1,
        )

-- ---- known names

-- each size that is declared has a word
abbrev pub AreGiven : List Text → Sizes → Type 0
AreGiven declared sizes = (name : Text) → is_index declared name ≡ true → IsSome (sizes name)

pub word_given : (words : List Size) (name : Text) → is_index (names_of words) name ≡ true → IsSome (sizes_of words name)
word_given [] name h = absurd cc
word_given (w ∷ words) name h = go (bytes_eq w.name name) refl (λ k. word_given words name k)
  where
    go : (t : Bool) → bytes_eq w.name name ≡ t → (is_index (names_of words) name ≡ true → IsSome (sizes_of words name)) → IsSome (sizes_of (w ∷ words) name)
    go true e rest = rw e refl
    go false e rest = rw e (rest (rw e at h))

both_not : (a b : Bool) → not a && not b ≡ false → (a ≡ true) ⊎ (b ≡ true)
both_not true b h = inl refl
both_not false true h = inr refl
both_not false false h = absurd cc

module _ (declared : List Text) (sizes : Sizes) (given : AreGiven declared sizes) where
  term_known : (names : List Text) (o : Option Text) (t : Term) → t.name ≡ o → unknown_term declared names t ≡ None → IsKnown sizes names o
  term_known names None t e h = tt
  term_known names (Some n) t e h =
      elim (both_not (is_index names n) (is_index declared n) (not_found (not (is_index names n) && not (is_index declared n)) n t.place (rw e at h))) [
        | inl p ↦ inl p
        | inr p ↦ inr (given n p)
      ]

  pub index_known : (names : List Text) (e : IndexExpr) → unknown_index declared names e ≡ None → AreKnown sizes names e
  index_known names e h = all_from (λ t. IsKnown sizes names t.name) e.terms (λ t m. term_known names t.name t refl (at_none (λ f. f.place) (unknown_term declared names) e.terms t h m))

  pub indices_known : (names : List Text) (es : List IndexExpr) → first_found (unknown_index declared names) es ≡ None → All (AreKnown sizes names) es
  indices_known names es h = all_from (AreKnown sizes names) es (λ e m. index_known names e (at_none (λ f. f.place) (unknown_index declared names) es e h m))

  pub comparisons_known : (names : List Text) (cs : List Constraint) → first_found (unknown_side declared names) cs ≡ None → ((c : Constraint) → Among c cs → c.relation ≢ relation.Unequal)
      → All (IsComparison sizes names) cs
  comparisons_known names cs h u = all_from (IsComparison sizes names) cs (λ c m.
      let r = neither (λ f. f.place) (unknown_index declared names c.left) (unknown_index declared names c.right) (at_none (λ f. f.place) (unknown_side declared names) cs c h m) in
      record { left = index_known names c.left r.0; right = index_known names c.right r.1; related = u c m })
