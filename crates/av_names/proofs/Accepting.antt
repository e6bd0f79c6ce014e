-- The parts of a system that no rule refuses are regular.
use Rattle.std.proofs.Common.{◌≡◌, ◌≢◌, ℕ, ◌≤◌, ◌⊎◌, inl, inr, Bool, true, false, not, ◌||◌, List, [], ◌∷◌, ◌++◌, length, Some, None, refl, Any, nat_eq}
use Rattle.std.specs.Prelude.{nat_lt}
use Rattle.std.proofs.lemmas.Bool.{ltb-false}
use Rattle.av_base.specs.declared.place.Place.{Place}
use Rattle.av_tree.specs.declared.domain.Constraint.{Constraint}
use Rattle.av_tree.specs.declared.domain.MapText.{MapText}
use Rattle.av_tree.specs.declared.expression.Access.{Access}
use Rattle.av_tree.specs.declared.expression.Access.TheVariants as access
use Rattle.av_tree.specs.declared.relation.Relation.TheVariants as relation
use Rattle.av_tree.specs.Trees.{Text, Expression, Expressions, reference, constant, binary, choice, restriction, cases, dependence, reduction, none, more}
use Rattle.av_tree.specs.Domains.{variables}
use Rattle.av_tree.specs.Counts.{Instance}
use Rattle.av_flat.proofs.Sets.{equal}
use Rattle.av_names.specs.Forms.{Context, over, nameless, names_or}
use Rattle.av_names.specs.Found.{first_found, place_where}
use Rattle.av_names.specs.inner.AtOption.{at_option}
use Rattle.av_names.specs.Parts.{Part, parts_of, parts_of_all}
use Rattle.av_names.specs.Written.{Written, written_at}
use Rattle.av_names.specs.Repetitions.{repeated_index, of_map}
use Rattle.av_names.specs.Repetitions as repetition
use Rattle.av_names.specs.Arities.{part_arity}
use Rattle.av_names.specs.Reductions.{part_projection, is_projection}
use Rattle.av_names.specs.Quantities.{Counted, exceeds}
use Rattle.av_names.specs.Quantities as quantity
use Rattle.av_names.specs.Unknowns.{unknown_reference, unknown_written, unknown_index, unknown_side, is_variable, declared_as}
use Rattle.av_names.specs.Regular.{IsRegularIn, AreRegularIn, IsMap, Projects, Reads, Restricts, indices_of, AreDistinct}
use Rattle.av_names.proofs.Among.{Among, among_first, among_second, among_source, any_from}
use Rattle.av_names.proofs.Accepted.{nothing_mapped, neither, not_found, no_place, named_among, neither_is, distinct_names, AreGiven, indices_known, comparisons_known}
use Rattle.av_base.proofs.Truths.{not_false}

-- what no rule refuses at one part
pub record IsSound (i : Instance) (p : Part) : Type 0 where
  pub variable : unknown_reference i.system p ≡ None
  pub known : unknown_written i.system.sizes.names (written_at p) ≡ None
  pub distinct : at_option (repeated_index i.system.sizes.names) (repetition.of_part p) ≡ None
  pub arity : part_arity i.system p ≡ None
  pub projection : part_projection p ≡ None
  pub few : (c : Counted) → Among c (quantity.of_part p) → exceeds 4 c ≡ None
  pub related : (c : Constraint) → Among c (written_at p).constraints → c.relation ≢ relation.Unequal

pub same_number : (m n : ℕ) (place : Place) → place_where (not (nat_eq m n)) place ≡ None → m ≡ n
same_number m n place h = equal m n (not_false (nat_eq m n) (no_place (not (nat_eq m n)) place h))

both_numbers : (a b m n : ℕ) (place : Place) → place_where (not (nat_eq a b) || not (nat_eq m n)) place ≡ None → (a ≡ b) × (m ≡ n)
both_numbers a b m n place h =
    let r = neither_is (not (nat_eq a b)) (not (nat_eq m n)) (no_place (not (nat_eq a b) || not (nat_eq m n)) place h) in
    (equal a b (not_false (nat_eq a b) r.0), equal m n (not_false (nat_eq m n) r.1))

pub within : (limit : ℕ) (c : Counted) → exceeds limit c ≡ None → c.number ≤ limit
within limit c h = go (nat_lt limit c.number) refl
  where
    go : (t : Bool) → nat_lt limit c.number ≡ t → c.number ≤ limit
    go true e = absurd (let p : Some c ≡ None = rw e at h in cc)
    go false e = ltb-false limit c.number e

abbrev at_part : Bool → Context → Expression → Part
at_part reduced c e = record { context = c; reduced = reduced; expression = e }

module _ (i : Instance) (given : AreGiven i.system.sizes.names i.sizes) (projects : (m : MapText) → AreDistinct m.names → is_projection m ≡ true → Projects m) where
  abbrev sizes : List Text
  sizes = i.system.sizes.names

  abbrev Sound : Bool → Context → Expression → Type 0
  Sound reduced c e = IsSound i (at_part reduced c e)

  map_of_part : (m : MapText) → first_found (unknown_index sizes m.names) m.results ≡ None → repeated_index sizes (of_map m) ≡ None → IsMap i.sizes m
  map_of_part m h k = record {
    distinct = distinct_names sizes m.names (nothing_mapped _ _ k);
    known = indices_known sizes i.sizes given m.names m.results h;
  }

  indices_written : (names : List Text) (w : Written) → unknown_written sizes w ≡ None → first_found (unknown_index sizes w.names) w.indices ≡ None
  indices_written names w h = (neither (λ f. f.place) _ _ h).0

  constraints_written : (w : Written) → unknown_written sizes w ≡ None → first_found (unknown_side sizes w.names) w.constraints ≡ None
  constraints_written w h = (neither (λ f. f.place) _ _ h).1

  declared : (reduced : Bool) (c : Context) (name : Text) (at : Access) (place : Place) → Sound reduced c (reference name at place) → Any (λ d. d.name ≡ name) (variables i.system)
  declared reduced c name at place h =
      let known = not_false (is_variable (variables i.system) name) (not_found (not (is_variable (variables i.system) name)) name place h.variable) in
      let r = among_source (λ d. d.name) (variables i.system) name (named_among (declared_as (variables i.system)) name known) in
      any_from (λ d. d.name ≡ name) (variables i.system) r.0 r.1 r.2

  reads : (reduced : Bool) (c : Context) (name : Text) (at : Access) (place : Place) → Sound reduced c (reference name at place) → Reads i.sizes c (indices_of i name) at
  reads reduced c name access.Here place h = same_number c.indices (indices_of i name) place h.arity
  reads reduced c name (access.Indices es) place h = (
    same_number (length es) (indices_of i name) place h.arity,
    indices_known sizes i.sizes given c.names es (indices_written c.names (record { names = c.names; indices = es; constraints = [] }) h.known),
  )
  reads reduced c name (access.Mapped m) place h =
      let n = both_numbers (length m.names) c.indices (length m.results) (indices_of i name) m.place h.arity in
      (n.0, n.1, map_of_part m (indices_written m.names (record { names = m.names; indices = m.results; constraints = [] }) h.known) h.distinct)

  restricts : (reduced : Bool) (c : Context) (names : List Text) (constraints : List Constraint) (at : Place) (e : Expression) (place : Place)
      → Sound reduced c (restriction (record { names = names; constraints = constraints; place = at }) e place) → Restricts i.sizes c (record { names = names; constraints = constraints; place = at })
  restricts reduced c names constraints at e place h = record {
    arity = size names h.arity;
    distinct = distinct_names sizes names (nothing_mapped _ _ h.distinct);
    constraints = comparisons_known sizes i.sizes given (names_or c.names names) constraints
        (constraints_written (record { names = names_or c.names names; indices = []; constraints = constraints }) h.known) h.related;
  }
    where
      size : (names : List Text) → part_arity i.system (at_part reduced c (restriction (record { names = names; constraints = constraints; place = at }) e place)) ≡ None
          → (names ≡ []) ⊎ (length names ≡ c.indices)
      size [] k = inl refl
      size (n ∷ names) k = inr (same_number (length (n ∷ names)) c.indices at k)

  abbrev AllSound : List Part → Type 0
  AllSound ps = (p : Part) → Among p ps → IsSound i p

  firsts : (ps qs : List Part) → AllSound (ps ++ qs) → AllSound ps
  firsts ps qs h p m = h p (among_first ps qs p m)

  seconds : (ps qs : List Part) → AllSound (ps ++ qs) → AllSound qs
  seconds ps qs h p m = h p (among_second ps qs p m)

  mutual
    pub regular_part : (reduced : Bool) (c : Context) (e : Expression) → AllSound (parts_of reduced c e) → IsRegularIn i c e
    regular_part reduced c (reference name at place) h = let p = h _ (inl refl) in (declared reduced c name at place p, reads reduced c name at place p)
    regular_part reduced c (constant n at place) h = tt
    regular_part reduced c (binary s l r place) h =
        let k : AllSound (parts_of reduced c l ++ parts_of reduced c r) = λ p m. h p (inr m) in
        (regular_part reduced c l (firsts _ _ k), regular_part reduced c r (seconds (parts_of reduced c l) _ k))
    regular_part reduced c (choice l o r x y place) h =
        let k : AllSound (parts_of reduced c l ++ (parts_of reduced c r ++ (parts_of reduced c x ++ parts_of reduced c y))) = λ p m. h p (inr m) in
        let a = seconds (parts_of reduced c l) (parts_of reduced c r ++ (parts_of reduced c x ++ parts_of reduced c y)) k in
        let b = seconds (parts_of reduced c r) (parts_of reduced c x ++ parts_of reduced c y) a in (
          regular_part reduced c l (firsts (parts_of reduced c l) (parts_of reduced c r ++ (parts_of reduced c x ++ parts_of reduced c y)) k),
          regular_part reduced c r (firsts (parts_of reduced c r) (parts_of reduced c x ++ parts_of reduced c y) a),
          regular_part reduced c x (firsts (parts_of reduced c x) (parts_of reduced c y) b),
          regular_part reduced c y (seconds (parts_of reduced c x) (parts_of reduced c y) b),
        )
    regular_part reduced c (restriction d e place) h = (restricts reduced c d.names d.constraints d.place e place (h _ (inl refl)), regular_part reduced c e (λ p m. h p (inr m)))
    regular_part reduced c (cases es place) h = regular_parts reduced c es (λ p m. h p (inr m))
    regular_part reduced c (dependence m e place) h =
        let p : Sound reduced c (dependence m e place) = h _ (inl refl) in (
          same_number (length m.names) c.indices m.place p.arity,
          within 4 _ (p.few _ (inr (inl refl))),
          map_of_part m (indices_written m.names (record { names = m.names; indices = m.results; constraints = [] }) p.known) p.distinct,
          regular_part reduced (nameless (length m.results)) e (λ q n. h q (inr n)),
        )
    regular_part reduced c (reduction o m e place) h =
        let p : Sound reduced c (reduction o m e place) = h _ (inl refl) in
        let is = map_of_part m (indices_written m.names (record { names = m.names; indices = m.results; constraints = [] }) p.known) p.distinct in (
          same_number (length m.results) c.indices m.place p.arity,
          within 4 _ (p.few _ (inl refl)),
          is,
          projects m is.distinct (not_false (is_projection m) (no_place (not (is_projection m)) m.place p.projection)),
          regular_part true (over m.names) e (λ q n. h q (inr n)),
        )

    pub regular_parts : (reduced : Bool) (c : Context) (es : Expressions) → AllSound (parts_of_all reduced c es) → AreRegularIn i c es
    regular_parts reduced c none h = tt
    regular_parts reduced c (more e es) h =
        (regular_part reduced c e (firsts (parts_of reduced c e) (parts_of_all reduced c es) h), regular_parts reduced c es (seconds (parts_of reduced c e) (parts_of_all reduced c es) h))
