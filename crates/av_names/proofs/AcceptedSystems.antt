-- A system that no rule refuses is regular.
use Rattle.std.proofs.Common.{◌≡◌, ◌≢◌, ℕ, inl, inr, true, false, not, List, [], ◌∷◌, ◌++◌, map, length, Option, Some, None, refl, sym, ap, subst, ◌∙◌, All, Any}
use Rattle.std.specs.Prelude.{filter_map, find, option_map}
use Rattle.std.specs.List.{flat_map, cons_option}
use Rattle.av_tree.specs.declared.domain.Constraint.{Constraint}
use Rattle.av_tree.specs.declared.relation.Relation.TheVariants as relation
use Rattle.av_tree.specs.declared.system.Declaration.{Declaration}
use Rattle.av_tree.specs.Trees.{Text, Equation, System}
use Rattle.av_tree.specs.Domains.{variables, computed, context}
use Rattle.av_tree.specs.Counts.{Instance}
use Rattle.av_tree.specs.Rows.{is_index}
use Rattle.av_names.specs.declared.size.Size.{Size}
use Rattle.av_names.specs.declared.fault.NameFault.{NameFault}
use Rattle.av_names.specs.declared.fault.NameFault.TheVariants as fault
use Rattle.av_flat.specs.declared.quantity.Quantity.TheVariants as kind
use Rattle.av_names.specs.Sizes.{sizes_of, instance_of}
use Rattle.av_names.specs.Accepted.{HasNoInequality}
use Rattle.av_names.specs.Arities.{arity, equation_arity, part_arity}
use Rattle.av_names.specs.Equations.{equation_found, declaration_found, second_equation, defined, defines_input, no_equation}
use Rattle.av_names.specs.Forms.{over}
use Rattle.av_base.specs.declared.place.Place.{Place}
use Rattle.av_names.specs.Found.{Found, first_found, first_place}
use Rattle.av_names.specs.inner.AtOption.{at_option}
use Rattle.av_names.specs.Parts.{Part, parts, equation_parts, arity_of}
use Rattle.av_names.specs.Quantities as quantity
use Rattle.av_names.specs.Quantities.{Counted, exceeds, index_lists, too_many_indices}
use Rattle.av_names.specs.Reductions.{part_projection, projection}
use Rattle.av_names.specs.Refusals.{rules, first_rule, IsAccepted}
use Rattle.av_names.specs.Regular.{IsRegular, IsRegularEquation, IsDomain, HasIndices}
use Rattle.av_names.specs.Repetitions as repetition
use Rattle.av_names.specs.Repetitions.{NameList, repeated, repeated_variable, repeated_index, name_lists}
use Rattle.av_names.specs.SizeWords.{size_missing, names_of}
use Rattle.av_names.specs.Unknowns.{unknown, unknown_equation, unknown_reference, unknown_written, unknown_side, unknown_index, is_variable, declared_as}
use Rattle.av_names.specs.Written.{Written, written_at, written_declaration, all_written}
use Rattle.av_names.proofs.Accepted.{rule_first, nothing_mapped, neither, at_none, not_found, none_passes, named_among, among_named, distinct_names, distinct_variables, distinct_equations, AreGiven, word_given, comparisons_known}
use Rattle.av_names.proofs.Accepting.{IsSound, same_number, within, regular_part}
use Rattle.av_names.proofs.Among.{Among, all_at, all_from, any_from, among_parts, among_first, among_second, among_image, among_source}
use Rattle.av_names.proofs.Projected.{projection_is}
use Rattle.av_names.proofs.Places.{HasDomain}
use Rattle.av_base.proofs.Truths.{not_false}

-- ---- lists

pub among_flat : {X Y : Type 0} (f : X → List Y) (xs : List X) (x : X) (y : Y) → Among x xs → Among y (f x) → Among y (flat_map f xs)
among_flat f [] x y m n = absurd m
among_flat f (z ∷ xs) x y (inl e) n = among_first (f z) (flat_map f xs) y (subst (λ a. Among y (f a)) (sym e) n)
among_flat f (z ∷ xs) x y (inr m) n = among_second (f z) (flat_map f xs) y (among_flat f xs x y m n)

either_way : {Y : Type 0} (o : Option Y) (ys : List Y) (y : Y) → Among y ys → Among y (cons_option o ys)
either_way None ys y m = m
either_way (Some z) ys y m = inr m

-- each rule finds nothing
pub each_rule : (os : List (Option NameFault)) → first_rule os ≡ None → (o : Option NameFault) → Among o os → o ≡ None
each_rule [] h o m = absurd m
each_rule (p ∷ os) h o (inl e) = sym e ∙ (rule_first p os h).0
each_rule (p ∷ os) h o (inr m) = each_rule os (rule_first p os h).1 o m

among_filtered : {X Y : Type 0} (f : X → Option Y) (xs : List X) (x : X) (y : Y) → Among x xs → f x ≡ Some y → Among y (filter_map f xs)
among_filtered f [] x y m h = absurd m
among_filtered f (z ∷ xs) x y (inl e) h = rw (ap f e ∙ h) (inl refl)
among_filtered f (z ∷ xs) x y (inr m) h = either_way (f z) (filter_map f xs) y (among_filtered f xs x y m h)

none_at : {X Y A : Type 0} (rule : Y → Option A) (f : X → Option Y) (xs : List X) (x : X) → ((y : Y) → Among y (filter_map f xs) → rule y ≡ None) → Among x xs → at_option rule (f x) ≡ None
none_at rule f xs x h m = go (f x) refl
  where
    go : (o : Option _) → f x ≡ o → at_option rule o ≡ None
    go None e = refl
    go (Some y) e = h y (among_filtered f xs x y m e)

-- ---- the system

module _ (s : System) (words : List Size) (width : ℕ) (plain : HasNoInequality s) (accepted : IsAccepted s words) where
  abbrev i : Instance
  i = instance_of s words width

  abbrev sizes : List Text
  sizes = s.sizes.names

  record NoneHolds : Type 0 where
    repeated : repeated s ≡ None
    missing : size_missing s words ≡ None
    unknown : unknown s ≡ None
    defines : defines_input s ≡ None
    second : second_equation [] s.equations ≡ None
    lacks : no_equation s ≡ None
    arities : arity s ≡ None
    projections : projection s ≡ None
    indices : too_many_indices s ≡ None

  silent : {A : Type 0} (f : A → NameFault) (o : Option A) → Among (option_map f o) (rules s words) → o ≡ None
  silent f o m = nothing_mapped f o (each_rule (rules s words) accepted (option_map f o) m)

  none_holds : NoneHolds
  none_holds = record {
    repeated = silent (λ x. fault.Repeated x.name x.place) (repeated s) (inl refl);
    missing = silent (λ x. fault.SizeMissing x) (size_missing s words) (inr (inr (inr (inl refl))));
    unknown = silent (λ x. fault.Unknown x.name x.place) (unknown s) (inr (inr (inr (inr (inl refl)))));
    defines = silent (λ x. fault.DefinesInput x.name x.place) (defines_input s) (inr (inr (inr (inr (inr (inl refl))))));
    second = silent (λ x. fault.SecondEquation x.name x.place) (second_equation [] s.equations) (inr (inr (inr (inr (inr (inr (inl refl)))))));
    lacks = silent (λ x. fault.NoEquation x.name x.place) (no_equation s) (inr (inr (inr (inr (inr (inr (inr (inl refl))))))));
    arities = silent (λ x. fault.Arity x) (arity s) (inr (inr (inr (inr (inr (inr (inr (inr (inl refl)))))))));
    projections = silent (λ x. fault.Projection x) (projection s) (inr (inr (inr (inr (inr (inr (inr (inr (inr (inl refl))))))))));
    indices = silent (λ x. fault.Limit kind.Indices x) (too_many_indices s) (inr (inr (inr (inr (inr (inr (inr (inr (inr (inr (inr (inr (inr (inl refl))))))))))))));
  }

  given : AreGiven sizes (sizes_of words)
  given name h = word_given words name (not_false (is_index (names_of words) name) (none_passes (λ n. not (is_index (names_of words) n)) sizes name none_holds.missing (named_among sizes name h)))

  abbrev of_found : Found → Place
  of_found f = f.place

  -- ---- what the rules say of lists of names, and of what is written

  repeats : (repeated_variable sizes (variables s) ≡ None) × (first_found (repeated_index sizes) (name_lists s) ≡ None)
  repeats = neither of_found _ _ (neither of_found _ _ none_holds.repeated).1

  unknowns : (first_found (unknown_equation s) s.equations ≡ None) × (first_found (unknown_reference s) (parts s) ≡ None) × (first_found (unknown_written sizes) (all_written s) ≡ None)
  unknowns =
      let a = neither of_found _ _ none_holds.unknown in
      let b = neither of_found _ _ a.1 in
      (a.0, b.0, b.1)

  abbrev declared_lists : List NameList
  declared_lists = map repetition.of_declaration (variables s)

  abbrev equation_lists : List NameList
  equation_lists = filter_map repetition.of_equation s.equations

  abbrev part_lists : List NameList
  part_lists = filter_map repetition.of_part (parts s)

  list_once : (l : NameList) → Among l (name_lists s) → repeated_index sizes l ≡ None
  list_once l m = at_none of_found (repeated_index sizes) (name_lists s) l repeats.1 m

  written_known : (w : Written) → Among w (all_written s) → unknown_written sizes w ≡ None
  written_known w m = at_none of_found (unknown_written sizes) (all_written s) w unknowns.2 m

  few_here : (c : Counted) → Among c (index_lists s) → exceeds 4 c ≡ None
  few_here c m = at_none (λ d. d.place) (exceeds 4) (index_lists s) c (nothing_mapped _ _ none_holds.indices) m

  abbrev counted_first : List Counted
  counted_first = map quantity.of_declaration (variables s) ++ filter_map quantity.of_equation s.equations

  arities_here : (first_place (equation_arity s) s.equations ≡ None) × (first_place (part_arity s) (parts s) ≡ None)
  arities_here = neither (λ p. p) _ _ none_holds.arities

  part_written : (p : Part) → Among p (parts s) → Among (written_at p) (all_written s)
  part_written p m = inr (among_second (map written_declaration (variables s)) (map written_at (parts s)) (written_at p) (among_image written_at (parts s) p m))

  ordered : (w : Written) → Among w (all_written s) → (c : Constraint) → Among c w.constraints → c.relation ≢ relation.Unequal
  ordered w m c n = all_at (λ d. d.relation ≢ relation.Unequal) w.constraints c (all_at (λ v. All (λ d. d.relation ≢ relation.Unequal) v.constraints) (all_written s) w plain m) n

  -- ---- parts, domains and equations

  sound : (p : Part) → Among p (parts s) → IsSound i p
  sound p m = record {
    variable = at_none of_found (unknown_reference s) (parts s) p unknowns.1 m;
    known = written_known (written_at p) (part_written p m);
    distinct = none_at (repeated_index sizes) repetition.of_part (parts s) p (λ l n. list_once l (among_second (declared_lists ++ equation_lists) part_lists l n)) m;
    arity = at_none (λ q. q) (part_arity s) (parts s) p arities_here.1 m;
    projection = at_none (λ q. q) part_projection (parts s) p none_holds.projections m;
    few = λ c n. few_here c (among_second counted_first (flat_map quantity.of_part (parts s)) c (among_flat quantity.of_part (parts s) p c m n));
    related = ordered (written_at p) (part_written p m);
  }

  domain_is : (d : Declaration) → Among d (variables s) → IsDomain (sizes_of words) d.domain
  domain_is d m =
      let w : Among (written_declaration d) (all_written s) = inr (among_first (map written_declaration (variables s)) (map written_at (parts s)) (written_declaration d) (among_image written_declaration (variables s) d m)) in
      let l = list_once (repetition.of_declaration d) (among_first (declared_lists ++ equation_lists) part_lists (repetition.of_declaration d)
      (among_first declared_lists equation_lists (repetition.of_declaration d) (among_image repetition.of_declaration (variables s) d m))) in
      record {
        distinct = distinct_names sizes d.domain.names (nothing_mapped _ _ l);
        few = within 4 (quantity.of_declaration d) (few_here (quantity.of_declaration d) (among_first counted_first (flat_map quantity.of_part (parts s)) (quantity.of_declaration d)
            (among_first (map quantity.of_declaration (variables s)) (filter_map quantity.of_equation s.equations) (quantity.of_declaration d) (among_image quantity.of_declaration (variables s) d m))));
        constraints = comparisons_known sizes (sizes_of words) given d.domain.names d.domain.constraints
            (neither of_found (first_found (unknown_index sizes d.domain.names) []) (first_found (unknown_side sizes d.domain.names) d.domain.constraints) (written_known (written_declaration d) w)).1 (ordered (written_declaration d) w);
      }

  named_one : (ds : List Declaration) (name : Text) → is_variable ds name ≡ true → (d : Declaration) × Among d ds × (d.name ≡ name)
  named_one ds name h = among_source (λ d. d.name) ds name (named_among (declared_as ds) name h)

  computes : (e : Equation) → Among e s.equations → Any (λ d. d.name ≡ e.name) (computed s)
  computes e m =
      let known = not_false (is_variable (variables s) e.name) (not_found (not (is_variable (variables s) e.name)) e.name e.place (at_none of_found (unknown_equation s) s.equations e unknowns.0 m)) in
      let r = named_one (variables s) e.name known in
      let other = none_passes (λ f. is_variable s.inputs f.name) s.equations e (nothing_mapped equation_found (find (λ e. is_variable s.inputs e.name) s.equations) none_holds.defines) m in
      elim (among_parts s.inputs (computed s) r.0 r.1) [
        | inl a ↦ absurd (let p = among_named (declared_as s.inputs) e.name (subst (λ n. Among n (declared_as s.inputs)) r.2 (among_image (λ d. d.name) s.inputs r.0 a)) in let q : true ≡ false = sym p ∙ other in cc)
        | inr b ↦ any_from (λ d. d.name ≡ e.name) (computed s) r.0 b r.2
      ]

  listed : (e : Equation) → Among e s.equations → HasIndices (arity_of s e.name) e.indices
  listed e m = go e.indices refl
    where
      go : (o : Option (List Text)) → e.indices ≡ o → HasIndices (arity_of s e.name) o
      go None p = tt
      go (Some names) p =
          let l : repetition.of_equation e ≡ Some (record { names = names; place = e.place }) = ap (option_map (λ ns. record { names = ns; place = e.place })) p in
          let n = list_once (record { names = names; place = e.place }) (among_first (declared_lists ++ equation_lists) part_lists _
          (among_second declared_lists equation_lists _ (among_filtered repetition.of_equation s.equations e _ m l))) in
          let a = at_none (λ q. q) (equation_arity s) s.equations e arities_here.0 m in
          (distinct_names sizes names (nothing_mapped _ _ n), same_number (length names) (arity_of s e.name) e.place (rw p at a))

  pub accepted_is_regular : IsRegular i
  accepted_is_regular = record {
    names = (distinct_variables sizes (variables s) repeats.0).1;
    domains = all_from (HasDomain (sizes_of words)) (variables s) domain_is;
    defined = all_from (λ d. Any (λ e. e.name ≡ d.name) s.equations) (computed s) (λ d m.
        let there = not_false (is_index (defined s) d.name) (none_passes (λ d. not (is_index (defined s) d.name)) (computed s) d (nothing_mapped declaration_found (find (λ d. not (is_index (defined s) d.name)) (computed s)) none_holds.lacks) m) in
        let r = among_source (λ e. e.name) s.equations d.name (named_among (defined s) d.name there) in
        any_from (λ e. e.name ≡ d.name) s.equations r.0 r.1 r.2);
    once = (distinct_equations [] s.equations none_holds.second).1;
    equations = all_from (IsRegularEquation i) s.equations (λ e m. record {
      computes = computes e m;
      indices = listed e m;
      right = regular_part i given projection_is false (over (context s e)) e.right (λ p n. sound p (among_flat (equation_parts s) s.equations e p m n));
    });
  }
