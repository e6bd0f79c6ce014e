-- One line: what reading gives for it, and what that tells.
use Rattle.std.proofs.Common.{◌≡◌, ◌≢◌, ℕ, ◌^◌, ◌<◌, ◌≤◌, Bool, true, false, ◌&&◌, List, [], ◌∷◌, length, get_or, cond, not, option_map, Option, Some, None, Result, Ok, Err, refl, sym, ap, ◌∙◌, subst, arith, inl, inr, true≢false, slice_get}
use Rattle.std.specs.Prelude.{if◌then◌else◌, nat_lt, nat_le, All, Contains, codes}
use Rattle.std.specs.List.{position, position_or_len}
use Rattle.std.specs.Str.{bytes_eq}
use Rattle.std.proofs.lemmas.Bool.{ltb-true, ltb-false, leb-true, leb-false, cases_lt}
use Rattle.std.proofs.lemmas.List.Sums.{prefix_len_passes}
use Rattle.std.proofs.lemmas.List.Quantifiers.{position-Some}
use Rattle.std.proofs.lemmas.Option.{slice_get-get_or, slice_get-map, slice_get_within, get_or_from_slice_get}
use Rattle.std.proofs.lemmas.Slice.Eq.{bytes_eq-Decides}
use Rattle.av_base.specs.Tokens.{number_of}
use Rattle.av_net.specs.declared.netlist.Port.{Port}
use Rattle.av_net.specs.Names.{names_of, AreDistinct}
use Rattle.av_data.specs.declared.stimulus.Given.{Given}
use Rattle.av_data.specs.declared.fault.DataFault.{DataFault}
use Rattle.av_data.specs.declared.fault.DataFault.TheVariants.{DataSyntax, DataUnknown, DataOutside, DataTwice, DataMissing, Memory}
use Rattle.av_data.specs.Lines.{uncommented, parts_of}
use Rattle.av_data.specs.Stimuli.{IsCycles, IsAt, Gives, IsSame, IsOutside, NamesNone, IsOutOf, GivesAgain, IsLineFault}
use Rattle.av_data.specs.Reading.{first_part, is_empty, cycles_digits, cycles_by, cycles_at, Setting, setting_in, place_of, bits_of, width_at, added, given_as, is_within, given_at, given_by, value_at}
use Rattle.av_data.specs.Kept.{is_given, placed}
use Rattle.av_data.proofs.Parted.{end_is, end_of, part_of, some_part}
use Rattle.av_data.proofs.Spelled.{cycles_is, cycles_of, IsSetting, setting_is, setting_of}
use Rattle.av_data.proofs.Sorting.{Sorts, given_before, given_none, again_given}

-- ---- answers that differ

abbrev is_some : {A : Type 0} → Option A → Bool
is_some (Some x) = true
is_some None = false

some_none : {A : Type 0} {x : A} {o : Option A} → o ≡ Some x → o ≡ None → ⊥
some_none e f = true≢false (sym (ap is_some e) ∙ ap is_some f)

abbrev value_or : {A : Type 0} → A → Option A → A
value_or x None = x
value_or x (Some y) = y

pub one_some : {A : Type 0} {x y : A} → Some x ≡ Some y → x ≡ y
one_some {x = x} e = ap (value_or x) e

-- ---- `cycles N`

some_word : (line word : List ℕ) (parts : List (List ℕ)) → is_empty word ≡ false → parts_of line ≡ word ∷ parts → is_empty (first_part (uncommented line)) ≡ false
some_word line word parts some h = ap is_empty (part_of (uncommented line) word parts h).0 ∙ some

pub data First (k : ℕ) (line : List ℕ) : Result (Option ℕ) DataFault → Type 0 where
  empty : parts_of line ≡ [] → First k line (Ok None)
  said : {n : ℕ} → IsCycles line n → First k line (Ok (Some n))
  other : parts_of line ≢ [] → ((n : ℕ) → IsCycles line n → ⊥) → First k line (Err (DataSyntax k))

digits_are : (line : List ℕ) (n : ℕ) (c : IsCycles line n) → cycles_digits (uncommented line) ≡ Some c.digits
digits_are line n c = cycles_of (uncommented line) c.digits c.parts c.spelled

pub first_line_is : (k : ℕ) (line : List ℕ) → First k line (cycles_at k line)
unfolding cycles_at
first_line_is k line = by (is_empty (first_part (uncommented line))) refl
  where
    by_most : (digits : List ℕ) → cycles_digits (uncommented line) ≡ Some digits → is_empty (first_part (uncommented line)) ≡ false → (t : Bool) → nat_le (number_of digits) 4096 ≡ t
        → First k line (if t then Ok (Some (number_of digits)) else Err (DataSyntax k))
    by_most digits f e true g =
        let is = cycles_is (uncommented line) digits f in
        said (record { digits = digits; parts = is.0; spelled = is.1; value = refl; most = leb-true (number_of digits) 4096 g })
    by_most digits f e false g =
        other (some_part (uncommented line) e)
        (λ n c. let same : c.digits ≡ digits = one_some (sym (digits_are line n c) ∙ f) in
        let value : number_of digits ≡ n = ap number_of (sym same) ∙ c.value in
        omega (arith, value, c.most, leb-false (number_of digits) 4096 g))

    by_digits : (d : Option (List ℕ)) → cycles_digits (uncommented line) ≡ d → is_empty (first_part (uncommented line)) ≡ false → First k line (cycles_by k d)
    by_digits None f e = other (some_part (uncommented line) e) (λ n c. some_none (digits_are line n c) f)
    by_digits (Some digits) f e = by_most digits f e (nat_le (number_of digits) 4096) refl

    by : (t : Bool) → is_empty (first_part (uncommented line)) ≡ t → First k line (if t then Ok None else cycles_by k (cycles_digits (uncommented line)))
    by true e = empty (end_is (uncommented line) e)
    by false e = by_digits (cycles_digits (uncommented line)) refl e

pub empty_read : (k : ℕ) (line : List ℕ) → parts_of line ≡ [] → cycles_at k line ≡ Ok None
unfolding cycles_at
empty_read k line e = rw (ap is_empty (end_of (uncommented line) e)) refl

pub cycles_read : (k : ℕ) (line : List ℕ) (n : ℕ) → IsCycles line n → cycles_at k line ≡ Ok (Some n)
unfolding cycles_at
cycles_read k line n c =
    let most : nat_le (number_of c.digits) 4096 ≡ true = ap (λ m. nat_le m 4096) c.value ∙ within (nat_le n 4096) refl in
    rw (some_word line (codes "cycles") (c.digits ∷ []) refl c.parts, digits_are line n c, most, c.value) refl
  where
    within : (t : Bool) → nat_le n 4096 ≡ t → t ≡ true
    within true e = refl
    within false e = absurd (omega (arith, c.most, leb-false n 4096 e))

pub other_read : (k : ℕ) (line : List ℕ) → parts_of line ≢ [] → ((n : ℕ) → IsCycles line n → ⊥) → cycles_at k line ≡ Err (DataSyntax k)
other_read k line some none = by (cycles_at k line) (first_line_is k line)
  where
    by : (r : Result (Option ℕ) DataFault) → First k line r → r ≡ Err (DataSyntax k)
    by _ (empty e) = absurd (some e)
    by _ (said {n = n} c) = absurd (none n c)
    by _ (other e f) = refl

-- ---- the place of a port

pub record IsPlaced (inputs : List Port) (name : List ℕ) (place : ℕ) : Type 0 where
  pub port : Port
  pub there : slice_get inputs place ≡ Some port
  pub named : port.name ≡ name

abbrev name_in : Port → List ℕ
name_in port = port.name

-- a name is at its place
pub at_place : (names : List (List ℕ)) (name : List ℕ) (place : ℕ) → position (bytes_eq name) names ≡ Some place → slice_get names place ≡ Some name
at_place names name place e =
    let at = position-Some (bytes_eq name) names place name e in
    let is : name ≡ get_or names place name = (bytes_eq-Decides name (get_or names place name)).0 at.1 in
    slice_get-get_or names place name at.0 ∙ ap (λ (n : List ℕ). Some n) (sym is)

placed_name : (inputs : List Port) (name : List ℕ) (place : ℕ) → place_of inputs name ≡ Some place → IsPlaced inputs name place
placed_name inputs name place e =
    go (slice_get inputs place) refl (sym (slice_get-map name_in inputs place) ∙ at_place (names_of inputs) name place e)
  where
    go : (o : Option Port) → slice_get inputs place ≡ o → option_map name_in o ≡ Some name → IsPlaced inputs name place
    go None f h = absurd (some_none h refl)
    go (Some port) f h = record { port = port; there = f; named = one_some h }

-- and one without a place is not there
pub no_place : (names : List (List ℕ)) (name : List ℕ) → position (bytes_eq name) names ≡ None → Contains names name → ⊥
no_place names name e (k, lt, at) = by (nat_lt (position_or_len (bytes_eq name) names) (length names)) refl e
  where
    by : (t : Bool) → nat_lt (position_or_len (bytes_eq name) names) (length names) ≡ t → cond t (Some (position_or_len (bytes_eq name) names)) None ≡ None → ⊥
    by true f h = some_none refl h
    by false f h =
        let here = prefix_len_passes (λ n. not (bytes_eq name n)) names k name (omega (arith, lt, ltb-false (position_or_len (bytes_eq name) names) (length names) f)) in
        true≢false (sym here ∙ ap not (ap (bytes_eq name) at ∙ (bytes_eq-Decides name name).1 refl))

contained_name : (inputs : List Port) (place : ℕ) (port : Port) → slice_get inputs place ≡ Some port → slice_get (names_of inputs) place ≡ Some port.name
contained_name inputs place port e = slice_get-map name_in inputs place ∙ ap (option_map name_in) e

pub name_there : (inputs : List Port) (place : ℕ) (port : Port) → slice_get inputs place ≡ Some port → Contains (names_of inputs) port.name
name_there inputs place port e =
    let there = contained_name inputs place port e in
    (place, slice_get_within (names_of inputs) place port.name there, get_or_from_slice_get (names_of inputs) place port.name port.name there)

-- the port of a name is the one at its place
pub place_at : (inputs : List Port) (place : ℕ) (port : Port) → AreDistinct (names_of inputs) → slice_get inputs place ≡ Some port → place_of inputs port.name ≡ Some place
place_at inputs place port distinct e = by (place_of inputs port.name) refl
  where
    here : (k : ℕ) (q : Port) → slice_get inputs k ≡ Some q → (k < length (names_of inputs)) × (get_or (names_of inputs) k port.name ≡ q.name)
    here k q f = let there = contained_name inputs k q f in (slice_get_within (names_of inputs) k q.name there, get_or_from_slice_get (names_of inputs) k q.name port.name there)

    by : (o : Option ℕ) → place_of inputs port.name ≡ o → o ≡ Some place
    by None f = absurd (no_place (names_of inputs) port.name f (name_there inputs place port e))
    by (Some second) f =
        let found = placed_name inputs port.name second f in
        let a = here place port e in
        let b = here second found.port found.there in
        let same : get_or (names_of inputs) place port.name ≡ get_or (names_of inputs) second port.name = a.1 ∙ sym (b.1 ∙ found.named) in
        elim (cases_lt place second) [
          | inl lt ↦ absurd (distinct place second port.name lt b.0 same)
          | inr ge ↦ elim (cases_lt second place) [
            | inl lt ↦ absurd (distinct second place port.name lt a.0 (sym same))
            | inr le ↦ let eq : second ≡ place = omega (arith, ge, le) in ap (λ (n : ℕ). Some n) eq
          ]
        ]

-- ---- `at CYCLE PORT VALUE`

setting_said : (line : List ℕ) (s : Setting) → IsSetting (uncommented line) s → IsAt line (number_of s.cycle) s.port (number_of s.value)
setting_said line s is = record {
  cycle_digits = s.cycle;
  value_digits = s.value;
  parts = is.parts;
  cycle_spelled = is.cycle;
  named = is.port;
  value_spelled = is.value;
  cycle_is = refl;
  value_is = refl;
}

setting_for : {line port : List ℕ} {cycle value : ℕ} → IsAt line cycle port value → Setting
setting_for {port = port} at = record { cycle = at.cycle_digits; port = port; value = at.value_digits }

setting_read : (line port : List ℕ) (cycle value : ℕ) (at : IsAt line cycle port value) → setting_in (uncommented line) ≡ Some (record { cycle = at.cycle_digits; port = port; value = at.value_digits })
setting_read line port cycle value at =
    setting_of (uncommented line) (record { cycle = at.cycle_digits; port = port; value = at.value_digits })
    (record { parts = at.parts; cycle = at.cycle_spelled; port = at.named; value = at.value_spelled })

-- ---- a line behind the one that says how many cycles there are

pub data Outcome (inputs : List Port) (n : ℕ) (earlier values : List Given) (k : ℕ) (line : List ℕ) : Result (List Given) DataFault → Type 0 where
  nothing : parts_of line ≡ [] → Outcome inputs n earlier values k line (Ok values)
  one : {g : Given} → Gives inputs n line g → All (λ h. IsSame g h → ⊥) earlier → is_given values g ≡ false → Outcome inputs n earlier values k line (Ok (placed g values))
  faulty : {fault : DataFault} → IsLineFault inputs n earlier k line fault → Outcome inputs n earlier values k line (Err fault)

-- whether the cycle is one of n, and the value fits the port
abbrev Within : ℕ → Port → Setting → Bool → Type 0
Within n port s true = (number_of s.cycle < n) × (number_of s.value < 2 ^ port.width.bits)
Within n port s false = IsOutside n port (number_of s.cycle) (number_of s.value)

module _ (inputs : List Port) (n : ℕ) (earlier values : List Given) (k : ℕ) (line : List ℕ) (sorts : Sorts values earlier) where
  within_port : (s : Setting) (place : ℕ) (port : Port) → slice_get inputs place ≡ Some port → (t : Bool) → is_within inputs n s place ≡ t
      → Within n port s t
  within_port s place port there = λ t e. by (nat_lt (number_of s.cycle) n) (nat_lt (number_of s.value) (2 ^ width_at inputs place)) t refl refl e
    where
      width : width_at inputs place ≡ port.width.bits
      width = ap bits_of there

      by : (u v t : Bool) → nat_lt (number_of s.cycle) n ≡ u → nat_lt (number_of s.value) (2 ^ width_at inputs place) ≡ v → (u && v) ≡ t
          → Within n port s t
      by true true true a b e = (ltb-true (number_of s.cycle) n a, subst (λ w. number_of s.value < 2 ^ w) width (ltb-true (number_of s.value) (2 ^ width_at inputs place) b))
      by true true false a b e = absurd (true≢false e)
      by true false true a b e = absurd (true≢false (sym e))
      by true false false a b e = inr (subst (λ w. 2 ^ w ≤ number_of s.value) width (ltb-false (number_of s.value) (2 ^ width_at inputs place) b))
      by false v true a b e = absurd (true≢false (sym e))
      by false v false a b e = inl (ltb-false (number_of s.cycle) n a)

  gives_this : (s : Setting) (place : ℕ) (port : Port) → IsSetting (uncommented line) s → slice_get inputs place ≡ Some port → port.name ≡ s.port → number_of s.cycle < n → number_of s.value < 2 ^ port.width.bits
      → Gives inputs n line (given_as s place)
  gives_this s place port is there named cycle value = record {
    port = port;
    declared = there;
    said = subst (λ name. IsAt line (number_of s.cycle) name (number_of s.value)) (sym named) (setting_said line s is);
    within = cycle;
    fits = value;
  }

  placed_outcome : (s : Setting) → IsSetting (uncommented line) s → (o : Option ℕ) → place_of inputs s.port ≡ o → Outcome inputs n earlier values k line (given_at inputs n k values s o)
  placed_outcome s is None f = faulty (refl, record { cycle = number_of s.cycle; name = s.port; value = number_of s.value; said = setting_said line s is; unknown = no_place (names_of inputs) s.port f })
  placed_outcome s is (Some place) f = by_within (is_within inputs n s place) refl
    where
      found : IsPlaced inputs s.port place
      found = placed_name inputs s.port place f

      by_given : Gives inputs n line (given_as s place) → (t : Bool) → is_given values (given_as s place) ≡ t
          → Outcome inputs n earlier values k line (if t then Err (DataTwice k) else Ok (placed (given_as s place) values))
      by_given gives true e =
          let before = given_before values earlier (given_as s place) sorts e in
          faulty (refl, record { given = given_as s place; before = before.0; gives = gives; earlier_one = before.1; same = before.2 })
      by_given gives false e = one gives (given_none values earlier (given_as s place) sorts e) e

      by_within : (t : Bool) → is_within inputs n s place ≡ t → Outcome inputs n earlier values k line (if t then added k values (given_as s place) else Err (DataOutside k))
      by_within true e =
          let z = within_port s place found.port found.there true e in
          by_given (gives_this s place found.port is found.there found.named z.0 z.1) (is_given values (given_as s place)) refl
      by_within false e =
          faulty (
            refl,
            record {
              cycle = number_of s.cycle;
              value = number_of s.value;
              port = found.port;
              declared = (place, slice_get_within inputs place found.port found.there, get_or_from_slice_get inputs place found.port found.port found.there);
              said = subst (λ name. IsAt line (number_of s.cycle) name (number_of s.value)) (sym found.named) (setting_said line s is);
              outside = within_port s place found.port found.there false e;
            },
          )

  setting_outcome : (o : Option Setting) → setting_in (uncommented line) ≡ o → is_empty (first_part (uncommented line)) ≡ false → Outcome inputs n earlier values k line (given_by inputs n k values o)
  setting_outcome None f e = faulty (refl, some_part (uncommented line) e, λ cycle name value at. some_none (setting_read line name cycle value at) f)
  setting_outcome (Some s) f e = placed_outcome s (setting_is (uncommented line) s f) (place_of inputs s.port) refl

  pub outcome : Outcome inputs n earlier values k line (value_at inputs n k values line)
  unfolding value_at
  outcome = by (is_empty (first_part (uncommented line))) refl
    where
      by : (t : Bool) → is_empty (first_part (uncommented line)) ≡ t
          → Outcome inputs n earlier values k line (if t then Ok values else given_by inputs n k values (setting_in (uncommented line)))
      by true e = nothing (end_is (uncommented line) e)
      by false e = setting_outcome (setting_in (uncommented line)) refl e

  -- ---- what is so is read

  pub nothing_read : parts_of line ≡ [] → value_at inputs n k values line ≡ Ok values
  unfolding value_at
  nothing_read e = rw (ap is_empty (end_of (uncommented line) e)) refl

  said_read : (cycle : ℕ) (name : List ℕ) (value : ℕ) (at : IsAt line cycle name value)
      → value_at inputs n k values line ≡ given_at inputs n k values (record { cycle = at.cycle_digits; port = name; value = at.value_digits }) (place_of inputs name)
  unfolding value_at
  said_read cycle name value at =
      rw (some_word line (codes "at") (at.cycle_digits ∷ name ∷ at.value_digits ∷ []) refl at.parts, setting_read line name cycle value at) refl

  gives_step : (g : Given) → AreDistinct (names_of inputs) → Gives inputs n line g → value_at inputs n k values line ≡ added k values g
  gives_step g distinct gives =
      let s : Setting = record { cycle = gives.said.cycle_digits; port = gives.port.name; value = gives.said.value_digits } in
      let is : given_as s g.port ≡ g = same_given gives.said.cycle_is gives.said.value_is in
      let inside : is_within inputs n s g.port ≡ true = inside_port s g.port gives.port gives.declared (subst (λ c. c < n) (sym gives.said.cycle_is) gives.within) (subst (λ v. v < 2 ^ gives.port.width.bits) (sym gives.said.value_is) gives.fits) in
      said_read g.cycle gives.port.name g.value gives.said
      ∙ ap (given_at inputs n k values s) (place_at inputs g.port gives.port distinct gives.declared)
      ∙ ap (λ (t : Bool). if t then added k values (given_as s g.port) else Err (DataOutside k)) inside
      ∙ ap (added k values) is
    where
      same_given : {c v : ℕ} → c ≡ g.cycle → v ≡ g.value → (let h : Given = record { cycle = c; port = g.port; value = v } in h) ≡ g
      same_given e f = rw (e, f) refl

      inside_port : (s : Setting) (place : ℕ) (port : Port) → slice_get inputs place ≡ Some port → number_of s.cycle < n → number_of s.value < 2 ^ port.width.bits → is_within inputs n s place ≡ true
      inside_port s place port there a b = by (is_within inputs n s place) refl
        where
          by : (t : Bool) → is_within inputs n s place ≡ t → t ≡ true
          by true e = refl
          by false e = elim (within_port s place port there false e) [
            | inl le ↦ absurd (omega (arith, a, le))
            | inr le ↦ absurd (omega (arith, b, le))
          ]

  pub gives_read : (g : Given) → AreDistinct (names_of inputs) → Gives inputs n line g → is_given values g ≡ false → value_at inputs n k values line ≡ Ok (placed g values)
  gives_read g distinct gives none = gives_step g distinct gives ∙ ap (λ (t : Bool). if t then Err (DataTwice k) else Ok (placed g values)) none

  again_read : GivesAgain inputs n earlier line → AreDistinct (names_of inputs) → value_at inputs n k values line ≡ Err (DataTwice k)
  again_read again distinct =
      gives_step again.given distinct again.gives
      ∙ ap (λ (t : Bool). if t then Err (DataTwice k) else Ok (placed again.given values)) (again_given values earlier again.given again.before sorts again.earlier_one again.same)

  unknown_read : NamesNone inputs line → value_at inputs n k values line ≡ Err (DataUnknown k)
  unknown_read none =
      said_read none.cycle none.name none.value none.said
      ∙ ap (given_at inputs n k values (record { cycle = none.said.cycle_digits; port = none.name; value = none.said.value_digits })) (by (place_of inputs none.name) refl)
    where
      by : (o : Option ℕ) → place_of inputs none.name ≡ o → o ≡ None
      by None e = refl
      by (Some place) e = let found = placed_name inputs none.name place e in absurd (none.unknown (subst (Contains (names_of inputs)) found.named (name_there inputs place found.port found.there)))

  outside_read : IsOutOf inputs n line → AreDistinct (names_of inputs) → value_at inputs n k values line ≡ Err (DataOutside k)
  outside_read out distinct =
      let place : ℕ = out.declared.0 in
      let there : slice_get inputs place ≡ Some out.port = slice_get-get_or inputs place out.port out.declared.1 ∙ ap (λ (p : Port). Some p) out.declared.2 in
      let s : Setting = record { cycle = out.said.cycle_digits; port = out.port.name; value = out.said.value_digits } in
      said_read out.cycle out.port.name out.value out.said
      ∙ ap (given_at inputs n k values s) (place_at inputs place out.port distinct there)
      ∙ ap (λ (t : Bool). if t then added k values (given_as s place) else Err (DataOutside k)) (by s place there (is_within inputs n s place) refl out.said.cycle_is out.said.value_is)
    where
      by : (s : Setting) (place : ℕ) → slice_get inputs place ≡ Some out.port → (t : Bool) → is_within inputs n s place ≡ t → number_of s.cycle ≡ out.cycle → number_of s.value ≡ out.value → t ≡ false
      by s place there false e c v = refl
      by s place there true e c v =
          let z = within_port s place out.port there true e in
          elim out.outside [
            | inl le ↦ absurd (omega (arith, z.0, le, c))
            | inr le ↦ absurd (omega (arith, z.1, le, v))
          ]

  syntax_read : parts_of line ≢ [] → ((cycle : ℕ) (name : List ℕ) (value : ℕ) → IsAt line cycle name value → ⊥) → value_at inputs n k values line ≡ Err (DataSyntax k)
  unfolding value_at
  syntax_read some none = by (is_empty (first_part (uncommented line))) refl
    where
      by_setting : (o : Option Setting) → setting_in (uncommented line) ≡ o → given_by inputs n k values o ≡ Err (DataSyntax k)
      by_setting None f = refl
      by_setting (Some s) f = absurd (none (number_of s.cycle) s.port (number_of s.value) (setting_said line s (setting_is (uncommented line) s f)))

      by : (t : Bool) → is_empty (first_part (uncommented line)) ≡ t → (if t then Ok values else given_by inputs n k values (setting_in (uncommented line))) ≡ Err (DataSyntax k)
      by true e = absurd (some (end_is (uncommented line) e))
      by false e = by_setting (setting_in (uncommented line)) refl

  pub fault_read : (fault : DataFault) → AreDistinct (names_of inputs) → IsLineFault inputs n earlier k line fault → value_at inputs n k values line ≡ Err fault
  fault_read (DataSyntax l) distinct is = syntax_read is.1 is.2 ∙ ap (λ m. Err (DataSyntax m)) (sym is.0)
  fault_read (DataUnknown l) distinct is = unknown_read is.1 ∙ ap (λ m. Err (DataUnknown m)) (sym is.0)
  fault_read (DataOutside l) distinct is = outside_read is.1 distinct ∙ ap (λ m. Err (DataOutside m)) (sym is.0)
  fault_read (DataTwice l) distinct is = again_read is.1 distinct ∙ ap (λ m. Err (DataTwice m)) (sym is.0)
  fault_read (DataMissing name point) distinct is = absurd is
  fault_read Memory distinct is = absurd is
