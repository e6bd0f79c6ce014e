-- Where no mention stands again, no name of one sort does.
use Rattle.std.proofs.Common.{◌≡◌, ℕ, zero, suc, List, [], ◌∷◌, ◌++◌, map, refl, sym, ◌∙◌, ap, subst, arith, append_assoc, Bool, true, false, ◌||◌, ◌&&◌, if◌then◌else◌, Option, Some, None, true≢false, inl, inr}
use Rattle.std.specs.Prelude.{Contains}
use Rattle.std.specs.List.{flat_map, list_any}
use Rattle.std.specs.Str.{bytes_eq}
use Rattle.std.proofs.lemmas.List.{append-nil}
use Rattle.std.proofs.lemmas.List.Concat.{flat_map-append}
use Rattle.std.proofs.lemmas.List.Elements.{Contains-append_left}
use Rattle.std.proofs.lemmas.Slice.Eq.{bytes_eq-Decides}
use Rattle.av_base.proofs.Among.{among_cases, among_map, none_among, from_flat_map}
use Rattle.av_base.proofs.Truths.{and_true, by_test}
use Rattle.av_net.specs.declared.plan.CellKind.{CellKind}
use Rattle.av_net.specs.Names.{clk, rst, names_of, AreDistinct}
use Rattle.av_net.specs.Plans.{instance_names}
use Rattle.av_net.specs.Grammar.{ModuleText, PortLink, Instantiation, Item, drive, widening, step, instance}
use Rattle.av_net.specs.Rows.{Mention, of_module, declares, drives, links, mentioned, is_same, first_again, declared_names, instances_in, kind_for, driven_by_link, driven_names, link_mentions, item_mentions, mentions_of}
use Rattle.av_net.proofs.Distinct.{append_distinct, cons_distinct}
use Rattle.av_net.proofs.Tested.{distinct_tested}
use Rattle.av_net.proofs.Counts.{part_distinct}
use Rattle.av_net.proofs.Linked.{ports_in}

any_true : {X : Type 0} (f : X → Bool) (xs : List X) (x : X) → Contains xs x → f x ≡ true → list_any f xs ≡ true
any_true f [] x at e = absurd (none_among x at)
any_true f (y ∷ xs) x at e = elim (among_cases y x xs at) [
  | inl same ↦ let here : f y ≡ true = ap f same ∙ e in rw here refl
  | inr later ↦ right (f y) (any_true f xs x later e)
]
  where
    right : (a : Bool) {b : Bool} → b ≡ true → (a || b) ≡ true
    right true e = refl
    right false e = e

-- the names of one sort: at most one of each mention, and mentions with one name of it are the same
pub record IsSort (pick : Mention → List (List ℕ)) : Type 0 where
  pub single : (m : Mention) → AreDistinct (pick m)
  pub same : (m later : Mention) (name : List ℕ) → Contains (pick m) name → Contains (pick later) name → is_same m later ≡ true

neither : {A : Type 0} (test : Bool) (x : A) (later : Option A) → (if test then Some x else later) ≡ None → (test ≡ false) × (later ≡ None)
neither true x later e = absurd cc
neither false x later e = (refl, e)

pub none_again : (pick : Mention → List (List ℕ)) → IsSort pick → (earlier ms : List Mention) → AreDistinct (flat_map pick earlier) → first_again earlier ms ≡ None → AreDistinct (flat_map pick (earlier ++ ms))
none_again pick sort earlier [] distinct e = subst (λ ms. AreDistinct (flat_map pick ms)) (sym (append-nil earlier)) distinct
none_again pick sort earlier (m ∷ ms) distinct e =
    let (apart, rest) = neither (list_any (is_same m) earlier) (mentioned m) (first_again (earlier ++ m ∷ []) ms) e in
    let more : AreDistinct (flat_map pick earlier ++ pick m) = append_distinct (flat_map pick earlier) (pick m) distinct (sort.single m) (λ name before here.
    let (other, at, there) = from_flat_map pick earlier name before in
    true≢false (sym (any_true (is_same m) earlier other at (sort.same m other name here there)) ∙ apart)) in
    let line : flat_map pick (earlier ++ m ∷ []) ≡ flat_map pick earlier ++ pick m = flat_map-append pick earlier (m ∷ []) ∙ ap (λ names. flat_map pick earlier ++ names) (append-nil (pick m)) in
    subst (λ ms. AreDistinct (flat_map pick ms)) (append_assoc earlier (m ∷ []) ms)
    (none_again pick sort (earlier ++ m ∷ []) ms (subst AreDistinct (sym line) more) rest)

-- ---- the sorts

pub nothing_twice : AreDistinct []
nothing_twice i j d lt lj = absurd (omega arith)

one_alone : (name : List ℕ) → AreDistinct (name ∷ [])
one_alone name = cons_distinct name [] (λ at. none_among name at) nothing_twice

one_name : (a b name : List ℕ) → Contains (a ∷ []) name → Contains (b ∷ []) name → bytes_eq a b ≡ true
one_name a b name at there = (bytes_eq-Decides a b).1 (the a at ∙ sym (the b there))
  where
    the : (x : List ℕ) → Contains (x ∷ []) name → x ≡ name
    the x (zero, lt, is) = is
    the x (suc k, lt, is) = absurd (omega arith)

abbrev pub declared_by : Mention → List (List ℕ)
declared_by (declares name) = name ∷ []
declared_by (of_module name) = []
declared_by (drives name) = []
declared_by (links u port) = []

abbrev pub driven_at : Mention → List (List ℕ)
driven_at (drives name) = name ∷ []
driven_at (declares name) = []
driven_at (of_module name) = []
driven_at (links u port) = []

pub declarations_sort : IsSort declared_by
declarations_sort = record { single = single; same = same }
  where
    single : (m : Mention) → AreDistinct (declared_by m)
    single (declares name) = one_alone name
    single (of_module name) = nothing_twice
    single (drives name) = nothing_twice
    single (links u port) = nothing_twice

    same : (m later : Mention) (name : List ℕ) → Contains (declared_by m) name → Contains (declared_by later) name → is_same m later ≡ true
    same (declares a) (declares b) name at there = one_name a b name at there
    same (declares a) (of_module b) name at there = absurd (none_among name there)
    same (declares a) (drives b) name at there = absurd (none_among name there)
    same (declares a) (links u b) name at there = absurd (none_among name there)
    same (of_module a) later name at there = absurd (none_among name at)
    same (drives a) later name at there = absurd (none_among name at)
    same (links u a) later name at there = absurd (none_among name at)

pub drives_sort : IsSort driven_at
drives_sort = record { single = single; same = same }
  where
    single : (m : Mention) → AreDistinct (driven_at m)
    single (drives name) = one_alone name
    single (of_module name) = nothing_twice
    single (declares name) = nothing_twice
    single (links u port) = nothing_twice

    same : (m later : Mention) (name : List ℕ) → Contains (driven_at m) name → Contains (driven_at later) name → is_same m later ≡ true
    same (drives a) (drives b) name at there = one_name a b name at there
    same (drives a) (of_module b) name at there = absurd (none_among name there)
    same (drives a) (declares b) name at there = absurd (none_among name there)
    same (drives a) (links u b) name at there = absurd (none_among name there)
    same (of_module a) later name at there = absurd (none_among name at)
    same (declares a) later name at there = absurd (none_among name at)
    same (links u a) later name at there = absurd (none_among name at)

-- the ports that the instance u links
abbrev pub linked_at : List ℕ → Mention → List (List ℕ)
linked_at u (links v port) = if bytes_eq u v then port ∷ [] else []
linked_at u (declares name) = []
linked_at u (of_module name) = []
linked_at u (drives name) = []

pub links_sort : (u : List ℕ) → IsSort (linked_at u)
links_sort u = record { single = single; same = same }
  where
    one_or_none : (test : Bool) (port : List ℕ) → AreDistinct (if test then port ∷ [] else [])
    one_or_none true port = one_alone port
    one_or_none false port = nothing_twice

    single : (m : Mention) → AreDistinct (linked_at u m)
    single (links v port) = one_or_none (bytes_eq u v) port
    single (declares name) = nothing_twice
    single (of_module name) = nothing_twice
    single (drives name) = nothing_twice

    both_linked : (v w a b name : List ℕ) → Contains (linked_at u (links v a)) name → Contains (linked_at u (links w b)) name → (bytes_eq v w && bytes_eq a b) ≡ true
    both_linked v w a b name at there = by_test (bytes_eq u v)
        (λ is_v. by_test (bytes_eq u w)
        (λ is_w.
        let same_u : v ≡ w = sym ((bytes_eq-Decides u v).0 is_v) ∙ (bytes_eq-Decides u w).0 is_w in
        let in_a : Contains (a ∷ []) name = rw is_v at at in
        let in_b : Contains (b ∷ []) name = rw is_w at there in
        and_true (bytes_eq v w) (bytes_eq a b) ((bytes_eq-Decides v w).1 same_u) (one_name a b name in_a in_b))
        (λ no_w. let none : Contains [] name = rw no_w at there in absurd (none_among name none)))
        (λ no_v. let none : Contains [] name = rw no_v at at in absurd (none_among name none))

    same : (m later : Mention) (name : List ℕ) → Contains (linked_at u m) name → Contains (linked_at u later) name → is_same m later ≡ true
    same (links v a) (links w b) name at there = both_linked v w a b name at there
    same (links v a) (of_module b) name at there = absurd (none_among name there)
    same (links v a) (declares b) name at there = absurd (none_among name there)
    same (links v a) (drives b) name at there = absurd (none_among name there)
    same (of_module a) later name at there = absurd (none_among name at)
    same (declares a) later name at there = absurd (none_among name at)
    same (drives a) later name at there = absurd (none_among name at)

-- ---- the mentions of a module

pub nested : {X Y Z : Type 0} (f : Y → List Z) (g : X → List Y) (xs : List X) → flat_map f (flat_map g xs) ≡ flat_map (λ x. flat_map f (g x)) xs
nested f g [] = refl
nested f g (x ∷ xs) = flat_map-append f (g x) (flat_map g xs) ∙ ap (λ more. flat_map f (g x) ++ more) (nested f g xs)

no_declarations : (names : List (List ℕ)) → flat_map declared_by (map drives names) ≡ []
no_declarations [] = refl
no_declarations (name ∷ names) = no_declarations names

no_modules : (names : List (List ℕ)) → flat_map declared_by (map of_module names) ≡ []
no_modules [] = refl
no_modules (name ∷ names) = no_modules names

all_declared : (names : List (List ℕ)) → flat_map declared_by (map declares names) ≡ names
all_declared [] = refl
all_declared (name ∷ names) = ap (λ more. name ∷ more) (all_declared names)

links_declare : (kind : CellKind) (u : List ℕ) (ls : List PortLink) → flat_map declared_by (flat_map (link_mentions kind u) ls) ≡ []
links_declare kind u [] = refl
links_declare kind u (l ∷ ls) =
    flat_map-append declared_by (link_mentions kind u l) (flat_map (link_mentions kind u) ls)
    ∙ ap (λ more. flat_map declared_by (link_mentions kind u l) ++ more) (links_declare kind u ls)
    ∙ append-nil (flat_map declared_by (link_mentions kind u l)) ∙ no_declarations (driven_by_link kind l)

items_declare : (kinds : List CellKind) (items : List Item) → flat_map declared_by (flat_map (item_mentions kinds) items) ≡ instance_names (instances_in kinds items)
items_declare kinds [] = refl
items_declare kinds (drive d ∷ items) = items_declare kinds items
items_declare kinds (widening bit d ∷ items) = items_declare kinds items
items_declare kinds (step width s ∷ items) = items_declare kinds items
items_declare kinds (instance x ∷ items) =
    let own = flat_map (link_mentions (kind_for kinds x) x.name) x.links in
    ap (λ names. x.name ∷ names) (flat_map-append declared_by own (flat_map (item_mentions kinds) items) ∙ ap (λ names. names ++ flat_map declared_by (flat_map (item_mentions kinds) items)) (links_declare (kind_for kinds x) x.name x.links))
    ∙ ap (λ names. x.name ∷ names) (items_declare kinds items)

-- the names that a module declares, in the order of the text
abbrev pub declared_in : ModuleText → List (List ℕ)
declared_in x = names_of x.inputs ++ names_of x.outputs ++ declared_names x.declarations

-- what stands before the mentions of a module, behind others with these names
abbrev pub front_of : List (List ℕ) → List Mention
front_of earlier = map of_module earlier ++ declares clk ∷ declares rst ∷ []

front_declares : (earlier : List (List ℕ)) → flat_map declared_by (front_of earlier) ≡ clk ∷ rst ∷ []
front_declares earlier = flat_map-append declared_by (map of_module earlier) (declares clk ∷ declares rst ∷ []) ∙ ap (λ names. names ++ clk ∷ rst ∷ []) (no_modules earlier)

-- the names that are declared, in the order of the mentions
pub all_declared_in : (kinds : List CellKind) (earlier : List (List ℕ)) (x : ModuleText) → flat_map declared_by (front_of earlier ++ mentions_of kinds x) ≡ clk ∷ rst ∷ (declared_in x ++ instance_names (instances_in kinds x.items))
all_declared_in kinds earlier x =
    let later : flat_map declared_by (mentions_of kinds x) ≡ declared_in x ++ instance_names (instances_in kinds x.items) =
    flat_map-append declared_by (map declares (declared_in x)) (flat_map (item_mentions kinds) x.items)
    ∙ ap (λ names. names ++ flat_map declared_by (flat_map (item_mentions kinds) x.items)) (all_declared (declared_in x))
    ∙ ap (λ names. declared_in x ++ names) (items_declare kinds x.items) in
    flat_map-append declared_by (front_of earlier) (mentions_of kinds x)
    ∙ ap (λ names. names ++ flat_map declared_by (mentions_of kinds x)) (front_declares earlier) ∙ ap (λ names. clk ∷ rst ∷ names) later

-- all of them, and the instances, are declared once
pub declared_once : (kinds : List CellKind) (earlier : List (List ℕ)) (x : ModuleText) → first_again (front_of earlier) (mentions_of kinds x) ≡ None
    → AreDistinct (clk ∷ rst ∷ (declared_in x ++ instance_names (instances_in kinds x.items)))
declared_once kinds earlier x e =
    subst AreDistinct (all_declared_in kinds earlier x)
    (none_again declared_by declarations_sort (front_of earlier) (mentions_of kinds x) (subst AreDistinct (sym (front_declares earlier)) clock_and_reset) e)
  where
    clock_and_reset : AreDistinct (clk ∷ rst ∷ [])
    clock_and_reset = distinct_tested (clk ∷ rst ∷ []) refl

-- ---- what a module drives

no_drives : (pick : Mention → List (List ℕ)) → ((name : List ℕ) → pick (of_module name) ≡ []) → (names : List (List ℕ)) → flat_map pick (map of_module names) ≡ []
no_drives pick none [] = refl
no_drives pick none (name ∷ names) = ap (λ here. here ++ flat_map pick (map of_module names)) (none name) ∙ no_drives pick none names

declare_none : (pick : Mention → List (List ℕ)) → ((name : List ℕ) → pick (declares name) ≡ []) → (names : List (List ℕ)) → flat_map pick (map declares names) ≡ []
declare_none pick none [] = refl
declare_none pick none (name ∷ names) = ap (λ here. here ++ flat_map pick (map declares names)) (none name) ∙ declare_none pick none names

all_driven : (names : List (List ℕ)) → flat_map driven_at (map drives names) ≡ names
all_driven [] = refl
all_driven (name ∷ names) = ap (λ more. name ∷ more) (all_driven names)

links_drive : (kind : CellKind) (u : List ℕ) (ls : List PortLink) → flat_map driven_at (flat_map (link_mentions kind u) ls) ≡ flat_map (driven_by_link kind) ls
links_drive kind u [] = refl
links_drive kind u (l ∷ ls) =
    flat_map-append driven_at (link_mentions kind u l) (flat_map (link_mentions kind u) ls)
    ∙ ap (λ here. here ++ flat_map driven_at (flat_map (link_mentions kind u) ls)) (all_driven (driven_by_link kind l))
    ∙ ap (λ more. driven_by_link kind l ++ more) (links_drive kind u ls)

pub items_drive : (kinds : List CellKind) (items : List Item) → flat_map driven_at (flat_map (item_mentions kinds) items) ≡ driven_names kinds items
items_drive kinds [] = refl
items_drive kinds (drive d ∷ items) = ap (λ more. d.target ∷ more) (items_drive kinds items)
items_drive kinds (widening bit d ∷ items) = ap (λ more. d.target ∷ more) (items_drive kinds items)
items_drive kinds (step width s ∷ items) = ap (λ more. s.register ∷ more) (items_drive kinds items)
items_drive kinds (instance x ∷ items) =
    let own = flat_map (link_mentions (kind_for kinds x) x.name) x.links in
    flat_map-append driven_at own (flat_map (item_mentions kinds) items)
    ∙ ap (λ here. here ++ flat_map driven_at (flat_map (item_mentions kinds) items)) (links_drive (kind_for kinds x) x.name x.links)
    ∙ ap (λ more. flat_map (driven_by_link (kind_for kinds x)) x.links ++ more) (items_drive kinds items)

-- the names of a sort that neither modules nor declarations have
module _ (pick : Mention → List (List ℕ)) (no_module : (name : List ℕ) → pick (of_module name) ≡ []) (no_declared : (name : List ℕ) → pick (declares name) ≡ []) where
  front_picks : (earlier : List (List ℕ)) → flat_map pick (front_of earlier) ≡ []
  front_picks earlier =
      flat_map-append pick (map of_module earlier) (declares clk ∷ declares rst ∷ [])
      ∙ ap (λ names. names ++ flat_map pick (declares clk ∷ declares rst ∷ [])) (no_drives pick no_module earlier) ∙ declare_none pick no_declared (clk ∷ rst ∷ [])

  pub picked_in : (kinds : List CellKind) (earlier : List (List ℕ)) (x : ModuleText) → flat_map pick (front_of earlier ++ mentions_of kinds x) ≡ flat_map pick (flat_map (item_mentions kinds) x.items)
  picked_in kinds earlier x =
      let later : flat_map pick (mentions_of kinds x) ≡ flat_map pick (flat_map (item_mentions kinds) x.items) =
      ap (λ here. here ++ flat_map pick (map declares (declared_in x) ++ flat_map (item_mentions kinds) x.items)) (no_module x.name)
      ∙ flat_map-append pick (map declares (declared_in x)) (flat_map (item_mentions kinds) x.items)
      ∙ ap (λ names. names ++ flat_map pick (flat_map (item_mentions kinds) x.items)) (declare_none pick no_declared (declared_in x)) in
      flat_map-append pick (front_of earlier) (mentions_of kinds x) ∙ ap (λ names. names ++ flat_map pick (mentions_of kinds x)) (front_picks earlier) ∙ later

  pub items_once : IsSort pick → (kinds : List CellKind) (earlier : List (List ℕ)) (x : ModuleText) → first_again (front_of earlier) (mentions_of kinds x) ≡ None
      → AreDistinct (flat_map pick (flat_map (item_mentions kinds) x.items))
  items_once sort kinds earlier x e =
      subst AreDistinct (picked_in kinds earlier x) (none_again pick sort (front_of earlier) (mentions_of kinds x) (subst AreDistinct (sym (front_picks earlier)) nothing_twice) e)

pub driven_once : (kinds : List CellKind) (earlier : List (List ℕ)) (x : ModuleText) → first_again (front_of earlier) (mentions_of kinds x) ≡ None
    → AreDistinct (driven_names kinds x.items)
driven_once kinds earlier x e = subst AreDistinct (items_drive kinds x.items) (items_once driven_at (λ name. refl) (λ name. refl) drives_sort kinds earlier x e)

-- ---- the ports that an instance links

no_links : (u : List ℕ) (names : List (List ℕ)) → flat_map (linked_at u) (map drives names) ≡ []
no_links u [] = refl
no_links u (name ∷ names) = no_links u names

pub own_links : (kind : CellKind) (u : List ℕ) (ls : List PortLink) → flat_map (linked_at u) (flat_map (link_mentions kind u) ls) ≡ ports_in ls
own_links kind u [] = refl
own_links kind u (l ∷ ls) =
    let same : bytes_eq u u ≡ true = (bytes_eq-Decides u u).1 refl in
    let here : flat_map (linked_at u) (link_mentions kind u l) ≡ l.port ∷ [] = rw (same, no_links u (driven_by_link kind l)) refl in
    flat_map-append (linked_at u) (link_mentions kind u l) (flat_map (link_mentions kind u) ls)
    ∙ ap (λ names. names ++ flat_map (linked_at u) (flat_map (link_mentions kind u) ls)) here ∙ ap (λ more. l.port ∷ more) (own_links kind u ls)

pub linked_once : (kinds : List CellKind) (earlier : List (List ℕ)) (x : ModuleText) → first_again (front_of earlier) (mentions_of kinds x) ≡ None
    → (i : Instantiation) → Contains x.items (instance i) → AreDistinct (ports_in i.links)
linked_once kinds earlier x e i at =
    let u = i.name in
    let all : AreDistinct (flat_map (λ item. flat_map (linked_at u) (item_mentions kinds item)) x.items) =
    subst AreDistinct (nested (linked_at u) (item_mentions kinds) x.items) (items_once (linked_at u) (λ name. refl) (λ name. refl) (links_sort u) kinds earlier x e) in
    subst AreDistinct (own_links (kind_for kinds i) u i.links) (part_distinct (λ item. flat_map (linked_at u) (item_mentions kinds item)) x.items (instance i) all at)

-- ---- names of modules

-- the module's name is none of earlier ones
pub module_once : (kinds : List CellKind) (earlier : List (List ℕ)) (x : ModuleText) → first_again (front_of earlier) (mentions_of kinds x) ≡ None
    → Contains earlier x.name → ⊥
module_once kinds earlier x e at =
    let front = front_of earlier in
    let rest = first_again (front ++ of_module x.name ∷ []) (map declares (declared_in x) ++ flat_map (item_mentions kinds) x.items) in
    let (none, more) = neither (list_any (is_same (of_module x.name)) front) x.name rest e in
    let there : Contains front (of_module x.name) = Contains-append_left (map of_module earlier) (declares clk ∷ declares rst ∷ []) (of_module x.name) (among_map of_module earlier x.name at) in
    true≢false (sym (any_true (is_same (of_module x.name)) front (of_module x.name) there ((bytes_eq-Decides x.name x.name).1 refl)) ∙ none)
