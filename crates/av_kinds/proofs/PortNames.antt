-- The names of the ports of a kind are distinct: of each letter, the numbers go on from place to place.
use Rattle.std.proofs.Common.{◌≡◌, ◌≢◌, ℕ, zero, suc, ◌+◌, ◌*◌, ◌^◌, ◌<◌, ◌≤◌, ◌⊎◌, List, [], ◌∷◌, ◌++◌, map, refl, sym, subst, arith, ◌∙◌, ap, inl, inr}
use Rattle.std.specs.Prelude.{decimal}
use Rattle.std.specs.List.{AllByRecursion, range_with_len}
use Rattle.std.proofs.lemmas.List.{map-append}
use Rattle.std.proofs.lemmas.List.Elements.{All-contains, All-from_recursion}
use Rattle.av_base.specs.declared.width.Width.{Width}
use Rattle.av_base.proofs.Lists.{each_append, each_weaker}
use Rattle.av_net.specs.declared.netlist.Port.{Port}
use Rattle.av_net.specs.Names.{AreDistinct, names_of}
use Rattle.av_net.proofs.Distinct.{append_distinct}
use Rattle.av_kinds.specs.declared.program.Inlet.{Inlet}
use Rattle.av_kinds.specs.declared.program.Inlet.TheVariants.{Inputs, Taps, Pipe}
use Rattle.av_kinds.specs.declared.shape.SiteShape.{SiteShape}
use Rattle.av_kinds.specs.Names.{Naming, input_name, tap_name, bound_name}
use Rattle.av_kinds.specs.Counters.{counter_width}
use Rattle.av_kinds.specs.inner.Shapes.{ModeShape, LaneShape}
use Rattle.av_kinds.specs.inner.Interfaces.{PortCounts, ports_by, bounds_by, ports_in, past, site_ports, past_site, sites_ports, past_sites, window_ports, tested_ports, past_tested, modes_ports, past_modes}
use Rattle.av_kinds.specs.inner.Kinds.{lanes_inputs}
use Rattle.av_kinds.proofs.NameParts.{range_distinct, each_of_range, numbered_injective, nothing_distinct}

-- ---- names that are apart

-- two lists of names that nothing belongs to both of
pub joined_apart : (P Q : List ℕ → Type 0) → ((x : List ℕ) → P x → Q x → ⊥) → (xs ys : List (List ℕ)) → AreDistinct xs → AreDistinct ys → AllByRecursion P xs → AllByRecursion Q ys → AreDistinct (xs ++ ys)
joined_apart P Q apart xs ys dx dy px qy =
    append_distinct xs ys dx dy (λ x here there. apart x (All-contains P xs x (All-from_recursion P xs px) here) (All-contains Q ys x (All-from_recursion Q ys qy) there))

-- a letter with a number from `low` up to below `high`
abbrev pub IsIn : ℕ → ℕ → ℕ → List ℕ → Type 0
IsIn a low high x = (k : ℕ) × (low ≤ k) × (k < high) × (x ≡ a ∷ decimal k)

abbrev head_of : List ℕ → ℕ
head_of [] = 0
head_of (x ∷ xs) = x

pub letters_apart : (a b l h m g : ℕ) → a ≢ b → (x : List ℕ) → IsIn a l h x → IsIn b m g x → ⊥
letters_apart a b l h m g differ x p q = differ (sym (ap head_of p.3) ∙ ap head_of q.3)

pub numbers_apart : (a l h g : ℕ) → g ≤ 10 ^ 64 → (x : List ℕ) → IsIn a l h x → IsIn a h g x → ⊥
numbers_apart a l h g few x p q =
    let e = numbered_injective a p.0 q.0 (omega (arith, p.2, q.1, q.2)) (omega (arith, q.2)) (sym p.3 ∙ q.3) in
    absurd (omega (arith, e, p.2, q.1))

pub wider : (a l h m g : ℕ) → m ≤ l → h ≤ g → (x : List ℕ) → IsIn a l h x → IsIn a m g x
wider a l h m g low high x p = (p.0, omega (arith, p.1), omega (arith, p.2), p.3)

-- ports of one letter
pub names_by : (name : Naming) (w : Width) (k n : ℕ) → names_of (ports_by name w k n) ≡ map name (range_with_len k n)
names_by name w k zero = refl
names_by name w k (suc n) = ap (λ ys. name k ∷ ys) (names_by name w (k + 1) n)

pub letter_distinct : (a k n : ℕ) → k + n ≤ 10 ^ 64 → AreDistinct (map (λ i. a ∷ decimal i) (range_with_len k n))
letter_distinct a k n few = range_distinct (λ i. a ∷ decimal i) (numbered_injective a) k n few

pub letter_each : (a k n h : ℕ) → k + n ≤ h → AllByRecursion (IsIn a k h) (map (λ i. a ∷ decimal i) (range_with_len k n))
letter_each a k n h le = each_of_range (IsIn a k h) (λ i. a ∷ decimal i) k n (λ i low high. (i, low, omega arith, refl))

-- ---- ports with numbers from some counts on, up to others

abbrev pub IsOf : PortCounts → PortCounts → List ℕ → Type 0
IsOf lo hi x = IsIn 105 lo.inputs hi.inputs x ⊎ (IsIn 116 lo.taps hi.taps x ⊎ IsIn 98 lo.bounds hi.bounds x)

pub record Le (a b : PortCounts) : Type 0 where
  pub inputs : a.inputs ≤ b.inputs
  pub taps : a.taps ≤ b.taps
  pub bounds : a.bounds ≤ b.bounds

pub record IsSmall (a : PortCounts) : Type 0 where
  pub inputs : a.inputs ≤ 10 ^ 64
  pub taps : a.taps ≤ 10 ^ 64
  pub bounds : a.bounds ≤ 10 ^ 64

pub record PortNames (lo hi : PortCounts) (names : List (List ℕ)) : Type 0 where
  pub distinct : AreDistinct names
  pub each : AllByRecursion (IsOf lo hi) names

pub le_same : (a : PortCounts) → Le a a
le_same a = record { inputs = omega arith; taps = omega arith; bounds = omega arith }

pub le_more : (a b c : PortCounts) → Le a b → Le b c → Le a c
le_more a b c h k = record { inputs = omega (arith, h.inputs, k.inputs); taps = omega (arith, h.taps, k.taps); bounds = omega (arith, h.bounds, k.bounds) }

pub small_before : (a b : PortCounts) → Le a b → IsSmall b → IsSmall a
small_before a b h k = record { inputs = omega (arith, h.inputs, k.inputs); taps = omega (arith, h.taps, k.taps); bounds = omega (arith, h.bounds, k.bounds) }

of_wider : (a b c d : PortCounts) → Le c a → Le b d → (x : List ℕ) → IsOf a b x → IsOf c d x
of_wider a b c d low high x (inl p) = inl (wider 105 a.inputs b.inputs c.inputs d.inputs low.inputs high.inputs x p)
of_wider a b c d low high x (inr (inl p)) = inr (inl (wider 116 a.taps b.taps c.taps d.taps low.taps high.taps x p))
of_wider a b c d low high x (inr (inr p)) = inr (inr (wider 98 a.bounds b.bounds c.bounds d.bounds low.bounds high.bounds x p))

differ_by : (a b : ℕ) → a < b → a ≢ b
differ_by a b lt e = absurd (omega (arith, e, lt))

differ_above : (a b : ℕ) → b < a → a ≢ b
differ_above a b lt e = absurd (omega (arith, e, lt))

of_apart : (a b c : PortCounts) → IsSmall c → (x : List ℕ) → IsOf a b x → IsOf b c x → ⊥
of_apart a b c few x (inl p) (inl q) = numbers_apart 105 a.inputs b.inputs c.inputs few.inputs x p q
of_apart a b c few x (inl p) (inr (inl q)) = letters_apart 105 116 a.inputs b.inputs b.taps c.taps (differ_by 105 116 (omega arith)) x p q
of_apart a b c few x (inl p) (inr (inr q)) = letters_apart 105 98 a.inputs b.inputs b.bounds c.bounds (differ_above 105 98 (omega arith)) x p q
of_apart a b c few x (inr (inl p)) (inl q) = letters_apart 116 105 a.taps b.taps b.inputs c.inputs (differ_above 116 105 (omega arith)) x p q
of_apart a b c few x (inr (inl p)) (inr (inl q)) = numbers_apart 116 a.taps b.taps c.taps few.taps x p q
of_apart a b c few x (inr (inl p)) (inr (inr q)) = letters_apart 116 98 a.taps b.taps b.bounds c.bounds (differ_above 116 98 (omega arith)) x p q
of_apart a b c few x (inr (inr p)) (inl q) = letters_apart 98 105 a.bounds b.bounds b.inputs c.inputs (differ_by 98 105 (omega arith)) x p q
of_apart a b c few x (inr (inr p)) (inr (inl q)) = letters_apart 98 116 a.bounds b.bounds b.taps c.taps (differ_by 98 116 (omega arith)) x p q
of_apart a b c few x (inr (inr p)) (inr (inr q)) = numbers_apart 98 a.bounds b.bounds c.bounds few.bounds x p q

pub one_after : (a b c : PortCounts) (xs ys : List Port) → Le a b → Le b c → IsSmall c → PortNames a b (names_of xs) → PortNames b c (names_of ys) → PortNames a c (names_of (xs ++ ys))
one_after a b c xs ys ab bc few h k =
    let e : names_of xs ++ names_of ys ≡ names_of (xs ++ ys) = sym (map-append (λ (p : Port). p.name) xs ys) in
    subst (PortNames a c) e (record {
      distinct = joined_apart (IsOf a b) (IsOf b c) (of_apart a b c few) (names_of xs) (names_of ys) h.distinct k.distinct h.each k.each;
      each = each_append (IsOf a c) (names_of xs) (names_of ys) (each_weaker (IsOf a b) (IsOf a c) (of_wider a b a c (le_same a) bc) (names_of xs) h.each) (each_weaker (IsOf b c) (IsOf a c) (of_wider b c a c ab (le_same c)) (names_of ys) k.each);
    })

no_names : (a b : PortCounts) → PortNames a b []
no_names a b = record { distinct = nothing_distinct; each = tt }

-- ---- a place

abbrev with_inputs : PortCounts → ℕ → PortCounts
with_inputs at n = record { inputs = at.inputs + n; taps = at.taps; bounds = at.bounds }

abbrev with_taps : PortCounts → ℕ → PortCounts
with_taps at n = record { inputs = at.inputs; taps = at.taps + n; bounds = at.bounds }

abbrev with_bounds : PortCounts → ℕ → PortCounts
with_bounds at n = record { inputs = at.inputs; taps = at.taps; bounds = at.bounds + n }

inputs_named : (at : PortCounts) (w : Width) (n : ℕ) → IsSmall (with_inputs at n) → PortNames at (with_inputs at n) (names_of (ports_by input_name w at.inputs n))
inputs_named at w n few = subst (PortNames at (with_inputs at n)) (sym (names_by input_name w at.inputs n)) (record {
  distinct = letter_distinct 105 at.inputs n few.inputs;
  each = each_weaker (IsIn 105 at.inputs (at.inputs + n)) (IsOf at (with_inputs at n)) (λ x h. inl h) (map input_name (range_with_len at.inputs n)) (letter_each 105 at.inputs n (at.inputs + n) (omega arith));
})

taps_named : (at : PortCounts) (w : Width) (n : ℕ) → IsSmall (with_taps at n) → PortNames at (with_taps at n) (names_of (ports_by tap_name w at.taps n))
taps_named at w n few = subst (PortNames at (with_taps at n)) (sym (names_by tap_name w at.taps n)) (record {
  distinct = letter_distinct 116 at.taps n few.taps;
  each = each_weaker (IsIn 116 at.taps (at.taps + n)) (IsOf at (with_taps at n)) (λ x h. inr (inl h)) (map tap_name (range_with_len at.taps n)) (letter_each 116 at.taps n (at.taps + n) (omega arith));
})

bounds_range : (at : PortCounts) (n : ℕ) (ports : List Port) → names_of ports ≡ map bound_name (range_with_len at.bounds n) → IsSmall (with_bounds at n) → PortNames at (with_bounds at n) (names_of ports)
bounds_range at n ports e few = subst (PortNames at (with_bounds at n)) (sym e) (record {
  distinct = letter_distinct 98 at.bounds n few.bounds;
  each = each_weaker (IsIn 98 at.bounds (at.bounds + n)) (IsOf at (with_bounds at n)) (λ x h. inr (inr h)) (map bound_name (range_with_len at.bounds n)) (letter_each 98 at.bounds n (at.bounds + n) (omega arith));
})

pub le_site : (at : PortCounts) (site : SiteShape) → Le at (past_site at site)
le_site at site = by_inlet site.inlet
  where
    by_inlet : (i : Inlet) → Le at (past at i site.selections)
    by_inlet Inputs = record { inputs = omega arith; taps = omega arith; bounds = omega arith }
    by_inlet Taps = record { inputs = omega arith; taps = omega arith; bounds = omega arith }
    by_inlet (Pipe h) = le_same at

site_named : (at : PortCounts) (site : SiteShape) → IsSmall (past_site at site) → PortNames at (past_site at site) (names_of (site_ports at site))
site_named at site = by_inlet site.inlet
  where
    w : Width
    w = site.width

    n : ℕ
    n = site.selections

    by_inlet : (i : Inlet) → IsSmall (past at i n) → PortNames at (past at i n) (names_of (ports_in at i w n))
    by_inlet Inputs few =
        let mid = with_inputs at (suc n) in
        let low : Le mid (with_bounds mid n) = record { inputs = omega arith; taps = omega arith; bounds = omega arith } in
        one_after at mid (with_bounds mid n) (ports_by input_name w at.inputs (suc n)) (bounds_by at.bounds n) (record { inputs = omega arith; taps = omega arith; bounds = omega arith }) low few
        (inputs_named at w (suc n) (small_before mid (with_bounds mid n) low few)) (bounds_range mid n (bounds_by at.bounds n) (names_by bound_name counter_width at.bounds n) few)
    by_inlet Taps few =
        let mid = with_taps at (suc n) in
        let low : Le mid (with_bounds mid n) = record { inputs = omega arith; taps = omega arith; bounds = omega arith } in
        one_after at mid (with_bounds mid n) (ports_by tap_name w at.taps (suc n)) (bounds_by at.bounds n) (record { inputs = omega arith; taps = omega arith; bounds = omega arith }) low few
        (taps_named at w (suc n) (small_before mid (with_bounds mid n) low few)) (bounds_range mid n (bounds_by at.bounds n) (names_by bound_name counter_width at.bounds n) few)
    by_inlet (Pipe h) few = no_names at at

-- ---- the places of a mode, and its windows

pub le_sites : (at : PortCounts) (sites : List SiteShape) → Le at (past_sites at sites)
le_sites at [] = le_same at
le_sites at (site ∷ sites) = le_more at (past_site at site) (past_sites (past_site at site) sites) (le_site at site) (le_sites (past_site at site) sites)

sites_named : (at : PortCounts) (sites : List SiteShape) → IsSmall (past_sites at sites) → PortNames at (past_sites at sites) (names_of (sites_ports at sites))
sites_named at [] few = no_names at at
sites_named at (site ∷ sites) few =
    let mid = past_site at site in
    let later = le_sites mid sites in
    one_after at mid (past_sites mid sites) (site_ports at site) (sites_ports mid sites) (le_site at site) later few (site_named at site (small_before mid (past_sites mid sites) later few)) (sites_named mid sites few)

two_more : (b n : ℕ) → map bound_name (range_with_len b (2 * suc n)) ≡ bound_name b ∷ bound_name (b + 1) ∷ map bound_name (range_with_len (b + 2) (2 * n))
two_more b n =
    let e : 2 * suc n ≡ suc (suc (2 * n)) = omega arith in
    let f : b + 1 + 1 ≡ b + 2 = omega arith in
    ap (λ k. map bound_name (range_with_len b k)) e ∙ ap (λ k. bound_name b ∷ bound_name (b + 1) ∷ map bound_name (range_with_len k (2 * n))) f

windows_by : (b n : ℕ) → names_of (window_ports b n) ≡ map bound_name (range_with_len b (2 * n))
windows_by b zero = let e : 0 ≡ 2 * 0 = omega arith in ap (λ k. map bound_name (range_with_len b k)) e
windows_by b (suc n) = ap (λ (ys : List (List ℕ)). bound_name b ∷ bound_name (b + 1) ∷ ys) (windows_by (b + 2) n) ∙ sym (two_more b n)

pub le_tested : (at : PortCounts) (mode : ModeShape) → Le at (past_tested at mode)
le_tested at mode =
    let mid = past_sites at mode.sites in
    le_more at mid (past_tested at mode) (le_sites at mode.sites) (record { inputs = omega arith; taps = omega arith; bounds = omega arith })

tested_named : (at : PortCounts) (mode : ModeShape) → IsSmall (past_tested at mode) → PortNames at (past_tested at mode) (names_of (tested_ports at mode))
tested_named at mode few =
    let mid = past_sites at mode.sites in
    let later : Le mid (past_tested at mode) = record { inputs = omega arith; taps = omega arith; bounds = omega arith } in
    one_after at mid (past_tested at mode) (sites_ports at mode.sites) (window_ports mid.bounds mode.windows) (le_sites at mode.sites) later few (sites_named at mode.sites (small_before mid (past_tested at mode) later few))
    (bounds_range mid (2 * mode.windows) (window_ports mid.bounds mode.windows) (windows_by mid.bounds mode.windows) few)

-- ---- lanes

pub le_modes : (at : PortCounts) (modes : List ModeShape) → Le at (past_modes at modes)
le_modes at [] = le_same at
le_modes at (t ∷ []) = le_sites at t.sites
le_modes at (t ∷ u ∷ modes) = le_more at (past_tested at t) (past_modes (past_tested at t) (u ∷ modes)) (le_tested at t) (le_modes (past_tested at t) (u ∷ modes))

modes_named : (at : PortCounts) (modes : List ModeShape) → IsSmall (past_modes at modes) → PortNames at (past_modes at modes) (names_of (modes_ports at modes))
modes_named at [] few = no_names at at
modes_named at (t ∷ []) few = sites_named at t.sites few
modes_named at (t ∷ u ∷ modes) few =
    let mid = past_tested at t in
    let later = le_modes mid (u ∷ modes) in
    one_after at mid (past_modes mid (u ∷ modes)) (tested_ports at t) (modes_ports mid (u ∷ modes)) (le_tested at t) later few (tested_named at t (small_before mid (past_modes mid (u ∷ modes)) later few)) (modes_named mid (u ∷ modes) few)

-- how many ports there are behind all lanes
abbrev pub past_lanes : PortCounts → List LaneShape → PortCounts
past_lanes at [] = at
past_lanes at (lane ∷ lanes) = past_lanes (past_modes at lane.modes) lanes

pub le_lanes : (at : PortCounts) (lanes : List LaneShape) → Le at (past_lanes at lanes)
le_lanes at [] = le_same at
le_lanes at (lane ∷ lanes) = le_more at (past_modes at lane.modes) (past_lanes (past_modes at lane.modes) lanes) (le_modes at lane.modes) (le_lanes (past_modes at lane.modes) lanes)

-- The input ports of the lanes of a kind have distinct names, each of which is a letter with a number that no other port of that letter has.
pub lanes_named : (at : PortCounts) (lanes : List LaneShape) → IsSmall (past_lanes at lanes) → PortNames at (past_lanes at lanes) (names_of (lanes_inputs at lanes))
lanes_named at [] few = no_names at at
lanes_named at (lane ∷ lanes) few =
    let mid = past_modes at lane.modes in
    let later = le_lanes mid lanes in
    one_after at mid (past_lanes mid lanes) (modes_ports at lane.modes) (lanes_inputs mid lanes) (le_modes at lane.modes) later few (modes_named at lane.modes (small_before mid (past_lanes mid lanes) later few)) (lanes_named mid lanes few)
