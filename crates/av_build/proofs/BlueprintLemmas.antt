-- The lanes of a blueprint by cell and helper.
use Rattle.std.proofs.Common.{◌≡◌, ℕ, zero, suc, ◌+◌, ◌-◌, ◌<◌, ◌≤◌, ◌⊎◌, inl, inr, List, [], ◌∷◌, ◌++◌, length, map, refl, sym, ap, subst, ◌∙◌, arith, Bool, true, false, if◌then◌else◌, Some, None, append_assoc, length-append}
use Rattle.std.specs.Prelude.{slice_get, nat_eq}
use Rattle.std.proofs.lemmas.List.{length-map}
use Rattle.av_base.proofs.Lists.{get_cases, get_first, get_mapped, some_is}
use Rattle.av_base.proofs.Pieces.{same_eq}
use Rattle.av_space.proofs.ByPlace.{from_map}
use Rattle.av_space.proofs.Helpers.{equal}
use Rattle.av_build.specs.declared.blueprint.CellPlan.{CellPlan}
use Rattle.av_build.specs.declared.blueprint.HelperPlan.{HelperPlan}
use Rattle.av_build.specs.declared.blueprint.LanePlan.{LanePlan}
use Rattle.av_build.specs.declared.blueprint.Pieces.{Pieces}
use Rattle.av_build.specs.inner.Blueprints.{helpers_on, of_helper, own_lanes, lanes_from, AreNumbered, helper_place}
use Rattle.av_build.proofs.Appended.{get_right}

-- ---- the lanes of one cell

pub own_size : (p : ℕ) (pieces : Pieces) → length (own_lanes p pieces) ≡ suc (length (helpers_on pieces))
own_size p pieces =
    let a = length-append (map (of_helper p) (helpers_on pieces)) (record { cell = record { 0 = p }; helper = None } ∷ []) in
    let b = length-map (helpers_on pieces) (of_helper p) in
    omega (arith, a, b)

pub helper_lane_at : (p : ℕ) (pieces : Pieces) (i : ℕ) (h : HelperPlan) → slice_get (helpers_on pieces) i ≡ Some h → slice_get (own_lanes p pieces) i ≡ Some (of_helper p h)
helper_lane_at p pieces i h is = get_first (map (of_helper p) (helpers_on pieces)) (record { cell = record { 0 = p }; helper = None } ∷ []) i (of_helper p h) (get_mapped (of_helper p) (helpers_on pieces) i h is)

pub value_lane_at : (p : ℕ) (pieces : Pieces) → slice_get (own_lanes p pieces) (length (helpers_on pieces)) ≡ Some (record { cell = record { 0 = p }; helper = None })
value_lane_at p pieces =
    let b = length-map (helpers_on pieces) (of_helper p) in
    let e : length (map (of_helper p) (helpers_on pieces)) + 0 ≡ length (helpers_on pieces) = omega (arith, b) in
    subst (λ (k : ℕ). slice_get (own_lanes p pieces) k ≡ Some (record { cell = record { 0 = p }; helper = None })) e (get_right (map (of_helper p) (helpers_on pieces)) (record { cell = record { 0 = p }; helper = None } ∷ []) 0 (record { cell = record { 0 = p }; helper = None }) refl)

-- a lane of a helper, or the last one
pub own_cases : (p : ℕ) (pieces : Pieces) (i : ℕ) (lane : LanePlan) → slice_get (own_lanes p pieces) i ≡ Some lane
    → ((h : HelperPlan) × (slice_get (helpers_on pieces) i ≡ Some h) × (of_helper p h ≡ lane)) ⊎ ((i ≡ length (helpers_on pieces)) × (◌≡◌ {A = LanePlan} (record { cell = record { 0 = p }; helper = None }) lane))
own_cases p pieces i lane is = elim (get_cases (map (of_helper p) (helpers_on pieces)) (record { cell = record { 0 = p }; helper = None } ∷ []) i lane is) [
  | inl l ↦ inl (from_map (of_helper p) (helpers_on pieces) i lane l)
  | inr b ↦ inr (last b.0 b.1 b.2)
]
  where
    last : (j : ℕ) → i ≡ length (map (of_helper p) (helpers_on pieces)) + j → slice_get (record { cell = record { 0 = p }; helper = None } ∷ []) j ≡ Some lane → (i ≡ length (helpers_on pieces)) × (◌≡◌ {A = LanePlan} (record { cell = record { 0 = p }; helper = None }) lane)
    last zero e f = (let size = length-map (helpers_on pieces) (of_helper p) in omega (arith, e, size), some_is (record { cell = record { 0 = p }; helper = None }) lane f)
    last (suc j) e f = absurd cc

-- ---- the lanes of all cells

-- the i-th lane of the cell p is that of the number after its first one's
pub lane_there : (q n : ℕ) (cells : List CellPlan) → AreNumbered q cells → (k p : ℕ) (plan : CellPlan) → n + k ≡ p → slice_get cells k ≡ Some plan → (i : ℕ) (lane : LanePlan) → slice_get (own_lanes p plan.pieces) i ≡ Some lane
    → (j : ℕ) → q + j ≡ plan.lanes.first + i → slice_get (lanes_from n cells) j ≡ Some lane
lane_there q n [] h k p plan e is i lane at j f = absurd cc
lane_there q n (first ∷ cells) h zero p plan e is i lane at j f =
    let same = some_is first plan is in
    let here : n ≡ p = omega (arith, e) in
    let number = h.0 in
    let start = ap (λ (x : CellPlan). x.lanes.first) same in
    let place : i ≡ j = omega (arith, f, number, start) in
    let own : slice_get (own_lanes n first.pieces) i ≡ Some lane = subst (λ (x : CellPlan). slice_get (own_lanes n x.pieces) i ≡ Some lane) (sym same) (subst (λ (m : ℕ). slice_get (own_lanes m plan.pieces) i ≡ Some lane) (sym here) at) in
    subst (λ (m : ℕ). slice_get (lanes_from n (first ∷ cells)) m ≡ Some lane) place (get_first (own_lanes n first.pieces) (lanes_from (suc n) cells) i lane own)
lane_there q n (first ∷ cells) h (suc k) p plan e is i lane at j f =
    let size = own_size n first.pieces in
    let low = first_above (suc first.lanes.value) cells h.2 k plan is in
    let value = h.1 in
    let behind = lane_there (suc first.lanes.value) (suc n) cells h.2 k p plan (omega (arith, e)) is i lane at (plan.lanes.first + i - suc first.lanes.value) (omega (arith, low)) in
    let place : length (own_lanes n first.pieces) + (plan.lanes.first + i - suc first.lanes.value) ≡ j = omega (arith, f, size, value, low) in
    subst (λ (m : ℕ). slice_get (lanes_from n (first ∷ cells)) m ≡ Some lane) place (get_right (own_lanes n first.pieces) (lanes_from (suc n) cells) (plan.lanes.first + i - suc first.lanes.value) lane behind)
  where
    first_above : (q : ℕ) (cells : List CellPlan) → AreNumbered q cells → (k : ℕ) (plan : CellPlan) → slice_get cells k ≡ Some plan → q ≤ plan.lanes.first
    first_above q [] h k plan is = absurd cc
    first_above q (x ∷ cells) h zero plan is = let e = h.0 in let f = ap (λ (y : CellPlan). y.lanes.first) (some_is x plan is) in omega (arith, e, f)
    first_above q (x ∷ cells) h (suc k) plan is = let r = first_above (suc x.lanes.value) cells h.2 k plan is in let e = h.1 in omega (arith, r, e)

-- the cell of a lane
pub record IsOfCell (cells : List CellPlan) (n q : ℕ) (lane : LanePlan) : Type 0 where
  pub index : ℕ
  pub plan : CellPlan
  pub is_plan : slice_get cells index ≡ Some plan
  pub place : ℕ
  pub number : q ≡ plan.lanes.first + place
  pub is_lane : slice_get (own_lanes (n + index) plan.pieces) place ≡ Some lane

pub cell_of_lane : (q n : ℕ) (cells : List CellPlan) → AreNumbered q cells → (j : ℕ) (lane : LanePlan) → slice_get (lanes_from n cells) j ≡ Some lane → IsOfCell cells n (q + j) lane
cell_of_lane q n [] h j lane is = absurd cc
cell_of_lane q n (first ∷ cells) h j lane is = elim (get_cases (own_lanes n first.pieces) (lanes_from (suc n) cells) j lane is) [
  | inl l ↦ (
      let e : n ≡ n + 0 = omega arith in
      let f = h.0 in
      record { index = 0; plan = first; is_plan = refl; place = j; number = omega (arith, f); is_lane = subst (λ (m : ℕ). slice_get (own_lanes m first.pieces) j ≡ Some lane) e l })
  | inr b ↦ (
      let size = own_size n first.pieces in
      let value = h.1 in
      let d = b.1 in
      let r = cell_of_lane (suc first.lanes.value) (suc n) cells h.2 b.0 lane b.2 in
      let e : suc n + r.index ≡ n + suc r.index = omega arith in
      let g = r.number in
      record { index = suc r.index; plan = r.plan; is_plan = r.is_plan; place = r.place; number = omega (arith, d, size, value, g); is_lane = subst (λ (m : ℕ). slice_get (own_lanes m r.plan.pieces) r.place ≡ Some lane) e r.is_lane })
]

-- how many lanes there are before and with a cell
pub value_of : (q : ℕ) (cells : List CellPlan) → AreNumbered q cells → (k : ℕ) (plan : CellPlan) → slice_get cells k ≡ Some plan → plan.lanes.value ≡ plan.lanes.first + length (helpers_on plan.pieces)
value_of q [] h k plan is = absurd cc
value_of q (x ∷ cells) h zero plan is =
    let e = h.0 in
    let f = h.1 in
    subst (λ (y : CellPlan). y.lanes.value ≡ y.lanes.first + length (helpers_on y.pieces)) (some_is x plan is) (omega (arith, e, f))
value_of q (x ∷ cells) h (suc k) plan is = value_of (suc x.lanes.value) cells h.2 k plan is

-- ---- one more cell

pub lanes_more : (n p : ℕ) (cells : List CellPlan) (plan : CellPlan) → n + length cells ≡ p → lanes_from n (cells ++ plan ∷ []) ≡ lanes_from n cells ++ own_lanes p plan.pieces
lanes_more n p [] plan e = let f : n ≡ p = omega (arith, e) in append-none (own_lanes n plan.pieces) ∙ ap (λ (m : ℕ). own_lanes m plan.pieces) f
  where
    append-none : (l : List LanePlan) → l ++ [] ≡ l
    append-none [] = refl
    append-none (x ∷ l) = ap (λ (m : List LanePlan). x ∷ m) (append-none l)
lanes_more n p (x ∷ cells) plan e =
    ap (λ (l : List LanePlan). own_lanes n x.pieces ++ l) (lanes_more (suc n) p cells plan (omega (arith, e))) ∙ sym (append_assoc (own_lanes n x.pieces) (lanes_from (suc n) cells) (own_lanes p plan.pieces))

-- the number behind the lanes of cells
abbrev pub end_of : ℕ → List CellPlan → ℕ
end_of q [] = q
end_of q (plan ∷ cells) = end_of (suc plan.lanes.value) cells

pub numbered_more : (q : ℕ) (cells : List CellPlan) → AreNumbered q cells → (plan : CellPlan) → plan.lanes.first ≡ end_of q cells → plan.lanes.value ≡ end_of q cells + length (helpers_on plan.pieces) → AreNumbered q (cells ++ plan ∷ [])
numbered_more q [] h plan first value = (first, value, tt)
numbered_more q (x ∷ cells) h plan first value = (h.0, h.1, numbered_more (suc x.lanes.value) cells h.2 plan first value)

pub end_is : (q n : ℕ) (cells : List CellPlan) → AreNumbered q cells → end_of q cells ≡ q + length (lanes_from n cells)
end_is q n [] h = omega arith
end_is q n (x ∷ cells) h =
    let r = end_is (suc x.lanes.value) (suc n) cells h.2 in
    let value = h.1 in
    let size = own_size n x.pieces in
    let all = length-append (own_lanes n x.pieces) (lanes_from (suc n) cells) in
    omega (arith, r, value, size, all)

-- ---- the place of a helper

pub place_found : (j : ℕ) (helpers : List HelperPlan) (i : ℕ) (h : HelperPlan) → slice_get helpers i ≡ Some h → h.number ≡ j → ((k : ℕ) (g : HelperPlan) → k < i → slice_get helpers k ≡ Some g → g.number ≡ j → ⊥) → helper_place j helpers ≡ i
place_found j [] i h is e none = absurd cc
place_found j (x ∷ helpers) zero h is e none =
    let same : nat_eq x.number j ≡ true = ap (λ (g : HelperPlan). nat_eq g.number j) (some_is x h is) ∙ ap (λ (n : ℕ). nat_eq n j) e ∙ same_eq j in
    rw same refl
place_found j (x ∷ helpers) (suc i) h is e none = by_test (nat_eq x.number j) refl (place_found j helpers i h is e (λ k g lt at f. none (suc k) g (omega (arith, lt)) at f))
  where
    by_test : (b : Bool) → nat_eq x.number j ≡ b → helper_place j helpers ≡ i → (if b then 0 else suc (helper_place j helpers)) ≡ suc i
    by_test true f r = absurd (none 0 x (omega arith) refl (equal x.number j f))
    by_test false f r = ap suc r

-- the first one with the number is at its place
pub record IsPlace (j : ℕ) (helpers : List HelperPlan) (i : ℕ) (n : ℕ) : Type 0 where
  pub helper : HelperPlan
  pub is_helper : slice_get helpers n ≡ Some helper
  pub number : helper.number ≡ j
  pub low : n ≤ i

pub place_is : (j : ℕ) (helpers : List HelperPlan) (i : ℕ) (h : HelperPlan) → slice_get helpers i ≡ Some h → h.number ≡ j → IsPlace j helpers i (helper_place j helpers)
place_is j [] i h is e = absurd cc
place_is j (x ∷ helpers) i h is e = by_test (nat_eq x.number j) refl i is (λ l at. place_is j helpers l h at e)
  where
    by_test : (b : Bool) → nat_eq x.number j ≡ b → (k : ℕ) → slice_get (x ∷ helpers) k ≡ Some h → ((l : ℕ) → slice_get helpers l ≡ Some h → IsPlace j helpers l (helper_place j helpers)) → IsPlace j (x ∷ helpers) k (if b then 0 else suc (helper_place j helpers))
    by_test true f k at rest = record { helper = x; is_helper = refl; number = equal x.number j f; low = omega arith }
    by_test false f zero at rest = absurd (let same = ap (λ (g : HelperPlan). nat_eq g.number j) (some_is x h at) ∙ ap (λ (n : ℕ). nat_eq n j) e ∙ same_eq j in let both = sym f ∙ same in cc)
    by_test false f (suc l) at rest = let r = rest l at in let le = r.low in record { helper = r.helper; is_helper = r.is_helper; number = r.number; low = omega (arith, le) }
