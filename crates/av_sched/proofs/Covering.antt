-- One level of a walk: the parts of one node are tried in turn, and the walk goes on behind each of them.
use Rattle.std.proofs.Common.{◌≡◌, ◌≢◌, ℕ, suc, ◌+◌, ◌-◌, ◌^◌, ◌<◌, ◌≤◌, get_or, Some, None, Option, Ok, Err, Result, OnOk, List, [], ◌∷◌, ◌++◌, length, refl, sym, ap, subst, ◌∙◌, arith, All, add-one, take}
use Rattle.std.proofs.lemmas.List.{set-get_or}
use Rattle.std.specs.Prelude.{Contains, slice_set}
use Rattle.av_tree.specs.Points.{Point}
use Rattle.av_flat.specs.Nodes.{nodes}
use Rattle.av_sched.specs.Offsets.{part}
use Rattle.av_sched.specs.Prices.{IsSpent, IsPriceAt}
use Rattle.av_sched.specs.declared.price.Price.{Price}
use Rattle.av_sched.specs.Parts.{Agrees}
use Rattle.av_sched.specs.inner.Walk.{IsSound, IsBarred, HasWalked, HasTried, IsLike}
use Rattle.av_sched.specs.inner.Walks.{Choices, Walk, walk_at, system_of, node_at, part_at, with_part, IsInSystem, IsChoice, IsFeasibleChoice, IsForbiddenChoice, IsPartAt, ArePartsAt, ArePricesOf, IsBetter, HasSpent, HasCovered}
use Rattle.av_sched.specs.inner.FirstChoices.{IsBestChoice, HasNone}
use Rattle.av_sched.proofs.Choosing.{best_of_walk, none_of_walk}
use Rattle.av_sched.proofs.Pricing.{spent_next, spent_fits, price_there}
use Rattle.av_sched.proofs.Steps.{set_set, like_set, at_level, node_within, before_apart, set_valid, part_is_valid}
use Rattle.av_sched.proofs.Tries.{leaf_new, leaf_kept, leaf_barred, tried_none, tried_more, tried_all, leads_on}
use Rattle.av_sched.proofs.Walking.{nothing_there}
use Rattle.av_base.proofs.Lists.{same_default, there_is, take_whole}

-- in the loop over the parts of the node at level k
pub record IsCovering (start : Walk) (k : ℕ) (tried : List Point) (now : Walk) : Type 0 where
  pub choices : now.choices ≡ start.choices
  pub back : slice_set now.linear (node_at start.choices k) (part start.linear (node_at start.choices k)) ≡ start.linear
  pub done : HasTried (system_of start.choices) start.choices.size start.choices.component k start.linear tried start.best now.best

-- ---- whole walks

pub on_ok_always : {T E : Type 0} (r : Result T E) (P : Type 0) → P → OnOk r P
on_ok_always (Ok x) P p = p
on_ok_always (Err e) P p = tt

-- nothing is to be found
pub nothing_more : (w : Walk) (k : ℕ) → IsSound (system_of w.choices) w.choices.size w.choices.component w.best
    → IsBarred (system_of w.choices) w.choices.size w.choices.component k w.linear w.best → HasCovered w k w
nothing_more w k sound barred = record { choices = refl; linear = refl; best = nothing_there (system_of w.choices) w.choices.size w.choices.component k w.linear w.best sound barred }

pub forbidden_there : (w : Walk) (k : ℕ) → IsSound (system_of w.choices) w.choices.size w.choices.component w.best → IsForbiddenChoice w.choices k w.linear → HasCovered w k w
forbidden_there w k sound h = nothing_more w k sound (λ other are agrees f. absurd (h other agrees f))

-- what the walk over the whole box gives
pub best_of_cover : (start end : Walk) (best : List Point) → IsInSystem start.choices → HasCovered start 0 end → start.best ≡ None → end.best ≡ Some best
    → IsLike end.choices.component end.linear end.best → IsBestChoice (system_of start.choices) start.choices.size start.choices.component start.linear best
best_of_cover start end best known h none some like =
    let d = start.choices in
    let walked = subst (λ (o : Option (List Point)). HasWalked (system_of d) d.size d.component 0 start.linear o (Some best)) none (subst (λ (o : Option (List Point)). HasWalked (system_of d) d.size d.component 0 start.linear start.best o) some h.best) in
    let own = subst (λ (o : Option (List Point)). IsLike end.choices.component end.linear o) some like in
    let here = subst (λ (xs : List Point). IsLike end.choices.component xs (Some best)) h.linear own in
    best_of_walk (system_of d) d.size d.component start.linear best known.within walked (subst (λ (e : Choices). IsLike e.component start.linear (Some best)) h.choices here)

pub none_of_cover : (start end : Walk) → IsInSystem start.choices → HasCovered start 0 end → start.best ≡ None → end.best ≡ None
    → HasNone (system_of start.choices) start.choices.size start.choices.component
none_of_cover start end known h none still =
    let d = start.choices in
    let walked = subst (λ (o : Option (List Point)). HasWalked (system_of d) d.size d.component 0 start.linear o None) none (subst (λ (o : Option (List Point)). HasWalked (system_of d) d.size d.component 0 start.linear start.best o) still h.best) in
    none_of_walk (system_of d) d.size d.component start.linear known.within walked

-- ---- all parts chosen

module _ (w : Walk) (known : IsInSystem w.choices) (sound : IsSound (system_of w.choices) w.choices.size w.choices.component w.best) where
  pub leaf_behind : (IsBetter w → ⊥) → HasCovered w (length w.choices.component) w
  leaf_behind behind = record { choices = refl; linear = refl; best = leaf_kept (system_of w.choices) w.choices.size w.choices.component known.within w.linear w.best sound behind }

  pub leaf_infeasible : (IsFeasibleChoice w.choices w.linear → ⊥) → HasCovered w (length w.choices.component) w
  leaf_infeasible barred = record { choices = refl; linear = refl; best = leaf_barred (system_of w.choices) w.choices.size w.choices.component known.within w.linear w.best sound barred }

  pub leaf_best : (best : List Point) → IsChoice w.choices w.linear → IsBetter w → IsFeasibleChoice w.choices w.linear → best ≡ w.linear
      → HasCovered w (length w.choices.component) (walk_at w.choices w.linear (Some best))
  leaf_best best are ahead feasible same = subst (λ (b : List Point). HasCovered w (length w.choices.component) (walk_at w.choices w.linear (Some b))) (sym same) (record {
    choices = refl;
    linear = refl;
    best = leaf_new (system_of w.choices) w.choices.size w.choices.component known.within w.linear w.best are sound ahead feasible;
  })

pub whole_spent : (w : Walk) (p : Price) → HasSpent w (length w.choices.component) p → IsSpent (system_of w.choices) w.linear w.choices.component p
whole_spent w p h = subst (λ (ns : List ℕ). IsSpent (system_of w.choices) w.linear ns p) (take_whole w.choices.component (length w.choices.component) (omega arith)) h

-- the choice at which the walk stands as the best one
pub best_sound : (d : Choices) (linear best : List Point) → IsChoice d linear → IsFeasibleChoice d linear → best ≡ linear → IsSound (system_of d) d.size d.component (Some best)
best_sound d linear best are feasible same = subst (λ (b : List Point). IsSound (system_of d) d.size d.component (Some b)) (sym same) (are, feasible)

pub best_spent : (d : Choices) (linear best : List Point) (p : Price) → IsSpent (system_of d) linear d.component p → best ≡ linear → IsSpent (system_of d) best d.component p
best_spent d linear best p h same = subst (λ (b : List Point). IsSpent (system_of d) b d.component p) (sym same) h

pub best_like : (component : List ℕ) (linear best : List Point) → best ≡ linear → IsLike component linear (Some best)
best_like component linear best same = λ n out. ap (λ xs. part xs n) same

pub within_linear : (d : Choices) (linear : List Point) → IsInSystem d → IsChoice d linear → All (λ n. n < length linear) d.component
within_linear d linear known are = subst (λ (m : ℕ). All (λ n. n < m) d.component) (sym are.one_each) known.within

-- the node at a level has a linear part, and the code reads it
pub node_fits : (d : Choices) (k n : ℕ) (linear : List Point) → IsInSystem d → IsChoice d linear → k < length d.component → n ≡ node_at d k → n < length linear
node_fits d k n linear known valid fits at =
    let one = valid.one_each in
    let within = node_within (system_of d) d.size d.component known.within known.apart k fits in
    omega (arith, one, within, at)

pub part_read : (w : Walk) (k n : ℕ) (a v : Point) → IsInSystem w.choices → IsChoice w.choices w.linear → k < length w.choices.component → n ≡ node_at w.choices k → a ≡ get_or w.linear n a → v ≡ a → v ≡ part_at w k
part_read w k n a v known valid fits at is same =
    same ∙ is ∙ ap (λ (m : ℕ). get_or w.linear m a) at ∙ same_default w.linear (node_at w.choices k) a [] (node_fits w.choices k (node_at w.choices k) w.linear known valid fits refl)

-- ---- a part put at a node

module _ (d : Choices) (k n : ℕ) (v p : Point) (fits : k < length d.component) (known : IsInSystem d) (at : n ≡ node_at d k) (same : v ≡ p) where
  pub put_valid : (linear : List Point) → IsPartAt d k p → IsChoice d linear → IsChoice d (slice_set linear n v)
  put_valid linear own are = subst (λ (m : ℕ). IsChoice d (slice_set linear m v)) (sym at)
      (subst (λ (a : Point). IsChoice d (slice_set linear (node_at d k) a)) (sym same) (set_valid (system_of d) d.size d.component known.within known.apart k fits linear p own are))

  pub put_like : (linear : List Point) (best : Option (List Point)) → IsLike d.component linear best → IsLike d.component (slice_set linear n v) best
  put_like linear best h = like_set d.component linear n v best (subst (Contains d.component) (sym at) (at_level d.component k fits)) h

  pub put_is : (linear : List Point) (best : Option (List Point)) (old : Walk)
      → walk_at d linear best ≡ old → walk_at d (slice_set linear n v) best ≡ with_part old k p
  put_is linear best old is =
      ap (λ (m : ℕ). walk_at d (slice_set linear m v) best) at ∙ ap (λ (a : Point). walk_at d (slice_set linear (node_at d k) a) best) same ∙ ap (λ (w : Walk). with_part w k p) is

-- ---- one level

-- a node stands at the level, and what is kept holds
pub record IsAt (w : Walk) (k : ℕ) : Type 0 where
  pub fits : k < length w.choices.component
  pub known : IsInSystem w.choices
  pub valid : IsChoice w.choices w.linear
  pub sound : IsSound (system_of w.choices) w.choices.size w.choices.component w.best

-- that is so where the level is not the number of the component's nodes
pub is_at : (old w inside : Walk) (k : ℕ) (component : List ℕ) → k ≤ length old.choices.component → w ≡ old → inside ≡ w → component ≡ inside.choices.component → (k ≡ length component → ⊥)
    → IsInSystem inside.choices → IsChoice inside.choices inside.linear → IsSound (system_of inside.choices) inside.choices.size inside.choices.component inside.best → IsAt w k
is_at old w inside k component l same is all other known valid sound =
    let a = ap length all in
    let b = ap (λ (v : Walk). length v.choices.component) is in
    let c = ap (λ (v : Walk). length v.choices.component) same in
    record {
      fits = omega (arith, l, a, b, c, other);
      known = subst (λ (v : Walk). IsInSystem v.choices) is known;
      valid = subst (λ (v : Walk). IsChoice v.choices v.linear) is valid;
      sound = subst (λ (v : Walk). IsSound (system_of v.choices) v.choices.size v.choices.component v.best) is sound;
    }

module _ (start : Walk) (k : ℕ) (at : IsAt start k) where
  node_inside : node_at start.choices k < length start.linear
  node_inside = node_fits start.choices k (node_at start.choices k) start.linear at.known at.valid at.fits refl

  apart_before : (j : ℕ) → j < k → node_at start.choices j ≢ node_at start.choices k
  apart_before = before_apart (system_of start.choices) start.choices.size start.choices.component at.known.within at.known.apart k at.fits

  pub covering_start : IsCovering start k [] start
  covering_start = record {
    choices = refl;
    back = set-get_or start.linear (node_at start.choices k) [];
    done = tried_none (system_of start.choices) start.choices.size start.choices.component at.known.within k start.linear start.best at.sound;
  }

  -- another part can be put at the node, also the one that stands there
  pub put_fits : (tried : List Point) (now : Walk) → IsCovering start k tried now → k < length now.choices.component
  put_fits tried now h = subst (λ (d : Choices). k < length d.component) (sym h.choices) at.fits

  pub put_part : (tried : List Point) (now : Walk) (v : Point) → IsCovering start k tried now → IsPartAt start.choices k v → IsPartAt now.choices k v
  put_part tried now v h own = subst (λ (d : Choices). IsPartAt d k v) (sym h.choices) own

  pub tried_part : (parts : List Point) (i : ℕ) (v : Point) → ArePartsAt start.choices k parts → i < length parts → v ≡ get_or parts i v → IsPartAt start.choices k v
  tried_part parts i v all l is = part_is_valid (system_of start.choices) start.choices.size (node_at start.choices k) parts i v v all l is refl

  pub part_there : (v : Point) → v ≡ part_at start k → IsPartAt start.choices k v
  part_there v is = subst (λ (p : Point). IsPartAt start.choices k p) (sym is) (λ x e. at.valid.each (node_at start.choices k) x e)

  -- another part put at the node stands as if it were put at the start
  covering_put : (tried : List Point) (now : Walk) (v : Point) → IsCovering start k tried now
      → slice_set start.linear (node_at start.choices k) v ≡ slice_set now.linear (node_at start.choices k) v
  covering_put tried now v h =
      let n = node_at start.choices k in
      ap (λ xs. slice_set xs n v) (sym h.back) ∙ set_set now.linear n (part start.linear n) v

  -- one part more
  pub covering_more : (tried : List Point) (now mid new : Walk) (v : Point) → IsCovering start k tried now → mid ≡ with_part now k v → HasCovered mid (k + 1) new
      → IsCovering start k (tried ++ v ∷ []) new
  covering_more tried now mid new v h is covered =
      let d = start.choices in
      let n = node_at d k in
      let p = part start.linear n in
      let next = slice_set now.linear n v in
      let r : HasCovered (with_part now k v) (k + 1) new = subst (λ (w : Walk). HasCovered w (k + 1) new) is covered in
      let walked : HasWalked (system_of d) d.size d.component (k + 1) next now.best new.best =
      subst (λ (e : Choices). HasWalked (system_of e) e.size e.component (k + 1) (slice_set now.linear (node_at e k) v) now.best new.best) h.choices r.best in
      let walked' = subst (λ (j : ℕ). HasWalked (system_of d) d.size d.component j next now.best new.best) (add-one k) walked in
      let stands : new.linear ≡ next = r.linear ∙ ap (λ (e : Choices). slice_set now.linear (node_at e k) v) h.choices in
      record {
        choices = r.choices ∙ h.choices;
        back = ap (λ xs. slice_set xs n p) stands ∙ set_set now.linear n v p ∙ h.back;
        done = tried_more (system_of d) d.size d.component at.known.within k start.linear next tried v start.best now.best new.best
            (λ other agrees e. subst (λ (xs : List Point). Agrees d.component (suc k) xs other) (covering_put tried now v h)
            (leads_on (system_of d) d.size d.component at.known.within k start.linear other v node_inside apart_before agrees e))
            h.done walked';
      }

  -- after all parts, with the old one put back
  pub covering_done : (parts : List Point) (now new : Walk) (v : Point) → ArePartsAt start.choices k parts → IsCovering start k parts now
      → v ≡ part_at start k → new ≡ with_part now k v → HasCovered start k new
  covering_done parts now new v all h same is =
      let d = start.choices in
      let n = node_at d k in
      let whole : HasWalked (system_of d) d.size d.component k start.linear start.best now.best =
      tried_all (system_of d) d.size d.component at.known.within k start.linear parts start.best now.best
      (λ other are agrees f. let e = there_is (nodes (system_of d)) n (node_within (system_of d) d.size d.component at.known.within at.known.apart k at.fits) in all.all e.0 e.1 (part other n) (are.each n e.0 e.1))
      h.done in
      subst (λ (w : Walk). HasCovered start k w) (sym is) (record {
        choices = h.choices;
        linear = ap (λ (e : Choices). slice_set now.linear (node_at e k) v) h.choices ∙ ap (λ (p : Point). slice_set now.linear n p) same ∙ h.back;
        best = whole;
      })

  -- what a part that is tried costs
  price_of : (parts : List Point) (prices : List Price) (i : ℕ) (v : Point) (p : Price) → ArePricesOf start.choices k parts prices → i < length parts → v ≡ get_or parts i v
      → IsPriceAt (system_of start.choices) (node_at start.choices k) v (get_or prices i p)
  price_of parts prices i v p h l is = price_there (system_of start.choices) (node_at start.choices k) parts parts prices prices i v v h refl refl l is refl p

  -- with what was spent before it fits its type
  pub spent_room : (parts : List Point) (prices : List Price) (i : ℕ) (v : Point) (spent p : Price) → k < 2 ^ 64 → HasSpent start k spent → ArePricesOf start.choices k parts prices → i < length parts → v ≡ get_or parts i v
      → (spent.left + (get_or prices i p).left < 2 ^ 128) × (spent.size + (get_or prices i p).size < 2 ^ 128)
  spent_room parts prices i v spent p small before costs l is =
      let d = start.choices in
      let fits = at.fits in
      spent_fits (system_of d) d.component k start.linear spent (get_or prices i p) (node_at d k) v (omega (arith, fits)) small before (price_of parts prices i v p costs l is)

  pub spent_put : (tried parts : List Point) (prices : List Price) (i : ℕ) (now mid : Walk) (v : Point) (spent p next : Price) → IsCovering start k tried now → mid ≡ with_part now k v → HasSpent start k spent
      → ArePricesOf start.choices k parts prices → i < length parts → v ≡ get_or parts i v → next.left ≡ spent.left + (get_or prices i p).left → next.size ≡ spent.size + (get_or prices i p).size → HasSpent mid (k + 1) next
  spent_put tried parts prices i now mid v spent p next h is before costs l at_index left size =
      let d = start.choices in
      subst (λ (w : Walk). HasSpent w (k + 1) next) (sym is)
      (subst (λ (e : Choices). IsSpent (system_of e) (slice_set now.linear (node_at e k) v) (take (k + 1) e.component) next) (sym h.choices)
      (spent_next (system_of d) d.component k start.linear (slice_set now.linear (node_at d k) v) v spent (get_or prices i p) next at.fits node_inside apart_before (covering_put tried now v h) before (price_of parts prices i v p costs l at_index) left size))

  -- and the levels that are left are fewer
  pub fewer_left : (old : Walk) (tried : List Point) (now mid : Walk) (v : Point) → IsCovering start k tried now → mid ≡ with_part now k v → start ≡ old
      → (k + 1 ≤ length mid.choices.component) × (length mid.choices.component - (k + 1) < length old.choices.component - k)
  fewer_left old tried now mid v h is same =
      let fits = at.fits in
      let a = ap (λ (w : Walk). length w.choices.component) is in
      let b = ap (λ (d : Choices). length d.component) h.choices in
      let c = ap (λ (w : Walk). length w.choices.component) same in
      (omega (arith, fits, a, b, c), omega (arith, fits, a, b, c))
