-- What the search over all components says of the system: the first schedule, no fault, or the fault of the first component that is stuck.
use Rattle.std.proofs.Common.{◌≡◌, ◌≢◌, ℕ, zero, suc, ◌-◌, ◌^◌, min, ◌<◌, ◌≤◌, Option, Some, List, [], ◌∷◌, ◌++◌, map, length, take, drop, get_or, refl, sym, ap, subst, ◌∙◌, arith, All}
use Rattle.std.specs.Prelude.{Contains, slice_get}
use Rattle.std.proofs.lemmas.List.Elements.{All-contains, Contains-append_right}
use Rattle.av_tree.specs.Points.{Point}
use Rattle.av_tree.specs.Trees.{Text}
use Rattle.av_flat.specs.declared.timed.Time.{Time}
use Rattle.av_flat.specs.Trees.{Variable, FlatSystem}
use Rattle.av_flat.specs.Nodes.{nodes}
use Rattle.av_flat.specs.Chained.{IsChained}
use Rattle.av_flat.specs.Quantities.{IsFirst}
use Rattle.av_depend.specs.Components.{ReadsNode, AreComponents, first_node}
use Rattle.av_base.proofs.Among.{first_among}
use Rattle.av_depend.proofs.Unique.{one_components}
use Rattle.av_sched.specs.declared.fault.SchedFault.{SchedFault}
use Rattle.av_sched.specs.declared.fault.SchedFault.TheVariants as fault
use Rattle.av_sched.specs.Offsets.{AreLeastOffsets}
use Rattle.av_sched.specs.Choices.{AreLinearParts, HasSchedule, candidates}
use Rattle.av_sched.specs.First.{IsFirstChoice, IsFirstSchedule}
use Rattle.av_sched.specs.SchedFaults.{HasManyCandidates, HasNoSchedule, IsFault}
use Rattle.av_sched.specs.inner.FirstChoices.{AreFirstChoices, IsFirstInfeasible}
use Rattle.av_sched.proofs.Shifted.{feasible_of_schedule, schedule_of_feasible}

-- linear parts that are first choices for all components, with least offsets
pub first_schedule : (s : FlatSystem) (c : ℕ) (components : List (List ℕ)) (times : List Time) (linear : List Point) → AreComponents (length (nodes s)) (ReadsNode s) components → map (λ t. t.linear) times ≡ linear → AreFirstChoices s c components linear
    → AreLeastOffsets s linear (map (λ t. t.offset) times) → IsFirstSchedule s c times
first_schedule s c components times linear are e h least = record {
  components = components;
  are_components = are;
  linear = subst (AreLinearParts s c) (sym e) h.are;
  first = λ component among. subst (IsFirstChoice s c component) (sym e) (All-contains (λ d. IsFirstChoice s c d linear) components component h.first among);
  offsets = subst (λ (xs : List Point). AreLeastOffsets s xs (map (λ t. t.offset) times)) (sym e) least;
}

pub first_is_among : {X : Type 0} (P : X → Type 0) (xs ys : List X) (x : X) → xs ≡ ys → IsFirst P xs x → Contains ys x
first_is_among P xs ys x e f = subst (λ (zs : _). Contains zs x) (sym f.is ∙ e) (Contains-append_right f.before (x ∷ f.after) x (first_among x f.after))

-- then there is no fault
pub no_fault : (s : FlatSystem) (c : ℕ) (components : List (List ℕ)) (linear : List Point) → IsChained s → c ≤ 4 → AreComponents (length (nodes s)) (ReadsNode s) components → All (λ d. candidates s c d ≤ 4194304) components
    → AreFirstChoices s c components linear → (f : SchedFault) → IsFault s c f → f ≢ fault.Memory → ⊥
no_fault s c components linear chained wide are few h (fault.Candidates n) is other =
    let same = one_components (length (nodes s)) (ReadsNode s) is.components components is.are_components are in
    let among = first_is_among (λ d. 4194304 < candidates s c d) is.components components is.component same is.first in
    let a = All-contains (λ d. candidates s c d ≤ 4194304) components is.component few among in
    let b = is.first.here in
    omega (arith, a, b)
no_fault s c components linear chained wide are few h (fault.NoSchedule name) is other =
    let same = one_components (length (nodes s)) (ReadsNode s) is.components components is.are_components are in
    let among = first_is_among (λ d. HasSchedule s c d → ⊥) is.components components is.component same is.first in
    let first = All-contains (λ d. IsFirstChoice s c d linear) components is.component h.first among in
    is.first.here (schedule_of_feasible s c is.component linear chained wide h.are first.feasible)
no_fault s c components linear chained wide are few h fault.Memory is other = other refl

-- ---- a component that is stuck

split_at : {X : Type 0} (xs : List X) (k : ℕ) (x : X) → slice_get xs k ≡ Some x → xs ≡ take k xs ++ x ∷ drop (suc k) xs
split_at [] k x e = absurd cc
split_at (y ∷ xs) zero x e = let same : y ≡ x = cc in ap (λ (z : _). z ∷ xs) same
split_at (y ∷ xs) (suc k) x e = ap (λ ys. y ∷ ys) (split_at xs k x e)

pub stuck_fault : (s : FlatSystem) (c : ℕ) (components : List (List ℕ)) (k : ℕ) (v : Variable) → IsChained s → c ≤ 4 → AreComponents (length (nodes s)) (ReadsNode s) components → All (λ d. candidates s c d ≤ 4194304) components
    → (h : IsFirstInfeasible s c components k) → slice_get (nodes s) (first_node h.component) ≡ Some v → HasNoSchedule s c v.name
stuck_fault s c components k v chained wide are few h e = record {
  components = components;
  are_components = are;
  few = few;
  component = h.component;
  first = record {
    before = take k components;
    after = drop (suc k) components;
    is = split_at components k h.component h.is;
    not_before = λ i d l no_schedule. let r = h.before i d l in no_schedule (schedule_of_feasible s c (get_or (take k components) i d) r.linear chained wide r.are r.feasible);
    here = λ schedule. h.none schedule.linear schedule.are (feasible_of_schedule s c h.component schedule);
  };
  variable = v;
  is = e;
  name_is = refl;
}

-- ---- no other fault

pub one_first : {X : Type 0} (P : X → Type 0) (xs : List X) (x y : X) → IsFirst P xs x → IsFirst P xs y → x ≡ y
one_first {X} P xs x y f g = go f.before g.before f.after g.after (sym f.is ∙ g.is) f.not_before g.not_before f.here g.here
  where
    tail_not : (z : X) (zs : List X) → All (λ y. P y → ⊥) (z ∷ zs) → All (λ y. P y → ⊥) zs
    tail_not z zs h = λ k d l. h (suc k) d (omega (arith, l))

    go : (a b c d : List X) → a ++ x ∷ c ≡ b ++ y ∷ d → All (λ y. P y → ⊥) a → All (λ y. P y → ⊥) b → P x → P y → x ≡ y
    go [] [] c d e n m p q = cc
    go [] (z ∷ b) c d e n m p q = absurd (let same : x ≡ z = cc in m 0 z (omega arith) (subst P same p))
    go (z ∷ a) [] c d e n m p q = absurd (let same : z ≡ y = cc in n 0 z (omega arith) (subst P (sym same) q))
    go (z ∷ a) (w ∷ b) c d e n m p q = go a b c d (tails (a ++ x ∷ c) (b ++ y ∷ d) e) (tail_not z a n) (tail_not w b m) p q
      where
        tails : (us vs : List X) → z ∷ us ≡ w ∷ vs → us ≡ vs
        tails us vs h = cc

pub stuck_only : (s : FlatSystem) (c : ℕ) (components : List (List ℕ)) (name : Text) → AreComponents (length (nodes s)) (ReadsNode s) components → All (λ d. candidates s c d ≤ 4194304) components
    → HasNoSchedule s c name → (f : SchedFault) → IsFault s c f → f ≢ fault.Memory → f ≡ fault.NoSchedule name
stuck_only s c components name are few h (fault.Candidates n) is other =
    let same = one_components (length (nodes s)) (ReadsNode s) is.components components is.are_components are in
    let among = first_is_among (λ d. 4194304 < candidates s c d) is.components components is.component same is.first in
    let a = All-contains (λ d. candidates s c d ≤ 4194304) components is.component few among in
    let b = is.first.here in
    absurd (omega (arith, a, b))
stuck_only s c components name are few h (fault.NoSchedule own) is other =
    let same = one_components (length (nodes s)) (ReadsNode s) is.components h.components is.are_components h.are_components in
    let one = one_first (λ d. HasSchedule s c d → ⊥) h.components is.component h.component (subst (λ (xs : List (List ℕ)). IsFirst (λ d. HasSchedule s c d → ⊥) xs is.component) same is.first) h.first in
    let at : ◌≡◌ {A = Option Variable} (Some is.variable) (Some h.variable) = sym is.is ∙ ap (λ d. slice_get (nodes s) (first_node d)) one ∙ h.is in
    let variable : is.variable ≡ h.variable = cc in
    ap (λ n. fault.NoSchedule n) (is.name_is ∙ ap (λ v. v.name) variable ∙ sym h.name_is)
stuck_only s c components name are few h fault.Memory is other = absurd (other refl)

pub wide_only : (s : FlatSystem) (c n : ℕ) → HasManyCandidates s c n → (f : SchedFault) → IsFault s c f → f ≢ fault.Memory → f ≡ fault.Candidates n
wide_only s c n h (fault.Candidates m) is other =
    let same = one_components (length (nodes s)) (ReadsNode s) is.components h.components is.are_components h.are_components in
    let one = one_first (λ d. 4194304 < candidates s c d) h.components is.component h.component (subst (λ (xs : List (List ℕ)). IsFirst (λ d. 4194304 < candidates s c d) xs is.component) same is.first) h.first in
    ap (λ k. fault.Candidates k) (is.number ∙ ap (λ d. min (candidates s c d) (2 ^ 128 - 1)) one ∙ sym h.number)
wide_only s c n h (fault.NoSchedule name) is other =
    let same = one_components (length (nodes s)) (ReadsNode s) h.components is.components h.are_components is.are_components in
    let among = first_is_among (λ d. 4194304 < candidates s c d) h.components is.components h.component same h.first in
    let a = All-contains (λ d. candidates s c d ≤ 4194304) is.components h.component is.few among in
    let b = h.first.here in
    absurd (omega (arith, a, b))
wide_only s c n h fault.Memory is other = absurd (other refl)
