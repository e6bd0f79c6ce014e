-- Components one after another: a later one changes the parts of its own nodes only.
use Rattle.std.proofs.Common.{◌≡◌, ℕ, zero, suc, ◌+◌, ◌<◌, Some, None, List, [], ◌∷◌, length, take, get_or, refl, sym, subst, ◌∙◌, arith, All}
use Rattle.std.specs.Prelude.{Contains}
use Rattle.std.proofs.lemmas.List.Elements.{All-push, Contains-get_or}
use Rattle.av_tree.specs.Points.{Point}
use Rattle.av_flat.specs.Trees.{FlatSystem}
use Rattle.av_flat.specs.Nodes.{nodes}
use Rattle.av_depend.specs.Components.{itself, ReadsNode, AreComponents}
use Rattle.av_sched.specs.Offsets.{part}
use Rattle.av_sched.specs.First.{IsFirstChoice}
use Rattle.av_sched.specs.Order.{cost, IsLess}
use Rattle.av_sched.specs.inner.Walk.{HasWalked, IsLike}
use Rattle.av_sched.specs.inner.FirstChoices.{HasNone, IsBestChoice, AreFirstChoices, IsFirstInfeasible}
use Rattle.av_sched.proofs.Tries.{SameIn, same_cost, same_feasible, first_of_all, none_of_all}
use Rattle.std.proofs.lemmas.Option.{slice_get-get_or}
use Rattle.av_sched.proofs.Steps.{take_more}
use Rattle.av_base.proofs.Lists.{same_default}

-- what the walk over the whole box gives
pub best_of_walk : (s : FlatSystem) (c : ℕ) (component : List ℕ) (linear best : List Point) → All (λ n. n < length (nodes s)) component → HasWalked s c component 0 linear None (Some best) → IsLike component linear (Some best)
    → IsBestChoice s c component linear best
best_of_walk s c component linear best within h like = record {
  are = h.sound.0;
  first = record { feasible = h.sound.1; first = λ other parts f. first_of_all s c component within linear best None h other parts f };
  like = like;
}

pub none_of_walk : (s : FlatSystem) (c : ℕ) (component : List ℕ) (linear : List Point) → All (λ n. n < length (nodes s)) component → HasWalked s c component 0 linear None None → HasNone s c component
none_of_walk s c component linear within h = λ other parts f. none_of_all s c component within linear None h other parts f

-- the first choice of a component stays one where the parts of its nodes stay
pub first_same : (s : FlatSystem) (c : ℕ) (component : List ℕ) (a b : List Point) → SameIn component a b → SameIn component b a → IsFirstChoice s c component a → IsFirstChoice s c component b
first_same s c component a b same back h = record {
  feasible = same_feasible s component b a back h.feasible;
  first = λ other parts f less. h.first other parts f (subst (λ (xs : List ℕ). IsLess (cost s component other) xs) (same_cost s component a b same) less);
}

-- two components have no node in common
apart_at : (s : FlatSystem) (components : List (List ℕ)) (j k : ℕ) → AreComponents (length (nodes s)) (ReadsNode s) components → j < k → k < length components → (n : ℕ)
    → Contains (get_or components j []) n → Contains (get_or components k []) n → ⊥
apart_at s components j k are l m n a b = are.apart j k [] l m n n a b itself itself

taken_at : {X : Type 0} (xs : List X) (k i : ℕ) (d : X) → i < length (take k xs) → (i < k) × (get_or (take k xs) i d ≡ get_or xs i d)
taken_at [] zero i d l = absurd (omega (arith, l))
taken_at [] (suc k) i d l = absurd (omega (arith, l))
taken_at (x ∷ xs) zero i d l = absurd (omega (arith, l))
taken_at (x ∷ xs) (suc k) zero d l = (omega arith, refl)
taken_at (x ∷ xs) (suc k) (suc i) d l = let r = taken_at xs k i d (omega (arith, l)) in ((let m = r.0 in omega (arith, m)), r.1)

-- after one component more
pub chosen_more : (s : FlatSystem) (c : ℕ) (components : List (List ℕ)) (k : ℕ) (linear best : List Point) → AreComponents (length (nodes s)) (ReadsNode s) components → k < length components
    → AreFirstChoices s c (take k components) linear → IsBestChoice s c (get_or components k []) linear best → AreFirstChoices s c (take (k + 1) components) best
chosen_more s c components k linear best are l h new = record {
  are = new.are;
  first = subst (All (λ component. IsFirstChoice s c component best)) (sym (take_more components k (get_or components k []) (get_or components k []) l (same_default components k [] (get_or components k []) l) refl))
      (All-push (λ component. IsFirstChoice s c component best) (take k components) (get_or components k []) earlier new.first);
}
  where
    earlier : All (λ component. IsFirstChoice s c component best) (take k components)
    earlier = λ i d m.
        let component = get_or (take k components) i d in
        let t = taken_at components k i d m in
        let own : i < length components = (let q = t.0 in omega (arith, q, l)) in
        let at : component ≡ get_or components i [] = t.1 ∙ default components i d own in
        let out : (n : ℕ) → Contains component n → part best n ≡ part linear n = λ n among. new.like n (λ there. apart_at s components i k are t.0 l n (subst (λ (xs : List ℕ). Contains xs n) at among) there) in
        first_same s c component linear best
        (λ j e r. out (get_or component j e) (among component j e r))
        (λ j e r. sym (out (get_or component j e) (among component j e r)))
        (h.first i d m)
      where
        default : (xs : List (List ℕ)) (i : ℕ) (d : List ℕ) → i < length xs → get_or xs i d ≡ get_or xs i []
        default [] i d m = absurd (omega (arith, m))
        default (x ∷ xs) zero d m = refl
        default (x ∷ xs) (suc i) d m = default xs i d (omega (arith, m))

        among : (xs : List ℕ) (j e : ℕ) → j < length xs → Contains xs (get_or xs j e)
        among xs j e r = Contains-get_or xs j e r

-- the first without a feasible choice
pub stuck_at : (s : FlatSystem) (c : ℕ) (components : List (List ℕ)) (k : ℕ) (linear : List Point) → k < length components → AreFirstChoices s c (take k components) linear → HasNone s c (get_or components k []) → IsFirstInfeasible s c components k
stuck_at s c components k linear l h none = record {
  component = get_or components k [];
  is = slice_get-get_or components k [] l;
  none = none;
  before = λ i d m. record { linear = linear; are = h.are; feasible = (h.first i d m).feasible };
}

pub at_index : (components : List (List ℕ)) (k : ℕ) (a b : List ℕ) → k < length components → a ≡ get_or components k a → b ≡ a → b ≡ get_or components k []
at_index components k a b l e f = f ∙ e ∙ same_default components k a [] l
