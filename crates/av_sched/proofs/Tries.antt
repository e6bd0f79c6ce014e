-- The walk through the choices of a component: what a leaf does to the best choice, what is left out, and how the parts of a node
-- that were tried make up all of them.
use Rattle.std.proofs.Common.{◌≡◌, ◌≢◌, ℕ, suc, ◌+◌, ◌<◌, pos, ◌+ℤ◌, ◌≤ℤ◌, inl, inr, ⊎_elim, Option, Some, None, List, [], ◌∷◌, ◌++◌, length, map, get_or, refl, sym, ap, ap₂, subst, ◌∙◌, arith, All, filter, length-append, get_or-set_same, get_or-set_other}
use Rattle.std.specs.Prelude.{Contains, slice_get, slice_set, slice_index_or, sum, not, ◌&&◌}
use Rattle.std.specs.List.{AllByRecursion, flat_map}
use Rattle.std.proofs.lemmas.Bool.{cases_eq}
use Rattle.std.proofs.lemmas.List.{length-map}
use Rattle.std.proofs.lemmas.List.Elements.{recursion_from_All, All-contains, Contains-push_cases}
use Rattle.av_affine.specs.Numbers.{dot}
use Rattle.av_tree.specs.Points.{Point}
use Rattle.av_flat.specs.Trees.{FlatSystem}
use Rattle.av_flat.specs.Nodes.{nodes}
use Rattle.av_flat.specs.Broadcasts.{is_broadcast, is_moved}
use Rattle.av_sched.specs.Offsets.{part}
use Rattle.av_sched.specs.Choices.{AreLinearParts, IsFeasible}
use Rattle.av_sched.specs.Order.{entry_rank, references_of, left_still, size_of, cost, IsLess}
use Rattle.av_sched.specs.Parts.{Agrees}
use Rattle.av_sched.specs.inner.Walk.{IsMet, IsSound, IsAhead, HasWalked, HasTried}
use Rattle.av_sched.proofs.Walking.{not_before}
use Rattle.av_base.proofs.Lists.{same_default, there_is}

-- ---- the order

pub not_itself : (xs : List ℕ) → IsLess xs xs → ⊥
not_itself [] h = h
not_itself (x ∷ xs) (inl h) = omega (arith, h)
not_itself (x ∷ xs) (inr h) = not_itself xs h.1

pub not_both : (xs ys : List ℕ) → IsLess xs ys → IsLess ys xs → ⊥
not_both [] ys h k = h
not_both (x ∷ xs) [] h k = h
not_both (x ∷ xs) (y ∷ ys) (inl h) (inl k) = omega (arith, h, k)
not_both (x ∷ xs) (y ∷ ys) (inl h) (inr k) = let e = k.0 in omega (arith, h, e)
not_both (x ∷ xs) (y ∷ ys) (inr h) (inl k) = let e = h.0 in omega (arith, k, e)
not_both (x ∷ xs) (y ∷ ys) (inr h) (inr k) = not_both xs ys h.1 k.1

-- ---- choices with the same parts in the component

abbrev pub SameIn : List ℕ → List Point → List Point → Type 0
SameIn component a b = All (λ n. part b n ≡ part a n) component

pub same_in : (component : List ℕ) (a b : List Point) → Agrees component (length component) a b → SameIn component a b
same_in component a b h = λ k d l. subst (λ (n : ℕ). part b n ≡ part a n) (same_default component k 0 d l) (h k l)

map_same : (f g : ℕ → ℕ) (xs : List ℕ) → AllByRecursion (λ n. f n ≡ g n) xs → map f xs ≡ map g xs
map_same f g [] h = refl
map_same f g (x ∷ xs) h = ap₂ (λ a b. a ∷ b) h.0 (map_same f g xs h.1)

flat_same : (f g : ℕ → Point) (xs : List ℕ) → AllByRecursion (λ n. f n ≡ g n) xs → flat_map f xs ≡ flat_map g xs
flat_same f g [] h = refl
flat_same f g (x ∷ xs) h = ap₂ (λ a b. a ++ b) h.0 (flat_same f g xs h.1)

pub same_cost : (s : FlatSystem) (component : List ℕ) (a b : List Point) → SameIn component a b → cost s component b ≡ cost s component a
same_cost s component a b h =
    let each = λ (n : ℕ) (e : part b n ≡ part a n). ap (λ p. length (filter (λ r. is_broadcast r.map && not (is_moved p r.map)) (references_of (slice_get (nodes s) n)))) e in
    let still = map_same (left_still s b) (left_still s a) component (recursion_from_All (λ n. left_still s b n ≡ left_still s a n) component (λ k d l. each (get_or component k d) (h k d l))) in
    let sizes = map_same (λ n. size_of (part b n)) (λ n. size_of (part a n)) component (recursion_from_All (λ n. size_of (part b n) ≡ size_of (part a n)) component (λ k d l. ap size_of (h k d l))) in
    let entries = flat_same (part b) (part a) component (recursion_from_All (λ n. part b n ≡ part a n) component h) in
    ap₂ (λ x y. x ∷ y) (ap sum still) (ap₂ (λ x y. x ∷ y) (ap sum sizes) (ap (map entry_rank) entries))

pub same_feasible : (s : FlatSystem) (component : List ℕ) (a b : List Point) → SameIn component a b → IsFeasible s component b → IsFeasible s component a
same_feasible s component a b h f = (
  f.0,
  λ n z k y pair i j.
      let late = f.1 n z k y pair i j in
      let p = All-contains (λ n. part b n ≡ part a n) component k h j in
      let q = All-contains (λ n. part b n ≡ part a n) component n h i in
      subst (λ (v : Point). (dot (part a k) y +ℤ f.0 k +ℤ pos 1) ≤ℤ (dot v z +ℤ f.0 n)) q (subst (λ (v : Point). (dot v y +ℤ f.0 k +ℤ pos 1) ≤ℤ (dot (part b n) z +ℤ f.0 n)) p late),
)

flat_length : (f g : ℕ → Point) (xs : List ℕ) → AllByRecursion (λ n. length (f n) ≡ length (g n)) xs → length (flat_map f xs) ≡ length (flat_map g xs)
flat_length f g [] h = refl
flat_length f g (x ∷ xs) h = length-append (f x) (flat_map f xs) ∙ ap₂ (λ a b. a + b) h.0 (flat_length f g xs h.1) ∙ sym (length-append (g x) (flat_map g xs))

part_length : (s : FlatSystem) (c : ℕ) (a b : List Point) (n : ℕ) → AreLinearParts s c a → AreLinearParts s c b → n < length (nodes s) → length (part a n) ≡ length (part b n)
part_length s c a b n p q l =
    let e = there_is (nodes s) n l in (p.each n e.0 e.1).size ∙ sym (q.each n e.0 e.1).size

pub cost_length : (s : FlatSystem) (c : ℕ) (component : List ℕ) (a b : List Point) → AreLinearParts s c a → AreLinearParts s c b → All (λ n. n < length (nodes s)) component
    → length (cost s component a) ≡ length (cost s component b)
cost_length s c component a b p q h =
    let f = flat_length (part a) (part b) component (recursion_from_All (λ n. length (part a n) ≡ length (part b n)) component (λ k e l. part_length s c a b (get_or component k e) p q (h k e l))) in
    ap (λ n. suc (suc n)) (length-map (flat_map (part a) component) entry_rank ∙ f ∙ sym (length-map (flat_map (part b) component) entry_rank))

-- ---- leaves

module _ (s : FlatSystem) (c : ℕ) (component : List ℕ) (within : All (λ n. n < length (nodes s)) component) where
  -- a feasible choice that comes before the best one takes its place
  pub leaf_taken : (linear : List Point) (old : Option (List Point)) → AreLinearParts s c linear → IsFeasible s component linear → ((best : List Point) → old ≡ Some best → AreLinearParts s c best × IsLess (cost s component linear) (cost s component best))
      → HasWalked s c component (length component) linear old (Some linear)
  leaf_taken linear old are feasible better = record {
    sound = (are, feasible);
    keeps = λ other parts met. kept old refl other parts met;
    covers = λ other parts agrees f less.
        let same = same_cost s component linear other (same_in component linear other agrees) in not_itself (cost s component linear) (subst (λ (xs : List ℕ). IsLess xs (cost s component linear)) same less);
  }
    where
      kept : (o : Option (List Point)) → old ≡ o → (other : List Point) → AreLinearParts s c other → IsMet s component o other → IsLess (cost s component other) (cost s component linear) → ⊥
      kept None e other parts met = absurd met
      kept (Some best) e other parts met =
          let b = better best e in
          not_before (cost s component other) (cost s component best) (cost s component linear) (cost_length s c component other best parts b.0 within) (cost_length s c component best linear b.0 are within) met (λ h. not_both (cost s component linear) (cost s component best) b.1 h)

  -- one that does not is left
  pub leaf_left : (linear best : List Point) → IsSound s c component (Some best) → (IsLess (cost s component linear) (cost s component best) → ⊥) → HasWalked s c component (length component) linear (Some best) (Some best)
  leaf_left linear best sound no_less = record {
    sound = sound;
    keeps = λ other parts met. met;
    covers = λ other parts agrees f less. no_less (subst (λ (xs : List ℕ). IsLess xs (cost s component best)) (same_cost s component linear other (same_in component linear other agrees)) less);
  }

  -- the same where it is not told whether a best one is known
  pub leaf_new : (linear : List Point) (old : Option (List Point)) → AreLinearParts s c linear → IsSound s c component old → IsAhead s component linear old → IsFeasible s component linear
      → HasWalked s c component (length component) linear old (Some linear)
  leaf_new linear None are sound ahead feasible = leaf_taken linear None are feasible (λ best e. absurd cc)
  leaf_new linear (Some old) are sound ahead feasible = leaf_taken linear (Some old) are feasible (λ best e. let same : old ≡ best = cc in subst (λ (b : List Point). AreLinearParts s c b × IsLess (cost s component linear) (cost s component b)) same (sound.0, ahead))

  pub leaf_kept : (linear : List Point) (old : Option (List Point)) → IsSound s c component old → (IsAhead s component linear old → ⊥) → HasWalked s c component (length component) linear old old
  leaf_kept linear None sound behind = absurd (behind tt)
  leaf_kept linear (Some old) sound behind = leaf_left linear old sound behind

  -- and so is one that is not feasible
  pub leaf_barred : (linear : List Point) (old : Option (List Point)) → IsSound s c component old → (IsFeasible s component linear → ⊥) → HasWalked s c component (length component) linear old old
  leaf_barred linear old sound barred = record {
    sound = sound;
    keeps = λ other parts met. met;
    covers = λ other parts agrees f. absurd (barred (same_feasible s component linear other (same_in component linear other agrees) f));
  }

  -- ---- the parts of one node in turn

  pub tried_none : (k : ℕ) (linear : List Point) (old : Option (List Point)) → IsSound s c component old → HasTried s c component k linear [] old old
  tried_none k linear old sound = record { sound = sound; keeps = λ other parts met. met; covers = λ other parts agrees among f. absurd (omega (arith, among.1)) }

  -- one part more: the walk from it on begins with the best choice so far
  pub tried_more : (k : ℕ) (linear next : List Point) (tried : List Point) (v : Point) (old mid new : Option (List Point))
      → ((other : List Point) → Agrees component k linear other → part other (slice_index_or component k 0) ≡ v → Agrees component (suc k) next other)
      → HasTried s c component k linear tried old mid → HasWalked s c component (suc k) next mid new → HasTried s c component k linear (tried ++ v ∷ []) old new
  tried_more k linear next tried v old mid new leads t w = record {
    sound = w.sound;
    keeps = λ other parts met. w.keeps other parts (t.keeps other parts met);
    covers = λ other parts agrees among f. ⊎_elim
        (λ before. w.keeps other parts (t.covers other parts agrees before f))
        (λ same. w.covers other parts (leads other agrees (sym same)) f)
        (Contains-push_cases tried v (part other (slice_index_or component k 0)) among);
  }

  -- all parts
  pub tried_all : (k : ℕ) (linear tried : List Point) (old new : Option (List Point))
      → ((other : List Point) → AreLinearParts s c other → Agrees component k linear other → IsFeasible s component other → Contains tried (part other (slice_index_or component k 0)))
      → HasTried s c component k linear tried old new → HasWalked s c component k linear old new
  tried_all k linear tried old new complete t = record { sound = t.sound; keeps = t.keeps; covers = λ other parts agrees f. t.covers other parts agrees (complete other parts agrees f) f }

  -- the next node's part put in place
  pub leads_on : (k : ℕ) (linear other : List Point) (v : Point) → slice_index_or component k 0 < length linear → ((j : ℕ) → j < k → slice_index_or component j 0 ≢ slice_index_or component k 0)
      → Agrees component k linear other → part other (slice_index_or component k 0) ≡ v → Agrees component (suc k) (slice_set linear (slice_index_or component k 0) v) other
  leads_on k linear other v l apart agrees e j m =
      let n = slice_index_or component k 0 in
      ⊎_elim
      (λ q. subst (λ (i : ℕ). part other (slice_index_or component i 0) ≡ part (slice_set linear n v) (slice_index_or component i 0)) (sym q) (e ∙ sym (get_or-set_same linear n v [] l)))
      (λ q. let i : j < k = omega (arith, m, q) in agrees j i ∙ sym (get_or-set_other linear n (slice_index_or component j 0) v [] (apart j i)))
      (cases_eq j k)

  -- ---- the whole box

  -- after the walk over all choices a known best one is the first, and where none is known none is feasible
  pub first_of_all : (linear best : List Point) (old : Option (List Point)) → HasWalked s c component 0 linear old (Some best) → (other : List Point) → AreLinearParts s c other → IsFeasible s component other → IsLess (cost s component other) (cost s component best) → ⊥
  first_of_all linear best old w other parts f = w.covers other parts (λ j l. absurd (omega (arith, l))) f

  pub none_of_all : (linear : List Point) (old : Option (List Point)) → HasWalked s c component 0 linear old None → (other : List Point) → AreLinearParts s c other → IsFeasible s component other → ⊥
  none_of_all linear old w other parts f = w.covers other parts (λ j l. absurd (omega (arith, l))) f
