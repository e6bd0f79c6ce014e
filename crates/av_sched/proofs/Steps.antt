-- A linear part put in the place of another one, and the lists of the parts that a node can have.
use Rattle.std.proofs.Common.{◌≡◌, ◌≢◌, ℕ, zero, suc, ◌<◌, ⊎_elim, Option, Some, None, List, [], ◌∷◌, ◌++◌, length, refl, sym, ap, subst, ◌∙◌, arith, All, get_or-set_same, get_or-set_other, length-set, get_or, take, add-one, ◌+◌}
use Rattle.std.specs.Prelude.{Contains, AllPairs, slice_get, slice_set, slice_index_or}
use Rattle.std.proofs.lemmas.Bool.{cases_eq}
use Rattle.std.proofs.lemmas.List.Elements.{Contains-get_or}
use Rattle.av_tree.specs.Points.{Point}
use Rattle.av_flat.specs.Trees.{Variable, FlatSystem}
use Rattle.av_flat.specs.Nodes.{nodes}
use Rattle.av_flat.specs.Schedules.{IsLinearPart}
use Rattle.av_sched.specs.Offsets.{part}
use Rattle.av_sched.specs.Choices.{AreLinearParts}
use Rattle.av_sched.specs.Parts.{AreParts, AreAllParts}
use Rattle.av_sched.specs.inner.Walk.{IsLike}
use Rattle.av_base.proofs.Lists.{same_default}

pub set_set : {X : Type 0} (xs : List X) (n : ℕ) (a b : X) → slice_set (slice_set xs n a) n b ≡ slice_set xs n b
set_set [] n a b = refl
set_set (x ∷ xs) zero a b = refl
set_set (x ∷ xs) (suc n) a b = ap (λ ys. x ∷ ys) (set_set xs n a b)

abbrev pub node_at_level : List ℕ → ℕ → ℕ
node_at_level component k = slice_index_or component k 0

-- a change of a part of the component does not matter
pub like_set : (component : List ℕ) (linear : List Point) (n : ℕ) (v : Point) (best : Option (List Point)) → Contains component n → IsLike component linear best → IsLike component (slice_set linear n v) best
like_set component linear n v None among h = tt
like_set component linear n v (Some best) among h = λ m out. h m out ∙ sym (get_or-set_other linear n m v [] (λ e. out (subst (Contains component) (sym e) among)))

pub at_level : (component : List ℕ) (k : ℕ) → k < length component → Contains component (node_at_level component k)
at_level component k l = Contains-get_or component k 0 l

module _ (s : FlatSystem) (c : ℕ) (component : List ℕ) (within : All (λ n. n < length (nodes s)) component) (apart : AllPairs (λ m n. m < n) component) (k : ℕ) (fits : k < length component) where
  pub node_within : node_at_level component k < length (nodes s)
  node_within = subst (λ (n : ℕ). n < length (nodes s)) (same_default component k 0 0 fits) (within k 0 fits)

  pub before_apart : (j : ℕ) → j < k → node_at_level component j ≢ node_at_level component k
  before_apart j l e = let h = apart j k 0 l fits in omega (arith, h, e)

  -- with another part at the node the parts are still valid
  pub set_valid : (now : List Point) (v : Point) → ((w : Variable) → slice_get (nodes s) (node_at_level component k) ≡ Some w → IsLinearPart c w.domain.dim v) → AreLinearParts s c now
      → AreLinearParts s c (slice_set now (node_at_level component k) v)
  set_valid now v own are = record {
    one_each = length-set now (node_at_level component k) v ∙ are.one_each;
    each = λ m w e. ⊎_elim
        (λ q.
        let n = node_at_level component k in
        let l : n < length now = (let a = are.one_each in let b = node_within in omega (arith, a, b)) in
        let at : part (slice_set now n v) m ≡ v = ap (part (slice_set now n v)) q ∙ get_or-set_same now n v [] l in
        subst (IsLinearPart c w.domain.dim) (sym at) (own w (subst (λ (i : ℕ). slice_get (nodes s) i ≡ Some w) q e)))
        (λ q. subst (IsLinearPart c w.domain.dim) (sym (get_or-set_other now (node_at_level component k) m v [] q)) (are.each m w e))
        (cases_eq m (node_at_level component k));
  }

-- ---- the lists of parts

pub parts_at : (s : FlatSystem) (c : ℕ) (component : List ℕ) (lists : List (List Point)) (k : ℕ) (list items : List Point) → AreAllParts s c component lists → k < length component → list ≡ slice_index_or lists k list → items ≡ list
    → AreParts s c (node_at_level component k) items
parts_at s c component lists k list items all l e f =
    let m : k < length lists = (let q = all.one_each in omega (arith, q, l)) in
    subst (AreParts s c (node_at_level component k)) (sym (f ∙ e ∙ same_default lists k list [] m)) (all.each k l)

pub part_is_valid : (s : FlatSystem) (c n : ℕ) (items : List Point) (i : ℕ) (p v : Point) → AreParts s c n items → i < length items → p ≡ get_or items i p → v ≡ p
    → (w : Variable) → slice_get (nodes s) n ≡ Some w → IsLinearPart c w.domain.dim v
part_is_valid s c n items i p v are l e f w g = subst (IsLinearPart c w.domain.dim) (sym (f ∙ e)) (are.valid w g i p l)

pub take_more : {X : Type 0} (xs : List X) (i : ℕ) (x y : X) → i < length xs → x ≡ get_or xs i x → y ≡ x → take (i + 1) xs ≡ take i xs ++ y ∷ []
take_more xs i x y l e f = rw (add-one, f) (go xs i x l e)
  where
    go : {X : Type 0} (xs : List X) (i : ℕ) (x : X) → i < length xs → x ≡ get_or xs i x → take (suc i) xs ≡ take i xs ++ x ∷ []
    go [] i x l e = absurd (omega (arith, l))
    go (a ∷ xs) zero x l e = ap (λ b. b ∷ []) (sym e)
    go (a ∷ xs) (suc i) x l e = ap (λ ys. a ∷ ys) (go xs i x (omega (arith, l)) e)
