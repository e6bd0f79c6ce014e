-- The first reduction with a cause for a fault, and the number of chains, of lists that are put together.
use Rattle.std.proofs.Common.{◌≡◌, ℕ, suc, ◌+◌, ◌-◌, ◌^◌, min, List, [], ◌∷◌, ◌++◌, inl, inr, refl, subst, arith}
use Rattle.std.proofs.lemmas.Grind.{common_steps}
use Rattle.std.specs.List.{AllByRecursion}
use Rattle.av_poly.specs.Points.{Set, Has}
use Rattle.av_poly.proofs.Normalising.{normal_set}
use Rattle.av_base.specs.declared.word.Op.{Op}
use Rattle.av_affine.specs.declared.map.Map.{Map}
use Rattle.av_flat.specs.Trees.{Tree, reduction}
use Rattle.av_normal.specs.Pairwise.{IsFirstOf}
use Rattle.av_normal.proofs.InnerSets.{same_set}
use Rattle.av_serial.specs.declared.fault.SerialFault.{SerialFault}
use Rattle.av_serial.specs.declared.fault.SerialFault.TheVariants as fault
use Rattle.av_serial.specs.SerialFaults.{Reduced, IsCauseOf, IsSum, HasPoint, HasNodes, HaveNodes}
use Rattle.av_serial.specs.inner.Counted.{IsCapped}
use Rattle.av_serial.specs.inner.Tries.{IsClean, IsFaultOf, IsFaultOfFirst, IsDomain}
use Rattle.av_serial.proofs.Capped.{sum_of}

abbrev pub AreClean : List Reduced → Type 0
AreClean rs = AllByRecursion IsClean rs

pub clean_append : (a b : List Reduced) → AreClean a → AreClean b → AreClean (a ++ b)
clean_append [] b h k = k
clean_append (x ∷ a) b h k = (h.0, clean_append a b h.1 k)

abbrev First : SerialFault → List Reduced → Type 0
First f rs = IsFirstOf IsClean (λ r. IsCauseOf r f) rs

first_append : (f : SerialFault) (a b : List Reduced) → First f a → First f (a ++ b)
first_append f [] b h = absurd h
first_append f (x ∷ a) b (inl h) = inl h
first_append f (x ∷ a) b (inr h) = inr (h.0, first_append f a b h.1)

second_append : (f : SerialFault) (a b : List Reduced) → AreClean a → First f b → First f (a ++ b)
second_append f [] b h k = k
second_append f (x ∷ a) b h k = inr (h.0, second_append f a b h.1 k)

-- the same of other lists
moved : (a b : List Reduced) → ((f : SerialFault) → First f a → First f b) → (f : SerialFault) → IsFaultOfFirst a f → IsFaultOfFirst b f
moved a b g (fault.NonUnit n) h = g (fault.NonUnit n) h
moved a b g (fault.Unbounded n) h = g (fault.Unbounded n) h
moved a b g (fault.Limit k n) h = g (fault.Limit k n) h
moved a b g fault.Memory h = tt

pub fault_first : (a b : List Reduced) (f : SerialFault) → IsFaultOfFirst a f → IsFaultOfFirst (a ++ b) f
fault_first a b = moved a (a ++ b) (λ f h. first_append f a b h)

pub fault_second : (a b : List Reduced) → AreClean a → (f : SerialFault) → IsFaultOfFirst b f → IsFaultOfFirst (a ++ b) f
fault_second a b h = moved b (a ++ b) (λ f k. second_append f a b h k)

pub fault_after : (r : Reduced) (rs : List Reduced) → IsClean r → (f : SerialFault) → IsFaultOfFirst rs f → IsFaultOfFirst (r ∷ rs) f
fault_after r rs h = moved rs (r ∷ rs) (λ f k. inr (h, k))

pub fault_here : (r : Reduced) (rs : List Reduced) (f : SerialFault) → IsFaultOf r f → IsFaultOfFirst (r ∷ rs) f
fault_here r rs (fault.NonUnit n) h = inl h
fault_here r rs (fault.Unbounded n) h = inl h
fault_here r rs (fault.Limit k n) h = inl h
fault_here r rs fault.Memory h = tt

-- ---- four lists

module _ (a b c d : List Reduced) where
  pub four_clean : AreClean a → AreClean b → AreClean c → AreClean d → AreClean (a ++ b ++ c ++ d)
  four_clean h i j k = clean_append (a ++ b ++ c) d (clean_append (a ++ b) c (clean_append a b h i) j) k

  pub four_first : (f : SerialFault) → IsFaultOfFirst a f → IsFaultOfFirst (a ++ b ++ c ++ d) f
  four_first f w = fault_first (a ++ b ++ c) d f (fault_first (a ++ b) c f (fault_first a b f w))

  pub four_second : (f : SerialFault) → AreClean a → IsFaultOfFirst b f → IsFaultOfFirst (a ++ b ++ c ++ d) f
  four_second f h w = fault_first (a ++ b ++ c) d f (fault_first (a ++ b) c f (fault_second a b h f w))

  pub four_third : (f : SerialFault) → AreClean a → AreClean b → IsFaultOfFirst c f → IsFaultOfFirst (a ++ b ++ c ++ d) f
  four_third f h i w = fault_first (a ++ b ++ c) d f (fault_second (a ++ b) c (clean_append a b h i) f w)

  pub four_fourth : (f : SerialFault) → AreClean a → AreClean b → AreClean c → IsFaultOfFirst d f → IsFaultOfFirst (a ++ b ++ c ++ d) f
  four_fourth f h i j w = fault_second (a ++ b ++ c) d (clean_append (a ++ b) c (clean_append a b h i) j) f w

-- ---- lists that are gone through

-- what holds of those to come holds of all
pub record IsWalk (all rest : List Reduced) : Type 0 where
  pub clean : AreClean rest → AreClean all
  pub bad : (f : SerialFault) → IsFaultOfFirst rest f → IsFaultOfFirst all f

pub walk_start : (all : List Reduced) → IsWalk all all
walk_start all = record { clean = λ h. h; bad = λ f h. h }

pub walk_more : (all a rest : List Reduced) → IsWalk all (a ++ rest) → AreClean a → IsWalk all rest
walk_more all a rest w h = record { clean = λ k. w.clean (clean_append a rest h k); bad = λ f k. w.bad f (fault_second a rest h f k) }

pub walk_bad : (all a rest : List Reduced) → IsWalk all (a ++ rest) → (f : SerialFault) → IsFaultOfFirst a f → IsFaultOfFirst all f
walk_bad all a rest w f h = w.bad f (fault_first a rest f h)

-- those so far and those to come are all
abbrev pub IsCount : {X : Type 0} → (X → ℕ → Type 0) → List X → List X → ℕ → Type 0
IsCount P all rest count = (n : ℕ) → HaveNodes P rest n → HaveNodes P all (count + n)

count_more : {X : Type 0} (P : X → ℕ → Type 0) (all : List X) (x : X) (rest : List X) (count one new : ℕ) → IsCount P all (x ∷ rest) count → P x one → new ≡ count + one → IsCount P all rest new
count_more P all x rest count one new h p e n k =
    let r = h (one + n) (one, n, p, k, refl) in
    let same : count + (one + n) ≡ new + n = omega (arith, e) in subst (λ (i : ℕ). HaveNodes P all i) same r

count_all : {X : Type 0} (P : X → ℕ → Type 0) (all : List X) (count : ℕ) → IsCount P all [] count → HaveNodes P all count
count_all P all count h = let same : count + 0 ≡ count = omega arith in subst (λ (i : ℕ). HaveNodes P all i) same (h 0 refl)

-- ---- what 128 bits hold of a number

pub capped_start : {X : Type 0} (P : X → ℕ → Type 0) (all : List X) → IsCapped (IsCount P all all) 0
capped_start P all = record { number = 0; counted = λ n k. let same : n ≡ 0 + n = omega arith in subst (λ (i : ℕ). HaveNodes P all i) same k; is = refl }

pub capped_more : {X : Type 0} (P : X → ℕ → Type 0) (all : List X) (x : X) (rest : List X) (count one new : ℕ) → IsCapped (IsCount P all (x ∷ rest)) count → IsCapped (P x) one → new ≡ min (count + one) (2 ^ 128 - 1) → IsCapped (IsCount P all rest) new
capped_more P all x rest count one new h p e = record {
  number = h.number + p.number;
  counted = count_more P all x rest h.number p.number (h.number + p.number) h.counted p.counted refl;
  is = sum_of h.number p.number count one new h.is p.is e;
}

pub capped_all : {X : Type 0} (P : X → ℕ → Type 0) (all : List X) (count : ℕ) → IsCapped (IsCount P all []) count → IsCapped (HaveNodes P all) count
capped_all P all count h = record { number = h.number; counted = count_all P all h.number h.counted; is = h.is }

pub capped_two : (P Q : ℕ → Type 0) (m n k : ℕ) → IsCapped P m → IsCapped Q n → k ≡ min (m + n) (2 ^ 128 - 1) → IsCapped (IsSum P Q) k
capped_two P Q m n k a b e = record { number = a.number + b.number; counted = (a.number, b.number, a.counted, b.counted, refl); is = sum_of a.number b.number m n k a.is b.is e }

pub capped_next : (o : Op) (m : Map) (t : Tree) (set : Set) (n k : ℕ) → IsCapped (HasNodes t) n → HasPoint set → k ≡ min (n + 1) (2 ^ 128 - 1) → IsCapped (HasNodes (reduction o m t set)) k
capped_next o m t set n k h p e = record { number = suc h.number; counted = inl (p, h.number, h.counted, refl); is = (let f = h.is in grind (arith, common_steps, e, f)) }

pub capped_none : (o : Op) (m : Map) (t : Tree) (set : Set) → (HasPoint set → ⊥) → IsCapped (HasNodes (reduction o m t set)) 0
capped_none o m t set none = record { number = 0; counted = inr (none, refl); is = refl }

-- ---- points

pub set_point : (m : Map) (set domain : Set) → IsDomain m set domain → HasPoint set
set_point m set domain d =
    let own : Set = record { dim = set.dim; rows = domain.rows } in
    let is : domain ≡ own = same_set domain own d.dimension refl in
    let z = d.point.0 in
    (z, (normal_set own set z refl d.rows).0 (subst (λ (s : Set). Has s z) is d.point.1))
