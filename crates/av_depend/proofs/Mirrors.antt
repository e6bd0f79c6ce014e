-- A point is the midpoint of two others exactly where an earlier point has its mirror image in the set.
use Rattle.std.proofs.Common.{◌≡◌, ◌≢◌, ℕ, zero, suc, ◌+◌, ◌<◌, ◌≤◌, ℤ, pos, ◌+ℤ◌, ◌-ℤ◌, IsTrue, List, [], ◌∷◌, ◌++◌, length, take, add-one, get_or, inl, inr, ◌⊎◌, ⊎_elim, refl, sym, ap, ap₂, subst, ◌∙◌, arith}
use Rattle.std.specs.Prelude.{Contains, AllPairs}
use Rattle.std.proofs.lemmas.Int.{ints, by_lt_z}
use Rattle.std.proofs.lemmas.Bool.{cases_eq, cases_lt}
use Rattle.std.proofs.lemmas.List.Elements.{All-push, Contains-get_or, Contains-append_left, Contains-push_cases}
use Rattle.std.proofs.lemmas.List.Quantifiers.{all_pairs_push}
use Rattle.av_poly.specs.Points.{Set, Has}
use Rattle.av_tree.specs.Points.{Point}
use Rattle.av_flat.specs.Points.{has}
use Rattle.av_flat.proofs.Sets.{has_is}
use Rattle.av_flat.specs.Order.{IsBefore}
use Rattle.av_depend.specs.Edges.{IsMiddle, IsGenerator, AreGenerators}
use Rattle.av_depend.specs.AllPoints.{AreAllPoints}
use Rattle.av_depend.specs.inner.Generating.{mirrored, HasMirrored, AreGeneratorsTo}
use Rattle.av_base.proofs.Among.{last_among}
use Rattle.av_depend.proofs.Generators.{before_chain, before_itself}
use Rattle.av_base.proofs.Lists.{same_default, take_whole}

-- ---- midpoints and mirror images

pub middle_mirrored : (x y z : Point) → IsMiddle x y z → y ≡ mirrored z x
middle_mirrored [] [] [] h = refl
middle_mirrored [] [] (z ∷ zs) h = absurd h
middle_mirrored [] (y ∷ ys) zs h = absurd h
middle_mirrored (x ∷ xs) [] zs h = absurd h
middle_mirrored (x ∷ xs) (y ∷ ys) [] h = absurd h
middle_mirrored (x ∷ xs) (y ∷ ys) (z ∷ zs) h = let e = h.0 in ap₂ (λ a b. a ∷ b) (omega (arith, ints, e)) (middle_mirrored xs ys zs h.1)

pub mirrored_middle : (x z : Point) → length x ≡ length z → IsMiddle x (mirrored z x) z
mirrored_middle [] [] e = tt
mirrored_middle [] (z ∷ zs) e = absurd (omega (arith, e))
mirrored_middle (x ∷ xs) [] e = absurd (omega (arith, e))
mirrored_middle (x ∷ xs) (z ∷ zs) e = (omega (arith, ints), mirrored_middle xs zs (omega (arith, e)))

pub middle_turned : (x y z : Point) → IsMiddle x y z → IsMiddle y x z
middle_turned [] [] [] h = tt
middle_turned [] [] (z ∷ zs) h = absurd h
middle_turned [] (y ∷ ys) zs h = absurd h
middle_turned (x ∷ xs) [] zs h = absurd h
middle_turned (x ∷ xs) (y ∷ ys) [] h = absurd h
middle_turned (x ∷ xs) (y ∷ ys) (z ∷ zs) h = let e = h.0 in (omega (arith, ints, e), middle_turned xs ys zs h.1)

-- of two points with this midpoint, other than it, one comes earlier
pub one_earlier : (x y z : Point) → IsMiddle x y z → x ≢ z → IsBefore x z ⊎ IsBefore y z
one_earlier [] [] [] h n = absurd (n refl)
one_earlier [] [] (z ∷ zs) h n = absurd h
one_earlier [] (y ∷ ys) zs h n = absurd h
one_earlier (x ∷ xs) [] zs h n = absurd h
one_earlier (x ∷ xs) (y ∷ ys) [] h n = absurd h
one_earlier (x ∷ xs) (y ∷ ys) (z ∷ zs) h n =
    let m = h.0 in
    by_lt_z x z
    (λ less. inl (inl less))
    (λ most. by_lt_z z x
    (λ more. inr (inl (omega (arith, ints, m, more))))
    (λ least.
    let e : x ≡ z = omega (arith, ints, most, least) in
    let f : y ≡ z = omega (arith, ints, most, least, m) in
    elim (one_earlier xs ys zs h.1 (λ g. n (ap₂ (λ a b. a ∷ b) e g))) [
      | inl l ↦ inl (inr (e, l))
      | inr l ↦ inr (inr (f, l))
    ]))

-- ---- places in ascending lists

-- an earlier point stands before
pub stands_before : (points : List Point) (x : Point) (k : ℕ) → AllPairs IsBefore points → k < length points → Contains points x → IsBefore x (get_or points k []) → (j : ℕ) × (j < k) × (get_or points j [] ≡ x)
stands_before points x k up l (j, m, e) b =
    let at : get_or points j [] ≡ x = same_default points j [] x m ∙ e in
    ⊎_elim
    (λ less. (j, less, at))
    (λ more. ⊎_elim
    (λ same. absurd (before_itself x (subst (λ (y : Point). IsBefore x y) (sym (ap (λ i. get_or points i []) same) ∙ at) b)))
    (λ differ. absurd (before_itself x (before_chain x (get_or points k []) x b (subst (λ (y : Point). IsBefore (get_or points k []) y) at (up k j [] (omega (arith, more, differ)) m)))))
    (cases_eq j k))
    (cases_lt j k)

module _ (set : Set) (points : List Point) (all : AreAllPoints set points) (k : ℕ) (l : k < length points) where
  -- a point without a mirror image of an earlier one is a generator
  pub generator_here : (HasMirrored set points k → ⊥) → IsGenerator set (get_or points k [])
  generator_here none = record {
    is_point = all.each k [] l;
    no_middle = λ x y i j n m. elim (one_earlier x y (get_or points k []) m n) [
      | inl b ↦ early x y i j m b
      | inr b ↦ early y x j i (middle_turned x y (get_or points k []) m) b
    ];
  }
    where
      early : (x y : Point) → IsTrue (has set x) → IsTrue (has set y) → IsMiddle x y (get_or points k []) → IsBefore x (get_or points k []) → ⊥
      early x y i j m b =
          let r = stands_before points x k all.ascending l (all.all x i) b in
          let e : y ≡ mirrored (get_or points k []) (get_or points r.0 []) = middle_mirrored x y (get_or points k []) m ∙ ap (mirrored (get_or points k [])) (sym r.2) in
          none (r.0, r.1, subst (Has set) e ((has_is set y).0 j))

  -- a point with one is none
  pub no_generator_here : HasMirrored set points k → IsGenerator set (get_or points k []) → ⊥
  no_generator_here (j, m, h) g =
      let z = get_or points k [] in
      let x = get_or points j [] in
      let before : IsBefore x z = all.ascending j k [] m l in
      let i = all.each j [] (omega (arith, m, l)) in
      let size : length x ≡ length z = ((has_is set x).0 i).dimension ∙ sym ((has_is set z).0 g.is_point).dimension in
      g.no_middle x (mirrored z x) i ((has_is set (mirrored z x)).1 h) (λ e. before_itself z (subst (λ (y : Point). IsBefore y z) e before)) (mirrored_middle x z size)

-- ---- mirror images, entry by entry

pub mirrored_size : (z x : Point) → length x ≡ length z → length (mirrored z x) ≡ length z
mirrored_size [] x e = refl
mirrored_size (z ∷ zs) [] e = absurd (omega (arith, e))
mirrored_size (z ∷ zs) (x ∷ xs) e = ap suc (mirrored_size zs xs (omega (arith, e)))

mirrored_next : (z x : Point) (k : ℕ) → length x ≡ length z → k < length z → take (suc k) (mirrored z x) ≡ take k (mirrored z x) ++ ((get_or z k (pos 0) +ℤ get_or z k (pos 0)) -ℤ get_or x k (pos 0)) ∷ []
mirrored_next [] x k e l = absurd (omega (arith, l))
mirrored_next (z ∷ zs) [] k e l = absurd (omega (arith, e))
mirrored_next (z ∷ zs) (x ∷ xs) zero e l = refl
mirrored_next (z ∷ zs) (x ∷ xs) (suc k) e l = ap (λ ys. ((z +ℤ z) -ℤ x) ∷ ys) (mirrored_next zs xs k (omega (arith, e)) (omega (arith, l)))

pub mirrored_more : (z x entries : Point) (k : ℕ) (y : ℤ) → length x ≡ length z → k < length z → entries ≡ take k (mirrored z x) → y ≡ (get_or z k (pos 0) +ℤ get_or z k (pos 0)) -ℤ get_or x k (pos 0)
    → entries ++ y ∷ [] ≡ take (k + 1) (mirrored z x)
mirrored_more z x entries k y e l f g = rw (add-one, f, g) (sym (mirrored_next z x k e l))

pub take_more : {X : Type 0} (xs : List X) (i : ℕ) (d : X) → i < length xs → take (i + 1) xs ≡ take i xs ++ get_or xs i d ∷ []
take_more xs i d l = rw add-one (go xs i d l)
  where
    go : {X : Type 0} (xs : List X) (i : ℕ) (d : X) → i < length xs → take (suc i) xs ≡ take i xs ++ get_or xs i d ∷ []
    go [] i d l = absurd (omega (arith, l))
    go (a ∷ xs) zero d l = refl
    go (a ∷ xs) (suc i) d l = ap (λ ys. a ∷ ys) (go xs i d (omega (arith, l)))

-- ---- the generators among the first points

taken_at : (xs : List Point) (k i : ℕ) (d : Point) → i < length (take k xs) → (i < k) × (get_or (take k xs) i d ≡ get_or xs i d)
taken_at [] zero i d l = absurd (omega (arith, l))
taken_at [] (suc k) i d l = absurd (omega (arith, l))
taken_at (x ∷ xs) zero i d l = absurd (omega (arith, l))
taken_at (x ∷ xs) (suc k) zero d l = (omega arith, refl)
taken_at (x ∷ xs) (suc k) (suc i) d l = let r = taken_at xs k i d (omega (arith, l)) in ((let m = r.0 in omega (arith, m)), r.1)

-- a point among the first k comes before the one at k
first_before : (points : List Point) (k : ℕ) (z : Point) → AllPairs IsBefore points → k < length points → Contains (take k points) z → IsBefore z (get_or points k [])
first_before points k z up l (i, m, e) =
    let t = taken_at points k i z m in
    let own : i < length points = (let q = t.0 in omega (arith, q, l)) in
    subst (λ (y : Point). IsBefore y (get_or points k [])) (same_default points i [] z own ∙ sym t.1 ∙ e) (up i k [] t.0 l)

module _ (set : Set) (points : List Point) (all : AreAllPoints set points) (k : ℕ) (l : k < length points) where
  pub listed_skip : (list : List Point) → HasMirrored set points k → AreGeneratorsTo set points k list → AreGeneratorsTo set points (k + 1) list
  listed_skip list mirror h =
      let more = take_more points k [] l in
      record {
        ascending = h.ascending;
        among = λ z c. subst (λ (xs : List Point). Contains xs z) (sym more) (Contains-append_left (take k points) (get_or points k [] ∷ []) z (h.among z c));
        each = h.each;
        all = λ z c g. ⊎_elim
            (λ old. h.all z old g)
            (λ same. absurd (no_generator_here set points all k l mirror (subst (IsGenerator set) (sym same) g)))
            (Contains-push_cases (take k points) (get_or points k []) z (subst (λ (xs : List Point). Contains xs z) more c));
      }

  pub listed_more : (list : List Point) (p : Point) → p ≡ get_or points k [] → (HasMirrored set points k → ⊥) → AreGeneratorsTo set points k list → AreGeneratorsTo set points (k + 1) (list ++ p ∷ [])
  listed_more list p is none h =
      let more = take_more points k [] l in
      let g : IsGenerator set p = subst (IsGenerator set) (sym is) (generator_here set points all k l none) in
      record {
        ascending = all_pairs_push IsBefore list p h.ascending
            (λ i d m. subst (IsBefore (get_or list i d)) (sym is) (first_before points k (get_or list i d) all.ascending l (h.among (get_or list i d) (Contains-get_or list i d m))));
        among = λ z c. subst (λ (xs : List Point). Contains xs z) (sym more) (⊎_elim
            (λ old. Contains-append_left (take k points) (get_or points k [] ∷ []) z (h.among z old))
            (λ same. subst (Contains (take k points ++ get_or points k [] ∷ [])) (sym is ∙ same) (last_among (take k points) (get_or points k [])))
            (Contains-push_cases list p z c));
        each = All-push (IsGenerator set) list p h.each g;
        all = λ z c own. ⊎_elim
            (λ old. Contains-append_left list (p ∷ []) z (h.all z old own))
            (λ same. subst (Contains (list ++ p ∷ [])) (is ∙ same) (last_among list p))
            (Contains-push_cases (take k points) (get_or points k []) z (subst (λ (xs : List Point). Contains xs z) more c));
      }

pub listed_all : (set : Set) (points : List Point) (k : ℕ) (list : List Point) → AreAllPoints set points → length points ≤ k → AreGeneratorsTo set points k list → AreGenerators set list
listed_all set points k list all l h = record {
  ascending = h.ascending;
  each = h.each;
  all = λ z g. h.all z (subst (λ (xs : List Point). Contains xs z) (sym (take_whole points k l)) (all.all z g.is_point)) g;
}
