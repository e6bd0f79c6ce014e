-- The rows by which coordinates are taken are unique.
use Rattle.std.proofs.Common.{◌≡◌, ℕ, zero, suc, ◌*◌, ◌%◌, ◌/◌, ◌<◌, ◌≤◌, ℤ, pos, negsuc, ◌*ℤ◌, ◌<ℤ◌, ◌⊎◌, inl, inr, List, [], ◌∷◌, length, map, refl, sym, ap, subst, ◌∙◌, arith}
use Prim.Native.Nat.{◌∣◌}
use Rattle.std.specs.Int.{IsGcd}
use Rattle.std.specs.Int.RustNames.{unsigned_abs}
use Rattle.std.specs.List.{AllByRecursion}
use Rattle.std.proofs.Math.Nat.{dvd-zero, dvd_trans, dvd_of_mul-dvd-mul_left, dvd-mul_right, mul-one, one-dvd, mul_comm, div-mul_cancel}
use Rattle.std.proofs.lemmas.Int.{ints, unsigned_abs-mul}
use Rattle.std.proofs.lemmas.Bool.{cases_lt}
use Rattle.std.proofs.lemmas.Nat.Gcd.{dvd_refl, dvd_antisymm, IsGcd-from_mod}
use Rattle.std.proofs.lemmas.List.{length-map}
use Rattle.std.proofs.lemmas.List.Elements.{All-from_recursion, recursion_from_All}
use Rattle.av_affine.specs.Numbers.{IsGcdOf}
use Rattle.av_affine.specs.Completion.{IsCompletion, beside_one, beside_two, IsLastOf, unit_row, positions_but, signs_at}
use Rattle.av_flat.specs.declared.timed.Time.{Time}
use Rattle.av_space.proofs.Placed.{rises}
use Rattle.av_space.specs.Coordinates.{AreSpaceRows, Placing, IsPlacing, point, space, ArePlacings}

-- ---- greatest common divisors

gcd_of_two : (n a b : ℕ) → b ≤ n → (g : ℕ) × IsGcd a b g
gcd_of_two n a zero le = (a, (dvd_refl a, dvd-zero a, λ d p q. p))
gcd_of_two zero a (suc b) le = absurd (omega (arith, le))
gcd_of_two (suc n) a (suc b) le =
    let low : a % suc b ≤ n = omega (arith, le) in
    let r = gcd_of_two n (suc b) (a % suc b) low in
    (r.0, IsGcd-from_mod a (suc b) r.0 r.1)

each_divided : (g h : ℕ) (xs : List ℤ) → h ∣ g → AllByRecursion (λ x. g ∣ unsigned_abs x) xs → AllByRecursion (λ x. h ∣ unsigned_abs x) xs
each_divided g h [] d k = tt
each_divided g h (x ∷ xs) d k = (dvd_trans h d k.0, each_divided g h xs d k.1)

gcd_of_list : (xs : List ℤ) → (g : ℕ) × AllByRecursion (λ x. g ∣ unsigned_abs x) xs × ((d : ℕ) → AllByRecursion (λ x. d ∣ unsigned_abs x) xs → d ∣ g)
gcd_of_list [] = (0, tt, λ d h. dvd-zero d)
gcd_of_list (x ∷ xs) =
    let r = gcd_of_list xs in
    let n = unsigned_abs x in
    let s = gcd_of_two n r.0 n (omega arith) in
    (s.0, (s.1.1, each_divided r.0 s.0 xs s.1.0 r.1), λ d h. s.1.2 d (r.2 d h.1) h.0)

-- ---- primitive vectors

abs_times : (g : ℤ) (x : ℤ) → unsigned_abs (g *ℤ x) ≡ unsigned_abs g * unsigned_abs x
abs_times g x = unsigned_abs-mul g x

each_times : (g : ℤ) (v : List ℤ) → AllByRecursion (λ x. unsigned_abs g ∣ unsigned_abs x) (map (λ x. g *ℤ x) v)
each_times g [] = tt
each_times g (x ∷ v) = (subst (λ n. unsigned_abs g ∣ n) (sym (abs_times g x)) (dvd-mul_right (unsigned_abs g) (unsigned_abs x)), each_times g v)

each_part : (g : ℤ) (k : ℕ) (v : List ℤ) → 0 < unsigned_abs g → AllByRecursion (λ x. unsigned_abs g * k ∣ unsigned_abs x) (map (λ x. g *ℤ x) v) → AllByRecursion (λ x. k ∣ unsigned_abs x) v
each_part g k [] some h = tt
each_part g k (x ∷ v) some h = (dvd_of_mul-dvd-mul_left k some (subst (λ n. unsigned_abs g * k ∣ n) (abs_times g x) h.0), each_part g k v some h.1)

-- the factor of a primitive vector is the greatest common divisor
factor_is : (linear v : List ℤ) (g : ℤ) → pos 0 <ℤ g → linear ≡ map (λ x. g *ℤ x) v → IsGcdOf v 1 → (l : ℕ) → AllByRecursion (λ x. l ∣ unsigned_abs x) linear → ((d : ℕ) → AllByRecursion (λ x. d ∣ unsigned_abs x) linear → d ∣ l) → unsigned_abs g ≡ l
factor_is linear v g positive divided primitive l divides greatest = by_factor (greatest (unsigned_abs g) (subst (AllByRecursion (λ x. unsigned_abs g ∣ unsigned_abs x)) (sym divided) (each_times g v)))
  where
    some : 0 < unsigned_abs g
    some = omega (arith, ints, positive)

    by_factor : unsigned_abs g ∣ l → unsigned_abs g ≡ l
    by_factor h =
        let k = l / unsigned_abs g in
        let e : unsigned_abs g * k ≡ l = mul_comm (unsigned_abs g) k ∙ div-mul_cancel (unsigned_abs g) h in
        let all = each_part g k v some (subst (AllByRecursion (λ x. unsigned_abs g * k ∣ unsigned_abs x)) divided (subst (λ n. AllByRecursion (λ x. n ∣ unsigned_abs x) linear) (sym e) divides)) in
        let unit : k ≡ 1 = dvd_antisymm (primitive.greatest k (All-from_recursion (λ x. k ∣ unsigned_abs x) v all)) (one-dvd k) in
        sym (sym e ∙ ap (λ n. unsigned_abs g * n) unit ∙ mul-one (unsigned_abs g))

positive_is : (g h : ℤ) → pos 0 <ℤ g → pos 0 <ℤ h → unsigned_abs g ≡ unsigned_abs h → g ≡ h
positive_is (pos m) (pos n) a b e = ap pos e
positive_is (negsuc m) h a b e = absurd (omega (arith, ints, a))
positive_is (pos m) (negsuc n) a b e = absurd (omega (arith, ints, b))

same_vectors : (g : ℤ) → pos 0 <ℤ g → (v w : List ℤ) → map (λ x. g *ℤ x) v ≡ map (λ x. g *ℤ x) w → v ≡ w
same_vectors g positive [] [] e = refl
same_vectors g positive [] (y ∷ w) e = absurd cc
same_vectors g positive (x ∷ v) [] e = absurd cc
same_vectors g positive (x ∷ v) (y ∷ w) e =
    let first : g *ℤ x ≡ g *ℤ y = cc in
    let rest : map (λ z. g *ℤ z) v ≡ map (λ z. g *ℤ z) w = cc in
    let low = rises g (pos 0) x y positive (omega (arith, ints, first)) in
    let high = rises g (pos 0) y x positive (omega (arith, ints, first)) in
    let same : x ≡ y = omega (arith, ints, low, high) in
    ap (λ z. z ∷ v) same ∙ ap (λ zs. y ∷ zs) (same_vectors g positive v w rest)

one_vector : (linear v w : List ℤ) (g h : ℤ) → pos 0 <ℤ g → pos 0 <ℤ h → linear ≡ map (λ x. g *ℤ x) v → linear ≡ map (λ x. h *ℤ x) w → IsGcdOf v 1 → IsGcdOf w 1 → v ≡ w
one_vector linear v w g h some other dv dw pv pw =
    let l = gcd_of_list linear in
    let same : g ≡ h = positive_is g h some other (factor_is linear v g some dv pv l.0 l.1 l.2 ∙ sym (factor_is linear w h other dw pw l.0 l.1 l.2)) in
    same_vectors g some v w (sym dv ∙ dw ∙ ap (λ k. map (λ x. k *ℤ x) w) (sym same))

-- ---- completions

last_is : (sizes : List ℕ) (v : List ℤ) (p q : ℕ) → IsLastOf sizes v p → IsLastOf sizes v q → p ≡ q
last_is sizes v p q h k = elim (cases_lt p q) [
  | inl less ↦ absurd (h.after q less k.within k.here)
  | inr past ↦ elim (cases_lt q p) [
    | inl less ↦ absurd (k.after p less h.within h.here)
    | inr same ↦ omega (arith, past, same)
  ]
]

one_completion : (v : List ℤ) (a b : List (List ℤ)) → IsCompletion v a → IsCompletion v b → a ≡ b
one_completion v a b (beside_one p h e) (beside_one q k f) =
    e ∙ ap (λ n. v ∷ map (unit_row (length v)) (positions_but (n ∷ []) (length v))) (last_is (1 ∷ []) v p q h k) ∙ sym f
one_completion v a b (beside_one p h e) (beside_two q r none k l f) = absurd (none p h.within h.here)
one_completion v a b (beside_two p q none h k e) (beside_one r l f) = absurd (none r l.within l.here)
one_completion v a b (beside_two p q none h k e) (beside_two r s none' l m f) =
    e ∙ ap (λ n. v ∷ signs_at n q v ∷ map (unit_row (length v)) (positions_but (n ∷ q ∷ []) (length v))) (last_is (3 ∷ []) v p r h l)
    ∙ ap (λ n. v ∷ signs_at r n v ∷ map (unit_row (length v)) (positions_but (r ∷ n ∷ []) (length v))) (last_is (2 ∷ 4 ∷ []) v q s k m) ∙ sym f

one_rows : (linear : List ℤ) (a b : List (List ℤ)) → AreSpaceRows linear a → AreSpaceRows linear b → a ≡ b
one_rows linear a b h k =
    let same = one_vector linear h.vector k.vector h.gcd k.gcd h.positive k.positive h.divided k.divided h.primitive k.primitive in
    let rows = one_completion k.vector (h.vector ∷ a) (k.vector ∷ b) (subst (λ v. IsCompletion v (h.vector ∷ a)) same h.rule) k.rule in
    let rest : a ≡ b = cc in
    rest

no_rows : (linear : List ℤ) (rows : List (List ℤ)) → linear ≡ [] → AreSpaceRows linear rows → ⊥
no_rows linear rows none h = by_rule h.rule (let e : length h.vector ≡ 0 = sym (length-map h.vector (λ x. h.gcd *ℤ x)) ∙ sym (ap length h.divided) ∙ ap length none in e)
  where
    by_rule : IsCompletion h.vector (h.vector ∷ rows) → length h.vector ≡ 0 → ⊥
    by_rule (beside_one p l e) size = let w = l.within in omega (arith, size, w)
    by_rule (beside_two p q n l m e) size = let w = l.within in omega (arith, size, w)

-- ---- placings

rows_are : (p : Placing) → IsPlacing p → ((p.time.linear ≡ []) × (p.rows ≡ [])) ⊎ AreSpaceRows p.time.linear p.rows
rows_are p (point {time} none) = inl (none, refl)
rows_are p (space {time} rows a) = inr a

one_placing : (p q : Placing) → IsPlacing p → IsPlacing q → p.time ≡ q.time → p ≡ q
one_placing p q h k same =
    let rows : p.rows ≡ q.rows = elim (rows_are p h) [
      | inl a ↦ elim (rows_are q k) [
        | inl b ↦ a.1 ∙ sym b.1
        | inr b ↦ absurd (no_rows q.time.linear q.rows (ap (λ (t : Time). t.linear) (sym same) ∙ a.0) b)
      ]
      | inr a ↦ elim (rows_are q k) [
        | inl b ↦ absurd (no_rows p.time.linear p.rows (ap (λ (t : Time). t.linear) same ∙ b.0) a)
        | inr b ↦ one_rows q.time.linear p.rows q.rows (subst (λ (t : Time). AreSpaceRows t.linear p.rows) same a) b
      ]
    ] in
    ap (λ (t : Time). record { time = t; rows = p.rows }) same ∙ ap (λ (rs : List (List ℤ)). record { time = q.time; rows = rs }) rows

placings_from : (a b : List Placing) → map (λ (p : Placing). p.time) a ≡ map (λ (p : Placing). p.time) b → AllByRecursion IsPlacing a → AllByRecursion IsPlacing b → a ≡ b
placings_from [] [] e h k = refl
placings_from [] (q ∷ b) e h k = absurd cc
placings_from (p ∷ a) [] e h k = absurd cc
placings_from (p ∷ a) (q ∷ b) e h k =
    let first : p.time ≡ q.time = cc in
    let rest : map (λ (x : Placing). x.time) a ≡ map (λ (x : Placing). x.time) b = cc in
    ap (λ (x : Placing). x ∷ a) (one_placing p q h.0 k.0 first) ∙ ap (λ (xs : List Placing). q ∷ xs) (placings_from a b rest h.1 k.1)

pub one_placings : (times : List Time) (a b : List Placing) → ArePlacings times a → ArePlacings times b → a ≡ b
one_placings times a b h k = placings_from a b (h.times_are ∙ sym k.times_are) (recursion_from_All IsPlacing a h.each) (recursion_from_All IsPlacing b k.each)
