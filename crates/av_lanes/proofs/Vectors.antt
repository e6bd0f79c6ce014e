-- Vectors of eight lanes, lane by lane.
use Rattle.std.proofs.Common.{◌≡◌, ℕ, zero, suc, ◌+◌, ◌-◌, ◌*◌, ◌/◌, ◌%◌, ◌^◌, ◌<◌, ◌≤◌, List, length, get_or, map, replicate, Bool, true, false, not, cond, eqb, ltb, leb, refl, sym, ◌∙◌, ap, subst, arith, w64, Fits, bit_and, inl, inr, pow_pos, pow_mono, pow-add}
use Rattle.std.specs.Prelude.{◌==◌, nat_lt, if◌then◌else◌}
use lib.Lanes.{zip2, sel_l, mask_l, top, Each1}
use Rattle.std.proofs.Math.Nat.{zero-div, mod-eq_of_lt}
use Rattle.std.proofs.Math.Pow.{mod-mod-pow}
use Rattle.std.proofs.lemmas.Bool.{eqb-true, ltb-true, ltb-false, leb-true, leb-false, lt-ltb, cases_lt}
use Rattle.std.proofs.lemmas.Nat.{and_mask, and_comm, and_le_l, div_below, le-div, mul-add-lt, mul-mod}
use Rattle.std.proofs.lemmas.Simd.{length-zip2, get_or-zip2, get_or-replicate, length-replicate, tops_compared, get_or-sel_l, mask_l-mod, bit_mask_l, Each1-get_or}
use Rattle.av_net.specs.Meaning.{chosen, widened}
use Rattle.av_lanes.proofs.Raised.{twice}

-- an operator on two vectors
pub zip_lane : (f : ℕ → ℕ → ℕ) (xs ys : List ℕ) → length xs ≡ 8 → length ys ≡ 8 → (k : ℕ) → k < 8 → get_or (zip2 f xs ys) k 0 ≡ f (get_or xs k 0) (get_or ys k 0)
zip_lane f xs ys lx ly k lt = get_or-zip2 f xs ys k 0 0 0 (omega arith) (omega arith)

-- and on a vector and one number
pub splat_lane : (f : ℕ → ℕ → ℕ) (xs : List ℕ) (y : ℕ) → length xs ≡ 8 → (k : ℕ) → k < 8 → get_or (zip2 f xs (replicate 8 y)) k 0 ≡ f (get_or xs k 0) y
splat_lane f xs y lx k lt = zip_lane f xs (replicate 8 y) lx (length-replicate 8 y) k lt ∙ ap (f (get_or xs k 0)) (get_or-replicate 8 k y 0 lt)

-- the low bits of each lane
pub low_lane : (xs : List ℕ) (m w : ℕ) → m ≡ 2 ^ w - 1 → length xs ≡ 8 → (k : ℕ) → k < 8 → get_or (zip2 bit_and xs (replicate 8 m)) k 0 ≡ get_or xs k 0 % 2 ^ w
low_lane xs m w is lx k lt = splat_lane bit_and xs m lx k lt ∙ ap (bit_and (get_or xs k 0)) is ∙ and_mask (get_or xs k 0) w

-- what a comparison of two vectors selects
pub selected_lane : (t : ℕ → ℕ → Bool) (xs ys us vs : List ℕ) → length xs ≡ 8 → length ys ≡ 8 → length us ≡ 8 → length vs ≡ 8 → (k : ℕ) → k < 8
    → get_or (sel_l (map (top 63) (zip2 (λ a b. cond (t a b) (2 ^ 64 - 1) 0) xs ys)) us vs) k 0 ≡ cond (t (get_or xs k 0) (get_or ys k 0)) (get_or us k 0) (get_or vs k 0)
selected_lane t xs ys us vs lx ly lu lv k lt =
    let long : length (zip2 t xs ys) ≡ length xs = length-zip2 t xs ys (omega arith) in
    ap (λ ms. get_or (sel_l ms us vs) k 0) (tops_compared w64 t xs ys)
    ∙ get_or-sel_l (zip2 t xs ys) us vs k 0 (omega arith) (omega arith) (omega arith)
    ∙ ap (λ b. cond b (get_or us k 0) (get_or vs k 0)) (get_or-zip2 t xs ys k 0 0 false (omega arith) (omega arith))

-- 1 where the test holds, and else n
abbrev one_or : Bool → ℕ → ℕ
one_or test n = cond test 1 n

abbrev pub one_if : Bool → ℕ
one_if test = cond test 1 0

abbrev pub ones : List ℕ
ones = replicate 8 1

abbrev pub zeros : List ℕ
zeros = replicate 8 0

-- 1 where a comparison holds, and else 0
pub tested_lane : (t : ℕ → ℕ → Bool) (xs ys : List ℕ) → length xs ≡ 8 → length ys ≡ 8 → (k : ℕ) → k < 8
    → get_or (sel_l (map (top 63) (zip2 (λ a b. cond (t a b) (2 ^ 64 - 1) 0) xs ys)) ones zeros) k 0 ≡ one_if (t (get_or xs k 0) (get_or ys k 0))
tested_lane t xs ys lx ly k lt =
    let one : get_or ones k 0 ≡ 1 = get_or-replicate 8 k 1 0 lt in
    let none : get_or zeros k 0 ≡ 0 = get_or-replicate 8 k 0 0 lt in
    let test = t (get_or xs k 0) (get_or ys k 0) in
    selected_lane t xs ys ones zeros lx ly refl refl k lt ∙ ap (λ n. cond test n (get_or zeros k 0)) one ∙ ap (one_or test) none

-- a test whose opposite fails holds
holds : (b : Bool) → not b ≡ false → b ≡ true
holds true h = refl
holds false h = absurd (let e : true ≡ false = h in cc)

-- a bit that is 0 stands for a test that fails
fails : (b : Bool) (n : ℕ) → n ≡ cond b 1 0 → n ≡ 0 → b ≡ false
fails false n h none = refl
fails true n h none = absurd (omega arith)

-- where no lane differs, all are the same
pub same_lane : (xs ys : List ℕ) → length xs ≡ 8 → length ys ≡ 8
    → not (eqb (mask_l (map (top 63) (zip2 (λ a b. cond (not (eqb a b)) (2 ^ 64 - 1) 0) xs ys)) % 2 ^ 64) 0) ≡ false → (k : ℕ) → k < 8 → get_or xs k 0 ≡ get_or ys k 0
same_lane xs ys lx ly none k lt =
    let t : ℕ → ℕ → Bool = λ a b. not (eqb a b) in
    let ms = zip2 t xs ys in
    let long : length ms ≡ length xs = length-zip2 t xs ys (omega arith) in
    let mask : mask_l (map (top 63) (zip2 (λ a b. cond (not (eqb a b)) (2 ^ 64 - 1) 0) xs ys)) % 2 ^ 64 ≡ mask_l ms = ap (λ ms. mask_l ms % 2 ^ 64) (tops_compared w64 t xs ys) ∙ mask_l-mod ms 64 (omega arith) in
    let zero' : mask_l ms ≡ 0 = sym mask ∙ eqb-true _ _ (holds _ none) in
    let bit : mask_l ms / 2 ^ k % 2 ≡ 0 = ap (λ n. n / 2 ^ k % 2) zero' ∙ ap (λ n. n % 2) (zero-div (2 ^ k)) in
    let at : get_or ms k false ≡ t (get_or xs k 0) (get_or ys k 0) = get_or-zip2 t xs ys k 0 0 false (omega arith) (omega arith) in
    eqb-true (get_or xs k 0) (get_or ys k 0) (holds _ (sym at ∙ fails (get_or ms k false) (mask_l ms / 2 ^ k % 2) (bit_mask_l ms k) bit))

-- ---- words below 2^64

-- each lane of a vector is one
pub lane_fits : (xs : List ℕ) → length xs ≡ 8 → Each1 (Fits w64) xs → (k : ℕ) → k < 8 → get_or xs k 0 < 2 ^ 64
lane_fits xs long fits k lt = (Each1-get_or (Fits w64) xs k 0 (omega arith) fits).fits

-- a difference that wraps
abbrev pub less : ℕ → ℕ → ℕ
less x y = (x + (2 ^ 64 - y)) % 2 ^ 64

-- a sum that wraps
abbrev pub more : ℕ → ℕ → ℕ
more x y = (x + y) % 2 ^ 64

-- a shift to the right
abbrev pub down : ℕ → ℕ → ℕ
down x y = x / 2 ^ y

-- all ones where the bit is 1, and else none, cut a word out
one_set : (b w : ℕ) → b < 2 → w < 2 ^ 64 → bit_and (less 0 b) w ≡ chosen b w 0
one_set zero w small fits = omega (arith, and_le_l 0 w)
one_set (suc zero) w small fits = and_comm (2 ^ 64 - 1) w ∙ and_mask w 64 ∙ mod-eq_of_lt fits
one_set (suc (suc b)) w small fits = absurd (omega arith)

pub set_lane : (bits words : List ℕ) → length bits ≡ 8 → length words ≡ 8 → Each1 (Fits w64) words → (k : ℕ) → k < 8 → get_or bits k 0 < 2
    → get_or (zip2 bit_and (zip2 less (replicate 8 0) bits) words) k 0 ≡ chosen (get_or bits k 0) (get_or words k 0) 0
set_lane bits words lb lw fits k lt small =
    let none : List ℕ = replicate 8 0 in
    let long : length (zip2 less none bits) ≡ 8 = length-zip2 less none bits (sym lb) in
    zip_lane bit_and (zip2 less none bits) words long lw k lt
    ∙ ap (λ n. bit_and n (get_or words k 0)) (zip_lane less none bits refl lb k lt ∙ ap (λ n. less n (get_or bits k 0)) (get_or-replicate 8 k 0 0 lt))
    ∙ one_set (get_or bits k 0) (get_or words k 0) small (lane_fits words lw fits k lt)

-- a word and the difference to another give the other
one_chosen : (c a b : ℕ) → c < 2 → a < 2 ^ 64 → b < 2 ^ 64 → more b (chosen c (less a b) 0) ≡ chosen c a b
one_chosen zero a b small la lb = omega arith
one_chosen (suc zero) a b small la lb = omega arith
one_chosen (suc (suc c)) a b small la lb = absurd (omega arith)

pub chosen_lane : (condition first second set : List ℕ) → length first ≡ 8 → Each1 (Fits w64) first → length second ≡ 8 → Each1 (Fits w64) second → length set ≡ 8 → (k : ℕ) → k < 8 → get_or condition k 0 < 2
    → get_or set k 0 ≡ chosen (get_or condition k 0) (get_or (zip2 less first second) k 0) 0
    → get_or (zip2 more second set) k 0 ≡ chosen (get_or condition k 0) (get_or first k 0) (get_or second k 0)
chosen_lane condition first second set lf ff ls fs long k lt small is =
    zip_lane more second set ls long k lt
    ∙ ap (more (get_or second k 0)) (is ∙ ap (λ n. chosen (get_or condition k 0) n 0) (zip_lane less first second lf ls k lt))
    ∙ one_chosen (get_or condition k 0) (get_or first k 0) (get_or second k 0) small (lane_fits first lf ff k lt) (lane_fits second ls fs k lt)

-- ---- orders

-- the difference of words below 2^63 has its highest bit where the first is less
one_small : (a b : ℕ) → a < 2 ^ 63 → b < 2 ^ 63 → down (less a b) 63 ≡ one_if (ltb a b)
one_small a b la lb = by_test (ltb a b) refl
  where
    by_test : (test : Bool) → ltb a b ≡ test → down (less a b) 63 ≡ one_if test
    by_test true e = omega (arith, ltb-true a b e)
    by_test false e = omega (arith, ltb-false a b e)

pub small_lane : (xs ys : List ℕ) → length xs ≡ 8 → length ys ≡ 8 → (k : ℕ) → k < 8 → get_or xs k 0 < 2 ^ 63 → get_or ys k 0 < 2 ^ 63
    → get_or (zip2 down (zip2 less xs ys) (replicate 8 63)) k 0 ≡ one_if (ltb (get_or xs k 0) (get_or ys k 0))
small_lane xs ys lx ly k lt fx fy =
    let long : length (zip2 less xs ys) ≡ 8 = length-zip2 less xs ys (lx ∙ sym ly) ∙ lx in
    splat_lane down (zip2 less xs ys) 63 long k lt
    ∙ ap (λ n. down n 63) (zip_lane less xs ys lx ly k lt)
    ∙ one_small (get_or xs k 0) (get_or ys k 0) fx fy

-- 1 less what the order the other way gives
one_most : (a b : ℕ) → less 1 (one_if (ltb b a)) ≡ one_if (leb a b)
one_most a b = by_test (ltb b a) refl (leb a b) refl
  where
    by_test : (test : Bool) → ltb b a ≡ test → (other : Bool) → leb a b ≡ other → less 1 (one_if test) ≡ one_if other
    by_test true e true f = absurd (let lt = ltb-true b a e in let le = leb-true a b f in omega (arith, lt, le))
    by_test true e false f = refl
    by_test false e true f = refl
    by_test false e false f = absurd (let le = ltb-false b a e in let lt = leb-false a b f in omega (arith, lt, le))

pub most_lane : (xs ys us : List ℕ) → length us ≡ 8 → (k : ℕ) → k < 8 → get_or us k 0 ≡ one_if (ltb (get_or ys k 0) (get_or xs k 0))
    → get_or (zip2 less ones us) k 0 ≡ one_if (leb (get_or xs k 0) (get_or ys k 0))
most_lane xs ys us lu k lt is =
    zip_lane less ones us refl lu k lt
    ∙ ap (λ n. less n (get_or us k 0)) (get_or-replicate 8 k 1 0 lt) ∙ ap (less 1) is
    ∙ one_most (get_or xs k 0) (get_or ys k 0)

-- ---- shifts

pub down_lane : (xs : List ℕ) (s : ℕ) → length xs ≡ 8 → (k : ℕ) → k < 8 → get_or (zip2 down xs (replicate 8 s)) k 0 ≡ get_or xs k 0 / 2 ^ s
down_lane xs s lx k lt = splat_lane down xs s lx k lt

-- the highest bit of a word
pub highest_small : (w a : ℕ) → 1 ≤ w → a < 2 ^ w → a / 2 ^ (w - 1) < 2
highest_small w a some fits =
    let half : 0 < 2 ^ (w - 1) = pow_pos (w - 1) in
    div_below a (2 ^ (w - 1)) 2 half (subst (λ n. a < n) (twice w some) fits)

-- a word and the ones above it, where its highest bit is 1
one_extended : (w by a : ℕ) → 1 ≤ w → w + by ≤ 64 → a < 2 ^ w → more a (chosen (a / 2 ^ (w - 1)) ((2 ^ by - 1) * 2 ^ w) 0) ≡ widened w by a
one_extended w by a some most fits =
    let half : 0 < 2 ^ (w - 1) = pow_pos (w - 1) in
    let whole : more a (chosen (a / 2 ^ (w - 1)) ((2 ^ by - 1) * 2 ^ w) 0) ≡ a + chosen (a / 2 ^ (w - 1)) ((2 ^ by - 1) * 2 ^ w) 0 =
    mod-eq_of_lt (below (a / 2 ^ (w - 1) == 1)) in
    whole ∙ ap (λ n. a + n) (elim (cases_lt a (2 ^ (w - 1))) [
      | inl low ↦
          let none : a / 2 ^ (w - 1) ≡ 0 = (let lt = div_below a (2 ^ (w - 1)) 1 half (omega arith) in omega (arith, lt)) in
          ap (λ n. chosen n ((2 ^ by - 1) * 2 ^ w) 0) none ∙ sym (ap (λ test. if test then 0 else (2 ^ by - 1) * 2 ^ w) (lt-ltb a (2 ^ (w - 1)) low))
      | inr high ↦
          let one : a / 2 ^ (w - 1) ≡ 1 = (let lt = highest_small w a some fits in let le = le-div 1 a (2 ^ (w - 1)) half (omega arith) in omega (arith, lt, le)) in
          ap (λ n. chosen n ((2 ^ by - 1) * 2 ^ w) 0) one ∙ sym (ap (λ test. if test then 0 else (2 ^ by - 1) * 2 ^ w) (not_less (nat_lt a (2 ^ (w - 1))) refl (omega arith)))
    ])
  where
    not_less : (test : Bool) → nat_lt a (2 ^ (w - 1)) ≡ test → 2 ^ (w - 1) ≤ a → nat_lt a (2 ^ (w - 1)) ≡ false
    not_less false e le = e
    not_less true e le = absurd (let lt = ltb-true a (2 ^ (w - 1)) e in omega (arith, lt, le))

    top : a + (2 ^ by - 1) * 2 ^ w < 2 ^ 64
    top =
        let ones : 0 < 2 ^ by = pow_pos by in
        let sum : (2 ^ by - 1) * 2 ^ w + a < 2 ^ w * 2 ^ by = mul-add-lt (2 ^ by - 1) (2 ^ w) a (2 ^ by) (omega arith) fits in
        let size : 2 ^ (w + by) ≡ 2 ^ w * 2 ^ by = pow-add 2 w by in
        let most' : 2 ^ (w + by) ≤ 2 ^ 64 = pow_mono most in
        omega (arith, sum, size, most')

    below : (test : Bool) → a + (if test then (2 ^ by - 1) * 2 ^ w else 0) < 2 ^ 64
    below true = top
    below false = (let t = top in omega (arith, t))

pub extended_lane : (w by : ℕ) (xs set : List ℕ) → 1 ≤ w → w + by ≤ 64 → length xs ≡ 8 → length set ≡ 8 → (k : ℕ) → k < 8 → get_or xs k 0 < 2 ^ w
    → get_or set k 0 ≡ chosen (get_or xs k 0 / 2 ^ (w - 1)) ((2 ^ by - 1) * 2 ^ w) 0 → get_or (zip2 more xs set) k 0 ≡ widened w by (get_or xs k 0)
extended_lane w by xs set some most lx ls k lt fits is =
    zip_lane more xs set lx ls k lt ∙ ap (more (get_or xs k 0)) is ∙ one_extended w by (get_or xs k 0) some most fits

-- ---- products

-- a number has the same low bits as its low half
half_bits : (n w : ℕ) → w ≤ 32 → n % 2 ^ 32 % 2 ^ w ≡ n % 2 ^ w
half_bits n w few =
    let whole : (32 - w) + w ≡ 32 = omega arith in
    subst (λ k. n % 2 ^ k % 2 ^ w ≡ n % 2 ^ w) whole (mod-mod-pow n (32 - w) w)

-- the low bits of a product are those of the product of the low halves
pub low_product : (a b x y w : ℕ) → w ≤ 32 → x ≡ a % 2 ^ 32 → y ≡ b % 2 ^ 32 → (x * y) % 2 ^ w ≡ (a * b) % 2 ^ w
low_product a b x y w few is is' =
    mul-mod x y (2 ^ w)
    ∙ ap (λ n. (n * (y % 2 ^ w)) % 2 ^ w) (ap (λ n. n % 2 ^ w) is ∙ half_bits a w few)
    ∙ ap (λ n. (a % 2 ^ w * n) % 2 ^ w) (ap (λ n. n % 2 ^ w) is' ∙ half_bits b w few)
    ∙ sym (mul-mod a b (2 ^ w))
