-- What linear parts cost at nodes: sums over the first nodes, the least of the rest, and what prices say of the order.
use Rattle.std.proofs.Common.{◌≡◌, ◌≢◌, ◌↔◌, ℕ, zero, suc, ◌+◌, ◌*◌, ◌-◌, ◌^◌, ◌<◌, ◌≤◌, ◌⊎◌, inl, inr, ⊎_elim, Bool, true, false, cond, Option, Some, None, List, [], ◌∷◌, ◌++◌, map, length, take, drop, get_or, refl, sym, ap, ap₂, subst, ◌∙◌, arith, All, get_or-set_same, get_or-set_other, length-append, unsigned_abs}
use Rattle.std.proofs.Math.Seq.{drop-cons}
use Rattle.av_sched.proofs.Listing.{get_push, get_last}
use Rattle.av_sched.proofs.Steps.{take_more}
use Rattle.av_sched.proofs.Inside.{vectors_of}
use Rattle.av_affine.specs.Numbers.{AtMost}
use Rattle.std.proofs.lemmas.Bool.Decides.{nat_tests}
use Rattle.std.specs.Prelude.{Contains, filter, not, ◌&&◌, sum, sum_by, slice_get, slice_set, slice_index_or, nat_lt, IsTrue}
use Rattle.std.specs.List.{flat_map}
use Rattle.std.proofs.lemmas.Bool.{cases_eq}
use Rattle.std.proofs.lemmas.List.Sums.{sum_by-cons, sum-map, sum_by_more}
use Rattle.std.proofs.lemmas.List.Elements.{All-head, All-tail, All-weaker}
use Rattle.av_tree.specs.Points.{Point}
use Rattle.av_flat.specs.Trees.{FlatSystem}
use Rattle.av_flat.specs.Nodes.{nodes}
use Rattle.av_flat.specs.Schedules.{IsLinearPart}
use Rattle.av_flat.specs.Broadcasts.{Reference, along, is_broadcast, is_moved}
use Rattle.av_sched.specs.declared.price.Price.{Price}
use Rattle.av_sched.specs.declared.price.PricedChoice.{PricedChoice}
use Rattle.av_sched.specs.Offsets.{part}
use Rattle.av_sched.specs.Choices.{AreLinearParts}
use Rattle.av_sched.specs.Order.{references_of, left_still, size_of, cost, IsLess, entry_rank}
use Rattle.av_sched.specs.Parts.{Agrees, AreParts, AreAllParts}
use Rattle.av_sched.specs.inner.Walk.{IsBarred, known, IsRated, IsAbove}
use Rattle.av_sched.specs.inner.Ways.{ways_of, still_among}
use Rattle.av_sched.specs.Prices.{left_at, IsPriceAt, ArePricesAt, ArePricesTo, IsSpent, IsFloor, AreFloorsTo}
use Rattle.av_sched.proofs.Tries.{SameIn}
use Rattle.av_base.proofs.Lists.{same_default, there_is}

-- ---- broadcasts that are not moved

-- those that are broadcasts and not moved are those among the broadcasts that are not moved
pub still_left : (a : Point) (refs : List Reference) → length (filter (λ r. is_broadcast r.map && not (is_moved a r.map)) refs) ≡ still_among (ways_of refs) a
still_left a [] = refl
still_left a (r ∷ refs) = by_both (still_left a refs) (is_broadcast r.map) (is_moved a r.map) refl refl
  where
    by_both : length (filter (λ r. is_broadcast r.map && not (is_moved a r.map)) refs) ≡ still_among (ways_of refs) a → (b m : Bool) → is_broadcast r.map ≡ b → is_moved a r.map ≡ m
        → length (cond (is_broadcast r.map && not (is_moved a r.map)) (r ∷ filter (λ r. is_broadcast r.map && not (is_moved a r.map)) refs) (filter (λ r. is_broadcast r.map && not (is_moved a r.map)) refs))
        ≡ still_among (map (λ r. along r.map) (cond (is_broadcast r.map) (r ∷ filter (λ r. is_broadcast r.map) refs) (filter (λ r. is_broadcast r.map) refs))) a
    by_both h true true p q = rw (p, q) h
    by_both h true false p q = rw (p, q) (ap suc h)
    by_both h false m p q = rw p h

-- ---- sums

pub sum_same : (f g : ℕ → ℕ) (xs : List ℕ) → All (λ n. f n ≡ g n) xs → sum_by f xs ≡ sum_by g xs
sum_same f g [] h = refl
sum_same f g (x ∷ xs) h = sum_by-cons f x xs ∙ ap₂ (λ a b. a + b) (All-head (λ n. f n ≡ g n) x xs h) (sum_same f g xs (All-tail (λ n. f n ≡ g n) x xs h)) ∙ sym (sum_by-cons g x xs)

pub sum_split : (f : ℕ → ℕ) (xs : List ℕ) (k : ℕ) → sum_by f xs ≡ sum_by f (take k xs) + sum_by f (drop k xs)
sum_split f xs zero = omega arith
sum_split f [] (suc k) = refl
sum_split f (x ∷ xs) (suc k) =
    let a = sum_by-cons f x xs in
    let b = sum_by-cons f x (take k xs) in
    let c = sum_split f xs k in
    omega (arith, a, b, c)

taken : (xs : List ℕ) (k i d : ℕ) → i < length (take k xs) → (i < k) × (get_or (take k xs) i d ≡ get_or xs i 0)
taken [] zero i d l = absurd (omega (arith, l))
taken [] (suc k) i d l = absurd (omega (arith, l))
taken (x ∷ xs) zero i d l = absurd (omega (arith, l))
taken (x ∷ xs) (suc k) zero d l = (omega arith, refl)
taken (x ∷ xs) (suc k) (suc i) d l = let r = taken xs k i d (omega (arith, l)) in ((let m = r.0 in omega (arith, m)), r.1)

length_taken : (xs : List ℕ) (k : ℕ) → k ≤ length xs → length (take k xs) ≡ k
length_taken xs zero l = refl
length_taken [] (suc k) l = absurd (omega (arith, l))
length_taken (x ∷ xs) (suc k) l = ap suc (length_taken xs k (omega (arith, l)))

agrees_taken : (component : List ℕ) (k : ℕ) (linear other : List Point) → Agrees component k linear other → SameIn (take k component) linear other
agrees_taken component k linear other h = λ i d l.
    let t = taken component k i d l in
    subst (λ (m : ℕ). part other m ≡ part linear m) (sym t.1) (h i t.0)

module _ (s : FlatSystem) where
  left_same : (ns : List ℕ) (a b : List Point) → SameIn ns a b → sum_by (left_still s b) ns ≡ sum_by (left_still s a) ns
  left_same ns a b h = sum_same (left_still s b) (left_still s a) ns (λ i d l. ap (left_at s (get_or ns i d)) (h i d l))

  size_same : (ns : List ℕ) (a b : List Point) → SameIn ns a b → sum_by (λ n. size_of (part b n)) ns ≡ sum_by (λ n. size_of (part a n)) ns
  size_same ns a b h = sum_same (λ n. size_of (part b n)) (λ n. size_of (part a n)) ns (λ i d l. ap size_of (h i d l))

  pub spent_same : (ns : List ℕ) (a b : List Point) (p : Price) → SameIn ns a b → IsSpent s a ns p → IsSpent s b ns p
  spent_same ns a b p h e = record { left = e.left ∙ sym (left_same ns a b h); size = e.size ∙ sym (size_same ns a b h); left_small = e.left_small; size_small = e.size_small }

  pub spent_none : (linear : List Point) (p : Price) → p.left ≡ 0 → p.size ≡ 0 → IsSpent s linear [] p
  spent_none linear p a b = record { left = a; size = b; left_small = omega (arith, a); size_small = omega (arith, b) }

  -- the part of one node more
  pub spent_more : (component : List ℕ) (k : ℕ) (start : List Point) (v : Point) (spent own new : Price) → k < length component
      → slice_index_or component k 0 < length start → ((j : ℕ) → j < k → slice_index_or component j 0 ≢ slice_index_or component k 0)
      → IsSpent s start (take k component) spent → IsPriceAt s (slice_index_or component k 0) v own → new.left ≡ spent.left + own.left → new.size ≡ spent.size + own.size
      → IsSpent s (slice_set start (slice_index_or component k 0) v) (take (k + 1) component) new
  spent_more component k start v spent own new l fits apart h price left size =
      let n = slice_index_or component k 0 in
      let next = slice_set start n v in
      let same : SameIn (take k component) start next = λ i d m.
      let t = taken component k i d m in
      subst (λ (j : ℕ). part next j ≡ part start j) (sym t.1) (get_or-set_other start n (slice_index_or component i 0) v [] (apart i t.0)) in
      let before = spent_same (take k component) start next spent same h in
      let here : part next n ≡ v = get_or-set_same start n v [] fits in
      let own_left : left_still s next n ≡ left_at s n v = ap (left_at s n) here in
      let own_size : size_of (part next n) ≡ size_of v = ap size_of here in
      let more_left = sum_by_more (left_still s next) component k 0 l in
      let more_size = sum_by_more (λ m. size_of (part next m)) component k 0 l in
      let many = length_taken component k (omega (arith, l)) in
      let many' = length_taken component (k + 1) (omega (arith, l)) in
      let bl = before.left in
      let bs = before.size in
      let ls = h.left_small in
      let ss = h.size_small in
      let pl = price.left in
      let ps = price.size in
      let pls = price.left_small in
      let pss = price.size_small in
      let fewer : spent.left ≤ k * 18446744073709551615 = subst (λ (m : ℕ). spent.left ≤ m * 18446744073709551615) many ls in
      let fewer' : spent.size ≤ k * 18446744073709551615 = subst (λ (m : ℕ). spent.size ≤ m * 18446744073709551615) many ss in
      record {
        left = omega (arith, left, bl, pl, own_left, more_left);
        size = omega (arith, size, bs, ps, own_size, more_size);
        left_small = subst (λ (m : ℕ). new.left ≤ m * 18446744073709551615) (sym many') (omega (arith, fewer, pls, left));
        size_small = subst (λ (m : ℕ). new.size ≤ m * 18446744073709551615) (sym many') (omega (arith, fewer', pss, size));
      }

  -- nothing overflows
  pub spent_fits : (component : List ℕ) (k : ℕ) (linear : List Point) (spent own : Price) (n : ℕ) (v : Point) → k ≤ length component → k < 2 ^ 64 → IsSpent s linear (take k component) spent → IsPriceAt s n v own
      → (spent.left + own.left < 2 ^ 128) × (spent.size + own.size < 2 ^ 128)
  spent_fits component k linear spent own n v l small h price =
      let many = length_taken component k l in
      let fewer : spent.left ≤ k * 18446744073709551615 = subst (λ (m : ℕ). spent.left ≤ m * 18446744073709551615) many h.left_small in
      let fewer' : spent.size ≤ k * 18446744073709551615 = subst (λ (m : ℕ). spent.size ≤ m * 18446744073709551615) many h.size_small in
      let pls = price.left_small in
      let pss = price.size_small in
      (omega (arith, fewer, small, pls), omega (arith, fewer', small, pss))

  -- ---- what is too dear

  above_not : (v d w b : ℕ) (xs ys : List ℕ) → (w < v) ⊎ ((w ≤ v) × (b < d)) → IsLess (v ∷ d ∷ xs) (w ∷ b ∷ ys) → ⊥
  above_not v d w b xs ys (inl h) (inl l) = omega (arith, h, l)
  above_not v d w b xs ys (inl h) (inr l) = let e = l.0 in omega (arith, h, e)
  above_not v d w b xs ys (inr h) (inl l) = let f = h.0 in omega (arith, f, l)
  above_not v d w b xs ys (inr h) (inr (e, inl l)) = let f = h.1 in omega (arith, f, l)
  above_not v d w b xs ys (inr h) (inr (e, inr l)) = let f = h.1 in let g = l.0 in omega (arith, f, g)

  -- a choice that begins so comes not before one whose price is less than what was spent and the least of the rest
  pub dear_later : (c : ℕ) (component : List ℕ) (k : ℕ) (linear parts : List Point) (spent rest price : Price) → IsSpent s linear (take k component) spent → IsFloor s c (drop k component) rest → IsSpent s parts component price
      → (price.left < spent.left + rest.left) ⊎ ((price.left ≤ spent.left + rest.left) × (price.size < spent.size + rest.size))
      → (other : List Point) → AreLinearParts s c other → Agrees component k linear other → IsLess (cost s component other) (cost s component parts) → ⊥
  dear_later c component k linear parts spent rest price h floor rated above other are agrees less =
      let same = spent_same (take k component) linear other spent (agrees_taken component k linear other agrees) h in
      let sl = same.left in
      let ss = same.size in
      let fl = floor.left other are in
      let fs = floor.size other are in
      let left = sum_split (left_still s other) component k in
      let size = sum_split (λ n. size_of (part other n)) component k in
      let lm = sum-map (left_still s other) component in
      let sm = sum-map (λ n. size_of (part other n)) component in
      let bl = rated.left ∙ sym (sum-map (left_still s parts) component) in
      let bs = rated.size ∙ sym (sum-map (λ n. size_of (part parts n)) component) in
      let v = sum (map (left_still s other) component) in
      let d = sum (map (λ n. size_of (part other n)) component) in
      let w = sum (map (left_still s parts) component) in
      let b = sum (map (λ n. size_of (part parts n)) component) in
      let low : spent.left + rest.left ≤ v = omega (arith, sl, fl, left, lm) in
      let low' : spent.size + rest.size ≤ d = omega (arith, ss, fs, size, sm) in
      above_not v d w b (map entry_rank _) (map entry_rank _)
      (⊎_elim (λ h. inl (omega (arith, h, low, bl))) (λ h. let p = h.0 in let q = h.1 in inr (omega (arith, p, low, bl), omega (arith, q, low', bs))) above) less

  pub above_barred : (c : ℕ) (component : List ℕ) (k : ℕ) (linear : List Point) (spent rest : Price) (best : Option PricedChoice) → IsSpent s linear (take k component) spent → IsFloor s c (drop k component) rest → IsRated s component best
      → IsAbove spent rest best → IsBarred s c component k linear (known best)
  above_barred c component k linear spent rest None h floor rated above = absurd above
  above_barred c component k linear spent rest (Some best) h floor rated above = λ other are agrees f less. dear_later c component k linear best.parts.items spent rest best.price h floor rated above other are agrees less

  -- ---- the order by prices

  module _ (component : List ℕ) (linear : List Point) (spent : Price) (parts : List Point) (price : Price) (h : IsSpent s linear component spent) (rated : IsSpent s parts component price) where
    own_left : sum (map (left_still s linear) component) ≡ spent.left
    own_left = sum-map (left_still s linear) component ∙ sym h.left

    own_size : sum (map (λ n. size_of (part linear n)) component) ≡ spent.size
    own_size = sum-map (λ n. size_of (part linear n)) component ∙ sym h.size

    other_left : sum (map (left_still s parts) component) ≡ price.left
    other_left = sum-map (left_still s parts) component ∙ sym rated.left

    other_size : sum (map (λ n. size_of (part parts n)) component) ≡ price.size
    other_size = sum-map (λ n. size_of (part parts n)) component ∙ sym rated.size

    pub by_left : spent.left ≢ price.left → (spent.left < price.left) ↔ IsLess (cost s component linear) (cost s component parts)
    by_left d = (
      (λ l. inl (omega (arith, own_left, other_left, l))),
      (λ less. ⊎_elim (λ l. omega (arith, own_left, other_left, l)) (λ e. absurd (d (sym own_left ∙ e.0 ∙ other_left))) less),
    )

    pub by_size : spent.left ≡ price.left → spent.size ≢ price.size → (spent.size < price.size) ↔ IsLess (cost s component linear) (cost s component parts)
    by_size e d = (
      (λ l. inr (own_left ∙ e ∙ sym other_left, inl (omega (arith, own_size, other_size, l)))),
      (λ less. ⊎_elim (λ l. absurd (omega (arith, own_left, other_left, l, e))) (λ r. ⊎_elim (λ l. omega (arith, own_size, other_size, l)) (λ q. absurd (d (sym own_size ∙ q.0 ∙ other_size))) r.1) less),
    )

    pub by_ranks : spent.left ≡ price.left → spent.size ≡ price.size
        → IsLess (map entry_rank (flat_map (part linear) component)) (map entry_rank (flat_map (part parts) component)) ↔ IsLess (cost s component linear) (cost s component parts)
    by_ranks e f = (
      (λ l. inr (own_left ∙ e ∙ sym other_left, inr (own_size ∙ f ∙ sym other_size, l))),
      (λ less. ⊎_elim (λ l. absurd (omega (arith, own_left, other_left, l, e))) (λ r. ⊎_elim (λ l. absurd (omega (arith, own_size, other_size, l, f))) (λ q. q.1) r.1) less),
    )

  -- ---- prices of the parts of a node

  pub price_at : (n : ℕ) (ways : List (List Point)) (a : Point) (p : Price) → ways ≡ ways_of (references_of (slice_get (nodes s) n)) → p.left ≡ still_among ways a → p.size ≡ sum_by unsigned_abs a → p.left < 2 ^ 64 → p.size < 2 ^ 64 → IsPriceAt s n a p
  price_at n ways a p e left size l m = record {
    left = left ∙ ap (λ ws. still_among ws a) e ∙ sym (still_left a (references_of (slice_get (nodes s) n)));
    size = size ∙ sym (sum-map unsigned_abs a);
    left_small = l;
    size_small = m;
  }

  pub prices_none : (n : ℕ) → ArePricesAt s n [] []
  prices_none n = record { one_each = refl; each = λ i d l. absurd (omega (arith, l)) }

  pub prices_more : (n i : ℕ) (parts : List Point) (prices : List Price) (a : Point) (p : Price) → i < length parts → a ≡ get_or parts i a → IsPriceAt s n a p → ArePricesAt s n (take i parts) prices → ArePricesAt s n (take (i + 1) parts) (prices ++ p ∷ [])
  prices_more n i parts prices a p l is own h = subst (λ (xs : List Point). ArePricesAt s n xs (prices ++ p ∷ [])) (sym (take_more parts i a a l is refl)) (record {
    one_each = (let x = length-append prices (p ∷ []) in let y = length-append (take i parts) (a ∷ []) in let z = h.one_each in omega (arith, x, y, z));
    each = λ j d m. ⊎_elim
        (λ q.
        let q' : j ≡ length prices = q ∙ sym h.one_each in
        let x : slice_index_or (take i parts ++ a ∷ []) j [] ≡ a = ap (λ k. slice_index_or (take i parts ++ a ∷ []) k []) q ∙ get_last (take i parts) a [] in
        let y : slice_index_or (prices ++ p ∷ []) j d ≡ p = ap (λ k. slice_index_or (prices ++ p ∷ []) k d) q' ∙ get_last prices p d in
        rw (x, y) own)
        (λ q.
        let b : j < length (take i parts) = (let y = length-append (take i parts) (a ∷ []) in omega (arith, m, q, y)) in
        let b' : j < length prices = (let z = h.one_each in omega (arith, b, z)) in
        rw (get_push (take i parts) a [] j b, get_push prices p d j b') (h.each j d b))
        (cases_eq j (length (take i parts)));
  })

  pub lists_priced : (component : List ℕ) (k : ℕ) (lists : List (List Point)) (prices : List (List Price)) (list : List Point) (new : List Price) → k < length component → length lists ≡ length component → list ≡ slice_index_or lists k list
      → ArePricesAt s (slice_index_or component k 0) list new → ArePricesTo s component k lists prices → ArePricesTo s component (k + 1) lists (prices ++ new ∷ [])
  lists_priced component k lists prices list new l same is own h = record {
    one_each = (let x = length-append prices (new ∷ []) in let z = h.one_each in omega (arith, x, z));
    each = λ j m. ⊎_elim
        (λ q.
        let x : slice_index_or (prices ++ new ∷ []) j [] ≡ new = ap (λ k. slice_index_or (prices ++ new ∷ []) k []) (q ∙ sym h.one_each) ∙ get_last prices new [] in
        let y : list ≡ slice_index_or lists j [] = is ∙ same_default lists k list [] (omega (arith, l, same)) ∙ ap (λ i. slice_index_or lists i []) (sym q) in
        let n : slice_index_or component k 0 ≡ slice_index_or component j 0 = ap (λ i. slice_index_or component i 0) (sym q) in
        subst (ArePricesAt s (slice_index_or component j 0) (slice_index_or lists j [])) (sym x)
        (subst (λ (xs : List Point). ArePricesAt s (slice_index_or component j 0) xs new) y (subst (λ (i : ℕ). ArePricesAt s i list new) n own)))
        (λ q. let b : j < k = omega (arith, m, q) in
        subst (ArePricesAt s (slice_index_or component j 0) (slice_index_or lists j [])) (sym (get_push prices new [] j (let z = h.one_each in omega (arith, b, z)))) (h.each j b))
        (cases_eq j k);
  }

  -- ---- the least of the last nodes

  pub floor_none : (c : ℕ) (p : Price) → p.left ≡ 0 → p.size ≡ 0 → IsFloor s c [] p
  floor_none c p a b = record { left = λ other are. omega (arith, a); size = λ other are. omega (arith, b) }

  pub floor_more : (c n : ℕ) (ns : List ℕ) (parts : List Point) (prices : List Price) (least floor new : Price) → n < length (nodes s) → AreParts s c n parts → ArePricesAt s n parts prices
      → All (λ p. least.left ≤ p.left) prices → All (λ p. least.size ≤ p.size) prices → IsFloor s c ns floor → new.left ≤ least.left + floor.left → new.size ≤ least.size + floor.size → IsFloor s c (n ∷ ns) new
  floor_more c n ns parts prices least floor new l valid priced lefts sizes h left size = record {
    left = λ other are.
        let r = at other are in
        let p = get_or prices r.0 least in
        let own = priced.each r.0 least r.1 in
        let e : p.left ≡ left_still s other n = own.left ∙ ap (left_at s n) (at_part other are) in
        let q = lefts r.0 least (within other are) in
        let f = h.left other are in
        let t = sum_by-cons (left_still s other) n ns in
        omega (arith, left, e, q, f, t);
    size = λ other are.
        let r = at other are in
        let p = get_or prices r.0 least in
        let own = priced.each r.0 least r.1 in
        let e : p.size ≡ size_of (part other n) = own.size ∙ ap size_of (at_part other are) in
        let q = sizes r.0 least (within other are) in
        let f = h.size other are in
        let t = sum_by-cons (λ n. size_of (part other n)) n ns in
        omega (arith, size, e, q, f, t);
  }
    where
      at : (other : List Point) → AreLinearParts s c other → Contains parts (part other n)
      at other are = let v = there_is (nodes s) n l in valid.all v.0 v.1 (part other n) (are.each n v.0 v.1)

      within : (other : List Point) (are : AreLinearParts s c other) → (at other are).0 < length prices
      within other are = let i = (at other are).1 in let z = priced.one_each in omega (arith, i, z)

      at_part : (other : List Point) (are : AreLinearParts s c other) → slice_index_or parts (at other are).0 [] ≡ part other n
      at_part other are = same_default parts (at other are).0 [] (part other n) (at other are).1 ∙ (at other are).2

  pub dropped : (xs : List ℕ) (k : ℕ) → k < length xs → drop k xs ≡ get_or xs k 0 ∷ drop (suc k) xs
  dropped xs k l = drop-cons xs k 0 l

  pub floors_first : (c : ℕ) (component : List ℕ) (p : Price) → p.left ≡ 0 → p.size ≡ 0 → IsFloor s c (drop (length component - 0) component) p
  floors_first c component p a b = subst (λ (ns : List ℕ). IsFloor s c ns p) (sym (all component)) (floor_none c p a b)
    where
      whole : (xs : List ℕ) → drop (length xs) xs ≡ []
      whole [] = refl
      whole (x ∷ xs) = whole xs

      all : (xs : List ℕ) → drop (length xs - 0) xs ≡ []
      all xs = let z : length xs - 0 ≡ length xs = omega arith in ap (λ n. drop n xs) z ∙ whole xs

  pub floors_push : (c : ℕ) (component : List ℕ) (k : ℕ) (floors : List Price) (p : Price) → AreFloorsTo s c component k floors → IsFloor s c (drop (length component - (k + 1)) component) p → AreFloorsTo s c component (k + 1) (floors ++ p ∷ [])
  floors_push c component k floors p h own = record {
    one_each = (let x = length-append floors (p ∷ []) in let z = h.one_each in omega (arith, x, z));
    each = λ j d m. ⊎_elim
        (λ q.
        let x : slice_index_or (floors ++ p ∷ []) j d ≡ p = ap (λ i. slice_index_or (floors ++ p ∷ []) i d) (q ∙ sym h.one_each) ∙ get_last floors p d in
        subst (IsFloor s c (drop (length component - j) component)) (sym x) (subst (λ (i : ℕ). IsFloor s c (drop (length component - i) component) p) (sym q) own))
        (λ q. let b : j < k + 1 = omega (arith, m, q) in
        subst (IsFloor s c (drop (length component - j) component)) (sym (get_push floors p d j (let z = h.one_each in omega (arith, b, z)))) (h.each j d b))
        (cases_eq j (k + 1));
  }

  pub floors_one : (c : ℕ) (component : List ℕ) (floors : List Price) (p : Price) → floors ≡ p ∷ [] → IsFloor s c (drop (length component - 0) component) p → AreFloorsTo s c component 0 floors
  floors_one c component floors p e h = subst (AreFloorsTo s c component 0) (sym e) (record { one_each = refl; each = λ j d m. let z : j ≡ 0 = omega (arith, m) in subst (λ (i : ℕ). IsFloor s c (drop (length component - i) component) (slice_index_or (p ∷ []) i d)) (sym z) h })

  -- a node before the last k
  pub floors_next : (c : ℕ) (component : List ℕ) (k : ℕ) (lists : List (List Point)) (prices : List (List Price)) (list : List Price) (least floor new : Price) → k < length component → All (λ n. n < length (nodes s)) component → AreAllParts s c component lists
      → ArePricesTo s component (length component) lists prices → list ≡ slice_index_or prices (length prices - 1 - k) list → All (λ p. least.left ≤ p.left) list → All (λ p. least.size ≤ p.size) list
      → IsFloor s c (drop (length component - k) component) floor → new.left ≤ least.left + floor.left → new.size ≤ least.size + floor.size → IsFloor s c (drop (length component - (k + 1)) component) new
  floors_next c component k lists prices list least floor new l within all priced is lefts sizes h left size =
      let m = length component in
      let j = m - (k + 1) in
      let fits : j < m = omega (arith, l) in
      let same : length prices - 1 - k ≡ j = (let z = priced.one_each in omega (arith, z)) in
      let next : suc j ≡ m - k = omega (arith, l) in
      let n = get_or component j 0 in
      let own : list ≡ slice_index_or prices j [] = is ∙ ap (λ i. slice_index_or prices i list) same ∙ same_default prices j list [] (let z = priced.one_each in omega (arith, fits, z)) in
      let node : n < length (nodes s) = within j 0 fits in
      let before : IsFloor s c (drop (suc j) component) floor = subst (λ (i : ℕ). IsFloor s c (drop i component) floor) (sym next) h in
      subst (λ (ns : List ℕ). IsFloor s c ns new) (sym (dropped component j fits))
      (floor_more c n (drop (suc j) component) (slice_index_or lists j []) list least floor new node (all.each j fits)
      (subst (ArePricesAt s n (slice_index_or lists j [])) (sym own) (priced.each j fits)) lefts sizes before left size)

  -- the floor that stands for the nodes from a level on
  pub floor_at : (c : ℕ) (component : List ℕ) (floors : List Price) (level k : ℕ) (p : Price) → AreFloorsTo s c component (length component) floors → level ≤ length component → k ≡ length component - level → p ≡ get_or floors k p
      → IsFloor s c (drop level component) p
  floor_at c component floors level k p h l same is =
      let within : k < length component + 1 = omega (arith, same) in
      let back : length component - k ≡ level = omega (arith, same, l) in
      subst (IsFloor s c (drop level component)) (sym is) (subst (λ (i : ℕ). IsFloor s c (drop i component) (get_or floors k p)) back (h.each k p within))

  -- the part that is tried next
  pub price_there : (n : ℕ) (list items : List Point) (prs priced : List Price) (i : ℕ) (p v : Point) → ArePricesAt s n list prs → items ≡ list → priced ≡ prs → i < length items → p ≡ get_or items i p → v ≡ p → (d : Price) → IsPriceAt s n v (get_or priced i d)
  price_there n list items prs priced i p v h e f l is same d =
      let l' : i < length list = subst (λ (xs : List Point). i < length xs) e l in
      let own = h.each i d l' in
      let at : v ≡ slice_index_or list i [] = same ∙ is ∙ same_default items i p [] l ∙ ap (λ xs. slice_index_or xs i []) e in
      subst (λ (xs : List Price). IsPriceAt s n v (get_or xs i d)) (sym f) (subst (λ (a : Point). IsPriceAt s n a (slice_index_or prs i d)) (sym at) own)

  pub spent_next : (component : List ℕ) (k : ℕ) (start next : List Point) (v : Point) (spent own new : Price) → k < length component → slice_index_or component k 0 < length start → ((j : ℕ) → j < k → slice_index_or component j 0 ≢ slice_index_or component k 0)
      → slice_set start (slice_index_or component k 0) v ≡ next → IsSpent s start (take k component) spent → IsPriceAt s (slice_index_or component k 0) v own → new.left ≡ spent.left + own.left → new.size ≡ spent.size + own.size → IsSpent s next (take (k + 1) component) new
  spent_next component k start next v spent own new l fits apart e h price left size = subst (λ (xs : List Point). IsSpent s xs (take (k + 1) component) new) e (spent_more component k start v spent own new l fits apart h price left size)

  pub small_parts : (c : ℕ) (linear : List Point) → c ≤ 4 → AreLinearParts s c linear → All (AtMost 4) linear
  small_parts c linear wide are = λ k d l.
      subst (AtMost 4) (same_default linear k [] d l) ((vectors_of s c linear wide are).entries k (let z = are.one_each in omega (arith, l, z)))

  -- all entries of the parts of the component's nodes are small
  pub small_lists : (c : ℕ) (component : List ℕ) (lists : List (List Point)) → c ≤ 4 → All (λ n. n < length (nodes s)) component → AreAllParts s c component lists → All (All (AtMost 4)) lists
  small_lists c component lists wide within all = λ k d l.
      let m : k < length component = (let z = all.one_each in omega (arith, l, z)) in
      let v = there_is (nodes s) (get_or component k 0) (within k 0 m) in
      subst (All (AtMost 4)) (same_default lists k [] d l)
      (All-weaker (IsLinearPart c v.0.domain.dim) (AtMost 4) (λ a h. All-weaker (λ x. unsigned_abs x ≤ c) (λ x. unsigned_abs x ≤ 4) (λ x p. omega (arith, p, wide)) a h.entries) (slice_index_or lists k [])
      ((all.each k m).valid v.0 v.1))

-- ---- tests

pub less_test : (a b : ℕ) → IsTrue (nat_lt a b) ↔ (a < b)
less_test a b = ((λ t. grind (arith, nat_tests)), (λ l. grind (arith, nat_tests)))
