-- The part with a number of a tree, by the parts of what it is made from.
use Rattle.std.proofs.Common.{◌≡◌, ℕ, zero, suc, ◌+◌, ◌-◌, ◌*◌, ◌/◌, ◌%◌, ◌<◌, ◌≤◌, ⊎_elim, List, [], ◌∷◌, ◌++◌, map, length, refl, sym, ap, arith, ◌∙◌, add-one, zero-mul, mul-zero, suc-mul, mul-suc, add_comm, length-append}
use Rattle.std.proofs.Math.Nat.{div-eq_of_lt, mod-eq_of_lt, div-eq-sub-div, mod-eq-sub-mod, mod-lt, div-lt_iff_lt-mul}
use Rattle.std.specs.List.{flat_map}
use Rattle.std.proofs.lemmas.Bool.{cases_lt}
use Rattle.std.proofs.lemmas.List.{length-map}
use Rattle.av_flat.specs.Trees.{Tree}
use Rattle.av_flat.specs.Pieces.{Part, part, in_pairs, in_fours}
use Rattle.av_normal.specs.inner.Numbered.{part_at}

-- ---- lists of parts

pub at_first : (ps qs : List Part) (k : ℕ) → k < length ps → part_at (ps ++ qs) k ≡ part_at ps k
at_first [] qs k l = absurd (omega (arith, l))
at_first (p ∷ ps) qs zero l = refl
at_first (p ∷ ps) qs (suc k) l = at_first ps qs k (omega (arith, l))

pub at_second : (ps qs : List Part) (k : ℕ) → part_at (ps ++ qs) (length ps + k) ≡ part_at qs k
at_second [] qs k = ap (part_at qs) (omega arith)
at_second (p ∷ ps) qs k =
    let e : length (p ∷ ps) + k ≡ suc (length ps + k) = omega arith in
    ap (part_at (p ∷ ps ++ qs)) e ∙ at_second ps qs k

pub at_map : (g : Part → Part) (ps : List Part) (k : ℕ) → k < length ps → part_at (map g ps) k ≡ g (part_at ps k)
at_map g [] k l = absurd (omega (arith, l))
at_map g (p ∷ ps) zero l = refl
at_map g (p ∷ ps) (suc k) l = at_map g ps k (omega (arith, l))

pub at_spread : (n : ℕ) (g : Part → List Part) → ((p : Part) → length (g p) ≡ n) → (ps : List Part) (k : ℕ) → 0 < n → k < length ps * n → part_at (flat_map g ps) k ≡ part_at (g (part_at ps (k / n))) (k % n)
at_spread n g size [] k p l = absurd (omega (arith, l))
at_spread n g size (x ∷ ps) k p l = ⊎_elim
    (λ h.
    let q : (k / n) ≡ 0 = div-eq_of_lt h in
    let r : (k % n) ≡ k = mod-eq_of_lt h in
    let e = size x in
    at_first (g x) (flat_map g ps) k (omega (arith, h, e)) ∙ rw (q, r) refl)
    (λ h.
    let q : (k / n) ≡ suc ((k - n) / n) = div-eq-sub-div p h ∙ add-one ((k - n) / n) in
    let r : (k % n) ≡ (k - n) % n = mod-eq-sub-mod h in
    let m = size x in
    let e : k ≡ length (g x) + (k - n) = omega (arith, h, m) in
    let f : k < suc (length ps) * n = l in
    let less : k - n < length ps * n = omega (arith, h, simp suc-mul at f) in
    ap (part_at (g x ++ flat_map g ps)) e ∙ at_second (g x) (flat_map g ps) (k - n) ∙ at_spread n g size ps (k - n) p less ∙ rw (q, r) refl)
    (cases_lt k n)

pub at_pairs : (f : Tree → Tree → Tree) (ps qs : List Part) (k : ℕ) → 0 < length qs → k < length ps * length qs
    → part_at (in_pairs f ps qs) k ≡ part ((part_at ps (k / length qs)).rows ++ (part_at qs (k % length qs)).rows) (f (part_at ps (k / length qs)).tree (part_at qs (k % length qs)).tree)
at_pairs f ps qs k p l =
    let n = length qs in
    let x = part_at ps (k / n) in
    at_spread n (λ p. map (λ q. part (p.rows ++ q.rows) (f p.tree q.tree)) qs) (λ p. length-map qs (λ q. part (p.rows ++ q.rows) (f p.tree q.tree))) ps k p l
    ∙ at_map (λ q. part (x.rows ++ q.rows) (f x.tree q.tree)) qs (k % n) (mod-lt k p)

size_spread : (n : ℕ) (g : Part → List Part) → ((p : Part) → length (g p) ≡ n) → (ps : List Part) → length (flat_map g ps) ≡ length ps * n
size_spread n g h [] = sym (zero-mul n)
size_spread n g h (p ∷ ps) = length-append (g p) (flat_map g ps) ∙ rw (h p, size_spread n g h ps) (sym (suc-mul (length ps) n ∙ add_comm (length ps * n) n))

module _ (f : Tree → Tree → Tree → Tree → Tree) (qs rs ss : List Part) where
  abbrev last_of : Part → Part → Part → Part → Part
  last_of p q r s = part (p.rows ++ q.rows ++ r.rows ++ s.rows) (f p.tree q.tree r.tree s.tree)

  abbrev of_three : Part → Part → Part → List Part
  of_three p q r = map (last_of p q r) ss

  abbrev of_two : Part → Part → List Part
  of_two p q = flat_map (of_three p q) rs

  abbrev of_one : Part → List Part
  of_one p = flat_map (of_two p) qs

  size_two : (p q : Part) → length (of_two p q) ≡ length rs * length ss
  size_two p q = size_spread (length ss) (of_three p q) (λ r. length-map ss (last_of p q r)) rs

  size_one : (p : Part) → length (of_one p) ≡ length qs * (length rs * length ss)
  size_one p = size_spread (length rs * length ss) (of_two p) (size_two p) qs

  -- the first part is slowest, the last one fastest
  pub at_fours : (ps : List Part) (k : ℕ) (second third : ℕ) → third ≡ length rs * length ss → second ≡ length qs * third → 0 < second → 0 < third → 0 < length ss → k < length ps * second
      → part_at (in_fours f ps qs rs ss) k
      ≡ last_of (part_at ps (k / second)) (part_at qs ((k % second) / third)) (part_at rs ((k % second % third) / length ss)) (part_at ss (k % second % third % length ss))
  at_fours ps k second third e d p q r l =
      let x = part_at ps (k / second) in
      let y = part_at qs ((k % second) / third) in
      let z = part_at rs ((k % second % third) / length ss) in
      let m = mod-lt k p in
      let n = mod-lt (k % second) q in
      at_spread second of_one (λ p. size_one p ∙ sym (d ∙ ap (λ n. length qs * n) e)) ps k p l
      ∙ at_spread third (of_two x) (λ q. size_two x q ∙ sym e) qs (k % second) q (rw (← d) m)
      ∙ at_spread (length ss) (of_three x y) (λ r. length-map ss (last_of x y r)) rs (k % second % third) r (rw (← e) n)
      ∙ at_map (last_of x y z) ss (k % second % third % length ss) (mod-lt (k % second % third) r)

-- ---- numbers of operands

pub record AreBelow (k a b : ℕ) : Type 0 where
  pub slow : k / b < a
  pub fast : k % b < b
  pub some : 0 < b
  pub few_slow : a ≤ 256
  pub few_fast : b ≤ 256

pub below : (k a b : ℕ) → k < a * b → a * b ≤ 256 → AreBelow k a b
below k zero b l m = absurd (omega (arith, l, zero-mul b))
below k (suc a) zero l m = absurd (omega (arith, l, mul-zero (suc a)))
below k (suc a) (suc b) l m =
    let p : 0 < suc b = omega arith in
    let up : suc b ≤ suc a * suc b = omega (arith, suc-mul a (suc b)) in
    let down : suc a ≤ suc a * suc b = omega (arith, mul-suc (suc a) b) in
    record { slow = (div-lt_iff_lt-mul p).1 l; fast = mod-lt k p; some = p; few_slow = omega (arith, down, m); few_fast = omega (arith, up, m) }
