-- Points in lexicographic order, and the least of them.
use Rattle.std.proofs.Common.{◌≡◌, ◌↔◌, ℕ, ℤ, suc, pos, ◌+◌, ◌<◌, ◌≤◌, ◌<ℤ◌, ◌≤ℤ◌, ◌⊎◌, inl, inr, Bool, true, false, true≢false, List, [], ◌∷◌, length, length-drop, get_or, drop, Option, Some, None, refl, sym, ap, ap₂, subst, ◌∙◌, arith}
use Rattle.std.specs.Prelude.{int_lt, if◌then◌else◌}
use Rattle.std.specs.Ordering.{int_eq}
use Rattle.std.proofs.lemmas.Int.{ints, by_lt_z}
use Rattle.std.proofs.Math.Seq.{drop-cons}
use Rattle.std.proofs.lemmas.List.{nil_from_length}
use Rattle.std.specs.Option.{is_some}
use Rattle.std.proofs.lemmas.Bool.Decides.{Decides-int_eq}
use Rattle.av_poly.specs.Search.{IsNotAfter}
use Rattle.av_tree.specs.Points.{Point}
use Rattle.av_check.specs.inner.Least.{IsLeast, not_after, first_of}

-- ---- two entries

abbrev test : ℤ → ℤ → Bool → Bool
test x y t = if int_eq x y then t else int_lt x y

chosen : (b l t : Bool) → b ≡ true → (if b then t else l) ≡ t
chosen true l t e = refl
chosen false l t e = absurd (true≢false (sym e))

other : (b l t v : Bool) → (b ≡ true → ⊥) → l ≡ v → (if b then t else l) ≡ v
other true l t v h e = absurd (h refl)
other false l t v h e = e

is_less : (x y : ℤ) → x <ℤ y → int_lt x y ≡ true
is_less x y h = go (int_lt x y) refl
  where
    go : (t : Bool) → int_lt x y ≡ t → int_lt x y ≡ true
    go true e = e
    go false e = absurd (omega (arith, ints, h, e))

not_less : (x y : ℤ) → y ≤ℤ x → int_lt x y ≡ false
not_less x y h = go (int_lt x y) refl
  where
    go : (t : Bool) → int_lt x y ≡ t → int_lt x y ≡ false
    go true e = absurd (omega (arith, ints, h, e))
    go false e = e

three : (x y : ℤ) (t : Bool) → ((x <ℤ y) × (test x y t ≡ true)) ⊎ (((x ≡ y) × (test x y t ≡ t)) ⊎ ((y <ℤ x) × (test x y t ≡ false)))
three x y t =
    let d = Decides-int_eq x y in
    by_lt_z x y
    (λ l. inl (l, other (int_eq x y) (int_lt x y) t true (λ e. let s = d.0 e in omega (arith, ints, l, s)) (is_less x y l)))
    (λ g. by_lt_z y x
    (λ l. inr (inr (l, other (int_eq x y) (int_lt x y) t false (λ e. let s = d.0 e in omega (arith, ints, l, s)) (not_less x y g))))
    (λ k. let s : x ≡ y = omega (arith, ints, g, k) in inr (inl (s, chosen (int_eq x y) (int_lt x y) t (d.1 s)))))

-- ---- points

pub in_order : (a b : List ℤ) → not_after a b ≡ true → IsNotAfter a b
in_order [] b h = tt
in_order (x ∷ a) [] h = absurd (true≢false (sym h))
in_order (x ∷ a) (y ∷ b) h = elim (three x y (not_after a b)) [
  | inl w ↦ inl w.0
  | inr w ↦ elim w [
    | inl v ↦ inr (v.0, in_order a b (sym v.1 ∙ h))
    | inr v ↦ absurd (true≢false (sym h ∙ v.1))
  ]
]

pub out_of_order : (a b : List ℤ) → not_after a b ≡ false → IsNotAfter b a
out_of_order [] b h = absurd (true≢false h)
out_of_order (x ∷ a) [] h = tt
out_of_order (x ∷ a) (y ∷ b) h = elim (three x y (not_after a b)) [
  | inl w ↦ absurd (true≢false (sym w.1 ∙ h))
  | inr w ↦ elim w [
    | inl v ↦ inr (sym v.0, out_of_order a b (sym v.1 ∙ h))
    | inr v ↦ inl v.0
  ]
]

pub not_after_any : (a b c : List ℤ) → IsNotAfter a b → IsNotAfter b c → IsNotAfter a c
not_after_any [] b c p q = tt
not_after_any (x ∷ a) [] c p q = absurd p
not_after_any (x ∷ a) (y ∷ b) [] p q = absurd q
not_after_any (x ∷ a) (y ∷ b) (z ∷ c) p q = elim p [
  | inl l ↦ elim q [
    | inl m ↦ inl (omega (arith, ints, l, m))
    | inr m ↦ let e = m.0 in inl (omega (arith, ints, l, e))
  ]
  | inr l ↦ elim q [
    | inl m ↦ let e = l.0 in inl (omega (arith, ints, e, m))
    | inr m ↦ inr (l.0 ∙ m.0, not_after_any a b c l.1 m.1)
  ]
]

pub same_point : (a b : List ℤ) → IsNotAfter a b → IsNotAfter b a → a ≡ b
same_point [] [] p q = refl
same_point [] (y ∷ b) p q = absurd q
same_point (x ∷ a) [] p q = absurd p
same_point (x ∷ a) (y ∷ b) p q = elim p [
  | inl l ↦ elim q [
    | inl m ↦ absurd (omega (arith, ints, l, m))
    | inr m ↦ let e = m.0 in absurd (omega (arith, ints, l, e))
  ]
  | inr l ↦ elim q [
    | inl m ↦ let e = l.0 in absurd (omega (arith, ints, e, m))
    | inr m ↦ ap₂ (λ (s : ℤ) t. s ∷ t) l.0 (same_point a b l.1 m.1)
  ]
]

-- the same order, one entry further
pub order_more : (x y : ℤ) (a b : List ℤ) → x ≡ y → not_after (x ∷ a) (y ∷ b) ≡ not_after a b
order_more x y a b e = chosen (int_eq x y) (int_lt x y) (not_after a b) ((Decides-int_eq x y).1 e)

pub order_here : (x y : ℤ) (a b : List ℤ) → (x ≡ y → ⊥) → not_after (x ∷ a) (y ∷ b) ≡ int_lt x y
order_here x y a b h = other (int_eq x y) (int_lt x y) (not_after a b) (int_lt x y) (λ e. h ((Decides-int_eq x y).0 e)) refl

dropped : (xs : List ℤ) (k : ℕ) → k < length xs → drop k xs ≡ get_or xs k (pos 0) ∷ drop (k + 1) xs
dropped xs k l = let e : suc k ≡ k + 1 = omega arith in drop-cons xs k (pos 0) l ∙ ap (λ (j : ℕ). get_or xs k (pos 0) ∷ drop j xs) e

all_dropped : (xs : List ℤ) (k : ℕ) → length xs ≤ k → drop k xs ≡ []
all_dropped xs k l = let e = length-drop k xs in nil_from_length (drop k xs) (omega (arith, e, l))

pub order_ended : (a b : List ℤ) (k : ℕ) → k < length a → length b ≤ k → not_after (drop k a) (drop k b) ≡ false
order_ended a b k l m = ap₂ (λ x y. not_after x y) (dropped a k l) (all_dropped b k m)

pub order_all : (a b : List ℤ) (k : ℕ) → length a ≤ k → not_after (drop k a) (drop k b) ≡ true
order_all a b k l = ap (λ x. not_after x (drop k b)) (all_dropped a k l)

pub order_same : (a b : List ℤ) (k : ℕ) → k < length a → k < length b → get_or a k (pos 0) ≡ get_or b k (pos 0) → not_after (drop (k + 1) a) (drop (k + 1) b) ≡ not_after (drop k a) (drop k b)
order_same a b k l m e =
    sym (ap₂ (λ x y. not_after x y) (dropped a k l) (dropped b k m) ∙ order_more (get_or a k (pos 0)) (get_or b k (pos 0)) (drop (k + 1) a) (drop (k + 1) b) e)

pub order_told : (a b : List ℤ) (k : ℕ) → k < length a → k < length b → (get_or a k (pos 0) ≡ get_or b k (pos 0) → ⊥) → not_after (drop k a) (drop k b) ≡ int_lt (get_or a k (pos 0)) (get_or b k (pos 0))
order_told a b k l m h = ap₂ (λ x y. not_after x y) (dropped a k l) (dropped b k m) ∙ order_here (get_or a k (pos 0)) (get_or b k (pos 0)) (drop (k + 1) a) (drop (k + 1) b) h

-- ---- the least

least_either : (P Q : Point → Type 0) (a b : Option Point) → IsLeast P a → IsLeast Q b → IsLeast (λ z. P z ⊎ Q z) (first_of a b)
least_either P Q None None p q = λ z h. elim h [ inl k ↦ p z k | inr k ↦ q z k ]
least_either P Q None (Some y) p q = (inr q.0, λ z h. elim h [ inl k ↦ absurd (p z k) | inr k ↦ q.1 z k ])
least_either P Q (Some z) None p q = (inl p.0, λ y h. elim h [ inl k ↦ p.1 y k | inr k ↦ absurd (q y k) ])
least_either P Q (Some z) (Some y) p q = go (not_after z y) refl
  where
    go : (t : Bool) → not_after z y ≡ t → IsLeast (λ x. P x ⊎ Q x) (if t then Some z else Some y)
    go true e = (inl p.0, λ x h. elim h [ inl k ↦ p.1 x k | inr k ↦ not_after_any z y x (in_order z y e) (q.1 x k) ])
    go false e = (inr q.0, λ x h. elim h [ inl k ↦ not_after_any y z x (out_of_order z y e) (p.1 x k) | inr k ↦ q.1 x k ])

pub least_same : (P Q : Point → Type 0) → ((z : Point) → P z ↔ Q z) → (o : Option Point) → IsLeast P o → IsLeast Q o
least_same P Q f None h = λ z q. h z ((f z).1 q)
least_same P Q f (Some z) h = ((f z).0 h.0, λ y q. h.1 y ((f y).1 q))

pub least_of_two : (P Q R : Point → Type 0) (a b o : Option Point) → o ≡ first_of a b → ((z : Point) → (P z ⊎ Q z) ↔ R z) → IsLeast P a → IsLeast Q b → IsLeast R o
least_of_two P Q R a b o e f p q = subst (IsLeast R) (sym e) (least_same (λ z. P z ⊎ Q z) R f (first_of a b) (least_either P Q a b p q))

pub least_none : (P : Point → Type 0) (o : Option Point) → is_some o ≡ false → IsLeast P o → (z : Point) → P z → ⊥
least_none P None e h = h
least_none P (Some z) e h = absurd (true≢false e)
