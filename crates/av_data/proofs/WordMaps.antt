-- Words that are kept in an ordered map, by place and entries.
use Rattle.std.proofs.Common.{◌≡◌, ℕ, ℤ, Bool, true, false, cond, List, [], ◌∷◌, map, Some, refl, sym, ap, ◌∙◌, subst, arith, true≢false}
use Rattle.std.specs.Prelude.{◌<ℤ◌, if◌then◌else◌, nat_eq}
use Rattle.std.specs.Map.{lookup}
use Rattle.std.specs.Ordering.{nat_cmp, int_cmp, int_eq, ordering_then, is_eq, match_ordering, MatchOrdering}
use Rattle.std.specs.Cmp.Lexicographic.{slice_cmp}
use Rattle.std.specs.Cmp.{int_ranks}
use Rattle.std.specs.declared.cmp.Ordering.{Ordering}
use Rattle.std.specs.declared.cmp.Ordering.TheVariants.{Less, Equal, Greater}
use Rattle.std.specs.BTreeMap.{insert_entry}
use Rattle.std.proofs.lemmas.Bool.{eqb-true, eq-eqb}
use Rattle.std.proofs.lemmas.Bool.Decides.{Decides-int_eq}
use Rattle.std.proofs.lemmas.Int.{ints}
use Rattle.av_tree.specs.Points.{Point}
use Rattle.av_data.specs.Inputs.{is_point, is_at, word_among}
use Rattle.av_data.proofs.Ordered.{Compared, compared, less, equal, greater}
use Rattle.av_data.proofs.Gathered.{point_is, point_itself}
use Rattle.av_base.proofs.Truths.{and_true, both}

-- ---- equal keys

equal_ints : (x y : ℤ) → int_cmp x y ≡ Equal → x ≡ y
equal_ints x y e = by (int_cmp x y) e (int_ranks x y)
  where
    is_less : Ordering → Bool
    is_less Less = true
    is_less Equal = false
    is_less Greater = false

    is_greater : Ordering → Bool
    is_greater Less = false
    is_greater Equal = false
    is_greater Greater = true

    by : (o : Ordering) → o ≡ Equal → MatchOrdering o (x <ℤ y) (x ≡ y) (y <ℤ x) → x ≡ y
    by Less h r = absurd (true≢false (ap is_less h))
    by Equal h r = r
    by Greater h r = absurd (true≢false (ap is_greater h))

same_int : (x : ℤ) → int_cmp x x ≡ Equal
same_int x = by (int_cmp x x) (int_ranks x x)
  where
    by : (o : Ordering) → MatchOrdering o (x <ℤ x) (x ≡ x) (x <ℤ x) → o ≡ Equal
    by Less r = absurd (omega (arith, ints, r))
    by Equal r = refl
    by Greater r = absurd (omega (arith, ints, r))

both_equal : (o p : Ordering) → ordering_then o p ≡ Equal → (o ≡ Equal) × (p ≡ Equal)
both_equal Less p e = absurd (true≢false (ap is_less e))
  where
    is_less : Ordering → Bool
    is_less Less = true
    is_less Equal = false
    is_less Greater = false
both_equal Equal p e = (refl, e)
both_equal Greater p e = absurd (true≢false (ap is_greater e))
  where
    is_greater : Ordering → Bool
    is_greater Less = false
    is_greater Equal = false
    is_greater Greater = true

equal_points : (xs ys : Point) → slice_cmp int_cmp xs ys ≡ Equal → is_point xs ys ≡ true
equal_points [] [] e = refl
equal_points [] (y ∷ ys) e = absurd (true≢false (sym (ap is_eq e)))
equal_points (x ∷ xs) [] e = absurd (true≢false (sym (ap is_eq e)))
equal_points (x ∷ xs) (y ∷ ys) e =
    let p = both_equal (int_cmp x y) (slice_cmp int_cmp xs ys) e in
    subst (λ (w : ℤ). is_point (x ∷ xs) (w ∷ ys) ≡ true) (equal_ints x y p.0) (and_true (int_eq x x) (is_point xs ys) (same_entry x) (equal_points xs ys p.1))
  where
    same_entry : (x : ℤ) → int_eq x x ≡ true
    same_entry x = (Decides-int_eq x x).1 refl

same_points : (xs : Point) → slice_cmp int_cmp xs xs ≡ Equal
same_points [] = refl
same_points (x ∷ xs) = ap (λ o. ordering_then o (slice_cmp int_cmp xs xs)) (same_int x) ∙ same_points xs

same_number : (n : ℕ) → nat_cmp n n ≡ Equal
same_number n = by (nat_cmp n n) _ _ (compared n n) (eq-eqb n n refl)
  where
    by : (o : Ordering) (t u : Bool) → Compared n n o t u → u ≡ true → o ≡ Equal
    by _ _ _ less e = absurd (true≢false (sym e))
    by _ _ _ equal e = refl
    by _ _ _ greater e = absurd (true≢false (sym e))

equal_numbers : (m n : ℕ) → nat_cmp m n ≡ Equal → nat_eq m n ≡ true
equal_numbers m n e = by (nat_cmp m n) _ _ (compared m n) (ap is_eq e)
  where
    by : (o : Ordering) (t u : Bool) → Compared m n o t u → is_eq o ≡ true → u ≡ true
    by _ _ _ less h = absurd (true≢false (sym h))
    by _ _ _ equal h = refl
    by _ _ _ greater h = absurd (true≢false (sym h))

-- the order of places and entries
abbrev pub key_cmp : ℕ → Point → ℕ → Point → Ordering
key_cmp p y q z = ordering_then (nat_cmp p q) (slice_cmp int_cmp y z)

equal_key : (p : ℕ) (y : Point) (q : ℕ) (z : Point) → key_cmp p y q z ≡ Equal → (q ≡ p) × (z ≡ y)
equal_key p y q z e =
    let b = both_equal (nat_cmp p q) (slice_cmp int_cmp y z) e in
    (sym (eqb-true p q (equal_numbers p q b.0)), sym (point_is y z (equal_points y z b.1)))

same_key : (p : ℕ) (y : Point) → key_cmp p y p y ≡ Equal
same_key p y = ap (λ o. ordering_then o (slice_cmp int_cmp y y)) (same_number p) ∙ same_points y

same_at : (q : ℕ) (z : Point) (p : ℕ) (y : Point) → is_at q z p y ≡ true → (q ≡ p) × (z ≡ y)
same_at q z p y h = let t = both (nat_eq q p) (is_point z y) h in (eqb-true q p t.0, point_is z y t.1)

at_itself : (p : ℕ) (y : Point) → is_at p y p y ≡ true
at_itself p y = and_true (nat_eq p p) (is_point y y) (eq-eqb p p refl) (point_itself y)

-- a key is found where the place and the entries are the same
pub found_at : (p : ℕ) (y : Point) (q : ℕ) (z : Point) → is_eq (key_cmp p y q z) ≡ is_at q z p y
found_at p y q z = by (key_cmp p y q z) (is_at q z p y) refl refl
  where
    by : (o : Ordering) (t : Bool) → key_cmp p y q z ≡ o → is_at q z p y ≡ t → is_eq o ≡ t
    by Equal true e f = refl
    by Equal false e f =
        let k = equal_key p y q z e in
        absurd (true≢false (sym (at_itself p y) ∙ ap (λ n. is_at n y p y) (sym k.0) ∙ ap (λ v. is_at q v p y) (sym k.1) ∙ f))
    by Less true e f = let k = same_at q z p y f in absurd (differ (sym (same_key p y) ∙ ap (λ n. key_cmp p y n y) (sym k.0) ∙ ap (key_cmp p y q) (sym k.1) ∙ e))
      where
        differ : Equal ≡ Less → ⊥
        differ h = true≢false (ap is_eq h)
    by Less false e f = refl
    by Greater true e f = let k = same_at q z p y f in absurd (differ (sym (same_key p y) ∙ ap (λ n. key_cmp p y n y) (sym k.0) ∙ ap (key_cmp p y q) (sym k.1) ∙ e))
      where
        differ : Equal ≡ Greater → ⊥
        differ h = true≢false (ap is_eq h)
    by Greater false e f = refl

module _ {A : Type 0} where
  -- the entries as contracts see them
  abbrev pub seen : (A → Point) → List ((ℕ × A) × ℕ) → List ((ℕ × Point) × ℕ)
  seen items es = map (λ e. ((e.0.0, items e.0.1), e.1)) es

  pub word_found : (es : List ((ℕ × A) × ℕ)) (items : A → Point) (p : ℕ) (a : A) → lookup (λ k. is_eq (key_cmp p (items a) k.0 (items k.1))) es ≡ word_among (seen items es) p (items a)
  word_found [] items p a = refl
  word_found (e ∷ es) items p a = go (is_eq (key_cmp p (items a) e.0.0 (items e.0.1))) (is_at e.0.0 (items e.0.1) p (items a)) (found_at p (items a) e.0.0 (items e.0.1)) (word_found es items p a)
    where
      go : (t u : Bool) → t ≡ u → lookup (λ k. is_eq (key_cmp p (items a) k.0 (items k.1))) es ≡ word_among (seen items es) p (items a)
          → cond t (Some e.1) (lookup (λ k. is_eq (key_cmp p (items a) k.0 (items k.1))) es) ≡ (if u then Some e.1 else word_among (seen items es) p (items a))
      go true true h ih = refl
      go false false h ih = ih
      go true false h ih = absurd (true≢false h)
      go false true h ih = absurd (true≢false (sym h))

  pub word_entered : (es : List ((ℕ × A) × ℕ)) (items : A → Point) (key : ℕ × A) (w : ℕ) (q : ℕ) (z : Point)
      → word_among (seen items (insert_entry (λ j k. key_cmp j.0 (items j.1) k.0 (items k.1)) es key w)) q z ≡ (if is_at key.0 (items key.1) q z then Some w else word_among (seen items es) q z)
  word_entered [] items key w q z = refl
  word_entered (e ∷ es) items key w q z = by (key_cmp key.0 (items key.1) e.0.0 (items e.0.1)) refl (word_entered es items key w q z)
    where
      by : (o : Ordering) → key_cmp key.0 (items key.1) e.0.0 (items e.0.1) ≡ o
          → word_among (seen items (insert_entry (λ j k. key_cmp j.0 (items j.1) k.0 (items k.1)) es key w)) q z ≡ (if is_at key.0 (items key.1) q z then Some w else word_among (seen items es) q z)
          → word_among (seen items (match_ordering o ((key, w) ∷ e ∷ es) ((e.0, w) ∷ es) (e ∷ insert_entry (λ j k. key_cmp j.0 (items j.1) k.0 (items k.1)) es key w))) q z
          ≡ (if is_at key.0 (items key.1) q z then Some w else word_among (seen items (e ∷ es)) q z)
      by Less h ih = refl
      by Equal h ih =
          let k = equal_key key.0 (items key.1) e.0.0 (items e.0.1) h in
          let same : is_at e.0.0 (items e.0.1) q z ≡ is_at key.0 (items key.1) q z = ap (λ n. is_at n (items e.0.1) q z) k.0 ∙ ap (λ v. is_at key.0 v q z) k.1 in
          go (is_at e.0.0 (items e.0.1) q z) (is_at key.0 (items key.1) q z) same
        where
          go : (t u : Bool) → t ≡ u → (if t then Some w else word_among (seen items es) q z) ≡ (if u then Some w else (if t then Some e.1 else word_among (seen items es) q z))
          go true true h = refl
          go false false h = refl
          go true false h = absurd (true≢false h)
          go false true h = absurd (true≢false (sym h))
      by Greater h ih = go (is_at e.0.0 (items e.0.1) q z) (is_at key.0 (items key.1) q z) refl refl
        where
          go : (t u : Bool) → is_at e.0.0 (items e.0.1) q z ≡ t → is_at key.0 (items key.1) q z ≡ u
              → (if t then Some e.1 else word_among (seen items (insert_entry (λ j k. key_cmp j.0 (items j.1) k.0 (items k.1)) es key w)) q z) ≡ (if u then Some w else (if t then Some e.1 else word_among (seen items es) q z))
          go true true f g =
              let a = same_at e.0.0 (items e.0.1) q z f in
              let b = same_at key.0 (items key.1) q z g in
              let k : key_cmp key.0 (items key.1) e.0.0 (items e.0.1) ≡ Equal =
              ap (λ n. key_cmp key.0 (items key.1) n (items e.0.1)) (a.0 ∙ sym b.0) ∙ ap (key_cmp key.0 (items key.1) key.0) (a.1 ∙ sym b.1) ∙ same_key key.0 (items key.1) in
              absurd (true≢false (sym (ap is_eq k) ∙ ap is_eq h))
          go true false f g = refl
          go false true f g = ih ∙ ap (λ t. if t then Some w else word_among (seen items es) q z) g
          go false false f g = ih ∙ ap (λ t. if t then Some w else word_among (seen items es) q z) g
