-- What may follow fixed entries, one entry at a time.
use Rattle.std.proofs.Common.{◌≡◌, ℕ, zero, suc, ◌<◌, ◌≤◌, ◌-◌, inl, inr, arith, ℤ, pos, ◌+ℤ◌, ◌≤ℤ◌, ◌<ℤ◌, List, [], ◌∷◌, ◌++◌, length, append_assoc, get_or, take, drop, refl, sym, ◌∙◌, ap, subst, Option, Some, None, false}
use Rattle.std.specs.Option.{IfNone, IfSome, is_some}
use Rattle.std.proofs.lemmas.Int.{ints, by_lt_z}
use Rattle.std.proofs.lemmas.List.{length-drop}
use Rattle.av_affine.specs.declared.form.Form.{Form}
use Rattle.av_poly.specs.Points.{Set, Has, Holds}
use Rattle.av_poly.specs.Search.{IsBetween, IsNotAfter, CanFollow}
use Rattle.av_poly.specs.inner.Search.{IsFirstFrom}
use Rattle.av_poly.proofs.Intervals.{rest_of, between_rest}

-- the bounds but for the first
abbrev pub later : List ℤ → List ℤ
later xs = take (length xs - 1) (drop 1 xs)

pub later_is : (xs : List ℤ) → later xs ≡ drop 1 xs
later_is xs = rest_of (length xs) xs 1 refl

joined : (fixed rest : List ℤ) (x : ℤ) → fixed ++ x ∷ rest ≡ (fixed ++ x ∷ []) ++ rest
joined fixed rest x = sym (append_assoc fixed (x ∷ []) rest)

pub follow_rest : (rows : List Form) (fixed low high rest : List ℤ) (x : ℤ) → CanFollow rows fixed low high (x ∷ rest) → CanFollow rows (fixed ++ x ∷ []) (later low) (later high) rest
follow_rest rows fixed low high rest x h =
    let n = h.size in
    let size : length rest ≡ length (drop 1 low) = omega (arith, n, length-drop 1 low) in
    record {
      size = size ∙ ap length (sym (later_is low));
      between = rw (later_is low, later_is high) (between_rest low high rest x h.between);
      holds = subst (Holds rows) (joined fixed rest x) h.holds;
    }

between_first : (low high rest : List ℤ) (x : ℤ) → 0 < length low → 0 < length high → get_or low 0 (pos 0) ≤ℤ x → x ≤ℤ get_or high 0 (pos 0) → IsBetween (drop 1 low) (drop 1 high) rest → IsBetween low high (x ∷ rest)
between_first [] high rest x l m p q h = absurd (omega arith)
between_first (a ∷ low) [] rest x l m p q h = absurd (omega arith)
between_first (a ∷ low) (b ∷ high) rest x l m p q h = (p, q, h)

pub follow_first : (rows : List Form) (fixed low high rest : List ℤ) (x : ℤ) → 0 < length low → length high ≡ length low → get_or low 0 (pos 0) ≤ℤ x → x ≤ℤ get_or high 0 (pos 0)
    → CanFollow rows (fixed ++ x ∷ []) (later low) (later high) rest → CanFollow rows fixed low high (x ∷ rest)
follow_first rows fixed low high rest x l e p q h =
    let n = h.size ∙ ap length (later_is low) in
    let b : IsBetween (drop 1 low) (drop 1 high) rest = rw (← later_is low, ← later_is high) h.between in
    record {
      size = omega (arith, n, l, length-drop 1 low);
      between = between_first low high rest x l (omega (arith, e, l)) p q b;
      holds = subst (Holds rows) (sym (joined fixed rest x)) h.holds;
    }

-- the least from one entry on, where none before it can follow
pub first_more : (rows : List Form) (fixed low high point : List ℤ) (x : ℤ) → 0 < length low → length high ≡ length low → get_or low 0 (pos 0) ≤ℤ x → x ≤ℤ get_or high 0 (pos 0)
    → ((y : ℤ) (rest : List ℤ) → CanFollow rows fixed low high (y ∷ rest) → x ≤ℤ y) → IsFirstFrom rows (fixed ++ x ∷ []) (later low) (later high) point → IsFirstFrom rows fixed low high point
first_more rows fixed low high point x l e p q passed s = record {
  rest = x ∷ s.rest;
  follows = follow_first rows fixed low high s.rest x l e p q s.follows;
  is = s.is ∙ sym (joined fixed s.rest x);
  least = least;
}
  where
    least : (other : List ℤ) → CanFollow rows fixed low high other → IsNotAfter (x ∷ s.rest) other
    least [] h = let n = h.size in absurd (omega (arith, n, l))
    least (y ∷ other) h =
        by_lt_z x y (λ k. inl k) (λ k.
        let i = passed y other h in
        let same : x ≡ y = omega (arith, ints, i, k) in
        inr (same, s.least other (follow_rest rows fixed low high other x (subst (λ (w : ℤ). CanFollow rows fixed low high (w ∷ other)) (sym same) h))))

-- where none can follow with one entry, the next ones are greater
pub passed_more : (rows : List Form) (fixed low high : List ℤ) (x : ℤ) → ((y : ℤ) (rest : List ℤ) → CanFollow rows fixed low high (y ∷ rest) → x ≤ℤ y)
    → ((rest : List ℤ) → CanFollow rows (fixed ++ x ∷ []) (later low) (later high) rest → ⊥) → (y : ℤ) (rest : List ℤ) → CanFollow rows fixed low high (y ∷ rest) → (x +ℤ pos 1) ≤ℤ y
passed_more rows fixed low high x passed none y rest h =
    by_lt_z x y (λ k. omega (arith, ints, k)) (λ k.
    let i = passed y rest h in
    let same : x ≡ y = omega (arith, ints, i, k) in
    absurd (none rest (follow_rest rows fixed low high rest x (subst (λ (w : ℤ). CanFollow rows fixed low high (w ∷ rest)) (sym same) h))))

-- where each entry that can follow is both above and below, none can
pub none_left : (rows : List Form) (fixed low high : List ℤ) (x top : ℤ) → 0 < length low → ((y : ℤ) (rest : List ℤ) → CanFollow rows fixed low high (y ∷ rest) → x ≤ℤ y)
    → ((y : ℤ) (rest : List ℤ) → length (y ∷ rest) ≡ length low → IsBetween low high (y ∷ rest) → Holds rows (fixed ++ y ∷ rest) → y ≤ℤ top) → top <ℤ x
    → (rest : List ℤ) → CanFollow rows fixed low high rest → ⊥
none_left rows fixed low high x top l passed within q [] h = let n = h.size in omega (arith, n, l)
none_left rows fixed low high x top l passed within q (y ∷ rest) h = let a = passed y rest h in let b = within y rest h.size h.between h.holds in omega (arith, ints, a, b, q)

pub none_of : {X : Type 0} (o : Option X) (P : Type 0) → is_some o ≡ false → IfNone o P → P
none_of (Some x) P e h = cc
none_of None P e h = h

pub some_weaker : {X : Type 0} (P Q : X → Type 0) → ((x : X) → P x → Q x) → (o : Option X) → IfSome o P → IfSome o Q
some_weaker P Q f (Some x) h = f x h
some_weaker P Q f None h = tt

-- ---- from no fixed entry on

pub between_take : (n : ℕ) (low high z : List ℤ) → length z ≤ n → IsBetween low high z → IsBetween (take n low) (take n high) z
between_take n low high [] l h = tt
between_take zero low high (x ∷ z) l h = absurd (omega arith)
between_take (suc n) [] high (x ∷ z) l h = absurd h
between_take (suc n) (a ∷ low) [] (x ∷ z) l h = absurd h
between_take (suc n) (a ∷ low) (b ∷ high) (x ∷ z) l h = (h.0, h.1, between_take n low high z (omega arith) h.2)

pub between_whole : (n : ℕ) (low high z : List ℤ) → IsBetween (take n low) (take n high) z → IsBetween low high z
between_whole n low high [] h = tt
between_whole zero low high (x ∷ z) h = absurd h
between_whole (suc n) [] high (x ∷ z) h = absurd h
between_whole (suc n) (a ∷ low) [] (x ∷ z) h = absurd h
between_whole (suc n) (a ∷ low) (b ∷ high) (x ∷ z) h = (h.0, h.1, between_whole n low high z h.2)

-- the points of a set between bounds are what may follow no entry
pub follows_none : (set : Set) (low high z : List ℤ) → length (take set.dim low) ≡ set.dim → Has set z → IsBetween low high z → CanFollow set.rows [] (take set.dim low) (take set.dim high) z
follows_none set low high z l h b = let n = h.dimension in record {
  size = n ∙ sym l;
  between = between_take set.dim low high z (omega (arith, n)) b;
  holds = h.holds;
}

pub is_point : (set : Set) (low high z : List ℤ) → length (take set.dim low) ≡ set.dim → CanFollow set.rows [] (take set.dim low) (take set.dim high) z → Has set z × IsBetween low high z
is_point set low high z l h = (record { dimension = h.size ∙ l; holds = h.holds }, between_whole set.dim low high z h.between)

pub first_is_point : (set : Set) (low high z : List ℤ) → length (take set.dim low) ≡ set.dim → IsFirstFrom set.rows [] (take set.dim low) (take set.dim high) z → Has set z × IsBetween low high z
first_is_point set low high z l s = is_point set low high z l (subst (CanFollow set.rows [] (take set.dim low) (take set.dim high)) (sym s.is) s.follows)

pub first_is_least : (set : Set) (low high z : List ℤ) → length (take set.dim low) ≡ set.dim → IsFirstFrom set.rows [] (take set.dim low) (take set.dim high) z
    → (other : List ℤ) → Has set other → IsBetween low high other → IsNotAfter z other
first_is_least set low high z l s other h b = subst (λ (p : List ℤ). IsNotAfter p other) (sym s.is) (s.least other (follows_none set low high other l h b))

pub first_same : (rows rows' : List Form) (low low' high high' point : List ℤ) → rows ≡ rows' → low ≡ low' → high ≡ high' → IsFirstFrom rows [] low high point → IsFirstFrom rows' [] low' high' point
first_same rows rows' low low' high high' point r l h s =
    subst (λ (xs : List Form). IsFirstFrom xs [] low' high' point) r (subst (λ (xs : List ℤ). IsFirstFrom rows [] xs high' point) l (subst (λ (xs : List ℤ). IsFirstFrom rows [] low xs point) h s))

pub follow_same : (rows rows' : List Form) (low low' high high' rest : List ℤ) → rows ≡ rows' → low ≡ low' → high ≡ high' → CanFollow rows' [] low' high' rest → CanFollow rows [] low high rest
follow_same rows rows' low low' high high' rest r l h s =
    subst (λ (xs : List Form). CanFollow xs [] low high rest) (sym r) (subst (λ (xs : List ℤ). CanFollow rows' [] xs high rest) (sym l) (subst (λ (xs : List ℤ). CanFollow rows' [] low' xs rest) (sym h) s))

pub none_weaker : {X : Type 0} (P Q : Type 0) → (P → Q) → (o : Option X) → IfNone o P → IfNone o Q
none_weaker P Q f (Some x) h = tt
none_weaker P Q f None h = f h
