-- All vectors with small entries, index by index.
use Rattle.std.proofs.Common.{◌≡◌, ◌≢◌, ℕ, ◌+◌, ◌<◌, ◌≤◌, ℤ, pos, neg_ℤ, List, [], ◌∷◌, ◌++◌, map, length, take, get_or, refl, sym, subst, ◌∙◌, arith, All, Any, ⊎_elim, unsigned_abs}
use Rattle.std.specs.Prelude.{Contains}
use Rattle.std.proofs.lemmas.Int.{ints, by_lt_z}
use Rattle.std.proofs.lemmas.List.Elements.{All-nil, All-push, All-contains, All-from_recursion, recursion_from_All, All-append, Contains-append_left, Contains-append_right, Contains-push_cases, Contains-get_or}
use Rattle.av_tree.specs.Points.{Point}
use Rattle.av_flat.specs.Schedules.{IsLinearPart}
use Rattle.av_base.proofs.Among.{first_among, none_among, among_map, from_map}
use Rattle.av_sched.specs.inner.Vectors.{IsPrepended, ArePrepended, IsVectorOf, AreVectorsOf, AreLinearPartsOf, AreLinearPartsTo}
use Rattle.av_sched.proofs.Steps.{take_more}
use Rattle.av_base.proofs.Lists.{take_whole}

prepended_each : (shorter : List Point) (b : ℕ) (x : ℤ) → unsigned_abs x ≤ b → All (IsPrepended shorter b) (map (λ y. x ∷ y) shorter)
prepended_each shorter b x h = λ k d l.
    let r = from_map (λ y. x ∷ y) shorter (get_or (map (λ y. x ∷ y) shorter) k d) (Contains-get_or (map (λ y. x ∷ y) shorter) k d l) in
    record { first = x; rest = r.0; is = sym r.2; small = h; among = r.1 }

pub prepended_first : (shorter list : List Point) → list ≡ map (λ y. pos 0 ∷ y) shorter → ArePrepended shorter 0 list
prepended_first shorter list e = subst (ArePrepended shorter 0) (sym e) (record {
  each = prepended_each shorter 0 (pos 0) (omega arith);
  all = λ x y h c. let z : pos 0 ≡ x = omega (arith, ints, h) in subst (λ (a : ℤ). Contains (map (λ y. pos 0 ∷ y) shorter) (a ∷ y)) z (among_map (λ y. pos 0 ∷ y) shorter y c);
})

wider : (shorter : List Point) (b : ℕ) (z : Point) → IsPrepended shorter b z → IsPrepended shorter (b + 1) z
wider shorter b z h = record { first = h.first; rest = h.rest; is = h.is; small = (let s = h.small in omega (arith, s)); among = h.among }

pub prepended_more : (shorter list new : List Point) (b : ℕ) (x y : ℤ) → x ≡ pos (b + 1) → y ≡ neg_ℤ x → new ≡ (list ++ map (λ z. x ∷ z) shorter) ++ map (λ z. y ∷ z) shorter → ArePrepended shorter b list → ArePrepended shorter (b + 1) new
prepended_more shorter list new b x y e f g h = subst (ArePrepended shorter (b + 1)) (sym g) (record {
  each = All-append (IsPrepended shorter (b + 1)) (list ++ xs) ys
      (All-append (IsPrepended shorter (b + 1)) list xs (λ k d l. wider shorter b (get_or list k d) (h.each k d l)) (prepended_each shorter (b + 1) x (omega (arith, ints, e))))
      (prepended_each shorter (b + 1) y (omega (arith, ints, e, f)));
  all = λ a z s c. by_size a z c s;
})
  where
    xs : List Point
    xs = map (λ z. x ∷ z) shorter

    ys : List Point
    ys = map (λ z. y ∷ z) shorter

    by_size : (a : ℤ) (z : Point) → Contains shorter z → unsigned_abs a ≤ b + 1 → Contains ((list ++ xs) ++ ys) (a ∷ z)
    by_size a z c s = by_lt_z a x
        (λ below. by_lt_z y a
        (λ above. Contains-append_left (list ++ xs) ys (a ∷ z) (Contains-append_left list xs (a ∷ z) (h.all a z (omega (arith, ints, below, above, e, f, s)) c)))
        (λ least. let same : y ≡ a = omega (arith, ints, least, e, f, s) in subst (λ (m : ℤ). Contains ((list ++ xs) ++ ys) (m ∷ z)) same (Contains-append_right (list ++ xs) ys (y ∷ z) (among_map (λ z. y ∷ z) shorter z c))))
        (λ most. let same : x ≡ a = omega (arith, ints, most, e, s) in subst (λ (m : ℤ). Contains ((list ++ xs) ++ ys) (m ∷ z)) same (Contains-append_left (list ++ xs) ys (x ∷ z) (Contains-append_right list xs (x ∷ z) (among_map (λ z. x ∷ z) shorter z c))))

-- ---- one index more

pub no_vectors : (c : ℕ) (list : List Point) → list ≡ [] ∷ [] → AreVectorsOf c 0 list
no_vectors c list e = subst (AreVectorsOf c 0) (sym e) (record { each = All-push (IsVectorOf c 0) [] [] (All-nil (IsVectorOf c 0)) (record { size = refl; entries = All-nil (λ x. unsigned_abs x ≤ c) }); all = empty })
  where
    empty : (z : Point) → IsVectorOf c 0 z → Contains ([] ∷ []) z
    empty [] h = first_among [] []
    empty (x ∷ z) h = absurd (let s = h.size in omega (arith, s))

pub more_vectors : (c n : ℕ) (shorter list : List Point) → AreVectorsOf c n shorter → ArePrepended shorter c list → AreVectorsOf c (n + 1) list
more_vectors c n shorter list h p = record { each = λ k d l. of_prepended (get_or list k d) (p.each k d l); all = found }
  where
    of_prepended : (z : Point) → IsPrepended shorter c z → IsVectorOf c (n + 1) z
    of_prepended z q =
        let v = All-contains (IsVectorOf c n) shorter q.rest h.each q.among in
        subst (IsVectorOf c (n + 1)) (sym q.is) (record {
          size = (let s = v.size in omega (arith, s));
          entries = All-from_recursion (λ x. unsigned_abs x ≤ c) (q.first ∷ q.rest) (q.small, recursion_from_All (λ x. unsigned_abs x ≤ c) q.rest v.entries);
        })

    found : (z : Point) → IsVectorOf c (n + 1) z → Contains list z
    found [] v = absurd (let s = v.size in omega (arith, s))
    found (x ∷ z) v =
        let a = recursion_from_All (λ x. unsigned_abs x ≤ c) (x ∷ z) v.entries in
        p.all x z a.0 (h.all z (record { size = (let s = v.size in omega (arith, s)); entries = All-from_recursion (λ x. unsigned_abs x ≤ c) z a.1 }))

pub short_vectors : (c n : ℕ) (list : List Point) → n < 4 → AreVectorsOf c n list → All (λ y. length y < 4) list
short_vectors c n list l h = λ k d m. let s = (h.each k d m).size in omega (arith, l, s)

-- ---- without the one of zeros

pub parts_first : (c n : ℕ) (points : List Point) → AreLinearPartsTo c n points 0 []
parts_first c n points = record { each = All-nil (IsLinearPart c n); all = λ z h p. absurd (none_taken points z h) }
  where
    none_taken : (xs : List Point) (z : Point) → Contains (take 0 xs) z → ⊥
    none_taken [] z h = none_among z h
    none_taken (x ∷ xs) z h = none_among z h

module _ (c n : ℕ) (points list : List Point) (k : ℕ) (p q : Point) (all : AreVectorsOf c n points) (l : k < length points) (is : p ≡ get_or points k p) (h : AreLinearPartsTo c n points k list) where
  pub parts_skip : 0 < n → (Any (λ x. x ≢ pos 0) p → ⊥) → AreLinearPartsTo c n points (k + 1) list
  parts_skip some zeros = record {
    each = h.each;
    all = λ z c own. ⊎_elim
        (λ old. h.all z old own)
        (λ same. absurd (zeros (subst (Any (λ x. x ≢ pos 0)) (sym same) (own.not_zero some))))
        (Contains-push_cases (take k points) p z (subst (λ (xs : List Point). Contains xs z) (take_more points k p p l is refl) c));
  }

  pub parts_more : q ≡ p → (0 < n → Any (λ x. x ≢ pos 0) p) → AreLinearPartsTo c n points (k + 1) (list ++ q ∷ [])
  parts_more e some =
      let v = subst (IsVectorOf c n) (sym is) (all.each k p l) in
      let own : IsLinearPart c n p = record { size = v.size; entries = v.entries; not_zero = some } in
      record {
        each = All-push (IsLinearPart c n) list q h.each (subst (IsLinearPart c n) (sym e) own);
        all = λ z c part. ⊎_elim
            (λ old. Contains-append_left list (q ∷ []) z (h.all z old part))
            (λ same. Contains-append_right list (q ∷ []) z (subst (Contains (q ∷ [])) (e ∙ same) (first_among q [])))
            (Contains-push_cases (take k points) p z (subst (λ (xs : List Point). Contains xs z) (take_more points k p p l is refl) c));
      }

pub parts_all : (c n : ℕ) (points list : List Point) (k : ℕ) → AreVectorsOf c n points → length points ≤ k → AreLinearPartsTo c n points k list → AreLinearPartsOf c n list
parts_all c n points list k all l h = record {
  each = h.each;
  all = λ z p. h.all z (subst (λ (xs : List Point). Contains xs z) (sym (take_whole points k l)) (all.all z (record { size = p.size; entries = p.entries }))) p;
}
