-- Laws: rays and unbounded indices, and that answers exclude each other.
use Rattle.std.proofs.Common.{◌≡◌, ◌≢◌, ℕ, zero, suc, ◌<◌, ◌≤◌, arith, ℤ, pos, ◌+ℤ◌, ◌-ℤ◌, ◌*ℤ◌, ◌≤ℤ◌, ◌<ℤ◌, ⊎_elim, List, length, refl, ap, sym, ◌∙◌, subst, Option, Some, None}
use Rattle.std.proofs.lemmas.Int.{ints}
use Rattle.std.proofs.lemmas.Bool.{cases_eq, cases_lt}
use Rattle.std.proofs.lemmas.List.{get_or_default, get_or_past}
use Rattle.std.specs.List.{Any}
use Rattle.av_affine.proofs.Ring.{ring}
use Rattle.av_poly.specs.Points.{Set}
use Rattle.av_poly.specs.declared.poly.Bounds.{Bounds}
use Rattle.av_poly.specs.Rational.{entry_of, homogeneous, HasRationalPoint, HasRationalRay, IsDirection, HasRayAlong, IsBounded, IsEndless, Spans, AreBounds, IsFirstEndless, HasNoBounds}
use Rattle.av_elim.specs.declared.bounding.Elim.{Elim}
use Rattle.av_elim.specs.declared.bounding.Elim.TheVariants.{Constraints, Unbounded, Empty, Memory}
use Rattle.av_elim.specs.declared.span.Span.{Span}
use Rattle.av_elim.specs.Faults.{IsCause}
use Rattle.av_elim.specs.inner.Rows.{Shadow, Clear}
use Rattle.av_elim.specs.inner.Span.{Tells, scanned, whole}
use Rattle.av_elim.specs.inner.Step.{eliminated}
use Rattle.av_elim.proofs.Steps.{projects}
use Rattle.av_elim.proofs.Growth.{clear_here, clear_kept}
use Rattle.av_elim.proofs.Merging.{stands_same}
use Rattle.av_elim.proofs.Shadows.{shadow_none, shadow_more}
use Rattle.av_elim.proofs.Telling.{tells}
use Rattle.av_elim.proofs.Answering.{bounded, ray_below, ray_above, endless_below, endless_above}

-- ---- each index has a span

-- the places 1 to j are projected away, but for k
record Left (k : ℕ) (rows : List (List ℤ)) (j : ℕ) : Type 0 where
  pub out : List (List ℤ)
  pub shadow : Shadow (suc j) k rows out
  pub clear : (i : ℕ) → 0 < i → i ≤ j → i ≢ k → Clear i out

left : (k : ℕ) (rows : List (List ℤ)) (j : ℕ) → Left k rows j
left k rows zero = record { out = rows; shadow = shadow_none 1 k rows rows (stands_same rows); clear = λ i a b. absurd (omega arith) }
left k rows (suc j) =
    let l = left k rows j in
    ⊎_elim
    (λ e. record {
      out = l.out;
      shadow = record { kept = l.shadow.kept; back = λ v o h s. l.shadow.back v o (omega arith) s };
      clear = λ i a b n. l.clear i a (omega arith) n;
    })
    (λ n. record {
      out = eliminated (suc j) l.out;
      shadow = shadow_more (suc j) (suc (suc j)) k (suc j) rows l.out (eliminated (suc j) l.out) (omega arith) n (omega arith) (omega arith) l.shadow (projects (suc j) l.out);
      clear = λ i a b m. ⊎_elim (λ q. subst (λ (z : ℕ). Clear z (eliminated (suc j) l.out)) (sym q) (clear_here (suc j) l.out)) (λ q. clear_kept i (suc j) l.out (l.clear i a (omega arith) m)) (cases_eq i (suc j));
    })
    (cases_eq (suc j) k)

has_span : (dim i : ℕ) (rows : List (List ℤ)) → i < dim → (g : Span) × Tells dim rows i g
has_span dim i rows within =
    let l = left (suc i) rows dim in
    (scanned (suc i) l.out whole, tells dim i (suc dim) rows l.out within (omega arith) l.shadow (λ j a n b. l.clear j a b n))

-- ---- rays

endless_not_bounded : (dim i : ℕ) (rows : List (List ℤ)) → IsBounded dim rows i → IsEndless dim rows i → ⊥
endless_not_bounded dim i rows b e = ⊎_elim
    (λ f. let p = f (b.below.0 -ℤ pos 1) in let q = b.below.1 p.0 p.1 p.2 in apart b.below.0 p.0 (entry_of p.1 i) p.2.positive q p.3)
    (λ f. let p = f (b.above.0 +ℤ pos 1) in let q = b.above.1 p.0 p.1 p.2 in over b.above.0 p.0 (entry_of p.1 i) p.2.positive q p.3)
    e
  where
    apart : (x m y : ℤ) → pos 0 <ℤ m → (x *ℤ m) ≤ℤ y → y ≤ℤ ((x -ℤ pos 1) *ℤ m) → ⊥
    apart x m y h k l = omega (arith, ints, k, simp ring at l)

    over : (x m y : ℤ) → pos 0 <ℤ m → y ≤ℤ (x *ℤ m) → ((x +ℤ pos 1) *ℤ m) ≤ℤ y → ⊥
    over x m y h k l = omega (arith, ints, k, simp ring at l)

by_option : {P : Type 0} (o : Option ℤ) → (o ≡ None → P) → ((x : ℤ) → o ≡ Some x → P) → P
by_option None f g = f refl
by_option (Some x) f g = g x refl

entry_any : (d : List ℤ) (i : ℕ) → entry_of d i ≢ pos 0 → Any (λ x. x ≢ pos 0) d
entry_any d i n = ⊎_elim
    (λ l. (i, entry_of d i, l, get_or_default d i (entry_of d i) (pos 0) l, n))
    (λ l. absurd (n (get_or_past d i (pos 0) l)))
    (cases_lt i (length d))

pub ray_of_endless : (dim i : ℕ) (rows : List (List ℤ)) → i < dim → IsEndless dim rows i → HasRationalRay dim rows
ray_of_endless dim i rows within e =
    let s = has_span dim i rows within in
    let g = s.0 in
    let r : HasRayAlong dim rows i = by_option g.low
    (λ n. ray_below dim i rows g s.1 n)
    (λ l a. by_option g.high (λ n. ray_above dim i rows g s.1 n) (λ h b. absurd (endless_not_bounded dim i rows (bounded dim i rows g s.1 l h a b) e))) in
    (r.0, (r.1, entry_any r.0 i r.2))

-- a direction that moves an index leaves one of its sides unbounded
endless_of_entry : (dim i : ℕ) (rows : List (List ℤ)) (d : List ℤ) → i < dim → HasRationalPoint dim rows → IsDirection dim rows d → entry_of d i ≢ pos 0 → IsEndless dim rows i
endless_of_entry dim i rows d within p r n =
    let s = has_span dim i rows within in
    let g = s.0 in
    let flat = (s.1.near p.0 p.1 p.2).flat in
    by_option g.low
    (λ e. (endless_below dim i rows g s.1 flat e).1)
    (λ l a. by_option g.high (λ e. (endless_above dim i rows g s.1 flat e).1) (λ h b. absurd (n ((bounded dim i rows g s.1 l h a b).no_ray d r))))

pub endless_of_ray : (dim : ℕ) (rows : List (List ℤ)) → HasRationalPoint dim rows → HasRationalRay dim rows → (i : ℕ) × (i < dim) × IsEndless dim rows i
endless_of_ray dim rows p w =
    let d = w.0 in
    let r = w.1.0 in
    let i = w.1.1.0 in
    let x = w.1.1.1 in
    let l = w.1.1.2 in
    let e = w.1.1.3 in
    let n = w.1.1.4 in
    let within : i < dim = subst (λ (k : ℕ). i < k) r.size l in
    let same : entry_of d i ≡ x = get_or_default d i (pos 0) x l ∙ e in
    (i, within, endless_of_entry dim i rows d within p r (λ z. n (sym same ∙ z)))

-- ---- one answer

same_ends : (dim i : ℕ) (rows : List (List ℤ)) (l h l' h' : ℤ) → Spans dim rows i l h → Spans dim rows i l' h' → (l ≡ l') × (h ≡ h')
same_ends dim i rows l h l' h' s t =
    let a = s.least l' t.low_within in
    let b = t.least l s.low_within in
    let c = s.greatest h' t.high_within in
    let d = t.greatest h s.high_within in
    (omega (arith, ints, a, b), omega (arith, ints, c, d))

pub same_bounds : (set : Set) (some other : Bounds) (i : ℕ) → AreBounds set some → AreBounds set other → (entry_of some.low i ≡ entry_of other.low i) × (entry_of some.high i ≡ entry_of other.high i)
same_bounds set some other i s t = ⊎_elim
    (λ l. same_ends set.dim i (homogeneous set.rows) (entry_of some.low i) (entry_of some.high i) (entry_of other.low i) (entry_of other.high i) (s.spans i l) (t.spans i l))
    (λ l. let a = s.rest i l in let b = t.rest i l in (a.0 ∙ sym b.0, a.1 ∙ sym b.1))
    (cases_lt i set.dim)

not_endless : (set : Set) (some : Bounds) (i : ℕ) → AreBounds set some → IsFirstEndless set i → ⊥
not_endless set some i s e = endless_not_bounded set.dim i (homogeneous set.rows) (s.spans i e.within).bounded e.endless

not_none : (set : Set) (some : Bounds) → AreBounds set some → HasNoBounds set → ⊥
not_none set some s n = ⊎_elim (λ none. none s.point) (λ g. g.no_whole (entry_of some.low g.gap) (s.spans g.gap g.within).low_within) n

pub not_both : (set : Set) (some : Bounds) (cause : Elim) → length set.rows ≤ 20 → AreBounds set some → IsCause set cause → cause ≡ Memory
not_both set some (Constraints n) l s c = absurd (omega (arith, l, c.1))
not_both set some (Unbounded i) l s c = absurd (not_endless set some i s c.1)
not_both set some Empty l s c = absurd (not_none set some s c.1)
not_both set some Memory l s c = refl

endless_or_none : (set : Set) (i : ℕ) → IsFirstEndless set i → HasNoBounds set → ⊥
endless_or_none set i e n = ⊎_elim (λ none. none e.point) (λ g. endless_not_bounded set.dim i (homogeneous set.rows) (g.bounded i e.within) e.endless) n

one_index : (set : Set) (i j : ℕ) → IsFirstEndless set i → IsFirstEndless set j → i ≡ j
one_index set i j a b = ⊎_elim
    (λ l. absurd (endless_not_bounded set.dim i (homogeneous set.rows) (b.before i l) a.endless))
    (λ l. ⊎_elim
    (λ k. absurd (endless_not_bounded set.dim j (homogeneous set.rows) (a.before j k) b.endless))
    (λ k. omega arith)
    (cases_lt j i))
    (cases_lt i j)

pub one_cause : (set : Set) (some other : Elim) → IsCause set some → IsCause set other → some ≢ Memory → other ≢ Memory → some ≡ other
one_cause set (Constraints n) (Constraints m) c d a b = ap Constraints (c.0 ∙ sym d.0)
one_cause set (Constraints n) (Unbounded i) c d a b = absurd (omega (arith, c.0, c.1, d.0))
one_cause set (Constraints n) Empty c d a b = absurd (omega (arith, c.0, c.1, d.0))
one_cause set (Unbounded i) (Constraints m) c d a b = absurd (omega (arith, d.0, d.1, c.0))
one_cause set (Unbounded i) (Unbounded j) c d a b = ap Unbounded (one_index set i j c.1 d.1)
one_cause set (Unbounded i) Empty c d a b = absurd (endless_or_none set i c.1 d.1)
one_cause set Empty (Constraints m) c d a b = absurd (omega (arith, d.0, d.1, c.0))
one_cause set Empty (Unbounded j) c d a b = absurd (endless_or_none set j d.1 c.1)
one_cause set Empty Empty c d a b = refl
one_cause set Memory other c d a b = absurd (a refl)
one_cause set some Memory c d a b = absurd (b refl)
