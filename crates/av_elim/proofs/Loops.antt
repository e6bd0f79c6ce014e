-- One turn of each loop over rows.
use Rattle.std.proofs.Common.{◌≡◌, ℕ, suc, ◌+◌, ◌<◌, ℤ, pos, ◌≤◌, List, [], ◌∷◌, ◌++◌, length, get_or, drop, drop-cons, add-one, refl, ap, sym, ◌∙◌, subst, cond, true, false, int_lt, append_assoc}
use Rattle.std.proofs.lemmas.List.{drop_all}
use Rattle.std.specs.Ordering.{int_eq}
use Rattle.av_affine.specs.declared.form.Form.{Form}
use Rattle.av_poly.specs.Rational.{homogeneous}
use Rattle.av_elim.specs.declared.span.Span.{Span}
use Rattle.av_elim.specs.inner.Rows.{line, factor, StandsFor}
use Rattle.av_elim.specs.inner.Step.{pairs_of, all_pairs, flats, combination}
use Rattle.av_elim.specs.inner.Span.{scanned, stepped}
use Rattle.av_elim.proofs.Merging.{stands_after, stands_before}

-- rows more are out
pub grown_by : (out new rs more less all : List (List ℤ)) → StandsFor (out ++ rs) new → more ≡ rs ++ less → StandsFor all (out ++ more) → StandsFor all (new ++ less)
grown_by out new rs more less all s f h =
    stands_after all (out ++ more) (new ++ less) h
    (subst (λ (z : List (List ℤ)). StandsFor z (new ++ less)) (append_assoc out rs less ∙ ap (λ z. out ++ z) (sym f)) (stands_before (out ++ rs) new less s))

pub grown : (out new : List (List ℤ)) (r : List ℤ) (more less all : List (List ℤ)) → StandsFor (out ++ r ∷ []) new → more ≡ r ∷ less → StandsFor all (out ++ more) → StandsFor all (new ++ less)
grown out new r more less all s f h = grown_by out new (r ∷ []) more less all s f h

pub append_none : (xs : List (List ℤ)) → xs ++ [] ≡ xs
append_none [] = refl
append_none (x ∷ xs) = ap (λ z. x ∷ z) (append_none xs)

pub homogeneous_push : (rows : List Form) (r : Form) → homogeneous (rows ++ r ∷ []) ≡ homogeneous rows ++ line r ∷ []
homogeneous_push [] r = refl
homogeneous_push (x ∷ rows) r = ap (λ z. line x ∷ z) (homogeneous_push rows r)

pub scanned_append : (k : ℕ) (xs ys : List (List ℤ)) (g : Span) → scanned k (xs ++ ys) g ≡ scanned k ys (scanned k xs g)
scanned_append k [] ys g = refl
scanned_append k (x ∷ xs) ys g = scanned_append k xs ys (stepped (factor k x) (factor 0 x) g)

-- the next row of those that are left
module _ (rows : List Form) (i : ℕ) (d : Form) (h : i < length rows) where
  pub next_row : homogeneous (drop i rows) ≡ line (get_or rows i d) ∷ homogeneous (drop (i + 1) rows)
  next_row = rw (add-one, drop-cons rows i d) refl

  module _ (k : ℕ) (p : List ℤ) where
    pub pairs_in : int_lt (factor k (line (get_or rows i d))) (pos 0) ≡ true → pairs_of k p (homogeneous (drop i rows)) ≡ combination k p (line (get_or rows i d)) ∷ pairs_of k p (homogeneous (drop (i + 1) rows))
    pairs_in t = rw (add-one, drop-cons rows i d) (ap (λ b. cond b (combination k p (line (get_or rows i d)) ∷ pairs_of k p (homogeneous (drop (suc i) rows))) (pairs_of k p (homogeneous (drop (suc i) rows)))) t)

    pub pairs_out : int_lt (factor k (line (get_or rows i d))) (pos 0) ≡ false → pairs_of k p (homogeneous (drop i rows)) ≡ pairs_of k p (homogeneous (drop (i + 1) rows))
    pairs_out t = rw (add-one, drop-cons rows i d) (ap (λ b. cond b (combination k p (line (get_or rows i d)) ∷ pairs_of k p (homogeneous (drop (suc i) rows))) (pairs_of k p (homogeneous (drop (suc i) rows)))) t)

  module _ (k : ℕ) where
    pub flats_in : int_eq (factor k (line (get_or rows i d))) (pos 0) ≡ true → flats k (homogeneous (drop i rows)) ≡ line (get_or rows i d) ∷ flats k (homogeneous (drop (i + 1) rows))
    flats_in t = rw (add-one, drop-cons rows i d) (ap (λ b. cond b (line (get_or rows i d) ∷ flats k (homogeneous (drop (suc i) rows))) (flats k (homogeneous (drop (suc i) rows)))) t)

    pub flats_out : int_eq (factor k (line (get_or rows i d))) (pos 0) ≡ false → flats k (homogeneous (drop i rows)) ≡ flats k (homogeneous (drop (i + 1) rows))
    flats_out t = rw (add-one, drop-cons rows i d) (ap (λ b. cond b (line (get_or rows i d) ∷ flats k (homogeneous (drop (suc i) rows))) (flats k (homogeneous (drop (suc i) rows)))) t)

    pub all_in : (all : List (List ℤ)) → int_lt (pos 0) (factor k (line (get_or rows i d))) ≡ true → all_pairs k (homogeneous (drop i rows)) all ≡ pairs_of k (line (get_or rows i d)) all ++ all_pairs k (homogeneous (drop (i + 1) rows)) all
    all_in all t = rw (add-one, drop-cons rows i d) (ap (λ b. cond b (pairs_of k (line (get_or rows i d)) all ++ all_pairs k (homogeneous (drop (suc i) rows)) all) (all_pairs k (homogeneous (drop (suc i) rows)) all)) t)

    pub all_out : (all : List (List ℤ)) → int_lt (pos 0) (factor k (line (get_or rows i d))) ≡ false → all_pairs k (homogeneous (drop i rows)) all ≡ all_pairs k (homogeneous (drop (i + 1) rows)) all
    all_out all t = rw (add-one, drop-cons rows i d) (ap (λ b. cond b (pairs_of k (line (get_or rows i d)) all ++ all_pairs k (homogeneous (drop (suc i) rows)) all) (all_pairs k (homogeneous (drop (suc i) rows)) all)) t)

-- after the last row
pub none_left : (rows : List Form) (i : ℕ) → length rows ≤ i → homogeneous (drop i rows) ≡ []
none_left rows i h = ap homogeneous (drop_all i rows h)
