-- One step of elimination, as a function of the rows: rows without the index stay, and each row that bounds it from below is
-- combined with each that bounds it from above (Fourier, Motzkin).
use Rattle.std.specs.Prelude.{ℕ, zero, suc, ◌^◌, ◌*◌, ℤ, pos, cond, List, [], ◌∷◌, ◌++◌, int_lt}
use Rattle.std.specs.Ordering.{int_eq}
use Rattle.std.proofs.Math.IntN.{neg_ℤ}
use Rattle.av_elim.specs.inner.Rows.{combine, factor}

-- the combination of a row that bounds place k from below and one that bounds it from above
abbrev pub combination : ℕ → List ℤ → List ℤ → List ℤ
combination k p n = combine (factor k p) (neg_ℤ (factor k n)) p n

-- those of p with each row that bounds from above
abbrev pub pairs_of : ℕ → List ℤ → List (List ℤ) → List (List ℤ)
pairs_of k p [] = []
pairs_of k p (n ∷ rows) = cond (int_lt (factor k n) (pos 0)) (combination k p n ∷ pairs_of k p rows) (pairs_of k p rows)

-- those of each row that bounds from below
abbrev pub all_pairs : ℕ → List (List ℤ) → List (List ℤ) → List (List ℤ)
all_pairs k [] rows = []
all_pairs k (p ∷ ps) rows = cond (int_lt (pos 0) (factor k p)) (pairs_of k p rows ++ all_pairs k ps rows) (all_pairs k ps rows)

-- the rows without place k
abbrev pub flats : ℕ → List (List ℤ) → List (List ℤ)
flats k [] = []
flats k (r ∷ rows) = cond (int_eq (factor k r) (pos 0)) (r ∷ flats k rows) (flats k rows)

abbrev pub eliminated : ℕ → List (List ℤ) → List (List ℤ)
eliminated k rows = flats k rows ++ all_pairs k rows rows

-- the bound on coefficients after some steps
abbrev pub growth : ℕ → ℕ
growth zero = 2 ^ 10
growth (suc n) = 2 * growth n * growth n
