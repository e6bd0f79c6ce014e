-- Rows of marks for the first nodes, one more at a time.
use Rattle.std.proofs.Common.{◌≡◌, ℕ, ◌+◌, ◌<◌, ◌≤◌, Bool, List, [], ◌∷◌, ◌++◌, length, get_or, ⊎_elim, refl, sym, subst, ◌∙◌, arith, length-append}
use Rattle.std.proofs.lemmas.Bool.{cases_eq}
use Rattle.std.proofs.lemmas.List.{get_or_append_left, get_or_push}
use Rattle.av_depend.specs.inner.Reaching.{IsReached, AreReached}

-- the marks for the first k of n nodes
pub record AreReachedTo (n : ℕ) (R : ℕ → ℕ → Type 0) (k : ℕ) (rows : List (List Bool)) : Type 0 where
  pub size : length rows ≡ k
  pub each : (u : ℕ) → u < k → IsReached n R u (get_or rows u [])

pub no_rows : (n : ℕ) (R : ℕ → ℕ → Type 0) → AreReachedTo n R 0 []
no_rows n R = record { size = refl; each = λ u l. absurd (omega (arith, l)) }

pub rows_more : (n k : ℕ) (R : ℕ → ℕ → Type 0) (rows : List (List Bool)) (row : List Bool) → AreReachedTo n R k rows → IsReached n R k row → AreReachedTo n R (k + 1) (rows ++ row ∷ [])
rows_more n k R rows row h r = record {
  size = (let s = h.size in omega (arith, length-append rows (row ∷ []), s));
  each = λ u l. ⊎_elim
      (λ same. subst (IsReached n R u) (sym (last_row rows row u (h.size ∙ sym same))) (subst (λ (i : ℕ). IsReached n R i row) (sym same) r))
      (λ differ. let m : u < k = omega (arith, l, differ) in let s = h.size in subst (IsReached n R u) (sym (old_row rows row u (omega (arith, m, s)))) (h.each u m))
      (cases_eq u k);
}
  where
    old_row : (rows : List (List Bool)) (row : List Bool) (u : ℕ) → u < length rows → get_or (rows ++ row ∷ []) u [] ≡ get_or rows u []
    old_row rows row u l = get_or_append_left rows (row ∷ []) [] u l

    last_row : (rows : List (List Bool)) (row : List Bool) (u : ℕ) → length rows ≡ u → get_or (rows ++ row ∷ []) u [] ≡ row
    last_row rows row u e = get_or_push rows row [] u e

pub rows_all : (n k : ℕ) (R : ℕ → ℕ → Type 0) (rows : List (List Bool)) → n ≤ k → k ≤ n → AreReachedTo n R k rows → AreReached n R rows
rows_all n k R rows a b h = record {
  size = (let s = h.size in omega (arith, s, a, b));
  each = λ u l. h.each u (omega (arith, l, a));
}
