-- The point before another, entry by entry.
use Rattle.std.proofs.Common.{◌≡◌, ℕ, zero, suc, ◌+◌, ◌^◌, ◌<◌, ◌≤◌, ℤ, pos, ◌-ℤ◌, [], ◌∷◌, ◌++◌, length, drop, get_or, append_assoc, length-append, add-one, refl, sym, subst, ◌∙◌, ap, ap₂, arith}
use Rattle.std.specs.Prelude.{unsigned_abs}
use Rattle.std.proofs.lemmas.Int.{ints}
use Rattle.std.proofs.lemmas.List.Elements.{All-push}
use Rattle.av_affine.specs.Numbers.{AtMost}
use Rattle.av_tree.specs.Points.{Point}
use Rattle.av_flat.specs.Helped.{before}

no_step : (z : Point) → before z [] ≡ z
no_step [] = refl
no_step (x ∷ z) = refl

nil_step : (z : Point) (k : ℕ) → k < length z → before (drop k z) [] ≡ (get_or z k (pos 0) -ℤ pos 0) ∷ before (drop (suc k) z) []
nil_step [] k l = absurd (omega (arith, l))
nil_step (x ∷ z) zero l = ap₂ (λ a b. a ∷ b) (omega (arith, ints)) (sym (no_step z))
nil_step (x ∷ z) (suc k) l = nil_step z k (omega (arith, l))

one_step : (z w : Point) (k : ℕ) → k < length z → before (drop k z) (drop k w) ≡ (get_or z k (pos 0) -ℤ get_or w k (pos 0)) ∷ before (drop (suc k) z) (drop (suc k) w)
one_step [] w k l = absurd (omega (arith, l))
one_step (x ∷ z) [] zero l = nil_step (x ∷ z) 0 l
one_step (x ∷ z) (y ∷ w) zero l = refl
one_step (x ∷ z) [] (suc k) l = nil_step z k (omega (arith, l))
one_step (x ∷ z) (y ∷ w) (suc k) l = one_step z w k (omega (arith, l))

pub same_size : (z w : Point) → length (before z w) ≡ length z
same_size [] w = refl
same_size (x ∷ z) [] = refl
same_size (x ∷ z) (y ∷ w) = ap suc (same_size z w)

-- the entries so far are the first of the point before
pub record AreFirst (z w : Point) (k : ℕ) (entries : Point) : Type 0 where
  pub rest : entries ++ before (drop k z) (drop k w) ≡ before z w
  pub small : AtMost (2 ^ 25) entries
  pub size : length entries ≡ k

pub one_entry_more : (z w entries more : Point) (k : ℕ) (x : ℤ) → k < length z → x ≡ get_or z k (pos 0) -ℤ get_or w k (pos 0) → unsigned_abs x ≤ 2 ^ 25 → more ≡ entries ++ x ∷ []
    → AreFirst z w k entries → AreFirst z w (k + 1) more
one_entry_more z w entries more k x l is few e h = record {
  rest = ap (λ (l : Point). l ++ before (drop (k + 1) z) (drop (k + 1) w)) e ∙ append_assoc entries (x ∷ []) (before (drop (k + 1) z) (drop (k + 1) w))
      ∙ ap (λ (a : ℤ). entries ++ a ∷ before (drop (k + 1) z) (drop (k + 1) w)) is ∙ ap (λ (l : Point). entries ++ l) (sym (one_step z w k l ∙ ap (λ n. (get_or z k (pos 0) -ℤ get_or w k (pos 0)) ∷ before (drop n z) (drop n w)) (sym (add-one k)))) ∙ h.rest;
  small = subst (AtMost (2 ^ 25)) (sym e) (All-push (λ y. unsigned_abs y ≤ 2 ^ 25) entries x h.small few);
  size = ap (length {A = ℤ}) e ∙ length-append entries (x ∷ []) ∙ ap (λ n. n + 1) h.size;
}
