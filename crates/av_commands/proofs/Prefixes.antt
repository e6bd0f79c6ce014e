-- Texts that are written line by line.
use Rattle.std.proofs.Common.{◌≡◌, ℕ, zero, suc, ◌<◌, List, [], ◌++◌, sym, ap, ◌∙◌, arith, inl, inr, append_assoc}
use Rattle.std.proofs.lemmas.Bool.{cases_lt}
use Rattle.std.proofs.lemmas.List.{append-nil}

-- the first n lines begin with fewer lines and the next one
pub lines_split : (lines line : ℕ → List ℕ) → ((n : ℕ) → lines (suc n) ≡ lines n ++ line n) → (c n : ℕ) → c < n → (rest : List ℕ) × (lines n ≡ lines c ++ (line c ++ rest))
lines_split lines line more c zero lt = absurd (omega arith)
lines_split lines line more c (suc n) lt = elim (cases_lt c n) [
  | inl less ↦
      let (rest, is) = lines_split lines line more c n less in (
        rest ++ line n,
        more n ∙ ap (λ z. z ++ line n) is ∙ append_assoc (lines c) (line c ++ rest) (line n) ∙ ap (λ z. lines c ++ z) (append_assoc (line c) rest (line n)),
      )
  | inr ge ↦
      let same : n ≡ c = omega (arith, ge, lt) in
      ([], more n ∙ ap (λ k. lines k ++ line k) same ∙ ap (λ z. lines c ++ z) (sym (append-nil (line c))))
]
