-- Fibres of reductions and folds over them (a reduction's fold, and its value on an empty fibre, are this
-- project's; after Wilde's reports).
use Rattle.std.specs.Prelude.{◌≡◌, ℕ, ℤ, ◌<ℤ◌, ◌⊎◌, List, [], ◌∷◌}
use Rattle.std.specs.List.{AllByRecursion, fold}
use Rattle.av_base.specs.declared.word.Op.{Op}
use Rattle.av_base.specs.declared.word.Op.TheVariants as op
use Rattle.av_base.specs.Words.{sum, product, lesser, greater, identity}

-- ---- ascending lists

-- each number is below all that follow it
abbrev pub IsAscending : List ℤ → Type 0
IsAscending [] = Unit {0}
IsAscending (k ∷ ks) = AllByRecursion (λ j. k <ℤ j) ks × IsAscending ks

abbrev pub IsAmong : ℤ → List ℤ → Type 0
IsAmong k [] = ⊥
IsAmong k (j ∷ js) = (k ≡ j) ⊎ IsAmong k js

-- the numbers of which P holds, in ascending order
pub record IsListOf (P : ℤ → Type 0) (ks : List ℤ) : Type 0 where
  pub ascending : IsAscending ks
  pub each : (k : ℤ) → IsAmong k ks → P k
  pub all : (k : ℤ) → P k → IsAmong k ks

-- a word for each number, in the same order
abbrev pub ArePaired : (ℤ → ℕ → Type 0) → List ℤ → List ℕ → Type 0
ArePaired R [] [] = Unit {0}
ArePaired R [] (w ∷ words) = ⊥
ArePaired R (k ∷ ks) [] = ⊥
ArePaired R (k ∷ ks) (w ∷ words) = R k w × ArePaired R ks words

-- ---- folds

abbrev pub joined : ℕ → Op → ℕ → ℕ → ℕ
joined width op.Add a b = sum width a b
joined width op.Mul a b = product width a b
joined width op.Min a b = lesser width a b
joined width op.Max a b = greater width a b

-- the words joined from the identity on, in order
abbrev pub folded : ℕ → Op → List ℕ → ℕ
folded width o words = fold (joined width o) (identity width o) words

-- w is the fold of the words that R gives over the fibre: the numbers at which the count is 1
pub record IsFolded (counts : ℤ → ℕ) (R : ℤ → ℕ → Type 0) (f : List ℕ → ℕ) (w : ℕ) : Type 0 where
  pub fibre : List ℤ
  pub words : List ℕ
  pub is_fibre : IsListOf (λ k. counts k ≡ 1) fibre
  pub paired : ArePaired R fibre words
  pub is : w ≡ f words
