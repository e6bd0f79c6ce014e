-- How many chains there are, as 128 bits hold it. Only private contracts cite this.
use Rattle.std.specs.Prelude.{◌≡◌, ℕ, ◌-◌, ◌^◌, min}

-- a number of which this is said, where what 128 bits do not hold counts as the greatest that they do
pub record IsCapped (P : ℕ → Type 0) (n : ℕ) : Type 0 where
  pub number : ℕ
  pub counted : P number
  pub is : n ≡ min number (2 ^ 128 - 1)
