-- Directions of helpers have an entry for each index, and small ones.
use Rattle.std.proofs.Common.{◌≡◌, ℕ, ◌≤◌, ℤ, Some, length, arith}
use Rattle.std.specs.Int.RustNames.{unsigned_abs}
use Rattle.std.proofs.lemmas.List.Elements.{All-weaker}
use Rattle.av_affine.specs.declared.map.Map.{Map}
use Rattle.av_affine.specs.Numbers.{AtMost}
use Rattle.av_tree.specs.Points.{Point}
use Rattle.av_flat.specs.Broadcasts.{first_moving}
use Rattle.av_flat.proofs.SignVectors.{moving_vector}

pub record IsStep (n : ℕ) (w : Point) : Type 0 where
  pub size : length w ≡ n
  pub small : AtMost 4095 w

pub first_step : (linear w : Point) (m : Map) → first_moving linear m ≡ Some w → IsStep m.from w
first_step linear w m e =
    let v = moving_vector linear w m e in
    record { size = v.size; small = All-weaker (λ (x : ℤ). unsigned_abs x ≤ 1) (λ (x : ℤ). unsigned_abs x ≤ 4095) (λ x h. omega (arith, h)) w v.entries }
