-- What trees have at a point: a word, or none and whom this is blamed on. Only private contracts cite this.
use Rattle.std.specs.Prelude.{◌≡◌, ◌≢◌, ℕ, if◌then◌else◌, List, Option, Some, None}
use Rattle.av_tree.specs.Points.{Point}
use Rattle.av_flat.specs.Trees.{Tree, Trees}
use Rattle.av_flat.specs.Signatures.{Signature, is_declared_at}
use Rattle.av_flat.specs.Counts.{count, count_all}
use Rattle.av_check.specs.declared.verdict.Verdict.{Verdict}
use Rattle.av_check.specs.declared.verdict.Verdict.TheVariants as verdict
use Rattle.av_check.specs.Blame.{Blamed, blamed, blamed_of_all}

-- of what has n words, and this blame where it has none
abbrev pub IsOf : ℕ → Option Blamed → Verdict → Type 0
IsOf n blame verdict.Counted = n ≢ 0
IsOf n blame (verdict.Missing own) = (n ≡ 0) × (own ≡ blame)

abbrev pub IsVerdict : List Signature → Tree → Point → Verdict → Type 0
IsVerdict vs t z = IsOf (count vs t z) (blamed vs t z)

abbrev pub IsVerdictOfAll : List Signature → Trees → Point → Verdict → Type 0
IsVerdictOfAll vs ts z = IsOf (count_all vs ts z) (blamed_of_all vs ts z)

-- of a reference that reads this point
abbrev pub IsReading : List Signature → ℕ → Point → Verdict → Type 0
IsReading vs place y = IsOf (if is_declared_at vs place y then 1 else 0) (if is_declared_at vs place y then None else Some (record { var = place; point = y }))
