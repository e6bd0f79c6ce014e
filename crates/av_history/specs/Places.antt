-- The places of plain trees that read, by their numbers.
use Rattle.std.specs.Prelude.{ℕ, ◌+◌, length}
use Rattle.av_flat.specs.Trees.{Tree, reference, constant, binary, choice, pick}
use Rattle.av_flat.specs.Broadcasts.{references}
use Rattle.av_kinds.specs.Programs.{site_count}

-- R holds of each place of a plain tree that reads, by its number from s on; its references have numbers from n on
abbrev pub EachPlace : (ℕ → ℕ → Tree → Type 0) → ℕ → ℕ → Tree → Type 0
EachPlace R s n (reference place m) = R s n (reference place m)
EachPlace R s n (constant k) = Unit {0}
EachPlace R s n (binary g l r) = EachPlace R s n l × EachPlace R (s + site_count l) (n + length (references l)) r
EachPlace R s n (choice l c r x y) =
    EachPlace R s n l × EachPlace R (s + site_count l) (n + length (references l)) r
    × EachPlace R (s + site_count l + site_count r) (n + length (references l) + length (references r)) x
    × EachPlace R (s + site_count l + site_count r + site_count x) (n + length (references l) + length (references r) + length (references x)) y
EachPlace R s n (pick place choices k) = R s n (pick place choices k)
EachPlace R s n _ = ⊥
