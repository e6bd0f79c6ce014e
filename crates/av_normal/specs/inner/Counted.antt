-- The first equation of too many pieces, by cases on the variables. Only private contracts cite this.
use Rattle.std.specs.Prelude.{◌≡◌, ℕ, ◌<◌, ◌≤◌, ◌-◌, ◌^◌, ◌+◌, ◌⊎◌, min, List, [], ◌∷◌, IsTrue}
use Rattle.av_flat.specs.Trees.{Piece, Variable, right_side}
use Rattle.av_flat.specs.Signatures.{is_computed}
use Rattle.av_flat.specs.Quantities.{piece_count}
use Rattle.av_normal.specs.declared.fault.NormalFault.{NormalFault}
use Rattle.av_normal.specs.declared.fault.NormalFault.TheVariants as fault

-- the pieces of an equation, as those of the trees together
abbrev pub pieces_counted : List Piece → ℕ
pieces_counted [] = 0
pieces_counted (p ∷ ps) = piece_count p.tree + pieces_counted ps

-- the equation, where there is one, has at most 256 pieces
abbrev pub IsOfFew : Variable → Type 0
IsOfFew v = IsTrue (is_computed v.kind) → piece_count (right_side v) ≤ 256

-- it has n, more than 256, where what does not fit 128 bits counts as the greatest that does
abbrev pub HasMany : Variable → ℕ → Type 0
HasMany v n = IsTrue (is_computed v.kind) × (256 < piece_count (right_side v)) × (n ≡ min (piece_count (right_side v)) (2 ^ 128 - 1))

abbrev pub HasFew : List Variable → Type 0
HasFew [] = Unit {0}
HasFew (v ∷ vs) = IsOfFew v × HasFew vs

-- the first equation of more than 256 pieces has n
abbrev pub IsFirstOfMany : List Variable → ℕ → Type 0
IsFirstOfMany [] n = ⊥
IsFirstOfMany (v ∷ vs) n = HasMany v n ⊎ (IsOfFew v × IsFirstOfMany vs n)

abbrev pub IsOfMany : List Variable → NormalFault → Type 0
IsOfMany vs (fault.Pieces n) = IsFirstOfMany vs n
IsOfMany vs (fault.Limit kind n) = ⊥
IsOfMany vs (fault.Unbounded name) = ⊥
IsOfMany vs fault.Memory = ⊥
