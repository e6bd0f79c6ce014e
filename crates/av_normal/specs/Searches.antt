-- The first of a list of sets and maps that is above a limit, by cases on the list. Only private contracts cite this.
use Rattle.std.specs.Prelude.{ℕ, ◌⊎◌, List, [], ◌∷◌}
use Rattle.av_affine.specs.declared.form.Form.{Form}
use Rattle.av_flat.specs.declared.quantity.Quantity.{Quantity}
use Rattle.av_flat.specs.Quantities.{Measured, IsOver, IsOverNumbers, IsOverRows}
use Rattle.av_normal.specs.declared.fault.NormalFault.{NormalFault}
use Rattle.av_normal.specs.declared.fault.NormalFault.TheVariants as fault

-- not above a limit
abbrev pub IsNarrow : Measured → Type 0
IsNarrow o = (kind : Quantity) (n : ℕ) → IsOver o kind n → ⊥

-- none is above a limit
abbrev pub AreNarrow : List Measured → Type 0
AreNarrow [] = Unit {0}
AreNarrow (o ∷ os) = IsNarrow o × AreNarrow os

-- the first that is above a limit has n of this kind
abbrev pub IsFirstWide : List Measured → Quantity → ℕ → Type 0
IsFirstWide [] kind n = ⊥
IsFirstWide (o ∷ os) kind n = IsOver o kind n ⊎ (IsNarrow o × IsFirstWide os kind n)

-- the fault is of the first that is above a limit, or out of memory
abbrev pub IsWide : List Measured → NormalFault → Type 0
IsWide os (fault.Limit kind n) = IsFirstWide os kind n
IsWide os (fault.Pieces n) = ⊥
IsWide os (fault.Unbounded name) = ⊥
IsWide os fault.Memory = Unit {0}

-- the fault is of this one, which is above a limit
abbrev pub IsWideOne : Measured → NormalFault → Type 0
IsWideOne o (fault.Limit kind n) = IsOver o kind n
IsWideOne o (fault.Pieces n) = ⊥
IsWideOne o (fault.Unbounded name) = ⊥
IsWideOne o fault.Memory = ⊥

-- these rows, as they stand, are above a limit
abbrev pub IsOverLimit : List Form → Quantity → ℕ → Type 0
IsOverLimit rows kind n = IsOverNumbers rows kind n ⊎ IsOverRows rows kind n

abbrev pub IsWideRows : List Form → NormalFault → Type 0
IsWideRows rows (fault.Limit kind n) = IsOverLimit rows kind n
IsWideRows rows (fault.Pieces n) = ⊥
IsWideRows rows (fault.Unbounded name) = ⊥
IsWideRows rows fault.Memory = ⊥
