-- Why the reductions of a kept system cannot be made into chains: each reduction in the order of nodes is tried for three
-- causes before the next one is, and at the end they are counted; and what the pass gives (the limits and their order are
-- this project's).
use Rattle.std.specs.Prelude.{◌≡◌, ℕ, suc, ◌+◌, ◌-◌, ◌^◌, ◌<◌, ◌⊎◌, min, Any, List, [], ◌∷◌, ◌++◌}
use Rattle.std.specs.List.{flat_map}
use Rattle.av_affine.specs.declared.form.Form.{Form}
use Rattle.av_affine.specs.declared.map.Map.{Map}
use Rattle.av_poly.specs.Points.{Set, Has}
use Rattle.av_poly.specs.Normal.{AreNormalised}
use Rattle.av_tree.specs.Trees.{Text}
use Rattle.av_tree.specs.Points.{Point}
use Rattle.av_flat.specs.declared.quantity.Quantity.{Quantity}
use Rattle.av_flat.specs.declared.quantity.Quantity.TheVariants as quantity
use Rattle.av_flat.specs.Trees.{Tree, Variable, FlatSystem, binary, choice, reduction}
use Rattle.av_flat.specs.Sets.{IsUnbounded}
use Rattle.av_flat.specs.Quantities.{IsFirst, IsOverBox}
use Rattle.av_flat.specs.Shown.{SameMeaning}
use Rattle.av_flat.specs.Solutions.{shows_of, declares_of}
use Rattle.av_flat.specs.Proper.{IsProper}
use Rattle.av_serial.specs.declared.fault.SerialFault.{SerialFault}
use Rattle.av_serial.specs.declared.fault.SerialFault.TheVariants as fault
use Rattle.av_serial.specs.Lines.{IsUnit}
use Rattle.av_flat.specs.Chained.{IsChained}
use Rattle.av_serial.specs.SerialForm.{IsSerialForm}

-- ---- the reductions of a system, in the order of nodes

-- a reduction, by the name of its equation's variable
pub record Reduced : Type 0 where
  pub name : Text
  pub map : Map
  pub set : Set

-- in the order of the text, outer before inner
abbrev pub reductions_in : Text → Tree → List Reduced
reductions_in name (binary s l r) = reductions_in name l ++ reductions_in name r
reductions_in name (choice l c r x y) = reductions_in name l ++ reductions_in name r ++ reductions_in name x ++ reductions_in name y
reductions_in name (reduction o m t set) = record { name = name; map = m; set = set } ∷ reductions_in name t
reductions_in name _ = []

abbrev pub reductions_of : FlatSystem → List Reduced
reductions_of s = flat_map (λ v. flat_map (λ p. reductions_in v.name p.tree) v.pieces) s.variables

-- ---- causes

-- a normalised row has another coefficient at the dropped index than -1, 0 and 1
abbrev pub HasSteepRow : Reduced → Type 0
HasSteepRow r = (rows : List Form) × AreNormalised r.set.dim r.set.rows rows × Any (λ row. IsUnit r.map row → ⊥) rows

-- a reduction is refused for a steep row, for an unbounded set, for a large box: the first of these that holds
abbrev pub IsCauseOf : Reduced → SerialFault → Type 0
IsCauseOf r (fault.NonUnit name) = HasSteepRow r × (name ≡ r.name)
IsCauseOf r (fault.Unbounded name) = (HasSteepRow r → ⊥) × IsUnbounded r.set × (name ≡ r.name)
IsCauseOf r (fault.Limit kind n) = (HasSteepRow r → ⊥) × (IsUnbounded r.set → ⊥) × IsOverBox r.set kind n
IsCauseOf r fault.Memory = ⊥

abbrev pub HasCause : Reduced → Type 0
HasCause r = (f : SerialFault) × IsCauseOf r f

-- the first reduction that is refused is refused so
pub record IsFirstCause (s : FlatSystem) (f : SerialFault) : Type 0 where
  pub which : Reduced
  pub first : IsFirst HasCause (reductions_of s) which
  pub here : IsCauseOf which f

abbrev pub IsRefused : FlatSystem → Type 0
IsRefused s = (f : SerialFault) × IsFirstCause s f

-- ---- how many chains there are

-- the number of both
abbrev pub IsSum : (ℕ → Type 0) → (ℕ → Type 0) → ℕ → Type 0
IsSum P Q n = (a : ℕ) × (b : ℕ) × P a × Q b × (n ≡ a + b)

abbrev pub HasPoint : Set → Type 0
HasPoint set = (z : Point) × Has set z

-- a reduction whose set has a point is one, and those in its body are; one without a point is none, and neither are those
abbrev pub HasNodes : Tree → ℕ → Type 0
HasNodes (binary s l r) n = IsSum (HasNodes l) (HasNodes r) n
HasNodes (choice l c r x y) n = IsSum (HasNodes l) (IsSum (HasNodes r) (IsSum (HasNodes x) (HasNodes y))) n
HasNodes (reduction o m t set) n = (HasPoint set × (k : ℕ) × HasNodes t k × (n ≡ suc k)) ⊎ ((HasPoint set → ⊥) × (n ≡ 0))
HasNodes _ n = n ≡ 0

abbrev pub HaveNodes : {X : Type 0} → (X → ℕ → Type 0) → List X → ℕ → Type 0
HaveNodes P [] n = n ≡ 0
HaveNodes P (x ∷ xs) n = IsSum (P x) (HaveNodes P xs) n

abbrev pub HasNodesIn : Variable → ℕ → Type 0
HasNodesIn v n = HaveNodes (λ p. HasNodes p.tree) v.pieces n

-- they are more than 16; a number that 128 bits do not hold counts as the greatest that they do
pub record HasMany (s : FlatSystem) (kind : Quantity) (n : ℕ) : Type 0 where
  pub kind_is : kind ≡ quantity.Reductions
  pub number : ℕ
  pub nodes : HaveNodes HasNodesIn s.variables number
  pub many : 16 < number
  pub is : n ≡ min number (2 ^ 128 - 1)

-- ---- faults

-- of the first reduction that is refused, and of their number where none is; out of memory has no cause
abbrev pub IsFault : FlatSystem → SerialFault → Type 0
IsFault s (fault.NonUnit name) = IsFirstCause s (fault.NonUnit name)
IsFault s (fault.Unbounded name) = IsFirstCause s (fault.Unbounded name)
IsFault s (fault.Limit kind n) = IsFirstCause s (fault.Limit kind n) ⊎ ((IsRefused s → ⊥) × HasMany s kind n)
IsFault s fault.Memory = Unit {0}

-- t is the serial form of s and shows what s shows, and s has no cause for a fault
pub record IsGiven (s t : FlatSystem) : Type 0 where
  pub form : IsSerialForm s t
  pub same : SameMeaning (shows_of s) (declares_of s) (shows_of t) (declares_of t)
  pub chained : IsChained t
  pub proper : IsProper s → IsProper t
  pub no_cause : (f : SerialFault) → IsFault s f → f ≡ fault.Memory
