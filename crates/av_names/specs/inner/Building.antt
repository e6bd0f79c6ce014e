-- What the building of a flat system sees of its tables.
use Rattle.std.specs.Prelude.{◌≡◌, ◌≤◌, ℕ, List, length, find, option_map, bytes_eq, Some, None, All}
use Rattle.std.specs.Map.{lookup}
use Rattle.av_tree.specs.declared.domain.DomainText.{DomainText}
use Rattle.av_tree.specs.Trees.{Text, Equation, System, view_equation, view_system}
use Rattle.av_tree.specs.Points.{Sizes}
use Rattle.av_tree.specs.Domains.{variables, context}
use Rattle.av_tree.specs.Counts.{Instance}
use Rattle.av_names.specs.declared.flatten.Tables.{Tables}
use Rattle.av_names.specs.declared.flat_system.Names.{Names}
use Rattle.av_names.specs.inner.Fitting.{FitsRows, FitsIn}
use Rattle.av_names.specs.Flattened.{equation_of, place_of}
use Rattle.av_names.specs.Forms.{over}
use Rattle.av_names.specs.inner.Sums.{sizes_in, HasSmallValues}

-- the place that a table has for a name, or else this one
abbrev pub place_or : ℕ → List (Text × ℕ) → Text → ℕ
place_or other table name = elim (lookup (bytes_eq name) table) [ None ↦ other | Some place ↦ place ]

-- the system with the sizes and the width of the tables
abbrev pub instance_in : Tables → Instance
instance_in t = record { system = view_system t.system.now; sizes = sizes_in t.sizes; width = t.width.bits }

-- each variable has its place, and the sizes are small
pub record AreTables (t : Tables) : Type 0 where
  pub places : (name : Text) → place_or t.count t.places name ≡ place_of (variables (view_system t.system.now)) name
  pub small : HasSmallValues (sizes_in t.sizes)

-- a declared domain of at most four indices, with rows within the limits
pub record FitsDomain (sizes : Sizes) (d : DomainText) : Type 0 where
  pub few : length d.names ≤ 4
  pub rows : All (FitsRows sizes d.names) d.constraints

abbrev pub FitsRight : Sizes → System → Equation → Type 0
FitsRight sizes s e = FitsIn sizes (over (context s e)) e.right

-- variables and equations by name, and what fits
pub record AreNames (n : Names) : Type 0 where
  pub tables : AreTables n.tables
  pub declared : (name : Text) → option_map (λ d. d.now) (lookup (bytes_eq name) n.declared) ≡ find (λ d. bytes_eq d.name name) (variables (view_system n.tables.system.now))
  pub equations : (name : Text) → option_map (λ e. view_equation e.now) (lookup (bytes_eq name) n.equations) ≡ equation_of (view_system n.tables.system.now).equations name
  pub rights : All (FitsRight (sizes_in n.tables.sizes) (view_system n.tables.system.now)) (view_system n.tables.system.now).equations
