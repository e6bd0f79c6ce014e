-- What is declared of a variable, and which points variables declare.
use Rattle.std.specs.Prelude.{ℕ, Bool, true, false, not, ◌&&◌, ◌||◌, nat_eq, List, [], ◌∷◌, map, Option, Some, None, slice_get, bytes_eq}
use Rattle.av_poly.specs.Points.{Set}
use Rattle.av_tree.specs.Trees.{Text}
use Rattle.av_tree.specs.Points.{Point}
use Rattle.av_flat.specs.declared.flat.Kind.{Kind}
use Rattle.av_flat.specs.declared.flat.Kind.TheVariants as kind
use Rattle.av_flat.specs.Trees.{Variable, FlatSystem}
use Rattle.av_flat.specs.Points.{has}

-- ---- kinds

-- the kinds in the order in which variables stand
abbrev pub rank : Kind → ℕ
rank kind.Input = 0
rank kind.Output = 1
rank kind.Local = 2
rank kind.Partial = 3

abbrev pub is_kind : Kind → Kind → Bool
is_kind a b = nat_eq (rank a) (rank b)

abbrev pub is_any : Kind → Bool
is_any k = true

abbrev pub is_input : Kind → Bool
is_input k = is_kind k kind.Input

-- variables with an equation
abbrev pub is_computed : Kind → Bool
is_computed k = not (is_kind k kind.Input)

-- inputs, outputs and locals
abbrev pub is_shown : Kind → Bool
is_shown k = not (is_kind k kind.Partial)

-- ---- declarations

-- a variable without its pieces
pub record Signature : Type 0 where
  pub name : Text
  pub kind : Kind
  pub width : ℕ
  pub domain : Set

abbrev pub signature : Variable → Signature
signature v = record { name = v.name; kind = v.kind; width = v.width; domain = v.domain }

abbrev pub signatures : FlatSystem → List Signature
signatures s = map signature s.variables

abbrev pub domain_has : Option Signature → Point → Bool
domain_has None z = false
domain_has (Some v) z = has v.domain z

-- z is a declared point of the variable at this place
abbrev pub is_declared_at : List Signature → ℕ → Point → Bool
is_declared_at variables place z = domain_has (slice_get variables place) z

-- z is a declared point of a variable of this name, of a kind that passes the test
abbrev pub is_declared : (Kind → Bool) → List Signature → Text → Point → Bool
is_declared test [] name z = false
is_declared test (v ∷ variables) name z = (test v.kind && bytes_eq v.name name && has v.domain z) || is_declared test variables name z
