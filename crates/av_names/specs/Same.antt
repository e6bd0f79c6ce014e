-- When a flat system says what a system says.
use Rattle.std.specs.Prelude.{◌≡◌, ◌↔◌, List, [], All, IsTrue}
use Rattle.av_tree.specs.declared.system.Declaration.{Declaration}
use Rattle.av_tree.specs.Trees.{System}
use Rattle.av_tree.specs.Points.{Point}
use Rattle.av_tree.specs.Domains.{IsDeclared, context}
use Rattle.av_tree.specs.Counts.{Instance}
use Rattle.av_tree.specs.Counts as text
use Rattle.av_tree.specs.Solutions as text_solution
use Rattle.av_tree.specs.Proper as text_proper
use Rattle.av_flat.specs.declared.flat.Kind.{Kind}
use Rattle.av_flat.specs.declared.flat.Kind.TheVariants as kind
use Rattle.av_flat.specs.Trees.{FlatSystem, right_side}
use Rattle.av_flat.specs.Points.{has}
use Rattle.av_flat.specs.Signatures.{signatures, is_computed}
use Rattle.av_flat.specs.Counts as flat
use Rattle.av_flat.specs.Shown.{Showing, Declaring, SameMeaning}
use Rattle.av_flat.specs.Solutions.{shows_of, declares_of}
use Rattle.av_flat.specs.Proper as flat_proper

-- the declarations of a kind
abbrev pub declared_as : System → Kind → List Declaration
declared_as s kind.Input = s.inputs
declared_as s kind.Output = s.outputs
declared_as s kind.Local = s.locals
declared_as s kind.Partial = []

abbrev pub shows_in : Instance → Showing
shows_in i x name z w = text_solution.Shows i x name z w

abbrev pub declares_in : Instance → Declaring
declares_in i k name z = IsDeclared i.sizes (declared_as i.system k) name z

-- each equation has the same count at each declared point of its variable
abbrev pub SameCounts : Instance → FlatSystem → Type 0
SameCounts i s = All (λ e. All (λ v. v.name ≡ e.name → IsTrue (is_computed v.kind) → (z : Point) → IsTrue (has v.domain z)
    → text.count i (context i.system e) e.right z ≡ flat.count (signatures s) (right_side v) z) s.variables) i.system.equations

-- the flat system shows what the system shows and nothing else, at the same declared points; counts are the same, and
-- the one is proper where the other is
pub record SaysTheSame (i : Instance) (s : FlatSystem) : Type 0 where
  pub meaning : SameMeaning (shows_in i) (declares_in i) (shows_of s) (declares_of s)
  pub counts : SameCounts i s
  pub proper : text_proper.IsProper i ↔ flat_proper.IsProper s
