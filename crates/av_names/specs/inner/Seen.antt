-- What definitions see of the program's own findings.
use Rattle.std.specs.Prelude.{◌≡◌, false, List, [], map, Option, Some, None, option_map}
use denote.Ref.{Bor}
use Rattle.av_tree.specs.declared.system.Declaration.{Declaration}
use Rattle.av_tree.specs.declared.system.Equation.{Equation as EquationMade}
use Rattle.av_tree.specs.Trees.{Text, Equation, view, view_equation}
use Rattle.av_tree.specs.Domains.{given_or}
use Rattle.av_tree.specs.Rows.{is_index}
use Rattle.av_names.specs.declared.found.Found.{Found as FoundMade}
use Rattle.av_names.specs.declared.part.Context.{Context as ContextMade}
use Rattle.av_names.specs.declared.part.Part.{Part as PartMade}
use Rattle.av_names.specs.Forms.{Context, over}
use Rattle.av_names.specs.Found.{Found}
use Rattle.av_names.specs.Parts.{Part, parts_of}

abbrev pub found : FoundMade → Found
found f = record { name = f.name.now; place = f.place }

abbrev pub context : ContextMade → Context
context c = record { names = c.names.now; indices = c.indices }

abbrev pub part : PartMade → Part
part p = record { context = context p.context; reduced = p.reduced; expression = view p.expr.now }

-- the same names, in any order
abbrev pub SameNames : List Text → List Text → Type 0
SameNames names others = (name : Text) → is_index names name ≡ is_index others name

abbrev pub equations_seen : List EquationMade → List Equation
equations_seen equations = map view_equation equations

-- the index names of a variable that was looked up
abbrev pub names_at : Option Declaration → List Text
names_at None = []
names_at (Some d) = d.domain.names

-- the parts of an equation's right side, where its variable was looked up
abbrev pub parts_by : Option (Bor Declaration) → EquationMade → List Part
parts_by variable e = parts_of false (over (given_or (names_at (option_map (λ (d : Bor Declaration). d.now) variable)) e.indices)) (view e.right)
