-- The designs that a text spells, the first fault of a text that spells none, and sound designs.
use Rattle.std.specs.Prelude.{◌≡◌, ℕ, ◌≤◌, List, [], ◌∷◌, length, None, All}
use Rattle.av_base.specs.Tokens.{start}
use Rattle.av_net.specs.declared.operation.Operand.{Operand}
use Rattle.av_net.specs.declared.operation.Operand.TheVariants.{Name, Literal}
use Rattle.av_net.specs.declared.design.Design.{Design}
use Rattle.av_net.specs.declared.operation.Operation.{Operation}
use Rattle.av_net.specs.declared.operation.Operation.TheVariants.{Plain, Binary, Signed, Choose, Part, Widen}
use Rattle.av_net.specs.declared.netlist.Module.{Module}
use Rattle.av_net.specs.declared.plan.Plan.{Plan}
use Rattle.av_net.specs.Meaning.{EachOperand}
use Rattle.av_net.specs.Names.{names_of, wire_names, all_names, declarations}
use Rattle.av_net.specs.Sound.{IsSound}
use Rattle.av_net.specs.Flat.{kind_module}
use Rattle.av_net.specs.Plans.{instance_names, HasSoundModules}
use Rattle.av_net.specs.Lexemes.{Token, AreTokens, IsName}
use Rattle.av_net.specs.Grammar.{Text, IsText}
use Rattle.av_net.specs.Listed.{listing_lines, MayBeListed, IsListing}
use Rattle.av_net.specs.Rows.{module_of, flat_text, twice_name, wrong_name, undriven_name, early_name, unsuited_name}

-- ---- what the grammar spells

-- the line of the first token
abbrev pub first_line : List Token → ℕ
first_line [] = 1
first_line (t ∷ tokens) = t.place.line

-- the bytes spell this text, whose first module begins on this line
pub record Says (bytes : List ℕ) (x : Text) (line : ℕ) : Type 0 where
  pub tokens : List Token
  pub lexed : AreTokens start bytes tokens
  pub parsed : IsText tokens x
  pub begins : first_line tokens ≡ line

-- the listing's lines are this listing, of a text whose first module begins on this line, at ports and wires of
-- its top
abbrev pub Lists : List ℕ → Text → ℕ → Design → Type 0
Lists bytes x line design = IsListing (names_of x.top.inputs) (wire_names (module_of x.top)) (listing_lines bytes line) design.listing

-- no name is declared, driven or linked twice, stands where it may not, is left undriven or unlinked, reads too
-- early or has wrong widths
pub record HasNoRow (x : Text) : Type 0 where
  pub once : twice_name x ≡ None
  pub named_right : wrong_name x ≡ None
  pub all_driven : undriven_name x ≡ None
  pub in_order : early_name x ≡ None
  pub suited : unsuited_name x ≡ None

-- the bytes spell this design
pub record Spells (bytes : List ℕ) (design : Design) : Type 0 where
  pub said : Text
  pub line : ℕ
  pub says : Says bytes said line
  pub lists : Lists bytes said line design
  pub is_flat : design.module ≡ flat_text said
  pub no_row : HasNoRow said

-- ---- sound designs

-- a literal has 1 to 64 bits
abbrev pub HasWidth : Operand → Type 0
HasWidth (Name name) = Unit {0}
HasWidth (Literal width value) = (1 ≤ width.bits) × (width.bits ≤ 64)

-- a widening brings a bit at least
abbrev pub HasBits : Operation → Type 0
HasBits (Widen name by) = 1 ≤ by
HasBits (Part name high low) = Unit {0}
HasBits (Plain operand) = Unit {0}
HasBits (Binary left symbol right) = Unit {0}
HasBits (Signed left symbol right) = Unit {0}
HasBits (Choose condition first second) = Unit {0}

-- its names and numbers are those of the grammar, and no fault holds of it
pub record IsSoundDesign (design : Design) : Type 0 where
  pub sound : IsSound design.module
  pub module_name : IsName design.module.name
  pub names : All IsName (all_names design.module)
  pub widths : All (λ port. (1 ≤ port.width.bits) × (port.width.bits ≤ 64)) (declarations design.module)
  pub drive_literals : All (λ drive. EachOperand HasWidth drive.operation) design.module.drives
  pub step_literals : All (λ step. HasWidth step.next) design.module.steps
  pub widenings : All (λ drive. HasBits drive.operation) design.module.drives
  pub ins : All (MayBeListed (names_of design.module.inputs)) design.listing.ins
  pub ats : All (MayBeListed (wire_names design.module)) design.listing.ats

-- ---- sound plans

-- the names and numbers of a module are those of the grammar
pub record HasSpelling (m : Module) : Type 0 where
  pub module_name : IsName m.name
  pub names : All IsName (all_names m)
  pub widths : All (λ port. (1 ≤ port.width.bits) × (port.width.bits ≤ 64)) (declarations m)
  pub drive_literals : All (λ drive. EachOperand HasWidth drive.operation) m.drives
  pub step_literals : All (λ step. HasWidth step.next) m.steps
  pub widenings : All (λ drive. HasBits drive.operation) m.drives

-- its names and numbers are those of the grammar, in which each kind has an output, and no fault holds of it
pub record IsSoundPlan (plan : Plan) : Type 0 where
  pub modules : HasSoundModules plan
  pub kinds_spelled : All (λ kind. HasSpelling (kind_module kind)) plan.kinds
  pub kinds_put : All (λ kind. 1 ≤ length kind.outputs) plan.kinds
  pub top_spelled : HasSpelling plan.top
  pub instance_names : All IsName (instance_names plan.instances)
  pub instance_literals : All (λ instance. All HasWidth instance.inputs) plan.instances
  pub ins : All (MayBeListed (names_of plan.top.inputs)) plan.listing.ins
  pub ats : All (MayBeListed (wire_names plan.top)) plan.listing.ats
