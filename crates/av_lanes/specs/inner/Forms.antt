-- Forms of gates, and which gates they stand for.
use Rattle.std.specs.Prelude.{◌≡◌, ◌≤◌, ◌-◌, ◌^◌, List, map, All}
use Rattle.av_net.specs.declared.netlist.Module.{Module}
use Rattle.av_net.specs.declared.operation.Symbol.TheVariants.{Add, Mul}
use Rattle.av_clock.specs.declared.gate.Gate.{Gate}
use Rattle.av_clock.specs.declared.gate.Gate.TheVariants.{Operator, Multiplexer}
use Rattle.av_clock.specs.declared.gate.Assignment.{Assignment}
use Rattle.av_clock.specs.Kept.{AreComputed}
use Rattle.av_lanes.specs.declared.forms.GateForm.{GateForm}
use Rattle.av_lanes.specs.declared.forms.GateForm.TheVariants.{Sum, Product, Choice, Any}
use Rattle.av_lanes.specs.declared.forms.Formed.{Formed}

-- the gate that has this form
abbrev pub gate_of : GateForm → Gate
gate_of (Sum left right width mask) = Operator left Add right width
gate_of (Product left right width mask) = Operator left Mul right width
gate_of (Choice condition first second) = Multiplexer condition first second
gate_of (Any gate) = gate

-- its mask has the bits of its width, and a product fits half a word
abbrev pub IsMasked : GateForm → Type 0
IsMasked (Sum left right width mask) = mask ≡ 2 ^ width.bits - 1
IsMasked (Product left right width mask) = (mask ≡ 2 ^ width.bits - 1) × (width.bits ≤ 32)
IsMasked (Choice condition first second) = Unit {0}
IsMasked (Any gate) = Unit {0}

-- the assignment that is formed so
abbrev pub assignment_of : Formed → Assignment
assignment_of drive = record { target = drive.target; width = drive.width; gate = gate_of drive.form }

-- these are the assignments that compute, each with its mask
pub record AreFormed (m : Module) (drives : List Formed) : Type 0 where
  pub computed : AreComputed m (map assignment_of drives)
  pub masked : All (λ drive. IsMasked drive.form) drives
