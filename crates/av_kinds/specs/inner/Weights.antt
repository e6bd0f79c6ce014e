-- Operators by sort: what an operation weighs, and how much the operators of a tree weigh.
use Rattle.std.specs.Prelude.{ℕ, ◌+◌, List, [], ◌∷◌}
use Rattle.av_tree.specs.declared.sign.Sign.{Sign}
use Rattle.av_tree.specs.declared.sign.Sign.TheVariants as sign
use Rattle.av_net.specs.declared.operation.Symbol.{Symbol}
use Rattle.av_net.specs.declared.operation.Symbol.TheVariants.{Add, Sub, Mul, Equal, Unequal}
use Rattle.av_net.specs.declared.operation.Operation.{Operation}
use Rattle.av_net.specs.declared.operation.Operation.TheVariants.{Binary, Signed}
use Rattle.av_flat.specs.Trees.{Tree, binary, choice}
use Rattle.av_kinds.specs.declared.gates.LaneGate.{LaneGate}
use Rattle.av_kinds.specs.inner.Shapes.{ModeShape, LaneShape}
use Rattle.av_net.specs.declared.netlist.Drive.{Drive}

-- what each sort weighs; with one entry 1 and the others 0 this counts that sort
pub record Weights : Type 0 where
  pub adds : ℕ
  pub subs : ℕ
  pub muls : ℕ
  pub tests : ℕ

abbrev pub of_symbol : Weights → Symbol → ℕ
of_symbol k Add = k.adds
of_symbol k Sub = k.subs
of_symbol k Mul = k.muls
of_symbol k Equal = k.tests
of_symbol k Unequal = k.tests
of_symbol k _ = 0

-- comparisons of the counter are unsigned comparisons by order, and count for nothing
abbrev pub of_operation : Weights → Operation → ℕ
of_operation k (Binary a s b) = of_symbol k s
of_operation k (Signed a s b) = k.tests
of_operation k _ = 0

abbrev pub of_gates : Weights → List LaneGate → ℕ
of_gates k [] = 0
of_gates k (g ∷ gates) = of_operation k g.operation + of_gates k gates

-- a min or a max is a comparison
abbrev pub of_sign : Weights → Sign → ℕ
of_sign k sign.Add = k.adds
of_sign k sign.Sub = k.subs
of_sign k sign.Mul = k.muls
of_sign k sign.Min = k.tests
of_sign k sign.Max = k.tests

abbrev pub of_tree : Weights → Tree → ℕ
of_tree k (binary g l r) = of_sign k g + of_tree k l + of_tree k r
of_tree k (choice l c r x y) = k.tests + of_tree k l + of_tree k r + of_tree k x + of_tree k y
of_tree k _ = 0

abbrev pub of_modes : Weights → List ModeShape → ℕ
of_modes k [] = 0
of_modes k (t ∷ modes) = of_tree k t.tree + of_modes k modes

-- of the works of a kind
abbrev pub of_lanes : Weights → List LaneShape → ℕ
of_lanes k [] = 0
of_lanes k (lane ∷ lanes) = of_modes k lane.modes + of_lanes k lanes

abbrev pub of_drives : Weights → List Drive → ℕ
of_drives k [] = 0
of_drives k (d ∷ drives) = of_operation k d.operation + of_drives k drives
