-- The drives of a kind: each reads what is known before it, and obeys the rules of the subset.
use Rattle.std.proofs.Common.{◌≡◌, ℕ, zero, suc, ◌+◌, ◌<◌, List, [], ◌∷◌, ◌++◌, length, refl, sym, subst, arith, ◌∙◌, ap, inl, inr, Some}
use Rattle.std.specs.Prelude.{Contains, slice_get}
use Rattle.std.specs.List.{AllByRecursion}
use Rattle.std.proofs.lemmas.Bool.{cases_lt}
use Rattle.std.proofs.lemmas.List.Elements.{Contains-append_left, Contains-append_cases, Contains-push}
use Rattle.av_base.proofs.Lists.{each_first, each_second, each_weaker, some_is}
use Rattle.av_net.specs.declared.operation.Operand.{Operand}
use Rattle.av_net.specs.declared.operation.Operand.TheVariants.{Name, Literal}
use Rattle.av_net.specs.declared.netlist.Port.{Port}
use Rattle.av_net.specs.declared.netlist.Drive.{Drive}
use Rattle.av_net.specs.Meaning.{Widths, EachOperand}
use Rattle.av_net.specs.Names.{IsAmong, targets_of}
use Rattle.av_net.specs.Designs.{HasBits}
use Rattle.av_net.specs.Sound.{IsInOrder, SuitsWidth, IsFitting, ComparesByOrder}
use Rattle.av_net.proofs.Ordered.{each_weaker as each_operand}
use Rattle.av_kinds.specs.declared.gates.LaneGate.{LaneGate}
use Rattle.av_kinds.specs.Names.{Naming, pipe_name, inner_name}
use Rattle.av_kinds.specs.Tops.{port}
use Rattle.av_kinds.specs.inner.Gates.{drives_from, ports_from}
use Rattle.av_kinds.specs.inner.Shapes.{LaneShape, IsLaneShape}
use Rattle.av_kinds.specs.inner.Interfaces.{PortCounts, modes_ports, past_modes, datapaths_of}
use Rattle.av_kinds.specs.inner.Kinds.{lane_built, output_of, lanes_inputs, lanes_outputs, lanes_wires, lanes_drives}
use Rattle.av_kinds.proofs.Wide.{IsWide}
use Rattle.av_kinds.proofs.Fine.{Known, IsKnown, FineGates, Sized, FineBuilt}
use Rattle.av_kinds.proofs.FineCells.{FineAt, lane_fine}
use Rattle.av_kinds.proofs.FinePorts.{IsPort, lane_ports_fine}

-- ---- drives in order

-- what a drive has to keep
pub record Keeps (widths : Widths) (names : List (List ℕ)) (d : Drive) : Type 0 where
  pub read : EachOperand (IsAmong names) d.operation
  pub suits : SuitsWidth widths (widths d.target) d.operation
  pub fits : EachOperand IsFitting d.operation
  pub order : ComparesByOrder d.operation
  pub bits : HasBits d.operation

-- each reads what is known at first, or driven before
abbrev pub AreGood : Widths → List (List ℕ) → List Drive → Type 0
AreGood widths known [] = Unit {0}
AreGood widths known (d ∷ drives) = Keeps widths known d × AreGood widths (known ++ d.target ∷ []) drives

pub good_in_order : (widths : Widths) (known : List (List ℕ)) (drives : List Drive) → AreGood widths known drives → IsInOrder known drives
good_in_order widths known [] good = tt
good_in_order widths known (d ∷ drives) good = (good.0.read, good_in_order widths (known ++ d.target ∷ []) drives good.1)

-- what is read is among names that have all that is known and driven
more_among : (known names : List (List ℕ)) → ((x : List ℕ) → Contains known x → Contains names x) → (a : Operand) → IsAmong known a → IsAmong names a
more_among known names grows (Name x) h = grows x h
more_among known names grows (Literal width value) h = tt

pub good_keep : (widths : Widths) (known names : List (List ℕ)) (drives : List Drive) → ((x : List ℕ) → Contains known x → Contains names x) → AllByRecursion (Contains names) (targets_of drives)
    → AreGood widths known drives → AllByRecursion (Keeps widths names) drives
good_keep widths known names [] grows targets good = tt
good_keep widths known names (d ∷ drives) grows targets good = (
  record { read = each_operand (IsAmong known) (IsAmong names) (more_among known names grows) d.operation good.0.read; suits = good.0.suits; fits = good.0.fits; order = good.0.order; bits = good.0.bits },
  good_keep widths (known ++ d.target ∷ []) names drives (λ x at. elim (Contains-append_cases known (d.target ∷ []) x at) [ inl here ↦ grows x here | inr there ↦ only x there ]) targets.1 good.1,
)
  where
    only : (x : List ℕ) → Contains (d.target ∷ []) x → Contains names x
    only x (zero, lt, e) = subst (λ (y : List ℕ). Contains names y) e targets.0
    only x (suc k, lt, e) = absurd (omega (arith, lt))

-- ---- the wires of a lane

-- the wires below n are known, and so is what was known before
pub record HasWires (K : Known) (name : Naming) (n : ℕ) (names : List (List ℕ)) : Type 0 where
  pub before : (x : List ℕ) → K x → Contains names x
  pub wires : (i : ℕ) → i < n → Contains names (name i)

pub among : (K : Known) (name : Naming) (n : ℕ) (names : List (List ℕ)) → HasWires K name n names → (a : Operand) → IsKnown K name n a → IsAmong names a
among K name n names h (Name x) (inl k) = h.before x k
among K name n names h (Name x) (inr (i, lt, is)) = subst (λ (y : List ℕ). Contains names y) (sym is) (h.wires i lt)
among K name n names h (Literal width value) k = tt

one_more : (K : Known) (name : Naming) (n : ℕ) (names : List (List ℕ)) → HasWires K name n names → HasWires K name (n + 1) (names ++ name n ∷ [])
one_more K name n names h = record {
  before = λ x k. Contains-append_left names (name n ∷ []) x (h.before x k);
  wires = λ i lt. below i lt;
}
  where
    below : (i : ℕ) → i < n + 1 → Contains (names ++ name n ∷ []) (name i)
    below i lt = elim (cases_lt i n) [
      | inl less ↦ Contains-append_left names (name n ∷ []) (name i) (h.wires i less)
      | inr more ↦ (let e : n ≡ i = omega arith in subst (λ k. Contains (names ++ name n ∷ []) (name k)) e (Contains-push names (name n)))
    ]

-- after the drives of wires, others follow
gates_good : (K : Known) (widths : Widths) (name : Naming) (n m : ℕ) (gates : List LaneGate) (names : List (List ℕ)) (more : List Drive) → HasWires K name n names → FineGates K widths name n gates → Sized widths name n gates → n + length gates ≡ m
    → ((known : List (List ℕ)) → HasWires K name m known → ((x : List ℕ) → Contains names x → Contains known x) → AreGood widths known more) → AreGood widths names (drives_from name n gates ++ more)
gates_good K widths name n m [] names more h fine sized e next = let f : n ≡ m = omega arith in next names (subst (λ k. HasWires K name k names) f h) (λ x at. at)
gates_good K widths name n m (g ∷ gates) names more h fine sized e next = (
  record {
    read = each_operand (IsKnown K name n) (IsAmong names) (among K name n names h) g.operation fine.0.known;
    suits = subst (λ k. SuitsWidth widths k g.operation) (sym sized.0) fine.0.suits;
    fits = fine.0.fits;
    order = fine.0.order;
    bits = fine.0.bits;
  },
  gates_good K widths name (n + 1) m gates (names ++ name n ∷ []) more (one_more K name n names h) fine.1 sized.1 (omega arith)
      (λ known wires grows. next known wires (λ x at. grows x (Contains-append_left names (name n ∷ []) x at))),
)

pub sized_from : (widths : Widths) (name : Naming) (n : ℕ) (gates : List LaneGate) → AllByRecursion (IsWide widths) (ports_from name n gates) → Sized widths name n gates
sized_from widths name n [] wide = tt
sized_from widths name n (g ∷ gates) wide = (wide.0, sized_from widths name (n + 1) gates wide.1)

-- ---- all lanes

-- the lanes from the k-th on
abbrev pub AreLanesFrom : List LaneShape → ℕ → List LaneShape → Type 0
AreLanesFrom all k [] = Unit {0}
AreLanesFrom all k (lane ∷ lanes) = (slice_get all k ≡ Some lane) × IsLaneShape all k lane × AreLanesFrom all (k + 1) lanes

port_later : (known after : List (List ℕ)) (widths : Widths) → ((x : List ℕ) → Contains known x → Contains after x) → (p : Port) → IsPort (Contains known) widths p → IsPort (Contains after) widths p
port_later known after widths grows p h = record { known = grows p.name h.known; wide = h.wide }

counter_later : (known after : List (List ℕ)) (widths : Widths) → ((x : List ℕ) → Contains known x → Contains after x) → (counter : Operand) → ((name : Naming) → FineAt (Contains known) widths name 12 counter) → (name : Naming) → FineAt (Contains after) widths name 12 counter
counter_later known after widths grows (Name x) h name = by_known (h name).known
  where
    by_known : IsKnown (Contains known) name 0 (Name x) → FineAt (Contains after) widths name 12 (Name x)
    by_known (inl k) = record { known = inl (grows x k); width = (h name).width; fits = tt }
    by_known (inr (i, lt, is)) = absurd (omega (arith, lt))
counter_later known after widths grows (Literal width value) h name = record { known = tt; width = (h name).width; fits = (h name).fits }

pub lanes_good : (widths : Widths) (counter : Operand) (all : List LaneShape) (at : PortCounts) (n k : ℕ) (lanes : List LaneShape) (known : List (List ℕ))
    → AreLanesFrom all k lanes → ((name : Naming) → FineAt (Contains known) widths name 12 counter)
    → ((h : ℕ) (lane : LaneShape) → slice_get all h ≡ Some lane → h < k → 0 < length lanes → IsPort (Contains known) widths (port lane.width (pipe_name h)))
    → AllByRecursion (IsPort (Contains known) widths) (lanes_inputs at lanes) → AllByRecursion (IsWide widths) (lanes_wires counter at n lanes) → AllByRecursion (IsWide widths) (lanes_outputs k lanes)
    → AreGood widths known (lanes_drives counter at n k lanes)
lanes_good widths counter all at n k [] known are count pipes ports wires outputs = tt
lanes_good widths counter all at n k (lane ∷ lanes) known are count pipes ports wires outputs =
    let K : Known = Contains known in
    let b = lane_built counter at n lane in
    let gates = b.gates in
    let name = inner_name n in
    let mid = past_modes at lane.modes in
    let own = each_first (IsPort K widths) (modes_ports at lane.modes) (lanes_inputs mid lanes) ports in
    let rest = each_second (IsPort K widths) (modes_ports at lane.modes) (lanes_inputs mid lanes) ports in
    let own_wires = each_first (IsWide widths) (ports_from name 0 gates) (lanes_wires counter mid (n + length gates) lanes) wires in
    let rest_wires = each_second (IsWide widths) (ports_from name 0 gates) (lanes_wires counter mid (n + length gates) lanes) wires in
    let sized = sized_from widths name 0 gates own_wires in
    let before = λ (h : ℕ) (other : LaneShape) (is : slice_get all h ≡ Some other) (lt : h < k). pipes h other is lt (omega arith) in
    let fine : FineBuilt K widths name 0 lane.width.bits b = lane_fine K widths name lane.width counter (datapaths_of at lane.modes) (count name) (lane_ports_fine K widths name all k before at lane are.1 own) sized in
    let target = output_of k lanes in
    let last : Drive = record { target = target; operation = b.root } in
    gates_good K widths name 0 (0 + length gates) gates known (last ∷ lanes_drives counter mid (n + length gates) (k + 1) lanes) (record { before = λ x h. h; wires = λ i lt. absurd (omega (arith, lt)) }) fine.gates sized refl
    (λ now has grows.
    let after = now ++ target ∷ [] in
    let more : (x : List ℕ) → Contains known x → Contains after x = λ x h. Contains-append_left now (target ∷ []) x (grows x h) in (
      record {
        read = each_operand (IsKnown K name (0 + length gates)) (IsAmong now) (among K name (0 + length gates) now has) b.root fine.root.known;
        suits = subst (λ w. SuitsWidth widths w b.root) (sym outputs.0) fine.root.suits;
        fits = fine.root.fits;
        order = fine.root.order;
        bits = fine.root.bits;
      },
      lanes_good widths counter all mid (n + length gates) (k + 1) lanes after are.2 (counter_later known after widths more counter count)
          (λ h other is lt some. later_pipe now h other is lt some more)
          (each_weaker (IsPort K widths) (IsPort (Contains after) widths) (port_later known after widths more) (lanes_inputs mid lanes) rest) rest_wires outputs.1,
    ))
  where
    own_pipe : (ls : List LaneShape) → 0 < length ls → widths (output_of k ls) ≡ lane.width.bits → (now : List (List ℕ)) (other : LaneShape) → slice_get all k ≡ Some other
        → IsPort (Contains (now ++ output_of k ls ∷ [])) widths (port other.width (pipe_name k))
    own_pipe [] some wide now other is = absurd (omega (arith, some))
    own_pipe (g ∷ ls) some wide now other is = record { known = Contains-push now (pipe_name k); wide = wide ∙ ap (λ (l : LaneShape). l.width.bits) (some_is lane other (sym are.0 ∙ is)) }

    later_pipe : (now : List (List ℕ)) (h : ℕ) (other : LaneShape) → slice_get all h ≡ Some other → h < k + 1 → 0 < length lanes → ((x : List ℕ) → Contains known x → Contains (now ++ output_of k lanes ∷ []) x)
        → IsPort (Contains (now ++ output_of k lanes ∷ [])) widths (port other.width (pipe_name h))
    later_pipe now h other is lt some more = elim (cases_lt h k) [
      | inl less ↦ port_later known (now ++ output_of k lanes ∷ []) widths more (port other.width (pipe_name h)) (pipes h other is less (omega arith))
      | inr here ↦ (let e : k ≡ h = omega (arith, lt, here) in
          subst (λ i. IsPort (Contains (now ++ output_of k lanes ∷ [])) widths (port other.width (pipe_name i))) e (own_pipe lanes some outputs.0 now other (subst (λ i. slice_get all i ≡ Some other) (sym e) is)))
    ]
