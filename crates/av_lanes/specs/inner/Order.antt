-- Orders of steps in which each register may take its word at once.
use Rattle.std.specs.Prelude.{◌≡◌, ◌≢◌, ℕ, ◌<◌, ◌≤◌, List, length, map, take, slice_get, slice_index, slice_index_or, Some, Bool}
use Rattle.av_net.specs.declared.netlist.Step.{Step}
use Rattle.av_net.specs.declared.netlist.Module.{Module}
use Rattle.av_net.specs.Meaning.{word_of}
use Rattle.av_net.specs.Names.{all_names}
use Rattle.av_clock.specs.declared.gate.Reading.{Reading}
use Rattle.av_clock.specs.declared.gate.Reading.TheVariants.{At, Constant}
use Rattle.av_clock.specs.declared.gate.FlipFlop.{FlipFlop}
use Rattle.av_clock.specs.Gates.{AreStepped}
use Rattle.av_clock.specs.Marked.{IsClear}
use Rattle.av_clock.specs.Marking.{IsSet}
use Rattle.av_clock.specs.Named.{named, AllFit}
use Rattle.av_clock.specs.Readers.{IsOther}
use Rattle.av_lanes.specs.declared.order.Transfer.{Transfer}

-- the step that stands at a place of the order
abbrev pub step_at : Module → List ℕ → ℕ → Step → Step
step_at m order j d = slice_index_or m.steps (slice_index order j) d

-- each step is in the order, and none reads the register of one that stands before it
pub record IsOrder (m : Module) (order : List ℕ) : Type 0 where
  pub within : (j : ℕ) → j < length order → slice_index order j < length m.steps
  pub unread : (j l : ℕ) (d e : Step) → l < j → j < length order → IsOther (step_at m order l d).register (step_at m order j e).next
  pub whole : (i : ℕ) → i < length m.steps → (j : ℕ) × (j < length order) × (slice_index order j ≡ i)

-- the flip-flops of the steps in such an order
pub record AreMoves (m : Module) (moves : List FlipFlop) : Type 0 where
  pub order : List ℕ
  pub flip_flops : List FlipFlop
  pub stepped : AreStepped m (length m.steps) flip_flops
  pub count : length moves ≡ length order
  pub each : (j : ℕ) (d e : FlipFlop) → j < length order → slice_index_or moves j d ≡ slice_index_or flip_flops (slice_index order j) e
  pub ordered : IsOrder m order

-- the first of these moves, none of which takes a constant: their registers, and the places that these read
pub record AreTransfers (moves : List FlipFlop) (transfers : List Transfer) : Type 0 where
  pub few : length transfers ≤ length moves
  pub registers : map (λ t. t.register) transfers ≡ map (λ f. f.register) (take (length transfers) moves)
  pub sources : map (λ t. At t.source) transfers ≡ map (λ f. f.next) (take (length transfers) moves)

-- moves in such an order, and transfers for the first of them
pub record AreOrdered (m : Module) (flip_flops : List FlipFlop) (first : List Transfer) : Type 0 where
  pub moves : AreMoves m flip_flops
  pub transfers : AreTransfers flip_flops first

-- the registers of the first n steps of the order have their new words, and no other name has another word
pub record HaveMoved (m : Module) (order before words : List ℕ) (n : ℕ) : Type 0 where
  pub moved : (j : ℕ) (d : Step) → j < n → named m words (step_at m order j d).register ≡ word_of (named m before) (step_at m order j d).next
  pub others : (name : List ℕ) → ((j : ℕ) (d : Step) → j < n → (step_at m order j d).register ≢ name) → named m words name ≡ named m before name
  pub fit : AllFit m words

-- a reading is of no marked place
abbrev pub IsUnread : List Bool → Reading → Type 0
IsUnread stored (At place) = IsClear stored place
IsUnread stored (Constant word) = Unit {0}

-- the places of all registers are marked
abbrev pub AreMarked : Module → List Bool → Type 0
AreMarked m stored = (i place : ℕ) (d : Step) → i < length m.steps → slice_get (all_names m) place ≡ Some (slice_index_or m.steps i d).register → IsSet stored place
