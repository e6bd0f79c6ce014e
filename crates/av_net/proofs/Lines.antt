-- Runs of a design at one drive, one step, one port and one line.
use Rattle.std.proofs.Common.{◌≡◌, ℕ, ◌<◌, List, get_or, sym, ◌∙◌, ap, subst, Bool, if◌then◌else◌, Some}
use Rattle.std.specs.Prelude.{All, Contains}
use Rattle.std.proofs.lemmas.List.Elements.{All-contains, All-map, Contains-get_or}
use Rattle.av_net.specs.declared.netlist.Port.{Port}
use Rattle.av_net.specs.declared.netlist.Drive.{Drive}
use Rattle.av_net.specs.declared.netlist.Step.{Step}
use Rattle.av_net.specs.declared.netlist.Module.{Module}
use Rattle.av_net.specs.declared.design.Entry.{Entry}
use Rattle.av_net.specs.declared.design.Design.{Design}
use Rattle.av_net.specs.Meaning.{Words, word_of, result_of}
use Rattle.av_net.specs.Names.{names_of, width_of}
use Rattle.av_net.specs.Settled.{Holds, Settled}
use Rattle.av_net.specs.Clocked.{Stream, Run, IsRun, Edge, Carries}
use Rattle.av_net.specs.Shown.{Values, Presents, Shows, HasListed}

-- settled words, at one drive
pub at_drive : (m : Module) (v : Words) (drive : Drive) → Settled m v → Contains m.drives drive → v drive.target ≡ result_of (width_of m) v drive.operation
at_drive m v drive settled at = All-contains (Holds (width_of m) v) m.drives drive settled at

-- an edge, at one step
pub at_step : (m : Module) (reset : Bool) (old new : Words) (step : Step) → Edge m reset old new → Contains m.steps step → new step.register ≡ (if reset then step.reset else word_of old step.next)
at_step m reset old new step edge at = All-contains (λ (step : Step). new step.register ≡ (if reset then step.reset else word_of old step.next)) m.steps step edge at

-- the words at the ports, at the name of one of them
pub at_input : (m : Module) (ports v : Words) (name : List ℕ) → Carries m ports v → Contains (names_of m.inputs) name → v name ≡ ports name
at_input m ports v name carries at = All-contains (λ name. v name ≡ ports name) (names_of m.inputs) name (All-map (λ name. v name ≡ ports name) (λ (port : Port). port.name) m.inputs carries) at

-- a presenting stream, at one line
pub at_listed : (design : Design) (n : ℕ) (stream : Stream) (x : Values) (line : Entry) → Presents design n stream x → Contains design.listing.ins line → line.cycle < n → Some (stream.in_cycle line.cycle line.wire) ≡ x line.variable line.point
at_listed design n stream x line presents at late = All-contains (HasListed n stream.in_cycle x) design.listing.ins line presents.points at late

-- in a run under a presenting stream an input port has the word of the line that names it
pub at_presented : (design : Design) (n : ℕ) (stream : Stream) (run : Run) (x : Values) (line : Entry) → IsRun design.module n stream run → Presents design n stream x → Contains design.listing.ins line → Contains (names_of design.module.inputs) line.wire → line.cycle < n → Some (run.in_cycle line.cycle line.wire) ≡ x line.variable line.point
at_presented design n stream run x line is presents at input late =
    ap Some (at_input design.module (stream.in_cycle line.cycle) (run.in_cycle line.cycle) line.wire (is.ports line.cycle late) input)
    ∙ at_listed design n stream x line presents at late

-- the listed point has its word in each run under a presenting stream
abbrev pub ShowsLine : Design → Values → Values → Entry → Type 0
ShowsLine design x u line =
    (n : ℕ) (stream : Stream) (run : Run)
    → IsRun design.module n stream run → Presents design n stream x
    → HasListed n run.in_cycle u line

-- to show, it is enough to show each line
pub shows_lines : (design : Design) (x u : Values) → All (ShowsLine design x u) design.listing.ats → Shows design x u
shows_lines design x u each n stream run is presents = λ k d lt. each k d lt n stream run is presents

-- the input ports have the words that are listed for a cycle
abbrev pub HasInputs : Design → Words → ℕ → Values → Type 0
HasInputs design v c x = All (λ line. Contains (names_of design.module.inputs) line.wire → line.cycle ≡ c → Some (v line.wire) ≡ x line.variable line.point) design.listing.ins

-- the listed point has its word in all settled words whose ports have what is listed for its cycle
abbrev pub SettlesLine : Design → Values → Values → Entry → Type 0
SettlesLine design x u line = (v : Words) → Settled design.module v → HasInputs design v line.cycle x → Some (v line.wire) ≡ u line.variable line.point

-- in a run under a presenting stream the ports have what is listed for a cycle
pub has_inputs : (design : Design) (n : ℕ) (stream : Stream) (run : Run) (x : Values) (c : ℕ) → IsRun design.module n stream run → Presents design n stream x → c < n → HasInputs design (run.in_cycle c) c x
has_inputs design n stream run x c is presents late k d lt input same =
    let line = get_or design.listing.ins k d in
    let early : line.cycle < n = subst (λ c. c < n) (sym same) late in
    subst (λ c. Some (run.in_cycle c line.wire) ≡ x line.variable line.point) same (at_presented design n stream run x line is presents (Contains-get_or design.listing.ins k d lt) input early)

-- a design that reads no register shows what settles in each cycle by itself
pub shows_settled : (design : Design) (x u : Values) → All (SettlesLine design x u) design.listing.ats → Shows design x u
shows_settled design x u each =
    shows_lines design x u (λ k d lt n stream run is presents late.
    let c = (get_or design.listing.ats k d).cycle in
    each k d lt (run.in_cycle c) (is.settled c late) (has_inputs design n stream run x c is presents late))
