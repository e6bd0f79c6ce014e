use Rattle.std.proofs.Common.{◌≡◌, List, sym, subst, ◌∙◌, arith}
use Rattle.av_space.specs.declared.cells.Cell.{Cell}
use Rattle.av_space.specs.declared.cells.Cells.{Cells}
use Rattle.av_flat.specs.Trees.{view_system}
use Rattle.av_space.specs.Quantities.{IsCycleCount}
use Rattle.av_space.specs.inner.Quantified.{IsLaidOut}
use Rattle.av_space.proofs.mapping.laid_out.Goals as goal

pub returns : goal.returns
returns c =
    let t = c.args.scheduled.now.timed in
    let l = c.args.scheduled.now.layout in
    let ports = c.in_ok-ports.ports in
    let shown = c.in_ok-shown.shown in
    let made : Cells = record { cells = l.cells; links = c.args.links; inputs = ports.inputs; outputs = shown.outputs; listing = record { ins = ports.ins; ats = shown.ats }; cycles = c.cycles.result; delays = c.args.delays } in
    let copy : c.in_ok-cells.cells ≡ l.cells = c.in_ok-cells.ensures ∙ c.cells.ensures.is in
    let few = c.cells.ensures.scheduled.layout.few_cells in
    let own : IsLaidOut t made = record {
      array = record {
        placings = l.placements;
        are_placings = c.cells.ensures.scheduled.layout.are_placings;
        cells = c.cells.ensures.scheduled.layout.are_cells;
        links = c.requires.links.are;
        inputs = c.in_ok-ports.ensures.ports;
        outputs = c.in_ok-shown.ensures.outputs;
        ins = c.in_ok-ports.ensures.lines;
        ats = c.in_ok-shown.ensures.lines;
        cycles = subst (IsCycleCount (view_system t.flat) t.times) (sym c.cycles.ensures) c.cells.ensures.scheduled.layout.cycle_count;
        delays = c.requires.delays;
      };
      few_inputs = c.in_ok-ports.ensures.few;
      few_outputs = c.in_ok-shown.ensures.few;
      few_cells = omega (arith, few);
    } in
    subst (λ (cells : List Cell). IsLaidOut t (record made { cells = cells })) (sym copy) own
