use Rattle.std.proofs.Common.{arith}
use Rattle.std.proofs.lemmas.Grind.{elements}
use Rattle.av_kinds.specs.Written.{program_of}
use Rattle.av_kinds.proofs.NetlistsMade.{made_netlists}
use Rattle.av_kinds.proofs.FormMade.{made_form}
use Rattle.av_kinds.proofs.PlanSteps.{modules_with, modules_made}
use Rattle.av_kinds.proofs.planning.modules_over.Goals as goal

pub returns-clause-netlists : goal.returns-clause-netlists
returns-clause-netlists c =
    let shapes = c.args.shapes.now in
    made_netlists c.args.counter (program_of c.args.program.now) c.requires.program c.requires.counter (modules_with c.in_ok-kinds.kinds c.in_ok-top.top c.in_ok-instances.instances)
    (modules_made c.args.counter (program_of c.args.program.now) shapes c.as_slice-2.result.now c.as_slice.result.now c.in_ok-kinds.kinds c.in_ok-top.top c.in_ok-instances.instances c.some_counts-counting.result
    c.as_slice-2.ensures c.as_slice.ensures c.requires.shapes c.some_counts-counting.ensures c.in_ok-kinds.ensures.are c.in_ok-top.ensures c.in_ok-instances.ensures)
    c.in_ok-kinds.ensures.small c.in_ok-kinds.ensures.few

pub returns-clause-form : goal.returns-clause-form
returns-clause-form c =
    let shapes = c.args.shapes.now in
    made_form c.args.counter (program_of c.args.program.now) c.requires.program (modules_with c.in_ok-kinds.kinds c.in_ok-top.top c.in_ok-instances.instances)
    (modules_made c.args.counter (program_of c.args.program.now) shapes c.as_slice-2.result.now c.as_slice.result.now c.in_ok-kinds.kinds c.in_ok-top.top c.in_ok-instances.instances c.some_counts-counting.result
    c.as_slice-2.ensures c.as_slice.ensures c.requires.shapes c.some_counts-counting.ensures c.in_ok-kinds.ensures.are c.in_ok-top.ensures c.in_ok-instances.ensures)
    c.in_ok-kinds.ensures.small

pub top-requires-clause-outputs : goal.top-requires-clause-outputs
top-requires-clause-outputs c = grind (arith, elements)
