use Rattle.av_vread.proofs.Faulted.{answered_found, answered_sound, answered_only, answered_fault, answered_refused}
use Rattle.av_vread.proofs.design.read_design.Goals as goal

pub returns-clause-found : goal.returns-clause-found
returns-clause-found c = answered_found c.args.bytes.now c.checked.result c.checked.ensures

pub returns-clause-only : goal.returns-clause-only
returns-clause-only c = answered_only c.args.bytes.now c.checked.result c.checked.ensures

pub returns-clause-sound : goal.returns-clause-sound
returns-clause-sound c = answered_sound c.args.bytes.now c.checked.result c.checked.ensures

pub returns-clause-fault : goal.returns-clause-fault
returns-clause-fault c = answered_fault c.args.bytes.now c.checked.result c.checked.ensures

pub returns-clause-refused : goal.returns-clause-refused
returns-clause-refused c = answered_refused c.args.bytes.now c.checked.result c.checked.ensures
