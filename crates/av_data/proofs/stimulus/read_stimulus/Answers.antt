use Rattle.av_data.proofs.DistinctInputs.{inputs_distinct}
use Rattle.av_data.proofs.Told.{found, only, fault, refused}
use Rattle.av_data.proofs.stimulus.read_stimulus.Goals as goal

pub read-requires-clause-names : goal.read-requires-clause-names
read-requires-clause-names c = rw c.as_slice.ensures (inputs_distinct c.args.of.now c.requires.sound)

pub read-requires-clause-few : goal.read-requires-clause-few
read-requires-clause-few c = rw c.as_slice.ensures c.len-most.ensures.most

pub returns-clause-found : goal.returns-clause-found
returns-clause-found c = found c.args.of.now.inputs (inputs_distinct c.args.of.now c.requires.sound) c.args.first_line c.args.bytes.now c.read.result (rw c.as_slice.ensures at c.read.ensures)

pub returns-clause-only : goal.returns-clause-only
returns-clause-only c = only c.args.of.now.inputs (inputs_distinct c.args.of.now c.requires.sound) c.args.first_line c.args.bytes.now c.read.result (rw c.as_slice.ensures at c.read.ensures)

pub returns-clause-fault : goal.returns-clause-fault
returns-clause-fault c = fault c.args.of.now.inputs (inputs_distinct c.args.of.now c.requires.sound) c.args.first_line c.args.bytes.now c.read.result (rw c.as_slice.ensures at c.read.ensures)

pub returns-clause-refused : goal.returns-clause-refused
returns-clause-refused c = refused c.args.of.now.inputs (inputs_distinct c.args.of.now c.requires.sound) c.args.first_line c.args.bytes.now c.read.result (rw c.as_slice.ensures at c.read.ensures)
