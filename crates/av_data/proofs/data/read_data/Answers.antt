use Rattle.av_flat.specs.Trees.{view_system}
use Rattle.av_data.proofs.Outcome.{readable, found, only, inputs, fault, refused}
use Rattle.av_data.proofs.data.read_data.Goals as goal

pub read-requires : goal.read-requires
read-requires c = record { lines = c.requires.lines; readable = readable (view_system c.args.flat.now) c.requires.flat }

pub returns-clause-found : goal.returns-clause-found
returns-clause-found c = found (view_system c.args.flat.now) (readable (view_system c.args.flat.now) c.requires.flat) c.args.bytes.now c.args.first_line c.read.result c.read.ensures

pub returns-clause-only : goal.returns-clause-only
returns-clause-only c = only (view_system c.args.flat.now) (readable (view_system c.args.flat.now) c.requires.flat) c.args.bytes.now c.args.first_line c.read.result c.read.ensures

pub returns-clause-inputs : goal.returns-clause-inputs
returns-clause-inputs c = inputs (view_system c.args.flat.now) (readable (view_system c.args.flat.now) c.requires.flat) c.args.bytes.now c.args.first_line c.read.result c.read.ensures

pub returns-clause-fault : goal.returns-clause-fault
returns-clause-fault c = fault (view_system c.args.flat.now) (readable (view_system c.args.flat.now) c.requires.flat) c.args.bytes.now c.args.first_line c.read.result c.read.ensures

pub returns-clause-refused : goal.returns-clause-refused
returns-clause-refused c = refused (view_system c.args.flat.now) (readable (view_system c.args.flat.now) c.requires.flat) c.args.bytes.now c.args.first_line c.read.result c.read.ensures
