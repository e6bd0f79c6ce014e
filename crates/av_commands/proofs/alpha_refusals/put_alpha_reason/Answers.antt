use Rattle.std.proofs.Common.{ap, sym}
use Rattle.av_page.proofs.Putting.{Puts-is}
use Rattle.av_commands.specs.AlphaRefusals.{alpha_reason}
use Rattle.av_commands.proofs.alpha_refusals.put_alpha_reason.Goals as goal

pub returns-in-BadByte : goal.returns-in-BadByte
returns-in-BadByte g c = Puts-is c.put_place.ensures (ap alpha_reason (sym c.in-BadByte.is))

pub returns-in-Number : goal.returns-in-Number
returns-in-Number g c = Puts-is c.put_place-in-Number.ensures (ap alpha_reason (sym c.in-Number.is))

pub returns-in-Syntax : goal.returns-in-Syntax
returns-in-Syntax g c = Puts-is c.put_place-in-Syntax.ensures (ap alpha_reason (sym c.in-Syntax.is))

pub returns-in-Depth : goal.returns-in-Depth
returns-in-Depth g c = Puts-is c.put_place-in-Depth.ensures (ap alpha_reason (sym c.in-Depth.is))

pub returns-in-Repeated : goal.returns-in-Repeated
returns-in-Repeated g c = Puts-is c.put_name_and_place.ensures (ap alpha_reason (sym c.in-Repeated.is))

pub returns-in-SizeTwice : goal.returns-in-SizeTwice
returns-in-SizeTwice g c = Puts-is c.put_name.ensures (ap alpha_reason (sym c.in-SizeTwice.is))

pub returns-in-SizeUnknown : goal.returns-in-SizeUnknown
returns-in-SizeUnknown g c = Puts-is c.put_name-in-SizeUnknown.ensures (ap alpha_reason (sym c.in-SizeUnknown.is))

pub returns-in-SizeMissing : goal.returns-in-SizeMissing
returns-in-SizeMissing g c = Puts-is c.put_name-in-SizeMissing.ensures (ap alpha_reason (sym c.in-SizeMissing.is))

pub returns-in-Unknown : goal.returns-in-Unknown
returns-in-Unknown g c = Puts-is c.put_name_and_place-in-Unknown.ensures (ap alpha_reason (sym c.in-Unknown.is))

pub returns-in-DefinesInput : goal.returns-in-DefinesInput
returns-in-DefinesInput g c = Puts-is c.put_name_and_place-in-DefinesInput.ensures (ap alpha_reason (sym c.in-DefinesInput.is))

pub returns-in-SecondEquation : goal.returns-in-SecondEquation
returns-in-SecondEquation g c = Puts-is c.put_name_and_place-in-SecondEquation.ensures (ap alpha_reason (sym c.in-SecondEquation.is))

pub returns-in-NoEquation : goal.returns-in-NoEquation
returns-in-NoEquation g c = Puts-is c.put_name_and_place-in-NoEquation.ensures (ap alpha_reason (sym c.in-NoEquation.is))

pub returns-in-Arity : goal.returns-in-Arity
returns-in-Arity g c = Puts-is c.put_place-in-Arity.ensures (ap alpha_reason (sym c.in-Arity.is))

pub returns-in-Projection : goal.returns-in-Projection
returns-in-Projection g c = Puts-is c.put_place-in-Projection.ensures (ap alpha_reason (sym c.in-Projection.is))

pub returns-in-CaseInReduce : goal.returns-in-CaseInReduce
returns-in-CaseInReduce g c = Puts-is c.put_place-in-CaseInReduce.ensures (ap alpha_reason (sym c.in-CaseInReduce.is))

pub returns-in-DependOnReduce : goal.returns-in-DependOnReduce
returns-in-DependOnReduce g c = Puts-is c.put_place-in-DependOnReduce.ensures (ap alpha_reason (sym c.in-DependOnReduce.is))

pub returns-in-Limit : goal.returns-in-Limit
returns-in-Limit g c = Puts-is c.put_limit.ensures (ap alpha_reason (sym c.in-Limit.is))

pub returns-in-WidthRange : goal.returns-in-WidthRange
returns-in-WidthRange g c = Puts-is c.put_name_and_place-in-WidthRange.ensures (ap alpha_reason (sym c.in-WidthRange.is))

pub returns-in-SizeOutside : goal.returns-in-SizeOutside
returns-in-SizeOutside g c = Puts-is c.put.ensures (ap alpha_reason (sym c.in-SizeOutside.is))

pub returns-in-Pieces : goal.returns-in-Pieces
returns-in-Pieces g c = Puts-is c.put_amount.ensures (ap alpha_reason (sym c.in-Pieces.is))

pub returns-in-Unbounded : goal.returns-in-Unbounded
returns-in-Unbounded g c = Puts-is c.put_name-in-Unbounded.ensures (ap alpha_reason (sym c.in-Unbounded.is))

pub returns-in-Uncovered : goal.returns-in-Uncovered
returns-in-Uncovered g c = Puts-is c.put_uncovered.ensures (ap alpha_reason (sym c.in-Uncovered.is))

pub returns-in-TwoBranches : goal.returns-in-TwoBranches
returns-in-TwoBranches g c = Puts-is c.put_named_point.ensures (ap alpha_reason (sym c.in-TwoBranches.is))

pub returns-in-NonUnit : goal.returns-in-NonUnit
returns-in-NonUnit g c = Puts-is c.put_name-in-NonUnit.ensures (ap alpha_reason (sym c.in-NonUnit.is))

pub returns-in-Candidates : goal.returns-in-Candidates
returns-in-Candidates g c = Puts-is c.put_amount-in-Candidates.ensures (ap alpha_reason (sym c.in-Candidates.is))

pub returns-in-NoSchedule : goal.returns-in-NoSchedule
returns-in-NoSchedule g c = Puts-is c.put_name-in-NoSchedule.ensures (ap alpha_reason (sym c.in-NoSchedule.is))

pub returns-in-Cycles : goal.returns-in-Cycles
returns-in-Cycles g c = Puts-is c.put_amount-in-Cycles.ensures (ap alpha_reason (sym c.in-Cycles.is))

pub returns-in-Cells : goal.returns-in-Cells
returns-in-Cells g c = Puts-is c.put_amount-in-Cells.ensures (ap alpha_reason (sym c.in-Cells.is))

pub returns-in-Delays : goal.returns-in-Delays
returns-in-Delays g c = Puts-is c.put_amount-in-Delays.ensures (ap alpha_reason (sym c.in-Delays.is))

pub returns-in-Links : goal.returns-in-Links
returns-in-Links g c = Puts-is c.put_amount-in-Links.ensures (ap alpha_reason (sym c.in-Links.is))

pub returns-in-Operators : goal.returns-in-Operators
returns-in-Operators g c = Puts-is c.put_amount-in-Operators.ensures (ap alpha_reason (sym c.in-Operators.is))

pub returns-in-Memory : goal.returns-in-Memory
returns-in-Memory g c = Puts-is c.put-in-Memory.ensures (ap alpha_reason (sym c.in-Memory.is))
