use Rattle.av_parse.proofs.CompleteProgram.{program_complete}
use Rattle.av_parse.proofs.FaultPlaces.{text_ends, some_fault, program_has_no_fault, one_fault}
use Rattle.av_tree.specs.Grammar.{levels}
use Rattle.av_parse.proofs.laws.program_or_fault.Goals as goal

pub returns-clause-some : goal.returns-clause-some
returns-clause-some c = λ bytes tokens is. some_fault tokens (text_ends is)

pub returns-clause-apart : goal.returns-clause-apart
returns-clause-apart c = λ tokens tree fault is has. program_has_no_fault tokens tree fault (program_complete levels tokens tree is) has

pub returns-clause-one : goal.returns-clause-one
returns-clause-one c = one_fault
