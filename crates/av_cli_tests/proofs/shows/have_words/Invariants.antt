use Rattle.std.proofs.Common.{take, All}
use Rattle.av_net.specs.Presented.{HasFittingWord}
use Rattle.av_data.specs.Inputs.{words_of}
use Rattle.av_cli_tests.proofs.shows.have_words.Given as goal

abbrev pub invariant-loop-line : goal.invariant-loop-line
invariant-loop-line l = All (HasFittingWord l.design.module.inputs (words_of l.inputs)) (take l.line-index l.design.listing.ins)
