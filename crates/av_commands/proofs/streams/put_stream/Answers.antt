use Rattle.std.proofs.Common.{ℕ, List, length, sym, subst, arith}
use Rattle.std.proofs.lemmas.List.Elements.{All-weaker}
use Rattle.av_flat.specs.Trees.{view_system}
use Rattle.av_flat.specs.OneSolution.{AreInputs}
use Rattle.av_net.specs.declared.design.Listing.{Listing}
use Rattle.av_net.specs.Flat.{flat_of}
use Rattle.av_net.specs.Presented.{HaveFittingWords}
use Rattle.av_stream.specs.Streams.{AreApartEach}
use Rattle.av_stream.proofs.Counted.{counts}
use Rattle.av_data.specs.Inputs.{InputWords, words_of}
use Rattle.av_commands.proofs.FedEach.{few_starts}
use Rattle.av_commands.proofs.Outputs.{puts_more}
use Rattle.av_space.proofs.Streams.{fitting_words}
use Rattle.av_commands.proofs.streams.put_stream.Goals as goal

pub clock_plan-requires-clause-plan : goal.clock_plan-requires-clause-plan
clock_plan-requires-clause-plan g c = c.in-Ok.ensures.is_plan.sound

pub clock_plan-requires-clause-apart : goal.clock_plan-requires-clause-apart
clock_plan-requires-clause-apart g c =
    let is = c.in-Ok.ensures in
    let period = c.in-Ok.streamed.period in
    subst (λ (l : Listing). AreApartEach l.ins period) (sym is.is_plan.carries.listing) is.apart

pub clock_plan-requires-clause-words : goal.clock_plan-requires-clause-words
clock_plan-requires-clause-words g c =
    let a = c.args.array.now in
    let plan = c.in-Ok.streamed.plan in
    All-weaker (λ (x : InputWords). AreInputs (view_system a.timed.flat) (words_of x)) (λ (x : InputWords). HaveFittingWords (flat_of plan) (words_of x))
    (λ x are. fitting_words a.timed a.cells (flat_of plan) c.in-Ok.ensures.is_plan.carries (words_of x) are) c.args.inputs.now c.requires.words

pub clock_plan-requires-clause-few : goal.clock_plan-requires-clause-few
clock_plan-requires-clause-few g c =
    let a = c.args.array.now in
    let is = c.in-Ok.ensures in
    let period = c.in-Ok.streamed.period in
    let counter = counts a.timed a.cells period is.has_period c.requires.legal c.requires.whole c.requires.within in
    few_starts c.args.cycles a.cells.cycles period (length c.args.inputs.now) c.requires.few.0 (c.requires.short period is.has_period) c.requires.few.1 (omega (arith, counter.1))

pub returns-in-Ok : goal.returns-in-Ok
returns-in-Ok g c =
    let streamed = c.in-Ok.streamed in
    puts_more (λ (out : List ℕ) is. record { streamed = streamed; is_stream = c.in-Ok.ensures; streams = is }) c.clock_plan.ensures
