use Rattle.std.proofs.Common.{All, sym, subst}
use Rattle.av_net.specs.declared.design.Design.{Design}
use Rattle.av_net.specs.Presented.{HaveFittingWords}
use Rattle.av_stream.specs.Streams.{AreApartEach}
use Rattle.av_data.specs.Inputs.{InputWords, words_of}
use Rattle.av_commands.proofs.streams.clock_plan.Goals as goal

pub clock_stream-requires-clause-apart : goal.clock_stream-requires-clause-apart
clock_stream-requires-clause-apart g c = subst (λ (d : Design). AreApartEach d.listing.ins c.args.streamed.now.period) (sym c.in-Ok.ensures) c.requires.apart

pub clock_stream-requires-clause-words : goal.clock_stream-requires-clause-words
clock_stream-requires-clause-words g c = subst (λ (d : Design). All (λ (x : InputWords). HaveFittingWords d (words_of x)) c.args.inputs.now) (sym c.in-Ok.ensures) c.requires.words
