use Rattle.av_sched.proofs.choices.Choices.new.Goals as goal

pub returns-clause-fits : goal.returns-clause-fits
returns-clause-fits c = record { within = c.requires.within; apart = c.requires.apart; small = c.args.reach.most }

pub invariant_of-result : goal.invariant_of-result
invariant_of-result c = record {
  chained = c.requires.chained;
  proper = c.requires.proper;
  edges = c.requires.edges;
  within = c.requires.within;
  apart = c.requires.apart;
  lists = c.in_ok-plan.ensures.lists;
  prices = c.in_ok-plan.ensures.prices;
  floors = c.in_ok-plan.ensures.floors;
}
