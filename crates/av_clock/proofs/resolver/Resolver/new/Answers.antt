use Rattle.av_clock.proofs.resolver.Resolver.new.Goals as goal

pub invariant_of-result : goal.invariant_of-result
invariant_of-result c = record { sound = c.requires; finds = c.in_ok-enter_all.ensures }
