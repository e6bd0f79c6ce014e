-- What a resolver keeps.
use Rattle.std.specs.Map.{lookup}
use Rattle.std.specs.Str.{bytes_eq}
use Rattle.av_net.specs.Names.{declarations}
use Rattle.av_net.specs.Sound.{IsSound}
use Rattle.av_clock.specs.declared.resolver.Resolver.TheInside.{Inside}
use Rattle.av_clock.specs.inner.Found.{Finds}

-- its module is sound, and all its declarations are found
pub record IsResolver (c : Inside) : Type 0 where
  pub sound : IsSound c.of.now
  pub finds : Finds (λ q. lookup (bytes_eq q) c.table) (declarations c.of.now)
