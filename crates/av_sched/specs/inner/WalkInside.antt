-- What a walk through choices keeps. Only private contracts cite this.
use Rattle.std.specs.Prelude.{All}
use Rattle.av_sched.specs.declared.walk.Walk.TheInside.{Inside}
use Rattle.av_sched.specs.Witnesses.{IsWitness}
use Rattle.av_sched.specs.inner.Walk.{known, IsSound, IsLike, IsRated}
use Rattle.av_sched.specs.inner.Walks.{Walk, walk_at, system_of, IsInSystem, IsChoice}

abbrev pub walk_of : Inside → Walk
walk_of w = walk_at w.choices.now w.linear.items (known w.best)

-- a linear part for each node, witnesses inside the component, and a best choice that is feasible, with what it costs, and that
-- has these linear parts outside the component
pub record IsKept (w : Inside) : Type 0 where
  pub fits : IsInSystem w.choices.now
  pub valid : IsChoice w.choices.now w.linear.items
  pub pool : All (IsWitness w.choices.now.edges w.choices.now.component) w.pool.items
  pub sound : IsSound (system_of w.choices.now) w.choices.now.size w.choices.now.component (known w.best)
  pub rated : IsRated (system_of w.choices.now) w.choices.now.component w.best
  pub like : IsLike w.choices.now.component w.linear.items (known w.best)
