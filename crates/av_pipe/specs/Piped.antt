-- The answer of the pass: the given system with its helpers (own form).
use Rattle.std.specs.Prelude.{◌≡◌}
use Rattle.av_flat.specs.declared.timed.Timed.{Timed}
use Rattle.av_flat.specs.Trees.{view_system}
use Rattle.av_flat.specs.Shown.{SameMeaning}
use Rattle.av_flat.specs.Solutions.{declares_of}
use Rattle.av_flat.specs.Legal.{IsLegal, HasAllHelpers}
use Rattle.av_flat.specs.Helped.{helped_shows_of}
use Rattle.av_pipe.specs.Pipelines.{pipelines}

-- the same system and times, and a helper for each moved reference; it shows the same, is legal, and no helper is missing
pub record IsPiped (from to : Timed) : Type 0 where
  pub flat : view_system to.flat ≡ view_system from.flat
  pub times : to.times ≡ from.times
  pub helpers : to.helpers ≡ pipelines (view_system from.flat) from.times
  pub legal : IsLegal to
  pub all : HasAllHelpers to
  pub same : SameMeaning (helped_shows_of (view_system from.flat) from.helpers) (declares_of (view_system from.flat)) (helped_shows_of (view_system to.flat) to.helpers) (declares_of (view_system to.flat))
