-- What the pass gives.
use Rattle.std.proofs.Common.{◌≡◌, ◌≢◌, List, [], sym, subst, All}
use Rattle.std.specs.Prelude.{Contains, AllPairs}
use Rattle.std.proofs.lemmas.List.Elements.{All-from_recursion}
use Rattle.av_flat.specs.Trees.{FlatSystem, view_system}
use Rattle.av_flat.specs.Shown.{SameMeaning}
use Rattle.av_flat.specs.Solutions.{declares_of}
use Rattle.av_flat.specs.declared.timed.Time.{Time}
use Rattle.av_flat.specs.declared.timed.Helper.{Helper}
use Rattle.av_flat.specs.declared.timed.Timed.{Timed}
use Rattle.av_flat.specs.Chained.{IsChained}
use Rattle.av_flat.specs.Legal.{IsMoving, IsLegal}
use Rattle.av_flat.specs.Schedules.{IsSchedule}
use Rattle.av_flat.specs.Helped.{helped_shows_of}
use Rattle.av_pipe.specs.Pipelines.{pipelines}
use Rattle.av_pipe.specs.Piped.{IsPiped}
use Rattle.av_flat.specs.Proper.{IsProper}
use Rattle.av_pipe.proofs.Piped.{same_meaning}
use Rattle.av_pipe.proofs.Moving.{all_moving}
use Rattle.av_pipe.proofs.Covering.{all_there, all_once}

pub given : (from to : Timed) → IsLegal from → from.helpers ≡ [] → view_system to.flat ≡ view_system from.flat → to.times ≡ from.times
    → to.helpers ≡ pipelines (view_system from.flat) from.times → IsPiped from to
given from to legal none flat times helpers =
    let s = view_system from.flat in
    let moving : All (IsMoving s from.times) (pipelines s from.times) = All-from_recursion (IsMoving s from.times) (pipelines s from.times) (all_moving s from.times) in
    let here = same_meaning s from.times legal.chained legal.schedule (pipelines s from.times) moving in
    record {
      flat = flat;
      times = times;
      helpers = helpers;
      legal = record {
        chained = subst (λ (f : FlatSystem). IsChained f) (sym flat) legal.chained;
        proper = subst (λ (f : FlatSystem). IsProper f) (sym flat) legal.proper;
        schedule = subst (λ (f : FlatSystem). IsSchedule f 4 to.times) (sym flat) (subst (λ (l : List Time). IsSchedule s 4 l) (sym times) legal.schedule);
        helpers = subst (λ (f : FlatSystem). All (IsMoving f to.times) to.helpers) (sym flat)
            (subst (λ (l : List Time). All (IsMoving s l) to.helpers) (sym times) (subst (λ (l : List Helper). All (IsMoving s from.times) l) (sym helpers) moving));
      };
      all = record {
        each = λ h m. subst (λ (l : List Helper). Contains l h) (sym helpers)
            (all_there s from.times h (subst (λ (l : List Time). IsMoving s l h) times (subst (λ (f : FlatSystem). IsMoving f to.times h) flat m)));
        once = subst (λ (l : List Helper). AllPairs (λ a b. a ≢ b) l) (sym helpers) (all_once s from.times);
      };
      same = subst (λ (l : List Helper). SameMeaning (helped_shows_of s l) (declares_of s) (helped_shows_of (view_system to.flat) to.helpers) (declares_of (view_system to.flat))) (sym none)
          (subst (λ (f : FlatSystem). SameMeaning (helped_shows_of s []) (declares_of s) (helped_shows_of f to.helpers) (declares_of f)) (sym flat)
          (subst (λ (l : List Helper). SameMeaning (helped_shows_of s []) (declares_of s) (helped_shows_of s l) (declares_of s)) (sym helpers) here));
    }
