-- A scheduled system with its pipelines is that of the text, and each other such system has the same array.
use Rattle.std.proofs.Common.{◌≡◌, ℕ, List, sym, subst, ap, ◌∙◌}
use Rattle.av_flat.specs.declared.timed.Time.{Time}
use Rattle.av_flat.specs.declared.timed.Timed.{Timed}
use Rattle.av_flat.specs.Trees.{FlatSystem, view_system}
use Rattle.av_names.specs.declared.size.Size.{Size}
use Rattle.av_sched.specs.First.{IsFirstSchedule}
use Rattle.av_sched.proofs.OneSchedule.{one_schedule}
use Rattle.av_pipe.specs.Pipelines.{pipelines}
use Rattle.av_pipe.specs.Piped.{IsPiped}
use Rattle.av_space.specs.declared.fault.SpaceFault.{SpaceFault}
use Rattle.av_space.specs.declared.fault.SpaceFault.TheVariants as space
use Rattle.av_space.specs.SpaceFaults.{IsSpaceFault}
use Rattle.av_space.proofs.SameArray.{same_fault}
use Rattle.av_compile.specs.Scheduled.{Serialises, HasFirstSchedule, IsScheduled}
use Rattle.av_compile.specs.Mapped.{IsPipelined, HasArray}
use Rattle.av_compile.proofs.OneChain.{one_chained}

pub pipelined : (bytes : List ℕ) (words : List Size) (width c : ℕ) (found t : Timed) → IsScheduled bytes words width c found → IsPiped found t → IsPipelined bytes words width c t
pipelined bytes words width c found t h p = record {
  serialises = subst (Serialises bytes words width) (sym p.flat) h.serialises;
  first = subst (λ (ts : List Time). IsFirstSchedule (view_system t.flat) c ts) (sym p.times) (subst (λ (s : FlatSystem). IsFirstSchedule s c found.times) (sym p.flat) h.first);
  no_cause = subst (λ (s : FlatSystem). HasFirstSchedule s c) (sym p.flat) h.no_cause;
  helpers = p.helpers ∙ ap (λ (s : FlatSystem). pipelines s found.times) (sym p.flat) ∙ ap (λ (ts : List Time). pipelines (view_system t.flat) ts) (sym p.times);
  legal = p.legal;
  all = p.all;
}

-- two of them have the same quantities
pub array_of : (bytes : List ℕ) (words : List Size) (width c : ℕ) (t u : Timed) → IsPipelined bytes words width c t → IsPipelined bytes words width c u → HasArray t → (f : SpaceFault) → IsSpaceFault u f → f ≡ space.Memory
array_of bytes words width c t u h k has f fault =
    let same = one_chained bytes words width (view_system u.flat) (view_system t.flat) k.serialises h.serialises in
    let times = one_schedule (view_system t.flat) c u.times t.times (subst (λ (s : FlatSystem). IsFirstSchedule s c u.times) same k.first) h.first in
    let helpers = k.helpers ∙ ap (λ (s : FlatSystem). pipelines s u.times) same ∙ ap (λ (ts : List Time). pipelines (view_system t.flat) ts) times ∙ sym h.helpers in
    has f (same_fault u t same times helpers f fault)
