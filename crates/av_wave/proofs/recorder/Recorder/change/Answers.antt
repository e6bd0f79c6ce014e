use Rattle.std.proofs.Common.{◌≡◌, ◌<◌, length, refl, sym, ap, arith, subst}
use Rattle.av_wave.specs.inner.Parts.{Part, IsNext, FitsPort}
use Rattle.av_wave.proofs.Kept.{port_within, kept_told}
use Rattle.av_wave.proofs.recorder.Recorder.change.Goals as goal

pub overflow_add-self : goal.overflow_add-self
overflow_add-self c =
    let within : c.args.port < length c.args.self.now.ports = port_within c.requires.fits in
    let same : length c.self.inside.ports ≡ length c.args.self.now.ports = ap (λ (p : Part). length p.ports) c.self.view_is in
    omega (arith, within, same, c.len-most.ensures.most)

pub invariant_of-self-2 : goal.invariant_of-self-2
invariant_of-self-2 c =
    let part = sym c.self.view_is in
    kept_told c.self.inside c.args.port c.args.value _ _ _ c.self.invariant (subst (λ (p : Part). IsNext p c.args.port c.args.value) part c.requires.next)
    (subst (λ (p : Part). FitsPort p.ports c.args.port c.args.value) part c.requires.fits) c.in_ok-push.ensures.ok c.set.ensures refl
