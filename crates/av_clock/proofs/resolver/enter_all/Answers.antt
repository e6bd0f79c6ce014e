use Rattle.std.proofs.Common.{refl}
use Rattle.av_clock.proofs.Found.{on_done, finds_all}
use Rattle.av_clock.proofs.resolver.enter_all.Goals as goal

pub returns : goal.returns
returns c =
    on_done c.enter-4.result
    (λ fourth.
    finds_all c.args.of.now c.args.table.now c.enter.new.table c.enter-2.new.table c.enter-3.new.table c.enter-4.new.table c.as_slice-inputs.result.now c.as_slice-registers.result.now c.as_slice-outputs.result.now _ _ _ _ c.requires.sound c.requires.none
    c.as_slice-inputs.ensures c.as_slice-registers.ensures c.as_slice-outputs.ensures c.as_slice.ensures refl refl refl
    c.in_ok-enter.ensures c.in_ok-enter-2.ensures c.in_ok-enter-3.ensures fourth)
    c.enter-4.ensures
