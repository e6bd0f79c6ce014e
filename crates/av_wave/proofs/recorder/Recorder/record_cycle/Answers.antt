use Rattle.std.proofs.Common.{◌≡◌, length, refl, arith}
use Rattle.av_wave.proofs.Telling.{none_told, tell_more, tell_room, tell_first, tell_fits, told_ends, told_records}
use Rattle.av_wave.proofs.recorder.Recorder.record_cycle.Goals as goal

pub loop-port-init : goal.loop-port-init
loop-port-init c = (none_told c.args.self.now c.args.words.now c.requires.open, omega arith)

pub tell-requires-clause-cycle : goal.tell-requires-clause-cycle
tell-requires-clause-cycle c = tell_room c.requires.cycle c.loop-port.invariant.0

pub tell-requires-clause-fits : goal.tell-requires-clause-fits
tell-requires-clause-fits c = tell_fits _ c.loop-port.invariant.0 (c.requires.fits c.loop-port.port c.loop-port-test.true) refl

pub tell-requires-clause-order : goal.tell-requires-clause-order
tell-requires-clause-order c = c.loop-port.invariant.0.later

pub tell-requires-clause-first : goal.tell-requires-clause-first
tell-requires-clause-first c = tell_first c.loop-port.invariant.0

pub loop-port-preserved : goal.loop-port-preserved
loop-port-preserved c = (tell_more c.args.self.now c.loop-port.self c.tell.new.self c.loop-port.port _ c.args.words.now refl c.loop-port.invariant.0 c.in_ok-tell.ensures, omega arith)

pub end_cycle-requires : goal.end_cycle-requires
end_cycle-requires c =
    let all : c.loop-port.port ≡ length c.args.self.now.ports = omega arith in
    told_ends c.requires.cycle c.loop-port.invariant.0 all

pub returns-clause-records : goal.returns-clause-records
returns-clause-records c =
    let all : c.loop-port.port ≡ length c.args.self.now.ports = omega arith in
    told_records c.args.self.now c.loop-port.self c.end_cycle.new.self c.loop-port.port c.args.words.now c.loop-port.invariant.0 all c.end_cycle.ensures.next
