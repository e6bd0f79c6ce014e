use Rattle.std.proofs.Common.{◌<◌, ℕ, List, length, ap, ◌∙◌, refl, arith}
use Rattle.std.proofs.lemmas.List.{length-set}
use Rattle.av_wave.specs.declared.wave.Change.{Change}
use Rattle.av_commands.proofs.Unwaving.{change_made, none_made, one_made, some_made, all_made}
use Rattle.av_commands.proofs.unwaves.make_changes.Goals as goal

abbrev no_change : Change
no_change = record { cycle = 0; port = 0; value = 0 }

pub loop-next-init : goal.loop-next-init
loop-next-init c = (none_made c.args.changes.now c.args.first c.args.cycle, c.requires.words, refl, c.requires.first)

pub set-requires : goal.set-requires
set-requires c = omega (arith, c.requires.ports c.loop-next.next no_change c.loop-next-test.true, c.loop-next.invariant.2)

pub loop-next-preserved : goal.loop-next-preserved
loop-next-preserved c =
    let inv = c.loop-next.invariant in
    let next : ℕ = c.loop-next.next in
    let lt : next < length c.args.changes.now = c.loop-next-test.true in (
      one_made c.args.changes.now c.args.first c.args.cycle next no_change inv.0 lt c.if-change-cycle.false,
      c.set.ensures ∙ change_made c.args.changes.now next (length c.args.words.now) c.loop-next.words no_change lt (c.requires.ports next no_change lt) inv.1,
      ap (λ (ws : List ℕ). length ws) c.set.ensures ∙ length-set c.loop-next.words _ _ ∙ inv.2,
      omega arith,
    )

pub returns-then-change-cycle-clause-made : goal.returns-then-change-cycle-clause-made
returns-then-change-cycle-clause-made c = some_made c.args.changes.now c.args.first c.args.cycle c.loop-next.next no_change c.loop-next.invariant.0 c.if-change-cycle.true

pub returns-clause-made : goal.returns-clause-made
returns-clause-made c = all_made c.args.changes.now c.args.first c.args.cycle c.loop-next.next c.loop-next.invariant.0 c.loop-next-test.false
