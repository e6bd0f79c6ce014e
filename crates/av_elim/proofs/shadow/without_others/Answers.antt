use Rattle.std.proofs.Common.{◌^◌, List, sym, subst, arith, suc}
use Rattle.std.specs.List.{All}
use Rattle.av_affine.specs.declared.form.Form.{Form}
use Rattle.av_poly.specs.Rational.{homogeneous}
use Rattle.av_elim.specs.inner.Rows.{line, Small, StandsFor}
use Rattle.av_elim.specs.inner.Step.{eliminated}
use Rattle.av_elim.proofs.Progress.{first, ready, next, skip, small_left}
use Rattle.av_elim.proofs.shadow.without_others.Goals as goal
use Rattle.av_elim.proofs.shadow.without_others.Goals.{then-other-index+in_ok-out-2, else-other-index}

pub loop-other-init : goal.loop-other-init
loop-other-init c = first c.args.index c.args.rows.now (homogeneous c.in_ok-out.out) c.requires.rows c.in_ok-out.ensures

pub eliminate-requires-clause-rows : goal.eliminate-requires-clause-rows
eliminate-requires-clause-rows c =
    subst (All (λ r. Small (2 ^ 21) (line r))) (sym c.as_slice.ensures)
    (ready c.args.index c.args.last c.loop-other.other (homogeneous c.args.rows.now) c.loop-other.out c.requires.index c.requires.last c.requires.other c.loop-other-test.true c.if-other-index.true c.loop-other.invariant)

pub loop-other-preserved : goal.loop-other-preserved
loop-other-preserved c = elim c.if-other-index.branch [
  | then-other-index+in_ok-out-2 w ↦
      let s = subst (λ (rows : List Form). StandsFor (eliminated (suc c.loop-other.other) (homogeneous rows)) (homogeneous w.in_ok-out-2.out)) w.as_slice.ensures w.in_ok-out-2.ensures in
      rw w.out-is (next c.args.index c.args.last c.loop-other.other (homogeneous c.args.rows.now) c.loop-other.out c.requires.index c.requires.last c.requires.other c.loop-other-test.true w.if-other-index.true c.loop-other.invariant (homogeneous w.in_ok-out-2.out) s)
  | else-other-index w ↦ rw w.out-is (skip c.args.index c.loop-other.other (homogeneous c.args.rows.now) (homogeneous c.loop-other.out) (omega arith) c.loop-other.invariant)
]

pub returns-clause-small : goal.returns-clause-small
returns-clause-small c = small_left c.args.index c.args.last c.loop-other.other (homogeneous c.args.rows.now) c.loop-other.out c.requires.index c.requires.last c.requires.other (omega arith) c.loop-other.invariant
