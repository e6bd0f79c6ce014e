use Rattle.std.proofs.Common.{◌≡◌, ◌≢◌, ◌∙◌, All, List, sym, subst, true≢false}
use Rattle.std.proofs.lemmas.List.{take_all}
use Rattle.std.proofs.lemmas.List.Elements.{All-more}
use Rattle.std.proofs.lemmas.Slice.Eq.{bytes_eq-Decides}
use Rattle.av_net.specs.declared.design.Entry.{Entry}
use Rattle.av_cli_tests.proofs.shows.is_apart.Goals as goal
use Rattle.av_cli_tests.proofs.shows.is_apart.Goals.{else-other-line-via-then-other-line+else-eq, else-other-line-via-else-other-line}

pub loop-other-preserved : goal.loop-other-preserved
loop-other-preserved c =
    let line = c.args.line.now in
    let P : Entry → Type 0 = λ other. line.wire ≡ other.wire → line.cycle ≢ other.cycle in
    let here : P c.other-item.result = elim c.else-other-line.branch [
      | else-other-line-via-then-other-line+else-eq w ↦ λ wire cycle.
          let found = (bytes_eq-Decides w.as_str.result.now w.as_str-then-other-line.result.now).1 (w.as_str.ensures ∙ sym wire ∙ sym w.as_str-then-other-line.ensures) in
          absurd (true≢false (sym found ∙ sym w.eq.ensures ∙ w.if-eq.false))
      | else-other-line-via-else-other-line w ↦ λ wire cycle. w.if-other-line.false (sym cycle)
    ] in
    All-more P c.args.later.now c.loop-other.other-index c.other-item.result c.loop-other-test.true c.loop-other.invariant (subst P c.other-item.is here)

pub returns : goal.returns
returns c =
    let line = c.args.line.now in
    let P : Entry → Type 0 = λ other. line.wire ≡ other.wire → line.cycle ≢ other.cycle in
    λ _. subst (λ (xs : List Entry). All P xs) (take_all c.loop-other.other-index c.args.later.now c.loop-other-test.false) c.loop-other.invariant
