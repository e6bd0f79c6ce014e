use Rattle.std.proofs.Common.{ℕ, inl, inr, subst, refl, arith}
use Rattle.av_cli.specs.inner.DemoWords.{IsDemoAt}
use Rattle.av_cli.proofs.DemoPlaces.{demo_there, placed}
use Rattle.av_cli.proofs.words.read_demo.Goals as goal
use Rattle.av_space.proofs.JoinedLinks.{one_more}

pub returns-in-Some-clause-read : goal.returns-in-Some-clause-read
returns-in-Some-clause-read c =
    demo_there c.args.words.now c.requires.0 c.loop-at.at _ _ _ c.requires.1 (omega (arith, c.loop-at.auto.at)) c.loop-at-test.true (c.if-has_size.ensures.none refl) c.in-Some.ensures.read

pub loop-at-preserved : goal.loop-at-preserved
loop-at-preserved c = λ at bits box k least lt is.
    elim (one_more at c.loop-at.at lt) [
      | inl less ↦ c.loop-at.invariant at bits box k least less is
      | inr same ↦ c.in_default.ensures.unread bits box k (subst (λ (n : ℕ). IsDemoAt c.args.words.now n bits box k) same is)
    ]

pub returns-clause-unread : goal.returns-clause-unread
returns-clause-unread c = λ asked.
    let (bits, box, k, is) = asked in
    let p = placed c.args.words.now bits box k is in
    c.loop-at.invariant p.at bits box k p.least (omega (arith, p.within, c.loop-at-test.false)) p.is
