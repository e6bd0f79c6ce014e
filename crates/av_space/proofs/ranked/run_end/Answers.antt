use Rattle.std.proofs.Common.{◌≡◌, ◌∙◌, ℕ, Some, length, sym, ap, arith, inl, inr}
use Rattle.std.specs.Prelude.{slice_get}
use Rattle.std.proofs.lemmas.Bool.{cases_lt}
use Rattle.std.proofs.lemmas.Option.{slice_get-get_or, slice_get_within}
use Rattle.av_space.specs.inner.Laying.{place_rank}
use Rattle.av_space.proofs.ranked.run_end.Goals as goal

pub loop-k-preserved : goal.loop-k-preserved
loop-k-preserved c = λ j a b above below ea eb.
    let xs = c.args.ranked.now in
    let k = c.loop-k.k in
    let x = c.index-ranked-start.result in
    let y = c.index-ranked-k.result in
    elim (cases_lt j k) [
      | inl lt ↦ c.loop-k.invariant j a b above lt ea eb
      | inr ge ↦ (
          let same : j ≡ k = omega (arith, below, ge) in
          let fa : slice_get xs c.args.start ≡ Some x = slice_get-get_or xs c.args.start x c.requires ∙ ap Some (sym c.index-ranked-start.is) in
          let fb : slice_get xs k ≡ Some y = slice_get-get_or xs k y c.loop-k-test.true ∙ ap Some (sym c.index-ranked-k.is) in
          let gb : slice_get xs k ≡ Some b = ap (λ (i : ℕ). slice_get xs i) (sym same) ∙ eb in
          let ia : a ≡ x = cc in
          let ib : b ≡ y = cc in
          let t = c.if-ranked-k.false in
          ap place_rank ib ∙ ap place_rank c.index-ranked-k.is ∙ t ∙ ap place_rank (sym c.index-ranked-start.is) ∙ sym (ap place_rank ia))
    ]

pub returns : goal.returns
returns c = record {
  above = c.requires;
  within = omega arith;
  same = λ j a b above below ea eb. c.loop-k.invariant j a b above (let t = c.loop-k-test.false in omega (arith, below, t)) ea eb;
  other = λ a b ea eb. absurd (let l = slice_get_within c.args.ranked.now (length c.args.ranked.now) b eb in omega (arith, l));
}
