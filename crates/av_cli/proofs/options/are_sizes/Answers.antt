use Rattle.std.proofs.Common.{◌≡◌, sym, subst, refl, ◌∙◌, drop, arith}
use Rattle.std.proofs.lemmas.List.{drop_all}
use Rattle.av_commands.specs.SizeWords.{IsSize}
use Rattle.av_cli.proofs.OptionWords.{sizes_from}
use Rattle.av_cli.proofs.options.are_sizes.Goals as goal

pub loop-at-init : goal.loop-at-init
loop-at-init c = (c.requires, (λ all. all, λ all. all))

pub returns-then-not-is_size : goal.returns-then-not-is_size
returns-then-not-is_size c =
    let is : c.as_bytes.result.now ≡ c.index-words-at.result = c.as_bytes.ensures.value ∙ c.as_str.ensures in
    let none = c.if-not-is_size.ensures.1 in
    let all = sizes_from c.args.words.now c.loop-at.at c.index-words-at.result c.loop-at-test.true c.index-words-at.is in
    (λ h. absurd cc, λ h. none (subst IsSize (sym is) (all.0 (c.loop-at.invariant.1.0 h)).0))

pub loop-at-preserved : goal.loop-at-preserved
loop-at-preserved c =
    let is : c.as_bytes.result.now ≡ c.index-words-at.result = c.as_bytes.ensures.value ∙ c.as_str.ensures in
    let here : IsSize c.index-words-at.result = subst IsSize is (c.if-not-is_size.ensures.0 refl) in
    let all = sizes_from c.args.words.now c.loop-at.at c.index-words-at.result c.loop-at-test.true c.index-words-at.is in
    (omega (arith, c.loop-at-test.true), (λ h. (all.0 (c.loop-at.invariant.1.0 h)).1, λ h. c.loop-at.invariant.1.1 (all.1 (here, h))))

pub returns : goal.returns
returns c =
    let none : drop c.loop-at.at c.args.words.now ≡ _ = drop_all c.loop-at.at c.args.words.now (omega (arith, c.loop-at-test.false)) in
    (λ h. c.loop-at.invariant.1.1 (rw none tt), λ h. refl)
