use Rattle.std.proofs.Common.{◌≡◌, ◌∙◌, refl, sym, subst}
use Rattle.av_commands.specs.SizeWords.{IsSize}
use Rattle.av_cli.proofs.DemoPlaces.{give_none, none_next, no_sizes}
use Rattle.av_cli.proofs.words.has_size.Goals as goal

pub returns-then-is_size-clause-some : goal.returns-then-is_size-clause-some
returns-then-is_size-clause-some c =
    let is : c.as_bytes.result.now ≡ c.word-item.result = c.as_bytes.ensures.value ∙ c.as_str.ensures in
    let size : IsSize c.word-item.result = subst IsSize is (c.if-is_size.ensures.0 refl) in
    λ t give. give_none c.args.words.now c.loop-word.word-index c.word-item.result give c.loop-word-test.true (subst IsSize c.word-item.is size)

pub loop-word-preserved : goal.loop-word-preserved
loop-word-preserved c =
    let is : c.as_bytes.result.now ≡ c.word-item.result = c.as_bytes.ensures.value ∙ c.as_str.ensures in
    none_next c.args.words.now c.loop-word.word-index c.word-item.result c.loop-word-test.true c.loop-word.invariant
    (λ size. let k = c.if-is_size.ensures.1 (subst IsSize (sym is) (subst IsSize (sym c.word-item.is) size)) in absurd cc)

pub returns-clause-none : goal.returns-clause-none
returns-clause-none c = λ e. no_sizes c.args.words.now c.loop-word.word-index c.loop-word-test.false c.loop-word.invariant
