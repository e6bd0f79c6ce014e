use Rattle.std.proofs.Common.{◌≡◌, ◌+◌, ◌<◌, ◌++◌, Some, None, List, [], ◌∷◌, ℕ, sym, ap, subst, ◌∙◌, length, drop, arith}
use Rattle.std.proofs.lemmas.List.{append-nil}
use Rattle.std.proofs.lemmas.Bool.Decides.{Decides-eqb, nat_tests}
use Rattle.std.proofs.lemmas.Slice.Eq.{strip_prefix_is}
use Rattle.av_cli.specs.Commands.{IsOption}
use Rattle.av_cli.proofs.OptionWords.{if_none, none_at, apart_at, joined_at, empty_of}
use Rattle.av_cli.proofs.options.option_at.Goals as goal

pub returns-in_err-tail-clause-none : goal.returns-in_err-tail-clause-none
returns-in_err-tail-clause-none c =
    let is : c.as_bytes-word.result.now ≡ c.index-words-at.result = c.as_bytes-word.ensures.value ∙ c.as_str.ensures in
    let no_front = strip_prefix_is Decides-eqb c.as_bytes-word.result.now c.args.name.now None c.in_err-tail.ensures.cases in
    if_none c.from_residual.result _ c.from_residual.ensures
    (none_at c.args.name.now c.args.words.now c.args.at c.index-words-at.result c.requires c.index-words-at.is (λ t e. no_front t (is ∙ e)))

pub returns-then-is_empty-clause-found : goal.returns-then-is_empty-clause-found
returns-then-is_empty-clause-found c =
    let is : c.as_bytes-word.result.now ≡ c.index-words-at.result = c.as_bytes-word.ensures.value ∙ c.as_str.ensures in
    let front = strip_prefix_is Decides-eqb c.as_bytes-word.result.now c.args.name.now (Some c.in_ok-tail.tail) c.in_ok-tail.ensures.cases in
    let none : c.in_ok-tail.tail.now ≡ [] = empty_of c.in_ok-tail.tail.now (grind (arith, nat_tests, c.is_empty.ensures, c.if-is_empty.true)) in
    let lt : c.args.at + 1 < length c.args.words.now = grind (arith, nat_tests, c.in_ok-value.ensures.lookup.0) in
    let value : c.as_bytes.result.now ≡ c.in_ok-value.value.now = c.as_bytes.ensures.value ∙ c.as_str-then-is_empty.ensures in
    let whole : c.index-words-at.result ≡ c.args.name.now = sym is ∙ (front ∙ (ap (λ t. c.args.name.now ++ t) none ∙ append-nil c.args.name.now)) in (
      omega arith,
      omega (arith, lt),
      subst (λ (v : List ℕ). IsOption c.args.name.now (drop c.args.at c.args.words.now) v (drop (c.args.at + 2) c.args.words.now)) (sym value)
          (apart_at c.args.name.now c.args.words.now c.args.at c.index-words-at.result c.in_ok-value.value.now lt c.index-words-at.is c.in_ok-value.ensures.lookup.1 whole),
    )

pub returns-clause-found : goal.returns-clause-found
returns-clause-found c =
    let is : c.as_bytes-word.result.now ≡ c.index-words-at.result = c.as_bytes-word.ensures.value ∙ c.as_str.ensures in
    let front = strip_prefix_is Decides-eqb c.as_bytes-word.result.now c.args.name.now (Some c.in_ok-tail.tail) c.in_ok-tail.ensures.cases in
    let tail = strip_prefix_is Decides-eqb c.in_ok-tail.tail.now (61 ∷ []) (Some c.in_ok-value-2.value) c.in_ok-value-2.ensures.cases in (
      omega arith,
      omega (arith, c.requires),
      joined_at c.args.name.now c.args.words.now c.args.at c.index-words-at.result c.in_ok-value-2.value.now c.requires c.index-words-at.is (sym is ∙ (front ∙ ap (λ t. c.args.name.now ++ t) tail)),
    )
