use Rattle.std.proofs.Common.{◌≡◌, true, false, sym, subst, refl, ◌∙◌, length, arith}
use Rattle.std.specs.Prelude.{codes}
use Rattle.std.proofs.lemmas.Slice.Eq.{bytes_eq-Decides}
use Rattle.av_commands.specs.SizeWords.{IsSize}
use Rattle.av_cli.specs.inner.CommandsSeen.{seen}
use Rattle.av_cli.proofs.OptionWords.{dashes_turn, dashes_fail, size_turn, size_fail}
use Rattle.av_cli.proofs.options.Options.read_size.Goals as goal

pub returns-then-are_sizes-clause-read : goal.returns-then-are_sizes-clause-read
returns-then-are_sizes-clause-read c =
    let dashes : c.index-words-at.result ≡ codes "--" = sym c.as_str-word.ensures ∙ (bytes_eq-Decides c.as_str-word.result.now (codes "--")).0 (sym c.eq.ensures ∙ c.if-eq.true) in (
      c.requires.at,
      omega arith,
      λ p.
          dashes_turn (seen c.args.self) p c.args.words.now c.args.at c.index-words-at.result c.requires.at c.index-words-at.is c.requires.no_width c.requires.no_box dashes (c.if-are_sizes.ensures.0 refl) (length c.args.words.now) refl,
    )

pub returns-else-are_sizes-clause-unread : goal.returns-else-are_sizes-clause-unread
returns-else-are_sizes-clause-unread c =
    let dashes : c.index-words-at.result ≡ codes "--" = sym c.as_str-word.ensures ∙ (bytes_eq-Decides c.as_str-word.result.now (codes "--")).0 (sym c.eq.ensures ∙ c.if-eq.true) in
    λ p say. dashes_fail (seen c.args.self) p c.args.words.now c.args.at c.index-words-at.result c.requires.at c.index-words-at.is c.requires.no_width c.requires.no_box dashes (λ all. let k = c.if-are_sizes.ensures.1 all in absurd cc) say

pub returns-then-is_size-clause-read : goal.returns-then-is_size-clause-read
returns-then-is_size-clause-read c =
    let no_dashes : c.index-words-at.result ≡ codes "--" → ⊥ = λ e.
    let t = (bytes_eq-Decides c.as_str-word.result.now (codes "--")).1 (c.as_str-word.ensures ∙ e) in
    let k : true ≡ false = sym t ∙ (sym c.eq.ensures ∙ c.if-eq.false) in absurd cc in
    let is : c.as_bytes.result.now ≡ c.index-words-at.result = c.as_bytes.ensures.value ∙ c.as_str-word.ensures in (
      omega arith,
      omega (arith, c.requires.at),
      λ p.
          size_turn (seen c.args.self) p c.args.words.now c.args.at c.index-words-at.result c.requires.at c.index-words-at.is c.requires.no_width c.requires.no_box no_dashes (subst IsSize is (c.if-is_size.ensures.0 refl)),
    )

pub returns-else-is_size-clause-unread : goal.returns-else-is_size-clause-unread
returns-else-is_size-clause-unread c =
    let no_dashes : c.index-words-at.result ≡ codes "--" → ⊥ = λ e.
    let t = (bytes_eq-Decides c.as_str-word.result.now (codes "--")).1 (c.as_str-word.ensures ∙ e) in
    let k : true ≡ false = sym t ∙ (sym c.eq.ensures ∙ c.if-eq.false) in absurd cc in
    let is : c.as_bytes.result.now ≡ c.index-words-at.result = c.as_bytes.ensures.value ∙ c.as_str-word.ensures in
    λ p say. size_fail (seen c.args.self) p c.args.words.now c.args.at c.index-words-at.result c.requires.at c.index-words-at.is c.requires.no_width c.requires.no_box no_dashes
    (λ size. let k = c.if-is_size.ensures.1 (subst IsSize (sym is) size) in absurd cc) say
