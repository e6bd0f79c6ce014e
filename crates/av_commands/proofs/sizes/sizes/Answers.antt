use Rattle.std.proofs.Common.{◌≡◌, ◌+◌, ◌∙◌, ℕ, List, sym, subst}
use Rattle.std.specs.Prelude.{MatchOption}
use Rattle.std.proofs.lemmas.Option.{MatchOption-at_some, MatchOption-at_none}
use Rattle.av_names.specs.declared.size.Size.{Size}
use Rattle.av_commands.specs.SizeWords.{IsSize, size_of}
use Rattle.av_commands.proofs.GivenSizes.{AreFound, one_found, other_found, all_found}
use Rattle.av_commands.proofs.sizes.sizes.Goals as goal
use Rattle.av_commands.proofs.sizes.sizes.Goals.{in-Some+in_ok-push, in_default}

pub loop-word-preserved : goal.loop-word-preserved
loop-word-preserved c =
    let words : List (List ℕ) = c.args.words.now in
    let w : List ℕ = c.word-item.result in
    let found : MatchOption c.in_ok-size.field-0 (IsSize w → ⊥) (λ s. (is : IsSize w) × (s ≡ size_of is)) =
    subst (λ (x : List ℕ). MatchOption c.in_ok-size.field-0 (IsSize x → ⊥) (λ s. (is : IsSize x) × (s ≡ size_of is))) c.as_str.ensures c.in_ok-size.ensures in
    elim c.match-branch-2.branch [
      | in-Some+in_ok-push b ↦ (
          let is = MatchOption-at_some (IsSize w → ⊥) (λ s. (is : IsSize w) × (s ≡ size_of is)) b.in-Some.size b.in-Some.is found in
          subst (λ (xs : List Size). AreFound words xs (c.loop-word.word-index + 1)) (sym (b.sizes-is ∙ b.in_ok-push.ensures.ok))
          (one_found words c.loop-word.sizes c.loop-word.word-index w b.in-Some.size c.loop-word-test.true c.word-item.is is c.loop-word.invariant))
      | in_default b ↦ (
          let none = MatchOption-at_none (IsSize w → ⊥) (λ s. (is : IsSize w) × (s ≡ size_of is)) b.in_default.is found in
          subst (λ (xs : List Size). AreFound words xs (c.loop-word.word-index + 1)) (sym b.sizes-is)
          (other_found words c.loop-word.sizes c.loop-word.word-index w c.loop-word-test.true c.word-item.is none c.loop-word.invariant))
    ]

pub returns-clause-given : goal.returns-clause-given
returns-clause-given c = all_found c.args.words.now c.loop-word.sizes c.loop-word.word-index c.loop-word-test.false c.loop-word.invariant
