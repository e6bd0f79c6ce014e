use Rattle.std.proofs.Common.{rules, ◌≡◌, ℤ, List, [], length, length-take-le, take, arith}
use Rattle.std.proofs.lemmas.Grind.{common_steps}
use Rattle.av_poly.specs.Points.{Has}
use Rattle.av_poly.specs.Search.{IsBetween, IsNotAfter, CanFollow}
use Rattle.av_poly.specs.inner.Search.{IsFirstFrom}
use Rattle.av_poly.proofs.Searching.{first_is_point, first_is_least, follows_none, first_same, follow_same, some_weaker, none_weaker}
use Rattle.av_poly.proofs.poly.Poly.first_point.Goals as goal

pub returns : goal.returns
returns c =
    let set = c.args.self.now in
    let low = c.args.bounds.now.low in
    let high = c.args.bounds.now.high in
    let r : c.as_slice.result.now ≡ set.rows = search rules in
    let l : c.as_slice-2.result.now ≡ take set.dim low = search rules in
    let h : c.as_slice-3.result.now ≡ take set.dim high = search rules in
    let four : length low ≡ 4 = search rules in
    let n : length (take set.dim low) ≡ set.dim = length-take-le set.dim low (omega (arith, four, c.requires.dim)) in
    let First = IsFirstFrom c.as_slice.result.now [] c.as_slice-2.result.now c.as_slice-3.result.now in
    record {
      found = some_weaker First (λ z. Has set z × IsBetween low high z) (λ z s. first_is_point set low high z n (first_same _ _ _ _ _ _ z r l h s)) c.first_from.result c.first_from.ensures.some;
      least = some_weaker First (λ z. (other : List ℤ) → Has set other → IsBetween low high other → IsNotAfter z other)
          (λ z s. first_is_least set low high z n (first_same _ _ _ _ _ _ z r l h s)) c.first_from.result c.first_from.ensures.some;
      none = none_weaker ((rest : List ℤ) → CanFollow c.as_slice.result.now [] c.as_slice-2.result.now c.as_slice-3.result.now rest → ⊥) ((z : List ℤ) → Has set z → IsBetween low high z → ⊥)
          (λ f z p b. f z (follow_same _ _ _ _ _ _ z r l h (follows_none set low high z n p b))) c.first_from.result c.first_from.ensures.none;
    }

pub first_from-requires-clause-low : goal.first_from-requires-clause-low
first_from-requires-clause-low c = grind (arith, common_steps)

pub first_from-requires-clause-high : goal.first_from-requires-clause-high
first_from-requires-clause-high c = grind (arith, common_steps)
