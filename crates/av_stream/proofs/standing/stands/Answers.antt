use Rattle.std.proofs.Common.{◌≤◌, ◌^◌, ℤ, List, sym, subst, ◌∙◌, arith, true≢false}
use Rattle.std.specs.Prelude.{unsigned_abs}
use Rattle.std.proofs.lemmas.List.Elements.{All-weaker}
use Rattle.av_poly.specs.Points.{Has}
use Rattle.av_flat.proofs.Sets.{has_is}
use Rattle.av_stream.proofs.standing.stands.Goals as goal

pub contains-requires-clause-fits : goal.contains-requires-clause-fits
contains-requires-clause-fits c = c.in-Some.ensures.some.size ∙ c.requires.indices

pub contains-requires-clause-small : goal.contains-requires-clause-small
contains-requires-clause-small c = All-weaker (λ (x : ℤ). unsigned_abs x ≤ 4095) (λ (x : ℤ). unsigned_abs x ≤ 2 ^ 25) (λ x le. omega (arith, le)) c.in-Some.point c.in-Some.ensures.small

pub returns-in-Some : goal.returns-in-Some
returns-in-Some c =
    let set = c.args.var.now.domain in
    let z = c.in-Some.point in (
      λ t. (z, (has_is set z).1 (c.contains.ensures.0 t), c.in-Some.ensures.some),
      λ s. c.contains.ensures.1 (subst (λ (y : List ℤ). Has set y) (c.in-Some.ensures.only s.0 s.2) ((has_is set s.0).0 s.1)),
    )

pub returns-in-None : goal.returns-in-None
returns-in-None c = (λ t. absurd (true≢false (sym t)), λ s. absurd (c.in-None.ensures.none s.0 (c.requires.points s.0 s.1) s.2))
