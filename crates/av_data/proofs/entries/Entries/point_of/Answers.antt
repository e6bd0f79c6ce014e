use Rattle.std.proofs.Common.{◌≡◌, ℤ, List, sym, ap, subst, arith, ◌∙◌}
use Rattle.av_affine.specs.Numbers.{AtMost}
use Rattle.av_poly.specs.Points.{Set, Has}
use Rattle.av_flat.proofs.Sets.{has_is}
use Rattle.av_data.proofs.Entered.{far_outside, long_outside}
use Rattle.av_data.proofs.entries.Entries.point_of.Goals as goal
use Rattle.av_data.proofs.entries.Entries.point_of.Goals.{then-self-via-then-self, then-self-via-else-self+then-len-domain}
use Rattle.av_depend.proofs.Listed.{has_false}

pub returns-then-self-clause-none : goal.returns-then-self-clause-none
returns-then-self-clause-none c = λ y k.
    elim c.then-self.branch [
      | then-self-via-then-self w ↦ far_outside c.args.domain.now y c.requires.few c.requires.small (k.beyond w.if-self.true)
      | then-self-via-else-self+then-len-domain w ↦ long_outside c.args.domain.now c.args.self.now.kept.items y c.args.self.now.far w.if-self.false (λ e. w.if-len-domain.true (w.len.ensures.value ∙ e ∙ sym (ap (λ (s : Set). s.dim) c.domain.view_is))) k
    ]

pub contains-requires-clause-small : goal.contains-requires-clause-small
contains-requires-clause-small c = λ k d lt.
    let near = c.requires.kept.1.near c.if-self.false in
    let same : c.from_slice-point.result ≡ c.requires.kept.0 = c.from_slice-point.ensures ∙ c.as_slice.ensures.value ∙ sym near.0 in
    let small = subst (AtMost 4095) (sym same) near.2 k d lt in
    omega (arith, small)

pub returns-then-contains-clause-some : goal.returns-then-contains-clause-some
returns-then-contains-clause-some c = λ y k.
    let near = k.near c.if-self.false in
    let set = c.args.domain.now in
    let z = c.from_slice-point.result in
    (near.0 ∙ sym (c.from_slice-point.ensures ∙ c.as_slice.ensures.value), (has_is set z).1 (c.contains.ensures.0 c.if-contains.true))

pub returns-else-contains-clause-none : goal.returns-else-contains-clause-none
returns-else-contains-clause-none c = λ y k.
    let near = k.near c.if-self.false in
    let set = c.args.domain.now in
    let same : y ≡ c.from_slice-point.result = near.0 ∙ sym (c.from_slice-point.ensures ∙ c.as_slice.ensures.value) in
    has_false set y (λ h. let t = c.contains.ensures.1 (subst (λ (z : List ℤ). Has set z) same h) in let f = c.if-contains.false in cc)
