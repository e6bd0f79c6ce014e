use Rattle.std.proofs.Common.{◌≡◌, ◌-◌, sym, subst, ◌∙◌, arith}
use Rattle.av_space.specs.Taps.{Tap}
use Rattle.av_space.specs.inner.Alike.{AreAlike}
use Rattle.av_space.specs.inner.Sites.{tap_of}
use Rattle.av_space.proofs.linking.is_like_the_last.Goals as goal
use Rattle.av_base.proofs.Lists.{get_mapped, some_is}

pub returns : goal.returns
returns c = λ like.
    let j = c.args.number - 1 in
    let last = c.site_at.result.now in
    let site = c.site_at-2.result.now in
    let alike = c.are_alike.ensures.0 like in
    let not_first = c.if-number-eq0.false in (
      j,
      omega (arith, not_first),
      λ t u is_t is_u.
          let first : tap_of last ≡ t = some_is (tap_of last) t (sym (get_mapped tap_of c.args.sites.now j last c.site_at.ensures) ∙ is_t) in
          let second : tap_of site ≡ u = some_is (tap_of site) u (sym (get_mapped tap_of c.args.sites.now c.args.number site c.site_at-2.ensures) ∙ is_u) in
          subst (λ (x : Tap). AreAlike x u) first (subst (AreAlike (tap_of last)) second alike),
    )
