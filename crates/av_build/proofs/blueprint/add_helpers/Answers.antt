use Rattle.std.proofs.Common.{◌≡◌, ◌∙◌, ◌++◌, [], ◌∷◌, List, sym, ap, subst}
use Rattle.av_base.proofs.Lists.{some_is}
use Rattle.av_space.specs.declared.spots.Site.{Site}
use Rattle.av_space.specs.Taps.{Pipeline}
use Rattle.av_build.specs.inner.Blueprints.{site_helpers}
use Rattle.av_build.proofs.BlueprintSteps.{none_step, some_step, last_step}
use Rattle.av_build.proofs.Pairwise.{element_of}
use Rattle.av_build.proofs.blueprint.add_helpers.Goals as goal

pub loop-site-preserved-in_default : goal.loop-site-preserved-in_default
loop-site-preserved-in_default c =
    let sites = c.as_slice-sites.result.now in
    none_step c.args.piece c.loop-site.site c.loop-site.helpers (c.args.helpers.now ++ site_helpers c.args.piece 0 sites) sites c.index-sites-site.result c.loop-site-test.true
    (ap (λ (s : Site). s.pipeline) (sym c.index-sites-site.is) ∙ ap (λ (s : Site). s.pipeline) c.index-sites-site.is ∙ c.in_default.is) c.loop-site.invariant

pub loop-site-preserved : goal.loop-site-preserved
loop-site-preserved c =
    let sites = c.as_slice-sites.result.now in
    let h = c.in-Some.pipeline in
    let number = ap (λ (h : Pipeline). h.number) c.pipeline.view_is in
    some_step c.args.piece c.loop-site.site c.loop-site.helpers (c.args.helpers.now ++ site_helpers c.args.piece 0 sites) c.push.new.self sites c.index-sites-site.result h c.loop-site-test.true c.in-Some.is c.loop-site.invariant
    (c.in_ok-push.ensures.ok ∙ ap (λ j. c.loop-site.helpers ++ record { number = j; piece = c.args.piece; site = c.loop-site.site } ∷ []) number)

pub returns : goal.returns
returns c = λ own is.
    let sites = c.as_slice-sites.result.now in
    let pieces = c.args.pieces.now in
    let here = element_of pieces.sites c.as_slice.result.now c.args.piece c.index-as_slice-piece.result c.index-as_slice-piece.result c.as_slice.ensures c.requires c.index-as_slice-piece.is in
    let same : sites ≡ own = c.as_slice-sites.ensures ∙ some_is c.index-as_slice-piece.result own (sym here ∙ is) in
    subst (λ (l : List Site). c.loop-site.helpers ≡ c.args.helpers.now ++ site_helpers c.args.piece 0 l) same
    (last_step c.args.piece c.loop-site.site c.loop-site.helpers (c.args.helpers.now ++ site_helpers c.args.piece 0 sites) sites c.loop-site-test.false c.loop-site.invariant)
