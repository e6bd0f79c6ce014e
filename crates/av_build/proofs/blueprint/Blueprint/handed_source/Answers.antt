use Rattle.std.proofs.Common.{◌∙◌, ℕ, sym, ap, subst}
use Rattle.av_space.specs.Taps.{Pipeline}
use Rattle.av_kinds.specs.declared.program.WordSource.TheVariants.{Line}
use Rattle.av_build.specs.inner.Blueprints.{lanes_of, HasHelper}
use Rattle.av_build.proofs.blueprint.Blueprint.handed_source.Goals as goal

pub helper_lane-requires-clause-helper : goal.helper_lane-requires-clause-helper
helper_lane-requires-clause-helper c =
    subst (λ (j : ℕ). HasHelper c.args.self.now c.args.reading.producer.0 j) (sym (ap (λ (h : Pipeline). h.number) c.pipeline.view_is)) c.requires.lane

pub returns : goal.returns
returns c =
    ap (λ (q : ℕ). Line q c.args.reading.delay)
    (c.helper_lane.ensures ∙ ap (λ (h : Pipeline). (lanes_of c.args.self.now.cells).of_helper h.number c.args.reading.producer.0) c.pipeline.view_is)
