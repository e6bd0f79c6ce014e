use Rattle.std.proofs.Common.{◌≡◌, ◌∙◌, length, arith, ap}
use Rattle.std.proofs.lemmas.Grind.{common_steps}
use Rattle.av_flat.specs.declared.timed.Timed.{Timed}
use Rattle.av_space.specs.declared.array.Array.{Array}
use Rattle.av_space.specs.Spots.{helpers_of}
use Rattle.av_build.proofs.WithinCount.{counted_by}
use Rattle.av_build.proofs.programming.program_of_array.Goals as goal

pub from_blueprint-requires-clause-counter : goal.from_blueprint-requires-clause-counter
from_blueprint-requires-clause-counter c =
    let b = c.in_ok-blueprint.blueprint in
    let timed = ap (λ (w : Array). w.timed.now) c.in_ok-blueprint.ensures.array ∙ c.requires.timed in
    let cells = ap (λ (w : Array). w.cells.now) c.in_ok-blueprint.ensures.array ∙ c.requires.cells in
    counted_by b.array c.in_ok-blueprint.ensures.blueprint.array c.args.timed.now c.args.cells.now timed cells c.args.counter c.requires.counter c.requires.apart

pub from_blueprint-requires-clause-ranks : goal.from_blueprint-requires-clause-ranks
from_blueprint-requires-clause-ranks c =
    let timed = ap (λ (w : Array). w.timed.now) c.in_ok-blueprint.ensures.array ∙ c.requires.timed in
    let many : length (helpers_of c.in_ok-blueprint.blueprint.array) ≡ length c.args.timed.now.helpers = ap (λ (t : Timed). length t.helpers) timed in
    let most = c.len.ensures.most in
    omega (arith, many, most)

pub from_blueprint-requires-clause-blueprint : goal.from_blueprint-requires-clause-blueprint
from_blueprint-requires-clause-blueprint c = grind (arith, common_steps)

pub from_blueprint-requires-clause-timed : goal.from_blueprint-requires-clause-timed
from_blueprint-requires-clause-timed c = grind (arith, common_steps)
