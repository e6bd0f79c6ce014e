use Rattle.std.proofs.lemmas.List.Elements.{All-from_recursion}
use Rattle.av_flat.specs.Legal.{IsMoving}
use Rattle.av_pipe.specs.Pipelines.{pipelines}
use Rattle.av_pipe.proofs.Moving.{all_moving}
use Rattle.av_pipe.proofs.laws.pipelines_move.Goals as goal

pub returns : goal.returns
returns c = λ s times. All-from_recursion (IsMoving s times) (pipelines s times) (all_moving s times)
