use Rattle.std.proofs.Common.{arith}
use Rattle.std.proofs.lemmas.Grind.{common_steps}
use Rattle.av_flat.proofs.sites.+add_places.Goals as goal

pub returns-in_ok-site-in-Choose-3 : goal.returns-in_ok-site-in-Choose-3
returns-in_ok-site-in-Choose-3 t c = grind (arith, common_steps)

pub returns-in_ok-push-in-Ref : goal.returns-in_ok-push-in-Ref
returns-in_ok-push-in-Ref t c = grind (arith, common_steps)

pub returns-in_ok-push-in-Pick : goal.returns-in_ok-push-in-Pick
returns-in_ok-push-in-Pick t c = grind (arith, common_steps)
