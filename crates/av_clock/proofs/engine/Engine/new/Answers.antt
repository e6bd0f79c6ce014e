use Rattle.std.proofs.Common.{◌≡◌, length, sym, subst, false, true, arith}
use Rattle.std.proofs.lemmas.Grind.{common_steps}
use Rattle.av_net.specs.Names.{all_names}
use Rattle.av_net.specs.Sound.{IsSound}
use Rattle.av_clock.specs.Kept.{AreZero}
use Rattle.av_clock.proofs.Computing.{zeros_zero}
use Rattle.av_clock.proofs.engine.Engine.new.Goals as goal

pub invariant_of-result : goal.invariant_of-result
invariant_of-result c =
    let made = c.in_ok-state.ensures in
    let m = c.in_ok-state.state.circuit in
    record {
      sound = subst IsSound (sym made.circuit) c.requires.safe;
      zeros = subst (AreZero m) (sym made.words) (zeros_zero m (length (all_names m)));
      settled = λ flag. absurd (let e : false ≡ true = flag in cc);
      held = λ some. absurd (let e : true ≡ false = some in cc);
      first = λ none some. absurd (let e : true ≡ false = some in cc);
      shown = λ none flag. absurd (let e : false ≡ true = flag in cc);
    }

pub returns-clause-of : goal.returns-clause-of
returns-clause-of c = grind (arith, common_steps)
