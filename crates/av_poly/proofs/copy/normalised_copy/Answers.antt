use Rattle.std.proofs.Common.{◌≡◌, rules}
use Rattle.av_poly.specs.Normal.{AreNormalised}
use Rattle.av_poly.proofs.Normalising.{normal_set}
use Rattle.av_poly.proofs.LeftOut.{same_normalised, appended_to_none}
use Rattle.av_poly.proofs.copy.normalised_copy.Goals as goal

normalised : (c : goal.After-normalise) → AreNormalised c.args.set.now.dim c.args.set.now.rows c.normalise.new.self.rows
normalised c =
    let set = c.args.set.now in
    let d : c.set.inside.dim ≡ set.dim = search rules in
    let rows : c.as_slice.result.now ≡ set.rows = search rules in
    let h = appended_to_none set.dim _ set.rows _ _ _ d rows c.new-rows.ensures c.in_ok-append_nontrivial.ensures.rows in
    let s : AreNormalised set.dim c.append_nontrivial.new.rows c.normalise.new.self.rows = search rules in
    (same_normalised set.dim set.rows c.append_nontrivial.new.rows h c.normalise.new.self.rows).1 s

pub returns-clause-rows : goal.returns-clause-rows
returns-clause-rows c = normalised c

pub returns-clause-points : goal.returns-clause-points
returns-clause-points c = λ z. normal_set c.normalise.new.self c.args.set.now z (search rules) (normalised c)
