use Rattle.std.proofs.Common.{◌≡◌, ◌++◌, rules}
use Rattle.av_affine.specs.Forms.{IsWithinLimits}
use Rattle.av_poly.proofs.LeftOut.{same_rows, all_of_some, both_appended}
use Rattle.av_poly.proofs.poly.Poly.meet_nontrivial.Goals as goal

pub returns-clause-rows : goal.returns-clause-rows
returns-clause-rows c =
    let self = c.args.self.now in
    let other = c.args.other.now in
    let d : c.self.inside.dim ≡ self.dim = search rules in
    let first : c.as_slice.result.now ≡ self.rows = search rules in
    let second : c.as_slice-2.result.now ≡ other.rows = search rules in
    let h = both_appended self.dim _ self.rows other.rows _ _ _ _ _ d first second c.new-rows.ensures c.in_ok-append_nontrivial.ensures.rows c.in_ok-append_nontrivial-2.ensures.rows in
    λ more new. same_rows self.dim (self.rows ++ other.rows) _ h more new

pub returns-clause-limits : goal.returns-clause-limits
returns-clause-limits c =
    let self = c.args.self.now in
    let other = c.args.other.now in
    let d : c.self.inside.dim ≡ self.dim = search rules in
    let first : c.as_slice.result.now ≡ self.rows = search rules in
    let second : c.as_slice-2.result.now ≡ other.rows = search rules in
    let h = both_appended self.dim _ self.rows other.rows _ _ _ _ _ d first second c.new-rows.ensures c.in_ok-append_nontrivial.ensures.rows c.in_ok-append_nontrivial-2.ensures.rows in
    λ limits. all_of_some self.dim IsWithinLimits h limits
