use Rattle.std.proofs.Common.{◌<◌, ◌≤◌, length, rules}
use Rattle.av_poly.proofs.LeftOut.{none_appended, one_appended, all_appended, small_appended}
use Rattle.av_poly.proofs.trivial.append_nontrivial.Goals as goal

pub loop-row-init : goal.loop-row-init
loop-row-init c = record { appended = none_appended c.args.dim c.args.more.now c.args.rows.now; small = c.requires.rows }

pub loop-row-preserved : goal.loop-row-preserved
loop-row-preserved c =
    let more = c.args.more.now in
    let i = c.loop-row.row-index in
    let l : i < length more = search rules in
    let trivial = c.is_trivial-left_out.result in
    record {
      appended = one_appended c.args.dim more c.args.rows.now c.loop-row.rows c.append_unless.new.rows i _ trivial l c.is_trivial-left_out.ensures c.in_ok-append_unless.ensures c.loop-row.invariant.appended;
      small = small_appended c.loop-row.rows c.append_unless.new.rows _ trivial c.in_ok-append_unless.ensures c.loop-row.invariant.small (c.requires.more i _ l);
    }

pub returns-clause-rows : goal.returns-clause-rows
returns-clause-rows c =
    let more = c.args.more.now in
    let i = c.loop-row.row-index in
    let l : length more ≤ i = search rules in
    all_appended c.args.dim more c.args.rows.now c.loop-row.rows i l c.loop-row.invariant.appended
