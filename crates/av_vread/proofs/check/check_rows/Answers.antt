use Rattle.std.proofs.Common.{List, Option, Some, None, ℕ}
use Rattle.std.proofs.lemmas.Result.{err_from_is_err_and}
use Rattle.av_net.specs.Rows.{twice_name, wrong_name, undriven_name, early_name, unsuited_name}
use Rattle.av_vread.specs.declared.fault.VFault.{VFault}
use Rattle.av_vread.specs.declared.fault.VFault.TheVariants.{VTwice, VName, VUnassigned, VOrder, VWidth, Memory}
use Rattle.av_vparse.specs.Said.{said}
use Rattle.av_vread.specs.inner.Checked.{RowIs}
use Rattle.av_vread.specs.Faults.{or_row}
use Rattle.av_vread.proofs.check.check_rows.Goals as goal

-- a row that was found is found with later ones behind it
row_kept : (row : List ℕ → VFault) (name : Option (List ℕ)) (later : Option VFault) (f : VFault) → RowIs f (or_row name row None) → RowIs f (or_row name row later)
row_kept row (Some n) later f h = h
row_kept row None later Memory h = tt
row_kept row None later f h = absurd cc

pub returns-in_err-check_twice : goal.returns-in_err-check_twice
returns-in_err-check_twice c =
    let p = err_from_is_err_and c.from_residual.result c.from_residual.ensures.1 in
    let x = said c.args.text.now in
    rw (p.1, p.2)
    (row_kept VTwice (twice_name x) (or_row (wrong_name x) VName (or_row (undriven_name x) VUnassigned (or_row (early_name x) VOrder (or_row (unsuited_name x) VWidth None)))) c.in_err-check_twice.field-0.0 c.in_err-check_twice.ensures)
