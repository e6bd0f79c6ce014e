use Rattle.std.proofs.Common.{ap, length}
use Rattle.av_affine.specs.declared.rows.Rows.{Rows}
use Rattle.av_names.proofs.affine.affine_map.Goals as goal

pub returns : goal.returns
returns c =
    let from = length c.args.map.now.names in
    rw c.as_slice-names.ensures (ap (λ (rows : Rows). record { from = from; rows = rows }) (rw (c.as_slice-names.ensures, c.as_slice.ensures) at c.in_ok-rows.ensures))
