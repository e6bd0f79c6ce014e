use Rattle.std.proofs.Common.{◌≡◌, drop}
use Rattle.av_vnames.specs.Scoped.{texts}
use Rattle.av_net.specs.Rows.{is_in}
use Rattle.std.specs.Prelude.{find, not}
use Rattle.av_vread.proofs.rows.first_missing.Given as goal

abbrev pub invariant-loop-name : goal.invariant-loop-name
invariant-loop-name l = find (λ name. not (is_in l.among name)) (texts (drop l.name-index l.names)) ≡ find (λ name. not (is_in l.among name)) (texts l.names)
