use Rattle.std.proofs.Common.{◌≡◌, ◌++◌, drop}
use Rattle.av_vnames.specs.Scoped.{Bytes, texts}
use Rattle.av_net.specs.Rows.{is_in}
use Rattle.av_vread.proofs.rows.insert_all.Given as goal

abbrev pub invariant-loop-name : goal.invariant-loop-name
invariant-loop-name l = (q : Bytes) → is_in (l.set ++ texts (drop l.name-index l.names)) q ≡ is_in (l.fn.set ++ texts l.names) q
