-- What the reader keeps of a kind of cell.
use Rattle.std.specs.Prelude.{◌≡◌, ◌++◌}
use Rattle.av_net.specs.Names.{names_of, width_in}
use Rattle.av_net.specs.Rows.{is_in}
use Rattle.av_vnames.specs.declared.kind.IndexedKind.TheInside.{Inside}
use Rattle.av_vnames.specs.Scoped.{Bytes}

-- the ports of a kind are found by their names
pub record HasPorts (kind : Inside) : Type 0 where
  pub inputs : (q : Bytes) → is_in kind.inputs q ≡ is_in (names_of kind.of.now.inputs) q
  pub outputs : (q : Bytes) → is_in kind.outputs q ≡ is_in (names_of kind.of.now.outputs) q
  pub widths : (q : Bytes) → width_in kind.widths q ≡ width_in (kind.of.now.inputs ++ kind.of.now.outputs) q
