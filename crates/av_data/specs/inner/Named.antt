-- What a table of input ports keeps.
use Rattle.std.specs.Prelude.{◌≡◌, ◌≤◌, length}
use Rattle.av_net.specs.Names.{names_of}
use Rattle.av_data.specs.declared.input_ports.InputPorts.TheInside.{Inside}

-- the names are those of the ports, of which there are few
pub record AreNamed (c : Inside) : Type 0 where
  pub named : c.names ≡ names_of c.ports.now
  pub few : length c.ports.now ≤ 1073741824
