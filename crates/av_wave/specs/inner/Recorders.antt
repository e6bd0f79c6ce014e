-- What a recorder keeps.
use Rattle.av_wave.specs.declared.recorder.Recorder.TheInside.{Inside}
use Rattle.av_wave.specs.inner.Parts.{Part, IsPart, HasWords}

abbrev pub part_of : Inside → Part
part_of r = record { name = r.name; ports = r.ports; cycle = r.cycle; told = r.told; changes = r.changes }

pub record IsKept (r : Inside) : Type 0 where
  pub part : IsPart (part_of r)
  pub words : HasWords (part_of r) r.words
