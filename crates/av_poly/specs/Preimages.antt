-- The rows of a set before a map: each row of the map's image, as a row of its own indices (Wilde's reports on Alpha).
use Rattle.std.specs.Prelude.{List, map}
use Rattle.av_affine.specs.declared.form.Form.{Form}
use Rattle.av_affine.specs.declared.map.Map.{Map}
use Rattle.av_affine.specs.Maps.{through}

-- each row after the map
abbrev pub rows_before : Map → List Form → List Form
rows_before f rows = map (through f.from f.rows) rows
