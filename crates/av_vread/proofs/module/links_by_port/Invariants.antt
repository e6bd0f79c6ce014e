use Rattle.std.proofs.Common.{◌≡◌, map, take}
use Rattle.std.specs.Map.{lookup}
use Rattle.std.specs.Str.{bytes_eq}
use Rattle.av_vparse.specs.Said.{said_link}
use Rattle.av_vread.specs.inner.Numbered.{place_of}
use Rattle.av_vnames.specs.Scoped.{Bytes}
use Rattle.av_vread.proofs.module.links_by_port.Given as goal

abbrev pub invariant-loop-place : goal.invariant-loop-place
invariant-loop-place l = (q : Bytes) → lookup (bytes_eq q) l.found ≡ place_of q (map said_link (take l.place l.links))
