use Rattle.std.proofs.Common.{◌≡◌, ◌++◌, drop, map}
use Rattle.std.specs.Map.{lookup}
use Rattle.std.specs.Str.{bytes_eq}
use Rattle.av_net.specs.Rows.{kind_from}
use Rattle.av_vparse.specs.Said.{said_module}
use Rattle.av_vnames.specs.Numbered.{number_of}
use Rattle.av_vnames.specs.Scoped.{Bytes}
use Rattle.av_vnames.proofs.kinds.Kinds.new.Given as goal

abbrev pub invariant-loop-text : goal.invariant-loop-text
invariant-loop-text l = record {
  made : l.kinds.items ++ map kind_from (map said_module (drop l.text-index l.of)) ≡ map kind_from (map said_module l.of);
  numbered : (q : Bytes) → lookup (bytes_eq q) l.numbers ≡ number_of l.kinds.items q;
}
