use Rattle.std.proofs.Common.{ap, ◌∙◌}
use Rattle.std.specs.Map.{lookup}
use Rattle.std.specs.Str.{bytes_eq}
use Rattle.av_table.proofs.Seen.{lookup_seen}
use Rattle.av_table.proofs.name_map.NameMap.get.Goals as goal

pub returns : goal.returns
returns g c =
    c.copied.ensures ∙ c.get.ensures.value ∙ lookup_seen (bytes_eq c.args.name.now) c.self.inside.values.entries ∙ ap (lookup (bytes_eq c.args.name.now)) c.self.view_is
