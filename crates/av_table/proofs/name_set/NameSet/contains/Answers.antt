use Rattle.std.proofs.Common.{ap, ◌∙◌}
use Rattle.std.specs.List.{list_any}
use Rattle.std.specs.Str.{bytes_eq}
use Rattle.av_table.proofs.Seen.{any_seen}
use Rattle.av_table.proofs.name_set.NameSet.contains.Goals as goal

pub returns : goal.returns
returns c =
    c.contains.ensures ∙ any_seen (λ name. name.now) (bytes_eq c.args.name.now) c.self.inside.names.keys ∙ ap (list_any (bytes_eq c.args.name.now)) c.self.view_is
