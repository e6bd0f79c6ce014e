use Rattle.std.proofs.Common.{ap, ◌∙◌}
use Rattle.std.specs.List.{position}
use Rattle.std.specs.Str.{bytes_eq}
use Rattle.av_table.proofs.Seen.{position_seen}
use Rattle.av_table.proofs.name_set.NameSet.find.Goals as goal

pub returns-clause-place : goal.returns-clause-place
returns-clause-place c =
    c.get_index_of.ensures.index ∙ position_seen (λ name. name.now) (bytes_eq c.args.name.now) c.self.inside.names.keys ∙ ap (position (bytes_eq c.args.name.now)) c.self.view_is
