use Rattle.std.proofs.Common.{ap, ◌∙◌}
use Rattle.std.specs.List.{list_any}
use Rattle.std.specs.Str.{bytes_eq}
use Rattle.av_names.proofs.Sets.{listed}
use Rattle.av_names.proofs.name_sets.is_among.Goals as goal

pub returns : goal.returns
returns c =
    c.contains.ensures ∙ ap (λ name. list_any (bytes_eq name) c.args.set.now) (c.as_bytes.ensures.value ∙ c.as_str.ensures) ∙ listed c.args.name.now c.args.set.now
