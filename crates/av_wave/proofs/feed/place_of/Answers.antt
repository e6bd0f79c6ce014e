use Rattle.std.proofs.Common.{sym, ap, ◌∙◌}
use Rattle.std.specs.List.{position}
use Rattle.std.specs.Str.{bytes_eq}
use Rattle.av_data.proofs.Lined.{no_place, at_place}
use Rattle.av_wave.proofs.feed.place_of.Goals as goal

pub unreachable-requires : goal.unreachable-requires
unreachable-requires c =
    let name = c.as_bytes.ensures.value ∙ c.as_str.ensures in
    no_place c.args.targets.now c.args.name.now (ap (λ n. position (bytes_eq n) c.args.targets.now) (sym name) ∙ sym c.find.ensures.place ∙ c.in-None.is) c.requires.among

pub returns : goal.returns
returns c =
    let name = c.as_bytes.ensures.value ∙ c.as_str.ensures in
    at_place c.args.targets.now c.args.name.now c.in-Some.place (ap (λ n. position (bytes_eq n) c.args.targets.now) (sym name) ∙ sym c.find.ensures.place ∙ c.in-Some.is)
