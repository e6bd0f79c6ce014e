use Rattle.std.proofs.Common.{sym, ap, ◌∙◌}
use Rattle.std.specs.Option.{option_copied}
use Rattle.av_data.proofs.WordMaps.{word_found}
use Rattle.av_data.proofs.word_map.WordMap.word.Goals as goal

pub returns-in-Some-clause-some : goal.returns-in-Some-clause-some
returns-in-Some-clause-some c =
    rw (sym c.self.view_is, sym c.entries_of.ensures)
    (sym (word_found c.self.inside.words.entries (λ a. a.items) c.args.place.0 c.entries_of.result) ∙ sym c.get.ensures.value ∙ ap option_copied c.in-Some.is)

pub returns-in-None-clause-none : goal.returns-in-None-clause-none
returns-in-None-clause-none c =
    rw (sym c.self.view_is, sym c.entries_of.ensures)
    (sym (word_found c.self.inside.words.entries (λ a. a.items) c.args.place.0 c.entries_of.result) ∙ sym c.get.ensures.value ∙ ap option_copied c.in-None.is)
