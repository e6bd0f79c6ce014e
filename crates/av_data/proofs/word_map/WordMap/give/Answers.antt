use Rattle.std.proofs.Common.{◌≡◌, ℕ, ℤ, List, Some, sym, ap, ap₂, ◌∙◌, true, false, refl}
use Rattle.std.specs.Prelude.{is_some, if◌then◌else◌}
use Rattle.av_data.specs.Inputs.{word_among, is_at}
use Rattle.av_data.proofs.WordMaps.{word_found, word_entered}
use Rattle.av_data.proofs.word_map.WordMap.give.Goals as goal
use Rattle.av_data.proofs.word_map.WordMap.give.Goals.{in-Ok, in-Err}

pub returns-then-contains_key-clause-is_new : goal.returns-then-contains_key-clause-is_new
returns-then-contains_key-clause-is_new c =
    let there : is_some (word_among c.args.self.now c.args.place.0 c.args.point.now) ≡ true =
    rw (sym c.self.view_is, sym c.entries_of.ensures)
    (ap is_some (sym (word_found c.self.inside.words.entries (λ a. a.items) c.args.place.0 c.entries_of.result)) ∙ sym c.contains_key.ensures ∙ c.if-contains_key.true) in
    rw there refl

pub returns-then-contains_key-clause-given : goal.returns-then-contains_key-clause-given
returns-then-contains_key-clause-given c = λ p z. refl

pub returns-clause-is_new : goal.returns-clause-is_new
returns-clause-is_new c =
    let none : is_some (word_among c.args.self.now c.args.place.0 c.args.point.now) ≡ false =
    rw (sym c.self.view_is, sym c.entries_of.ensures)
    (ap is_some (sym (word_found c.self.inside.words.entries (λ a. a.items) c.args.place.0 c.entries_of.result)) ∙ sym c.contains_key.ensures ∙ c.if-contains_key.false) in
    elim c.match-insert.branch [
      | in-Ok w ↦ rw (w.result-is, none) refl
      | in-Err w ↦ rw w.result-is tt
    ]

pub returns-clause-given : goal.returns-clause-given
returns-clause-given c =
    elim c.match-insert.branch [
      | in-Ok w ↦ rw (w.result-is, w.in-Ok.ensures.entries) (λ p z.
          word_entered c.self.inside.words.entries (λ a. a.items) (c.args.place.0, c.entries_of.result) c.args.word.bits p z
          ∙ ap₂ (λ (y : List ℤ) (ws : List ((ℕ × List ℤ) × ℕ)). if is_at c.args.place.0 y p z then Some c.args.word.bits else word_among ws p z) c.entries_of.ensures c.self.view_is)
      | in-Err w ↦ rw w.result-is tt
    ]
