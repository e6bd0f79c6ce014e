use Rattle.std.proofs.Common.{◌≡◌, sym, ap, ◌∙◌, true, false, refl}
use Rattle.av_data.specs.Kept.{is_given, placed}
use Rattle.av_data.proofs.Ordered.{found_given, entry_placed}
use Rattle.av_data.proofs.timeline.Timeline.give.Goals as goal
use Rattle.av_data.proofs.timeline.Timeline.give.Goals.{in-Ok, in-Err}

pub returns-then-contains_key-clause-is_new : goal.returns-then-contains_key-clause-is_new
returns-then-contains_key-clause-is_new c =
    let there : is_given c.args.self.now c.args.given ≡ true =
    ap (λ hs. is_given hs c.args.given) (sym c.self.view_is) ∙ sym (found_given c.self.inside.found.entries c.args.given) ∙ sym c.contains_key.ensures ∙ c.if-contains_key.true in
    rw there refl

pub returns-then-contains_key-clause-all : goal.returns-then-contains_key-clause-all
returns-then-contains_key-clause-all c =
    let there : is_given c.args.self.now c.args.given ≡ true =
    ap (λ hs. is_given hs c.args.given) (sym c.self.view_is) ∙ sym (found_given c.self.inside.found.entries c.args.given) ∙ sym c.contains_key.ensures ∙ c.if-contains_key.true in
    rw there refl

pub returns-clause-is_new : goal.returns-clause-is_new
returns-clause-is_new c =
    let none : is_given c.args.self.now c.args.given ≡ false =
    ap (λ hs. is_given hs c.args.given) (sym c.self.view_is) ∙ sym (found_given c.self.inside.found.entries c.args.given) ∙ sym c.contains_key.ensures ∙ c.if-contains_key.false in
    elim c.match-insert.branch [
      | in-Ok w ↦ rw (w.result-is, none) refl
      | in-Err w ↦ rw w.result-is tt
    ]

pub returns-clause-all : goal.returns-clause-all
returns-clause-all c =
    let none : is_given c.args.self.now c.args.given ≡ false =
    ap (λ hs. is_given hs c.args.given) (sym c.self.view_is) ∙ sym (found_given c.self.inside.found.entries c.args.given) ∙ sym c.contains_key.ensures ∙ c.if-contains_key.false in
    elim c.match-insert.branch [
      | in-Ok w ↦ rw (w.result-is, none, w.in-Ok.ensures.entries) (entry_placed c.self.inside.found.entries c.args.given (ap (λ hs. is_given hs c.args.given) c.self.view_is ∙ none) ∙ ap (placed c.args.given) c.self.view_is)
      | in-Err w ↦ rw w.result-is tt
    ]
