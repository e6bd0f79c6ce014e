use Rattle.std.proofs.Common.{List, ◌++◌, ◌∷◌, [], ap, ◌∙◌, not, map}
use Rattle.std.specs.Prelude.{ℕ, if◌then◌else◌}
use Rattle.std.specs.List.{list_any}
use Rattle.std.specs.Str.{bytes_eq}
use Rattle.av_table.proofs.Seen.{any_seen, pushed_seen}
use Rattle.av_table.proofs.name_set.NameSet.insert.Goals as goal
use Rattle.av_table.proofs.name_set.NameSet.insert.Goals.{in-Ok, in-Err}

pub returns-clause-is_new : goal.returns-clause-is_new
returns-clause-is_new c =
    elim c.match-insert.branch [
      | in-Ok w ↦
          let h = w.in-Ok.ensures.added in
          rw w.result-is (h ∙ ap not (any_seen (λ name. name.now) (bytes_eq c.args.name.now) c.self.inside.names.keys ∙ ap (list_any (bytes_eq c.args.name.now)) c.self.view_is))
      | in-Err w ↦ rw w.result-is tt
    ]

pub returns-clause-all : goal.returns-clause-all
returns-clause-all c =
    elim c.match-insert.branch [
      | in-Ok w ↦
          let keys = c.self.inside.names.keys in
          let name = c.args.name.now in
          rw w.result-is
          (ap (map (λ name. name.now)) w.in-Ok.ensures.keys
          ∙ pushed_seen (λ name. name.now) (list_any (λ k. bytes_eq name k.now) keys) keys c.args.name
          ∙ ap (λ t. if t then map (λ name. name.now) keys else (map (λ name. name.now) keys ++ name ∷ [])) (any_seen (λ name. name.now) (bytes_eq name) keys)
          ∙ ap (λ (names : List (List ℕ)). if list_any (bytes_eq name) names then names else (names ++ name ∷ [])) c.self.view_is)
      | in-Err w ↦ rw w.result-is tt
    ]
