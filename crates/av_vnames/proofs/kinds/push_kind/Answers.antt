use Rattle.std.proofs.Common.{◌≡◌, ◌++◌, [], ◌∷◌, ℕ, length, ap, subst, ◌∙◌, if◌then◌else◌}
use Rattle.std.specs.Prelude.{is_some}
use Rattle.std.specs.Map.{lookup}
use Rattle.std.specs.Str.{bytes_eq}
use Rattle.av_vnames.specs.Scoped.{Bytes}
use Rattle.av_vnames.proofs.kinds.push_kind.Goals as goal

pub returns-clause-kinds : goal.returns-clause-kinds
returns-clause-kinds c = c.in_ok-push.ensures.items ∙ ap (λ k. c.args.kinds.now.items ++ k ∷ []) c.in_ok-new.ensures

pub returns-clause-numbers : goal.returns-clause-numbers
returns-clause-numbers c =
    let name = c.args.text.now.name in
    let numbers = c.args.numbers.now in
    let named = subst (λ (key : Bytes). c.insert.new.self ≡ (if is_some (lookup (bytes_eq key) numbers) then numbers else (numbers ++ (key, c.len.result) ∷ []))) (c.as_bytes.ensures.value ∙ c.as_str.ensures) c.in_ok-insert.ensures.all in
    subst (λ (n : ℕ). c.insert.new.self ≡ (if is_some (lookup (bytes_eq name) numbers) then numbers else (numbers ++ (name, n) ∷ []))) (c.len.ensures ∙ c.args.kinds.now.ok.0) named
