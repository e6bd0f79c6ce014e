use Rattle.std.proofs.Common.{◌≡◌, ◌∙◌, ap, map, false, Option}
use Rattle.std.specs.Prelude.{option_map, bytes_eq}
use Rattle.std.specs.Map.{lookup}
use Rattle.std.proofs.lemmas.Result.{IfOk-weaker}
use Rattle.av_tree.specs.declared.system.Equation.{Equation}
use Rattle.av_tree.specs.Domains.{given_or}
use Rattle.av_tree.specs.Trees.{Text, view, view_equations, view_system}
use Rattle.av_names.specs.Forms.{over}
use Rattle.av_names.specs.declared.found.Found.{Found as FoundMade}
use Rattle.av_names.specs.Found.{Found, first_found}
use Rattle.av_names.specs.Parts.{parts, parts_of}
use Rattle.av_names.specs.inner.Seen.{found, names_at}
use Rattle.av_names.specs.Unknowns.{unknown_written}
use Rattle.av_names.specs.Written.{written_at}
use Rattle.av_names.proofs.Reach.{rule_of}
use Rattle.av_names.proofs.Unknown.{in_rights}
use Rattle.av_names.proofs.unknown_names.unknown_in_parts.Goals as goal

pub returns : goal.returns
returns c =
    let s = view_system c.args.system.now in
    let set = c.args.sizes.now in
    let look = λ (name : Text). option_map (λ d. d.now) (lookup (bytes_eq name) c.in_ok-table.table) in
    let rule = λ (e : Equation). first_found (rule_of set) (parts_of false (over (given_or (names_at (look e.name)) e.indices)) (view e.right)) in
    IfOk-weaker c.try_first_of.result
    (λ first. (find : Equation → Option Found) → ((e : Equation) (fault : Option FoundMade) → option_map found fault ≡ rule e → option_map found fault ≡ find e)
    → option_map found first ≡ first_found find c.as_slice.result.now)
    (λ first. option_map found first ≡ first_found (unknown_written set) (map written_at (parts s)))
    (λ first are. are rule (λ e fault is. is) ∙ in_rights s c.args.variables.now c.as_slice.result.now c.requires (ap view_equations c.as_slice.ensures) look c.in_ok-table.ensures (unknown_written set)) c.try_first_of.ensures
