use Rattle.std.proofs.Common.{◌≡◌, ◌<◌, ◌++◌, [], ◌∷◌, List, map, length, get_or, refl, if◌then◌else◌, sym, ap, subst, ◌∙◌, arith}
use Rattle.std.specs.Prelude.{is_some}
use Rattle.std.specs.Map.{lookup}
use Rattle.std.specs.Str.{bytes_eq}
use Rattle.std.proofs.lemmas.List.{length-map, map_push}
use Rattle.std.proofs.lemmas.Grind.{common_steps}
use Rattle.av_net.specs.declared.plan.CellKind.{CellKind}
use Rattle.av_net.specs.Rows.{kind_from}
use Rattle.av_vparse.specs.declared.parsed.ModuleText.{ModuleText}
use Rattle.av_vparse.specs.Said.{said_module}
use Rattle.av_vnames.specs.Numbered.{place_among, number_of}
use Rattle.av_vnames.proofs.Walks.{made_more}
use Rattle.av_vnames.proofs.KindTables.{more_places}
use Rattle.av_vnames.proofs.kinds.Kinds.new.Goals as goal

-- the kinds of these texts
abbrev cells : List ModuleText → List CellKind
cells texts = map kind_from (map said_module texts)

pub loop-text-preserved : goal.loop-text-preserved
loop-text-preserved c =
    let texts = c.args.of.now in
    let at = c.loop-text.text-index in
    let text = c.text-item.result in
    let before = c.loop-text.kinds.items in
    let numbers = c.loop-text.numbers in
    let kind : CellKind = kind_from (said_module text) in
    let test = c.loop-text-test.true in
    let size : length c.as_slice-text-items.result.now ≡ length texts = ap length c.as_slice-text-items.ensures in
    let lt : at < length texts = omega (arith, test, size) in
    let is : text ≡ get_or texts at text = c.text-item.is ∙ ap (λ items. get_or items at text) c.as_slice-text-items.ensures in
    let pushed : c.push_kind.new.kinds.items ≡ before ++ kind ∷ [] = c.in_ok-push_kind.ensures.kinds in
    let count = sym (length-map before (λ (k : CellKind). k.name)) in
    record {
      made = made_more cells (λ x xs. refl) before c.push_kind.new.kinds.items (cells texts) texts at text c.loop-text.invariant.made lt is pushed;
      numbered = λ q. more_places numbers c.push_kind.new.numbers (map (λ k. k.name) before) kind.name (length before) c.loop-text.invariant.numbered count c.in_ok-push_kind.ensures.numbers q
          ∙ ap (λ names. place_among names q) (sym (map_push (λ (k : CellKind). k.name) before kind)) ∙ ap (λ kinds. number_of kinds q) (sym pushed);
    }

pub invariant_of-result : goal.invariant_of-result
invariant_of-result c = grind (arith, common_steps)

pub returns : goal.returns
returns c = grind (arith, common_steps)
