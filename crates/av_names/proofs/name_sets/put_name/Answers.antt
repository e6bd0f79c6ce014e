use Rattle.std.proofs.Common.{◌∷◌, ap, ◌∙◌, not}
use Rattle.std.specs.List.{list_any}
use Rattle.std.specs.Str.{bytes_eq}
use Rattle.std.proofs.lemmas.Result.{IfOk-weaker, on_ok_weaker}
use Rattle.av_tree.specs.Rows.{is_index}
use Rattle.av_names.proofs.Sets.{listed, put_as}
use Rattle.av_names.proofs.name_sets.put_name.Goals as goal

pub returns-clause-added : goal.returns-clause-added
returns-clause-added c =
    let set = c.args.set.now in
    IfOk-weaker c.insert.result _ _
    (λ added is. is ∙ ap (λ name. not (list_any (bytes_eq name) set)) (c.as_bytes.ensures.value ∙ c.as_str.ensures) ∙ ap not (listed c.args.name.now set))
    c.insert.ensures.is_new

pub returns-clause-names : goal.returns-clause-names
returns-clause-names c =
    let set = c.args.set.now in
    on_ok_weaker c.insert.result
    (λ is name. ap (λ names. is_index names name) is ∙ put_as set c.as_bytes.result.now name ∙ ap (λ text. is_index (text ∷ set) name) (c.as_bytes.ensures.value ∙ c.as_str.ensures))
    c.insert.ensures.all
