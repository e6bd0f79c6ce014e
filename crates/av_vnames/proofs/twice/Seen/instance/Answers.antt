use Rattle.std.proofs.Common.{◌≡◌, ◌∷◌, [], None, map, ap, subst, ◌∙◌}
use Rattle.std.specs.Prelude.{option_map}
use Rattle.std.specs.List.{flat_map}
use Rattle.std.proofs.lemmas.Result.{IfOk-weaker}
use Rattle.av_net.specs.Grammar.{instance}
use Rattle.av_net.specs.Rows.{kind_or, kind_for, kind_named, declares, link_mentions, item_mentions}
use Rattle.av_vparse.specs.Said.{said_link, said_instance}
use Rattle.av_vnames.specs.Scoped.{Bytes}
use Rattle.av_vnames.specs.inner.Seen.{Stands, StandsIn, Tells}
use Rattle.av_vnames.proofs.SeenMentions.{told_none, instance_told}
use Rattle.av_vnames.proofs.twice.Seen.instance.Goals as goal

pub returns : goal.returns
returns c =
    let u = c.args.of.now.name in
    let links = c.args.of.now.links in
    let found = kind_or (option_map (λ kind. kind.now) c.named-kind.result) in
    let kind = kind_for c.args.kinds.now (said_instance c.args.of.now) in
    let same : found ≡ kind = ap kind_or (c.named-kind.ensures ∙ ap (kind_named c.args.kinds.now) c.as_str-2.ensures) in
    let first : Tells Stands c.args.self.now c.declares.new.self (declares u ∷ []) None =
    subst (λ (name : Bytes). Tells Stands c.args.self.now c.declares.new.self (declares name ∷ []) None) c.as_str.ensures (told_none Stands _ _ _ c.in_ok-name.field-0 c.in_ok-name.ensures c.in_default.not-Some) in
    IfOk-weaker c.all_links.result
    (λ r. (v : Bytes) → Tells (StandsIn v) (c.declares.new.self, c.new-linked.result) (c.all_links.new.self, c.all_links.new.linked) (flat_map (link_mentions found v) (map said_link c.as_slice.result.now)) (option_map (λ name. name.now) r))
    (λ r. Tells Stands c.args.self.now c.all_links.new.self (item_mentions c.args.kinds.now (instance (said_instance c.args.of.now))) (option_map (λ name. name.now) r))
    (λ r tells.
    let told = option_map (λ name. name.now) r in
    let all = subst (λ items. Tells (StandsIn u) (c.declares.new.self, c.new-linked.result) (c.all_links.new.self, c.all_links.new.linked) (flat_map (link_mentions found u) (map said_link items)) told) c.as_slice.ensures (tells u) in
    instance_told u c.args.self.now c.declares.new.self c.all_links.new.self c.all_links.new.linked found kind (map said_link links) told same first c.new-linked.result c.new-linked.ensures all) c.all_links.ensures
