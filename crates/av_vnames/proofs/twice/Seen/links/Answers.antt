use Rattle.std.proofs.Common.{◌∷◌, []}
use Rattle.std.specs.Prelude.{option_map}
use Rattle.std.proofs.lemmas.Result.{IfOk-weaker}
use Rattle.av_net.specs.Rows.{kind_or, drives, link_mentions}
use Rattle.av_vparse.specs.Said.{said_link}
use Rattle.av_vnames.specs.Scoped.{Bytes}
use Rattle.av_vnames.specs.inner.Seen.{Stands, StandsIn, Tells}
use Rattle.av_vnames.proofs.SeenMentions.{put_none, name_told, none_told}
use Rattle.av_vnames.proofs.twice.Seen.links.Goals as goal

pub returns-in-Some-driven : goal.returns-in-Some-driven
returns-in-Some-driven c =
    let kind = kind_or (option_map (λ kind. kind.now) c.args.kind) in
    let link = said_link c.args.link.now in
    let seen = c.args.self.now in
    let put = put_none c.args.linked.now c.put.new.names c.as_str.result.now link.port c.in_ok-port.field-0 c.in_ok-port.ensures c.as_str.ensures c.in_default.not-Some in
    IfOk-weaker c.drives.result (λ r. Tells Stands seen c.drives.new.self (drives c.in-Some-driven.name.now ∷ []) (option_map (λ name. name.now) r))
    (λ r. (u : Bytes) → Tells (StandsIn u) (seen, c.args.linked.now) (c.drives.new.self, c.put.new.names) (link_mentions kind u link) (option_map (λ name. name.now) r))
    (λ r tells u. name_told kind u seen c.drives.new.self c.args.linked.now c.put.new.names link c.in-Some-driven.name.now (option_map (λ name. name.now) r) put c.in-Some-driven.ensures tells) c.drives.ensures

pub returns-in-None : goal.returns-in-None
returns-in-None c =
    let kind = kind_or (option_map (λ kind. kind.now) c.args.kind) in
    let link = said_link c.args.link.now in
    let put = put_none c.args.linked.now c.put.new.names c.as_str.result.now link.port c.in_ok-port.field-0 c.in_ok-port.ensures c.as_str.ensures c.in_default.not-Some in
    λ u. none_told kind u c.args.self.now c.args.linked.now c.put.new.names link put c.in-None.ensures
