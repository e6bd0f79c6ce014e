use Rattle.std.proofs.Common.{get_or, Some, sym, ap, ◌∙◌}
use Rattle.av_net.specs.declared.plan.CellKind.{CellKind}
use Rattle.av_vnames.proofs.KindTables.{number_item, number_none}
use Rattle.av_vnames.proofs.kinds.Kinds.named.Goals as goal

pub returns-in-Some : goal.returns-in-Some
returns-in-Some c =
    let n = c.in-Some.number in
    let kind = c.index-kinds-number.result in
    let item = c.index-kinds-number.is ∙ ap (λ kinds. get_or kinds n kind) (c.as_slice-kinds.ensures.value ∙ c.self.view_is) in
    ap (λ (k : CellKind). Some k) item ∙ number_item c.args.self.now c.args.name.now n kind (sym c.number.ensures.is ∙ c.in-Some.is)

pub returns-in-None : goal.returns-in-None
returns-in-None c = sym (number_none c.args.self.now c.args.name.now (sym c.number.ensures.is ∙ c.in-None.is))
