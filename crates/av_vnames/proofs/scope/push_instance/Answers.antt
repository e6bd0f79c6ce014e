use Rattle.std.proofs.Common.{◌++◌, sym, ap, ◌∙◌}
use Rattle.std.proofs.lemmas.List.{append-nil}
use Rattle.av_net.specs.Rows.{kind_named}
use Rattle.av_vparse.specs.Said.{said_instance}
use Rattle.av_vnames.specs.Scoped.{texts}
use Rattle.av_vnames.proofs.KindTables.{unknown_drives}
use Rattle.av_vnames.proofs.scope.push_instance.Goals as goal

pub returns-in-None : goal.returns-in-None
returns-in-None c =
    let none = ap (kind_named c.args.kinds.now) (sym c.as_str.ensures) ∙ sym c.in-None.ensures in
    sym (ap (λ names. texts c.args.names.now.items ++ names) (unknown_drives c.args.kinds.now (said_instance c.args.of.now) none) ∙ append-nil (texts c.args.names.now.items))
