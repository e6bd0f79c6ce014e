use Rattle.av_table.proofs.Seen.{entry_kept, entry_put}
use Rattle.av_table.proofs.name_map.NameMap.insert.Goals as goal
use Rattle.av_table.proofs.name_map.NameMap.insert.Goals.{in-Ok, in-Err}

pub returns-then-contains_key-clause-all : goal.returns-then-contains_key-clause-all
returns-then-contains_key-clause-all g c =
    entry_kept c.self.inside.values.entries c.args.self.now c.args.name.now c.args.value c.contains_key.result c.self.view_is c.contains_key.ensures c.if-contains_key.true

pub returns-clause-all : goal.returns-clause-all
returns-clause-all g c =
    elim c.match-insert.branch [
      | in-Ok w ↦
          rw w.result-is (entry_put c.self.inside.values.entries c.insert.new.self.entries c.args.self.now c.args.name c.args.value c.contains_key.result c.self.view_is c.contains_key.ensures c.if-contains_key.false
          w.in-Ok.ensures.entries)
      | in-Err w ↦ rw w.result-is tt
    ]
