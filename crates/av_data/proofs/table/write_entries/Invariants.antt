use Rattle.std.proofs.Common.{take}
use Rattle.std.specs.List.{flat_map}
use Rattle.av_page.specs.Pages.{Puts}
use Rattle.av_data.specs.Tables.{listed_line}
use Rattle.av_data.proofs.table.write_entries.Given as goal

abbrev pub invariant-loop-entry : goal.invariant-loop-entry
invariant-loop-entry g l =
    let S = g.K.Sink.state in
    Puts (S l.fn.sink) (S l.sink) l.fn.page l.page (flat_map (listed_line l.word) (take l.entry-index l.entries))
