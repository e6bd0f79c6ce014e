-- What `run8` refuses, and what it writes.
use Rattle.std.specs.Prelude.{◌≡◌, ℕ, ◌+◌, ◌<◌, ◌≤◌, List, [], ◌∷◌, ◌++◌, length, Some, slice_get, codes, decimal}
use Rattle.av_flat.specs.declared.timed.Timed.{Timed}
use Rattle.av_flat.specs.Trees.{view_system}
use Rattle.av_names.specs.declared.size.Size.{Size}
use Rattle.av_space.specs.declared.cells.Cells.{Cells}
use Rattle.av_data.specs.declared.fault.DataFault.{DataFault}
use Rattle.av_data.specs.declared.sets.DataSet.{DataSet}
use Rattle.av_data.specs.Divisions.{IsDivided, HasNoMark}
use Rattle.av_data.specs.Sets.{AreSets}
use Rattle.av_compile.specs.Mapped.{IsMapped}
use Rattle.av_commands.specs.Refusals.{data_reason}
use Rattle.av_commands.specs.Tables.{RefusesTable}
use Rattle.av_commands.specs.Runs.{GivesResults}
use Rattle.av_commands.specs.Streams.{IsFirstBadSet}

abbrev pub sets_reason : ℕ → List ℕ
sets_reason n = codes "sets " ++ decimal n

-- the bytes are a text, and behind its mark these data sets
pub record AreDivided (bytes before : List ℕ) (sets : List DataSet) : Type 0 where
  pub rest : List ℕ
  pub first : ℕ
  pub divided : IsDivided bytes before rest first
  pub are_sets : AreSets rest first sets

-- there is no mark, or there are more than eight sets, or `emit` refuses the text before them, or some set is no data for the text's inputs
pub data RefusesEight (sizes : List Size) (bits box : ℕ) (bytes reason : List ℕ) : Type 0 where
  no_mark : HasNoMark bytes → reason ≡ codes "no mark" → RefusesEight sizes bits box bytes reason
  many_sets : {before : List ℕ} {sets : List DataSet} → AreDivided bytes before sets → 8 < length sets → reason ≡ sets_reason (length sets) → RefusesEight sizes bits box bytes reason
  bad_system : {before : List ℕ} {sets : List DataSet} → AreDivided bytes before sets → length sets ≤ 8 → RefusesTable sizes bits box before reason → RefusesEight sizes bits box bytes reason
  bad_data : {before : List ℕ} {sets : List DataSet} {timed : Timed} {cells : Cells} (fault : DataFault) → AreDivided bytes before sets → length sets ≤ 8 → IsMapped before sizes bits box timed cells
      → IsFirstBadSet (view_system timed.flat) sets fault → reason ≡ data_reason fault → RefusesEight sizes bits box bytes reason

abbrev pub set_line : ℕ → List ℕ
set_line number = codes "set " ++ decimal number ++ codes "\n"

-- each of these behind its line, counted from this number on
abbrev pub set_lines : ℕ → List (List ℕ) → List ℕ
set_lines number [] = []
set_lines number (out ∷ outs) = set_line number ++ out ++ set_lines (number + 1) outs

-- the text with this set alone behind its mark
abbrev pub with_set : List ℕ → DataSet → List ℕ
with_set before set = before ++ (codes "%%\n" ++ set.bytes.now)

-- for each set in its turn, behind its line, the output of `run` on the text and that set alone
pub record GivesEight (sizes : List Size) (bits box : ℕ) (bytes out : List ℕ) : Type 0 where
  pub before : List ℕ
  pub sets : List DataSet
  pub divided : AreDivided bytes before sets
  pub few : length sets ≤ 8
  pub outs : List (List ℕ)
  pub one_each : length outs ≡ length sets
  pub each : (k : ℕ) (set : DataSet) (one : List ℕ) → slice_get sets k ≡ Some set → slice_get outs k ≡ Some one → GivesResults sizes bits box (with_set before set) one
  pub lines : out ≡ set_lines 1 outs
