-- What `run8` refuses and writes, with what it has at hand: the words that give the sizes, the compiled text, and the data sets.
use Rattle.std.specs.Prelude.{◌≡◌, ℕ, List, length, map, Some, slice_get}
use Rattle.av_base.specs.declared.word.Word.{Word}
use Rattle.av_tree.specs.Values.{Assignment}
use Rattle.av_flat.specs.declared.timed.Timed.{Timed}
use Rattle.av_flat.specs.Trees.{FlatSystem, view_system}
use Rattle.av_net.specs.declared.design.Design.{Design}
use Rattle.av_net.specs.declared.design.Entry.{Entry}
use Rattle.av_data.specs.declared.fault.DataFault.{DataFault}
use Rattle.av_data.specs.declared.sets.DataSet.{DataSet}
use Rattle.av_flat.specs.OneSolution.{AreInputs}
use Rattle.av_commands.specs.Eights.{set_lines}
use Rattle.av_commands.specs.Refusals.{data_reason}
use Rattle.av_commands.specs.Runs.{results}
use Rattle.av_commands.specs.Streams.{IsFirstBadSet, AreSpelled}
use Rattle.av_commands.specs.inner.Reported.{AreResultsOf, names_output}
use Rattle.av_commands.specs.inner.Watching.{bits_of}

-- ---- with the compiled text

pub record RefusesBadSet (timed : Timed) (sets : List DataSet) (reason : List ℕ) : Type 0 where
  pub fault : DataFault
  pub is : IsFirstBadSet (view_system timed.flat) sets fault
  pub told : reason ≡ data_reason fault

-- for each of these words of the inputs the results, behind the line of the set
pub record AreResultsOfSets (timed : Timed) (design : Design) (inputs : List Assignment) (out : List ℕ) : Type 0 where
  pub outs : List (List ℕ)
  pub one_each : length outs ≡ length inputs
  pub each : (k : ℕ) (x : Assignment) (one : List ℕ) → slice_get inputs k ≡ Some x → slice_get outs k ≡ Some one → AreResultsOf timed design x one
  pub lines : out ≡ set_lines 1 outs

pub record GivesEightOf (timed : Timed) (design : Design) (sets : List DataSet) (out : List ℕ) : Type 0 where
  pub inputs : List Assignment
  pub spelled : AreSpelled (view_system timed.flat) sets inputs
  pub are : (k : ℕ) (x : Assignment) → slice_get inputs k ≡ Some x → AreInputs (view_system timed.flat) x
  pub gives : AreResultsOfSets timed design inputs out

-- ---- what is written

-- the results of each of these lists of words
abbrev pub result_texts : FlatSystem → List Entry → List (List Word) → List (List ℕ)
result_texts s lines columns = map (λ words. results (λ line. names_output s line.variable) lines (bits_of words)) columns
