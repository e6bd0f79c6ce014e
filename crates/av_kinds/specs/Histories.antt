-- Histories: what the lanes of an array have in each cycle of a run, without names and without wires. Each lane has the value of its task's
-- tree, over words that come from numbers, input ports and lanes of earlier cycles (own form, after the usual picture of a systolic array:
-- H. T. Kung 1982).
use Rattle.std.specs.Prelude.{◌≡◌, ℕ, ◌+◌, ◌-◌, ◌%◌, ◌^◌, ◌<◌, nat_eq, nat_lt, List, [], ◌∷◌, map, Option, Some, None, slice_get, slice_index_or, if◌then◌else◌}
use Rattle.av_tree.specs.Values.{combined, words_compare}
use Rattle.av_net.specs.Meaning.{widened}
use Rattle.av_flat.specs.Trees.{Tree, reference, constant, binary, choice, pick}
use Rattle.av_kinds.specs.declared.program.WordSource.{WordSource}
use Rattle.av_kinds.specs.declared.program.WordSource.TheVariants.{Word, Input, Line}
use Rattle.av_kinds.specs.declared.program.ProgramSite.{ProgramSite}
use Rattle.av_kinds.specs.Programs.{site_count, source_in, Work, Mode, is_active, Lane, Program}

-- ---- words

-- the word of a plain tree, where the places that read, counted from s on, have these words
abbrev pub value_by : ℕ → (ℕ → ℕ) → ℕ → Tree → ℕ
value_by width words s (reference place m) = words s
value_by width words s (constant n) = n
value_by width words s (binary g l r) = combined width g (value_by width words s l) (value_by width words (s + site_count l) r)
value_by width words s (choice l c r x y) =
    if words_compare width c (value_by width words s l) (value_by width words (s + site_count l) r)
    then value_by width words (s + site_count l + site_count r) x
    else value_by width words (s + site_count l + site_count r + site_count x) y
value_by width words s (pick place choices n) = words s
value_by width words s _ = 0

-- a word of one width as a word of another: widened by its highest bit, or its lowest bits
abbrev pub fitted : ℕ → ℕ → ℕ → ℕ
fitted from to a = if nat_lt from to then widened from (to - from) a else a % 2 ^ to

abbrev pub resized : ℕ → ℕ → ℕ → ℕ
resized from to a = if nat_eq from to then a else fitted from to a

-- ---- tasks

-- a tree of words of a width, and of each of its places that reads where the word comes from, and its width
pub record Task : Type 0 where
  pub width : ℕ
  pub tree : Tree
  pub sources : ℕ → WordSource
  pub widths : ℕ → ℕ

-- what each lane does at each number of the counter, where it is told
abbrev pub Tasks : Type 0
Tasks = ℕ → ℕ → Option Task

-- ---- histories

-- words in each cycle: of each lane, or of each input port
abbrev pub Signals : Type 0
Signals = ℕ → ℕ → ℕ

-- in cycle c the source has this word; the line of a lane may have any word before the lane's first one comes out
abbrev pub HasWord : Signals → Signals → ℕ → WordSource → ℕ → Type 0
HasWord ports lanes c (Word n) a = a ≡ n
HasWord ports lanes c (Input k) a = a ≡ ports c k
HasWord ports lanes c (Line q d) a = (b : ℕ) → b + d ≡ c → a ≡ lanes b q

-- in cycle c the lane has the value of the task's tree over words of its sources
pub record IsDone (ports lanes : Signals) (c q : ℕ) (task : Task) : Type 0 where
  pub brought : ℕ → ℕ
  pub has : (k : ℕ) → HasWord ports lanes c (task.sources k) (brought k)
  pub value : lanes c q ≡ value_by task.width (λ k. resized (task.widths k) task.width (brought k)) 0 task.tree

-- in each of n cycles each lane does the task of the number that the counter has
abbrev pub IsHistory : Tasks → (ℕ → ℕ) → ℕ → Signals → Signals → Type 0
IsHistory tasks count n ports lanes = (c q : ℕ) (task : Task) → c < n → tasks q (count c) ≡ Some task → IsDone ports lanes c q task

-- ---- the tasks of a program

-- the first mode that is active at the number
abbrev pub mode_by : ℕ → List Mode → Option Mode
mode_by c [] = None
mode_by c (m ∷ modes) = if is_active c m then Some m else mode_by c modes

abbrev pub task_of : ℕ → ℕ → Work → Task
task_of w c work = record {
  width = w;
  tree = work.tree;
  sources = λ k. slice_index_or (map (source_in c) work.sites) k (Word 0);
  widths = λ k. slice_index_or (map (λ (s : ProgramSite). s.width.bits) work.sites) k 0;
}

abbrev pub task_in : ℕ → ℕ → Option Mode → Option Task
task_in w c None = None
task_in w c (Some m) = Some (task_of w c m.work)

abbrev pub lane_task : ℕ → Option Lane → Option Task
lane_task c None = None
lane_task c (Some lane) = task_in lane.width.bits c (mode_by c lane.modes)

abbrev pub tasks_of : Program → Tasks
tasks_of program q c = lane_task c (slice_get program.lanes q)
