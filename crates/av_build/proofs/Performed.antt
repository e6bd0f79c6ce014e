-- The tasks of the program of an array perform the array.
use Rattle.std.proofs.Common.{◌≡◌, ℕ, zero, suc, ◌<◌, List, [], ◌∷◌, map, refl, sym, ap, subst, ◌∙◌, arith, IsTrue, Bool, true, false, if◌then◌else◌, Option, Some}
use Rattle.std.specs.Prelude.{slice_get, slice_index_or}
use Rattle.av_base.proofs.Lists.{some_is}
use Rattle.av_tree.specs.Points.{Point}
use Rattle.av_flat.specs.Trees.{Tree, Piece, Variable, reference}
use Rattle.av_flat.specs.Points.{has}
use Rattle.av_flat.specs.declared.timed.Helper.{Helper}
use Rattle.av_flat.specs.Nodes.{nodes, number_at}
use Rattle.av_flat.specs.Broadcasts.{Reference}
use Rattle.av_flat.specs.Helped.{before, IsEntry}
use Rattle.av_kinds.specs.declared.program.WordSource.{WordSource}
use Rattle.av_kinds.specs.declared.program.WordSource.TheVariants.{Word}
use Rattle.av_kinds.specs.declared.program.ProgramSite.{ProgramSite}
use Rattle.av_kinds.specs.Programs.{source_in, Work, Mode, is_active, Lane, Program}
use Rattle.av_kinds.specs.Histories.{Task, mode_by, task_of, task_in, lane_task, tasks_of}
use Rattle.av_history.specs.Widths.{read_width}
use Rattle.av_history.specs.Performing.{Array, ComputesOn, Lanes, Spot, IsPipelineSource, pipeline_width, pipeline_at, IsPlaceSource, IsPieceTask, IsPipelineTask, IsHelper, helper_spot, Perform}
use Rattle.av_history.proofs.Words.{place_weaker}
use Rattle.av_build.specs.inner.Programmed.{IsPlaceSite, IsWorkFor, AreAlone, one_site, IsHelperLane, IsProgramFor}

-- ---- the mode at a number

first_active : (x : ℕ) (modes : List Mode) (i : ℕ) (m : Mode) → slice_get modes i ≡ Some m → is_active x m ≡ true → ((j : ℕ) (n : Mode) → j < i → slice_get modes j ≡ Some n → is_active x n ≡ true → ⊥) → mode_by x modes ≡ Some m
first_active x [] i m is active none = absurd cc
first_active x (n ∷ modes) zero m is active none =
    let own : is_active x n ≡ true = ap (is_active x) (some_is n m is) ∙ active in
    chosen (is_active x n) own ∙ is
  where
    chosen : (b : Bool) → b ≡ true → ◌≡◌ {A = Option Mode} (if b then Some n else mode_by x modes) (Some n)
    chosen true e = refl
    chosen false e = absurd cc
first_active x (n ∷ modes) (suc i) m is active none = by_test (is_active x n) refl (first_active x modes i m is active (λ j k lt at on. none (suc j) k (omega (arith, lt)) at on))
  where
    by_test : (b : Bool) → is_active x n ≡ b → mode_by x modes ≡ Some m → ◌≡◌ {A = Option Mode} (if b then Some n else mode_by x modes) (Some m)
    by_test true e rest = absurd (none 0 n (omega arith) refl e)
    by_test false e rest = rest

-- where no two are active at one number it is the one
mode_found : (x : ℕ) (modes : List Mode) → AreAlone modes → (i : ℕ) (m : Mode) → slice_get modes i ≡ Some m → is_active x m ≡ true → mode_by x modes ≡ Some m
mode_found x modes alone i m is active = first_active x modes i m is active (λ j n lt at on. let e = alone x j i n m at is on active in omega (arith, lt, e))

lane_has_task : (program : Program) (q x : ℕ) (lane : Lane) (m : Mode) → slice_get program.lanes q ≡ Some lane → mode_by x lane.modes ≡ Some m → tasks_of program q x ≡ Some (task_of lane.width.bits x m.work)
lane_has_task program q x lane m is_lane is_mode = ap (lane_task x) is_lane ∙ ap (task_in lane.width.bits x) is_mode

-- ---- what it says of a place

index_mapped : {X Y : Type 0} (f : X → Y) (d : Y) (xs : List X) (k : ℕ) (x : X) → slice_get xs k ≡ Some x → slice_index_or (map f xs) k d ≡ f x
index_mapped f d [] k x is = absurd cc
index_mapped f d (y ∷ xs) zero x is = ap f (some_is y x is)
index_mapped f d (y ∷ xs) (suc k) x is = index_mapped f d xs k x is

module _ (a : Array) (count : ℕ → ℕ) (lanes : Lanes) (program : Program) (g : IsProgramFor a count lanes program) where
  -- ---- computations

  piece_task : (first : ℕ) (at : Spot) (w : ℕ) (work : Work) → w ≡ at.variable.width → IsWorkFor a count lanes first at work → (c : ℕ) (z : Point) → ComputesOn a at.cell c at.node z → IsTrue (has at.piece.domain z)
      → IsPieceTask a lanes at z c (task_of w (count c) work)
  piece_task first at w work wide is c z computes inside = record {
    tree = is.tree;
    width = wide;
    sources = place_weaker Sited (λ k i t. IsPlaceSource a lanes at z c i t (task.sources k)) (λ k i t s. source k i t s) 0 0 at.piece.tree is.sites;
    widths = place_weaker Sited (λ k i t. task.widths k ≡ read_width a.system at.variable.width (pipeline_at a at i) t) (λ k i t s. width k i t s) 0 0 at.piece.tree is.sites;
  }
    where
      task : Task
      task = task_of w (count c) work

      Sited : ℕ → ℕ → Tree → Type 0
      Sited k i t = (site : ProgramSite) × (slice_get work.sites k ≡ Some site) × IsPlaceSite a count lanes first at i t site

      source : (k i : ℕ) (t : Tree) → Sited k i t → IsPlaceSource a lanes at z c i t (slice_index_or (map (source_in (count c)) work.sites) k (Word 0))
      source k i t (site, is_site, h) =
          subst (λ (s : WordSource). IsPlaceSource a lanes at z c i t s) (sym (index_mapped (source_in (count c)) (Word 0) work.sites k site is_site)) (h.reads.all c z computes inside tt)

      width : (k i : ℕ) (t : Tree) → Sited k i t → slice_index_or (map (λ (s : ProgramSite). s.width.bits) work.sites) k 0 ≡ read_width a.system at.variable.width (pipeline_at a at i) t
      width k i t (site, is_site, h) = index_mapped (λ (s : ProgramSite). s.width.bits) 0 work.sites k site is_site ∙ h.width

  values : (p c n : ℕ) (z : Point) (v : Variable) (k : ℕ) (piece : Piece) → ComputesOn a p c n z → slice_get (nodes a.system) n ≡ Some v → slice_get v.pieces k ≡ Some piece → IsTrue (has piece.domain z)
      → (task : Task) × (tasks_of program (lanes.of_value p) (count c) ≡ Some task) × IsPieceTask a lanes (record { cell = p; node = n; variable = v; number = k; piece = piece }) z c task
  values p c n z v k piece computes is_variable is_piece inside =
      let x = g.values p c n z v computes is_variable in
      let lane = x.2.0 in
      let is = x.2.2 in
      let e = is.every k piece is_piece c n z computes inside in
      let o = is.mode e.0 e.1 e.2 in
      let number : o.0 ≡ k = some_is o.0 k (sym o.2 ∙ e.3) in
      let same : o.1 ≡ piece = some_is o.1 piece (sym o.3 ∙ ap (slice_get v.pieces) number ∙ is_piece) in
      let spot : ℕ → Piece → Spot = λ i q. record { cell = p; node = n; variable = v; number = i; piece = q } in
      let work = subst (λ (q : Piece). IsWorkFor a count lanes x.0.first (spot k q) e.1.work) same (subst (λ (i : ℕ). IsWorkFor a count lanes x.0.first (spot i o.1) e.1.work) number o.4) in
      let active : is_active (count c) e.1 ≡ true = (o.5.numbers c n z computes refl).1 (subst (λ (q : Piece). IsTrue (has q.domain z)) (sym same) inside) in (
        task_of lane.width.bits (count c) e.1.work,
        lane_has_task program (lanes.of_value p) (count c) lane e.1 x.2.1 (mode_found (count c) lane.modes is.alone e.0 e.1 e.2 active),
        piece_task x.0.first (spot k piece) lane.width.bits e.1.work is.width_is work c z computes inside,
      )

  -- ---- helpers

  -- of one place
  pipeline_task : (at : Spot) (j : ℕ) (h : Helper) (r : Reference) (w c : ℕ) (z : Point) (site : ProgramSite) (work : Work) (inside : Bool) → has at.piece.domain (before z h.direction) ≡ inside → work ≡ one_site site (reference r.place r.map) → w ≡ at.variable.width
      → site.width.bits ≡ pipeline_width a.system at.variable.width r.place inside → IsPipelineSource a lanes at j h.direction h.site r.place r.map inside c (source_in (count c) site) → IsPipelineTask a lanes at j h r z c (task_of w (count c) work)
  pipeline_task at j h r w c z site work inside e is wide read source =
      let P : Work → Type 0 = λ x. IsPipelineTask a lanes at j h r z c (task_of w (count c) x) in
      subst P (sym is) (record {
        tree = refl;
        width = wide;
        source = subst (λ (b : Bool). IsPipelineSource a lanes at j h.direction h.site r.place r.map b c (source_in (count c) site)) (sym e) source;
        source_width = read ∙ ap (pipeline_width a.system at.variable.width r.place) (sym e);
      })

  helpers : (j : ℕ) (h : Helper) (v : Variable) (piece : Piece) (r : Reference) → IsHelper a j h v piece r → (p c : ℕ) (z : Point) → ComputesOn a p c (number_at a.system h.var) z → IsTrue (has piece.domain z)
      → (task : Task) × (tasks_of program (lanes.of_helper j p) (count c) ≡ Some task) × IsPipelineTask a lanes (helper_spot a h v piece p) j h r z c task
  helpers j h v piece r is p c z computes inside =
      let x = g.helpers j h v piece r is p c z computes inside in
      by_place (has piece.domain (before z h.direction)) refl x.4.0 x.4.1 x.4.2
    where
      at : Spot
      at = helper_spot a h v piece p

      by_place : (b : Bool) → has piece.domain (before z h.direction) ≡ b → (lane : Lane) → slice_get program.lanes (lanes.of_helper j p) ≡ Some lane → IsHelperLane a count lanes (helper_spot a h v piece p) j h r lane
          → (task : Task) × (tasks_of program (lanes.of_helper j p) (count c) ≡ Some task) × IsPipelineTask a lanes (helper_spot a h v piece p) j h r z c task
      by_place true e lane is_lane l =
          let active : is_active (count c) l.own_mode ≡ true = (l.own_numbers.numbers c (number_at a.system h.var) z computes (refl, inside)).1 e in
          let there : slice_get lane.modes 1 ≡ Some l.own_mode = ap (λ (ms : List Mode). slice_get ms 1) l.modes_are in (
            task_of lane.width.bits (count c) l.own_mode.work,
            lane_has_task program (lanes.of_helper j p) (count c) lane l.own_mode is_lane (mode_found (count c) lane.modes l.alone 1 l.own_mode there active),
            pipeline_task at j h r lane.width.bits c z l.own_site l.own_mode.work true e l.own_work l.width_is l.own_width (l.own_reads.all c z computes inside e),
          )
      by_place false e lane is_lane l =
          let entry : IsEntry piece.domain h.direction z = (inside, λ f. both_tests (sym f ∙ e)) in
          let active : is_active (count c) l.entry_mode ≡ true = (l.entry_numbers.numbers c (number_at a.system h.var) z computes (refl, inside)).1 entry in
          let there : slice_get lane.modes 0 ≡ Some l.entry_mode = ap (λ (ms : List Mode). slice_get ms 0) l.modes_are in (
            task_of lane.width.bits (count c) l.entry_mode.work,
            lane_has_task program (lanes.of_helper j p) (count c) lane l.entry_mode is_lane (mode_found (count c) lane.modes l.alone 0 l.entry_mode there active),
            pipeline_task at j h r lane.width.bits c z l.entry_site l.entry_mode.work false e l.entry_work l.width_is l.entry_width (l.entry_reads.all c z computes inside entry),
          )
        where
          both_tests : true ≡ false → ⊥
          both_tests f = absurd cc

  pub performs : Perform a lanes (tasks_of program) count
  performs = record { values = values; helpers = helpers }
