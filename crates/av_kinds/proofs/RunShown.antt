-- The runs of the flat module of a program are histories of the program.
use Rattle.std.proofs.Common.{◌≡◌, ℕ, zero, suc, ◌+◌, ◌-◌, ◌<◌, ◌≤◌, inl, inr, List, [], ◌∷◌, map, length, take, drop, Some, refl, sym, subst, ap, ◌∙◌, arith, Bool, true, false, if◌then◌else◌}
use Rattle.std.specs.Prelude.{slice_get, slice_index_or, nat_le, ◌^◌}
use Rattle.std.specs.List.{AllByRecursion, list_any}
use Rattle.std.proofs.lemmas.Bool.{cases_lt}
use Rattle.av_base.proofs.Lists.{some_is, each_at}
use Rattle.av_base.specs.declared.width.Width.{Width}
use Rattle.av_tree.specs.Values.{combined}
use Rattle.av_net.specs.Meaning.{Words, word_of}
use Rattle.av_flat.specs.Trees.{Tree, reference, constant, binary, choice, pick}
use Rattle.av_kinds.specs.declared.program.WordSource.{WordSource}
use Rattle.av_kinds.specs.declared.program.WordSource.TheVariants.{Word, Input, Line}
use Rattle.av_kinds.specs.declared.program.Selection.{Selection}
use Rattle.av_kinds.specs.declared.program.Inlet.{Inlet}
use Rattle.av_kinds.specs.declared.program.Inlet.TheVariants.{Inputs, Taps, Pipe}
use Rattle.av_kinds.specs.declared.program.ProgramSite.{ProgramSite}
use Rattle.av_kinds.specs.declared.program.CellLanes.{CellLanes}
use Rattle.av_kinds.specs.Programs.{site_count, has_number, source_by, source_in, Work, Mode, is_active, mode_at, Lane, Program, IsSource, IsInletOf, IsSite, IsModeOf, IsLaneOf, AreInTurn}
use Rattle.av_kinds.specs.Histories.{value_by, resized, Signals, HasWord, IsDone, mode_by, task_of}
use Rattle.av_kinds.specs.Names.{Labels, input_name, line_name, labels}
use Rattle.av_kinds.specs.inner.Shapes.{ModeShape, LaneShape, SuitsLane, SuitLanes}
use Rattle.av_kinds.specs.inner.Instances.{operand_of, work_for}
use Rattle.av_kinds.proofs.Taken.{site_words, work_value}
use Rattle.av_kinds.proofs.Shown.{LanesShow}
use Rattle.av_kinds.proofs.OneCell.{OfPipe, IsOfPipe, AreOfPipes, LanesOfPipes}
use Rattle.av_kinds.proofs.Chosen.{IsAlone, work_taken}

-- ---- the word of a tree depends on the words of its places alone

pub same_value : (w : ℕ) (f g : ℕ → ℕ) (s : ℕ) (t : Tree) → ((k : ℕ) → s ≤ k → k < s + site_count t → f k ≡ g k) → value_by w f s t ≡ value_by w g s t
same_value w f g s (reference place m) same = same s (omega arith) (omega arith)
same_value w f g s (constant n) same = refl
same_value w f g s (binary o l r) same =
    let a = same_value w f g s l (λ k low high. same k low (omega (arith, high))) in
    let b = same_value w f g (s + site_count l) r (λ k low high. same k (omega (arith, low)) (omega (arith, high))) in
    ap (λ x. combined w o x (value_by w f (s + site_count l) r)) a ∙ ap (combined w o (value_by w g s l)) b
same_value w f g s (choice l c r x y) same =
    let a = same_value w f g s l (λ k low high. same k low (omega (arith, high))) in
    let b = same_value w f g (s + site_count l) r (λ k low high. same k (omega (arith, low)) (omega (arith, high))) in
    let d = same_value w f g (s + site_count l + site_count r) x (λ k low high. same k (omega (arith, low)) (omega (arith, high))) in
    let e = same_value w f g (s + site_count l + site_count r + site_count x) y (λ k low high. same k (omega (arith, low)) (omega (arith, high))) in
    rw (a, b, d, e) refl
same_value w f g s (pick place choices n) same = same s (omega arith) (omega arith)
same_value w f g s _ same = refl

-- ---- the cell of a lane

pub record IsInCell (cells : List CellLanes) (q : ℕ) : Type 0 where
  pub cell : ℕ
  pub own : CellLanes
  pub is_cell : slice_get cells cell ≡ Some own
  pub low : own.first ≤ q
  pub high : q ≤ own.value

pub cell_of : (first : ℕ) (cells : List CellLanes) (count : ℕ) → AreInTurn first cells count → (q : ℕ) → first ≤ q → q < count → IsInCell cells q
cell_of first [] count turn q low high = absurd (omega (arith, turn, low, high))
cell_of first (own ∷ cells) count turn q low high = elim (cases_lt own.value q) [
  | inl after ↦ (let h = cell_of (suc own.value) cells count turn.2 q (omega (arith, after)) high in record { cell = suc h.cell; own = h.own; is_cell = h.is_cell; low = h.low; high = h.high })
  | inr within ↦ record { cell = 0; own = own; is_cell = refl; low = omega (arith, turn.0, low); high = omega (arith, within) }
]

-- and its lanes stand in their places
pub lane_in : (lanes : List Lane) (first value q : ℕ) (lane : Lane) → first ≤ q → q ≤ value → slice_get lanes q ≡ Some lane → (h : ℕ) → first + h ≡ q → slice_get (take (suc (value - first)) (drop first lanes)) h ≡ Some lane
lane_in lanes zero value q lane low high is h at =
    let e : h ≡ q = omega (arith, at) in
    let lt : h < suc (value - 0) = omega (arith, at, high) in
    taken lanes (suc (value - 0)) h lane lt (subst (λ i. slice_get lanes i ≡ Some lane) (sym e) is)
  where
    taken : (xs : List Lane) (n i : ℕ) (x : Lane) → i < n → slice_get xs i ≡ Some x → slice_get (take n xs) i ≡ Some x
    taken [] n i x lt is = absurd cc
    taken (y ∷ xs) zero i x lt is = absurd (omega (arith, lt))
    taken (y ∷ xs) (suc n) zero x lt is = is
    taken (y ∷ xs) (suc n) (suc i) x lt is = taken xs n i x (omega (arith, lt)) is
lane_in [] (suc first) value q lane low high is h at = absurd cc
lane_in (l ∷ lanes) (suc first) zero q lane low high is h at = absurd (omega (arith, low, high))
lane_in (l ∷ lanes) (suc first) (suc value) zero lane low high is h at = absurd (omega (arith, low))
lane_in (l ∷ lanes) (suc first) (suc value) (suc q) lane low high is h at =
    let e : value - first ≡ suc value - suc first = omega arith in
    subst (λ n. slice_get (take (suc n) (drop first lanes)) h ≡ Some lane) e (lane_in lanes first value q lane (omega (arith, low)) (omega (arith, high)) is h (omega (arith, at)))

-- ---- what a lane of a cell shows

pub lane_shows : (names : Labels) (v : Words) (c q : ℕ) (shapes : List LaneShape) (lanes : List Lane) → SuitLanes shapes lanes → LanesShow names v c q shapes lanes → (h : ℕ) (lane : Lane) → slice_get lanes h ≡ Some lane → (j : ℕ) → q + h ≡ j
    → (shape : LaneShape) × SuitsLane shape lane × (v (names.value j) ≡ work_value names shape.width.bits v c (work_for c shape.modes lane.modes))
lane_shows names v c q [] [] suit show h lane is j at = absurd cc
lane_shows names v c q (shape ∷ shapes) (l ∷ lanes) suit show zero lane is j at =
    let e : q ≡ j = omega (arith, at) in
    let same : l ≡ lane = some_is l lane is in
    (shape, subst (SuitsLane shape) same suit.0, subst (λ (x : Lane). v (names.value j) ≡ work_value names shape.width.bits v c (work_for c shape.modes x.modes)) same (subst (λ i. v (names.value i) ≡ work_value names shape.width.bits v c (work_for c shape.modes l.modes)) e show.0))
lane_shows names v c q (shape ∷ shapes) (l ∷ lanes) suit show (suc h) lane is j at = lane_shows names v c (q + 1) shapes lanes suit.1 show.1 h lane is j (omega (arith, at))
lane_shows names v c q [] (l ∷ lanes) suit show h lane is j at = absurd suit
lane_shows names v c q (shape ∷ shapes) [] suit show h lane is j at = absurd suit

-- ---- the mode that is active

pub record IsActive (c : ℕ) (modes : List Mode) (m : Mode) : Type 0 where
  pub number : ℕ
  pub is_mode : slice_get modes number ≡ Some m
  pub active : is_active c m ≡ true

pub active_mode : (c : ℕ) (modes : List Mode) (m : Mode) → mode_by c modes ≡ Some m → IsActive c modes m
active_mode c [] m is = absurd cc
active_mode c (n ∷ modes) m is = by_test (is_active c n) refl (active_mode c modes m) is
  where
    by_test : (b : Bool) → is_active c n ≡ b → (mode_by c modes ≡ Some m → IsActive c modes m) → (if b then Some n else mode_by c modes) ≡ Some m → IsActive c (n ∷ modes) m
    by_test true e later is = let same : n ≡ m = some_is n m is in record { number = 0; is_mode = is; active = subst (λ (x : Mode). is_active c x ≡ true) same e }
    by_test false e later is = let h = later is in record { number = suc h.number; is_mode = h.is_mode; active = h.active }

-- a mode that is active has a window
some_of : {X : Type 0} (test : X → Bool) (xs : List X) → list_any test xs ≡ true → 0 < length xs
some_of test [] h = absurd cc
some_of test (x ∷ xs) h = omega arith

-- ---- in a run whose lines have the lanes' words

module _ (program : Program) (n : ℕ) (in_cycle : ℕ → Words)
    (lines : (q : ℕ) (lane : Lane) → slice_get program.lanes q ≡ Some lane → (d : ℕ) → d ≤ lane.length → (j : ℕ) → j + d < n → in_cycle (j + d) (line_name (labels program) q d) ≡ in_cycle j ((labels program).value q)) where
  abbrev pub N : Labels
  N = labels program

  abbrev pub ports : Signals
  ports c k = in_cycle c (input_name k)

  abbrev pub values : Signals
  values c q = in_cycle c (N.value q)

  line_word : (c : ℕ) → c < n → (q d : ℕ) (lane : Lane) → slice_get program.lanes q ≡ Some lane → d ≤ lane.length → (b : ℕ) → b + d ≡ c → in_cycle c (line_name N q d) ≡ values b q
  line_word c lt q d lane is le b at = subst (λ i. in_cycle i (line_name N q d) ≡ values b q) at (lines q lane is d le b (omega (arith, at, lt)))

  source_has : (c : ℕ) → c < n → (w : Width) (source : WordSource) → IsSource program w source → HasWord ports values c source (word_of (in_cycle c) (operand_of N w source))
  source_has c lt w (Word k) is = refl
  source_has c lt w (Input k) is = refl
  source_has c lt w (Line q d) is = λ b at. line_word c lt q d is.0 is.1 is.3 b at

  chosen_source : (count : ℕ) (w : Width) (otherwise : WordSource) (selections : List Selection) → AllByRecursion (λ (l : Selection). (l.last < 2 ^ 12) × IsSource program w l.source) selections → IsSource program w otherwise → IsSource program w (source_by count otherwise selections)
  chosen_source count w otherwise [] each last = last
  chosen_source count w otherwise (l ∷ selections) each last = by_test (nat_le count l.last) (chosen_source count w otherwise selections each.1 last)
    where
      by_test : (b : Bool) → IsSource program w (source_by count otherwise selections) → IsSource program w (if b then l.source else source_by count otherwise selections)
      by_test true later = each.0.1
      by_test false later = later

  site_has : (c : ℕ) → c < n → (count first q : ℕ) (site : ProgramSite) → IsSite program first q site → HasWord ports values c (source_in count site) (word_of (in_cycle c) (operand_of N site.width (source_in count site)))
  site_has c lt count first q site = by_inlet site.inlet
    where
      by_inlet : (i : Inlet) → IsInletOf program first q i site → HasWord ports values c (source_in count site) (word_of (in_cycle c) (operand_of N site.width (source_in count site)))
      by_inlet Inputs is = source_has c lt site.width (source_in count site) (chosen_source count site.width site.otherwise site.selections is.0 is.1)
      by_inlet Taps is = source_has c lt site.width (source_in count site) (chosen_source count site.width site.otherwise site.selections is.0 is.1)
      by_inlet (Pipe h) is =
          let e : source_in count site ≡ Line (first + h) 0 = ap (source_by count site.otherwise) is.4 ∙ is.5 in
          subst (λ (s : WordSource). HasWord ports values c s (word_of (in_cycle c) (operand_of N site.width s))) (sym e) (λ b at. line_word c lt (first + h) 0 is.0 is.1 (omega arith) b at)

  -- ---- a work

  abbrev pub words : ℕ → ℕ → List ProgramSite → ℕ → ℕ
  words c count sites k = slice_index_or (map (λ (s : ProgramSite). word_of (in_cycle c) (operand_of N s.width (source_in count s))) sites) k 0

  words_have : (c : ℕ) → c < n → (count first q : ℕ) (sites : List ProgramSite) → AllByRecursion (IsSite program first q) sites → (k : ℕ) → HasWord ports values c (slice_index_or (map (source_in count) sites) k (Word 0)) (words c count sites k)
  words_have c lt count first q [] are k = refl
  words_have c lt count first q (site ∷ sites) are zero = site_has c lt count first q site are.0
  words_have c lt count first q (site ∷ sites) are (suc k) = words_have c lt count first q sites are.1 k

  words_same : (c count w : ℕ) (sites : List ProgramSite) (k : ℕ) → k < length sites → site_words N w (in_cycle c) count sites k ≡ resized (slice_index_or (map (λ (s : ProgramSite). s.width.bits) sites) k 0) w (words c count sites k)
  words_same c count w [] k lt = absurd (omega (arith, lt))
  words_same c count w (site ∷ sites) zero lt = refl
  words_same c count w (site ∷ sites) (suc k) lt = words_same c count w sites k (omega (arith, lt))

  work_done : (c : ℕ) → c < n → (count first q w : ℕ) (work : Work) → AllByRecursion (IsSite program first q) work.sites → length work.sites ≡ site_count work.tree
      → values c q ≡ work_value N w (in_cycle c) count work → IsDone ports values c q (task_of w count work)
  work_done c lt count first q w work are many is = record {
    brought = words c count work.sites;
    has = words_have c lt count first q work.sites are;
    value = is ∙ same_value w (site_words N w (in_cycle c) count work.sites) (λ k. resized (slice_index_or (map (λ (s : ProgramSite). s.width.bits) work.sites) k 0) w (words c count work.sites k)) 0 work.tree (λ k low high. words_same c count w work.sites k (omega (arith, high, many)));
  }

  -- ---- a lane

  pub lane_done : (c : ℕ) → c < n → (count first p q : ℕ) (lane : Lane) → IsLaneOf program first p q lane → (shape : LaneShape) → SuitsLane shape lane
      → values c q ≡ work_value N shape.width.bits (in_cycle c) count (work_for count shape.modes lane.modes) → (m : Mode) → mode_by count lane.modes ≡ Some m → IsDone ports values c q (task_of lane.width.bits count m.work)
  lane_done c lt count first p q lane is shape suit shown m here =
      let on = active_mode count lane.modes m here in
      let some = some_of (has_number count) m.windows on.active in
      let alone : IsAlone count lane.modes on.number = λ i u there active. is.alone count i on.number u m there on.is_mode active on.active in
      let taken : work_for count shape.modes lane.modes ≡ m.work = work_taken count shape.modes lane.modes on.number m on.is_mode on.active alone (suit.active on.number m on.is_mode some) in
      let width : shape.width.bits ≡ lane.width.bits = ap (λ (w : Width). w.bits) (sym suit.width) in
      let own : IsModeOf program first q lane.width.bits m = each_at (IsModeOf program first q lane.width.bits) lane.modes on.number m is.modes on.is_mode in
      work_done c lt count first q lane.width.bits m.work own.sites own.many
      (shown ∙ ap (λ (x : Work). work_value N shape.width.bits (in_cycle c) count x) taken ∙ ap (λ w. work_value N w (in_cycle c) count m.work) width)

-- ---- pipelines of a cell

abbrev pub IsPlacedAt : Program → ℕ → ℕ → List Lane → Type 0
IsPlacedAt program first k [] = Unit {0}
IsPlacedAt program first k (lane ∷ lanes) = AllByRecursion (λ (m : Mode). AllByRecursion (IsSite program first (first + k)) m.work.sites) lane.modes × IsPlacedAt program first (k + 1) lanes

module _ (program : Program) (first count total : ℕ) where
  site_piped : (k : ℕ) → k < total → (site : ProgramSite) → IsSite program first (first + k) site → IsOfPipe first total count site
  site_piped k lt site = by_inlet site.inlet
    where
      by_inlet : (i : Inlet) → IsInletOf program first (first + k) i site → OfPipe first total count i site
      by_inlet Inputs is = tt
      by_inlet Taps is = tt
      by_inlet (Pipe h) is = (omega (arith, is.3, lt), ap (source_by count site.otherwise) is.4 ∙ is.5)

  sites_piped : (k : ℕ) → k < total → (sites : List ProgramSite) → AllByRecursion (IsSite program first (first + k)) sites → AllByRecursion (IsOfPipe first total count) sites
  sites_piped k lt [] are = tt
  sites_piped k lt (site ∷ sites) are = (site_piped k lt site are.0, sites_piped k lt sites are.1)

  mode_sites : (k : ℕ) → k < total → (modes : List Mode) → AllByRecursion (λ (m : Mode). AllByRecursion (IsSite program first (first + k)) m.work.sites) modes → (number : ℕ) → AllByRecursion (IsOfPipe first total count) (mode_at modes number).work.sites
  mode_sites k lt [] are number = tt
  mode_sites k lt (m ∷ modes) are zero = sites_piped k lt m.work.sites are.0
  mode_sites k lt (m ∷ modes) are (suc number) = mode_sites k lt modes are.1 number

  modes_of_pipes : (k : ℕ) → k < total → (shapes : List ModeShape) (modes : List Mode) → AllByRecursion (λ (m : Mode). AllByRecursion (IsSite program first (first + k)) m.work.sites) modes → AreOfPipes first total count shapes modes
  modes_of_pipes k lt [] modes are = tt
  modes_of_pipes k lt (shape ∷ shapes) modes are = (mode_sites k lt modes are shape.number, modes_of_pipes k lt shapes modes are)

  pub lanes_of_pipes : (k : ℕ) (shapes : List LaneShape) (lanes : List Lane) → k + length shapes ≤ total → IsPlacedAt program first k lanes → LanesOfPipes first total count shapes lanes
  lanes_of_pipes k [] lanes le are = tt
  lanes_of_pipes k (shape ∷ shapes) [] le are = tt
  lanes_of_pipes k (shape ∷ shapes) (lane ∷ lanes) le are = (modes_of_pipes k (omega (arith, le)) shape.modes lane.modes are.0, lanes_of_pipes (k + 1) shapes lanes (omega (arith, le)) are.1)
