-- What the ports of a cell's kind take, one after another.
use Rattle.std.proofs.Common.{◌≡◌, ℕ, zero, suc, ◌+◌, ◌-◌, ◌<◌, ◌≤◌, Bool, true, false, List, [], ◌∷◌, ◌++◌, length, map, drop, get_or, refl, sym, subst, ap, ◌∙◌, arith, append_assoc, Some}
use Rattle.std.specs.Prelude.{slice_get, nat_lt}
use Rattle.std.specs.List.{AllByRecursion}
use Rattle.std.proofs.lemmas.List.{append-nil, length-map, length-drop}
use Rattle.std.proofs.lemmas.Option.{slice_get_read}
use Rattle.av_base.proofs.Lists.{some_is, each_at, next_item}
use Rattle.av_net.specs.declared.operation.Operand.{Operand}
use Rattle.av_kinds.specs.declared.program.Window.{Window}
use Rattle.av_kinds.specs.declared.program.Selection.{Selection}
use Rattle.av_kinds.specs.declared.program.ProgramSite.{ProgramSite}
use Rattle.av_kinds.specs.declared.program.WordSource.{WordSource}
use Rattle.av_kinds.specs.declared.shape.SiteShape.{SiteShape}
use Rattle.av_net.specs.declared.plan.Instance.{Instance}
use Rattle.av_kinds.specs.declared.program.CellLanes.{CellLanes}
use Rattle.av_kinds.specs.Programs.{Mode, mode_at, Program, lanes_of}
use Rattle.av_kinds.specs.Written.{ModeMade, LaneMade, mode_of, lane_of}
use Rattle.av_kinds.specs.Names.{Labels, labels, instance_name}
use Rattle.av_kinds.specs.inner.Counts.{bound}
use Rattle.av_kinds.specs.inner.Shapes.{ModeShape, ModeShapeMade, LaneShapeMade, mode_shape_of, lane_shape_of, SuitsMode, SuitModes, SuitsLane, SuitLanes}
use Rattle.av_kinds.specs.inner.Instances.{words_for, bounds_for, site_operands, sites_operands, windows_for, mode_operands, modes_operands, lanes_operands, outputs_from, cell_operands, instance_by}
use Rattle.av_kinds.specs.inner.Reads.{IsThere, SiteThere, ModeThere, LaneThere}
use Rattle.av_kinds.proofs.Placing.{one_less, one_more, some_less, read_mapped}
use Rattle.av_kinds.proofs.ShapeSuits.{mode_there}
use Rattle.av_kinds.proofs.ShapeMade.{suit_at}
use Rattle.av_kinds.proofs.TopInstances.{suit_many}

abbrev pub source_of : Selection → WordSource
source_of l = l.source

abbrev pub last_of : Selection → ℕ
last_of l = l.last

-- all are still to come, from the start
pub all_to_come : {X : Type 0} (F : ℕ → List X) (old : List X) (n count : ℕ) → 0 + n ≡ count → old ++ F n ≡ old ++ F count
all_to_come F old n count at = let e : n ≡ count = omega (arith, at) in ap (λ i. old ++ F i) e

-- ---- a place

pub source_there : (count k : ℕ) (selections : List Selection) (otherwise : WordSource) → AllByRecursion (λ (l : Selection). IsThere count l.source) selections → IsThere count otherwise → IsThere count (get_or (map source_of selections) k otherwise)
source_there count k [] otherwise each last = last
source_there count zero (l ∷ selections) otherwise each last = each.0
source_there count (suc k) (l ∷ selections) otherwise each last = source_there count k selections otherwise each.1 last

words_split : (f : WordSource → Operand) (k n : ℕ) (selections : List Selection) (otherwise : WordSource) → words_for f (suc n) (drop k selections) otherwise ≡ f (get_or (map source_of selections) k otherwise) ∷ words_for f n (drop (suc k) selections) otherwise
words_split f zero n [] otherwise = refl
words_split f (suc k) n [] otherwise = refl
words_split f zero n (l ∷ selections) otherwise = refl
words_split f (suc k) n (l ∷ selections) otherwise = words_split f k n selections otherwise

-- its words, with those from the k-th on still to come
abbrev pub AreWordsFrom : (WordSource → Operand) → ℕ → List Selection → WordSource → ℕ → List Operand → List Operand → Type 0
AreWordsFrom f count selections otherwise k operands whole = (n : ℕ) → k + n ≡ count → operands ++ words_for f n (drop k selections) otherwise ≡ whole

pub word_put : (f : WordSource → Operand) (count : ℕ) (selections : List Selection) (otherwise : WordSource) (k : ℕ) (operands next whole : List Operand) (source : WordSource) (a : Operand) → AreWordsFrom f count selections otherwise k operands whole
    → source ≡ get_or (map source_of selections) k otherwise → a ≡ f source → next ≡ operands ++ a ∷ [] → AreWordsFrom f count selections otherwise (k + 1) next whole
word_put f count selections otherwise k operands next whole source a h from is put = λ n at.
    one_less whole operands next a (words_for f (suc n) (drop k selections) otherwise) (words_for f n (drop (k + 1) selections) otherwise) (h (suc n) (omega (arith, at))) put
    (words_split f k n selections otherwise ∙ ap (λ s. f s ∷ words_for f n (drop (suc k) selections) otherwise) (sym from) ∙ ap (λ x. x ∷ words_for f n (drop (suc k) selections) otherwise) (sym is)
    ∙ ap (λ i. a ∷ words_for f n (drop i selections) otherwise) (one_more k))

pub words_put : (f : WordSource → Operand) (count : ℕ) (selections : List Selection) (otherwise : WordSource) (k : ℕ) (operands next whole : List Operand) (a : Operand) → AreWordsFrom f count selections otherwise k operands whole
    → k ≡ count → a ≡ f otherwise → next ≡ operands ++ a ∷ [] → next ≡ whole
words_put f count selections otherwise k operands next whole a h at is put = put ∙ ap (λ x. operands ++ x ∷ []) is ∙ h 0 (omega (arith, at))

bounds_split : (k n : ℕ) (selections : List Selection) → bounds_for (suc n) (drop k selections) ≡ bound (get_or (map last_of selections) k 0) ∷ bounds_for n (drop (suc k) selections)
bounds_split zero n [] = refl
bounds_split (suc k) n [] = refl
bounds_split zero n (l ∷ selections) = refl
bounds_split (suc k) n (l ∷ selections) = bounds_split k n selections

abbrev pub AreBoundsFrom : ℕ → List Selection → ℕ → List Operand → List Operand → Type 0
AreBoundsFrom count selections k operands whole = (n : ℕ) → k + n ≡ count → operands ++ bounds_for n (drop k selections) ≡ whole

pub bound_put : (count : ℕ) (selections : List Selection) (k : ℕ) (operands next whole : List Operand) (last : ℕ) (a : Operand) → AreBoundsFrom count selections k operands whole → last ≡ get_or (map last_of selections) k 0 → a ≡ bound last → next ≡ operands ++ a ∷ []
    → AreBoundsFrom count selections (k + 1) next whole
bound_put count selections k operands next whole last a h from is put = λ n at.
    one_less whole operands next a (bounds_for (suc n) (drop k selections)) (bounds_for n (drop (k + 1) selections)) (h (suc n) (omega (arith, at))) put
    (bounds_split k n selections ∙ ap (λ i. bound i ∷ bounds_for n (drop (suc k) selections)) (sym from) ∙ ap (λ x. x ∷ bounds_for n (drop (suc k) selections)) (sym is) ∙ ap (λ i. a ∷ bounds_for n (drop i selections)) (one_more k))

pub bounds_put : (count : ℕ) (selections : List Selection) (k : ℕ) (operands whole : List Operand) → AreBoundsFrom count selections k operands whole → k ≡ count → operands ≡ whole
bounds_put count selections k operands whole h at = sym (append-nil operands) ∙ h 0 (omega (arith, at))

-- ---- the places of a mode

pub site_put : (names : Labels) (shapes : List SiteShape) (sites : List ProgramSite) (k : ℕ) (shape : SiteShape) (site : ProgramSite) (operands next whole : List Operand) → k < length shapes → shape ≡ get_or shapes k shape → k < length sites → site ≡ get_or sites k site
    → operands ++ sites_operands names (drop k shapes) (drop k sites) ≡ whole → next ≡ operands ++ site_operands names shape site → next ++ sites_operands names (drop (k + 1) shapes) (drop (k + 1) sites) ≡ whole
site_put names shapes sites k shape site operands next whole ls is lt it h put =
    some_less whole operands next (site_operands names shape site) (sites_operands names (drop k shapes) (drop k sites)) (sites_operands names (drop (k + 1) shapes) (drop (k + 1) sites)) h put
    (ap (λ xs. sites_operands names xs (drop k sites)) (next_item shapes k shape ls is) ∙ ap (sites_operands names (shape ∷ drop (k + 1) shapes)) (next_item sites k site lt it))

pub site_there_at : (count : ℕ) (sites : List ProgramSite) → AllByRecursion (SiteThere count) sites → (k : ℕ) (site : ProgramSite) → k < length sites → site ≡ get_or sites k site → SiteThere count site
site_there_at count sites each k site lt is = each_at (SiteThere count) sites k site each (slice_get_read sites (length sites) k site refl lt is)

-- ---- its windows

abbrev pub no_window : Window
no_window = record { first = 1; last = 0 }

windows_split : (k n : ℕ) (windows : List Window)
    → windows_for (suc n) (drop k windows) ≡ bound (get_or windows k no_window).first ∷ bound (get_or windows k no_window).last ∷ windows_for n (drop (suc k) windows)
windows_split zero n [] = refl
windows_split (suc k) n [] = refl
windows_split zero n (s ∷ windows) = refl
windows_split (suc k) n (s ∷ windows) = windows_split k n windows

abbrev pub AreWindowsFrom : ℕ → List Window → ℕ → List Operand → List Operand → Type 0
AreWindowsFrom count windows k operands whole = (n : ℕ) → k + n ≡ count → operands ++ windows_for n (drop k windows) ≡ whole

pub window_put : (count : ℕ) (windows : List Window) (k : ℕ) (operands mid next whole : List Operand) (own : Window) (a b : Operand) → AreWindowsFrom count windows k operands whole → own ≡ get_or windows k no_window
    → a ≡ bound own.first → b ≡ bound own.last → mid ≡ operands ++ a ∷ [] → next ≡ mid ++ b ∷ [] → AreWindowsFrom count windows (k + 1) next whole
window_put count windows k operands mid next whole own a b h from is_first is_last put_first put_last = λ n at.
    some_less whole operands next (a ∷ b ∷ []) (windows_for (suc n) (drop k windows)) (windows_for n (drop (k + 1) windows)) (h (suc n) (omega (arith, at)))
    (put_last ∙ ap (λ xs. xs ++ b ∷ []) put_first ∙ append_assoc operands (a ∷ []) (b ∷ []))
    (windows_split k n windows ∙ ap (λ (s : Window). bound s.first ∷ bound s.last ∷ windows_for n (drop (suc k) windows)) (sym from)
    ∙ ap (λ x. x ∷ bound own.last ∷ windows_for n (drop (suc k) windows)) (sym is_first) ∙ ap (λ x. a ∷ x ∷ windows_for n (drop (suc k) windows)) (sym is_last)
    ∙ ap (λ i. a ∷ b ∷ windows_for n (drop i windows)) (one_more k))

pub windows_put : (count : ℕ) (windows : List Window) (k : ℕ) (operands whole : List Operand) → AreWindowsFrom count windows k operands whole → k ≡ count → operands ≡ whole
windows_put count windows k operands whole h at = sym (append-nil operands) ∙ h 0 (omega (arith, at))

-- ---- the modes of a lane: the last one is not tested

modes_split : (names : Labels) (f : ModeShape) (rest : List ModeShape) (modes : List Mode) (tested : Bool) → (tested ≡ true → 0 < length rest) → (tested ≡ false → length rest ≡ 0)
    → modes_operands names (f ∷ rest) modes ≡ mode_operands names tested f (mode_at modes f.number) ++ modes_operands names rest modes
modes_split names f [] modes true more none = absurd (let h = more refl in omega (arith, h))
modes_split names f [] modes false more none = sym (append-nil (mode_operands names false f (mode_at modes f.number)))
modes_split names f (g ∷ rest) modes true more none = refl
modes_split names f (g ∷ rest) modes false more none = absurd (let h = none refl in omega (arith, h))

mode_put : (names : Labels) (shapes : List ModeShapeMade) (modes : List Mode) (k : ℕ) (x : ModeShapeMade) (mode : Mode) (tested : Bool) (operands next whole : List Operand) → k < length shapes → x ≡ get_or shapes k x → mode_at modes x.number ≡ mode
    → tested ≡ nat_lt (k + 1) (length shapes) → operands ++ modes_operands names (map mode_shape_of (drop k shapes)) modes ≡ whole → next ≡ operands ++ mode_operands names tested (mode_shape_of x) mode
    → next ++ modes_operands names (map mode_shape_of (drop (k + 1) shapes)) modes ≡ whole
mode_put names shapes modes k x mode tested operands next whole lt is here e h put =
    let rest = map mode_shape_of (drop (k + 1) shapes) in
    some_less whole operands next (mode_operands names tested (mode_shape_of x) mode) (modes_operands names (map mode_shape_of (drop k shapes)) modes) (modes_operands names rest modes) h put
    (ap (λ xs. modes_operands names (map mode_shape_of xs) modes) (next_item shapes k x lt is) ∙ modes_split names (mode_shape_of x) rest modes tested more none ∙ ap (λ m. mode_operands names tested (mode_shape_of x) m ++ modes_operands names rest modes) here)
  where
    many : length (map mode_shape_of (drop (k + 1) shapes)) ≡ length shapes - (k + 1)
    many = length-map (drop (k + 1) shapes) mode_shape_of ∙ length-drop (k + 1) shapes

    is_less : nat_lt (k + 1) (length shapes) ≡ true → k + 1 < length shapes
    is_less t = grind arith

    is_most : nat_lt (k + 1) (length shapes) ≡ false → length shapes ≤ k + 1
    is_most f = grind arith

    more : tested ≡ true → 0 < length (map mode_shape_of (drop (k + 1) shapes))
    more t = let l = is_less (sym e ∙ t) in omega (arith, many, l)

    none : tested ≡ false → length (map mode_shape_of (drop (k + 1) shapes)) ≡ 0
    none f = let l = is_most (sym e ∙ f) in omega (arith, many, l)

-- what suits the shape at a place
suit_mode_at : (shapes : List ModeShape) (modes : List Mode) → SuitModes shapes modes → (i : ℕ) (f : ModeShape) → slice_get shapes i ≡ Some f → SuitsMode f (mode_at modes f.number)
suit_mode_at [] modes suit i f is = absurd cc
suit_mode_at (g ∷ shapes) modes suit zero f is = subst (λ (x : ModeShape). SuitsMode x (mode_at modes x.number)) (some_is g f is) suit.0
suit_mode_at (g ∷ shapes) modes suit (suc i) f is = suit_mode_at shapes modes suit.1 i f is

-- the mode of a number that is there
mode_seen : (modes : List ModeMade) (n : ℕ) (y : ModeMade) → n < length modes → y ≡ get_or modes n y → mode_at (map mode_of modes) n ≡ mode_of y
mode_seen modes n y lt is = mode_there (map mode_of modes) n (mode_of y) (read_mapped mode_of modes n y y lt is)

suits_number : (shape : LaneShapeMade) (lane : LaneMade) → SuitsLane (lane_shape_of shape) (lane_of lane) → (k : ℕ) (x : ModeShapeMade) → k < length shape.modes → x ≡ get_or shape.modes k x → x.number < length lane.modes
suits_number shape lane suit k x lt is =
    let n = suit.numbers k (mode_shape_of x) (read_mapped mode_shape_of shape.modes k x x lt is) in
    omega (arith, n, length-map lane.modes mode_of)

suits_mode : (shape : LaneShapeMade) (lane : LaneMade) → SuitsLane (lane_shape_of shape) (lane_of lane) → (k : ℕ) (x : ModeShapeMade) (y : ModeMade) → k < length shape.modes → x ≡ get_or shape.modes k x → x.number < length lane.modes → y ≡ get_or lane.modes x.number y
    → SuitsMode (mode_shape_of x) (mode_of y)
suits_mode shape lane suit k x y lt is within there =
    subst (SuitsMode (mode_shape_of x)) (mode_seen lane.modes x.number y within there)
    (suit_mode_at (map mode_shape_of shape.modes) (map mode_of lane.modes) suit.modes k (mode_shape_of x) (read_mapped mode_shape_of shape.modes k x x lt is))

mode_there_at : (count : ℕ) (modes : List ModeMade) → AllByRecursion (ModeThere count) (map mode_of modes) → (k : ℕ) (y : ModeMade) → k < length modes → y ≡ get_or modes k y → ModeThere count (mode_of y)
mode_there_at count modes each k y lt is = each_at (ModeThere count) (map mode_of modes) k (mode_of y) each (read_mapped mode_of modes k y y lt is)

-- the same of the slices that are read
module _ (shape : LaneShapeMade) (lane : LaneMade) (shapes : List ModeShapeMade) (modes : List ModeMade) (k n : ℕ) (x : ModeShapeMade) (e : shapes ≡ shape.modes) (f : modes ≡ lane.modes) (number : n ≡ x.number) (suit : SuitsLane (lane_shape_of shape) (lane_of lane))
    (lt : k < length shapes) (is : x ≡ get_or shapes k x) where
  here : k < length shape.modes
  here = subst (λ (xs : List ModeShapeMade). k < length xs) e lt

  there : x ≡ get_or shape.modes k x
  there = is ∙ ap (λ (xs : List ModeShapeMade). get_or xs k x) e

  pub mode_within : n < length modes
  mode_within = subst (λ (ys : List ModeMade). n < length ys) (sym f) (subst (λ i. i < length lane.modes) (sym number) (suits_number shape lane suit k x here there))

  module _ (y : ModeMade) (at : y ≡ get_or modes n y) where
    read : y ≡ get_or lane.modes x.number y
    read = at ∙ ap (λ (ys : List ModeMade). get_or ys n y) f ∙ ap (λ i. get_or lane.modes i y) number

    pub mode_suits : SuitsMode (mode_shape_of x) (mode_of y)
    mode_suits = suits_mode shape lane suit k x y here there (suits_number shape lane suit k x here there) read

    pub mode_reads : (count : ℕ) → AllByRecursion (ModeThere count) (map mode_of lane.modes) → ModeThere count (mode_of y)
    mode_reads count each = mode_there_at count lane.modes each x.number y (suits_number shape lane suit k x here there) read

    pub mode_added : (names : Labels) (operands next whole : List Operand) → operands ++ modes_operands names (map mode_shape_of (drop k shape.modes)) (map mode_of lane.modes) ≡ whole
        → next ≡ operands ++ mode_operands names (nat_lt (k + 1) (length shapes)) (mode_shape_of x) (mode_of y) → next ++ modes_operands names (map mode_shape_of (drop (k + 1) shape.modes)) (map mode_of lane.modes) ≡ whole
    mode_added names operands next whole h put =
        mode_put names shape.modes (map mode_of lane.modes) k x (mode_of y) (nat_lt (k + 1) (length shapes)) operands next whole here there (mode_seen lane.modes x.number y (suits_number shape lane suit k x here there) read)
        (ap (λ (xs : List ModeShapeMade). nat_lt (k + 1) (length xs)) e) h put

-- ---- the lanes of a cell

pub lane_put : (names : Labels) (shapes : List LaneShapeMade) (lanes : List LaneMade) (k : ℕ) (x : LaneShapeMade) (y : LaneMade) (operands next whole : List Operand) → k < length shapes → x ≡ get_or shapes k x → k < length lanes → y ≡ get_or lanes k y
    → operands ++ lanes_operands names (map lane_shape_of (drop k shapes)) (map lane_of (drop k lanes)) ≡ whole → next ≡ operands ++ modes_operands names (lane_shape_of x).modes (lane_of y).modes
    → next ++ lanes_operands names (map lane_shape_of (drop (k + 1) shapes)) (map lane_of (drop (k + 1) lanes)) ≡ whole
lane_put names shapes lanes k x y operands next whole ls is lt it h put =
    let rest = map lane_shape_of (drop (k + 1) shapes) in
    some_less whole operands next (modes_operands names (lane_shape_of x).modes (lane_of y).modes) (lanes_operands names (map lane_shape_of (drop k shapes)) (map lane_of (drop k lanes))) (lanes_operands names rest (map lane_of (drop (k + 1) lanes))) h put
    (ap (λ xs. lanes_operands names (map lane_shape_of xs) (map lane_of (drop k lanes))) (next_item shapes k x ls is) ∙ ap (λ ys. lanes_operands names (lane_shape_of x ∷ rest) (map lane_of ys)) (next_item lanes k y lt it))

pub suits_many : (shapes : List LaneShapeMade) (lanes : List LaneMade) → SuitLanes (map lane_shape_of shapes) (map lane_of lanes) → length shapes ≡ length lanes
suits_many shapes lanes suit = sym (length-map shapes lane_shape_of) ∙ suit_many (map lane_shape_of shapes) (map lane_of lanes) suit ∙ length-map lanes lane_of

pub suits_lane : (shapes : List LaneShapeMade) (lanes : List LaneMade) → SuitLanes (map lane_shape_of shapes) (map lane_of lanes) → (k : ℕ) (x : LaneShapeMade) (y : LaneMade) → k < length shapes → x ≡ get_or shapes k x → k < length lanes → y ≡ get_or lanes k y
    → SuitsLane (lane_shape_of x) (lane_of y)
suits_lane shapes lanes suit k x y ls is lt it =
    suit_at (map lane_shape_of shapes) (map lane_of lanes) suit k (lane_shape_of x) (lane_of y) (read_mapped lane_shape_of shapes k x x ls is) (read_mapped lane_of lanes k y y lt it)

pub lane_there_at : (count : ℕ) (lanes : List LaneMade) → AllByRecursion (LaneThere count) (map lane_of lanes) → (k : ℕ) (y : LaneMade) → k < length lanes → y ≡ get_or lanes k y → LaneThere count (lane_of y)
lane_there_at count lanes each k y lt is = each_at (LaneThere count) (map lane_of lanes) k (lane_of y) each (read_mapped lane_of lanes k y y lt is)

outputs_more : (names : Labels) (q n : ℕ) → outputs_from names q (suc n) ≡ outputs_from names q n ++ names.value (q + n) ∷ []
outputs_more names q zero = let e : q ≡ q + 0 = omega arith in ap (λ i. names.value i ∷ []) e
outputs_more names q (suc n) = let e : q + 1 + n ≡ q + suc n = omega arith in ap (λ xs. names.value q ∷ xs) (outputs_more names (q + 1) n ∙ ap (λ i. outputs_from names (q + 1) n ++ names.value i ∷ []) e)

pub output_put : (names : Labels) (q k : ℕ) (outputs next : List (List ℕ)) (name : List ℕ) → outputs ≡ outputs_from names q k → name ≡ names.value (q + k) → next ≡ outputs ++ name ∷ [] → next ≡ outputs_from names q (k + 1)
output_put names q k outputs next name h is put =
    put ∙ ap (λ xs. xs ++ name ∷ []) h ∙ ap (λ x. outputs_from names q k ++ x ∷ []) is ∙ sym (outputs_more names q k) ∙ ap (outputs_from names q) (one_more k)

-- ---- the whole

abbrev pub instance_with : List ℕ → ℕ → List Operand → List (List ℕ) → Instance
instance_with name kind inputs outputs = record { name = name; kind = kind; inputs = inputs; outputs = outputs }

pub instance_made : (program : Program) (counter : List ℕ) (cell kind : ℕ) (own other : CellLanes) (shape : List LaneShapeMade) (name : List ℕ) (inputs : List Operand) (outputs : List (List ℕ)) → slice_get program.cells cell ≡ Some own → slice_get program.cells cell ≡ Some other
    → name ≡ instance_name cell → inputs ≡ cell_operands (labels program) counter (map lane_shape_of shape) (lanes_of program own) → outputs ≡ outputs_from (labels program) own.first (length shape)
    → instance_with name kind inputs outputs ≡ instance_by (labels program) counter cell kind other.first (map lane_shape_of shape) (lanes_of program other)
instance_made program counter cell kind own other shape name inputs outputs is_own is_other is_name is_inputs is_outputs =
    let N = labels program in
    let same : own ≡ other = some_is own other (sym is_own ∙ is_other) in
    subst (λ (o : CellLanes). instance_with name kind inputs outputs ≡ instance_by N counter cell kind o.first (map lane_shape_of shape) (lanes_of program o)) same
    (ap (λ n. instance_with n kind inputs outputs) is_name ∙ ap (λ xs. instance_with (instance_name cell) kind xs outputs) is_inputs
    ∙ ap (instance_with (instance_name cell) kind (cell_operands N counter (map lane_shape_of shape) (lanes_of program own))) (is_outputs ∙ ap (outputs_from N own.first) (sym (length-map shape lane_shape_of))))
