-- The wires of a lane have the word of the datapath whose mode it is.
use Rattle.std.proofs.Common.{◌≡◌, ℕ, zero, suc, ◌+◌, List, [], ◌∷◌, length, refl, subst, ◌∙◌, ap, Bool, true, false, if◌then◌else◌, ◌||◌}
use Rattle.std.specs.List.{list_any}
use Rattle.av_base.specs.declared.width.Width.{Width}
use Rattle.av_net.specs.declared.operation.Operand.{Operand}
use Rattle.av_net.specs.Meaning.{Words, Widths, word_of, operand_width}
use Rattle.av_flat.specs.Trees.{Tree, reference, pick}
use Rattle.av_kinds.specs.Names.{Naming}
use Rattle.av_kinds.specs.inner.Gates.{named}
use Rattle.av_kinds.specs.Histories.{value_by}
use Rattle.av_kinds.specs.declared.choice.Guard.{Guard}
use Rattle.av_kinds.specs.declared.choice.Tap.{Tap}
use Rattle.av_kinds.specs.inner.Choices.{holds_in, tapped_by, fit_built}
use Rattle.av_kinds.specs.inner.Cells.{Datapath, GuardedDatapath, LaneDatapaths, is_selected, datapath_by, brought, datapath_value, datapaths_value, taps_built, operand_at, over_taps, place_built, piece_built, datapath_built, options_of, mode_built, modes_built, datapaths_built}
use Rattle.av_kinds.proofs.Works.{Works, HasWord, Gives, works_front, works_back, named_front, named_has}
use Rattle.av_kinds.proofs.Trees.{Bring, tree_gives}
use Rattle.av_kinds.proofs.Choices.{FitsSpan, FitOptions, FitsTap, options_give, fit_gives}

abbrev pub FitTaps : Widths → ℕ → List Tap → Type 0
FitTaps widths cw [] = Unit {0}
FitTaps widths cw (tap ∷ taps) = FitsTap widths cw tap × FitTaps widths cw taps

abbrev pub FitGuards : Widths → ℕ → List Guard → Type 0
FitGuards widths cw [] = Unit {0}
FitGuards widths cw (guard ∷ guards) = FitsSpan widths cw guard × FitGuards widths cw guards

abbrev pub FitModes : Widths → ℕ → List GuardedDatapath → Type 0
FitModes widths cw [] = Unit {0}
FitModes widths cw (t ∷ modes) = FitGuards widths cw t.guards × FitTaps widths cw t.datapath.taps × FitModes widths cw modes

pub record FitDatapaths (widths : Widths) (cw : ℕ) (lane : LaneDatapaths) : Type 0 where
  pub modes : FitModes widths cw lane.modes
  pub otherwise : FitTaps widths cw lane.otherwise.taps

taps_have : (widths : Widths) (v : Words) (name : Naming) (w : Width) (cw c : ℕ) (counter : Operand) → HasWord widths v cw counter c → (n : ℕ) (taps : List Tap) → FitTaps widths cw taps
    → Works widths v name n (taps_built name w counter n taps).gates → (k : ℕ) → HasWord widths v w.bits (operand_at w (taps_built name w counter n taps).operands k) (brought w.bits v c taps k)
taps_have widths v name w cw c counter count n [] fits works k = record { word = refl; width = refl }
taps_have widths v name w cw c counter count n (tap ∷ taps) fits works zero =
    let b = fit_built name w counter n tap in
    let here = works_front widths v name n (named name n w b).gates _ works in
    named_has widths v name n w b.gates b.root _ (fit_gives widths v name w cw c counter count n tap fits.0 (named_front widths v name n w b.gates b.root here)) here
taps_have widths v name w cw c counter count n (tap ∷ taps) fits works (suc k) =
    let b = fit_built name w counter n tap in
    taps_have widths v name w cw c counter count (n + length (named name n w b).gates) taps fits.1 (works_back widths v name n (named name n w b).gates _ works) k

-- over the wires of its taps a tree has its value
over_taps_gives : (widths : Widths) (v : Words) (name : Naming) (w : Width) (cw c : ℕ) (counter : Operand) → HasWord widths v cw counter c → (n : ℕ) (taps : List Tap) (tree : Tree) → FitTaps widths cw taps
    → Works widths v name n (over_taps name w n (taps_built name w counter n taps) tree).gates
    → Gives widths v w.bits (over_taps name w n (taps_built name w counter n taps) tree).root (value_by w.bits (brought w.bits v c taps) 0 tree)
over_taps_gives widths v name w cw c counter count n taps tree fits works =
    let taken = taps_built name w counter n taps in
    let m = n + length taken.gates in
    let bring : Bring widths v w.bits (operand_at w taken.operands) (brought w.bits v c taps) = taps_have widths v name w cw c counter count n taps fits (works_front widths v name n taken.gates _ works) in
    tree_gives widths v name w (operand_at w taken.operands) (brought w.bits v c taps) bring m 0 tree (works_back widths v name n taken.gates _ works)

-- a place has the word that its first tap brings
place_gives : (widths : Widths) (v : Words) (name : Naming) (w : Width) (cw c : ℕ) (counter : Operand) → HasWord widths v cw counter c → (n : ℕ) (taps : List Tap) → FitTaps widths cw taps
    → Works widths v name n (place_built name w counter n taps).gates → Gives widths v w.bits (place_built name w counter n taps).root (brought w.bits v c taps 0)
place_gives widths v name w cw c counter count n [] fits works = record { result = refl; suits = refl }
place_gives widths v name w cw c counter count n (tap ∷ taps) fits works = fit_gives widths v name w cw c counter count n tap fits.0 works

piece_gives : (widths : Widths) (v : Words) (name : Naming) (w : Width) (cw c : ℕ) (counter : Operand) → HasWord widths v cw counter c → (n : ℕ) (taps : List Tap) (tree : Tree) → FitTaps widths cw taps
    → Works widths v name n (piece_built name w counter n taps tree).gates → Gives widths v w.bits (piece_built name w counter n taps tree).root (value_by w.bits (brought w.bits v c taps) 0 tree)
piece_gives widths v name w cw c counter count n taps (reference place m) fits works = place_gives widths v name w cw c counter count n taps fits works
piece_gives widths v name w cw c counter count n taps (pick place choices k) fits works = place_gives widths v name w cw c counter count n taps fits works
piece_gives widths v name w cw c counter count n taps tree fits works = over_taps_gives widths v name w cw c counter count n taps tree fits works

datapath_gives : (widths : Widths) (v : Words) (name : Naming) (w : Width) (cw c : ℕ) (counter : Operand) → HasWord widths v cw counter c → (n : ℕ) (datapath : Datapath) → FitTaps widths cw datapath.taps
    → Works widths v name n (datapath_built name w counter n datapath).gates → Gives widths v w.bits (datapath_built name w counter n datapath).root (datapath_value w.bits v c datapath)
datapath_gives widths v name w cw c counter count n datapath fits works = piece_gives widths v name w cw c counter count n datapath.taps datapath.tree fits works

-- ---- modes

fit_options : (widths : Widths) (w cw : ℕ) (operand : Operand) (guards : List Guard) → operand_width widths operand ≡ w → FitGuards widths cw guards → FitOptions widths w cw (options_of operand guards)
fit_options widths w cw operand [] e fits = tt
fit_options widths w cw operand (guard ∷ guards) e fits = (fits.0, e, fit_options widths w cw operand guards e fits.1)

-- the operand where one of the guards has the number
in_guards : (v : Words) (c : ℕ) (first second : Operand) (guards : List Guard) → tapped_by v c second (options_of first guards) ≡ (if list_any (holds_in v c) guards then first else second)
in_guards v c first second [] = refl
in_guards v c first second (guard ∷ guards) = rw (in_guards v c first second guards) (by_case (holds_in v c guard))
  where
    by_case : (test : Bool) → (if test then first else (if list_any (holds_in v c) guards then first else second)) ≡ (if test || list_any (holds_in v c) guards then first else second)
    by_case true = refl
    by_case false = refl

chosen_value : (v : Words) (w c : ℕ) (test : Bool) (first second : Operand) (a b : Datapath) → word_of v first ≡ datapath_value w v c a → word_of v second ≡ datapath_value w v c b
    → word_of v (if test then first else second) ≡ datapath_value w v c (if test then a else b)
chosen_value v w c true first second a b x y = x
chosen_value v w c false first second a b x y = y

modes_give : (widths : Widths) (v : Words) (name : Naming) (w : Width) (cw c : ℕ) (counter : Operand) → HasWord widths v cw counter c → (n : ℕ) (otherwise : Datapath) (modes : List GuardedDatapath)
    → FitTaps widths cw otherwise.taps → FitModes widths cw modes → Works widths v name n (modes_built name w counter n otherwise modes).gates
    → Gives widths v w.bits (modes_built name w counter n otherwise modes).root (datapath_value w.bits v c (datapath_by v c otherwise modes))
modes_give widths v name w cw c counter count n otherwise [] last fits works = datapath_gives widths v name w cw c counter count n otherwise last works
modes_give widths v name w cw c counter count n otherwise (t ∷ modes) last fits works =
    let rest = modes_built name w counter n otherwise modes in
    let second = named name n w rest in
    let m = n + length second.gates in
    let here = datapath_built name w counter m t.datapath in
    let first = named name m w here in
    let front : Works widths v name n second.gates = works_front widths v name n second.gates _ works in
    let after = works_back widths v name n second.gates _ works in
    let mine : Works widths v name m first.gates = works_front widths v name m first.gates _ after in
    let tests = works_back widths v name m first.gates _ after in
    let ih = modes_give widths v name w cw c counter count n otherwise modes last fits.2 (named_front widths v name n w rest.gates rest.root front) in
    let own = datapath_gives widths v name w cw c counter count m t.datapath fits.1 (named_front widths v name m w here.gates here.root mine) in
    let a = named_has widths v name m w here.gates here.root _ own mine in
    let b = named_has widths v name n w rest.gates rest.root _ ih front in
    let root = options_give widths v name w cw c counter count (m + length first.gates) second.operand (options_of first.operand t.guards) b.width (fit_options widths w.bits cw first.operand t.guards a.width fits.0) tests in
    subst (λ x. Gives widths v w.bits (mode_built name w counter n t.guards first second).root x)
    (ap (word_of v) (in_guards v c first.operand second.operand t.guards) ∙ chosen_value v w.bits c (is_selected v c t) first.operand second.operand t.datapath (datapath_by v c otherwise modes) a.word b.word)
    root

-- A lane: at each number of the counter the operation that is left gives the word of the datapath whose mode it is, over the words that its
-- taps bring, whatever words its ports have, those of bounds among them.
pub datapaths_gives : (widths : Widths) (v : Words) (name : Naming) (w : Width) (cw c : ℕ) (counter : Operand) (n : ℕ) (lane : LaneDatapaths) → HasWord widths v cw counter c → FitDatapaths widths cw lane
    → Works widths v name n (datapaths_built name w counter n lane).gates → Gives widths v w.bits (datapaths_built name w counter n lane).root (datapaths_value w.bits v c lane)
datapaths_gives widths v name w cw c counter n lane count fits works = modes_give widths v name w cw c counter count n lane.otherwise lane.modes fits.otherwise fits.modes works
