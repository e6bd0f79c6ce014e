-- The wires of choices and lanes obey the rules of the subset.
use Rattle.std.proofs.Common.{◌≡◌, ℕ, zero, suc, ◌+◌, ◌-◌, ◌<◌, ◌≤◌, List, [], ◌∷◌, ◌++◌, length, refl, sym, subst, arith, ◌∙◌, inr, Bool, true, false, if◌then◌else◌}
use Rattle.std.specs.Prelude.{nat_eq, nat_lt}
use Rattle.std.specs.List.{AllByRecursion}
use Rattle.std.proofs.lemmas.List.{length-append}
use Rattle.std.proofs.lemmas.Nat.{pow_pos}
use Rattle.av_base.specs.declared.width.Width.{Width}
use Rattle.av_base.proofs.Lists.{each_weaker}
use Rattle.av_net.specs.declared.operation.Symbol.TheVariants.{LessEqual, GreaterEqual}
use Rattle.av_net.specs.declared.operation.Operand.{Operand}
use Rattle.av_net.specs.declared.operation.Operand.TheVariants.{Name, Literal}
use Rattle.av_net.specs.declared.operation.Operation.TheVariants.{Binary, Part, Widen}
use Rattle.av_net.specs.Meaning.{Widths}
use Rattle.av_flat.specs.Trees.{Tree, reference, pick}
use Rattle.av_kinds.specs.declared.choice.Guard.{Guard}
use Rattle.av_kinds.specs.declared.choice.Guard.TheVariants.{UpTo, Within}
use Rattle.av_kinds.specs.declared.choice.Arm.{Arm}
use Rattle.av_kinds.specs.declared.choice.Tap.{Tap}
use Rattle.av_kinds.specs.declared.gates.LaneGate.{LaneGate}
use Rattle.av_kinds.specs.Programs.{FitsTree}
use Rattle.av_kinds.specs.Names.{Naming}
use Rattle.av_kinds.specs.Tops.{one_bit}
use Rattle.av_kinds.specs.inner.Gates.{Built, built, Named, named}
use Rattle.av_kinds.specs.inner.Trees.{tree_built}
use Rattle.av_kinds.specs.inner.Choices.{guard_built, either_built, options_built, tap_built, fitting, fit_built}
use Rattle.av_kinds.specs.inner.Cells.{Datapath, GuardedDatapath, LaneDatapaths, taps_built, operand_at, over_taps, place_built, piece_built, datapath_built, options_of, mode_built, modes_built, datapaths_built}
use Rattle.av_kinds.proofs.Fine.{Known, FineOperand, Fine, FineGates, Sized, FineBuilt, FineNamed, gates_append, sized_front, sized_back, later, named_fine, named_sized, plain_fine, tree_fine}
use Rattle.av_kinds.proofs.Choices.{IsNamed, tap_named}

-- known from the start
abbrev pub FineAt : Known → Widths → Naming → ℕ → Operand → Type 0
FineAt K widths name w a = FineOperand K widths name 0 w a

abbrev pub FineGuard : Known → Widths → Naming → Guard → Type 0
FineGuard K widths name (UpTo last) = FineAt K widths name 12 last
FineGuard K widths name (Within first last) = FineAt K widths name 12 first × FineAt K widths name 12 last

compare_fine : (K : Known) (widths : Widths) (name : Naming) (n : ℕ) (a b : Operand) → FineAt K widths name 12 a → FineAt K widths name 12 b → Fine K widths name n 1 (Binary a LessEqual b)
compare_fine K widths name n a b ha hb =
    let fa = later K widths name 0 n 12 a (omega arith) ha in
    let fb = later K widths name 0 n 12 b (omega arith) hb in
    record { known = (fa.known, fb.known); suits = (ha.width ∙ sym hb.width, refl); fits = (fa.fits, fb.fits); order = tt; bits = tt }

compare_fine_from : (K : Known) (widths : Widths) (name : Naming) (n : ℕ) (a b : Operand) → FineAt K widths name 12 a → FineAt K widths name 12 b → Fine K widths name n 1 (Binary a GreaterEqual b)
compare_fine_from K widths name n a b ha hb =
    let fa = later K widths name 0 n 12 a (omega arith) ha in
    let fb = later K widths name 0 n 12 b (omega arith) hb in
    record { known = (fa.known, fb.known); suits = (ha.width ∙ sym hb.width, refl); fits = (fa.fits, fb.fits); order = tt; bits = tt }

guard_fine : (K : Known) (widths : Widths) (name : Naming) (n : ℕ) (counter : Operand) (guard : Guard) → FineAt K widths name 12 counter → FineGuard K widths name guard
    → Sized widths name n (guard_built name n counter guard).gates → FineBuilt K widths name n 1 (guard_built name n counter guard)
guard_fine K widths name n counter (UpTo last) count fine sized = record { gates = tt; root = compare_fine K widths name (n + 0) counter last count fine }
guard_fine K widths name n counter (Within first last) count fine sized = record {
  gates = (compare_fine_from K widths name n counter first count fine.0, (compare_fine K widths name (n + 1) counter last count fine.1, tt));
  root = record { known = (inr (n, omega arith, refl), inr (n + 1, omega arith, refl)); suits = (sized.0 ∙ sym sized.1.0, sized.0); fits = (tt, tt); order = tt; bits = tt };
}

either_fine : (K : Known) (widths : Widths) (name : Naming) (n w : ℕ) (counter : Operand) (guard : Guard) (first second : Named) → FineAt K widths name 12 counter → FineGuard K widths name guard
    → FineNamed K widths name n w second → FineNamed K widths name (n + length second.gates) w first → Sized widths name n (either_built name n counter guard first second).gates
    → FineBuilt K widths name n w (either_built name n counter guard first second)
either_fine K widths name n w counter guard first second count fine hs hf sized =
    let k = n + length second.gates in
    let m = k + length first.gates in
    let test = guard_built name m counter guard in
    let t = named name m one_bit test in
    let rest = sized_back widths name n k second.gates (first.gates ++ t.gates) refl sized in
    let st = sized_back widths name k m first.gates t.gates refl rest in
    let ft = named_fine K widths name m one_bit test.gates test.root (guard_fine K widths name m counter guard count fine (named_sized widths name m one_bit test.gates test.root st)) st in
    let end = n + length (second.gates ++ (first.gates ++ t.gates)) in
    let is : end ≡ m + length t.gates = omega (arith, length-append second.gates (first.gates ++ t.gates), length-append first.gates t.gates) in
    let c = later K widths name (m + length t.gates) end 1 t.operand (omega (arith, is)) ft.operand in
    let a = later K widths name m end w first.operand (omega (arith, is)) hf.operand in
    let b = later K widths name k end w second.operand (omega (arith, is)) hs.operand in
    record {
      gates = gates_append K widths name n k second.gates (first.gates ++ t.gates) refl hs.gates (gates_append K widths name k m first.gates t.gates refl hf.gates ft.gates);
      root = record { known = (c.known, a.known, b.known); suits = (c.width, a.width, b.width); fits = (c.fits, a.fits, b.fits); order = tt; bits = tt };
    }

-- ---- taps

pub record FineArm (K : Known) (widths : Widths) (name : Naming) (w : ℕ) (o : Arm) : Type 0 where
  pub guard : FineGuard K widths name o.guard
  pub operand : FineAt K widths name w o.operand

pub record FineTap (K : Known) (widths : Widths) (name : Naming) (tap : Tap) : Type 0 where
  pub arms : AllByRecursion (FineArm K widths name tap.width.bits) tap.arms
  pub otherwise : FineAt K widths name tap.width.bits tap.otherwise
  pub is_named : IsNamed tap.otherwise

-- the second operand is known when the choice is written
options_fine_from : (K : Known) (widths : Widths) (name : Naming) (w : Width) (counter : Operand) → FineAt K widths name 12 counter → (n : ℕ) (otherwise : Operand) (options : List Arm) → FineOperand K widths name n w.bits otherwise
    → AllByRecursion (λ o. FineGuard K widths name o.guard × FineOperand K widths name n w.bits o.operand) options → Sized widths name n (options_built name w counter n otherwise options).gates
    → FineBuilt K widths name n w.bits (options_built name w counter n otherwise options)
options_fine_from K widths name w counter count n otherwise [] last fine sized = record { gates = tt; root = plain_fine K widths name (n + 0) w.bits otherwise (later K widths name n (n + 0) w.bits otherwise (omega arith) last) }
options_fine_from K widths name w counter count n otherwise (o ∷ options) last fine sized =
    let rest = options_built name w counter n otherwise options in
    let second = named name n w rest in
    let first : Named = record { gates = []; operand = o.operand } in
    let ss = sized_front widths name n second.gates _ sized in
    let hs = named_fine K widths name n w rest.gates rest.root (options_fine_from K widths name w counter count n otherwise options last fine.1 (named_sized widths name n w rest.gates rest.root ss)) ss in
    let k = n + length second.gates in
    let hf : FineNamed K widths name k w.bits first = record { gates = tt; operand = later K widths name n (k + 0) w.bits o.operand (omega arith) fine.0.1 } in
    either_fine K widths name n w.bits counter o.guard first second count fine.0.0 hs hf sized

tap_fine : (K : Known) (widths : Widths) (name : Naming) (counter : Operand) → FineAt K widths name 12 counter → (n : ℕ) (tap : Tap) → FineTap K widths name tap
    → Sized widths name n (tap_built name counter n tap).gates → FineBuilt K widths name n tap.width.bits (tap_built name counter n tap)
tap_fine K widths name counter count n tap fine sized =
    options_fine_from K widths name tap.width counter count n tap.otherwise tap.arms (later K widths name 0 n tap.width.bits tap.otherwise (omega arith) fine.otherwise)
    (each_weaker (FineArm K widths name tap.width.bits) (λ o. FineGuard K widths name o.guard × FineOperand K widths name n tap.width.bits o.operand) (λ o h. (h.guard, later K widths name 0 n tap.width.bits o.operand (omega arith) h.operand)) tap.arms fine.arms) sized

-- a word of another width
fitting_fine : (K : Known) (widths : Widths) (name : Naming) (n from to : ℕ) (a : Operand) → IsNamed a → 1 ≤ to → nat_eq from to ≡ false → FineOperand K widths name n from a → Fine K widths name n to (fitting from to a)
fitting_fine K widths name n from to (Literal width value) is some differs fine = absurd is
fitting_fine K widths name n from to (Name x) is some differs fine = by_case (nat_lt from to) refl
  where
    by_case : (test : Bool) → nat_lt from to ≡ test → Fine K widths name n to (if test then Widen x (to - from) else Part x (to - 1) 0)
    by_case true e = record { known = fine.known; suits = rw fine.width (grind arith); fits = tt; order = tt; bits = grind arith }
    by_case false e = record { known = fine.known; suits = (let f : to - 1 < from = grind arith in rw fine.width f, omega (arith, some)); fits = tt; order = tt; bits = tt }

fit_fine : (K : Known) (widths : Widths) (name : Naming) (w : Width) (counter : Operand) → FineAt K widths name 12 counter → (n : ℕ) (tap : Tap) → FineTap K widths name tap
    → Sized widths name n (fit_built name w counter n tap).gates → FineBuilt K widths name n w.bits (fit_built name w counter n tap)
fit_fine K widths name w counter count n tap fine = by_case (nat_eq tap.width.bits w.bits) refl
  where
    b : Built
    b = tap_built name counter n tap

    a : Named
    a = named name n tap.width b

    by_case : (same : Bool) → nat_eq tap.width.bits w.bits ≡ same
        → Sized widths name n (if same then b else built a.gates (fitting tap.width.bits w.bits a.operand)).gates
        → FineBuilt K widths name n w.bits (if same then b else built a.gates (fitting tap.width.bits w.bits a.operand))
    by_case true e sized = let same : tap.width.bits ≡ w.bits = grind arith in subst (λ k. FineBuilt K widths name n k b) same (tap_fine K widths name counter count n tap fine sized)
    by_case false e sized =
        let h = named_fine K widths name n tap.width b.gates b.root (tap_fine K widths name counter count n tap fine (named_sized widths name n tap.width b.gates b.root sized)) sized in
        record { gates = h.gates; root = fitting_fine K widths name (n + length a.gates) tap.width.bits w.bits a.operand (tap_named name n counter tap.width tap.otherwise tap.arms fine.is_named) w.least e h.operand }

pub record FineTaken (K : Known) (widths : Widths) (name : Naming) (w : Width) (n m : ℕ) (gates : List LaneGate) (operands : List Operand) : Type 0 where
  pub gates_fine : FineGates K widths name n gates
  pub operands_fine : (s : ℕ) → FineOperand K widths name m w.bits (operand_at w operands s)

taps_fine : (K : Known) (widths : Widths) (name : Naming) (w : Width) (counter : Operand) → FineAt K widths name 12 counter → (n : ℕ) (taps : List Tap) → AllByRecursion (FineTap K widths name) taps
    → Sized widths name n (taps_built name w counter n taps).gates → FineTaken K widths name w n (n + length (taps_built name w counter n taps).gates) (taps_built name w counter n taps).gates (taps_built name w counter n taps).operands
taps_fine K widths name w counter count n [] fine sized = record { gates_fine = tt; operands_fine = λ s. record { known = tt; width = refl; fits = pow_pos w.bits } }
taps_fine K widths name w counter count n (tap ∷ taps) fine sized =
    let b = fit_built name w counter n tap in
    let t = named name n w b in
    let m = n + length t.gates in
    let rest = taps_built name w counter m taps in
    let st = sized_front widths name n t.gates rest.gates sized in
    let sr = sized_back widths name n m t.gates rest.gates refl sized in
    let ht = named_fine K widths name n w b.gates b.root (fit_fine K widths name w counter count n tap fine.0 (named_sized widths name n w b.gates b.root st)) st in
    let hr = taps_fine K widths name w counter count m taps fine.1 sr in
    let end = n + length (t.gates ++ rest.gates) in
    let is : end ≡ m + length rest.gates = omega (arith, length-append t.gates rest.gates) in
    record {
      gates_fine = gates_append K widths name n m t.gates rest.gates refl ht.gates hr.gates_fine;
      operands_fine = λ s. at end t.operand rest.operands s (later K widths name m end w.bits t.operand (omega (arith, is)) ht.operand) (λ i. later K widths name (m + length rest.gates) end w.bits (operand_at w rest.operands i) (omega (arith, is)) (hr.operands_fine i));
    }
  where
    at : (end : ℕ) (a : Operand) (operands : List Operand) (s : ℕ) → FineOperand K widths name end w.bits a → ((i : ℕ) → FineOperand K widths name end w.bits (operand_at w operands i)) → FineOperand K widths name end w.bits (operand_at w (a ∷ operands) s)
    at end a operands zero h k = h
    at end a operands (suc s) h k = k s

-- ---- datapaths

pub record FineDatapath (K : Known) (widths : Widths) (name : Naming) (w : ℕ) (datapath : Datapath) : Type 0 where
  pub taps : AllByRecursion (FineTap K widths name) datapath.taps
  pub tree : FitsTree w datapath.tree

over_taps_fine : (K : Known) (widths : Widths) (name : Naming) (w : Width) (counter : Operand) → FineAt K widths name 12 counter → (n : ℕ) (taps : List Tap) (tree : Tree) → AllByRecursion (FineTap K widths name) taps → FitsTree w.bits tree
    → Sized widths name n (over_taps name w n (taps_built name w counter n taps) tree).gates → FineBuilt K widths name n w.bits (over_taps name w n (taps_built name w counter n taps) tree)
over_taps_fine K widths name w counter count n taps tree fine fits sized =
    let taken = taps_built name w counter n taps in
    let m = n + length taken.gates in
    let root = tree_built name w (operand_at w taken.operands) m 0 tree in
    let ht = taps_fine K widths name w counter count n taps fine (sized_front widths name n taken.gates root.gates sized) in
    let hb = tree_fine K widths name w (operand_at w taken.operands) m ht.operands_fine m 0 tree (omega arith) fits (sized_back widths name n m taken.gates root.gates refl sized) in
    let e : m + length root.gates ≡ n + length (taken.gates ++ root.gates) = omega (arith, length-append taken.gates root.gates) in
    record {
      gates = gates_append K widths name n m taken.gates root.gates refl ht.gates_fine hb.gates;
      root = subst (λ k. Fine K widths name k w.bits root.root) e hb.root;
    }

place_fine : (K : Known) (widths : Widths) (name : Naming) (w : Width) (counter : Operand) → FineAt K widths name 12 counter → (n : ℕ) (taps : List Tap) → AllByRecursion (FineTap K widths name) taps
    → Sized widths name n (place_built name w counter n taps).gates → FineBuilt K widths name n w.bits (place_built name w counter n taps)
place_fine K widths name w counter count n [] fine sized = record { gates = tt; root = plain_fine K widths name (n + 0) w.bits (Literal w 0) (record { known = tt; width = refl; fits = pow_pos w.bits }) }
place_fine K widths name w counter count n (tap ∷ taps) fine sized = fit_fine K widths name w counter count n tap fine.0 sized

piece_fine : (K : Known) (widths : Widths) (name : Naming) (w : Width) (counter : Operand) → FineAt K widths name 12 counter → (n : ℕ) (taps : List Tap) (tree : Tree) → AllByRecursion (FineTap K widths name) taps → FitsTree w.bits tree
    → Sized widths name n (piece_built name w counter n taps tree).gates → FineBuilt K widths name n w.bits (piece_built name w counter n taps tree)
piece_fine K widths name w counter count n taps (reference place m) fine fits sized = place_fine K widths name w counter count n taps fine sized
piece_fine K widths name w counter count n taps (pick place choices k) fine fits sized = place_fine K widths name w counter count n taps fine sized
piece_fine K widths name w counter count n taps tree fine fits sized = over_taps_fine K widths name w counter count n taps tree fine fits sized

datapath_fine : (K : Known) (widths : Widths) (name : Naming) (w : Width) (counter : Operand) → FineAt K widths name 12 counter → (n : ℕ) (datapath : Datapath) → FineDatapath K widths name w.bits datapath
    → Sized widths name n (datapath_built name w counter n datapath).gates → FineBuilt K widths name n w.bits (datapath_built name w counter n datapath)
datapath_fine K widths name w counter count n datapath fine sized = piece_fine K widths name w counter count n datapath.taps datapath.tree fine.taps fine.tree sized

pub record FineGuarded (K : Known) (widths : Widths) (name : Naming) (w : ℕ) (t : GuardedDatapath) : Type 0 where
  pub guards : AllByRecursion (FineGuard K widths name) t.guards
  pub datapath : FineDatapath K widths name w t.datapath

-- the same operand behind each guard
arms_fine : (K : Known) (widths : Widths) (name : Naming) (n w : ℕ) (operand : Operand) → FineOperand K widths name n w operand → (guards : List Guard) → AllByRecursion (FineGuard K widths name) guards
    → AllByRecursion (λ o. FineGuard K widths name o.guard × FineOperand K widths name n w o.operand) (options_of operand guards)
arms_fine K widths name n w operand fine [] h = tt
arms_fine K widths name n w operand fine (guard ∷ guards) h = ((h.0, fine), arms_fine K widths name n w operand fine guards h.1)

mode_fine : (K : Known) (widths : Widths) (name : Naming) (w : Width) (counter : Operand) → FineAt K widths name 12 counter → (n : ℕ) (guards : List Guard) (first second : Named) → AllByRecursion (FineGuard K widths name) guards
    → FineNamed K widths name n w.bits second → FineNamed K widths name (n + length second.gates) w.bits first → Sized widths name n (mode_built name w counter n guards first second).gates → FineBuilt K widths name n w.bits (mode_built name w counter n guards first second)
mode_fine K widths name w counter count n guards first second fine hs hf sized =
    let k = n + length second.gates in
    let m = k + length first.gates in
    let root = options_built name w counter m second.operand (options_of first.operand guards) in
    let rest = sized_back widths name n k second.gates (first.gates ++ root.gates) refl sized in
    let sr = sized_back widths name k m first.gates root.gates refl rest in
    let hr = options_fine_from K widths name w counter count m second.operand (options_of first.operand guards) (later K widths name k m w.bits second.operand (omega arith) hs.operand) (arms_fine K widths name m w.bits first.operand hf.operand guards fine) sr in
    let e : m + length root.gates ≡ n + length (second.gates ++ (first.gates ++ root.gates)) = omega (arith, length-append second.gates (first.gates ++ root.gates), length-append first.gates root.gates) in
    record {
      gates = gates_append K widths name n k second.gates (first.gates ++ root.gates) refl hs.gates (gates_append K widths name k m first.gates root.gates refl hf.gates hr.gates);
      root = subst (λ i. Fine K widths name i w.bits root.root) e hr.root;
    }

modes_fine : (K : Known) (widths : Widths) (name : Naming) (w : Width) (counter : Operand) → FineAt K widths name 12 counter → (n : ℕ) (otherwise : Datapath) (modes : List GuardedDatapath) → FineDatapath K widths name w.bits otherwise
    → AllByRecursion (FineGuarded K widths name w.bits) modes → Sized widths name n (modes_built name w counter n otherwise modes).gates → FineBuilt K widths name n w.bits (modes_built name w counter n otherwise modes)
modes_fine K widths name w counter count n otherwise [] last fine sized = datapath_fine K widths name w counter count n otherwise last sized
modes_fine K widths name w counter count n otherwise (t ∷ modes) last fine sized =
    let rest = modes_built name w counter n otherwise modes in
    let second = named name n w rest in
    let k = n + length second.gates in
    let own = datapath_built name w counter k t.datapath in
    let first = named name k w own in
    let ss = sized_front widths name n second.gates _ sized in
    let sr = sized_back widths name n k second.gates _ refl sized in
    let sf = sized_front widths name k first.gates _ sr in
    let hs = named_fine K widths name n w rest.gates rest.root (modes_fine K widths name w counter count n otherwise modes last fine.1 (named_sized widths name n w rest.gates rest.root ss)) ss in
    let hf = named_fine K widths name k w own.gates own.root (datapath_fine K widths name w counter count k t.datapath fine.0.datapath (named_sized widths name k w own.gates own.root sf)) sf in
    mode_fine K widths name w counter count n t.guards first second fine.0.guards hs hf sized

pub record FineLane (K : Known) (widths : Widths) (name : Naming) (w : ℕ) (lane : LaneDatapaths) : Type 0 where
  pub modes : AllByRecursion (FineGuarded K widths name w) lane.modes
  pub otherwise : FineDatapath K widths name w lane.otherwise

-- The wires of a lane obey the rules, whatever names its bounds, selections and ports have.
pub lane_fine : (K : Known) (widths : Widths) (name : Naming) (w : Width) (counter : Operand) (lane : LaneDatapaths) → FineAt K widths name 12 counter → FineLane K widths name w.bits lane
    → Sized widths name 0 (datapaths_built name w counter 0 lane).gates → FineBuilt K widths name 0 w.bits (datapaths_built name w counter 0 lane)
lane_fine K widths name w counter lane count fine sized = modes_fine K widths name w counter count 0 lane.otherwise lane.modes fine.otherwise fine.modes sized
