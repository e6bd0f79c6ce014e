-- Each wire that a lane of a kind builds is of one sort in the flat module: an operator, a comparison without the counter, or a choice by it.
use Rattle.std.proofs.Common.{◌≡◌, ℕ, zero, suc, ◌+◌, ◌-◌, ◌<◌, List, [], ◌∷◌, ◌++◌, length, refl, sym, subst, arith, inl, inr, Bool, true, false, if◌then◌else◌}
use Rattle.std.specs.Prelude.{Contains, nat_lt, nat_eq}
use Rattle.std.specs.List.{AllByRecursion}
use Rattle.av_base.specs.declared.width.Width.{Width}
use Rattle.av_base.proofs.Lists.{each_append}
use Rattle.av_tree.specs.declared.sign.Sign.{Sign}
use Rattle.av_tree.specs.declared.sign.Sign.TheVariants as sign
use Rattle.av_tree.specs.declared.relation.Relation.{Relation}
use Rattle.av_tree.specs.declared.relation.Relation.TheVariants as relation
use Rattle.av_flat.specs.Trees.{Tree, reference, constant, binary, choice, pick}
use Rattle.av_net.specs.declared.operation.Symbol.{Symbol}
use Rattle.av_net.specs.declared.operation.Symbol.TheVariants.{Add, Sub, Mul, And, Or, Equal, Unequal, Less, LessEqual, Greater, GreaterEqual}
use Rattle.av_net.specs.declared.operation.Operand.{Operand}
use Rattle.av_net.specs.declared.operation.Operand.TheVariants.{Name, Literal}
use Rattle.av_net.specs.declared.operation.Operation.{Operation}
use Rattle.av_net.specs.declared.operation.Operation.TheVariants.{Plain, Binary, Signed, Choose, Part, Widen}
use Rattle.av_net.specs.declared.netlist.Drive.{Drive}
use Rattle.av_net.specs.Flat.{part_name, part_operand, part_operation, part_drive}
use Rattle.av_kinds.specs.declared.gates.LaneGate.{LaneGate}
use Rattle.av_kinds.specs.declared.choice.Guard.{Guard}
use Rattle.av_kinds.specs.declared.choice.Guard.TheVariants.{UpTo, Within}
use Rattle.av_kinds.specs.declared.choice.Arm.{Arm}
use Rattle.av_kinds.specs.declared.choice.Tap.{Tap}
use Rattle.av_kinds.specs.Programs.{site_count}
use Rattle.av_kinds.specs.Names.{Naming}
use Rattle.av_kinds.specs.Tops.{one_bit}
use Rattle.av_kinds.specs.Sorts as sorts
use Rattle.av_kinds.specs.Sorts.{Sort, plus, minus, times, test, rest, IsCounted, NamesCounter, IsControl, compared, IsOfSort, adds, subtracts, multiplies, compares, compares_signed, counts, joins, chooses, copies, selects_bits, widens}
use Rattle.av_kinds.specs.inner.Gates.{gate, Built, built, Named, named_by, named}
use Rattle.av_kinds.specs.inner.Trees.{joined, comparison, tree_built}
use Rattle.av_kinds.specs.inner.Choices.{guard_built, either_built, options_built, tap_built, fitting, fit_built}
use Rattle.av_kinds.specs.inner.Cells.{Datapath, GuardedDatapath, LaneDatapaths, Taken, taps_built, operand_at, over_taps, place_built, piece_built, datapath_built, options_of, mode_built, modes_built, datapaths_built}

-- ---- the sort of an operation

abbrev pub symbol_sort : Symbol → Sort
symbol_sort Add = plus
symbol_sort Sub = minus
symbol_sort Mul = times
symbol_sort Equal = test
symbol_sort Unequal = test
symbol_sort _ = rest

abbrev pub sort_in : Operation → Sort
sort_in (Plain a) = rest
sort_in (Binary a s b) = symbol_sort s
sort_in (Signed a s b) = test
sort_in (Choose c a b) = rest
sort_in (Part x high low) = rest
sort_in (Widen x by) = rest

-- an instance keeps it
pub same_sort : (u : List ℕ) (o : Operation) → sort_in (part_operation u o) ≡ sort_in o
same_sort u (Plain a) = refl
same_sort u (Binary a s b) = refl
same_sort u (Signed a s b) = refl
same_sort u (Choose c a b) = refl
same_sort u (Part x high low) = refl
same_sort u (Widen x by) = refl

-- ---- what an operation of the instance u may read, by its sort

module _ (counter : List ℕ) (D : List Drive) (u : List ℕ) where
  abbrev pub IsFree : Operand → Type 0
  IsFree a = IsCounted counter D (part_operand u a) → ⊥

  abbrev pub NamesCount : Operand → Operand → Type 0
  NamesCount a b = NamesCounter counter D (part_operand u a) (part_operand u b)

  -- both are names of choices by the counter
  abbrev AreControls : Operand → Operand → Type 0
  AreControls a b = (x : List ℕ) × (y : List ℕ) × (a ≡ Name x) × (b ≡ Name y) × IsControl counter D (part_name u x) × IsControl counter D (part_name u y)

  abbrev pub IsSortedSymbol : Operand → Symbol → Operand → Type 0
  IsSortedSymbol a Add b = Unit {0}
  IsSortedSymbol a Sub b = Unit {0}
  IsSortedSymbol a Mul b = Unit {0}
  IsSortedSymbol a And b = AreControls a b
  IsSortedSymbol a Or b = AreControls a b
  IsSortedSymbol a Equal b = IsFree a × IsFree b
  IsSortedSymbol a Unequal b = IsFree a × IsFree b
  IsSortedSymbol a Less b = NamesCount a b
  IsSortedSymbol a LessEqual b = NamesCount a b
  IsSortedSymbol a Greater b = NamesCount a b
  IsSortedSymbol a GreaterEqual b = NamesCount a b

  abbrev pub IsSorted : Operation → Type 0
  IsSorted (Plain a) = IsFree a
  IsSorted (Binary a s b) = IsSortedSymbol a s b
  IsSorted (Signed a s b) = IsFree a × IsFree b
  IsSorted (Choose c a b) = Unit {0}
  IsSorted (Part x high low) = Unit {0}
  IsSorted (Widen x by) = Unit {0}

  no_count : (a b : Operand) → IsFree a → IsFree b → NamesCount a b → ⊥
  no_count a b p q (inl e) = p e
  no_count a b p q (inr e) = q e

  joined_controls : (s : Symbol) (a b : Operand) → sorts.IsJoin s → AreControls a b → IsOfSort counter D (part_operation u (Binary a s b)) rest
  joined_controls s a b join (x, y, e, f, cx, cy) =
      subst (λ (p : Operand). IsOfSort counter D (part_operation u (Binary p s b)) rest) (sym e) (subst (λ (q : Operand). IsOfSort counter D (part_operation u (Binary (Name x) s q)) rest) (sym f) (joins join cx cy))

  pub is_sort : (o : Operation) → IsSorted o → IsOfSort counter D (part_operation u o) (sort_in o)
  is_sort (Plain a) g = copies
  is_sort (Binary a Add b) g = adds
  is_sort (Binary a Sub b) g = subtracts
  is_sort (Binary a Mul b) g = multiplies
  is_sort (Binary a And b) g = joined_controls And a b sorts.both g
  is_sort (Binary a Or b) g = joined_controls Or a b sorts.either g
  is_sort (Binary a Equal b) g = compares sorts.equal (no_count a b g.0 g.1)
  is_sort (Binary a Unequal b) g = compares sorts.unequal (no_count a b g.0 g.1)
  is_sort (Binary a Less b) g = counts sorts.less g
  is_sort (Binary a LessEqual b) g = counts sorts.less_equal g
  is_sort (Binary a Greater b) g = counts sorts.greater g
  is_sort (Binary a GreaterEqual b) g = counts sorts.greater_equal g
  is_sort (Signed a s b) g = compares_signed (no_count a b g.0 g.1)
  is_sort (Choose c a b) g = chooses
  is_sort (Part x high low) g = selects_bits
  is_sort (Widen x by) g = widens

  -- ---- wires

  abbrev pub AreSorted : List LaneGate → Type 0
  AreSorted gates = AllByRecursion (λ (g : LaneGate). IsSorted g.operation) gates

  pub record IsBuilt (b : Built) : Type 0 where
    pub gates : AreSorted b.gates
    pub root : IsSorted b.root

  pub record IsNamed (b : Named) : Type 0 where
    pub gates : AreSorted b.gates
    pub operand : IsFree b.operand

  -- their drives stand among those of the module
  abbrev pub Among : Naming → ℕ → List LaneGate → Type 0
  Among name n [] = Unit {0}
  Among name n (g ∷ gates) = Contains D (part_drive u (record { target = name n; operation = g.operation })) × Among name (n + 1) gates

  among_front : (name : Naming) (n : ℕ) (gates more : List LaneGate) → Among name n (gates ++ more) → Among name n gates
  among_front name n [] more h = tt
  among_front name n (g ∷ gates) more h = (h.0, among_front name (n + 1) gates more h.1)

  among_back : (name : Naming) (n m : ℕ) (gates more : List LaneGate) → n + length gates ≡ m → Among name n (gates ++ more) → Among name m more
  among_back name n m [] more e h = let f : n ≡ m = omega arith in subst (λ i. Among name i more) f h
  among_back name n m (g ∷ gates) more e h = among_back name (n + 1) m gates more (omega arith) h.1

  -- the wires below a root that gets one of its own
  among_named : (name : Naming) (n : ℕ) (w : Width) (gates : List LaneGate) (root : Operation) → Among name n (named_by name n w gates root).gates → Among name n gates
  among_named name n w gates (Plain a) h = h
  among_named name n w gates (Binary a s b) h = among_front name n gates (gate w (Binary a s b) ∷ []) h
  among_named name n w gates (Signed a s b) h = among_front name n gates (gate w (Signed a s b) ∷ []) h
  among_named name n w gates (Choose c a b) h = among_front name n gates (gate w (Choose c a b) ∷ []) h
  among_named name n w gates (Part x high low) h = among_front name n gates (gate w (Part x high low) ∷ []) h
  among_named name n w gates (Widen x by) h = among_front name n gates (gate w (Widen x by) ∷ []) h

  literal_free : (w : Width) (n : ℕ) → IsFree (Literal w n)
  literal_free w n h = h

  -- what a tap ends in is free, and it has no arm where the counter is not tested
  pub record IsFreeTap (Tested : Type 0) (tap : Tap) : Type 0 where
    pub otherwise : IsFree tap.otherwise
    pub arms : 0 < length tap.arms → Tested

  abbrev pub IsFreePath : Type 0 → Datapath → Type 0
  IsFreePath Tested datapath = AllByRecursion (IsFreeTap Tested) datapath.taps

  -- ---- what is built: wires are free, and the operand c is the counter where it is tested at all

  module _ (name : Naming) (free : (i : ℕ) → IsFree (Name (name i))) (c : Operand) (Tested : Type 0) (is_count : Tested → IsCounted counter D (part_operand u c)) where
    join : (xs ys : List LaneGate) → AreSorted xs → AreSorted ys → AreSorted (xs ++ ys)
    join xs ys p q = each_append (λ (g : LaneGate). IsSorted g.operation) xs ys p q

    last_too : (xs : List LaneGate) (w : Width) (o : Operation) → AreSorted xs → IsSorted o → AreSorted (xs ++ gate w o ∷ [])
    last_too xs w o p q = join xs (gate w o ∷ []) p (q, tt)

    named_sorted : (n : ℕ) (w : Width) (gates : List LaneGate) (root : Operation) → IsBuilt (built gates root) → IsNamed (named_by name n w gates root)
    named_sorted n w gates (Plain a) h = record { gates = h.gates; operand = h.root }
    named_sorted n w gates (Binary a s b) h = record { gates = last_too gates w (Binary a s b) h.gates h.root; operand = free (n + length gates) }
    named_sorted n w gates (Signed a s b) h = record { gates = last_too gates w (Signed a s b) h.gates h.root; operand = free (n + length gates) }
    named_sorted n w gates (Choose d a b) h = record { gates = last_too gates w (Choose d a b) h.gates h.root; operand = free (n + length gates) }
    named_sorted n w gates (Part x high low) h = record { gates = last_too gates w (Part x high low) h.gates h.root; operand = free (n + length gates) }
    named_sorted n w gates (Widen x by) h = record { gates = last_too gates w (Widen x by) h.gates h.root; operand = free (n + length gates) }

    joined_sorted : (n : ℕ) (g : Sign) (gates : List LaneGate) (a b : Operand) → AreSorted gates → IsFree a → IsFree b → IsBuilt (joined name n g gates a b)
    joined_sorted n sign.Add gates a b h p q = record { gates = h; root = tt }
    joined_sorted n sign.Sub gates a b h p q = record { gates = h; root = tt }
    joined_sorted n sign.Mul gates a b h p q = record { gates = h; root = tt }
    joined_sorted n sign.Min gates a b h p q = record { gates = last_too gates one_bit (Signed b Less a) h (q, p); root = tt }
    joined_sorted n sign.Max gates a b h p q = record { gates = last_too gates one_bit (Signed a Less b) h (p, q); root = tt }

    comparison_sorted : (r : Relation) (a b : Operand) → IsFree a → IsFree b → IsSorted (comparison r a b)
    comparison_sorted relation.Less a b p q = (p, q)
    comparison_sorted relation.LessEqual a b p q = (p, q)
    comparison_sorted relation.Greater a b p q = (p, q)
    comparison_sorted relation.GreaterEqual a b p q = (p, q)
    comparison_sorted relation.Equal a b p q = (p, q)
    comparison_sorted relation.Unequal a b p q = (p, q)

    tree_sorted : (w : Width) (taps : ℕ → Operand) → ((s : ℕ) → IsFree (taps s)) → (n s : ℕ) (t : Tree) → IsBuilt (tree_built name w taps n s t)
    tree_sorted w taps fine n s (reference place m) = record { gates = tt; root = fine s }
    tree_sorted w taps fine n s (constant x) = record { gates = tt; root = literal_free w x }
    tree_sorted w taps fine n s (binary g l r) =
        let ta = tree_built name w taps n s l in
        let a = named name n w ta in
        let m = n + length a.gates in
        let tb = tree_built name w taps m (s + site_count l) r in
        let b = named name m w tb in
        let ga = named_sorted n w ta.gates ta.root (tree_sorted w taps fine n s l) in
        let gb = named_sorted m w tb.gates tb.root (tree_sorted w taps fine m (s + site_count l) r) in
        joined_sorted n g (a.gates ++ b.gates) a.operand b.operand (join a.gates b.gates ga.gates gb.gates) ga.operand gb.operand
    tree_sorted w taps fine n s (choice l r m x y) =
        let ta = tree_built name w taps n s l in
        let a = named name n w ta in
        let nb = n + length a.gates in
        let sb = s + site_count l in
        let tb = tree_built name w taps nb sb m in
        let b = named name nb w tb in
        let nx = nb + length b.gates in
        let sx = sb + site_count m in
        let td = tree_built name w taps nx sx x in
        let d = named name nx w td in
        let ny = nx + length d.gates in
        let sy = sx + site_count x in
        let te = tree_built name w taps ny sy y in
        let e = named name ny w te in
        let ga = named_sorted n w ta.gates ta.root (tree_sorted w taps fine n s l) in
        let gb = named_sorted nb w tb.gates tb.root (tree_sorted w taps fine nb sb m) in
        let gd = named_sorted nx w td.gates td.root (tree_sorted w taps fine nx sx x) in
        let ge = named_sorted ny w te.gates te.root (tree_sorted w taps fine ny sy y) in
        let all = join a.gates (b.gates ++ (d.gates ++ e.gates)) ga.gates (join b.gates (d.gates ++ e.gates) gb.gates (join d.gates e.gates gd.gates ge.gates)) in
        record {
          gates = last_too (a.gates ++ (b.gates ++ (d.gates ++ e.gates))) one_bit (comparison r a.operand b.operand) all (comparison_sorted r a.operand b.operand ga.operand gb.operand);
          root = tt;
        }
    tree_sorted w taps fine n s (pick place choices x) = record { gates = tt; root = fine s }
    tree_sorted w taps fine n s _ = record { gates = tt; root = literal_free w 0 }

    -- ---- choices by the counter

    guard_sorted : Tested → (n : ℕ) (guard : Guard) → Among name n (guard_built name n c guard).gates → IsBuilt (guard_built name n c guard)
    guard_sorted tested n (UpTo last) h = record { gates = tt; root = inl (is_count tested) }
    guard_sorted tested n (Within first last) h = record {
      gates = (inl (is_count tested), (inl (is_count tested), tt));
      root = (
        name n,
        name (n + 1),
        refl,
        refl,
        compared (part_drive u (record { target = name n; operation = Binary c GreaterEqual first })) (part_operand u c) GreaterEqual (part_operand u first) h.0 sorts.greater_equal (inl (is_count tested)) refl,
        compared (part_drive u (record { target = name (n + 1); operation = Binary c LessEqual last })) (part_operand u c) LessEqual (part_operand u last) h.1.0 sorts.less_equal (inl (is_count tested)) refl,
      );
    }

    either_sorted : Tested → (n : ℕ) (guard : Guard) (first second : Named) → AreSorted first.gates → AreSorted second.gates → Among name n (either_built name n c guard first second).gates → IsBuilt (either_built name n c guard first second)
    either_sorted tested n guard first second p q h =
        let m = n + length second.gates + length first.gates in
        let built_test = guard_built name m c guard in
        let t = named name m one_bit built_test in
        let later = among_back name n (n + length second.gates) second.gates (first.gates ++ t.gates) refl h in
        let last = among_back name (n + length second.gates) m first.gates t.gates refl later in
        let good = named_sorted m one_bit built_test.gates built_test.root (guard_sorted tested m guard (among_named name m one_bit built_test.gates built_test.root last)) in
        record { gates = join second.gates (first.gates ++ t.gates) q (join first.gates t.gates p good.gates); root = tt }

    options_sorted : (w : Width) (n : ℕ) (otherwise : Operand) (options : List Arm) → (0 < length options → Tested) → IsFree otherwise → Among name n (options_built name w c n otherwise options).gates → IsBuilt (options_built name w c n otherwise options)
    options_sorted w n otherwise [] tested fine h = record { gates = tt; root = fine }
    options_sorted w n otherwise (o ∷ options) tested fine h =
        let now = tested (omega arith) in
        let rest_of = options_built name w c n otherwise options in
        let second = named name n w rest_of in
        let here = among_front name n second.gates _ h in
        let later = named_sorted n w rest_of.gates rest_of.root (options_sorted w n otherwise options (λ lt. now) fine (among_named name n w rest_of.gates rest_of.root here)) in
        either_sorted now n o.guard (record { gates = []; operand = o.operand }) second tt later.gates h

    -- ---- places

    tap_sorted : (n : ℕ) (tap : Tap) → IsFreeTap Tested tap → Among name n (tap_built name c n tap).gates → IsBuilt (tap_built name c n tap)
    tap_sorted n tap fine h = options_sorted tap.width n tap.otherwise tap.arms fine.arms fine.otherwise h

    fitting_sorted : (from to : ℕ) (a : Operand) → IsSorted (fitting from to a)
    fitting_sorted from to (Name x) = by_case (nat_lt from to)
      where
        by_case : (wider : Bool) → IsSorted (if wider then Widen x (to - from) else Part x (to - 1) 0)
        by_case true = tt
        by_case false = tt
    fitting_sorted from to (Literal width value) = literal_free width value

    fit_sorted : (w : Width) (n : ℕ) (tap : Tap) → IsFreeTap Tested tap → Among name n (fit_built name w c n tap).gates → IsBuilt (fit_built name w c n tap)
    fit_sorted w n tap fine h = by_case (nat_eq tap.width.bits w.bits) h
      where
        b : Built
        b = tap_built name c n tap

        a : Named
        a = named name n tap.width b

        by_case : (same : Bool) → Among name n (if same then b else built a.gates (fitting tap.width.bits w.bits a.operand)).gates → IsBuilt (if same then b else built a.gates (fitting tap.width.bits w.bits a.operand))
        by_case true at = tap_sorted n tap fine at
        by_case false at = record {
          gates = (named_sorted n tap.width b.gates b.root (tap_sorted n tap fine (among_named name n tap.width b.gates b.root at))).gates;
          root = fitting_sorted tap.width.bits w.bits a.operand;
        }

    record IsTaken (w : Width) (taken : Taken) : Type 0 where
      gates : AreSorted taken.gates
      operands : (i : ℕ) → IsFree (operand_at w taken.operands i)

    taps_sorted : (w : Width) (n : ℕ) (taps : List Tap) → AllByRecursion (IsFreeTap Tested) taps → Among name n (taps_built name w c n taps).gates → IsTaken w (taps_built name w c n taps)
    taps_sorted w n [] fine h = record { gates = tt; operands = λ i. literal_free w 0 }
    taps_sorted w n (tap ∷ taps) fine h =
        let b = fit_built name w c n tap in
        let t = named name n w b in
        let m = n + length t.gates in
        let others = taps_built name w c m taps in
        let here = among_front name n t.gates others.gates h in
        let gt = named_sorted n w b.gates b.root (fit_sorted w n tap fine.0 (among_named name n w b.gates b.root here)) in
        let gr = taps_sorted w m taps fine.1 (among_back name n m t.gates others.gates refl h) in
        record { gates = join t.gates others.gates gt.gates gr.gates; operands = at t.operand others.operands gt.operand gr.operands }
      where
        at : (a : Operand) (operands : List Operand) → IsFree a → ((i : ℕ) → IsFree (operand_at w operands i)) → (i : ℕ) → IsFree (operand_at w (a ∷ operands) i)
        at a operands p q zero = p
        at a operands p q (suc i) = q i

    -- ---- works

    place_sorted : (w : Width) (n : ℕ) (taps : List Tap) → AllByRecursion (IsFreeTap Tested) taps → Among name n (place_built name w c n taps).gates → IsBuilt (place_built name w c n taps)
    place_sorted w n [] fine h = record { gates = tt; root = literal_free w 0 }
    place_sorted w n (tap ∷ taps) fine h = fit_sorted w n tap fine.0 h

    over_sorted : (w : Width) (n : ℕ) (taps : List Tap) (t : Tree) → AllByRecursion (IsFreeTap Tested) taps → Among name n (over_taps name w n (taps_built name w c n taps) t).gates → IsBuilt (over_taps name w n (taps_built name w c n taps) t)
    over_sorted w n taps t fine h =
        let taken = taps_built name w c n taps in
        let tree = tree_built name w (operand_at w taken.operands) (n + length taken.gates) 0 t in
        let gt = taps_sorted w n taps fine (among_front name n taken.gates tree.gates h) in
        let gb = tree_sorted w (operand_at w taken.operands) gt.operands (n + length taken.gates) 0 t in
        record { gates = join taken.gates tree.gates gt.gates gb.gates; root = gb.root }

    piece_sorted : (w : Width) (n : ℕ) (taps : List Tap) (t : Tree) → AllByRecursion (IsFreeTap Tested) taps → Among name n (piece_built name w c n taps t).gates → IsBuilt (piece_built name w c n taps t)
    piece_sorted w n taps (reference place m) fine h = place_sorted w n taps fine h
    piece_sorted w n taps (pick place choices x) fine h = place_sorted w n taps fine h
    piece_sorted w n taps t fine h = over_sorted w n taps t fine h

    -- ---- lanes

    mode_sorted : Tested → (w : Width) (n : ℕ) (guards : List Guard) (first second : Named) → IsNamed first → IsNamed second → Among name n (mode_built name w c n guards first second).gates → IsBuilt (mode_built name w c n guards first second)
    mode_sorted tested w n guards first second p q h =
        let m = n + length second.gates + length first.gates in
        let options = options_of first.operand guards in
        let root = options_built name w c m second.operand options in
        let later = among_back name n (n + length second.gates) second.gates (first.gates ++ root.gates) refl h in
        let last = among_back name (n + length second.gates) m first.gates root.gates refl later in
        let good = options_sorted w m second.operand options (λ lt. tested) q.operand last in
        record { gates = join second.gates (first.gates ++ root.gates) q.gates (join first.gates root.gates p.gates good.gates); root = good.root }

    modes_sorted : (w : Width) (n : ℕ) (otherwise : Datapath) (modes : List GuardedDatapath) → IsFreePath Tested otherwise → AllByRecursion (λ (t : GuardedDatapath). Tested × IsFreePath Tested t.datapath) modes → Among name n (modes_built name w c n otherwise modes).gates
        → IsBuilt (modes_built name w c n otherwise modes)
    modes_sorted w n otherwise [] last fine h = piece_sorted w n otherwise.taps otherwise.tree last h
    modes_sorted w n otherwise (t ∷ modes) last fine h =
        let others = modes_built name w c n otherwise modes in
        let second = named name n w others in
        let m = n + length second.gates in
        let own = datapath_built name w c m t.datapath in
        let first = named name m w own in
        let hs = among_front name n second.gates _ h in
        let hr = among_back name n m second.gates _ refl h in
        let hf = among_front name m first.gates _ hr in
        let gs = named_sorted n w others.gates others.root (modes_sorted w n otherwise modes last fine.1 (among_named name n w others.gates others.root hs)) in
        let gf = named_sorted m w own.gates own.root (piece_sorted w m t.datapath.taps t.datapath.tree fine.0.1 (among_named name m w own.gates own.root hf)) in
        mode_sorted fine.0.0 w n t.guards first second gf gs h

    -- The wires of a lane and its word are each of one sort.
    pub lane_sorted : (w : Width) (lane : LaneDatapaths) → IsFreePath Tested lane.otherwise → AllByRecursion (λ (t : GuardedDatapath). Tested × IsFreePath Tested t.datapath) lane.modes → Among name 0 (datapaths_built name w c 0 lane).gates
        → IsBuilt (datapaths_built name w c 0 lane)
    lane_sorted w lane last fine h = modes_sorted w 0 lane.otherwise lane.modes last fine h
