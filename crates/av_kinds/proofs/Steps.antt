-- Steps of writing selections and modes, put together.
use Rattle.std.proofs.Common.{◌≡◌, ℕ, suc, ◌+◌, ◌<◌, List, [], ◌∷◌, ◌++◌, length, map, drop, get_or, refl, sym, subst, arith, ◌∙◌, ap, append_assoc, true, false}
use Rattle.std.specs.Prelude.{nat_eq}
use Rattle.std.proofs.lemmas.List.{length-append, append-nil, drop_more}
use Rattle.av_base.specs.declared.width.Width.{Width}
use Rattle.av_base.proofs.Truths.{by_test}
use Rattle.av_base.specs.declared.word.Word.{Word}
use Rattle.av_affine.specs.declared.map.Map.{Map}
use Rattle.av_net.specs.declared.operation.Operand.{Operand}
use Rattle.av_net.specs.declared.operation.Operand.TheVariants.{Name}
use Rattle.av_net.specs.declared.operation.Operation.{Operation}
use Rattle.av_net.specs.declared.operation.Operation.TheVariants.{Plain, Binary, Signed, Choose, Part, Widen}
use Rattle.av_flat.specs.Trees.{Tree, view}
use Rattle.av_flat.specs.declared.tree.Choice.{Choice}
use Rattle.av_flat.specs.declared.tree.Tree.{Tree as TreeMade}
use Rattle.av_flat.specs.declared.tree.Tree.TheVariants as made
use Rattle.av_kinds.specs.declared.choice.Guard.{Guard}
use Rattle.av_kinds.specs.declared.choice.Arm.{Arm}
use Rattle.av_kinds.specs.declared.choice.Tap.{Tap}
use Rattle.av_kinds.specs.declared.gates.LaneGate.{LaneGate}
use Rattle.av_kinds.specs.Names.{Naming}
use Rattle.av_kinds.specs.inner.Gates.{gate, Built, built, Named, named, named_by}
use Rattle.av_kinds.specs.Tops.{one_bit}
use Rattle.av_kinds.specs.inner.Trees.{tree_built}
use Rattle.av_kinds.specs.inner.Choices.{guard_built, either_built, options_built, tap_built, fitting, fit_built}
use Rattle.av_kinds.specs.inner.Cells as cells
use Rattle.av_kinds.specs.inner.Cells.{GuardedDatapath, Taken, taps_built, operand_at, over_taps, piece_built, datapath_built, options_of, mode_built, modes_built}
use Rattle.av_kinds.specs.inner.Added.{AddsNamed, AddsBuilt, AddsOperand, AddsTaken, choice_built, GuardedDatapathMade, as_guarded, as_datapath}

-- ---- a wire for the root

named_gates : (name : Naming) (w : Width) (old gates : List LaneGate) (root : Operation) → (named_by name 0 w (old ++ gates) root).gates ≡ old ++ (named_by name (length old) w gates root).gates
named_gates name w old gates (Plain a) = refl
named_gates name w old gates (Binary a s b) = append_assoc old gates (gate w (Binary a s b) ∷ [])
named_gates name w old gates (Signed a s b) = append_assoc old gates (gate w (Signed a s b) ∷ [])
named_gates name w old gates (Choose c a b) = append_assoc old gates (gate w (Choose c a b) ∷ [])
named_gates name w old gates (Part a high low) = append_assoc old gates (gate w (Part a high low) ∷ [])
named_gates name w old gates (Widen a by) = append_assoc old gates (gate w (Widen a by) ∷ [])

name_after : (name : Naming) (old gates : List LaneGate) → ◌≡◌ {A = Operand} (Name (name (0 + length (old ++ gates)))) (Name (name (length old + length gates)))
name_after name old gates = let e : 0 + length (old ++ gates) ≡ length old + length gates = omega (arith, length-append old gates) in ap (λ k. Name (name k)) e

named_operand : (name : Naming) (w : Width) (old gates : List LaneGate) (root : Operation) → (named_by name 0 w (old ++ gates) root).operand ≡ (named_by name (length old) w gates root).operand
named_operand name w old gates (Plain a) = refl
named_operand name w old gates (Binary a s b) = name_after name old gates
named_operand name w old gates (Signed a s b) = name_after name old gates
named_operand name w old gates (Choose c a b) = name_after name old gates
named_operand name w old gates (Part a high low) = name_after name old gates
named_operand name w old gates (Widen a by) = name_after name old gates

pub named_added : (name : Naming) (w : Width) (g0 g1 g2 : List LaneGate) (b : Built) (root : Operation) (a : Operand) → AddsBuilt g0 g1 b root → AddsNamed g2 (named_by name 0 w g1 root) a → AddsOperand name w g0 g2 b a
named_added name w g0 g1 g2 b root a h k =
    let e : named_by name 0 w g1 root ≡ named_by name 0 w (g0 ++ b.gates) b.root = ap (λ (gs : List LaneGate). named_by name 0 w gs root) h.gates_are ∙ ap (named_by name 0 w (g0 ++ b.gates)) h.root_is in
    record {
      gates_are = k.gates_are ∙ ap (λ (x : Named). x.gates) e ∙ named_gates name w g0 b.gates b.root;
      operand_is = k.operand_is ∙ ap (λ (x : Named). x.operand) e ∙ named_operand name w g0 b.gates b.root;
    }

-- ---- choices

three_parts : (o a b d : List LaneGate) → ((o ++ a) ++ b) ++ d ≡ o ++ (a ++ (b ++ d))
three_parts o a b d = simp append_assoc

-- the second's wires, the first's, and those of the test
either_added : (name : Naming) (counter : Operand) (g0 g1 g2 g3 : List LaneGate) (guard : Guard) (F S : Named) (first second : Operand) (root : Operation)
    → g1 ≡ g0 ++ S.gates → second ≡ S.operand → g2 ≡ g1 ++ F.gates → first ≡ F.operand
    → AddsBuilt g2 g3 (choice_built name (length g2) counter guard first second) root
    → AddsBuilt g0 g3 (either_built name (length g0) counter guard F S) root
either_added name counter g0 g1 g2 g3 guard F S first second root one second_is two first_is h =
    let many_one : length g1 ≡ length (g0 ++ S.gates) = ap length one in
    let many_two : length g2 ≡ length (g1 ++ F.gates) = ap length two in
    let at : length g2 ≡ length g0 + length S.gates + length F.gates = omega (arith, many_one, many_two, length-append g0 S.gates, length-append g1 F.gates) in
    let m = length g0 + length S.gates + length F.gates in
    let T : ℕ → Named = λ k. named name k one_bit (guard_built name k counter guard) in
    let e : T (length g2) ≡ T m = ap T at in
    record {
      gates_are = h.gates_are ∙ ap (λ (x : Named). g2 ++ x.gates) e ∙ ap (λ (gs : List LaneGate). gs ++ (T m).gates) (two ∙ ap (λ (gs : List LaneGate). gs ++ F.gates) one) ∙ three_parts g0 S.gates F.gates (T m).gates;
      root_is = h.root_is ∙ ap (λ (x : Named). Choose x.operand first second) e ∙ ap (λ (x : Operand). Choose (T m).operand x second) first_is ∙ ap (λ (x : Operand). Choose (T m).operand F.operand x) second_is;
    }

option_added : (name : Naming) (w : Width) (counter : Operand) (g0 g1 g2 g3 : List LaneGate) (otherwise : Operand) (o : Arm) (options : List Arm) (rest root : Operation) (first second : Operand)
    → AddsBuilt g0 g1 (options_built name w counter (length g0) otherwise options) rest → AddsNamed g2 (named_by name 0 w g1 rest) second
    → first ≡ o.operand → AddsBuilt g2 g3 (choice_built name (length g2) counter o.guard first second) root
    → AddsBuilt g0 g3 (options_built name w counter (length g0) otherwise (o ∷ options)) root
option_added name w counter g0 g1 g2 g3 otherwise o options rest root first second h k is c =
    let one = named_added name w g0 g1 g2 (options_built name w counter (length g0) otherwise options) rest second h k in
    either_added name counter g0 g2 g2 g3 o.guard (record { gates = []; operand = o.operand }) (named name (length g0) w (options_built name w counter (length g0) otherwise options)) first second root
    one.gates_are one.operand_is (sym (append-nil g2)) is c

-- what is left from one place on
pub rest_at : {X : Type 0} (xs : List X) (j k : ℕ) (d x : X) → j + 1 ≡ k → j < length xs → x ≡ get_or xs j d → drop j xs ≡ x ∷ drop k xs
rest_at xs j k d x at lt is = drop_more xs j d lt ∙ ap (λ y. y ∷ drop (j + 1) xs) (sym is) ∙ ap (λ i. x ∷ drop i xs) at

pub arm_added : (name : Naming) (w : Width) (counter : Operand) (g0 g1 g2 g3 : List LaneGate) (otherwise : Operand) (arms : List Arm) (j k : ℕ) (x : Arm) (rest root : Operation) (first second : Operand)
    → j + 1 ≡ k → j < length arms → x ≡ get_or arms j x
    → AddsBuilt g0 g1 (options_built name w counter (length g0) otherwise (drop k arms)) rest → AddsNamed g2 (named_by name 0 w g1 rest) second
    → first ≡ x.operand → AddsBuilt g2 g3 (choice_built name (length g2) counter x.guard first second) root
    → AddsBuilt g0 g3 (options_built name w counter (length g0) otherwise (drop j arms)) root
arm_added name w counter g0 g1 g2 g3 otherwise arms j k x rest root first second at lt is h n f c =
    subst (λ (xs : List Arm). AddsBuilt g0 g3 (options_built name w counter (length g0) otherwise xs) root) (sym (rest_at arms j k x x at lt is))
    (option_added name w counter g0 g1 g2 g3 otherwise x (drop k arms) rest root first second h n f c)

pub guard_added : (name : Naming) (w : Width) (counter : Operand) (g0 g1 g2 g3 : List LaneGate) (otherwise own : Operand) (guards : List Guard) (j k : ℕ) (x : Guard) (rest root : Operation) (first second : Operand)
    → j + 1 ≡ k → j < length guards → x ≡ get_or guards j x
    → AddsBuilt g0 g1 (options_built name w counter (length g0) otherwise (options_of own (drop k guards))) rest → AddsNamed g2 (named_by name 0 w g1 rest) second
    → first ≡ own → AddsBuilt g2 g3 (choice_built name (length g2) counter x first second) root
    → AddsBuilt g0 g3 (options_built name w counter (length g0) otherwise (options_of own (drop j guards))) root
guard_added name w counter g0 g1 g2 g3 otherwise own guards j k x rest root first second at lt is h n f c =
    subst (λ (xs : List Guard). AddsBuilt g0 g3 (options_built name w counter (length g0) otherwise (options_of own xs)) root) (sym (rest_at guards j k x x at lt is))
    (option_added name w counter g0 g1 g2 g3 otherwise (record { guard = x; operand = own }) (options_of own (drop k guards)) rest root first second h n f c)

-- ---- words of another width

pub not_same : (m n : ℕ) → (m ≡ n → ⊥) → nat_eq m n ≡ false
not_same m n differs = by_test (nat_eq m n) (λ t. absurd (differs (grind arith))) (λ f. f)

pub fit_added : (name : Naming) (w : Width) (counter : Operand) (g0 g1 g2 : List LaneGate) (tap : Tap) (root own : Operation) (a : Operand) → (tap.width.bits ≡ w.bits → ⊥)
    → AddsBuilt g0 g1 (tap_built name counter (length g0) tap) root → AddsNamed g2 (named_by name 0 tap.width g1 root) a → own ≡ fitting tap.width.bits w.bits a
    → AddsBuilt g0 g2 (fit_built name w counter (length g0) tap) own
fit_added name w counter g0 g1 g2 tap root own a differs h k is =
    let other : nat_eq tap.width.bits w.bits ≡ false = not_same tap.width.bits w.bits differs in
    let one = named_added name tap.width g0 g1 g2 (tap_built name counter (length g0) tap) root a h k in
    let b = named name (length g0) tap.width (tap_built name counter (length g0) tap) in
    let e : fit_built name w counter (length g0) tap ≡ built b.gates (fitting tap.width.bits w.bits b.operand) = rw other refl in
    record { gates_are = one.gates_are ∙ sym (ap (λ (x : Built). g0 ++ x.gates) e); root_is = is ∙ ap (fitting tap.width.bits w.bits) one.operand_is ∙ sym (ap (λ (x : Built). x.root) e) }

pub same_fit : (name : Naming) (w : Width) (counter : Operand) (g0 g1 : List LaneGate) (tap : Tap) (root : Operation) → nat_eq tap.width.bits w.bits ≡ true
    → AddsBuilt g0 g1 (tap_built name counter (length g0) tap) root → AddsBuilt g0 g1 (fit_built name w counter (length g0) tap) root
same_fit name w counter g0 g1 tap root same h = rw same h

-- ---- the places of a datapath, one after another

-- so far, and the rest
pub record AreTaken (name : Naming) (w : Width) (counter : Operand) (g0 gates : List LaneGate) (operands : List Operand) (all rest : List Tap) : Type 0 where
  pub gates_are : g0 ++ (taps_built name w counter (length g0) all).gates ≡ gates ++ (taps_built name w counter (length gates) rest).gates
  pub operands_are : (taps_built name w counter (length g0) all).operands ≡ operands ++ (taps_built name w counter (length gates) rest).operands

tap_added : (name : Naming) (w : Width) (counter : Operand) (g0 g1 g2 g3 : List LaneGate) (operands : List Operand) (all rest : List Tap) (tap : Tap) (root : Operation) (a : Operand)
    → AreTaken name w counter g0 g1 operands all (tap ∷ rest) → AddsBuilt g1 g2 (fit_built name w counter (length g1) tap) root → AddsNamed g3 (named_by name 0 w g2 root) a
    → AreTaken name w counter g0 g3 (operands ++ a ∷ []) all rest
tap_added name w counter g0 g1 g2 g3 operands all rest tap root a h k l =
    let one = named_added name w g1 g2 g3 (fit_built name w counter (length g1) tap) root a k l in
    let t = named name (length g1) w (fit_built name w counter (length g1) tap) in
    let many : length g3 ≡ length (g1 ++ t.gates) = ap length one.gates_are in
    let at : length g1 + length t.gates ≡ length g3 = omega (arith, many, length-append g1 t.gates) in
    let R : ℕ → Taken = λ n. taps_built name w counter n rest in
    let e : R (length g1 + length t.gates) ≡ R (length g3) = ap R at in
    record {
      gates_are = h.gates_are ∙ ap (λ (x : Taken). g1 ++ (t.gates ++ x.gates)) e ∙ sym (append_assoc g1 t.gates (R (length g3)).gates) ∙ ap (λ (gs : List LaneGate). gs ++ (R (length g3)).gates) (sym one.gates_are);
      operands_are = h.operands_are ∙ ap (λ (x : Taken). operands ++ t.operand ∷ x.operands) e ∙ ap (λ (x : Operand). operands ++ x ∷ (R (length g3)).operands) (sym one.operand_is) ∙ sym (append_assoc operands (a ∷ []) (R (length g3)).operands);
    }

pub site_added : (name : Naming) (w : Width) (counter : Operand) (g0 g1 g2 g3 : List LaneGate) (operands : List Operand) (taps : List Tap) (j : ℕ) (x : Tap) (root : Operation) (a : Operand)
    → j < length taps → x ≡ get_or taps j x → AreTaken name w counter g0 g1 operands taps (drop j taps)
    → AddsBuilt g1 g2 (fit_built name w counter (length g1) x) root → AddsNamed g3 (named_by name 0 w g2 root) a
    → (next : List Operand) → next ≡ operands ++ a ∷ [] → AreTaken name w counter g0 g3 next taps (drop (j + 1) taps)
site_added name w counter g0 g1 g2 g3 operands taps j x root a lt is h t n next next_is =
    let here = subst (λ (xs : List Tap). AreTaken name w counter g0 g1 operands taps xs) (rest_at taps j (j + 1) x x refl lt is) h in
    subst (λ (xs : List Operand). AreTaken name w counter g0 g3 xs taps (drop (j + 1) taps)) (sym next_is)
    (tap_added name w counter g0 g1 g2 g3 operands taps (drop (j + 1) taps) x root a here t n)

pub none_taken : (name : Naming) (w : Width) (counter : Operand) (g0 : List LaneGate) (operands : List Operand) (all : List Tap) → operands ≡ [] → AreTaken name w counter g0 g0 operands all all
none_taken name w counter g0 operands all is = record {
  gates_are = refl;
  operands_are = ap (λ (xs : List Operand). xs ++ (taps_built name w counter (length g0) all).operands) (sym is);
}

pub all_taken : (name : Naming) (w : Width) (counter : Operand) (g0 gates : List LaneGate) (operands : List Operand) (all : List Tap) → AreTaken name w counter g0 gates operands all [] → AddsTaken g0 gates (taps_built name w counter (length g0) all) operands
all_taken name w counter g0 gates operands all h = record {
  gates_are = sym (append-nil gates) ∙ sym h.gates_are;
  operands_are = sym (append-nil operands) ∙ sym h.operands_are;
}

pub taken_many : (name : Naming) (w : Width) (counter : Operand) (n : ℕ) (taps : List Tap) → length (taps_built name w counter n taps).operands ≡ length taps
taken_many name w counter n [] = refl
taken_many name w counter n (tap ∷ taps) = ap suc (taken_many name w counter (n + length (named name n w (fit_built name w counter n tap)).gates) taps)

-- a tree over them
pub tree_added : (name : Naming) (w : Width) (g0 g1 g2 : List LaneGate) (taken : Taken) (operands : List Operand) (tree : Tree) (root : Operation)
    → AddsTaken g0 g1 taken operands → AddsBuilt g1 g2 (tree_built name w (operand_at w operands) (length g1) 0 tree) root → AddsBuilt g0 g2 (over_taps name w (length g0) taken tree) root
tree_added name w g0 g1 g2 taken operands tree root h k =
    let many : length g1 ≡ length (g0 ++ taken.gates) = ap length h.gates_are in
    let at : length g1 ≡ length g0 + length taken.gates = omega (arith, many, length-append g0 taken.gates) in
    let R : List Operand → ℕ → Built = λ xs n. tree_built name w (operand_at w xs) n 0 tree in
    let e : R operands (length g1) ≡ R taken.operands (length g0 + length taken.gates) = ap (λ (xs : List Operand). R xs (length g1)) h.operands_are ∙ ap (R taken.operands) at in
    let r = R taken.operands (length g0 + length taken.gates) in
    record {
      gates_are = k.gates_are ∙ ap (λ (x : Built). g1 ++ x.gates) e ∙ ap (λ (gs : List LaneGate). gs ++ r.gates) h.gates_are ∙ append_assoc g0 taken.gates r.gates;
      root_is = k.root_is ∙ ap (λ (x : Built). x.root) e;
    }

-- a tree that is not one place stands over its places
pub piece_over : (name : Naming) (w : Width) (counter : Operand) (g0 gates : List LaneGate) (taps : List Tap) (tree : TreeMade) (root : Operation)
    → ((var : ℕ) (m : Map) → tree ≡ made.Ref var m → ⊥) → ((var : ℕ) (choices : List Choice) (n : Word) → tree ≡ made.Pick var choices n → ⊥)
    → AddsBuilt g0 gates (over_taps name w (length g0) (taps_built name w counter (length g0) taps) (view tree)) root → AddsBuilt g0 gates (piece_built name w counter (length g0) taps (view tree)) root
piece_over name w counter g0 gates taps (made.Ref var m) root a b h = absurd (a var m refl)
piece_over name w counter g0 gates taps (made.Const n) root a b h = h
piece_over name w counter g0 gates taps (made.Binary' g p l q r) root a b h = h
piece_over name w counter g0 gates taps (made.Choose' p l c q r s x t y) root a b h = h
piece_over name w counter g0 gates taps (made.Restrict' d p t) root a b h = h
piece_over name w counter g0 gates taps (made.Case' shape row) root a b h = h
piece_over name w counter g0 gates taps (made.Depend' m p t) root a b h = h
piece_over name w counter g0 gates taps (made.Reduce' o m p t z) root a b h = h
piece_over name w counter g0 gates taps (made.Pick var choices n) root a b h = absurd (b var choices n refl)

-- ---- modes

mode_added : (name : Naming) (w : Width) (counter : Operand) (g0 g1 g2 g3 g4 g5 : List LaneGate) (otherwise : cells.Datapath) (t : GuardedDatapath) (modes : List GuardedDatapath) (rest own root : Operation) (first second : Operand)
    → AddsBuilt g0 g1 (modes_built name w counter (length g0) otherwise modes) rest → AddsNamed g2 (named_by name 0 w g1 rest) second
    → AddsBuilt g2 g3 (datapath_built name w counter (length g2) t.datapath) own → AddsNamed g4 (named_by name 0 w g3 own) first
    → AddsBuilt g4 g5 (options_built name w counter (length g4) second (options_of first t.guards)) root
    → AddsBuilt g0 g5 (modes_built name w counter (length g0) otherwise (t ∷ modes)) root
mode_added name w counter g0 g1 g2 g3 g4 g5 otherwise t modes rest own root first second h k p q c =
    let S = named name (length g0) w (modes_built name w counter (length g0) otherwise modes) in
    let one = named_added name w g0 g1 g2 (modes_built name w counter (length g0) otherwise modes) rest second h k in
    let two = named_added name w g2 g3 g4 (datapath_built name w counter (length g2) t.datapath) own first p q in
    let many : length g2 ≡ length (g0 ++ S.gates) = ap length one.gates_are in
    let at : length g2 ≡ length g0 + length S.gates = omega (arith, many, length-append g0 S.gates) in
    let m = length g0 + length S.gates in
    let F : ℕ → Named = λ i. named name i w (datapath_built name w counter i t.datapath) in
    let e : F (length g2) ≡ F m = ap F at in
    let two_gates : g4 ≡ g2 ++ (F m).gates = two.gates_are ∙ ap (λ (x : Named). g2 ++ x.gates) e in
    let two_operand : first ≡ (F m).operand = two.operand_is ∙ ap (λ (x : Named). x.operand) e in
    let many_two : length g4 ≡ length (g2 ++ (F m).gates) = ap length two_gates in
    let here : length g4 ≡ m + length (F m).gates = omega (arith, at, many_two, length-append g2 (F m).gates) in
    let R : ℕ → Operand → Operand → Built = λ i x y. options_built name w counter i y (options_of x t.guards) in
    let f : R (length g4) first second ≡ R (m + length (F m).gates) (F m).operand S.operand =
    ap (λ i. R i first second) here ∙ ap (λ (x : Operand). R (m + length (F m).gates) x second) two_operand ∙ ap (R (m + length (F m).gates) (F m).operand) one.operand_is in
    let r = R (m + length (F m).gates) (F m).operand S.operand in
    record {
      gates_are = c.gates_are ∙ ap (λ (x : Built). g4 ++ x.gates) f ∙ ap (λ (gs : List LaneGate). gs ++ r.gates) (two_gates ∙ ap (λ (gs : List LaneGate). gs ++ (F m).gates) one.gates_are) ∙ three_parts g0 S.gates (F m).gates r.gates;
      root_is = c.root_is ∙ ap (λ (x : Built). x.root) f;
    }

pub shift_added : (name : Naming) (w : Width) (counter : Operand) (g0 g1 g2 g3 g4 g5 : List LaneGate) (otherwise : cells.Datapath) (modes : List GuardedDatapathMade) (j k : ℕ) (x : GuardedDatapathMade) (rest own root : Operation) (first second : Operand)
    → j + 1 ≡ k → j < length modes → x ≡ get_or modes j x
    → AddsBuilt g0 g1 (modes_built name w counter (length g0) otherwise (map as_guarded (drop k modes))) rest → AddsNamed g2 (named_by name 0 w g1 rest) second
    → AddsBuilt g2 g3 (datapath_built name w counter (length g2) (as_datapath x.datapath)) own → AddsNamed g4 (named_by name 0 w g3 own) first
    → AddsBuilt g4 g5 (options_built name w counter (length g4) second (options_of first x.guards)) root
    → AddsBuilt g0 g5 (modes_built name w counter (length g0) otherwise (map as_guarded (drop j modes))) root
shift_added name w counter g0 g1 g2 g3 g4 g5 otherwise modes j k x rest own root first second at lt is h n p q c =
    subst (λ (xs : List GuardedDatapathMade). AddsBuilt g0 g5 (modes_built name w counter (length g0) otherwise (map as_guarded xs)) root) (sym (rest_at modes j k x x at lt is))
    (mode_added name w counter g0 g1 g2 g3 g4 g5 otherwise (as_guarded x) (map as_guarded (drop k modes)) rest own root first second h n p q c)

-- a test on a wire, and the choice by it
pub test_added : (name : Naming) (counter : Operand) (g0 g1 g2 : List LaneGate) (guard : Guard) (test : Operation) (condition first second : Operand)
    → AddsBuilt g0 g1 (guard_built name (length g0) counter guard) test → AddsNamed g2 (named_by name 0 one_bit g1 test) condition
    → AddsBuilt g0 g2 (choice_built name (length g0) counter guard first second) (Choose condition first second)
test_added name counter g0 g1 g2 guard test condition first second h k =
    let one = named_added name one_bit g0 g1 g2 (guard_built name (length g0) counter guard) test condition h k in
    record { gates_are = one.gates_are; root_is = ap (λ (x : Operand). Choose x first second) one.operand_is }
