-- The wires of a cell obey the rules of the subset: each reads what is known or an earlier wire, with fitting widths.
use Rattle.std.proofs.Common.{◌≡◌, ℕ, ◌+◌, ◌<◌, ◌≤◌, List, [], ◌∷◌, ◌++◌, length, refl, sym, subst, arith, ◌∙◌, ap, inl, inr, ◌⊎◌}
use Rattle.std.proofs.lemmas.List.{length-append}
use Rattle.std.proofs.lemmas.Nat.{pow_pos}
use Rattle.av_base.specs.declared.width.Width.{Width}
use Rattle.av_tree.specs.declared.relation.Relation.{Relation}
use Rattle.av_tree.specs.declared.relation.Relation.TheVariants as relation
use Rattle.av_tree.specs.declared.sign.Sign.{Sign}
use Rattle.av_tree.specs.declared.sign.Sign.TheVariants as sign
use Rattle.av_net.specs.declared.operation.Symbol.{Symbol}
use Rattle.av_net.specs.declared.operation.Symbol.TheVariants.{Add, Sub, Mul, Equal, Unequal, Less, LessEqual, Greater, GreaterEqual}
use Rattle.av_net.specs.declared.operation.Operand.{Operand}
use Rattle.av_net.specs.declared.operation.Operand.TheVariants.{Name, Literal}
use Rattle.av_net.specs.declared.operation.Operation.{Operation}
use Rattle.av_net.specs.declared.operation.Operation.TheVariants.{Plain, Binary, Signed, Choose, Part, Widen}
use Rattle.av_net.specs.Meaning.{Widths, operand_width, EachOperand}
use Rattle.av_net.specs.Designs.{HasBits}
use Rattle.av_net.specs.Sound.{SuitsWidth, symbol_width, IsFitting, IsOrder, ComparesByOrder}
use Rattle.av_flat.specs.Trees.{Tree, reference, constant, binary, choice, pick}
use Rattle.av_kinds.specs.declared.gates.LaneGate.{LaneGate}
use Rattle.av_kinds.specs.Programs.{site_count, FitsTree}
use Rattle.av_kinds.specs.Names.{Naming}
use Rattle.av_kinds.specs.Tops.{one_bit}
use Rattle.av_kinds.specs.inner.Gates.{gate, Built, built, Named, named, named_by}
use Rattle.av_kinds.specs.inner.Trees.{chosen_by, joined, comparison, tree_built}

-- known names, by a fact
abbrev pub Known : Type 1
Known = List ℕ → Type 0

-- a known name, a wire with a number below n, or a literal
abbrev pub IsKnown : Known → Naming → ℕ → Operand → Type 0
IsKnown K name n (Name x) = K x ⊎ ((i : ℕ) × (i < n) × (x ≡ name i))
IsKnown K name n (Literal width value) = Unit {0}

pub record FineOperand (K : Known) (widths : Widths) (name : Naming) (n w : ℕ) (a : Operand) : Type 0 where
  pub known : IsKnown K name n a
  pub width : operand_width widths a ≡ w
  pub fits : IsFitting a

pub record Fine (K : Known) (widths : Widths) (name : Naming) (n w : ℕ) (operation : Operation) : Type 0 where
  pub known : EachOperand (IsKnown K name n) operation
  pub suits : SuitsWidth widths w operation
  pub fits : EachOperand IsFitting operation
  pub order : ComparesByOrder operation
  pub bits : HasBits operation

abbrev pub FineGates : Known → Widths → Naming → ℕ → List LaneGate → Type 0
FineGates K widths name n [] = Unit {0}
FineGates K widths name n (g ∷ gates) = Fine K widths name n g.width.bits g.operation × FineGates K widths name (n + 1) gates

-- each wire has its width
abbrev pub Sized : Widths → Naming → ℕ → List LaneGate → Type 0
Sized widths name n [] = Unit {0}
Sized widths name n (g ∷ gates) = (widths (name n) ≡ g.width.bits) × Sized widths name (n + 1) gates

pub record FineBuilt (K : Known) (widths : Widths) (name : Naming) (n w : ℕ) (b : Built) : Type 0 where
  pub gates : FineGates K widths name n b.gates
  pub root : Fine K widths name (n + length b.gates) w b.root

pub record FineNamed (K : Known) (widths : Widths) (name : Naming) (n w : ℕ) (b : Named) : Type 0 where
  pub gates : FineGates K widths name n b.gates
  pub operand : FineOperand K widths name (n + length b.gates) w b.operand

-- ---- lists of wires

pub gates_append : (K : Known) (widths : Widths) (name : Naming) (n m : ℕ) (gates more : List LaneGate) → n + length gates ≡ m → FineGates K widths name n gates → FineGates K widths name m more → FineGates K widths name n (gates ++ more)
gates_append K widths name n m [] more e h k = let f : m ≡ n = omega arith in subst (λ i. FineGates K widths name i more) f k
gates_append K widths name n m (g ∷ gates) more e h k = (h.0, gates_append K widths name (n + 1) m gates more (omega arith) h.1 k)

pub sized_front : (widths : Widths) (name : Naming) (n : ℕ) (gates more : List LaneGate) → Sized widths name n (gates ++ more) → Sized widths name n gates
sized_front widths name n [] more h = tt
sized_front widths name n (g ∷ gates) more h = (h.0, sized_front widths name (n + 1) gates more h.1)

pub sized_back : (widths : Widths) (name : Naming) (n m : ℕ) (gates more : List LaneGate) → n + length gates ≡ m → Sized widths name n (gates ++ more) → Sized widths name m more
sized_back widths name n m [] more e h = let f : n ≡ m = omega arith in subst (λ i. Sized widths name i more) f h
sized_back widths name n m (g ∷ gates) more e h = sized_back widths name (n + 1) m gates more (omega arith) h.1

known_later : (K : Known) (name : Naming) (n m : ℕ) (a : Operand) → n ≤ m → IsKnown K name n a → IsKnown K name m a
known_later K name n m (Name x) le (inl k) = inl k
known_later K name n m (Name x) le (inr (i, lt, is)) = inr (i, omega arith, is)
known_later K name n m (Literal width value) le h = tt

pub later : (K : Known) (widths : Widths) (name : Naming) (n m w : ℕ) (a : Operand) → n ≤ m → FineOperand K widths name n w a → FineOperand K widths name m w a
later K widths name n m w a le h = record { known = known_later K name n m a le h.known; width = h.width; fits = h.fits }

-- ---- a wire for an operation

last_fine : (K : Known) (widths : Widths) (name : Naming) (n : ℕ) (w : Width) (gates : List LaneGate) (root : Operation) → FineBuilt K widths name n w.bits (built gates root) → Sized widths name n (gates ++ gate w root ∷ [])
    → FineNamed K widths name n w.bits (record { gates = gates ++ gate w root ∷ []; operand = Name (name (n + length gates)) })
last_fine K widths name n w gates root h sized =
    let m = n + length gates in
    let size = (sized_back widths name n m gates (gate w root ∷ []) refl sized).0 in
    record {
      gates = gates_append K widths name n m gates (gate w root ∷ []) refl h.gates (h.root, tt);
      operand = record { known = inr (m, omega (arith, length-append gates (gate w root ∷ [])), refl); width = size; fits = tt };
    }

pub named_fine : (K : Known) (widths : Widths) (name : Naming) (n : ℕ) (w : Width) (gates : List LaneGate) (root : Operation) → FineBuilt K widths name n w.bits (built gates root) → Sized widths name n (named_by name n w gates root).gates
    → FineNamed K widths name n w.bits (named_by name n w gates root)
named_fine K widths name n w gates (Plain a) h sized = record { gates = h.gates; operand = record { known = h.root.known; width = h.root.suits; fits = h.root.fits } }
named_fine K widths name n w gates (Binary a s b) h sized = last_fine K widths name n w gates (Binary a s b) h sized
named_fine K widths name n w gates (Signed a s b) h sized = last_fine K widths name n w gates (Signed a s b) h sized
named_fine K widths name n w gates (Choose c a b) h sized = last_fine K widths name n w gates (Choose c a b) h sized
named_fine K widths name n w gates (Part x high low) h sized = last_fine K widths name n w gates (Part x high low) h sized
named_fine K widths name n w gates (Widen x by) h sized = last_fine K widths name n w gates (Widen x by) h sized

pub named_sized : (widths : Widths) (name : Naming) (n : ℕ) (w : Width) (gates : List LaneGate) (root : Operation) → Sized widths name n (named_by name n w gates root).gates → Sized widths name n gates
named_sized widths name n w gates (Plain a) h = h
named_sized widths name n w gates (Binary a s b) h = sized_front widths name n gates (gate w (Binary a s b) ∷ []) h
named_sized widths name n w gates (Signed a s b) h = sized_front widths name n gates (gate w (Signed a s b) ∷ []) h
named_sized widths name n w gates (Choose c a b) h = sized_front widths name n gates (gate w (Choose c a b) ∷ []) h
named_sized widths name n w gates (Part x high low) h = sized_front widths name n gates (gate w (Part x high low) ∷ []) h
named_sized widths name n w gates (Widen x by) h = sized_front widths name n gates (gate w (Widen x by) ∷ []) h

-- ---- operations

pub plain_fine : (K : Known) (widths : Widths) (name : Naming) (n w : ℕ) (a : Operand) → FineOperand K widths name n w a → Fine K widths name n w (Plain a)
plain_fine K widths name n w a h = record { known = h.known; suits = h.width; fits = h.fits; order = tt; bits = tt }

binary_fine : (K : Known) (widths : Widths) (name : Naming) (n w r : ℕ) (a b : Operand) (s : Symbol) → FineOperand K widths name n w a → FineOperand K widths name n w b → symbol_width s w ≡ r → Fine K widths name n r (Binary a s b)
binary_fine K widths name n w r a b s ha hb is = record { known = (ha.known, hb.known); suits = (ha.width ∙ sym hb.width, ap (symbol_width s) ha.width ∙ is); fits = (ha.fits, hb.fits); order = tt; bits = tt }

signed_fine : (K : Known) (widths : Widths) (name : Naming) (n w : ℕ) (a b : Operand) (s : Symbol) → IsOrder s → FineOperand K widths name n w a → FineOperand K widths name n w b → Fine K widths name n 1 (Signed a s b)
signed_fine K widths name n w a b s o ha hb = record { known = (ha.known, hb.known); suits = (ha.width ∙ sym hb.width, refl); fits = (ha.fits, hb.fits); order = o; bits = tt }

choose_fine : (K : Known) (widths : Widths) (name : Naming) (n w : ℕ) (c a b : Operand) → FineOperand K widths name n 1 c → FineOperand K widths name n w a → FineOperand K widths name n w b → Fine K widths name n w (Choose c a b)
choose_fine K widths name n w c a b hc ha hb = record { known = (hc.known, ha.known, hb.known); suits = (hc.width, ha.width, hb.width); fits = (hc.fits, ha.fits, hb.fits); order = tt; bits = tt }

-- a test on a wire, and the choice by it
chosen_fine : (K : Known) (widths : Widths) (name : Naming) (n w : ℕ) (gates : List LaneGate) (test : Operation) (a b : Operand) → FineGates K widths name n gates → Fine K widths name (n + length gates) 1 test
    → FineOperand K widths name (n + length gates) w a → FineOperand K widths name (n + length gates) w b → Sized widths name n (chosen_by name n gates test a b).gates → FineBuilt K widths name n w (chosen_by name n gates test a b)
chosen_fine K widths name n w gates test a b g t ha hb sized =
    let m = n + length gates in
    let all = gates ++ gate one_bit test ∷ [] in
    let end = n + length all in
    let le : m ≤ end = omega (arith, length-append gates (gate one_bit test ∷ [])) in
    let l = last_fine K widths name n one_bit gates test (record { gates = g; root = t }) sized in
    record { gates = l.gates; root = choose_fine K widths name end w (Name (name m)) a b l.operand (later K widths name m end w a le ha) (later K widths name m end w b le hb) }

-- ---- trees

joined_sized : (widths : Widths) (name : Naming) (n : ℕ) (g : Sign) (a b : Named) → Sized widths name n (joined name n g (a.gates ++ b.gates) a.operand b.operand).gates → Sized widths name n (a.gates ++ b.gates)
joined_sized widths name n sign.Add a b h = h
joined_sized widths name n sign.Sub a b h = h
joined_sized widths name n sign.Mul a b h = h
joined_sized widths name n sign.Min a b h = sized_front widths name n (a.gates ++ b.gates) _ h
joined_sized widths name n sign.Max a b h = sized_front widths name n (a.gates ++ b.gates) _ h

joined_fine : (K : Known) (widths : Widths) (name : Naming) (n w : ℕ) (g : Sign) (a b : Named) → FineGates K widths name n (a.gates ++ b.gates) → FineOperand K widths name (n + length (a.gates ++ b.gates)) w a.operand → FineOperand K widths name (n + length (a.gates ++ b.gates)) w b.operand
    → Sized widths name n (joined name n g (a.gates ++ b.gates) a.operand b.operand).gates → FineBuilt K widths name n w (joined name n g (a.gates ++ b.gates) a.operand b.operand)
joined_fine K widths name n w sign.Add a b h ha hb sized = record { gates = h; root = binary_fine K widths name _ w w a.operand b.operand Add ha hb refl }
joined_fine K widths name n w sign.Sub a b h ha hb sized = record { gates = h; root = binary_fine K widths name _ w w a.operand b.operand Sub ha hb refl }
joined_fine K widths name n w sign.Mul a b h ha hb sized = record { gates = h; root = binary_fine K widths name _ w w a.operand b.operand Mul ha hb refl }
joined_fine K widths name n w sign.Min a b h ha hb sized = chosen_fine K widths name n w (a.gates ++ b.gates) (Signed b.operand Less a.operand) b.operand a.operand h (signed_fine K widths name _ w b.operand a.operand Less tt hb ha) hb ha sized
joined_fine K widths name n w sign.Max a b h ha hb sized = chosen_fine K widths name n w (a.gates ++ b.gates) (Signed a.operand Less b.operand) b.operand a.operand h (signed_fine K widths name _ w a.operand b.operand Less tt ha hb) hb ha sized

comparison_fine : (K : Known) (widths : Widths) (name : Naming) (n w : ℕ) (c : Relation) (a b : Operand) → FineOperand K widths name n w a → FineOperand K widths name n w b → Fine K widths name n 1 (comparison c a b)
comparison_fine K widths name n w relation.Less a b ha hb = signed_fine K widths name n w a b Less tt ha hb
comparison_fine K widths name n w relation.LessEqual a b ha hb = signed_fine K widths name n w a b LessEqual tt ha hb
comparison_fine K widths name n w relation.Greater a b ha hb = signed_fine K widths name n w a b Greater tt ha hb
comparison_fine K widths name n w relation.GreaterEqual a b ha hb = signed_fine K widths name n w a b GreaterEqual tt ha hb
comparison_fine K widths name n w relation.Equal a b ha hb = binary_fine K widths name n w 1 a b Equal ha hb refl
comparison_fine K widths name n w relation.Unequal a b ha hb = binary_fine K widths name n w 1 a b Unequal ha hb refl

pub tree_fine : (K : Known) (widths : Widths) (name : Naming) (w : Width) (taps : ℕ → Operand) (low : ℕ) → ((s : ℕ) → FineOperand K widths name low w.bits (taps s)) → (n s : ℕ) (t : Tree) → low ≤ n → FitsTree w.bits t
    → Sized widths name n (tree_built name w taps n s t).gates → FineBuilt K widths name n w.bits (tree_built name w taps n s t)
tree_fine K widths name w taps low fine n s (reference place m) le fits sized = record { gates = tt; root = plain_fine K widths name (n + 0) w.bits (taps s) (later K widths name low (n + 0) w.bits (taps s) (omega arith) (fine s)) }
tree_fine K widths name w taps low fine n s (constant k) le fits sized = record { gates = tt; root = record { known = tt; suits = refl; fits = fits; order = tt; bits = tt } }
tree_fine K widths name w taps low fine n s (binary g l r) le fits sized =
    let left = tree_built name w taps n s l in
    let a = named name n w left in
    let m = n + length a.gates in
    let right = tree_built name w taps m (s + site_count l) r in
    let b = named name m w right in
    let all = joined_sized widths name n g a b sized in
    let sa = sized_front widths name n a.gates b.gates all in
    let sb = sized_back widths name n m a.gates b.gates refl all in
    let fa = named_fine K widths name n w left.gates left.root (tree_fine K widths name w taps low fine n s l le fits.0 (named_sized widths name n w left.gates left.root sa)) sa in
    let fb = named_fine K widths name m w right.gates right.root (tree_fine K widths name w taps low fine m (s + site_count l) r (omega arith) fits.1 (named_sized widths name m w right.gates right.root sb)) sb in
    let end = n + length (a.gates ++ b.gates) in
    let e : end ≡ m + length b.gates = omega (arith, length-append a.gates b.gates) in
    joined_fine K widths name n w.bits g a b (gates_append K widths name n m a.gates b.gates refl fa.gates fb.gates)
    (later K widths name m end w.bits a.operand (omega (arith, e)) fa.operand) (later K widths name (m + length b.gates) end w.bits b.operand (omega (arith, e)) fb.operand) sized
tree_fine K widths name w taps low fine n s (choice l c r x y) le fits sized =
    let ta = tree_built name w taps n s l in
    let a = named name n w ta in
    let nb = n + length a.gates in
    let sb = s + site_count l in
    let tb = tree_built name w taps nb sb r in
    let b = named name nb w tb in
    let nx = nb + length b.gates in
    let sx = sb + site_count r in
    let td = tree_built name w taps nx sx x in
    let d = named name nx w td in
    let ny = nx + length d.gates in
    let sy = sx + site_count x in
    let te = tree_built name w taps ny sy y in
    let e = named name ny w te in
    let gates = a.gates ++ (b.gates ++ (d.gates ++ e.gates)) in
    let all = sized_front widths name n gates _ sized in
    let za = sized_front widths name n a.gates _ all in
    let rest_a = sized_back widths name n nb a.gates _ refl all in
    let zb = sized_front widths name nb b.gates _ rest_a in
    let rest_b = sized_back widths name nb nx b.gates _ refl rest_a in
    let zd = sized_front widths name nx d.gates _ rest_b in
    let ze = sized_back widths name nx ny d.gates e.gates refl rest_b in
    let fa = named_fine K widths name n w ta.gates ta.root (tree_fine K widths name w taps low fine n s l le fits.0 (named_sized widths name n w ta.gates ta.root za)) za in
    let fb = named_fine K widths name nb w tb.gates tb.root (tree_fine K widths name w taps low fine nb sb r (omega arith) fits.1 (named_sized widths name nb w tb.gates tb.root zb)) zb in
    let fd = named_fine K widths name nx w td.gates td.root (tree_fine K widths name w taps low fine nx sx x (omega arith) fits.2 (named_sized widths name nx w td.gates td.root zd)) zd in
    let fe = named_fine K widths name ny w te.gates te.root (tree_fine K widths name w taps low fine ny sy y (omega arith) fits.3 (named_sized widths name ny w te.gates te.root ze)) ze in
    let end = n + length gates in
    let is : end ≡ ny + length e.gates = omega (arith, length-append a.gates (b.gates ++ (d.gates ++ e.gates)), length-append b.gates (d.gates ++ e.gates), length-append d.gates e.gates) in
    let ha = later K widths name nb end w.bits a.operand (omega (arith, is)) fa.operand in
    let hb = later K widths name nx end w.bits b.operand (omega (arith, is)) fb.operand in
    let hd = later K widths name ny end w.bits d.operand (omega (arith, is)) fd.operand in
    let he = later K widths name (ny + length e.gates) end w.bits e.operand (omega (arith, is)) fe.operand in
    chosen_fine K widths name n w.bits gates (comparison c a.operand b.operand) d.operand e.operand
    (gates_append K widths name n nb a.gates _ refl fa.gates (gates_append K widths name nb nx b.gates _ refl fb.gates (gates_append K widths name nx ny d.gates e.gates refl fd.gates fe.gates)))
    (comparison_fine K widths name end w.bits c a.operand b.operand ha hb) hd he sized
tree_fine K widths name w taps low fine n s (pick place choices k) le fits sized = record { gates = tt; root = plain_fine K widths name (n + 0) w.bits (taps s) (later K widths name low (n + 0) w.bits (taps s) (omega arith) (fine s)) }
tree_fine K widths name w taps low fine n s _ le fits sized = record { gates = tt; root = record { known = tt; suits = refl; fits = pow_pos w.bits; order = tt; bits = tt } }
