-- Steps of building, put together.
use Rattle.std.proofs.Common.{◌≡◌, ℕ, ◌+◌, List, [], ◌∷◌, ◌++◌, length, refl, sym, arith, ◌∙◌, ap, append_assoc, zero-add, Ok, Err, Result}
use Rattle.std.specs.Prelude.{IfOk, OnOk}
use Rattle.std.proofs.lemmas.List.{length-append}
use Rattle.av_base.specs.declared.width.Width.{Width}
use Rattle.av_tree.specs.declared.relation.Relation.{Relation}
use Rattle.av_tree.specs.declared.sign.Sign.{Sign}
use Rattle.av_tree.specs.declared.sign.Sign.TheVariants as sign
use Rattle.av_net.specs.declared.operation.Symbol.TheVariants.{Less}
use Rattle.av_net.specs.declared.operation.Operand.{Operand}
use Rattle.av_net.specs.declared.operation.Operand.TheVariants.{Name}
use Rattle.av_net.specs.declared.operation.Operation.{Operation}
use Rattle.av_net.specs.declared.operation.Operation.TheVariants.{Plain, Binary, Signed, Choose, Part, Widen}
use Rattle.av_flat.specs.Trees.{Tree, binary, choice}
use Rattle.av_kinds.specs.declared.gates.LaneGate.{LaneGate}
use Rattle.av_kinds.specs.Names.{Naming}
use Rattle.av_kinds.specs.inner.Gates.{gate, Built, Named, named, named_by}
use Rattle.av_kinds.specs.Programs.{site_count}
use Rattle.av_kinds.specs.Tops.{one_bit}
use Rattle.av_kinds.specs.inner.Trees.{chosen_by, joined, comparison, tree_built}
use Rattle.av_kinds.specs.inner.Added.{Adds, AddsNamed, AddsBuilt, AddsOperand}

pub if_ok_map : {X E : Type 0} (P Q : X → Type 0) → ((x : X) → P x → Q x) → (r : Result X E) → IfOk r P → IfOk r Q
if_ok_map P Q f (Ok x) h = f x h
if_ok_map P Q f (Err e) h = tt

-- what follows from two clauses of one call
pub on_ok_both : {X E P Q R : Type 0} (r : Result X E) → (P → Q → R) → OnOk r P → OnOk r Q → OnOk r R
on_ok_both (Ok x) f p q = f p q
on_ok_both (Err e) f p q = tt

-- a wire for an operation that is no operand
pub wire_named : {E : Type 0} (name : Naming) (w : Width) (old new : List LaneGate) (root : Operation) (r : Result Operand E) → ((x : Operand) → root ≡ Plain x → ⊥)
    → OnOk r (new ≡ old ++ gate w root ∷ []) → IfOk r (λ a. a ≡ Name (name (length old))) → IfOk r (AddsNamed new (named_by name 0 w old root))
wire_named name w old new root (Err e) none gates is = tt
wire_named name w old new root (Ok a) none gates is = by root none gates
  where
    numbered : a ≡ Name (name (0 + length old))
    numbered = is ∙ ap (λ k. Name (name k)) (sym (zero-add (length old)))

    by : (o : Operation) → ((x : Operand) → o ≡ Plain x → ⊥) → new ≡ old ++ gate w o ∷ [] → AddsNamed new (named_by name 0 w old o) a
    by (Plain x) never put = absurd (never x refl)
    by (Binary x s y) never put = record { gates_are = put; operand_is = numbered }
    by (Signed x s y) never put = record { gates_are = put; operand_is = numbered }
    by (Choose c x y) never put = record { gates_are = put; operand_is = numbered }
    by (Part x high low) never put = record { gates_are = put; operand_is = numbered }
    by (Widen x more) never put = record { gates_are = put; operand_is = numbered }

-- a test after more wires
chosen_gates : (name : Naming) (old gates : List LaneGate) (t : Operation) (a b : Operand) → (chosen_by name 0 (old ++ gates) t a b).gates ≡ old ++ (chosen_by name (length old) gates t a b).gates
chosen_gates name old gates t a b = append_assoc old gates (gate one_bit t ∷ [])

chosen_root : (name : Naming) (old gates : List LaneGate) (t : Operation) (a b : Operand) → (chosen_by name 0 (old ++ gates) t a b).root ≡ (chosen_by name (length old) gates t a b).root
chosen_root name old gates t a b = let e : 0 + length (old ++ gates) ≡ length old + length gates = omega (arith, length-append old gates) in ap (λ k. Choose (Name (name k)) a b) e

joined_gates : (name : Naming) (old gates : List LaneGate) (g : Sign) (a b : Operand) → (joined name 0 g (old ++ gates) a b).gates ≡ old ++ (joined name (length old) g gates a b).gates
joined_gates name old gates sign.Add a b = refl
joined_gates name old gates sign.Sub a b = refl
joined_gates name old gates sign.Mul a b = refl
joined_gates name old gates sign.Min a b = chosen_gates name old gates (Signed b Less a) b a
joined_gates name old gates sign.Max a b = chosen_gates name old gates (Signed a Less b) b a

joined_root : (name : Naming) (old gates : List LaneGate) (g : Sign) (a b : Operand) → (joined name 0 g (old ++ gates) a b).root ≡ (joined name (length old) g gates a b).root
joined_root name old gates sign.Add a b = refl
joined_root name old gates sign.Sub a b = refl
joined_root name old gates sign.Mul a b = refl
joined_root name old gates sign.Min a b = chosen_root name old gates (Signed b Less a) b a
joined_root name old gates sign.Max a b = chosen_root name old gates (Signed a Less b) b a

-- the wires of a subtree whose first one has the number m
abbrev wires_at : Naming → Width → (ℕ → Operand) → Tree → ℕ → ℕ → Named
wires_at name w taps t m s = named name m w (tree_built name w taps m s t)

record AddsAt (before gates : List LaneGate) (b : Named) (a : Operand) : Type 0 where
  gates_are : gates ≡ before ++ b.gates
  operand_is : a ≡ b.operand

next : (name : Naming) (w : Width) (taps : ℕ → Operand) (before gates : List LaneGate) (m s s' : ℕ) (t : Tree) (a : Operand) → length before ≡ m → s ≡ s' → AddsOperand name w before gates (tree_built name w taps (length before) s t) a → AddsAt before gates (wires_at name w taps t m s') a
next name w taps before gates m s s' t a k same h =
    let e : wires_at name w taps t (length before) s ≡ wires_at name w taps t m s' = ap (λ x. wires_at name w taps t x s) k ∙ ap (wires_at name w taps t m) same in
    record { gates_are = h.gates_are ∙ ap (λ (b : Named). before ++ b.gates) e; operand_is = h.operand_is ∙ ap (λ (b : Named). b.operand) e }

length_after : (before gates : List LaneGate) (b : Named) (a : Operand) (m : ℕ) → AddsAt before gates b a → length before ≡ m → length gates ≡ m + length b.gates
length_after before gates b a m h e = ap length h.gates_are ∙ omega (arith, length-append before b.gates)

pub binary_added : (name : Naming) (w : Width) (taps : ℕ → Operand) (g0 g1 g2 g3 : List LaneGate) (s0 s1 : ℕ) (g : Sign) (l r : Tree) (a b : Operand) (root : Operation)
    → AddsOperand name w g0 g1 (tree_built name w taps (length g0) s0 l) a → s1 ≡ s0 + site_count l → AddsOperand name w g1 g2 (tree_built name w taps (length g1) s1 r) b
    → Adds g3 (joined name 0 g g2 a b) root → AddsBuilt g0 g3 (tree_built name w taps (length g0) s0 (binary g l r)) root
binary_added name w taps g0 g1 g2 g3 s0 s1 g l r a b root ha hs hb h =
    let n = length g0 in
    let one = next name w taps g0 g1 n s0 s0 l a refl refl ha in
    let pa = wires_at name w taps l n s0 in
    let m = n + length pa.gates in
    let two = next name w taps g1 g2 m s1 (s0 + site_count l) r b (length_after g0 g1 pa a n one refl) hs hb in
    let pb = wires_at name w taps r m (s0 + site_count l) in
    let all : g2 ≡ g0 ++ (pa.gates ++ pb.gates) = two.gates_are ∙ ap (λ (xs : List LaneGate). xs ++ pb.gates) one.gates_are ∙ append_assoc g0 pa.gates pb.gates in
    let J : List LaneGate → Operand → Operand → Built = λ gates x y. joined name 0 g gates x y in
    let e : J g2 a b ≡ J (g0 ++ (pa.gates ++ pb.gates)) pa.operand pb.operand = ap (λ (xs : List LaneGate). J xs a b) all ∙ ap (λ (x : Operand). J (g0 ++ (pa.gates ++ pb.gates)) x b) one.operand_is ∙ ap (J (g0 ++ (pa.gates ++ pb.gates)) pa.operand) two.operand_is in
    record {
      gates_are = h.gates_are ∙ ap (λ (x : Built). x.gates) e ∙ joined_gates name g0 (pa.gates ++ pb.gates) g pa.operand pb.operand;
      root_is = h.root_is ∙ ap (λ (x : Built). x.root) e ∙ joined_root name g0 (pa.gates ++ pb.gates) g pa.operand pb.operand;
    }

four_parts : (o a b d e : List LaneGate) → (((o ++ a) ++ b) ++ d) ++ e ≡ o ++ (a ++ (b ++ (d ++ e)))
four_parts o a b d e = simp append_assoc

pub choice_added : (name : Naming) (w : Width) (taps : ℕ → Operand) (g0 g1 g2 g3 g4 g5 : List LaneGate) (s0 s1 s2 s3 : ℕ) (c : Relation) (l r x y : Tree) (a b d e : Operand) (root : Operation)
    → AddsOperand name w g0 g1 (tree_built name w taps (length g0) s0 l) a → s1 ≡ s0 + site_count l → AddsOperand name w g1 g2 (tree_built name w taps (length g1) s1 r) b → s2 ≡ s1 + site_count r
    → AddsOperand name w g2 g3 (tree_built name w taps (length g2) s2 x) d → s3 ≡ s2 + site_count x → AddsOperand name w g3 g4 (tree_built name w taps (length g3) s3 y) e
    → Adds g5 (chosen_by name 0 g4 (comparison c a b) d e) root → AddsBuilt g0 g5 (tree_built name w taps (length g0) s0 (choice l c r x y)) root
choice_added name w taps g0 g1 g2 g3 g4 g5 s0 s1 s2 s3 c l r x y a b d e root ha hs1 hb hs2 hd hs3 he h =
    let n = length g0 in
    let t1 = s0 + site_count l in
    let t2 = t1 + site_count r in
    let t3 = t2 + site_count x in
    let one = next name w taps g0 g1 n s0 s0 l a refl refl ha in
    let pa = wires_at name w taps l n s0 in
    let k1 = length_after g0 g1 pa a n one refl in
    let nb = n + length pa.gates in
    let two = next name w taps g1 g2 nb s1 t1 r b k1 hs1 hb in
    let pb = wires_at name w taps r nb t1 in
    let k2 = length_after g1 g2 pb b nb two k1 in
    let nx = nb + length pb.gates in
    let three = next name w taps g2 g3 nx s2 t2 x d k2 (hs2 ∙ ap (λ i. i + site_count r) hs1) hd in
    let pd = wires_at name w taps x nx t2 in
    let k3 = length_after g2 g3 pd d nx three k2 in
    let ny = nx + length pd.gates in
    let four = next name w taps g3 g4 ny s3 t3 y e k3 (hs3 ∙ ap (λ i. i + site_count x) (hs2 ∙ ap (λ i. i + site_count r) hs1)) he in
    let pe = wires_at name w taps y ny t3 in
    let inner = pa.gates ++ (pb.gates ++ (pd.gates ++ pe.gates)) in
    let all : g4 ≡ g0 ++ inner =
    four.gates_are ∙ ap (λ (xs : List LaneGate). xs ++ pe.gates) three.gates_are ∙ ap (λ (xs : List LaneGate). (xs ++ pd.gates) ++ pe.gates) two.gates_are
    ∙ ap (λ (xs : List LaneGate). ((xs ++ pb.gates) ++ pd.gates) ++ pe.gates) one.gates_are ∙ four_parts g0 pa.gates pb.gates pd.gates pe.gates in
    let C : List LaneGate → Operand → Operand → Operand → Operand → Built = λ gates p q u v. chosen_by name 0 gates (comparison c p q) u v in
    let is : C g4 a b d e ≡ C (g0 ++ inner) pa.operand pb.operand pd.operand pe.operand =
    ap (λ (xs : List LaneGate). C xs a b d e) all ∙ ap (λ (p : Operand). C (g0 ++ inner) p b d e) one.operand_is ∙ ap (λ (q : Operand). C (g0 ++ inner) pa.operand q d e) two.operand_is
    ∙ ap (λ (u : Operand). C (g0 ++ inner) pa.operand pb.operand u e) three.operand_is ∙ ap (C (g0 ++ inner) pa.operand pb.operand pd.operand) four.operand_is in
    let test = comparison c pa.operand pb.operand in
    record {
      gates_are = h.gates_are ∙ ap (λ (z : Built). z.gates) is ∙ chosen_gates name g0 inner test pd.operand pe.operand;
      root_is = h.root_is ∙ ap (λ (z : Built). z.root) is ∙ chosen_root name g0 inner test pd.operand pe.operand;
    }
