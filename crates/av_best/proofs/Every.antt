-- All nodes together as a component: their numbers are their places.
use Rattle.std.proofs.Common.{◌≡◌, ℕ, zero, suc, ◌+◌, ◌<◌, ◌≤◌, List, [], ◌∷◌, ◌++◌, length, get_or, add-one, sym, ap, subst, ◌∙◌, arith, zero-add, All}
use Rattle.std.specs.Prelude.{AllPairs}
use Rattle.std.specs.List.{range_with_len}
use Rattle.std.proofs.lemmas.List.FromFn.{length-range_with_len, get_or-range_with_len}
use Rattle.av_tree.specs.Points.{Point}
use Rattle.av_flat.specs.Trees.{FlatSystem}
use Rattle.av_flat.specs.Nodes.{nodes}
use Rattle.av_sched.specs.Offsets.{part}
use Rattle.av_sched.specs.Choices.{AreLinearParts}
use Rattle.av_sched.specs.Parts.{Agrees}
use Rattle.av_sched.proofs.OneSchedule.{list_is}
use Rattle.av_best.specs.Least.{all_nodes}

pub as_many : (s : FlatSystem) → length (all_nodes s) ≡ length (nodes s)
as_many s = length-range_with_len 0 (length (nodes s))

pub node_there : (s : FlatSystem) (k d : ℕ) → k < length (nodes s) → get_or (all_nodes s) k d ≡ k
node_there s k d l = get_or-range_with_len 0 (length (nodes s)) k d l ∙ zero-add k

pub nodes_there : (s : FlatSystem) (ns : List ℕ) → ns ≡ all_nodes s → (k : ℕ) → k < length ns → get_or ns k 0 ≡ k
nodes_there s ns e k l = (let m = ap length e ∙ as_many s in ap (λ (xs : List ℕ). get_or xs k 0) e ∙ node_there s k 0 (omega (arith, l, m)))

pub all_within : (s : FlatSystem) → All (λ n. n < length (nodes s)) (all_nodes s)
all_within s = λ k d l.
    let m : k < length (nodes s) = (let e = as_many s in omega (arith, l, e)) in
    subst (λ (n : ℕ). n < length (nodes s)) (sym (node_there s k d m)) m

pub all_apart : (s : FlatSystem) → AllPairs (λ m n. m < n) (all_nodes s)
all_apart s = λ i j d l m.
    let e = as_many s in
    let p = node_there s i d (omega (arith, l, m, e)) in
    let q = node_there s j d (omega (arith, m, e)) in
    omega (arith, p, q, l)

pub range_push : (a n j : ℕ) → a + n ≡ j → range_with_len a (n + 1) ≡ range_with_len a n ++ j ∷ []
range_push a zero j e = ap (λ i. i ∷ []) (let q : a ≡ j = omega (arith, e) in q)
range_push a (suc n) j e = rw add-one (ap (λ xs. a ∷ xs) (subst (λ (k : ℕ). range_with_len (a + 1) k ≡ range_with_len (a + 1) n ++ j ∷ []) (add-one n) (range_push (a + 1) n j (omega (arith, e)))))

-- ---- choices

-- choices that agree have the same parts
pub agreed : (s : FlatSystem) (k : ℕ) (linear other : List Point) → k ≤ length (nodes s) → Agrees (all_nodes s) k linear other → (j : ℕ) → j < k → part other j ≡ part linear j
agreed s k linear other few agrees j l = subst (λ (n : ℕ). part other n ≡ part linear n) (node_there s j 0 (omega (arith, few, l))) (agrees j l)

-- those that agree in all nodes are the same
pub same_choice : (s : FlatSystem) (c : ℕ) (linear other : List Point) → AreLinearParts s c linear → AreLinearParts s c other → Agrees (all_nodes s) (length (all_nodes s)) linear other → other ≡ linear
same_choice s c linear other are parts agrees =
    let a = are.one_each in
    let b = parts.one_each in
    let e = as_many s in
    list_is [] other linear (b ∙ sym a) (λ i l. agreed s (length (all_nodes s)) linear other (omega (arith, e)) agrees i (omega (arith, l, a, e)))

-- a choice has a part for each of all nodes
pub parts_within : (s : FlatSystem) (c : ℕ) (linear : List Point) (ns : List ℕ) → ns ≡ all_nodes s → AreLinearParts s c linear → All (λ n. n < length linear) ns
parts_within s c linear ns e are = subst (All (λ n. n < length linear)) (sym e) (λ k d l. let w = all_within s k d l in let one = are.one_each in omega (arith, w, one))
