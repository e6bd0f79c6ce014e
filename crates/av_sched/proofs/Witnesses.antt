-- Witnesses as arcs: where those among the first nodes have no solution, no choice with the same first parts is feasible.
use Rattle.std.proofs.Common.{◌≡◌, ℕ, suc, ◌<◌, ◌≤◌, ◌^◌, ℤ, pos, ◌+ℤ◌, ◌≤ℤ◌, List, [], ◌∷◌, length, get_or, refl, sym, ap, subst, ◌∙◌, arith, All, unsigned_abs, Bool, true, false, true≢false, IsTrue}
use Rattle.std.specs.Prelude.{slice_index_or, not}
use Rattle.std.proofs.lemmas.Int.{ints}
use Rattle.std.proofs.lemmas.List.Elements.{Contains-get_or, All-contains, All-weaker}
use Rattle.av_affine.specs.Numbers.{dot}
use Rattle.av_affine.specs.Maps.{image}
use Rattle.av_tree.specs.Points.{Point}
use Rattle.av_flat.specs.Trees.{FlatSystem}
use Rattle.av_flat.specs.Chained.{IsChained}
use Rattle.av_flat.specs.Proper.{IsProper}
use Rattle.av_flat.specs.Reads.{IsPair}
use Rattle.av_depend.specs.declared.edge.Edge.{Edge}
use Rattle.av_depend.specs.Edges.{AreEdgesOf}
use Rattle.av_depend.proofs.Pairs.{listed}
use Rattle.av_sched.specs.declared.arc.Arc.{Arc}
use Rattle.av_sched.specs.declared.witness.Witness.{Witness}
use Rattle.av_sched.specs.Arcs.{IsArc, Solves}
use Rattle.av_sched.specs.inner.Rounds.{zeros}
use Rattle.av_sched.specs.Leads.{IsSmallPart, IsSmallPoint}
use Rattle.av_sched.specs.Offsets.{part, AreVectors}
use Rattle.av_sched.specs.Choices.{IsFeasible}
use Rattle.av_sched.specs.Parts.{Agrees}
use Rattle.av_sched.specs.Witnesses.{IsWitness, IsUsableWitness, IsWitnessArc}
use Rattle.av_sched.specs.inner.Walk.{IsForbidden}
use Rattle.av_sched.proofs.Usable.{usable_edge}
use Rattle.av_sched.proofs.Walking.{unsolvable}

pub never : (b : Bool) → IsTrue (not b) → IsTrue b → ⊥
never true t y = true≢false (sym t)
never false t y = true≢false (sym y)

-- ---- witnesses can be used

length_image : (m : List _) (z : Point) → length (image m z) ≡ length m
length_image [] z = refl
length_image (f ∷ m) z = ap suc (length_image m z)

module _ (s : FlatSystem) (edges : List Edge) (component : List ℕ) (linear : List Point) (chained : IsChained s) (proper : IsProper s) (are : AreEdgesOf s edges) (vectors : AreVectors s 4 linear) where
  pub usable_witness : (witness : Witness) → IsWitness edges component witness → IsUsableWitness component linear witness
  usable_witness witness p =
      let e = p.edge in
      let u = usable_edge s edges linear e chained proper are vectors p.among in
      let z = All-contains (IsSmallPoint (length (part linear e.consumer))) e.points witness.point u.points p.listed in
      let reader_size : length (part linear e.consumer) ≡ length witness.point = sym z.size in
      let read_size : length (part linear e.producer) ≡ length witness.image = sym u.map.results ∙ sym (length_image e.map.rows witness.point) ∙ ap length (sym p.image_is) in
      record {
        reader_within = p.reader_within;
        read_within = p.read_within;
        consumer_within = subst (λ (n : ℕ). n < length linear) (sym p.reader_is) u.consumer_within;
        producer_within = subst (λ (n : ℕ). n < length linear) (sym p.read_is) u.producer_within;
        reader = subst (λ (n : ℕ). IsSmallPart (length witness.point) (part linear n)) (sym p.reader_is) (subst (λ (k : ℕ). IsSmallPart k (part linear e.consumer)) reader_size u.reader);
        read = subst (λ (n : ℕ). IsSmallPart (length witness.image) (part linear n)) (sym p.read_is) (subst (λ (k : ℕ). IsSmallPart k (part linear e.producer)) read_size u.read);
        point = All-weaker (λ x. unsigned_abs x ≤ 4095) (λ x. unsigned_abs x ≤ 2 ^ 25) (λ x h. omega (arith, h)) witness.point z.entries;
        image = p.small;
      }

  pub usable_witnesses : (pool : List Witness) → All (IsWitness edges component) pool → All (IsUsableWitness component linear) pool
  usable_witnesses pool h = All-weaker (IsWitness edges component) (IsUsableWitness component linear) usable_witness pool h

-- ---- what they forbid

module _ (s : FlatSystem) (edges : List Edge) (component : List ℕ) (k : ℕ) (linear : List Point) (chained : IsChained s) (are : AreEdgesOf s edges) where
  -- a feasible choice with the first parts makes the reader of each witness late
  pub late_there : (arc : Arc) → IsWitnessArc edges component k linear arc → (other : List Point) → Agrees component k linear other → (f : IsFeasible s component other)
      → (f.0 (slice_index_or component arc.read 0) +ℤ arc.weight) ≤ℤ f.0 (slice_index_or component arc.reader 0)
  late_there arc w other agrees f =
      let witness = w.witness in
      let p = w.is_witness in
      let e = p.edge in
      let z = witness.point in
      let n = slice_index_or component witness.reader 0 in
      let m = slice_index_or component witness.read 0 in
      let off = f.0 in
      let pair = listed s edges e z chained are p.among p.listed in
      let pair1 = subst (λ (y : Point). IsPair s e.consumer z e.producer y) (sym p.image_is) pair in
      let pair2 = subst (λ (j : ℕ). IsPair s j z e.producer witness.image) (sym p.reader_is) pair1 in
      let pair3 = subst (λ (j : ℕ). IsPair s n z j witness.image) (sym p.read_is) pair2 in
      let late = f.1 n z m witness.image pair3 (Contains-get_or component witness.reader 0 p.reader_within) (Contains-get_or component witness.read 0 p.read_within) in
      let late1 = subst (λ (a : Point). (dot a witness.image +ℤ off m +ℤ pos 1) ≤ℤ (dot (part other n) z +ℤ off n)) (agrees witness.read w.read_first) late in
      let late2 = subst (λ (a : Point). (dot (part linear m) witness.image +ℤ off m +ℤ pos 1) ≤ℤ (dot a z +ℤ off n)) (agrees witness.reader w.reader_first) late1 in
      let weight = w.is.weight in
      let own : (off m +ℤ arc.weight) ≤ℤ off n = omega (arith, ints, late2, weight) in
      let own1 = subst (λ (j : ℕ). (off (slice_index_or component j 0) +ℤ arc.weight) ≤ℤ off n) (sym w.is.read) own in
      subst (λ (j : ℕ). (off (slice_index_or component arc.read 0) +ℤ arc.weight) ≤ℤ off (slice_index_or component j 0)) (sym w.is.reader) own1

  pub witnesses_fit : (arcs : List Arc) → All (IsWitnessArc edges component k linear) arcs → All (IsArc k) arcs
  witnesses_fit arcs witnesses = λ i d l.
      let w = witnesses i d l in
      let a = w.reader_first in
      let b = w.read_first in
      let r = w.is.reader in
      let q = w.is.read in
      record { reader = omega (arith, a, r); read = omega (arith, b, q); weight = w.is.small }

  pub forbidden_here : (arcs : List Arc) → All (IsWitnessArc edges component k linear) arcs → ((x : List ℤ) → Solves arcs (zeros k) x → ⊥) → IsForbidden s component k linear
  forbidden_here arcs witnesses none = λ other agrees f. unsolvable arcs k (witnesses_fit arcs witnesses) none (λ j. f.0 (slice_index_or component j 0))
      (λ i d l. late_there (get_or arcs i d) (witnesses i d l) other agrees f)
