-- No two modes of one cell are active at one number, where no computation is of both.
use Rattle.std.proofs.Common.{◌≡◌, ℕ, ◌+◌, ◌<◌, inl, inr, sym, subst, ◌∙◌, arith, IsTrue}
use Rattle.std.proofs.lemmas.Bool.{cases_lt}
use Rattle.av_tree.specs.Points.{Point}
use Rattle.av_kinds.specs.declared.counter.Counter.{Counter}
use Rattle.av_kinds.specs.Counters.{count_in, number_count}
use Rattle.av_kinds.specs.Programs.{Mode, is_active}
use Rattle.av_history.specs.Performing.{Array, ComputesOn}
use Rattle.av_history.proofs.Residues.{near}
use Rattle.av_build.specs.inner.Programmed.{IsModeFor}
use Rattle.av_build.proofs.OrderLemmas.{count_is}

module _ (a : Array) (counter : Counter) (p : ℕ)
    (within : (c d m n : ℕ) (y z : Point) → ComputesOn a p c m y → ComputesOn a p d n z → d < c + number_count counter)
    (one : (c m n : ℕ) (y z : Point) → ComputesOn a p c m y → ComputesOn a p c n z → (m ≡ n) × (y ≡ z)) where
  -- with one number, one cycle
  one_cycle : (c d m n : ℕ) (y z : Point) → ComputesOn a p c m y → ComputesOn a p d n z → count_in counter c ≡ count_in counter d → c ≡ d
  one_cycle c d m n y z h k e =
      let same = sym (count_is counter c) ∙ e ∙ count_is counter d in
      elim (cases_lt c d) [
        | inl l ↦ near c d (number_count counter) (omega (arith, l)) (within c d m n y z h k) same
        | inr ge ↦ sym (near d c (number_count counter) ge (within d c n m z y k h) (sym same))
      ]

  pub both_hold : (R P Q : ℕ → Point → Type 0) (m n : Mode) → IsModeFor a (count_in counter) p R P m → IsModeFor a (count_in counter) p R Q n → (x : ℕ) → IsTrue (is_active x m) → IsTrue (is_active x n)
      → (c : ℕ) × (k : ℕ) × (z : Point) × ComputesOn a p c k z × P k z × Q k z
  both_hold R P Q m n is_m is_n x active also =
      let u = is_m.latest x active in
      let v = is_n.latest x also in
      let le = u.last v.cycle v.node v.point v.computes v.read v.low in
      let ge = v.last u.cycle u.node u.point u.computes u.read u.low in
      let cycle : v.cycle ≡ u.cycle = one_cycle v.cycle u.cycle v.node u.node v.point u.point v.computes u.computes (omega (arith, le, ge)) in
      let same = one u.cycle v.node u.node v.point u.point (subst (λ (c : ℕ). ComputesOn a p c v.node v.point) cycle v.computes) u.computes in
      (u.cycle, u.node, u.point, u.computes, u.holds, subst (λ (z : Point). Q u.node z) same.1 (subst (λ (k : ℕ). Q k v.point) same.0 v.holds))
