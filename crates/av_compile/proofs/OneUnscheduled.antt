-- A text has one first fault up to its schedule, and none where it has a schedule.
use Rattle.std.proofs.Common.{◌≡◌, ◌≢◌, inl, inr, ℕ, suc, ◌+◌, List, [], ◌∷◌, refl, sym, ap, ap₂, subst, ◌∙◌}
use Rattle.std.specs.Prelude.{min, ◌^◌, ◌-◌}
use Rattle.av_flat.specs.declared.quantity.Quantity.{Quantity}
use Rattle.av_flat.specs.Trees.{Tree, Piece, Variable, FlatSystem, reference, constant, binary, choice, restriction, cases, dependence, reduction, pick}
use Rattle.av_names.specs.declared.size.Size.{Size}
use Rattle.av_serial.specs.declared.fault.SerialFault.{SerialFault}
use Rattle.av_serial.specs.declared.fault.SerialFault.TheVariants as serial
use Rattle.av_serial.specs.SerialFaults as serialised
use Rattle.av_serial.specs.SerialFaults.{Reduced, reductions_of, IsCauseOf, HasCause, IsFirstCause, IsSum, HasNodes, HaveNodes, HasNodesIn, HasMany}
use Rattle.av_sched.specs.declared.fault.SchedFault.{SchedFault}
use Rattle.av_sched.specs.declared.fault.SchedFault.TheVariants as sched
use Rattle.av_sched.specs.SchedFaults as searched
use Rattle.av_sched.proofs.Faulting.{one_first, stuck_only, wide_only}
use Rattle.av_compile.specs.declared.refusal.Refusal.{Refusal}
use Rattle.av_compile.specs.declared.refusal.Refusal.TheVariants as refusal
use Rattle.av_compile.specs.Refusals.{of_serial, of_sched}
use Rattle.av_compile.specs.Checked.{IsRefused}
use Rattle.av_compile.specs.Scheduled.{Normalises, Serialises, HasFirstSchedule, IsUnscheduled, in_text, in_reductions, in_search}
use Rattle.av_compile.proofs.OneChain.{one_normalised, one_chained}
use Rattle.av_compile.proofs.OneRefusal.{one_over_box, one_refusal, not_checked}

-- ---- one cause of one reduction

one_cause_of : (r : Reduced) (f g : SerialFault) → IsCauseOf r f → IsCauseOf r g → f ≡ g
one_cause_of r serial.Memory g h i = absurd h
one_cause_of r (serial.NonUnit a) serial.Memory h i = absurd i
one_cause_of r (serial.Unbounded a) serial.Memory h i = absurd i
one_cause_of r (serial.Limit k n) serial.Memory h i = absurd i
one_cause_of r (serial.NonUnit a) (serial.NonUnit b) h i = ap serial.NonUnit (h.1 ∙ sym i.1)
one_cause_of r (serial.NonUnit a) (serial.Unbounded b) h i = absurd (i.0 h.0)
one_cause_of r (serial.NonUnit a) (serial.Limit k n) h i = absurd (i.0 h.0)
one_cause_of r (serial.Unbounded a) (serial.NonUnit b) h i = absurd (h.0 i.0)
one_cause_of r (serial.Unbounded a) (serial.Unbounded b) h i = ap serial.Unbounded (h.2 ∙ sym i.2)
one_cause_of r (serial.Unbounded a) (serial.Limit k n) h i = absurd (i.1 h.1)
one_cause_of r (serial.Limit k n) (serial.NonUnit b) h i = absurd (h.0 i.0)
one_cause_of r (serial.Limit k n) (serial.Unbounded b) h i = absurd (h.1 i.1)
one_cause_of r (serial.Limit k n) (serial.Limit j m) h i = let same = one_over_box r.set k j n m h.2 i.2 in ap₂ (λ (q : Quantity) (x : ℕ). serial.Limit q x) same.0 same.1

one_first_cause : (s : FlatSystem) (f g : SerialFault) → IsFirstCause s f → IsFirstCause s g → f ≡ g
one_first_cause s f g h i =
    let same = one_first HasCause (reductions_of s) h.which i.which h.first i.first in
    one_cause_of i.which f g (subst (λ (r : Reduced). IsCauseOf r f) same h.here) i.here

-- ---- one number of reductions

one_sum : (P Q : ℕ → Type 0) → ((a b : ℕ) → P a → P b → a ≡ b) → ((a b : ℕ) → Q a → Q b → a ≡ b) → (m n : ℕ) → IsSum P Q m → IsSum P Q n → m ≡ n
one_sum P Q p q m n (a, b, h, k, e) (c, d, i, j, f) = e ∙ ap₂ (λ (x y : ℕ). x + y) (p a c h i) (q b d k j) ∙ sym f

one_count : (t : Tree) (m n : ℕ) → HasNodes t m → HasNodes t n → m ≡ n
one_count (binary s l r) m n h i = one_sum (HasNodes l) (HasNodes r) (λ a b. one_count l a b) (λ a b. one_count r a b) m n h i
one_count (choice l c r x y) m n h i =
    one_sum (HasNodes l) (IsSum (HasNodes r) (IsSum (HasNodes x) (HasNodes y))) (λ a b. one_count l a b)
    (one_sum (HasNodes r) (IsSum (HasNodes x) (HasNodes y)) (λ a b. one_count r a b) (one_sum (HasNodes x) (HasNodes y) (λ a b. one_count x a b) (λ a b. one_count y a b))) m n h i
one_count (reduction o f t set) m n (inl (p, k, h, e)) (inl (q, j, i, d)) = e ∙ ap suc (one_count t k j h i) ∙ sym d
one_count (reduction o f t set) m n (inl (p, k, h, e)) (inr (q, d)) = absurd (q p)
one_count (reduction o f t set) m n (inr (p, e)) (inl (q, j, i, d)) = absurd (p q)
one_count (reduction o f t set) m n (inr (p, e)) (inr (q, d)) = e ∙ sym d
one_count (reference place f) m n h i = h ∙ sym i
one_count (constant w) m n h i = h ∙ sym i
one_count (restriction d t) m n h i = h ∙ sym i
one_count (cases ts) m n h i = h ∙ sym i
one_count (dependence f t) m n h i = h ∙ sym i
one_count (pick place choices w) m n h i = h ∙ sym i

one_total : {X : Type 0} (P : X → ℕ → Type 0) → ((x : X) (m n : ℕ) → P x m → P x n → m ≡ n) → (xs : List X) (m n : ℕ) → HaveNodes P xs m → HaveNodes P xs n → m ≡ n
one_total P one [] m n h i = h ∙ sym i
one_total P one (x ∷ xs) m n h i = one_sum (P x) (HaveNodes P xs) (one x) (λ a b. one_total P one xs a b) m n h i

one_in : (v : Variable) (m n : ℕ) → HasNodesIn v m → HasNodesIn v n → m ≡ n
one_in v m n h i = one_total (λ (p : Piece). HasNodes p.tree) (λ p a b. one_count p.tree a b) v.pieces m n h i

one_many : (s : FlatSystem) (k j : Quantity) (n m : ℕ) → HasMany s k n → HasMany s j m → (k ≡ j) × (n ≡ m)
one_many s k j n m h i =
    let same = one_total HasNodesIn one_in s.variables h.number i.number h.nodes i.nodes in
    (h.kind_is ∙ sym i.kind_is, h.is ∙ ap (λ (x : ℕ). min x (2 ^ 128 - 1)) same ∙ sym i.is)

-- ---- one cause against the chains

one_serial : (s : FlatSystem) (f g : SerialFault) → serialised.IsFault s f → serialised.IsFault s g → f ≢ serial.Memory → g ≢ serial.Memory → f ≡ g
one_serial s serial.Memory g h i nf ng = absurd (nf refl)
one_serial s (serial.NonUnit a) serial.Memory h i nf ng = absurd (ng refl)
one_serial s (serial.Unbounded a) serial.Memory h i nf ng = absurd (ng refl)
one_serial s (serial.Limit k n) serial.Memory h i nf ng = absurd (ng refl)
one_serial s (serial.NonUnit a) (serial.NonUnit b) h i nf ng = one_first_cause s (serial.NonUnit a) (serial.NonUnit b) h i
one_serial s (serial.NonUnit a) (serial.Unbounded b) h i nf ng = one_first_cause s (serial.NonUnit a) (serial.Unbounded b) h i
one_serial s (serial.NonUnit a) (serial.Limit j m) h (inl i) nf ng = one_first_cause s (serial.NonUnit a) (serial.Limit j m) h i
one_serial s (serial.NonUnit a) (serial.Limit j m) h (inr i) nf ng = absurd (i.0 (serial.NonUnit a, h))
one_serial s (serial.Unbounded a) (serial.NonUnit b) h i nf ng = one_first_cause s (serial.Unbounded a) (serial.NonUnit b) h i
one_serial s (serial.Unbounded a) (serial.Unbounded b) h i nf ng = one_first_cause s (serial.Unbounded a) (serial.Unbounded b) h i
one_serial s (serial.Unbounded a) (serial.Limit j m) h (inl i) nf ng = one_first_cause s (serial.Unbounded a) (serial.Limit j m) h i
one_serial s (serial.Unbounded a) (serial.Limit j m) h (inr i) nf ng = absurd (i.0 (serial.Unbounded a, h))
one_serial s (serial.Limit k n) (serial.NonUnit b) (inl h) i nf ng = one_first_cause s (serial.Limit k n) (serial.NonUnit b) h i
one_serial s (serial.Limit k n) (serial.NonUnit b) (inr h) i nf ng = absurd (h.0 (serial.NonUnit b, i))
one_serial s (serial.Limit k n) (serial.Unbounded b) (inl h) i nf ng = one_first_cause s (serial.Limit k n) (serial.Unbounded b) h i
one_serial s (serial.Limit k n) (serial.Unbounded b) (inr h) i nf ng = absurd (h.0 (serial.Unbounded b, i))
one_serial s (serial.Limit k n) (serial.Limit j m) (inl h) (inl i) nf ng = one_first_cause s (serial.Limit k n) (serial.Limit j m) h i
one_serial s (serial.Limit k n) (serial.Limit j m) (inl h) (inr i) nf ng = absurd (i.0 (serial.Limit k n, h))
one_serial s (serial.Limit k n) (serial.Limit j m) (inr h) (inl i) nf ng = absurd (h.0 (serial.Limit j m, i))
one_serial s (serial.Limit k n) (serial.Limit j m) (inr h) (inr i) nf ng = let same = one_many s k j n m h.1 i.1 in ap₂ (λ (q : Quantity) (x : ℕ). serial.Limit q x) same.0 same.1

-- ---- one cause against a schedule

one_search : (s : FlatSystem) (c : ℕ) (f g : SchedFault) → searched.IsFault s c f → searched.IsFault s c g → f ≢ sched.Memory → g ≢ sched.Memory → f ≡ g
one_search s c sched.Memory g h i nf ng = absurd (nf refl)
one_search s c (sched.Candidates n) g h i nf ng = sym (wide_only s c n h g i ng)
one_search s c (sched.NoSchedule name) g h i nf ng = sym (stuck_only s c h.components name h.are_components h.few h g i ng)

-- ---- one first fault of a text

module _ (bytes : List ℕ) (words : List Size) (width : ℕ) where
  -- proper equations with a normal form have no fault up to there
  normal_unrefused : (n : FlatSystem) (r : Refusal) → Normalises bytes words width n → IsRefused bytes words width r → r ≢ refusal.Memory → ⊥
  normal_unrefused n r h is some = not_checked bytes words width h.flat r h.flattens h.given.no_cause h.proper is some

  -- and where its reductions become chains, they have none
  chains_unrefused : (s n : FlatSystem) (f : SerialFault) → Serialises bytes words width s → Normalises bytes words width n → serialised.IsFault n f → f ≡ serial.Memory
  chains_unrefused s n f h k is = h.given.no_cause f (subst (λ (m : FlatSystem). serialised.IsFault m f) (one_normalised bytes words width n h.normal k h.normalises) is)

  module _ (c : ℕ) where
    pub one_unscheduled : (r q : Refusal) → IsUnscheduled bytes words width c r → IsUnscheduled bytes words width c q → r ≢ refusal.Memory → q ≢ refusal.Memory → r ≡ q
    one_unscheduled r q (in_text h) (in_text k) nr nq = one_refusal bytes words width r q h k nr nq
    one_unscheduled r q (in_text h) (in_reductions g d n normal at) nr nq = absurd (normal_unrefused n r normal h nr)
    one_unscheduled r q (in_text h) (in_search g d s chained at) nr nq = absurd (normal_unrefused chained.normal r chained.normalises h nr)
    one_unscheduled r q (in_reductions f e n normal is) (in_text k) nr nq = absurd (normal_unrefused n q normal k nq)
    one_unscheduled r q (in_reductions f e n normal is) (in_reductions g d m other at) nr nq =
        let same = subst (λ (x : FlatSystem). serialised.IsFault x g) (one_normalised bytes words width m n other normal) at in
        e ∙ ap of_serial (one_serial n f g is same (λ z. nr (e ∙ ap of_serial z)) (λ z. nq (d ∙ ap of_serial z))) ∙ sym d
    one_unscheduled r q (in_reductions f e n normal is) (in_search g d s chained at) nr nq = absurd (nr (e ∙ ap of_serial (chains_unrefused s n f chained normal is)))
    one_unscheduled r q (in_search f e s chained is) (in_text k) nr nq = absurd (normal_unrefused chained.normal q chained.normalises k nq)
    one_unscheduled r q (in_search f e s chained is) (in_reductions g d n normal at) nr nq = absurd (nq (d ∙ ap of_serial (chains_unrefused s n g chained normal at)))
    one_unscheduled r q (in_search f e s chained is) (in_search g d t other at) nr nq =
        let same = subst (λ (x : FlatSystem). searched.IsFault x c g) (one_chained bytes words width t s other chained) at in
        e ∙ ap of_sched (one_search s c f g is same (λ z. nr (e ∙ ap of_sched z)) (λ z. nq (d ∙ ap of_sched z))) ∙ sym d

    -- a text with a first schedule has no fault up to there
    pub not_scheduled : (s : FlatSystem) (r : Refusal) → Serialises bytes words width s → HasFirstSchedule s c → IsUnscheduled bytes words width c r → r ≢ refusal.Memory → ⊥
    not_scheduled s r h first (in_text is) some = normal_unrefused h.normal r h.normalises is some
    not_scheduled s r h first (in_reductions f e n normal is) some = some (e ∙ ap of_serial (chains_unrefused s n f h normal is))
    not_scheduled s r h first (in_search f e t other is) some =
        some (e ∙ ap of_sched (first f (subst (λ (x : FlatSystem). searched.IsFault x c f) (one_chained bytes words width t s other h) is)))
