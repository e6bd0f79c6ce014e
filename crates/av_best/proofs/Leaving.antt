-- What a choice of all parts does to the best one, and when choices are left out.
use Rattle.std.proofs.Common.{◌≡◌, ℕ, zero, suc, ◌<◌, ◌≤◌, ℤ, pos, ◌≤ℤ◌, inl, inr, ⊎_elim, Option, Some, None, List, ◌∷◌, length, take, drop, sym, ap, subst, ◌∙◌, arith}
use Rattle.std.proofs.lemmas.Int.{ints}
use Rattle.std.proofs.lemmas.Bool.{cases_eq}
use Rattle.std.proofs.lemmas.Option.{slice_get_within}
use Rattle.av_tree.specs.Points.{Point}
use Rattle.av_flat.specs.Trees.{FlatSystem}
use Rattle.av_flat.specs.Nodes.{nodes, IsComputation}
use Rattle.av_sched.specs.declared.price.Price.{Price}
use Rattle.av_sched.specs.Offsets.{cycle_at, AreOffsets, AreLeastOffsets}
use Rattle.av_sched.specs.Choices.{AreLinearParts}
use Rattle.av_sched.specs.Order.{cost, IsLess}
use Rattle.av_sched.specs.Leads.{AreStarts}
use Rattle.av_sched.specs.Prices.{IsSpent, IsFloor}
use Rattle.av_sched.proofs.Walking.{not_before}
use Rattle.av_sched.proofs.Tries.{not_itself, not_both, cost_length}
use Rattle.av_sched.proofs.Pricing.{dear_later}
use Rattle.av_best.specs.declared.best.Best.{Best}
use Rattle.av_best.specs.declared.space.Estimate.{Estimate}
use Rattle.av_best.specs.declared.span.PartSpan.{PartSpan}
use Rattle.av_best.specs.Lengths.{HasLength}
use Rattle.av_best.specs.Least.{all_nodes}
use Rattle.av_best.specs.inner.Spans.{AreSpanned, AreLows, IsLeastAbove}
use Rattle.av_best.specs.inner.Joint.{FitsIn, joint_cost, IsMet, IsChosen, IsSound, IsBarred, HasWalked, IsForbidden, IsBound, IsAhead, IsBehind}
use Rattle.av_best.proofs.Every.{as_many, all_within, same_choice}

-- ---- lengths

-- no offsets make the length less than the least offsets do
pub length_least : (s : FlatSystem) (linear : List Point) (off : List ℤ) (m n : ℕ) → AreLeastOffsets s linear off → HasLength s linear off m → FitsIn s linear n → m ≤ n
length_least s linear off zero n least h f = omega arith
length_least s linear off (suc x) n least h f =
    let l = slice_get_within (nodes s) h.node h.is_computation.variable h.is_computation.is in
    let b = least.least f.offsets f.are h.node l in
    let before = f.before h.node h.point h.is_computation in
    let r = h.reached in
    omega (arith, ints, b, before, r)

module _ (s : FlatSystem) (linear : List Point) (spans : List PartSpan) (spanned : AreSpanned s (length (all_nodes s)) linear spans) (d : PartSpan) where
  node_in : (n : ℕ) (z : Point) → IsComputation s n z → n < length (all_nodes s)
  node_in n z i = let l = slice_get_within (nodes s) n i.variable i.is in let e = as_many s in omega (arith, l, e)

  -- the starts of all nodes
  pub starts_there : (low : List ℤ) → AreLows (length (all_nodes s)) spans low → AreStarts s linear low
  starts_there low lows = record {
    one_each = lows.one_each ∙ as_many s;
    each = λ n l.
        let m : n < length (all_nodes s) = (let e = as_many s in omega (arith, l, e)) in
        let sp = spanned.each n d m in
        let e = lows.each n d m in
        record {
          none_below = λ z i. let b = sp.low_below z i in omega (arith, ints, b, e);
          point = sp.low_point;
          is_point = sp.low_is;
          taken = (let t = sp.low_taken in omega (arith, ints, t, e));
        };
  }

  -- the least number above all last cycles is the length
  pub length_there : (off : List ℤ) (m : ℕ) → ((n : ℕ) (z : Point) → IsComputation s n z → pos 0 ≤ℤ cycle_at linear off n z) → IsLeastAbove off spans (length (all_nodes s)) m → HasLength s linear off m
  length_there off zero start above = λ n z i.
      let m = node_in n z i in
      let sp = spanned.each n d m in
      let a = above.above n d m in
      let b = sp.high_above z i in
      let c = start n z i in
      omega (arith, ints, a, b, c)
  length_there off (suc x) start above = ⊎_elim
      (λ e. absurd (omega (arith, e)))
      (λ r.
      let sp = spanned.each r.0 d r.1 in
      let q = r.2 d in
      record {
        node = r.0;
        point = sp.high_point;
        is_computation = sp.high_is;
        reached = (let t = sp.high_taken in omega (arith, ints, t, q));
        last = λ n z i.
            let m = node_in n z i in
            let a = above.above n d m in
            let b = (spanned.each n d m).high_above z i in
            omega (arith, ints, a, b);
      }) above.reached

-- ---- the order

-- with a greater number in front a list is less only where it is so with the lesser one
pub ahead_less : (m n b : ℕ) (xs ys : List ℕ) → m ≤ n → IsLess (n ∷ xs) (b ∷ ys) → IsLess (m ∷ xs) (b ∷ ys)
ahead_less m n b xs ys l (inl h) = inl (omega (arith, l, h))
ahead_less m n b xs ys l (inr h) = ⊎_elim
    (λ e. inr (e ∙ h.0, h.1))
    (λ e. inl (let q = h.0 in omega (arith, l, e, q))) (cases_eq m n)

not_less : (m n : ℕ) (xs : List ℕ) → m ≤ n → IsLess (n ∷ xs) (m ∷ xs) → ⊥
not_less m n xs l (inl h) = omega (arith, l, h)
not_less m n xs l (inr h) = not_itself xs h.1

-- ---- leaves

module _ (s : FlatSystem) (c : ℕ) (linear : List Point) (are : AreLinearParts s c linear) where
  costs : (m n : ℕ) (a b : List Point) → AreLinearParts s c a → AreLinearParts s c b → length (joint_cost s m a) ≡ length (joint_cost s n b)
  costs m n a b p q = ap suc (cost_length s c (all_nodes s) a b p q (all_within s))

  -- a choice that comes before the best one takes its place
  pub leaf_taken : (old : Option Best) (new : Best) → new.parts.items ≡ linear → IsSound s c old → IsChosen s c new → IsAhead s new.cycles linear old → HasWalked s c (length (all_nodes s)) linear old (Some new)
  leaf_taken old new is sound chosen ahead = record {
    sound = chosen;
    keeps = λ other parts met n f. kept old sound ahead other parts met n f;
    covers = λ other parts agrees n f less.
        let same : other ≡ new.parts.items = same_choice s c linear other are parts agrees ∙ sym is in
        let f' = subst (λ (ps : List Point). FitsIn s ps n) same f in
        let m = length_least s new.parts.items new.offsets.items new.cycles n chosen.offsets chosen.has_length f' in
        not_less new.cycles n (cost s (all_nodes s) new.parts.items) m (subst (λ (ps : List Point). IsLess (joint_cost s n ps) (joint_cost s new.cycles new.parts.items)) same less);
  }
    where
      kept : (o : Option Best) → IsSound s c o → IsAhead s new.cycles linear o → (other : List Point) → AreLinearParts s c other → IsMet s o other → (n : ℕ) → FitsIn s other n
          → IsLess (joint_cost s n other) (joint_cost s new.cycles new.parts.items) → ⊥
      kept None sound ahead other parts met n f less = met f.offsets f.are
      kept (Some best) sound ahead other parts met n f less =
          let front = subst (λ (ps : List Point). IsLess (joint_cost s new.cycles ps) (joint_cost s best.cycles best.parts.items)) (sym is) ahead in
          not_before (joint_cost s n other) (joint_cost s best.cycles best.parts.items) (joint_cost s new.cycles new.parts.items)
          (costs n best.cycles other best.parts.items parts sound.are) (costs best.cycles new.cycles best.parts.items new.parts.items sound.are chosen.are) (met n f)
          (λ h. not_both (joint_cost s new.cycles new.parts.items) (joint_cost s best.cycles best.parts.items) front h) less

  -- one that does not even with a length that it does not fall below is left
  pub leaf_kept : (m : ℕ) (old : Option Best) → IsSound s c old → IsBound s c (length (all_nodes s)) linear m → (IsAhead s m linear old → ⊥) → HasWalked s c (length (all_nodes s)) linear old old
  leaf_kept m None sound bound behind = absurd (behind tt)
  leaf_kept m (Some best) sound bound behind = record {
    sound = sound;
    keeps = λ other parts met. met;
    covers = λ other parts agrees n f less.
        let same : other ≡ linear = same_choice s c linear other are parts agrees in
        let l = bound other n parts agrees f in
        behind (ahead_less m n best.cycles (cost s (all_nodes s) linear) (cost s (all_nodes s) best.parts.items) l (subst (λ (ps : List Point). IsLess (joint_cost s n ps) (joint_cost s best.cycles best.parts.items)) same less));
  }

  -- least offsets give such a length
  pub least_bound : (off : List ℤ) (m : ℕ) → AreLeastOffsets s linear off → HasLength s linear off m → IsBound s c (length (all_nodes s)) linear m
  least_bound off m least h = λ other n parts agrees f. length_least s linear off m n least h (subst (λ (ps : List Point). FitsIn s ps n) (same_choice s c linear other are parts agrees) f)

  -- and one without offsets is left
  pub leaf_barred : (old : Option Best) → IsSound s c old → ((off : List ℤ) → AreOffsets s linear off → ⊥) → HasWalked s c (length (all_nodes s)) linear old old
  leaf_barred old sound none = record { sound = sound; keeps = λ other parts met. met; covers = λ other parts agrees. met_by old other (same_choice s c linear other are parts agrees) }
    where
      met_by : (o : Option Best) (other : List Point) → other ≡ linear → IsMet s o other
      met_by None other same = λ off h. none off (subst (λ (ps : List Point). AreOffsets s ps off) same h)
      met_by (Some best) other same = λ n f less. none f.offsets (subst (λ (ps : List Point). AreOffsets s ps f.offsets) same f.are)

-- ---- what is left out

module _ (s : FlatSystem) (c k : ℕ) (linear : List Point) where
  pub barred_none : (best : Option Best) → IsForbidden s k linear → IsBarred s c k linear best
  barred_none None forbidden = λ other parts agrees off h. forbidden other off agrees h
  barred_none (Some best) forbidden = λ other parts agrees n f less. forbidden other f.offsets agrees f.are

  -- where the parts are no shorter than the estimate, and the rest costs no less than its floor
  pub barred_behind : (best : Option Best) (estimate : Estimate) (rest : Price) → IsSound s c best → IsBound s c k linear estimate.cycles → IsSpent s linear (take k (all_nodes s)) estimate.spent → IsFloor s c (drop k (all_nodes s)) rest
      → IsBehind estimate rest best → IsBarred s c k linear best
  barred_behind None estimate rest sound bound spent floor behind = absurd behind
  barred_behind (Some best) estimate rest sound bound spent floor (inl longer) = λ other parts agrees n f less.
      let l = bound other n parts agrees f in
      ⊎_elim (λ h. omega (arith, longer, l, h)) (λ h. let e = h.0 in omega (arith, longer, l, e)) less
  barred_behind (Some best) estimate rest sound bound spent floor (inr dearer) = λ other parts agrees n f less.
      let l = bound other n parts agrees f in
      let e = dearer.0 in
      ⊎_elim (λ h. omega (arith, e, l, h))
      (λ h. dear_later s c (all_nodes s) k linear best.parts.items estimate.spent rest best.price spent floor sound.spent dearer.1 other parts agrees h.1) less
