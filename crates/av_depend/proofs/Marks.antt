-- Marks spread along edges until none leads out of them: then those nodes are marked that are reached.
use Rattle.std.proofs.Common.{◌≡◌, ℕ, ◌<◌, Bool, true, false, IsTrue, List, length, get_or, inl, inr, ◌⊎◌, ⊎_elim, refl, sym, ap, subst, ◌∙◌, arith, All}
use Rattle.std.specs.Prelude.{Contains, replicate, sum_by}
use Rattle.std.proofs.Math.ListN.{set}
use Rattle.std.proofs.lemmas.Bool.{cases_eq, cases_lt}
use Rattle.std.proofs.lemmas.List.{get_or-set_same, get_or-set_other, get_or-replicate, get_or_past, length-set, length-replicate}
use Rattle.std.proofs.lemmas.List.Sums.{sum_by-set}
use Rattle.av_depend.specs.declared.edge.Edge.{Edge}
use Rattle.av_depend.specs.Components.{Reaches, itself, onward, IsJoined}
use Rattle.av_depend.specs.inner.Reaching.{is_marked, IsOpen, IsClosed, IsReached}

-- ---- reaching

pub reaches_on : (R : ℕ → ℕ → Type 0) (u v w : ℕ) → Reaches R u v → R v w → Reaches R u w
reaches_on R u v w itself r = onward r itself
reaches_on R u v w (onward {v = x} a h) r = onward a (reaches_on R x v w h r)

pub reaches_through : (R : ℕ → ℕ → Type 0) (u v w : ℕ) → Reaches R u v → Reaches R v w → Reaches R u w
reaches_through R u v w itself k = k
reaches_through R u v w (onward {v = x} a h) k = onward a (reaches_through R x v w h k)

-- ---- marks

-- as many marks as nodes, this one among them, and each marked node is reached from it
pub record IsSpread (n : ℕ) (R : ℕ → ℕ → Type 0) (from : ℕ) (marks : List Bool) : Type 0 where
  pub size : length marks ≡ n
  pub own : IsTrue (is_marked marks from)
  pub sound : (v : ℕ) → IsTrue (is_marked marks v) → Reaches R from v

none_marked : (n v : ℕ) → get_or (replicate n false) v false ≡ false
none_marked n v = ⊎_elim
    (λ l. get_or-replicate n v false false l)
    (λ m. get_or_past (replicate n false) v false (let s = length-replicate n false in omega (arith, s, m)))
    (cases_lt v n)

marked_more : (marks : List Bool) (k v : ℕ) → k < length marks → IsTrue (is_marked (set marks k true) v) → (v ≡ k) ⊎ IsTrue (is_marked marks v)
marked_more marks k v l h = ⊎_elim
    (λ e. inl e)
    (λ n. inr (sym (get_or-set_other marks k v true false n) ∙ h))
    (cases_eq v k)

kept_marked : (marks : List Bool) (k v : ℕ) → k < length marks → IsTrue (is_marked marks v) → IsTrue (is_marked (set marks k true) v)
kept_marked marks k v l h = ⊎_elim
    (λ e. ap (λ i. get_or (set marks k true) i false) e ∙ get_or-set_same marks k true false l)
    (λ n. get_or-set_other marks k v true false n ∙ h)
    (cases_eq v k)

pub spread_start : (n from : ℕ) (R : ℕ → ℕ → Type 0) (marks : List Bool) → marks ≡ replicate n false → from < n → IsSpread n R from (set marks from true)
spread_start n from R marks e l =
    let size : length marks ≡ n = ap length e ∙ length-replicate n false in
    let own : from < length marks = omega (arith, size, l) in
    record {
      size = length-set marks from true ∙ size;
      own = get_or-set_same marks from true false own;
      sound = λ v h. ⊎_elim
          (λ same. subst (Reaches R from) (sym same) itself)
          (λ old. absurd (let f = ap (λ (xs : List Bool). get_or xs v false) e ∙ none_marked n v in let g = sym f ∙ old in cc))
          (marked_more marks from v own h);
    }

pub spread_more : (n from k : ℕ) (edges : List Edge) (marks : List Bool) → IsSpread n (IsJoined edges) from marks → IsOpen edges marks k → k < length marks → IsSpread n (IsJoined edges) from (set marks k true)
spread_more n from k edges marks s o l = record {
  size = length-set marks k true ∙ s.size;
  own = kept_marked marks k from l s.own;
  sound = λ v h. ⊎_elim
      (λ same. subst (Reaches (IsJoined edges) from) (sym same) (reaches_on (IsJoined edges) from o.from k (s.sound o.from o.marked) o.joined))
      (λ old. s.sound v old)
      (marked_more marks k v l h);
}

closed_marks : (edges : List Edge) (marks : List Bool) (u v : ℕ) → IsClosed edges marks → Reaches (IsJoined edges) u v → IsTrue (is_marked marks u) → IsTrue (is_marked marks v)
closed_marks edges marks u v closed itself m = m
closed_marks edges marks u v closed (onward {v = x} a h) m = closed_marks edges marks x v closed h (closed u x a m)

pub spread_closed : (n from : ℕ) (edges : List Edge) (marks : List Bool) → IsSpread n (IsJoined edges) from marks → IsClosed edges marks → IsReached n (IsJoined edges) from marks
spread_closed n from edges marks s closed = record {
  size = s.size;
  marked = λ v l. (λ h. s.sound v h, λ h. closed_marks edges marks from v closed h s.own);
}

-- ---- marks that are left to set

abbrev pub left_by : Bool → ℕ
left_by true = 0
left_by false = 1

pub fewer_left : (marks : List Bool) (k : ℕ) → k < length marks → is_marked marks k ≡ false → sum_by left_by (set marks k true) < sum_by left_by marks
fewer_left marks k l e =
    let s = sum_by-set left_by marks k true false l in
    let f : left_by (get_or marks k false) ≡ 1 = ap left_by e in
    omega (arith, s, f)

-- ---- edges that lead out

-- no edge among them leads from a marked node to one without a mark
abbrev pub LeadsNot : List Bool → Edge → Type 0
LeadsNot marks e = IsTrue (is_marked marks e.consumer) → IsTrue (is_marked marks e.producer)

pub closed_by : (edges : List Edge) (marks : List Bool) → All (LeadsNot marks) edges → IsClosed edges marks
closed_by edges marks h u v (k, e, l, at, ends) m =
    let own : IsTrue (is_marked marks e.consumer) = subst (λ (i : ℕ). IsTrue (is_marked marks i)) (sym ends.0) m in
    let there : LeadsNot marks e = subst (LeadsNot marks) at (h k e l) in
    subst (λ (i : ℕ). IsTrue (is_marked marks i)) ends.1 (there own)

pub open_by : (edges : List Edge) (marks : List Bool) (e : Edge) → Contains edges e → IsTrue (is_marked marks e.consumer) → is_marked marks e.producer ≡ false → IsOpen edges marks e.producer
open_by edges marks e (k, l, at) m f = record { from = e.consumer; marked = m; joined = (k, e, l, at, (refl, refl)); free = f }
