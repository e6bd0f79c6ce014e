-- A round settles a node more, against any solution: of the nodes that are not settled the one nearest to the solution stays.
use Rattle.std.proofs.Common.{◌≡◌, ◌≢◌, ℕ, zero, suc, ◌+◌, ◌*◌, ◌<◌, ◌≤◌, arith, ℤ, pos, ◌+ℤ◌, ◌≤ℤ◌, ◌⊎◌, inl, inr, ⊎_elim, List, [], ◌∷◌, length, get_or, refl, ap, sym, ◌∙◌, subst, Bool, true, false, if◌then◌else◌, int_lt, eqb, ◌||◌, get_or-set_same, get_or-set_other, length-set, true≢false, All, unsigned_abs}
use Rattle.std.specs.Prelude.{Contains, slice_set}
use Rattle.std.proofs.lemmas.Int.{ints, by_lt_z}
use Rattle.std.proofs.lemmas.Bool.{cases_eq}
use Rattle.std.proofs.lemmas.Bool.Decides.{nat_tests}
use Rattle.std.proofs.lemmas.List.Elements.{All-contains_itself, All-contains, All-weaker, All-head, All-tail, All-cons, All-nil}
use Rattle.av_base.proofs.Among.{first_among, more_among}
use Rattle.av_sched.specs.declared.arc.Arc.{Arc}
use Rattle.av_sched.specs.Arcs.{at, IsLate, Solves, IsLeastSolution, IsArc, AreSmall}
use Rattle.av_sched.specs.inner.Rounds.{raised, raised_all}
use Rattle.av_base.proofs.Lists.{same_default}
use Rattle.av_base.proofs.Truths.{by_test}

-- ---- what a round makes of the old offsets

pub record IsRound (arcs : List Arc) (old new : List ℤ) : Type 0 where
  pub size : length new ≡ length old
  pub grows : (k : ℕ) → at old k ≤ℤ at new k
  pub late : All (λ e. (at old e.read +ℤ e.weight) ≤ℤ at new e.reader) arcs
  pub source : (k : ℕ) → (at new k ≡ at old k) ⊎ ((e : Arc) × Contains arcs e × (e.reader ≡ k) × (at new k ≡ at old e.read +ℤ e.weight))

-- one arc
pub record IsRaised (e : Arc) (old off new : List ℤ) : Type 0 where
  pub size : length new ≡ length off
  pub grows : (k : ℕ) → at off k ≤ℤ at new k
  pub late : (at old e.read +ℤ e.weight) ≤ℤ at new e.reader
  pub source : (k : ℕ) → (at new k ≡ at off k) ⊎ ((e.reader ≡ k) × (at new k ≡ at old e.read +ℤ e.weight))

is_raised : (e : Arc) (old off : List ℤ) → e.reader < length off → IsRaised e old off (raised old e off)
is_raised e old off l = by_lt_z (at off e.reader) z
    (λ less. let t : int_lt (at off e.reader) z ≡ true = grind (arith, ints, less) in
    rw t (record {
      size = length-set off e.reader z;
      grows = λ k. ⊎_elim (λ q. subst (λ (k : ℕ). at off k ≤ℤ at (slice_set off e.reader z) k) (sym q) (omega (arith, ints, here, less))) (λ n. omega (arith, ints, other k n)) (cases_eq k e.reader);
      late = omega (arith, ints, here);
      source = λ k. ⊎_elim (λ q. inr (sym q, subst (λ (k : ℕ). at (slice_set off e.reader z) k ≡ z) (sym q) here)) (λ n. inl (other k n)) (cases_eq k e.reader);
    }))
    (λ late. let t : int_lt (at off e.reader) z ≡ false = grind (arith, ints, late) in
    rw t (record { size = refl; grows = λ k. omega (arith, ints); late = late; source = λ k. inl refl }))
  where
    z : ℤ
    z = at old e.read +ℤ e.weight

    here : at (slice_set off e.reader (at old e.read +ℤ e.weight)) e.reader ≡ at old e.read +ℤ e.weight
    here = get_or-set_same off e.reader (at old e.read +ℤ e.weight) (pos 0) l

    other : (k : ℕ) → k ≢ e.reader → at (slice_set off e.reader (at old e.read +ℤ e.weight)) k ≡ at off k
    other k n = get_or-set_other off e.reader k (at old e.read +ℤ e.weight) (pos 0) n

pub length_raised : (e : Arc) (old off : List ℤ) → length (raised old e off) ≡ length off
length_raised e old off = by_test (int_lt (at off e.reader) (at old e.read +ℤ e.weight))
    (λ t. ap length (ap (λ b. if b then slice_set off e.reader (at old e.read +ℤ e.weight) else off) t) ∙ length-set off e.reader (at old e.read +ℤ e.weight))
    (λ t. ap length (ap (λ b. if b then slice_set off e.reader (at old e.read +ℤ e.weight) else off) t))

-- ---- all arcs

pub record IsRoundFrom (arcs : List Arc) (old off new : List ℤ) : Type 0 where
  pub size : length new ≡ length off
  pub grows : (k : ℕ) → at off k ≤ℤ at new k
  pub late : All (λ e. (at old e.read +ℤ e.weight) ≤ℤ at new e.reader) arcs
  pub source : (k : ℕ) → (at new k ≡ at off k) ⊎ ((e : Arc) × Contains arcs e × (e.reader ≡ k) × (at new k ≡ at old e.read +ℤ e.weight))

round_from : (arcs : List Arc) (old off : List ℤ) → All (λ e. e.reader < length off) arcs → IsRoundFrom arcs old off (raised_all old arcs off)
round_from [] old off h = record { size = refl; grows = λ k. omega (arith, ints); late = All-nil (λ e. (at old e.read +ℤ e.weight) ≤ℤ at off e.reader); source = λ k. inl refl }
round_from (e ∷ arcs) old off h =
    let one = is_raised e old off (All-head (λ e. e.reader < length off) e arcs h) in
    let mid = raised old e off in
    let rest = round_from arcs old mid (subst (λ (n : ℕ). All (λ e. e.reader < n) arcs) (sym one.size) (All-tail (λ e. e.reader < length off) e arcs h)) in
    let new = raised_all old arcs mid in
    record {
      size = rest.size ∙ one.size;
      grows = λ k. let a = one.grows k in let b = rest.grows k in omega (arith, ints, a, b);
      late = All-cons (λ e. (at old e.read +ℤ e.weight) ≤ℤ at new e.reader) e arcs (let a = one.late in let b = rest.grows e.reader in omega (arith, ints, a, b)) rest.late;
      source = λ k. ⊎_elim
          (λ q. ⊎_elim (λ r. inl (q ∙ r)) (λ r. inr (e, first_among e arcs, r.0, q ∙ r.1)) (one.source k))
          (λ r. inr (r.0, more_among e r.0 arcs r.1, r.2, r.3)) (rest.source k);
    }

is_round : (arcs : List Arc) (old : List ℤ) → All (λ e. e.reader < length old) arcs → IsRound arcs old (raised_all old arcs old)
is_round arcs old h = let r = round_from arcs old old h in record { size = r.size; grows = r.grows; late = r.late; source = r.source }

-- ---- nodes that are left

abbrev pub mem : ℕ → List ℕ → Bool
mem v [] = false
mem v (u ∷ rest) = eqb v u || mem v rest

-- the first is no further from x than the second
abbrev pub Nearer : List ℤ → List ℤ → ℕ → ℕ → Type 0
Nearer x off u v = (at x u +ℤ at off v) ≤ℤ (at x v +ℤ at off u)

-- m is the nearest of those left, and rest are the others
pub record Picked (x off : List ℤ) (left : List ℕ) (m : ℕ) (rest : List ℕ) : Type 0 where
  pub fewer : length left ≡ suc (length rest)
  pub is : mem m left ≡ true
  pub out : (v : ℕ) → mem v rest ≡ false → (mem v left ≡ false) ⊎ (v ≡ m)
  pub within : (v : ℕ) → mem v rest ≡ true → mem v left ≡ true
  pub least : (v : ℕ) → mem v left ≡ true → Nearer x off m v

mem_cases : (v u : ℕ) (rest : List ℕ) → mem v (u ∷ rest) ≡ true → (v ≡ u) ⊎ (mem v rest ≡ true)
mem_cases v u rest e = grind (arith, nat_tests)

mem_apart : (v u : ℕ) (rest : List ℕ) → mem v (u ∷ rest) ≡ false → (v ≢ u) × (mem v rest ≡ false)
mem_apart v u rest e = (grind (arith, nat_tests), grind (arith, nat_tests))

mem_here : (u : ℕ) (rest : List ℕ) → mem u (u ∷ rest) ≡ true
mem_here u rest = grind (arith, nat_tests)

mem_more : (v u : ℕ) (rest : List ℕ) → mem v rest ≡ true → mem v (u ∷ rest) ≡ true
mem_more v u rest e = grind (arith, nat_tests)

mem_none : (v u : ℕ) (rest : List ℕ) → v ≢ u → mem v rest ≡ false → mem v (u ∷ rest) ≡ false
mem_none v u rest n e = grind (arith, nat_tests)

mem_is : (v u : ℕ) (rest : List ℕ) → v ≡ u → mem v (u ∷ rest) ≡ true
mem_is v u rest e = grind (arith, nat_tests)

nearer_at : (x off : List ℤ) (m u v : ℕ) → v ≡ u → Nearer x off m u → Nearer x off m v
nearer_at x off m u v e h = subst (λ (k : ℕ). Nearer x off m k) (sym e) h

near_refl : (x off : List ℤ) (u v : ℕ) → v ≡ u → Nearer x off u v
near_refl x off u v e = rw e (omega (arith, ints))

pub pick : (x off : List ℤ) (u : ℕ) (left : List ℕ) → (m : ℕ) × (rest : List ℕ) × Picked x off (u ∷ left) m rest
pick x off u [] = (
  u,
  [],
  record {
    fewer = omega arith;
    is = mem_here u [];
    out = λ v e. grind (arith, nat_tests);
    within = λ v e. grind (arith, nat_tests);
    least = λ v e. near_refl x off u v (grind (arith, nat_tests));
  },
)
pick x off u (w ∷ left) =
    let p = pick x off w left in
    let m = p.0 in
    let rest = p.1 in
    let q = p.2 in
    by_lt_z (at x m +ℤ at off u) (at x u +ℤ at off m)
    (λ less. (
      m,
      u ∷ rest,
      record {
        fewer = omega (arith, q.fewer);
        is = mem_more m u (w ∷ left) q.is;
        out = λ v e. ⊎_elim (λ o. inl (mem_none v u (w ∷ left) (mem_apart v u rest e).0 o)) inr (q.out v (mem_apart v u rest e).1);
        within = λ v e. ⊎_elim (λ o. mem_is v u (w ∷ left) o) (λ o. mem_more v u (w ∷ left) (q.within v o)) (mem_cases v u rest e);
        least = λ v e. ⊎_elim (λ o. nearer_at x off m u v o (omega (arith, ints))) (λ o. q.least v o) (mem_cases v u (w ∷ left) e);
      },
    ))
    (λ more. (
      u,
      w ∷ left,
      record {
        fewer = omega arith;
        is = mem_here u (w ∷ left);
        out = λ v e. ⊎_elim inr (λ n. inl (mem_none v u (w ∷ left) n e)) (cases_eq v u);
        within = λ v e. mem_more v u (w ∷ left) e;
        least = λ v e. ⊎_elim (λ o. near_refl x off u v o) (λ o. let h = q.least v o in omega (arith, ints, h)) (mem_cases v u (w ∷ left) e);
      },
    ))

-- ---- what a round settles

-- arcs that read a node which is not left are late, and such nodes are nearer to x than those left
pub record Settled (arcs : List Arc) (x : List ℤ) (left : List ℕ) (off : List ℤ) : Type 0 where
  pub done : (e : Arc) → Contains arcs e → mem e.read left ≡ false → IsLate off e
  pub order : (u v : ℕ) → u < length x → mem u left ≡ false → mem v left ≡ true → Nearer x off u v

module _ (arcs : List Arc) (x old new : List ℤ) (left : List ℕ) (late : All (IsLate x) arcs) (round : IsRound arcs old new) (settled : Settled arcs x left old) where
  late_in : (e : Arc) → Contains arcs e → IsLate x e
  late_in e c = All-contains (IsLate x) arcs e late c

  -- what is nearer than all that are left stays
  stays : (u : ℕ) → ((v : ℕ) → mem v left ≡ true → Nearer x old u v) → at new u ≡ at old u
  stays u low = ⊎_elim (λ q. q)
      (λ s. let e = s.0 in
      let up = round.grows u in
      let lx : (at x e.read +ℤ e.weight) ≤ℤ at x u = subst (λ (k : ℕ). (at x e.read +ℤ e.weight) ≤ℤ at x k) s.2 (late_in e s.1) in
      let down : at new u ≤ℤ at old u = by_test (mem e.read left)
      (λ t. let n = low e.read t in let q = s.3 in omega (arith, ints, n, q, lx))
      (λ f. let l : (at old e.read +ℤ e.weight) ≤ℤ at old u = subst (λ (k : ℕ). (at old e.read +ℤ e.weight) ≤ℤ at old k) s.2 (settled.done e s.1 f) in let q = s.3 in omega (arith, ints, l, q)) in
      omega (arith, ints, up, down))
      (round.source u)

  -- and so it is still nearer after the round
  still : (u v : ℕ) → ((w : ℕ) → mem w left ≡ true → Nearer x old u w) → mem v left ≡ true → Nearer x new u v
  still u v low t =
      let same = stays u low in
      let own = low v t in
      ⊎_elim (λ q. omega (arith, ints, same, own, q))
      (λ s. let e = s.0 in
      let q = s.3 in
      let lx : (at x e.read +ℤ e.weight) ≤ℤ at x v = subst (λ (k : ℕ). (at x e.read +ℤ e.weight) ≤ℤ at x k) s.2 (late_in e s.1) in
      by_test (mem e.read left)
      (λ h. let n = low e.read h in omega (arith, ints, n, q, lx, same))
      (λ f. let l : (at old e.read +ℤ e.weight) ≤ℤ at old v = subst (λ (k : ℕ). (at old e.read +ℤ e.weight) ≤ℤ at old k) s.2 (settled.done e s.1 f) in omega (arith, ints, l, q, same, own)))
      (round.source v)

  after : (m : ℕ) (rest : List ℕ) → All (λ e. e.read < length x) arcs → Picked x old left m rest → Settled arcs x rest new
  after m rest reads p = record {
    done = λ e c f.
        let same = stays e.read (low_of e.read (All-contains (λ e. e.read < length x) arcs e reads c) f) in
        let l = All-contains (λ e. (at old e.read +ℤ e.weight) ≤ℤ at new e.reader) arcs e round.late c in
        omega (arith, ints, same, l);
    order = λ u v i f t. still u v (low_of u i f) (p.within v t);
  }
    where
      low_of : (u : ℕ) → u < length x → mem u rest ≡ false → (w : ℕ) → mem w left ≡ true → Nearer x old u w
      low_of u i f w t = ⊎_elim (λ o. settled.order u w i o t) (λ o. subst (λ (k : ℕ). Nearer x old k w) (sym o) (p.least w t)) (p.out u f)

-- the nodes below n
abbrev pub nodes : ℕ → List ℕ
nodes zero = []
nodes (suc n) = n ∷ nodes n

pub length_nodes : (n : ℕ) → length (nodes n) ≡ n
length_nodes zero = refl
length_nodes (suc n) = ap suc (length_nodes n)

pub mem_nodes : (n v : ℕ) → v < n → mem v (nodes n) ≡ true
mem_nodes zero v h = absurd (omega arith)
mem_nodes (suc n) v h = ⊎_elim (λ q. mem_is v n (nodes n) q) (λ q. mem_more v n (nodes n) (mem_nodes n v (omega arith))) (cases_eq v n)

-- ---- what each round keeps

pub record IsKept (arcs : List Arc) (low : List ℤ) (round : ℕ) (off : List ℤ) : Type 0 where
  pub size : length off ≡ length low
  pub small : AreSmall (1073741824 + 1073741825 * round) off
  pub above : (k : ℕ) → k < length low → at low k ≤ℤ at off k
  pub under : (x : List ℤ) → Solves arcs low x → (k : ℕ) → k < length low → at off k ≤ℤ at x k
  pub left : (x : List ℤ) → Solves arcs low x → (left : List ℕ) × (length left + round ≡ length low) × Settled arcs x left off

first_settled : (arcs : List Arc) (x off : List ℤ) → All (λ e. e.read < length x) arcs → Settled arcs x (nodes (length x)) off
first_settled arcs x off h = record {
  done = λ e c f. absurd (true≢false (sym (mem_nodes (length x) e.read (All-contains (λ e. e.read < length x) arcs e h c)) ∙ f));
  order = λ u v i f t. absurd (true≢false (sym (mem_nodes (length x) u i) ∙ f));
}

last_settled : (arcs : List Arc) (x off : List ℤ) (left : List ℕ) → length left ≡ 0 → Settled arcs x left off → All (IsLate off) arcs
last_settled arcs x off [] e s = All-weaker (Contains arcs) (IsLate off) (λ e c. s.done e c refl) arcs (All-contains_itself arcs)
last_settled arcs x off (u ∷ left) e s = absurd (omega arith)

readers : (n : ℕ) (arcs : List Arc) → All (IsArc n) arcs → All (λ e. e.reader < n) arcs
readers n arcs h = All-weaker (IsArc n) (λ e. e.reader < n) (λ e a. a.reader) arcs h

reads : (n : ℕ) (arcs : List Arc) → All (IsArc n) arcs → All (λ e. e.read < n) arcs
reads n arcs h = All-weaker (IsArc n) (λ e. e.read < n) (λ e a. a.read) arcs h

pub kept_first : (arcs : List Arc) (low off : List ℤ) → All (IsArc (length low)) arcs → AreSmall 1073741824 low → off ≡ low → IsKept arcs low 0 off
kept_first arcs low off g b e = subst (IsKept arcs low 0) (sym e) (record {
  size = refl;
  small = λ k d i. let s = b k d i in omega (arith, s);
  above = λ k i. omega (arith, ints);
  under = λ x s k i. s.above k i;
  left = λ x s. (nodes (length x), (let l = length_nodes (length x) in let z = s.size in omega (arith, l, z)), first_settled arcs x low (subst (λ (n : ℕ). All (λ e. e.read < n) arcs) (sym s.size) (reads (length low) arcs g)));
})

small_new : (arcs : List Arc) (old new : List ℤ) (b : ℕ) → All (IsArc (length old)) arcs → AreSmall b old → IsRound arcs old new → AreSmall (b + 1073741825) new
small_new arcs old new b g h r = λ k d i.
    let within : k < length old = (let z = r.size in omega (arith, z, i)) in
    let same : get_or new k d ≡ at new k = same_default new k d (pos 0) i in
    let own : unsigned_abs (at new k) ≤ b + 1073741825 = ⊎_elim
    (λ q. let s = h k (pos 0) within in omega (arith, ints, s, q))
    (λ s. let a = All-contains (IsArc (length old)) arcs s.0 g s.1 in
    let w = a.weight in
    let o = h s.0.read (pos 0) a.read in
    let q = s.3 in
    omega (arith, ints, w, o, q)) (r.source k) in
    rw same own

pub kept_more : (arcs : List Arc) (low off : List ℤ) (round : ℕ) → All (IsArc (length low)) arcs → (All (IsLate off) arcs → ⊥) → IsKept arcs low round off → IsKept arcs low (round + 1) (raised_all off arcs off)
kept_more arcs low off round g busy h =
    let new = raised_all off arcs off in
    let g' : All (IsArc (length off)) arcs = subst (λ (n : ℕ). All (IsArc n) arcs) (sym h.size) g in
    let r = is_round arcs off (readers (length off) arcs g') in
    record {
      size = r.size ∙ h.size;
      small = (let s = small_new arcs off new (1073741824 + 1073741825 * round) g' h.small r in λ k d i. let t = s k d i in omega (arith, t));
      above = λ k i. let a = h.above k i in let b = r.grows k in omega (arith, ints, a, b);
      under = λ x s k i. ⊎_elim
          (λ q. let a = h.under x s k i in omega (arith, ints, a, q))
          (λ t. let e = t.0 in
          let a = All-contains (IsArc (length low)) arcs e g t.1 in
          let u = h.under x s e.read a.read in
          let l : (at x e.read +ℤ e.weight) ≤ℤ at x k = subst (λ (j : ℕ). (at x e.read +ℤ e.weight) ≤ℤ at x j) t.2 (All-contains (IsLate x) arcs e s.late t.1) in
          let q = t.3 in
          omega (arith, ints, u, l, q)) (r.source k);
      left = λ x s. step x s (h.left x s) r;
    }
  where
    step : (x : List ℤ) → (s : Solves arcs low x) → ((left : List ℕ) × (length left + round ≡ length low) × Settled arcs x left off) → IsRound arcs off (raised_all off arcs off)
        → (left : List ℕ) × (length left + (round + 1) ≡ length low) × Settled arcs x left (raised_all off arcs off)
    step x s ([], l, t) r = absurd (busy (last_settled arcs x off [] refl t))
    step x s (u ∷ left, l, t) r =
        let p = pick x off u left in
        (p.1, (let f = p.2.fewer in omega (arith, f, l)), after arcs x off (raised_all off arcs off) (u ∷ left) s.late r t p.0 p.1 (subst (λ (n : ℕ). All (λ e. e.read < n) arcs) (sym s.size) (reads (length low) arcs g)) p.2)

-- past as many rounds as nodes and one there is no solution
pub kept_none : (arcs : List Arc) (low off : List ℤ) (round : ℕ) → length low < round → IsKept arcs low round off → (x : List ℤ) → Solves arcs low x → ⊥
kept_none arcs low off round more h x s = let l = (h.left x s).1 in omega (arith, l, more)

pub kept_solved : (arcs : List Arc) (low off : List ℤ) (round : ℕ) → IsKept arcs low round off → All (IsLate off) arcs → IsLeastSolution arcs low off
kept_solved arcs low off round h late = record { solves = record { size = h.size; above = h.above; late = late }; least = h.under }
