-- Where every component is feasible, so is the whole: components are shifted by how many nodes theirs reach.
use Rattle.std.proofs.Common.{◌≡◌, ℕ, zero, suc, ◌+◌, ◌*◌, ◌<◌, ◌≤◌, ◌⊎◌, inl, inr, ⊎_elim, ℤ, pos, ◌+ℤ◌, ◌-ℤ◌, ◌≤ℤ◌, List, [], ◌∷◌, length, get_or, refl, sym, ap, subst, ◌∙◌, arith, All, unsigned_abs}
use Rattle.std.specs.Prelude.{Contains, AllPairs, sum_by}
use Rattle.std.specs.List.{AllByRecursion}
use Rattle.std.proofs.lemmas.Int.{ints}
use Rattle.std.proofs.lemmas.Bool.{cases_eq, cases_lt}
use Rattle.std.proofs.lemmas.Option.{slice_get_within}
use Rattle.std.proofs.lemmas.List.FromFn.{length-map-range_with_len}
use Rattle.std.proofs.lemmas.List.Elements.{All-filter, recursion_from_All}
use Rattle.std.proofs.lemmas.List.Sums.{sum_by-cons}
use Rattle.av_affine.specs.Numbers.{dot}
use Rattle.av_tree.specs.Points.{Point}
use Rattle.av_flat.specs.Trees.{FlatSystem}
use Rattle.av_flat.specs.Chained.{IsChained, IsChainedVariable}
use Rattle.av_flat.specs.Nodes.{is_node, nodes, IsComputation}
use Rattle.av_flat.specs.Reads.{IsPair}
use Rattle.av_flat.proofs.Sets.{has_is}
use Rattle.av_depend.specs.declared.edge.Edge.{Edge}
use Rattle.av_depend.specs.Edges.{AreEdgesOf}
use Rattle.av_depend.specs.Components.{Reaches, itself, onward, ReadsNode, AreApart, AreComponents}
use Rattle.av_base.proofs.Among.{first_among, among_cases, none_among}
use Rattle.av_depend.proofs.Pairs.{covered_by}
use Rattle.av_flat.proofs.Bounded.{small_point}
use Rattle.av_sched.specs.Offsets.{part, AreOffsets, AreVectors}
use Rattle.av_sched.specs.Choices.{IsFeasible}
use Rattle.av_sched.specs.Leads.{lead}
use Rattle.av_sched.proofs.Bridge.{lead_mid}
use Rattle.av_sched.proofs.Halving.{first_span}
use Rattle.av_sched.proofs.Usable.{usable_edge}
use Rattle.av_sched.proofs.Walking.{lifted, at_lifted}
use Rattle.av_flat.specs.Proper.{IsProper}
use Rattle.av_base.proofs.Lists.{all_at, same_default}

-- ---- what is not to be denied

em : (A : Type 0) → ((A ⊎ (A → ⊥)) → ⊥) → ⊥
em A k = k (inr (λ a. k (inl a)))

shift : (n : ℕ) (Q : ℕ → Type 0) → ((u : ℕ) → u < n → (Q u → ⊥) → ⊥) → (((u : ℕ) → u < n → Q u) → ⊥) → ⊥
shift zero Q h k = k (λ u l. absurd (omega (arith, l)))
shift (suc n) Q h k = shift n Q (λ u l. h u (omega (arith, l))) (λ f. h n (omega arith) (λ q. k (λ u l. ⊎_elim
    (λ e. subst Q (sym e) q)
    (λ d. f u (omega (arith, l, d)))
    (cases_eq u n))))

-- ---- counting

-- one more where it holds
abbrev tally : (A : Type 0) → A ⊎ (A → ⊥) → ℕ → ℕ
tally A a x = ⊎_elim (λ p. suc x) (λ p. x) a

tally_yes : (A : Type 0) (a : A ⊎ (A → ⊥)) (x : ℕ) → A → tally A a x ≡ suc x
tally_yes A (inl b) x p = refl
tally_yes A (inr b) x p = absurd (b p)

tally_no : (A : Type 0) (a : A ⊎ (A → ⊥)) (x : ℕ) → (A → ⊥) → tally A a x ≡ x
tally_no A (inl b) x p = absurd (p b)
tally_no A (inr b) x p = refl

tally_most : (A B : Type 0) (a : A ⊎ (A → ⊥)) (b : B ⊎ (B → ⊥)) (x y : ℕ) → (A → B) → x ≤ y → tally A a x ≤ tally B b y
tally_most A B (inl a) (inl b) x y h l = omega (arith, l)
tally_most A B (inl a) (inr b) x y h l = absurd (b (h a))
tally_most A B (inr a) (inl b) x y h l = omega (arith, l)
tally_most A B (inr a) (inr b) x y h l = l

tally_less : (A B : Type 0) (a : A ⊎ (A → ⊥)) (b : B ⊎ (B → ⊥)) (x y : ℕ) → (A → B) → x < y → tally A a x < tally B b y
tally_less A B (inl a) (inl b) x y h l = omega (arith, l)
tally_less A B (inl a) (inr b) x y h l = absurd (b (h a))
tally_less A B (inr a) (inl b) x y h l = omega (arith, l)
tally_less A B (inr a) (inr b) x y h l = l

abbrev IsToldTo : (ℕ → Type 0) → ℕ → Type 0
IsToldTo P m = (v : ℕ) → v < m → P v ⊎ (P v → ⊥)

fewer : (P : ℕ → Type 0) (m : ℕ) → IsToldTo P (suc m) → IsToldTo P m
fewer P m dec = λ v l. dec v (omega (arith, l))

last : (m : ℕ) → m < suc m
last m = omega arith

abbrev counted : (P : ℕ → Type 0) (m : ℕ) → IsToldTo P m → ℕ
counted P zero dec = 0
counted P (suc m) dec = tally (P m) (dec m (last m)) (counted P m (fewer P m dec))

-- of more there are no fewer
counted_most : (P Q : ℕ → Type 0) (m : ℕ) (p : IsToldTo P m) (q : IsToldTo Q m) → ((v : ℕ) → P v → Q v) → counted P m p ≤ counted Q m q
counted_most P Q zero p q h = omega arith
counted_most P Q (suc m) p q h = tally_most (P m) (Q m) (p m (last m)) (q m (last m)) (counted P m (fewer P m p)) (counted Q m (fewer Q m q)) (h m) (counted_most P Q m (fewer P m p) (fewer Q m q) h)

less_of : (a b x y : ℕ) → a ≡ x → b ≡ suc y → x ≤ y → a < b
less_of a b x y e f l = omega (arith, e, f, l)

-- and where one of them is no part of the others, they are fewer
counted_less : (P Q : ℕ → Type 0) (m : ℕ) (p : IsToldTo P m) (q : IsToldTo Q m) → ((v : ℕ) → P v → Q v) → (v : ℕ) → v < m → Q v → (P v → ⊥) → counted P m p < counted Q m q
counted_less P Q zero p q h v l holds fails = absurd (omega (arith, l))
counted_less P Q (suc m) p q h v l holds fails = ⊎_elim
    (λ e.
    let x = counted P m (fewer P m p) in
    let y = counted Q m (fewer Q m q) in
    less_of (tally (P m) (p m (last m)) x) (tally (Q m) (q m (last m)) y) x y
    (tally_no (P m) (p m (last m)) x (subst (λ (i : ℕ). P i → ⊥) e fails))
    (tally_yes (Q m) (q m (last m)) y (subst Q e holds))
    (counted_most P Q m (fewer P m p) (fewer Q m q) h))
    (λ d. tally_less (P m) (Q m) (p m (last m)) (q m (last m)) (counted P m (fewer P m p)) (counted Q m (fewer Q m q)) (h m) (counted_less P Q m (fewer P m p) (fewer Q m q) h v (omega (arith, l, d)) holds fails))
    (cases_eq v m)

-- ---- membership

abbrev mem : ℕ → List ℕ → Type 0
mem u xs = Contains xs u ⊎ (Contains xs u → ⊥)

among : (u : ℕ) (xs : List ℕ) → mem u xs
among u [] = inr (none_among u)
among u (x ∷ xs) = ⊎_elim
    (λ e. inl (subst (Contains (x ∷ xs)) (sym e) (first_among x xs)))
    (λ d. ⊎_elim
    (λ c. inl (suc c.0, (let l = c.1 in omega (arith, l)), c.2))
    (λ n. inr (λ c. ⊎_elim (λ e. d (sym e)) (λ r. n r) (among_cases x u xs c)))
    (among u xs))
    (cases_eq u x)

-- ---- bounds

bound_of : (f : ℕ → ℤ) (n : ℕ) → (most : ℕ) × ((u : ℕ) → u < n → unsigned_abs (f u) ≤ most)
bound_of f zero = (0, λ u l. absurd (omega (arith, l)))
bound_of f (suc n) =
    let r = bound_of f n in (
      r.0 + unsigned_abs (f n),
      λ u l. ⊎_elim
          (λ e. let q : unsigned_abs (f u) ≡ unsigned_abs (f n) = ap (λ i. unsigned_abs (f i)) e in omega (arith, q))
          (λ d. let q = r.1 u (omega (arith, l, d)) in omega (arith, q))
          (cases_eq u n),
    )

part_of_sum : {X : Type 0} (f : X → ℕ) (xs : List X) (x : X) → Contains xs x → f x ≤ sum_by f xs
part_of_sum f [] x h = absurd (none_among x h)
part_of_sum f (y ∷ xs) x h =
    let e = sum_by-cons f y xs in
    ⊎_elim
    (λ q. let p : f y ≡ f x = ap f q in omega (arith, e, p))
    (λ k. let r = part_of_sum f xs x k in omega (arith, e, r))
    (among_cases y x xs h)

times_less : (k r q : ℕ) → r < q → k * r + k ≤ k * q
times_less k r zero l = absurd (omega (arith, l))
times_less k r (suc q) l = ⊎_elim
    (λ e. let p : k * r ≡ k * q = ap (λ x. k * x) e in let s : k * suc q ≡ k * q + k = omega arith in omega (arith, p, s))
    (λ d. let h = times_less k r q (omega (arith, l, d)) in let s : k * suc q ≡ k * q + k = omega arith in omega (arith, h, s))
    (cases_eq r q)

times_most : (k r q : ℕ) → r ≤ q → k * r ≤ k * q
times_most k r q l = grind (arith, l)

-- ---- offsets of all components together

module _ (s : FlatSystem) (linear : List Point) where
  abbrev reads : ℕ → ℕ → Type 0
  reads = ReadsNode s

  combined : (cs : List (List ℕ)) → AllByRecursion (λ d. IsFeasible s d linear) cs → ℕ → ℤ
  combined [] h u = pos 0
  combined (d ∷ cs) h u = ⊎_elim (λ c. h.0.0 u) (λ c. combined cs h.1 u) (among u d)

  inside : (cs : List (List ℕ)) (h : AllByRecursion (λ d. IsFeasible s d linear) cs) → AllPairs (AreApart reads) cs → (i : ℕ) → i < length cs
      → (g : IsFeasible s (get_or cs i []) linear) × ((u : ℕ) → Contains (get_or cs i []) u → combined cs h u ≡ g.0 u)
  unfolding combined
  inside [] h apart i l = absurd (omega (arith, l))
  inside (d ∷ cs) h apart zero l = (h.0, λ u c. first u c (among u d))
    where
      first : (u : ℕ) → Contains d u → (m : mem u d) → ⊎_elim (λ c. h.0.0 u) (λ c. combined cs h.1 u) m ≡ h.0.0 u
      first u c (inl k) = refl
      first u c (inr k) = absurd (k c)
  inside (d ∷ cs) h apart (suc i) l =
      let r = inside cs h.1 (λ a b e p q. apart (suc a) (suc b) e (omega (arith, p)) (omega (arith, q))) i (omega (arith, l)) in
      (r.0, λ u c. rest u (λ k. apart 0 (suc i) [] (omega arith) l u u k c itself itself) (among u d) ∙ r.1 u c)
    where
      rest : (u : ℕ) → (Contains d u → ⊥) → (m : mem u d) → ⊎_elim (λ c. h.0.0 u) (λ c. combined cs h.1 u) m ≡ combined cs h.1 u
      rest u n (inl k) = absurd (n k)
      rest u n (inr k) = refl

-- ---- the whole

module _ (s : FlatSystem) (edges : List Edge) (linear : List Point) (chained : IsChained s) (proper : IsProper s) (are_edges : AreEdgesOf s edges) (vectors : AreVectors s 4 linear) where
  abbrev leads : ℕ
  leads = sum_by (λ e. sum_by (λ p. unsigned_abs (lead (part linear e.consumer) (part linear e.producer) e.map p)) e.points) edges

  record IsBounded (n : ℕ) (z : Point) (k : ℕ) (y : Point) : Type 0 where
    reader : n < length (nodes s)
    read : k < length (nodes s)
    low : (pos 0 -ℤ pos leads) ≤ℤ (dot (part linear n) z -ℤ dot (part linear k) y)

  -- the leads at pairs are no less than at listed points
  bounded : (n : ℕ) (z : Point) (k : ℕ) (y : Point) → IsPair s n z k y → IsBounded n z k y
  bounded n z k y pair =
      let c = covered_by s edges n z k y chained are_edges pair in
      let e = c.edge in
      let f = lead (part linear e.consumer) (part linear e.producer) e.map in
      let u = usable_edge s edges linear e chained proper are_edges vectors c.among in
      let (i, p, l, at, less) = c.least f (lead_mid (part linear e.consumer) (part linear e.producer) e.map) in
      let a = part_of_sum (λ q. unsigned_abs (f q)) e.points p (i, l, at) in
      let b = part_of_sum (λ e. sum_by (λ p. unsigned_abs (lead (part linear e.consumer) (part linear e.producer) e.map p)) e.points) edges e c.among in
      let low : (pos 0 -ℤ pos leads) ≤ℤ f z = omega (arith, ints, a, b, less) in
      let w1 = subst (λ (j : ℕ). (pos 0 -ℤ pos leads) ≤ℤ lead (part linear j) (part linear e.producer) e.map z) c.consumer low in
      let w2 = subst (λ (j : ℕ). (pos 0 -ℤ pos leads) ≤ℤ lead (part linear n) (part linear j) e.map z) c.producer w1 in
      let one = vectors.one_each in
      let cw = u.consumer_within in
      let pw = u.producer_within in
      let ce = c.consumer in
      let pe = c.producer in
      record {
        reader = omega (arith, one, cw, ce);
        read = omega (arith, one, pw, pe);
        low = subst (λ (q : Point). (pos 0 -ℤ pos leads) ≤ℤ (dot (part linear n) z -ℤ dot (part linear k) q)) (sym c.image_is) w2;
      }

  -- no linear part times a point is very low
  not_low : (n : ℕ) (z : Point) → IsComputation s n z → (n < length (nodes s)) × ((pos 0 -ℤ pos 131072) ≤ℤ dot (part linear n) z)
  not_low n z c =
      let v = c.variable in
      let l = slice_get_within (nodes s) n v c.is in
      let own = all_at (IsChainedVariable s) (nodes s) n v (All-filter is_node (IsChainedVariable s) s.variables chained.each) c.is in
      let has = (has_is v.domain z).0 c.declared in
      let span = first_span v.domain (part linear n) z (dot (part linear n) z) (vectors.entries n l) own.indices (small_point v.domain own.bounded) has refl in
      let h = span.none_below z has in
      (l, omega (arith, ints, h))

  module _ (components : List (List ℕ)) (are : AreComponents (length (nodes s)) (ReadsNode s) components) (feasible : All (λ d. IsFeasible s d linear) components) where
    abbrev table : AllByRecursion (λ d. IsFeasible s d linear) components
    table = recursion_from_All (λ d. IsFeasible s d linear) components feasible

    abbrev own : ℕ → ℤ
    own = combined s linear components table

    -- two nodes that read each other, or do not
    data IsJoint (n k : ℕ) : Type 0 where
      together : (i : ℕ) → i < length components → Contains (get_or components i []) n → Contains (get_or components i []) k → IsJoint n k
      apart : (Reaches (ReadsNode s) k n → ⊥) → IsJoint n k

    joint : (n k : ℕ) → n < length (nodes s) → k < length (nodes s) → Reaches (ReadsNode s) n k → IsJoint n k
    joint n k ln lk reach =
        let (i, d, l, at, in_d) = are.every n ln in
        let (j, e, m, bt, in_e) = are.every k lk in
        let dn : Contains (get_or components i []) n = subst (λ (xs : List ℕ). Contains xs n) (sym at ∙ same_default components i d [] l) in_d in
        let ek : Contains (get_or components j []) k = subst (λ (xs : List ℕ). Contains xs k) (sym bt ∙ same_default components j e [] m) in_e in
        ⊎_elim
        (λ q. together i l dn (subst (λ (x : ℕ). Contains (get_or components x []) k) (sym q) ek))
        (λ q. apart (λ back. ⊎_elim
        (λ less. are.apart i j [] less m n k dn ek reach back)
        (λ more. are.apart j i [] (omega (arith, more, q)) l k n ek dn back reach)
        (cases_lt i j)))
        (cases_eq i j)

    module _ (dec : (u : ℕ) → u < length (nodes s) → (v : ℕ) → v < length (nodes s) → Reaches (ReadsNode s) u v ⊎ (Reaches (ReadsNode s) u v → ⊥)) where
      abbrev rank : ℕ → ℕ
      rank u = ⊎_elim (λ l. counted (Reaches (ReadsNode s) u) (length (nodes s)) (dec u l)) (λ l. 0) (cases_lt u (length (nodes s)))

      rank_most : (u w : ℕ) → w < length (nodes s) → ((v : ℕ) → Reaches (ReadsNode s) u v → Reaches (ReadsNode s) w v) → rank u ≤ rank w
      rank_most u w lw h = go (cases_lt u (length (nodes s))) (cases_lt w (length (nodes s)))
        where
          go : (a : (u < length (nodes s)) ⊎ (length (nodes s) ≤ u)) (b : (w < length (nodes s)) ⊎ (length (nodes s) ≤ w))
              → ⊎_elim (λ l. counted (Reaches (ReadsNode s) u) (length (nodes s)) (dec u l)) (λ l. 0) a ≤ ⊎_elim (λ l. counted (Reaches (ReadsNode s) w) (length (nodes s)) (dec w l)) (λ l. 0) b
          go (inl a) (inl b) = counted_most (Reaches (ReadsNode s) u) (Reaches (ReadsNode s) w) (length (nodes s)) (dec u a) (dec w b) h
          go (inr a) b = omega arith
          go (inl a) (inr b) = absurd (omega (arith, b, lw))

      rank_less : (u w : ℕ) → u < length (nodes s) → w < length (nodes s) → ((v : ℕ) → Reaches (ReadsNode s) u v → Reaches (ReadsNode s) w v) → (Reaches (ReadsNode s) u w → ⊥) → rank u < rank w
      rank_less u w lu lw h fails = go (cases_lt u (length (nodes s))) (cases_lt w (length (nodes s)))
        where
          go : (a : (u < length (nodes s)) ⊎ (length (nodes s) ≤ u)) (b : (w < length (nodes s)) ⊎ (length (nodes s) ≤ w))
              → ⊎_elim (λ l. counted (Reaches (ReadsNode s) u) (length (nodes s)) (dec u l)) (λ l. 0) a < ⊎_elim (λ l. counted (Reaches (ReadsNode s) w) (length (nodes s)) (dec w l)) (λ l. 0) b
          go (inl a) (inl b) = counted_less (Reaches (ReadsNode s) u) (Reaches (ReadsNode s) w) (length (nodes s)) (dec u a) (dec w b) h w lw itself fails
          go (inr a) b = absurd (omega (arith, a, lu))
          go (inl a) (inr b) = absurd (omega (arith, b, lw))

      abbrev most : ℕ
      most = (bound_of own (length (nodes s))).0

      abbrev far : ℕ
      far = 1 + leads + 2 * most

      abbrev placed : ℕ → ℤ
      placed u = own u +ℤ pos (far * rank u)

      later_than : (n : ℕ) (z : Point) (k : ℕ) (y : Point) → IsPair s n z k y → (dot (part linear k) y +ℤ placed k +ℤ pos 1) ≤ℤ (dot (part linear n) z +ℤ placed n)
      later_than n z k y pair = go (joint n k b.reader b.read (onward (z, y, pair) itself))
        where
          b : IsBounded n z k y
          b = bounded n z k y pair

          go : IsJoint n k → (dot (part linear k) y +ℤ placed k +ℤ pos 1) ≤ℤ (dot (part linear n) z +ℤ placed n)
          go (together i l in_n in_k) =
              let g = inside s linear components table are.apart i l in
              let late = g.0.1 n z k y pair in_n in_k in
              let en = g.1 n in_n in
              let ek = g.1 k in_k in
              let t = are.each i [] l in
              let low = (bounded n z k y pair).low in
              let r = rank_most k n (bounded n z k y pair).reader (λ v h. onward (z, y, pair) h) in
              let scaled : far * rank k ≤ far * rank n = times_most far (rank k) (rank n) r in
              omega (arith, ints, late, en, ek, scaled)
          go (apart fails) =
              let q = bounded n z k y pair in
              let r = rank_less k n q.read q.reader (λ v h. onward (z, y, pair) h) fails in
              let scaled = times_less far (rank k) (rank n) r in
              let bn = (bound_of own (length (nodes s))).1 n q.reader in
              let bk = (bound_of own (length (nodes s))).1 k q.read in
              let low = q.low in
              omega (arith, ints, scaled, bn, bk, low)

      offsets_are : AreOffsets s linear (lifted placed (pos (most + 131072)) (length (nodes s)))
      offsets_are = record {
        one_each = length-map-range_with_len (λ j. placed j +ℤ pos (most + 131072)) 0 (length (nodes s));
        start = λ n z c.
            let low = not_low n z c in
            let l = low.0 in
            let d = low.1 in
            let a = at_lifted placed (pos (most + 131072)) (length (nodes s)) n l in
            let bn = (bound_of own (length (nodes s))).1 n l in
            omega (arith, ints, d, a, bn);
        later = λ n z k y pair.
            let b = bounded n z k y pair in
            let a = at_lifted placed (pos (most + 131072)) (length (nodes s)) n b.reader in
            let e = at_lifted placed (pos (most + 131072)) (length (nodes s)) k b.read in
            let h = later_than n z k y pair in
            omega (arith, ints, a, e, h);
      }

    -- so offsets exist
    pub not_none : ((x : List ℤ) → AreOffsets s linear x → ⊥) → ⊥
    not_none none = shift (length (nodes s)) (λ u. (v : ℕ) → v < length (nodes s) → Reaches (ReadsNode s) u v ⊎ (Reaches (ReadsNode s) u v → ⊥))
        (λ u lu. shift (length (nodes s)) (λ v. Reaches (ReadsNode s) u v ⊎ (Reaches (ReadsNode s) u v → ⊥)) (λ v lv. em (Reaches (ReadsNode s) u v)))
        (λ dec. none (lifted (placed dec) (pos (most dec + 131072)) (length (nodes s))) (offsets_are dec))
