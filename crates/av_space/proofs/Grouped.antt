-- The computations of a node by rank, run by run: the cells they stand on, and the computations of each.
use Rattle.std.proofs.Common.{◌≡◌, ◌≢◌, ℕ, zero, suc, ◌+◌, ◌-◌, ◌*◌, ◌/◌, ◌<◌, ◌≤◌, pos, inl, inr, Option, Some, None, List, [], ◌∷◌, ◌++◌, length, map, take, drop, get_or, refl, sym, ap, ap₂, subst, ◌∙◌, arith}
use Rattle.std.specs.Prelude.{slice_get, Contains, unsigned_abs}
use Rattle.std.specs.Option.{option_map}
use Rattle.std.proofs.lemmas.Int.{ints}
use Rattle.std.proofs.lemmas.Bool.{cases_lt}
use Rattle.std.proofs.lemmas.Option.{slice_get-map, slice_get-get_or, slice_get_within, get_or_from_slice_get}
use Rattle.std.specs.List.Sorted.{IsPermutation, IsNonDecreasingBy}
use Rattle.std.proofs.lemmas.List.{length-map, length-take, get_or-map}
use Rattle.std.proofs.lemmas.List.Sorted.{IsPermutation-sym, Contains-permutation}
use Rattle.std.proofs.lemmas.List.Elements.{All-push, All-nil, All-weaker, All-contains, Contains-append_left, Contains-push}
use Rattle.std.proofs.lemmas.List.Quantifiers.{all_pairs_push}
use Rattle.av_affine.specs.Numbers.{AtMost, dot}
use Rattle.av_tree.specs.Points.{Point}
use Rattle.av_flat.specs.declared.timed.Timed.{Timed}
use Rattle.av_flat.specs.Legal.{IsLegal}
use Rattle.av_flat.specs.Trees.{Variable, view_system}
use Rattle.av_flat.specs.Nodes.{IsComputation}
use Rattle.av_flat.specs.Order.{IsBefore}
use Rattle.av_flat.specs.Schedules.{cycle}
use Rattle.av_base.proofs.Among.{among_at, among_map, from_map}
use Rattle.av_depend.proofs.Generators.{before_itself}
use Rattle.av_space.specs.declared.cells.Cell.{Cell}
use Rattle.av_space.specs.declared.layout.Slot.{Slot}
use Rattle.av_space.specs.declared.ranked.Ranked.{Ranked}
use Rattle.av_space.specs.Coordinates.{Placing, IsPlacing, along}
use Rattle.av_space.specs.Occupancy.{Occupies, IsUsed, IsCellBefore}
use Rattle.av_space.specs.inner.Laying.{HasFewCycles, AreNodePoints, IsTimely, rank_from, ranked_at, place_rank, AreRanked, IsRunEnd, cell_of, AreCellsTo, AreCellsIn, IsFilled}
use Rattle.av_space.proofs.Nodes.{computed_small, time_at}
use Rattle.av_space.proofs.Permuted.{HasEachOnce, permuted_once}
use Rattle.av_space.proofs.Placed.{one_point}
use Rattle.av_space.proofs.Rows.{small_along, small_rows}
use Rattle.av_space.proofs.Ranks.{same_rank, lesser_rank}

-- ---- ranks of computations

pub timely_cycle : (p : Placing) (z : Point) → IsTimely p z → (pos (unsigned_abs (cycle p.time z)) ≡ cycle p.time z) × (unsigned_abs (cycle p.time z) < 4096)
timely_cycle p z h = let a = h.starts in let b = h.ends in (omega (arith, ints, a), omega (arith, ints, a, b))

parts : (r c : ℕ) → c < 4096 → ((r * 4096 + c) / 4096 ≡ r)
parts r c l = omega (arith, l)

pub place_is : (p : Placing) (z : Point) → IsTimely p z → place_rank (ranked_at p z) ≡ rank_from 0 (along p.rows z)
place_is p z h = parts (rank_from 0 (along p.rows z)) (unsigned_abs (cycle p.time z)) (timely_cycle p z h).1

module _ (p : Placing) (placing : IsPlacing p) (few : length p.time.linear ≤ 4) where
  one_length : (y z : Point) → length (along p.rows y) ≡ length (along p.rows z)
  one_length y z = length-map p.rows (λ row. dot row y) ∙ sym (length-map p.rows (λ row. dot row z))

  digits : (z : Point) → IsTimely p z → AtMost 16380 (along p.rows z)
  digits z h = small_along p.rows z (small_rows p placing few) h.few h.small

  -- one place rank, one place
  pub one_place : (y z : Point) → IsTimely p y → IsTimely p z → place_rank (ranked_at p y) ≡ place_rank (ranked_at p z) → along p.rows y ≡ along p.rows z
  one_place y z h k e = same_rank (along p.rows y) (along p.rows z) (one_length y z) (digits y h) (digits z k) (sym (place_is p y h) ∙ e ∙ place_is p z k)

  -- a lesser place rank, a place before
  pub place_before : (y z : Point) → IsTimely p y → IsTimely p z → place_rank (ranked_at p y) < place_rank (ranked_at p z) → IsBefore (along p.rows y) (along p.rows z)
  place_before y z h k l =
      let a = place_is p y h in
      let b = place_is p z k in
      lesser_rank (along p.rows y) (along p.rows z) (one_length y z) (digits y h) (digits z k) (omega (arith, a, b, l))

-- ---- all computations of a node

pub timely_of : (t : Timed) (n : ℕ) (p : Placing) (z : Point) → IsLegal t → slice_get t.times n ≡ Some p.time → HasFewCycles t → IsComputation (view_system t.flat) n z → IsTimely p z
timely_of t n p z h e f c =
    let m = computed_small t n z h c in
    record { few = m.few; small = m.small; starts = h.schedule.starts n z p.time c e; ends = f n z p.time c e }

pub linear_size : (t : Timed) (n : ℕ) (p : Placing) (z : Point) → IsLegal t → slice_get t.times n ≡ Some p.time → IsComputation (view_system t.flat) n z → length z ≡ length p.time.linear
linear_size t n p z h e c =
    let m = computed_small t n z h c in
    let u = time_at t n p.time h e in
    let i = u.is in
    let j = c.is in
    let same : c.variable ≡ u.variable = cc in
    m.size ∙ ap (λ (v : Variable). v.domain.dim) same ∙ sym u.size

same_parts : (r q c d : ℕ) → c < 4096 → d < 4096 → r * 4096 + c ≡ q * 4096 + d → (r ≡ q) × (c ≡ d)
same_parts r q c d l m e = (omega (arith, l, m, e), omega (arith, l, m, e))

module _ (t : Timed) (n : ℕ) (p : Placing) (legal : IsLegal t) (placing : IsPlacing p) (time : slice_get t.times n ≡ Some p.time) (ends : HasFewCycles t) where
  -- one rank, one point
  one_rank : (y z : Point) → IsComputation (view_system t.flat) n y → IsComputation (view_system t.flat) n z → (ranked_at p y).rank ≡ (ranked_at p z).rank → y ≡ z
  one_rank y z c d e =
      let a = timely_of t n p y legal time ends c in
      let b = timely_of t n p z legal time ends d in
      let ca = timely_cycle p y a in
      let cb = timely_cycle p z b in
      let few = (time_at t n p.time legal time).few in
      let k = same_parts (rank_from 0 (along p.rows y)) (rank_from 0 (along p.rows z)) (unsigned_abs (cycle p.time y)) (unsigned_abs (cycle p.time z)) ca.1 cb.1 e in
      let at = one_place p placing few y z a b (place_is p y a ∙ k.0 ∙ sym (place_is p z b)) in
      one_point p placing few y z (linear_size t n p y legal time c) (linear_size t n p z legal time d) at (sym ca.0 ∙ ap pos k.1 ∙ cb.0)

  once : (points : List Point) → AreNodePoints (view_system t.flat) n points → HasEachOnce (λ (r : Ranked). r.rank) (map (ranked_at p) points)
  once points h i j d li lj e =
      let m = length-map points (ranked_at p) in
      let ki : i < length points = omega (arith, li, m) in
      let kj : j < length points = omega (arith, lj, m) in
      let y = get_or points i [] in
      let z = get_or points j [] in
      let ei : get_or (map (ranked_at p) points) i d ≡ ranked_at p y = get_or-map (ranked_at p) points i [] d ki in
      let ej : get_or (map (ranked_at p) points) j d ≡ ranked_at p z = get_or-map (ranked_at p) points j [] d kj in
      let same = one_rank y z (h.each i [] ki) (h.each j [] kj) (ap (λ (r : Ranked). r.rank) (sym ei) ∙ e ∙ ap (λ (r : Ranked). r.rank) ej) in
      elim (cases_lt i j) [
        | inl lt ↦ absurd (before_itself z (subst (λ (w : Point). IsBefore w z) same (h.ascending i j [] lt kj)))
        | inr ge ↦ elim (cases_lt j i) [
          | inl lt ↦ absurd (before_itself y (subst (λ (w : Point). IsBefore w y) (sym same) (h.ascending j i [] lt ki)))
          | inr le ↦ omega (arith, ge, le)
        ]
      ]

  pub ranked_are : (points : List Point) (ranked : List Ranked) → AreNodePoints (view_system t.flat) n points → IsPermutation (map (ranked_at p) points) ranked → IsNonDecreasingBy (λ r. r.rank) ranked → AreRanked (view_system t.flat) n p ranked
  ranked_are points ranked h perm up = record {
    each = λ i r e.
        let back = IsPermutation-sym (map (ranked_at p) points) ranked perm in
        let f = from_map (ranked_at p) points r (Contains-permutation ranked (map (ranked_at p) points) r back (among_at ranked i r e)) in
        let c = All-contains (IsComputation (view_system t.flat) n) points f.0 h.each f.1 in
        subst (λ (r : Ranked). IsComputation (view_system t.flat) n r.slot.point × IsTimely p r.slot.point × (r ≡ ranked_at p r.slot.point)) f.2 (c, timely_of t n p f.0 legal time ends c, refl);
    all = λ z c.
        let k = Contains-permutation (map (ranked_at p) points) ranked (ranked_at p z) perm (among_map (ranked_at p) points z (h.all z c)) in
        (k.0, slice_get-get_or ranked k.0 (ranked_at p z) k.1 ∙ ap Some k.2);
    rising = λ i j a b lt ea eb.
        let la = slice_get_within ranked i a ea in
        let lb = slice_get_within ranked j b eb in
        let ga = get_or_from_slice_get ranked i a a ea in
        let gb = get_or_from_slice_get ranked j b a eb in
        let le : a.rank ≤ b.rank = subst (λ (x : Ranked). x.rank ≤ b.rank) ga (subst (λ (y : Ranked). (get_or ranked i a).rank ≤ y.rank) gb (up i j a (omega (arith, lt)) lb)) in
        elim (cases_lt a.rank b.rank) [
          | inl less ↦ less
          | inr more ↦ absurd (
              let equal : (get_or ranked i a).rank ≡ (get_or ranked j a).rank = ap (λ (x : Ranked). x.rank) ga ∙ omega (arith, le, more) ∙ ap (λ (x : Ranked). x.rank) (sym gb) in
              let one = permuted_once (λ (r : Ranked). r.rank) (map (ranked_at p) points) ranked perm (once points h) i j a la lb equal in
              omega (arith, one, lt))
        ];
  }

-- ---- parts of lists

slice_drop : {X : Type 0} (xs : List X) (s k : ℕ) → slice_get (drop s xs) k ≡ slice_get xs (s + k)
slice_drop xs zero k = ap (λ (i : ℕ). slice_get xs i) (omega arith)
slice_drop [] (suc s) k = refl
slice_drop (x ∷ xs) (suc s) k = let e : suc (s + k) ≡ suc s + k = omega arith in slice_drop xs s k ∙ ap (λ (i : ℕ). slice_get (x ∷ xs) i) e

slice_take : {X : Type 0} (xs : List X) (m k : ℕ) → k < m → slice_get (take m xs) k ≡ slice_get xs k
slice_take xs zero k l = absurd (omega (arith, l))
slice_take [] (suc m) k l = refl
slice_take (x ∷ xs) (suc m) zero l = refl
slice_take (x ∷ xs) (suc m) (suc k) l = slice_take xs m k (omega (arith, l))

take_within : {X : Type 0} (xs : List X) (m k : ℕ) (x : X) → slice_get (take m xs) k ≡ Some x → k < m
take_within xs m k x e = (let l = slice_get_within (take m xs) k x e in let n = length-take m xs in omega (arith, l, n))

abbrev pub slots_of : List Ranked → ℕ → ℕ → List Slot
slots_of ranked start m = map (λ (r : Ranked). r.slot) (take m (drop start ranked))

at_slot : (ranked : List Ranked) (start m k : ℕ) (s : Slot) → slice_get (slots_of ranked start m) k ≡ Some s → (r : Ranked) × (k < m) × (slice_get ranked (start + k) ≡ Some r) × (r.slot ≡ s)
at_slot ranked start m k s e = go (slice_get (take m (drop start ranked)) k) refl (sym (slice_get-map (λ (r : Ranked). r.slot) (take m (drop start ranked)) k) ∙ e)
  where
    go : (o : Option Ranked) → slice_get (take m (drop start ranked)) k ≡ o → option_map (λ (r : Ranked). r.slot) o ≡ Some s → (r : Ranked) × (k < m) × (slice_get ranked (start + k) ≡ Some r) × (r.slot ≡ s)
    go None f h = absurd cc
    go (Some r) f h =
        let l = take_within (drop start ranked) m k r f in
        (r, l, sym (slice_drop ranked start k) ∙ sym (slice_take (drop start ranked) m k l) ∙ f, cc)

slot_at : (ranked : List Ranked) (start m k : ℕ) (r : Ranked) → k < m → slice_get ranked (start + k) ≡ Some r → slice_get (slots_of ranked start m) k ≡ Some r.slot
slot_at ranked start m k r l e =
    slice_get-map (λ (r : Ranked). r.slot) (take m (drop start ranked)) k ∙ ap (option_map (λ (r : Ranked). r.slot)) (slice_take (drop start ranked) m k l ∙ slice_drop ranked start k ∙ e)

-- ---- runs

not_after : (a b : ℕ) → a < b → a / 4096 ≤ b / 4096
not_after a b l = omega (arith, l)

pub cells_none : (n : ℕ) (p : Placing) (ranked : List Ranked) → AreCellsTo n p ranked 0 []
cells_none n p ranked = record {
  apart = λ i j a b l. absurd (omega (arith, l));
  each = All-nil (λ (cell : Cell). (i : ℕ) × (r : Ranked) × (i < 0) × (slice_get ranked i ≡ Some r) × (cell ≡ cell_of n p r));
  all = λ i r l. absurd (omega (arith, l));
  order = λ i j d l m. absurd (omega (arith, m));
}

module _ (t : Timed) (n : ℕ) (p : Placing) (legal : IsLegal t) (placing : IsPlacing p) (time : slice_get t.times n ≡ Some p.time) (ranked : List Ranked) (are : AreRanked (view_system t.flat) n p ranked) where
  few_entries : length p.time.linear ≤ 4
  few_entries = (time_at t n p.time legal time).few

  same_place : (i j : ℕ) (a b : Ranked) → slice_get ranked i ≡ Some a → slice_get ranked j ≡ Some b → place_rank a ≡ place_rank b → along p.rows a.slot.point ≡ along p.rows b.slot.point
  same_place i j a b ea eb e =
      let x = are.each i a ea in
      let y = are.each j b eb in
      one_place p placing few_entries a.slot.point b.slot.point x.1 y.1 (sym (ap place_rank x.2) ∙ e ∙ ap place_rank y.2)

  one_cell : (i j : ℕ) (a b : Ranked) → slice_get ranked i ≡ Some a → slice_get ranked j ≡ Some b → place_rank a ≡ place_rank b → cell_of n p a ≡ cell_of n p b
  one_cell i j a b ea eb e = ap (λ (at : Point). record { node = n; at = at }) (same_place i j a b ea eb e)

  cell_before : (i j : ℕ) (a b : Ranked) → slice_get ranked i ≡ Some a → slice_get ranked j ≡ Some b → place_rank a < place_rank b → IsCellBefore (cell_of n p a) (cell_of n p b)
  cell_before i j a b ea eb l =
      let x = are.each i a ea in
      let y = are.each j b eb in
      inr (refl, place_before p placing few_entries a.slot.point b.slot.point x.1 y.1 (subst (λ (r : Ranked). place_rank r < place_rank (ranked_at p b.slot.point)) x.2 (subst (λ (r : Ranked). place_rank a < place_rank r) y.2 l)))

  -- behind a run all have a later place
  behind : (start end j : ℕ) (first b : Ranked) → slice_get ranked start ≡ Some first → IsRunEnd ranked start end → end ≤ j → slice_get ranked j ≡ Some b → place_rank first < place_rank b
  behind start end j first b ef run le eb =
      let lb = slice_get_within ranked j b eb in
      let x = get_or ranked end b in
      let ex : slice_get ranked end ≡ Some x = slice_get-get_or ranked end b (omega (arith, le, lb)) in
      let up = not_after first.rank x.rank (are.rising start end first x run.above ef ex) in
      let off : place_rank x ≢ place_rank first = run.other first x ef ex in
      elim (cases_lt end j) [
        | inl lt ↦ (let further = not_after x.rank b.rank (are.rising end j x b lt ex eb) in omega (arith, up, off, further))
        | inr ge ↦ (
            let e : end ≡ j = omega (arith, le, ge) in
            let eb' : slice_get ranked end ≡ Some b = ap (λ (k : ℕ). slice_get ranked k) e ∙ eb in
            let same : x ≡ b = cc in
            let further = ap place_rank same in
            omega (arith, up, off, further))
      ]

  pub cells_more : (start end : ℕ) (first : Ranked) (cells : List Cell) → slice_get ranked start ≡ Some first → IsRunEnd ranked start end → AreCellsTo n p ranked start cells → AreCellsTo n p ranked end (cells ++ cell_of n p first ∷ [])
  cells_more start end first cells ef run h =
      let above = run.above in
      record {
        apart = λ i j a b below from ea eb. elim (cases_lt i start) [
          | inl lt ↦ h.apart i j a b lt (omega (arith, above, from)) ea eb
          | inr ge ↦ (
              let same = run.same i first a ge below ef ea in
              let later = behind start end j first b ef run from eb in
              omega (arith, same, later))
        ];
        each = All-push (IsCellOf end) cells (cell_of n p first) (All-weaker (IsCellOf start) (IsCellOf end) (λ cell k. (k.0, k.1, (let l = k.2 in omega (arith, l, above)), k.3, k.4)) cells h.each) (start, first, above, ef, refl);
        all = λ i r below e. elim (cases_lt i start) [
          | inl lt ↦ Contains-append_left cells (cell_of n p first ∷ []) (cell_of n p r) (h.all i r lt e)
          | inr ge ↦ subst (Contains (cells ++ cell_of n p first ∷ [])) (sym (one_cell i start r first e ef (run.same i first r ge below ef e))) (Contains-push cells (cell_of n p first))
        ];
        order = all_pairs_push IsCellBefore cells (cell_of n p first) h.order (λ k d l.
            let c = h.each k d l in
            subst (λ (cell : Cell). IsCellBefore cell (cell_of n p first)) (sym c.4) (cell_before c.0 start c.1 first c.3 ef (h.apart c.0 start c.1 first c.2 (omega arith) c.3 ef)));
      }
    where
      IsCellOf : ℕ → Cell → Type 0
      IsCellOf done cell = (i : ℕ) × (r : Ranked) × (i < done) × (slice_get ranked i ≡ Some r) × (cell ≡ cell_of n p r)

  -- the cycle of a computation is what its rank has beside the rank of its place
  own_cycle : (i : ℕ) (r : Ranked) → slice_get ranked i ≡ Some r → r.rank ≡ place_rank r * 4096 + r.slot.cycle
  own_cycle i r e =
      let k = are.each i r e in
      let z = r.slot.point in
      let place : place_rank r ≡ rank_from 0 (along p.rows z) = ap place_rank k.2 ∙ place_is p z k.1 in
      let time : r.slot.cycle ≡ unsigned_abs (cycle p.time z) = ap (λ (q : Ranked). q.slot.cycle) k.2 in
      let rank : r.rank ≡ rank_from 0 (along p.rows z) * 4096 + unsigned_abs (cycle p.time z) = ap (λ (q : Ranked). q.rank) k.2 in
      omega (arith, place, time, rank)

  module _ (placings : List Placing) (is : slice_get placings n ≡ Some p) where
    pub stands_at : (i : ℕ) (r : Ranked) → slice_get ranked i ≡ Some r → Occupies (view_system t.flat) placings (cell_of n p r) r.slot.cycle n r.slot.point
    stands_at i r e =
        let k = are.each i r e in
        let time : r.slot.cycle ≡ unsigned_abs (cycle p.time r.slot.point) = ap (λ (q : Ranked). q.slot.cycle) k.2 in
        record { computation = k.0; placing = p; is_placing = is; node = refl; at = refl; in_cycle = ap pos time ∙ (timely_cycle p r.slot.point k.1).0 }

    -- where a computation on a cell of the node has its rank
    record IsRankedAt (cell : Cell) (c : ℕ) (z : Point) : Type 0 where
      pub place : ℕ
      pub here : slice_get ranked place ≡ Some (ranked_at p z)
      pub cell_is : cell ≡ cell_of n p (ranked_at p z)
      pub cycle_is : c ≡ unsigned_abs (cycle p.time z)

    ranked_of : (cell : Cell) (c m : ℕ) (z : Point) → cell.node ≡ n → Occupies (view_system t.flat) placings cell c m z → IsRankedAt cell c z
    ranked_of cell c m z e st =
        let same : m ≡ n = sym st.node ∙ e in
        let comp : IsComputation (view_system t.flat) n z = subst (λ (k : ℕ). IsComputation (view_system t.flat) k z) same st.computation in
        let own : slice_get placings n ≡ Some st.placing = ap (λ (k : ℕ). slice_get placings k) (sym same) ∙ st.is_placing in
        let q : st.placing ≡ p = cc in
        let k = are.all z comp in
        let at : cell.at ≡ along p.rows z = st.at ∙ ap (λ (w : Placing). along w.rows z) q in
        let on : pos c ≡ cycle p.time z = st.in_cycle ∙ ap (λ (w : Placing). cycle w.time z) q in
        record {
          place = k.0;
          here = k.1;
          cell_is = ap₂ (λ (node : ℕ) (at : Point). let made : Cell = record { node = node; at = at } in made) e at;
          cycle_is = (let f = ap unsigned_abs on in f);
        }

    -- the cells of the whole node
    pub cells_of_node : (done : ℕ) (cells : List Cell) → length ranked ≤ done → AreCellsTo n p ranked done cells → AreCellsIn (view_system t.flat) placings n (n + 1) cells
    cells_of_node done cells whole h = record {
      each = All-weaker (λ (cell : Cell). (i : ℕ) × (r : Ranked) × (i < done) × (slice_get ranked i ≡ Some r) × (cell ≡ cell_of n p r)) (λ (cell : Cell). (n ≤ cell.node) × (cell.node < n + 1) × IsUsed (view_system t.flat) placings cell) (λ cell k.
          let node : cell.node ≡ n = ap (λ (c : Cell). c.node) k.4 in
          (omega (arith, node), omega (arith, node), subst (IsUsed (view_system t.flat) placings) (sym k.4) (k.1.slot.cycle, n, k.1.slot.point, stands_at k.0 k.1 k.3))) cells h.each;
      all = λ cell low high u.
          let r = ranked_of cell u.0 u.1 u.2 (omega (arith, low, high)) u.3 in
          let l = slice_get_within ranked r.place (ranked_at p u.2) r.here in
          subst (Contains cells) (sym r.cell_is) (h.all r.place (ranked_at p u.2) (omega (arith, l, whole)) r.here);
      order = h.order;
    }

    -- the computations of a run are those of a cell
    pub filled : (start end : ℕ) (first : Ranked) (cells : List Cell) → slice_get ranked start ≡ Some first → IsRunEnd ranked start end → AreCellsTo n p ranked start cells
        → IsFilled (view_system t.flat) placings (cell_of n p first) (map (λ (r : Ranked). r.slot) (take (end - start) (drop start ranked)))
    filled start end first cells ef run h = record {
      each = λ k d l.
          let s = get_or (map (λ (r : Ranked). r.slot) (take (end - start) (drop start ranked))) k d in
          let u = at_slot ranked start (end - start) k s (slice_get-get_or (map (λ (r : Ranked). r.slot) (take (end - start) (drop start ranked))) k d l) in
          let in_run = u.1 in
          let same = run.same (start + k) first u.0 (omega arith) (omega (arith, in_run)) ef u.2 in
          let on : Occupies (view_system t.flat) placings (cell_of n p first) u.0.slot.cycle n u.0.slot.point = subst (λ (cell : Cell). Occupies (view_system t.flat) placings cell u.0.slot.cycle n u.0.slot.point) (one_cell (start + k) start u.0 first u.2 ef same) (stands_at (start + k) u.0 u.2) in
          (n, subst (λ (w : Slot). Occupies (view_system t.flat) placings (cell_of n p first) w.cycle n w.point) u.3 on);
      all = λ c m z st.
          let r = ranked_of (cell_of n p first) c m z refl st in
          let x = are.each r.place (ranked_at p z) r.here in
          let f = are.each start first ef in
          let at : along p.rows first.slot.point ≡ along p.rows z = ap (λ (cell : Cell). cell.at) r.cell_is in
          let same : place_rank first ≡ place_rank (ranked_at p z) = ap place_rank f.2 ∙ place_is p first.slot.point f.1 ∙ ap (rank_from 0) at ∙ sym (place_is p z x.1) in
          let low : start ≤ r.place = (elim (cases_lt r.place start) [
            | inl lt ↦ absurd (let k = h.apart r.place start (ranked_at p z) first lt (omega arith) r.here ef in omega (arith, k, same))
            | inr ge ↦ ge
          ]) in
          let high : r.place < end = (elim (cases_lt r.place end) [
            | inl lt ↦ lt
            | inr ge ↦ absurd (let k = behind start end r.place first (ranked_at p z) ef run ge r.here in omega (arith, k, same))
          ]) in
          let here : slice_get ranked (start + (r.place - start)) ≡ Some (ranked_at p z) = ap (λ (k : ℕ). slice_get ranked k) (omega (arith, low)) ∙ r.here in
          let s = among_at (map (λ (r : Ranked). r.slot) (take (end - start) (drop start ranked))) (r.place - start) (ranked_at p z).slot (slot_at ranked start (end - start) (r.place - start) (ranked_at p z) (omega (arith, low, high)) here) in
          subst (λ (k : ℕ). Contains (map (λ (r : Ranked). r.slot) (take (end - start) (drop start ranked))) (record { cycle = k; point = z })) (sym r.cycle_is) s;
      order = λ i j d lt lj.
          let a = at_slot ranked start (end - start) i (get_or (map (λ (r : Ranked). r.slot) (take (end - start) (drop start ranked))) i d) (slice_get-get_or (map (λ (r : Ranked). r.slot) (take (end - start) (drop start ranked))) i d (omega (arith, lt, lj))) in
          let b = at_slot ranked start (end - start) j (get_or (map (λ (r : Ranked). r.slot) (take (end - start) (drop start ranked))) j d) (slice_get-get_or (map (λ (r : Ranked). r.slot) (take (end - start) (drop start ranked))) j d lj) in
          let ia = a.1 in
          let ib = b.1 in
          let up = are.rising (start + i) (start + j) a.0 b.0 (omega (arith, lt)) a.2 b.2 in
          let sa = run.same (start + i) first a.0 (omega arith) (omega (arith, ia)) ef a.2 in
          let sb = run.same (start + j) first b.0 (omega arith) (omega (arith, ib)) ef b.2 in
          let ca = own_cycle (start + i) a.0 a.2 in
          let cb = own_cycle (start + j) b.0 b.2 in
          let less : a.0.slot.cycle < b.0.slot.cycle = omega (arith, up, sa, sb, ca, cb) in
          subst (λ (u : Slot). u.cycle < (get_or (map (λ (r : Ranked). r.slot) (take (end - start) (drop start ranked))) j d).cycle) a.3 (subst (λ (u : Slot). a.0.slot.cycle < u.cycle) b.3 less);
    }
