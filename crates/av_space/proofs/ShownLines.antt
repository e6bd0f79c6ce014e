-- Lines of computed points: their wires, and one line after another.
use Rattle.std.proofs.Common.{◌≡◌, ℕ, zero, suc, ◌+◌, ◌<◌, ◌≤◌, ◌⊎◌, inl, inr, ⊎_elim, IsTrue, Some, List, [], ◌∷◌, ◌++◌, length, length-append, take, get_or, refl, sym, ap, subst, ◌∙◌, arith}
use Rattle.std.specs.Prelude.{slice_get, Contains, AllPairs, Result, Ok, Err}
use Rattle.std.specs.List.{range_with_len}
use Rattle.std.specs.List.Sorted.{IsBinarySearchResult}
use Rattle.std.specs.Ordering.{nat_cmp}
use Rattle.std.proofs.lemmas.Bool.{cases_lt}
use Rattle.std.proofs.lemmas.List.{map-append, take_more, get_or_default, get_or-take, length-take-le, take_all}
use Rattle.std.proofs.lemmas.List.FromFn.{length-range_with_len, get_or-range_with_len}
use Rattle.std.proofs.lemmas.List.Elements.{All-push, All-weaker, Contains-append_left, Contains-append_cases}
use Rattle.std.proofs.lemmas.List.Sorted.{searched}
use Rattle.std.proofs.lemmas.List.Kept.{AllPairs-filter}
use Rattle.std.proofs.lemmas.List.Quantifiers.{all_pairs_push}
use Rattle.std.proofs.lemmas.Option.{slice_get-get_or, slice_get_within}
use Rattle.av_tree.specs.Points.{Point}
use Rattle.av_tree.specs.Trees.{Text}
use Rattle.av_flat.specs.Nodes.{nodes, IsComputation}
use Rattle.av_flat.specs.Order.{IsBefore}
use Rattle.av_flat.specs.Signatures.{is_shown}
use Rattle.av_flat.specs.Trees.{Variable, FlatSystem}
use Rattle.av_base.proofs.Among.{last_among, among_cases, none_among, among_at}
use Rattle.av_net.specs.declared.design.Entry.{Entry}
use Rattle.av_space.specs.declared.cells.Cell.{Cell}
use Rattle.av_space.specs.Coordinates.{Placing}
use Rattle.av_space.specs.Listings.{output_name, value_name, AtLine, IsAtLine, AreAtLines, IsWireOf, output, value}
use Rattle.av_space.specs.Ports.{is_output_cell, output_cells}
use Rattle.av_space.specs.Occupancy.{AreCells, Computes}
use Rattle.av_space.specs.inner.Laying.{AreNodePoints}
use Rattle.av_space.specs.inner.Showing.{AreWires, AreLinesOf}
use Rattle.av_space.proofs.ByPlace.{pair_at}
use Rattle.av_space.proofs.OneReading.{one_place}
use Rattle.av_base.proofs.Lists.{some_is, get_cases}

-- ---- output ports

range_rises : (n : ℕ) → AllPairs (λ a b. a < b) (range_with_len 0 n)
range_rises n i j d l m =
    let size = length-range_with_len 0 n in
    let a = get_or-range_with_len 0 n i d (omega (arith, l, m, size)) in
    let b = get_or-range_with_len 0 n j d (omega (arith, m, size)) in
    omega (arith, a, b, l)

pub outputs_rise : (s : FlatSystem) (cells : List Cell) (outputs : List ℕ) → outputs ≡ output_cells s cells → AllPairs (λ a b. a < b) outputs
outputs_rise s cells outputs e =
    subst (λ (ps : List ℕ). AllPairs (λ a b. a < b) ps) (sym e) (AllPairs-filter (λ a b. a < b) (is_output_cell s cells) (range_with_len 0 (length cells)) (range_rises (length cells)))

-- the wires of more and more cells
pub no_wires : (outputs : List ℕ) → AreWires outputs 0 []
no_wires outputs = record { number = refl; each = λ p wire e. absurd cc }

last_wire : (wire w : Text) (j : ℕ) → slice_get (wire ∷ []) j ≡ Some w → (j ≡ 0) × (wire ≡ w)
last_wire wire w zero e = (refl, some_is wire w e)
last_wire wire w (suc j) e = absurd cc

pub wire_more : (outputs : List ℕ) (count : ℕ) (wires : List Text) (wire : Text) → IsWireOf outputs count wire → AreWires outputs count wires → AreWires outputs (count + 1) (wires ++ wire ∷ [])
wire_more outputs count wires wire is h = record {
  number = length-append wires (wire ∷ []) ∙ ap (λ (n : ℕ). n + 1) h.number;
  each = λ p w e. ⊎_elim
      (λ here. h.each p w here)
      (λ there.
      let last = last_wire wire w there.0 there.2 in
      let zero_is = last.0 in
      let at = there.1 in
      let many = h.number in
      let same : count ≡ p = omega (arith, zero_is, at, many) in
      subst (λ (q : ℕ). IsWireOf outputs q w) same (subst (λ (x : Text). IsWireOf outputs count x) last.1 is))
      (get_cases wires (wire ∷ []) p w e);
}

-- as a search among them asks
never_fall : (outputs : List ℕ) → AllPairs (λ a b. a < b) outputs → (i j : ℕ) → i ≤ j → j < length outputs → get_or outputs i 0 ≤ get_or outputs j 0
never_fall outputs rise i j le l = ⊎_elim
    (λ lt. let r = rise i j 0 lt l in omega (arith, r))
    (λ ge. let same : i ≡ j = omega (arith, le, ge) in let e = ap (λ (k : ℕ). get_or outputs k 0) same in omega (arith, e))
    (cases_lt i j)

-- what the search gives
pub port_found : (outputs : List ℕ) (p k : ℕ) (r : Result ℕ ℕ) → AllPairs (λ a b. a < b) outputs → IsBinarySearchResult (λ y. nat_cmp y p) outputs r → r ≡ Ok k → IsWireOf outputs p (output_name k)
port_found outputs p k r rise h e =
    let f = searched outputs p (Ok k) (subst (λ (x : Result ℕ ℕ). IsBinarySearchResult (λ y. nat_cmp y p) outputs x) e h) (never_fall outputs rise) in
    output k (slice_get-get_or outputs k 0 f.0 ∙ ap (λ (q : ℕ). Some q) f.1)

pub no_port : (outputs : List ℕ) (p k : ℕ) (r : Result ℕ ℕ) → AllPairs (λ a b. a < b) outputs → IsBinarySearchResult (λ y. nat_cmp y p) outputs r → r ≡ Err k → IsWireOf outputs p (value_name p)
no_port outputs p k r rise h e =
    let f = searched outputs p (Err k) (subst (λ (x : Result ℕ ℕ). IsBinarySearchResult (λ y. nat_cmp y p) outputs x) e h) (never_fall outputs rise) in
    value (none f.1 f.2)
  where
    none : ((i : ℕ) → i < k → get_or outputs i 0 < p) → ((i : ℕ) → k ≤ i → i < length outputs → p < get_or outputs i 0) → Contains outputs p → ⊥
    none below above (i, l, is) =
        let d = get_or_default outputs i p 0 l in
        ⊎_elim (λ lt. let a = below i lt in absurd (omega (arith, a, d, is))) (λ ge. let a = above i ge l in absurd (omega (arith, a, d, is))) (cases_lt i k)

-- one port to a cell
one_port : (outputs : List ℕ) → AllPairs (λ a b. a < b) outputs → (i j p : ℕ) → slice_get outputs i ≡ Some p → slice_get outputs j ≡ Some p → i ≡ j
one_port outputs rise i j p a b = ⊎_elim
    (λ lt. absurd (let r = pair_at (λ x y. x < y) outputs rise i j p p a b lt in omega (arith, r)))
    (λ ge. ⊎_elim (λ lt. absurd (let r = pair_at (λ x y. x < y) outputs rise j i p p b a lt in omega (arith, r))) (λ le. omega (arith, ge, le)) (cases_lt j i))
    (cases_lt i j)

one_wire : (outputs : List ℕ) → AllPairs (λ a b. a < b) outputs → (p : ℕ) (v w : List ℕ) → IsWireOf outputs p v → IsWireOf outputs p w → v ≡ w
one_wire outputs rise p v w (output i a) (output j b) = ap output_name (one_port outputs rise i j p a b)
one_wire outputs rise p v w (output i a) (value none) = absurd (none (among_at outputs i p a))
one_wire outputs rise p v w (value none) (output j b) = absurd (none (among_at outputs j p b))
one_wire outputs rise p v w (value none) (value other) = refl

-- ---- lines

same_line : (a b : AtLine) → a.node ≡ b.node → a.entry.variable ≡ b.entry.variable → a.entry.point ≡ b.entry.point → a.entry.wire ≡ b.entry.wire → a.entry.cycle ≡ b.entry.cycle → a ≡ b
same_line a b node variable point wire cycle = λ i. record { node = node i; entry = record { variable = variable i; point = point i; wire = wire i; cycle = cycle i } }

module _ (s : FlatSystem) (placings : List Placing) (cells : List Cell) (outputs : List ℕ) where
  -- a computed point has one line
  one_line : AreCells s placings cells → AllPairs (λ a b. a < b) outputs → (a b : AtLine) → a.node ≡ b.node → a.entry.point ≡ b.entry.point → IsAtLine s placings cells outputs a → IsAtLine s placings cells outputs b → a ≡ b
  one_line are rise a b node point h k =
      let there = subst (λ (n : ℕ). Computes s placings cells k.cell b.entry.cycle n a.entry.point) (sym node) (subst (λ (z : Point). Computes s placings cells k.cell b.entry.cycle b.node z) (sym point) k.computes) in
      let one = one_place s placings cells are h.cell k.cell a.entry.cycle b.entry.cycle a.node a.entry.point h.computes there in
      let same : h.variable ≡ k.variable = some_is h.variable k.variable (sym h.is_variable ∙ ap (λ (n : ℕ). slice_get (nodes s) n) node ∙ k.is_variable) in
      same_line a b node (h.variable_is ∙ ap (λ (v : Variable). v.name) same ∙ sym k.variable_is) point
      (one_wire outputs rise h.cell a.entry.wire b.entry.wire h.wire_is (subst (λ (p : ℕ). IsWireOf outputs p b.entry.wire) (sym one.0) k.wire_is)) one.1

  pub no_lines : (P : ℕ → Point → Type 0) → ((n : ℕ) (z : Point) → P n z → ⊥) → AreLinesOf s placings cells outputs P []
  no_lines P none = record {
    lines = [];
    entries = refl;
    each = λ i d l. absurd (omega (arith, l));
    all = λ l h is. absurd (none l.node l.entry.point h);
    order = λ i j d l m. absurd (omega (arith, m));
  }

  -- the same lines, as those of other points
  pub lines_as : (P Q : ℕ → Point → Type 0) (ats : List Entry) → ((l : AtLine) → IsAtLine s placings cells outputs l → P l.node l.entry.point → Q l.node l.entry.point)
      → ((l : AtLine) → IsAtLine s placings cells outputs l → Q l.node l.entry.point → P l.node l.entry.point) → AreLinesOf s placings cells outputs P ats → AreLinesOf s placings cells outputs Q ats
  lines_as P Q ats there back h = record {
    lines = h.lines;
    entries = h.entries;
    each = All-weaker (λ l. P l.node l.entry.point × IsAtLine s placings cells outputs l) (λ l. Q l.node l.entry.point × IsAtLine s placings cells outputs l) (λ l r. (there l r.1 r.0, r.1)) h.lines h.each;
    all = λ l q is. h.all l (back l is q) is;
    order = h.order;
  }

  pub line_more : AreCells s placings cells → AllPairs (λ a b. a < b) outputs → (P Q : ℕ → Point → Type 0) (ats : List Entry) (l : AtLine) → IsAtLine s placings cells outputs l → Q l.node l.entry.point
      → ((m : ℕ) (z : Point) → P m z → Q m z) → ((m : ℕ) (z : Point) → Q m z → P m z ⊎ ((m ≡ l.node) × (z ≡ l.entry.point))) → ((m : ℕ) (z : Point) → P m z → (m < l.node) ⊎ ((m ≡ l.node) × IsBefore z l.entry.point))
      → AreLinesOf s placings cells outputs P ats → AreLinesOf s placings cells outputs Q (ats ++ l.entry ∷ [])
  line_more are rise P Q ats l is here there back behind h = record {
    lines = h.lines ++ l ∷ [];
    entries = ap (λ (es : List Entry). es ++ l.entry ∷ []) h.entries ∙ sym (map-append (λ (x : AtLine). x.entry) h.lines (l ∷ []));
    each = All-push (λ x. Q x.node x.entry.point × IsAtLine s placings cells outputs x) h.lines l
        (All-weaker (λ x. P x.node x.entry.point × IsAtLine s placings cells outputs x) (λ x. Q x.node x.entry.point × IsAtLine s placings cells outputs x) (λ x r. (there x.node x.entry.point r.0, r.1)) h.lines h.each) (here, is);
    all = λ x q is_line. ⊎_elim
        (λ p. Contains-append_left h.lines (l ∷ []) x (h.all x p is_line))
        (λ e. subst (Contains (h.lines ++ l ∷ [])) (sym (one_line are rise x l e.0 e.1 is_line is)) (last_among h.lines l))
        (back x.node x.entry.point q);
    order = all_pairs_push (λ a b. (a.node < b.node) ⊎ ((a.node ≡ b.node) × IsBefore a.entry.point b.entry.point)) h.lines l h.order
        (λ k d w. let x = get_or h.lines k d in behind x.node x.entry.point (h.each k d w).0);
  }

  pub all_lines : (P : ℕ → Point → Type 0) (ats : List Entry) → ((l : AtLine) → IsAtLine s placings cells outputs l → P l.node l.entry.point) → AreLinesOf s placings cells outputs P ats → AreAtLines s placings cells outputs ats
  all_lines P ats whole h = record {
    lines = h.lines;
    entries = h.entries;
    each = All-weaker (λ l. P l.node l.entry.point × IsAtLine s placings cells outputs l) (IsAtLine s placings cells outputs) (λ l r. r.1) h.lines h.each;
    all = λ l is. h.all l (whole l is) is;
    order = h.order;
  }

  -- ---- points of a node

  abbrev UpTo : ℕ → List Point → ℕ → Point → Type 0
  UpTo n points m z = (m < n) ⊎ ((m ≡ n) × Contains points z)

  abbrev Below : ℕ → ℕ → Point → Type 0
  Below n m z = m < n

  pub first_point : (n : ℕ) (points : List Point) (ats : List Entry) → AreLinesOf s placings cells outputs (Below n) ats → AreLinesOf s placings cells outputs (UpTo n (take 0 points)) ats
  first_point n points ats h = lines_as (Below n) (UpTo n []) ats (λ l is p. inl p) (λ l is q. ⊎_elim (λ p. p) (λ r. absurd (none_among l.entry.point r.1)) q) h

  pub next_point : AreCells s placings cells → AllPairs (λ a b. a < b) outputs → (n k : ℕ) (points : List Point) (z : Point) (ats : List Entry) (e : Entry) → AllPairs IsBefore points → k < length points → z ≡ get_or points k z
      → e.point ≡ z → IsAtLine s placings cells outputs (record { node = n; entry = e }) → AreLinesOf s placings cells outputs (UpTo n (take k points)) ats → AreLinesOf s placings cells outputs (UpTo n (take (k + 1) points)) (ats ++ e ∷ [])
  next_point are rise n k points z ats e ascending w read point is h =
      line_more are rise (UpTo n (take k points)) (UpTo n (take (k + 1) points)) ats (record { node = n; entry = e }) is (inr (refl, more e.point (inr point))) there back behind h
    where
      longer : take (k + 1) points ≡ take k points ++ z ∷ []
      longer = take_more points k z w ∙ ap (λ (x : Point). take k points ++ x ∷ []) (sym read)

      more : (x : Point) → Contains (take k points) x ⊎ (x ≡ z) → Contains (take (k + 1) points) x
      more x c = subst (λ (xs : List Point). Contains xs x) (sym longer) (⊎_elim
          (λ a. Contains-append_left (take k points) (z ∷ []) x a)
          (λ a. subst (Contains (take k points ++ z ∷ [])) (sym a) (last_among (take k points) z))
          c)

      there : (m : ℕ) (x : Point) → UpTo n (take k points) m x → UpTo n (take (k + 1) points) m x
      there m x p = ⊎_elim (λ a. inl a) (λ a. inr (a.0, more x (inl a.1))) p

      back : (m : ℕ) (x : Point) → UpTo n (take (k + 1) points) m x → UpTo n (take k points) m x ⊎ ((m ≡ n) × (x ≡ e.point))
      back m x q = ⊎_elim (λ a. inl (inl a))
          (λ a. ⊎_elim (λ c. inl (inr (a.0, c))) (λ c. ⊎_elim (λ f. inr (a.0, sym f ∙ sym point)) (λ f. absurd (none_among x f)) (among_cases z x [] c))
          (Contains-append_cases (take k points) (z ∷ []) x (subst (λ (xs : List Point). Contains xs x) longer a.1)))
          q

      behind : (m : ℕ) (x : Point) → UpTo n (take k points) m x → (m < n) ⊎ ((m ≡ n) × IsBefore x e.point)
      behind m x p = ⊎_elim (λ a. inl a) (λ a. inr (a.0, earlier x a.1)) p
        where
          earlier : (x : Point) → Contains (take k points) x → IsBefore x e.point
          earlier x (i, l, f) =
              let size = length-take-le k points (omega (arith, w)) in
              let lt : i < k = omega (arith, l, size) in
              let first : get_or points i x ≡ x = sym (get_or-take k points i x lt) ∙ f in
              let last : get_or points k x ≡ e.point = get_or_default points k x z w ∙ sym read ∙ sym point in
              subst (λ (a : Point). IsBefore a e.point) first (subst (λ (b : Point). IsBefore (get_or points i x) b) last (ascending i k x lt w))

  -- all points of a node
  pub whole_node : (n k : ℕ) (points : List Point) (ats : List Entry) → AreNodePoints s n points → length points ≤ k → AreLinesOf s placings cells outputs (UpTo n (take k points)) ats → AreLinesOf s placings cells outputs (Below (n + 1)) ats
  whole_node n k points ats are l h = lines_as (UpTo n (take k points)) (Below (n + 1)) ats
      (λ x is p. ⊎_elim (λ a. omega (arith, a)) (λ a. let e = a.0 in omega (arith, e)) p)
      (λ x is q. ⊎_elim (λ a. inl a) (λ g. let same : x.node ≡ n = omega (arith, q, g) in
      inr (same, subst (λ (xs : List Point). Contains xs x.entry.point) (sym (take_all k points l)) (are.all x.entry.point (subst (λ (m : ℕ). IsComputation s m x.entry.point) same is.computes.stands.computation))))
      (cases_lt x.node n))
      h

  -- a node that is not shown
  pub not_shown : (n : ℕ) (v : Variable) (ats : List Entry) → slice_get (nodes s) n ≡ Some v → (IsTrue (is_shown v.kind) → ⊥) → AreLinesOf s placings cells outputs (Below n) ats → AreLinesOf s placings cells outputs (Below (n + 1)) ats
  not_shown n v ats e hidden h = lines_as (Below n) (Below (n + 1)) ats (λ x is p. omega (arith, p))
      (λ x is q. ⊎_elim (λ a. a) (λ g. let same : x.node ≡ n = omega (arith, q, g) in
      let own : is.variable ≡ v = some_is is.variable v (sym is.is_variable ∙ ap (λ (m : ℕ). slice_get (nodes s) m) same ∙ e) in
      absurd (hidden (subst (λ (w : Variable). IsTrue (is_shown w.kind)) own is.shown)))
      (cases_lt x.node n))
      h

  pub whole_system : (n : ℕ) (ats : List Entry) → length (nodes s) ≤ n → AreLinesOf s placings cells outputs (Below n) ats → AreAtLines s placings cells outputs ats
  whole_system n ats l h = all_lines (Below n) ats (λ x is. let w = slice_get_within (nodes s) x.node is.variable is.is_variable in omega (arith, w, l)) h
