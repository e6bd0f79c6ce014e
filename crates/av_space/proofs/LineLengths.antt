-- One more link: the line that it reads, and how much the delay lines grow.
use Rattle.std.proofs.Common.{◌≡◌, ℕ, zero, suc, ◌+◌, ◌-◌, ◌<◌, ◌≤◌, List, [], ◌∷◌, ◌++◌, length, map, refl, sym, ap, ap₂, subst, ◌∙◌, arith, append-nil, Bool, true, false, ◌&&◌, if◌then◌else◌, Option, Some, None, max, ◌⊎◌, inl, inr}
use Rattle.std.specs.Prelude.{filter, fold, sum, nat_eq, IfSome, slice_get}
use Rattle.std.specs.List.{range_with_len}
use Rattle.std.specs.BTreeMap.{BTreeMap}
use Rattle.std.proofs.lemmas.List.{map-append}
use Rattle.std.proofs.lemmas.List.Elements.{filter-append}
use Rattle.std.proofs.lemmas.Bool.{cases_eq}
use Rattle.std.proofs.lemmas.List.Sums.{fold_push, sum_by-cons}
use Rattle.av_flat.specs.declared.timed.Helper.{Helper}
use Rattle.av_flat.specs.Trees.{Variable, FlatSystem}
use Rattle.av_space.specs.declared.cells.Cell.{Cell}
use Rattle.av_space.specs.declared.cells.Link.{Link}
use Rattle.av_space.specs.declared.lengths.DelayLine.{DelayLine}
use Rattle.av_space.specs.Coordinates.{Placing}
use Rattle.av_space.specs.Taps.{taps_of, taps_on, node_of, helper_of, helper_in, helper_read, IsTapped}
use Rattle.av_space.specs.Links.{is_same, reads_line, line_length, cell_length, delay_count}
use Rattle.av_space.specs.inner.Lengths.{is_line, line_of}
use Rattle.av_space.specs.Lengths.{length_in, AreLengths}
use Rattle.av_base.proofs.Pieces.{same_eq}

-- ---- tests

other_number : (m n : ℕ) → (m ≡ n → ⊥) → nat_eq m n ≡ false
other_number m n ne = by (nat_eq m n) refl
  where
    by : (b : Bool) → nat_eq m n ≡ b → nat_eq m n ≡ false
    by true e = absurd (ne (grind (arith, e)))
    by false e = e

-- ---- sums

same_sum : (f g : ℕ → ℕ) (start n : ℕ) → ((k : ℕ) → start ≤ k → g k ≡ f k) → sum (map g (range_with_len start n)) ≡ sum (map f (range_with_len start n))
same_sum f g start zero h = refl
same_sum f g start (suc n) h =
    let a = sum_by-cons (λ x. x) (g start) (map g (range_with_len (start + 1) n)) in
    let b = sum_by-cons (λ x. x) (f start) (map f (range_with_len (start + 1) n)) in
    let here = h start (omega arith) in
    let rest = same_sum f g (start + 1) n (λ k l. h k (omega (arith, l))) in
    omega (arith, a, b, here, rest)

more_at : (f g : ℕ → ℕ) (a e start n : ℕ) → start ≤ a → a < start + n → g a ≡ f a + e → ((k : ℕ) → (a ≡ k → ⊥) → g k ≡ f k) → sum (map g (range_with_len start n)) ≡ sum (map f (range_with_len start n)) + e
more_at f g a e start zero low high more same = absurd (omega (arith, low, high))
more_at f g a e start (suc n) low high more same =
    sum_by-cons (λ x. x) (g start) (map g (range_with_len (start + 1) n)) ∙ by (cases_eq a start) (λ ne. more_at f g a e (start + 1) n (omega (arith, low, ne)) (omega (arith, high)) more same)
    ∙ ap (λ k. k + e) (sym (sum_by-cons (λ x. x) (f start) (map f (range_with_len (start + 1) n))))
  where
    by : (a ≡ start) ⊎ (a ≡ start → ⊥) → ((a ≡ start → ⊥) → sum (map g (range_with_len (start + 1) n)) ≡ sum (map f (range_with_len (start + 1) n)) + e)
        → g start + sum (map g (range_with_len (start + 1) n)) ≡ f start + sum (map f (range_with_len (start + 1) n)) + e
    by (inl is) later =
        let here : g start ≡ f start + e = subst (λ (k : ℕ). g k ≡ f k + e) is more in
        let rest = same_sum f g (start + 1) n (λ k l. same k (λ i. omega (arith, is, i, l))) in
        omega (arith, here, rest)
    by (inr ne) later =
        let here = same start ne in
        let rest = later ne in
        omega (arith, here, rest)

-- ---- one more link

module _ (s : FlatSystem) (hs : List Helper) (cells : List Cell) (links : List Link) (l : Link) where
  abbrev own : DelayLine
  own = line_of s hs cells l

  abbrev Length : DelayLine → ℕ
  Length q = line_length s hs cells links q.cell.0 q.helper

  abbrev Longer : DelayLine → ℕ
  Longer q = line_length s hs cells (links ++ l ∷ []) q.cell.0 q.helper

  pub length_more : (q : DelayLine) → Longer q ≡ (if is_line own q then max (Length q) l.delay else Length q)
  length_more q =
      ap (λ (xs : List Link). fold max 0 (map (λ x. x.delay) xs)) (filter-append test links (l ∷ [])) ∙ by (test l) refl
    where
      test : Link → Bool
      test = reads_line s hs cells q.cell.0 q.helper

      by : (b : Bool) → test l ≡ b → fold max 0 (map (λ (x : Link). x.delay) (filter test links ++ (if b then l ∷ [] else []))) ≡ (if b then max (fold max 0 (map (λ (x : Link). x.delay) (filter test links))) l.delay else fold max 0 (map (λ (x : Link). x.delay) (filter test links)))
      by true e = ap (fold max 0) (map-append (λ (x : Link). x.delay) (filter test links) (l ∷ [])) ∙ fold_push max 0 (map (λ (x : Link). x.delay) (filter test links)) l.delay
      by false e = ap (λ (xs : List Link). fold max 0 (map (λ x. x.delay) xs)) (append-nil (filter test links))

  pub lengths_more : (m n : BTreeMap DelayLine ℕ) → AreLengths s hs cells links m → ((q : DelayLine) → length_in n q ≡ (if is_line own q then max (length_in m q) l.delay else length_in m q)) → AreLengths s hs cells (links ++ l ∷ []) n
  lengths_more m n h raised q = raised q ∙ ap (λ k. if is_line own q then max k l.delay else k) (h q) ∙ sym (length_more q)

  -- what the line grows by
  abbrev growth : ℕ
  growth = l.delay - Length own

  other_line : (q : DelayLine) → is_line own q ≡ false → Longer q ≡ Length q
  other_line q e = length_more q ∙ ap (λ b. if b then max (Length q) l.delay else Length q) e

  own_line : (q : DelayLine) → is_line own q ≡ true → q ≡ own → Longer q ≡ Length q + growth
  own_line q e same = length_more q ∙ ap (λ b. if b then max (Length q) l.delay else Length q) e ∙ more (Length q) (Length own) l.delay (ap Length same)
    where
      more : (a b d : ℕ) → a ≡ b → max a d ≡ a + (d - b)
      more a b d i = omega (arith, i)

  other_cell : (p : ℕ) → (l.producer ≡ p → ⊥) → (line : Option ℕ) → Longer (record { cell = record { 0 = p }; helper = line }) ≡ Length (record { cell = record { 0 = p }; helper = line })
  other_cell p ne line = other_line (record { cell = record { 0 = p }; helper = line }) (ap (λ b. b && is_same own.helper line) (other_number l.producer p ne))

  cell_same : (p : ℕ) → (l.producer ≡ p → ⊥) → cell_length s hs cells (links ++ l ∷ []) p ≡ cell_length s hs cells links p
  cell_same p ne =
      ap₂ (λ a b. a + b) (other_cell p ne None)
      (same_sum (λ h. line_length s hs cells links p (Some h)) (λ h. line_length s hs cells (links ++ l ∷ []) p (Some h)) 0 (length hs) (λ k low. other_cell p ne (Some k)))

  cell_more : (line : Option ℕ) → helper_read s hs cells l.consumer l.site ≡ line → IfSome line (λ h. h < length hs) → cell_length s hs cells (links ++ l ∷ []) l.producer ≡ cell_length s hs cells links l.producer + growth
  cell_more None e low =
      let p = l.producer in
      let one = own_line (record { cell = record { 0 = p }; helper = None }) (ap₂ (λ a b. a && b) (same_eq p) (ap (λ o. is_same o None) e)) (ap (λ o. record { cell = record { 0 = p }; helper = o }) (sym e)) in
      let rest = same_sum (λ h. line_length s hs cells links p (Some h)) (λ h. line_length s hs cells (links ++ l ∷ []) p (Some h)) 0 (length hs)
      (λ k b. other_line (record { cell = record { 0 = p }; helper = Some k }) (ap₂ (λ a b. a && b) (same_eq p) (ap (λ o. is_same o (Some k)) e))) in
      omega (arith, one, rest)
  cell_more (Some a) e low =
      let p = l.producer in
      let one = other_line (record { cell = record { 0 = p }; helper = None }) (ap₂ (λ a b. a && b) (same_eq p) (ap (λ o. is_same o None) e)) in
      let rest = more_at (λ h. line_length s hs cells links p (Some h)) (λ h. line_length s hs cells (links ++ l ∷ []) p (Some h)) a growth 0 (length hs) (omega arith) (omega (arith, low))
      (own_line (record { cell = record { 0 = p }; helper = Some a }) (ap₂ (λ a b. a && b) (same_eq p) (ap (λ o. is_same o (Some a)) e ∙ same_eq a)) (ap (λ o. record { cell = record { 0 = p }; helper = o }) (sym e)))
      (λ k ne. other_line (record { cell = record { 0 = p }; helper = Some k }) (ap₂ (λ a b. a && b) (same_eq p) (ap (λ o. is_same o (Some k)) e ∙ other_number a k ne))) in
      omega (arith, one, rest)

  pub count_more : l.producer < length cells → IfSome (helper_read s hs cells l.consumer l.site) (λ h. h < length hs) → delay_count s hs cells (links ++ l ∷ []) ≡ delay_count s hs cells links + growth
  count_more low known =
      more_at (cell_length s hs cells links) (cell_length s hs cells (links ++ l ∷ [])) l.producer growth 0 (length cells) (omega arith) (omega (arith, low))
      (cell_more (helper_read s hs cells l.consumer l.site) refl known) (λ p ne. cell_same p ne)

-- ---- the helper whose word a tap reads

pub tapped_helper : (s : FlatSystem) (hs : List Helper) (placings : List Placing) (cells : List Cell) (p j c q d : ℕ) → (r : IsTapped s hs placings cells p j c q d) → helper_read s hs cells p j ≡ helper_of r.tap.way
tapped_helper s hs placings cells p j c q d r =
    let node : node_of cells p ≡ Some r.node = rw r.computes.is_cell (ap Some r.computes.stands.node) in
    ap (λ (o : Option ℕ). helper_in (slice_get (taps_on s hs o) j)) node ∙ ap (λ (o : Option Variable). helper_in (slice_get (taps_of s hs r.node o) j)) r.is_variable ∙ ap helper_in r.is_tap

-- ---- no link

zero_sum : (f : ℕ → ℕ) (start n : ℕ) → ((k : ℕ) → f k ≡ 0) → sum (map f (range_with_len start n)) ≡ 0
zero_sum f start zero h = refl
zero_sum f start (suc n) h =
    let a = sum_by-cons (λ x. x) (f start) (map f (range_with_len (start + 1) n)) in
    let here = h start in
    let rest = zero_sum f (start + 1) n h in
    omega (arith, a, here, rest)

pub none_counted : (s : FlatSystem) (hs : List Helper) (cells : List Cell) → delay_count s hs cells [] ≡ 0
none_counted s hs cells = zero_sum (cell_length s hs cells []) 0 (length cells) (λ p. let z = zero_sum (λ h. line_length s hs cells [] p (Some h)) 0 (length hs) (λ h. refl) in omega (arith, z))
