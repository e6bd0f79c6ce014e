-- The part of a tree with a number, made from parts of what the tree is made from.
use Rattle.std.proofs.Common.{◌≡◌, ℕ, zero, suc, ◌+◌, ◌-◌, ◌*◌, ◌/◌, ◌%◌, ◌^◌, ◌<◌, ◌≤◌, min, Bool, true, false, ◌||◌, List, [], ◌∷◌, ◌++◌, map, length, drop, get_or, slice_get, refl, sym, ap, ap₂, subst, arith, ◌∙◌}
use Rattle.std.proofs.Math.Nat.{min-eq_left, mul_assoc}
use Rattle.std.proofs.lemmas.List.{append_assoc, append-nil}
use Rattle.av_base.specs.declared.word.Op.{Op}
use Rattle.av_affine.specs.declared.form.Form.{Form}
use Rattle.av_affine.specs.declared.map.Map.{Map}
use Rattle.av_poly.specs.Points.{Set}
use Rattle.av_poly.specs.Preimages.{rows_before}
use Rattle.av_tree.specs.declared.relation.Relation.{Relation}
use Rattle.av_tree.specs.declared.sign.Sign.{Sign}
use Rattle.av_flat.specs.declared.tree.Tree.{Tree as TreeMade}
use Rattle.av_flat.specs.declared.tree.Tree.TheVariants as made
use Rattle.av_flat.specs.Trees.{Tree, Trees, reference, binary, choice, restriction, cases, reduction, more, trees_of, view}
use Rattle.av_flat.specs.Signatures.{Signature}
use Rattle.av_flat.specs.Pieces.{Part, part, composed, rows_of, rows_under, parts, parts_of_all}
use Rattle.av_flat.specs.Quantities.{piece_count, piece_count_of_all}
use Rattle.av_flat.proofs.Parts.{length_parts}
use Rattle.av_flat.proofs.Views.{view_case}
use Rattle.av_normal.specs.inner.Numbered.{part_at}
use Rattle.av_normal.specs.inner.UnderMaps.{IsReadable, AreReadable}
use Rattle.av_normal.specs.inner.ReductionSets.{has_reduction}
use Rattle.av_normal.specs.inner.PieceByNumber.{HasPart, IsPartAt, AreRowsAt, AreShares, AreFourNumbers, AreLeft}
use Rattle.av_normal.proofs.Numbering.{at_first, at_second, at_map, at_pairs, at_fours, AreBelow, below}
use Rattle.av_base.proofs.Lists.{next_item}

-- ---- numbers

capped : (n count : ℕ) → count ≡ min n (2 ^ 128 - 1) → n ≤ 256 → count ≡ n
capped n count e few =
    let l : n ≤ 2 ^ 128 - 1 = omega (arith, few) in
    e ∙ min-eq_left l

-- numbers of two operands, of which the second has so many parts
pub two_shares : (r number count a b : ℕ) → count ≡ min r (2 ^ 128 - 1) → (0 < count → a ≡ number / count) → (0 < count → b ≡ number % count)
    → 0 < r → r ≤ 256 → (a ≡ number / r) × (b ≡ number % r)
two_shares r number count a b e slow fast some few =
    let is = capped r count e few in
    let p : 0 < count = subst (λ (n : ℕ). 0 < n) (sym is) some in
    (slow p ∙ ap (λ n. number / n) is, fast p ∙ ap (λ n. number % n) is)

-- numbers of four operands, of which the others have so many parts
pub four_shares : (r x y number cr cx cy third second a o b p c d : ℕ)
    → cr ≡ min r (2 ^ 128 - 1) → cx ≡ min x (2 ^ 128 - 1) → cy ≡ min y (2 ^ 128 - 1) → third ≡ min (cx * cy) (2 ^ 128 - 1) → second ≡ min (cr * third) (2 ^ 128 - 1)
    → (0 < second → a ≡ number / second) → (0 < second → o ≡ number % second)
    → (0 < third → b ≡ o / third) → (0 < third → p ≡ o % third)
    → (0 < cy → c ≡ p / cy) → (0 < cy → d ≡ p % cy)
    → 0 < r * (x * y) → r * (x * y) ≤ 256 → AreShares number (r * (x * y)) (x * y) y a b c d
four_shares r x y number cr cx cy third second a o b p c d er ex ey et es ha ho hb hp hc hd some few =
    let f = below 0 r (x * y) some few in
    let g = below 0 x y f.some f.few_fast in
    let is_r = capped r cr er f.few_slow in
    let is_x = capped x cx ex g.few_slow in
    let is_y = capped y cy ey g.few_fast in
    let is_third = capped (x * y) third (et ∙ ap₂ (λ m n. min (m * n) (2 ^ 128 - 1)) is_x is_y) f.few_fast in
    let is_second = capped (r * (x * y)) second (es ∙ ap₂ (λ m n. min (m * n) (2 ^ 128 - 1)) is_r is_third) few in
    let some_second : 0 < second = subst (λ (n : ℕ). 0 < n) (sym is_second) some in
    let some_third : 0 < third = subst (λ (n : ℕ). 0 < n) (sym is_third) f.some in
    let some_last : 0 < cy = subst (λ (n : ℕ). 0 < n) (sym is_y) g.some in
    let is_o = ho some_second ∙ ap (λ n. number % n) is_second in
    let is_p = hp some_third ∙ ap₂ (λ m n. m % n) is_o is_third in
    record {
      one = ha some_second ∙ ap (λ n. number / n) is_second;
      two = hb some_third ∙ ap₂ (λ m n. m / n) is_o is_third;
      three = hc some_last ∙ ap₂ (λ m n. m / n) is_p is_y;
      four = hd some_last ∙ ap₂ (λ m n. m % n) is_p is_y;
    }

-- ---- the parts of operands

module _ (s : Sign) (l r : Tree) (number first second : ℕ) (shares : 0 < piece_count r → piece_count r ≤ 256 → (first ≡ number / piece_count r) × (second ≡ number % piece_count r)) (h : HasPart (binary s l r) number) where
  both_below : AreBelow number (piece_count l) (piece_count r)
  both_below = below number (piece_count l) (piece_count r) h.0 h.1

  pub has_left : HasPart l first
  has_left = let f = both_below in (subst (λ (z : ℕ). z < piece_count l) (sym ((shares f.some f.few_fast).0)) f.slow, f.few_slow)

  pub has_right : HasPart r second
  has_right = let f = both_below in (subst (λ (z : ℕ). z < piece_count r) (sym ((shares f.some f.few_fast).1)) f.fast, f.few_fast)

module _ (c : Relation) (l r x y : Tree) (number one two three four : ℕ) (shares : AreFourNumbers number (piece_count r) (piece_count x) (piece_count y) one two three four) (h : HasPart (choice l c r x y) number) where
  same_count : piece_count l * piece_count r * piece_count x * piece_count y ≡ piece_count l * (piece_count r * (piece_count x * piece_count y))
  same_count = mul_assoc (piece_count l * piece_count r) (piece_count x) (piece_count y) ∙ mul_assoc (piece_count l) (piece_count r) (piece_count x * piece_count y)

  first_below : AreBelow number (piece_count l) (piece_count r * (piece_count x * piece_count y))
  first_below = below number (piece_count l) (piece_count r * (piece_count x * piece_count y)) (subst (λ (z : ℕ). number < z) same_count h.0) (subst (λ (z : ℕ). z ≤ 256) same_count h.1)

  second_below : AreBelow (number % (piece_count r * (piece_count x * piece_count y))) (piece_count r) (piece_count x * piece_count y)
  second_below = let f = first_below in below (number % (piece_count r * (piece_count x * piece_count y))) (piece_count r) (piece_count x * piece_count y) f.fast f.few_fast

  third_below : AreBelow (number % (piece_count r * (piece_count x * piece_count y)) % (piece_count x * piece_count y)) (piece_count x) (piece_count y)
  third_below = let f = second_below in below (number % (piece_count r * (piece_count x * piece_count y)) % (piece_count x * piece_count y)) (piece_count x) (piece_count y) f.fast f.few_fast

  these : AreShares number (piece_count r * (piece_count x * piece_count y)) (piece_count x * piece_count y) (piece_count y) one two three four
  these = let f = first_below in shares f.some f.few_fast

  pub has_one : HasPart l one
  has_one = let f = first_below in let n = these in (subst (λ (z : ℕ). z < piece_count l) (sym n.one) f.slow, f.few_slow)

  pub has_two : HasPart r two
  has_two = let f = second_below in let n = these in (subst (λ (z : ℕ). z < piece_count r) (sym n.two) f.slow, f.few_slow)

  pub has_three : HasPart x three
  has_three = let f = third_below in let n = these in (subst (λ (z : ℕ). z < piece_count x) (sym n.three) f.slow, f.few_slow)

  pub has_four : HasPart y four
  has_four = let f = third_below in let n = these in (subst (λ (z : ℕ). z < piece_count y) (sym n.four) f.fast, f.few_fast)

pub case_has_part : (u : TreeMade) (ts us : List TreeMade) (number : ℕ) → u ≡ made.Case ts → us ≡ ts → HasPart (view u) number → HasPart (cases (trees_of (map view us))) number
case_has_part u ts us number e f h =
    let P : Tree → Type 0 = λ (t : Tree). HasPart t number in
    let k = subst P (ap view e ∙ view_case ts) h in
    subst (λ (xs : List TreeMade). HasPart (cases (trees_of (map view xs))) number) (sym f) k

-- ---- parts

at_alone : (p : Part) (number : ℕ) → number < 1 → part_at (p ∷ []) number ≡ p
at_alone p zero l = refl
at_alone p (suc number) l = absurd (omega (arith, l))

-- a tree that has one part, without rows
alone_part : (t : Tree) (number : ℕ) (old : List Form) → number < 1 → (old ≡ old ++ (part_at (part [] t ∷ []) number).rows) × (t ≡ (part_at (part [] t ∷ []) number).tree)
alone_part t number old l =
    let e = sym (at_alone (part [] t) number l) in
    (sym (append-nil old) ∙ ap (λ (p : Part). old ++ p.rows) e, ap (λ (p : Part). p.tree) e)

four_rows : (old p q r s : List Form) → old ++ p ++ q ++ r ++ s ≡ old ++ (p ++ q ++ r ++ s)
four_rows old p q r s =
    ap (λ (z : List Form). z ++ r ++ s) (append_assoc old p q) ∙ ap (λ (z : List Form). z ++ s) (append_assoc old (p ++ q) r) ∙ append_assoc old (p ++ q ++ r) s

same_choice : (c : Relation) (t p u q v s w e : Tree) → t ≡ p → u ≡ q → v ≡ s → w ≡ e → choice t c u v w ≡ choice p c q s e
same_choice c t p u q v s w e i j k m =
    ap (λ (z : Tree). choice z c u v w) i ∙ ap (λ (z : Tree). choice p c z v w) j ∙ ap (λ (z : Tree). choice p c q z w) k ∙ ap (λ (z : Tree). choice p c q s z) m

module _ (vs : List Signature) (ds : List Map) where
  abbrev chosen : Tree → ℕ → Part
  chosen t number = part_at (parts vs ds t) number

  pub leaf_part : (t u : Tree) (number : ℕ) (old : List Form) → parts vs ds t ≡ part [] t ∷ [] → piece_count t ≡ 1 → u ≡ t → IsPartAt vs ds t number old old u
  leaf_part t u number old is one e less few =
      let p = alone_part t number old (omega (arith, less, one)) in
      (p.0 ∙ ap (λ (ps : List Part). old ++ (part_at ps number).rows) (sym is), e ∙ p.1 ∙ ap (λ (ps : List Part). (part_at ps number).tree) (sym is))

  pub restriction_part : (d : Set) (t : Tree) (number : ℕ) (old mid new : List Form) (u : Tree) → mid ≡ old ++ rows_under ds d.rows → IsPartAt vs ds t number mid new u
      → IsPartAt vs ds (restriction d t) number old new u
  restriction_part d t number old mid new u e h l few =
      let p = h l few in
      let size = length_parts vs ds t in
      let less : number < length (parts vs ds t) = omega (arith, l, size) in
      let is = sym (at_map (λ p. part (rows_under ds d.rows ++ p.rows) p.tree) (parts vs ds t) number less) in (
        p.0 ∙ ap (λ (z : List Form). z ++ (chosen t number).rows) e ∙ append_assoc old (rows_under ds d.rows) (chosen t number).rows ∙ ap (λ (p : Part). old ++ p.rows) is,
        p.1 ∙ ap (λ (p : Part). p.tree) is,
      )

  pub reduction_part : (o : Op) (m : Map) (t : Tree) (set : Set) (number : ℕ) (old new : List Form) (u : Tree) → piece_count t ≡ 1 → IsPartAt vs [] t 0 set.rows new u
      → IsPartAt vs ds (reduction o m t set) number old old (reduction o m u (record { dim = m.from; rows = new }))
  reduction_part o m t set number old new u one h l few =
      let p = h (omega (arith, one)) (omega (arith, one)) in
      let whole = reduction o m (part_at (parts vs [] t) 0).tree (record { dim = m.from; rows = set.rows ++ (part_at (parts vs [] t) 0).rows }) in
      let alone = alone_part whole number old l in
      (alone.0, ap₂ (λ (v : Tree) (rows : List Form). reduction o m v (record { dim = m.from; rows = rows })) p.1 p.0 ∙ alone.1)

  pub binary_part : (s : Sign) (l r : Tree) (number first second : ℕ) (old mid new : List Form) (a b : Tree)
      → (0 < piece_count r → piece_count r ≤ 256 → (first ≡ number / piece_count r) × (second ≡ number % piece_count r))
      → IsPartAt vs ds l first old mid a → IsPartAt vs ds r second mid new b
      → IsPartAt vs ds (binary s l r) number old new (binary s a b)
  binary_part s l r number first second old mid new a b shares h k less few =
      let f = below number (piece_count l) (piece_count r) less few in
      let n = shares f.some f.few_fast in
      let p = h (subst (λ (z : ℕ). z < piece_count l) (sym n.0) f.slow) f.few_slow in
      let q = k (subst (λ (z : ℕ). z < piece_count r) (sym n.1) f.fast) f.few_fast in
      let sl = length_parts vs ds l in
      let sr = length_parts vs ds r in
      let is : chosen (binary s l r) number ≡ part ((chosen l first).rows ++ (chosen r second).rows) (binary s (chosen l first).tree (chosen r second).tree) =
      at_pairs (binary s) (parts vs ds l) (parts vs ds r) number (rw sr f.some) (rw (sl, sr) less) ∙ rw (sr, n.0, n.1) refl
      in (
        q.0 ∙ ap (λ (z : List Form). z ++ (chosen r second).rows) p.0 ∙ append_assoc old (chosen l first).rows (chosen r second).rows ∙ ap (λ (p : Part). old ++ p.rows) (sym is),
        ap₂ (λ v w. binary s v w) p.1 q.1 ∙ ap (λ (p : Part). p.tree) (sym is),
      )

  module _ (c : Relation) (l r x y : Tree) (number one two three four : ℕ) where
    abbrev four_of : Part → Part → Part → Part → Part
    four_of p q s t = part (p.rows ++ q.rows ++ s.rows ++ t.rows) (choice p.tree c q.tree s.tree t.tree)

    at_choice : AreShares number (piece_count r * (piece_count x * piece_count y)) (piece_count x * piece_count y) (piece_count y) one two three four
        → 0 < piece_count r * (piece_count x * piece_count y) → 0 < piece_count x * piece_count y → 0 < piece_count y → number < piece_count l * (piece_count r * (piece_count x * piece_count y))
        → chosen (choice l c r x y) number ≡ four_of (chosen l one) (chosen r two) (chosen x three) (chosen y four)
    at_choice n some_second some_third some_last less =
        let sl = length_parts vs ds l in
        let sr = length_parts vs ds r in
        let sx = length_parts vs ds x in
        let sy = length_parts vs ds y in
        let third = piece_count x * piece_count y in
        at_fours (λ p q. choice p c q) (parts vs ds r) (parts vs ds x) (parts vs ds y) (parts vs ds l) number (piece_count r * third) third
        (sym (ap₂ (λ m n. m * n) sx sy)) (ap (λ m. m * third) (sym sr)) some_second some_third (rw sy some_last) (rw sl less)
        ∙ rw (sy, n.one, n.two, n.three, n.four) refl

    pub choice_part : (old a b d new : List Form) (t u v w : Tree)
        → (0 < piece_count r * (piece_count x * piece_count y) → piece_count r * (piece_count x * piece_count y) ≤ 256
        → AreShares number (piece_count r * (piece_count x * piece_count y)) (piece_count x * piece_count y) (piece_count y) one two three four)
        → IsPartAt vs ds l one old a t → IsPartAt vs ds r two a b u → IsPartAt vs ds x three b d v → IsPartAt vs ds y four d new w
        → IsPartAt vs ds (choice l c r x y) number old new (choice t c u v w)
    choice_part old a b d new t u v w shares i j k m less few =
        let third = piece_count x * piece_count y in
        let second = piece_count r * third in
        let same : piece_count l * piece_count r * piece_count x * piece_count y ≡ piece_count l * second =
        mul_assoc (piece_count l * piece_count r) (piece_count x) (piece_count y) ∙ mul_assoc (piece_count l) (piece_count r) third
        in
        let less_too : number < piece_count l * second = subst (λ (z : ℕ). number < z) same less in
        let few_too : piece_count l * second ≤ 256 = subst (λ (z : ℕ). z ≤ 256) same few in
        let f = below number (piece_count l) second less_too few_too in
        let g = below (number % second) (piece_count r) third f.fast f.few_fast in
        let h = below (number % second % third) (piece_count x) (piece_count y) g.fast g.few_fast in
        let n = shares f.some f.few_fast in
        let p = i (subst (λ (z : ℕ). z < piece_count l) (sym n.one) f.slow) f.few_slow in
        let q = j (subst (λ (z : ℕ). z < piece_count r) (sym n.two) g.slow) g.few_slow in
        let s = k (subst (λ (z : ℕ). z < piece_count x) (sym n.three) h.slow) h.few_slow in
        let e = m (subst (λ (z : ℕ). z < piece_count y) (sym n.four) h.fast) h.few_fast in
        let is = sym (at_choice n f.some g.some h.some less_too) in (
          e.0 ∙ ap (λ (z : List Form). z ++ (chosen y four).rows) (s.0 ∙ ap (λ (z : List Form). z ++ (chosen x three).rows) (q.0 ∙ ap (λ (z : List Form). z ++ (chosen r two).rows) p.0))
              ∙ four_rows old (chosen l one).rows (chosen r two).rows (chosen x three).rows (chosen y four).rows
              ∙ ap (λ (p : Part). old ++ p.rows) is,
          same_choice c t (chosen l one).tree u (chosen r two).tree v (chosen x three).tree w (chosen y four).tree p.1 q.1 s.1 e.1
              ∙ ap (λ (p : Part). p.tree) is,
        )

  -- ---- rows alone

  -- the part whose rows they are
  part_of_rows : (t : Tree) (number : ℕ) (old new : List Form) (folds : Bool) → AreRowsAt vs ds t number old new folds → IsPartAt vs ds t number old new (chosen t number).tree
  part_of_rows t number old new folds h less few = ((h less few).0, refl)

  pub leaf_rows : (t : Tree) (number : ℕ) (old : List Form) → parts vs ds t ≡ part [] t ∷ [] → piece_count t ≡ 1 → false ≡ has_reduction t → AreRowsAt vs ds t number old old false
  leaf_rows t number old is one e less few = let p = leaf_part t t number old is one refl less few in (p.0, e ∙ ap has_reduction p.1)

  pub reference_rows : (place : ℕ) (m : Map) (number : ℕ) (old new : List Form) → new ≡ old ++ rows_before (composed m ds) (rows_of (slice_get vs place)) → AreRowsAt vs ds (reference place m) number old new false
  reference_rows place m number old new e less few =
      let whole = part (rows_before (composed m ds) (rows_of (slice_get vs place))) (reference place (composed m ds)) in
      let is = sym (at_alone whole number less) in
      (e ∙ ap (λ (p : Part). old ++ p.rows) is, ap (λ (p : Part). has_reduction p.tree) is)

  pub reduction_rows : (o : Op) (m : Map) (t : Tree) (set : Set) (number : ℕ) (old : List Form) → AreRowsAt vs ds (reduction o m t set) number old old true
  reduction_rows o m t set number old less few =
      let body = part_at (parts vs [] t) 0 in
      let alone = alone_part (reduction o m body.tree (record { dim = m.from; rows = set.rows ++ body.rows })) number old less in
      (alone.0, ap has_reduction alone.1)

  pub restriction_rows : (d : Set) (t : Tree) (number : ℕ) (old mid new : List Form) (folds : Bool) → mid ≡ old ++ rows_under ds d.rows → AreRowsAt vs ds t number mid new folds
      → AreRowsAt vs ds (restriction d t) number old new folds
  restriction_rows d t number old mid new folds e h less few =
      let p = restriction_part d t number old mid new (chosen t number).tree e (part_of_rows t number mid new folds h) less few in
      (p.0, (h less few).1 ∙ ap has_reduction p.1)

  pub binary_rows : (s : Sign) (l r : Tree) (number first second : ℕ) (old mid new : List Form) (a b : Bool)
      → (0 < piece_count r → piece_count r ≤ 256 → (first ≡ number / piece_count r) × (second ≡ number % piece_count r))
      → AreRowsAt vs ds l first old mid a → AreRowsAt vs ds r second mid new b
      → AreRowsAt vs ds (binary s l r) number old new (a || b)
  binary_rows s l r number first second old mid new a b shares h k less few =
      let p = binary_part s l r number first second old mid new (chosen l first).tree (chosen r second).tree shares (part_of_rows l first old mid a h) (part_of_rows r second mid new b k) less few in
      let f = has_left s l r number first second shares (less, few) in
      let g = has_right s l r number first second shares (less, few) in
      (p.0, ap₂ (λ (v w : Bool). v || w) (h f.0 f.1).1 (k g.0 g.1).1 ∙ ap has_reduction p.1)

  module _ (c : Relation) (l r x y : Tree) (number one two three four : ℕ) where
    pub choice_rows : (old a b d new : List Form) (t u v w : Bool)
        → (0 < piece_count r * (piece_count x * piece_count y) → piece_count r * (piece_count x * piece_count y) ≤ 256
        → AreShares number (piece_count r * (piece_count x * piece_count y)) (piece_count x * piece_count y) (piece_count y) one two three four)
        → AreRowsAt vs ds l one old a t → AreRowsAt vs ds r two a b u → AreRowsAt vs ds x three b d v → AreRowsAt vs ds y four d new w
        → AreRowsAt vs ds (choice l c r x y) number old new (t || (u || (v || w)))
    choice_rows old a b d new t u v w shares i j k m less few =
        let p = choice_part c l r x y number one two three four old a b d new (chosen l one).tree (chosen r two).tree (chosen x three).tree (chosen y four).tree shares
        (part_of_rows l one old a t i) (part_of_rows r two a b u j) (part_of_rows x three b d v k) (part_of_rows y four d new w m) less few
        in
        let first = has_one c l r x y number one two three four shares (less, few) in
        let second = has_two c l r x y number one two three four shares (less, few) in
        let third = has_three c l r x y number one two three four shares (less, few) in
        let fourth = has_four c l r x y number one two three four shares (less, few) in
        let others = ap₂ (λ (v w : Bool). v || w) (k third.0 third.1).1 (m fourth.0 fourth.1).1 in
        (p.0, ap₂ (λ (v w : Bool). v || w) (i first.0 first.1).1 (ap₂ (λ (v w : Bool). v || w) (j second.0 second.1).1 others) ∙ ap has_reduction p.1)

  -- ---- branches

  pub case_readable : (u : TreeMade) (ts us : List TreeMade) → u ≡ made.Case ts → us ≡ ts → IsReadable vs ds (view u) → AreReadable vs ds (trees_of (map view us))
  case_readable u ts us e f h =
      let P : Tree → Type 0 = λ (t : Tree). IsReadable vs ds t in
      let k = subst P (ap view e ∙ view_case ts) h in
      subst (λ (xs : List TreeMade). AreReadable vs ds (trees_of (map view xs))) (sym f) k

  pub next_branch_left : (all : Trees) (trees : List TreeMade) (i : ℕ) (t : TreeMade) (number left : ℕ) → i < length trees → t ≡ get_or trees i t
      → AreLeft vs ds all (trees_of (map view (drop i trees))) number left → AreLeft vs ds all (more (view t) (trees_of (map view (drop (i + 1) trees)))) number left
  next_branch_left all trees i t number left l e h =
      let P : List TreeMade → Type 0 = λ (rest : List TreeMade). AreLeft vs ds all (trees_of (map view rest)) number left in subst P (next_item trees i t l e) h

  module _ (all : Trees) (t : Tree) (ts : Trees) (number left count : ℕ) (h : AreLeft vs ds all (more t ts) number left) (is : count ≡ min (piece_count t) (2 ^ 128 - 1)) where
    few_here : piece_count_of_all all ≤ 256 → piece_count t ≤ 256
    few_here few = let k = h.few in omega (arith, k, few)

    pub one_branch_more : count ≤ left → AreLeft vs ds all ts number (left - count)
    one_branch_more l =
        let k = h.few in
        record {
          readable = h.readable.1;
          few = omega (arith, k);
          there = λ less few.
              let e = capped (piece_count t) count is (few_here few) in
              let f = h.there less few in
              omega (arith, e, f, l);
          same = λ few.
              let e = capped (piece_count t) count is (few_here few) in
              let size = length_parts vs ds t in
              let n : left ≡ length (parts vs ds t) + (left - count) = omega (arith, e, size, l) in
              h.same few ∙ ap (λ (n : ℕ). part_at (parts vs ds t ++ parts_of_all vs ds ts) n) n ∙ at_second (parts vs ds t) (parts_of_all vs ds ts) (left - count);
        }

    pub branch_found : left < count → (old new : List Form) (u : Tree) → IsPartAt vs ds t left old new u → IsPartAt vs ds (cases all) number old new u
    branch_found l old new u p less few =
        let e = capped (piece_count t) count is (few_here few) in
        let size = length_parts vs ds t in
        let b = p (omega (arith, e, l)) (few_here few) in
        let n = sym (h.same few ∙ at_first (parts vs ds t) (parts_of_all vs ds ts) left (omega (arith, e, size, l))) in
        (b.0 ∙ ap (λ (p : Part). old ++ p.rows) n, b.1 ∙ ap (λ (p : Part). p.tree) n)

    pub branch_rows : left < count → (old new : List Form) (folds : Bool) → AreRowsAt vs ds t left old new folds → AreRowsAt vs ds (cases all) number old new folds
    branch_rows l old new folds k less few =
        let e = capped (piece_count t) count is (few_here few) in
        let p = branch_found l old new (chosen t left).tree (part_of_rows t left old new folds k) less few in
        (p.0, (k (omega (arith, e, l)) (few_here few)).1 ∙ ap has_reduction p.1)
