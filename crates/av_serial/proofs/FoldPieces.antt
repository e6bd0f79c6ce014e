-- The pieces of a kept system with those of its serial form: where the chains of each stand.
use Rattle.std.proofs.Common.{◌≡◌, ℕ, zero, suc, ◌+◌, List, [], ◌∷◌, length, take, slice_get, Some, ◌++◌, inl, inr, refl, sym, ap, subst, ◌∙◌, arith}
use Rattle.std.proofs.lemmas.List.{length-append}
use Rattle.av_tree.specs.Trees.{Text}
use Rattle.av_flat.specs.Trees.{Piece, Variable}
use Rattle.av_serial.specs.SerialForm.{Chain, IsSerialTree, AreSerialPieces, chain_name, IsSerialVariable, AreSerialVariables}
use Rattle.av_serial.specs.SerialFaults.{HasNodes, HaveNodes, HasNodesIn}
use Rattle.av_serial.proofs.Counting.{long_tree, long_pieces}
use Rattle.av_serial.proofs.Folds.{count_tree}
use Rattle.av_base.proofs.Lists.{get_cases, get_first, get_second}

-- the one list stands in the other from a place on
abbrev pub StandsIn : List Chain → List Chain → ℕ → Type 0
StandsIn own all o = (i : ℕ) (c : Chain) → slice_get own i ≡ Some c → slice_get all (o + i) ≡ Some c

pub first_in : (xs ys cs all : List Chain) (o : ℕ) → cs ≡ xs ++ ys → StandsIn cs all o → StandsIn xs all o
first_in xs ys cs all o e h i c s = h i c (ap (λ (l : List Chain). slice_get l i) e ∙ get_first xs ys i c s)

pub second_in : (xs ys cs all : List Chain) (o : ℕ) → cs ≡ xs ++ ys → StandsIn cs all o → StandsIn ys all (o + length xs)
second_in xs ys cs all o e h i c s =
    let same : (o + length xs) + i ≡ o + (length xs + i) = omega arith in
    ap (λ (j : ℕ). slice_get all j) same ∙ h (length xs + i) c (ap (λ (l : List Chain). slice_get l (length xs + i)) e ∙ get_second xs ys i ∙ s)

abbrev pub nodes_of : Piece → ℕ → Type 0
nodes_of = λ (p : Piece). HasNodes p.tree

-- ---- pieces

-- a piece and the one that is made of it; its chains stand from the place `o` on among all, the first of which has the number `first`
pub record IsMade (first : ℕ) (all : List Chain) (o : ℕ) (p q : Piece) : Type 0 where
  pub names : ℕ → Text
  pub width : ℕ
  pub own : List Chain
  pub domain : q.domain ≡ p.domain
  pub tree : IsSerialTree names width (first + o) p.tree q.tree own
  pub inside : StandsIn own all o

pub made_piece : (names : ℕ → Text) (width first o : ℕ) (ps qs : List Piece) (cs all : List Chain) (k before : ℕ) (p : Piece) → AreSerialPieces names width (first + o) ps qs cs → StandsIn cs all o
    → slice_get ps k ≡ Some p → HaveNodes nodes_of (take k ps) before → (q : Piece) × (slice_get qs k ≡ Some q) × IsMade first all (o + before) p q
made_piece names width first o [] qs cs all k before p h is e n = absurd cc
made_piece names width first o (x ∷ ps) [] cs all k before p h is e n = absurd h
made_piece names width first o (x ∷ ps) (y ∷ qs) cs all zero before p h is e n =
    let same : x ≡ p = cc in
    let none : o + before ≡ o = omega (arith, n) in
    let T : ℕ → Type 0 = λ i. IsMade first all i p y in (
      y,
      refl,
      subst T (sym none) (subst (λ (v : Piece). IsMade first all o v y) same (record {
        names = names;
        width = width;
        own = h.1.first;
        domain = h.0;
        tree = h.1.first_are;
        inside = first_in h.1.first h.1.second cs all o h.1.is is;
      })),
    )
made_piece names width first o (x ∷ ps) (y ∷ qs) cs all (suc k) before p h is e n =
    let a = length h.1.first in
    let long = long_tree names width (first + o) x.tree y.tree h.1.first n.0 h.1.first_are n.2 in
    let S : ℕ → Type 0 = λ i. AreSerialPieces names width i ps qs h.1.second in
    let there : (first + o) + a ≡ first + (o + a) = omega arith in
    let r = made_piece names width first (o + a) ps qs h.1.second all k n.1 p (subst S there h.1.second_are) (second_in h.1.first h.1.second cs all o h.1.is is) e n.3 in
    let T : ℕ → Type 0 = λ i. IsMade first all i p r.0 in
    let sum = n.4 in
    let same : (o + a) + n.1 ≡ o + before = omega (arith, long, sum) in
    (r.0, r.1, subst T same r.2)

pub count_pieces : (names : ℕ → Text) (width place : ℕ) (ps qs : List Piece) (cs : List Chain) (k : ℕ) → AreSerialPieces names width place ps qs cs → (n : ℕ) × HaveNodes nodes_of (take k ps) n
count_pieces names width place ps qs cs zero h = (0, refl)
count_pieces names width place [] qs cs (suc k) h = (0, refl)
count_pieces names width place (x ∷ ps) [] cs (suc k) h = absurd h
count_pieces names width place (x ∷ ps) (y ∷ qs) cs (suc k) h =
    let r = count_pieces names width (place + length h.1.first) ps qs h.1.second k h.1.second_are in
    (length h.1.first + r.0, (length h.1.first, r.0, count_tree names width place x.tree y.tree h.1.first h.1.first_are, r.1, refl))

pub count_all_pieces : (names : ℕ → Text) (width place : ℕ) (ps qs : List Piece) (cs : List Chain) → AreSerialPieces names width place ps qs cs → HaveNodes nodes_of ps (length cs)
count_all_pieces names width place [] [] cs h = ap length h
count_all_pieces names width place [] (y ∷ qs) cs h = absurd h
count_all_pieces names width place (x ∷ ps) [] cs h = absurd h
count_all_pieces names width place (x ∷ ps) (y ∷ qs) cs h = (
  length h.1.first,
  length h.1.second,
  count_tree names width place x.tree y.tree h.1.first h.1.first_are,
  count_all_pieces names width (place + length h.1.first) ps qs h.1.second h.1.second_are,
  ap length h.1.is ∙ length-append h.1.first h.1.second,
)

-- the piece in which a chain of the list stands
pub record HasPieceOf (first : ℕ) (all : List Chain) (o : ℕ) (ps qs : List Piece) (j : ℕ) (c : Chain) : Type 0 where
  pub number : ℕ
  pub piece : Piece
  pub made : Piece
  pub before : ℕ
  pub is_piece : slice_get ps number ≡ Some piece
  pub is_made_piece : slice_get qs number ≡ Some made
  pub are_before : HaveNodes nodes_of (take number ps) before
  pub is_made : IsMade first all (o + before) piece made
  pub at : ℕ
  pub at_is : j ≡ before + at
  pub is_chain : slice_get is_made.own at ≡ Some c

pub piece_of : (names : ℕ → Text) (width first o : ℕ) (ps qs : List Piece) (cs all : List Chain) (j : ℕ) (c : Chain) → AreSerialPieces names width (first + o) ps qs cs → StandsIn cs all o
    → slice_get cs j ≡ Some c → HasPieceOf first all o ps qs j c
piece_of names width first o [] [] cs all j c h is e = absurd (let n = ap (λ (l : List Chain). slice_get l j) h in cc)
piece_of names width first o [] (y ∷ qs) cs all j c h is e = absurd h
piece_of names width first o (x ∷ ps) [] cs all j c h is e = absurd h
piece_of names width first o (x ∷ ps) (y ∷ qs) cs all j c h is e = elim (get_cases h.1.first h.1.second j c (sym (ap (λ (l : List Chain). slice_get l j) h.1.is) ∙ e)) [
  | inl g ↦
      let T : ℕ → Type 0 = λ i. IsMade first all i x y in
      let none : o ≡ o + 0 = omega arith in
      let own : IsMade first all o x y = record { names = names; width = width; own = h.1.first; domain = h.0; tree = h.1.first_are; inside = first_in h.1.first h.1.second cs all o h.1.is is } in
      let P : (i : ℕ) → Type 0 = λ i. (m : IsMade first all i x y) × (slice_get m.own j ≡ Some c) in
      let r : P (o + 0) = subst P none (own, g) in
      record { number = 0; piece = x; made = y; before = 0; is_piece = refl; is_made_piece = refl; are_before = refl; is_made = r.0; at = j; at_is = omega arith; is_chain = r.1 }
  | inr g ↦
      let a = length h.1.first in
      let S : ℕ → Type 0 = λ i. AreSerialPieces names width i ps qs h.1.second in
      let there : (first + o) + a ≡ first + (o + a) = omega arith in
      let r = piece_of names width first (o + a) ps qs h.1.second all g.0 c (subst S there h.1.second_are) (second_in h.1.first h.1.second cs all o h.1.is is) g.2 in
      let same : (o + a) + r.before ≡ o + (a + r.before) = omega arith in
      let P : (i : ℕ) → Type 0 = λ i. (m : IsMade first all i r.piece r.made) × (slice_get m.own r.at ≡ Some c) in
      let q : P (o + (a + r.before)) = subst P same (r.is_made, r.is_chain) in
      let k = g.1 in
      let l = r.at_is in
      record {
        number = suc r.number;
        piece = r.piece;
        made = r.made;
        before = a + r.before;
        is_piece = r.is_piece;
        is_made_piece = r.is_made_piece;
        are_before = (a, r.before, count_tree names width (first + o) x.tree y.tree h.1.first h.1.first_are, r.are_before, refl);
        is_made = q.0;
        at = r.at;
        at_is = omega (arith, k, l);
        is_chain = q.1;
      }
]

-- ---- variables

-- a variable and the one that is made of it
pub record IsMadeVariable (first : ℕ) (all : List Chain) (o : ℕ) (v w : Variable) : Type 0 where
  pub own : List Chain
  pub serial : IsSerialVariable (first + o) v w own
  pub inside : StandsIn own all o

pub made_variable : (first o : ℕ) (vs ws : List Variable) (cs all : List Chain) (k above : ℕ) (v : Variable) → AreSerialVariables (first + o) vs ws cs → StandsIn cs all o
    → slice_get vs k ≡ Some v → HaveNodes HasNodesIn (take k vs) above → (w : Variable) × (slice_get ws k ≡ Some w) × IsMadeVariable first all (o + above) v w
made_variable first o [] ws cs all k above v h is e n = absurd cc
made_variable first o (x ∷ vs) [] cs all k above v h is e n = absurd h
made_variable first o (x ∷ vs) (y ∷ ws) cs all zero above v h is e n =
    let same : x ≡ v = cc in
    let none : o + above ≡ o = omega (arith, n) in
    let T : ℕ → Type 0 = λ i. IsMadeVariable first all i v y in
    (y, refl, subst T (sym none) (subst (λ (u : Variable). IsMadeVariable first all o u y) same (record { own = h.first; serial = h.first_are; inside = first_in h.first h.second cs all o h.is is })))
made_variable first o (x ∷ vs) (y ∷ ws) cs all (suc k) above v h is e n =
    let a = length h.first in
    let long = long_pieces (chain_name x.name (first + o)) x.width (first + o) x.pieces y.pieces h.first n.0 h.first_are.pieces n.2 in
    let S : ℕ → Type 0 = λ i. AreSerialVariables i vs ws h.second in
    let there : (first + o) + a ≡ first + (o + a) = omega arith in
    let r = made_variable first (o + a) vs ws h.second all k n.1 v (subst S there h.second_are) (second_in h.first h.second cs all o h.is is) e n.3 in
    let T : ℕ → Type 0 = λ i. IsMadeVariable first all i v r.0 in
    let sum = n.4 in
    let same : (o + a) + n.1 ≡ o + above = omega (arith, long, sum) in
    (r.0, r.1, subst T same r.2)

pub count_variables : (place : ℕ) (vs ws : List Variable) (cs : List Chain) (k : ℕ) → AreSerialVariables place vs ws cs → (n : ℕ) × HaveNodes HasNodesIn (take k vs) n
count_variables place vs ws cs zero h = (0, refl)
count_variables place [] ws cs (suc k) h = (0, refl)
count_variables place (x ∷ vs) [] cs (suc k) h = absurd h
count_variables place (x ∷ vs) (y ∷ ws) cs (suc k) h =
    let r = count_variables (place + length h.first) vs ws h.second k h.second_are in
    (length h.first + r.0, (length h.first, r.0, count_all_pieces (chain_name x.name place) x.width place x.pieces y.pieces h.first h.first_are.pieces, r.1, refl))

-- the variable in which a chain of the list stands
pub record HasVariableOf (first : ℕ) (all : List Chain) (o : ℕ) (vs ws : List Variable) (j : ℕ) (c : Chain) : Type 0 where
  pub place : ℕ
  pub variable : Variable
  pub made : Variable
  pub above : ℕ
  pub is_variable : slice_get vs place ≡ Some variable
  pub is_made_variable : slice_get ws place ≡ Some made
  pub are_above : HaveNodes HasNodesIn (take place vs) above
  pub is_made : IsMadeVariable first all (o + above) variable made
  pub at : ℕ
  pub at_is : j ≡ above + at
  pub is_chain : slice_get is_made.own at ≡ Some c

pub variable_of : (first o : ℕ) (vs ws : List Variable) (cs all : List Chain) (j : ℕ) (c : Chain) → AreSerialVariables (first + o) vs ws cs → StandsIn cs all o
    → slice_get cs j ≡ Some c → HasVariableOf first all o vs ws j c
variable_of first o [] [] cs all j c h is e = absurd (let n = ap (λ (l : List Chain). slice_get l j) h in cc)
variable_of first o [] (y ∷ ws) cs all j c h is e = absurd h
variable_of first o (x ∷ vs) [] cs all j c h is e = absurd h
variable_of first o (x ∷ vs) (y ∷ ws) cs all j c h is e = elim (get_cases h.first h.second j c (sym (ap (λ (l : List Chain). slice_get l j) h.is) ∙ e)) [
  | inl g ↦
      let none : o ≡ o + 0 = omega arith in
      let own : IsMadeVariable first all o x y = record { own = h.first; serial = h.first_are; inside = first_in h.first h.second cs all o h.is is } in
      let P : (i : ℕ) → Type 0 = λ i. (m : IsMadeVariable first all i x y) × (slice_get m.own j ≡ Some c) in
      let r : P (o + 0) = subst P none (own, g) in
      record { place = 0; variable = x; made = y; above = 0; is_variable = refl; is_made_variable = refl; are_above = refl; is_made = r.0; at = j; at_is = omega arith; is_chain = r.1 }
  | inr g ↦
      let a = length h.first in
      let S : ℕ → Type 0 = λ i. AreSerialVariables i vs ws h.second in
      let there : (first + o) + a ≡ first + (o + a) = omega arith in
      let r = variable_of first (o + a) vs ws h.second all g.0 c (subst S there h.second_are) (second_in h.first h.second cs all o h.is is) g.2 in
      let same : (o + a) + r.above ≡ o + (a + r.above) = omega arith in
      let P : (i : ℕ) → Type 0 = λ i. (m : IsMadeVariable first all i r.variable r.made) × (slice_get m.own r.at ≡ Some c) in
      let q : P (o + (a + r.above)) = subst P same (r.is_made, r.is_chain) in
      let k = g.1 in
      let l = r.at_is in
      record {
        place = suc r.place;
        variable = r.variable;
        made = r.made;
        above = a + r.above;
        is_variable = r.is_variable;
        is_made_variable = r.is_made_variable;
        are_above = (a, r.above, count_all_pieces (chain_name x.name (first + o)) x.width (first + o) x.pieces y.pieces h.first h.first_are.pieces, r.are_above, refl);
        is_made = q.0;
        at = r.at;
        at_is = omega (arith, k, l);
        is_chain = q.1;
      }
]
