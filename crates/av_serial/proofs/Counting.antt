-- How many chains a serial form has: as many as there are reductions with a point.
use Rattle.std.proofs.Common.{◌≡◌, ℕ, suc, ◌+◌, List, [], ◌∷◌, length, inl, inr, refl, sym, ap, ap₂, subst, ◌∙◌}
use Rattle.std.proofs.lemmas.List.{length-append}
use Rattle.av_poly.specs.Points.{Set, Has}
use Rattle.av_poly.specs.Normal.{AreNormalised}
use Rattle.av_poly.proofs.Normalising.{normal_set}
use Rattle.av_tree.specs.Trees.{Text}
use Rattle.av_flat.specs.Trees.{Tree, Piece, Variable, reference, constant, binary, choice, reduction, pick}
use Rattle.av_normal.proofs.InnerSets.{same_set}
use Rattle.av_serial.specs.SerialForm.{Chain, AreOfTwo, IsSerialTree, AreSerialPieces, chain_name, IsSerialVariable, AreSerialVariables}
use Rattle.av_serial.specs.SerialFaults.{IsSum, HasPoint, HasNodes, HaveNodes, HasNodesIn}

pub point_of : (set domain : Set) → domain.dim ≡ set.dim → AreNormalised set.dim set.rows domain.rows → HasPoint domain → HasPoint set
point_of set domain e s p =
    let own : Set = record { dim = set.dim; rows = domain.rows } in
    (p.0, (normal_set own set p.0 refl s).0 (subst (λ (d : Set). Has d p.0) (same_set domain own e refl) p.1))

abbrev IsLong : List Chain → ℕ → Type 0
IsLong cs n = length cs ≡ n

long_two : (place : ℕ) (P : List Chain → Type 0) (Q : ℕ → List Chain → Type 0) (A B : ℕ → Type 0) (cs : List Chain) (n : ℕ) → ((ds : List Chain) (k : ℕ) → P ds → A k → IsLong ds k) → ((p : ℕ) (ds : List Chain) (k : ℕ) → Q p ds → B k → IsLong ds k)
    → AreOfTwo place P Q cs → IsSum A B n → IsLong cs n
long_two place P Q A B cs n f g h s =
    let a = f h.first s.0 h.first_are s.2 in
    let b = g (place + length h.first) h.second s.1 h.second_are s.3 in
    ap length h.is ∙ length-append h.first h.second ∙ ap₂ (λ (i j : ℕ). i + j) a b ∙ sym s.4

pub long_tree : (names : ℕ → Text) (width place : ℕ) (t u : Tree) (cs : List Chain) (n : ℕ) → IsSerialTree names width place t u cs → HasNodes t n → IsLong cs n
long_tree names width place (reference p m) (reference q k) cs n h e = ap length h.2 ∙ sym e
long_tree names width place (constant a) (constant b) cs n h e = ap length h.1 ∙ sym e
long_tree names width place (binary s l r) (binary t a b) cs n h e =
    long_two place (IsSerialTree names width place l a) (λ p. IsSerialTree names width p r b) (HasNodes l) (HasNodes r) cs n (λ ds k. long_tree names width place l a ds k) (λ p ds k. long_tree names width p r b ds k) h.1 e
long_tree names width place (choice l c r x y) (choice a d b v w) cs n h e =
    long_two place (IsSerialTree names width place l a)
    (λ p. AreOfTwo p (IsSerialTree names width p r b) (λ q. AreOfTwo q (IsSerialTree names width q x v) (λ i. IsSerialTree names width i y w)))
    (HasNodes l) (IsSum (HasNodes r) (IsSum (HasNodes x) (HasNodes y))) cs n (λ ds k. long_tree names width place l a ds k)
    (λ p ds k. long_two p (IsSerialTree names width p r b) (λ q. AreOfTwo q (IsSerialTree names width q x v) (λ i. IsSerialTree names width i y w)) (HasNodes r) (IsSum (HasNodes x) (HasNodes y)) ds k
    (λ ds k. long_tree names width p r b ds k)
    (λ q ds k. long_two q (IsSerialTree names width q x v) (λ i. IsSerialTree names width i y w) (HasNodes x) (HasNodes y) ds k (λ ds k. long_tree names width q x v ds k) (λ i ds k. long_tree names width i y w ds k)))
    h.1 e
long_tree names width place (reduction o m t set) (pick q choices w) cs n h (inl e) = ap length h.are ∙ ap suc (long_tree names width (suc place) t h.body h.inner e.1 h.body_is e.2) ∙ sym e.3
long_tree names width place (reduction o m t set) (pick q choices w) cs n h (inr e) = absurd (e.0 (point_of set h.domain h.dimension h.rows (h.point, h.has_point)))
long_tree names width place (reduction o m t set) (constant w) cs n h (inl e) = absurd (h.none e.0.0 e.0.1)
long_tree names width place (reduction o m t set) (constant w) cs n h (inr e) = ap length h.no_chain ∙ sym e.1
long_tree names width place t u cs n h e = absurd h

pub long_pieces : (names : ℕ → Text) (width place : ℕ) (ps qs : List Piece) (cs : List Chain) (n : ℕ) → AreSerialPieces names width place ps qs cs → HaveNodes (λ p. HasNodes p.tree) ps n → IsLong cs n
long_pieces names width place [] [] cs n h e = ap length h ∙ sym e
long_pieces names width place [] (q ∷ qs) cs n h e = absurd h
long_pieces names width place (p ∷ ps) [] cs n h e = absurd h
long_pieces names width place (p ∷ ps) (q ∷ qs) cs n h e =
    long_two place (IsSerialTree names width place p.tree q.tree) (λ i. AreSerialPieces names width i ps qs) (HasNodes p.tree) (HaveNodes (λ p. HasNodes p.tree) ps) cs n (λ ds k. long_tree names width place p.tree q.tree ds k)
    (λ i ds k. long_pieces names width i ps qs ds k) h.1 e

pub long_variables : (place : ℕ) (vs ws : List Variable) (cs : List Chain) (n : ℕ) → AreSerialVariables place vs ws cs → HaveNodes HasNodesIn vs n → length cs ≡ n
long_variables place [] [] cs n h e = ap length h ∙ sym e
long_variables place [] (w ∷ ws) cs n h e = absurd h
long_variables place (v ∷ vs) [] cs n h e = absurd h
long_variables place (v ∷ vs) (w ∷ ws) cs n h e =
    long_two place (IsSerialVariable place v w) (λ p. AreSerialVariables p vs ws) (HasNodesIn v) (HaveNodes HasNodesIn vs) cs n (λ ds k h e. long_pieces (chain_name v.name place) v.width place v.pieces w.pieces ds k h.pieces e)
    (λ p ds k. long_variables p vs ws ds k) h e
