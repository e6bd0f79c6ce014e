-- The lines of lanes are as long as the links that read them want.
use Rattle.std.proofs.Common.{◌≡◌, ℕ, zero, suc, ◌<◌, ◌≤◌, List, [], ◌∷◌, map, refl, sym, subst, arith, ap, Bool, true, false, if◌then◌else◌, Option, Some, None}
use Rattle.std.specs.Prelude.{Contains, slice_get, filter, fold, max, nat_eq}
use Rattle.std.proofs.lemmas.List.Elements.{All-contains}
use Rattle.av_base.proofs.Among.{among_map, none_among}
use Rattle.av_base.proofs.Lists.{some_is, place_in}
use Rattle.av_base.proofs.Pieces.{same_eq}
use Rattle.av_base.proofs.Truths.{and_true}
use Rattle.av_tree.specs.Points.{Point}
use Rattle.av_flat.specs.Trees.{Tree}
use Rattle.av_flat.specs.Nodes.{nodes}
use Rattle.av_space.specs.declared.cells.Link.{Link as LinkMade}
use Rattle.av_space.specs.Taps.{Way, node_of, helper_of, helper_read}
use Rattle.av_space.specs.Links.{reads_line, is_same, line_length, IsStretch, AreLinks}
use Rattle.av_history.specs.Performing.{Array, ComputesOn, Spot, IsLinked}

most_from : (a : ℕ) (xs : List ℕ) → a ≤ fold max a xs
most_from a [] = omega arith
most_from a (x ∷ xs) = omega (arith, most_from (max a x) xs)

most : (a : ℕ) (xs : List ℕ) (x : ℕ) → Contains xs x → x ≤ fold max a xs
most a [] x at = absurd (omega (arith, at.1))
most a (y ∷ xs) x (zero, lt, is) = let e : y ≡ x = is in omega (arith, e, most_from (max a y) xs)
most a (y ∷ xs) x (suc k, lt, is) = most (max a y) xs x (k, omega arith, is)

-- a bound of each is one of the greatest
below : (n a : ℕ) (xs : List ℕ) → a < n → ((x : ℕ) → Contains xs x → x < n) → fold max a xs < n
below n a [] low each = low
below n a (x ∷ xs) low each = below n (max a x) xs (let h = each x (0, omega arith, refl) in omega (arith, low, h)) (λ y at. each y (suc at.0, omega (arith, at.1), at.2))

kept : {X : Type 0} (test : X → Bool) (xs : List X) (k : ℕ) (x : X) → slice_get xs k ≡ Some x → test x ≡ true → Contains (filter test xs) x
kept test [] k x is passes = absurd cc
kept test (y ∷ xs) zero x is passes =
    let e = some_is y x is in
    let t : test y ≡ true = subst (λ z. test z ≡ true) (sym e) passes in
    rw t (0, omega arith, e)
kept test (y ∷ xs) (suc k) x is passes = by_test (test y) (kept test xs k x is passes)
  where
    by_test : (b : Bool) → Contains (filter test xs) x → Contains (if b then y ∷ filter test xs else filter test xs) x
    by_test true at = (suc at.0, omega (arith, at.1), at.2)
    by_test false at = at

is_equal : (m n : ℕ) → m ≡ n → nat_eq m n ≡ true
is_equal m n h = grind arith

same_itself : (h : Option ℕ) → is_same h h ≡ true
same_itself None = refl
same_itself (Some n) = same_eq n

-- the line that a link reads
line_read : (a : Array) (at : Spot) (c : ℕ) (z : Point) → ComputesOn a at.cell c at.node z → slice_get (nodes a.system) at.node ≡ Some at.variable → (site : ℕ) (tree : Tree) (way : Way) (producer delay : ℕ)
    → (l : IsLinked a at c site tree way producer delay) → helper_read a.system a.helpers a.cells l.link.consumer l.link.site ≡ helper_of way
line_read a at c z computes is_variable site tree way producer delay l =
    let node : node_of a.cells at.cell ≡ Some at.node = rw computes.is_cell (ap Some computes.stands.node) in
    rw (l.in_link.0, l.in_link.1, node, is_variable, l.is_tap) refl

-- the line is long enough
pub long_enough : (a : Array) (at : Spot) (c : ℕ) (z : Point) → ComputesOn a at.cell c at.node z → slice_get (nodes a.system) at.node ≡ Some at.variable → (site : ℕ) (tree : Tree) (way : Way) (producer delay : ℕ)
    → IsLinked a at c site tree way producer delay → delay ≤ line_length a.system a.helpers a.cells a.links producer (helper_of way)
long_enough a at c z computes is_variable site tree way producer delay l =
    let test : LinkMade → Bool = reads_line a.system a.helpers a.cells producer (helper_of way) in
    let passes : test l.link ≡ true = and_true (nat_eq l.link.producer producer) (is_same (helper_read a.system a.helpers a.cells l.link.consumer l.link.site) (helper_of way))
    (is_equal l.link.producer producer (sym l.producer_is)) (rw (line_read a at c z computes is_variable site tree way producer delay l) (same_itself (helper_of way))) in
    let at' = place_in a.links l.link l.is_link in
    let among = among_map (λ (l : LinkMade). l.delay) (filter test a.links) l.link (kept test a.links at'.0 l.link at'.1 passes) in
    omega (arith, l.delay_is, most 0 (map (λ (l : LinkMade). l.delay) (filter test a.links)) l.link.delay among)

-- ---- no line is as long as the cycles of all computations

filtered : {X : Type 0} (test : X → Bool) (xs : List X) (x : X) → Contains (filter test xs) x → Contains xs x
filtered test [] x h = absurd (none_among x h)
filtered test (y ∷ xs) x h = by_test (test y) h (filtered test xs x)
  where
    by_test : (b : Bool) → Contains (if b then y ∷ filter test xs else filter test xs) x → (Contains (filter test xs) x → Contains xs x) → Contains (y ∷ xs) x
    by_test true (zero, lt, is) rest = (0, omega arith, is)
    by_test true (suc k, lt, is) rest = let r = rest (k, omega (arith, lt), is) in (suc r.0, omega (arith, r.1), r.2)
    by_test false g rest = let r = rest g in (suc r.0, omega (arith, r.1), r.2)

mapped_back : (links : List LinkMade) (x : ℕ) → Contains (map (λ (l : LinkMade). l.delay) links) x → (l : LinkMade) × Contains links l × (l.delay ≡ x)
mapped_back [] x h = absurd (none_among x h)
mapped_back (l ∷ links) x (zero, lt, is) = (l, (0, omega arith, refl), is)
mapped_back (l ∷ links) x (suc k, lt, is) = let r = mapped_back links x (k, omega (arith, lt), is) in (r.0, (suc r.1.0, omega (arith, r.1.1), r.1.2), r.2)

pub short_line : (a : Array) → AreLinks a.system a.helpers a.times a.cells a.links → (n : ℕ) → 0 < n → ((p c k : ℕ) (z : Point) → ComputesOn a p c k z → c < n) → (p : ℕ) (line : Option ℕ) → line_length a.system a.helpers a.cells a.links p line < n
short_line a are n some few p line = below n 0 (map (λ (l : LinkMade). l.delay) (filter (reads_line a.system a.helpers a.cells p line) a.links)) some each
  where
    each : (x : ℕ) → Contains (map (λ (l : LinkMade). l.delay) (filter (reads_line a.system a.helpers a.cells p line) a.links)) x → x < n
    each x h =
        let r = mapped_back (filter (reads_line a.system a.helpers a.cells p line) a.links) x h in
        let among = filtered (reads_line a.system a.helpers a.cells p line) a.links r.0 r.1 in
        let begins = (All-contains (IsStretch a.system a.helpers a.times a.cells) a.links r.0 are.each among).begins in
        let low = few r.0.consumer r.0.first begins.node begins.point begins.computes in
        let sum = begins.later in
        let e = r.2 in
        omega (arith, low, sum, e)
