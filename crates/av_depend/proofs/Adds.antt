-- Edges put behind others, site by site.
use Rattle.std.proofs.Common.{◌≡◌, ℕ, zero, suc, ◌+◌, ◌<◌, ◌≤◌, Bool, IsTrue, if◌then◌else◌, List, [], ◌∷◌, ◌++◌, length, map, append_assoc, get_or, take, ⊎_elim, refl, sym, ap, ap₂, subst, ◌∙◌, arith, All, Option, Some, None, true, add-one}
use Rattle.std.specs.Prelude.{Contains, filter, slice_get}
use Rattle.std.specs.List.{flat_map}
use Rattle.std.proofs.lemmas.List.{append-nil, length-map}
use Rattle.std.proofs.lemmas.Option.{slice_get_within}
use Rattle.std.proofs.lemmas.List.Elements.{All-filter, filter_passes}
use Rattle.std.proofs.lemmas.List.Kept.{AllPairs-filter}
use Rattle.av_affine.specs.declared.form.Form.{Form}
use Rattle.av_affine.specs.declared.map.Map.{Map}
use Rattle.av_affine.specs.Numbers.{AtMost}
use Rattle.av_poly.specs.declared.poly.Bounds.{Bounds}
use Rattle.av_poly.specs.Points.{Set}
use Rattle.av_tree.specs.Points.{Point}
use Rattle.av_flat.specs.declared.flat.Var.{Var}
use Rattle.av_flat.specs.declared.tree.Choice.{Choice}
use Rattle.av_flat.specs.declared.tree.Tree.{Tree as TreeMade}
use Rattle.av_flat.specs.declared.tree.Tree.TheVariants as made
use Rattle.av_flat.specs.Trees.{Tree, Variable, FlatSystem, view, view_variable}
use Rattle.av_flat.specs.Sites.{Place, places_in}
use Rattle.av_flat.proofs.Reading.{IsByParts, gathered}
use Rattle.av_flat.proofs.Sets.{has_is}
use Rattle.av_flat.specs.Points.{has}
use Rattle.av_depend.specs.declared.edge.Edge.{Edge}
use Rattle.av_depend.specs.ComputedPlaces.{computed_at}
use Rattle.av_depend.specs.Sites.{Site, both, HasPair, sites_in, sites_of, sites_from}
use Rattle.av_flat.specs.Order.{IsBefore}
use Rattle.av_depend.specs.Edges.{IsEdge, AreEdges, ended, without, with_pair}
use Rattle.av_elim.specs.Extents.{IsInside}
use Rattle.av_depend.specs.AllPoints.{AreAllPoints}
use Rattle.av_depend.specs.SetPoints.{IsPointOf}
use Rattle.av_depend.specs.inner.Adding.{IsComputedAt, HasAdded, site_at, sites_at}
use Rattle.av_base.proofs.Among.{first_among, more_among, among_cases, none_among}
use Rattle.av_depend.proofs.Covering.{has_both, both_have}
use Rattle.av_elim.proofs.Boxes.{small_between}
use Rattle.av_base.proofs.Truths.{by_test}

-- ---- edges one behind the other

pub edges_joined : (s : FlatSystem) (xs ys : List Site) (a b : List Edge) → AreEdges s xs a → AreEdges s ys b → AreEdges s (xs ++ ys) (a ++ b)
edges_joined s xs ys a b ended k = k
edges_joined s xs ys a b (without {sites = ss} {edges = es} none h) k = without none (edges_joined s ss ys es b h k)
edges_joined s xs ys a b (with_pair {sites = ss} {edges = es} pair is h) k = with_pair pair is (edges_joined s ss ys es b h k)

pub added_nothing : (s : FlatSystem) (old : List Edge) → HasAdded s [] old old
added_nothing s old = record { added = []; new_is = sym (append-nil old); are = ended }

pub added_both : (s : FlatSystem) (xs ys : List Site) (old middle new : List Edge) → HasAdded s xs old middle → HasAdded s ys middle new → HasAdded s (xs ++ ys) old new
added_both s xs ys old middle new h k = record {
  added = h.added ++ k.added;
  new_is = k.new_is ∙ ap (λ (es : List Edge). es ++ k.added) h.new_is ∙ append_assoc old h.added k.added;
  are = edges_joined s xs ys h.added k.added h.are k.are;
}

pub added_without : (s : FlatSystem) (site : Site) (old : List Edge) → (HasPair s site → ⊥) → HasAdded s (site ∷ []) old old
added_without s site old none = record { added = []; new_is = sym (append-nil old); are = without none ended }

pub added_with : (s : FlatSystem) (site : Site) (e : Edge) (old : List Edge) → HasPair s site → IsEdge s site e → HasAdded s (site ∷ []) old (old ++ e ∷ [])
added_with s site e old pair is = record { added = e ∷ []; new_is = refl; are = with_pair pair is ended }

-- where there is no site
pub added_none_of : (s : FlatSystem) (places : List Site) (old : List Edge) → places ≡ [] → HasAdded s places old old
added_none_of s places old e = subst (λ (xs : List Site). HasAdded s xs old old) (sym e) (added_nothing s old)

-- from no edge on
pub added_are : (s : FlatSystem) (places : List Site) (new : List Edge) → HasAdded s places [] new → AreEdges s places new
added_are s places new h = subst (AreEdges s places) (sym h.new_is) h.are

-- ---- pairs of one site

pub no_point_no_pair : (s : FlatSystem) (node place : ℕ) (m : Map) (set : Set) (points : List Point) → points ≡ [] → AreAllPoints set points → HasPair s (site_at node place m set) → ⊥
no_point_no_pair s node place m set points e all pair = none_among pair.point (subst (λ (ps : List Point). Contains ps pair.point) e (all.all pair.point pair.reads))

pub not_computed_no_pair : (s : FlatSystem) (node place : ℕ) (m : Map) (set : Set) → (IsComputedAt s place → ⊥) → HasPair s (site_at node place m set) → ⊥
not_computed_no_pair s node place m set none pair = none (record { variable = pair.producer; is = pair.is_producer; computed = pair.computed })

pub has_pair : (s : FlatSystem) (node place : ℕ) (m : Map) (set : Set) (points : List Point) → IsComputedAt s place → 0 < length points → AreAllPoints set points → HasPair s (site_at node place m set)
has_pair s node place m set points computed some all = record {
  producer = computed.variable;
  is_producer = computed.is;
  computed = computed.computed;
  point = get_or points 0 [];
  reads = all.each 0 [] some;
}

-- ---- points of two sets

pub among_filter : {X : Type 0} (p : X → Bool) (xs : List X) (x : X) → Contains xs x → IsTrue (p x) → Contains (filter p xs) x
among_filter p [] x h t = absurd (none_among x h)
among_filter p (y ∷ xs) x h t = by_test (p y)
    (λ k. subst (λ (ys : List _). Contains ys x) (sym (ap (λ b. if b then y ∷ filter p xs else filter p xs) k)) (⊎_elim
    (λ e. subst (Contains (y ∷ filter p xs)) e (first_among y (filter p xs)))
    (λ r. more_among y x (filter p xs) (among_filter p xs x r t))
    (among_cases y x xs h)))
    (λ f. subst (λ (ys : List _). Contains ys x) (sym (ap (λ b. if b then y ∷ filter p xs else filter p xs) f)) (⊎_elim
    (λ e. absurd (let g = sym f ∙ ap p e ∙ t in cc))
    (λ r. among_filter p xs x r t)
    (among_cases y x xs h)))

pub all_points_of_both : (a b : Set) (points : List Point) → b.dim ≡ a.dim → AreAllPoints a points → AreAllPoints (both a b) (filter (has b) points)
all_points_of_both a b points e h = record {
  ascending = AllPairs-filter IsBefore (has b) points h.ascending;
  each = λ k d l. has_both a b (get_or (filter (has b) points) k d) (All-filter (has b) (λ z. IsTrue (has a z)) points h.each k d l) (filter_passes (has b) points k d l);
  all = λ z t. let p = both_have a b z e t in among_filter (has b) points z (h.all z p.0) p.1;
}

pub small_points_of_both : (a b : Set) (points : List Point) → All (IsPointOf a) points → All (IsPointOf (both a b)) (filter (has b) points)
small_points_of_both a b points h = λ k d l. let p = All-filter (has b) (IsPointOf a) points h k d l in record { size = p.size; few = p.few; entries = p.entries }

pub small_points_of_other : (a b : Set) (points : List Point) → b.dim ≡ a.dim → All (IsPointOf a) points → All (IsPointOf b) points
small_points_of_other a b points e h = λ k d l. let p = h k d l in record { size = p.size ∙ sym e; few = p.few; entries = p.entries }

pub set_is : (a : Set) (dim : ℕ) (rows : List Form) → a.dim ≡ dim → a.rows ≡ rows → a ≡ record { dim = dim; rows = rows }
set_is a dim rows e f = ap₂ (λ (d : ℕ) (r : List Form). let set : Set = record { dim = d; rows = r } in set) e f

pub small_made : (a b made : Set) (given points : List Point) → made.dim ≡ a.dim → made.rows ≡ a.rows ++ b.rows → points ≡ filter (has b) given → All (IsPointOf a) given → All (IsPointOf made) points
small_made a b made given points d r p h =
    subst (λ (s : Set). All (IsPointOf s) points) (sym (set_is made a.dim (a.rows ++ b.rows) d r)) (subst (All (IsPointOf (both a b))) (sym p) (small_points_of_both a b given h))

pub all_made : (a b made : Set) (given points : List Point) → made.dim ≡ a.dim → made.rows ≡ a.rows ++ b.rows → points ≡ filter (has b) given → b.dim ≡ a.dim → AreAllPoints a given → AreAllPoints made points
all_made a b made given points d r p e h =
    subst (λ (s : Set). AreAllPoints s points) (sym (set_is made a.dim (a.rows ++ b.rows) d r)) (subst (AreAllPoints (both a b)) (sym p) (all_points_of_both a b given e h))

-- points of a set within a small box
pub small_points : (set : Set) (extent : Bounds) (points : List Point) → set.dim ≤ 4 → AtMost 4095 extent.low → AtMost 4095 extent.high → IsInside set.dim extent set → AreAllPoints set points → All (IsPointOf set) points
small_points set extent points few low high inside all = λ k d l.
    let z = get_or points k d in
    let h = (has_is set z).0 (all.each k d l) in
    let n = h.dimension in
    record { size = n; few = omega (arith, n, few); entries = small_between extent.low extent.high z low high (inside.between z h) }

-- ---- variables at their places

pub computed_here : (s : FlatSystem) (place : ℕ) → computed_at (slice_get s.variables place) ≡ true → IsComputedAt s place
computed_here s place t = by_variable (slice_get s.variables place) refl t
  where
    by_variable : (o : Option Variable) → slice_get s.variables place ≡ o → computed_at o ≡ true → IsComputedAt s place
    by_variable None e t = absurd cc
    by_variable (Some v) e t = record { variable = v; is = e; computed = t }

pub here_computed : (s : FlatSystem) (place : ℕ) → IsComputedAt s place → computed_at (slice_get s.variables place) ≡ true
here_computed s place h = subst (λ (o : Option Variable). computed_at o ≡ true) (sym h.is) h.computed

pub place_within : (s : FlatSystem) (vars : List Var) (place : ℕ) → s.variables ≡ map view_variable vars → IsComputedAt s place → place < length vars
place_within s vars place v h =
    let l = slice_get_within s.variables place h.variable h.is in
    let n = ap length v in
    let m : length (map view_variable vars) ≡ length vars = simp length-map in omega (arith, l, n, m)

-- ---- lists one element at a time

pub map_take_more : {X Y : Type 0} (f : X → Y) (xs : List X) (k : ℕ) (x : X) → k < length xs → x ≡ get_or xs k x → map f (take (k + 1) xs) ≡ map f (take k xs) ++ f x ∷ []
map_take_more f xs k x l e = rw add-one (go f xs k x l e)
  where
    go : {X Y : Type 0} (f : X → Y) (xs : List X) (k : ℕ) (x : X) → k < length xs → x ≡ get_or xs k x → map f (take (suc k) xs) ≡ map f (take k xs) ++ f x ∷ []
    go f [] k x l e = absurd (omega (arith, l))
    go f (y ∷ xs) zero x l e = ap (λ z. f z ∷ []) (sym e)
    go f (y ∷ xs) (suc k) x l e = ap (λ zs. f y ∷ zs) (go f xs k x (omega (arith, l)) e)

pub flat_take_more : {X Y : Type 0} (f : X → List Y) (xs : List X) (k : ℕ) (x : X) → k < length xs → x ≡ get_or xs k x → flat_map f (take (k + 1) xs) ≡ flat_map f (take k xs) ++ f x
flat_take_more f xs k x l e = rw add-one (go f xs k x l e)
  where
    go : {X Y : Type 0} (f : X → List Y) (xs : List X) (k : ℕ) (x : X) → k < length xs → x ≡ get_or xs k x → flat_map f (take (suc k) xs) ≡ flat_map f (take k xs) ++ f x
    go f [] k x l e = absurd (omega (arith, l))
    go f (y ∷ xs) zero x l e = append-nil (f y) ∙ ap f (sym e)
    go f (y ∷ xs) (suc k) x l e = ap (λ zs. f y ++ zs) (go f xs k x (omega (arith, l)) e) ∙ sym (append_assoc (f y) (flat_map f (take k xs)) (f x))

pub sites_from_more : (start : ℕ) (vs : List Variable) (v : Variable) → sites_from start (vs ++ v ∷ []) ≡ sites_from start vs ++ sites_of (start + length vs) v
sites_from_more start [] v = append-nil (sites_of start v) ∙ ap (λ (n : ℕ). sites_of n v) (omega arith)
sites_from_more start (w ∷ vs) v =
    ap (λ (zs : List Site). sites_of start w ++ zs) (sites_from_more (suc start) vs v ∙ ap (λ (n : ℕ). sites_from (suc start) vs ++ sites_of n v) (omega arith))
    ∙ sym (append_assoc (sites_of start w) (sites_from (suc start) vs) (sites_of (start + length (w ∷ vs)) v))

pub at_mapped : {X Y : Type 0} (P : Y → Type 0) (f : X → Y) (xs : List X) (k : ℕ) (x : X) → All P (map f xs) → k < length xs → x ≡ get_or xs k x → P (f x)
at_mapped P f [] k x h l e = absurd (omega (arith, l))
at_mapped P f (y ∷ xs) zero x h l e = subst P (ap f (sym e)) (h 0 (f x) (omega arith))
at_mapped P f (y ∷ xs) (suc k) x h l e = at_mapped P f xs k x (λ j d m. h (suc j) d (omega (arith, m))) (omega (arith, l)) e

-- ---- the sites of places

-- where a tree is no reference and no pick
pub no_sites_at : (node : ℕ) (set : Set) (t : TreeMade) → ((place : ℕ) (m : Map) → t ≡ made.Ref place m → ⊥) → ((place : ℕ) (choices : List Choice) (w : _) → t ≡ made.Pick place choices w → ⊥)
    → sites_at node set (view t) ≡ []
no_sites_at node set (made.Ref place m) a b = absurd (a place m refl)
no_sites_at node set (made.Pick place choices w) a b = absurd (b place choices w refl)
no_sites_at node set _ a b = refl

pub sites_gathered : (node : ℕ) (set : Set) (k n : ℕ) (t : Tree) → flat_map (λ (p : Place). sites_at node set p.tree) (places_in k n t) ≡ sites_in node set t
sites_gathered node set k n t =
    let by_parts : IsByParts (sites_at node set) (sites_in node set) = record {
      of_reference = λ place m. refl;
      of_pick = λ place choices w. refl;
      of_binary = λ s l r. refl;
      of_choice = λ l c r x y. refl;
      of_constant = λ w. refl;
      of_restriction = λ d u. refl;
      of_cases = λ ts. refl;
      of_dependence = λ m u. refl;
      of_reduction = λ o m u inner. refl;
    } in
    gathered (sites_at node set) (sites_in node set) by_parts k n t
