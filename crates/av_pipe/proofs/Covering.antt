-- The helpers of a scheduled system are all that it has, and each is there once.
use Rattle.std.proofs.Common.{◌≡◌, ◌≢◌, ℕ, zero, suc, ◌+◌, ◌≤◌, ◌<◌, Option, Some, None, List, [], ◌∷◌, ◌++◌, slice_get, refl, sym, ap, subst, ◌∙◌, arith, All}
use Rattle.std.specs.Prelude.{Contains, AllPairs}
use Rattle.std.proofs.lemmas.List.Elements.{All-nil, All-cons, All-append, All-weaker, Contains-append_left, Contains-append_right}
use Rattle.std.proofs.lemmas.List.Kept.{AllPairs-cons}
use Rattle.av_tree.specs.Points.{Point}
use Rattle.av_flat.specs.Trees.{Piece, Variable, FlatSystem}
use Rattle.av_flat.specs.declared.timed.Time.{Time}
use Rattle.av_flat.specs.declared.timed.Helper.{Helper}
use Rattle.av_flat.specs.Nodes.{number_at}
use Rattle.av_flat.specs.Broadcasts.{Reference, references, first_moving}
use Rattle.av_flat.specs.Legal.{IsMoving}
use Rattle.av_pipe.specs.Pipelines.{helper_of, of_references, of_pieces, of_variable, of_variables, pipelines}

-- ---- each is there

abbrev helper_at : ℕ → ℕ → ℕ → Point → Helper
helper_at place piece site w = record { var = place; piece = piece; site = site; direction = w }

there_in : (place piece : ℕ) (linear : Point) (first : ℕ) (rs : List Reference) (k : ℕ) (r : Reference) (w : Point) → slice_get rs k ≡ Some r → first_moving linear r.map ≡ Some w
    → Contains (of_references place piece linear first rs) (helper_at place piece (first + k) w)
there_in place piece linear first [] k r w e m = absurd cc
there_in place piece linear first (x ∷ rs) zero r w e m =
    let same : x ≡ r = cc in
    let here : helper_of place piece first (first_moving linear x.map) ≡ helper_at place piece (first + 0) w ∷ [] =
    ap (λ (y : Reference). helper_of place piece first (first_moving linear y.map)) same ∙ ap (helper_of place piece first) m ∙ ap (λ (n : ℕ). helper_at place piece n w ∷ []) (omega arith) in
    Contains-append_left (helper_of place piece first (first_moving linear x.map)) (of_references place piece linear (suc first) rs) (helper_at place piece (first + 0) w)
    (subst (λ (hs : List Helper). Contains hs (helper_at place piece (first + 0) w)) (sym here) (0, omega arith, refl))
there_in place piece linear first (x ∷ rs) (suc k) r w e m =
    Contains-append_right (helper_of place piece first (first_moving linear x.map)) (of_references place piece linear (suc first) rs) (helper_at place piece (first + suc k) w)
    (subst (λ (n : ℕ). Contains (of_references place piece linear (suc first) rs) (helper_at place piece n w)) (omega arith) (there_in place piece linear (suc first) rs k r w e m))

there_piece : (place : ℕ) (linear : Point) (first : ℕ) (ps : List Piece) (k : ℕ) (p : Piece) (h : Helper) → slice_get ps k ≡ Some p
    → Contains (of_references place (first + k) linear 0 (references p.tree)) h → Contains (of_pieces place linear first ps) h
there_piece place linear first [] k p h e c = absurd cc
there_piece place linear first (x ∷ ps) zero p h e c =
    let same : x ≡ p = cc in
    Contains-append_left (of_references place first linear 0 (references x.tree)) (of_pieces place linear (suc first) ps) h
    (subst (λ (y : Piece). Contains (of_references place first linear 0 (references y.tree)) h) (sym same) (subst (λ (n : ℕ). Contains (of_references place n linear 0 (references p.tree)) h) (omega arith) c))
there_piece place linear first (x ∷ ps) (suc k) p h e c =
    Contains-append_right (of_references place first linear 0 (references x.tree)) (of_pieces place linear (suc first) ps) h
    (there_piece place linear (suc first) ps k p h e (subst (λ (n : ℕ). Contains (of_references place n linear 0 (references p.tree)) h) (omega arith) c))

there_variable : (s : FlatSystem) (times : List Time) (first : ℕ) (vs : List Variable) (k : ℕ) (v : Variable) (h : Helper) → slice_get vs k ≡ Some v
    → Contains (of_variable (first + k) (slice_get times (number_at s (first + k))) v) h → Contains (of_variables s times first vs) h
there_variable s times first [] k v h e c = absurd cc
there_variable s times first (x ∷ vs) zero v h e c =
    let same : x ≡ v = cc in
    Contains-append_left (of_variable first (slice_get times (number_at s first)) x) (of_variables s times (suc first) vs) h
    (subst (λ (y : Variable). Contains (of_variable first (slice_get times (number_at s first)) y) h) (sym same)
    (subst (λ (n : ℕ). Contains (of_variable n (slice_get times (number_at s n)) v) h) (omega arith) c))
there_variable s times first (x ∷ vs) (suc k) v h e c =
    Contains-append_right (of_variable first (slice_get times (number_at s first)) x) (of_variables s times (suc first) vs) h
    (there_variable s times (suc first) vs k v h e (subst (λ (n : ℕ). Contains (of_variable n (slice_get times (number_at s n)) v) h) (omega arith) c))

pub all_there : (s : FlatSystem) (times : List Time) (h : Helper) → IsMoving s times h → Contains (pipelines s times) h
all_there s times h m =
    let own : Contains (of_references h.var h.piece m.time.linear 0 (references m.piece.tree)) (helper_at h.var h.piece (0 + h.site) h.direction) =
    there_in h.var h.piece m.time.linear 0 (references m.piece.tree) h.site m.reference h.direction m.is_reference m.direction in
    let among : Contains (of_pieces h.var m.time.linear 0 m.variable.pieces) h = there_piece h.var m.time.linear 0 m.variable.pieces h.piece m.piece h m.is_piece
    (subst (λ (n : ℕ). Contains (of_references h.var n m.time.linear 0 (references m.piece.tree)) h) (omega arith)
    (subst (λ (x : Helper). Contains (of_references h.var h.piece m.time.linear 0 (references m.piece.tree)) x) (ap (λ (n : ℕ). helper_at h.var h.piece n h.direction) (omega arith)) own)) in
    there_variable s times 0 s.variables h.var m.variable h m.is
    (subst (λ (n : ℕ). Contains (of_variable n (slice_get times (number_at s n)) m.variable) h) (omega arith) (subst (λ (o : Option Time). Contains (of_variable h.var o m.variable) h) (sym m.is_time) among))

-- ---- none is there twice

abbrev Differs : Helper → Helper → Type 0
Differs a b = a ≢ b

apart_append : {X : Type 0} (R : X → X → Type 0) (xs ys : List X) → AllPairs R xs → AllPairs R ys → All (λ x. All (R x) ys) xs → AllPairs R (xs ++ ys)
apart_append R [] ys p q h = q
apart_append R (x ∷ xs) ys p q h =
    AllPairs-cons R x (xs ++ ys)
    (All-append (R x) xs ys (λ i d l. p 0 (suc i) d (omega arith) (omega (arith, l))) (h 0 x (omega arith)))
    (apart_append R xs ys (λ i j d a b. p (suc i) (suc j) d (omega (arith, a)) (omega (arith, b))) q (λ i d l. h (suc i) d (omega (arith, l))))

-- where a number of the first is below that of the second, they differ
apart_below : (f : Helper → ℕ) (n : ℕ) (xs ys : List Helper) → All (λ h. f h < n) xs → All (λ h. n ≤ f h) ys → All (λ x. All (Differs x) ys) xs
apart_below f n xs ys p q = All-weaker (λ h. f h < n) (λ x. All (Differs x) ys)
    (λ x l. All-weaker (λ h. n ≤ f h) (Differs x) (λ y k e. let same : f x ≡ f y = ap f e in omega (arith, l, k, same)) ys q) xs p

alone : (h : Helper) → AllPairs Differs (h ∷ [])
alone h = λ i j d a b. absurd (omega (arith, a, b))

empty_pairs : AllPairs Differs []
empty_pairs = λ i j d a b. absurd (omega (arith, b))

of_one : (P : Helper → Type 0) (place piece site : ℕ) (o : Option Point) → ((w : Point) → P (helper_at place piece site w)) → All P (helper_of place piece site o)
of_one P place piece site None f = All-nil P
of_one P place piece site (Some w) f = All-cons P (helper_at place piece site w) [] (f w) (All-nil P)

once_one : (place piece site : ℕ) (o : Option Point) → AllPairs Differs (helper_of place piece site o)
once_one place piece site None = empty_pairs
once_one place piece site (Some w) = alone (helper_at place piece site w)

sites_from : (place piece : ℕ) (linear : Point) (first n : ℕ) (rs : List Reference) → n ≤ first → All (λ h. n ≤ h.site) (of_references place piece linear first rs)
sites_from place piece linear first n [] l = All-nil (λ h. n ≤ h.site)
sites_from place piece linear first n (r ∷ rs) l =
    All-append (λ h. n ≤ h.site) (helper_of place piece first (first_moving linear r.map)) (of_references place piece linear (suc first) rs)
    (of_one (λ h. n ≤ h.site) place piece first (first_moving linear r.map) (λ w. l)) (sites_from place piece linear (suc first) n rs (omega (arith, l)))

once_references : (place piece : ℕ) (linear : Point) (first : ℕ) (rs : List Reference) → AllPairs Differs (of_references place piece linear first rs)
once_references place piece linear first [] = empty_pairs
once_references place piece linear first (r ∷ rs) =
    let one = helper_of place piece first (first_moving linear r.map) in
    let rest = of_references place piece linear (suc first) rs in
    apart_append Differs one rest (once_one place piece first (first_moving linear r.map)) (once_references place piece linear (suc first) rs)
    (apart_below (λ h. h.site) (suc first) one rest (of_one (λ h. h.site < suc first) place piece first (first_moving linear r.map) (λ w. omega arith))
    (sites_from place piece linear (suc first) (suc first) rs (omega arith)))

in_piece : (place piece : ℕ) (linear : Point) (first : ℕ) (rs : List Reference) → All (λ h. h.piece ≡ piece) (of_references place piece linear first rs)
in_piece place piece linear first [] = All-nil (λ h. h.piece ≡ piece)
in_piece place piece linear first (r ∷ rs) =
    All-append (λ h. h.piece ≡ piece) (helper_of place piece first (first_moving linear r.map)) (of_references place piece linear (suc first) rs)
    (of_one (λ h. h.piece ≡ piece) place piece first (first_moving linear r.map) (λ w. refl)) (in_piece place piece linear (suc first) rs)

pieces_from : (place : ℕ) (linear : Point) (first n : ℕ) (ps : List Piece) → n ≤ first → All (λ h. n ≤ h.piece) (of_pieces place linear first ps)
pieces_from place linear first n [] l = All-nil (λ h. n ≤ h.piece)
pieces_from place linear first n (p ∷ ps) l =
    All-append (λ h. n ≤ h.piece) (of_references place first linear 0 (references p.tree)) (of_pieces place linear (suc first) ps)
    (All-weaker (λ h. h.piece ≡ first) (λ h. n ≤ h.piece) (λ h e. omega (arith, l, e)) (of_references place first linear 0 (references p.tree)) (in_piece place first linear 0 (references p.tree)))
    (pieces_from place linear (suc first) n ps (omega (arith, l)))

once_pieces : (place : ℕ) (linear : Point) (first : ℕ) (ps : List Piece) → AllPairs Differs (of_pieces place linear first ps)
once_pieces place linear first [] = empty_pairs
once_pieces place linear first (p ∷ ps) =
    let one = of_references place first linear 0 (references p.tree) in
    let rest = of_pieces place linear (suc first) ps in
    apart_append Differs one rest (once_references place first linear 0 (references p.tree)) (once_pieces place linear (suc first) ps)
    (apart_below (λ h. h.piece) (suc first) one rest
    (All-weaker (λ h. h.piece ≡ first) (λ h. h.piece < suc first) (λ h e. omega (arith, e)) one (in_piece place first linear 0 (references p.tree)))
    (pieces_from place linear (suc first) (suc first) ps (omega arith)))

of_place_in : (place piece : ℕ) (linear : Point) (first : ℕ) (rs : List Reference) → All (λ h. h.var ≡ place) (of_references place piece linear first rs)
of_place_in place piece linear first [] = All-nil (λ h. h.var ≡ place)
of_place_in place piece linear first (r ∷ rs) =
    All-append (λ h. h.var ≡ place) (helper_of place piece first (first_moving linear r.map)) (of_references place piece linear (suc first) rs)
    (of_one (λ h. h.var ≡ place) place piece first (first_moving linear r.map) (λ w. refl)) (of_place_in place piece linear (suc first) rs)

of_place_pieces : (place : ℕ) (linear : Point) (first : ℕ) (ps : List Piece) → All (λ h. h.var ≡ place) (of_pieces place linear first ps)
of_place_pieces place linear first [] = All-nil (λ h. h.var ≡ place)
of_place_pieces place linear first (p ∷ ps) =
    All-append (λ h. h.var ≡ place) (of_references place first linear 0 (references p.tree)) (of_pieces place linear (suc first) ps)
    (of_place_in place first linear 0 (references p.tree)) (of_place_pieces place linear (suc first) ps)

of_place : (place : ℕ) (o : Option Time) (v : Variable) → All (λ h. h.var ≡ place) (of_variable place o v)
of_place place None v = All-nil (λ h. h.var ≡ place)
of_place place (Some t) v = of_place_pieces place t.linear 0 v.pieces

places_from : (s : FlatSystem) (times : List Time) (first n : ℕ) (vs : List Variable) → n ≤ first → All (λ h. n ≤ h.var) (of_variables s times first vs)
places_from s times first n [] l = All-nil (λ h. n ≤ h.var)
places_from s times first n (v ∷ vs) l =
    let one = of_variable first (slice_get times (number_at s first)) v in
    All-append (λ h. n ≤ h.var) one (of_variables s times (suc first) vs)
    (All-weaker (λ h. h.var ≡ first) (λ h. n ≤ h.var) (λ h e. omega (arith, l, e)) one (of_place first (slice_get times (number_at s first)) v))
    (places_from s times (suc first) n vs (omega (arith, l)))

once_variable : (place : ℕ) (o : Option Time) (v : Variable) → AllPairs Differs (of_variable place o v)
once_variable place None v = empty_pairs
once_variable place (Some t) v = once_pieces place t.linear 0 v.pieces

once_variables : (s : FlatSystem) (times : List Time) (first : ℕ) (vs : List Variable) → AllPairs Differs (of_variables s times first vs)
once_variables s times first [] = empty_pairs
once_variables s times first (v ∷ vs) =
    let one = of_variable first (slice_get times (number_at s first)) v in
    let rest = of_variables s times (suc first) vs in
    apart_append Differs one rest (once_variable first (slice_get times (number_at s first)) v) (once_variables s times (suc first) vs)
    (apart_below (λ h. h.var) (suc first) one rest
    (All-weaker (λ h. h.var ≡ first) (λ h. h.var < suc first) (λ h e. omega (arith, e)) one (of_place first (slice_get times (number_at s first)) v))
    (places_from s times (suc first) (suc first) vs (omega arith)))

pub all_once : (s : FlatSystem) (times : List Time) → AllPairs (λ a b. a ≢ b) (pipelines s times)
all_once s times = once_variables s times 0 s.variables
