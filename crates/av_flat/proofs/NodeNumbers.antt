-- Nodes by their places among the variables, and variables by the numbers of nodes before them.
use Rattle.std.proofs.Common.{◌≡◌, ℕ, zero, suc, ◌+◌, ◌<◌, ◌≤◌, Bool, true, false, if◌then◌else◌, Some, List, [], ◌∷◌, ◌++◌, length, map, take, get_or, refl, sym, ap, ◌∙◌, arith, length-append}
use Rattle.std.specs.Prelude.{slice_get, filter}
use Rattle.std.specs.Option.{option_map}
use Rattle.std.proofs.lemmas.Option.{slice_get-map, slice_get-get_or, slice_get_within}
use Rattle.std.proofs.lemmas.List.{take_all, length-map}
use Rattle.std.proofs.lemmas.List.FromFn.{length-map-range_with_len, get_or-map-range_with_len}
use Rattle.std.proofs.lemmas.List.Elements.{filter_more, All-filter}
use Rattle.av_flat.specs.declared.flat.Flat.{Flat}
use Rattle.av_flat.specs.declared.flat.Var.{Var}
use Rattle.av_flat.specs.Trees.{Variable, FlatSystem, view_variable, view_system}
use Rattle.av_flat.specs.Nodes.{is_node, nodes, number_at, place_from, node_place, places_of, numbers_of}
use Rattle.av_flat.specs.Chained.{IsChained, IsChainedVariable}
use Rattle.av_base.proofs.Lists.{all_at}

-- ---- places

-- the variable that passes the test as the n-th from 0
pub record IsPassing (test : Variable → Bool) (vs : List Variable) (n : ℕ) (v : Variable) : Type 0 where
  pub place : ℕ
  pub is : slice_get vs place ≡ Some v
  pub passes : test v ≡ true
  pub number : length (filter test (take place vs)) ≡ n

pub passing : (test : Variable → Bool) (vs : List Variable) (n : ℕ) (v : Variable) → slice_get (filter test vs) n ≡ Some v → IsPassing test vs n v
passing test [] n v e = absurd cc
passing test (w ∷ vs) n v e = go (λ m k. passing test vs m v k) (test w) refl n e
  where
    go : ((m : ℕ) → slice_get (filter test vs) m ≡ Some v → IsPassing test vs m v) → (b : Bool) → test w ≡ b → (n : ℕ) → slice_get (if b then w ∷ filter test vs else filter test vs) n ≡ Some v → IsPassing test (w ∷ vs) n v
    go rest true t zero e = let same : w ≡ v = cc in record { place = 0; is = e; passes = sym (ap test same) ∙ t; number = refl }
    go rest true t (suc n) e = let r = rest n e in record { place = suc r.place; is = r.is; passes = r.passes; number = rw t (ap suc r.number) }
    go rest false t n e = let r = rest n e in record { place = suc r.place; is = r.is; passes = r.passes; number = rw t r.number }

pub passed : (a n : ℕ) (w : Variable) (vs : List Variable) → is_node w ≡ false → place_from a n (w ∷ vs) ≡ place_from (suc a) n vs
passed a zero w vs t = rw t refl
passed a (suc n) w vs t = rw t refl

pub place_at : (a : ℕ) (vs : List Variable) (place : ℕ) (v : Variable) → slice_get vs place ≡ Some v → is_node v ≡ true → place_from a (length (filter is_node (take place vs))) vs ≡ a + place
place_at a [] place v is node = absurd cc
place_at a (w ∷ vs) zero v is node =
    let e : w ≡ v = cc in
    let t : is_node w ≡ true = ap is_node e ∙ node in
    rw t (omega arith)
place_at a (w ∷ vs) (suc place) v is node =
    let rest = place_at (suc a) vs place v is node in
    let e : suc a + place ≡ a + suc place = omega arith in
    by_test (is_node w) refl (rest ∙ e)
  where
    by_test : (b : Bool) → is_node w ≡ b → place_from (suc a) (length (filter is_node (take place vs))) vs ≡ a + suc place → place_from a (length (if b then w ∷ filter is_node (take place vs) else filter is_node (take place vs))) (w ∷ vs) ≡ a + suc place
    by_test true t rest = rw t rest
    by_test false t rest = passed a (length (filter is_node (take place vs))) w vs t ∙ rest

pub own_place : (s : FlatSystem) (place : ℕ) (v : Variable) → slice_get s.variables place ≡ Some v → is_node v ≡ true → node_place s (number_at s place) ≡ place
own_place s place v is node = place_at 0 s.variables place v is node ∙ omega arith

pub node_variable : (s : FlatSystem) (n : ℕ) (v : Variable) → slice_get (nodes s) n ≡ Some v → slice_get s.variables (node_place s n) ≡ Some v
node_variable s n v e =
    let r = passing is_node s.variables n v e in
    let p : node_place s n ≡ r.place = ap (node_place s) (sym r.number) ∙ own_place s r.place v r.is r.passes in
    ap (λ (k : ℕ). slice_get s.variables k) p ∙ r.is

-- ---- numbers

pub number_more : (s : FlatSystem) (place : ℕ) (v : Variable) → slice_get s.variables place ≡ Some v → is_node v ≡ true → number_at s (place + 1) ≡ number_at s place + 1
number_more s place v is t =
    let l = slice_get_within s.variables place v is in
    let same : get_or s.variables place v ≡ v = (let e = slice_get-get_or s.variables place v l in cc) in
    let test : is_node (get_or s.variables place v) ≡ true = ap is_node same ∙ t in
    ap (λ (vs : List Variable). length vs) (filter_more is_node s.variables place v l ∙ ap (λ (b : Bool). filter is_node (take place s.variables) ++ (if b then get_or s.variables place v ∷ [] else [])) test)
    ∙ length-append (filter is_node (take place s.variables)) (get_or s.variables place v ∷ [])

pub number_same : (s : FlatSystem) (place : ℕ) (v : Variable) → slice_get s.variables place ≡ Some v → is_node v ≡ false → number_at s (place + 1) ≡ number_at s place
number_same s place v is t =
    let l = slice_get_within s.variables place v is in
    let same : get_or s.variables place v ≡ v = (let e = slice_get-get_or s.variables place v l in cc) in
    let test : is_node (get_or s.variables place v) ≡ false = ap is_node same ∙ t in
    let n : length (filter is_node (take place s.variables) ++ []) ≡ number_at s place + 0 = length-append (filter is_node (take place s.variables)) [] in
    ap (λ (vs : List Variable). length vs) (filter_more is_node s.variables place v l ∙ ap (λ (b : Bool). filter is_node (take place s.variables) ++ (if b then get_or s.variables place v ∷ [] else [])) test)
    ∙ omega (arith, n)

pub number_whole : (s : FlatSystem) (k : ℕ) → length s.variables ≤ k → number_at s k ≡ length (nodes s)
number_whole s k l = ap (λ (vs : List Variable). length (filter is_node vs)) (take_all k s.variables l)

one_more : (b : Bool) (v : Variable) (xs : List Variable) (n : ℕ) → length xs ≤ n → length (if b then v ∷ xs else xs) ≤ suc n
one_more true v xs n l = omega (arith, l)
one_more false v xs n l = omega (arith, l)

few_before : (vs : List Variable) (place : ℕ) → length (filter is_node (take place vs)) ≤ place
few_before [] zero = omega arith
few_before [] (suc place) = omega arith
few_before (v ∷ vs) zero = omega arith
few_before (v ∷ vs) (suc place) = one_more (is_node v) v (filter is_node (take place vs)) place (few_before vs place)

-- no more nodes than variables stand before a place
pub number_within : (s : FlatSystem) (place : ℕ) → number_at s place ≤ place
number_within s place = few_before s.variables place

-- ---- nodes by their numbers

-- a node with the place of its variable
pub record IsNodeAt (s : FlatSystem) (n place : ℕ) : Type 0 where
  pub variable : Variable
  pub is : slice_get (nodes s) n ≡ Some variable
  pub is_variable : slice_get s.variables place ≡ Some variable

pub node_is_at : (s : FlatSystem) (n : ℕ) → n < length (nodes s) → IsNodeAt s n (node_place s n)
node_is_at s n within = go (nodes s) refl
  where
    go : (vs : List Variable) → vs ≡ nodes s → IsNodeAt s n (node_place s n)
    go [] f = absurd (let k = ap (λ (xs : List Variable). length xs) f in omega (arith, k, within))
    go (w ∷ vs) f =
        let v = get_or (nodes s) n w in
        let is : slice_get (nodes s) n ≡ Some v = slice_get-get_or (nodes s) n w within in
        record { variable = v; is = is; is_variable = node_variable s n v is }

pub place_of_node : (s : FlatSystem) (n : ℕ) → n < length (nodes s) → slice_get (places_of s) n ≡ Some (node_place s n)
place_of_node s n l =
    let many = length-map-range_with_len (node_place s) 0 (length (nodes s)) in
    slice_get-get_or (places_of s) n 0 (omega (arith, l, many)) ∙ ap (λ (k : ℕ). Some k) (get_or-map-range_with_len (node_place s) 0 (length (nodes s)) n n 0 l (omega arith))

pub node_in_places : (s : FlatSystem) (places : List ℕ) (n : ℕ) → places ≡ places_of s → n < length (nodes s) → n < length places
node_in_places s places n e l = slice_get_within places n (node_place s n) (ap (λ (xs : List ℕ). slice_get xs n) e ∙ place_of_node s n l)

pub place_listed : (s : FlatSystem) (places : List ℕ) (n d : ℕ) → places ≡ places_of s → n < length (nodes s) → get_or places n d ≡ node_place s n
place_listed s places n d e l = ap (λ (xs : List ℕ). get_or xs n d) e ∙ get_or-map-range_with_len (node_place s) 0 (length (nodes s)) n n d l (omega arith)

pub place_in_numbers : (flat : Flat) (numbers : List ℕ) (place : ℕ) → numbers ≡ numbers_of (view_system flat) → place < length flat.vars → place < length numbers
place_in_numbers flat numbers place e l =
    let s = view_system flat in
    let many = length-map-range_with_len (number_at s) 0 (length s.variables) in
    let all = length-map flat.vars view_variable in
    let f = ap (λ (xs : List ℕ). length xs) e in
    omega (arith, many, all, f, l)

pub number_listed : (flat : Flat) (numbers : List ℕ) (place d : ℕ) → numbers ≡ numbers_of (view_system flat) → place < length flat.vars → get_or numbers place d ≡ number_at (view_system flat) place
number_listed flat numbers place d e l =
    let s = view_system flat in
    let all = length-map flat.vars view_variable in
    ap (λ (xs : List ℕ). get_or xs place d) e ∙ get_or-map-range_with_len (number_at s) 0 (length s.variables) place place d (omega (arith, all, l)) (omega arith)

pub places_number : (s : FlatSystem) (places : List ℕ) → places ≡ places_of s → length places ≡ length (nodes s)
places_number s places e = ap (λ (xs : List ℕ). length xs) e ∙ length-map-range_with_len (node_place s) 0 (length (nodes s))

pub node_passes : (s : FlatSystem) (n : ℕ) (v : Variable) → slice_get (nodes s) n ≡ Some v → is_node v ≡ true
node_passes s n v e = (passing is_node s.variables n v e).passes

pub chained_node : (s : FlatSystem) (n : ℕ) (v : Variable) → IsChained s → slice_get (nodes s) n ≡ Some v → IsChainedVariable s v
chained_node s n v chained e = all_at (IsChainedVariable s) (nodes s) n v (All-filter is_node (IsChainedVariable s) s.variables chained.each) e

-- the place of a node is one of the variables
pub node_listed : (flat : Flat) (vars : List Var) (n place : ℕ) → vars ≡ flat.vars → place ≡ node_place (view_system flat) n → n < length (nodes (view_system flat)) → place < length vars
node_listed flat vars n place f e l =
    let at = node_is_at (view_system flat) n l in
    let k = slice_get_within (view_system flat).variables (node_place (view_system flat) n) at.variable at.is_variable in
    let m = length-map flat.vars view_variable in
    let g = ap (λ (xs : List Var). length xs) f in
    omega (arith, k, m, g, e)

-- ---- variables as they lie in memory

pub variable_at : (vars : List Var) (place : ℕ) (x : Var) → place < length vars → x ≡ get_or vars place x → slice_get (map view_variable vars) place ≡ Some (view_variable x)
variable_at vars place x l e = slice_get-map view_variable vars place ∙ ap (option_map view_variable) (slice_get-get_or vars place x l ∙ ap Some (sym e))

pub viewed_at : (flat : Flat) (vars : List Var) (place : ℕ) (x : Var) → vars ≡ flat.vars → place < length vars → x ≡ get_or vars place x → slice_get (view_system flat).variables place ≡ Some (view_variable x)
viewed_at flat vars place x e l is = ap (λ (ws : List Var). slice_get (map view_variable ws) place) (sym e) ∙ variable_at vars place x l is

-- the same, where the variable is known
pub is_viewed : (flat : Flat) (vars : List Var) (place : ℕ) (x : Var) (v : Variable) → vars ≡ flat.vars → place < length vars → x ≡ get_or vars place x → slice_get (view_system flat).variables place ≡ Some v → view_variable x ≡ v
is_viewed flat vars place x v e l is found = let at = viewed_at flat vars place x e l is in cc
