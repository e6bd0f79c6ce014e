-- The dimensions of the nodes, and the lists of linear parts of a component's nodes.
use Rattle.std.proofs.Common.{◌≡◌, ℕ, zero, suc, ◌+◌, ◌<◌, ◌≤◌, Bool, true, false, cond, Some, List, [], ◌∷◌, ◌++◌, map, length, get_or, refl, sym, ap, subst, ◌∙◌, arith, All, ⊎_elim, length-append}
use Rattle.std.specs.Prelude.{slice_get, slice_index_or, filter}
use Rattle.std.specs.Option.{option_map}
use Rattle.std.proofs.lemmas.Bool.{cases_eq}
use Rattle.std.proofs.lemmas.Option.{slice_get-map, get_or_from_slice_get}
use Rattle.std.proofs.lemmas.List.Elements.{filter-append, All-filter}
use Rattle.av_tree.specs.Points.{Point}
use Rattle.av_flat.specs.Trees.{Variable, FlatSystem}
use Rattle.av_flat.specs.Schedules.{IsLinearPart}
use Rattle.av_flat.specs.Nodes.{is_node, nodes}
use Rattle.av_flat.specs.Chained.{IsChained, IsChainedVariable}
use Rattle.av_sched.specs.inner.Vectors.{AreLinearPartsOf}
use Rattle.av_sched.specs.Parts.{AreParts, AreAllParts}
use Rattle.av_sched.specs.inner.Walk.{AreAllPartsTo}
use Rattle.av_base.proofs.Lists.{all_at, same_default, there_is}

-- the dimensions of those among the variables that are nodes
abbrev pub sizes : List Variable → List ℕ
sizes vs = map (λ v. v.domain.dim) (filter is_node vs)

map_append : (xs ys : List Variable) → map (λ v. v.domain.dim) (xs ++ ys) ≡ map (λ v. v.domain.dim) xs ++ map (λ v. v.domain.dim) ys
map_append [] ys = refl
map_append (x ∷ xs) ys = ap (λ zs. x.domain.dim ∷ zs) (map_append xs ys)

pub sizes_more : (vs : List Variable) (v : Variable) (t : Bool) → is_node v ≡ t → sizes (vs ++ v ∷ []) ≡ sizes vs ++ cond t (v.domain.dim ∷ []) []
sizes_more vs v t e = ap (map (λ v. v.domain.dim)) (filter-append is_node vs (v ∷ [])) ∙ map_append (filter is_node vs) (filter is_node (v ∷ [])) ∙ ap (λ xs. map (λ v. v.domain.dim) (filter is_node vs) ++ xs) (one t e)
  where
    one : (t : Bool) → is_node v ≡ t → map (λ v. v.domain.dim) (filter is_node (v ∷ [])) ≡ cond t (v.domain.dim ∷ []) []
    one true e = ap (λ b. map (λ (w : Variable). w.domain.dim) (cond b (v ∷ []) [])) e
    one false e = ap (λ b. map (λ (w : Variable). w.domain.dim) (cond b (v ∷ []) [])) e

-- the dimension of a node
pub size_at : (s : FlatSystem) (dims : List ℕ) (n d : ℕ) (v : Variable) → dims ≡ sizes s.variables → d ≡ get_or dims n d → slice_get (nodes s) n ≡ Some v → d ≡ v.domain.dim
size_at s dims n d v e f g =
    let at : slice_get (sizes s.variables) n ≡ Some v.domain.dim = slice_get-map (λ v. v.domain.dim) (nodes s) n ∙ ap (option_map (λ v. v.domain.dim)) g in
    f ∙ ap (λ xs. get_or xs n d) e ∙ get_or_from_slice_get (sizes s.variables) n v.domain.dim d at

pub size_fits : (s : FlatSystem) (dims : List ℕ) (n d : ℕ) → IsChained s → n < length (nodes s) → dims ≡ sizes s.variables → d ≡ get_or dims n d → d ≤ 4
size_fits s dims n d chained l e f =
    let r = there_is (nodes s) n l in
    let v = all_at (IsChainedVariable s) (nodes s) n r.0 (All-filter is_node (IsChainedVariable s) s.variables chained.each) r.1 in
    let q = size_at s dims n d r.0 e f r.1 in
    let few = v.indices in
    omega (arith, q, few)

pub length_sizes : (vs : List Variable) → length (sizes vs) ≡ length (filter is_node vs)
length_sizes vs = go (filter is_node vs)
  where
    go : (xs : List Variable) → length (map (λ v. v.domain.dim) xs) ≡ length xs
    go [] = refl
    go (x ∷ xs) = ap suc (go xs)

-- ---- the lists

pub get_push : {X : Type 0} (xs : List X) (x d : X) (n : ℕ) → n < length xs → get_or (xs ++ x ∷ []) n d ≡ get_or xs n d
get_push [] x d n h = absurd (omega (arith, h))
get_push (y ∷ xs) x d zero h = refl
get_push (y ∷ xs) x d (suc n) h = get_push xs x d n (omega (arith, h))

pub get_last : {X : Type 0} (xs : List X) (x d : X) → get_or (xs ++ x ∷ []) (length xs) d ≡ x
get_last [] x d = refl
get_last (y ∷ xs) x d = get_last xs x d

pub no_lists : (s : FlatSystem) (c : ℕ) (component : List ℕ) → AreAllPartsTo s c component 0 []
no_lists s c component = record { one_each = refl; each = λ j l. absurd (omega (arith, l)) }

pub lists_more : (s : FlatSystem) (c : ℕ) (component : List ℕ) (k : ℕ) (lists : List (List Point)) (list : List Point) (dims : List ℕ) (m n d : ℕ) → k < length component → m ≡ get_or component k m → n ≡ m → dims ≡ sizes s.variables → d ≡ get_or dims n d
    → AreLinearPartsOf c d list → AreAllPartsTo s c component k lists → AreAllPartsTo s c component (k + 1) (lists ++ list ∷ [])
lists_more s c component k lists list dims m n d l is same e f own h = record {
  one_each = (let a = length-append lists (list ∷ []) in let b = h.one_each in omega (arith, a, b));
  each = λ j i. ⊎_elim
      (λ q.
      let at : slice_index_or (lists ++ list ∷ []) j [] ≡ list = ap (λ x. slice_index_or (lists ++ list ∷ []) x []) (q ∙ sym h.one_each) ∙ get_last lists list [] in
      let node : slice_index_or component j 0 ≡ n = ap (λ x. slice_index_or component x 0) q ∙ same_default component k 0 m l ∙ sym is ∙ sym same in
      subst (AreParts s c (slice_index_or component j 0)) (sym at) (subst (λ (x : ℕ). AreParts s c x list) (sym node) parts))
      (λ q. let b : j < k = omega (arith, i, q) in subst (AreParts s c (slice_index_or component j 0)) (sym (get_push lists list [] j (let z = h.one_each in omega (arith, b, z)))) (h.each j b))
      (cases_eq j k);
}
  where
    parts : AreParts s c n list
    parts = record {
      valid = λ v g. subst (λ (x : ℕ). All (IsLinearPart c x) list) (size_at s dims n d v e f g) own.each;
      all = λ v g a part. own.all a (subst (λ (x : ℕ). IsLinearPart c x a) (sym (size_at s dims n d v e f g)) part);
    }

pub lists_all : (s : FlatSystem) (c : ℕ) (component : List ℕ) (k : ℕ) (lists : List (List Point)) → length component ≤ k → k ≤ length component → AreAllPartsTo s c component k lists → AreAllParts s c component lists
lists_all s c component k lists l m h = record { one_each = (let z = h.one_each in omega (arith, z, l, m)); each = λ j i. h.each j (omega (arith, i, l)) }
