-- Components read off rows of marks, one node at a time.
use Rattle.std.proofs.Common.{◌≡◌, ◌≢◌, ℕ, zero, suc, ◌+◌, ◌<◌, ◌≤◌, Bool, IsTrue, List, [], ◌∷◌, ◌++◌, length, get_or, ⊎_elim, sym, subst, arith, All}
use Rattle.std.specs.Prelude.{Contains, AllPairs}
use Rattle.std.proofs.lemmas.Bool.{cases_eq}
use Rattle.std.proofs.lemmas.List.Elements.{All-push, All-contains, Contains-get_or, Contains-append_left, Contains-push_cases}
use Rattle.std.proofs.lemmas.List.Quantifiers.{all_pairs_push}
use Rattle.av_depend.specs.Components.{Reaches, itself, first_node, IsTogether, AreApart, AreComponents}
use Rattle.av_depend.specs.inner.Reaching.{leads, AreReached, IsComponentIn}
use Rattle.av_base.proofs.Among.{last_among}
use Rattle.av_depend.proofs.Marks.{reaches_through}

-- ---- the nodes of one component

-- those below k that are marked for this one and for which it is marked
pub record IsPart (rows : List (List Bool)) (node k : ℕ) (c : List ℕ) : Type 0 where
  pub ascending : AllPairs (λ u v. u < v) c
  pub below : All (λ v. v < k) c
  pub each : (v : ℕ) → Contains c v → IsTrue (leads rows node v) × IsTrue (leads rows v node)
  pub all : (v : ℕ) → v < k → IsTrue (leads rows node v) → IsTrue (leads rows v node) → Contains c v

pub no_part : (rows : List (List Bool)) (node : ℕ) → IsPart rows node 0 []
no_part rows node = record {
  ascending = λ i j d l m. absurd (omega (arith, m));
  below = λ i d l. absurd (omega (arith, l));
  each = λ v h. absurd (let l = h.1 in omega (arith, l));
  all = λ v l. absurd (omega (arith, l));
}

pub part_more : (rows : List (List Bool)) (node k : ℕ) (c : List ℕ) → IsPart rows node k c → IsTrue (leads rows node k) × IsTrue (leads rows k node) → IsPart rows node (k + 1) (c ++ k ∷ [])
part_more rows node k c h t = record {
  ascending = all_pairs_push (λ u v. u < v) c k h.ascending (λ i d l. h.below i d l);
  below = All-push (λ v. v < k + 1) c k (λ i d l. let b = h.below i d l in omega (arith, b)) (omega arith);
  each = λ v i. ⊎_elim
      (λ old. h.each v old)
      (λ same. subst (λ (u : ℕ). IsTrue (leads rows node u) × IsTrue (leads rows u node)) same t)
      (Contains-push_cases c k v i);
  all = λ v l p q. ⊎_elim
      (λ same. subst (Contains (c ++ k ∷ [])) (sym same) (last_among c k))
      (λ differ. Contains-append_left c (k ∷ []) v (h.all v (omega (arith, l, differ)) p q))
      (cases_eq v k);
}

pub part_skip : (rows : List (List Bool)) (node k : ℕ) (c : List ℕ) → IsPart rows node k c → (IsTrue (leads rows node k) × IsTrue (leads rows k node) → ⊥) → IsPart rows node (k + 1) c
part_skip rows node k c h none = record {
  ascending = h.ascending;
  below = λ i d l. let b = h.below i d l in omega (arith, b);
  each = h.each;
  all = λ v l p q. ⊎_elim
      (λ same. absurd (none (subst (λ (u : ℕ). IsTrue (leads rows node u) × IsTrue (leads rows u node)) same (p, q))))
      (λ differ. h.all v (omega (arith, l, differ)) p q)
      (cases_eq v k);
}

pub part_all : (rows : List (List Bool)) (node n k : ℕ) (c : List ℕ) → n ≤ k → k ≤ n → IsPart rows node k c → IsComponentIn n rows node c
part_all rows node n k c a b h = record {
  ascending = h.ascending;
  below = λ i d l. let m = h.below i d l in omega (arith, m, b);
  each = h.each;
  all = λ v l. h.all v (omega (arith, l, a));
}

-- ---- what they reach

-- the nodes below n that reach this one and are reached from it
pub record IsComponentOf (n : ℕ) (R : ℕ → ℕ → Type 0) (node : ℕ) (c : List ℕ) : Type 0 where
  pub ascending : AllPairs (λ u v. u < v) c
  pub below : All (λ v. v < n) c
  pub there : (v : ℕ) → Contains c v → Reaches R node v
  pub back : (v : ℕ) → Contains c v → Reaches R v node
  pub all : (v : ℕ) → v < n → Reaches R node v → Reaches R v node → Contains c v

pub component_is : (n : ℕ) (R : ℕ → ℕ → Type 0) (rows : List (List Bool)) (node : ℕ) (c : List ℕ) → node < n → AreReached n R rows → IsComponentIn n rows node c → IsComponentOf n R node c
component_is n R rows node c l are h = record {
  ascending = h.ascending;
  below = h.below;
  there = λ v i. ((are.each node l).marked v (All-contains (λ v. v < n) c v h.below i)).0 (h.each v i).0;
  back = λ v i. ((are.each v (All-contains (λ v. v < n) c v h.below i)).marked node l).0 (h.each v i).1;
  all = λ v m p q. h.all v m (((are.each node l).marked v m).1 p) (((are.each v m).marked node l).1 q);
}

-- no node is before the first
pub first_least : (c : List ℕ) (v : ℕ) → AllPairs (λ u v. u < v) c → Contains c v → first_node c ≤ v
first_least c v up (zero, l, e) = (let s : first_node c ≡ v = same c v l e in omega (arith, s))
  where
    same : (c : List ℕ) (v : ℕ) → 0 < length c → get_or c 0 v ≡ v → first_node c ≡ v
    same [] v l e = absurd (omega (arith, l))
    same (x ∷ c) v l e = e
first_least c v up (suc k, l, e) = (let s = before c v k up l e in omega (arith, s))
  where
    before : (c : List ℕ) (v k : ℕ) → AllPairs (λ u v. u < v) c → suc k < length c → get_or c (suc k) v ≡ v → first_node c < v
    before [] v k up l e = absurd (omega (arith, l))
    before (x ∷ c) v k up l e = subst (λ (y : ℕ). x < y) e (up 0 (suc k) v (omega arith) l)

module _ (n : ℕ) (R : ℕ → ℕ → Type 0) (node : ℕ) (c : List ℕ) (l : node < n) (h : IsComponentOf n R node c) where
  pub own : Contains c node
  own = h.all node l itself itself

  pub some : 0 < length c
  some = let o = own in let m = o.1 in omega (arith, m)

  pub first_in : Contains c (first_node c)
  first_in = Contains-get_or c 0 0 some

  pub together : IsTogether n R c
  together = record {
    some = some;
    below = h.below;
    ascending = h.ascending;
    together = λ u v p q. reaches_through R u node v (h.back u p) (h.there v q);
  }

-- no node that reaches one of them and is reached from it is left out
abbrev pub IsWhole : ℕ → (ℕ → ℕ → Type 0) → List ℕ → Type 0
IsWhole n R c = (u v : ℕ) → Contains c u → v < n → Reaches R u v → Reaches R v u → Contains c v

whole : (n : ℕ) (R : ℕ → ℕ → Type 0) (node : ℕ) (c : List ℕ) → IsComponentOf n R node c → IsWhole n R c
whole n R node c h u v i l p q = h.all v l (reaches_through R node u v (h.there u i) p) (reaches_through R v u node q (h.back u i))

-- ---- the components of the first nodes

abbrev pub HasComponent : List (List ℕ) → ℕ → Type 0
HasComponent cs u = (c : List ℕ) × Contains cs c × Contains c u

-- the components whose first nodes are below k
pub record AreComponentsTo (n : ℕ) (R : ℕ → ℕ → Type 0) (k : ℕ) (cs : List (List ℕ)) : Type 0 where
  pub each : All (IsTogether n R) cs
  pub firsts : All (λ c. first_node c < k) cs
  pub wholes : All (IsWhole n R) cs
  pub every : (u : ℕ) → u < k → HasComponent cs u
  pub apart : AllPairs (AreApart R) cs
  pub order : AllPairs (λ c d. first_node c < first_node d) cs

pub no_components : (n : ℕ) (R : ℕ → ℕ → Type 0) → AreComponentsTo n R 0 []
no_components n R = record {
  each = λ i d l. absurd (omega (arith, l));
  firsts = λ i d l. absurd (omega (arith, l));
  wholes = λ i d l. absurd (omega (arith, l));
  every = λ u l. absurd (omega (arith, l));
  apart = λ i j d l m. absurd (omega (arith, m));
  order = λ i j d l m. absurd (omega (arith, m));
}

module _ (n k : ℕ) (R : ℕ → ℕ → Type 0) (cs : List (List ℕ)) (c : List ℕ) (l : k < n) (are : AreComponentsTo n R k cs) (h : IsComponentOf n R k c) where
  -- a component whose first node is k is a new one
  pub components_more : first_node c ≡ k → AreComponentsTo n R (k + 1) (cs ++ c ∷ [])
  components_more first = record {
    each = All-push (IsTogether n R) cs c are.each (together n R k c l h);
    firsts = All-push (λ c. first_node c < k + 1) cs c (λ i d m. let b = are.firsts i d m in omega (arith, b)) (omega (arith, first));
    wholes = All-push (IsWhole n R) cs c are.wholes (whole n R k c h);
    every = λ u m. ⊎_elim
        (λ same. (c, last_among cs c, subst (Contains c) (sym same) (own n R k c l h)))
        (λ differ. let r = are.every u (omega (arith, m, differ)) in (r.0, Contains-append_left cs (c ∷ []) r.0 r.1, r.2))
        (cases_eq u k);
    apart = all_pairs_push (AreApart R) cs c are.apart (λ i d m. no_way (get_or cs i d) (are.each i d m) (are.firsts i d m));
    order = all_pairs_push (λ c d. first_node c < first_node d) cs c are.order (λ i d m. let b = are.firsts i d m in omega (arith, b, first));
  }
    where
      no_way : (d : List ℕ) → IsTogether n R d → first_node d < k → AreApart R d c
      no_way d t b u v i j p q =
          let f = first_node d in
          let f_in : Contains d f = Contains-get_or d 0 0 t.some in
          let there : Reaches R f k = reaches_through R f u k (t.together f u f_in i) (reaches_through R u v k p (h.back v j)) in
          let back : Reaches R k f = reaches_through R k u f (reaches_through R k v u (h.there v j) q) (t.together u f i f_in) in
          let in_c = h.all f (All-contains (λ v. v < n) d f t.below f_in) back there in
          let least = first_least c f h.ascending in_c in
          omega (arith, least, first, b)

  -- any other is there already
  pub components_skip : first_node c ≢ k → AreComponentsTo n R (k + 1) cs
  components_skip differs = record {
    each = are.each;
    firsts = λ i d m. let b = are.firsts i d m in omega (arith, b);
    wholes = are.wholes;
    every = λ u m. ⊎_elim
        (λ same. subst (HasComponent cs) (sym same) there)
        (λ differ. are.every u (omega (arith, m, differ)))
        (cases_eq u k);
    apart = are.apart;
    order = are.order;
  }
    where
      there : HasComponent cs k
      there =
          let f = first_node c in
          let f_in = first_in n R k c l h in
          let least = first_least c k h.ascending (own n R k c l h) in
          let r = are.every f (omega (arith, least, differs)) in
          (r.0, r.1, All-contains (IsWhole n R) cs r.0 are.wholes r.1 f k r.2 l (h.back f f_in) (h.there f f_in))

pub components_all : (n k : ℕ) (R : ℕ → ℕ → Type 0) (cs : List (List ℕ)) → n ≤ k → AreComponentsTo n R k cs → AreComponents n R cs
components_all n k R cs a h = record {
  each = h.each;
  every = λ u l. let r = h.every u (omega (arith, l, a)) in let i = r.1 in (i.0, r.0, i.1, i.2, r.2);
  apart = h.apart;
  order = h.order;
}
