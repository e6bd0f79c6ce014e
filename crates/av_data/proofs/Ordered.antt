-- Values in the order of cycles and ports.
use Rattle.std.proofs.Common.{◌≡◌, ℕ, Bool, true, false, cond, ◌&&◌, List, [], ◌∷◌, map, Some, refl, sym, ap, ◌∙◌, true≢false}
use Rattle.std.specs.Prelude.{◌||◌, if◌then◌else◌, is_some, nat_eq, nat_lt}
use Rattle.std.specs.Map.{lookup}
use Rattle.std.specs.Ordering.{nat_cmp, ordering_then, is_eq, match_ordering}
use Rattle.std.specs.declared.cmp.Ordering.{Ordering}
use Rattle.std.specs.declared.cmp.Ordering.TheVariants.{Less, Equal, Greater}
use Rattle.std.specs.BTreeMap.{insert_entry}
use Rattle.std.proofs.lemmas.Bool.{ltb-true, eqb-true}
use Rattle.std.proofs.Common.{arith}
use Rattle.av_data.specs.declared.stimulus.Given.{Given}
use Rattle.av_data.specs.Kept.{entry_given, is_same, is_before, is_given, placed}
use Rattle.av_base.proofs.Truths.{neither}

abbrev Entry : Type 0
Entry = (ℕ × ℕ) × ℕ

abbrev pub key_cmp : ℕ × ℕ → ℕ × ℕ → Ordering
key_cmp a b = ordering_then (nat_cmp a.0 b.0) (nat_cmp a.1 b.1)

abbrev pub key_of : Given → ℕ × ℕ
key_of g = (g.cycle, g.port)

-- what a comparison of numbers answers, with the tests that go with it
pub data Compared (m n : ℕ) : Ordering → Bool → Bool → Type 0 where
  less : Compared m n Less true false
  equal : Compared m n Equal false true
  greater : Compared m n Greater false false

pub compared : (m n : ℕ) → Compared m n (nat_cmp m n) (nat_lt m n) (nat_eq m n)
compared m n = by (nat_lt m n) (nat_eq m n) refl refl
  where
    by : (t u : Bool) → nat_lt m n ≡ t → nat_eq m n ≡ u → Compared m n (cond t Less (cond u Equal Greater)) t u
    by true true e f = absurd (let lt = ltb-true m n e in let eq = eqb-true m n f in omega (arith, lt, eq))
    by true false e f = less
    by false true e f = equal
    by false false e f = greater

-- the same key is an equal one
pub same_key : (g h : Given) → is_eq (key_cmp (key_of g) (key_of h)) ≡ is_same g h
same_key g h = by _ _ _ (compared g.cycle h.cycle)
  where
    by : (o : Ordering) (t u : Bool) → Compared g.cycle h.cycle o t u → is_eq (ordering_then o (nat_cmp g.port h.port)) ≡ (u && nat_eq g.port h.port)
    by _ _ _ less = refl
    by _ _ _ greater = refl
    by _ _ _ equal = ports _ _ _ (compared g.port h.port)
      where
        ports : (o : Ordering) (t u : Bool) → Compared g.port h.port o t u → is_eq o ≡ u
        ports _ _ _ less = refl
        ports _ _ _ equal = refl
        ports _ _ _ greater = refl

-- where the keys differ, the order is that of the values
pub ordered_key : {X : Type 0} (g h : Given) (a b c : X) → is_same g h ≡ false → match_ordering (key_cmp (key_of g) (key_of h)) a b c ≡ (if is_before g h then a else c)
ordered_key g h a b c apart = by _ _ _ (compared g.cycle h.cycle) apart
  where
    by : (o : Ordering) (t u : Bool) → Compared g.cycle h.cycle o t u → (u && nat_eq g.port h.port) ≡ false
        → match_ordering (ordering_then o (nat_cmp g.port h.port)) a b c ≡ (if t || (u && nat_lt g.port h.port) then a else c)
    by _ _ _ less e = refl
    by _ _ _ greater e = refl
    by _ _ _ equal e = ports _ _ _ (compared g.port h.port) e
      where
        ports : (o : Ordering) (t u : Bool) → Compared g.port h.port o t u → u ≡ false → match_ordering o a b c ≡ (if t then a else c)
        ports _ _ _ less f = refl
        ports _ _ _ equal f = absurd (true≢false f)
        ports _ _ _ greater f = refl

-- an entry of this key is a value of this port and cycle
pub found_given : (es : List Entry) (g : Given) → is_some (lookup (λ k. is_eq (key_cmp (key_of g) k)) es) ≡ is_given (map entry_given es) g
found_given [] g = refl
found_given (e ∷ es) g = go (is_eq (key_cmp (key_of g) e.0)) (is_same g (entry_given e)) (same_key g (entry_given e)) (found_given es g)
  where
    go : (t u : Bool) → t ≡ u → is_some (lookup (λ k. is_eq (key_cmp (key_of g) k)) es) ≡ is_given (map entry_given es) g
        → is_some (cond t (Some e.1) (lookup (λ k. is_eq (key_cmp (key_of g) k)) es)) ≡ (u || is_given (map entry_given es) g)
    go true true e h = refl
    go false false e h = h
    go true false e h = absurd (true≢false e)
    go false true e h = absurd (true≢false (sym e))

-- a new value goes to its place
pub entry_placed : (es : List Entry) (g : Given) → is_given (map entry_given es) g ≡ false → map entry_given (insert_entry key_cmp es (key_of g) g.value) ≡ placed g (map entry_given es)
entry_placed [] g none = refl
entry_placed (e ∷ es) g none =
    let both = neither (is_same g (entry_given e)) (is_given (map entry_given es) g) none in
    ap (map entry_given) (ordered_key g (entry_given e) ((key_of g, g.value) ∷ e ∷ es) ((e.0, g.value) ∷ es) (e ∷ insert_entry key_cmp es (key_of g) g.value) both.0)
    ∙ go (is_before g (entry_given e)) (entry_placed es g both.1)
  where
    go : (t : Bool) → map entry_given (insert_entry key_cmp es (key_of g) g.value) ≡ placed g (map entry_given es)
        → map entry_given (if t then (key_of g, g.value) ∷ e ∷ es else e ∷ insert_entry key_cmp es (key_of g) g.value) ≡ (if t then g ∷ entry_given e ∷ map entry_given es else entry_given e ∷ placed g (map entry_given es))
    go true h = refl
    go false h = ap (λ (hs : List Given). entry_given e ∷ hs) h
