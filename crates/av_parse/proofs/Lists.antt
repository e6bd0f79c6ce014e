-- Reading a list one item after the other, as a loop does: what is read in all, from what was read so far.
use Rattle.std.proofs.Common.{◌≡◌, ℕ, zero, suc, ◌<◌, ◌-◌, Bool, true, false, cond, List, [], ◌∷◌, ◌++◌, length, Option, Some, None, Result, Ok, Err, refl, sym, ap, subst, ◌∙◌, append_assoc, arith}
use Rattle.std.specs.Prelude.{codes}
use Rattle.std.proofs.lemmas.List.{append-nil}
use Rattle.av_base.specs.declared.token_kind.TokenKind.TheVariants as kind
use Rattle.av_base.specs.Tokens.{Token}
use Rattle.av_tree.specs.declared.domain.Term.{Term}
use Rattle.av_tree.specs.declared.domain.IndexExpr.{IndexExpr}
use Rattle.av_tree.specs.declared.domain.Constraint.{Constraint}
use Rattle.av_tree.specs.declared.relation.Relation.{Relation}
use Rattle.av_tree.specs.IndexGrammar.{compared, plus_one, minus_one}
use Rattle.av_parse.specs.declared.fault.Fault.{Fault}
use Rattle.av_parse.specs.declared.fault.Fault.TheVariants.{Syntax}
use Rattle.av_parse.specs.declared.fault.Stop.{Stop}
use Rattle.av_parse.specs.declared.fault.Stop.TheVariants as stop
use Rattle.av_parse.specs.inner.Reader.{◌>>=◌, Stops, with_front, begins_symbol, after, expect}
use Rattle.av_parse.specs.inner.IndexReader.{names_of, sign_of, term_sign_at, term_of, terms_of, index_of, indices_of, side_of, relation_at, relation_of, is_there, chain_of, constraint_of, constraints_of}

-- ---- any list

-- a step that stopped
pub stops_then : {A B : Type 0} (e : Stop) (r : Result A Fault) (f : A → Result B Fault) → Stops e r → Stops e (r >>= f)
stops_then stop.Memory r f h = tt
stops_then (stop.Fault g) r f h = rw h refl

pub stops_as : {A : Type 0} (e : Stop) (r s : Result A Fault) → r ≡ s → Stops e r → Stops e s
stops_as e r s is h = subst (λ z. Stops e z) is h

pub front_none : {A : Type 0} (r : Result (List A × List Token) Fault) → with_front [] r ≡ r
front_none (Ok x) = refl
front_none (Err f) = refl

pub front_item : {A : Type 0} (front : List A) (n : A) (read : Result (List A × List Token) Fault)
    → with_front front (read >>= λ x. Ok (n ∷ x.0, x.1)) ≡ with_front (front ++ n ∷ []) read
front_item {A = A} front n (Ok x) = ap (λ (ns : List A). Ok (ns, x.1)) (simp append_assoc)
front_item front n (Err f) = refl

pub front_items : {A : Type 0} (front ns : List A) (read : Result (List A × List Token) Fault)
    → with_front front (read >>= λ x. Ok (ns ++ x.0, x.1)) ≡ with_front (front ++ ns) read
front_items {A = A} front ns (Ok x) = ap (λ (z : List A). Ok (z, x.1)) (simp append_assoc)
front_items front ns (Err f) = refl

-- ---- names

names_at : (room : ℕ) (ts : List Token) → 0 < room
    → names_of room ts ≡ (expect kind.Name ts >>= λ x. cond (begins_symbol (codes ",") x.1) (names_of (room - 1) (after x.1) >>= λ xs. Ok (x.0 ∷ xs.0, xs.1)) (Ok (x.0 ∷ [], x.1)))
unfolding names_of
names_at zero ts h = absurd (omega arith)
names_at (suc n) ts h = let e : suc n - 1 ≡ n = omega arith in rw e refl

module _ (front : List Token) (room : ℕ) (ts : List Token) (total : Result (List Token × List Token) Fault) (is : with_front front (names_of room ts) ≡ total) where
  pub names_full : room ≡ 0 → total ≡ Err (Syntax (length ts))
  unfolding names_of
  names_full e = sym is ∙ rw e refl

  pub names_stop : (e : Stop) → 0 < room → Stops e (expect kind.Name ts) → Stops e total
  names_stop e some h = stops_as e (with_front front (names_of room ts)) total is (rw (names_at room ts some) (stops_then e _ _ (stops_then e _ _ h)))

  pub names_end : (x : Token) (mid : List Token) → 0 < room → expect kind.Name ts ≡ Ok (x, mid) → begins_symbol (codes ",") mid ≡ false → total ≡ Ok (front ++ x ∷ [], mid)
  names_end x mid some e c =
      let one : with_front front (names_of room ts) ≡ Ok (front ++ x ∷ [], mid) = rw (names_at room ts some, e, c) refl in sym is ∙ one

  pub names_goes : (x : Token) (mid : List Token) → 0 < room → expect kind.Name ts ≡ Ok (x, mid) → begins_symbol (codes ",") mid ≡ true
      → with_front (front ++ x ∷ []) (names_of (room - 1) (after mid)) ≡ total
  names_goes x mid some e c =
      let one : with_front front (names_of room ts) ≡ with_front (front ++ x ∷ []) (names_of (room - 1) (after mid)) =
      rw (names_at room ts some, e, c) (front_item front x (names_of (room - 1) (after mid))) in
      sym one ∙ is

-- ---- terms

terms_at : (room : ℕ) (ts : List Token) → 0 < room
    → terms_of room ts ≡ cond (begins_symbol (codes "+") ts) (term_of plus_one (after ts) >>= λ t. terms_of (room - 1) t.1 >>= λ more. Ok (t.0 ∷ more.0, more.1))
    (cond (begins_symbol (codes "-") ts) (term_of minus_one (after ts) >>= λ t. terms_of (room - 1) t.1 >>= λ more. Ok (t.0 ∷ more.0, more.1)) (Ok ([], ts)))
unfolding terms_of
terms_at zero ts h = absurd (omega arith)
terms_at (suc n) ts h = let e : suc n - 1 ≡ n = omega arith in rw e refl

-- what goes on behind a sign
abbrev signed_terms : ℕ → Option Bool → List Token → Result (List Term × List Token) Fault
signed_terms room None ts = Ok ([], ts)
signed_terms room (Some s) ts = term_of (sign_of s) (after ts) >>= λ t. terms_of (room - 1) t.1 >>= λ more. Ok (t.0 ∷ more.0, more.1)

by_sign : (room : ℕ) (ts : List Token) (p m : Bool) → begins_symbol (codes "+") ts ≡ p → begins_symbol (codes "-") ts ≡ m → 0 < room
    → terms_of room ts ≡ signed_terms room (term_sign_at ts) ts
by_sign room ts true m e f some = rw (terms_at room ts some, e) refl
by_sign room ts false true e f some = rw (terms_at room ts some, e, f) refl
by_sign room ts false false e f some = rw (terms_at room ts some, e, f) refl

module _ (front : List Term) (room : ℕ) (ts : List Token) (total : Result (List Term × List Token) Fault) (is : with_front front (terms_of room ts) ≡ total) where
  pub terms_full : room ≡ 0 → total ≡ Ok (front, ts)
  unfolding terms_of
  terms_full e = let one : with_front front (terms_of room ts) ≡ Ok (front, ts) = rw e (ap (λ (z : List Term). Ok (z, ts)) (append-nil front)) in sym is ∙ one

  pub terms_end : 0 < room → term_sign_at ts ≡ None → total ≡ Ok (front, ts)
  terms_end some e =
      let one : with_front front (terms_of room ts) ≡ Ok (front, ts) = rw (by_sign room ts _ _ refl refl some, e) (ap (λ (z : List Term). Ok (z, ts)) (append-nil front)) in sym is ∙ one

  pub terms_stop : (e : Stop) (s : Bool) → 0 < room → term_sign_at ts ≡ Some s → Stops e (term_of (sign_of s) (after ts)) → Stops e total
  terms_stop e s some c h = stops_as e (with_front front (terms_of room ts)) total is (rw (by_sign room ts _ _ refl refl some, c) (stops_then e _ _ (stops_then e _ _ h)))

  pub terms_goes : (s : Bool) (t : Term) (mid : List Token) → 0 < room → term_sign_at ts ≡ Some s → term_of (sign_of s) (after ts) ≡ Ok (t, mid)
      → with_front (front ++ t ∷ []) (terms_of (room - 1) mid) ≡ total
  terms_goes s t mid some c e =
      let one : with_front front (terms_of room ts) ≡ with_front (front ++ t ∷ []) (terms_of (room - 1) mid) =
      rw (by_sign room ts _ _ refl refl some, c, e) (front_item front t (terms_of (room - 1) mid)) in
      sym one ∙ is

-- ---- index expressions

indices_at : (room : ℕ) (ts : List Token) → 0 < room
    → indices_of room ts ≡ (index_of ts >>= λ e. cond (begins_symbol (codes ",") e.1) (indices_of (room - 1) (after e.1) >>= λ es. Ok (e.0 ∷ es.0, es.1)) (Ok (e.0 ∷ [], e.1)))
unfolding indices_of
indices_at zero ts h = absurd (omega arith)
indices_at (suc n) ts h = let e : suc n - 1 ≡ n = omega arith in rw e refl

module _ (front : List IndexExpr) (room : ℕ) (ts : List Token) (total : Result (List IndexExpr × List Token) Fault) (is : with_front front (indices_of room ts) ≡ total) where
  stop_by : (n : ℕ) (e : Stop) → Stops e (index_of ts) → Stops e (indices_of n ts)
  unfolding indices_of
  stop_by zero e h = stops_then e _ _ h
  stop_by (suc n) e h = stops_then e _ _ h

  pub indices_stop : (e : Stop) → Stops e (index_of ts) → Stops e total
  indices_stop e h = stops_as e (with_front front (indices_of room ts)) total is (stops_then e _ _ (stop_by room e h))

  pub indices_full : (x : IndexExpr) (mid : List Token) → room ≡ 0 → index_of ts ≡ Ok (x, mid) → total ≡ Ok (front ++ x ∷ [], mid)
  unfolding indices_of
  indices_full x mid z e = let one : with_front front (indices_of room ts) ≡ Ok (front ++ x ∷ [], mid) = rw (z, e) refl in sym is ∙ one

  end_by : (n : ℕ) (x : IndexExpr) (mid : List Token) → index_of ts ≡ Ok (x, mid) → begins_symbol (codes ",") mid ≡ false → indices_of n ts ≡ Ok (x ∷ [], mid)
  unfolding indices_of
  end_by zero x mid e c = rw e refl
  end_by (suc n) x mid e c = rw (e, c) refl

  pub indices_end : (x : IndexExpr) (mid : List Token) → index_of ts ≡ Ok (x, mid) → begins_symbol (codes ",") mid ≡ false → total ≡ Ok (front ++ x ∷ [], mid)
  indices_end x mid e c = let one : with_front front (indices_of room ts) ≡ Ok (front ++ x ∷ [], mid) = rw (end_by room x mid e c) refl in sym is ∙ one

  pub indices_goes : (x : IndexExpr) (mid : List Token) → 0 < room → index_of ts ≡ Ok (x, mid) → begins_symbol (codes ",") mid ≡ true
      → with_front (front ++ x ∷ []) (indices_of (room - 1) (after mid)) ≡ total
  indices_goes x mid some e c =
      let one : with_front front (indices_of room ts) ≡ with_front (front ++ x ∷ []) (indices_of (room - 1) (after mid)) =
      rw (indices_at room ts some, e, c) (front_item front x (indices_of (room - 1) (after mid))) in
      sym one ∙ is

-- ---- chains of comparisons

chain_at : (room : ℕ) (lefts : List IndexExpr) (ts : List Token) → 0 < room
    → chain_of room lefts ts ≡ (relation_of ts >>= λ r. side_of r.1 >>= λ es. cond (is_there (relation_at es.1)) (chain_of (room - 1) es.0 es.1 >>= λ cs. Ok (compared lefts r.0 es.0 ++ cs.0, cs.1)) (Ok (compared lefts r.0 es.0, es.1)))
unfolding chain_of
chain_at zero lefts ts h = absurd (omega arith)
chain_at (suc n) lefts ts h = let e : suc n - 1 ≡ n = omega arith in rw e refl

module _ (front : List Constraint) (room : ℕ) (lefts : List IndexExpr) (ts : List Token) (total : Result (List Constraint × List Token) Fault) (is : with_front front (chain_of room lefts ts) ≡ total) where
  pub chain_full : room ≡ 0 → total ≡ Err (Syntax (length ts))
  unfolding chain_of
  chain_full e = sym is ∙ rw e refl

  pub chain_stop : (e : Stop) → 0 < room → Stops e (relation_of ts) → Stops e total
  chain_stop e some h = stops_as e (with_front front (chain_of room lefts ts)) total is (rw (chain_at room lefts ts some) (stops_then e _ _ (stops_then e _ _ h)))

  pub chain_side_stop : (e : Stop) (r : Relation) (t1 : List Token) → 0 < room → relation_of ts ≡ Ok (r, t1) → Stops e (side_of t1) → Stops e total
  chain_side_stop e r t1 some f h = stops_as e (with_front front (chain_of room lefts ts)) total is (rw (chain_at room lefts ts some, f) (stops_then e _ _ (stops_then e _ _ h)))

  pub chain_end : (r : Relation) (t1 mid : List Token) (es : List IndexExpr) → 0 < room → relation_of ts ≡ Ok (r, t1) → side_of t1 ≡ Ok (es, mid) → is_there (relation_at mid) ≡ false
      → total ≡ Ok (front ++ compared lefts r es, mid)
  chain_end r t1 mid es some f e c =
      let one : with_front front (chain_of room lefts ts) ≡ Ok (front ++ compared lefts r es, mid) = rw (chain_at room lefts ts some, f, e, c) refl in sym is ∙ one

  pub chain_goes : (r : Relation) (t1 mid : List Token) (es : List IndexExpr) → 0 < room → relation_of ts ≡ Ok (r, t1) → side_of t1 ≡ Ok (es, mid) → is_there (relation_at mid) ≡ true
      → with_front (front ++ compared lefts r es) (chain_of (room - 1) es mid) ≡ total
  chain_goes r t1 mid es some f e c =
      let one : with_front front (chain_of room lefts ts) ≡ with_front (front ++ compared lefts r es) (chain_of (room - 1) es mid) =
      rw (chain_at room lefts ts some, f, e, c) (front_items front (compared lefts r es) (chain_of (room - 1) es mid)) in
      sym one ∙ is

-- ---- constraints

constraints_at : (room : ℕ) (ts : List Token) → 0 < room
    → constraints_of room ts ≡ (constraint_of ts >>= λ c. cond (begins_symbol (codes ";") c.1)
    (cond (begins_symbol (codes "}") (after c.1)) (Ok (c.0, after c.1)) (constraints_of (room - 1) (after c.1) >>= λ cs. Ok (c.0 ++ cs.0, cs.1))) (Ok (c.0, c.1)))
unfolding constraints_of
constraints_at zero ts h = absurd (omega arith)
constraints_at (suc n) ts h = let e : suc n - 1 ≡ n = omega arith in rw e refl

abbrev done : {A : Type 0} → A → Result A Fault
done x = Ok x

pub ok_is : {A : Type 0} (x y : A) → done x ≡ done y → x ≡ y
ok_is x y e = cc

-- what a list that was put behind a front is, taken apart
pub behind : {A : Type 0} (front new : List A) (r : Result (List A × List Token) Fault) (mid : List Token) → with_front front r ≡ Ok (new, mid)
    → (xs : List A) × (r ≡ Ok (xs, mid)) × (new ≡ front ++ xs)
behind {A = A} front new (Ok x) mid e =
    let made : List A × List Token = (front ++ x.0, x.1) in
    let told : List A × List Token = (new, mid) in
    let f : made ≡ told = ok_is made told e in
    (x.0, ap (λ (z : List A × List Token). Ok (x.0, z.1)) f, sym (ap (λ (z : List A × List Token). z.0) f))
behind front new (Err f) mid e = absurd cc

pub behind_stop : {A : Type 0} (e : Stop) (front : List A) (r : Result (List A × List Token) Fault) → Stops e (with_front front r) → Stops e r
behind_stop stop.Memory front r h = tt
behind_stop (stop.Fault f) front (Ok x) h = absurd cc
behind_stop (stop.Fault f) front (Err g) h = cc

module _ (front : List Constraint) (room : ℕ) (ts : List Token) (total : Result (List Constraint × List Token) Fault) (is : with_front front (constraints_of room ts) ≡ total) where
  pub constraints_full : room ≡ 0 → total ≡ Err (Syntax (length ts))
  unfolding constraints_of
  constraints_full e = sym is ∙ rw e refl

  pub constraints_stop : (e : Stop) → 0 < room → Stops e (with_front front (constraint_of ts)) → Stops e total
  constraints_stop e some h =
      stops_as e (with_front front (constraints_of room ts)) total is (rw (constraints_at room ts some) (stops_then e _ _ (stops_then e _ _ (behind_stop e front (constraint_of ts) h))))

  pub constraints_end : (new : List Constraint) (mid : List Token) → 0 < room → with_front front (constraint_of ts) ≡ Ok (new, mid) → begins_symbol (codes ";") mid ≡ false → total ≡ Ok (new, mid)
  constraints_end new mid some e c = let (xs, f, w) = behind front new (constraint_of ts) mid e in subst (λ (z : List Constraint). total ≡ Ok (z, mid)) (sym w) (ends xs f)
    where
      ends : (xs : List Constraint) → constraint_of ts ≡ Ok (xs, mid) → total ≡ Ok (front ++ xs, mid)
      ends xs f = let one : with_front front (constraints_of room ts) ≡ Ok (front ++ xs, mid) = rw (constraints_at room ts some, f, c) refl in sym is ∙ one

  pub constraints_closed : (new : List Constraint) (mid : List Token) → 0 < room → with_front front (constraint_of ts) ≡ Ok (new, mid) → begins_symbol (codes ";") mid ≡ true
      → begins_symbol (codes "}") (after mid) ≡ true → total ≡ Ok (new, after mid)
  constraints_closed new mid some e c d = let (xs, f, w) = behind front new (constraint_of ts) mid e in subst (λ (z : List Constraint). total ≡ Ok (z, after mid)) (sym w) (ends xs f)
    where
      ends : (xs : List Constraint) → constraint_of ts ≡ Ok (xs, mid) → total ≡ Ok (front ++ xs, after mid)
      ends xs f = let one : with_front front (constraints_of room ts) ≡ Ok (front ++ xs, after mid) = rw (constraints_at room ts some, f, c, d) refl in sym is ∙ one

  pub constraints_goes : (new : List Constraint) (mid : List Token) → 0 < room → with_front front (constraint_of ts) ≡ Ok (new, mid) → begins_symbol (codes ";") mid ≡ true
      → begins_symbol (codes "}") (after mid) ≡ false → with_front new (constraints_of (room - 1) (after mid)) ≡ total
  constraints_goes new mid some e c d =
      let (xs, f, w) = behind front new (constraint_of ts) mid e in subst (λ (z : List Constraint). with_front z (constraints_of (room - 1) (after mid)) ≡ total) (sym w) (goes xs f)
    where
      goes : (xs : List Constraint) → constraint_of ts ≡ Ok (xs, mid) → with_front (front ++ xs) (constraints_of (room - 1) (after mid)) ≡ total
      goes xs f =
          let one : with_front front (constraints_of room ts) ≡ with_front (front ++ xs) (constraints_of (room - 1) (after mid)) =
          rw (constraints_at room ts some, f, c, d) (front_items front xs (constraints_of (room - 1) (after mid))) in
          sym one ∙ is
