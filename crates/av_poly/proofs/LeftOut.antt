-- Trivial rows make no difference to what rows are normalised to.
use Rattle.std.proofs.Common.{◌≡◌, ℕ, zero, suc, ◌<◌, ◌≤◌, ◌+◌, ◌↔◌, ◌⊎◌, inl, inr, arith, ℤ, pos, ◌≤ℤ◌, List, [], ◌∷◌, ◌++◌, append_assoc, length, get_or, take, Bool, true, false, cond, IsTrue, refl, ap, sym, subst, ◌∙◌}
use Rattle.std.specs.List.{All, Any, AllByRecursion}
use Rattle.std.proofs.lemmas.Int.{ints}
use Rattle.std.proofs.lemmas.List.{append-nil, take_more, take_all}
use Rattle.std.proofs.lemmas.List.Elements.{All-from_recursion, recursion_from_All, All-weaker, All-cons, All-head, All-tail, All-push}
use Rattle.av_affine.specs.declared.form.Form.{Form}
use Rattle.av_poly.specs.Normal.{counted, IsConstant, IsNever, IsDivided, Tightens, HasDirection, IsMetBefore, AreNormalised}
use Rattle.av_poly.specs.Points.{IsSmall}
use Rattle.av_poly.specs.inner.Trivial.{IsTrivial, LeavesOut, ended, left, kept, AppendsNontrivial}
use Rattle.av_poly.proofs.Dividing.{not_constant}

-- ---- a row without coefficients

zero_counted : (n : ℕ) (xs : List ℤ) → AllByRecursion (λ x. x ≡ pos 0) xs → AllByRecursion (λ x. x ≡ pos 0) (counted n xs)
zero_counted n [] h = tt
zero_counted zero (x ∷ xs) h = (refl, zero_counted zero xs h.1)
zero_counted (suc n) (x ∷ xs) h = (h.0, zero_counted n xs h.1)

pub no_coefficients : (dim : ℕ) (row : Form) → row.coef ≡ pos 0 ∷ pos 0 ∷ pos 0 ∷ pos 0 ∷ [] → IsConstant dim row
no_coefficients dim row e =
    All-from_recursion (λ x. x ≡ pos 0) (counted dim row.coef) (zero_counted dim row.coef (subst (AllByRecursion (λ x. x ≡ pos 0)) (sym e) (refl, (refl, (refl, (refl, tt))))))

no_direction : (dim : ℕ) (coef : List ℤ) (row : Form) → IsTrivial dim row → HasDirection dim coef row → ⊥
no_direction dim coef row t (divided, is, same) = not_constant dim row divided is t.no_coefficients

-- ---- lists of which trivial rows are left out

pub left_last : (dim : ℕ) (row : Form) {rows some : List Form} → IsTrivial dim row → LeavesOut dim rows some → LeavesOut dim (rows ++ row ∷ []) some
left_last dim row t ended = left t ended
left_last dim row t (left u h) = left u (left_last dim row t h)
left_last dim row t (kept h) = kept (left_last dim row t h)

pub kept_last : (dim : ℕ) (row : Form) {rows some : List Form} → LeavesOut dim rows some → LeavesOut dim (rows ++ row ∷ []) (some ++ row ∷ [])
kept_last dim row ended = kept ended
kept_last dim row (left u h) = left u (kept_last dim row h)
kept_last dim row (kept h) = kept (kept_last dim row h)

all_kept : (dim : ℕ) (rows : List Form) → LeavesOut dim rows rows
all_kept dim [] = ended
all_kept dim (row ∷ rows) = kept (all_kept dim rows)

pub together : (dim : ℕ) {a b c d : List Form} → LeavesOut dim a b → LeavesOut dim c d → LeavesOut dim (a ++ c) (b ++ d)
together dim ended k = k
together dim (left u h) k = left u (together dim h k)
together dim (kept h) k = kept (together dim h k)

-- ---- what holds of some row or of each

any_next : (P : Form → Type 0) (x : Form) (xs : List Form) → Any P xs → Any P (x ∷ xs)
any_next P x xs (k, y, l, e, p) = (suc k, y, omega (arith, l), e, p)

any_of_all : (dim : ℕ) (P : Form → Type 0) {rows some : List Form} → LeavesOut dim rows some → Any P some → Any P rows
any_of_all dim P ended w = w
any_of_all dim P (left {row = row} {rows = rows} t h) w = any_next P row rows (any_of_all dim P h w)
any_of_all dim P (kept h) (zero, y, l, e, p) = (zero, y, omega arith, e, p)
any_of_all dim P (kept {row = row} {rows = rows} h) (suc k, y, l, e, p) = any_next P row rows (any_of_all dim P h (k, y, omega (arith, l), e, p))

any_of_some : (dim : ℕ) (P : Form → Type 0) → ((row : Form) → IsTrivial dim row → P row → ⊥) → {rows some : List Form} → LeavesOut dim rows some → Any P rows → Any P some
any_of_some dim P n ended w = w
any_of_some dim P n (left {row = row} t h) (zero, y, l, e, p) = absurd (n row t (subst P (sym e) p))
any_of_some dim P n (left t h) (suc k, y, l, e, p) = any_of_some dim P n h (k, y, omega (arith, l), e, p)
any_of_some dim P n (kept h) (zero, y, l, e, p) = (zero, y, omega arith, e, p)
any_of_some dim P n (kept {row = row} {some = some} h) (suc k, y, l, e, p) = any_next P row some (any_of_some dim P n h (k, y, omega (arith, l), e, p))

all_of_all : (dim : ℕ) (P : Form → Type 0) → ((row : Form) → IsTrivial dim row → P row) → {rows some : List Form} → LeavesOut dim rows some → All P some → All P rows
all_of_all dim P n {rows = rows} {some = some} h a = All-from_recursion P rows (go h (recursion_from_All P some a))
  where
    go : {rows some : List Form} → LeavesOut dim rows some → AllByRecursion P some → AllByRecursion P rows
    go ended a = tt
    go (left {row = row} t h) a = (n row t, go h a)
    go (kept h) a = (a.0, go h a.1)

pub all_of_some : (dim : ℕ) (P : Form → Type 0) {rows some : List Form} → LeavesOut dim rows some → All P rows → All P some
all_of_some dim P {rows = rows} {some = some} h a = All-from_recursion P some (go h (recursion_from_All P rows a))
  where
    go : {rows some : List Form} → LeavesOut dim rows some → AllByRecursion P rows → AllByRecursion P some
    go ended a = tt
    go (left t h) a = go h a.1
    go (kept h) a = (a.0, go h a.1)

-- ---- the order in which coefficients are met

module _ (dim : ℕ) (a b : Form) where
  abbrev Misses : Form → Type 0
  Misses row = HasDirection dim b.coef row → ⊥

  at_once : (row : Form) (rows : List Form) → HasDirection dim a.coef row → Misses row → IsMetBefore dim (row ∷ rows) a b
  at_once row rows d n = record { count = suc zero; met = (zero, row, omega arith, refl, d); not_met = All-from_recursion Misses (take (suc zero) (row ∷ rows)) (n, none rows) }
    where
      none : (xs : List Form) → AllByRecursion Misses (take zero xs)
      none [] = tt
      none (x ∷ xs) = tt

  further : (row : Form) (rows : List Form) → Misses row → IsMetBefore dim rows a b → IsMetBefore dim (row ∷ rows) a b
  further row rows n m = record {
    count = suc m.count;
    met = any_next (HasDirection dim a.coef) row (take m.count rows) m.met;
    not_met = All-cons Misses row (take m.count rows) n m.not_met;
  }

  met_among_all : {rows some : List Form} → LeavesOut dim rows some → (c : ℕ) → Any (HasDirection dim a.coef) (take c some) → All Misses (take c some) → IsMetBefore dim rows a b
  met_among_all ended c m n = record { count = c; met = m; not_met = n }
  met_among_all (left {row = row} {rows = rows} t h) c m n = further row rows (no_direction dim b.coef row t) (met_among_all h c m n)
  met_among_all (kept h) zero (k, y, l, e, p) n = absurd (omega (arith, l))
  met_among_all (kept {row = row} {rows = rows} {some = some} h) (suc c) (zero, y, l, e, p) n =
      at_once row rows (subst (HasDirection dim a.coef) (sym e) p) (All-head Misses row (take c some) n)
  met_among_all (kept {row = row} {rows = rows} {some = some} h) (suc c) (suc k, y, l, e, p) n =
      further row rows (All-head Misses row (take c some) n) (met_among_all h c (k, y, omega (arith, l), e, p) (All-tail Misses row (take c some) n))

  met_among_some : {rows some : List Form} → LeavesOut dim rows some → (c : ℕ) → Any (HasDirection dim a.coef) (take c rows) → All Misses (take c rows) → IsMetBefore dim some a b
  met_among_some ended c m n = record { count = c; met = m; not_met = n }
  met_among_some (left t h) zero (k, y, l, e, p) n = absurd (omega (arith, l))
  met_among_some (left {row = row} t h) (suc c) (zero, y, l, e, p) n = absurd (no_direction dim a.coef row t (subst (HasDirection dim a.coef) (sym e) p))
  met_among_some (left {row = row} {rows = rows} t h) (suc c) (suc k, y, l, e, p) n = met_among_some h c (k, y, omega (arith, l), e, p) (All-tail Misses row (take c rows) n)
  met_among_some (kept h) zero (k, y, l, e, p) n = absurd (omega (arith, l))
  met_among_some (kept {row = row} {rows = rows} {some = some} h) (suc c) (zero, y, l, e, p) n =
      at_once row some (subst (HasDirection dim a.coef) (sym e) p) (All-head Misses row (take c rows) n)
  met_among_some (kept {row = row} {rows = rows} {some = some} h) (suc c) (suc k, y, l, e, p) n =
      further row some (All-head Misses row (take c rows) n) (met_among_some h c (k, y, omega (arith, l), e, p) (All-tail Misses row (take c rows) n))

-- ---- the same normalised rows

module _ (dim : ℕ) (rows some : List Form) (h : LeavesOut dim rows some) where
  not_never : (row : Form) → IsTrivial dim row → IsNever dim row → ⊥
  not_never row t n = let a = t.holds in let b = n.negative in omega (arith, ints, a, b)

  of_some : (new : List Form) → AreNormalised dim rows new → AreNormalised dim some new
  of_some new (inl (w, e)) = inl (any_of_some dim (IsNever dim) not_never h w, e)
  of_some new (inr (n, s)) = inr (
    all_of_some dim (λ row. IsConstant dim row → pos 0 ≤ℤ row.constant) h n,
    record {
      divided = All-weaker (λ row. Any (λ old. IsDivided dim old row) rows) (λ row. Any (λ old. IsDivided dim old row) some)
          (λ row. any_of_some dim (λ old. IsDivided dim old row) (λ old t d. not_constant dim old row d t.no_coefficients) h) new s.divided;
      least = all_of_some dim (λ row. IsConstant dim row ⊎ Any (Tightens dim row) new) h s.least;
      distinct = s.distinct;
      order = λ i j d l m. let o = s.order i j d l m in met_among_some dim (get_or new i d) (get_or new j d) h o.count o.met o.not_met;
    },
  )

  of_all : (new : List Form) → AreNormalised dim some new → AreNormalised dim rows new
  of_all new (inl (w, e)) = inl (any_of_all dim (IsNever dim) h w, e)
  of_all new (inr (n, s)) = inr (
    all_of_all dim (λ row. IsConstant dim row → pos 0 ≤ℤ row.constant) (λ row t _. t.holds) h n,
    record {
      divided = All-weaker (λ row. Any (λ old. IsDivided dim old row) some) (λ row. Any (λ old. IsDivided dim old row) rows)
          (λ row. any_of_all dim (λ old. IsDivided dim old row) h) new s.divided;
      least = all_of_all dim (λ row. IsConstant dim row ⊎ Any (Tightens dim row) new) (λ row t. inl t.no_coefficients) h s.least;
      distinct = s.distinct;
      order = λ i j d l m. let o = s.order i j d l m in met_among_all dim (get_or new i d) (get_or new j d) h o.count o.met o.not_met;
    },
  )

  pub same_normalised : (new : List Form) → AreNormalised dim rows new ↔ AreNormalised dim some new
  same_normalised new = (of_some new, of_all new)

-- whatever rows stand behind them
pub same_rows : (dim : ℕ) (rows some : List Form) → LeavesOut dim rows some → (more new : List Form) → AreNormalised dim (rows ++ more) new ↔ AreNormalised dim (some ++ more) new
same_rows dim rows some h more new = same_normalised dim (rows ++ more) (some ++ more) (together dim h (all_kept dim more)) new

-- ---- rows that are appended one by one

pub none_appended : (dim : ℕ) (more rows : List Form) → AppendsNontrivial dim (take 0 more) rows rows
none_appended dim [] rows = record { some = []; is = sym (append-nil rows); leaves_out = ended }
none_appended dim (row ∷ more) rows = record { some = []; is = sym (append-nil rows); leaves_out = ended }

pub one_appended : (dim : ℕ) (more rows old new : List Form) (i : ℕ) (d : Form) (trivial : Bool) → i < length more → (IsTrue trivial → IsTrivial dim (get_or more i d)) → new ≡ cond trivial old (old ++ get_or more i d ∷ [])
    → AppendsNontrivial dim (take i more) rows old → AppendsNontrivial dim (take (i + 1) more) rows new
one_appended dim more rows old new i d true l t e h = record {
  some = h.some;
  is = e ∙ h.is;
  leaves_out = subst (λ (rs : List Form). LeavesOut dim rs h.some) (sym (take_more more i d l)) (left_last dim (get_or more i d) (t refl) h.leaves_out);
}
one_appended dim more rows old new i d false l t e h = record {
  some = h.some ++ get_or more i d ∷ [];
  is = e ∙ ap (λ (rs : List Form). rs ++ get_or more i d ∷ []) h.is ∙ append_assoc rows h.some (get_or more i d ∷ []);
  leaves_out = subst (λ (rs : List Form). LeavesOut dim rs (h.some ++ get_or more i d ∷ [])) (sym (take_more more i d l)) (kept_last dim (get_or more i d) h.leaves_out);
}

pub all_appended : (dim : ℕ) (more rows new : List Form) (i : ℕ) → length more ≤ i → AppendsNontrivial dim (take i more) rows new → AppendsNontrivial dim more rows new
all_appended dim more rows new i l h = subst (λ (rs : List Form). AppendsNontrivial dim rs rows new) (take_all i more l) h

pub small_appended : (old new : List Form) (row : Form) (trivial : Bool) → new ≡ cond trivial old (old ++ row ∷ []) → All IsSmall old → IsSmall row → All IsSmall new
small_appended old new row true e h k = subst (All IsSmall) (sym e) h
small_appended old new row false e h k = subst (All IsSmall) (sym e) (All-push IsSmall old row h k)

pub appended_to_none : (dim own : ℕ) (rows more start new : List Form) → own ≡ dim → more ≡ rows → start ≡ [] → AppendsNontrivial own more start new → LeavesOut dim rows new
appended_to_none dim own rows more start new d r none h =
    subst (λ (n : ℕ). LeavesOut n rows new) d
    (subst (λ (rs : List Form). LeavesOut own rs new) r (subst (λ (rs : List Form). LeavesOut own more rs) (sym (h.is ∙ ap (λ (rs : List Form). rs ++ h.some) none)) h.leaves_out))

pub both_appended : (dim own : ℕ) (first second more others start middle new : List Form) → own ≡ dim → more ≡ first → others ≡ second → start ≡ [] → AppendsNontrivial own more start middle
    → AppendsNontrivial own others middle new → LeavesOut dim (first ++ second) new
both_appended dim own first second more others start middle new d f s none h k =
    let one = appended_to_none dim own first more start middle d f none h in
    let other : LeavesOut dim second k.some = subst (λ (n : ℕ). LeavesOut n second k.some) d (subst (λ (rs : List Form). LeavesOut own rs k.some) s k.leaves_out) in
    subst (λ (rs : List Form). LeavesOut dim (first ++ second) rs) (sym k.is) (together dim one other)
