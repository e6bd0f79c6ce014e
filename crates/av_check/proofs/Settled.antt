-- Miscovered points of variables, and the faults of systems: one at most, and none of a proper system.
use Rattle.std.proofs.Common.{◌≡◌, ◌≢◌, ◌↔◌, ℕ, zero, suc, ◌+◌, ◌<◌, ◌⊎◌, inl, inr, false, true≢false, IsTrue, List, [], ◌∷◌, ◌++◌, length, map, take, drop, take-append-drop, get_or, Option, Some, None, refl, sym, ap, ap₂, subst, ◌∙◌, arith, All}
use Rattle.std.specs.Prelude.{Result, Ok, Err, OnOk, IfErr}
use Rattle.std.proofs.Math.Seq.{drop-cons}
use Rattle.std.proofs.lemmas.List.{length-map, get_or-map, take_more}
use Rattle.std.proofs.lemmas.List.Elements.{All-head, All-push, All-weaker}
use Rattle.av_tree.specs.Trees.{Text}
use Rattle.av_tree.specs.Points.{Point}
use Rattle.av_flat.specs.Trees.{Variable, FlatSystem, right_side}
use Rattle.av_flat.specs.Points.{has}
use Rattle.av_flat.specs.Signatures.{Signature, signatures, is_computed}
use Rattle.av_flat.specs.Counts.{count}
use Rattle.av_flat.specs.Sets.{IsUnbounded}
use Rattle.av_flat.specs.Proper.{IsProper}
use Rattle.av_flat.specs.Quantities.{HasUnbounded}
use Rattle.av_flat.proofs.Sets.{has_is}
use Rattle.av_normal.proofs.Limits.{none_first}
use Rattle.av_check.specs.declared.fault.CheckFault.{CheckFault}
use Rattle.av_check.specs.declared.fault.CheckFault.TheVariants as fault
use Rattle.av_check.specs.declared.verdict.Verdict.TheVariants as verdict
use Rattle.av_check.specs.inner.Verdicts.{IsVerdict}
use Rattle.av_check.specs.inner.Least.{IsLeast}
use Rattle.av_check.specs.inner.Coverage.{IsOff}
use Rattle.av_check.specs.Miscovered.{IsMiscoveredAt, IsLeastMiscovered, IsFirstMiscovered}
use Rattle.av_check.specs.Blame.{Blamed, blamed, named}
use Rattle.av_check.specs.CheckFaults.{IsFaultOf, IsFault}
use Rattle.av_check.specs.inner.Premises.{HasPremises, HavePremises, HasNoneMiscovered}
use Rattle.av_check.proofs.Lexicographic.{least_same, same_point}
use Rattle.av_base.proofs.Lists.{same_head, same_tail, all_parts}

-- ---- one variable

module _ (vs : List Signature) (v w : Variable) (r : HasPremises vs v w) (computed : IsTrue (is_computed v.kind)) where
  off_is_miscovered : (z : Point) → IsOff v.domain (map (λ p. p.domain) w.pieces) z ↔ IsMiscoveredAt vs v z
  off_is_miscovered z = (
    (λ h. record { computed = computed; declared = (has_is v.domain z).1 h.0; count = λ e. h.1 (sym (r.same z h.0) ∙ e) }),
    (λ h. let k = (has_is v.domain z).0 h.declared in (k, λ e. h.count (r.same z k ∙ e))),
  )

  pub least_is_miscovered : (z : Point) → IsLeast (IsOff v.domain (map (λ p. p.domain) w.pieces)) (Some z) → IsLeastMiscovered vs v z
  least_is_miscovered z h =
      let k = least_same (IsOff v.domain (map (λ p. p.domain) w.pieces)) (IsMiscoveredAt vs v) off_is_miscovered (Some z) h in
      record { wrong = k.0; least = k.1 }

  pub none_is_miscovered : IsLeast (IsOff v.domain (map (λ p. p.domain) w.pieces)) None → HasNoneMiscovered vs v
  none_is_miscovered h = least_same (IsOff v.domain (map (λ p. p.domain) w.pieces)) (IsMiscoveredAt vs v) off_is_miscovered None h

pub input_is_fine : (vs : List Signature) (v : Variable) → is_computed v.kind ≡ false → HasNoneMiscovered vs v
input_is_fine vs v e z h = true≢false (sym h.computed ∙ e)

two_words : (n : ℕ) → (n ≡ 1 → ⊥) → (n ≡ 0 → ⊥) → 1 < n
two_words zero h k = absurd (k refl)
two_words (suc zero) h k = absurd (h refl)
two_words (suc (suc n)) h k = omega arith

uncovered : (vs : List Signature) (v : Variable) (z : Point) (name : Text) (outside : Option (Text × Point)) (blame : Option Blamed) → IsLeastMiscovered vs v z → name ≡ v.name → count vs (right_side v) z ≡ 0
    → blame ≡ blamed vs (right_side v) z → outside ≡ named vs blame → IsFaultOf vs v (fault.Uncovered name z outside)
uncovered vs v z name outside blame h e n b o = (h, e, n, o ∙ ap (named vs) b)

pub judged_counted : (vs : List Signature) (v : Variable) (z : Point) (name : Text) → IsLeastMiscovered vs v z → name ≡ v.name → IsVerdict vs (right_side v) z verdict.Counted → IsFaultOf vs v (fault.TwoBranches name z)
judged_counted vs v z name h e k = (h, e, two_words (count vs (right_side v) z) h.wrong.count k)

pub judged_missing : (vs : List Signature) (v : Variable) (z : Point) (name : Text) (outside : Option (Text × Point)) (blame : Option Blamed) → IsLeastMiscovered vs v z → name ≡ v.name
    → IsVerdict vs (right_side v) z (verdict.Missing blame) → outside ≡ named vs blame → IsFaultOf vs v (fault.Uncovered name z outside)
judged_missing vs v z name outside blame h e k o = uncovered vs v z name outside blame h e k.0 k.1 o

-- ---- all variables

pub ready_size : (vs : List Signature) (xs ys : List Variable) → HavePremises vs xs ys → length xs ≡ length ys
ready_size vs [] [] h = refl
ready_size vs [] (y ∷ ys) h = absurd h
ready_size vs (x ∷ xs) [] h = absurd h
ready_size vs (x ∷ xs) (y ∷ ys) h = ap suc (ready_size vs xs ys h.1)

pub ready_at : (vs : List Signature) (xs ys : List Variable) (k : ℕ) (d e : Variable) → k < length xs → HavePremises vs xs ys → HasPremises vs (get_or xs k d) (get_or ys k e)
ready_at vs [] ys k d e l h = absurd (omega (arith, l))
ready_at vs (x ∷ xs) [] k d e l h = absurd h
ready_at vs (x ∷ xs) (y ∷ ys) zero d e l h = h.0
ready_at vs (x ∷ xs) (y ∷ ys) (suc k) d e l h = ready_at vs xs ys k d e (omega (arith, l)) h.1

pub ready_mapped : {X : Type 0} (f : X → Variable) (vs : List Signature) (xs ys : List X) (k : ℕ) (x y : X) → k < length xs → x ≡ get_or xs k x → y ≡ get_or ys k y → HavePremises vs (map f xs) (map f ys) → HasPremises vs (f x) (f y)
ready_mapped f vs xs ys k x y l e g h =
    let n = length-map xs f in
    let m = length-map ys f in
    let size = ready_size vs (map f xs) (map f ys) h in
    let a : get_or (map f xs) k (f x) ≡ f x = get_or-map f xs k x (f x) l ∙ ap f (sym e) in
    let b : get_or (map f ys) k (f y) ≡ f y = get_or-map f ys k y (f y) (omega (arith, l, n, m, size)) ∙ ap f (sym g) in
    subst (λ (v : Variable). HasPremises vs v (f y)) a (subst (λ (w : Variable). HasPremises vs (get_or (map f xs) k (f x)) w) b (ready_at vs (map f xs) (map f ys) k (f x) (f y) (omega (arith, l, n)) h))

pub fine_more : {X : Type 0} (f : X → Variable) (vs : List Signature) (xs : List X) (k : ℕ) (x : X) → k < length xs → x ≡ get_or xs k x → All (HasNoneMiscovered vs) (map f (take k xs)) → HasNoneMiscovered vs (f x) → All (HasNoneMiscovered vs) (map f (take (k + 1) xs))
fine_more f vs xs k x l e h n =
    let taken : map f (take (k + 1) xs) ≡ map f (take k xs) ++ f x ∷ [] = ap (λ ys. map f ys) (take_more xs k x l ∙ ap (λ y. take k xs ++ y ∷ []) (sym e)) ∙ pushed f (take k xs) x in
    subst (All (HasNoneMiscovered vs)) (sym taken) (All-push (HasNoneMiscovered vs) (map f (take k xs)) (f x) h n)
  where
    pushed : {X : Type 0} (f : X → Variable) (xs : List X) (x : X) → map f (xs ++ x ∷ []) ≡ map f xs ++ f x ∷ []
    pushed f [] x = refl
    pushed f (y ∷ xs) x = ap (λ ys. f y ∷ ys) (pushed f xs x)

first_miscovered : (s : FlatSystem) (v : Variable) (before after : List Variable) (z : Point) → s.variables ≡ before ++ v ∷ after → All (HasNoneMiscovered (signatures s)) before → IsLeastMiscovered (signatures s) v z → IsFirstMiscovered s v z
first_miscovered s v before after z e h least = record {
  first = record {
    before = before;
    after = after;
    is = e;
    not_before = All-weaker (HasNoneMiscovered (signatures s)) (λ y. ((x : Point) × IsMiscoveredAt (signatures s) y x) → ⊥) (λ y k p. k p.0 p.1) before h;
    here = (z, least.wrong);
  };
  least = least;
}

lifted : (s : FlatSystem) (v : Variable) (before after : List Variable) (f : CheckFault) → s.variables ≡ before ++ v ∷ after → All (HasNoneMiscovered (signatures s)) before → IsFaultOf (signatures s) v f → IsFault s f
lifted s v before after (fault.Uncovered name z outside) e h k = (v, first_miscovered s v before after z e h k.0, k)
lifted s v before after (fault.TwoBranches name z) e h k = (v, first_miscovered s v before after z e h k.0, k)
lifted s v before after fault.Memory e h k = tt

pub fault_found : {X : Type 0} (g : X → Variable) (s : FlatSystem) (xs : List X) (k : ℕ) (x : X) (f : CheckFault) → s.variables ≡ map g xs → k < length xs → x ≡ get_or xs k x
    → All (HasNoneMiscovered (signatures s)) (map g (take k xs)) → IsFaultOf (signatures s) (g x) f → IsFault s f
fault_found g s xs k x f e l p h i = lifted s (g x) (map g (take k xs)) (map g (drop (suc k) xs)) f (e ∙ parted xs k x l p) h i
  where
    appended : (xs ys : List _) → map g (xs ++ ys) ≡ map g xs ++ map g ys
    appended [] ys = refl
    appended (y ∷ xs) ys = ap (λ zs. g y ∷ zs) (appended xs ys)

    parted : (xs : List _) (k : ℕ) (x : _) → k < length xs → x ≡ get_or xs k x → map g xs ≡ map g (take k xs) ++ g x ∷ map g (drop (suc k) xs)
    parted xs k x l p =
        ap (map g) (sym (take-append-drop k xs)) ∙ appended (take k xs) (drop k xs)
        ∙ ap (λ zs. map g (take k xs) ++ map g zs) (drop-cons xs k x l ∙ ap (λ y. y ∷ drop (suc k) xs) (sym p))

-- ---- proper systems

one_word : (n : ℕ) → ((n ≡ 1 → ⊥) → ⊥) → n ≡ 1
one_word zero h = absurd (h (λ e. omega (arith, e)))
one_word (suc zero) h = refl
one_word (suc (suc n)) h = absurd (h (λ e. omega (arith, e)))

pub proper_where_fine : (s : FlatSystem) → ((name : Text) → HasUnbounded s name → ⊥) → All (HasNoneMiscovered (signatures s)) s.variables → IsProper s
proper_where_fine s ends h = record {
  bounded = none_first (λ v. IsUnbounded v.domain) s.variables (λ v first. ends v.name (record { variable = v; first = first; name_is = refl }));
  counted = λ k d l c z p. one_word (count (signatures s) (right_side (get_or s.variables k d)) z) (λ n. h k d l z (record { computed = c; declared = p; count = n }));
}

at_member : {X : Type 0} (P : X → Type 0) (xs before after : List X) (x : X) → xs ≡ before ++ x ∷ after → All P xs → P x
at_member P xs before after x e h = All-head P x after (all_parts P before (x ∷ after) (subst (All P) e h)).1

not_miscovered : (s : FlatSystem) (v : Variable) (z : Point) → IsProper s → IsFirstMiscovered s v z → ⊥
not_miscovered s v z p h =
    let P : Variable → Type 0 = λ u. IsTrue (is_computed u.kind) → (y : Point) → IsTrue (has u.domain y) → count (signatures s) (right_side u) y ≡ 1 in
    h.least.wrong.count (at_member P s.variables h.first.before h.first.after v h.first.is p.counted h.least.wrong.computed z h.least.wrong.declared)

pub no_fault : (s : FlatSystem) (f : CheckFault) → IsProper s → IsFault s f → f ≡ fault.Memory
no_fault s (fault.Uncovered name z outside) p h = absurd (not_miscovered s h.0 z p h.1)
no_fault s (fault.TwoBranches name z) p h = absurd (not_miscovered s h.0 z p h.1)
no_fault s fault.Memory p h = refl

-- ---- one fault

pub first_is_one : {X : Type 0} (P : X → Type 0) (b a c d : List X) (x y : X) → b ++ x ∷ a ≡ c ++ y ∷ d → All (λ u. P u → ⊥) b → P x → All (λ u. P u → ⊥) c → P y → x ≡ y
first_is_one P [] a [] d x y e h p k q = same_head x y a d e
first_is_one P [] a (u ∷ c) d x y e h p k q = absurd (All-head (λ v. P v → ⊥) u c k (subst P (same_head x u a (c ++ y ∷ d) e) p))
first_is_one P (u ∷ b) a [] d x y e h p k q = absurd (All-head (λ v. P v → ⊥) u b h (subst P (sym (same_head u y (b ++ x ∷ a) d e)) q))
first_is_one P (u ∷ b) a (w ∷ c) d x y e h p k q =
    first_is_one P b a c d x y (same_tail u w (b ++ x ∷ a) (c ++ y ∷ d) e) (λ i v l. h (suc i) v (omega (arith, l))) p (λ i v l. k (suc i) v (omega (arith, l))) q

same_first : (s : FlatSystem) (v w : Variable) (y z : Point) → IsFirstMiscovered s v y → IsFirstMiscovered s w z → v ≡ w
same_first s v w y z h k =
    first_is_one (λ u. (x : Point) × IsMiscoveredAt (signatures s) u x) h.first.before h.first.after k.first.before k.first.after v w (sym h.first.is ∙ k.first.is)
    h.first.not_before h.first.here k.first.not_before k.first.here

same_least : (s : FlatSystem) (v w : Variable) (y z : Point) → IsFirstMiscovered s v y → IsFirstMiscovered s w z → y ≡ z
same_least s v w y z h k =
    let other = subst (λ (u : Variable). IsLeastMiscovered (signatures s) u z) (sym (same_first s v w y z h k)) k.least in
    same_point y z (h.least.least z other.wrong) (other.least y h.least.wrong)

same_count : (s : FlatSystem) (v w : Variable) (y z : Point) → IsFirstMiscovered s v y → IsFirstMiscovered s w z → count (signatures s) (right_side v) y ≡ count (signatures s) (right_side w) z
same_count s v w y z h k = ap₂ (λ u x. count (signatures s) (right_side u) x) (same_first s v w y z h k) (same_least s v w y z h k)

pub one_fault : (s : FlatSystem) (f g : CheckFault) → IsFault s f → IsFault s g → f ≢ fault.Memory → (f ≡ g) ⊎ (g ≡ fault.Memory)
one_fault s f fault.Memory h k n = inr refl
one_fault s fault.Memory (fault.Uncovered name z outside) h k n = absurd (n refl)
one_fault s fault.Memory (fault.TwoBranches name z) h k n = absurd (n refl)
one_fault s (fault.TwoBranches a y) (fault.TwoBranches b z) h k n =
    inl (ap₂ (λ (name : Text) (x : Point). fault.TwoBranches name x) (h.2.1 ∙ ap (λ u. u.name) (same_first s h.0 k.0 y z h.1 k.1) ∙ sym k.2.1) (same_least s h.0 k.0 y z h.1 k.1))
one_fault s (fault.Uncovered a y o) (fault.Uncovered b z q) h k n =
    let v = same_first s h.0 k.0 y z h.1 k.1 in
    let p = same_least s h.0 k.0 y z h.1 k.1 in
    let blame = ap₂ (λ u x. named (signatures s) (blamed (signatures s) (right_side u) x)) v p in
    let outside : o ≡ q = h.2.3 ∙ blame ∙ sym k.2.3 in
    let name : a ≡ b = h.2.1 ∙ ap (λ u. u.name) v ∙ sym k.2.1 in
    inl (ap₂ (λ (m : Text) (x : Point). fault.Uncovered m x o) name p ∙ ap (λ r. fault.Uncovered b z r) outside)
one_fault s (fault.Uncovered a y o) (fault.TwoBranches b z) h k n =
    let same = same_count s h.0 k.0 y z h.1 k.1 in
    let none = h.2.2 in
    let two = k.2.2 in
    absurd (omega (arith, same, none, two))
one_fault s (fault.TwoBranches a y) (fault.Uncovered b z q) h k n =
    let same = same_count s h.0 k.0 y z h.1 k.1 in
    let two = h.2.2 in
    let none = k.2.2 in
    absurd (omega (arith, same, none, two))

pub refuses : (s : FlatSystem) (r : Result (Unit {0}) CheckFault) → OnOk r (IsProper s) → IfErr r (IsFault s) → (f : CheckFault) → IsFault s f → f ≢ fault.Memory → (r ≡ Err f) ⊎ (r ≡ Err fault.Memory)
refuses s (Ok u) p w f h n = absurd (n (no_fault s f p h))
refuses s (Err g) p w f h n = elim (one_fault s f g h w n) [ inl e ↦ inl (ap Err (sym e)) | inr e ↦ inr (ap Err e) ]

pub complete : (s : FlatSystem) (r : Result (Unit {0}) CheckFault) → IfErr r (IsFault s) → IsProper s → IfErr r (λ f. f ≡ fault.Memory)
complete s (Ok u) w p = tt
complete s (Err g) w p = no_fault s g p w

pub found_at : (s : FlatSystem) (width : ℕ) (r : Result (Unit {0}) CheckFault) → s ≡ record { width = width; variables = s.variables }
    → IfErr r (λ f. (w : ℕ) → IsFault (record { width = w; variables = s.variables }) f) → IfErr r (IsFault s)
found_at s width (Ok u) e h = tt
found_at s width (Err g) e h = subst (λ (x : FlatSystem). IsFault x g) (sym e) (h width)
