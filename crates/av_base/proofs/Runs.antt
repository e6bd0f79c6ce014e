-- Runs of bytes at the front of a text.
use Rattle.std.proofs.Common.{◌≡◌, ◌≢◌, ℕ, suc, ◌+◌, ◌-◌, ◌<◌, ◌≤◌, get_or, drop-cons, ◌∙◌, Bool, true, false, cond, not, ◌||◌, List, [], ◌∷◌, ◌++◌, length, take, drop, refl, sym, ap, subst, arith, inl, inr, ◌⊎◌, eq-eqb}
use Rattle.std.specs.Prelude.{nat_eq}
use Rattle.std.specs.List.{prefix_len, AllByRecursion}
use Rattle.std.proofs.Math.Numerals.{one-add}
use Rattle.std.proofs.lemmas.Bool.{eqb-true}
use Rattle.std.proofs.lemmas.List.{length-drop}
use Rattle.av_base.specs.Tokens.{is_blank, IsLineEnd}
use Rattle.av_base.specs.Spelling.{is_not_feed}

-- which way a test went
pub chosen : {A : Type 0} (b : Bool) (x y z : A) → cond b x y ≡ z → ((b ≡ true) × (x ≡ z)) ⊎ ((b ≡ false) × (y ≡ z))
chosen true x y z e = inl (refl, e)
chosen false x y z e = inr (refl, e)

-- a run has its bytes
pub run_all : (p : ℕ → Bool) (bytes : List ℕ) → AllByRecursion (λ x. p x ≡ true) (take (prefix_len p bytes) bytes)
run_all p [] = tt
run_all p (b ∷ bytes) = go (p b) refl (run_all p bytes)
  where
    go : (t : Bool) → p b ≡ t → AllByRecursion (λ x. p x ≡ true) (take (prefix_len p bytes) bytes) → AllByRecursion (λ x. p x ≡ true) (take (cond t (1 + prefix_len p bytes) 0) (b ∷ bytes))
    go true e h = rw one-add (e, h)
    go false e h = tt

-- and no less of what begins so
pub run_covers : (p : ℕ → Bool) (front back : List ℕ) → AllByRecursion (λ x. p x ≡ true) front → length front ≤ prefix_len p (front ++ back)
run_covers p [] back h = omega arith
run_covers p (b ∷ front) back h = let ih = run_covers p front back h.1 in rw h.0 (omega arith)

-- what holds at the front of each text holds at each index
pub at_index : {A : Type 0} (P : A → ℕ → Type 0) (read : ℕ → List ℕ → A) → ((b : ℕ) (bytes : List ℕ) → P (read b (b ∷ bytes)) (length (b ∷ bytes)))
    → (bytes : List ℕ) (at : ℕ) → at < length bytes → P (read (get_or bytes at 0) (drop at bytes)) (length bytes - at)
at_index P read front bytes at lt =
    let b = get_or bytes at 0 in
    let here : drop at bytes ≡ b ∷ drop (suc at) bytes = drop-cons bytes at 0 lt in
    let room : length (b ∷ drop (suc at) bytes) ≡ length bytes - at = sym (ap length here) ∙ length-drop at bytes in
    subst (λ (z : List ℕ). P (read b z) (length bytes - at)) (sym here) (subst (λ n. P (read b (b ∷ drop (suc at) bytes)) n) room (front b (drop (suc at) bytes)))

-- ---- up to the end of the line

pub feeds : (bytes : List ℕ) → AllByRecursion (λ x. is_not_feed x ≡ true) bytes → AllByRecursion (λ b. b ≢ 10) bytes
feeds [] h = tt
feeds (b ∷ bytes) h = (λ e. let z = ap not (eq-eqb b 10 e) in cc, feeds bytes h.1)

pub stops_at : (bytes : List ℕ) → IsLineEnd (drop (prefix_len is_not_feed bytes) bytes)
stops_at [] = tt
stops_at (b ∷ bytes) = go (nat_eq b 10) refl (stops_at bytes)
  where
    go : (t : Bool) → nat_eq b 10 ≡ t → IsLineEnd (drop (prefix_len is_not_feed bytes) bytes) → IsLineEnd (drop (cond (not t) (1 + prefix_len is_not_feed bytes) 0) (b ∷ bytes))
    go true e h = eqb-true b 10 e
    go false e h = rw one-add h

pub run_exact : (more rest : List ℕ) → AllByRecursion (λ b. b ≢ 10) more → IsLineEnd rest → prefix_len is_not_feed (more ++ rest) ≡ length more
run_exact [] [] h s = refl
run_exact [] (b ∷ rest) h s = rw s refl
run_exact (b ∷ more) rest h s =
    let e : nat_eq b 10 ≡ false = not_equal b 10 h.0 in
    rw (e, run_exact more rest h.1 s) (omega arith)
  where
    not_equal : (x y : ℕ) → x ≢ y → nat_eq x y ≡ false
    not_equal x y n = go (nat_eq x y) refl
      where
        go : (t : Bool) → nat_eq x y ≡ t → nat_eq x y ≡ false
        go true e = absurd (n (eqb-true x y e))
        go false e = e

-- ---- what holds of each blank holds of a blank

pub blank_or : (b : ℕ) (P : ℕ → Type 0) → is_blank b ≡ true → P 32 → P 9 → P 13 → P 10 → P b
blank_or b P h x y z w = go (nat_eq b 32) (nat_eq b 9) (nat_eq b 13) (nat_eq b 10) refl refl refl refl h
  where
    go : (i j k l : Bool) → nat_eq b 32 ≡ i → nat_eq b 9 ≡ j → nat_eq b 13 ≡ k → nat_eq b 10 ≡ l → (i || j || k || l) ≡ true → P b
    go true j k l e f g o t = subst P (sym (eqb-true b 32 e)) x
    go false true k l e f g o t = subst P (sym (eqb-true b 9 f)) y
    go false false true l e f g o t = subst P (sym (eqb-true b 13 g)) z
    go false false false true e f g o t = subst P (sym (eqb-true b 10 o)) w
    go false false false false e f g o t = absurd (let q : ◌≡◌ {A = Bool} false true = t in cc)
