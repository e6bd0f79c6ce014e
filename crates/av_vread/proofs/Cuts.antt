-- What stands before and after a byte.
use Rattle.std.proofs.Common.{◌≡◌, ℕ, suc, ◌+◌, Bool, true, false, cond, not, List, [], ◌∷◌, ◌++◌, length, take, drop, Option, Some, None, refl, sym, ap, subst, ◌∙◌, arith, true≢false}
use Rattle.std.specs.Prelude.{nat_eq, nat_lt}
use Rattle.std.specs.List.{prefix_len, AllByRecursion}
use Rattle.std.proofs.Math.Numerals.{one-add}
use Rattle.std.proofs.lemmas.Bool.{ltb-true, ltb-false, eqb-true}
use Rattle.av_vread.specs.inner.Lines.{is_not, cut}

-- the bytes are no such byte
abbrev pub Without : ℕ → List ℕ → Type 0
Without byte text = AllByRecursion (λ b. is_not byte b ≡ true) text

abbrev onto : ℕ → Option (List ℕ × List ℕ) → Option (List ℕ × List ℕ)
onto b None = None
onto b (Some parts) = Some (b ∷ parts.0, parts.1)

abbrev cut_by : Bool → ℕ → List ℕ → Option (List ℕ × List ℕ)
cut_by t n text = cond t (Some (take n text, drop (n + 1) text)) None

pub less_suc : (n m : ℕ) (t : Bool) → nat_lt n m ≡ t → nat_lt (suc n) (suc m) ≡ t
less_suc n m true e = let lt = ltb-true n m e in grind arith
less_suc n m false e = let le = ltb-false n m e in grind arith

cut_on : (byte b : ℕ) (text : List ℕ) → is_not byte b ≡ true → cut byte (b ∷ text) ≡ onto b (cut byte text)
cut_on byte b text h = rw (h, one-add) (go (nat_lt n (length text)) refl)
  where
    n : ℕ
    n = prefix_len (is_not byte) text

    past : drop (suc n + 1) (b ∷ text) ≡ drop (n + 1) text
    past = let e : suc n + 1 ≡ suc (n + 1) = omega arith in ap (λ m. drop m (b ∷ text)) e

    go : (t : Bool) → nat_lt n (length text) ≡ t → cut_by (nat_lt (suc n) (suc (length text))) (suc n) (b ∷ text) ≡ onto b (cut_by t n text)
    go true e = rw (less_suc n (length text) true e, past) refl
    go false e = rw (less_suc n (length text) false e) refl

cut_here : (byte b : ℕ) (text : List ℕ) → is_not byte b ≡ false → cut byte (b ∷ text) ≡ Some ([], text)
cut_here byte b text h = rw (h, some (length text)) refl
  where
    some : (n : ℕ) → nat_lt 0 (suc n) ≡ true
    some n = grind arith

-- the byte that is not another one
no_other : (byte b : ℕ) → is_not byte b ≡ false → b ≡ byte
no_other byte b h = go (nat_eq b byte) refl h
  where
    go : (t : Bool) → nat_eq b byte ≡ t → not t ≡ false → b ≡ byte
    go true e h = eqb-true b byte e
    go false e h = absurd (true≢false h)

itself : (byte : ℕ) → is_not byte byte ≡ false
itself byte = grind arith

pub cut_gives : (byte : ℕ) (front back : List ℕ) → Without byte front → cut byte (front ++ (byte ∷ back)) ≡ Some (front, back)
cut_gives byte [] back h = cut_here byte byte back (itself byte)
cut_gives byte (b ∷ front) back h = cut_on byte b (front ++ (byte ∷ back)) h.0 ∙ ap (onto b) (cut_gives byte front back h.1)

pub cut_none : (byte : ℕ) (text : List ℕ) → Without byte text → cut byte text ≡ None
cut_none byte [] h = refl
cut_none byte (b ∷ text) h = cut_on byte b text h.0 ∙ ap (onto b) (cut_none byte text h.1)

-- a text that is cut
pub record IsCut (byte : ℕ) (text : List ℕ) (parts : List ℕ × List ℕ) : Type 0 where
  pub whole : text ≡ parts.0 ++ (byte ∷ parts.1)
  pub without : Without byte parts.0

cut_some : (p q : List ℕ × List ℕ) → ◌≡◌ {A = Option (List ℕ × List ℕ)} (Some p) (Some q) → p ≡ q
cut_some p q e = cc

pub cut_is : (byte : ℕ) (text : List ℕ) (parts : List ℕ × List ℕ) → cut byte text ≡ Some parts → IsCut byte text parts
cut_is byte [] parts e = absurd cc
cut_is byte (b ∷ text) parts e = go (is_not byte b) refl (λ p f. cut_is byte text p f)
  where
    more : (r : Option (List ℕ × List ℕ)) → cut byte text ≡ r → is_not byte b ≡ true → onto b r ≡ Some parts → ((p : List ℕ × List ℕ) → cut byte text ≡ Some p → IsCut byte text p) → IsCut byte (b ∷ text) parts
    more None f h e ih = absurd cc
    more (Some p) f h e ih =
        let c = ih p f in
        subst (IsCut byte (b ∷ text)) (cut_some (b ∷ p.0, p.1) parts e) (record { whole = ap (λ z. b ∷ z) c.whole; without = (h, c.without) })

    go : (t : Bool) → is_not byte b ≡ t → ((p : List ℕ × List ℕ) → cut byte text ≡ Some p → IsCut byte text p) → IsCut byte (b ∷ text) parts
    go true h ih = more (cut byte text) refl h (sym (cut_on byte b text h) ∙ e) ih
    go false h ih =
        subst (IsCut byte (b ∷ text)) (cut_some ([], text) parts (sym (cut_here byte b text h) ∙ e))
        (record { whole = ap (λ z. z ∷ text) (no_other byte b h); without = tt })

pub uncut : (byte : ℕ) (text : List ℕ) → cut byte text ≡ None → Without byte text
uncut byte [] e = tt
uncut byte (b ∷ text) e = go (is_not byte b) refl (λ f. uncut byte text f)
  where
    more : (r : Option (List ℕ × List ℕ)) → onto b r ≡ None → r ≡ None
    more None f = refl
    more (Some p) f = absurd cc

    go : (t : Bool) → is_not byte b ≡ t → (cut byte text ≡ None → Without byte text) → Without byte (b ∷ text)
    go true h ih = (h, ih (more (cut byte text) (sym (cut_on byte b text h) ∙ e)))
    go false h ih = absurd (let z : None ≡ Some ([], text) = sym e ∙ cut_here byte b text h in cc)
