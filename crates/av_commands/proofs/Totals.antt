-- The sum of words, one more at a time, and a test of the items of a list.
use Rattle.std.proofs.Common.{◌≡◌, ℕ, zero, suc, ◌+◌, ◌*◌, ◌/◌, ◌%◌, ◌^◌, ◌<◌, ◌≤◌, ◌||◌, Bool, true, false, List, [], ◌∷◌, length, take, get_or, map, refl, sym, ap, ◌∙◌, subst, arith}
use Rattle.std.specs.List.{sum, list_any}
use Rattle.std.proofs.Math.Nat.{mod-add-div, add-mul-mod_self_left}
use Rattle.std.proofs.lemmas.List.{take_all}
use Rattle.std.proofs.lemmas.List.Sums.{sum_by_more, sum-map}
use Rattle.av_base.specs.declared.word.Word.{Word}
use Rattle.av_base.specs.Words.{residue}
use Rattle.av_commands.specs.inner.Watching.{bits_of}
use Rattle.av_base.proofs.Truths.{neither}

-- a remainder stands for the number
mod_plus : (s x m : ℕ) → (s % m + x) % m ≡ (s + x) % m
mod_plus s x m =
    let whole = mod-add-div s m in
    let e : s + x ≡ (s % m + x) + m * (s / m) = omega (arith, whole) in
    sym (ap (λ n. n % m) e ∙ add-mul-mod_self_left (s % m + x) m (s / m))

pub total_more : (width t : ℕ) (words : List Word) (i : ℕ) (d : Word) → i < length words → t ≡ residue width (sum (bits_of (take i words)))
    → residue width (t + (get_or words i d).bits) ≡ residue width (sum (bits_of (take (i + 1) words)))
total_more width t words i d lt e =
    let bits : Word → ℕ = λ w. w.bits in
    let more : sum (bits_of (take (i + 1) words)) ≡ sum (bits_of (take i words)) + (get_or words i d).bits =
    sum-map bits (take (i + 1) words) ∙ sum_by_more bits words i d lt ∙ ap (λ n. n + (get_or words i d).bits) (sym (sum-map bits (take i words))) in
    ap (λ n. residue width (n + (get_or words i d).bits)) e ∙ mod_plus (sum (bits_of (take i words))) (get_or words i d).bits (2 ^ width) ∙ ap (residue width) (sym more)

-- ---- items that a test finds

pub any_here : {A X : Type 0} (p : X → Bool) (f : A → X) (xs : List A) (k : ℕ) (x : A) → k < length xs → x ≡ get_or xs k x → p (f x) ≡ true → list_any p (map f xs) ≡ true
any_here p f [] k x lt is found = absurd (omega (arith, lt))
any_here p f (y ∷ xs) zero x lt is found = ap (λ (t : Bool). t || list_any p (map f xs)) (ap (λ z. p (f z)) (sym is) ∙ found)
any_here p f (y ∷ xs) (suc k) x lt is found = ap (λ (t : Bool). p (f y) || t) (any_here p f xs k x (omega (arith, lt)) is found) ∙ or_true (p (f y))
  where
    or_true : (t : Bool) → (t || true) ≡ true
    or_true true = refl
    or_true false = refl

none_past : {A X : Type 0} (p : X → Bool) (f : A → X) (xs : List A) (k : ℕ) (x : A) → k < length xs → x ≡ get_or xs k x → list_any p (map f (take k xs)) ≡ false → p (f x) ≡ false → list_any p (map f (take (suc k) xs)) ≡ false
none_past p f [] k x lt is none other = absurd (omega (arith, lt))
none_past p f (y ∷ xs) zero x lt is none other = ap (λ (t : Bool). t || false) (ap (λ z. p (f z)) (sym is) ∙ other)
none_past p f (y ∷ xs) (suc k) x lt is none other =
    let both = neither (p (f y)) (list_any p (map f (take k xs))) none in
    ap (λ (t : Bool). t || list_any p (map f (take (suc k) xs))) both.0 ∙ none_past p f xs k x (omega (arith, lt)) is both.1 other

pub none_more : {A X : Type 0} (p : X → Bool) (f : A → X) (xs : List A) (k : ℕ) (x : A) → k < length xs → x ≡ get_or xs k x → list_any p (map f (take k xs)) ≡ false → p (f x) ≡ false → list_any p (map f (take (k + 1) xs)) ≡ false
none_more p f xs k x lt is none other =
    let next : suc k ≡ k + 1 = omega arith in
    subst (λ n. list_any p (map f (take n xs)) ≡ false) next (none_past p f xs k x lt is none other)

pub none_at_all : {A X : Type 0} (p : X → Bool) (f : A → X) (xs : List A) (k : ℕ) → length xs ≤ k → list_any p (map f (take k xs)) ≡ false → list_any p (map f xs) ≡ false
none_at_all p f xs k past none = ap (λ ys. list_any p (map f ys)) (sym (take_all k xs past)) ∙ none
