-- What a place brings: the word of its source, widened or cut to the width of the equation, is the word that the equation reads.
use Rattle.std.proofs.Common.{◌≡◌, ℕ, zero, suc, ◌+◌, ◌-◌, ◌%◌, ◌^◌, List, [], ◌∷◌, map, Bool, true, false, refl, sym, ap, subst, ◌∙◌, if◌then◌else◌, nat_lt, arith, Option, Some, None}
use Rattle.std.specs.Prelude.{slice_get, nat_eq}
use Rattle.std.specs.List.{AllByRecursion}
use Rattle.std.proofs.lemmas.Bool.{eqb-true, ltb-true, ltb-false}
use Rattle.av_base.specs.Words.{IsWord, resized as resized_word}
use Rattle.av_base.proofs.Resizing.{resized_same as same_word, resized_up, resized_down}
use Rattle.av_tree.specs.Points.{Point}
use Rattle.av_tree.specs.Values.{Assignment, read_as}
use Rattle.av_flat.specs.Trees.{Variable}
use Rattle.av_flat.specs.Signatures.{Signature, signature}
use Rattle.av_flat.specs.Values.{word_of}
use Rattle.av_net.specs.Meaning.{widened}
use Rattle.av_kinds.specs.Histories.{fitted, resized}
use Rattle.av_history.specs.Widths.{width_of}

equal_test : (i j : ℕ) → i ≡ j → nat_eq i j ≡ true
equal_test i j h = grind arith

pub resized_same : (from to a : ℕ) → from ≡ to → resized from to a ≡ a
resized_same from to a e = ap (λ (b : Bool). if b then a else fitted from to a) (equal_test from to e)

-- a word that is widened by its highest bit, or of which the lowest bits are taken, is the resized word
pub resized_is : (from to a : ℕ) → IsWord from a → resized from to a ≡ resized_word from to a
resized_is from to a word = by_same (nat_eq from to) refl
  where
    by_less : (b : Bool) → nat_lt from to ≡ b → (if b then widened from (to - from) a else a % 2 ^ to) ≡ resized_word from to a
    by_less true less =
        let lt = ltb-true from to less in
        let whole : from + (to - from) ≡ to = omega (arith, lt) in
        sym (subst (λ (k : ℕ). resized_word from k a ≡ widened from (to - from) a) whole (resized_up from (to - from) a word))
    by_less false less =
        let le = ltb-false from to less in
        sym (resized_down from to a (omega (arith, le)) word)

    by_same : (b : Bool) → nat_eq from to ≡ b → (if b then a else fitted from to a) ≡ resized_word from to a
    by_same true same = subst (λ (k : ℕ). a ≡ resized_word from k a) (eqb-true from to same) (sym (same_word from a word))
    by_same false same = by_less (nat_lt from to) refl

-- ---- words of variables

-- the word of the variable's point, as the variable has it
abbrev pub assigned : Assignment → Option Signature → Point → Option ℕ
assigned u None z = None
assigned u (Some v) z = u v.name z

read_is : (from to : ℕ) (o : Option ℕ) (a b : ℕ) → read_as from to o ≡ Some a → o ≡ Some b → a ≡ resized_word from to b
read_is from to None a b read has = absurd cc
read_is from to (Some c) a b read has =
    let brought : resized_word from to c ≡ a = cc in
    let one : c ≡ b = cc in
    sym brought ∙ ap (resized_word from to) one

-- an equation of so many bits reads the variable's word as the place brings it
pub read_word : (vs : List Variable) (u : Assignment) → AllByRecursion (λ (v : Variable). (z : Point) (w : ℕ) → u v.name z ≡ Some w → IsWord v.width w) vs → (bits place : ℕ) (z : Point) (a b : ℕ)
    → word_of bits u (slice_get (map signature vs) place) z ≡ Some a → assigned u (slice_get (map signature vs) place) z ≡ Some b → a ≡ resized (width_of (slice_get vs place)) bits b
read_word [] u words bits place z a b read has = absurd cc
read_word (v ∷ vs) u words bits zero z a b read has = read_is v.width bits (u v.name z) a b read has ∙ sym (resized_is v.width bits b (words.0 z b has))
read_word (v ∷ vs) u words bits (suc place) z a b read has = read_word vs u words.1 bits place z a b read has
