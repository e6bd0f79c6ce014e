-- The wires of a choice have the word that is chosen.
use Rattle.std.proofs.Common.{◌≡◌, ℕ, ◌+◌, ◌-◌, ◌≤◌, ◌/◌, ◌%◌, ◌^◌, List, [], ◌∷◌, length, refl, sym, subst, arith, ◌∙◌, Bool, true, false, if◌then◌else◌, ◌&&◌}
use Rattle.std.specs.Prelude.{nat_le, nat_lt, nat_eq, bit_and}
use Rattle.av_base.specs.declared.width.Width.{Width}
use Rattle.av_net.specs.declared.operation.Operand.{Operand}
use Rattle.av_net.specs.declared.operation.Operand.TheVariants.{Name, Literal}
use Rattle.av_net.specs.declared.operation.Operation.TheVariants.{Part, Widen}
use Rattle.av_net.specs.Meaning.{Words, Widths, word_of, operand_width, bit, widened, bits_of}
use Rattle.av_kinds.specs.Names.{Naming}
use Rattle.av_kinds.specs.inner.Gates.{Built, Named, named, built}
use Rattle.av_kinds.specs.Tops.{one_bit}
use Rattle.av_kinds.specs.declared.choice.Guard.{Guard}
use Rattle.av_kinds.specs.declared.choice.Guard.TheVariants.{UpTo, Within}
use Rattle.av_kinds.specs.declared.choice.Arm.{Arm}
use Rattle.av_kinds.specs.declared.choice.Tap.{Tap}
use Rattle.av_kinds.specs.Histories.{fitted}
use Rattle.av_kinds.specs.inner.Choices.{holds_in, guard_built, either_built, tapped, tapped_by, options_built, tap_built, fitting, fit_built, tap_value}
use Rattle.av_kinds.proofs.Works.{Works, HasWord, Gives, works_front, works_back, named_front, named_has, choice_gives}

-- the bounds have the counter's width
abbrev pub FitsSpan : Widths → ℕ → Guard → Type 0
FitsSpan widths w (UpTo last) = operand_width widths last ≡ w
FitsSpan widths w (Within first last) = (operand_width widths first ≡ w) × (operand_width widths last ≡ w)

both_bits : (p q : Bool) → bit_and (bit p) (bit q) ≡ bit (p && q)
both_bits true true = refl
both_bits true false = refl
both_bits false true = refl
both_bits false false = refl

guard_gives : (widths : Widths) (v : Words) (name : Naming) (n w c : ℕ) (counter : Operand) (guard : Guard) → HasWord widths v w counter c → FitsSpan widths w guard
    → Works widths v name n (guard_built name n counter guard).gates → Gives widths v 1 (guard_built name n counter guard).root (bit (holds_in v c guard))
guard_gives widths v name n w c counter (UpTo last) count fits works = record { result = rw count.word refl; suits = (count.width ∙ sym fits, refl) }
guard_gives widths v name n w c counter (Within first last) count fits works =
    let p = nat_le (word_of v first) c in
    let q = nat_le c (word_of v last) in
    let low : v (name n) ≡ bit p = rw count.word at works.0 in
    let high : v (name (n + 1)) ≡ bit q = rw count.word at works.2.0 in
    record { result = rw (low, high) (both_bits p q); suits = (works.1 ∙ sym works.2.1, works.1) }

pub either_gives : (widths : Widths) (v : Words) (name : Naming) (n w cw c : ℕ) (counter : Operand) (guard : Guard) (first second : Named) (x y : ℕ)
    → HasWord widths v cw counter c → FitsSpan widths cw guard → HasWord widths v w first.operand x → HasWord widths v w second.operand y
    → Works widths v name n (either_built name n counter guard first second).gates
    → Gives widths v w (either_built name n counter guard first second).root (if holds_in v c guard then x else y)
either_gives widths v name n w cw c counter guard first second x y count fits a b works =
    let m = n + length second.gates + length first.gates in
    let test = guard_built name m counter guard in
    let after = works_back widths v name n second.gates _ works in
    let here = works_back widths v name (n + length second.gates) first.gates _ after in
    let t = guard_gives widths v name m cw c counter guard count fits (named_front widths v name m one_bit test.gates test.root here) in
    choice_gives widths v w (named name m one_bit test).operand first.operand second.operand (holds_in v c guard) x y (named_has widths v name m one_bit test.gates test.root (bit (holds_in v c guard)) t here) a b

-- ---- taps

abbrev pub FitOptions : Widths → ℕ → ℕ → List Arm → Type 0
FitOptions widths w cw [] = Unit {0}
FitOptions widths w cw (o ∷ options) = FitsSpan widths cw o.guard × (operand_width widths o.operand ≡ w) × FitOptions widths w cw options

-- an operand that is a name
abbrev pub IsNamed : Operand → Type 0
IsNamed (Name name) = Unit {0}
IsNamed (Literal width value) = ⊥

abbrev pub AreNamed : List Arm → Type 0
AreNamed [] = Unit {0}
AreNamed (o ∷ options) = IsNamed o.operand × AreNamed options

pub record FitsTap (widths : Widths) (cw : ℕ) (tap : Tap) : Type 0 where
  pub arms : FitOptions widths tap.width.bits cw tap.arms
  pub otherwise : operand_width widths tap.otherwise ≡ tap.width.bits
  pub named : IsNamed tap.otherwise

word_of_if : (v : Words) (test : Bool) (a b : Operand) → (if test then word_of v a else word_of v b) ≡ word_of v (if test then a else b)
word_of_if v true a b = refl
word_of_if v false a b = refl

pub options_give : (widths : Widths) (v : Words) (name : Naming) (w : Width) (cw c : ℕ) (counter : Operand) → HasWord widths v cw counter c → (n : ℕ) (otherwise : Operand) (options : List Arm)
    → operand_width widths otherwise ≡ w.bits → FitOptions widths w.bits cw options → Works widths v name n (options_built name w counter n otherwise options).gates
    → Gives widths v w.bits (options_built name w counter n otherwise options).root (word_of v (tapped_by v c otherwise options))
options_give widths v name w cw c counter count n otherwise [] last fits works = record { result = refl; suits = last }
options_give widths v name w cw c counter count n otherwise (o ∷ options) last fits works =
    let rest = options_built name w counter n otherwise options in
    let second = named name n w rest in
    let first : Named = record { gates = []; operand = o.operand } in
    let y = word_of v (tapped_by v c otherwise options) in
    let front : Works widths v name n second.gates = works_front widths v name n second.gates _ works in
    let ih = options_give widths v name w cw c counter count n otherwise options last fits.2 (named_front widths v name n w rest.gates rest.root front) in
    let a : HasWord widths v w.bits o.operand (word_of v o.operand) = record { word = refl; width = fits.1 } in
    subst (λ x. Gives widths v w.bits (either_built name n counter o.guard first second).root x) (word_of_if v (holds_in v c o.guard) o.operand (tapped_by v c otherwise options))
    (either_gives widths v name n w.bits cw c counter o.guard first second (word_of v o.operand) y count fits.0 a (named_has widths v name n w rest.gates rest.root y ih front) works)

tap_gives : (widths : Widths) (v : Words) (name : Naming) (cw c : ℕ) (counter : Operand) → HasWord widths v cw counter c → (n : ℕ) (tap : Tap) → FitsTap widths cw tap
    → Works widths v name n (tap_built name counter n tap).gates → Gives widths v tap.width.bits (tap_built name counter n tap).root (word_of v (tapped v c tap))
tap_gives widths v name cw c counter count n tap fits works = options_give widths v name tap.width cw c counter count n tap.otherwise tap.arms fits.otherwise fits.arms works

-- ---- words of another width

-- the operand of a tap is a name
choice_named : (name : Naming) (n : ℕ) (counter : Operand) (w : Width) (guard : Guard) (first second : Named) → IsNamed (named name n w (either_built name n counter guard first second)).operand
choice_named name n counter w guard first second = tt

pub tap_named : (name : Naming) (n : ℕ) (counter : Operand) (w : Width) (otherwise : Operand) (options : List Arm) → IsNamed otherwise → IsNamed (named name n w (options_built name w counter n otherwise options)).operand
tap_named name n counter w otherwise [] h = h
tap_named name n counter w otherwise (o ∷ options) h = tt

lowest : (to a : ℕ) → 1 ≤ to → bits_of (to - 1) 0 a ≡ a % 2 ^ to
lowest to a h = let e : to - 1 + 1 - 0 ≡ to = omega (arith, h) in let d : a / 2 ^ 0 ≡ a = grind arith in rw (e, d) refl

fitting_gives : (widths : Widths) (v : Words) (from to x : ℕ) (a : Operand) → IsNamed a → 1 ≤ to → (nat_eq from to ≡ false) → HasWord widths v from a x → Gives widths v to (fitting from to a) (fitted from to x)
fitting_gives widths v from to x (Literal width value) h some differs has = absurd h
fitting_gives widths v from to x (Name name) h some differs has = by_case (nat_lt from to) refl
  where
    by_case : (test : Bool) → nat_lt from to ≡ test → Gives widths v to (if test then Widen name (to - from) else Part name (to - 1) 0) (if test then widened from (to - from) x else x % 2 ^ to)
    by_case true e = record { result = rw (has.word, has.width) refl; suits = rw has.width (grind arith) }
    by_case false e = record { result = rw has.word (lowest to x some); suits = (grind arith, omega (arith, some)) }

pub fit_gives : (widths : Widths) (v : Words) (name : Naming) (w : Width) (cw c : ℕ) (counter : Operand) → HasWord widths v cw counter c → (n : ℕ) (tap : Tap) → FitsTap widths cw tap
    → Works widths v name n (fit_built name w counter n tap).gates → Gives widths v w.bits (fit_built name w counter n tap).root (tap_value w.bits v c tap)
fit_gives widths v name w cw c counter count n tap fits = by_case (nat_eq tap.width.bits w.bits) refl
  where
    b : Built
    b = tap_built name counter n tap

    a : Named
    a = named name n tap.width b

    by_case : (same : Bool) → nat_eq tap.width.bits w.bits ≡ same
        → Works widths v name n (if same then b else built a.gates (fitting tap.width.bits w.bits a.operand)).gates
        → Gives widths v w.bits (if same then b else built a.gates (fitting tap.width.bits w.bits a.operand)).root (if same then word_of v (tapped v c tap) else fitted tap.width.bits w.bits (word_of v (tapped v c tap)))
    by_case true e works = let same : tap.width.bits ≡ w.bits = grind arith in subst (λ k. Gives widths v k b.root (word_of v (tapped v c tap))) same (tap_gives widths v name cw c counter count n tap fits works)
    by_case false e works =
        let inner = named_front widths v name n tap.width b.gates b.root works in
        let has = named_has widths v name n tap.width b.gates b.root _ (tap_gives widths v name cw c counter count n tap fits inner) works in
        fitting_gives widths v tap.width.bits w.bits _ a.operand (tap_named name n counter tap.width tap.otherwise tap.arms fits.named) w.least e has
