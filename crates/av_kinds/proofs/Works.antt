-- Wires that work: each has its width and the word of its operation.
use Rattle.std.proofs.Common.{◌≡◌, ℕ, suc, ◌+◌, List, [], ◌∷◌, ◌++◌, length, refl, subst, arith, ◌∙◌, Bool, true, false, if◌then◌else◌}
use Rattle.av_base.specs.declared.width.Width.{Width}
use Rattle.av_net.specs.declared.operation.Operand.{Operand}
use Rattle.av_net.specs.declared.operation.Operand.TheVariants.{Name}
use Rattle.av_net.specs.declared.operation.Operation.{Operation}
use Rattle.av_net.specs.declared.operation.Operation.TheVariants.{Plain, Binary, Signed, Choose, Part, Widen}
use Rattle.av_net.specs.Meaning.{Words, Widths, word_of, operand_width, bit, chosen, result_of}
use Rattle.av_net.specs.Sound.{SuitsWidth}
use Rattle.av_kinds.specs.declared.gates.LaneGate.{LaneGate}
use Rattle.av_kinds.specs.Names.{Naming}
use Rattle.av_kinds.specs.inner.Gates.{gate, named_by}
use Rattle.av_kinds.specs.Tops.{one_bit}
use Rattle.av_kinds.specs.inner.Trees.{chosen_by}

abbrev pub Works : Widths → Words → Naming → ℕ → List LaneGate → Type 0
Works widths v name n [] = Unit {0}
Works widths v name n (g ∷ gates) = (v (name n) ≡ result_of widths v g.operation) × (widths (name n) ≡ g.width.bits) × Works widths v name (n + 1) gates

-- the operand has this word, and this width
pub record HasWord (widths : Widths) (v : Words) (w : ℕ) (operand : Operand) (x : ℕ) : Type 0 where
  pub word : word_of v operand ≡ x
  pub width : operand_width widths operand ≡ w

-- the operation gives this word, of this width
pub record Gives (widths : Widths) (v : Words) (w : ℕ) (operation : Operation) (x : ℕ) : Type 0 where
  pub result : result_of widths v operation ≡ x
  pub suits : SuitsWidth widths w operation

-- ---- some of the wires

pub works_front : (widths : Widths) (v : Words) (name : Naming) (n : ℕ) (gates more : List LaneGate) → Works widths v name n (gates ++ more) → Works widths v name n gates
works_front widths v name n [] more works = tt
works_front widths v name n (g ∷ gates) more works = (works.0, works.1, works_front widths v name (n + 1) gates more works.2)

pub works_back : (widths : Widths) (v : Words) (name : Naming) (n : ℕ) (gates more : List LaneGate) → Works widths v name n (gates ++ more) → Works widths v name (n + length gates) more
works_back widths v name n [] more works = let e : n ≡ n + 0 = omega arith in subst (λ k. Works widths v name k more) e works
works_back widths v name n (g ∷ gates) more works =
    let e : n + 1 + length gates ≡ n + suc (length gates) = omega arith in
    subst (λ k. Works widths v name k more) e (works_back widths v name (n + 1) gates more works.2)

-- ---- a wire for an operation

pub named_front : (widths : Widths) (v : Words) (name : Naming) (n : ℕ) (w : Width) (gates : List LaneGate) (root : Operation) → Works widths v name n (named_by name n w gates root).gates → Works widths v name n gates
named_front widths v name n w gates (Plain a) works = works
named_front widths v name n w gates (Binary a s b) works = works_front widths v name n gates (gate w (Binary a s b) ∷ []) works
named_front widths v name n w gates (Signed a s b) works = works_front widths v name n gates (gate w (Signed a s b) ∷ []) works
named_front widths v name n w gates (Choose c a b) works = works_front widths v name n gates (gate w (Choose c a b) ∷ []) works
named_front widths v name n w gates (Part a high low) works = works_front widths v name n gates (gate w (Part a high low) ∷ []) works
named_front widths v name n w gates (Widen a by) works = works_front widths v name n gates (gate w (Widen a by) ∷ []) works

-- the last wire
last_has : (widths : Widths) (v : Words) (name : Naming) (n : ℕ) (w : Width) (gates : List LaneGate) (root : Operation) (x : ℕ) → Gives widths v w.bits root x → Works widths v name n (gates ++ gate w root ∷ []) → HasWord widths v w.bits (Name (name (n + length gates))) x
last_has widths v name n w gates root x gives works =
    let here = works_back widths v name n gates (gate w root ∷ []) works in
    record { word = here.0 ∙ gives.result; width = here.1 }

pub named_has : (widths : Widths) (v : Words) (name : Naming) (n : ℕ) (w : Width) (gates : List LaneGate) (root : Operation) (x : ℕ) → Gives widths v w.bits root x → Works widths v name n (named_by name n w gates root).gates → HasWord widths v w.bits (named_by name n w gates root).operand x
named_has widths v name n w gates (Plain a) x gives works = record { word = gives.result; width = gives.suits }
named_has widths v name n w gates (Binary a s b) x gives works = last_has widths v name n w gates (Binary a s b) x gives works
named_has widths v name n w gates (Signed a s b) x gives works = last_has widths v name n w gates (Signed a s b) x gives works
named_has widths v name n w gates (Choose c a b) x gives works = last_has widths v name n w gates (Choose c a b) x gives works
named_has widths v name n w gates (Part a high low) x gives works = last_has widths v name n w gates (Part a high low) x gives works
named_has widths v name n w gates (Widen a by) x gives works = last_has widths v name n w gates (Widen a by) x gives works

-- ---- a choice by a test

pub chosen_bit : (test : Bool) (a b : ℕ) → chosen (bit test) a b ≡ (if test then a else b)
chosen_bit true a b = refl
chosen_bit false a b = refl

-- by an operand that has the bit
pub choice_gives : (widths : Widths) (v : Words) (w : ℕ) (condition first second : Operand) (test : Bool) (x y : ℕ) → HasWord widths v 1 condition (bit test) → HasWord widths v w first x → HasWord widths v w second y
    → Gives widths v w (Choose condition first second) (if test then x else y)
choice_gives widths v w condition first second test x y c a b =
    record { result = rw (c.word, a.word, b.word) (chosen_bit test x y); suits = (c.width, a.width, b.width) }

pub chosen_gives : (widths : Widths) (v : Words) (name : Naming) (n w : ℕ) (gates : List LaneGate) (operation : Operation) (first second : Operand) (test : Bool) (x y : ℕ)
    → Gives widths v 1 operation (bit test) → HasWord widths v w first x → HasWord widths v w second y
    → Works widths v name n (chosen_by name n gates operation first second).gates
    → Gives widths v w (chosen_by name n gates operation first second).root (if test then x else y)
chosen_gives widths v name n w gates operation first second test x y t a b works =
    choice_gives widths v w (Name (name (n + length gates))) first second test x y (last_has widths v name n one_bit gates operation (bit test) t works) a b
