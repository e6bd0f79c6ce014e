-- Points without a word, sought in order.
use Rattle.std.proofs.Common.{◌≡◌, ℕ, ℤ, ◌+◌, ◌<◌, ◌≤◌, Bool, true, false, not, List, Option, Some, None, refl, sym, ap, ◌∙◌, subst, arith, inl, inr, true≢false}
use Rattle.std.proofs.lemmas.Bool.{cases_lt}
use Rattle.std.specs.Prelude.{◌⊎◌, IsSome, IsTrue, slice_get, IfNone, IfSome, is_some}
use Rattle.av_affine.specs.Numbers.{AtMost}
use Rattle.av_poly.specs.Points.{Set, Has}
use Rattle.av_poly.specs.Search.{IsNotAfter, IsBetween}
use Rattle.av_tree.specs.Points.{Point}
use Rattle.av_flat.specs.Order.{IsBefore}
use Rattle.av_data.specs.Inputs.{word_among}
use Rattle.av_data.specs.inner.Walks.{IsNext, IsLast}
use Rattle.av_flat.specs.Trees.{Variable, FlatSystem}
use Rattle.av_flat.specs.Signatures.{is_input, is_computed}
use Rattle.av_data.specs.inner.ReadData.{AreWhole, IsMissingAt}
use Rattle.av_data.proofs.OneData.{before_cases}
use Rattle.av_data.proofs.Walked.{not_after, left_behind, fewer_none, fewer_left}
use Rattle.av_base.proofs.Lists.{some_is}

abbrev Words : Type 0
Words = List ((ℕ × Point) × ℕ)

-- each point of the set before this one has a word
abbrev pub ToldBefore : Words → ℕ → Set → Point → Type 0
ToldBefore words place set z = (y : Point) → Has set y → IsBefore y z → IsSome (word_among words place y)

abbrev pub ToldAll : Words → ℕ → Set → Type 0
ToldAll words place set = (y : Point) → Has set y → IsSome (word_among words place y)

-- the walk has come to this point, or through all
abbrev pub IsReached : Words → ℕ → Set → Option Point → Type 0
IsReached words place set None = ToldAll words place set
IsReached words place set (Some z) = Has set z × ToldBefore words place set z

pub first_reached : (words : Words) (place : ℕ) (set : Set) (low high : List ℤ) (o : Option Point) → ((y : Point) → Has set y → IsBetween low high y) → IfSome o (λ z. Has set z × IsBetween low high z)
    → IfSome o (λ z. (other : Point) → Has set other → IsBetween low high other → IsNotAfter z other) → IfNone o ((z : Point) → Has set z → IsBetween low high z → ⊥) → IsReached words place set o
first_reached words place set low high None inside found least none = λ y h. absurd (none y h (inside y h))
first_reached words place set low high (Some z) inside found least none = (found.0, λ y h before. absurd (not_after z y (least y h (inside y h)) before))

pub next_reached : (words : Words) (place : ℕ) (set : Set) (z : Point) (o : Option Point) → Has set z → ToldBefore words place set z → IsSome (word_among words place z) → IfSome o (IsNext set z) → IfNone o (IsLast set z)
    → IsReached words place set o
next_reached words place set z o has told here some none = by o some none
  where
    either : (y : Point) → Has set y → (IsBefore z y → IsSome (word_among words place y)) → IsSome (word_among words place y)
    either y h behind = ordered (before_cases z y (has.dimension ∙ sym h.dimension))
      where
        ordered : IsBefore z y ⊎ ((z ≡ y) ⊎ IsBefore y z) → IsSome (word_among words place y)
        ordered (inl after) = behind after
        ordered (inr (inl same)) = subst (λ (x : Point). IsSome (word_among words place x)) same here
        ordered (inr (inr before)) = told y h before

    by : (o : Option Point) → IfSome o (IsNext set z) → IfNone o (IsLast set z) → IsReached words place set o
    by None some none = λ y h. either y h (λ after. absurd (none y h after))
    by (Some x) some none = (some.has, λ y h before. either y h (λ after. absurd (some.next y h after before)))

-- fewer points are left behind the next one
pub fewer : (set : Set) (z : Point) (o : Option Point) → Has set z → set.dim ≤ 4 → ((y : Point) → Has set y → AtMost 4095 y) → IfSome o (IsNext set z) → left_behind o < left_behind (Some z)
fewer set z None has few small some = fewer_none z (small z has)
fewer set z (Some y) has few small some =
    fewer_left z y (has.dimension ∙ sym some.has.dimension) (let e = has.dimension in omega (arith, e, few)) (small z has) (small y some.has) some.behind

pub word_there : {A : Type 0} (f : A → ℕ) (o : Option A) (p : Option ℕ) → is_some o ≡ true → IfSome o (λ w. p ≡ Some (f w)) → IsSome p
word_there f None p e h = absurd (true≢false (sym e))
word_there f (Some w) p e h = subst (λ (q : Option ℕ). IsSome q) (sym h) refl

-- ---- one variable after another

module _ (s : FlatSystem) (words : Words) where
  one_more : (place : ℕ) (v : Variable) → slice_get s.variables place ≡ Some v → (IsTrue (is_input v.kind) → ToldAll words place v.domain) → AreWhole s words place → AreWhole s words (place + 1)
  one_more place v at here whole = λ p u z lt there input has.
      elim (cases_lt p place) [
        | inl less ↦ whole p u z less there input has
        | inr le ↦
            let same : p ≡ place = omega (arith, le, lt) in
            let one : u ≡ v = some_is u v (sym (subst (λ q. slice_get s.variables q ≡ Some u) same there) ∙ at) in
            subst (λ q. IsSome (word_among words q z)) (sym same) (here (subst (λ (w : Variable). IsTrue (is_input w.kind)) one input) z (subst (λ (w : Variable). Has w.domain z) one has))
      ]

  pub past_computed : (place : ℕ) (v : Variable) → slice_get s.variables place ≡ Some v → is_computed v.kind ≡ true → AreWhole s words place → AreWhole s words (place + 1)
  past_computed place v at computed whole = one_more place v at (λ input. absurd (true≢false (sym computed ∙ ap not input))) whole

  pub past_told : (place : ℕ) (v : Variable) → slice_get s.variables place ≡ Some v → ToldAll words place v.domain → AreWhole s words place → AreWhole s words (place + 1)
  past_told place v at all whole = one_more place v at (λ input. all) whole

  pub missing_at : (place : ℕ) (v : Variable) (z : Point) → slice_get s.variables place ≡ Some v → is_computed v.kind ≡ false → Has v.domain z × (word_among words place z ≡ None) → ToldBefore words place v.domain z → AreWhole s words place
      → IsMissingAt s words place z
  missing_at place v z at computed found least whole = record {
    variable = v;
    there = at;
    is_input_one = not_false (is_input v.kind) computed;
    has = found.0;
    none = found.1;
    least = least;
    before = whole;
  }
    where
      not_false : (t : Bool) → not t ≡ false → t ≡ true
      not_false true e = refl
      not_false false e = absurd (true≢false e)
