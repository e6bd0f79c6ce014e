-- The values of a stimulus, walked through in order.
use Rattle.std.proofs.Common.{◌≡◌, ℕ, zero, suc, ◌+◌, ◌<◌, ◌≤◌, Bool, true, false, ◌&&◌, List, [], ◌∷◌, length, Some, slice_get, refl, sym, ap, ◌∙◌, subst, arith, inl, inr, true≢false}
use Rattle.std.specs.Prelude.{if◌then◌else◌, nat_eq, All, AllPairs}
use Rattle.std.proofs.Math.Nat.{one-le-pow}
use Rattle.std.proofs.lemmas.Bool.{eqb-true, eq-eqb, cases_lt}
use Rattle.std.proofs.lemmas.Option.{slice_get_within}
use Rattle.std.proofs.lemmas.List.Elements.{All-nil, All-cons, All-head, All-tail, All-weaker}
use Rattle.av_base.specs.Words.{IsWord}
use Rattle.av_net.specs.declared.netlist.Port.{Port}
use Rattle.av_data.specs.declared.stimulus.Given.{Given}
use Rattle.av_data.specs.declared.stimulus.Stimulus.{Stimulus}
use Rattle.av_data.specs.Stimuli.{IsBefore}
use Rattle.av_wave.specs.Recorded.{IsForPort, IsFor}
use Rattle.av_wave.specs.Simulated.{given_word}
use Rattle.av_wave.specs.Clocking.{is_here, word_next, rest_next, IsFrom, AreLeft}
use Rattle.av_data.proofs.Sorting.{pairs_head, pairs_tail}
use Rattle.av_base.proofs.Truths.{both}
use Rattle.av_data.proofs.Lined.{one_some}

here_is : (c k : ℕ) (g : Given) → is_here c k g ≡ true → (g.cycle ≡ c) × (g.port ≡ k)
here_is c k g e = let z = both (nat_eq g.cycle c) (nat_eq g.port k) e in (eqb-true g.cycle c z.0, eqb-true g.port k z.1)

not_here : (c k : ℕ) (g : Given) → (g.cycle ≡ c → g.port ≡ k → ⊥) → is_here c k g ≡ false
not_here c k g differ = by (is_here c k g) refl
  where
    by : (t : Bool) → is_here c k g ≡ t → t ≡ false
    by true e = let z = here_is c k g e in absurd (differ z.0 z.1)
    by false e = refl

here_not : (c k : ℕ) (g : Given) → is_here c k g ≡ false → g.cycle ≡ c → g.port ≡ k → ⊥
here_not c k g e a b = true≢false (sym (one (nat_eq g.cycle c) (nat_eq g.port k) (eq-eqb g.cycle c a) (eq-eqb g.port k b)) ∙ e)
  where
    one : (t u : Bool) → t ≡ true → u ≡ true → (t && u) ≡ true
    one t u e f = rw (e, f) refl

-- one behind another that is from here on
from_before : (c k : ℕ) (g h : Given) → IsFrom c k g.cycle g.port → IsBefore g h → IsFrom c (k + 1) h.cycle h.port
from_before c k g h (inl a) (inl b) = inl (omega (arith, a, b))
from_before c k g h (inl a) (inr b) = inl (omega (arith, a, b.0))
from_before c k g h (inr a) (inl b) = inl (omega (arith, a.0, b))
from_before c k g h (inr a) (inr b) = inr (a.0 ∙ b.0, omega (arith, a.1, b.1))

-- one that is from here on, and not here
from_next : (c k : ℕ) (g : Given) → IsFrom c k g.cycle g.port → is_here c k g ≡ false → IsFrom c (k + 1) g.cycle g.port
from_next c k g (inl a) e = inl a
from_next c k g (inr a) e = inr (a.0, less (λ p. here_not c k g e (sym a.0) p))
  where
    less : (g.port ≡ k → ⊥) → k + 1 ≤ g.port
    less differ = elim (cases_lt k g.port) [
      | inl lt ↦ omega (arith, lt)
      | inr ge ↦ absurd (differ (omega (arith, ge, a.1)))
    ]

-- nothing that is left is here
none_here : (c k : ℕ) (left : List Given) → All (λ g. IsFrom c (k + 1) g.cycle g.port) left → given_word left c k ≡ 0
none_here c k [] all = refl
none_here c k (g ∷ left) all =
    let apart = not_here c k g (differ (All-head (λ g. IsFrom c (k + 1) g.cycle g.port) g left all)) in
    by (nat_eq g.cycle c && nat_eq g.port k) apart (none_here c k left (All-tail (λ g. IsFrom c (k + 1) g.cycle g.port) g left all))
  where
    differ : IsFrom c (k + 1) g.cycle g.port → g.cycle ≡ c → g.port ≡ k → ⊥
    differ (inl a) e f = omega (arith, a, e)
    differ (inr a) e f = omega (arith, a.1, f)

    by : (t : Bool) → t ≡ false → given_word left c k ≡ 0 → (if t then g.value else given_word left c k) ≡ 0
    by true e ih = absurd (true≢false e)
    by false e ih = ih

-- a later place is not here
later_not_here : (c k c' k' : ℕ) (g : Given) → IsFrom c (k + 1) c' k' → is_here c k g ≡ true → is_here c' k' g ≡ false
later_not_here c k c' k' g from e = let z = here_is c k g e in not_here c' k' g (λ a b. differ from z a b)
  where
    differ : IsFrom c (k + 1) c' k' → (g.cycle ≡ c) × (g.port ≡ k) → g.cycle ≡ c' → g.port ≡ k' → ⊥
    differ (inl a) z e f = omega (arith, a, z.0, e)
    differ (inr a) z e f = omega (arith, a.1, z.1, f)

sooner : (c k c' k' : ℕ) → IsFrom c (k + 1) c' k' → IsFrom c k c' k'
sooner c k c' k' (inl a) = inl a
sooner c k c' k' (inr a) = inr (a.0, omega (arith, a.1))

-- ---- one port

word_of_left : (c k : ℕ) (left : List Given) → All (λ g. IsFrom c k g.cycle g.port) left → AllPairs IsBefore left → given_word left c k ≡ word_next left c k
word_of_left c k [] all ascending = refl
word_of_left c k (g ∷ left) all ascending =
    by (nat_eq g.cycle c && nat_eq g.port k)
    (none_here c k left (All-weaker (IsBefore g) (λ h. IsFrom c (k + 1) h.cycle h.port) (λ h b. from_before c k g h (All-head (λ g. IsFrom c k g.cycle g.port) g left all) b) left (pairs_head g left ascending)))
  where
    by : (t : Bool) → given_word left c k ≡ 0 → (if t then g.value else given_word left c k) ≡ (if t then g.value else 0)
    by true none = refl
    by false none = none

pub word_is : (inputs : List Port) (given : List Given) (c k : ℕ) (left : List Given) → AreLeft inputs given c k left → given_word given c k ≡ word_next left c k
word_is inputs given c k left ready = ready.words c k (inr (refl, omega arith)) ∙ word_of_left c k left ready.ahead ready.ascending

pub word_fits : (inputs : List Port) (given : List Given) (c k : ℕ) (left : List Given) → AreLeft inputs given c k left → (port : Port) → slice_get inputs k ≡ Some port → IsWord port.width.bits (word_next left c k)
word_fits inputs given c k left ready port there = by left ready.fit
  where
    by : (values : List Given) → All (IsForPort inputs) values → IsWord port.width.bits (word_next values c k)
    by [] fit = one-le-pow port.width.bits 2 (omega arith)
    by (g ∷ values) fit = one (is_here c k g) refl (All-head (IsForPort inputs) g values fit)
      where
        one : (t : Bool) → is_here c k g ≡ t → IsForPort inputs g → IsWord port.width.bits (if t then g.value else 0)
        one true e (p, declared, fits) =
            let same : p ≡ port = one_some (sym declared ∙ ap (slice_get inputs) (here_is c k g e).1 ∙ there) in
            subst (λ (q : Port). IsWord q.width.bits g.value) same fits
        one false e fit = one-le-pow port.width.bits 2 (omega arith)

pub port_left : (inputs : List Port) (given : List Given) (c k : ℕ) (left : List Given) → AreLeft inputs given c k left → AreLeft inputs given c (k + 1) (rest_next left c k)
port_left inputs given c k left ready = by left ready.words ready.ahead ready.ascending ready.fit
  where
    by : (values : List Given) → ((d l : ℕ) → IsFrom c k d l → given_word given d l ≡ given_word values d l) → All (λ g. IsFrom c k g.cycle g.port) values → AllPairs IsBefore values → All (IsForPort inputs) values
        → AreLeft inputs given c (k + 1) (rest_next values c k)
    by [] words ahead ascending fit = record {
      words = λ d l from. words d l (sooner c k d l from);
      ahead = All-nil (λ g. IsFrom c (k + 1) g.cycle g.port);
      ascending = ascending;
      fit = fit;
    }
    by (g ∷ values) words ahead ascending fit = one (is_here c k g) refl
      where
        behind : All (λ h. IsFrom c (k + 1) h.cycle h.port) values
        behind = All-weaker (IsBefore g) (λ h. IsFrom c (k + 1) h.cycle h.port) (λ h b. from_before c k g h (All-head (λ g. IsFrom c k g.cycle g.port) g values ahead) b) values (pairs_head g values ascending)

        skip : (d l : ℕ) → IsFrom c (k + 1) d l → is_here c k g ≡ true → given_word (g ∷ values) d l ≡ given_word values d l
        skip d l from e = rw (later_not_here c k d l g from e) refl

        one : (t : Bool) → is_here c k g ≡ t → AreLeft inputs given c (k + 1) (if t then values else g ∷ values)
        one true e = record {
          words = λ d l from. words d l (sooner c k d l from) ∙ skip d l from e;
          ahead = behind;
          ascending = pairs_tail g values ascending;
          fit = All-tail (IsForPort inputs) g values fit;
        }
        one false e = record {
          words = λ d l from. words d l (sooner c k d l from);
          ahead = All-cons (λ h. IsFrom c (k + 1) h.cycle h.port) g values (from_next c k g (All-head (λ g. IsFrom c k g.cycle g.port) g values ahead) e) behind;
          ascending = ascending;
          fit = fit;
        }

-- ---- one cycle

pub cycle_left : (inputs : List Port) (given : List Given) (c n : ℕ) (left : List Given) → n ≡ length inputs → AreLeft inputs given c n left → AreLeft inputs given (c + 1) 0 left
cycle_left inputs given c n left is ready = record {
  words = λ d l from. ready.words d l (inl (later d l from));
  ahead = next left ready.ahead ready.fit;
  ascending = ready.ascending;
  fit = ready.fit;
}
  where
    later : (d l : ℕ) → IsFrom (c + 1) 0 d l → c < d
    later d l (inl a) = omega (arith, a)
    later d l (inr a) = omega (arith, a.0)

    step : (g : Given) → IsFrom c n g.cycle g.port → IsForPort inputs g → IsFrom (c + 1) 0 g.cycle g.port
    step g (inl a) fit = elim (cases_lt (c + 1) g.cycle) [
      | inl lt ↦ inl lt
      | inr ge ↦ inr (omega (arith, a, ge), omega arith)
    ]
    step g (inr a) (p, declared, fits) = absurd (omega (arith, a.1, is, slice_get_within inputs g.port p declared))

    next : (values : List Given) → All (λ g. IsFrom c n g.cycle g.port) values → All (IsForPort inputs) values → All (λ g. IsFrom (c + 1) 0 g.cycle g.port) values
    next [] all fit = All-nil (λ g. IsFrom (c + 1) 0 g.cycle g.port)
    next (g ∷ values) all fit =
        All-cons (λ g. IsFrom (c + 1) 0 g.cycle g.port) g values (step g (All-head (λ g. IsFrom c n g.cycle g.port) g values all) (All-head (IsForPort inputs) g values fit))
        (next values (All-tail (λ g. IsFrom c n g.cycle g.port) g values all) (All-tail (IsForPort inputs) g values fit))

-- at first all values are left
pub values_left : (inputs : List Port) (values : List Given) → AllPairs IsBefore values → All (IsForPort inputs) values → AreLeft inputs values 0 0 values
values_left inputs given ascending fit = record {
  words = λ c k from. refl;
  ahead = first given;
  ascending = ascending;
  fit = fit;
}
  where
    from_start : (c k : ℕ) → IsFrom 0 0 c k
    from_start zero k = inr (refl, omega arith)
    from_start (suc c) k = inl (omega arith)

    first : (values : List Given) → All (λ g. IsFrom 0 0 g.cycle g.port) values
    first [] = All-nil (λ g. IsFrom 0 0 g.cycle g.port)
    first (g ∷ values) = All-cons (λ g. IsFrom 0 0 g.cycle g.port) g values (from_start g.cycle g.port) (first values)

pub all_left : (inputs : List Port) (s : Stimulus) → IsFor inputs s → AreLeft inputs s.values 0 0 s.values
all_left inputs s is = values_left inputs s.values is.ascending is.fit

-- what is given to a port fits it
pub given_fits : (inputs : List Port) (values : List Given) (c k : ℕ) (port : Port) → All (IsForPort inputs) values → slice_get inputs k ≡ Some port → IsWord port.width.bits (given_word values c k)
given_fits inputs [] c k port fit there = one-le-pow port.width.bits 2 (omega arith)
given_fits inputs (g ∷ values) c k port fit there = one (is_here c k g) refl (All-head (IsForPort inputs) g values fit) (given_fits inputs values c k port (All-tail (IsForPort inputs) g values fit) there)
  where
    one : (t : Bool) → is_here c k g ≡ t → IsForPort inputs g → IsWord port.width.bits (given_word values c k) → IsWord port.width.bits (if t then g.value else given_word values c k)
    one true e (p, declared, fits) rest =
        let same : p ≡ port = one_some (sym declared ∙ ap (slice_get inputs) (here_is c k g e).1 ∙ there) in
        subst (λ (q : Port). IsWord q.width.bits g.value) same fits
    one false e fits rest = rest
