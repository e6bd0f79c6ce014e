-- The loops that read as many parts as begin.
use Rattle.std.proofs.Common.{◌≡◌, ℕ, zero, suc, ◌<◌, ◌≤◌, Bool, true, false, List, [], ◌∷◌, ◌++◌, length, Result, Ok, refl, sym, ap, ◌∙◌, arith, append_assoc, true≢false}
use Rattle.std.proofs.lemmas.List.{append-nil}
use Rattle.av_base.specs.declared.place.Place.{Place}
use Rattle.av_net.specs.Lexemes.{Token}
use Rattle.av_vparse.specs.declared.fault.ReadError.{ReadError}
use Rattle.av_vparse.specs.declared.fault.ReadError.TheVariants as error
use Rattle.av_vparse.specs.inner.Reading.{Read, ◌>>=◌, Fails, many_at, all_at}

module _ {A : Type 0} (begins : List Token → Bool) (read : Read A) where
  -- the parts found so far, and the tokens that are left
  pub record Goes (ts : List Token) (found : List A) (rest : List Token) : Type 0 where
    pub turns : ℕ
    pub enough : length rest ≤ turns
    pub is : many_at begins read turns found rest ≡ all_at begins read ts

  pub goes_first : (ts : List Token) → Goes ts [] ts
  goes_first ts = record { turns = length ts; enough = omega arith; is = refl }

  turn_at : (turns : ℕ) (found : List A) (rest : List Token) → begins rest ≡ true → 0 < turns
      → (m : ℕ) × (suc m ≡ turns) × (many_at begins read turns found rest ≡ (read rest >>= λ x. many_at begins read m (found ++ x.0 ∷ []) x.1))
  unfolding many_at
  turn_at zero found rest b some = absurd (omega arith)
  turn_at (suc m) found rest b some = (m, refl, rw b refl)

  some_turns : (ts : List Token) (found : List A) (rest : List Token) (g : Goes ts found rest) → 0 < length rest → 0 < g.turns
  some_turns ts found rest g some = omega (arith, g.enough)

  pub goes_on : (ts : List Token) (found : List A) (rest next : List Token) (x : A) → Goes ts found rest → begins rest ≡ true → read rest ≡ Ok (x, next) → length next < length rest
      → Goes ts (found ++ x ∷ []) next
  goes_on ts found rest next x g b e shorter =
      let t = turn_at g.turns found rest b (some_turns ts found rest g (omega arith)) in
      let one : (read rest >>= λ y. many_at begins read t.0 (found ++ y.0 ∷ []) y.1) ≡ many_at begins read t.0 (found ++ x ∷ []) next = rw e refl in
      record { turns = t.0; enough = omega (arith, g.enough, t.1); is = sym one ∙ sym t.2 ∙ g.is }

  fails_then : {X B : Type 0} (r : Result X Place) (f : X → Result B Place) (e : ReadError) → Fails e r → Fails e (r >>= f)
  fails_then r f error.Memory h = tt
  fails_then r f (error.Syntax p) h = rw h refl

  pub goes_wrong : (ts : List Token) (found : List A) (rest : List Token) (e : ReadError) → Goes ts found rest → begins rest ≡ true → 0 < length rest → Fails e (read rest) → Fails e (all_at begins read ts)
  goes_wrong ts found rest e g b some h =
      let t = turn_at g.turns found rest b (some_turns ts found rest g some) in
      rw⁻¹ g.is (rw t.2 (fails_then (read rest) _ e h))

  pub goes_to_end : (ts : List Token) (found : List A) (rest : List Token) → Goes ts found rest → begins rest ≡ false → all_at begins read ts ≡ Ok (found, rest)
  unfolding many_at
  goes_to_end ts found rest g b = sym g.is ∙ ends g.turns
    where
      ends : (n : ℕ) → many_at begins read n found rest ≡ Ok (found, rest)
      ends zero = refl
      ends (suc n) = rw b refl

  -- the same behind parts that were there before
  pub record GoesBehind (before : List A) (ts : List Token) (found : List A) (rest : List Token) : Type 0 where
    pub later : List A
    pub joined : found ≡ before ++ later
    pub goes : Goes ts later rest

  pub behind_first : (before : List A) (ts : List Token) → GoesBehind before ts before ts
  behind_first before ts = record { later = []; joined = sym (append-nil before); goes = goes_first ts }

  pub behind_on : (before : List A) (ts : List Token) (found : List A) (rest next : List Token) (x : A) → GoesBehind before ts found rest → begins rest ≡ true → read rest ≡ Ok (x, next) → length next < length rest
      → GoesBehind before ts (found ++ x ∷ []) next
  behind_on before ts found rest next x g b e shorter =
      record { later = g.later ++ x ∷ []; joined = ap (λ z. z ++ x ∷ []) g.joined ∙ append_assoc before g.later (x ∷ []); goes = goes_on ts g.later rest next x g.goes b e shorter }

  pub behind_wrong : (before : List A) (ts : List Token) (found : List A) (rest : List Token) (e : ReadError) → GoesBehind before ts found rest → begins rest ≡ true → 0 < length rest → Fails e (read rest)
      → (f : (List A × List Token) → Result (List A × List Token) Place) → Fails e (all_at begins read ts >>= f)
  behind_wrong before ts found rest e g b some h f = fails_then (all_at begins read ts) f e (goes_wrong ts g.later rest e g.goes b some h)

  pub behind_end : (first : A) (ts : List Token) (found : List A) (rest : List Token) → GoesBehind (first ∷ []) ts found rest → begins rest ≡ false
      → ◌>>=◌ {B = List A × List Token} (all_at begins read ts) (λ later. Ok (first ∷ later.0, later.1)) ≡ Ok (found, rest)
  behind_end first ts found rest g b =
      let e = goes_to_end ts g.later rest g.goes b in
      rw e (ap (λ z. Ok (z, rest)) (sym g.joined))

-- what begins is not nothing
pub some_left : (begins : List Token → Bool) → begins [] ≡ false → (ts : List Token) → begins ts ≡ true → 0 < length ts
some_left begins none [] h = absurd (true≢false (sym h ∙ none))
some_left begins none (t ∷ ts) h = omega arith
