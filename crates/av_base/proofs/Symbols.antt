-- The symbol at the front of a text, of two bytes where there is one of two.
use Rattle.std.proofs.Common.{◌≡◌, ℕ, Bool, true, false, cond, List, [], ◌∷◌, ◌++◌, length, refl, subst, ◌∙◌, arith, inl, inr}
use Rattle.av_base.specs.declared.lexeme.Lexeme.{Lexeme}
use Rattle.av_base.specs.declared.lexeme.Lexeme.TheVariants as piece
use Rattle.av_base.specs.Lexicon.{Lexicon}
use Rattle.av_base.specs.Reading.{begins_pair, symbol_by}
use Rattle.av_base.proofs.Longest.{Covers, Fits, fits_as}
use Rattle.av_base.proofs.Runs.{chosen}
use Rattle.av_base.proofs.Tables.{IsShort, one, two}

one_or_two : {Kind : Type 0} (symbol : Kind) (t : Bool) (found : Lexeme Kind) → found ≡ cond t (piece.Token symbol 2) (piece.Token symbol 1) → Covers symbol 1 found
one_or_two symbol true found h = record { kind = symbol; len' = 2; is = h; no_less = omega arith; same = λ e. absurd (omega arith) }
one_or_two symbol false found h = record { kind = symbol; len' = 1; is = h; no_less = omega arith; same = λ e. refl }

-- a symbol is covered by the one that is found
pub symbol_covers : {Kind : Type 0} (symbol : Kind) (is_first is_single : ℕ → Bool) (is_pair : ℕ → ℕ → Bool) (token_of : ℕ → List ℕ → Lexeme Kind)
    → ((b : ℕ) (bytes : List ℕ) → is_first b ≡ true → token_of b (b ∷ bytes) ≡ symbol_by symbol is_single is_pair b (b ∷ bytes))
    → (front back : List ℕ) → IsShort is_first is_single is_pair front → (b : ℕ) (bytes : List ℕ) → front ++ back ≡ b ∷ bytes → Covers symbol (length front) (token_of b (front ++ back))
symbol_covers symbol is_first is_single is_pair token_of other front back (one {b = x} o s) b bytes e =
    let head : x ≡ b = cc in
    subst (λ z. Covers symbol 1 (token_of z (x ∷ back))) head (one_or_two symbol (begins_pair is_pair (x ∷ back)) (token_of x (x ∷ back)) (other x back o ∙ rw s refl))
symbol_covers symbol is_first is_single is_pair token_of other front back (two {b = x} {c = y} o s) b bytes e =
    let head : x ≡ b = cc in
    subst (λ z. Covers symbol 2 (token_of z (x ∷ y ∷ back))) head
    (record { kind = symbol; len' = 2; is = other x (y ∷ back) o ∙ rw s refl; no_less = omega arith; same = λ h. refl })

-- the symbol that is found is one
pub symbol_fits : {Kind : Type 0} (lexicon : Lexicon Kind) (symbol : Kind) (is_single : ℕ → Bool) (is_pair : ℕ → ℕ → Bool)
    → ((b : ℕ) → is_single b ≡ true → lexicon.IsSpelled symbol (b ∷ [])) → ((b c : ℕ) → is_pair b c ≡ true → lexicon.IsSpelled symbol (b ∷ c ∷ []))
    → (b : ℕ) (bytes : List ℕ) (k : Kind) (n : ℕ) → symbol_by symbol is_single is_pair b (b ∷ bytes) ≡ piece.Token k n → Fits lexicon k n (b ∷ bytes)
symbol_fits {Kind = Kind} lexicon symbol is_single is_pair single pair b bytes k n e =
    elim (chosen (begins_pair is_pair (b ∷ bytes)) (piece.Token symbol 2) (cond (is_single b) (piece.Token symbol 1) piece.Bad) (piece.Token k n) e) [
      | inl p ↦ fits_as lexicon k symbol 2 n (b ∷ bytes) p.1 (pair_fits bytes p.0)
      | inr p ↦ elim (chosen (is_single b) (piece.Token symbol 1) piece.Bad (piece.Token k n) p.1) [
        | inl q ↦ fits_as lexicon k symbol 1 n (b ∷ bytes) q.1 (record { spelled = single b q.0; some = omega arith; within = omega arith })
        | inr q ↦ absurd (let z : ◌≡◌ {A = Lexeme Kind} piece.Bad (piece.Token k n) = q.1 in cc)
      ]
    ]
  where
    pair_fits : (bytes : List ℕ) → begins_pair is_pair (b ∷ bytes) ≡ true → Fits lexicon symbol 2 (b ∷ bytes)
    pair_fits [] h = absurd cc
    pair_fits (c ∷ bytes) h = record { spelled = pair b c h; some = omega arith; within = omega arith }
