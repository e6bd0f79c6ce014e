-- A comment found from left to right.
use Rattle.std.proofs.Common.{◌≡◌, ℕ, zero, suc, ◌+◌, ◌<◌, ◌≤◌, List, [], ◌∷◌, ◌++◌, length, take, drop, refl, sym, ap, ◌∙◌, arith, true, false, add-one}
use Rattle.std.proofs.lemmas.List.{append-nil, take_all}
use Rattle.std.proofs.Math.ListN.{drop_of_length-le}
use Rattle.av_base.specs.Spelling.{begins_comment}
use Rattle.av_data.specs.Lines.{uncommented}

kept : (xs : List ℕ) (i : ℕ) → i < length xs → begins_comment 45 (drop i xs) ≡ false → take (suc i) xs ++ uncommented (drop (suc i) xs) ≡ take i xs ++ uncommented (drop i xs)
kept [] i lt h = absurd (omega arith)
kept (b ∷ xs) zero lt h = rw h refl
kept (b ∷ xs) (suc i) lt h = ap (λ ys. b ∷ ys) (kept xs i (omega arith) h)

cut : (xs : List ℕ) (i : ℕ) → begins_comment 45 (drop i xs) ≡ true → take i xs ++ uncommented (drop i xs) ≡ take i xs
cut xs i h = ap (λ ys. take i xs ++ ys) (nothing (drop i xs) h) ∙ append-nil (take i xs)
  where
    nothing : (ys : List ℕ) → begins_comment 45 ys ≡ true → uncommented ys ≡ []
    nothing [] h = refl
    nothing (b ∷ ys) h = rw h refl

-- no comment begins here
pub past_byte : (xs : List ℕ) (i : ℕ) → i < length xs → begins_comment 45 (drop i xs) ≡ false → take i xs ++ uncommented (drop i xs) ≡ uncommented xs → take (i + 1) xs ++ uncommented (drop (i + 1) xs) ≡ uncommented xs
past_byte xs i lt h so = rw add-one (kept xs i lt h ∙ so)

-- a comment begins here
pub before_comment : (xs : List ℕ) (i : ℕ) → begins_comment 45 (drop i xs) ≡ true → take i xs ++ uncommented (drop i xs) ≡ uncommented xs → take i xs ≡ uncommented xs
before_comment xs i h so = sym (cut xs i h) ∙ so

-- no comment begins anywhere
pub no_comment : (xs : List ℕ) (i : ℕ) → length xs ≤ i → take i xs ++ uncommented (drop i xs) ≡ uncommented xs → xs ≡ uncommented xs
no_comment xs i le so = sym (take_all i xs le) ∙ sym (append-nil (take i xs)) ∙ ap (λ ys. take i xs ++ uncommented ys) (sym (drop_of_length-le xs le)) ∙ so
