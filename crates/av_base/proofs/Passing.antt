-- The places of a text's bytes.
use Rattle.std.proofs.Common.{◌≡◌, ℕ, suc, ◌+◌, ◌<◌, ◌≤◌, true, false, cond, List, [], ◌∷◌, ◌++◌, length, take, drop, get_or, refl, sym, ap, ◌∙◌, arith, drop-cons}
use Rattle.std.specs.Prelude.{nat_eq}
use Rattle.std.proofs.lemmas.List.{length-take}
use Rattle.av_base.specs.declared.place.Place.{Place}
use Rattle.av_base.specs.Tokens.{next_place, moved}

-- a byte more
next_line : (p : Place) (b : ℕ) → (next_place p b).line ≤ p.line + 1
next_line p b = elim (nat_eq b 10) as (λ t. (cond t (let q : Place = record { line = p.line + 1; column = 1 } in q) (record { line = p.line; column = p.column + 1 })).line ≤ p.line + 1) [ true ↦ omega arith | false ↦ omega arith ]

next_column : (p : Place) (b : ℕ) → (next_place p b).column ≤ p.column + 1
next_column p b = elim (nat_eq b 10) as (λ t. (cond t (let q : Place = record { line = p.line + 1; column = 1 } in q) (record { line = p.line; column = p.column + 1 })).column ≤ p.column + 1) [ true ↦ omega arith | false ↦ omega arith ]

-- the place is at most as far as there are bytes
pub moved_line : (p : Place) (bytes : List ℕ) → (moved p bytes).line ≤ p.line + length bytes
moved_line p [] = omega arith
moved_line p (b ∷ bytes) = omega (arith, next_line p b, moved_line (next_place p b) bytes)

pub moved_column : (p : Place) (bytes : List ℕ) → (moved p bytes).column ≤ p.column + length bytes
moved_column p [] = omega arith
moved_column p (b ∷ bytes) = omega (arith, next_column p b, moved_column (next_place p b) bytes)

-- so does the place behind some bytes from an index on
pub line_after : (bytes : List ℕ) (at : ℕ) (place : Place) (n : ℕ) → place.line ≤ at + 1 → (moved place (take n (drop at bytes))).line ≤ at + n + 1
line_after bytes at place n h = omega (arith, moved_line place (take n (drop at bytes)), length-take n (drop at bytes))

pub column_after : (bytes : List ℕ) (at : ℕ) (place : Place) (n : ℕ) → place.column ≤ at + 1 → (moved place (take n (drop at bytes))).column ≤ at + n + 1
column_after bytes at place n h = omega (arith, moved_column place (take n (drop at bytes)), length-take n (drop at bytes))

pub moved-append : (p : Place) (front back : List ℕ) → moved p (front ++ back) ≡ moved (moved p front) back
moved-append p [] back = refl
moved-append p (b ∷ front) back = moved-append (next_place p b) front back

-- the first bytes are passed
pub record IsOnTheWay (from here : Place) (count : ℕ) (bytes : List ℕ) : Type 0 where
  pub line : here.line ≤ from.line + count
  pub column : here.column ≤ from.column + count
  pub rest : moved here (drop count bytes) ≡ moved from bytes

pub goes_on : (from here : Place) (count : ℕ) (bytes : List ℕ) → count < length bytes → IsOnTheWay from here count bytes → IsOnTheWay from (next_place here (get_or bytes count 0)) (count + 1) bytes
goes_on from here count bytes lt way = record {
  line = omega (arith, next_line here (get_or bytes count 0), way.line);
  column = omega (arith, next_column here (get_or bytes count 0), way.column);
  rest = ap (λ n. moved (next_place here (get_or bytes count 0)) (drop n bytes)) (let e : count + 1 ≡ suc count = omega arith in e) ∙ sym (ap (moved here) (drop-cons bytes count 0 lt)) ∙ way.rest;
}
