-- Affine maps as lists of forms, and their composition (Mauras 1989; Wilde's reports on Alpha).
use Rattle.std.specs.Prelude.{ℕ, ℤ, pos, ◌+ℤ◌, List, map, max, fold, unsigned_abs, slice_index_or, nat_lt, if◌then◌else◌}
use Rattle.av_affine.specs.declared.form.Form.{Form}
use Rattle.av_affine.specs.declared.map.Map.{Map}
use Rattle.av_affine.specs.Numbers.{dot, greatest, four}
use Rattle.av_affine.specs.Forms.{value_at}

-- the image of a point: the value of each form
abbrev pub image : List Form → List ℤ → List ℤ
image rows z = map (λ f. value_at f z) rows

-- the coefficients that the forms have for one index
abbrev pub coefficients_of : ℕ → List Form → List ℤ
coefficients_of index rows = map (λ f. slice_index_or f.coef index (pos 0)) rows

-- the constants of the forms
abbrev pub constants_of : List Form → List ℤ
constants_of rows = map (λ f. f.constant) rows

-- a form of what the inner forms give, as a form of their own n indices
abbrev pub through : ℕ → List Form → Form → Form
through n inner f = record {
  coef = four (λ index. if nat_lt index n then dot f.coef (coefficients_of index inner) else pos 0);
  constant = dot f.coef (constants_of inner) +ℤ f.constant;
}

-- first the inner map, then the outer
abbrev pub composition : Map → Map → Map
composition outer inner = record { from = inner.from; rows = map (through inner.from inner.rows) outer.rows }

-- the greatest absolute value of a coefficient
abbrev pub greatest_coefficient : List Form → ℕ
greatest_coefficient rows = fold max 0 (map (λ f. greatest f.coef) rows)

-- the greatest absolute value of a constant
abbrev pub greatest_constant : List Form → ℕ
greatest_constant rows = fold max 0 (map (λ f. unsigned_abs f.constant) rows)
