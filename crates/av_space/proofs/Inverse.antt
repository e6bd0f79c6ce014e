-- A matrix with a left inverse, on points.
use Rattle.std.proofs.Common.{◌≡◌, ℕ, zero, suc, ◌<◌, ◌≤◌, List, [], ◌∷◌, length, map, take, get_or, refl, sym, subst, arith, ◌∙◌, ap, true, ◌&&◌, if◌then◌else◌, ℤ, pos, ◌+ℤ◌, ◌*ℤ◌}
use Rattle.std.specs.Prelude.{nat_lt, nat_eq}
use Rattle.std.proofs.lemmas.Int.{ints}
use Rattle.std.proofs.lemmas.List.{length-map, length-take-le, get_or-map, get_or-take, same_lists}
use Rattle.av_affine.specs.declared.square.Square.{Square}
use Rattle.av_affine.specs.declared.form.Form.{Form}
use Rattle.av_affine.specs.Numbers.{dot, four}
use Rattle.av_affine.specs.Forms.{value_at}
use Rattle.av_affine.specs.Maps.{image, coefficients_of, constants_of, through}
use Rattle.av_affine.specs.Squares.{row_of, column_of, product, identity}
use Rattle.av_affine.specs.Completion.{rows_of}
use Rattle.av_affine.proofs.Composing.{value_through}
use Rattle.av_space.specs.Coordinates.{along}
use Rattle.av_space.proofs.Between.{Keeps}

-- ---- rows as forms

abbrev form : List ℤ → Form
form row = record { coef = row; constant = pos 0 }

form_value : (row z : List ℤ) → value_at (form row) z ≡ dot row z
form_value row z = omega (arith, ints)

forms_image : (rows : List (List ℤ)) (z : List ℤ) → image (map form rows) z ≡ along rows z
forms_image [] z = refl
forms_image (row ∷ rows) z = rw (form_value row z, forms_image rows z) refl

no_constants : (row : List ℤ) (rows : List (List ℤ)) → dot row (constants_of (map form rows)) ≡ pos 0
no_constants [] rows = refl
no_constants (x ∷ row) [] = refl
no_constants (x ∷ row) (r ∷ rows) = rw (no_constants row rows) (omega (arith, ints))

columns : (j : ℕ) (rows : List (List ℤ)) → coefficients_of j (map form rows) ≡ map (λ (row : List ℤ). get_or row j (pos 0)) rows
columns j [] = refl
columns j (row ∷ rows) = ap (λ (xs : List ℤ). get_or row j (pos 0) ∷ xs) (columns j rows)

-- ---- one row of the product

four_at : {X : Type 0} (f : ℕ → X) (i : ℕ) (d : X) → i < 4 → get_or (four f) i d ≡ f i
four_at f zero d lt = refl
four_at f (suc zero) d lt = refl
four_at f (suc (suc zero)) d lt = refl
four_at f (suc (suc (suc zero))) d lt = refl
four_at f (suc (suc (suc (suc i)))) d lt = absurd (omega arith)

abbrev unit : ℕ → ℕ → List ℤ
unit n i = four (λ j. if nat_lt j n then (if nat_eq i j then pos 1 else pos 0) else pos 0)

less : (i n : ℕ) → i < n → nat_lt i n ≡ true
less i n h = grind arith

row_is : (m inverse : Square) (i : ℕ) → i < m.size → inverse.size ≡ m.size → i < 4 → product inverse m ≡ identity m.size
    → four (λ j. if nat_lt j m.size then dot (row_of i inverse) (column_of j m) else pos 0) ≡ unit m.size i
row_is m inverse i lt sizes few e =
    let t : nat_lt i m.size ≡ true = less i m.size lt in
    let cells = ap (λ (s : Square). get_or s.cells i []) e in
    let left = four_at (λ i. four (λ j. if nat_lt i inverse.size && nat_lt j inverse.size then dot (row_of i inverse) (column_of j m) else pos 0)) i [] few in
    let right = four_at (λ i. four (λ j. if nat_lt i m.size && nat_lt j m.size then (if nat_eq i j then pos 1 else pos 0) else pos 0)) i [] few in
    let all = rw (sizes, t) at (sym left ∙ cells ∙ right) in
    all

-- ---- a unit row

unit_dot : (z : List ℤ) (i : ℕ) (d : ℤ) → length z ≤ 4 → i < length z → dot (unit (length z) i) z ≡ get_or z i d
unit_dot [] i d few lt = absurd (omega arith)
unit_dot (a ∷ []) zero d few lt = omega (arith, ints)
unit_dot (a ∷ []) (suc i) d few lt = absurd (omega arith)
unit_dot (a ∷ b ∷ []) zero d few lt = omega (arith, ints)
unit_dot (a ∷ b ∷ []) (suc zero) d few lt = omega (arith, ints)
unit_dot (a ∷ b ∷ []) (suc (suc i)) d few lt = absurd (omega arith)
unit_dot (a ∷ b ∷ c ∷ []) zero d few lt = omega (arith, ints)
unit_dot (a ∷ b ∷ c ∷ []) (suc zero) d few lt = omega (arith, ints)
unit_dot (a ∷ b ∷ c ∷ []) (suc (suc zero)) d few lt = omega (arith, ints)
unit_dot (a ∷ b ∷ c ∷ []) (suc (suc (suc i))) d few lt = absurd (omega arith)
unit_dot (a ∷ b ∷ c ∷ e ∷ []) zero d few lt = omega (arith, ints)
unit_dot (a ∷ b ∷ c ∷ e ∷ []) (suc zero) d few lt = omega (arith, ints)
unit_dot (a ∷ b ∷ c ∷ e ∷ []) (suc (suc zero)) d few lt = omega (arith, ints)
unit_dot (a ∷ b ∷ c ∷ e ∷ []) (suc (suc (suc zero))) d few lt = omega (arith, ints)
unit_dot (a ∷ b ∷ c ∷ e ∷ []) (suc (suc (suc (suc i)))) d few lt = absurd (omega arith)
unit_dot (a ∷ b ∷ c ∷ e ∷ f ∷ z) i d few lt = absurd (omega arith)

-- ---- the whole

dot_taken : (n : ℕ) (row z : List ℤ) → length z ≤ n → dot (take n row) z ≡ dot row z
dot_taken zero row [] h = dot_none row
  where
    dot_none : (row : List ℤ) → dot [] [] ≡ dot row []
    dot_none [] = refl
    dot_none (x ∷ row) = refl
dot_taken zero row (y ∷ z) h = absurd (omega arith)
dot_taken (suc n) [] z h = refl
dot_taken (suc n) (x ∷ row) [] h = refl
dot_taken (suc n) (x ∷ row) (y ∷ z) h = ap (λ k. x *ℤ y +ℤ k) (dot_taken n row z (omega arith))

along_taken : (n : ℕ) (rows : List (List ℤ)) (z : List ℤ) → length z ≤ n → along (map (take n) rows) z ≡ along rows z
along_taken n [] z h = refl
along_taken n (row ∷ rows) z h = rw (dot_taken n row z h, along_taken n rows z h) refl

-- one entry of the image under both
entry_back : (m inverse : Square) (z : List ℤ) (i : ℕ) (d : ℤ) → length z ≡ m.size → m.size ≤ 4 → inverse.size ≡ m.size → product inverse m ≡ identity m.size → i < m.size
    → dot (row_of i inverse) (along (take m.size m.cells) z) ≡ get_or z i d
entry_back m inverse z i d len few sizes e lt =
    let rows = take m.size m.cells in
    let gs = map form rows in
    let f = form (row_of i inverse) in
    let v = value_through f gs z (omega arith) in
    let coef : (through (length z) gs f).coef ≡ unit m.size i =
    ap (λ n. four (λ j. if nat_lt j n then dot (row_of i inverse) (coefficients_of j gs) else pos 0)) len
    ∙ rw (columns 0 rows, columns 1 rows, columns 2 rows, columns 3 rows) (row_is m inverse i lt sizes (omega arith) e) in
    let constant = no_constants (row_of i inverse) rows in
    let left : value_at f (image gs z) ≡ dot (row_of i inverse) (along rows z) = form_value (row_of i inverse) (image gs z) ∙ ap (dot (row_of i inverse)) (forms_image rows z) in
    let right : value_at (through (length z) gs f) z ≡ dot (unit m.size i) z = let a = ap (λ (xs : List ℤ). dot xs z) coef in omega (arith, ints, a, constant) in
    let last : dot (unit m.size i) z ≡ get_or z i d = subst (λ n. dot (unit n i) z ≡ get_or z i d) len (unit_dot z i d (omega arith) (omega arith)) in
    sym left ∙ sym v ∙ right ∙ last

-- the rows of a matrix with a left inverse
pub square_keeps : (m inverse : Square) → length inverse.cells ≡ 4 → length m.cells ≡ 4 → m.size ≤ 4 → inverse.size ≡ m.size → product inverse m ≡ identity m.size → Keeps (rows_of m) (rows_of inverse) m.size
square_keeps m inverse long_inverse long few sizes e z len =
    let n = m.size in
    let w = along (take n m.cells) z in
    let first : along (rows_of m) z ≡ w = along_taken n (take n m.cells) z (omega arith) in
    let lw : length w ≡ n = length-map (take n m.cells) (λ (row : List ℤ). dot row z) ∙ length-take-le n m.cells (omega arith) in
    let cells = take inverse.size inverse.cells in
    let second : along (rows_of inverse) w ≡ along cells w = along_taken inverse.size cells w (omega arith) in
    let many : length cells ≡ n = length-take-le inverse.size inverse.cells (omega arith) ∙ sizes in
    let out : length (along cells w) ≡ length z = length-map cells (λ (row : List ℤ). dot row w) ∙ many ∙ sym len in
    let each : (k : ℕ) (d : ℤ) → k < length (along cells w) → get_or (along cells w) k d ≡ get_or z k d = λ k d lt.
    get_or-map (λ (row : List ℤ). dot row w) cells k [] d (omega arith) ∙ ap (λ (row : List ℤ). dot row w) (get_or-take inverse.size inverse.cells k [] (omega arith)) ∙ entry_back m inverse z k d len few sizes e (omega arith) in
    ap (along (rows_of inverse)) first ∙ second ∙ same_lists (along cells w) z out each
