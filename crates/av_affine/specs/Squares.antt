-- Square matrices of whole numbers (textbook).
use Rattle.std.specs.Prelude.{ℕ, ℤ, pos, List, [], map, take, slice_index_or, nat_lt, nat_eq, ◌&&◌, if◌then◌else◌}
use Rattle.av_affine.specs.declared.square.Square.{Square}
use Rattle.av_affine.specs.Numbers.{dot, four}

-- the matrix of n rows and columns with these cells, and 0 past them
abbrev pub square_of : ℕ → (ℕ → ℕ → ℤ) → Square
square_of n cell = record { size = n; cells = four (λ i. four (λ j. if nat_lt i n && nat_lt j n then cell i j else pos 0)) }

-- a row, as stored
abbrev pub row_of : ℕ → Square → List ℤ
row_of i m = slice_index_or m.cells i []

-- a column, from the first row to the last
abbrev pub column_of : ℕ → Square → List ℤ
column_of j m = map (λ row. slice_index_or row j (pos 0)) (take m.size m.cells)

-- the matrix that does first b and then a
abbrev pub product : Square → Square → Square
product a b = square_of a.size (λ i j. dot (row_of i a) (column_of j b))

-- the matrix that keeps each vector
abbrev pub identity : ℕ → Square
identity n = square_of n (λ i j. if nat_eq i j then pos 1 else pos 0)
