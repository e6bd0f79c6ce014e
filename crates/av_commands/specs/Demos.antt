-- What `demo` writes: the totals of the array of a product of two square matrices of a size, and the sum of the product's entries.
use Rattle.std.specs.Prelude.{◌≡◌, ℕ, ◌+◌, ◌*◌, pos, List, [], ◌∷◌, ◌++◌, Some, codes, decimal}
use Rattle.std.specs.List.{sum}
use Rattle.av_base.specs.Words.{residue}
use Rattle.av_tree.specs.Values.{Assignment}
use Rattle.av_tree.specs.Solutions.{AreInputs, IsSolution}
use Rattle.av_flat.specs.declared.timed.Timed.{Timed}
use Rattle.av_names.specs.declared.size.Size.{Size}
use Rattle.av_names.specs.Sizes.{instance_of}
use Rattle.av_net.specs.declared.plan.Plan.{Plan}
use Rattle.av_space.specs.declared.cells.Cells.{Cells}
use Rattle.av_data.specs.Tables.{totals_line}
use Rattle.av_compile.specs.Mapped.{IsMapped}
use Rattle.av_compile.specs.Headline.{Headline}
use Rattle.av_commands.specs.Runs.{AreSolved}

-- the product C of the matrices A and B, whose entries are the points of C
abbrev pub product_text : List ℕ
product_text =
    codes "system matmul :{N | N>=1}\n"
    ++ codes "  (A : {i,k | 1<=i<=N; 1<=k<=N} of integer;\n"
    ++ codes "   B : {k,j | 1<=k<=N; 1<=j<=N} of integer)\n"
    ++ codes "  returns (C : {i,j | 1<=i<=N; 1<=j<=N} of integer);\n"
    ++ codes "let C[i,j] = reduce(+, (i,j,k -> i,j), A[i,k]*B[k,j]); tel;\n"

-- the size of the matrices
abbrev pub product_sizes : ℕ → List Size
product_sizes k = record { name = codes "N"; value = pos k } ∷ []

-- A(i,k) = 3i + 5k + 1 and B(k,j) = 7k + 2j + 4, as words
pub record AreEntries (bits : ℕ) (x : Assignment) : Type 0 where
  pub left : (i k w : ℕ) → x (codes "A") (pos i ∷ pos k ∷ []) ≡ Some w → w ≡ residue bits (3 * i + 5 * k + 1)
  pub right : (k j w : ℕ) → x (codes "B") (pos k ∷ pos j ∷ []) ≡ Some w → w ≡ residue bits (7 * k + 2 * j + 4)

-- the last line of the table, and the sum of the words of all points, which are those of C
pub record GivesDemo (k bits box : ℕ) (out : List ℕ) : Type 0 where
  pub timed : Timed
  pub cells : Cells
  pub plan : Plan
  pub mapped : IsMapped product_text (product_sizes k) bits box timed cells
  pub computes : Headline product_text (product_sizes k) bits box timed cells plan
  pub inputs : Assignment
  pub are_inputs : AreInputs (instance_of computes.system (product_sizes k) bits) inputs
  pub entries : AreEntries bits inputs
  pub solution : Assignment
  pub solves : IsSolution (instance_of computes.system (product_sizes k) bits) inputs solution
  pub words : List ℕ
  pub solved : AreSolved solution plan.listing.ats words
  pub lines : out ≡ totals_line cells ++ (codes "sum " ++ decimal (residue bits (sum words)) ++ codes "\n")
