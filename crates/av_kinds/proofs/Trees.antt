-- The wires of a tree have its word.
use Rattle.std.proofs.Common.{◌≡◌, ℕ, ◌+◌, ◌++◌, length, refl, sym, ◌∙◌, ap}
use Rattle.av_base.specs.declared.width.Width.{Width}
use Rattle.av_tree.specs.declared.relation.Relation.{Relation}
use Rattle.av_tree.specs.declared.relation.Relation.TheVariants as relation
use Rattle.av_tree.specs.declared.sign.Sign.{Sign}
use Rattle.av_tree.specs.declared.sign.Sign.TheVariants as sign
use Rattle.av_base.specs.Words.{is_less}
use Rattle.av_tree.specs.Values.{combined, words_compare}
use Rattle.av_net.specs.declared.operation.Symbol.{Symbol}
use Rattle.av_net.specs.declared.operation.Symbol.TheVariants.{Add, Sub, Mul, Equal, Unequal, Less, LessEqual, Greater, GreaterEqual}
use Rattle.av_net.specs.declared.operation.Operand.{Operand}
use Rattle.av_net.specs.declared.operation.Operation.TheVariants.{Binary, Signed}
use Rattle.av_net.specs.Meaning.{Words, Widths, bit, applied, signed_test}
use Rattle.av_net.specs.Sound.{symbol_width}
use Rattle.av_flat.specs.Trees.{Tree, reference, constant, binary, choice, pick}
use Rattle.av_kinds.specs.Names.{Naming}
use Rattle.av_kinds.specs.inner.Gates.{Named, named}
use Rattle.av_kinds.specs.Programs.{site_count}
use Rattle.av_kinds.specs.Histories.{value_by}
use Rattle.av_kinds.specs.inner.Trees.{joined, comparison, tree_built}
use Rattle.av_kinds.proofs.Works.{Works, HasWord, Gives, works_front, works_back, named_front, named_has, chosen_gives}

-- ---- operations on words

applied_gives : (widths : Widths) (v : Words) (w r : ℕ) (s : Symbol) (a b : Operand) (x y : ℕ) → HasWord widths v w a x → HasWord widths v w b y → symbol_width s w ≡ r → Gives widths v r (Binary a s b) (applied s w x y)
applied_gives widths v w r s a b x y ha hb is =
    record { result = rw (ha.width, ha.word, hb.word) refl; suits = (ha.width ∙ sym hb.width, ap (symbol_width s) ha.width ∙ is) }

signed_gives : (widths : Widths) (v : Words) (w : ℕ) (s : Symbol) (a b : Operand) (x y : ℕ) → HasWord widths v w a x → HasWord widths v w b y → Gives widths v 1 (Signed a s b) (bit (signed_test s w x y))
signed_gives widths v w s a b x y ha hb =
    record { result = rw (ha.width, ha.word, hb.word) refl; suits = (ha.width ∙ sym hb.width, refl) }

comparison_gives : (widths : Widths) (v : Words) (w : ℕ) (c : Relation) (a b : Operand) (x y : ℕ) → HasWord widths v w a x → HasWord widths v w b y → Gives widths v 1 (comparison c a b) (bit (words_compare w c x y))
comparison_gives widths v w relation.Less a b x y ha hb = signed_gives widths v w Less a b x y ha hb
comparison_gives widths v w relation.LessEqual a b x y ha hb = signed_gives widths v w LessEqual a b x y ha hb
comparison_gives widths v w relation.Greater a b x y ha hb = signed_gives widths v w Greater a b x y ha hb
comparison_gives widths v w relation.GreaterEqual a b x y ha hb = signed_gives widths v w GreaterEqual a b x y ha hb
comparison_gives widths v w relation.Equal a b x y ha hb = applied_gives widths v w 1 Equal a b x y ha hb refl
comparison_gives widths v w relation.Unequal a b x y ha hb = applied_gives widths v w 1 Unequal a b x y ha hb refl

-- ---- an operator

joined_front : (widths : Widths) (v : Words) (name : Naming) (n : ℕ) (g : Sign) (a b : Named) → Works widths v name n (joined name n g (a.gates ++ b.gates) a.operand b.operand).gates → Works widths v name n (a.gates ++ b.gates)
joined_front widths v name n sign.Add a b works = works
joined_front widths v name n sign.Sub a b works = works
joined_front widths v name n sign.Mul a b works = works
joined_front widths v name n sign.Min a b works = works_front widths v name n (a.gates ++ b.gates) _ works
joined_front widths v name n sign.Max a b works = works_front widths v name n (a.gates ++ b.gates) _ works

joined_gives : (widths : Widths) (v : Words) (name : Naming) (n w : ℕ) (g : Sign) (a b : Named) (x y : ℕ) → HasWord widths v w a.operand x → HasWord widths v w b.operand y → Works widths v name n (joined name n g (a.gates ++ b.gates) a.operand b.operand).gates
    → Gives widths v w (joined name n g (a.gates ++ b.gates) a.operand b.operand).root (combined w g x y)
joined_gives widths v name n w sign.Add a b x y ha hb works = applied_gives widths v w w Add a.operand b.operand x y ha hb refl
joined_gives widths v name n w sign.Sub a b x y ha hb works = applied_gives widths v w w Sub a.operand b.operand x y ha hb refl
joined_gives widths v name n w sign.Mul a b x y ha hb works = applied_gives widths v w w Mul a.operand b.operand x y ha hb refl
joined_gives widths v name n w sign.Min a b x y ha hb works =
    chosen_gives widths v name n w (a.gates ++ b.gates) (Signed b.operand Less a.operand) b.operand a.operand (is_less w y x) y x (signed_gives widths v w Less b.operand a.operand y x hb ha) hb ha works
joined_gives widths v name n w sign.Max a b x y ha hb works =
    chosen_gives widths v name n w (a.gates ++ b.gates) (Signed a.operand Less b.operand) b.operand a.operand (is_less w x y) y x (signed_gives widths v w Less a.operand b.operand x y ha hb) hb ha works

-- ---- a tree

-- the places that read are brought these words
abbrev pub Bring : Widths → Words → ℕ → (ℕ → Operand) → (ℕ → ℕ) → Type 0
Bring widths v w taps words = (s : ℕ) → HasWord widths v w (taps s) (words s)

pub tree_gives : (widths : Widths) (v : Words) (name : Naming) (w : Width) (taps : ℕ → Operand) (words : ℕ → ℕ) → Bring widths v w.bits taps words → (n s : ℕ) (t : Tree)
    → Works widths v name n (tree_built name w taps n s t).gates → Gives widths v w.bits (tree_built name w taps n s t).root (value_by w.bits words s t)
tree_gives widths v name w taps words bring n s (reference place m) works = record { result = (bring s).word; suits = (bring s).width }
tree_gives widths v name w taps words bring n s (constant k) works = record { result = refl; suits = refl }
tree_gives widths v name w taps words bring n s (binary g l r) works =
    let left = tree_built name w taps n s l in
    let a = named name n w left in
    let m = n + length a.gates in
    let right = tree_built name w taps m (s + site_count l) r in
    let b = named name m w right in
    let all : Works widths v name n (a.gates ++ b.gates) = joined_front widths v name n g a b works in
    let wa : Works widths v name n a.gates = works_front widths v name n a.gates b.gates all in
    let wb : Works widths v name m b.gates = works_back widths v name n a.gates b.gates all in
    let ga = tree_gives widths v name w taps words bring n s l (named_front widths v name n w left.gates left.root wa) in
    let gb = tree_gives widths v name w taps words bring m (s + site_count l) r (named_front widths v name m w right.gates right.root wb) in
    joined_gives widths v name n w.bits g a b _ _ (named_has widths v name n w left.gates left.root _ ga wa) (named_has widths v name m w right.gates right.root _ gb wb) works
tree_gives widths v name w taps words bring n s (choice l c r x y) works =
    let ta = tree_built name w taps n s l in
    let a = named name n w ta in
    let nb = n + length a.gates in
    let sb = s + site_count l in
    let tb = tree_built name w taps nb sb r in
    let b = named name nb w tb in
    let nx = nb + length b.gates in
    let sx = sb + site_count r in
    let td = tree_built name w taps nx sx x in
    let d = named name nx w td in
    let ny = nx + length d.gates in
    let sy = sx + site_count x in
    let te = tree_built name w taps ny sy y in
    let e = named name ny w te in
    let all = works_front widths v name n (a.gates ++ (b.gates ++ (d.gates ++ e.gates))) _ works in
    let wa : Works widths v name n a.gates = works_front widths v name n a.gates _ all in
    let after_a = works_back widths v name n a.gates _ all in
    let wb : Works widths v name nb b.gates = works_front widths v name nb b.gates _ after_a in
    let after_b = works_back widths v name nb b.gates _ after_a in
    let wd : Works widths v name nx d.gates = works_front widths v name nx d.gates _ after_b in
    let we : Works widths v name ny e.gates = works_back widths v name nx d.gates _ after_b in
    let ha = named_has widths v name n w ta.gates ta.root _ (tree_gives widths v name w taps words bring n s l (named_front widths v name n w ta.gates ta.root wa)) wa in
    let hb = named_has widths v name nb w tb.gates tb.root _ (tree_gives widths v name w taps words bring nb sb r (named_front widths v name nb w tb.gates tb.root wb)) wb in
    let hd = named_has widths v name nx w td.gates td.root _ (tree_gives widths v name w taps words bring nx sx x (named_front widths v name nx w td.gates td.root wd)) wd in
    let he = named_has widths v name ny w te.gates te.root _ (tree_gives widths v name w taps words bring ny sy y (named_front widths v name ny w te.gates te.root we)) we in
    chosen_gives widths v name n w.bits (a.gates ++ (b.gates ++ (d.gates ++ e.gates))) (comparison c a.operand b.operand) d.operand e.operand _ _ _
    (comparison_gives widths v w.bits c a.operand b.operand _ _ ha hb) hd he works
tree_gives widths v name w taps words bring n s (pick place choices k) works = record { result = (bring s).word; suits = (bring s).width }
tree_gives widths v name w taps words bring n s _ works = record { result = refl; suits = refl }
