use Rattle.std.proofs.Common.{◌≡◌, ◌≤◌, length, Bool, true, false, List, [], ◌∷◌, get_or, refl, sym, ap, ◌∙◌, arith}
use Rattle.std.specs.Prelude.{not, ◌&&◌, codes}
use denote.Enum.Bare.{sameb}
use Rattle.av_net.specs.contracts.token_kind.DesignTokenKind.{the_type}
use Rattle.av_net.specs.declared.token_kind.DesignTokenKind.{DesignTokenKind}
use Rattle.av_net.specs.declared.token_kind.DesignTokenKind.TheVariants as kind
use Rattle.av_net.specs.Names.{clk}
use Rattle.av_vparse.specs.declared.token.DesignToken.{DesignToken as Found}
use Rattle.av_vparse.specs.inner.Lexing.{view, views}
use Rattle.av_vparse.specs.inner.Reading.{same, is_word, is_name, begins_kind}
use Rattle.av_vparse.proofs.cursor.DesignCursor.begins_kind.Goals.{then-is_word, else-is_word, then-eq, else-eq, then-is_word-2, else-is_word-2, then-is_word-3, else-is_word-3}
use Rattle.av_vparse.proofs.cursor.DesignCursor.begins_kind.Goals as goal

-- a test behind one that held, and behind one that did not
held : {value before other p q : Bool} → before ≡ p → before ≡ true → value ≡ other → other ≡ q → value ≡ p && q
held {q = q} is holds value other = value ∙ other ∙ sym (ap (λ (x : Bool). x && q) (sym is ∙ holds))

failed : {value before p : Bool} (q : Bool) → before ≡ p → before ≡ false → value ≡ before → value ≡ p && q
failed q is fails value = value ∙ fails ∙ sym (ap (λ (x : Bool). x && q) (sym is ∙ fails))

regrouped : (a b c d e : Bool) → (((a && b) && c) && d) && e ≡ a && (b && (c && (d && e)))
regrouped false b c d e = refl
regrouped true false c d e = refl
regrouped true true false d e = refl
regrouped true true true d e = refl

-- a name is told by the number of its kind
named : (k : DesignTokenKind) → sameb the_type k kind.Name ≡ same k kind.Name
named kind.Name = refl
named kind.Reserved = refl
named kind.System = refl
named kind.Number = refl
named kind.Literal = refl
named kind.Symbol = refl
named kind.End = refl

-- what an index behind the end gives
nothing : Found
nothing = record { kind = kind.Name; text = record { ref_ptr = (0, 0); now = [] }; place = record { line = 0; column = 0 } }

-- the tests of one token, and of one more, up to five
abbrev one : List Found → Bool
one xs = is_word (codes "module") (view (get_or xs 0 nothing))

abbrev two : List Found → Bool
two xs = one xs && same (get_or xs 1 nothing).kind kind.Name

abbrev three : List Found → Bool
three xs = two xs && is_word (codes "(") (view (get_or xs 2 nothing))

abbrev four : List Found → Bool
four xs = three xs && is_word (codes "input") (view (get_or xs 3 nothing))

abbrev five : List Found → Bool
five xs = four xs && is_name clk (view (get_or xs 4 nothing))

begins : (xs : List Found) → 5 ≤ length xs → not (five xs) ≡ begins_kind (views xs)
begins (t1 ∷ t2 ∷ t3 ∷ t4 ∷ t5 ∷ ts) enough =
    ap not (regrouped (is_word (codes "module") (view t1)) (same t2.kind kind.Name) (is_word (codes "(") (view t3)) (is_word (codes "input") (view t4)) (is_name clk (view t5)))
begins [] enough = absurd (omega arith)
begins (t1 ∷ []) enough = absurd (omega arith)
begins (t1 ∷ t2 ∷ []) enough = absurd (omega arith)
begins (t1 ∷ t2 ∷ t3 ∷ []) enough = absurd (omega arith)
begins (t1 ∷ t2 ∷ t3 ∷ t4 ∷ []) enough = absurd (omega arith)

pub returns-after-is_word-3 : goal.returns-after-is_word-3
unfolding nothing
returns-after-is_word-3 c =
    let xs = c.args.self.now.rest.now in
    let module_is : c.is_word.result ≡ one xs = c.is_word.ensures in
    let name_is : c.if-is_word.value ≡ two xs = elim c.if-is_word.branch [
      | then-is_word w ↦ held module_is w.if-is_word.true w.value-is (w.eq.ensures ∙ named (get_or xs 1 nothing).kind)
      | else-is_word w ↦ failed _ module_is w.if-is_word.false w.value-is
    ] in
    let opens_is : c.if-eq.value ≡ three xs = elim c.if-eq.branch [
      | then-eq w ↦ held name_is w.if-eq.true w.value-is w.is_word-then-eq.ensures
      | else-eq w ↦ failed _ name_is w.if-eq.false w.value-is
    ] in
    let input_is : c.if-is_word-2.value ≡ four xs = elim c.if-is_word-2.branch [
      | then-is_word-2 w ↦ held opens_is w.if-is_word-2.true w.value-is w.is_word-then-is_word-2.ensures
      | else-is_word-2 w ↦ failed _ opens_is w.if-is_word-2.false w.value-is
    ] in
    let clock_is : c.if-is_word-3.result ≡ five xs = elim c.if-is_word-3.branch [
      | then-is_word-3 w ↦ held input_is w.if-is_word-3.true w.result-is w.is_name.ensures
      | else-is_word-3 w ↦ failed _ input_is w.if-is_word-3.false w.result-is
    ] in
    ap not clock_is ∙ begins xs c.in-len5-up.len_at_least
