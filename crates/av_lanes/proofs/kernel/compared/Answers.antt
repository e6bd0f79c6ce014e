use Rattle.std.proofs.Common.{◌≡◌, ◌<◌, ◌^◌, ◌-◌, ◌+◌, ◌∙◌, ℕ, List, false, refl, ap, ap₂, get_or, subst, sym, nat_lt, nat_le, pow_pos}
use Rattle.std.proofs.lemmas.Nat.{mod_below}
use Rattle.av_base.specs.Words.{sum}
use Rattle.av_net.specs.declared.operation.Symbol.{Symbol}
use Rattle.av_net.specs.declared.operation.Symbol.TheVariants.{Add, Sub, Mul, And, Or, Equal, Unequal, Less, LessEqual, Greater, GreaterEqual}
use Rattle.av_net.specs.Meaning.{signed_test, bit}
use Rattle.av_lanes.proofs.Raised.{raised_less, raised_at_most}
use Rattle.av_lanes.proofs.kernel.compared.Goals.{in-Less, in-LessEqual, in-Greater, in-GreaterEqual, in_default}
use Rattle.av_lanes.proofs.kernel.compared.Goals as goal

-- any symbol that is none of the four orders
no_order : (s : Symbol) (w a b : ℕ) → (s ≡ Less → ⊥) → (s ≡ LessEqual → ⊥) → (s ≡ Greater → ⊥) → (s ≡ GreaterEqual → ⊥) → signed_test s w a b ≡ false
no_order Less w a b l le g ge = absurd (l refl)
no_order LessEqual w a b l le g ge = absurd (le refl)
no_order Greater w a b l le g ge = absurd (g refl)
no_order GreaterEqual w a b l le g ge = absurd (ge refl)
no_order Add w a b l le g ge = refl
no_order Sub w a b l le g ge = refl
no_order Mul w a b l le g ge = refl
no_order And w a b l le g ge = refl
no_order Or w a b l le g ge = refl
no_order Equal w a b l le g ge = refl
no_order Unequal w a b l le g ge = refl

pub returns : goal.returns
returns c k lt fx fy =
    let w = c.args.width.bits in
    let a = get_or c.args.left k 0 in
    let b = get_or c.args.right k 0 in
    let h = 2 ^ (w - 1) in
    let some : 0 < 2 ^ w = pow_pos w in
    let a-is : get_or c.raised-a.result k 0 ≡ sum w a h = c.raised-a.ensures k lt in
    let b-is : get_or c.raised-b.result k 0 ≡ sum w b h = c.raised-b.ensures k lt in
    let a-fits : get_or c.raised-a.result k 0 < 2 ^ w = subst (λ (n : ℕ). n < 2 ^ w) (sym a-is) (mod_below (a + h) (2 ^ w) some) in
    let b-fits : get_or c.raised-b.result k 0 < 2 ^ w = subst (λ (n : ℕ). n < 2 ^ w) (sym b-is) (mod_below (b + h) (2 ^ w) some) in
    let at : List ℕ → ℕ = λ xs. get_or xs k 0 in
    elim c.match-symbol.branch [
      | in-Less v ↦
          subst (λ (s : Symbol). at c.match-symbol.result ≡ bit (signed_test s w a b)) (sym v.in-Less.is)
          (ap at v.result-is ∙ v.are_less.ensures k lt a-fits b-fits ∙ ap₂ (λ (x y : ℕ). bit (nat_lt x y)) a-is b-is ∙ ap bit (raised_less w a b c.args.width.least fx fy))
      | in-LessEqual v ↦
          subst (λ (s : Symbol). at c.match-symbol.result ≡ bit (signed_test s w a b)) (sym v.in-LessEqual.is)
          (ap at v.result-is ∙ v.are_at_most.ensures k lt a-fits b-fits ∙ ap₂ (λ (x y : ℕ). bit (nat_le x y)) a-is b-is ∙ ap bit (raised_at_most w a b c.args.width.least fx fy))
      | in-Greater v ↦
          subst (λ (s : Symbol). at c.match-symbol.result ≡ bit (signed_test s w a b)) (sym v.in-Greater.is)
          (ap at v.result-is ∙ v.are_less-in-Greater.ensures k lt b-fits a-fits ∙ ap₂ (λ (x y : ℕ). bit (nat_lt x y)) b-is a-is ∙ ap bit (raised_less w b a c.args.width.least fy fx))
      | in-GreaterEqual v ↦
          subst (λ (s : Symbol). at c.match-symbol.result ≡ bit (signed_test s w a b)) (sym v.in-GreaterEqual.is)
          (ap at v.result-is ∙ v.are_at_most-in-GreaterEqual.ensures k lt b-fits a-fits ∙ ap₂ (λ (x y : ℕ). bit (nat_le x y)) b-is a-is ∙ ap bit (raised_at_most w b a c.args.width.least fy fx))
      | in_default v ↦
          ap at v.result-is ∙ v.constant.ensures k lt ∙ ap bit (sym (no_order c.args.symbol w a b v.in_default.not-Less v.in_default.not-LessEqual v.in_default.not-Greater v.in_default.not-GreaterEqual))
    ]
