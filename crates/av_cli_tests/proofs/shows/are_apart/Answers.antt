use Rattle.std.proofs.Common.{◌≡◌, ◌≢◌, ◌∙◌, ◌⊎◌, inl, inr, ℕ, zero, suc, ◌+◌, ◌-◌, ◌<◌, All, List, length, get_or, drop, refl, sym, ap, subst, arith}
use Rattle.std.proofs.lemmas.List.{get_or-drop, length-drop, take_rest}
use Rattle.std.proofs.lemmas.Option.{get_or_from_slice_get}
use Rattle.av_net.specs.declared.design.Entry.{Entry}
use Rattle.av_commands.proofs.Fed.{at_index}
use Rattle.av_cli_tests.proofs.shows.are_apart.Goals as goal

before_next : (at n : ℕ) → at < n + 1 → (at < n) ⊎ (n ≡ at)
before_next zero zero lt = inr refl
before_next zero (suc n) lt = inl (omega arith)
before_next (suc at) zero lt = absurd (omega (arith, lt))
before_next (suc at) (suc n) lt = elim (before_next at n (omega (arith, lt))) [ inl less ↦ inl (omega (arith, less)) | inr same ↦ inr (ap suc same) ]

-- a line is apart from each behind it
one_apart : (lines : List Entry) (i b : ℕ) (item e : Entry) → item ≡ get_or lines i item → i < length lines → All (λ other. item.wire ≡ other.wire → item.cycle ≢ other.cycle) (drop (i + 1) lines) → i < b → b < length lines
    → (get_or lines i e).wire ≡ (get_or lines b e).wire → (get_or lines i e).cycle ≢ (get_or lines b e).cycle
one_apart lines i b item e is within all before lt wire cycle =
    let here : get_or lines i e ≡ item = get_or_from_slice_get lines i item e (at_index lines i item within is) in
    let place : i + 1 + (b - (i + 1)) ≡ b = omega (arith, before) in
    let there : get_or (drop (i + 1) lines) (b - (i + 1)) e ≡ get_or lines b e = get_or-drop (i + 1) lines (b - (i + 1)) e ∙ ap (λ n. get_or lines n e) place in
    let inside : b - (i + 1) < length (drop (i + 1) lines) = (let l = length-drop (i + 1) lines in omega (arith, l, before, lt)) in
    all (b - (i + 1)) e inside (ap (λ (x : Entry). x.wire) (sym here) ∙ wire ∙ ap (λ (x : Entry). x.wire) (sym there)) (ap (λ (x : Entry). x.cycle) (sym here) ∙ cycle ∙ ap (λ (x : Entry). x.cycle) (sym there))

pub loop-i-preserved : goal.loop-i-preserved
loop-i-preserved c = λ a b e lt before within.
    elim (before_next a c.loop-i.i lt) [
      | inl less ↦ c.loop-i.invariant a b e less before within
      | inr same ↦ (
          let all = subst (λ (xs : List Entry). All (λ (other : Entry). c.index-lines-i.result.wire ≡ other.wire → c.index-lines-i.result.cycle ≢ other.cycle) xs) (take_rest c.args.lines.now (c.loop-i.i + 1)) (c.if-not-is_apart.ensures refl) in
          subst (λ (n : ℕ). (get_or c.args.lines.now n e).wire ≡ (get_or c.args.lines.now b e).wire → (get_or c.args.lines.now n e).cycle ≢ (get_or c.args.lines.now b e).cycle) same
          (one_apart c.args.lines.now c.loop-i.i b c.index-lines-i.result e c.index-lines-i.is c.loop-i-test.true all (subst (λ (n : ℕ). n < b) (sym same) before) within))
    ]
