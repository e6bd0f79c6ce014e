-- Outputs that are written set by set.
use Rattle.std.proofs.Common.{◌≡◌, ℕ, zero, suc, ◌+◌, List, [], ◌∷◌, ◌++◌, take, Option, Some, slice_get, refl, sym, ap, ◌∙◌, subst, arith, append_assoc}
use Rattle.std.proofs.lemmas.List.{append-nil}
use Rattle.av_base.specs.Outside.{Adds, AddsPrefix}
use Rattle.av_base.proofs.Lists.{some_is}
use Rattle.av_base.proofs.Moves.{Adds-more}
use Rattle.av_commands.specs.Eights.{set_line, set_lines}
use Rattle.av_commands.proofs.Outputs.{front_more, front_after}

-- one set more
set_lines_more : (n k : ℕ) (outs : List (List ℕ)) (out : List ℕ) → slice_get outs k ≡ Some out → set_lines n (take (suc k) outs) ≡ set_lines n (take k outs) ++ (set_line (n + k) ++ out)
set_lines_more n k [] out e = absurd cc
set_lines_more n zero (one ∷ outs) out e =
    let same : one ≡ out = some_is one out e in
    let first : n ≡ n + 0 = omega arith in
    append-nil (set_line n ++ one) ∙ ap (λ z. set_line n ++ z) same ∙ ap (λ m. set_line m ++ out) first
set_lines_more n (suc k) (one ∷ outs) out e =
    let next : (n + 1) + k ≡ n + suc k = omega arith in
    ap (λ z. (set_line n ++ one) ++ z) (set_lines_more (n + 1) k outs out e ∙ ap (λ m. set_lines (n + 1) (take k outs) ++ (set_line m ++ out)) next)
    ∙ sym (append_assoc (set_line n ++ one) (set_lines (n + 1) (take k outs)) (set_line (n + suc k) ++ out))

-- the first sets, and what follows them
set_lines_split : (n k : ℕ) (outs : List (List ℕ)) → (rest : List ℕ) × (set_lines n outs ≡ set_lines n (take k outs) ++ rest)
set_lines_split n zero outs = (set_lines n outs, refl)
set_lines_split n (suc k) [] = ([], refl)
set_lines_split n (suc k) (one ∷ outs) =
    let (rest, e) = set_lines_split (n + 1) k outs in
    (rest, ap (λ z. (set_line n ++ one) ++ z) e ∙ sym (append_assoc (set_line n ++ one) (set_lines (n + 1) (take k outs)) rest))

module _ (k : ℕ) (outs : List (List ℕ)) (out : List ℕ) (there : slice_get outs k ≡ Some out) (held held' : Option (List ℕ)) (so : Adds held held' (set_lines 1 (take k outs))) where
  more : set_lines 1 (take (k + 1) outs) ≡ set_lines 1 (take k outs) ++ (set_line (k + 1) ++ out)
  more =
      let next : k + 1 ≡ suc k = omega arith in
      let number : 1 + k ≡ k + 1 = omega arith in
      ap (λ n. set_lines 1 (take n outs)) next ∙ set_lines_more 1 k outs out there ∙ ap (λ n. set_lines 1 (take k outs) ++ (set_line n ++ out)) number

  -- the line of the set and its output were written
  pub set_told : (held1 held2 : Option (List ℕ)) → Adds held' held1 (set_line (k + 1)) → Adds held1 held2 out → Adds held held2 (set_lines 1 (take (k + 1) outs))
  set_told held1 held2 line adds =
      subst (Adds held held2) (sym more) (Adds-more held held' held2 (set_lines 1 (take k outs)) (set_line (k + 1) ++ out) so (Adds-more held' held1 held2 (set_line (k + 1)) out line adds))

  -- all sets begin with these
  begins : (held1 : Option (List ℕ)) → AddsPrefix held' held1 (set_line (k + 1) ++ out) → AddsPrefix held held1 (set_lines 1 outs)
  begins held1 front =
      let (rest, split) = set_lines_split 1 (k + 1) outs in
      let all : set_lines 1 outs ≡ (set_lines 1 (take k outs) ++ (set_line (k + 1) ++ out)) ++ rest = split ∙ ap (λ z. z ++ rest) more in
      subst (AddsPrefix held held1) (sym all)
      (front_more held held1 (set_lines 1 (take k outs) ++ (set_line (k + 1) ++ out)) rest (front_after held held' held1 (set_lines 1 (take k outs)) (set_line (k + 1) ++ out) so front))

  -- a front of its line was written
  pub line_failed : (held1 : Option (List ℕ)) → AddsPrefix held' held1 (set_line (k + 1)) → AddsPrefix held held1 (set_lines 1 outs)
  line_failed held1 front = begins held1 (front_more held' held1 (set_line (k + 1)) out front)

  -- its line was written, and a front of its output
  pub out_failed : (held1 held2 : Option (List ℕ)) → Adds held' held1 (set_line (k + 1)) → AddsPrefix held1 held2 out → AddsPrefix held held2 (set_lines 1 outs)
  out_failed held1 held2 line front = begins held2 (front_after held' held1 held2 (set_line (k + 1)) out line front)
