-- Data sets of an input, one after another.
use Rattle.std.proofs.Common.{◌≡◌, ℕ, ◌+◌, ◌-◌, List, [], ◌∷◌, ◌++◌, sym, subst, arith, append_assoc}
use Rattle.av_data.specs.declared.sets.DataSet.{DataSet}
use Rattle.av_data.specs.Divisions.{lines_before, IsDivided, HasNoMark}
use Rattle.av_data.specs.Sets.{AreSets, last, more}

-- the sets that these bytes begin with; what follows them are the sets of the rest
abbrev pub Begins : List ℕ → ℕ → List DataSet → List ℕ → ℕ → Type 0
Begins bytes first sets rest line = (later : List DataSet) → AreSets rest line later → AreSets bytes first (sets ++ later)

module _ (bytes : List ℕ) (first : ℕ) (sets : List DataSet) (rest : List ℕ) (line : ℕ) (begins : Begins bytes first sets rest line) (set : DataSet) (at : set.first_line ≡ line) where
  pub one_more : (behind : List ℕ) (number : ℕ) → IsDivided rest set.bytes.now behind number → Begins bytes first (sets ++ set ∷ []) behind (line + (number - 1))
  one_more behind number divided later are =
      let next : line + (number - 1) ≡ line + lines_before rest + 1 = omega (arith, divided.number) in
      let those_behind : AreSets behind (line + lines_before rest + 1) later = subst (λ (n : ℕ). AreSets behind n later) next are in
      let those : AreSets rest line (set ∷ later) = more divided at those_behind in
      subst (λ (xs : List DataSet). AreSets bytes first xs) (sym (append_assoc sets (set ∷ []) later)) (begins (set ∷ later) those)

  pub all_sets : HasNoMark rest → set.bytes.now ≡ rest → AreSets bytes first (sets ++ set ∷ [])
  all_sets unmarked same =
      let only : AreSets rest line (set ∷ []) = last unmarked same at in
      begins (set ∷ []) only
