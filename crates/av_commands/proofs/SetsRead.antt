-- The words of data sets that are read one after another.
use Rattle.std.proofs.Common.{◌≡◌, ℕ, ◌+◌, List, [], ◌∷◌, ◌++◌, length, Some, slice_get, refl, sym, ap, ◌∙◌, subst, arith, inl, inr, length-append}
use Rattle.std.specs.Prelude.{◌⊎◌, Result, Ok, Err, IfErr, IsErrAnd}
use Rattle.std.proofs.lemmas.Option.{slice_get_within}
use Rattle.av_base.proofs.Lists.{some_is, there_is, get_cases}
use Rattle.av_tree.specs.Values.{Assignment}
use Rattle.av_flat.specs.Trees.{FlatSystem}
use Rattle.av_flat.specs.Chained.{IsChained}
use Rattle.av_data.specs.declared.fault.DataFault.{DataFault}
use Rattle.av_data.specs.declared.fault.DataFault.TheVariants.{DataSyntax, DataUnknown, DataOutside, DataTwice, DataMissing, Memory}
use Rattle.av_data.specs.declared.sets.DataSet.{DataSet}
use Rattle.av_data.specs.Data.{SpellsInputs}
use Rattle.av_data.proofs.Outcome.{readable}
use Rattle.av_data.proofs.OneData.{not_both}
use Rattle.av_commands.specs.Streams.{IsBadSet, IsFirstBadSet, AreSpelled}

-- the first sets spell these words
pub record AreRead (s : FlatSystem) (sets : List DataSet) (n : ℕ) (inputs : List Assignment) : Type 0 where
  pub many : length inputs ≡ n
  pub each : (b : ℕ) (set : DataSet) (x : Assignment) → slice_get sets b ≡ Some set → slice_get inputs b ≡ Some x → SpellsInputs s set.bytes.now x

pub none_read : (s : FlatSystem) (sets : List DataSet) → AreRead s sets 0 []
none_read s sets = record { many = refl; each = λ b set x e f. absurd cc }

-- one set more
pub read_more : (s : FlatSystem) (sets : List DataSet) (n : ℕ) (inputs inputs' : List Assignment) (set : DataSet) (x : Assignment) → AreRead s sets n inputs → slice_get sets n ≡ Some set → SpellsInputs s set.bytes.now x
    → inputs' ≡ inputs ++ x ∷ [] → AreRead s sets (n + 1) inputs'
read_more s sets n inputs inputs' set x so there spells are = subst (AreRead s sets (n + 1)) (sym are) (record {
  many = (let m = so.many in omega (arith, m, length-append inputs (x ∷ [])));
  each = λ b other y e f. by b other y e (get_cases inputs (x ∷ []) b y f);
})
  where
    by : (b : ℕ) (other : DataSet) (y : Assignment) → slice_get sets b ≡ Some other → (slice_get inputs b ≡ Some y) ⊎ ((j : ℕ) × (b ≡ length inputs + j) × (slice_get (x ∷ []) j ≡ Some y)) → SpellsInputs s other.bytes.now y
    by b other y e (inl before) = so.each b other y e before
    by b other y e (inr last) =
        let within = slice_get_within (x ∷ []) last.0 y last.2 in
        let first : last.0 ≡ 0 = omega (arith, within) in
        let here : n ≡ b = (let m = so.many in let at = last.1 in omega (arith, m, at, first)) in
        let one : set ≡ other = some_is set other (sym there ∙ ap (slice_get sets) here ∙ e) in
        let words : x ≡ y = some_is x y (sym (ap (slice_get (x ∷ [])) first) ∙ last.2) in
        subst (λ (o : DataSet). SpellsInputs s o.bytes.now y) one (subst (λ (z : Assignment). SpellsInputs s set.bytes.now z) words spells)

-- all sets were read
pub all_read : (s : FlatSystem) (sets : List DataSet) (n : ℕ) (inputs : List Assignment) → n ≡ length sets → AreRead s sets n inputs → AreSpelled s sets inputs
all_read s sets n inputs all so = record { one_each = so.many ∙ all; each = so.each }

-- the sets before the first bad one spell words
pub first_bad : (s : FlatSystem) (sets : List DataSet) (n : ℕ) (inputs : List Assignment) (set : DataSet) (f : DataFault) → IsChained s → AreRead s sets n inputs → slice_get sets n ≡ Some set → IsBadSet s set f → IsFirstBadSet s sets f
first_bad s sets n inputs set f chained so there bad = record {
  number = n;
  set = set;
  is_set = there;
  is_bad = bad;
  none_before = λ k other g lt e worse.
      let x = there_is inputs k (let m = so.many in omega (arith, m, lt)) in
      not_both s (readable s (inr chained)) other.first_line other.bytes.now x.0 g (so.each k other x.0 e x.1) worse;
}

-- ---- faults

-- what holds of a fault holds where it is answered
pub if_answered : {T : Type 0} (P : DataFault → Type 0) (r : Result T DataFault) (f : DataFault) → IsErrAnd r (λ y. y ≡ f) → P f → IfErr r P
if_answered P (Ok t) f is p = tt
if_answered P (Err y) f is p = subst P (sym is) p

pub fault_or_memory : (f : DataFault) → (f ≡ Memory) ⊎ (f ≡ Memory → ⊥)
fault_or_memory Memory = inl refl
fault_or_memory (DataSyntax l) = inr (λ e. cc)
fault_or_memory (DataUnknown l) = inr (λ e. cc)
fault_or_memory (DataOutside l) = inr (λ e. cc)
fault_or_memory (DataTwice l) = inr (λ e. cc)
fault_or_memory (DataMissing name point) = inr (λ e. cc)
