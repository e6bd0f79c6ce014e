-- From each start at which the counter begins anew, the lanes of tasks that perform an array have the words of a solution for the inputs
-- that are presented from there on.
use Rattle.std.proofs.Common.{◌≡◌, ℕ, ◌+◌, ◌*◌, ◌<◌, ◌^◌, sym, refl, subst, ap, ◌∙◌, Option, Some}
use Rattle.av_tree.specs.Points.{Point}
use Rattle.av_tree.specs.Trees.{Text}
use Rattle.av_tree.specs.Values.{Assignment}
use Rattle.av_flat.specs.Signatures.{Signature}
use Rattle.av_flat.specs.Helped.{HelperWords, IsHelpedSolution}
use Rattle.av_kinds.specs.declared.counter.Counter.{Counter}
use Rattle.av_kinds.specs.declared.counter.Counter.TheVariants.{Cycles, Phases}
use Rattle.av_kinds.specs.Counters.{count_in, number_count}
use Rattle.av_kinds.specs.Histories.{Tasks, Signals, IsHistory}
use Rattle.av_history.specs.Performing.{Array, Lanes, Perform}
use Rattle.av_history.specs.Arranged.{IsArranged}
use Rattle.av_history.specs.Problems.{Presents, HaveWords, CountsAnew}
use Rattle.av_history.proofs.Resized.{assigned}
use Rattle.av_history.proofs.Shown.{Setting, signature_at, computed}
use Rattle.av_history.proofs.Serving.{IsPlacedAt, IsHandedAt, IsFedAt, serves}
use Rattle.av_history.proofs.Residues.{later_residue}

pub from_start : (a : Array) (lanes : Lanes) (tasks : Tasks) (count : ℕ → ℕ) → IsArranged a → Perform a lanes tasks count → (n : ℕ) (ports words : Signals) → IsHistory tasks count n ports words
    → (start : ℕ) → CountsAnew a count start → (x u : Assignment) (g : HelperWords) → IsHelpedSolution a.system a.helpers x u g → Presents a start x n ports → HaveWords a lanes start u n words
from_start a lanes tasks count arranged perform n ports words history start kept x u g solves presents place z v is_variable node p b computes lt =
    let setting : Setting a.system a.helpers tasks count (IsFedAt a start) (IsPlacedAt a lanes start) (IsHandedAt a lanes start) x u g n ports words = record {
      serves = serves a arranged lanes start tasks count perform kept;
      solves = solves;
      history = history;
      presents = λ k name y c fed late. presented k name y c fed late;
    } in
    sym (ap (λ (o : Option Signature). assigned u o z) (signature_at a.system.variables place v is_variable))
    ∙ computed a.system a.helpers tasks count (IsFedAt a start) (IsPlacedAt a lanes start) (IsHandedAt a lanes start) x u g n ports words setting (b + start) lt place z (lanes.of_value p)
    (record { variable = v; is_variable = is_variable; is_node = node; cell = p; lane_is = refl; cycle = b; starts = refl; computes = computes })
  where
    presented : (k : ℕ) (name : Text) (y : Point) (c : ℕ) → IsFedAt a start k name y c → c < n → Some (ports c k) ≡ x name y
    presented k name y c fed late =
        let l = fed.line in
        let here = presents l fed.is_line (subst (λ m. m < n) (sym fed.starts) late) in
        let in_cycle = subst (λ m. Some (ports m l.port) ≡ x l.entry.variable l.entry.point) fed.starts here in
        let at_port = subst (λ m. Some (ports c m) ≡ x l.entry.variable l.entry.point) fed.port_is in_cycle in
        let of_input = subst (λ (t : Text). Some (ports c k) ≡ x t l.entry.point) fed.name_is at_port in
        subst (λ (q : Point). Some (ports c k) ≡ x name q) fed.point_is of_input

-- so many times its numbers later a counter has the same number
pub counts_anew : (counter : Counter) (k c : ℕ) → count_in counter (c + k * number_count counter) ≡ count_in counter c
counts_anew Cycles k c = later_residue c k (2 ^ 12)
counts_anew (Phases period) k c = later_residue c k period

pub each_problem : (a : Array) (lanes : Lanes) (tasks : Tasks) (counter : Counter) → IsArranged a → Perform a lanes tasks (count_in counter) → (n : ℕ) (ports words : Signals) → IsHistory tasks (count_in counter) n ports words
    → (k : ℕ) (x u : Assignment) (g : HelperWords) → IsHelpedSolution a.system a.helpers x u g → Presents a (k * number_count counter) x n ports → HaveWords a lanes (k * number_count counter) u n words
each_problem a lanes tasks counter arranged perform n ports words history k x u g solves presents =
    from_start a lanes tasks (count_in counter) arranged perform n ports words history (k * number_count counter) (λ p c m z there. counts_anew counter k c) x u g solves presents
