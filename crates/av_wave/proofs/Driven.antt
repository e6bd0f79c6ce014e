-- The names that drives drive, and the places of those of outputs.
use Rattle.std.proofs.Common.{◌≡◌, ℕ, ◌+◌, ◌^◌, ◌<◌, List, [], ◌∷◌, ◌++◌, length, get_or, Some, slice_get, option_map, sym, ap, ◌∙◌, subst, arith, inl, inr, length-append}
use Rattle.std.specs.Prelude.{slice_index, Contains}
use Rattle.std.proofs.lemmas.Bool.{cases_lt}
use Rattle.std.proofs.lemmas.List.{get_or-map, length-map, get_or_append_left, get_or-append-add}
use Rattle.std.proofs.lemmas.List.Elements.{All-contains, Contains-append_left}
use Rattle.av_net.specs.declared.netlist.Port.{Port}
use Rattle.av_net.specs.declared.netlist.Drive.{Drive}
use Rattle.av_net.specs.declared.netlist.Module.{Module}
use Rattle.av_net.specs.Names.{names_of, targets_of, wire_names}
use Rattle.av_net.specs.Sound.{IsSound}
use Rattle.av_wave.specs.Clocking.{AreWires}
use Rattle.av_data.proofs.Lined.{name_there}

pub target_name : (drives : List Drive) (i : ℕ) (drive : Drive) → i < length drives → drive ≡ get_or drives i drive → (i < length (targets_of drives)) × (drive.target ≡ get_or (targets_of drives) i drive.target)
target_name drives i drive lt at =
    (omega (arith, length-map drives (λ (d : Drive). d.target)), ap (λ (d : Drive). d.target) at ∙ sym (get_or-map (λ (d : Drive). d.target) drives i drive drive.target lt))

-- they are as many as the drives
pub few_targets : (drives : List Drive) (targets : List (List ℕ)) → targets ≡ targets_of drives → length drives < 2 ^ 32 → length targets < 2 ^ 32
few_targets drives targets is few = subst (λ (ts : List (List ℕ)). length ts < 2 ^ 32) (sym is) (omega (arith, few, length-map drives (λ (d : Drive). d.target)))

-- and names as many as the ports
pub few_names : (ports : List Port) (names : List (List ℕ)) → names ≡ names_of ports → length ports < 2 ^ 32 → length names < 2 ^ 32
few_names ports names is few = subst (λ (ns : List (List ℕ)). length ns < 2 ^ 32) (sym is) (omega (arith, few, length-map ports (λ (p : Port). p.name)))

-- an output is driven
pub output_driven : (m : Module) (k : ℕ) (port : Port) → IsSound m → slice_get m.outputs k ≡ Some port → Contains (targets_of m.drives) port.name
output_driven m k port sound e =
    All-contains (Contains (targets_of m.drives)) (wire_names m) port.name sound.wires_driven (Contains-append_left (names_of m.outputs) (names_of m.wires) port.name (name_there m.outputs k port e))

-- one output more
pub wires_more : (m : Module) (n : ℕ) (wires wires' : List ℕ) (place : ℕ) (port : Port) → AreWires m n wires → slice_get m.outputs n ≡ Some port → slice_get (targets_of m.drives) place ≡ Some port.name → wires' ≡ wires ++ place ∷ [] → AreWires m (n + 1) wires'
wires_more m n wires wires' place port are there here is = subst (AreWires m (n + 1)) (sym is) (record {
  count = (let c = are.count in omega (arith, c, length-append wires (place ∷ [])));
  drives = λ k p lt e. elim (cases_lt k n) [
    | inl before ↦ subst (λ w. slice_get (targets_of m.drives) w ≡ Some p.name) (sym (get_or_append_left wires (place ∷ []) 0 k (let c = are.count in omega (arith, c, before)))) (are.drives k p before e)
    | inr now ↦
        let last : length wires + 0 ≡ k = (let c = are.count in omega (arith, c, now, lt)) in
        let value : slice_index (wires ++ place ∷ []) k ≡ place = ap (slice_index (wires ++ place ∷ [])) (sym last) ∙ get_or-append-add wires (place ∷ []) 0 0 in
        let same : n ≡ k = omega (arith, now, lt) in
        let one : Some port ≡ Some p = sym there ∙ ap (slice_get m.outputs) same ∙ e in
        ap (slice_get (targets_of m.drives)) value ∙ here ∙ ap (option_map (λ (q : Port). q.name)) one
  ];
})
