-- What a recorder keeps, step by step.
use Rattle.std.proofs.Common.{◌≡◌, ℕ, ◌+◌, ◌<◌, List, [], ◌∷◌, ◌++◌, length, set, replicate, refl, sym, ◌∙◌, ap, arith, subst, All}
use Rattle.std.specs.Prelude.{slice_index}
use Rattle.std.proofs.lemmas.List.{get_or-replicate}
use Rattle.std.proofs.lemmas.Option.{slice_get_within}
use Rattle.av_net.specs.declared.netlist.Port.{Port}
use Rattle.av_net.specs.Lexemes.{IsName}
use Rattle.av_net.specs.Names.{names_of, AreDistinct}
use Rattle.av_wave.specs.declared.wave.Change.{Change}
use Rattle.av_wave.specs.declared.recorder.Recorder.TheInside.{Inside}
use Rattle.av_wave.specs.inner.Parts.{IsNext, FitsPort, MayEnd}
use Rattle.av_wave.specs.inner.Recorders.{part_of, IsKept}
use Rattle.av_wave.proofs.PartSteps.{first_part, part_told, part_next, words_first, words_told}

-- ---- at first

pub kept_first : (name : List ℕ) (ports : List Port) (words : List ℕ) (count : ℕ) (changes : List Change) → IsName name → All IsName (names_of ports) → AreDistinct (names_of ports) → words ≡ replicate count 0 → length words ≡ count → count ≡ length ports
    → changes ≡ [] → IsKept (record { name = name; ports = ports; cycle = 0; told = 0; changes = changes; words = words })
kept_first name ports words count changes named all apart zeros long is none =
    subst (λ (gs : List Change). IsKept (record { name = name; ports = ports; cycle = 0; told = 0; changes = gs; words = words })) (sym none) (record {
      part = first_part name ports named all apart;
      words = words_first name ports words (long ∙ is) (λ k lt. ap (λ (ws : List ℕ). slice_index ws k) zeros ∙ get_or-replicate count k 0 0 (omega arith));
    })

-- ---- one change more

pub port_within : {ports : List Port} {number value : ℕ} → FitsPort ports number value → number < length ports
port_within {ports = ports} {number = number} fit = slice_get_within ports number fit.port fit.at

pub word_room : (r : Inside) (port value : ℕ) → IsKept r → FitsPort (part_of r).ports port value → port < length r.words
word_room r port value kept fit =
    let lt : port < length r.ports = port_within fit in
    let count : length r.words ≡ length r.ports = kept.words.count in
    omega arith

pub kept_told : (r : Inside) (port value told : ℕ) (changes : List Change) (words : List ℕ) → IsKept r → IsNext (part_of r) port value → FitsPort (part_of r).ports port value
    → changes ≡ r.changes ++ record { cycle = r.cycle; port = port; value = value } ∷ [] → words ≡ set r.words port value → told ≡ port + 1
    → IsKept (record { name = r.name; ports = r.ports; cycle = r.cycle; told = told; changes = changes; words = words })
kept_told r port value told changes words kept next fit more is count =
    let g : Change = record { cycle = r.cycle; port = port; value = value } in
    let made : List Change → List ℕ → ℕ → Inside = λ gs ws n. record { name = r.name; ports = r.ports; cycle = r.cycle; told = n; changes = gs; words = ws } in
    let one : IsKept (made (r.changes ++ g ∷ []) (set r.words port value) (port + 1)) = record { part = part_told (part_of r) g kept.part next refl fit; words = words_told (part_of r) g r.words (port_within fit) kept.words } in
    subst (λ (n : ℕ). IsKept (made changes words n)) (sym count) (subst (λ (ws : List ℕ). IsKept (made changes ws (port + 1))) (sym is) (subst (λ (gs : List Change). IsKept (made gs (set r.words port value) (port + 1))) (sym more) one))

-- where there was no room for it
pub kept_same : (r : Inside) (changes : List Change) → IsKept r → changes ≡ r.changes → IsKept (record { name = r.name; ports = r.ports; cycle = r.cycle; told = r.told; changes = changes; words = r.words })
kept_same r changes kept same = subst (λ (gs : List Change). IsKept (record { name = r.name; ports = r.ports; cycle = r.cycle; told = r.told; changes = gs; words = r.words })) (sym same) kept

-- ---- the next cycle

pub kept_next : (r : Inside) → IsKept r → MayEnd (part_of r) → IsKept (record { name = r.name; ports = r.ports; cycle = r.cycle + 1; told = 0; changes = r.changes; words = r.words })
kept_next r kept may = record { part = part_next (part_of r) kept.part may; words = record { count = kept.words.count; each = kept.words.each } }
