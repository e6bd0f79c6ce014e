-- A text whose system has a schedule has one solution for all words of its inputs: they are inputs of the flat system, of its normal
-- form and of the chained system, and the one solution of that is the text's.
use Rattle.std.proofs.Common.{◌≡◌, ℕ, ◌<◌, ◌≤◌, List, length, ap, subst, ◌∙◌}
use Rattle.av_parse.proofs.Parsed.{one_text}
use Rattle.av_tree.specs.Trees.{System}
use Rattle.av_tree.specs.Values.{Assignment}
use Rattle.av_tree.specs.Solutions as text
use Rattle.av_flat.specs.declared.timed.Timed.{Timed}
use Rattle.av_flat.specs.Trees.{FlatSystem, view_system}
use Rattle.av_flat.specs.Legal.{IsLegal}
use Rattle.av_flat.specs.OneSolution.{AreInputs, HasOneSolution}
use Rattle.av_flat.specs.WellFormed.{IsWellFormed}
use Rattle.av_flat.proofs.Cycles.{scheduled_once}
use Rattle.av_names.specs.declared.size.Size.{Size}
use Rattle.av_names.specs.Sizes.{instance_of}
use Rattle.av_names.specs.Flattened.{flat_of}
use Rattle.av_names.specs.Refusals.{IsAccepted}
use Rattle.av_names.specs.Texts.{IsOfText}
use Rattle.av_names.proofs.Resolved.{is_regular, is_well_formed}
use Rattle.av_names.proofs.Solutions as names
use Rattle.av_normal.proofs.Systems as normal
use Rattle.av_normal.specs.NormalFaults as normalised
use Rattle.av_serial.proofs.OnlySolutions as serial
use Rattle.av_serial.specs.SerialFaults as serialised
use Rattle.av_compile.specs.Scheduled.{Serialises, IsScheduled, HasOneSolutionEach}

-- a flat system has one solution where what its normal form is made into has one for each of its inputs
one_of_flat : (s n t : FlatSystem) → IsWellFormed s → normalised.IsGiven s n → serialised.IsGiven n t → ((x : Assignment) → AreInputs t x → HasOneSolution t x)
    → (x : Assignment) → AreInputs s x → HasOneSolution s x
one_of_flat s n t good given made one x inputs =
    let of_normal = normal.same_inputs s n good given.form x inputs in
    let of_chains = serial.same_inputs n t given.kept made.form x of_normal in
    normal.one_solution s n good given.form x (serial.one_solution n t given.kept made.form x (one x of_chains))

-- and so has an accepted system of a text
one_of_text : (s : System) (words : List Size) (width : ℕ) (n t : FlatSystem) → 1 ≤ width → IsOfText s → IsAccepted s words → normalised.IsGiven (flat_of (instance_of s words width)) n
    → serialised.IsGiven n t → ((x : Assignment) → AreInputs t x → HasOneSolution t x)
    → (x : Assignment) → text.AreInputs (instance_of s words width) x → text.HasOneSolution (instance_of s words width) x
one_of_text s words width n t wide of_text accepted given made one x inputs =
    let i = instance_of s words width in
    let regular = is_regular s words width of_text accepted in
    let good = is_well_formed s words width of_text accepted wide in
    names.one_solution i regular x (one_of_flat (flat_of i) n t good given made one x (names.same_inputs i regular x inputs))

-- the equations of a text have one solution where the system that they are made into has a schedule
pub one_solution_of : (bytes : List ℕ) (words : List Size) (width : ℕ) (t : Timed) → length bytes < 4294967295 → 1 ≤ width → Serialises bytes words width (view_system t.flat) → IsLegal t
    → HasOneSolutionEach bytes words width
one_solution_of bytes words width t short wide h legal = λ s program x inputs.
    let normalises = h.normalises in
    let flattens = normalises.flattens in
    let same : flattens.system ≡ s = one_text bytes flattens.system s flattens.text program in
    let given = subst (λ (f : FlatSystem). normalised.IsGiven f h.normal) (flattens.flat ∙ ap (λ (y : System). flat_of (instance_of y words width)) same) normalises.given in
    one_of_text s words width h.normal (view_system t.flat) wide
    (record { bytes = bytes; short = short; text = program })
    (subst (λ (y : System). IsAccepted y words) same flattens.accepted)
    given
    h.given
    (λ y. scheduled_once (view_system t.flat) 4 t.times legal.chained legal.proper legal.schedule y)
    x
    inputs

pub one_solution_each : (bytes : List ℕ) (words : List Size) (width c : ℕ) (t : Timed) → length bytes < 4294967295 → 1 ≤ width → IsScheduled bytes words width c t
    → HasOneSolutionEach bytes words width
one_solution_each bytes words width c t short wide h = one_solution_of bytes words width t short wide h.serialises h.legal
