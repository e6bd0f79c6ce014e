-- The bytes of a text have one flat system with its sizes, that has one normal form, and that is made into one chained system.
use Rattle.std.proofs.Common.{◌≡◌, ℕ, List, subst}
use Rattle.av_parse.proofs.Parsed.{one_text}
use Rattle.av_flat.specs.Trees.{FlatSystem}
use Rattle.av_names.specs.declared.size.Size.{Size}
use Rattle.av_normal.specs.NormalForm.{IsNormalForm}
use Rattle.av_normal.specs.NormalFaults as normalised
use Rattle.av_normal.proofs.Unique as normal
use Rattle.av_serial.specs.declared.fault.SerialFault.{SerialFault}
use Rattle.av_serial.specs.declared.fault.SerialFault.TheVariants as serial_fault
use Rattle.av_serial.specs.SerialForm.{IsSerialForm}
use Rattle.av_serial.specs.SerialFaults as serialised
use Rattle.av_serial.proofs.Unique as serial
use Rattle.av_compile.specs.Checked.{Flattens}
use Rattle.av_compile.specs.Scheduled.{Normalises, Serialises}
use Rattle.av_compile.specs.inner.Chaining.{IsChained}
use Rattle.av_compile.proofs.FirstFaults.{same_flat}

pub one_flat : (bytes : List ℕ) (words : List Size) (width : ℕ) (s t : FlatSystem) → Flattens bytes words width s → Flattens bytes words width t → t ≡ s
one_flat bytes words width s t g h = same_flat words width g.system h.system s t g.flat h.flat (one_text bytes h.system g.system h.text g.text)

pub one_normal : (s t u : FlatSystem) → normalised.IsGiven s t → normalised.IsGiven s u → t ≡ u
one_normal s t u g h = normal.unique s t u g.form h.form

pub one_normalised : (bytes : List ℕ) (words : List Size) (width : ℕ) (s t : FlatSystem) → Normalises bytes words width s → Normalises bytes words width t → s ≡ t
one_normalised bytes words width s t g h =
    normal.unique h.flat s t (subst (λ (f : FlatSystem). IsNormalForm f s) (one_flat bytes words width h.flat g.flat h.flattens g.flattens) g.given.form) h.given.form

pub one_chained : (bytes : List ℕ) (words : List Size) (width : ℕ) (s t : FlatSystem) → Serialises bytes words width s → Serialises bytes words width t → s ≡ t
one_chained bytes words width s t g h =
    let same = one_normalised bytes words width g.normal h.normal g.normalises h.normalises in
    serial.unique h.normal s t (subst (λ (n : FlatSystem). IsSerialForm n s) same g.given.form) h.given.form

pub chain_of : (bytes : List ℕ) (words : List Size) (width : ℕ) (s t : FlatSystem) → Flattens bytes words width s → Serialises bytes words width t → IsChained s t
chain_of bytes words width s t flattens h =
    let own : IsChained h.normalises.flat t = record { proper = h.normalises.proper; normal = h.normal; given = h.normalises.given; serial = h.given } in
    subst (λ (f : FlatSystem). IsChained f t) (one_flat bytes words width s h.normalises.flat flattens h.normalises.flattens) own

-- where the reductions become chains, those of the normal form have no fault
pub chained_only : (s t normal : FlatSystem) → IsChained s t → normalised.IsGiven s normal → (f : SerialFault) → serialised.IsFault normal f → f ≡ serial_fault.Memory
chained_only s t n h given f fault = h.serial.no_cause f (subst (λ (m : FlatSystem). serialised.IsFault m f) (one_normal s n h.normal given h.given) fault)
