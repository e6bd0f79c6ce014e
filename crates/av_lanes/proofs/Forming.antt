-- Assignments in forms.
use Rattle.std.proofs.Common.{◌≡◌, ℕ, ◌<◌, List, length, map, get_or, sym, ◌∙◌, ap, subst}
use Rattle.std.proofs.lemmas.List.{length-map, get_or-map}
use Rattle.av_net.specs.declared.netlist.Module.{Module}
use Rattle.av_clock.proofs.Computing.{IsOne, each_one}
use Rattle.av_clock.proofs.Resolved.{at_item}
use Rattle.av_lanes.specs.declared.forms.Formed.{Formed}
use Rattle.av_lanes.specs.inner.Forms.{assignment_of, IsMasked, AreFormed}

-- one that is read is the assignment at its place
pub formed_at : (drives : List Formed) (i : ℕ) (drive : Formed) → i < length drives → drive ≡ get_or drives i drive → assignment_of drive ≡ get_or (map assignment_of drives) i (assignment_of drive)
formed_at drives i drive lt at = ap assignment_of at ∙ sym (get_or-map assignment_of drives i drive (assignment_of drive) lt)

-- there are as many
pub formed_within : (drives : List Formed) (i : ℕ) → i < length drives → i < length (map assignment_of drives)
formed_within drives i lt = subst (λ n. i < n) (sym (length-map drives assignment_of)) lt

-- each is the assignment of a drive
pub formed_one : (m : Module) (drives : List Formed) (i : ℕ) (drive : Formed) → AreFormed m drives → i < length drives → drive ≡ get_or drives i drive → IsOne m (assignment_of drive)
formed_one m drives i drive are lt at =
    at_item (IsOne m) (map assignment_of drives) i (assignment_of drive) (formed_within drives i lt) (formed_at drives i drive lt at)
    (each_one m are.computed.assignments (map assignment_of drives) are.computed.assigned are.computed.filtered)

-- and has its mask
pub formed_masked : (m : Module) (drives : List Formed) (i : ℕ) (drive : Formed) → AreFormed m drives → i < length drives → drive ≡ get_or drives i drive → IsMasked drive.form
formed_masked m drives i drive are lt at = at_item (λ (it : Formed). IsMasked it.form) drives i drive lt at are.masked
