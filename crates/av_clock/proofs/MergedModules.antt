-- The merged module: what its words say at sources, and that it is sound.
use Rattle.std.proofs.Common.{◌≡◌, ◌≢◌, ℕ, suc, ◌+◌, ◌<◌, ◌≤◌, List, [], ◌∷◌, ◌++◌, map, length, get_or, take, slice_get, Some, refl, sym, ◌∙◌, ap, subst, arith, inl, inr, Bool, true, false, if◌then◌else◌, append_assoc, pow_pos}
use Rattle.std.specs.Prelude.{All, Contains}
use Rattle.std.specs.Str.{bytes_eq}
use Rattle.std.proofs.lemmas.List.{get_or-map, get_or_default, length-map, append-nil, take-map, take_all}
use Rattle.std.proofs.lemmas.List.Elements.{All-map, All-contains, All-take, Contains-append_left, Contains-append_right, Contains-append_cases}
use Rattle.std.proofs.lemmas.Option.{slice_get-get_or}
use Rattle.std.proofs.lemmas.Slice.Eq.{bytes_eq-Decides}
use Rattle.av_base.proofs.Among.{among_cases}
use Rattle.av_base.specs.Words.{IsWord}
use Rattle.av_base.specs.declared.width.Width.{Width}
use Rattle.av_net.specs.declared.operation.Operand.{Operand}
use Rattle.av_net.specs.declared.operation.Operand.TheVariants.{Name, Literal}
use Rattle.av_net.specs.declared.operation.Operation.{Operation}
use Rattle.av_net.specs.declared.operation.Operation.TheVariants.{Plain, Binary, Signed, Choose, Part, Widen}
use Rattle.av_net.specs.declared.netlist.Port.{Port}
use Rattle.av_net.specs.declared.netlist.Drive.{Drive}
use Rattle.av_net.specs.declared.netlist.Step.{Step}
use Rattle.av_net.specs.declared.netlist.Module.{Module}
use Rattle.av_net.specs.Meaning.{word_of, operand_width, result_of, EachOperand}
use Rattle.av_net.specs.Names.{AreDistinct, IsAmong, names_of, given_names, wire_names, all_names, targets_of, registers_of, declarations, width_in, width_of}
use Rattle.av_net.specs.Sound.{IsSound, IsInOrder, SuitsWidth, IsFitting, ComparesByOrder, symbol_width}
use Rattle.av_net.proofs.Declared.{names_declared}
use Rattle.av_net.proofs.Settles.{names_distinct, given_or_driven}
use Rattle.av_clock.specs.Named.{named}
use Rattle.av_clock.specs.Merged.{source_of, sourced, sourced_operation, zero_of, merged_drive, merged_step, merged, known_before, AreMerged, resolved}
use Rattle.av_clock.proofs.Lookup.{look_at}
use Rattle.av_clock.proofs.Readings.{in_order_at}
use Rattle.av_clock.proofs.Resolved.{target_declared}

-- ---- sources

-- a name among others has a place
pub place_of : (names : List (List ℕ)) (name : List ℕ) → Contains names name → (k : ℕ) × (k < length names) × (slice_get names k ≡ Some name)
place_of names name (k, lt, is) = (k, lt, slice_get-get_or names k name lt ∙ ap Some is)

-- the source of a name stands at the source of its place
pub source_at : (m : Module) (sources : List ℕ) (place : ℕ) (name : List ℕ) → AreDistinct (all_names m) → length sources ≡ length (all_names m) → slice_get (all_names m) place ≡ Some name
    → source_of m sources name ≡ get_or (all_names m) (get_or sources place 0) name
source_at m sources place name distinct size at = ap (λ i. get_or (all_names m) i name) (look_at (all_names m) sources place name distinct size at)

pub source_found : (m : Module) (sources : List ℕ) (place : ℕ) (name : List ℕ) → AreDistinct (all_names m) → length sources ≡ length (all_names m) → slice_get (all_names m) place ≡ Some name
    → get_or sources place 0 < length (all_names m) → slice_get (all_names m) (get_or sources place 0) ≡ Some (source_of m sources name)
source_found m sources place name distinct size at inside = slice_get-get_or (all_names m) (get_or sources place 0) name inside ∙ ap Some (sym (source_at m sources place name distinct size at))

-- what is seen of a place is the word at its source
pub resolved_at : (sources words : List ℕ) (place : ℕ) → place < length sources → get_or (resolved sources words) place 0 ≡ get_or words (get_or sources place 0) 0
resolved_at sources words place lt = get_or-map (λ source. get_or words source 0) sources place 0 0 lt

pub resolved_size : (sources words : List ℕ) → length (resolved sources words) ≡ length sources
resolved_size sources words = length-map sources (λ source. get_or words source 0)

-- and of a name
pub source_word : (m : Module) (sources words : List ℕ) (name : List ℕ) → IsSound m → AreMerged m sources → length words ≡ length (all_names m) → Contains (all_names m) name
    → named m (resolved sources words) name ≡ named m words (source_of m sources name)
source_word m sources words name sound are long among =
    let distinct = names_distinct m sound in
    let (k, lt, at) = place_of (all_names m) name among in
    let found = source_found m sources k name distinct are.size at (are.within k lt) in
    look_at (all_names m) (resolved sources words) k name distinct (resolved_size sources words ∙ are.size) at
    ∙ resolved_at sources words k (rw are.size lt)
    ∙ sym (look_at (all_names m) words (get_or sources k 0) (source_of m sources name) distinct long found)

pub sourced_word : (m : Module) (sources words : List ℕ) (operand : Operand) → IsSound m → AreMerged m sources → length words ≡ length (all_names m) → IsAmong (all_names m) operand
    → word_of (named m (resolved sources words)) operand ≡ word_of (named m words) (sourced m sources operand)
sourced_word m sources words (Name name) sound are long among = source_word m sources words name sound are long among
sourced_word m sources words (Literal width value) sound are long among = refl

pub sourced_width : (m : Module) (sources : List ℕ) (operand : Operand) → AreMerged m sources → IsAmong (all_names m) operand → operand_width (width_of m) (sourced m sources operand) ≡ operand_width (width_of m) operand
sourced_width m sources (Name name) are among = are.widths name among
sourced_width m sources (Literal width value) are among = refl

-- an operation gives of what is seen what it gives of the words at sources
pub sourced_result : (m : Module) (sources words : List ℕ) (operation : Operation) → IsSound m → AreMerged m sources → length words ≡ length (all_names m) → EachOperand (IsAmong (all_names m)) operation
    → result_of (width_of m) (named m (resolved sources words)) operation ≡ result_of (width_of m) (named m words) (sourced_operation m sources operation)
sourced_result m sources words (Plain a) sound are long among = sourced_word m sources words a sound are long among
sourced_result m sources words (Binary a symbol b) sound are long among =
    let w : operand_width (width_of m) (sourced m sources a) ≡ operand_width (width_of m) a = sourced_width m sources a are among.0 in
    let l : word_of (named m (resolved sources words)) a ≡ word_of (named m words) (sourced m sources a) = sourced_word m sources words a sound are long among.0 in
    let r : word_of (named m (resolved sources words)) b ≡ word_of (named m words) (sourced m sources b) = sourced_word m sources words b sound are long among.1 in
    rw (w, l, r) refl
sourced_result m sources words (Signed a symbol b) sound are long among =
    let w : operand_width (width_of m) (sourced m sources a) ≡ operand_width (width_of m) a = sourced_width m sources a are among.0 in
    let l : word_of (named m (resolved sources words)) a ≡ word_of (named m words) (sourced m sources a) = sourced_word m sources words a sound are long among.0 in
    let r : word_of (named m (resolved sources words)) b ≡ word_of (named m words) (sourced m sources b) = sourced_word m sources words b sound are long among.1 in
    rw (w, l, r) refl
sourced_result m sources words (Choose c a b) sound are long among =
    let t : word_of (named m (resolved sources words)) c ≡ word_of (named m words) (sourced m sources c) = sourced_word m sources words c sound are long among.0 in
    let l : word_of (named m (resolved sources words)) a ≡ word_of (named m words) (sourced m sources a) = sourced_word m sources words a sound are long among.1 in
    let r : word_of (named m (resolved sources words)) b ≡ word_of (named m words) (sourced m sources b) = sourced_word m sources words b sound are long among.2 in
    rw (t, l, r) refl
sourced_result m sources words (Part name high low) sound are long among =
    let a : named m (resolved sources words) name ≡ named m words (source_of m sources name) = source_word m sources words name sound are long among in
    rw a refl
sourced_result m sources words (Widen name by) sound are long among =
    let w : width_of m (source_of m sources name) ≡ width_of m name = are.widths name among in
    let a : named m (resolved sources words) name ≡ named m words (source_of m sources name) = source_word m sources words name sound are long among in
    rw (w, a) refl

-- ---- drives

-- a fact of each operand, of the operands at sources
pub each_sourced : (m : Module) (sources : List ℕ) (P Q : Operand → Type 0) → ((a : Operand) → P a → Q (sourced m sources a)) → (operation : Operation) → EachOperand P operation → EachOperand Q (sourced_operation m sources operation)
each_sourced m sources P Q f (Plain a) h = f a h
each_sourced m sources P Q f (Binary a symbol b) h = (f a h.0, f b h.1)
each_sourced m sources P Q f (Signed a symbol b) h = (f a h.0, f b h.1)
each_sourced m sources P Q f (Choose c a b) h = (f c h.0, f a h.1, f b h.2)
each_sourced m sources P Q f (Part name high low) h = f (Name name) h
each_sourced m sources P Q f (Widen name by) h = f (Name name) h

-- 0 in the width of a declared name
pub zero_is : (ports : List Port) (name : List ℕ) → Contains (names_of ports) name → (w : Width) × (zero_of ports name ≡ Literal w 0) × (w.bits ≡ width_in ports name)
zero_is [] name at = absurd (let lt = at.1 in omega arith)
zero_is (port ∷ ports) name at = by_test (bytes_eq port.name name) (bytes_eq-Decides port.name name).1 (λ differs. zero_is ports name (later differs))
  where
    later : port.name ≢ name → Contains (names_of ports) name
    later differs = elim (among_cases port.name name (names_of ports) at) [
      | inl same ↦ absurd (differs same)
      | inr there ↦ there
    ]

    by_test : (test : Bool) → (port.name ≡ name → test ≡ true) → (port.name ≢ name → (w : Width) × (zero_of ports name ≡ Literal w 0) × (w.bits ≡ width_in ports name))
        → (w : Width) × ((if test then Literal port.width 0 else zero_of ports name) ≡ Literal w 0) × (w.bits ≡ (if test then port.width.bits else width_in ports name))
    by_test true here rest = (port.width, refl, refl)
    by_test false here rest = rest (λ same. let e : false ≡ true = here same in absurd cc)

-- the target of a drive has a 0
pub target_zero : (m : Module) (k : ℕ) (drive : Drive) → IsSound m → k < length m.drives → drive ≡ get_or m.drives k drive
    → (w : Width) × (zero_of (declarations m) drive.target ≡ Literal w 0) × (w.bits ≡ width_of m drive.target)
target_zero m k drive sound lt at =
    zero_is (declarations m) drive.target (subst (λ names. Contains names drive.target) (sym (names_declared m)) (target_declared m k drive sound lt at))

-- a fact of a merged drive's operation
pub of_merged : (m : Module) (sources : List ℕ) (drive : Drive) (P : Operation → Type 0) → (source_of m sources drive.target ≡ drive.target → P (sourced_operation m sources drive.operation))
    → (source_of m sources drive.target ≢ drive.target → P (Plain (zero_of (declarations m) drive.target))) → P (merged_drive m sources drive).operation
of_merged m sources drive P own left = by_test (bytes_eq (source_of m sources drive.target) drive.target) (bytes_eq-Decides (source_of m sources drive.target) drive.target)
  where
    by_test : (test : Bool) → (test ≡ true → source_of m sources drive.target ≡ drive.target) × (source_of m sources drive.target ≡ drive.target → test ≡ true)
        → P (if test then sourced_operation m sources drive.operation else Plain (zero_of (declarations m) drive.target))
    by_test true decides = own (decides.0 refl)
    by_test false decides = left (λ e. let f : false ≡ true = decides.1 e in absurd cc)

-- the drive of a name that is its own source
pub own_drive : (m : Module) (sources : List ℕ) (drive : Drive) → source_of m sources drive.target ≡ drive.target → (merged_drive m sources drive).operation ≡ sourced_operation m sources drive.operation
own_drive m sources drive own = of_merged m sources drive (λ operation. operation ≡ sourced_operation m sources drive.operation) (λ e. refl) (λ other. absurd (other own))

-- and of one that is not
pub other_drive : (m : Module) (sources : List ℕ) (drive : Drive) → source_of m sources drive.target ≢ drive.target → (merged_drive m sources drive).operation ≡ Plain (zero_of (declarations m) drive.target)
other_drive m sources drive other = of_merged m sources drive (λ operation. operation ≡ Plain (zero_of (declarations m) drive.target)) (λ own. absurd (other own)) (λ e. refl)

-- a merged drive by its place
pub merged_at : (m : Module) (sources : List ℕ) (k : ℕ) (d e : Drive) → k < length m.drives → get_or (merged m sources).drives k e ≡ merged_drive m sources (get_or m.drives k d)
merged_at m sources k d e lt = get_or-map (merged_drive m sources) m.drives k d e lt

-- the targets are the same
pub targets_same : (m : Module) (sources : List ℕ) (drives : List Drive) → targets_of (map (merged_drive m sources) drives) ≡ targets_of drives
targets_same m sources [] = refl
targets_same m sources (drive ∷ drives) = ap (λ names. drive.target ∷ names) (targets_same m sources drives)

pub registers_same : (m : Module) (sources : List ℕ) (steps : List Step) → registers_of (map (merged_step m sources) steps) ≡ registers_of steps
registers_same m sources [] = refl
registers_same m sources (step ∷ steps) = ap (λ names. step.register ∷ names) (registers_same m sources steps)

-- ---- soundness

-- drives of which each reads what is known stand in order
in_order_from : (known : List (List ℕ)) (drives : List Drive) → ((k : ℕ) (d : Drive) → k < length drives → EachOperand (IsAmong (known ++ targets_of (take k drives))) (get_or drives k d).operation) → IsInOrder known drives
in_order_from known [] each = tt
in_order_from known (drive ∷ drives) each = (
  subst (λ names. EachOperand (IsAmong names) drive.operation) (append-nil known) (each 0 drive (omega arith)),
  in_order_from (known ++ drive.target ∷ []) drives (λ k d lt.
      subst (λ names. EachOperand (IsAmong names) (get_or drives k d).operation) (sym (append_assoc known (drive.target ∷ []) (targets_of (take k drives)))) (each (suc k) d (omega arith))),
)

-- an operand's source is known where the operand is
known_source : (m : Module) (sources : List ℕ) (k : ℕ) → AreMerged m sources → k ≤ length m.drives → (operand : Operand) → IsAmong (known_before m k) operand → IsAmong (known_before m k) (sourced m sources operand)
known_source m sources k are le (Name name) among = are.ahead k name le among
known_source m sources k are le (Literal width value) among = tt

pub all_known : (m : Module) → IsSound m → (name : List ℕ) → Contains (all_names m) name → Contains (known_before m (length m.drives)) name
all_known m sound name at = subst (λ drives. Contains (given_names m ++ targets_of drives) name) (sym (take_all (length m.drives) m.drives (omega arith))) (given_or_driven m sound name at)

pub known_all : (m : Module) (k : ℕ) → IsSound m → (name : List ℕ) → Contains (known_before m k) name → Contains (all_names m) name
known_all m k sound name at = elim (Contains-append_cases (given_names m) (targets_of (take k m.drives)) name at) [
  | inl given ↦ Contains-append_left (given_names m) (wire_names m) name given
  | inr driven ↦ Contains-append_right (given_names m) (wire_names m) name (All-contains (Contains (wire_names m)) (targets_of (take k m.drives)) name
      (subst (All (Contains (wire_names m))) (take-map (λ (drive : Drive). drive.target) k m.drives) (All-take (Contains (wire_names m)) k (targets_of m.drives) sound.drives_wires)) driven)
]

among_source : (m : Module) (sources : List ℕ) → IsSound m → AreMerged m sources → (operand : Operand) → IsAmong (all_names m) operand → IsAmong (all_names m) (sourced m sources operand)
among_source m sources sound are (Name name) among = known_all m (length m.drives) sound (source_of m sources name) (are.ahead (length m.drives) name (omega arith) (all_known m sound name among))
among_source m sources sound are (Literal width value) among = tt

-- widths go together at sources
sourced_suits : (m : Module) (sources : List ℕ) (w : ℕ) (operation : Operation) → AreMerged m sources → EachOperand (IsAmong (all_names m)) operation → SuitsWidth (width_of m) w operation → SuitsWidth (width_of m) w (sourced_operation m sources operation)
sourced_suits m sources w (Plain a) are among suits = sourced_width m sources a are among ∙ suits
sourced_suits m sources w (Binary a symbol b) are among suits =
    let l : operand_width (width_of m) (sourced m sources a) ≡ operand_width (width_of m) a = sourced_width m sources a are among.0 in
    let r : operand_width (width_of m) (sourced m sources b) ≡ operand_width (width_of m) b = sourced_width m sources b are among.1 in
    (l ∙ suits.0 ∙ sym r, ap (symbol_width symbol) l ∙ suits.1)
sourced_suits m sources w (Signed a symbol b) are among suits =
    let l : operand_width (width_of m) (sourced m sources a) ≡ operand_width (width_of m) a = sourced_width m sources a are among.0 in
    let r : operand_width (width_of m) (sourced m sources b) ≡ operand_width (width_of m) b = sourced_width m sources b are among.1 in
    (l ∙ suits.0 ∙ sym r, suits.1)
sourced_suits m sources w (Choose c a b) are among suits =
    (sourced_width m sources c are among.0 ∙ suits.0, sourced_width m sources a are among.1 ∙ suits.1, sourced_width m sources b are among.2 ∙ suits.2)
sourced_suits m sources w (Part name high low) are among suits =
    let e : width_of m (source_of m sources name) ≡ width_of m name = are.widths name among in
    (subst (λ n. high < n) (sym e) suits.0, suits.1)
sourced_suits m sources w (Widen name by) are among suits = ap (λ n. n + by) (are.widths name among) ∙ suits

fitting_source : (m : Module) (sources : List ℕ) (operand : Operand) → IsFitting operand → IsFitting (sourced m sources operand)
fitting_source m sources (Name name) fits = tt
fitting_source m sources (Literal width value) fits = fits

sourced_order : (m : Module) (sources : List ℕ) (operation : Operation) → ComparesByOrder operation → ComparesByOrder (sourced_operation m sources operation)
sourced_order m sources (Plain a) h = tt
sourced_order m sources (Binary a symbol b) h = tt
sourced_order m sources (Signed a symbol b) h = h
sourced_order m sources (Choose c a b) h = tt
sourced_order m sources (Part name high low) h = tt
sourced_order m sources (Widen name by) h = tt

-- what a merged drive reads is declared
merged_reads : (m : Module) (sources : List ℕ) → IsSound m → AreMerged m sources → All (λ (drive : Drive). EachOperand (IsAmong (all_names m)) drive.operation) (merged m sources).drives
merged_reads m sources sound are = All-map (λ (drive : Drive). EachOperand (IsAmong (all_names m)) drive.operation) (merged_drive m sources) m.drives (λ k d lt.
    let drive = get_or m.drives k d in
    let at : drive ≡ get_or m.drives k drive = get_or_default m.drives k d drive lt in
    let (w, gives, wide) = target_zero m k drive sound lt at in
    of_merged m sources drive (EachOperand (IsAmong (all_names m)))
    (λ own. each_sourced m sources (IsAmong (all_names m)) (IsAmong (all_names m)) (among_source m sources sound are) drive.operation (sound.drives_read k d lt))
    (λ other. subst (IsAmong (all_names m)) (sym gives) tt))

-- and known before it
merged_in_order : (m : Module) (sources : List ℕ) → IsSound m → AreMerged m sources → IsInOrder (given_names m) (merged m sources).drives
merged_in_order m sources sound are = in_order_from (given_names m) (merged m sources).drives (λ k d lt'.
    let lt : k < length m.drives = subst (λ n. k < n) (length-map m.drives (merged_drive m sources)) lt' in
    let drive = get_or m.drives k d in
    let at : drive ≡ get_or m.drives k drive = get_or_default m.drives k d drive lt in
    let (w, gives, wide) = target_zero m k drive sound lt at in
    let names : targets_of (take k (merged m sources).drives) ≡ targets_of (take k m.drives) = ap targets_of (take-map (merged_drive m sources) k m.drives) ∙ targets_same m sources (take k m.drives) in
    let here : EachOperand (IsAmong (known_before m k)) (merged_drive m sources drive).operation =
    of_merged m sources drive (EachOperand (IsAmong (known_before m k)))
    (λ own. each_sourced m sources (IsAmong (known_before m k)) (IsAmong (known_before m k)) (known_source m sources k are (omega arith)) drive.operation
    (in_order_at (given_names m) m.drives k drive sound.in_order lt at))
    (λ other. subst (IsAmong (known_before m k)) (sym gives) tt) in
    subst (λ known. EachOperand (IsAmong (given_names m ++ known)) (get_or (merged m sources).drives k d).operation) (sym names)
    (subst (λ (x : Drive). EachOperand (IsAmong (known_before m k)) x.operation) (sym (merged_at m sources k d d lt)) here))

merged_suits : (m : Module) (sources : List ℕ) → IsSound m → AreMerged m sources → All (λ (drive : Drive). SuitsWidth (width_of m) (width_of m drive.target) drive.operation) (merged m sources).drives
merged_suits m sources sound are = All-map (λ (drive : Drive). SuitsWidth (width_of m) (width_of m drive.target) drive.operation) (merged_drive m sources) m.drives (λ k d lt.
    let drive = get_or m.drives k d in
    let at : drive ≡ get_or m.drives k drive = get_or_default m.drives k d drive lt in
    let (w, gives, wide) = target_zero m k drive sound lt at in
    of_merged m sources drive (SuitsWidth (width_of m) (width_of m drive.target))
    (λ own. sourced_suits m sources (width_of m drive.target) drive.operation are (sound.drives_read k d lt) (sound.drive_widths k d lt))
    (λ other. subst (λ operand. operand_width (width_of m) operand ≡ width_of m drive.target) (sym gives) wide))

merged_fit : (m : Module) (sources : List ℕ) → IsSound m → All (λ (drive : Drive). EachOperand IsFitting drive.operation) (merged m sources).drives
merged_fit m sources sound = All-map (λ (drive : Drive). EachOperand IsFitting drive.operation) (merged_drive m sources) m.drives (λ k d lt.
    let drive = get_or m.drives k d in
    let at : drive ≡ get_or m.drives k drive = get_or_default m.drives k d drive lt in
    let (w, gives, wide) = target_zero m k drive sound lt at in
    of_merged m sources drive (EachOperand IsFitting)
    (λ own. each_sourced m sources IsFitting IsFitting (fitting_source m sources) drive.operation (sound.drives_fit k d lt))
    (λ other. subst IsFitting (sym gives) (pow_pos w.bits)))

merged_orders : (m : Module) (sources : List ℕ) → IsSound m → All (λ (drive : Drive). ComparesByOrder drive.operation) (merged m sources).drives
merged_orders m sources sound = All-map (λ (drive : Drive). ComparesByOrder drive.operation) (merged_drive m sources) m.drives (λ k d lt.
    let drive = get_or m.drives k d in
    of_merged m sources drive ComparesByOrder (λ own. sourced_order m sources drive.operation (sound.orders k d lt)) (λ other. tt))

-- the merged module is sound
pub merged_sound : (m : Module) (sources : List ℕ) → IsSound m → AreMerged m sources → IsSound (merged m sources)
merged_sound m sources sound are =
    let targets : targets_of m.drives ≡ targets_of (merged m sources).drives = sym (targets_same m sources m.drives) in
    let registers : registers_of m.steps ≡ registers_of (merged m sources).steps = sym (registers_same m sources m.steps) in
    record {
      declared_once = sound.declared_once;
      driven_once = subst (λ names. AreDistinct (names ++ registers_of (merged m sources).steps)) targets (subst (λ names. AreDistinct (targets_of m.drives ++ names)) registers sound.driven_once);
      drives_wires = subst (All (Contains (wire_names m))) targets sound.drives_wires;
      steps_registers = subst (All (Contains (names_of m.registers))) registers sound.steps_registers;
      drives_read = merged_reads m sources sound are;
      steps_read = All-map (λ (step : Step). IsAmong (all_names m) step.next) (merged_step m sources) m.steps (λ k d lt. among_source m sources sound are (get_or m.steps k d).next (sound.steps_read k d lt));
      wires_driven = subst (λ names. All (Contains names) (wire_names m)) targets sound.wires_driven;
      registers_stepped = subst (λ names. All (Contains names) (names_of m.registers)) registers sound.registers_stepped;
      in_order = merged_in_order m sources sound are;
      drive_widths = merged_suits m sources sound are;
      step_widths = All-map (λ (step : Step). operand_width (width_of m) step.next ≡ width_of m step.register) (merged_step m sources) m.steps
          (λ k d lt. sourced_width m sources (get_or m.steps k d).next are (sound.steps_read k d lt) ∙ sound.step_widths k d lt);
      drives_fit = merged_fit m sources sound;
      steps_fit = All-map (λ (step : Step). IsFitting step.next) (merged_step m sources) m.steps (λ k d lt. fitting_source m sources (get_or m.steps k d).next (sound.steps_fit k d lt));
      resets_fit = All-map (λ (step : Step). IsWord (width_of m step.register) step.reset) (merged_step m sources) m.steps (λ k d lt. sound.resets_fit k d lt);
      orders = merged_orders m sources sound;
    }
