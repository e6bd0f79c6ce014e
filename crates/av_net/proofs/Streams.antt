-- The stream of the listed words, with 0 elsewhere.
use Rattle.std.proofs.Common.{◌≡◌, ◌≢◌, ℕ, suc, ◌<◌, List, [], ◌∷◌, length, get_or, refl, arith, Bool, true, false, if◌then◌else◌, ◌&&◌, ◌==◌, Some}
use Rattle.std.specs.Prelude.{All, AllPairs, unwrap_or}
use Rattle.std.specs.List.{AllByRecursion}
use Rattle.std.specs.Str.{bytes_eq}
use Rattle.std.proofs.lemmas.Nat.{pow_pos}
use Rattle.std.proofs.lemmas.Slice.Eq.{bytes_eq-Decides}
use Rattle.std.proofs.lemmas.Bool.Decides.{Decides-eqb}
use Rattle.std.proofs.lemmas.List.Elements.{All-from_recursion, recursion_from_All}
use Rattle.av_base.specs.Words.{IsWord}
use Rattle.av_net.specs.declared.netlist.Port.{Port}
use Rattle.av_net.specs.declared.design.Entry.{Entry}
use Rattle.av_net.specs.declared.design.Design.{Design}
use Rattle.av_net.specs.Clocked.{Stream}
use Rattle.av_net.specs.Shown.{Values, Presents}
use Rattle.av_net.specs.Presented.{AreApart, HasFittingWord}
use Rattle.av_net.specs.Laws.{ArePresentable}

-- the word of the first line with this port and cycle, or 0
abbrev pub listed_word : List Entry → Values → ℕ → List ℕ → ℕ
listed_word [] x c port = 0
listed_word (line ∷ lines) x c port = if bytes_eq line.wire port && line.cycle == c then unwrap_or (x line.variable line.point) 0 else listed_word lines x c port

abbrev pub listed_stream : List Entry → Values → Stream
listed_stream ins x = record { on_reset = λ port. 0; in_cycle = λ c port. listed_word ins x c port }

-- the lines do not share port and cycle
abbrev Apart : Entry → Entry → Type 0
Apart line later = line.wire ≡ later.wire → line.cycle ≢ later.cycle

-- whether the line has this port and cycle
abbrev test : Entry → ℕ → List ℕ → Bool
test line c port = bytes_eq line.wire port && line.cycle == c

-- a test of the line's own port and cycle
itself : (line : Entry) → test line line.cycle line.wire ≡ true
itself line = both (bytes_eq line.wire line.wire) (line.cycle == line.cycle) ((bytes_eq-Decides line.wire line.wire).1 refl) ((Decides-eqb line.cycle line.cycle).1 refl)
  where
    both : (a b : Bool) → a ≡ true → b ≡ true → (a && b) ≡ true
    both a b e e' = rw (e, e')

-- a test of another line's port and cycle
another : (line later : Entry) → Apart line later → test line later.cycle later.wire ≡ false
another line later apart = never (bytes_eq line.wire later.wire) (line.cycle == later.cycle)
    (λ t u. apart ((bytes_eq-Decides line.wire later.wire).0 t) ((Decides-eqb line.cycle later.cycle).0 u))
  where
    never : (a b : Bool) → (a ≡ true → b ≡ true → ⊥) → (a && b) ≡ false
    never true true h = absurd (h refl refl)
    never true false h = refl
    never false b h = refl

-- the first line is apart from the later ones
first_from_pairs : (line : Entry) (lines : List Entry) → AllPairs Apart (line ∷ lines) → All (Apart line) lines
first_from_pairs line lines h k d lt = h 0 (suc k) d (omega arith) (omega arith)

-- the later lines are apart
rest_from_pairs : (line : Entry) (lines : List Entry) → AllPairs Apart (line ∷ lines) → AllPairs Apart lines
rest_from_pairs line lines h i j d lt lj = h (suc i) (suc j) d (omega arith) (omega arith)

-- the stream has the line's word
abbrev Has : List Entry → Values → Entry → Type 0
Has all x line = Some (listed_word all x line.cycle line.wire) ≡ x line.variable line.point

-- behind a line with another port or cycle
behind : (line : Entry) (all : List Entry) (x : Values) (lines : List Entry) → AllByRecursion (Apart line) lines → AllByRecursion (Has all x) lines → AllByRecursion (Has (line ∷ all) x) lines
behind line all x [] apart h = tt
behind line all x (later ∷ lines) apart h = (rw (another line later apart.0) h.0, behind line all x lines apart.1 h.1)

-- lines that are apart have their words
words : (ports : List Port) (x : Values) (lines : List Entry) → AreApart lines → AllByRecursion (HasFittingWord ports x) lines → AllByRecursion (Has lines x) lines
words ports x [] apart fits = tt
words ports x (line ∷ lines) apart fits =
    let some : x line.variable line.point ≡ Some fits.0.0 = fits.0.1 in (
      rw (itself line, some) refl,
      behind line lines x lines (recursion_from_All (Apart line) lines (first_from_pairs line lines apart)) (words ports x lines (rest_from_pairs line lines apart) fits.1),
    )

-- each word of the stream fits its port
fitting : (ports : List Port) (x : Values) (k : ℕ) (d : Port) → k < length ports → (lines : List Entry) (c : ℕ) → AllByRecursion (HasFittingWord ports x) lines → IsWord (get_or ports k d).width.bits (listed_word lines x c (get_or ports k d).name)
fitting ports x k d at [] c fits = pow_pos (get_or ports k d).width.bits
fitting ports x k d at (line ∷ lines) c fits =
    let port = get_or ports k d in
    let some : x line.variable line.point ≡ Some fits.0.0 = fits.0.1 in
    by_test (test line c port.name)
    (λ t. rw some (fits.0.2 k d at ((bytes_eq-Decides line.wire port.name).0 (left (bytes_eq line.wire port.name) (line.cycle == c) t))))
    (fitting ports x k d at lines c fits.1)
  where
    left : (a b : Bool) → (a && b) ≡ true → a ≡ true
    left true b e = refl
    left false b e = e

    by_test : {m n top : ℕ} (t : Bool) → (t ≡ true → m < top) → n < top → (if t then m else n) < top
    by_test true f g = f refl
    by_test false f g = g

-- the stream presents the inputs
pub presents_listed : (design : Design) (x : Values) (n : ℕ) → AreApart design.listing.ins → All (HasFittingWord design.module.inputs x) design.listing.ins → Presents design n (listed_stream design.listing.ins x) x
presents_listed design x n apart fits =
    let each : AllByRecursion (HasFittingWord design.module.inputs x) design.listing.ins = recursion_from_All (HasFittingWord design.module.inputs x) design.listing.ins fits in
    record {
      fits_on_reset = λ k d at. pow_pos (get_or design.module.inputs k d).width.bits;
      fits = λ c lt k d at. fitting design.module.inputs x k d at design.listing.ins c each;
      points = λ k d at late. All-from_recursion (Has design.listing.ins x) design.listing.ins (words design.module.inputs x design.listing.ins apart each) k d at;
    }

-- so there is one
pub are_presentable : ArePresentable
are_presentable design x apart fits n = (listed_stream design.listing.ins x, presents_listed design x n apart fits)
