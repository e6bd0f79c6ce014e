-- A list of inputs can be presented with a period where no port and cycle is asked for two words: the stream has the listed words of each problem,
-- and 0 elsewhere.
use Rattle.std.proofs.Common.{◌≡◌, ◌≢◌, ℕ, zero, suc, ◌+◌, ◌*◌, ◌<◌, List, [], ◌∷◌, length, get_or, refl, sym, ap, subst, ◌∙◌, arith, Bool, true, false, if◌then◌else◌, ◌&&◌, ◌||◌, ◌==◌, Some}
use Rattle.std.specs.Prelude.{All, slice_get}
use Rattle.std.specs.List.{list_any}
use Rattle.std.specs.Str.{bytes_eq}
use Rattle.std.proofs.lemmas.Nat.{pow_pos}
use Rattle.std.proofs.lemmas.Slice.Eq.{bytes_eq-Decides}
use Rattle.std.proofs.lemmas.Bool.Decides.{Decides-eqb}
use Rattle.std.proofs.lemmas.List.Elements.{All-map, All-weaker}
use Rattle.av_base.proofs.Lists.{all_at, some_is}
use Rattle.av_base.specs.Words.{IsWord}
use Rattle.av_net.specs.declared.netlist.Port.{Port}
use Rattle.av_net.specs.declared.design.Entry.{Entry}
use Rattle.av_net.specs.declared.design.Design.{Design}
use Rattle.av_net.specs.Clocked.{Stream}
use Rattle.av_net.specs.Shown.{Values, HasListed, Presents}
use Rattle.av_net.specs.Presented.{AreApart, HasFittingWord, HaveFittingWords}
use Rattle.av_net.proofs.Streams.{listed_word, listed_stream, presents_listed}
use Rattle.av_space.proofs.ByPlace.{from_map, pair_at, pairs_by_place, all_by_place}
use Rattle.av_build.specs.Later.{later_line, later_lines, later}
use Rattle.av_stream.specs.Streams.{PresentsEach, AreApartEach, IsPresentableEach}

-- ---- lines at a port in a cycle

abbrev is_there : ℕ → List ℕ → Entry → Bool
is_there c port line = bytes_eq line.wire port && line.cycle == c

abbrev has_line : List Entry → ℕ → List ℕ → Bool
has_line lines c port = list_any (is_there c port) lines

-- such a line
record IsLineAt (lines : List Entry) (c : ℕ) (port : List ℕ) : Type 0 where
  number : ℕ
  line : Entry
  is_line : slice_get lines number ≡ Some line
  wire : line.wire ≡ port
  cycle : line.cycle ≡ c

some_line : (lines : List Entry) (c : ℕ) (port : List ℕ) → has_line lines c port ≡ true → IsLineAt lines c port
some_line [] c port e = absurd cc
some_line (line ∷ lines) c port e = by (bytes_eq line.wire port) (line.cycle == c) refl refl e (λ f. some_line lines c port f)
  where
    later : IsLineAt lines c port → IsLineAt (line ∷ lines) c port
    later r = record { number = suc r.number; line = r.line; is_line = r.is_line; wire = r.wire; cycle = r.cycle }

    by : (a b : Bool) → bytes_eq line.wire port ≡ a → (line.cycle == c) ≡ b → ((a && b) || has_line lines c port) ≡ true → (has_line lines c port ≡ true → IsLineAt lines c port) → IsLineAt (line ∷ lines) c port
    by true true p q f rest = record { number = 0; line = line; is_line = refl; wire = (bytes_eq-Decides line.wire port).0 p; cycle = (Decides-eqb line.cycle c).0 q }
    by true false p q f rest = later (rest f)
    by false b p q f rest = later (rest f)

line_there : (lines : List Entry) (k : ℕ) (line : Entry) → slice_get lines k ≡ Some line → has_line lines line.cycle line.wire ≡ true
line_there [] k line e = absurd cc
line_there (l ∷ lines) zero line e =
    let same : l ≡ line = some_is l line e in
    let wire : bytes_eq l.wire line.wire ≡ true = (bytes_eq-Decides l.wire line.wire).1 (ap (λ (x : Entry). x.wire) same) in
    let cycle : (l.cycle == line.cycle) ≡ true = (Decides-eqb l.cycle line.cycle).1 (ap (λ (x : Entry). x.cycle) same) in
    rw (wire, cycle) refl
line_there (l ∷ lines) (suc k) line e = by (is_there line.cycle line.wire l) (line_there lines k line e)
  where
    by : (t : Bool) → has_line lines line.cycle line.wire ≡ true → (t || has_line lines line.cycle line.wire) ≡ true
    by true f = refl
    by false f = f

-- ---- the word of all problems, from the one with this number on

each_word : List Entry → ℕ → ℕ → List Values → ℕ → List ℕ → ℕ
each_word ins period a [] c port = 0
each_word ins period a (x ∷ xs) c port = if has_line (later_lines (a * period) ins) c port then listed_word (later_lines (a * period) ins) x c port else each_word ins period (suc a) xs c port

later_at : (start : ℕ) (lines : List Entry) (k : ℕ) (line : Entry) → slice_get lines k ≡ Some line → slice_get (later_lines start lines) k ≡ Some (later_line start line)
later_at start [] k line e = absurd cc
later_at start (l ∷ lines) zero line e = ap (λ (x : Entry). Some (later_line start x)) (some_is l line e)
later_at start (l ∷ lines) (suc k) line e = later_at start lines k line e

module _ (ins : List Entry) (period : ℕ) (apart : AreApartEach ins period) where
  -- the word of the problem's own line
  word_of_problem : (xs : List Values) (a b n : ℕ) → n ≡ a + b → (x : Values) → slice_get xs b ≡ Some x → (k : ℕ) (line : Entry) → slice_get ins k ≡ Some line
      → each_word ins period a xs (line.cycle + n * period) line.wire ≡ listed_word (later_lines (n * period) ins) x (line.cycle + n * period) line.wire
  unfolding each_word
  word_of_problem [] a b n e x at k line is = absurd cc
  word_of_problem (y ∷ xs) a zero n e x at k line is =
      let m : n ≡ a = omega (arith, e) in
      let own : has_line (later_lines (a * period) ins) (line.cycle + a * period) line.wire ≡ true = line_there (later_lines (a * period) ins) k (later_line (a * period) line) (later_at (a * period) ins k line is) in
      let same : y ≡ x = some_is y x at in
      rw (m, own) (ap (λ (z : Values). listed_word (later_lines (a * period) ins) z (line.cycle + a * period) line.wire) same)
  word_of_problem (y ∷ xs) a (suc b) n e x at k line is =
      by (has_line (later_lines (a * period) ins) (line.cycle + n * period) line.wire) refl (word_of_problem xs (suc a) b n (omega (arith, e)) x at k line is)
    where
      by : (t : Bool) → has_line (later_lines (a * period) ins) (line.cycle + n * period) line.wire ≡ t
          → each_word ins period (suc a) xs (line.cycle + n * period) line.wire ≡ listed_word (later_lines (n * period) ins) x (line.cycle + n * period) line.wire
          → (if t then listed_word (later_lines (a * period) ins) y (line.cycle + n * period) line.wire else each_word ins period (suc a) xs (line.cycle + n * period) line.wire)
          ≡ listed_word (later_lines (n * period) ins) x (line.cycle + n * period) line.wire
      by false f rest = rest
      by true f rest =
          let other = some_line (later_lines (a * period) ins) (line.cycle + n * period) line.wire f in
          let z = from_map (later_line (a * period)) ins other.number other.line other.is_line in
          let wire : z.0.wire ≡ line.wire = ap (λ (q : Entry). q.wire) z.2 ∙ other.wire in
          let cycle : z.0.cycle + a * period ≡ line.cycle + n * period = ap (λ (q : Entry). q.cycle) z.2 ∙ other.cycle in
          let one = (apart a n other.number k z.0 line z.1 is wire cycle).0 in
          absurd (omega (arith, one, e))

-- ---- the stream

each_stream : List Entry → ℕ → List Values → Stream
each_stream ins period xs = record { on_reset = λ port. 0; in_cycle = λ c port. each_word ins period 0 xs c port }

-- lines that are apart are so some cycles later
later_apart : (start : ℕ) (ins : List Entry) → AreApart ins → AreApart (later_lines start ins)
later_apart start ins apart = pairs_by_place (λ (line later : Entry). line.wire ≡ later.wire → line.cycle ≢ later.cycle) (later_lines start ins) one
  where
    one : (i j : ℕ) (x y : Entry) → slice_get (later_lines start ins) i ≡ Some x → slice_get (later_lines start ins) j ≡ Some y → i < j → x.wire ≡ y.wire → x.cycle ≢ y.cycle
    one i j x y ix jy lt wires cycles =
        let p = from_map (later_line start) ins i x ix in
        let q = from_map (later_line start) ins j y jy in
        let wire : p.0.wire ≡ q.0.wire = ap (λ (e : Entry). e.wire) p.2 ∙ wires ∙ sym (ap (λ (e : Entry). e.wire) q.2) in
        let c = ap (λ (e : Entry). e.cycle) p.2 in
        let d = ap (λ (e : Entry). e.cycle) q.2 in
        pair_at (λ (line later : Entry). line.wire ≡ later.wire → line.cycle ≢ later.cycle) ins apart i j p.0 q.0 p.1 q.1 lt wire (omega (arith, c, d, cycles))

-- and so are the words of their points
later_fits : (ports : List Port) (x : Values) (start : ℕ) (ins : List Entry) → All (HasFittingWord ports x) ins → All (HasFittingWord ports x) (later_lines start ins)
later_fits ports x start ins fits = All-map (HasFittingWord ports x) (later_line start) ins (All-weaker (HasFittingWord ports x) (λ (l : Entry). HasFittingWord ports x (later_line start l)) (λ l h. h) ins fits)

module _ (d : Design) (period : ℕ) (lines : AreApart d.listing.ins) (apart : AreApartEach d.listing.ins period) where
  abbrev ins : List Entry
  ins = d.listing.ins

  presents_one : (x : Values) → HaveFittingWords d x → (n b : ℕ) → Presents (later (b * period) d) n (listed_stream (later_lines (b * period) ins) x) x
  presents_one x fits n b = presents_listed (later (b * period) d) x n (later_apart (b * period) ins lines) (later_fits d.module.inputs x (b * period) ins fits)

  fitting : (n : ℕ) (xs : List Values) → All (HaveFittingWords d) xs → (a c : ℕ) → c < n → (k : ℕ) (port : Port) → k < length d.module.inputs → IsWord (get_or d.module.inputs k port).width.bits (each_word ins period a xs c (get_or d.module.inputs k port).name)
  unfolding each_word
  fitting n [] fits a c lt k port at = pow_pos (get_or d.module.inputs k port).width.bits
  fitting n (x ∷ xs) fits a c lt k port at =
      by (has_line (later_lines (a * period) ins) c (get_or d.module.inputs k port).name)
      ((presents_one x (all_at (HaveFittingWords d) (x ∷ xs) 0 x fits refl) n a).fits c lt k port at)
      (fitting n xs (λ j y l. fits (suc j) y (omega (arith, l))) (suc a) c lt k port at)
    where
      by : {m o top : ℕ} (t : Bool) → m < top → o < top → (if t then m else o) < top
      by true f g = f
      by false f g = g

  presents_each : (xs : List Values) → All (HaveFittingWords d) xs → (n : ℕ) → PresentsEach d period n (each_stream ins period xs) xs
  unfolding each_stream each_word
  presents_each xs fits n = record {
    fits_on_reset = λ k port at. pow_pos (get_or d.module.inputs k port).width.bits;
    fits = λ c lt k port at. fitting n xs fits 0 c lt k port at;
    points = λ b x at. points b x at;
  }
    where
      points : (b : ℕ) (x : Values) → slice_get xs b ≡ Some x → All (HasListed n (each_stream ins period xs).in_cycle x) (later_lines (b * period) ins)
      points b x at =
          let later = later_lines (b * period) ins in
          let own = presents_one x (all_at (HaveFittingWords d) xs b x fits at) n b in
          all_by_place (HasListed n (each_stream ins period xs).in_cycle x) later
          (λ i line is late.
          let z = from_map (later_line (b * period)) ins i line is in
          let word : each_word ins period 0 xs line.cycle line.wire ≡ listed_word later x line.cycle line.wire =
          subst (λ (q : Entry). each_word ins period 0 xs q.cycle q.wire ≡ listed_word later x q.cycle q.wire) z.2 (word_of_problem ins period apart xs 0 b b (omega arith) x at i z.0 z.1) in
          ap (λ (w : ℕ). Some w) word ∙ all_at (HasListed n (listed_stream later x).in_cycle x) later i line own.points is late)

  pub presentable_each : (xs : List Values) → All (HaveFittingWords d) xs → IsPresentableEach d period xs
  presentable_each xs fits n = (each_stream ins period xs, presents_each xs fits n)
