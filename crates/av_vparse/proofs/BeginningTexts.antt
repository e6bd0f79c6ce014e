-- How the reader of a whole text ends, and that a text breaks off where its reader stops.
use Rattle.std.proofs.Common.{◌≡◌, ◌≢◌, ◌⊎◌, inl, inr, ℕ, zero, suc, ◌+◌, ◌<◌, ◌≤◌, Bool, true, false, not, true≢false, List, [], ◌∷◌, ◌++◌, length, take, Result, Ok, Err, refl, sym, ap, subst, ◌∙◌, arith, append_assoc, length-append}
use Rattle.std.specs.Prelude.{◌&&◌, codes}
use Rattle.std.proofs.lemmas.Bool.{cases_lt}
use Rattle.std.proofs.Math.Seq.{take-append_seam}
use Rattle.std.proofs.lemmas.Slice.Eq.{bytes_eq-Decides}
use Rattle.av_base.specs.declared.place.Place.{Place}
use Rattle.av_base.specs.declared.width.Width.{Width}
use Rattle.av_base.specs.Tokens.{start}
use Rattle.av_net.specs.declared.token_kind.DesignTokenKind.TheVariants as kind
use Rattle.av_net.specs.declared.netlist.Port.{Port}
use Rattle.av_net.specs.Names.{clk, rst}
use Rattle.av_net.specs.Lexemes.{Token, IsSpelled, AreTokens, end as end_of_bytes, blank, comment, token}
use Rattle.av_net.specs.Grammar.{Text, ModuleText, SignalDeclaration, Item, AreWords, no_word, next_word, IsWordAt, IsNameAt, name, IsEnd, end, IsRange, no_range, range, IsPort, IsDeclaration, IsItem, AreMany, no_more, one_more, IsKindInput, IsKindDeclaration, IsKindItem, IsClockFirst, IsKind, IsClocked, IsTop, IsText}
use Rattle.av_vparse.specs.Beginnings.{Begins, StopsAt}
use Rattle.av_vparse.specs.inner.Reading.{same, is_word, end_at, width_for, Header, clocked_at, header_at, with_body, top_at, is_name, begins_top, begins_kind, kind_at, kinds_at, text_at}
use Rattle.av_vparse.proofs.Steps.{same_is, at_word, word_there, other_there, end_gives}
use Rattle.av_vparse.proofs.Sound.{width_bits, HasKindHeader, no_clock}
use Rattle.av_vparse.proofs.Complete.{kind_begins, kind_gives, top_begins, top_gives, no_kind, text_gives}
use Rattle.av_vparse.proofs.Ends.{words_end, name_end, port_end, many_end, kind_input_end, kind_declaration_end, kind_item_end, kind_end}
use Rattle.av_vparse.proofs.Verdicts.{Ends, last, before, ends_some, Puts, puts_both, Completes, Verdict, past, stops, Reads, pair, alone, Follows, follows, then_reads, Mapped, unmap, map_reads, reads_as}
use Rattle.av_vparse.proofs.BeginningParts.{word_token, name_token, Word, Words, Name, ThisName, word_reads, name_reads, this_name_reads, words_read}
use Rattle.av_vparse.specs.Fronts.{FrontText}
use Rattle.av_vparse.proofs.FrontTexts.{front_begins, begins_front}
use Rattle.av_vparse.proofs.BeginningLists.{Parts, all_parts, part_stops, parts_judged}
use Rattle.av_vparse.proofs.BeginningPorts.{Tail, tail_at, tail_reads, closing, closes}
use Rattle.av_vparse.proofs.BeginningItems.{declarations_read, items_read, KindShape, shape_reads}
use Rattle.av_base.proofs.Truths.{both, not_true, not_false, by_test}

-- ---- the header of a top

abbrev ClockedIs : List Token → List Token → Unit {0} → Type 0
ClockedIs = Follows (Words (codes "(" ∷ codes "input" ∷ [])) (λ a. Follows (ThisName clk) (λ b. Follows (Words (codes "," ∷ codes "input" ∷ [])) (λ c. ThisName rst)))

abbrev Clocked : List Token → List Token → Unit {0} → Type 0
Clocked ts rest x = IsClocked ts rest

clocked_reads : Reads true alone Clocked clocked_at
unfolding clocked_at
clocked_reads = reads_as within whole
  where
    whole : Reads true alone ClockedIs clocked_at
    whole =
        then_reads _ (words_read (codes "(") (codes "input" ∷ []) (refl, (refl, tt)))
        (λ a. then_reads _ (this_name_reads clk) (λ b. then_reads _ (words_read (codes ",") (codes "input" ∷ []) (refl, (refl, tt))) (λ c. this_name_reads rst)))

    within : (ts rest : List Token) (x : Unit {0}) → ClockedIs ts rest x → Clocked ts rest x
    within ts rest x (follows {mid = a} w (follows {mid = b} n (follows {mid = c} v r))) = record { a = a; b = b; c = c; opens = w; clock = n; between = v; reset = r }

abbrev HeaderIs : List Token → List Token → Header → Type 0
HeaderIs = Follows (Word (codes "module")) (λ a. Follows Name (λ called. Follows Clocked (λ b. Tail called)))

header_reads : Reads true pair HeaderIs header_at
unfolding header_at tail_at
header_reads = then_reads _ (word_reads (codes "module") refl) (λ a. then_reads _ name_reads (λ called. then_reads _ clocked_reads (λ b. tail_reads called)))

-- ---- the top

abbrev TopIs : List Token → List Token → ModuleText → Type 0
TopIs = Follows HeaderIs (λ header. Follows (AreMany IsDeclaration) (λ ds. Follows (AreMany IsItem) (λ items. Mapped (Word (codes "endmodule")) (λ a. with_body header ds items))))

top_reads : Reads true pair IsTop top_at
unfolding top_at
top_reads = reads_as within whole
  where
    whole : Reads true pair TopIs top_at
    whole =
        then_reads _ header_reads (λ header. then_reads _ declarations_read (λ ds. then_reads _ items_read (λ items. map_reads _ (λ a. with_body header ds items) (λ a k. refl) (word_reads (codes "endmodule") refl))))

    within : (ts rest : List Token) (x : ModuleText) → TopIs ts rest x → IsTop ts rest x
    within ts rest x (follows {mid = f} {x = header} (follows {mid = a} m (follows {mid = b} {x = called} n (follows {mid = c} k t))) (follows {mid = g} {x = ds} d (follows {mid = h} {x = items} i closed))) =
        unmap (IsTop ts rest) closed (λ y s. record {
          a = a;
          b = b;
          c = c;
          d = t.a;
          e = t.b;
          f = f;
          g = g;
          h = h;
          begins = m;
          name = subst (λ z. IsNameAt a b z) (sym t.named) n;
          clocked = k;
          inputs = t.inputs;
          outputs = t.outputs;
          closes = t.closes;
          declarations = d;
          items = i;
          stops = s;
        })

-- ---- the first tokens of a module

-- at most four tokens, as `module name ( input`
data Opens : List Token → Type 0 where
  unopened : Opens []
  after_module : {m : Token} → IsWordAt (codes "module") (m ∷ []) [] → Opens (m ∷ [])
  after_name : {m n : Token} {text : List ℕ} → IsWordAt (codes "module") (m ∷ []) [] → IsNameAt (n ∷ []) [] text → Opens (m ∷ n ∷ [])
  after_open : {m n o : Token} {text : List ℕ} → IsWordAt (codes "module") (m ∷ []) [] → IsNameAt (n ∷ []) [] text → IsWordAt (codes "(") (o ∷ []) [] → Opens (m ∷ n ∷ o ∷ [])
  after_input : {m n o i : Token} {text : List ℕ} → IsWordAt (codes "module") (m ∷ []) [] → IsNameAt (n ∷ []) [] text → IsWordAt (codes "(") (o ∷ []) [] → IsWordAt (codes "input") (i ∷ []) [] → Opens (m ∷ n ∷ o ∷ i ∷ [])

-- tokens that go on as `module name ( output`
data OpensOutput : List Token → Type 0 where
  after_output : {m n o i : Token} {text : List ℕ} → IsWordAt (codes "module") (m ∷ []) [] → IsNameAt (n ∷ []) [] text → IsWordAt (codes "(") (o ∷ []) [] → IsWordAt (codes "output") (i ∷ []) [] → OpensOutput (m ∷ n ∷ o ∷ i ∷ [])

-- a token alone stands so before others too
word_more : {text : List ℕ} {t : Token} → IsWordAt text (t ∷ []) [] → (k : List Token) → IsWordAt text (t ∷ k) k
word_more (next_word l e (no_word)) k = next_word l e no_word

name_more : {text : List ℕ} {t : Token} → IsNameAt (t ∷ []) [] text → (k : List Token) → IsNameAt (t ∷ k) k text
name_more (name l e) k = name l e

a_word : (text : List ℕ) (k : List Token) → IsWordAt text (word_token text ∷ k) k
unfolding word_token
a_word text k = next_word (λ h. absurd cc) refl no_word

named : (text : List ℕ) (k : List Token) → IsNameAt (name_token text ∷ k) k text
unfolding name_token
named text k = name refl refl

-- ---- a kind, from its first tokens on

-- one output, and nothing inside
last_part : List Token → List Token
last_part k = closing (word_token (codes "endmodule") ∷ k)

output_part : List Token → List Token
output_part k = word_token (codes "output") ∷ name_token rst ∷ last_part k

one_port : Port
one_port = record { name = rst; width = width_for 0 }

small_kind : List ℕ → List Port → ModuleText
small_kind called inputs = record { name = called; inputs = inputs; outputs = one_port ∷ []; declarations = []; items = [] }

-- a kind with this name and these inputs, of which an output stands first or an input that is not `clk`
kind_with : {ts a b c d e : List Token} {called : List ℕ} {inputs : List Port} → IsWordAt (codes "module") ts a → IsNameAt a b called → IsWordAt (codes "(") b c → (IsClockFirst c → ⊥)
    → AreMany IsKindInput c d inputs → IsWordAt (codes "output") d e → (k : List Token) → e ≡ name_token rst ∷ last_part k → IsKind ts k (small_kind called inputs)
unfolding last_part one_port small_kind
kind_with {ts = ts} {a = a} {b = b} {c = c} {d = d} {e = e} {called = called} {inputs = inputs} m n o away ins out k is = record {
  a = a;
  b = b;
  c = c;
  d = d;
  e = last_part k;
  f = last_part k;
  g = word_token (codes "endmodule") ∷ k;
  h = word_token (codes "endmodule") ∷ k;
  i = word_token (codes "endmodule") ∷ k;
  first = one_port;
  later = [];
  begins = m;
  name = n;
  opens = o;
  no_clock = away;
  inputs = ins;
  output = record { a = e; b = e; words_first = out; range = no_range (width_bits 0 (omega arith)); name = subst (λ z. IsNameAt z (last_part k) rst) (sym is) (named rst (last_part k)) };
  more_outputs = no_more;
  outputs = refl;
  closes = closes (word_token (codes "endmodule") ∷ k);
  declarations = no_more;
  items = no_more;
  stops = a_word (codes "endmodule") k;
}

-- an output is no clock
pub output_first : {c d : List Token} → IsWordAt (codes "output") c d → IsClockFirst c → ⊥
output_first w first = true≢false (sym (word_there first.input).0 ∙ other_there w (codes "input") refl)

-- nor is an input with another name
input_first : {i t : Token} {k : List Token} → IsWordAt (codes "input") (i ∷ []) [] → IsNameAt (t ∷ []) [] rst → IsClockFirst (i ∷ t ∷ k) → ⊥
input_first w n first = go first.input first.clock n
  where
    go : {i t : Token} {k a b : List Token} → IsWordAt (codes "input") (i ∷ t ∷ k) a → IsNameAt a b clk → IsNameAt (t ∷ []) [] rst → ⊥
    go (next_word l e (no_word)) (name l2 e2) (name l3 e3) = true≢false (sym ((bytes_eq-Decides clk rst).1 (sym e2 ∙ e3)))

-- behind such tokens a kind can stand
kind_opens : (w : List Token) → Opens w → Completes IsKind (λ k. w ++ k)
unfolding output_part last_part one_port
kind_opens w (unopened) = record {
  back = λ k. word_token (codes "module") ∷ name_token rst ∷ word_token (codes "(") ∷ output_part k;
  value = small_kind rst [];
  spells = λ k.
      kind_with (a_word (codes "module") _) (named rst _) (a_word (codes "(") (output_part k)) (output_first (a_word (codes "output") _)) no_more (a_word (codes "output") _) k refl;
}
kind_opens w (after_module m) = record {
  back = λ k. name_token rst ∷ word_token (codes "(") ∷ output_part k;
  value = small_kind rst [];
  spells = λ k. kind_with (word_more m _) (named rst _) (a_word (codes "(") (output_part k)) (output_first (a_word (codes "output") _)) no_more (a_word (codes "output") _) k refl;
}
kind_opens w (after_name {text = text} m n) = record {
  back = λ k. word_token (codes "(") ∷ output_part k;
  value = small_kind text [];
  spells = λ k. kind_with (word_more m _) (name_more n _) (a_word (codes "(") (output_part k)) (output_first (a_word (codes "output") _)) no_more (a_word (codes "output") _) k refl;
}
kind_opens w (after_open {text = text} m n o) = record {
  back = output_part;
  value = small_kind text [];
  spells = λ k. kind_with (word_more m _) (name_more n _) (word_more o (output_part k)) (output_first (a_word (codes "output") _)) no_more (a_word (codes "output") _) k refl;
}
kind_opens w (after_input {i = i} {text = text} m n o w_in) = record {
  back = λ k. name_token rst ∷ word_token (codes ",") ∷ output_part k;
  value = small_kind text (one_port ∷ []);
  spells = λ k.
      kind_with (word_more m _) (name_more n _) (word_more o _) (input_first w_in (named rst [])) (one_more (one_input w_in (output_part k)) no_more) (a_word (codes "output") _) k refl;
}
  where
    one_input : {i : Token} → IsWordAt (codes "input") (i ∷ []) [] → (k : List Token) → IsKindInput (i ∷ name_token rst ∷ word_token (codes ",") ∷ k) k one_port
    one_input w k = record {
      a = word_token (codes ",") ∷ k;
      directed = record {
        a = name_token rst ∷ word_token (codes ",") ∷ k;
        b = name_token rst ∷ word_token (codes ",") ∷ k;
        words_first = word_more w _;
        range = no_range (width_bits 0 (omega arith));
        name = named rst _;
      };
      comma = a_word (codes ",") k;
    }

output_opens : (w : List Token) → OpensOutput w → Completes IsKind (λ k. w ++ k)
unfolding output_part last_part
output_opens w (after_output {text = text} m n o w_out) = record {
  back = λ k. name_token rst ∷ last_part k;
  value = small_kind text [];
  spells = λ k. kind_with (word_more m _) (name_more n _) (word_more o _) (output_first (word_more w_out _)) no_more (word_more w_out _) k refl;
}

-- ---- the first tokens of a kind and of a top

-- `module name ( input` or `module name ( output`, and a token more
data KindTokens : List Token → Type 0 where
  with_input : {m n o i x : Token} {text : List ℕ} {k : List Token} → IsWordAt (codes "module") (m ∷ []) [] → IsNameAt (n ∷ []) [] text → IsWordAt (codes "(") (o ∷ []) [] → IsWordAt (codes "input") (i ∷ []) []
      → KindTokens (m ∷ n ∷ o ∷ i ∷ x ∷ k)
  with_output : {m n o i x : Token} {text : List ℕ} {k : List Token} → IsWordAt (codes "module") (m ∷ []) [] → IsNameAt (n ∷ []) [] text → IsWordAt (codes "(") (o ∷ []) [] → IsWordAt (codes "output") (i ∷ []) []
      → KindTokens (m ∷ n ∷ o ∷ i ∷ x ∷ k)

-- a range and a name are some token
data HasFirst : List Token → Type 0 where
  first_token : {x : Token} {k : List Token} → HasFirst (x ∷ k)

name_some : {ts rest : List Token} {text : List ℕ} → IsNameAt ts rest text → HasFirst ts
name_some (name k e) = first_token

range_some : {ts mid rest : List Token} {width : Width} {text : List ℕ} → IsRange ts mid width → IsNameAt mid rest text → HasFirst ts
range_some (no_range e) n = name_some n
range_some (range (next_word k e w) n le c b) m = first_token

port_tokens : {word : List ℕ} {ts rest : List Token} {port : Port} → IsPort (word ∷ []) ts rest port → (W : List Token → Type 0) → ((i x : Token) (k : List Token) → IsWordAt word (i ∷ []) [] → W (i ∷ x ∷ k)) → W ts
port_tokens p W make = go p.words_first (range_some p.range p.name) make
  where
    go : {word : List ℕ} {ts a : List Token} → IsWordAt word ts a → HasFirst a → ((i x : Token) (k : List Token) → IsWordAt word (i ∷ []) [] → W (i ∷ x ∷ k)) → W ts
    go (next_word {t = i} l e (no_word)) (first_token {x = x} {k = k}) make = make i x k (next_word l e no_word)

header_tokens : {ts rest : List Token} {x : Header} → HasKindHeader ts rest x → KindTokens ts
header_tokens h = go h.begins h.name h.opens h.inputs h.outputs.output
  where
    go : {ts a b c d e : List Token} {text : List ℕ} {inputs : List Port} {port : Port} → IsWordAt (codes "module") ts a → IsNameAt a b text → IsWordAt (codes "(") b c → AreMany IsKindInput c d inputs → IsPort (codes "output" ∷ []) d e port → KindTokens ts
    go (next_word {t = m} k1 e1 (no_word)) (name {t = n} k2 e2) (next_word {t = o} k3 e3 (no_word)) (no_more) p =
        port_tokens p (λ c. KindTokens (m ∷ n ∷ o ∷ c)) (λ i x k w. with_output (next_word k1 e1 no_word) (name k2 e2) (next_word k3 e3 no_word) w)
    go (next_word {t = m} k1 e1 (no_word)) (name {t = n} k2 e2) (next_word {t = o} k3 e3 (no_word)) (one_more i many) p =
        port_tokens i.directed (λ c. KindTokens (m ∷ n ∷ o ∷ c)) (λ i x k w. with_input (next_word k1 e1 no_word) (name k2 e2) (next_word k3 e3 no_word) w)

-- the first of them, four at most
kind_front : {ts : List Token} → KindTokens ts → (n : ℕ) → n ≤ 4 → Opens (take n ts) ⊎ OpensOutput (take n ts)
kind_front (with_input m n o i) zero le = inl unopened
kind_front (with_input m n o i) (suc zero) le = inl (after_module m)
kind_front (with_input m n o i) (suc (suc zero)) le = inl (after_name m n)
kind_front (with_input m n o i) (suc (suc (suc zero))) le = inl (after_open m n o)
kind_front (with_input m n o i) (suc (suc (suc (suc zero)))) le = inl (after_input m n o i)
kind_front (with_input m n o i) (suc (suc (suc (suc (suc k))))) le = absurd (omega arith)
kind_front (with_output m n o i) zero le = inl unopened
kind_front (with_output m n o i) (suc zero) le = inl (after_module m)
kind_front (with_output m n o i) (suc (suc zero)) le = inl (after_name m n)
kind_front (with_output m n o i) (suc (suc (suc zero))) le = inl (after_open m n o)
kind_front (with_output m n o i) (suc (suc (suc (suc zero)))) le = inr (after_output m n o i)
kind_front (with_output m n o i) (suc (suc (suc (suc (suc k))))) le = absurd (omega arith)

-- and those of a top
top_front : (ts : List Token) → begins_top ts ≡ true → (n : ℕ) → n ≤ 4 → Opens (take n ts)
top_front [] h n le = absurd cc
top_front (t1 ∷ []) h n le = absurd cc
top_front (t1 ∷ t2 ∷ []) h n le = absurd cc
top_front (t1 ∷ t2 ∷ t3 ∷ []) h n le = absurd cc
top_front (t1 ∷ t2 ∷ t3 ∷ t4 ∷ []) h n le = absurd cc
top_front (t1 ∷ t2 ∷ t3 ∷ t4 ∷ t5 ∷ ts) h n le =
    let z = both (is_word (codes "module") t1) (same t2.kind kind.Name && (is_word (codes "(") t3 && (is_word (codes "input") t4 && is_name clk t5))) h in
    let y = both (same t2.kind kind.Name) (is_word (codes "(") t3 && (is_word (codes "input") t4 && is_name clk t5)) z.1 in
    let x = both (is_word (codes "(") t3) (is_word (codes "input") t4 && is_name clk t5) y.1 in
    let w = both (is_word (codes "input") t4) (is_name clk t5) x.1 in
    go (at_word (codes "module") (t1 ∷ []) z.0) (name (same_is t2.kind kind.Name y.0) refl) (at_word (codes "(") (t3 ∷ []) x.0) (at_word (codes "input") (t4 ∷ []) w.0) n le
  where
    go : IsWordAt (codes "module") (t1 ∷ []) [] → IsNameAt (t2 ∷ []) [] t2.text → IsWordAt (codes "(") (t3 ∷ []) [] → IsWordAt (codes "input") (t4 ∷ []) [] → (n : ℕ) → n ≤ 4 → Opens (take n (t1 ∷ t2 ∷ t3 ∷ t4 ∷ t5 ∷ ts))
    go m n o i zero le = unopened
    go m n o i (suc zero) le = after_module m
    go m n o i (suc (suc zero)) le = after_name m n
    go m n o i (suc (suc (suc zero))) le = after_open m n o
    go m n o i (suc (suc (suc (suc zero)))) le = after_input m n o i
    go m n o i (suc (suc (suc (suc (suc k))))) le = absurd (omega arith)

-- four tokens and one more tell whether a top begins
same_top : (w : List Token) → 4 ≤ length w → (t : Token) (a b : List Token) → begins_top (w ++ (t ∷ a)) ≡ begins_top (w ++ (t ∷ b))
same_top [] le t a b = absurd (omega arith)
same_top (t1 ∷ []) le t a b = absurd (omega arith)
same_top (t1 ∷ t2 ∷ []) le t a b = absurd (omega arith)
same_top (t1 ∷ t2 ∷ t3 ∷ []) le t a b = absurd (omega arith)
same_top (t1 ∷ t2 ∷ t3 ∷ t4 ∷ []) le t a b = refl
same_top (t1 ∷ t2 ∷ t3 ∷ t4 ∷ t5 ∷ w) le t a b = refl

five_top : (w : List Token) → 5 ≤ length w → (a b : List Token) → begins_top (w ++ a) ≡ begins_top (w ++ b)
five_top [] le a b = absurd (omega arith)
five_top (t1 ∷ []) le a b = absurd (omega arith)
five_top (t1 ∷ t2 ∷ []) le a b = absurd (omega arith)
five_top (t1 ∷ t2 ∷ t3 ∷ []) le a b = absurd (omega arith)
five_top (t1 ∷ t2 ∷ t3 ∷ t4 ∷ []) le a b = absurd (omega arith)
five_top (t1 ∷ t2 ∷ t3 ∷ t4 ∷ t5 ∷ w) le a b = refl

-- what begins a kind begins no top, and some tokens that begin no kind begin a top
not_top : (ts : List Token) → begins_kind ts ≡ true → begins_top ts ≡ false
not_top [] h = absurd cc
not_top (t ∷ ts) h = not_true (begins_top (t ∷ ts)) h

a_top : (ts : List Token) → Ends ts → begins_kind ts ≡ false → begins_top ts ≡ true
a_top [] e h = absurd (omega (arith, ends_some e))
a_top (t ∷ ts) e h = not_false (begins_top (t ∷ ts)) h

-- ---- kinds

kind_from : {ts rest : List Token} {x : ModuleText} → KindShape ts rest x → begins_top ts ≡ false → IsKind ts rest x
kind_from {ts = ts} {rest = rest} {x = x} s none =
    let h = s.headed in
    subst (IsKind ts rest) (sym s.is)
    (record {
      a = h.a;
      b = h.b;
      c = h.c;
      d = h.d;
      e = h.outputs.a;
      f = h.e;
      g = s.g;
      h = s.h;
      i = s.i;
      first = h.outputs.first;
      later = h.outputs.later;
      begins = h.begins;
      name = h.name;
      opens = h.opens;
      no_clock = no_clock h.begins h.name h.opens none;
      inputs = h.inputs;
      output = h.outputs.output;
      more_outputs = h.outputs.more_outputs;
      outputs = h.outputs.are;
      closes = h.closes;
      declarations = s.declarations;
      items = s.items;
      stops = s.stops;
    })

-- a kind has five tokens at least
shape_long : {ts rest : List Token} {x : ModuleText} → KindShape ts rest x → length rest + 5 ≤ length ts
shape_long s = let h = header_long s.headed in let m = middle s.declarations s.items s.stops in omega arith
  where
    middle : {g h i rest : List Token} {ds : List SignalDeclaration} {items : List Item} → AreMany IsKindDeclaration g h ds → AreMany IsKindItem h i items → IsWordAt (codes "endmodule") i rest → length rest ≤ length g
    middle d i s = omega (arith, many_end IsKindDeclaration (λ ts rest x d. kind_declaration_end d) d, many_end IsKindItem (λ ts rest x i. kind_item_end i) i, words_end s)

    header_long : {ts rest : List Token} {x : Header} → HasKindHeader ts rest x → length rest + 5 ≤ length ts
    header_long h =
        let i = many_end IsKindInput (λ ts rest x p. kind_input_end p) h.inputs in
        let o = many_end (IsPort (codes "," ∷ codes "output" ∷ [])) (λ ts rest x p. port_end p) h.outputs.more_outputs in
        omega (arith, words_end h.begins, name_end h.name, words_end h.opens, port_end h.outputs.output, words_end h.closes)

kind_judged : (ts : List Token) → Ends ts → begins_kind ts ≡ true → Verdict true pair IsKind kind_at ts
kind_judged ts e b = go (shape_reads.judged ts e)
  where
    none : begins_top ts ≡ false
    none = not_top ts b

    -- the tokens of a front that has five are those of now
    still : (front : List Token → List Token) (p : Puts front) → 5 ≤ length p.tokens → (back : List Token) → ts ≡ front back → (k : List Token) → begins_top (front k) ≡ false
    still front p le back is k = ap begins_top (p.is k) ∙ five_top p.tokens le k back ∙ ap begins_top (sym (p.is back)) ∙ ap begins_top (sym is) ∙ none

    go : Verdict true pair KindShape kind_at ts → Verdict true pair IsKind kind_at ts
    go (past front rest x p is ends sees again spells) = past front rest x p is ends sees again (λ k.
        let long = shape_long (spells k) in
        let whole = ap length (p.is k) in
        let sum = length-append p.tokens k in
        kind_from (spells k) (still front p (omega arith) rest is k))
    go (stops front t rest p is again c) = stops front t rest p is again (completed (cases_lt 4 (length p.tokens)))
      where
        moved : Completes IsKind (λ k. p.tokens ++ k) → Completes IsKind front
        moved d = record { back = d.back; value = d.value; spells = λ k. subst (λ z. IsKind z k d.value) (sym (p.is (d.back k))) (d.spells k) }

        opened : (n : ℕ) → n ≡ length p.tokens → Opens (take n (front (c.back []))) ⊎ OpensOutput (take n (front (c.back []))) → Completes IsKind front
        opened n len o =
            let same_front : take n (front (c.back [])) ≡ p.tokens = ap (take n) (p.is (c.back [])) ∙ ap (λ m. take m (p.tokens ++ c.back [])) len ∙ take-append_seam p.tokens (c.back []) in
            elim o [
              | inl own ↦ moved (kind_opens p.tokens (subst Opens same_front own))
              | inr out ↦ moved (output_opens p.tokens (subst OpensOutput same_front out))
            ]

        completed : (4 < length p.tokens) ⊎ (length p.tokens ≤ 4) → Completes IsKind front
        completed (inl long) = record { back = c.back; value = c.value; spells = λ k. kind_from (c.spells k) (still front p (omega arith) (t ∷ rest) is (c.back k)) }
        completed (inr few) = opened (length p.tokens) refl (kind_front (header_tokens (c.spells []).headed) (length p.tokens) few)

kind_goes_on : (front : List Token → List Token) (t : Token) (rest : List Token) → Puts front → begins_kind (front (t ∷ rest)) ≡ true → ((k : List Token) → kind_at (front (t ∷ k)) ≡ Err t.place) → (k : List Token) → begins_kind (front (t ∷ k)) ≡ true
kind_goes_on front t rest p b again k = go (cases_lt 3 (length p.tokens))
  where
    some_kind : (w : List Token) (t : Token) (k : List Token) → begins_top (w ++ (t ∷ k)) ≡ false → begins_kind (w ++ (t ∷ k)) ≡ true
    some_kind [] t k h = ap not h
    some_kind (u ∷ w) t k h = ap not h

    kind_of : begins_top (p.tokens ++ (t ∷ k)) ≡ false → begins_kind (front (t ∷ k)) ≡ true
    kind_of h = ap begins_kind (p.is (t ∷ k)) ∙ some_kind p.tokens t k h

    none : begins_top (p.tokens ++ (t ∷ rest)) ≡ false
    none = ap begins_top (sym (p.is (t ∷ rest))) ∙ not_top (front (t ∷ rest)) b

    not_both : (x : ModuleText × List Token) (q : Place) → ◌≡◌ {A = Result (ModuleText × List Token) Place} (Ok x) (Err q) → ⊥
    not_both x q e = cc

    -- with few tokens a kind can go on behind this one
    few_tokens : length p.tokens ≤ 3 → begins_top (p.tokens ++ (t ∷ k)) ≡ true → ⊥
    few_tokens le h =
        let w = p.tokens ++ (t ∷ []) in
        let line : (k : List Token) → w ++ k ≡ p.tokens ++ (t ∷ k) = λ k. append_assoc p.tokens (t ∷ []) k in
        let sum = length-append p.tokens (t ∷ []) in
        let len : length w ≤ 4 = omega arith in
        let opens : Opens (take (length w) (w ++ k)) = top_front (w ++ k) (ap begins_top (line k) ∙ h) (length w) len in
        let c = kind_opens w (subst Opens (take-append_seam w k) opens) in
        let read = kind_gives (w ++ c.back []) [] c.value (c.spells []) in
        not_both (c.value, []) t.place (sym read ∙ ap kind_at (line (c.back []) ∙ sym (p.is (t ∷ c.back []))) ∙ again (c.back []))

    go : (3 < length p.tokens) ⊎ (length p.tokens ≤ 3) → begins_kind (front (t ∷ k)) ≡ true
    go (inl long) = kind_of (same_top p.tokens (omega arith) t k rest ∙ none)
    go (inr few) = by_test (begins_top (p.tokens ++ (t ∷ k))) (λ h. absurd (few_tokens few h)) (λ h. kind_of h)

kinds_judged : (ts : List Token) → Ends ts → Parts IsKind begins_kind kind_at ts
kinds_judged ts e = parts_judged IsKind begins_kind kind_at refl kind_judged kind_begins kind_goes_on (λ ts rest x k. kind_end k) (length ts) ts (omega arith) e

-- ---- a top, from its first tokens on

-- ` clk, input rst); endmodule`
rest_of_top : List Token → List Token
rest_of_top k = word_token (codes ",") ∷ word_token (codes "input") ∷ name_token rst ∷ last_part k

clock_part : List Token → List Token
clock_part k = name_token clk ∷ rest_of_top k

small_top : List ℕ → ModuleText
small_top called = record { name = called; inputs = []; outputs = []; declarations = []; items = [] }

top_with : {ts a b c d : List Token} {called : List ℕ} → IsWordAt (codes "module") ts a → IsNameAt a b called → IsWordAt (codes "(") b c → IsWordAt (codes "input") c d → (k : List Token) → d ≡ clock_part k → IsTop ts k (small_top called)
unfolding last_part small_top rest_of_top clock_part word_token
top_with {ts = ts} {a = a} {b = b} {c = c} {d = d} {called = called} m n o i k is = record {
  a = a;
  b = b;
  c = last_part k;
  d = last_part k;
  e = last_part k;
  f = word_token (codes "endmodule") ∷ k;
  g = word_token (codes "endmodule") ∷ k;
  h = word_token (codes "endmodule") ∷ k;
  begins = m;
  name = n;
  clocked = record {
    a = d;
    b = rest_of_top k;
    c = name_token rst ∷ last_part k;
    opens = two_words o i;
    clock = subst (λ z. IsNameAt z (rest_of_top k) clk) (sym is) (named clk (rest_of_top k));
    between = next_word (λ h. absurd cc) refl (next_word (λ h. absurd cc) refl no_word);
    reset = named rst (last_part k);
  };
  inputs = no_more;
  outputs = no_more;
  closes = closes (word_token (codes "endmodule") ∷ k);
  declarations = no_more;
  items = no_more;
  stops = a_word (codes "endmodule") k;
}
  where
    two_words : {v w : List ℕ} {ts a b : List Token} → IsWordAt v ts a → IsWordAt w a b → AreWords (v ∷ w ∷ []) ts b
    two_words (next_word k e (no_word)) w = next_word k e w

top_opens : (w : List Token) → Opens w → Completes IsTop (λ k. w ++ k)
top_opens w (unopened) = record {
  back = λ k. word_token (codes "module") ∷ name_token rst ∷ word_token (codes "(") ∷ word_token (codes "input") ∷ clock_part k;
  value = small_top rst;
  spells = λ k. top_with (a_word (codes "module") _) (named rst _) (a_word (codes "(") _) (a_word (codes "input") (clock_part k)) k refl;
}
top_opens w (after_module m) = record {
  back = λ k. name_token rst ∷ word_token (codes "(") ∷ word_token (codes "input") ∷ clock_part k;
  value = small_top rst;
  spells = λ k. top_with (word_more m _) (named rst _) (a_word (codes "(") _) (a_word (codes "input") (clock_part k)) k refl;
}
top_opens w (after_name {text = text} m n) = record {
  back = λ k. word_token (codes "(") ∷ word_token (codes "input") ∷ clock_part k;
  value = small_top text;
  spells = λ k. top_with (word_more m _) (name_more n _) (a_word (codes "(") _) (a_word (codes "input") (clock_part k)) k refl;
}
top_opens w (after_open {text = text} m n o) = record {
  back = λ k. word_token (codes "input") ∷ clock_part k;
  value = small_top text;
  spells = λ k. top_with (word_more m _) (name_more n _) (word_more o _) (a_word (codes "input") (clock_part k)) k refl;
}
top_opens w (after_input {text = text} m n o i) = record {
  back = clock_part;
  value = small_top text;
  spells = λ k. top_with (word_more m _) (name_more n _) (word_more o _) (word_more i (clock_part k)) k refl;
}

-- where the reader of a top stops, a top begins whatever follows
top_goes_on : (front : List Token → List Token) (t : Token) (rest : List Token) → Puts front → begins_top (front (t ∷ rest)) ≡ true → ((k : List Token) → top_at (front (t ∷ k)) ≡ Err t.place) → (k : List Token) → begins_top (front (t ∷ k)) ≡ true
top_goes_on front t rest p b again k = go (cases_lt 3 (length p.tokens))
  where
    now : begins_top (p.tokens ++ (t ∷ rest)) ≡ true
    now = ap begins_top (sym (p.is (t ∷ rest))) ∙ b

    not_both : (x : ModuleText × List Token) (q : Place) → ◌≡◌ {A = Result (ModuleText × List Token) Place} (Ok x) (Err q) → ⊥
    not_both x q e = cc

    few_tokens : length p.tokens ≤ 3 → ⊥
    few_tokens le =
        let w = p.tokens ++ (t ∷ []) in
        let line : (k : List Token) → w ++ k ≡ p.tokens ++ (t ∷ k) = λ k. append_assoc p.tokens (t ∷ []) k in
        let sum = length-append p.tokens (t ∷ []) in
        let len : length w ≤ 4 = omega arith in
        let opens : Opens (take (length w) (w ++ rest)) = top_front (w ++ rest) (ap begins_top (line rest) ∙ now) (length w) len in
        let c = top_opens w (subst Opens (take-append_seam w rest) opens) in
        let read = top_gives (w ++ c.back []) [] c.value (c.spells []) in
        not_both (c.value, []) t.place (sym read ∙ ap top_at (line (c.back []) ∙ sym (p.is (t ∷ c.back []))) ∙ again (c.back []))

    go : (3 < length p.tokens) ⊎ (length p.tokens ≤ 3) → begins_top (front (t ∷ k)) ≡ true
    go (inl long) = ap begins_top (p.is (t ∷ k)) ∙ same_top p.tokens (omega arith) t k rest ∙ now
    go (inr few) = absurd (few_tokens few)

-- ---- the whole text

-- how the reader of a text ends
data LastVerdict (ts : List Token) : Type 0 where
  read_all : (y : Text) → text_at ts ≡ Ok y → LastVerdict ts
  breaks : (front : List Token → List Token) (t : Token) (rest : List Token) → Puts front → ts ≡ front (t ∷ rest) → ((k : List Token) → text_at (front (t ∷ k)) ≡ Err t.place)
      → (more : List Token) (y : Text) → IsText (front more) y → LastVerdict ts

end_token : Token
end_token = record { kind = kind.End; text = []; place = start }

ended : IsEnd (end_token ∷ [])
unfolding end_token
ended = end refl

-- where the reader of kinds, of the top or of the end stops, so does that of the text
kinds_stop : (ts : List Token) (p : Place) → kinds_at ts ≡ Err p → text_at ts ≡ Err p
unfolding text_at
kinds_stop ts p e = rw e refl

top_stops : (ts mid : List Token) (ks : List ModuleText) (p : Place) → kinds_at ts ≡ Ok (ks, mid) → top_at mid ≡ Err p → text_at ts ≡ Err p
unfolding text_at
top_stops ts mid ks p e f = rw (e, f) refl

end_stops : (ts mid rest : List Token) (ks : List ModuleText) (x : ModuleText) (p : Place) → kinds_at ts ≡ Ok (ks, mid) → top_at mid ≡ Ok (x, rest) → end_at rest ≡ Err p → text_at ts ≡ Err p
unfolding text_at
end_stops ts mid rest ks x p e f g = rw (e, f, g) refl

all_read : (ts mid rest : List Token) (ks : List ModuleText) (x : ModuleText) → kinds_at ts ≡ Ok (ks, mid) → top_at mid ≡ Ok (x, rest) → end_at rest ≡ Ok tt → text_at ts ≡ Ok (record { kinds = ks; top = x })
unfolding text_at
all_read ts mid rest ks x e f g = rw (e, f, g) refl

-- what is no end
end_there : (t : Token) → t.kind ≢ kind.End → (k : List Token) → end_at (t ∷ k) ≡ Err t.place
unfolding end_at
end_there t k [] = rw (other (same t.kind kind.End) refl) refl
  where
    other : (b : Bool) → same t.kind kind.End ≡ b → same t.kind kind.End ≡ false
    other true h = absurd (k (same_is t.kind kind.End h))
    other false h = h
end_there t k (u ∷ ts) = refl

text_judged : (ts : List Token) → Ends ts → LastVerdict ts
unfolding end_at
text_judged ts e = with_kinds ts (kinds_judged ts e)
  where
    with_end : (ts rest left : List Token) (ks : List ModuleText) (x : ModuleText) (front inner : List Token → List Token) → Puts front → ts ≡ front rest → Puts inner → rest ≡ inner left → Ends left
        → ((k : List Token) → AreMany IsKind (front k) k ks) → ((k : List Token) → kinds_at (front (inner k)) ≡ Ok (ks, inner k)) → ((k : List Token) → top_at (inner k) ≡ Ok (x, k)) → ((k : List Token) → IsTop (inner k) k x) → LastVerdict ts
    with_end ts rest left ks x front inner p is q gone (last {t = t} k f) are kinds top spells =
        read_all (record { kinds = ks; top = x }) (ap text_at (is ∙ ap front gone) ∙ all_read (front (inner left)) (inner left) left ks x (kinds left) (top left) (end_gives (end {t = t} k)))
    with_end ts rest left ks x front inner p is q gone (before {t = t} {ts = more} k f) are kinds top spells =
        breaks (λ k. front (inner k)) t more (puts_both p q) (is ∙ ap front gone)
        (λ b. end_stops (front (inner (t ∷ b))) (inner (t ∷ b)) (t ∷ b) ks x t.place (kinds (t ∷ b)) (top (t ∷ b)) (end_there t k b)) (end_token ∷ []) (record { kinds = ks; top = x })
        (record { a = inner (end_token ∷ []); b = end_token ∷ []; kinds = are (inner (end_token ∷ [])); top = spells (end_token ∷ []); ends = ended })

    with_top : (ts rest : List Token) (ks : List ModuleText) (front : List Token → List Token) → Puts front → ts ≡ front rest → begins_top rest ≡ true
        → ((k : List Token) → begins_kind k ≡ false → kinds_at (front k) ≡ Ok (ks, k)) → ((k : List Token) → AreMany IsKind (front k) k ks) → Verdict true pair IsTop top_at rest → LastVerdict ts
    with_top ts rest ks front p is begins kinds are (stops inner t left q same again c) =
        breaks (λ k. front (inner k)) t left (puts_both p q) (is ∙ ap front same)
        (λ k.
        let still : begins_top (inner (t ∷ k)) ≡ true = top_goes_on inner t left q (ap begins_top (sym same) ∙ begins) again k in
        top_stops (front (inner (t ∷ k))) (inner (t ∷ k)) ks t.place (kinds (inner (t ∷ k)) (no_kind (inner (t ∷ k)) still)) (again k))
        (c.back (end_token ∷ [])) (record { kinds = ks; top = c.value })
        (record { a = inner (c.back (end_token ∷ [])); b = end_token ∷ []; kinds = are (inner (c.back (end_token ∷ []))); top = c.spells (end_token ∷ []); ends = ended })
    with_top ts rest ks front p is begins kinds are (past inner left x q same ends sees again spells) =
        with_end ts rest left ks x front inner p is q same ends are (λ k. kinds (inner k) (no_kind (inner k) (top_begins (spells k)))) (λ k. again k tt) spells

    with_kinds : (ts : List Token) → Parts IsKind begins_kind kind_at ts → LastVerdict ts
    with_kinds ts (part_stops front t rest p is stopped starts c) =
        let t1 = top_opens [] unopened in
        let more = t1.back (end_token ∷ []) in
        breaks front t rest p is (λ k. kinds_stop (front (t ∷ k)) t.place (stopped (length (front (t ∷ k))) k [] (omega arith))) (c.back more) (record { kinds = c.value; top = t1.value })
        (record { a = more; b = end_token ∷ []; kinds = c.spells more; top = t1.spells (end_token ∷ []); ends = ended })
    with_kinds ts (all_parts front rest ks p is ends none once spells) =
        with_top ts rest ks front p is (a_top rest ends none) (λ k b. once (length (front k)) k [] (omega arith) b) spells (top_reads.judged rest ends)

-- ---- where a text breaks off

-- the tokens at which reading stops are those with which no text goes on
pub stops_there : (tokens : List Token) (p : Place) → Ends tokens → text_at tokens ≡ Err p → StopsAt tokens p
stops_there tokens p e f = go (text_judged tokens e)
  where
    read_err : (x : Text) → ◌≡◌ {A = Result Text Place} (Ok x) (Err p) → ⊥
    read_err x e = cc

    same_place : (q : Place) → ◌≡◌ {A = Result Text Place} (Err q) (Err p) → q ≡ p
    same_place q e = cc

    go : LastVerdict tokens → StopsAt tokens p
    go (read_all x g) = absurd (read_err x (sym g ∙ f))
    go (breaks front t rest q is again more x says) =
        record {
          before = q.tokens;
          token = t;
          after = rest;
          whole = is ∙ q.is (t ∷ rest);
          stands = same_place t.place (sym (again rest) ∙ ap text_at (sym is) ∙ f);
          begins = begins_front q.tokens (record { more = more; said = x; says = subst (λ z. IsText z x) (q.is more) says });
          none = λ f.
              let b = front_begins (q.tokens ++ (t ∷ [])) f in
              let there : front (t ∷ b.more) ≡ (q.tokens ++ (t ∷ [])) ++ b.more = q.is (t ∷ b.more) ∙ sym (append_assoc q.tokens (t ∷ []) b.more) in
              read_not b.said t.place (sym (text_gives _ b.said b.says) ∙ ap text_at (sym there) ∙ again b.more);
        }
      where
        read_not : (x : Text) (q : Place) → ◌≡◌ {A = Result Text Place} (Ok x) (Err q) → ⊥
        read_not x q e = cc

-- two cuts of one list
data Cuts (xs ys : List Token) (x y : Token) : Type 0 where
  same_cut : x ≡ y → Cuts xs ys x y
  later_cut : (zs : List Token) → ys ≡ xs ++ (x ∷ zs) → Cuts xs ys x y
  earlier_cut : (zs : List Token) → xs ≡ ys ++ (y ∷ zs) → Cuts xs ys x y

cuts : (xs ys : List Token) (x y : Token) (cs bs : List Token) → xs ++ (x ∷ cs) ≡ ys ++ (y ∷ bs) → Cuts xs ys x y
cuts [] [] x y cs bs e = same_cut (head_is x y cs bs e)
  where
    head_is : (x y : Token) (cs bs : List Token) → ◌≡◌ {A = List Token} (x ∷ cs) (y ∷ bs) → x ≡ y
    head_is x y cs bs e = cc
cuts [] (z ∷ ys) x y cs bs e = later_cut ys (head_of x z cs _ e)
  where
    head_of : (x z : Token) (cs bs : List Token) → ◌≡◌ {A = List Token} (x ∷ cs) (z ∷ bs) → z ∷ ys ≡ x ∷ ys
    head_of x z cs bs e = cc
cuts (z ∷ xs) [] x y cs bs e = earlier_cut xs (head_of z y _ bs e)
  where
    head_of : (z y : Token) (cs bs : List Token) → ◌≡◌ {A = List Token} (z ∷ cs) (y ∷ bs) → z ∷ xs ≡ y ∷ xs
    head_of z y cs bs e = cc
cuts (z ∷ xs) (w ∷ ys) x y cs bs e = under (heads z w _ _ e) (cuts xs ys x y cs bs (tails z w _ _ e))
  where
    heads : (z w : Token) (cs bs : List Token) → ◌≡◌ {A = List Token} (z ∷ cs) (w ∷ bs) → z ≡ w
    heads z w cs bs e = cc

    tails : (z w : Token) (cs bs : List Token) → ◌≡◌ {A = List Token} (z ∷ cs) (w ∷ bs) → cs ≡ bs
    tails z w cs bs e = cc

    under : z ≡ w → Cuts xs ys x y → Cuts (z ∷ xs) (w ∷ ys) x y
    under h (same_cut e) = same_cut e
    under h (later_cut zs e) = later_cut zs (ap (λ (u : List Token). w ∷ u) e ∙ ap (λ u. u ∷ (xs ++ (x ∷ zs))) (sym h))
    under h (earlier_cut zs e) = earlier_cut zs (ap (λ (u : List Token). z ∷ u) e ∙ ap (λ u. u ∷ (ys ++ (y ∷ zs))) h)

-- tokens that begin a text begin with tokens that do
shorter_begins : (xs : List Token) (x : Token) (zs : List Token) → Begins (xs ++ (x ∷ zs)) → Begins (xs ++ (x ∷ []))
shorter_begins xs x zs b =
    record {
      more = zs ++ b.more;
      said = b.said;
      says = subst (λ z. IsText z b.said) (append_assoc xs (x ∷ zs) b.more ∙ sym (append_assoc xs (x ∷ []) (zs ++ b.more))) b.says;
    }

shorter_front : (xs : List Token) (x : Token) (zs : List Token) → FrontText (xs ++ (x ∷ zs)) → FrontText (xs ++ (x ∷ []))
shorter_front xs x zs f = begins_front (xs ++ (x ∷ [])) (shorter_begins xs x zs (front_begins (xs ++ (x ∷ zs)) f))

-- a text breaks off at one place
pub one_stop : (tokens : List Token) (p q : Place) → StopsAt tokens p → StopsAt tokens q → p ≡ q
one_stop tokens p q s t = go (cuts s.before t.before s.token t.token s.after t.after (sym s.whole ∙ t.whole))
  where
    go : Cuts s.before t.before s.token t.token → p ≡ q
    go (same_cut e) = sym s.stands ∙ ap (λ (z : Token). z.place) e ∙ t.stands
    go (later_cut zs e) = absurd (s.none (shorter_front s.before s.token zs (subst FrontText e t.begins)))
    go (earlier_cut zs e) = absurd (t.none (shorter_front t.before t.token zs (subst FrontText e s.begins)))

-- where tokens stop to begin a text, they say none
pub stops_say_none : (tokens : List Token) (p : Place) (x : Text) → StopsAt tokens p → IsText tokens x → ⊥
stops_say_none tokens p x s t =
    s.none (begins_front (s.before ++ (s.token ∷ [])) (record { more = s.after; said = x; says = subst (λ z. IsText z x) (s.whole ∙ sym (append_assoc s.before (s.token ∷ []) s.after)) t }))

-- the tokens of bytes end
pub lexed_ends : {p : Place} {bytes : List ℕ} {tokens : List Token} → AreTokens p bytes tokens → Ends tokens
lexed_ends (end_of_bytes) = last refl refl
lexed_ends (blank b more) = lexed_ends more
lexed_ends (comment e c more) = lexed_ends more
lexed_ends (token {k = k} {text = text} e c l r more) = before (λ h. absurd (subst (λ z. IsSpelled z text) h l.spelled)) (lexed_ends more)
