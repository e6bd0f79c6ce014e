-- How the readers of the ports of a top end.
use Rattle.std.proofs.Common.{◌≡◌, ◌≢◌, ℕ, Bool, true, false, List, [], ◌∷◌, ◌++◌, length, Result, Ok, Err, refl, sym, ap, subst, ◌∙◌, arith}
use Rattle.std.specs.Prelude.{◌&&◌, codes}
use Rattle.std.specs.Str.{bytes_eq}
use Rattle.av_base.specs.declared.place.Place.{Place}
use Rattle.av_net.specs.declared.token_kind.DesignTokenKind.TheVariants as kind
use Rattle.av_net.specs.declared.netlist.Port.{Port}
use Rattle.av_net.specs.Names.{clk}
use Rattle.av_net.specs.Lexemes.{Token}
use Rattle.av_net.specs.Grammar.{AreWords, no_word, next_word, IsWordAt, name, no_range, IsPort, AreMany, no_more, one_more}
use Rattle.av_vparse.specs.inner.Reading.{◌>>=◌, Read, is_word, is_at, are_at, words_at, width_for, directed_at, ports_at, Header, closed_at}
use Rattle.av_vparse.proofs.Steps.{at_word, other_there}
use Rattle.av_vparse.proofs.Sound.{width_bits}
use Rattle.av_vparse.proofs.Complete.{directed_gives, two_there}
use Rattle.av_vparse.proofs.Ends.{port_end}
use Rattle.av_vparse.proofs.Verdicts.{Ends, ends_some, Puts, puts_none, puts_one, puts_both, Alike, alike_put, Verdict, past, stops, Reads, pair, alone}
use Rattle.av_vparse.proofs.BeginningParts.{word_token, name_token, Words, words_read, alike_word, word_left, directed_reads}
use Rattle.av_vparse.proofs.BeginningLists.{many_append, Parts, all_parts, part_stops, parts_judged}
use Rattle.av_base.proofs.Truths.{both}

-- ---- the ports

-- with a comma and a direction a port begins
port_given : (direction : List ℕ) (t u : Token) → t.kind ≢ kind.Name → t.text ≡ codes "," → u.kind ≢ kind.Name → u.text ≡ direction
    → directed_at direction (t ∷ u ∷ name_token clk ∷ []) ≡ Ok (record { name = clk; width = width_for 0 }, [])
unfolding name_token
port_given direction t u k e l f =
    directed_gives direction _ [] _ (record { a = name_token clk ∷ []; b = name_token clk ∷ []; words_first = next_word k e (next_word l f no_word); range = no_range (width_bits 0 (omega arith)); name = name refl refl })

port_goes_on : (direction : List ℕ) → bytes_eq [] direction ≡ false → (front : List Token → List Token) (t : Token) (rest : List Token) → Puts front → are_at (codes ",") direction (front (t ∷ rest)) ≡ true
    → ((k : List Token) → directed_at direction (front (t ∷ k)) ≡ Err t.place) → (k : List Token) → are_at (codes ",") direction (front (t ∷ k)) ≡ true
unfolding word_token
port_goes_on direction some front t rest p b again k = ap (are_at (codes ",") direction) (p.is (t ∷ k)) ∙ go p.tokens (ap (are_at (codes ",") direction) (sym (p.is (t ∷ rest))) ∙ b) (λ k. ap (directed_at direction) (sym (p.is (t ∷ k))) ∙ again k)
  where
    not_both : (x : Port × List Token) → ◌≡◌ {A = Result (Port × List Token) Place} (Ok x) (Err t.place) → ⊥
    not_both x e = cc

    word : (text : List ℕ) (t : Token) → is_word text t ≡ true → (t.kind ≢ kind.Name) × (t.text ≡ text)
    word text t h = open_word (at_word text (t ∷ []) h)
      where
        open_word : IsWordAt text (t ∷ []) [] → (t.kind ≢ kind.Name) × (t.text ≡ text)
        open_word (next_word k e (no_word)) = (k, e)

    go : (w : List Token) → are_at (codes ",") direction (w ++ (t ∷ rest)) ≡ true → ((k : List Token) → directed_at direction (w ++ (t ∷ k)) ≡ Err t.place) → are_at (codes ",") direction (w ++ (t ∷ k)) ≡ true
    go [] h bad =
        let c = word (codes ",") t (both (is_word (codes ",") t) (is_at direction rest) h).0 in
        absurd (not_both _ (sym (port_given direction t (word_token direction) c.0 c.1 (λ h. absurd cc) refl) ∙ bad (word_token direction ∷ name_token clk ∷ [])))
    go (a ∷ []) h bad =
        let z = both (is_word (codes ",") a) (is_word direction t) h in
        let c = word (codes ",") a z.0 in
        let d = word direction t z.1 in
        absurd (not_both _ (sym (port_given direction a t c.0 c.1 d.0 d.1) ∙ bad (name_token clk ∷ [])))
    go (a ∷ b ∷ w) h bad = h

module _ (direction : List ℕ) (some : bytes_eq [] direction ≡ false) where
  abbrev IsDirected : List Token → List Token → Port → Type 0
  IsDirected = IsPort (codes "," ∷ direction ∷ [])

  ports_judged : (ts : List Token) → Ends ts → Parts IsDirected (are_at (codes ",") direction) (directed_at direction) ts
  ports_judged ts e =
      parts_judged IsDirected (are_at (codes ",") direction) (directed_at direction) refl (λ ts e b. (directed_reads direction some).judged ts e) (λ ts rest x p. two_there direction ts p.a p.words_first)
      (port_goes_on direction some) (λ ts rest x p. port_end p) (length ts) ts (omega arith) e

-- where no comma comes next, the tokens before it and that token alone tell whether a port begins
same_ports : (direction : List ℕ) (front : List Token → List Token) (a b : List Token) → Puts front → Alike a b → is_at (codes ",") a ≡ false → are_at (codes ",") direction (front a) ≡ are_at (codes ",") direction (front b)
same_ports direction front a b p l h = ap (are_at (codes ",") direction) (p.is a) ∙ go p.tokens ∙ ap (are_at (codes ",") direction) (sym (p.is b))
  where
    none : (ts : List Token) → is_at (codes ",") ts ≡ false → are_at (codes ",") direction ts ≡ false
    none [] h = refl
    none (t ∷ ts) h = rw h refl

    go : (w : List Token) → are_at (codes ",") direction (w ++ a) ≡ are_at (codes ",") direction (w ++ b)
    go [] = none a h ∙ sym (none b (sym (alike_word (codes ",") a b l) ∙ h))
    go (t ∷ []) = ap (λ z. is_word (codes ",") t && z) (alike_word direction a b l)
    go (t ∷ u ∷ w) = refl

-- the tokens before two others, and these, tell whether a port begins
two_ports : (direction : List ℕ) (front : List Token → List Token) (t u : Token) (a b : List Token) → Puts front → are_at (codes ",") direction (front (t ∷ u ∷ a)) ≡ are_at (codes ",") direction (front (t ∷ u ∷ b))
two_ports direction front t u a b p = ap (are_at (codes ",") direction) (p.is (t ∷ u ∷ a)) ∙ go p.tokens ∙ ap (are_at (codes ",") direction) (sym (p.is (t ∷ u ∷ b)))
  where
    go : (w : List Token) → are_at (codes ",") direction (w ++ (t ∷ u ∷ a)) ≡ are_at (codes ",") direction (w ++ (t ∷ u ∷ b))
    go [] = refl
    go (x ∷ []) = refl
    go (x ∷ y ∷ w) = refl

-- an output is no input
not_input : (ts : List Token) → are_at (codes ",") (codes "output") ts ≡ true → are_at (codes ",") (codes "input") ts ≡ false
not_input [] h = refl
not_input (t ∷ []) h = and_false (is_word (codes ",") t)
  where
    and_false : (b : Bool) → (b && false) ≡ false
    and_false true = refl
    and_false false = refl
not_input (t ∷ u ∷ ts) h = go (both (is_word (codes ",") t) (is_word (codes "output") u) h).1
  where
    other : IsWordAt (codes "output") (u ∷ []) [] → is_word (codes "input") u ≡ false
    other w = other_there w (codes "input") refl

    and_false : (b c : Bool) → c ≡ false → (b && c) ≡ false
    and_false true c e = e
    and_false false c e = refl

    go : is_word (codes "output") u ≡ true → are_at (codes ",") (codes "input") (t ∷ u ∷ ts) ≡ false
    go h = and_false (is_word (codes ",") t) (is_word (codes "input") u) (other (at_word (codes "output") (u ∷ []) h))

abbrev pub IsInput : List Token → List Token → Port → Type 0
IsInput = IsPort (codes "," ∷ codes "input" ∷ [])

abbrev pub IsOutput : List Token → List Token → Port → Type 0
IsOutput = IsPort (codes "," ∷ codes "output" ∷ [])

inputs_judged : (ts : List Token) → Ends ts → Parts IsInput (are_at (codes ",") (codes "input")) (directed_at (codes "input")) ts
inputs_judged ts e = ports_judged (codes "input") refl ts e

outputs_judged : (ts : List Token) → Ends ts → Parts IsOutput (are_at (codes ",") (codes "output")) (directed_at (codes "output")) ts
outputs_judged ts e = ports_judged (codes "output") refl ts e

-- the ports beside the clock and the reset, and what closes them
pub record Tail (called : List ℕ) (ts rest : List Token) (x : Header) : Type 0 where
  pub a : List Token
  pub b : List Token
  pub named : x.name ≡ called
  pub inputs : AreMany IsInput ts a x.inputs
  pub outputs : AreMany IsOutput a b x.outputs
  pub closes : AreWords (codes ")" ∷ codes ";" ∷ []) b rest

unfoldable pub tail_at : List ℕ → Read Header
tail_at called ts =
    ports_at (codes "input") ts >>= λ inputs. ports_at (codes "output") inputs.1 >>= λ outputs. closed_at outputs.1 >>= λ rest. Ok (record { name = called; inputs = inputs.0; outputs = outputs.0 }, rest)

-- what closes the ports
pub closing : List Token → List Token
closing k = word_token (codes ")") ∷ word_token (codes ";") ∷ k

pub closes : (k : List Token) → AreWords (codes ")" ∷ codes ";" ∷ []) (closing k) k
unfolding closing word_token
closes k = next_word (λ h. absurd cc) refl (next_word (λ h. absurd cc) refl no_word)

closed_reads : Reads true alone (Words (codes ")" ∷ codes ";" ∷ [])) (words_at (codes ")" ∷ codes ";" ∷ []))
closed_reads = words_read (codes ")") (codes ";" ∷ []) (refl, (refl, tt))

closed_by : (k : List Token) → is_at (codes ",") k ≡ false → closed_at k ≡ words_at (codes ")" ∷ codes ";" ∷ []) k
unfolding closed_at
closed_by k h = rw h refl

comma_closes : (t u : Token) (k : List Token) → is_word (codes ",") t ≡ true → closed_at (t ∷ u ∷ k) ≡ Err u.place
unfolding closed_at
comma_closes t u k h = rw h refl

one_output : (t : Token) (k : List Token) → is_word (codes ",") t ≡ true → IsOutput (t ∷ word_token (codes "output") ∷ name_token clk ∷ k) k (record { name = clk; width = width_for 0 })
unfolding word_token name_token
one_output t k h =
    record { a = name_token clk ∷ k; b = name_token clk ∷ k; words_first = joined (at_word (codes ",") (t ∷ []) h); range = no_range (width_bits 0 (omega arith)); name = name refl refl }
  where
    joined : IsWordAt (codes ",") (t ∷ []) [] → AreWords (codes "," ∷ codes "output" ∷ []) (t ∷ word_token (codes "output") ∷ name_token clk ∷ k) (name_token clk ∷ k)
    joined (next_word k e (no_word)) = next_word k e (next_word (λ h. absurd cc) refl no_word)

module _ (called : List ℕ) where
  header_of : List Port → List Port → Header
  header_of xs ys = record { name = called; inputs = xs; outputs = ys }

  -- what follows the inputs, and what follows the outputs
  behind_inputs : List Port × List Token → Result (Header × List Token) Place
  behind_inputs inputs = ports_at (codes "output") inputs.1 >>= λ outputs. closed_at outputs.1 >>= λ rest. Ok (header_of inputs.0 outputs.0, rest)

  behind_outputs : List Port → List Port × List Token → Result (Header × List Token) Place
  behind_outputs xs outputs = closed_at outputs.1 >>= λ rest. Ok (header_of xs outputs.0, rest)

  -- the inputs were read, and behind them the outputs
  through : (ts mid last_left : List Token) (xs ys : List Port) → ports_at (codes "input") ts ≡ Ok (xs, mid) → ports_at (codes "output") mid ≡ Ok (ys, last_left) → (r : Result (List Token) Place) → closed_at last_left ≡ r
      → tail_at called ts ≡ (r >>= λ rest. Ok (header_of xs ys, rest))
  unfolding tail_at header_of
  through ts mid last_left xs ys e f r g = rw (e, f, g) refl

  stopped_outputs : (ts mid : List Token) (xs : List Port) (p : Place) → ports_at (codes "input") ts ≡ Ok (xs, mid) → ports_at (codes "output") mid ≡ Err p → tail_at called ts ≡ Err p
  unfolding tail_at
  stopped_outputs ts mid xs p e f = rw (e, f) refl

  stopped_inputs : (ts : List Token) (p : Place) → ports_at (codes "input") ts ≡ Err p → tail_at called ts ≡ Err p
  unfolding tail_at
  stopped_inputs ts p e = rw e refl

  pub tail_reads : Reads true pair (Tail called) (tail_at called)
  unfolding header_of
  tail_reads = record { judged = λ ts e. with_inputs ts (inputs_judged ts e); some = record { back = closing; value = header_of [] []; spells = λ k. record { a = closing k; b = closing k; named = refl; inputs = no_more; outputs = no_more; closes = closes k } } }
    where
      with_closed : (ts rest1 rest2 : List Token) (xs ys : List Port) (front more : List Token → List Token) → Puts front → ts ≡ front rest1 → are_at (codes ",") (codes "input") rest1 ≡ false
          → ((k : List Token) → are_at (codes ",") (codes "input") k ≡ false → ports_at (codes "input") (front k) ≡ Ok (xs, k)) → ((k : List Token) → AreMany IsInput (front k) k xs)
          → Puts more → rest1 ≡ more rest2 → are_at (codes ",") (codes "output") rest2 ≡ false
          → ((k : List Token) → are_at (codes ",") (codes "output") k ≡ false → ports_at (codes "output") (more k) ≡ Ok (ys, k)) → ((k : List Token) → AreMany IsOutput (more k) k ys)
          → is_at (codes ",") rest2 ≡ false → Verdict true alone (Words (codes ")" ∷ codes ";" ∷ [])) (words_at (codes ")" ∷ codes ";" ∷ [])) rest2 → Verdict true pair (Tail called) (tail_at called) ts
      with_closed ts rest1 rest2 xs ys front more p is in_none ins are_ins q same out_none outs are_outs comma v = go v
        where
          none_out : (k : List Token) → Alike rest2 k → are_at (codes ",") (codes "output") k ≡ false
          none_out k l = sym (same_ports (codes "output") (λ k. k) rest2 k puts_none l comma) ∙ out_none

          none_in : (k : List Token) → Alike rest2 k → are_at (codes ",") (codes "input") (more k) ≡ false
          none_in k l = sym (same_ports (codes "input") more rest2 k q l comma) ∙ ap (are_at (codes ",") (codes "input")) (sym same) ∙ in_none

          closed : (k : List Token) → Alike rest2 k → (r : Result (List Token) Place) → words_at (codes ")" ∷ codes ";" ∷ []) k ≡ r → closed_at k ≡ r
          closed k l r e = closed_by k (sym (alike_word (codes ",") rest2 k l) ∙ comma) ∙ e

          read : (k : List Token) → Alike rest2 k → (r : Result (List Token) Place) → words_at (codes ")" ∷ codes ";" ∷ []) k ≡ r → tail_at called (front (more k)) ≡ (r >>= λ rest. Ok (header_of xs ys, rest))
          read k l r e = through (front (more k)) (more k) k xs ys (ins (more k) (none_in k l)) (outs k (none_out k l)) r (closed k l r e)

          go : Verdict true alone (Words (codes ")" ∷ codes ";" ∷ [])) (words_at (codes ")" ∷ codes ";" ∷ [])) rest2 → Verdict true pair (Tail called) (tail_at called) ts
          go (stops final t left w at again c) =
              stops (λ k. front (more (final k))) t left (puts_both p (puts_both q w)) (is ∙ ap front (same ∙ ap more at))
              (λ k. read (final (t ∷ k)) (subst (λ z. Alike z (final (t ∷ k))) (sym at) (alike_put (t ∷ left) (t ∷ k) w refl)) (Err t.place) (again k))
              (record {
                back = c.back;
                value = header_of xs ys;
                spells = λ k. record { a = more (final (c.back k)); b = final (c.back k); named = refl; inputs = are_ins (more (final (c.back k))); outputs = are_outs (final (c.back k)); closes = c.spells k };
              })
          go (past final left x w at ends sees again spells) =
              past (λ k. front (more (final k))) left (header_of xs ys) (puts_both p (puts_both q w)) (is ∙ ap front (same ∙ ap more at)) ends
              (λ a b l. alike_put (more (final a)) (more (final b)) p (alike_put (final a) (final b) q (sees a b tt)))
              (λ k l. read (final k) (subst (λ z. Alike z (final k)) (sym at) (sees left k tt)) (Ok k) (again k tt))
              (λ k. record { a = more (final k); b = final k; named = refl; inputs = are_ins (more (final k)); outputs = are_outs (final k); closes = spells k })

      -- a comma, and what stands behind it is no direction that may stand there
      with_comma : (ts rest1 : List Token) (t u : Token) (left : List Token) (xs ys : List Port) (front more : List Token → List Token) → Puts front → ts ≡ front rest1 → are_at (codes ",") (codes "input") rest1 ≡ false
          → ((k : List Token) → are_at (codes ",") (codes "input") k ≡ false → ports_at (codes "input") (front k) ≡ Ok (xs, k)) → ((k : List Token) → AreMany IsInput (front k) k xs)
          → Puts more → rest1 ≡ more (t ∷ u ∷ left) → are_at (codes ",") (codes "output") (t ∷ u ∷ left) ≡ false
          → ((k : List Token) → are_at (codes ",") (codes "output") k ≡ false → ports_at (codes "output") (more k) ≡ Ok (ys, k)) → ((k : List Token) → AreMany IsOutput (more k) k ys)
          → is_word (codes ",") t ≡ true → Verdict true pair (Tail called) (tail_at called) ts
      with_comma ts rest1 t u left xs ys front more p is in_none ins are_ins q same out_none outs are_outs comma =
          stops (λ k. front (more (t ∷ k))) u left (puts_both p (puts_both q (puts_one t))) (is ∙ ap front same)
          (λ k. through (front (more (t ∷ u ∷ k))) (more (t ∷ u ∷ k)) (t ∷ u ∷ k) xs ys
          (ins (more (t ∷ u ∷ k)) (two_ports (codes "input") more t u k left q ∙ ap (are_at (codes ",") (codes "input")) (sym same) ∙ in_none)) (outs (t ∷ u ∷ k) out_none)
          (Err u.place) (comma_closes t u k comma))
          (record {
            back = λ k. word_token (codes "output") ∷ name_token clk ∷ closing k;
            value = header_of xs (ys ++ record { name = clk; width = width_for 0 } ∷ []);
            spells = λ k. record {
              a = more (t ∷ word_token (codes "output") ∷ name_token clk ∷ closing k);
              b = closing k;
              named = refl;
              inputs = are_ins (more (t ∷ word_token (codes "output") ∷ name_token clk ∷ closing k));
              outputs = many_append (are_outs (t ∷ word_token (codes "output") ∷ name_token clk ∷ closing k)) (one_more (one_output t (closing k) comma) no_more);
              closes = closes k;
            };
          })

      with_outputs : (ts rest1 : List Token) (xs : List Port) (front : List Token → List Token) → Puts front → ts ≡ front rest1 → are_at (codes ",") (codes "input") rest1 ≡ false
          → ((k : List Token) → are_at (codes ",") (codes "input") k ≡ false → ports_at (codes "input") (front k) ≡ Ok (xs, k)) → ((k : List Token) → AreMany IsInput (front k) k xs)
          → Parts IsOutput (are_at (codes ",") (codes "output")) (directed_at (codes "output")) rest1 → Verdict true pair (Tail called) (tail_at called) ts
      with_outputs ts rest1 xs front p is in_none ins are_ins (part_stops more t left q same stopped starts c) =
          stops (λ k. front (more k)) t left (puts_both p q) (is ∙ ap front same)
          (λ k. stopped_outputs (front (more (t ∷ k))) (more (t ∷ k)) xs t.place (ins (more (t ∷ k)) (not_input (more (t ∷ k)) (starts k))) (stopped (length (more (t ∷ k))) k [] (omega arith)))
          (record {
            back = λ k. c.back (closing k);
            value = header_of xs c.value;
            spells = λ k. record { a = more (c.back (closing k)); b = closing k; named = refl; inputs = are_ins (more (c.back (closing k))); outputs = c.spells (closing k); closes = closes k };
          })
      with_outputs ts rest1 xs front p is in_none ins are_ins (all_parts more rest2 ys q same ends out_none once are_outs) = go rest2 same ends out_none (is_at (codes ",") rest2) refl
        where
          outs : (k : List Token) → are_at (codes ",") (codes "output") k ≡ false → ports_at (codes "output") (more k) ≡ Ok (ys, k)
          outs k b = once (length (more k)) k [] (omega arith) b

          go : (rest2 : List Token) → rest1 ≡ more rest2 → Ends rest2 → are_at (codes ",") (codes "output") rest2 ≡ false → (b : Bool) → is_at (codes ",") rest2 ≡ b → Verdict true pair (Tail called) (tail_at called) ts
          go rest2 same ends none false h = with_closed ts rest1 rest2 xs ys front more p is in_none ins are_ins q same none outs are_outs h (closed_reads.judged rest2 ends)
          go [] same ends none true h = absurd cc
          go (t ∷ []) same ends none true h = absurd (omega (arith, ends_some (word_left (codes ",") refl t [] ends h)))
          go (t ∷ u ∷ left) same ends none true h = with_comma ts rest1 t u left xs ys front more p is in_none ins are_ins q same none outs are_outs h

      with_inputs : (ts : List Token) → Parts IsInput (are_at (codes ",") (codes "input")) (directed_at (codes "input")) ts → Verdict true pair (Tail called) (tail_at called) ts
      with_inputs ts (part_stops front t rest p is stopped starts c) =
          stops front t rest p is (λ k. stopped_inputs (front (t ∷ k)) t.place (stopped (length (front (t ∷ k))) k [] (omega arith)))
          (record {
            back = λ k. c.back (closing k);
            value = header_of c.value [];
            spells = λ k. record { a = closing k; b = closing k; named = refl; inputs = c.spells (closing k); outputs = no_more; closes = closes k };
          })
      with_inputs ts (all_parts front rest xs p is ends none once spells) =
          with_outputs ts rest xs front p is none (λ k b. once (length (front k)) k [] (omega arith) b) spells (outputs_judged rest ends)
