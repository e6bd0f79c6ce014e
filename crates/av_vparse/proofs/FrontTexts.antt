-- Fronts of kinds, of the top and of texts: the tokens that are one are those with which a text begins.
use Rattle.std.proofs.Common.{◌≡◌, ◌≢◌, inl, inr, ℕ, Bool, true, false, true≢false, List, [], ◌∷◌, ◌++◌, length, refl, sym, subst, ◌∙◌, arith}
use Rattle.std.specs.Prelude.{codes}
use Rattle.std.proofs.lemmas.Slice.Eq.{bytes_eq-Decides}
use Rattle.av_base.specs.Tokens.{start}
use Rattle.av_base.specs.declared.width.Width.{Width}
use Rattle.av_net.specs.declared.token_kind.DesignTokenKind.TheVariants as kind
use Rattle.av_net.specs.declared.netlist.Port.{Port}
use Rattle.av_net.specs.Names.{clk, rst}
use Rattle.av_net.specs.Lexemes.{Token}
use Rattle.av_net.specs.Grammar.{ModuleText, SignalDeclaration, Item, drive, no_word, next_word, IsWordAt, IsNameAt, name, IsEnd, end, IsRange, no_range, range, IsPort, IsDeclaration, IsDrive, IsItem, AreMany, no_more, one_more, IsKindInput, IsKindDeclaration, IsKindItem, kind_assignment, kind_wide_assignment, IsClockFirst, IsKind, IsTop, IsText}
use Rattle.av_vparse.specs.inner.Reading.{is_at, width_for}
use Rattle.av_vparse.specs.Beginnings.{Begins}
use Rattle.av_vparse.specs.Fronts.{in_first, in_next, FrontMany, in_part, one_there, no_word_yet, past_word, Words, IsThisName, FrontKindInput, FrontKindItem, FrontKindRest, FrontKindPorts, FrontKind, FrontClocked, Clocked, FrontTop, FrontEnd, no_end_yet, at_end, FrontText}
use Rattle.av_vparse.proofs.Sound.{width_bits}
use Rattle.av_vparse.proofs.Steps.{at_word, word_there, other_there}
use Rattle.av_vparse.proofs.Verdicts.{Follows, follows, Mapped, mapped, unmap}
use Rattle.av_vparse.proofs.BeginningParts.{word_token, name_token}
use Rattle.av_vparse.proofs.FrontRules.{Split, short, within, Completion, Rules, part_as, behind_rules, Either, either_rules, mapped_rules, many_rules, words_rules}
use Rattle.av_vparse.proofs.FrontParts.{name_rules, this_name_rules, port_rules, declaration_rules, kind_declaration_rules, drive_rules, wide_item, IsWideDrive, wide_drive_rules, item_rules}

-- ---- kinds

abbrev KindInputIs : List Token → List Token → Port → Type 0
KindInputIs = Follows (IsPort (codes "input" ∷ [])) (λ port. Mapped (Words (codes "," ∷ [])) (λ x. port))

kind_input_rules : Rules FrontKindInput IsKindInput
kind_input_rules = part_as to from (behind_rules (port_rules (codes "input" ∷ [])) (λ port. mapped_rules (λ x. port) (words_rules (codes "," ∷ []))))
  where
    to : (ts rest : List Token) (p : Port) → KindInputIs ts rest p → IsKindInput ts rest p
    to ts rest p (follows {mid = a} i m) = unmap (IsKindInput ts rest) m (λ x c. record { a = a; directed = i; comma = c })

    from : (ts rest : List Token) (p : Port) → IsKindInput ts rest p → KindInputIs ts rest p
    from ts rest p i = follows i.directed (mapped i.comma)

abbrev KindItemIs : List Token → List Token → Item → Type 0
KindItemIs = Either (Mapped IsDrive drive) (Mapped IsWideDrive wide_item)

kind_item_rules : Rules FrontKindItem IsKindItem
kind_item_rules = part_as to from (either_rules (mapped_rules drive drive_rules) (mapped_rules wide_item wide_drive_rules))
  where
    to : (ts rest : List Token) (x : Item) → KindItemIs ts rest x → IsKindItem ts rest x
    to ts rest x (inl m) = unmap (IsKindItem ts rest) m (λ d i. kind_assignment i)
    to ts rest x (inr m) = unmap (IsKindItem ts rest) m (λ d i. kind_wide_assignment i)

    from : (ts rest : List Token) (x : Item) → IsKindItem ts rest x → KindItemIs ts rest x
    from ts rest x (kind_assignment i) = inl (mapped i)
    from ts rest x (kind_wide_assignment {bit = b} {d = d} i) = inr (mapped {x = (b, d)} i)

-- what stands behind a kind's `(`
record Body : Type 0 where
  pub inputs : List Port
  pub first : Port
  pub later : List Port
  pub declarations : List SignalDeclaration
  pub items : List Item

abbrev body : List Port → Port → List Port → List SignalDeclaration → List Item → Body
body inputs first later declarations items = record { inputs = inputs; first = first; later = later; declarations = declarations; items = items }

abbrev IsMoreOutput : List Token → List Token → Port → Type 0
IsMoreOutput = IsPort (codes "," ∷ codes "output" ∷ [])

abbrev RestIs : List Token → List Token → Body → Type 0
RestIs =
    Follows (AreMany IsKindInput) (λ inputs. Follows (IsPort (codes "output" ∷ [])) (λ first. Follows (AreMany IsMoreOutput) (λ later. Follows (Words (codes ")" ∷ codes ";" ∷ [])) (λ x.
    Follows (AreMany IsKindDeclaration) (λ declarations. Follows (AreMany IsKindItem) (λ items. Mapped (Words (codes "endmodule" ∷ [])) (λ y. body inputs first later declarations items)))))))

rest_rules : Rules FrontKindRest RestIs
rest_rules =
    behind_rules (many_rules kind_input_rules) (λ inputs. behind_rules (port_rules (codes "output" ∷ [])) (λ first. behind_rules (many_rules (port_rules (codes "," ∷ codes "output" ∷ []))) (λ later.
    behind_rules (words_rules (codes ")" ∷ codes ";" ∷ [])) (λ x. behind_rules (many_rules kind_declaration_rules) (λ declarations. behind_rules (many_rules kind_item_rules) (λ items.
    mapped_rules (λ y. body inputs first later declarations items) (words_rules (codes "endmodule" ∷ []))))))))

-- two tokens and more
data Two : List Token → Type 0 where
  two : {t u : Token} {ts : List Token} → Two (t ∷ u ∷ ts)

name_some : {ts rest : List Token} {text : List ℕ} → IsNameAt ts rest text → (t : Token) × ((k : List Token) × (ts ≡ t ∷ k))
name_some (name {t = t} {ts = k} l e) = (t, (k, refl))

range_some : {ts mid rest : List Token} {width : Width} {text : List ℕ} → IsRange ts mid width → IsNameAt mid rest text → (t : Token) × ((k : List Token) × (ts ≡ t ∷ k))
range_some (no_range e) n = name_some n
range_some (range (next_word {t = t} {ts = k} l e w) n le c b) m = (t, (k, refl))

word_two : {text : List ℕ} {ts a : List Token} → IsWordAt text ts a → (t : Token) × ((k : List Token) × (a ≡ t ∷ k)) → Two ts
word_two (next_word {t = t} l e (no_word)) some = subst (λ a. Two (t ∷ a)) (sym some.1.1) two

port_two : {text : List ℕ} {ts rest : List Token} {p : Port} → IsPort (text ∷ []) ts rest p → Two ts
port_two p = word_two p.words_first (range_some p.range p.name)

rest_two : (ts rest : List Token) (x : Body) → RestIs ts rest x → Two ts
rest_two ts rest x (follows inputs (follows output more)) = go inputs output
  where
    go : {ts mid left : List Token} {inputs : List Port} {first : Port} → AreMany IsKindInput ts mid inputs → IsPort (codes "output" ∷ []) mid left first → Two ts
    go (no_more) output = port_two output
    go (one_more i many) output = port_two i.directed

word_longer : {text : List ℕ} {ts rest : List Token} → IsWordAt text ts rest → (more : List Token) → IsWordAt text (ts ++ more) (rest ++ more)
word_longer (next_word k e (no_word)) more = next_word k e no_word

name_longer : {ts rest : List Token} {text : List ℕ} → IsNameAt ts rest text → (more : List Token) → IsNameAt (ts ++ more) (rest ++ more) text
name_longer (name k e) more = name k e

clock_longer : (ts more : List Token) → IsClockFirst ts → IsClockFirst (ts ++ more)
clock_longer ts more c = record { a = c.a ++ more; b = c.b ++ more; input = word_longer c.input more; clock = name_longer c.clock more }

clock_shorter : (ts more : List Token) → Two ts → IsClockFirst (ts ++ more) → IsClockFirst ts
clock_shorter ts more (two {t = t} {u = u} {ts = k}) c = go c.input c.clock
  where
    go : {a b : List Token} → IsWordAt (codes "input") (t ∷ u ∷ (k ++ more)) a → IsNameAt a b clk → IsClockFirst (t ∷ u ∷ k)
    go (next_word l e (no_word)) (name m f) = record { a = u ∷ k; b = k; input = next_word l e no_word; clock = name m f }

abbrev PortsAre : List Token → List Token → Body → Type 0
PortsAre ts rest x = (IsClockFirst ts → ⊥) × RestIs ts rest x

-- a first token that is no `input`, and a second one that is no `clk`
not_input : {ts : List Token} → is_at (codes "input") ts ≡ false → IsClockFirst ts → ⊥
not_input other c = true≢false (sym (word_there c.input).0 ∙ other)

other_name : (t : Token) (k : List Token) → IsClockFirst (t ∷ name_token rst ∷ k) → ⊥
unfolding name_token
other_name t k c = go c.input c.clock
  where
    names : rst ≡ clk → ⊥
    names e = true≢false (sym ((bytes_eq-Decides rst clk).1 e))

    go : {a b : List Token} → IsWordAt (codes "input") (t ∷ name_token rst ∷ k) a → IsNameAt a b clk → ⊥
    go (next_word l e (no_word)) (name m f) = names f

ports_rules : Rules FrontKindPorts PortsAre
unfolding word_token name_token
ports_rules = record {
  start = record { no_clock = λ c. nothing c.input; front = rest_rules.start };
  splits = λ ts more rest x p. split ts more rest x p.0 (rest_rules.splits ts more rest x p.1);
  extends = λ ts rest x p more. ((λ c. p.0 (clock_shorter ts more (rest_two ts rest x p.1) c)), rest_rules.extends ts rest x p.1 more);
  completes = completes;
}
  where
    nothing : {a : List Token} → IsWordAt (codes "input") [] a → ⊥
    nothing w = true≢false (sym (word_there w).0)

    split : (ts more rest : List Token) (x : Body) → (IsClockFirst (ts ++ more) → ⊥) → Split FrontKindRest RestIs ts more rest x → Split FrontKindPorts PortsAre ts more rest x
    split ts more rest x none (short f) = short (record { no_clock = λ c. none (clock_longer ts more c); front = f })
    split ts more rest x none (within left e i) = within left e ((λ c. none (clock_longer ts more c)), i)

    -- an output first
    output_front : FrontKindRest (word_token (codes "output") ∷ [])
    output_front = in_next no_more (in_first (in_first (past_word (λ h. absurd cc) refl no_word_yet)))

    -- an input and its name
    input_front : (t : Token) → t.kind ≢ kind.Name → t.text ≡ codes "input" → FrontKindRest (t ∷ name_token rst ∷ [])
    input_front t k e = in_first (in_part (in_first (in_next {x = tt} (next_word k e no_word) (in_next {x = width_for 0} (no_range (width_bits 0 (omega arith))) (one_there (name refl refl))))))

    input_word : (t : Token) → is_at (codes "input") (t ∷ []) ≡ true → (t.kind ≢ kind.Name) × (t.text ≡ codes "input")
    input_word t e = go (at_word (codes "input") (t ∷ []) e)
      where
        go : {a : List Token} → IsWordAt (codes "input") (t ∷ []) a → (t.kind ≢ kind.Name) × (t.text ≡ codes "input")
        go (next_word k f (no_word)) = (k, f)

    completes : (ts : List Token) → FrontKindPorts ts → Completion PortsAre ts
    completes [] f =
        let c = rest_rules.completes (word_token (codes "output") ∷ []) output_front in
        record { more = word_token (codes "output") ∷ c.more; value = c.value; is = λ rest. (not_input (other_there (there (c.more ++ rest)) (codes "input") refl), c.is rest) }
      where
        there : (k : List Token) → IsWordAt (codes "output") (word_token (codes "output") ∷ k) k
        there k = next_word (λ h. absurd cc) refl no_word
    completes (t ∷ []) f = by_first (is_at (codes "input") (t ∷ [])) refl
      where
        by_first : (b : Bool) → is_at (codes "input") (t ∷ []) ≡ b → Completion PortsAre (t ∷ [])
        by_first true e =
            let w = input_word t e in
            let c = rest_rules.completes (t ∷ name_token rst ∷ []) (input_front t w.0 w.1) in
            record { more = name_token rst ∷ c.more; value = c.value; is = λ rest. (other_name t (c.more ++ rest), c.is rest) }
        by_first false e =
            let c = rest_rules.completes (t ∷ []) f.front in
            record { more = c.more; value = c.value; is = λ rest. (not_input e, c.is rest) }
    completes (t ∷ u ∷ ts) f =
        let c = rest_rules.completes (t ∷ u ∷ ts) f.front in
        record { more = c.more; value = c.value; is = λ rest. ((λ i. f.no_clock (clock_shorter (t ∷ u ∷ ts) (c.more ++ rest) two i)), c.is rest) }

abbrev kind_of_body : List ℕ → Body → ModuleText
kind_of_body called x = record { name = called; inputs = x.inputs; outputs = x.first ∷ x.later; declarations = x.declarations; items = x.items }

abbrev KindIs : List Token → List Token → ModuleText → Type 0
KindIs = Follows (Words (codes "module" ∷ [])) (λ u. Follows IsNameAt (λ called. Follows (Words (codes "(" ∷ [])) (λ v. Mapped PortsAre (kind_of_body called))))

kind_rules : Rules FrontKind IsKind
kind_rules = part_as to from (behind_rules (words_rules (codes "module" ∷ [])) (λ u. behind_rules name_rules (λ called. behind_rules (words_rules (codes "(" ∷ [])) (λ v. mapped_rules (kind_of_body called) ports_rules))))
  where
    to : (ts rest : List Token) (x : ModuleText) → KindIs ts rest x → IsKind ts rest x
    to ts rest x (follows {mid = a} m (follows {mid = b} {x = called} n (follows {mid = c} o p))) = unmap (IsKind ts rest) p (λ y i. made y i)
      where
        made : (y : Body) → PortsAre c rest y → IsKind ts rest (kind_of_body called y)
        made y i = go i.1
          where
            go : RestIs c rest y → IsKind ts rest (kind_of_body called y)
            go (follows {mid = d} ins (follows {mid = e} {x = first} out (follows {mid = f} {x = later} outs (follows {mid = g} k (follows {mid = h} ds (follows {mid = j} items z)))))) =
                unmap (λ y. IsKind ts rest (kind_of_body called y)) z (λ w s. record {
                  a = a;
                  b = b;
                  c = c;
                  d = d;
                  e = e;
                  f = f;
                  g = g;
                  h = h;
                  i = j;
                  first = first;
                  later = later;
                  begins = m;
                  name = n;
                  opens = o;
                  no_clock = i.0;
                  inputs = ins;
                  output = out;
                  more_outputs = outs;
                  outputs = refl;
                  closes = k;
                  declarations = ds;
                  items = items;
                  stops = s;
                })

    from : (ts rest : List Token) (x : ModuleText) → IsKind ts rest x → KindIs ts rest x
    from ts rest x k =
        subst (λ outputs. KindIs ts rest (record { name = x.name; inputs = x.inputs; outputs = outputs; declarations = x.declarations; items = x.items })) (sym k.outputs)
        (follows {x = tt} k.begins (follows k.name (follows {x = tt} k.opens (mapped {x = body x.inputs k.first k.later x.declarations x.items}
        (k.no_clock, follows k.inputs (follows k.output (follows k.more_outputs (follows {x = tt} k.closes (follows k.declarations (follows k.items (mapped k.stops)))))))))))

-- ---- the top

abbrev ClockedIs : List Token → List Token → Unit {0} → Type 0
ClockedIs = Follows (Words (codes "(" ∷ codes "input" ∷ [])) (λ u. Follows (IsThisName clk) (λ v. Follows (Words (codes "," ∷ codes "input" ∷ [])) (λ w. IsThisName rst)))

clocked_rules : Rules FrontClocked Clocked
clocked_rules = part_as to from (behind_rules (words_rules (codes "(" ∷ codes "input" ∷ [])) (λ u. behind_rules (this_name_rules clk) (λ v. behind_rules (words_rules (codes "," ∷ codes "input" ∷ [])) (λ w. this_name_rules rst))))
  where
    to : (ts rest : List Token) (x : Unit {0}) → ClockedIs ts rest x → Clocked ts rest x
    to ts rest x (follows {mid = a} o (follows {mid = b} c (follows {mid = d} w r))) = record { a = a; b = b; c = d; opens = o; clock = c; between = w; reset = r }

    from : (ts rest : List Token) (x : Unit {0}) → Clocked ts rest x → ClockedIs ts rest x
    from ts rest x c = follows {x = tt} c.opens (follows {x = tt} c.clock (follows {x = tt} c.between c.reset))

abbrev IsDirected : List ℕ → List Token → List Token → Port → Type 0
IsDirected direction = IsPort (codes "," ∷ direction ∷ [])

abbrev top_of : List ℕ → List Port → List Port → List SignalDeclaration → List Item → ModuleText
top_of called inputs outputs declarations items = record { name = called; inputs = inputs; outputs = outputs; declarations = declarations; items = items }

abbrev TopIs : List Token → List Token → ModuleText → Type 0
TopIs =
    Follows (Words (codes "module" ∷ [])) (λ u. Follows IsNameAt (λ called. Follows Clocked (λ v. Follows (AreMany (IsDirected (codes "input"))) (λ inputs. Follows (AreMany (IsDirected (codes "output"))) (λ outputs.
    Follows (Words (codes ")" ∷ codes ";" ∷ [])) (λ w. Follows (AreMany IsDeclaration) (λ declarations. Follows (AreMany IsItem) (λ items. Mapped (Words (codes "endmodule" ∷ [])) (λ x. top_of called inputs outputs declarations items)))))))))

top_rules : Rules FrontTop IsTop
top_rules =
    part_as to from (behind_rules (words_rules (codes "module" ∷ [])) (λ u. behind_rules name_rules (λ called. behind_rules clocked_rules (λ v.
    behind_rules (many_rules (port_rules (codes "," ∷ codes "input" ∷ []))) (λ inputs. behind_rules (many_rules (port_rules (codes "," ∷ codes "output" ∷ []))) (λ outputs.
    behind_rules (words_rules (codes ")" ∷ codes ";" ∷ [])) (λ w. behind_rules (many_rules declaration_rules) (λ declarations. behind_rules (many_rules item_rules) (λ items.
    mapped_rules (λ x. top_of called inputs outputs declarations items) (words_rules (codes "endmodule" ∷ []))))))))))
    )
  where
    to : (ts rest : List Token) (x : ModuleText) → TopIs ts rest x → IsTop ts rest x
    to ts rest x (follows {mid = a} m (follows {mid = b} n (follows {mid = c} k (follows {mid = d} ins (follows {mid = e} outs (follows {mid = f} p (follows {mid = g} ds (follows {mid = h} items z)))))))) =
        unmap (IsTop ts rest) z (λ w s. record { a = a; b = b; c = c; d = d; e = e; f = f; g = g; h = h; begins = m; name = n; clocked = k; inputs = ins; outputs = outs; closes = p; declarations = ds; items = items; stops = s })

    from : (ts rest : List Token) (x : ModuleText) → IsTop ts rest x → TopIs ts rest x
    from ts rest x t =
        follows {x = tt} t.begins (follows t.name (follows {x = tt} t.clocked (follows t.inputs (follows t.outputs (follows {x = tt} t.closes (follows t.declarations (follows t.items (mapped t.stops))))))))

-- ---- texts

kinds_rules : Rules (FrontMany FrontKind IsKind) (AreMany IsKind)
kinds_rules = many_rules kind_rules

end_there : Token
end_there = record { kind = kind.End; text = []; place = start }

end_alone : {ts : List Token} → IsEnd ts → length ts ≡ 1
end_alone (end k) = refl

-- each front is one of a text
pub front_begins : (ts : List Token) → FrontText ts → Begins ts
unfolding end_there
front_begins ts (in_first f) =
    let c = kinds_rules.completes ts f in
    let d = top_rules.completes [] top_rules.start in
    let last = end_there ∷ [] in
    record {
      more = c.more ++ (d.more ++ last);
      said = record { kinds = c.value; top = d.value };
      says = record { a = d.more ++ last; b = last; kinds = c.is (d.more ++ last); top = d.is last; ends = end refl };
    }
front_begins ts (in_next {rest = left} {x = ks} k (in_first f)) =
    let d = top_rules.completes left f in
    let last = end_there ∷ [] in
    record {
      more = d.more ++ last;
      said = record { kinds = ks; top = d.value };
      says = record { a = left ++ (d.more ++ last); b = last; kinds = kinds_rules.extends ts left ks k (d.more ++ last); top = d.is last; ends = end refl };
    }
front_begins ts (in_next {rest = left} {x = ks} k (in_next {rest = []} {x = x} t (no_end_yet))) =
    let last = end_there ∷ [] in
    record {
      more = last;
      said = record { kinds = ks; top = x };
      says = record { a = left ++ last; b = last; kinds = kinds_rules.extends ts left ks k last; top = top_rules.extends left [] x t last; ends = end refl };
    }
front_begins ts (in_next {rest = left} {x = ks} k (in_next {rest = b} {x = x} t (at_end e))) =
    record {
      more = [];
      said = record { kinds = ks; top = x };
      says = record { a = left ++ []; b = b ++ []; kinds = kinds_rules.extends ts left ks k []; top = top_rules.extends left b x t []; ends = same_end e };
    }
  where
    same_end : {b : List Token} → IsEnd b → IsEnd (b ++ [])
    same_end (end k) = end k

-- and what begins a text is a front
pub begins_front : (ts : List Token) → Begins ts → FrontText ts
begins_front ts b = kinds b.says (kinds_rules.splits ts b.more b.says.a b.said.kinds b.says.kinds)
  where
    ending : (left more : List Token) → IsEnd (left ++ more) → FrontEnd left
    ending [] more e = no_end_yet
    ending (t ∷ []) more (end k) = at_end (end k)
    ending (t ∷ u ∷ left) more e = absurd (let one = end_alone e in omega (arith, one))

    tops : (t : IsText (ts ++ b.more) b.said) (left : List Token) → AreMany IsKind ts left b.said.kinds → Split FrontTop IsTop left b.more t.b b.said.top → FrontText ts
    tops t left k (short f) = in_next k (in_first f)
    tops t left k (within more e i) = in_next k (in_next i (ending more b.more (subst IsEnd e t.ends)))

    kinds : (t : IsText (ts ++ b.more) b.said) → Split (FrontMany FrontKind IsKind) (AreMany IsKind) ts b.more t.a b.said.kinds → FrontText ts
    kinds t (short f) = in_first f
    kinds t (within left e k) = tops t left k (top_rules.splits left b.more t.b b.said.top (subst (λ a. IsTop a t.b b.said.top) e t.top))
