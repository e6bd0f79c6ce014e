-- How the readers of items end, and those of the parts of a kind.
use Rattle.std.proofs.Common.{◌≡◌, Bool, true, false, List, [], ◌∷◌, refl, if◌then◌else◌}
use Rattle.std.specs.Prelude.{codes}
use Rattle.av_net.specs.declared.netlist.Port.{Port}
use Rattle.av_net.specs.Lexemes.{Token}
use Rattle.av_net.specs.Grammar.{ModuleText, SignalDeclaration, wire, PortLink, Item, instance, IsPort, IsOperand, AreMany, IsLink, IsNextLink, IsItem, instantiation, IsDeclaration, IsKindInput, IsKindDeclaration, kind_wire, IsKindItem}
use Rattle.av_vparse.specs.inner.Reading.{is_at, directed_at, begins_declaration, declaration_at, link_at, next_link_at, links_at, step_at, assigned_at, instance_at, begins_item, item_at, all_at, declarations_at, items_at, assignments_at, Header, with_body, kind_input_at, kind_inputs_at, more_outputs_at, kind_outputs_at, kind_header_at, kind_wire_at, kind_wires_at, kind_at}
use Rattle.av_vparse.proofs.Sound.{any_item, Links, Outputs, HasKindHeader}
use Rattle.av_vparse.proofs.Complete.{comma_first, next_link_begins, declaration_begins, item_begins, assigned_begins, kind_input_begins, kind_wire_begins}
use Rattle.av_vparse.proofs.Ends.{port_end, declaration_end, next_link_end, item_end, kind_input_end, kind_declaration_end, kind_item_end}
use Rattle.av_vparse.proofs.Verdicts.{Ends, Verdict, Reads, pair, Follows, follows, then_reads, Mapped, unmap, map_reads, verdict_as, reads_as, when_true, when_false}
use Rattle.av_vparse.proofs.BeginningParts.{Word, Words, Name, word_reads, words_read, name_reads, alike_test, alike_word, PortIs, port_reads, as_port, directed_reads, Declared, declared_reads, declaration_reads, operand_reads, assigned_reads, step_reads, as_step, declared_in}
use Rattle.av_vparse.proofs.BeginningLists.{many_read}

-- ---- instances

abbrev LinkIs : List Token → List Token → PortLink → Type 0
LinkIs = Follows (Word (codes ".")) (λ a. Follows Name (λ port. Follows (Word (codes "(")) (λ b. Follows IsOperand (λ o. Mapped (Word (codes ")")) (λ c. record { port = port; operand = o })))))

link_reads : Reads true pair IsLink link_at
unfolding link_at
link_reads = reads_as within whole
  where
    whole : Reads true pair LinkIs link_at
    whole =
        then_reads _ (word_reads (codes ".") refl) (λ a. then_reads _ name_reads (λ port. then_reads _ (word_reads (codes "(") refl) (λ b. then_reads _ operand_reads
        (λ o. map_reads _ (λ c. record { port = port; operand = o }) (λ c k. refl) (word_reads (codes ")") refl)))))

    within : (ts rest : List Token) (x : PortLink) → LinkIs ts rest x → IsLink ts rest x
    within ts rest x (follows {mid = a} w (follows {mid = b} n (follows {mid = c} v (follows {mid = d} o m)))) =
        unmap (IsLink ts rest) m (λ y s. record { a = a; b = b; c = c; d = d; dot = w; port = n; opens = v; operand = o; closes = s })

next_link_reads : Reads true pair IsNextLink next_link_at
unfolding next_link_at
next_link_reads = reads_as within (then_reads _ (word_reads (codes ",") refl) (λ a. link_reads))
  where
    within : (ts rest : List Token) (x : PortLink) → Follows (Word (codes ",")) (λ a. IsLink) ts rest x → IsNextLink ts rest x
    within ts rest x (follows {mid = a} w l) = record { a = a; comma = w; linked = l }

links_reads : Reads false pair Links links_at
links_reads = reads_as within (then_reads _ link_reads (λ first. map_reads _ (λ later. first ∷ later) (λ x k. refl) next_links))
  where
    next_links : Reads false pair (AreMany IsNextLink) (all_at (is_at (codes ",")) next_link_at)
    next_links = many_read IsNextLink (is_at (codes ",")) next_link_at refl (alike_word (codes ",")) next_link_reads next_link_begins (λ ts rest x l. next_link_end l)

    within : (ts rest : List Token) (xs : List PortLink) → Follows IsLink (λ first. Mapped (AreMany IsNextLink) (λ later. first ∷ later)) ts rest xs → Links ts rest xs
    within ts rest xs (follows {mid = a} {x = first} l m) = unmap (Links ts rest) m (λ later are. record { a = a; first = first; later = later; links_first = l; links_later = are; are = refl })

abbrev InstanceIs : List Token → List Token → Item → Type 0
InstanceIs =
    Follows Name (λ kind. Follows Name (λ called. Follows (Word (codes "(")) (λ a. Follows Links (λ links. Mapped (Words (codes ")" ∷ codes ";" ∷ [])) (λ b. instance (record { kind = kind; name = called; links = links }))))))

instance_reads : Reads true pair IsItem instance_at
unfolding instance_at
instance_reads = reads_as within whole
  where
    whole : Reads true pair InstanceIs instance_at
    whole =
        then_reads _ name_reads (λ kind. then_reads _ name_reads (λ called. then_reads _ (word_reads (codes "(") refl) (λ a. then_reads _ links_reads
        (λ links. map_reads _ (λ b. instance (record { kind = kind; name = called; links = links })) (λ b k. refl) (words_read (codes ")") (codes ";" ∷ []) (refl, (refl, tt)))))))

    within : (ts rest : List Token) (x : Item) → InstanceIs ts rest x → IsItem ts rest x
    within ts rest x (follows {mid = a} {x = kind} k (follows {mid = b} {x = called} n (follows {mid = c} w (follows {mid = e} {x = links} l m)))) =
        unmap (IsItem ts rest) m (λ y s. instantiation {x = record { kind = kind; name = called; links = links }}
        (record { a = a; b = b; c = c; d = l.a; e = e; first = l.first; later = l.later; kind = k; name = n; opens = w; links_first = l.links_first; links_later = l.links_later; links = l.are; closes = s }))

-- ---- items

item_reads : Reads true pair IsItem item_at
unfolding item_at
item_reads = record { judged = judge; some = instance_reads.some }
  where
    not_assigned : (ts : List Token) → Ends ts → Verdict true pair IsItem (λ ts. if is_at (codes "always") ts then step_at ts else instance_at ts) ts
    not_assigned ts e = go (is_at (codes "always") ts) refl
      where
        go : (b : Bool) → is_at (codes "always") ts ≡ b → Verdict true pair IsItem (λ ts. if is_at (codes "always") ts then step_at ts else instance_at ts) ts
        go true h = when_true _ _ (is_at (codes "always")) (alike_word (codes "always")) h (verdict_as as_step (step_reads.judged ts e))
        go false h = when_false _ _ (is_at (codes "always")) (alike_word (codes "always")) h (instance_reads.judged ts e)

    judge : (ts : List Token) → Ends ts → Verdict true pair IsItem item_at ts
    judge ts e = go (is_at (codes "assign") ts) refl
      where
        go : (b : Bool) → is_at (codes "assign") ts ≡ b → Verdict true pair IsItem item_at ts
        go true h = when_true _ _ (is_at (codes "assign")) (alike_word (codes "assign")) h (verdict_as (λ ts rest x i. any_item i) (assigned_reads.judged ts e))
        go false h = when_false _ _ (is_at (codes "assign")) (alike_word (codes "assign")) h (not_assigned ts e)

pub declarations_read : Reads false pair (AreMany IsDeclaration) declarations_at
declarations_read =
    many_read IsDeclaration begins_declaration declaration_at refl (alike_test begins_declaration (λ t a b. refl)) declaration_reads declaration_begins (λ ts rest x d. declaration_end d)

pub items_read : Reads false pair (AreMany IsItem) items_at
items_read = many_read IsItem begins_item item_at refl (alike_test begins_item (λ t a b. refl)) item_reads item_begins (λ ts rest x i. item_end i)

-- ---- the parts of a kind

kind_input_reads : Reads true pair IsKindInput kind_input_at
unfolding kind_input_at
kind_input_reads = reads_as within (then_reads _ (word_reads (codes "input") refl) (λ a. then_reads _ port_reads (λ port. map_reads _ (λ b. port) (λ b k. refl) (word_reads (codes ",") refl))))
  where
    within : (ts rest : List Token) (x : Port) → Follows (Word (codes "input")) (λ a. Follows PortIs (λ port. Mapped (Word (codes ",")) (λ b. port))) ts rest x → IsKindInput ts rest x
    within ts rest x (follows w (follows {mid = b} {x = port} p m)) =
        unmap (IsKindInput ts rest) m (λ y s. record { a = b; directed = as_port (codes "input" ∷ []) ts b port (follows w p); comma = s })

kind_inputs_read : Reads false pair (AreMany IsKindInput) kind_inputs_at
kind_inputs_read = many_read IsKindInput (is_at (codes "input")) kind_input_at refl (alike_word (codes "input")) kind_input_reads kind_input_begins (λ ts rest x p. kind_input_end p)

abbrev IsOutput : List Token → List Token → Port → Type 0
IsOutput = IsPort (codes "," ∷ codes "output" ∷ [])

outputs_read : Reads false pair Outputs kind_outputs_at
outputs_read = reads_as within (then_reads _ (word_reads (codes "output") refl) (λ a. then_reads _ port_reads (λ first. map_reads _ (λ later. first ∷ later) (λ x k. refl) more_outputs)))
  where
    more_outputs : Reads false pair (AreMany IsOutput) more_outputs_at
    more_outputs = many_read IsOutput (is_at (codes ",")) (directed_at (codes "output")) refl (alike_word (codes ",")) (directed_reads (codes "output") refl) (λ ts rest x p. comma_first p.words_first) (λ ts rest x p. port_end p)

    within : (ts rest : List Token) (xs : List Port) → Follows (Word (codes "output")) (λ a. Follows PortIs (λ first. Mapped (AreMany IsOutput) (λ later. first ∷ later))) ts rest xs → Outputs ts rest xs
    within ts rest xs (follows w (follows {mid = b} {x = first} p m)) =
        unmap (Outputs ts rest) m (λ later are. record { a = b; first = first; later = later; output = as_port (codes "output" ∷ []) ts b first (follows w p); more_outputs = are; are = refl })

abbrev KindHeaderIs : List Token → List Token → Header → Type 0
KindHeaderIs =
    Follows (Word (codes "module")) (λ a. Follows Name (λ called. Follows (Word (codes "(")) (λ b. Follows (AreMany IsKindInput) (λ inputs. Follows Outputs
    (λ outputs. Mapped (Words (codes ")" ∷ codes ";" ∷ [])) (λ c. record { name = called; inputs = inputs; outputs = outputs }))))))

kind_header_reads : Reads true pair HasKindHeader kind_header_at
unfolding kind_header_at
kind_header_reads = reads_as within whole
  where
    whole : Reads true pair KindHeaderIs kind_header_at
    whole =
        then_reads _ (word_reads (codes "module") refl) (λ a. then_reads _ name_reads (λ called. then_reads _ (word_reads (codes "(") refl) (λ b. then_reads _ kind_inputs_read (λ inputs. then_reads _ outputs_read
        (λ outputs. map_reads _ (λ c. record { name = called; inputs = inputs; outputs = outputs }) (λ c k. refl) (words_read (codes ")") (codes ";" ∷ []) (refl, (refl, tt))))))))

    within : (ts rest : List Token) (x : Header) → KindHeaderIs ts rest x → HasKindHeader ts rest x
    within ts rest x (follows {mid = a} m (follows {mid = b} n (follows {mid = c} w (follows {mid = d} i (follows {mid = e} o end))))) =
        unmap (HasKindHeader ts rest) end (λ y s. record { a = a; b = b; c = c; d = d; e = e; begins = m; name = n; opens = w; inputs = i; outputs = o; closes = s })

kind_wire_reads : Reads true pair IsKindDeclaration kind_wire_at
unfolding kind_wire_at
kind_wire_reads = reads_as within (then_reads _ (word_reads (codes "wire") refl) (λ a. map_reads _ wire (λ x k. refl) declared_reads))
  where
    within : (ts rest : List Token) (x : SignalDeclaration) → Follows (Word (codes "wire")) (λ a. Mapped Declared wire) ts rest x → IsKindDeclaration ts rest x
    within ts rest x (follows {mid = a} w m) = unmap (IsKindDeclaration ts rest) m (λ port d. declared_in (λ p. IsKindDeclaration ts rest (wire p)) (codes "wire") ts a rest port w d (λ q b p s. kind_wire p s))

kind_wires_read : Reads false pair (AreMany IsKindDeclaration) kind_wires_at
kind_wires_read = many_read IsKindDeclaration (is_at (codes "wire")) kind_wire_at refl (alike_word (codes "wire")) kind_wire_reads kind_wire_begins (λ ts rest x d. kind_declaration_end d)

assignments_read : Reads false pair (AreMany IsKindItem) assignments_at
assignments_read = many_read IsKindItem (is_at (codes "assign")) assigned_at refl (alike_word (codes "assign")) assigned_reads assigned_begins (λ ts rest x i. kind_item_end i)

-- a kind, but for what its header may not begin with
pub record KindShape (ts rest : List Token) (x : ModuleText) : Type 0 where
  pub g : List Token
  pub h : List Token
  pub i : List Token
  pub header : Header
  pub headed : HasKindHeader ts g header
  pub declarations : AreMany IsKindDeclaration g h x.declarations
  pub items : AreMany IsKindItem h i x.items
  pub stops : Word (codes "endmodule") i rest tt
  pub is : x ≡ with_body header x.declarations x.items

abbrev ShapeIs : List Token → List Token → ModuleText → Type 0
ShapeIs = Follows HasKindHeader (λ header. Follows (AreMany IsKindDeclaration) (λ ds. Follows (AreMany IsKindItem) (λ items. Mapped (Word (codes "endmodule")) (λ a. with_body header ds items))))

pub shape_reads : Reads true pair KindShape kind_at
unfolding kind_at
shape_reads = reads_as within whole
  where
    whole : Reads true pair ShapeIs kind_at
    whole =
        then_reads _ kind_header_reads (λ header. then_reads _ kind_wires_read (λ ds. then_reads _ assignments_read
        (λ items. map_reads _ (λ a. with_body header ds items) (λ a k. refl) (word_reads (codes "endmodule") refl))))

    within : (ts rest : List Token) (x : ModuleText) → ShapeIs ts rest x → KindShape ts rest x
    within ts rest x (follows {mid = g} {x = header} he (follows {mid = h} {x = ds} d (follows {mid = i} {x = items} it m))) =
        unmap (KindShape ts rest) m (λ y s. record { g = g; h = h; i = i; header = header; headed = he; declarations = d; items = it; stops = s; is = refl })
