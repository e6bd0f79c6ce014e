-- Fronts of declarations and of items.
use Rattle.std.proofs.Common.{◌≡◌, ◌⊎◌, inl, inr, ℕ, ◌+◌, ◌≤◌, List, [], ◌∷◌, refl, sym, subst, arith}
use Rattle.std.specs.Prelude.{codes}
use Rattle.av_base.specs.declared.width.Width.{Width}
use Rattle.av_net.specs.declared.operation.Symbol.TheVariants as symbol
use Rattle.av_net.specs.declared.operation.Operand.{Operand}
use Rattle.av_net.specs.declared.operation.Operand.TheVariants as operand
use Rattle.av_net.specs.declared.operation.Operation.{Operation}
use Rattle.av_net.specs.declared.operation.Operation.TheVariants as operation
use Rattle.av_net.specs.declared.netlist.Port.{Port}
use Rattle.av_net.specs.declared.netlist.Drive.{Drive}
use Rattle.av_net.specs.declared.netlist.Step.{Step}
use Rattle.av_net.specs.Names.{clk, rst}
use Rattle.av_net.specs.Lexemes.{Token}
use Rattle.av_net.specs.Grammar.{SignalDeclaration, wire, register, PortLink, Instantiation, Item, drive, widening, step, instance, AreWords, no_word, next_word, IsNameAt, name, IsNumberAt, number, IsLiteralAt, literal, IsRange, no_range, range, IsPort, IsDeclaration, wire_declaration, register_declaration, IsOperand, named, constant, IsSigned, IsPart, IsOperation, plain, binary, signed, choice, selection, IsDrive, IsWideningDrive, IsStep, AreMany, IsLink, IsNextLink, IsInstantiation, IsItem, assignment, wide_assignment, at_an_edge, instantiation, IsKindDeclaration, kind_wire}
use Rattle.av_vparse.specs.inner.Reading.{literal_at, literal_by, sized_in}
use Rattle.av_vparse.specs.Fronts.{Words, FrontName, IsThisName, Between, IsBetween, Sized, IsSizedAt, FrontLiteral, FrontOne, FrontRange, FrontPort, FrontDeclared, FrontDeclaration, FrontOperand, FrontSigned, FrontPart, FrontBit, IsBit, FrontWidening, IsWide, IsOperator, IsOrderAt, FrontBinary, FrontComparison, FrontChoice, FrontOperation, in_operand, in_binary, in_comparison, in_choice, in_selection, FrontDrive, FrontWideDrive, FrontEdge, Edge, FrontStep, FrontLink, FrontNextLink, FrontInstantiation, FrontItem, in_drive, in_wide_drive, in_step, in_instantiation}
use Rattle.av_vparse.proofs.Steps.{literal_took}
use Rattle.av_vparse.proofs.Verdicts.{Follows, follows, Mapped, mapped, unmap}
use Rattle.av_vparse.proofs.BeginningParts.{word_token, name_token, number_token, literal_token}
use Rattle.av_vparse.proofs.FrontRules.{Rules, rules_as, part_as, behind_rules, Either, either_rules, Nothing, optional_rules, mapped_rules, With, with_rules, many_rules, words_rules, one_rules}

-- ---- single tokens

pub name_rules : Rules FrontName IsNameAt
unfolding name_token
name_rules = one_rules (record { head = λ ts rest x i. head i; anywhere = λ t rest other x i. anywhere i other; token = name_token rst; value = rst; there = λ rest. name refl refl })
  where
    head : {ts rest : List Token} {x : List ℕ} → IsNameAt ts rest x → (t : Token) × (ts ≡ t ∷ rest)
    head (name {t = t} k e) = (t, refl)

    anywhere : {t : Token} {ts rest : List Token} {x : List ℕ} → IsNameAt (t ∷ ts) rest x → (other : List Token) → IsNameAt (t ∷ other) other x
    anywhere (name k e) other = name k e

pub this_name_rules : (text : List ℕ) → Rules (FrontOne (IsThisName text)) (IsThisName text)
unfolding name_token
this_name_rules text = one_rules (record { head = λ ts rest x i. head i; anywhere = λ t rest other x i. anywhere i other; token = name_token text; value = tt; there = λ rest. name refl refl })
  where
    head : {ts rest : List Token} {x : List ℕ} → IsNameAt ts rest x → (t : Token) × (ts ≡ t ∷ rest)
    head (name {t = t} k e) = (t, refl)

    anywhere : {t : Token} {ts rest : List Token} {x : List ℕ} → IsNameAt (t ∷ ts) rest x → (other : List Token) → IsNameAt (t ∷ other) other x
    anywhere (name k e) other = name k e

number_rules : (least most : ℕ) → least ≤ most → Rules (FrontOne (IsBetween least most)) (IsBetween least most)
unfolding number_token
number_rules least most le =
    one_rules (record { head = λ ts rest x i. head i; anywhere = λ t rest other x i. anywhere i other; token = number_token least; value = record { number = least; from = omega arith; to = le }; there = λ rest. number refl (omega arith) })
  where
    head : {ts rest : List Token} {n : ℕ} → IsNumberAt ts rest n → (t : Token) × (ts ≡ t ∷ rest)
    head (number {t = t} k e) = (t, refl)

    anywhere : {t : Token} {ts rest : List Token} {n : ℕ} → IsNumberAt (t ∷ ts) rest n → (other : List Token) → IsNumberAt (t ∷ other) other n
    anywhere (number k e) other = number k e

literal_rules : Rules FrontLiteral IsSizedAt
unfolding literal_token literal_at literal_by
literal_rules =
    one_rules (record {
      head = λ ts rest x i. head i;
      anywhere = λ t rest other x i. anywhere i other;
      token = literal_token;
      value = record { width = (sized_in (codes "1'd0")).width; value = (sized_in (codes "1'd0")).value };
      there = λ rest. literal_took (literal_token ∷ rest) (sized_in (codes "1'd0"), rest) refl;
    })
  where
    head : {ts rest : List Token} {w : Width} {v : ℕ} → IsLiteralAt ts rest w v → (t : Token) × (ts ≡ t ∷ rest)
    head (literal {t = t} k l) = (t, refl)

    anywhere : {t : Token} {ts rest : List Token} {w : Width} {v : ℕ} → IsLiteralAt (t ∷ ts) rest w v → (other : List Token) → IsLiteralAt (t ∷ other) other w v
    anywhere (literal k l) other = literal k l

word_head : {text : List ℕ} {ts rest : List Token} → AreWords (text ∷ []) ts rest → (t : Token) × (ts ≡ t ∷ rest)
word_head (next_word {t = t} k e (no_word)) = (t, refl)

word_anywhere : {text : List ℕ} {t : Token} {ts rest : List Token} → AreWords (text ∷ []) (t ∷ ts) rest → (other : List Token) → AreWords (text ∷ []) (t ∷ other) other
word_anywhere (next_word k e w) other = next_word k e no_word

operator_rules : Rules (FrontOne IsOperator) IsOperator
unfolding word_token
operator_rules =
    one_rules (record { head = λ ts rest s i. word_head i; anywhere = λ t rest other s i. word_anywhere i other; token = word_token (codes "+"); value = symbol.Add; there = λ rest. next_word (λ h. absurd cc) refl no_word })

order_rules : Rules (FrontOne IsOrderAt) IsOrderAt
unfolding word_token
order_rules =
    one_rules (record { head = λ ts rest s i. word_head i.0; anywhere = λ t rest other s i. (word_anywhere i.0 other, i.1); token = word_token (codes "<"); value = symbol.Less; there = λ rest. (next_word (λ h. absurd cc) refl no_word, tt) })

-- ---- declarations

abbrev IsOneBit : Width → Type 0
IsOneBit w = w.bits ≡ 1

abbrev HasBits : ℕ → Width → Type 0
HasBits n w = w.bits ≡ n + 1

abbrev Closing : Between 0 63 → List Token → List Token → Width → Type 0
Closing n = With (Words (codes ":" ∷ codes "0" ∷ codes "]" ∷ [])) tt (HasBits n.number)

abbrev RangeIs : List Token → List Token → Width → Type 0
RangeIs = Follows (Words (codes "[" ∷ [])) (λ x. Follows (IsBetween 0 63) Closing)

pub range_rules : Rules FrontRange IsRange
range_rules =
    part_as to from (optional_rules IsOneBit (behind_rules (words_rules (codes "[" ∷ [])) (λ x. behind_rules (number_rules 0 63 (omega arith)) (λ n. with_rules (HasBits n.number)
    (record { bits = n.number + 1; least = omega arith; most = (let most = n.to in omega arith) }) refl (words_rules (codes ":" ∷ codes "0" ∷ codes "]" ∷ [])))))
    )
  where
    to : (ts rest : List Token) (w : Width) → Either (Nothing IsOneBit) RangeIs ts rest w → IsRange ts rest w
    to ts rest w (inl none) = subst (λ z. IsRange ts z w) none.0 (no_range none.1)
    to ts rest w (inr (follows opens (follows {x = n} value closes))) = range opens value n.to closes.0 closes.1

    from : (ts rest : List Token) (w : Width) → IsRange ts rest w → Either (Nothing IsOneBit) RangeIs ts rest w
    from ts rest w (no_range e) = inl (refl, e)
    from ts rest w (range {n = n} opens value le closes e) = inr (follows opens (follows {x = record { number = n; from = omega arith; to = le }} value (closes, e)))

abbrev port_of : Width → List ℕ → Port
port_of width text = record { name = text; width = width }

abbrev PortIs : List (List ℕ) → List Token → List Token → Port → Type 0
PortIs words = Follows (Words words) (λ x. Follows IsRange (λ width. Mapped IsNameAt (port_of width)))

pub port_rules : (words : List (List ℕ)) → Rules (FrontPort words) (IsPort words)
port_rules words = part_as to from (behind_rules (words_rules words) (λ x. behind_rules range_rules (λ width. mapped_rules (port_of width) name_rules)))
  where
    to : (ts rest : List Token) (p : Port) → PortIs words ts rest p → IsPort words ts rest p
    to ts rest p (follows {mid = a} w (follows {mid = b} {x = width} r m)) = unmap (IsPort words ts rest) m (λ text n. record { a = a; b = b; words_first = w; range = r; name = n })

    from : (ts rest : List Token) (p : Port) → IsPort words ts rest p → PortIs words ts rest p
    from ts rest p i = follows i.words_first (follows i.range (mapped i.name))

abbrev DeclaredIs : List ℕ → (Port → SignalDeclaration) → List Token → List Token → SignalDeclaration → Type 0
DeclaredIs word made = Follows (IsPort (word ∷ [])) (λ port. Mapped (Words (codes ";" ∷ [])) (λ x. made port))

declared_rules : (word : List ℕ) (made : Port → SignalDeclaration) → Rules (FrontDeclared word) (DeclaredIs word made)
declared_rules word made = behind_rules (port_rules (word ∷ [])) (λ port. mapped_rules (λ x. made port) (words_rules (codes ";" ∷ [])))

pub declaration_rules : Rules FrontDeclaration IsDeclaration
declaration_rules = part_as to from (either_rules (declared_rules (codes "wire") wire) (declared_rules (codes "reg") register))
  where
    to : (ts rest : List Token) (d : SignalDeclaration) → Either (DeclaredIs (codes "wire") wire) (DeclaredIs (codes "reg") register) ts rest d → IsDeclaration ts rest d
    to ts rest d (inl (follows {x = port} p m)) = unmap (IsDeclaration ts rest) m (λ x w. wire_declaration p w)
    to ts rest d (inr (follows {x = port} p m)) = unmap (IsDeclaration ts rest) m (λ x w. register_declaration p w)

    from : (ts rest : List Token) (d : SignalDeclaration) → IsDeclaration ts rest d → Either (DeclaredIs (codes "wire") wire) (DeclaredIs (codes "reg") register) ts rest d
    from ts rest d (wire_declaration p s) = inl (follows p (mapped s))
    from ts rest d (register_declaration p s) = inr (follows p (mapped s))

pub kind_declaration_rules : Rules (FrontDeclared (codes "wire")) IsKindDeclaration
kind_declaration_rules = part_as to from (declared_rules (codes "wire") wire)
  where
    to : (ts rest : List Token) (d : SignalDeclaration) → DeclaredIs (codes "wire") wire ts rest d → IsKindDeclaration ts rest d
    to ts rest d (follows {x = port} p m) = unmap (IsKindDeclaration ts rest) m (λ x w. kind_wire p w)

    from : (ts rest : List Token) (d : SignalDeclaration) → IsKindDeclaration ts rest d → DeclaredIs (codes "wire") wire ts rest d
    from ts rest d (kind_wire p s) = follows p (mapped s)

-- ---- operands

abbrev literal_of : Sized → Operand
literal_of x = operand.Literal x.width x.value

pub operand_rules : Rules FrontOperand IsOperand
operand_rules = part_as to from (either_rules (mapped_rules operand.Name name_rules) (mapped_rules literal_of literal_rules))
  where
    to : (ts rest : List Token) (x : Operand) → Either (Mapped IsNameAt operand.Name) (Mapped IsSizedAt literal_of) ts rest x → IsOperand ts rest x
    to ts rest x (inl m) = unmap (IsOperand ts rest) m (λ text n. named n)
    to ts rest x (inr m) = unmap (IsOperand ts rest) m (λ v l. constant l)

    from : (ts rest : List Token) (x : Operand) → IsOperand ts rest x → Either (Mapped IsNameAt operand.Name) (Mapped IsSizedAt literal_of) ts rest x
    from ts rest x (named n) = inl (mapped n)
    from ts rest x (constant {width = w} {value = v} l) = inr (mapped {x = record { width = w; value = v }} l)

abbrev SignedIs : List Token → List Token → Operand → Type 0
SignedIs = Follows (Words (codes "$signed" ∷ codes "(" ∷ [])) (λ u. Follows IsOperand (λ x. Mapped (Words (codes ")" ∷ [])) (λ v. x)))

signed_rules : Rules FrontSigned IsSigned
signed_rules = part_as to from (behind_rules (words_rules (codes "$signed" ∷ codes "(" ∷ [])) (λ u. behind_rules operand_rules (λ x. mapped_rules (λ v. x) (words_rules (codes ")" ∷ [])))))
  where
    to : (ts rest : List Token) (x : Operand) → SignedIs ts rest x → IsSigned ts rest x
    to ts rest x (follows {mid = a} o (follows {mid = b} i m)) = unmap (IsSigned ts rest) m (λ v c. record { a = a; b = b; opens = o; operand_in = i; closes = c })

    from : (ts rest : List Token) (x : Operand) → IsSigned ts rest x → SignedIs ts rest x
    from ts rest x s = follows s.opens (follows s.operand_in (mapped s.closes))

-- ---- parts and widenings

abbrev IsSelected : List Token → List Token → List ℕ × ℕ × ℕ → Type 0
IsSelected ts rest x = IsPart ts rest x.0 x.1 x.2

abbrev SelectedIs : List Token → List Token → List ℕ × ℕ × ℕ → Type 0
SelectedIs =
    Follows IsNameAt (λ text. Follows (Words (codes "[" ∷ [])) (λ u. Follows (IsBetween 0 63) (λ high. Follows (Words (codes ":" ∷ [])) (λ v. Follows (IsBetween 0 high.number) (λ low.
    Mapped (Words (codes "]" ∷ [])) (λ w. (text, high.number, low.number)))))))

part_rules : Rules FrontPart IsSelected
part_rules =
    part_as to from (behind_rules name_rules (λ text. behind_rules (words_rules (codes "[" ∷ [])) (λ u. behind_rules (number_rules 0 63 (omega arith)) (λ high. behind_rules (words_rules (codes ":" ∷ [])) (λ v.
    behind_rules (number_rules 0 high.number (omega arith)) (λ low. mapped_rules (λ w. (text, high.number, low.number)) (words_rules (codes "]" ∷ [])))))))
    )
  where
    to : (ts rest : List Token) (x : List ℕ × ℕ × ℕ) → SelectedIs ts rest x → IsSelected ts rest x
    to ts rest x (follows {mid = a} n (follows {mid = b} o (follows {mid = c} {x = high} f (follows {mid = d} t (follows {mid = e} {x = low} s m))))) =
        unmap (IsSelected ts rest) m (λ w k. record { a = a; b = b; c = c; d = d; e = e; named = n; opens = o; first = f; most = high.to; between = t; second = s; within = low.to; closes = k })

    from : (ts rest : List Token) (x : List ℕ × ℕ × ℕ) → IsSelected ts rest x → SelectedIs ts rest x
    from ts rest x p =
        follows p.named (follows p.opens (follows {x = record { number = x.1; from = omega arith; to = p.most }} p.first (follows p.between
        (follows {x = record { number = x.2; from = omega arith; to = p.within }} p.second (mapped p.closes)))))

abbrev BitIs : List Token → List Token → List ℕ × ℕ → Type 0
BitIs =
    Follows IsNameAt (λ text. Follows (Words (codes "[" ∷ [])) (λ u. Follows (IsBetween 0 63) (λ bit. Follows (Words (codes ":" ∷ [])) (λ v. Follows (IsBetween bit.number bit.number) (λ again.
    Mapped (Words (codes "]" ∷ [])) (λ w. (text, bit.number)))))))

bit_rules : Rules FrontBit IsBit
bit_rules =
    part_as to from (behind_rules name_rules (λ text. behind_rules (words_rules (codes "[" ∷ [])) (λ u. behind_rules (number_rules 0 63 (omega arith)) (λ bit. behind_rules (words_rules (codes ":" ∷ [])) (λ v.
    behind_rules (number_rules bit.number bit.number (omega arith)) (λ again. mapped_rules (λ w. (text, bit.number)) (words_rules (codes "]" ∷ [])))))))
    )
  where
    to : (ts rest : List Token) (x : List ℕ × ℕ) → BitIs ts rest x → IsBit ts rest x
    to ts rest x (follows {mid = a} n (follows {mid = b} o (follows {mid = c} {x = bit} f (follows {mid = d} t (follows {mid = e} {x = again} s m))))) =
        let same : again.number ≡ bit.number = (let least = again.from in let most = again.to in omega arith) in
        unmap (IsBit ts rest) m (λ w k. record { a = a; b = b; c = c; d = d; e = e; named = n; opens = o; first = f; most = bit.to; between = t; second = subst (λ z. IsNumberAt d e z) same s; within = omega arith; closes = k })

    from : (ts rest : List Token) (x : List ℕ × ℕ) → IsBit ts rest x → BitIs ts rest x
    from ts rest x p =
        follows p.named (follows p.opens (follows {x = record { number = x.1; from = omega arith; to = p.most }} p.first (follows p.between
        (follows {x = record { number = x.1; from = omega arith; to = omega arith }} p.second (mapped p.closes)))))

abbrev WideIs : List Token → List Token → List ℕ × ℕ × ℕ → Type 0
WideIs =
    Follows (Words (codes "{" ∷ codes "{" ∷ [])) (λ u. Follows (IsBetween 1 63) (λ by. Follows (Words (codes "{" ∷ [])) (λ v. Follows IsBit (λ x. Follows (Words (codes "}" ∷ codes "}" ∷ codes "," ∷ [])) (λ w.
    Follows (IsThisName x.0) (λ y. Mapped (Words (codes "}" ∷ [])) (λ z. (x.0, by.number, x.1))))))))

widening_rules : Rules FrontWidening IsWide
widening_rules =
    part_as to from (behind_rules (words_rules (codes "{" ∷ codes "{" ∷ [])) (λ u. behind_rules (number_rules 1 63 (omega arith)) (λ by. behind_rules (words_rules (codes "{" ∷ [])) (λ v. behind_rules bit_rules (λ x.
    behind_rules (words_rules (codes "}" ∷ codes "}" ∷ codes "," ∷ [])) (λ w. behind_rules (this_name_rules x.0) (λ y. mapped_rules (λ z. (x.0, by.number, x.1)) (words_rules (codes "}" ∷ []))))))))
    )
  where
    to : (ts rest : List Token) (x : List ℕ × ℕ × ℕ) → WideIs ts rest x → IsWide ts rest x
    to ts rest x (follows {mid = a} o (follows {mid = b} {x = by} n (follows {mid = c} g (follows {mid = d} s (follows {mid = e} t (follows {mid = f} i m)))))) =
        unmap (IsWide ts rest) m (λ z k. record { a = a; b = b; c = c; d = d; e = e; f = f; opens = o; copies = n; least = by.from; most = by.to; begins = g; selected = s; between = t; again = i; closes = k })

    from : (ts rest : List Token) (x : List ℕ × ℕ × ℕ) → IsWide ts rest x → WideIs ts rest x
    from ts rest x w =
        follows w.opens (follows {x = record { number = x.1; from = w.least; to = w.most }} w.copies (follows w.begins (follows {x = (x.0, x.2)} w.selected (follows w.between (follows {x = tt} w.again (mapped w.closes))))))

-- ---- operations

abbrev BinaryIs : List Token → List Token → Operation → Type 0
BinaryIs = Follows IsOperand (λ x. Follows IsOperator (λ s. Mapped IsOperand (λ y. operation.Binary x s y)))

abbrev ComparisonIs : List Token → List Token → Operation → Type 0
ComparisonIs = Follows IsSigned (λ x. Follows IsOrderAt (λ s. Mapped IsSigned (λ y. operation.Signed x s y)))

abbrev ChoiceIs : List Token → List Token → Operation → Type 0
ChoiceIs = Follows IsOperand (λ x. Follows (Words (codes "?" ∷ [])) (λ u. Follows IsOperand (λ y. Follows (Words (codes ":" ∷ [])) (λ v. Mapped IsOperand (λ z. operation.Choose x y z)))))

abbrev part_in : List ℕ × ℕ × ℕ → Operation
part_in x = operation.Part x.0 x.1 x.2

abbrev OperationIs : List Token → List Token → Operation → Type 0
OperationIs = Either (Mapped IsOperand operation.Plain) (Either BinaryIs (Either ComparisonIs (Either ChoiceIs (Mapped IsSelected part_in))))

abbrev FrontIn : List Token → Type 0
FrontIn ts = FrontOperand ts ⊎ (FrontBinary ts ⊎ (FrontComparison ts ⊎ (FrontChoice ts ⊎ FrontPart ts)))

binary_rules : Rules FrontBinary BinaryIs
binary_rules = behind_rules operand_rules (λ x. behind_rules operator_rules (λ s. mapped_rules (λ y. operation.Binary x s y) operand_rules))

comparison_rules : Rules FrontComparison ComparisonIs
comparison_rules = behind_rules signed_rules (λ x. behind_rules order_rules (λ s. mapped_rules (λ y. operation.Signed x s y) signed_rules))

choice_rules : Rules FrontChoice ChoiceIs
choice_rules =
    behind_rules operand_rules (λ x. behind_rules (words_rules (codes "?" ∷ [])) (λ u. behind_rules operand_rules (λ y. behind_rules (words_rules (codes ":" ∷ [])) (λ v. mapped_rules (λ z. operation.Choose x y z) operand_rules))))

pub operation_rules : Rules FrontOperation IsOperation
operation_rules = rules_as out back to from (either_rules (mapped_rules operation.Plain operand_rules) (either_rules binary_rules (either_rules comparison_rules (either_rules choice_rules (mapped_rules part_in part_rules)))))
  where
    out : (ts : List Token) → FrontIn ts → FrontOperation ts
    out ts (inl f) = in_operand f
    out ts (inr (inl f)) = in_binary f
    out ts (inr (inr (inl f))) = in_comparison f
    out ts (inr (inr (inr (inl f)))) = in_choice f
    out ts (inr (inr (inr (inr f)))) = in_selection f

    back : (ts : List Token) → FrontOperation ts → FrontIn ts
    back ts (in_operand f) = inl f
    back ts (in_binary f) = inr (inl f)
    back ts (in_comparison f) = inr (inr (inl f))
    back ts (in_choice f) = inr (inr (inr (inl f)))
    back ts (in_selection f) = inr (inr (inr (inr f)))

    to : (ts rest : List Token) (o : Operation) → OperationIs ts rest o → IsOperation ts rest o
    to ts rest o (inl m) = unmap (IsOperation ts rest) m (λ x i. plain i)
    to ts rest o (inr (inl (follows i (follows s m)))) = unmap (IsOperation ts rest) m (λ y j. binary i s j)
    to ts rest o (inr (inr (inl (follows i (follows s m))))) = unmap (IsOperation ts rest) m (λ y j. signed i s.1 s.0 j)
    to ts rest o (inr (inr (inr (inl (follows i (follows s (follows j (follows t m)))))))) = unmap (IsOperation ts rest) m (λ z k. choice i s j t k)
    to ts rest o (inr (inr (inr (inr m)))) = unmap (IsOperation ts rest) m (λ x p. selection p)

    from : (ts rest : List Token) (o : Operation) → IsOperation ts rest o → OperationIs ts rest o
    from ts rest o (plain i) = inl (mapped i)
    from ts rest o (binary i s j) = inr (inl (follows i (follows s (mapped j))))
    from ts rest o (signed i k s j) = inr (inr (inl (follows i (follows (s, k) (mapped j)))))
    from ts rest o (choice i s j t k) = inr (inr (inr (inl (follows i (follows {x = tt} s (follows j (follows {x = tt} t (mapped k))))))))
    from ts rest o (selection {name = text} {high = h} {low = l} p) = inr (inr (inr (inr (mapped {x = (text, h, l)} p))))

-- ---- assignments

abbrev Assigned : {A : Type 0} → (List ℕ → List Token → List Token → A → Type 0) → List Token → List Token → A → Type 0
Assigned Given = Follows (Words (codes "assign" ∷ [])) (λ u. Follows IsNameAt (λ target. Follows (Words (codes "=" ∷ [])) (λ v. Given target)))

abbrev DriveIs : List Token → List Token → Drive → Type 0
DriveIs = Assigned (λ target. Follows IsOperation (λ o. Mapped (Words (codes ";" ∷ [])) (λ w. record { target = target; operation = o })))

pub drive_rules : Rules FrontDrive IsDrive
drive_rules =
    part_as to from (behind_rules (words_rules (codes "assign" ∷ [])) (λ u. behind_rules name_rules (λ target. behind_rules (words_rules (codes "=" ∷ [])) (λ v. behind_rules operation_rules (λ o.
    mapped_rules (λ w. record { target = target; operation = o }) (words_rules (codes ";" ∷ []))))))
    )
  where
    to : (ts rest : List Token) (d : Drive) → DriveIs ts rest d → IsDrive ts rest d
    to ts rest d (follows {mid = a} w (follows {mid = b} n (follows {mid = c} q (follows {mid = e} o m)))) = unmap (IsDrive ts rest) m (λ z s. record { a = a; b = b; c = c; e = e; assigns = w; target = n; equals = q; operation = o; ends = s })

    from : (ts rest : List Token) (d : Drive) → IsDrive ts rest d → DriveIs ts rest d
    from ts rest d i = follows i.assigns (follows i.target (follows {x = tt} i.equals (follows i.operation (mapped i.ends))))

abbrev widened : List ℕ → List ℕ × ℕ × ℕ → ℕ × Drive
widened target x = (x.2, record { target = target; operation = operation.Widen x.0 x.1 })

abbrev pub IsWideDrive : List Token → List Token → ℕ × Drive → Type 0
IsWideDrive ts rest x = IsWideningDrive ts rest x.0 x.1

abbrev WideDriveIs : List Token → List Token → ℕ × Drive → Type 0
WideDriveIs = Assigned (λ target. Follows IsWide (λ x. Mapped (Words (codes ";" ∷ [])) (λ w. widened target x)))

pub wide_drive_rules : Rules FrontWideDrive IsWideDrive
wide_drive_rules =
    part_as to from (behind_rules (words_rules (codes "assign" ∷ [])) (λ u. behind_rules name_rules (λ target. behind_rules (words_rules (codes "=" ∷ [])) (λ v. behind_rules widening_rules (λ x.
    mapped_rules (λ w. widened target x) (words_rules (codes ";" ∷ []))))))
    )
  where
    to : (ts rest : List Token) (y : ℕ × Drive) → WideDriveIs ts rest y → IsWideDrive ts rest y
    to ts rest y (follows {mid = a} w (follows {mid = b} n (follows {mid = c} q (follows {mid = e} {x = x} i m)))) =
        unmap (IsWideDrive ts rest) m (λ z s. record { a = a; b = b; c = c; e = e; name = x.0; by = x.1; assigns = w; target = n; equals = q; widens = i; operation = refl; ends = s })

    from : (ts rest : List Token) (y : ℕ × Drive) → IsWideDrive ts rest y → WideDriveIs ts rest y
    from ts rest y i =
        subst (λ o. WideDriveIs ts rest (y.0, record { target = y.1.target; operation = o })) (sym i.operation)
        (follows i.assigns (follows i.target (follows {x = tt} i.equals (follows {x = (i.name, i.by, y.0)} i.widens (mapped i.ends)))))

-- ---- steps

abbrev EdgeIs : List Token → List Token → Unit {0} → Type 0
EdgeIs =
    Follows (Words (codes "always" ∷ codes "@" ∷ codes "(" ∷ codes "posedge" ∷ [])) (λ u. Follows (IsThisName clk) (λ v. Follows (Words (codes ")" ∷ codes "if" ∷ codes "(" ∷ [])) (λ w.
    Follows (IsThisName rst) (λ x. Words (codes ")" ∷ [])))))

edge_rules : Rules FrontEdge Edge
edge_rules =
    part_as to from (behind_rules (words_rules (codes "always" ∷ codes "@" ∷ codes "(" ∷ codes "posedge" ∷ [])) (λ u. behind_rules (this_name_rules clk) (λ v.
    behind_rules (words_rules (codes ")" ∷ codes "if" ∷ codes "(" ∷ [])) (λ w. behind_rules (this_name_rules rst) (λ x. words_rules (codes ")" ∷ []))))))
  where
    to : (ts rest : List Token) (x : Unit {0}) → EdgeIs ts rest x → Edge ts rest x
    to ts rest x (follows {mid = a} e (follows {mid = b} c (follows {mid = d} t (follows {mid = f} r k)))) = record { a = a; b = b; c = d; d = f; at_edge = e; clock = c; tests = t; reset = r; closes = k }

    from : (ts rest : List Token) (x : Unit {0}) → Edge ts rest x → EdgeIs ts rest x
    from ts rest x e = follows {x = tt} e.at_edge (follows {x = tt} e.clock (follows {x = tt} e.tests (follows {x = tt} e.reset e.closes)))

abbrev stepped : List ℕ → Sized → Operand → Width × Step
stepped text reset next = (reset.width, record { register = text; reset = reset.value; next = next })

abbrev IsSteppedAt : List Token → List Token → Width × Step → Type 0
IsSteppedAt ts rest x = IsStep ts rest x.0 x.1

abbrev StepIs : List Token → List Token → Width × Step → Type 0
StepIs =
    Follows Edge (λ u. Follows IsNameAt (λ text. Follows (Words (codes "<=" ∷ [])) (λ v. Follows IsSizedAt (λ reset. Follows (Words (codes ";" ∷ codes "else" ∷ [])) (λ w. Follows (IsThisName text) (λ x.
    Follows (Words (codes "<=" ∷ [])) (λ y. Follows IsOperand (λ next. Mapped (Words (codes ";" ∷ [])) (λ z. stepped text reset next)))))))))

step_rules : Rules FrontStep IsSteppedAt
step_rules =
    part_as to from (behind_rules edge_rules (λ u. behind_rules name_rules (λ text. behind_rules (words_rules (codes "<=" ∷ [])) (λ v. behind_rules literal_rules (λ reset.
    behind_rules (words_rules (codes ";" ∷ codes "else" ∷ [])) (λ w. behind_rules (this_name_rules text) (λ x. behind_rules (words_rules (codes "<=" ∷ [])) (λ y. behind_rules operand_rules (λ next.
    mapped_rules (λ z. stepped text reset next) (words_rules (codes ";" ∷ []))))))))))
    )
  where
    to : (ts rest : List Token) (y : Width × Step) → StepIs ts rest y → IsSteppedAt ts rest y
    to ts rest y (follows {mid = a} e (follows {mid = b} n (follows {mid = c} q (follows {mid = d} l (follows {mid = f} o (follows {mid = g} i (follows {mid = h} p (follows {mid = j} x m)))))))) =
        unmap (IsSteppedAt ts rest) m (λ z s. record { a = a; b = b; c = c; d = d; e = f; f = g; g = h; h = j; at_edge = e; register = n; becomes = q; reset = l; otherwise = o; again = i; becomes_too = p; next = x; ends = s })

    from : (ts rest : List Token) (y : Width × Step) → IsSteppedAt ts rest y → StepIs ts rest y
    from ts rest y s =
        follows {x = tt} s.at_edge (follows s.register (follows {x = tt} s.becomes (follows {x = record { width = y.0; value = y.1.reset }} s.reset (follows {x = tt} s.otherwise (follows {x = tt} s.again
        (follows {x = tt} s.becomes_too (follows s.next (mapped s.ends))))))))

-- ---- instances

abbrev LinkIs : List Token → List Token → PortLink → Type 0
LinkIs =
    Follows (Words (codes "." ∷ [])) (λ u. Follows IsNameAt (λ port. Follows (Words (codes "(" ∷ [])) (λ v. Follows IsOperand (λ x. Mapped (Words (codes ")" ∷ [])) (λ w. record { port = port; operand = x })))))

link_rules : Rules FrontLink IsLink
link_rules =
    part_as to from (behind_rules (words_rules (codes "." ∷ [])) (λ u. behind_rules name_rules (λ port. behind_rules (words_rules (codes "(" ∷ [])) (λ v. behind_rules operand_rules (λ x.
    mapped_rules (λ w. record { port = port; operand = x }) (words_rules (codes ")" ∷ []))))))
    )
  where
    to : (ts rest : List Token) (l : PortLink) → LinkIs ts rest l → IsLink ts rest l
    to ts rest l (follows {mid = a} d (follows {mid = b} p (follows {mid = c} o (follows {mid = e} x m)))) = unmap (IsLink ts rest) m (λ z k. record { a = a; b = b; c = c; d = e; dot = d; port = p; opens = o; operand = x; closes = k })

    from : (ts rest : List Token) (l : PortLink) → IsLink ts rest l → LinkIs ts rest l
    from ts rest l i = follows {x = tt} i.dot (follows i.port (follows {x = tt} i.opens (follows i.operand (mapped i.closes))))

abbrev NextLinkIs : List Token → List Token → PortLink → Type 0
NextLinkIs = Follows (Words (codes "," ∷ [])) (λ u. IsLink)

next_link_rules : Rules FrontNextLink IsNextLink
next_link_rules = part_as to from (behind_rules (words_rules (codes "," ∷ [])) (λ u. link_rules))
  where
    to : (ts rest : List Token) (l : PortLink) → NextLinkIs ts rest l → IsNextLink ts rest l
    to ts rest l (follows {mid = a} c i) = record { a = a; comma = c; linked = i }

    from : (ts rest : List Token) (l : PortLink) → IsNextLink ts rest l → NextLinkIs ts rest l
    from ts rest l i = follows {x = tt} i.comma i.linked

abbrev instantiated : List ℕ → List ℕ → PortLink → List PortLink → Instantiation
instantiated kind text first later = record { kind = kind; name = text; links = first ∷ later }

abbrev InstantiationIs : List Token → List Token → Instantiation → Type 0
InstantiationIs =
    Follows IsNameAt (λ kind. Follows IsNameAt (λ text. Follows (Words (codes "(" ∷ [])) (λ u. Follows IsLink (λ first. Follows (AreMany IsNextLink) (λ later.
    Mapped (Words (codes ")" ∷ codes ";" ∷ [])) (λ v. instantiated kind text first later))))))

instantiation_rules : Rules FrontInstantiation IsInstantiation
instantiation_rules =
    part_as to from (behind_rules name_rules (λ kind. behind_rules name_rules (λ text. behind_rules (words_rules (codes "(" ∷ [])) (λ u. behind_rules link_rules (λ first.
    behind_rules (many_rules next_link_rules) (λ later. mapped_rules (λ v. instantiated kind text first later) (words_rules (codes ")" ∷ codes ";" ∷ [])))))))
    )
  where
    to : (ts rest : List Token) (x : Instantiation) → InstantiationIs ts rest x → IsInstantiation ts rest x
    to ts rest x (follows {mid = a} k (follows {mid = b} n (follows {mid = c} o (follows {mid = d} {x = first} l (follows {mid = e} {x = later} ls m))))) =
        unmap (IsInstantiation ts rest) m (λ z s. record { a = a; b = b; c = c; d = d; e = e; first = first; later = later; kind = k; name = n; opens = o; links_first = l; links_later = ls; links = refl; closes = s })

    from : (ts rest : List Token) (x : Instantiation) → IsInstantiation ts rest x → InstantiationIs ts rest x
    from ts rest x i =
        subst (λ links. InstantiationIs ts rest (record { kind = x.kind; name = x.name; links = links })) (sym i.links)
        (follows i.kind (follows i.name (follows {x = tt} i.opens (follows i.links_first (follows i.links_later (mapped i.closes))))))

-- ---- items

abbrev pub wide_item : ℕ × Drive → Item
wide_item x = widening x.0 x.1

abbrev step_item : Width × Step → Item
step_item x = step x.0 x.1

abbrev ItemIs : List Token → List Token → Item → Type 0
ItemIs = Either (Mapped IsDrive drive) (Either (Mapped IsWideDrive wide_item) (Either (Mapped IsSteppedAt step_item) (Mapped IsInstantiation instance)))

abbrev FrontItemIn : List Token → Type 0
FrontItemIn ts = FrontDrive ts ⊎ (FrontWideDrive ts ⊎ (FrontStep ts ⊎ FrontInstantiation ts))

pub item_rules : Rules FrontItem IsItem
item_rules = rules_as out back to from (either_rules (mapped_rules drive drive_rules) (either_rules (mapped_rules wide_item wide_drive_rules) (either_rules (mapped_rules step_item step_rules) (mapped_rules instance instantiation_rules))))
  where
    out : (ts : List Token) → FrontItemIn ts → FrontItem ts
    out ts (inl f) = in_drive f
    out ts (inr (inl f)) = in_wide_drive f
    out ts (inr (inr (inl f))) = in_step f
    out ts (inr (inr (inr f))) = in_instantiation f

    back : (ts : List Token) → FrontItem ts → FrontItemIn ts
    back ts (in_drive f) = inl f
    back ts (in_wide_drive f) = inr (inl f)
    back ts (in_step f) = inr (inr (inl f))
    back ts (in_instantiation f) = inr (inr (inr f))

    to : (ts rest : List Token) (x : Item) → ItemIs ts rest x → IsItem ts rest x
    to ts rest x (inl m) = unmap (IsItem ts rest) m (λ d i. assignment i)
    to ts rest x (inr (inl m)) = unmap (IsItem ts rest) m (λ d i. wide_assignment i)
    to ts rest x (inr (inr (inl m))) = unmap (IsItem ts rest) m (λ d i. at_an_edge i)
    to ts rest x (inr (inr (inr m))) = unmap (IsItem ts rest) m (λ d i. instantiation i)

    from : (ts rest : List Token) (x : Item) → IsItem ts rest x → ItemIs ts rest x
    from ts rest x (assignment i) = inl (mapped i)
    from ts rest x (wide_assignment {bit = b} {d = d} i) = inr (inl (mapped {x = (b, d)} i))
    from ts rest x (at_an_edge {width = w} {s = s} i) = inr (inr (inl (mapped {x = (w, s)} i)))
    from ts rest x (instantiation i) = inr (inr (inr (mapped i)))
