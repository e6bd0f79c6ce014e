-- Which tokens are the front of a design text: by the rules of its grammar, one after the other. The front of a part
-- is no token at all, or tokens with which a spelling of the part begins, or all of one.
use Rattle.std.specs.Prelude.{◌≡◌, ◌≢◌, ◌⊎◌, ℕ, ◌≤◌, List, [], ◌∷◌, codes}
use Rattle.av_base.specs.declared.width.Width.{Width}
use Rattle.av_net.specs.declared.token_kind.DesignTokenKind.TheVariants as kind
use Rattle.av_net.specs.declared.operation.Symbol.{Symbol}
use Rattle.av_net.specs.Names.{clk, rst}
use Rattle.av_net.specs.Sound.{IsOrder}
use Rattle.av_net.specs.Lexemes.{Token}
use Rattle.av_net.specs.Grammar.{AreWords, IsWordAt, IsNameAt, IsNumberAt, IsLiteralAt, IsEnd, IsRange, IsPort, IsDeclaration, IsOperand, spelling, IsSigned, IsPart, IsWidening, IsOperation, IsEdge, AreMany, IsLink, IsNextLink, IsItem, IsKindInput, IsKindDeclaration, IsKindItem, IsClockFirst, IsKind, IsClocked, IsTop}

-- ---- in general

-- a front of a first part, or the whole of it and then a front of what comes behind it
pub data Behind {A : Type 0} (First : List Token → Type 0) (Is : List Token → List Token → A → Type 0) (Next : A → List Token → Type 0) (ts : List Token) : Type 0 where
  in_first : First ts → Behind First Is Next ts
  in_next : {rest : List Token} {x : A} → Is ts rest x → Next x rest → Behind First Is Next ts

-- any number of parts, and a front of one more
pub data FrontMany {A : Type 0} (First : List Token → Type 0) (Is : List Token → List Token → A → Type 0) : List Token → Type 0 where
  in_part : {ts : List Token} → First ts → FrontMany First Is ts
  past_part : {ts rest : List Token} {x : A} → Is ts rest x → FrontMany First Is rest → FrontMany First Is ts

-- a part of one token: nothing yet, or that token
pub data FrontOne {A : Type 0} (Is : List Token → List Token → A → Type 0) : List Token → Type 0 where
  none_yet : FrontOne Is []
  one_there : {ts : List Token} {x : A} → Is ts [] x → FrontOne Is ts

-- the first of these words, none of them or all
pub data FrontWords : List (List ℕ) → List Token → Type 0 where
  no_word_yet : {texts : List (List ℕ)} → FrontWords texts []
  past_word : {text : List ℕ} {texts : List (List ℕ)} {t : Token} {ts : List Token} → t.kind ≢ kind.Name → t.text ≡ text → FrontWords texts ts → FrontWords (text ∷ texts) (t ∷ ts)

-- words and a front of what comes behind them
abbrev pub Words : List (List ℕ) → List Token → List Token → Unit {0} → Type 0
Words texts ts rest x = AreWords texts ts rest

abbrev pub WordsThen : List (List ℕ) → (List Token → Type 0) → List Token → Type 0
WordsThen texts Next = Behind (FrontWords texts) (Words texts) (λ x. Next)

-- some name, and this one
abbrev pub FrontName : List Token → Type 0
FrontName = FrontOne IsNameAt

abbrev pub NameThen : (List ℕ → List Token → Type 0) → List Token → Type 0
NameThen Next = Behind FrontName IsNameAt Next

abbrev pub IsThisName : List ℕ → List Token → List Token → Unit {0} → Type 0
IsThisName text ts rest x = IsNameAt ts rest text

abbrev pub ThisNameThen : List ℕ → (List Token → Type 0) → List Token → Type 0
ThisNameThen text Next = Behind (FrontOne (IsThisName text)) (IsThisName text) (λ x. Next)

-- a number between two others
pub record Between (least most : ℕ) : Type 0 where
  pub number : ℕ
  pub from : least ≤ number
  pub to : number ≤ most

abbrev pub IsBetween : (least most : ℕ) → List Token → List Token → Between least most → Type 0
IsBetween least most ts rest n = IsNumberAt ts rest n.number

abbrev pub NumberThen : (least most : ℕ) → (Between least most → List Token → Type 0) → List Token → Type 0
NumberThen least most Next = Behind (FrontOne (IsBetween least most)) (IsBetween least most) Next

-- a literal
pub record Sized : Type 0 where
  pub width : Width
  pub value : ℕ

abbrev pub IsSizedAt : List Token → List Token → Sized → Type 0
IsSizedAt ts rest x = IsLiteralAt ts rest x.width x.value

abbrev pub FrontLiteral : List Token → Type 0
FrontLiteral = FrontOne IsSizedAt

-- ---- declarations

-- `[n:0]`, or nothing
abbrev pub FrontRange : List Token → Type 0
FrontRange = WordsThen (codes "[" ∷ []) (NumberThen 0 63 (λ n. FrontWords (codes ":" ∷ codes "0" ∷ codes "]" ∷ [])))

abbrev pub FrontPort : List (List ℕ) → List Token → Type 0
FrontPort words = WordsThen words (Behind FrontRange IsRange (λ width. FrontName))

abbrev pub FrontDeclared : List ℕ → List Token → Type 0
FrontDeclared word = Behind (FrontPort (word ∷ [])) (IsPort (word ∷ [])) (λ port. FrontWords (codes ";" ∷ []))

abbrev pub FrontDeclaration : List Token → Type 0
FrontDeclaration ts = FrontDeclared (codes "wire") ts ⊎ FrontDeclared (codes "reg") ts

-- ---- items

abbrev pub FrontOperand : List Token → Type 0
FrontOperand ts = FrontName ts ⊎ FrontLiteral ts

abbrev pub OperandThen : (List Token → Type 0) → List Token → Type 0
OperandThen Next = Behind FrontOperand IsOperand (λ x. Next)

-- `$signed(operand)`
abbrev pub FrontSigned : List Token → Type 0
FrontSigned = WordsThen (codes "$signed" ∷ codes "(" ∷ []) (OperandThen (FrontWords (codes ")" ∷ [])))

-- `name[high:low]`
abbrev pub FrontPart : List Token → Type 0
FrontPart = NameThen (λ name. WordsThen (codes "[" ∷ []) (NumberThen 0 63 (λ high. WordsThen (codes ":" ∷ []) (NumberThen 0 high.number (λ low. FrontWords (codes "]" ∷ []))))))

-- `name[bit:bit]`
abbrev pub FrontBit : List Token → Type 0
FrontBit = NameThen (λ name. WordsThen (codes "[" ∷ []) (NumberThen 0 63 (λ bit. WordsThen (codes ":" ∷ []) (NumberThen bit.number bit.number (λ again. FrontWords (codes "]" ∷ []))))))

abbrev pub IsBit : List Token → List Token → List ℕ × ℕ → Type 0
IsBit ts rest x = IsPart ts rest x.0 x.1 x.1

-- `{{by{name[bit:bit]}}, name}`
abbrev pub FrontWidening : List Token → Type 0
FrontWidening =
    WordsThen (codes "{" ∷ codes "{" ∷ []) (NumberThen 1 63 (λ by. WordsThen (codes "{" ∷ []) (Behind FrontBit IsBit (λ x.
    WordsThen (codes "}" ∷ codes "}" ∷ codes "," ∷ []) (ThisNameThen x.0 (FrontWords (codes "}" ∷ [])))))))

abbrev pub IsWide : List Token → List Token → List ℕ × ℕ × ℕ → Type 0
IsWide ts rest x = IsWidening ts rest x.0 x.1 x.2

-- an operator, and one of the four orders
abbrev pub IsOperator : List Token → List Token → Symbol → Type 0
IsOperator ts rest s = IsWordAt (spelling s) ts rest

abbrev pub IsOrderAt : List Token → List Token → Symbol → Type 0
IsOrderAt ts rest s = IsWordAt (spelling s) ts rest × IsOrder s

abbrev pub FrontBinary : List Token → Type 0
FrontBinary = OperandThen (Behind (FrontOne IsOperator) IsOperator (λ s. FrontOperand))

abbrev pub FrontComparison : List Token → Type 0
FrontComparison = Behind FrontSigned IsSigned (λ x. Behind (FrontOne IsOrderAt) IsOrderAt (λ s. FrontSigned))

abbrev pub FrontChoice : List Token → Type 0
FrontChoice = OperandThen (WordsThen (codes "?" ∷ []) (OperandThen (WordsThen (codes ":" ∷ []) FrontOperand)))

-- an operand, alone or with another one, a comparison, a choice, a part
pub data FrontOperation (ts : List Token) : Type 0 where
  in_operand : FrontOperand ts → FrontOperation ts
  in_binary : FrontBinary ts → FrontOperation ts
  in_comparison : FrontComparison ts → FrontOperation ts
  in_choice : FrontChoice ts → FrontOperation ts
  in_selection : FrontPart ts → FrontOperation ts

-- `assign name = ..;`
abbrev pub AssignThen : (List Token → Type 0) → List Token → Type 0
AssignThen Next = WordsThen (codes "assign" ∷ []) (NameThen (λ target. WordsThen (codes "=" ∷ []) Next))

abbrev pub FrontDrive : List Token → Type 0
FrontDrive = AssignThen (Behind FrontOperation IsOperation (λ o. FrontWords (codes ";" ∷ [])))

abbrev pub FrontWideDrive : List Token → Type 0
FrontWideDrive = AssignThen (Behind FrontWidening IsWide (λ x. FrontWords (codes ";" ∷ [])))

-- `always @(posedge clk) if (rst)`
abbrev pub FrontEdge : List Token → Type 0
FrontEdge =
    WordsThen (codes "always" ∷ codes "@" ∷ codes "(" ∷ codes "posedge" ∷ []) (ThisNameThen clk (WordsThen (codes ")" ∷ codes "if" ∷ codes "(" ∷ []) (ThisNameThen rst (FrontWords (codes ")" ∷ [])))))

abbrev pub Edge : List Token → List Token → Unit {0} → Type 0
Edge ts rest x = IsEdge ts rest

-- `name <= literal; else name <= operand;` behind it
abbrev pub FrontStep : List Token → Type 0
FrontStep =
    Behind FrontEdge Edge (λ x. NameThen (λ register. WordsThen (codes "<=" ∷ []) (Behind FrontLiteral IsSizedAt (λ reset. WordsThen (codes ";" ∷ codes "else" ∷ [])
    (ThisNameThen register (WordsThen (codes "<=" ∷ []) (OperandThen (FrontWords (codes ";" ∷ [])))))))))

-- `.port(operand)`
abbrev pub FrontLink : List Token → Type 0
FrontLink = WordsThen (codes "." ∷ []) (NameThen (λ port. WordsThen (codes "(" ∷ []) (OperandThen (FrontWords (codes ")" ∷ [])))))

abbrev pub FrontNextLink : List Token → Type 0
FrontNextLink = WordsThen (codes "," ∷ []) FrontLink

-- `kind name (link, ..);`
abbrev pub FrontInstantiation : List Token → Type 0
FrontInstantiation =
    NameThen (λ kind. NameThen (λ name. WordsThen (codes "(" ∷ []) (Behind FrontLink IsLink (λ first. Behind (FrontMany FrontNextLink IsNextLink) (AreMany IsNextLink) (λ later. FrontWords (codes ")" ∷ codes ";" ∷ []))))))

pub data FrontItem (ts : List Token) : Type 0 where
  in_drive : FrontDrive ts → FrontItem ts
  in_wide_drive : FrontWideDrive ts → FrontItem ts
  in_step : FrontStep ts → FrontItem ts
  in_instantiation : FrontInstantiation ts → FrontItem ts

-- ---- kinds of cells

-- `input range name,`
abbrev pub FrontKindInput : List Token → Type 0
FrontKindInput = Behind (FrontPort (codes "input" ∷ [])) (IsPort (codes "input" ∷ [])) (λ port. FrontWords (codes "," ∷ []))

abbrev pub FrontKindItem : List Token → Type 0
FrontKindItem ts = FrontDrive ts ⊎ FrontWideDrive ts

-- from the ports on
abbrev pub FrontKindRest : List Token → Type 0
FrontKindRest =
    Behind (FrontMany FrontKindInput IsKindInput) (AreMany IsKindInput) (λ inputs. Behind (FrontPort (codes "output" ∷ [])) (IsPort (codes "output" ∷ [])) (λ output.
    Behind (FrontMany (FrontPort (codes "," ∷ codes "output" ∷ [])) (IsPort (codes "," ∷ codes "output" ∷ []))) (AreMany (IsPort (codes "," ∷ codes "output" ∷ []))) (λ outputs. WordsThen (codes ")" ∷ codes ";" ∷ [])
    (Behind (FrontMany (FrontDeclared (codes "wire")) IsKindDeclaration) (AreMany IsKindDeclaration) (λ declarations. Behind (FrontMany FrontKindItem IsKindItem) (AreMany IsKindItem) (λ items. FrontWords (codes "endmodule" ∷ [])))))))

-- they do not begin with `input clk`
pub record FrontKindPorts (ts : List Token) : Type 0 where
  pub no_clock : IsClockFirst ts → ⊥
  pub front : FrontKindRest ts

abbrev pub FrontKind : List Token → Type 0
FrontKind = WordsThen (codes "module" ∷ []) (NameThen (λ name. WordsThen (codes "(" ∷ []) FrontKindPorts))

-- ---- the top

-- `(input clk, input rst`
abbrev pub FrontClocked : List Token → Type 0
FrontClocked = WordsThen (codes "(" ∷ codes "input" ∷ []) (ThisNameThen clk (WordsThen (codes "," ∷ codes "input" ∷ []) (FrontOne (IsThisName rst))))

abbrev pub Clocked : List Token → List Token → Unit {0} → Type 0
Clocked ts rest x = IsClocked ts rest

abbrev pub FrontPorts : List ℕ → List Token → Type 0
FrontPorts direction = FrontMany (FrontPort (codes "," ∷ direction ∷ [])) (IsPort (codes "," ∷ direction ∷ []))

abbrev pub FrontTop : List Token → Type 0
FrontTop =
    WordsThen (codes "module" ∷ []) (NameThen (λ name. Behind FrontClocked Clocked (λ x.
    Behind (FrontPorts (codes "input")) (AreMany (IsPort (codes "," ∷ codes "input" ∷ []))) (λ inputs. Behind (FrontPorts (codes "output")) (AreMany (IsPort (codes "," ∷ codes "output" ∷ []))) (λ outputs.
    WordsThen (codes ")" ∷ codes ";" ∷ []) (Behind (FrontMany FrontDeclaration IsDeclaration) (AreMany IsDeclaration) (λ declarations. Behind (FrontMany FrontItem IsItem) (AreMany IsItem) (λ items. FrontWords (codes "endmodule" ∷ [])))))))))

-- ---- the text

-- the end, or nothing yet
pub data FrontEnd : List Token → Type 0 where
  no_end_yet : FrontEnd []
  at_end : {ts : List Token} → IsEnd ts → FrontEnd ts

-- kinds before the top, and the end
abbrev pub FrontText : List Token → Type 0
FrontText = Behind (FrontMany FrontKind IsKind) (AreMany IsKind) (λ kinds. Behind FrontTop IsTop (λ top. FrontEnd))
