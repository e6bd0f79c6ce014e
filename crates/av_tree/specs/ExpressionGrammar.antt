-- How expressions are spelled: one case for each rule. `IsSum n ts rest e` says that ts is a spelling of e as a
-- sum, followed by rest, with room for n levels: a form that is open, and each operator or map that was read in
-- the sum, product or postfix around, leaves one level less to what follows in it.
-- (Mauras 1989; Wilde's reports; precedence and levels are this project's.)
use Rattle.std.specs.Prelude.{ℕ, suc, List, [], ◌∷◌, codes}
use Rattle.av_base.specs.declared.word.Op.{Op}
use Rattle.av_base.specs.Tokens.{Token, number_of}
use Rattle.av_tree.specs.declared.domain.DomainText.{DomainText}
use Rattle.av_tree.specs.declared.domain.IndexExpr.{IndexExpr}
use Rattle.av_tree.specs.declared.domain.MapText.{MapText}
use Rattle.av_tree.specs.declared.expression.Access.{Access}
use Rattle.av_tree.specs.declared.expression.Access.TheVariants as access
use Rattle.av_tree.specs.declared.relation.Relation.{Relation}
use Rattle.av_tree.specs.declared.sign.Sign.TheVariants as sign
use Rattle.av_tree.specs.Trees.{Expression, Expressions, reference, constant, binary, choice, restriction, cases, dependence, reduction, none, more}
use Rattle.av_tree.specs.Parts.{IsName, IsNumber, IsReserved, IsSymbol, IsCompare, IsOp}
use Rattle.av_tree.specs.IndexGrammar.{IsOptionalIndices, IsDomain, IsMap}

-- [ "[" "]" ] behind a number
pub data IsBrackets : List Token → List Token → Access → Type 0 where
  no_brackets : {rest : List Token} → IsBrackets rest rest access.Here
  brackets : {o c : Token} {rest : List Token} → IsSymbol (codes "[") o → IsSymbol (codes "]") c → IsBrackets (o ∷ c ∷ rest) rest (access.Indices [])

-- -e is the tree of 0 - e
abbrev pub negated : Token → Expression → Expression
negated m e = binary sign.Sub (constant 0 access.Here m.place) e m.place

mutual
  -- domain ":" expr, or "if" sum compare sum "then" expr "else" expr, or sum
  pub data IsExpr : ℕ → List Token → List Token → Expression → Type 0 where
    restricted : {n : ℕ} {c : Token} {ts mid rest : List Token} {d : DomainText} {e : Expression}
        → IsDomain ts (c ∷ mid) d → IsSymbol (codes ":") c → IsExpr n mid rest e → IsExpr (suc n) ts rest (restriction d e d.place)
    chosen : {n : ℕ} {i q t s : Token} {t0 t1 t2 t3 rest : List Token} {r : Relation} {a b x y : Expression}
        → IsReserved (codes "if") i → IsSum n t0 (q ∷ t1) a → IsCompare r q → IsSum n t1 (t ∷ t2) b → IsReserved (codes "then") t → IsExpr n t2 (s ∷ t3) x
        → IsReserved (codes "else") s → IsExpr n t3 rest y → IsExpr (suc n) (i ∷ t0) rest (choice a r b x y i.place)
    plain : {n : ℕ} {ts rest : List Token} {e : Expression} → IsSum (suc n) ts rest e → IsExpr (suc n) ts rest e

  -- product { ( "+" or "-" ) product }
  pub data IsSum : ℕ → List Token → List Token → Expression → Type 0 where
    sum : {n : ℕ} {ts mid rest : List Token} {a e : Expression} → IsProduct (suc n) ts mid a → IsSumTail (suc n) a mid rest e → IsSum (suc n) ts rest e

  -- { ( "+" or "-" ) product }, after a
  pub data IsSumTail : ℕ → Expression → List Token → List Token → Expression → Type 0 where
    sum_ends : {n : ℕ} {a : Expression} {rest : List Token} → IsSumTail (suc n) a rest rest a
    plus : {n : ℕ} {p : Token} {ts mid rest : List Token} {a b e : Expression} → IsSymbol (codes "+") p → IsProduct n ts mid b
        → IsSumTail n (binary sign.Add a b p.place) mid rest e → IsSumTail (suc n) a (p ∷ ts) rest e
    minus : {n : ℕ} {p : Token} {ts mid rest : List Token} {a b e : Expression} → IsSymbol (codes "-") p → IsProduct n ts mid b
        → IsSumTail n (binary sign.Sub a b p.place) mid rest e → IsSumTail (suc n) a (p ∷ ts) rest e

  -- unary { "*" unary }
  pub data IsProduct : ℕ → List Token → List Token → Expression → Type 0 where
    product : {n : ℕ} {ts mid rest : List Token} {a e : Expression} → IsUnary (suc n) ts mid a → IsProductTail (suc n) a mid rest e → IsProduct (suc n) ts rest e

  -- { "*" unary }, after a
  pub data IsProductTail : ℕ → Expression → List Token → List Token → Expression → Type 0 where
    product_ends : {n : ℕ} {a : Expression} {rest : List Token} → IsProductTail (suc n) a rest rest a
    times : {n : ℕ} {p : Token} {ts mid rest : List Token} {a b e : Expression} → IsSymbol (codes "*") p → IsUnary n ts mid b
        → IsProductTail n (binary sign.Mul a b p.place) mid rest e → IsProductTail (suc n) a (p ∷ ts) rest e

  -- "-" unary, or postfix
  pub data IsUnary : ℕ → List Token → List Token → Expression → Type 0 where
    negative : {n : ℕ} {m : Token} {ts rest : List Token} {e : Expression} → IsSymbol (codes "-") m → IsUnary n ts rest e → IsUnary (suc n) (m ∷ ts) rest (negated m e)
    postfix : {n : ℕ} {ts rest : List Token} {e : Expression} → IsPostfix (suc n) ts rest e → IsUnary (suc n) ts rest e

  -- primary { "." map }: the first map behind a bare name or a number is its access, every other map is a dependence
  pub data IsPostfix : ℕ → List Token → List Token → Expression → Type 0 where
    bare : {n : ℕ} {x : Token} {rest : List Token} → IsName x → IsPostfix (suc n) (x ∷ rest) rest (reference x.text access.Here x.place)
    bare_mapped : {n : ℕ} {x d : Token} {ts mid rest : List Token} {m : MapText} {e : Expression} → IsName x → IsSymbol (codes ".") d → IsMap ts mid m
        → IsPostfixTail n (reference x.text (access.Mapped m) x.place) mid rest e → IsPostfix (suc n) (x ∷ d ∷ ts) rest e
    number : {n : ℕ} {x : Token} {ts rest : List Token} {at : Access} → IsNumber x → IsBrackets ts rest at
        → IsPostfix (suc n) (x ∷ ts) rest (constant (number_of x.text) at x.place)
    number_mapped : {n : ℕ} {x d : Token} {ts t0 mid rest : List Token} {at : Access} {m : MapText} {e : Expression} → IsNumber x → IsBrackets ts (d ∷ t0) at
        → IsSymbol (codes ".") d → IsMap t0 mid m → IsPostfixTail n (constant (number_of x.text) (access.Mapped m) x.place) mid rest e
        → IsPostfix (suc n) (x ∷ ts) rest e
    primary : {n : ℕ} {ts mid rest : List Token} {a e : Expression} → IsPrimary (suc n) ts mid a → IsPostfixTail (suc n) a mid rest e → IsPostfix (suc n) ts rest e

  -- { "." map }, after a; no map is open behind the last one
  pub data IsPostfixTail : ℕ → Expression → List Token → List Token → Expression → Type 0 where
    no_map : {n : ℕ} {a : Expression} {rest : List Token} → IsPostfixTail n a rest rest a
    mapped : {n : ℕ} {d : Token} {ts mid rest : List Token} {a e : Expression} {m : MapText} → IsSymbol (codes ".") d → IsMap ts mid m
        → IsPostfixTail n (dependence m a m.place) mid rest e → IsPostfixTail (suc n) a (d ∷ ts) rest e

  -- name "[" [ index { "," index } ] "]", or "(" expr ")", or ( "min" or "max" ) "(" expr "," expr ")", or
  -- "case" expr ";" { expr ";" } "esac", or "reduce" "(" op "," map "," expr ")"
  pub data IsPrimary : ℕ → List Token → List Token → Expression → Type 0 where
    indexed : {n : ℕ} {x o c : Token} {ts rest : List Token} {es : List IndexExpr} → IsName x → IsSymbol (codes "[") o → IsOptionalIndices ts (c ∷ rest) es
        → IsSymbol (codes "]") c → IsPrimary (suc n) (x ∷ o ∷ ts) rest (reference x.text (access.Indices es) x.place)
    parenthesis : {n : ℕ} {o c : Token} {ts rest : List Token} {e : Expression} → IsSymbol (codes "(") o → IsExpr n ts (c ∷ rest) e → IsSymbol (codes ")") c
        → IsPrimary (suc n) (o ∷ ts) rest e
    least : {n : ℕ} {w o q c : Token} {ts mid rest : List Token} {a b : Expression} → IsReserved (codes "min") w → IsSymbol (codes "(") o → IsExpr n ts (q ∷ mid) a
        → IsSymbol (codes ",") q → IsExpr n mid (c ∷ rest) b → IsSymbol (codes ")") c → IsPrimary (suc n) (w ∷ o ∷ ts) rest (binary sign.Min a b w.place)
    greatest : {n : ℕ} {w o q c : Token} {ts mid rest : List Token} {a b : Expression} → IsReserved (codes "max") w → IsSymbol (codes "(") o → IsExpr n ts (q ∷ mid) a
        → IsSymbol (codes ",") q → IsExpr n mid (c ∷ rest) b → IsSymbol (codes ")") c → IsPrimary (suc n) (w ∷ o ∷ ts) rest (binary sign.Max a b w.place)
    case_of : {n : ℕ} {w s : Token} {ts rest : List Token} {es : Expressions} → IsReserved (codes "case") w → IsBranches n ts (s ∷ rest) es → IsReserved (codes "esac") s
        → IsPrimary (suc n) (w ∷ ts) rest (cases es w.place)
    reduced : {n : ℕ} {w o f q p c : Token} {ts mid rest : List Token} {op : Op} {m : MapText} {e : Expression} → IsReserved (codes "reduce") w → IsSymbol (codes "(") o
        → IsOp op f → IsSymbol (codes ",") q → IsMap ts (p ∷ mid) m → IsSymbol (codes ",") p → IsExpr n mid (c ∷ rest) e → IsSymbol (codes ")") c
        → IsPrimary (suc n) (w ∷ o ∷ f ∷ q ∷ ts) rest (reduction op m e w.place)

  -- expr ";" { expr ";" }
  pub data IsBranches : ℕ → List Token → List Token → Expressions → Type 0 where
    last_branch : {n : ℕ} {s : Token} {ts rest : List Token} {e : Expression} → IsExpr n ts (s ∷ rest) e → IsSymbol (codes ";") s → IsBranches n ts rest (more e none)
    branch : {n : ℕ} {s : Token} {ts mid rest : List Token} {e : Expression} {es : Expressions} → IsExpr n ts (s ∷ mid) e → IsSymbol (codes ";") s → IsBranches n mid rest es
        → IsBranches n ts rest (more e es)
