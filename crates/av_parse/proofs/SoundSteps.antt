-- Steps of reading, for what is read.
use Rattle.std.proofs.Common.{◌≡◌, Bool, true, false, cond, List, [], ◌∷◌, Option, Some, None, Result, Ok, Err, refl, subst}
use Rattle.std.specs.Prelude.{◌&&◌, if◌then◌else◌}
use Rattle.std.specs.Str.{bytes_eq}
use Rattle.av_base.specs.declared.token_kind.TokenKind.{TokenKind}
use Rattle.av_base.specs.declared.token_kind.TokenKind.TheVariants as kind
use Rattle.av_base.specs.Tokens.{Token}
use Rattle.av_tree.specs.Trees.{Text}
use Rattle.av_tree.specs.Parts.{IsSymbol, IsReserved}
use Rattle.av_parse.specs.declared.fault.Fault.{Fault}
use Rattle.av_parse.specs.inner.Reader.{◌>>=◌, same, begins, begins_symbol, begins_word, after, expect, expect_with, expect_symbol, expect_word, syntax}
use Rattle.av_parse.proofs.Follow.{same_is, with_is}

-- what is read, if anything is, is so
pub data Holds {A : Type 0} (P : A → Type 0) : Result A Fault → Type 0 where
  fine : {x : A} → P x → Holds P (Ok x)
  failed : {f : Fault} → Holds P (Err f)

ok_is : {A : Type 0} (x y : A) → ◌≡◌ {A = Result A Fault} (Ok x) (Ok y) → x ≡ y
ok_is x y e = cc

pub held : {A : Type 0} {P : A → Type 0} (y : A) (r : Result A Fault) → Holds P r → r ≡ Ok y → P y
held {P = P} y (Ok x) (fine p) e = subst P (ok_is x y e) p
held y (Err f) failed e = absurd cc

pub weaker : {A : Type 0} {P Q : A → Type 0} {r : Result A Fault} → Holds P r → ((x : A) → P x → Q x) → Holds Q r
weaker (fine {x = x} p) go = fine (go x p)
weaker failed go = failed

-- a part, and then what follows
pub bind : {A B : Type 0} {Q : A × List Token → Type 0} {P : B → Type 0} {r : Result (A × List Token) Fault} (f : A × List Token → Result B Fault)
    → Holds Q r → ((a : A) (ts : List Token) → Q (a, ts) → Holds P (f (a, ts))) → Holds P (r >>= f)
bind f (fine {x = x} q) go = go x.0 x.1 q
bind f failed go = failed

-- a test
pub by_test : {A : Type 0} {P : A → Type 0} (b : Bool) (x y : Result A Fault) → (b ≡ true → Holds P x) → (b ≡ false → Holds P y) → Holds P (if b then x else y)
by_test true x y yes_is no_is = yes_is refl
by_test false x y yes_is no_is = no_is refl

-- a test on the first token
pub by_symbol : {A : Type 0} {P : A → Type 0} (text : Text) (ts : List Token) (f g : Result A Fault)
    → ((x : Token) (rest : List Token) → ts ≡ x ∷ rest → IsSymbol text x → Holds P f) → (begins_symbol text ts ≡ false → Holds P g)
    → Holds P (if begins_symbol text ts then f else g)
by_symbol text [] f g yes_is no_is = no_is refl
by_symbol text (x ∷ ts) f g yes_is no_is = by_test (same x.kind kind.Symbol && bytes_eq x.text text) _ _ (λ e. yes_is x ts refl (with_is kind.Symbol text x e)) no_is

pub by_word : {A : Type 0} {P : A → Type 0} (text : Text) (ts : List Token) (f g : Result A Fault)
    → ((x : Token) (rest : List Token) → ts ≡ x ∷ rest → IsReserved text x → Holds P f) → (begins_word text ts ≡ false → Holds P g)
    → Holds P (if begins_word text ts then f else g)
by_word text [] f g yes_is no_is = no_is refl
by_word text (x ∷ ts) f g yes_is no_is = by_test (same x.kind kind.Reserved && bytes_eq x.text text) _ _ (λ e. yes_is x ts refl (with_is kind.Reserved text x e)) no_is

pub by_kind : {A : Type 0} {P : A → Type 0} (k : TokenKind) (ts : List Token) (f g : Result A Fault)
    → ((x : Token) (rest : List Token) → ts ≡ x ∷ rest → x.kind ≡ k → Holds P f) → (begins k ts ≡ false → Holds P g)
    → Holds P (if begins k ts then f else g)
by_kind k [] f g yes_is no_is = no_is refl
by_kind k (x ∷ ts) f g yes_is no_is = by_test (same x.kind k) _ _ (λ e. yes_is x ts refl (same_is x.kind k e)) no_is

by_test_then : {A B : Type 0} {P : B → Type 0} (b : Bool) (x y : Result A Fault) (f : A → Result B Fault)
    → (b ≡ true → Holds P (x >>= f)) → (b ≡ false → Holds P (y >>= f)) → Holds P (cond b x y >>= f)
by_test_then true x y f yes_is no_is = yes_is refl
by_test_then false x y f yes_is no_is = no_is refl

-- a token that must stand there
pub token : {B : Type 0} {P : B → Type 0} (k : TokenKind) (ts : List Token) (f : Token × List Token → Result B Fault)
    → ((x : Token) (rest : List Token) → ts ≡ x ∷ rest → x.kind ≡ k → Holds P (f (x, rest))) → Holds P (expect k ts >>= f)
unfolding expect
token k [] f go = failed
token k (x ∷ ts) f go = by_test_then (same x.kind k) (Ok (x, ts)) (syntax (x ∷ ts)) f (λ e. go x ts refl (same_is x.kind k e)) (λ e. failed)

token_with : {B : Type 0} {P : B → Type 0} (k : TokenKind) (text : Text) (ts : List Token) (f : Token × List Token → Result B Fault)
    → ((x : Token) (rest : List Token) → ts ≡ x ∷ rest → (x.kind ≡ k) × (x.text ≡ text) → Holds P (f (x, rest))) → Holds P (expect_with k text ts >>= f)
unfolding expect_with
token_with k text [] f go = failed
token_with k text (x ∷ ts) f go =
    by_test_then (same x.kind k && bytes_eq x.text text) (Ok (x, ts)) (syntax (x ∷ ts)) f (λ e. go x ts refl (with_is k text x e)) (λ e. failed)

pub one_expected : (k : TokenKind) (ts : List Token) → Holds (λ y. (ts ≡ y.0 ∷ y.1) × (y.0.kind ≡ k)) (expect k ts)
unfolding expect
one_expected k [] = failed
one_expected k (x ∷ ts) = by_test (same x.kind k) (Ok (x, ts)) (syntax (x ∷ ts)) (λ e. fine (refl, same_is x.kind k e)) (λ e. failed)

pub expected : (k : TokenKind) (text : Text) (ts : List Token) → Holds (λ y. (ts ≡ y.0 ∷ y.1) × ((y.0.kind ≡ k) × (y.0.text ≡ text))) (expect_with k text ts)
unfolding expect_with
expected k text [] = failed
expected k text (x ∷ ts) = by_test (same x.kind k && bytes_eq x.text text) (Ok (x, ts)) (syntax (x ∷ ts)) (λ e. fine (refl, with_is k text x e)) (λ e. failed)

pub symbol : {B : Type 0} {P : B → Type 0} (text : Text) (ts : List Token) (f : Token × List Token → Result B Fault)
    → ((x : Token) (rest : List Token) → ts ≡ x ∷ rest → IsSymbol text x → Holds P (f (x, rest))) → Holds P (expect_symbol text ts >>= f)
symbol text ts f go = token_with kind.Symbol text ts f go

pub word : {B : Type 0} {P : B → Type 0} (text : Text) (ts : List Token) (f : Token × List Token → Result B Fault)
    → ((x : Token) (rest : List Token) → ts ≡ x ∷ rest → IsReserved text x → Holds P (f (x, rest))) → Holds P (expect_word text ts >>= f)
word text ts f go = token_with kind.Reserved text ts f go

-- ---- what the first token spells

-- the tokens begin with one of this sort
abbrev pub Starts : (Token → Type 0) → List Token → List Token → Type 0
Starts P ts rest = (x : Token) × (ts ≡ x ∷ rest) × P x

-- what is chosen, if anything is, is so
pub data Chosen {A : Type 0} (P : A → Type 0) : Option A → Type 0 where
  nothing : Chosen P None
  one : {x : A} → P x → Chosen P (Some x)

pub first_of_two : {A : Type 0} {P : A → Type 0} (b : Bool) (x : A) (other : Option A) → (b ≡ true → P x) → Chosen P other → Chosen P (if b then Some x else other)
first_of_two true x other is others = one (is refl)
first_of_two false x other is others = others

pub symbol_starts : (text : Text) (ts : List Token) → begins_symbol text ts ≡ true → Starts (IsSymbol text) ts (after ts)
symbol_starts text [] e = absurd cc
symbol_starts text (x ∷ ts) e = (x, refl, with_is kind.Symbol text x e)

pub word_starts : (text : Text) (ts : List Token) → begins_word text ts ≡ true → Starts (IsReserved text) ts (after ts)
word_starts text [] e = absurd cc
word_starts text (x ∷ ts) e = (x, refl, with_is kind.Reserved text x e)
