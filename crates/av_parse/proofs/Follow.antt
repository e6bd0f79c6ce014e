-- What the tests on the first token say, and which tokens may follow a part.
use Rattle.std.proofs.Common.{◌≡◌, ℕ, true, false, cond, List, ◌∷◌, Ok, refl, sym, ap, subst, ◌∙◌}
use Rattle.std.specs.Prelude.{◌&&◌, nat_eq, codes}
use Rattle.std.specs.Str.{bytes_eq}
use Rattle.std.proofs.lemmas.Bool.{eqb-true, eq-eqb}
use Rattle.std.proofs.lemmas.Slice.Eq.{bytes_eq-Decides}
use Rattle.av_base.specs.declared.token_kind.TokenKind.{TokenKind}
use Rattle.av_base.specs.declared.token_kind.TokenKind.TheVariants as kind
use Rattle.av_base.specs.Tokens.{Token}
use Rattle.av_tree.specs.Trees.{Text}
use Rattle.av_tree.specs.Parts.{IsSymbol, IsReserved}
use Rattle.av_parse.specs.inner.Reader.{code, same, begins, begins_with, begins_symbol, begins_word, expect, expect_with, expect_symbol, expect_word}
use Rattle.av_base.proofs.Truths.{both}

-- ---- kinds

kind_of : ℕ → TokenKind
kind_of n = cond (nat_eq n 0) kind.Name (cond (nat_eq n 1) kind.Reserved (cond (nat_eq n 2) kind.Number (cond (nat_eq n 3) kind.Symbol kind.End)))

kind_of-code : (k : TokenKind) → kind_of (code k) ≡ k
unfolding kind_of
kind_of-code kind.Name = refl
kind_of-code kind.Reserved = refl
kind_of-code kind.Number = refl
kind_of-code kind.Symbol = refl
kind_of-code kind.End = refl

pub same_is : (a b : TokenKind) → same a b ≡ true → a ≡ b
same_is a b e = sym (kind_of-code a) ∙ (ap kind_of (eqb-true (code a) (code b) e) ∙ kind_of-code b)

pub same_self : (a b : TokenKind) → a ≡ b → same a b ≡ true
same_self a b e = eq-eqb (code a) (code b) (ap code e)

-- ---- a token that passes a test

pub with_is : (k : TokenKind) (text : Text) (x : Token) → (same x.kind k && bytes_eq x.text text) ≡ true → (x.kind ≡ k) × (x.text ≡ text)
with_is k text x e =
    let b = both (same x.kind k) (bytes_eq x.text text) e in
    (same_is x.kind k b.0, (bytes_eq-Decides x.text text).0 b.1)

pub with_yes : (k : TokenKind) (text : Text) (x : Token) → (x.kind ≡ k) × (x.text ≡ text) → (same x.kind k && bytes_eq x.text text) ≡ true
with_yes k text x is = rw (same_self x.kind k is.0) ((bytes_eq-Decides x.text text).1 is.1)

pub symbol_yes : (text : Text) (x : Token) (ts : List Token) → IsSymbol text x → begins_symbol text (x ∷ ts) ≡ true
symbol_yes text x ts is = with_yes kind.Symbol text x is

pub word_yes : (text : Text) (x : Token) (ts : List Token) → IsReserved text x → begins_word text (x ∷ ts) ≡ true
word_yes text x ts is = with_yes kind.Reserved text x is

-- ---- a token that fails a test

-- another kind
pub kind_not : (k other : TokenKind) (x : Token) (ts : List Token) → x.kind ≡ k → same k other ≡ false → begins other (x ∷ ts) ≡ false
kind_not k other x ts is differs = ap (λ z. same z other) is ∙ differs

pub with_not : (k other : TokenKind) (text : Text) (x : Token) (ts : List Token) → x.kind ≡ k → same k other ≡ false → begins_with other text (x ∷ ts) ≡ false
with_not k other text x ts is differs = ap (λ z. same z other && bytes_eq x.text text) is ∙ ap (λ b. b && bytes_eq x.text text) differs

-- another text
pub text_not : (k : TokenKind) (text other : Text) (x : Token) (ts : List Token) → (x.kind ≡ k) × (x.text ≡ text) → bytes_eq text other ≡ false
    → begins_with k other (x ∷ ts) ≡ false
text_not k text other x ts is differs = rw (same_self x.kind k is.0) (ap (λ z. bytes_eq z other) is.1 ∙ differs)

-- ---- a token that must stand there

pub expect_gives : (k : TokenKind) (x : Token) (ts : List Token) → x.kind ≡ k → expect k (x ∷ ts) ≡ Ok (x, ts)
unfolding expect
expect_gives k x ts is = rw (same_self x.kind k is) refl

pub symbol_gives : (text : Text) (x : Token) (ts : List Token) → IsSymbol text x → expect_symbol text (x ∷ ts) ≡ Ok (x, ts)
unfolding expect_with
symbol_gives text x ts is = rw (with_yes kind.Symbol text x is) refl

pub word_gives : (text : Text) (x : Token) (ts : List Token) → IsReserved text x → expect_word text (x ∷ ts) ≡ Ok (x, ts)
unfolding expect_with
word_gives text x ts is = rw (with_yes kind.Reserved text x is) refl

-- what holds of a token as the grammar spells it holds of each such token
pub known : {k : TokenKind} {text : Text} (P : Token → Type 0) (x : Token) → (x.kind ≡ k) × (x.text ≡ text) → P (record { kind = k; text = text; place = x.place }) → P x
known {k = k} {text = text} P x is p =
    let same_token : record { kind = k; text = text; place = x.place } ≡ x = λ i. record { kind = sym is.0 i; text = sym is.1 i; place = x.place } in
    subst P same_token p

-- ---- what ends names and index expressions

abbrev pub EndsNames : List Token → Type 0
EndsNames ts = (begins kind.Name ts ≡ false) × (begins_symbol (codes ",") ts ≡ false)

-- no sign, star or name goes on with a term
abbrev pub EndsTerm : List Token → Type 0
EndsTerm ts = (begins kind.Name ts ≡ false) × (begins_symbol (codes "*") ts ≡ false)

abbrev pub EndsIndex : List Token → Type 0
EndsIndex ts = (begins kind.Name ts ≡ false) × (begins_symbol (codes "*") ts ≡ false) × (begins_symbol (codes "+") ts ≡ false) × (begins_symbol (codes "-") ts ≡ false)
