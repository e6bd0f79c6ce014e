-- Steps of reading, for what was read before a fault of either kind.
use Rattle.std.proofs.Common.{◌≡◌, ℕ, suc, Bool, true, false, cond, List, [], ◌∷◌, length, Result, Ok, Err, refl, sym, ◌∙◌}
use Rattle.std.specs.Prelude.{◌&&◌, if◌then◌else◌}
use Rattle.std.specs.Str.{bytes_eq}
use Rattle.av_base.specs.declared.token_kind.TokenKind.{TokenKind}
use Rattle.av_base.specs.declared.token_kind.TokenKind.TheVariants as kind
use Rattle.av_base.specs.Tokens.{Token}
use Rattle.av_tree.specs.Trees.{Text}
use Rattle.av_tree.specs.Parts.{IsSymbol, IsReserved, IsEnd}
use Rattle.av_tree.specs.FrontsParts.{Meant, every, ending}
use Rattle.av_parse.specs.declared.fault.Fault.{Fault}
use Rattle.av_parse.specs.declared.fault.Fault.TheVariants.{Syntax, Depth}
use Rattle.av_parse.specs.inner.Reader.{◌>>=◌, same, begins, begins_symbol, begins_word, expect, expect_with, expect_symbol, expect_word, syntax}
use Rattle.av_parse.proofs.Follow.{same_is, same_self, with_is}
use Rattle.av_parse.proofs.SoundSteps.{Holds, fine, failed}

-- a token of another kind is no End
pub no_end : (k : TokenKind) (x : Token) → same k kind.End ≡ false → x.kind ≡ k → IsEnd x → ⊥
no_end k x differs is end = absurd (let h : same k kind.End ≡ true = same_self k kind.End (sym is ∙ end) in cc)

-- from ts on to r the tokens, none of them an End, are passed one by one, and the tokens up to each of them are a front
pub data Passed (F : List Token → Type 0) : List Token → List Token → Type 0 where
  stays : {ts : List Token} → Passed F ts ts
  passes : {x : Token} {ts r : List Token} → F (x ∷ ts) → (IsEnd x → ⊥) → Passed F ts r → Passed F (x ∷ ts) r

pub map_passed : {F G : List Token → Type 0} {ts r : List Token} → Passed F ts r → ((t : List Token) → F t → G t) → Passed G ts r
map_passed stays go = stays
map_passed (passes {x = x} {ts = ts} here some others) go = passes (go (x ∷ ts) here) some (map_passed others go)

pub join_passed : {F : List Token → Type 0} {ts mid r : List Token} → Passed F ts mid → Passed F mid r → Passed F ts r
join_passed stays others = others
join_passed (passes here some first) others = passes here some (join_passed first others)

-- from ts on what is passed before a fault are fronts; so are the tokens before the fault, and for a fault of depth those
-- with the token there, which has the level l
pub data StandsAt {A : Type 0} (l : ℕ) (F : Meant → List Token → Type 0) (ts : List Token) : Result (A × List Token) Fault → Type 0 where
  given : {x : A × List Token} → Passed (F every) ts x.1 → StandsAt l F ts (Ok x)
  faulty : {r : List Token} → Passed (F every) ts r → F every r → StandsAt l F ts (Err (Syntax (length r)))
  deeper : {x : Token} {r : List Token} → Passed (F every) ts (x ∷ r) → F every (x ∷ r) → F (ending l) r → StandsAt l F ts (Err (Depth (suc (length r))))

-- a front of a part is one of the whole
pub wider : {A : Type 0} {l : ℕ} {F G : Meant → List Token → Type 0} {ts : List Token} {r : Result (A × List Token) Fault} → StandsAt l F ts r
    → ((w : Meant) (t : List Token) → F w t → G w t) → StandsAt l G ts r
wider (given p) go = given (map_passed p (go every))
wider (faulty {r = r} p h) go = faulty (map_passed p (go every)) (go every r h)
wider {l = l} (deeper {x = x} {r = r} p h d) go = deeper (map_passed p (go every)) (go every (x ∷ r) h) (go (ending l) r d)

-- tokens that were passed before
pub onward : {A : Type 0} {l : ℕ} {F : Meant → List Token → Type 0} {ts mid : List Token} {r : Result (A × List Token) Fault} → Passed (F every) ts mid → StandsAt l F mid r
    → StandsAt l F ts r
onward before (given p) = given (join_passed before p)
onward before (faulty p h) = faulty (join_passed before p) h
onward before (deeper p h d) = deeper (join_passed before p) h d

-- one token that was passed before
pub passed : {A : Type 0} {l : ℕ} {F : Meant → List Token → Type 0} {x : Token} {ts : List Token} {r : Result (A × List Token) Fault} → F every (x ∷ ts) → (IsEnd x → ⊥)
    → StandsAt l F ts r → StandsAt l F (x ∷ ts) r
passed here some h = onward (passes here some stays) h

-- a part, and then what follows
pub behind : {A B : Type 0} {l : ℕ} {Q : A × List Token → Type 0} {F G : Meant → List Token → Type 0} {ts : List Token} {r : Result (A × List Token) Fault}
    (f : A × List Token → Result (B × List Token) Fault) → Holds Q r → StandsAt l F ts r → ((w : Meant) (t : List Token) → F w t → G w t)
    → ((a : A) (rest : List Token) → Q (a, rest) → StandsAt l G rest (f (a, rest))) → StandsAt l G ts (r >>= f)
behind f (fine {x = x} q) (given p) go next = onward (map_passed p (go every)) (next x.0 x.1 q)
behind f failed (faulty {r = r} p h) go next = faulty (map_passed p (go every)) (go every r h)
behind {l = l} f failed (deeper {x = x} {r = r} p h d) go next = deeper (map_passed p (go every)) (go every (x ∷ r) h) (go (ending l) r d)

-- a test
pub by_test : {A : Type 0} {l : ℕ} {F : Meant → List Token → Type 0} {ts : List Token} (b : Bool) (x y : Result (A × List Token) Fault) → (b ≡ true → StandsAt l F ts x)
    → (b ≡ false → StandsAt l F ts y) → StandsAt l F ts (if b then x else y)
by_test true x y yes_is no_is = yes_is refl
by_test false x y yes_is no_is = no_is refl

-- a test on the first token, which is passed
pub by_symbol : {A : Type 0} {l : ℕ} {F : Meant → List Token → Type 0} (text : Text) (ts : List Token) (f g : Result (A × List Token) Fault) → F every ts
    → ((x : Token) (rest : List Token) → ts ≡ x ∷ rest → IsSymbol text x → StandsAt l F rest f) → (begins_symbol text ts ≡ false → StandsAt l F ts g)
    → StandsAt l F ts (if begins_symbol text ts then f else g)
by_symbol text [] f g here yes_is no_is = no_is refl
by_symbol text (x ∷ ts) f g here yes_is no_is =
    by_test (same x.kind kind.Symbol && bytes_eq x.text text) _ _
    (λ e. let is = with_is kind.Symbol text x e in passed here (no_end kind.Symbol x refl is.0) (yes_is x ts refl is)) no_is

pub by_word : {A : Type 0} {l : ℕ} {F : Meant → List Token → Type 0} (text : Text) (ts : List Token) (f g : Result (A × List Token) Fault) → F every ts
    → ((x : Token) (rest : List Token) → ts ≡ x ∷ rest → IsReserved text x → StandsAt l F rest f) → (begins_word text ts ≡ false → StandsAt l F ts g)
    → StandsAt l F ts (if begins_word text ts then f else g)
by_word text [] f g here yes_is no_is = no_is refl
by_word text (x ∷ ts) f g here yes_is no_is =
    by_test (same x.kind kind.Reserved && bytes_eq x.text text) _ _
    (λ e. let is = with_is kind.Reserved text x e in passed here (no_end kind.Reserved x refl is.0) (yes_is x ts refl is)) no_is

pub by_kind : {A : Type 0} {l : ℕ} {F : Meant → List Token → Type 0} (k : TokenKind) → same k kind.End ≡ false → (ts : List Token) (f g : Result (A × List Token) Fault) → F every ts
    → ((x : Token) (rest : List Token) → ts ≡ x ∷ rest → x.kind ≡ k → StandsAt l F rest f) → (begins k ts ≡ false → StandsAt l F ts g)
    → StandsAt l F ts (if begins k ts then f else g)
by_kind k differs [] f g here yes_is no_is = no_is refl
by_kind k differs (x ∷ ts) f g here yes_is no_is =
    by_test (same x.kind k) _ _ (λ e. let is = same_is x.kind k e in passed here (no_end k x differs is) (yes_is x ts refl is)) no_is

by_test_then : {A B : Type 0} {l : ℕ} {F : Meant → List Token → Type 0} {ts : List Token} (b : Bool) (x y : Result A Fault) (f : A → Result (B × List Token) Fault)
    → (b ≡ true → StandsAt l F ts (x >>= f)) → (b ≡ false → StandsAt l F ts (y >>= f)) → StandsAt l F ts (cond b x y >>= f)
by_test_then true x y f yes_is no_is = yes_is refl
by_test_then false x y f yes_is no_is = no_is refl

-- a token that must stand there, before which the tokens are a front
pub token : {B : Type 0} {l : ℕ} {F : Meant → List Token → Type 0} (k : TokenKind) → same k kind.End ≡ false → (ts : List Token) (f : Token × List Token → Result (B × List Token) Fault)
    → F every ts → ((x : Token) (rest : List Token) → ts ≡ x ∷ rest → x.kind ≡ k → StandsAt l F rest (f (x, rest))) → StandsAt l F ts (expect k ts >>= f)
unfolding expect
token k differs [] f here go = faulty stays here
token k differs (x ∷ ts) f here go =
    by_test_then (same x.kind k) (Ok (x, ts)) (syntax (x ∷ ts)) f
    (λ e. let is = same_is x.kind k e in passed here (no_end k x differs is) (go x ts refl is)) (λ e. faulty stays here)

token_with : {B : Type 0} {l : ℕ} {F : Meant → List Token → Type 0} (k : TokenKind) → same k kind.End ≡ false → (text : Text) (ts : List Token)
    (f : Token × List Token → Result (B × List Token) Fault) → F every ts
    → ((x : Token) (rest : List Token) → ts ≡ x ∷ rest → (x.kind ≡ k) × (x.text ≡ text) → StandsAt l F rest (f (x, rest))) → StandsAt l F ts (expect_with k text ts >>= f)
unfolding expect_with
token_with k differs text [] f here go = faulty stays here
token_with k differs text (x ∷ ts) f here go =
    by_test_then (same x.kind k && bytes_eq x.text text) (Ok (x, ts)) (syntax (x ∷ ts)) f
    (λ e. let is = with_is k text x e in passed here (no_end k x differs is.0) (go x ts refl is)) (λ e. faulty stays here)

pub symbol : {B : Type 0} {l : ℕ} {F : Meant → List Token → Type 0} (text : Text) (ts : List Token) (f : Token × List Token → Result (B × List Token) Fault) → F every ts
    → ((x : Token) (rest : List Token) → ts ≡ x ∷ rest → IsSymbol text x → StandsAt l F rest (f (x, rest))) → StandsAt l F ts (expect_symbol text ts >>= f)
symbol text ts f here go = token_with kind.Symbol refl text ts f here go

pub word : {B : Type 0} {l : ℕ} {F : Meant → List Token → Type 0} (text : Text) (ts : List Token) (f : Token × List Token → Result (B × List Token) Fault) → F every ts
    → ((x : Token) (rest : List Token) → ts ≡ x ∷ rest → IsReserved text x → StandsAt l F rest (f (x, rest))) → StandsAt l F ts (expect_word text ts >>= f)
word text ts f here go = token_with kind.Reserved refl text ts f here go
