-- Fronts of parts of a text, and how they go together: a part's spelling ends within some tokens or these are a front
-- of it, and each front is one of a spelling.
use Rattle.std.proofs.Common.{◌≡◌, ◌⊎◌, inl, inr, ℕ, List, [], ◌∷◌, ◌++◌, map, refl, sym, ap, subst, append_assoc}
use Rattle.av_net.specs.Lexemes.{Token}
use Rattle.av_net.specs.Grammar.{AreWords, no_word, next_word, AreMany, no_more, one_more}
use Rattle.av_vparse.specs.Fronts.{Behind, in_first, in_next, FrontMany, in_part, past_part, FrontOne, none_yet, one_there, FrontWords, no_word_yet, past_word, Words}
use Rattle.av_vparse.proofs.Verdicts.{Follows, follows, Mapped, mapped, unmap}
use Rattle.av_vparse.proofs.BeginningParts.{word_token}

-- a spelling at the beginning of some tokens and more: it ends within the first ones, or these are a front
pub data Split {A : Type 0} (Front : List Token → Type 0) (Is : List Token → List Token → A → Type 0) (ts more rest : List Token) (x : A) : Type 0 where
  short : Front ts → Split Front Is ts more rest x
  within : (left : List Token) → rest ≡ left ++ more → Is ts left x → Split Front Is ts more rest x

-- tokens with which some others are a spelling, whatever follows
pub record Completion {A : Type 0} (Is : List Token → List Token → A → Type 0) (ts : List Token) : Type 0 where
  pub more : List Token
  pub value : A
  pub is : (rest : List Token) → Is (ts ++ (more ++ rest)) rest value

pub record Rules {A : Type 0} (Front : List Token → Type 0) (Is : List Token → List Token → A → Type 0) : Type 0 where
  pub start : Front []
  pub splits : (ts more rest : List Token) (x : A) → Is (ts ++ more) rest x → Split Front Is ts more rest x
  pub extends : (ts rest : List Token) (x : A) → Is ts rest x → (more : List Token) → Is (ts ++ more) (rest ++ more) x
  pub completes : (ts : List Token) → Front ts → Completion Is ts

-- ---- the same part, told otherwise

pub rules_as : {A : Type 0} {F G : List Token → Type 0} {I J : List Token → List Token → A → Type 0} → ((ts : List Token) → F ts → G ts) → ((ts : List Token) → G ts → F ts)
    → ((ts rest : List Token) (x : A) → I ts rest x → J ts rest x) → ((ts rest : List Token) (x : A) → J ts rest x → I ts rest x) → Rules F I → Rules G J
rules_as {A = A} {F = F} {G = G} {I = I} {J = J} out back to from r = record {
  start = out [] r.start;
  splits = λ ts more rest x j. split ts more rest x (r.splits ts more rest x (from (ts ++ more) rest x j));
  extends = λ ts rest x j more. to (ts ++ more) (rest ++ more) x (r.extends ts rest x (from ts rest x j) more);
  completes = λ ts g. let c = r.completes ts (back ts g) in record { more = c.more; value = c.value; is = λ rest. to (ts ++ (c.more ++ rest)) rest c.value (c.is rest) };
}
  where
    split : (ts more rest : List Token) (x : A) → Split F I ts more rest x → Split G J ts more rest x
    split ts more rest x (short f) = short (out ts f)
    split ts more rest x (within left e i) = within left e (to ts left x i)

pub part_as : {A : Type 0} {F : List Token → Type 0} {I J : List Token → List Token → A → Type 0} → ((ts rest : List Token) (x : A) → I ts rest x → J ts rest x) → ((ts rest : List Token) (x : A) → J ts rest x → I ts rest x) → Rules F I → Rules F J
part_as to from r = rules_as (λ ts f. f) (λ ts f. f) to from r

-- ---- a part and then another

pub behind_rules : {A B : Type 0} {F : List Token → Type 0} {I : List Token → List Token → A → Type 0} {G : A → List Token → Type 0} {J : A → List Token → List Token → B → Type 0}
    → Rules F I → ((x : A) → Rules (G x) (J x)) → Rules (Behind F I G) (Follows I J)
behind_rules {A = A} {B = B} {F = F} {I = I} {G = G} {J = J} r s = record { start = in_first r.start; splits = splits; extends = extends; completes = completes }
  where
    third : (ts more rest left : List Token) (x : A) (y : B) → I ts left x → Split (G x) (J x) left more rest y → Split (Behind F I G) (Follows I J) ts more rest y
    third ts more rest left x y i (short g) = short (in_next i g)
    third ts more rest left x y i (within end e j) = within end e (follows i j)

    second : (ts more mid rest : List Token) (x : A) (y : B) → J x mid rest y → Split F I ts more mid x → Split (Behind F I G) (Follows I J) ts more rest y
    second ts more mid rest x y j (short f) = short (in_first f)
    second ts more mid rest x y j (within left e i) = third ts more rest left x y i ((s x).splits left more rest y (subst (λ z. J x z rest y) e j))

    splits : (ts more rest : List Token) (y : B) → Follows I J (ts ++ more) rest y → Split (Behind F I G) (Follows I J) ts more rest y
    splits ts more rest y (follows {mid = mid} {x = x} i j) = second ts more mid rest x y j (r.splits ts more mid x i)

    extends : (ts rest : List Token) (y : B) → Follows I J ts rest y → (more : List Token) → Follows I J (ts ++ more) (rest ++ more) y
    extends ts rest y (follows {mid = mid} {x = x} i j) more = follows (r.extends ts mid x i more) ((s x).extends mid rest y j more)

    completes : (ts : List Token) → Behind F I G ts → Completion (Follows I J) ts
    completes ts (in_first f) =
        let c = r.completes ts f in
        let d = (s c.value).completes [] (s c.value).start in
        record {
          more = c.more ++ d.more;
          value = d.value;
          is = λ rest. follows (subst (λ z. I (ts ++ z) (d.more ++ rest) c.value) (sym (append_assoc c.more d.more rest)) (c.is (d.more ++ rest))) (d.is rest);
        }
    completes ts (in_next {rest = left} {x = x} i g) =
        let d = (s x).completes left g in
        record { more = d.more; value = d.value; is = λ rest. follows (r.extends ts left x i (d.more ++ rest)) (d.is rest) }

-- ---- one of two parts

abbrev pub Either : {A : Type 0} → (List Token → List Token → A → Type 0) → (List Token → List Token → A → Type 0) → List Token → List Token → A → Type 0
Either I J ts rest x = I ts rest x ⊎ J ts rest x

pub either_rules : {A : Type 0} {F G : List Token → Type 0} {I J : List Token → List Token → A → Type 0} → Rules F I → Rules G J → Rules (λ ts. F ts ⊎ G ts) (Either I J)
either_rules {A = A} {F = F} {G = G} {I = I} {J = J} r s = record { start = inl r.start; splits = splits; extends = extends; completes = completes }
  where
    first : (ts more rest : List Token) (x : A) → Split F I ts more rest x → Split (λ ts. F ts ⊎ G ts) (Either I J) ts more rest x
    first ts more rest x (short f) = short (inl f)
    first ts more rest x (within left e i) = within left e (inl i)

    second : (ts more rest : List Token) (x : A) → Split G J ts more rest x → Split (λ ts. F ts ⊎ G ts) (Either I J) ts more rest x
    second ts more rest x (short g) = short (inr g)
    second ts more rest x (within left e j) = within left e (inr j)

    splits : (ts more rest : List Token) (x : A) → Either I J (ts ++ more) rest x → Split (λ ts. F ts ⊎ G ts) (Either I J) ts more rest x
    splits ts more rest x (inl i) = first ts more rest x (r.splits ts more rest x i)
    splits ts more rest x (inr j) = second ts more rest x (s.splits ts more rest x j)

    extends : (ts rest : List Token) (x : A) → Either I J ts rest x → (more : List Token) → Either I J (ts ++ more) (rest ++ more) x
    extends ts rest x (inl i) more = inl (r.extends ts rest x i more)
    extends ts rest x (inr j) more = inr (s.extends ts rest x j more)

    completes : (ts : List Token) → F ts ⊎ G ts → Completion (Either I J) ts
    completes ts (inl f) = let c = r.completes ts f in record { more = c.more; value = c.value; is = λ rest. inl (c.is rest) }
    completes ts (inr g) = let c = s.completes ts g in record { more = c.more; value = c.value; is = λ rest. inr (c.is rest) }

-- nothing, for values of some kind, or a part
abbrev pub Nothing : {A : Type 0} → (A → Type 0) → List Token → List Token → A → Type 0
Nothing P ts rest x = (ts ≡ rest) × P x

pub optional_rules : {A : Type 0} {F : List Token → Type 0} {I : List Token → List Token → A → Type 0} (P : A → Type 0) → Rules F I → Rules F (Either (Nothing P) I)
optional_rules {A = A} {F = F} {I = I} P r = record { start = r.start; splits = splits; extends = extends; completes = completes }
  where
    first : (ts more rest : List Token) (x : A) → Split F I ts more rest x → Split F (Either (Nothing P) I) ts more rest x
    first ts more rest x (short f) = short f
    first ts more rest x (within left e i) = within left e (inr i)

    splits : (ts more rest : List Token) (x : A) → Either (Nothing P) I (ts ++ more) rest x → Split F (Either (Nothing P) I) ts more rest x
    splits ts more rest x (inl none) = within ts (sym none.0) (inl (refl, none.1))
    splits ts more rest x (inr i) = first ts more rest x (r.splits ts more rest x i)

    extends : (ts rest : List Token) (x : A) → Either (Nothing P) I ts rest x → (more : List Token) → Either (Nothing P) I (ts ++ more) (rest ++ more) x
    extends ts rest x (inl none) more = inl (ap (λ z. z ++ more) none.0, none.1)
    extends ts rest x (inr i) more = inr (r.extends ts rest x i more)

    completes : (ts : List Token) → F ts → Completion (Either (Nothing P) I) ts
    completes ts f = let c = r.completes ts f in record { more = c.more; value = c.value; is = λ rest. inr (c.is rest) }

-- ---- a part with another value

pub mapped_rules : {A B : Type 0} {F : List Token → Type 0} {I : List Token → List Token → A → Type 0} (f : A → B) → Rules F I → Rules F (Mapped I f)
mapped_rules {A = A} {B = B} {F = F} {I = I} f r = record { start = r.start; splits = splits; extends = extends; completes = completes }
  where
    first : (ts more rest : List Token) (x : A) → Split F I ts more rest x → Split F (Mapped I f) ts more rest (f x)
    first ts more rest x (short g) = short g
    first ts more rest x (within left e i) = within left e (mapped i)

    splits : (ts more rest : List Token) (y : B) → Mapped I f (ts ++ more) rest y → Split F (Mapped I f) ts more rest y
    splits ts more rest y m = unmap (λ y. Split F (Mapped I f) ts more rest y) m (λ x i. first ts more rest x (r.splits ts more rest x i))

    extends : (ts rest : List Token) (y : B) → Mapped I f ts rest y → (more : List Token) → Mapped I f (ts ++ more) (rest ++ more) y
    extends ts rest y m more = unmap (λ y. Mapped I f (ts ++ more) (rest ++ more) y) m (λ x i. mapped (r.extends ts rest x i more))

    completes : (ts : List Token) → F ts → Completion (Mapped I f) ts
    completes ts g = let c = r.completes ts g in record { more = c.more; value = f c.value; is = λ rest. mapped (c.is rest) }

-- with a value of which something holds
abbrev pub With : {A B : Type 0} → (List Token → List Token → A → Type 0) → A → (B → Type 0) → List Token → List Token → B → Type 0
With I x P ts rest y = I ts rest x × P y

pub with_rules : {B : Type 0} {F : List Token → Type 0} {I : List Token → List Token → Unit {0} → Type 0} (P : B → Type 0) (y : B) → P y → Rules F I → Rules F (With I tt P)
with_rules {B = B} {F = F} {I = I} P y p r = record { start = r.start; splits = splits; extends = λ ts rest y w more. (r.extends ts rest tt w.0 more, w.1); completes = completes }
  where
    first : (ts more rest : List Token) (y : B) → P y → Split F I ts more rest tt → Split F (With I tt P) ts more rest y
    first ts more rest y p (short g) = short g
    first ts more rest y p (within left e i) = within left e (i, p)

    splits : (ts more rest : List Token) (y : B) → With I tt P (ts ++ more) rest y → Split F (With I tt P) ts more rest y
    splits ts more rest y w = first ts more rest y w.1 (r.splits ts more rest tt w.0)

    completes : (ts : List Token) → F ts → Completion (With I tt P) ts
    completes ts g = let c = r.completes ts g in record { more = c.more; value = y; is = λ rest. (c.is rest, p) }

-- ---- any number of parts

pub many_rules : {A : Type 0} {F : List Token → Type 0} {I : List Token → List Token → A → Type 0} → Rules F I → Rules (FrontMany F I) (AreMany I)
many_rules {A = A} {F = F} {I = I} r = record { start = in_part r.start; splits = λ ts more rest xs m. walk (ts ++ more) rest xs m ts more refl; extends = λ ts rest xs m more. extended ts rest xs m more; completes = completes }
  where
    third : (ts more rest left : List Token) (x : A) (xs : List A) → I ts left x → Split (FrontMany F I) (AreMany I) left more rest xs → Split (FrontMany F I) (AreMany I) ts more rest (x ∷ xs)
    third ts more rest left x xs i (short g) = short (past_part i g)
    third ts more rest left x xs i (within end e m) = within end e (one_more i m)

    second : (ts more rest a : List Token) (x : A) (xs : List A) → Split F I ts more a x → ((left : List Token) → a ≡ left ++ more → Split (FrontMany F I) (AreMany I) left more rest xs)
        → Split (FrontMany F I) (AreMany I) ts more rest (x ∷ xs)
    second ts more rest a x xs (short f) later = short (in_part f)
    second ts more rest a x xs (within left e i) later = third ts more rest left x xs i (later left e)

    walk : (zs rest : List Token) (xs : List A) → AreMany I zs rest xs → (ts more : List Token) → zs ≡ ts ++ more → Split (FrontMany F I) (AreMany I) ts more rest xs
    walk zs rest xs (no_more) ts more e = within ts e no_more
    walk zs rest xs (one_more {a = a} {x = x} {xs = ys} i many) ts more e =
        second ts more rest a x ys (r.splits ts more a x (subst (λ z. I z a x) e i)) (λ left f. walk a rest ys many left more f)

    extended : (ts rest : List Token) (xs : List A) → AreMany I ts rest xs → (more : List Token) → AreMany I (ts ++ more) (rest ++ more) xs
    extended ts rest xs (no_more) more = no_more
    extended ts rest xs (one_more {a = a} {x = x} {xs = ys} i many) more = one_more (r.extends ts a x i more) (extended a rest ys many more)

    completes : (ts : List Token) → FrontMany F I ts → Completion (AreMany I) ts
    completes ts (in_part f) = let c = r.completes ts f in record { more = c.more; value = c.value ∷ []; is = λ rest. one_more (c.is rest) no_more }
    completes ts (past_part {rest = left} {x = x} i g) =
        let d = completes left g in
        record { more = d.more; value = x ∷ d.value; is = λ rest. one_more (r.extends ts left x i (d.more ++ rest)) (d.is rest) }

-- ---- words

pub words_rules : (texts : List (List ℕ)) → Rules (FrontWords texts) (Words texts)
unfolding word_token
words_rules texts = record { start = no_word_yet; splits = λ ts more rest x w. splits texts ts more rest w; extends = λ ts rest x w more. extends w more; completes = λ ts f. completes texts ts f }
  where
    splits : (texts : List (List ℕ)) (ts more rest : List Token) → AreWords texts (ts ++ more) rest → Split (FrontWords texts) (Words texts) ts more rest tt
    splits [] ts more rest (no_word) = within ts refl no_word
    splits (text ∷ texts) [] more rest w = short no_word_yet
    splits (text ∷ texts) (t ∷ ts) more rest (next_word k e w) = go (splits texts ts more rest w)
      where
        go : Split (FrontWords texts) (Words texts) ts more rest tt → Split (FrontWords (text ∷ texts)) (Words (text ∷ texts)) (t ∷ ts) more rest tt
        go (short f) = short (past_word k e f)
        go (within left same v) = within left same (next_word k e v)

    extends : {texts : List (List ℕ)} {ts rest : List Token} → AreWords texts ts rest → (more : List Token) → AreWords texts (ts ++ more) (rest ++ more)
    extends (no_word) more = no_word
    extends (next_word k e w) more = next_word k e (extends w more)

    there : (texts : List (List ℕ)) (rest : List Token) → AreWords texts (map word_token texts ++ rest) rest
    there [] rest = no_word
    there (text ∷ texts) rest = next_word (λ h. absurd cc) refl (there texts rest)

    completes : (texts : List (List ℕ)) (ts : List Token) → FrontWords texts ts → Completion (Words texts) ts
    completes texts ts (no_word_yet) = record { more = map word_token texts; value = tt; is = λ rest. there texts rest }
    completes (text ∷ texts) (t ∷ ts) (past_word k e f) = let c = completes texts ts f in record { more = c.more; value = tt; is = λ rest. next_word k e (c.is rest) }

-- ---- parts of one token

pub record IsOneToken {A : Type 0} (Is : List Token → List Token → A → Type 0) : Type 0 where
  pub head : (ts rest : List Token) (x : A) → Is ts rest x → (t : Token) × (ts ≡ t ∷ rest)
  pub anywhere : (t : Token) (rest other : List Token) (x : A) → Is (t ∷ rest) rest x → Is (t ∷ other) other x
  pub token : Token
  pub value : A
  pub there : (rest : List Token) → Is (token ∷ rest) rest value

pub one_rules : {A : Type 0} {I : List Token → List Token → A → Type 0} → IsOneToken I → Rules (FrontOne I) I
one_rules {A = A} {I = I} o = record { start = none_yet; splits = splits; extends = extends; completes = completes }
  where
    tails : (t u : Token) (ts us : List Token) → ◌≡◌ {A = List Token} (t ∷ ts) (u ∷ us) → ts ≡ us
    tails t u ts us e = cc

    splits : (ts more rest : List Token) (x : A) → I (ts ++ more) rest x → Split (FrontOne I) I ts more rest x
    splits [] more rest x i = short none_yet
    splits (t ∷ ts) more rest x i =
        let (u, e) = o.head (t ∷ (ts ++ more)) rest x i in
        let same : ts ++ more ≡ rest = tails t u (ts ++ more) rest e in
        within ts (sym same) (o.anywhere t rest ts x (subst (λ z. I (t ∷ z) rest x) same i))

    extends : (ts rest : List Token) (x : A) → I ts rest x → (more : List Token) → I (ts ++ more) (rest ++ more) x
    extends ts rest x i more =
        let (u, e) = o.head ts rest x i in
        subst (λ z. I (z ++ more) (rest ++ more) x) (sym e) (o.anywhere u rest (rest ++ more) x (subst (λ z. I z rest x) e i))

    completes : (ts : List Token) → FrontOne I ts → Completion I ts
    completes ts (none_yet) = record { more = o.token ∷ []; value = o.value; is = o.there }
    completes ts (one_there {x = x} i) = record { more = []; value = x; is = λ rest. extends ts [] x i rest }
