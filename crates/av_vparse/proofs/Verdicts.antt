-- How a reader of tokens ends: behind a spelling, or at the first token that no spelling has there.
use Rattle.std.proofs.Common.{◌≡◌, ◌≢◌, ◌<◌, Bool, true, false, true≢false, cond, List, [], ◌∷◌, ◌++◌, length, take, Result, Ok, Err, refl, sym, ap, subst, ◌∙◌, arith, append_assoc}
use Rattle.av_base.specs.declared.place.Place.{Place}
use Rattle.av_net.specs.declared.token_kind.DesignTokenKind.TheVariants as kind
use Rattle.av_net.specs.Lexemes.{Token}
use Rattle.av_vparse.specs.inner.Reading.{◌>>=◌}

-- ---- tokens up to an end

-- the end stands last, and nowhere else
pub data Ends : List Token → Type 0 where
  last : {t : Token} → t.kind ≡ kind.End → t.text ≡ [] → Ends (t ∷ [])
  before : {t : Token} {ts : List Token} → t.kind ≢ kind.End → Ends ts → Ends (t ∷ ts)

pub ends_some : {ts : List Token} → Ends ts → 0 < length ts
ends_some (last k e) = omega arith
ends_some (before k e) = omega arith

-- this function puts some tokens before others
pub record Puts (front : List Token → List Token) : Type 0 where
  pub tokens : List Token
  pub is : (k : List Token) → front k ≡ tokens ++ k

pub puts_none : Puts (λ k. k)
puts_none = record { tokens = []; is = λ k. refl }

pub puts_one : (t : Token) → Puts (λ k. t ∷ k)
puts_one t = record { tokens = t ∷ []; is = λ k. refl }

pub puts_both : {f g : List Token → List Token} → Puts f → Puts g → Puts (λ k. f (g k))
puts_both {f = f} {g = g} p q =
    record { tokens = p.tokens ++ q.tokens; is = λ k. p.is (g k) ∙ ap (λ z. p.tokens ++ z) (q.is k) ∙ sym (append_assoc p.tokens q.tokens k) }

-- the same token comes first, or none
abbrev pub Alike : List Token → List Token → Type 0
Alike a b = take 1 a ≡ take 1 b

pub alike_put : {f : List Token → List Token} (a b : List Token) → Puts f → Alike a b → Alike (f a) (f b)
alike_put {f = f} a b p h = ap (λ z. take 1 z) (p.is a) ∙ go p.tokens ∙ ap (λ z. take 1 z) (sym (p.is b))
  where
    go : (w : List Token) → take 1 (w ++ a) ≡ take 1 (w ++ b)
    go [] = h
    go (t ∷ w) = refl

-- what a reader wants of the tokens behind what it read: nothing where it is closed, else the first token of now
abbrev pub Looks : Bool → List Token → List Token → Type 0
Looks true a b = Unit {0}
Looks false a b = Alike a b

pub looks_alike : (closed : Bool) (a b : List Token) → Alike a b → Looks closed a b
looks_alike true a b h = tt
looks_alike false a b h = h

pub looks_same : (closed : Bool) (a : List Token) → Looks closed a a
looks_same true a = tt
looks_same false a = refl

-- ---- verdicts

-- behind these tokens some others make a spelling
pub record Completes {A : Type 0} (Is : List Token → List Token → A → Type 0) (front : List Token → List Token) : Type 0 where
  pub back : List Token → List Token
  pub value : A
  pub spells : (k : List Token) → Is (front (back k)) k value

-- the reader read a spelling, or stopped at the first token with which none goes on
pub data Verdict {A X : Type 0} (closed : Bool) (put : A → List Token → X) (Is : List Token → List Token → A → Type 0) (read : List Token → Result X Place) (ts : List Token) : Type 0 where
  past : (front : List Token → List Token) (rest : List Token) (x : A) → Puts front → ts ≡ front rest → Ends rest
      → ((a b : List Token) → Looks closed a b → Alike (front a) (front b))
      → ((k : List Token) → Looks closed rest k → read (front k) ≡ Ok (put x k)) → ((k : List Token) → Is (front k) k x) → Verdict closed put Is read ts
  stops : (front : List Token → List Token) (t : Token) (rest : List Token) → Puts front → ts ≡ front (t ∷ rest)
      → ((k : List Token) → read (front (t ∷ k)) ≡ Err t.place) → Completes Is front → Verdict closed put Is read ts

-- it does so with all tokens that end, and there is some spelling
pub record Reads {A X : Type 0} (closed : Bool) (put : A → List Token → X) (Is : List Token → List Token → A → Type 0) (read : List Token → Result X Place) : Type 0 where
  pub judged : (ts : List Token) → Ends ts → Verdict closed put Is read ts
  pub some : Completes Is (λ k. k)

-- a value with the tokens left, and the tokens left alone
abbrev pub pair : {A : Type 0} → A → List Token → A × List Token
pair x k = (x, k)

abbrev pub alone : Unit {0} → List Token → List Token
alone x k = k

-- ---- one token

module _ {A X : Type 0} {put : A → List Token → X} {Is : List Token → List Token → A → Type 0} {read : List Token → Result X Place} (fits : Token → Bool) (value : Token → A) where
  pub one_token : ((t : Token) → t.kind ≡ kind.End → t.text ≡ [] → fits t ≡ false) → ((t : Token) (k : List Token) → fits t ≡ true → read (t ∷ k) ≡ Ok (put (value t) k))
      → ((t : Token) (k : List Token) → fits t ≡ false → read (t ∷ k) ≡ Err t.place) → ((t : Token) (k : List Token) → fits t ≡ true → Is (t ∷ k) k (value t))
      → Completes Is (λ k. k) → Reads true put Is read
  one_token not_end gives refuses spells some = record { judged = judge; some = some }
    where
      judge : (ts : List Token) → Ends ts → Verdict true put Is read ts
      judge [] e = absurd (omega (arith, ends_some e))
      judge (t ∷ ts) e = go (fits t) refl
        where
          rest_ends : (ts : List Token) → Ends (t ∷ ts) → fits t ≡ true → Ends ts
          rest_ends ts (last k f) h = absurd (true≢false (sym h ∙ not_end t k f))
          rest_ends ts (before k f) h = f

          go : (b : Bool) → fits t ≡ b → Verdict true put Is read (t ∷ ts)
          go true h = past (λ k. t ∷ k) ts (value t) (puts_one t) refl (rest_ends ts e h) (λ a b l. refl) (λ k l. gives t k h) (λ k. spells t k h)
          go false h = stops (λ k. k) t ts puts_none refl (λ k. refuses t k h) some

-- ---- one reader behind another

pub data Follows {A B : Type 0} (First : List Token → List Token → A → Type 0) (Second : A → List Token → List Token → B → Type 0) (ts rest : List Token) (y : B) : Type 0 where
  follows : {mid : List Token} {x : A} → First ts mid x → Second x mid rest y → Follows First Second ts rest y

-- a reader, and one that goes on with what it read
pub then_reads : {A X B Y : Type 0} {c d : Bool} {put : A → List Token → X} {put_next : B → List Token → Y} {First : List Token → List Token → A → Type 0}
    {Second : A → List Token → List Token → B → Type 0} {read : List Token → Result X Place} (next : X → Result Y Place) → Reads c put First read
    → ((x : A) → Reads d put_next (Second x) (λ k. next (put x k))) → Reads d put_next (Follows First Second) (λ ts. read ts >>= next)
then_reads {A} {X} {B} {Y} {c} {d} {put} {put_next} {First} {Second} {read} next one two = record { judged = judge; some = whole (λ k. k) one.some }
  where
    -- what is completed is completed by a whole second part
    whole : (front : List Token → List Token) → Completes First front → Completes (Follows First Second) front
    whole front c =
        let more = (two c.value).some in
        record { back = λ k. c.back (more.back k); value = more.value; spells = λ k. follows (c.spells (more.back k)) (more.spells k) }

    judge : (ts : List Token) → Ends ts → Verdict d put_next (Follows First Second) (λ ts. read ts >>= next) ts
    judge ts e = go (one.judged ts e)
      where
        go : Verdict c put First read ts → Verdict d put_next (Follows First Second) (λ ts. read ts >>= next) ts
        go (stops front t rest p is again c) = stops front t rest p is (λ k. ap (λ z. z >>= next) (again k)) (whole front c)
        go (past front rest x p is ends sees again spells) = on ((two x).judged rest ends)
          where
            on : Verdict d put_next (Second x) (λ k. next (put x k)) rest → Verdict d put_next (Follows First Second) (λ ts. read ts >>= next) ts
            on (stops more t left q same stopped w) =
                stops (λ k. front (more k)) t left (puts_both p q) (is ∙ ap front same)
                (λ k. ap (λ z. z >>= next) (again (more (t ∷ k)) (looks_alike c rest (more (t ∷ k)) (subst (λ z. Alike z (more (t ∷ k))) (sym same) (alike_put (t ∷ left) (t ∷ k) q refl)))) ∙ stopped k)
                (record { back = w.back; value = w.value; spells = λ k. follows (spells (more (w.back k))) (w.spells k) })
            on (past more left y q same left_ends looks once says) =
                past (λ k. front (more k)) left y (puts_both p q) (is ∙ ap front same) left_ends (λ a b l. alike_put (more a) (more b) p (looks a b l))
                (λ k l. ap (λ z. z >>= next) (again (more k) (looks_alike c rest (more k) (subst (λ z. Alike z (more k)) (sym same) (looks left k l)))) ∙ once k l)
                (λ k. follows (spells (more k)) (says k))

-- ---- what was read, seen otherwise

pub data Mapped {A B : Type 0} (Is : List Token → List Token → A → Type 0) (f : A → B) (ts rest : List Token) : B → Type 0 where
  mapped : {x : A} → Is ts rest x → Mapped Is f ts rest (f x)

pub unmap : {A B : Type 0} {Is : List Token → List Token → A → Type 0} {f : A → B} {ts rest : List Token} {y : B} (Wanted : B → Type 0) → Mapped Is f ts rest y → ((x : A) → Is ts rest x → Wanted (f x)) → Wanted y
unmap Wanted (mapped {x = x} is) h = h x is

-- a reader, and what is made of it
pub map_reads : {A X B Y : Type 0} {c : Bool} {put : A → List Token → X} {put_next : B → List Token → Y} {Is : List Token → List Token → A → Type 0} {read : List Token → Result X Place}
    (next : X → Result Y Place) (f : A → B) → ((x : A) (k : List Token) → next (put x k) ≡ Ok (put_next (f x) k)) → Reads c put Is read
    → Reads c put_next (Mapped Is f) (λ ts. read ts >>= next)
map_reads {A} {X} {B} {Y} {c} {put} {put_next} {Is} {read} next f made one = record { judged = λ ts e. go ts (one.judged ts e); some = whole (λ k. k) one.some }
  where
    whole : (front : List Token → List Token) → Completes Is front → Completes (Mapped Is f) front
    whole front c = record { back = c.back; value = f c.value; spells = λ k. mapped (c.spells k) }

    go : (ts : List Token) → Verdict c put Is read ts → Verdict c put_next (Mapped Is f) (λ ts. read ts >>= next) ts
    go ts (stops front t rest p is again c) = stops front t rest p is (λ k. ap (λ z. z >>= next) (again k)) (whole front c)
    go ts (past front rest x p is ends sees again spells) =
        past front rest (f x) p is ends sees (λ k l. ap (λ z. z >>= next) (again k l) ∙ made x k) (λ k. mapped (spells k))

-- the same spellings in another form
pub verdict_as : {A X : Type 0} {c : Bool} {put : A → List Token → X} {Is Other : List Token → List Token → A → Type 0} {read : List Token → Result X Place} {ts : List Token}
    → ((ts rest : List Token) (x : A) → Is ts rest x → Other ts rest x) → Verdict c put Is read ts → Verdict c put Other read ts
verdict_as h (stops front t rest p is again c) = stops front t rest p is again (record { back = c.back; value = c.value; spells = λ k. h _ _ _ (c.spells k) })
verdict_as h (past front rest x p is ends sees again spells) = past front rest x p is ends sees again (λ k. h _ _ _ (spells k))

pub reads_as : {A X : Type 0} {c : Bool} {put : A → List Token → X} {Is Other : List Token → List Token → A → Type 0} {read : List Token → Result X Place}
    → ((ts rest : List Token) (x : A) → Is ts rest x → Other ts rest x) → Reads c put Is read → Reads c put Other read
reads_as h r = record { judged = λ ts e. verdict_as h (r.judged ts e); some = record { back = r.some.back; value = r.some.value; spells = λ k. h _ _ _ (r.some.spells k) } }

-- the same reader in another form
pub verdict_of : {A X : Type 0} {c : Bool} {put : A → List Token → X} {Is : List Token → List Token → A → Type 0} {read other : List Token → Result X Place} {ts : List Token}
    → ((ts : List Token) → other ts ≡ read ts) → Verdict c put Is read ts → Verdict c put Is other ts
verdict_of h (stops front t rest p is again c) = stops front t rest p is (λ k. h (front (t ∷ k)) ∙ again k) c
verdict_of h (past front rest x p is ends sees again spells) = past front rest x p is ends sees (λ k l. h (front k) ∙ again k l) spells

-- a closed reader wants no more where the next token is as now
pub opened : {A X : Type 0} {put : A → List Token → X} {Is : List Token → List Token → A → Type 0} {read : List Token → Result X Place} {ts : List Token} → Verdict true put Is read ts → Verdict false put Is read ts
opened (stops front t rest p is again c) = stops front t rest p is again c
opened (past front rest x p is ends sees again spells) = past front rest x p is ends (λ a b l. sees a b tt) (λ k l. again k tt) spells

-- ---- choices by the next token

module _ {A X : Type 0} {c : Bool} {put : A → List Token → X} {Is : List Token → List Token → A → Type 0} (one other : List Token → Result X Place) {ts : List Token}
    (test : List Token → Bool) (alike : (a b : List Token) → Alike a b → test a ≡ test b) where
  pub when_true : test ts ≡ true → Verdict c put Is one ts → Verdict c put Is (λ ts. cond (test ts) (one ts) (other ts)) ts
  when_true h (stops front t rest p is again c) =
      stops front t rest p is
      (λ k. let b : test (front (t ∷ k)) ≡ true = alike (front (t ∷ k)) (front (t ∷ rest)) (alike_put (t ∷ k) (t ∷ rest) p refl) ∙ ap test (sym is) ∙ h in ap (λ z. cond z (one (front (t ∷ k))) (other (front (t ∷ k)))) b ∙ again k) c
  when_true h (past front rest x p is ends sees again spells) =
      past front rest x p is ends sees
      (λ k l. let b : test (front k) ≡ true = sym (alike (front rest) (front k) (sees rest k l)) ∙ ap test (sym is) ∙ h in ap (λ z. cond z (one (front k)) (other (front k))) b ∙ again k l) spells

  pub when_false : test ts ≡ false → Verdict c put Is other ts → Verdict c put Is (λ ts. cond (test ts) (one ts) (other ts)) ts
  when_false h (stops front t rest p is again c) =
      stops front t rest p is
      (λ k. let b : test (front (t ∷ k)) ≡ false = alike (front (t ∷ k)) (front (t ∷ rest)) (alike_put (t ∷ k) (t ∷ rest) p refl) ∙ ap test (sym is) ∙ h in ap (λ z. cond z (one (front (t ∷ k))) (other (front (t ∷ k)))) b ∙ again k) c
  when_false h (past front rest x p is ends sees again spells) =
      past front rest x p is ends sees
      (λ k l. let b : test (front k) ≡ false = sym (alike (front rest) (front k) (sees rest k l)) ∙ ap test (sym is) ∙ h in ap (λ z. cond z (one (front k)) (other (front k))) b ∙ again k l) spells

-- behind a token, with which the whole reader goes on as this one does
pub behind : {A X : Type 0} {c : Bool} {put : A → List Token → X} {Is Whole : List Token → List Token → A → Type 0} {read : List Token → Result X Place} {ts : List Token} (t : Token)
    (whole : List Token → Result X Place) → ((k : List Token) → whole (t ∷ k) ≡ read k) → ((ts rest : List Token) (x : A) → Is ts rest x → Whole (t ∷ ts) rest x)
    → Verdict c put Is read ts → Verdict c put Whole whole (t ∷ ts)
behind t whole same h (stops front u rest p is again c) =
    stops (λ k. t ∷ front k) u rest (puts_both (puts_one t) p) (ap (λ (z : List Token). t ∷ z) is) (λ k. same (front (u ∷ k)) ∙ again k)
    (record { back = c.back; value = c.value; spells = λ k. h _ _ _ (c.spells k) })
behind t whole same h (past front rest x p is ends sees again spells) =
    past (λ k. t ∷ front k) rest x (puts_both (puts_one t) p) (ap (λ (z : List Token). t ∷ z) is) ends (λ a b l. refl) (λ k l. same (front k) ∙ again k l) (λ k. h _ _ _ (spells k))

-- a token that is not the end leaves tokens that end
pub left_ends : (t : Token) (ts : List Token) → Ends (t ∷ ts) → (t.kind ≡ kind.End → t.text ≡ [] → ⊥) → Ends ts
left_ends t ts (last k f) h = absurd (h k f)
left_ends t ts (before k f) h = f
