-- Steps of reading, and what each reads of single tokens.
use Rattle.std.proofs.Common.{◌≡◌, ℕ, ◌^◌, ◌<◌, ◌≤◌, ◌≢◌, Bool, true, false, cond, not, true≢false, List, [], ◌∷◌, ◌++◌, length, take, drop, Some, None, Result, Ok, Err, refl, sym, ap, subst, ◌∙◌, arith}
use Rattle.std.specs.Prelude.{◌&&◌, nat_eq, nat_lt, nat_le, codes}
use Rattle.std.specs.List.{prefix_len, AllByRecursion}
use Rattle.std.specs.Char.{is_ascii_digit}
use Rattle.std.specs.Str.{bytes_eq}
use Rattle.std.proofs.lemmas.Bool.{eqb-true, eq-eqb, ltb-true, lt-ltb, leb-true, le-leb}
use Rattle.std.proofs.lemmas.List.{take-append-drop}
use Rattle.std.proofs.Math.Seq.{take-append_seam, drop-append_seam}
use Rattle.std.proofs.lemmas.Slice.Eq.{bytes_eq-Decides}
use Rattle.av_base.specs.declared.place.Place.{Place}
use Rattle.av_base.specs.declared.width.Width.{Width}
use Rattle.av_base.specs.Tokens.{IsDigits, number_of}
use Rattle.av_net.specs.declared.token_kind.DesignTokenKind.{DesignTokenKind}
use Rattle.av_net.specs.declared.token_kind.DesignTokenKind.TheVariants as kind
use Rattle.av_net.specs.Lexemes.{Token, IsSized}
use Rattle.av_net.specs.Grammar.{AreWords, no_word, next_word, IsWordAt, IsNameAt, name, IsNumberAt, number, IsLiteral, IsLiteralAt, literal, IsEnd, end}
use Rattle.av_vparse.specs.inner.Bits.{is_width, width_of}
use Rattle.av_vparse.specs.inner.Reading.{◌>>=◌, code, same, after, is_word, is_at, word_at, words_at, name_at, is_between, number_at, size_digits, value_digits, begins_base, is_sized, fits_in, is_literal, Sized, sized_in, literal_in, literal_by, literal_at, end_at, this_name_at}
use Rattle.av_vparse.specs.Digits.{are_digits}
use Rattle.av_vparse.proofs.Longest.{run_stops, digits_all, digits_some, first_digits}
use Rattle.av_vparse.proofs.BitsOf.{bits_of, is_width_of, fits_width}
use Rattle.av_base.proofs.Truths.{both}

-- ---- steps

-- what follows from the two halves of a step that did not fail
pub step : {A B G : Type 0} (r : Result A Place) (f : A → Result B Place) (y : B) → (r >>= f) ≡ Ok y → ((x : A) → r ≡ Ok x → f x ≡ Ok y → G) → G
step (Ok x) f y e go = go x refl e
step (Err p) f y e go = absurd cc

-- what follows from a test that was passed
pub passed : {A : Type 0} (b : Bool) (x : Result A Place) (p : Place) (y : A) → cond b x (Err p) ≡ Ok y → (b ≡ true) × (x ≡ Ok y)
passed true x p y e = (refl, e)
passed false x p y e = absurd cc

-- which way a test went
pub chosen : {A G : Type 0} (b : Bool) (x y z : A) → cond b x y ≡ z → (b ≡ true → x ≡ z → G) → (b ≡ false → y ≡ z → G) → G
chosen true x y z e yes_is no_is = yes_is refl e
chosen false x y z e yes_is no_is = no_is refl e

pub ok_is : {A : Type 0} (x y : A) → ◌≡◌ {A = Result A Place} (Ok x) (Ok y) → x ≡ y
ok_is x y e = cc

-- ---- kinds

kind_of : ℕ → DesignTokenKind
kind_of n =
    cond (nat_eq n 0) kind.Name (cond (nat_eq n 1) kind.Reserved (cond (nat_eq n 2) kind.System (cond (nat_eq n 3) kind.Number (cond (nat_eq n 4) kind.Literal (cond (nat_eq n 5) kind.Symbol kind.End)))))

kind_of-code : (k : DesignTokenKind) → kind_of (code k) ≡ k
unfolding kind_of
kind_of-code kind.Name = refl
kind_of-code kind.Reserved = refl
kind_of-code kind.System = refl
kind_of-code kind.Number = refl
kind_of-code kind.Literal = refl
kind_of-code kind.Symbol = refl
kind_of-code kind.End = refl

pub same_is : (a b : DesignTokenKind) → same a b ≡ true → a ≡ b
same_is a b e = sym (kind_of-code a) ∙ (ap kind_of (eqb-true (code a) (code b) e) ∙ kind_of-code b)

pub same_self : (a b : DesignTokenKind) → a ≡ b → same a b ≡ true
same_self a b e = eq-eqb (code a) (code b) (ap code e)

pub text_is : (t u : List ℕ) → bytes_eq t u ≡ true → t ≡ u
text_is t u e = (bytes_eq-Decides t u).0 e

pub is_text : (t u : List ℕ) → t ≡ u → bytes_eq t u ≡ true
is_text t u e = (bytes_eq-Decides t u).1 e

pub other_than : (k : DesignTokenKind) → same k kind.Name ≡ false → k ≢ kind.Name
other_than k e n = absurd (true≢false (sym (same_self k kind.Name n) ∙ e))

-- ---- words

pub other_kind : (k : DesignTokenKind) → not (same k kind.Name) ≡ true → k ≢ kind.Name
other_kind k e n = let z : same k kind.Name ≡ true = same_self k kind.Name n in absurd (true≢false (sym e ∙ ap not z))

pub kind_other : (k : DesignTokenKind) → k ≢ kind.Name → not (same k kind.Name) ≡ true
kind_other k n = go (same k kind.Name) refl
  where
    go : (t : Bool) → same k kind.Name ≡ t → not t ≡ true
    go true e = absurd (n (same_is k kind.Name e))
    go false e = refl

pub not_name : (k : DesignTokenKind) → k ≢ kind.Name → same k kind.Name ≡ false
not_name k n = go (same k kind.Name) refl
  where
    go : (t : Bool) → same k kind.Name ≡ t → t ≡ false
    go true e = absurd (n (same_is k kind.Name e))
    go false e = refl

pub word_is : (text : List ℕ) (t : Token) → t.kind ≢ kind.Name → t.text ≡ text → is_word text t ≡ true
word_is text t k e = rw (kind_other t.kind k) (is_text t.text text e)

pub word_took : (text : List ℕ) (ts rest : List Token) → word_at text ts ≡ Ok rest → IsWordAt text ts rest
unfolding word_at
word_took text [] rest e = absurd cc
word_took text (t ∷ ts) rest e =
    let p = passed (is_word text t) (Ok ts) t.place rest e in
    let b = both (not (same t.kind kind.Name)) (bytes_eq t.text text) p.0 in
    subst (λ z. IsWordAt text (t ∷ ts) z) (ok_is ts rest p.1) (next_word (other_kind t.kind b.0) (text_is t.text text b.1) no_word)

pub at_word : (text : List ℕ) (ts : List Token) → is_at text ts ≡ true → IsWordAt text ts (after ts)
at_word text [] e = absurd cc
at_word text (t ∷ ts) e =
    let b = both (not (same t.kind kind.Name)) (bytes_eq t.text text) e in
    next_word (other_kind t.kind b.0) (text_is t.text text b.1) no_word

pub words_took : (texts : List (List ℕ)) (ts rest : List Token) → words_at texts ts ≡ Ok rest → AreWords texts ts rest
words_took [] ts rest e = subst (λ z. AreWords [] ts z) (ok_is ts rest e) no_word
words_took (text ∷ texts) ts rest e =
    step (word_at text ts) (λ a. words_at texts a) rest e (λ a e1 e2. longer (word_took text ts a e1) (words_took texts a rest e2))
  where
    longer : {ts a : List Token} → IsWordAt text ts a → AreWords texts a rest → AreWords (text ∷ texts) ts rest
    longer (next_word k h (no_word)) more_words = next_word k h more_words

pub word_gives : {text : List ℕ} {ts rest : List Token} → IsWordAt text ts rest → word_at text ts ≡ Ok rest
unfolding word_at
word_gives (next_word {text = text} {t = t} k h (no_word)) = rw (word_is text t k h) refl

pub words_give : {texts : List (List ℕ)} {ts rest : List Token} → AreWords texts ts rest → words_at texts ts ≡ Ok rest
unfolding word_at
words_give no_word = refl
words_give (next_word {text = text} {t = t} k h words) = rw (word_is text t k h) (words_give words)

-- where one word stands, no other one does
pub word_there : {text : List ℕ} {ts rest : List Token} → IsWordAt text ts rest → (is_at text ts ≡ true) × (after ts ≡ rest)
word_there (next_word {text = text} {t = t} k h (no_word)) = (word_is text t k h, refl)

pub other_there : {text : List ℕ} {texts : List (List ℕ)} {ts rest : List Token} → AreWords (text ∷ texts) ts rest → (other : List ℕ) → bytes_eq text other ≡ false → is_at other ts ≡ false
other_there (next_word {text = text} {t = t} k h words) other e = rw (kind_other t.kind k, h) e

-- ---- names and numbers

pub name_took : (ts : List Token) (y : List ℕ × List Token) → name_at ts ≡ Ok y → IsNameAt ts y.1 y.0
unfolding name_at
name_took [] y e = absurd cc
name_took (t ∷ ts) y e =
    let p = passed (same t.kind kind.Name) (Ok (t.text, ts)) t.place y e in
    let found : List ℕ × List Token = (t.text, ts) in
    subst (λ (z : List ℕ × List Token). IsNameAt (t ∷ ts) z.1 z.0) (ok_is found y p.1) (name (same_is t.kind kind.Name p.0) refl)

pub name_gives : {ts rest : List Token} {text : List ℕ} → IsNameAt ts rest text → name_at ts ≡ Ok (text, rest)
unfolding name_at
name_gives (name {t = t} k e) = rw (same_self t.kind kind.Name k, e) refl

pub this_name_took : (text : List ℕ) (ts rest : List Token) → this_name_at text ts ≡ Ok rest → IsNameAt ts rest text
unfolding this_name_at
this_name_took text [] rest e = absurd cc
this_name_took text (t ∷ ts) rest e =
    let p = passed (same t.kind kind.Name && bytes_eq t.text text) (Ok ts) t.place rest e in
    let b = both (same t.kind kind.Name) (bytes_eq t.text text) p.0 in
    subst (λ z. IsNameAt (t ∷ ts) z text) (ok_is ts rest p.1) (name (same_is t.kind kind.Name b.0) (text_is t.text text b.1))

pub this_name_gives : {ts rest : List Token} {text : List ℕ} → IsNameAt ts rest text → this_name_at text ts ≡ Ok rest
unfolding this_name_at
this_name_gives (name {t = t} {text = text} k e) = rw (same_self t.kind kind.Name k, is_text t.text text e) refl

pub number_took : (least most : ℕ) (ts : List Token) (y : ℕ × List Token) → number_at least most ts ≡ Ok y → IsNumberAt ts y.1 y.0 × (least ≤ y.0) × (y.0 ≤ most)
unfolding number_at
number_took least most [] y e = absurd cc
number_took least most (t ∷ ts) y e =
    let p = passed (same t.kind kind.Number && is_between least most (number_of t.text)) (Ok (number_of t.text, ts)) t.place y e in
    let b = both (same t.kind kind.Number) (is_between least most (number_of t.text)) p.0 in
    let c = both (nat_le least (number_of t.text)) (nat_le (number_of t.text) most) b.1 in
    let found : ℕ × List Token = (number_of t.text, ts) in
    subst (λ (z : ℕ × List Token). IsNumberAt (t ∷ ts) z.1 z.0 × (least ≤ z.0) × (z.0 ≤ most)) (ok_is found y p.1)
    (number (same_is t.kind kind.Number b.0) refl, leb-true least (number_of t.text) c.0, leb-true (number_of t.text) most c.1)

pub number_gives : {ts rest : List Token} {n : ℕ} → IsNumberAt ts rest n → (least most : ℕ) → least ≤ n → n ≤ most → number_at least most ts ≡ Ok (n, rest)
unfolding number_at
number_gives (number {t = t} {n = n} k e) least most g h = rw (same_self t.kind kind.Number k, e, le-leb least n g, le-leb n most h) refl

-- ---- literals

base_is : (text : List ℕ) → begins_base text ≡ true → text ≡ codes "'d" ++ drop 2 text
base_is [] h = absurd cc
base_is (b ∷ []) h = absurd cc
base_is (b ∷ c ∷ text) h =
    let z = both (nat_eq b 39) (nat_eq c 100) h in
    let eb : b ≡ 39 = eqb-true b 39 z.0 in
    let ec : c ≡ 100 = eqb-true c 100 z.1 in
    rw (eb, ec) refl

all_digits : (text : List ℕ) → are_digits text ≡ true → IsDigits text
all_digits text h =
    let z = both (nat_lt 0 (length text)) (nat_eq (prefix_len is_ascii_digit text) (length text)) h in
    let n-is : prefix_len is_ascii_digit text ≡ length text = eqb-true _ _ z.1 in
    let some : 0 < length text = ltb-true _ _ z.0 in
    subst (λ z. IsDigits z) (ap (λ n. take n text) n-is ∙ take_whole text) (first_digits text (rw n-is some))
  where
    take_whole : (text : List ℕ) → take (length text) text ≡ text
    take_whole [] = refl
    take_whole (b ∷ text) = ap (λ (z : List ℕ). b ∷ z) (take_whole text)

sized_is : (text : List ℕ) → is_sized text ≡ true → IsSized text
sized_is text h =
    let n : ℕ = prefix_len is_ascii_digit text in
    let z = both (nat_lt 0 n) (begins_base (drop n text) && are_digits (value_digits text)) h in
    let y = both (begins_base (drop n text)) (are_digits (value_digits text)) z.1 in
    record {
      size = size_digits text;
      digits = value_digits text;
      spelled = sym (take-append-drop n text) ∙ ap (λ z. take n text ++ z) (base_is (drop n text) y.0);
      sized = first_digits text (ltb-true 0 n z.0);
      valued = all_digits (value_digits text) y.1;
    }

literal_is : (text : List ℕ) → is_literal text ≡ true → IsLiteral text (width_of (number_of (size_digits text))) (number_of (value_digits text))
unfolding sized_is
literal_is text h =
    let s : ℕ = number_of (size_digits text) in
    let v : ℕ = number_of (value_digits text) in
    let z = both (is_sized text) (fits_in s v) h in
    let y = both (is_width s) (nat_lt v (2 ^ s)) z.1 in
    let w = both (nat_le 1 s) (nat_le s 64) y.0 in
    let bits : (width_of s).bits ≡ s = bits_of s y.0 in
    record {
      sized = sized_is text z.0;
      is_width = sym bits;
      is_value = refl;
      least = rw bits (leb-true 1 s w.0);
      most = rw bits (leb-true s 64 w.1);
      fits = rw bits (ltb-true v (2 ^ s) y.1);
    }

pub literal_took : (ts : List Token) (y : Sized × List Token) → literal_at ts ≡ Ok y → IsLiteralAt ts y.1 y.0.width y.0.value
unfolding literal_at literal_by
literal_took [] y e = absurd cc
literal_took (t ∷ ts) y e =
    let p = passed (same t.kind kind.Literal) (literal_by (literal_in t.text) t ts) t.place y e in
    go (is_literal t.text) refl (same_is t.kind kind.Literal p.0) p.1
  where
    go : (b : Bool) → is_literal t.text ≡ b → t.kind ≡ kind.Literal → literal_by (cond b (Some (sized_in t.text)) None) t ts ≡ Ok y → IsLiteralAt (t ∷ ts) y.1 y.0.width y.0.value
    go true h k r =
        let found : Sized × List Token = (sized_in t.text, ts) in
        subst (λ (z : Sized × List Token). IsLiteralAt (t ∷ ts) z.1 z.0.width z.0.value) (ok_is found y r) (literal k (literal_is t.text h))
    go false h k r = absurd cc

-- the digits of a literal, on both sides of 'd
module _ (size digits : List ℕ) (s : IsDigits size) (d : IsDigits digits) where
  run : prefix_len is_ascii_digit (size ++ (39 ∷ 100 ∷ digits)) ≡ length size
  run = run_stops size 39 (100 ∷ digits) (digits_all size s) refl

  rest_is : drop (prefix_len is_ascii_digit (size ++ (39 ∷ 100 ∷ digits))) (size ++ (39 ∷ 100 ∷ digits)) ≡ 39 ∷ 100 ∷ digits
  rest_is = ap (λ n. drop n (size ++ (39 ∷ 100 ∷ digits))) run ∙ drop-append_seam size (39 ∷ 100 ∷ digits)

  size_is : size_digits (size ++ (39 ∷ 100 ∷ digits)) ≡ size
  size_is = ap (λ n. take n (size ++ (39 ∷ 100 ∷ digits))) run ∙ take-append_seam size (39 ∷ 100 ∷ digits)

  value_is : value_digits (size ++ (39 ∷ 100 ∷ digits)) ≡ digits
  value_is = ap (λ z. drop 2 z) rest_is

  are_all : are_digits digits ≡ true
  are_all =
      let all : prefix_len is_ascii_digit digits ≡ length digits = whole digits (digits_all digits d) in
      rw (lt-ltb 0 (length digits) (digits_some digits d)) (eq-eqb _ _ all)
    where
      whole : (text : List ℕ) → AllByRecursion (λ x. is_ascii_digit x ≡ true) text → prefix_len is_ascii_digit text ≡ length text
      whole [] h = refl
      whole (b ∷ text) h = rw (h.0, whole text h.1) (omega arith)

  is_sized_so : is_sized (size ++ (39 ∷ 100 ∷ digits)) ≡ true
  is_sized_so =
      let some : nat_lt 0 (prefix_len is_ascii_digit (size ++ (39 ∷ 100 ∷ digits))) ≡ true = rw run (lt-ltb 0 (length size) (digits_some size s)) in
      rw (some, rest_is) are_all

pub literal_gives : {ts rest : List Token} {width : Width} {value : ℕ} → IsLiteralAt ts rest width value → literal_at ts ≡ Ok (record { width = width; value = value }, rest)
unfolding literal_at literal_by
literal_gives (literal {t = t} {ts = ts} {width = width} {value = value} k l) =
    let s = l.sized.size in
    let d = l.sized.digits in
    let text : t.text ≡ s ++ (39 ∷ 100 ∷ d) = l.sized.spelled in
    let size : size_digits t.text ≡ s = ap size_digits text ∙ size_is s d l.sized.sized l.sized.valued in
    let digits : value_digits t.text ≡ d = ap value_digits text ∙ value_is s d l.sized.sized l.sized.valued in
    let sized : is_sized t.text ≡ true = ap is_sized text ∙ is_sized_so s d l.sized.sized l.sized.valued in
    let n : number_of (size_digits t.text) ≡ width.bits = ap number_of size ∙ l.is_width in
    let v : number_of (value_digits t.text) ≡ value = ap number_of digits ∙ l.is_value in
    let fits : fits_in (number_of (size_digits t.text)) (number_of (value_digits t.text)) ≡ true = rw (n, v, fits_width width) (lt-ltb value (2 ^ width.bits) l.fits) in
    rw (same_self t.kind kind.Literal k, sized, fits, v, sym (is_width_of width (number_of (size_digits t.text)) (sym n))) refl

-- ---- the end

pub end_took : (ts : List Token) (y : Unit {0}) → end_at ts ≡ Ok y → IsEnd ts
unfolding end_at
end_took [] y e = absurd cc
end_took (t ∷ []) y e = let p = passed (same t.kind kind.End) (Ok tt) t.place y e in end (same_is t.kind kind.End p.0)
end_took (t ∷ u ∷ ts) y e = absurd cc

pub end_gives : {ts : List Token} → IsEnd ts → end_at ts ≡ Ok tt
unfolding end_at
end_gives (end {t = t} k) = rw (same_self t.kind kind.End k) refl
