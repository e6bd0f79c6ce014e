-- The token that is found at the front of a text is the longest one, whatever the language is.
use Rattle.std.proofs.Common.{◌≡◌, ℕ, suc, ◌<◌, ◌≤◌, Bool, true, false, cond, List, [], ◌∷◌, ◌++◌, length, take, drop, refl, sym, ap, subst, ◌∙◌, arith}
use Rattle.std.specs.Prelude.{All}
use Rattle.std.specs.List.{prefix_len, AllByRecursion}
use Rattle.std.proofs.Math.Numerals.{one-add}
use Rattle.std.proofs.Math.Seq.{take-append_seam}
use Rattle.std.proofs.lemmas.List.{length-take, take-append-drop}
use Rattle.std.proofs.lemmas.List.Elements.{All-from_recursion, recursion_from_All}
use Rattle.std.proofs.lemmas.List.Sums.{prefix_len-le-length}
use Rattle.av_base.specs.declared.lexeme.Lexeme.{Lexeme}
use Rattle.av_base.specs.declared.lexeme.Lexeme.TheVariants as piece
use Rattle.av_base.specs.Lexicon.{Lexicon, IsLongest, BeginsNone, is_blank}
use Rattle.av_base.specs.Reading.{Scanner}
use Rattle.av_base.proofs.Runs.{run_covers, run_all}

-- ---- what a scanner shows of its lexicon

-- what is spelled is covered by the token that is found
pub record Covers {Kind : Type 0} (k : Kind) (len : ℕ) (found : Lexeme Kind) : Type 0 where
  pub kind : Kind
  pub len' : ℕ
  pub is : found ≡ piece.Token kind len'
  pub no_less : len ≤ len'
  pub same : len ≡ len' → k ≡ kind

-- so many bytes are a token of this kind
pub record Fits {Kind : Type 0} (lexicon : Lexicon Kind) (k : Kind) (n : ℕ) (bytes : List ℕ) : Type 0 where
  pub spelled : lexicon.IsSpelled k (take n bytes)
  pub some : 0 < n
  pub within : n ≤ length bytes

abbrev pub IsNoGap : {Kind : Type 0} → Lexeme Kind → Type 0
IsNoGap (piece.Gap n) = ⊥
IsNoGap _ = Unit {0}

-- a scanner finds the tokens of a lexicon
pub record Finds {Kind Fault : Type 0} (lexicon : Lexicon Kind) (scanner : Scanner Kind Fault) : Type 0 where
  pub covers : (k : Kind) (front back : List ℕ) → lexicon.IsSpelled k front → (b : ℕ) (bytes : List ℕ) → front ++ back ≡ b ∷ bytes → Covers k (length front) (scanner.token_of b (front ++ back))
  pub fits : (b : ℕ) (bytes : List ℕ) (k : Kind) (n : ℕ) → scanner.token_of b (b ∷ bytes) ≡ piece.Token k n → Fits lexicon k n (b ∷ bytes)
  pub no_gap : (b : ℕ) (text : List ℕ) → IsNoGap (scanner.token_of b text)
  pub some : (k : Kind) → lexicon.IsSpelled k [] → ⊥
  pub ranged : (k : Kind) (text : List ℕ) → scanner.in_range k text ≡ true → lexicon.IsInRange k text
  pub in_range : (k : Kind) (text : List ℕ) → lexicon.IsInRange k text → scanner.in_range k text ≡ true
  -- a blank begins no token and no comment
  pub at_blank : (b : ℕ) (bytes : List ℕ) → is_blank b ≡ true → scanner.token_of b (b ∷ bytes) ≡ piece.Bad
  pub no_blank : is_blank lexicon.mark ≡ false

-- ---- what its parts show

-- a run of bytes is covered by the token of all bytes that go on so
run_covered : {Kind : Type 0} (kind_of : List ℕ → Kind) (p : ℕ → Bool) (k : Kind) (front back : List ℕ) (found : Lexeme Kind)
    → AllByRecursion (λ x. p x ≡ true) front → kind_of front ≡ k → found ≡ piece.Token (kind_of (take (prefix_len p (front ++ back)) (front ++ back))) (prefix_len p (front ++ back)) → Covers k (length front) found
run_covered kind_of p k front back found all w e = record {
  kind = kind_of (take (prefix_len p (front ++ back)) (front ++ back));
  len' = prefix_len p (front ++ back);
  is = e;
  no_less = run_covers p front back all;
  same = λ h. sym (ap kind_of (ap (λ z. take z (front ++ back)) (sym h) ∙ take-append_seam front back) ∙ w);
}

-- the same of a run that is told by its first byte
pub run_token_covers : {Kind : Type 0} (kind_of : List ℕ → Kind) (is_first p : ℕ → Bool) (token_of : ℕ → List ℕ → Lexeme Kind) → ((b : ℕ) → is_first b ≡ true → p b ≡ true)
    → ((b : ℕ) (text : List ℕ) → is_first b ≡ true → token_of b text ≡ piece.Token (kind_of (take (prefix_len p text) text)) (prefix_len p text))
    → (k : Kind) (x : ℕ) (front back : List ℕ) → is_first x ≡ true → All (λ x. p x ≡ true) front → kind_of (x ∷ front) ≡ k → (b : ℕ) (bytes : List ℕ) → x ∷ front ++ back ≡ b ∷ bytes
    → Covers k (length (x ∷ front)) (token_of b (x ∷ front ++ back))
run_token_covers kind_of is_first p token_of goes_on at_first k x front back first all w b bytes e =
    let head : x ≡ b = cc in
    let run : AllByRecursion (λ x. p x ≡ true) (x ∷ front) = (goes_on x first, recursion_from_All (λ x. p x ≡ true) front all) in
    subst (λ z. Covers k (length (x ∷ front)) (token_of z (x ∷ front ++ back))) head
    (run_covered kind_of p k (x ∷ front) back (token_of x (x ∷ front ++ back)) run w (at_first x (x ∷ front ++ back) first))

-- the run that is found is a token where all runs from its first byte are
pub run_fits : {Kind : Type 0} (lexicon : Lexicon Kind) (kind_of : List ℕ → Kind) (p : ℕ → Bool) (b : ℕ) (bytes : List ℕ) → p b ≡ true
    → ((run : List ℕ) → All (λ x. p x ≡ true) run → lexicon.IsSpelled (kind_of (b ∷ run)) (b ∷ run))
    → Fits lexicon (kind_of (take (prefix_len p (b ∷ bytes)) (b ∷ bytes))) (prefix_len p (b ∷ bytes)) (b ∷ bytes)
run_fits lexicon kind_of p b bytes first spelled =
    let len : prefix_len p (b ∷ bytes) ≡ suc (prefix_len p bytes) = rw first (one-add _) in
    let within = prefix_len-le-length p (b ∷ bytes) in
    let run : List ℕ = take (prefix_len p bytes) bytes in
    rw len (record { spelled = spelled run (All-from_recursion (λ x. p x ≡ true) run (run_all p bytes)); some = omega arith; within = omega (arith, len) })

pub fits_as : {Kind : Type 0} (lexicon : Lexicon Kind) (k l : Kind) (m n : ℕ) (bytes : List ℕ) → piece.Token l m ≡ piece.Token k n → Fits lexicon l m bytes → Fits lexicon k n bytes
fits_as lexicon k l m n bytes e f =
    let ek : l ≡ k = cc in
    let en : m ≡ n = cc in
    subst (λ z. Fits lexicon z n bytes) ek (subst (λ z. Fits lexicon l z bytes) en f)

pub no_gap_either : {Kind : Type 0} (t : Bool) (x y : Lexeme Kind) → IsNoGap x → IsNoGap y → IsNoGap (cond t x y)
no_gap_either true x y h k = h
no_gap_either false x y h k = k

-- ---- the longest token

-- the longest token at the front has so many bytes
pub record Found {Kind : Type 0} (lexicon : Lexicon Kind) (k : Kind) (n : ℕ) (bytes : List ℕ) : Type 0 where
  pub longest : IsLongest lexicon k (take n bytes) (drop n bytes)
  pub some : 0 < n
  pub within : n ≤ length bytes

same_len : {Kind : Type 0} (k l : Kind) (m n : ℕ) → piece.Token k m ≡ piece.Token l n → m ≡ n
same_len k l m n e = cc

module _ {Kind Fault : Type 0} (lexicon : Lexicon Kind) (scanner : Scanner Kind Fault) (finds : Finds lexicon scanner) where
  pub token_found : (b : ℕ) (bytes : List ℕ) (k : Kind) (n : ℕ) → scanner.token_of b (b ∷ bytes) ≡ piece.Token k n → Found lexicon k n (b ∷ bytes)
  token_found b bytes k n e =
      let f = finds.fits b bytes k n e in
      record { longest = record { spelled = f.spelled; longest = λ other front back. no_longer f.within other front back }; some = f.some; within = f.within }
    where
      no_longer : n ≤ length (b ∷ bytes) → (other : Kind) (front back : List ℕ) → take n (b ∷ bytes) ++ drop n (b ∷ bytes) ≡ front ++ back → lexicon.IsSpelled other front → length front ≤ length (take n (b ∷ bytes))
      no_longer w other front back same s =
          let len : length (take n (b ∷ bytes)) ≡ n = simp length-take (omega arith) in
          let whole : b ∷ bytes ≡ front ++ back = sym (take-append-drop n (b ∷ bytes)) ∙ same in
          let c = finds.covers other front back s b bytes (sym whole) in
          let n-is : n ≡ c.len' = same_len k c.kind n c.len' (sym e ∙ ap (scanner.token_of b) whole ∙ c.is) in
          omega (arith, c.no_less)

  -- the longest token is the one that is found
  pub token_is : (k : Kind) (b : ℕ) (bytes text rest : List ℕ) → b ∷ bytes ≡ text ++ rest → IsLongest lexicon k text rest → scanner.token_of b (b ∷ bytes) ≡ piece.Token k (length text)
  token_is k b bytes text rest whole l =
      let c = finds.covers k text rest l.spelled b bytes (sym whole) in
      let e : scanner.token_of b (b ∷ bytes) ≡ piece.Token c.kind c.len' = ap (scanner.token_of b) whole ∙ c.is in
      let f = finds.fits b bytes c.kind c.len' e in
      let no_more = l.longest c.kind (take c.len' (b ∷ bytes)) (drop c.len' (b ∷ bytes)) (sym whole ∙ sym (take-append-drop c.len' (b ∷ bytes))) f.spelled in
      let len : length (take c.len' (b ∷ bytes)) ≡ c.len' = let w = f.within in simp length-take (omega arith) in
      let n-is : length text ≡ c.len' = omega (arith, c.no_less) in
      let k-is : k ≡ c.kind = c.same n-is in
      e ∙ ap (λ z. piece.Token c.kind z) (sym n-is) ∙ ap (λ z. piece.Token z (length text)) (sym k-is)

  -- where what is found is no token, none begins there
  pub token_none : (b : ℕ) (bytes : List ℕ) → scanner.token_of b (b ∷ bytes) ≡ piece.Bad → BeginsNone lexicon (b ∷ bytes)
  token_none b bytes e k front back whole s =
      let c = finds.covers k front back s b bytes (sym whole) in
      let z : piece.Bad ≡ piece.Token c.kind c.len' = sym e ∙ ap (scanner.token_of b) whole ∙ c.is in
      cc

  -- where no token begins, none is found
  pub none_is : (b : ℕ) (bytes : List ℕ) → BeginsNone lexicon (b ∷ bytes) → (found : Lexeme Kind) → scanner.token_of b (b ∷ bytes) ≡ found → IsNoGap found → found ≡ piece.Bad
  none_is b bytes h piece.Bad e g = refl
  none_is b bytes h (piece.Token k n) e g = absurd (h k (take n (b ∷ bytes)) (drop n (b ∷ bytes)) (sym (take-append-drop n (b ∷ bytes))) (finds.fits b bytes k n e).spelled)
  none_is b bytes h (piece.Gap n) e g = absurd g
