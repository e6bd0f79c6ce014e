-- Texts as tokens with blanks around them.
use Rattle.std.proofs.Common.{◌≡◌, ℕ, true, false, List, [], ◌∷◌, ◌++◌, length, take, refl, sym, subst}
use Rattle.std.specs.Prelude.{nat_eq}
use Rattle.std.specs.List.{AllByRecursion}
use Rattle.std.proofs.Math.Seq.{take-append_seam, drop-append_seam}
use Rattle.av_base.specs.declared.place.Place.{Place}
use Rattle.av_base.specs.Tokens.{next_place, moved, is_blank}
use Rattle.av_net.specs.declared.token_kind.DesignTokenKind.{DesignTokenKind}
use Rattle.av_net.specs.declared.token_kind.DesignTokenKind.TheVariants as kind
use Rattle.av_net.specs.Lexemes.{Token, IsLongest, IsCommented, AreTokens, design_texts, end, blank, token}
use Rattle.av_base.specs.declared.lexeme.Lexeme.TheVariants as piece
use Rattle.av_vparse.specs.inner.Lexing.{scanner}
use Rattle.av_vparse.specs.inner.Scan.{token_of}
use Rattle.av_base.proofs.Longest.{token_found}
use Rattle.av_vparse.proofs.Longest.{finds}

-- a token with the blanks before and after it
pub record Written : Type 0 where
  pub before : List ℕ
  pub kind : DesignTokenKind
  pub text : List ℕ
  pub after : List ℕ

abbrev pub bytes_of : List Written → List ℕ
bytes_of [] = []
bytes_of (w ∷ ws) = w.before ++ (w.text ++ (w.after ++ bytes_of ws))

-- the place after a token and its blanks
abbrev pub past : Place → Written → Place
past p w = moved (moved (moved p w.before) w.text) w.after

abbrev pub passed : Place → List Written → Place
passed p [] = p
passed p (w ∷ ws) = passed (past p w) ws

abbrev pub tokens_from : Place → List Written → List Token
tokens_from p [] = record { kind = kind.End; text = []; place = p } ∷ []
tokens_from p (w ∷ ws) = record { kind = w.kind; text = w.text; place = moved p w.before } ∷ tokens_from (past p w) ws

-- this text is the token that is found before the rest
pub record IsNext (k : DesignTokenKind) (text rest : List ℕ) : Type 0 where
  pub first : ℕ
  pub later : List ℕ
  pub is : text ≡ first ∷ later
  pub no_slash : nat_eq first 47 ≡ false
  pub found : token_of first (first ∷ later ++ rest) ≡ piece.Token k (length (first ∷ later))

abbrev pub AreBlank : List ℕ → Type 0
AreBlank bytes = AllByRecursion (λ b. is_blank b ≡ true) bytes

abbrev pub AreSpaced : List Written → Type 0
AreSpaced [] = Unit {0}
AreSpaced (w ∷ ws) = AreBlank w.before × IsNext w.kind w.text (w.after ++ bytes_of ws) × AreBlank w.after × AreSpaced ws

blanks_before : (p : Place) (gap rest : List ℕ) (ts : List Token) → AreBlank gap → AreTokens (moved p gap) rest ts → AreTokens p (gap ++ rest) ts
blanks_before p [] rest ts h t = t
blanks_before p (b ∷ gap) rest ts h t = blank h.0 (blanks_before (next_place p b) gap rest ts h.1 t)

no_comment : (b : ℕ) (bytes : List ℕ) → nat_eq b 47 ≡ false → IsCommented (b ∷ bytes) → ⊥
no_comment b bytes h c = let head : b ≡ 47 = heads b bytes c.0 c.1 in let z : nat_eq 47 47 ≡ false = subst (λ x. nat_eq x 47 ≡ false) head h in absurd cc
  where
    heads : (b : ℕ) (bytes more : List ℕ) → b ∷ bytes ≡ 47 ∷ 47 ∷ more → b ≡ 47
    heads b bytes more e = cc

longest_next : (k : DesignTokenKind) (b : ℕ) (later rest : List ℕ) → token_of b (b ∷ later ++ rest) ≡ piece.Token k (length (b ∷ later)) → IsLongest k (b ∷ later) rest
longest_next k b later rest e =
    let f = token_found design_texts scanner finds b (later ++ rest) k (length (b ∷ later)) e in
    subst (λ (z : List ℕ). IsLongest k z rest) (take-append_seam (b ∷ later) rest)
    (subst (λ (z : List ℕ). IsLongest k (take (length (b ∷ later)) (b ∷ later ++ rest)) z) (drop-append_seam (b ∷ later) rest) f.longest)

token_before : (p : Place) (k : DesignTokenKind) (text rest : List ℕ) (ts : List Token) → IsNext k text rest → AreTokens (moved p text) rest ts
    → AreTokens p (text ++ rest) (record { kind = k; text = text; place = p } ∷ ts)
token_before p k text rest ts n t = by n.first n.later n.is n.no_slash n.found
  where
    by : (b : ℕ) (later : List ℕ) → text ≡ b ∷ later → nat_eq b 47 ≡ false → token_of b (b ∷ later ++ rest) ≡ piece.Token k (length (b ∷ later)) → AreTokens p (text ++ rest) (record { kind = k; text = text; place = p } ∷ ts)
    by b later e h f =
        token refl (λ c. no_comment b (later ++ rest) h (subst (λ (z : List ℕ). IsCommented (z ++ rest)) e c)) (subst (λ (z : List ℕ). IsLongest k z rest) (sym e) (longest_next k b later rest f)) tt t

pub spaced_tokens : (p : Place) (ws : List Written) → AreSpaced ws → AreTokens p (bytes_of ws) (tokens_from p ws)
spaced_tokens p [] s = end
spaced_tokens p (w ∷ ws) s =
    blanks_before p w.before (w.text ++ (w.after ++ bytes_of ws)) _ s.0
    (token_before (moved p w.before) w.kind w.text (w.after ++ bytes_of ws) (tokens_from (past p w) ws) s.1
    (blanks_before (moved (moved p w.before) w.text) w.after (bytes_of ws) (tokens_from (past p w) ws) s.2 (spaced_tokens (past p w) ws s.3)))
