-- What the program's tokens are as the definitions see them.
use Rattle.std.proofs.Common.{◌≡◌, ℕ, zero, suc, ◌+◌, ◌-◌, List, [], ◌∷◌, ◌++◌, length, drop, ap, sym, refl, ◌∙◌, arith, length-append}
use Rattle.std.proofs.Math.Seq.{drop-append_seam}
use Rattle.av_base.specs.Tokens.{Token}
use Rattle.av_parse.specs.inner.Reader.{place_of}
use Rattle.av_lex.specs.declared.token.Token.{Token as Found}
use Rattle.av_lex.specs.Lexing.{view, views}

pub views_push : (xs : List Found) (x : Found) → views (xs ++ x ∷ []) ≡ views xs ++ view x ∷ []
views_push [] x = refl
views_push (y ∷ xs) x = ap (λ zs. view y ∷ zs) (views_push xs x)

views_drop : (k : ℕ) (xs : List Found) → views (drop k xs) ≡ drop k (views xs)
views_drop zero xs = refl
views_drop (suc k) [] = refl
views_drop (suc k) (x ∷ xs) = views_drop k xs

views_length : (xs : List Found) → length (views xs) ≡ length xs
views_length [] = refl
views_length (x ∷ xs) = ap suc (views_length xs)

-- what is behind the tokens before is what is left
pub left_behind : (tokens : List Found) (before rest : List Token) (passed : ℕ) → views tokens ≡ before ++ rest → passed ≡ length tokens - length rest
    → place_of (views (drop passed tokens)) ≡ place_of rest
left_behind tokens before rest passed split is =
    let count : length tokens ≡ length before + length rest = sym (views_length tokens) ∙ (ap length split ∙ length-append before rest) in
    let all : passed ≡ length before = omega arith in
    ap place_of (views_drop passed tokens ∙ (ap (λ z. drop z (views tokens)) all ∙ (ap (λ z. drop (length before) z) split ∙ drop-append_seam before rest)))
