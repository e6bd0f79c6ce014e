-- What the words behind an option, a size or `--` say.
use Rattle.std.proofs.Common.{◌≡◌, ◌≢◌, ◌⊎◌, inl, inr, ◌↔◌, ℕ, ◌+◌, ◌<◌, get_or, Bool, List, [], ◌∷◌, ◌++◌, length, drop, None, Option, IsTrue, refl, sym, ap, subst, ◌∙◌, arith, length-append}
use Rattle.std.specs.Prelude.{codes, IfNone}
use Rattle.std.specs.Str.{bytes_eq}
use Rattle.std.proofs.lemmas.Slice.Eq.{bytes_eq-Decides}
use Rattle.std.specs.Char.{is_ascii_alphabetic}
use Rattle.std.specs.List.{AllByRecursion}
use Rattle.std.proofs.lemmas.List.{append-nil, drop_all}
use Rattle.std.proofs.Math.Seq.{drop-append_seam}
use Rattle.av_base.specs.Tokens.{IsWord}
use Rattle.av_commands.specs.SizeWords.{SpellsUpTo, IsSize}
use Rattle.av_cli.specs.Commands.{Options, having_width, having_box, IsOption, Say, nothing, width, box, size, sizes, IsBare}
use Rattle.av_commands.proofs.GivenSizes.{at_words}

-- ---- the first word of an option

no_longer : (xs ys : List ℕ) (b : ℕ) → xs ≡ xs ++ (b ∷ ys) → ⊥
no_longer xs ys b e = let l = ap length e ∙ length-append xs (b ∷ ys) in absurd (omega (arith, l))

option_once : (name : List ℕ) (words : List (List ℕ)) (d e : List ℕ) (r s : List (List ℕ)) → IsOption name words d r → IsOption name words e s → (d ≡ e) × (r ≡ s)
option_once name words d e r s (inl a) (inl b) = let k = sym a ∙ b in (cc, cc)
option_once name words d e r s (inl a) (inr b) = let k = sym a ∙ b in absurd (no_longer name e 61 (cc))
option_once name words d e r s (inr a) (inl b) = let k = sym b ∙ a in absurd (no_longer name d 61 (cc))
option_once name words d e r s (inr a) (inr b) =
    let k = sym a ∙ b in
    let front : name ++ (codes "=" ++ d) ≡ name ++ (codes "=" ++ e) = cc in
    let tail : codes "=" ++ d ≡ codes "=" ++ e = sym (drop-append_seam name (codes "=" ++ d)) ∙ (ap (λ t. drop (length name) t) front ∙ drop-append_seam name (codes "=" ++ e)) in
    (cc, cc)

begins : (name : List ℕ) (w : List ℕ) (ws : List (List ℕ)) (d : List ℕ) (r : List (List ℕ)) → IsOption name (w ∷ ws) d r → (w ≡ name) ⊎ (w ≡ name ++ (codes "=" ++ d))
begins name w ws d r (inl a) = inl cc
begins name w ws d r (inr a) = inr cc

no_option : (name : List ℕ) (d : List ℕ) (r : List (List ℕ)) → IsOption name [] d r → ⊥
no_option name d r (inl a) = absurd cc
no_option name d r (inr a) = absurd cc

third : List ℕ → ℕ
third (a ∷ b ∷ c ∷ bytes) = c
third _ = 0

width_third : (w : List ℕ) (ws : List (List ℕ)) (d : List ℕ) (r : List (List ℕ)) → IsOption (codes "--width") (w ∷ ws) d r → third w ≡ 119
unfolding third
width_third w ws d r at = elim (begins (codes "--width") w ws d r at) [ inl e ↦ ap third e | inr e ↦ ap third e ]

box_third : (w : List ℕ) (ws : List (List ℕ)) (d : List ℕ) (r : List (List ℕ)) → IsOption (codes "--box") (w ∷ ws) d r → third w ≡ 98
unfolding third
box_third w ws d r at = elim (begins (codes "--box") w ws d r at) [ inl e ↦ ap third e | inr e ↦ ap third e ]

dashes_third : (w : List ℕ) → w ≡ codes "--" → third w ≡ 0
unfolding third
dashes_third w e = ap third e

-- the first byte
unfoldable pub head : List ℕ → ℕ
head [] = 0
head (b ∷ bytes) = b

pub width_head : (w : List ℕ) (ws : List (List ℕ)) (d : List ℕ) (r : List (List ℕ)) → IsOption (codes "--width") (w ∷ ws) d r → head w ≡ 45
unfolding head
width_head w ws d r at = elim (begins (codes "--width") w ws d r at) [ inl e ↦ ap head e | inr e ↦ ap head e ]

pub box_head : (w : List ℕ) (ws : List (List ℕ)) (d : List ℕ) (r : List (List ℕ)) → IsOption (codes "--box") (w ∷ ws) d r → head w ≡ 45
unfolding head
box_head w ws d r at = elim (begins (codes "--box") w ws d r at) [ inl e ↦ ap head e | inr e ↦ ap head e ]

pub dashes_head : (w : List ℕ) → w ≡ codes "--" → head w ≡ 45
unfolding head
dashes_head w e = ap head e

pub letter_first : (name text w : List ℕ) → IsWord name → w ≡ name ++ text → IsTrue (is_ascii_alphabetic (head w))
unfolding head
letter_first [] text w word e = absurd word
letter_first (b ∷ bytes) text w word e = rw e word.0

-- a size begins with a letter
pub no_size : (w : List ℕ) → head w ≡ 45 → IsSize w → ⊥
no_size w e is =
    let letter = letter_first is.name (codes "=" ++ is.text) w is.named.0 is.parts in
    let dash : IsTrue (is_ascii_alphabetic 45) = subst (λ (b : ℕ). IsTrue (is_ascii_alphabetic b)) e letter in
    absurd cc

-- ---- what is said

pub width_said : (o p : Options) (words : List (List ℕ)) (d : List ℕ) (r : List (List ℕ)) → IsOption (codes "--width") words d r → Say o words p
    → (n : ℕ) × (o.width ≡ None) × SpellsUpTo 64 d n × Say (having_width o n) r p
width_said o p [] d r at say = absurd (no_option (codes "--width") d r at)
width_said o p (w ∷ ws) d r at (width {rest = rest} {digits = digits} {n = n} none other spelled say) =
    let same = option_once (codes "--width") (w ∷ ws) digits d rest r other at in
    (n, none, subst (λ (x : List ℕ). SpellsUpTo 64 x n) same.0 spelled, subst (λ (x : List (List ℕ)). Say (having_width o n) x p) same.1 say)
width_said o p (w ∷ ws) d r at (box {rest = rest} {digits = digits} none other spelled say) =
    let a = width_third w ws d r at in let b = box_third w ws digits rest other in absurd (omega (arith, a, b))
width_said o p (w ∷ ws) d r at (size is say) = absurd (no_size w (width_head w ws d r at) is)
width_said o p (w ∷ ws) d r at (sizes is all) =
    let a = width_third w ws d r at in let b = dashes_third w is in absurd (omega (arith, a, b))

pub box_said : (o p : Options) (words : List (List ℕ)) (d : List ℕ) (r : List (List ℕ)) → IsOption (codes "--box") words d r → Say o words p
    → (n : ℕ) × (o.box ≡ None) × SpellsUpTo 4 d n × Say (having_box o n) r p
box_said o p [] d r at say = absurd (no_option (codes "--box") d r at)
box_said o p (w ∷ ws) d r at (box {rest = rest} {digits = digits} {n = n} none other spelled say) =
    let same = option_once (codes "--box") (w ∷ ws) digits d rest r other at in
    (n, none, subst (λ (x : List ℕ). SpellsUpTo 4 x n) same.0 spelled, subst (λ (x : List (List ℕ)). Say (having_box o n) x p) same.1 say)
box_said o p (w ∷ ws) d r at (width {rest = rest} {digits = digits} none other spelled say) =
    let a = box_third w ws d r at in let b = width_third w ws digits rest other in absurd (omega (arith, a, b))
box_said o p (w ∷ ws) d r at (size is say) = absurd (no_size w (box_head w ws d r at) is)
box_said o p (w ∷ ws) d r at (sizes is all) =
    let a = box_third w ws d r at in let b = dashes_third w is in absurd (omega (arith, a, b))

pub sizes_said : (o p : Options) (w : List ℕ) (ws : List (List ℕ)) → w ≡ codes "--" → Say o (w ∷ ws) p → AllByRecursion IsSize ws × (p ≡ o)
sizes_said o p w ws dashes (width {rest = rest} {digits = digits} none other spelled say) =
    let a = dashes_third w dashes in let b = width_third w ws digits rest other in absurd (omega (arith, a, b))
sizes_said o p w ws dashes (box {rest = rest} {digits = digits} none other spelled say) =
    let a = dashes_third w dashes in let b = box_third w ws digits rest other in absurd (omega (arith, a, b))
sizes_said o p w ws dashes (size is say) = absurd (no_size w (dashes_head w dashes) is)
sizes_said o p w ws dashes (sizes is all) = (all, refl)

pub size_said : (o p : Options) (w : List ℕ) (ws : List (List ℕ)) → ((d : List ℕ) (r : List (List ℕ)) → IsOption (codes "--width") (w ∷ ws) d r → ⊥)
    → ((d : List ℕ) (r : List (List ℕ)) → IsOption (codes "--box") (w ∷ ws) d r → ⊥) → (w ≡ codes "--" → ⊥) → Say o (w ∷ ws) p → IsSize w × Say o ws p
size_said o p w ws no_width no_box no_dashes (width {rest = rest} {digits = digits} none other spelled say) = absurd (no_width digits rest other)
size_said o p w ws no_width no_box no_dashes (box {rest = rest} {digits = digits} none other spelled say) = absurd (no_box digits rest other)
size_said o p w ws no_width no_box no_dashes (size is say) = (is, say)
size_said o p w ws no_width no_box no_dashes (sizes is all) = absurd (no_dashes is)

-- ---- steps

same_number : (most : ℕ) (d : List ℕ) (m n : ℕ) → SpellsUpTo most d m → SpellsUpTo most d n → m ≡ n
same_number most d m n a b = sym a.value ∙ b.value

pub width_steps : (o p : Options) (words : List (List ℕ)) (d : List ℕ) (r : List (List ℕ)) (n : ℕ) → IsOption (codes "--width") words d r → o.width ≡ None → SpellsUpTo 64 d n
    → Say o words p ↔ Say (having_width o n) r p
width_steps o p words d r n at none spelled = (
  (λ say. let s = width_said o p words d r at say in subst (λ (m : ℕ). Say (having_width o m) r p) (same_number 64 d s.0 n s.2 spelled) s.3),
  (λ say. width none at spelled say),
)

pub box_steps : (o p : Options) (words : List (List ℕ)) (d : List ℕ) (r : List (List ℕ)) (n : ℕ) → IsOption (codes "--box") words d r → o.box ≡ None → SpellsUpTo 4 d n
    → Say o words p ↔ Say (having_box o n) r p
box_steps o p words d r n at none spelled = (
  (λ say. let s = box_said o p words d r at say in subst (λ (m : ℕ). Say (having_box o m) r p) (same_number 4 d s.0 n s.2 spelled) s.3),
  (λ say. box none at spelled say),
)

pub nothing_said : (o p : Options) → Say o [] p → p ≡ o
nothing_said o p nothing = refl
nothing_said o p (width {rest = rest} {digits = digits} none other spelled say) = absurd (no_option (codes "--width") digits rest other)
nothing_said o p (box {rest = rest} {digits = digits} none other spelled say) = absurd (no_option (codes "--box") digits rest other)

pub sizes_steps : (o p : Options) (w : List ℕ) (ws : List (List ℕ)) → w ≡ codes "--" → AllByRecursion IsSize ws → Say o (w ∷ ws) p ↔ Say o [] p
sizes_steps o p w ws dashes all = (
  (λ say. let s = sizes_said o p w ws dashes say in subst (λ (q : Options). Say o [] q) (sym s.1) nothing),
  (λ say. subst (λ (q : Options). Say o (w ∷ ws) q) (sym (nothing_said o p say)) (sizes dashes all)),
)

-- words say one thing
pub one_said : (o p q : Options) (words : List (List ℕ)) → Say o words p → Say o words q → p ≡ q
one_said o p q [] nothing other = sym (nothing_said o q other)
one_said o p q words (width {rest = rest} {digits = digits} {n = n} none option spelled say) other =
    one_said (having_width o n) p q rest say ((width_steps o q words digits rest n option none spelled).0 other)
one_said o p q words (box {rest = rest} {digits = digits} {n = n} none option spelled say) other =
    one_said (having_box o n) p q rest say ((box_steps o q words digits rest n option none spelled).0 other)
one_said o p q (w ∷ ws) (size is say) other =
    one_said o p q ws say
    (size_said o q w ws (λ d r at. no_size w (width_head w ws d r at) is) (λ d r at. no_size w (box_head w ws d r at) is) (λ e. no_size w (dashes_head w e) is) other).1
one_said o p q (w ∷ ws) (sizes dashes all) other = sym (sizes_said o q w ws dashes other).1

-- ---- at a place

pub if_none : {A : Type 0} (x : Option A) (P : Type 0) → x ≡ None → P → IfNone x P
if_none x P e p = rw e p

-- no option of this name stands at the place
pub none_at : (name : List ℕ) (words : List (List ℕ)) (at : ℕ) (w : List ℕ) → at < length words → w ≡ get_or words at w → ((t : List ℕ) → w ≢ name ++ t)
    → (d : List ℕ) (r : List (List ℕ)) → IsOption name (drop at words) d r → ⊥
none_at name words at w lt is no_front d r option =
    elim (begins name w (drop (at + 1) words) d r (subst (λ (ws : List (List ℕ)). IsOption name ws d r) (at_words words at (at + 1) w lt refl is) option)) [
      | inl e ↦ no_front [] (e ∙ sym (append-nil name))
      | inr e ↦ no_front (codes "=" ++ d) e
    ]

pub apart_at : (name : List ℕ) (words : List (List ℕ)) (at : ℕ) (w v : List ℕ) → at + 1 < length words → w ≡ get_or words at w → v ≡ get_or words (at + 1) v → w ≡ name
    → IsOption name (drop at words) v (drop (at + 2) words)
apart_at name words at w v lt is is_next e =
    inl (at_words words at (at + 1) w (omega arith) refl is ∙ (ap (λ x. x ∷ drop (at + 1) words) e ∙ ap (λ ws. name ∷ ws) (at_words words (at + 1) (at + 2) v lt (omega arith) is_next)))

pub joined_at : (name : List ℕ) (words : List (List ℕ)) (at : ℕ) (w v : List ℕ) → at < length words → w ≡ get_or words at w → w ≡ name ++ (codes "=" ++ v)
    → IsOption name (drop at words) v (drop (at + 1) words)
joined_at name words at w v lt is e = inr (at_words words at (at + 1) w lt refl is ∙ ap (λ x. x ∷ drop (at + 1) words) e)

-- ---- sizes

pub sizes_from : (words : List (List ℕ)) (at : ℕ) (w : List ℕ) → at < length words → w ≡ get_or words at w
    → AllByRecursion IsSize (drop at words) ↔ (IsSize w × AllByRecursion IsSize (drop (at + 1) words))
sizes_from words at w lt is = (
  (λ all. subst (λ (ws : List (List ℕ)). AllByRecursion IsSize ws) (at_words words at (at + 1) w lt refl is) all),
  (λ both. subst (λ (ws : List (List ℕ)). AllByRecursion IsSize ws) (sym (at_words words at (at + 1) w lt refl is)) both),
)

-- ---- turns

module _ (o p : Options) (words : List (List ℕ)) (at : ℕ) (w : List ℕ) (lt : at < length words) (is : w ≡ get_or words at w)
    (no_width : (d : List ℕ) (r : List (List ℕ)) → IsOption (codes "--width") (drop at words) d r → ⊥) (no_box : (d : List ℕ) (r : List (List ℕ)) → IsOption (codes "--box") (drop at words) d r → ⊥) where
  front : drop at words ≡ w ∷ drop (at + 1) words
  front = at_words words at (at + 1) w lt refl is

  pub dashes_turn : w ≡ codes "--" → AllByRecursion IsSize (drop (at + 1) words) → (last : ℕ) → last ≡ length words → Say o (drop at words) p ↔ Say o (drop last words) p
  dashes_turn dashes all last e =
      let none : drop last words ≡ [] = drop_all last words (omega (arith, e)) in
      rw (front, none) (sizes_steps o p w (drop (at + 1) words) dashes all)

  pub dashes_fail : w ≡ codes "--" → (AllByRecursion IsSize (drop (at + 1) words) → ⊥) → Say o (drop at words) p → ⊥
  dashes_fail dashes none say = none (sizes_said o p w (drop (at + 1) words) dashes (subst (λ (ws : List (List ℕ)). Say o ws p) front say)).0

  width_free : (d : List ℕ) (r : List (List ℕ)) → IsOption (codes "--width") (w ∷ drop (at + 1) words) d r → ⊥
  width_free d r option = no_width d r (subst (λ (ws : List (List ℕ)). IsOption (codes "--width") ws d r) (sym front) option)

  box_free : (d : List ℕ) (r : List (List ℕ)) → IsOption (codes "--box") (w ∷ drop (at + 1) words) d r → ⊥
  box_free d r option = no_box d r (subst (λ (ws : List (List ℕ)). IsOption (codes "--box") ws d r) (sym front) option)

  pub size_turn : (w ≡ codes "--" → ⊥) → IsSize w → Say o (drop at words) p ↔ Say o (drop (at + 1) words) p
  size_turn no_dashes size_of = (
    (λ say. (size_said o p w (drop (at + 1) words) width_free box_free no_dashes (subst (λ (ws : List (List ℕ)). Say o ws p) front say)).1),
    (λ say. subst (λ (ws : List (List ℕ)). Say o ws p) (sym front) (size size_of say)),
  )

  pub size_fail : (w ≡ codes "--" → ⊥) → (IsSize w → ⊥) → Say o (drop at words) p → ⊥
  size_fail no_dashes none say = none (size_said o p w (drop (at + 1) words) width_free box_free no_dashes (subst (λ (ws : List (List ℕ)). Say o ws p) front say)).0

-- two words are bare where the second is `--`
pub bare_two : (words : List (List ℕ)) (w : List ℕ) (b : Bool) → length words ≡ 2 → w ≡ get_or words 1 w → b ≡ bytes_eq w (codes "--") → IsTrue b ↔ IsBare (drop 1 words)
bare_two words w b two is e =
    let front : drop 1 words ≡ w ∷ drop 2 words = at_words words 1 2 w (omega (arith, two)) refl is in
    let none : drop 2 words ≡ [] = drop_all 2 words (omega (arith, two)) in
    let all : drop 1 words ≡ w ∷ [] = front ∙ ap (λ ws. w ∷ ws) none in (
      (λ t. inr (all ∙ ap (λ x. x ∷ []) ((bytes_eq-Decides w (codes "--")).0 (sym e ∙ t)))),
      (λ is_bare. elim is_bare [
        | inl empty ↦ absurd (let k = sym all ∙ empty in cc)
        | inr dashes ↦ (let k = sym all ∙ dashes in e ∙ (bytes_eq-Decides w (codes "--")).1 (cc))
      ]),
    )

pub empty_of : (xs : List ℕ) → length xs ≡ 0 → xs ≡ []
empty_of [] e = refl
empty_of (x ∷ xs) e = absurd (omega arith)
