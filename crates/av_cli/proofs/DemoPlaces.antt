-- The words of a demo, and the place of its size among them.
use Rattle.std.proofs.Common.{◌≡◌, ℕ, zero, suc, ◌+◌, ◌-◌, ◌<◌, ◌≤◌, List, [], ◌∷◌, ◌++◌, take, drop, get_or, length, length-append, refl, sym, ap, subst, ◌∙◌, arith}
use Rattle.std.specs.Prelude.{codes, slice_index_or, Contains, All}
use Rattle.std.proofs.lemmas.List.Elements.{All-cons, All-head, All-tail}
use Rattle.std.proofs.lemmas.List.{take_all}
use Rattle.av_cli.specs.Commands.{Options, Say, IsDemo, no_options}
use Rattle.av_commands.specs.SizeWords.{IsSize, SpellsUpTo, GiveSizes, no_more, passed}
use Rattle.av_cli.specs.inner.DemoWords.{IsDemoAt}
use Rattle.av_cli.proofs.OptionWords.{one_said}

-- ---- no sizes

pub none_give : (words : List (List ℕ)) → All (λ w. IsSize w → ⊥) words → GiveSizes words []
none_give [] all = no_more
none_give (w ∷ words) all = passed (All-head (λ (x : List ℕ). IsSize x → ⊥) w words all) (none_give words (All-tail (λ (x : List ℕ). IsSize x → ⊥) w words all))

pub give_none : (words : List (List ℕ)) (k : ℕ) (d : List ℕ) → GiveSizes words [] → k < length words → IsSize (get_or words k d) → ⊥
give_none [] k d give lt is = absurd (omega (arith, lt))
give_none (w ∷ words) zero d (passed none give) lt is = none is
give_none (w ∷ words) (suc k) d (passed none give) lt is = give_none words k d give (omega (arith, lt)) is

-- where the words before a place have no size, and the one there is none, so have those up to it
none_past : (words : List (List ℕ)) (k : ℕ) (d : List ℕ) → k < length words → All (λ w. IsSize w → ⊥) (take k words) → (IsSize (get_or words k d) → ⊥) → All (λ w. IsSize w → ⊥) (take (suc k) words)
none_past [] k d lt all none = absurd (omega (arith, lt))
none_past (w ∷ words) zero d lt all none = All-cons (λ (x : List ℕ). IsSize x → ⊥) w [] none all
none_past (w ∷ words) (suc k) d lt all none =
    let P : List ℕ → Type 0 = λ x. IsSize x → ⊥ in
    All-cons P w (take (suc k) words) (All-head P w (take k words) all) (none_past words k d (omega (arith, lt)) (All-tail P w (take k words) all) none)

pub none_next : (words : List (List ℕ)) (k : ℕ) (d : List ℕ) → k < length words → All (λ w. IsSize w → ⊥) (take k words) → (IsSize (get_or words k d) → ⊥) → All (λ w. IsSize w → ⊥) (take (k + 1) words)
none_next words k d lt all none =
    let next : suc k ≡ k + 1 = omega arith in
    subst (λ (n : ℕ). All (λ (w : List ℕ). IsSize w → ⊥) (take n words)) next (none_past words k d lt all none)

pub no_sizes : (words : List (List ℕ)) (k : ℕ) → length words ≤ k → All (λ w. IsSize w → ⊥) (take k words) → GiveSizes words []
no_sizes words k past all = none_give words (subst (All (λ (w : List ℕ). IsSize w → ⊥)) (take_all k words past) all)

-- ---- lists

split_at : (xs : List (List ℕ)) (j : ℕ) (d : List ℕ) → j < length xs → xs ≡ take j xs ++ (get_or xs j d ∷ drop (suc j) xs)
split_at [] j d lt = absurd (omega (arith, lt))
split_at (x ∷ xs) zero d lt = refl
split_at (x ∷ xs) (suc j) d lt = ap (λ (z : List (List ℕ)). x ∷ z) (split_at xs j d (omega (arith, lt)))

take_front : (xs ys : List (List ℕ)) → take (length xs) (xs ++ ys) ≡ xs
take_front [] ys = refl
take_front (x ∷ xs) ys = ap (λ (z : List (List ℕ)). x ∷ z) (take_front xs ys)

at_seam : (xs : List (List ℕ)) (y : List ℕ) (ys : List (List ℕ)) (d : List ℕ) → get_or (xs ++ (y ∷ ys)) (length xs) d ≡ y
at_seam [] y ys d = refl
at_seam (x ∷ xs) y ys d = at_seam xs y ys d

past_seam : (xs : List (List ℕ)) (y : List ℕ) (ys : List (List ℕ)) → drop (suc (length xs)) (xs ++ (y ∷ ys)) ≡ ys
past_seam [] y ys = refl
past_seam (x ∷ xs) y ys = past_seam xs y ys

-- ---- from the place to the words

module _ (words rest : List (List ℕ)) (at bits box k : ℕ) (first : words ≡ codes "demo" ∷ rest) (least : 1 ≤ at) (within : at < length words) (no_size : GiveSizes words []) where
  index : ℕ
  index = at - 1

  is_next : suc (at - 1) ≡ at
  is_next = omega (arith, least)

  behind : drop 1 words ≡ rest
  behind = ap (drop 1) first

  inside : at - 1 < length rest
  inside = let f = ap length first in omega (arith, f, within, least)

  word_is : get_or rest (at - 1) [] ≡ slice_index_or words at []
  word_is = sym (ap (λ n. slice_index_or words n []) (sym is_next) ∙ ap (λ (ws : List (List ℕ)). get_or ws (suc (at - 1)) []) first)

  after_is : drop (suc (at - 1)) rest ≡ drop (at + 1) words
  after_is = sym (ap (drop (at + 1)) first ∙ ap (λ n. drop n (codes "demo" ∷ rest)) next)
    where
      next : at + 1 ≡ suc (suc (at - 1))
      next = omega (arith, least)

  pub demo_there : IsDemoAt words at bits box k → IsDemo words bits box k
  demo_there is = record {
    before = take (at - 1) (drop 1 words);
    word = slice_index_or words at [];
    after = drop (at + 1) words;
    parts = first ∙ ap (λ (ws : List (List ℕ)). codes "demo" ∷ ws) (split_at rest (at - 1) [] inside
        ∙ ap (λ (ws : List (List ℕ)). take (at - 1) ws ++ (get_or rest (at - 1) [] ∷ drop (suc (at - 1)) rest)) (sym behind)
        ∙ ap (λ (w : List ℕ). take (at - 1) (drop 1 words) ++ (w ∷ drop (suc (at - 1)) rest)) word_is
        ∙ ap (λ (ws : List (List ℕ)). take (at - 1) (drop 1 words) ++ (slice_index_or words at [] ∷ ws)) after_is);
    size = is.size;
    middle = is.middle;
    options = is.options;
    say_before = is.say_before;
    say_after = is.say_after;
    last = is.last;
    bits_are = is.bits_are;
    box_is = is.box_is;
    no_size = no_size;
  }

-- ---- from the words to the place

pub record IsPlaced (words : List (List ℕ)) (bits box k : ℕ) : Type 0 where
  pub at : ℕ
  pub least : 1 ≤ at
  pub within : at < length words
  pub is : IsDemoAt words at bits box k

pub placed : (words : List (List ℕ)) (bits box k : ℕ) → IsDemo words bits box k → IsPlaced words bits box k
placed words bits box k is =
    let rest = is.before ++ (is.word ∷ is.after) in
    let behind : drop 1 words ≡ rest = ap (drop 1) is.parts in
    let before : take (length is.before) (drop 1 words) ≡ is.before = ap (take (length is.before)) behind ∙ take_front is.before (is.word ∷ is.after) in
    let before' : take (length is.before + 1 - 1) (drop 1 words) ≡ is.before = ap (λ n. take n (drop 1 words)) (less (length is.before)) ∙ before in
    let word : slice_index_or words (length is.before + 1) [] ≡ is.word =
    ap (λ (ws : List (List ℕ)). slice_index_or ws (length is.before + 1) []) is.parts ∙ ap (λ n. get_or (codes "demo" ∷ rest) n []) (more (length is.before)) ∙ at_seam is.before is.word is.after [] in
    let after : drop (length is.before + 1 + 1) words ≡ is.after =
    ap (drop (length is.before + 1 + 1)) is.parts ∙ ap (λ n. drop n (codes "demo" ∷ rest)) (most (length is.before)) ∙ past_seam is.before is.word is.after in
    record {
      at = length is.before + 1;
      least = omega arith;
      within = (let p = ap length is.parts in omega (arith, p, length-append is.before (is.word ∷ is.after)));
      is = record {
        size = subst (λ (w : List ℕ). SpellsUpTo 16 w k) (sym word) is.size;
        middle = is.middle;
        options = is.options;
        say_before = subst (λ (ws : List (List ℕ)). Say no_options ws is.middle) (sym before') is.say_before;
        say_after = subst (λ (ws : List (List ℕ)). Say is.middle ws is.options) (sym after) is.say_after;
        last = λ dashes. after ∙ is.last (subst (λ (ws : List (List ℕ)). Contains ws (codes "--")) before' dashes);
        bits_are = is.bits_are;
        box_is = is.box_is;
      };
    }
  where
    less : (n : ℕ) → n + 1 - 1 ≡ n
    less n = omega arith

    more : (n : ℕ) → n + 1 ≡ suc n
    more n = omega arith

    most : (n : ℕ) → n + 1 + 1 ≡ suc (suc n)
    most n = omega arith

-- ---- one place

-- what is read behind the size is what is said there
pub said_behind : (words : List (List ℕ)) (at bits box k : ℕ) (middle : Options) → IsDemoAt words at bits box k → Say no_options (take (at - 1) (drop 1 words)) middle → (options : Options) × Say middle (drop (at + 1) words) options
said_behind words at bits box k middle is say =
    let same : is.middle ≡ middle = one_said no_options is.middle middle (take (at - 1) (drop 1 words)) is.say_before say in
    (is.options, subst (λ (o : Options). Say o (drop (at + 1) words) is.options) same is.say_after)
