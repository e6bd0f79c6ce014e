-- Links of some tap sites joined with those of later ones.
use Rattle.std.proofs.Common.{◌≡◌, ℕ, ◌+◌, ◌<◌, ◌≤◌, ◌⊎◌, inl, inr, List, [], ◌++◌, sym, ap, ◌∙◌, arith, append_assoc, append-nil, get_or}
use Rattle.std.specs.Prelude.{Contains}
use Rattle.std.proofs.lemmas.Bool.{cases_lt}
use Rattle.std.proofs.lemmas.List.Elements.{All-contains, All-nil, All-append, All-weaker, Contains-append_left, Contains-append_right}
use Rattle.av_depend.proofs.Listed.{pairs_joined}
use Rattle.av_space.specs.declared.cells.Link.{Link}
use Rattle.av_space.specs.Links.{IsLinkBefore}
use Rattle.av_space.specs.inner.Stretches.{IsStretchOf, AreNeighboursOf, AreApartBy, AreLinksIn, HasLinks, IsAt, IsOn, IsOnBelow, IsBetween}

-- ---- the same links under other readings or of other sites

retold_stretch : (T U : ℕ → ℕ → ℕ → ℕ → ℕ → Type 0) (l : Link) → ((c q d : ℕ) → T l.consumer l.site c q d → U l.consumer l.site c q d) → ((c q d : ℕ) → U l.consumer l.site c q d → T l.consumer l.site c q d)
    → IsStretchOf T l → IsStretchOf U l
retold_stretch T U l f g s = record {
  ordered = s.ordered;
  begins = f l.first l.producer l.delay s.begins;
  ends = f l.last l.producer l.delay s.ends;
  between = λ c q d low high u. s.between c q d low high (g c q d u);
}

pub retold : (T U : ℕ → ℕ → ℕ → ℕ → ℕ → Type 0) (In : ℕ → ℕ → Type 0) (links : List Link) → ((p j c q d : ℕ) → In p j → T p j c q d → U p j c q d) → ((p j c q d : ℕ) → In p j → U p j c q d → T p j c q d)
    → AreLinksIn T In links → AreLinksIn U In links
retold T U In links f g h = record {
  within = h.within;
  each = λ k e low. let l = get_or links k e in let i = h.within k e low in retold_stretch T U l (λ c q d. f l.consumer l.site c q d i) (λ c q d. g l.consumer l.site c q d i) (h.each k e low);
  all = λ p j c q d i u. h.all p j c q d i (g p j c q d i u);
  maximal = λ i k e low high n same. h.maximal i k e low high
      (n.0, n.1, λ c q d after before t. n.2 c q d after before (f (get_or links i e).consumer (get_or links i e).site c q d (h.within i e (omega (arith, low, high))) t)) same;
  order = h.order;
}

pub rescoped : (T : ℕ → ℕ → ℕ → ℕ → ℕ → Type 0) (In On : ℕ → ℕ → Type 0) (links : List Link) → ((p j : ℕ) → In p j → On p j) → ((p j c q d : ℕ) → On p j → T p j c q d → In p j)
    → AreLinksIn T In links → AreLinksIn T On links
rescoped T In On links f g h = record {
  within = λ k e low. f (get_or links k e).consumer (get_or links k e).site (h.within k e low);
  each = h.each;
  all = λ p j c q d i t. h.all p j c q d (g p j c q d i t) t;
  maximal = h.maximal;
  order = h.order;
}

-- sites that read nothing have no links
pub no_links : (T : ℕ → ℕ → ℕ → ℕ → ℕ → Type 0) (In : ℕ → ℕ → Type 0) → ((p j c q d : ℕ) → In p j → T p j c q d → ⊥) → AreLinksIn T In []
no_links T In none = record {
  within = All-nil (λ l. In l.consumer l.site);
  each = All-nil (IsStretchOf T);
  all = λ p j c q d i t. absurd (none p j c q d i t);
  maximal = λ i k e low high. absurd (omega (arith, low, high));
  order = λ i k e low high. absurd (omega (arith, low, high));
}

-- ---- two parts

abbrev pub IsSiteBefore : ℕ → ℕ → ℕ → ℕ → Type 0
IsSiteBefore p j k i = (p < k) ⊎ ((p ≡ k) × (j < i))

abbrev pub Either : (ℕ → ℕ → Type 0) → (ℕ → ℕ → Type 0) → ℕ → ℕ → Type 0
Either In On p j = In p j ⊎ On p j

pub joined : (T : ℕ → ℕ → ℕ → ℕ → ℕ → Type 0) (In On : ℕ → ℕ → Type 0) (a b : List Link) → ((p j k i : ℕ) → In p j → On k i → IsSiteBefore p j k i)
    → AreLinksIn T In a → AreLinksIn T On b → AreLinksIn T (Either In On) (a ++ b)
joined T In On a b before h g = record {
  within = All-append (λ l. Either In On l.consumer l.site) a b (All-weaker (λ l. In l.consumer l.site) (λ l. Either In On l.consumer l.site) (λ l i. inl i) a h.within) (All-weaker (λ l. On l.consumer l.site) (λ l. Either In On l.consumer l.site) (λ l i. inr i) b g.within);
  each = All-append (IsStretchOf T) a b h.each g.each;
  all = λ p j c q d e t. elim e [
    | inl i ↦ let r = h.all p j c q d i t in (r.0, Contains-append_left a b r.0 r.1, r.2)
    | inr i ↦ let r = g.all p j c q d i t in (r.0, Contains-append_right a b r.0 r.1, r.2)
  ];
  maximal = pairs_joined (AreApartBy T) a b h.maximal g.maximal (λ x y cx cy n same. apart x y (across x y cx cy) n);
  order = pairs_joined IsLinkBefore a b h.order g.order (λ x y cx cy. in_order x y (across x y cx cy));
}
  where
    across : (x y : Link) → Contains a x → Contains b y → IsSiteBefore x.consumer x.site y.consumer y.site
    across x y cx cy = before x.consumer x.site y.consumer y.site (All-contains (λ l. In l.consumer l.site) a x h.within cx) (All-contains (λ l. On l.consumer l.site) b y g.within cy)

    apart : (x y : Link) → IsSiteBefore x.consumer x.site y.consumer y.site → AreNeighboursOf T x y → ⊥
    apart x y (inl l) n = let e = n.0 in absurd (omega (arith, l, e))
    apart x y (inr r) n = let e = n.1 in let l = r.1 in absurd (omega (arith, l, e))

    in_order : (x y : Link) → IsSiteBefore x.consumer x.site y.consumer y.site → IsLinkBefore x y
    in_order x y (inl l) = inl l
    in_order x y (inr r) = inr (inl r)

-- the second part has been put behind the first
pub both_put : (T : ℕ → ℕ → ℕ → ℕ → ℕ → Type 0) (In On : ℕ → ℕ → Type 0) (old mid new : List Link) → ((p j k i : ℕ) → In p j → On k i → IsSiteBefore p j k i)
    → HasLinks T In old mid → HasLinks T On mid new → HasLinks T (Either In On) old new
both_put T In On old mid new before h g = record {
  added = h.added ++ g.added;
  new_is = g.new_is ∙ ap (λ (l : List Link). l ++ g.added) h.new_is ∙ append_assoc old h.added g.added;
  are = joined T In On h.added g.added before h.are g.are;
}

pub of_others : (T : ℕ → ℕ → ℕ → ℕ → ℕ → Type 0) (In On : ℕ → ℕ → Type 0) (old new : List Link) → ((p j : ℕ) → In p j → On p j) → ((p j c q d : ℕ) → On p j → T p j c q d → In p j)
    → HasLinks T In old new → HasLinks T On old new
of_others T In On old new f g h = record { added = h.added; new_is = h.new_is; are = rescoped T In On h.added f g h.are }

pub none_put : (T : ℕ → ℕ → ℕ → ℕ → ℕ → Type 0) (In : ℕ → ℕ → Type 0) (old : List Link) → ((p j c q d : ℕ) → In p j → T p j c q d → ⊥) → HasLinks T In old old
none_put T In old none = record { added = []; new_is = sym (append-nil old); are = no_links T In none }

-- ---- in turn

pub one_more : (i k : ℕ) → i < k + 1 → (i < k) ⊎ (i ≡ k)
one_more i k l = elim (cases_lt i k) [ inl h ↦ inl h | inr h ↦ inr (omega (arith, l, h)) ]

-- the sites of a cell from one number on up to another, and from there on
pub between_more : (T : ℕ → ℕ → ℕ → ℕ → ℕ → Type 0) (p a b c : ℕ) (old mid new : List Link) → a ≤ b → b ≤ c → HasLinks T (IsBetween p a b) old mid → HasLinks T (IsBetween p b c) mid new → HasLinks T (IsBetween p a c) old new
between_more T p a b c old mid new low high h g = of_others T (Either (IsBetween p a b) (IsBetween p b c)) (IsBetween p a c) old new narrow (λ k i x q d e t. wide k i e)
    (both_put T (IsBetween p a b) (IsBetween p b c) old mid new (λ k i m n e f. inr (e.0 ∙ sym f.0, (let l = e.2 in let r = f.1 in omega (arith, l, r)))) h g)
  where
    narrow : (k i : ℕ) → Either (IsBetween p a b) (IsBetween p b c) k i → IsBetween p a c k i
    narrow k i (inl e) = (e.0, e.1, (let l = e.2 in omega (arith, l, high)))
    narrow k i (inr f) = (f.0, (let l = f.1 in omega (arith, l, low)), f.2)

    wide : (k i : ℕ) → IsBetween p a c k i → Either (IsBetween p a b) (IsBetween p b c) k i
    wide k i e = elim (cases_lt i b) [ inl l ↦ inl (e.0, e.1, l) | inr r ↦ inr (e.0, (omega (arith, r)), e.2) ]

-- one site
pub at_between : (T : ℕ → ℕ → ℕ → ℕ → ℕ → Type 0) (p j : ℕ) (old new : List Link) → HasLinks T (IsAt p j) old new → HasLinks T (IsBetween p j (j + 1)) old new
at_between T p j old new h = of_others T (IsAt p j) (IsBetween p j (j + 1)) old new (λ k i e. (e.0, (let s = e.1 in omega (arith, s)), (let s = e.1 in omega (arith, s)))) (λ k i c q d e t. (e.0, (let l = e.1 in let m = e.2 in omega (arith, l, m)))) h

-- none yet
pub none_between : (T : ℕ → ℕ → ℕ → ℕ → ℕ → Type 0) (p a : ℕ) (old : List Link) → HasLinks T (IsBetween p a a) old old
none_between T p a old = none_put T (IsBetween p a a) old (λ k i c q d e t. let l = e.1 in let m = e.2 in omega (arith, l, m))

-- one more cell
pub below_more_cells : (T : ℕ → ℕ → ℕ → ℕ → ℕ → Type 0) (p : ℕ) (old mid new : List Link) → HasLinks T (IsOnBelow p) old mid → HasLinks T (IsOn p) mid new → HasLinks T (IsOnBelow (p + 1)) old new
below_more_cells T p old mid new h g = of_others T (Either (IsOnBelow p) (IsOn p)) (IsOnBelow (p + 1)) old new narrow (λ k i c q d a t. one_more k p a)
    (both_put T (IsOnBelow p) (IsOn p) old mid new (λ k i m n a b. inl (omega (arith, a, b))) h g)
  where
    narrow : (k i : ℕ) → Either (IsOnBelow p) (IsOn p) k i → IsOnBelow (p + 1) k i
    narrow k i (inl a) = omega (arith, a)
    narrow k i (inr b) = omega (arith, b)
