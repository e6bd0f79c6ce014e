-- The links of an array are unique.
use Rattle.std.proofs.Common.{◌≡◌, ℕ, ◌<◌, ◌≤◌, ◌⊎◌, inl, inr, List, [], ◌∷◌, length, get_or, sym, ap, subst, ◌∙◌, arith}
use Rattle.std.specs.Prelude.{Contains, AllPairs}
use Rattle.std.proofs.lemmas.Bool.{cases_lt, cases_eq}
use Rattle.std.proofs.lemmas.List.{get_or_default}
use Rattle.std.proofs.lemmas.List.Elements.{All-contains}
use Rattle.av_flat.specs.Trees.{FlatSystem}
use Rattle.av_flat.specs.declared.timed.Helper.{Helper}
use Rattle.av_space.specs.declared.cells.Cell.{Cell}
use Rattle.av_space.specs.declared.cells.Link.{Link}
use Rattle.av_space.specs.Coordinates.{Placing}
use Rattle.av_space.specs.Taps.{IsTapped}
use Rattle.av_space.specs.Links.{AreLinks, IsStretch, IsLinkBefore, IsInLink, AreNeighbours}
use Rattle.av_space.proofs.OneOrder.{one_order}
use Rattle.av_base.proofs.Among.{among_cases, first_among, more_among, none_among}

-- ---- order

-- of the same consumer and tap site, the one link ends before the other begins
record IsEarlier (l k : Link) : Type 0 where
  consumer : k.consumer ≡ l.consumer
  site : k.site ≡ l.site
  ended : k.last < l.first

is_earlier : (l k : Link) → IsEarlier l k ⊎ (IsEarlier l k → ⊥)
is_earlier l k = elim (cases_eq k.consumer l.consumer) [
  | inl a ↦ elim (cases_eq k.site l.site) [
    | inl b ↦ elim (cases_lt k.last l.first) [
      | inl less ↦ inl (record { consumer = a; site = b; ended = less })
      | inr past ↦ inr (λ e. let h = e.ended in omega (arith, h, past))
    ]
    | inr other ↦ inr (λ e. other e.site)
  ]
  | inr other ↦ inr (λ e. other e.consumer)
]

-- the last of those that end before the link begins
record IsLatest (l : Link) (xs : List Link) (k : Link) : Type 0 where
  among : Contains xs k
  earlier : IsEarlier l k
  latest : (y : Link) → Contains xs y → IsEarlier l y → y.last ≤ k.last

latest_of : (l : Link) (xs : List Link) → ((k : Link) × IsLatest l xs k) ⊎ ((y : Link) → Contains xs y → IsEarlier l y → ⊥)
latest_of l [] = inr (λ y c e. none_among y c)
latest_of l (x ∷ xs) = elim (is_earlier l x) [
  | inl here ↦ elim (latest_of l xs) [
    | inl (k, is) ↦ elim (cases_lt k.last x.last) [
      | inl less ↦ inl (
        x,
        record {
          among = first_among x xs;
          earlier = here;
          latest = λ y c e. elim (among_cases x y xs c) [ inl same ↦ let f = ap (λ (z : Link). z.last) same in omega (arith, f) | inr later ↦ let f = is.latest y later e in omega (arith, f, less) ];
        },
      )
      | inr past ↦ inl (
        k,
        record {
          among = more_among x k xs is.among;
          earlier = is.earlier;
          latest = λ y c e. elim (among_cases x y xs c) [ inl same ↦ let f = ap (λ (z : Link). z.last) same in omega (arith, f, past) | inr later ↦ is.latest y later e ];
        },
      )
    ]
    | inr none ↦ inl (
      x,
      record {
        among = first_among x xs;
        earlier = here;
        latest = λ y c e. elim (among_cases x y xs c) [ inl same ↦ let f = ap (λ (z : Link). z.last) same in omega (arith, f) | inr later ↦ absurd (none y later e) ];
      },
    )
  ]
  | inr not_here ↦ elim (latest_of l xs) [
    | inl (k, is) ↦ inl (
      k,
      record {
        among = more_among x k xs is.among;
        earlier = is.earlier;
        latest = λ y c e. elim (among_cases x y xs c) [ inl same ↦ absurd (not_here (subst (IsEarlier l) (sym same) e)) | inr later ↦ is.latest y later e ];
      },
    )
    | inr none ↦ inr (λ y c e. elim (among_cases x y xs c) [ inl same ↦ not_here (subst (IsEarlier l) (sym same) e) | inr later ↦ none y later e ])
  ]
]

same_link : (x y : Link) → x.consumer ≡ y.consumer → x.producer ≡ y.producer → x.site ≡ y.site → x.delay ≡ y.delay → x.first ≡ y.first → x.last ≡ y.last → x ≡ y
same_link x y a b c d e f =
    ap (λ n. record { consumer = n; producer = x.producer; site = x.site; delay = x.delay; first = x.first; last = x.last }) a
    ∙ ap (λ n. record { consumer = y.consumer; producer = n; site = x.site; delay = x.delay; first = x.first; last = x.last }) b
    ∙ ap (λ n. record { consumer = y.consumer; producer = y.producer; site = n; delay = x.delay; first = x.first; last = x.last }) c
    ∙ ap (λ n. record { consumer = y.consumer; producer = y.producer; site = y.site; delay = n; first = x.first; last = x.last }) d
    ∙ ap (λ n. record { consumer = y.consumer; producer = y.producer; site = y.site; delay = y.delay; first = n; last = x.last }) e
    ∙ ap (λ n. record { consumer = y.consumer; producer = y.producer; site = y.site; delay = y.delay; first = y.first; last = n }) f

-- ---- links

module _ (s : FlatSystem) (hs : List Helper) (times : List Placing) (cells : List Cell) where
  abbrev Are : List Link → Type 0
  Are links = AreLinks s hs times cells links

  stretch : (a : List Link) → Are a → (l : Link) → Contains a l → IsStretch s hs times cells l
  stretch a are l c = All-contains (IsStretch s hs times cells) a l are.each c

  -- two of one consumer and tap site, the first of which begins before the second does
  apart : (a : List Link) → Are a → (k l : Link) → Contains a k → Contains a l → k.consumer ≡ l.consumer → k.site ≡ l.site → k.first < l.first → k.last < l.first
  apart a are k l (i, li, ei) (j, lj, ej) consumer site less = elim (cases_lt i j) [
    | inl before ↦
        let o : IsLinkBefore k l = subst (λ x. IsLinkBefore x l) ei (subst (λ y. IsLinkBefore (get_or a i k) y) (other j lj ej) (are.order i j k before lj)) in
        by_order o
    | inr past ↦ elim (cases_lt j i) [
      | inl before ↦
          let o : IsLinkBefore l k = subst (λ x. IsLinkBefore x k) ej (subst (λ y. IsLinkBefore (get_or a j l) y) (mine i li ei) (are.order j i l before li)) in
          absurd (by_other o)
      | inr same ↦
          let e : i ≡ j = omega (arith, past, same) in
          let f : k ≡ l = sym ei ∙ ap (λ n. get_or a n k) e ∙ other j lj ej in
          absurd (let g = ap (λ (z : Link). z.first) f in omega (arith, g, less))
    ]
  ]
    where
      other : (j : ℕ) → j < length a → get_or a j l ≡ l → get_or a j k ≡ l
      other j lj ej = get_or_default a j k l lj ∙ ej

      mine : (i : ℕ) → i < length a → get_or a i k ≡ k → get_or a i l ≡ k
      mine i li ei = get_or_default a i l k li ∙ ei

      by_order : IsLinkBefore k l → k.last < l.first
      by_order (inl h) = absurd (omega (arith, h, consumer))
      by_order (inr (inl h)) = absurd (let g = h.1 in omega (arith, g, site))
      by_order (inr (inr h)) = h.2

      by_other : IsLinkBefore l k → ⊥
      by_other (inl h) = absurd (omega (arith, h, consumer))
      by_other (inr (inl h)) = absurd (let g = h.1 in omega (arith, g, site))
      by_other (inr (inr h)) = absurd (let g = h.2 in let o = (stretch a are l (j, lj, ej)).ordered in omega (arith, g, o, less))

  -- a link of one list that is met by a like link of the other begins where that begins
  begins : (a b : List Link) → Are a → Are b → (l m : Link) → Contains a l → Contains b m → m.consumer ≡ l.consumer → m.site ≡ l.site → m.producer ≡ l.producer → m.delay ≡ l.delay
      → l.first ≤ m.last → m.first ≤ l.first → m.first ≡ l.first
  begins a b are other l m among in_b consumer site producer delay meets le = elim (cases_lt m.first l.first) [
    | inl less ↦ absurd (impossible less)
    | inr past ↦ omega (arith, le, past)
  ]
    where
      own : IsStretch s hs times cells l
      own = stretch a are l among

      theirs : IsStretch s hs times cells m
      theirs = stretch b other m in_b

      -- a reading cycle before the link's own is in an earlier link
      before_it : (c q d : ℕ) → c < l.first → IsTapped s hs times cells l.consumer l.site c q d → (k : Link) × Contains a k × IsEarlier l k × (k.first ≤ c) × (c ≤ k.last)
      before_it c q d less tapped =
          let r = are.all l.consumer l.site c q d tapped in
          let k = r.0 in
          let low = r.2.2 in
          let high = r.2.3 in
          let ended = apart a are k l r.1 among r.2.0 r.2.1 (omega (arith, low, less)) in
          (k, r.1, record { consumer = r.2.0; site = r.2.1; ended = ended }, low, high)

      there : IsTapped s hs times cells l.consumer l.site m.first m.producer m.delay
      there = subst (λ n. IsTapped s hs times cells n l.site m.first m.producer m.delay) consumer (subst (λ n. IsTapped s hs times cells m.consumer n m.first m.producer m.delay) site theirs.begins)

      neighbours : (k : Link) → IsLatest l a k → AreNeighbours s hs times cells k l
      neighbours k is = (
        is.earlier.consumer,
        is.earlier.site,
        λ c q d low high tapped.
            let r = before_it c q d high (subst (λ n. IsTapped s hs times cells n l.site c q d) is.earlier.consumer (subst (λ n. IsTapped s hs times cells k.consumer n c q d) is.earlier.site tapped)) in
            let h = is.latest r.0 r.1 r.2 in
            let g = r.4 in
            absurd (omega (arith, h, g, low)),
      )

      -- and that link is like it
      alike : (k : Link) → IsLatest l a k → m.first ≤ k.last → (k.producer ≡ l.producer) × (k.delay ≡ l.delay)
      alike k is low =
          let e = is.earlier.ended in
          let ends = (stretch a are k is.among).ends in
          let moved = subst (λ n. IsTapped s hs times cells n m.site k.last k.producer k.delay) (is.earlier.consumer ∙ sym consumer) (subst (λ n. IsTapped s hs times cells k.consumer n k.last k.producer k.delay) (is.earlier.site ∙ sym site) ends) in
          let h = theirs.between k.last k.producer k.delay low (omega (arith, e, meets)) moved in
          (h.0 ∙ producer, h.1 ∙ delay)

      in_turn : (k : Link) → IsLatest l a k → AreNeighbours s hs times cells k l → (k.producer ≡ l.producer) × (k.delay ≡ l.delay) → ⊥
      in_turn k is near same = by_places is.among among
        where
          e : k.last < l.first
          e = is.earlier.ended

          -- the later of the two does not stand first
          not_later : (c : Contains a k) (d : Contains a l) → d.0 ≤ c.0 → ⊥
          not_later (i, li, ei) (j, lj, ej) past =
              let o = (stretch a are k (i, li, ei)).ordered in
              let first : k.first < l.first = omega (arith, o, e) in
              let back = apart a are k l (i, li, ei) (j, lj, ej) is.earlier.consumer is.earlier.site first in
              elim (cases_lt j i) [
                | inl before ↦
                    let x : IsLinkBefore l k = subst (λ y. IsLinkBefore y k) ej (subst (λ y. IsLinkBefore (get_or a j l) y) (get_or_default a i l k li ∙ ei) (are.order j i l before li)) in
                    wrong x
                | inr low ↦
                    let same : i ≡ j = omega (arith, low, past) in
                    let f : k ≡ l = sym ei ∙ ap (λ n. get_or a n k) same ∙ get_or_default a j k l lj ∙ ej in
                    absurd (let g = ap (λ (z : Link). z.first) f in omega (arith, g, first))
              ]
            where
              wrong : IsLinkBefore l k → ⊥
              wrong (inl h) = absurd (let c = is.earlier.consumer in omega (arith, h, c))
              wrong (inr (inl h)) = absurd (let g = h.1 in let c = is.earlier.site in omega (arith, g, c))
              wrong (inr (inr h)) = absurd (let g = h.2 in let o = own.ordered in let p = (stretch a are k (i, li, ei)).ordered in omega (arith, g, o, p, e))

          by_places : Contains a k → Contains a l → ⊥
          by_places (i, li, ei) (j, lj, ej) = elim (cases_lt i j) [
            | inl before ↦
                let far = are.maximal i j k before lj in
                let at : get_or a j k ≡ l = get_or_default a j k l lj ∙ ej in
                far
                (subst (λ x. AreNeighbours s hs times cells x (get_or a j k)) (sym ei) (subst (λ y. AreNeighbours s hs times cells k y) (sym at) near))
                (subst (λ x. (x.producer ≡ (get_or a j k).producer) × (x.delay ≡ (get_or a j k).delay)) (sym ei) (subst (λ (y : Link). (k.producer ≡ y.producer) × (k.delay ≡ y.delay)) (sym at) same))
            | inr past ↦ not_later (i, li, ei) (j, lj, ej) past
          ]

      impossible : m.first < l.first → ⊥
      impossible less =
          let r = before_it m.first m.producer m.delay less there in
          elim (latest_of l a) [
            | inl (k, is) ↦
                let h = is.latest r.0 r.1 r.2 in
                let g = r.4 in
                in_turn k is (neighbours k is) (alike k is (omega (arith, h, g)))
            | inr none ↦ none r.0 r.1 r.2
          ]

  -- and it does not go on after that
  longer : (a b : List Link) → Are a → Are b → (l m : Link) → Contains a l → Contains b m → m.consumer ≡ l.consumer → m.site ≡ l.site → m.producer ≡ l.producer → m.delay ≡ l.delay
      → m.first ≡ l.first → l.last < m.last → ⊥
  longer a b are other l m among in_b consumer site producer delay first less =
      let theirs = stretch b other m in_b in
      let r = are.all m.consumer m.site m.last m.producer m.delay theirs.ends in
      with_next r.0 r.1 r.2
    where
      with_next : (k : Link) → Contains a k → IsInLink m.consumer m.site m.last k → ⊥
      with_next k in_a inside =
          let own = stretch a are l among in
          let theirs = stretch b other m in_b in
          let next = stretch a are k in_a in
          let o = own.ordered in
          let low = inside.2 in
          let high = inside.3 in
          let after : l.first < k.first = elim (cases_lt l.first k.first) [
            | inl h ↦ h
            | inr past ↦ absurd (elim (cases_lt k.first l.first) [
              | inl h ↦ let g = apart a are k l in_a among (inside.0 ∙ consumer) (inside.1 ∙ site) h in omega (arith, g, high, less, o)
              | inr same ↦ let g = whole k in_a (inside.0 ∙ consumer) (inside.1 ∙ site) (omega (arith, past, same)) in let f = ap (λ (z : Link). z.last) g in omega (arith, f, high, less)
            ])
          ] in
          let moved = subst (λ n. IsTapped s hs times cells n m.site k.first k.producer k.delay) inside.0 (subst (λ n. IsTapped s hs times cells k.consumer n k.first k.producer k.delay) inside.1 next.begins) in
          let alike = theirs.between k.first k.producer k.delay (omega (arith, first, after)) low moved in
          let again = begins a b are other k m in_a in_b (sym inside.0) (sym inside.1) (sym alike.0) (sym alike.1) low (omega (arith, first, after)) in
          omega (arith, again, first, after)
        where
          -- two that begin together are one
          whole : (k : Link) → Contains a k → k.consumer ≡ l.consumer → k.site ≡ l.site → k.first ≡ l.first → k ≡ l
          whole k in_a c d e = by_places in_a among
            where
              wrong : (x y : Link) → IsStretch s hs times cells y → IsStretch s hs times cells x → x.consumer ≡ y.consumer → x.site ≡ y.site → x.first ≡ y.first → IsLinkBefore x y → ⊥
              wrong x y sy sx c d e (inl h) = absurd (omega (arith, h, c))
              wrong x y sy sx c d e (inr (inl h)) = absurd (let g = h.1 in omega (arith, g, d))
              wrong x y sy sx c d e (inr (inr h)) = absurd (let g = h.2 in let o = sx.ordered in omega (arith, g, o, e))

              by_places : Contains a k → Contains a l → k ≡ l
              by_places (i, li, ei) (j, lj, ej) = elim (cases_lt i j) [
                | inl before ↦ absurd (wrong k l (stretch a are l among) (stretch a are k in_a) c d e (subst (λ x. IsLinkBefore x l) ei (subst (λ y. IsLinkBefore (get_or a i k) y) (get_or_default a j k l lj ∙ ej) (are.order i j k before lj))))
                | inr past ↦ elim (cases_lt j i) [
                  | inl before ↦ absurd (wrong l k (stretch a are k in_a) (stretch a are l among) (sym c) (sym d) (sym e) (subst (λ x. IsLinkBefore x k) ej (subst (λ y. IsLinkBefore (get_or a j l) y) (get_or_default a i l k li ∙ ei) (are.order j i l before li))))
                  | inr same ↦ let f : i ≡ j = omega (arith, past, same) in sym ei ∙ ap (λ n. get_or a n k) f ∙ get_or_default a j k l lj ∙ ej
                ]
              ]

  -- a link of one list is in the other
  over : (a b : List Link) → Are a → Are b → (l : Link) → Contains a l → Contains b l
  over a b are other l among =
      let own = stretch a are l among in
      let r = other.all l.consumer l.site l.first l.producer l.delay own.begins in
      with_met r.0 r.1 r.2
    where
      with_met : (m : Link) → Contains b m → IsInLink l.consumer l.site l.first m → Contains b l
      with_met m in_b inside =
          let own = stretch a are l among in
          let theirs = stretch b other m in_b in
          let low : m.first ≤ l.first = inside.2 in
          let high : l.first ≤ m.last = inside.3 in
          let met = theirs.between l.first l.producer l.delay low high
          (subst (λ n. IsTapped s hs times cells n m.site l.first l.producer l.delay) (sym inside.0) (subst (λ n. IsTapped s hs times cells l.consumer n l.first l.producer l.delay) (sym inside.1) own.begins)) in
          let first = begins a b are other l m among in_b inside.0 inside.1 (sym met.0) (sym met.1) high low in
          let last : m.last ≡ l.last = elim (cases_lt l.last m.last) [
            | inl less ↦ absurd (longer a b are other l m among in_b inside.0 inside.1 (sym met.0) (sym met.1) first less)
            | inr past ↦ elim (cases_lt m.last l.last) [
              | inl less ↦ absurd (longer b a other are m l in_b among (sym inside.0) (sym inside.1) met.0 met.1 (sym first) less)
              | inr same ↦ omega (arith, past, same)
            ]
          ] in
          subst (Contains b) (same_link m l inside.0 (sym met.0) inside.1 (sym met.1) first last) in_b

  pub one_links : (a b : List Link) → Are a → Are b → a ≡ b
  one_links a b are other = one_order InTurn strict a b (turns a are) (turns b other) (λ l c. over a b are other l c) (λ l c. over b a other are l c)
    where
      InTurn : Link → Link → Type 0
      InTurn k l = IsLinkBefore k l × (k.first ≤ k.last) × (l.first ≤ l.last)

      strict : (k l : Link) → InTurn k l → InTurn l k → ⊥
      strict k l h g = by_both h.0 g.0
        where
          by_both : IsLinkBefore k l → IsLinkBefore l k → ⊥
          by_both (inl x) (inl y) = absurd (omega (arith, x, y))
          by_both (inl x) (inr (inl y)) = absurd (let c = y.0 in omega (arith, x, c))
          by_both (inl x) (inr (inr y)) = absurd (let c = y.0 in omega (arith, x, c))
          by_both (inr (inl x)) (inl y) = absurd (let c = x.0 in omega (arith, y, c))
          by_both (inr (inr x)) (inl y) = absurd (let c = x.0 in omega (arith, y, c))
          by_both (inr (inl x)) (inr (inl y)) = absurd (let c = x.1 in let d = y.1 in omega (arith, c, d))
          by_both (inr (inl x)) (inr (inr y)) = absurd (let c = x.1 in let d = y.1 in omega (arith, c, d))
          by_both (inr (inr x)) (inr (inl y)) = absurd (let c = x.1 in let d = y.1 in omega (arith, c, d))
          by_both (inr (inr x)) (inr (inr y)) = absurd (let c = x.2 in let d = y.2 in let m = h.1 in let n = h.2 in omega (arith, c, d, m, n))

      turns : (a : List Link) → Are a → AllPairs InTurn a
      turns a are = λ i j d less within. (are.order i j d less within, (are.each i d (omega (arith, less, within))).ordered, (are.each j d within).ordered)
