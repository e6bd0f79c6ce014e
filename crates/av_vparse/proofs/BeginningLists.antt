-- How the readers of lists end.
use Rattle.std.proofs.Common.{◌≡◌, ℕ, zero, suc, ◌<◌, ◌≤◌, Bool, true, false, true≢false, List, [], ◌∷◌, ◌++◌, length, Result, Ok, Err, refl, sym, ap, ◌∙◌, arith, append_assoc}
use Rattle.std.proofs.lemmas.List.{append-nil}
use Rattle.av_base.specs.declared.place.Place.{Place}
use Rattle.av_net.specs.Lexemes.{Token}
use Rattle.av_net.specs.Grammar.{AreMany, no_more, one_more}
use Rattle.av_vparse.specs.inner.Reading.{◌>>=◌, Read, many_at, all_at}
use Rattle.av_vparse.proofs.Verdicts.{Ends, ends_some, Puts, puts_none, puts_both, Alike, alike_put, Completes, Verdict, past, stops, Reads, pair}

-- ---- lists

pub many_append : {A : Type 0} {Is : List Token → List Token → A → Type 0} {ts mid rest : List Token} {xs ys : List A} → AreMany Is ts mid xs → AreMany Is mid rest ys → AreMany Is ts rest (xs ++ ys)
many_append (no_more) more = more
many_append (one_more is many) more = one_more is (many_append many more)

module _ {A : Type 0} (Is : List Token → List Token → A → Type 0) (begins : List Token → Bool) (read : Read A) where
  -- all parts that begin were read, or the reader of one of them stopped
  pub data Parts (ts : List Token) : Type 0 where
    all_parts : (front : List Token → List Token) (rest : List Token) (xs : List A) → Puts front → ts ≡ front rest → Ends rest → begins rest ≡ false
        → ((n : ℕ) (k : List Token) (found : List A) → length (front k) ≤ n → begins k ≡ false → many_at begins read n found (front k) ≡ Ok (found ++ xs, k))
        → ((k : List Token) → AreMany Is (front k) k xs) → Parts ts
    part_stops : (front : List Token → List Token) (t : Token) (rest : List Token) → Puts front → ts ≡ front (t ∷ rest)
        → ((n : ℕ) (k : List Token) (found : List A) → length (front (t ∷ k)) ≤ n → many_at begins read n found (front (t ∷ k)) ≡ Err t.place)
        → ((k : List Token) → begins (front (t ∷ k)) ≡ true) → Completes (AreMany Is) front → Parts ts

  module _ (none : begins [] ≡ false) (parts : (ts : List Token) → Ends ts → begins ts ≡ true → Verdict true pair Is read ts)
      (does_begin : (ts rest : List Token) (x : A) → Is ts rest x → begins ts ≡ true)
      (goes_on : (front : List Token → List Token) (t : Token) (rest : List Token) → Puts front → begins (front (t ∷ rest)) ≡ true → ((k : List Token) → read (front (t ∷ k)) ≡ Err t.place)
      → (k : List Token) → begins (front (t ∷ k)) ≡ true)
      (shorter : (ts rest : List Token) (x : A) → Is ts rest x → length rest < length ts) where
    -- one turn of the loop
    turned : (n : ℕ) (found : List A) (ts : List Token) → length ts ≤ n → begins ts ≡ true → (r : Result (A × List Token) Place) → read ts ≡ r
        → (m : ℕ) × ((suc m ≡ n) × (many_at begins read n found ts ≡ (r >>= λ x. many_at begins read m (found ++ x.0 ∷ []) x.1)))
    unfolding many_at
    turned n found [] l b r e = absurd (true≢false (sym b ∙ none))
    turned zero found (t ∷ ts) l b r e = absurd (omega arith)
    turned (suc m) found (t ∷ ts) l b r e = (m, (refl, rw b (ap (λ z. z >>= λ x. many_at begins read m (found ++ x.0 ∷ []) x.1) e)))

    ended : (n : ℕ) (k : List Token) (found : List A) → begins k ≡ false → many_at begins read n found k ≡ Ok (found ++ [], k)
    unfolding many_at
    ended zero k found b = ap (λ (z : List A). Ok (z, k)) (sym (append-nil found))
    ended (suc n) k found b = rw b (ap (λ (z : List A). Ok (z, k)) (sym (append-nil found)))

    pub parts_judged : (n : ℕ) (ts : List Token) → length ts ≤ n → Ends ts → Parts ts
    parts_judged zero ts l e = absurd (omega (arith, ends_some e))
    parts_judged (suc n) ts l e = go (λ rest m f. parts_judged n rest m f) (begins ts) refl
      where
        behind_part : (front : List Token → List Token) (rest : List Token) (x : A) → Puts front → ts ≡ front rest → ((k : List Token) → read (front k) ≡ Ok (x, k)) → ((k : List Token) → Is (front k) k x)
            → Parts rest → Parts ts
        behind_part front rest x p is again spells (all_parts more left xs q same left_ends none_left once says) =
            all_parts (λ k. front (more k)) left (x ∷ xs) (puts_both p q) (is ∙ ap front same) left_ends none_left
            (λ n k found le b.
            let turn = turned n found (front (more k)) le (does_begin _ _ _ (spells (more k))) (Ok (x, more k)) (again (more k)) in
            turn.1.1 ∙ once turn.0 k (found ++ x ∷ []) (omega (arith, shorter _ _ _ (spells (more k)), le, turn.1.0)) b ∙ ap (λ (z : List A). Ok (z, k)) (append_assoc found (x ∷ []) xs))
            (λ k. one_more (spells (more k)) (says k))
        behind_part front rest x p is again spells (part_stops more t left q same stopped starts c) =
            part_stops (λ k. front (more k)) t left (puts_both p q) (is ∙ ap front same)
            (λ n k found le.
            let turn = turned n found (front (more (t ∷ k))) le (does_begin _ _ _ (spells (more (t ∷ k)))) (Ok (x, more (t ∷ k))) (again (more (t ∷ k))) in
            turn.1.1 ∙ stopped turn.0 k (found ++ x ∷ []) (omega (arith, shorter _ _ _ (spells (more (t ∷ k))), le, turn.1.0)))
            (λ k. does_begin _ _ _ (spells (more (t ∷ k))))
            (record { back = c.back; value = x ∷ c.value; spells = λ k. one_more (spells (more (c.back k))) (c.spells k) })

        part : ((rest : List Token) → length rest ≤ n → Ends rest → Parts rest) → begins ts ≡ true → Verdict true pair Is read ts → Parts ts
        part deeper b (stops front t rest p is again c) =
            let starts = goes_on front t rest p (ap begins (sym is) ∙ b) again in
            part_stops front t rest p is (λ n k found le. (turned n found (front (t ∷ k)) le (starts k) (Err t.place) (again k)).1.1) starts
            (record { back = c.back; value = c.value ∷ []; spells = λ k. one_more (c.spells k) no_more })
        part deeper b (past front rest x p is ends sees again spells) =
            behind_part front rest x p is (λ k. again k tt) spells (deeper rest (omega (arith, shorter _ _ _ (spells rest), ap length is, l)) ends)

        go : ((rest : List Token) → length rest ≤ n → Ends rest → Parts rest) → (b : Bool) → begins ts ≡ b → Parts ts
        go deeper true b = part deeper b (parts ts e b)
        go deeper false b = all_parts (λ k. k) ts [] puts_none refl e b (λ n k found le c. ended n k found c) (λ k. no_more)

    -- where the next token tells whether a part begins
    pub all_read : ((a b : List Token) → Alike a b → begins a ≡ begins b) → Reads false pair (AreMany Is) (all_at begins read)
    all_read alike = record { judged = λ ts e. go ts (parts_judged (length ts) ts (omega arith) e); some = record { back = λ k. k; value = []; spells = λ k. no_more } }
      where
        go : (ts : List Token) → Parts ts → Verdict false pair (AreMany Is) (all_at begins read) ts
        go ts (all_parts front rest xs p is ends none_left once says) =
            past front rest xs p is ends (λ a b l. alike_put a b p l) (λ k l. once (length (front k)) k [] (omega arith) (sym (alike rest k l) ∙ none_left)) says
        go ts (part_stops front t rest p is stopped starts c) = stops front t rest p is (λ k. stopped (length (front (t ∷ k))) k [] (omega arith)) c

pub one_goes_on : (begins : List Token → Bool) → ((a b : List Token) → Alike a b → begins a ≡ begins b) → (front : List Token → List Token) (t : Token) (rest : List Token) → Puts front
    → begins (front (t ∷ rest)) ≡ true → (k : List Token) → begins (front (t ∷ k)) ≡ true
one_goes_on begins alike front t rest p b k = alike (front (t ∷ k)) (front (t ∷ rest)) (alike_put (t ∷ k) (t ∷ rest) p refl) ∙ b

-- where the next token tells whether a part begins
pub many_read : {A : Type 0} (Is : List Token → List Token → A → Type 0) (begins : List Token → Bool) (read : Read A) → begins [] ≡ false → ((a b : List Token) → Alike a b → begins a ≡ begins b)
    → Reads true pair Is read → ((ts rest : List Token) (x : A) → Is ts rest x → begins ts ≡ true) → ((ts rest : List Token) (x : A) → Is ts rest x → length rest < length ts) → Reads false pair (AreMany Is) (all_at begins read)
many_read Is begins read none alike reads does_begin shorter =
    all_read Is begins read none (λ ts e b. reads.judged ts e) does_begin (λ front t rest p b again k. one_goes_on begins alike front t rest p b k) shorter alike
