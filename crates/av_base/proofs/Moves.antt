-- What several calls take or add.
use Rattle.std.proofs.Common.{◌≡◌, ℕ, ◌+◌, ◌-◌, ◌<◌, ◌≤◌, List, [], ◌++◌, length, take, drop, Option, Some, None, sym, append_assoc, length-append, arith, inl, inr, IfSome, take-add, drop-drop}
use Rattle.std.specs.Prelude.{Result, Ok, Err, OnErr}
use Rattle.std.proofs.lemmas.List.{append-nil, take-append-drop, take_rest}
use Rattle.av_base.specs.Outside.{Takes, Adds, HasRisen}

pub Takes-more : (a b c : Option (List ℕ)) (xs ys : List ℕ) → Takes a b xs → Takes b c ys → Takes a c (xs ++ ys)
Takes-more (Some a) (Some b) (Some c) xs ys h k = rw (h, k) (sym (append_assoc xs ys c))
Takes-more (Some a) (Some b) None xs ys h k = k
Takes-more (Some a) None c xs ys h k = absurd h
Takes-more None (Some b) c xs ys h k = absurd h
Takes-more None None (Some c) xs ys h k = k
Takes-more None None None xs ys h k = tt

pub Takes-none : (a b : Option (List ℕ)) → a ≡ b → Takes a b []
Takes-none (Some a) (Some b) e = cc
Takes-none (Some a) None e = cc
Takes-none None (Some b) e = cc
Takes-none None None e = tt

pub Adds-more : (a b c : Option (List ℕ)) (xs ys : List ℕ) → Adds a b xs → Adds b c ys → Adds a c (xs ++ ys)
Adds-more (Some a) (Some b) (Some c) xs ys h k = rw (k, h) (append_assoc a xs ys)
Adds-more (Some a) (Some b) None xs ys h k = k
Adds-more (Some a) None c xs ys h k = absurd h
Adds-more None (Some b) c xs ys h k = absurd h
Adds-more None None (Some c) xs ys h k = k
Adds-more None None None xs ys h k = tt

pub Adds-none : (a b : Option (List ℕ)) → b ≡ a → Adds a b []
Adds-none (Some a) (Some b) e = let n = append-nil a in cc
Adds-none (Some a) None e = cc
Adds-none None (Some b) e = cc
Adds-none None None e = tt

-- more than the limit were there
pub Takes-long : (a b : Option (List ℕ)) (xs : List ℕ) (limit : ℕ) → Takes a b xs → limit < length xs → IfSome a (λ all. limit < length all)
Takes-long (Some a) (Some b) xs limit h lt = rw h (omega (arith, length-append xs b))
Takes-long (Some a) None xs limit h lt = absurd h
Takes-long None b xs limit h lt = tt

pub risen_since : (a b c : ℕ) → a ≤ b → HasRisen b c → HasRisen a c
risen_since a b c le (inl lt) = inl (omega arith)
risen_since a b c le (inr last) = inr last

-- after a write of the first n of the rest
pub Adds-next : (a b c : Option (List ℕ)) (i n : ℕ) (bytes : List ℕ) → Adds a b (take i bytes) → Adds b c (take n (take (length bytes - i) (drop i bytes))) → Adds a c (take (i + n) bytes)
Adds-next a b c i n bytes h k = rw take-add (Adds-more a b c (take i bytes) (take n (drop i bytes)) h (rw take_rest at k))

-- what was taken, and the rest
pub Takes-front : (bytes into : List ℕ) (at n : ℕ) → take n into ≡ take n (drop at bytes) → drop at bytes ≡ take n into ++ drop (at + n) bytes
Takes-front bytes into at n e =
    let rest : drop n (drop at bytes) ≡ drop (at + n) bytes = drop-drop n at bytes in
    let both : take n (drop at bytes) ++ drop n (drop at bytes) ≡ drop at bytes = take-append-drop n (drop at bytes) in
    cc

-- what holds in any case holds of an error
pub on_err : {T E P : Type 0} (r : Result T E) → P → OnErr r P
on_err (Ok t) h = tt
on_err (Err e) h = h
