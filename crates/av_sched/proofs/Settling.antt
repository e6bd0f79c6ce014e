-- Two lists that go together, item by item.
use Rattle.std.proofs.Common.{◌≡◌, ℕ, zero, suc, ◌+◌, ◌<◌, List, [], ◌∷◌, ◌++◌, length, get_or, take, add-one, arith, subst}
use Rattle.std.specs.List.{AllZip}

-- one more of both lists
pub zip_more : {X Y : Type 0} (R : X → Y → Type 0) (xs : List X) (ys : List Y) (i : ℕ) (x : X) (y : Y) → i < length xs → x ≡ get_or xs i x → AllZip R (take i xs) ys → R x y → AllZip R (take (i + 1) xs) (ys ++ y ∷ [])
zip_more {X} {Y} R xs ys i x y l e h r = rw add-one (go xs ys i l e h)
  where
    go : (xs : List X) (ys : List Y) (i : ℕ) → i < length xs → x ≡ get_or xs i x → AllZip R (take i xs) ys → AllZip R (take (suc i) xs) (ys ++ y ∷ [])
    go [] ys i l e h = absurd (omega (arith, l))
    go (a ∷ xs) [] zero l e h = (subst (λ (b : X). R b y) e r, tt)
    go (a ∷ xs) (b ∷ ys) zero l e h = absurd h
    go (a ∷ xs) [] (suc i) l e h = absurd h
    go (a ∷ xs) (b ∷ ys) (suc i) l e h = (h.0, go xs ys i (omega (arith, l)) e h.1)
