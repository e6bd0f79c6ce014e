-- Two lists item by item, and the first item of which something holds. Only private contracts cite this.
use Rattle.std.specs.Prelude.{◌⊎◌, List, [], ◌∷◌}

-- as many items here as there, and R of each and its partner
abbrev pub Pairwise : {X Y : Type 0} → (X → Y → Type 0) → List X → List Y → Type 0
Pairwise R [] [] = Unit {0}
Pairwise R (x ∷ xs) (y ∷ ys) = R x y × Pairwise R xs ys
Pairwise R _ _ = ⊥

-- Q holds of an item, and G of those before it
abbrev pub IsFirstOf : {X : Type 0} → (X → Type 0) → (X → Type 0) → List X → Type 0
IsFirstOf G Q [] = ⊥
IsFirstOf G Q (x ∷ xs) = Q x ⊎ (G x × IsFirstOf G Q xs)
