-- Steps of reading, for where a reader stops at the tokens of a front.
use Rattle.std.proofs.Common.{◌≡◌, ℕ, ◌<◌, ◌≤◌, List, length, Result, Ok, Err, sym, subst, arith, inl, inr, ◌⊎◌}
use Rattle.av_base.specs.Tokens.{Token}
use Rattle.av_tree.specs.FrontsParts.{Meant, every, ending, MayWait, MayEnd}
use Rattle.av_parse.specs.declared.fault.Fault.{Fault}
use Rattle.av_parse.specs.declared.fault.Fault.TheVariants.{Syntax, Depth}
use Rattle.av_parse.specs.inner.Reader.{◌>>=◌}
use Rattle.av_parse.proofs.WithinIndex.{Within, left, stops, deep, closer}
use Rattle.av_parse.proofs.FewerLevels.{Spelt, got, drowned}

-- the last token of the front, where it is told, has a level below l
abbrev pub Below : Meant → ℕ → Type 0
Below every l = Unit {0}
Below (ending j) l = j < l

-- if it has none below l, k is more than m
abbrev pub Above : Meant → ℕ → ℕ → ℕ → Type 0
Above every l m k = Unit {0}
Above (ending j) l m k = l ≤ j → m < k

-- a reader with the levels below l stops with no more than the m tokens left that are left behind the front, and only where
-- the last token of the front has a level below l; or there is a fault of depth, at that token or before where it has none below l
pub data Reaches {A : Type 0} (w : Meant) (l m : ℕ) : Result (A × List Token) Fault → Type 0 where
  reads : {x : A × List Token} → Below w l → length x.1 ≤ m → Reaches w l m (Ok x)
  faults : {k : ℕ} → Below w l → k ≤ m → Reaches w l m (Err (Syntax k))
  sinks : {k : ℕ} → Above w l m k → Reaches w l m (Err (Depth k))

pub above : (w : Meant) (l m k : ℕ) → m < k → Above w l m k
above every l m k h = tt
above (ending j) l m k h = λ _. h

never : (w : Meant) (l m k : ℕ) → Below w l → Above w l m k
never every l m k below = tt
never (ending j) l m k below = λ deep. absurd (omega arith)

-- the last token of the front is not too deep
pub reach : {A : Type 0} {w : Meant} {l m : ℕ} {r : Result (A × List Token) Fault} → Below w l → Within m r → Reaches w l m r
reach below (left le) = reads below le
reach below (stops le) = faults below le
reach {w = w} {l = l} {m = m} below (deep {k = k}) = sinks (never w l m k below)

-- the front ends in the first part
pub ahead : {A B : Type 0} {w : Meant} {l m : ℕ} {r : Result (A × List Token) Fault} (f : A × List Token → Result (B × List Token) Fault) → Reaches w l m r
    → ((x : A × List Token) → Within (length x.1) (f x)) → Reaches w l m (r >>= f)
ahead f (reads {x = x} below le) go = reach below (closer (go x) le)
ahead f (faults below le) go = faults below le
ahead f (sinks a) go = sinks a

-- the front goes on behind the first part, which is spelled
pub further : {A B : Type 0} {k : ℕ} {mid : List Token} {w : Meant} {l m : ℕ} {r : Result (A × List Token) Fault} (f : A × List Token → Result (B × List Token) Fault)
    → Spelt k mid r → m ≤ length mid → ((a : A) → 0 < k → Reaches w l m (f (a, mid))) → Reaches w l m (r >>= f)
further f (got {a = a} h) le go = go a h
further {w = w} {l = l} {m = m} f (drowned {m = d} h) le go = sinks (above w l m d (omega arith))

-- nothing came behind what is spelled
pub as_every : {A : Type 0} {w : Meant} {l m : ℕ} {r : Result (A × List Token) Fault} → MayWait w → Reaches every l m r → Reaches w l m r
as_every {w = every} wait h = h
as_every {w = ending j} wait h = absurd wait

pub wait_below : (w : Meant) (l : ℕ) → MayWait w → Below w l
wait_below every l wait = tt
wait_below (ending j) l wait = absurd wait

pub end_below : (w : Meant) (n l : ℕ) → MayEnd w n → n < l → Below w l
end_below every n l is h = tt
end_below (ending j) n l is h = omega arith

pub level_below : (w : Meant) (n l : ℕ) → MayWait w ⊎ MayEnd w n → n < l → Below w l
level_below w n l (inl wait) h = wait_below w l wait
level_below w n l (inr is) h = end_below w n l is h

-- nothing of the part came
pub at_rest : {A : Type 0} {w : Meant} {l : ℕ} {ts r : List Token} {x : Result (A × List Token) Fault} → r ≡ ts → Reaches w l (length ts) x → Reaches w l (length r) x
at_rest {w = w} {l = l} {x = x} e h = subst (λ z. Reaches w l (length z) x) (sym e) h
