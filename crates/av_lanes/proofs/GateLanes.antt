-- What a gate gives in one lane.
use Rattle.std.proofs.Common.{◌≡◌, ℕ, List, length, get_or, sym, ◌∙◌, ap, subst}
use Rattle.av_base.specs.Words.{IsWord}
use Rattle.av_clock.specs.declared.gate.Reading.{Reading}
use Rattle.av_clock.specs.Gates.{reading_word, IsWithin, Takes}
use Rattle.av_lanes.specs.Seen.{lane}
use Rattle.av_lanes.proofs.ByLane.{lane_size}

-- a place of one lane is one of the vectors
pub vector_within : (k : ℕ) (words : List (List ℕ)) (reading : Reading) → IsWithin (length (lane k words)) reading → IsWithin (length words) reading
vector_within k words reading h = subst (λ (size : ℕ). IsWithin size reading) (lane_size k words) h

-- what a reading brings is a word of the width that its gate takes
pub takes_word : (k : ℕ) (words : List (List ℕ)) (bits : ℕ) (reading : Reading) (word : List ℕ) → get_or word k 0 ≡ reading_word (lane k words) reading → Takes (lane k words) bits reading → IsWord bits (get_or word k 0)
takes_word k words bits reading word is takes = subst (IsWord bits) (sym is) takes.fits

-- an operation on what two readings bring
pub of_two : (f : ℕ → ℕ → ℕ) (a b x y : ℕ) → a ≡ x → b ≡ y → f a b ≡ f x y
of_two f a b x y p q = ap (λ n. f n b) p ∙ ap (f x) q

-- and on what three bring
pub of_three : (f : ℕ → ℕ → ℕ → ℕ) (a b c x y z : ℕ) → a ≡ x → b ≡ y → c ≡ z → f a b c ≡ f x y z
of_three f a b c x y z p q r = ap (λ n. f n b c) p ∙ of_two (f x) b c y z q r
