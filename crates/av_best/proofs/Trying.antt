-- One level of the walk: the parts of one node are tried in turn, and the walk goes on behind each that is not barred.
use Rattle.std.proofs.Common.{◌≡◌, ℕ, suc, ◌+◌, ◌<◌, ◌≤◌, ⊎_elim, take, Option, List, [], ◌∷◌, ◌++◌, length, sym, ap, subst, ◌∙◌, arith, get_or-set_same, get_or-set_other, length-set, get_or}
use Rattle.std.proofs.lemmas.List.{set-get_or}
use Rattle.std.specs.Prelude.{Some, slice_get, slice_set, slice_index_or}
use Rattle.std.proofs.lemmas.Bool.{cases_eq}
use Rattle.std.proofs.lemmas.List.Elements.{Contains-push_cases}
use Rattle.av_tree.specs.Points.{Point}
use Rattle.av_flat.specs.Trees.{Variable, FlatSystem}
use Rattle.av_flat.specs.Nodes.{nodes}
use Rattle.av_flat.specs.Schedules.{IsLinearPart}
use Rattle.av_sched.specs.Offsets.{part}
use Rattle.av_sched.specs.Choices.{AreLinearParts}
use Rattle.av_sched.specs.Parts.{Agrees, AreParts}
use Rattle.av_sched.specs.declared.price.Price.{Price}
use Rattle.av_sched.specs.Prices.{IsSpent, IsPriceAt}
use Rattle.av_sched.proofs.Pricing.{spent_next}
use Rattle.av_sched.proofs.Steps.{set_set}
use Rattle.av_base.proofs.Lists.{there_is}
use Rattle.av_best.specs.declared.best.Best.{Best}
use Rattle.av_best.specs.declared.span.PartSpan.{PartSpan}
use Rattle.av_best.specs.Least.{all_nodes}
use Rattle.av_best.specs.inner.Spans.{IsSpanAt, AreSpanned}
use Rattle.av_best.specs.inner.Joint.{IsSound, IsBarred, HasWalked, HasTried}
use Rattle.av_best.proofs.Every.{as_many, node_there, agreed}

-- a walk after which nothing is to be found
pub nothing_there : (s : FlatSystem) (c k : ℕ) (linear : List Point) (old : Option Best) → IsSound s c old → IsBarred s c k linear old → HasWalked s c k linear old old
nothing_there s c k linear old sound barred = record { sound = sound; keeps = λ other parts met. met; covers = barred }

-- the first parts of both are the same
pub same_first : (s : FlatSystem) (k : ℕ) (a b other : List Point) → k ≤ length (nodes s) → ((j : ℕ) → j < k → part a j ≡ part b j) → Agrees (all_nodes s) k a other → Agrees (all_nodes s) k b other
same_first s k a b other few same agrees j l =
    let e = node_there s j 0 (omega (arith, few, l)) in
    agrees j l ∙ ap (part a) e ∙ same j l ∙ sym (ap (part b) e)

-- in the loop over the parts of node k
pub record IsWalking (s : FlatSystem) (c k : ℕ) (start now tried : List Point) (old new : Option Best) : Type 0 where
  pub done : HasTried s c k start tried old new
  pub valid : AreLinearParts s c now
  pub back : slice_set now k (part start k) ≡ start

module _ (s : FlatSystem) (c k : ℕ) (fits : k < length (nodes s)) where
  pub walking_start : (start : List Point) (old : Option Best) → AreLinearParts s c start → IsSound s c old → IsWalking s c k start start [] old old
  walking_start start old valid sound = record {
    done = record { sound = sound; keeps = λ other parts met. met; covers = λ other parts agrees among. absurd (omega (arith, among.1)) };
    valid = valid;
    back = set-get_or start k [];
  }

  -- with another part at the node the parts are still valid
  pub set_valid : (now : List Point) (v : Point) → ((w : Variable) → slice_get (nodes s) k ≡ Some w → IsLinearPart c w.domain.dim v) → AreLinearParts s c now → AreLinearParts s c (slice_set now k v)
  set_valid now v own are = record {
    one_each = length-set now k v ∙ are.one_each;
    each = λ m w e. ⊎_elim
        (λ q.
        let l : k < length now = (let a = are.one_each in omega (arith, a, fits)) in
        let at : part (slice_set now k v) m ≡ v = ap (part (slice_set now k v)) q ∙ get_or-set_same now k v [] l in
        subst (IsLinearPart c w.domain.dim) (sym at) (own w (subst (λ (i : ℕ). slice_get (nodes s) i ≡ Some w) q e)))
        (λ q. subst (IsLinearPart c w.domain.dim) (sym (get_or-set_other now k m v [] q)) (are.each m w e))
        (cases_eq m k);
  }

  pub same_next : (start now tried : List Point) (old mid : Option Best) (v : Point) → IsWalking s c k start now tried old mid → slice_set start k v ≡ slice_set now k v
  same_next start now tried old mid v h = ap (λ xs. slice_set xs k v) (sym h.back) ∙ set_set now k (part start k) v

  leads_on : (linear other : List Point) (v : Point) → k < length linear → Agrees (all_nodes s) k linear other → part other k ≡ v → Agrees (all_nodes s) (suc k) (slice_set linear k v) other
  leads_on linear other v l agrees e j m =
      let q = node_there s j 0 (omega (arith, m, fits)) in
      let here : part other j ≡ part (slice_set linear k v) j =
      ⊎_elim
      (λ i. ap (part other) i ∙ e ∙ sym (ap (part (slice_set linear k v)) i ∙ get_or-set_same linear k v [] l))
      (λ i. agreed s k linear other (omega (arith, fits)) agrees j (omega (arith, m, i)) ∙ sym (get_or-set_other linear k j v [] i))
      (cases_eq j k) in
      ap (part other) q ∙ here ∙ sym (ap (part (slice_set linear k v)) q)

  -- one part more
  pub walking_more : (start now tried : List Point) (old mid new : Option Best) (v : Point) → ((w : Variable) → slice_get (nodes s) k ≡ Some w → IsLinearPart c w.domain.dim v)
      → IsWalking s c k start now tried old mid → AreLinearParts s c start → HasWalked s c (suc k) (slice_set now k v) mid new → IsWalking s c k start (slice_set now k v) (tried ++ v ∷ []) old new
  walking_more start now tried old mid new v own h valid walked =
      let same = same_next start now tried old mid v h in
      let l : k < length start = (let a = valid.one_each in omega (arith, a, fits)) in
      record {
        done = record {
          sound = walked.sound;
          keeps = λ other parts met. walked.keeps other parts (h.done.keeps other parts met);
          covers = λ other parts agrees among. ⊎_elim
              (λ before. walked.keeps other parts (h.done.covers other parts agrees before))
              (λ e. walked.covers other parts (subst (λ (xs : List Point). Agrees (all_nodes s) (suc k) xs other) same (leads_on start other v l agrees (sym e))))
              (Contains-push_cases tried v (part other k) among);
        };
        valid = set_valid now v own h.valid;
        back = set_set now k v (part start k) ∙ h.back;
      }

  -- after all parts
  pub walking_done : (start now parts : List Point) (old new : Option Best) → AreParts s c k parts → IsWalking s c k start now parts old new → HasWalked s c k start old new
  walking_done start now parts old new all h = record {
    sound = h.done.sound;
    keeps = h.done.keeps;
    covers = λ other are agrees. h.done.covers other are agrees (let e = there_is (nodes s) k fits in all.all e.0 e.1 (part other k) (are.each k e.0 e.1));
  }

-- ---- spans

-- the spans of the first parts stay where those parts stay
pub spanned_same : (s : FlatSystem) (k : ℕ) (a b : List Point) (spans : List PartSpan) → ((j : ℕ) → j < k → part a j ≡ part b j) → AreSpanned s k a spans → AreSpanned s k b spans
spanned_same s k a b spans same h = record { within = h.within; each = λ j d l. subst (λ (p : Point). IsSpanAt s j p (slice_index_or spans j d)) (same j l) (h.each j d l) }

pub spanned_less : (s : FlatSystem) (k : ℕ) (linear : List Point) (spans : List PartSpan) → AreSpanned s (suc k) linear spans → AreSpanned s k linear spans
spanned_less s k linear spans h = record { within = (let w = h.within in omega (arith, w)); each = λ j d l. h.each j d (omega (arith, l)) }

pub set_first : (linear : List Point) (k : ℕ) (v : Point) (j : ℕ) → j < k → part (slice_set linear k v) j ≡ part linear j
set_first linear k v j l = get_or-set_other linear k j v [] (λ e. omega (arith, e, l))

-- with the next part and its span
pub spanned_more : (s : FlatSystem) (k : ℕ) (linear : List Point) (spans : List PartSpan) (v : Point) (span : PartSpan) → k < length linear → k < length spans → IsSpanAt s k v span → AreSpanned s k linear spans
    → AreSpanned s (suc k) (slice_set linear k v) (slice_set spans k span)
spanned_more s k linear spans v span l m is h = record {
  within = (let e = length-set spans k span in omega (arith, e, m));
  each = λ j d i. ⊎_elim
      (λ q.
      let a : part (slice_set linear k v) j ≡ v = ap (part (slice_set linear k v)) q ∙ get_or-set_same linear k v [] l in
      let b : get_or (slice_set spans k span) j d ≡ span = ap (λ (n : ℕ). get_or (slice_set spans k span) n d) q ∙ get_or-set_same spans k span d m in
      subst (λ (p : Point). IsSpanAt s j p (get_or (slice_set spans k span) j d)) (sym a)
      (subst (λ (t : PartSpan). IsSpanAt s j v t) (sym b) (subst (λ (n : ℕ). IsSpanAt s n v span) (sym q) is)))
      (λ q.
      let a = get_or-set_other linear k j v [] q in
      let b : get_or (slice_set spans k span) j d ≡ get_or spans j d = get_or-set_other spans k j span d q in
      subst (λ (p : Point). IsSpanAt s j p (get_or (slice_set spans k span) j d)) (sym a)
      (subst (λ (t : PartSpan). IsSpanAt s j (part linear j) t) (sym b) (h.each j d (omega (arith, i, q)))))
      (cases_eq j k);
}

-- the spans of the first parts go with each choice in the loop
pub spanned_now : (s : FlatSystem) (c k : ℕ) (start now tried : List Point) (old new : Option Best) (spans : List PartSpan) → IsWalking s c k start now tried old new → AreSpanned s k start spans → AreSpanned s k now spans
spanned_now s c k start now tried old new spans h spanned =
    spanned_same s k start now spans
    (λ j l. ap (λ xs. part xs j) (sym h.back) ∙ set_first now k (part start k) j l) spanned

-- and back
pub spanned_back : (s : FlatSystem) (c k : ℕ) (start now tried : List Point) (old new : Option Best) (spans : List PartSpan) → IsWalking s c k start now tried old new → AreSpanned s k now spans → AreSpanned s k start spans
spanned_back s c k start now tried old new spans h spanned =
    spanned_same s k now start spans
    (λ j l. sym (set_first now k (part start k) j l) ∙ ap (λ xs. part xs j) h.back) spanned

-- ---- what is spent

-- with the next part and its price
pub spent_there : (s : FlatSystem) (k : ℕ) (start next : List Point) (v : Point) (spent own new : Price) → k < length (nodes s) → k < length start → slice_set start k v ≡ next → IsSpent s start (take k (all_nodes s)) spent → IsPriceAt s k v own
    → new.left ≡ spent.left + own.left → new.size ≡ spent.size + own.size → IsSpent s next (take (k + 1) (all_nodes s)) new
spent_there s k start next v spent own new fits l e h price left size =
    let q : k ≡ slice_index_or (all_nodes s) k 0 = sym (node_there s k 0 fits) in
    spent_next s (all_nodes s) k start next v spent own new
    (let many = as_many s in omega (arith, fits, many))
    (subst (λ (n : ℕ). n < length start) q l)
    (λ j m same. let at = node_there s j 0 (omega (arith, m, fits)) in omega (arith, m, at, same, q))
    (subst (λ (n : ℕ). slice_set start n v ≡ next) q e) h (subst (λ (n : ℕ). IsPriceAt s n v own) q price) left size
