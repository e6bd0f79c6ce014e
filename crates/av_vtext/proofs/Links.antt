-- Links of ports that are put on a page, one after another, each behind a comma.
use Rattle.std.proofs.Common.{◌≡◌, ◌⊎◌, inl, inr, ℕ, zero, suc, ◌+◌, ◌<◌, ◌≤◌, ◌-◌, List, [], ◌∷◌, ◌++◌, map, length, get_or, take, drop, codes, refl, sym, ◌∙◌, ap, arith, append_assoc, add-one, drop-cons}
use Rattle.std.proofs.lemmas.List.{append-nil, drop_all, get_or-map, length-map, take_all}
use Rattle.std.proofs.lemmas.List.Concat.{flat_map-append}
use Rattle.av_base.specs.Outside.{SinkState}
use Rattle.av_net.specs.declared.operation.Operand.{Operand}
use Rattle.av_net.specs.declared.operation.Operand.TheVariants.{Name}
use Rattle.av_net.specs.declared.netlist.Port.{Port}
use Rattle.av_net.specs.PlanTexts.{behind_commas, joined, link_text, link_texts}
use Rattle.av_page.specs.Pages.{Draft, Puts}
use Rattle.av_page.proofs.Putting.{Puts-none, Puts-more, Puts-is}

-- what was put, and the links that are left
pub record AreGoing (s0 s1 : SinkState) (a b : Draft) (ports : List Port) (operands : List Operand) (at : ℕ) : Type 0 where
  pub text : List ℕ
  pub puts : Puts s0 s1 a b text
  pub left : text ++ behind_commas (link_texts (drop at ports) (drop at operands)) ≡ behind_commas (link_texts ports operands)

pub none_put : (s : SinkState) (a : Draft) (ports : List Port) (operands : List Operand) → AreGoing s s a a ports operands 0
none_put s a ports operands = record { text = []; puts = Puts-none s a; left = refl }

-- a comma and a link more
pub one_put : {s0 s1 s2 s3 : SinkState} {a b c d : Draft} {ports : List Port} {operands : List Operand} {at : ℕ} (port : Port) (operand : Operand) → AreGoing s0 s1 a b ports operands at
    → Puts s1 s2 b c (codes ", ") → Puts s2 s3 c d (link_text port operand) → drop at ports ≡ port ∷ drop (at + 1) ports → drop at operands ≡ operand ∷ drop (at + 1) operands → AreGoing s0 s3 a d ports operands (at + 1)
one_put {ports = ports} {operands = operands} {at = at} port operand goes comma link p o =
    let rest = behind_commas (link_texts (drop (at + 1) ports) (drop (at + 1) operands)) in
    let next : behind_commas (link_texts (drop at ports) (drop at operands)) ≡ (codes ", " ++ link_text port operand) ++ rest = rw (p, o) refl in
    record {
      text = (goes.text ++ codes ", ") ++ link_text port operand;
      puts = Puts-more (Puts-more goes.puts comma) link;
      left =
          ap (λ z. z ++ rest) (append_assoc goes.text (codes ", ") (link_text port operand)) ∙ append_assoc goes.text (codes ", " ++ link_text port operand) rest
          ∙ ap (λ z. goes.text ++ z) (sym next) ∙ goes.left;
    }

no_operands : (ports : List Port) → link_texts ports [] ≡ []
no_operands [] = refl
no_operands (port ∷ ports) = refl

no_links : (ports : List Port) (operands : List Operand) (at : ℕ) → (length ports ≤ at) ⊎ (length operands ≤ at) → link_texts (drop at ports) (drop at operands) ≡ []
no_links ports operands at (inl past) = let e = drop_all at ports past in rw e refl
no_links ports operands at (inr past) = let e = drop_all at operands past in rw e (no_operands (drop at ports))

-- and none is left
pub all_put : {s0 s1 : SinkState} {a b : Draft} {ports : List Port} {operands : List Operand} {at : ℕ} → AreGoing s0 s1 a b ports operands at → (length ports ≤ at) ⊎ (length operands ≤ at)
    → Puts s0 s1 a b (behind_commas (link_texts ports operands))
all_put {ports = ports} {operands = operands} {at = at} goes past =
    Puts-is goes.puts (sym (append-nil goes.text) ∙ ap (λ links. goes.text ++ behind_commas links) (sym (no_links ports operands at past)) ∙ goes.left)

-- ---- items at a place

pub next_item : {X : Type 0} (xs : List X) (at : ℕ) (x : X) → at < length xs → x ≡ get_or xs at x → drop at xs ≡ x ∷ drop (at + 1) xs
next_item xs at x lt is = drop-cons xs at x lt ∙ ap (λ y. y ∷ drop (suc at) xs) (sym is) ∙ ap (λ n. x ∷ drop n xs) (sym (add-one at))

pub next_name : (names : List (List ℕ)) (at : ℕ) (name : List ℕ) → at < length names → name ≡ get_or names at name → drop at (map Name names) ≡ Name name ∷ drop (at + 1) (map Name names)
next_name names at name lt is =
    next_item (map Name names) at (Name name) (omega (arith, length-map names Name)) (ap Name is ∙ sym (get_or-map Name names at name (Name name) lt))

-- ---- all links

-- links behind commas, behind a first one
pub later_links : (port : Port) (operand : Operand) (ports more : List Port) (operands others : List Operand)
    → (link_text port operand ++ behind_commas (link_texts ports operands)) ++ behind_commas (link_texts more others) ≡ joined (link_texts (port ∷ ports) (operand ∷ operands) ++ link_texts more others)
later_links port operand ports more operands others =
    append_assoc (link_text port operand) (behind_commas (link_texts ports operands)) (behind_commas (link_texts more others))
    ∙ ap (λ rest. link_text port operand ++ rest) (sym (flat_map-append (λ text. codes ", " ++ text) (link_texts ports operands) (link_texts more others)))

-- ---- a first item and the others

-- an item that is there, by any default
pub same_default : {X : Type 0} (xs : List X) (k : ℕ) (d e : X) → k < length xs → get_or xs k d ≡ get_or xs k e
same_default [] k d e lt = absurd (omega arith)
same_default (x ∷ xs) zero d e lt = refl
same_default (x ∷ xs) (suc k) d e lt = same_default xs k d e (omega arith)

pub whole : {X : Type 0} (xs : List X) (x : X) → 1 ≤ length xs → x ≡ get_or xs 0 x → xs ≡ x ∷ take (length xs - 1) (drop 1 xs)
whole [] x some is = absurd (omega arith)
whole (y ∷ xs) x some is = ap (λ z. z ∷ xs) (sym is) ∙ ap (λ rest. x ∷ rest) (sym (take_all (length (y ∷ xs) - 1) xs (omega arith)))

pub empty : {X : Type 0} (xs : List X) → length xs < 1 → xs ≡ []
empty [] none = refl
empty (x ∷ xs) none = absurd (omega arith)

pub no_operand : (ports : List Port) → link_texts ports [] ≡ []
no_operand ports = no_operands ports

pub name_links : (ports later : List Port) (names others : List (List ℕ)) (port : Port) (name : List ℕ) → ports ≡ port ∷ later → names ≡ name ∷ others
    → link_text port (Name name) ++ behind_commas (link_texts later (map Name others)) ≡ joined (link_texts ports (map Name names))
name_links ports later names others port name p n = sym (ap (λ ps. joined (link_texts ps (map Name names))) p ∙ ap (λ ns. joined (link_texts (port ∷ later) (map Name ns))) n)

pub all_links : (ports later : List Port) (operands others : List Operand) (outputs : List Port) (names : List (List ℕ)) (port : Port) (operand : Operand) → ports ≡ port ∷ later → operands ≡ operand ∷ others
    → (link_text port operand ++ behind_commas (link_texts later others)) ++ behind_commas (link_texts outputs (map Name names)) ≡ joined (link_texts ports operands ++ link_texts outputs (map Name names))
all_links ports later operands others outputs names port operand p o =
    later_links port operand later outputs others (map Name names)
    ∙ sym (ap (λ ps. joined (link_texts ps operands ++ link_texts outputs (map Name names))) p ∙ ap (λ os. joined (link_texts (port ∷ later) os ++ link_texts outputs (map Name names))) o)
