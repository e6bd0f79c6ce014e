-- The walks of the rows of faults.
use Rattle.std.proofs.Common.{◌≡◌, ℕ, suc, ◌+◌, ◌<◌, List, [], ◌∷◌, ◌++◌, length, drop, get_or, map, Option, refl, sym, ap, subst, ◌∙◌, arith, append_assoc, drop-cons}
use Rattle.std.specs.Prelude.{◌||◌, OnOk, Result, Ok, Err, if◌then◌else◌}
use Rattle.std.proofs.Math.Path.{fun_ext}
use Rattle.av_net.specs.declared.netlist.Port.{Port}
use Rattle.av_net.specs.Names.{width_in}
use Rattle.av_net.specs.Rows.{is_in, wires_of, registers_in}
use Rattle.av_vnames.specs.Scoped.{Bytes, texts}
use Rattle.av_vnames.specs.inner.Scoped.{width_found}
use Rattle.av_vparse.specs.declared.parsed.SignalDeclaration.{SignalDeclaration as FoundDeclaration}
use Rattle.av_vparse.specs.declared.parsed.SignalDeclaration.TheVariants as declaration
use Rattle.av_vparse.specs.Said.{said_declaration}
use Rattle.av_vnames.proofs.Walks.{put_in, any_or_of, found_more, or_one, width_or_one}
use denote.Ref.{Bor}
use Rattle.av_base.proofs.Lists.{next_item}

-- two lists with the same names are the same test
pub same_test : (a b : List (List ℕ)) → ((q : List ℕ) → is_in a q ≡ is_in b q) → is_in a ≡ is_in b
same_test a b h = fun_ext h

-- a set with a name more, where the name is known by another term
pub set_as : (set set' : List Bytes) (key name : Bytes) → set' ≡ (if is_in set key then set else (set ++ key ∷ [])) → key ≡ name → set' ≡ (if is_in set name then set else (set ++ name ∷ []))
set_as set set' key name e is = subst (λ (n : Bytes). set' ≡ (if is_in set n then set else (set ++ n ∷ []))) is e

pub set_more : (names : List (Bor Bytes)) (i : ℕ) (d : Bor Bytes) (set set' : List Bytes) (q : Bytes) → i < length names
    → set' ≡ (if is_in set (get_or names i d).now then set else (set ++ (get_or names i d).now ∷ []))
    → ((q : Bytes) → is_in (set ++ texts (drop i names)) q ≡ is_in (texts names) q) → is_in (set' ++ texts (drop (i + 1) names)) q ≡ is_in (texts names) q
set_more names i d set set' q lt e so =
    let x : Bor Bytes = get_or names i d in
    put_in set set' (texts (drop (i + 1) names)) x.now q e ∙ ap (λ (z : List (Bor Bytes)). is_in (set ++ texts z) q) (sym (rest_at names i d lt)) ∙ so q
  where
    rest_at : (names : List (Bor Bytes)) (i : ℕ) (d : Bor Bytes) → i < length names → drop i names ≡ get_or names i d ∷ drop (i + 1) names
    rest_at names i d lt = drop-cons names i d lt ∙ ap (λ n. get_or names i d ∷ drop n names) (let next : suc i ≡ i + 1 = omega arith in next)

-- the same names more after either list
pub more_names : (a b names : List (List ℕ)) (q : List ℕ) → is_in a q ≡ is_in b q → is_in (a ++ names) q ≡ is_in (b ++ names) q
more_names a b names q h = any_or_of q a names ∙ ap (λ x. x || is_in names q) h ∙ sym (any_or_of q b names)

-- the same widths, by what is found
pub same_widths : (a b : List Port) → ((q : List ℕ) → width_found a q ≡ width_found b q) → (q : List ℕ) → width_in a q ≡ width_in b q
same_widths a b h q = width_or_one a q ∙ ap or_one (h q) ∙ sym (width_or_one b q)

-- a walk that adds ports
module _ {X : Type 0} (F : List X → List Port) (each : (x : X) (xs : List X) → F (x ∷ xs) ≡ F (x ∷ []) ++ F xs) where
  pub widths_more : (made made' : List Port) (total : Bytes → Option ℕ) (xs : List X) (i : ℕ) (x : X) → ((q : Bytes) → width_found (made ++ F (drop i xs)) q ≡ total q) → i < length xs → x ≡ get_or xs i x
      → ((q : Bytes) → width_found made' q ≡ width_found (made ++ F (x ∷ [])) q) → (q : Bytes) → width_found (made' ++ F (drop (i + 1) xs)) q ≡ total q
  widths_more made made' total xs i x so lt at e q =
      let rest : List X = drop (i + 1) xs in
      found_more made' (made ++ F (x ∷ [])) (F rest) q (e q) ∙ ap (λ z. width_found z q) (append_assoc made (F (x ∷ [])) (F rest) ∙ ap (λ z. made ++ z) (sym (each x rest)))
      ∙ ap (λ z. width_found (made ++ F z) q) (sym (next_item xs i x lt at)) ∙ so q

-- what holds where a call was right
pub on_ok : {A E : Type 0} {P Q : Type 0} (r : Result A E) → (P → Q) → OnOk r P → OnOk r Q
on_ok (Ok x) f h = f h
on_ok (Err e) f h = tt

pub registers_each : (x : FoundDeclaration) (xs : List FoundDeclaration) → registers_in (map said_declaration (x ∷ xs)) ≡ registers_in (map said_declaration (x ∷ [])) ++ registers_in (map said_declaration xs)
registers_each (declaration.Wire port) xs = refl
registers_each (declaration.Register port) xs = refl

pub wires_each : (x : FoundDeclaration) (xs : List FoundDeclaration) → wires_of (map said_declaration (x ∷ xs)) ≡ wires_of (map said_declaration (x ∷ [])) ++ wires_of (map said_declaration xs)
wires_each (declaration.Wire port) xs = refl
wires_each (declaration.Register port) xs = refl

-- four walks one after another
pub four_walks : (w1 w2 w3 w4 a b c d : List Port) → ((q : Bytes) → width_found w1 q ≡ width_found ([] ++ a) q) → ((q : Bytes) → width_found w2 q ≡ width_found (w1 ++ b) q)
    → ((q : Bytes) → width_found w3 q ≡ width_found (w2 ++ c) q) → ((q : Bytes) → width_found w4 q ≡ width_found (w3 ++ d) q) → (q : Bytes) → width_in w4 q ≡ width_in (a ++ b ++ c ++ d) q
four_walks w1 w2 w3 w4 a b c d h1 h2 h3 h4 q =
    same_widths w4 (a ++ b ++ c ++ d) (λ p. h4 p ∙ found_more w3 (a ++ b ++ c) d p (h3 p ∙ found_more w2 (a ++ b) c p (h2 p ∙ found_more w1 a b p (h1 p)))) q
