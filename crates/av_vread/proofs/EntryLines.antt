-- Entries are read from their lines.
use Rattle.std.proofs.Common.{◌≡◌, ℕ, ◌≤◌, Bool, true, false, cond, not, List, [], ◌∷◌, ◌++◌, Option, Some, None, refl, sym, ap, subst, ◌∙◌, arith, append_assoc}
use Rattle.std.specs.Prelude.{◌&&◌, ℤ, nat_abs, decimal, codes, IsTrue}
use Rattle.std.specs.Char.{is_ascii_alphabetic}
use Rattle.std.specs.List.{list_all, list_any}
use Rattle.std.specs.Str.{bytes_eq}
use Rattle.std.proofs.lemmas.List.Elements.{All-from_recursion, recursion_from_All}
use Rattle.av_base.specs.declared.token_kind.TokenKind.TheVariants as kind
use Rattle.av_base.specs.Tokens.{reserved_words, is_word_byte, IsSpelled}
use Rattle.av_base.specs.Spelling.{is_name}
use Rattle.av_net.specs.declared.design.Entry.{Entry}
use Rattle.av_net.specs.Texts.{point_text}
use Rattle.av_net.specs.Listed.{MayBeListed}
use Rattle.av_net.specs.Rows.{is_in}
use Rattle.av_vread.specs.inner.Lines.{is_not, cut}
use Rattle.av_vread.specs.inner.Entries.{point_of, numeral_of, is_wire, Parts, first_part, second_part, third_part, entry_by, entry_of, entry_in, entry_at}
use Rattle.av_base.proofs.Tables.{is_found, is_there}
use Rattle.av_base.proofs.Spelled.{word_all, name_is, name_gives}
use Rattle.av_vread.proofs.Cuts.{Without, cut_gives, cut_is}
use Rattle.av_vread.proofs.Numerals.{numeral_is, numeral_gives}
use Rattle.av_vread.proofs.Indices.{AreSmall, point_gives, point_is, point_without}
use Rattle.av_base.proofs.Truths.{and_true, both}

-- ---- words

word_blank : (text : List ℕ) → list_all is_word_byte text ≡ true → Without 32 text
word_blank [] e = tt
word_blank (b ∷ text) e = let z = both (is_word_byte b) (list_all is_word_byte text) e in (no_blank b z.0, word_blank text z.1)
  where
    no_blank : (b : ℕ) → is_word_byte b ≡ true → is_not 32 b ≡ true
    no_blank b h = grind arith

pub variable_word : (text : List ℕ) → is_name text ≡ true → list_all is_word_byte text ≡ true
variable_word [] e = refl
variable_word (b ∷ text) e =
    let z = both (is_ascii_alphabetic b) _ e in
    let w = both (list_all is_word_byte text) (not (list_any (bytes_eq (b ∷ text)) reserved_words)) z.1 in
    and_true (is_word_byte b) (list_all is_word_byte text) (letter b z.0) w.0
  where
    letter : (b : ℕ) → is_ascii_alphabetic b ≡ true → is_word_byte b ≡ true
    letter b h = grind arith

variable_blank : (text : List ℕ) → IsSpelled kind.Name text → Without 32 text
variable_blank [] s = absurd s.0
variable_blank (b ∷ text) s = word_blank (b ∷ text) (and_true (is_word_byte b) (list_all is_word_byte text) (letter b s.0.0) (word_all text (recursion_from_All (λ x. IsTrue (is_word_byte x)) text s.0.1)))
  where
    letter : (b : ℕ) → IsTrue (is_ascii_alphabetic b) → is_word_byte b ≡ true
    letter b h = grind arith

-- ---- a line from its name on

abbrev pub body : Entry → List ℕ
body entry = entry.variable ++ codes " " ++ point_text entry.point ++ codes " " ++ entry.wire ++ codes " " ++ decimal entry.cycle

abbrev pub parted : List ℕ → List ℕ → List ℕ → List ℕ → List ℕ
parted variable point wire cycle = variable ++ (32 ∷ (point ++ (32 ∷ (wire ++ (32 ∷ cycle)))))

body_is : (variable point wire cycle : List ℕ) → variable ++ codes " " ++ point ++ codes " " ++ wire ++ codes " " ++ cycle ≡ parted variable point wire cycle
body_is variable point wire cycle =
    append_assoc (variable ++ codes " " ++ point ++ codes " " ++ wire) (codes " ") cycle
    ∙ append_assoc (variable ++ codes " " ++ point ++ codes " ") wire (32 ∷ cycle)
    ∙ append_assoc (variable ++ codes " " ++ point) (codes " ") (wire ++ (32 ∷ cycle))
    ∙ append_assoc (variable ++ codes " ") point (32 ∷ (wire ++ (32 ∷ cycle)))
    ∙ append_assoc variable (codes " ") (point ++ (32 ∷ (wire ++ (32 ∷ cycle))))

-- an entry at a wire that is a word
pub record MayBeRead (wires : List (List ℕ)) (entry : Entry) : Type 0 where
  pub listed : MayBeListed wires entry
  pub worded : list_all is_word_byte entry.wire ≡ true

small : (entry : Entry) (wires : List (List ℕ)) → MayBeListed wires entry → AreSmall entry.point
small entry wires h = recursion_from_All (λ i. nat_abs i ≤ 4095) entry.point h.index

pub entry_gives : (wires : List (List ℕ)) (entry : Entry) → MayBeRead wires entry → entry_at (is_in wires) (body entry) ≡ Some entry
entry_gives wires entry h =
    let variable = entry.variable in
    let point = point_text entry.point in
    let cycle = decimal entry.cycle in
    let indices = small entry wires h.listed in
    let wire_in : is_wire (is_in wires) entry.wire ≡ true = and_true (list_all is_word_byte entry.wire) (is_in wires entry.wire) h.worded (is_found entry.wire wires h.listed.wire) in
    ap (entry_at (is_in wires)) (body_is variable point entry.wire cycle)
    ∙ ap (λ c. entry_in (is_in wires) (first_part c)) (cut_gives 32 variable (point ++ (32 ∷ (entry.wire ++ (32 ∷ cycle)))) (variable_blank variable h.listed.variable))
    ∙ ap (λ c. entry_in (is_in wires) (second_part variable c)) (cut_gives 32 point (entry.wire ++ (32 ∷ cycle)) (point_without entry.point indices))
    ∙ ap (λ c. entry_in (is_in wires) (third_part variable point c)) (cut_gives 32 entry.wire cycle (word_blank entry.wire h.worded))
    ∙ rw (name_gives variable h.listed.variable, wire_in, point_gives entry.point h.listed.indices indices, numeral_gives entry.cycle h.listed.cycle) refl

-- ---- what is read stands there

pub record IsEntry (wires : List (List ℕ)) (text : List ℕ) (entry : Entry) : Type 0 where
  pub spelled : text ≡ body entry
  pub listed : MayBeListed wires entry

entry_some : (a b : Entry) → ◌≡◌ {A = Option Entry} (Some a) (Some b) → a ≡ b
entry_some a b e = cc

module _ (wires : List (List ℕ)) (text variable point wire cycle : List ℕ) (whole : text ≡ parted variable point wire cycle) where
  by_fields : (is : List ℤ) (n : ℕ) → is_name variable ≡ true → is_wire (is_in wires) wire ≡ true → point_of point ≡ Some is → numeral_of cycle ≡ Some n
      → IsEntry wires text (record { variable = variable; point = is; wire = wire; cycle = n })
  by_fields is n v w p c =
      let pt = point_is point is p in
      let num = numeral_is cycle n c in
      let word = both (list_all is_word_byte wire) (is_in wires wire) w in
      record {
        spelled = whole ∙ ap (λ z. parted variable z wire cycle) pt.spelled ∙ ap (λ z. parted variable (point_text is) wire z) num.spelled ∙ sym (body_is variable (point_text is) wire (decimal n));
        listed = record {
          variable = name_is variable v;
          indices = pt.most;
          index = All-from_recursion (λ i. nat_abs i ≤ 4095) is pt.small;
          wire = is_there wire wires word.1;
          cycle = num.most;
        };
      }

  by_parts : (entry : Entry) → entry_of (is_in wires) (record { variable = variable; point = point; wire = wire; cycle = cycle }) ≡ Some entry → IsEntry wires text entry
  by_parts entry e = go (is_name variable) (is_wire (is_in wires) wire) refl refl e
    where
      parts : Parts
      parts = record { variable = variable; point = point; wire = wire; cycle = cycle }

      fields : (r : Option (List ℤ)) (q : Option ℕ) → point_of point ≡ r → numeral_of cycle ≡ q → is_name variable ≡ true → is_wire (is_in wires) wire ≡ true → entry_by parts r q ≡ Some entry → IsEntry wires text entry
      fields (Some is) (Some n) p c v w e = subst (IsEntry wires text) (entry_some (record { variable = variable; point = is; wire = wire; cycle = n }) entry e) (by_fields is n v w p c)
      fields (Some is) None p c v w e = absurd cc
      fields None q p c v w e = absurd cc

      go : (t u : Bool) → is_name variable ≡ t → is_wire (is_in wires) wire ≡ u → cond (t && u) (entry_by parts (point_of point) (numeral_of cycle)) None ≡ Some entry → IsEntry wires text entry
      go true true v w e = fields (point_of point) (numeral_of cycle) refl refl v w e
      go true false v w e = absurd cc
      go false u v w e = absurd cc

pub entry_is : (wires : List (List ℕ)) (text : List ℕ) (entry : Entry) → entry_at (is_in wires) text ≡ Some entry → IsEntry wires text entry
entry_is wires text entry e = first (cut 32 text) refl e
  where
    third : (a b : List ℕ × List ℕ) → cut 32 text ≡ Some a → cut 32 a.1 ≡ Some b → (c : Option (List ℕ × List ℕ)) → cut 32 b.1 ≡ c → entry_in (is_in wires) (third_part a.0 b.0 c) ≡ Some entry → IsEntry wires text entry
    third a b f g None h e = absurd cc
    third a b f g (Some c) h e =
        let x = (cut_is 32 text a f).whole in
        let y = (cut_is 32 a.1 b g).whole in
        let z = (cut_is 32 b.1 c h).whole in
        by_parts wires text a.0 b.0 c.0 c.1 (x ∙ ap (λ r. a.0 ++ (32 ∷ r)) (y ∙ ap (λ r. b.0 ++ (32 ∷ r)) z)) entry e

    second : (a : List ℕ × List ℕ) → cut 32 text ≡ Some a → (c : Option (List ℕ × List ℕ)) → cut 32 a.1 ≡ c → entry_in (is_in wires) (second_part a.0 c) ≡ Some entry → IsEntry wires text entry
    second a f None g e = absurd cc
    second a f (Some b) g e = third a b f g (cut 32 b.1) refl e

    first : (c : Option (List ℕ × List ℕ)) → cut 32 text ≡ c → entry_in (is_in wires) (first_part c) ≡ Some entry → IsEntry wires text entry
    first None f e = absurd cc
    first (Some a) f e = second a f (cut 32 a.1) refl e
