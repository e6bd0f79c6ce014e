-- No front of a program goes beyond where its reader stops; and where the last token of the front is too deep for the
-- reader's levels, it stops at a fault of depth, at that token or before.
use Rattle.std.proofs.Common.{◌≡◌, ℕ, zero, suc, ◌<◌, ◌≤◌, Bool, true, false, List, [], ◌∷◌, length, Option, Result, Ok, Err, refl, subst, arith, inl, inr, ◌⊎◌}
use Rattle.std.specs.Prelude.{codes, if◌then◌else◌}
use Rattle.av_base.specs.declared.place.Place.{Place}
use Rattle.av_base.specs.declared.token_kind.TokenKind.TheVariants as kind
use Rattle.av_base.specs.Tokens.{Token}
use Rattle.av_tree.specs.declared.domain.DomainText.{DomainText}
use Rattle.av_tree.specs.declared.system.Declaration.{Declaration}
use Rattle.av_tree.specs.Trees.{Text, Equation, System}
use Rattle.av_tree.specs.Parts.{IsSymbol, IsReserved, IsEnd}
use Rattle.av_tree.specs.Grammar as whole
use Rattle.av_tree.specs.Grammar.{IsSizes, IsEquation, IsEquations, IsSemicolon, IsSystem}
use Rattle.av_tree.specs.FrontsParts as parts
use Rattle.av_tree.specs.FrontsParts.{Meant, MayWait, MayEnd}
use Rattle.av_tree.specs.Fronts as fronts
use Rattle.av_tree.specs.Fronts.{FrontEquation, FrontEquations, FrontBody, FrontReturns, FrontSignature, FrontSystem, FrontProgram}
use Rattle.av_parse.specs.declared.fault.Fault.{Fault}
use Rattle.av_parse.specs.declared.fault.Fault.TheVariants.{Syntax, Depth}
use Rattle.av_parse.specs.inner.Reader.{◌>>=◌, begins, begins_symbol, same, expect, expect_symbol, expect_word, syntax}
use Rattle.av_parse.specs.inner.ExpressionReader.{readers}
use Rattle.av_parse.specs.inner.ProgramReader.{declarations_of, inputs_of, locals_of, sizes_of, equation_of, equations_of, semicolon_of, SystemHeader, header_of, system_of, ended, program_of}
use Rattle.av_parse.proofs.Follow.{same_self, kind_not, text_not, symbol_yes, expect_gives, symbol_gives, word_gives}
use Rattle.av_parse.proofs.Takes.{equation_takes, equations_take}
use Rattle.av_parse.proofs.CompleteIndex.{domain_complete}
use Rattle.av_parse.proofs.CompleteExpression.{semicolon_ends}
use Rattle.av_parse.proofs.CompleteProgram.{declarations_complete, inputs_complete, locals_complete, index_names_complete, equation_begins, semicolon_complete, header_gives}
use Rattle.av_parse.proofs.WithinIndex.{Within, left, bind_within, le_same, expect_within, expect_with_within, symbol_within}
use Rattle.av_parse.proofs.WithinExpression.{all_within}
use Rattle.av_parse.proofs.WithinProgram.{declarations_within, inputs_within, locals_within, sizes_within, index_names_within, equation_within, equations_within, semicolon_within}
use Rattle.av_parse.proofs.WholeExpression.{expr_front}
use Rattle.av_parse.proofs.WholeProgram.{declarations_front, inputs_front, locals_front, sizes_front, index_names_front, equations_front, system_front}
use Rattle.av_parse.proofs.FewerLevels.{Spelt, got, drowned, expr_spelt}
use Rattle.av_parse.proofs.SpeltPrimaries.{spelt_bind}
use Rattle.av_parse.proofs.FrontsTake.{front_equations_takes}
use Rattle.av_parse.proofs.FrontsEnd.{front_sizes_ends, front_inputs_ends, front_declarations_ends, front_locals_ends, front_index_names_ends}
use Rattle.av_parse.proofs.BeyondIndex.{here}
use Rattle.av_parse.proofs.BeyondDeclarations.{front_declarations, front_inputs, front_locals, front_sizes, front_index_names}
use Rattle.av_parse.proofs.BeyondSteps.{Reaches, reads, faults, sinks, Below, Above, above, reach, ahead, further, as_every, level_below, at_rest}
use Rattle.av_parse.proofs.BeyondExpression.{Beyond}
use Rattle.av_parse.proofs.BeyondLevels.{all_beyond}

-- ---- the header

-- ")" ";", behind the outputs
abbrev outputs_end : Text → DomainText → List Declaration → List Declaration → List Token → Result (SystemHeader × List Token) Fault
outputs_end x z ins outs ts = expect_symbol (codes ")") ts >>= λ d. expect_symbol (codes ";") d.1 >>= λ s. Ok (record { name = x; sizes = z; inputs = ins; outputs = outs }, s.1)

-- declarations ")" ";", behind the second "("
abbrev outputs_rest : Text → DomainText → List Declaration → List Token → Result (SystemHeader × List Token) Fault
outputs_rest x z ins ts = declarations_of (length ts) ts >>= λ outs. outputs_end x z ins outs.0 outs.1

-- "returns" "(" declarations ")" ";"
abbrev returns_rest : Text → DomainText → List Declaration → List Token → Result (SystemHeader × List Token) Fault
returns_rest x z ins ts = expect_word (codes "returns") ts >>= λ r. expect_symbol (codes "(") r.1 >>= λ p. outputs_rest x z ins p.1

-- ")" and so on, behind the inputs
abbrev inputs_end : Text → DomainText → List Declaration → List Token → Result (SystemHeader × List Token) Fault
inputs_end x z ins ts = expect_symbol (codes ")") ts >>= λ c. returns_rest x z ins c.1

-- "(" [ declarations ] ")" and so on
abbrev signature_rest : Text → DomainText → List Token → Result (SystemHeader × List Token) Fault
signature_rest x z ts = expect_symbol (codes "(") ts >>= λ o. inputs_of o.1 >>= λ ins. inputs_end x z ins.0 ins.1

-- [ ":" domain ] and so on, behind the name
abbrev sizes_rest : Text → Place → List Token → Result (SystemHeader × List Token) Fault
sizes_rest x p ts = sizes_of p ts >>= λ z. signature_rest x z.0 z.1

outputs_end_within : (x : Text) (z : DomainText) (ins outs : List Declaration) (ts : List Token) → Within (length ts) (outputs_end x z ins outs ts)
outputs_end_within x z ins outs ts = bind_within _ (symbol_within (codes ")") ts) (λ d. bind_within _ (symbol_within (codes ";") d.1) (λ s. left (le_same _)))

outputs_within : (x : Text) (z : DomainText) (ins : List Declaration) (ts : List Token) → Within (length ts) (outputs_rest x z ins ts)
outputs_within x z ins ts = bind_within _ (declarations_within (length ts) ts) (λ outs. outputs_end_within x z ins outs.0 outs.1)

returns_within : (x : Text) (z : DomainText) (ins : List Declaration) (ts : List Token) → Within (length ts) (returns_rest x z ins ts)
returns_within x z ins ts = bind_within _ (expect_with_within kind.Reserved (codes "returns") ts) (λ r. bind_within _ (symbol_within (codes "(") r.1) (λ p. outputs_within x z ins p.1))

inputs_end_within : (x : Text) (z : DomainText) (ins : List Declaration) (ts : List Token) → Within (length ts) (inputs_end x z ins ts)
inputs_end_within x z ins ts = bind_within _ (symbol_within (codes ")") ts) (λ c. returns_within x z ins c.1)

signature_within : (x : Text) (z : DomainText) (ts : List Token) → Within (length ts) (signature_rest x z ts)
signature_within x z ts = bind_within _ (symbol_within (codes "(") ts) (λ o. bind_within _ (inputs_within o.1) (λ ins. inputs_end_within x z ins.0 ins.1))

sizes_rest_within : (x : Text) (p : Place) (ts : List Token) → Within (length ts) (sizes_rest x p ts)
sizes_rest_within x p ts = bind_within _ (sizes_within p ts) (λ z. signature_within x z.0 z.1)

-- the front ends in the header, or in the body behind it
pub data Heads (w : Meant) (r : List Token) : Result (SystemHeader × List Token) Fault → Type 0 where
  inside : {y : Result (SystemHeader × List Token) Fault} → MayWait w ⊎ MayEnd w 0 → Within (length r) y → Heads w r y
  behind : {h : SystemHeader} {mid : List Token} → FrontBody w mid r → Heads w r (Ok (h, mid))

front_returns : {w : Meant} {ts r : List Token} → FrontReturns w ts r → (x : Text) (z : DomainText) (ins : List Declaration) → Heads w r (returns_rest x z ins ts)
front_returns (fronts.at_returns {ts = ts} (parts.not_yet wait)) x z ins = inside (inl wait) (returns_within x z ins ts)
front_returns (fronts.at_returns (parts.came {x = v} {ts = ts} is e)) x z ins =
    rw (word_gives (codes "returns") v ts is) (inside (inr e) (bind_within _ (symbol_within (codes "(") ts) (λ p. outputs_within x z ins p.1)))
front_returns (fronts.at_open {x = v} {ts = ts} is (parts.not_yet wait)) x z ins =
    rw (word_gives (codes "returns") v ts is) (inside (inl wait) (bind_within _ (symbol_within (codes "(") ts) (λ p. outputs_within x z ins p.1)))
front_returns (fronts.at_open {x = v} is (parts.came {x = p} {ts = t} opened e)) x z ins =
    rw (word_gives (codes "returns") v (p ∷ t) is, symbol_gives (codes "(") p t opened) (inside (inr e) (outputs_within x z ins t))
front_returns (fronts.in_outputs {x = v} {p = p} {ts = ts} is opened h) x z ins =
    rw (word_gives (codes "returns") v (p ∷ ts) is, symbol_gives (codes "(") p ts opened)
    (inside (front_declarations_ends h) (bind_within _ (front_declarations h (length ts) (le_same _)) (λ outs. outputs_end_within x z ins outs.0 outs.1)))
front_returns (fronts.at_close {x = v} {p = p} {ts = ts} is opened ds (parts.not_yet wait)) x z ins =
    rw (word_gives (codes "returns") v (p ∷ ts) is, symbol_gives (codes "(") p ts opened)
    (inside (inl wait) (bind_within _ (front_declarations (declarations_front ds) (length ts) (le_same _)) (λ outs. outputs_end_within x z ins outs.0 outs.1)))
front_returns (fronts.at_close {x = v} {p = p} {ts = ts} is opened ds (parts.came {x = d} {ts = t} close e)) x z ins =
    rw (word_gives (codes "returns") v (p ∷ ts) is, symbol_gives (codes "(") p ts opened, declarations_complete ds close (length ts) (le_same _), symbol_gives (codes ")") d t close)
    (inside (inr e) (bind_within _ (symbol_within (codes ";") t) (λ s. left (le_same _))))
front_returns (fronts.at_semicolon {x = v} {p = p} {d = d} {ts = ts} {mid = mid} is opened ds close (parts.not_yet wait)) x z ins =
    rw (word_gives (codes "returns") v (p ∷ ts) is, symbol_gives (codes "(") p ts opened, declarations_complete ds close (length ts) (le_same _), symbol_gives (codes ")") d mid close)
    (inside (inl wait) (bind_within _ (symbol_within (codes ";") mid) (λ s. left (le_same _))))
front_returns (fronts.at_semicolon {x = v} {p = p} {d = d} {ts = ts} is opened ds close (parts.came {x = s} {ts = t} semi e)) x z ins =
    rw (
      word_gives (codes "returns") v (p ∷ ts) is,
      symbol_gives (codes "(") p ts opened,
      declarations_complete ds close (length ts) (le_same _),
      symbol_gives (codes ")") d (s ∷ t) close,
      symbol_gives (codes ";") s t semi,
    ) (inside (inr e) (left (le_same _)))
front_returns (fronts.in_body {x = v} {p = p} {d = d} {s = s} {ts = ts} {mid = mid} is opened ds close semi body) x z ins =
    rw (
      word_gives (codes "returns") v (p ∷ ts) is,
      symbol_gives (codes "(") p ts opened,
      declarations_complete ds close (length ts) (le_same _),
      symbol_gives (codes ")") d (s ∷ mid) close,
      symbol_gives (codes ";") s mid semi,
    ) (behind body)

front_signature : {w : Meant} {ts r : List Token} → FrontSignature w ts r → (x : Text) (z : DomainText) → Heads w r (signature_rest x z ts)
front_signature (fronts.at_open {ts = ts} (parts.not_yet wait)) x z = inside (inl wait) (signature_within x z ts)
front_signature (fronts.at_open (parts.came {x = o} {ts = ts} is e)) x z =
    rw (symbol_gives (codes "(") o ts is) (inside (inr e) (bind_within _ (inputs_within ts) (λ ins. inputs_end_within x z ins.0 ins.1)))
front_signature (fronts.in_inputs {o = o} {ts = ts} is h) x z =
    rw (symbol_gives (codes "(") o ts is) (inside (front_inputs_ends h) (bind_within _ (front_inputs h) (λ ins. inputs_end_within x z ins.0 ins.1)))
front_signature (fronts.at_close {o = o} {ts = ts} is ins (parts.not_yet wait)) x z =
    rw (symbol_gives (codes "(") o ts is) (inside (inl wait) (bind_within _ (front_inputs (inputs_front ins)) (λ ins. inputs_end_within x z ins.0 ins.1)))
front_signature (fronts.at_close {o = o} {ts = ts} {ds = ds} is ins (parts.came {x = c} {ts = t} close e)) x z =
    rw (symbol_gives (codes "(") o ts is, inputs_complete ins close, symbol_gives (codes ")") c t close) (inside (inr e) (returns_within x z ds t))
front_signature (fronts.in_returns {o = o} {c = c} {ts = ts} {mid = mid} {ds = ds} is ins close h) x z =
    rw (symbol_gives (codes "(") o ts is, inputs_complete ins close, symbol_gives (codes ")") c mid close) (front_returns h x z ds)

no_colon : (o : Token) (ts : List Token) → IsSymbol (codes "(") o → begins_symbol (codes ":") (o ∷ ts) ≡ false
no_colon o ts is = text_not kind.Symbol (codes "(") (codes ":") o ts is refl

signature_start : {w : Meant} {ts r : List Token} → FrontSignature w ts r → ((r ≡ ts) × MayWait w) ⊎ (begins_symbol (codes ":") ts ≡ false)
signature_start (fronts.at_open (parts.not_yet wait)) = inl (refl, wait)
signature_start (fronts.at_open (parts.came {x = o} {ts = ts} is e)) = inr (no_colon o ts is)
signature_start (fronts.in_inputs {o = o} {ts = ts} is h) = inr (no_colon o ts is)
signature_start (fronts.at_close {o = o} {ts = ts} is ins h) = inr (no_colon o ts is)
signature_start (fronts.in_returns {o = o} {ts = ts} is ins close h) = inr (no_colon o ts is)

-- the same sizes, behind a name at another place
sized : {p : Place} {ts mid : List Token} {z : DomainText} → IsSizes p ts mid z → begins_symbol (codes ":") mid ≡ false → (q : Place)
    → (y : DomainText) × (sizes_of q ts ≡ Ok (y, mid))
unfolding sizes_of
sized whole.no_sizes unmarked q = (record { names = []; constraints = []; place = q }, rw unmarked refl)
sized (whole.sizes {c = c} {ts = ts} {d = d} is dom) unmarked q = (d, rw (symbol_yes (codes ":") c ts is) (domain_complete dom))

front_header : {w : Meant} {ts r : List Token} → FrontSystem w ts r → Heads w r (header_of ts)
unfolding header_of
front_header (fronts.at_system {ts = ts} (parts.not_yet wait)) =
    inside (inl wait) (bind_within _ (expect_with_within kind.Reserved (codes "system") ts) (λ v. bind_within _ (expect_within kind.Name v.1) (λ x. sizes_rest_within x.0.text x.0.place x.1)))
front_header (fronts.at_system (parts.came {x = v} {ts = ts} is e)) =
    rw (word_gives (codes "system") v ts is) (inside (inr e) (bind_within _ (expect_within kind.Name ts) (λ x. sizes_rest_within x.0.text x.0.place x.1)))
front_header (fronts.at_name {x = v} {ts = ts} is (parts.not_yet wait)) =
    rw (word_gives (codes "system") v ts is) (inside (inl wait) (bind_within _ (expect_within kind.Name ts) (λ x. sizes_rest_within x.0.text x.0.place x.1)))
front_header (fronts.at_name {x = v} is (parts.came {x = x} {ts = t} name e)) =
    rw (word_gives (codes "system") v (x ∷ t) is, expect_gives kind.Name x t name) (inside (inr e) (sizes_rest_within x.text x.place t))
front_header (fronts.in_sizes {x = v} {y = x} {ts = ts} is name h) =
    rw (word_gives (codes "system") v (x ∷ ts) is, expect_gives kind.Name x ts name)
    (inside (front_sizes_ends h) (bind_within _ (front_sizes h x.place) (λ z. signature_within x.text z.0 z.1)))
front_header (fronts.in_signature {x = v} {y = x} {ts = ts} {mid = mid} is name given h) =
    rw (word_gives (codes "system") v (x ∷ ts) is, expect_gives kind.Name x ts name) (elim (signature_start h) [
      | inl e ↦ inside (inl e.1) (here e.0 (bind_within _ (front_sizes (sizes_front given) x.place) (λ z. signature_within x.text z.0 z.1)))
      | inr unmarked ↦ (let q = sized given unmarked x.place in rw q.1 (front_signature h x.text q.0))
    ])

-- ---- the body

-- the system of its parts
abbrev made : SystemHeader → List Declaration → List Equation → System
made h locs es = record { name = h.name; sizes = h.sizes; inputs = h.inputs; outputs = h.outputs; locals = locs; equations = es }

-- "tel" [ ";" ], behind the equations
abbrev body_end : SystemHeader → List Declaration → List Equation → List Token → Result (System × List Token) Fault
body_end h locs es ts = expect_word (codes "tel") ts >>= λ t. Ok (made h locs es, semicolon_of t.1)

body_end_within : (h : SystemHeader) (locs : List Declaration) (es : List Equation) (ts : List Token) → Within (length ts) (body_end h locs es ts)
body_end_within h locs es ts = bind_within _ (expect_with_within kind.Reserved (codes "tel") ts) (λ t. left (semicolon_within t.1))

semicolon_take : {ts rest : List Token} → IsSemicolon ts rest → length rest ≤ length ts
semicolon_take whole.no_semicolon = omega arith
semicolon_take (whole.semicolon is) = omega arith

levels_beyond : (n : ℕ) → Beyond n 0 n (readers n)
levels_beyond n = subst (λ l. Beyond l 0 n (readers n)) (omega arith) (all_beyond n 0)

module _ (n : ℕ) (some : 0 < n) where
  -- { equation } "tel" [ ";" ], behind "let"
  abbrev body_equations : SystemHeader → List Declaration → List Token → Result (System × List Token) Fault
  body_equations h locs ts = equations_of n (length ts) ts >>= λ es. body_end h locs es.0 es.1

  -- the variables and what follows
  abbrev body_of : SystemHeader → List Token → Result (System × List Token) Fault
  body_of h ts = locals_of ts >>= λ locs. expect_word (codes "let") locs.1 >>= λ l. body_equations h locs.0 l.1

  -- expr ";", behind "="
  abbrev equation_right : Token → Option (List Text) → List Token → Result (Equation × List Token) Fault
  equation_right x ns ts = (readers n).expr ts >>= λ e. expect_symbol (codes ";") e.1 >>= λ s. Ok (record { name = x.text; indices = ns; right = e.0; place = x.place }, s.1)

  level : {A : Type 0} {w : Meant} {m : ℕ} {r : Result (A × List Token) Fault} → MayWait w ⊎ MayEnd w 0 → Within m r → Reaches w n m r
  level {w = w} lv h = reach (level_below w 0 n lv some) h

  right_within : (x : Token) (ns : Option (List Text)) (ts : List Token) → Within (length ts) (equation_right x ns ts)
  right_within x ns ts = bind_within _ ((all_within n).expr ts) (λ e. bind_within _ (symbol_within (codes ";") e.1) (λ s. left (le_same _)))

  equal_within : (x : Token) (ns : Option (List Text)) (ts : List Token) → Within (length ts) (expect_symbol (codes "=") ts >>= λ q. equation_right x ns q.1)
  equal_within x ns ts = bind_within _ (symbol_within (codes "=") ts) (λ q. right_within x ns q.1)

  right_ahead : {w : Meant} {m : ℕ} (x : Token) (ns : Option (List Text)) (ts : List Token) → Reaches w n m ((readers n).expr ts) → Reaches w n m (equation_right x ns ts)
  right_ahead x ns ts h = ahead _ h (λ e. bind_within _ (symbol_within (codes ";") e.1) (λ s. left (le_same _)))

  front_equation : {w : Meant} {ts r : List Token} → FrontEquation w ts r → Reaches w n (length r) (equation_of n ts)
  unfolding equation_of
  front_equation (fronts.at_name {ts = ts} (parts.not_yet wait)) = level (inl wait) (equation_within n ts)
  front_equation (fronts.at_name (parts.came {x = x} {ts = ts} is e)) =
      rw (expect_gives kind.Name x ts is) (level (inr e) (bind_within _ (index_names_within ts) (λ ns. equal_within x ns.0 ns.1)))
  front_equation (fronts.in_index_names {x = x} {ts = ts} is h) =
      rw (expect_gives kind.Name x ts is) (level (front_index_names_ends h) (bind_within _ (front_index_names h) (λ ns. equal_within x ns.0 ns.1)))
  front_equation (fronts.at_equal {x = x} {ts = ts} is names (parts.not_yet wait)) =
      rw (expect_gives kind.Name x ts is) (level (inl wait) (bind_within _ (front_index_names (index_names_front names)) (λ ns. equal_within x ns.0 ns.1)))
  front_equation (fronts.at_equal {x = x} {ts = ts} {ns = ns} is names (parts.came {x = q} {ts = t} equals e)) =
      rw (expect_gives kind.Name x ts is, index_names_complete names equals, symbol_gives (codes "=") q t equals) (level (inr e) (right_within x ns t))
  front_equation (fronts.in_right {x = x} {q = q} {ts = ts} {mid = mid} {ns = ns} is names equals h) =
      rw (expect_gives kind.Name x ts is, index_names_complete names equals, symbol_gives (codes "=") q mid equals) (right_ahead x ns mid ((levels_beyond n).expr _ _ _ h))
  front_equation (fronts.at_semicolon {x = x} {q = q} {ts = ts} {t1 = t1} {ns = ns} is names equals right (parts.not_yet wait)) =
      rw (expect_gives kind.Name x ts is, index_names_complete names equals, symbol_gives (codes "=") q t1 equals)
      (as_every wait (right_ahead x ns t1 ((levels_beyond n).expr _ _ _ (expr_front 0 right))))
  front_equation (fronts.at_semicolon {x = x} {q = q} {ts = ts} {t1 = t1} is names equals right (parts.came {x = s} {ts = t} semi e)) =
      rw (expect_gives kind.Name x ts is, index_names_complete names equals, symbol_gives (codes "=") q t1 equals)
      (further _ (expr_spelt n right (semicolon_ends s t semi)) (omega arith) (λ a more. rw (symbol_gives (codes ";") s t semi) (level (inr e) (left (le_same _)))))

  equation_start : {w : Meant} {ts r : List Token} → FrontEquation w ts r → ((r ≡ ts) × MayWait w) ⊎ (begins kind.Name ts ≡ true)
  equation_start (fronts.at_name (parts.not_yet wait)) = inl (refl, wait)
  equation_start (fronts.at_name (parts.came {x = x} is e)) = inr (same_self x.kind kind.Name is)
  equation_start (fronts.in_index_names {x = x} is h) = inr (same_self x.kind kind.Name is)
  equation_start (fronts.at_equal {x = x} is names h) = inr (same_self x.kind kind.Name is)
  equation_start (fronts.in_right {x = x} is names equals h) = inr (same_self x.kind kind.Name is)
  equation_start (fronts.at_semicolon {x = x} is names equals right h) = inr (same_self x.kind kind.Name is)

  one_equation : {w : Meant} (ts r : List Token) → FrontEquation w ts r → (m : ℕ) → length ts ≤ m → Reaches w n (length r) (equations_of n m ts)
  unfolding equations_of
  one_equation ts r h (suc m) few =
      elim (equation_start h) [
        | inl e ↦ at_rest e.0 (level (inl e.1) (equations_within n (suc m) ts))
        | inr b ↦ rw b (ahead _ (front_equation h) (λ e. bind_within _ (equations_within n m e.1) (λ es. left (le_same _))))
      ]
  one_equation [] r h zero few =
      elim (equation_start h) [
        | inl e ↦ at_rest e.0 (level (inl e.1) (left (le_same _)))
        | inr b ↦ absurd (no_name b)
      ]
    where
      no_name : ◌≡◌ {A = Bool} false true → ⊥
      no_name e = cc
  one_equation (x ∷ ts) r h zero few = absurd (omega arith)

  equation_spelt : {k : ℕ} {ts mid : List Token} {e : Equation} → IsEquation k ts mid e → Spelt n mid (equation_of n ts)
  unfolding equation_of
  equation_spelt {mid = mid} (whole.equation {x = x} {q = q} {s = s} {ts = ts} {mid = t1} is names equals right semi) =
      rw (expect_gives kind.Name x ts is, index_names_complete names equals, symbol_gives (codes "=") q t1 equals)
      (spelt_bind _ (expr_spelt n right (semicolon_ends s mid semi)) (omega arith) (λ a more. rw (symbol_gives (codes ";") s mid semi) (got more)))

  front_equations : {w : Meant} {ts r : List Token} → FrontEquations w ts r → (m : ℕ) → length ts ≤ m → Reaches w n (length r) (equations_of n m ts)
  unfolding equations_of
  front_equations (fronts.no_equation_yet {ts = ts} wait) m few = level (inl wait) (equations_within n m ts)
  front_equations (fronts.in_equation {ts = ts} {r = r} h) m few = one_equation ts r h m few
  front_equations (fronts.past_equation is h) zero few = absurd (let k = equation_takes is in omega arith)
  front_equations (fronts.past_equation is h) (suc m) few =
      rw (equation_begins is) (further _ (equation_spelt is) (front_equations_takes h) (λ a more.
      ahead _ (front_equations h m (let k = equation_takes is in omega arith)) (λ es. left (le_same _))))

  equations_spelt : {k : ℕ} {ts mid : List Token} {es : List Equation} → IsEquations k ts mid es → begins kind.Name mid ≡ false → (m : ℕ) → length ts ≤ m
      → Spelt n mid (equations_of n m ts)
  unfolding equations_of
  equations_spelt whole.no_equations ends zero few = got some
  equations_spelt whole.no_equations ends (suc m) few = rw ends (got some)
  equations_spelt (whole.more_equations is others) ends zero few = absurd (let k = equation_takes is in omega arith)
  equations_spelt (whole.more_equations is others) ends (suc m) few =
      let less = equation_takes is in
      let le = equations_take others in
      rw (equation_begins is) (spelt_bind _ (equation_spelt is) (omega arith) (λ a more.
      spelt_bind _ (equations_spelt others ends m (omega arith)) (le_same _) (λ es more. got more)))

  equations_ahead : {w : Meant} {m : ℕ} (h : SystemHeader) (locs : List Declaration) (ts : List Token) → Reaches w n m (equations_of n (length ts) ts)
      → Reaches w n m (body_equations h locs ts)
  equations_ahead h locs ts x = ahead _ x (λ es. body_end_within h locs es.0 es.1)

  body_equations_within : (h : SystemHeader) (locs : List Declaration) (ts : List Token) → Within (length ts) (body_equations h locs ts)
  body_equations_within h locs ts = bind_within _ (equations_within n (length ts) ts) (λ es. body_end_within h locs es.0 es.1)

  let_within : (h : SystemHeader) (locs : List Declaration) (ts : List Token) → Within (length ts) (expect_word (codes "let") ts >>= λ l. body_equations h locs l.1)
  let_within h locs ts = bind_within _ (expect_with_within kind.Reserved (codes "let") ts) (λ l. body_equations_within h locs l.1)

  body_within : (h : SystemHeader) (ts : List Token) → Within (length ts) (body_of h ts)
  body_within h ts = bind_within _ (locals_within ts) (λ locs. let_within h locs.0 locs.1)

  tel_ends : (t : Token) (ts : List Token) → IsReserved (codes "tel") t → begins kind.Name (t ∷ ts) ≡ false
  tel_ends t ts is = kind_not kind.Reserved kind.Name t ts is.0 refl

  front_body : {w : Meant} {ts r : List Token} → FrontBody w ts r → (h : SystemHeader) → Reaches w n (length r) (body_of h ts)
  front_body (fronts.in_locals f) h = level (front_locals_ends f) (bind_within _ (front_locals f) (λ locs. let_within h locs.0 locs.1))
  front_body (fronts.at_let locs (parts.not_yet wait)) h = level (inl wait) (bind_within _ (front_locals (locals_front locs)) (λ locs. let_within h locs.0 locs.1))
  front_body (fronts.at_let {ds = ds} locs (parts.came {x = l} {ts = t} is e)) h =
      rw (locals_complete locs is, word_gives (codes "let") l t is) (level (inr e) (body_equations_within h ds t))
  front_body (fronts.in_equations {l = l} {mid = mid} {ds = ds} locs is f) h =
      rw (locals_complete locs is, word_gives (codes "let") l mid is) (equations_ahead h ds mid (front_equations f (length mid) (le_same _)))
  front_body (fronts.at_tel {l = l} {t1 = t1} {ds = ds} locs is es (parts.not_yet wait)) h =
      rw (locals_complete locs is, word_gives (codes "let") l t1 is) (as_every wait (equations_ahead h ds t1 (front_equations (equations_front es) (length t1) (le_same _))))
  front_body (fronts.at_tel {l = l} {t1 = t1} locs is es (parts.came {x = t} {ts = rest} tel e)) h =
      rw (locals_complete locs is, word_gives (codes "let") l t1 is) (further _ (equations_spelt es (tel_ends t rest tel) (length t1) (le_same _)) (omega arith) (λ found more.
      rw (word_gives (codes "tel") t rest tel) (level (inr e) (left (semicolon_within rest)))))
  front_body (fronts.at_last {l = l} {t = t} {t1 = t1} {t2 = t2} locs is es tel (parts.not_yet wait)) h =
      rw (locals_complete locs is, word_gives (codes "let") l t1 is) (further _ (equations_spelt es (tel_ends t t2 tel) (length t1) (le_same _)) (omega arith) (λ found more.
      rw (word_gives (codes "tel") t t2 tel) (level (inl wait) (left (semicolon_within t2)))))
  front_body (fronts.at_last {l = l} {t = t} {t1 = t1} locs is es tel (parts.came {x = s} {ts = rest} semi e)) h =
      rw (locals_complete locs is, word_gives (codes "let") l t1 is) (further _ (equations_spelt es (tel_ends t (s ∷ rest) tel) (length t1) (le_same _)) (omega arith) (λ found more.
      rw (word_gives (codes "tel") t (s ∷ rest) tel, symbol_yes (codes ";") s rest semi) (level (inr e) (left (le_same _)))))

  -- ---- the whole

  heads_reach : {w : Meant} {r : List Token} {y : Result (SystemHeader × List Token) Fault} → Heads w r y → Reaches w n (length r) (y >>= λ h. body_of h.0 h.1)
  heads_reach (inside lv h) = ahead _ (level lv h) (λ x. body_within x.0 x.1)
  heads_reach (behind {h = h} body) = front_body body h

  front_system : {w : Meant} {ts r : List Token} → FrontSystem w ts r → Reaches w n (length r) (system_of n ts)
  unfolding system_of
  front_system f = heads_reach (front_header f)

  system_spelt : {k : ℕ} {e : Token} {ts rest : List Token} {s : System} → IsSystem k ts (e ∷ rest) s → IsEnd e → Spelt n (e ∷ rest) (system_of n ts)
  unfolding system_of
  system_spelt {e = e} {rest = rest} (whole.system {w = w} {x = x} {o = o} {c = c} {r = r} {p = p} {d = d} {s = s} {l = l} {t = t} {t0 = t0} {t1 = t1} {t2 = t2} {t3 = t3} {t4 = t4} {t5 = t5}
      {z = z} {ins = ins} {outs = outs} w_is x_is z_is o_is ins_is c_is r_is p_is outs_is d_is s_is locs_is l_is es_is t_is semi) end =
      let le = semicolon_take semi in
      rw (
        header_gives w x o c r p d s t0 t1 t2 t3 z ins outs w_is x_is z_is o_is ins_is c_is r_is p_is outs_is d_is s_is,
        locals_complete locs_is l_is,
        word_gives (codes "let") l t4 l_is,
      ) (spelt_bind _ (equations_spelt es_is (tel_ends t t5 t_is) (length t4) (le_same _)) (omega arith) (λ es more.
      rw (word_gives (codes "tel") t t5 t_is, semicolon_complete semi end) (got more)))

-- as Reaches, for a reader that gives no rest
pub data ProgramReaches (w : Meant) (l m : ℕ) : Result System Fault → Type 0 where
  ends_well : {s : System} → Below w l → ProgramReaches w l m (Ok s)
  faults_at : {k : ℕ} → Below w l → k ≤ m → ProgramReaches w l m (Err (Syntax k))
  sinks_at : {k : ℕ} → Above w l m k → ProgramReaches w l m (Err (Depth k))

ended_reaches : {w : Meant} {l m : ℕ} → Below w l → (s : System) (ts : List Token) → length ts ≤ m → ProgramReaches w l m (ended s ts)
unfolding ended
ended_reaches below s [] le = ends_well below
ended_reaches below s (x ∷ ts) le = faults_at below le

end_reaches : {w : Meant} {l m : ℕ} → Below w l → (s : System) (ts : List Token) → length ts ≤ m → ProgramReaches w l m (expect kind.End ts >>= λ e. ended s e.1)
unfolding expect
end_reaches below s [] le = faults_at below le
end_reaches {w = w} {l = l} {m = m} below s (x ∷ ts) le = by_test (same x.kind kind.End)
  where
    by_test : (b : Bool) → ProgramReaches w l m (◌>>=◌ {A = Token × List Token} (if b then Ok (x, ts) else syntax (x ∷ ts)) (λ e. ended s e.1))
    by_test true = ended_reaches below s ts (omega arith)
    by_test false = faults_at below le

system_reaches : {w : Meant} {l m : ℕ} {r : Result (System × List Token) Fault} → Reaches w l m r → ProgramReaches w l m (r >>= λ s. expect kind.End s.1 >>= λ e. ended s.0 e.1)
system_reaches (reads {x = x} below le) = end_reaches below x.0 x.1 le
system_reaches (faults below le) = faults_at below le
system_reaches (sinks a) = sinks_at a

spelt_reaches : {w : Meant} {l k : ℕ} {e : Token} {t : List Token} {r : Result (System × List Token) Fault} → Below w l → IsEnd e → Spelt k (e ∷ t) r
    → ProgramReaches w l (length t) (r >>= λ s. expect kind.End s.1 >>= λ e. ended s.0 e.1)
spelt_reaches {e = e} {t = t} below end (got {a = a} h) = rw (expect_gives kind.End e t end) (ended_reaches below a t (le_same _))
spelt_reaches {w = w} {l = l} {t = t} below end (drowned {m = m} h) = sinks_at (above w l (length t) m (omega arith))

pub front_program : {w : Meant} {ts r : List Token} (n : ℕ) → 0 < n → FrontProgram w ts r → ProgramReaches w n (length r) (program_of n ts)
unfolding program_of
front_program n some (fronts.in_system h) = system_reaches (front_system n some h)
front_program n some (fronts.at_end is (parts.not_yet wait)) = system_reaches (as_every wait (front_system n some (system_front is)))
front_program {w = w} n some (fronts.at_end is (parts.came end e)) = spelt_reaches (level_below w 0 n (inr e) some) end (system_spelt n some is end)
