-- Rules of the grammar whose parts are read by functions of their own: what is read in parts is what is read in one go.
use Rattle.std.proofs.Common.{◌≡◌, ℕ, List, ◌++◌, length, Option, Result, Ok, Err, refl, sym, ap, subst, ◌∙◌}
use Rattle.std.specs.Prelude.{codes}
use Rattle.av_base.specs.declared.place.Place.{Place}
use Rattle.av_base.specs.declared.token_kind.TokenKind.TheVariants as kind
use Rattle.av_base.specs.declared.word.Op.{Op}
use Rattle.av_base.specs.Tokens.{Token}
use Rattle.av_tree.specs.declared.domain.DomainText.{DomainText}
use Rattle.av_tree.specs.declared.domain.MapText.{MapText}
use Rattle.av_tree.specs.declared.sign.Sign.{Sign}
use Rattle.av_tree.specs.declared.system.Declaration.{Declaration}
use Rattle.av_tree.specs.Trees.{Text, Expression, Equation, System, binary, reduction}
use Rattle.av_tree.specs.Grammar.{declared}
use Rattle.av_parse.specs.declared.fault.Fault.{Fault}
use Rattle.av_parse.specs.declared.fault.Stop.{Stop}
use Rattle.av_parse.specs.inner.Reader.{◌>>=◌, Stops, with_front, expect, expect_symbol, expect_word}
use Rattle.av_parse.specs.inner.IndexReader.{names_of, domain_of}
use Rattle.av_parse.specs.inner.ExpressionReader.{Readers, readers, parenthesis_of, last_operand_of, reduced_of}
use Rattle.av_parse.specs.inner.ProgramReader.{typing_of, width_of, declaration_rest_of, declaration_of, declarations_of, inputs_of, input_list_of, output_list_of, locals_of, sizes_of, index_names_of, right_side_of, equation_of, equations_of, definitions_of, semicolon_of, SystemHeader, header_of, system_of, end_of, program_of}
use Rattle.av_parse.proofs.Lists.{stops_then}

-- what follows the steps of a part follows the part
step : {A B C : Type 0} (r : Result A Fault) (g : A → Result B Fault) (h : A → Result C Fault) (f : B → Result C Fault) → ((a : A) → (g a >>= f) ≡ h a) → ((r >>= g) >>= f) ≡ (r >>= h)
step (Ok a) g h f e = e a
step (Err b) g h f e = refl

-- ---- expressions in parentheses

closed_then : {C : Type 0} (b : Readers) (ts : List Token) (f : (Expression × List Token) → Result C Fault)
    → (parenthesis_of b ts >>= f) ≡ (b.expr ts >>= λ e. expect_symbol (codes ")") e.1 >>= λ c. f (e.0, c.1))
unfolding parenthesis_of
closed_then b ts f = step (b.expr ts) _ _ f (λ e. step (expect_symbol (codes ")") e.1) _ _ f (λ c. refl))

abbrev joined_with : Sign → Place → Expression → (Expression × List Token) → Result (Expression × List Token) Fault
joined_with s place left y = Ok (binary s left y.0 place, y.1)

pub operand_stop : (e : Stop) (b : Readers) (s : Sign) (place : Place) (left : Expression) (ts : List Token) → Stops e (parenthesis_of b ts) → Stops e (last_operand_of b s place left ts)
operand_stop e b s place left ts h =
    subst (λ (r : Result (Expression × List Token) Fault). Stops e r) (closed_then b ts (joined_with s place left)) (stops_then e (parenthesis_of b ts) (joined_with s place left) h)

pub operand_done : (b : Readers) (s : Sign) (place : Place) (left : Expression) (ts : List Token) (right : Expression) (rest : List Token) → parenthesis_of b ts ≡ Ok (right, rest)
    → last_operand_of b s place left ts ≡ Ok (binary s left right place, rest)
operand_done b s place left ts right rest is =
    let one : (parenthesis_of b ts >>= joined_with s place left) ≡ Ok (binary s left right place, rest) = rw is refl in
    sym (closed_then b ts (joined_with s place left)) ∙ one

abbrev reduced_with : Op → MapText → Place → (Expression × List Token) → Result (Expression × List Token) Fault
reduced_with o m place y = Ok (reduction o m y.0 place, y.1)

pub reduced_stop : (e : Stop) (b : Readers) (o : Op) (m : MapText) (place : Place) (ts : List Token) → Stops e (parenthesis_of b ts) → Stops e (reduced_of b o m place ts)
reduced_stop e b o m place ts h =
    subst (λ (r : Result (Expression × List Token) Fault). Stops e r) (closed_then b ts (reduced_with o m place)) (stops_then e (parenthesis_of b ts) (reduced_with o m place) h)

pub reduced_done : (b : Readers) (o : Op) (m : MapText) (place : Place) (ts : List Token) (body : Expression) (rest : List Token) → parenthesis_of b ts ≡ Ok (body, rest)
    → reduced_of b o m place ts ≡ Ok (reduction o m body place, rest)
reduced_done b o m place ts body rest is =
    let one : (parenthesis_of b ts >>= reduced_with o m place) ≡ Ok (reduction o m body place, rest) = rw is refl in
    sym (closed_then b ts (reduced_with o m place)) ∙ one

-- ---- declarations

typing_then : {C : Type 0} (ts : List Token) (f : (Option ℕ × List Token) → Result C Fault) → (typing_of ts >>= f) ≡ (expect_word (codes "of") ts >>= λ o. width_of o.1 >>= f)
unfolding typing_of
typing_then ts f = step (expect_word (codes "of") ts) _ _ f (λ o. refl)

abbrev declared_with : List Token → DomainText → (Option ℕ × List Token) → Result (List Declaration × List Token) Fault
declared_with xs d w = Ok (declared d w.0 xs, w.1)

module _ (front : List Declaration) (xs ts : List Token) where
  pub domain_stop : (e : Stop) → Stops e (domain_of ts) → Stops e (with_front front (declaration_rest_of xs ts))
  domain_stop e h = stops_then e _ _ (stops_then e _ _ h)

  rest_at : (d : DomainText) (t0 : List Token) → domain_of ts ≡ Ok (d, t0) → declaration_rest_of xs ts ≡ (typing_of t0 >>= declared_with xs d)
  rest_at d t0 is = rw is (sym (typing_then t0 (declared_with xs d)))

  pub typing_stop : (e : Stop) (d : DomainText) (t0 : List Token) → domain_of ts ≡ Ok (d, t0) → Stops e (typing_of t0) → Stops e (with_front front (declaration_rest_of xs ts))
  typing_stop e d t0 is h = stops_then e _ _ (subst (λ (r : Result (List Declaration × List Token) Fault). Stops e r) (sym (rest_at d t0 is)) (stops_then e (typing_of t0) (declared_with xs d) h))

  pub declaration_done : (d : DomainText) (w : Option ℕ) (t0 t1 : List Token) (found : List Declaration) → domain_of ts ≡ Ok (d, t0) → typing_of t0 ≡ Ok (w, t1) → found ≡ front ++ declared d w xs
      → with_front front (declaration_rest_of xs ts) ≡ Ok (found, t1)
  declaration_done d w t0 t1 found is typed made =
      let one : (typing_of t0 >>= declared_with xs d) ≡ Ok (declared d w xs, t1) = rw typed refl in
      ap (λ (r : Result (List Declaration × List Token) Fault). with_front front r) (rest_at d t0 is ∙ one) ∙ ap (λ (ds : List Declaration). Ok (ds, t1)) (sym made)

module _ (front : List Declaration) (ts : List Token) where
  pub names_before_stop : (e : Stop) → Stops e (names_of (length ts) ts) → Stops e (with_front front (declaration_of ts))
  unfolding declaration_of
  names_before_stop e h = stops_then e _ _ (stops_then e _ _ h)

  pub colon_stop : (e : Stop) (xs t0 : List Token) → names_of (length ts) ts ≡ Ok (xs, t0) → Stops e (expect_symbol (codes ":") t0) → Stops e (with_front front (declaration_of ts))
  unfolding declaration_of
  colon_stop e xs t0 is h = rw is (stops_then e _ _ (stops_then e _ _ h))

pub declaration_at : (ts xs t0 t1 : List Token) (c : Token) → names_of (length ts) ts ≡ Ok (xs, t0) → expect_symbol (codes ":") t0 ≡ Ok (c, t1) → declaration_of ts ≡ declaration_rest_of xs t1
unfolding declaration_of
declaration_at ts xs t0 t1 c is colon = rw (is, colon) refl

-- ---- equations

right_then : {C : Type 0} (n : ℕ) (ts : List Token) (f : (Expression × List Token) → Result C Fault)
    → (right_side_of n ts >>= f) ≡ ((readers n).expr ts >>= λ e. expect_symbol (codes ";") e.1 >>= λ s. f (e.0, s.1))
unfolding right_side_of
right_then n ts f = step ((readers n).expr ts) _ _ f (λ e. step (expect_symbol (codes ";") e.1) _ _ f (λ s. refl))

abbrev equation_with : Token → Option (List Text) → (Expression × List Token) → Result (Equation × List Token) Fault
equation_with x ns e = Ok (record { name = x.text; indices = ns; right = e.0; place = x.place }, e.1)

module _ (n : ℕ) (ts : List Token) where
  pub name_stop : (e : Stop) → Stops e (expect kind.Name ts) → Stops e (equation_of n ts)
  unfolding equation_of
  name_stop e h = stops_then e _ _ h

  pub indices_stop : (e : Stop) (x : Token) (t0 : List Token) → expect kind.Name ts ≡ Ok (x, t0) → Stops e (index_names_of t0) → Stops e (equation_of n ts)
  unfolding equation_of
  indices_stop e x t0 is h = rw is (stops_then e _ _ h)

  pub equals_stop : (e : Stop) (x : Token) (ns : Option (List Text)) (t0 t1 : List Token) → expect kind.Name ts ≡ Ok (x, t0) → index_names_of t0 ≡ Ok (ns, t1) → Stops e (expect_symbol (codes "=") t1)
      → Stops e (equation_of n ts)
  unfolding equation_of
  equals_stop e x ns t0 t1 is names h = rw (is, names) (stops_then e _ _ h)

module _ (n : ℕ) (ts t0 t1 t2 : List Token) (x q : Token) (ns : Option (List Text)) (is : expect kind.Name ts ≡ Ok (x, t0)) (names : index_names_of t0 ≡ Ok (ns, t1)) (equals : expect_symbol (codes "=") t1 ≡ Ok (q, t2)) where
  equation_at : equation_of n ts ≡ (right_side_of n t2 >>= equation_with x ns)
  unfolding equation_of
  equation_at = rw (is, names, equals) (sym (right_then n t2 (equation_with x ns)))

  pub right_stop : (e : Stop) → Stops e (right_side_of n t2) → Stops e (equation_of n ts)
  right_stop e h = subst (λ (r : Result (Equation × List Token) Fault). Stops e r) (sym equation_at) (stops_then e (right_side_of n t2) (equation_with x ns) h)

  pub equation_done : (right : Expression) (t3 : List Token) (name : Text) → right_side_of n t2 ≡ Ok (right, t3) → name ≡ x.text
      → equation_of n ts ≡ Ok (record { name = name; indices = ns; right = right; place = x.place }, t3)
  equation_done right t3 name right_is named =
      let one : (right_side_of n t2 >>= equation_with x ns) ≡ Ok (record { name = x.text; indices = ns; right = right; place = x.place }, t3) = rw right_is refl in
      equation_at ∙ one ∙ ap (λ (z : Text). Ok (record { name = z; indices = ns; right = right; place = x.place }, t3)) (sym named)

-- ---- headers

inputs_then : {C : Type 0} (ts : List Token) (f : (List Declaration × List Token) → Result C Fault)
    → (input_list_of ts >>= f) ≡ (expect_symbol (codes "(") ts >>= λ o. inputs_of o.1 >>= λ ins. expect_symbol (codes ")") ins.1 >>= λ c. f (ins.0, c.1))
unfolding input_list_of
inputs_then ts f =
    step (expect_symbol (codes "(") ts) _ _ f (λ o. step (inputs_of o.1) _ _ f (λ ins. step (expect_symbol (codes ")") ins.1) _ _ f (λ c. refl)))

outputs_then : {C : Type 0} (ts : List Token) (f : (List Declaration × List Token) → Result C Fault)
    → (output_list_of ts >>= f) ≡ (expect_word (codes "returns") ts >>= λ r. expect_symbol (codes "(") r.1 >>= λ p. declarations_of (length p.1) p.1 >>= λ outs.
    expect_symbol (codes ")") outs.1 >>= λ d. expect_symbol (codes ";") d.1 >>= λ s. f (outs.0, s.1))
unfolding output_list_of
outputs_then ts f =
    step (expect_word (codes "returns") ts) _ _ f (λ r. step (expect_symbol (codes "(") r.1) _ _ f (λ p. step (declarations_of (length p.1) p.1) _ _ f (λ outs.
    step (expect_symbol (codes ")") outs.1) _ _ f (λ d. step (expect_symbol (codes ";") d.1) _ _ f (λ s. refl)))))

abbrev headed_with : Token → DomainText → List Declaration → (List Declaration × List Token) → Result (SystemHeader × List Token) Fault
headed_with x z ins outs = Ok (record { name = x.text; sizes = z; inputs = ins; outputs = outs.0 }, outs.1)

abbrev outputs_with : Token → DomainText → (List Declaration × List Token) → Result (SystemHeader × List Token) Fault
outputs_with x z ins = output_list_of ins.1 >>= headed_with x z ins.0

lists_then : (x : Token) (z : DomainText) (ts : List Token)
    → (input_list_of ts >>= outputs_with x z) ≡ (expect_symbol (codes "(") ts >>= λ o. inputs_of o.1 >>= λ ins. expect_symbol (codes ")") ins.1 >>= λ c.
    expect_word (codes "returns") c.1 >>= λ r. expect_symbol (codes "(") r.1 >>= λ p. declarations_of (length p.1) p.1 >>= λ outs.
    expect_symbol (codes ")") outs.1 >>= λ d. expect_symbol (codes ";") d.1 >>= λ s. headed_with x z ins.0 (outs.0, s.1))
unfolding input_list_of
lists_then x z ts =
    step (expect_symbol (codes "(") ts) _ _ (outputs_with x z) (λ o. step (inputs_of o.1) _ _ (outputs_with x z) (λ ins. step (expect_symbol (codes ")") ins.1) _ _ (outputs_with x z)
    (λ c. outputs_then c.1 (headed_with x z ins.0))))

module _ (ts : List Token) where
  pub system_stop : (e : Stop) → Stops e (expect_word (codes "system") ts) → Stops e (header_of ts)
  unfolding header_of
  system_stop e h = stops_then e _ _ h

  pub system_name_stop : (e : Stop) (w : Token) (t0 : List Token) → expect_word (codes "system") ts ≡ Ok (w, t0) → Stops e (expect kind.Name t0) → Stops e (header_of ts)
  unfolding header_of
  system_name_stop e w t0 is h = rw is (stops_then e _ _ h)

  pub sizes_stop : (e : Stop) (w x : Token) (t0 t1 : List Token) → expect_word (codes "system") ts ≡ Ok (w, t0) → expect kind.Name t0 ≡ Ok (x, t1) → Stops e (sizes_of x.place t1) → Stops e (header_of ts)
  unfolding header_of
  sizes_stop e w x t0 t1 is named h = rw (is, named) (stops_then e _ _ h)

module _ (ts t0 t1 t2 : List Token) (w x : Token) (z : DomainText) (is : expect_word (codes "system") ts ≡ Ok (w, t0)) (named : expect kind.Name t0 ≡ Ok (x, t1)) (sized : sizes_of x.place t1 ≡ Ok (z, t2)) where
  header_at : header_of ts ≡ (input_list_of t2 >>= outputs_with x z)
  unfolding header_of
  header_at = rw (is, named, sized) (sym (lists_then x z t2))

  pub inputs_stop : (e : Stop) → Stops e (input_list_of t2) → Stops e (header_of ts)
  inputs_stop e h = subst (λ (r : Result (SystemHeader × List Token) Fault). Stops e r) (sym header_at) (stops_then e (input_list_of t2) (outputs_with x z) h)

  outputs_at : (ins : List Declaration) (t3 : List Token) → input_list_of t2 ≡ Ok (ins, t3) → header_of ts ≡ (output_list_of t3 >>= headed_with x z ins)
  outputs_at ins t3 given = let one : (input_list_of t2 >>= outputs_with x z) ≡ (output_list_of t3 >>= headed_with x z ins) = rw given refl in header_at ∙ one

  pub outputs_stop : (e : Stop) (ins : List Declaration) (t3 : List Token) → input_list_of t2 ≡ Ok (ins, t3) → Stops e (output_list_of t3) → Stops e (header_of ts)
  outputs_stop e ins t3 given h = subst (λ (r : Result (SystemHeader × List Token) Fault). Stops e r) (sym (outputs_at ins t3 given)) (stops_then e (output_list_of t3) (headed_with x z ins) h)

  pub header_done : (ins outs : List Declaration) (t3 t4 : List Token) (h : SystemHeader) → input_list_of t2 ≡ Ok (ins, t3) → output_list_of t3 ≡ Ok (outs, t4)
      → h ≡ record { name = x.text; sizes = z; inputs = ins; outputs = outs } → header_of ts ≡ Ok (h, t4)
  header_done ins outs t3 t4 h given taken made =
      let one : (output_list_of t3 >>= headed_with x z ins) ≡ Ok (record { name = x.text; sizes = z; inputs = ins; outputs = outs }, t4) = rw taken refl in
      outputs_at ins t3 given ∙ one ∙ ap (λ (y : SystemHeader). Ok (y, t4)) (sym made)

-- ---- systems

definitions_then : {C : Type 0} (n : ℕ) (ts : List Token) (f : (List Equation × List Token) → Result C Fault)
    → (definitions_of n ts >>= f) ≡ (expect_word (codes "let") ts >>= λ l. equations_of n (length l.1) l.1 >>= λ es. expect_word (codes "tel") es.1 >>= λ t. f (es.0, t.1))
unfolding definitions_of
definitions_then n ts f =
    step (expect_word (codes "let") ts) _ _ f (λ l. step (equations_of n (length l.1) l.1) _ _ f (λ es. step (expect_word (codes "tel") es.1) _ _ f (λ t. refl)))

abbrev system_with : SystemHeader → List Declaration → (List Equation × List Token) → Result (System × List Token) Fault
system_with h locs es = Ok (record { name = h.name; sizes = h.sizes; inputs = h.inputs; outputs = h.outputs; locals = locs; equations = es.0 }, semicolon_of es.1)

module _ (n : ℕ) (ts : List Token) where
  pub header_stop : (e : Stop) → Stops e (header_of ts) → Stops e (system_of n ts)
  unfolding system_of
  header_stop e h = stops_then e _ _ h

  pub locals_stop : (e : Stop) (h : SystemHeader) (t0 : List Token) → header_of ts ≡ Ok (h, t0) → Stops e (locals_of t0) → Stops e (system_of n ts)
  unfolding system_of
  locals_stop e h t0 is stops = rw is (stops_then e _ _ stops)

module _ (n : ℕ) (ts : List Token) (h : SystemHeader) (locs : List Declaration) (t0 t1 : List Token) (is : header_of ts ≡ Ok (h, t0)) (given : locals_of t0 ≡ Ok (locs, t1)) where
  system_at : system_of n ts ≡ (definitions_of n t1 >>= system_with h locs)
  unfolding system_of
  system_at = rw (is, given) (sym (definitions_then n t1 (system_with h locs)))

  pub definitions_stop : (e : Stop) → Stops e (definitions_of n t1) → Stops e (system_of n ts)
  definitions_stop e stops = subst (λ (r : Result (System × List Token) Fault). Stops e r) (sym system_at) (stops_then e (definitions_of n t1) (system_with h locs) stops)

  pub system_done : (es : List Equation) (t2 t3 : List Token) → definitions_of n t1 ≡ Ok (es, t2) → t3 ≡ semicolon_of t2
      → system_of n ts ≡ Ok (record { name = h.name; sizes = h.sizes; inputs = h.inputs; outputs = h.outputs; locals = locs; equations = es }, t3)
  system_done es t2 t3 defined ends =
      let one : (definitions_of n t1 >>= system_with h locs) ≡ Ok (record { name = h.name; sizes = h.sizes; inputs = h.inputs; outputs = h.outputs; locals = locs; equations = es }, semicolon_of t2) = rw defined refl in
      system_at ∙ one ∙ ap (λ (t : List Token). Ok (record { name = h.name; sizes = h.sizes; inputs = h.inputs; outputs = h.outputs; locals = locs; equations = es }, t)) (sym ends)

pub whole_stop : (e : Stop) (n : ℕ) (ts : List Token) → Stops e (system_of n ts) → Stops e (program_of n ts)
unfolding program_of
whole_stop e n ts h = stops_then e _ _ h

pub program_at : (n : ℕ) (ts t0 : List Token) (s : System) → system_of n ts ≡ Ok (s, t0) → program_of n ts ≡ end_of s t0
unfolding program_of
program_at n ts t0 s is = rw is refl
