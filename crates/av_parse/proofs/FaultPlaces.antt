-- The place of a fault, from the number of tokens that are left there.
use Rattle.std.proofs.Common.{◌≡◌, ℕ, zero, suc, ◌<◌, ◌≤◌, List, [], ◌∷◌, ◌++◌, length, Result, Ok, Err, refl, sym, ap, subst, ◌∙◌, arith, inl, inr, ◌⊎◌, length-append}
use Rattle.av_base.specs.declared.place.Place.{Place}
use Rattle.av_base.specs.Tokens.{Token, IsText, end, blank, comment, token}
use Rattle.av_tree.specs.Trees.{System}
use Rattle.av_tree.specs.Grammar.{IsProgram, levels}
use Rattle.av_tree.specs.FrontsParts.{every, ending}
use Rattle.av_tree.specs.Fronts.{FrontProgram, HasLevel, IsSyntaxPlace, IsDepthPlace}
use Rattle.av_parse.specs.declared.fault.Fault.{Fault}
use Rattle.av_parse.specs.declared.fault.Fault.TheVariants.{Syntax, Depth}
use Rattle.av_parse.specs.declared.fault.ParseFault.{ParseFault}
use Rattle.av_parse.specs.declared.fault.ParseFault.TheVariants as parse
use Rattle.av_parse.specs.Parsing.{IsFault}
use Rattle.av_parse.specs.inner.Reader.{place_of}
use Rattle.av_parse.specs.inner.ProgramReader.{program_of}
use Rattle.av_parse.proofs.SoundProgram.{program_sound}
use Rattle.av_parse.proofs.CompleteProgram.{program_complete}
use Rattle.av_parse.proofs.BegunProgram.{Walked, stands, walks, EndsLast, ProgramStands, whole, wrong, sunk, program_begun}
use Rattle.av_parse.proofs.BeyondProgram.{ProgramReaches, ends_well, faults_at, sinks_at, front_program}

-- ---- the tokens that are left

-- what is left of tokens is told by its length
pub same_rest : (a b r q : List Token) → a ++ r ≡ b ++ q → length r ≡ length q → r ≡ q
same_rest [] [] r q e l = e
same_rest [] (y ∷ b) r q e l = absurd (let h : length r ≡ suc (length (b ++ q)) = ap length e in let g = length-append b q in omega arith)
same_rest (x ∷ a) [] r q e l = absurd (let h : suc (length (a ++ r)) ≡ length q = ap length e in let g = length-append a r in omega arith)
same_rest (x ∷ a) (y ∷ b) r q e l = same_rest a b r q (tail_is x y (a ++ r) (b ++ q) e) l
  where
    tail_is : (x y : Token) (s t : List Token) → x ∷ s ≡ y ∷ t → s ≡ t
    tail_is x y s t e = cc

-- what was walked is a beginning of the tokens
walked_before : {F : List Token → Type 0} {ts r : List Token} → Walked F ts r → (before : List Token) × (ts ≡ before ++ r)
walked_before stands = ([], refl)
walked_before (walks {x = x} is others) = let q = walked_before others in (x ∷ q.0, ap (λ z. x ∷ z) q.1)

-- the tokens up to each place on the way are a front
on_the_way : {F : List Token → Type 0} {ts stop : List Token} → Walked F ts stop → F stop → (before r : List Token) → ts ≡ before ++ r → length stop ≤ length r → F r
on_the_way {F = F} {ts = ts} stands is before r e le = subst F (same_rest [] before ts r e (let h : length ts ≡ length (before ++ r) = ap length e in let g = length-append before r in omega arith)) is
on_the_way {F = F} (walks here others) is [] r e le = subst F e here
on_the_way (walks {x = x} {ts = ts} here others) is (y ∷ before) r e le = on_the_way others is before r (tail_is x y ts (before ++ r) e) le
  where
    tail_is : (x y : Token) (s t : List Token) → x ∷ s ≡ y ∷ t → s ≡ t
    tail_is x y s t e = cc

-- the tokens of a text end with an End
pub text_ends : {p : Place} {bytes : List ℕ} {tokens : List Token} → IsText p bytes tokens → EndsLast tokens
text_ends end = λ other. other refl
text_ends (blank is others) = text_ends others
text_ends (comment split is others) = text_ends others
text_ends (token split plain longest range others) = λ other. text_ends others

-- ---- from a fault that is read to its place

-- some front of the tokens has no more left than the reader
reached : (tokens r : List Token) → FrontProgram every tokens r → (x : Result System Fault) → program_of levels tokens ≡ x → ProgramReaches every levels (length r) x
reached tokens r h x e = subst (λ z. ProgramReaches every levels (length r) z) e (front_program levels (omega arith) h)

deep_reached : (l : ℕ) (tokens r : List Token) → HasLevel tokens r l → (x : Result System Fault) → program_of levels tokens ≡ x → ProgramReaches (ending l) levels (length r) x
deep_reached l tokens r h x e = subst (λ z. ProgramReaches (ending l) levels (length r) z) e (front_program levels (omega arith) h)

begun : (tokens : List Token) (x : Result System Fault) → program_of levels tokens ≡ x → ProgramStands levels tokens x
begun tokens x e = subst (λ z. ProgramStands levels tokens z) e (program_begun levels tokens)

no_more : {k m : ℕ} → ProgramReaches every levels m (Err (Syntax k)) → k ≤ m
no_more (faults_at below le) = le

is_below : {k m l : ℕ} → ProgramReaches (ending l) levels m (Err (Syntax k)) → l < levels
is_below (faults_at below le) = below

is_above : {k m l : ℕ} → ProgramReaches (ending l) levels m (Err (Depth k)) → levels ≤ l → m < k
is_above (sinks_at a) = a

no_less : (a : ℕ) → a < a → ⊥
no_less a h = omega arith

-- one of the two
less_or_not : (a b : ℕ) → (a < b) ⊎ (b ≤ a)
less_or_not zero zero = inr (omega arith)
less_or_not zero (suc b) = inl (omega arith)
less_or_not (suc a) zero = inr (omega arith)
less_or_not (suc a) (suc b) = elim (less_or_not a b) [ inl h ↦ inl (omega arith) | inr h ↦ inr (omega arith) ]

-- what is said of the place that a number of tokens left tells
abbrev pub IsPlaceOf : List Token → ℕ → Place → Type 0
IsPlaceOf tokens left place = (before rest : List Token) → tokens ≡ before ++ rest → length rest ≡ left → place ≡ place_of rest

-- the place of what is left is that of its first token
pub the_place : (tokens before rest : List Token) (place : Place) → tokens ≡ before ++ rest → place_of rest ≡ place → IsPlaceOf tokens (length rest) place
the_place tokens before rest place split is = λ other last e l. sym is ∙ ap place_of (sym (same_rest other before last rest (sym e ∙ split) l))

pub syntax_place : (tokens : List Token) (m : ℕ) (place : Place) → EndsLast tokens → program_of levels tokens ≡ Err (Syntax m) → IsPlaceOf tokens m place → IsSyntaxPlace tokens place
syntax_place tokens m place last e placed = here m e placed (begun tokens (Err (Syntax m)) e)
  where
    here : (m : ℕ) → program_of levels tokens ≡ Err (Syntax m) → IsPlaceOf tokens m place → ProgramStands levels tokens (Err (Syntax m)) → IsSyntaxPlace tokens place
    here m e placed (wrong {r = []} walk front some) = absurd (let h : 1 ≤ 0 = some last in omega arith)
    here m e placed (wrong {r = x ∷ r} walk front some) =
        let q = walked_before walk in
        record {
          before = q.0;
          token = x;
          rest = r;
          split = q.1;
          stands = sym (placed q.0 (x ∷ r) q.1 refl);
          begins = front;
          none = λ h. absurd (let le : suc (length r) ≤ length r = no_more (reached tokens r h (Err (Syntax (suc (length r)))) e) in omega arith);
          no_depth = λ l t h. is_below (deep_reached l tokens t h (Err (Syntax (suc (length r)))) e);
        }

pub depth_place : (tokens : List Token) (m : ℕ) (place : Place) → program_of levels tokens ≡ Err (Depth m) → IsPlaceOf tokens m place → IsDepthPlace tokens place
depth_place tokens m place e placed = here m e placed (begun tokens (Err (Depth m)) e)
  where
    here : (m : ℕ) → program_of levels tokens ≡ Err (Depth m) → IsPlaceOf tokens m place → ProgramStands levels tokens (Err (Depth m)) → IsDepthPlace tokens place
    here m e placed (sunk {x = x} {r = r} walk front deep) =
        let q = walked_before walk in
        record {
          before = q.0;
          token = x;
          rest = r;
          split = q.1;
          stands = sym (placed q.0 (x ∷ r) q.1 refl);
          level = deep;
          first = λ l t h less. elim (less_or_not l levels) [
            | inl low ↦ low
            | inr high ↦ absurd (let more : length t < suc (length r) = is_above (deep_reached l tokens t h (Err (Depth (suc (length r)))) e) high in omega arith)
          ];
        }

-- ---- from a place to the fault that is read

append_one : (before : List Token) (x : Token) (rest : List Token) → (before ++ x ∷ []) ++ rest ≡ before ++ x ∷ rest
append_one [] x rest = refl
append_one (y ∷ before) x rest = ap (λ z. y ∷ z) (append_one before x rest)

pub syntax_read : (tokens : List Token) (place : Place) (is : IsSyntaxPlace tokens place) → program_of levels tokens ≡ Err (Syntax (length (is.token ∷ is.rest)))
syntax_read tokens place is = here (program_of levels tokens) refl
  where
    passed : {stop : List Token} → Walked (λ r. FrontProgram every tokens r) tokens stop → FrontProgram every tokens stop → length stop ≤ length is.rest → ⊥
    passed walk front le = is.none (on_the_way walk front (is.before ++ is.token ∷ []) is.rest (is.split ∙ sym (append_one is.before is.token is.rest)) le)

    stopped : {r : List Token} → Walked (λ r. FrontProgram every tokens r) tokens r → FrontProgram every tokens r → length r ≤ suc (length is.rest) → length r ≡ suc (length is.rest)
    stopped {r = r} walk front le = elim (less_or_not (length is.rest) (length r)) [ inl more ↦ omega arith | inr less ↦ absurd (passed walk front less) ]

    matches : (x : Result System Fault) → ProgramStands levels tokens x → ProgramReaches every levels (suc (length is.rest)) x → ((l : ℕ) (r : List Token) → HasLevel tokens r l → l < levels)
        → x ≡ Err (Syntax (suc (length is.rest)))
    matches x (whole walk front) h low = absurd (passed walk front (omega arith))
    matches x (wrong walk front some) (faults_at below le) low = ap (λ k. Err (Syntax k)) (stopped walk front le)
    matches x (sunk {r = r} walk front deep) h low = absurd (let less : levels < levels = low levels r deep in omega arith)

    here : (x : Result System Fault) → program_of levels tokens ≡ x → program_of levels tokens ≡ Err (Syntax (suc (length is.rest)))
    here x e = e ∙ matches x (begun tokens x e) (reached tokens (is.token ∷ is.rest) is.begins x e) is.no_depth

pub depth_read : (tokens : List Token) (place : Place) (is : IsDepthPlace tokens place) → program_of levels tokens ≡ Err (Depth (length (is.token ∷ is.rest)))
depth_read tokens place is = here (program_of levels tokens) refl
  where
    stopped : (r : List Token) → HasLevel tokens r levels → (levels ≤ levels → length is.rest < suc (length r)) → suc (length r) ≡ suc (length is.rest)
    stopped r deep above =
        let le : length is.rest < suc (length r) = above (omega arith) in
        elim (less_or_not (length is.rest) (length r)) [
          | inl more ↦ absurd (let less : levels < levels = is.first levels r deep more in omega arith)
          | inr less ↦ omega arith
        ]

    matches : (x : Result System Fault) → ProgramStands levels tokens x → ProgramReaches (ending levels) levels (length is.rest) x → x ≡ Err (Depth (suc (length is.rest)))
    matches x (whole walk front) (ends_well below) = absurd (no_less levels below)
    matches x (wrong walk front some) (faults_at below le) = absurd (no_less levels below)
    matches x (sunk {r = r} walk front deep) (sinks_at above) = ap (λ k. Err (Depth k)) (stopped r deep above)

    here : (x : Result System Fault) → program_of levels tokens ≡ x → program_of levels tokens ≡ Err (Depth (suc (length is.rest)))
    here x e = e ∙ matches x (begun tokens x e) (deep_reached levels tokens is.rest is.level x e)

-- ---- the place of each fault

syntax_left : (a b : ℕ) → ◌≡◌ {A = Result System Fault} (Err (Syntax a)) (Err (Syntax b)) → a ≡ b
syntax_left a b e = cc

depth_left : (a b : ℕ) → ◌≡◌ {A = Result System Fault} (Err (Depth a)) (Err (Depth b)) → a ≡ b
depth_left a b e = cc

apart_faults : (a b : ℕ) → ◌≡◌ {A = Result System Fault} (Err (Syntax a)) (Err (Depth b)) → ⊥
apart_faults a b e = cc

pub apart_answer : (s : System) (f : Fault) → ◌≡◌ {A = Result System Fault} (Ok s) (Err f) → ⊥
apart_answer s f e = cc

-- the place that a call answers is that of the fault
pub syntax_same : (tokens : List Token) (m : ℕ) (place wanted : Place) → program_of levels tokens ≡ Err (Syntax m) → IsPlaceOf tokens m place → IsSyntaxPlace tokens wanted → place ≡ wanted
syntax_same tokens m place wanted e placed is =
    placed is.before (is.token ∷ is.rest) is.split (syntax_left (length (is.token ∷ is.rest)) m (sym (syntax_read tokens wanted is) ∙ e)) ∙ is.stands

pub depth_same : (tokens : List Token) (m : ℕ) (place wanted : Place) → program_of levels tokens ≡ Err (Depth m) → IsPlaceOf tokens m place → IsDepthPlace tokens wanted → place ≡ wanted
depth_same tokens m place wanted e placed is =
    placed is.before (is.token ∷ is.rest) is.split (depth_left (length (is.token ∷ is.rest)) m (sym (depth_read tokens wanted is) ∙ e)) ∙ is.stands

pub syntax_not_depth : (tokens : List Token) (m : ℕ) (wanted : Place) → program_of levels tokens ≡ Err (Syntax m) → IsDepthPlace tokens wanted → ⊥
syntax_not_depth tokens m wanted e is = apart_faults m (length (is.token ∷ is.rest)) (sym e ∙ depth_read tokens wanted is)

pub depth_not_syntax : (tokens : List Token) (m : ℕ) (wanted : Place) → program_of levels tokens ≡ Err (Depth m) → IsSyntaxPlace tokens wanted → ⊥
depth_not_syntax tokens m wanted e is = apart_faults (length (is.token ∷ is.rest)) m (sym (syntax_read tokens wanted is) ∙ e)

-- ---- the laws

pub program_has_no_fault : (tokens : List Token) (tree : System) (fault : ParseFault) → program_of levels tokens ≡ Ok tree → IsFault tokens fault → ⊥
program_has_no_fault tokens tree (parse.Syntax place) e is = apart_answer tree _ (sym e ∙ syntax_read tokens place is)
program_has_no_fault tokens tree (parse.Depth place) e is = apart_answer tree _ (sym e ∙ depth_read tokens place is)
program_has_no_fault tokens tree parse.Memory e is = is

pub one_fault : (tokens : List Token) (some other : ParseFault) → IsFault tokens some → IsFault tokens other → some ≡ other
one_fault tokens (parse.Syntax p) (parse.Syntax q) a b =
    ap (λ z. parse.Syntax z) (syntax_same tokens (length (a.token ∷ a.rest)) p q (syntax_read tokens p a) (the_place tokens a.before (a.token ∷ a.rest) p a.split a.stands) b)
one_fault tokens (parse.Syntax p) (parse.Depth q) a b = absurd (syntax_not_depth tokens _ q (syntax_read tokens p a) b)
one_fault tokens (parse.Depth p) (parse.Syntax q) a b = absurd (depth_not_syntax tokens _ q (depth_read tokens p a) b)
one_fault tokens (parse.Depth p) (parse.Depth q) a b =
    ap (λ z. parse.Depth z) (depth_same tokens (length (a.token ∷ a.rest)) p q (depth_read tokens p a) (the_place tokens a.before (a.token ∷ a.rest) p a.split a.stands) b)
one_fault tokens parse.Memory other a b = absurd a
one_fault tokens (parse.Syntax p) parse.Memory a b = absurd b
one_fault tokens (parse.Depth p) parse.Memory a b = absurd b

pub some_fault : (tokens : List Token) → EndsLast tokens → ((tree : System) × IsProgram levels tokens tree) ⊎ ((fault : ParseFault) × IsFault tokens fault)
some_fault tokens last = here (program_of levels tokens) refl
  where
    found : (x : Result System Fault) → ProgramStands levels tokens x → program_of levels tokens ≡ x → ((tree : System) × IsProgram levels tokens tree) ⊎ ((fault : ParseFault) × IsFault tokens fault)
    found x (whole {s = s} walk front) e = inl (s, program_sound levels tokens s e)
    found x (wrong {r = r} walk front some) e =
        let q = walked_before walk in
        inr (parse.Syntax (place_of r), syntax_place tokens (length r) (place_of r) last e (the_place tokens q.0 r (place_of r) q.1 refl))
    found x (sunk {x = y} {r = r} walk front deep) e =
        let q = walked_before walk in
        inr (parse.Depth y.place, depth_place tokens (suc (length r)) y.place e (the_place tokens q.0 (y ∷ r) y.place q.1 refl))

    here : (x : Result System Fault) → program_of levels tokens ≡ x → ((tree : System) × IsProgram levels tokens tree) ⊎ ((fault : ParseFault) × IsFault tokens fault)
    here x e = found x (begun tokens x e) e

no_answer : (s : System) (f : Fault) → ◌≡◌ {A = Result System Fault} (Err f) (Ok s) → ⊥
no_answer s f e = cc

-- the tokens of a program begin one, up to each of them
pub program_beginnings : (n : ℕ) (tokens before rest : List Token) (tree : System) → IsProgram n tokens tree → tokens ≡ before ++ rest → FrontProgram every tokens rest
program_beginnings n tokens before rest tree is split = here (program_of n tokens) (program_begun n tokens) (program_complete n tokens tree is)
  where
    here : (x : Result System Fault) → ProgramStands n tokens x → x ≡ Ok tree → FrontProgram every tokens rest
    here x (whole walk front) e = on_the_way walk front before rest split (omega arith)
    here x (wrong walk front some) e = absurd (no_answer tree _ e)
    here x (sunk walk front deep) e = absurd (no_answer tree _ e)
