-- Which fault of a text is the first, step by step, and that a text without one has none.
use Rattle.std.proofs.Common.{◌≡◌, ◌≢◌, ℕ, ◌⊎◌, inl, inr, List, sym, ap, subst, ◌∙◌}
use Rattle.std.specs.Prelude.{Result, Ok, Err, IfErr}
use Rattle.std.specs.Result.{IsErrAnd}
use Rattle.av_base.specs.declared.place.Place.{Place}
use Rattle.av_base.specs.Tokens.{Token, IsText, start}
use Rattle.av_tree.specs.Trees.{System}
use Rattle.av_tree.specs.declared.system.System.{System as Tree}
use Rattle.av_tree.specs.Fronts.{IsSyntaxPlace, IsDepthPlace}
use Rattle.av_tree.specs.Grammar.{IsProgram, IsProgramText, levels}
use Rattle.av_lex.specs.declared.token.Token.{Token as Found}
use Rattle.av_lex.specs.declared.fault.LexFault.{LexFault}
use Rattle.av_lex.specs.declared.fault.LexFault.TheVariants as lex
use Rattle.av_lex.specs.Faults as lexed
use Rattle.av_lex.specs.Lexing.{views, Gives}
use Rattle.av_parse.specs.declared.fault.ParseFault.{ParseFault}
use Rattle.av_parse.specs.declared.fault.ParseFault.TheVariants as parse
use Rattle.av_names.specs.declared.size.Size.{Size}
use Rattle.av_names.specs.declared.fault.NameFault.{NameFault}
use Rattle.av_names.specs.declared.fault.NameFault.TheVariants as names
use Rattle.av_names.specs.Sizes.{instance_of}
use Rattle.av_names.specs.Flattened.{flat_of}
use Rattle.av_names.specs.Refusals.{IsAccepted, IsRefusal}
use Rattle.av_flat.specs.Trees.{FlatSystem}
use Rattle.av_compile.specs.declared.refusal.Refusal.{Refusal}
use Rattle.av_compile.specs.declared.refusal.Refusal.TheVariants as refusal
use Rattle.av_compile.specs.Refusals.{of_lex, of_parse, of_names}
use Rattle.av_compile.specs.Checked.{Flattens, IsRefused, in_bytes, in_tokens, in_names}

-- ---- what is answered where a step has found a fault

pub told : {T : Type 0} (r : Result T Refusal) (e f : Refusal) → IsErrAnd r (λ y. y ≡ e) → r ≡ Err f → f ≡ e
told (Ok t) e f h is = absurd cc
told (Err y) e f h is = let same : y ≡ f = cc in sym same ∙ h

pub memory_only : {T : Type 0} (r : Result T Refusal) (e : Refusal) → IsErrAnd r (λ y. y ≡ e) → e ≡ refusal.Memory → IfErr r (λ f. f ≡ refusal.Memory)
memory_only (Ok t) e h is = tt
memory_only (Err y) e h is = h ∙ is

-- ---- the first faults of bytes, tokens and names

pub bytes_refused : {T : Type 0} (bytes : List ℕ) (words : List Size) (width : ℕ) (r : Refusal) (f : LexFault) (found : Result T LexFault)
    → ((p : Place) → found ≡ Err (lex.BadByte p) → lexed.IsFault start bytes (lex.BadByte p))
    → ((p : Place) → found ≡ Err (lex.Number p) → lexed.IsFault start bytes (lex.Number p))
    → found ≡ Err f → r ≡ of_lex f → r ≢ refusal.Memory → IsRefused bytes words width r
bytes_refused bytes words width r (lex.BadByte p) found bad number was e not_memory = in_bytes (lex.BadByte p) e (bad p was)
bytes_refused bytes words width r (lex.Number p) found bad number was e not_memory = in_bytes (lex.Number p) e (number p was)
bytes_refused bytes words width r lex.Memory found bad number was e not_memory = absurd (not_memory e)

pub tokens_refused : (bytes : List ℕ) (words : List Size) (width : ℕ) (r : Refusal) (f : ParseFault) (tokens : List Token) (found : Result Tree ParseFault)
    → IsText start bytes tokens
    → ((bytes : List ℕ) (p : Place) → IsText start bytes tokens → found ≡ Err (parse.Syntax p) → IsSyntaxPlace tokens p)
    → ((p : Place) → found ≡ Err (parse.Depth p) → IsDepthPlace tokens p)
    → found ≡ Err f → r ≡ of_parse f → r ≢ refusal.Memory → IsRefused bytes words width r
tokens_refused bytes words width r (parse.Syntax p) tokens found text syntax depth was e not_memory = in_tokens (parse.Syntax p) e tokens text (syntax bytes p text was)
tokens_refused bytes words width r (parse.Depth p) tokens found text syntax depth was e not_memory = in_tokens (parse.Depth p) e tokens text (depth p was)
tokens_refused bytes words width r parse.Memory tokens found text syntax depth was e not_memory = absurd (not_memory e)

pub names_refused : (bytes : List ℕ) (words : List Size) (width : ℕ) (r : Refusal) (f : NameFault) (s : System)
    → IsProgramText bytes s → (f ≡ names.Memory) ⊎ IsRefusal s words f → r ≡ of_names f → r ≢ refusal.Memory → IsRefused bytes words width r
names_refused bytes words width r f s text (inl memory) e not_memory = absurd (not_memory (e ∙ ap of_names memory))
names_refused bytes words width r f s text (inr refused) e not_memory = in_names f e s text refused

-- ---- what the steps find is what the bytes spell

pub text_of : (bytes : List ℕ) (tokens held : List Found) → held ≡ tokens → IsText start bytes (views tokens) → (s : System) → IsProgram levels (views held) s
    → IsProgramText bytes s
text_of bytes tokens held is text s program = record {
  tokens = views held;
  spelled = subst (λ (ts : List Found). IsText start bytes (views ts)) (sym is) text;
  program = program;
}

pub program_of : (bytes : List ℕ) (words : List Size) (width : ℕ) (s : FlatSystem) (tokens held : List Found) → held ≡ tokens
    → ((ts : List Token) → IsText start bytes ts → Gives (Ok tokens) (Ok ts)) → (h : Flattens bytes words width s) → IsProgram levels (views held) h.system
program_of bytes words width s tokens held is only h =
    let given = only h.text.tokens h.text.spelled in
    let same : h.text.tokens ≡ views tokens = cc in
    subst (λ (ts : List Token). IsProgram levels ts h.system) (same ∙ ap views (sym is)) h.text.program

pub same_flat : (words : List Size) (width : ℕ) (system other : System) (s t : FlatSystem) → s ≡ flat_of (instance_of system words width)
    → t ≡ flat_of (instance_of other words width) → other ≡ system → t ≡ s
same_flat words width system other s t is also same = also ∙ ap (λ (x : System). flat_of (instance_of x words width)) same ∙ sym is

pub accepted_names : (words : List Size) (s t : System) (f : NameFault) → s ≡ t → IsAccepted t words → (f ≡ names.Memory) ⊎ IsRefusal s words f
    → of_names f ≡ refusal.Memory
accepted_names words s t f same accepted (inl memory) = ap of_names memory
accepted_names words s t f same accepted (inr refused) = absurd (let at = subst (λ (x : System). IsRefusal x words f) same refused in cc)
