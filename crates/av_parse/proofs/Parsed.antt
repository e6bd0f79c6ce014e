-- What the answer to all tokens says of the program that they spell.
use Rattle.std.proofs.Common.{◌≡◌, ℕ, List, Result, Ok, Err, sym, ap, subst, ◌∙◌, inr}
use Rattle.av_base.specs.declared.place.Place.{Place}
use Rattle.av_base.specs.Tokens.{Token, IsText, start}
use Rattle.av_lex.proofs.Readings.{one_list}
use Rattle.av_tree.specs.declared.system.System.{System as SystemMade}
use Rattle.av_tree.specs.Trees.{System, view_system}
use Rattle.av_tree.specs.Grammar.{IsProgram, IsProgramText, levels}
use Rattle.av_tree.specs.Fronts.{IsSyntaxPlace, IsDepthPlace}
use Rattle.av_parse.specs.declared.fault.Fault.{Fault}
use Rattle.av_parse.specs.declared.fault.Fault.TheVariants as fault
use Rattle.av_parse.specs.declared.fault.ParseFault.{ParseFault}
use Rattle.av_parse.specs.declared.fault.ParseFault.TheVariants as parse
use Rattle.av_parse.specs.Parsing.{IsFault, Refuses}
use Rattle.av_parse.specs.declared.fault.Stop.{Stop}
use Rattle.av_parse.specs.declared.fault.Stop.TheVariants as stop
use Rattle.av_parse.specs.inner.Reader.{Gives, Stops}
use Rattle.av_parse.specs.inner.ProgramReader.{program_of}
use Rattle.av_parse.proofs.SoundProgram.{program_sound}
use Rattle.av_parse.proofs.CompleteProgram.{program_complete}
use Rattle.av_parse.proofs.OneTree.{one_tree_only, same_ok}
use Rattle.av_parse.proofs.FaultPlaces.{IsPlaceOf, text_ends, syntax_place, depth_place, syntax_same, depth_same, syntax_not_depth, depth_not_syntax, program_has_no_fault, apart_answer}

pub is_found : (ts : List Token) (r : Result SystemMade Stop) (s : SystemMade) → Gives view_system r (program_of levels ts) → r ≡ Ok s → IsProgram levels ts (view_system s)
is_found ts r s h e = program_sound levels ts (view_system s) (subst (λ z. Gives view_system z (program_of levels ts)) e h)

pub is_only : (ts : List Token) (r : Result SystemMade Stop) (s : SystemMade) (tree : System) → Gives view_system r (program_of levels ts) → r ≡ Ok s → IsProgram levels ts tree → view_system s ≡ tree
is_only ts r s tree h e p =
    let read : program_of levels ts ≡ Ok (view_system s) = subst (λ z. Gives view_system z (program_of levels ts)) e h in
    same_ok (view_system s) tree (sym read ∙ program_complete levels ts tree p)

-- the fault that is read
pub is_read : (ts : List Token) (r : Result SystemMade Stop) (e : Stop) (f : Fault) → Gives view_system r (program_of levels ts) → r ≡ Err e → e ≡ stop.Fault f → program_of levels ts ≡ Err f
is_read ts r e f h is w = subst (λ z. Stops z (program_of levels ts)) w (subst (λ z. Gives view_system z (program_of levels ts)) is h)

pub is_none : (ts : List Token) (r : Result SystemMade Stop) (e : Stop) (f : Fault) (tree : System) → Gives view_system r (program_of levels ts) → r ≡ Err e → e ≡ stop.Fault f → IsProgram levels ts tree → ⊥
is_none ts r e f tree h is w p = apart_answer tree f (sym (program_complete levels ts tree p) ∙ is_read ts r e f h is w)

-- where a tree is read there is no fault
pub is_faultless : (ts : List Token) (r : Result SystemMade Stop) (s : SystemMade) (wanted : ParseFault) → Gives view_system r (program_of levels ts) → r ≡ Ok s → IsFault ts wanted → ⊥
is_faultless ts r s wanted h e is = program_has_no_fault ts (view_system s) wanted (subst (λ z. Gives view_system z (program_of levels ts)) e h) is

-- ---- the places that are answered

place_is : (p q : Place) → ◌≡◌ {A = Result SystemMade ParseFault} (Err (parse.Syntax p)) (Err (parse.Syntax q)) → p ≡ q
place_is p q e = cc

depth_is : (p q : Place) → ◌≡◌ {A = Result SystemMade ParseFault} (Err (parse.Depth p)) (Err (parse.Depth q)) → p ≡ q
depth_is p q e = cc

-- the fault that is read, with the number of tokens left
pub is_syntax : (ts : List Token) (f : Fault) (left : ℕ) → program_of levels ts ≡ Err f → f ≡ fault.Syntax left → program_of levels ts ≡ Err (fault.Syntax left)
is_syntax ts f left e is = e ∙ ap (λ z. Err z) is

pub is_depth : (ts : List Token) (f : Fault) (left : ℕ) → program_of levels ts ≡ Err f → f ≡ fault.Depth left → program_of levels ts ≡ Err (fault.Depth left)
is_depth ts f left e is = e ∙ ap (λ z. Err z) is

pub answers_syntax : (ts : List Token) (left : ℕ) (placed : Place) → program_of levels ts ≡ Err (fault.Syntax left) → IsPlaceOf ts left placed → (bytes : List ℕ) (place : Place)
    → IsText start bytes ts → ◌≡◌ {A = Result SystemMade ParseFault} (Err (parse.Syntax placed)) (Err (parse.Syntax place)) → IsSyntaxPlace ts place
answers_syntax ts left placed e at bytes place text same = subst (λ z. IsSyntaxPlace ts z) (place_is placed place same) (syntax_place ts left placed (text_ends text) e at)

pub answers_depth : (ts : List Token) (left : ℕ) (placed : Place) → program_of levels ts ≡ Err (fault.Depth left) → IsPlaceOf ts left placed → (place : Place)
    → ◌≡◌ {A = Result SystemMade ParseFault} (Err (parse.Depth placed)) (Err (parse.Depth place)) → IsDepthPlace ts place
answers_depth ts left placed e at place same = subst (λ z. IsDepthPlace ts z) (depth_is placed place same) (depth_place ts left placed e at)

pub refuses_syntax : (ts : List Token) (left : ℕ) (placed : Place) → program_of levels ts ≡ Err (fault.Syntax left) → IsPlaceOf ts left placed → (wanted : ParseFault)
    → IsFault ts wanted → Refuses (Err (parse.Syntax placed)) wanted
refuses_syntax ts left placed e at (parse.Syntax place) is = inr (ap (λ z. parse.Syntax z) (syntax_same ts left placed place e at is))
refuses_syntax ts left placed e at (parse.Depth place) is = absurd (syntax_not_depth ts left place e is)
refuses_syntax ts left placed e at parse.Memory is = absurd is

pub refuses_depth : (ts : List Token) (left : ℕ) (placed : Place) → program_of levels ts ≡ Err (fault.Depth left) → IsPlaceOf ts left placed → (wanted : ParseFault)
    → IsFault ts wanted → Refuses (Err (parse.Depth placed)) wanted
refuses_depth ts left placed e at (parse.Depth place) is = inr (ap (λ z. parse.Depth z) (depth_same ts left placed place e at is))
refuses_depth ts left placed e at (parse.Syntax place) is = absurd (depth_not_syntax ts left place e is)
refuses_depth ts left placed e at parse.Memory is = absurd is

pub one_text : (bytes : List ℕ) (s t : System) → IsProgramText bytes s → IsProgramText bytes t → s ≡ t
one_text bytes s t p q =
    one_tree_only levels levels q.tokens s t (subst (λ ts. IsProgram levels ts s) (one_list start bytes p.tokens q.tokens p.spelled q.spelled) p.program) q.program
