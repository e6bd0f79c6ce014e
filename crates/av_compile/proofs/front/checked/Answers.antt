use Rattle.std.proofs.Common.{◌≡◌, ◌≢◌, ◌⊎◌, ℕ, List, ap, sym, subst}
use Rattle.std.specs.Prelude.{Result, Ok, Err}
use Rattle.std.specs.Result.{IsErrAnd}
use Rattle.av_flat.specs.declared.flat.Flat.{Flat}
use Rattle.av_flat.specs.Proper.{IsProper}
use Rattle.av_flat.specs.Trees.{view_system}
use Rattle.av_names.specs.declared.size.Size.{Size}
use Rattle.av_compile.specs.declared.refusal.Refusal.{Refusal}
use Rattle.av_compile.specs.declared.refusal.Refusal.TheVariants as refusal
use Rattle.av_compile.specs.Checked.{HasNormalForm, IsChecked, IsRefused, in_pieces, in_points}
use Rattle.av_compile.specs.Refusals.{of_normal, of_check}
use Rattle.av_compile.proofs.FirstFaults.{told, memory_only}
use Rattle.av_compile.proofs.OneChain.{one_flat}
use Rattle.av_compile.proofs.OneRefusal.{caused}
use Rattle.av_compile.proofs.TextProper.{text_is_proper}
use Rattle.av_compile.proofs.front.checked.Goals as goal

-- ---- what is found

pub returns-clause-found : goal.returns-clause-found
returns-clause-found c = record {
  flat = view_system c.in_ok-flat.flat;
  flattens = c.in_ok-flat.ensures.found;
  given = c.in_ok-normal.ensures.gives;
  proper = c.in_ok-check_normal.ensures.proper;
  text_proper = text_is_proper c.args.bytes.now c.args.sizes.now c.args.width.bits (view_system c.in_ok-flat.flat) c.requires.short c.in_ok-flat.ensures.found c.in_ok-check_normal.ensures.proper;
}

-- ---- the first fault

pub returns-in_err-flat-clause-refused : goal.returns-in_err-flat-clause-refused
returns-in_err-flat-clause-refused c = λ f is not_memory.
    let fault = c.in_err-flat.field-0.0 in
    let e : f ≡ fault = told c.from_residual.result fault f c.from_residual.ensures.1 is in
    let was : c.flattened.result ≡ Err f = cc in
    c.flattened.ensures.refused f was not_memory

pub returns-in_err-normal-clause-refused : goal.returns-in_err-normal-clause-refused
returns-in_err-normal-clause-refused c = λ f is not_memory.
    let fault = c.in_err-normal.field-0.0 in
    let e : f ≡ of_normal fault = told c.from_residual-in_err-normal.result (of_normal fault) f c.from_residual-in_err-normal.ensures.1 is in
    in_pieces fault e (view_system c.in_ok-flat.flat) c.in_ok-flat.ensures.found c.in_err-normal.ensures.refuses

pub returns-in_err-check_normal-clause-refused : goal.returns-in_err-check_normal-clause-refused
returns-in_err-check_normal-clause-refused c = λ f is not_memory.
    let fault = c.in_err-check_normal.field-0.0 in
    let e : f ≡ of_check fault = told c.from_residual-in_err-check_normal.result (of_check fault) f c.from_residual-in_err-check_normal.ensures.1 is in
    in_points fault e (view_system c.in_ok-flat.flat) c.in_ok-flat.ensures.found c.in_ok-normal.ensures.gives.no_cause c.in_err-check_normal.ensures.fault

-- ---- none where there is none

pub returns-in_err-flat-clause-complete : goal.returns-in_err-flat-clause-complete
returns-in_err-flat-clause-complete c = λ s h has_form proper.
    memory_only c.from_residual.result c.in_err-flat.field-0.0 c.from_residual.ensures.1 (c.in_err-flat.ensures.complete s h)

pub returns-in_err-normal-clause-complete : goal.returns-in_err-normal-clause-complete
returns-in_err-normal-clause-complete c = λ s h has_form proper.
    let fault = c.in_err-normal.field-0.0 in
    let flat = one_flat c.args.bytes.now c.args.sizes.now c.args.width.bits s (view_system c.in_ok-flat.flat) h c.in_ok-flat.ensures.found in
    memory_only c.from_residual-in_err-normal.result (of_normal fault) c.from_residual-in_err-normal.ensures.1
    (ap of_normal (subst HasNormalForm (sym flat) has_form fault c.in_err-normal.ensures.refuses))

pub returns-in_err-check_normal-clause-complete : goal.returns-in_err-check_normal-clause-complete
returns-in_err-check_normal-clause-complete c = λ s h has_form proper.
    let fault = c.in_err-check_normal.field-0.0 in
    let flat = one_flat c.args.bytes.now c.args.sizes.now c.args.width.bits s (view_system c.in_ok-flat.flat) h c.in_ok-flat.ensures.found in
    memory_only c.from_residual-in_err-check_normal.result (of_check fault) c.from_residual-in_err-check_normal.ensures.1
    (ap of_check (c.in_err-check_normal.ensures.complete (subst IsProper (sym flat) proper)))

-- ---- each cause has its answer

-- an error's first fault, by the clause that says it
module _ (bytes : List ℕ) (words : List Size) (width : ℕ) where
  of_error : (r : Result Flat Refusal) (e : Refusal) → IsErrAnd r (λ y. y ≡ e) → ((f : Refusal) → r ≡ Err f → f ≢ refusal.Memory → IsRefused bytes words width f)
      → (f : Refusal) → IsRefused bytes words width f → f ≢ refusal.Memory → (r ≡ Err f) ⊎ (r ≡ Err refusal.Memory)
  of_error (Ok to) e h refused = absurd h
  of_error (Err g) e h refused = caused bytes words width (Err g) tt refused

pub returns-in_err-flat-clause-cause : goal.returns-in_err-flat-clause-cause
returns-in_err-flat-clause-cause c =
    of_error c.args.bytes.now c.args.sizes.now c.args.width.bits c.from_residual.result c.in_err-flat.field-0.0 c.from_residual.ensures.1 (returns-in_err-flat-clause-refused c)

pub returns-in_err-normal-clause-cause : goal.returns-in_err-normal-clause-cause
returns-in_err-normal-clause-cause c =
    of_error c.args.bytes.now c.args.sizes.now c.args.width.bits c.from_residual-in_err-normal.result (of_normal c.in_err-normal.field-0.0) c.from_residual-in_err-normal.ensures.1 (returns-in_err-normal-clause-refused c)

pub returns-in_err-check_normal-clause-cause : goal.returns-in_err-check_normal-clause-cause
returns-in_err-check_normal-clause-cause c =
    of_error c.args.bytes.now c.args.sizes.now c.args.width.bits c.from_residual-in_err-check_normal.result (of_check c.in_err-check_normal.field-0.0) c.from_residual-in_err-check_normal.ensures.1 (returns-in_err-check_normal-clause-refused c)

pub returns-clause-cause : goal.returns-clause-cause
returns-clause-cause c =
    let found : IsChecked c.args.bytes.now c.args.sizes.now c.args.width.bits (view_system c.in_ok-normal.normal) = returns-clause-found c in
    caused c.args.bytes.now c.args.sizes.now c.args.width.bits (Ok c.in_ok-normal.normal) found (λ f is. absurd cc)
