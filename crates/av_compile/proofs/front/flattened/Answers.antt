use Rattle.std.proofs.Common.{◌≡◌, ap, sym, subst}
use Rattle.std.specs.Prelude.{List}
use Rattle.av_base.specs.Tokens.{IsText, start}
use Rattle.av_lex.specs.declared.token.Token.{Token as Found}
use Rattle.av_lex.specs.Lexing.{views}
use Rattle.av_tree.specs.Trees as tree
use Rattle.av_compile.specs.Refusals.{of_lex, of_parse, of_names}
use Rattle.av_compile.proofs.FirstFaults.{told, memory_only, bytes_refused, tokens_refused, names_refused, text_of, program_of, accepted_names}
use Rattle.av_compile.proofs.front.flattened.Goals as goal

-- ---- the first fault

pub returns-in_err-tokens-clause-refused : goal.returns-in_err-tokens-clause-refused
returns-in_err-tokens-clause-refused c = λ f is not_memory.
    let fault = c.in_err-tokens.field-0.0 in
    let e : f ≡ of_lex fault = told c.from_residual.result (of_lex fault) f c.from_residual.ensures.1 is in
    bytes_refused c.args.bytes.now c.args.sizes.now c.args.width.bits f fault c.lex.result c.lex.ensures.bad_byte c.lex.ensures.number c.in_err-tokens.was e not_memory

pub returns-in_err-system-clause-refused : goal.returns-in_err-system-clause-refused
returns-in_err-system-clause-refused c = λ f is not_memory.
    let fault = c.in_err-system.field-0.0 in
    let e : f ≡ of_parse fault = told c.from_residual-in_err-system.result (of_parse fault) f c.from_residual-in_err-system.ensures.1 is in
    let text = subst (λ (ts : List Found). IsText start c.args.bytes.now (views ts)) (sym c.as_slice.ensures) c.in_ok-tokens.ensures.found in
    tokens_refused c.args.bytes.now c.args.sizes.now c.args.width.bits f fault (views c.as_slice.result.now) c.parse.result text
    c.parse.ensures.syntax c.parse.ensures.depth c.in_err-system.was e not_memory

pub returns-in_err-resolve-clause-refused : goal.returns-in_err-resolve-clause-refused
returns-in_err-resolve-clause-refused c = λ f is not_memory.
    let fault = c.in_err-resolve.field-0.0 in
    let e : f ≡ of_names fault = told c.from_residual-in_err-resolve.result (of_names fault) f c.from_residual-in_err-resolve.ensures.1 is in
    let s = tree.view_system c.in_ok-system.system in
    let text = text_of c.args.bytes.now c.in_ok-tokens.tokens c.as_slice.result.now c.as_slice.ensures c.in_ok-tokens.ensures.found s c.in_ok-system.ensures.found in
    names_refused c.args.bytes.now c.args.sizes.now c.args.width.bits f fault s text (c.resolve.ensures.refused fault c.in_err-resolve.was) e not_memory

-- ---- none where there is none

pub returns-in_err-system-clause-complete : goal.returns-in_err-system-clause-complete
returns-in_err-system-clause-complete c = λ s h.
    let fault = c.in_err-system.field-0.0 in
    let program = program_of c.args.bytes.now c.args.sizes.now c.args.width.bits s c.in_ok-tokens.tokens c.as_slice.result.now c.as_slice.ensures c.in_ok-tokens.ensures.only h in
    memory_only c.from_residual-in_err-system.result (of_parse fault) c.from_residual-in_err-system.ensures.1
    (ap of_parse (c.parse.ensures.refused fault h.system c.in_err-system.was program))

pub returns-in_err-resolve-clause-complete : goal.returns-in_err-resolve-clause-complete
returns-in_err-resolve-clause-complete c = λ s h.
    let fault = c.in_err-resolve.field-0.0 in
    let program = program_of c.args.bytes.now c.args.sizes.now c.args.width.bits s c.in_ok-tokens.tokens c.as_slice.result.now c.as_slice.ensures c.in_ok-tokens.ensures.only h in
    let same : tree.view_system c.in_ok-system.system ≡ h.system = c.in_ok-system.ensures.only h.system program in
    memory_only c.from_residual-in_err-resolve.result (of_names fault) c.from_residual-in_err-resolve.ensures.1
    (accepted_names c.args.sizes.now (tree.view_system c.in_ok-system.system) h.system fault same h.accepted (c.resolve.ensures.refused fault c.in_err-resolve.was))
