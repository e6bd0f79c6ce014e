use Rattle.std.proofs.Common.{sym, subst, ◌≡◌, false, true}
use Rattle.std.proofs.lemmas.List.{map_push}
use Rattle.av_base.specs.Tokens.{program_texts}
use Rattle.av_lex.specs.Lexing.{views}
use Rattle.av_lex.specs.inner.Reading.{scanner}
use Rattle.av_lex.specs.inner.Scan.{is_in_range}
use Rattle.av_lex.proofs.Ascii.{token_ascii, number_fits}
use Rattle.av_base.proofs.Turns.{goes_first, after_gap, after_token, too_great, bad, read_end}
use Rattle.av_lex.proofs.lexer.tokens.Goals as goal

pub loop-at-init : goal.loop-at-init
loop-at-init c = rw c.new-found.ensures (goes_first program_texts scanner c.args.bytes.now)

pub loop-at-preserved-in-Gap : goal.loop-at-preserved-in-Gap
loop-at-preserved-in-Gap c =
    rw (c.moved-place.ensures, c.part.ensures)
    (after_gap program_texts scanner c.args.bytes.now c.loop-at.at c.loop-at.place (views c.loop-at.found) c.loop-at.invariant c.loop-at-test.true c.in-Gap.len c.in-Gap.ensures.piece c.in-Gap.ensures.fits)

pub returns-then-not-is_in_range : goal.returns-then-not-is_in_range
returns-then-not-is_in_range c =
    too_great program_texts scanner c.args.bytes.now c.loop-at.at c.loop-at.place (views c.loop-at.found) c.loop-at.invariant c.loop-at-test.true c.in-Token.len c.in-Token.kind
    c.in-Token.ensures.piece (subst (λ z. is_in_range c.in-Token.kind z ≡ false) c.part-text.ensures (sym c.if-not-is_in_range.ensures))

pub loop-at-preserved : goal.loop-at-preserved
loop-at-preserved c =
    rw (c.moved-place-in-Token.ensures, c.in_ok-push-in-Token.ensures.ok, map_push, c.new.ensures, c.part-text.ensures)
    (after_token program_texts scanner c.args.bytes.now c.loop-at.at c.loop-at.place (views c.loop-at.found) c.loop-at.invariant c.loop-at-test.true c.in-Token.len c.in-Token.kind
    c.in-Token.ensures.piece (subst (λ z. is_in_range c.in-Token.kind z ≡ true) c.part-text.ensures (sym c.if-not-is_in_range.ensures)) c.in-Token.ensures.fits)

pub returns-in-Bad : goal.returns-in-Bad
returns-in-Bad c = bad program_texts scanner c.args.bytes.now c.loop-at.at c.loop-at.place (views c.loop-at.found) c.loop-at.invariant c.loop-at-test.true c.in-Bad.ensures.piece

pub returns : goal.returns
returns c =
    rw (c.in_ok-push.ensures.ok, map_push, c.new-2.ensures, c.part-2.ensures)
    (read_end program_texts scanner c.args.bytes.now c.loop-at.at c.loop-at.place (views c.loop-at.found) c.loop-at.invariant c.loop-at-test.false)

pub new-requires-clause-ascii : goal.new-requires-clause-ascii
new-requires-clause-ascii c =
    rw c.part-text.ensures (token_ascii c.args.bytes.now c.loop-at.at c.in-Token.kind c.in-Token.len c.loop-at-test.true c.in-Token.ensures.piece)

pub new-requires-clause-in_range : goal.new-requires-clause-in_range
new-requires-clause-in_range c = number_fits c.in-Token.kind c.part-text.result.now (sym c.if-not-is_in_range.ensures)
