use Rattle.std.proofs.Common.{refl}
use Rattle.std.proofs.lemmas.List.{map_push}
use Rattle.av_net.specs.Lexemes.{design_texts}
use Rattle.av_vparse.specs.inner.Lexing.{scanner, views}
use Rattle.av_vparse.proofs.Ascii.{token_ascii}
use Rattle.av_base.proofs.Turns.{goes_first, after_gap, after_token, bad, read_end}
use Rattle.av_vparse.proofs.lexer.lex.Goals as goal

pub loop-at-init : goal.loop-at-init
loop-at-init c = rw c.new-found.ensures (goes_first design_texts scanner c.args.bytes.now)

pub loop-at-preserved-in-Gap : goal.loop-at-preserved-in-Gap
loop-at-preserved-in-Gap c =
    rw (c.moved-place.ensures, c.part.ensures)
    (after_gap design_texts scanner c.args.bytes.now c.loop-at.at c.loop-at.place (views c.loop-at.found) c.loop-at.invariant c.loop-at-test.true c.in-Gap.len c.in-Gap.ensures.piece c.in-Gap.ensures.fits)

pub loop-at-preserved : goal.loop-at-preserved
loop-at-preserved c =
    rw (c.moved-place-in-Token.ensures, c.in_ok-push-in-Token.ensures.ok, map_push, c.ascii.ensures, c.part-text.ensures)
    (after_token design_texts scanner c.args.bytes.now c.loop-at.at c.loop-at.place (views c.loop-at.found) c.loop-at.invariant c.loop-at-test.true c.in-Token.len c.in-Token.kind
    c.in-Token.ensures.piece refl c.in-Token.ensures.fits)

pub returns-in-Bad : goal.returns-in-Bad
returns-in-Bad c = bad design_texts scanner c.args.bytes.now c.loop-at.at c.loop-at.place (views c.loop-at.found) c.loop-at.invariant c.loop-at-test.true c.in-Bad.ensures.piece

pub returns : goal.returns
returns c =
    rw (c.in_ok-push.ensures.ok, map_push)
    (read_end design_texts scanner c.args.bytes.now c.loop-at.at c.loop-at.place (views c.loop-at.found) c.loop-at.invariant c.loop-at-test.false)

pub ascii-requires : goal.ascii-requires
ascii-requires c =
    rw c.part-text.ensures
    (token_ascii c.args.bytes.now c.loop-at.at c.in-Token.kind c.in-Token.len c.loop-at-test.true c.in-Token.ensures.piece)
