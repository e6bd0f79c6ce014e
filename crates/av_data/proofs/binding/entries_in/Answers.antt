use Rattle.std.proofs.Common.{◌≡◌, [], length, Some, true, false, sym, ap, subst, ◌∙◌, arith}
use Rattle.std.specs.Prelude.{codes}
use Rattle.std.specs.Str.{bytes_eq}
use Rattle.std.proofs.lemmas.Slice.Eq.{bytes_eq-Decides}
use Rattle.av_data.specs.Reading.{is_empty}
use Rattle.av_data.specs.inner.Parts.{pieces_of, first_piece, after_piece}
use Rattle.av_data.specs.inner.Bindings.{whole_in, signed_value}
use Rattle.av_data.proofs.Entered.{gives_none}
use Rattle.av_data.proofs.Sentence.{IsAt, closed_first, whole_none_first, first_at, closed_behind, other_behind, none_behind, more_behind, piece_left, piece_shorter}
use Rattle.av_data.proofs.binding.entries_in.Goals as goal

pub returns-then-is_close-clause-some : goal.returns-then-is_close-clause-some
returns-then-is_close-clause-some c =
    let h : bytes_eq (first_piece c.args.text.now) (codes ")") ≡ true = ap (λ p. bytes_eq p (codes ")")) (sym c.first_piece.ensures.piece) ∙ sym c.is_close.ensures ∙ c.if-is_close.true in
    ([], c.new-entries.ensures, closed_first c.args.text.now h ∙ ap (λ t. Some ([], pieces_of t)) (sym c.first_piece.ensures.rest))

pub returns-in_err-whole_in-clause-none : goal.returns-in_err-whole_in-clause-none
returns-in_err-whole_in-clause-none c =
    let h : bytes_eq (first_piece c.args.text.now) (codes ")") ≡ false = ap (λ p. bytes_eq p (codes ")")) (sym c.first_piece.ensures.piece) ∙ sym c.is_close.ensures ∙ c.if-is_close.false in
    gives_none c.from_residual.result (whole_none_first c.args.text.now h (ap whole_in (sym c.first_piece.ensures.piece) ∙ c.in_err-whole_in.ensures.none))

pub loop-sign-init : goal.loop-sign-init
loop-sign-init c =
    let text = c.args.text.now in
    let h : bytes_eq (first_piece text) (codes ")") ≡ false = ap (λ p. bytes_eq p (codes ")")) (sym c.first_piece.ensures.piece) ∙ sym c.is_close.ensures ∙ c.if-is_close.false in
    let x = signed_value c.in_ok-whole_in.field-0.negative c.in_ok-whole_in.field-0.digits.now in
    let w : whole_in (first_piece text) ≡ Some x = ap whole_in (sym c.first_piece.ensures.piece) ∙ c.in_ok-whole_in.ensures.some in
    subst (IsAt text c.add.new.self.kept.items c.add.new.self.far) (sym c.first_piece.ensures.rest)
    (first_at text c.add.new.self.kept.items c.add.new.self.far x h w (c.add.ensures [] c.new-entries.ensures))

pub returns-then-is_close-2-clause-some : goal.returns-then-is_close-2-clause-some
returns-then-is_close-2-clause-some c =
    let rest = c.loop-sign.rest.now in
    let h : bytes_eq (first_piece rest) (codes ")") ≡ true = ap (λ p. bytes_eq p (codes ")")) (sym c.first_piece-in-loop-sign.ensures.piece) ∙ sym c.is_close-in-loop-sign.ensures ∙ c.if-is_close-2.true in
    let b = closed_behind rest c.args.text.now c.loop-sign.entries.kept.items c.loop-sign.entries.far c.loop-sign.invariant h in
    (b.0, b.1, b.2 ∙ ap (λ t. Some (b.0, pieces_of t)) (sym c.first_piece-in-loop-sign.ensures.rest))

pub returns-else-is_comma-clause-none : goal.returns-else-is_comma-clause-none
returns-else-is_comma-clause-none c =
    let rest = c.loop-sign.rest.now in
    let h : bytes_eq (first_piece rest) (codes ")") ≡ false = ap (λ p. bytes_eq p (codes ")")) (sym c.first_piece-in-loop-sign.ensures.piece) ∙ sym c.is_close-in-loop-sign.ensures ∙ c.if-is_close-2.false in
    let k : bytes_eq (first_piece rest) (codes ",") ≡ false = ap (λ p. bytes_eq p (codes ",")) (sym c.first_piece-in-loop-sign.ensures.piece) ∙ sym c.is_comma.ensures ∙ c.if-is_comma.false in
    other_behind rest c.args.text.now c.loop-sign.entries.kept.items c.loop-sign.entries.far c.loop-sign.invariant h k

pub returns-in_err-whole_in-2-clause-none : goal.returns-in_err-whole_in-2-clause-none
returns-in_err-whole_in-2-clause-none c =
    let rest = c.loop-sign.rest.now in
    let h : bytes_eq (first_piece rest) (codes ")") ≡ false = ap (λ p. bytes_eq p (codes ")")) (sym c.first_piece-in-loop-sign.ensures.piece) ∙ sym c.is_close-in-loop-sign.ensures ∙ c.if-is_close-2.false in
    let k : bytes_eq (first_piece rest) (codes ",") ≡ true = ap (λ p. bytes_eq p (codes ",")) (sym c.first_piece-in-loop-sign.ensures.piece) ∙ sym c.is_comma.ensures ∙ c.if-is_comma.true in
    let piece = c.first_piece-then-is_comma.ensures.piece ∙ ap first_piece c.first_piece-in-loop-sign.ensures.rest in
    gives_none c.from_residual-in_err-whole_in-2.result
    (none_behind rest c.args.text.now c.loop-sign.entries.kept.items c.loop-sign.entries.far c.loop-sign.invariant h k (ap whole_in (sym piece) ∙ c.in_err-whole_in-2.ensures.none))

pub loop-sign-preserved : goal.loop-sign-preserved
loop-sign-preserved c =
    let rest = c.loop-sign.rest.now in
    let text = c.args.text.now in
    let h : bytes_eq (first_piece rest) (codes ")") ≡ false = ap (λ p. bytes_eq p (codes ")")) (sym c.first_piece-in-loop-sign.ensures.piece) ∙ sym c.is_close-in-loop-sign.ensures ∙ c.if-is_close-2.false in
    let k : bytes_eq (first_piece rest) (codes ",") ≡ true = ap (λ p. bytes_eq p (codes ",")) (sym c.first_piece-in-loop-sign.ensures.piece) ∙ sym c.is_comma.ensures ∙ c.if-is_comma.true in
    let piece = c.first_piece-then-is_comma.ensures.piece ∙ ap first_piece c.first_piece-in-loop-sign.ensures.rest in
    let left = c.first_piece-then-is_comma.ensures.rest ∙ ap after_piece c.first_piece-in-loop-sign.ensures.rest in
    let x = signed_value c.in_ok-whole_in-2.field-0.negative c.in_ok-whole_in-2.field-0.digits.now in
    let new = c.add-then-is_comma.new.self in
    subst (IsAt text new.kept.items new.far) (sym left)
    (more_behind rest text c.loop-sign.entries.kept.items new.kept.items c.loop-sign.entries.far new.far x c.loop-sign.invariant h k (ap whole_in (sym piece) ∙ c.in_ok-whole_in-2.ensures.some) c.add-then-is_comma.ensures)

pub loop-sign-smaller : goal.loop-sign-smaller
loop-sign-smaller c =
    let rest = c.loop-sign.rest.now in
    let k : bytes_eq (first_piece rest) (codes ",") ≡ true = ap (λ p. bytes_eq p (codes ",")) (sym c.first_piece-in-loop-sign.ensures.piece) ∙ sym c.is_comma.ensures ∙ c.if-is_comma.true in
    let left = ap length (c.first_piece-then-is_comma.ensures.rest ∙ ap after_piece c.first_piece-in-loop-sign.ensures.rest) in
    let shorter = piece_shorter rest (ap is_empty ((bytes_eq-Decides (first_piece rest) (codes ",")).0 k)) in
    let last = piece_left (after_piece rest) in
    omega (arith, left, shorter, last)
