use Rattle.av_lex.proofs.Readings.{gives_only, gives_refused, gives_found, gives_slices, gives_bad_byte, gives_number}
use Rattle.av_lex.proofs.lexer.lex.Goals as goal

pub returns-clause-found : goal.returns-clause-found
returns-clause-found c = gives_found c.args.bytes.now c.tokens.result c.tokens.ensures

pub returns-clause-slices : goal.returns-clause-slices
returns-clause-slices c = gives_slices c.args.bytes.now c.tokens.result c.tokens.ensures

pub returns-clause-only : goal.returns-clause-only
returns-clause-only c = gives_only c.args.bytes.now c.tokens.result c.tokens.ensures

pub returns-clause-bad_byte : goal.returns-clause-bad_byte
returns-clause-bad_byte c = gives_bad_byte c.args.bytes.now c.tokens.result c.tokens.ensures

pub returns-clause-number : goal.returns-clause-number
returns-clause-number c = gives_number c.args.bytes.now c.tokens.result c.tokens.ensures

pub returns-clause-refused : goal.returns-clause-refused
returns-clause-refused c = gives_refused c.args.bytes.now c.tokens.result c.tokens.ensures
