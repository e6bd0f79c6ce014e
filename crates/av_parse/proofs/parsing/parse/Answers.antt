use Rattle.av_lex.specs.Lexing.{views}
use Rattle.av_parse.proofs.Parsed.{is_found, is_only, is_none, is_read, is_faultless, is_syntax, is_depth, answers_syntax, answers_depth, refuses_syntax, refuses_depth}
use Rattle.av_parse.proofs.parsing.parse.Goals as goal

pub returns-in-Ok-clause-found : goal.returns-in-Ok-clause-found
returns-in-Ok-clause-found c = is_found (views c.args.tokens.now) c.read.result c.in-Ok.system c.read.ensures c.in-Ok.is

pub returns-in-Ok-clause-only : goal.returns-in-Ok-clause-only
returns-in-Ok-clause-only c = λ tree p. is_only (views c.args.tokens.now) c.read.result c.in-Ok.system tree c.read.ensures c.in-Ok.is p

pub returns-in-Err-Fault-Syntax-clause-only : goal.returns-in-Err-Fault-Syntax-clause-only
returns-in-Err-Fault-Syntax-clause-only c = λ tree p. is_none (views c.args.tokens.now) c.read.result c.in-Err-Fault-Syntax.field-0 c.in-Err-Fault-Syntax.field-0-0 tree c.read.ensures c.in-Err-Fault-Syntax.is c.in-Err-Fault-Syntax.field-0-is p

pub returns-in-Err-Fault-Syntax-clause-refused : goal.returns-in-Err-Fault-Syntax-clause-refused
returns-in-Err-Fault-Syntax-clause-refused c = λ fault tree e p. absurd (is_none (views c.args.tokens.now) c.read.result c.in-Err-Fault-Syntax.field-0 c.in-Err-Fault-Syntax.field-0-0 tree c.read.ensures c.in-Err-Fault-Syntax.is c.in-Err-Fault-Syntax.field-0-is p)

pub returns-in-Err-Fault-Depth-clause-only : goal.returns-in-Err-Fault-Depth-clause-only
returns-in-Err-Fault-Depth-clause-only c = λ tree p. is_none (views c.args.tokens.now) c.read.result c.in-Err-Fault-Depth.field-0 c.in-Err-Fault-Depth.field-0-0 tree c.read.ensures c.in-Err-Fault-Depth.is c.in-Err-Fault-Depth.field-0-is p

pub returns-in-Err-Fault-Depth-clause-refused : goal.returns-in-Err-Fault-Depth-clause-refused
returns-in-Err-Fault-Depth-clause-refused c = λ fault tree e p. absurd (is_none (views c.args.tokens.now) c.read.result c.in-Err-Fault-Depth.field-0 c.in-Err-Fault-Depth.field-0-0 tree c.read.ensures c.in-Err-Fault-Depth.is c.in-Err-Fault-Depth.field-0-is p)

pub returns-in-Err-Fault-Syntax-clause-syntax : goal.returns-in-Err-Fault-Syntax-clause-syntax
returns-in-Err-Fault-Syntax-clause-syntax c = answers_syntax (views c.args.tokens.now) c.in-Err-Fault-Syntax.left c.place_at.result (is_syntax (views c.args.tokens.now) c.in-Err-Fault-Syntax.field-0-0 c.in-Err-Fault-Syntax.left (is_read (views c.args.tokens.now) c.read.result c.in-Err-Fault-Syntax.field-0 c.in-Err-Fault-Syntax.field-0-0 c.read.ensures c.in-Err-Fault-Syntax.is c.in-Err-Fault-Syntax.field-0-is) c.in-Err-Fault-Syntax.field-0-0-is) c.place_at.ensures

pub returns-in-Err-Fault-Syntax-clause-fault : goal.returns-in-Err-Fault-Syntax-clause-fault
returns-in-Err-Fault-Syntax-clause-fault c = refuses_syntax (views c.args.tokens.now) c.in-Err-Fault-Syntax.left c.place_at.result (is_syntax (views c.args.tokens.now) c.in-Err-Fault-Syntax.field-0-0 c.in-Err-Fault-Syntax.left (is_read (views c.args.tokens.now) c.read.result c.in-Err-Fault-Syntax.field-0 c.in-Err-Fault-Syntax.field-0-0 c.read.ensures c.in-Err-Fault-Syntax.is c.in-Err-Fault-Syntax.field-0-is) c.in-Err-Fault-Syntax.field-0-0-is) c.place_at.ensures

pub returns-in-Err-Fault-Depth-clause-depth : goal.returns-in-Err-Fault-Depth-clause-depth
returns-in-Err-Fault-Depth-clause-depth c = answers_depth (views c.args.tokens.now) c.in-Err-Fault-Depth.left c.place_at-in-Err-Fault-Depth.result (is_depth (views c.args.tokens.now) c.in-Err-Fault-Depth.field-0-0 c.in-Err-Fault-Depth.left (is_read (views c.args.tokens.now) c.read.result c.in-Err-Fault-Depth.field-0 c.in-Err-Fault-Depth.field-0-0 c.read.ensures c.in-Err-Fault-Depth.is c.in-Err-Fault-Depth.field-0-is) c.in-Err-Fault-Depth.field-0-0-is) c.place_at-in-Err-Fault-Depth.ensures

pub returns-in-Err-Fault-Depth-clause-fault : goal.returns-in-Err-Fault-Depth-clause-fault
returns-in-Err-Fault-Depth-clause-fault c = refuses_depth (views c.args.tokens.now) c.in-Err-Fault-Depth.left c.place_at-in-Err-Fault-Depth.result (is_depth (views c.args.tokens.now) c.in-Err-Fault-Depth.field-0-0 c.in-Err-Fault-Depth.left (is_read (views c.args.tokens.now) c.read.result c.in-Err-Fault-Depth.field-0 c.in-Err-Fault-Depth.field-0-0 c.read.ensures c.in-Err-Fault-Depth.is c.in-Err-Fault-Depth.field-0-is) c.in-Err-Fault-Depth.field-0-0-is) c.place_at-in-Err-Fault-Depth.ensures

pub returns-in-Ok-clause-fault : goal.returns-in-Ok-clause-fault
returns-in-Ok-clause-fault c = λ fault is. is_faultless (views c.args.tokens.now) c.read.result c.in-Ok.system fault c.read.ensures c.in-Ok.is is
