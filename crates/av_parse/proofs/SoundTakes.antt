-- What is left behind a part that was read is shorter.
use Rattle.std.proofs.Common.{◌≡◌, ℕ, ◌<◌, ◌≤◌, ℤ, List, length, Ok, arith}
use Rattle.av_base.specs.declared.token_kind.TokenKind.{TokenKind}
use Rattle.av_base.specs.Tokens.{Token}
use Rattle.av_tree.specs.declared.domain.Term.{Term}
use Rattle.av_tree.specs.declared.domain.IndexExpr.{IndexExpr}
use Rattle.av_tree.specs.declared.domain.Constraint.{Constraint}
use Rattle.av_tree.specs.declared.domain.DomainText.{DomainText}
use Rattle.av_tree.specs.declared.domain.MapText.{MapText}
use Rattle.av_tree.specs.declared.system.Declaration.{Declaration}
use Rattle.av_tree.specs.Trees.{Text, Expression, Equation}
use Rattle.av_parse.specs.inner.Reader.{expect, expect_with}
use Rattle.av_parse.specs.inner.IndexReader.{names_of, optional_names_of, term_of, terms_of, index_of, indices_of, optional_indices_of, side_of, chain_of, constraint_of, constraints_of, conditions_of, domain_of, map_of}
use Rattle.av_parse.specs.inner.ExpressionReader.{readers}
use Rattle.av_parse.specs.inner.ProgramReader.{declaration_of, declarations_of, variables_of, equation_of, equations_of}
use Rattle.av_parse.proofs.SoundSteps.{held, expected, one_expected}
use Rattle.av_parse.proofs.SoundIndex.{names_sound, optional_names_sound, term_sound, terms_sound, index_sound, indices_sound, optional_indices_sound, side_sound, chain_sound, constraint_sound, constraints_sound, conditions_sound, domain_sound, map_sound}
use Rattle.av_parse.proofs.SoundExpression.{all_sound}
use Rattle.av_parse.proofs.SoundProgram.{declaration_sound, declarations_sound, variables_sound, equation_sound, equations_sound}
use Rattle.av_parse.proofs.Takes.{names_take, optional_names_take, term_takes, terms_take, index_takes, indices_take, optional_indices_take, side_takes, chain_takes, constraint_takes, constraints_take, conditions_take, domain_takes, map_takes, expr_takes, sum_takes, sum_tail_takes, product_takes, product_tail_takes, unary_takes, postfix_tail_takes, declaration_takes, declarations_take, variables_take, equation_takes, equations_take}

-- ---- a token

pub expect_shorter : (k : TokenKind) (ts : List Token) (y : Token × List Token) → expect k ts ≡ Ok y → length y.1 < length ts
expect_shorter k ts y e = rw (held y (expect k ts) (one_expected k ts) e).0 (omega arith)

pub expect_with_shorter : (k : TokenKind) (text : Text) (ts : List Token) (y : Token × List Token) → expect_with k text ts ≡ Ok y → length y.1 < length ts
expect_with_shorter k text ts y e = rw (held y (expect_with k text ts) (expected k text ts) e).0 (omega arith)

-- ---- index expressions, domains and maps

pub names_shorter : (n : ℕ) (ts : List Token) (y : List Token × List Token) → names_of n ts ≡ Ok y → length y.1 < length ts
names_shorter n ts y e = names_take (held y (names_of n ts) (names_sound n ts) e)

pub optional_names_shorter : (ts : List Token) (y : List Text × List Token) → optional_names_of ts ≡ Ok y → length y.1 ≤ length ts
optional_names_shorter ts y e = optional_names_take (held y (optional_names_of ts) (optional_names_sound ts) e)

pub term_shorter : (s : ℤ) (ts : List Token) (y : Term × List Token) → term_of s ts ≡ Ok y → length y.1 < length ts
term_shorter s ts y e = term_takes (held y (term_of s ts) (term_sound s ts) e)

pub terms_shorter : (n : ℕ) (ts : List Token) (y : List Term × List Token) → terms_of n ts ≡ Ok y → length y.1 ≤ length ts
terms_shorter n ts y e = terms_take (held y (terms_of n ts) (terms_sound n ts) e)

pub index_shorter : (ts : List Token) (y : IndexExpr × List Token) → index_of ts ≡ Ok y → length y.1 < length ts
index_shorter ts y e = index_takes (held y (index_of ts) (index_sound ts) e)

pub indices_shorter : (n : ℕ) (ts : List Token) (y : List IndexExpr × List Token) → indices_of n ts ≡ Ok y → length y.1 < length ts
indices_shorter n ts y e = (indices_take (held y (indices_of n ts) (indices_sound n ts) e).0).0

pub optional_indices_shorter : (ts : List Token) (y : List IndexExpr × List Token) → optional_indices_of ts ≡ Ok y → length y.1 ≤ length ts
optional_indices_shorter ts y e = optional_indices_take (held y (optional_indices_of ts) (optional_indices_sound ts) e)

pub side_shorter : (ts : List Token) (y : List IndexExpr × List Token) → side_of ts ≡ Ok y → length y.1 < length ts
side_shorter ts y e = side_takes (held y (side_of ts) (side_sound ts) e)

pub chain_shorter : (n : ℕ) (lefts : List IndexExpr) (ts : List Token) (y : List Constraint × List Token) → chain_of n lefts ts ≡ Ok y → length y.1 < length ts
chain_shorter n lefts ts y e = chain_takes (held y (chain_of n lefts ts) (chain_sound n lefts ts) e)

pub constraint_shorter : (ts : List Token) (y : List Constraint × List Token) → constraint_of ts ≡ Ok y → length y.1 < length ts
constraint_shorter ts y e = constraint_takes (held y (constraint_of ts) (constraint_sound ts) e)

pub constraints_shorter : (n : ℕ) (ts : List Token) (y : List Constraint × List Token) → constraints_of n ts ≡ Ok y → length y.1 < length ts
constraints_shorter n ts y e = constraints_take (held y (constraints_of n ts) (constraints_sound n ts) e)

pub conditions_shorter : (ts : List Token) (y : List Constraint × List Token) → conditions_of ts ≡ Ok y → length y.1 ≤ length ts
conditions_shorter ts y e = conditions_take (held y (conditions_of ts) (conditions_sound ts) e)

pub domain_shorter : (ts : List Token) (y : DomainText × List Token) → domain_of ts ≡ Ok y → length y.1 < length ts
domain_shorter ts y e = domain_takes (held y (domain_of ts) (domain_sound ts) e)

pub map_shorter : (ts : List Token) (y : MapText × List Token) → map_of ts ≡ Ok y → length y.1 < length ts
map_shorter ts y e = map_takes (held y (map_of ts) (map_sound ts) e)

-- ---- expressions

pub expr_shorter : (n : ℕ) (ts : List Token) (y : Expression × List Token) → (readers n).expr ts ≡ Ok y → length y.1 < length ts
expr_shorter n ts y e = expr_takes (held y ((readers n).expr ts) ((all_sound n).expr ts) e)

pub sum_shorter : (n : ℕ) (ts : List Token) (y : Expression × List Token) → (readers n).sum ts ≡ Ok y → length y.1 < length ts
sum_shorter n ts y e = sum_takes (held y ((readers n).sum ts) ((all_sound n).sum ts) e)

pub sum_tail_shorter : (n : ℕ) (a : Expression) (ts : List Token) (y : Expression × List Token) → (readers n).sum_tail a ts ≡ Ok y → length y.1 ≤ length ts
sum_tail_shorter n a ts y e = sum_tail_takes (held y ((readers n).sum_tail a ts) ((all_sound n).sum_tail a ts) e)

pub product_shorter : (n : ℕ) (ts : List Token) (y : Expression × List Token) → (readers n).product ts ≡ Ok y → length y.1 < length ts
product_shorter n ts y e = product_takes (held y ((readers n).product ts) ((all_sound n).product ts) e)

pub product_tail_shorter : (n : ℕ) (a : Expression) (ts : List Token) (y : Expression × List Token) → (readers n).product_tail a ts ≡ Ok y → length y.1 ≤ length ts
product_tail_shorter n a ts y e = product_tail_takes (held y ((readers n).product_tail a ts) ((all_sound n).product_tail a ts) e)

pub unary_shorter : (n : ℕ) (ts : List Token) (y : Expression × List Token) → (readers n).unary ts ≡ Ok y → length y.1 < length ts
unary_shorter n ts y e = unary_takes (held y ((readers n).unary ts) ((all_sound n).unary ts) e)

pub postfix_tail_shorter : (n : ℕ) (a : Expression) (ts : List Token) (y : Expression × List Token) → (readers n).postfix_tail a ts ≡ Ok y → length y.1 ≤ length ts
postfix_tail_shorter n a ts y e = postfix_tail_takes (held y ((readers n).postfix_tail a ts) ((all_sound n).postfix_tail a ts) e)

-- ---- programs

pub declaration_shorter : (ts : List Token) (y : List Declaration × List Token) → declaration_of ts ≡ Ok y → length y.1 < length ts
declaration_shorter ts y e = declaration_takes (held y (declaration_of ts) (declaration_sound ts) e)

pub declarations_shorter : (n : ℕ) (ts : List Token) (y : List Declaration × List Token) → declarations_of n ts ≡ Ok y → length y.1 < length ts
declarations_shorter n ts y e = declarations_take (held y (declarations_of n ts) (declarations_sound n ts) e)

pub variables_shorter : (n : ℕ) (ts : List Token) (y : List Declaration × List Token) → variables_of n ts ≡ Ok y → length y.1 < length ts
variables_shorter n ts y e = variables_take (held y (variables_of n ts) (variables_sound n ts) e)

pub equation_shorter : (n : ℕ) (ts : List Token) (y : Equation × List Token) → equation_of n ts ≡ Ok y → length y.1 < length ts
equation_shorter n ts y e = equation_takes (held y (equation_of n ts) (equation_sound n ts) e)

pub equations_shorter : (n m : ℕ) (ts : List Token) (y : List Equation × List Token) → equations_of n m ts ≡ Ok y → length y.1 ≤ length ts
equations_shorter n m ts y e = equations_take (held y (equations_of n m ts) (equations_sound n m ts) e)
