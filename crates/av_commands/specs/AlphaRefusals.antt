-- Why an Alpha text is refused, in words.
use Rattle.std.specs.Prelude.{ℕ, ℤ, List, [], ◌++◌, Option, Some, None, codes, decimal}
use Rattle.av_net.specs.Texts.{point_text}
use Rattle.av_flat.specs.declared.quantity.Quantity.{Quantity}
use Rattle.av_flat.specs.declared.quantity.Quantity.TheVariants as quantity
use Rattle.av_compile.specs.declared.refusal.Refusal.{Refusal}
use Rattle.av_compile.specs.declared.refusal.Refusal.TheVariants as refusal
use Rattle.av_commands.specs.Refusals.{place_text}

abbrev pub quantity_text : Quantity → List ℕ
quantity_text quantity.Variables = codes "variables"
quantity_text quantity.Indices = codes "indices"
quantity_text quantity.Nodes = codes "nodes"
quantity_text quantity.Coefficient = codes "coefficient"
quantity_text quantity.Constant = codes "constant"
quantity_text quantity.Constraints = codes "constraints"
quantity_text quantity.Coordinate = codes "coordinate"
quantity_text quantity.BoxSize = codes "box"
quantity_text quantity.Reductions = codes "reductions"

-- as `s (1,-1)`
abbrev pub named_point : List ℕ → List ℤ → List ℕ
named_point name point = name ++ codes " " ++ point_text point

-- the reference that is blamed, where one is
abbrev pub blame_text : Option (List ℕ × List ℤ) → List ℕ
blame_text None = []
blame_text (Some (name, point)) = codes " at " ++ named_point name point

-- out of memory has no line
abbrev pub alpha_reason : Refusal → List ℕ
alpha_reason (refusal.BadByte place) = codes "bad byte " ++ place_text place
alpha_reason (refusal.Number place) = codes "number " ++ place_text place
alpha_reason (refusal.Syntax place) = codes "syntax " ++ place_text place
alpha_reason (refusal.Depth place) = codes "depth " ++ place_text place
alpha_reason (refusal.Repeated name place) = codes "repeated " ++ name ++ codes " " ++ place_text place
alpha_reason (refusal.SizeTwice name) = codes "size twice " ++ name
alpha_reason (refusal.SizeUnknown name) = codes "size unknown " ++ name
alpha_reason (refusal.SizeMissing name) = codes "size missing " ++ name
alpha_reason (refusal.Unknown name place) = codes "unknown " ++ name ++ codes " " ++ place_text place
alpha_reason (refusal.DefinesInput name place) = codes "defines input " ++ name ++ codes " " ++ place_text place
alpha_reason (refusal.SecondEquation name place) = codes "second equation " ++ name ++ codes " " ++ place_text place
alpha_reason (refusal.NoEquation name place) = codes "no equation " ++ name ++ codes " " ++ place_text place
alpha_reason (refusal.Arity place) = codes "arity " ++ place_text place
alpha_reason (refusal.Projection place) = codes "projection " ++ place_text place
alpha_reason (refusal.CaseInReduce place) = codes "case in reduce " ++ place_text place
alpha_reason (refusal.DependOnReduce place) = codes "dependence on reduce " ++ place_text place
alpha_reason (refusal.Limit kind n) = codes "limit " ++ quantity_text kind ++ codes " " ++ decimal n
alpha_reason (refusal.WidthRange name place) = codes "width " ++ name ++ codes " " ++ place_text place
alpha_reason refusal.SizeOutside = codes "size outside"
alpha_reason (refusal.Pieces n) = codes "pieces " ++ decimal n
alpha_reason (refusal.Unbounded name) = codes "unbounded " ++ name
alpha_reason (refusal.Uncovered variable point outside) = codes "uncovered " ++ named_point variable point ++ blame_text outside
alpha_reason (refusal.TwoBranches variable point) = codes "two branches " ++ named_point variable point
alpha_reason (refusal.NonUnit name) = codes "non unit " ++ name
alpha_reason (refusal.Candidates n) = codes "candidates " ++ decimal n
alpha_reason (refusal.NoSchedule name) = codes "no schedule " ++ name
alpha_reason (refusal.Cycles n) = codes "cycles " ++ decimal n
alpha_reason (refusal.Cells n) = codes "cells " ++ decimal n
alpha_reason (refusal.Delays n) = codes "delays " ++ decimal n
alpha_reason (refusal.Links n) = codes "links " ++ decimal n
alpha_reason (refusal.Operators n) = codes "operators " ++ decimal n
alpha_reason refusal.Memory = []
