-- The requests of a batch, rows 4 and 6: each has one rid, a program that there is and at most one response, behind it, and its `of` line
-- stands at its place.
use Rattle.std.specs.Prelude.{Bool, cond, ◌||◌, not, List, [], ◌∷◌, ℕ, suc, eqb}
use Rattle.std.proofs.Math.Option.{Option, none, some}
use Rattle.text.specs.declared.report.Of.{Of}
use Rattle.text.specs.declared.trace.Event.TheVariants.{Request, Response}
use Rattle.text.specs.declared.trace.Event.{Event}
use Rattle.model.specs.Batch.{Batch, requested, answered}
use Rattle.model.specs.FirstBad.{first_bad}

-- Row 4: rid used twice, unknown program, response with no open request. `known` tells which programs there are.
abbrev pub bad4 : (known : ℕ → Bool) → List Event → Event → Bool
bad4 known past (Request r prog a b) = requested r past || not (known prog)
bad4 known past (Response r status value) = not (requested r past) || answered r past

abbrev pub row4 : (known : ℕ → Bool) → List Event → Option ℕ
row4 known trace = first_bad (bad4 known) 1 [] trace

-- Row 6: `of` lines are not one per request in arrival order. n is the line of the next `of`, or the line after the last.
abbrev pub row6_from : ℕ → List Event → List Of → Option ℕ
row6_from n [] [] = none
row6_from n [] (x ∷ xs) = some n
row6_from n (Request r prog a b ∷ es) [] = some n
row6_from n (Request r prog a b ∷ es) (x ∷ xs) = cond (eqb x.rid r) (row6_from (suc n) es xs) (some n)
row6_from n (Response r status value ∷ es) xs = row6_from n es xs

abbrev pub row6 : Batch → Option ℕ
row6 b = row6_from 1 b.trace b.ofs
