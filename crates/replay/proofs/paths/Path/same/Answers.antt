-- `same` meets its contract.
use Rattle.std.proofs.Common.{◌≡◌, ℕ, eqb, List, [], ◌∷◌, refl, ap, ◌∙◌, ◌&&◌}
use Rattle.std.specs.Cmp.Lexicographic.{pointwise}
use Rattle.basics.proofs.Tests.{eqb_yes}
use Rattle.model.specs.Audit.{same_path}
use Rattle.replay.proofs.paths.Path.same.Goals as goal

-- how slices are compared
pointwise-path : (v w : List ℕ) → pointwise eqb v w ≡ same_path v w
pointwise-path [] [] = refl
pointwise-path [] (y ∷ ys) = refl
pointwise-path (x ∷ xs) [] = refl
pointwise-path (x ∷ xs) (y ∷ ys) = ap (λ b. eqb x y && b) (pointwise-path xs ys)

pub returns-then-self-other : goal.returns-then-self-other
returns-then-self-other c =
    rw (eqb_yes c.if-self-other.true)
    ((rw (c.as_slice.ensures.value, c.as_slice-then-self-other.ensures.value) at c.eq.ensures) ∙ pointwise-path c.args.self.now.positions.items c.args.other.now.positions.items)
