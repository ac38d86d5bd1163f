-- `fill_line` meets its contract.
use Rattle.std.proofs.Common.{◌≡◌, List, ℕ, ◌++◌, length, drop, sym, refl, ap, arith, length-take-le}
use Rattle.lines.specs.Put.{front}
use Rattle.lines.proofs.LineTexts.{line-text}
use Rattle.lines.proofs.Writing.{first-room, second-room, both-written, both-within}
use Rattle.lines.proofs.writer.fill_line.Goals as goal

pub slice_bounds-copy_from_slice-end : goal.slice_bounds-copy_from_slice-end
slice_bounds-copy_from_slice-end c = first-room _ _ _ _ (line-text c.args.word.now c.args.numbers.now) c.requires

pub slice_bounds-copy_from_slice-end-2 : goal.slice_bounds-copy_from_slice-end-2
slice_bounds-copy_from_slice-end-2 c =
    sym (length-take-le _ _ (first-room _ _ _ _ (line-text c.args.word.now c.args.numbers.now) c.requires))

pub copy_from_slice-requires : goal.copy_from_slice-requires
copy_from_slice-requires c = length-take-le _ _ (first-room _ _ _ _ (line-text c.args.word.now c.args.numbers.now) c.requires)

-- the word, as it was copied
copied : (w ys o : List ℕ) → ys ≡ w → ys ++ drop (length w) o ≡ front w o
unfolding front
copied w ys o e = ap (λ l. l ++ drop (length w) o) e

pub fill_numbers-requires : goal.fill_numbers-requires
fill_numbers-requires c =
    let a = c.args in
    second-room _ _ _ _ (line-text a.word.now a.numbers.now) c.requires _ _ refl
    (copied _ _ _ c.copy_from_slice.ensures.after)

pub overflow_add-result : goal.overflow_add-result
overflow_add-result c =
    let a = c.args in
    let f = c.fill_numbers.ensures in
    let w = both-within _ _ _ _ (line-text a.word.now a.numbers.now) c.requires _ _ refl
    (copied _ _ _ c.copy_from_slice.ensures.after) _ _ f.value f.out_after in
    omega arith

pub returns : goal.returns
returns c =
    let a = c.args in
    let f = c.fill_numbers.ensures in
    let d = both-written _ _ _ _ (line-text a.word.now a.numbers.now) c.requires _ _ refl
    (copied _ _ _ c.copy_from_slice.ensures.after) _ _ f.value f.out_after in
    record { value = d.0; out_after = d.1 }
