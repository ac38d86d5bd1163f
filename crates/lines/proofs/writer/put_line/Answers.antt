-- `put_line` meets its contract. The line has room where it was measured, or where there is room for numbers of 21 bytes each.
use Rattle.std.proofs.Common.{◌≡◌, ℕ, ◌+◌, ◌<◌, ◌∙◌, List, length, Option, None, sym, subst, arith, rules}
use Rattle.lines.specs.LineText.{numbers_text, line_text}
use Rattle.lines.specs.Put.{PutIs}
use Rattle.lines.proofs.LineTexts.{line-length, numbers-most, room_is, room_none}
use Rattle.lines.proofs.Puts.{put-short, put-filled}
use Rattle.lines.proofs.writer.put_line.Goals as goal
use Rattle.lines.proofs.writer.put_line.Goals.{then-room-numbers+in_ok-left_behind, else-room-numbers}

-- a line with no room
line-short : (w vs o : List ℕ) (r : Option ℕ) → r ≡ None → length o < length w + length (numbers_text vs) → PutIs (line_text w vs) o o r
line-short w vs o r e h =
    subst (λ x. PutIs (line_text w vs) o o x) (sym e) (put-short (line_text w vs) o (omega (arith, line-length w vs)))

pub returns-in_err-room : goal.returns-in_err-room
returns-in_err-room c =
    let h = c.in_err-room.ensures in line-short _ _ _ _ c.from_residual.ensures (omega arith)

pub returns-in_err-left_behind : goal.returns-in_err-left_behind
returns-in_err-left_behind c =
    let m = room_none _ _ (sym c.in_err-left_behind.was ∙ c.left_behind.ensures) in
    let h = c.in_ok-room.ensures in
    line-short _ _ _ _ c.from_residual-in_err-left_behind.ensures (omega arith)

pub fill_line-requires : goal.fill_line-requires
fill_line-requires c =
    let l = line-length c.args.word.now c.args.numbers.now in
    let m = numbers-most c.args.numbers.now (λ i. search rules) in
    let h = c.in_ok-room.ensures in
    elim c.if-room-numbers.branch [
      | then-room-numbers+in_ok-left_behind w ↦
          let k = room_is _ _ _ (sym w.in_ok-left_behind.was ∙ w.left_behind.ensures) in omega (arith, l)
      | else-room-numbers w ↦ omega (arith, l, m)
    ]

pub returns : goal.returns
returns c = let f = c.fill_line in put-filled _ _ _ _ f.auto.out f.ensures.value f.ensures.out_after
