-- `put_bytes` meets its contract.
use Rattle.std.proofs.Common.{refl, ap, rules, ◌++◌, drop, length}
use Rattle.lines.specs.Put.{front}
use Rattle.lines.proofs.Puts.{put-short, put-fits}
use Rattle.lines.proofs.writer.put_bytes.Goals as goal

pub returns-then-out-w : goal.returns-then-out-w
returns-then-out-w c = put-short _ _ (search rules)

pub returns : goal.returns
unfolding front
returns c =
    let w = c.args.w.now in
    put-fits w c.args.out.now _ _ (search rules) refl (ap (λ l. l ++ drop (length w) c.args.out.now) c.copy_from_slice.ensures.after)
