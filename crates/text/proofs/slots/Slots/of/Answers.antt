-- No line is passed yet.
use Rattle.std.proofs.Common.{refl, arith}
use Rattle.basics.proofs.Scans.{heads-start}
use Rattle.text.specs.Held.{of_at}
use Rattle.text.specs.Slots.{slot_bucket}
use Rattle.text.proofs.slots.Slots.of.Goals as goal

pub loop-i-init : goal.loop-i-init
loop-i-init c =
    let e = c.len-i.ensures in
    rw e.value (omega arith, heads-start (λ j. slot_bucket (of_at c.args.ofs.now.items j).rid) 256 _ 64 (omega (arith, e.fits)) _ refl)
