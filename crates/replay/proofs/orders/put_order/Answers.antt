-- `put_order` meets its contract.
use Rattle.std.proofs.Common.{◌≡◌, ◌+◌, length, take, ap, arith}
use Rattle.replay.proofs.Items.{merge-returns, merge-orders}
use Rattle.replay.proofs.orders.put_order.Goals as goal

pub returns : goal.returns
returns c =
    let m = c.merge-merged.ensures in
    let items = c.put_items.new.items in
    let n = c.len.ensures in
    let t = c.len-2.ensures in
    let e : c.len.result + c.len-2.result ≡ length c.args.batch.log.now.items + length c.args.batch.events.now.items = omega arith in
    let front = ap (λ k. take k items.lane) e in
    record {
      returns = merge-returns _ (omega arith) (omega arith) items c.put_items.ensures _ _ front c.told-order _ m.counted;
      order = merge-orders _ (omega arith) (omega arith) items c.put_items.ensures _ _ front c.told-order _ m.counted _ m.order;
    }
