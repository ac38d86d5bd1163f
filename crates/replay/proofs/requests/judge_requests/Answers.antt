-- `judge_requests` meets its contract.
use Rattle.std.proofs.Common.{◌≡◌, ◌+◌, Ok, Err, sym, ◌∙◌, arith}
use Rattle.replay.specs.Held.{batch_held}
use Rattle.replay.proofs.Judging.{batch_of, judging-start, judging-stop, judging-next, judging-end, judges_same, row-not_0}
use Rattle.replay.proofs.requests.judge_requests.Goals as goal

pub loop-k-init : goal.loop-k-init
loop-k-init c = judging-start _ _ _ _ (omega (arith, c.as_slice-ofs.ensures.fits)) c.new-paths.ensures

pub returns-in-Some-clause-judges : goal.returns-in-Some-clause-judges
returns-in-Some-clause-judges c =
    let e = c.as_slice-events.ensures.value in
    let o = c.as_slice-ofs.ensures.value in
    let b : batch_of c.as_slice-events.result.now c.as_slice-ofs.result.now c.args.batch.log.now.items ≡ batch_held c.args.batch =
    λ i. batch_of (e i) (o i) c.args.batch.log.now.items in
    judges_same _ _ _ b _ (Err (record { row = c.in-Some.row; line = c.loop-k.k + 1 }))
    (judging-stop _ _ _ c.loop-k.k c.unwrap_or-f.result _ _ _ c.loop-k.invariant c.loop-k-test.true
    (record {
      reply = c.response_of-reply.result;
      is_open = c.is_none-is_open.result;
      end = c.replay_request-end.result;
      same = c.same_way.result;
      group = rw c.first_of_group.ensures at c.unwrap_or-f.ensures;
      replies = c.response_of-reply.ensures;
      opened = c.is_none-is_open.ensures;
      replays = c.replay_request-end.ensures;
      same_is = rw c.deref.ensures.0 at c.same_way.ensures;
      row_is = c.row_of.ensures;
    })
    _ c.in-Some.is)

pub loop-k-preserved : goal.loop-k-preserved
loop-k-preserved c =
    rw c.push.ensures.items
    (judging-next _ _ _ c.loop-k.k c.unwrap_or-f.result _ _ _ c.loop-k.invariant c.loop-k-test.true
    (record {
      reply = c.response_of-reply.result;
      is_open = c.is_none-is_open.result;
      end = c.replay_request-end.result;
      same = c.same_way.result;
      group = rw c.first_of_group.ensures at c.unwrap_or-f.ensures;
      replies = c.response_of-reply.ensures;
      opened = c.is_none-is_open.ensures;
      replays = c.replay_request-end.ensures;
      same_is = rw c.deref.ensures.0 at c.same_way.ensures;
      row_is = c.row_of.ensures;
    })
    c.in_default.is)

pub returns-in-Some-clause-refuses : goal.returns-in-Some-clause-refuses
returns-in-Some-clause-refuses c = row-not_0 c.replay_request-end.result c.response_of-reply.result c.same_way.result c.in-Some.row (sym c.row_of.ensures ∙ c.in-Some.is)

pub returns-clause-judges : goal.returns-clause-judges
returns-clause-judges c =
    let e = c.as_slice-events.ensures.value in
    let o = c.as_slice-ofs.ensures.value in
    let b : batch_of c.as_slice-events.result.now c.as_slice-ofs.result.now c.args.batch.log.now.items ≡ batch_held c.args.batch =
    λ i. batch_of (e i) (o i) c.args.batch.log.now.items in
    judges_same _ _ _ b _ (Ok tt)
    (judging-end _ _ _ _ _ c.loop-k.invariant c.loop-k-test.false)
