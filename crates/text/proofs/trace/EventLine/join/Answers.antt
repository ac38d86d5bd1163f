-- An event joins where there are few of its kind.
use Rattle.std.proofs.Common.{◌∙◌, arith}
use Rattle.text.proofs.Joins.{joins, pushed}
use Rattle.text.proofs.TraceReading.{counted-room, request-full, request-joins, request-counted, response-full, response-joins, response-counted}
use Rattle.text.proofs.trace.EventLine.join.Goals.{in-Request+else-counts-ge-REQUESTS, in-Response+else-counts-ge-RESPONSES}
use Rattle.text.proofs.trace.EventLine.join.Goals as goal

pub returns-then-counts-ge-REQUESTS : goal.returns-then-counts-ge-REQUESTS
returns-then-counts-ge-REQUESTS c = λ at end h l k. rw c.in-Request.is (request-full h _ _ _ _ c.if-counts-ge-REQUESTS.true)

pub returns-then-counts-ge-RESPONSES : goal.returns-then-counts-ge-RESPONSES
returns-then-counts-ge-RESPONSES c = λ at end h l k. rw c.in-Response.is (response-full h _ _ _ c.if-counts-ge-RESPONSES.true)

pub returns : goal.returns
returns c = λ at end h l k.
    let t = c.try_push.ensures in
    elim c.match-self.branch [
      | in-Request+else-counts-ge-REQUESTS w ↦
          let few = w.if-counts-ge-REQUESTS.false in
          let p = pushed _ _ _ _ _ t.variant t.ok (counted-room h (omega (arith, few, h.few_responses))) in
          joins _ _ (c.is_ok.ensures.value ∙ p.0)
          (rw (p.1, w.in-Request.is) (request-joins h _ _ _ _ few))
          (rw (p.1, w.counts-is, w.in-Request.is) (request-counted h _ _ _ _ few))
      | in-Response+else-counts-ge-RESPONSES w ↦
          let few = w.if-counts-ge-RESPONSES.false in
          let p = pushed _ _ _ _ _ t.variant t.ok (counted-room h (omega (arith, few, h.few_requests))) in
          joins _ _ (c.is_ok.ensures.value ∙ p.0)
          (rw (p.1, w.in-Response.is) (response-joins h _ _ _ few))
          (rw (p.1, w.counts-is, w.in-Response.is) (response-counted h _ _ _ few))
    ]
