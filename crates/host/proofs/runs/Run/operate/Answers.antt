-- The line joins, and the request goes on with the answer.
use Rattle.std.proofs.Common.{◌+◌, ◌++◌, ◌∷◌, [], rules, ◌∙◌}
use Rattle.text.specs.Held.{of_at}
use Rattle.host.proofs.Promises.{put-item, count-as}
use Rattle.host.proofs.runs.Run.operate.Goals as goal

pub returns : goal.returns
returns c =
    let a = c.args in
    let h = a.self.now in
    let states =
    put-item h.states a.s _ _ c.deref_mut-2.result.now c.deref_mut-2.ensures.value
    (λ i. record { is_open = a.x.is_open; prog = a.x.prog; at = a.x.at; done = a.x.done; locals = c.resume.ensures i }) in
    let ofs =
    put-item h.ofs a.s _ _ c.deref_mut.result.now c.deref_mut.ensures.value
    (count-as h.ofs.items c.deref.result.now c.deref_mut.result.now a.s c.deref.ensures.0 c.deref_mut.ensures.value) in
    let log =
    c.push.ensures.items
    ∙ (λ i. h.log.items ++ record { rid = a.rid; num = (of_at (c.deref.ensures.0 i) a.s).count + 1; op = c.shown-op.ensures i } ∷ []) in
    record {
      few = search rules;
      answer = c.perform-answer.result;
      left = c.perform-answer.new.self;
      performs = c.perform-answer.ensures;
      rest = λ i.
          record {
            slots = h.slots;
            states = states i;
            trace = h.trace;
            ofs = ofs i;
            log = record { items = log i };
            objects = c.perform-answer.new.self;
          };
    }
