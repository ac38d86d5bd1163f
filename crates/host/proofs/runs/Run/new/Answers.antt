-- Nothing is kept.
use Rattle.std.proofs.Common.{replicate}
use Rattle.host.proofs.runs.Run.new.Goals as goal

pub returns : goal.returns
returns c = λ i.
    record {
      slots = replicate 65536 0;
      states = record { items = c.new.ensures i };
      trace = record { items = c.new-2.ensures i };
      ofs = record { items = c.new-3.ensures i };
      log = record { items = c.new-4.ensures i };
      objects = c.new-5.ensures i;
    }
