-- A batch as it was read, and as the model has it.
use Rattle.std.specs.Prelude.{cond, ◌-◌, ltb, ℕ, length, get_or}
use Rattle.text.specs.declared.report.Entry.{Entry}
use Rattle.text.specs.declared.trace.Event.{Event}
use Rattle.text.specs.declared.trace.Event.TheVariants.{Request}
use Rattle.model.specs.Batch.{Batch, Node, ev, ln}
use Rattle.replay.specs.declared.batch.Batch.{Batch as Held}

abbrev pub batch_held : Held → Batch
batch_held b = record { trace = b.events.now.items; ofs = b.ofs.now.items; log = b.log.now.items }

-- what stands past the last line
abbrev pub no_event : Event
no_event = Request 0 0 0 0

abbrev pub no_entry : Entry
no_entry = record { rid = 0; num = 0; op = record { object = 0; kind = 0; key = 0; value = 0 } }

-- the item at a place: the log lines are the first, and the events stand behind them
abbrev pub node_at : Batch → ℕ → Node
node_at b i =
    cond (ltb i (length b.log)) (ln (get_or b.log i no_entry)) (ev (get_or b.trace (i - length b.log) no_event))
