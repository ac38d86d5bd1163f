-- An order to read: at each step, of the items whose forerunners are all printed, an operation goes before an event, and of several
-- operations the one with the smallest report line number is next. An operation is given by its log line.
use mathlib.Core.List.{List, [], ◌∷◌, Memᴰ}
use Rattle.std.specs.Prelude.{◌⊎◌, ◌≡◌}
use Rattle.basics.specs.Lists.{Later}
use Rattle.text.specs.declared.report.Entry.{Entry}
use Rattle.text.specs.declared.trace.Event.{Event}
use Rattle.model.specs.Batch.{Batch, Node, ev, ln}
use Rattle.model.specs.PlainRun.{Item, event, operation}
use Rattle.model.specs.Precedes.{Leads}

-- the item of the plain run's order that a trace event or a log line stands for
abbrev pub item_of : Node → Item
item_of (ev e) = event e
item_of (ln l) = operation l.rid l.num

module _ (b : Batch) where
  -- the items: each trace event and each operation
  pub data IsItem : Node → Type 0 where
    traced : {e : Event} → Memᴰ e b.trace → IsItem (ev e)
    logged : {l : Entry} → Memᴰ l b.log → IsItem (ln l)

  -- an item may be printed: it is not printed yet, and its forerunners, by chains of "comes before", all are
  pub record MayCome (printed : List Node) (x : Node) : Type 0 where
    pub item : IsItem x
    pub unprinted : Memᴰ x printed → ⊥
    pub free : (y : Node) → Leads b y x → Memᴰ y printed

  -- of two that may be printed, which goes first: an operation before an event, and of operations the one that stands above in the report
  pub data GoesFirst : Node → Node → Type 0 where
    over_event : {l : Entry} {e : Event} → GoesFirst (ln l) (ev e)
    above : {l m : Entry} → Later b.log l m → GoesFirst (ln l) (ln m)

  -- x is next: it may be printed, and goes before every other that may
  pub record Next (printed : List Node) (x : Node) : Type 0 where
    pub may : MayCome printed x
    pub first : (y : Node) → MayCome printed y → (y ≡ x) ⊎ GoesFirst x y

  -- each item of the order is next, behind those that are printed, until every item is
  abbrev pub ByRuleFrom : (printed order : List Node) → Type 0
  ByRuleFrom printed [] = (x : Node) → IsItem x → Memᴰ x printed
  ByRuleFrom printed (x ∷ xs) = Next printed x × ByRuleFrom (x ∷ printed) xs

  abbrev pub ByRule : List Node → Type 0
  ByRule order = ByRuleFrom [] order
