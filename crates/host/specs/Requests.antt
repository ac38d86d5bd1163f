-- The requests of a run: a slot for each rid, and for each slot a state and an `of` line. What private functions promise.
use Rattle.std.specs.Prelude.{ℕ, suc, ◌-◌, ◌<◌, ◌≤◌, ◌≡◌, ◌⊎◌, true, false, List, [], length, slice_index_or}
use Rattle.machine.specs.Processes.{Advanced, advanced}
use Rattle.host.specs.declared.requests.Standing.{Standing}
use Rattle.host.specs.declared.requests.Standing.TheVariants.{Missing, Idle, Open}
use Rattle.host.specs.declared.requests.State.{State}

-- the state of a slot
abbrev pub state_at : List State → ℕ → State
state_at states s = slice_index_or states s (record { is_open = false; prog = 0; at = 0; done = 0; locals = [] })

-- what a turn finds in a slot that counts from 1
abbrev pub Stands : List State → (slot : ℕ) → Standing → Type 0
Stands states slot Missing = (slot ≡ 0) ⊎ (length states < slot)
Stands states slot Idle = (0 < slot) × (slot ≤ length states) × ((state_at states (slot - 1)).is_open ≡ false)
Stands states slot (Open s) = (slot ≡ suc s) × (s < length states) × ((state_at states s).is_open ≡ true)

-- a request gone on, without its path, which the host does not keep
abbrev pub pathless : Advanced → Advanced
pathless r = advanced r.locals r.stop []
