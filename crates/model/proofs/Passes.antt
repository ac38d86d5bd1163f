-- Rows 10 to 12 as facts of the replays; and what is left of a batch by verdict 0.
use mathlib.Core.Bool.{Bool, true, false}
use mathlib.Core.List.{List, [], ◌∷◌}
use mathlib.Core.Logic.{◌↔◌}
use mathlib.Core.Option.{none}
use mathlib.Core.Path.{◌≡◌, refl, ap}
use Prim.Native.Nat.{ℕ, suc}
use Rattle.basics.specs.Lists.{All}
use Rattle.basics.proofs.Tests.{clash, not-false}
use Rattle.text.specs.declared.report.Of.{Of}
use Rattle.model.specs.Audit.{left_over, same_reply, bad10, bad11, same_path, bad12, replay_checks, row9}
use Rattle.model.specs.Claims.{row7, row8}
use Rattle.model.specs.Batch.{Batch, first_of, Node}
use Rattle.model.specs.Checks.{breaks}
use Rattle.model.specs.Machine.{Machine}
use Rattle.model.specs.Nodes.{merge_of}
use Rattle.model.specs.Replay.{Reply, response_of, Outcome, differs, ended, outcome}
use Rattle.model.proofs.Claims.{Reported, rows-reported}
use Rattle.model.proofs.Equal.{same-reply, reply-same, same-path, path-same}
use Rattle.model.proofs.Scans.{Clear}

-- an outcome with the path w
abbrev pub Along : List ℕ → Outcome → Type 0
Along w differs = ⊥
Along w (ended a w') = w ≡ w'

breaks-none : (bad : Bool) (n : ℕ) → breaks bad n ≡ none → bad ≡ false
breaks-none true n e = clash (cc)
breaks-none false n e = refl

clear-along : (n : ℕ) (d f : Outcome) (a : Reply) → breaks (bad10 d) n ≡ none → breaks (bad11 a d) n ≡ none → breaks (bad12 f d) n ≡ none →
    (w : List ℕ) × (d ≡ ended a w) × Along w f
clear-along n differs f a e g h = clash (cc)
clear-along n (ended c w) differs a e g h = clash (cc)
clear-along n (ended c w) (ended c' w') a e g h = (
  w,
  ap (λ a. ended a w) (same-reply c a (not-false (same_reply c a) (breaks-none _ n g))),
  same-path w w' (not-false (same_path w w') (breaks-none _ n h)),
)

along-bad12 : (f : Outcome) (a : Reply) (w : List ℕ) → Along w f → bad12 f (ended a w) ≡ false
along-bad12 differs a w h = absurd h
along-bad12 (ended c w') a w h = rw (h, path-same w')

module _ (M : Machine) (opening : ℕ → M.Content) (b : Batch) where
  -- the replay of a request ends with the trace's response and with the path of the first request of its group
  pub record Passed (x : Of) : Type 0 where
    pub path : List ℕ
    pub replayed : outcome M opening b x.rid ≡ ended (response_of b.trace x.rid) path
    pub grouped : Along path (outcome M opening b (first_of b.ofs x.group))

  clear-passed : (n : ℕ) (xs : List Of) → All Clear (replay_checks M opening b n xs) → All Passed xs
  clear-passed n [] h = tt
  clear-passed n (x ∷ xs) h =
      let first = outcome M opening b (first_of b.ofs x.group) in
      let reply = response_of b.trace x.rid in
      let p = clear-along n (outcome M opening b x.rid) first reply h.0 h.1.0 h.1.1.0 in
      (record { path = p.0; replayed = p.1; grouped = p.2 }, clear-passed (suc n) xs h.1.1.1)

  passed-clear : (n : ℕ) (xs : List Of) → All Passed xs → All Clear (replay_checks M opening b n xs)
  passed-clear n [] h = tt
  passed-clear n (x ∷ xs) h =
      let p = h.0 in
      let first = outcome M opening b (first_of b.ofs x.group) in (
        rw p.replayed,
        (
          rw (p.replayed, reply-same (response_of b.trace x.rid)),
          (
            rw (p.replayed, along-bad12 first (response_of b.trace x.rid) p.path p.grouped),
            passed-clear (suc n) xs h.1,
          ),
        ),
      )

  -- what rows 7 to 12 leave
  pub record Passes : Type 0 where
    pub reported : Reported b
    pub merged : (merge_of b).1 ≡ []
    pub replays : All Passed b.ofs

  none_left : (m : List Node) → left_over m ≡ none → m ≡ []
  none_left [] e = refl
  none_left (x ∷ xs) e = clash (cc)

  -- the rows 7 to 12 find no fault
  abbrev pub Rows : Type 0
  Rows = (row7 b ≡ none) × (row8 b ≡ none) × (row9 b ≡ none) × All Clear (replay_checks M opening b 1 b.ofs)

  pub rows-passes : Rows ↔ Passes
  rows-passes = (
    λ e. record {
      reported = (rows-reported b).0 (e.0, e.1);
      merged = none_left (merge_of b).1 e.2;
      replays = clear-passed 1 b.ofs e.3;
    },
    λ h.
        let r = (rows-reported b).1 h.reported in
        (r.0, r.1, ap left_over h.merged, passed-clear 1 b.ofs h.replays),
  )
