-- The rows of the audit in their order. What rows 4, 6, 7 and 8 say stands in Requests and Claims; here are rows 9 to 12, the list of all
-- that look at trace and report, and the verdict.
use Rattle.std.specs.Prelude.{Bool, true, false, ◌&&◌, not, List, [], ◌∷◌, ◌++◌, ℕ, suc, eqb}
use Rattle.std.proofs.Math.Option.{Option, none, some}
use Rattle.text.specs.Report.{Report, no_lines}
use Rattle.text.specs.Text.{Read, readable}
use Rattle.text.specs.declared.report.Of.{Of}
use Rattle.text.specs.declared.trace.Event.{Event}
use Rattle.model.specs.Batch.{Batch, batch_of, first_of, Node}
use Rattle.model.specs.Checks.{Verdict, Check, check, first_fault, breaks, bad_line, contents}
use Rattle.model.specs.Claims.{row7, row8}
use Rattle.model.specs.Machine.{Machine}
use Rattle.model.specs.Nodes.{merge_of}
use Rattle.model.specs.Replay.{Reply, silent, said, response_of, Outcome, differs, ended, outcome}
use Rattle.model.specs.Requests.{row4, row6}

-- Row 9: the order returns to itself, so that the merge leaves something over.
abbrev pub left_over : List Node → Option ℕ
left_over [] = none
left_over (x ∷ xs) = some 0

abbrev pub row9 : Batch → Option ℕ
row9 b = left_over (merge_of b).1

-- Row 10: operation or count differs.
abbrev pub bad10 : Outcome → Bool
bad10 differs = true
bad10 (ended a w) = false

-- Row 11: status or value differs.
abbrev pub same_reply : Reply → Reply → Bool
same_reply silent silent = true
same_reply silent (said s v) = false
same_reply (said s v) silent = false
same_reply (said s v) (said s' v') = eqb s s' && eqb v v'

abbrev pub bad11 : Reply → Outcome → Bool
bad11 a differs = false
bad11 a (ended a' w) = not (same_reply a' a)

-- Row 12: path differs in a group; the request is held against the first request of its group.
abbrev pub same_path : List ℕ → List ℕ → Bool
same_path [] [] = true
same_path [] (y ∷ ys) = false
same_path (x ∷ xs) [] = false
same_path (x ∷ xs) (y ∷ ys) = eqb x y && same_path xs ys

abbrev pub bad12 : Outcome → Outcome → Bool
bad12 first differs = false
bad12 differs (ended a w) = true
bad12 (ended a' w') (ended a w) = not (same_path w w')

-- ── the list ──
-- Each tail that a function begins with has a name. No row is looked at behind the first that holds.
module _ (M : Machine) (opening : ℕ → M.Content) where
  -- rows 10, 11, 12 of the request of an `of` line, which is line n
  abbrev pub request_checks : Batch → ℕ → Of → List Check
  request_checks b n x =
      check 10 (breaks (bad10 (outcome M opening b x.rid)) n)
      ∷ check 11 (breaks (bad11 (response_of b.trace x.rid) (outcome M opening b x.rid)) n)
      ∷ check 12 (breaks (bad12 (outcome M opening b (first_of b.ofs x.group)) (outcome M opening b x.rid)) n)
      ∷ []

  -- requests in arrival order
  abbrev pub replay_checks : Batch → ℕ → List Of → List Check
  replay_checks b n [] = []
  replay_checks b n (x ∷ xs) = request_checks b n x ++ replay_checks b (suc n) xs

  abbrev pub from9 : Batch → List Check
  from9 b = check 9 (row9 b) ∷ replay_checks b 1 b.ofs

  abbrev pub from8 : Batch → List Check
  from8 b = check 8 (row8 b) ∷ from9 b

  abbrev pub from6 : Batch → List Check
  from6 b = check 6 (row6 b) ∷ check 7 (row7 b) ∷ from8 b

  -- of a trace and a report as they were read
  abbrev pub from4 : (known : ℕ → Bool) → List Event → Read Report → List Check
  from4 known trace report =
      check 4 (row4 known trace)
      ∷ check 5 (bad_line report)
      ∷ from6 (batch_of trace (contents no_lines report))

  -- the audit of texts that are readable
  unfoldable pub audit : (known : ℕ → Bool) → Batch → Verdict
  audit known b = first_fault (from4 known b.trace (readable (record { ofs = b.ofs; log = b.log })))
