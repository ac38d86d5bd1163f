-- The printed lines: the verdict lines as five pieces, and the order behind them; and how long they are.
use Prim.Native.Nat.{ℕ, ◌+◌, ◌/◌, ◌<◌, ◌≤◌, min}
use mathlib.Core.List.{List, [], ◌∷◌, ◌++◌, append-nil}
use mathlib.Core.Path.{◌≡◌, sym, ap, subst, ◌∙◌}
use native.Mathlib.Omega.{arith}
use lib.ListN.{length, length-append}
use Rattle.lines.specs.Bytes.{bytes}
use Rattle.lines.specs.LineText.{numbers_text, line_text}
use Rattle.lines.specs.Put.{PutIs, written_of}
use Rattle.std.proofs.Common.{Option}
use Rattle.lines.proofs.LineTexts.{line-length, numbers_apart}
use Rattle.lines.proofs.Puts.{put-done}
use Rattle.writing.specs.Order.{items_text}
use Rattle.writing.specs.Verdict.{verdict_text}
use Rattle.writing.proofs.VerdictTexts.{verdict-length}
use Rattle.model.specs.PlainRun.{Item}
use Rattle.verifier.specs.Faults.{audit_of}
use Rattle.verifier.specs.Order.{order_of, order_numbers, order_text}
use Rattle.verifier.specs.Printed.{audited_text, printed_text, most_audited, most_printed}
use Rattle.verifier.specs.declared.Audited.{Audited}
use Rattle.verifier.proofs.OrderRanges.{order-few, order-numbered, order-most}
use Rattle.verifier.proofs.OrderTexts.{numbers-length, order-lines}

module _ (a : Audited) where
  abbrev requests_line : List ℕ
  requests_line = line_text (bytes "requests=") (a.requests ∷ [])

  abbrev operations_line : List ℕ
  operations_line = line_text (bytes "operations=") (a.operations ∷ [])

  abbrev blocks_line : List ℕ
  blocks_line = line_text (bytes "blocks=") (a.blocks ∷ [])

  abbrev rest_line : List ℕ
  rest_line = line_text (bytes "rest=") (a.rest ∷ [])

  pub printed-pieces : audited_text a
      ≡ verdict_text a.verdict a.line ++ (requests_line ++ (operations_line ++ (blocks_line ++ (rest_line ++ []))))
  unfolding audited_text
  printed-pieces =
      ap (λ t. verdict_text a.verdict a.line ++ (requests_line ++ (operations_line ++ (blocks_line ++ t)))) (sym (append-nil rest_line))

  pub printed-length : length (audited_text a)
      ≡ 45 + length (numbers_text (a.verdict ∷ a.line ∷ a.requests ∷ a.operations ∷ a.blocks ∷ a.rest ∷ []))
  unfolding audited_text
  printed-length =
      simp (length-append, line-length, verdict-length)
      (omega (
        arith,
        numbers_apart a.verdict (a.line ∷ a.requests ∷ a.operations ∷ a.blocks ∷ a.rest ∷ []),
        numbers_apart a.line (a.requests ∷ a.operations ∷ a.blocks ∷ a.rest ∷ []),
        numbers_apart a.requests (a.operations ∷ a.blocks ∷ a.rest ∷ []),
        numbers_apart a.operations (a.blocks ∷ a.rest ∷ []),
        numbers_apart a.blocks (a.rest ∷ []),
      ))

  -- so that no byte written says that nothing was
  pub printed-some : 0 < length (audited_text a)
  printed-some = omega (arith, printed-length)

-- ── the verdict lines, and the order behind them ──
module _ (programs trace report : List ℕ) where
  abbrev order : List Item
  order = order_of programs trace report

  -- nothing is never printed
  pub text-some : 0 < length (printed_text programs trace report)
  unfolding printed_text
  text-some =
      let a = audit_of programs trace report in
      omega (arith, printed-some a, length-append (audited_text a) (order_text 1 order))

  module _ (a : Audited) (e : a ≡ audit_of programs trace report) where
    pub text-most : length (audited_text a) ≤ most_audited → length (printed_text programs trace report) ≤ most_printed
    unfolding printed_text
    text-most h =
        let b = audit_of programs trace report in
        omega (
          arith,
          length-append (audited_text b) (order_text 1 order),
          subst (λ x. length (audited_text x) ≤ most_audited) e h,
          order-most programs trace report,
        )

    -- n of its numbers were written to an array
    module _ (before items : List ℕ) (q : Option ℕ) (n : ℕ) (room : length before ≡ 2304) (d : PutIs (order_numbers 1 order) before items q)
        (w : n ≡ written_of q) where
      items-printed : items_text items (min (n / 2) 1152) ≡ order_text 1 order
      items-printed =
          let few = order-few programs trace report in
          let long = numbers-length 1 order in
          let done = put-done (order_numbers 1 order) before items q (omega (arith, room, few, long)) d in
          let k : min (n / 2) 1152 ≡ length order = omega (arith, w, done.0, long, few) in
          ap (items_text items) k ∙ ap (λ t. items_text t (length order)) done.1
          ∙ order-lines order before (order-numbered programs trace report)

      pub text-put : (o p : List ℕ) (r : Option ℕ) → PutIs (audited_text a ++ items_text items (min (n / 2) 1152)) o p r →
          PutIs (printed_text programs trace report) o p r
      unfolding printed_text
      text-put o p r h = subst (λ t. PutIs t o p r) (λ i. audited_text (e i) ++ items-printed i) h
