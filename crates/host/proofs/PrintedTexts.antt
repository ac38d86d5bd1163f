-- The printed run as three pieces, and as the definition has it.
use Rattle.std.proofs.Common.{◌≡◌, ℕ, ◌+◌, ◌-◌, ◌<◌, ◌≤◌, Bool, true, false, ◌||◌, ltb, List, [], ◌++◌, length, take, drop, refl, sym, ap, subst, ◌∙◌, arith, append-nil, length-append, length-drop, length-take, ltb-false, Option, Some, None}
use mir.Syntax.{w64}
use mir.Val.{Fits}
use Rattle.lines.specs.Put.{front, written_of, PutIs}
use Rattle.lines.proofs.Puts.{put-short, put-fits}
use Rattle.lines.proofs.Writing.{Writing, lent, writing_start, writing-as, writing-length, writing-room, writing-done, writing-put-first, writing-put}
use Rattle.writing.specs.Verdict.{verdict_text}
use Rattle.writing.proofs.VerdictTexts.{verdict-length, verdict-most}
use Rattle.model.specs.Batch.{Batch}
use Rattle.model.specs.Checks.{breaks, fault_or}
use Rattle.model.specs.Host.{Result, fault, made, and_then}
use Rattle.host.specs.Printed.{recorded_text, most_printed}
use Rattle.host.specs.Recorded.{Texts, batch_recorded, texts_of, fitted, result_of, record_of, RecordIs}
use Rattle.host.specs.Recorded as recorded
use Rattle.host.specs.declared.Recorded.{Recorded}
use Rattle.host.proofs.Fronts.{trace-front, report-front}

-- a text that fits is written
put-some : (t o p : List ℕ) (q : Option ℕ) → length t ≤ length o → PutIs t o p q → q ≡ None → ⊥
put-some t o p q h i e =
    let z : None ≡ Some (length t) = sym e ∙ i.answer ∙ sym (put-fits t o (front t o) (length t) h refl refl).answer in absurd (cc)

module _ (u t r : List ℕ) where
  three-pieces : u ++ (t ++ r) ≡ u ++ (t ++ (r ++ []))
  three-pieces = ap (λ s. u ++ (t ++ s)) (sym (append-nil r))

  three-lengths : length (u ++ (t ++ r)) ≡ length u + (length t + length r)
  three-lengths = omega (arith, length-append u (t ++ r), length-append t r)

  -- ── three pieces that are put one behind the other ──
  module _ (o : List ℕ) where
    abbrev whole : List ℕ
    whole = u ++ (t ++ r)

    pub three-short : length o < length u + (length t + length r) → PutIs whole o o None
    three-short h = put-short whole o (omega (arith, h, three-lengths))

    module _ (h : length u + (length t + length r) ≤ length o) (o₁ : List ℕ) (q₁ : Option ℕ) (f₁ : PutIs u o o₁ q₁) where
      pub one-put : q₁ ≡ None → ⊥
      one-put = put-some u o o₁ q₁ (omega (arith, h)) f₁

      module _ (a₁ : ℕ) (e₁ : q₁ ≡ Some a₁) where
        one : Writing whole o o₁ a₁ (t ++ (r ++ []))
        one =
            writing-put-first u (t ++ (r ++ [])) o₁ q₁ a₁ (writing-as three-pieces (writing_start whole o (omega (arith, h, three-lengths))))
            f₁ (ap written_of (sym e₁))

        pub room-one : a₁ ≤ length o₁
        room-one = omega (arith, writing-room one)

        module _ (ys : List ℕ) (q₂ : Option ℕ) (f₂ : PutIs t (take (length o₁ - a₁) (drop a₁ o₁)) ys q₂) where
          pub two-put : q₂ ≡ None → ⊥
          two-put =
              put-some t (take (length o₁ - a₁) (drop a₁ o₁)) ys q₂
              (omega (arith, writing-room one, length-append t (r ++ []), length-take (length o₁ - a₁) (drop a₁ o₁), length-drop a₁ o₁)) f₂

          module _ (a₂ : ℕ) (e₂ : q₂ ≡ Some a₂) where
            abbrev o₂ : List ℕ
            o₂ = lent o₁ a₁ ys

            two : Writing whole o o₂ (a₁ + a₂) (r ++ [])
            two = writing-put t (r ++ []) ys q₂ a₂ one f₂ (ap written_of (sym e₂))

            pub room-two : a₁ + a₂ ≤ length o₂
            room-two = omega (arith, writing-room two)

            -- and no place of a slice is past 2 ^ 64
            pub room-two-is : a₁ + a₂ ≤ length o
            room-two-is = omega (arith, room-two, writing-length two)

            module _ (zs : List ℕ) (q₃ : Option ℕ) (f₃ : PutIs r (take (length o₂ - (a₁ + a₂)) (drop (a₁ + a₂) o₂)) zs q₃) where
              pub three-put : q₃ ≡ None → ⊥
              three-put =
                  put-some r (take (length o₂ - (a₁ + a₂)) (drop (a₁ + a₂) o₂)) zs q₃
                  (omega (
                    arith,
                    writing-room two,
                    length-append r [],
                    length-take (length o₂ - (a₁ + a₂)) (drop (a₁ + a₂) o₂),
                    length-drop (a₁ + a₂) o₂,
                  )) f₃

              module _ (a₃ : ℕ) (e₃ : q₃ ≡ Some a₃) where
                three : Writing whole o (lent o₂ (a₁ + a₂) zs) (a₁ + a₂ + a₃) []
                three = writing-put r [] zs q₃ a₃ two f₃ (ap written_of (sym e₃))

                pub room-three : a₁ + a₂ + a₃ ≤ length o
                room-three = omega (arith, writing-room three, writing-length three)

                pub all-put : PutIs whole o (lent o₂ (a₁ + a₂) zs) (Some (a₁ + a₂ + a₃))
                all-put =
                    let d = writing-done three (omega arith) in
                    put-fits whole o _ _ (omega (arith, h, three-lengths)) d.0 d.1

-- something is printed of every run, so that no byte written says that nothing was
pub printed-some : (x : Result Texts) → 0 < length (recorded_text x)
unfolding recorded_text
printed-some x =
    let r = result_of x in
    let t = recorded.written_of x in
    omega (arith, three-lengths (verdict_text r.verdict r.line) t.trace t.report, verdict-length r.verdict r.line)

-- what is written has room
abbrev InRoom : (m n : ℕ) → Result Texts → Type 0
InRoom m n x = (length (recorded.written_of x).trace ≤ m) × (length (recorded.written_of x).report ≤ n)

fitted-in-room : (m n : ℕ) (t : Texts) → InRoom m n (fitted m n t)
fitted-in-room m n t = by (ltb m (length t.trace)) (ltb n (length t.report)) refl refl
  where
    by : (x y : Bool) → ltb m (length t.trace) ≡ x → ltb n (length t.report) ≡ y →
        InRoom m n (fault_or fault 16 (breaks (x || y) 0) (made t))
    by true y e f = (omega arith, omega arith)
    by false true e f = (omega arith, omega arith)
    by false false e f = (ltb-false _ _ e, ltb-false _ _ f)

then-in-room : (m n : ℕ) (x : Result Batch) → InRoom m n (and_then x (λ b. fitted m n (texts_of b)))
then-in-room m n (fault number line) = (omega arith, omega arith)
then-in-room m n (made b) = fitted-in-room m n (texts_of b)

record-in-room : (programs schedule : List ℕ) (m n : ℕ) → InRoom m n (record_of programs schedule m n)
unfolding record_of
record-in-room programs schedule m n = then-in-room m n (batch_recorded programs schedule)

module _ (programs schedule trace report trace_after report_after : List ℕ) (r : Recorded) (m : length trace ≡ 65535)
    (n : length report ≡ 65535)
    (h : RecordIs (record_of programs schedule (length trace) (length report)) trace report trace_after report_after r) where
  -- the verdict of the result with its line, and the fronts of the two buffers
  abbrev pieces : List ℕ
  pieces = verdict_text r.verdict r.line ++ (take r.trace_len trace_after ++ take r.report_len report_after)

  printed-is : pieces ≡ recorded_text (record_of programs schedule 65535 65535)
  unfolding recorded_text
  printed-is =
      (λ i. verdict_text (h.result i).verdict (h.result i).line ++ (trace-front h i ++ report-front h i))
      ∙ (λ i. recorded_text (record_of programs schedule (m i) (n i)))

  pub printed-put : (o p : List ℕ) (q : Option ℕ) → PutIs pieces o p q → PutIs (recorded_text (record_of programs schedule 65535 65535)) o p q
  printed-put o p q g = subst (λ t. PutIs t o p q) printed-is g

  -- two lines with numbers of 64 bits, and two texts of 65,535 bytes
  pub printed-most : Fits w64 r.verdict → Fits w64 r.line → length (recorded_text (record_of programs schedule 65535 65535)) ≤ most_printed
  printed-most v l =
      let f = record-in-room programs schedule (length trace) (length report) in
      omega (
        arith,
        ap length printed-is,
        three-lengths (verdict_text r.verdict r.line) (take r.trace_len trace_after) (take r.report_len report_after),
        verdict-most r.verdict r.line v l,
        ap length (trace-front h),
        ap length (report-front h),
        f.0,
        f.1,
        m,
        n,
      )
