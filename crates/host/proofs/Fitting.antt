-- Laws of row 16: a buffer that is too short refuses and leaves both as they were; two texts that fit are written.
use Rattle.std.proofs.Common.{◌≡◌, ℕ, ◌≤◌, ◌<◌, ltb, List, length, refl, ◌∙◌, lt-ltb, le-ltb, Option, Some, None}
use Rattle.std.specs.Prelude.{unwrap_or}
use Rattle.basics.proofs.Tests.{by_bool}
use Rattle.lines.specs.Put.{front, written_of, PutIs}
use Rattle.lines.proofs.Puts.{put-done}
use Rattle.model.specs.Host.{fault}
use Rattle.host.specs.Recorded.{Texts, fitted, result_of, RecordIs}

written-or : (r : Option ℕ) → unwrap_or r 0 ≡ written_of r
written-or (Some n) = refl
written-or None = refl

module _ (t : Texts) (o p : List ℕ) where
  refuses : fitted (length o) (length p) t ≡ fault 16 0 → RecordIs (fitted (length o) (length p) t) o p o p (result_of (fault 16 0))
  unfolding front
  refuses e = rw e (record { result = refl; trace_bytes = refl; report_bytes = refl })

  pub short-trace : length o < length t.trace → RecordIs (fitted (length o) (length p) t) o p o p (result_of (fault 16 0))
  short-trace h = refuses (rw (lt-ltb (length o) (length t.trace) h) refl)

  pub short-report : length p < length t.report → RecordIs (fitted (length o) (length p) t) o p o p (result_of (fault 16 0))
  short-report h =
      refuses
      (by_bool (ltb (length o) (length t.trace))
      (λ e. rw e refl)
      (λ e. rw (e, lt-ltb (length p) (length t.report) h) refl))

  pub both-fit : length t.trace ≤ length o → length t.report ≤ length p → (o' p' : List ℕ) (x y : Option ℕ) → PutIs t.trace o o' x →
      PutIs t.report p p' y → (u v : ℕ) → u ≡ unwrap_or x 0 → v ≡ unwrap_or y 0 →
      RecordIs (fitted (length o) (length p) t) o p o' p' (record { verdict = 0; line = 0; trace_len = u; report_len = v })
  both-fit h k o' p' x y f g u v d e =
      let i = put-done t.trace o o' x h f in
      let j = put-done t.report p p' y k g in
      let a : u ≡ length t.trace = d ∙ written-or x ∙ i.0 in
      let b : v ≡ length t.report = e ∙ written-or y ∙ j.0 in
      rw (le-ltb (length o) (length t.trace) h, le-ltb (length p) (length t.report) k)
      (record {
        result = λ n. record { verdict = 0; line = 0; trace_len = a n; report_len = b n };
        trace_bytes = i.1;
        report_bytes = j.1;
      })
