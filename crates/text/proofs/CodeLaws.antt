-- Laws of the codes' numbers. That the operations are a range of them is for functions that test it; what is said elsewhere rests on
-- `is_operation` alone.
use Prim.Native.Nat.{ℕ, ◌-◌, ◌≤◌, ◌<◌}
use mathlib.Core.Bool.{Bool, true, false, ◌&&◌, false≢true}
use mathlib.Core.List.{[], ◌∷◌, map}
use mathlib.Core.Path.{◌≡◌, refl, sym, ap, ◌∙◌}
use native.Mathlib.Omega.{arith}
use borrow.Author.Tests.{leb-true, le-leb, lt-leb, ltb-true, ltb-false}
use lib.Dec.{leb}
use lib.ListN.{get_or, length, get_or-map, get_or-eq_default}
use Rattle.basics.specs.Firsts.{firsts}
use Rattle.basics.proofs.Firsts.{firsts_at}
use Rattle.lines.specs.Line.{Format, InRanges, any}
use Rattle.text.specs.Codes.{Code, other, codes, is_code, code_of, operates, is_operation}
use Rattle.text.specs.Formats.{most_rid, log_line}
use Rattle.text.specs.Written.{entry_numbers, EntryIn}
use Rattle.text.specs.declared.report.Entry.{Entry}

-- a test of codes is a test of their numbers that has the same answers in the table and past its end
by-table : (f : Code → Bool) (g : ℕ → Bool) → map f codes ≡ firsts g (length codes) → ((n : ℕ) → length codes ≤ n → f other ≡ g n) →
    (n : ℕ) → f (code_of n) ≡ g n
by-table f g same past n = by (is_code n) refl
  where
    by : (b : Bool) → is_code n ≡ b → f (code_of n) ≡ g n
    by true t =
        sym (get_or-map f codes n other)
        ∙ ap (λ t. get_or t n (f other)) same
        ∙ firsts_at g (length codes) n (f other) (ltb-true n (length codes) t)
    by false t = let h = ltb-false n (length codes) t in ap f (get_or-eq_default codes other h) ∙ past n h

-- the operations stand together, from the first of them to the last
abbrev first : ℕ
first = 6

abbrev last : ℕ
last = 10

in-range : (k : ℕ) → is_operation k ≡ leb first k && leb k last
unfolding firsts
in-range = by-table operates (λ k. leb first k && leb k last) refl (λ k h. rw (le-leb first k (omega arith), lt-leb k last (omega arith)))

pub operation-range : (k : ℕ) → is_operation k ≡ true → (first ≤ k) × (k ≤ last)
operation-range k h = go (leb first k) refl (sym (in-range k) ∙ h)
  where
    go : (b : Bool) → leb first k ≡ b → b && leb k last ≡ true → (first ≤ k) × (k ≤ last)
    go true e h = (leb-true first k e, leb-true k last h)
    go false e h = absurd (false≢true h)

pub range-operation : (k : ℕ) → first ≤ k → k ≤ last → is_operation k ≡ true
range-operation k h g = in-range k ∙ rw (le-leb first k h, le-leb k last g) refl

pub not-operation : (k : ℕ) → (first ≤ k → k ≤ last → ⊥) → is_operation k ≡ false
not-operation k n = go (is_operation k) refl
  where
    go : (b : Bool) → is_operation k ≡ b → is_operation k ≡ false
    go true e = let o = operation-range k e in absurd (n o.0 o.1)
    go false e = e

-- an operation has a code
pub operation-code : (k : ℕ) → is_operation k ≡ true → k < length codes
operation-code k h = by (is_code k) refl
  where
    by : (b : Bool) → is_code k ≡ b → k < length codes
    by true t = ltb-true k (length codes) t
    by false t = absurd (false≢true (sym (ap operates (get_or-eq_default codes other (ltb-false k (length codes) t))) ∙ h))

-- a log line whose kind is in a range as its other fields are
abbrev pub narrow_log : Format
narrow_log = record { word = log_line.word; largest = 15 ∷ most_rid ∷ 256 ∷ (length codes - 1) ∷ any ∷ any ∷ [] }

pub entry-range : (l : Entry) → EntryIn l → InRanges narrow_log.largest (entry_numbers l)
entry-range l h =
    let f = h.fields in
    let k = f.1.1.1 in
    let below = operation-code l.op.kind h.operation in
    (f.0, (f.1.0, (f.1.1.0, (record { below = omega arith; fits = k.0.fits }, k.1))))
