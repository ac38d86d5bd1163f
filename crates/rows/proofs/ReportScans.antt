-- Rows 6 and 7 in the terms of their scans.
use Rattle.std.proofs.Common.{◌≡◌, ℕ, suc, ◌+◌, ◌-◌, ◌<◌, ◌≤◌, Bool, true, false, not, cond, ◌||◌, ◌==◌, eqb, ltb, List, [], ◌∷◌, length, get_or, map, take, drop, reverse, Err, refl, sym, ap, ◌∙◌, arith}
use Rattle.std.proofs.Math.Option.{some}
use Rattle.std.proofs.Math.Bool.{or-true}
use Rattle.std.proofs.Math.Seq.{take-add}
use Rattle.std.proofs.lemmas.List.{drop_more, drop_all, take-append-drop, take-map, take-take, length-take, get_or-take, get_or-map}
use Rattle.std.proofs.lemmas.List.Folds.{list_any-append, list_any_more, list_any_at}
use Rattle.std.specs.List.{list_any}
use Rattle.basics.specs.Scans.{FirstFrom}
use Rattle.basics.proofs.Tests.{by_bool, yes_eqb, eqb_yes, eqb_no, and-true, false-or, clash}
use Rattle.basics.proofs.Searches.{search-hit, search-none}
use Rattle.basics.proofs.Firsts.{firsts-get_or}
use Rattle.text.specs.Held.{no_of, of_at, report_of}
use Rattle.text.specs.Slots.{slot_bucket, Slots}
use Rattle.text.proofs.SlotLaws.{slot-first}
use Rattle.text.specs.declared.report.Entry.{Entry}
use Rattle.text.specs.declared.report.Of.{Of}
use Rattle.text.specs.declared.trace.Event.{Event}
use Rattle.model.specs.Requests.{row6_from}
use Rattle.model.specs.Claims.{bad7, row7}
use Rattle.model.specs.Batch.{named, count_of, claims, claimed, batch_of}
use Rattle.machine.specs.Rules.{broken_line}
use Rattle.rows.specs.Steps.{beyond, packed, packed_claim}
use Rattle.rows.proofs.Scans.{Scanned, scan-on, scan-bad, any-reverse}

-- ── row 6: the first i events and the first j `of` lines go together ──
pub record Matching (es : List Event) (xs : List Of) (i j : ℕ) : Type 0 where
  pub few : j ≤ length xs
  pub same : row6_from (j + 1) (drop i es) (drop j xs) ≡ row6_from 1 es xs

-- an `of` line is left
pub match-over : (es : List Event) (xs : List Of) (i j : ℕ) → Matching es xs i j → length es ≤ i → j < length xs →
    some (j + 1) ≡ row6_from 1 es xs
match-over es xs i j s h g = rw (drop_all i es h, drop_more xs j no_of g) at s.same

-- ── searches that find nothing ──
module _ {A : Type 0} (p : A → Bool) (xs : List A) where
  -- in the first j, and in a block behind them
  pub none_more : (j n : ℕ) → list_any p (take j xs) ≡ false → list_any p (take n (drop j xs)) ≡ false → list_any p (take (j + n) xs) ≡ false
  none_more j n a b = rw (take-add j n xs, list_any-append, a) b

  -- in fewer
  pub none_front : (i j : ℕ) → i ≤ j → list_any p (take j xs) ≡ false → list_any p (take i xs) ≡ false
  none_front i j h a =
      let z : j ≡ i + (j - i) = omega arith in
      (false-or _ _ (rw (z, take-add i (j - i) xs, list_any-append) at a)).0

  -- in all, where the last block may lie over the one before it
  pub none_all : (j i : ℕ) → i ≤ j → list_any p (take j xs) ≡ false → list_any p (drop i xs) ≡ false → list_any p xs ≡ false
  none_all j i h a b =
      ap (list_any p) (sym (take-append-drop i xs)) ∙ list_any-append p (take i xs) (drop i xs) ∙ rw (none_front i j h a, b)

-- ── claims ──
claimed-any : (ls : List Entry) (r k : ℕ) → claimed ls r k ≡ list_any (claims r k) ls
claimed-any [] r k = refl
claimed-any (l ∷ ls) r k = ap (λ b. claims r k l || b) (claimed-any ls r k)

-- claims that are packed differently differ
other : (r k : ℕ) (l : Entry) → (packed_claim l == packed r k) ≡ false → claims r k l ≡ false
other r k l d =
    by_bool (claims r k l)
    (λ y.
    let z = and-true (eqb l.rid r) (eqb l.num k) y in
    let u : l.rid ≡ r = yes_eqb z.0 in
    let v : l.num ≡ k = yes_eqb z.1 in
    clash (cc (d, eqb_yes (λ i. packed (u i) (v i)))))
    (λ n. n)

unclaimed : (r k : ℕ) (ls : List Entry) → list_any (λ x. x == packed r k) (map packed_claim ls) ≡ false → list_any (claims r k) ls ≡ false
unclaimed r k [] e = refl
unclaimed r k (l ∷ ls) e = let z = false-or _ _ e in rw (other r k l z.0) (unclaimed r k ls z.1)

-- the claims of a log stand in a column
module _ (log : List Entry) (column : List ℕ) (c : column ≡ map packed_claim log) (r k p : ℕ) (q : p ≡ packed r k) where
  -- lines whose packed claims are not p do not claim what p packs
  pub without-claims : (i j : ℕ) → j ≤ i → list_any (λ x. x == p) (take j (take i column)) ≡ false → list_any (claims r k) (take j log) ≡ false
  without-claims i j h e = unclaimed r k (take j log)
      (rw (← take-map packed_claim j log, ← c, ← q) (rw (take-take j i column h) at e))

  pub claims-on : (i j : ℕ) (d : Entry) → j < i → i < length log → list_any (claims r k) (take j log) ≡ false →
      claims r k (get_or log j d) ≡ false → list_any (claims r k) (take (j + 1) log) ≡ false
  claims-on i j d h l a b = rw (list_any_more (claims r k) log j d (omega arith), a) b

  pub packed-other : (j : ℕ) (d : Entry) → j < length log → (get_or column j 0 ≡ p → ⊥) → claims r k (get_or log j d) ≡ false
  packed-other j d h n = other r k (get_or log j d)
      (eqb_no {a = packed_claim (get_or log j d)} {b = packed r k}
      (λ e. n (ap (λ x. get_or x j 0) c ∙ get_or-map packed_claim log j d 0 h ∙ e ∙ sym q)))

-- ── row 7: log line i, with the lines above it ──
parted : (a b c d : Bool) → (not a || (b || (c || d))) ≡ ((not a || (b || c)) || d)
parted true true c d = refl
parted true false true d = refl
parted true false false d = refl
parted false b c d = refl

bad-is : (ofs : List Of) (above : List Entry) (l : Entry) →
    bad7 ofs (reverse above) l ≡ (beyond ofs l.rid l.num || list_any (claims l.rid l.num) above)
bad-is ofs above l =
    parted (named ofs l.rid) (eqb l.num 0) (ltb (count_of ofs l.rid) l.num) (claimed (reverse above) l.rid l.num)
    ∙ ap (λ b. beyond ofs l.rid l.num || b) (claimed-any (reverse above) l.rid l.num ∙ any-reverse (claims l.rid l.num) above)

module _ (ofs : List Of) (log : List Entry) (i : ℕ) (s : Scanned (bad7 ofs) (suc (length ofs)) log i) (h : i < length log) (d : Entry) where
  abbrev l : Entry
  l = get_or log i d

  abbrev Fault : ℕ → Type 0
  Fault line = line ≡ length ofs + 1 + i → broken_line (Err (record { line = line })) ≡ row7 (batch_of [] (report_of ofs log))

  pub claims-twice : (j : ℕ) → j < i → claims l.rid l.num (get_or log j d) ≡ true → (line : ℕ) → Fault line
  claims-twice j g b line e =
      let t : j < length (take i log) = omega (arith, length-take i log) in
      let p : claims l.rid l.num (get_or (take i log) j d) ≡ true = ap (claims l.rid l.num) (get_or-take i log j d g) ∙ b in
      scan-bad s h d line (omega arith)
      (bad-is ofs (take i log) l ∙ rw (list_any_at (claims l.rid l.num) (take i log) j d t p) (or-true (beyond ofs l.rid l.num)))

  pub claims-anew : beyond ofs l.rid l.num ≡ false → (j : ℕ) → i ≤ j → list_any (claims l.rid l.num) (take j log) ≡ false →
      Scanned (bad7 ofs) (suc (length ofs)) log (i + 1)
  claims-anew b j g a = scan-on s h d
      (bad-is ofs (take i log) l ∙ rw (b, none_front (claims l.rid l.num) log i j g a))

-- ── the `of` line of a rid, which is in slot s ──
module _ (ofs : List Of) (heads : List ℕ) (slots : Slots ofs heads) (r k s : ℕ)
    (f : FirstFrom (λ i. eqb (of_at ofs i).rid r) (get_or heads (slot_bucket r) 0) (length ofs) s) where
  first : FirstFrom (λ i. eqb (of_at ofs i).rid r) 0 (length ofs) s
  first = slot-first ofs heads r s slots f

  -- the line is looked for downward
  step : (x : Of) (xs : List Of) → beyond (x ∷ xs) r k ≡ cond (eqb x.rid r) (eqb k 0 || ltb x.count k) (beyond xs r k)
  step x xs = by_bool (eqb x.rid r) (λ e. rw e) (λ e. rw e)

  pub slot-none : s ≡ length ofs → true ≡ beyond ofs r k
  slot-none l =
      sym (ap (λ xs. beyond xs r k) (sym (firsts-get_or ofs no_of))
      ∙ search-none (λ (c : Unit {0}) xs. beyond xs r k) (λ x. eqb x.rid r) (λ c x. eqb k 0 || ltb x.count k) (λ c x. c)
      (λ c x xs. step x xs) (length ofs) s (of_at ofs) tt first (omega arith))

  pub slot-is : s < length ofs → beyond ofs r k ≡ (eqb k 0 || ltb (of_at ofs s).count k)
  slot-is l =
      ap (λ xs. beyond xs r k) (sym (firsts-get_or ofs no_of))
      ∙ search-hit (λ (c : Unit {0}) xs. beyond xs r k) (λ x. eqb x.rid r) (λ c x. eqb k 0 || ltb x.count k) (λ c x. c)
      (λ c x xs. step x xs) (length ofs) s (of_at ofs) tt first l
