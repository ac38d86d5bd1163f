-- A text that is written piece by piece to the front of a buffer.
use Rattle.std.proofs.Common.{◌≡◌, ℕ, ◌+◌, ◌-◌, ◌<◌, ◌≤◌, List, [], ◌∷◌, ◌++◌, length, take, drop, set, sym, refl, ap, ◌∙◌, subst, append_assoc, append-nil, zero-add, add-one, arith, length-append, length-drop, drop_of_length-le, length-take, length-take-le, take_all, drop-drop, take_at, take-add, drop_at, Option}
use lib.Seq.{take-length, take-append_seam, drop-append_seam, set_split}
use Rattle.lines.specs.Append.{AppendIs}
use Rattle.lines.specs.Put.{written_of, front, put_of, left_of, PutIs}
use Rattle.std.proofs.lemmas.List.{take_rest}
use Rattle.lines.proofs.Puts.{put-done, put-nowhere, put-within}

-- of the text t the first at bytes are written over the buffer o, and u is left to write
pub record Writing (t o out : List ℕ) (at : ℕ) (u : List ℕ) : Type 0 where
  pub room : length t ≤ length o
  pub count : at + length u ≡ length t
  pub left : drop at t ≡ u
  pub now : out ≡ take at t ++ drop at o

pub writing_start : (t o : List ℕ) → length t ≤ length o → Writing t o o 0 t
writing_start t o h = record { room = h; count = omega arith; left = refl; now = refl }

module _ {t o out u : List ℕ} {at : ℕ} where
  pub writing-length : Writing t o out at u → length out ≡ length o
  writing-length w =
      let e : length out ≡ length (take at t) + length (drop at o) = ap length w.now ∙ length-append (take at t) (drop at o) in
      omega (arith, e, length-take-le at t (omega (arith, w.count)), length-drop at o)

  pub writing-as : {u' : List ℕ} → u ≡ u' → Writing t o out at u → Writing t o out at u'
  writing-as e w = subst (λ (l : List ℕ). Writing t o out at l) e w

  pub writing-room : Writing t o out at u → at + length u ≤ length out
  writing-room w = omega (arith, writing-length w, w.count, w.room)

  pub writing-done : Writing t o out at u → length u ≡ 0 → (at ≡ length t) × (out ≡ front t o)
  unfolding front
  writing-done w h =
      let e : at ≡ length t = omega (arith, w.count) in
      (e, w.now ∙ rw e (ap (λ (l : List ℕ). l ++ drop (length t) o) (take-length t)))

-- a piece p written to `&mut out[at..]`
writing-piece : {t o out : List ℕ} {at : ℕ} (p u : List ℕ) → Writing t o out at (p ++ u) →
    Writing t o (take at out ++ front p (drop at out)) (at + length p) u
unfolding front
writing-piece {t} {o} {out} {at} p u w =
    let l : length (take at t) ≡ at = length-take-le at t (omega (arith, w.count)) in
    let a : take at out ≡ take at t = ap (take at) w.now ∙ take_at (take at t) (drop at o) at l in
    let d : drop at out ≡ drop at o = ap (drop at) w.now ∙ drop_at (take at t) (drop at o) at l in
    let k : take (length p) (drop at t) ≡ p = ap (take (length p)) w.left ∙ take-append_seam p u in
    record {
      room = w.room;
      count = omega (arith, w.count, length-append p u);
      left = sym (drop-drop (length p) at t) ∙ ap (drop (length p)) w.left ∙ drop-append_seam p u;
      now = rw (a, d, drop-drop (length p) at o, take-add at (length p) t, k) (sym (append_assoc (take at t) p _));
    }

-- a buffer whose part `&mut out[at..]` was lent and held ys last, as the borrow checker has it
abbrev pub lent : (out : List ℕ) (at : ℕ) (ys : List ℕ) → List ℕ
lent out at ys = take at out ++ (ys ++ drop (length out - at) (drop at out))

lent-all : (out : List ℕ) (at : ℕ) (ys : List ℕ) → lent out at ys ≡ take at out ++ ys
lent-all out at ys =
    let k : drop (length out - at) (drop at out) ≡ [] =
    drop_of_length-le (drop at out) {i = length out - at} (omega (arith, length-drop at out)) in
    ap (λ l. take at out ++ (ys ++ l)) k ∙ ap (λ l. take at out ++ l) (append-nil ys)

pub writing-part : {t o out : List ℕ} {at : ℕ} (p u ys : List ℕ) (n : ℕ) → Writing t o out at (p ++ u) →
    ys ≡ front p (take (length out - at) (drop at out)) → n ≡ length p
    → Writing t o (lent out at ys) (at + n) u
writing-part {t} {o} {out} {at} p u ys n w f e = rw (e, lent-all out at ys, f, take_rest out at) (writing-piece p u w)

pub writing-byte : {t o out : List ℕ} {at : ℕ} (b : ℕ) (u : List ℕ) → Writing t o out at (b ∷ u) → Writing t o (set out at b) (at + 1) u
unfolding front
writing-byte {t} {o} {out} {at} b u w =
    let e : set out at b ≡ take at out ++ b ∷ drop 1 (drop at out) =
    set_split out at b (omega (arith, writing-room w)) ∙ rw (drop-drop 1 at out, add-one) refl in
    rw e (writing-piece (b ∷ []) u w)

-- the first piece, written to `out` as a whole
pub writing-first : {t o : List ℕ} (p u ys : List ℕ) (n : ℕ) → Writing t o o 0 (p ++ u) → ys ≡ front p o → n ≡ length p → Writing t o ys n u
writing-first {t} {o} p u ys n w f e = rw (f, e, ← zero-add (length p)) (writing-piece p u w)

-- ── a text of two pieces: the first to `out` as a whole, the second to `&mut out[n..]` ──
module _ (p q t o : List ℕ) (s : t ≡ p ++ q) (h : length t ≤ length o) where
  pub first-room : length p ≤ length o
  first-room = omega (arith, ap length s ∙ length-append p q, h)

  module _ (ys : List ℕ) (n : ℕ) (e : n ≡ length p) (f : ys ≡ front p o) where
    first-written : Writing t o ys n q
    first-written = writing-first p q ys n (writing-as s (writing_start t o h)) f e

    pub second-room : length q ≤ length (take (length ys - n) (drop n ys))
    second-room = rw (take_rest ys n, length-drop n ys) (omega (arith, writing-room first-written))

    pub second-within : n ≤ length ys
    second-within = omega (arith, writing-room first-written)

    module _ (zs : List ℕ) (m : ℕ) (k : m ≡ length q) (g : zs ≡ front q (take (length ys - n) (drop n ys))) where
      both : Writing t o (lent ys n zs) (n + m) []
      both = writing-part q [] zs m (writing-as (sym (append-nil q)) first-written) g k

      pub both-written : (n + m ≡ length t) × (lent ys n zs ≡ front t o)
      both-written = writing-done both refl

      pub both-within : n + m ≤ length o
      both-within = let w = both in omega (arith, writing-room w, writing-length w)

-- ── pieces that writers put, which answer r ──
module _ {t o : List ℕ} (p u ys : List ℕ) (r : Option ℕ) (n : ℕ) where
  -- the first piece
  pub writing-put-first : Writing t o o 0 (p ++ u) → PutIs p o ys r → n ≡ written_of r → Writing t o ys n u
  writing-put-first w d e =
      let k = put-done p o ys r (omega (arith, length-append p u, writing-room w)) d in
      writing-first p u ys n w k.1 (e ∙ k.0)

  -- a writer was lent `&mut out[at..]`, which it left as ys
  pub writing-put : {out : List ℕ} {at : ℕ} → Writing t o out at (p ++ u) → PutIs p (take (length out - at) (drop at out)) ys r →
      n ≡ written_of r → Writing t o (lent out at ys) (at + n) u
  writing-put {out} {at} w d e =
      let k = put-done p (take (length out - at) (drop at out)) ys r
      (rw (take_rest out at, length-drop at out) (omega (arith, length-append p u, writing-room w))) d in
      writing-part p u ys n w k.1 (e ∙ k.0)

-- ── a piece appended at a place ──
module _ (p out : List ℕ) (at : ℕ) where
  -- by a writer that was lent `&mut out[at..]`
  pub append-put : (ys : List ℕ) (r : Option ℕ) (n : ℕ) → PutIs p (take (length out - at) (drop at out)) ys r → n ≡ written_of r →
      AppendIs p at out (lent out at ys) (at + n)
  append-put ys r n d e =
      let i = subst (λ l. PutIs p l ys r) (take_rest out at) d in
      record {
        place = ap (λ m. at + m) (e ∙ ap written_of i.answer);
        bytes = lent-all out at ys ∙ ap (λ l. take at out ++ l) i.bytes;
      }

  -- which has not gone past the end
  pub append-within : (ys : List ℕ) (r : Option ℕ) → at ≤ length out → PutIs p (take (length out - at) (drop at out)) ys r →
      at + written_of r ≤ length out
  append-within ys r h d = omega (arith, h, put-within p _ ys r d, length-take (length out - at) (drop at out))

  -- behind the end there is no room
  pub append-behind : length out < at → AppendIs p at out out at
  append-behind h =
      let d : [] ≡ drop at out = sym (drop_of_length-le out {i = at} (omega arith)) in
      let n = subst (λ l. (written_of (put_of p l) ≡ 0) × (left_of p l ≡ [])) d (put-nowhere p) in
      record {
        place = omega (arith, n.0);
        bytes = sym (ap (λ l. take at out ++ l) n.1 ∙ append-nil (take at out) ∙ take_all at out (omega arith));
      }

-- which leaves the pieces behind it
pub writing-append : {t o out : List ℕ} {at : ℕ} (p u ys : List ℕ) (n : ℕ) → Writing t o out at (p ++ u) → AppendIs p at out ys n →
    Writing t o ys n u
writing-append {t} {o} {out} {at} p u ys n w d =
    let s = drop at out in
    let k = put-done p s (left_of p s) (put_of p s) (omega (arith, length-append p u, writing-room w, length-drop at out))
    (record { answer = refl; bytes = refl }) in
    rw (d.place, d.bytes, k.0, k.1) (writing-piece p u w)
