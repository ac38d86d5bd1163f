-- Laws of a text in front of a buffer.
use Rattle.std.proofs.Common.{◌≡◌, ℕ, ◌+◌, ◌<◌, ◌≤◌, Bool, true, false, ltb, List, [], ◌∷◌, ◌++◌, length, take, drop, set, sym, refl, ap, ◌∙◌, append_assoc, add-one, arith, length-append, length-drop, drop-cons, ltb-false, ltb-true, le-ltb, lt-ltb, Option, Some, None}
use lib.Seq.{set_at, take-append_seam}
use Rattle.lines.specs.Put.{written_of, front, put_of, left_of, PutIs}

pub put-short : (t o : List ℕ) → length o < length t → PutIs t o o None
unfolding put_of left_of
put-short t o h = record { answer = simp (lt-ltb _ _ h, put_of); bytes = simp (lt-ltb _ _ h, left_of) }

pub put-fits : (t o p : List ℕ) (n : ℕ) → length t ≤ length o → n ≡ length t → p ≡ front t o → PutIs t o p (Some n)
unfolding put_of left_of
put-fits t o p n h e q = record { answer = simp (le-ltb _ _ h, put_of) (ap Some e); bytes = simp (le-ltb _ _ h, left_of) q }

-- the same where it was put, since the buffer is as long as it was
pub put-filled : (t o p : List ℕ) (n : ℕ) → length p ≡ length o → n ≡ length t → p ≡ front t o → PutIs t o p (Some n)
unfolding front
put-filled t o p n h e q = put-fits t o p n (omega (arith, h, ap length q, length-append t (drop (length t) o))) e q

-- a text that fits is in front
pub put-done : (t o p : List ℕ) (r : Option ℕ) → length t ≤ length o → PutIs t o p r → (written_of r ≡ length t) × (p ≡ front t o)
unfolding put_of left_of
put-done t o p r h i =
    let e : put_of t o ≡ Some (length t) = simp (le-ltb _ _ h, put_of) in
    let f : left_of t o ≡ front t o = simp (le-ltb _ _ h, left_of) in
    (ap written_of (i.answer ∙ e), i.bytes ∙ f)

-- a text in no room
pub put-nowhere : (t : List ℕ) → (written_of (put_of t []) ≡ 0) × (left_of t [] ≡ [])
unfolding put_of left_of front
put-nowhere [] = (refl, refl)
put-nowhere (b ∷ t) = let i = put-short (b ∷ t) [] (omega arith) in (sym (ap written_of i.answer), sym i.bytes)

-- no more is written than there is room for
pub put-within : (t o p : List ℕ) (r : Option ℕ) → PutIs t o p r → written_of r ≤ length o
put-within t o p r i = go (ltb (length o) (length t)) refl
  where
    go : (b : Bool) → ltb (length o) (length t) ≡ b → written_of r ≤ length o
    go true e = omega (arith, ap written_of (i.answer ∙ sym (put-short t o (ltb-true (length o) (length t) e)).answer))
    go false e = let h = ltb-false (length o) (length t) e in omega (arith, h, (put-done t o p r h i).0)

-- and the buffer is as long as it was
pub put_whole : (t o p : List ℕ) (r : Option ℕ) → PutIs t o p r → length t ≤ length o →
    (written_of r ≡ length t) × (p ≡ front t o) × (length p ≡ length o)
unfolding front
put_whole t o p r i h =
    let d = put-done t o p r h i in
    (d.0, d.1, omega (arith, h, ap length d.1, length-append t (drop (length t) o), length-drop (length t) o))

-- the text is what stands in front
pub front-taken : (t o : List ℕ) → take (length t) (front t o) ≡ t
unfolding front
front-taken t o = take-append_seam t (drop (length t) o)

-- no byte yet
pub front-none : (o : List ℕ) → o ≡ front [] o
unfolding front
front-none o = refl

-- one byte more
pub front-more : (t : List ℕ) (b : ℕ) (o : List ℕ) → length t < length o → set (front t o) (length t) b ≡ front (t ++ b ∷ []) o
unfolding front
front-more t b o h =
    rw (drop-cons o (length t) 0, length-append, add-one) (set_at t _ _ b (length t) refl ∙ sym (append_assoc t (b ∷ []) _))

-- the same where the text and the buffer are known by equations
pub front-next : (t u : List ℕ) (b : ℕ) (o p : List ℕ) (n : ℕ) → u ≡ t ++ b ∷ [] → n ≡ length t → p ≡ front t o →
    length t < length o → set p n b ≡ front u o
front-next t u b o p n e k q h = rw (e, k, q) (front-more t b o h)

-- two bytes more
pub front-two : (t u : List ℕ) (a b : ℕ) (o p : List ℕ) (n : ℕ) → u ≡ t ++ a ∷ b ∷ [] → n ≡ length t → p ≡ front t o →
    length u ≤ length o → set (set p n a) (n + 1) b ≡ front u o
front-two t u a b o p n e k q h =
    let l = ap length e ∙ length-append t (a ∷ b ∷ []) in
    let m = length-append t (a ∷ []) in
    front-next (t ++ a ∷ []) u b o _ _ (e ∙ sym (append_assoc t (a ∷ []) (b ∷ []))) (omega (arith, k, m))
    (front-next t _ a o p n refl k q (omega (arith, l)))
    (omega (arith, l, m))
