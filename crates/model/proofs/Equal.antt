-- The tests of equality hold of equal values, and of no others.
use mathlib.Core.Bool.{true, ◌&&◌}
use mathlib.Core.List.{List, [], ◌∷◌}
use mathlib.Core.Path.{◌≡◌, refl}
use Prim.Native.Nat.{ℕ}
use lib.Dec.{eqb}
use Rattle.basics.proofs.Tests.{clash, and-true, yes_eqb, eqb-self}
use Rattle.text.specs.declared.report.Op.{Op}
use Rattle.model.specs.Audit.{same_reply, same_path}
use Rattle.model.specs.Replay.{same_op, Reply, silent, said}

pub same_op_lem : (a b : Op) → same_op a b ≡ true → a ≡ b
same_op_lem a b e =
    let rest = eqb a.key b.key && eqb a.value b.value in
    let h = and-true (eqb a.object b.object) (eqb a.kind b.kind && rest) e in
    let j = and-true (eqb a.kind b.kind) rest h.1 in
    let k = and-true (eqb a.key b.key) (eqb a.value b.value) j.1 in
    let p : a.object ≡ b.object = yes_eqb h.0 in
    let q : a.kind ≡ b.kind = yes_eqb j.0 in
    let r : a.key ≡ b.key = yes_eqb k.0 in
    let s : a.value ≡ b.value = yes_eqb k.1 in
    λ i. record { object = p i; kind = q i; key = r i; value = s i }

pub op_same : (a : Op) → same_op a a ≡ true
op_same a = rw (eqb-self a.object, eqb-self a.kind, eqb-self a.key, eqb-self a.value)

pub same-reply : (a c : Reply) → same_reply a c ≡ true → a ≡ c
same-reply silent silent e = refl
same-reply silent (said s v) e = clash (cc)
same-reply (said s v) silent e = clash (cc)
same-reply (said s v) (said s' v') e =
    let g = and-true (eqb s s') (eqb v v') e in
    let p : s ≡ s' = yes_eqb g.0 in
    let q : v ≡ v' = yes_eqb g.1 in cc

pub reply-same : (a : Reply) → same_reply a a ≡ true
reply-same silent = refl
reply-same (said s v) = rw (eqb-self s, eqb-self v)

pub same-path : (v w : List ℕ) → same_path v w ≡ true → v ≡ w
same-path [] [] e = refl
same-path [] (y ∷ ys) e = clash (cc)
same-path (x ∷ xs) [] e = clash (cc)
same-path (x ∷ xs) (y ∷ ys) e =
    let h = and-true (eqb x y) (same_path xs ys) e in
    let p : x ≡ y = yes_eqb h.0 in
    let q : xs ≡ ys = same-path xs ys h.1 in cc

pub path-same : (w : List ℕ) → same_path w w ≡ true
path-same [] = refl
path-same (x ∷ xs) = rw (eqb-self x) (path-same xs)
