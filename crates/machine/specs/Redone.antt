-- A log line, done again, answers and leaves what its operation did, whatever value a read shows: the law that the model asks of a machine.
use Rattle.std.specs.Prelude.{◌≡◌, ℕ, true, false, ◌==◌, refl}
use Rattle.std.proofs.Common.{subst}
use Rattle.basics.proofs.Tests.{clash, by_bool, by_eq}
use Rattle.text.specs.declared.report.Op.{Op}
use Rattle.machine.specs.Objects.{Content, register, store, is_read, is_write, is_put, apply, shown}

read_changes_nothing : (o : Op) → is_read o ≡ true → (is_write o ≡ false) × (is_put o ≡ false)
read_changes_nothing o e = (other 7 refl, other 9 refl)
  where
    of : (kind : ℕ) → Op
    of kind = record { object = o.object; kind = kind; key = o.key; value = o.value }

    other : (kind : ℕ) → is_read (of kind) ≡ false → (o.kind == kind) ≡ false
    other kind d = by_eq o.kind kind (λ k _. let f = subst (λ n. is_read (of n) ≡ true) k e in clash (cc)) (λ _ t. t)

pub apply_shown : (o : Op) (v : ℕ) (c : Content) → apply (shown o v) c ≡ apply o c
apply_shown o v c = by_bool (is_read o) (read c) (λ e. rw e)
  where
    read : (c : Content) → is_read o ≡ true → apply (shown o v) c ≡ apply o c
    read (register u) e = rw (read_changes_nothing o e).0
    read (store cells) e = rw (read_changes_nothing o e).1
