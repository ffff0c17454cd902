-- Where no delegation of a key is pending, none is taken out.
use Rattle.std.proofs.Common.{◌≡◌, Bool, true, false, not, [], ◌∷◌, List, Some, None, refl, ap}
use Rattle.std.specs.Prelude.{if◌then◌else◌}
use Rattle.sem_key.specs.KeyName.{KeyName, key_eq}
use Rattle.sem_msg.specs.declared.state.Pending.{Pending}
use Rattle.sem_delegate.specs.PendingStore.{pending_of, without_pending}

pub none-removed : (pendings : List Pending) (k : KeyName) → pending_of pendings k ≡ None → without_pending pendings k ≡ pendings
none-removed [] k none = refl
none-removed (p ∷ rest) k none = from (key_eq p.key k) (none-removed rest k) none
  where
    from : (same : Bool) → (pending_of rest k ≡ None → without_pending rest k ≡ rest) → (if same then Some p else pending_of rest k) ≡ None →
        (if not same then p ∷ without_pending rest k else without_pending rest k) ≡ p ∷ rest
    from true behind none = absurd cc
    from false behind none = ap (λ (ps : List Pending). p ∷ ps) (behind none)
