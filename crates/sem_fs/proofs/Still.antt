-- The parked call of a VPE stays as it is, and so does the number of its calls, by what is not about it; one that waits for a revoke may come to succeed.
use Rattle.std.proofs.Common.{◌≡◌, ◌⊎◌, ℕ, ◌+◌, Bool, true, List, [], ◌∷◌, ◌++◌, drop, length, nat_lt, Option, Some, None}
use Rattle.std.proofs.Common.{refl, sym, ap, ◌∙◌, subst, inl, inr}
use Rattle.std.specs.Prelude.{if◌then◌else◌}
use Rattle.std.specs.List.{Contains}
use Rattle.std.proofs.lemmas.Bool.{cases_eq}
use Rattle.sem_key.specs.declared.object.Object.{Object}
use Rattle.sem_key.specs.KeyName.{KeyName}
use Rattle.sem_key.specs.Lists.{put}
use Rattle.sem_key.specs.Capability.{Capability}
use Rattle.sem_key.specs.CapList.{fresh}
use Rattle.sem_key.proofs.Puts.{get_or-put_same, get_or-put_other}
use Rattle.sem_msg.specs.declared.limits.TheConstants.{ASKS}
use Rattle.sem_msg.specs.declared.message.Message.{Message}
use Rattle.sem_msg.specs.declared.state.Ask.{Ask}
use Rattle.sem_msg.specs.declared.state.Parked.{Parked}
use Rattle.sem_msg.specs.declared.state.Parked.TheVariants.{ObtainCancelled, RevokeWait, Ready}
use Rattle.sem_msg.specs.declared.state.Slot.{Slot}
use Rattle.sem_msg.specs.declared.state.Slot.TheVariants.{Free, Held}
use Rattle.sem_msg.specs.declared.state.Up.{Up}
use Rattle.sem_msg.specs.Rows.{JobRow, VpeRow, no_vpe}
use Rattle.sem_msg.specs.ParkedStates.{is_ready_with}
use Rattle.sem_msg.specs.Setup.{Setup}
use Rattle.sem_machine.specs.Sides.{Side, row, parked, with_slot, parked_as, asked, ask_taken, drawn, installed}
use Rattle.sem_machine.specs.Sides.{send, cap_added}
use Rattle.sem_machine.specs.Revokes.{begin, revoke_begun}
use Rattle.sem_machine.specs.Revokes.{revoke_requested, revoke_done}
use Rattle.sem_revoke.proofs.Waits.{parked-here, parked-other}
use Rattle.sem_revoke.proofs.KnownWaiters.{KnowsWaiters, begin-known, revoked-known, requested-known, done-known}

module _ (v : ℕ) (q : Option Parked) (n : ℕ) where
  -- the call waited for a revoke
  abbrev pub Revoking : Type 0
  Revoking = (j : ℕ) × (q ≡ Some (RevokeWait j))

  pub record Still (t : Side) : Type 0 where
    pub park : (parked t v ≡ q) ⊎ ((parked t v ≡ Some (Ready 0)) × Revoking)
    pub idle : (x : JobRow) → Contains t.jobs x → Contains x.waiters v → Revoking
    pub calls : (row t v).next_call ≡ n

  -- Small changes.

  pub still-park : (t : Side) → Still t → (w : ℕ) (p : Option Parked) → (w ≡ v → ⊥) → Still (record t { parks = put None t.parks w p })
  still-park t S w p other =
      record {
        park = subst (λ (x : Option Parked). (x ≡ q) ⊎ ((x ≡ Some (Ready 0)) × Revoking)) (sym (parked-other t w p v (λ same. other (sym same)))) S.park;
        idle =
            S.idle;
        calls = S.calls;
      }

  still-woken_one : (t : Side) → Still t → (w : ℕ) → (w ≡ v → Revoking) → Still (parked_as w (Ready 0) t)
  still-woken_one t S w may = elim (cases_eq v w) [
    | inl same ↦ record {
      park = inr (ap (parked (parked_as w (Ready 0) t)) same ∙ parked-here t w (Some (Ready 0)), may (sym same));
      idle = S.idle;
      calls = S.calls;
    }
    | inr other ↦ still-park t S w (Some (Ready 0)) (λ same. other (sym same))
  ]

  pub still-row : (t : Side) → Still t → (w : ℕ) (r : VpeRow) → (w ≡ v → r.next_call ≡ (row t w).next_call) → Still (record t { vpes = put no_vpe t.vpes w r })
  still-row t S w r same = record {
    park = S.park;
    idle = S.idle;
    calls = elim (cases_eq v w) [
      | inl here ↦ ap (λ u. (row (record t { vpes = put no_vpe t.vpes w r }) u).next_call) here
          ∙ (ap (λ (y : VpeRow). y.next_call) (get_or-put_same no_vpe t.vpes w r) ∙ (same (sym here) ∙ (ap (λ u. (row t u).next_call) (sym here) ∙ S.calls)))
      | inr other ↦ ap (λ (y : VpeRow). y.next_call) (get_or-put_other no_vpe t.vpes w v r other) ∙ S.calls
    ];
  }

  pub still-slot : (t : Side) → Still t → (w sel : ℕ) (state : Slot) → Still (with_slot w sel state t)
  still-slot t S w sel state = still-row t S w (record (row t w) { slots = put Free (row t w).slots sel state }) (λ here. refl)

  pub still-drawn : (t : Side) → Still t → (w : ℕ) → Still (drawn w t)
  still-drawn t S w = still-row t S w (record (row t w) { next_number = (row t w).next_number + 1 }) (λ here. refl)

  pub still-asked : (t : Side) → Still t → (w : ℕ) (a : Ask) → Still (asked w a t)
  still-asked t S w a = still-row t S w (record (row t w) { asks = if nat_lt (length (row t w).asks) ASKS then (row t w).asks ++ a ∷ [] else (row t w).asks })
      (λ here. refl)

  pub still-taken : (t : Side) → Still t → (w : ℕ) → Still (ask_taken w t)
  still-taken t S w = still-row t S w (record (row t w) { asks = drop 1 (row t w).asks }) (λ here. refl)

  pub still-installed : (t : Side) → Still t → (k : KeyName) (parent : Option KeyName) (sel : ℕ) (object : Object) → Still (installed k parent sel object t)
  still-installed t S k parent sel object = still-slot (cap_added (fresh k parent sel object) t) (record { park = S.park; idle = S.idle; calls = S.calls })
      k.vpe sel
      (Held k)

  pub still-caps : (cs : List Capability) (t : Side) → Still t → Still (record t { caps = cs })
  still-caps cs t S = record { park = S.park; idle = S.idle; calls = S.calls }

  pub still-send : (j : ℕ) (m : Message) (t : Side) → Still t → Still (send j m t)
  still-send j m t S = record { park = S.park; idle = S.idle; calls = S.calls }

  -- Revokes.

  abbrev knows : KnowsWaiters v Revoking Still
  knows = record {
    waits = λ t S. S.idle;
    jobs = λ t S xs may. record { park = S.park; idle = may; calls = S.calls };
    numbers = λ t S number. record { park = S.park; idle = S.idle; calls = S.calls };
    wakes = still-woken_one;
    slots = still-slot;
    caps = λ t S cs. still-caps cs t S;
    endpoints = λ t S es. record { park = S.park; idle = S.idle; calls = S.calls };
    sends = λ t S j m. still-send j m t S;
  }

  pub still-begin : (T : Setup) (i : ℕ) (root : KeyName) (up : Option Up) (ws : List ℕ) (keep : Bool) (t : Side) → (Contains ws v → Revoking) → Still t
      → Still (begin T i root up ws keep t)
  still-begin = begin-known v Revoking Still knows

  -- the VPE u waits, and then the job begins, or is waited for
  pub still-revoked : (T : Setup) (i u : ℕ) (k : KeyName) (m : Option ℕ) (t : Side) → (u ≡ v → Revoking) → ((j : ℕ) → Still (parked_as u (RevokeWait j) t))
      → Still (revoke_begun T i u k m t)
  still-revoked = revoked-known v Revoking Still knows

  -- a request that cancels nothing of the VPE
  pub still-requested : (T : Setup) (i from j : ℕ) (k : KeyName) (o : Option Capability) (t : Side) → (is_ready_with k (parked t k.vpe) ≡ true → k.vpe ≡ v → ⊥)
      → Still t → Still (revoke_requested T i from j k o t)
  still-requested T i from j k o t apart S =
      requested-known v Revoking Still knows T i from j k o t (λ is u U. still-park u U k.vpe (Some ObtainCancelled) (apart is)) S

  pub still-done : (T : Setup) (i j : ℕ) (t : Side) → Still t → Still (revoke_done T i j t)
  still-done = done-known v Revoking Still knows
