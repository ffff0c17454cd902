-- What only goes on is a layer: numbers, ids and calls that are counted, and death.
use Rattle.std.proofs.Common.{◌≡◌, ℕ, ◌+◌, ◌≤◌, ◌<◌, true, false, Option, Some, None, refl, sym, ◌∙◌, ap, subst, inl, inr, ◌⊎◌, arith}
use Rattle.std.proofs.lemmas.Bool.{cases_eq}
use Rattle.sem_key.specs.KeyName.{KeyName}
use Rattle.sem_key.specs.Lists.{put}
use Rattle.sem_msg.specs.declared.message.Message.{Message}
use Rattle.sem_msg.specs.declared.message.Message.TheVariants.{ObtainReq, ObtainOk, ObtainNo, DelegateReq, DelegatePrepared, DelegateNo, Ack, Orphan, RevokeReq}
use Rattle.sem_msg.specs.declared.message.Message.TheVariants.{RevokeDone, Unlink}
use Rattle.sem_msg.specs.declared.state.Ask.{Ask}
use Rattle.sem_msg.specs.declared.state.Ask.TheVariants.{Obtain as ObtainAsk, Delegate as DelegateAsk}
use Rattle.sem_msg.specs.declared.state.Parked.{Parked}
use Rattle.sem_msg.specs.declared.state.Parked.TheVariants.{ObtainWait, ObtainReady, ObtainCancelled, DelegateWait, DelegateReady, RevokeWait, Ready}
use Rattle.sem_msg.specs.Rows.{VpeRow, no_vpe}
use Rattle.sem_machine.specs.Sides.{drawn, Side, row, parked}
use Rattle.sem_key.proofs.Puts.{get_or-put_same, get_or-put_other}
use Rattle.sem_safety.specs.Onward.{IsOnward}
use Rattle.sem_safety.proofs.Layers.{facts, Brings, BringsIn, BringsFrom, Awaits, AsksFor, IsLayer}

-- no fact about keys is needed
abbrev pub Any : KeyName → Type 0
Any k = Unit {0}

abbrev pub AnyPlace : ℕ → ℕ → Type 0
AnyPlace v n = Unit {0}

pub any_message : (m : Message) → Brings (facts Any AnyPlace) m
any_message (ObtainReq place target) = tt
any_message (ObtainOk parent key object) = tt
any_message (ObtainNo place code) = tt
any_message (DelegateReq parent object vpe sel) = tt
any_message (DelegatePrepared parent key) = tt
any_message (DelegateNo parent code) = tt
any_message (Ack key true) = tt
any_message (Ack key false) = tt
any_message (Orphan parent key) = tt
any_message (RevokeReq key job) = tt
any_message (RevokeDone job) = tt
any_message (Unlink parent key) = tt

pub any_call : (p : Option Parked) → Awaits (facts Any AnyPlace) p
any_call None = tt
any_call (Some (ObtainWait number sel)) = tt
any_call (Some (ObtainReady key parent object sel)) = tt
any_call (Some ObtainCancelled) = tt
any_call (Some (DelegateWait parent)) = tt
any_call (Some (DelegateReady parent key)) = tt
any_call (Some (RevokeWait job)) = tt
any_call (Some (Ready code)) = tt

pub any_inbox : (inbox : Option (ℕ × Message)) → BringsFrom (facts Any AnyPlace) inbox
any_inbox None = tt
any_inbox (Some m) = any_message m.1

pub any_input : (input : Option Message) → BringsIn (facts Any AnyPlace) input
any_input None = tt
any_input (Some m) = any_message m

pub any_ask : (a : Ask) → AsksFor (facts Any AnyPlace) a
any_ask (ObtainAsk place target) = tt
any_ask (DelegateAsk parent object sel) = tt

-- Sides.

pub onward-same : (s : Side) → IsOnward s s
onward-same s = record { numbers = λ v. omega arith; calls = λ v. omega arith; dead = λ v alive. alive; ids = omega arith }

pub onward-next : (s t u : Side) → IsOnward s t → IsOnward t u → IsOnward s u
onward-next s t u first second = record {
  numbers = λ v. let a = first.numbers v in let b = second.numbers v in omega arith;
  calls = λ v. let a = first.calls v in let b = second.calls v in omega arith;
  dead = λ v alive. first.dead v (second.dead v alive);
  ids = let a = first.ids in let b = second.ids in omega arith;
}

-- the row r is not before the row q
record IsOnwardRow (q r : VpeRow) : Type 0 where
  numbers : q.next_number ≤ r.next_number
  calls : q.next_call ≤ r.next_call
  dead : r.alive ≡ true → q.alive ≡ true

row-same : (r : VpeRow) → IsOnwardRow r r
row-same r = record { numbers = omega arith; calls = omega arith; dead = λ alive. alive }

-- a side whose rows are not before those of another
by_rows : (s t : Side) → ((v : ℕ) → IsOnwardRow (row s v) (row t v)) → s.next_job ≤ t.next_job → IsOnward s t
by_rows s t rows ids = record { numbers = λ v. (rows v).numbers; calls = λ v. (rows v).calls; dead = λ v. (rows v).dead; ids = ids }

put-onward : (s : Side) (v : ℕ) (r : VpeRow) → IsOnwardRow (row s v) r → IsOnward s (record s { vpes = put no_vpe s.vpes v r })
put-onward s v r here = by_rows s (record s { vpes = put no_vpe s.vpes v r }) (λ w. by_place w (cases_eq w v)) (omega arith)
  where
    by_place : (w : ℕ) → (w ≡ v) ⊎ (w ≡ v → ⊥) → IsOnwardRow (row s w) (row (record s { vpes = put no_vpe s.vpes v r }) w)
    by_place w (inl same) = subst (λ n. IsOnwardRow (row s n) (row (record s { vpes = put no_vpe s.vpes v r }) n)) (sym same)
        (subst (IsOnwardRow (row s v)) (sym (get_or-put_same no_vpe s.vpes v r)) here)
    by_place w (inr other) = subst (IsOnwardRow (row s w)) (sym (get_or-put_other no_vpe s.vpes v w r other)) (row-same (row s w))

module _ (z : Side) where
  -- another row
  kept_row : (s : Side) → IsOnward z s → (v : ℕ) (r : VpeRow) → IsOnwardRow (row s v) r → IsOnward z (record s { vpes = put no_vpe s.vpes v r })
  kept_row s is v r here = onward-next z s (record s { vpes = put no_vpe s.vpes v r }) is (put-onward s v r here)

  -- another row with the same counts
  kept_plain : (s : Side) → IsOnward z s → (v : ℕ) (r : VpeRow) → r.next_number ≡ (row s v).next_number → r.next_call ≡ (row s v).next_call →
      r.alive ≡ (row s v).alive → IsOnward z (record s { vpes = put no_vpe s.vpes v r })
  kept_plain s is v r numbers calls alive =
      kept_row s is v r (record { numbers = omega (arith, numbers); calls = omega (arith, calls); dead = λ lives. sym alive ∙ lives })

  pub onward : IsLayer (facts Any AnyPlace) (IsOnward z)
  onward = record {
    kept = record {
      keeps_counted = λ s is v. kept_row s is v _ (record { numbers = omega arith; calls = omega arith; dead = λ lives. lives });
      keeps_drawn = λ s is v. kept_row s is v _ (record { numbers = omega arith; calls = omega arith; dead = λ lives. lives });
      keeps_slot = λ s is v sel state of_vpe. kept_plain s is v _ refl refl refl;
      keeps_parked = λ s is v p here. record { numbers = is.numbers; calls = is.calls; dead = is.dead; ids = is.ids };
      keeps_unparked = λ s is v. record { numbers = is.numbers; calls = is.calls; dead = is.dead; ids = is.ids };
      keeps_asked = λ s is v a here. kept_plain s is v _ refl refl refl;
      keeps_taken = λ s is v. kept_plain s is v _ refl refl refl;
      keeps_buried = λ s is v ends. kept_row s is v _ (record { numbers = omega arith; calls = omega arith; dead = λ lives. absurd cc });
      keeps_bound = λ s is v ep src c held unmarked here. record { numbers = is.numbers; calls = is.calls; dead = is.dead; ids = is.ids };
      keeps_rung = λ s is v ep f. record { numbers = is.numbers; calls = is.calls; dead = is.dead; ids = is.ids };
      keeps_added = λ s is c here childless unmarked. record { numbers = is.numbers; calls = is.calls; dead = is.dead; ids = is.ids };
      keeps_linked = λ s is p k here. record { numbers = is.numbers; calls = is.calls; dead = is.dead; ids = is.ids };
      keeps_unlinked = λ s is p k. record { numbers = is.numbers; calls = is.calls; dead = is.dead; ids = is.ids };
      keeps_marked = λ s is ks j here. record { numbers = is.numbers; calls = is.calls; dead = is.dead; ids = is.ids };
      keeps_restored = λ s is k. record { numbers = is.numbers; calls = is.calls; dead = is.dead; ids = is.ids };
      keeps_removed = λ s is j. record { numbers = is.numbers; calls = is.calls; dead = is.dead; ids = is.ids };
      keeps_pending_added = λ s is p pends. record { numbers = is.numbers; calls = is.calls; dead = is.dead; ids = is.ids };
      keeps_pending_removed = λ s is k. record { numbers = is.numbers; calls = is.calls; dead = is.dead; ids = is.ids };
      keeps_opened = λ s is root up waiters keep. record { numbers = is.numbers; calls = is.calls; dead = is.dead; ids = let ids = is.ids in omega arith };
      keeps_changed = λ s is j f same. record { numbers = is.numbers; calls = is.calls; dead = is.dead; ids = is.ids };
      keeps_left = λ s is j v. record { numbers = is.numbers; calls = is.calls; dead = is.dead; ids = is.ids };
      keeps_closed = λ s is j. record { numbers = is.numbers; calls = is.calls; dead = is.dead; ids = is.ids };
      keeps_send = λ s is j m here. record { numbers = is.numbers; calls = is.calls; dead = is.dead; ids = is.ids };
      keeps_sent = λ s is j. record { numbers = is.numbers; calls = is.calls; dead = is.dead; ids = is.ids };
      keeps_inbox = λ s is message here. record { numbers = is.numbers; calls = is.calls; dead = is.dead; ids = is.ids };
      of_link = λ s is c among k child. tt;
      spreads = λ p k here doomed. tt;
      asks = λ v n calls is. is;
      offers = λ k o is. tt;
      prepares = λ parent k object sel offered place handed. (tt, place);
      acks = λ parent k prepared offered is. is;
      of_pending = λ s is k p there acked. acked;
    };
    of_cap = λ s is k c held. tt;
    of_call = λ s is v. any_call (parked s v);
    of_inbox = λ s is. any_inbox s.inbox;
    of_ask = λ s is v a there. any_ask a;
  }

-- a number that was drawn is below the next
pub drawn-below : (v : ℕ) (s t : Side) → IsOnward (drawn v s) t → (row s v).next_number < (row t v).next_number
drawn-below v s t is =
    let next : (row (drawn v s) v).next_number ≡ (row s v).next_number + 1 =
    ap (λ (r : VpeRow). r.next_number) (get_or-put_same no_vpe s.vpes v (record (row s v) { next_number = (row s v).next_number + 1 })) in
    let on = is.numbers v in
    omega (arith, next)
