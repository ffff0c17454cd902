-- What a schedule has under way can be told in the text of its version.
use Rattle.std.proofs.Common.{◌≡◌, ℕ, ◌+◌, ◌<◌, ◌≤◌, ◌++◌, false, nat_lt, List, [], ◌∷◌, Option, Some, None, refl, sym, subst, arith, inl, inr}
use Rattle.std.specs.Prelude.{◌==◌}
use Rattle.std.specs.List.{Contains}
use Rattle.std.proofs.Math.ListN.{get_or-eq_default}
use Rattle.std.proofs.lemmas.Bool.{cases_Bool, cond_both, ltb-true, ltb-false}
use Rattle.std.proofs.lemmas.Bool.Decides.{nat_tests}
use Rattle.std.proofs.lemmas.List.Elements.{All-contains, Contains-append_cases}
use Rattle.sem_key.specs.declared.object.Object.{Object}
use Rattle.sem_key.specs.declared.object.Object.TheVariants.{Mem, Recv, Send, Serv, Sess}
use Rattle.sem_key.specs.ObjectRanges.{IsValidObject}
use Rattle.sem_key.proofs.Members.{Contains-nil, Contains-cons_cases}
use Rattle.sem_msg.specs.declared.entry.Detail.TheVariants.{Carried}
use Rattle.sem_msg.specs.declared.entry.Entry.{Entry}
use Rattle.sem_msg.specs.declared.message.Target.{Target}
use Rattle.sem_msg.specs.declared.message.Target.TheVariants.{Sel as SelTarget, Serv as ServTarget, Offer as OfferTarget}
use Rattle.sem_msg.specs.declared.message.Message.{Message}
use Rattle.sem_msg.specs.declared.message.Message.TheVariants.{ObtainReq, ObtainOk, ObtainNo, DelegateReq, DelegatePrepared, DelegateNo, Ack, Orphan, RevokeReq}
use Rattle.sem_msg.specs.declared.message.Message.TheVariants.{RevokeDone, Unlink}
use Rattle.sem_msg.specs.Message.{Fits, IsValidTarget}
use Rattle.sem_msg.specs.Setup.{Setup, IsSetup}
use Rattle.sem_journal.specs.EntryRanges.{ObjectFits, TargetFits, MessageFits}
use Rattle.sem_journal.specs.ShownWords.{is_long, carries_long}
use Rattle.sem_machine.specs.Sides.{Side, no_side, outbox}
use Rattle.sem_machine.specs.Machine.{World, side, link}
use Rattle.sem_machine.specs.Living.{fetched_from, InFlight}
use Rattle.sem_machine.specs.Schedules.{IsSchedule, world_after}
use Rattle.sem_machine.specs.Machine.{start}
use Rattle.sem_sound.specs.SoundWorlds.{IsSoundWorld}
use Rattle.sem_sound.proofs.Scheduling.{schedule-sound}
use Rattle.sem_fits.proofs.Near.{NearObject, NearTarget, NearMessage, NearInbox, outbox-near}
use Rattle.sem_fits.proofs.NearWorlds.{NearWorld, side-near, link-near, start-near, run-near}

-- an object that is valid, and speaks of what a text can speak of
object-fits : (version : ℕ) (o : Object) → IsValidObject o → NearObject version o → ObjectFits version o
object-fits version (Mem base len rights) fits near = (fits.0, fits.1, fits.2)
object-fits version (Recv slots) fits near = fits
object-fits version (Send gate label credits) fits near = (near, fits.2, fits.3, fits.4)
object-fits version (Serv name) fits near = fits
object-fits version (Sess service ident) fits near = near

-- a target likewise
target-fits : (version : ℕ) (t : Target) → IsValidTarget t → NearTarget version t → TargetFits version t
target-fits version (SelTarget vpe sel) fits near = (near, fits.1)
target-fits version (ServTarget service) fits near = near
target-fits version (OfferTarget service index) fits near = (near, fits.1)

-- a message that fits, and speaks of what a text can speak of
pub message-fits : (version : ℕ) (m : Message) → Fits m → NearMessage version m → MessageFits version m
message-fits version (ObtainReq place target) fits near = (near.0, target-fits version target fits.1 near.1)
message-fits version (ObtainOk parent key object) fits near = (near.0, near.1, object-fits version object fits.2 near.2)
message-fits version (ObtainNo place code) fits near = near
message-fits version (DelegateReq parent object vpe sel) fits near = (near.0, object-fits version object fits.1 near.1, near.2, fits.5)
message-fits version (DelegatePrepared parent key) fits near = near
message-fits version (DelegateNo parent code) fits near = near
message-fits version (Ack key accepted) fits near = near
message-fits version (Orphan parent key) fits near = near
message-fits version (RevokeReq key job) fits near = (near, fits.1)
message-fits version (RevokeDone job) fits near = fits
message-fits version (Unlink parent key) fits near = near

-- memory of a valid object is not long
short-object : (o : Object) → IsValidObject o → is_long o ≡ false
short-object (Mem base len rights) fits = let ends : base + len ≤ 4294967296 = fits.3 in grind (arith, nat_tests)
short-object (Recv slots) fits = refl
short-object (Send gate label credits) fits = refl
short-object (Serv name) fits = refl
short-object (Sess service ident) fits = refl

-- its memory is not long
pub short-message : (peer : ℕ) (m : Message) → Fits m → carries_long (Carried peer m) ≡ false
short-message peer (ObtainReq place target) fits = refl
short-message peer (ObtainOk parent key object) fits = short-object object fits.2
short-message peer (ObtainNo place code) fits = refl
short-message peer (DelegateReq parent object vpe sel) fits = short-object object fits.1
short-message peer (DelegatePrepared parent key) fits = refl
short-message peer (DelegateNo parent code) fits = refl
short-message peer (Ack key accepted) fits = refl
short-message peer (Orphan parent key) fits = refl
short-message peer (RevokeReq key job) fits = refl
short-message peer (RevokeDone job) fits = refl
short-message peer (Unlink parent key) fits = refl

module _ (T : Setup) (W : World) (near : NearWorld T W) (sound : IsSoundWorld T W) where
  -- what is so of no side, and of the side of each kernel
  side-by : (P : Side → Type 0) → P no_side → (i : ℕ) → (i < T.kernels → P (side W i)) → P (side W i)
  side-by P none i each = elim (cases_Bool (nat_lt i T.kernels)) [
    | inl low ↦ each (ltb-true i T.kernels low)
    | inr high ↦ let long = near.count in let past = ltb-false i T.kernels high in
        subst P (sym (get_or-eq_default W.sides no_side (omega (arith, long, past)))) none
  ]

  -- what waits to be sent fits
  outbox-fits : (i j : ℕ) (m : Message) → Contains (outbox (side W i) j) m → Fits m
  outbox-fits i = side-by (λ s. (j : ℕ) (m : Message) → Contains (outbox s j) m → Fits m) (λ j m among. absurd (Contains-nil m among)) i
      (λ few j m among. ((sound.sides i few).outs j m among).0)

  -- what was fetched fits
  inbox-fits : (j : ℕ) (from : ℕ) (m : Message) → (side W j).inbox ≡ Some (from, m) → Fits m
  inbox-fits j = side-by (λ s. (from : ℕ) (m : Message) → s.inbox ≡ Some (from, m) → Fits m) (λ from m none. absurd cc) j
      (λ few from m there. ((sound.sides j few).inbox from m there).0)

  -- what was fetched from a kernel has both
  fetched-both : (i j : ℕ) (m : Message) → Contains (fetched_from i (side W j).inbox) m → Fits m × NearMessage T.version m
  fetched-both i j m among = from (side W j).inbox refl (side-near T W near j).inbox among
    where
      from : (o : Option (ℕ × Message)) → (side W j).inbox ≡ o → NearInbox T.version o → Contains (fetched_from i o) m → Fits m × NearMessage T.version m
      from None there inbox none = absurd (Contains-nil m none)
      from (Some (k, q)) there inbox some = cond_both (k == i) (q ∷ []) [] (λ ms. Contains ms m → Fits m × NearMessage T.version m)
          (λ _ one. elim (Contains-cons_cases q [] m one) [
            | inl same ↦ subst (λ x. Fits x × NearMessage T.version x) same
                (inbox-fits j k q there, inbox)
            | inr none ↦ absurd (Contains-nil m none)
          ])
          (λ _ none. absurd (Contains-nil m none)) some

  -- what is under way has both
  pub flight-both : (m : Message) → InFlight W m → Fits m × NearMessage T.version m
  flight-both m (i, j, among) = elim (Contains-append_cases (fetched_from i (side W j).inbox ++ link W i j) (outbox (side W i) j) m among) [
    | inl before ↦ elim (Contains-append_cases (fetched_from i (side W j).inbox) (link W i j) m before) [
      | inl fetched ↦ fetched-both i j m fetched
      | inr linked ↦ (sound.links i j m linked, All-contains (NearMessage T.version) (link W i j) m (link-near T W near i j) linked)
    ]
    | inr waiting ↦ (
      outbox-fits i j m waiting,
      All-contains (NearMessage T.version) (outbox (side W i) j) m
          (outbox-near T.version (side W i) (side-near T W near i) j) waiting,
    )
  ]

-- every message under way after a schedule
pub messages-fit : (T : Setup) → IsSetup T → (J : List Entry) → IsSchedule T J → (m : Message) → InFlight (world_after T J) m → MessageFits T.version m
messages-fit T valid J runs m flies =
    let both = flight-both T (world_after T J) (run-near T valid J (start T) (start-near T valid) runs) (schedule-sound T valid J runs) m flies in
    message-fits T.version m both.0 both.1

-- and none has long memory
pub messages-short : (T : Setup) → IsSetup T → (J : List Entry) → IsSchedule T J → (m : Message) → InFlight (world_after T J) m → (peer : ℕ)
    → carries_long (Carried peer m) ≡ false
messages-short T valid J runs m flies peer = short-message peer m
    (flight-both T (world_after T J) (run-near T valid J (start T) (start-near T valid) runs) (schedule-sound T valid J runs) m flies).0
