-- What the parked calls and the messages of a side weigh, by the keys and the places that they bring; nothing, where those weigh nothing.
use Rattle.std.proofs.Common.{◌≡◌, ℕ, ◌+◌, true, List, [], ◌∷◌, ◌++◌, drop, Option, Some, None, slice_get, refl, arith}
use Rattle.std.specs.List.{sum_by}
use Rattle.std.proofs.lemmas.List.Sums.{sum_by_push}
use Rattle.sem_key.specs.KeyName.{KeyName}
use Rattle.sem_key.specs.Lists.{put}
use Rattle.sem_msg.specs.declared.message.Message.{Message}
use Rattle.sem_msg.specs.declared.message.Message.TheVariants.{ObtainReq, ObtainOk, DelegatePrepared, Ack}
use Rattle.sem_msg.specs.declared.state.Parked.{Parked}
use Rattle.sem_msg.specs.declared.state.Parked.TheVariants.{ObtainReady, DelegateReady}
use Rattle.sem_machine.specs.Sides.{Side, outbox, send, sent, parked}
use Rattle.sem_safety.proofs.Layers.{facts, Brings, BringsFrom, Awaits}
use Rattle.sem_machine.proofs.Weighing.{of_option, weigh-put, weigh-drop}

module _ (key : KeyName → ℕ) (place : ℕ → ℕ → ℕ) where
  abbrev pub message_weight : Message → ℕ
  message_weight (ObtainReq p target) = place p.vpe p.number
  message_weight (ObtainOk parent k object) = key k
  message_weight (DelegatePrepared parent k) = place k.vpe k.number
  message_weight (Ack k true) = key k
  message_weight m = 0

  abbrev pub parked_weight : Option Parked → ℕ
  parked_weight (Some (ObtainReady k parent object sel)) = key k
  parked_weight (Some (DelegateReady parent k)) = place k.vpe k.number
  parked_weight p = 0

  abbrev pub inbox_weight : Option (ℕ × Message) → ℕ
  inbox_weight None = 0
  inbox_weight (Some m) = message_weight m.1

  abbrev pub outbox_weight : List Message → ℕ
  outbox_weight ms = sum_by message_weight ms

  -- all of a side
  abbrev pub way_weight : Side → ℕ
  way_weight s = sum_by parked_weight s.parks + (inbox_weight s.inbox + sum_by outbox_weight s.outs)

  -- a parked call, or none, comes in for another
  pub way-park : (s : Side) (v : ℕ) (p : Option Parked) → way_weight (record s { parks = put None s.parks v p }) + parked_weight (parked s v)
      ≡ way_weight s + parked_weight p
  way-park s v p = let calls = weigh-put parked_weight None refl s.parks v p in omega (arith, calls)

  pub way-send : (s : Side) (j : ℕ) (m : Message) → way_weight (send j m s) ≡ way_weight s + message_weight m
  way-send s j m =
      let outs = weigh-put outbox_weight [] refl s.outs j (outbox s j ++ m ∷ []) in
      let push = sum_by_push message_weight (outbox s j) m in
      omega (arith, outs, push)

  pub way-sent : (s : Side) (j : ℕ) → way_weight (sent j s) + of_option message_weight (slice_get (outbox s j) 0) ≡ way_weight s
  way-sent s j =
      let outs = weigh-put outbox_weight [] refl s.outs j (drop 1 (outbox s j)) in
      let front = weigh-drop message_weight (outbox s j) in
      omega (arith, outs, front)

  module _ (Q : KeyName → Type 0) (R : ℕ → ℕ → Type 0) (no_key : (k : KeyName) → Q k → key k ≡ 0) (no_place : (v n : ℕ) → R v n → place v n ≡ 0) where
    pub message-none : (m : Message) → Brings (facts Q R) m → message_weight m ≡ 0
    message-none (ObtainReq p target) here = no_place p.vpe p.number here
    message-none (ObtainOk parent k object) here = no_key k here
    message-none (DelegatePrepared parent k) here = no_place k.vpe k.number here
    message-none (Ack k true) here = no_key k here
    message-none m here = refl

    pub inbox-none : (o : Option (ℕ × Message)) → BringsFrom (facts Q R) o → inbox_weight o ≡ 0
    inbox-none None here = refl
    inbox-none (Some m) here = message-none m.1 here

    pub parked-none : (p : Option Parked) → Awaits (facts Q R) p → parked_weight p ≡ 0
    parked-none (Some (ObtainReady k parent object sel)) here = no_key k here
    parked-none (Some (DelegateReady parent k)) here = no_place k.vpe k.number here
    parked-none p here = refl
