-- An Ack that accepts acknowledges the grant of what is pending: its parent is that of the pending delegation.
use Rattle.std.proofs.Common.{◌≡◌, ℕ, ◌+◌, ◌≤◌, true, false, List, [], ◌∷◌, Option, Some, None, refl, ap, ◌∙◌, inl, inr, arith}
use Rattle.std.specs.List.{Contains, sum_by}
use Rattle.std.proofs.lemmas.Bool.{cond-true}
use Rattle.std.proofs.lemmas.List.Sums.{sum_by-cons}
use Rattle.sem_key.specs.KeyName.{KeyName, key_eq}
use Rattle.sem_key.proofs.KeyTests.{key_eq-same}
use Rattle.sem_msg.specs.declared.entry.Entry.{Entry}
use Rattle.sem_msg.specs.declared.message.Message.{Message}
use Rattle.sem_msg.specs.declared.message.Message.TheVariants.{ObtainReq, ObtainOk, ObtainNo, DelegateReq, DelegatePrepared, DelegateNo, Ack, Orphan, RevokeReq}
use Rattle.sem_msg.specs.declared.message.Message.TheVariants.{RevokeDone, Unlink}
use Rattle.sem_msg.specs.declared.state.Pending.{Pending}
use Rattle.sem_msg.specs.Rows.{JobRow}
use Rattle.sem_msg.specs.Setup.{Setup, IsSetup}
use Rattle.sem_machine.specs.Sides.{Side, no_side, parked, pending}
use Rattle.sem_machine.specs.Machine.{World, side}
use Rattle.sem_machine.specs.Schedules.{IsSchedule, world_after}
use Rattle.sem_machine.specs.Journals.{grants}
use Rattle.sem_machine.specs.Living.{way}
use Rattle.sem_safety.proofs.HeldOnce.{weigh-at}
use Rattle.sem_revoke.specs.Delegations
use Rattle.sem_revoke.specs.Delegations.{of_key, of_parked}
use Rattle.sem_revoke.specs.Scales.{Scale, sum_from, of_messages, of_inbox, of_side, of_world}
use Rattle.sem_revoke.proofs.DelegationWorlds.{one-each}
use Rattle.sem_revoke.proofs.Linking.{way-weighs}
use Rattle.sem_revoke.proofs.PendingOwed.{Token, all-pend}

module _ (k0 : KeyName) where
  -- a DelegatePrepared, an Ack that accepts, and one that does not
  abbrev prepared_message : Message → ℕ
  prepared_message (DelegatePrepared parent key) = of_key k0 key
  prepared_message m = 0

  abbrev yes_message : Message → ℕ
  yes_message (Ack key true) = of_key k0 key
  yes_message m = 0

  abbrev no_message : Message → ℕ
  no_message (Ack key false) = of_key k0 key
  no_message m = 0

  abbrev scale : (Message → ℕ) → Scale
  scale f = record { message = λ from to m. f m; job = λ i x. 0 }

  message-parts : (m : Message) → prepared_message m + (yes_message m + no_message m) ≤ Delegations.of_message k0 m
  message-parts (ObtainReq place target) = omega arith
  message-parts (ObtainOk parent key object) = omega arith
  message-parts (ObtainNo place code) = omega arith
  message-parts (DelegateReq parent object vpe sel) = omega arith
  message-parts (DelegatePrepared parent key) = omega arith
  message-parts (DelegateNo parent code) = omega arith
  message-parts (Ack key true) = omega arith
  message-parts (Ack key false) = omega arith
  message-parts (Orphan parent key) = omega arith
  message-parts (RevokeReq key j) = omega arith
  message-parts (RevokeDone j) = omega arith
  message-parts (Unlink parent key) = omega arith

  abbrev SP : Scale
  SP = scale prepared_message

  abbrev SY : Scale
  SY = scale yes_message

  abbrev SN : Scale
  SN = scale no_message

  list-parts : (ms : List Message) → sum_by prepared_message ms + (sum_by yes_message ms + sum_by no_message ms) ≤ Delegations.of_messages k0 ms
  list-parts [] = omega arith
  list-parts (m ∷ ms) =
      let one = sum_by-cons prepared_message m ms in
      let two = sum_by-cons yes_message m ms in
      let three = sum_by-cons no_message m ms in
      let four = sum_by-cons (Delegations.of_message k0) m ms in
      let here = message-parts m in
      let rest = list-parts ms in
      omega (arith, one, two, three, four, here, rest)

  lists-parts : (i n : ℕ) (ls : List (List Message)) →
      sum_from (of_messages SP i) n ls + (sum_from (of_messages SY i) n ls + sum_from (of_messages SN i) n ls) ≤ sum_by (Delegations.of_messages k0) ls
  lists-parts i n [] = omega arith
  lists-parts i n (ms ∷ ls) =
      let four = sum_by-cons (Delegations.of_messages k0) ms ls in
      let here = list-parts ms in
      let rest = lists-parts i (n + 1) ls in
      omega (arith, four, here, rest)

  inbox-parts : (i : ℕ) (o : Option (ℕ × Message)) → of_inbox SP i o + (of_inbox SY i o + of_inbox SN i o) ≤ Delegations.of_inbox k0 o
  inbox-parts i None = omega arith
  inbox-parts i (Some m) = message-parts m.1

  no-jobs : (xs : List JobRow) → sum_by (λ (x : JobRow). 0) xs ≡ 0
  no-jobs [] = refl
  no-jobs (x ∷ xs) = let all = sum_by-cons (λ (z : JobRow). 0) x xs in let rest = no-jobs xs in omega (arith, all, rest)

  abbrev calls : Side → ℕ
  calls s = sum_by (of_parked k0) s.parks

  sides-parts : (n : ℕ) (ss : List Side) →
      sum_by calls ss + (sum_from (of_side SP) n ss + (sum_from (of_side SY) n ss + sum_from (of_side SN) n ss)) ≤ sum_by (Delegations.of_side k0) ss
  sides-parts n [] = omega arith
  sides-parts n (s ∷ ss) =
      let zero' = sum_by-cons calls s ss in
      let four = sum_by-cons (Delegations.of_side k0) s ss in
      let jobs = no-jobs s.jobs in
      let inbox = inbox-parts n s.inbox in
      let outs = lists-parts n 0 s.outs in
      let rest = sides-parts (n + 1) ss in
      omega (arith, zero', four, jobs, inbox, outs, rest)

  rows-parts : (n : ℕ) (lls : List (List (List Message))) →
      sum_from (λ i ls. sum_from (of_messages SP i) 0 ls) n lls + (sum_from (λ i ls. sum_from (of_messages SY i) 0 ls) n lls + sum_from
      (λ i ls. sum_from (of_messages SN i) 0 ls) n lls) ≤ Delegations.of_links k0 lls
  rows-parts n [] = omega arith
  rows-parts n (ls ∷ lls) =
      let four = sum_by-cons (λ qs. sum_by (Delegations.of_messages k0) qs) ls lls in
      let here = lists-parts n 0 ls in
      let rest = rows-parts (n + 1) lls in
      omega (arith, four, here, rest)

  world-parts : (W : World) → sum_by calls W.sides + (of_world SP W + (of_world SY W + of_world SN W)) ≤ Delegations.of_world k0 W
  world-parts W = let sides = sides-parts 0 W.sides in let links = rows-parts 0 W.links in omega (arith, sides, links)

  own : of_key k0 k0 ≡ 1
  own = cond-true (key_eq k0 k0) 1 0 (key_eq-same k0)

  pub acked-parent : (T : Setup) → IsSetup T → (J : List Entry) → IsSchedule T J → (i a b : ℕ) (p : Pending) → pending (side (world_after T J) i) k0 ≡ Some p →
      Contains (way (world_after T J) a b) (Ack k0 true) → Contains (grants J) (p.parent, k0)
  acked-parent T valid J runs i a b p there among = from (all-pend T valid k0 J runs i p there)
    where
      W : World
      W = world_after T J

      yes' : 1 ≤ of_world SY (world_after T J)
      yes' = let weighs = way-weighs T valid J runs SY a b (Ack k0 true) among in let one = own in omega (arith, weighs, one)

      from : Token T valid k0 J p.parent → Contains (grants J) (p.parent, k0)
      from (inl (c, d, other)) =
          let weighs = way-weighs T valid J runs SP c d (DelegatePrepared p.parent k0) other in
          let one = own in let parts = world-parts (world_after T J) in let most = one-each T valid J runs k0 in let y = yes' in
          absurd (omega (arith, weighs, one, parts, most, y))
      from (inr (inl (c, d, true, other, granted))) = granted refl
      from (inr (inl (c, d, false, other, granted))) =
          let weighs = way-weighs T valid J runs SN c d (Ack k0 false) other in
          let one = own in let parts = world-parts (world_after T J) in let most = one-each T valid J runs k0 in let y = yes' in
          absurd (omega (arith, weighs, one, parts, most, y))
      from (inr (inr (j, w, ready, alive))) =
          let call = weigh-at (of_parked k0) None refl (side (world_after T J) j).parks w in
          let weight : of_parked k0 (parked (side (world_after T J) j) w) ≡ 1 = ap (of_parked k0) ready ∙ own in
          let sides = weigh-at calls no_side refl (world_after T J).sides j in
          let parts = world-parts (world_after T J) in let most = one-each T valid J runs k0 in let y = yes' in
          absurd (omega (arith, call, weight, sides, parts, most, y))
