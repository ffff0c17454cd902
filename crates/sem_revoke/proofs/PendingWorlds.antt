-- After every schedule a pending delegation has its DelegatePrepared or its Ack on its way, or the call that is ready to grant it.
use Rattle.std.proofs.Common.{◌≡◌, ℕ, zero, suc, ◌+◌, ◌≤◌, Bool, true, false, ◌&&◌, List, [], ◌∷◌, Option, Some, None, get_or, refl, ap, ◌∙◌, inl, inr, arith}
use Rattle.std.specs.Prelude.{◌==◌, if◌then◌else◌}
use Rattle.std.specs.List.{sum_by}
use Rattle.std.proofs.lemmas.Bool.{cases_Bool, cond-true, cond-false}
use Rattle.std.proofs.lemmas.List.Sums.{sum_by-cons}
use Rattle.sem_key.specs.KeyName.{KeyName, key_eq}
use Rattle.sem_key.proofs.KeyTests.{key_eq-true}
use Rattle.sem_msg.specs.declared.entry.Entry.{Entry}
use Rattle.sem_msg.specs.declared.message.Message.{Message}
use Rattle.sem_msg.specs.declared.message.Message.TheVariants.{ObtainReq, ObtainOk, ObtainNo, DelegateReq, DelegatePrepared, DelegateNo, Ack, Orphan, RevokeReq}
use Rattle.sem_msg.specs.declared.message.Message.TheVariants.{RevokeDone, Unlink}
use Rattle.sem_msg.specs.declared.state.Ask.{Ask}
use Rattle.sem_msg.specs.declared.state.Ask.TheVariants.{Obtain as ObtainAsk, Delegate as DelegateAsk}
use Rattle.sem_msg.specs.Rows.{JobRow, VpeRow}
use Rattle.sem_msg.specs.Setup.{Setup, IsSetup}
use Rattle.sem_machine.specs.Sides.{Side, no_side}
use Rattle.sem_machine.specs.Machine.{World, side}
use Rattle.sem_machine.specs.Schedules.{IsSchedule, world_after}
use Rattle.sem_safety.proofs.AskWeights
use Rattle.sem_safety.proofs.AskWeights.{here}
use Rattle.sem_safety.proofs.AskWorlds
use Rattle.sem_revoke.specs.Exchanges.{Exchange, waiter, of_ask, of_message, of_row, of_rows, exchanging, tokens}
use Rattle.sem_revoke.specs.Exchanges.Exchange.{Obtaining, Delegating}
use Rattle.sem_revoke.specs.Scales.{sum_from, of_messages, of_inbox, of_side, bit}
use Rattle.sem_revoke.proofs.ReadyCalls.{single, here-one}

-- An exchange has no more tokens than its VPE has about.

pair-le : (s t : Bool) → bit (s && t) ≤ (if s then 1 else 0)
pair-le true true = omega arith
pair-le true false = omega arith
pair-le false t = omega arith

key-le : (a b : KeyName) → bit (key_eq a b) ≤ here b.vpe a.vpe
key-le a b = elim (cases_Bool (key_eq a b)) [
  | inl same ↦
      let one : here b.vpe a.vpe ≡ 1 = ap (λ (k : KeyName). here b.vpe k.vpe) (key_eq-true a b same) ∙ here-one b.vpe in
      let is : bit (key_eq a b) ≡ 1 = cond-true (key_eq a b) 1 0 same in
      omega (arith, one, is)
  | inr differ ↦ let none : bit (key_eq a b) ≡ 0 = cond-false (key_eq a b) 1 0 differ in omega (arith, none)
]

ask-le : (x : Exchange) (a : Ask) → of_ask x a ≤ AskWeights.of_ask (waiter x) a
ask-le (Obtaining v n) (ObtainAsk place target) = pair-le (place.vpe == v) (place.number == n)
ask-le (Obtaining v n) (DelegateAsk parent object sel) = omega arith
ask-le (Delegating p) (ObtainAsk place target) = omega arith
ask-le (Delegating p) (DelegateAsk parent object sel) = key-le parent p

message-le : (x : Exchange) (m : Message) → of_message x m ≤ AskWeights.of_message (waiter x) m
message-le (Obtaining v n) (ObtainReq place target) = pair-le (place.vpe == v) (place.number == n)
message-le (Obtaining v n) (ObtainOk parent key object) = pair-le (key.vpe == v) (key.number == n)
message-le (Obtaining v n) (ObtainNo place code) = pair-le (place.vpe == v) (place.number == n)
message-le (Obtaining v n) (DelegateReq parent object vpe sel) = omega arith
message-le (Obtaining v n) (DelegatePrepared parent key) = omega arith
message-le (Obtaining v n) (DelegateNo parent code) = omega arith
message-le (Obtaining v n) (Ack key accepted) = omega arith
message-le (Obtaining v n) (Orphan parent key) = omega arith
message-le (Obtaining v n) (RevokeReq key j) = omega arith
message-le (Obtaining v n) (RevokeDone j) = omega arith
message-le (Obtaining v n) (Unlink parent key) = omega arith
message-le (Delegating p) (ObtainReq place target) = omega arith
message-le (Delegating p) (ObtainOk parent key object) = omega arith
message-le (Delegating p) (ObtainNo place code) = omega arith
message-le (Delegating p) (DelegateReq parent object vpe sel) = key-le parent p
message-le (Delegating p) (DelegatePrepared parent key) = key-le parent p
message-le (Delegating p) (DelegateNo parent code) = key-le parent p
message-le (Delegating p) (Ack key accepted) = omega arith
message-le (Delegating p) (Orphan parent key) = omega arith
message-le (Delegating p) (RevokeReq key j) = omega arith
message-le (Delegating p) (RevokeDone j) = omega arith
message-le (Delegating p) (Unlink parent key) = omega arith

sum-le : {X : Type 0} (f g : X → ℕ) → ((x : X) → f x ≤ g x) → (xs : List X) → sum_by f xs ≤ sum_by g xs
sum-le f g less [] = omega arith
sum-le f g less (x ∷ xs) = let one = sum_by-cons f x xs in let two = sum_by-cons g x xs in let here' = less x in let rest = sum-le f g less xs in
    omega (arith, one, two, here', rest)

from-le : {X : Type 0} (f : ℕ → X → ℕ) (g : X → ℕ) → ((n : ℕ) (x : X) → f n x ≤ g x) → (n : ℕ) (xs : List X) → sum_from f n xs ≤ sum_by g xs
from-le f g less n [] = omega arith
from-le f g less n (x ∷ xs) = let two = sum_by-cons g x xs in let here' = less n x in let rest = from-le f g less (n + 1) xs in omega (arith, two, here', rest)

module _ (x : Exchange) where
  abbrev v : ℕ
  v = waiter x

  rows-le : (r : VpeRow) → of_row x r ≤ AskWeights.of_asks v r
  rows-le r = sum-le (of_ask x) (AskWeights.of_ask v) (ask-le x) r.asks

  messages-le : (i j : ℕ) (ms : List Message) → of_messages (exchanging x) i j ms ≤ AskWeights.of_messages v ms
  messages-le i j ms = sum-le (of_message x) (AskWeights.of_message v) (message-le x) ms

  inbox-le : (n : ℕ) (o : Option (ℕ × Message)) → of_inbox (exchanging x) n o ≤ AskWeights.of_inbox v o
  inbox-le n None = omega arith
  inbox-le n (Some m) = message-le x m.1

  no-jobs : (xs : List JobRow) → sum_by (λ (y : JobRow). 0) xs ≡ 0
  no-jobs [] = refl
  no-jobs (y ∷ ys) = let all = sum_by-cons (λ (z : JobRow). 0) y ys in let rest = no-jobs ys in omega (arith, all, rest)

  abbrev both : ℕ → Side → ℕ
  both n s = of_rows x s + of_side (exchanging x) n s

  -- of a side, but for what is in its inbox
  side-parts : (n : ℕ) (s : Side) → both n s + AskWeights.of_inbox v s.inbox ≤ AskWeights.of_side v s + of_inbox (exchanging x) n s.inbox
  side-parts n s =
      let rows = sum-le (of_row x) (AskWeights.of_asks v) rows-le s.vpes in
      let outs = from-le (of_messages (exchanging x) n) (AskWeights.of_messages v) (λ j ms. messages-le n j ms) 0 s.outs in
      let none = no-jobs s.jobs in
      omega (arith, rows, outs, none)

  side-le' : (n : ℕ) (s : Side) → both n s ≤ AskWeights.of_side v s
  side-le' n s = let parts = side-parts n s in let inbox = inbox-le n s.inbox in omega (arith, parts, inbox)

  sides-le : (n : ℕ) (ss : List Side) → sum_by (of_rows x) ss + sum_from (of_side (exchanging x)) n ss ≤ sum_by (AskWeights.of_side v) ss
  sides-le n [] = omega arith
  sides-le n (s ∷ ss) =
      let one = sum_by-cons (of_rows x) s ss in
      let two = sum_by-cons (AskWeights.of_side v) s ss in
      let here' = side-le' n s in
      let rest = sides-le (n + 1) ss in
      omega (arith, one, two, here', rest)

  -- a message that is of the VPE, and not of this exchange, comes on top
  sides-more : (n : ℕ) (ss : List Side) (i : ℕ) (m : ℕ × Message) → (get_or ss i no_side).inbox ≡ Some m → of_message x m.1 ≡ 0 →
      1 ≤ AskWeights.of_message v m.1 → sum_by (of_rows x) ss + sum_from (of_side (exchanging x)) n ss + 1 ≤ sum_by (AskWeights.of_side v) ss
  sides-more n [] i m full none some = absurd cc
  sides-more n (s ∷ ss) zero m full none some =
      let one = sum_by-cons (of_rows x) s ss in
      let two = sum_by-cons (AskWeights.of_side v) s ss in
      let parts = side-parts n s in
      let first : of_inbox (exchanging x) n s.inbox ≡ of_message x m.1 = ap (of_inbox (exchanging x) n) full in
      let second : AskWeights.of_inbox v s.inbox ≡ AskWeights.of_message v m.1 = ap (AskWeights.of_inbox v) full in
      let rest = sides-le (n + 1) ss in
      omega (arith, one, two, parts, first, second, rest, none, some)
  sides-more n (s ∷ ss) (suc i) m full none some =
      let one = sum_by-cons (of_rows x) s ss in
      let two = sum_by-cons (AskWeights.of_side v) s ss in
      let here' = side-le' n s in
      let rest = sides-more (n + 1) ss i m full none some in
      omega (arith, one, two, here', rest)

  links-le : (W : World) → sum_from (λ i ls. sum_from (of_messages (exchanging x) i) 0 ls) 0 W.links ≤ AskWorlds.of_links v W.links
  links-le W = from-le (λ i ls. sum_from (of_messages (exchanging x) i) 0 ls) (λ ls. sum_by (AskWeights.of_messages v) ls)
      (λ i ls. from-le (of_messages (exchanging x) i) (AskWeights.of_messages v) (λ j ms. messages-le i j ms) 0 ls) 0 W.links

  -- so where another message of the VPE is handled, the exchange has no token
  pub no-token : (T : Setup) → IsSetup T → (J : List Entry) → IsSchedule T J → (i from : ℕ) (m : Message) → (side (world_after T J) i).inbox ≡ Some (from, m) →
      of_message x m ≡ 0 → 1 ≤ AskWeights.of_message v m → 1 ≤ tokens x (world_after T J) → ⊥
  no-token T valid J runs i from m full none some has =
      let W : World = world_after T J in
      let most = single T valid J runs v in
      let more = sides-more 0 W.sides i (from, m) full none some in
      let links = links-le W in
      omega (arith, most, more, links, has)
