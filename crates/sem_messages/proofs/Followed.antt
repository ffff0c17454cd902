-- No more requests to revoke are sent than grants were made from one kernel to another: each follows a link between
-- kernels, which a grant made, and which counts no more once it was followed.
use Rattle.std.proofs.Common.{◌≡◌, ℕ, ◌≤◌, List, Option, Some, None, refl, arith}
use Rattle.std.specs.Prelude.{◌==◌}
use Rattle.std.specs.List.{sum_by}
use Rattle.std.proofs.lemmas.Bool.{cond_both}
use Rattle.sem_msg.specs.declared.entry.Entry.{Entry}
use Rattle.sem_msg.specs.declared.message.Message.{Message}
use Rattle.sem_msg.specs.Setup.{Setup, IsSetup}
use Rattle.sem_msg.specs.Lookups.{kernel_of}
use Rattle.sem_machine.specs.Asks.{asker}
use Rattle.sem_machine.specs.Machine.{World, side}
use Rattle.sem_machine.specs.Schedules.{IsSchedule, world_after}
use Rattle.sem_machine.proofs.Weighing.{weigh-none}
use Rattle.sem_messages.specs.Messages.{is_revoke_req, count_sent, grants_across}
use Rattle.sem_messages.proofs.Tallies.{Tally, of_ask, of_row, of_outbox, of_inbox, of_side}
use Rattle.sem_messages.proofs.Links.{caps-bare}
use Rattle.sem_messages.proofs.Worlds.{of_world, world-none}
use Rattle.sem_messages.proofs.Counting.{nothing, sum-zero}
use Rattle.sem_messages.proofs.Requests.{RevokeWeights, counting, sent-less}

abbrev by_links : RevokeWeights
by_links = record { owed = 0; tokens = 0; links = 1 }

-- Where tokens weigh nothing, a world counts nothing on the right.
module _ (T : Setup) (W : World) where
  abbrev right : Tally
  right = counting T by_links

  inbox-nothing : (o : Option (ℕ × Message)) → of_inbox T right o ≡ 0
  inbox-nothing None = refl
  inbox-nothing (Some m) = refl

  side-nothing : (i : ℕ) → of_side T right i (side W i) ≡ 0
  side-nothing i =
      let caps = caps-bare T right i (λ j k. refl) (side W i).caps in
      let rows = weigh-none (of_row T right i) (side W i).vpes
      (λ r among. weigh-none (of_ask T right i) r.asks
      (λ a asked. cond_both (kernel_of T (asker a) == i) 0 0 (λ n. n ≡ 0) (λ _. refl) (λ _. refl))) in
      let pendings = sum-zero (side W i).pendings in
      let jobs = weigh-none right.job (side W i).jobs (λ x among. omega arith) in
      let inbox = inbox-nothing (side W i).inbox in
      let outs = weigh-none (of_outbox T right) (side W i).outs (λ ms among. sum-zero ms) in
      omega (arith, caps, rows, pendings, jobs, inbox, outs)

  world-nothing : of_world T right W ≡ 0
  world-nothing = world-none T right W (λ i within. side-nothing i)
      (weigh-none (λ ls. sum_by (λ ms. sum_by nothing ms) ls) W.links
      (λ ls among. weigh-none (λ ms. sum_by nothing ms) ls (λ ms among'. sum-zero ms)))

-- of every schedule
pub revokes-few : (T : Setup) → IsSetup T → (J : List Entry) → IsSchedule T J →
    count_sent is_revoke_req J ≤ grants_across T J
revokes-few T valid J runs =
    let less = sent-less T by_links valid J runs (world-nothing T (world_after T J)) in omega (arith, less)
