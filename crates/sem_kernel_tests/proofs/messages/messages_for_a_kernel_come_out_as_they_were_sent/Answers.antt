use Rattle.std.proofs.Common.{rules, ◌≡◌, ℕ, zero, suc, ◌<◌, ◌≤◌, length, List, [], ◌∷◌, ap, arith}
use Rattle.sem_key.specs.Lists.{put}
use Rattle.sem_msg.specs.Outboxes.{with_box}
use Rattle.sem_msg.specs.declared.message.Message.{Message}
use Rattle.sem_kernel_tests.proofs.messages.messages_for_a_kernel_come_out_as_they_were_sent.Goals as goal

-- there are no fewer boxes where one has other messages
no-fewer : (boxes : List (List Message)) (to : ℕ) (messages : List Message) → length boxes ≤ length (with_box boxes to messages)
unfolding put
no-fewer [] to messages = omega arith
no-fewer (b ∷ bs) zero messages = omega arith
no-fewer (b ∷ bs) (suc to) messages = let rest = no-fewer bs to messages in omega (arith, rest)

still : (old new : List (List Message)) (to : ℕ) (messages : List Message) → new ≡ with_box old to messages → 1 < length old → 1 < length new
still old new to messages same two = let more = no-fewer old to messages in let long = ap (length {A = List Message}) same in omega (arith, more, long, two)

pub send-requires-2-clause-to_kernel : goal.send-requires-2-clause-to_kernel
send-requires-2-clause-to_kernel g c =
    let room : 1 < length c.room.new.self.boxes = search rules in
    let sent_one = still _ _ 1 _ c.send.ensures.boxes room in
    omega (arith, sent_one)

pub send-requires-3-clause-to_kernel : goal.send-requires-3-clause-to_kernel
send-requires-3-clause-to_kernel g c =
    let room : 1 < length c.room.new.self.boxes = search rules in
    let sent_one = still _ _ 1 _ c.send.ensures.boxes room in
    let sent_two = still _ _ 0 _ c.send-2.ensures.boxes sent_one in
    sent_two

pub front-requires-2 : goal.front-requires-2
front-requires-2 g c =
    let room : 1 < length c.room.new.self.boxes = search rules in
    let sent_one = still _ _ 1 _ c.send.ensures.boxes room in
    let sent_two = still _ _ 0 _ c.send-2.ensures.boxes sent_one in
    let sent_three = still _ _ 1 _ c.send-3.ensures.boxes sent_two in
    omega (arith, sent_three)

pub front-requires-3 : goal.front-requires-3
front-requires-3 g c =
    let room : 1 < length c.room.new.self.boxes = search rules in
    let sent_one = still _ _ 1 _ c.send.ensures.boxes room in
    let sent_two = still _ _ 0 _ c.send-2.ensures.boxes sent_one in
    let sent_three = still _ _ 1 _ c.send-3.ensures.boxes sent_two in
    sent_three

pub front-requires-4 : goal.front-requires-4
front-requires-4 g c =
    let room : 1 < length c.room.new.self.boxes = search rules in
    let sent_one = still _ _ 1 _ c.send.ensures.boxes room in
    let sent_two = still _ _ 0 _ c.send-2.ensures.boxes sent_one in
    let sent_three = still _ _ 1 _ c.send-3.ensures.boxes sent_two in
    let popped_one = still _ _ 1 _ c.pop.ensures.boxes sent_three in
    popped_one

pub pop-requires-3 : goal.pop-requires-3
pop-requires-3 g c =
    let room : 1 < length c.room.new.self.boxes = search rules in
    let sent_one = still _ _ 1 _ c.send.ensures.boxes room in
    let sent_two = still _ _ 0 _ c.send-2.ensures.boxes sent_one in
    let sent_three = still _ _ 1 _ c.send-3.ensures.boxes sent_two in
    let popped_one = still _ _ 1 _ c.pop.ensures.boxes sent_three in
    let popped_two = still _ _ 1 _ c.pop-2.ensures.boxes popped_one in
    popped_two

pub pop-requires-4 : goal.pop-requires-4
pop-requires-4 g c =
    let room : 1 < length c.room.new.self.boxes = search rules in
    let sent_one = still _ _ 1 _ c.send.ensures.boxes room in
    let sent_two = still _ _ 0 _ c.send-2.ensures.boxes sent_one in
    let sent_three = still _ _ 1 _ c.send-3.ensures.boxes sent_two in
    let popped_one = still _ _ 1 _ c.pop.ensures.boxes sent_three in
    let popped_two = still _ _ 1 _ c.pop-2.ensures.boxes popped_one in
    let popped_three = still _ _ 1 _ c.pop-3.ensures.boxes popped_two in
    omega (arith, popped_three)

pub front-requires-5 : goal.front-requires-5
front-requires-5 g c =
    let room : 1 < length c.room.new.self.boxes = search rules in
    let sent_one = still _ _ 1 _ c.send.ensures.boxes room in
    let sent_two = still _ _ 0 _ c.send-2.ensures.boxes sent_one in
    let sent_three = still _ _ 1 _ c.send-3.ensures.boxes sent_two in
    let popped_one = still _ _ 1 _ c.pop.ensures.boxes sent_three in
    let popped_two = still _ _ 1 _ c.pop-2.ensures.boxes popped_one in
    let popped_three = still _ _ 1 _ c.pop-3.ensures.boxes popped_two in
    let popped_four = still _ _ 0 _ c.pop-4.ensures.boxes popped_three in
    omega (arith, popped_four)
