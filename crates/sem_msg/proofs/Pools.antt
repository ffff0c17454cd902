-- What a pool's queues are, seen as lists of messages.
use Rattle.std.proofs.Common.{◌≡◌, ◌≢◌, ℕ, zero, suc, ◌+◌, ◌-◌, ◌<◌, List, [], ◌∷◌, ◌++◌, length, drop, refl, sym, ◌∙◌, ap, subst, arith}
use Rattle.std.proofs.Common.{length-append}
use Rattle.std.specs.List.{slice_get, slice_index_or}
use Rattle.std.specs.Prelude.{Some}
use Rattle.std.proofs.lemmas.List.{get_or_read, length-map}
use Rattle.std.proofs.Math.Seq.{get_or-append_seam}
use Rattle.sem_key.specs.Lists.{put}
use Rattle.sem_key.proofs.Puts.{get_or-put_same, get_or-put_other, length-put}
use Rattle.sem_msg.specs.declared.message.Message.{Message}
use Rattle.sem_msg.specs.declared.pool.Link.TheVariants.{To, End}
use Rattle.sem_msg.specs.declared.pool.Node.{Node}
use Rattle.sem_msg.specs.declared.pool.Queue.{Queue}
use Rattle.sem_msg.specs.Outboxes.{box_for, with_box}
use Rattle.sem_msg.specs.Queues.{node_at, queue_at, IsChain, messages_of, IsQueue, AreQueues, queue_messages, all_messages, IsLoose}
use Rattle.sem_msg.proofs.Queues.{last-of, length-messages, unpushed, map-agree, box-of}

-- a queue is read
module _ (nodes : List Node) (queues : List Queue) (now : List (List Message)) (view_is : all_messages nodes queues ≡ now) (are : AreQueues nodes queues) (k : ℕ)
    (lt : k < length now) where
  pub queue-within : k < length queues
  queue-within = rw (length-map queues (queue_messages nodes)) at (rw (← view_is) at lt)

  module _ (queue : Queue) (reads : queue ≡ slice_index_or queues k queue) where
    pub is-queue : queue_at queues k ≡ queue
    is-queue = sym (get_or_read queues k queue queue-within reads _)

    pub chain-read : IsChain nodes k queue.last queue.len queue.first
    chain-read = subst (λ (q : Queue). IsQueue nodes k q) is-queue (are k queue-within)

    pub box-read : box_for now k ≡ queue_messages nodes queue
    box-read = ap (λ boxes. box_for boxes k) (sym view_is) ∙ (box-of nodes queues k queue-within ∙ ap (queue_messages nodes) is-queue)

    pub len-read : queue.len ≡ length (box_for now k)
    len-read = sym (ap length box-read ∙ length-messages nodes k queue.last queue.len queue.first chain-read)

    messages-end : (n j : ℕ) → messages_of nodes n (End j) ≡ []
    messages-end zero j = refl
    messages-end (suc n) j = refl

    pub box-end : (j : ℕ) → queue.first ≡ End j → box_for now k ≡ []
    box-end j first = box-read ∙ (ap (messages_of nodes queue.len) first ∙ messages-end queue.len j)

    messages-first : (n at : ℕ) → IsChain nodes k queue.last n (To at) → Some (node_at nodes at).message ≡ slice_get (messages_of nodes n (To at)) 0
    messages-first zero at chain = absurd chain
    messages-first (suc n) at chain = refl

    pub front-first : (at : ℕ) → queue.first ≡ To at → Some (node_at nodes at).message ≡ slice_get (box_for now k) 0
    front-first at first =
        messages-first queue.len at (subst (IsChain nodes k queue.last queue.len) first chain-read)
        ∙ ap (λ ms. slice_get ms 0) (sym (box-read ∙ ap (messages_of nodes queue.len) first))

-- a message goes from one queue to another
pub moved : (old mid new now : List (List Message)) (from to : ℕ) (before message : Message) → old ≡ now → mid ≡ with_box old from (drop 1 (box_for old from))
    → new ≡ with_box mid to (box_for mid to ++ before ∷ []) → before ≡ message → from ≢ to
    → new ≡ with_box (with_box now from (drop 1 (box_for now from))) to (box_for now to ++ message ∷ [])
moved old mid new now from to before message view_is taken is same apart =
    let middle : mid ≡ with_box now from (drop 1 (box_for now from)) = taken ∙ ap (λ bs. with_box bs from (drop 1 (box_for bs from))) view_is in
    let kept : box_for mid to ≡ box_for now to = ap (λ bs. box_for bs to) middle ∙ get_or-put_other [] now from to _ (λ one. apart (sym one)) in
    is
    ∙ (ap (λ bs. with_box bs to (box_for mid to ++ before ∷ [])) middle
    ∙ (ap (λ ms. with_box (with_box now from (drop 1 (box_for now from))) to (ms ++ before ∷ [])) kept
    ∙ ap (λ m. with_box (with_box now from (drop 1 (box_for now from))) to (box_for now to ++ m ∷ [])) same))

-- a node is pushed
module _ (nodes : List Node) (queues : List Queue) (are : AreQueues nodes queues) (new : Node) (pushed : List Node) (is : pushed ≡ nodes ++ new ∷ []) where
  pub pushed-queues : AreQueues pushed queues
  pushed-queues k lt = rw is (unpushed nodes new k _ _ _ (are k lt)).0

  pub pushed-messages : all_messages pushed queues ≡ all_messages nodes queues
  pushed-messages =
      ap (λ ns. all_messages ns queues) is
      ∙ map-agree (queue_messages (nodes ++ new ∷ [])) (queue_messages nodes) queues (λ k lt. (unpushed nodes new k _ _ _ (are k lt)).1)

  -- it comes after the last node of each queue
  pub pushed-loose : (k at : ℕ) → k < length queues → new.next ≡ End k → at ≡ length nodes → IsLoose pushed queues k at
  pushed-loose k at lt next end =
      let long : length pushed ≡ length nodes + 1 = ap length is ∙ length-append nodes (new ∷ []) in
      let here : node_at pushed at ≡ new = ap (λ ns. node_at ns at) is ∙ (ap (node_at (nodes ++ new ∷ [])) end ∙ get_or-append_seam nodes new [] _) in
      record {
        within = omega (arith, long, end);
        next = ap (λ (n : Node). n.next) here ∙ next;
        apart = λ some same.
            let q : Queue = queue_at queues k in
            let more : q.len ≡ suc (q.len - 1) = omega arith in
            let chain : IsChain nodes k q.last (suc (q.len - 1)) q.first = subst (λ n. IsChain nodes k q.last n q.first) more (are k lt) in
            let last = last-of nodes k q.last (q.len - 1) q.first chain in
            omega (arith, last.0, same, end);
      }

pub drop-with-first : (boxes : List (List Message)) (first : List Message) → drop 1 (with_box boxes 0 first) ≡ drop 1 boxes
unfolding put
drop-with-first [] first = refl
drop-with-first (b ∷ bs) first = refl

-- the first queue has one more message, and the others stay
module _ (boxes now new : List (List Message)) (message : Message) (same : boxes ≡ now)
    (some : 0 < length now) (is : new ≡ with_box boxes 0 (box_for boxes 0 ++ message ∷ []))
  where
    added : new ≡ with_box now 0 (box_for now 0 ++ message ∷ [])
    added = is ∙ ap (λ bs. with_box bs 0 (box_for bs 0 ++ message ∷ [])) same

    pub first-longer : length (box_for new 0) ≡ length (box_for now 0) + 1
    first-longer =
        ap (λ bs. length (box_for bs 0)) added
        ∙ (ap length (get_or-put_same [] now 0 (box_for now 0 ++ message ∷ [])) ∙ length-append (box_for now 0) (message ∷ []))

    pub others-kept : drop 1 new ≡ drop 1 now
    others-kept = ap (drop 1) added ∙ drop-with-first now (box_for now 0 ++ message ∷ [])

    pub length-kept : length new ≡ length now
    length-kept = ap length added ∙ length-put [] now 0 (box_for now 0 ++ message ∷ []) some
