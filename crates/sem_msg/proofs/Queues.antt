-- What a node that moves from a queue to another does to the queues.
use Rattle.std.proofs.Common.{◌≡◌, ◌≢◌, ℕ, zero, suc, ◌+◌, ◌-◌, ◌<◌, List, [], ◌∷◌, ◌++◌, length, drop, map, refl, sym, ◌∙◌, ap, subst, inl, inr, arith}
use Rattle.std.proofs.Common.{length-set, length-append, get_or-set_same, get_or-set_other}
use Rattle.std.specs.List.{slice_set}
use Rattle.std.proofs.lemmas.Bool.{cases_eq}
use Rattle.std.proofs.lemmas.List.{get_or-map, map-set, length-map, get_or_append_left}
use Rattle.sem_key.proofs.Puts.{put-set}
use Rattle.sem_msg.specs.declared.message.Message.{Message}
use Rattle.sem_msg.specs.declared.pool.Link.{Link}
use Rattle.sem_msg.specs.declared.pool.Link.TheVariants.{To, End}
use Rattle.sem_msg.specs.declared.pool.Node.{Node}
use Rattle.sem_msg.specs.declared.pool.Queue.{Queue}
use Rattle.sem_msg.specs.Outboxes.{box_for, with_box}
use Rattle.sem_msg.specs.Queues.{node_at, queue_at, IsChain, messages_of, IsQueue, AreQueues, queue_messages, all_messages, IsLoose}

-- chains from one link are of one queue, and equally long
pub same-chain : (nodes : List Node) (k j last end n m : ℕ) (link : Link) → IsChain nodes k last n link → IsChain nodes j end m link → (k ≡ j) × (n ≡ m)
same-chain nodes k j last end zero zero (End i) here there = (sym here ∙ there, refl)
same-chain nodes k j last end zero zero (To a) here there = absurd here
same-chain nodes k j last end zero (suc m) (To a) here there = absurd here
same-chain nodes k j last end zero (suc m) (End i) here there = absurd there
same-chain nodes k j last end (suc n) zero (To a) here there = absurd there
same-chain nodes k j last end (suc n) zero (End i) here there = absurd here
same-chain nodes k j last end (suc n) (suc m) (End i) here there = absurd here
same-chain nodes k j last end (suc n) (suc m) (To a) here there =
    let rest = same-chain nodes k j last end n m (node_at nodes a).next here.2 there.2 in
    (rest.0, ap suc rest.1)

-- a chain ends at its last node
pub last-of : (nodes : List Node) (k last n : ℕ) (link : Link) → IsChain nodes k last (suc n) link → IsChain nodes k last 1 (To last)
last-of nodes k last n (End i) chain = absurd chain
last-of nodes k last zero (To a) chain = subst (λ b. IsChain nodes k last 1 (To b)) (chain.1 refl) chain
last-of nodes k last (suc n) (To a) chain = last-of nodes k last n (node_at nodes a).next chain.2

pub length-messages : (nodes : List Node) (k last n : ℕ) (link : Link) → IsChain nodes k last n link → length (messages_of nodes n link) ≡ n
length-messages nodes k last zero link chain = refl
length-messages nodes k last (suc n) (To a) chain = ap suc (length-messages nodes k last n (node_at nodes a).next chain.2)
length-messages nodes k last (suc n) (End i) chain = absurd chain

-- a chain that does not come to a written node stays
module _ (nodes : List Node) (p j end m : ℕ) (new : Node) (on : IsChain nodes j end m (To p)) where
  pub unwritten : (k last n : ℕ) (link : Link) → (k ≡ j → n < m) → IsChain nodes k last n link
      → IsChain (slice_set nodes p new) k last n link × (messages_of (slice_set nodes p new) n link ≡ messages_of nodes n link)
  unwritten k last zero (To a) apart chain = absurd chain
  unwritten k last zero (End i) apart chain = (chain, refl)
  unwritten k last (suc n) (End i) apart chain = absurd chain
  unwritten k last (suc n) (To a) apart chain =
      let other : a ≢ p = λ same.
      let both = same-chain nodes k j last end (suc n) m (To p) (subst (λ b. IsChain nodes k last (suc n) (To b)) same chain) on in
      omega (arith, apart both.0, both.1)
      in
      let here : node_at (slice_set nodes p new) a ≡ node_at nodes a = get_or-set_other nodes p a new _ other in
      let rest = unwritten k last n (node_at nodes a).next (λ same. omega (arith, apart same)) chain.2 in (
        rw (length-set nodes p new, here) (chain.0, chain.1, rest.0),
        rw here (ap (λ ms. (node_at nodes a).message ∷ ms) rest.1),
      )

-- a chain stays when a node is pushed
pub unpushed : (nodes : List Node) (new : Node) (k last n : ℕ) (link : Link) → IsChain nodes k last n link
    → IsChain (nodes ++ new ∷ []) k last n link × (messages_of (nodes ++ new ∷ []) n link ≡ messages_of nodes n link)
unpushed nodes new k last zero (To a) chain = absurd chain
unpushed nodes new k last zero (End i) chain = (chain, refl)
unpushed nodes new k last (suc n) (End i) chain = absurd chain
unpushed nodes new k last (suc n) (To a) chain =
    let here : node_at (nodes ++ new ∷ []) a ≡ node_at nodes a = get_or_append_left nodes (new ∷ []) _ a chain.0 in
    let rest = unpushed nodes new k last n (node_at nodes a).next chain.2 in (
      rw here (omega (arith, chain.0, length-append nodes (new ∷ [])), chain.1, rest.0),
      rw here (ap (λ ms. (node_at nodes a).message ∷ ms) rest.1),
    )

-- a node is linked behind the last one
module _ (nodes : List Node) (k at last : ℕ) (within : at < length nodes) (next : (node_at nodes at).next ≡ End k) (apart : at ≢ last) where
  abbrev pub linked : List Node
  linked = slice_set nodes last (record { message = (node_at nodes last).message; next = To at })

  at-linked : node_at linked at ≡ node_at nodes at
  at-linked = get_or-set_other nodes last at _ _ apart

  -- the chain of that node alone
  pub chain-one : (more : List Node) → length more ≡ length nodes → node_at more at ≡ node_at nodes at → IsChain more k at 1 (To at)
  chain-one more long same = (omega (arith, long, within), λ _. refl, rw (same, next) refl)

  pub longer : (n : ℕ) (link : Link) → IsChain nodes k last (suc n) link
      → IsChain linked k at (suc (suc n)) link × (messages_of linked (suc (suc n)) link ≡ messages_of nodes (suc n) link ++ (node_at nodes at).message ∷ [])
  longer n (End i) chain = absurd chain
  longer zero (To a) chain =
      let same : a ≡ last = chain.1 refl in
      let there : last < length nodes = rw same at chain.0 in
      let here : node_at linked last ≡ record { message = (node_at nodes last).message; next = To at } = get_or-set_same nodes last _ _ there in
      subst (λ b. IsChain linked k at 2 (To b) × (messages_of linked 2 (To b) ≡ messages_of nodes 1 (To b) ++ (node_at nodes at).message ∷ [])) (sym same) (
        rw here (rw length-set there, λ none. absurd (omega (arith, none)), chain-one linked (length-set nodes last _) at-linked),
        rw (here, at-linked) refl,
      )
  longer (suc n) (To a) chain =
      let other : a ≢ last = λ same.
      let both = same-chain nodes k k last last (suc (suc n)) 1 (To last) (subst (λ b. IsChain nodes k last (suc (suc n)) (To b)) same chain)
      (last-of nodes k last (suc n) (To a) chain)
      in omega (arith, both.1)
      in
      let here : node_at linked a ≡ node_at nodes a = get_or-set_other nodes last a _ _ other in
      let rest = longer n (node_at nodes a).next chain.2 in (
        rw here (rw length-set chain.0, λ none. absurd (omega (arith, none)), rest.0),
        rw here (ap (λ ms. (node_at nodes a).message ∷ ms) rest.1),
      )

-- One queue is another, and the others stay.

pub map-agree : (f g : Queue → List Message) (queues : List Queue) → ((k : ℕ) → k < length queues → f (queue_at queues k) ≡ g (queue_at queues k)) →
    map f queues ≡ map g queues
map-agree f g [] agree = refl
map-agree f g (q ∷ qs) agree =
    let rest = map-agree f g qs (λ k lt. agree (suc k) (omega arith)) in
    rw (agree 0 (omega arith), rest) refl

set-agree : (f g : Queue → List Message) (queues : List Queue) (i : ℕ) (here : List Message) →
    ((k : ℕ) → k < length queues → k ≢ i → f (queue_at queues k) ≡ g (queue_at queues k)) → slice_set (map f queues) i here ≡ slice_set (map g queues) i here
set-agree f g [] i here agree = refl
set-agree f g (q ∷ qs) zero here agree = ap (λ bs. here ∷ bs) (map-agree f g qs (λ k lt. agree (suc k) (omega arith) (omega arith)))
set-agree f g (q ∷ qs) (suc i) here agree =
    let rest = set-agree f g qs i here (λ k lt other. agree (suc k) (omega arith) (λ same. other (omega (arith, same)))) in
    rw (agree 0 (omega arith) (omega arith), rest) refl

module _ (nodes new : List Node) (queues : List Queue) (i : ℕ) (queue : Queue) (in_range : i < length queues) (others : (k : ℕ) → k < length queues → k ≢ i
    → IsQueue new k (queue_at queues k) × (queue_messages new (queue_at queues k) ≡ queue_messages nodes (queue_at queues k))) where
  pub AreQueues-set : IsQueue new i queue → AreQueues new (slice_set queues i queue)
  AreQueues-set here k lt = elim (cases_eq k i) [
    | inl same ↦ subst (λ j. IsQueue new j (queue_at (slice_set queues i queue) j)) (sym same) (rw (get_or-set_same queues i queue _ in_range) here)
    | inr other ↦ rw (get_or-set_other queues i k queue _ other) (others k (rw length-set at lt) other).0
  ]

  pub all_messages-set : all_messages new (slice_set queues i queue) ≡ with_box (all_messages nodes queues) i (queue_messages new queue)
  all_messages-set =
      map-set (queue_messages new) queues i queue
      ∙ (set-agree (queue_messages new) (queue_messages nodes) queues i (queue_messages new queue) (λ k lt other. (others k lt other).1)
      ∙ sym (put-set [] (all_messages nodes queues) i (queue_messages new queue) (rw (length-map queues (queue_messages nodes)) in_range)))

-- the messages of a queue
pub box-of : (nodes : List Node) (queues : List Queue) (k : ℕ) → k < length queues → box_for (all_messages nodes queues) k ≡ queue_messages nodes (queue_at queues k)
box-of nodes queues k lt = get_or-map (queue_messages nodes) queues k _ [] lt

-- a node is put behind the last one of a queue
module _ (nodes : List Node) (queues : List Queue) (to at : ℕ) (queue : Queue) (is : queue_at queues to ≡ queue) (are : AreQueues nodes queues)
    (in_range : to < length queues) (loose : IsLoose nodes queues to at) where
  box-to : box_for (all_messages nodes queues) to ≡ queue_messages nodes queue
  box-to = box-of nodes queues to in_range ∙ ap (queue_messages nodes) is

  pub put-first : queue.len ≡ 0 → all_messages nodes (slice_set queues to (record { first = To at; last = at; len = 1 }))
      ≡ with_box (all_messages nodes queues) to (box_for (all_messages nodes queues) to ++ (node_at nodes at).message ∷ [])
  put-first none =
      let empty : queue_messages nodes queue ≡ [] = ap (λ n. messages_of nodes n queue.first) none in
      all_messages-set nodes nodes queues to _ in_range (λ k lt other. (are k lt, refl))
      ∙ sym (ap (λ ms. with_box (all_messages nodes queues) to (ms ++ (node_at nodes at).message ∷ [])) (box-to ∙ empty))

  module _ (some : 0 < queue.len) where
    chain : IsChain nodes to queue.last (suc (queue.len - 1)) queue.first
    chain =
        let here : IsChain nodes to queue.last queue.len queue.first = subst (λ (q : Queue). IsQueue nodes to q) is (are to in_range) in
        let more : queue.len ≡ suc (queue.len - 1) = omega arith in
        subst (λ n. IsChain nodes to queue.last n queue.first) more here

    end : IsChain nodes to queue.last 1 (To queue.last)
    end = last-of nodes to queue.last (queue.len - 1) queue.first chain

    pub last-within : queue.last < length nodes
    last-within = end.0

    module _ (node : Node) (was : node_at nodes queue.last ≡ node) where
      abbrev pub after : List Node
      after = slice_set nodes queue.last (record { message = node.message; next = To at })

      abbrev pub grown : Queue
      grown = record { first = queue.first; last = at; len = queue.len + 1 }

      apart : at ≢ queue.last
      apart = subst (λ (q : Queue). 0 < q.len → at ≢ q.last) is loose.apart some

      here : IsQueue after to grown × (queue_messages after grown ≡ queue_messages nodes queue ++ (node_at nodes at).message ∷ [])
      here =
          let both = longer nodes to at queue.last loose.within loose.next apart (queue.len - 1) queue.first chain in
          let same : suc (queue.len - 1) ≡ queue.len = omega arith in
          let before : List Node = linked nodes to at queue.last loose.within loose.next apart in
          let same-nodes : before ≡ after = ap (λ (n : Node). slice_set nodes queue.last (record { message = n.message; next = To at })) was in
          let more : suc queue.len ≡ queue.len + 1 = omega arith in
          subst (λ ns. IsQueue ns to grown × (queue_messages ns grown ≡ queue_messages nodes queue ++ (node_at nodes at).message ∷ [])) same-nodes
          (subst (λ n. IsChain before to at n queue.first × (messages_of before n queue.first ≡ queue_messages nodes queue ++ (node_at nodes at).message ∷ [])) more
          (subst (λ n. IsChain before to at (suc n) queue.first × (messages_of before (suc n) queue.first ≡ messages_of nodes n queue.first
          ++ (node_at nodes at).message ∷ [])) same both))

      others : (k : ℕ) → k < length queues → k ≢ to
          → IsQueue after k (queue_at queues k) × (queue_messages after (queue_at queues k) ≡ queue_messages nodes (queue_at queues k))
      others k lt other = unwritten nodes queue.last to queue.last 1 _ end k _ _ _ (λ same. absurd (other same)) (are k lt)

      pub put-queues : AreQueues after (slice_set queues to grown)
      put-queues = AreQueues-set nodes after queues to grown in_range others here.0

      pub put-messages : all_messages after (slice_set queues to grown)
          ≡ with_box (all_messages nodes queues) to (box_for (all_messages nodes queues) to ++ (node_at nodes at).message ∷ [])
      put-messages =
          all_messages-set nodes after queues to grown in_range others
          ∙ ap (λ ms. with_box (all_messages nodes queues) to ms) (here.1 ∙ sym (ap (λ ms. ms ++ (node_at nodes at).message ∷ []) box-to))

-- the first node of a queue is taken out, and its link leads to the end of another queue
module _ (nodes : List Node) (queues : List Queue) (from at : ℕ) (queue : Queue) (is : queue_at queues from ≡ queue) (are : AreQueues nodes queues)
    (in_range : from < length queues) (first : queue.first ≡ To at) where
  chain-from : IsChain nodes from queue.last queue.len (To at)
  chain-from = subst (λ link. IsChain nodes from queue.last queue.len link) first (subst (λ (q : Queue). IsQueue nodes from q) is (are from in_range))

  chain-some : (n : ℕ) → IsChain nodes from queue.last n (To at) → 0 < n
  chain-some zero chain = absurd chain
  chain-some (suc n) chain = omega arith

  pub some-len : 0 < queue.len
  some-len = chain-some queue.len chain-from

  full : IsChain nodes from queue.last (suc (queue.len - 1)) (To at)
  full =
      let some = some-len in
      let more : queue.len ≡ suc (queue.len - 1) = omega arith in
      subst (λ n. IsChain nodes from queue.last n (To at)) more chain-from

  pub first-within : at < length nodes
  first-within = full.0

  module _ (node : Node) (was : node_at nodes at ≡ node) (new : Node) where
    abbrev pub left : Queue
    left = record { first = node.next; last = queue.last; len = queue.len - 1 }

    other-queues : (k : ℕ) → k < length queues → k ≢ from
        → IsQueue (slice_set nodes at new) k (queue_at queues k)
        × (queue_messages (slice_set nodes at new) (queue_at queues k) ≡ queue_messages nodes (queue_at queues k))
    other-queues k lt other = unwritten nodes at from queue.last (suc (queue.len - 1)) new full k _ _ _ (λ same. absurd (other same)) (are k lt)

    rest : IsQueue (slice_set nodes at new) from left × (queue_messages (slice_set nodes at new) left ≡ drop 1 (queue_messages nodes queue))
    rest =
        let same : suc (queue.len - 1) ≡ queue.len = let some = some-len in omega arith in
        let chain : IsChain nodes from queue.last (queue.len - 1) node.next
        = subst (λ (n : Node). IsChain nodes from queue.last (queue.len - 1) n.next) was full.2 in
        let kept = unwritten nodes at from queue.last (suc (queue.len - 1)) new full from queue.last (queue.len - 1) node.next (λ _. omega arith) chain in
        let tail : messages_of nodes (queue.len - 1) node.next ≡ drop 1 (messages_of nodes (suc (queue.len - 1)) (To at))
        = ap (λ (n : Node). messages_of nodes (queue.len - 1) n.next) (sym was) in
        let whole : messages_of nodes (suc (queue.len - 1)) (To at) ≡ queue_messages nodes queue
        = ap (λ n. messages_of nodes n (To at)) same ∙ ap (messages_of nodes queue.len) (sym first) in
        (kept.0, kept.1 ∙ (tail ∙ ap (drop 1) whole))

    pub taken-queues : AreQueues (slice_set nodes at new) (slice_set queues from left)
    taken-queues = AreQueues-set nodes (slice_set nodes at new) queues from left in_range other-queues rest.0

    pub taken-messages : all_messages (slice_set nodes at new) (slice_set queues from left)
        ≡ with_box (all_messages nodes queues) from (drop 1 (box_for (all_messages nodes queues) from))
    taken-messages =
        all_messages-set nodes (slice_set nodes at new) queues from left in_range other-queues
        ∙ ap (λ ms. with_box (all_messages nodes queues) from ms) (rest.1 ∙ sym (ap (drop 1) (box-of nodes queues from in_range ∙ ap (queue_messages nodes) is)))

    -- no other queue ends at the node
    apart-from : (to : ℕ) → to < length queues → to ≢ from → 0 < (queue_at queues to).len → at ≢ (queue_at queues to).last
    apart-from to lt other some same =
        let q : Queue = queue_at queues to in
        let more : q.len ≡ suc (q.len - 1) = omega arith in
        let chain : IsChain nodes to q.last (suc (q.len - 1)) q.first = subst (λ n. IsChain nodes to q.last n q.first) more (are to lt) in
        let end = last-of nodes to q.last (q.len - 1) q.first chain in
        other (same-chain nodes to from q.last queue.last 1 (suc (queue.len - 1)) (To q.last) end
        (subst (λ b. IsChain nodes from queue.last (suc (queue.len - 1)) (To b)) same full)).0

    pub taken-loose : (to : ℕ) → to < length queues → from ≢ to → new.next ≡ End to → IsLoose (slice_set nodes at new) (slice_set queues from left) to at
    taken-loose to lt other next =
        let new-at : node_at (slice_set nodes at new) at ≡ new = get_or-set_same nodes at new _ first-within in
        let not-from : to ≢ from = λ same. other (sym same) in
        let queue-to : queue_at (slice_set queues from left) to ≡ queue_at queues to = get_or-set_other queues from to left _ not-from in
        record {
          within = rw length-set first-within;
          next = rw new-at next;
          apart = rw queue-to (apart-from to lt not-from);
        }
