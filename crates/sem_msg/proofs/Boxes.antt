-- The outboxes beside the pool, whose first queue is of free nodes.
use Rattle.std.proofs.Common.{◌≡◌, ℕ, ◌+◌, ◌-◌, ◌<◌, Bool, true, cond, not, List, [], ◌∷◌, ◌++◌, length, drop, refl, sym, ◌∙◌, ap, subst, arith, add-one}
use Rattle.std.proofs.Common.{length-append, length-drop}
use Rattle.std.specs.List.{All, slice_get}
use Rattle.std.specs.Prelude.{◌==◌, Option, Some, None, IfSome, is_some}
use Rattle.std.proofs.lemmas.Bool.{ne_eqb}
use Rattle.std.proofs.lemmas.Option.{get_or_from_slice_get, slice_get_within}
use Rattle.std.proofs.lemmas.List.Elements.{All-set}
use Rattle.sem_key.specs.Lists.{put}
use Rattle.sem_key.proofs.Puts.{get_or-put_same, get_or-put_other, length-put, put-set, put-same}
use Rattle.sem_msg.specs.declared.message.Message.{Message}
use Rattle.sem_msg.specs.Message.{Fits}
use Rattle.sem_msg.specs.Outboxes.{box_for, with_box, AllFit, AreFilled}
use Rattle.sem_msg.specs.Masks.{has_bit, IsMaskOf}
use Rattle.sem_msg.proofs.Masks.{mask-written}
use Rattle.sem_msg.proofs.Pools.{drop-with-first}

-- the queue of a kernel, and its outbox
pub box-queue : (pool : List (List Message)) (to : ℕ) → box_for pool (to + 1) ≡ box_for (drop 1 pool) to
box-queue [] to = refl
box-queue (free ∷ boxes) to = rw add-one refl

pub drop-with-box : (pool : List (List Message)) (to : ℕ) (messages : List Message) → drop 1 (with_box pool (to + 1) messages) ≡ with_box (drop 1 pool) to messages
unfolding put
drop-with-box [] to messages = rw add-one refl
drop-with-box (free ∷ boxes) to messages = rw add-one refl

-- an outbox is another
module _ (boxes new : List (List Message)) (to : ℕ) (messages : List Message) (is : new ≡ with_box boxes to messages) (within : to < length boxes) where
  pub AllFit-put : AllFit boxes → All Fits messages → AllFit new
  AllFit-put fit here = subst AllFit (sym (is ∙ put-set [] boxes to messages within)) (All-set (λ ms. All Fits ms) boxes to messages here fit)

  pub AreFilled-put : (mask next : ℕ) (on : Bool) → AreFilled boxes mask → on ≡ is_some (slice_get messages 0)
      → IsMaskOf (λ k. cond (k == to) on (has_bit mask k)) next → AreFilled new next
  AreFilled-put mask next on filled some written =
      mask-written (λ k. is_some (slice_get (box_for boxes k) 0)) (λ k. is_some (slice_get (box_for new k) 0)) to on mask next filled written
      (ap (λ bs. is_some (slice_get (box_for bs to) 0)) is
      ∙ (ap (λ (ms : List Message). is_some (slice_get ms 0)) (get_or-put_same [] boxes to messages) ∙ sym some))
      (λ k other. ap (λ bs. is_some (slice_get (box_for bs k) 0)) is
      ∙ ap (λ (ms : List Message). is_some (slice_get ms 0)) (get_or-put_other [] boxes to k messages other))

pub fits-here : (boxes : List (List Message)) (to : ℕ) → to < length boxes → AllFit boxes → All Fits (box_for boxes to)
fits-here boxes to within fit = fit to [] within

-- there is a first after another was appended
pub some-first : (ms : List Message) (m : Message) → true ≡ is_some (slice_get (ms ++ m ∷ []) 0)
some-first [] m = refl
some-first (x ∷ ms) m = refl

-- the first of messages that fit fits
pub first-fits : (messages : List Message) (first : Option Message) → All Fits messages → first ≡ slice_get messages 0 → IfSome first Fits
first-fits messages None fit is = tt
first-fits messages (Some m) fit is = subst Fits (get_or_from_slice_get messages 0 m m (sym is)) (fit 0 m (slice_get_within messages 0 m (sym is)))

-- a message goes out of the free queue into that of a kernel
module _ (pool new : List (List Message)) (to queue : ℕ) (message : Message) (number : queue ≡ to + 1) (within : to < length (drop 1 pool))
    (is : new ≡ with_box (with_box pool 0 (drop 1 (box_for pool 0))) queue (box_for pool queue ++ message ∷ [])) where
  in-pool : to + 1 < length pool
  in-pool = let long = length-drop 1 pool in omega (arith, long, within)

  sent : new ≡ with_box (with_box pool 0 (drop 1 (box_for pool 0))) (to + 1) (box_for pool (to + 1) ++ message ∷ [])
  sent = subst (λ q. new ≡ with_box (with_box pool 0 (drop 1 (box_for pool 0))) q (box_for pool q ++ message ∷ [])) number is

  pub boxes-sent : drop 1 new ≡ with_box (drop 1 pool) to (box_for (drop 1 pool) to ++ message ∷ [])
  boxes-sent =
      ap (drop 1) sent
      ∙ (drop-with-box (with_box pool 0 (drop 1 (box_for pool 0))) to (box_for pool (to + 1) ++ message ∷ [])
      ∙ (ap (λ bs. with_box bs to (box_for pool (to + 1) ++ message ∷ [])) (drop-with-first pool (drop 1 (box_for pool 0)))
      ∙ ap (λ ms. with_box (drop 1 pool) to (ms ++ message ∷ [])) (box-queue pool to)))

  pub free-sent : length (box_for new 0) ≡ length (box_for pool 0) - 1
  free-sent =
      ap (λ bs. length (box_for bs 0)) sent
      ∙ (ap length (get_or-put_other [] (with_box pool 0 (drop 1 (box_for pool 0))) (to + 1) 0 (box_for pool (to + 1) ++ message ∷ []) (λ same. omega (arith, same)))
      ∙ (ap length (get_or-put_same [] pool 0 (drop 1 (box_for pool 0))) ∙ length-drop 1 (box_for pool 0)))

  pub some-sent : 0 < length new
  some-sent =
      let inner = length-put [] pool 0 (drop 1 (box_for pool 0)) (omega (arith, in-pool)) in
      let outer = length-put [] (with_box pool 0 (drop 1 (box_for pool 0))) (to + 1) (box_for pool (to + 1) ++ message ∷ []) (omega (arith, in-pool, inner)) in
      let same = ap length sent in
      omega (arith, in-pool, inner, outer, same)

-- a message goes back into the free queue
module _ (pool new : List (List Message)) (to queue : ℕ) (message : Message) (number : queue ≡ to + 1) (within : to < length (drop 1 pool))
    (is : new ≡ with_box (with_box pool queue (drop 1 (box_for pool queue))) 0 (box_for pool 0 ++ message ∷ [])) where
  in-pool-2 : to + 1 < length pool
  in-pool-2 = let long = length-drop 1 pool in omega (arith, long, within)

  popped : new ≡ with_box (with_box pool (to + 1) (drop 1 (box_for pool (to + 1)))) 0 (box_for pool 0 ++ message ∷ [])
  popped = subst (λ q. new ≡ with_box (with_box pool q (drop 1 (box_for pool q))) 0 (box_for pool 0 ++ message ∷ [])) number is

  pub boxes-popped : drop 1 new ≡ with_box (drop 1 pool) to (drop 1 (box_for (drop 1 pool) to))
  boxes-popped =
      ap (drop 1) popped
      ∙ (drop-with-first (with_box pool (to + 1) (drop 1 (box_for pool (to + 1)))) (box_for pool 0 ++ message ∷ [])
      ∙ (drop-with-box pool to (drop 1 (box_for pool (to + 1))) ∙ ap (λ ms. with_box (drop 1 pool) to (drop 1 ms)) (box-queue pool to)))

  pub free-popped : length (box_for new 0) ≡ length (box_for pool 0) + 1
  free-popped =
      ap (λ bs. length (box_for bs 0)) popped
      ∙ (ap length (get_or-put_same [] (with_box pool (to + 1) (drop 1 (box_for pool (to + 1)))) 0 (box_for pool 0 ++ message ∷ []))
      ∙ length-append (box_for pool 0) (message ∷ []))

  pub length-popped : length new ≡ length pool
  length-popped =
      let inner = length-put [] pool (to + 1) (drop 1 (box_for pool (to + 1))) in-pool-2 in
      let outer = length-put [] (with_box pool (to + 1) (drop 1 (box_for pool (to + 1)))) 0 (box_for pool 0 ++ message ∷ []) (omega (arith, in-pool-2, inner)) in
      ap length popped ∙ (outer ∙ inner)

  pub box-popped : box_for new queue ≡ drop 1 (box_for (drop 1 pool) to)
  box-popped =
      ap (box_for new) number
      ∙ (box-queue new to ∙ (ap (λ bs. box_for bs to) boxes-popped ∙ get_or-put_same [] (drop 1 pool) to (drop 1 (box_for (drop 1 pool) to))))

-- no message was taken out of an empty outbox
pub none-popped : (boxes : List (List Message)) (to : ℕ) → to < length boxes → box_for boxes to ≡ [] → boxes ≡ with_box boxes to (drop 1 (box_for boxes to))
none-popped boxes to within empty =
    sym (ap (λ ms. with_box boxes to ms) (ap (drop 1) empty ∙ sym empty) ∙ put-same [] boxes to within)

pub empty-none : (ms : List Message) → None ≡ slice_get ms 0 → ms ≡ []
empty-none [] is = refl
empty-none (m ∷ ms) is = cc

-- whether there is a first, by the length
pub some-len : (ms : List Message) (len : ℕ) → len ≡ length ms → not (len == 0) ≡ is_some (slice_get ms 0)
some-len [] len is = rw is refl
some-len (m ∷ ms) len is = ap not (ne_eqb len 0 (λ none. omega (arith, none, is)))
