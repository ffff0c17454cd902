-- Records in a ring, and the messages that they stand for.
use Rattle.std.proofs.Common.{◌≡◌, ℕ, List, [], ◌∷◌, ◌++◌, map, slice_get, Some, refl, ◌∙◌, ap, subst, arith}
use Rattle.std.specs.List.{All}
use Rattle.std.specs.Option.{option_map}
use Rattle.std.proofs.lemmas.List.{map-append}
use Rattle.std.proofs.lemmas.List.Elements.{All-push}
use Rattle.sem_msg.specs.declared.message.Message.{Message}
use Rattle.sem_msg.specs.Message.{Fits}
use Rattle.sem_wire.specs.Records.{record_of}
use Rattle.sem_wire.specs.MessageOfBytes.{message_of, IsRecord}
use Rattle.circular_buffer.specs.Buffer.{Buffer, buffer}
use Rattle.sem_fabric.specs.Links.{relined}
use Rattle.sem_wire.proofs.Records.{message_of_record, record_is}

-- the first of records is one
pub first-is : (items : List (List ℕ)) (r : List ℕ) → slice_get items 0 ≡ Some r → All IsRecord items → IsRecord r
first-is [] r first all = absurd cc
first-is (x ∷ xs) r first all = let same : x ≡ r = cc in subst IsRecord same (all 0 x (omega arith))

-- the first message is that of the first record
pub first-message : (items : List (List ℕ)) → option_map message_of (slice_get items 0) ≡ slice_get (map message_of items) 0
first-message [] = refl
first-message (x ∷ xs) = refl

-- one record more at the end is one message more
pub pushed : (items : List (List ℕ)) (m : Message) → Fits m → map message_of (items ++ record_of m ∷ []) ≡ map message_of items ++ m ∷ []
pushed items m fits = map-append message_of items (record_of m ∷ []) ∙ ap (λ x. map message_of items ++ x ∷ []) (message_of_record m fits)

pub pushed-all : (items : List (List ℕ)) (m : Message) → Fits m → All IsRecord items → All IsRecord (items ++ record_of m ∷ [])
pushed-all items m fits all = All-push IsRecord items (record_of m) all (record_is m fits)

-- a ring with one record more, as a link
pub link-pushed : (old new : Buffer (List ℕ)) (m : Message) (r : List ℕ) → Fits m → r ≡ record_of m → new ≡ buffer (old.items ++ r ∷ []) old.capacity →
    record { messages = map message_of new.items; window = new.capacity }
    ≡ relined (map message_of old.items ++ m ∷ []) (record { messages = map message_of old.items; window = old.capacity })
link-pushed old new m r fits is same =
    let now : new ≡ buffer (old.items ++ record_of m ∷ []) old.capacity = same ∙ ap (λ x. buffer (old.items ++ x ∷ []) old.capacity) is in
    λ i. record { messages = (ap (λ (b : Buffer (List ℕ)). map message_of b.items) now ∙ pushed old.items m fits) i; window = (now i).capacity }
