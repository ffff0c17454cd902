-- The accesses of a schedule are in order: each by a later entry, below the end of the journal, and none past the end of memory.
use Rattle.std.proofs.Common.{◌≡◌, ℕ, suc, ◌+◌, ◌≤◌, ◌<◌, List, [], ◌∷◌, ◌++◌, length, Option, Some, None, refl, ◌∙◌, ap, subst, arith, cond}
use Rattle.std.specs.List.{All, AllPairs, Contains}
use Rattle.std.specs.Option.{option_to_list}
use Rattle.std.proofs.lemmas.List.Elements.{All-nil, All-cons, All-weaker, All-contains_itself}
use Rattle.std.proofs.lemmas.List.{length-append}
use Rattle.std.proofs.lemmas.List.Kept.{AllPairs-cons}
use Rattle.sem_key.specs.declared.limits.TheConstants.{ADDRESSES}
use Rattle.sem_key.specs.declared.object.Object.{Object}
use Rattle.sem_key.specs.declared.object.Object.TheVariants.{Mem, Recv, Send, Serv, Sess}
use Rattle.sem_key.specs.ObjectRanges.{IsValidObject}
use Rattle.sem_msg.specs.declared.entry.Entry.{Entry}
use Rattle.sem_msg.specs.Setup.{Setup, IsSetup}
use Rattle.sem_machine.specs.Sound.{IsSound, IsSoundEndpoint}
use Rattle.sem_machine.specs.Machine.{World, side, start, after}
use Rattle.sem_machine.specs.Schedules.{IsSchedule, world_after}
use Rattle.sem_safety.proofs.GoingOn.{entry-enabled}
use Rattle.sem_sound.proofs.Scheduling.{schedule-sound}
use Rattle.sem_access.specs.declared.access.Access.{Access}
use Rattle.sem_access.specs.Accesses.{base_of, access_of, accesses_from, accesses}
use Rattle.sem_mem.specs.Reading.{AreInOrder, AreBefore}
use Rattle.sem_access.proofs.Placing.{entry-place, StandsIn, stands}
use Rattle.sem_access.proofs.Passing.{Passes, GoesThrough, entry-through}
use Rattle.sem_access.proofs.Transferring.{enabled-kernel}

abbrev Rises : Access → Access → Type 0
Rises x y = x.entry < y.entry

abbrev IsFrom : ℕ → Access → Type 0
IsFrom n x = n ≤ x.entry

-- one entry after another
all-from : (T : Setup) (J : List Entry) (W : World) (n : ℕ) → All (IsFrom n) (accesses_from T W n J)
unfolding accesses_from
all-from T [] W n = All-nil (IsFrom n)
all-from T (e ∷ es) W n =
    with-first (access_of W n e) refl (All-weaker (IsFrom (n + 1)) (IsFrom n) (λ x from. omega (arith, from)) (accesses_from T (after T W e.event) (n + 1) es)
    (all-from T es (after T W e.event) (n + 1)))
  where
    with-first : (o : Option Access) → access_of W n e ≡ o → All (IsFrom n) (accesses_from T (after T W e.event) (n + 1) es) →
        All (IsFrom n) (option_to_list o ++ accesses_from T (after T W e.event) (n + 1) es)
    with-first None none rest = rest
    with-first (Some x) some rest = All-cons (IsFrom n) x (accesses_from T (after T W e.event) (n + 1) es) (let place = entry-place W n e x some in
        omega (arith, place)) rest

all-rise : (T : Setup) (J : List Entry) (W : World) (n : ℕ) → AllPairs Rises (accesses_from T W n J)
unfolding accesses_from
all-rise T [] W n = λ i j d lt below. absurd (omega arith)
all-rise T (e ∷ es) W n = with-first (access_of W n e) refl (all-from T es (after T W e.event) (n + 1)) (all-rise T es (after T W e.event) (n + 1))
  where
    with-first : (o : Option Access) → access_of W n e ≡ o → All (IsFrom (n + 1)) (accesses_from T (after T W e.event) (n + 1) es) →
        AllPairs Rises (accesses_from T (after T W e.event) (n + 1) es) → AllPairs Rises (option_to_list o ++ accesses_from T (after T W e.event) (n + 1) es)
    with-first None none from rest = rest
    with-first (Some x) some from rest =
        let place : x.entry ≡ n = entry-place W n e x some in
        AllPairs-cons Rises x (accesses_from T (after T W e.event) (n + 1) es) (All-weaker (IsFrom (n + 1)) (Rises x) (λ y late. omega (arith, late, place))
        (accesses_from T (after T W e.event) (n + 1) es) from) rest

-- each is below the end of the journal
pub all-before : (T : Setup) (J : List Entry) → AreBefore (length J) (accesses T J)
all-before T J = All-weaker (Contains (accesses T J)) (λ (x : Access). x.entry < length J) below (accesses T J) (All-contains_itself (accesses T J))
  where
    below : (x : Access) → Contains (accesses T J) x → x.entry < length J
    below x among =
        let at : StandsIn T (start T) 0 J x = stands T J x among in
        let place = at.place in
        let size : length J ≡ length at.before + suc (length at.later) = ap (λ (xs : List Entry). length xs) at.parts
        ∙ length-append at.before (at.entry ∷ at.later) in
        omega (arith, place, size)

-- what passes lies in a memory, and so below the end
passes-fits : (x : Access) (off : ℕ) (o : Object) (right : ℕ) → x.base ≡ base_of o + off → Passes right off x.len o → IsValidObject o →
    x.base + x.len ≤ ADDRESSES
passes-fits x off (Mem base size rights) right from passes valid = let most = valid.3 in omega (arith, from, passes.0, most)
passes-fits x off (Recv slots) right from passes valid = absurd passes
passes-fits x off (Send gate label credits) right from passes valid = absurd passes
passes-fits x off (Serv name) right from passes valid = absurd passes
passes-fits x off (Sess service ident) right from passes valid = absurd passes

pub all-fit : (T : Setup) → IsSetup T → (J : List Entry) → IsSchedule T J → All (λ (x : Access). x.base + x.len ≤ ADDRESSES) (accesses T J)
all-fit T valid J runs = All-weaker (Contains (accesses T J)) (λ (x : Access). x.base + x.len ≤ ADDRESSES) fits (accesses T J)
    (All-contains_itself (accesses T J))
  where
    fits : (x : Access) → Contains (accesses T J) x → x.base + x.len ≤ ADDRESSES
    fits x among =
        let at : StandsIn T (start T) 0 J x = stands T J x among in
        let i : ℕ = at.entry.event.kernel in
        let W : World = world_after T at.before in
        let on = entry-enabled T at.before (start T) at.entry at.later (subst (IsSchedule T) at.parts runs) in
        let through : GoesThrough (side W i) x = entry-through T W x.entry at.entry x on.2 at.is in
        let sound : IsSound T i (side W i) = (schedule-sound T valid at.before on.0).sides i (enabled-kernel T W at.entry.event on.1) in
        let endpoint : IsSoundEndpoint T i x.vpe through.bound = sound.endpoints x.vpe through.number through.bound through.at_endpoint in
        passes-fits x through.offset through.bound.object (cond x.write 2 1) (ap (λ (y : Access). y.base) through.through) through.passes endpoint.object.0

pub in-order : (T : Setup) → IsSetup T → (J : List Entry) → IsSchedule T J → AreInOrder (accesses T J)
in-order T valid J runs = record { rise = all-rise T J (start T) 0; fit = all-fit T valid J runs }
