-- Accesses that are gathered entry by entry.
use Rattle.std.proofs.Common.{◌≡◌, ℕ, suc, ◌+◌, ◌<◌, true, List, [], ◌∷◌, ◌++◌, length, take, get_or, refl, sym, ◌∙◌, ap, arith}
use Rattle.std.specs.Option.{option_to_list}
use Rattle.std.proofs.lemmas.List.{append_assoc, append-nil, take_more, length-take-le}
use Rattle.sem_msg.specs.declared.entry.Entry.{Entry}
use Rattle.sem_msg.specs.Setup.{Setup, IsSetup}
use Rattle.sem_machine.specs.Machine.{World, start, after, is_enabled, entry_of}
use Rattle.sem_machine.specs.Schedules.{run, world_after}
use Rattle.sem_access.specs.declared.access.Access.{Access}
use Rattle.sem_access.specs.Accesses.{access_of, accesses_from, accesses}
use Rattle.sem_access.specs.Transfers.{transfer_of, access_by}
use Rattle.sem_access.proofs.Transferring.{access-made}

accesses-append : (T : Setup) (W : World) (n : ℕ) (xs ys : List Entry) →
    accesses_from T W n (xs ++ ys) ≡ accesses_from T W n xs ++ accesses_from T (run T W xs) (n + length xs) ys
unfolding accesses_from
accesses-append T W n [] ys = let same : n ≡ n + 0 = omega arith in ap (λ m. accesses_from T W m ys) same
accesses-append T W n (x ∷ xs) ys =
    let place : n + 1 + length xs ≡ n + suc (length xs) = omega arith in
    ap (λ zs. option_to_list (access_of W n x) ++ zs) (accesses-append T (after T W x.event) (n + 1) xs ys
    ∙ ap (λ m. accesses_from T (after T W x.event) (n + 1) xs ++ accesses_from T (run T W (x ∷ xs)) m ys) place)
    ∙ sym (append_assoc (option_to_list (access_of W n x)) (accesses_from T (after T W x.event) (n + 1) xs)
    (accesses_from T (run T W (x ∷ xs)) (n + suc (length xs)) ys))

accesses-one : (T : Setup) (W : World) (n : ℕ) (e : Entry) → accesses_from T W n (e ∷ []) ≡ option_to_list (access_of W n e)
unfolding accesses_from
accesses-one T W n e = append-nil (option_to_list (access_of W n e))

-- one entry more
accesses-more : (T : Setup) (J : List Entry) (e : Entry) → accesses T (J ++ e ∷ []) ≡ accesses T J ++ option_to_list (access_of (world_after T J) (length J) e)
accesses-more T J e =
    let place : 0 + length J ≡ length J = omega arith in
    accesses-append T (start T) 0 J (e ∷ [])
    ∙ ap (λ zs. accesses T J ++ zs) (ap (λ m. accesses_from T (world_after T J) m (e ∷ [])) place ∙ accesses-one T (world_after T J) (length J) e)

-- no entry has none
pub no-accesses : (T : Setup) → [] ≡ accesses T []
unfolding accesses_from
no-accesses T = refl

-- the next entry of a schedule adds the access of what it reads or writes
pub gather-more : (T : Setup) → IsSetup T → (J : List Entry) (n : ℕ) (x : Entry) → n < length J → x ≡ get_or J n x
    → is_enabled T (world_after T (take n J)) x.event ≡ true → x ≡ entry_of T (world_after T (take n J)) x.event
    → (found : List Access) → found ≡ accesses T (take n J)
    → found ++ option_to_list (access_by T (world_after T (take n J)) n (transfer_of x)) ≡ accesses T (take (n + 1) J)
gather-more T valid J n x within at enabled made found is =
    let W : World = world_after T (take n J) in
    let place : length (take n J) ≡ n = length-take-le n J (omega (arith, within)) in
    let next : take (n + 1) J ≡ take n J ++ x ∷ [] = take_more J n x within ∙ ap (λ (y : Entry). take n J ++ y ∷ []) (sym at) in
    ap (λ (xs : List Access). xs ++ option_to_list (access_by T W n (transfer_of x))) is
    ∙ (ap (λ o. accesses T (take n J) ++ option_to_list o) (access-made T valid W x enabled made n)
    ∙ sym (ap (accesses T) next ∙ (accesses-more T (take n J) x ∙ ap (λ m. accesses T (take n J) ++ option_to_list (access_of W m x)) place)))
