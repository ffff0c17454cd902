-- What the entries of a journal count in all: the messages that were sent, and the grants from one kernel to another.
use Rattle.std.proofs.Common.{◌≡◌, ℕ, ◌+◌, ◌*◌, Bool, true, false, List, [], ◌∷◌, Option, Some, None, refl, ap}
use Rattle.std.proofs.Common.{arith}
use Rattle.std.specs.Prelude.{if◌then◌else◌, count_by}
use Rattle.std.specs.List.{sum_by}
use Rattle.std.proofs.lemmas.List.Sums.{sum_by-cons, sum_by-append}
use Rattle.sem_key.specs.KeyName.{KeyName}
use Rattle.sem_msg.specs.declared.entry.Entry.{Entry}
use Rattle.sem_msg.specs.declared.message.Message.{Message}
use Rattle.sem_msg.specs.Setup.{Setup, IsSetup}
use Rattle.sem_machine.specs.Journals.{grants}
use Rattle.sem_machine.specs.Schedules.{IsSchedule, world_after}
use Rattle.sem_machine.specs.Living.{IsIdle}
use Rattle.sem_safety.specs.Counts.{count_if}
use Rattle.sem_messages.specs.Messages.{sent_by, all_sent}
use Rattle.sem_messages.specs.Messages.{is_across, grants_across}
use Rattle.sem_messages.proofs.Tallies.{Tally}
use Rattle.sem_messages.proofs.Falling.{of_grant}
use Rattle.sem_messages.proofs.Keeping.{of_entry, of_flush}
use Rattle.sem_messages.proofs.Balancing.{IsBalanced, balanced}
use Rattle.sem_messages.proofs.Idle.{idle-none}
use Rattle.std.specs.List.{cons_option}
use Rattle.std.proofs.lemmas.List.Concat.{flat_map-cons}

-- Sums over entries.

-- what a message counts that is of the one kind or of the other
abbrev pub either : (Message → Bool) → (Message → Bool) → Message → ℕ
either a b m = count_if a m + count_if b m

abbrev pub nothing : Message → ℕ
nothing m = 0

pub sum-zero : {X : Type 0} (xs : List X) → sum_by (λ (x : X). 0) xs ≡ 0
sum-zero [] = refl
sum-zero (x ∷ xs) = let rest = sum-zero xs in let all = sum_by-cons (λ (y : _). 0) x xs in omega (arith, rest, all)

-- a grant counts if it goes from one kernel to another
abbrev pub across : Setup → ℕ → KeyName × KeyName → ℕ
across T g p = if is_across T p then g else 0

grant-more : (T : Setup) (g : ℕ) (o : Option (KeyName × KeyName)) (gs : List (KeyName × KeyName)) →
    sum_by (across T g) (cons_option o gs) ≡ of_grant T g o + sum_by (across T g) gs
grant-more T g None gs = omega arith
grant-more T g (Some p) gs = sum_by-cons (across T g) p gs

-- what all entries count
pub entries-count : (T : Setup) (L : Message → ℕ) (g : ℕ) (J : List Entry) →
    sum_by (of_entry T L g) J ≡ sum_by L (all_sent J) + sum_by (across T g) (grants J)
entries-count T L g [] = refl
entries-count T L g (e ∷ es) =
    let rest = entries-count T L g es in
    let all = sum_by-cons (of_entry T L g) e es in
    let more : sum_by (across T g) (grants (e ∷ es)) ≡ of_grant T g e.grant + sum_by (across T g) (grants es) =
    grant-more T g e.grant (grants es) in
    let list = ap (sum_by L) (flat_map-cons sent_by e es) in
    let parts = sum_by-append L (sent_by e) (all_sent es) in
    omega (arith, rest, all, more, list, parts)

each-across : (b : Bool) (g : ℕ) → (if b then g else 0) ≡ g * (if b then 1 else 0)
each-across true g = omega arith
each-across false g = omega arith

-- what all grants count
pub across-count : (T : Setup) (g : ℕ) (gs : List (KeyName × KeyName)) →
    sum_by (across T g) gs ≡ g * count_by (is_across T) gs
across-count T g [] = omega arith
across-count T g (p ∷ gs) =
    let rest = across-count T g gs in
    let one = each-across (is_across T p) g in
    simp sum_by-cons (omega (arith, rest, one))

-- What a sum that is kept says of an idle world.
module _ (T : Setup) (valid : IsSetup T) (J : List Entry) (runs : IsSchedule T J)
    (idle : IsIdle (world_after T J)) where
  pub settled-count : (P N : Tally) (g : ℕ) → IsBalanced P N g →
      sum_by (of_flush P N) (all_sent J) + g * grants_across T J ≡ sum_by (of_flush N P) (all_sent J)
  settled-count P N g B =
      let same = balanced P N g B T valid J runs in
      let p = idle-none T P B.settled.links.0 valid J runs idle in
      let n = idle-none T N B.settled.links.1 valid J runs idle in
      let l = entries-count T (of_flush P N) g J in
      let r = entries-count T (of_flush N P) 0 J in
      let some = across-count T g (grants J) in
      let none = across-count T 0 (grants J) in
      omega (arith, same, p, n, l, r, some, none)
