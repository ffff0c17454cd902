-- A sound side has few jobs.
use Rattle.std.proofs.Common.{ℕ, suc, ◌+◌, ◌<◌, ◌≤◌, List, [], ◌∷◌, length, None, subst, arith}
use Rattle.std.specs.List.{AllPairs, Contains}
use Rattle.sem_key.proofs.Members.{Contains-head, Contains-tail}
use Rattle.sem_msg.specs.Rows.{JobRow}
use Rattle.sem_msg.specs.Setup.{Setup, IsSetup}
use Rattle.sem_machine.specs.Sides.{Side}
use Rattle.sem_machine.specs.Sound.{IsSound}
use Rattle.sem_sound.proofs.Opening.{next-job}

-- no more jobs with rising ids than ids
few-rising : (xs : List JobRow) (low next : ℕ) → AllPairs (λ (a b : JobRow). a.id < b.id) xs → ((x : JobRow) → Contains xs x → low ≤ x.id) →
    ((x : JobRow) → Contains xs x → x.id < next) → low ≤ next → low + length xs ≤ next
few-rising [] low next rise above below ordered = omega (arith, ordered)
few-rising (x ∷ xs) low next rise above below ordered =
    let here : low ≤ x.id = above x (Contains-head x xs) in
    let there : x.id < next = below x (Contains-head x xs) in
    let rest : x.id + 1 + length xs ≤ next =
    few-rising xs (x.id + 1) next (λ a b d lt within. rise (suc a) (suc b) d (omega (arith, lt)) (omega (arith, within)))
    (λ y among. let more : x.id < y.id = after y among in omega (arith, more))
    (λ y among. below y (Contains-tail x xs y among)) (omega (arith, there)) in
    omega (arith, here, rest)
  where
    after : (y : JobRow) → Contains xs y → x.id < y.id
    after y among = subst (λ (z : JobRow). x.id < z.id) among.2 (rise 0 (suc among.0) y (omega arith) (let w = among.1 in omega (arith, w)))

pub few-jobs : (T : Setup) → IsSetup T → (i : ℕ) (s : Side) → IsSound T i s → length s.jobs ≤ 3084288
few-jobs T valid i s is =
    let next = next-job T valid i None None None None s is in
    let few = few-rising s.jobs 0 s.next_job is.jobs_rise (λ x among. omega arith) is.ids_drawn (omega arith) in
    omega (arith, next, few)
