-- What the laws say of a setup and a journal.
use Rattle.std.specs.Prelude.{◌≡◌, ℕ, ◌+◌, ◌*◌, ◌≤◌, ◌<◌, ◌↔◌, List, ◌++◌, length, map, take, Contains, IsSome}
use Rattle.sem_machine.specs.Prelude.{KeyName, Entry, Setup, IsSetup, part, replies, side, link, IsSchedule}
use Rattle.sem_machine.specs.Prelude.{world_after, made}
use Rattle.sem_key.specs.KeyList.{IsRising}
use Rattle.sem_msg.specs.Setup.{call_count, kill_count}
use Rattle.sem_msg.specs.Journal.{flushed, fetched}
use Rattle.sem_machine.specs.Schedules.{local_run}
use Rattle.sem_machine.specs.Living.{IsQuiet, IsIdle}
use Rattle.sem_machine.specs.Seeded.{entry_limit}
use Rattle.sem_bound.specs.Counts.{calls_made, kills_made}
use Rattle.sem_bound.specs.Costs.{costs_made, costs_declared}
use Rattle.sem_messages.specs.Messages.{all_sent, messages_made, grants_across, grants_told}
use Rattle.sem_messages.specs.Messages.{IsAnswered, count_sent, is_revoke_req}
use Rattle.sem_revoke.specs.Resting.{IsAtRest}
use Rattle.sem_parts.specs.Parts.{AreParts}
use Rattle.sem_query.specs.Whereabouts.{IsThere}
use Rattle.sem_query.specs.Lives.{life, lives, told_of}
use Rattle.sem_query.specs.Denials.{IsDenied}

-- the world after the journal is at rest if it is idle
abbrev pub RestsWhenIdle : Setup → List Entry → Type 0
RestsWhenIdle T J = IsIdle (world_after T J) → IsAtRest T J (world_after T J)

-- at most 21 entries for each call and one for each kill, and nothing is enabled after as many as a
-- run may have
pub record IsWithinBound (T : Setup) (J : List Entry) : Type 0 where
  pub by_journal : length J ≤ 21 * calls_made J + kills_made J
  pub by_setup : length J ≤ 21 * call_count T + kill_count T
  pub spent : entry_limit T ≤ length J → IsQuiet T (world_after T J)

-- at most what its calls can bring, each by its kind, and one entry for each kill
pub record IsPaidByCalls (T : Setup) (J : List Entry) : Type 0 where
  pub by_journal : length J ≤ costs_made T J + kills_made J
  pub by_setup : length J ≤ costs_declared T + kill_count T

-- if the world after the journal is idle, as many replies were sent as requests, kind by kind, and
-- as many messages tell of a grant across kernels as there were such grants; the number of messages
-- then follows from the requests and notices; idle or not, there were no more requests to revoke
-- than grants across kernels
pub record CountsMessages (T : Setup) (J : List Entry) : Type 0 where
  pub answered : IsIdle (world_after T J) → IsAnswered J
  pub told : IsIdle (world_after T J) → grants_across T J ≡ grants_told J
  pub counted : IsIdle (world_after T J) → length (all_sent J) ≡ messages_made J
  pub few_revokes : count_sent is_revoke_req J ≤ grants_across T J

-- a schedule exactly if its parts are local runs that agree
abbrev pub IsScheduleByParts : Setup → List Entry → Type 0
IsScheduleByParts T J = IsSchedule T J ↔ AreParts T J

-- the parts tell the world after the journal: local runs the sides, and the flushed and not fetched
-- messages the links
pub record IsToldByParts (T : Setup) (J : List Entry) : Type 0 where
  pub sides : (i : ℕ) → i < T.kernels → side (world_after T J) i ≡ local_run T i (part J i)
  pub links : (i j : ℕ) → flushed J i j ≡ fetched J i j ++ link (world_after T J) i j
  pub replies : (world_after T J).replies ≡ length (replies J)

-- the setup has a window of 4; as one of version 2 it is a setup too, and has the same schedules
pub record RunsAsSecondVersion (T : Setup) : Type 0 where
  pub window : T.window ≡ 4
  pub setup : IsSetup (record T { version = 2 })
  pub same : (J : List Entry) → IsSchedule T J ↔ IsSchedule (record T { version = 2 }) J

-- the made keys have lives, in rising order, and no other key has one; after each number of entries
-- each key is where its life tells
pub record IsToldByLives (T : Setup) (J : List Entry) : Type 0 where
  pub of_made : (k : KeyName) → Contains (made T J) k → IsSome (life T J k)
  pub no_other : (k : KeyName) → IsSome (life T J k) → Contains (made T J) k
  pub rising : IsRising (map (λ l. l.key) (lives T J))
  pub there : (k : KeyName) (n : ℕ) → n ≤ length J
      → IsThere (world_after T (take n J)) k (told_of (lives T J) k n)

-- there is exactly one answer to the question why an entry denies a call
pub record IsExplained (T : Setup) (J : List Entry) : Type 0 where
  pub answer : (n : ℕ) → (text : List ℕ) × IsDenied T J n text
  pub one : (n : ℕ) (text other : List ℕ) → IsDenied T J n text → IsDenied T J n other
      → text ≡ other
