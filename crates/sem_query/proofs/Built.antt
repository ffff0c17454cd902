-- The lives of all keys along a schedule.
use Rattle.std.proofs.Common.{◌≡◌, ℕ, suc, ◌+◌, ◌<◌, List, [], ◌∷◌, ◌++◌, length, map, take, drop, get_or, sym, ◌∙◌, ap, subst, arith}
use Rattle.std.proofs.lemmas.List.{take_more, take-append-drop, length-take-le}
use Rattle.std.proofs.Math.Seq.{drop-cons}
use Rattle.sem_key.specs.KeyName.{KeyName}
use Rattle.sem_msg.specs.declared.entry.Entry.{Entry}
use Rattle.sem_msg.specs.Setup.{Setup, IsSetup}
use Rattle.sem_machine.specs.Machine.{World, start}
use Rattle.sem_machine.specs.Schedules.{IsSchedule, world_after}
use Rattle.sem_safety.proofs.GoingOn.{run-append, run-prefix}
use Rattle.sem_kernel.specs.Worlds.{WorldValue}
use Rattle.sem_query.specs.Lives.{KeyLife}
use Rattle.sem_query.specs.Building.{life_so_far, followed, IsNextEntry, IsFollowed}
use Rattle.sem_query.proofs.Noting.{followed-is}

-- the world after some entries, with its setup
abbrev world_at : Setup → List Entry → WorldValue
world_at T J = record { setup = T; world = world_after T J }

-- It has come to the entry at a place.
module _ (T : Setup) (valid : IsSetup T) (J : List Entry) (runs : IsSchedule T J) (place : ℕ) (e : Entry) (within : place < length J) (there : e
    ≡ get_or J place e) where
  with-it : J ≡ take place J ++ e ∷ drop (suc place) J
  with-it = sym (ap (λ (xs : List Entry). take place J ++ xs) (sym (drop-cons J place e within ∙ ap (λ (x : Entry). x ∷ drop (suc place) J) (sym there)))
      ∙ take-append-drop place J)

  one-more : take (place + 1) J ≡ take place J ++ e ∷ []
  one-more = take_more J place e within ∙ ap (λ (x : Entry). take place J ++ x ∷ []) (sym there)

  count : length (take place J) ≡ place
  count = length-take-le place J (omega (arith, within))

  -- the lives go on with it
  pub next-lives : (now : WorldValue) → now ≡ world_at T (take place J) → (ks : List KeyName) (ls ls' : List KeyLife) →
      ls ≡ map (life_so_far T (take place J)) ks → IsFollowed T now.world place e ls ls' → ls' ≡ map (life_so_far T (take (place + 1) J)) ks
  next-lives now is ks ls ls' so_far follows =
      let W : World = world_after T (take place J) in
      let V : World = world_after T (take place J ++ e ∷ []) in
      let goes = subst (λ (w : WorldValue). IsFollowed T w.world place e ls ls') is follows in
      let moved : List KeyName = goes.0 in
      goes.2
      ∙ (ap (λ (U : World). followed T U place e moved ls) (sym (run-append T (take place J) (e ∷ []) (start T)))
      ∙ (ap (λ n. followed T V n e moved ls) (sym count)
      ∙ (ap (followed T V (length (take place J)) e moved) so_far
      ∙ (followed-is T valid J runs (take place J) (drop (suc place) J) e with-it moved goes.1 ks
      ∙ ap (λ K. map (life_so_far T K) ks) (sym one-more)))))

  -- the entry is the next one
  pub next-entry : (now : WorldValue) → now ≡ world_at T (take place J) → IsNextEntry T now.world e
  next-entry now is = record {
    before = take place J;
    world = ap (λ (w : WorldValue). w.world) is;
    runs = run-prefix T (take place J) (drop (suc place) J) e (start T) (subst (IsSchedule T) with-it runs);
  }
