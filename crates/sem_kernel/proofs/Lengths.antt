-- What opening a job leaves of the lists of a side.
use Rattle.std.proofs.Common.{◌≡◌, ℕ, ◌+◌, Bool, false, List, [], ◌∷◌, ◌++◌, length, Option, Some, None, refl, ◌∙◌, arith, if◌then◌else◌}
use Rattle.std.specs.Prelude.{◌==◌}
use Rattle.std.proofs.lemmas.Bool.{cond_both}
use Rattle.std.proofs.lemmas.List.{length-map}
use Rattle.sem_key.specs.KeyName.{KeyName}
use Rattle.sem_key.specs.Lists.{change}
use Rattle.sem_key.specs.Region.{region, all_marked}
use Rattle.sem_msg.specs.declared.state.Up.{Up}
use Rattle.sem_msg.specs.declared.message.Message.TheVariants.{RevokeReq}
use Rattle.sem_msg.specs.Rows.{JobRow}
use Rattle.sem_msg.specs.JobRows.{count_raised as jobs_raised, with_up as jobs_up}
use Rattle.sem_msg.specs.declared.state.Up.TheVariants.{Local}
use Rattle.sem_msg.specs.Setup.{Setup}
use Rattle.sem_msg.specs.Lookups.{is_local, owner_of}
use Rattle.sem_machine.specs.Sides.{Side, cap, send}
use Rattle.sem_machine.specs.Revokes.{opened, request_or_adopt, adopted, other_marker, count_raised}
use Rattle.sem_machine.proofs.Folds.{in_turn-keeps}

changed-length : {X : Type 0} (test : X → Bool) (f : X → X) (xs : List X) → length (change test f xs) ≡ length xs
changed-length test f xs = length-map xs (λ x. if test x then f x else x)

push-length : {X : Type 0} (xs : List X) (x : X) → length (xs ++ x ∷ []) ≡ length xs + 1
push-length [] x = refl
push-length (y ∷ xs) x = let rest = push-length xs x in omega (arith, rest)

-- a request or an adoption leaves the capabilities, and as many jobs
module _ (T : Setup) (i j : ℕ) (n : ℕ) where
  abbrev As : List JobRow → Type 0
  As xs = length xs ≡ n

  raised-as : (xs : List JobRow) → As xs → As (jobs_raised j xs)
  raised-as xs here = changed-length (λ (x : JobRow). x.id == j) (λ x. record x { count = x.count + 1 }) xs ∙ here

  adopted-as : (o : Option ℕ) (t : Side) → As t.jobs → As (adopted j o t).jobs
  adopted-as None t here = here
  adopted-as (Some m) t here =
      raised-as (jobs_up (Local j) m t.jobs) (changed-length (λ (x : JobRow). x.id == m) (λ x. record x { up = Some (Local j); keep = false }) t.jobs ∙ here)

  requested-as : (k : KeyName) (t : Side) → As t.jobs → As (request_or_adopt T i j k t).jobs
  requested-as k t here = cond_both (is_local T i k) (adopted j (other_marker j (cap t k)) t) (count_raised j (send (owner_of T k) (RevokeReq k j) t))
      (λ u. As u.jobs) (λ _. adopted-as (other_marker j (cap t k)) t here) (λ _. raised-as t.jobs here)

module _ (T : Setup) (i : ℕ) where
  -- one job more is open
  pub opened-jobs : (root : KeyName) (up : Option Up) (ws : List ℕ) (keep : Bool) (s : Side) → length (opened T i root up ws keep s).jobs ≡ length s.jobs + 1
  unfolding opened
  opened-jobs root up ws keep s = in_turn-keeps (λ t. length t.jobs ≡ length s.jobs + 1) (request_or_adopt T i s.next_job)
      (requested-as T i s.next_job (length s.jobs + 1)) _ _ (push-length s.jobs _)

  -- the region is marked
  pub opened-caps : (root : KeyName) (up : Option Up) (ws : List ℕ) (keep : Bool) (s : Side) →
      (opened T i root up ws keep s).caps ≡ all_marked (region s.caps root) s.next_job s.caps
  unfolding opened
  opened-caps root up ws keep s = in_turn-keeps (λ t. t.caps ≡ all_marked (region s.caps root) s.next_job s.caps) (request_or_adopt T i s.next_job) same _ _
      refl
    where
      adopts : (j : ℕ) (o : Option ℕ) (t : Side) → t.caps ≡ all_marked (region s.caps root) s.next_job s.caps →
          (adopted j o t).caps ≡ all_marked (region s.caps root) s.next_job s.caps
      adopts j None t here = here
      adopts j (Some m) t here = here

      same : (k : KeyName) (t : Side) → t.caps ≡ all_marked (region s.caps root) s.next_job s.caps →
          (request_or_adopt T i s.next_job k t).caps ≡ all_marked (region s.caps root) s.next_job s.caps
      same k t here = cond_both (is_local T i k) (adopted s.next_job (other_marker s.next_job (cap t k)) t)
          (count_raised s.next_job (send (owner_of T k) (RevokeReq k s.next_job) t)) (λ u. u.caps ≡ all_marked (region s.caps root) s.next_job s.caps)
          (λ _. adopts s.next_job (other_marker s.next_job (cap t k)) t here) (λ _. here)
