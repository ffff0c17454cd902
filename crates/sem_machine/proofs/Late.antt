-- When a finished job is taken out.
use Rattle.std.proofs.Common.{◌≡◌, ℕ, Bool, true, false, List, Option, Some, None, refl}
use Rattle.std.specs.Prelude.{if◌then◌else◌}
use Rattle.sem_key.specs.KeyName.{KeyName}
use Rattle.sem_msg.specs.declared.message.Message.TheVariants.{Unlink}
use Rattle.sem_msg.specs.declared.state.Up.{Up}
use Rattle.sem_msg.specs.declared.state.Up.TheVariants.{Local, Remote}
use Rattle.sem_msg.specs.Rows.{JobRow}
use Rattle.sem_msg.specs.Setup.{Setup}
use Rattle.sem_msg.specs.Lookups.{owner_of, is_local}
use Rattle.sem_machine.specs.Sides.{Side, unlinked, job_removed, send}
use Rattle.sem_machine.specs.Revokes.{swept, woken, parent_left, left_parent, closed_here}

-- A job may be taken out before or after it is closed here: all else that is done then writes no job.
late : (b : Bool) (f : Side → Side) (s t : Side) → (if b then f s else f t) ≡ f (if b then s else t)
late true f s t = refl
late false f s t = refl

left-late : (T : Setup) (i id count : ℕ) (root : KeyName) (up : Option Up) (waiters : List ℕ) (keep : Bool) (o : Option KeyName) (j : ℕ) (s : Side) →
    parent_left T i (record { id = id; root = root; up = up; waiters = waiters; count = count; keep = keep }) o (job_removed j s)
    ≡ job_removed j (parent_left T i (record { id = id; root = root; up = up; waiters = waiters; count = count; keep = keep }) o s)
left-late T i id count root up waiters keep None j s = refl
left-late T i id count root None waiters keep (Some p) j s = late (is_local T i p) (job_removed j) (unlinked p root s) (send (owner_of T p) (Unlink p root) s)
left-late T i id count root (Some (Local n)) waiters keep (Some p) j s =
    late (is_local T i p) (job_removed j) (unlinked p root s) (send (owner_of T p) (Unlink p root) s)
left-late T i id count root (Some (Remote kernel n)) waiters keep (Some p) j s = late (is_local T i p) (job_removed j) (unlinked p root s) s

pub closed_here-late : (T : Setup) (i : ℕ) (x : JobRow) (j : ℕ) (s : Side) → closed_here T i x (job_removed j s) ≡ job_removed j (closed_here T i x s)
unfolding closed_here
closed_here-late T i x j s = left-late T i x.id x.count x.root x.up x.waiters x.keep (left_parent s x) j (woken x.waiters (swept x s))
