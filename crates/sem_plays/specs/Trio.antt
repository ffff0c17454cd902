-- A small trace for lone steps: VPEs 0 and 2 at kernel 0, VPE 1 at kernel 1, and a service of VPE
-- 2.
use Rattle.std.specs.Prelude.{ℕ, true, false, Some, None, [], ◌∷◌, replicate}
use Rattle.sem_machine.specs.Prelude.{MemKind, RecvKind, ServKind, SessKind, Mem, Recv, Serv, Sess, Derive, Revoke}
use Rattle.sem_machine.specs.Prelude.{Clear, RevokeDone, SelTarget, Ask, ObtainAsk, ObtainWait, DelegateWait}
use Rattle.sem_machine.specs.Prelude.{RevokeWait, Setup, Side, start_side}
use Rattle.sem_machine.specs.Sides.{with_row, parked_as, buried, installed, promised, linked, mark_all, job_opened}
use Rattle.sem_machine.specs.Calls.{call_row}
use Rattle.sem_machine.specs.Handles.{handled}
use Rattle.sem_plays.specs.Words.{key, place, owners, root, vpe, service, offer}

unfoldable pub trio : Setup
trio = record {
  version = 1;
  window = 4;
  kernels = 2;
  owners = owners 2 (Some 0 ∷ Some 1 ∷ Some 0 ∷ []);
  vpes =
      vpe 0 0 (root 0 (Mem 0 4096 7) ∷ []) (Derive 0 1 0 1 1 ∷ Revoke 0 ∷ [])
      ∷ vpe 1 1 (root 0 (Mem 4096 4096 7) ∷ []) []
      ∷ vpe 2 2 (root 0 (Serv 7) ∷ root 1 (Recv 4) ∷ []) []
      ∷ [];
  services = service 7 (key 2 2 ServKind 0) ∷ [];
  offers = offer 7 0 1 ∷ [];
  denies = [];
  kills = (2, 0) ∷ [];
}

-- kernel 0 at the start
unfoldable pub zero_side : Side
zero_side = start_side trio 0

-- the same, after VPE 0 has drawn that many numbers
unfoldable pub numbered : ℕ → Side
numbered n = with_row 0 (λ r. record r { next_number = n }) zero_side

-- the same, while VPE 0 waits for an obtain under number 1 at selector 3
unfoldable pub obtaining : Side
obtaining = parked_as 0 (ObtainWait 1 3) (promised 0 3 zero_side)

-- the same, while VPE 0 waits for the answer to a delegate of its root
unfoldable pub delegating : Side
delegating = parked_as 0 (DelegateWait (key 0 0 MemKind 0)) zero_side

-- what VPE 1 asks of VPE 0
abbrev pub an_ask : Ask
an_ask = ObtainAsk (place 1 1 1) (SelTarget 0 0)

-- that many asks wait for VPE 0
unfoldable pub asked_often : ℕ → Side
asked_often n = with_row 0 (λ r. record r { asks = replicate n an_ask }) zero_side

-- VPE 0 has a session with the service of VPE 2, which is dead
unfoldable pub bereft : Side
bereft = buried 2
    (installed (key 0 0 SessKind 1) (Some (key 2 2 ServKind 0)) 5 (Sess (key 2 2 ServKind 0) 0) zero_side)

-- VPE 1 has a child of the root of VPE 0
unfoldable pub giving : Side
giving = linked (key 0 0 MemKind 0) (key 1 1 MemKind 1) zero_side

-- the same, while VPE 0 clears its root
unfoldable pub clearing : Side
clearing = (call_row trio 0 giving 0 (Clear 0)).side

-- the same, after the clear has ended
unfoldable pub cleared : Side
cleared = handled trio 0 clearing 1 (RevokeDone 0)

-- VPE 0 waits for job 1, which revokes the gate of VPE 2, while job 0 keeps the root of VPE 0
unfoldable pub waiting_for_another : Side
waiting_for_another =
    parked_as 0 (RevokeWait 1)
    (job_opened (key 2 2 RecvKind 1) None (0 ∷ []) false
    (job_opened (key 0 0 MemKind 0) None [] true
    (mark_all (key 2 2 RecvKind 1 ∷ []) 1 (mark_all (key 0 0 MemKind 0 ∷ []) 0 zero_side))))
