-- The fabric at the start of a run agrees with its empty journal.
use Rattle.std.proofs.Common.{◌≡◌, ℕ, zero, suc, List, [], get_or, replicate, refl, sym, arith}
use Rattle.sem_msg.specs.declared.message.Message.{Message}
use Rattle.sem_msg.specs.Setup.{Setup}
use Rattle.sem_msg.specs.Fabric.{FabricAgrees, link_in}
use Rattle.sem_msg.proofs.Agreeing.{agrees-none}
use Rattle.sem_fabric.specs.Fabrics.{new_fabric}

-- nothing stands in a link of empty ones
no_message : (n j : ℕ) → get_or (replicate {A = List Message} n []) j [] ≡ []
no_message zero j = refl
no_message (suc n) zero = refl
no_message (suc n) (suc j) = no_message n j

pub no_link : (m n i j : ℕ) → link_in (replicate m (replicate n [])) i j ≡ []
no_link zero n i j = refl
no_link (suc m) n zero j = no_message n j
no_link (suc m) n (suc i) j = no_link m n i j

pub agrees-new : (T : Setup) → FabricAgrees T (new_fabric T)
agrees-new T = record {
  same_kernels = refl;
  same_window = refl;
  same_kills = refl;
  owned = λ k d lt. absurd (omega (arith, lt));
  agrees = agrees-none T;
  linked = λ i j. sym (no_link T.kernels T.kernels i j);
}
