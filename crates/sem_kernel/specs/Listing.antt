-- The rows of the list of enabled events.
use Rattle.std.specs.Prelude.{◌≡◌, ℕ, ◌<◌, ◌==◌, Bool, ◌&&◌, not, List, filter, map}
use Rattle.std.specs.List.{range_with_len}
use Rattle.sem_key.specs.declared.limits.TheConstants.{KERNELS, VPES}
use Rattle.sem_machine.specs.Prelude.{Act, Calls as Call, Fetch, Upcall, Resume, Flush, Event, Setup, Side, World}
use Rattle.sem_machine.specs.Prelude.{is_enabled, is_locally_enabled, FabricValue}
use Rattle.sem_msg.specs.Masks.{has_bit}
use Rattle.sem_machine.specs.Machine.{kernel_events, event}
use Rattle.sem_kernel.specs.KernelValue.{KernelValue}
use Rattle.sem_kernel.specs.Worlds.{AreKernelsOf}
use Rattle.sem_kernel.specs.declared.enabling.VpeActs.{VpeActs}
use Rattle.sem_kernel.specs.declared.listing.VpeRow.{VpeRow}
use Rattle.sem_kernel.specs.declared.listing.VpeRow.TheVariants.{Calls, Resumes, Upcalls}
use Rattle.sem_kernel.specs.declared.listing.PeerRow.{PeerRow}
use Rattle.sem_kernel.specs.declared.listing.PeerRow.TheVariants.{Fetches, Flushes}

-- the enabled ones of those events
abbrev pub enabled_among : Setup → World → List Event → List Event
enabled_among T W events = filter (is_enabled T W) events

-- the enabled events of kernel i, in order
abbrev pub enabled_of : Setup → World → ℕ → List Event
enabled_of T W i = enabled_among T W (kernel_events T i)

-- the act of a row for a VPE
abbrev pub vpe_act : VpeRow → ℕ → Act
vpe_act Calls v = Call v
vpe_act Resumes v = Resume v
vpe_act Upcalls v = Upcall v

-- these acts of VPE v are enabled, as far as the side of kernel i tells
pub record AreVpeActs (T : Setup) (i : ℕ) (s : Side) (v : ℕ) (acts : VpeActs) : Type 0 where
  pub call : acts.call ≡ is_locally_enabled T i s (Call v)
  pub resume : acts.resume ≡ is_locally_enabled T i s (Resume v)
  pub upcall : acts.upcall ≡ is_locally_enabled T i s (Upcall v)

-- the enabled events of a row of kernel i
abbrev pub enabled_in : Setup → World → ℕ → VpeRow → List Event
enabled_in T W i row = enabled_among T W (map (λ d. event i (vpe_act row d.vpe)) T.vpes)

-- the mask has a bit for each VPE that passes the test, and for no other
abbrev pub IsVpeMaskOf : (ℕ → Bool) → ℕ → Type 0
IsVpeMaskOf test mask = (v : ℕ) → v < VPES → has_bit mask v ≡ test v

-- the VPEs for which the mask has a bit, in rising order
unfoldable pub vpes_in : ℕ → List ℕ
vpes_in mask = filter (has_bit mask) (range_with_len 0 VPES)

-- the events of a row of kernel i for those VPEs
abbrev pub vpe_events : ℕ → VpeRow → ℕ → List Event
vpe_events i row mask = map (λ v. event i (vpe_act row v)) (vpes_in mask)

-- kernels and fabric are those of the setup, and kernel i is one of them
pub record IsKernelAmong (T : Setup) (ks : List KernelValue) (f : FabricValue) (i : ℕ) : Type 0 where
  pub together : AreKernelsOf T ks f
  pub few : i < T.kernels

-- the act of a row for another kernel
abbrev pub peer_act : PeerRow → ℕ → Act
peer_act Fetches j = Fetch j
peer_act Flushes j = Flush j

-- the enabled events of a row of kernel i for other kernels
abbrev pub enabled_peers : Setup → World → ℕ → PeerRow → List Event
enabled_peers T W i row = enabled_among T W (map (λ j. event i (peer_act row j)) (range_with_len 0 T.kernels))

-- the kernels other than kernel i for which the mask has a bit, in rising order
abbrev pub others_in : ℕ → ℕ → List ℕ
others_in mask i = filter (λ j. not (j == i) && has_bit mask j) (range_with_len 0 KERNELS)
