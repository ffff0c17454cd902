-- What a side of a kernel has to do with its kernel: what it holds is its own, and so are its VPEs.
use Rattle.std.proofs.Common.{◌≡◌, ◌≢◌, ℕ, ◌<◌, List, [], ◌∷◌, Option, Some, None, slice_get, sym, ◌∙◌, subst, arith}
use Rattle.std.specs.List.{Contains}
use Rattle.std.specs.Option.{option_map_or}
use Rattle.std.proofs.lemmas.Option.{same_Some}
use Rattle.sem_key.specs.declared.limits.TheConstants.{PES}
use Rattle.sem_key.specs.KeyName.{KeyName, key_eq}
use Rattle.sem_key.specs.Capability.{Capability}
use Rattle.sem_msg.specs.declared.setup.VpeDecl.{VpeDecl}
use Rattle.sem_msg.specs.declared.state.Ask.{Ask}
use Rattle.sem_msg.specs.declared.state.Ask.TheVariants.{Obtain as ObtainAsk, Delegate as DelegateAsk}
use Rattle.sem_msg.specs.declared.state.Parked.TheVariants.{DelegateReady}
use Rattle.sem_msg.specs.declared.entry.Entry.{Entry}
use Rattle.sem_msg.specs.Setup.{Setup, IsSetup}
use Rattle.sem_msg.specs.Lookups.{decl, pe_of, pe_owner, owner_of, place_owner, kernel_of}
use Rattle.sem_machine.specs.Sides.{Side, row, cap, parked}
use Rattle.sem_machine.specs.Machine.{side}
use Rattle.sem_machine.specs.Schedules.{IsSchedule, world_after}
use Rattle.sem_machine.specs.Sound.{IsSound, IsSoundAsk}
use Rattle.sem_key.proofs.Members.{Contains-head, found}
use Rattle.sem_sound.proofs.Named.{declared-kernel}
use Rattle.sem_sound.proofs.Scheduling.{schedule-sound}

-- a key of a VPE of kernel i
abbrev pub IsOfKernel : Setup → ℕ → KeyName → Type 0
IsOfKernel T i k = (owner_of T k ≡ i) × (kernel_of T k.vpe ≡ i)

-- a place that is asked for has the PE of its VPE
abbrev pub IsAddressed : Setup → Ask → Type 0
IsAddressed T (ObtainAsk place target) = place_owner T place ≡ kernel_of T place.vpe
IsAddressed T (DelegateAsk parent object sel) = Unit {0}

pub record IsAtHome (T : Setup) (i : ℕ) (s : Side) : Type 0 where
  pub held : (c : Capability) → Contains s.caps c → IsOfKernel T i c.key
  pub asks : (v : ℕ) (a : Ask) → slice_get (row s v).asks 0 ≡ Some a → IsAddressed T a
  -- what is delegated to another kernel
  pub offers : (v : ℕ) (parent key : KeyName) → parked s v ≡ Some (DelegateReady parent key) →
      (owner_of T parent ≡ i) × (owner_of T key ≢ i)

-- what is found under a key is of the kernel
pub held-home : (T : Setup) (i : ℕ) (s : Side) → ((c : Capability) → Contains s.caps c → IsOfKernel T i c.key) →
    (k : KeyName) (c : Capability) → cap s k ≡ Some c → IsOfKernel T i c.key
held-home T i s home k c some = home c (found (λ (x : Capability). key_eq x.key k) s.caps c some).0

-- the PE of a VPE of a kernel is one of that kernel
pub own-pe : (T : Setup) (v i : ℕ) → kernel_of T v ≡ i → i < T.kernels → pe_owner T (pe_of T v) ≡ i
own-pe T v i here within = from (decl T v) here
  where
    from : (o : Option VpeDecl) → option_map_or (λ (d : VpeDecl). pe_owner T d.pe) o T.kernels ≡ i →
        pe_owner T (option_map_or (λ (d : VpeDecl). d.pe) o PES) ≡ i
    from None none = absurd (omega (arith, none, within))
    from (Some d) same = same

-- After every schedule each side is at home: the stores are sound.
module _ (T : Setup) (valid : IsSetup T) where
  front-among : {X : Type 0} (xs : List X) (x : X) → slice_get xs 0 ≡ Some x → Contains xs x
  front-among [] x none = absurd cc
  front-among (y ∷ ys) x some = subst (Contains (y ∷ ys)) (same_Some y x some) (Contains-head y ys)

  pub all-home : (J : List Entry) → IsSchedule T J → (i : ℕ) → i < T.kernels → IsAtHome T i (side (world_after T J) i)
  all-home J runs i within = record {
    held = λ c among. let own' = (sound.caps c among).own in
        (own'.1, declared-kernel T c.key.pe c.key.vpe own'.0.1 ∙ own'.1);
    asks = λ v a front. asked-home a ((sound.rows v).asks a (front-among (row s v).asks a front));
    offers = λ v parent key at. let call = (sound.calls v (DelegateReady parent key) at).1 in (call.1.1, call.2.1);
  }
    where
      s : Side
      s = side (world_after T J) i

      sound : IsSound T i s
      sound = (schedule-sound T valid J runs).sides i within

      asked-home : (a : Ask) → IsSoundAsk T a → IsAddressed T a
      asked-home (ObtainAsk place target) is = sym (declared-kernel T place.pe place.vpe is.0.1)
      asked-home (DelegateAsk parent object sel) is = tt
