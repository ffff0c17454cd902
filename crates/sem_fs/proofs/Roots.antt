-- The server keeps the service and all extents, at their selectors and unmarked.
use Rattle.std.proofs.Common.{◌≡◌, ℕ, zero, suc, List, [], length, Option, Some, None, refl, sym, ap, ◌∙◌, subst, inl, inr}
use Rattle.std.specs.List.{Contains}
use Rattle.std.specs.Option.{option_map_or, IsSome}
use Rattle.std.proofs.lemmas.Bool.{true≢false}
use Rattle.sem_key.specs.KeyName.{KeyName}
use Rattle.sem_key.specs.Capability.{Capability}
use Rattle.sem_key.proofs.Members.{Contains-nil, Contains-cons_cases}
use Rattle.sem_msg.specs.declared.entry.Entry.{Entry}
use Rattle.sem_msg.specs.declared.state.Parked.{Parked}
use Rattle.sem_msg.specs.declared.state.Parked.TheVariants.{RevokeWait}
use Rattle.sem_msg.specs.Setup.{Setup}
use Rattle.sem_msg.specs.Lookups.{kernel_of}
use Rattle.sem_machine.specs.Sides.{cap, parked}
use Rattle.sem_machine.specs.Machine.{World, side, start}
use Rattle.sem_machine.specs.Schedules.{IsSchedule, world_after}
use Rattle.sem_machine.specs.Journals.{grants, root_keys, ancestry_in, parent_in, cut_from}
use Rattle.sem_machine.specs.Living.{HoldsCap}
use Rattle.sem_safety.proofs.FirstCaps.{root-held}
use Rattle.sem_revoke.specs.Revocation.{IsDoomed}
use Rattle.sem_revoke.proofs.Dooming.{mark-doomed}
use Rattle.sem_revoke.proofs.Lasting.{held-lasts}
use Rattle.sem_revoke.proofs.Served.{keepers-waited_for}
use Rattle.sem_files.specs.Compiled.{SERVER}
use Rattle.sem_fs.specs.Service.{IsService}
use Rattle.sem_fs.specs.Holding.{home}
use Rattle.sem_fs.proofs.Unending.{no-end}
use Rattle.sem_fs.proofs.Sparing.{top, server-rests}

module _ (T : Setup) (S : IsService T) (J : List Entry) (runs : IsSchedule T J) where
  abbrev W : World
  W = world_after T J

  alone : (k : KeyName) → parent_in (grants J) k ≡ None → (n : ℕ) (a : KeyName) → Contains (ancestry_in n (grants J) k) a → a ≡ k
  unfolding ancestry_in
  alone k none zero a among = elim (Contains-cons_cases k [] a among) [ inl same ↦ sym same | inr no' ↦ absurd (Contains-nil a no') ]
  alone k none (suc m) a among = elim (Contains-cons_cases k (option_map_or (ancestry_in m (grants J)) (parent_in (grants J) k) []) a among) [
    | inl same ↦ sym same
    | inr rest ↦ absurd (Contains-nil a (subst (λ o. Contains (option_map_or (ancestry_in m (grants J)) o []) a) none rest))
  ]

  undoomed : (k : KeyName) → Contains (root_keys T) k → (Contains (cut_from [] J) k → ⊥) → IsDoomed J k → ⊥
  undoomed k root uncut (a, among, cut) = elim cut [
    | inr ended ↦ true≢false (sym ended ∙ no-end T S J runs a.vpe)
    | inl cut_off ↦ uncut (subst (Contains (cut_from [] J)) (alone k (top T S J runs k root) (length J) a among) cut_off)
  ]

  -- a root that was not cut off is held, and not marked
  pub root-there : (k : KeyName) → Contains (root_keys T) k → (Contains (cut_from [] J) k → ⊥) → (c : Capability) × HoldsCap W (kernel_of T SERVER) k c
      × (c.mark ≡ None)
  root-there k root uncut = from (cap (side (start T) (kernel_of T SERVER)) k) refl
    where
      at-start : IsSome (cap (side (start T) (kernel_of T SERVER)) k)
      at-start = subst (λ v. IsSome (cap (side (start T) (kernel_of T v)) k)) (S.roots k root) (root-held T S.setup k root)

      unmarked : (c : Capability) → HoldsCap W (kernel_of T SERVER) k c → (m : Option ℕ) → c.mark ≡ m → c.mark ≡ None
      unmarked c held None none = none
      unmarked c held (Some n) marked = elim (mark-doomed T S.setup J runs (kernel_of T SERVER) n k c held marked) [
        | inl doomed ↦ absurd (undoomed k root uncut doomed)
        | inr (x, open_, same, keeps) ↦
            let waits : parked (home T W SERVER) SERVER ≡ Some (RevokeWait n) =
            ap (parked (side W (kernel_of T SERVER))) (sym (ap (λ (q : KeyName). q.vpe) same ∙ S.roots k root))
            ∙ keepers-waited_for T S.setup J runs (kernel_of T SERVER) n x open_ keeps in
            let no' : ◌≡◌ {A = Option Parked} None (Some (RevokeWait n)) = sym (server-rests T S J runs) ∙ waits in
            absurd cc
      ]

      from : (o : Option Capability) → cap (side (start T) (kernel_of T SERVER)) k ≡ o → (c : Capability) × HoldsCap W (kernel_of T SERVER) k c
          × (c.mark ≡ None)
      from None none = let no' = subst IsSome none at-start in absurd (true≢false (sym no'))
      from (Some c0) some = elim (held-lasts T S.setup J runs [] J (kernel_of T SERVER) k c0 refl some) [
        | inl (c, held) ↦ (c, held, unmarked c held c.mark refl)
        | inr doomed ↦ absurd (undoomed k root uncut doomed)
      ]
