-- In a file service no VPE ends.
use Rattle.std.proofs.Common.{◌≡◌, ℕ, true, false, List, [], ◌∷◌, ◌++◌, Option, Some, None, is_some, slice_get, take, refl, sym, ap, ◌∙◌, subst, inl, inr}
use Rattle.std.specs.Prelude.{◌==◌, ◌&&◌}
use Rattle.std.specs.List.{Contains, find}
use Rattle.std.specs.Option.{option_map, option_map_or}
use Rattle.std.proofs.lemmas.Bool.{false_from_ne_true, and_parts}
use Rattle.sem_key.proofs.Members.{Contains-nil, Contains-cons_cases, list_any-some}
use Rattle.sem_msg.specs.declared.call.Call.{Call}
use Rattle.sem_msg.specs.declared.call.Call.TheVariants.{Derive, Gate, Obtain, Delegate, OpenSession, AskOffer, Revoke, Bind, Read as ReadCall}
use Rattle.sem_msg.specs.declared.call.Call.TheVariants.{Write as WriteCall, Send as SendCall, Credit, Exit, Clear}
use Rattle.sem_msg.specs.declared.entry.Detail.{Detail}
use Rattle.sem_msg.specs.declared.entry.Detail.TheVariants.{Called, Nothing}
use Rattle.sem_msg.specs.declared.entry.Entry.{Entry}
use Rattle.sem_msg.specs.declared.event.Act.{Act}
use Rattle.sem_msg.specs.declared.event.Act.TheVariants.{Call as Calls, Fetch, Handle, Upcall, Resume, Flush, Kill}
use Rattle.sem_msg.specs.Setup.{Setup}
use Rattle.sem_msg.specs.Lookups.{calls_of, kernel_of}
use Rattle.sem_msg.specs.Journal.{kill_number}
use Rattle.sem_machine.specs.Sides.{Side, row, is_alive}
use Rattle.sem_safety.proofs.CarryingWorlds.{stepped}
use Rattle.sem_machine.specs.Machine.{World, side, detail_of, input_of, start, next_call, is_enabled, is_locally_enabled, entry_of}
use Rattle.sem_machine.specs.Schedules.{IsSchedule, world_after}
use Rattle.sem_machine.specs.Journals.{ends, has_ended}
use Rattle.sem_safety.proofs.GoingOn.{entry-enabled}
use Rattle.sem_revoke.proofs.Revoking.{enabled-parts}
use Rattle.sem_revoke.proofs.Serving.{tells}
use Rattle.sem_fs.specs.Service.{IsService, MayComeNext}

-- an element stands somewhere in its list
pub parted : {X : Type 0} (xs : List X) (x : X) → Contains xs x → (before : List X) × (later : List X) × (xs ≡ before ++ x ∷ later)
parted [] x among = absurd (Contains-nil x among)
parted (y ∷ ys) x among = elim (Contains-cons_cases y ys x among) [
  | inl same ↦ ([], ys, ap (λ z. z ∷ ys) same)
  | inr rest ↦ let at = parted ys x rest in (y ∷ at.0, at.1, ap (λ zs. y ∷ zs) at.2)
]

-- an entry of a schedule is made by an event that is enabled then
pub entered : (T : Setup) (before later : List Entry) (e : Entry) → IsSchedule T (before ++ e ∷ later) → IsSchedule T before
    × (is_enabled T (world_after T before) e.event ≡ true) × (e ≡ entry_of T (world_after T before) e.event)
entered T before later e runs = entry-enabled T before (start T) e later runs

module _ (T : Setup) (S : IsService T) where
  no-exit : (v n : ℕ) (c : Call) → slice_get (calls_of T v) n ≡ Some c → c ≡ Exit → ⊥
  no-exit v n c at same = subst (MayComeNext T v (take n (calls_of T v))) same (S.calls v n c at)

  -- nobody is killed
  pub no-kill : (i : ℕ) (s : Side) (w : ℕ) → is_locally_enabled T i s (Kill w) ≡ true → ⊥
  unfolding is_locally_enabled
  no-kill i s w enabled =
      let due = (and_parts (is_alive s w) (is_some (kill_number T w)) (and_parts (kernel_of T w == i) (is_alive s w && is_some (kill_number T w)) enabled).1).1
      in
      let none : kill_number T w ≡ None = ap (λ ks. option_map (λ (k : ℕ × ℕ). k.1) (find (λ (k : ℕ × ℕ). k.0 == w) ks)) S.no_kills in
      let no' : false ≡ true = sym (ap is_some none) ∙ due in
      absurd cc

  -- no act ends a VPE
  act-goes-on : (i v : ℕ) (s : Side) (a : Act) (d : Detail) → is_locally_enabled T i s a ≡ true
      → ((w : ℕ) → a ≡ Calls w → d ≡ option_map_or (λ call. Called (row s w).next_call call) (next_call T s w) Nothing) → ends v a d ≡ true → ⊥
  unfolding is_locally_enabled
  act-goes-on i v s (Calls w) d enabled told is = from (next_call T s w) refl
    where
      by_call : (c : Call) → next_call T s w ≡ Some c → ends v (Calls w) (Called (row s w).next_call c) ≡ true → ⊥
      by_call (Derive src dst off len rights) at is = absurd cc
      by_call (Gate src dst label credits) at is = absurd cc
      by_call (Obtain dst u src) at is = absurd cc
      by_call (Delegate src u dst) at is = absurd cc
      by_call (OpenSession dst name) at is = absurd cc
      by_call (AskOffer dst session index) at is = absurd cc
      by_call (Revoke src) at is = absurd cc
      by_call (Bind ep src) at is = absurd cc
      by_call (ReadCall ep off len) at is = absurd cc
      by_call (WriteCall ep off len) at is = absurd cc
      by_call (SendCall ep len) at is = absurd cc
      by_call (Credit ep) at is = absurd cc
      by_call Exit at is = no-exit w (row s w).next_call Exit at refl
      by_call (Clear src) at is = absurd cc

      from : (o : Option Call) → next_call T s w ≡ o → ⊥
      from None none = let no' : ends v (Calls w) Nothing ≡ true = ap (ends v (Calls w))
          (sym (told w refl ∙ ap (λ o. option_map_or (λ call. Called (row s w).next_call call) o Nothing) none)) ∙ is in absurd cc
      from (Some c) at =
          by_call c at (ap (ends v (Calls w)) (sym (told w refl ∙ ap (λ o. option_map_or (λ call. Called (row s w).next_call call) o Nothing) at)) ∙ is)
  act-goes-on i v s (Fetch j) d enabled told is = absurd cc
  act-goes-on i v s Handle d enabled told is = absurd cc
  act-goes-on i v s (Upcall w) d enabled told is = absurd cc
  act-goes-on i v s (Resume w) d enabled told is = absurd cc
  act-goes-on i v s (Flush j) d enabled told is = absurd cc
  act-goes-on i v s (Kill w) d enabled told is = no-kill i s w enabled

  pub no-end : (J : List Entry) → IsSchedule T J → (v : ℕ) → has_ended J v ≡ false
  no-end J runs v = false_from_ne_true (has_ended J v) (λ is.
      let e = list_any-some (λ (x : Entry). ends v x.event.act x.detail) J is in
      let at = parted J e.0 e.1 in
      let x = entered T at.0 at.1 e.0 (subst (IsSchedule T) at.2 runs) in
      let W : World = world_after T at.0 in
      let told = tells T W e.0 x.2 in
      act-goes-on e.0.event.kernel v (side W e.0.event.kernel) e.0.event.act e.0.detail (enabled-parts T W e.0.event.kernel e.0.event.act x.1).0
      (λ w same. told.detail ∙ ap (λ a. detail_of T (side W e.0.event.kernel) a (input_of W e.0.event.kernel a) (stepped T W e.0.event).outcome) same) e.2)
