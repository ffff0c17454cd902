-- After every schedule a call that waits for the answer to an ask is one of a living VPE, and something of its exchange is under way.
use Rattle.std.proofs.Common.{◌≡◌, ℕ, zero, suc, ◌+◌, ◌≤◌, ◌<◌, true, not, ◌&&◌, List, [], ◌∷◌, ◌++◌, Option, Some, None, get_or, replicate, length, append-nil}
use Rattle.std.proofs.Common.{append_assoc, refl, sym, ap, ◌∙◌, subst, inl, inr, arith}
use Rattle.std.specs.List.{sum_by}
use Rattle.std.specs.Option.{option_map_or}
use Rattle.std.proofs.lemmas.Bool.{cases_eq, cond-true, and_from, true≢false}
use Rattle.std.proofs.lemmas.Option.{slice_get_within}
use Rattle.sem_key.specs.Lists.{put}
use Rattle.sem_key.specs.declared.limits.TheConstants.{VPES}
use Rattle.sem_key.proofs.Puts.{get_or-put_other}
use Rattle.sem_msg.specs.declared.limits.TheConstants.{ASKS}
use Rattle.sem_msg.specs.declared.entry.Entry.{Entry}
use Rattle.sem_msg.specs.declared.event.Act.{Act}
use Rattle.sem_msg.specs.declared.event.Act.TheVariants.{Call as Calls, Fetch, Handle, Upcall, Resume, Flush, Kill}
use Rattle.sem_msg.specs.declared.message.Message.{Message}
use Rattle.sem_msg.specs.declared.state.Ask.{Ask}
use Rattle.sem_msg.specs.declared.state.Parked.{Parked}
use Rattle.sem_msg.specs.Rows.{JobRow, VpeRow}
use Rattle.sem_msg.specs.Setup.{Setup, IsSetup}
use Rattle.sem_msg.specs.Lookups.{kernel_of, calls_of, own_vpes}
use Rattle.sem_machine.specs.Sides.{Side, no_side, row, parked, is_alive, call_counted, with_inbox}
use Rattle.sem_machine.specs.Steps.{Step, unshown}
use Rattle.sem_machine.specs.Calls.{call_row}
use Rattle.sem_machine.specs.Handles.{handled}
use Rattle.sem_machine.specs.Machine.{World, side, with_side, start, start_side, empty_side, root_added, vpe_added, vpe_fresh, next_call, local_step, after}
use Rattle.sem_machine.specs.Machine.{event, is_enabled}
use Rattle.sem_machine.specs.Schedules.{IsSchedule, world_after}
use Rattle.sem_machine.proofs.Folds.{in_turn-keeps, option-keeps}
use Rattle.sem_machine.proofs.Weighing.{weigh-none, weigh-put}
use Rattle.sem_safety.proofs.CarryingWorlds.{stepped}
use Rattle.sem_safety.proofs.Drawers.{side-after}
use Rattle.sem_safety.proofs.GoingOn.{entry-enabled, run-append, moved-sides}
use Rattle.sem_safety.proofs.HeldOnce.{weigh-at}
use Rattle.sem_sound.proofs.Calling.{own-among}
use Rattle.sem_sound.proofs.Changing.{counted-sound}
use Rattle.sem_sound.proofs.Scheduling.{schedule-sound}
use Rattle.sem_safety.proofs.AskWeights
use Rattle.sem_safety.proofs.AskWeights.{free, waits}
use Rattle.sem_msg.specs.VpeRows
use Rattle.sem_safety.proofs.FewAsks.{room-at-handling, room-at-call}
use Rattle.sem_revoke.specs.Exchanges.{Exchange, waiter, is_waiting, of_message, of_row, of_rows, exchanging, tokens}
use Rattle.sem_revoke.specs.Scales.{of_inbox, of_side, of_world}
use Rattle.sem_revoke.proofs.AddressedWorlds.{inbox-right, vpe-local}
use Rattle.sem_revoke.proofs.Exchanges.{Home, of_side', Kept, kept-start, kept-less, none-waits}
use Rattle.sem_revoke.proofs.ExchangeRows.{tok-row, alive-row, asks-row, call-kept, upcall-kept, resume-kept, kept-ended}
use Rattle.sem_revoke.proofs.ExchangeMessages.{handled-kept}
use Rattle.sem_revoke.proofs.Moving.{Moves, moved-sum}
use Rattle.sem_revoke.proofs.Ordering.{side-part}
use Rattle.sem_revoke.proofs.Readying.{enabled-low}
use Rattle.sem_revoke.proofs.Revoking.{enabled-parts, start-each}
use Rattle.sem_revoke.proofs.Serving.{enabled-call}

-- who waits lives, and has a token
abbrev pub Owed : Setup → Exchange → World → Type 0
Owed T x W = is_waiting x (parked (side W (kernel_of T (waiter x))) (waiter x)) ≡ true → (is_alive (side W (kernel_of T (waiter x))) (waiter x) ≡ true)
    × (1 ≤ tokens x W)

-- At the start no call is parked.
side-unparked : (T : Setup) (i : ℕ) → (v : ℕ) → parked (start_side T i) v ≡ None
unfolding start_side
side-unparked T i = in_turn-keeps Unparked vpe_added (λ d t here. in_turn-keeps Unparked (root_added d) (λ r u is. is) d.roots (vpe_fresh d t) here)
    (own_vpes T i) (empty_side T) (empty VPES)
  where
    Unparked : Side → Type 0
    Unparked s = (v : ℕ) → parked s v ≡ None

    empty : (n v : ℕ) → get_or {A = Option Parked} (replicate n None) v None ≡ None
    empty zero v = refl
    empty (suc n) zero = refl
    empty (suc n) (suc v) = empty n v

pub start-unparked : (T : Setup) (i v : ℕ) → parked (side (start T) i) v ≡ None
start-unparked T i = start-each T (λ (s : Side). (v : ℕ) → parked s v ≡ None) (λ v. refl) (λ j. side-unparked T j) i

-- the side of another kernel after an event
pub side-elsewhere : (T : Setup) (W : World) (i : ℕ) (a : Act) (j : ℕ) → (j ≡ i → ⊥) → side (after T W (event i a)) j ≡ side W j
unfolding after
side-elsewhere T W i a j away = ap (λ (ss : List Side). get_or ss j no_side) (moved-sides i (side W i) a (with_side i (stepped T W (event i a)).side W))
    ∙ get_or-put_other no_side W.sides i j (stepped T W (event i a)).side away

-- all sides after an event
pub sides-after : (T : Setup) (W : World) (i : ℕ) (a : Act) → (after T W (event i a)).sides ≡ put no_side W.sides i (stepped T W (event i a)).side
unfolding after
sides-after T W i a = moved-sides i (side W i) a (with_side i (stepped T W (event i a)).side W)

module _ (T : Setup) (valid : IsSetup T) (x : Exchange) where
  abbrev v : ℕ
  v = waiter x

  abbrev h : ℕ
  h = kernel_of T v

  module _ (before : List Entry) (runs : IsSchedule T before) (owed : Owed T x (world_after T before)) (i : ℕ) (low : i < T.kernels) where
    abbrev W : World
    W = world_after T before

    abbrev s : Side
    s = side W i

    abbrev tok : Side → ℕ
    tok t = of_side' x T i s t

    abbrev Steps : Side → Type 0
    Steps t = Kept x T i s (tok s) t

    living : Home x T i s → is_waiting x (parked s v) ≡ true → (row s v).alive ≡ true
    living home waits' = let is = owed (ap (λ n. is_waiting x (parked (side W n) v)) home ∙ waits') in ap (λ n. is_alive (side W n) v) (sym home) ∙ is.0

    stepped-kept : (a : Act) → is_enabled T W (event i a) ≡ true → (Moves a → ⊥) → Steps (stepped T W (event i a)).side
    unfolding local_step
    stepped-kept (Calls w) enabled still =
        let sound = (schedule-sound T valid before runs).sides i low in
        let calls = enabled-call T i s w (enabled-parts T W i (Calls w) enabled).0 in
        let t : Side = call_counted w s in
        let r : VpeRow = record (row s w) { next_call = (row s w).next_call + 1 } in
        let may : free (row s w) (parked s w) ≡ 1 = ap (free (row s w)) calls.2
        ∙ cond-true ((row s w).alive && not (waits None)) 1 0 (and_from (row s w).alive true calls.1 refl) in
        let same = tok-row x T i s s w r refl in
        option-keeps (λ (y : Step). Steps y.side) (call_row T i t w) (next_call T s w) (unshown s)
        (λ c there.
        let counted = counted-sound T valid i low None None None None s sound w calls.0 (slice_get_within (calls_of T w) (row s w).next_call c there) in
        call-kept x T i s w calls.0 t (tok s) (omega (arith, same)) (λ home. (refl, alive-row x T i s s w r refl v)) (alive-row x T i s s w r refl w ∙ calls.1)
        (λ src p held. (own-among T valid i low t counted w src p held).1)
        (λ u. subst (λ (xs : List Ask). length xs < ASKS) (sym (asks-row x T i s s w r refl u)) (room-at-call T before runs valid i u w may)) c)
        (kept-start x T i s)
    stepped-kept (Upcall w) enabled still = upcall-kept x T i s w
    stepped-kept (Resume w) enabled still = resume-kept x T i s w
    stepped-kept (Kill w) enabled still =
        kept-ended x T i s w s (tok s) (omega arith) (vpe-local T i s (Kill w) (enabled-parts T W i (Kill w) enabled).0 w (inr (inr (inr refl))))
        (λ home. (refl, refl))
    stepped-kept (Fetch j) enabled still = absurd (still tt)
    stepped-kept (Flush j) enabled still = absurd (still tt)
    stepped-kept Handle enabled still = by s.inbox refl
      where
        by : (o : Option (ℕ × Message)) → s.inbox ≡ o → Steps (option_map_or (λ m. handled T i (with_inbox None s) m.0 m.1) o s)
        by None none = kept-start x T i s
        by (Some (from, m)) full =
            let weight : of_inbox (exchanging x) i s.inbox ≡ of_message x m = ap (of_inbox (exchanging x) i) full in
            kept-less x T i s (tok (with_inbox None s) + of_message x m) (tok s) (handled T i (with_inbox None s) from m) (omega (arith, weight))
            (handled-kept x T i s living from m (inbox-right T valid before runs i from m full)
            (λ place target of w. room-at-handling T before runs valid i w place.vpe from m full (λ v0. ap (AskWeights.of_message v0) of))
            (λ parent object vpe sel of w. room-at-handling T before runs valid i w parent.vpe from m full (λ v0. ap (AskWeights.of_message v0) of)))

    no-jobs : (xs : List JobRow) → sum_by (λ (y : JobRow). 0) xs ≡ 0
    no-jobs xs = weigh-none (λ (y : JobRow). 0) xs (λ y among. refl)

    -- the tokens of a side are some of all
    part : tok s ≤ tokens x W
    part = let rows = weigh-at (of_rows x) no_side refl W.sides i in let rest = side-part (exchanging x) W i in omega (arith, rows, rest)

    module _ (a : Act) (enabled : is_enabled T W (event i a) ≡ true) where
      abbrev V : World
      V = after T W (event i a)

      abbrev t : Side
      t = (stepped T W (event i a)).side

      rows-sum : sum_by (of_rows x) V.sides + of_rows x s ≡ sum_by (of_rows x) W.sides + of_rows x t
      rows-sum = let sum = weigh-put (of_rows x) no_side refl W.sides i t in let same = ap (sum_by (of_rows x)) (sides-after T W i a) in
          omega (arith, sum, same)

      acted-sum : of_world (exchanging x) V + of_side (exchanging x) i s ≡ of_world (exchanging x) W + of_side (exchanging x) i t →
          tokens x V + tok s ≡ tokens x W + tok t
      acted-sum acted = let rows = rows-sum in let one = no-jobs s.jobs in let two = no-jobs t.jobs in omega (arith, acted, rows, one, two)

      at-home : h ≡ i → side V h ≡ t
      at-home home = ap (side V) home ∙ side-after T W (event i a)

      -- a message moves on its way
      moved-rows : Moves a → (t.vpes ≡ s.vpes) × (t.parks ≡ s.parks)
      unfolding local_step
      moved-rows = by a
        where
          by : (b : Act) → Moves b → ((stepped T W (event i b)).side.vpes ≡ s.vpes) × ((stepped T W (event i b)).side.parks ≡ s.parks)
          by (Fetch j) moves = (refl, refl)
          by (Flush j) moves = (refl, refl)
          by (Calls w) moves = absurd moves
          by (Upcall w) moves = absurd moves
          by (Resume w) moves = absurd moves
          by (Kill w) moves = absurd moves
          by Handle moves = absurd moves

      next-owed : Owed T x V
      next-owed now = elim (moved-sum (exchanging x) T W i a enabled) [
        | inr (moves, same) ↦
            let rows = moved-rows moves in
            let sum = rows-sum in
            let same-rows : of_rows x t ≡ of_rows x s = ap (sum_by (of_row x)) rows.0 in
            elim (cases_eq h i) [
              | inl home ↦
                  let back = owed (ap (λ n. is_waiting x (parked (side W n) v)) home
                  ∙ (ap (λ ps. is_waiting x (get_or ps v None)) (sym rows.1) ∙ (ap (λ (u : Side). is_waiting x (parked u v)) (sym (at-home home)) ∙ now)))
                  in
                  let some = back.1 in (
                    ap (λ (u : Side). is_alive u v) (at-home home)
                        ∙ (ap (λ vs. VpeRows.is_alive vs v) rows.0 ∙ (ap (λ n. is_alive (side W n) v) (sym home) ∙ back.0)),
                    omega (arith, some, same, sum, same-rows),
                  )
              | inr away ↦
                  let at = side-elsewhere T W i a h away in
                  let back = owed (ap (λ (u : Side). is_waiting x (parked u v)) (sym at) ∙ now) in
                  let some = back.1 in
                  (ap (λ (u : Side). is_alive u v) at ∙ back.0, omega (arith, some, same, sum, same-rows))
            ]
        | inl (still, acted) ↦ local (acted-sum acted) (stepped-kept a enabled still)
      ]
        where
          local : tokens x V + tok s ≡ tokens x W + tok t → Steps t → (is_alive (side V h) v ≡ true) × (1 ≤ tokens x V)
          local sum (inl loose) = absurd (true≢false (sym now ∙ (ap (λ (u : Side). is_waiting x (parked u v)) (at-home loose.0) ∙ loose.1)))
          local sum (inr held) = elim (cases_eq h i) [
            | inl home ↦ elim (held.1 home) [
              | inl same ↦
                  let back = owed (ap (λ n. is_waiting x (parked (side W n) v)) home
                  ∙ (ap (is_waiting x) (sym same.0) ∙ (ap (λ (u : Side). is_waiting x (parked u v)) (sym (at-home home)) ∙ now))) in
                  let some = back.1 in
                  let few = held.0 in (
                    ap (λ (u : Side). is_alive u v) (at-home home) ∙ (same.1 ∙ (ap (λ n. is_alive (side W n) v) (sym home) ∙ back.0)),
                    omega (arith, sum, some, few),
                  )
              | inr has ↦
                  let some = has.0 in
                  let among = part in
                  (ap (λ (u : Side). is_alive u v) (at-home home) ∙ has.1, omega (arith, sum, some, among))
            ]
            | inr away ↦
                let at = side-elsewhere T W i a h away in
                let back = owed (ap (λ (u : Side). is_waiting x (parked u v)) (sym at) ∙ now) in
                let some = back.1 in
                let few = held.0 in
                (ap (λ (u : Side). is_alive u v) at ∙ back.0, omega (arith, sum, some, few))
          ]

  pub all-owed : (J : List Entry) → IsSchedule T J → Owed T x (world_after T J)
  all-owed J runs = from [] J refl (λ waits'. absurd (true≢false (sym waits' ∙ (ap (is_waiting x) (start-unparked T h v) ∙ none-waits x))))
    where
      from : (before later : List Entry) → J ≡ before ++ later → Owed T x (world_after T before) → Owed T x (world_after T J)
      from before [] parts is = subst (λ K. Owed T x (world_after T K)) (sym (parts ∙ append-nil before)) is
      from before (e ∷ later) parts is =
          let y = entry-enabled T before (start T) e later (subst (IsSchedule T) parts runs) in
          let low = enabled-low T (world_after T before) e.event y.1 in
          from (before ++ e ∷ []) later (parts ∙ sym (append_assoc before (e ∷ []) later))
          (subst (Owed T x) (sym (run-append T before (e ∷ []) (start T))) (next-owed before y.0 is e.event.kernel low e.event.act y.1))
