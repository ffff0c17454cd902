-- Each event keeps what a key is there for, or takes its link away.
use Rattle.std.proofs.Common.{◌≡◌, ℕ, Bool, true, false, List, [], ◌∷◌, Option, Some, None, refl, sym, subst}
use Rattle.std.specs.List.{Contains}
use Rattle.std.specs.Option.{option_map_or}
use Rattle.std.proofs.lemmas.Bool.{cond_both}
use Rattle.sem_key.specs.KeyName.{KeyName}
use Rattle.sem_key.specs.Capability.{Capability}
use Rattle.sem_msg.specs.declared.message.Message.TheVariants.{RevokeReq, RevokeDone}
use Rattle.sem_msg.specs.declared.state.Parked.{Parked}
use Rattle.sem_msg.specs.declared.state.Parked.TheVariants.{ObtainWait, ObtainReady, ObtainCancelled, DelegateWait, DelegateReady, RevokeWait, Ready}
use Rattle.sem_msg.specs.declared.state.Up.TheVariants.{Remote}
use Rattle.sem_msg.specs.ParkedStates.{is_ready_with}
use Rattle.sem_msg.specs.Rows.{JobRow}
use Rattle.sem_msg.specs.Setup.{Setup}
use Rattle.sem_machine.specs.Sides.{Side, cap, job, parked, call_counted, parked_as, freed, with_inbox}
use Rattle.sem_machine.specs.Revokes.{begin, count_lowered, with_up, waiter_added, revoke_begun, ready_freed, obtain_cancelled, request_begun, revoke_requested}
use Rattle.sem_machine.specs.Ends.{revoked_if_left, keys_of_vpe, ended_but_held, ended}
use Rattle.sem_machine.specs.Machine.{World, side}
use Rattle.sem_machine.proofs.Folds.{in_turn-keeps}
use Rattle.sem_revoke.specs.Views.{no_obligations}
use Rattle.sem_revoke.proofs.Closing.{row-lowered}
use Rattle.sem_revoke.proofs.Events.{Par, IsReady, Holds, Losing, anything, own-cap}
use Rattle.sem_revoke.proofs.Leading.{Below, IsKept, below-steady}
use Rattle.sem_revoke.proofs.LeadingJobs.{Leads, NoGrant, leads-kept, leads-settled, leads-begun}
use Rattle.sem_revoke.proofs.LeadingRows.{Revokings, ended-led, all-ended}
use Rattle.sem_revoke.proofs.Rowing.{settled_if_there, revoked_if_there, row-opened_at, row-opened_for, row-parked, row-left, row-ended_but_held}
use Rattle.sem_revoke.proofs.Steady.{rest-steady}
use Rattle.sem_revoke.proofs.Turning.{here, there, in_row, counted-row, request-owed, token-owed}
use Rattle.sem_revoke.proofs.Viewing.{Scene, Row}

-- The revokes of kernel i that begin in a world. p is the parent of k by a grant, and what the kernel holds of k names it.
module _ (T : Setup) (gs : List (KeyName × KeyName)) (W : World) (R : IsReady T gs W) (H : Holds T gs W) (i : ℕ) (p k : KeyName) (granted : Par gs p k)
    (below : Below p k (side W i)) where
  abbrev A : Losing gs W
  A = anything gs W

  abbrev pub C : Scene
  C = here T gs W R H A i

  abbrev D : Scene
  D = there T gs W R H A i

  abbrev s : Side
  s = side W i

  abbrev pub Led : Side → Type 0
  Led = Leads C p k granted

  K : IsKept (NoGrant C p k granted) Led
  K = leads-kept C p k granted

  -- a job begins for nobody else
  begun : (root : KeyName) (ws : List ℕ) (keep : Bool) (t : Side) (c : Capability) → cap t root ≡ Some c → c.mark ≡ None → Row C no_obligations t → Below p k t →
      Led t
      → Led (begin T i root None ws keep t)
  begun root ws keep t c held unmarked R' B L =
      leads-begun C p k granted root None ws keep t (row-opened_at C root ws keep (λ _. tt, λ q g. tt) t c held unmarked R') B L

  left : (q : KeyName) (t : Side) → Row C no_obligations t → Below p k t → Led t → Led (revoked_if_left T i q t)
  left q t R' B L = from (cap t q) refl
    where
      from : (o : Option Capability) → cap t q ≡ o → Led (revoked_if_there T i q o t)
      from None none = L
      from (Some c) held = by c.mark refl
        where
          by : (m : Option ℕ) → c.mark ≡ m → Led (option_map_or (λ n. t) m (begin T i q None [] false t))
          by None unmarked = begun q [] false t c held unmarked R' B L
          by (Some n) marked = L

  ends : (v : ℕ) (t : Side) → Row C no_obligations t → Below p k t → Led t → Led (ended T i v t)
  ends v t R' B L =
      let last : Side = ended_but_held T i v t in
      let all = in_turn-keeps (λ (u : Side). Row C no_obligations u × Below p k u × Led u) (revoked_if_left T i)
      (λ q u (row', below', led'). (row-left C q u tt row', rest-steady (Below p k) (below-steady p k) T i q u below', left q u row' below' led'))
      (keys_of_vpe last v) last (
        row-ended_but_held C v t (λ q same. tt) R',
        ended-led T i (Below p k) (λ a b caps outs is. subst (λ cs. (c : Capability) → Contains cs c → c.key ≡ k → c.parent ≡ Some p) (sym caps) is)
            (λ a j m is. is) v t B,
        ended-led T i Led K.other K.sends v t L,
      ) in
      all-ended T i Led K.other K.sends v t all.2

  pub revokings : Led s → Revokings T i Led s
  revokings L = record {
    revokes = λ v src c held. revoke v c (own-cap (call_counted v s) v src c held) c.mark refl;
    clears = λ v src c held unmarked.
        let t : Side = call_counted v s in
        let w : Side = parked_as v (RevokeWait t.next_job) t in
        begun c.key (v ∷ []) true w c (own-cap t v src c held) unmarked
        (row-parked C no_obligations v (RevokeWait t.next_job) t (λ q. refl) (counted-row T gs W R H A i v)) below (K.other s w refl refl L);
    exits = λ v. ends v (call_counted v s) (counted-row T gs W R H A i v) below (K.other s (call_counted v s) refl refl L);
    kills = λ v. ends v s (in_row T gs W R H A i) below L;
    requests = λ from q j full. requested from q j full (cap (with_inbox None s) q) refl;
    dones = λ from j full. settles from j full (job (with_inbox None s) j) refl;
  }
    where
      revoke : (v : ℕ) (c : Capability) → cap (call_counted v s) c.key ≡ Some c → (m : Option ℕ) → c.mark ≡ m →
          Led (revoke_begun T i v c.key m (call_counted v s))
      revoke v c held None unmarked =
          let t : Side = call_counted v s in
          let w : Side = parked_as v (RevokeWait t.next_job) t in
          begun c.key (v ∷ []) false w c held unmarked (row-parked C no_obligations v (RevokeWait t.next_job) t (λ q. refl) (counted-row T gs W R H A i v)) below
          (K.other s w refl refl L)
      revoke v c held (Some j) marked = K.other s (waiter_added j v (parked_as v (RevokeWait j) (call_counted v s))) refl refl L

      base : Side
      base = with_inbox None s

      taken : Led base
      taken = K.other s base refl refl L

      freed-ready : (q : KeyName) (o : Option Parked) → Led (ready_freed o q.vpe base)
      freed-ready q None = taken
      freed-ready q (Some (ObtainReady key parent object sel)) = K.other base (freed q.vpe sel base) refl refl taken
      freed-ready q (Some (ObtainWait number sel)) = taken
      freed-ready q (Some ObtainCancelled) = taken
      freed-ready q (Some (DelegateWait parent)) = taken
      freed-ready q (Some (DelegateReady parent key)) = taken
      freed-ready q (Some (RevokeWait j)) = taken
      freed-ready q (Some (Ready code)) = taken

      cancelled : (q : KeyName) → Led (obtain_cancelled q base)
      cancelled q = cond_both (is_ready_with q (parked base q.vpe)) _ base Led
          (λ _. K.other (ready_freed (parked base q.vpe) q.vpe base) (parked_as q.vpe ObtainCancelled (ready_freed (parked base q.vpe) q.vpe base)) refl refl
          (freed-ready q (parked base q.vpe))) (λ _. taken)

      requested : (from : ℕ) (q : KeyName) (j : ℕ) → s.inbox ≡ Some (from, RevokeReq q j) → (o : Option Capability) → cap base q ≡ o
          → Led (revoke_requested T i from j q o base)
      requested from q j full None none = K.sends (obtain_cancelled q base) from (RevokeDone j) (cancelled q)
      requested from q j full (Some c) held = by_mark c.mark refl
        where
          by_mark : (m : Option ℕ) → c.mark ≡ m → Led (request_begun T i from j q m base)
          by_mark None unmarked =
              let owes = request-owed T gs W R H A i from q j full in
              leads-begun D p k granted q (Some (Remote from j)) [] false base (row-opened_for D q from j base c held unmarked owes.2 owes.3) below taken
          by_mark (Some m) marked = K.other base (with_up (Remote from j) m base) refl refl taken

      settles : (from j : ℕ) → s.inbox ≡ Some (from, RevokeDone j) → (o : Option JobRow) → job base j ≡ o → Led (settled_if_there T i j o base)
      settles from j full None none = taken
      settles from j full (Some x) some =
          leads-settled D p k granted j (count_lowered j base) (row-lowered D base j x some (token-owed T gs W R H A i from j full)) below
          (K.other base (count_lowered j base) refl refl taken)
