-- Refused asks, and the end of a VPE, keep a side sound.
use Rattle.std.proofs.Common.{inl, inr, ◌≡◌, ◌≢◌, ℕ, ◌<◌, ◌≤◌, ◌&&◌, Bool, true, false, not, List, [], Option, Some, None, refl, sym, ap, subst, ◌∙◌, arith}
use Rattle.std.proofs.Common.{eq-eqb, get_or}
use Rattle.std.specs.Prelude.{◌==◌}
use Rattle.std.specs.List.{Contains}
use Rattle.std.specs.Option.{option_map_or}
use Rattle.std.proofs.lemmas.Bool.{cond_both, eqb-true, eqb-false, and_from, not-true, true_from_ne_false, cases_eq}
use Rattle.std.proofs.lemmas.Option.{same_Some}
use Rattle.sem_key.specs.KeyName.{KeyName}
use Rattle.sem_key.specs.Lists.{in_turn, put}
use Rattle.sem_key.specs.Capability.{Capability}
use Rattle.sem_msg.specs.declared.message.Message.TheVariants.{ObtainNo, DelegateNo, Ack, Orphan}
use Rattle.sem_msg.specs.declared.state.Ask.{Ask}
use Rattle.sem_msg.specs.declared.state.Ask.TheVariants.{Obtain as ObtainAsk, Delegate as DelegateAsk}
use Rattle.sem_msg.specs.declared.state.Slot.TheVariants.{Free}
use Rattle.sem_msg.specs.declared.state.Parked.{Parked}
use Rattle.sem_msg.specs.declared.state.Parked.TheVariants.{ObtainWait, ObtainReady, ObtainCancelled, DelegateWait, DelegateReady, RevokeWait, Ready}
use Rattle.sem_msg.specs.Rows.{JobRow, VpeRow, no_vpe}
use Rattle.sem_msg.specs.Message.{IsRefusal}
use Rattle.sem_msg.specs.Setup.{Setup, IsSetup}
use Rattle.sem_msg.specs.Lookups.{kernel_of, owner_of, place_owner, pe_owner, is_declared_at}
use Rattle.sem_msg.specs.JobRows.{without_number}
use Rattle.sem_msg.specs.declared.code.Code.{Code}
use Rattle.sem_msg.specs.declared.code.Code.TheVariants.{Dead}
use Rattle.sem_msg.specs.Codes.{code_number}
use Rattle.sem_machine.specs.Sound.{IsSoundCall, IsSoundAsk, kept, IsSound, one_if}
use Rattle.sem_machine.specs.Sides.{Side, row, cap, parked, unparked, buried, ready, freed}
use Rattle.sem_machine.specs.Asks.{asker, waits_for, is_unawaited, promise_freed, call_refused, refusal_sent, ask_refused}
use Rattle.sem_machine.specs.Revokes.{waiter_left, begin}
use Rattle.sem_machine.specs.Ends.{ask_ended, call_ended, ended_but_held, revoked_if_left, keys_of_vpe, ended}
use Rattle.sem_key.proofs.Puts.{get_or-put_same, get_or-put_other}
use Rattle.sem_key.proofs.Members.{Contains-nil, Contains-from_filter, Contains-from_map}
use Rattle.sem_machine.proofs.Folds.{in_turn-keeps, in_turn-keeps_each}
use Rattle.sem_sound.proofs.Named.{declared-kernel, declared-below}
use Rattle.sem_sound.proofs.Changing.{buried-sound, parked-same, parked-giving, number-dropped, selector-dropped}
use Rattle.sem_sound.proofs.Holding.{send-sound}
use Rattle.sem_sound.proofs.Jobbing.{parked-local, waits-not, leaving-sound}
use Rattle.sem_sound.proofs.Parking.{NoMore, no-more, chained, is-one, parked-again, unparked-both, mapped-fit}
use Rattle.sem_sound.specs.SoundWorlds.{CountsFit}
use Rattle.sem_sound.proofs.Opening.{begin-sound}
use Rattle.sem_sound.proofs.Revoking.{released-sound, reparked-sound, slack-of}

-- a parked call that waits for an answer
abbrev pub IsWaiting : Option Parked → Type 0
IsWaiting None = ⊥
IsWaiting (Some (ObtainWait number sel)) = Unit {0}
IsWaiting (Some (ObtainReady key parent object sel)) = ⊥
IsWaiting (Some ObtainCancelled) = ⊥
IsWaiting (Some (DelegateWait parent)) = Unit {0}
IsWaiting (Some (DelegateReady parent key)) = ⊥
IsWaiting (Some (RevokeWait j)) = ⊥
IsWaiting (Some (Ready code)) = ⊥

pub is-waiting : (a : Ask) (p : Option Parked) → waits_for a p ≡ true → IsWaiting p
is-waiting (ObtainAsk place target) None waits = absurd cc
is-waiting (ObtainAsk place target) (Some (ObtainWait number sel)) waits = tt
is-waiting (ObtainAsk place target) (Some (ObtainReady key parent object sel)) waits = absurd cc
is-waiting (ObtainAsk place target) (Some ObtainCancelled) waits = absurd cc
is-waiting (ObtainAsk place target) (Some (DelegateWait parent)) waits = tt
is-waiting (ObtainAsk place target) (Some (DelegateReady parent key)) waits = absurd cc
is-waiting (ObtainAsk place target) (Some (RevokeWait j)) waits = absurd cc
is-waiting (ObtainAsk place target) (Some (Ready code)) waits = absurd cc
is-waiting (DelegateAsk parent object sel) None waits = absurd cc
is-waiting (DelegateAsk parent object sel) (Some (ObtainWait number sel')) waits = tt
is-waiting (DelegateAsk parent object sel) (Some (ObtainReady key parent' object' sel')) waits = absurd cc
is-waiting (DelegateAsk parent object sel) (Some ObtainCancelled) waits = absurd cc
is-waiting (DelegateAsk parent object sel) (Some (DelegateWait parent')) waits = tt
is-waiting (DelegateAsk parent object sel) (Some (DelegateReady parent' key)) waits = absurd cc
is-waiting (DelegateAsk parent object sel) (Some (RevokeWait j)) waits = absurd cc
is-waiting (DelegateAsk parent object sel) (Some (Ready code)) waits = absurd cc

-- an asker of this kernel waits, where an ask is awaited
pub awaited-waits : (T : Setup) (i : ℕ) (s : Side) (a : Ask) → is_unawaited T i s a ≡ false → kernel_of T (asker a) ≡ i →
    waits_for a (parked s (asker a)) ≡ true
awaited-waits T i s a awaited local =
    true_from_ne_false (waits_for a (parked s (asker a)))
    (λ fails. clash awaited (and_from (kernel_of T (asker a) == i) (not (waits_for a (parked s (asker a)))) (eq-eqb (kernel_of T (asker a)) i local)
    (ap not fails)))
  where
    clash : {b : Bool} → b ≡ false → b ≡ true → ⊥
    clash no' yes' = cc

module _ (T : Setup) (valid : IsSetup T) (i : ℕ) (few : i < T.kernels) where
  pub call_refused-sound : (s : Side) → IsSound T i s → (code v : ℕ) → code ≤ 15 → IsWaiting (parked s v) →
      IsSound T i (call_refused code v s) × NoMore s (call_refused code v s)
  call_refused-sound s is code v small waiting = from (parked s v) refl waiting
    where
      sound : (x : Parked) → Some (Ready code) ≡ Some x → IsSoundCall T i v x
      sound x same = subst (IsSoundCall T i v) (same_Some (Ready code) x same) small

      again : (p : Parked) → parked s v ≡ Some p → NoMore s (ready code v s)
      again p at = parked-again s v (Some (Ready code)) (let was = is-one s v p at in omega (arith, was))

      from : (p : Option Parked) → parked s v ≡ p → IsWaiting p → IsSound T i (ready code v (promise_freed p v s))
          × NoMore s (ready code v (promise_freed p v s))
      from (Some (ObtainWait number sel)) at waits =
          (released-sound T valid i few s is v (ObtainWait number sel) at number sel refl (Some (Ready code)) sound refl, again (ObtainWait number sel) at)
      from (Some (DelegateWait parent)) at waits = (
        reparked-sound T valid i few s is v (parked-local T i None None None None s is v (DelegateWait parent) at) (Some (DelegateWait parent)) at
            (λ j none. absurd cc) (Some (Ready code)) sound refl,
        again (DelegateWait parent) at,
      )
      from None at waits = absurd waits
      from (Some (ObtainReady key parent object sel)) at waits = absurd waits
      from (Some ObtainCancelled) at waits = absurd waits
      from (Some (DelegateReady parent key)) at waits = absurd waits
      from (Some (RevokeWait j)) at waits = absurd waits
      from (Some (Ready code')) at waits = absurd waits

  -- the owner of a declared VPE of another kernel
  pub other-owner : (pe v : ℕ) → is_declared_at T pe v ≡ true → (kernel_of T v ≡ i → ⊥) → (pe_owner T pe < T.kernels) × (pe_owner T pe ≢ i)
  other-owner pe v declared remote = (declared-below T valid pe v declared, λ same. remote (declared-kernel T pe v declared ∙ same))

  pub refusal_sent-sound : (s : Side) → IsSound T i s → (code : Code) (a : Ask) → IsSoundAsk T a → IsRefusal (code_number code) →
      (kernel_of T (asker a) ≡ i → ⊥) → IsSound T i (refusal_sent T code a s) × NoMore s (refusal_sent T code a s)
  refusal_sent-sound s is code (ObtainAsk place target) sound refusal remote = let to = other-owner place.pe place.vpe sound.0.1 remote in (
    send-sound T valid i few None None None None s is (place_owner T place) (ObtainNo place (code_number code)) ((sound.0.0, refusal), to.0, to.1),
    no-more s,
  )
  refusal_sent-sound s is code (DelegateAsk parent object sel) sound refusal remote = let to = other-owner parent.pe parent.vpe sound.0.1 remote in (
    send-sound T valid i few None None None None s is (owner_of T parent) (DelegateNo parent (code_number code)) ((sound.0.0, refusal), to.0, to.1),
    no-more s,
  )

  pub ask_refused-sound : (s : Side) → IsSound T i s → (code : Code) (a : Ask) → IsSoundAsk T a → IsRefusal (code_number code) →
      (kernel_of T (asker a) ≡ i → IsWaiting (parked s (asker a))) → IsSound T i (ask_refused T i code a s) × NoMore s (ask_refused T i code a s)
  ask_refused-sound s is code a sound refusal waits = cond_both (kernel_of T (asker a) == i) (call_refused (code_number code) (asker a) s)
      (refusal_sent T code a s) (λ t. IsSound T i t
      × NoMore s t) (λ local. call_refused-sound s is (code_number code) (asker a) refusal.1 (waits (eqb-true (kernel_of T (asker a)) i local)))
      (λ remote. refusal_sent-sound s is code a sound refusal (eqb-false (kernel_of T (asker a)) i remote))

  -- The end of a VPE.

  abbrev IsDead : ℕ → Side → Type 0
  IsDead v t = (row t v).alive ≡ false

  -- an ask that is answered brings no VPE back
  ask_ended-dead : (v : ℕ) (a : Ask) (s : Side) → IsDead v s → IsDead v (ask_ended T i a s)
  ask_ended-dead v a s dead = cond_both (is_unawaited T i s a) s (ask_refused T i Dead a s) (IsDead v) (λ _. dead)
      (λ _. cond_both (kernel_of T (asker a) == i) (call_refused (code_number Dead) (asker a) s) (refusal_sent T Dead a s) (IsDead v)
      (λ _. refused (parked s (asker a))) (λ _. told a))
    where
      slot-freed : (w sel : ℕ) → IsDead v (freed w sel s)
      slot-freed w sel =
          let r : VpeRow = record (row s w) { slots = put Free (row s w).slots sel Free } in
          elim (cases_eq v w) [
            | inl same ↦ ap (λ (x : VpeRow). x.alive) (ap (λ u. get_or (put no_vpe s.vpes w r) u no_vpe) same ∙ get_or-put_same no_vpe s.vpes w r)
                ∙ subst (λ u. (row s u).alive ≡ false) same dead
            | inr other ↦ ap (λ (x : VpeRow). x.alive) (get_or-put_other no_vpe s.vpes w v r other) ∙ dead
          ]

      refused : (p : Option Parked) → IsDead v (promise_freed p (asker a) s)
      refused None = dead
      refused (Some (ObtainWait number sel)) = slot-freed (asker a) sel
      refused (Some (ObtainReady key parent object sel)) = dead
      refused (Some ObtainCancelled) = dead
      refused (Some (DelegateWait parent)) = dead
      refused (Some (DelegateReady parent key)) = dead
      refused (Some (RevokeWait j)) = dead
      refused (Some (Ready code)) = dead

      told : (b : Ask) → IsDead v (refusal_sent T Dead b s)
      told (ObtainAsk place target) = dead
      told (DelegateAsk parent object sel) = dead

  ask_ended-sound : (a : Ask) → IsSoundAsk T a → (s : Side) → IsSound T i s → IsSound T i (ask_ended T i a s) × NoMore s (ask_ended T i a s)
  ask_ended-sound a sound s is = cond_both (is_unawaited T i s a) s (ask_refused T i Dead a s) (λ t. IsSound T i t × NoMore s t) (λ _. (is, no-more s))
      (λ awaited. ask_refused-sound s is Dead a sound (
        omega arith,
        omega arith,
      ) (λ local. is-waiting a (parked s (asker a)) (awaited-waits T i s a awaited local)))

  -- what the parked call of a dead VPE leaves
  call_ended-sound : (s : Side) → IsSound T i s → (v : ℕ) → kernel_of T v ≡ i → (row s v).alive ≡ false → (p : Option Parked) → parked s v ≡ p →
      IsSound T i (call_ended T p v (unparked v s))
  call_ended-sound s is v local dead p at = from p at
    where
      none-parked : (x : Parked) → None ≡ Some x → IsSoundCall T i v x
      none-parked x none = absurd cc

      -- a call that kept nothing
      out : (q : Option Parked) → parked s v ≡ q → ((j : ℕ) → q ≡ Some (RevokeWait j) → ⊥) → None ≡ kept q → IsSound T i (unparked v s)
      out q at none same = reparked-sound T valid i few s is v local q at none None none-parked same

      -- one that kept a number and a selector
      given-up : (q : Parked) → parked s v ≡ Some q → (m sel : ℕ) → kept (Some q) ≡ Some (m, sel) → IsSound T i (unparked v s)
      given-up q at m sel keeps =
          let t : Side = unparked v s in
          let gives = parked-giving T valid i few None None s v local None none-parked m sel is
          (waits-not T i None None None None s is v (λ j waits. absurd (clash (m, sel) (sym keeps ∙ ap kept (sym at ∙ waits))))) (ap kept at
          ∙ keeps) refl in
          let still_dead : (row t v).alive ≡ false = dead in
          selector-dropped T valid i few None None None t v local sel (number-dropped T valid i few (Some (v, sel)) None None t v local (Some (v, m)) gives)
          still_dead
        where
          clash : (x : ℕ × ℕ) → Some x ≡ None → ⊥
          clash x none = cc

      from : (q : Option Parked) → parked s v ≡ q → IsSound T i (call_ended T q v (unparked v s))
      from None at = out None at (λ j none. absurd cc) refl
      from (Some (ObtainWait number sel)) at = given-up (ObtainWait number sel) at number sel refl
      from (Some (ObtainReady key parent object sel)) at =
          let call = (is.calls v (ObtainReady key parent object sel) at).1 in
          send-sound T valid i few None None None None (unparked v s) (given-up (ObtainReady key parent object sel) at key.number sel refl) (owner_of T parent)
          (Orphan parent key) ((call.2.0.0, call.1.0.0), declared-below T valid parent.pe parent.vpe call.2.0.1, call.2.1)
      from (Some ObtainCancelled) at = out (Some ObtainCancelled) at (λ j none. absurd cc) refl
      from (Some (DelegateWait parent)) at = out (Some (DelegateWait parent)) at (λ j none. absurd cc) refl
      from (Some (DelegateReady parent key)) at =
          let call = (is.calls v (DelegateReady parent key) at).1 in
          send-sound T valid i few None None None None (unparked v s) (out (Some (DelegateReady parent key)) at (λ j none. absurd cc) refl) (owner_of T key)
          (Ack key false) (call.2.0.0, declared-below T valid key.pe key.vpe call.2.0.1, call.2.1)
      from (Some (RevokeWait j)) at = parked-same T valid i few None None None None (waiter_left j v s) (leaving-sound T i None None None None s is j v) v local
          None none-parked (λ x among still in_waiters. absurd (gone j x among in_waiters)) (sym (ap kept at))
        where
          gone : (j : ℕ) (x : JobRow) → Contains (waiter_left j v s).jobs x → Contains x.waiters v → ⊥
          gone j x among in_waiters =
              let o = Contains-from_map (λ (y : JobRow). record y {
                waiters = without_number y.waiters v;
                keep = y.keep && not ((y.id == j) && (y.root.vpe == v));
              }) s.jobs x among in
              let still = subst (λ (y : JobRow). Contains y.waiters v) (sym o.2) in_waiters in
              eqb-false v v (not-true (v == v) (Contains-from_filter (λ w. not (w == v)) o.0.waiters v still).1) refl
      from (Some (Ready code)) at = out (Some (Ready code)) at (λ j none. absurd cc) refl

  abbrev pub revoked_if_there : ℕ → KeyName → Option Capability → Side → Side
  revoked_if_there i k None s = s
  revoked_if_there i k (Some c) s = option_map_or (λ m. s) c.mark (begin T i k None [] false s)

  pub revoked-sound : (k : KeyName) (o : Option Capability) (s : Side) → cap s k ≡ o → IsSound T i s → IsSound T i (revoked_if_there i k o s)
      × NoMore s (revoked_if_there i k o s)
  revoked-sound k None s held is = (is, no-more s)
  revoked-sound k (Some c) s held is = by_mark c.mark refl
    where
      by_mark : (mark : Option ℕ) → c.mark ≡ mark → IsSound T i (option_map_or (λ n. s) mark (begin T i k None [] false s))
          × NoMore s (option_map_or (λ n. s) mark (begin T i k None [] false s))
      by_mark (Some n) marked = (is, no-more s)
      by_mark None unmarked = begin-sound T valid i few s is k None [] false c held unmarked tt (λ a b e lt within. absurd (omega (arith, lt, within)))
          (λ w none. absurd (Contains-nil w none)) (slack-of T valid i few s is)

  -- what is done with the parked call of a dead VPE parks none
  call_ended-parks : (q : Option Parked) (v : ℕ) (t : Side) → (call_ended T q v t).parks ≡ t.parks
  call_ended-parks None v t = refl
  call_ended-parks (Some (ObtainWait number sel)) v t = refl
  call_ended-parks (Some (ObtainReady key parent object sel)) v t = refl
  call_ended-parks (Some ObtainCancelled) v t = refl
  call_ended-parks (Some (DelegateWait parent)) v t = refl
  call_ended-parks (Some (DelegateReady parent key)) v t = refl
  call_ended-parks (Some (RevokeWait j)) v t = refl
  call_ended-parks (Some (Ready code)) v t = refl

  call_ended-fit : (q : Option Parked) (v : ℕ) (t : Side) → CountsFit t → CountsFit (call_ended T q v t)
  call_ended-fit None v t fit = fit
  call_ended-fit (Some (ObtainWait number sel)) v t fit = fit
  call_ended-fit (Some (ObtainReady key parent object sel)) v t fit = fit
  call_ended-fit (Some ObtainCancelled) v t fit = fit
  call_ended-fit (Some (DelegateWait parent)) v t fit = fit
  call_ended-fit (Some (DelegateReady parent key)) v t fit = fit
  call_ended-fit (Some (RevokeWait j)) v t fit =
      mapped-fit t (λ (x : JobRow). record x { waiters = without_number x.waiters v; keep = x.keep && not ((x.id == j) && (x.root.vpe == v)) })
      (λ x. omega arith) fit
  call_ended-fit (Some (Ready code)) v t fit = fit

  -- a VPE ends, but for what it holds
  pub ended_but_held-sound : (s : Side) → IsSound T i s → (v : ℕ) → kernel_of T v ≡ i → IsSound T i (ended_but_held T i v s)
      × NoMore (unparked v s) (ended_but_held T i v s)
  ended_but_held-sound s is v local =
      let asks : List Ask = (row s v).asks in
      let answered : Side = in_turn (ask_ended T i) asks (buried v s) in
      let answered-sound : IsSound T i answered
      × NoMore s answered = in_turn-keeps_each (λ t. IsSound T i t × NoMore s t) (ask_ended T i) asks (λ a among t here. let step =
      ask_ended-sound a ((is.rows v).asks a among) t here.0 in
      (step.0, chained s t (ask_ended T i a t) here.1 step.1)) (buried v s) (buried-sound T valid i few None None None None s is v local, no-more s) in
      let dead : (row answered v).alive ≡ false = in_turn-keeps (IsDead v) (ask_ended T i) (λ a t here. ask_ended-dead v a t here) asks (buried v s)
      (ap (λ (r : VpeRow). r.alive) (get_or-put_same no_vpe s.vpes v (record (row s v) { alive = false; asks = [] }))) in
      let left-sound : IsSound T i (ended_but_held T i v s) = call_ended-sound answered answered-sound.0 v local dead (parked answered v) refl in
      let left-parks : NoMore (unparked v s) (ended_but_held T i v s) = (
        (λ w. let less = (unparked-both s answered v answered-sound.1).0 w in
            let same = ap (λ (ps : List (Option Parked)). one_if (get_or ps w None)) (call_ended-parks (parked answered v) v (unparked v answered)) in
            omega (arith, less, same)),
        (λ fit. call_ended-fit (parked answered v) v (unparked v answered) (answered-sound.1.1 fit)),
      ) in
      (left-sound, left-parks)

  -- and what it holds is revoked
  pub ended-sound : (s : Side) → IsSound T i s → (v : ℕ) → kernel_of T v ≡ i → IsSound T i (ended T i v s) × NoMore (unparked v s) (ended T i v s)
  unfolding ended
  ended-sound s is v local =
      let left : Side = ended_but_held T i v s in
      in_turn-keeps (λ t. IsSound T i t × NoMore (unparked v s) t) (revoked_if_left T i) (λ k t here. let step = revoked-sound k (cap t k) t refl here.0 in
      (step.0, chained (unparked v s) t (revoked_if_there i k (cap t k) t) here.1 step.1)) (keys_of_vpe left v) left (ended_but_held-sound s is v local)
