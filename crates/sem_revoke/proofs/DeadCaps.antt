-- What a dead VPE holds is marked: its end marks all of it, no mark of it is taken away, and it gets nothing more.
use Rattle.sem_msg.specs.JobRows.{without_number}
use Rattle.std.specs.List.{list_any}
use Rattle.sem_key.specs.Region.{children_of}
use Rattle.std.proofs.Common.{◌≡◌, ℕ, ◌<◌, Bool, true, false, not, ◌&&◌, List, [], ◌∷◌, Option, Some, None, is_some, refl, sym, ap, ◌∙◌, subst, inl, inr}
use Rattle.std.proofs.Common.{eq-eqb}
use Rattle.std.specs.Prelude.{◌==◌, if◌then◌else◌}
use Rattle.std.specs.List.{Contains}
use Rattle.std.specs.Option.{option_map_or}
use Rattle.std.proofs.lemmas.Bool.{cases_Bool, cond_both, cond-true, and_parts, and_from, true≢false, not-true}
use Rattle.std.proofs.lemmas.List.Elements.{Contains-append_cases}
use Rattle.std.proofs.lemmas.Option.{same_Some}
use Rattle.sem_key.specs.KeyName.{KeyName, key_eq}
use Rattle.sem_key.specs.Lists.{in_turn}
use Rattle.sem_key.specs.Capability.{Capability}
use Rattle.sem_key.specs.CapList
use Rattle.sem_key.specs.CapList.{with_mark}
use Rattle.sem_key.specs.Region.{region}
use Rattle.sem_key.specs.Region.Reached.{at_root}
use Rattle.sem_key.proofs.KeyTests.{key_eq-true}
use Rattle.sem_key.proofs.Members.{found, Contains-nil, Contains-cons_cases, Contains-filter, Contains-map, Contains-from_map}
use Rattle.sem_key.proofs.Regions.{region-exact, find-at}
use Rattle.sem_msg.specs.declared.code.Code.TheVariants.{Dead}
use Rattle.sem_msg.specs.Codes.{code_number}
use Rattle.sem_msg.specs.declared.state.Ask.{Ask}
use Rattle.sem_msg.specs.declared.state.Ask.TheVariants.{Obtain as ObtainAsk, Delegate as DelegateAsk}
use Rattle.sem_msg.specs.declared.state.Parked.{Parked}
use Rattle.sem_msg.specs.declared.state.Parked.TheVariants.{ObtainWait, ObtainReady, ObtainCancelled, DelegateWait, DelegateReady, RevokeWait, Ready}
use Rattle.sem_msg.specs.Rows.{JobRow}
use Rattle.sem_msg.specs.Setup.{Setup, IsSetup}
use Rattle.sem_msg.specs.Lookups.{kernel_of}
use Rattle.sem_machine.specs.Sides.{Side, row, cap, parked, unparked, buried, job_opened, mark_all, unbind_all}
use Rattle.sem_machine.specs.Asks.{asker, waits_for, is_unawaited, promise_freed, call_refused, refusal_sent, ask_refused}
use Rattle.sem_machine.specs.Revokes.{request_or_adopt, opened, begin}
use Rattle.sem_machine.specs.Ends.{ask_ended, call_ended, keys_of_vpe, revoked_if_left, ended_but_held, ended}
use Rattle.sem_machine.specs.Sound.{IsSound}
use Rattle.sem_machine.proofs.Folds.{in_turn-keeps}
use Rattle.sem_sound.proofs.Refusing.{revoked-sound, ended_but_held-sound}
use Rattle.sem_revoke.proofs.Rowing.{revoked_if_there}
use Rattle.sem_revoke.proofs.Steady.{IsSteady, asks_for-steady, settled-steady, rest-steady}
use Rattle.sem_revoke.proofs.Waits.{parked-other, asks-wait, wait-id}
use Rattle.sem_msg.specs.ParkedStates.{state_of}

module _ (k : KeyName) where
  -- the capability of the key is marked
  abbrev pub IsDoomed : Side → Type 0
  IsDoomed t = (c : Capability) → Contains t.caps c → c.key ≡ k → is_some c.mark ≡ true

  -- and no job keeps it as its root
  abbrev pub Unkept : Side → Type 0
  Unkept t = (x : JobRow) → Contains t.jobs x → x.keep ≡ true → x.root ≡ k → ⊥

  abbrev pub Buried : Side → Type 0
  Buried t = IsDoomed t × Unkept t

  pub unkept-steady : IsSteady Unkept
  unkept-steady = record {
    caps = λ t cs thin is. is;
    restores = λ u t x was among keeps is. is;
    bound = λ t es is. is;
    jobs = λ t js less is. λ y among keeps same. let x = less y among in is x.0 x.1 (x.4 keeps) (sym x.3 ∙ same);
    opens = λ t root up ws is. λ y among keeps same. elim (Contains-append_cases t.jobs (record {
      id = t.next_job;
      root = root;
      up = up;
      waiters = ws;
      count = 0;
      keep = false;
    } ∷ []) y among) [
      | inl old ↦ is y old keeps same
      | inr new ↦ elim (Contains-cons_cases (record { id = t.next_job; root = root; up = up; waiters = ws; count = 0; keep = false }) [] y new) [
        | inl now ↦ let no' : false ≡ true = ap (λ (z : JobRow). z.keep) now ∙ keeps in absurd cc
        | inr none ↦ absurd (Contains-nil y none)
      ]
    ];
    frees = λ t v sel is. is;
    wakes = λ t v is. is;
    sends = λ t j m loud is. is;
  }

  pub buried-steady : IsSteady Buried
  buried-steady = record {
    caps = λ t cs thin is. ((λ c among same. let d = thin c among in d.2.marks (is.0 d.0 d.1 (sym d.2.key ∙ same))), is.1);
    restores = λ u t x was among keeps is. (
      (λ c there same.
          let f : Capability → Capability = λ d. record d { children = []; mark = None } in
          let d = Contains-from_map (λ (y : Capability). if key_eq y.key x.root then f y else y) t.caps c there in
          elim (cases_Bool (key_eq d.0.key x.root)) [
            | inl root ↦
                let at' : d.0.key ≡ c.key = ap (λ (y : Capability). y.key) (sym (cond-true (key_eq d.0.key x.root) (f d.0) d.0 root) ∙ d.2) in
                absurd (was.1 x among keeps (sym (key_eq-true d.0.key x.root root) ∙ (at' ∙ same)))
            | inr other ↦ let at' : d.0 ≡ c = sym (Rattle.std.proofs.lemmas.Bool.cond-false (key_eq d.0.key x.root) (f d.0) d.0 other) ∙ d.2 in
                subst (λ (y : Capability). is_some y.mark ≡ true) at' (is.0 d.0 d.1 (ap (λ (y : Capability). y.key) at' ∙ same))
          ]),
      is.1,
    );
    bound = λ t es is. is;
    jobs = λ t js less is. (is.0, unkept-steady.jobs t js less is.1);
    opens = λ t root up ws is. (is.0, unkept-steady.opens t root up ws is.1);
    frees = λ t v sel is. is;
    wakes = λ t v is. is;
    sends = λ t j m loud is. is;
  }

  -- The end of its VPE.
  module _ (T : Setup) (valid : IsSetup T) (i : ℕ) (low : i < T.kernels) where
    -- a sound side holds one capability of a key
    one-held : (t : Side) → IsSound T i t → (c : Capability) → Contains t.caps c → c.key ≡ k → cap t k ≡ Some c
    one-held t sound c among same = find-at t.caps sound.caps_rise k c among same

    -- its key is revoked
    revoked-now : (t : Side) → IsSound T i t → Unkept t → Buried (revoked_if_left T i k t)
    unfolding opened
    revoked-now t sound unkept = by (cap t k) refl
      where
        j : ℕ
        j = t.next_job

        ks : List KeyName
        ks = region t.caps k

        one : Side
        one = job_opened k None [] false t

        marks : (c : Capability) → cap t k ≡ Some c → c.mark ≡ None → IsDoomed (mark_all ks j one)
        marks d held unmarked c among same =
            let o = Contains-from_map (λ (x : Capability). if list_any (key_eq x.key) ks then with_mark j x else x) t.caps c among in
            let key : o.0.key ≡ c.key =
            sym (cond_both (list_any (key_eq o.0.key) ks) (with_mark j o.0) o.0 (λ (y : Capability). y.key ≡ o.0.key) (λ _. refl) (λ _. refl))
            ∙ ap (λ (y : Capability). y.key) o.2 in
            let has : list_any (key_eq o.0.key) ks ≡ true = ap (λ q. list_any (key_eq q) ks) (key ∙ same) ∙ in-region d held unmarked in
            ap (λ (y : Capability). is_some y.mark) (sym (sym (cond-true (list_any (key_eq o.0.key) ks) (with_mark j o.0) o.0 has) ∙ o.2))
          where
            in-region : (d : Capability) → cap t k ≡ Some d → d.mark ≡ None → list_any (key_eq k) ks ≡ true
            in-region d held unmarked = (region-exact t.caps k k sound.caps_rise).1 (at_root d held unmarked)

        begun : (c : Capability) → cap t k ≡ Some c → c.mark ≡ None → Buried (begin T i k None [] false t)
        begun c held unmarked =
            let base : Buried (unbind_all ks (mark_all ks j one)) = (marks c held unmarked, unkept-steady.opens t k None [] unkept) in
            settled-steady Buried buried-steady T i j (opened T i k None [] false t)
            (in_turn-keeps Buried (request_or_adopt T i j) (λ q u here. asks_for-steady Buried buried-steady T i j q u here) (children_of t.caps ks)
            (unbind_all ks (mark_all ks j one)) base)

        by_mark : (c : Capability) → cap t k ≡ Some c → (m : Option ℕ) → c.mark ≡ m → Buried (option_map_or (λ n. t) m (begin T i k None [] false t))
        by_mark c held None unmarked = begun c held unmarked
        by_mark c held (Some n) marked = (
          (λ d among same. ap (λ (y : Capability). is_some y.mark) (same_Some d c (sym (one-held t sound d among same) ∙ held))
              ∙ ap (λ (o : Option ℕ). is_some o) marked),
          unkept,
        )

        by : (o : Option Capability) → cap t k ≡ o → Buried (revoked_if_there T i k o t)
        by None none = ((λ c among same. let no' : None ≡ Some c = sym none ∙ one-held t sound c among same in absurd cc), unkept)
        by (Some c) held = by_mark c held c.mark refl

    all-revoked : (ks : List KeyName) (t : Side) → IsSound T i t → Unkept t → Contains ks k → Buried (in_turn (revoked_if_left T i) ks t)
    unfolding in_turn
    all-revoked [] t sound unkept among = absurd (Contains-nil k among)
    all-revoked (q ∷ qs) t sound unkept among = elim (Contains-cons_cases q qs k among) [
      | inl same ↦ in_turn-keeps Buried (revoked_if_left T i) (λ p u here. rest-steady Buried buried-steady T i p u here) qs (revoked_if_left T i q t)
          (subst (λ p. Buried (revoked_if_left T i p t)) (sym same) (revoked-now t sound unkept))
      | inr later ↦ all-revoked qs (revoked_if_left T i q t) (revoked-sound T valid i low q (cap t q) t refl sound).0
          (rest-steady Unkept unkept-steady T i q t unkept) later
    ]

    module _ (s : Side) (sound : IsSound T i s) (local : kernel_of T k.vpe ≡ i) (keepers : (x : JobRow) → Contains s.jobs x → x.keep ≡ true →
        Contains x.waiters x.root.vpe) where
      abbrev v : ℕ
      v = k.vpe

      -- the jobs stay, and whoever waits for a job goes on to do so
      abbrev Stays : Side → Type 0
      Stays t = (t.jobs ≡ s.jobs) × ((n : ℕ) → parked s v ≡ Some (RevokeWait n) → parked t v ≡ Some (RevokeWait n))

      freed-same : (p : Option Parked) (w : ℕ) (t : Side) → ((promise_freed p w t).jobs ≡ t.jobs) × ((promise_freed p w t).parks ≡ t.parks)
      freed-same None w t = (refl, refl)
      freed-same (Some (ObtainWait number sel)) w t = (refl, refl)
      freed-same (Some (ObtainReady key parent object sel)) w t = (refl, refl)
      freed-same (Some ObtainCancelled) w t = (refl, refl)
      freed-same (Some (DelegateWait parent)) w t = (refl, refl)
      freed-same (Some (DelegateReady parent key)) w t = (refl, refl)
      freed-same (Some (RevokeWait j)) w t = (refl, refl)
      freed-same (Some (Ready number)) w t = (refl, refl)

      awaits : (b w : Bool) → (b && not w) ≡ false → b ≡ true → w ≡ true
      awaits true true none here = refl
      awaits true false none here = absurd cc
      awaits false w none here = absurd cc

      asks-stay : (a : Ask) (t : Side) → Stays t → Stays (ask_ended T i a t)
      asks-stay a t here = cond_both (is_unawaited T i t a) t (ask_refused T i Dead a t) Stays (λ _. here)
          (λ awaited. cond_both (kernel_of T (asker a) == i) _ _ Stays (λ at'. refuses awaited at') (λ _. sends a))
        where
          refuses : is_unawaited T i t a ≡ false → (kernel_of T (asker a) == i) ≡ true → Stays (call_refused (code_number Dead) (asker a) t)
          refuses awaited at' =
              let freeing = freed-same (parked t (asker a)) (asker a) t in (
                freeing.0 ∙ here.0,
                λ n waits.
                    let other : v ≡ asker a → ⊥ = λ same. asks-wait a n (ap (waits_for a) (sym (here.1 n waits) ∙ ap (parked t) same)
                    ∙ awaits (kernel_of T (asker a) == i) (waits_for a (parked t (asker a))) awaited at') in
                    parked-other (promise_freed (parked t (asker a)) (asker a) t) (asker a) (Some (Ready (code_number Dead))) v other
                    ∙ (ap (λ ps. state_of ps v) freeing.1 ∙ here.1 n waits),
              )

          sends : (b : Ask) → Stays (refusal_sent T Dead b t)
          sends (ObtainAsk place target) = here
          sends (DelegateAsk parent object sel) = here

      abbrev answered : Side
      answered = in_turn (ask_ended T i) (row s v).asks (buried v s)

      stays : Stays answered
      stays = in_turn-keeps Stays (ask_ended T i) asks-stay (row s v).asks (buried v s) (refl, λ n waits. waits)

      -- who clears a key of the VPE is the VPE
      keeper : (x : JobRow) → Contains answered.jobs x → x.keep ≡ true → x.root ≡ k → parked answered v ≡ Some (RevokeWait x.id)
      keeper x among keeps root =
          let among' = subst (λ xs. Contains xs x) stays.0 among in
          let waits : Contains x.waiters v = subst (Contains x.waiters) (ap (λ (q : KeyName). q.vpe) root) (keepers x among' keeps) in
          stays.1 x.id (sound.waiters x v among' (λ none. absurd cc) waits)

      unkept-left : (p : Option Parked) → parked answered v ≡ p → Unkept (call_ended T p v (unparked v answered))
      unkept-left None at x among keeps root = let no' : None ≡ Some (RevokeWait x.id) = sym at ∙ keeper x among keeps root in absurd cc
      unkept-left (Some (ObtainWait number sel)) at x among keeps root = let no' : Some (ObtainWait number sel) ≡ Some (RevokeWait x.id) = sym at
          ∙ keeper x among keeps root in absurd cc
      unkept-left (Some (ObtainReady key parent object sel)) at x among keeps root = let no' : Some (ObtainReady key parent object sel)
          ≡ Some (RevokeWait x.id) = sym at ∙ keeper x among keeps root in absurd cc
      unkept-left (Some ObtainCancelled) at x among keeps root = let no' : Some ObtainCancelled ≡ Some (RevokeWait x.id) = sym at ∙ keeper x among keeps root in
          absurd cc
      unkept-left (Some (DelegateWait parent)) at x among keeps root = let no' : Some (DelegateWait parent) ≡ Some (RevokeWait x.id) = sym at
          ∙ keeper x among keeps root in absurd cc
      unkept-left (Some (DelegateReady parent key)) at x among keeps root = let no' : Some (DelegateReady parent key) ≡ Some (RevokeWait x.id) = sym at
          ∙ keeper x among keeps root in absurd cc
      unkept-left (Some (Ready code)) at x among keeps root = let no' : Some (Ready code) ≡ Some (RevokeWait x.id) = sym at ∙ keeper x among keeps root in
          absurd cc
      unkept-left (Some (RevokeWait j)) at y among keeps root =
          let f : JobRow → JobRow = λ x. record x { waiters = without_number x.waiters v; keep = x.keep && not ((x.id == j) && (x.root.vpe == v)) } in
          let o = Contains-from_map f answered.jobs y among in
          let is : f o.0 ≡ y = o.2 in
          let same-root : o.0.root ≡ k = ap (λ (z : JobRow). z.root) is ∙ root in
          let kept = and_parts o.0.keep (not ((o.0.id == j) && (o.0.root.vpe == v))) (ap (λ (z : JobRow). z.keep) is ∙ keeps) in
          let id : j ≡ o.0.id = wait-id j o.0.id (sym at ∙ keeper o.0 o.1 kept.0 same-root) in
          absurd (true≢false
          (sym (and_from (o.0.id == j) (o.0.root.vpe == v) (eq-eqb o.0.id j (sym id)) (eq-eqb o.0.root.vpe v (ap (λ (q : KeyName). q.vpe) same-root)))
          ∙ not-true ((o.0.id == j) && (o.0.root.vpe == v)) kept.1))

      -- when its VPE ends, it is marked
      pub ended-buried : Buried (ended T i v s)
      unfolding ended
      ended-buried = by (cap left k) refl
        where
          left : Side
          left = ended_but_held T i v s

          sound-left : IsSound T i left
          sound-left = (ended_but_held-sound T valid i low s sound v local).0

          unkept : Unkept left
          unkept = unkept-left (parked answered v) refl

          by : (o : Option Capability) → cap left k ≡ o → Buried (in_turn (revoked_if_left T i) (keys_of_vpe left v) left)
          by None none = in_turn-keeps Buried (revoked_if_left T i) (λ q u here. rest-steady Buried buried-steady T i q u here) (keys_of_vpe left v) left
              ((λ c among same. let no' : None ≡ Some c = sym none ∙ one-held left sound-left c among same in absurd cc), unkept)
          by (Some c) held =
              let there = found (λ (x : Capability). key_eq x.key k) left.caps c held in
              let among : Contains (CapList.keys_of left.caps) k = subst (Contains (CapList.keys_of left.caps)) (key_eq-true c.key k there.1)
              (Contains-map (λ (x : Capability). x.key) left.caps c there.0) in
              all-revoked (keys_of_vpe left v) left sound-left unkept (Contains-filter (λ (q : KeyName). q.vpe == v) (CapList.keys_of left.caps) k among
              (eq-eqb v v refl))
