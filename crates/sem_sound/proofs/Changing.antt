-- Changes of what is kept of a VPE keep a side sound.
use Rattle.sem_msg.specs.declared.limits.TheConstants.{ASKS}
use Rattle.sem_key.specs.declared.limits.TheConstants.{VPES, NUMBERS}
use Rattle.std.proofs.Common.{◌≡◌, ◌≢◌, ℕ, ◌+◌, ◌<◌, ◌≤◌, ◌⊎◌, true, false, List, [], ◌∷◌, ◌++◌, ◌&&◌, length, drop, get_or, Option, Some, None, refl, sym, ap}
use Rattle.std.proofs.Common.{subst, ◌∙◌, inl, inr, arith}
use Rattle.std.specs.Prelude.{◌==◌, nat_lt, if◌then◌else◌}
use Rattle.std.specs.List.{Contains, sum_by}
use Rattle.std.proofs.lemmas.Bool.{cases_eq, cases_order, ne_eqb, and_right, cond_both, ltb-true, lt-ltb, le-ltb}
use Rattle.std.proofs.lemmas.List.Elements.{Contains-push_cases}
use Rattle.sem_key.specs.KeyName.{KeyName}
use Rattle.sem_key.specs.Lists.{put}
use Rattle.sem_key.specs.Capability.{Capability}
use Rattle.sem_msg.specs.declared.state.Slot.{Slot}
use Rattle.sem_msg.specs.declared.state.Slot.TheVariants.{Free, Held, Promised}
use Rattle.sem_msg.specs.declared.state.Ask.{Ask}
use Rattle.sem_msg.specs.declared.state.Parked.{Parked}
use Rattle.sem_msg.specs.declared.state.Parked.TheVariants.{RevokeWait}
use Rattle.sem_msg.specs.declared.state.Pending.{Pending}
use Rattle.sem_msg.specs.Rows.{Endpoint, JobRow, VpeRow, no_vpe}
use Rattle.sem_msg.specs.Setup.{Setup, IsSetup}
use Rattle.sem_msg.specs.Lookups.{kernel_of, calls_of}
use Rattle.sem_machine.specs.Sound.{IsSoundCall, IsSoundAsk, bit, kept, keeps_number, keeps_selector, one_if, in_hand, is_promised, IsSoundRow, IsSoundBut}
use Rattle.sem_machine.specs.Sound.{IsSoundEndpoint, ids_owed, ids_paid}
use Rattle.sem_machine.specs.Sides.{Side, row, slot, parked, call_counted, drawn, with_slot, asked, ask_taken, buried, with_endpoint}
use Rattle.sem_key.proofs.Puts.{get_or-put_same, get_or-put_other}
use Rattle.sem_key.proofs.Members.{Contains-nil, Contains-tail}
use Rattle.sem_machine.proofs.Weighing.{weigh-put}
use Rattle.sem_sound.proofs.Named.{kernel-vpe}
use Rattle.sem_sound.proofs.Counts.{bit-most, in_hand-same, in_hand-other, in_hand-here, length-put}

module _ (T : Setup) (valid : IsSetup T) (i : ℕ) (few : i < T.kernels) where
  pub local-place : (v : ℕ) → kernel_of T v ≡ i → v < VPES
  local-place v local = kernel-vpe T valid v (subst (λ k. k < T.kernels) (sym local) few)

  -- What a new row has to keep.
  pub record RowStep (n p n' p' : Option (ℕ × ℕ)) (gone : Option ℕ) (s : Side) (v : ℕ) (r : VpeRow) : Type 0 where
    pub sound : IsSoundRow T i v r
    pub alive : r.alive ≡ true → (row s v).alive ≡ true
    pub slots_back : (sel : ℕ) (k : KeyName) → get_or r.slots sel Free ≡ Held k → slot s v sel ≡ Held k
    pub slots_on : (sel : ℕ) (k : KeyName) → slot s v sel ≡ Held k → get_or r.slots sel Free ≡ Held k
    pub numbers : (m : ℕ) → in_hand n' v m + bit (nat_lt m (row s v).next_number) ≤ in_hand n v m + bit (nat_lt m r.next_number)
    pub numbers_else : (w m : ℕ) → (w ≡ v → ⊥) → in_hand n' w m ≤ in_hand n w m
    pub promises : (sel : ℕ) → in_hand p' v sel + is_promised (slot s v sel) ≤ in_hand p v sel + is_promised (get_or r.slots sel Free)
    pub promises_least : (sel : ℕ) → r.alive ≡ true → in_hand p v sel + is_promised (get_or r.slots sel Free) ≤ in_hand p' v sel + is_promised (slot s v sel)
    pub promises_else : (w sel : ℕ) → (w ≡ v → ⊥) → in_hand p' w sel ≡ in_hand p w sel
    pub ids : one_if n' + ((row s v).next_number + (row s v).next_call) ≤ one_if n + (r.next_number + r.next_call)

  -- What a new parked call, or none, has to keep.
  pub record CallStep (n p n' p' : Option (ℕ × ℕ)) (gone : Option ℕ) (s : Side) (v : ℕ) (o : Option Parked) : Type 0 where
    pub sound : (q : Parked) → o ≡ Some q → IsSoundCall T i v q
    pub waits : (x : JobRow) → Contains s.jobs x → gone ≢ Some x.id → Contains x.waiters v → o ≡ Some (RevokeWait x.id)
    pub numbers : (m : ℕ) → keeps_number m (kept o) + in_hand n' v m ≤ keeps_number m (kept (parked s v)) + in_hand n v m
    pub numbers_else : (w m : ℕ) → (w ≡ v → ⊥) → in_hand n' w m ≤ in_hand n w m
    pub promises : (sel : ℕ) → keeps_selector sel (kept o) + in_hand p' v sel ≡ keeps_selector sel (kept (parked s v)) + in_hand p v sel
    pub promises_else : (w sel : ℕ) → (w ≡ v → ⊥) → in_hand p' w sel ≡ in_hand p w sel
    pub ids : one_if (kept o) + one_if n' ≤ one_if (kept (parked s v)) + one_if n

  module _ (s : Side) (v : ℕ) (r : VpeRow) where
    -- what is so of the new row and of each other row is so of each row
    pub by_row : (P : ℕ → VpeRow → Type 0) → P v r → ((w : ℕ) → (w ≡ v → ⊥) → P w (row s w)) → (w : ℕ) → P w (get_or (put no_vpe s.vpes v r) w no_vpe)
    by_row P here others w = elim (cases_eq w v) [
      | inl same ↦ subst (λ x. P x (get_or (put no_vpe s.vpes v r) x no_vpe)) (sym same) (subst (P v) (sym (get_or-put_same no_vpe s.vpes v r)) here)
      | inr other ↦ subst (P w) (sym (get_or-put_other no_vpe s.vpes v w r other)) (others w other)
    ]

  pub row-changed : (n p n' p' : Option (ℕ × ℕ)) (g d : Option ℕ) (s : Side) → IsSoundBut T i n p g d 0 s → (v : ℕ) → kernel_of T v ≡ i → (r : VpeRow) →
      RowStep n p n' p' g s v r → IsSoundBut T i n' p' g d 0 (record s { vpes = put no_vpe s.vpes v r })
  row-changed n p n' p' g d s is v local r step = record {
    caps = is.caps;
    caps_rise = is.caps_rise;
    rows = by_row s v r (λ w x. IsSoundRow T i w x) step.sound (λ w other. is.rows w);
    calls = is.calls;
    pendings = is.pendings;
    ups = is.ups;
    waiters_rise = is.waiters_rise;
    ids_drawn = is.ids_drawn;
    jobs_rise = is.jobs_rise;
    outs = is.outs;
    inbox = is.inbox;
    endpoints = is.endpoints;
    endpoint_places = is.endpoint_places;
    park_places = is.park_places;
    boxes = is.boxes;
    places = length-put no_vpe s.vpes VPES v r is.places (local-place v local);
    numbers = by_row s v r (λ w x. (m : ℕ) → keeps_number m (kept (parked s w)) + (ps w m + cs w m) + in_hand n' w m ≤ bit (nat_lt m x.next_number))
        (λ m. let before = is.numbers v m in let more = step.numbers m in omega (arith, before, more))
        (λ w other m. let before = is.numbers w m in let more = step.numbers_else w m other in omega (arith, before, more));
    promises = by_row s v r (λ w x. (sel : ℕ) → keeps_selector sel (kept (parked s w)) + qs w sel + in_hand p' w sel ≤ is_promised (get_or x.slots sel Free))
        (λ sel. let before = is.promises v sel in let more = step.promises sel in omega (arith, before, more))
        (λ w other sel. let before = is.promises w sel in let more = step.promises_else w sel other in omega (arith, before, more));
    no_other_promise = by_row s v r (λ w x. (sel : ℕ) → x.alive ≡ true →
        is_promised (get_or x.slots sel Free) ≤ keeps_selector sel (kept (parked s w)) + qs w sel + in_hand p' w sel)
        (λ sel lives. let before = is.no_other_promise v sel (step.alive lives) in let more = step.promises_least sel lives in omega (arith, before, more))
        (λ w other sel lives. let before = is.no_other_promise w sel lives in let more = step.promises_else w sel other in omega (arith, before, more));
    at_selector = λ c among. by_row s v r (λ w x. c.key.vpe ≡ w → get_or x.slots c.selector Free ≡ Held c.key)
        (λ here. step.slots_on c.selector c.key (subst (λ w. slot s w c.selector ≡ Held c.key) here (is.at_selector c among)))
        (λ w other here. subst (λ w. slot s w c.selector ≡ Held c.key) here (is.at_selector c among))
        c.key.vpe refl;
    held = λ w sel k at. by_row s v r (λ w x. get_or x.slots sel Free ≡ Held k →
        (k.vpe ≡ w) × ((c : Capability) × Contains s.caps c × (c.key ≡ k) × (c.selector ≡ sel)))
        (λ at. is.held v sel k (step.slots_back sel k at))
        (λ w other at. is.held w sel k at)
        w at;
    marker = is.marker;
    roots = is.roots;
    waiters = is.waiters;
    counted = is.counted;
    ids =
        let paid = weigh-put (λ (x : VpeRow). x.next_number + x.next_call) no_vpe refl s.vpes v r in
        let before = is.ids in
        let more = step.ids in
        omega (arith, paid, before, more);
  }
    where
      ps : ℕ → ℕ → ℕ
      ps w m = sum_by (λ (q : Pending). bit ((q.key.vpe == w) && (q.key.number == m))) s.pendings

      cs : ℕ → ℕ → ℕ
      cs w m = sum_by (λ (c : Capability). bit ((c.key.vpe == w) && (c.key.number == m))) s.caps

      qs : ℕ → ℕ → ℕ
      qs w sel = sum_by (λ (q : Pending). bit ((q.key.vpe == w) && (q.sel == sel))) s.pendings

  -- What is so of the new call and of each other is so of each.
  by_call : (s : Side) (v : ℕ) (o : Option Parked) (P : ℕ → Option Parked → Type 0) → P v o → ((w : ℕ) → (w ≡ v → ⊥) → P w (parked s w)) → (w : ℕ) →
      P w (get_or (put None s.parks v o) w None)
  by_call s v o P here others w = elim (cases_eq w v) [
    | inl same ↦ subst (λ x. P x (get_or (put None s.parks v o) x None)) (sym same) (subst (P v) (sym (get_or-put_same None s.parks v o)) here)
    | inr other ↦ subst (P w) (sym (get_or-put_other None s.parks v w o other)) (others w other)
  ]

  pub call-changed : (n p n' p' : Option (ℕ × ℕ)) (g d : Option ℕ) (s : Side) → IsSoundBut T i n p g d 0 s → (v : ℕ) → kernel_of T v ≡ i → (o : Option Parked) →
      CallStep n p n' p' g s v o → IsSoundBut T i n' p' g d 0 (record s { parks = put None s.parks v o })
  call-changed n p n' p' g d s is v local o step = record {
    caps = is.caps;
    caps_rise = is.caps_rise;
    rows = is.rows;
    calls = by_call s v o (λ w x. (q : Parked) → x ≡ Some q → (kernel_of T w ≡ i) × IsSoundCall T i w q) (λ q at. (local, step.sound q at))
        (λ w other q at. is.calls w q at);
    pendings = is.pendings;
    ups = is.ups;
    waiters_rise = is.waiters_rise;
    ids_drawn = is.ids_drawn;
    jobs_rise = is.jobs_rise;
    outs = is.outs;
    inbox = is.inbox;
    places = is.places;
    endpoints = is.endpoints;
    endpoint_places = is.endpoint_places;
    park_places = length-put None s.parks VPES v o is.park_places (local-place v local);
    boxes = is.boxes;
    numbers = by_call s v o (λ w x. (m : ℕ) → keeps_number m (kept x) + (ps w m + cs w m) + in_hand n' w m ≤ bit (nat_lt m (row s w).next_number))
        (λ m. let before = is.numbers v m in let more = step.numbers m in omega (arith, before, more))
        (λ w other m. let before = is.numbers w m in let more = step.numbers_else w m other in omega (arith, before, more));
    promises = by_call s v o (λ w x. (sel : ℕ) → keeps_selector sel (kept x) + qs w sel + in_hand p' w sel ≤ is_promised (slot s w sel))
        (λ sel. let before = is.promises v sel in let more = step.promises sel in omega (arith, before, more))
        (λ w other sel. let before = is.promises w sel in let more = step.promises_else w sel other in omega (arith, before, more));
    no_other_promise = by_call s v o (λ w x. (sel : ℕ) → (row s w).alive ≡ true →
        is_promised (slot s w sel) ≤ keeps_selector sel (kept x) + qs w sel + in_hand p' w sel)
        (λ sel lives. let before = is.no_other_promise v sel lives in let more = step.promises sel in omega (arith, before, more))
        (λ w other sel lives. let before = is.no_other_promise w sel lives in let more = step.promises_else w sel other in omega (arith, before, more));
    at_selector = is.at_selector;
    held = is.held;
    marker = is.marker;
    roots = is.roots;
    waiters = λ x w among still in_waiters. by_call s v o (λ w x'. Contains x.waiters w → x' ≡ Some (RevokeWait x.id))
        (λ in_v. step.waits x among still in_v)
        (λ w other in_w. is.waiters x w among still in_w)
        w in_waiters;
    counted = is.counted;
    ids =
        let owed = weigh-put (λ (x : Option Parked). one_if (kept x)) None refl s.parks v o in
        let before = is.ids in
        let more = step.ids in
        omega (arith, owed, before, more);
  }
    where
      ps : ℕ → ℕ → ℕ
      ps w m = sum_by (λ (q : Pending). bit ((q.key.vpe == w) && (q.key.number == m))) s.pendings

      cs : ℕ → ℕ → ℕ
      cs w m = sum_by (λ (c : Capability). bit ((c.key.vpe == w) && (c.key.number == m))) s.caps

      qs : ℕ → ℕ → ℕ
      qs w sel = sum_by (λ (q : Pending). bit ((q.key.vpe == w) && (q.sel == sel))) s.pendings

  -- Rows of which selectors and numbers stay.
  module _ (n p : Option (ℕ × ℕ)) (g d : Option ℕ) (s : Side) (is : IsSoundBut T i n p g d 0 s) (v : ℕ) (local : kernel_of T v ≡ i) where
    calm-row : (r : VpeRow) → IsSoundRow T i v r → (r.alive ≡ true → (row s v).alive ≡ true) → r.slots ≡ (row s v).slots →
        r.next_number ≡ (row s v).next_number → (row s v).next_call ≤ r.next_call → IsSoundBut T i n p g d 0 (record s { vpes = put no_vpe s.vpes v r })
    calm-row r sound alive slots number calls = row-changed n p n p g d s is v local r (record {
      sound = sound;
      alive = alive;
      slots_back = λ sel k at. sym (ap (λ xs. get_or xs sel Free) slots) ∙ at;
      slots_on = λ sel k at. ap (λ xs. get_or xs sel Free) slots ∙ at;
      numbers = λ m. let b = ap (λ q. bit (nat_lt m q)) number in omega (arith, b);
      numbers_else = λ w m other. omega arith;
      promises = λ sel. let b = ap (λ xs. is_promised (get_or xs sel Free)) slots in omega (arith, b);
      promises_least = λ sel lives. let b = ap (λ xs. is_promised (get_or xs sel Free)) slots in omega (arith, b);
      promises_else = λ w sel other. refl;
      ids = omega (arith, number, calls);
    })

    -- a call is counted
    pub counted-sound : (row s v).next_call < length (calls_of T v) → IsSoundBut T i n p g d 0 (call_counted v s)
    counted-sound more =
        let r = is.rows v in
        calm-row (record (row s v) { next_call = (row s v).next_call + 1 }) (record {
          others = λ remote. absurd (remote local);
          next_number = r.next_number;
          next_call = omega (arith, more);
          asks = r.asks;
          few_asks = r.few_asks;
        }) (λ lives. lives) refl refl (omega arith)

    -- an ask comes, or is taken
    pub asked-sound : (a : Ask) → IsSoundAsk T a → IsSoundBut T i n p g d 0 (asked v a s)
    asked-sound a sound =
        let r = is.rows v in
        let asks : List Ask = (row s v).asks in
        let more : List Ask = if nat_lt (length asks) ASKS then asks ++ a ∷ [] else asks in
        calm-row (record (row s v) { asks = more }) (record {
          others = λ remote. absurd (remote local);
          next_number = r.next_number;
          next_call = r.next_call;
          asks = cond_both (nat_lt (length asks) ASKS) (asks ++ a ∷ []) asks (λ xs. (b : Ask) → Contains xs b →
              IsSoundAsk T b) (λ _ b among. elim (Contains-push_cases asks a b among) [
                | inl before ↦ r.asks b before
                | inr same ↦ subst (IsSoundAsk T) same sound
              ]) (λ _. r.asks);
          few_asks = cond_both (nat_lt (length asks) ASKS) (asks ++ a ∷ []) asks (λ xs. length xs ≤ ASKS) (λ room. let below =
              ltb-true (length asks) ASKS room in let long = longer asks a in omega (arith, below, long)) (λ _. r.few_asks);
        }) (λ lives. lives) refl refl (omega arith)
      where
        longer : (xs : List Ask) (x : Ask) → length (xs ++ x ∷ []) ≡ length xs + 1
        longer [] x = refl
        longer (y ∷ ys) x = let rest = longer ys x in omega (arith, rest)

    pub taken-sound : IsSoundBut T i n p g d 0 (ask_taken v s)
    taken-sound =
        let r = is.rows v in
        calm-row (record (row s v) { asks = drop 1 (row s v).asks }) (record {
          others = λ remote. absurd (remote local);
          next_number = r.next_number;
          next_call = r.next_call;
          asks = λ b among. r.asks b (later (row s v).asks b among);
          few_asks = let less = shorter (row s v).asks in
              let few' = r.few_asks in omega (arith, less, few');
        }) (λ lives. lives) refl refl (omega arith)
      where
        later : (xs : List Ask) (b : Ask) → Contains (drop 1 xs) b → Contains xs b
        later [] b among = among
        later (x ∷ xs) b among = Contains-tail x xs b among

        shorter : (xs : List Ask) → length (drop 1 xs) ≤ length xs
        shorter [] = omega arith
        shorter (x ∷ xs) = omega arith

    -- the call that is counted pays for a job
    pub counted-pays : ids_owed (call_counted v s) + (one_if n + 1) ≤ ids_paid (call_counted v s)
    counted-pays =
        let paid = weigh-put (λ (x : VpeRow). x.next_number + x.next_call) no_vpe refl s.vpes v (record (row s v) { next_call = (row s v).next_call + 1 }) in
        let before = is.ids in
        omega (arith, paid, before)

    -- an endpoint is bound, or its ring changed
    pub endpoint-sound : (ep : ℕ) (e : Option Endpoint) → ((x : Endpoint) → e ≡ Some x → IsSoundEndpoint T i v x) →
        IsSoundBut T i n p g d 0 (with_endpoint v ep e s)
    endpoint-sound ep e sound = record {
      caps = is.caps;
      caps_rise = is.caps_rise;
      rows = is.rows;
      calls = is.calls;
      pendings = is.pendings;
      ups = is.ups;
      waiters_rise = is.waiters_rise;
      ids_drawn = is.ids_drawn;
      jobs_rise = is.jobs_rise;
      outs = is.outs;
      inbox = is.inbox;
      places = is.places;
      park_places = is.park_places;
      boxes = is.boxes;
      endpoints = λ w q x at. elim (cases_eq w v) [
        | inl same ↦ subst (λ u. IsSoundEndpoint T i u x) (sym same)
            (in_row q x (sym (ap (λ es. get_or es q None) (ap (λ u. get_or (put [] s.endpoints v new) u []) same ∙ get_or-put_same [] s.endpoints v new)) ∙ at))
        | inr other ↦ is.endpoints w q x (sym (ap (λ es. get_or es q None) (get_or-put_other [] s.endpoints v w new other)) ∙ at)
      ];
      endpoint_places = length-put [] s.endpoints VPES v new is.endpoint_places (local-place v local);
      numbers = is.numbers;
      promises = is.promises;
      no_other_promise = is.no_other_promise;
      at_selector = is.at_selector;
      held = is.held;
      marker = is.marker;
      roots = is.roots;
      waiters = is.waiters;
      counted = is.counted;
      ids = is.ids;
    }
      where
        old : List (Option Endpoint)
        old = get_or s.endpoints v []

        new : List (Option Endpoint)
        new = put None old ep e

        in_row : (q : ℕ) (x : Endpoint) → get_or new q None ≡ Some x → IsSoundEndpoint T i v x
        in_row q x at = elim (cases_eq q ep) [
          | inl equal ↦ sound x (sym (ap (λ k. get_or new k None) equal ∙ get_or-put_same None old ep e) ∙ at)
          | inr other ↦ is.endpoints v q x (sym (get_or-put_other None old ep q e other) ∙ at)
        ]

    -- the VPE dies
    pub buried-sound : IsSoundBut T i n p g d 0 (buried v s)
    buried-sound =
        let r = is.rows v in
        calm-row (record (row s v) { alive = false; asks = [] }) (record {
          others = λ remote. absurd (remote local);
          next_number = r.next_number;
          next_call = r.next_call;
          asks = λ b among. absurd (Contains-nil b among);
          few_asks = omega arith;
        }) (λ lives. absurd cc) refl refl (omega arith)

    -- no job has the VPE among its waiters
    abbrev pub WaitsForNone : Type 0
    WaitsForNone = (x : JobRow) → Contains s.jobs x → g ≢ Some x.id → Contains x.waiters v → ⊥

    -- another parked call, which keeps what the one before kept
    pub parked-same : (o : Option Parked) → ((q : Parked) → o ≡ Some q → IsSoundCall T i v q) → WaitsForNone → kept o ≡ kept (parked s v) →
        IsSoundBut T i n p g d 0 (record s { parks = put None s.parks v o })
    parked-same o sound none same = call-changed n p n p g d s is v local o (record {
      sound = sound;
      waits = λ x among still in_v. absurd (none x among still in_v);
      numbers = λ m. let a = ap (keeps_number m) same in omega (arith, a);
      numbers_else = λ w m other. omega arith;
      promises = λ sel. let a = ap (keeps_selector sel) same in omega (arith, a);
      promises_else = λ w sel other. refl;
      ids = let a = ap (λ k. one_if k) same in omega (arith, a);
    })

  -- Numbers.

  next-bit : (m n : ℕ) → bit (n == m) + bit (nat_lt m n) ≤ bit (nat_lt m (n + 1))
  next-bit m n = elim (cases_order m n) [
    | inl same ↦
        let above : bit (nat_lt m (n + 1)) ≡ 1 = ap bit (lt-ltb m (n + 1) (omega (arith, same))) in
        let not_below : bit (nat_lt m n) ≡ 0 = ap bit (le-ltb m n (omega (arith, same))) in
        let most = bit-most (n == m) in
        omega (arith, above, not_below, most)
    | inr (inl low) ↦
        let above : bit (nat_lt m (n + 1)) ≡ 1 = ap bit (lt-ltb m (n + 1) (omega (arith, low))) in
        let other : bit (n == m) ≡ 0 = ap bit (ne_eqb n m (λ same. omega (arith, same, low))) in
        let most = bit-most (nat_lt m n) in
        omega (arith, above, other, most)
    | inr (inr high) ↦
        let other : bit (n == m) ≡ 0 = ap bit (ne_eqb n m (λ same. omega (arith, same, high))) in
        let not_below : bit (nat_lt m n) ≡ 0 = ap bit (le-ltb m n (omega (arith, high))) in
        omega (arith, other, not_below)
  ]

  module _ (p : Option (ℕ × ℕ)) (g d : Option ℕ) (s : Side) (v : ℕ) (local : kernel_of T v ≡ i) where
    -- a number is drawn, and is in hand
    pub drawn-sound : IsSoundBut T i None p g d 0 s → (row s v).next_number < NUMBERS → IsSoundBut T i (Some (v, (row s v).next_number)) p g d 0 (drawn v s)
    drawn-sound is below =
        let r = is.rows v in
        let next : ℕ = (row s v).next_number in
        row-changed None p (Some (v, next)) p g d s is v local (record (row s v) { next_number = next + 1 }) (record {
          sound = record {
            others = λ remote. absurd (remote local);
            next_number = omega (arith, below);
            next_call = r.next_call;
            asks = r.asks;
            few_asks = r.few_asks;
          };
          alive = λ lives. lives;
          slots_back = λ sel k at. at;
          slots_on = λ sel k at. at;
          numbers = λ m. let new = in_hand-same v next m in let more = next-bit m next in omega (arith, new, more);
          numbers_else = λ w m other. let none = in_hand-other v next w m other in omega (arith, none);
          promises = λ sel. omega arith;
          promises_least = λ sel lives. omega arith;
          promises_else = λ w sel other. refl;
          ids = omega arith;
        })

    -- a number in hand is given up
    pub number-dropped : (h : Option (ℕ × ℕ)) → IsSoundBut T i h p g d 0 s → IsSoundBut T i None p g d 0 s
    number-dropped h is = record {
      caps = is.caps;
      caps_rise = is.caps_rise;
      rows = is.rows;
      calls = is.calls;
      pendings = is.pendings;
      ups = is.ups;
      waiters_rise = is.waiters_rise;
      ids_drawn = is.ids_drawn;
      jobs_rise = is.jobs_rise;
      outs = is.outs;
      inbox = is.inbox;
      places = is.places;
      endpoints = is.endpoints;
      endpoint_places = is.endpoint_places;
      park_places = is.park_places;
      boxes = is.boxes;
      numbers = λ w m. let before = is.numbers w m in omega (arith, before);
      promises = is.promises;
      no_other_promise = is.no_other_promise;
      at_selector = is.at_selector;
      held = is.held;
      marker = is.marker;
      roots = is.roots;
      waiters = is.waiters;
      counted = is.counted;
      ids = let before = is.ids in omega (arith, before);
    }

    -- Selectors.

    -- a selector in hand is promised
    pub hand-promised : (n : Option (ℕ × ℕ)) (sel : ℕ) → IsSoundBut T i n (Some (v, sel)) g d 0 s → slot s v sel ≡ Promised
    hand-promised n sel is = from (slot s v sel) (let before = is.promises v sel in let here = in_hand-here v sel in omega (arith, before, here))
      where
        from : (x : Slot) → 1 ≤ is_promised x → x ≡ Promised
        from Free one = absurd (omega (arith, one))
        from (Held k) one = absurd (omega (arith, one))
        from Promised one = refl

    -- the rows with a selector in a state that holds nothing
    slot-row : (n p' : Option (ℕ × ℕ)) (sel : ℕ) (state : Slot) → IsSoundBut T i n p g d 0 s → ((k : KeyName) → state ≡ Held k → ⊥) →
        ((k : KeyName) → slot s v sel ≡ Held k → ⊥)
        → in_hand p' v sel + is_promised (slot s v sel) ≡ in_hand p v sel + is_promised state
        → ((w q : ℕ) → (w ≡ v → ⊥) ⊎ (q ≡ sel → ⊥) → in_hand p' w q ≡ in_hand p w q)
        → IsSoundBut T i n p' g d 0 (with_slot v sel state s)
    slot-row n p' sel state is new old here others =
        let r = is.rows v in
        row-changed n p n p' g d s is v local (record (row s v) { slots = put Free (row s v).slots sel state }) (record {
          sound = record {
            others = λ remote. absurd (remote local);
            next_number = r.next_number;
            next_call = r.next_call;
            asks = r.asks;
            few_asks = r.few_asks;
          };
          alive = λ lives. lives;
          slots_back = λ q k at. elim (cases_eq q sel) [
            | inl same ↦ absurd (new k (sym (ap (λ x. get_or (put Free (row s v).slots sel state) x Free) same ∙ get_or-put_same Free (row s v).slots sel state)
                ∙ at))
            | inr other ↦ sym (get_or-put_other Free (row s v).slots sel q state other) ∙ at
          ];
          slots_on = λ q k at. elim (cases_eq q sel) [
            | inl same ↦ absurd (old k (sym (ap (λ x. slot s v x) same) ∙ at))
            | inr other ↦ get_or-put_other Free (row s v).slots sel q state other ∙ at
          ];
          numbers = λ m. omega arith;
          numbers_else = λ w m other. omega arith;
          promises = λ q. let both = at q in omega (arith, both);
          promises_least = λ q lives. let both = at q in omega (arith, both);
          promises_else = λ w q other. others w q (inl other);
          ids = omega arith;
        })
      where
        at : (q : ℕ) → in_hand p' v q + is_promised (slot s v q) ≡ in_hand p v q + is_promised (get_or (put Free (row s v).slots sel state) q Free)
        at q = elim (cases_eq q sel) [
          | inl same ↦ subst (λ x. in_hand p' v x + is_promised (slot s v x) ≡ in_hand p v x + is_promised (get_or (put Free (row s v).slots sel state) x Free))
              (sym same) (let now : is_promised (get_or (put Free (row s v).slots sel state) sel Free) ≡ is_promised state =
              ap is_promised (get_or-put_same Free (row s v).slots sel state) in omega (arith, here, now))
          | inr other ↦ let stays = ap is_promised (get_or-put_other Free (row s v).slots sel q state other) in let hand = others v q (inr other) in
              omega (arith, stays, hand)
        ]

  pub in_hand-apart : (v sel w q : ℕ) → (w ≡ v → ⊥) ⊎ (q ≡ sel → ⊥) → in_hand (Some (v, sel)) w q ≡ 0
  in_hand-apart v sel w q (inl other) = in_hand-other v sel w q other
  in_hand-apart v sel w q (inr other) = ap bit (and_right (v == w) (sel == q) (ne_eqb sel q (λ same. other (sym same))))

  module _ (n : Option (ℕ × ℕ)) (g d : Option ℕ) (s : Side) (v : ℕ) (local : kernel_of T v ≡ i) (sel : ℕ) where
    -- a free selector is promised, and is in hand
    pub promised-sound : IsSoundBut T i n None g d 0 s → slot s v sel ≡ Free → IsSoundBut T i n (Some (v, sel)) g d 0 (with_slot v sel Promised s)
    promised-sound is free = slot-row None g d s v local n (Some (v, sel)) sel Promised is (λ k none. absurd cc) (λ k held. clash k (sym free ∙ held))
        (let here = in_hand-here v sel in let before : is_promised (slot s v sel) ≡ 0 = ap is_promised free in omega (arith, here, before))
        (λ w q apart. in_hand-apart v sel w q apart)
      where
        clash : (k : KeyName) → Free ≡ Held k → ⊥
        clash k none = cc

    -- a selector in hand is freed
    pub freed-sound : IsSoundBut T i n (Some (v, sel)) g d 0 s → IsSoundBut T i n None g d 0 (with_slot v sel Free s)
    freed-sound is =
        let promised : slot s v sel ≡ Promised = hand-promised (Some (v, sel)) g d s v local n sel is in
        slot-row (Some (v, sel)) g d s v local n None sel Free is (λ k none. absurd cc) (λ k held. clash k (sym promised ∙ held))
        (let here = in_hand-here v sel in let before : is_promised (slot s v sel) ≡ 1 = ap is_promised promised in omega (arith, here, before))
        (λ w q apart. sym (in_hand-apart v sel w q apart))
      where
        clash : (k : KeyName) → Promised ≡ Held k → ⊥
        clash k none = cc

    -- a selector of a dead VPE stays promised
    pub selector-dropped : IsSoundBut T i n (Some (v, sel)) g d 0 s → (row s v).alive ≡ false → IsSoundBut T i n None g d 0 s
    selector-dropped is dead = record {
      caps = is.caps;
      caps_rise = is.caps_rise;
      rows = is.rows;
      calls = is.calls;
      pendings = is.pendings;
      ups = is.ups;
      waiters_rise = is.waiters_rise;
      ids_drawn = is.ids_drawn;
      jobs_rise = is.jobs_rise;
      outs = is.outs;
      inbox = is.inbox;
      places = is.places;
      endpoints = is.endpoints;
      endpoint_places = is.endpoint_places;
      park_places = is.park_places;
      boxes = is.boxes;
      numbers = is.numbers;
      promises = λ w q. let before = is.promises w q in omega (arith, before);
      no_other_promise = λ w q lives. elim (cases_eq w v) [
        | inl same ↦ absurd (clash (sym dead ∙ (ap (λ x. (row s x).alive) (sym same) ∙ lives)))
        | inr other ↦ let before = is.no_other_promise w q lives in let none = in_hand-other v sel w q other in omega (arith, before, none)
      ];
      at_selector = is.at_selector;
      held = is.held;
      marker = is.marker;
      roots = is.roots;
      waiters = is.waiters;
      counted = is.counted;
      ids = is.ids;
    }
      where
        clash : false ≡ true → ⊥
        clash none = cc

  -- A parked call takes what is in hand, or gives it up.
  module _ (g d : Option ℕ) (s : Side) (v : ℕ) (local : kernel_of T v ≡ i) (o : Option Parked) (sound : (q : Parked) → o ≡ Some q →
      IsSoundCall T i v q) (m sel : ℕ) where
    pub parked-taking : (is : IsSoundBut T i (Some (v, m)) (Some (v, sel)) g d 0 s) → WaitsForNone (Some (v, m)) (Some (v, sel)) g d s is v local →
        kept (parked s v) ≡ None → kept o ≡ Some (m, sel) → IsSoundBut T i None None g d 0 (record s { parks = put None s.parks v o })
    parked-taking is none before now = call-changed (Some (v, m)) (Some (v, sel)) None None g d s is v local o (record {
      sound = sound;
      waits = λ x among still in_v. absurd (none x among still in_v);
      numbers = λ k. let a : keeps_number k (kept o) ≡ bit (m == k) = ap (keeps_number k) now in
          let b : keeps_number k (kept (parked s v)) ≡ 0 = ap (keeps_number k) before in let c = in_hand-same v m k in omega (arith, a, b, c);
      numbers_else = λ w k other. omega arith;
      promises = λ q. let a : keeps_selector q (kept o) ≡ bit (sel == q) = ap (keeps_selector q) now in
          let b : keeps_selector q (kept (parked s v)) ≡ 0 = ap (keeps_selector q) before in let c = in_hand-same v sel q in omega (arith, a, b, c);
      promises_else = λ w q other. sym (in_hand-other v sel w q other);
      ids = let a : one_if (kept o) ≡ 1 = ap (λ k. one_if k) now in let b : one_if (kept (parked s v)) ≡ 0 = ap (λ k. one_if k) before in omega (arith, a, b);
    })

    pub parked-giving : (is : IsSoundBut T i None None g d 0 s) → WaitsForNone None None g d s is v local → kept (parked s v) ≡ Some (m, sel) → kept o ≡ None →
        IsSoundBut T i (Some (v, m)) (Some (v, sel)) g d 0 (record s { parks = put None s.parks v o })
    parked-giving is none before now = call-changed None None (Some (v, m)) (Some (v, sel)) g d s is v local o (record {
      sound = sound;
      waits = λ x among still in_v. absurd (none x among still in_v);
      numbers = λ k. let a : keeps_number k (kept o) ≡ 0 = ap (keeps_number k) now in
          let b : keeps_number k (kept (parked s v)) ≡ bit (m == k) = ap (keeps_number k) before in let c = in_hand-same v m k in omega (arith, a, b, c);
      numbers_else = λ w k other. let c = in_hand-other v m w k other in omega (arith, c);
      promises = λ q. let a : keeps_selector q (kept o) ≡ 0 = ap (keeps_selector q) now in
          let b : keeps_selector q (kept (parked s v)) ≡ bit (sel == q) = ap (keeps_selector q) before in let c = in_hand-same v sel q in
          omega (arith, a, b, c);
      promises_else = λ w q other. in_hand-other v sel w q other;
      ids = let a : one_if (kept o) ≡ 0 = ap (λ k. one_if k) now in let b : one_if (kept (parked s v)) ≡ 1 = ap (λ k. one_if k) before in omega (arith, a, b);
    })
