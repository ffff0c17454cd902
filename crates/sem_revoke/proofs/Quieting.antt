-- A world in which no event is enabled is idle.
use Rattle.std.proofs.Common.{◌≡◌, ℕ, ◌≤◌, ◌<◌, true, false, not, ◌&&◌, List, [], ◌∷◌, Option, Some, None, is_some, is_none, slice_get, length, refl, sym, ap}
use Rattle.std.proofs.Common.{◌∙◌, subst, inl, inr, arith, eq-eqb}
use Rattle.std.specs.Prelude.{◌==◌, nat_lt, IsNone}
use Rattle.std.specs.List.{Contains}
use Rattle.std.proofs.lemmas.Bool.{cases_Bool, cases_eq, cases_lt, cond_both, and_from, ne_eqb, true≢false, ltb-true, lt-ltb}
use Rattle.sem_key.proofs.Members.{Contains-head, Contains-nil}
use Rattle.sem_msg.specs.declared.entry.Entry.{Entry}
use Rattle.sem_msg.specs.declared.event.Act.{Act}
use Rattle.sem_msg.specs.declared.event.Act.TheVariants.{Fetch, Handle, Upcall, Resume, Flush}
use Rattle.sem_msg.specs.declared.event.Event.{Event}
use Rattle.sem_msg.specs.declared.message.Message.{Message}
use Rattle.sem_msg.specs.declared.state.Ask.{Ask}
use Rattle.sem_msg.specs.declared.state.Parked.{Parked}
use Rattle.sem_msg.specs.Rows.{VpeRow}
use Rattle.sem_msg.specs.Setup.{Setup, IsSetup}
use Rattle.sem_msg.specs.Lookups.{kernel_of}
use Rattle.sem_msg.specs.Versions.{least_window}
use Rattle.sem_machine.specs.Sides.{Side, row, parked, outbox, is_alive}
use Rattle.sem_machine.specs.Resumes.{can_resume}
use Rattle.sem_machine.specs.Machine.{World, side, link, event, is_other_kernel, is_locally_enabled, is_allowed, is_enabled}
use Rattle.sem_machine.specs.Schedules.{IsSchedule, world_after}
use Rattle.sem_machine.specs.Living.{IsQuiet, IsIdle}
use Rattle.sem_machine.proofs.EnabledList.{enabled-exact}
use Rattle.sem_sound.proofs.Scheduling.{schedule-sound}
use Rattle.sem_revoke.proofs.Owing.{parked-low}
use Rattle.sem_revoke.proofs.Readying.{schedule-past}
use Rattle.sem_revoke.proofs.Straight.{link-straight}
use Rattle.sem_revoke.proofs.UnaskedWorlds.{all-unasked}

-- a link has room for a message
least-one : (version : ℕ) → 1 ≤ least_window version
least-one version = cond_both (version == 1) 4 1 (λ n. 1 ≤ n) (λ _. omega arith) (λ _. omega arith)

-- an act is enabled that its side and the links allow
pub enabled-so : (T : Setup) (W : World) (i : ℕ) (a : Act) → i < T.kernels → is_locally_enabled T i (side W i) a ≡ true → is_allowed T W i a ≡ true →
    is_enabled T W (event i a) ≡ true
unfolding is_enabled
enabled-so T W i a low local allowed = and_from (nat_lt i T.kernels) (is_locally_enabled T i (side W i) a && is_allowed T W i a) (lt-ltb i T.kernels low)
    (and_from (is_locally_enabled T i (side W i) a) (is_allowed T W i a) local allowed)

-- in a quiet world none is
pub never-enabled : (T : Setup) (W : World) → IsQuiet T W → (e : Event) → is_enabled T W e ≡ true → ⊥
never-enabled T W quiet e on = Contains-nil e (subst (λ (es : List Event). Contains es e) quiet ((enabled-exact T W e).1 on))

module _ (T : Setup) (valid : IsSetup T) (J : List Entry) (runs : IsSchedule T J) (quiet : IsQuiet T (world_after T J)) where
  abbrev W : World
  W = world_after T J

  -- a low kernel does nothing
  stuck : (i : ℕ) (a : Act) → i < T.kernels → is_locally_enabled T i (side W i) a ≡ true → is_allowed T W i a ≡ true → ⊥
  stuck i a low local allowed = never-enabled T W quiet (event i a) (enabled-so T W i a low local allowed)

  inbox-none : (i : ℕ) → (side W i).inbox ≡ None
  unfolding is_locally_enabled
  inbox-none i = elim (cases_lt i T.kernels) [
    | inr high ↦ ap (λ (s : Side). s.inbox) (schedule-past T J runs i high)
    | inl low ↦ by low (side W i).inbox refl
  ]
    where
      by : i < T.kernels → (o : Option (ℕ × Message)) → (side W i).inbox ≡ o → o ≡ None
      by low None is = refl
      by low (Some m) is = absurd (stuck i Handle low (ap is_some is) refl)

  link-none : (a b : ℕ) → link W a b ≡ []
  unfolding is_locally_enabled
  link-none a b = by (link W a b) refl
    where
      by : (ms : List Message) → link W a b ≡ ms → ms ≡ []
      by [] is = refl
      by (m ∷ ms) is =
          let there = link-straight T valid J runs a b m (subst (λ xs. Contains xs m) (sym is) (Contains-head m ms)) in
          let ends = there.1 in
          let apart : not (a == b) ≡ true = ap not (ne_eqb a b (λ same. absurd (true≢false (sym ends.1 ∙ ap not (eq-eqb b a (sym same)))))) in
          absurd (stuck b (Fetch a) (ltb-true b T.kernels ends.0)
          (and_from (is_other_kernel T b a) (is_none (side W b).inbox) (and_from (nat_lt a T.kernels) (not (a == b)) there.0 apart) (ap is_none (inbox-none b)))
          (ap (λ (xs : List Message). is_some (slice_get xs 0)) is))

  outbox-none : (i j : ℕ) → outbox (side W i) j ≡ []
  unfolding is_locally_enabled
  outbox-none i j = by (outbox (side W i) j) refl
    where
      by : (ms : List Message) → outbox (side W i) j ≡ ms → ms ≡ []
      by [] is = refl
      by (m ∷ ms) is = elim (cases_lt i T.kernels) [
        | inr high ↦ let none : [] ≡ m ∷ ms = sym (ap (λ (s : Side). outbox s j) (schedule-past T J runs i high)) ∙ is in absurd cc
        | inl low ↦
            let sent = ((schedule-sound T valid J runs).sides i low).outs j m (subst (λ xs. Contains xs m) (sym is) (Contains-head m ms)) in
            let room : length (link W i j) < T.window = let none = ap length (link-none i j) in let wide = valid.windowed.0 in
            let least = least-one T.version in omega (arith, none, wide, least) in
            absurd (stuck i (Flush j) low
            (and_from (is_other_kernel T i j) (is_some (slice_get (outbox (side W i) j) 0))
            (and_from (nat_lt j T.kernels) (not (j == i)) (lt-ltb j T.kernels sent.1) (ap not (ne_eqb j i sent.2)))
            (ap (λ (xs : List Message). is_some (slice_get xs 0)) is))
            (lt-ltb (length (link W i j)) T.window room))
      ]

  asks-none : (i v : ℕ) → (row (side W i) v).asks ≡ []
  unfolding is_locally_enabled
  asks-none i v = by (row (side W i) v).asks refl
    where
      by : (qs : List Ask) → (row (side W i) v).asks ≡ qs → qs ≡ []
      by [] is = refl
      by (a ∷ qs) is = elim (cases_lt i T.kernels) [
        | inr high ↦ let none : [] ≡ a ∷ qs = sym (ap (λ (s : Side). (row s v).asks) (schedule-past T J runs i high)) ∙ is in absurd cc
        | inl low ↦ elim (cases_eq (kernel_of T v) i) [
          | inr other ↦ let none : [] ≡ a ∷ qs = sym (ap (λ (r : VpeRow). r.asks) ((((schedule-sound T valid J runs).sides i low).rows v).others other)) ∙ is in
              absurd cc
          | inl own ↦ elim (cases_Bool (is_alive (side W i) v)) [
            | inr dead ↦ let none : [] ≡ a ∷ qs = sym (all-unasked T J i v dead) ∙ is in absurd cc
            | inl alive ↦ absurd (stuck i (Upcall v) low
                (and_from (kernel_of T v == i) _ (eq-eqb (kernel_of T v) i own)
                (and_from (is_alive (side W i) v) (is_some (slice_get (row (side W i) v).asks 0)) alive
                (ap (λ (xs : List Ask). is_some (slice_get xs 0)) is)))
                refl)
          ]
        ]
      ]

  resume-none : (i v : ℕ) → can_resume (parked (side W i) v) ≡ false
  unfolding is_locally_enabled
  resume-none i v = by (parked (side W i) v) refl
    where
      by : (o : Option Parked) → parked (side W i) v ≡ o → can_resume o ≡ false
      by None is = refl
      by (Some p) is = elim (cases_Bool (can_resume (Some p))) [
        | inr stays ↦ stays
        | inl goes ↦
            let low = parked-low T J runs i v p is in
            let own = (((schedule-sound T valid J runs).sides i low).calls v p is).0 in
            absurd (stuck i (Resume v) low (and_from (kernel_of T v == i) _ (eq-eqb (kernel_of T v) i own) (ap can_resume is ∙ goes)) refl)
      ]

  -- a quiet world is idle
  pub quiet-idle : IsIdle W
  quiet-idle = record {
    inboxes = λ i. subst (λ (o : Option (ℕ × Message)). IsNone o) (sym (inbox-none i)) refl;
    links = link-none;
    outboxes = outbox-none;
    asks = asks-none;
    calls = resume-none;
  }
