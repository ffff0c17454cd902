-- The list of enabled events has exactly the enabled events.
use Rattle.std.proofs.Common.{◌≡◌, ℕ, ◌<◌, true, eqb, ◌&&◌, not, List, [], ◌∷◌, ◌++◌, map, Option, Some, None, is_some, is_none, refl, ◌∙◌, subst, arith}
use Rattle.std.specs.Prelude.{◌↔◌, ◌==◌, nat_lt, slice_get}
use Rattle.std.specs.List.{Contains, find, range_with_len}
use Rattle.std.specs.Option.{option_map, option_map_or}
use Rattle.std.proofs.lemmas.Bool.{and_parts, ltb-true, eqb-true, false≢true}
use Rattle.std.proofs.lemmas.List.Elements.{Contains-append_left, Contains-append_right}
use Rattle.std.proofs.lemmas.List.FromFn.{length-range_with_len, get_or-range_with_len}
use Rattle.sem_msg.specs.declared.event.Act.{Act}
use Rattle.sem_msg.specs.declared.event.Act.TheVariants.{Call as Calls, Fetch, Handle, Upcall, Resume, Flush, Kill}
use Rattle.sem_msg.specs.declared.event.Event.{Event}
use Rattle.sem_msg.specs.declared.setup.VpeDecl.{VpeDecl}
use Rattle.sem_msg.specs.Setup.{Setup}
use Rattle.sem_msg.specs.Journal.{kill_number}
use Rattle.sem_msg.specs.Lookups.{decl, pe_owner, kernel_of}
use Rattle.sem_machine.specs.Sides.{Side, row, parked, outbox, is_alive}
use Rattle.sem_machine.specs.Resumes.{can_resume}
use Rattle.sem_machine.specs.Machine.{World, side, event, next_call, is_other_kernel, is_locally_enabled, is_allowed, is_enabled, kernel_events, all_events}
use Rattle.sem_machine.specs.Machine.{enabled}
use Rattle.sem_key.proofs.Members.{Contains-head, Contains-filter, Contains-from_filter, Contains-map, Contains-flat_map, found}

-- a range from 0 has the numbers below its end
Contains-range : (n j : ℕ) → j < n → Contains (range_with_len 0 n) j
Contains-range n j lt = let long = length-range_with_len 0 n in (j, omega arith, get_or-range_with_len 0 n j j lt ∙ (omega arith))

-- a VPE whose kernel is one is declared
declared : (T : Setup) (i v : ℕ) → i < T.kernels → eqb (kernel_of T v) i ≡ true → (d : VpeDecl) × Contains T.vpes d × (d.vpe ≡ v)
declared T i v lt own = from (decl T v) refl (eqb-true (kernel_of T v) i own)
  where
    from : (o : Option VpeDecl) → decl T v ≡ o → option_map_or (λ d. pe_owner T d.pe) o T.kernels ≡ i → (d : VpeDecl) × Contains T.vpes d × (d.vpe ≡ v)
    from None none at_end = absurd (omega arith)
    from (Some d) some at_i = let there = found (λ d. eqb d.vpe v) T.vpes d some in (d, there.0, eqb-true d.vpe v there.1)

-- a VPE that is to be killed stands in the kills
killed : (T : Setup) (v : ℕ) → is_some (kill_number T v) ≡ true → (k : ℕ × ℕ) × Contains T.kills k × (k.0 ≡ v)
killed T v kill = from (find (λ k. eqb k.0 v) T.kills) refl kill
  where
    from : (o : Option (ℕ × ℕ)) → find (λ (k : ℕ × ℕ). eqb k.0 v) T.kills ≡ o → is_some (option_map (λ (k : ℕ × ℕ). k.1) o) ≡ true →
        (k : ℕ × ℕ) × Contains T.kills k × (k.0 ≡ v)
    from None none at_end = absurd (false≢true at_end)
    from (Some k) some at_k = let there = found (λ (k : ℕ × ℕ). eqb k.0 v) T.kills k some in (k, there.0, eqb-true k.0 v there.1)

-- the events of a kernel that its parts have
module _ (T : Setup) (i : ℕ) where
  abbrev calls : List Event
  calls = map (λ (d : VpeDecl). event i (Calls d.vpe)) T.vpes

  abbrev resumes : List Event
  resumes = map (λ (d : VpeDecl). event i (Resume d.vpe)) T.vpes

  abbrev upcalls : List Event
  upcalls = map (λ (d : VpeDecl). event i (Upcall d.vpe)) T.vpes

  abbrev handles : List Event
  handles = event i Handle ∷ []

  abbrev fetches : List Event
  fetches = map (λ j. event i (Fetch j)) (range_with_len 0 T.kernels)

  abbrev flushes : List Event
  flushes = map (λ j. event i (Flush j)) (range_with_len 0 T.kernels)

  abbrev kills : List Event
  kills = map (λ (k : ℕ × ℕ). event i (Kill k.0)) T.kills

  in_calls : (e : Event) → Contains calls e → Contains (kernel_events T i) e
  in_calls e h = Contains-append_left (calls ++ resumes ++ upcalls ++ handles ++ fetches ++ flushes) kills e
      (Contains-append_left (calls ++ resumes ++ upcalls ++ handles ++ fetches) flushes e
      (Contains-append_left (calls ++ resumes ++ upcalls ++ handles) fetches e
      (Contains-append_left (calls ++ resumes ++ upcalls) handles e
      (Contains-append_left (calls ++ resumes) upcalls e (Contains-append_left calls resumes e h)))))

  in_resumes : (e : Event) → Contains resumes e → Contains (kernel_events T i) e
  in_resumes e h = Contains-append_left (calls ++ resumes ++ upcalls ++ handles ++ fetches ++ flushes) kills e
      (Contains-append_left (calls ++ resumes ++ upcalls ++ handles ++ fetches) flushes e
      (Contains-append_left (calls ++ resumes ++ upcalls ++ handles) fetches e
      (Contains-append_left (calls ++ resumes ++ upcalls) handles e
      (Contains-append_left (calls ++ resumes) upcalls e (Contains-append_right calls resumes e h)))))

  in_upcalls : (e : Event) → Contains upcalls e → Contains (kernel_events T i) e
  in_upcalls e h = Contains-append_left (calls ++ resumes ++ upcalls ++ handles ++ fetches ++ flushes) kills e
      (Contains-append_left (calls ++ resumes ++ upcalls ++ handles ++ fetches) flushes e
      (Contains-append_left (calls ++ resumes ++ upcalls ++ handles) fetches e
      (Contains-append_left (calls ++ resumes ++ upcalls) handles e (Contains-append_right (calls ++ resumes) upcalls e h))))

  in_handles : (e : Event) → Contains handles e → Contains (kernel_events T i) e
  in_handles e h = Contains-append_left (calls ++ resumes ++ upcalls ++ handles ++ fetches ++ flushes) kills e
      (Contains-append_left (calls ++ resumes ++ upcalls ++ handles ++ fetches) flushes e
      (Contains-append_left (calls ++ resumes ++ upcalls ++ handles) fetches e (Contains-append_right (calls ++ resumes ++ upcalls) handles e h)))

  in_fetches : (e : Event) → Contains fetches e → Contains (kernel_events T i) e
  in_fetches e h = Contains-append_left (calls ++ resumes ++ upcalls ++ handles ++ fetches ++ flushes) kills e
      (Contains-append_left (calls ++ resumes ++ upcalls ++ handles ++ fetches) flushes e
      (Contains-append_right (calls ++ resumes ++ upcalls ++ handles) fetches e h))

  in_flushes : (e : Event) → Contains flushes e → Contains (kernel_events T i) e
  in_flushes e h = Contains-append_left (calls ++ resumes ++ upcalls ++ handles ++ fetches ++ flushes) kills e
      (Contains-append_right (calls ++ resumes ++ upcalls ++ handles ++ fetches) flushes e h)

  in_kills : (e : Event) → Contains kills e → Contains (kernel_events T i) e
  in_kills e h = Contains-append_right (calls ++ resumes ++ upcalls ++ handles ++ fetches ++ flushes) kills e h

module _ (T : Setup) (i : ℕ) (s : Side) (here : i < T.kernels) where
  -- an event that the side enables is one of its kernel's events
  locally_enabled-listed : (a : Act) → is_locally_enabled T i s a ≡ true → Contains (kernel_events T i) (event i a)
  unfolding is_locally_enabled
  locally_enabled-listed (Calls v) test =
      let own = and_parts (kernel_of T v == i) (is_alive s v && (is_none (parked s v) && is_some (next_call T s v))) test in
      let known = declared T i v here own.0 in
      in_calls T i (event i (Calls v))
      (subst (λ n. Contains (calls T i) (event i (Calls n))) known.2 (Contains-map (λ (d : VpeDecl). event i (Calls d.vpe)) T.vpes known.0 known.1))
  locally_enabled-listed (Resume v) test =
      let own = and_parts (kernel_of T v == i) (can_resume (parked s v)) test in
      let known = declared T i v here own.0 in
      in_resumes T i (event i (Resume v))
      (subst (λ n. Contains (resumes T i) (event i (Resume n))) known.2 (Contains-map (λ (d : VpeDecl). event i (Resume d.vpe)) T.vpes known.0 known.1))
  locally_enabled-listed (Upcall v) test =
      let own = and_parts (kernel_of T v == i) (is_alive s v && is_some (slice_get (row s v).asks 0)) test in
      let known = declared T i v here own.0 in
      in_upcalls T i (event i (Upcall v))
      (subst (λ n. Contains (upcalls T i) (event i (Upcall n))) known.2 (Contains-map (λ (d : VpeDecl). event i (Upcall d.vpe)) T.vpes known.0 known.1))
  locally_enabled-listed Handle test = in_handles T i (event i Handle) (Contains-head (event i Handle) [])
  locally_enabled-listed (Fetch j) test =
      let other = and_parts (is_other_kernel T i j) (is_none s.inbox) test in
      let below = and_parts (nat_lt j T.kernels) (not (j == i)) other.0 in
      in_fetches T i (event i (Fetch j))
      (Contains-map (λ n. event i (Fetch n)) (range_with_len 0 T.kernels) j (Contains-range T.kernels j (ltb-true j T.kernels below.0)))
  locally_enabled-listed (Flush j) test =
      let other = and_parts (is_other_kernel T i j) (is_some (slice_get (outbox s j) 0)) test in
      let below = and_parts (nat_lt j T.kernels) (not (j == i)) other.0 in
      in_flushes T i (event i (Flush j))
      (Contains-map (λ n. event i (Flush n)) (range_with_len 0 T.kernels) j (Contains-range T.kernels j (ltb-true j T.kernels below.0)))
  locally_enabled-listed (Kill v) test =
      let own = and_parts (kernel_of T v == i) (is_alive s v && is_some (kill_number T v)) test in
      let alive = and_parts (is_alive s v) (is_some (kill_number T v)) own.1 in
      let known = killed T v alive.1 in
      in_kills T i (event i (Kill v))
      (subst (λ n. Contains (kills T i) (event i (Kill n))) known.2 (Contains-map (λ (k : ℕ × ℕ). event i (Kill k.0)) T.kills known.0 known.1))

-- an enabled event is one of all events
enabled-listed : (T : Setup) (W : World) (e : Event) → is_enabled T W e ≡ true → Contains (all_events T) e
unfolding is_enabled
enabled-listed T W e test =
    let outer = and_parts (nat_lt e.kernel T.kernels) (is_locally_enabled T e.kernel (side W e.kernel) e.act && is_allowed T W e.kernel e.act) test in
    let here = ltb-true e.kernel T.kernels outer.0 in
    let inner = and_parts (is_locally_enabled T e.kernel (side W e.kernel) e.act) (is_allowed T W e.kernel e.act) outer.1 in
    Contains-flat_map (kernel_events T) (range_with_len 0 T.kernels) e.kernel e (Contains-range T.kernels e.kernel here)
    (locally_enabled-listed T e.kernel (side W e.kernel) here e.act inner.0)

pub enabled-exact : (T : Setup) (W : World) (e : Event) → Contains (enabled T W) e ↔ (is_enabled T W e ≡ true)
unfolding enabled
enabled-exact T W e = (
  λ listed. (Contains-from_filter (is_enabled T W) (all_events T) e listed).1,
  λ test. Contains-filter (is_enabled T W) (all_events T) e (enabled-listed T W e test) test,
)
