-- Behind a bind, the endpoint of a client is bound to what is at the selector.
use Rattle.std.proofs.Common.{◌≡◌, ℕ, ◌<◌, ◌++◌, true, false, List, [], ◌∷◌, get_or, take, Option, Some, None, is_some, refl, sym, ap, ◌∙◌, subst, inl, inr}
use Rattle.std.specs.Prelude.{◌==◌}
use Rattle.std.specs.List.{Contains}
use Rattle.std.proofs.lemmas.Bool.{cases_eq, eqb-true, true≢false}
use Rattle.std.proofs.Common.{eq-eqb}
use Rattle.sem_key.specs.KeyName.{KeyName, key_eq}
use Rattle.sem_key.specs.Lists.{put}
use Rattle.sem_key.specs.Capability.{Capability}
use Rattle.sem_key.proofs.KeyTests.{key_eq-true}
use Rattle.sem_key.proofs.Members.{found, not_found}
use Rattle.sem_key.proofs.Puts.{get_or-put_same}
use Rattle.sem_msg.specs.declared.call.Call.{Call}
use Rattle.sem_msg.specs.declared.call.Call.TheVariants.{Bind}
use Rattle.sem_msg.specs.declared.code.Code.TheVariants.{Ok as OkCode}
use Rattle.sem_msg.specs.declared.entry.Entry.{Entry}
use Rattle.sem_msg.specs.declared.event.Act.{Act}
use Rattle.sem_msg.specs.declared.event.Act.TheVariants.{Call as Calls, Fetch, Handle, Upcall, Resume, Flush, Kill}
use Rattle.sem_msg.specs.declared.setup.VpeDecl.{VpeDecl}
use Rattle.sem_msg.specs.declared.state.Parked.{Parked}
use Rattle.sem_msg.specs.declared.state.Parked.TheVariants.{ObtainWait, DelegateWait, RevokeWait, Ready}
use Rattle.sem_msg.specs.declared.state.Slot.TheVariants.{Free, Held}
use Rattle.sem_msg.specs.Rows.{JobRow, Endpoint}
use Rattle.sem_msg.specs.Setup.{Setup}
use Rattle.sem_msg.specs.Lookups.{decl, kernel_of, calls_of}
use Rattle.sem_machine.specs.Sides.{Side, row, slot, own, cap, job, parked, endpoint, call_counted, with_endpoint}
use Rattle.sem_machine.specs.Sound.{IsSound, kept}
use Rattle.sem_machine.specs.Steps.{Step, answer}
use Rattle.sem_machine.specs.Calls.{call_row, bind_tests, with_held}
use Rattle.sem_machine.specs.Machine.{World, side, next_call, is_locally_enabled, input_of}
use Rattle.sem_machine.specs.Schedules.{IsSchedule, world_after}
use Rattle.sem_machine.specs.Journals.{grants}
use Rattle.sem_sound.proofs.Jobbing.{same-id}
use Rattle.sem_revoke.proofs.Keeping.{cases_Option}
use Rattle.sem_revoke.proofs.Served.{keepers-waited_for}
use Rattle.sem_files.specs.Compiled.{SERVER, SESSION, ACCESS}
use Rattle.sem_fs.specs.Service.{GIVEN, IsService, holds}
use Rattle.sem_fs.specs.Serving.{IsServedWorld}
use Rattle.sem_fs.specs.Holding.{home, calls_so_far, Holds, IsHolding}
use Rattle.sem_fs.proofs.Lifting.{side-other, counted-own}
use Rattle.sem_fs.proofs.Sparing.{Revokes, unmarked}
use Rattle.sem_fs.proofs.Passing.{counted-slot}
use Rattle.sem_fs.proofs.ServedSteps.{passed-done, ActPasses}
use Rattle.sem_fs.proofs.Courses.{Turn, turn_same, turn_woken, turn_obtained, turn_prepared, turn_got, turn_over}
use Rattle.sem_fs.proofs.Owned.{slot-cap, own-held, same_Held, called}
use Rattle.sem_fs.proofs.HoldingSteps.{runs, few, sound-here, locally, order, living, sound', near-kernel, whose, new-side, slotted, course, kept-calls, passed}
use Rattle.sem_fs.proofs.HoldingSteps.{stepped-so, goes, more-calls, holds-now, in-order}
use Rattle.sem_fs.proofs.Unbinding.{IsGone, IsKeptByNone, IsBoundTo}
use Rattle.sem_fs.proofs.BoundSteps.{step-fate}

-- the endpoint for accesses is bound to what is at the selector of a client that waits for nothing
pub record IsBinding (T : Setup) (J : List Entry) (v sel : ℕ) : Type 0 where
  pub key : KeyName
  pub bound : IsBoundTo v ACCESS key (home T (world_after T J) v)
  pub at_slot : slot (home T (world_after T J) v) v sel ≡ Held key
  pub idle : parked (home T (world_after T J) v) v ≡ None
  pub beyond : SESSION < sel
  pub near : sel < GIVEN
  pub held : holds (calls_so_far T (world_after T J) v) sel ≡ true

-- where its last call was a bind
abbrev pub Binds : Setup → List Entry → ℕ → Type 0
Binds T J v = (first : List Call) (sel : ℕ) → calls_so_far T (world_after T J) v ≡ first ++ Bind ACCESS sel ∷ [] → IsBinding T J v sel

last-same : (xs ys : List Call) (x y : Call) → xs ++ x ∷ [] ≡ ys ++ y ∷ [] → x ≡ y
last-same [] [] x y same = cc same
last-same [] (z ∷ []) x y same = absurd cc
last-same [] (z ∷ w ∷ ys) x y same = absurd cc
last-same (z ∷ []) [] x y same = absurd cc
last-same (z ∷ w ∷ xs) [] x y same = absurd cc
last-same (z ∷ xs) (w ∷ ys) x y same = last-same xs ys x y (tails z w (xs ++ x ∷ []) (ys ++ y ∷ []) same)
  where
    tails : (a b : Call) (as' bs : List Call) → a ∷ as' ≡ b ∷ bs → as' ≡ bs
    tails a b as' bs equal = cc equal

-- a job among those of a sound side is open under its id
job-open : (T : Setup) (i : ℕ) (s : Side) → IsSound T i s → (x : JobRow) → Contains s.jobs x → job s x.id ≡ Some x
job-open T i s sound x among = elim (cases_Option (job s x.id)) [
  | inl (z, open_) ↦
      let there = found (λ (y : JobRow). y.id == x.id) s.jobs z open_ in
      open_ ∙ ap Some (same-id s.jobs sound.jobs_rise z x there.0 among (eqb-true z.id x.id there.1))
  | inr none ↦ absurd (true≢false (sym (eq-eqb x.id x.id refl) ∙ not_found (λ (y : JobRow). y.id == x.id) s.jobs x none among))
]

-- a call that was parked nowhere is parked nowhere
still-idle : (T : Setup) (s t : Side) (v : ℕ) → parked s v ≡ None → Turn T s t v → parked t v ≡ None
still-idle T s t v idle (turn_same same) = same ∙ idle
still-idle T s t v idle (turn_woken j was now) = let no' : ◌≡◌ {A = Option Parked} None (Some (RevokeWait j)) = sym idle ∙ was in absurd cc
still-idle T s t v idle (turn_obtained number sel key parent object numbered was now) = let no' : ◌≡◌ {A = Option Parked} None (Some (ObtainWait number sel)) =
    sym idle ∙ was in absurd cc
still-idle T s t v idle (turn_prepared parent key was now) = let no' : ◌≡◌ {A = Option Parked} None (Some (DelegateWait parent)) = sym idle ∙ was in absurd cc
still-idle T s t v idle (turn_got number sel was now has) = let no' : ◌≡◌ {A = Option (ℕ × ℕ)} None (Some (number, sel)) = sym (ap kept idle) ∙ was in absurd cc
still-idle T s t v idle (turn_over was busy now) = absurd (busy idle)

module _ (T : Setup) (S : IsService T) (J : List Entry) (e : Entry) (runs' : IsSchedule T (J ++ e ∷ [])) (served : IsServedWorld T (world_after T J))
    (passes : ActPasses T e.event.kernel (side (world_after T J) e.event.kernel) e.event.act) where
  abbrev J' : List Entry
  J' = J ++ e ∷ []

  abbrev W : World
  W = world_after T J

  abbrev W' : World
  W' = world_after T J'

  abbrev i : ℕ
  i = e.event.kernel

  abbrev here : Side
  here = side W i

  module _ (v : ℕ) (d : VpeDecl) (at : decl T v ≡ Some d) (client : v ≡ SERVER → ⊥) (H : IsHolding T J v) (H' : IsHolding T J' v) where
    abbrev s : Side
    s = home T W v

    abbrev s' : Side
    s' = home T W' v

    is-sound' : IsSound T (kernel_of T v) s'
    is-sound' = sound' T S J e runs' served passes v d at

    low : kernel_of T v < T.kernels
    low = near-kernel T S J e runs' served passes v d at

    no-some : (n q : ℕ) → ◌≡◌ {A = Option (ℕ × ℕ)} None (Some (n, q)) → ⊥
    no-some n q same = absurd cc

    free-held : (k : KeyName) → Free ≡ Held k → ⊥
    free-held k same = absurd cc

    -- An event of another kernel.
    binding-away : (kernel_of T v ≡ i → ⊥) → Binds T J v → Binds T J' v
    binding-away away B first sel last =
        let same : s' ≡ s = side-other T J e (kernel_of T v) away in
        let b = B first sel (ap (λ t. take (row t v).next_call (calls_of T v)) (sym same) ∙ last) in
        record {
          key = b.key;
          bound = subst (IsBoundTo v ACCESS b.key) (sym same) b.bound;
          at_slot = ap (λ t. slot t v sel) same ∙ b.at_slot;
          idle = ap (λ t. parked t v) same ∙ b.idle;
          beyond = b.beyond;
          near = b.near;
          held = ap (λ t. holds (take (row t v).next_call (calls_of T v)) sel) same ∙ b.held;
        }

    module _ (local : kernel_of T v ≡ i) where
      -- An event in which v does not call.
      module _ (silent : e.event.act ≡ Calls v → ⊥) (sel : ℕ) (B : IsBinding T J v sel) where
        idle' : parked s' v ≡ None
        idle' = still-idle T s s' v B.idle (course T S J e runs' served passes v d at local client H silent).turn

        held' : holds (calls_so_far T W' v) sel ≡ true
        held' = ap (λ cs. holds cs sel) (kept-calls T S J e runs' served passes v d at local client H silent) ∙ B.held

        holds-there : Holds T J' v sel
        holds-there = elim (H'.held sel B.near held') [
          | inl x ↦ x
          | inr (number, waits) ↦ absurd (no-some number sel (sym (ap kept idle') ∙ waits))
        ]

        same-key : holds-there.key ≡ B.key
        same-key = elim (slotted T S J e runs' served passes v d at local sel B.near (λ number waits. no-some number sel (sym (ap kept B.idle) ∙ waits))
            (λ c act next asks. silent act)) [
              | inl same ↦ same_Held holds-there.key B.key (sym holds-there.at ∙ (same ∙ B.at_slot))
              | inr free ↦ absurd (free-held holds-there.key (sym free ∙ holds-there.at))
            ]

        there' : slot s' v sel ≡ Held B.key
        there' = holds-there.at ∙ ap Held same-key

        unkept : IsKeptByNone B.key here
        unkept x among keeps same =
            let waits = keepers-waited_for T S.setup J (runs T S J e runs' served passes) i x.id x
            (job-open T i here (sound-here T S J e runs' served passes) x among)
            keeps in
            let mine : x.root.vpe ≡ v = ap (λ (q : KeyName). q.vpe) same ∙ whose T S J e runs' served passes v d at sel B.key B.at_slot in
            let none : parked here v ≡ None = ap (λ j. parked (side W j) v) (sym local) ∙ B.idle in
            let no' : ◌≡◌ {A = Option Parked} None (Some (RevokeWait x.id)) = sym none ∙ (ap (parked here) (sym mine) ∙ waits) in
            absurd cc

        bound-here : IsBoundTo v ACCESS B.key here
        bound-here = subst (IsBoundTo v ACCESS B.key) (ap (side W) local) B.bound

        -- what is at the selector is not marked
        spared : IsGone B.key s' → ⊥
        spared gone =
            let c = slot-cap T S.setup (kernel_of T v) low s' is-sound' v sel B.key there' in
            let among = found (λ (x : Capability). key_eq x.key B.key) s'.caps c.0 c.1 in
            let given = holds-there.given in
            let mine : B.key.vpe ≡ v = (is-sound'.held v sel B.key there').0 in
            let free : Revokes T S J' runs' (parked (home T W' B.key.vpe) B.key.vpe) → ⊥ =
            λ r. not-revoking (subst (λ w. Revokes T S J' runs' (parked (home T W' w) w)) mine r) in
            let none = unmarked T S J' runs' given.parent B.key d given.root (subst (λ k. Contains (grants J') (given.parent, k)) same-key given.granted)
            (ap (decl T) mine ∙ at) free (kernel_of T v) c.0 c.1 in
            gone.lost c.0 among.0 (key_eq-true c.0.key B.key among.1) none
          where
            not-revoking : Revokes T S (J ++ e ∷ []) runs' (parked (home T (world_after T (J ++ e ∷ [])) v) v) → ⊥
            not-revoking (inl (n, is)) = let no' : ◌≡◌ {A = Option Parked} None (Some (RevokeWait n)) = sym idle' ∙ is in absurd cc
            not-revoking (inr (code, is)) = let no' : ◌≡◌ {A = Option Parked} None (Some (Ready code)) = sym idle' ∙ is in absurd cc

        binding-on : IsBinding T J' v sel
        binding-on = record {
          key = B.key;
          bound = elim (step-fate v ACCESS B.key T i here bound-here unkept e.event.act (input_of W i e.event.act) (order T S J e runs' served passes) silent
              (living T S J e runs' served passes)) [
                | inl b ↦ subst (IsBoundTo v ACCESS B.key) (sym (new-side T S J e runs' served passes v d at local)) b
                | inr gone ↦ absurd (spared (subst (IsGone B.key) (sym (new-side T S J e runs' served passes v d at local)) gone))
              ];
          at_slot = there';
          idle = idle';
          beyond = B.beyond;
          near = B.near;
          held = held';
        }

      -- A bind of v.
      module _ (act : e.event.act ≡ Calls v) (sel : ℕ) (next : next_call T s v ≡ Some (Bind ACCESS sel)) where
        abbrev counted : Side
        counted = call_counted v here

        held-cap : (c : Capability) × (own counted v sel ≡ Some c)
        held-cap = (passed T S J e runs' served passes v d at local client H act (Bind ACCESS sel) next).1

        abbrev bound-so : Option Endpoint
        bound-so = Some (record { key = held-cap.0.key; object = held-cap.0.object; ring = [] })

        row-bound : (call_row T i counted v (Bind ACCESS sel)).side ≡ with_endpoint v ACCESS bound-so counted
        unfolding call_row
        row-bound =
            let f : Capability → Step = λ y. answer OkCode (with_endpoint v ACCESS (Some (record { key = y.key; object = y.object; ring = [] })) counted) in
            ap (λ (x : Step). x.side)
            (passed-done (bind_tests counted v sel) (λ code. answer code counted) (with_held (own counted v sel) f counted)
            (passed T S J e runs' served passes v d at local client H act (Bind ACCESS sel) next).0)
            ∙ ap (λ o. (with_held o f counted).side) held-cap.1

        after-bind : s' ≡ with_endpoint v ACCESS bound-so counted
        after-bind = stepped-so T S J e runs' served passes v d at local client H act (Bind ACCESS sel) next ∙ row-bound

        owned : (slot here v sel ≡ Held held-cap.0.key) × (cap here held-cap.0.key ≡ Some held-cap.0) × (held-cap.0.key.vpe ≡ v)
        owned = own-held T S.setup i (few T S J e runs' served passes) here (sound-here T S J e runs' served passes) v sel held-cap.0
            (sym (counted-own here v sel) ∙ held-cap.1)

        ordered : (ACCESS ≡ ACCESS) × ((SESSION < sel) × (sel < GIVEN) × (holds (calls_so_far T W v) sel ≡ true))
        ordered = in-order T S J e runs' served passes v d at local client H act (Bind ACCESS sel) next

        binding-new : IsBinding T J' v sel
        binding-new = record {
          key = held-cap.0.key;
          bound = record {
            bound = record { key = held-cap.0.key; object = held-cap.0.object; ring = [] };
            at = ap (λ t. endpoint t v ACCESS) after-bind
                ∙ (ap (λ es. get_or es ACCESS None) (get_or-put_same [] counted.endpoints v (put None (get_or counted.endpoints v []) ACCESS bound-so))
                ∙ get_or-put_same None (get_or counted.endpoints v []) ACCESS bound-so);
            key = refl;
          };
          at_slot = ap (λ t. slot t v sel) after-bind ∙ (counted-slot here v sel ∙ owned.0);
          idle = (goes T S J e runs' served passes v d at local client H act (Bind ACCESS sel) next).1;
          beyond = ordered.1.0;
          near = ordered.1.1;
          held = holds-now T S J e runs' served passes v d at local client H act (Bind ACCESS sel) next sel ∙ ordered.1.2;
        }

    -- One entry more.
    pub binding-next : Binds T J v → Binds T J' v
    binding-next B = elim (cases_eq (kernel_of T v) i) [
      | inr away ↦ binding-away away B
      | inl local ↦ λ first sel last. by_act local e.event.act refl first sel last
    ]
      where
        on : (local : kernel_of T v ≡ i) → (e.event.act ≡ Calls v → ⊥) → (first : List Call) (sel : ℕ)
            → calls_so_far T (world_after T (J ++ e ∷ [])) v ≡ first ++ Bind ACCESS sel ∷ [] → IsBinding T (J ++ e ∷ []) v sel
        on local silent first sel last = binding-on local silent sel (B first sel (sym (kept-calls T S J e runs' served passes v d at local client H silent)
            ∙ last))

        mine : (local : kernel_of T v ≡ i) → e.event.act ≡ Calls v → (first : List Call) (sel : ℕ)
            → calls_so_far T (world_after T (J ++ e ∷ [])) v ≡ first ++ Bind ACCESS sel ∷ [] → IsBinding T (J ++ e ∷ []) v sel
        mine local act first sel last = from (next_call T s v) refl
          where
            from : (o : Option Call) → next_call T s v ≡ o → IsBinding T (J ++ e ∷ []) v sel
            from (Some c) next =
                let same : c ≡ Bind ACCESS sel = last-same (calls_so_far T W v) first c (Bind ACCESS sel)
                (sym (more-calls T S J e runs' served passes v d at local client H act c next) ∙ last) in
                binding-new local act sel (next ∙ ap Some same)
            from None none =
                let some = called T i here v (subst (λ a. is_locally_enabled T i here a ≡ true) act (locally T S J e runs' served passes)) in
                let no' : false ≡ true = sym (ap is_some (ap (λ j. next_call T (side W j) v) (sym local) ∙ none)) ∙ some in
                absurd cc

        by_act : (local : kernel_of T v ≡ i) → (a : Act) → e.event.act ≡ a → (first : List Call) (sel : ℕ)
            → calls_so_far T (world_after T (J ++ e ∷ [])) v ≡ first ++ Bind ACCESS sel ∷ [] → IsBinding T (J ++ e ∷ []) v sel
        by_act local (Calls u) act = elim (cases_eq u v) [
          | inl same ↦ mine local (act ∙ ap Calls same)
          | inr other ↦ on local (λ act'. other (caller (sym act ∙ act')))
        ]
          where
            caller : {w : ℕ} → ◌≡◌ {A = Act} (Calls u) (Calls w) → u ≡ w
            caller same = cc same
        by_act local (Fetch j) act = on local (λ act'. let no' : ◌≡◌ {A = Act} (Fetch j) (Calls v) = sym act ∙ act' in absurd cc)
        by_act local Handle act = on local (λ act'. let no' : ◌≡◌ {A = Act} Handle (Calls v) = sym act ∙ act' in absurd cc)
        by_act local (Upcall u) act = on local (λ act'. let no' : ◌≡◌ {A = Act} (Upcall u) (Calls v) = sym act ∙ act' in absurd cc)
        by_act local (Resume u) act = on local (λ act'. let no' : ◌≡◌ {A = Act} (Resume u) (Calls v) = sym act ∙ act' in absurd cc)
        by_act local (Flush j) act = on local (λ act'. let no' : ◌≡◌ {A = Act} (Flush j) (Calls v) = sym act ∙ act' in absurd cc)
        by_act local (Kill u) act = on local (λ act'. let no' : ◌≡◌ {A = Act} (Kill u) (Calls v) = sym act ∙ act' in absurd cc)
