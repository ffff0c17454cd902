-- What a client waits for, and what came of it, has the number that a call of the client drew for it; and calls are counted as entries.
use Rattle.std.proofs.Common.{◌≡◌, ◌⊎◌, ℕ, ◌+◌, ◌<◌, ◌≤◌, true, false, List, [], ◌∷◌, ◌++◌, filter, length, length-append, nat_lt, Option, Some, None, is_some}
use Rattle.std.proofs.Common.{slice_get, refl, sym, ap, ◌∙◌, subst, inl, inr, arith, eq-eqb}
use Rattle.std.proofs.lemmas.Bool.{cases_Bool, cases_eq, cases_lt, cond-true, cond-false, ltb-true, ne_eqb}
use Rattle.std.proofs.lemmas.Option.{same_Some}
use Rattle.std.proofs.lemmas.List.Elements.{filter-append}
use Rattle.sem_key.specs.KeyName.{KeyName}
use Rattle.sem_msg.specs.declared.call.Call.{Call}
use Rattle.sem_msg.specs.declared.call.Call.TheVariants.{Derive, Gate, Obtain, Delegate, OpenSession, AskOffer, Revoke, Bind, Read as ReadCall}
use Rattle.sem_msg.specs.declared.call.Call.TheVariants.{Write as WriteCall, Send as SendCall, Credit, Exit, Clear}
use Rattle.sem_msg.specs.declared.event.Act.{Act}
use Rattle.sem_msg.specs.declared.event.Act.TheVariants.{Call as Calls, Fetch, Handle, Upcall, Resume, Flush, Kill}
use Rattle.sem_msg.specs.declared.entry.Entry.{Entry}
use Rattle.sem_msg.specs.declared.setup.VpeDecl.{VpeDecl}
use Rattle.sem_msg.specs.declared.state.Parked.{Parked}
use Rattle.sem_msg.specs.declared.state.Parked.TheVariants.{ObtainWait, ObtainReady, DelegateWait, DelegateReady, Ready}
use Rattle.sem_msg.specs.declared.state.Slot.TheVariants.{Free, Held}
use Rattle.sem_msg.specs.Setup.{Setup}
use Rattle.sem_msg.specs.Lookups.{decl, kernel_of, calls_of}
use Rattle.sem_machine.specs.Sides.{Side, row, slot, parked, call_counted}
use Rattle.sem_machine.specs.Sound.{IsSound, kept, keeps_number, bit}
use Rattle.sem_machine.specs.Machine.{World, side, next_call, is_locally_enabled}
use Rattle.sem_machine.specs.Schedules.{IsSchedule, world_after}
use Rattle.sem_revoke.proofs.AddressedWorlds.{vpe-local}
use Rattle.sem_files.specs.Compiled.{SERVER}
use Rattle.sem_fs.specs.Service.{GIVEN, IsService}
use Rattle.sem_fs.specs.Serving.{IsServedWorld}
use Rattle.sem_fs.specs.Openings.{is_call_of, call_count_of}
use Rattle.sem_fs.specs.Holding.{home, IsHolding}
use Rattle.sem_fs.specs.Drawings.{IsDrawnBy}
use Rattle.sem_fs.proofs.Lifting.{side-other, counted-call}
use Rattle.sem_fs.proofs.Passing.{counted-number}
use Rattle.sem_fs.proofs.ServedSteps.{ActPasses}
use Rattle.sem_fs.proofs.Slots.{AsksAt}
use Rattle.sem_fs.proofs.Courses.{Turn, turn_same, turn_woken, turn_obtained, turn_prepared, turn_got, turn_over}
use Rattle.sem_fs.proofs.OwnCalls.{ParksAs}
use Rattle.sem_fs.proofs.Owned.{same_Held, called}
use Rattle.sem_fs.proofs.Promised.{awaits-promised}
use Rattle.sem_fs.proofs.HoldingSteps.{locally, sound', slotted, course, idle, goes}
use Rattle.sem_fs.proofs.Drawing.{drawn-more}

-- a number was drawn for what comes to a selector
pub record IsAsked (T : Setup) (J : List Entry) (v n sel : ℕ) : Type 0 where
  pub index : ℕ
  pub drawn : IsDrawnBy T J v n index
  pub call : Call
  pub at_index : slice_get (calls_of T v) index ≡ Some call
  pub asks : AsksAt call sel

-- no call from a place on asks for what comes to the selector
abbrev pub AsksNoMore : Setup → List Entry → ℕ → ℕ → ℕ → Type 0
AsksNoMore T J v index sel = (m : ℕ) (c : Call) → index < m → m < (row (home T (world_after T J) v) v).next_call → slice_get (calls_of T v) m ≡ Some c →
    AsksAt c sel
    → ⊥

-- the last call of a VPE asks for nothing
pub record IsAskless (T : Setup) (J : List Entry) (v : ℕ) : Type 0 where
  pub index : ℕ
  pub last : (row (home T (world_after T J) v) v).next_call ≡ index + 1
  pub call : Call
  pub at_index : slice_get (calls_of T v) index ≡ Some call
  pub askless : (sel : ℕ) → AsksAt call sel → ⊥

-- what a client waits for was asked for by its last call, what is at its selectors by the last call that asks there; while it gives,
-- its last call asks for nothing
pub record IsAsking (T : Setup) (J : List Entry) (v : ℕ) : Type 0 where
  pub waits : (n sel : ℕ) → kept (parked (home T (world_after T J) v) v) ≡ Some (n, sel) → (x : IsAsked T J v n sel)
      × ((row (home T (world_after T J) v) v).next_call ≡ x.index + 1)
  pub slots : (sel : ℕ) (k : KeyName) → sel < GIVEN → slot (home T (world_after T J) v) v sel ≡ Held k →
      (x : IsAsked T J v k.number sel) × AsksNoMore T J v x.index sel
  pub gives : (p : KeyName) → parked (home T (world_after T J) v) v ≡ Some (DelegateWait p) → IsAskless T J v
  pub counted : call_count_of J v ≡ (row (home T (world_after T J) v) v).next_call

abbrev pub more-asked : (T : Setup) (J : List Entry) (e : Entry) (v n sel : ℕ) → IsAsked T J v n sel → IsAsked T (J ++ e ∷ []) v n sel
more-asked T J e v n sel x = record { index = x.index; drawn = drawn-more T J v n e x.index x.drawn; call = x.call; at_index = x.at_index; asks = x.asks }

-- the number that a parked call keeps was drawn
pub kept-drawn : (T : Setup) (i : ℕ) (s : Side) → IsSound T i s → (v n sel : ℕ) → kept (parked s v) ≡ Some (n, sel) → n < (row s v).next_number
kept-drawn T i s sound-s v n sel is =
    let most = sound-s.numbers v n in
    let one : keeps_number n (kept (parked s v)) ≡ 1 = ap (keeps_number n) is ∙ ap bit (eq-eqb n n refl) in
    elim (cases_Bool (nat_lt n (row s v).next_number)) [
      | inl less ↦ ltb-true n (row s v).next_number less
      | inr more ↦ (let none : bit (nat_lt n (row s v).next_number) ≡ 0 = ap bit more in absurd (omega (arith, most, one, none)))
    ]

-- calls among entries

pub count-more : (J : List Entry) (e : Entry) (v : ℕ) →
    call_count_of (J ++ e ∷ []) v ≡ call_count_of J v + length (filter (λ (x : Entry). is_call_of v x.event.act) (e ∷ []))
count-more J e v = ap length (filter-append (λ (x : Entry). is_call_of v x.event.act) J (e ∷ []))
    ∙ length-append (filter (λ (x : Entry). is_call_of v x.event.act) J) (filter (λ (x : Entry). is_call_of v x.event.act) (e ∷ []))

pub counted-on : (J : List Entry) (e : Entry) (v : ℕ) → is_call_of v e.event.act ≡ true → call_count_of (J ++ e ∷ []) v ≡ call_count_of J v + 1
counted-on J e v is = count-more J e v ∙ ap (λ n. call_count_of J v + n) (ap length (cond-true (is_call_of v e.event.act) (e ∷ []) [] is))

pub counted-so : (J : List Entry) (e : Entry) (v : ℕ) → is_call_of v e.event.act ≡ false → call_count_of (J ++ e ∷ []) v ≡ call_count_of J v
counted-so J e v not_ =
    let more = count-more J e v in
    let none : length (filter (λ (x : Entry). is_call_of v x.event.act) (e ∷ [])) ≡ 0 = ap length (cond-false (is_call_of v e.event.act) (e ∷ []) [] not_) in
    omega (arith, more, none)

silent-act : (v : ℕ) (a : Act) → (a ≡ Calls v → ⊥) → is_call_of v a ≡ false
silent-act v (Calls w) silent = ne_eqb w v (λ same. silent (ap Calls same))
silent-act v (Fetch j) silent = refl
silent-act v Handle silent = refl
silent-act v (Upcall w) silent = refl
silent-act v (Resume w) silent = refl
silent-act v (Flush j) silent = refl
silent-act v (Kill w) silent = refl

no-some : (n a : ℕ) → ◌≡◌ {A = Option (ℕ × ℕ)} None (Some (n, a)) → ⊥
no-some n a same = absurd cc

number-same : {n m a b : ℕ} → ◌≡◌ {A = Option (ℕ × ℕ)} (Some (n, a)) (Some (m, b)) → n ≡ m
number-same {n} {m} {a} {b} same = ap (λ (x : ℕ × ℕ). x.0) (same_Some (n, a) (m, b) same)

place-same : {n m a b : ℕ} → ◌≡◌ {A = Option (ℕ × ℕ)} (Some (n, a)) (Some (m, b)) → a ≡ b
place-same {n} {m} {a} {b} same = ap (λ (x : ℕ × ℕ). x.1) (same_Some (n, a) (m, b) same)

free-held : (k : KeyName) → Free ≡ Held k → ⊥
free-held k same = absurd cc

module _ (T : Setup) (S : IsService T) (J : List Entry) (e : Entry) (runs' : IsSchedule T (J ++ e ∷ [])) (served : IsServedWorld T (world_after T J))
    (passes : ActPasses T e.event.kernel (side (world_after T J) e.event.kernel) e.event.act) where
  abbrev J' : List Entry
  J' = J ++ e ∷ []

  abbrev W : World
  W = world_after T J

  abbrev W' : World
  W' = world_after T J'

  module _ (v : ℕ) (d : VpeDecl) (at : decl T v ≡ Some d) (client : v ≡ SERVER → ⊥) (H : IsHolding T J v) where
    abbrev s : Side
    s = home T W v

    abbrev s' : Side
    s' = home T W' v

    is-sound' : IsSound T (kernel_of T v) s'
    is-sound' = sound' T S J e runs' served passes v d at

    own-kernel : e.event.act ≡ Calls v → kernel_of T v ≡ e.event.kernel
    own-kernel act = vpe-local T e.event.kernel (side W e.event.kernel) e.event.act (locally T S J e runs' served passes) v (inl act)

    -- A call that asks draws the next number.
    module _ (act : e.event.act ≡ Calls v) (c : Call) (next : next_call T s v ≡ Some c) where
      abbrev local : kernel_of T v ≡ e.event.kernel
      local = own-kernel act

      here-number : (row (call_counted v (side W e.event.kernel)) v).next_number ≡ (row s v).next_number
      here-number = counted-number (side W e.event.kernel) v ∙ ap (λ i. (row (side W i) v).next_number) (sym local)

      next-counted : (row s' v).next_call ≡ (row s v).next_call + 1
      next-counted = (goes T S J e runs' served passes v d at local client H act c next).0
          ∙ (counted-call (side W e.event.kernel) v ∙ ap (λ i. (row (side W i) v).next_call + 1) (sym local))

      pub drew : (number dst : ℕ) → parked s' v ≡ Some (ObtainWait number dst) → number ≡ (row (call_counted v (side W e.event.kernel)) v).next_number
          → IsDrawnBy T J' v number (row s v).next_call
      drew number dst parks numbered = record {
        before = J;
        later = [];
        entry = e;
        among = refl;
        number = sym (numbered ∙ here-number);
        call = refl;
        drawn = kept-drawn T (kernel_of T v) s' is-sound' v number dst (ap kept parks);
        called = next-counted;
      }

    module _ (A : IsAsking T J v) where
      abbrev on : (n sel : ℕ) → IsAsked T J v n sel → IsAsked T J' v n sel
      on n sel x = more-asked T J e v n sel x

      -- An event of another kernel.
      module _ (away : kernel_of T v ≡ e.event.kernel → ⊥) where
        same-side : s' ≡ s
        same-side = side-other T J e (kernel_of T v) away

        pub asking-away : IsAsking T J' v
        asking-away = record {
          waits = λ n sel is. let x = A.waits n sel (ap (λ t. kept (parked t v)) (sym same-side) ∙ is) in
              (on n sel x.0, ap (λ t. (row t v).next_call) same-side ∙ x.1);
          slots = λ sel k near is. let x = A.slots sel k near (ap (λ t. slot t v sel) (sym same-side) ∙ is) in
              (on k.number sel x.0, λ m c less below. x.1 m c less (subst (λ t. m < (row t v).next_call) same-side below));
          gives = λ p is. let x = A.gives p (ap (λ t. parked t v) (sym same-side) ∙ is) in
              record { index = x.index; last = ap (λ t. (row t v).next_call) same-side ∙ x.last; call = x.call; at_index = x.at_index; askless = x.askless };
          counted = counted-so J e v (silent-act v e.event.act (λ act. away (own-kernel act))) ∙ (A.counted ∙ ap (λ t. (row t v).next_call) (sym same-side));
        }

      module _ (local : kernel_of T v ≡ e.event.kernel) where
        -- what is at a selector that nothing came to was there
        unmoved : (sel : ℕ) (k : KeyName) → sel < GIVEN → ((number : ℕ) → kept (parked s v) ≡ Some (number, sel) → ⊥)
            → ((c : Call) → e.event.act ≡ Calls v → next_call T s v ≡ Some c → AsksAt c sel → ⊥)
            → ((m : ℕ) → m < (row s' v).next_call → (m < (row s v).next_call) ⊎ ((c : Call) → slice_get (calls_of T v) m ≡ Some c → AsksAt c sel → ⊥))
            → slot s' v sel ≡ Held k → (x : IsAsked T J' v k.number sel) × AsksNoMore T J' v x.index sel
        unmoved sel k near free apart goes-on is = elim (slotted T S J e runs' served passes v d at local sel near free apart) [
          | inl same ↦ (let x = A.slots sel k near (sym same ∙ is) in (
            on k.number sel x.0,
            λ m c less below there asks. elim (goes-on m below) [
              | inl before ↦ x.1 m c less before there asks
              | inr now ↦ now c there asks
            ],
          ))
          | inr none ↦ absurd (free-held k (sym none ∙ is))
        ]

        promised : (number sel : ℕ) (k : KeyName) → kept (parked s' v) ≡ Some (number, sel) → slot s' v sel ≡ Held k → ⊥
        promised number sel k waits is = awaits-promised T (kernel_of T v) s' is-sound' v sel number waits k is

        -- An event in which v does not call.
        module _ (silent : e.event.act ≡ Calls v → ⊥) where
          calls-same : (row s' v).next_call ≡ (row s v).next_call
          calls-same = (course T S J e runs' served passes v d at local client H silent).calls

          waits-on : (n sel : ℕ) → kept (parked s' v) ≡ Some (n, sel) → Turn T s s' v → (x : IsAsked T J' v n sel) × ((row s' v).next_call ≡ x.index + 1)
          waits-on n sel is (turn_same same) = let x = A.waits n sel (ap kept (sym same) ∙ is) in (on n sel x.0, calls-same ∙ x.1)
          waits-on n sel is (turn_woken j was now) = absurd (no-some n sel (sym (ap kept now) ∙ is))
          waits-on n sel is (turn_obtained number q key parent object numbered was now) =
              let same = sym (ap kept now) ∙ is in
              let n-is : number ≡ n = numbered ∙ number-same same in
              let x = A.waits number q (ap kept was) in
              let y : (z : IsAsked T J' v number q) × ((row s' v).next_call ≡ z.index + 1) = (on number q x.0, calls-same ∙ x.1) in
              subst (λ a. (z : IsAsked T J' v a sel) × ((row s' v).next_call ≡ z.index + 1)) n-is
              (subst (λ b. (z : IsAsked T J' v number b) × ((row s' v).next_call ≡ z.index + 1)) (place-same same) y)
          waits-on n sel is (turn_prepared parent key was now) = absurd (no-some n sel (sym (ap kept now) ∙ is))
          waits-on n sel is (turn_got number q was now has) = elim now [
            | inl ready ↦ absurd (no-some n sel (sym (ap kept ready) ∙ is))
            | inr none ↦ absurd (no-some n sel (sym (ap kept none) ∙ is))
          ]
          waits-on n sel is (turn_over was busy now) = elim now [
            | inl ready ↦ absurd (no-some n sel (sym (ap kept ready) ∙ is))
            | inr none ↦ absurd (no-some n sel (sym (ap kept none) ∙ is))
          ]

          same-calls : {sel : ℕ} → (m : ℕ) → m < (row s' v).next_call → (m < (row s v).next_call)
              ⊎ ((c : Call) → slice_get (calls_of T v) m ≡ Some c → AsksAt c sel → ⊥)
          same-calls {sel} m below = inl (subst (λ n. m < n) calls-same below)

          none-later : (index m n n' : ℕ) → n ≡ index + 1 → n' ≡ n → index < m → m < n' → ⊥
          none-later index m n n' one two less below = omega (arith, one, two, less, below)

          -- who gives gave before
          gives-on : (p : KeyName) → parked s' v ≡ Some (DelegateWait p) → Turn T s s' v → IsAskless T J' v
          gives-on p is (turn_same same) = let x = A.gives p (sym same ∙ is) in
              record { index = x.index; last = calls-same ∙ x.last; call = x.call; at_index = x.at_index; askless = x.askless }
          gives-on p is (turn_woken j was now) = let no' : ◌≡◌ {A = Option Parked} (Some (Ready 0)) (Some (DelegateWait p)) = sym now ∙ is in absurd cc
          gives-on p is (turn_obtained number q key parent object numbered was now) =
              let no' : ◌≡◌ {A = Option Parked} (Some (ObtainReady key parent object q)) (Some (DelegateWait p)) = sym now ∙ is in absurd cc
          gives-on p is (turn_prepared parent key was now) = let no' : ◌≡◌ {A = Option Parked} (Some (DelegateReady parent key)) (Some (DelegateWait p)) =
              sym now ∙ is in absurd cc
          gives-on p is (turn_got number q was now has) = over now
            where
              over : (parked s' v ≡ Some (Ready 0)) ⊎ (parked s' v ≡ None) → IsAskless T J' v
              over (inl ready) = let no' : ◌≡◌ {A = Option Parked} (Some (Ready 0)) (Some (DelegateWait p)) = sym ready ∙ is in absurd cc
              over (inr none) = let no' : ◌≡◌ {A = Option Parked} None (Some (DelegateWait p)) = sym none ∙ is in absurd cc
          gives-on p is (turn_over was busy now) = over now
            where
              over : (parked s' v ≡ Some (Ready 0)) ⊎ (parked s' v ≡ None) → IsAskless T J' v
              over (inl ready) = let no' : ◌≡◌ {A = Option Parked} (Some (Ready 0)) (Some (DelegateWait p)) = sym ready ∙ is in absurd cc
              over (inr none) = let no' : ◌≡◌ {A = Option Parked} None (Some (DelegateWait p)) = sym none ∙ is in absurd cc

          -- what v waited for has come, or is waited for
          came : (n sel : ℕ) (k : KeyName) → kept (parked s v) ≡ Some (n, sel) → slot s' v sel ≡ Held k → Turn T s s' v → (x : IsAsked T J' v k.number sel)
              × AsksNoMore T J' v x.index sel
          came n sel k waited is (turn_same same) = absurd (promised n sel k (ap kept same ∙ waited) is)
          came n sel k waited is (turn_woken j was now) = absurd (no-some n sel (sym (ap kept was) ∙ waited))
          came n sel k waited is (turn_obtained number q key parent object numbered was now) =
              let one : q ≡ sel = place-same (sym (ap kept was) ∙ waited) in
              absurd (promised key.number sel k (ap kept now ∙ ap (λ m. Some (key.number, m)) one) is)
          came n sel k waited is (turn_prepared parent key was now) = absurd (no-some n sel (sym (ap kept was) ∙ waited))
          came n sel k waited is (turn_got number q was now has) =
              let one : q ≡ sel = place-same (sym was ∙ waited) in
              let key : has.key ≡ k = same_Held has.key k (sym has.at ∙ (ap (slot s' v) one ∙ is)) in
              let n-is : number ≡ k.number = sym has.numbered ∙ ap (λ (x : KeyName). x.number) key in
              let y = A.waits number q was in
              subst (λ a. (x : IsAsked T J' v a sel) × AsksNoMore T J' v x.index sel) n-is
              (subst (λ b. (x : IsAsked T J' v number b) × AsksNoMore T J' v x.index b) one (
                on number q y.0,
                λ m c less below there asks. absurd (none-later y.0.index m (row s v).next_call (row s' v).next_call y.1 calls-same less below),
              ))
          came n sel k waited is (turn_over was busy now) = absurd (no-some n sel (sym was ∙ waited))

          slots-on : (sel : ℕ) (k : KeyName) → sel < GIVEN → slot s' v sel ≡ Held k → (o : Option (ℕ × ℕ)) → kept (parked s v) ≡ o →
              (x : IsAsked T J' v k.number sel)
              × AsksNoMore T J' v x.index sel
          slots-on sel k near is None none = unmoved sel k near (λ number waits. no-some number sel (sym none ∙ waits))
              (λ c act next asks. silent act) same-calls is
          slots-on sel k near is (Some x) some = elim (cases_eq x.1 sel) [
            | inl same ↦ came x.0 sel k (some ∙ ap (λ m. Some (x.0, m)) same) is (course T S J e runs' served passes v d at local client H silent).turn
            | inr other ↦ unmoved sel k near (λ number waits. other (place-same {n = x.0} {m = number} (sym some ∙ waits)))
                (λ c act next asks. silent act) same-calls
                is
          ]

          pub asking-on : IsAsking T J' v
          asking-on = record {
            waits = λ n sel is. waits-on n sel is (course T S J e runs' served passes v d at local client H silent).turn;
            slots = λ sel k near is. slots-on sel k near is (kept (parked s v)) refl;
            gives = λ p is. gives-on p is (course T S J e runs' served passes v d at local client H silent).turn;
            counted = counted-so J e v (silent-act v e.event.act silent) ∙ (A.counted ∙ sym calls-same);
          }

        -- A call of v.
        module _ (act : e.event.act ≡ Calls v) (c : Call) (next : next_call T s v ≡ Some c) where
          unwaited : (sel number : ℕ) → kept (parked s v) ≡ Some (number, sel) → ⊥
          unwaited sel number waits = no-some number sel (sym (ap kept (idle T S J e runs' served passes v d at local client H act c next)) ∙ waits)

          same-call : (c' : Call) → next_call T s v ≡ Some c' → c' ≡ c
          same-call c' there = same_Some c' c (sym there ∙ next)

          count : call_count_of J' v ≡ (row s' v).next_call
          count = counted-on J e v (ap (is_call_of v) act ∙ eq-eqb v v refl) ∙ (ap (λ m. m + 1) A.counted ∙ sym (next-counted act c next))

          -- the calls before this one
          one-call-more : (sel : ℕ) → (AsksAt c sel → ⊥) → (m : ℕ) → m < (row s' v).next_call → (m < (row s v).next_call)
              ⊎ ((c' : Call) → slice_get (calls_of T v) m ≡ Some c' → AsksAt c' sel → ⊥)
          one-call-more sel apart m below = elim (cases_lt m (row s v).next_call) [
            | inl before ↦ inl before
            | inr now ↦ (let same : m ≡ (row s v).next_call = at-last m (row s v).next_call (row s' v).next_call (next-counted act c next) below now in
                inr (λ c' there asks. apart (subst (λ z. AsksAt z sel) (same-call c' (ap (slice_get (calls_of T v)) (sym same) ∙ there)) asks)))
          ]
            where
              at-last : (m n n' : ℕ) → n' ≡ n + 1 → m < n' → n ≤ m → m ≡ n
              at-last m n n' one below now = omega (arith, one, below, now)

          quiet-on : (kept (parked s' v) ≡ None) → ((sel : ℕ) → AsksAt c sel → ⊥) → IsAsking T J' v
          quiet-on none apart = record {
            waits = λ n sel is. absurd (no-some n sel (sym none ∙ is));
            slots = λ sel k near is. unmoved sel k near (λ number waits. unwaited sel number waits)
                (λ c' a there asks. apart sel (subst (λ z. AsksAt z sel) (same-call c' there) asks)) (one-call-more sel (apart sel)) is;
            gives = λ p is. record { index = (row s v).next_call; last = next-counted act c next; call = c; at_index = next; askless = apart };
            counted = count;
          }

          ask-on : (number dst : ℕ) → parked s' v ≡ Some (ObtainWait number dst) → number ≡ (row (call_counted v (side W e.event.kernel)) v).next_number →
              AsksAt c dst
              → ((sel : ℕ) → AsksAt c sel → dst ≡ sel) → IsAsking T J' v
          ask-on number dst parks numbered asks only = record {
            waits = λ n sel is.
                let same = sym (ap kept parks) ∙ is in
                subst (λ a. (z : IsAsked T J' v a sel) × ((row s' v).next_call ≡ z.index + 1)) (number-same same)
                (subst (λ b. (z : IsAsked T J' v number b) × ((row s' v).next_call ≡ z.index + 1)) (place-same same) (mine, next-counted act c next));
            slots = λ sel k near is. elim (cases_eq dst sel) [
              | inl same ↦ absurd (promised number sel k (ap kept parks ∙ ap (λ m. Some (number, m)) same) is)
              | inr other ↦ unmoved sel k near (λ n waits. unwaited sel n waits)
                  (λ c' a there asks'. other (only sel (subst (λ z. AsksAt z sel) (same-call c' there) asks')))
                  (one-call-more sel (λ asks'. other (only sel asks'))) is
            ];
            gives = λ p is. (let no' : ◌≡◌ {A = Option Parked} (Some (ObtainWait number dst)) (Some (DelegateWait p)) = sym parks ∙ is in absurd cc);
            counted = count;
          }
            where
              mine : IsAsked T J' v number dst
              mine = record { index = (row s v).next_call; drawn = drew act c next number dst parks numbered; call = c; at_index = next; asks = asks }

          pub calling : IsAsking T J' v
          calling = by_call c refl (goes T S J e runs' served passes v d at local client H act c next).1
            where
              by_call : (c' : Call) → c' ≡ c → ParksAs (call_counted v (side W e.event.kernel)) v c' (parked s' v) → IsAsking T J' v
              by_call (OpenSession dst name) is parks = ask-on parks.0 dst parks.1 parks.2 (subst (λ z. AsksAt z dst) is refl)
                  (λ sel asks. subst (λ z. AsksAt z sel) (sym is) asks)
              by_call (AskOffer dst session index) is parks = ask-on parks.0 dst parks.1 parks.2 (subst (λ z. AsksAt z dst) is refl)
                  (λ sel asks. subst (λ z. AsksAt z sel) (sym is) asks)
              by_call (Delegate src w dst) is parks = quiet-on (ap kept parks.2) (λ sel asks. subst (λ z. AsksAt z sel) (sym is) asks)
              by_call (Revoke src) is parks = quiet-on (elim parks [ inl (j, at') ↦ ap kept at' | inr at' ↦ ap kept at' ])
                  (λ sel asks. subst (λ z. AsksAt z sel) (sym is) asks)
              by_call (Bind ep src) is parks = quiet-on (ap kept parks) (λ sel asks. subst (λ z. AsksAt z sel) (sym is) asks)
              by_call (ReadCall ep off len) is parks = quiet-on (ap kept parks) (λ sel asks. subst (λ z. AsksAt z sel) (sym is) asks)
              by_call (WriteCall ep off len) is parks = quiet-on (ap kept parks) (λ sel asks. subst (λ z. AsksAt z sel) (sym is) asks)
              by_call (Derive src dst off len rights) is parks = quiet-on (ap kept parks) (λ sel asks. subst (λ z. AsksAt z sel) (sym is) asks)
              by_call (Gate src dst label credits) is parks = quiet-on (ap kept parks) (λ sel asks. subst (λ z. AsksAt z sel) (sym is) asks)
              by_call (Obtain dst w src) is parks = quiet-on (ap kept parks) (λ sel asks. subst (λ z. AsksAt z sel) (sym is) asks)
              by_call (SendCall ep len) is parks = quiet-on (ap kept parks) (λ sel asks. subst (λ z. AsksAt z sel) (sym is) asks)
              by_call (Credit ep) is parks = quiet-on (ap kept parks) (λ sel asks. subst (λ z. AsksAt z sel) (sym is) asks)
              by_call Exit is parks = quiet-on (ap kept parks) (λ sel asks. subst (λ z. AsksAt z sel) (sym is) asks)
              by_call (Clear src) is parks = quiet-on (ap kept parks) (λ sel asks. subst (λ z. AsksAt z sel) (sym is) asks)

      -- One entry more.
      pub asking-next : IsAsking T J' v
      asking-next = elim (cases_eq (kernel_of T v) e.event.kernel) [
        | inr away ↦ asking-away away
        | inl local ↦ by_act local e.event.act refl
      ]
        where
          mine : (local : kernel_of T v ≡ e.event.kernel) → e.event.act ≡ Calls v → IsAsking T J' v
          mine local act = from (next_call T s v) refl
            where
              from : (o : Option Call) → next_call T s v ≡ o → IsAsking T J' v
              from (Some c) next = calling local act c next
              from None none =
                  let some = called T e.event.kernel (side W e.event.kernel) v
                  (subst (λ a. is_locally_enabled T e.event.kernel (side W e.event.kernel) a ≡ true) act (locally T S J e runs' served passes)) in
                  let no' : false ≡ true = sym (ap is_some (ap (λ i. next_call T (side W i) v) (sym local) ∙ none)) ∙ some in
                  absurd cc

          by_act : (local : kernel_of T v ≡ e.event.kernel) → (a : Act) → e.event.act ≡ a → IsAsking T J' v
          by_act local (Calls u) act = elim (cases_eq u v) [
            | inl same ↦ mine local (act ∙ ap Calls same)
            | inr other ↦ asking-on local (λ act'. other (caller (sym act ∙ act')))
          ]
            where
              caller : {w : ℕ} → ◌≡◌ {A = Act} (Calls u) (Calls w) → u ≡ w
              caller same = cc same
          by_act local (Fetch j) act = asking-on local (λ act'. let no' : ◌≡◌ {A = Act} (Fetch j) (Calls v) = sym act ∙ act' in absurd cc)
          by_act local Handle act = asking-on local (λ act'. let no' : ◌≡◌ {A = Act} Handle (Calls v) = sym act ∙ act' in absurd cc)
          by_act local (Upcall u) act = asking-on local (λ act'. let no' : ◌≡◌ {A = Act} (Upcall u) (Calls v) = sym act ∙ act' in absurd cc)
          by_act local (Resume u) act = asking-on local (λ act'. let no' : ◌≡◌ {A = Act} (Resume u) (Calls v) = sym act ∙ act' in absurd cc)
          by_act local (Flush j) act = asking-on local (λ act'. let no' : ◌≡◌ {A = Act} (Flush j) (Calls v) = sym act ∙ act' in absurd cc)
          by_act local (Kill u) act = asking-on local (λ act'. let no' : ◌≡◌ {A = Act} (Kill u) (Calls v) = sym act ∙ act' in absurd cc)
