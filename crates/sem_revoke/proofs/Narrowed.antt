-- Narrowing, along every schedule of every setup: objects stay, and what is granted grants no more than its parent.
use Rattle.std.proofs.Common.{◌≡◌, ℕ, ◌<◌, ◌≤◌, ◌++◌, Bool, true, false, if◌then◌else◌, List, [], ◌∷◌, map, Option, Some, None, slice_get, option_to_list}
use Rattle.std.proofs.Common.{nat_lt, refl, sym, ap, ◌∙◌, subst, inl, inr, arith}
use Rattle.std.specs.List.{Contains}
use Rattle.std.specs.Option.{option_map_or}
use Rattle.std.proofs.lemmas.Bool.{cases_Bool, cond-true, cond-false, ltb-true, lt-ltb}
use Rattle.std.proofs.lemmas.Option.{same_Some, slice_get_within, get_or_from_slice_get}
use Rattle.std.proofs.lemmas.List.Elements.{All-contains, Contains-append_cases, Contains-append_left, Contains-append_right}
use Rattle.sem_key.specs.declared.key.Kind.{Kind}
use Rattle.sem_key.specs.declared.object.Object.{Object}
use Rattle.sem_key.specs.declared.object.Object.TheVariants.{Mem, Recv, Send, Serv, Sess}
use Rattle.sem_key.specs.KeyName.{KeyName, key_eq}
use Rattle.sem_key.specs.ObjectRanges.{object_kind, narrows}
use Rattle.sem_key.specs.Capability.{Capability}
use Rattle.sem_msg.specs.Message.{IsDelegable}
use Rattle.sem_msg.specs.declared.call.Call.{Call}
use Rattle.sem_msg.specs.declared.call.Call.TheVariants.{Derive, Gate, Obtain, Delegate, OpenSession, AskOffer, Revoke, Bind, Read, Write, Send as SendCall}
use Rattle.sem_msg.specs.declared.call.Call.TheVariants.{Credit, Exit, Clear}
use Rattle.sem_msg.specs.declared.event.Act.{Act}
use Rattle.sem_msg.specs.declared.event.Act.TheVariants.{Call as Calls, Fetch, Handle, Upcall, Resume, Flush, Kill}
use Rattle.sem_msg.specs.declared.event.Event.{Event}
use Rattle.sem_msg.specs.declared.entry.Entry.{Entry}
use Rattle.sem_msg.specs.declared.state.Ask.{Ask}
use Rattle.sem_msg.specs.declared.state.Ask.TheVariants.{Obtain as ObtainAsk, Delegate as DelegateAsk}
use Rattle.sem_msg.specs.Setup.{Setup, IsSetup}
use Rattle.sem_msg.specs.Lookups.{kernel_of}
use Rattle.sem_machine.specs.Sides.{Side, row, cap, call_counted, ask_taken}
use Rattle.sem_machine.specs.Calls.{stays_at_home, narrowed}
use Rattle.sem_machine.specs.Upcalls.{given}
use Rattle.sem_machine.specs.Machine.{World, side, local_entry, entry_of, after, is_enabled, input_of}
use Rattle.sem_machine.specs.Schedules.{IsSchedule, world_after}
use Rattle.sem_machine.specs.Journals.{grants, root_keys}
use Rattle.sem_key.proofs.KeyTests.{key_eq-same, key_eq-true}
use Rattle.sem_key.proofs.Members.{found, Contains-head, Contains-map, Contains-from_map}
use Rattle.sem_safety.proofs.CarryingWorlds.{stepped}
use Rattle.sem_safety.proofs.Drawers.{side-after, may_draw}
use Rattle.sem_safety.proofs.Layers.{Facts, AsksFor, Awaits, InGrant, InCut}
use Rattle.sem_safety.proofs.KeptRows.{CallGives}
use Rattle.sem_safety.proofs.KeptSteps.{Dies, AskGives, ActGives}
use Rattle.sem_safety.proofs.Carrying.{AreFitting, InCap, InSide, InWorld, row-in, parked-in}
use Rattle.sem_safety.proofs.CarryingWorlds.{side-in, after-in}
use Rattle.sem_sound.proofs.Scheduling.{schedule-sound}
use Rattle.sem_revoke.proofs.Weaker.{world-weaker}
use Rattle.sem_revoke.proofs.Events.{Made}
use Rattle.sem_revoke.proofs.Readying.{enabled-low, last-granted}
use Rattle.sem_revoke.proofs.Giving.{call_object, ask_object, parked_object, chosen, Known, step-under}

-- how many numbers a VPE has drawn
abbrev pub drawn_by : Setup → World → ℕ → ℕ
drawn_by T W v = (row (side W (kernel_of T v)) v).next_number

-- ob is the object of each made key, prepared that of each key of a delegation
abbrev pub said : Setup → List (KeyName × KeyName) → (KeyName → Object) → (KeyName → Object) → (ℕ → ℕ) → (ℕ → ℕ → Type 0) → Object → Facts
said T gs ob prepared n place o = record {
  key = λ k x. Made T gs k × (ob k ≡ x);
  acked = λ k. Made T gs k × ((k.number < n k.vpe) × (prepared k ≡ ob k));
  place = place;
  asked = λ v m. Unit {0};
  calls = λ v. Unit {0};
  ends = λ v. Unit {0};
  offered = λ k x. Made T gs k × (ob k ≡ x);
  handed = λ x. (o ≡ x) × (stays_at_home x ≡ false);
  pends = λ p. (p.key.number < n p.key.vpe) × (prepared p.key ≡ p.object);
  prepared = λ p k. Made T gs p × ((k.number < n k.vpe) × ((prepared k ≡ ob p) × (stays_at_home (ob p) ≡ false)));
  link = λ p k. Unit {0};
  doomed = λ k. Unit {0};
  given = o;
}

-- each claim of an object in the world is right, and each grant narrows
pub record Objects (T : Setup) (gs : List (KeyName × KeyName)) (W : World) : Type 0 where
  pub ob : KeyName → Object
  pub prepared : KeyName → Object
  pub right : InWorld (said T gs ob prepared (drawn_by T W) (λ v m. Unit {0}) (Recv 0)) W
  pub narrower : (p k : KeyName) → Contains gs (p, k) → narrows (ob k) p (ob p) ≡ true

stays : (o : Object) (kind : Kind) → kind ≡ object_kind o → IsDelegable kind → stays_at_home o ≡ false
stays o kind same fit = from o (subst IsDelegable same fit)
  where
    from : (o : Object) → IsDelegable (object_kind o) → stays_at_home o ≡ false
    from (Mem base len rights) fit = refl
    from (Recv slots) fit = refl
    from (Send gate label credits) fit = refl
    from (Serv name) fit = absurd fit
    from (Sess service ident) fit = absurd fit

abbrev granted : Option (KeyName × KeyName) → KeyName → Bool
granted None k = false
granted (Some g) k = key_eq g.1 k

module _ (T : Setup) (valid : IsSetup T) (J : List Entry) (runs : IsSchedule T J) (I : Objects T (grants J) (world_after T J)) (e : Event)
    (enabled : is_enabled T (world_after T J) e ≡ true) (up : (v : ℕ) → drawn_by T (world_after T J) v ≤ drawn_by T (after T (world_after T J) e) v)
    (new : (p k : KeyName) → ◌≡◌ {A = Option (KeyName × KeyName)} (stepped T (world_after T J) e).outcome.grant (Some (p, k)) → Made T (grants J) k →
    ⊥) (parents : (p k : KeyName) → Contains (grants J) (p, k) → Made T (grants J) p) where
  abbrev W : World
  W = world_after T J

  abbrev gs : List (KeyName × KeyName)
  gs = grants J

  abbrev s : Side
  s = side W e.kernel

  abbrev F0 : Facts
  F0 = said T gs I.ob I.prepared (drawn_by T W) (λ v m. Unit {0}) (Recv 0)

  abbrev g : Option (KeyName × KeyName)
  g = (stepped T W e).outcome.grant

  abbrev gs' : List (KeyName × KeyName)
  gs' = gs ++ option_to_list g

  here : InSide F0 s
  here = side-in F0 W I.right e.kernel

  cap-right : (k : KeyName) (c : Capability) → cap s k ≡ Some c → Made T gs k × (I.ob k ≡ c.object)
  cap-right k c held =
      let at = found (λ (x : Capability). key_eq x.key k) s.caps c held in
      subst (λ q. Made T gs q × (I.ob q ≡ c.object)) (key_eq-true c.key k at.1) (All-contains (InCap F0) s.caps c here.caps at.0).key

  ask-among : (v : ℕ) (a : Ask) → slice_get (row s v).asks 0 ≡ Some a → Contains (row s v).asks a
  ask-among v a there = (0, slice_get_within (row s v).asks 0 a there, get_or_from_slice_get (row s v).asks 0 a a there)

  known : Known s I.ob
  known =
      let sound = (schedule-sound T valid J runs).sides e.kernel (enabled-low T W e enabled) in
      record {
        valid = λ k c held. (sound.caps c (found (λ (x : Capability). key_eq x.key k) s.caps c held).0).object.0;
        kind = λ k c held. (sound.caps c (found (λ (x : Capability). key_eq x.key k) s.caps c held).0).kind;
        object = λ k c held. sym (cap-right k c held).1;
        targets = λ v place service there. ((sound.rows v).asks _ (ask-among v _ there)).1.1;
        asked = λ v parent object sel there.
            let ask = (sound.rows v).asks _ (ask-among v _ there) in
            ((All-contains (AsksFor F0) (row s v).asks _ (row-in F0 s here v) (ask-among v _ there)).1, stays object parent.kind ask.2 ask.3);
        waits = λ v parent key there. (subst (Awaits F0) there (parked-in F0 s here v)).1.1.1;
      }

  abbrev o : Object
  o = chosen T I.ob s e.act

  abbrev ob' : KeyName → Object
  ob' k = if granted g k then o else I.ob k

  abbrev prepared' : KeyName → Object
  prepared' k = if nat_lt k.number (drawn_by T W k.vpe) then I.prepared k else o

  abbrev V : World
  V = after T W e

  abbrev F1 : Facts
  F1 = said T gs' ob' prepared' (drawn_by T V) (λ v m. (drawn_by T W v ≤ m) × (m < drawn_by T V v)) o

  in-more : (p k : KeyName) (x : Option (KeyName × KeyName)) → ◌≡◌ {A = Option (KeyName × KeyName)} x (Some (p, k)) → Contains (option_to_list x) (p, k)
  in-more p k None none = absurd cc
  in-more p k (Some q) some = subst (Contains (q ∷ [])) (same_Some q (p, k) some) (Contains-head q [])

  old-made : (k : KeyName) → Made T gs k → Made T gs' k
  old-made k made = elim (Contains-append_cases (root_keys T) (map (λ (q : KeyName × KeyName). q.1) gs) k made) [
    | inl root ↦ Contains-append_left (root_keys T) (map (λ (q : KeyName × KeyName). q.1) gs') k root
    | inr child ↦
        let q = Contains-from_map (λ (q : KeyName × KeyName). q.1) gs k child in
        Contains-append_right (root_keys T) (map (λ (q : KeyName × KeyName). q.1) gs') k
        (subst (Contains (map (λ (q : KeyName × KeyName). q.1) gs')) q.2
        (Contains-map (λ (q : KeyName × KeyName). q.1) gs' q.0 (Contains-append_left gs (option_to_list g) q.0 q.1)))
  ]

  new-made : (p k : KeyName) → ◌≡◌ {A = Option (KeyName × KeyName)} g (Some (p, k)) → Made T gs' k
  new-made p k is = Contains-append_right (root_keys T) (map (λ (q : KeyName × KeyName). q.1) gs') k (Contains-map (λ (q : KeyName × KeyName). q.1) gs' (
    p,
    k,
  ) (Contains-append_right gs (option_to_list g) (p, k) (in-more p k g is)))

  ob-old : (k : KeyName) → Made T gs k → ob' k ≡ I.ob k
  ob-old k made = from g refl
    where
      from : (x : Option (KeyName × KeyName)) → g ≡ x → (if granted x k then o else I.ob k) ≡ I.ob k
      from None is = refl
      from (Some q) is = elim (cases_Bool (key_eq q.1 k)) [
        | inl same ↦ absurd (new q.0 q.1 is (subst (Made T gs) (sym (key_eq-true q.1 k same)) made))
        | inr differ ↦ cond-false (key_eq q.1 k) o (I.ob k) differ
      ]

  ob-new : (p k : KeyName) → ◌≡◌ {A = Option (KeyName × KeyName)} g (Some (p, k)) → ob' k ≡ o
  ob-new p k is = ap (λ x. if granted x k then o else I.ob k) is ∙ cond-true (key_eq k k) o (I.ob k) (key_eq-same k)

  prepared-old : (k : KeyName) → k.number < drawn_by T W k.vpe → prepared' k ≡ I.prepared k
  prepared-old k below = cond-true (nat_lt k.number (drawn_by T W k.vpe)) (I.prepared k) o (lt-ltb k.number (drawn_by T W k.vpe) below)

  prepared-new : (k : KeyName) → drawn_by T W k.vpe ≤ k.number → prepared' k ≡ o
  prepared-new k above = elim (cases_Bool (nat_lt k.number (drawn_by T W k.vpe))) [
    | inl below ↦ let low = ltb-true k.number (drawn_by T W k.vpe) below in absurd (omega (arith, low, above))
    | inr not_below ↦ cond-false (nat_lt k.number (drawn_by T W k.vpe)) (I.prepared k) o not_below
  ]

  further : (k : KeyName) → k.number < drawn_by T W k.vpe → k.number < drawn_by T V k.vpe
  further k below = let more = up k.vpe in omega (arith, below, more)

  before : InWorld F1 W
  before = world-weaker F0 F1 (record {
    key = λ k x is. (old-made k is.0, ob-old k is.0 ∙ is.1);
    acked = λ k is. (old-made k is.0, (further k is.1.0, prepared-old k is.1.0 ∙ (is.1.1 ∙ sym (ob-old k is.0))));
    asked = λ v m is. tt;
    offered = λ k x is. (old-made k is.0, ob-old k is.0 ∙ is.1);
    pends = λ p is. (further p.key is.0, prepared-old p.key is.0 ∙ is.1);
    prepared = λ p k is. (
      old-made p is.0,
      (
        further k is.1.0,
        (
          prepared-old k is.1.0 ∙ (is.1.1.0 ∙ sym (ob-old p is.0)),
          ap stays_at_home (ob-old p is.0)
              ∙ is.1.1.1,
        ),
      ),
    );
    link = λ p k. tt;
    doomed = λ k. tt;
  }) W I.right

  fitting : AreFitting F1
  fitting = record {
    spreads = λ p k l d. tt;
    asks = λ v m calls is. tt;
    offers = λ k x is. is;
    prepares = λ parent key object sel offered place handed. (
      (place.1, prepared-new key place.0 ∙ handed.0),
      (offered.0, (place.1, (prepared-new key place.0 ∙ (handed.0 ∙ sym offered.1), ap stays_at_home offered.1 ∙ handed.1))),
    );
    acks = λ parent key prep offered now. (now.0, (prep.1.0, prep.1.1.0 ∙ (offered.1 ∙ sym now.1)));
    settles = λ p is acked. (acked.0, sym acked.1.1 ∙ is.1);
  }

  of-grant : (x : Object) → o ≡ x → (k : KeyName) → F1.key k o → F1.key k x
  of-grant x is k there = (there.0, there.1 ∙ is)

  call-gives : (v : ℕ) (c : Call) → o ≡ call_object (call_counted v s) v c → CallGives F1 (call_counted v s) v c
  call-gives v (Derive src dst off len rights) is = λ p held. of-grant (narrowed off len rights p.object) (is
      ∙ ap (λ x. option_map_or (λ (q : Capability). narrowed off len rights q.object) x (Recv 0)) held)
  call-gives v (Gate src dst label credits) is = λ p held. of-grant (Send p.key label credits) (is
      ∙ ap (λ x. option_map_or (λ (q : Capability). Send q.key label credits) x (Recv 0)) held)
  call-gives v (Obtain dst w src) is = tt
  call-gives v (Delegate src w dst) is = tt
  call-gives v (OpenSession dst name) is = tt
  call-gives v (AskOffer dst session index) is = tt
  call-gives v (Revoke src) is = tt
  call-gives v (Bind ep src) is = tt
  call-gives v (Read ep off len) is = tt
  call-gives v (Write ep off len) is = tt
  call-gives v (SendCall ep len) is = tt
  call-gives v (Credit ep) is = tt
  call-gives v Exit is = tt
  call-gives v (Clear src) is = tt

  ask-gives : (v : ℕ) (a : Ask) → slice_get (row s v).asks 0 ≡ Some a → o ≡ ask_object T (ask_taken v s) v a → AskGives F1 T (ask_taken v s) v a
  ask-gives v (ObtainAsk place target) there is = λ p held. of-grant (given target place.vpe p) (is
      ∙ ap (λ x. option_map_or (given target place.vpe) x (Recv 0)) held)
  ask-gives v (DelegateAsk parent object sel) there is = (of-grant object is, (is, (known.asked v parent object sel there).1))

  act-gives : (a : Act) → e.act ≡ a → ActGives F1 T s a
  act-gives (Calls v) is = λ c there. call-gives v c (ap (chosen T I.ob s) is ∙ ap (λ x. option_map_or (call_object (call_counted v s) v) x (Recv 0)) there)
  act-gives (Upcall v) is = λ a there. ask-gives v a there (ap (chosen T I.ob s) is ∙ ap (λ x. option_map_or (ask_object T (ask_taken v s) v) x (Recv 0)) there)
  act-gives (Resume v) is = λ parent key there.
      let prep = subst (Awaits F0) there (parked-in F0 s here v) in
      (old-made parent prep.0, ob-old parent prep.0 ∙ sym (ap (chosen T I.ob s) is ∙ ap (parked_object I.ob) there))
  act-gives (Fetch j) is = tt
  act-gives Handle is = tt
  act-gives (Flush j) is = tt
  act-gives (Kill v) is = tt

  dies : (a : Act) → Dies F1 T s a
  dies (Calls v) = λ exits k same. tt
  dies (Upcall v) = tt
  dies (Fetch j) = tt
  dies Handle = tt
  dies (Resume v) = tt
  dies (Flush j) = tt
  dies (Kill v) = λ k same. tt

  in-grant : (x : Option (KeyName × KeyName)) → g ≡ x → InGrant F1 x
  in-grant None is = tt
  in-grant (Some q) is = ((new-made q.0 q.1 is, ob-new q.0 q.1 is), tt)

  in-cut : (x : Option KeyName) → InCut F1 x
  in-cut None = tt
  in-cut (Some k) = tt

  after-right : InWorld F1 V
  unfolding entry_of local_entry
  after-right = after-in F1 (λ v. kernel_of T v ≡ e.kernel) T W e (may_draw T W e enabled) before fitting (act-gives e.act refl) (dies e.act) (in-grant g refl)
      (λ v m may low below. (
        subst (λ a. (row (side W a) v).next_number ≤ m) (sym may) low,
        subst (λ a. m < (row (side V a) v).next_number) (sym may) (subst (λ (t : Side). m < (row t v).next_number) (sym (side-after T W e)) below),
      ))
      (in-cut (stepped T W e).outcome.cut)

  pub next-objects : Objects T gs' V
  next-objects = record {
    ob = ob';
    prepared = prepared';
    right = world-weaker F1 (said T gs' ob' prepared' (drawn_by T V) (λ v m. Unit {0}) (Recv 0)) (record {
      key = λ k x is. is;
      acked = λ k is. is;
      asked = λ v m is. is;
      offered = λ k x is. is;
      pends = λ p is. is;
      prepared = λ p k is. is;
      link = λ p k. tt;
      doomed = λ k. tt;
    }) V after-right;
    narrower = λ p k among. elim (last-granted T valid gs g p k among) [
      | inl old ↦
          let made-p = parents p k old in
          let made-k : Made T gs k = Contains-append_right (root_keys T) (map (λ (q : KeyName × KeyName). q.1) gs) k
          (Contains-map (λ (q : KeyName × KeyName). q.1) gs (p, k) old) in
          subst (λ x. narrows x p (ob' p) ≡ true) (sym (ob-old k made-k))
          (subst (λ x. narrows (I.ob k) p x ≡ true) (sym (ob-old p made-p)) (I.narrower p k old))
      | inr now ↦
          let u = step-under T e.kernel s I.ob known e.act (input_of W e.kernel e.act) p k now in
          let at = cap-right p u.0 u.1 in
          subst (λ x. narrows x p (ob' p) ≡ true) (sym (ob-new p k now)) (subst (λ x. narrows o p x ≡ true) (sym (ob-old p at.0 ∙ at.1)) u.2)
    ];
  }
