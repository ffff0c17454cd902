-- What is known of a file service that goes well is known after one entry more, and what clients hold is of the right kind.
use Rattle.std.proofs.Common.{◌≡◌, ℕ, ◌+◌, ◌<◌, ◌≤◌, ◌++◌, true, false, not, List, [], ◌∷◌, take, nat_lt, Option, Some, None, slice_get, refl, sym, ap, ◌∙◌}
use Rattle.std.proofs.Common.{subst, inl, inr, arith}
use Rattle.std.specs.List.{Contains}
use Rattle.std.proofs.lemmas.Bool.{cond-false, false_from_ne_true, ltb-true}
use Rattle.std.proofs.lemmas.Option.{same_Some}
use Rattle.sem_key.specs.declared.key.Kind.{Kind}
use Rattle.sem_key.specs.declared.key.Kind.TheVariants.{Mem as MemKind, Recv as RecvKind, Send as SendKind, Serv as ServKind, Sess as SessKind}
use Rattle.sem_key.specs.declared.limits.TheConstants.{RIGHTS}
use Rattle.sem_key.specs.declared.object.Object.{Object}
use Rattle.sem_key.specs.declared.object.Object.TheVariants.{Mem, Recv, Send, Serv, Sess}
use Rattle.sem_key.specs.ObjectRanges.{object_kind, is_subset}
use Rattle.sem_key.specs.KeyName.{KeyName, key_eq}
use Rattle.sem_key.specs.Capability.{Capability}
use Rattle.sem_key.proofs.KeyTests.{key_eq-true}
use Rattle.sem_key.proofs.Members.{found, Contains-nil}
use Rattle.sem_msg.specs.declared.call.Call.{Call}
use Rattle.sem_msg.specs.declared.call.Call.TheVariants.{Derive, Gate, Obtain, Delegate, OpenSession, AskOffer, Revoke, Bind, Read as ReadCall}
use Rattle.sem_msg.specs.declared.call.Call.TheVariants.{Write as WriteCall, Send as SendCall, Credit, Exit, Clear}
use Rattle.sem_msg.specs.declared.code.Code.{Code}
use Rattle.sem_msg.specs.declared.code.Code.TheVariants.{Rights, Range}
use Rattle.sem_msg.specs.declared.entry.Entry.{Entry}
use Rattle.sem_msg.specs.declared.setup.VpeDecl.{VpeDecl}
use Rattle.sem_msg.specs.declared.state.Parked.{Parked}
use Rattle.sem_msg.specs.declared.state.Parked.TheVariants.{DelegateWait}
use Rattle.sem_msg.specs.declared.state.Slot.TheVariants.{Free, Held}
use Rattle.sem_msg.specs.Rows.{Endpoint}
use Rattle.sem_msg.specs.Setup.{Setup}
use Rattle.sem_msg.specs.Lookups.{decl, kernel_of, calls_of}
use Rattle.sem_msg.specs.Uses.{allows, is_past_end, memory_tests}
use Rattle.sem_machine.specs.Sides.{row, slot, cap, parked, endpoint}
use Rattle.sem_machine.specs.Sound.{IsSound, kept}
use Rattle.sem_machine.specs.Steps.{first_code}
use Rattle.sem_machine.specs.Calls.{session_service}
use Rattle.sem_machine.specs.Journals.{cut_from}
use Rattle.sem_machine.specs.Machine.{World, start, next_call}
use Rattle.sem_machine.specs.Schedules.{IsRun, IsSchedule, world_after}
use Rattle.sem_machine.specs.Safety.{IsSoundBinding}
use Rattle.sem_safety.proofs.Carrying.{InWorld}
use Rattle.sem_safety.proofs.CarryingWorlds.{side-in}
use Rattle.sem_safety.proofs.SoundWorlds.{all-endpoints}
use Rattle.sem_sound.proofs.Scheduling.{schedule-sound}
use Rattle.sem_revoke.proofs.Completing.{told-free}
use Rattle.sem_revoke.proofs.ExchangeWorlds.{start-unparked}
use Rattle.sem_files.specs.Files.{EXTENT}
use Rattle.sem_files.specs.Compiled.{SERVER, SESSION, ACCESS, service_key}
use Rattle.sem_fs.specs.Service.{GIVEN, IsWholeExtent, IsAccess, IsService, MayComeNext, holds}
use Rattle.sem_fs.specs.Serving.{IsWorldBy}
use Rattle.sem_fs.specs.Holding.{home, calls_so_far, IsGiven}
use Rattle.sem_fs.specs.Supplies.{IsSupplied, HasObjects}
use Rattle.sem_fs.specs.Going.{IsGoing}
use Rattle.sem_fs.specs.Drawings.{IsDrawnBy}
use Rattle.sem_fs.proofs.Sparing.{lives, held-low}
use Rattle.sem_fs.proofs.Slots.{AsksAt}
use Rattle.sem_fs.proofs.Starts.{start-holding}
use Rattle.sem_fs.proofs.Events.{memory-given}
use Rattle.sem_fs.proofs.Owned.{same_Held}
use Rattle.sem_fs.proofs.Succeeding.{passes}
use Rattle.sem_fs.proofs.Drawing.{one-call}
use Rattle.sem_fs.proofs.AskedCalls.{IsAsked, IsAsking, asking-next}
use Rattle.sem_fs.proofs.AskedWorlds.{IsAskedFor, asked-start, asked-next}
use Rattle.sem_fs.proofs.Granting.{Suits, HasOrigin, HaveOrigins, start-origins, origins-next, calls-decl}
use Rattle.sem_fs.proofs.Whole.{whole, start-whole, whole-next, held-whole}
use Rattle.sem_fs.proofs.Binding.{IsBinding, Binds, binding-next}

-- what is known beside what goes well
pub record IsKnown (T : Setup) (J : List Entry) : Type 0 where
  pub asked : IsWorldBy T (IsAskedFor T J) (world_after T J)
  pub asking : (v : ℕ) (d : VpeDecl) → decl T v ≡ Some d → (v ≡ SERVER → ⊥) → IsAsking T J v
  pub origins : HaveOrigins T J
  pub wholes : InWorld whole (world_after T J)
  pub binding : (v : ℕ) (d : VpeDecl) → decl T v ≡ Some d → (v ≡ SERVER → ⊥) → Binds T J v

module _ (T : Setup) (S : IsService T) where
  -- The start.

  no-entries : IsSchedule T []
  unfolding IsRun
  no-entries = tt

  module _ (v : ℕ) (d : VpeDecl) (at : decl T v ≡ Some d) (client : v ≡ SERVER → ⊥) where
    first-idle : parked (home T (start T) v) v ≡ None
    first-idle = start-unparked T (kernel_of T v) v

    first-calls : (row (home T (start T) v) v).next_call ≡ 0
    first-calls = sym (told-free T S.setup [] no-entries v (lives T S [] no-entries v d at) first-idle)

    none-made : calls_so_far T (start T) v ≡ []
    none-made = ap (λ n. take n (calls_of T v)) first-calls

    none-cut : (k : KeyName) → Contains (cut_from [] []) k → ⊥
    unfolding cut_from
    none-cut k cut = Contains-nil k cut

    free-held : (k : KeyName) → Free ≡ Held k → ⊥
    free-held k same = absurd cc

    start-asking : IsAsking T [] v
    start-asking = record {
      waits = λ n sel is. (let no' : ◌≡◌ {A = Option (ℕ × ℕ)} None (Some (n, sel)) = sym (ap kept first-idle) ∙ is in absurd cc);
      slots = λ sel k near is. elim ((start-holding T S v d at client).free sel near (ap (λ cs. holds cs sel) none-made)) [
        | inl free ↦ absurd (free-held k (sym free ∙ is))
        | inr left ↦ absurd (none-cut left.key left.cut_off)
      ];
      gives = λ p is. (let no' : ◌≡◌ {A = Option Parked} None (Some (DelegateWait p)) = sym first-idle ∙ is in absurd cc);
      counted = sym first-calls;
    }

    start-binding : Binds T [] v
    start-binding first sel last = absurd (empty first (sym none-made ∙ last))
      where
        empty : (first : List Call) → [] ≡ first ++ Bind ACCESS sel ∷ [] → ⊥
        empty [] same = absurd cc
        empty (c ∷ cs) same = absurd cc

  pub start-known : IsKnown T []
  start-known = record {
    asked = asked-start T;
    asking = start-asking;
    origins = start-origins T;
    wholes = start-whole T S;
    binding = start-binding;
  }

  -- One entry more.
  pub known-next : (J : List Entry) (e : Entry) → IsSchedule T (J ++ e ∷ []) → IsSupplied T J → IsGoing T J → IsGoing T (J ++ e ∷ []) → IsKnown T J
      → IsKnown T (J ++ e ∷ [])
  known-next J e runs' X I I' K =
      let pass = passes T S J e runs' X I in
      record {
        asked = asked-next T S J e runs' I.served pass I.holding K.asked;
        asking = λ v d at client. asking-next T S J e runs' I.served pass v d at client (I.holding v d at client) (K.asking v d at client);
        origins = origins-next T S J e runs' I.served pass K.asked K.asking K.origins;
        wholes = whole-next T S J e runs' I.served pass K.wholes;
        binding = λ v d at client. binding-next T S J e runs' I.served pass v d at client (I.holding v d at client) (I'.holding v d at client)
            (K.binding v d at client);
      }

-- Memory of a whole extent may be accessed anywhere.
memory-passes : (right off len : ℕ) (b : Endpoint) → is_subset right RIGHTS ≡ true → object_kind b.object ≡ MemKind → IsWholeExtent b.object → off + len ≤ EXTENT
    → ◌≡◌ {A = Option Code} (first_code (memory_tests right off len (Some b))) None
memory-passes right off len b may memory all within =
    cond-false (not (allows right b.object)) (Some Rights) (first_code ((is_past_end off len b.object, Range) ∷ [])) (ap not (allowed b.object memory all))
    ∙ cond-false (is_past_end off len b.object) (Some Range) None (inside b.object memory all)
  where
    allowed : (o : Object) → object_kind o ≡ MemKind → IsWholeExtent o → allows right o ≡ true
    allowed (Mem base size rights) memory all = ap (is_subset right) all.1 ∙ may
    allowed (Recv slots) memory all = let no' : ◌≡◌ {A = Kind} RecvKind MemKind = memory in absurd cc
    allowed (Send gate label credits) memory all = let no' : ◌≡◌ {A = Kind} SendKind MemKind = memory in absurd cc
    allowed (Serv name) memory all = let no' : ◌≡◌ {A = Kind} ServKind MemKind = memory in absurd cc
    allowed (Sess service ident) memory all = let no' : ◌≡◌ {A = Kind} SessKind MemKind = memory in absurd cc

    inside : (o : Object) → object_kind o ≡ MemKind → IsWholeExtent o → is_past_end off len o ≡ false
    inside (Mem base size rights) memory all = false_from_ne_true (nat_lt size (off + len))
        (λ past. let less = ltb-true size (off + len) past in let same = all.0 in omega (arith, less, same, within))
    inside (Recv slots) memory all = let no' : ◌≡◌ {A = Kind} RecvKind MemKind = memory in absurd cc
    inside (Send gate label credits) memory all = let no' : ◌≡◌ {A = Kind} SendKind MemKind = memory in absurd cc
    inside (Serv name) memory all = let no' : ◌≡◌ {A = Kind} ServKind MemKind = memory in absurd cc
    inside (Sess service ident) memory all = let no' : ◌≡◌ {A = Kind} SessKind MemKind = memory in absurd cc

-- a session is with the server
session-so : (o : Object) → object_kind o ≡ SessKind → IsWholeExtent o → session_service o ≡ Some service_key
session-so (Sess service ident) is all = ap Some all
session-so (Mem base size rights) is all = let no' : ◌≡◌ {A = Kind} MemKind SessKind = is in absurd cc
session-so (Recv slots) is all = let no' : ◌≡◌ {A = Kind} RecvKind SessKind = is in absurd cc
session-so (Send gate label credits) is all = let no' : ◌≡◌ {A = Kind} SendKind SessKind = is in absurd cc
session-so (Serv name) is all = let no' : ◌≡◌ {A = Kind} ServKind SessKind = is in absurd cc

module _ (T : Setup) (S : IsService T) (J : List Entry) (runs : IsSchedule T J) (I : IsGoing T J) (K : IsKnown T J) where
  abbrev W : World
  W = world_after T J

  -- a client that holds what was granted below a root, and how it came to it
  record IsHeldAt (v sel : ℕ) (k : KeyName) (c : Capability) : Type 0 where
    client : v ≡ SERVER → ⊥
    declaration : VpeDecl
    declared : decl T v ≡ Some declaration
    index : ℕ
    call : Call
    at_index : slice_get (calls_of T v) index ≡ Some call
    asks : AsksAt call sel
    suits : Suits call k.kind
    kind : object_kind c.object ≡ k.kind
    all : IsWholeExtent c.object

  held-at : (v sel : ℕ) (k : KeyName) (c : Capability) → sel < GIVEN → slot (home T W v) v sel ≡ Held k → IsGiven T J k → cap (home T W v) k ≡ Some c
      → IsHeldAt v sel k c
  held-at v sel k c near at given held = record {
    client = client;
    declaration = d.0;
    declared = d.1;
    index = mine.index;
    call = mine.call;
    at_index = mine.at_index;
    asks = mine.asks;
    suits = subst (λ z. Suits z k.kind) same-call origin.suits;
    kind = sym (sound.caps c among.0).kind ∙ ap (λ (q : KeyName). q.kind) (key_eq-true c.key k among.1);
    all = held-whole (home T W v) (side-in whole W K.wholes (kernel_of T v)) k c held;
  }
    where
      origin : HasOrigin T J k
      origin = K.origins given.parent k given.root given.granted

      sound : IsSound T (kernel_of T v) (home T (world_after T J) v)
      sound = (schedule-sound T S.setup J runs).sides (kernel_of T v) (held-low T S J runs (kernel_of T v) k c held)

      own' : k.vpe ≡ v
      own' = (sound.held v sel k at).0

      there : slice_get (calls_of T v) origin.index ≡ Some origin.call
      there = ap (λ w. slice_get (calls_of T w) origin.index) (sym own') ∙ origin.at_index

      d : (d : VpeDecl) × (decl T v ≡ Some d)
      d = calls-decl T v origin.index origin.call there

      client : v ≡ SERVER → ⊥
      client same = let no' : ◌≡◌ {A = Option Call} None (Some origin.call) = sym (ap (λ cs. slice_get cs origin.index) (ap (calls_of T) same ∙ S.rests))
          ∙ there in
          absurd cc

      mine : IsAsked T J v k.number sel
      mine = ((K.asking v d.0 d.1 client).slots sel k near at).0

      same-index : origin.index ≡ mine.index
      same-index = one-call T J v k.number origin.index mine.index (subst (λ w. IsDrawnBy T J w k.number origin.index) own' origin.drawn) mine.drawn

      same-call : origin.call ≡ mine.call
      same-call = same_Some origin.call mine.call (sym there ∙ (ap (slice_get (calls_of T v)) same-index ∙ mine.at_index))

      among : Contains (home T (world_after T J) v).caps c × (key_eq c.key k ≡ true)
      among = found (λ (x : Capability). key_eq x.key k) (home T (world_after T J) v).caps c held

  -- a call that asks at the selector of sessions opens one, and at the others asks for an extent
  asks-session : (v : ℕ) (before : List Call) (c : Call) (kind : Kind) → MayComeNext T v before c → AsksAt c SESSION → Suits c kind → kind ≡ SessKind
  asks-session v before (OpenSession dst name) kind so asks suits = suits
  asks-session v before (AskOffer dst session index) kind so asks suits = absurd (none dst so.2 asks)
    where
      none : (dst : ℕ) → SESSION < dst → dst ≡ SESSION → ⊥
      none dst less same = omega (arith, less, same)
  asks-session v before (Delegate src w dst) kind so asks suits = absurd asks
  asks-session v before (Revoke src) kind so asks suits = absurd asks
  asks-session v before (Bind ep src) kind so asks suits = absurd asks
  asks-session v before (ReadCall ep off len) kind so asks suits = absurd asks
  asks-session v before (WriteCall ep off len) kind so asks suits = absurd asks
  asks-session v before (Derive src dst off len rights) kind so asks suits = absurd asks
  asks-session v before (Gate src dst label credits) kind so asks suits = absurd asks
  asks-session v before (Obtain dst w src) kind so asks suits = absurd asks
  asks-session v before (SendCall ep len) kind so asks suits = absurd asks
  asks-session v before (Credit ep) kind so asks suits = absurd asks
  asks-session v before Exit kind so asks suits = absurd asks
  asks-session v before (Clear src) kind so asks suits = absurd asks

  asks-extent : (v sel : ℕ) (before : List Call) (c : Call) (kind : Kind) → SESSION < sel → MayComeNext T v before c → AsksAt c sel → Suits c kind →
      kind ≡ MemKind
  asks-extent v sel before (AskOffer dst session index) kind beyond so asks suits = suits
  asks-extent v sel before (OpenSession dst name) kind beyond so asks suits = absurd (none dst so.0 asks)
    where
      none : (dst : ℕ) → dst ≡ SESSION → dst ≡ sel → ⊥
      none dst one two = omega (arith, one, two, beyond)
  asks-extent v sel before (Delegate src w dst) kind beyond so asks suits = absurd asks
  asks-extent v sel before (Revoke src) kind beyond so asks suits = absurd asks
  asks-extent v sel before (Bind ep src) kind beyond so asks suits = absurd asks
  asks-extent v sel before (ReadCall ep off len) kind beyond so asks suits = absurd asks
  asks-extent v sel before (WriteCall ep off len) kind beyond so asks suits = absurd asks
  asks-extent v sel before (Derive src dst off len rights) kind beyond so asks suits = absurd asks
  asks-extent v sel before (Gate src dst label credits) kind beyond so asks suits = absurd asks
  asks-extent v sel before (Obtain dst w src) kind beyond so asks suits = absurd asks
  asks-extent v sel before (SendCall ep len) kind beyond so asks suits = absurd asks
  asks-extent v sel before (Credit ep) kind beyond so asks suits = absurd asks
  asks-extent v sel before Exit kind beyond so asks suits = absurd asks
  asks-extent v sel before (Clear src) kind beyond so asks suits = absurd asks

  extent-kind : (v sel : ℕ) (k : KeyName) (c : Capability) → SESSION < sel → IsHeldAt v sel k c → object_kind c.object ≡ MemKind
  extent-kind v sel k c beyond x = x.kind
      ∙ asks-extent v sel (take x.index (calls_of T v)) x.call k.kind beyond (S.calls v x.index x.call x.at_index) x.asks x.suits

  -- an access of a client
  access-passes : (right v ep off len : ℕ) (c : Call) → is_subset right RIGHTS ≡ true → next_call T (home T W v) v ≡ Some c →
      IsAccess (calls_so_far T W v) ep off len
      → ◌≡◌ {A = Option Code} (first_code (memory_tests right off len (endpoint (home T W v) v ep))) None
  access-passes right v ep off len c may next so =
      ap (λ n. first_code (memory_tests right off len (endpoint (home T W v) v n))) so.0
      ∙ (ap (λ o. first_code (memory_tests right off len o)) b.bound.at
      ∙ memory-passes right off len b.bound.bound may (ap object_kind (sym sound-b.object) ∙ kind) (subst IsWholeExtent sound-b.object held-b.all) so.1)
    where
      d : (d : VpeDecl) × (decl T v ≡ Some d)
      d = calls-decl T v (row (home T W v) v).next_call c next

      client : v ≡ SERVER → ⊥
      client same = let no' : ◌≡◌ {A = Option Call} None (Some c) = sym (ap (λ cs. slice_get cs (row (home T W v) v).next_call) (ap (calls_of T) same
          ∙ S.rests))
          ∙ next in absurd cc

      b : IsBinding T J v so.2.selector
      b = K.binding v d.0 d.1 client so.2.first so.2.selector so.2.last

      sound-b : IsSoundBinding (world_after T J) (kernel_of T v) v b.bound.bound
      sound-b = all-endpoints T S.setup J runs (kernel_of T v) v ACCESS b.bound.bound b.bound.at

      given : IsGiven T J b.key
      given = elim ((I.holding v d.0 d.1 client).held so.2.selector b.near b.held) [
        | inl x ↦ subst (IsGiven T J) (same_Held x.key b.key (sym x.at ∙ b.at_slot)) x.given
        | inr (number, waits) ↦ (let no' : ◌≡◌ {A = Option (ℕ × ℕ)} None (Some (number, so.2.selector)) = sym (ap kept b.idle) ∙ waits in absurd cc)
      ]

      held-b : IsHeldAt v so.2.selector b.key sound-b.capability
      held-b = held-at v so.2.selector b.key sound-b.capability b.near b.at_slot given (ap (cap (home T W v)) (sym b.bound.key) ∙ sound-b.held)

      kind : object_kind sound-b.capability.object ≡ MemKind
      kind = extent-kind v so.2.selector b.key sound-b.capability b.beyond held-b

  pub known-objects : HasObjects T J
  known-objects = record {
    sessions = λ v k c at given held.
        let x = held-at v SESSION k c (omega arith) at given held in
        session-so c.object (x.kind ∙ asks-session v (take x.index (calls_of T v)) x.call k.kind (S.calls v x.index x.call x.at_index) x.asks x.suits) x.all;
    extents = λ v sel k c beyond near at given held. memory-given c.object (extent-kind v sel k c beyond (held-at v sel k c near at given held));
    reads = λ v ep off len next. access-passes 1 v ep off len (ReadCall ep off len) refl next
        (S.calls v (row (home T W v) v).next_call (ReadCall ep off len) next);
    writes = λ v ep off len next. access-passes 2 v ep off len (WriteCall ep off len) refl next
        (S.calls v (row (home T W v) v).next_call (WriteCall ep off len) next);
  }
