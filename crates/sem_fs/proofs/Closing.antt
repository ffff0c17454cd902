-- What was granted to a call that asks is cut off by the revoke at its selector, if no call between the two asks there; and when the
-- revoke has its reply, it is answered.
use Rattle.std.proofs.Common.{◌≡◌, ◌⊎◌, ℕ, suc, ◌+◌, ◌<◌, ◌≤◌, ◌++◌, true, List, [], ◌∷◌, length, slice_get, Option, Some, None, append_assoc, eq-eqb, ◌-◌}
use Rattle.std.proofs.Common.{refl, sym, ap, ◌∙◌, subst, inl, inr, arith}
use Rattle.std.specs.List.{Contains}
use Rattle.std.specs.Option.{option_map_or}
use Rattle.std.proofs.lemmas.Bool.{cases_lt}
use Rattle.std.proofs.lemmas.Option.{same_Some, slice_get_within, get_or_from_slice_get}
use Rattle.std.proofs.lemmas.List.Elements.{Contains-append_left, Contains-append_right, filter_map-append}
use Rattle.sem_key.specs.declared.key.Kind.{Kind}
use Rattle.sem_key.specs.KeyName.{KeyName}
use Rattle.sem_key.proofs.Members.{Contains-head, Contains-tail}
use Rattle.sem_msg.specs.declared.call.Call.{Call}
use Rattle.sem_msg.specs.declared.call.Call.TheVariants.{Derive, Gate, Obtain, Delegate, OpenSession, AskOffer, Revoke, Bind, Read as ReadCall}
use Rattle.sem_msg.specs.declared.call.Call.TheVariants.{Write as WriteCall, Send as SendCall, Credit, Exit, Clear}
use Rattle.sem_msg.specs.declared.entry.Entry.{Entry}
use Rattle.sem_msg.specs.declared.setup.VpeDecl.{VpeDecl}
use Rattle.sem_msg.specs.declared.state.Parked.{Parked}
use Rattle.sem_msg.specs.declared.state.Parked.TheVariants.{RevokeWait, Ready}
use Rattle.sem_msg.specs.Setup.{Setup}
use Rattle.sem_msg.specs.Lookups.{decl, pe_of, kernel_of, calls_of}
use Rattle.sem_machine.specs.Sides.{row, parked, is_alive}
use Rattle.sem_machine.specs.Sound.{kept}
use Rattle.sem_machine.specs.Machine.{side, start, next_call, is_locally_enabled}
use Rattle.sem_machine.specs.Schedules.{IsSchedule, world_after}
use Rattle.sem_machine.specs.Journals.{grants, root_keys, answered, cut_by, cut_off, succeeds}
use Rattle.sem_machine.specs.Living.{reply_count}
use Rattle.sem_safety.proofs.CarryingWorlds.{chosen}
use Rattle.sem_safety.proofs.GoingOn.{run-prefix}
use Rattle.sem_safety.proofs.Noted.{history-grants}
use Rattle.sem_revoke.proofs.Completing.{told-free, told-parked}
use Rattle.sem_revoke.proofs.Serving.{enabled-call}
use Rattle.sem_files.specs.Compiled.{SERVER}
use Rattle.sem_fs.specs.Service.{GIVEN, IsService}
use Rattle.sem_fs.specs.Openings.{is_call_of, call_count_of, IsGrantedTo}
use Rattle.sem_fs.specs.Holding.{home, Holds}
use Rattle.sem_fs.specs.Going.{IsGoing}
use Rattle.sem_fs.specs.Drawings.{IsDrawnBy}
use Rattle.sem_fs.proofs.Unending.{entered}
use Rattle.sem_fs.proofs.Sparing.{lives, sound}
use Rattle.sem_fs.proofs.Slots.{AsksAt}
use Rattle.sem_fs.proofs.ServedSteps.{ActPasses}
use Rattle.sem_fs.proofs.HoldingSteps.{locally, goes, opened, revoked-key}
use Rattle.sem_fs.proofs.Succeeding.{passes}
use Rattle.sem_fs.proofs.Drawing.{one-call, one-number, later-calls}
use Rattle.sem_fs.proofs.AskedCalls.{IsAsked, counted-on}
use Rattle.sem_fs.proofs.Granting.{Suits, HasOrigin, calls-decl, root-gave, granted-now}
use Rattle.sem_fs.proofs.Knowing.{IsKnown}
use Rattle.sem_fs.proofs.Serving.{all-going, all-supplied, all-known, all-succeed}
use Rattle.sem_fs.proofs.Answering.{get-behind, get-within, IsMade, call-made, replies-append, later-succeeds, answered-at}

-- Keys with the same parts.
abbrev key-of : ℕ → ℕ → Kind → ℕ → KeyName
key-of pe vpe kind number = record { pe = pe; vpe = vpe; kind = kind; number = number }

same-parts : (pe pe' vpe vpe' : ℕ) (kind kind' : Kind) (number number' : ℕ) → pe ≡ pe' → vpe ≡ vpe' → kind ≡ kind' → number ≡ number'
    → key-of pe vpe kind number ≡ key-of pe' vpe' kind' number'
same-parts pe pe' vpe vpe' kind kind' number number' p v k n = cc

same-key : (a b : KeyName) → a.pe ≡ b.pe → a.vpe ≡ b.vpe → a.kind ≡ b.kind → a.number ≡ b.number → a ≡ b
same-key a b p v k n = same-parts a.pe b.pe a.vpe b.vpe a.kind b.kind a.number b.number p v k n

-- a call asks for one kind
one-kind : (c : Call) (a b : Kind) → Suits c a → Suits c b → a ≡ b
one-kind (OpenSession dst name) a b one two = one ∙ sym two
one-kind (AskOffer dst session index) a b one two = one ∙ sym two
one-kind (Delegate src w dst) a b one two = absurd one
one-kind (Revoke src) a b one two = absurd one
one-kind (Bind ep src) a b one two = absurd one
one-kind (ReadCall ep off len) a b one two = absurd one
one-kind (WriteCall ep off len) a b one two = absurd one
one-kind (Derive src dst off len rights) a b one two = absurd one
one-kind (Gate src dst label credits) a b one two = absurd one
one-kind (Obtain dst w src) a b one two = absurd one
one-kind (SendCall ep len) a b one two = absurd one
one-kind (Credit ep) a b one two = absurd one
one-kind Exit a b one two = absurd one
one-kind (Clear src) a b one two = absurd one

-- what was drawn was drawn in a longer journal too
drawn-later : (T : Setup) (v n m : ℕ) (before later : List Entry) → IsDrawnBy T before v n m → IsDrawnBy T (before ++ later) v n m
drawn-later T v n m before later x = record {
  before = x.before;
  later = x.later ++ later;
  entry = x.entry;
  among = ap (λ K. K ++ later) x.among ∙ append_assoc x.before (x.entry ∷ x.later) later;
  number = x.number;
  call = x.call;
  drawn = x.drawn;
  called = x.called;
}

-- a call that asks at a selector, and the revoke there
pub record IsClosing (T : Setup) (v sel n r : ℕ) : Type 0 where
  pub first : List Call
  pub between : List Call
  pub behind : List Call
  pub ask : Call
  pub calls : calls_of T v ≡ first ++ ask ∷ (between ++ Revoke sel ∷ behind)
  pub asks : AsksAt ask sel
  pub silent : (c : Call) → Contains between c → AsksAt c sel → ⊥
  pub ask_number : length first ≡ n
  pub revoke_number : n + (1 + length between) ≡ r

module _ (T : Setup) (S : IsService T) (J : List Entry) (runs : IsSchedule T J) (v sel n r : ℕ) (C : IsClosing T v sel n r) (a : KeyName)
    (G : IsGrantedTo J v n a)
    (told : r < reply_count J v) where
  rest : List Call
  rest = C.between ++ Revoke sel ∷ C.behind

  at_ask : slice_get (calls_of T v) n ≡ Some C.ask
  at_ask =
      ap (λ cs. slice_get cs n) C.calls
      ∙ (ap (slice_get (C.first ++ C.ask ∷ (C.between ++ Revoke sel ∷ C.behind))) (zero-more (length C.first) n C.ask_number)
      ∙ get-behind C.first (C.ask ∷ (C.between ++ Revoke sel ∷ C.behind)) 0)
    where
      zero-more : (b n : ℕ) → b ≡ n → n ≡ b + 0
      zero-more b n same = omega (arith, same)

  -- what comes behind the ask
  at_rest : (m : ℕ) → slice_get (calls_of T v) (n + (1 + m)) ≡ slice_get (C.between ++ Revoke sel ∷ C.behind) m
  at_rest m =
      ap (λ cs. slice_get cs (n + (1 + m))) C.calls
      ∙ (ap (slice_get (C.first ++ C.ask ∷ (C.between ++ Revoke sel ∷ C.behind))) (ap (λ b. b + (1 + m)) (sym C.ask_number))
      ∙ (get-behind C.first (C.ask ∷ (C.between ++ Revoke sel ∷ C.behind)) (1 + m)
      ∙ ap (slice_get (C.ask ∷ (C.between ++ Revoke sel ∷ C.behind))) (one-more m)))
    where
      one-more : (m : ℕ) → 1 + m ≡ suc m
      one-more m = omega arith

  at_revoke : slice_get (calls_of T v) r ≡ Some (Revoke sel)
  at_revoke =
      ap (slice_get (calls_of T v)) (sym C.revoke_number)
      ∙ (at_rest (length C.between)
      ∙ (ap (slice_get (C.between ++ Revoke sel ∷ C.behind)) (zero-more (length C.between)) ∙ get-behind C.between (Revoke sel ∷ C.behind) 0))
    where
      zero-more : (b : ℕ) → b ≡ b + 0
      zero-more b = omega arith

  d : (d : VpeDecl) × (decl T v ≡ Some d)
  d = calls-decl T v r (Revoke sel) at_revoke

  client : v ≡ SERVER → ⊥
  client same = let no' : ◌≡◌ {A = Option Call} None (Some (Revoke sel)) = sym (ap (λ cs. slice_get cs r) (ap (calls_of T) same ∙ S.rests)) ∙ at_revoke in
      absurd cc

  -- A prefix of the schedule, and the entry behind it.
  module _ (b l : List Entry) (e : Entry) (parts : J ≡ b ++ e ∷ l) where
    runs-b : IsSchedule T b
    runs-b = (entered T b l e (subst (IsSchedule T) parts runs)).0

    runs-e : IsSchedule T (b ++ e ∷ [])
    runs-e = run-prefix T b l e (start T) (subst (IsSchedule T) parts runs)

    going-b : IsGoing T b
    going-b = all-going T S b runs-b

    known-b : IsKnown T b
    known-b = all-known T S b runs-b

    pass-b : ActPasses T e.event.kernel (side (world_after T b) e.event.kernel) e.event.act
    pass-b = passes T S b e runs-e (all-supplied T S b runs-b) going-b

    counted-b : call_count_of b v ≡ (row (home T (world_after T b) v) v).next_call
    counted-b = (known-b.asking v d.0 d.1 client).counted

    whole-j : (b ++ e ∷ []) ++ l ≡ J
    whole-j = append_assoc b (e ∷ []) l ∙ sym parts

  -- The key was granted to the ask.

  abbrev b : List Entry
  b = G.before

  last-b : (row (home T (world_after T G.before) v) v).next_call ≡ n + 1
  last-b = sym (counted-b G.before G.later G.entry G.among) ∙ G.last_call

  root-a : Contains (root_keys T) G.parent
  root-a = root-gave T S G.before G.entry (runs-e G.before G.later G.entry G.among) (going-b G.before G.later G.entry G.among).served
      (pass-b G.before G.later G.entry G.among) (known-b G.before G.later G.entry G.among).asked (known-b G.before G.later G.entry G.among).asking G.parent a v
      G.grants
      G.consents d.0 d.1 client C.ask n sel last-b at_ask C.asks

  now-a : (m : ℕ) × (a.vpe ≡ v) × IsDrawnBy T (G.before ++ G.entry ∷ []) v a.number m × ((row (home T (world_after T G.before) v) v).next_call ≡ m + 1)
  now-a = granted-now T S G.before G.entry (runs-e G.before G.later G.entry G.among) (going-b G.before G.later G.entry G.among).served
      (pass-b G.before G.later G.entry G.among) (known-b G.before G.later G.entry G.among).asked (known-b G.before G.later G.entry G.among).asking G.parent a v
      G.grants
      G.consents d.0 d.1 client root-a

  drawn-a : IsDrawnBy T J v a.number n
  drawn-a =
      subst (λ K. IsDrawnBy T K v a.number n) (whole-j G.before G.later G.entry G.among)
      (drawn-later T v a.number n (G.before ++ G.entry ∷ []) G.later
      (subst (IsDrawnBy T (G.before ++ G.entry ∷ []) v a.number) (one-less now-a.0 n (row (home T (world_after T G.before) v) v).next_call now-a.3 last-b)
      now-a.2))
    where
      one-less : (x y k : ℕ) → k ≡ x + 1 → k ≡ y + 1 → x ≡ y
      one-less x y k one two = omega (arith, one, two)

  origin-a : HasOrigin T J a
  origin-a = (all-known T S J runs).origins G.parent a root-a
      (chosen (λ (x : Entry). x.grant) J G.entry (G.parent, a)
      (subst (λ K. Contains K G.entry) (sym G.among) (Contains-append_right G.before (G.entry ∷ G.later) G.entry (Contains-head G.entry G.later))) G.grants)

  -- a key of the VPE with an origin at the call has the kind that the call asks for
  kind-at : (k : KeyName) → k.vpe ≡ v → HasOrigin T J k → IsDrawnBy T J v k.number n → Suits C.ask k.kind
  kind-at k own' o drawn =
      let same : o.index ≡ n = one-call T J v k.number o.index n (subst (λ w. IsDrawnBy T J w k.number o.index) own' o.drawn) drawn in
      let call : o.call ≡ C.ask =
      same_Some o.call C.ask (sym o.at_index ∙ (ap (λ w. slice_get (calls_of T w) o.index) own' ∙ (ap (slice_get (calls_of T v)) same ∙ at_ask))) in
      subst (λ c. Suits c k.kind) call o.suits

  -- The revoke was made.

  calls-told : r < call_count_of J v
  calls-told = from (parked (home T (world_after T J) v) v) refl
    where
      counts : call_count_of J v ≡ (row (home T (world_after T J) v) v).next_call
      counts = ((all-known T S J runs).asking v d.0 d.1 client).counted

      from : (o : Option Parked) → parked (home T (world_after T J) v) v ≡ o → r < call_count_of J v
      from None none = let free = told-free T S.setup J runs v (lives T S J runs v d.0 d.1) none in omega (arith, free, counts, told)
      from (Some p) some = let waits = told-parked T S.setup J runs v p (lives T S J runs v d.0 d.1) some in omega (arith, waits, counts, told)

  made : IsMade J v r
  made = call-made v r [] J (omega arith) calls-told

  abbrev b2 : List Entry
  b2 = made.before

  runs2 : IsSchedule T (made.before ++ made.entry ∷ [])
  runs2 = runs-e made.before made.later made.entry made.among

  served2 : IsGoing T made.before
  served2 = going-b made.before made.later made.entry made.among

  next2 : next_call T (home T (world_after T made.before) v) v ≡ Some (Revoke sel)
  next2 = ap (slice_get (calls_of T v)) (sym (counted-b made.before made.later made.entry made.among) ∙ made.count) ∙ at_revoke

  pass2 : ActPasses T made.entry.event.kernel (side (world_after T made.before) made.entry.event.kernel) made.entry.event.act
  pass2 = pass-b made.before made.later made.entry made.among

  local2 : (kernel_of T v ≡ made.entry.event.kernel) × (is_alive (side (world_after T made.before) made.entry.event.kernel) v ≡ true)
      × (parked (side (world_after T made.before) made.entry.event.kernel) v ≡ None)
  local2 = enabled-call T made.entry.event.kernel (side (world_after T made.before) made.entry.event.kernel) v
      (subst (λ x. is_locally_enabled T made.entry.event.kernel (side (world_after T made.before) made.entry.event.kernel) x ≡ true) made.act
      (locally T S made.before made.entry runs2 served2.served pass2))

  idle2 : parked (home T (world_after T made.before) v) v ≡ None
  idle2 = ap (λ j. parked (side (world_after T made.before) j) v) local2.0 ∙ local2.2

  -- what it revokes
  holds2 : Holds T made.before v sel
  holds2 =
      let o = opened T S made.before made.entry runs2 served2.served pass2 v d.0 d.1 local2.0 client (served2.holding v d.0 d.1 client) made.act sel next2 in
      elim ((served2.holding v d.0 d.1 client).held sel o.1 o.2) [
        | inl x ↦ x
        | inr (number, waits) ↦ (let no' : ◌≡◌ {A = Option (ℕ × ℕ)} None (Some (number, sel)) = sym (ap kept idle2) ∙ waits in absurd cc)
      ]

  near2 : sel < GIVEN
  near2 = (opened T S made.before made.entry runs2 served2.served pass2 v d.0 d.1 local2.0 client (served2.holding v d.0 d.1 client) made.act sel next2).1

  abbrev k2 : KeyName
  k2 = holds2.key

  asked2 : (x : IsAsked T made.before v holds2.key.number sel)
      × ((m : ℕ) (c : Call) → x.index < m → m < (row (home T (world_after T made.before) v) v).next_call → slice_get (calls_of T v) m ≡ Some c → AsksAt c sel →
      ⊥)
  asked2 = ((known-b made.before made.later made.entry made.among).asking v d.0 d.1 client).slots sel holds2.key near2 holds2.at

  r-is : (row (home T (world_after T made.before) v) v).next_call ≡ r
  r-is = sym (counted-b made.before made.later made.entry made.among) ∙ made.count

  -- the ask is the last one there
  index-is : asked2.0.index ≡ n
  index-is = elim (cases_lt asked2.0.index n) [
    | inl before ↦ absurd
        (asked2.1 n C.ask before (ask-before n r (length C.between) (row (home T (world_after T made.before) v) v).next_call C.revoke_number r-is) at_ask
        C.asks)
    | inr above ↦ elim (cases_lt n asked2.0.index) [
      | inr below ↦ both asked2.0.index n above below
      | inl later ↦
          let m : ℕ = asked2.0.index - (n + 1) in
          let less = index-less in
          let place : asked2.0.index ≡ n + (1 + m) = at-place asked2.0.index n later in
          let inside : m < length C.between = within asked2.0.index n r (length C.between) later less C.revoke_number in
          let there : slice_get C.between m ≡ Some asked2.0.call = sym (get-within C.between (Revoke sel ∷ C.behind) m inside)
          ∙ (sym (at_rest m) ∙ (ap (slice_get (calls_of T v)) (sym place) ∙ asked2.0.at_index)) in
          absurd (C.silent asked2.0.call (
            m,
            slice_get_within C.between m asked2.0.call there,
            get_or_from_slice_get C.between m asked2.0.call asked2.0.call there,
          )
          asked2.0.asks)
    ]
  ]
    where
      ask-before : (n r k c : ℕ) → n + (1 + k) ≡ r → c ≡ r → n < c
      ask-before n r k c one two = omega (arith, one, two)

      both : (i n : ℕ) → n ≤ i → i ≤ n → i ≡ n
      both i n one two = omega (arith, one, two)

      at-place : (i n : ℕ) → n < i → i ≡ n + (1 + (i - (n + 1)))
      at-place i n later = omega (arith, later)

      within : (i n r k : ℕ) → n < i → i < r → n + (1 + k) ≡ r → i - (n + 1) < k
      within i n r k later less same = omega (arith, later, less, same)

      index-less : asked2.0.index < r
      index-less =
          let x = asked2.0.drawn in
          let more = later-calls T v (x.before ++ x.entry ∷ []) x.later in
          let same = ap (λ K. (row (home T (world_after T K) v) v).next_call) (sym (x.among ∙ sym (append_assoc x.before (x.entry ∷ []) x.later))) in
          sums asked2.0.index (row (home T (world_after T (x.before ++ x.entry ∷ [])) v) v).next_call
          (row (home T (world_after T ((x.before ++ x.entry ∷ []) ++ x.later)) v) v).next_call (row (home T (world_after T made.before) v) v).next_call r
          x.called
          more same r-is
        where
          sums : (i a b c r : ℕ) → a ≡ i + 1 → a ≤ b → b ≡ c → c ≡ r → i < r
          sums i a b c r one two three four = omega (arith, one, two, three, four)

  drawn-2 : IsDrawnBy T J v holds2.key.number n
  drawn-2 =
      subst (λ K. IsDrawnBy T K v holds2.key.number n) (sym made.among)
      (drawn-later T v holds2.key.number n made.before (made.entry ∷ made.later) (subst (IsDrawnBy T made.before v holds2.key.number) index-is asked2.0.drawn))

  own-2 : holds2.key.vpe ≡ v
  own-2 = ((sound T S made.before (runs-b made.before made.later made.entry made.among) v d.0 d.1).held v sel holds2.key holds2.at).0

  origin-2 : HasOrigin T J holds2.key
  origin-2 = (all-known T S J runs).origins holds2.given.parent holds2.key holds2.given.root
      (subst (λ K. Contains (grants K) (holds2.given.parent, holds2.key)) (sym made.among) (more-grants-in holds2.given.granted))
    where
      more-grants-in : Contains (grants made.before) (holds2.given.parent, holds2.key)
          → Contains (grants (made.before ++ made.entry ∷ made.later)) (holds2.given.parent, holds2.key)
      more-grants-in among = subst (λ gs. Contains gs (holds2.given.parent, holds2.key))
          (sym (filter_map-append (λ (x : Entry). x.grant) made.before (made.entry ∷ made.later)))
          (Contains-append_left (grants made.before) (grants (made.entry ∷ made.later)) (holds2.given.parent, holds2.key) among)

  same-2 : holds2.key ≡ a
  same-2 = same-key holds2.key a
      (origin-2.place ∙ (ap (pe_of T) (own-2 ∙ sym now-a.1) ∙ sym origin-a.place))
      (own-2 ∙ sym now-a.1)
      (one-kind C.ask holds2.key.kind a.kind (kind-at holds2.key own-2 origin-2 drawn-2) (kind-at a now-a.1 origin-a drawn-a))
      (one-number T J v n holds2.key.number a.number drawn-2 drawn-a)

  cut-2 : Contains (cut_by made.before made.entry) a
  cut-2 =
      subst (Contains (cut_by made.before made.entry)) same-2
      (subst (λ gs. Contains (option_map_or (cut_off gs made.entry.detail) made.entry.cut []) holds2.key) (history-grants made.before)
      (revoked-key T S made.before made.entry runs2 served2.served pass2 v d.0 d.1 local2.0 client (served2.holding v d.0 d.1 client) made.act sel next2
      holds2.key
      holds2.at))

  -- The reply came later.
  later-told : 1 ≤ reply_count made.later v
  later-told =
      let all = ap (λ K. reply_count K v) (sym (whole-j made.before made.later made.entry made.among))
      ∙ replies-append (made.before ++ made.entry ∷ []) made.later v in
      let few = told-few in
      sums (reply_count J v) (reply_count (made.before ++ made.entry ∷ []) v) (reply_count made.later v) r all few told
    where
      sums : (x y z r : ℕ) → x ≡ y + z → y ≤ r → r < x → 1 ≤ z
      sums x y z r one two three = omega (arith, one, two, three)

      called-once : call_count_of (made.before ++ made.entry ∷ []) v ≡ r + 1
      called-once = counted-on made.before made.entry v (ap (is_call_of v) made.act ∙ eq-eqb v v refl) ∙ ap (λ m. m + 1) made.count

      counts : call_count_of (made.before ++ made.entry ∷ []) v ≡ (row (home T (world_after T (made.before ++ made.entry ∷ [])) v) v).next_call
      counts = ((all-known T S (made.before ++ made.entry ∷ []) runs2).asking v d.0 d.1 client).counted

      parks : (kept (parked (home T (world_after T (made.before ++ made.entry ∷ [])) v) v) ≡ None)
          × (parked (home T (world_after T (made.before ++ made.entry ∷ [])) v) v ≡ None → ⊥)
      parks = waiting (goes T S made.before made.entry runs2 served2.served pass2 v d.0 d.1 local2.0 client (served2.holding v d.0 d.1 client) made.act
          (Revoke sel)
          next2).1
        where
          waiting : ((j : ℕ) × (parked (home T (world_after T (made.before ++ made.entry ∷ [])) v) v ≡ Some (RevokeWait j)))
              ⊎ (parked (home T (world_after T (made.before ++ made.entry ∷ [])) v) v ≡ Some (Ready 0))
              → (kept (parked (home T (world_after T (made.before ++ made.entry ∷ [])) v) v) ≡ None)
              × (parked (home T (world_after T (made.before ++ made.entry ∷ [])) v) v ≡ None → ⊥)
          waiting (inl (j, is)) = (ap kept is, λ none. (let no' : ◌≡◌ {A = Option Parked} None (Some (RevokeWait j)) = sym none ∙ is in absurd cc))
          waiting (inr is) = (ap kept is, λ none. (let no' : ◌≡◌ {A = Option Parked} None (Some (Ready 0)) = sym none ∙ is in absurd cc))

      told-few : reply_count (made.before ++ made.entry ∷ []) v ≤ r
      told-few = from (parked (home T (world_after T (made.before ++ made.entry ∷ [])) v) v) refl
        where
          from : (o : Option Parked) → parked (home T (world_after T (made.before ++ made.entry ∷ [])) v) v ≡ o →
              reply_count (made.before ++ made.entry ∷ []) v ≤ r
          from None none = absurd (parks.1 none)
          from (Some p) some = let waits =
              told-parked T S.setup (made.before ++ made.entry ∷ []) runs2 v p (lives T S (made.before ++ made.entry ∷ []) runs2 v d.0 d.1)
              some in omega (arith, waits, counts, called-once)

  pub closed-answered : Contains (answered J) a
  closed-answered =
      subst (λ K. Contains (answered K) a) (sym made.among)
      (answered-at [] made.before made.entry made.later a
      (ap (λ x. succeeds x made.later) made.act ∙ later-succeeds v made.later
      (λ x q among is. all-succeed T S J runs x q
      (subst (λ K. Contains K x) (sym made.among) (Contains-append_right made.before (made.entry ∷ made.later) x (Contains-tail made.entry made.later x among)))
      is)
      later-told)
      cut-2)
