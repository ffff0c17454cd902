-- What the calls of an opening and of its closing are, and that no call between them asks at their selectors. So closed files are gone.
use Rattle.std.proofs.Common.{◌≡◌, ℕ, zero, suc, ◌+◌, ◌-◌, ◌*◌, ◌<◌, ◌≤◌, ◌++◌, true, false, List, [], ◌∷◌, map, length, length-append, nat_lt, Option, Some}
use Rattle.std.proofs.Common.{None, append_assoc, append-nil, refl, sym, ap, ◌∙◌, subst, inl, inr, arith, eq-eqb}
use Rattle.std.specs.Prelude.{◌==◌, ◌&&◌, if◌then◌else◌, unwrap_or}
use Rattle.std.specs.List.{Contains, list_any, range_with_len}
use Rattle.std.proofs.lemmas.Bool.{cases_Bool, cases_eq, cond-true, cond-false, cond_both, eqb-true, ne_eqb}
use Rattle.std.proofs.lemmas.List.Elements.{Contains-append_cases, Contains-append_right}
use Rattle.std.proofs.lemmas.List.FromFn.{length-range_with_len}
use Rattle.sem_key.specs.KeyName.{KeyName}
use Rattle.sem_key.proofs.Members.{Contains-nil, Contains-head, Contains-tail, Contains-cons_cases, Contains-from_map, Contains-from_flat_map, list_any-at}
use Rattle.sem_msg.specs.declared.call.Call.{Call}
use Rattle.sem_msg.specs.declared.call.Call.TheVariants.{Delegate, OpenSession, AskOffer, Revoke, Bind, Read as ReadCall, Write as WriteCall}
use Rattle.sem_msg.specs.declared.entry.Entry.{Entry}
use Rattle.sem_msg.specs.Lookups.{calls_of}
use Rattle.sem_machine.specs.Schedules.{IsSchedule, world_after}
use Rattle.sem_machine.specs.Journals.{Descends, answered}
use Rattle.sem_machine.specs.Living.{reply_count}
use Rattle.sem_machine.specs.Safety.{IsInUse}
use Rattle.sem_revoke.proofs.Serving.{all-gone}
use Rattle.sem_files.specs.declared.files.FileAct.{FileAct}
use Rattle.sem_files.specs.declared.files.FileAct.TheVariants.{OpenFile, Read, Write, Share, Close}
use Rattle.sem_files.specs.declared.files.Command.{Command}
use Rattle.sem_files.specs.Files.{Files, EXTENT, extents_of, handle_of, open_after, is_about, open_file, file_of, is_opening, IsAct, IsCommand}
use Rattle.sem_files.specs.Compiled.{SESSION, ACCESS, extent_number, opened_at, given_at, part_begin, part_end, part_accessed, below, calls_of_act}
use Rattle.sem_files.specs.Compiled.{calls_of_command, calls_from, compiled, AreFiles}
use Rattle.sem_fs.specs.Openings.{Opening, opening_command, IsKeyOfOpening, Closing, IsClosedOpening, calls_before, calls_before_closing}
use Rattle.sem_fs.proofs.Rising.{in-range, few-extents, declared-client}
use Rattle.sem_fs.proofs.CompiledServices.{is-service, client-calls-so}
use Rattle.sem_fs.proofs.Commanding.{asks, revokes}
use Rattle.sem_fs.proofs.Ordered.{one-more}
use Rattle.sem_fs.proofs.Slots.{AsksAt}
use Rattle.sem_fs.proofs.Closing.{IsClosing, closed-answered}

-- Lists.

range-split : (a i k : ℕ) → range_with_len a (i + (1 + k)) ≡ range_with_len a i ++ (a + i) ∷ range_with_len (a + i + 1) k
range-split a zero k = ap (range_with_len a) (one k) ∙ (ap (λ x. x ∷ range_with_len (a + 1) k) (none a) ∙ ap (λ x. (a + 0) ∷ range_with_len (x + 1) k) (none a))
  where
    one : (k : ℕ) → 0 + (1 + k) ≡ suc k
    one k = omega arith

    none : (a : ℕ) → a ≡ a + 0
    none a = omega arith
range-split a (suc i) k =
    ap (range_with_len a) (next i k)
    ∙ (ap (λ xs. a ∷ xs) (range-split (a + 1) i k)
    ∙ ap (λ x. a ∷ (range_with_len (a + 1) i ++ x ∷ range_with_len (x + 1) k)) (moved a i))
  where
    next : (i k : ℕ) → suc i + (1 + k) ≡ suc (i + (1 + k))
    next i k = omega arith

    moved : (a i : ℕ) → (a + 1) + i ≡ a + suc i
    moved a i = omega arith

map-append : {X Y : Type 0} (f : X → Y) (xs ys : List X) → map f (xs ++ ys) ≡ map f xs ++ map f ys
map-append f [] ys = refl
map-append f (x ∷ xs) ys = ap (λ zs. f x ∷ zs) (map-append f xs ys)

length-map : {X Y : Type 0} (f : X → Y) (xs : List X) → length (map f xs) ≡ length xs
length-map f [] = refl
length-map f (x ∷ xs) = let rest = length-map f xs in omega (arith, rest)

module _ (F : Files) (v : ℕ) where
  -- the calls of commands behind others
  calls-append : (before xs ys : List Command) → calls_from F v before (xs ++ ys) ≡ calls_from F v before xs ++ calls_from F v (before ++ xs) ys
  unfolding calls_from
  calls-append before [] ys = ap (λ b. calls_from F v b ys) (sym (append-nil before))
  calls-append before (c ∷ xs) ys =
      let these : List Call = if c.client == v then calls_of_command F before c else [] in
      ap (λ cs. these ++ cs)
      (calls-append (before ++ c ∷ []) xs ys ∙ ap (λ b. calls_from F v (before ++ c ∷ []) xs ++ calls_from F v b ys) (append_assoc before (c ∷ []) xs))
      ∙ sym (append_assoc these (calls_from F v (before ++ c ∷ []) xs) (calls_from F v (before ++ c ∷ xs) ys))

  calls-cons : (before : List Command) (act : FileAct) (ys : List Command)
      → calls_from F v before (record { client = v; act = act } ∷ ys) ≡ calls_of_act (extents_of F (file_of before v act)) act ++ calls_from F v
      (before ++ record { client = v; act = act } ∷ []) ys
  unfolding calls_from
  calls-cons before act ys = ap (λ cs. cs ++ calls_from F v (before ++ record { client = v; act = act } ∷ []) ys)
      (cond-true (v == v) (calls_of_act (extents_of F (file_of before v act)) act) [] (eq-eqb v v refl))

-- An act that opens nothing asks for nothing.
act-silent : (n : ℕ) (act : FileAct) → is_opening act ≡ false → (c : Call) → Contains (calls_of_act n act) c → (sel : ℕ) → AsksAt c sel → ⊥
act-silent n (OpenFile handle file) no' c among sel asks' = absurd cc
act-silent n (Close handle) no' c among sel asks' =
    (let o = Contains-from_map (λ i. Revoke (opened_at handle i)) (below n) c among in subst (λ x. AsksAt x sel) (sym o.2) asks')
act-silent n (Share handle to other) no' c among sel asks' =
    (let o = Contains-from_map (λ i. Delegate (opened_at handle i) to (given_at other i)) (below n) c among in subst (λ x. AsksAt x sel) (sym o.2) asks')
act-silent n (Read handle off len) no' c among sel asks' =
    let o = Contains-from_flat_map (part_accessed (ReadCall ACCESS) handle off len) (below n) c among in
    cond_both (nat_lt (part_begin off o.0) (part_end off len o.0))
    (Bind ACCESS (opened_at handle o.0) ∷ ReadCall ACCESS (part_begin off o.0 - EXTENT * o.0) (part_end off len o.0 - part_begin off o.0) ∷ []) []
    (λ cs. Contains cs c → ⊥)
    (λ _ there. elim (Contains-cons_cases (Bind ACCESS (opened_at handle o.0))
    (ReadCall ACCESS (part_begin off o.0 - EXTENT * o.0) (part_end off len o.0 - part_begin off o.0) ∷ []) c there) [
      | inl same ↦ subst (λ x. AsksAt x sel) (sym same) asks'
      | inr rest ↦ elim (Contains-cons_cases (ReadCall ACCESS (part_begin off o.0 - EXTENT * o.0) (part_end off len o.0 - part_begin off o.0)) [] c rest) [
        | inl same ↦
            subst (λ x. AsksAt x sel) (sym same) asks'
        | inr none ↦ Contains-nil c none
      ]
    ])
    (λ _ none. Contains-nil c none)
    o.2
act-silent n (Write handle off len) no' c among sel asks' =
    let o = Contains-from_flat_map (part_accessed (WriteCall ACCESS) handle off len) (below n) c among in
    cond_both (nat_lt (part_begin off o.0) (part_end off len o.0))
    (Bind ACCESS (opened_at handle o.0) ∷ WriteCall ACCESS (part_begin off o.0 - EXTENT * o.0) (part_end off len o.0 - part_begin off o.0) ∷ []) []
    (λ cs. Contains cs c → ⊥)
    (λ _ there. elim (Contains-cons_cases (Bind ACCESS (opened_at handle o.0))
    (WriteCall ACCESS (part_begin off o.0 - EXTENT * o.0) (part_end off len o.0 - part_begin off o.0) ∷ []) c there) [
      | inl same ↦ subst (λ x. AsksAt x sel) (sym same) asks'
      | inr rest ↦ elim (Contains-cons_cases (WriteCall ACCESS (part_begin off o.0 - EXTENT * o.0) (part_end off len o.0 - part_begin off o.0)) [] c rest) [
        | inl same ↦
            subst (λ x. AsksAt x sel) (sym same) asks'
        | inr none ↦ Contains-nil c none
      ]
    ])
    (λ _ none. Contains-nil c none)
    o.2

module _ (F : Files) (AF : AreFiles F) (v h f i : ℕ) (few : i < 4) where
  abbrev sel : ℕ
  sel = opened_at h i

  -- the asks of another handle are elsewhere
  asks-elsewhere : (h' f' : ℕ) → (h' ≡ h → ⊥) → (c : Call) → Contains (asks h' f' (below (extents_of F f'))) c → AsksAt c (opened_at h i) → ⊥
  asks-elsewhere h' f' other c among asks' =
      let o = Contains-from_map (λ j. AskOffer (opened_at h' j) SESSION (extent_number f' j)) (below (extents_of F f')) c among in
      let near = (in-range 0 (extents_of F f') o.0 o.1).1 in
      let most = few-extents F AF f' in
      other (same-handle o.0 (within o.0 (extents_of F f') near most) (subst (λ x. AsksAt x (opened_at h i)) (sym o.2) asks'))
    where
      within : (j n : ℕ) → j < 0 + n → n ≤ 4 → j < 4
      within j n near most = omega (arith, near, most)

      same-handle : (j : ℕ) → j < 4 → opened_at h' j ≡ opened_at h i → h' ≡ h
      same-handle j less same = omega (arith, few, less, same)

  -- a command that leaves the handle open
  abbrev Stays : List Command → Command → Type 0
  Stays p c = (open_file (p ++ c ∷ []) v h ≡ Some f) × ((x : Call) → Contains (if c.client == v then calls_of_command F p c else []) x →
      AsksAt x (opened_at h i) → ⊥)

  command-stays : (p : List Command) (c : Command) → IsCommand F p c → open_file p v h ≡ Some f → (is_about v h c ≡ true → c.act ≡ Close h → ⊥) → Stays p c
  command-stays p c is open_ stays = elim (cases_Bool (c.client == v)) [
    | inr other ↦ (
      one-more F AF v p c h ∙ (ap (λ b. if b && (handle_of c.act == h) then open_after (open_file p v h) c.act else open_file p v h) other ∙ open_),
      λ x among asks'. Contains-nil x (subst (λ cs. Contains cs x) (cond-false (c.client == v) (calls_of_command F p c) [] other) among),
    )
    | inl mine ↦
        let me : c.client ≡ v = eqb-true c.client v mine in
        let act : IsAct F p v c.act = subst (λ w. IsAct F p w c.act) me is.act in
        let calls : (if c.client == v then calls_of_command F p c else []) ≡ calls_of_act (extents_of F (file_of p v c.act)) c.act =
        cond-true (c.client == v) (calls_of_command F p c) [] mine ∙ ap (λ w. calls_of_act (extents_of F (file_of p w c.act)) c.act) me in
        let now : open_file (p ++ c ∷ []) v h ≡ (if handle_of c.act == h then open_after (open_file p v h) c.act else open_file p v h) =
        one-more F AF v p c h ∙ ap (λ b. if b && (handle_of c.act == h) then open_after (open_file p v h) c.act else open_file p v h) mine in
        let by = by_act c.act act (λ same closes. stays (ap (λ b. b && (handle_of c.act == h)) mine ∙ same) closes) in
        (now ∙ by.0, λ x among asks'. by.1 x (subst (λ cs. Contains cs x) calls among) asks')
  ]
    where
      abbrev-none : None ≡ Some f → ⊥
      abbrev-none same = absurd cc

      opened-so : (act : FileAct) → ((o : Option ℕ) → open_after o act ≡ o)
          → (if handle_of act == h then open_after (open_file p v h) act else open_file p v h) ≡ Some f
      opened-so act same = cond_both (handle_of act == h) (open_after (open_file p v h) act) (open_file p v h) (λ o. o ≡ Some f) (λ _. same (open_file p v h)
          ∙ open_)
          (λ _. open_)

      by_act : (act : FileAct) → IsAct F p v act → ((handle_of act == h) ≡ true → act ≡ Close h → ⊥)
          → ((if handle_of act == h then open_after (open_file p v h) act else open_file p v h) ≡ Some f)
          × ((x : Call) → Contains (calls_of_act (extents_of F (file_of p v act)) act) x → AsksAt x (opened_at h i) → ⊥)
      by_act (OpenFile h' f') act not-closing = elim (cases_eq h' h) [
        | inl same ↦ absurd (abbrev-none (sym act.1 ∙ (ap (open_file p v) same ∙ open_)))
        | inr other ↦ (cond-false (h' == h) (Some f') (open_file p v h) (ne_eqb h' h other) ∙ open_, asks-elsewhere h' f' other)
      ]
      by_act (Read handle off len) act not-closing = (
        opened-so (Read handle off len) (λ o. refl),
        λ x among. act-silent (extents_of F (file_of p v (Read handle off len))) (Read handle off len) refl x among
            (opened_at h i),
      )
      by_act (Write handle off len) act not-closing = (
        opened-so (Write handle off len) (λ o. refl),
        λ x among. act-silent (extents_of F (file_of p v (Write handle off len))) (Write handle off len) refl x among
            (opened_at h i),
      )
      by_act (Share handle to other) act not-closing = (
        opened-so (Share handle to other) (λ o. refl),
        λ x among. act-silent (extents_of F (file_of p v (Share handle to other))) (Share handle to other) refl x
            among (opened_at h i),
      )
      by_act (Close h') act not-closing = elim (cases_eq h' h) [
        | inl same ↦ absurd (not-closing (eq-eqb h' h same) (ap Close same))
        | inr other ↦ (
          cond-false (h' == h) None (open_file p v h) (ne_eqb h' h other)
              ∙ open_,
          λ x among. act-silent (extents_of F (file_of p v (Close h'))) (Close h') refl x among (opened_at h i),
        )
      ]

  commands-stay : (p cs rest : List Command) → F.commands ≡ p ++ (cs ++ rest) → open_file p v h ≡ Some f
      → ((c : Command) → Contains cs c → is_about v h c ≡ true → c.act ≡ Close h → ⊥) → (open_file (p ++ cs) v h ≡ Some f)
      × ((x : Call) → Contains (calls_from F v p cs) x → AsksAt x (opened_at h i) → ⊥)
  unfolding calls_from
  commands-stay p [] rest parts open_ stays = (ap (λ q. open_file q v h) (append-nil p) ∙ open_, λ x none asks'. Contains-nil x none)
  commands-stay p (c ∷ cs) rest parts open_ stays =
      let one = command-stays p c (AF.commands p (cs ++ rest) c parts) open_ (stays c (Contains-head c cs)) in
      let more = commands-stay (p ++ c ∷ []) cs rest (parts
      ∙ sym (append_assoc p (c ∷ []) (cs ++ rest))) one.0 (λ x among. stays x (Contains-tail c cs x among)) in (
        ap (λ q. open_file q v h) (sym (append_assoc p (c ∷ []) cs)) ∙ more.0,
        λ x among asks'. elim (Contains-append_cases (if c.client == v then calls_of_command F p c else []) (calls_from F v (p ++ c ∷ []) cs) x among) [
          | inl here ↦ one.1 x here asks'
          | inr later ↦ more.1 x later asks'
        ],
      )

regroup : (A a1 a2 B r1 r2 rest : List Call) (s x y : Call) → s ∷ (A ++ ((a1 ++ x ∷ a2) ++ (B ++ ((r1 ++ y ∷ r2) ++ rest)))) ≡ (s ∷ (A ++ a1)) ++ x ∷
    ((a2 ++ (B ++ r1)) ++ y ∷ (r2 ++ rest))
regroup A a1 a2 B r1 r2 rest s x y = simp append_assoc refl

module _ (F : Files) (AF : AreFiles F) (J : List Entry) (runs : IsSchedule (compiled F) J) (o : Opening F) (X : IsClosedOpening J o) (a : KeyName)
    (K : IsKeyOfOpening J o a) where
  abbrev v : ℕ
  v = o.client

  abbrev h : ℕ
  h = o.handle

  abbrev f : ℕ
  f = o.file

  abbrev C : Closing o
  C = X.closing

  abbrev opens : Command
  opens = opening_command o

  abbrev closes : Command
  closes = record { client = o.client; act = Close o.handle }

  abbrev q : List Command
  q = (o.before ++ opening_command o ∷ []) ++ X.closing.between

  few-so : K.extent < 4
  few-so = let most = few-extents F AF o.file in let less = K.within in omega (arith, most, less)

  parts : F.commands ≡ o.before ++ opening_command o ∷ (X.closing.between ++ record { client = o.client; act = Close o.handle } ∷ X.closing.behind)
  parts = o.among ∙ ap (λ l. o.before ++ opening_command o ∷ l) X.closing.among

  opened-now : open_file (o.before ++ opening_command o ∷ []) o.client o.handle ≡ Some o.file
  opened-now = one-more F AF o.client o.before (opening_command o) o.handle
      ∙ ap (λ b. if b then Some o.file else open_file o.before o.client o.handle)
      (ap (λ b. b && (o.handle == o.handle)) (eq-eqb o.client o.client refl) ∙ eq-eqb o.handle o.handle refl)

  stay : (open_file ((o.before ++ opening_command o ∷ []) ++ X.closing.between) o.client o.handle ≡ Some o.file)
      × ((x : Call) → Contains (calls_from F o.client (o.before ++ opening_command o ∷ []) X.closing.between) x → AsksAt x (opened_at o.handle K.extent) → ⊥)
  stay = commands-stay F AF o.client o.handle o.file K.extent few-so (o.before ++ opening_command o ∷ []) X.closing.between (closes ∷ X.closing.behind)
      (parts ∙ sym (append_assoc o.before (opening_command o ∷ []) (X.closing.between ++ closes ∷ X.closing.behind))) opened-now X.closing.stays_open

  -- how many extents come behind this one
  more : ℕ
  more = extents_of F o.file - (K.extent + 1)

  all-extents : extents_of F o.file ≡ K.extent + (1 + (extents_of F o.file - (K.extent + 1)))
  all-extents = let less = K.within in omega (arith, less)

  abbrev later : List ℕ
  later = range_with_len (K.extent + 1) (extents_of F o.file - (K.extent + 1))

  split : below (extents_of F o.file) ≡ below K.extent ++ K.extent ∷ range_with_len (K.extent + 1) (extents_of F o.file - (K.extent + 1))
  split = ap below all-extents
      ∙ (range-split 0 K.extent (extents_of F o.file - (K.extent + 1))
      ∙ ap (λ x. below K.extent ++ x ∷ range_with_len (x + 1) (extents_of F o.file - (K.extent + 1))) (zero-more K.extent))
    where
      zero-more : (n : ℕ) → 0 + n ≡ n
      zero-more n = omega arith

  abbrev ask : Call
  ask = AskOffer (opened_at o.handle K.extent) SESSION (extent_number o.file K.extent)

  abbrev revoke : Call
  revoke = Revoke (opened_at o.handle K.extent)

  asks-split : asks o.handle o.file (below (extents_of F o.file)) ≡ asks o.handle o.file (below K.extent) ++ ask ∷ asks o.handle o.file later
  asks-split = ap (asks o.handle o.file) split
      ∙ map-append (λ j. AskOffer (opened_at o.handle j) SESSION (extent_number o.file j)) (below K.extent) (K.extent ∷ later)

  revokes-split : revokes o.handle (below (extents_of F o.file)) ≡ revokes o.handle (below K.extent) ++ revoke ∷ revokes o.handle later
  revokes-split = ap (revokes o.handle) split ∙ map-append (λ j. Revoke (opened_at o.handle j)) (below K.extent) (K.extent ∷ later)

  abbrev A : List Call
  A = calls_from F o.client [] o.before

  abbrev B : List Call
  B = calls_from F o.client (o.before ++ opening_command o ∷ []) X.closing.between

  abbrev rest : List Call
  rest = calls_from F o.client (q ++ closes ∷ []) X.closing.behind

  closing-calls : calls_of_act (extents_of F (file_of q o.client (Close o.handle))) (Close o.handle) ≡ revokes o.handle (below (extents_of F o.file))
  closing-calls = ap (λ x. revokes o.handle (below (extents_of F (unwrap_or x 0)))) stay.0

  -- the calls of an opening, those to its closing, and those of the closing
  from-commands : calls_from F o.client [] F.commands ≡ A ++
      (asks o.handle o.file (below (extents_of F o.file)) ++ (B ++ (revokes o.handle (below (extents_of F o.file)) ++ rest)))
  from-commands =
      ap (calls_from F o.client []) parts
      ∙ (calls-append F o.client [] o.before (opening_command o ∷ (X.closing.between ++ closes ∷ X.closing.behind))
      ∙ ap (λ cs. A ++ cs) (calls-cons F o.client o.before (OpenFile o.handle o.file) (X.closing.between ++ closes ∷ X.closing.behind)
      ∙ ap (λ cs. asks o.handle o.file (below (extents_of F o.file)) ++ cs)
      (calls-append F o.client (o.before ++ opening_command o ∷ []) X.closing.between (closes ∷ X.closing.behind)
      ∙ ap (λ cs. B ++ cs) (calls-cons F o.client q (Close o.handle) X.closing.behind
      ∙ ap (λ cs. cs ++ rest) closing-calls))))

  opens-among : Contains F.commands (opening_command o)
  opens-among = subst (λ cs. Contains cs (opening_command o)) (sym o.among)
      (Contains-append_right o.before (opening_command o ∷ o.later) (opening_command o) (Contains-head (opening_command o) o.later))

  all-calls : calls_of (compiled F) o.client ≡ (OpenSession SESSION 0 ∷ (A ++ asks o.handle o.file (below K.extent))) ++ ask ∷
      ((asks o.handle o.file later ++ (B ++ revokes o.handle (below K.extent))) ++ revoke ∷ (revokes o.handle later ++ rest))
  all-calls =
      client-calls-so F AF o.client (declared-client F AF o.client (AF.commands o.before o.later (opening_command o) o.among).client).2
      ∙ (cond-true (list_any (λ (c : Command). c.client == o.client) F.commands) (OpenSession SESSION 0 ∷ calls_from F o.client [] F.commands) []
      (list_any-at (λ (c : Command). c.client == o.client) F.commands (opening_command o) opens-among (eq-eqb o.client o.client refl))
      ∙ (ap (λ cs. OpenSession SESSION 0 ∷ cs)
      (from-commands ∙ (ap (λ cs. A ++ (cs ++ (B ++ (revokes o.handle (below (extents_of F o.file)) ++ rest)))) asks-split
      ∙ ap (λ cs. A ++ ((asks o.handle o.file (below K.extent) ++ ask ∷ asks o.handle o.file later) ++ (B ++ (cs ++ rest)))) revokes-split))
      ∙ regroup A (asks o.handle o.file (below K.extent)) (asks o.handle o.file later) B (revokes o.handle (below K.extent)) (revokes o.handle later) rest
      (OpenSession SESSION 0) ask revoke))

  asks-long : (xs : List ℕ) → length (asks o.handle o.file xs) ≡ length xs
  asks-long xs = length-map (λ j. AskOffer (opened_at o.handle j) SESSION (extent_number o.file j)) xs

  revokes-long : (xs : List ℕ) → length (revokes o.handle xs) ≡ length xs
  revokes-long xs = length-map (λ j. Revoke (opened_at o.handle j)) xs

  before-closing : calls_before_closing X.closing ≡ 1 + (length A + (extents_of F o.file + length B))
  before-closing =
      let one = ap length (calls-append F o.client [] o.before (opening_command o ∷ X.closing.between)
      ∙ ap (λ cs. A ++ cs) (calls-cons F o.client o.before (OpenFile o.handle o.file) X.closing.between)) in
      let two = length-append A (asks o.handle o.file (below (extents_of F o.file)) ++ B) in
      let three = length-append (asks o.handle o.file (below (extents_of F o.file))) B in
      let four = asks-long (below (extents_of F o.file)) in
      let five = length-range_with_len 0 (extents_of F o.file) in
      omega (arith, one, two, three, four, five)

  closing-so : IsClosing (compiled F) o.client (opened_at o.handle K.extent) (calls_before F o.client o.before + K.extent)
      (calls_before_closing X.closing + K.extent)
  closing-so = record {
    first = OpenSession SESSION 0 ∷ (A ++ asks o.handle o.file (below K.extent));
    between = asks o.handle o.file later ++ (B ++ revokes o.handle (below K.extent));
    behind = revokes o.handle later ++ rest;
    ask = ask;
    calls = all-calls;
    asks = refl;
    silent = silent;
    ask_number = first-long;
    revoke_number = between-long;
  }
    where
      silent : (c : Call) → Contains (asks o.handle o.file later ++ (B ++ revokes o.handle (below K.extent))) c → AsksAt c (opened_at o.handle K.extent) → ⊥
      silent c among asks' = elim (Contains-append_cases (asks o.handle o.file later) (B ++ revokes o.handle (below K.extent)) c among) [
        | inl one ↦
            let x = Contains-from_map (λ j. AskOffer (opened_at o.handle j) SESSION (extent_number o.file j)) later c one in
            past x.0 (in-range (K.extent + 1) (extents_of F o.file - (K.extent + 1)) x.0 x.1).0
            (subst (λ y. AsksAt y (opened_at o.handle K.extent)) (sym x.2) asks')
        | inr two ↦ elim (Contains-append_cases B (revokes o.handle (below K.extent)) c two) [
          | inl here ↦ stay.1 c here asks'
          | inr there ↦ (let x = Contains-from_map (λ j. Revoke (opened_at o.handle j)) (below K.extent) c there in
              subst (λ y. AsksAt y (opened_at o.handle K.extent)) (sym x.2) asks')
        ]
      ]
        where
          past : (j : ℕ) → K.extent + 1 ≤ j → opened_at o.handle j ≡ opened_at o.handle K.extent → ⊥
          past j after same = omega (arith, after, same)

      first-long : length (OpenSession SESSION 0 ∷ (A ++ asks o.handle o.file (below K.extent))) ≡ calls_before F o.client o.before + K.extent
      first-long =
          let one = length-append A (asks o.handle o.file (below K.extent)) in
          let two = asks-long (below K.extent) in
          let three = length-range_with_len 0 K.extent in
          omega (arith, one, two, three)

      between-long : (calls_before F o.client o.before + K.extent) + (1 + length (asks o.handle o.file later ++ (B ++ revokes o.handle (below K.extent)))) ≡
          calls_before_closing X.closing + K.extent
      between-long =
          let one = length-append (asks o.handle o.file later) (B ++ revokes o.handle (below K.extent)) in
          let two = length-append B (revokes o.handle (below K.extent)) in
          let three = asks-long later in
          let four = length-range_with_len (K.extent + 1) (extents_of F o.file - (K.extent + 1)) in
          let five = revokes-long (below K.extent) in
          let six = length-range_with_len 0 K.extent in
          let seven = before-closing in
          let eight = K.within in
          omega (arith, one, two, three, four, five, six, seven, eight)

  told : calls_before_closing X.closing + K.extent < reply_count J o.client
  told = let all = X.answered in let last = X.is_last in let less = K.within in omega (arith, all, last, less)

  pub key-answered : Contains (answered J) a
  key-answered = closed-answered (compiled F) (is-service F AF) J runs o.client (opened_at o.handle K.extent) (calls_before F o.client o.before + K.extent)
      (calls_before_closing X.closing + K.extent) closing-so a K.granted told

-- Closed is gone.
pub closed-gone : (F : Files) → AreFiles F → (J : List Entry) → IsSchedule (compiled F) J → (o : Opening F) → IsClosedOpening J o → (a k : KeyName) → IsKeyOfOpening J o a
    → Descends J a k → IsInUse (world_after (compiled F) J) k → ⊥
closed-gone F AF J runs o X a k K below' used = all-gone (compiled F) (is-service F AF).setup J runs k a used below' (key-answered F AF J runs o X a K)
