-- The calls of each client are in order: what it holds behind them is what its commands have opened.
use Rattle.std.proofs.Common.{◌≡◌, ℕ, ◌+◌, ◌<◌, ◌≤◌, ◌++◌, Bool, true, false, List, [], ◌∷◌, map, take, slice_get, nat_lt, Option, Some, None, refl, sym, ap}
use Rattle.std.proofs.Common.{◌∙◌, subst, inl, inr, arith, append_assoc, append-nil, eq-eqb}
use Rattle.std.specs.Prelude.{◌==◌, ◌&&◌, if◌then◌else◌, fold, unwrap_or}
use Rattle.std.specs.List.{All, Contains, flat_map, list_any}
use Rattle.std.proofs.lemmas.Bool.{cases_Bool, cases_lt, cond-true, cond-false, cond_both, eqb-true, ne_eqb, true≢false, lt-ltb, le-ltb}
use Rattle.std.proofs.lemmas.List.Elements.{All-nil, All-cons}
use Rattle.std.proofs.lemmas.List.Sums.{fold-append}
use Rattle.sem_msg.specs.declared.call.Call.{Call}
use Rattle.sem_msg.specs.declared.call.Call.TheVariants.{Delegate, OpenSession, Bind, Read as ReadCall, Write as WriteCall}
use Rattle.sem_msg.specs.Calls.{IsValidCall}
use Rattle.sem_msg.specs.Setup.{Setup}
use Rattle.sem_files.specs.declared.files.FileAct.{FileAct}
use Rattle.sem_files.specs.declared.files.FileAct.TheVariants.{OpenFile, Read, Write, Share, Close}
use Rattle.sem_files.specs.declared.files.Command.{Command}
use Rattle.sem_files.specs.Files.{Files, EXTENT, is_file, extents_of, handle_of, open_after, is_about, open_file, file_of, IsHandle, IsAct, IsCommand}
use Rattle.sem_files.specs.Compiled.{SESSION, ACCESS, opened_at, given_at, part_accessed, below, calls_of_act, calls_of_command, calls_from, client_calls}
use Rattle.sem_files.specs.Compiled.{compiled, AreFiles}
use Rattle.sem_fs.specs.Service.{holds, holds_after, MayComeNext}
use Rattle.sem_fs.proofs.Rising.{in-range, range-in, range-rises, few-extents, file-near}
use Rattle.sem_fs.proofs.Commanding.{Goes, AllGo, go-nil, go-cons, go-append, each-goes, all-valid, holds-append, holds-quiet, IsQuiet, asks, revokes}
use Rattle.sem_fs.proofs.Commanding.{asks-apart, asks-hold, revokes-apart, revokes-free, asks-go, revokes-go, shares-go, accesses-go, accesses-quiet}

-- whether extent i of what a handle is open on is there
abbrev pub opened_in : Files → Option ℕ → ℕ → Bool
opened_in F None i = false
opened_in F (Some f) i = nat_lt i (extents_of F f)

-- a client holds its session, and the extents of what its handles are open on
pub record Stands (F : Files) (v : ℕ) (before : List Command) (made : List Call) : Type 0 where
  pub session : holds made SESSION ≡ true
  pub handles : (h i : ℕ) → h ≤ 15 → i < 4 → holds made (opened_at h i) ≡ opened_in F (open_file before v h) i

module _ (F : Files) (AF : AreFiles F) (v : ℕ) where
  abbrev T : Setup
  T = compiled F

  pub one-more : (before : List Command) (c : Command) (h : ℕ) → open_file (before ++ c ∷ []) v h ≡
      (if is_about v h c then open_after (open_file before v h) c.act else open_file before v h)
  one-more before c h = fold-append (λ o (x : Command). if is_about v h x then open_after o x.act else o) None before (c ∷ [])

  -- A command of the client.
  module _ (before : List Command) (made : List Call) (S : Stands F v before made) where
    -- the handle and the extent are told by the selector
    same-handle : (a b i j : ℕ) → i < 4 → j < 4 → opened_at a i ≡ opened_at b j → a ≡ b
    same-handle a b i j less less' same = omega (arith, less, less', same)

    past-session : (a i : ℕ) → opened_at a i ≡ SESSION → ⊥
    past-session a i same = omega (arith, same)

    -- the extents of an open handle are held
    held-extents : (h f : ℕ) → h ≤ 15 → open_file before v h ≡ Some f → (i : ℕ) → Contains (below (extents_of F f)) i →
        (i < 4) × (holds made (opened_at h i) ≡ true)
    held-extents h f low open_ i among =
        let near = (in-range 0 (extents_of F f) i among).1 in
        let few = few-extents F AF f in
        let less : i < extents_of F f = omega (arith, near) in
        let inside : i < 4 = omega (arith, less, few) in
        (inside, S.handles h i low inside ∙ (ap (λ o. opened_in F o i) open_ ∙ lt-ltb i (extents_of F f) less))

    -- what an act of the client does to what it holds
    abbrev Holds' : FileAct → List Call → Type 0
    Holds' act cs = (holds (made ++ cs) SESSION ≡ true)
        × ((h i : ℕ) → h ≤ 15 → i < 4 → holds (made ++ cs) (opened_at h i) ≡ opened_in F
        (if handle_of act == h then open_after (open_file before v h) act else open_file before v h) i)

    -- an act that leaves what is open
    quiet-holds : (act : FileAct) (cs : List Call) → ((o : Option ℕ) → open_after o act ≡ o) → ((sel : ℕ) → holds (made ++ cs) sel ≡ holds made sel) →
        Holds' act cs
    quiet-holds act cs stays same = (
      same SESSION ∙ S.session,
      λ h i low few. same (opened_at h i)
          ∙ (S.handles h i low few ∙ ap (λ o. opened_in F o i) (sym (both (handle_of act == h) (open_file before v h)))),
    )
      where
        both : (b : Bool) (o : Option ℕ) → (if b then open_after o act else o) ≡ o
        both true o = stays o
        both false o = refl

    reads-quiet : (ep off len : ℕ) → IsQuiet (ReadCall ep off len)
    reads-quiet ep off len sel b = refl

    writes-quiet : (ep off len : ℕ) → IsQuiet (WriteCall ep off len)
    writes-quiet ep off len sel b = refl

    word-so : (off len : ℕ) → off + len ≤ EXTENT → (off ≤ 4294967295) × (len ≤ 4294967295)
    word-so off len within = (omega (arith, within), omega (arith, within))

    read-goes : (made : List Call) (sel off len : ℕ) → off + len ≤ EXTENT → Goes T v (made ++ Bind ACCESS sel ∷ []) (ReadCall ACCESS off len)
    read-goes made sel off len within = let word = word-so off len within in
        ((refl, within, record { first = made; selector = sel; last = refl }), (omega arith, word.0, word.1))

    write-goes : (made : List Call) (sel off len : ℕ) → off + len ≤ EXTENT → Goes T v (made ++ Bind ACCESS sel ∷ []) (WriteCall ACCESS off len)
    write-goes made sel off len within = let word = word-so off len within in
        ((refl, within, record { first = made; selector = sel; last = refl }), (omega arith, word.0, word.1))

    gives-quiet : (h to g : ℕ) (xs : List ℕ) → All IsQuiet (map (λ i. Delegate (opened_at h i) to (given_at g i)) xs)
    gives-quiet h to g [] = All-nil IsQuiet
    gives-quiet h to g (x ∷ xs) = All-cons IsQuiet (Delegate (opened_at h x) to (given_at g x)) (map (λ i. Delegate (opened_at h i) to (given_at g i)) xs)
        (λ sel b. refl) (gives-quiet h to g xs)

    -- an opening
    opens : (handle file : ℕ) → handle ≤ 15 → is_file F file ≡ true → open_file before v handle ≡ None →
        AllGo T v made (asks handle file (below (extents_of F file)))
        × Holds' (OpenFile handle file) (asks handle file (below (extents_of F file)))
    opens handle file low is none = (
      asks-go F AF v handle low file is (file-near F AF file is) xs (range-rises 0 (extents_of F file)) made S.session
          (λ i among. let near = numbers i among in (near.1, near.0, S.handles handle i low near.1 ∙ ap (λ o. opened_in F o i) none)),
      (
        holds-append made (asks handle file xs) SESSION
            ∙ (asks-apart handle file xs SESSION (holds made SESSION) (λ i among same. past-session handle i same) ∙ S.session),
        λ h i near few. holds-append made (asks handle file xs) (opened_at h i) ∙ elim (cases_Bool (handle == h)) [
          | inl same ↦
              let one : handle ≡ h = eqb-true handle h same in
              at-handle h i near few one ∙ ap (λ o. opened_in F o i) (sym (cond-true (handle == h) (Some file) (open_file before v h) same))
          | inr other ↦
              asks-apart handle file xs (opened_at h i) (holds made (opened_at h i))
              (λ j among same. absurd (true≢false (sym (eq-eqb handle h (same-handle handle h j i (numbers j among).1 few same)) ∙ other)))
              ∙ (S.handles h i near few ∙ ap (λ o. opened_in F o i) (sym (cond-false (handle == h) (Some file) (open_file before v h) other)))
        ],
      ),
    )
      where
        xs : List ℕ
        xs = below (extents_of F file)

        numbers : (i : ℕ) → Contains (below (extents_of F file)) i → (i < extents_of F file) × (i < 4)
        numbers i among = let near = (in-range 0 (extents_of F file) i among).1 in let few = few-extents F AF file in
            (omega (arith, near), omega (arith, near, few))

        at-handle : (h i : ℕ) → h ≤ 15 → i < 4 → handle ≡ h → fold (holds_after (opened_at h i)) (holds made (opened_at h i))
            (asks handle file (below (extents_of F file))) ≡ nat_lt i (extents_of F file)
        at-handle h i near few one = elim (cases_lt i (extents_of F file)) [
          | inl less ↦ subst (λ a. fold (holds_after (opened_at a i)) (holds made (opened_at a i)) (asks handle file xs) ≡ true) one
              (asks-hold handle file xs i (holds made (opened_at handle i)) (range-in 0 (extents_of F file) i (omega arith) (omega (arith, less))))
              ∙ sym (lt-ltb i (extents_of F file) less)
          | inr more ↦
              asks-apart handle file xs (opened_at h i) (holds made (opened_at h i)) (λ j among same. absurd (past i j more (numbers j among).0 one same))
              ∙ (S.handles h i near few ∙ (ap (λ o. opened_in F o i) (ap (open_file before v) (sym one) ∙ none) ∙ sym (le-ltb i (extents_of F file) more)))
        ]
          where
            past : (i j : ℕ) → extents_of F file ≤ i → j < extents_of F file → handle ≡ h → opened_at handle j ≡ opened_at h i → ⊥
            past i j more less one same = omega (arith, more, less, one, same)

    -- a closing
    closes : (handle f : ℕ) → handle ≤ 15 → open_file before v handle ≡ Some f → AllGo T v made (revokes handle (below (extents_of F f)))
        × Holds' (Close handle) (revokes handle (below (extents_of F f)))
    closes handle f low open_ = (
      revokes-go F AF v handle low xs (range-rises 0 (extents_of F f)) made (held-extents handle f low open_),
      (
        holds-append made (revokes handle xs) SESSION ∙ (revokes-apart handle xs SESSION (holds made SESSION) (λ i among same. past-session handle i same)
            ∙ S.session),
        λ h i near few. holds-append made (revokes handle xs) (opened_at h i) ∙ elim (cases_Bool (handle == h)) [
          | inl same ↦
              let one : handle ≡ h = eqb-true handle h same in
              at-handle h i near few one ∙ ap (λ o. opened_in F o i) (sym (cond-true (handle == h) None (open_file before v h) same))
          | inr other ↦
              revokes-apart handle xs (opened_at h i) (holds made (opened_at h i))
              (λ j among same. absurd (true≢false (sym (eq-eqb handle h (same-handle handle h j i (numbers j among).1 few same)) ∙ other)))
              ∙ (S.handles h i near few ∙ ap (λ o. opened_in F o i) (sym (cond-false (handle == h) None (open_file before v h) other)))
        ],
      ),
    )
      where
        xs : List ℕ
        xs = below (extents_of F f)

        numbers : (i : ℕ) → Contains (below (extents_of F f)) i → (i < extents_of F f) × (i < 4)
        numbers i among = let near = (in-range 0 (extents_of F f) i among).1 in let few = few-extents F AF f in (omega (arith, near), omega (arith, near, few))

        at-handle : (h i : ℕ) → h ≤ 15 → i < 4 → handle ≡ h →
            fold (holds_after (opened_at h i)) (holds made (opened_at h i)) (revokes handle (below (extents_of F f)))
            ≡ false
        at-handle h i near few one = elim (cases_lt i (extents_of F f)) [
          | inl less ↦ subst (λ a. fold (holds_after (opened_at a i)) (holds made (opened_at a i)) (revokes handle xs) ≡ false) one
              (revokes-free handle xs i (holds made (opened_at handle i)) (range-in 0 (extents_of F f) i (omega arith) (omega (arith, less))))
          | inr more ↦
              revokes-apart handle xs (opened_at h i) (holds made (opened_at h i)) (λ j among same. absurd (past i j more (numbers j among).0 one same))
              ∙ (S.handles h i near few ∙ (ap (λ o. opened_in F o i) (ap (open_file before v) (sym one) ∙ open_) ∙ le-ltb i (extents_of F f) more))
        ]
          where
            past : (i j : ℕ) → extents_of F f ≤ i → j < extents_of F f → handle ≡ h → opened_at handle j ≡ opened_at h i → ⊥
            past i j more less one same = omega (arith, more, less, one, same)

    -- any act
    abbrev Fine : FileAct → List Call → Type 0
    Fine act cs = AllGo T v made cs × Holds' act cs

    -- the file that the act is about has so many extents
    by-file : (act : FileAct) (f : ℕ) → file_of before v act ≡ f → Fine act (calls_of_act (extents_of F f) act)
        → Fine act (calls_of_act (extents_of F (file_of before v act)) act)
    by-file act f same fine = subst (λ g. Fine act (calls_of_act (extents_of F g) act)) (sym same) fine

    act-fine : (act : FileAct) → IsHandle (handle_of act) → IsAct F before v act → Fine act (calls_of_act (extents_of F (file_of before v act)) act)
    act-fine (OpenFile handle file) low is = opens handle file low is.0 is.1
    act-fine (Close handle) low (f, open_) = by-file (Close handle) f (ap (λ o. unwrap_or o 0) open_) (closes handle f low open_)
    act-fine (Read handle off len) low is =
        let f : ℕ = is.0 in
        by-file (Read handle off len) f (ap (λ o. unwrap_or o 0) is.1) (
          accesses-go F AF v handle low (ReadCall ACCESS) (reads-quiet ACCESS) read-goes off len (below (extents_of F f)) made (held-extents handle f low is.1),
          quiet-holds (Read handle off len) (flat_map (part_accessed (ReadCall ACCESS) handle off len) (below (extents_of F f))) (λ o. refl)
              (accesses-quiet F AF v handle low (ReadCall ACCESS) (reads-quiet ACCESS) read-goes off len made (below (extents_of F f))),
        )
    act-fine (Write handle off len) low is =
        let f : ℕ = is.0 in
        by-file (Write handle off len) f (ap (λ o. unwrap_or o 0) is.1) (
          accesses-go F AF v handle low (WriteCall ACCESS) (writes-quiet ACCESS) write-goes off len (below (extents_of F f)) made
              (held-extents handle f low is.1),
          quiet-holds (Write handle off len) (flat_map (part_accessed (WriteCall ACCESS) handle off len) (below (extents_of F f))) (λ o. refl)
              (accesses-quiet F AF v handle low (WriteCall ACCESS) (writes-quiet ACCESS) write-goes off len made (below (extents_of F f))),
        )
    act-fine (Share handle to other) low is =
        let f : ℕ = is.0.0 in
        by-file (Share handle to other) f (ap (λ o. unwrap_or o 0) is.0.1) (
          shares-go F AF v handle low to other is.1 is.2 is.3 (below (extents_of F f)) made (held-extents handle f low is.0.1),
          quiet-holds (Share handle to other) (map (λ i. Delegate (opened_at handle i) to (given_at other i)) (below (extents_of F f))) (λ o. refl)
              (holds-quiet (map (λ i. Delegate (opened_at handle i) to (given_at other i)) (below (extents_of F f))) made
              (gives-quiet handle to other (below (extents_of F f)))),
        )

  -- All commands.

  -- the calls of a command of this client, or of another
  abbrev these : List Command → Command → List Call
  these before c = if c.client == v then calls_of_command F before c else []

  step : (before : List Command) (made : List Call) → Stands F v before made → (c : Command) → IsCommand F before c → AllGo T v made (these before c)
      × Stands F v (before ++ c ∷ []) (made ++ these before c)
  step before made S c is = elim (cases_Bool (c.client == v)) [
    | inl mine ↦
        let me : c.client ≡ v = eqb-true c.client v mine in
        let act : IsAct F before v c.act = subst (λ w. IsAct F before w c.act) me is.act in
        let calls : these before c ≡ calls_of_act (extents_of F (file_of before v c.act)) c.act =
        cond-true (c.client == v) (calls_of_command F before c) [] mine
        ∙ ap (λ w. calls_of_act (extents_of F (file_of before w c.act)) c.act) me in
        let fine = act-fine before made S c.act is.handle act in (
          subst (AllGo T v made) (sym calls) fine.0,
          record {
            session = ap (λ cs. holds (made ++ cs) SESSION) calls ∙ fine.1.0;
            handles = λ h i low few.
                ap (λ cs. holds (made ++ cs) (opened_at h i)) calls
                ∙ (fine.1.1 h i low few
                ∙ ap (λ o. opened_in F o i)
                (sym (one-more before c h
                ∙ ap (λ b. if b && (handle_of c.act == h) then open_after (open_file before v h) c.act else open_file before v h) mine)));
          },
        )
    | inr other ↦
        let none : these before c ≡ [] = cond-false (c.client == v) (calls_of_command F before c) [] other in
        let same : made ++ these before c ≡ made = ap (λ cs. made ++ cs) none ∙ append-nil made in (
          subst (AllGo T v made) (sym none) (go-nil T v made),
          record {
            session = ap (λ cs. holds cs SESSION) same ∙ S.session;
            handles = λ h i low few.
                ap (λ cs. holds cs (opened_at h i)) same
                ∙ (S.handles h i low few
                ∙ ap (λ o. opened_in F o i)
                (sym (one-more before c h ∙ ap (λ b. if b && (handle_of c.act == h) then open_after (open_file before v h) c.act else open_file before v h)
                other)));
          },
        )
  ]

  all-from : (before later : List Command) (made : List Call) → F.commands ≡ before ++ later → Stands F v before made →
      AllGo T v made (calls_from F v before later)
  unfolding calls_from
  all-from before [] made parts S = go-nil T v made
  all-from before (c ∷ cs) made parts S =
      let one = step before made S c (AF.commands before cs c parts) in
      go-append T v made (these before c) (calls_from F v (before ++ c ∷ []) cs) one.0
      (all-from (before ++ c ∷ []) cs (made ++ these before c) (parts ∙ sym (append_assoc before (c ∷ []) cs)) one.1)

  open-goes : Goes T v [] (OpenSession SESSION 0)
  open-goes = ((refl, refl, refl), (omega arith, omega arith))

  first-stands : Stands F v [] ([] ++ OpenSession SESSION 0 ∷ [])
  first-stands = record {
    session = refl;
    handles = λ h i low few. cond-false (SESSION == opened_at h i) true false
        (ne_eqb SESSION (opened_at h i) (λ same. absurd (past h i same)));
  }
    where
      past : (h i : ℕ) → SESSION ≡ opened_at h i → ⊥
      past h i same = omega (arith, same)

  client-goes : AllGo T v [] (client_calls F v)
  client-goes = cond_both (list_any (λ (c : Command). c.client == v) F.commands) (OpenSession SESSION 0 ∷ calls_from F v [] F.commands) [] (AllGo T v [])
      (λ _. go-cons T v [] (OpenSession SESSION 0) (calls_from F v [] F.commands) open-goes
      (all-from [] F.commands ([] ++ OpenSession SESSION 0 ∷ []) refl first-stands))
      (λ _. go-nil T v [])

  pub client-valid : All (IsValidCall 64) (client_calls F v)
  client-valid = all-valid T v [] (client_calls F v) client-goes

  pub client-ordered : (n : ℕ) (c : Call) → slice_get (client_calls F v) n ≡ Some c → MayComeNext T v (take n (client_calls F v)) c
  client-ordered n c some = each-goes T v [] (client_calls F v) client-goes n c some
