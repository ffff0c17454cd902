-- The fabric agrees with its journal after each of its steps, where the entry tells what the link gave.
use Rattle.std.proofs.Common.{◌≡◌, ◌≢◌, ℕ, ◌+◌, ◌<◌, ◌≤◌, Bool, true, false, cond, List, [], ◌∷◌, ◌++◌, length, drop, slice_get, Option, None, Some, refl, sym}
use Rattle.std.proofs.Common.{◌∙◌, ap, subst, inl, inr, arith, append-nil, append_assoc, eq-eqb, ◌⊎◌}
use Rattle.std.specs.Prelude.{◌==◌, nat_le, IfSome}
use Rattle.std.specs.Option.{option_map_or}
use Rattle.std.proofs.lemmas.Bool.{cases_eq, ne_eqb, cond-true, cond-false, leb-true}
use Rattle.std.proofs.lemmas.List.{append_cancel_left, length_push}
use Rattle.std.proofs.lemmas.List.Elements.{All-push}
use Rattle.sem_msg.specs.declared.message.Message.{Message}
use Rattle.sem_msg.specs.declared.event.Act.{Act}
use Rattle.sem_msg.specs.declared.event.Act.TheVariants.{Call as Calls, Fetch, Handle, Upcall, Resume, Flush, Kill}
use Rattle.sem_msg.specs.declared.event.Event.{Event}
use Rattle.sem_msg.specs.declared.entry.Detail.{Detail}
use Rattle.sem_msg.specs.declared.entry.Detail.TheVariants.{Carried}
use Rattle.sem_msg.specs.declared.entry.Entry.{Entry}
use Rattle.sem_msg.specs.Setup.{Setup}
use Rattle.sem_msg.specs.Journal.{replies, flushed, fetched, kill_number, LeadsBy}
use Rattle.sem_msg.specs.Fabric.{FabricValue, AgreeAt, FabricAgrees, IsOwnAct, is_due, link_in, link_put, relinked, entered}
use Rattle.sem_msg.proofs.Moves.{sends, takes, flushed-snoc, fetched-snoc, link_in-same, link_in-other}
use Rattle.sem_msg.proofs.Agreeing.{IsDue, agrees-snoc, agrees-whole}

-- a list with that front
pub front-is : (ms : List Message) (m : Message) → slice_get ms 0 ≡ Some m → ms ≡ m ∷ drop 1 ms
front-is [] m first = absurd cc
front-is (x ∷ xs) m first = let same : x ≡ m = cc in ap (λ y. y ∷ xs) same

-- what a list leads by is what follows
few-rest : (n : ℕ) (ys xs rest : List Message) → ys ≡ xs ++ rest → LeadsBy n ys xs → length rest ≤ n
few-rest n ys xs rest same lead =
    let equal : rest ≡ lead.rest = append_cancel_left xs rest lead.rest (sym same ∙ lead.begins) in
    let few = lead.few in
    let long = ap length equal in
    omega (arith, few, long)

-- nothing is sent or taken, whoever it is
pub nothing : (b : Bool) → cond {A = List Message} b [] [] ≡ []
nothing true = refl
nothing false = refl

-- a link loses at its front what is taken, and gains at its end what is sent
abbrev pub IsMoved : Entry → List (List (List Message)) → List (List (List Message)) → Type 0
IsMoved e links now = (i j : ℕ) → link_in links i j ++ sends e.event.kernel e.event.act e.detail i j ≡ takes e.event.kernel e.event.act e.detail i j
    ++ link_in now i j

module _ (T : Setup) (kernels window : ℕ) (kills : List (ℕ × ℕ)) (J : List Entry) (links : List (List (List Message)))
    (is : AgreeAt T kernels window kills J links) where
  -- a link holds as many messages as the window at most
  pub link-few : (i j : ℕ) → length (link_in links i j) ≤ T.window
  link-few i j = few-rest T.window (flushed J i j) (fetched J i j) (link_in links i j) (is.linked i j) (agrees-whole T J is.agrees i j)

  -- One entry more.
  module _ (e : Entry) (now : List (List (List Message))) (moved : IsMoved e links now) where
    linked-now : (i j : ℕ) → flushed (J ++ e ∷ []) i j ≡ fetched (J ++ e ∷ []) i j ++ link_in now i j
    linked-now i j =
        flushed-snoc J e i j
        ∙ (ap (λ l. l ++ sends e.event.kernel e.event.act e.detail i j) (is.linked i j)
        ∙ (append_assoc (fetched J i j) (link_in links i j) (sends e.event.kernel e.event.act e.detail i j)
        ∙ (ap (λ l. fetched J i j ++ l) (moved i j)
        ∙ (sym (append_assoc (fetched J i j) (takes e.event.kernel e.event.act e.detail i j) (link_in now i j))
        ∙ ap (λ l. l ++ link_in now i j) (sym (fetched-snoc J e i j))))))

    pub agree-entered : e.event.kernel < T.kernels → ((i j : ℕ) → length (link_in now i j) ≤ T.window) → IsDue T J e →
        AgreeAt T kernels window kills (J ++ e ∷ []) now
    agree-entered here few due = record {
      same_kernels = is.same_kernels;
      same_window = is.same_window;
      same_kills = is.same_kills;
      owned = All-push (λ (x : Entry). x.event.kernel < T.kernels) J e is.owned here;
      agrees = agrees-snoc T J e is.agrees (λ i j. record { rest = link_in now i j; begins = linked-now i j; few = few i j }) due;
      linked = linked-now;
    }

-- How each act moves the links.

module _ (e : Entry) (links : List (List (List Message))) where
  pub moved-own : IsOwnAct e.event.act → IsMoved e links links
  moved-own own i j = by_act e.event.act own
    where
      by_act : (a : Act) → IsOwnAct a → link_in links i j ++ sends e.event.kernel a e.detail i j ≡ takes e.event.kernel a e.detail i j ++ link_in links i j
      by_act (Calls v) ok = append-nil (link_in links i j)
      by_act (Fetch from) ok = absurd ok
      by_act Handle ok = append-nil (link_in links i j)
      by_act (Upcall v) ok = append-nil (link_in links i j)
      by_act (Resume v) ok = append-nil (link_in links i j)
      by_act (Flush to) ok = absurd ok
      by_act (Kill v) ok = absurd ok

  pub moved-kill : (v : ℕ) → e.event.act ≡ Kill v → IsMoved e links links
  moved-kill v act i j = subst (λ (a : Act). link_in links i j ++ sends e.event.kernel a e.detail i j ≡ takes e.event.kernel a e.detail i j
      ++ link_in links i j) (sym act) (append-nil (link_in links i j))

module _ (e : Entry) (links : List (List (List Message))) (k j : ℕ) (m : Message) (carried : e.detail ≡ Carried j m) where
  -- a fetch by kernel k from kernel j takes the front of that link
  pub moved-fetch : (rest : List Message) → e.event ≡ record { kernel = k; act = Fetch j } → link_in links j k ≡ m ∷ rest →
      IsMoved e links (link_put j k rest links)
  moved-fetch rest event front a b = subst (λ (x : Event × Detail). link_in links a b ++ sends x.0.kernel x.0.act x.1 a b ≡ takes x.0.kernel x.0.act x.1 a b
      ++ link_in (link_put j k rest links) a b) (λ i. (sym event i, sym carried i)) at_act
    where
      now : List (List (List Message))
      now = link_put j k rest links

      by_pair : ((j ≡ a) ⊎ (j ≡ a → ⊥)) → ((k ≡ b) ⊎ (k ≡ b → ⊥)) → link_in links a b ≡ cond (j == a) (cond (k == b) (m ∷ []) []) [] ++ link_in now a b
      by_pair (inr apart) k_is = sym (ap (λ l. l ++ link_in now a b) (cond-false (j == a) (cond (k == b) (m ∷ []) []) [] (ne_eqb j a apart))
          ∙ link_in-other links j k a b rest (λ same. apart (sym same.0)))
      by_pair (inl same) (inr apart) = sym (ap (λ l. l ++ link_in now a b) (cond-true (j == a) (cond (k == b) (m ∷ []) []) [] (eq-eqb j a same)
          ∙ cond-false (k == b) (m ∷ []) [] (ne_eqb k b apart)) ∙ link_in-other links j k a b rest (λ same. apart (sym same.1)))
      by_pair (inl same) (inl to) =
          subst (λ (x : ℕ × ℕ). link_in links x.0 x.1 ≡ cond (j == x.0) (cond (k == x.1) (m ∷ []) []) [] ++ link_in now x.0 x.1) (λ i. (same i, to i))
          (front ∙ sym (ap (λ l. l ++ link_in now j k) (cond-true (j == j) (cond (k == k) (m ∷ []) []) [] (eq-eqb j j refl)
          ∙ cond-true (k == k) (m ∷ []) [] (eq-eqb k k refl)) ∙ ap (λ l. m ∷ l) (link_in-same links j k rest)))

      at_act : link_in links a b ++ [] ≡ cond (j == a) (cond (k == b) (m ∷ []) []) [] ++ link_in now a b
      at_act = append-nil (link_in links a b) ∙ by_pair (cases_eq j a) (cases_eq k b)

  -- a flush by kernel k to kernel j puts its message at the end of that link
  pub moved-flush : e.event ≡ record { kernel = k; act = Flush j } → IsMoved e links (link_put k j (link_in links k j ++ m ∷ []) links)
  moved-flush event a b = subst (λ (x : Event × Detail). link_in links a b ++ sends x.0.kernel x.0.act x.1 a b ≡ takes x.0.kernel x.0.act x.1 a b
      ++ link_in now a b) (λ i. (sym event i, sym carried i)) (by_pair (cases_eq j b) (cases_eq k a))
    where
      now : List (List (List Message))
      now = link_put k j (link_in links k j ++ m ∷ []) links

      by_pair : ((j ≡ b) ⊎ (j ≡ b → ⊥)) → ((k ≡ a) ⊎ (k ≡ a → ⊥)) → link_in links a b ++ cond (j == b) (cond (k == a) (m ∷ []) []) [] ≡ link_in now a b
      by_pair (inr apart) k_is = ap (λ l. link_in links a b ++ l) (cond-false (j == b) (cond (k == a) (m ∷ []) []) [] (ne_eqb j b apart))
          ∙ (append-nil (link_in links a b) ∙ sym (link_in-other links k j a b (link_in links k j ++ m ∷ []) (λ same. apart (sym same.1))))
      by_pair (inl same) (inr apart) = ap (λ l. link_in links a b ++ l) (cond-true (j == b) (cond (k == a) (m ∷ []) []) [] (eq-eqb j b same)
          ∙ cond-false (k == a) (m ∷ []) [] (ne_eqb k a apart))
          ∙ (append-nil (link_in links a b) ∙ sym (link_in-other links k j a b (link_in links k j ++ m ∷ []) (λ same. apart (sym same.0))))
      by_pair (inl same) (inl to) =
          subst (λ (x : ℕ × ℕ). link_in links x.0 x.1 ++ cond (j == x.1) (cond (k == x.0) (m ∷ []) []) [] ≡ link_in now x.0 x.1) (λ i. (to i, same i))
          (ap (λ l. link_in links k j ++ l) (cond-true (j == j) (cond (k == k) (m ∷ []) []) [] (eq-eqb j j refl)
          ∙ cond-true (k == k) (m ∷ []) [] (eq-eqb k k refl)) ∙ sym (link_in-same links k j (link_in links k j ++ m ∷ [])))

-- no link has more messages than n, where one is written
pub few-put : (n : ℕ) (links : List (List (List Message))) (i j : ℕ) (ms : List Message) → ((a b : ℕ) → length (link_in links a b) ≤ n) → length ms ≤ n →
    (a b : ℕ) → length (link_in (link_put i j ms links) a b) ≤ n
few-put n links i j ms few short a b = elim (cases_eq a i) [
  | inr apart ↦ subst (λ l. length l ≤ n) (sym (link_in-other links i j a b ms (λ same. apart same.0))) (few a b)
  | inl same ↦ elim (cases_eq b j) [
    | inr apart ↦ subst (λ l. length l ≤ n) (sym (link_in-other links i j a b ms (λ same. apart same.1))) (few a b)
    | inl to ↦ subst (λ (x : ℕ × ℕ). length (link_in (link_put i j ms links) x.0 x.1) ≤ n) (λ i. (sym same i, sym to i))
        (subst (λ l. length l ≤ n) (sym (link_in-same links i j ms)) short)
  ]
]

-- only a kill has to be due
pub not-kill : (T : Setup) (J : List Entry) (e : Entry) → ((v : ℕ) → e.event.act ≢ Kill v) → IsDue T J e
not-kill T J e other v act = absurd (other v act)

-- The steps of a fabric that agrees with its journal.
module _ (T : Setup) (f : FabricValue) (is : FabricAgrees T f) (e : Entry) (here : e.event.kernel < f.kernels) where
  there : e.event.kernel < T.kernels
  there = let same = is.same_kernels in omega (arith, here, same)

  -- an act that the kernel does alone
  pub agrees-own : IsOwnAct e.event.act → FabricAgrees T (entered e f)
  agrees-own own = agree-entered T f.kernels f.window f.kills f.journal f.links is e f.links (moved-own e f.links own) there
      (link-few T f.kernels f.window f.kills f.journal f.links is) (not-kill T f.journal e (λ v kill. subst IsOwnAct kill own))

  -- a kill that is due
  pub agrees-kill : (v : ℕ) → e.event.act ≡ Kill v → is_due T (length (replies f.journal)) v ≡ true → FabricAgrees T (entered e f)
  agrees-kill v act due =
      agree-entered T f.kernels f.window f.kills f.journal f.links is e f.links (moved-kill e f.links v act) there
      (link-few T f.kernels f.window f.kills f.journal f.links is)
      (λ w same. let same_vpe : v ≡ w = cc in
      subst (λ x. IfSome (kill_number T x) (λ k. k ≤ length (replies f.journal))) same_vpe (by_number (kill_number T v) due))
    where
      by_number : (o : Option ℕ) → option_map_or (λ n. nat_le n (length (replies f.journal))) o false ≡ true → IfSome o (λ n. n ≤ length (replies f.journal))
      by_number None ok = tt
      by_number (Some n) ok = leb-true n (length (replies f.journal)) ok

  -- a fetch, of the message that was the front of the link
  pub agrees-fetch : (j : ℕ) (m : Message) → e.event.act ≡ Fetch j → e.detail ≡ Carried j m → slice_get (link_in f.links j e.event.kernel) 0 ≡ Some m →
      FabricAgrees T (entered e (relinked j e.event.kernel (drop 1 (link_in f.links j e.event.kernel)) f))
  agrees-fetch j m act carried first =
      let rest : List Message = drop 1 (link_in f.links j e.event.kernel) in
      let front : link_in f.links j e.event.kernel ≡ m ∷ rest = front-is (link_in f.links j e.event.kernel) m first in
      let few = link-few T f.kernels f.window f.kills f.journal f.links is in
      let before = few j e.event.kernel in
      let long : length (link_in f.links j e.event.kernel) ≡ length rest + 1 = ap length front ∙ omega arith in
      agree-entered T f.kernels f.window f.kills f.journal f.links is e (link_put j e.event.kernel rest f.links)
      (moved-fetch e f.links e.event.kernel j m carried rest (λ i. record { kernel = e.event.kernel; act = act i }) front)
      there
      (few-put T.window f.links j e.event.kernel rest few (omega (arith, before, long)))
      (not-kill T f.journal e (λ v kill. let both : Fetch j ≡ Kill v = sym act ∙ kill in absurd cc))

  -- a flush, into a link with room
  pub agrees-flush : (j : ℕ) (m : Message) → e.event.act ≡ Flush j → e.detail ≡ Carried j m → length (link_in f.links e.event.kernel j) < f.window →
      FabricAgrees T (entered e (relinked e.event.kernel j (link_in f.links e.event.kernel j ++ m ∷ []) f))
  agrees-flush j m act carried room =
      let long = length_push (link_in f.links e.event.kernel j) m in
      let same = is.same_window in
      agree-entered T f.kernels f.window f.kills f.journal f.links is e (link_put e.event.kernel j (link_in f.links e.event.kernel j ++ m ∷ []) f.links)
      (moved-flush e f.links e.event.kernel j m carried (λ i. record { kernel = e.event.kernel; act = act i }))
      there (few-put T.window f.links e.event.kernel j (link_in f.links e.event.kernel j ++ m ∷ []) (link-few T f.kernels f.window f.kills f.journal f.links is)
      (omega (arith, room, long, same))) (not-kill T f.journal e (λ v kill. let both : Flush j ≡ Kill v = sym act ∙ kill in absurd cc))
