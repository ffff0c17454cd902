-- The asks of a dead VPE: one is taken out and answered after the other.
use Rattle.std.proofs.Common.{◌≡◌, ◌≢◌, ℕ, zero, suc, ◌+◌, Bool, true, false, List, [], ◌∷◌, drop, length, get_or, slice_get, Option, Some, None, refl, sym}
use Rattle.std.proofs.Common.{◌∙◌, ap, subst, inl, inr, eq-eqb, arith}
use Rattle.std.specs.Prelude.{◌==◌, if◌then◌else◌}
use Rattle.std.specs.List.{All}
use Rattle.std.proofs.lemmas.Bool.{cases_Bool, eqb-true, true≢false}
use Rattle.sem_key.specs.Lists.{put, in_turn}
use Rattle.sem_key.proofs.Puts.{get_or-put_same, get_or-put_other}
use Rattle.sem_msg.specs.declared.state.Ask.{Ask}
use Rattle.sem_msg.specs.declared.state.Ask.TheVariants.{Obtain as ObtainAsk, Delegate as DelegateAsk}
use Rattle.sem_msg.specs.declared.state.Slot.TheVariants.{Free}
use Rattle.sem_msg.specs.declared.state.Parked.{Parked}
use Rattle.sem_msg.specs.declared.state.Parked.TheVariants.{ObtainWait, ObtainReady, ObtainCancelled, DelegateWait, DelegateReady, RevokeWait, Ready}
use Rattle.sem_msg.specs.declared.code.Code.TheVariants.{Dead}
use Rattle.sem_msg.specs.Codes.{code_number}
use Rattle.sem_msg.specs.Rows.{VpeRow, no_vpe}
use Rattle.sem_msg.specs.VpeRows
use Rattle.sem_msg.specs.VpeRows.{with_row}
use Rattle.sem_msg.specs.Setup.{Setup}
use Rattle.sem_msg.specs.Lookups.{kernel_of}
use Rattle.sem_machine.specs.Sides.{Side, row, parked, ready, freed, ask_taken, buried}
use Rattle.sem_machine.specs.Asks.{asker, is_unawaited, promise_freed, call_refused, refusal_sent}
use Rattle.sem_machine.specs.Ends.{ask_ended}
use Rattle.sem_sweep.specs.Sweeping.{CanOwe, unasked}

-- Writes in lists.

put-twice : {X : Type 0} (d : X) (xs : List X) (i : ℕ) (x y : X) → put d (put d xs i x) i y ≡ put d xs i y
unfolding put
put-twice d [] zero x y = refl
put-twice d [] (suc i) x y = ap (λ zs. d ∷ zs) (put-twice d [] i x y)
put-twice d (z ∷ zs) zero x y = refl
put-twice d (z ∷ zs) (suc i) x y = ap (λ ws. z ∷ ws) (put-twice d zs i x y)

put-swap : {X : Type 0} (d : X) (xs : List X) (i j : ℕ) (x y : X) → i ≢ j → put d (put d xs i x) j y ≡ put d (put d xs j y) i x
unfolding put
put-swap d xs zero zero x y differs = absurd (differs refl)
put-swap d [] zero (suc j) x y differs = refl
put-swap d [] (suc i) zero x y differs = refl
put-swap d [] (suc i) (suc j) x y differs = ap (λ zs. d ∷ zs) (put-swap d [] i j x y (λ same. differs (ap suc same)))
put-swap d (z ∷ zs) zero (suc j) x y differs = refl
put-swap d (z ∷ zs) (suc i) zero x y differs = refl
put-swap d (z ∷ zs) (suc i) (suc j) x y differs = ap (λ ws. z ∷ ws) (put-swap d zs i j x y (λ same. differs (ap suc same)))

-- Rows of VPEs.

-- a row that is changed twice
row-twice : (v : ℕ) (f g : VpeRow → VpeRow) (rows : List VpeRow) → with_row v f (with_row v g rows) ≡ with_row v (λ r. f (g r)) rows
row-twice v f g rows =
    put-twice no_vpe rows v (g (VpeRows.row rows v)) (f (VpeRows.row (with_row v g rows) v))
    ∙ ap (λ r. put no_vpe rows v (f r)) (get_or-put_same no_vpe rows v (g (VpeRows.row rows v)))

-- two changes that commute on a row commute on the rows
rows-commute : (f g : VpeRow → VpeRow) → ((r : VpeRow) → f (g r) ≡ g (f r)) → (v w : ℕ) (rows : List VpeRow) →
    with_row v f (with_row w g rows) ≡ with_row w g (with_row v f rows)
rows-commute f g commute v w rows = elim (cases_Bool (v == w)) [
  | inl same ↦ subst (λ u. with_row v f (with_row u g rows) ≡ with_row u g (with_row v f rows)) (eqb-true v w same)
      (row-twice v f g rows ∙ ap (put no_vpe rows v) (commute (VpeRows.row rows v)) ∙ sym (row-twice v g f rows))
  | inr other ↦
      let differs : v ≢ w = λ same. true≢false (sym (eq-eqb v w same) ∙ other) in
      let rv : VpeRow = VpeRows.row rows v in
      let rw' : VpeRow = VpeRows.row rows w in
      ap (λ r. put no_vpe (put no_vpe rows w (g rw')) v (f r)) (get_or-put_other no_vpe rows w v (g rw') differs)
      ∙ put-swap no_vpe rows w v (g rw') (f rv) (λ same. differs (sym same))
      ∙ sym (ap (λ r. put no_vpe (put no_vpe rows v (f rv)) w (g r)) (get_or-put_other no_vpe rows v w (f rv) (λ same. differs (sym same))))
]

-- what a change of a row leaves of the asks of any VPE
pub asks-kept : (g : VpeRow → VpeRow) → ((r : VpeRow) → (g r).asks ≡ r.asks) → (v w : ℕ) (rows : List VpeRow) →
    (VpeRows.row (with_row w g rows) v).asks ≡ (VpeRows.row rows v).asks
asks-kept g keeps v w rows = elim (cases_Bool (v == w)) [
  | inl same ↦ subst (λ u. (VpeRows.row (with_row u g rows) v).asks ≡ (VpeRows.row rows v).asks) (eqb-true v w same)
      (ap (λ (r : VpeRow). r.asks) (get_or-put_same no_vpe rows v (g (VpeRows.row rows v))) ∙ keeps (VpeRows.row rows v))
  | inr other ↦ ap (λ (r : VpeRow). r.asks) (get_or-put_other no_vpe rows w v (g (VpeRows.row rows w)) (λ same. true≢false (sym (eq-eqb v w same) ∙ other)))
]

-- An ask that is answered leaves the asks that wait, and does not read them.

freed-unasked : (v w sel : ℕ) (s : Side) → unasked v (freed w sel s) ≡ freed w sel (unasked v s)
freed-unasked v w sel s = ap (λ (rows : List VpeRow). record s { vpes = rows })
    (rows-commute (λ r. record r { asks = [] }) (λ r. record r { slots = put Free r.slots sel Free }) (λ r. refl) v w s.vpes)

promise-unasked : (v w : ℕ) (p : Option Parked) (s : Side) → unasked v (promise_freed p w s) ≡ promise_freed p w (unasked v s)
promise-unasked v w None s = refl
promise-unasked v w (Some (ObtainWait number sel)) s = freed-unasked v w sel s
promise-unasked v w (Some (ObtainReady key parent object sel)) s = refl
promise-unasked v w (Some ObtainCancelled) s = refl
promise-unasked v w (Some (DelegateWait parent)) s = refl
promise-unasked v w (Some (DelegateReady parent key)) s = refl
promise-unasked v w (Some (RevokeWait j)) s = refl
promise-unasked v w (Some (Ready code)) s = refl

promise-asks : (v w : ℕ) (p : Option Parked) (s : Side) → (row (promise_freed p w s) v).asks ≡ (row s v).asks
promise-asks v w None s = refl
promise-asks v w (Some (ObtainWait number sel)) s = asks-kept (λ r. record r { slots = put Free r.slots sel Free }) (λ r. refl) v w s.vpes
promise-asks v w (Some (ObtainReady key parent object sel)) s = refl
promise-asks v w (Some ObtainCancelled) s = refl
promise-asks v w (Some (DelegateWait parent)) s = refl
promise-asks v w (Some (DelegateReady parent key)) s = refl
promise-asks v w (Some (RevokeWait j)) s = refl
promise-asks v w (Some (Ready code)) s = refl

sent-unasked : (T : Setup) (v : ℕ) (a : Ask) (s : Side) → unasked v (refusal_sent T Dead a s) ≡ refusal_sent T Dead a (unasked v s)
sent-unasked T v (ObtainAsk place target) s = refl
sent-unasked T v (DelegateAsk parent object sel) s = refl

sent-asks : (T : Setup) (v : ℕ) (a : Ask) (s : Side) → (row (refusal_sent T Dead a s) v).asks ≡ (row s v).asks
sent-asks T v (ObtainAsk place target) s = refl
sent-asks T v (DelegateAsk parent object sel) s = refl

pub ended-unasked : (T : Setup) (i v : ℕ) (a : Ask) (s : Side) → unasked v (ask_ended T i a s) ≡ ask_ended T i a (unasked v s)
ended-unasked T i v a s = from (is_unawaited T i s a) (kernel_of T (asker a) == i)
  where
    from : (t u : Bool) → unasked v (if t then s else (if u then call_refused (code_number Dead) (asker a) s else refusal_sent T Dead a s))
        ≡ (if t then unasked v s else (if u then call_refused (code_number Dead) (asker a) (unasked v s) else refusal_sent T Dead a (unasked v s)))
    from true u = refl
    from false true = ap (ready (code_number Dead) (asker a)) (promise-unasked v (asker a) (parked s (asker a)) s)
    from false false = sent-unasked T v a s

pub ended-asks : (T : Setup) (i v : ℕ) (a : Ask) (s : Side) → (row (ask_ended T i a s) v).asks ≡ (row s v).asks
ended-asks T i v a s = from (is_unawaited T i s a) (kernel_of T (asker a) == i)
  where
    from : (t u : Bool) → (row (if t then s else (if u then call_refused (code_number Dead) (asker a) s else refusal_sent T Dead a s)) v).asks ≡ (row s v).asks
    from true u = refl
    from false true = promise-asks v (asker a) (parked s (asker a)) s
    from false false = sent-asks T v a s

-- What a call owes.

promise-parks : (w : ℕ) (p : Option Parked) (s : Side) → (promise_freed p w s).parks ≡ s.parks
promise-parks w None s = refl
promise-parks w (Some (ObtainWait number sel)) s = refl
promise-parks w (Some (ObtainReady key parent object sel)) s = refl
promise-parks w (Some ObtainCancelled) s = refl
promise-parks w (Some (DelegateWait parent)) s = refl
promise-parks w (Some (DelegateReady parent key)) s = refl
promise-parks w (Some (RevokeWait j)) s = refl
promise-parks w (Some (Ready code)) s = refl

sent-parks : (T : Setup) (a : Ask) (s : Side) → (refusal_sent T Dead a s).parks ≡ s.parks
sent-parks T (ObtainAsk place target) s = refl
sent-parks T (DelegateAsk parent object sel) s = refl

-- a call that will end with a code owes nothing
parks-owe : (T : Setup) (v w number : ℕ) (parks : List (Option Parked)) → CanOwe T (get_or parks v None) →
    CanOwe T (get_or (put None parks w (Some (Ready number))) v None)
parks-owe T v w number parks can = elim (cases_Bool (v == w)) [
  | inl same ↦ subst (λ u. CanOwe T (get_or (put None parks u (Some (Ready number))) v None)) (eqb-true v w same)
      (subst (CanOwe T) (sym (get_or-put_same None parks v (Some (Ready number)))) tt)
  | inr other ↦ subst (CanOwe T) (sym (get_or-put_other None parks w v (Some (Ready number)) (λ same. true≢false (sym (eq-eqb v w same) ∙ other)))) can
]

pub ended-owes : (T : Setup) (i v : ℕ) (a : Ask) (s : Side) → CanOwe T (parked s v) → CanOwe T (parked (ask_ended T i a s) v)
ended-owes T i v a s can = from (is_unawaited T i s a) (kernel_of T (asker a) == i)
  where
    from : (t u : Bool) → CanOwe T (parked (if t then s else (if u then call_refused (code_number Dead) (asker a) s else refusal_sent T Dead a s)) v)
    from true u = can
    from false true = subst (λ (ps : List (Option Parked)). CanOwe T (get_or (put None ps (asker a) (Some (Ready (code_number Dead)))) v None))
        (sym (promise-parks (asker a) (parked s (asker a)) s)) (parks-owe T v (asker a) (code_number Dead) s.parks can)
    from false false = subst (λ (ps : List (Option Parked)). CanOwe T (get_or ps v None)) (sym (sent-parks T a s)) can

-- The turns.

pub front-rest : (a : Ask) (asks : List Ask) → Some a ≡ slice_get asks 0 → asks ≡ a ∷ drop 1 asks
front-rest a [] front = absurd cc
front-rest a (b ∷ bs) front = let same : a ≡ b = cc in ap (λ c. c ∷ bs) (sym same)

pub front-none : (asks : List Ask) → None ≡ slice_get asks 0 → asks ≡ []
front-none [] front = refl
front-none (b ∷ bs) front = absurd cc

-- what holds of all asks holds of those behind the first
pub rest-all : (P : Ask → Type 0) (a : Ask) (asks : List Ask) → Some a ≡ slice_get asks 0 → All P asks → All P (drop 1 asks)
rest-all P a [] front all = absurd cc
rest-all P a (b ∷ bs) front all = λ k d lt. all (suc k) d (omega arith)

pub rest-length : (a : Ask) (asks : List Ask) → Some a ≡ slice_get asks 0 → length (drop 1 asks) + 1 ≡ length asks
rest-length a [] front = absurd cc
rest-length a (b ∷ bs) front = omega arith

taken-unasked : (v : ℕ) (s : Side) → unasked v (ask_taken v s) ≡ unasked v s
taken-unasked v s =
    ap (λ (rows : List VpeRow). record s { vpes = rows }) (row-twice v (λ r. record r { asks = [] }) (λ r. record r { asks = drop 1 r.asks }) s.vpes)

taken-asks : (v : ℕ) (s : Side) → (row (ask_taken v s) v).asks ≡ drop 1 (row s v).asks
taken-asks v s = ap (λ (r : VpeRow). r.asks) (get_or-put_same no_vpe s.vpes v (record (row s v) { asks = drop 1 (row s v).asks }))

-- what is left of the asks after a turn
pub turn-asks : (T : Setup) (i v : ℕ) (a : Ask) (s s1 s2 : Side) → s1 ≡ ask_taken v s → s2 ≡ ask_ended T i a s1 → (row s2 v).asks ≡ drop 1 (row s v).asks
turn-asks T i v a s s1 s2 taken answered = ap (λ (t : Side). (row t v).asks) answered ∙ ended-asks T i v a s1 ∙ ap (λ (t : Side). (row t v).asks) taken
    ∙ taken-asks v s

-- to answer what is left after a turn is to answer all
pub turn-row : (T : Setup) (i v : ℕ) (a : Ask) (s s1 s2 : Side) → s1 ≡ ask_taken v s → s2 ≡ ask_ended T i a s1 → Some a ≡ slice_get (row s v).asks 0 →
    in_turn (ask_ended T i) (row s2 v).asks (unasked v s2) ≡ in_turn (ask_ended T i) (row s v).asks (unasked v s)
unfolding in_turn
turn-row T i v a s s1 s2 taken answered front =
    let rest : List Ask = drop 1 (row s v).asks in
    ap (λ asks. in_turn (ask_ended T i) asks (unasked v s2)) (turn-asks T i v a s s1 s2 taken answered)
    ∙ ap (λ (t : Side). in_turn (ask_ended T i) rest (unasked v t)) answered
    ∙ ap (in_turn (ask_ended T i) rest) (ended-unasked T i v a s1)
    ∙ ap (λ (t : Side). in_turn (ask_ended T i) (a ∷ rest) (unasked v t)) taken
    ∙ ap (in_turn (ask_ended T i) (a ∷ rest)) (taken-unasked v s)
    ∙ ap (λ asks. in_turn (ask_ended T i) asks (unasked v s)) (sym (front-rest a (row s v).asks front))

-- nothing is left
pub last-row : (T : Setup) (i v : ℕ) (s s1 : Side) → s1 ≡ ask_taken v s → None ≡ slice_get (row s v).asks 0 →
    s1 ≡ in_turn (ask_ended T i) (row s v).asks (unasked v s)
unfolding in_turn
last-row T i v s s1 taken front =
    let none : (row s v).asks ≡ [] = front-none (row s v).asks front in
    taken
    ∙ ap (λ waiting. record s { vpes = put no_vpe s.vpes v (record (row s v) { asks = drop 1 waiting }) }) none
    ∙ ap (λ asks. in_turn (ask_ended T i) asks (unasked v s)) (sym none)

-- The end.

-- a dead VPE that is asked nothing is buried
pub buried-is : (v : ℕ) (s : Side) → unasked v (record s { vpes = VpeRows.died v s.vpes }) ≡ buried v s
buried-is v s = ap (λ (rows : List VpeRow). record s { vpes = rows }) (row-twice v (λ r. record r { asks = [] }) (λ r. record r { alive = false }) s.vpes)

-- a VPE that dies is asked what it was asked
pub died-asks : (v : ℕ) (rows : List VpeRow) → (VpeRows.row (VpeRows.died v rows) v).asks ≡ (VpeRows.row rows v).asks
died-asks v rows = ap (λ (r : VpeRow). r.asks) (get_or-put_same no_vpe rows v (record (VpeRows.row rows v) { alive = false }))
