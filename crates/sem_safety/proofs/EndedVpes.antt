-- A VPE that ends is dead after that.
use Rattle.std.proofs.Common.{◌≡◌, ℕ, false, List, [], ap}
use Rattle.std.proofs.lemmas.Bool.{false_from_ne_true}
use Rattle.sem_key.specs.Lists.{in_turn}
use Rattle.sem_msg.specs.declared.state.Ask.{Ask}
use Rattle.sem_msg.specs.Rows.{VpeRow, no_vpe}
use Rattle.sem_msg.specs.Setup.{Setup}
use Rattle.sem_machine.specs.Sides.{Side, row, cap, parked, buried, unparked}
use Rattle.sem_machine.specs.Ends.{ask_ended, call_ended, revoked_if_left, keys_of_vpe, ended}
use Rattle.sem_key.proofs.Puts.{get_or-put_same}
use Rattle.sem_safety.specs.Onward.{IsOnward}
use Rattle.sem_safety.proofs.GoingOn.{AnyVpe}
use Rattle.sem_safety.proofs.KeptRows.{ask_ended-in, call_ended-in, revoked_if_there-in}
use Rattle.sem_safety.proofs.Layers.{facts}
use Rattle.sem_machine.proofs.Folds.{in_turn-keeps}
use Rattle.sem_safety.proofs.Onwards.{Any, AnyPlace, onward-same, onward}

ended-on : (T : Setup) (i v : ℕ) (s : Side) → IsOnward (buried v s) (ended T i v s)
unfolding ended
ended-on T i v s =
    let F = facts Any AnyPlace in
    let P : Side → Type 0 = IsOnward (buried v s) in
    let L = (onward (buried v s)).kept in
    let asks : List Ask = (row s v).asks in
    let answered : Side = in_turn (ask_ended T i) asks (buried v s) in
    let left : Side = call_ended T (parked answered v) v (unparked v answered) in
    let told : P answered = in_turn-keeps P (ask_ended T i) (λ a t here. ask_ended-in F AnyVpe P L T i a t here) asks (buried v s) (onward-same (buried v s)) in
    let gone : P left = call_ended-in F AnyVpe P L T (parked answered v) v (unparked v answered) (L.keeps_unparked answered told v) in
    in_turn-keeps P (revoked_if_left T i) (λ k t here. revoked_if_there-in F AnyVpe P L T i k (cap t k) t here tt) (keys_of_vpe left v) left gone

pub killed-dead : (T : Setup) (i v : ℕ) (s : Side) → (row (ended T i v s) v).alive ≡ false
killed-dead T i v s = false_from_ne_true (row (ended T i v s) v).alive (λ lives.
    let before = (ended-on T i v s).dead v lives in
    let dead : (row (buried v s) v).alive ≡ false =
    ap (λ (r : VpeRow). r.alive) (get_or-put_same no_vpe s.vpes v (record (row s v) { alive = false; asks = [] })) in
    absurd (cc (before, dead)))
