-- Along every run a VPE that waits for a job is among those whom an open job of that id wakes, and a mark names an open job.
use Rattle.std.proofs.Common.{◌≡◌, ◌⊎◌, ℕ, zero, suc, ◌+◌, ◌-◌, ◌<◌, Bool, true, false, not, List, [], ◌∷◌, ◌++◌, length, get_or, Option, Some, None, refl, sym}
use Rattle.std.proofs.Common.{ap, ◌∙◌, subst, inl, inr, arith, eq-eqb}
use Rattle.std.specs.Prelude.{◌==◌, ◌≢◌, if◌then◌else◌}
use Rattle.std.specs.List.{Contains, filter, list_any}
use Rattle.std.specs.Option.{option_map_or}
use Rattle.std.proofs.lemmas.Bool.{cases_eq, cond_both, ne_eqb}
use Rattle.std.proofs.lemmas.List.Elements.{Contains-append_left}
use Rattle.std.proofs.lemmas.Option.{same_Some}
use Rattle.sem_key.specs.KeyName.{KeyName, key_eq}
use Rattle.sem_key.specs.KeyList.{without_key}
use Rattle.sem_key.specs.Lists.{in_turn, change, put}
use Rattle.sem_key.specs.Capability.{Capability}
use Rattle.sem_key.specs.CapList.{is_marked_by, marked_by, with_mark, restored}
use Rattle.sem_msg.specs.declared.state.Parked.{Parked}
use Rattle.sem_msg.specs.declared.message.Message.{Message}
use Rattle.sem_msg.specs.declared.message.Message.TheVariants.{RevokeReq, RevokeDone, Unlink}
use Rattle.sem_msg.specs.declared.state.Parked.TheVariants.{RevokeWait, Ready}
use Rattle.sem_msg.specs.declared.state.Slot.{Slot}
use Rattle.sem_msg.specs.declared.state.Slot.TheVariants.{Free}
use Rattle.sem_msg.specs.declared.state.Up.{Up}
use Rattle.sem_msg.specs.declared.state.Up.TheVariants.{Local, Remote}
use Rattle.sem_msg.specs.Rows.{JobRow, VpeRow, no_vpe}
use Rattle.sem_msg.specs.VpeRows
use Rattle.sem_msg.specs.Setup.{Setup}
use Rattle.sem_msg.specs.Lookups.{owner_of, is_local}
use Rattle.sem_msg.specs.declared.code.Code.TheVariants.{Ok as OkCode}
use Rattle.sem_msg.specs.JobRows.{if_done, next_done}
use Rattle.sem_msg.specs.Codes.{code_number}
use Rattle.sem_machine.specs.Sides.{Side, job_removed, row, cap, job, parked, with_slot, ready, unlinked, mark_all, unbind_all, job_opened, job_changed, send}
use Rattle.sem_key.specs.Region.{region, children_of}
use Rattle.sem_machine.specs.Revokes.{count_raised, with_up, other_marker, adopted, request_or_adopt, selectors_freed, root_spared, swept, woken, parent_left}
use Rattle.sem_machine.specs.Revokes.{left_parent, up_told, closed_here, closed, finish, settled, opened, begin}
use Rattle.sem_key.proofs.Members.{Contains-head, Contains-tail, Contains-nil, Contains-cons_cases, Contains-filter, Contains-from_filter, Contains-map}
use Rattle.sem_key.proofs.Members.{Contains-from_map}
use Rattle.sem_key.proofs.Puts.{get_or-put_same, get_or-put_other}
use Rattle.sem_machine.proofs.Late.{closed_here-late}
use Rattle.sem_machine.proofs.Folds.{in_turn-keeps}
use Rattle.sem_safety.proofs.JobIds.{IdsRise, HasIds, ids, done-among, next-among}

-- a job of that id wakes the VPE
abbrev pub HasWaiter : List JobRow → ℕ → ℕ → Type 0
HasWaiter xs j v = (x : JobRow) × Contains xs x × (x.id ≡ j) × Contains x.waiters v

abbrev pub HasJob : List JobRow → ℕ → Type 0
HasJob xs j = (x : JobRow) × Contains xs x × (x.id ≡ j)

pub record IsOpen (s : Side) : Type 0 where
  pub awaited : (v j : ℕ) → parked s v ≡ Some (RevokeWait j) → HasWaiter s.jobs j v
  pub marked : (c : Capability) → Contains s.caps c → (j : ℕ) → c.mark ≡ Some j → HasJob s.jobs j
  pub ids : HasIds s

-- Rows.

-- another row
pub open-row : (s : Side) (v : ℕ) (r : VpeRow) → IsOpen s → IsOpen (record s { vpes = put no_vpe s.vpes v r })
open-row s v r is = record { awaited = is.awaited; marked = is.marked; ids = record { rise = is.ids.rise; drawn = is.ids.drawn } }

-- a parked call, or none, comes in for another, of which it is so
pub open-park : (s : Side) (v : ℕ) (p : Option Parked) → IsOpen s → ((j : ℕ) → p ≡ Some (RevokeWait j) → HasWaiter s.jobs j v) →
    IsOpen (record s { parks = put None s.parks v p })
open-park s v p is waits = record {
  awaited = λ w j at. elim (cases_eq w v) [
    | inl same ↦ subst (HasWaiter s.jobs j) (sym same) (waits j (sym (get_or-put_same None s.parks v p)
        ∙ (ap (λ u. get_or (put None s.parks v p) u None) (sym same) ∙ at)))
    | inr other ↦ is.awaited w j (sym (get_or-put_other None s.parks v w p other) ∙ at)
  ];
  marked = is.marked;
  ids = record { rise = is.ids.rise; drawn = is.ids.drawn };
}

pub open-slot : (s : Side) (v sel : ℕ) (state : Slot) → IsOpen s → IsOpen (with_slot v sel state s)
open-slot s v sel state is = open-row s v (record (row s v) { slots = put Free (row s v).slots sel state }) is

pub open-ready : (s : Side) (v code : ℕ) → IsOpen s → IsOpen (ready code v s)
open-ready s v code is = open-park s v (Some (Ready code)) is (λ j at. absurd cc)

-- Capabilities.
pub open-caps : (s : Side) (test : Capability → Bool) (f : Capability → Capability) →
    ((c : Capability) (j : ℕ) → (f c).mark ≡ Some j → (c.mark ≡ Some j) ⊎ HasJob s.jobs j) → IsOpen s → IsOpen (record s { caps = change test f s.caps })
open-caps s test f keeps is = record {
  awaited = is.awaited;
  marked = λ c among j at.
      let origin = Contains-from_map (λ (x : Capability). if test x then f x else x) s.caps c among in
      let d : Capability = origin.0 in
      let back : (if test d then f d else d).mark ≡ Some j = ap (λ (x : Capability). x.mark) origin.2 ∙ at in
      let before : (d.mark ≡ Some j) ⊎ HasJob s.jobs j = cond_both (test d) (f d) d (λ (x : Capability). x.mark ≡ Some j →
      (d.mark ≡ Some j) ⊎ HasJob s.jobs j) (λ _ mark. keeps d j mark) (λ _ mark. inl mark) back in
      elim before [ inl mark ↦ is.marked d origin.1 j mark | inr open_so ↦ open_so ];
  ids = record { rise = is.ids.rise; drawn = is.ids.drawn };
}

pub open-unlinked : (s : Side) (p k : KeyName) → IsOpen s → IsOpen (unlinked p k s)
open-unlinked s p k is = open-caps s (λ c. key_eq c.key p) (λ c. record c { children = without_key c.children k }) (λ c j mark. inl mark) is

pub open-send : (s : Side) (j : ℕ) (m : Message) → IsOpen s → IsOpen (send j m s)
open-send s j m is = record { awaited = is.awaited; marked = is.marked; ids = record { rise = is.ids.rise; drawn = is.ids.drawn } }

-- Jobs.
has-changed : (xs : List JobRow) (j : ℕ) (f : JobRow → JobRow) → ((x : JobRow) → (f x).id ≡ x.id) →
    ((x : JobRow) (v : ℕ) → Contains x.waiters v → Contains (f x).waiters v) → (n v : ℕ) → HasWaiter xs n v → HasWaiter (change (λ x. x.id == j) f xs) n v
has-changed xs j f same keeps n v (x, among, id, waits) =
    let g : JobRow → JobRow = λ y. if y.id == j then f y else y in (
      g x,
      Contains-map g xs x among,
      cond_both (x.id == j) (f x) x (λ (y : JobRow). y.id ≡ x.id) (λ _. same x) (λ _. refl)
          ∙ id,
      cond_both (x.id == j) (f x) x (λ (y : JobRow). Contains y.waiters v) (λ _. keeps x v waits) (λ _. waits),
    )

job-changed : (xs : List JobRow) (j : ℕ) (f : JobRow → JobRow) → ((x : JobRow) → (f x).id ≡ x.id) → (n : ℕ) → HasJob xs n →
    HasJob (change (λ x. x.id == j) f xs) n
job-changed xs j f same n (x, among, id) =
    let g : JobRow → JobRow = λ y. if y.id == j then f y else y in
    (g x, Contains-map g xs x among, cond_both (x.id == j) (f x) x (λ (y : JobRow). y.id ≡ x.id) (λ _. same x) (λ _. refl) ∙ id)

pub open-changed : (s : Side) (j : ℕ) (f : JobRow → JobRow) → ((x : JobRow) → ((f x).id ≡ x.id) × ((f x).root ≡ x.root)) →
    ((x : JobRow) (v : ℕ) → Contains x.waiters v → Contains (f x).waiters v) → IsOpen s → IsOpen (job_changed j f s)
open-changed s j f same keeps is = record {
  awaited = λ v n at. has-changed s.jobs j f (λ x. (same x).0) keeps n v (is.awaited v n at);
  marked = λ c among n at. job-changed s.jobs j f (λ x. (same x).0) n (is.marked c among n at);
  ids = ids.keeps_changed s is.ids j f same;
}

-- jobs of one id are one
one-job : (xs : List JobRow) → IdsRise xs → (x y : JobRow) → Contains xs x → Contains xs y → x.id ≡ y.id → x ≡ y
one-job [] rise x y in_x in_y same = absurd (Contains-nil x in_x)
one-job (z ∷ zs) rise x y in_x in_y same = from (Contains-cons_cases z zs x in_x) (Contains-cons_cases z zs y in_y)
    (λ there_x there_y. one-job zs (λ i j d lt within. rise (suc i) (suc j) d (omega (arith, lt)) (omega (arith, within))) x y there_x there_y same)
  where
    above : (w : JobRow) → Contains zs w → z.id < w.id
    above w (k, within, at) = subst (λ (u : JobRow). z.id < u.id) at (rise zero (suc k) w (omega arith) (omega (arith, within)))

    from : (z ≡ x) ⊎ Contains zs x → (z ≡ y) ⊎ Contains zs y → (Contains zs x → Contains zs y → x ≡ y) → x ≡ y
    from (inl one) (inl two) rest = sym one ∙ two
    from (inl one) (inr two) rest = let lt = above y two in let eq : z.id ≡ x.id = ap (λ (u : JobRow). u.id) one in absurd (omega (arith, lt, eq, same))
    from (inr one) (inl two) rest = let lt = above x one in let eq : z.id ≡ y.id = ap (λ (u : JobRow). u.id) two in absurd (omega (arith, lt, eq, same))
    from (inr one) (inr two) rest = rest one two

-- Closing a job.
abbrev NotMarking : ℕ → Side → Type 0
NotMarking n s = (c : Capability) → Contains s.caps c → c.mark ≡ Some n → ⊥

swept-open : (s : Side) (x : JobRow) → IsOpen s → IsOpen (swept x s) × NotMarking x.id (swept x s) × ((swept x s).jobs ≡ s.jobs)
swept-open s x is = (
  record {
    awaited = t_open.awaited;
    marked = λ c among j at. t_open.marked c (Contains-from_filter (λ (y : Capability). not (is_marked_by x.id y)) t.caps c among).0 j at;
    ids = record { rise = t_open.ids.rise; drawn = t_open.ids.drawn };
  },
  λ c among at.
      let kept = (Contains-from_filter (λ (y : Capability). not (is_marked_by x.id y)) t.caps c among).1 in
      let marks : is_marked_by x.id c ≡ true = ap (λ (o : Option ℕ). option_map_or (λ m. m == x.id) o false) at ∙ eq-eqb x.id x.id refl in
      absurd (cc (kept, marks)),
  t_all.1,
)
  where
    u : Side
    u = root_spared x s

    u_open : IsOpen u
    u_open = cond_both x.keep (restored s.caps x.root) s.caps (λ cs. IsOpen (record s { caps = cs }))
        (λ _. open-caps s (λ c. key_eq c.key x.root) (λ c. record c { children = []; mark = None }) (λ c j mark. absurd cc) is)
        (λ _. record { awaited = is.awaited; marked = is.marked; ids = record { rise = is.ids.rise; drawn = is.ids.drawn } })

    t : Side
    t = selectors_freed x.id u

    t_all : IsOpen (selectors_freed x.id u) × ((selectors_freed x.id u).jobs ≡ s.jobs)
    t_all = in_turn-keeps (λ rows. IsOpen (record u { vpes = rows }) × (u.jobs ≡ s.jobs)) (λ (c : Capability) rows. VpeRows.freed c.key.vpe c.selector rows)
        (λ c rows here. (open-slot (record u { vpes = rows }) c.key.vpe c.selector Free here.0, here.1)) (marked_by x.id u.caps) u.vpes (u_open, refl)

    t_open : IsOpen (selectors_freed x.id u)
    t_open = t_all.0

-- those who are woken wait for no job
abbrev Awake : List ℕ → Side → Type 0
Awake vs s = (v : ℕ) → Contains vs v → (j : ℕ) → parked s v ≡ Some (RevokeWait j) → ⊥

woken-open : (vs : List ℕ) (s : Side) → IsOpen s → IsOpen (woken vs s) × Awake vs (woken vs s) × ((woken vs s).jobs ≡ s.jobs) × ((woken vs s).caps ≡ s.caps)
    × ((v j : ℕ) → parked (woken vs s) v ≡ Some (RevokeWait j) → parked s v ≡ Some (RevokeWait j))
unfolding in_turn
woken-open [] s is = (is, λ v none j at. Contains-nil v none, refl, refl, λ v j at. at)
woken-open (v ∷ vs) s is =
    let t : Side = ready (code_number OkCode) v s in
    let rest = woken-open vs t (open-ready s v (code_number OkCode) is) in (
      rest.0,
      λ w among j at. elim (Contains-cons_cases v vs w among) [
        | inl same ↦ let before = rest.4 w j at in absurd (from w (sym same) j before)
        | inr later ↦ rest.1 w later j at
      ],
      rest.2,
      rest.3,
      λ w j at. back w j (rest.4 w j at),
    )
  where
    from : (w : ℕ) → w ≡ v → (j : ℕ) → parked (ready (code_number OkCode) v s) w ≡ Some (RevokeWait j) → ⊥
    from w same j at =
        let now : parked (ready (code_number OkCode) v s) v ≡ Some (Ready (code_number OkCode)) =
        get_or-put_same None s.parks v (Some (Ready (code_number OkCode))) in
        let there : parked (ready (code_number OkCode) v s) v ≡ Some (RevokeWait j) = ap (parked (ready (code_number OkCode) v s)) (sym same) ∙ at in
        absurd (cc (now, there))

    back : (w j : ℕ) → parked (ready (code_number OkCode) v s) w ≡ Some (RevokeWait j) → parked s w ≡ Some (RevokeWait j)
    back w j at = elim (cases_eq w v) [
      | inl same ↦ absurd (from w same j at)
      | inr other ↦ sym (get_or-put_other None s.parks v w (Some (Ready (code_number OkCode))) other) ∙ at
    ]

-- what keeps the parked calls, and marks nothing more with n
record Frame (n : ℕ) (s t : Side) : Type 0 where
  calls : t.parks ≡ s.parks
  quiet : NotMarking n s → NotMarking n t

frame-same : (n : ℕ) (s : Side) → Frame n s s
frame-same n s = record { calls = refl; quiet = λ q. q }

frame-unlinked : (n : ℕ) (s : Side) (p k : KeyName) → Frame n s (unlinked p k s)
frame-unlinked n s p k = record {
  calls = refl;
  quiet = λ q c among at.
      let f : Capability → Capability = λ x. record x { children = without_key x.children k } in
      let origin = Contains-from_map (λ (x : Capability). if key_eq x.key p then f x else x) s.caps c among in
      let d : Capability = origin.0 in
      let mark : (if key_eq d.key p then f d else d).mark ≡ d.mark = cond_both (key_eq d.key p) (f d) d (λ (x : Capability). x.mark ≡ d.mark) (λ _. refl)
      (λ _. refl) in
      q d origin.1 (sym mark ∙ (ap (λ (x : Capability). x.mark) origin.2 ∙ at));
}

abbrev Left : ℕ → Side → Side → Type 0
Left n s t = IsOpen t × Frame n s t

left-open : (T : Setup) (i id count : ℕ) (root : KeyName) (up : Option Up) (waiters : List ℕ) (keep : Bool) (o : Option KeyName) (s : Side) (n : ℕ) → IsOpen s →
    Left n s (parent_left T i (record { id = id; root = root; up = up; waiters = waiters; count = count; keep = keep }) o s)
left-open T i id count root up waiters keep None s n is = (is, frame-same n s)
left-open T i id count root None waiters keep (Some p) s n is = cond_both (is_local T i p) (unlinked p root s) (send (owner_of T p) (Unlink p root) s)
    (Left n s) (λ _. (open-unlinked s p root is, frame-unlinked n s p root)) (λ _. (
      open-send s (owner_of T p) (Unlink p root) is,
      record { calls = refl; quiet = λ q. q },
    ))
left-open T i id count root (Some (Local j)) waiters keep (Some p) s n is =
    cond_both (is_local T i p) (unlinked p root s) (send (owner_of T p) (Unlink p root) s) (Left n s)
    (λ _. (open-unlinked s p root is, frame-unlinked n s p root)) (λ _. (
      open-send s (owner_of T p) (Unlink p root) is,
      record { calls = refl; quiet = λ q. q },
    ))
left-open T i id count root (Some (Remote kernel j)) waiters keep (Some p) s n is =
    cond_both (is_local T i p) (unlinked p root s) s (Left n s) (λ _. (open-unlinked s p root is, frame-unlinked n s p root)) (λ _. (is, frame-same n s))

told-open : (up : Option Up) (s : Side) → IsOpen s → IsOpen (up_told up s)
told-open None s is = is
told-open (Some (Local j)) s is = open-changed s j (λ x. record x { count = x.count - 1 }) (λ x. (refl, refl)) (λ x v waits. waits) is
told-open (Some (Remote kernel j)) s is = open-send s kernel (RevokeDone j) is

-- a job of another id stays
other-stays : (xs : List JobRow) (n j v : ℕ) → j ≢ n → HasWaiter xs j v → HasWaiter (filter (λ x. not (x.id == n)) xs) j v
other-stays xs n j v other (x, among, id, waits) =
    (x, Contains-filter (λ (y : JobRow). not (y.id == n)) xs x among (ap not (ne_eqb x.id n (λ same. other (sym id ∙ same)))), id, waits)

other-job : (xs : List JobRow) (n j : ℕ) → j ≢ n → HasJob xs j → HasJob (filter (λ x. not (x.id == n)) xs) j
other-job xs n j other (x, among, id) =
    (x, Contains-filter (λ (y : JobRow). not (y.id == n)) xs x among (ap not (ne_eqb x.id n (λ same. other (sym id ∙ same)))), id)

closed-open : (T : Setup) (i : ℕ) (x : JobRow) (s : Side) → IsOpen s → Contains s.jobs x → IsOpen (closed T i x s)
unfolding closed_here
closed-open T i x s is among =
    let a : Side = swept x s in
    let b : Side = woken x.waiters a in
    let c : Side = parent_left T i x (left_parent s x) b in
    let d : Side = job_removed x.id c in
    let one = swept-open s x is in
    let two = woken-open x.waiters a one.0 in
    let three = left-open T i x.id x.count x.root x.up x.waiters x.keep (left_parent s x) b x.id two.0 in
    let open_c : IsOpen c = three.0 in
    let jobs : b.jobs ≡ s.jobs = two.2 ∙ one.2 in
    let quiet_b : NotMarking x.id b = λ q in_b at. one.1 q (subst (λ cs. Contains cs q) two.3 in_b) at in
    let quiet_c : NotMarking x.id c = three.1.quiet quiet_b in
    let open_d : IsOpen d = record {
      awaited = λ v j at.
          let at_b : parked b v ≡ Some (RevokeWait j) = ap (λ calls. get_or calls v None) (sym three.1.calls) ∙ at in
          other-stays c.jobs x.id j v (λ same. asleep b two.0 jobs two.1 v j at_b same) (open_c.awaited v j at);
      marked = λ q in_c j at. other-job c.jobs x.id j (λ same. quiet_c q in_c (at ∙ ap Some same)) (open_c.marked q in_c j at);
      ids = ids.keeps_closed c open_c.ids x.id;
    } in
    subst (λ t. IsOpen (up_told x.up t)) (sym (closed_here-late T i x x.id s)) (told-open x.up d open_d)
  where
    -- nobody waits any more for a job whose waiters were woken
    asleep : (b : Side) → IsOpen b → b.jobs ≡ s.jobs → Awake x.waiters b → (v j : ℕ) → parked b v ≡ Some (RevokeWait j) → j ≡ x.id → ⊥
    asleep b open_b jobs awake v j at same =
        let there = open_b.awaited v j at in
        let in_s : Contains s.jobs there.0 = subst (λ xs. Contains xs there.0) jobs there.1 in
        let this : there.0 ≡ x = one-job s.jobs is.ids.rise there.0 x in_s among (there.2 ∙ same) in
        awake v (subst (λ (y : JobRow). Contains y.waiters v) this there.3) j at

finish-open : (T : Setup) (i n : ℕ) (o : Option JobRow) (s : Side) → IsOpen s → ((x : JobRow) → o ≡ Some x → Contains s.jobs x) → IsOpen (finish T i n o s)
unfolding finish
finish-open T i zero o s is among = is
finish-open T i (suc n) None s is among = is
finish-open T i (suc n) (Some x) s is among = let s2 : Side = closed T i x s in
    finish-open T i n (next_done x.up s2.jobs) s2 (closed-open T i x s is (among x refl)) (λ y next. next-among x.up s2 y next)

pub settled-open : (T : Setup) (i j : ℕ) (s : Side) → IsOpen s → IsOpen (settled T i j s)
settled-open T i j s is = finish-open T i (length s.jobs) (if_done (job s j)) s is (λ x done. done-among s j x done)

-- Beginning.
raised-open : (s : Side) (j : ℕ) → IsOpen s → IsOpen (count_raised j s)
raised-open s j is = open-changed s j (λ x. record x { count = x.count + 1 }) (λ x. (refl, refl)) (λ x v waits. waits) is

pub up-open : (s : Side) (m : ℕ) (up : Up) → IsOpen s → IsOpen (with_up up m s)
up-open s m up is = open-changed s m (λ x. record x { up = Some up; keep = false }) (λ x. (refl, refl)) (λ x v waits. waits) is

adopted-open : (j : ℕ) (o : Option ℕ) (s : Side) → IsOpen s → IsOpen (adopted j o s)
adopted-open j None s is = is
adopted-open j (Some m) s is = raised-open (with_up (Local j) m s) j (up-open s m (Local j) is)

request-open : (T : Setup) (i j : ℕ) (k : KeyName) (s : Side) → IsOpen s → IsOpen (request_or_adopt T i j k s)
request-open T i j k s is = cond_both (is_local T i k) (adopted j (other_marker j (cap s k)) s) (count_raised j (send (owner_of T k) (RevokeReq k j) s)) IsOpen
    (λ _. adopted-open j (other_marker j (cap s k)) s is)
    (λ _. raised-open (send (owner_of T k) (RevokeReq k j) s) j (open-send s (owner_of T k) (RevokeReq k j) is))

marked-open : (s : Side) (ks : List KeyName) (j : ℕ) → HasJob s.jobs j → IsOpen s → IsOpen (unbind_all ks (mark_all ks j s))
marked-open s ks j there is =
    let caps : IsOpen (mark_all ks j s) =
    open-caps s (λ c. list_any (key_eq c.key) ks) (with_mark j) (λ c n mark. inr (subst (HasJob s.jobs) (same_Some j n mark) there)) is in
    record { awaited = caps.awaited; marked = caps.marked; ids = record { rise = caps.ids.rise; drawn = caps.ids.drawn } }

-- from the side in which the job is open
pub begin-open : (T : Setup) (i : ℕ) (root : KeyName) (up : Option Up) (waiters : List ℕ) (keep : Bool) (s : Side) →
    IsOpen (job_opened root up waiters keep s) → IsOpen (begin T i root up waiters keep s)
unfolding opened
begin-open T i root up waiters keep s is =
    let j : ℕ = s.next_job in
    let ks : List KeyName = region s.caps root in
    let with_job : Side = job_opened root up waiters keep s in
    let marked : Side = unbind_all ks (mark_all ks j with_job) in
    let x : JobRow = record { id = s.next_job; root = root; up = up; waiters = waiters; count = 0; keep = keep } in
    let there : HasJob with_job.jobs j = (x, last s.jobs x, refl) in
    settled-open T i j (in_turn (request_or_adopt T i j) (children_of s.caps ks) marked)
    (in_turn-keeps IsOpen (request_or_adopt T i j) (λ k t here. request-open T i j k t here) (children_of s.caps ks) marked
    (marked-open with_job ks j there is))
  where
    last : (xs : List JobRow) (x : JobRow) → Contains (xs ++ x ∷ []) x
    last [] x = Contains-head x []
    last (y ∷ ys) x = Contains-tail y (ys ++ x ∷ []) x (last ys x)

-- a job more, from a side where all is well but for a VPE that will wait for it
pub opened-open : (s : Side) (root : KeyName) (up : Option Up) (waiters : List ℕ) (keep : Bool) → IsOpen s → IsOpen (job_opened root up waiters keep s)
opened-open s root up waiters keep is = record {
  awaited = λ v j at. let there = is.awaited v j at in (there.0, before s.jobs there.0 there.1, there.2, there.3);
  marked = λ c among j at. let there = is.marked c among j at in (there.0, before s.jobs there.0 there.1, there.2);
  ids = ids.keeps_opened s is.ids root up waiters keep;
}
  where
    before : (xs : List JobRow) (y : JobRow) → Contains xs y →
        Contains (xs ++ record { id = s.next_job; root = root; up = up; waiters = waiters; count = 0; keep = keep } ∷ []) y
    before xs y among = Contains-append_left xs (record { id = s.next_job; root = root; up = up; waiters = waiters; count = 0; keep = keep } ∷ []) y among
